-- Patterns: an ellipsis stands after the last pattern of a list alone; and the variables in a pattern, in their order.
use Rattle.std.specs.Prelude.{ℕ, suc, ◌+◌, ◌&&◌, ◌||◌, Bool, true, false, not, cond, List, [], ◌∷◌, ◌++◌, Option, Some, None}
use Rattle.tb_sexp.specs.Tree.{Tree, At, Shape, Nil, Truth, Fixnum, Character, String, Name, Proper, Dotted, Vector, Trees, none, more}
use Rattle.tb_rules.specs.Names.{is_dots, is_name, is_ellipsis, begin_with_ellipsis, is_literal, Variable}
use Rattle.tb_rules.specs.Rules.{Rest}

abbrev pub is_none : Trees → Bool
is_none none = true
is_none (more d ds) = false

abbrev mutual
  pub is_pattern : Tree → Bool
  is_pattern (At p s) = is_pattern_shape s

  pub is_pattern_shape : Shape → Bool
  is_pattern_shape Nil = true
  is_pattern_shape (Truth b) = true
  is_pattern_shape (Fixnum n) = true
  is_pattern_shape (Character c) = true
  is_pattern_shape (String s) = true
  is_pattern_shape (Name s a) = not (is_dots s)
  is_pattern_shape (Proper ds) = are_patterns false ds
  is_pattern_shape (Dotted ds d) = all_patterns ds && is_pattern d
  is_pattern_shape (Vector ds) = true

  -- the elements of a list, or those behind a pattern in it: each is a pattern, but the last one, where a pattern
  -- stands in front of it, may be the ellipsis
  pub are_patterns : Bool → Trees → Bool
  are_patterns behind none = true
  are_patterns behind (more d ds) = (is_pattern d || (behind && (is_none ds && is_ellipsis d))) && are_patterns true ds

  pub all_patterns : Trees → Bool
  all_patterns none = true
  all_patterns (more d ds) = is_pattern d && all_patterns ds

abbrev pub are_rest_patterns : Trees → Option Tree → Bool
are_rest_patterns ds None = are_patterns false ds
are_rest_patterns ds (Some d) = all_patterns ds && is_pattern d

-- the pattern of a rule is a list, dotted or not, that begins with a name
abbrev pub rest_behind : Bool → Trees → Option Tree → Option Rest
rest_behind false ds t = None
rest_behind true ds t = Some (record { elements = ds; tail = t })

abbrev pub rest_in : Trees → Option Tree → Option Rest
rest_in none t = None
rest_in (more d ds) t = rest_behind (is_name d && not (is_ellipsis d)) ds t

abbrev pub rest_at : Shape → Option Rest
rest_at Nil = None
rest_at (Truth b) = None
rest_at (Fixnum n) = None
rest_at (Character c) = None
rest_at (String s) = None
rest_at (Name s a) = None
rest_at (Proper ds) = rest_in ds None
rest_at (Dotted ds d) = rest_in ds (Some d)
rest_at (Vector ds) = None

abbrev pub rest_of : Tree → Option Rest
rest_of (At p s) = rest_at s

-- the ellipses over an element that stands in front of these data, in a list under `n` ellipses
abbrev pub under : ℕ → Trees → ℕ
under n ds = cond (begin_with_ellipsis ds) (n + 1) n

-- a name that is neither the ellipsis nor a literal is a variable
abbrev pub name_variables : Trees → ℕ → List ℕ → ℕ → List Variable
name_variables ls n s a = cond (is_dots s || is_literal ls s a) [] (record { text = s; alias = a; depth = n } ∷ [])

-- the variables of a pattern under `n` ellipses, in the order in which they stand
abbrev mutual
  pub variables_in : Trees → ℕ → Tree → List Variable
  variables_in ls n (At p s) = shape_variables ls n s

  pub shape_variables : Trees → ℕ → Shape → List Variable
  shape_variables ls n Nil = []
  shape_variables ls n (Truth b) = []
  shape_variables ls n (Fixnum z) = []
  shape_variables ls n (Character c) = []
  shape_variables ls n (String s) = []
  shape_variables ls n (Name s a) = name_variables ls n s a
  shape_variables ls n (Proper ds) = list_variables ls n ds
  shape_variables ls n (Dotted ds d) = list_variables ls n ds ++ variables_in ls n d
  shape_variables ls n (Vector ds) = []

  pub list_variables : Trees → ℕ → Trees → List Variable
  list_variables ls n none = []
  list_variables ls n (more d ds) = variables_in ls (under n ds) d ++ list_variables ls n ds

abbrev pub rest_variables : Trees → Trees → Option Tree → List Variable
rest_variables ls ds None = list_variables ls 0 ds
rest_variables ls ds (Some d) = list_variables ls 0 ds ++ variables_in ls 0 d
