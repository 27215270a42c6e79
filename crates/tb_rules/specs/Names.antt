-- Names in rules: the ellipsis, the literals, and the variables of a pattern.
use Rattle.std.specs.Prelude.{ℕ, ◌==◌, ◌&&◌, ◌||◌, Bool, true, false, not, List, [], ◌∷◌, codes, bytes_eq}
use Rattle.tb_sexp.specs.Tree.{Tree, At, Shape, Nil, Truth, Fixnum, Character, String, Name, Proper, Dotted, Vector, Trees, none, more}

-- two names are the same, alias and all
unfoldable pub same_name : List ℕ → ℕ → List ℕ → ℕ → Bool
same_name s a t b = bytes_eq s t && (a == b)

-- the name `...`, whatever its alias
unfoldable pub is_dots : List ℕ → Bool
is_dots s = bytes_eq s (codes "...")

-- whether a datum is a name
abbrev pub is_name_shape : Shape → Bool
is_name_shape Nil = false
is_name_shape (Truth b) = false
is_name_shape (Fixnum n) = false
is_name_shape (Character c) = false
is_name_shape (String s) = false
is_name_shape (Name s a) = true
is_name_shape (Proper ds) = false
is_name_shape (Dotted ds d) = false
is_name_shape (Vector ds) = false

abbrev pub is_name : Tree → Bool
is_name (At p s) = is_name_shape s

-- data that are all names
abbrev pub are_names : Trees → Bool
are_names none = true
are_names (more d ds) = is_name d && are_names ds

-- whether a datum is the ellipsis
abbrev pub is_ellipsis_shape : Shape → Bool
is_ellipsis_shape Nil = false
is_ellipsis_shape (Truth b) = false
is_ellipsis_shape (Fixnum n) = false
is_ellipsis_shape (Character c) = false
is_ellipsis_shape (String s) = false
is_ellipsis_shape (Name s a) = is_dots s
is_ellipsis_shape (Proper ds) = false
is_ellipsis_shape (Dotted ds d) = false
is_ellipsis_shape (Vector ds) = false

abbrev pub is_ellipsis : Tree → Bool
is_ellipsis (At p s) = is_ellipsis_shape s

-- whether data begin with the ellipsis
abbrev pub begin_with_ellipsis : Trees → Bool
begin_with_ellipsis none = false
begin_with_ellipsis (more d ds) = is_ellipsis d

-- whether a datum is this name
abbrev pub is_this_shape : List ℕ → ℕ → Shape → Bool
is_this_shape s a Nil = false
is_this_shape s a (Truth b) = false
is_this_shape s a (Fixnum n) = false
is_this_shape s a (Character c) = false
is_this_shape s a (String t) = false
is_this_shape s a (Name t b) = same_name s a t b
is_this_shape s a (Proper ds) = false
is_this_shape s a (Dotted ds d) = false
is_this_shape s a (Vector ds) = false

abbrev pub is_this : List ℕ → ℕ → Tree → Bool
is_this s a (At p t) = is_this_shape s a t

-- whether a name is one of the literals
abbrev pub is_literal : Trees → List ℕ → ℕ → Bool
is_literal none s a = false
is_literal (more d ds) s a = is_this s a d || is_literal ds s a

-- a variable of a pattern: its name, and how many ellipses it stands under
pub record Variable : Type 0 where
  pub text : List ℕ
  pub alias : ℕ
  pub depth : ℕ

abbrev pub is_named : List ℕ → ℕ → Variable → Bool
is_named s a v = same_name s a v.text v.alias

-- whether one of the variables has this name
abbrev pub has_variable : List Variable → List ℕ → ℕ → Bool
has_variable [] s a = false
has_variable (v ∷ vs) s a = is_named s a v || has_variable vs s a

-- no name stands twice
abbrev pub are_apart : List Variable → Bool
are_apart [] = true
are_apart (v ∷ vs) = not (has_variable vs v.text v.alias) && are_apart vs
