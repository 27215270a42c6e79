-- When a datum matches a pattern, and the parts that the variables of the pattern get (R5RS 4.3.2). `same` says
-- whether a literal and a name in the datum have one binding.
use Rattle.std.specs.Prelude.{ℕ, ◌+◌, ℤ, ◌==◌, ◌&&◌, Bool, true, false, cond, bytes_eq, List, [], ◌∷◌, Option, Some, None}
use Rattle.std.specs.Ordering.{int_eq}
use Rattle.tb_prim.specs.declared.place.Place.{Place}
use Rattle.tb_sexp.specs.Tree.{Tree, At, Shape, Nil, Truth, Fixnum, Character, String, Name, Proper, Dotted, Vector, Trees, none, more}
use Rattle.tb_rules.specs.Names.{is_name, begin_with_ellipsis, is_literal}
use Rattle.tb_rules.specs.Rules.{Rule, Rest, elements_of}
use Rattle.tb_rules.specs.Patterns.{is_none, rest_of, variables_in}
use Rattle.tb_rules.specs.Parts.{One, Parts, nothing, part, joined, no_parts, put_in_front}

abbrev pub place_of : Tree → Place
place_of (At p s) = p

-- what is left of a list that stands at a place, as one datum: it has the place of its first element; where nothing
-- is left, the empty list has the place of the list
abbrev pub left : Place → Trees → Option Tree → Tree
left q none None = At q Nil
left q none (Some e) = e
left q (more d ds) None = At (place_of d) (Proper (more d ds))
left q (more d ds) (Some e) = At (place_of d) (Dotted (more d ds) e)

-- the elements of a list, and the tail of a dotted one
abbrev pub whole_at : Shape → Option Rest
whole_at Nil = Some (record { elements = none; tail = None })
whole_at (Truth b) = None
whole_at (Fixnum n) = None
whole_at (Character c) = None
whole_at (String s) = None
whole_at (Name s a) = None
whole_at (Proper ds) = Some (record { elements = ds; tail = None })
whole_at (Dotted ds d) = Some (record { elements = ds; tail = Some d })
whole_at (Vector ds) = None

abbrev pub whole_of : Tree → Option Rest
whole_of (At p s) = whole_at s

-- no parts, where this holds
abbrev pub when : Bool → Option Parts
when true = Some nothing
when false = None

abbrev pub and_then : {A : Type 0} → Option A → (A → Option Parts) → Option Parts
and_then None f = None
and_then (Some x) f = f x

-- with the first element and the others, where there is one
abbrev pub and_first : Trees → (Tree → Trees → Option Parts) → Option Parts
and_first none f = None
and_first (more d ds) f = f d ds

-- one after the other, where both match
abbrev pub both : (Parts → Parts → Parts) → Option Parts → Option Parts → Option Parts
both f None y = None
both f (Some xs) None = None
both f (Some xs) (Some ys) = Some (f xs ys)

-- each datum matches; a variable gets the list of its parts
abbrev pub each : (Tree → Option Parts) → Parts → Trees → Option Parts
each f empty none = Some empty
each f empty (more d ds) = both put_in_front (f d) (each f empty ds)

-- whether a datum is the empty list
abbrev pub is_nil : Shape → Bool
is_nil Nil = true
is_nil (Truth c) = false
is_nil (Fixnum c) = false
is_nil (Character c) = false
is_nil (String c) = false
is_nil (Name c a) = false
is_nil (Proper ds) = false
is_nil (Dotted ds d) = false
is_nil (Vector ds) = false

abbrev pub same_truth : Bool → Bool → Bool
same_truth true b = b
same_truth false true = false
same_truth false false = true

-- whether a datum is this truth value
abbrev pub is_truth : Bool → Shape → Bool
is_truth x Nil = false
is_truth x (Truth c) = same_truth x c
is_truth x (Fixnum c) = false
is_truth x (Character c) = false
is_truth x (String c) = false
is_truth x (Name c a) = false
is_truth x (Proper ds) = false
is_truth x (Dotted ds d) = false
is_truth x (Vector ds) = false

-- whether a datum is this number
abbrev pub is_fixnum : ℤ → Shape → Bool
is_fixnum x Nil = false
is_fixnum x (Truth c) = false
is_fixnum x (Fixnum c) = int_eq x c
is_fixnum x (Character c) = false
is_fixnum x (String c) = false
is_fixnum x (Name c a) = false
is_fixnum x (Proper ds) = false
is_fixnum x (Dotted ds d) = false
is_fixnum x (Vector ds) = false

-- whether a datum is this character
abbrev pub is_character : ℕ → Shape → Bool
is_character x Nil = false
is_character x (Truth c) = false
is_character x (Fixnum c) = false
is_character x (Character c) = x == c
is_character x (String c) = false
is_character x (Name c a) = false
is_character x (Proper ds) = false
is_character x (Dotted ds d) = false
is_character x (Vector ds) = false

-- whether a datum is this string
abbrev pub is_string : List ℕ → Shape → Bool
is_string x Nil = false
is_string x (Truth c) = false
is_string x (Fixnum c) = false
is_string x (Character c) = false
is_string x (String c) = bytes_eq x c
is_string x (Name c a) = false
is_string x (Proper ds) = false
is_string x (Dotted ds d) = false
is_string x (Vector ds) = false

abbrev pub shape_of : Tree → Shape
shape_of (At p s) = s

abbrev pub place_and_rest : Tree → (Place → Rest → Option Parts) → Option Parts
place_and_rest (At q s) f = and_then (whole_at s) (f q)

abbrev mutual
  pub matched : (Tree → Tree → Bool) → Trees → Tree → Tree → Option Parts
  matched same ls (At p s) d = shape_matched same ls p s d

  pub shape_matched : (Tree → Tree → Bool) → Trees → Place → Shape → Tree → Option Parts
  shape_matched same ls p Nil d = when (is_nil (shape_of d))
  shape_matched same ls p (Truth b) d = when (is_truth b (shape_of d))
  shape_matched same ls p (Fixnum z) d = when (is_fixnum z (shape_of d))
  shape_matched same ls p (Character c) d = when (is_character c (shape_of d))
  shape_matched same ls p (String t) d = when (is_string t (shape_of d))
  -- a literal matches a name with the same binding; any other name is a variable, which is bound to the datum
  shape_matched same ls p (Name t a) d =
      cond (is_literal ls t a) (when (is_name d && same (At p (Name t a)) d)) (Some (part (One d) nothing))
  -- a list matches element by element
  shape_matched same ls p (Proper ps) d = and_then (elements_of d) (λ ds. all_matched same ls ps ds)
  -- so does a dotted list, whose tail takes what is left
  shape_matched same ls p (Dotted ps t) d =
      place_and_rest d (λ q r. front_matched same ls ps (λ e. matched same ls t e) q r.elements r.tail)
  shape_matched same ls p (Vector ps) d = None

  -- the elements of a list; each from the last pattern on, where that has an ellipsis
  pub all_matched : (Tree → Tree → Bool) → Trees → Trees → Trees → Option Parts
  all_matched same ls none ds = when (is_none ds)
  all_matched same ls (more p ps) ds = cond (begin_with_ellipsis ps)
      (each (λ d. matched same ls p d) (no_parts (variables_in ls 0 p)) ds)
      (and_first ds (λ d es. both joined (matched same ls p d) (all_matched same ls ps es)))

  -- the first elements of a list, and then what is left
  pub front_matched : (Tree → Tree → Bool) → Trees → Trees → (Tree → Option Parts) → Place → Trees → Option Tree → Option Parts
  front_matched same ls none tail q ds o = tail (left q ds o)
  front_matched same ls (more p ps) tail q ds o =
      and_first ds (λ d es. both joined (matched same ls p d) (front_matched same ls ps tail q es o))

-- what stands behind the first name of a pattern matches what stands behind the first element of a use
abbrev pub rest_matched : (Tree → Tree → Bool) → Trees → Trees → Option Tree → Place → Trees → Option Tree → Option Parts
rest_matched same ls ps None q ds None = all_matched same ls ps ds
rest_matched same ls ps None q ds (Some e) = None
rest_matched same ls ps (Some t) q ds o = front_matched same ls ps (λ e. matched same ls t e) q ds o

-- the first element of the use is not looked at
abbrev pub use_matched : (Tree → Tree → Bool) → Trees → Rest → Tree → Option Parts
use_matched same ls r d = place_and_rest d
    (λ q w. and_first w.elements (λ h ds. rest_matched same ls r.elements r.tail q ds w.tail))

abbrev pub rule_matched : (Tree → Tree → Bool) → Trees → Rule → Tree → Option Parts
rule_matched same ls r d = and_then (rest_of r.pattern) (λ p. use_matched same ls p d)

-- a rule by its number, and the parts
pub record Bound : Type 0 where
  pub rule : ℕ
  pub parts : Parts

abbrev pub or_next : ℕ → Option Parts → Option Bound → Option Bound
or_next n (Some xs) o = Some (record { rule = n; parts = xs })
or_next n None o = o

-- the first rule that matches, numbered from `n` on
abbrev pub first_match : (Tree → Tree → Bool) → Trees → ℕ → List Rule → Tree → Option Bound
first_match same ls n [] d = None
first_match same ls n (r ∷ rs) d = or_next n (rule_matched same ls r d) (first_match same ls (n + 1) rs d)
