-- What every datum keeps, whether it was read or made: what its numbers, names and lists hold, and how deep it nests.
use Rattle.std.specs.Prelude.{◌≡◌, ◌≤◌, ℕ, suc, ℤ, max, Bool, true, false, List, length}
use Rattle.tb_prim.specs.declared.place.Place.{Place}
use Rattle.tb_prim.specs.Fixnums.{is_fixnum}
use Rattle.tb_sexp.specs.Tree.{Tree, At, Shape, Nil, Truth, Fixnum, Character, String, Name, Proper, Dotted, Vector, Trees, none, more}

-- a list, dotted or not, or the empty list
abbrev pub is_list : Shape → Bool
is_list Nil = true
is_list (Truth b) = false
is_list (Fixnum n) = false
is_list (Character c) = false
is_list (String s) = false
is_list (Name s alias) = false
is_list (Proper ds) = true
is_list (Dotted ds d) = true
is_list (Vector ds) = false

mutual
  -- a number is a fixnum, a name has 1 to 255 bytes, a list has an element, and its tail is neither a list nor empty
  pub data IsLawful : Tree → Type 0 where
    lawful_nil : {p : Place} → IsLawful (At p Nil)
    lawful_truth : {p : Place} {b : Bool} → IsLawful (At p (Truth b))
    lawful_fixnum : {p : Place} {z : ℤ} → is_fixnum z ≡ true → IsLawful (At p (Fixnum z))
    lawful_character : {p : Place} {c : ℕ} → IsLawful (At p (Character c))
    lawful_string : {p : Place} {s : List ℕ} → IsLawful (At p (String s))
    lawful_name : {p : Place} {s : List ℕ} {alias : ℕ} → 1 ≤ length s → length s ≤ 255 →
        IsLawful (At p (Name s alias))
    lawful_list : {p : Place} {d : Tree} {ds : Trees} → AreLawful (more d ds) → IsLawful (At p (Proper (more d ds)))
    lawful_dotted : {p q : Place} {d : Tree} {ds : Trees} {s : Shape} → AreLawful (more d ds) → IsLawful (At q s) →
        is_list s ≡ false →
        IsLawful (At p (Dotted (more d ds) (At q s)))
    lawful_vector : {p : Place} {ds : Trees} → AreLawful ds → IsLawful (At p (Vector ds))

  -- the same of a list of data
  pub data AreLawful : Trees → Type 0 where
    none_lawful : AreLawful none
    more_lawful : {d : Tree} {ds : Trees} → IsLawful d → AreLawful ds → AreLawful (more d ds)

-- how deep a datum nests: 1 for the empty list, one more than the deepest of its parts for a list or a vector, and 0
-- for any other
abbrev mutual
  pub nesting : Tree → ℕ
  nesting (At p s) = shape_nesting s

  pub shape_nesting : Shape → ℕ
  shape_nesting Nil = 1
  shape_nesting (Truth b) = 0
  shape_nesting (Fixnum n) = 0
  shape_nesting (Character c) = 0
  shape_nesting (String s) = 0
  shape_nesting (Name s alias) = 0
  shape_nesting (Proper ds) = suc (greatest_nesting ds)
  shape_nesting (Dotted ds d) = suc (max (greatest_nesting ds) (nesting d))
  shape_nesting (Vector ds) = suc (greatest_nesting ds)

  pub greatest_nesting : Trees → ℕ
  greatest_nesting none = 0
  greatest_nesting (more d ds) = max (nesting d) (greatest_nesting ds)

-- the names in a datum are as written: none has an alias
abbrev mutual
  pub IsUnaliased : Tree → Type 0
  IsUnaliased (At p s) = IsShapeUnaliased s

  pub IsShapeUnaliased : Shape → Type 0
  IsShapeUnaliased Nil = Unit {0}
  IsShapeUnaliased (Truth b) = Unit {0}
  IsShapeUnaliased (Fixnum n) = Unit {0}
  IsShapeUnaliased (Character c) = Unit {0}
  IsShapeUnaliased (String s) = Unit {0}
  IsShapeUnaliased (Name s alias) = alias ≡ 0
  IsShapeUnaliased (Proper ds) = AllUnaliased ds
  IsShapeUnaliased (Dotted ds d) = AllUnaliased ds × IsUnaliased d
  IsShapeUnaliased (Vector ds) = AllUnaliased ds

  pub AllUnaliased : Trees → Type 0
  AllUnaliased none = Unit {0}
  AllUnaliased (more d ds) = IsUnaliased d × AllUnaliased ds

-- a datum as an expander may be given: it keeps the rules, its names are as written, and it nests so deep at most
pub record IsPlainDatum (levels : ℕ) (d : Tree) : Type 0 where
  pub rules : IsLawful d
  pub unaliased : IsUnaliased d
  pub nests : nesting d ≤ levels
