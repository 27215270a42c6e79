-- The data that reading gives, data apart from their places, and texts that spell a datum again.
use Rattle.std.specs.Prelude.{ℕ, ℤ, suc, ◌≡◌, ◌<◌, ◌≤◌, Bool, true, false, List, [], ◌∷◌, length}
use Rattle.std.specs.List.{AllByRecursion}
use Rattle.tb_prim.specs.declared.place.Place.{Place}
use Rattle.tb_prim.specs.Fixnums.{is_fixnum}
use Rattle.tb_sexp.specs.Bytes.{is_identifier, folded}
use Rattle.tb_sexp.specs.DatumRules.{is_list}
use Rattle.tb_sexp.specs.Places.{text_start}
use Rattle.tb_sexp.specs.Texts.{IsText}
use Rattle.tb_sexp.specs.Tree.{Tree, At, Shape, Nil, Truth, Fixnum, Character, String, Name, Proper, Dotted, Vector, Trees, none, more}

-- numbers that are bytes
abbrev pub AreBytes : List ℕ → Type 0
AreBytes bs = AllByRecursion (λ b. b < 256) bs

-- an identifier of at most 255 bytes, without upper case
pub record IsReadName (s : List ℕ) : Type 0 where
  pub identifier : is_identifier s ≡ true
  pub short : length s ≤ 255
  pub lower : folded s ≡ s

mutual
  -- data that reading gives, in which at most `n` lists and vectors stand inside one another
  pub data IsRead : ℕ → Tree → Type 0 where
    read_nil : {n : ℕ} {p : Place} → IsRead (suc n) (At p Nil)
    read_truth : {n : ℕ} {p : Place} {b : Bool} → IsRead n (At p (Truth b))
    read_fixnum : {n : ℕ} {p : Place} {z : ℤ} → is_fixnum z ≡ true → IsRead n (At p (Fixnum z))
    read_character : {n : ℕ} {p : Place} {c : ℕ} → c < 256 → IsRead n (At p (Character c))
    read_string : {n : ℕ} {p : Place} {s : List ℕ} → AreBytes s → length s ≤ 65535 → IsRead n (At p (String s))
    read_name : {n : ℕ} {p : Place} {s : List ℕ} → IsReadName s → IsRead n (At p (Name s 0))
    read_list : {n : ℕ} {p : Place} {d : Tree} {ds : Trees} → AreRead n (more d ds) → IsRead (suc n) (At p (Proper (more d ds)))
    read_dotted : {n : ℕ} {p q : Place} {d : Tree} {ds : Trees} {s : Shape} → AreRead n (more d ds) → IsRead n (At q s) → is_list s ≡ false →
        IsRead (suc n) (At p (Dotted (more d ds) (At q s)))
    read_vector : {n : ℕ} {p : Place} {ds : Trees} → AreRead n ds → IsRead (suc n) (At p (Vector ds))

  -- the same of a list of data
  pub data AreRead : ℕ → Trees → Type 0 where
    no_read : {n : ℕ} → AreRead n none
    more_read : {n : ℕ} {d : Tree} {ds : Trees} → IsRead n d → AreRead n ds → AreRead n (more d ds)

-- a datum with each place in it put to the start of a text
abbrev mutual
  pub unplaced : Tree → Tree
  unplaced (At p s) = At (text_start false) (unplaced_shape s)

  pub unplaced_shape : Shape → Shape
  unplaced_shape Nil = Nil
  unplaced_shape (Truth b) = Truth b
  unplaced_shape (Fixnum n) = Fixnum n
  unplaced_shape (Character c) = Character c
  unplaced_shape (String s) = String s
  unplaced_shape (Name s alias) = Name s alias
  unplaced_shape (Proper ds) = Proper (unplaced_all ds)
  unplaced_shape (Dotted ds d) = Dotted (unplaced_all ds) (unplaced d)
  unplaced_shape (Vector ds) = Vector (unplaced_all ds)

  pub unplaced_all : Trees → Trees
  unplaced_all none = none
  unplaced_all (more d ds) = more (unplaced d) (unplaced_all ds)

-- data that differ in places alone
abbrev pub SameData : Tree → Tree → Type 0
SameData d e = unplaced d ≡ unplaced e

-- a whole text spells one datum, the same as this one
abbrev pub ReadsBack : Bool → List ℕ → Tree → Type 0
ReadsBack library text d = (e : Tree) × IsText library text (e ∷ []) × SameData e d
