-- What data a row of tokens spells, and which rows are fronts of rows that spell data.
use Rattle.std.specs.Prelude.{ℕ, ◌≡◌, ◌≢◌, ℤ, suc, Bool, true, false, List, [], ◌∷◌, ◌++◌}
use Rattle.tb_prim.specs.declared.place.Place.{Place}
use Rattle.tb_sexp.specs.declared.token.Mark.{Mark}
use Rattle.tb_sexp.specs.declared.token.Token.{Token}
use Rattle.tb_sexp.specs.declared.token.Token.TheVariants as token
use Rattle.tb_sexp.specs.ListShapes.{list_of, dotted, marked}
use Rattle.tb_sexp.specs.Tree.{Tree, At, Shape, Truth, Fixnum, Character, String, Name, Vector}
use Rattle.tb_sexp.specs.View.{trees}

-- a token and where it begins
pub record Placed : Type 0 where
  pub place : Place
  pub token : Token

abbrev pub placed : Place → Token → Placed
placed p t = record { place = p; token = t }

-- a token that is a datum by itself
pub data Atom : Token → Shape → Type 0 where
  of_bool : {b : Bool} → Atom (token.Bool b) (Truth b)
  of_fix : {n : ℤ} → Atom (token.Fix n) (Fixnum n)
  of_char : {c : ℕ} → Atom (token.Char c) (Character c)
  of_str : {text : List ℕ} → Atom (token.Str text) (String text)
  of_name : {text : List ℕ} → Atom (token.Name text) (Name text 0)

mutual
  -- the tokens spell the datum, where at most `n` lists, vectors and marks stand inside one another
  pub data IsDatum : ℕ → List Placed → Tree → Type 0 where
    an_atom : {n : ℕ} {p : Place} {t : Token} {s : Shape} → Atom t s → IsDatum n (placed p t ∷ []) (At p s)
    a_mark : {n : ℕ} {p : Place} {m : Mark} {ts : List Placed} {d : Tree} → IsDatum n ts d → IsDatum (suc n) (placed p (token.Mark m) ∷ ts) (marked p m d)
    a_list : {n : ℕ} {p : Place} {ts : List Placed} {ds : List Tree} (q : Place) → AreData n ts ds → IsDatum (suc n) (placed p token.Open ∷ (ts ++ placed q token.Close ∷ [])) (At p (list_of ds))
    a_dotted_list : {n : ℕ} {p : Place} {ts us : List Placed} {ds : List Tree} {d : Tree} (q r : Place) → AreData n ts ds → ds ≢ [] → IsDatum n us d →
        IsDatum (suc n) (placed p token.Open ∷ (ts ++ placed q token.Dot ∷ (us ++ placed r token.Close ∷ []))) (At p (dotted ds d))
    a_vector : {n : ℕ} {p : Place} {ts : List Placed} {ds : List Tree} (q : Place) → AreData n ts ds → IsDatum (suc n) (placed p token.OpenVector ∷ (ts ++ placed q token.Close ∷ [])) (At p (Vector (trees ds)))

  -- the tokens spell the data, one after another
  pub data AreData : ℕ → List Placed → List Tree → Type 0 where
    no_data : {n : ℕ} → AreData n [] []
    more_data : {n : ℕ} {ts us : List Placed} {d : Tree} {ds : List Tree} → IsDatum n ts d → AreData n us ds → AreData n (ts ++ us) (d ∷ ds)

-- a row of tokens can go on so that it spells data
pub record CanGoOn (n : ℕ) (ts : List Placed) : Type 0 where
  pub rest : List Placed
  pub elements : List Tree
  pub spelled : AreData n (ts ++ rest) elements

-- the same, however deep the data are
abbrev pub CanGoOnSomehow : List Placed → Type 0
CanGoOnSomehow ts = (n : ℕ) × CanGoOn n ts

-- the tokens that begin a list or a vector
abbrev pub is_opening : Token → Bool
is_opening token.Open = true
is_opening token.OpenVector = true
is_opening token.Close = false
is_opening (token.Mark m) = false
is_opening token.Dot = false
is_opening (token.Bool b) = false
is_opening (token.Fix n) = false
is_opening (token.Char c) = false
is_opening (token.Str text) = false
is_opening (token.Name text) = false

abbrev pub is_bracket : Token → Bool
is_bracket token.Open = true
is_bracket token.OpenVector = true
is_bracket token.Close = true
is_bracket (token.Mark m) = false
is_bracket token.Dot = false
is_bracket (token.Bool b) = false
is_bracket (token.Fix n) = false
is_bracket (token.Char c) = false
is_bracket (token.Str text) = false
is_bracket (token.Name text) = false

-- each bracket that opens is closed, and no other bracket closes
pub data Balanced : List Placed → Type 0 where
  no_bracket : Balanced []
  other_token : {p : Place} {t : Token} {ts : List Placed} → is_bracket t ≡ false → Balanced ts → Balanced (placed p t ∷ ts)
  closed : {p : Place} {t : Token} {ts us : List Placed} (q : Place) → is_opening t ≡ true → Balanced ts → Balanced us → Balanced (placed p t ∷ (ts ++ placed q token.Close ∷ us))

-- the list or vector that was opened last, of those that are not closed, begins at the place
pub record OpenedLast (ts : List Placed) (q : Place) : Type 0 where
  pub front : List Placed
  pub opening : Token
  pub inside : List Placed
  pub is : ts ≡ front ++ placed q opening ∷ inside
  pub opens : is_opening opening ≡ true
  pub balanced : Balanced inside

-- the last token is this one
pub record EndsWith (ts : List Placed) (x : Placed) : Type 0 where
  pub front : List Placed
  pub is : ts ≡ front ++ x ∷ []
