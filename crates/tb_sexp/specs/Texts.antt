-- Texts, the data that they spell, and what is refused first in a text that spells none.
use Rattle.std.specs.Prelude.{ℕ, ◌≡◌, Bool, true, List, [], ◌∷◌, ◌++◌}
use Rattle.tb_prim.specs.declared.place.Place.{Place}
use Rattle.tb_sexp.specs.declared.token.Token.{Token}
use Rattle.tb_sexp.specs.declared.token.Token.TheVariants as token
use Rattle.tb_sexp.specs.declared.token.Mark.{Mark}
use Rattle.tb_sexp.specs.declared.token.Fault.{Fault}
use Rattle.tb_sexp.specs.declared.refusal.ReadRefusal.{ReadRefusal}
use Rattle.tb_sexp.specs.declared.refusal.ReadRefusal.TheVariants as refusal
use Rattle.tb_sexp.specs.Blanks.{Blank, BlankEnd, IsNoBlank}
use Rattle.tb_sexp.specs.Grammar.{Placed, placed, AreData, CanGoOn, CanGoOnSomehow, OpenedLast, EndsWith}
use Rattle.tb_sexp.specs.Places.{text_start, behind_all}
use Rattle.tb_sexp.specs.Faults.{refusal_of}
use Rattle.tb_sexp.specs.Tokens.{Spells, EndsAt, Faulty}
use Rattle.tb_sexp.specs.Tree.{Tree}

-- at most so many lists, vectors and marks are open at once
abbrev pub levels : ℕ
levels = 256

-- a text from a place on begins with these tokens, each with its place and with blanks before it; behind them
-- stand, from a place on, the bytes that are left
pub data Begins : Place → List ℕ → List Placed → Place → List ℕ → Type 0 where
  no_tokens : {p : Place} {bs : List ℕ} → Begins p bs [] p bs
  one_token : {p q : Place} {ts : List Placed} {left : List ℕ} (front word rest : List ℕ) (t : Token) → Blank front → Spells word t → EndsAt t rest →
      Begins (behind_all p (front ++ word)) rest ts q left →
      Begins p (front ++ (word ++ rest)) (placed (behind_all p front) t ∷ ts) q left

-- a whole text is these tokens, with nothing but blanks behind them
pub record HasTokens (library : Bool) (text : List ℕ) (ts : List Placed) : Type 0 where
  pub place : Place
  pub left : List ℕ
  pub begins : Begins (text_start library) text ts place left
  pub ends : BlankEnd left

-- a whole text spells these data
pub record IsText (library : Bool) (text : List ℕ) (ds : List Tree) : Type 0 where
  pub tokens : List Placed
  pub read : HasTokens library text tokens
  pub spelled : AreData levels tokens ds

-- a text begins with these tokens, which can go on to data; behind them, and behind blanks, stands at a place a
-- byte that is no blank, and then the rest
pub record StandsBefore (library : Bool) (text : List ℕ) (ts : List Placed) (p : Place) (byte : ℕ) (rest : List ℕ) : Type 0 where
  pub from : Place
  pub blanks : List ℕ
  pub begins : Begins (text_start library) text ts from (blanks ++ byte ∷ rest)
  pub blank : Blank blanks
  pub no_blank : IsNoBlank byte
  pub place : p ≡ behind_all from blanks
  pub good : CanGoOn levels ts

-- there stands a token, and then the rest
pub record NextToken (library : Bool) (text : List ℕ) (ts : List Placed) (p : Place) (t : Token) (rest : List ℕ) : Type 0 where
  pub byte : ℕ
  pub others : List ℕ
  pub word : List ℕ
  pub stands : StandsBefore library text ts p byte others
  pub cut : byte ∷ others ≡ word ++ rest
  pub spelled : Spells word t
  pub ended : EndsAt t rest

-- a datum can stand at the place, behind these tokens
abbrev pub TakesDatum : List Placed → Place → Type 0
TakesDatum ts p = CanGoOn levels (ts ++ placed p (token.Bool true) ∷ [])

-- a mark with nothing but blanks behind it
pub data IsMarkAlone : Token → List ℕ → Type 0 where
  mark_alone : {m : Mark} {rest : List ℕ} → BlankEnd rest → IsMarkAlone (token.Mark m) rest

-- the last of the tokens is a mark
abbrev pub EndsInMark : List Placed → Type 0
EndsInMark ts = (q : Place) × (m : Mark) × EndsWith ts (placed q (token.Mark m))

-- the first refusal of a whole text
pub data IsRefused (library : Bool) (text : List ℕ) : ReadRefusal → Type 0 where
  -- a token that cannot continue the text, however many levels there were
  no_front : (ts : List Placed) (p : Place) (t : Token) (rest : List ℕ) → NextToken library text ts p t rest →
      (CanGoOnSomehow (ts ++ placed p t ∷ []) → ⊥) → IsRefused library text (refusal.Syntax p)
  -- a mark that nothing follows
  a_mark_alone : (ts : List Placed) (p : Place) (t : Token) (rest : List ℕ) → NextToken library text ts p t rest →
      CanGoOnSomehow (ts ++ placed p t ∷ []) → IsMarkAlone t rest → IsRefused library text (refusal.Syntax p)
  -- a list, vector or mark that needs a level more
  too_deep : (ts : List Placed) (p : Place) (t : Token) (rest : List ℕ) → NextToken library text ts p t rest →
      CanGoOnSomehow (ts ++ placed p t ∷ []) → (IsMarkAlone t rest → ⊥) → (CanGoOn levels (ts ++ placed p t ∷ []) → ⊥) → IsRefused library text (refusal.TooDeep p)
  -- bytes that begin no token, where a datum could stand
  faulty : (ts : List Placed) (p : Place) (byte : ℕ) (rest : List ℕ) (f : Fault) → StandsBefore library text ts p byte rest →
      Faulty (byte ∷ rest) f → TakesDatum ts p → IsRefused library text (refusal_of f p (byte ∷ rest))
  -- and where none could
  out_of_place : (ts : List Placed) (p : Place) (byte : ℕ) (rest : List ℕ) (f : Fault) → StandsBefore library text ts p byte rest →
      Faulty (byte ∷ rest) f → (TakesDatum ts p → ⊥) → IsRefused library text (refusal.Syntax p)
  -- the end of the text, where a list or a vector is open and no mark is the last token
  unclosed : (ts : List Placed) (p : Place) → HasTokens library text ts → CanGoOn levels ts → OpenedLast ts p → (EndsInMark ts → ⊥) →
      IsRefused library text (refusal.Unclosed p)

-- what a call refuses is the first refusal of the text, unless memory ran out
abbrev pub RefusedAs : Bool → List ℕ → ReadRefusal → Type 0
RefusedAs library text (refusal.Syntax p) = IsRefused library text (refusal.Syntax p)
RefusedAs library text (refusal.Unclosed p) = IsRefused library text (refusal.Unclosed p)
RefusedAs library text (refusal.TooDeep p) = IsRefused library text (refusal.TooDeep p)
RefusedAs library text (refusal.TooLong p) = IsRefused library text (refusal.TooLong p)
RefusedAs library text (refusal.TooBig p) = IsRefused library text (refusal.TooBig p)
RefusedAs library text refusal.NoMemory = Unit {0}
