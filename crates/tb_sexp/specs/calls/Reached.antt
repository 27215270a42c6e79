-- The state that reading comes to, told by the tokens so far.
use Rattle.std.specs.Prelude.{ℕ, ◌≡◌, List, [], ◌∷◌, ◌++◌, length, Ok}
use Rattle.tb_prim.specs.declared.place.Place.{Place}
use Rattle.tb_sexp.specs.declared.token.Mark.{Mark}
use Rattle.tb_sexp.specs.declared.token.Token.{Token}
use Rattle.tb_sexp.specs.declared.token.Token.TheVariants as token
use Rattle.tb_sexp.specs.calls.Frames.{Frame, InList, AfterDot, AfterTail, InVector, State}
use Rattle.tb_sexp.specs.calls.Reading.{accept}
use Rattle.tb_sexp.specs.calls.Runs.{nothing}
use Rattle.tb_sexp.specs.calls.Scanning.{blanks}
use Rattle.tb_sexp.specs.Grammar.{Placed, placed}
use Rattle.tb_sexp.specs.Tree.{Tree}

-- reading comes to the state behind the tokens, whatever texts they stand in
pub data Reaches : List Placed → State → Type 0 where
  start : Reaches [] nothing
  one_more : {ts : List Placed} {s s' : State} (p : Place) (t : Token) (rest : List ℕ) → Reaches ts s → accept s p t rest ≡ Ok s' → Reaches (ts ++ placed p t ∷ []) s'

-- a list or a vector that is not closed, which begins at the place
pub data IsOpenAt : Frame → Place → Type 0 where
  in_list : {p : Place} {ds : List Tree} → IsOpenAt (InList p ds) p
  after_dot : {p : Place} {ds : List Tree} → IsOpenAt (AfterDot p ds) p
  after_tail : {p : Place} {ds : List Tree} {d : Tree} → IsOpenAt (AfterTail p ds d) p
  in_vector : {p : Place} {ds : List Tree} → IsOpenAt (InVector p ds) p

-- a mark where 256 are open already, and only whitespace and comments follow
pub record IsLastMark (s : State) (t : Token) (rest : List ℕ) : Type 0 where
  pub mark : (m : Mark) × (t ≡ token.Mark m)
  pub full : length s.frames ≡ 256
  pub last : blanks rest ≡ length rest
