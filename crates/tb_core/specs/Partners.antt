-- Two stores of which one takes the other's part: locations have partners, and what stands at partners is alike.
use Rattle.std.specs.Prelude.{◌≡◌, ℕ, ℤ, Bool, IsTrue, ◌==◌, List, [], ◌∷◌}
use Rattle.tb_prim.specs.declared.event.Cause.{Cause}
use Rattle.tb_core.specs.Store.{Value, Fix, Char, Truth, Nil, Unspecified, Undefined, EndObject, At, Object, Pair, Vec, Str, Sym, Content, Holds, Procedure, Other}
use Rattle.tb_core.specs.Effects.{Effect, Gives, Makes, Changes, Puts, Takes, Peeks, Fails, Misused}
use Rattle.tb_core.specs.Lists.{Walked, Elements, TooLong, NoList}

-- a constant is alike to itself alone, and a location to its partners; the mark of a variable without a value is
-- alike to itself where it may stand at all, which U says
pub data AlikeValues (P : ℕ → ℕ → Type 0) (U : Type 0) : Value → Value → Type 0 where
  fix : {n : ℤ} → AlikeValues P U (Fix n) (Fix n)
  char : {c : ℕ} → AlikeValues P U (Char c) (Char c)
  truth : {b : Bool} → AlikeValues P U (Truth b) (Truth b)
  nil : AlikeValues P U Nil Nil
  unspecified : AlikeValues P U Unspecified Unspecified
  undefined : U → AlikeValues P U Undefined Undefined
  end_object : AlikeValues P U EndObject EndObject
  at : {a b : ℕ} → P a b → AlikeValues P U (At a) (At b)

-- element by element
pub data AlikeLists (P : ℕ → ℕ → Type 0) (U : Type 0) : List Value → List Value → Type 0 where
  nothing : AlikeLists P U [] []
  further : {v w : Value} {vs ws : List Value} → AlikeValues P U v w → AlikeLists P U vs ws → AlikeLists P U (v ∷ vs) (w ∷ ws)

pub data AlikeObjects (P : ℕ → ℕ → Type 0) (U : Type 0) : Object → Object → Type 0 where
  pair : {a b c d : Value} → AlikeValues P U a c → AlikeValues P U b d → AlikeObjects P U (Pair a b) (Pair c d)
  vec : {vs ws : List Value} → AlikeLists P U vs ws → AlikeObjects P U (Vec vs) (Vec ws)
  str : {cs : List ℕ} → AlikeObjects P U (Str cs) (Str cs)
  sym : {cs : List ℕ} → AlikeObjects P U (Sym cs) (Sym cs)

pub data AlikeContents (P : ℕ → ℕ → Type 0) (U : Type 0) : Content → Content → Type 0 where
  holds : {o n : Object} → AlikeObjects P U o n → AlikeContents P U (Holds o) (Holds n)
  procedure : AlikeContents P U Procedure Procedure
  other : AlikeContents P U Other Other

pub data AlikeEffects (P : ℕ → ℕ → Type 0) (U : Type 0) : Effect → Effect → Type 0 where
  gives : {v w : Value} → AlikeValues P U v w → AlikeEffects P U (Gives v) (Gives w)
  makes : {o n : Object} → AlikeObjects P U o n → AlikeEffects P U (Makes o) (Makes n)
  changes : {a b : ℕ} {o n : Object} → P a b → AlikeObjects P U o n → AlikeEffects P U (Changes a o) (Changes b n)
  puts : {c : ℕ} → AlikeEffects P U (Puts c) (Puts c)
  takes : AlikeEffects P U Takes Takes
  peeks : AlikeEffects P U Peeks Peeks
  fails : {cause : Cause} → AlikeEffects P U (Fails cause) (Fails cause)
  misused : AlikeEffects P U Misused Misused

pub data AlikeWalks (P : ℕ → ℕ → Type 0) (U : Type 0) : Walked → Walked → Type 0 where
  elements : {vs ws : List Value} → AlikeLists P U vs ws → AlikeWalks P U (Elements vs) (Elements ws)
  too_long : AlikeWalks P U TooLong TooLong
  no_list : AlikeWalks P U NoList NoList

-- no location has two partners, in either store, and what stands at partners is alike
pub record Partnered (P : ℕ → ℕ → Type 0) (U : Type 0) (st now : ℕ → Content) : Type 0 where
  pub one_to_one : (a b c d : ℕ) → P a c → P b d → (a == b) ≡ (c == d)
  pub alike : (a c : ℕ) → P a c → AlikeContents P U (st a) (now c)

-- a test of two locations as a relation
abbrev pub pairs_of : (ℕ → ℕ → Bool) → ℕ → ℕ → Type 0
pairs_of partner a b = IsTrue (partner a b)
