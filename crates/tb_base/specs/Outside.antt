-- What the calls of the outside do, where an object tells its contents, and what a fault shows.
use Rattle.std.specs.Prelude.{◌≡◌, ◌≢◌, ℕ, ◌+◌, ◌-◌, ◌^◌, ◌≤◌, ◌<◌, min, List, [], ◌++◌, length, take, drop, Option, Some, None, IfSome, Result, Ok, Err, OnErr}
use Rattle.std.specs.declared.vec.Vec.{Vec}
use Rattle.std.specs.declared.alloc.Global.{Global}
use Rattle.tb_base.specs.declared.outside.Failed.{Failed}
use Rattle.tb_base.specs.declared.outside.LoadFault.{LoadFault}
use Rattle.tb_base.specs.declared.outside.SaveFault.{SaveFault}

-- a count rose by one or more, or stands at the end of its type
abbrev pub Rose : ℕ → ℕ → Type 0
Rose before now = min (before + 1) (2 ^ 64 - 1) ≤ now

-- a count never falls, and the call failed only if it rose
pub record HasCause {T E : Type 0} (before now : ℕ) (result : Result T E) : Type 0 where
  pub later : before ≤ now
  pub failed : OnErr result (Rose before now)

-- nothing was put
abbrev pub IsNothing : Result ℕ Failed → Type 0
IsNothing (Ok n) = n ≡ 0
IsNothing (Err e) = Unit {0}

-- a count never falls, and nothing was put only if it rose
pub record PutHasCause (before now : ℕ) (result : Result ℕ Failed) : Type 0 where
  pub later : before ≤ now
  pub failed : IsNothing result → Rose before now

-- the first n bytes left were taken, to the front of the buffer; none only at the end
pub record TakesFirst (left : List ℕ) (now : Option (List ℕ)) (n : ℕ) (buf : List ℕ) : Type 0 where
  pub within : n ≤ length left
  pub front : take n buf ≡ take n left
  pub rest : now ≡ Some (drop n left)
  pub end : n ≡ 0 → left ≡ []

abbrev pub TakesTold : List ℕ → Option (List ℕ) → Result ℕ Failed → List ℕ → Type 0
TakesTold left now (Ok n) buf = TakesFirst left now n buf
TakesTold left now (Err e) buf = now ≡ Some left

-- what a call of `take` does to the bytes left, where they are told
abbrev pub Takes : Option (List ℕ) → Option (List ℕ) → Result ℕ Failed → List ℕ → Type 0
Takes before now result buf = IfSome before (λ left. TakesTold left now result buf)

-- how many bytes were put
abbrev pub count_put : Result ℕ Failed → ℕ
count_put (Ok n) = n
count_put (Err e) = 0

-- what a call of `put` does to the bytes held, where they are told
abbrev pub Puts : Option (List ℕ) → Option (List ℕ) → List ℕ → Result ℕ Failed → Type 0
Puts before now piece result = IfSome before (λ held. now ≡ Some (held ++ take (count_put result) piece))

-- the files of a store: what each name holds
abbrev pub Files : Type 0
Files = List ℕ → Option (List ℕ)

-- the bytes of a name are more than the limit
abbrev pub IsLonger : Option (List ℕ) → ℕ → Type 0
IsLonger None limit = ⊥
IsLonger (Some bytes) limit = limit < length bytes

abbrev pub LoadsTold : Files → List ℕ → ℕ → Result (Vec ℕ Global) LoadFault → Type 0
LoadsTold files name limit (Ok bytes) = files name ≡ Some bytes.items
LoadsTold files name limit (Err LoadFault.Failed) = Unit {0}
LoadsTold files name limit (Err LoadFault.TooLong) = IsLonger (files name) limit
LoadsTold files name limit (Err LoadFault.NoMemory) = Unit {0}

-- what reading all of these bytes gives, where at most `limit` are wanted
abbrev pub GivesAll : List ℕ → ℕ → Result (Vec ℕ Global) LoadFault → Type 0
GivesAll left limit (Ok bytes) = bytes.items ≡ left
GivesAll left limit (Err LoadFault.Failed) = Unit {0}
GivesAll left limit (Err LoadFault.TooLong) = limit < length left
GivesAll left limit (Err LoadFault.NoMemory) = Unit {0}

-- a load leaves the files as they are, and gives those of the name
pub record LoadDoes (before now : Option Files) (name : List ℕ) (limit : ℕ) (result : Result (Vec ℕ Global) LoadFault) : Type 0 where
  pub same : now ≡ before
  pub gives : IfSome before (λ files. LoadsTold files name limit result)

-- the counts of every name but one stay, and that one does not fall
pub record CountsOnly (before now : List ℕ → ℕ) (name : List ℕ) : Type 0 where
  pub later : before name ≤ now name
  pub others : (other : List ℕ) → other ≢ name → now other ≡ before other

-- no count changes
abbrev pub SameCounts : (List ℕ → ℕ) → (List ℕ → ℕ) → Type 0
SameCounts before now = (name : List ℕ) → now name ≡ before name

-- a load failed only if the count of its name rose, and no other count changes
pub record LoadHasCause (before now : List ℕ → ℕ) (name : List ℕ) (result : Result (Vec ℕ Global) LoadFault) : Type 0 where
  pub counts : CountsOnly before now name
  pub failed : result ≡ Err LoadFault.Failed → Rose (before name) (now name)

-- one name holds the bytes, and every other what it held
pub record Holds (before now : Files) (name bytes : List ℕ) : Type 0 where
  pub there : now name ≡ Some bytes
  pub others : (other : List ℕ) → other ≢ name → now other ≡ before other

abbrev pub SavesTold : Files → Option Files → List ℕ → List ℕ → Result (Unit {0}) SaveFault → Type 0
SavesTold before now name bytes (Ok u) = (files : Files) × (now ≡ Some files) × Holds before files name bytes
SavesTold before now name bytes (Err e) = now ≡ Some before

-- what a save does to the files, where they are told
abbrev pub SaveDoes : Option Files → Option Files → List ℕ → List ℕ → Result (Unit {0}) SaveFault → Type 0
SaveDoes before now name bytes result = IfSome before (λ files. SavesTold files now name bytes result)

-- a save failed only if the count of its name rose, and no other count changes
pub record SaveHasCause (before now : List ℕ → ℕ) (name : List ℕ) (result : Result (Unit {0}) SaveFault) : Type 0 where
  pub counts : CountsOnly before now name
  pub failed : result ≡ Err SaveFault.Failed → Rose (before name) (now name)

-- fewer bytes than all were put, from the front
pub record PutsSome (held : List ℕ) (now : Option (List ℕ)) (bytes : List ℕ) (count : ℕ) : Type 0 where
  pub fewer : count < length bytes
  pub front : now ≡ Some (held ++ take count bytes)

abbrev pub PutsAllTold : List ℕ → Option (List ℕ) → List ℕ → Result (Unit {0}) Failed → Type 0
PutsAllTold held now bytes (Ok u) = now ≡ Some (held ++ bytes)
PutsAllTold held now bytes (Err e) = (count : ℕ) × PutsSome held now bytes count

-- what putting all of the bytes does to the bytes held, where they are told
abbrev pub PutsAll : Option (List ℕ) → Option (List ℕ) → List ℕ → Result (Unit {0}) Failed → Type 0
PutsAll before now bytes result = IfSome before (λ held. PutsAllTold held now bytes result)

-- a count never falls, and reading all failed only if it rose
pub record AllHasCause {T : Type 0} (before now : ℕ) (result : Result T LoadFault) : Type 0 where
  pub later : before ≤ now
  pub failed : result ≡ Err LoadFault.Failed → Rose before now
