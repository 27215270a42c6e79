-- The faults of a store's calls of one kind, as the names of those that failed.
use Rattle.std.specs.Prelude.{ℕ, ◌-◌, ◌^◌, min, List, [], ◌∷◌, ◌++◌, count_by, Result, Ok, Err}
use Rattle.std.specs.Str.{bytes_eq}
use Rattle.std.specs.declared.vec.Vec.{Vec}
use Rattle.std.specs.declared.alloc.Global.{Global}
use Rattle.tb_base.specs.declared.outside.LoadFault.{LoadFault}
use Rattle.tb_base.specs.declared.outside.SaveFault.{SaveFault}

-- how many of the names are this one, up to the end of a u64
abbrev pub fault_count : List (List ℕ) → List ℕ → ℕ
fault_count names name = min (count_by (λ failed. bytes_eq failed name) names) (2 ^ 64 - 1)

-- the names of the failed loads after a load of this name
abbrev pub after_load : List (List ℕ) → List ℕ → Result (Vec ℕ Global) LoadFault → List (List ℕ)
after_load names name (Ok bytes) = names
after_load names name (Err LoadFault.Failed) = names ++ name ∷ []
after_load names name (Err LoadFault.TooLong) = names
after_load names name (Err LoadFault.NoMemory) = names

-- the names of the failed saves after a save of this name
abbrev pub after_save : List (List ℕ) → List ℕ → Result (Unit {0}) SaveFault → List (List ℕ)
after_save names name (Ok u) = names
after_save names name (Err SaveFault.Failed) = names ++ name ∷ []
after_save names name (Err SaveFault.NoMemory) = names

-- the load failed, or there was no memory to say so
abbrev pub IsFailedLoad : Result (Vec ℕ Global) LoadFault → Type 0
IsFailedLoad (Ok bytes) = ⊥
IsFailedLoad (Err LoadFault.Failed) = Unit {0}
IsFailedLoad (Err LoadFault.TooLong) = ⊥
IsFailedLoad (Err LoadFault.NoMemory) = Unit {0}

-- the save failed, or there was no memory to say so
abbrev pub IsFailedSave : Result (Unit {0}) SaveFault → Type 0
IsFailedSave (Ok u) = ⊥
IsFailedSave (Err SaveFault.Failed) = Unit {0}
IsFailedSave (Err SaveFault.NoMemory) = Unit {0}

-- the names of the loads and of the saves of a store that failed
pub record FailedCalls : Type 0 where
  pub loads : List (List ℕ)
  pub saves : List (List ℕ)
