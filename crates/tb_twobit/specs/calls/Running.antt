-- What running code comes to, told by the stop of its machine or by why it was not loaded.
use Rattle.std.specs.Prelude.{◌≡◌, List, [], ℕ, Result, Ok, Err}
use Rattle.tb_prim.specs.declared.event.Stop.{Stop}
use Rattle.tb_base.specs.declared.outside.LoadFault.{LoadFault}
use Rattle.tb_macm.specs.declared.load.LoadRefusal.{LoadRefusal}
use Rattle.tb_twobit.specs.declared.status.Status.{Status}
use Rattle.tb_twobit.specs.declared.status.Status.TheVariants as S
use Rattle.tb_twobit.specs.Sinks.{Sunk, Gained, Said}
use Rattle.tb_twobit.specs.Statuses.{failed_line, full_line}

-- a status, with nothing said
pub record Silently (diag : Sunk) (status wanted : Status) : Type 0 where
  pub own : status ≡ wanted
  pub silent : Gained diag []

-- a status, with its line
pub record Saying (diag : Sunk) (status wanted : Status) (line : List ℕ) : Type 0 where
  pub own : status ≡ wanted
  pub says : Said diag line

-- by the stop of a run, or why it was not loaded into so many words
abbrev pub Finishes : ℕ → Result Stop LoadRefusal → Sunk → Status → Type 0
Finishes heap (Ok Stop.End) diag status = Silently diag status S.Done
Finishes heap (Ok (Stop.Fail c p)) diag status = Saying diag status S.Failed (failed_line c p)
Finishes heap (Ok (Stop.Full h s n)) diag status = Saying diag status S.Full (full_line h s n)
Finishes heap (Ok Stop.Steps) diag status = Silently diag status S.OutOfSteps
Finishes heap (Ok (Stop.Stuck pc)) diag status = Silently diag status S.Stuck
Finishes heap (Ok Stop.ReadFault) diag status = Silently diag status S.NotLoaded
Finishes heap (Ok Stop.WriteFault) diag status = Silently diag status S.NotPut
Finishes heap (Err (LoadRefusal.HeapSmall pointer)) diag status = Saying diag status S.Full (full_line pointer heap 64)
Finishes heap (Err LoadRefusal.NoMemory) diag status = Silently diag status S.NoMemory

-- the status of a file or an input of which no bytes came
abbrev pub missing_status : LoadFault → Status
missing_status LoadFault.Failed = S.NotLoaded
missing_status LoadFault.TooLong = S.TooLong
missing_status LoadFault.NoMemory = S.NoMemory
