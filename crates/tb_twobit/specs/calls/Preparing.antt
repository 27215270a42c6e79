-- What is answered before a run.
use Rattle.std.specs.Prelude.{◌≡◌, ℕ, List, Result, Ok, Err}
use Rattle.tb_core.specs.Tree.{ProgramTree}
use Rattle.tb_mac.specs.CodeOf.{code_of}
use Rattle.tb_passes.specs.Compilable.{IsCompilable}
use Rattle.tb_passes.specs.Passes.{program_code}
use Rattle.tb_twobit.specs.declared.prepare.Prepared.{Prepared}
use Rattle.tb_twobit.specs.declared.status.Status.{Status}
use Rattle.tb_twobit.specs.Preparing.{Given, IsNotReady, IsReady}
use Rattle.tb_twobit.specs.Sinks.{Sunk}
use Rattle.tb_twobit.specs.Statuses.{number}

-- the code is that of the program of the source file
pub record IsPrepared (source : List ℕ) (g : Given) (made : Prepared) : Type 0 where
  pub program : ProgramTree
  pub ready : IsReady source g made.input.items program
  pub has_code : IsCompilable program
  pub own_code : code_of made.code ≡ program_code program

-- what is run, or the status of a call that runs nothing
abbrev pub Prepares : List ℕ → Given → Sunk → Result Prepared Status → Type 0
Prepares source g diag (Ok made) = IsPrepared source g made
Prepares source g diag (Err status) = IsNotReady source g diag (number status)
