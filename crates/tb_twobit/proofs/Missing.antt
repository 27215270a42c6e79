-- What is answered where no bytes of the file or of the input came.
use Rattle.std.proofs.Common.{◌≡◌, sym, subst, ℕ, List, [], IfSome, Result, Err}
use Rattle.std.specs.declared.vec.Vec.{Vec}
use Rattle.std.specs.declared.alloc.Global.{Global}
use Rattle.tb_base.specs.Outside.{GivesAll, LoadsTold, Rose}
use Rattle.tb_base.specs.declared.outside.LoadFault.{LoadFault}
use Rattle.tb_core.specs.Tree.{ProgramTree}
use Rattle.tb_twobit.specs.Preparing.{Given, HasAccepted, IsNotReady, long_input, no_memory, not_loaded, not_read, too_long}
use Rattle.tb_twobit.specs.Sinks.{Gained, Sunk}
use Rattle.tb_twobit.specs.Statuses.{number}
use Rattle.tb_twobit.specs.declared.status.Status.{Status}
use Rattle.tb_twobit.specs.calls.Running.{missing_status}

module _ (source : List ℕ) (g : Given) (diag : Sunk) (silent : Gained diag []) where
  file_missing : (result : Result (Vec ℕ Global) LoadFault) (fault : LoadFault) → result ≡ Err fault →
      (result ≡ Err LoadFault.Failed → Rose g.loads g.loads_now) →
      IfSome g.files (λ f. LoadsTold f source 4194304 result) → IsNotReady source g diag (number (missing_status fault))
  file_missing result LoadFault.Failed is rose told = not_loaded (rose is) silent
  file_missing result LoadFault.TooLong is rose told =
      too_long (subst (λ r. IfSome g.files (λ f. LoadsTold f source 4194304 r)) is told) silent
  file_missing result LoadFault.NoMemory is rose told = no_memory silent

  pub no-file : (result : Result (Vec ℕ Global) LoadFault) (fault : LoadFault) (status : Status) →
      result ≡ Err fault → status ≡ missing_status fault → (result ≡ Err LoadFault.Failed → Rose g.loads g.loads_now) →
      IfSome g.files (λ f. LoadsTold f source 4194304 result) → IsNotReady source g diag (number status)
  no-file result fault status is own rose told =
      subst (λ s. IsNotReady source g diag (number s)) (sym own) (file_missing result fault is rose told)

  input_missing : (p : ProgramTree) → HasAccepted source g p →
      (result : Result (Vec ℕ Global) LoadFault) (fault : LoadFault) → result ≡ Err fault →
      (result ≡ Err LoadFault.Failed → Rose g.reads g.reads_now) →
      IfSome g.input (λ left. GivesAll left 16777216 result) → IsNotReady source g diag (number (missing_status fault))
  input_missing p has result LoadFault.Failed is rose told = not_read p has (rose is) silent
  input_missing p has result LoadFault.TooLong is rose told =
      long_input p has (subst (λ r. IfSome g.input (λ left. GivesAll left 16777216 r)) is told) silent
  input_missing p has result LoadFault.NoMemory is rose told = no_memory silent

  pub no-input : (p : ProgramTree) → HasAccepted source g p →
      (result : Result (Vec ℕ Global) LoadFault) (fault : LoadFault) (status : Status) → result ≡ Err fault →
      status ≡ missing_status fault → (result ≡ Err LoadFault.Failed → Rose g.reads g.reads_now) →
      IfSome g.input (λ left. GivesAll left 16777216 result) → IsNotReady source g diag (number status)
  no-input p has result fault status is own rose told =
      subst (λ s. IsNotReady source g diag (number s)) (sym own) (input_missing p has result fault is rose told)
