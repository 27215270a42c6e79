-- What the command `go` does: its status, the bytes that it adds to `out` and the lines on `diag`.
use Rattle.std.specs.Prelude.{◌≡◌, ℕ, ◌<◌, List, [], IsSome, All}
use Rattle.tb_prim.specs.declared.event.Event.{Event}
use Rattle.tb_base.specs.Outside.{Rose}
use Rattle.tb_semantics.specs.Runs.{after}
use Rattle.tb_core.specs.Tree.{ProgramTree}
use Rattle.tb_mac.specs.MacEvents.{MacState, Going, events_of}
use Rattle.tb_mac.specs.MacStep.{Mac, fetched}
use Rattle.tb_macm.specs.RunDoes.{IsPassing, puts}
use Rattle.tb_macm.specs.Steps.{byte_put}
use Rattle.tb_passes.specs.Passes.{program_code}
use Rattle.tb_twobit.specs.Preparing.{IsNotRun, IsReady, Outside}
use Rattle.tb_twobit.specs.Sinks.{Sunk, Gained}
use Rattle.tb_twobit.specs.Stopping.{IsPromised, Stops, machine_of}
use Rattle.tb_twobit.specs.Words.{Go}

-- how a run ends, with its status: `taken` steps were made and led to `state`
pub data RunEnds (p : ProgramTree) (state : MacState) (taken steps : ℕ) (out diag : Sunk) : ℕ → Type 0 where
  stopped : {status : ℕ} → Stops state taken steps diag status → RunEnds p state taken steps out diag status
  -- status 4 only before a step that puts a byte, where the count of `out` rose
  not_put : {m : Mac} (rest : List ℕ) (es : List Event) → state ≡ Going m rest es → All IsPassing es → taken < steps →
      IsSome (byte_put (fetched (program_code p) m)) → Rose out.faults out.faults_now → Gained diag [] →
      RunEnds p state taken steps out diag 4

-- a run of the code of a program: the bytes added to `out` are those that its events put
pub record Runs (go : Go) (p : ProgramTree) (input : List ℕ) (out diag : Sunk) (status : ℕ) : Type 0 where
  pub taken : ℕ
  pub promised : IsPromised go p input taken status
  pub put : Gained out (puts (events_of (after (machine_of go p input) taken)))
  pub ends : RunEnds p (after (machine_of go p input) taken) taken go.steps out diag status

-- what `go` does, by its status: no code is run, or the code of the file's program
pub data GoDoes (go : Go) (o : Outside) : ℕ → Type 0 where
  not_run : {status : ℕ} → IsNotRun go o status → GoDoes go o status
  ran : {status : ℕ} (input : List ℕ) (p : ProgramTree) → IsReady go.source o.given input p →
      Runs go p input o.out o.diag status → GoDoes go o status
