-- What the command `space` does: its status, the report that it puts on `out` and the lines on `diag`.
use Rattle.std.specs.Prelude.{ℕ, List, [], take}
use Rattle.tb_base.specs.Outside.{Rose}
use Rattle.tb_semantics.specs.Runs.{after}
use Rattle.tb_core.specs.Tree.{ProgramTree}
use Rattle.tb_passes.specs.Passes.{program_code}
use Rattle.tb_reporting.specs.Reports.{Asked, report}
use Rattle.tb_twobit.specs.Preparing.{IsNotRun, IsReady, Outside}
use Rattle.tb_twobit.specs.Sinks.{Sunk, Gained}
use Rattle.tb_twobit.specs.Stopping.{IsPromised, Stops, machine_of}
use Rattle.tb_twobit.specs.Words.{Space}

-- what is asked of the report of a run
abbrev pub asked_of : Space → List ℕ → Asked
asked_of space input = record { heap = space.go.heap; steps = space.go.steps; every = space.every; input = input }

-- the report of a run after so many steps: the lines of its measures, and the most words of these with K
abbrev pub report_of : Space → ProgramTree → List ℕ → ℕ → List ℕ
report_of space p input taken = report (program_code p) (asked_of space input) taken

-- how a report ends, with its status
pub data ReportEnds (space : Space) (p : ProgramTree) (input : List ℕ) (taken : ℕ) (out diag : Sunk) : ℕ → Type 0 where
  stopped : {status : ℕ} → Stops (after (machine_of space.go p input) taken) taken space.go.steps diag status →
      Gained out (report_of space p input taken) → ReportEnds space p input taken out diag status
  -- status 4 only where the count of `out` rose; what was put is a front of the report
  not_put : (n : ℕ) → Gained out (take n (report_of space p input taken)) → Rose out.faults out.faults_now → Gained diag [] →
      ReportEnds space p input taken out diag 4

-- a report of a run of the code of a program, whose own bytes are not put
pub record Reports (space : Space) (p : ProgramTree) (input : List ℕ) (out diag : Sunk) (status : ℕ) : Type 0 where
  pub taken : ℕ
  pub promised : IsPromised space.go p input taken status
  pub ends : ReportEnds space p input taken out diag status

-- what `space` does, by its status: no code is run, or the code of the file's program is and a report is put
pub data SpaceDoes (space : Space) (o : Outside) : ℕ → Type 0 where
  not_run : {status : ℕ} → IsNotRun space.go o status → SpaceDoes space o status
  reported : {status : ℕ} (input : List ℕ) (p : ProgramTree) → IsReady space.go.source o.given input p →
      Reports space p input o.out o.diag status → SpaceDoes space o status
