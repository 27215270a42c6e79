-- A run of code comes to a status of the command, by the stop that the interpreter gave.
use Rattle.std.proofs.Common.{◌≡◌, ℕ, ◌+◌, ◌*◌, ◌≤◌, ◌⊎◌, inl, inr, Result, Ok, Err, List, refl, sym, ap, subst, arith}
use Rattle.tb_prim.specs.declared.event.Stop.{Stop}
use Rattle.tb_semantics.specs.Runs.{after}
use Rattle.tb_core.specs.Space.{space_of}
use Rattle.tb_core.specs.Tree.{ProgramTree}
use Rattle.tb_mac.specs.Layout.{start_size}
use Rattle.tb_mac.specs.MacEvents.{MacState}
use Rattle.tb_macm.specs.declared.load.LoadRefusal.{LoadRefusal}
use Rattle.tb_passes.specs.Passes.{program_code}
use Rattle.tb_reporting.specs.Reports as reporting
use Rattle.tb_reporting.specs.Reports.{ReportDoes}
use Rattle.tb_running.specs.Runs as running
use Rattle.tb_running.specs.Runs.{CodeDoes, EndsWith}
use Rattle.tb_twobit.specs.GoDoes as does
use Rattle.tb_twobit.specs.GoDoes.{GoDoes, RunEnds, Runs}
use Rattle.tb_twobit.specs.Preparing.{Given, IsReady, Outside, no_memory, not_ready, not_fitting}
use Rattle.tb_twobit.specs.Sinks.{Said, Sunk}
use Rattle.tb_twobit.specs.SpaceDoes as space
use Rattle.tb_twobit.specs.SpaceDoes.{ReportEnds, Reports, SpaceDoes, asked_of}
use Rattle.tb_twobit.specs.SpaceSafe.{reference_of}
use Rattle.tb_twobit.specs.Statuses.{full_line, number}
use Rattle.tb_twobit.specs.Stopping as stops
use Rattle.tb_twobit.specs.Stopping.{IsNeverStuck, IsPromised, Stops, machine_of}
use Rattle.tb_twobit.specs.Words.{Go, Space}
use Rattle.tb_twobit.specs.calls.Running.{Finishes}
use Rattle.tb_twobit.specs.declared.status.Status.{Status}

-- what is promised of the runs of the code of a program
pub record RunLaws (go : Go) (p : ProgramTree) (input : List ℕ) : Type 0 where
  pub promised : (taken status : ℕ) (diag : Sunk) → taken ≤ go.steps →
      Stops (after (machine_of go p input) taken) taken go.steps diag status ⊎ (status ≡ 4) → IsPromised go p input taken status
  pub never_stuck : (n : ℕ) → IsNeverStuck (after (machine_of go p input) n)

module _ (go : Go) (p : ProgramTree) (input : List ℕ) (laws : RunLaws go p input) where
  abbrev at : ℕ → MacState
  at n = after (machine_of go p input) n

  run_ends : (taken : ℕ) (out diag : Sunk) (stop : Stop) (status : Status) → EndsWith (program_code p) (at taken) taken go.steps out stop →
      Finishes go.heap (Ok stop) diag status → RunEnds p (at taken) taken go.steps out diag (number status)
  run_ends taken out diag _ status (running.out_of_steps rest es e a t) f =
      subst (RunEnds p (at taken) taken go.steps out diag) (sym (ap number f.own)) (does.stopped (stops.out_of_steps rest es e a t f.silent))
  run_ends taken out diag _ status (running.not_put rest es e a t b r) f =
      subst (RunEnds p (at taken) taken go.steps out diag) (sym (ap number f.own)) (does.not_put rest es e a t b r f.silent)
  run_ends taken out diag _ status (running.ended rest es e a) f =
      subst (RunEnds p (at taken) taken go.steps out diag) (sym (ap number f.own)) (does.stopped (stops.ended rest es e a f.silent))
  run_ends taken out diag _ status (running.failed rest es c q e a) f =
      subst (RunEnds p (at taken) taken go.steps out diag) (sym (ap number f.own)) (does.stopped (stops.failed rest es c q e a f.says))
  run_ends taken out diag _ status (running.full rest es h s n e a) f =
      subst (RunEnds p (at taken) taken go.steps out diag) (sym (ap number f.own)) (does.stopped (stops.full rest es h s n e a f.says))
  run_ends taken out diag _ status (running.stuck rest es pc e a) f = absurd (laws.never_stuck taken _ pc rest es e a)

  run_stops : (taken : ℕ) (out diag : Sunk) (status : ℕ) → RunEnds p (at taken) taken go.steps out diag status →
      Stops (at taken) taken go.steps diag status ⊎ (status ≡ 4)
  run_stops taken out diag status (does.stopped s) = inl s
  run_stops taken out diag _ (does.not_put rest es a b d q f h) = inr refl

  pub code_runs : (out diag : Sunk) (stop : Stop) (status : Status) →
      running.Runs (program_code p) (record { heap = go.heap; steps = go.steps; input = input }) out stop →
      Finishes go.heap (Ok stop) diag status → Runs go p input out diag (number status)
  code_runs out diag stop status r f =
      let ends = run_ends r.taken out diag stop status r.ends f in record {
        taken = r.taken;
        promised = laws.promised r.taken (number status) diag r.within (run_stops r.taken out diag (number status) ends);
        put = r.put;
        ends = ends;
      }

module _ (s : Space) (p : ProgramTree) (input : List ℕ) (laws : RunLaws s.go p input) where
  abbrev came : ℕ → MacState
  came n = after (machine_of s.go p input) n

  report_ends : (taken : ℕ) (out diag : Sunk) (stop : Stop) (status : Status) →
      reporting.ReportEnds (program_code p) (asked_of s input) (came taken) taken out stop →
      Finishes s.go.heap (Ok stop) diag status → ReportEnds s p input taken out diag (number status)
  report_ends taken out diag _ status (reporting.out_of_steps rest es e a t g) f =
      subst (ReportEnds s p input taken out diag) (sym (ap number f.own)) (space.stopped (stops.out_of_steps rest es e a t f.silent) g)
  report_ends taken out diag _ status (reporting.not_put n g r) f =
      subst (ReportEnds s p input taken out diag) (sym (ap number f.own)) (space.not_put n g r f.silent)
  report_ends taken out diag _ status (reporting.ended rest es e a g) f =
      subst (ReportEnds s p input taken out diag) (sym (ap number f.own)) (space.stopped (stops.ended rest es e a f.silent) g)
  report_ends taken out diag _ status (reporting.failed rest es c q e a g) f =
      subst (ReportEnds s p input taken out diag) (sym (ap number f.own)) (space.stopped (stops.failed rest es c q e a f.says) g)
  report_ends taken out diag _ status (reporting.full rest es h k n e a g) f =
      subst (ReportEnds s p input taken out diag) (sym (ap number f.own)) (space.stopped (stops.full rest es h k n e a f.says) g)
  report_ends taken out diag _ status (reporting.stuck rest es pc e a g) f = absurd (laws.never_stuck taken _ pc rest es e a)

  report_stops : (taken : ℕ) (out diag : Sunk) (status : ℕ) → ReportEnds s p input taken out diag status →
      Stops (came taken) taken s.go.steps diag status ⊎ (status ≡ 4)
  report_stops taken out diag status (space.stopped k g) = inl k
  report_stops taken out diag _ (space.not_put n g r d) = inr refl

  pub code_reports : (out diag : Sunk) (stop : Stop) (status : Status) →
      reporting.Reports (program_code p) (asked_of s input) out stop →
      Finishes s.go.heap (Ok stop) diag status → Reports s p input out diag (number status)
  code_reports out diag stop status r f =
      let ends = report_ends r.taken out diag stop status r.ends f in record {
        taken = r.taken;
        promised = laws.promised r.taken (number status) diag r.within (report_stops r.taken out diag (number status) ends);
        ends = ends;
      }

-- the input under another name
pub same_input : (source : List ℕ) (g : Given) (p : ProgramTree) (input other : List ℕ) → input ≡ other →
    IsReady source g other p → IsReady source g input p
same_input source g p input other e ready = subst (λ i. IsReady source g i p) (sym e) ready

-- the command on a text that was compiled, when it has run the code
pub go_runs : (go : Go) (o : Outside) (input : List ℕ) (p : ProgramTree) → IsReady go.source o.given input p →
    (start_size (program_code p).parts + 64 ≤ go.heap → RunLaws go p input) →
    start_size (program_code p).parts ≤ 2 * space_of p (reference_of p input).start + 1 →
    (ended : Result Stop LoadRefusal) (status : Status) →
    CodeDoes (program_code p) (record { heap = go.heap; steps = go.steps; input = input }) o.out ended →
    Finishes go.heap ended o.diag status → GoDoes go o (number status)
go_runs go o input p ready laws little (Ok stop) status d f =
    does.ran input p ready (code_runs go p input (laws d.0) o.out o.diag stop status d.1 f)
go_runs go o input p ready laws little (Err (LoadRefusal.HeapSmall pointer)) status d f =
    subst (GoDoes go o) (sym (ap number f.own))
    (does.not_run (not_fitting input p ready d.0 (let less = d.0 in omega (arith, less, little)) d.2 (subst (λ n. Said o.diag (full_line n go.heap 64)) d.1 f.says)))
go_runs go o input p ready laws little (Err LoadRefusal.NoMemory) status d f =
    subst (GoDoes go o) (sym (ap number f.own)) (does.not_run (not_ready (no_memory f.silent) d.1))

-- and when it has put a report of the run
pub space_runs : (s : Space) (o : Outside) (input : List ℕ) (p : ProgramTree) → IsReady s.go.source o.given input p →
    (start_size (program_code p).parts + 64 ≤ s.go.heap → RunLaws s.go p input) →
    start_size (program_code p).parts ≤ 2 * space_of p (reference_of p input).start + 1 →
    (ended : Result Stop LoadRefusal) (status : Status) → ReportDoes (program_code p) (asked_of s input) o.out ended →
    Finishes s.go.heap ended o.diag status → SpaceDoes s o (number status)
space_runs s o input p ready laws little (Ok stop) status d f =
    space.reported input p ready (code_reports s p input (laws d.0) o.out o.diag stop status d.1 f)
space_runs s o input p ready laws little (Err (LoadRefusal.HeapSmall pointer)) status d f =
    subst (SpaceDoes s o) (sym (ap number f.own))
    (space.not_run (not_fitting input p ready d.0 (let less = d.0 in omega (arith, less, little)) d.2 (subst (λ n. Said o.diag (full_line n s.go.heap 64)) d.1 f.says)))
space_runs s o input p ready laws little (Err LoadRefusal.NoMemory) status d f =
    subst (SpaceDoes s o) (sym (ap number f.own)) (space.not_run (not_ready (no_memory f.silent) d.1))
