use Rattle.std.proofs.Common.{ℕ, List, Some, subst}
use Rattle.tb_mac.specs.CodeOf.{code_of}
use Rattle.tb_mac.specs.MacEvents.{mac_start}
use Rattle.tb_macm.specs.Loaded.{Loaded}
use Rattle.tb_macm.specs.RunDoes.{RunDoes}
use Rattle.tb_running.specs.Runs.{sunk}
use Rattle.tb_running.proofs.Endings.{code-ran}
use Rattle.tb_running.proofs.run.run_code.Goals as goal

pub returns-clause-does : goal.returns-clause-does
returns-clause-does g c =
    let loaded = c.in_ok-machine.ensures in
    let code = code_of c.args.code.now in
    let start = mac_start code c.args.heap_words in
    let out = sunk g.O.Sink.held g.O.Sink.faults c.args.out.now c.run.new.out in (
      loaded.0,
      code-ran code (record { heap = c.args.heap_words; steps = c.args.steps; input = c.args.input.now })
          c.run.new.self.mac (Some c.run.new.input) out c.run.result
          (subst
          (λ (bs : List ℕ). RunDoes code start c.run.new.self.mac (Some bs) (Some c.run.new.input) out.before out.now
          (record { read = 0; write = out.faults }) (record { read = 0; write = out.faults_now }) c.args.steps c.run.result)
          c.new-source.ensures
          (subst
          (λ (m : Loaded). RunDoes m.code m.mac c.run.new.self.mac (Some c.new-source.result) (Some c.run.new.input) out.before out.now
          (record { read = 0; write = out.faults }) (record { read = 0; write = out.faults_now }) c.args.steps c.run.result)
          loaded.1 c.run.ensures.does)),
    )
