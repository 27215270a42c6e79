use Rattle.std.proofs.Common.{◌∙◌, arith, length}
use Rattle.tb_semantics.specs.Runs.{after}
use Rattle.tb_core.specs.OperandOrder.{order_of}
use Rattle.tb_core.specs.Reference.{reference}
use Rattle.tb_mac.specs.Bounds.{frame_bound}
use Rattle.tb_mac.specs.FramedRuns.{framed_machine, framed_of}
use Rattle.tb_passes.specs.Passes.{program_code}
use Rattle.tb_bounds.proofs.FullMemory.{full-goes-beyond, larger, used-within}
use Rattle.tb_bounds.proofs.laws.full_only_when_small.Goals as goal

-- in a larger memory the run goes on with the request, and the words in use then are bounded as all that code holds is
pub returns : goal.returns
returns c = record {
  law = λ p ok heap input n full.
      let code = program_code p in
      let f = frame_bound code.code in
      let beyond = full-goes-beyond code heap n input full in
      let size = larger code heap beyond.0 in
      let keeps = c.code_keeps_the_reference_machine.ensures.law p ok size input in
      let held = keeps.windows beyond.1 in
      let made = keeps.made beyond.1 in
      let source = reference p (order_of p) input in
      let m = framed_of (after (framed_machine code size input) beyond.1) in
      let used = used-within code f (length p.statics) m (after source held.0) (after source made.0)
      (c.runs_stay_within.ensures.law code size input beyond.1) held.2 made.2 in
      (held.0, made.0, beyond.2 ∙ held.1, beyond.2 ∙ made.1, let more = beyond.3 in omega (arith, more, used));
}
