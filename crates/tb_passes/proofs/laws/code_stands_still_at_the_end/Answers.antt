use Rattle.tb_semantics.specs.Runs.{after}
use Rattle.tb_semantics.proofs.KeepsLemmas.{still-behind}
use Rattle.tb_core.specs.Measures.{reference_measured}
use Rattle.tb_core.specs.OperandOrder.{order_of}
use Rattle.tb_mac.specs.FramedRuns.{framed_events, framed_machine, measured_machine}
use Rattle.tb_passes.specs.Passes.{program_code}
use Rattle.tb_passes.proofs.AtTheEnd.{same-at-end}
use Rattle.tb_passes.proofs.FramedSteps.{framed-in-order, framed-still}
use Rattle.tb_passes.proofs.laws.code_stands_still_at_the_end.Goals as goal

pub returns : goal.returns
returns c = record {
  law = λ p ok heap input n stands room.
      let code = program_code p in
      let order = order_of p in
      let keeps = c.code_keeps_the_reference_machine.ensures.law p ok heap input in
      let es = framed_events (after (framed_machine code heap input) n) in
      let all = still-behind (measured_machine code heap input) (reference_measured p order input) 1
      (framed-in-order code heap input) (c.emits_in_order.ensures.step p order input) (framed-still code heap input)
      keeps n stands room in
      let end = c.all_events_end.ensures.law p input es ok.rules all in
      let w = keeps.windows n in (
        end.0,
        end.1,
        same-at-end p order input (c.stopped_stays.ensures.law p order input)
            (c.emits_in_order.ensures.run p order input) end.0 w.0 es end.1 w.1 (all end.0),
      );
}
