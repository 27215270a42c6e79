use Rattle.std.proofs.Common.{◌≡◌, ◌+◌, ◌*◌, vec_len}
use Rattle.tb_ir.specs.AnfPlain.{view_block}
use Rattle.tb_anf.specs.calls.Steps.{wrap}
use Rattle.tb_anf.proofs.steps.+wrapped.Given as goal

abbrev pub decreases-wrapped : goal.decreases-wrapped
decreases-wrapped l = 2 * l.levels + 1

abbrev pub decreases-wrapped_in : goal.decreases-wrapped_in
decreases-wrapped_in l = 2 * l.levels

abbrev pub invariant-wrapped-loop-step : goal.invariant-wrapped-loop-step
invariant-wrapped-loop-step l = wrap l.steps.items (view_block l.block) ≡ wrap l.initial.steps.items (view_block l.initial.block)

abbrev pub decreases-wrapped-loop-step : goal.decreases-wrapped-loop-step
decreases-wrapped-loop-step l = vec_len l.steps
