use Rattle.std.proofs.Common.{◌≡◌, subst, Some, slice_get, get_or, arith}
use Rattle.tb_anf.proofs.code.Steps.{arranges-step, still-left}
use Rattle.tb_anf.proofs.steps.arranged.Goals as goal

pub loop-index-preserved : goal.loop-index-preserved
loop-index-preserved c =
    let k = c.loop-index.index-index in
    let i = get_or c.args.order.now k 0 in
    record {
      kept = λ j g e. c.loop-index.invariant.kept j g (still-left _ i j g (subst (λ xs. slice_get xs j ≡ Some (Some g)) c.in_ok-taken.ensures.rest e));
      wraps = arranges-step c.args.groups.items c.args.order.now k c.loop-index.out.items _ c.in_ok-taken.field-0 (omega arith) c.in_ok-push.ensures.items
          (c.loop-index.invariant.kept i c.in_ok-taken.field-0 c.in_ok-taken.ensures.found) c.loop-index.invariant.wraps;
    }
