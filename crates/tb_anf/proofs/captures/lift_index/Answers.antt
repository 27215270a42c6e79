use Rattle.std.proofs.Common.{◌∙◌, ap, is_some, arith}
use Rattle.tb_anf.specs.calls.Captures.{added_in}
use Rattle.tb_anf.proofs.code.Captures.{lift-step, lifted-step}
use Rattle.tb_anf.proofs.captures.lift_index.Goals as goal

pub loop-at-preserved : goal.loop-at-preserved
loop-at-preserved c = record {
  added = λ l. ap (added_in c.args.set.now) (c.in_ok-insert.ensures.updates.0 l)
      ∙ lift-step c.args.set.now _ _ _ l _ (omega arith) (omega arith) (c.loop-at.invariant.added l);
  lifted = λ l. ap is_some (c.in_ok-insert.ensures.updates.0 l)
      ∙ lifted-step c.args.set.now _ _ _ l _ (omega arith) (omega arith) (c.loop-at.invariant.lifted l);
}
