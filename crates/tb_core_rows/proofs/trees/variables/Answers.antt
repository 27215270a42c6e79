use Rattle.std.proofs.Common.{◌+◌, ◌<◌, sym, subst, arith}
use Rattle.tb_semantics.specs.Graph.{IsApart}
use Rattle.tb_core.specs.Rules.{Every}
use Rattle.tb_core_rows.proofs.Quiets.{below_push}
use Rattle.tb_core_rows.proofs.trees.variables.Goals as goal

pub loop-variable-preserved : goal.loop-variable-preserved
loop-variable-preserved c =
    let n = c.loop-variable.variable in
    let h = below_push c.loop-variable.all.items n c.loop-variable.invariant.apart c.loop-variable.invariant.below in
    record {
      apart = subst IsApart (sym c.in_ok-push.ensures.items) h.0;
      below = subst (Every (λ x. x < n + 1)) (sym c.in_ok-push.ensures.items) h.1;
    }

pub returns-clause-below : goal.returns-clause-below
returns-clause-below c = subst (λ n. Every (λ x. x < n) c.loop-variable.all.items) (omega arith) c.loop-variable.invariant.below
