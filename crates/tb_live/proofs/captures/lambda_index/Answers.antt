use Rattle.std.proofs.Common.{◌∙◌, ◌-◌, Some, ap, arith, cond, nat_eq}
use Rattle.indexmap.specs.IndexMap.{get}
use Rattle.tb_ir.specs.AnfMachine.{is_number}
use Rattle.tb_ir.specs.declared.anf.AnfProc.{AnfProc}
use Rattle.tb_live.proofs.Index.{index-step}
use Rattle.tb_live.proofs.captures.lambda_index.Goals as goal

pub loop-at-preserved : goal.loop-at-preserved
loop-at-preserved c m =
    let i = c.loop-at.at - 1 in
    index-step c.args.procs.now i c.loop-at.at c.index-procs-at.result m (get nat_eq c.loop-at.index m) _ (omega arith) (omega arith)
    (c.in_ok-note_lambda.ensures m ∙ ap (λ (q : AnfProc). cond (is_number q.lambda m) (Some i) (get nat_eq c.loop-at.index m)) c.index-procs-at.is) (c.loop-at.invariant m)
