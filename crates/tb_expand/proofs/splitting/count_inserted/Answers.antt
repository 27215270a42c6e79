use Rattle.std.proofs.Common.{arith}
use Rattle.tb_expand.specs.View.{view_state}
use Rattle.tb_expand.proofs.SplitLists.{others_past, lambdas_past}
use Rattle.tb_expand.proofs.splitting.count_inserted.Goals as goal
use Rattle.tb_expand.proofs.splitting.count_inserted.Goals.{then-sizes-gt-MAX_NODES-via-then-sizes-gt-MAX_NODES, then-sizes-gt-MAX_NODES-via-else-sizes-gt-MAX_NODES+then-sizes-gt-MAX_NODES-2}

pub returns-then-sizes-gt-MAX_NODES : goal.returns-then-sizes-gt-MAX_NODES
returns-then-sizes-gt-MAX_NODES c =
    let s = c.args.sizes in
    elim c.then-sizes-gt-MAX_NODES.branch [
      | then-sizes-gt-MAX_NODES-via-then-sizes-gt-MAX_NODES w ↦ others_past c.args.place c.args.sizes.others c.args.sizes.lambdas c.args.sizes.together c.args.sizes.body (view_state c.args.state.now) (omega arith)
      | then-sizes-gt-MAX_NODES-via-else-sizes-gt-MAX_NODES+then-sizes-gt-MAX_NODES-2 w ↦ lambdas_past c.args.place c.args.sizes.others c.args.sizes.lambdas c.args.sizes.together c.args.sizes.body (view_state c.args.state.now) (omega arith)
    ]
