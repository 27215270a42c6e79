use Rattle.std.proofs.Common.{◌+◌, [], sym, subst, arith}
use Rattle.tb_core.specs.View.{view}
use Rattle.tb_core_rows.specs.Quiet.{IsQuiet}
use Rattle.tb_core_rows.proofs.Quiets.{lambda_keeps}
use Rattle.tb_core_rows.proofs.programs.lambda_of.Goals as goal

pub of_one-requires : goal.of_one-requires
of_one-requires c =
    let n = c.args.constants + 1 in
    let l = c.in_ok-lambda.ensures in
    let body = subst (λ e. IsQuiet [] [] [] n (view e)) (sym l.body) (c.in_ok-body.ensures []) in
    lambda_keeps _ _ [] [] 1 n c.lambda_node.result c.in_ok-lambda.lambda c.new.ensures.items c.in_ok-vec.ensures.items (c.lambda_node.ensures []) body l.apart l.small tt (omega (arith, c.requires.few))
