use Rattle.std.proofs.Common.{◌+◌, [], ◌∷◌, sym, subst, arith}
use Rattle.tb_core.specs.View.{view}
use Rattle.tb_core_rows.specs.Quiet.{IsQuiet}
use Rattle.tb_core_rows.proofs.Quiets.{lambda_keeps}
use Rattle.tb_core_rows.proofs.programs.deep.Goals as goal

pub of_one-requires : goal.of_one-requires
of_one-requires c =
    let leaf = c.in_ok-innermost.ensures in
    let ss = leaf.0 in
    let m = 30 + c.args.inner in
    let n = 1 + c.args.outer in
    let l = c.in_ok-lambda.ensures in
    let inside = c.in_ok-body.ensures [] [] ss 30 (leaf.2 []) in
    let body = subst (λ e. IsQuiet [] [] ss m (view e)) (sym l.body) inside in
    let form = c.in_ok-form.ensures ss (0 ∷ []) ss 1 (c.lambda_node.ensures ss) in
    lambda_keeps _ _ ss ss n m c.in_ok-form.form c.in_ok-lambda.lambda c.new.ensures.items c.in_ok-vec.ensures.items form body l.apart l.small leaf.1 (omega (arith, c.requires.outer, c.requires.inner))
