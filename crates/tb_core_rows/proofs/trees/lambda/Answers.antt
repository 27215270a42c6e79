use Rattle.std.proofs.Common.{◌<◌, ◌^◌, ◌++◌, ℕ, List, sym, subst, arith}
use Rattle.tb_semantics.specs.Graph.{IsApart}
use Rattle.tb_core.specs.Rules.{Every}
use Rattle.tb_core.specs.Tree.{option_list}
use Rattle.tb_core_rows.proofs.Quiets.{with_rest}
use Rattle.tb_core_rows.proofs.trees.lambda.Goals as goal

pub returns-clause-apart : goal.returns-clause-apart
returns-clause-apart c =
    let h = with_rest c.in_ok-formals.formals.items c.args.count (2 ^ 24) c.args.has_rest (omega (arith, c.requires)) c.in_ok-formals.ensures.apart c.in_ok-formals.ensures.below in
    subst (λ xs. IsApart (xs ++ option_list c.then_some.result)) (sym c.from_vec.ensures) (subst (λ o. IsApart (c.in_ok-formals.formals.items ++ option_list o)) (sym c.then_some.ensures) h.0)

pub returns-clause-small : goal.returns-clause-small
returns-clause-small c =
    let h = with_rest c.in_ok-formals.formals.items c.args.count (2 ^ 24) c.args.has_rest (omega (arith, c.requires)) c.in_ok-formals.ensures.apart c.in_ok-formals.ensures.below in
    let small : List ℕ → Type 0 = Every (λ x. x < 2 ^ 24) in
    subst (λ xs. small (xs ++ option_list c.then_some.result)) (sym c.from_vec.ensures) (subst (λ o. small (c.in_ok-formals.formals.items ++ option_list o)) (sym c.then_some.ensures) h.1)
