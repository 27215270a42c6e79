use Rattle.std.proofs.Common.{◌≡◌, ◌<◌, ◌≤◌, ℕ, List, [], None, Some, Ok, length, map, get_or, slice_get, sym, ap, ◌∙◌}
use Rattle.std.specs.Prelude.{option_map}
use Rattle.std.proofs.lemmas.Option.{slice_get-map, slice_get-get_or, slice_get_past}
use Rattle.tb_core.specs.declared.program.Lambda.{Lambda}
use Rattle.tb_core.specs.Limits.{Operands, parameter_measures, judge, judged}
use Rattle.tb_core.specs.Tree.{parameters}
use Rattle.tb_core.specs.Plain.{view_lambda}
use Rattle.tb_core.proofs.Judging.{judge_first, judge_none}
use Rattle.tb_core.proofs.limits.check_parameters.Goals as goal

-- a lambda expression of the table, as the definition has it
there : (ls : List Lambda) (n : ℕ) (l : Lambda) → n < length ls → l ≡ get_or ls n l →
    slice_get (map view_lambda ls) n ≡ Some (view_lambda l)
there ls n l lt is = slice_get-map view_lambda ls n ∙ ap (option_map view_lambda) (slice_get-get_or ls n l lt ∙ ap Some (sym is))

past : (ls : List Lambda) (n : ℕ) → length ls ≤ n → slice_get (map view_lambda ls) n ≡ None
past ls n le = slice_get-map view_lambda ls n ∙ ap (option_map view_lambda) (slice_get_past ls n le)

pub returns-in-Some-clause-value : goal.returns-in-Some-clause-value
returns-in-Some-clause-value c =
    let lambda = c.in-Some.lambda.now in
    let found = c.in-Some.ensures.lookup in
    let at = there c.args.lambdas.now c.args.number lambda found.3.0 found.1 in
    c.check_operands.ensures.value
    ∙ ap (λ n. judged c.args.totals (Operands lambda.place n)) c.parameter_count.ensures
    ∙ sym (judge_first c.args.totals (Operands lambda.place (length (parameters (view_lambda lambda)))) [] ∙ judge_none _)
    ∙ ap (λ o. judge (Ok c.args.totals) (parameter_measures o)) (sym at)

pub returns-in-None-clause-value : goal.returns-in-None-clause-value
returns-in-None-clause-value c =
    sym (judge_none (Ok c.args.totals))
    ∙ ap (λ o. judge (Ok c.args.totals) (parameter_measures o)) (sym (past c.args.lambdas.now c.args.number c.in-None.ensures.lookup.3))
