use Rattle.std.proofs.Common.{◌≡◌, ◌∙◌, ap, List, map, ap}
use Rattle.tb_core.specs.Lifting.{view_lifted}
use Rattle.tb_core.specs.View.{view_lambda, view_program}
use Rattle.tb_core.specs.declared.program.Lambda.{Lambda as LambdaCode}
use Rattle.tb_liftable.specs.declared.mentions.Mention.{Mention}
use Rattle.tb_liftable.specs.Mentions.{mentions_of}
use Rattle.tb_liftable.specs.Procedures.{known_from}
use Rattle.tb_liftable.proofs.Rows.{given_from, within_given}
use Rattle.tb_liftable.proofs.Settling.{liftable_is}
use Rattle.tb_liftable.proofs.sets.liftable.Goals as goal

pub settled-requires : goal.settled-requires
settled-requires c =
    within_given _ c.args.program.now c.as_slice.result.now c.as_slice-2.ensures c.in_ok-names.ensures (c.as_slice.ensures.value ∙ c.in_ok-mentions.ensures)
    c.in_ok-rows.rows.items c.as_slice-3.ensures.value c.in_ok-rows.ensures

pub lines-requires : goal.lines-requires
lines-requires c =
    within_given _ c.args.program.now c.as_slice.result.now c.as_slice-2.ensures c.in_ok-names.ensures (c.as_slice.ensures.value ∙ c.in_ok-mentions.ensures)
    c.in_ok-rows.rows.items c.as_slice-3.ensures.value c.in_ok-rows.ensures

pub returns : goal.returns
returns c =
    let p = c.args.program.now in
    let found : c.in_ok-found.found.items ≡ known_from c.as_slice-4.result.now (map view_lambda c.as_slice-2.result.now) 0 = c.in_ok-found.ensures in
    ap (map view_lifted) c.from_vec.ensures
    ∙ liftable_is _ (view_program p) c.in_ok-found.found.items c.as_slice-5.result.now (map view_lifted c.in_ok-lines.field-0.items)
    (given_from _ p c.as_slice.result.now c.as_slice-2.ensures c.in_ok-names.ensures (c.as_slice.ensures.value ∙ c.in_ok-mentions.ensures) c.in_ok-rows.rows.items c.as_slice-3.ensures.value c.in_ok-rows.ensures)
    (found ∙ (ap (λ (ms : List Mention). known_from ms (map view_lambda c.as_slice-2.result.now) 0) (c.as_slice-4.ensures.value ∙ c.in_ok-mentions.ensures)
    ∙ ap (λ (ls : List LambdaCode). known_from (mentions_of (view_program p)) (map view_lambda ls) 0) c.as_slice-2.ensures))
    (c.as_slice-5.ensures.value ∙ c.in_ok-set.ensures)
    c.in_ok-lines.ensures
