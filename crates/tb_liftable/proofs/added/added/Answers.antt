use Rattle.std.proofs.Common.{◌∙◌, ap, nat_eq, List, ℕ}
use Rattle.indexmap.specs.IndexMap.{get}
use Rattle.tb_core.specs.FreeVariables.{of_lambdas}
use Rattle.tb_liftable.specs.Added.{plain}
use Rattle.tb_liftable.specs.calls.Given.{given}
use Rattle.tb_liftable.proofs.Reaching.{added-found, all_done}
use Rattle.tb_liftable.proofs.added.added.Goals as goal

pub returns : goal.returns
returns c =
    let g = given c.args.source in
    let known : ℕ → _ = get nat_eq c.args.members.now in
    let f : ℕ → List ℕ = λ m. plain known (g.free m) in
    c.from_vec.ensures ∙ (c.in_ok-in_order.ensures
    ∙ added-found g c.args.set.now known c.args.lambda c.in_ok-reached.field-0.keys c.as_slice-2.result.now c.requires.within c.requires.members c.in_ok-reached.ensures
    (c.as_slice-2.ensures.value ∙ (all_done f c.as_slice-from-items.result.now c.loop-from.from-index c.loop-from.all.items c.loop-from-test.false c.loop-from.invariant
    ∙ ap (of_lambdas f) c.as_slice-from-items.ensures.keys)))
