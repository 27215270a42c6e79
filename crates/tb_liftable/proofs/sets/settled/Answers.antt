use Rattle.std.proofs.Common.{sym, ◌∙◌, ap, ◌-◌, ℕ, List, length, filter}
use Rattle.tb_liftable.specs.Liftable.{fits, rounds}
use Rattle.tb_liftable.specs.calls.Given.{given}
use Rattle.tb_liftable.proofs.Settling.{stops, goes, over, begun}
use Rattle.tb_liftable.proofs.sets.settled.Goals as goal

pub loop-at-init : goal.loop-at-init
loop-at-init c = begun (given c.args.source) c.args.candidates.items (length c.as_slice-count.result.now)

pub loop-at-preserved : goal.loop-at-preserved
loop-at-preserved c =
    let g = given c.args.source in
    goes g c.loop-at.set.items c.in_ok-next.next.items _ c.loop-at.at (length c.as_slice-count.result.now)
    (c.in_ok-next.ensures ∙ ap (λ (s : List ℕ). filter (fits g s) s) c.as_slice.ensures.value) c.loop-at-test.true c.loop-at.invariant

pub returns-then-as_slice : goal.returns-then-as_slice
returns-then-as_slice c =
    let g = given c.args.source in
    stops g c.loop-at.set.items c.in_ok-next.next.items _ (length c.as_slice-count.result.now - c.loop-at.at)
    (c.in_ok-next.ensures ∙ ap (λ (s : List ℕ). filter (fits g s) s) c.as_slice.ensures.value)
    (sym (ap length c.as_slice-in-loop-at.ensures.value) ∙ (c.if-as_slice.true ∙ ap length c.as_slice-in-loop-at-2.ensures.value)) c.loop-at.invariant
    ∙ ap (λ (s : List ℕ). rounds g (length s) c.args.candidates.items) c.as_slice-count.ensures.value

pub returns : goal.returns
returns c =
    let g = given c.args.source in
    over g c.loop-at.set.items _ c.loop-at.at (length c.as_slice-count.result.now) c.loop-at-test.false c.loop-at.invariant
    ∙ ap (λ (s : List ℕ). rounds g (length s) c.args.candidates.items) c.as_slice-count.ensures.value
