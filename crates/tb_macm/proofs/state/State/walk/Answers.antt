use Rattle.std.proofs.Common.{◌≡◌, ℕ, ap, subst, ◌∙◌, arith}
use Rattle.tb_mac.specs.MacStep.{heap_of}
use Rattle.tb_macm.specs.declared.answer.Walk.{Walk}
use Rattle.tb_macm.specs.States.{mac_of}
use Rattle.tb_macm.specs.calls.Quiet.{walked_of}
use Rattle.tb_macm.proofs.Lists.{Walking, walking_start, walking_step, walking_ended, walking_first_missing, walking_second_missing, walking_full}
use Rattle.tb_macm.proofs.state.State.walk.Goals as goal

pub loop-count-init : goal.loop-count-init
loop-count-init c = walking_start (heap_of (mac_of c.args.self.now)) c.args.list c.args.elements.now (omega arith)

pub loop-count-preserved : goal.loop-count-preserved
loop-count-preserved c =
    walking_step (heap_of (mac_of c.args.self.now)) c.args.list c.loop-count.rest c.in-Some-heap_word.element c.in-Some-heap_word-2.next c.loop-count.count c.in-Some.at c.loop-count.elements
    c.in-Some.ensures c.in-Some-heap_word.ensures c.in-Some-heap_word-2.ensures c.loop-count-test.true c.loop-count.invariant

pub returns-in-None-clause-walked : goal.returns-in-None-clause-walked
returns-in-None-clause-walked c =
    ap (λ (w : Walk). walked_of w c.loop-count.elements) c.ends_list.ensures
    ∙ walking_ended (heap_of (mac_of c.args.self.now)) c.args.list c.loop-count.rest c.loop-count.count c.loop-count.elements c.in-None.ensures c.loop-count.invariant

pub returns-in-None-heap_word-clause-walked : goal.returns-in-None-heap_word-clause-walked
returns-in-None-heap_word-clause-walked c =
    walking_first_missing (heap_of (mac_of c.args.self.now)) c.args.list c.loop-count.rest c.loop-count.count c.in-Some.at c.loop-count.elements c.in-Some.ensures c.in-None-heap_word.ensures c.loop-count-test.true c.loop-count.invariant

pub returns-in-None-heap_word-2-clause-walked : goal.returns-in-None-heap_word-2-clause-walked
returns-in-None-heap_word-2-clause-walked c =
    walking_second_missing (heap_of (mac_of c.args.self.now)) c.args.list c.loop-count.rest c.in-Some-heap_word.element c.loop-count.count c.in-Some.at c.loop-count.elements c.in-Some.ensures c.in-Some-heap_word.ensures c.in-None-heap_word-2.ensures c.loop-count-test.true c.loop-count.invariant

pub returns-in-Some-pair_at-clause-walked : goal.returns-in-Some-pair_at-clause-walked
returns-in-Some-pair_at-clause-walked c =
    walking_full (heap_of (mac_of c.args.self.now)) c.args.list c.loop-count.rest c.loop-count.count c.in-Some-pair_at.field-0 c.loop-count.elements c.in-Some-pair_at.ensures (omega arith) c.loop-count.invariant

pub returns-in-None-pair_at-clause-walked : goal.returns-in-None-pair_at-clause-walked
returns-in-None-pair_at-clause-walked c =
    let H = heap_of (mac_of c.args.self.now) in
    let k : c.loop-count.count ≡ 12 = omega arith in
    let w : Walking H c.args.list c.loop-count.rest 12 c.loop-count.elements = subst (λ (n : ℕ). Walking H c.args.list c.loop-count.rest n c.loop-count.elements) k c.loop-count.invariant in
    ap (λ (v : Walk). walked_of v c.loop-count.elements) c.ends_list-in-None-pair_at.ensures
    ∙ walking_ended H c.args.list c.loop-count.rest 12 c.loop-count.elements c.in-None-pair_at.ensures w
