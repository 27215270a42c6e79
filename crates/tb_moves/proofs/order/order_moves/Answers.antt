use Rattle.std.proofs.Common.{◌≡◌, ◌≢◌, ℕ, List, [], ◌∷◌, refl, sym, ap, ◌∙◌, append-nil, rules}
use Rattle.tb_moves.specs.declared.loc.Loc.{Loc}
use Rattle.tb_moves.proofs.Progress.{started, begun, skipped, followed, finished, moved_on, popped_rest, unwrap_or-top, same_state, nil-from}
use Rattle.tb_moves.proofs.order.order_moves.Goals as goal

pub loop-top-init : goal.loop-top-init
loop-top-init c =
    same_state c.args.moves.now c.args.scratch refl c.new-path.ensures c.pending_of-pending.ensures c.clear.ensures
    (started c.args.moves.now c.args.scratch c.args.scratch c.requires.few c.requires.targets_differ c.requires.scratch_free)

pub returns-in_default-pop-clause-parallel : goal.returns-in_default-pop-clause-parallel
returns-in_default-pop-clause-parallel c =
    let none = nil-from c.loop-top.pending.items c.in_default-pop.ensures.variant.1 in
    finished ℕ c.args.moves.now c.args.scratch c.loop-top.origin c.loop-top.out c.requires.targets_differ c.requires.scratch_free
    (same_state c.args.moves.now c.args.scratch refl (sym c.in_default.ensures) (sym none) refl c.loop-top.invariant)

pub loop-top-preserved-then-eq : goal.loop-top-preserved-then-eq
loop-top-preserved-then-eq c =
    let m : Loc × Loc = (c.in-Some-pop.target, c.in-Some-pop.source) in
    let e : c.in-Some-pop.target ≡ c.in-Some-pop.source = search rules in
    let u = same_state c.args.moves.now c.args.scratch refl (sym c.in_default.ensures) (sym c.in-Some-pop.ensures.items) refl c.loop-top.invariant in
    same_state c.args.moves.now c.args.scratch refl c.in_default.ensures (sym (append-nil c.pop.new.self.items)) refl
    (skipped c.args.moves.now c.args.scratch c.loop-top.origin c.pop.new.self.items [] c.loop-top.out m e u)

pub loop-top-preserved-in_default : goal.loop-top-preserved-in_default
loop-top-preserved-in_default c =
    let m : Loc × Loc = (c.in-Some-pop.target, c.in-Some-pop.source) in
    let n : c.in-Some-pop.target ≢ c.in-Some-pop.source = search rules in
    let u = same_state c.args.moves.now c.args.scratch refl (sym c.in_default.ensures) (sym c.in-Some-pop.ensures.items) refl c.loop-top.invariant in
    same_state c.args.moves.now c.args.scratch refl (rw c.in_default.ensures at c.push.ensures) (sym (append-nil c.pop.new.self.items)) refl
    (begun c.args.moves.now c.args.scratch c.loop-top.origin c.pop.new.self.items [] c.loop-top.out m n u)

pub loop-top-preserved-in-Some-take_reader : goal.loop-top-preserved-in-Some-take_reader
loop-top-preserved-in-Some-take_reader c =
    let path = c.in-Some.ensures in
    let taken = c.in-Some-take_reader.ensures.some in
    let u = same_state c.args.moves.now c.args.scratch refl (sym path.1) (sym taken.2) refl c.loop-top.invariant in
    same_state c.args.moves.now c.args.scratch refl (rw path.1 at c.push-in-Some-take_reader.ensures) taken.3 refl
    (followed c.args.moves.now c.args.scratch c.loop-top.origin c.in-Some.top path.0 taken.0 taken.1 c.loop-top.out c.in-Some-take_reader.reader u)

pub loop-top-preserved : goal.loop-top-preserved
loop-top-preserved c =
    let save = c.save_if_read-origin in
    let rest = c.pop-in-loop-top.new.self in
    let left = popped_rest c.pop-in-loop-top.result c.loop-top.path c.in-Some.ensures.0 rest c.in-Some.top c.in-Some.ensures.1 c.pop-in-loop-top.ensures in
    let path = c.in-Some.ensures.1 ∙ ap (λ (ls : List Loc). c.in-Some.top ∷ ls) (sym left) in
    let source = c.unwrap_or.ensures ∙ unwrap_or-top c.top-in-loop-top.result rest save.result c.top-in-loop-top.ensures in
    let u = same_state c.args.moves.now c.args.scratch refl (sym path) refl refl c.loop-top.invariant in
    same_state c.args.moves.now c.args.scratch refl refl c.in_default-take_reader.ensures.none (rw source at c.push-in-loop-top.ensures)
    (moved_on c.args.moves.now c.args.scratch c.loop-top.origin c.in-Some.top save.result rest c.loop-top.pending.items c.loop-top.out save.new.out
    save.ensures.saved save.ensures.unread c.in_default-take_reader.ensures.unread u)
