use Rattle.std.proofs.Common.{◌≡◌, ℕ, Some, List, get_or, length, slice_get, arith, ap, subst}
use Rattle.std.proofs.lemmas.Option.{slice_get-get_or}
use Rattle.tb_semantics.proofs.Reachable.{in_has}
use Rattle.tb_space.proofs.Following.{get-in}
use Rattle.tb_space.proofs.Marks.{no_more, within}
use Rattle.tb_space.proofs.search.Search.size.Goals as goal

pub word_at-requires : goal.word_at-requires
word_at-requires c =
    let s = c.args.self.now in
    let xs = c.deref-at-items.result.now in
    let i = c.loop-at.at-index in
    let read : slice_get xs i ≡ Some (get_or xs i 0) = slice_get-get_or xs i 0 c.loop-at-test.true in
    let there : slice_get s.found.items i ≡ Some (get_or xs i 0) = subst (λ (ys : List ℕ). slice_get ys i ≡ Some (get_or xs i 0)) c.deref-at-items.ensures.value read in
    let h = within s.marks.items s.found.items (get_or xs i 0) s.marked (in_has s.found.items (get_or xs i 0) (get-in s.found.items i (get_or xs i 0) there)) in
    omega (arith, h, s.marks.ok.0, c.requires.marks)

pub overflow_add-sum : goal.overflow_add-sum
overflow_add-sum c =
    let s = c.args.self.now in
    let h = no_more s.marks.items s.found.items s.marked s.once in
    let n = ap length c.deref-at-items.ensures.value in
    omega (arith, h, n, s.marks.ok.0, s.found.ok.0, c.requires.few, c.loop-at-test.true, c.loop-at.invariant.small, c.object_size-sum.ensures.small)

pub returns-clause-small : goal.returns-clause-small
returns-clause-small c =
    let s = c.args.self.now in
    let h = no_more s.marks.items s.found.items s.marked s.once in
    let n = ap length c.deref-at-items.ensures.value in
    omega (arith, h, n, s.marks.ok.0, s.found.ok.0, c.requires.few, c.loop-at.auto.at-index-end, c.loop-at.invariant.small)
