use Rattle.std.proofs.Common.{◌≡◌, ◌<◌, Some, take, slice_get, refl, arith, ◌∙◌}
use Rattle.std.proofs.lemmas.List.{length-take-le}
use Rattle.std.proofs.lemmas.Option.{slice_get_read}
use Rattle.tb_semantics.proofs.Reachable.{in_has}
use Rattle.tb_space.proofs.Following.{following-start, following-step, following-end, get-in}
use Rattle.tb_space.proofs.Marks.{no_more, within}
use Rattle.tb_space.proofs.search.Search.follow.Goals as goal

pub loop-next-init : goal.loop-next-init
loop-next-init c = record {
  search = following-start (take c.args.limit c.args.machine.now.mac.memory) c.args.limit c.args.self.now.found.items;
  size = refl;
}

pub note_object-requires-clause-there : goal.note_object-requires-clause-there
note_object-requires-clause-there c =
    let s = c.loop-next.self in
    let at = c.index-at.result.now in
    let read : slice_get s.found.items c.loop-next.next ≡ Some at = slice_get_read s.found.items s.found.len c.loop-next.next at s.found.ok.0 (omega (arith, c.len.ensures, c.loop-next-test.true)) c.index-at.ensures in
    let h = within s.marks.items s.found.items at s.marked (in_has s.found.items at (get-in s.found.items c.loop-next.next at read)) in
    omega (arith, h, s.marks.ok.0, c.loop-next.invariant.size, c.requires.marks)

pub loop-next-smaller : goal.loop-next-smaller
loop-next-smaller c =
    let s = c.loop-next.self in
    let h = no_more s.marks.items s.found.items s.marked s.once in
    omega (arith, h, s.marks.ok.0, s.found.ok.0, c.len.ensures, c.loop-next-test.true, c.note_object.ensures.size)

pub loop-next-preserved : goal.loop-next-preserved
loop-next-preserved c =
    let a = c.args in
    let s = c.loop-next.self in
    let at = c.index-at.result.now in
    let lt : c.loop-next.next < s.found.len = omega (arith, c.len.ensures, c.loop-next-test.true) in
    let read : slice_get s.found.items c.loop-next.next ≡ Some at = slice_get_read s.found.items s.found.len c.loop-next.next at s.found.ok.0 lt c.index-at.ensures in
    record {
      search = following-step (take a.limit a.machine.now.mac.memory) a.limit a.self.now.found.items s.found.items c.note_object.new.self.found.items c.loop-next.next at read (omega (arith, lt, s.found.ok.0)) c.note_object.ensures.found c.loop-next.invariant.search;
      size = c.note_object.ensures.size ∙ c.loop-next.invariant.size;
    }

pub returns-clause-found : goal.returns-clause-found
returns-clause-found c = λ low.
    let a = c.args in
    let s = c.loop-next.self in
    following-end (take a.limit a.machine.now.mac.memory) a.limit a.self.now.found.items s.found.items c.loop-next.next
    (length-take-le a.limit a.machine.now.mac.memory c.requires.heap)
    (omega (arith, s.found.ok.0, c.len.ensures, c.loop-next-test.false)) s.once c.loop-next.invariant.search low
