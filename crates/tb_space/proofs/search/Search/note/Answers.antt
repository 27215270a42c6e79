use Rattle.std.proofs.Common.{◌≡◌, ◌<◌, false, length, get_or, arith, sym, ◌∙◌}
use Rattle.tb_semantics.specs.Graph.{has}
use Rattle.tb_space.proofs.Marks.{apart-push, marked-push, room}
use Rattle.tb_space.proofs.search.Search.note.Goals as goal

pub push_reserved-requires : goal.push_reserved-requires
push_reserved-requires c =
    let s = c.args.self.now in
    let unmarked : get_or s.marks.items c.args.at false ≡ false = cc in
    let free : has s.found.items c.args.at ≡ false = sym (s.marked c.args.at) ∙ unmarked in
    let lt : c.args.at < length s.marks.items = omega (arith, s.marks.ok.0) in
    let more = room s.marks.items s.found.items c.args.at s.marked s.once free lt in
    omega (arith, s.room, s.marks.ok.0, s.found.ok.0, more)

pub invariant_of-self : goal.invariant_of-self
invariant_of-self c =
    let s = c.args.self.now in
    let e = c.push_reserved.ensures in
    let unmarked : get_or s.marks.items c.args.at false ≡ false = cc in
    let free : has s.found.items c.args.at ≡ false = sym (s.marked c.args.at) ∙ unmarked in
    let lt : c.args.at < length s.marks.items = omega (arith, s.marks.ok.0) in
    record {
      marked = rw e.items (marked-push s.marks.items s.found.items c.args.at s.marked lt);
      once = rw e.items (apart-push s.found.items c.args.at s.once free);
      room = omega (arith, s.room, e.capacity);
    }
