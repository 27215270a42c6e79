use Rattle.std.proofs.Common.{◌≡◌, ◌++◌, ◌∷◌, [], List, ℕ, true, arith, subst}
use Rattle.tb_space.specs.calls.Noting.{is_apart}
use Rattle.tb_space.proofs.Marks.{Marked, apart-last, has_last, marked-last, within}
use Rattle.tb_space.proofs.search.Search.clear.Goals as goal

pub index_mut-requires : goal.index_mut-requires
index_mut-requires c =
    let s = c.loop-at.self in
    let e : s.found.items ≡ c.pop.new.self.items ++ c.in-Some.at ∷ [] = c.in-Some.ensures.items in
    let m : Marked s.marks.items (c.pop.new.self.items ++ c.in-Some.at ∷ []) = subst (Marked s.marks.items) e s.marked in
    let lt = within s.marks.items _ c.in-Some.at m (has_last c.pop.new.self.items c.in-Some.at) in
    omega (arith, lt, s.marks.ok.0)

pub invariant_of-self : goal.invariant_of-self
invariant_of-self c =
    let s = c.loop-at.self in
    let e : s.found.items ≡ c.pop.new.self.items ++ c.in-Some.at ∷ [] = c.in-Some.ensures.items in
    let m : Marked s.marks.items (c.pop.new.self.items ++ c.in-Some.at ∷ []) = subst (Marked s.marks.items) e s.marked in
    let o : is_apart (c.pop.new.self.items ++ c.in-Some.at ∷ []) ≡ true = subst (λ (xs : List ℕ). is_apart xs ≡ true) e s.once in
    record {
      marked = marked-last s.marks.items c.pop.new.self.items c.in-Some.at m o;
      once = (apart-last c.pop.new.self.items c.in-Some.at o).0;
      room = omega (arith, s.room, c.in-Some.ensures.capacity);
    }
