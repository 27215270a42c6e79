-- The first node that is too deep, by levels.
use Rattle.std.proofs.Common.{◌≡◌, sym, ap, ◌∙◌, ℕ, zero, suc, ◌-◌, ◌<◌, arith, Some}
use Rattle.tb_prim.specs.declared.place.Place.{Place}
use Rattle.tb_expand.specs.Trees.{Node, At, Core}
use Rattle.tb_expand.specs.Splits.{first_deep, first_deep_in}

pub one_level : (n : ℕ) → 0 < n → suc (n - 1) ≡ n
one_level n h = omega arith

pub deep_here : (e : Node) (p : Place) (c : Core) → e ≡ At p c → first_deep zero e ≡ Some p
deep_here e p c q = ap (first_deep zero) q

pub deep_below : (n : ℕ) (p : Place) (c : Core) → 0 < n → first_deep n (At p c) ≡ first_deep_in (n - 1) c
deep_below n p c h = ap (λ m. first_deep m (At p c)) (sym (one_level n h))

pub deep_inside : (n : ℕ) (e : Node) (p : Place) (c : Core) → 0 < n → e ≡ At p c → first_deep n e ≡ first_deep_in (n - 1) c
deep_inside n e p c h q = ap (first_deep n) q ∙ deep_below n p c h
