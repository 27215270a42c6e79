use Rattle.std.proofs.Common.{◌≡◌, refl, sym, ◌∙◌, ap, arith, set, true, get_or, List, drop_of_length-le, ℕ, [], drop}
use Rattle.tb_generate.specs.calls.Bits.{with_slots}
use Rattle.tb_generate.specs.calls.Bodies.{home_at}
use Rattle.tb_generate.proofs.Slots.{mark-step, no-slots, set-within}
use Rattle.tb_generate.proofs.body.mark.Goals as goal
use Rattle.tb_generate.proofs.body.mark.Goals.{then-slot-len, else-slot-len}

pub loop-variable-preserved : goal.loop-variable-preserved
loop-variable-preserved c =
    let home = home_at c.args.body in
    let xs = c.args.variables.now in
    let x = get_or xs c.loop-variable.variable-index 0 in
    let marked : c.if-slot-len.slots.items ≡ set c.loop-variable.slots.items (home x) true =
    elim c.if-slot-len.branch [
      | then-slot-len w ↦ ap (λ v. v.items) w.slots-is ∙ ap (λ k. set c.loop-variable.slots.items k true) c.home-slot.ensures
      | else-slot-len w ↦
          let le = w.if-slot-len.false in
          let len = c.len.ensures in
          let at = c.home-slot.ensures in
          set-within c.loop-variable.slots.items c.if-slot-len.slots.items (home x) (omega (arith, le, len, at)) (ap (λ v. v.items) w.slots-is)
    ] in
    sym (mark-step home xs _ _ x _ _ c.loop-variable-test.true (omega arith) refl marked) ∙ c.loop-variable.invariant

pub returns : goal.returns
returns c =
    let empty : drop c.loop-variable.variable-index c.args.variables.now ≡ [] = drop_of_length-le c.args.variables.now c.loop-variable-test.false in
    sym (no-slots (home_at c.args.body) 0 c.loop-variable.slots.items)
    ∙ ap (λ (xs : List ℕ). with_slots (home_at c.args.body) xs 0 c.loop-variable.slots.items) (sym empty)
    ∙ c.loop-variable.invariant
