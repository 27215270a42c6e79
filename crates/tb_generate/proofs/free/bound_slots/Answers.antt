use Rattle.std.proofs.Common.{◌∙◌, ◌&&◌, not, sym, ap, ℕ, List, [], ◌∷◌}
use Rattle.tb_core.proofs.FirstUses.{is_in-asked}
use Rattle.tb_core.specs.FreeVariables.{is_in, without}
use Rattle.tb_ir.specs.AnfMachine.{free_block}
use Rattle.tb_ir.specs.AnfPlain.{view_block}
use Rattle.tb_generate.specs.calls.Bodies.{captured_at, home_at}
use Rattle.tb_generate.proofs.Members.{if-ok, in-without}
use Rattle.tb_generate.proofs.Slots.{same-slots}
use Rattle.tb_generate.proofs.free.bound_slots.Goals as goal

pub returns : goal.returns
returns c =
    let y = c.args.variable ∷ [] in
    let free = free_block (captured_at c.args.body) (view_block c.args.block.now) in
    if-ok _ _ c.with_slots.result
    (λ ss h. h ∙ same-slots (home_at c.args.body) c.as_slice.result.now (without y free) 0 c.args.waiting.now
    (λ x. ap (λ (xs : List ℕ). is_in xs x) c.as_slice.ensures.keys ∙ sym (is_in-asked c.remove.new.set.keys x) ∙ c.remove.ensures x
    ∙ ap (λ b. not (is_in y x) && b) (c.in_ok-set.ensures x) ∙ sym (in-without y free x)))
    c.with_slots.ensures
