use Rattle.std.proofs.Common.{◌+◌, [], ◌∷◌, arith}
use Rattle.tb_core_rows.proofs.Quiets.{one_apart, form_keeps}
use Rattle.tb_core_rows.proofs.programs.wide_let.Goals as goal

pub of_one-requires : goal.of_one-requires
of_one-requires c =
    let n = c.args.count + 1 in
    form_keeps _ _ (1 ∷ []) (n + 1) c.in_ok-form.form c.new.ensures.items c.new-2.ensures.items (c.in_ok-form.ensures [] [] [] n (c.in_ok-sequence.ensures [])) (one_apart 1) (omega (arith, c.requires.few))
