use Rattle.std.proofs.Common.{◌≡◌, [], length, map, inl, inr, arith}
use Rattle.std.proofs.lemmas.List.{length-map}
use Rattle.tb_core.specs.View.{view_lambda}
use Rattle.tb_core.specs.FreeVariables.{lambdas_free}
use Rattle.tb_core.proofs.FreeByNumber.{free_at, free_past}
use Rattle.tb_core.proofs.Views.{viewing}
use Rattle.tb_core.proofs.free.+free.Goals as goal
use Rattle.tb_core.proofs.free.+free.Goals.{put_lambda-then-number-first-via-then-number-first, put_lambda-then-number-first-via-else-number-first+then-lambdas-number}

pub put_lambda-returns-then-number-first : goal.put_lambda-returns-then-number-first
put_lambda-returns-then-number-first t c =
    let size : length (map view_lambda c.args.lambdas.now) ≡ length c.args.lambdas.now = length-map c.args.lambdas.now view_lambda in
    let past : lambdas_free (map view_lambda c.args.lambdas.now) c.args.first c.args.number ≡ [] =
    elim c.then-number-first.branch [
      | put_lambda-then-number-first-via-then-number-first w ↦ free_past (map view_lambda c.args.lambdas.now) c.args.first c.args.number (inl w.if-number-first.true)
      | put_lambda-then-number-first-via-else-number-first+then-lambdas-number w ↦ free_past (map view_lambda c.args.lambdas.now) c.args.first c.args.number (inr (omega (arith, w.if-number-first.false, w.if-lambdas-number.true)))
    ] in
    grind (viewing, past)

pub put_lambda-returns : goal.put_lambda-returns
put_lambda-returns t c =
    let e = free_at c.args.lambdas.now c.after.result.now c.args.first c.args.number c.index-lambdas-index.result c.if-number-first.false c.if-lambdas-number.false c.index-lambdas-index.is c.after.ensures in
    grind (viewing, e)
