use Rattle.std.proofs.Common.{ap, ◌∙◌}
use Rattle.tb_moves.specs.declared.loc.Loc.{Loc}
use Rattle.tb_moves.proofs.Progress.{IsTaken-remove}
use Rattle.tb_moves.proofs.order.take_reader.Goals as goal

pub returns-clause-some : goal.returns-clause-some
returns-clause-some c =
    let found = rw c.as_slice.ensures.value at c.in_ok-index.ensures.some in
    let value = c.remove-reader.ensures.value in
    IsTaken-remove c.args.pending.now.items _ _ _ found.0 value (ap (λ (m : Loc × Loc). m.1) value ∙ found.1 _) c.remove-reader.ensures.items
