use Rattle.std.proofs.Common.{◌≡◌, ℕ, map, nat_eq, is_some, drop}
use Rattle.indexmap.specs.IndexMap.{get}
use Rattle.tb_core.specs.FreeVariables.{is_in}
use Rattle.tb_core.specs.Lifting.{Lifted, view_lifted}
use Rattle.tb_ir.specs.FreeVariables.{added_to}
use Rattle.tb_anf.specs.calls.Captures.{added_in}
use Rattle.tb_anf.proofs.captures.lift_index.Given as goal

abbrev pub invariant-loop-at : goal.invariant-loop-at
invariant-loop-at l = record {
  added : (k : ℕ) → added_in l.set (get nat_eq l.index k) ≡ added_to (map view_lifted (drop l.at l.set)) k;
  lifted : (k : ℕ) → is_some (get nat_eq l.index k) ≡ is_in (map (λ (m : Lifted). m.lambda) (map view_lifted (drop l.at l.set))) k;
}
