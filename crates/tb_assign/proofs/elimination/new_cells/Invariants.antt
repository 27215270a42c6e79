use Rattle.std.proofs.Common.{◌≡◌, ◌++◌, map, drop}
use Rattle.tb_ir.specs.Plain.{view}
use Rattle.tb_assign.specs.calls.Cells.{made}
use Rattle.tb_assign.proofs.elimination.new_cells.Given as goal

abbrev pub invariant-loop-variable : goal.invariant-loop-variable
invariant-loop-variable l =
    map view l.out.items ++ map (made l.place) (drop l.variable-index l.variables) ≡ map (made l.place) l.variables
