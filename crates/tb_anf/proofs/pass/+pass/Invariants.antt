use Rattle.std.proofs.Common.{◌+◌, ◌*◌, map, drop}
use Rattle.tb_ir.specs.Plain.{trees, view}
use Rattle.tb_anf.specs.calls.Lines.{line_at}
use Rattle.tb_anf.specs.calls.Steps.{OperandsLeft, NamedLeft, FrontLeft}
use Rattle.tb_anf.proofs.pass.+pass.Given as goal

abbrev pub decreases-evaluation : goal.decreases-evaluation
decreases-evaluation l = 8 * l.levels

abbrev pub decreases-operand : goal.decreases-operand
decreases-operand l = 8 * l.levels + 1

abbrev pub decreases-block : goal.decreases-block
decreases-block l = 8 * l.levels + 1

abbrev pub decreases-operands : goal.decreases-operands
decreases-operands l = 8 * l.levels + 2

abbrev pub decreases-named_operands : goal.decreases-named_operands
decreases-named_operands l = 8 * l.levels + 2

abbrev pub decreases-front : goal.decreases-front
decreases-front l = 8 * l.levels + 2

abbrev pub decreases-evaluation_of : goal.decreases-evaluation_of
decreases-evaluation_of l = 8 * l.levels + 3

abbrev pub invariant-operands-loop-expr : goal.invariant-operands-loop-expr
invariant-operands-loop-expr l =
    OperandsLeft (line_at l.walk) l.initial.number (trees (map view l.exprs)) l.number (trees (map view (drop l.expr-index l.exprs))) l.groups.items l.atoms.items

abbrev pub invariant-named_operands-loop-index : goal.invariant-named_operands-loop-index
invariant-named_operands-loop-index l =
    NamedLeft (line_at l.walk) l.initial.number l.variables (trees (map view l.values)) l.number (drop l.index l.variables) (trees (map view (drop l.index l.values))) l.groups.items

abbrev pub invariant-front-loop-expr : goal.invariant-front-loop-expr
invariant-front-loop-expr l =
    FrontLeft (line_at l.walk) l.initial.number (trees (map view l.exprs)) l.number (trees (map view (drop l.expr-index l.exprs))) l.out.items
