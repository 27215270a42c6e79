-- The lines of an operand order as the code has them.
use Rattle.tb_core.specs.declared.order.OrderLine.{OrderLine}
use Rattle.tb_core.specs.OperandOrder.{Line}

-- a line of the code as a line of the order
abbrev pub view_line : OrderLine → Line
view_line l = record { place = l.place; site = l.site; order = l.order }
