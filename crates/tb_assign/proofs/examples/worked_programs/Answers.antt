use Rattle.std.proofs.Common.{refl}
use Rattle.tb_assign.proofs.examples.worked_programs.Goals as goal

pub returns-clause-assigned_capture : goal.returns-clause-assigned_capture
returns-clause-assigned_capture c = (70, refl)

pub returns-clause-assigned_in_order : goal.returns-clause-assigned_in_order
returns-clause-assigned_in_order c = (70, refl)

pub returns-clause-early_read : goal.returns-clause-early_read
returns-clause-early_read c = (70, refl)

pub returns-clause-mixed_operands : goal.returns-clause-mixed_operands
returns-clause-mixed_operands c = (120, refl)
