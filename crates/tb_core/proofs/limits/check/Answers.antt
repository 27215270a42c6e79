use Rattle.std.proofs.Common.{sym, arith}
use Rattle.tb_core.specs.View.{view_program}
use Rattle.tb_core.proofs.TotalWidths.{program_totals}
use Rattle.tb_core.proofs.limits.check.Goals as goal

pub returns-clause-width : goal.returns-clause-width
returns-clause-width c = omega (arith, c.in_ok-program_totals.ensures.small, (program_totals (view_program c.args.program.now) c.in_ok-program_totals.field-0 (sym c.in_ok-program_totals.ensures.value)).0)

pub returns-clause-squares : goal.returns-clause-squares
returns-clause-squares c = omega (arith, c.in_ok-program_totals.ensures.small, (program_totals (view_program c.args.program.now) c.in_ok-program_totals.field-0 (sym c.in_ok-program_totals.ensures.value)).1)
