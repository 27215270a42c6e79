use Rattle.std.proofs.Common.{sym}
use Rattle.tb_core.specs.View.{view_program}
use Rattle.tb_core.proofs.TotalWidths.{program_totals}
use Rattle.tb_core.proofs.widths.squared_widths.Goals as goal

pub returns : goal.returns
returns c = (program_totals (view_program c.args.program.now) c.in-Ok.totals (sym c.in-Ok.ensures.value)).1
