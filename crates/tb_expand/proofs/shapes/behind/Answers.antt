use Rattle.std.proofs.Common.{arith}
use Rattle.tb_expand.proofs.Rows.{more_data}
use Rattle.tb_expand.proofs.shapes.behind.Goals as goal

pub returns-else-datums-eq3 : goal.returns-else-datums-eq3
returns-else-datums-eq3 c = more_data c.args.datums.now (omega arith)
