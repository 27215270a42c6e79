use Rattle.std.proofs.Common.{arith}
use Rattle.tb_expand.proofs.Rows.{no_body}
use Rattle.tb_expand.proofs.shapes.first_and_body.Goals as goal

pub returns-then-datums-lt2 : goal.returns-then-datums-lt2
returns-then-datums-lt2 c = no_body c.args.datums.now (omega arith)
