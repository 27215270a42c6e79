use Rattle.std.proofs.Common.{◌+◌, ◌*◌}
use Rattle.tb_live.proofs.rows.+rows.Given as goal

abbrev pub decreases-add_op : goal.decreases-add_op
decreases-add_op l = 3 * l.levels + 1

abbrev pub decreases-put_later : goal.decreases-put_later
decreases-put_later l = 3 * l.levels + 2

abbrev pub decreases-put_rows : goal.decreases-put_rows
decreases-put_rows l = 3 * l.levels
