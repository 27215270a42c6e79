use Rattle.std.proofs.Common.{◌+◌, ◌*◌}
use Rattle.tb_generate.proofs.blocks.+blocks.Given as goal

abbrev pub decreases-put_block : goal.decreases-put_block
decreases-put_block l = 2 * l.levels

abbrev pub decreases-put_bound : goal.decreases-put_bound
decreases-put_bound l = 2 * l.levels + 1

abbrev pub decreases-put_tail : goal.decreases-put_tail
decreases-put_tail l = 2 * l.levels + 1
