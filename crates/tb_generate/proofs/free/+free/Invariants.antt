use Rattle.std.proofs.Common.{◌+◌, ◌*◌}
use Rattle.tb_generate.proofs.free.+free.Given as goal

abbrev pub decreases-free : goal.decreases-free
decreases-free l = 2 * l.levels

abbrev pub decreases-add_free : goal.decreases-add_free
decreases-add_free l = 2 * l.levels + 1
