use Rattle.std.proofs.Common.{◌+◌, ◌*◌}
use Rattle.tb_generate.proofs.homes.+binders.Given as goal

abbrev pub decreases-put_binders : goal.decreases-put_binders
decreases-put_binders l = 2 * l.levels

abbrev pub decreases-put_binders_in : goal.decreases-put_binders_in
decreases-put_binders_in l = 2 * l.levels + 1
