use Rattle.std.proofs.Common.{◌+◌, ◌*◌}
use Rattle.tb_generate.proofs.homes.+origins.Given as goal

abbrev pub decreases-note_origins : goal.decreases-note_origins
decreases-note_origins l = 2 * l.levels

abbrev pub decreases-note_origins_in : goal.decreases-note_origins_in
decreases-note_origins_in l = 2 * l.levels + 1
