use Rattle.std.proofs.Common.{◌≡◌, ◌^◌, ◌-◌, drop, max, min}
use Rattle.tb_live.specs.Live.{pressure_of}
use Rattle.tb_live.proofs.table.longest.Given as goal

abbrev pub invariant-loop-row : goal.invariant-loop-row
invariant-loop-row l = max l.longest (min (pressure_of (drop l.row-index l.rows)) (2 ^ 32 - 1)) ≡ min (pressure_of l.rows) (2 ^ 32 - 1)
