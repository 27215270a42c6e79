use Rattle.std.proofs.Common.{◌≡◌, ◌++◌, map, drop}
use Rattle.tb_mac.specs.Rules.{failing_from}
use Rattle.tb_mac.specs.declared.code.PlaceEntry.{PlaceEntry}
use Rattle.tb_macm_rows.proofs.code.places_of.Given as goal

abbrev pub invariant-loop-number : goal.invariant-loop-number
invariant-loop-number l = map (λ (p : PlaceEntry). p.instr) l.places.items ++ failing_from l.number (drop l.number l.code) ≡ failing_from 0 l.code
