use Rattle.std.proofs.Common.{length, take}
use Rattle.std.specs.Prelude.{All}
use Rattle.tb_mac.specs.Rules.{InstrOk}
use Rattle.tb_macm_rows.proofs.code.fields_ok.Given as goal

abbrev pub invariant-loop-instr : goal.invariant-loop-instr
invariant-loop-instr l = All (InstrOk l.parts (length l.code)) (take l.instr-index l.code)
