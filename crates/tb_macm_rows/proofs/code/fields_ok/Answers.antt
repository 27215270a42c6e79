use Rattle.std.proofs.Common.{refl, length, subst}
use Rattle.std.specs.Prelude.{All}
use Rattle.std.proofs.lemmas.List.{take_all}
use Rattle.std.proofs.lemmas.List.Elements.{All-more}
use Rattle.tb_mac.specs.Rules.{InstrOk}
use Rattle.tb_macm_rows.proofs.code.fields_ok.Goals as goal

pub loop-instr-preserved : goal.loop-instr-preserved
loop-instr-preserved c = All-more (InstrOk c.args.parts.now (length c.args.code.now)) c.args.code.now c.loop-instr.instr-index _ c.loop-instr-test.true c.loop-instr.invariant (c.if-not-instr_ok.ensures.0 refl)

pub returns : goal.returns
returns c t = subst (All (InstrOk c.args.parts.now (length c.args.code.now))) (take_all c.loop-instr.instr-index c.args.code.now c.loop-instr-test.false) c.loop-instr.invariant
