use Rattle.tb_sparc.proofs.Shifts.{bit_or-fields}
use Rattle.tb_sparc.proofs.encoder.pack.Goals as goal

pub returns : goal.returns
returns c = bit_or-fields c.args.op c.args.rd c.args.op3 c.args.rs1 c.args.low c.requires.op c.requires.rd c.requires.op3 c.requires.rs1 c.requires.low
