use Rattle.std.proofs.Common.{[]}
use Rattle.tb_ir.specs.AnfMachine.{free_block}
use Rattle.tb_core.proofs.FirstUses.{first_of-apart, first_of-in}
use Rattle.tb_live.proofs.laws.rows_are_exact.Goals as goal

pub returns : goal.returns
returns c = record {
  once = λ captured b. first_of-apart [] (free_block captured b);
  same = λ captured b x. first_of-in [] (free_block captured b) x;
}
