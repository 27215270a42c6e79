use Rattle.std.proofs.Common.{arith}
use Rattle.tb_codegen.proofs.Bounded.{frames-narrow}
use Rattle.tb_codegen.proofs.laws.frames_are_narrow.Goals as goal

pub returns : goal.returns
returns c = record {
  frames = frames-narrow;
  factor = λ p rules fits. let h = frames-narrow p rules fits in omega (arith, h);
}
