use Rattle.std.proofs.Common.{◌+◌}
use Rattle.tb_mac.specs.MacStep.{put_words}
use Rattle.std.specs.Prelude.{replicate}
use Rattle.tb_macm.proofs.Words.{Filling}
use Rattle.tb_macm.proofs.objects.fill.Given as goal

abbrev pub invariant-loop-k : goal.invariant-loop-k
invariant-loop-k l = Filling l.k (l.at + l.count) l.w l.memory (put_words l.at (replicate l.count l.w) l.fn.memory)
