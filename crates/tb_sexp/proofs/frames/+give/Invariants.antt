use Rattle.std.proofs.Common.{length}
use Rattle.tb_sexp.proofs.frames.+give.Given as goal

abbrev pub decreases-give : goal.decreases-give
decreases-give l = length l.state.now.frames
