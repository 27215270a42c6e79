use Rattle.std.proofs.Common.{refl}
use Rattle.tb_expand.specs.calls.Numbering.{so_far}
use Rattle.tb_expand.proofs.numbers.numbering.nothing_numbered.Goals as goal

pub returns : goal.returns
unfolding so_far
returns c = rw (c.new.ensures.items, c.no_statics.ensures) refl
