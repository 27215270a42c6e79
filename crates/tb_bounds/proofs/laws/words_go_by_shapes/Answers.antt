use Rattle.tb_bounds.proofs.Sizes.{words-by-shape}
use Rattle.tb_bounds.proofs.laws.words_go_by_shapes.Goals as goal

pub returns : goal.returns
returns c = record { law = words-by-shape }
