use Rattle.tb_image.proofs.Sequences.{joined, split}
use Rattle.tb_image.proofs.laws.parts_follow_one_another.Goals as goal

pub returns : goal.returns
returns c f next bytes b = (split f next bytes b, joined f next bytes b)
