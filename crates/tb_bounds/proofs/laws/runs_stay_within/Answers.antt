use Rattle.tb_bounds.proofs.Instructions.{runs-within}
use Rattle.tb_bounds.proofs.laws.runs_stay_within.Goals as goal

pub returns : goal.returns
returns c = record { law = runs-within }
