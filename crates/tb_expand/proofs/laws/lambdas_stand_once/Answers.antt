use Rattle.tb_expand.proofs.StandingNumbers.{at_most_once, at_least_once, inner_greater}
use Rattle.tb_expand.proofs.laws.lambdas_stand_once.Goals as goal

pub returns : goal.returns
returns c = record { at_most = at_most_once; at_least = at_least_once; inner_greater = inner_greater }
