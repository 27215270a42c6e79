use Rattle.tb_liftable.proofs.Chosen.{added-sound, added-full, added-rising}
use Rattle.tb_liftable.proofs.laws.added_is_least_solution.Goals as goal

pub returns-clause-sound : goal.returns-clause-sound
returns-clause-sound c = added-sound

pub returns-clause-full : goal.returns-clause-full
returns-clause-full c = added-full

pub returns-clause-rising : goal.returns-clause-rising
returns-clause-rising c = added-rising
