use Rattle.std.proofs.Common.{refl}
use Rattle.tb_semantics.specs.Graph.{reaches}
use Rattle.tb_liftable.specs.Added.{added_to}
use Rattle.tb_liftable.specs.Liftable.{round}
use Rattle.tb_liftable.proofs.examples.worked_sets.Goals as goal

pub returns-clause-twelve : goal.returns-clause-twelve
unfolding added_to round reaches
returns-clause-twelve c = refl

pub returns-clause-thirteen : goal.returns-clause-thirteen
unfolding added_to round reaches
returns-clause-thirteen c = refl

pub returns-clause-compared : goal.returns-clause-compared
unfolding added_to round reaches
returns-clause-compared c = refl

pub returns-clause-mutual_calls : goal.returns-clause-mutual_calls
unfolding added_to round reaches
returns-clause-mutual_calls c = refl

pub returns-clause-one_way : goal.returns-clause-one_way
unfolding added_to round reaches
returns-clause-one_way c = refl

pub returns-clause-assigned : goal.returns-clause-assigned
unfolding added_to round reaches
returns-clause-assigned c = refl

pub returns-clause-with_rest : goal.returns-clause-with_rest
unfolding added_to round reaches
returns-clause-with_rest c = refl

pub returns-clause-miscalled : goal.returns-clause-miscalled
unfolding added_to round reaches
returns-clause-miscalled c = refl

pub returns-clause-two_rounds : goal.returns-clause-two_rounds
unfolding added_to round reaches
returns-clause-two_rounds c = refl
