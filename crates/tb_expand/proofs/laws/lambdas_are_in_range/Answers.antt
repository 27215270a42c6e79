use Rattle.tb_expand.proofs.StandingNumbers.{forms_name, bodies_name}
use Rattle.tb_expand.proofs.laws.lambdas_are_in_range.Goals as goal

pub returns : goal.returns
returns c = record { forms = forms_name; lambdas = bodies_name }
