use Rattle.tb_expand.proofs.SiteRanges.{forms_below, all_lambdas_below}
use Rattle.tb_expand.proofs.laws.numbers_of_nodes_are_below.Goals as goal

pub returns-clause-forms : goal.returns-clause-forms
returns-clause-forms c = forms_below

pub returns-clause-lambdas : goal.returns-clause-lambdas
returns-clause-lambdas c = all_lambdas_below
