use Rattle.tb_expand.proofs.ConstantRanges.{forms_within, all_lambdas_within}
use Rattle.tb_expand.proofs.laws.constants_are_in_range.Goals as goal

pub returns-clause-forms : goal.returns-clause-forms
returns-clause-forms c = forms_within

pub returns-clause-lambdas : goal.returns-clause-lambdas
returns-clause-lambdas c = all_lambdas_within
