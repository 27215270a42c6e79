use Rattle.tb_expand.proofs.GlobalRanges.{forms_in_range, all_lambdas_in_range}
use Rattle.tb_expand.proofs.laws.globals_are_in_range.Goals as goal

pub returns-clause-forms : goal.returns-clause-forms
returns-clause-forms c = forms_in_range

pub returns-clause-lambdas : goal.returns-clause-lambdas
returns-clause-lambdas c = all_lambdas_in_range
