use Rattle.tb_expand.proofs.ShapedNumbers.{forms_keep_shape, lambdas_keep_shape}
use Rattle.tb_expand.proofs.laws.numbers_keep_shapes.Goals as goal

pub returns-clause-forms : goal.returns-clause-forms
returns-clause-forms c = forms_keep_shape

pub returns-clause-lambdas : goal.returns-clause-lambdas
returns-clause-lambdas c = lambdas_keep_shape
