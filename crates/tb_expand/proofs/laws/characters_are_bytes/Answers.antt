use Rattle.tb_expand.proofs.CharacterRanges.{forms_bytes, lambdas_bytes}
use Rattle.tb_expand.proofs.laws.characters_are_bytes.Goals as goal

pub returns-clause-forms : goal.returns-clause-forms
returns-clause-forms c = forms_bytes

pub returns-clause-lambdas : goal.returns-clause-lambdas
returns-clause-lambdas c = lambdas_bytes
