use Rattle.tb_expand.proofs.OneAnswer.{one_meaning, one_refusal, not_both, covered}
use Rattle.tb_expand.proofs.laws.one_answer_a_datum.Goals as goal

pub returns : goal.returns
returns c = record { one_meaning = one_meaning; one_refusal = one_refusal; not_both = not_both; covered = covered }
