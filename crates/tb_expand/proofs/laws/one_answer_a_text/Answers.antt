use Rattle.tb_expand.proofs.OneAnswer.{one_text, text_one_refusal, text_not_both, text_covered}
use Rattle.tb_expand.proofs.laws.one_answer_a_text.Goals as goal

pub returns : goal.returns
returns c = record { one_meaning = one_text; one_refusal = text_one_refusal; not_both = text_not_both; covered = text_covered }
