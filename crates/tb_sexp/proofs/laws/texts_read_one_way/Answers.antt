use Rattle.tb_sexp.proofs.TextsOne.{one_reading, not_both, one_refusal, covered}
use Rattle.tb_sexp.proofs.laws.texts_read_one_way.Goals as goal

pub returns : goal.returns
returns c = record { one_reading = one_reading; not_both = not_both; one_refusal = one_refusal; covered = covered }
