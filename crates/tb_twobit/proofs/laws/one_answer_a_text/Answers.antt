use Rattle.std.proofs.Common.{false}
use Rattle.tb_twobit.proofs.Answered.{TextLaws, DataLaws, not_both, one_program, one_refusal, covered}
use Rattle.tb_twobit.proofs.laws.one_answer_a_text.Goals as goal

pub returns : goal.returns
returns c =
    let texts : TextLaws = record {
      one_reading = c.texts_read_one_way.ensures.one_reading false;
      not_both = c.texts_read_one_way.ensures.not_both false;
      one_refusal = c.texts_read_one_way.ensures.one_refusal false;
      covered = c.texts_read_one_way.ensures.covered false;
    } in
    let means : DataLaws = record {
      not_both = c.one_answer_a_text.ensures.not_both false;
      one_refusal = c.one_answer_a_text.ensures.one_refusal false;
      one_meaning = c.one_answer_a_text.ensures.one_meaning false;
      covered = c.one_answer_a_text.ensures.covered false;
    } in
    record {
      not_both = not_both texts means;
      one_program = one_program texts means;
      one_refusal = one_refusal texts means;
      covered = covered texts means;
    }
