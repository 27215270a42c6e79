use Rattle.tb_sexp.proofs.TokensApart.{word_begins, spoiled_begins}
use Rattle.tb_sexp.proofs.TokensBlanks.{front_found, end_found, front_only, end_only}
use Rattle.tb_sexp.proofs.laws.blanks_are_passed.Goals as goal

pub returns : goal.returns
returns c = record {
  front_found = front_found;
  end_found = end_found;
  front_only = front_only;
  end_only = end_only;
  words = word_begins;
  faults = spoiled_begins;
}
