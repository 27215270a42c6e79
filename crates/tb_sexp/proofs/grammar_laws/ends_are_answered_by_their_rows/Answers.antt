use Rattle.tb_sexp.proofs.GrammarBrackets.{opened_once}
use Rattle.tb_sexp.proofs.GrammarEnds.{finish_whole, finish_only, finish_mark, finish_open, finish_refusal}
use Rattle.tb_sexp.proofs.grammar_laws.ends_are_answered_by_their_rows.Goals as goal

pub returns : goal.returns
returns c = record {
  whole = finish_whole;
  only = finish_only;
  mark = finish_mark;
  bracket = finish_open;
  no_other = finish_refusal;
  opened_once = opened_once;
}
