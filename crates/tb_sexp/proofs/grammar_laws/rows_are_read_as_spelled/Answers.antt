use Rattle.tb_sexp.proofs.GrammarEnds.{data_deeper, goes_on_deeper}
use Rattle.tb_sexp.proofs.GrammarLaws.{whole, only, unique, goes_on, reached_on, one_state}
use Rattle.tb_sexp.proofs.grammar_laws.rows_are_read_as_spelled.Goals as goal

pub returns : goal.returns
returns c = record {
  found = whole;
  only = only;
  unique = unique;
  can_go_on = goes_on;
  reached = reached_on;
  one_state = one_state;
  more_levels = data_deeper;
  more_levels_can = goes_on_deeper;
}
