use Rattle.tb_sexp.proofs.GrammarEnds.{refused_everywhere, refused_as_deep, refused_at_end}
use Rattle.tb_sexp.proofs.GrammarLaws.{syntax_law, deep_law, no_other, accepted, atom_taken, atom_refused}
use Rattle.tb_sexp.proofs.grammar_laws.tokens_are_refused_by_their_rows.Goals as goal

pub returns : goal.returns
returns c = record {
  syntax = syntax_law;
  too_deep = deep_law;
  no_other = no_other;
  accepted = accepted;
  nowhere = refused_everywhere;
  deeper = refused_as_deep;
  last_mark = refused_at_end;
  datum_taken = atom_taken;
  datum_refused = atom_refused;
}
