use Rattle.tb_sexp.proofs.DatumRulesLemmas.{read_is_plain}
use Rattle.tb_sexp.proofs.print_laws.read_data_are_plain.Goals as goal

pub returns : goal.returns
returns c = record { law = read_is_plain }
