use Rattle.tb_sexp.proofs.RoundTripData.{printed_reads_back}
use Rattle.tb_sexp.proofs.print_laws.printed_reads_back.Goals as goal

pub returns : goal.returns
returns c = record { law = printed_reads_back }
