use Rattle.tb_sexp.proofs.RoundTripRead.{read_data}
use Rattle.tb_sexp.proofs.RoundTripData.{printed_reads_back}
use Rattle.tb_sexp.proofs.print_laws.read_data.Goals as goal

pub returns : goal.returns
returns c = record { law = read_data; again = λ library bytes ds h x k d lt. printed_reads_back library _ (read_data library bytes ds h x k d lt) }
