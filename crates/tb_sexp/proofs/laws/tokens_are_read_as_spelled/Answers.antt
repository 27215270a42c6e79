use Rattle.tb_sexp.proofs.TokensApart.{token_found, fault_found, faulty_only, token_or_fault, one_token, apart, one_fault}
use Rattle.tb_sexp.proofs.TokensOnly.{token_only}
use Rattle.tb_sexp.proofs.laws.tokens_are_read_as_spelled.Goals as goal

pub returns : goal.returns
returns c = record {
  found = token_found;
  only = token_only;
  fault_found = fault_found;
  fault_only = λ bs f h. faulty_only h;
  covered = token_or_fault;
  one_token = one_token;
  apart = apart;
  one_fault = one_fault;
}
