use Rattle.std.proofs.lemmas.Result.{err_from_is_err_and}
use Rattle.tb_mac.proofs.assembler.with_number.Goals as goal

pub returns-in_err-number_of-in-SetRtn-clause-missing :
    goal.returns-in_err-number_of-in-SetRtn-clause-missing
returns-in_err-number_of-in-SetRtn-clause-missing c =
    let p = err_from_is_err_and c.from_residual.result c.from_residual.ensures.1 in
    rw (c.in-SetRtn.is, p.1, p.2) c.in_err-number_of-in-SetRtn.ensures.missing

pub returns-in_err-number_of-in-Jump-clause-missing :
    goal.returns-in_err-number_of-in-Jump-clause-missing
returns-in_err-number_of-in-Jump-clause-missing c =
    let p = err_from_is_err_and c.from_residual-in_err-number_of-in-Jump.result c.from_residual-in_err-number_of-in-Jump.ensures.1 in
    rw (c.in-Jump.is, p.1, p.2) c.in_err-number_of-in-Jump.ensures.missing

pub returns-in_err-number_of-in-Brf-clause-missing :
    goal.returns-in_err-number_of-in-Brf-clause-missing
returns-in_err-number_of-in-Brf-clause-missing c =
    let p = err_from_is_err_and c.from_residual-in_err-number_of-in-Brf.result c.from_residual-in_err-number_of-in-Brf.ensures.1 in
    rw (c.in-Brf.is, p.1, p.2) c.in_err-number_of-in-Brf.ensures.missing

pub returns-in_err-number_of-in-Clo-clause-missing :
    goal.returns-in_err-number_of-in-Clo-clause-missing
returns-in_err-number_of-in-Clo-clause-missing c =
    let p = err_from_is_err_and c.from_residual-in_err-number_of-in-Clo.result c.from_residual-in_err-number_of-in-Clo.ensures.1 in
    rw (c.in-Clo.is, p.1, p.2) c.in_err-number_of-in-Clo.ensures.missing
