use Rattle.std.proofs.Common.{sym}
use Rattle.tb_mac.proofs.LabelLemmas.{found-in, one-absent}
use Rattle.tb_mac.proofs.assembler.number_of.Goals as goal

pub returns-in-Some-clause-stands : goal.returns-in-Some-clause-stands
returns-in-Some-clause-stands c =
    (found-in c.args.found.now.entries c.args.label c.in-Some.number.now (sym c.in-Some.ensures.value), tt)

pub returns-in-None-clause-missing : goal.returns-in-None-clause-missing
returns-in-None-clause-missing c = one-absent c.args.found.now.entries c.args.label (sym c.in-None.ensures.value)
