use Rattle.std.proofs.Common.{◌∙◌}
use Rattle.tb_core.proofs.FirstUses.{first_of-put, first_of-all, is_in-asked}
use Rattle.tb_anf.proofs.captures.set_of.Goals as goal

pub loop-variable-preserved : goal.loop-variable-preserved
loop-variable-preserved c = first_of-put c.args.variables.now c.loop-variable.set.keys c.insert.new.self.keys c.loop-variable.variable-index c.loop-variable-test.true c.loop-variable.invariant c.in_ok-insert.ensures.keys

pub returns-clause-members : goal.returns-clause-members
returns-clause-members c = λ x. is_in-asked c.loop-variable.set.keys x ∙ first_of-all c.args.variables.now c.loop-variable.set.keys c.loop-variable.variable-index c.loop-variable-test.false c.loop-variable.invariant x
