use Rattle.std.proofs.Common.{◌∙◌, ap, ℕ, List}
use Rattle.tb_core.proofs.FirstUses.{is_in-asked}
use Rattle.tb_live.specs.calls.Sets.{joined}
use Rattle.tb_live.proofs.Joined.{in-joined}
use Rattle.tb_live.proofs.uses.set_of.Goals as goal

pub returns : goal.returns
returns c = λ x. is_in-asked c.add.new.set.keys x
    ∙ in-joined c.add.new.set.keys c.args.variables.now x (c.in_ok-add.ensures ∙ ap (λ (ks : List ℕ). joined ks c.args.variables.now) c.new-set.ensures.empty)
