use Rattle.tb_macm.proofs.Inputs.{next_ahead}
use Rattle.tb_sparcm.proofs.state.State.next.Goals as goal

pub returns-in-Some-clause-finds : goal.returns-in-Some-clause-finds
returns-in-Some-clause-finds g c = next_ahead (g.I.Source.left c.args.input.now) c.args.self.now.ahead c.in-Some.taken c.in-Some.is
