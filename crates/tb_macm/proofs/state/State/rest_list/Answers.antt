use Rattle.std.proofs.Common.{arith}
use Rattle.std.proofs.lemmas.Grind.{common_steps}
use Rattle.tb_macm.specs.States.{mac_of}
use Rattle.tb_macm.proofs.Lists.{rest_list_is}
use Rattle.tb_macm.proofs.state.State.rest_list.Goals as goal

pub returns-then-self-need : goal.returns-then-self-need
returns-then-self-need c =
    let e = rest_list_is (mac_of c.args.self.now) c.args.a c.args.n (omega arith) c.requires.order c.requires.few in
    rw e (grind (arith, common_steps))
