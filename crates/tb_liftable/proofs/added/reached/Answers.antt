use Rattle.std.proofs.Common.{sym, ◌∙◌, ap, nat_eq, List, ℕ}
use Rattle.indexmap.specs.IndexMap.{get}
use Rattle.indexmap.specs.IndexSet.{insert_key}
use Rattle.tb_liftable.specs.Added.{called}
use Rattle.tb_liftable.specs.calls.Given.{given}
use Rattle.tb_liftable.specs.calls.Reached.{inserted}
use Rattle.tb_liftable.proofs.Reaching.{begins, goes_on, ends, past_end}
use Rattle.tb_liftable.proofs.added.reached.Goals as goal

pub loop-next-init : goal.loop-next-init
loop-next-init c =
    begins (given c.args.source) (get nat_eq c.args.members.now) c.args.lambda c.insert.new.self.keys
    (c.in_ok-insert.ensures.keys ∙ ap (λ ks. insert_key nat_eq ks c.args.lambda) c.new-reached.ensures.empty)

pub loop-next-preserved : goal.loop-next-preserved
loop-next-preserved c =
    let known = get nat_eq c.args.members.now in
    goes_on (given c.args.source) known c.args.lambda c.loop-next.next c.in-Some.from c.loop-next.reached.keys c.add_called.new.reached.keys
    c.loop-next.invariant (sym c.get_index.ensures.key ∙ (sym c.copied.ensures ∙ c.in-Some.is))
    (c.in_ok-add_called-in-Some.ensures ∙ ap (λ (v : List ℕ). inserted c.loop-next.reached.keys (called known v)) c.free.ensures)

pub returns-in-None : goal.returns-in-None
returns-in-None c =
    ends (given c.args.source) (get nat_eq c.args.members.now) c.args.lambda c.loop-next.next c.loop-next.reached.keys
    c.loop-next.invariant (past_end c.loop-next.reached.keys c.loop-next.next (sym c.get_index.ensures.key ∙ (sym c.copied.ensures ∙ c.in-None.is)))
