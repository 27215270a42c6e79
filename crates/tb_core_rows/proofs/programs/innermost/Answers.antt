use Rattle.std.proofs.Common.{◌+◌, [], ◌∷◌, arith}
use Rattle.tb_core.specs.View.{view}
use Rattle.tb_core_rows.proofs.Quiets.{one_apart, quiet_weaker}
use Rattle.std.proofs.lemmas.Result.{IfOk-weaker}
use Rattle.tb_core_rows.proofs.programs.innermost.Goals as goal

pub returns-in-None : goal.returns-in-None
returns-in-None c = ([], tt, λ within. quiet_weaker within [] [] 1 30 (view c.constant.result) (omega arith) (c.constant.ensures within))

pub returns-in-Some : goal.returns-in-Some
returns-in-Some c =
    let few = rw c.in-Some.is at c.requires in
    let n = c.in-Some.count in
    IfOk-weaker c.call.result _ _ (λ e q. (4 ∷ [], one_apart 4, λ within. quiet_weaker within [] (4 ∷ []) (n + 2) 30 (view e) (omega (arith, few)) (q within))) c.call.ensures
