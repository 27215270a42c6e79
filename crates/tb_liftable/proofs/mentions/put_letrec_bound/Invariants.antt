use Rattle.std.proofs.Common.{◌≡◌, ◌++◌, drop}
use Rattle.tb_liftable.specs.Mentions.{letrec_bound}
use Rattle.tb_liftable.proofs.mentions.put_letrec_bound.Given as goal

abbrev pub invariant-loop-at : goal.invariant-loop-at
invariant-loop-at l =
    l.out.items ++ letrec_bound (drop l.at l.variables) (drop l.at l.lambdas) ≡ l.initial.out.items ++ letrec_bound l.variables l.lambdas
