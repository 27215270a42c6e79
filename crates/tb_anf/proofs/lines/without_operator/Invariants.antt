use Rattle.std.proofs.Common.{◌≡◌, ◌==◌, ◌++◌, ◌-◌, drop, filter, map, not}
use Rattle.tb_anf.proofs.lines.without_operator.Given as goal

abbrev pub invariant-loop-number : goal.invariant-loop-number
invariant-loop-number l =
    l.out.items ++ map (λ i. i - 1) (filter (λ i. not (i == 0)) (drop l.number-index l.line)) ≡ map (λ i. i - 1) (filter (λ i. not (i == 0)) l.line)
