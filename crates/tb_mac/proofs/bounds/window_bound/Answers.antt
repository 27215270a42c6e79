use Rattle.std.proofs.Common.{◌<◌, ◌^◌, length, ap, arith}
use Rattle.std.proofs.Math.Logic.{∥∥₁_elim}
use Rattle.tb_mac.proofs.RuleLaws.{less-prop}
use Rattle.tb_mac.proofs.bounds.window_bound.Goals as goal

pub longest_window-requires : goal.longest_window-requires
longest_window-requires c =
    ∥∥₁_elim c.args.code.now.rules (less-prop (length c.as_slice.result.now) (2 ^ 24)) (λ rules. omega (arith, rules.few, ap length c.as_slice.ensures))
