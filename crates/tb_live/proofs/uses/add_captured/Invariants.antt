use Rattle.std.proofs.Common.{◌≡◌, drop}
use Rattle.tb_core.specs.FreeVariables.{of_lambdas}
use Rattle.tb_live.specs.calls.Captures.{captured_at}
use Rattle.tb_live.specs.calls.Sets.{joined}
use Rattle.tb_live.proofs.uses.add_captured.Given as goal

abbrev pub invariant-loop-lambda : goal.invariant-loop-lambda
invariant-loop-lambda l =
    joined l.set.keys (of_lambdas (captured_at l.source) (drop l.lambda-index l.lambdas)) ≡ joined l.initial.set.keys (of_lambdas (captured_at l.source) l.lambdas)
