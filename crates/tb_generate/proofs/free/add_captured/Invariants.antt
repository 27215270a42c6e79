use Rattle.std.proofs.Common.{◌≡◌, ◌||◌, ℕ, nat_eq, drop}
use Rattle.indexmap.specs.IndexSet.{contains}
use Rattle.tb_core.specs.FreeVariables.{is_in, of_lambdas}
use Rattle.tb_generate.specs.calls.Bodies.{captured_at}
use Rattle.tb_generate.proofs.free.add_captured.Given as goal

abbrev pub invariant-loop-lambda : goal.invariant-loop-lambda
invariant-loop-lambda l =
    (x : ℕ) → (is_in (of_lambdas (captured_at l.body) (drop l.lambda-index l.lambdas)) x || contains nat_eq l.set x)
    ≡ (is_in (of_lambdas (captured_at l.body) l.lambdas) x || contains nat_eq l.initial.set x)
