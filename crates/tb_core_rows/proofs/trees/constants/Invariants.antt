use Rattle.std.proofs.Common.{◌≡◌, length}
use Rattle.tb_core.specs.Rules.{Every}
use Rattle.tb_core.specs.View.{view}
use Rattle.tb_core_rows.specs.Quiet.{IsPlain}
use Rattle.tb_core_rows.proofs.trees.constants.Given as goal

abbrev pub invariant-loop : goal.invariant-loop
invariant-loop l = record {
  count : length l.all.items ≡ l.counter;
  plain : Every (λ e. IsPlain 1 (view e)) l.all.items;
}
