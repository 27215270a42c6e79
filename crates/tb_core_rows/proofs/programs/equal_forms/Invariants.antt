use Rattle.std.proofs.Common.{◌≡◌, length}
use Rattle.tb_core.specs.Rules.{Every}
use Rattle.tb_core.specs.View.{view}
use Rattle.tb_core_rows.specs.Quiet.{IsPlain}
use Rattle.tb_core_rows.proofs.programs.equal_forms.Given as goal

abbrev pub invariant-loop-index : goal.invariant-loop-index
invariant-loop-index l = record {
  count : length l.all.items ≡ l.index;
  plain : Every (λ e. IsPlain l.fn.width (view e)) l.all.items;
}
