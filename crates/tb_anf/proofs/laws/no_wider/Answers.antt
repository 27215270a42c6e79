use Rattle.tb_anf.proofs.NoWider.{no-wider}
use Rattle.tb_anf.proofs.WiderLemmas.{largest-no-wider, squares-no-wider}
use Rattle.tb_anf.proofs.laws.no_wider.Goals as goal

pub returns : goal.returns
returns c = record {
  widths = no-wider;
  width = λ p order rules lines. largest-no-wider _ _ (no-wider p order rules lines);
  square_sum = λ p order rules lines. squares-no-wider _ _ (no-wider p order rules lines);
}
