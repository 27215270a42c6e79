use Rattle.tb_anf.proofs.rules.Orders.{proper-nodes}
use Rattle.tb_anf.proofs.rules.Same.{named-same, celled-same}
use Rattle.tb_anf.proofs.kept.names_stay.Goals as goal

pub returns : goal.returns
returns c = record {
  named = λ p order r h x lt. named-same x lt p order (proper-nodes p order r h);
  celled = λ p order r h x lt. celled-same x lt p order (proper-nodes p order r h);
}
