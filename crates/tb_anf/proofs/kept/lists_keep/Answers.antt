use Rattle.tb_anf.proofs.rules.Bound.{bound-once}
use Rattle.tb_anf.proofs.rules.Few.{few-nodes}
use Rattle.tb_anf.proofs.rules.Lists.{forms-first, lambdas-count, numbered}
use Rattle.tb_anf.proofs.rules.Orders.{proper-nodes}
use Rattle.tb_anf.proofs.rules.Standing.{at-most-once, at-least-once}
use Rattle.tb_anf.proofs.kept.lists_keep.Goals as goal

pub returns : goal.returns
returns c = record {
  bound_once = λ p order r h. bound-once p order (proper-nodes p order r h) r.bound_once r.small_variables;
  lambdas_at_most_once = λ p order r h. at-most-once p order (proper-nodes p order r h) r.lambdas_at_most_once;
  lambdas_at_least_once = λ p order r h. at-least-once p order (proper-nodes p order r h) r.lambdas_at_least_once;
  forms_first = forms-first;
  numbered = numbered;
  lambdas = lambdas-count;
  few_nodes = λ p order r h. few-nodes p order (proper-nodes p order r h) r.few_nodes;
  statics = λ p order r. r.statics;
}
