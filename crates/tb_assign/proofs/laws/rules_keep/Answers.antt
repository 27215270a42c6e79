use Rattle.tb_core.specs.FreeVariables.{is_assigned}
use Rattle.tb_assign.proofs.Ordered.{is-order}
use Rattle.tb_assign.proofs.RulesKept.{rules-kept}
use Rattle.tb_assign.proofs.Standing.{lambdas-count}
use Rattle.tb_assign.proofs.Scopes.{stands-same}
use Rattle.tb_assign.proofs.laws.rules_keep.Goals as goal

pub returns : goal.returns
returns c = record { rules = rules-kept; is_order = is-order; standing = stands-same; lambdas = λ p. lambdas-count (is_assigned p) 0 p.lambdas }
