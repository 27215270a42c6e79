-- A program with cells keeps the rules of its type.
use Rattle.std.proofs.Common.{◌^◌}
use Rattle.tb_core.specs.Rules.{KeepsRules}
use Rattle.tb_core.specs.Tree.{ProgramTree}
use Rattle.tb_ir.specs.Rules as K
use Rattle.tb_assign.specs.Eliminate.{cells_of}
use Rattle.tb_assign.proofs.BodiesKept.{forms-kept, bodies-kept}
use Rattle.tb_assign.proofs.FewNodes.{few-nodes}
use Rattle.tb_assign.proofs.NodesKept.{nodes-kept}
use Rattle.tb_assign.proofs.Scopes.{in-scope, at-most-once, at-least-once, greater}
use Rattle.tb_assign.proofs.SitesApart.{sites-apart}
use Rattle.tb_assign.proofs.VariablesApart.{variables-apart, variables-small}

pub rules-kept : (p : ProgramTree) → KeepsRules p → K.KeepsRules (2 ^ 27) (cells_of p)
rules-kept p r = record {
  bound_once = variables-apart p r;
  small_variables = variables-small p r;
  in_scope = in-scope p r;
  lambdas_at_most_once = at-most-once p r;
  lambdas_at_least_once = at-least-once p r;
  inner_greater = greater p r;
  sites_apart = sites-apart p r;
  few_nodes = few-nodes p r;
  statics = r.statics;
  nodes = nodes-kept p r;
  forms = forms-kept p r;
  bodies = bodies-kept p r;
  lifted = tt;
}
