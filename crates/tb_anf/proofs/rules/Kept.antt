-- The normal form of a program that keeps its rules keeps those of A-normal form.
use Rattle.std.proofs.Common.{◌^◌, List}
use Rattle.tb_core.specs.OperandOrder.{Line}
use Rattle.tb_ir.specs.AnfRules as anf
use Rattle.tb_ir.specs.Rules.{IsOrderOf, KeepsRules}
use Rattle.tb_ir.specs.Tree.{ProgramTree}
use Rattle.tb_anf.specs.NormalForm.{normal_form}
use Rattle.tb_anf.proofs.rules.BlocksKeep.{blocks-keep}
use Rattle.tb_anf.proofs.rules.Bound.{bound-once}
use Rattle.tb_anf.proofs.rules.Few.{few-nodes}
use Rattle.tb_anf.proofs.rules.Lists.{forms-first, numbered}
use Rattle.tb_anf.proofs.rules.Orders.{proper-nodes}
use Rattle.tb_anf.proofs.rules.ProcsKeep.{procs-keep}
use Rattle.tb_anf.proofs.rules.Standing.{at-most-once, at-least-once}

pub rules-keep : (p : ProgramTree) (order : List Line) → KeepsRules (2 ^ 31) p → IsOrderOf p order →
    anf.KeepsRules (normal_form p order)
rules-keep p order r h =
    let proper = proper-nodes p order r h in
    record {
      bound_once = bound-once p order proper r.bound_once r.small_variables;
      lambdas_at_most_once = at-most-once p order proper r.lambdas_at_most_once;
      lambdas_at_least_once = at-least-once p order proper r.lambdas_at_least_once;
      forms_first = forms-first p order;
      numbered = numbered p order;
      few_nodes = few-nodes p order proper r.few_nodes;
      statics = r.statics;
      blocks = blocks-keep p order r h;
      procs = procs-keep p order r h;
    }
