-- Sums over all blocks of a normal form are sums over all nodes of its source.
use Rattle.std.proofs.Common.{◌≡◌, refl, ℕ, suc, ◌+◌, arith, List, [], ◌∷◌, ◌++◌, Option, None}
use Rattle.tb_core.specs.OperandOrder.{Line}
use Rattle.tb_core.specs.Rules.{Every}
use Rattle.tb_ir.specs.AnfRules.{all_blocks, blocks, blocks_of}
use Rattle.tb_ir.specs.AnfTree.{Block, ProcTree}
use Rattle.tb_ir.specs.Rules.{all_nodes, nodes, nodes_of, nodes_of_lambdas}
use Rattle.tb_ir.specs.Tree.{Tree, Node, Form, Trees, none, more, LambdaTree, ProgramTree}
use Rattle.tb_ir.specs.TreeMachine.{Context, context_of, line_of}
use Rattle.tb_anf.specs.NormalForm.{AtEnd, size, size_all, block_of, form_procs, lambda_procs, normal_form}
use Rattle.tb_anf.proofs.Names.{Any, ProperNode}
use Rattle.tb_anf.proofs.Operands.{every-left, every-right}
use Rattle.tb_anf.proofs.rules.Agree.{Agrees, weigh, weigh-append, tree-agrees}
use Rattle.tb_anf.proofs.rules.Sums.{IsOwn, sum_blocks, sum-append, total, tree-sum}

module _ (W : Block → ℕ) (m : Form → ℕ) (t : Option ℕ → ℕ) (local : IsOwn W) (agrees : Agrees W m t) (p : ProgramTree) (order : List Line)
    (proper : Every (ProperNode (context_of p order) Any) (all_nodes p)) where
  abbrev x : Context
  x = context_of p order

  pub body-sum : (n : ℕ) (e : Tree) → Every (ProperNode x Any) (nodes e) → total W (block_of (line_of order) n e AtEnd) ≡ weigh m (nodes e)
  body-sum n e h =
      let a = tree-sum W local x e h n AtEnd in let b = tree-agrees W m t agrees x e h n None in let z = agrees.at_end in omega arith

  forms_sum : (n : ℕ) (es : Trees) → Every (ProperNode x Any) (nodes_of es) → sum_blocks W (blocks_of (form_procs (line_of order) n es)) ≡ weigh m (nodes_of es)
  forms_sum n none h = refl
  forms_sum n (more (Node q s f) es) h =
      let e = Node q s f in
      let a = body-sum n e (every-left _ (nodes e) _ h) in
      let b = forms_sum (n + size e) es (every-right _ (nodes e) _ h) in
      let i = sum-append W (blocks (block_of (line_of order) n e AtEnd)) (blocks_of (form_procs (line_of order) (n + size e) es)) in
      let j = weigh-append m (nodes e) (nodes_of es) in omega arith

  lambdas_sum : (l n : ℕ) (ms : List LambdaTree) → Every (ProperNode x Any) (nodes_of_lambdas ms) →
      sum_blocks W (blocks_of (lambda_procs p (line_of order) l n ms)) ≡ weigh m (nodes_of_lambdas ms)
  lambdas_sum l n [] h = refl
  lambdas_sum l n (k ∷ ms) h =
      let a = body-sum n k.body (every-left _ (nodes k.body) _ h) in
      let b = lambdas_sum (suc l) (n + size k.body) ms (every-right _ (nodes k.body) _ h) in
      let i = sum-append W (blocks (block_of (line_of order) n k.body AtEnd)) (blocks_of (lambda_procs p (line_of order) (suc l) (n + size k.body) ms)) in
      let j = weigh-append m (nodes k.body) (nodes_of_lambdas ms) in omega arith

  parts_sum : (qs rs : List ProcTree) → sum_blocks W (blocks_of (qs ++ rs)) ≡ sum_blocks W (blocks_of qs) + sum_blocks W (blocks_of rs)
  parts_sum [] rs = omega arith
  parts_sum (q ∷ qs) rs =
      let h = parts_sum qs rs in
      let i = sum-append W (blocks q.body) (blocks_of (qs ++ rs)) in let j = sum-append W (blocks q.body) (blocks_of qs) in omega arith

  pub whole-sum : sum_blocks W (all_blocks (normal_form p order)) ≡ weigh m (all_nodes p)
  whole-sum =
      let a = forms_sum 0 p.forms (every-left _ (nodes_of p.forms) _ proper) in
      let b = lambdas_sum 0 (size_all p.forms) p.lambdas (every-right _ (nodes_of p.forms) _ proper) in
      let i = parts_sum (form_procs (line_of order) 0 p.forms) (lambda_procs p (line_of order) 0 (size_all p.forms) p.lambdas) in
      let j = weigh-append m (nodes_of p.forms) (nodes_of_lambdas p.lambdas) in omega arith
