-- A normal form has at most two nodes, a block and its operation, for each node of its source.
use Rattle.std.proofs.Common.{◌≡◌, refl, ℕ, suc, ◌+◌, ◌*◌, ◌^◌, ◌<◌, ◌≤◌, arith, List, [], ◌∷◌, ◌++◌, length, Option, Some, None, length-append}
use Rattle.tb_prim.specs.declared.place.Place.{Place}
use Rattle.tb_prim.specs.declared.constant.Const.{Const}
use Rattle.tb_core.specs.OperandOrder.{Line}
use Rattle.tb_core.specs.Rules.{Every}
use Rattle.tb_ir.specs.AnfRules.{all_blocks, blocks, blocks_of, node_count, of_each, operation}
use Rattle.tb_ir.specs.AnfTree as A
use Rattle.tb_ir.specs.AnfTree.{Block, Op, ProcTree}
use Rattle.tb_ir.specs.Rules.{all_nodes, nodes, nodes_in, nodes_of, nodes_of_lambdas}
use Rattle.tb_ir.specs.Tree.{Tree, Node, Form, Quote, Local, Global, Lambda, If, NewCell, CellGet, CellSet, SetGlobal, DefGlobal, Let, Letrec, Seq, Call, Direct, PrimUse, Apply, Trees, none, more, LambdaTree, ProgramTree}
use Rattle.tb_ir.specs.TreeMachine.{Context, context_of, line_of}
use Rattle.tb_anf.specs.NormalForm.{AtEnd, size, size_form, size_all, atom, atoms, value_name, block_of, form_procs, lambda_procs, normal_form}
use Rattle.tb_anf.proofs.Names.{Any, ProperNode}
use Rattle.tb_anf.proofs.Operands.{every-left, every-right}
use Rattle.tb_anf.proofs.rules.Sums.{own, adds, adds_form, adds_bound, adds_all, adds_named, adds_sequence, sum_blocks, sum-append, total, tree-sum}

abbrev Nodes : Block → ℕ
Nodes b = suc (length (operation b))

two : (k : Option ℕ) (op : Op) → own Nodes k op ≡ 2
two None op = refl
two (Some y) op = refl

module _ (line : ℕ → Option (List ℕ)) where
  mutual
    few_tree : (e : Tree) (n : ℕ) (k : Option ℕ) → adds Nodes line n e k ≤ 2 * size e
    few_tree (Node p s f) n k = let h = few_form f p n k in omega arith

    few_form : (f : Form) (p : Place) (n : ℕ) (k : Option ℕ) → adds_form Nodes line n p f k ≤ 2 + 2 * size_form f
    few_form (Quote c) p n k = let o = two k (A.Atom (A.Quote c)) in omega arith
    few_form (Local y) p n k = let o = two k (A.Atom (A.Var y)) in omega arith
    few_form (Global g) p n k = let o = two k (A.Global g p) in omega arith
    few_form (Lambda l) p n k = let o = two k (A.Close l) in omega arith
    few_form (If a b c) p n k =
        let o = two k (A.Branch (atom (suc n) a) (block_of line (suc n + size a) b AtEnd) (block_of line (suc n + (size a + size b)) c AtEnd)) in let u = few_bound a (suc n) in let v = few_tree b (suc n + size a) None in let w = few_tree c (suc n + (size a + size b)) None in omega arith
    few_form (NewCell e) p n k = let o = two k (A.NewCell (atom (suc n) e)) in let u = few_bound e (suc n) in omega arith
    few_form (CellGet e) p n k = let o = two k (A.CellGet (atom (suc n) e) p) in let u = few_bound e (suc n) in omega arith
    few_form (CellSet c e) p n k = let o = two k (A.CellSet (atom (suc n) c) (atom (suc n + size c) e)) in let u = few_bound c (suc n) in let v = few_bound e (suc n + size c) in omega arith
    few_form (SetGlobal g e) p n k = let o = two k (A.SetGlobal g (atom (suc n) e) p) in let u = few_bound e (suc n) in omega arith
    few_form (DefGlobal g e) p n k = let o = two k (A.DefGlobal g (atom (suc n) e)) in let u = few_bound e (suc n) in omega arith
    few_form (Let ys es e) p n k = let u = few_named ys es (suc n) in let v = few_tree e (suc n + size_all es) k in omega arith
    few_form (Letrec ys ls e) p n k = let v = few_tree e (suc n) k in omega arith
    few_form (Seq es) p n k = few_sequence es (suc n) k
    few_form (Call f es) p n k = let o = two k (A.Call (atom (suc n) f) (atoms (suc n + size f) es) p) in let u = few_bound f (suc n) in let v = few_all es (suc n + size f) in omega arith
    few_form (Direct l es) p n k = let o = two k (A.Direct l (atoms (suc n) es)) in let v = few_all es (suc n) in omega arith
    few_form (PrimUse q es) p n k = let o = two k (A.PrimUse q (atoms (suc n) es) p) in let v = few_all es (suc n) in omega arith
    few_form (Apply f l) p n k = let o = two k (A.Apply (atom (suc n) f) (atom (suc n + size f) l) p) in let u = few_bound f (suc n) in let v = few_bound l (suc n + size f) in omega arith

    few_bound : (e : Tree) (n : ℕ) → adds_bound Nodes line n e ≤ 2 * size e
    few_bound (Node p s (Quote c)) n = omega arith
    few_bound (Node p s (Local y)) n = omega arith
    few_bound (Node p s f) n = let h = few_form f p n (Some (value_name n)) in omega arith

    few_all : (es : Trees) (n : ℕ) → adds_all Nodes line n es ≤ 2 * size_all es
    few_all none n = omega arith
    few_all (more e es) n = let a = few_bound e n in let b = few_all es (n + size e) in omega arith

    few_named : (ys : List ℕ) (es : Trees) (n : ℕ) → adds_named Nodes line n ys es ≤ 2 * size_all es
    few_named [] none n = omega arith
    few_named [] (more e es) n = omega arith
    few_named (y ∷ ys) none n = omega arith
    few_named (y ∷ ys) (more e es) n = let a = few_tree e n (Some y) in let b = few_named ys es (n + size e) in omega arith

    few_sequence : (es : Trees) (n : ℕ) (k : Option ℕ) → adds_sequence Nodes line n es k ≤ 2 + 2 * size_all es
    few_sequence none n k = let o = two k (A.Atom (A.Quote Const.Unspecified)) in omega arith
    few_sequence (more e none) n k = let a = few_tree e n k in omega arith
    few_sequence (more e (more d ds)) n k =
        let a = few_tree e n (Some (value_name n)) in let b = few_sequence (more d ds) (n + size e) k in omega arith

mutual
  pub nodes-size : (e : Tree) → length (nodes e) ≡ size e
  nodes-size (Node p s f) = let h = form_size f in omega arith

  form_size : (f : Form) → length (nodes_in f) ≡ size_form f
  form_size (Quote c) = refl
  form_size (Local y) = refl
  form_size (Global g) = refl
  form_size (Lambda l) = refl
  form_size (If a b c) =
      let i = nodes-size a in let j = nodes-size b in let k = nodes-size c in
      let v = length-append (nodes a) (nodes b ++ nodes c) in let w = length-append (nodes b) (nodes c) in omega arith
  form_size (NewCell e) = nodes-size e
  form_size (CellGet e) = nodes-size e
  form_size (CellSet c e) = let i = nodes-size c in let j = nodes-size e in let v = length-append (nodes c) (nodes e) in omega arith
  form_size (SetGlobal g e) = nodes-size e
  form_size (DefGlobal g e) = nodes-size e
  form_size (Let xs es e) = let i = all-size es in let j = nodes-size e in let v = length-append (nodes_of es) (nodes e) in omega arith
  form_size (Letrec xs ls e) = nodes-size e
  form_size (Seq es) = all-size es
  form_size (Call f es) = let i = nodes-size f in let j = all-size es in let v = length-append (nodes f) (nodes_of es) in omega arith
  form_size (Direct l es) = all-size es
  form_size (PrimUse q es) = all-size es
  form_size (Apply f l) = let i = nodes-size f in let j = nodes-size l in let v = length-append (nodes f) (nodes l) in omega arith

  pub all-size : (es : Trees) → length (nodes_of es) ≡ size_all es
  all-size none = refl
  all-size (more e es) = let i = nodes-size e in let j = all-size es in let v = length-append (nodes e) (nodes_of es) in omega arith

counted : (bs : List Block) → sum_blocks Nodes bs ≡ length bs + length (of_each operation bs)
counted [] = refl
counted (b ∷ bs) = let h = counted bs in let v = length-append (operation b) (of_each operation bs) in omega arith

module _ (p : ProgramTree) (order : List Line) (proper : Every (ProperNode (context_of p order) Any) (all_nodes p)) where
  abbrev x : Context
  x = context_of p order

  body_few : (n : ℕ) (e : Tree) → Every (ProperNode x Any) (nodes e) → total Nodes (block_of (line_of order) n e AtEnd) ≤ 2 * length (nodes e)
  body_few n e h =
      let a = tree-sum Nodes (record { bind = λ y op b. refl; close = λ xs ls b. refl }) x e h n AtEnd in
      let b = few_tree (line_of order) e n None in let c = nodes-size e in omega arith

  forms_few : (n : ℕ) (es : Trees) → Every (ProperNode x Any) (nodes_of es) → sum_blocks Nodes (blocks_of (form_procs (line_of order) n es)) ≤ 2 * length (nodes_of es)
  forms_few n none h = omega arith
  forms_few n (more (Node q s f) es) h =
      let e = Node q s f in
      let a = body_few n e (every-left _ (nodes e) _ h) in
      let b = forms_few (n + size e) es (every-right _ (nodes e) _ h) in
      let i = sum-append Nodes (blocks (block_of (line_of order) n e AtEnd)) (blocks_of (form_procs (line_of order) (n + size e) es)) in
      let j = length-append (nodes e) (nodes_of es) in omega arith

  lambdas_few : (l n : ℕ) (ms : List LambdaTree) → Every (ProperNode x Any) (nodes_of_lambdas ms) →
      sum_blocks Nodes (blocks_of (lambda_procs p (line_of order) l n ms)) ≤ 2 * length (nodes_of_lambdas ms)
  lambdas_few l n [] h = omega arith
  lambdas_few l n (k ∷ ms) h =
      let a = body_few n k.body (every-left _ (nodes k.body) _ h) in
      let b = lambdas_few (suc l) (n + size k.body) ms (every-right _ (nodes k.body) _ h) in
      let i = sum-append Nodes (blocks (block_of (line_of order) n k.body AtEnd)) (blocks_of (lambda_procs p (line_of order) (suc l) (n + size k.body) ms)) in
      let j = length-append (nodes k.body) (nodes_of_lambdas ms) in omega arith

  parts : (qs rs : List ProcTree) → sum_blocks Nodes (blocks_of (qs ++ rs)) ≡ sum_blocks Nodes (blocks_of qs) + sum_blocks Nodes (blocks_of rs)
  parts [] rs = omega arith
  parts (q ∷ qs) rs =
      let h = parts qs rs in
      let i = sum-append Nodes (blocks q.body) (blocks_of (qs ++ rs)) in let j = sum-append Nodes (blocks q.body) (blocks_of qs) in omega arith

  pub few-nodes : length (all_nodes p) < 2 ^ 31 → node_count (normal_form p order) < 2 ^ 32
  few-nodes h =
      let a = forms_few 0 p.forms (every-left _ (nodes_of p.forms) _ proper) in
      let b = lambdas_few 0 (size_all p.forms) p.lambdas (every-right _ (nodes_of p.forms) _ proper) in
      let c = parts (form_procs (line_of order) 0 p.forms) (lambda_procs p (line_of order) 0 (size_all p.forms) p.lambdas) in
      let d = counted (all_blocks (normal_form p order)) in
      let j = length-append (nodes_of p.forms) (nodes_of_lambdas p.lambdas) in omega arith
