-- The numbers of nodes are below the number of nodes.
use Rattle.std.proofs.Common.{ℕ, ◌+◌, ◌<◌, ◌≤◌, arith, Bool}
use Rattle.tb_prim.specs.declared.place.Place.{Place}
use Rattle.tb_core.specs.Tree.{Form, LambdaTree}
use Rattle.tb_core.specs.Rules.{Every, Each, EachForm, EachAll}
use Rattle.tb_expand.specs.Trees.{Node, At, Core, Constant, Unspecified, Undefined, Local, Global, Lambda, If, SetLocal, SetGlobal, DefGlobal, Let, Letrec, Seq, Call, PrimUse, Apply, Nodes, nil, cons}
use Rattle.tb_expand.specs.Numbers.{Tables, Before, nodes, nodes_in, nodes_of_all, nodes_of_values, behind_node, behind_nodes, behind_values, one_node, one_closure, numbered, numbered_in, numbered_all, lambdas_of, lambdas_in, lambdas_of_all, lambdas_of_values, tables_of, none_before, program_of}
use Rattle.tb_expand.proofs.ShapedNumbers.{every_joined}

abbrev pub Below : ℕ → ℕ → Form → Type 0
Below n s f = s < n

abbrev pub LambdaBelow : ℕ → LambdaTree → Type 0
LambdaBelow n l = Each (Below n) l.body

mutual
  node_below : (t : Tables) (b : Before) (e : Node) (n : ℕ) → b.nodes + nodes e ≤ n → Each (Below n) (numbered t b e)
  node_below t b (At p c) n le = (omega arith, parts_below t (one_node b) c n (omega arith))

  parts_below : (t : Tables) (b : Before) (c : Core) (n : ℕ) → b.nodes + nodes_in c ≤ n → EachForm (Below n) (numbered_in t b c)
  parts_below t b (Constant s) n le = tt
  parts_below t b Unspecified n le = tt
  parts_below t b Undefined n le = tt
  parts_below t b (Local x) n le = tt
  parts_below t b (Global g) n le = tt
  parts_below t b (Lambda xs r e) n le = tt
  parts_below t b (If a c d) n le =
      (node_below t b a n (omega arith), node_below t (behind_node b a) c n (omega arith), node_below t (behind_node (behind_node b a) c) d n (omega arith))
  parts_below t b (SetLocal x e) n le = node_below t b e n le
  parts_below t b (SetGlobal q g e) n le = node_below t b e n le
  parts_below t b (DefGlobal g e) n le = node_below t b e n le
  parts_below t b (Let xs es e) n le = (nodes_below t b es n (omega arith), node_below t (behind_nodes b es) e n (omega arith))
  parts_below t b (Letrec xs es e) n le = node_below t (behind_values b es) e n (omega arith)
  parts_below t b (Seq es) n le = nodes_below t b es n le
  parts_below t b (Call f es) n le = (node_below t b f n (omega arith), nodes_below t (behind_node b f) es n (omega arith))
  parts_below t b (PrimUse q es) n le = nodes_below t b es n le
  parts_below t b (Apply f l) n le = (node_below t b f n (omega arith), node_below t (behind_node b f) l n (omega arith))

  nodes_below : (t : Tables) (b : Before) (es : Nodes) (n : ℕ) → b.nodes + nodes_of_all es ≤ n → EachAll (Below n) (numbered_all t b es)
  nodes_below t b nil n le = tt
  nodes_below t b (cons e es) n le = (node_below t b e n (omega arith), nodes_below t (behind_node b e) es n (omega arith))

mutual
  lambdas_below : (t : Tables) (b : Before) (e : Node) (n : ℕ) → b.nodes + nodes e ≤ n → Every (LambdaBelow n) (lambdas_of t b e)
  lambdas_below t b (At p c) n le = lambdas_below_in t (one_node b) p c n (omega arith)

  lambdas_below_in : (t : Tables) (b : Before) (p : Place) (c : Core) (n : ℕ) → b.nodes + nodes_in c ≤ n → Every (LambdaBelow n) (lambdas_in t b p c)
  lambdas_below_in t b p (Constant s) n le = tt
  lambdas_below_in t b p Unspecified n le = tt
  lambdas_below_in t b p Undefined n le = tt
  lambdas_below_in t b p (Local x) n le = tt
  lambdas_below_in t b p (Global g) n le = tt
  lambdas_below_in t b p (Lambda xs r e) n le = (node_below t (one_closure b) e n le, lambdas_below t (one_closure b) e n le)
  lambdas_below_in t b p (If a c d) n le =
      every_joined (LambdaBelow n) _ _ (lambdas_below t b a n (omega arith))
      (every_joined (LambdaBelow n) _ _ (lambdas_below t (behind_node b a) c n (omega arith)) (lambdas_below t (behind_node (behind_node b a) c) d n (omega arith)))
  lambdas_below_in t b p (SetLocal x e) n le = lambdas_below t b e n le
  lambdas_below_in t b p (SetGlobal q g e) n le = lambdas_below t b e n le
  lambdas_below_in t b p (DefGlobal g e) n le = lambdas_below t b e n le
  lambdas_below_in t b p (Let xs es e) n le = every_joined (LambdaBelow n) _ _ (lambdas_below_all t b es n (omega arith)) (lambdas_below t (behind_nodes b es) e n (omega arith))
  lambdas_below_in t b p (Letrec xs es e) n le = every_joined (LambdaBelow n) _ _ (lambdas_below_values t b es n (omega arith)) (lambdas_below t (behind_values b es) e n (omega arith))
  lambdas_below_in t b p (Seq es) n le = lambdas_below_all t b es n le
  lambdas_below_in t b p (Call f es) n le = every_joined (LambdaBelow n) _ _ (lambdas_below t b f n (omega arith)) (lambdas_below_all t (behind_node b f) es n (omega arith))
  lambdas_below_in t b p (PrimUse q es) n le = lambdas_below_all t b es n le
  lambdas_below_in t b p (Apply f l) n le = every_joined (LambdaBelow n) _ _ (lambdas_below t b f n (omega arith)) (lambdas_below t (behind_node b f) l n (omega arith))

  lambdas_below_all : (t : Tables) (b : Before) (es : Nodes) (n : ℕ) → b.nodes + nodes_of_all es ≤ n → Every (LambdaBelow n) (lambdas_of_all t b es)
  lambdas_below_all t b nil n le = tt
  lambdas_below_all t b (cons e es) n le = every_joined (LambdaBelow n) _ _ (lambdas_below t b e n (omega arith)) (lambdas_below_all t (behind_node b e) es n (omega arith))

  lambdas_below_values : (t : Tables) (b : Before) (es : Nodes) (n : ℕ) → b.nodes + nodes_of_values es ≤ n → Every (LambdaBelow n) (lambdas_of_values t b es)
  lambdas_below_values t b nil n le = tt
  lambdas_below_values t b (cons (At p c) es) n le =
      every_joined (LambdaBelow n) _ _ (lambdas_below_in t b p c n (omega arith)) (lambdas_below_values t (behind_values b (cons (At p c) nil)) es n (omega arith))

pub forms_below : (library : Bool) (es : Nodes) → EachAll (Below (nodes_of_all es)) (program_of library es).forms
unfolding program_of
forms_below library es = nodes_below (tables_of es) none_before es (nodes_of_all es) (omega arith)

pub all_lambdas_below : (library : Bool) (es : Nodes) → Every (LambdaBelow (nodes_of_all es)) (program_of library es).lambdas
unfolding program_of
all_lambdas_below library es = lambdas_below_all (tables_of es) none_before es (nodes_of_all es) (omega arith)
