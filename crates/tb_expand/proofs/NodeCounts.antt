-- A numbered program has as many nodes as the nodes that it was made of.
use Rattle.std.proofs.Common.{◌≡◌, refl, ◌+◌, arith, Bool, true, List, [], ◌∷◌, ◌++◌}
use Rattle.tb_prim.specs.declared.place.Place.{Place}
use Rattle.tb_core.specs.Tree.{LambdaTree}
use Rattle.tb_core.specs.Rules.{size, size_form, size_all, size_of_lambdas}
use Rattle.tb_expand.specs.Trees.{Node, At, Core, Constant, Unspecified, Undefined, Local, Global, Lambda, If, SetLocal, SetGlobal, DefGlobal, Let, Letrec, Seq, Call, PrimUse, Apply, Nodes, nil, cons, is_lambda}
use Rattle.tb_expand.specs.Numbers.{Tables, Before, nodes, nodes_in, nodes_of_all, nodes_of_values, behind_node, behind_nodes, behind_values, one_node, one_closure, numbered, numbered_in, numbered_all, lambdas_of, lambdas_in, lambdas_of_all, lambdas_of_values, tables_of, none_before, program_of}
use Rattle.tb_expand.specs.WellShaped.{AreLambdas, HasShape, HasShapeIn, HaveShape}

sizes_joined : (xs ys : List LambdaTree) → size_of_lambdas (xs ++ ys) ≡ size_of_lambdas xs + size_of_lambdas ys
sizes_joined [] ys = omega arith
sizes_joined (x ∷ xs) ys = let h = sizes_joined xs ys in omega arith

no_form : (t : Tables) (b : Before) (p : Place) (c : Core) → is_lambda (At p c) ≡ true → size_form (numbered_in t b c) ≡ 0
no_form t b p (Lambda xs r e) h = refl
no_form t b p c h = absurd cc

mutual
  node_counted : (t : Tables) (b : Before) (e : Node) → HasShape e → size (numbered t b e) + size_of_lambdas (lambdas_of t b e) ≡ nodes e
  node_counted t b (At p c) h = let k = form_counted t (one_node b) p c h in omega arith

  form_counted : (t : Tables) (b : Before) (p : Place) (c : Core) → HasShapeIn c → size_form (numbered_in t b c) + size_of_lambdas (lambdas_in t b p c) ≡ nodes_in c
  form_counted t b p (Constant s) h = refl
  form_counted t b p Unspecified h = refl
  form_counted t b p Undefined h = refl
  form_counted t b p (Local x) h = refl
  form_counted t b p (Global g) h = refl
  form_counted t b p (Lambda xs r e) h = let k = node_counted t (one_closure b) e h in omega arith
  form_counted t b p (If a c d) h =
      let k = node_counted t b a h.0 in
      let l = node_counted t (behind_node b a) c h.1 in
      let m = node_counted t (behind_node (behind_node b a) c) d h.2 in
      let i = sizes_joined (lambdas_of t b a) (lambdas_of t (behind_node b a) c ++ lambdas_of t (behind_node (behind_node b a) c) d) in
      let j = sizes_joined (lambdas_of t (behind_node b a) c) (lambdas_of t (behind_node (behind_node b a) c) d) in
      omega arith
  form_counted t b p (SetLocal x e) h = node_counted t b e h
  form_counted t b p (SetGlobal q g e) h = node_counted t b e h
  form_counted t b p (DefGlobal g e) h = node_counted t b e h
  form_counted t b p (Let xs es e) h =
      let k = nodes_counted t b es h.1 in
      let l = node_counted t (behind_nodes b es) e h.2 in
      let i = sizes_joined (lambdas_of_all t b es) (lambdas_of t (behind_nodes b es) e) in
      omega arith
  form_counted t b p (Letrec xs es e) h =
      let k = values_counted t b es h.1 h.2 in
      let l = node_counted t (behind_values b es) e h.3 in
      let i = sizes_joined (lambdas_of_values t b es) (lambdas_of t (behind_values b es) e) in
      omega arith
  form_counted t b p (Seq es) h = nodes_counted t b es h.1
  form_counted t b p (Call f es) h =
      let k = node_counted t b f h.0 in
      let l = nodes_counted t (behind_node b f) es h.1 in
      let i = sizes_joined (lambdas_of t b f) (lambdas_of_all t (behind_node b f) es) in
      omega arith
  form_counted t b p (PrimUse q es) h = nodes_counted t b es h.1
  form_counted t b p (Apply f l) h =
      let k = node_counted t b f h.0 in
      let m = node_counted t (behind_node b f) l h.1 in
      let i = sizes_joined (lambdas_of t b f) (lambdas_of t (behind_node b f) l) in
      omega arith

  nodes_counted : (t : Tables) (b : Before) (es : Nodes) → HaveShape es → size_all (numbered_all t b es) + size_of_lambdas (lambdas_of_all t b es) ≡ nodes_of_all es
  nodes_counted t b nil h = refl
  nodes_counted t b (cons e es) h =
      let k = node_counted t b e h.0 in
      let l = nodes_counted t (behind_node b e) es h.1 in
      let i = sizes_joined (lambdas_of t b e) (lambdas_of_all t (behind_node b e) es) in
      omega arith

  values_counted : (t : Tables) (b : Before) (es : Nodes) → AreLambdas es → HaveShape es → size_of_lambdas (lambdas_of_values t b es) ≡ nodes_of_values es
  values_counted t b nil l h = refl
  values_counted t b (cons (At p c) es) l h =
      let k = form_counted t b p c h.0 in
      let n = no_form t b p c l.0 in
      let m = values_counted t (behind_values b (cons (At p c) nil)) es l.1 h.1 in
      let i = sizes_joined (lambdas_in t b p c) (lambdas_of_values t (behind_values b (cons (At p c) nil)) es) in
      omega arith

pub program_counted : (library : Bool) (es : Nodes) → HaveShape es → size_all (program_of library es).forms + size_of_lambdas (program_of library es).lambdas ≡ nodes_of_all es
unfolding program_of
program_counted library es h = nodes_counted (tables_of es) none_before es h
