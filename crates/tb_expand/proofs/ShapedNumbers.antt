-- Numbered nodes of the right shapes have them still.
use Rattle.std.proofs.Common.{◌≡◌, refl, sym, ◌∙◌, ℕ, ◌+◌, arith, Bool, List, [], ◌∷◌, ◌++◌, length}
use Rattle.std.proofs.lemmas.List.{length-map}
use Rattle.tb_prim.specs.declared.place.Place.{Place}
use Rattle.tb_core.specs.Tree.{Form, LambdaTree, count}
use Rattle.tb_core.specs.Rules.{Every, Each, EachForm, EachAll, IsShaped}
use Rattle.tb_expand.specs.Trees.{Node, At, Core, Constant, Unspecified, Undefined, Local, Global, Lambda, If, SetLocal, SetGlobal, DefGlobal, Let, Letrec, Seq, Call, PrimUse, Apply, Nodes, nil, cons, how_many}
use Rattle.tb_expand.specs.Numbers.{Tables, Before, variable_number, lambda_numbers, behind_node, behind_nodes, behind_values, one_node, one_closure, closures, numbered, numbered_in, numbered_all, lambdas_of, lambdas_in, lambdas_of_all, lambdas_of_values, tables_of, none_before, program_of}
use Rattle.tb_expand.specs.WellShaped.{HasShape, HasShapeIn, HaveShape}

abbrev pub Shaped : ℕ → Form → Type 0
Shaped s f = IsShaped f

abbrev pub IsLambdaShaped : LambdaTree → Type 0
IsLambdaShaped l = Each Shaped l.body

count_numbered : (t : Tables) (b : Before) (es : Nodes) → count (numbered_all t b es) ≡ how_many es
count_numbered t b nil = refl
count_numbered t b (cons e es) = let h = count_numbered t (behind_node b e) es in omega arith

lambdas_counted : (l : ℕ) (es : Nodes) → length (lambda_numbers l es) ≡ how_many es
lambdas_counted l nil = refl
lambdas_counted l (cons e es) = let h = lambdas_counted (l + closures e) es in omega arith

pub every_joined : {X : Type 0} (P : X → Type 0) (xs ys : List X) → Every P xs → Every P ys → Every P (xs ++ ys)
every_joined P [] ys h k = k
every_joined P (x ∷ xs) ys h k = (h.0, every_joined P xs ys h.1 k)

form_shaped : (t : Tables) (b : Before) (c : Core) → HasShapeIn c → IsShaped (numbered_in t b c)
form_shaped t b (Constant s) h = tt
form_shaped t b Unspecified h = tt
form_shaped t b Undefined h = tt
form_shaped t b (Local x) h = tt
form_shaped t b (Global g) h = tt
form_shaped t b (Lambda xs r e) h = tt
form_shaped t b (If a c d) h = tt
form_shaped t b (SetLocal x e) h = tt
form_shaped t b (SetGlobal q g e) h = tt
form_shaped t b (DefGlobal g e) h = tt
form_shaped t b (Let xs es e) h = length-map xs (variable_number t) ∙ h.0 ∙ sym (count_numbered t b es)
form_shaped t b (Letrec xs es e) h = length-map xs (variable_number t) ∙ h.0 ∙ sym (lambdas_counted b.closures es)
form_shaped t b (Seq es) h = let n = count_numbered t b es in let m = h.0 in omega arith
form_shaped t b (Call f es) h = tt
form_shaped t b (PrimUse q es) h = count_numbered t b es ∙ h.0
form_shaped t b (Apply f l) h = tt

mutual
  node_shaped : (t : Tables) (b : Before) (e : Node) → HasShape e → Each Shaped (numbered t b e)
  node_shaped t b (At p c) h = (form_shaped t (one_node b) c h, parts_shaped t (one_node b) c h)

  parts_shaped : (t : Tables) (b : Before) (c : Core) → HasShapeIn c → EachForm Shaped (numbered_in t b c)
  parts_shaped t b (Constant s) h = tt
  parts_shaped t b Unspecified h = tt
  parts_shaped t b Undefined h = tt
  parts_shaped t b (Local x) h = tt
  parts_shaped t b (Global g) h = tt
  parts_shaped t b (Lambda xs r e) h = tt
  parts_shaped t b (If a c d) h = (node_shaped t b a h.0, node_shaped t (behind_node b a) c h.1, node_shaped t (behind_node (behind_node b a) c) d h.2)
  parts_shaped t b (SetLocal x e) h = node_shaped t b e h
  parts_shaped t b (SetGlobal q g e) h = node_shaped t b e h
  parts_shaped t b (DefGlobal g e) h = node_shaped t b e h
  parts_shaped t b (Let xs es e) h = (nodes_shaped t b es h.1, node_shaped t (behind_nodes b es) e h.2)
  parts_shaped t b (Letrec xs es e) h = node_shaped t (behind_values b es) e h.3
  parts_shaped t b (Seq es) h = nodes_shaped t b es h.1
  parts_shaped t b (Call f es) h = (node_shaped t b f h.0, nodes_shaped t (behind_node b f) es h.1)
  parts_shaped t b (PrimUse q es) h = nodes_shaped t b es h.1
  parts_shaped t b (Apply f l) h = (node_shaped t b f h.0, node_shaped t (behind_node b f) l h.1)

  nodes_shaped : (t : Tables) (b : Before) (es : Nodes) → HaveShape es → EachAll Shaped (numbered_all t b es)
  nodes_shaped t b nil h = tt
  nodes_shaped t b (cons e es) h = (node_shaped t b e h.0, nodes_shaped t (behind_node b e) es h.1)

mutual
  lambdas_shaped : (t : Tables) (b : Before) (e : Node) → HasShape e → Every IsLambdaShaped (lambdas_of t b e)
  lambdas_shaped t b (At p c) h = lambdas_shaped_in t (one_node b) p c h

  lambdas_shaped_in : (t : Tables) (b : Before) (p : Place) (c : Core) → HasShapeIn c → Every IsLambdaShaped (lambdas_in t b p c)
  lambdas_shaped_in t b p (Constant s) h = tt
  lambdas_shaped_in t b p Unspecified h = tt
  lambdas_shaped_in t b p Undefined h = tt
  lambdas_shaped_in t b p (Local x) h = tt
  lambdas_shaped_in t b p (Global g) h = tt
  lambdas_shaped_in t b p (Lambda xs r e) h = (node_shaped t (one_closure b) e h, lambdas_shaped t (one_closure b) e h)
  lambdas_shaped_in t b p (If a c d) h =
      every_joined IsLambdaShaped _ _ (lambdas_shaped t b a h.0) (every_joined IsLambdaShaped _ _ (lambdas_shaped t (behind_node b a) c h.1) (lambdas_shaped t (behind_node (behind_node b a) c) d h.2))
  lambdas_shaped_in t b p (SetLocal x e) h = lambdas_shaped t b e h
  lambdas_shaped_in t b p (SetGlobal q g e) h = lambdas_shaped t b e h
  lambdas_shaped_in t b p (DefGlobal g e) h = lambdas_shaped t b e h
  lambdas_shaped_in t b p (Let xs es e) h = every_joined IsLambdaShaped _ _ (lambdas_shaped_all t b es h.1) (lambdas_shaped t (behind_nodes b es) e h.2)
  lambdas_shaped_in t b p (Letrec xs es e) h = every_joined IsLambdaShaped _ _ (lambdas_shaped_values t b es h.2) (lambdas_shaped t (behind_values b es) e h.3)
  lambdas_shaped_in t b p (Seq es) h = lambdas_shaped_all t b es h.1
  lambdas_shaped_in t b p (Call f es) h = every_joined IsLambdaShaped _ _ (lambdas_shaped t b f h.0) (lambdas_shaped_all t (behind_node b f) es h.1)
  lambdas_shaped_in t b p (PrimUse q es) h = lambdas_shaped_all t b es h.1
  lambdas_shaped_in t b p (Apply f l) h = every_joined IsLambdaShaped _ _ (lambdas_shaped t b f h.0) (lambdas_shaped t (behind_node b f) l h.1)

  lambdas_shaped_all : (t : Tables) (b : Before) (es : Nodes) → HaveShape es → Every IsLambdaShaped (lambdas_of_all t b es)
  lambdas_shaped_all t b nil h = tt
  lambdas_shaped_all t b (cons e es) h = every_joined IsLambdaShaped _ _ (lambdas_shaped t b e h.0) (lambdas_shaped_all t (behind_node b e) es h.1)

  lambdas_shaped_values : (t : Tables) (b : Before) (es : Nodes) → HaveShape es → Every IsLambdaShaped (lambdas_of_values t b es)
  lambdas_shaped_values t b nil h = tt
  lambdas_shaped_values t b (cons (At p c) es) h = every_joined IsLambdaShaped _ _ (lambdas_shaped_in t b p c h.0) (lambdas_shaped_values t (behind_values b (cons (At p c) nil)) es h.1)

pub forms_keep_shape : (library : Bool) (es : Nodes) → HaveShape es → EachAll Shaped (program_of library es).forms
unfolding program_of
forms_keep_shape library es h = nodes_shaped (tables_of es) none_before es h

pub lambdas_keep_shape : (library : Bool) (es : Nodes) → HaveShape es → Every IsLambdaShaped (program_of library es).lambdas
unfolding program_of
lambdas_keep_shape library es h = lambdas_shaped_all (tables_of es) none_before es h
