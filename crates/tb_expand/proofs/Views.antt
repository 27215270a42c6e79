-- The nodes that trees are seen as, by their forms.
use Rattle.std.proofs.Common.{◌≡◌, sym, ap, ◌∙◌, ℕ, List, map, Option}
use Rattle.std.specs.Borrow.{Bor}
use Rattle.tb_prim.specs.declared.place.Place.{Place}
use Rattle.tb_prim.specs.declared.primitive.Primitive.{Primitive}
use Rattle.tb_sexp.specs.View as data_view
use Rattle.tb_sexp.specs.declared.datum.Node.{Node as DatumNode}
use Rattle.tb_expand.specs.declared.name.Variable.{Variable as VariableCode}
use Rattle.tb_expand.specs.declared.tree.Core.TheOpen.{Core-F}
use Rattle.tb_expand.specs.declared.tree.Core.TheVariants as code
use Rattle.tb_expand.specs.declared.tree.Core.TheVariants.{rolls-Constant, rolls-Unspecified, rolls-Undefined, rolls-Local, rolls-Global, rolls-Lambda, rolls-If, rolls-SetLocal, rolls-SetGlobal, rolls-DefGlobal, rolls-Let, rolls-Letrec, rolls-Seq, rolls-Call, rolls-Prim, rolls-Apply}
use Rattle.tb_expand.specs.declared.tree.Core.TheFolds.{fold-roll-Core, fold_out-Node}
use Rattle.tb_expand.specs.declared.tree.Node.{Node as NodeCode}
use Rattle.tb_expand.specs.View.{nodes, view, view_core, view_in, view_at, view_variable, view_option}
use Rattle.tb_expand.specs.Trees.{Node, At, Core, Constant, Unspecified, Undefined, Local, Global, Lambda, If, SetLocal, SetGlobal, DefGlobal, Let, Letrec, Seq, Call, PrimUse, Apply}

pub view_node : (e : NodeCode) → view e ≡ At e.place (view_core e.core)
view_node e = fold_out-Node Core Node view_in view_at e

pub view_constant : (s : Bor DatumNode) → view_core (code.Constant s) ≡ Constant (data_view.view_node s.now)
view_constant s = ap view_core (sym (rolls-Constant s)) ∙ fold-roll-Core Core Node view_in view_at (Core-F.Constant s)

pub view_unspecified : view_core (code.Unspecified) ≡ Unspecified
view_unspecified = ap view_core (sym rolls-Unspecified) ∙ fold-roll-Core Core Node view_in view_at Core-F.Unspecified

pub view_undefined : view_core (code.Undefined) ≡ Undefined
view_undefined = ap view_core (sym rolls-Undefined) ∙ fold-roll-Core Core Node view_in view_at Core-F.Undefined

pub view_local : (x : VariableCode) → view_core (code.Local x) ≡ Local (view_variable x)
view_local x = ap view_core (sym (rolls-Local x)) ∙ fold-roll-Core Core Node view_in view_at (Core-F.Local x)

pub view_global : (g : Bor (List ℕ)) → view_core (code.Global g) ≡ Global g.now
view_global g = ap view_core (sym (rolls-Global g)) ∙ fold-roll-Core Core Node view_in view_at (Core-F.Global g)

pub view_lambda : (xs : List VariableCode) (r : Option VariableCode) (b : NodeCode) → view_core (code.Lambda xs r b) ≡ Lambda (map view_variable xs) (view_option r) (view b)
view_lambda xs r b = ap view_core (sym (rolls-Lambda xs r b)) ∙ fold-roll-Core Core Node view_in view_at (Core-F.Lambda xs r b)

pub view_if : (a b c : NodeCode) → view_core (code.If a b c) ≡ If (view a) (view b) (view c)
view_if a b c = ap view_core (sym (rolls-If a b c)) ∙ fold-roll-Core Core Node view_in view_at (Core-F.If a b c)

pub view_set_local : (x : VariableCode) (e : NodeCode) → view_core (code.SetLocal x e) ≡ SetLocal (view_variable x) (view e)
view_set_local x e = ap view_core (sym (rolls-SetLocal x e)) ∙ fold-roll-Core Core Node view_in view_at (Core-F.SetLocal x e)

pub view_set_global : (p : Place) (g : Bor (List ℕ)) (e : NodeCode) → view_core (code.SetGlobal p g e) ≡ SetGlobal p g.now (view e)
view_set_global p g e = ap view_core (sym (rolls-SetGlobal p g e)) ∙ fold-roll-Core Core Node view_in view_at (Core-F.SetGlobal p g e)

pub view_def_global : (g : Bor (List ℕ)) (e : NodeCode) → view_core (code.DefGlobal g e) ≡ DefGlobal g.now (view e)
view_def_global g e = ap view_core (sym (rolls-DefGlobal g e)) ∙ fold-roll-Core Core Node view_in view_at (Core-F.DefGlobal g e)

pub view_let : (xs : List VariableCode) (es : List NodeCode) (e : NodeCode) → view_core (code.Let xs es e) ≡ Let (map view_variable xs) (nodes (map view es)) (view e)
view_let xs es e = ap view_core (sym (rolls-Let xs es e)) ∙ fold-roll-Core Core Node view_in view_at (Core-F.Let xs es e)

pub view_letrec : (xs : List VariableCode) (es : List NodeCode) (e : NodeCode) → view_core (code.Letrec xs es e) ≡ Letrec (map view_variable xs) (nodes (map view es)) (view e)
view_letrec xs es e = ap view_core (sym (rolls-Letrec xs es e)) ∙ fold-roll-Core Core Node view_in view_at (Core-F.Letrec xs es e)

pub view_seq : (es : List NodeCode) → view_core (code.Seq es) ≡ Seq (nodes (map view es))
view_seq es = ap view_core (sym (rolls-Seq es)) ∙ fold-roll-Core Core Node view_in view_at (Core-F.Seq es)

pub view_call : (f : NodeCode) (es : List NodeCode) → view_core (code.Call f es) ≡ Call (view f) (nodes (map view es))
view_call f es = ap view_core (sym (rolls-Call f es)) ∙ fold-roll-Core Core Node view_in view_at (Core-F.Call f es)

pub view_prim : (q : Primitive) (es : List NodeCode) → view_core (code.Prim q es) ≡ PrimUse q (nodes (map view es))
view_prim q es = ap view_core (sym (rolls-Prim q es)) ∙ fold-roll-Core Core Node view_in view_at (Core-F.Prim q es)

pub view_apply : (f l : NodeCode) → view_core (code.Apply f l) ≡ Apply (view f) (view l)
view_apply f l = ap view_core (sym (rolls-Apply f l)) ∙ fold-roll-Core Core Node view_in view_at (Core-F.Apply f l)

pub ruleset viewing = (view_node, view_constant, view_unspecified, view_undefined, view_local, view_global, view_lambda, view_if, view_set_local, view_set_global, view_def_global, view_let, view_letrec, view_seq, view_call, view_prim, view_apply)
