-- The plain data of an expression, by its form.
use Rattle.std.proofs.Common.{◌≡◌, refl, sym, ap, ◌∙◌, ℕ, List, [], ◌∷◌, map, length, arith}
use Rattle.std.proofs.lemmas.Grind.{common_steps}
use Rattle.tb_prim.specs.declared.constant.Const.{Const}
use Rattle.tb_prim.specs.declared.primitive.Primitive.{Primitive}
use Rattle.tb_core.specs.declared.expr.Core.TheOpen.{Core-F}
use Rattle.tb_core.specs.declared.expr.Core.TheVariants as code
use Rattle.tb_core.specs.declared.expr.Core.TheVariants.{rolls-Quote, rolls-Local, rolls-Lambda, rolls-SetLocal, rolls-Let, rolls-Seq, rolls-Call, rolls-Prim}
use Rattle.tb_core.specs.declared.expr.Core.TheFolds.{fold-roll-Core, fold_out-Expr}
use Rattle.tb_core.specs.declared.expr.Expr.{Expr}
use Rattle.tb_core.specs.Plain.{view, view_core, view_in, view_at, trees}
use Rattle.tb_core.specs.Tree.{Tree, Node, Form, Quote, Local, Lambda, SetLocal, Let, Seq, Call, PrimUse}

pub view_node : (e : Expr) → view e ≡ Node e.place e.site (view_core e.core)
view_node e = fold_out-Expr Form Tree view_in view_at e

pub view_quote : (c : Const) → view_core (code.Quote c) ≡ Quote c
view_quote c = ap view_core (sym (rolls-Quote c)) ∙ fold-roll-Core Form Tree view_in view_at (Core-F.Quote c)

pub view_local : (x : ℕ) → view_core (code.Local x) ≡ Local x
view_local x = ap view_core (sym (rolls-Local x)) ∙ fold-roll-Core Form Tree view_in view_at (Core-F.Local x)

pub view_lambda : (l : ℕ) → view_core (code.Lambda l) ≡ Lambda l
view_lambda l = ap view_core (sym (rolls-Lambda l)) ∙ fold-roll-Core Form Tree view_in view_at (Core-F.Lambda l)

pub view_set_local : (x : ℕ) (e : Expr) → view_core (code.SetLocal x e) ≡ SetLocal x (view e)
view_set_local x e = ap view_core (sym (rolls-SetLocal x e)) ∙ fold-roll-Core Form Tree view_in view_at (Core-F.SetLocal x e)

pub view_let : (xs : List ℕ) (es : List Expr) (e : Expr) → view_core (code.Let xs es e) ≡ Let xs (trees (map view es)) (view e)
view_let xs es e = ap view_core (sym (rolls-Let xs es e)) ∙ fold-roll-Core Form Tree view_in view_at (Core-F.Let xs es e)

pub view_seq : (es : List Expr) → view_core (code.Seq es) ≡ Seq (trees (map view es))
view_seq es = ap view_core (sym (rolls-Seq es)) ∙ fold-roll-Core Form Tree view_in view_at (Core-F.Seq es)

pub view_call : (f : Expr) (es : List Expr) → view_core (code.Call f es) ≡ Call (view f) (trees (map view es))
view_call f es = ap view_core (sym (rolls-Call f es)) ∙ fold-roll-Core Form Tree view_in view_at (Core-F.Call f es)

pub view_prim : (p : Primitive) (es : List Expr) → view_core (code.Prim p es) ≡ PrimUse p (trees (map view es))
view_prim p es = ap view_core (sym (rolls-Prim p es)) ∙ fold-roll-Core Form Tree view_in view_at (Core-F.Prim p es)

pub ruleset viewing = (common_steps, arith, view_node, view_quote, view_local, view_lambda, view_set_local, view_let, view_seq, view_call, view_prim)
