-- The plain data of an expression with cells, by its form.
use Rattle.std.proofs.Common.{◌≡◌, sym, ap, ◌∙◌, ℕ, List, [], ◌∷◌, map, arith}
use Rattle.std.proofs.lemmas.Grind.{common_steps}
use Rattle.tb_prim.specs.declared.constant.Const.{Const}
use Rattle.tb_prim.specs.declared.primitive.Primitive.{Primitive}
use Rattle.tb_core.proofs.Views.{viewed}
use Rattle.tb_ir.specs.declared.cells.CellCore.TheOpen.{CellCore-F}
use Rattle.tb_ir.specs.declared.cells.CellCore.TheVariants as code
use Rattle.tb_ir.specs.declared.cells.CellCore.TheVariants.{rolls-Quote, rolls-Local, rolls-Global, rolls-Lambda, rolls-If, rolls-NewCell, rolls-CellGet, rolls-CellSet, rolls-SetGlobal, rolls-DefGlobal, rolls-Let, rolls-Letrec, rolls-Seq, rolls-Call, rolls-Prim, rolls-Apply}
use Rattle.tb_ir.specs.declared.cells.CellCore.TheFolds.{fold-roll-CellCore, fold_out-CellExpr}
use Rattle.tb_ir.specs.declared.cells.CellExpr.{CellExpr}
use Rattle.tb_ir.specs.Plain.{view, view_core, view_in, view_at, trees}
use Rattle.tb_ir.specs.Tree.{Tree, Node, Form, Quote, Local, Global, Lambda, If, NewCell, CellGet, CellSet, SetGlobal, DefGlobal, Let, Letrec, Seq, Call, PrimUse, Apply}

pub view_node : (e : CellExpr) → view e ≡ Node e.place e.site (view_core e.core)
view_node e = fold_out-CellExpr Form Tree view_in view_at e

pub view_quote : (c : Const) → view_core (code.Quote c) ≡ Quote c
view_quote c = ap view_core (sym (rolls-Quote c)) ∙ fold-roll-CellCore Form Tree view_in view_at (CellCore-F.Quote c)

pub view_local : (x : ℕ) → view_core (code.Local x) ≡ Local x
view_local x = ap view_core (sym (rolls-Local x)) ∙ fold-roll-CellCore Form Tree view_in view_at (CellCore-F.Local x)

pub view_global : (g : ℕ) → view_core (code.Global g) ≡ Global g
view_global g = ap view_core (sym (rolls-Global g)) ∙ fold-roll-CellCore Form Tree view_in view_at (CellCore-F.Global g)

pub view_lambda : (l : ℕ) → view_core (code.Lambda l) ≡ Lambda l
view_lambda l = ap view_core (sym (rolls-Lambda l)) ∙ fold-roll-CellCore Form Tree view_in view_at (CellCore-F.Lambda l)

pub view_if : (a b c : CellExpr) → view_core (code.If a b c) ≡ If (view a) (view b) (view c)
view_if a b c = ap view_core (sym (rolls-If a b c)) ∙ fold-roll-CellCore Form Tree view_in view_at (CellCore-F.If a b c)

pub view_new_cell : (e : CellExpr) → view_core (code.NewCell e) ≡ NewCell (view e)
view_new_cell e = ap view_core (sym (rolls-NewCell e)) ∙ fold-roll-CellCore Form Tree view_in view_at (CellCore-F.NewCell e)

pub view_cell_get : (e : CellExpr) → view_core (code.CellGet e) ≡ CellGet (view e)
view_cell_get e = ap view_core (sym (rolls-CellGet e)) ∙ fold-roll-CellCore Form Tree view_in view_at (CellCore-F.CellGet e)

pub view_cell_set : (c e : CellExpr) → view_core (code.CellSet c e) ≡ CellSet (view c) (view e)
view_cell_set c e = ap view_core (sym (rolls-CellSet c e)) ∙ fold-roll-CellCore Form Tree view_in view_at (CellCore-F.CellSet c e)

pub view_set_global : (g : ℕ) (e : CellExpr) → view_core (code.SetGlobal g e) ≡ SetGlobal g (view e)
view_set_global g e = ap view_core (sym (rolls-SetGlobal g e)) ∙ fold-roll-CellCore Form Tree view_in view_at (CellCore-F.SetGlobal g e)

pub view_def_global : (g : ℕ) (e : CellExpr) → view_core (code.DefGlobal g e) ≡ DefGlobal g (view e)
view_def_global g e = ap view_core (sym (rolls-DefGlobal g e)) ∙ fold-roll-CellCore Form Tree view_in view_at (CellCore-F.DefGlobal g e)

pub view_let : (xs : List ℕ) (es : List CellExpr) (e : CellExpr) → view_core (code.Let xs es e) ≡ Let xs (trees (map view es)) (view e)
view_let xs es e = ap view_core (sym (rolls-Let xs es e)) ∙ fold-roll-CellCore Form Tree view_in view_at (CellCore-F.Let xs es e)

pub view_letrec : (xs ls : List ℕ) (e : CellExpr) → view_core (code.Letrec xs ls e) ≡ Letrec xs ls (view e)
view_letrec xs ls e = ap view_core (sym (rolls-Letrec xs ls e)) ∙ fold-roll-CellCore Form Tree view_in view_at (CellCore-F.Letrec xs ls e)

pub view_seq : (es : List CellExpr) → view_core (code.Seq es) ≡ Seq (trees (map view es))
view_seq es = ap view_core (sym (rolls-Seq es)) ∙ fold-roll-CellCore Form Tree view_in view_at (CellCore-F.Seq es)

pub view_call : (f : CellExpr) (es : List CellExpr) → view_core (code.Call f es) ≡ Call (view f) (trees (map view es))
view_call f es = ap view_core (sym (rolls-Call f es)) ∙ fold-roll-CellCore Form Tree view_in view_at (CellCore-F.Call f es)

pub view_prim : (p : Primitive) (es : List CellExpr) → view_core (code.Prim p es) ≡ PrimUse p (trees (map view es))
view_prim p es = ap view_core (sym (rolls-Prim p es)) ∙ fold-roll-CellCore Form Tree view_in view_at (CellCore-F.Prim p es)

pub view_apply : (f l : CellExpr) → view_core (code.Apply f l) ≡ Apply (view f) (view l)
view_apply f l = ap view_core (sym (rolls-Apply f l)) ∙ fold-roll-CellCore Form Tree view_in view_at (CellCore-F.Apply f l)

pub ruleset cell_viewed = (view_node, view_quote, view_local, view_global, view_lambda, view_if, view_new_cell, view_cell_get, view_cell_set, view_set_global, view_def_global, view_let, view_letrec, view_seq, view_call, view_prim, view_apply)

pub ruleset viewing = (common_steps, arith, viewed, cell_viewed)
