-- The plain data of expressions and operations, by their form.
use Rattle.std.proofs.Common.{◌≡◌, sym, ap, ◌∙◌, ℕ, List, map, arith}
use Rattle.std.proofs.lemmas.Grind.{common_steps}
use Rattle.tb_prim.specs.declared.constant.Const.{Const}
use Rattle.tb_prim.specs.declared.place.Place.{Place}
use Rattle.tb_prim.specs.declared.primitive.Primitive.{Primitive}
use Rattle.tb_core.proofs.Views.{viewed}
use Rattle.tb_ir.specs.declared.cells.CellCore.TheOpen.{CellCore-F}
use Rattle.tb_ir.specs.declared.cells.CellCore.TheVariants as code
use Rattle.tb_ir.specs.declared.cells.CellCore.TheFolds.{fold-roll-CellCore, fold_out-CellExpr}
use Rattle.tb_ir.specs.declared.cells.CellExpr.{CellExpr}
use Rattle.tb_ir.specs.declared.anf.Atom.{Atom}
use Rattle.tb_ir.specs.declared.anf.Block.{Block as BlockCode}
use Rattle.tb_ir.specs.declared.anf.Block.TheOpen.{Op-F}
use Rattle.tb_ir.specs.declared.anf.Block.TheFolds.{fold-roll-Op}
use Rattle.tb_ir.specs.declared.anf.Op.TheVariants as op
use Rattle.tb_ir.specs.AnfPlain.{view_atom, view_block, view_op, view_in_block, view_in_op}
use Rattle.tb_ir.specs.AnfTree as A
use Rattle.tb_ir.specs.Plain.{view, view_core, view_in, view_at, trees}
use Rattle.tb_ir.specs.Tree.{Tree, Node, Form, Quote, Local, Global, Lambda, If, NewCell, CellGet, CellSet, SetGlobal, DefGlobal, Let, Letrec, Seq, Call, Direct, PrimUse, Apply}

pub view_node : (e : CellExpr) → view e ≡ Node e.place e.site (view_core e.core)
view_node e = fold_out-CellExpr Form Tree view_in view_at e

pub view_quote : (c : Const) → view_core (code.Quote c) ≡ Quote c
view_quote c = ap view_core (sym (code.rolls-Quote c)) ∙ fold-roll-CellCore Form Tree view_in view_at (CellCore-F.Quote c)

pub view_local : (x : ℕ) → view_core (code.Local x) ≡ Local x
view_local x = ap view_core (sym (code.rolls-Local x)) ∙ fold-roll-CellCore Form Tree view_in view_at (CellCore-F.Local x)

pub view_global : (g : ℕ) → view_core (code.Global g) ≡ Global g
view_global g = ap view_core (sym (code.rolls-Global g)) ∙ fold-roll-CellCore Form Tree view_in view_at (CellCore-F.Global g)

pub view_lambda : (l : ℕ) → view_core (code.Lambda l) ≡ Lambda l
view_lambda l = ap view_core (sym (code.rolls-Lambda l)) ∙ fold-roll-CellCore Form Tree view_in view_at (CellCore-F.Lambda l)

pub view_if : (a b c : CellExpr) → view_core (code.If a b c) ≡ If (view a) (view b) (view c)
view_if a b c = ap view_core (sym (code.rolls-If a b c)) ∙ fold-roll-CellCore Form Tree view_in view_at (CellCore-F.If a b c)

pub view_new_cell : (e : CellExpr) → view_core (code.NewCell e) ≡ NewCell (view e)
view_new_cell e = ap view_core (sym (code.rolls-NewCell e)) ∙ fold-roll-CellCore Form Tree view_in view_at (CellCore-F.NewCell e)

pub view_cell_get : (e : CellExpr) → view_core (code.CellGet e) ≡ CellGet (view e)
view_cell_get e = ap view_core (sym (code.rolls-CellGet e)) ∙ fold-roll-CellCore Form Tree view_in view_at (CellCore-F.CellGet e)

pub view_cell_set : (c e : CellExpr) → view_core (code.CellSet c e) ≡ CellSet (view c) (view e)
view_cell_set c e = ap view_core (sym (code.rolls-CellSet c e)) ∙ fold-roll-CellCore Form Tree view_in view_at (CellCore-F.CellSet c e)

pub view_set_global : (g : ℕ) (e : CellExpr) → view_core (code.SetGlobal g e) ≡ SetGlobal g (view e)
view_set_global g e = ap view_core (sym (code.rolls-SetGlobal g e)) ∙ fold-roll-CellCore Form Tree view_in view_at (CellCore-F.SetGlobal g e)

pub view_def_global : (g : ℕ) (e : CellExpr) → view_core (code.DefGlobal g e) ≡ DefGlobal g (view e)
view_def_global g e = ap view_core (sym (code.rolls-DefGlobal g e)) ∙ fold-roll-CellCore Form Tree view_in view_at (CellCore-F.DefGlobal g e)

pub view_let : (xs : List ℕ) (es : List CellExpr) (e : CellExpr) → view_core (code.Let xs es e) ≡ Let xs (trees (map view es)) (view e)
view_let xs es e = ap view_core (sym (code.rolls-Let xs es e)) ∙ fold-roll-CellCore Form Tree view_in view_at (CellCore-F.Let xs es e)

pub view_letrec : (xs ls : List ℕ) (e : CellExpr) → view_core (code.Letrec xs ls e) ≡ Letrec xs ls (view e)
view_letrec xs ls e = ap view_core (sym (code.rolls-Letrec xs ls e)) ∙ fold-roll-CellCore Form Tree view_in view_at (CellCore-F.Letrec xs ls e)

pub view_seq : (es : List CellExpr) → view_core (code.Seq es) ≡ Seq (trees (map view es))
view_seq es = ap view_core (sym (code.rolls-Seq es)) ∙ fold-roll-CellCore Form Tree view_in view_at (CellCore-F.Seq es)

pub view_call : (f : CellExpr) (es : List CellExpr) → view_core (code.Call f es) ≡ Call (view f) (trees (map view es))
view_call f es = ap view_core (sym (code.rolls-Call f es)) ∙ fold-roll-CellCore Form Tree view_in view_at (CellCore-F.Call f es)

pub view_direct : (l : ℕ) (es : List CellExpr) → view_core (code.Direct l es) ≡ Direct l (trees (map view es))
view_direct l es = ap view_core (sym (code.rolls-Direct l es)) ∙ fold-roll-CellCore Form Tree view_in view_at (CellCore-F.Direct l es)

pub view_prim : (q : Primitive) (es : List CellExpr) → view_core (code.Prim q es) ≡ PrimUse q (trees (map view es))
view_prim q es = ap view_core (sym (code.rolls-Prim q es)) ∙ fold-roll-CellCore Form Tree view_in view_at (CellCore-F.Prim q es)

pub view_apply : (f l : CellExpr) → view_core (code.Apply f l) ≡ Apply (view f) (view l)
view_apply f l = ap view_core (sym (code.rolls-Apply f l)) ∙ fold-roll-CellCore Form Tree view_in view_at (CellCore-F.Apply f l)

pub op_atom : (a : Atom) → view_op (op.Atom a) ≡ A.Atom (view_atom a)
op_atom a = ap view_op (sym (op.rolls-Atom a)) ∙ fold-roll-Op A.Block A.Op view_in_block view_in_op (Op-F.Atom a)

pub op_global : (g : ℕ) (p : Place) → view_op (op.Global g p) ≡ A.Global g p
op_global g p = ap view_op (sym (op.rolls-Global g p)) ∙ fold-roll-Op A.Block A.Op view_in_block view_in_op (Op-F.Global g p)

pub op_set_global : (g : ℕ) (a : Atom) (p : Place) → view_op (op.SetGlobal g a p) ≡ A.SetGlobal g (view_atom a) p
op_set_global g a p = ap view_op (sym (op.rolls-SetGlobal g a p)) ∙ fold-roll-Op A.Block A.Op view_in_block view_in_op (Op-F.SetGlobal g a p)

pub op_def_global : (g : ℕ) (a : Atom) → view_op (op.DefGlobal g a) ≡ A.DefGlobal g (view_atom a)
op_def_global g a = ap view_op (sym (op.rolls-DefGlobal g a)) ∙ fold-roll-Op A.Block A.Op view_in_block view_in_op (Op-F.DefGlobal g a)

pub op_prim : (q : Primitive) (ds : List Atom) (p : Place) → view_op (op.Prim q ds p) ≡ A.PrimUse q (map view_atom ds) p
op_prim q ds p = ap view_op (sym (op.rolls-Prim q ds p)) ∙ fold-roll-Op A.Block A.Op view_in_block view_in_op (Op-F.Prim q ds p)

pub op_new_cell : (a : Atom) → view_op (op.NewCell a) ≡ A.NewCell (view_atom a)
op_new_cell a = ap view_op (sym (op.rolls-NewCell a)) ∙ fold-roll-Op A.Block A.Op view_in_block view_in_op (Op-F.NewCell a)

pub op_cell_get : (a : Atom) (p : Place) → view_op (op.CellGet a p) ≡ A.CellGet (view_atom a) p
op_cell_get a p = ap view_op (sym (op.rolls-CellGet a p)) ∙ fold-roll-Op A.Block A.Op view_in_block view_in_op (Op-F.CellGet a p)

pub op_cell_set : (a b : Atom) → view_op (op.CellSet a b) ≡ A.CellSet (view_atom a) (view_atom b)
op_cell_set a b = ap view_op (sym (op.rolls-CellSet a b)) ∙ fold-roll-Op A.Block A.Op view_in_block view_in_op (Op-F.CellSet a b)

pub op_close : (l : ℕ) → view_op (op.Close l) ≡ A.Close l
op_close l = ap view_op (sym (op.rolls-Close l)) ∙ fold-roll-Op A.Block A.Op view_in_block view_in_op (Op-F.Close l)

pub op_call : (f : Atom) (ds : List Atom) (p : Place) → view_op (op.Call f ds p) ≡ A.Call (view_atom f) (map view_atom ds) p
op_call f ds p = ap view_op (sym (op.rolls-Call f ds p)) ∙ fold-roll-Op A.Block A.Op view_in_block view_in_op (Op-F.Call f ds p)

pub op_direct : (l : ℕ) (ds : List Atom) → view_op (op.Direct l ds) ≡ A.Direct l (map view_atom ds)
op_direct l ds = ap view_op (sym (op.rolls-Direct l ds)) ∙ fold-roll-Op A.Block A.Op view_in_block view_in_op (Op-F.Direct l ds)

pub op_apply : (f l : Atom) (p : Place) → view_op (op.Apply f l p) ≡ A.Apply (view_atom f) (view_atom l) p
op_apply f l p = ap view_op (sym (op.rolls-Apply f l p)) ∙ fold-roll-Op A.Block A.Op view_in_block view_in_op (Op-F.Apply f l p)

pub op_branch : (a : Atom) (b c : BlockCode) → view_op (op.Branch a b c) ≡ A.Branch (view_atom a) (view_block b) (view_block c)
op_branch a b c = ap view_op (sym (op.rolls-Branch a b c)) ∙ fold-roll-Op A.Block A.Op view_in_block view_in_op (Op-F.Branch a b c)

pub ruleset viewing = (common_steps, arith, viewed, view_node, view_quote, view_local, view_global, view_lambda, view_if, view_new_cell, view_cell_get, view_cell_set, view_set_global, view_def_global, view_let, view_letrec, view_seq, view_call, view_direct, view_prim, view_apply)

pub ruleset operating = (op_atom, op_global, op_set_global, op_def_global, op_prim, op_new_cell, op_cell_get, op_cell_set, op_close, op_call, op_direct, op_apply, op_branch)
