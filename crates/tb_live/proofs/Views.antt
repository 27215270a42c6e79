-- The plain data of operations and blocks, by their form.
use Rattle.std.proofs.Common.{◌≡◌, sym, ap, ◌∙◌, ℕ, List, map, arith}
use Rattle.std.proofs.lemmas.Grind.{common_steps}
use Rattle.tb_prim.specs.declared.place.Place.{Place}
use Rattle.tb_prim.specs.declared.primitive.Primitive.{Primitive}
use Rattle.tb_ir.specs.declared.anf.Atom.{Atom}
use Rattle.tb_ir.specs.declared.anf.Block.{Block as BlockCode}
use Rattle.tb_ir.specs.declared.anf.Block.TheOpen.{Block-F, Op-F}
use Rattle.tb_ir.specs.declared.anf.Block.TheFolds.{fold-roll-Block, fold-roll-Op}
use Rattle.tb_ir.specs.declared.anf.Block.TheVariants as block
use Rattle.tb_ir.specs.declared.anf.Op.{Op as OpCode}
use Rattle.tb_ir.specs.declared.anf.Op.TheVariants as op
use Rattle.tb_ir.specs.AnfPlain.{view_atom, view_block, view_op, view_in_block, view_in_op}
use Rattle.tb_ir.specs.AnfTree as A

pub op_atom : (a : Atom) → view_op (op.Atom a) ≡ A.Atom (view_atom a)
op_atom a = ap view_op (sym (op.rolls-Atom a)) ∙ fold-roll-Op A.Block A.Op view_in_block view_in_op (Op-F.Atom a)

pub op_global : (g : ℕ) (p : Place) → view_op (op.Global g p) ≡ A.Global g p
op_global g p = ap view_op (sym (op.rolls-Global g p)) ∙ fold-roll-Op A.Block A.Op view_in_block view_in_op (Op-F.Global g p)

pub op_set_global : (g : ℕ) (a : Atom) (p : Place) → view_op (op.SetGlobal g a p) ≡ A.SetGlobal g (view_atom a) p
op_set_global g a p = ap view_op (sym (op.rolls-SetGlobal g a p)) ∙ fold-roll-Op A.Block A.Op view_in_block view_in_op (Op-F.SetGlobal g a p)

pub op_def_global : (g : ℕ) (a : Atom) → view_op (op.DefGlobal g a) ≡ A.DefGlobal g (view_atom a)
op_def_global g a = ap view_op (sym (op.rolls-DefGlobal g a)) ∙ fold-roll-Op A.Block A.Op view_in_block view_in_op (Op-F.DefGlobal g a)

pub op_prim : (q : Primitive) (ds : List Atom) (p : Place) → view_op (op.Prim q ds p) ≡ A.PrimUse q (map view_atom ds) p
op_prim q ds p = ap view_op (sym (op.rolls-Prim q ds p)) ∙ fold-roll-Op A.Block A.Op view_in_block view_in_op (Op-F.Prim q ds p)

pub op_new_cell : (a : Atom) → view_op (op.NewCell a) ≡ A.NewCell (view_atom a)
op_new_cell a = ap view_op (sym (op.rolls-NewCell a)) ∙ fold-roll-Op A.Block A.Op view_in_block view_in_op (Op-F.NewCell a)

pub op_cell_get : (a : Atom) (p : Place) → view_op (op.CellGet a p) ≡ A.CellGet (view_atom a) p
op_cell_get a p = ap view_op (sym (op.rolls-CellGet a p)) ∙ fold-roll-Op A.Block A.Op view_in_block view_in_op (Op-F.CellGet a p)

pub op_cell_set : (a b : Atom) → view_op (op.CellSet a b) ≡ A.CellSet (view_atom a) (view_atom b)
op_cell_set a b = ap view_op (sym (op.rolls-CellSet a b)) ∙ fold-roll-Op A.Block A.Op view_in_block view_in_op (Op-F.CellSet a b)

pub op_close : (l : ℕ) → view_op (op.Close l) ≡ A.Close l
op_close l = ap view_op (sym (op.rolls-Close l)) ∙ fold-roll-Op A.Block A.Op view_in_block view_in_op (Op-F.Close l)

pub op_call : (f : Atom) (ds : List Atom) (p : Place) → view_op (op.Call f ds p) ≡ A.Call (view_atom f) (map view_atom ds) p
op_call f ds p = ap view_op (sym (op.rolls-Call f ds p)) ∙ fold-roll-Op A.Block A.Op view_in_block view_in_op (Op-F.Call f ds p)

pub op_direct : (l : ℕ) (ds : List Atom) → view_op (op.Direct l ds) ≡ A.Direct l (map view_atom ds)
op_direct l ds = ap view_op (sym (op.rolls-Direct l ds)) ∙ fold-roll-Op A.Block A.Op view_in_block view_in_op (Op-F.Direct l ds)

pub op_apply : (f l : Atom) (p : Place) → view_op (op.Apply f l p) ≡ A.Apply (view_atom f) (view_atom l) p
op_apply f l p = ap view_op (sym (op.rolls-Apply f l p)) ∙ fold-roll-Op A.Block A.Op view_in_block view_in_op (Op-F.Apply f l p)

pub op_branch : (a : Atom) (b c : BlockCode) → view_op (op.Branch a b c) ≡ A.Branch (view_atom a) (view_block b) (view_block c)
op_branch a b c = ap view_op (sym (op.rolls-Branch a b c)) ∙ fold-roll-Op A.Block A.Op view_in_block view_in_op (Op-F.Branch a b c)

pub block_bind : (x : ℕ) (o : OpCode) (b : BlockCode) → view_block (block.Bind x o b) ≡ A.Bind x (view_op o) (view_block b)
block_bind x o b = ap view_block (sym (block.rolls-Bind x o b)) ∙ fold-roll-Block A.Block A.Op view_in_block view_in_op (Block-F.Bind x o b)

pub block_close_all : (xs ls : List ℕ) (b : BlockCode) → view_block (block.CloseAll xs ls b) ≡ A.CloseAll xs ls (view_block b)
block_close_all xs ls b = ap view_block (sym (block.rolls-CloseAll xs ls b)) ∙ fold-roll-Block A.Block A.Op view_in_block view_in_op (Block-F.CloseAll xs ls b)

pub block_tail : (o : OpCode) → view_block (block.Tail o) ≡ A.Tail (view_op o)
block_tail o = ap view_block (sym (block.rolls-Tail o)) ∙ fold-roll-Block A.Block A.Op view_in_block view_in_op (Block-F.Tail o)

pub ruleset viewing = (common_steps, arith, op_atom, op_global, op_set_global, op_def_global, op_prim, op_new_cell, op_cell_get, op_cell_set, op_close, op_call, op_direct, op_apply, op_branch, block_bind, block_close_all, block_tail)
