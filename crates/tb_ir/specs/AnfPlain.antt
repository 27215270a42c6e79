-- The plain data that the types of A-normal form are seen as.
use Rattle.std.specs.Prelude.{List, map}
use Rattle.tb_prim.specs.declared.constant.Static.{Static}
use Rattle.tb_prim.specs.declared.constant.GlobalName.{GlobalName}
use Rattle.tb_core.specs.declared.order.OrderLine.{OrderLine}
use Rattle.tb_core.specs.Order.{view_line}
use Rattle.tb_ir.specs.declared.anf.Atom.{Atom as AtomCode}
use Rattle.tb_ir.specs.declared.anf.Block.{Block as BlockCode}
use Rattle.tb_ir.specs.declared.anf.Block.TheOpen.{Block-F, Op-F}
use Rattle.tb_ir.specs.declared.anf.Block.TheFolds.{fold-Block, fold-Op}
use Rattle.tb_ir.specs.declared.anf.Op.{Op as OpCode}
use Rattle.tb_ir.specs.declared.anf.AnfProc.{AnfProc}
use Rattle.tb_ir.specs.AnfTree.{Operand, Quote, Var, Block, Bind, CloseAll, Tail, Op, Atom, Global, SetGlobal, DefGlobal, PrimUse, NewCell, CellGet, CellSet, Close, Call, Direct, Apply, Branch, ProcTree, AnfTree}

abbrev pub view_atom : AtomCode → Operand
view_atom (AtomCode.Quote c) = Quote c
view_atom (AtomCode.Var x) = Var x

abbrev pub view_in_block : Block-F Block Op → Block
view_in_block (Block-F.Bind x op b) = Bind x op b
view_in_block (Block-F.CloseAll xs ls b) = CloseAll xs ls b
view_in_block (Block-F.Tail op) = Tail op

abbrev pub view_in_op : Op-F Block Op → Op
view_in_op (Op-F.Atom a) = Atom (view_atom a)
view_in_op (Op-F.Global g p) = Global g p
view_in_op (Op-F.SetGlobal g a p) = SetGlobal g (view_atom a) p
view_in_op (Op-F.DefGlobal g a) = DefGlobal g (view_atom a)
view_in_op (Op-F.Prim q ds p) = PrimUse q (map view_atom ds) p
view_in_op (Op-F.NewCell a) = NewCell (view_atom a)
view_in_op (Op-F.CellGet a p) = CellGet (view_atom a) p
view_in_op (Op-F.CellSet a b) = CellSet (view_atom a) (view_atom b)
view_in_op (Op-F.Close l) = Close l
view_in_op (Op-F.Call f ds p) = Call (view_atom f) (map view_atom ds) p
view_in_op (Op-F.Direct l ds) = Direct l (map view_atom ds)
view_in_op (Op-F.Apply f l p) = Apply (view_atom f) (view_atom l) p
view_in_op (Op-F.Branch a b c) = Branch (view_atom a) b c

-- a block, and an operation, as plain data
abbrev pub view_block : BlockCode → Block
view_block = fold-Block Block Op view_in_block view_in_op

abbrev pub view_op : OpCode → Op
view_op = fold-Op Block Op view_in_block view_in_op

abbrev pub view_proc : AnfProc → ProcTree
view_proc q = record {
  lambda = q.lambda;
  lifted = q.lifted;
  place = q.place;
  params = q.params;
  rest = q.rest;
  captured = q.captured;
  body = view_block q.body;
}

-- a program as plain data, from its parts
abbrev pub plain_anf : List GlobalName → List Static → List OrderLine → List AnfProc → AnfTree
plain_anf globals statics order procs = record {
  globals = globals;
  statics = statics;
  order = map view_line order;
  procs = map view_proc procs;
}
