-- The plain data that the types of expressions are seen as, and that the parts of a program are.
use Rattle.std.specs.Prelude.{List, [], ◌∷◌, map}
use Rattle.tb_prim.specs.declared.constant.Static.{Static}
use Rattle.tb_prim.specs.declared.constant.GlobalName.{GlobalName}
use Rattle.tb_core.specs.declared.lift_set.LiftLine.{LiftLine}
use Rattle.tb_core.specs.Lifting.{view_lifted}
use Rattle.tb_ir.specs.declared.cells.CellCore.{CellCore}
use Rattle.tb_ir.specs.declared.cells.CellCore.TheOpen.{CellCore-F, CellExpr-F}
use Rattle.tb_ir.specs.declared.cells.CellCore.TheFolds.{fold-CellCore, fold-CellExpr}
use Rattle.tb_ir.specs.declared.cells.CellExpr.{CellExpr}
use Rattle.tb_ir.specs.declared.cells.CellLambda.{CellLambda}
use Rattle.tb_ir.specs.Tree.{Tree, Node, Form, Quote, Local, Global, Lambda, If, NewCell, CellGet, CellSet, SetGlobal, DefGlobal, Let, Letrec, Seq, Call, Direct, PrimUse, Apply, Trees, none, more, LambdaTree, ProgramTree}

-- a list of expressions as data of its own
abbrev pub trees : List Tree → Trees
trees [] = none
trees (e ∷ es) = more e (trees es)

abbrev pub view_in : CellCore-F Form Tree → Form
view_in (CellCore-F.Quote c) = Quote c
view_in (CellCore-F.Local x) = Local x
view_in (CellCore-F.Global g) = Global g
view_in (CellCore-F.Lambda l) = Lambda l
view_in (CellCore-F.If a b c) = If a b c
view_in (CellCore-F.NewCell e) = NewCell e
view_in (CellCore-F.CellGet e) = CellGet e
view_in (CellCore-F.CellSet c e) = CellSet c e
view_in (CellCore-F.SetGlobal g e) = SetGlobal g e
view_in (CellCore-F.DefGlobal g e) = DefGlobal g e
view_in (CellCore-F.Let xs es e) = Let xs (trees es) e
view_in (CellCore-F.Letrec xs ls e) = Letrec xs ls e
view_in (CellCore-F.Seq es) = Seq (trees es)
view_in (CellCore-F.Call f es) = Call f (trees es)
view_in (CellCore-F.Direct l es) = Direct l (trees es)
view_in (CellCore-F.Prim p es) = PrimUse p (trees es)
view_in (CellCore-F.Apply f l) = Apply f l

abbrev pub view_at : CellExpr-F Form Tree → Tree
view_at e = Node e.place e.site e.core

-- an expression as a tree
abbrev pub view : CellExpr → Tree
view = fold-CellExpr Form Tree view_in view_at

abbrev pub view_core : CellCore → Form
view_core = fold-CellCore Form Tree view_in view_at

abbrev pub view_lambda : CellLambda → LambdaTree
view_lambda l = record { place = l.place; formals = l.formals; rest = l.rest; body = view l.body }

-- a program as plain data, from its parts
abbrev pub plain_program : List GlobalName → List Static → List CellLambda → List CellExpr → List LiftLine → ProgramTree
plain_program globals statics lambdas forms set = record {
  globals = globals;
  statics = statics;
  lambdas = map view_lambda lambdas;
  forms = trees (map view forms);
  set = map view_lifted set;
}
