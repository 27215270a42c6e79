-- The plain data that the types of expressions are seen as, and that the parts of a program are.
use Rattle.std.specs.Prelude.{List, [], ◌∷◌, map}
use Rattle.tb_prim.specs.declared.constant.Static.{Static}
use Rattle.tb_prim.specs.declared.constant.GlobalName.{GlobalName}
use Rattle.tb_core.specs.declared.expr.Core.{Core}
use Rattle.tb_core.specs.declared.expr.Core.TheOpen.{Core-F, Expr-F}
use Rattle.tb_core.specs.declared.expr.Core.TheFolds.{fold-Core, fold-Expr}
use Rattle.tb_core.specs.declared.expr.Expr.{Expr}
use Rattle.tb_core.specs.declared.program.Lambda.{Lambda as LambdaCode}
use Rattle.tb_core.specs.Tree.{Tree, Node, Form, Quote, Local, Global, Lambda, If, SetLocal, SetGlobal, DefGlobal, Let, Letrec, Seq, Call, PrimUse, Apply, Trees, none, more, LambdaTree, ProgramTree}

-- a list of expressions as data of its own
abbrev pub trees : List Tree → Trees
trees [] = none
trees (e ∷ es) = more e (trees es)

abbrev pub view_in : Core-F Form Tree → Form
view_in (Core-F.Quote c) = Quote c
view_in (Core-F.Local x) = Local x
view_in (Core-F.Global g) = Global g
view_in (Core-F.Lambda l) = Lambda l
view_in (Core-F.If a b c) = If a b c
view_in (Core-F.SetLocal x e) = SetLocal x e
view_in (Core-F.SetGlobal g e) = SetGlobal g e
view_in (Core-F.DefGlobal g e) = DefGlobal g e
view_in (Core-F.Let xs es e) = Let xs (trees es) e
view_in (Core-F.Letrec xs ls e) = Letrec xs ls e
view_in (Core-F.Seq es) = Seq (trees es)
view_in (Core-F.Call f es) = Call f (trees es)
view_in (Core-F.Prim p es) = PrimUse p (trees es)
view_in (Core-F.Apply f l) = Apply f l

abbrev pub view_at : Expr-F Form Tree → Tree
view_at e = Node e.place e.site e.core

-- an expression as a tree
abbrev pub view : Expr → Tree
view = fold-Expr Form Tree view_in view_at

abbrev pub view_core : Core → Form
view_core = fold-Core Form Tree view_in view_at

abbrev pub view_lambda : LambdaCode → LambdaTree
view_lambda l = record { place = l.place; formals = l.formals; rest = l.rest; body = view l.body }

-- a program as plain data, from its parts
abbrev pub plain_program : List GlobalName → List Static → List LambdaCode → List Expr → ProgramTree
plain_program globals statics lambdas forms = record { globals = globals; statics = statics; lambdas = map view_lambda lambdas; forms = trees (map view forms) }
