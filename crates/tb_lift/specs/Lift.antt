-- Lambda lifting: the program in which the lambda expressions of a set are called directly, all at once.
use Rattle.std.specs.Prelude.{ℕ, Bool, cond, ◌==◌, List, [], ◌∷◌, ◌++◌, map, Option, Some, None}
use Rattle.tb_prim.specs.declared.place.Place.{Place}
use Rattle.tb_prim.specs.declared.constant.Const.{Const}
use Rattle.tb_core.specs.FreeVariables.{is_in}
use Rattle.tb_core.specs.Lifting.{Lifted}
use Rattle.tb_ir.specs.Tree.{Tree, Node, Form, Quote, Local, Global, Lambda, If, NewCell, CellGet, CellSet, SetGlobal, DefGlobal, Let, Letrec, Seq, Call, Direct, PrimUse, Apply, Trees, none, more, LambdaTree, ProgramTree}
use Rattle.tb_ir.specs.FreeVariables.{added_to}
use Rattle.tb_ir.specs.Rules.{all_nodes}

-- a variable that a `let` or a `letrec` binds to a lambda expression
pub record Binding : Type 0 where
  pub variable : ℕ
  pub lambda : ℕ

abbrev pub bound_to : ℕ → Tree → List Binding
bound_to x (Node p s (Lambda l)) = record { variable = x; lambda = l } ∷ []
bound_to x (Node p s _) = []

abbrev pub let_bindings : List ℕ → Trees → List Binding
let_bindings xs none = []
let_bindings [] (more e es) = []
let_bindings (x ∷ xs) (more e es) = bound_to x e ++ let_bindings xs es

abbrev pub letrec_bindings : List ℕ → List ℕ → List Binding
letrec_bindings [] ls = []
letrec_bindings (x ∷ xs) [] = []
letrec_bindings (x ∷ xs) (l ∷ ls) = record { variable = x; lambda = l } ∷ letrec_bindings xs ls

abbrev pub bindings_at : Tree → List Binding
bindings_at (Node p s (Let xs es e)) = let_bindings xs es
bindings_at (Node p s (Letrec xs ls e)) = letrec_bindings xs ls
bindings_at (Node p s _) = []

abbrev pub bindings : List Tree → List Binding
bindings [] = []
bindings (n ∷ ns) = bindings_at n ++ bindings ns

abbrev pub is_lifted : List Lifted → ℕ → Bool
is_lifted set l = is_in (map (λ (m : Lifted). m.lambda) set) l

-- the lambda expression of the set that a variable names
abbrev pub named : List Lifted → List Binding → ℕ → Option ℕ
named set [] x = None
named set (b ∷ bs) x = cond (b.variable == x) (cond (is_lifted set b.lambda) (Some b.lambda) (named set bs x)) (named set bs x)

-- what the transformation goes by: the lambda expression that a variable names, whether a lambda expression is lifted,
-- and the variables that are added to it
pub record Choice : Type 0 where
  pub names : ℕ → Option ℕ
  pub lifted : ℕ → Bool
  pub added : ℕ → List ℕ

abbrev pub choice : ProgramTree → List Lifted → Choice
choice p set = record { names = named set (bindings (all_nodes p)); lifted = is_lifted set; added = added_to set }

-- the variables themselves as operands, at the place of the operator that they take the place of
abbrev pub locals : Place → ℕ → List ℕ → Trees
locals p s [] = none
locals p s (x ∷ xs) = more (Node p s (Local x)) (locals p s xs)

abbrev pub joined : Trees → Trees → Trees
joined none ds = ds
joined (more e es) ds = more e (joined es ds)

-- the operator of a call, where it is a variable
abbrev pub called : Choice → Tree → Option ℕ
called k (Node p s (Local x)) = k.names x
called k (Node p s _) = None

-- a call of a lambda expression that is lifted is direct: its own operands, and then the variables that are added
abbrev pub call : Choice → Option ℕ → Tree → Trees → Form
call k None f es = Call f es
call k (Some l) (Node p s f) es = Direct l (joined es (locals p s (k.added l)))

-- those of a `letrec` that stay
abbrev pub staying_variables : Choice → List ℕ → List ℕ → List ℕ
staying_variables k [] ls = []
staying_variables k (x ∷ xs) [] = x ∷ xs
staying_variables k (x ∷ xs) (l ∷ ls) = cond (k.lifted l) (staying_variables k xs ls) (x ∷ staying_variables k xs ls)

abbrev pub staying : Choice → List ℕ → List ℕ
staying k [] = []
staying k (l ∷ ls) = cond (k.lifted l) (staying k ls) (l ∷ staying k ls)

-- In the place of a lambda expression that is lifted, an operand of a `let`, stands the unspecified value.
abbrev mutual
  pub lift : Choice → Tree → Tree
  lift k (Node p s f) = Node p s (lift_form k f)

  pub lift_form : Choice → Form → Form
  lift_form k (Quote c) = Quote c
  lift_form k (Local x) = Local x
  lift_form k (Global g) = Global g
  lift_form k (Lambda l) = cond (k.lifted l) (Quote Const.Unspecified) (Lambda l)
  lift_form k (If a b c) = If (lift k a) (lift k b) (lift k c)
  lift_form k (NewCell e) = NewCell (lift k e)
  lift_form k (CellGet e) = CellGet (lift k e)
  lift_form k (CellSet c e) = CellSet (lift k c) (lift k e)
  lift_form k (SetGlobal g e) = SetGlobal g (lift k e)
  lift_form k (DefGlobal g e) = DefGlobal g (lift k e)
  lift_form k (Let xs es e) = Let xs (lift_all k es) (lift k e)
  lift_form k (Letrec xs ls e) = Letrec (staying_variables k xs ls) (staying k ls) (lift k e)
  lift_form k (Seq es) = Seq (lift_all k es)
  lift_form k (Call f es) = call k (called k f) (lift k f) (lift_all k es)
  lift_form k (Direct l es) = Direct l (lift_all k es)
  lift_form k (PrimUse p es) = PrimUse p (lift_all k es)
  lift_form k (Apply f l) = Apply (lift k f) (lift k l)

  pub lift_all : Choice → Trees → Trees
  lift_all k none = none
  lift_all k (more e es) = more (lift k e) (lift_all k es)

abbrev pub lift_lambda : Choice → LambdaTree → LambdaTree
lift_lambda k m = record { place = m.place; formals = m.formals; rest = m.rest; body = lift k m.body }

-- the lifted program: parameters stay as they are, and the set tells which variables are added
abbrev pub lifted_program : ProgramTree → List Lifted → ProgramTree
lifted_program p set = record {
  globals = p.globals;
  statics = p.statics;
  lambdas = map (lift_lambda (choice p set)) p.lambdas;
  forms = lift_all (choice p set) p.forms;
  set = set;
}
