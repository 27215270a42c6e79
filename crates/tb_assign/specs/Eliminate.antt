-- Assignment elimination. A parameter or a variable of a `let` that is assigned is replaced in its list by a fresh
-- variable, and at the head of the body a new `let` binds it to a cell that is made of the fresh one. One `let`
-- serves all assigned variables of one list, and it has no line in the order.
use Rattle.std.specs.Prelude.{ℕ, suc, ◌+◌, ◌^◌, Bool, true, false, cond, List, [], ◌∷◌, filter, Option, Some, None}
use Rattle.tb_prim.specs.declared.place.Place.{Place}
use Rattle.tb_core.specs.Tree.{Tree, Node, Form, Quote, Local, Global, Lambda, If, SetLocal, SetGlobal, DefGlobal, Let, Letrec, Seq, Call, PrimUse, Apply, Trees, none, more, LambdaTree, ProgramTree, parameters}
use Rattle.tb_core.specs.FreeVariables.{is_assigned}
use Rattle.tb_ir.specs.Tree as C

-- numbers of the variables and nodes that are new: all numbers of a program are below 2^24
abbrev pub fresh : ℕ → ℕ
fresh x = 2 ^ 24 + x

-- the site of a `let` that is new: at the `let` of a site, and in the body of a lambda expression
abbrev pub let_site : ℕ → ℕ
let_site s = 2 ^ 24 + s

abbrev pub body_site : ℕ → ℕ
body_site l = 2 ^ 25 + l

-- the site of the name of a cell that is read or set at a site, and those of a new cell and its operand
abbrev pub name_site : ℕ → ℕ
name_site s = 2 ^ 25 + 2 ^ 24 + s

abbrev pub cell_site : ℕ → ℕ
cell_site x = 2 ^ 26 + x

abbrev pub operand_site : ℕ → ℕ
operand_site x = 2 ^ 26 + 2 ^ 24 + x

module _ (assigned : ℕ → Bool) where
  -- a list of variables with fresh ones for those that are assigned
  abbrev pub renamed : List ℕ → List ℕ
  renamed [] = []
  renamed (x ∷ xs) = cond (assigned x) (fresh x) x ∷ renamed xs

  abbrev pub celled : List ℕ → List ℕ
  celled xs = filter assigned xs

  -- a cell for each of the variables, made of its fresh one
  abbrev pub new_cell : Place → ℕ → C.Tree
  new_cell p x = C.Node p (cell_site x) (C.NewCell (C.Node p (operand_site x) (C.Local (fresh x))))

  abbrev pub new_cells : Place → List ℕ → C.Trees
  new_cells p [] = C.none
  new_cells p (x ∷ xs) = C.more (new_cell p x) (new_cells p xs)

  -- a body in which these variables are cells
  abbrev pub bind_cells : Place → ℕ → List ℕ → C.Tree → C.Tree
  bind_cells p s [] e = e
  bind_cells p s (x ∷ xs) e = C.Node p s (C.Let (x ∷ xs) (new_cells p (x ∷ xs)) e)

  abbrev pub with_cells : Place → ℕ → List ℕ → C.Tree → C.Tree
  with_cells p s xs e = bind_cells p s (celled xs) e

  -- the name of a variable that is a cell
  abbrev pub cell_name : Place → ℕ → ℕ → C.Tree
  cell_name p s x = C.Node p (name_site s) (C.Local x)

  abbrev pub read_variable : Place → ℕ → ℕ → Bool → C.Form
  read_variable p s x true = C.CellGet (cell_name p s x)
  read_variable p s x false = C.Local x

  -- an expression in which each variable that is assigned is a cell
  abbrev mutual
    pub eliminate : Tree → C.Tree
    eliminate (Node p s f) = C.Node p s (eliminate_form p s f)

    pub eliminate_form : Place → ℕ → Form → C.Form
    eliminate_form p s (Quote c) = C.Quote c
    eliminate_form p s (Local x) = read_variable p s x (assigned x)
    eliminate_form p s (Global g) = C.Global g
    eliminate_form p s (Lambda l) = C.Lambda l
    eliminate_form p s (If a b c) = C.If (eliminate a) (eliminate b) (eliminate c)
    eliminate_form p s (SetLocal x e) = C.CellSet (cell_name p s x) (eliminate e)
    eliminate_form p s (SetGlobal g e) = C.SetGlobal g (eliminate e)
    eliminate_form p s (DefGlobal g e) = C.DefGlobal g (eliminate e)
    eliminate_form p s (Let xs es e) = C.Let (renamed xs) (eliminate_all es) (with_cells p (let_site s) xs (eliminate e))
    eliminate_form p s (Letrec xs ls e) = C.Letrec xs ls (eliminate e)
    eliminate_form p s (Seq es) = C.Seq (eliminate_all es)
    eliminate_form p s (Call f es) = C.Call (eliminate f) (eliminate_all es)
    eliminate_form p s (PrimUse q es) = C.PrimUse q (eliminate_all es)
    eliminate_form p s (Apply f l) = C.Apply (eliminate f) (eliminate l)

    pub eliminate_all : Trees → C.Trees
    eliminate_all none = C.none
    eliminate_all (more e es) = C.more (eliminate e) (eliminate_all es)

  -- a parameter that may be a rest parameter
  abbrev pub renamed_rest : Option ℕ → Option ℕ
  renamed_rest None = None
  renamed_rest (Some x) = Some (cond (assigned x) (fresh x) x)

  -- a lambda expression with its number
  abbrev pub eliminate_lambda : ℕ → LambdaTree → C.LambdaTree
  eliminate_lambda n l = record {
    place = l.place;
    formals = renamed l.formals;
    rest = renamed_rest l.rest;
    body = with_cells l.place (body_site n) (parameters l) (eliminate l.body);
  }

  -- the first of the list being number n
  abbrev pub eliminate_lambdas : ℕ → List LambdaTree → List C.LambdaTree
  eliminate_lambdas n [] = []
  eliminate_lambdas n (l ∷ ls) = eliminate_lambda n l ∷ eliminate_lambdas (suc n) ls

-- a program in which each variable that is assigned is a cell
abbrev pub cells_of : ProgramTree → C.ProgramTree
cells_of p =
    let assigned = is_assigned p in
    record {
      globals = p.globals;
      statics = p.statics;
      lambdas = eliminate_lambdas assigned 0 p.lambdas;
      forms = eliminate_all assigned p.forms;
      set = [];
    }
