-- The width of bodies and forms with cells, which bounds the code that is made of them. What the passes add to a
-- program counts nothing: a variable and the cell that is made of it count once together, and so on.
use Rattle.std.specs.Prelude.{ℕ, zero, suc, ◌+◌, Bool, true, false, cond, ◌==◌, List, [], ◌∷◌, ◌++◌, length, Option, Some, None, slice_get}
use Rattle.tb_core.specs.OperandOrder.{Line}
use Rattle.tb_core.specs.Lifting.{Lifted}
use Rattle.tb_core.specs.Width.{largest, squares, widths_of_lambdas}
use Rattle.tb_ir.specs.Tree.{Tree, Node, Form, Quote, Local, Global, Lambda, If, NewCell, CellGet, CellSet, SetGlobal, DefGlobal, Let, Letrec, Seq, Call, Direct, PrimUse, Apply, Trees, none, more, LambdaTree, ProgramTree}
use Rattle.tb_ir.specs.FreeVariables.{parameters}
use Rattle.tb_ir.specs.TreeMachine.{line_of}

-- whether an expression makes a cell
abbrev pub is_new_cell : Tree → Bool
is_new_cell (Node p s (NewCell e)) = true
is_new_cell _ = false

-- how many of the operands of a `let` make no cell
abbrev pub plain_count : Trees → ℕ
plain_count none = 0
plain_count (more e es) = cond (is_new_cell e) 0 1 + plain_count es

module _ (lined : ℕ → Bool) (own : ℕ → ℕ) where
  -- the nodes of an expression that count, inner lambdas apart, which count one each. `lined` tells which nodes
  -- have a line in the order, and `own` how many parameters of its own a lambda expression has. A `let` without
  -- a line counts nothing, nor do the cells that it makes; nor does the name of a cell that is read or set, nor
  -- do the operands that are added to a direct call.
  abbrev mutual
    pub nodes : Tree → ℕ
    nodes (Node p s f) = nodes_form (lined s) f

    pub nodes_form : Bool → Form → ℕ
    nodes_form l (Quote c) = 1
    nodes_form l (Local x) = 1
    nodes_form l (Global g) = 1
    nodes_form l (Lambda m) = 1
    nodes_form l (If a b c) = 1 + (nodes a + (nodes b + nodes c))
    nodes_form l (NewCell e) = 1 + nodes e
    nodes_form l (CellGet e) = 1 + nodes_cell e
    nodes_form l (CellSet c e) = 1 + (nodes_cell c + nodes e)
    nodes_form l (SetGlobal g e) = 1 + nodes e
    nodes_form l (DefGlobal g e) = 1 + nodes e
    nodes_form true (Let xs es e) = 1 + (nodes_all es + nodes e)
    nodes_form false (Let xs es e) = nodes_plain es + nodes e
    nodes_form l (Letrec xs ls e) = 1 + (length ls + nodes e)
    nodes_form l (Seq es) = 1 + nodes_all es
    nodes_form l (Call f es) = 1 + (nodes f + nodes_all es)
    nodes_form l (Direct m es) = 1 + nodes_first (own m) es
    nodes_form l (PrimUse p es) = 1 + nodes_all es
    nodes_form l (Apply f d) = 1 + (nodes f + nodes d)

    pub nodes_all : Trees → ℕ
    nodes_all none = 0
    nodes_all (more e es) = nodes e + nodes_all es

    -- of an expression that names a cell
    pub nodes_cell : Tree → ℕ
    nodes_cell (Node p s (Local x)) = 0
    nodes_cell (Node p s f) = nodes_form (lined s) f

    -- of the operands of a `let` without a line
    pub nodes_plain : Trees → ℕ
    nodes_plain none = 0
    nodes_plain (more e es) = cond (is_new_cell e) 0 (nodes e) + nodes_plain es

    -- of the first so many operands
    pub nodes_first : ℕ → Trees → ℕ
    nodes_first zero es = 0
    nodes_first (suc n) none = 0
    nodes_first (suc n) (more e es) = nodes e + nodes_first n es

  -- the widths of the lambdas in an expression, in written order; `inner` gives those of a lambda by its number
  -- and the variables in scope
  abbrev mutual
    pub widths : (ℕ → ℕ → List ℕ) → ℕ → Tree → List ℕ
    widths inner scope (Node p s f) = widths_form inner scope f

    pub widths_form : (ℕ → ℕ → List ℕ) → ℕ → Form → List ℕ
    widths_form inner scope (Quote c) = []
    widths_form inner scope (Local x) = []
    widths_form inner scope (Global g) = []
    widths_form inner scope (Lambda l) = inner l scope
    widths_form inner scope (If a b c) = widths inner scope a ++ (widths inner scope b ++ widths inner scope c)
    widths_form inner scope (NewCell e) = widths inner scope e
    widths_form inner scope (CellGet e) = widths inner scope e
    widths_form inner scope (CellSet c e) = widths inner scope c ++ widths inner scope e
    widths_form inner scope (SetGlobal g e) = widths inner scope e
    widths_form inner scope (DefGlobal g e) = widths inner scope e
    widths_form inner scope (Let xs es e) = widths_all inner scope es ++ widths inner (scope + plain_count es) e
    widths_form inner scope (Letrec xs ls e) =
        widths_of_lambdas inner (scope + length xs) ls ++ widths inner (scope + length xs) e
    widths_form inner scope (Seq es) = widths_all inner scope es
    widths_form inner scope (Call f es) = widths inner scope f ++ widths_all inner scope es
    widths_form inner scope (Direct l es) = widths_all inner scope es
    widths_form inner scope (PrimUse p es) = widths_all inner scope es
    widths_form inner scope (Apply f l) = widths inner scope f ++ widths inner scope l

    pub widths_all : (ℕ → ℕ → List ℕ) → ℕ → Trees → List ℕ
    widths_all inner scope none = []
    widths_all inner scope (more e es) = widths inner scope e ++ widths_all inner scope es

  -- the width of a lambda's body (the variables in scope at its start, its parameters included, and its nodes),
  -- and those of the lambdas in it
  abbrev pub lambda_widths : (ℕ → ℕ → List ℕ) → LambdaTree → ℕ → List ℕ
  lambda_widths inner l scope =
      let n = scope + length (parameters l) in (n + nodes l.body) ∷ widths inner n l.body

  -- the same of each lambda expression by its number
  abbrev pub lambdas_widths : List LambdaTree → ℕ → ℕ → ℕ → List ℕ
  lambdas_widths [] first l scope = []
  lambdas_widths (m ∷ ms) first l scope =
      cond (first == l) (lambda_widths (lambdas_widths ms (suc first)) m scope) (lambdas_widths ms (suc first) l scope)

  -- the widths of the forms and of the lambdas in them
  abbrev pub form_widths : (ℕ → ℕ → List ℕ) → Trees → List ℕ
  form_widths inner none = []
  form_widths inner (more e es) = nodes e ∷ (widths inner 0 e ++ form_widths inner es)

  -- a lambda that is lifted has the variables that are added to it in scope, and no others
  abbrev pub lifted_widths : (ℕ → ℕ → List ℕ) → List Lifted → List ℕ
  lifted_widths inner [] = []
  lifted_widths inner (m ∷ ms) = inner m.lambda (length m.added) ++ lifted_widths inner ms

abbrev pub is_lined : Option (List ℕ) → Bool
is_lined None = false
is_lined (Some line) = true

abbrev pub formals_of : Option LambdaTree → ℕ
formals_of None = 0
formals_of (Some l) = length l.formals

-- the widths of all bodies and forms of a program under an order
abbrev pub all_widths : ProgramTree → List Line → List ℕ
all_widths p order =
    let lined = λ (s : ℕ). is_lined (line_of order s) in
    let own = λ (l : ℕ). formals_of (slice_get p.lambdas l) in
    let inner = lambdas_widths lined own p.lambdas 0 in
    form_widths lined own inner p.forms ++ lifted_widths lined own inner p.set

-- the largest width, and the sum of the squared widths
abbrev pub width_of : ProgramTree → List Line → ℕ
width_of p order = largest (all_widths p order)

abbrev pub square_sum : ProgramTree → List Line → ℕ
square_sum p order = squares (all_widths p order)
