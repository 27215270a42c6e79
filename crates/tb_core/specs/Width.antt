-- The width of bodies and forms, which bounds the code that is made of them.
use Rattle.std.specs.Prelude.{ℕ, suc, ◌+◌, ◌*◌, max, cond, ◌==◌, List, [], ◌∷◌, ◌++◌, length}
use Rattle.tb_core.specs.Tree.{Tree, Node, Form, Quote, Local, Global, Lambda, If, SetLocal, SetGlobal, DefGlobal, Let, Letrec, Seq, Call, PrimUse, Apply, Trees, none, more, LambdaTree, ProgramTree, parameters}

-- the nodes of an expression outside inner lambdas; a lambda expression counts one, and so does each lambda
-- of a `letrec`
abbrev mutual
  pub nodes : Tree → ℕ
  nodes (Node p s f) = 1 + nodes_form f

  pub nodes_form : Form → ℕ
  nodes_form (Quote c) = 0
  nodes_form (Local x) = 0
  nodes_form (Global g) = 0
  nodes_form (Lambda l) = 0
  nodes_form (If a b c) = nodes a + (nodes b + nodes c)
  nodes_form (SetLocal x e) = nodes e
  nodes_form (SetGlobal g e) = nodes e
  nodes_form (DefGlobal g e) = nodes e
  nodes_form (Let xs es e) = nodes_all es + nodes e
  nodes_form (Letrec xs ls e) = length ls + nodes e
  nodes_form (Seq es) = nodes_all es
  nodes_form (Call f es) = nodes f + nodes_all es
  nodes_form (PrimUse p es) = nodes_all es
  nodes_form (Apply f l) = nodes f + nodes l

  pub nodes_all : Trees → ℕ
  nodes_all none = 0
  nodes_all (more e es) = nodes e + nodes_all es

-- the widths of the bodies of some lambdas, with so many variables in scope where they stand
abbrev pub widths_of_lambdas : (ℕ → ℕ → List ℕ) → ℕ → List ℕ → List ℕ
widths_of_lambdas inner scope [] = []
widths_of_lambdas inner scope (l ∷ ls) = inner l scope ++ widths_of_lambdas inner scope ls

-- the widths of the lambdas in an expression, in written order; `inner` gives those of a lambda by its
-- number and the variables in scope
abbrev mutual
  pub widths : (ℕ → ℕ → List ℕ) → ℕ → Tree → List ℕ
  widths inner scope (Node p s f) = widths_form inner scope f

  pub widths_form : (ℕ → ℕ → List ℕ) → ℕ → Form → List ℕ
  widths_form inner scope (Quote c) = []
  widths_form inner scope (Local x) = []
  widths_form inner scope (Global g) = []
  widths_form inner scope (Lambda l) = inner l scope
  widths_form inner scope (If a b c) = widths inner scope a ++ (widths inner scope b ++ widths inner scope c)
  widths_form inner scope (SetLocal x e) = widths inner scope e
  widths_form inner scope (SetGlobal g e) = widths inner scope e
  widths_form inner scope (DefGlobal g e) = widths inner scope e
  widths_form inner scope (Let xs es e) = widths_all inner scope es ++ widths inner (scope + length xs) e
  widths_form inner scope (Letrec xs ls e) =
      widths_of_lambdas inner (scope + length xs) ls ++ widths inner (scope + length xs) e
  widths_form inner scope (Seq es) = widths_all inner scope es
  widths_form inner scope (Call f es) = widths inner scope f ++ widths_all inner scope es
  widths_form inner scope (PrimUse p es) = widths_all inner scope es
  widths_form inner scope (Apply f l) = widths inner scope f ++ widths inner scope l

  pub widths_all : (ℕ → ℕ → List ℕ) → ℕ → Trees → List ℕ
  widths_all inner scope none = []
  widths_all inner scope (more e es) = widths inner scope e ++ widths_all inner scope es

-- the width of a lambda's body (the variables in scope at its start, its parameters included, and its
-- nodes), and those of the lambdas in it
abbrev pub lambda_widths : (ℕ → ℕ → List ℕ) → LambdaTree → ℕ → List ℕ
lambda_widths inner l scope =
    (scope + length (parameters l) + nodes l.body) ∷ widths inner (scope + length (parameters l)) l.body

-- the same of each lambda expression by its number
abbrev pub lambdas_widths : List LambdaTree → ℕ → ℕ → ℕ → List ℕ
lambdas_widths [] first l scope = []
lambdas_widths (m ∷ ms) first l scope =
    cond (first == l) (lambda_widths (lambdas_widths ms (suc first)) m scope) (lambdas_widths ms (suc first) l scope)

-- the widths of the forms and of the lambdas in them
abbrev pub form_widths : (ℕ → ℕ → List ℕ) → Trees → List ℕ
form_widths inner none = []
form_widths inner (more e es) = nodes e ∷ (widths inner 0 e ++ form_widths inner es)

abbrev pub all_widths : ProgramTree → List ℕ
all_widths p = form_widths (lambdas_widths p.lambdas 0) p.forms

abbrev pub largest : List ℕ → ℕ
largest [] = 0
largest (n ∷ ns) = max n (largest ns)

abbrev pub squares : List ℕ → ℕ
squares [] = 0
squares (n ∷ ns) = n * n + squares ns

-- the largest width of a body or form
abbrev pub width_of : ProgramTree → ℕ
width_of p = largest (all_widths p)

-- the sum of the squared widths of all bodies and forms
abbrev pub square_sum : ProgramTree → ℕ
square_sum p = squares (all_widths p)

-- the bound on the space factor of compiled code
abbrev pub factor_bound : ProgramTree → ℕ
factor_bound p = 8 * width_of p + 96
