-- Free variables, and the variables that are assigned.
use Rattle.std.specs.Prelude.{ℕ, suc, List, [], ◌∷◌, ◌++◌, filter, not, Bool, cond, ◌==◌}
use Rattle.std.specs.List.{list_any}
use Rattle.tb_core.specs.Tree.{Tree, Node, Form, Quote, Local, Global, Lambda, If, SetLocal, SetGlobal, DefGlobal, Let, Letrec, Seq, Call, PrimUse, Apply, Trees, none, more, LambdaTree, ProgramTree, parameters}

-- whether a number is in the list
abbrev pub is_in : List ℕ → ℕ → Bool
is_in xs y = list_any (λ x. x == y) xs

-- those of the second list that are not in the first
abbrev pub without : List ℕ → List ℕ → List ℕ
without xs ys = filter (λ y. not (is_in xs y)) ys

-- the lists of some lambdas, one after another
abbrev pub of_lambdas : (ℕ → List ℕ) → List ℕ → List ℕ
of_lambdas inner [] = []
of_lambdas inner (l ∷ ls) = inner l ++ of_lambdas inner ls

-- the variables that occur in an expression and are not bound in it, as variables or as targets of
-- assignments; `inner` gives those of each lambda expression by its number
abbrev mutual
  pub free : (ℕ → List ℕ) → Tree → List ℕ
  free inner (Node p s f) = free_form inner f

  pub free_form : (ℕ → List ℕ) → Form → List ℕ
  free_form inner (Quote c) = []
  free_form inner (Local x) = x ∷ []
  free_form inner (Global g) = []
  free_form inner (Lambda l) = inner l
  free_form inner (If a b c) = free inner a ++ (free inner b ++ free inner c)
  free_form inner (SetLocal x e) = x ∷ free inner e
  free_form inner (SetGlobal g e) = free inner e
  free_form inner (DefGlobal g e) = free inner e
  free_form inner (Let xs es e) = free_all inner es ++ without xs (free inner e)
  free_form inner (Letrec xs ls e) = without xs (of_lambdas inner ls ++ free inner e)
  free_form inner (Seq es) = free_all inner es
  free_form inner (Call f es) = free inner f ++ free_all inner es
  free_form inner (PrimUse p es) = free_all inner es
  free_form inner (Apply f l) = free inner f ++ free inner l

  pub free_all : (ℕ → List ℕ) → Trees → List ℕ
  free_all inner none = []
  free_all inner (more e es) = free inner e ++ free_all inner es

-- the free variables of a lambda expression: those of its body but its parameters
abbrev pub lambda_free : (ℕ → List ℕ) → LambdaTree → List ℕ
lambda_free inner l = without (parameters l) (free inner l.body)

-- the free variables of each lambda expression by its number, the first of the list being number `first`;
-- an inner lambda has a greater number than the one around it
abbrev pub lambdas_free : List LambdaTree → ℕ → ℕ → List ℕ
lambdas_free [] first l = []
lambdas_free (m ∷ ms) first l = cond (first == l) (lambda_free (lambdas_free ms (suc first)) m) (lambdas_free ms (suc first) l)

-- the free variables of the lambda expressions of a program
abbrev pub inner_free : ProgramTree → ℕ → List ℕ
inner_free p = lambdas_free p.lambdas 0

-- the targets of the assignments in an expression, inner lambdas apart
abbrev mutual
  pub targets : Tree → List ℕ
  targets (Node p s f) = targets_form f

  pub targets_form : Form → List ℕ
  targets_form (Quote c) = []
  targets_form (Local x) = []
  targets_form (Global g) = []
  targets_form (Lambda l) = []
  targets_form (If a b c) = targets a ++ (targets b ++ targets c)
  targets_form (SetLocal x e) = x ∷ targets e
  targets_form (SetGlobal g e) = targets e
  targets_form (DefGlobal g e) = targets e
  targets_form (Let xs es e) = targets_all es ++ targets e
  targets_form (Letrec xs ls e) = targets e
  targets_form (Seq es) = targets_all es
  targets_form (Call f es) = targets f ++ targets_all es
  targets_form (PrimUse p es) = targets_all es
  targets_form (Apply f l) = targets f ++ targets l

  pub targets_all : Trees → List ℕ
  targets_all none = []
  targets_all (more e es) = targets e ++ targets_all es

abbrev pub targets_of_lambdas : List LambdaTree → List ℕ
targets_of_lambdas [] = []
targets_of_lambdas (l ∷ ls) = targets l.body ++ targets_of_lambdas ls

-- a variable is assigned when some assignment of the program names it
abbrev pub is_assigned : ProgramTree → ℕ → Bool
is_assigned p x = is_in (targets_all p.forms ++ targets_of_lambdas p.lambdas) x
