-- The limits of the core language, and the first offence against them in written order (this project's own).
use Rattle.std.specs.Prelude.{ℕ, suc, ◌+◌, ◌*◌, ◌<◌, ◌≤◌, max, nat_lt, ◌||◌, cond, ◌==◌, List, [], ◌∷◌, ◌++◌, length, slice_get, Option, Some, None, Result, Ok, Err}
use Rattle.tb_prim.specs.declared.place.Place.{Place}
use Rattle.tb_semantics.specs.Graph.{IsIn, IsApart}
use Rattle.tb_core.specs.declared.limits.CoreRefusal.{CoreRefusal}
use Rattle.tb_core.specs.declared.limits.Totals.{Totals}
use Rattle.tb_core.specs.Tree.{Tree, Node, Form, Quote, Local, Global, Lambda, If, SetLocal, SetGlobal, DefGlobal, Let, Letrec, Seq, Call, PrimUse, Apply, Trees, none, more, count, LambdaTree, ProgramTree, parameters}
use Rattle.tb_core.specs.OperandOrder.{Line}
use Rattle.tb_core.specs.Width.{nodes}

-- what a limit is set on, with its place: the operands of a call or the parameters of a lambda expression, the
-- depth of a node, and the width of a body or form
pub data Measure : Type 0 where
  Operands : Place → ℕ → Measure
  Depth : Place → ℕ → Measure
  Width : Place → ℕ → Measure

-- the measures of some lambdas, one after another
abbrev pub measures_of_lambdas : (ℕ → ℕ → ℕ → List Measure) → ℕ → ℕ → List ℕ → List Measure
measures_of_lambdas inner scope depth [] = []
measures_of_lambdas inner scope depth (l ∷ ls) = inner l scope depth ++ measures_of_lambdas inner scope depth ls

-- the measures of an expression in written order, the operands of a node before its depth; a form has depth 1,
-- and the body of a lambda expression is one deeper than the node where that stands. `inner` gives the measures
-- of a lambda by its number, the variables in scope and the depth of its node
abbrev mutual
  pub measures : (ℕ → ℕ → ℕ → List Measure) → ℕ → ℕ → Tree → List Measure
  measures inner scope depth (Node p s f) = measures_form inner scope depth p f

  pub measures_form : (ℕ → ℕ → ℕ → List Measure) → ℕ → ℕ → Place → Form → List Measure
  measures_form inner scope depth p (Quote c) = Depth p depth ∷ []
  measures_form inner scope depth p (Local x) = Depth p depth ∷ []
  measures_form inner scope depth p (Global g) = Depth p depth ∷ []
  measures_form inner scope depth p (Lambda l) = inner l scope depth
  measures_form inner scope depth p (If a b c) =
      Depth p depth ∷ (measures inner scope (depth + 1) a ++ (measures inner scope (depth + 1) b ++ measures inner scope (depth + 1) c))
  measures_form inner scope depth p (SetLocal x e) = Depth p depth ∷ measures inner scope (depth + 1) e
  measures_form inner scope depth p (SetGlobal g e) = Depth p depth ∷ measures inner scope (depth + 1) e
  measures_form inner scope depth p (DefGlobal g e) = Depth p depth ∷ measures inner scope (depth + 1) e
  measures_form inner scope depth p (Let xs es e) =
      Depth p depth ∷ (measures_all inner scope (depth + 1) es ++ measures inner (scope + length xs) (depth + 1) e)
  measures_form inner scope depth p (Letrec xs ls e) =
      Depth p depth ∷ (measures_of_lambdas inner (scope + length xs) depth ls ++ measures inner (scope + length xs) (depth + 1) e)
  measures_form inner scope depth p (Seq es) = Depth p depth ∷ measures_all inner scope (depth + 1) es
  measures_form inner scope depth p (Call f es) =
      Operands p (count es) ∷ (Depth p depth ∷ (measures inner scope (depth + 1) f ++ measures_all inner scope (depth + 1) es))
  measures_form inner scope depth p (PrimUse q es) = Depth p depth ∷ measures_all inner scope (depth + 1) es
  measures_form inner scope depth p (Apply f l) =
      Depth p depth ∷ (measures inner scope (depth + 1) f ++ measures inner scope (depth + 1) l)

  pub measures_all : (ℕ → ℕ → ℕ → List Measure) → ℕ → ℕ → Trees → List Measure
  measures_all inner scope depth none = []
  measures_all inner scope depth (more e es) = measures inner scope depth e ++ measures_all inner scope depth es

-- the measures of a lambda expression: its parameters, the depth of the node where it stands, its width, and the
-- measures of its body
abbrev pub lambda_measures : (ℕ → ℕ → ℕ → List Measure) → LambdaTree → ℕ → ℕ → List Measure
lambda_measures inner l scope depth =
    Operands l.place (length (parameters l)) ∷ (Depth l.place depth ∷ (Width l.place (scope + length (parameters l) + nodes l.body) ∷ measures inner (scope + length (parameters l)) (depth + 1) l.body))

-- the same of each lambda expression by its number, the first of the list being number `first`
abbrev pub lambdas_measures : List LambdaTree → ℕ → ℕ → ℕ → ℕ → List Measure
lambdas_measures [] first l scope depth = []
lambdas_measures (m ∷ ms) first l scope depth =
    cond (first == l) (lambda_measures (lambdas_measures ms (suc first)) m scope depth) (lambdas_measures ms (suc first) l scope depth)

-- the parameters of a lambda expression, if there is one
abbrev pub parameter_measures : Option LambdaTree → List Measure
parameter_measures None = []
parameter_measures (Some l) = Operands l.place (length (parameters l)) ∷ []

-- what is judged of a form before its width: the operands of a call, and the parameters of a lambda expression
abbrev pub first_measures : List LambdaTree → Place → Form → List Measure
first_measures ls p (Call f es) = Operands p (count es) ∷ []
first_measures ls p (Lambda l) = parameter_measures (slice_get ls l)
first_measures ls p _ = []

-- the measures of a form: its operands or parameters, its width, and the measures of its nodes
abbrev pub form_measures : List LambdaTree → Tree → List Measure
form_measures ls (Node p s f) =
    first_measures ls p f ++ (Width p (nodes (Node p s f)) ∷ measures (lambdas_measures ls 0) 0 1 (Node p s f))

abbrev pub forms_measures : List LambdaTree → Trees → List Measure
forms_measures ls none = []
forms_measures ls (more e es) = form_measures ls e ++ forms_measures ls es

-- all measures of a program in written order
abbrev pub program_measures : ProgramTree → List Measure
program_measures p = forms_measures p.lambdas p.forms

-- a measure against its limit. A width counts also by its square, which is added to those before it: the answer
-- is the totals of the widths so far, or the offence
unfoldable pub judged : Totals → Measure → Result Totals CoreRefusal
judged t (Operands p n) = cond (nat_lt 12 n) (Err (CoreRefusal.TooManyArgs p)) (Ok t)
judged t (Depth p n) = cond (nat_lt 1000 n) (Err (CoreRefusal.TooDeep p)) (Ok t)
judged t (Width p n) =
    cond (nat_lt 1000 n || nat_lt 1048576 (t.squares + n * n)) (Err (CoreRefusal.TooWide p)) (Ok (record { widest = max t.widest n; squares = t.squares + n * n }))

abbrev pub judged_after : Result Totals CoreRefusal → Measure → Result Totals CoreRefusal
judged_after (Ok t) m = judged t m
judged_after (Err e) m = Err e

-- the first offence of some measures, or the totals of the widths where there is none, after what is given
unfoldable pub judge : Result Totals CoreRefusal → List Measure → Result Totals CoreRefusal
judge r [] = r
judge r (m ∷ ms) = judge (judged_after r m) ms

abbrev pub no_widths : Totals
no_widths = record { widest = 0; squares = 0 }

-- totals within the limits
abbrev pub IsSmall : Totals → Type 0
IsSmall t = (t.squares ≤ 1048576) × (t.widest ≤ 1000)

-- the first offence of a program, or the totals of its widths
abbrev pub judge_program : ProgramTree → Result Totals CoreRefusal
judge_program p = judge (Ok no_widths) (program_measures p)

-- what is within the limits: the operands of a call, and the parameters of a lambda expression
abbrev pub FewOperands : Form → Type 0
FewOperands (Call f es) = count es ≤ 12
FewOperands _ = Unit {0}

abbrev pub FewParameters : LambdaTree → Type 0
FewParameters l = length (parameters l) ≤ 12

-- a line of an order that has the numbers of so many operands, each once: of at most 1,000, since a body is as wide
pub record IsShort (line : Line) : Type 0 where
  pub few : length line.order ≤ 1000
  pub below : (i : ℕ) → IsIn i line.order → i < length line.order
  pub apart : IsApart line.order
