-- The order in which operands are evaluated (this project's own; R5RS 4.1.3 leaves it open): the complex
-- operands first in written order, then the simple ones in written order.
use Rattle.std.specs.Prelude.{◌≡◌, ℕ, suc, List, [], ◌∷◌, ◌++◌, not, Bool, true, false, cond, ◌==◌}
use Rattle.tb_prim.specs.declared.place.Place.{Place}
use Rattle.tb_core.specs.Tree.{Tree, Node, Form, Quote, Local, Global, Lambda, If, SetLocal, SetGlobal, DefGlobal, Let, Letrec, Seq, Call, PrimUse, Apply, Trees, none, more, LambdaTree, ProgramTree}
use Rattle.tb_core.specs.FreeVariables.{is_assigned}

-- the operands of a node that has an order, the operator of a call first
abbrev pub operands : Form → Trees
operands (Quote c) = none
operands (Local x) = none
operands (Global g) = none
operands (Lambda l) = none
operands (If a b c) = none
operands (SetLocal x e) = none
operands (SetGlobal g e) = none
operands (DefGlobal g e) = none
operands (Let xs es e) = es
operands (Letrec xs ls e) = none
operands (Seq es) = none
operands (Call f es) = more f es
operands (PrimUse p es) = es
operands (Apply f l) = more f (more l none)

-- the nodes that have an order: calls, primitive uses, applications and `let`
abbrev pub has_order : Form → Bool
has_order (Quote c) = false
has_order (Local x) = false
has_order (Global g) = false
has_order (Lambda l) = false
has_order (If a b c) = false
has_order (SetLocal x e) = false
has_order (SetGlobal g e) = false
has_order (DefGlobal g e) = false
has_order (Let xs es e) = true
has_order (Letrec xs ls e) = false
has_order (Seq es) = false
has_order (Call f es) = true
has_order (PrimUse p es) = true
has_order (Apply f l) = true

-- an operand is simple when it is a constant, or a local variable that is never assigned
abbrev pub is_simple : (ℕ → Bool) → Tree → Bool
is_simple assigned (Node p s (Quote c)) = true
is_simple assigned (Node p s (Local x)) = not (assigned x)
is_simple assigned (Node p s _) = false

-- the numbers of the operands that are simple, or that are not, ascending from the number given
abbrev pub numbers : (ℕ → Bool) → Bool → ℕ → Trees → List ℕ
numbers assigned simple n none = []
numbers assigned simple n (more e es) =
    cond (is_simple assigned e) (cond simple (n ∷ []) []) (cond simple [] (n ∷ [])) ++ numbers assigned simple (suc n) es

-- the line of a node: first the operands that are not simple, then the simple ones
abbrev pub line_of : (ℕ → Bool) → Trees → List ℕ
line_of assigned es = numbers assigned false 0 es ++ numbers assigned true 0 es

-- a line of the order, with the place and the number of its node
pub record Line : Type 0 where
  pub place : Place
  pub site : ℕ
  pub order : List ℕ

abbrev pub own_line : (ℕ → Bool) → Place → ℕ → Form → List Line
own_line assigned p s f = cond (has_order f) (record { place = p; site = s; order = line_of assigned (operands f) } ∷ []) []

-- the lines of some lambdas, one after another
abbrev pub lines_of_lambdas : (ℕ → List Line) → List ℕ → List Line
lines_of_lambdas inner [] = []
lines_of_lambdas inner (l ∷ ls) = inner l ++ lines_of_lambdas inner ls

-- the lines of an expression in written order, a node before its parts; `inner` gives those of the body
-- of each lambda expression
abbrev mutual
  pub lines : (ℕ → Bool) → (ℕ → List Line) → Tree → List Line
  lines assigned inner (Node p s f) = own_line assigned p s f ++ lines_form assigned inner f

  pub lines_form : (ℕ → Bool) → (ℕ → List Line) → Form → List Line
  lines_form assigned inner (Quote c) = []
  lines_form assigned inner (Local x) = []
  lines_form assigned inner (Global g) = []
  lines_form assigned inner (Lambda l) = inner l
  lines_form assigned inner (If a b c) = lines assigned inner a ++ (lines assigned inner b ++ lines assigned inner c)
  lines_form assigned inner (SetLocal x e) = lines assigned inner e
  lines_form assigned inner (SetGlobal g e) = lines assigned inner e
  lines_form assigned inner (DefGlobal g e) = lines assigned inner e
  lines_form assigned inner (Let xs es e) = lines_all assigned inner es ++ lines assigned inner e
  lines_form assigned inner (Letrec xs ls e) = lines_of_lambdas inner ls ++ lines assigned inner e
  lines_form assigned inner (Seq es) = lines_all assigned inner es
  lines_form assigned inner (Call f es) = lines assigned inner f ++ lines_all assigned inner es
  lines_form assigned inner (PrimUse p es) = lines_all assigned inner es
  lines_form assigned inner (Apply f l) = lines assigned inner f ++ lines assigned inner l

  pub lines_all : (ℕ → Bool) → (ℕ → List Line) → Trees → List Line
  lines_all assigned inner none = []
  lines_all assigned inner (more e es) = lines assigned inner e ++ lines_all assigned inner es

-- the lines of each lambda expression by its number
abbrev pub lambdas_lines : (ℕ → Bool) → List LambdaTree → ℕ → ℕ → List Line
lambdas_lines assigned [] first l = []
lambdas_lines assigned (m ∷ ms) first l =
    cond (first == l) (lines assigned (lambdas_lines assigned ms (suc first)) m.body) (lambdas_lines assigned ms (suc first) l)

-- the order of a program: one line for each node that has one, in written order
abbrev pub order_of : ProgramTree → List Line
order_of p = lines_all (is_assigned p) (lambdas_lines (is_assigned p) p.lambdas 0) p.forms

-- the line of the node of this number
abbrev pub line_at : List Line → ℕ → List ℕ
line_at [] s = []
line_at (l ∷ ls) s = cond (l.site == s) l.order (line_at ls s)

-- a node that has an order goes by the line of its own operands
abbrev pub HasLine : ProgramTree → ℕ → Form → Type 0
HasLine p s f = has_order f ≡ true → line_at (order_of p) s ≡ line_of (is_assigned p) (operands f)
