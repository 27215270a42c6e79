-- The rules that every program with cells keeps, and every one with lambda expressions that are lifted (this
-- project's own). They are those of the core language, read for the nodes here, with rules on cells and on
-- lambda expressions that are lifted.
use Rattle.std.specs.Prelude.{◌≡◌, ℕ, zero, suc, ◌+◌, ◌<◌, ◌≤◌, Bool, true, false, cond, ◌==◌, List, [], ◌∷◌, ◌++◌, length, map, take, Option, Some, None, slice_get}
use Rattle.tb_prim.specs.declared.constant.Const.{Const}
use Rattle.tb_prim.specs.Primitives.{arity_of}
use Rattle.tb_semantics.specs.Graph.{IsIn, IsApart}
use Rattle.tb_core.specs.FreeVariables.{is_in}
use Rattle.tb_core.specs.OperandOrder.{Line}
use Rattle.tb_core.specs.Rules.{Every, ConstKeeps, StaticsKeep}
use Rattle.tb_core.specs.Lifting.{Lifted}
use Rattle.tb_ir.specs.Tree.{Tree, Node, Form, Quote, Local, Global, Lambda, If, NewCell, CellGet, CellSet, SetGlobal, DefGlobal, Let, Letrec, Seq, Call, Direct, PrimUse, Apply, Trees, none, more, count, operands, LambdaTree, ProgramTree}
use Rattle.tb_ir.specs.FreeVariables.{free_all, inner_free, parameters, added_to}
use Rattle.tb_ir.specs.TreeMachine.{line_of}
use Rattle.tb_ir.specs.Width.{is_new_cell}

-- the nodes of an expression, itself first, inner lambdas apart
abbrev mutual
  pub nodes : Tree → List Tree
  nodes (Node p s f) = Node p s f ∷ nodes_in f

  pub nodes_in : Form → List Tree
  nodes_in (Quote c) = []
  nodes_in (Local x) = []
  nodes_in (Global g) = []
  nodes_in (Lambda l) = []
  nodes_in (If a b c) = nodes a ++ (nodes b ++ nodes c)
  nodes_in (NewCell e) = nodes e
  nodes_in (CellGet e) = nodes e
  nodes_in (CellSet c e) = nodes c ++ nodes e
  nodes_in (SetGlobal g e) = nodes e
  nodes_in (DefGlobal g e) = nodes e
  nodes_in (Let xs es e) = nodes_of es ++ nodes e
  nodes_in (Letrec xs ls e) = nodes e
  nodes_in (Seq es) = nodes_of es
  nodes_in (Call f es) = nodes f ++ nodes_of es
  nodes_in (Direct l es) = nodes_of es
  nodes_in (PrimUse p es) = nodes_of es
  nodes_in (Apply f l) = nodes f ++ nodes l

  pub nodes_of : Trees → List Tree
  nodes_of none = []
  nodes_of (more e es) = nodes e ++ nodes_of es

abbrev pub nodes_of_lambdas : List LambdaTree → List Tree
nodes_of_lambdas [] = []
nodes_of_lambdas (l ∷ ls) = nodes l.body ++ nodes_of_lambdas ls

-- all nodes of a program
abbrev pub all_nodes : ProgramTree → List Tree
all_nodes p = nodes_of p.forms ++ nodes_of_lambdas p.lambdas

abbrev pub form_of : Tree → Form
form_of (Node p s f) = f

-- what each of some nodes has, one after another
abbrev pub of_nodes : {X : Type 0} → (Form → List X) → List Tree → List X
of_nodes has [] = []
of_nodes has (e ∷ es) = has (form_of e) ++ of_nodes has es

-- the variables of a `let` whose operands make a cell, and those whose operands do not
abbrev pub of_kind : Bool → List ℕ → Trees → List ℕ
of_kind cells [] es = []
of_kind cells (x ∷ xs) none = []
of_kind cells (x ∷ xs) (more e es) = cond (is_new_cell e) (cond cells (x ∷ []) [])
    (cond cells [] (x ∷ [])) ++ of_kind cells xs es

-- the variables that a node binds, those that it binds to a new cell, and those that it binds otherwise
abbrev pub binders : Form → List ℕ
binders (Let xs es e) = xs
binders (Letrec xs ls e) = xs
binders _ = []

abbrev pub cell_binders : Form → List ℕ
cell_binders (Let xs es e) = of_kind true xs es
cell_binders _ = []

abbrev pub plain_binders : Form → List ℕ
plain_binders (Let xs es e) = of_kind false xs es
plain_binders (Letrec xs ls e) = xs
plain_binders _ = []

-- the variable that a node names, and the one of which it makes a cell
abbrev pub named : Form → List ℕ
named (Local x) = x ∷ []
named _ = []

abbrev pub celled : Form → List ℕ
celled (NewCell e) = named (form_of e)
celled _ = []

-- the lambda expressions that stand at a node
abbrev pub standing_at : Form → List ℕ
standing_at (Lambda l) = l ∷ []
standing_at (Letrec xs ls e) = ls
standing_at _ = []

abbrev pub variables : ProgramTree → List ℕ
variables p = of_nodes binders (all_nodes p) ++ params p.lambdas
  where
    params : List LambdaTree → List ℕ
    params [] = []
    params (l ∷ ls) = parameters l ++ params ls

-- the lambda expressions of a program, as often as they stand at a node or in the set of those that are lifted
abbrev pub standing : ProgramTree → List ℕ
standing p = of_nodes standing_at (all_nodes p) ++ map (λ (m : Lifted). m.lambda) p.set

-- how often a number stands in a list
abbrev pub times : ℕ → List ℕ → ℕ
times x [] = 0
times x (y ∷ ys) = cond (y == x) 1 0 + times x ys

abbrev pub times_named : ProgramTree → ℕ → ℕ
times_named p x = times x (of_nodes named (all_nodes p))

-- the nodes that have an order: calls, direct ones too, primitive uses, applications and `let`
abbrev pub has_order : Form → Bool
has_order (Let xs es e) = true
has_order (Call f es) = true
has_order (Direct l es) = true
has_order (PrimUse p es) = true
has_order (Apply f l) = true
has_order _ = false

abbrev pub site_of : Tree → ℕ
site_of (Node p s f) = s

abbrev pub own_site : Tree → List ℕ
own_site (Node p s f) = cond (has_order f) (s ∷ []) []

abbrev pub sites : List Tree → List ℕ
sites [] = []
sites (e ∷ es) = own_site e ++ sites es

-- the lambda expressions inside another have greater numbers; the first of the list has number `first`
abbrev pub InnerAreGreater : ℕ → List LambdaTree → Type 0
InnerAreGreater first [] = Unit {0}
InnerAreGreater first (l ∷ ls) =
    Every (λ m. first < m) (of_nodes standing_at (nodes l.body)) × InnerAreGreater (suc first) ls

-- a lambda expression by its number
abbrev pub IsLambda : ProgramTree → ℕ → LambdaTree → Type 0
IsLambda p l m = slice_get p.lambdas l ≡ Some m

-- the added operands of a direct call are the added variables themselves
abbrev pub AreAdded : ℕ → Trees → List ℕ → Type 0
AreAdded (suc n) (more e es) xs = AreAdded n es xs
AreAdded zero (more (Node p s (Local y)) es) (x ∷ xs) = (y ≡ x) × AreAdded zero es xs
AreAdded zero none [] = Unit {0}
AreAdded n es xs = ⊥

-- a direct call is one of a lambda expression that is lifted, with as many operands as that has parameters of
-- its own, and then the added variables
pub record CallsLifted (p : ProgramTree) (l : ℕ) (es : Trees) : Type 0 where
  pub is_lifted : is_in (map (λ (m : Lifted). m.lambda) p.set) l ≡ true
  pub operands_match : (m : LambdaTree) → IsLambda p l m → AreAdded (length m.formals) es (added_to p.set l)

-- the numbers of globals, lambda expressions and static objects are in range
abbrev pub IsInRange : ProgramTree → Form → Type 0
IsInRange p (Quote c) = ConstKeeps (length p.statics) c
IsInRange p (Global g) = g < length p.globals
IsInRange p (SetGlobal g e) = g < length p.globals
IsInRange p (DefGlobal g e) = g < length p.globals
IsInRange p f = Every (λ l. l < length p.lambdas) (standing_at f)

-- a `let` and a `letrec` have as many variables as expressions, a sequence is not empty, and a primitive and a
-- direct call have their own number of operands
abbrev pub IsShaped : ProgramTree → Form → Type 0
IsShaped p (Let xs es e) = length xs ≡ count es
IsShaped p (Letrec xs ls e) = length xs ≡ length ls
IsShaped p (Seq es) = 1 ≤ count es
IsShaped p (PrimUse q es) = count es ≡ arity_of q
IsShaped p (Direct l es) = CallsLifted p l es
IsShaped p f = Unit {0}

-- the mark of a variable without a value, as an expression
abbrev pub is_mark : Tree → Bool
is_mark (Node p s (Quote Const.Undefined)) = true
is_mark _ = false

abbrev pub NoMark : Trees → Type 0
NoMark none = Unit {0}
NoMark (more e es) = (is_mark e ≡ false) × NoMark es

-- the parts of a node that are not the operands of a `let`
abbrev pub other_parts : Form → Trees
other_parts (If a b c) = more a (more b (more c none))
other_parts (SetGlobal g e) = more e none
other_parts (DefGlobal g e) = more e none
other_parts (Let xs es e) = more e none
other_parts (Letrec xs ls e) = more e none
other_parts (Seq es) = es
other_parts f = operands f

-- none of these expressions makes a cell
abbrev pub NoCell : Trees → Type 0
NoCell none = Unit {0}
NoCell (more e es) = (is_new_cell e ≡ false) × NoCell es

-- a variable that may hold the mark is named as the operand of a `NewCell` alone
abbrev pub MarksOfCells : ProgramTree → List ℕ → Trees → Type 0
MarksOfCells p (x ∷ xs) (more e es) =
    (is_mark e ≡ true → times_named p x ≡ times x (of_nodes celled (all_nodes p))) × MarksOfCells p xs es
MarksOfCells p xs es = NoMark es

-- the mark stands as an operand of a `let` alone
abbrev pub MarksAreOperands : ProgramTree → Form → Type 0
MarksAreOperands p (Let xs es e) = MarksOfCells p xs es × (is_mark e ≡ false)
MarksAreOperands p f = NoMark (other_parts f)

-- the expression is a variable that some `let` of the program binds to a new cell
abbrev pub NamesCell : ProgramTree → Tree → Type 0
NamesCell p (Node q s (Local x)) = is_in (of_nodes cell_binders (all_nodes p)) x ≡ true
NamesCell p _ = ⊥

abbrev pub ReadsCells : ProgramTree → Form → Type 0
ReadsCells p (CellGet e) = NamesCell p e
ReadsCells p (CellSet c e) = NamesCell p c
ReadsCells p _ = Unit {0}

-- the rules for a node, whose number is below a limit. A cell is made as an operand of a `let` alone.
pub record NodeKeeps (limit : ℕ) (p : ProgramTree) (e : Tree) : Type 0 where
  pub small_site : site_of e < limit
  pub in_range : IsInRange p (form_of e)
  pub shaped : IsShaped p (form_of e)
  pub marks_are_operands : MarksAreOperands p (form_of e)
  pub reads_cells : ReadsCells p (form_of e)
  pub cells_are_operands : NoCell (other_parts (form_of e))

-- a cell is made of a variable that the same body binds by something other than a `NewCell`, its parameters
-- among them, and that is named nowhere else
abbrev pub MakesCell : ProgramTree → List ℕ → Form → Type 0
MakesCell p own (NewCell (Node q s (Local x))) = (is_in own x ≡ true) × (times_named p x ≡ 1)
MakesCell p own (NewCell e) = ⊥
MakesCell p own _ = Unit {0}

-- the rules for a body with these parameters: it makes cells of its own variables alone, and is neither the mark nor the
-- making of a cell
pub record BodyKeeps (p : ProgramTree) (params : List ℕ) (e : Tree) : Type 0 where
  pub makes_cells : Every (λ d. MakesCell p (params ++ of_nodes plain_binders (nodes e)) (form_of d)) (nodes e)
  pub value : is_mark e ≡ false
  pub no_cell : is_new_cell e ≡ false

abbrev pub FormsKeep : ProgramTree → Trees → Type 0
FormsKeep p none = Unit {0}
FormsKeep p (more e es) = BodyKeeps p [] e × FormsKeep p es

-- the variables that the forms bind and the lambda expressions with smaller numbers than this one
abbrev pub variables_before : ProgramTree → ℕ → List ℕ
variables_before p l = variables (record p { lambdas = take l p.lambdas })

-- the rules for a lambda expression that is lifted: it has no rest parameter, its parameters, those that are added and
-- the variables that its body binds are apart, what is added was bound before it, and its body names no others
pub record LiftedKeeps (p : ProgramTree) (m : Lifted) : Type 0 where
  pub in_range : m.lambda < length p.lambdas
  pub no_rest : (l : LambdaTree) → IsLambda p m.lambda l →
      (l.rest ≡ None) × IsApart (l.formals ++ (m.added ++ of_nodes binders (nodes l.body)))
  pub added_bound : Every (λ x. is_in (variables_before p m.lambda) x ≡ true) m.added
  pub closed : inner_free p m.lambda ≡ []

-- the rules of a program whose nodes, numbers of nodes and variables are fewer and smaller than a limit. Each
-- variable has one binding, apart from those that are added to a lambda expression, and is named in its scope
-- alone. Each lambda expression stands at exactly one node, or is lifted. No two nodes that have an order have
-- one number.
pub record KeepsRules (limit : ℕ) (p : ProgramTree) : Type 0 where
  pub bound_once : IsApart (variables p)
  pub small_variables : Every (λ x. x < limit) (variables p)
  pub in_scope : free_all (inner_free p) p.forms ≡ []
  pub lambdas_at_most_once : IsApart (standing p)
  pub lambdas_at_least_once : (l : ℕ) → l < length p.lambdas → is_in (standing p) l ≡ true
  pub inner_greater : InnerAreGreater 0 p.lambdas
  pub sites_apart : IsApart (sites (all_nodes p))
  pub few_nodes : length (all_nodes p) < limit
  pub statics : StaticsKeep 0 p.statics
  pub nodes : Every (NodeKeeps limit p) (all_nodes p)
  pub forms : FormsKeep p p.forms
  pub bodies : Every (λ (l : LambdaTree). BodyKeeps p (parameters l) l.body) p.lambdas
  pub lifted : Every (LiftedKeeps p) p.set

-- a line has the numbers of so many operands, each once
pub record IsPermutation (line : List ℕ) (n : ℕ) : Type 0 where
  pub apart : IsApart line
  pub within : (i : ℕ) → IsIn i line → i < n
  pub full : (i : ℕ) → i < n → IsIn i line

abbrev pub HasPermutation : Option (List ℕ) → ℕ → Type 0
HasPermutation None n = ⊥
HasPermutation (Some line) n = IsPermutation line n

-- a `let` may have no line; a direct call has the line of the call that it was, its operator counted
abbrev pub HasLine : List Line → List Lifted → List LambdaTree → Tree → Type 0
HasLine order set lambdas (Node p s (Let xs es e)) = (line : List ℕ) → line_of order s ≡ Some line →
    IsPermutation line (count es)
HasLine order set lambdas (Node p s (Direct l es)) = (m : LambdaTree) → slice_get lambdas l ≡ Some m →
    HasPermutation (line_of order s) (suc (length m.formals))
HasLine order set lambdas (Node p s f) = has_order f ≡ true → HasPermutation (line_of order s) (count (operands f))

-- an order for a program: each node that has one goes by a line with the numbers of its operands
abbrev pub IsOrderOf : ProgramTree → List Line → Type 0
IsOrderOf p order = Every (HasLine order p.set p.lambdas) (all_nodes p)
