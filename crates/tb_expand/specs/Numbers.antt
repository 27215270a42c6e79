-- Numbers: globals, variables, lambda expressions and nodes by first occurrence in written order, and static objects
-- as they are finished. The written order takes a node before its parts, the parts in the order of their fields, and
-- the parameters and the body of a lambda expression where it stands.
use Rattle.std.specs.Prelude.{ℕ, ◌+◌, Bool, true, false, cond, List, [], ◌∷◌, ◌++◌, length, map, Option, Some, None, bytes_eq}
use Rattle.std.specs.List.{list_any}
use Rattle.tb_prim.specs.declared.place.Place.{Place}
use Rattle.tb_prim.specs.declared.constant.Const.{Const}
use Rattle.tb_prim.specs.declared.constant.Static.{Static}
use Rattle.tb_prim.specs.declared.constant.GlobalName.{GlobalName}
use Rattle.tb_sexp.specs.Tree as datum
use Rattle.tb_core.specs.Tree as core
use Rattle.tb_core.specs.Tree.{LambdaTree, ProgramTree}
use Rattle.tb_expand.specs.Trees.{Var, same_var, Node, At, Core, Constant, Unspecified, Undefined, Local, Global, Lambda, If, SetLocal, SetGlobal, DefGlobal, Let, Letrec, Seq, Call, PrimUse, Apply, Nodes, nil, cons}
use Rattle.tb_expand.specs.Shapes.{option_list}

-- the index of the first element for which the test holds, or the length of the list
abbrev pub index : {X : Type 0} → (X → Bool) → List X → ℕ
index test [] = 0
index test (x ∷ xs) = cond (test x) 0 (index test xs + 1)

-- an element behind others, if it is not among them
abbrev pub noted : {X : Type 0} → (X → X → Bool) → List X → X → List X
noted same xs x = cond (list_any (same x) xs) xs (xs ++ (x ∷ []))

-- the first occurrences, behind those that there are
abbrev pub firsts_behind : {X : Type 0} → (X → X → Bool) → List X → List X → List X
firsts_behind same xs [] = xs
firsts_behind same xs (y ∷ ys) = firsts_behind same (noted same xs y) ys

abbrev pub firsts : {X : Type 0} → (X → X → Bool) → List X → List X
firsts same ys = firsts_behind same [] ys

abbrev mutual
  -- the variables of a node in written order, those that it binds before those of its parts
  pub variables_of : Node → List Var
  variables_of (At p c) = variables_in c

  pub variables_in : Core → List Var
  variables_in (Constant s) = []
  variables_in Unspecified = []
  variables_in Undefined = []
  variables_in (Local x) = x ∷ []
  variables_in (Global g) = []
  variables_in (Lambda xs r b) = (xs ++ option_list r) ++ variables_of b
  variables_in (If a b c) = variables_of a ++ (variables_of b ++ variables_of c)
  variables_in (SetLocal x e) = (x ∷ []) ++ variables_of e
  variables_in (SetGlobal q g e) = variables_of e
  variables_in (DefGlobal g e) = variables_of e
  variables_in (Let xs es e) = xs ++ (variables_of_all es ++ variables_of e)
  variables_in (Letrec xs es e) = xs ++ (variables_of_all es ++ variables_of e)
  variables_in (Seq es) = variables_of_all es
  variables_in (Call f es) = variables_of f ++ variables_of_all es
  variables_in (PrimUse q es) = variables_of_all es
  variables_in (Apply f l) = variables_of f ++ variables_of l

  pub variables_of_all : Nodes → List Var
  variables_of_all nil = []
  variables_of_all (cons e es) = variables_of e ++ variables_of_all es

abbrev mutual
  -- the globals of a node in written order
  pub globals_of : Node → List (List ℕ)
  globals_of (At p c) = globals_in c

  pub globals_in : Core → List (List ℕ)
  globals_in (Constant s) = []
  globals_in Unspecified = []
  globals_in Undefined = []
  globals_in (Local x) = []
  globals_in (Global g) = g ∷ []
  globals_in (Lambda xs r b) = globals_of b
  globals_in (If a b c) = globals_of a ++ (globals_of b ++ globals_of c)
  globals_in (SetLocal x e) = globals_of e
  globals_in (SetGlobal q g e) = (g ∷ []) ++ globals_of e
  globals_in (DefGlobal g e) = (g ∷ []) ++ globals_of e
  globals_in (Let xs es e) = globals_of_all es ++ globals_of e
  globals_in (Letrec xs es e) = globals_of_all es ++ globals_of e
  globals_in (Seq es) = globals_of_all es
  globals_in (Call f es) = globals_of f ++ globals_of_all es
  globals_in (PrimUse q es) = globals_of_all es
  globals_in (Apply f l) = globals_of f ++ globals_of l

  pub globals_of_all : Nodes → List (List ℕ)
  globals_of_all nil = []
  globals_of_all (cons e es) = globals_of e ++ globals_of_all es

abbrev mutual
  -- how many nodes there are, those of lambda expressions included. A lambda expression that a `letrec` binds is none
  pub nodes : Node → ℕ
  nodes (At p c) = 1 + nodes_in c

  pub nodes_in : Core → ℕ
  nodes_in (Constant s) = 0
  nodes_in Unspecified = 0
  nodes_in Undefined = 0
  nodes_in (Local x) = 0
  nodes_in (Global g) = 0
  nodes_in (Lambda xs r b) = nodes b
  nodes_in (If a b c) = nodes a + (nodes b + nodes c)
  nodes_in (SetLocal x e) = nodes e
  nodes_in (SetGlobal q g e) = nodes e
  nodes_in (DefGlobal g e) = nodes e
  nodes_in (Let xs es e) = nodes_of_all es + nodes e
  nodes_in (Letrec xs es e) = nodes_of_values es + nodes e
  nodes_in (Seq es) = nodes_of_all es
  nodes_in (Call f es) = nodes f + nodes_of_all es
  nodes_in (PrimUse q es) = nodes_of_all es
  nodes_in (Apply f l) = nodes f + nodes l

  pub nodes_of_all : Nodes → ℕ
  nodes_of_all nil = 0
  nodes_of_all (cons e es) = nodes e + nodes_of_all es

  -- lambda expressions without their own nodes
  pub nodes_of_values : Nodes → ℕ
  nodes_of_values nil = 0
  nodes_of_values (cons (At p c) es) = nodes_in c + nodes_of_values es

abbrev mutual
  -- how many lambda expressions there are
  pub closures : Node → ℕ
  closures (At p c) = closures_in c

  pub closures_in : Core → ℕ
  closures_in (Constant s) = 0
  closures_in Unspecified = 0
  closures_in Undefined = 0
  closures_in (Local x) = 0
  closures_in (Global g) = 0
  closures_in (Lambda xs r b) = 1 + closures b
  closures_in (If a b c) = closures a + (closures b + closures c)
  closures_in (SetLocal x e) = closures e
  closures_in (SetGlobal q g e) = closures e
  closures_in (DefGlobal g e) = closures e
  closures_in (Let xs es e) = closures_of_all es + closures e
  closures_in (Letrec xs es e) = closures_of_all es + closures e
  closures_in (Seq es) = closures_of_all es
  closures_in (Call f es) = closures f + closures_of_all es
  closures_in (PrimUse q es) = closures_of_all es
  closures_in (Apply f l) = closures f + closures l

  pub closures_of_all : Nodes → ℕ
  closures_of_all nil = 0
  closures_of_all (cons e es) = closures e + closures_of_all es

-- a constant, and the static objects once it is finished
pub record Placed : Type 0 where
  pub constant : Const
  pub statics : List Static

abbrev pub unplaced : List Static → Const → Placed
unplaced o c = record { constant = c; statics = o }

-- a new object has the next number
abbrev pub finished_object : List Static → Static → Placed
finished_object o s = record { constant = Const.Stat (length o); statics = o ++ (s ∷ []) }

abbrev pub is_symbol : List ℕ → Static → Bool
is_symbol x (Static.Sym y) = bytes_eq x y
is_symbol x s = false

-- equal symbols are one object
abbrev pub placed_symbol : Bool → List Static → List ℕ → Placed
placed_symbol true o x = record { constant = Const.Stat (index (is_symbol x) o); statics = o }
placed_symbol false o x = finished_object o (Static.Sym x)

-- constants one after another
pub record PlacedAll : Type 0 where
  pub constants : List Const
  pub statics : List Static

abbrev mutual
  -- a quoted datum, its parts before it: a pair has its first element before its rest. Names lose their aliases
  pub placed : List Static → datum.Tree → Placed
  placed o (datum.At p s) = placed_in o s

  pub placed_in : List Static → datum.Shape → Placed
  placed_in o datum.Nil = unplaced o Const.Nil
  placed_in o (datum.Truth b) = unplaced o (Const.Bool b)
  placed_in o (datum.Fixnum n) = unplaced o (Const.Fix n)
  placed_in o (datum.Character c) = unplaced o (Const.Char c)
  placed_in o (datum.String s) = finished_object o (Static.Str s)
  placed_in o (datum.Name s alias) = placed_symbol (list_any (is_symbol s) o) o s
  placed_in o (datum.Proper ds) = placed_pairs o ds (λ r. unplaced r Const.Nil)
  placed_in o (datum.Dotted ds d) = placed_pairs o ds (λ r. placed r d)
  placed_in o (datum.Vector ds) = let e = placed_all o ds in finished_object e.statics (Static.Vector e.constants)

  -- a list of these elements before what is behind them
  pub placed_pairs : List Static → datum.Trees → (List Static → Placed) → Placed
  placed_pairs o datum.none tail = tail o
  placed_pairs o (datum.more d ds) tail =
      let a = placed o d in
      let r = placed_pairs a.statics ds tail in
      finished_object r.statics (Static.Pair a.constant r.constant)

  pub placed_all : List Static → datum.Trees → PlacedAll
  placed_all o datum.none = record { constants = []; statics = o }
  placed_all o (datum.more d ds) =
      let a = placed o d in
      let r = placed_all a.statics ds in
      record { constants = a.constant ∷ r.constants; statics = r.statics }

abbrev mutual
  -- the static objects once those of a node are finished
  pub statics_of : List Static → Node → List Static
  statics_of o (At p c) = statics_in o c

  pub statics_in : List Static → Core → List Static
  statics_in o (Constant s) = (placed_in o s).statics
  statics_in o Unspecified = o
  statics_in o Undefined = o
  statics_in o (Local x) = o
  statics_in o (Global g) = o
  statics_in o (Lambda xs r b) = statics_of o b
  statics_in o (If a b c) = statics_of (statics_of (statics_of o a) b) c
  statics_in o (SetLocal x e) = statics_of o e
  statics_in o (SetGlobal q g e) = statics_of o e
  statics_in o (DefGlobal g e) = statics_of o e
  statics_in o (Let xs es e) = statics_of (statics_of_all o es) e
  statics_in o (Letrec xs es e) = statics_of (statics_of_all o es) e
  statics_in o (Seq es) = statics_of_all o es
  statics_in o (Call f es) = statics_of_all (statics_of o f) es
  statics_in o (PrimUse q es) = statics_of_all o es
  statics_in o (Apply f l) = statics_of (statics_of o f) l

  pub statics_of_all : List Static → Nodes → List Static
  statics_of_all o nil = o
  statics_of_all o (cons e es) = statics_of_all (statics_of o e) es

-- the variables and the globals of the whole text in the order of their numbers
pub record Tables : Type 0 where
  pub variables : List Var
  pub globals : List (List ℕ)

abbrev pub variable_number : Tables → Var → ℕ
variable_number t x = index (same_var x) t.variables

abbrev pub global_number : Tables → List ℕ → ℕ
global_number t g = index (bytes_eq g) t.globals

abbrev pub variable_numbers : Tables → List Var → List ℕ
variable_numbers t xs = map (variable_number t) xs

abbrev pub option_number : Tables → Option Var → Option ℕ
option_number t None = None
option_number t (Some x) = Some (variable_number t x)

-- what stands before a node in written order: so many nodes and lambda expressions, and these static objects
pub record Before : Type 0 where
  pub nodes : ℕ
  pub closures : ℕ
  pub statics : List Static

abbrev pub behind_node : Before → Node → Before
behind_node b e = record { nodes = b.nodes + nodes e; closures = b.closures + closures e; statics = statics_of b.statics e }

abbrev pub behind_nodes : Before → Nodes → Before
behind_nodes b es = record { nodes = b.nodes + nodes_of_all es; closures = b.closures + closures_of_all es; statics = statics_of_all b.statics es }

abbrev pub behind_values : Before → Nodes → Before
behind_values b es = record { nodes = b.nodes + nodes_of_values es; closures = b.closures + closures_of_all es; statics = statics_of_all b.statics es }

-- one node, or one lambda expression, more
abbrev pub one_node : Before → Before
one_node b = record { nodes = b.nodes + 1; closures = b.closures; statics = b.statics }

abbrev pub one_closure : Before → Before
one_closure b = record { nodes = b.nodes; closures = b.closures + 1; statics = b.statics }

-- the numbers of lambda expressions that a `letrec` binds
abbrev pub lambda_numbers : ℕ → Nodes → List ℕ
lambda_numbers l nil = []
lambda_numbers l (cons e es) = l ∷ lambda_numbers (l + closures e) es

abbrev mutual
  -- a node with its numbers, where this stands before it
  pub numbered : Tables → Before → Node → core.Tree
  numbered t b (At p c) = core.Node p b.nodes (numbered_in t (one_node b) c)

  pub numbered_in : Tables → Before → Core → core.Form
  numbered_in t b (Constant s) = core.Quote (placed_in b.statics s).constant
  numbered_in t b Unspecified = core.Quote Const.Unspecified
  numbered_in t b Undefined = core.Quote Const.Undefined
  numbered_in t b (Local x) = core.Local (variable_number t x)
  numbered_in t b (Global g) = core.Global (global_number t g)
  numbered_in t b (Lambda xs r e) = core.Lambda b.closures
  numbered_in t b (If a c d) =
      core.If (numbered t b a) (numbered t (behind_node b a) c) (numbered t (behind_node (behind_node b a) c) d)
  numbered_in t b (SetLocal x e) = core.SetLocal (variable_number t x) (numbered t b e)
  numbered_in t b (SetGlobal q g e) = core.SetGlobal (global_number t g) (numbered t b e)
  numbered_in t b (DefGlobal g e) = core.DefGlobal (global_number t g) (numbered t b e)
  numbered_in t b (Let xs es e) = core.Let (variable_numbers t xs) (numbered_all t b es) (numbered t (behind_nodes b es) e)
  numbered_in t b (Letrec xs es e) =
      core.Letrec (variable_numbers t xs) (lambda_numbers b.closures es) (numbered t (behind_values b es) e)
  numbered_in t b (Seq es) = core.Seq (numbered_all t b es)
  numbered_in t b (Call f es) = core.Call (numbered t b f) (numbered_all t (behind_node b f) es)
  numbered_in t b (PrimUse q es) = core.PrimUse q (numbered_all t b es)
  numbered_in t b (Apply f l) = core.Apply (numbered t b f) (numbered t (behind_node b f) l)

  pub numbered_all : Tables → Before → Nodes → core.Trees
  numbered_all t b nil = core.none
  numbered_all t b (cons e es) = core.more (numbered t b e) (numbered_all t (behind_node b e) es)

-- a lambda expression with its numbers, where this stands before its body
abbrev pub numbered_lambda : Tables → Before → Place → List Var → Option Var → Node → LambdaTree
numbered_lambda t b p xs r e =
    record { place = p; formals = variable_numbers t xs; rest = option_number t r; body = numbered t b e }

abbrev mutual
  -- the lambda expressions of a node in the order of their numbers
  pub lambdas_of : Tables → Before → Node → List LambdaTree
  lambdas_of t b (At p c) = lambdas_in t (one_node b) p c

  pub lambdas_in : Tables → Before → Place → Core → List LambdaTree
  lambdas_in t b p (Constant s) = []
  lambdas_in t b p Unspecified = []
  lambdas_in t b p Undefined = []
  lambdas_in t b p (Local x) = []
  lambdas_in t b p (Global g) = []
  lambdas_in t b p (Lambda xs r e) = numbered_lambda t (one_closure b) p xs r e ∷ lambdas_of t (one_closure b) e
  lambdas_in t b p (If a c d) =
      lambdas_of t b a ++ (lambdas_of t (behind_node b a) c ++ lambdas_of t (behind_node (behind_node b a) c) d)
  lambdas_in t b p (SetLocal x e) = lambdas_of t b e
  lambdas_in t b p (SetGlobal q g e) = lambdas_of t b e
  lambdas_in t b p (DefGlobal g e) = lambdas_of t b e
  lambdas_in t b p (Let xs es e) = lambdas_of_all t b es ++ lambdas_of t (behind_nodes b es) e
  lambdas_in t b p (Letrec xs es e) = lambdas_of_values t b es ++ lambdas_of t (behind_values b es) e
  lambdas_in t b p (Seq es) = lambdas_of_all t b es
  lambdas_in t b p (Call f es) = lambdas_of t b f ++ lambdas_of_all t (behind_node b f) es
  lambdas_in t b p (PrimUse q es) = lambdas_of_all t b es
  lambdas_in t b p (Apply f l) = lambdas_of t b f ++ lambdas_of t (behind_node b f) l

  pub lambdas_of_all : Tables → Before → Nodes → List LambdaTree
  lambdas_of_all t b nil = []
  lambdas_of_all t b (cons e es) = lambdas_of t b e ++ lambdas_of_all t (behind_node b e) es

  -- those that a `letrec` binds have no nodes of their own
  pub lambdas_of_values : Tables → Before → Nodes → List LambdaTree
  lambdas_of_values t b nil = []
  lambdas_of_values t b (cons (At p c) es) =
      lambdas_in t b p c ++ lambdas_of_values t (behind_values b (cons (At p c) nil)) es

abbrev pub global_name : Bool → List ℕ → GlobalName
global_name library g = record { library = library; name = g }

abbrev pub tables_of : Nodes → Tables
tables_of es = record { variables = firsts same_var (variables_of_all es); globals = firsts bytes_eq (globals_of_all es) }

abbrev pub none_before : Before
none_before = record { nodes = 0; closures = 0; statics = [] }

-- the program of a text that means these nodes
unfoldable pub program_of : Bool → Nodes → ProgramTree
program_of library es =
    let t = tables_of es in
    record {
      globals = map (global_name library) t.globals;
      statics = statics_of_all [] es;
      lambdas = lambdas_of_all t none_before es;
      forms = numbered_all t none_before es;
    }
