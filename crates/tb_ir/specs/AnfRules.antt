-- The rules that every program in A-normal form keeps (this project's own).
use Rattle.std.specs.Prelude.{◌≡◌, ℕ, suc, ◌+◌, ◌^◌, ◌<◌, ◌≤◌, Bool, true, false, cond, not, List, [], ◌∷◌, ◌++◌, length, filter, Option, Some, None}
use Rattle.tb_prim.specs.declared.constant.Const.{Const}
use Rattle.tb_prim.specs.Primitives.{arity_of}
use Rattle.tb_semantics.specs.Graph.{IsApart}
use Rattle.tb_core.specs.FreeVariables.{is_in, without}
use Rattle.tb_core.specs.Rules.{Every, ConstKeeps, StaticsKeep}
use Rattle.tb_ir.specs.AnfTree.{Operand, Quote, Var, Block, Op, Bind, CloseAll, Tail, Atom, Global, SetGlobal, DefGlobal, PrimUse, NewCell, CellGet, CellSet, Close, Call, Direct, Apply, Branch, ProcTree, AnfTree}
use Rattle.tb_ir.specs.AnfMachine.{free_of_atoms, free_block, proc_of, captured_by}
use Rattle.tb_ir.specs.Rules.{times}

-- the blocks of a block, itself first
abbrev mutual
  pub blocks : Block → List Block
  blocks (Bind x op b) = Bind x op b ∷ (blocks_in op ++ blocks b)
  blocks (CloseAll xs ls b) = CloseAll xs ls b ∷ blocks b
  blocks (Tail op) = Tail op ∷ blocks_in op

  pub blocks_in : Op → List Block
  blocks_in (Branch a b c) = blocks b ++ blocks c
  blocks_in _ = []

abbrev pub blocks_of : List ProcTree → List Block
blocks_of [] = []
blocks_of (q ∷ qs) = blocks q.body ++ blocks_of qs

abbrev pub all_blocks : AnfTree → List Block
all_blocks p = blocks_of p.procs

-- the operation of a block
abbrev pub operation : Block → List Op
operation (Bind x op b) = op ∷ []
operation (CloseAll xs ls b) = []
operation (Tail op) = op ∷ []

-- what each of some blocks or of their operations has, one after another
abbrev pub of_each : {X Y : Type 0} → (X → List Y) → List X → List Y
of_each has [] = []
of_each has (x ∷ xs) = has x ++ of_each has xs

abbrev pub operations : AnfTree → List Op
operations p = of_each operation (all_blocks p)

-- the nodes of a program: its blocks and their operations
abbrev pub node_count : AnfTree → ℕ
node_count p = length (all_blocks p) + length (operations p)

-- the atoms of an operation, and the variables that it names
abbrev pub atoms : Op → List Operand
atoms (Atom a) = a ∷ []
atoms (Global g p) = []
atoms (SetGlobal g a p) = a ∷ []
atoms (DefGlobal g a) = a ∷ []
atoms (PrimUse q ds p) = ds
atoms (NewCell a) = a ∷ []
atoms (CellGet a p) = a ∷ []
atoms (CellSet a b) = a ∷ b ∷ []
atoms (Close l) = []
atoms (Call f ds p) = f ∷ ds
atoms (Direct l ds) = ds
atoms (Apply f l p) = f ∷ l ∷ []
atoms (Branch a b c) = a ∷ []

abbrev pub named : Op → List ℕ
named op = free_of_atoms (atoms op)

-- the variables that a block binds, those that it binds to a new cell, and those that it binds otherwise
abbrev pub binders : Block → List ℕ
binders (Bind x op b) = x ∷ []
binders (CloseAll xs ls b) = xs
binders (Tail op) = []

abbrev pub cell_binders : Block → List ℕ
cell_binders (Bind x (NewCell a) b) = x ∷ []
cell_binders _ = []

abbrev pub plain_binders : Block → List ℕ
plain_binders (Bind x (NewCell a) b) = []
plain_binders b = binders b

-- the variables of which an operation makes a cell
abbrev pub celled : Op → List ℕ
celled (NewCell a) = free_of_atoms (a ∷ [])
celled _ = []

-- the lambda expressions that stand at a block
abbrev pub closed_by : Op → List ℕ
closed_by (Close l) = l ∷ []
closed_by _ = []

abbrev pub standing_at : Block → List ℕ
standing_at (CloseAll xs ls b) = ls
standing_at b = of_each closed_by (operation b)

-- the variables that are bound once in the program: all but the parameters of procs that are lifted
abbrev pub own_params : ProcTree → List ℕ
own_params q = cond q.lifted [] q.params

abbrev pub variables : AnfTree → List ℕ
variables p = of_each binders (all_blocks p) ++ of_each own_params p.procs

abbrev pub lifted_lambda : ProcTree → List ℕ
lifted_lambda q = cond q.lifted (number_of q.lambda) []
  where
    number_of : Option ℕ → List ℕ
    number_of None = []
    number_of (Some l) = l ∷ []

-- the lambda expressions of a program, as often as they stand at a block or are lifted
abbrev pub standing : AnfTree → List ℕ
standing p = of_each standing_at (all_blocks p) ++ of_each lifted_lambda p.procs

abbrev pub cells : AnfTree → List ℕ
cells p = of_each cell_binders (all_blocks p)

abbrev pub times_named : AnfTree → ℕ → ℕ
times_named p x = times x (of_each named (operations p))

-- so many procs of forms, and then those of the lambda expressions in the order of their numbers
abbrev pub is_form : ProcTree → Bool
is_form q = none_of q.lambda
  where
    none_of : Option ℕ → Bool
    none_of None = true
    none_of (Some l) = false

abbrev pub forms_of : AnfTree → List ProcTree
forms_of p = filter is_form p.procs

abbrev pub lambdas_of : AnfTree → List ProcTree
lambdas_of p = filter (λ q. not (is_form q)) p.procs

abbrev pub Numbered : ℕ → List ProcTree → Type 0
Numbered first [] = Unit {0}
Numbered first (q ∷ qs) = (q.lambda ≡ Some first) × Numbered (suc first) qs

-- the mark of a variable without a value
abbrev pub is_mark : Operand → Bool
is_mark (Quote Const.Undefined) = true
is_mark _ = false

-- the numbers of globals and static objects are in range, and a primitive has its own number of operands
abbrev pub AtomKeeps : AnfTree → Operand → Type 0
AtomKeeps p (Quote c) = ConstKeeps (length p.statics) c
AtomKeeps p (Var x) = Unit {0}

abbrev pub IsInRange : AnfTree → Op → Type 0
IsInRange p (Global g q) = g < length p.globals
IsInRange p (SetGlobal g a q) = g < length p.globals
IsInRange p (DefGlobal g a) = g < length p.globals
IsInRange p op = Unit {0}

-- an atom names a variable that is bound to a new cell
abbrev pub NamesCell : AnfTree → Operand → Type 0
NamesCell p (Quote c) = ⊥
NamesCell p (Var x) = is_in (cells p) x ≡ true

-- where a parameter of a lifted proc is a cell, a direct call has there the cell of that number
abbrev pub PassesCells : AnfTree → List ℕ → List Operand → Type 0
PassesCells p (x ∷ xs) (Quote c ∷ ds) = (is_in (cells p) x ≡ false) × PassesCells p xs ds
PassesCells p (x ∷ xs) (Var y ∷ ds) = (is_in (cells p) x ≡ true → y ≡ x) × PassesCells p xs ds
PassesCells p [] [] = Unit {0}
PassesCells p xs ds = ⊥

abbrev pub PassesAll : AnfTree → Option ProcTree → List Operand → Type 0
PassesAll p None ds = ⊥
PassesAll p (Some q) ds = (q.lifted ≡ true) × PassesCells p q.params ds

abbrev pub IsShaped : AnfTree → Op → Type 0
IsShaped p (PrimUse q ds s) = length ds ≡ arity_of q
IsShaped p (CellGet a s) = NamesCell p a
IsShaped p (CellSet a b) = NamesCell p a
IsShaped p (Direct l ds) = PassesAll p (proc_of p.procs l) ds
IsShaped p op = Unit {0}

-- the mark stands as an atom that a variable is bound to, and nowhere else
abbrev pub NoMark : List Operand → Type 0
NoMark ds = Every (λ a. is_mark a ≡ false) ds

abbrev pub MarkIsBound : AnfTree → Block → Type 0
MarkIsBound p (Bind x (Atom (Quote Const.Undefined)) b) = times_named p x ≡ times x (of_each celled (operations p))
MarkIsBound p b = Every (λ op. NoMark (atoms op)) (operation b)

abbrev pub SameLong : Block → Type 0
SameLong (CloseAll xs ls b) = length xs ≡ length ls
SameLong _ = Unit {0}

-- a cell is bound to a variable, and is not the value of a block
abbrev pub EndsWithoutCell : Block → Type 0
EndsWithoutCell (Tail (NewCell a)) = ⊥
EndsWithoutCell _ = Unit {0}

-- the rules for a block and its operation
pub record BlockKeeps (p : AnfTree) (b : Block) : Type 0 where
  pub atoms_in_range : Every (λ op. Every (AtomKeeps p) (atoms op)) (operation b)
  pub in_range : Every (IsInRange p) (operation b)
  pub lambdas_in_range : Every (λ l. l < length (lambdas_of p)) (standing_at b)
  pub shaped : Every (IsShaped p) (operation b)
  pub same_long : SameLong b
  pub mark_is_bound : MarkIsBound p b
  pub ends_without_cell : EndsWithoutCell b

-- a cell is made of a variable that the same body binds by something other than a `NewCell`, its parameters
-- among them, and that is named nowhere else
abbrev pub MakesCell : AnfTree → List ℕ → Op → Type 0
MakesCell p own (NewCell (Quote c)) = ⊥
MakesCell p own (NewCell (Var x)) = (is_in own x ≡ true) × (times_named p x ≡ 1)
MakesCell p own op = Unit {0}

-- the lambda expressions inside another have greater numbers
abbrev pub InnerGreater : Option ℕ → List ℕ → Type 0
InnerGreater None ls = Unit {0}
InnerGreater (Some l) ls = Every (λ m. l < m) ls

abbrev pub captured_in : AnfTree → ℕ → List ℕ
captured_in p l = captured_by (proc_of p.procs l)

-- what its body names beside its parameters
abbrev pub names_outside : AnfTree → ProcTree → List ℕ
names_outside p q = without q.params (free_block (captured_in p) q.body)

-- the rules for a proc: its body names its parameters and what it captures, each of which it names; a form has
-- neither, and one that is lifted captures nothing and has no rest parameter
pub record ProcKeeps (p : AnfTree) (q : ProcTree) : Type 0 where
  pub apart : IsApart (q.params ++ (q.captured ++ of_each binders (blocks q.body)))
  pub in_scope : Every (λ x. is_in q.captured x ≡ true) (names_outside p q)
  pub captures_named : Every (λ x. is_in (names_outside p q) x ≡ true) q.captured
  pub makes_cells : Every (MakesCell p (q.params ++ of_each plain_binders (blocks q.body)))
      (of_each operation (blocks q.body))
  pub inner_greater : InnerGreater q.lambda (of_each standing_at (blocks q.body))
  pub rest_has_name : q.rest ≡ true → 1 ≤ length q.params
  pub lifted_alone : q.lifted ≡ true → (q.captured ≡ []) × (q.rest ≡ false) × (is_form q ≡ false)
  pub form_alone : is_form q ≡ true → (q.captured ≡ []) × (q.params ≡ []) × (q.rest ≡ false)

-- the rules of a program in A-normal form. Each variable has one binding, apart from the parameters of procs
-- that are lifted. Each lambda expression stands at exactly one block, or is lifted. The procs of the forms stand
-- first. There are fewer than 2^32 blocks and operations.
pub record KeepsRules (p : AnfTree) : Type 0 where
  pub bound_once : IsApart (variables p)
  pub lambdas_at_most_once : IsApart (standing p)
  pub lambdas_at_least_once : (l : ℕ) → l < length (lambdas_of p) → is_in (standing p) l ≡ true
  pub forms_first : p.procs ≡ forms_of p ++ lambdas_of p
  pub numbered : Numbered 0 (lambdas_of p)
  pub few_nodes : node_count p < 2 ^ 32
  pub statics : StaticsKeep 0 p.statics
  pub blocks : Every (BlockKeeps p) (all_blocks p)
  pub procs : Every (ProcKeeps p) p.procs
