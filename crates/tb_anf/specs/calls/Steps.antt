-- The steps of an expression that is put into A-normal form, as what they put around a block.
use Rattle.std.specs.Prelude.{◌≡◌, ℕ, suc, ◌+◌, List, [], ◌∷◌, ◌++◌, map, Option, Some, None}
use Rattle.tb_prim.specs.declared.place.Place.{Place}
use Rattle.tb_ir.specs.AnfPlain.{view_atom, view_op}
use Rattle.tb_ir.specs.AnfTree as A
use Rattle.tb_ir.specs.AnfTree.{Block}
use Rattle.tb_ir.specs.Tree.{Tree, Form, Quote, Local, Trees, none, more}
use Rattle.tb_anf.specs.NormalForm.{After, Then, put, around, size, size_all, atom, atoms, value_name, bound, bound_operands, named_operands, block_of, block_of_form}
use Rattle.tb_ir.specs.declared.anf.Atom.{Atom}
use Rattle.tb_anf.specs.declared.steps.Step.{Step}
use Rattle.tb_anf.specs.declared.steps.Step.TheOpen.{Step-F}
use Rattle.tb_anf.specs.declared.steps.Step.TheFolds.{fold-Step}
use Rattle.tb_anf.specs.declared.steps.Evaluation.{Evaluation}
use Rattle.tb_anf.specs.declared.steps.Operand.{Operand}
use Rattle.tb_anf.specs.declared.steps.Operands.{Operands}

-- one after another, the first of them outermost
abbrev pub compose : List (Block → Block) → Block → Block
compose [] b = b
compose (f ∷ fs) b = f (compose fs b)

abbrev pub put_in : Step-F (Block → Block) → Block → Block
put_in (Step-F.Bind x op) b = A.Bind x (view_op op) b
put_in (Step-F.CloseAll xs ls) b = A.CloseAll xs ls b
put_in (Step-F.Group fs) b = compose fs b

-- what a step puts around a block, and what some do
abbrev pub wrap_of : Step → Block → Block
wrap_of = fold-Step (Block → Block) put_in

abbrev pub wrap : List Step → Block → Block
wrap steps b = compose (map wrap_of steps) b

-- steps are those of some groups in an order
pub record Arranges (groups : List (List Step)) (order : List ℕ) (steps : List Step) : Type 0 where
  pub is : (b : Block) → wrap steps b ≡ around (map wrap groups) order b

-- the atom of a node that is simple
abbrev pub simple_of : Form → Option A.Operand
simple_of (Quote c) = Some (A.Quote c)
simple_of (Local x) = Some (A.Var x)
simple_of _ = None

module _ (line : ℕ → Option (List ℕ)) where
  -- the steps and the last operation are those of the expression whose node has this number
  pub record Evaluates (n : ℕ) (e : Tree) (r : Evaluation) : Type 0 where
    pub is : (k : After) → block_of line n e k ≡ wrap r.steps.items (put k (view_op r.last))

  -- the same of a node, by the number of the node behind it
  pub record FormEvaluates (m : ℕ) (p : Place) (s : ℕ) (f : Form) (r : Evaluation) : Type 0 where
    pub is : (n : ℕ) → m ≡ suc n → (k : After) → block_of_form line n p s f k ≡ wrap r.steps.items (put k (view_op r.last))

  -- the atom of an operand, and the steps that bind it
  pub record Binds (n : ℕ) (e : Tree) (o : Operand) : Type 0 where
    pub atom_is : view_atom o.atom ≡ atom n e
    pub is : (b : Block) → bound line n e b ≡ wrap o.steps.items b

  -- the same of some operands, the first of which has this number
  pub record BindsAll (n : ℕ) (es : Trees) (o : Operands) : Type 0 where
    pub atoms_are : map view_atom o.atoms.items ≡ atoms n es
    pub are : map wrap o.groups.items ≡ bound_operands line n es

  -- the steps of the values of a `let`, each bound to its variable
  pub record BindsNamed (n : ℕ) (xs : List ℕ) (es : Trees) (groups : List (List Step)) : Type 0 where
    pub are : map wrap groups ≡ named_operands line n xs es

  -- the expressions of a sequence but for the last one, around a block
  abbrev pub front : ℕ → Trees → Block → Block
  front n none b = b
  front n (more e es) b = block_of line n e (Then (value_name n) (front (n + size e) es b))

  pub record StandsInFront (n : ℕ) (es : Trees) (steps : List Step) : Type 0 where
    pub is : (b : Block) → front n es b ≡ wrap steps b

  -- operands that are left, the first of which has this number, and what was made of those before them: together
  -- they are all operands from a number on
  pub record OperandsLeft (from : ℕ) (all : Trees) (n : ℕ) (es : Trees) (groups : List (List Step)) (made : List Atom) : Type 0 where
    pub number : n + size_all es ≡ from + size_all all
    pub atoms_are : map view_atom made ++ atoms n es ≡ atoms from all
    pub are : map wrap groups ++ bound_operands line n es ≡ bound_operands line from all

  pub record NamedLeft (from : ℕ) (names : List ℕ) (all : Trees) (n : ℕ) (xs : List ℕ) (es : Trees) (groups : List (List Step)) : Type 0 where
    pub number : n + size_all es ≡ from + size_all all
    pub are : map wrap groups ++ named_operands line n xs es ≡ named_operands line from names all

  pub record FrontLeft (from : ℕ) (all : Trees) (n : ℕ) (es : Trees) (steps : List Step) : Type 0 where
    pub number : n + size_all es ≡ from + size_all all
    pub is : (b : Block) → wrap steps (front n es b) ≡ front from all b
