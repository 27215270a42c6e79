-- A-normal form of expressions. Each operation is bound once, in the order in which the operands go; operands that
-- are simple, constants and variables, stay atoms. A branch in tail position keeps its arms in tail position,
-- another one binds its value.
use Rattle.std.specs.Prelude.{ℕ, suc, ◌+◌, ◌^◌, Bool, true, false, List, [], ◌∷◌, ◌++◌, map, Option, Some, None, slice_get}
use Rattle.tb_prim.specs.declared.place.Place.{Place}
use Rattle.tb_prim.specs.declared.constant.Const.{Const}
use Rattle.tb_core.specs.FreeVariables.{is_in}
use Rattle.tb_core.specs.Lifting.{Lifted}
use Rattle.tb_core.specs.OperandOrder.{Line}
use Rattle.tb_core.specs.Tree.{option_list}
use Rattle.tb_ir.specs.Tree.{Tree, Node, Form, Quote, Local, Global, Lambda, If, NewCell, CellGet, CellSet, SetGlobal, DefGlobal, Let, Letrec, Seq, Call, Direct, PrimUse, Apply, Trees, none, more, LambdaTree, ProgramTree}
use Rattle.tb_ir.specs.FreeVariables.{added_to, captured}
use Rattle.tb_ir.specs.TreeMachine.{numbers, line_of}
use Rattle.tb_ir.specs.AnfTree as A
use Rattle.tb_ir.specs.AnfTree.{Operand, Block, Op, ProcTree, AnfTree}

-- how many nodes an expression has, inner lambdas apart
abbrev mutual
  pub size : Tree → ℕ
  size (Node p s f) = suc (size_form f)

  pub size_form : Form → ℕ
  size_form (Quote c) = 0
  size_form (Local x) = 0
  size_form (Global g) = 0
  size_form (Lambda l) = 0
  size_form (If a b c) = size a + (size b + size c)
  size_form (NewCell e) = size e
  size_form (CellGet e) = size e
  size_form (CellSet c e) = size c + size e
  size_form (SetGlobal g e) = size e
  size_form (DefGlobal g e) = size e
  size_form (Let xs es e) = size_all es + size e
  size_form (Letrec xs ls e) = size e
  size_form (Seq es) = size_all es
  size_form (Call f es) = size f + size_all es
  size_form (Direct l es) = size_all es
  size_form (PrimUse q es) = size_all es
  size_form (Apply f l) = size f + size l

  pub size_all : Trees → ℕ
  size_all none = 0
  size_all (more e es) = size e + size_all es

-- the variable that is bound to the value of a node, by the node's number in written order; the variables of the
-- program are below 2^31, and so are the numbers of its nodes
abbrev pub value_name : ℕ → ℕ
value_name n = 2 ^ 31 + n

-- the atom of an operand, whose node has number n
abbrev pub atom : ℕ → Tree → Operand
atom n (Node p s (Quote c)) = A.Quote c
atom n (Node p s (Local x)) = A.Var x
atom n (Node p s f) = A.Var (value_name n)

-- the atoms of operands in written order, the first of them being node n
abbrev pub atoms : ℕ → Trees → List Operand
atoms n none = []
atoms n (more e es) = atom n e ∷ atoms (n + size e) es

-- what comes behind an expression: nothing where it is in tail position, or a block in which a variable is bound
-- to its value
pub data After : Type 0 where
  AtEnd : After
  Then : ℕ → Block → After

-- an operation, and what comes behind it
abbrev pub put : After → Op → Block
put AtEnd op = A.Tail op
put (Then x b) op = A.Bind x op b

-- blocks put around another, one for each of these numbers in turn, the first of them outermost
abbrev pub around_at : Option (Block → Block) → Block → Block
around_at None b = b
around_at (Some f) b = f b

abbrev pub around : List (Block → Block) → List ℕ → Block → Block
around fs [] b = b
around fs (i ∷ is) b = around_at (slice_get fs i) (around fs is b)

module _ (line : ℕ → Option (List ℕ)) where
  abbrev mutual
    -- the block of an expression whose node has number n, with what comes behind it
    pub block_of : ℕ → Tree → After → Block
    block_of n (Node p s f) k = block_of_form n p s f k

    pub block_of_form : ℕ → Place → ℕ → Form → After → Block
    block_of_form n p s (Quote c) k = put k (A.Atom (A.Quote c))
    block_of_form n p s (Local x) k = put k (A.Atom (A.Var x))
    block_of_form n p s (Global g) k = put k (A.Global g p)
    block_of_form n p s (Lambda l) k = put k (A.Close l)
    block_of_form n p s (If a b c) k =
        bound (suc n) a (put k (A.Branch (atom (suc n) a) (block_of (suc n + size a) b AtEnd) (block_of (suc n + (size a + size b)) c AtEnd)))
    block_of_form n p s (NewCell e) k = bound (suc n) e (put k (A.NewCell (atom (suc n) e)))
    block_of_form n p s (CellGet e) k = bound (suc n) e (put k (A.CellGet (atom (suc n) e) p))
    block_of_form n p s (CellSet c e) k =
        bound (suc n) c (bound (suc n + size c) e (put k (A.CellSet (atom (suc n) c) (atom (suc n + size c) e))))
    block_of_form n p s (SetGlobal g e) k = bound (suc n) e (put k (A.SetGlobal g (atom (suc n) e) p))
    block_of_form n p s (DefGlobal g e) k = bound (suc n) e (put k (A.DefGlobal g (atom (suc n) e)))
    block_of_form n p s (Let xs es e) k =
        around (named_operands (suc n) xs es) (numbers (line s) (Let xs es e)) (block_of (suc n + size_all es) e k)
    block_of_form n p s (Letrec xs ls e) k = A.CloseAll xs ls (block_of (suc n) e k)
    block_of_form n p s (Seq es) k = block_of_sequence (suc n) es k
    block_of_form n p s (Call f es) k =
        around ((λ d. bound (suc n) f d) ∷ bound_operands (suc n + size f) es) (numbers (line s) (Call f es))
        (put k (A.Call (atom (suc n) f) (atoms (suc n + size f) es) p))
    block_of_form n p s (Direct l es) k =
        around (bound_operands (suc n) es) (numbers (line s) (Direct l es)) (put k (A.Direct l (atoms (suc n) es)))
    block_of_form n p s (PrimUse q es) k =
        around (bound_operands (suc n) es) (numbers (line s) (PrimUse q es)) (put k (A.PrimUse q (atoms (suc n) es) p))
    block_of_form n p s (Apply f l) k =
        around ((λ d. bound (suc n) f d) ∷ (λ d. bound (suc n + size f) l d) ∷ []) (numbers (line s) (Apply f l))
        (put k (A.Apply (atom (suc n) f) (atom (suc n + size f) l) p))

    -- an operand that is not simple is bound before a block
    pub bound : ℕ → Tree → Block → Block
    bound n (Node p s (Quote c)) b = b
    bound n (Node p s (Local x)) b = b
    bound n (Node p s f) b = block_of_form n p s f (Then (value_name n) b)

    pub bound_operands : ℕ → Trees → List (Block → Block)
    bound_operands n none = []
    bound_operands n (more e es) = (λ b. bound n e b) ∷ bound_operands (n + size e) es

    -- the operands of a `let` are bound to its variables, simple ones too
    pub named_operands : ℕ → List ℕ → Trees → List (Block → Block)
    named_operands n (x ∷ xs) (more e es) = (λ b. block_of n e (Then x b)) ∷ named_operands (n + size e) xs es
    named_operands n xs none = []
    named_operands n [] es = []

    -- a sequence binds the values of its expressions, but for the last one
    pub block_of_sequence : ℕ → Trees → After → Block
    block_of_sequence n none k = put k (A.Atom (A.Quote Const.Unspecified))
    block_of_sequence n (more e none) k = block_of n e k
    block_of_sequence n (more e (more d ds)) k =
        block_of n e (Then (value_name n) (block_of_sequence (n + size e) (more d ds) k))

-- the procs of the top-level forms in written order, the first of them being node n
abbrev pub form_proc : (ℕ → Option (List ℕ)) → ℕ → Tree → ProcTree
form_proc line n (Node p s f) = record {
  lambda = None;
  lifted = false;
  place = p;
  params = [];
  rest = false;
  captured = [];
  body = block_of line n (Node p s f) AtEnd;
}

abbrev pub form_procs : (ℕ → Option (List ℕ)) → ℕ → Trees → List ProcTree
form_procs line n none = []
form_procs line n (more e es) = form_proc line n e ∷ form_procs line (n + size e) es

abbrev pub has_rest : Option ℕ → Bool
has_rest None = false
has_rest (Some x) = true

abbrev pub is_lifted : ProgramTree → ℕ → Bool
is_lifted p l = is_in (map (λ (m : Lifted). m.lambda) p.set) l

-- the proc of the lambda expression of this number, whose body is node n
abbrev pub lambda_proc : ProgramTree → (ℕ → Option (List ℕ)) → ℕ → ℕ → LambdaTree → ProcTree
lambda_proc p line l n m = record {
  lambda = Some l;
  lifted = is_lifted p l;
  place = m.place;
  params = m.formals ++ (option_list m.rest ++ added_to p.set l);
  rest = has_rest m.rest;
  captured = captured p l;
  body = block_of line n m.body AtEnd;
}

abbrev pub lambda_procs : ProgramTree → (ℕ → Option (List ℕ)) → ℕ → ℕ → List LambdaTree → List ProcTree
lambda_procs p line l n [] = []
lambda_procs p line l n (m ∷ ms) = lambda_proc p line l n m ∷ lambda_procs p line (suc l) (n + size m.body) ms

-- a program in A-normal form, under an order of its operands: the procs of its forms, and then those of its lambda
-- expressions, with its nodes numbered in that order
abbrev pub normal_form : ProgramTree → List Line → AnfTree
normal_form p order =
    let line = line_of order in
    record {
      globals = p.globals;
      statics = p.statics;
      order = order;
      procs = form_procs line 0 p.forms ++ lambda_procs p line 0 (size_all p.forms) p.lambdas;
    }
