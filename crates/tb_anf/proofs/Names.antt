-- The names that the normal form of an expression binds, in written order, and what holds of each node.
use Rattle.std.proofs.Common.{◌≡◌, ℕ, suc, ◌+◌, ◌≤◌, Bool, true, false, List, [], ◌∷◌, ◌++◌, length}
use Rattle.tb_semantics.specs.Graph.{IsIn, IsApart}
use Rattle.tb_core.specs.Rules.{Every}
use Rattle.tb_ir.specs.Tree.{Tree, Node, Form, Quote, Local, Global, Lambda, If, NewCell, CellGet, CellSet, SetGlobal, DefGlobal, Let, Letrec, Seq, Call, Direct, PrimUse, Apply, Trees, none, more, count, operands}
use Rattle.tb_ir.specs.FreeVariables.{free, free_form}
use Rattle.tb_ir.specs.Rules.{IsPermutation, nodes, nodes_in}
use Rattle.tb_ir.specs.TreeMachine.{Context, numbers}
use Rattle.tb_anf.specs.NormalForm.{size, size_all, value_name}

-- the name of its value first, whether that is bound or not
abbrev mutual
  pub names : ℕ → Tree → List ℕ
  names n (Node p s f) = value_name n ∷ names_form n f

  pub names_form : ℕ → Form → List ℕ
  names_form n (Quote c) = []
  names_form n (Local x) = []
  names_form n (Global g) = []
  names_form n (Lambda l) = []
  names_form n (If a b c) =
      names (suc n) a ++ (names (suc n + size a) b ++ names (suc n + (size a + size b)) c)
  names_form n (NewCell e) = names (suc n) e ++ []
  names_form n (CellGet e) = names (suc n) e ++ []
  names_form n (CellSet c e) = names (suc n) c ++ (names (suc n + size c) e ++ [])
  names_form n (SetGlobal g e) = names (suc n) e
  names_form n (DefGlobal g e) = names (suc n) e
  names_form n (Let xs es e) = xs ++ (names_all (suc n) es ++ names (suc n + size_all es) e)
  names_form n (Letrec xs ls e) = xs ++ names (suc n) e
  names_form n (Seq es) = names_all (suc n) es
  names_form n (Call f es) = names (suc n) f ++ names_all (suc n + size f) es
  names_form n (Direct l es) = names_all (suc n) es
  names_form n (PrimUse q es) = names_all (suc n) es
  names_form n (Apply f l) = names (suc n) f ++ (names (suc n + size f) l ++ [])

  pub names_all : ℕ → Trees → List ℕ
  names_all n none = []
  names_all n (more e es) = names n e ++ names_all (n + size e) es

-- whether a node is evaluated operand by operand
abbrev pub by_operands : Form → Bool
by_operands (NewCell e) = true
by_operands (CellGet e) = true
by_operands (CellSet c e) = true
by_operands (Let xs es e) = true
by_operands (Call f es) = true
by_operands (Direct l es) = true
by_operands (PrimUse q es) = true
by_operands (Apply f l) = true
by_operands _ = false

-- a `let` has as many variables as operands, and a sequence is not empty
abbrev pub IsLong : Form → Type 0
IsLong (Let xs es e) = length xs ≡ count es
IsLong (Seq es) = 1 ≤ count es
IsLong f = Unit {0}

-- its operands go in an order that has each of them once, and the lambda expressions of the node are as they are to be
pub record Proper (x : Context) (calls : Form → Type 0) (s : ℕ) (f : Form) : Type 0 where
  pub permuted : by_operands f ≡ true → IsPermutation (numbers (x.line s) f) (count (operands f))
  pub long : IsLong f
  pub may : calls f

-- no condition on the lambda expressions of a node
abbrev pub Any : Form → Type 0
Any f = Unit {0}

abbrev pub ProperNode : Context → (Form → Type 0) → Tree → Type 0
ProperNode x calls (Node p s f) = Proper x calls s f

-- no element of the first list is in the second
abbrev pub AreNew : List ℕ → List ℕ → Type 0
AreNew ns xs = (y : ℕ) → IsIn y ns → IsIn y xs → ⊥

-- an expression binds each name once, none that is free in it, and all its nodes are proper
pub record Sound (x : Context) (calls : Form → Type 0) (n : ℕ) (e : Tree) : Type 0 where
  pub apart : IsApart (names n e)
  pub new : AreNew (names n e) (free x.inner e)
  pub proper : Every (ProperNode x calls) (nodes e)

-- the same of a node without the name of its own value
pub record SoundForm (x : Context) (calls : Form → Type 0) (n : ℕ) (s : ℕ) (f : Form) : Type 0 where
  pub apart : IsApart (names_form n f)
  pub new : AreNew (names_form n f) (free_form x.inner f)
  pub here : Proper x calls s f
  pub proper : Every (ProperNode x calls) (nodes_in f)
