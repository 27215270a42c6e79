-- The width of bodies in A-normal form.
use Rattle.std.specs.Prelude.{ℕ, ◌+◌, List, [], ◌∷◌, length, map}
use Rattle.tb_core.specs.Width.{largest, squares}
use Rattle.tb_ir.specs.AnfTree.{Operand, Quote, Var, Block, Op, Bind, CloseAll, Tail, Atom, Global, SetGlobal, DefGlobal, PrimUse, NewCell, CellGet, CellSet, Close, Call, Direct, Apply, Branch, ProcTree, AnfTree}

-- how many of the atoms are constants
abbrev pub quotes : List Operand → ℕ
quotes [] = 0
quotes (Quote c ∷ ds) = 1 + quotes ds
quotes (Var x ∷ ds) = quotes ds

-- one for each operation other than the making of a cell, one for each constant of a call, and one for each
-- lambda of procedures that are made together
abbrev mutual
  pub operations : Block → ℕ
  operations (Bind x op b) = operations_in op + operations b
  operations (CloseAll xs ls b) = length ls + operations b
  operations (Tail op) = operations_in op

  pub operations_in : Op → ℕ
  operations_in (Atom a) = 1
  operations_in (Global g p) = 1
  operations_in (SetGlobal g a p) = 1
  operations_in (DefGlobal g a) = 1
  operations_in (PrimUse q ds p) = 1
  operations_in (NewCell a) = 0
  operations_in (CellGet a p) = 1
  operations_in (CellSet a b) = 1
  operations_in (Close l) = 1
  operations_in (Call f ds p) = 1 + quotes (f ∷ ds)
  operations_in (Direct l ds) = 1 + quotes ds
  operations_in (Apply f l p) = 1
  operations_in (Branch a b c) = 1 + (operations b + operations c)

-- the width of a body: its parameters, what it captures, and its operations
abbrev pub proc_width : ProcTree → ℕ
proc_width q = length q.params + (length q.captured + operations q.body)

abbrev pub all_widths : AnfTree → List ℕ
all_widths p = map proc_width p.procs

abbrev pub width_of : AnfTree → ℕ
width_of p = largest (all_widths p)

abbrev pub square_sum : AnfTree → ℕ
square_sum p = squares (all_widths p)
