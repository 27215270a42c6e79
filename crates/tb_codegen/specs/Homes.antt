-- The slots of a proc's frame. Each variable has a slot of its own, and a cell has the slot of the variable that it
-- is made from.
use Rattle.std.specs.Prelude.{ℕ, suc, cond, ◌==◌, List, [], ◌∷◌, ◌++◌, length}
use Rattle.tb_ir.specs.AnfTree.{Var, Block, Bind, CloseAll, Tail, Op, NewCell, ProcTree}
use Rattle.tb_ir.specs.AnfRules.{blocks, of_each, plain_binders}

-- the variables of a proc that are no cells, in the order of their slots
abbrev pub own_variables : ProcTree → List ℕ
own_variables q = q.params ++ (q.captured ++ of_each plain_binders (blocks q.body))

-- the variable of which an operation makes a cell, where that is x
abbrev pub made_from : ℕ → Op → ℕ
made_from x (NewCell (Var y)) = y
made_from x op = x

-- the variable that a cell is made from by one of these blocks; any other variable is its own origin
abbrev pub origin : List Block → ℕ → ℕ
origin [] x = x
origin (Bind z op b ∷ bs) x = cond (z == x) (made_from x op) (origin bs x)
origin (CloseAll zs ls b ∷ bs) x = origin bs x
origin (Tail op ∷ bs) x = origin bs x

-- where a number first stands in a list
abbrev pub index_of : List ℕ → ℕ → ℕ
index_of [] x = 0
index_of (y ∷ ys) x = cond (y == x) 0 (suc (index_of ys x))

abbrev pub slot_of : ProcTree → ℕ → ℕ
slot_of q x = index_of (own_variables q) (origin (blocks q.body) x)

abbrev pub frame_size : ProcTree → ℕ
frame_size q = length (own_variables q)
