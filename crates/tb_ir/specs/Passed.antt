-- What a node or an operation passes to a procedure, and the constants of a node.
use Rattle.std.specs.Prelude.{List, [], ◌∷◌}
use Rattle.tb_prim.specs.declared.constant.Const.{Const}
use Rattle.tb_ir.specs.AnfTree.{Operand, Op, Call, Direct}
use Rattle.tb_ir.specs.Tree as tree

-- the operands of a call, direct or not
abbrev pub passed_at : tree.Form → tree.Trees
passed_at (tree.Call f es) = es
passed_at (tree.Direct l es) = es
passed_at f = tree.none

-- the same in A-normal form
abbrev pub passed_by : Op → List Operand
passed_by (Call f ds p) = ds
passed_by (Direct l ds) = ds
passed_by op = []

-- the constant that a node is
abbrev pub quoted : tree.Form → List Const
quoted (tree.Quote c) = c ∷ []
quoted f = []
