-- The constants that stand in operations.
use Rattle.std.specs.Prelude.{List, [], ◌∷◌}
use Rattle.tb_prim.specs.declared.constant.Const.{Const}
use Rattle.tb_ir.specs.AnfRules.{atoms, of_each}
use Rattle.tb_ir.specs.AnfTree.{Operand, Quote, Op}
pub use Rattle.tb_ir.specs.Passed.{quoted}

-- the constant that an atom is, and those that are atoms of an operation
abbrev pub constant : Operand → List Const
constant (Quote c) = c ∷ []
constant a = []

abbrev pub constants : Op → List Const
constants op = of_each constant (atoms op)
