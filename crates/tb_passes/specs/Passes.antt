-- The passes, one after another: assigned variables become cells, the program comes into A-normal form, and code is made
-- of it.
use Rattle.tb_core.specs.OperandOrder.{order_of}
use Rattle.tb_core.specs.Tree.{ProgramTree}
use Rattle.tb_ir.specs.AnfTree.{AnfTree}
use Rattle.tb_mac.specs.Assembled.{Assembled}
use Rattle.tb_assign.specs.Eliminate.{cells_of}
use Rattle.tb_anf.specs.NormalForm.{normal_form}
use Rattle.tb_codegen.specs.PlainCode.{code_of}

abbrev pub anf_of : ProgramTree → AnfTree
anf_of p = normal_form (cells_of p) (order_of p)

abbrev pub program_code : ProgramTree → Assembled
program_code p = code_of (anf_of p)
