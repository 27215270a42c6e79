-- The plain data that whole programs are seen as.
use Rattle.std.specs.Prelude.{[]}
use Rattle.tb_ir.specs.declared.programs.CellProgram.{CellProgram}
use Rattle.tb_ir.specs.declared.programs.Lifted.{Lifted}
use Rattle.tb_ir.specs.declared.anf.Anf.{Anf}
use Rattle.tb_ir.specs.Tree.{ProgramTree}
use Rattle.tb_ir.specs.AnfTree.{AnfTree}
use Rattle.tb_ir.specs.Plain.{plain_program}
use Rattle.tb_ir.specs.AnfPlain.{plain_anf}

abbrev pub view_cells : CellProgram → ProgramTree
view_cells p = plain_program p.globals p.statics p.lambdas p.forms []

abbrev pub view_lifted : Lifted → ProgramTree
view_lifted p = plain_program p.globals p.statics p.lambdas p.forms p.set

abbrev pub view_anf : Anf → AnfTree
view_anf p = plain_anf p.globals p.statics p.order p.procs
