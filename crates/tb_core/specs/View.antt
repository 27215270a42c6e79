-- The plain data that a program is seen as.
use Rattle.tb_core.specs.declared.program.Program.{Program}
use Rattle.tb_core.specs.Tree.{ProgramTree}
pub use Rattle.tb_core.specs.Plain.{trees, view_in, view_at, view, view_core, view_lambda, plain_program}

-- a program as plain data
abbrev pub view_program : Program → ProgramTree
view_program p = plain_program p.globals p.statics p.lambdas p.forms
