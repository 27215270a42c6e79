-- Two programs that do not keep the rules, and whose states are as no program's are.
use Rattle.std.specs.Prelude.{[]}
use Rattle.tb_prim.specs.declared.constant.Const.{Const}
use Rattle.tb_core.specs.Examples.{let_one, letter, local, node, one, program}
use Rattle.tb_core.specs.Tree.{Quote, ProgramTree}

-- a static object that is not there
abbrev pub no_object : ProgramTree
no_object = program 0 [] [] (one (node 1 (Quote (Const.Stat 3))))

-- (let ((x #\A)) (let ((x x)) x)), with one number for both variables
abbrev pub one_variable : ProgramTree
one_variable = program 0 [] [] (one (let_one 1 0 (letter 2 65) (let_one 3 0 (local 4 0) (local 5 0))))
