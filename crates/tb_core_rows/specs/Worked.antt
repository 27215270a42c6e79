-- Small programs written out as trees, each node at the column where its text begins.
use Rattle.std.specs.Prelude.{pos, List, [], ◌∷◌, None}
use Rattle.tb_prim.specs.declared.constant.Const.{Const}
use Rattle.tb_prim.specs.declared.constant.Static.{Static}
use Rattle.tb_prim.specs.declared.primitive.Primitive.{Primitive}
use Rattle.tb_core.specs.Examples.{lambda, lambda_at, let_one, local, node, number, one, prim, program, sequence, three, two}
use Rattle.tb_core.specs.Tree.{Tree, Let, Quote, SetLocal, more, LambdaTree, ProgramTree}

-- '(2)
abbrev pub cons_statics : List Static
cons_statics = Static.Pair (Const.Fix (pos 2)) Const.Nil ∷ []

-- (let ((a 1)) (cons a (car '(2))))
abbrev pub cons_form : Tree
cons_form = let_one 1 0 (number 10 1) (prim 14 Primitive.Cons (two (local 20 0) (prim 22 Primitive.Car (one (node 27 (Quote (Const.Stat 0)))))))

abbrev pub cons_program : ProgramTree
cons_program = program 0 cons_statics [] (one cons_form)

-- (let ((a 1) (b 2)) (lambda (c) (begin b c a b)))
abbrev pub uses_form : Tree
uses_form = node 1 (Let (0 ∷ 1 ∷ []) (two (number 10 1) (number 16 2)) (lambda 20 0))

abbrev pub uses_lambda : LambdaTree
uses_lambda = lambda_at 20 (2 ∷ []) None (sequence 32 (more (local 39 1) (three (local 41 2) (local 43 0) (local 45 1))))

abbrev pub uses_program : ProgramTree
uses_program = program 0 [] (uses_lambda ∷ []) (one uses_form)

-- (let ((a 1)) (begin (set! a 2) a))
abbrev pub assigned_form : Tree
assigned_form = let_one 1 0 (number 10 1) (sequence 14 (two (node 21 (SetLocal 0 (number 29 2))) (local 32 0)))

abbrev pub assigned_program : ProgramTree
assigned_program = program 0 [] [] (one assigned_form)
