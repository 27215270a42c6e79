-- Small programs that are lifted.
use Rattle.std.specs.Prelude.{List, [], ◌∷◌, None}
use Rattle.tb_core.specs.Lifting.{Lifted}
use Rattle.tb_ir.specs.Tree.{Letrec, none}
use Rattle.tb_ir.specs.Examples.{Ordered, node, one, two, letter, local, lambda, call, sequence, put, let_one, lambda_at, line, program}
use Rattle.tb_lift.specs.Lift.{lifted_program}

-- the same order for the lifted program
abbrev pub lifted : Ordered → List Lifted → Ordered
lifted o set = record { tree = lifted_program o.tree set; order = o.order }

-- (let ((y #\A)) (let ((f (lambda (a) (begin (write-char y) (write-char a))))) (f #\B)))
abbrev pub let_bound : Ordered
let_bound =
    program 0 (lambda_at 5 (1 ∷ []) None (sequence 6 (two (put 7 (local 8 0)) (put 9 (local 10 1)))) ∷ []) (
    one (let_one 1 0 (letter 2 65) (let_one 3 2 (lambda 5 0) (call 11 (local 12 2) (one (letter 13 66)))))
    )
    (line 1 (0 ∷ []) ∷ line 3 (0 ∷ []) ∷ line 7 (0 ∷ []) ∷ line 9 (0 ∷ []) ∷ line 11 (0 ∷ 1 ∷ []) ∷ [])

abbrev pub let_bound_set : List Lifted
let_bound_set = record { lambda = 0; added = 0 ∷ [] } ∷ []

-- (let ((y #\A)) (letrec ((f (lambda () (g))) (g (lambda () (write-char y)))) (f)))
abbrev pub letrec_bound : Ordered
letrec_bound =
    program 0 (lambda_at 4 [] None (call 5 (local 6 2) none) ∷ lambda_at 7 [] None (put 8 (local 9 0)) ∷ []) (
    one (let_one 1 0 (letter 2 65) (node 3 (Letrec (1 ∷ 2 ∷ []) (0 ∷ 1 ∷ []) (call 10 (local 11 1) none))))
    )
    (line 1 (0 ∷ []) ∷ line 5 (0 ∷ []) ∷ line 8 (0 ∷ []) ∷ line 10 (0 ∷ []) ∷ [])

-- both are lifted, or the second alone, whose name is then no variable of the first any more
abbrev pub both : List Lifted
both = record { lambda = 0; added = 0 ∷ [] } ∷ record { lambda = 1; added = 0 ∷ [] } ∷ []

abbrev pub second : List Lifted
second = record { lambda = 1; added = 0 ∷ [] } ∷ []
