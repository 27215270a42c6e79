-- Small programs with procedures that can be lifted, and with some that cannot.
use Rattle.std.specs.Prelude.{ℕ, zero, suc, List, [], ◌∷◌, Some, None}
use Rattle.tb_prim.specs.declared.primitive.Primitive.{Primitive}
use Rattle.tb_core.specs.Tree.{Let, Letrec, SetLocal, Trees, none, more, ProgramTree}
use Rattle.tb_core.specs.Examples.{node, one, two, number, local, lambda, call, sequence, prim, let_one, lambda_at, program}

-- so many numbers from one on, and so many operands
abbrev pub numbers : ℕ → ℕ → List ℕ
numbers first zero = []
numbers first (suc n) = first ∷ numbers (suc first) n

abbrev pub operands : ℕ → Trees
operands zero = none
operands (suc n) = more (number 20 n) (operands n)

-- (let ((a 1)) (letrec ((h (lambda (b c ..) a))) (h 1 2 ..))), with so many operands
abbrev pub wide : ℕ → ProgramTree
wide n =
    program 0 [] (lambda_at 4 (numbers 2 n) None (local 5 0) ∷ []) (
    one (let_one 1 0 (number 2 1) (node 3 (Letrec (1 ∷ []) (0 ∷ []) (call 6 (local 7 1) (operands n)))))
    )

-- (letrec ((h (lambda () 1))) (eq? h h))
abbrev pub compared : ProgramTree
compared =
    program 0 [] (lambda_at 2 [] None (number 3 1) ∷ []) (
    one (node 1 (Letrec (0 ∷ []) (0 ∷ []) (prim 4 Primitive.Eq (two (local 5 0) (local 6 0)))))
    )

-- (let ((a 1) (b 2)) (letrec ((f (lambda (x) (begin (g b) x))) (g (lambda (y) (f a)))) (f 3)))
abbrev pub mutual_calls : ProgramTree
mutual_calls =
    program 0 [] (
    lambda_at 5 (4 ∷ []) None (sequence 6 (two (call 7 (local 8 3) (one (local 9 1))) (local 10 4))) ∷
    lambda_at 11 (5 ∷ []) None (call 12 (local 13 2) (one (local 14 0))) ∷ []
    ) (one (node 1 (Let (0 ∷ 1 ∷ []) (two (number 2 1) (number 3 2))
    (node 4 (Letrec (2 ∷ 3 ∷ []) (0 ∷ 1 ∷ []) (call 15 (local 16 2) (one (number 17 3))))))))

-- (let ((a 1) (b 2)) (letrec ((f (lambda () (begin (g) a))) (g (lambda () b))) (f)))
abbrev pub one_way : ProgramTree
one_way =
    program 0 [] (
    lambda_at 5 [] None (sequence 6 (two (call 7 (local 8 3) none) (local 9 0))) ∷
    lambda_at 10 [] None (local 11 1) ∷ []
    ) (one (node 1 (Let (0 ∷ 1 ∷ []) (two (number 2 1) (number 3 2))
    (node 4 (Letrec (2 ∷ 3 ∷ []) (0 ∷ 1 ∷ []) (call 12 (local 13 2) none))))))

-- (let ((h (lambda () 1))) (begin (set! h 2) (h)))
abbrev pub assigned : ProgramTree
assigned =
    program 0 [] (lambda_at 2 [] None (number 3 1) ∷ []) (
    one (let_one 1 0 (lambda 2 0) (sequence 4 (two (node 5 (SetLocal 0 (number 6 2))) (call 7 (local 8 0) none))))
    )

-- (let ((h (lambda x 1))) (h))
abbrev pub with_rest : ProgramTree
with_rest =
    program 0 [] (lambda_at 2 [] (Some 1) (number 3 1) ∷ []) (
    one (let_one 1 0 (lambda 2 0) (call 4 (local 5 0) none))
    )

-- (let ((h (lambda (x) 1))) (h))
abbrev pub miscalled : ProgramTree
miscalled =
    program 0 [] (lambda_at 2 (1 ∷ []) None (number 3 1) ∷ []) (
    one (let_one 1 0 (lambda 2 0) (call 4 (local 5 0) none))
    )

-- (let ((a 1)) (letrec ((f (lambda (b ..) a)) (g (lambda (c ..) (begin (f 1 ..) a)))) (g 1 ..))), where f has 12
-- parameters and g 11: the first round takes out f, and with its name g has one variable too many
abbrev pub two_rounds : ProgramTree
two_rounds =
    program 0 [] (
    lambda_at 4 (numbers 3 12) None (local 5 0) ∷
    lambda_at 6 (numbers 15 11) None (sequence 7 (two (call 8 (local 9 1) (operands 12)) (local 10 0))) ∷ []
    ) (one (let_one 1 0 (number 2 1) (node 3 (Letrec (1 ∷ 2 ∷ []) (0 ∷ 1 ∷ []) (call 11 (local 12 2) (operands 11))))))
