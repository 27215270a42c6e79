-- Small bodies, and what their lambda expressions capture.
use Rattle.std.specs.Prelude.{[], ◌∷◌}
use Rattle.tb_prim.specs.declared.primitive.Primitive.{Primitive}
use Rattle.tb_core.specs.Examples.{spot}
use Rattle.tb_ir.specs.AnfTree.{Bind, CloseAll, Tail, Atom, PrimUse, Close, Call, Branch, AnfTree}
use Rattle.tb_ir.specs.Examples.{anf, proc_at, var}

-- (lambda (x y) (let ((z (+ x y))) (if z (+ y z) x)))
abbrev pub branching : AnfTree
branching =
    anf (
    proc_at 0 (0 ∷ 1 ∷ []) [] (Bind 2 (PrimUse Primitive.Add (var 0 ∷ var 1 ∷ []) (spot 3))
    (Tail (Branch (var 2) (Tail (PrimUse Primitive.Add (var 1 ∷ var 2 ∷ []) (spot 4))) (Tail (Atom (var 0)))))) ∷ []
    )

-- (lambda (x y) (letrec ((f (lambda () (g))) (g (lambda () (f x)))) (f y)))
abbrev pub together : AnfTree
together =
    anf (
    proc_at 0 (0 ∷ 1 ∷ []) [] (CloseAll (2 ∷ 3 ∷ []) (1 ∷ 2 ∷ []) (Tail (Call (var 2) (var 1 ∷ []) (spot 3)))) ∷
    proc_at 1 [] (3 ∷ []) (Tail (Call (var 3) [] (spot 4))) ∷
    proc_at 2 [] (2 ∷ 0 ∷ []) (Tail (Call (var 2) (var 0 ∷ []) (spot 5))) ∷ []
    )

-- (lambda (x y) (let* ((f (lambda () (+ y x))) (z (f))) (+ z y)))
abbrev pub capturing : AnfTree
capturing =
    anf (
    proc_at 0 (0 ∷ 1 ∷ []) [] (Bind 2 (Close 1) (Bind 3 (Call (var 2) [] (spot 3))
    (Tail (PrimUse Primitive.Add (var 3 ∷ var 1 ∷ []) (spot 4))))) ∷
    proc_at 1 [] (1 ∷ 0 ∷ []) (Tail (PrimUse Primitive.Add (var 1 ∷ var 0 ∷ []) (spot 5))) ∷ []
    )
