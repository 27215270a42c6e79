-- Small programs, and the procs of their A-normal forms worked by hand.
use Rattle.std.specs.Prelude.{◌≡◌, ℕ, pos, false, true, List, [], ◌∷◌, None, Some}
use Rattle.tb_prim.specs.declared.constant.Const.{Const}
use Rattle.tb_prim.specs.declared.primitive.Primitive.{Primitive}
use Rattle.tb_core.specs.Examples.{spot}
use Rattle.tb_ir.specs.AnfTree as A
use Rattle.tb_ir.specs.AnfTree.{Block, Operand, ProcTree}
use Rattle.tb_ir.specs.Examples.{Ordered, program, line, node, number, letter, local, lambda, lambda_at, call, prim, put, sequence, let_one, one, two, three, lifted_call, var, char}
use Rattle.tb_ir.specs.Tree.{Tree, Quote, If, NewCell, CellGet, CellSet, Let, Letrec, Apply, none}
use Rattle.tb_anf.specs.NormalForm.{value_name, normal_form}

-- a program, and its procs
pub record Row : Type 0 where
  pub source : Ordered
  pub procs : List ProcTree

abbrev pub IsWorked : Row → Type 0
IsWorked r = (normal_form r.source.tree r.source.order).procs ≡ r.procs

abbrev form_at : ℕ → Block → ProcTree
form_at n b = record { lambda = None; lifted = false; place = spot n; params = []; rest = false; captured = []; body = b }

abbrev proc_at : ℕ → ℕ → List ℕ → List ℕ → Block → ProcTree
proc_at l n params captured b =
    record { lambda = Some l; lifted = false; place = spot n; params = params; rest = false; captured = captured; body = b }

-- the value of the node of a number, the first node of the program being number 0
abbrev value : ℕ → Operand
value n = var (value_name n)

abbrev bind_value : ℕ → A.Op → Block → Block
bind_value n op b = A.Bind (value_name n) op b

abbrev fix : ℕ → Operand
fix k = A.Quote (Const.Fix (pos k))

abbrev truth : ℕ → Tree
truth n = node n (Quote (Const.Bool true))

abbrev add : ℕ → Tree → Tree → Tree
add n a b = prim n Primitive.Add (two a b)

abbrev sum : ℕ → Operand → Operand → A.Op
sum n a b = A.PrimUse Primitive.Add (a ∷ b ∷ []) (spot n)

abbrev write : ℕ → Operand → A.Op
write n a = A.PrimUse Primitive.WriteChar (a ∷ []) (spot n)

-- (+ (+ 1 2) (+ 3 4)), its operands from the left, and from the right
abbrev nested : Tree
nested = add 1 (add 2 (number 3 1) (number 4 2)) (add 5 (number 6 3) (number 7 4))

abbrev from_left : Row
from_left = record {
  source = program 0 [] (one nested) (line 1 (0 ∷ 1 ∷ []) ∷ line 2 (0 ∷ 1 ∷ []) ∷ line 5 (0 ∷ 1 ∷ []) ∷ []);
  procs = form_at 1 (
      bind_value 1 (sum 2 (fix 1) (fix 2)) (bind_value 4 (sum 5 (fix 3) (fix 4)) (A.Tail (sum 1 (value 1) (value 4))))
      ) ∷ [];
}

abbrev from_right : Row
from_right = record {
  source = program 0 [] (one nested) (line 1 (1 ∷ 0 ∷ []) ∷ line 2 (0 ∷ 1 ∷ []) ∷ line 5 (0 ∷ 1 ∷ []) ∷ []);
  procs = form_at 1 (
      bind_value 4 (sum 5 (fix 3) (fix 4)) (bind_value 1 (sum 2 (fix 1) (fix 2)) (A.Tail (sum 1 (value 1) (value 4))))
      ) ∷ [];
}

-- (+ (if #t 1 2) 3)
abbrev if_operand : Row
if_operand = record {
  source = program 0 [] (one (add 1 (node 2 (If (truth 3) (number 4 1) (number 5 2))) (number 6 3))) (
      line 1 (0 ∷ 1 ∷ []) ∷ []
      );
  procs = form_at 1 (
      bind_value 1 (A.Branch (A.Quote (Const.Bool true)) (A.Tail (A.Atom (fix 1))) (A.Tail (A.Atom (fix 2))))
      (A.Tail (sum 1 (value 1) (fix 3)))
      ) ∷ [];
}

-- (if (= 1 2) (+ 1 2) 3)
abbrev if_at_end : Row
if_at_end = record {
  source = program 0 [] (one (node 1 (If (prim 2 Primitive.NumEq (two (number 3 1) (number 4 2)))
      (add 5 (number 6 1) (number 7 2)) (number 8 3)))) (line 2 (0 ∷ 1 ∷ []) ∷ line 5 (0 ∷ 1 ∷ []) ∷ []);
  procs = form_at 1 (
      bind_value 1 (A.PrimUse Primitive.NumEq (fix 1 ∷ fix 2 ∷ []) (spot 2)) (
      A.Tail (A.Branch (value 1) (A.Tail (sum 5 (fix 1) (fix 2))) (A.Tail (A.Atom (fix 3)))))
      ) ∷ [];
}

-- (if #t (let ((x (+ 1 2))) x) 4)
abbrev let_in_arm : Row
let_in_arm = record {
  source = program 0 [] (one (node 1 (If (truth 2) (let_one 3 0 (add 4 (number 5 1) (number 6 2)) (local 7 0))
      (number 8 4)))) (line 3 (0 ∷ []) ∷ line 4 (0 ∷ 1 ∷ []) ∷ []);
  procs = form_at 1 (A.Tail (A.Branch (A.Quote (Const.Bool true))
      (A.Bind 0 (sum 4 (fix 1) (fix 2)) (A.Tail (A.Atom (var 0)))) (A.Tail (A.Atom (fix 4))))) ∷ [];
}

-- (let ((x (+ 1 2)) (y 3)) y), its operands from the right
abbrev let_of_two : Row
let_of_two = record {
  source = program 0 [] (one (node 1 (Let (0 ∷ 1 ∷ []) (two (add 2 (number 3 1) (number 4 2)) (number 5 3)) (local 6 1)))) (
      line 1 (1 ∷ 0 ∷ []) ∷ line 2 (0 ∷ 1 ∷ []) ∷ []
      );
  procs = form_at 1 (
      A.Bind 1 (A.Atom (fix 3)) (A.Bind 0 (sum 2 (fix 1) (fix 2)) (A.Tail (A.Atom (var 1))))
      ) ∷ [];
}

-- (begin (write-char #\A) (write-char #\B) 3)
abbrev begin_of_three : Row
begin_of_three = record {
  source = program 0 [] (one (sequence 1 (three (put 2 (letter 3 65)) (put 4 (letter 5 66)) (number 6 3)))) (
      line 2 (0 ∷ []) ∷ line 4 (0 ∷ []) ∷ []
      );
  procs = form_at 1 (
      bind_value 1 (write 2 (char 65)) (bind_value 3 (write 4 (char 66)) (A.Tail (A.Atom (fix 3))))
      ) ∷ [];
}

-- (letrec ((f (lambda () (g))) (g (lambda () 1))) (f))
abbrev letrec_of_two : Row
letrec_of_two = record {
  source = program 0 (
      lambda_at 4 [] None (call 5 (local 6 1) none) ∷ lambda_at 7 [] None (number 8 1) ∷ []
      ) (one (node 1 (Letrec (0 ∷ 1 ∷ []) (0 ∷ 1 ∷ []) (call 2 (local 3 0) none)))) (
      line 2 (0 ∷ []) ∷ line 5 (0 ∷ []) ∷ []
      );
  procs =
      form_at 1 (A.CloseAll (0 ∷ 1 ∷ []) (0 ∷ 1 ∷ []) (A.Tail (A.Call (var 0) [] (spot 2)))) ∷
      proc_at 0 4 [] (1 ∷ []) (A.Tail (A.Call (var 1) [] (spot 5))) ∷
      proc_at 1 7 [] [] (A.Tail (A.Atom (fix 1))) ∷ [];
}

-- (lambda (f) (f #\A))
abbrev call_at_end : Row
call_at_end = record {
  source = program 0 (lambda_at 2 (0 ∷ []) None (call 3 (local 4 0) (one (letter 5 65))) ∷ []) (one (lambda 1 0)) (
      line 3 (0 ∷ 1 ∷ []) ∷ []
      );
  procs =
      form_at 1 (A.Tail (A.Close 0)) ∷
      proc_at 0 2 (0 ∷ []) [] (A.Tail (A.Call (var 0) (char 65 ∷ []) (spot 3))) ∷ [];
}

-- (lambda (f) (+ (f #\A) 1))
abbrev call_before_end : Row
call_before_end = record {
  source = program 0 (
      lambda_at 2 (0 ∷ []) None (add 3 (call 4 (local 5 0) (one (letter 6 65))) (number 7 1)) ∷ []
      ) (one (lambda 1 0)) (line 3 (0 ∷ 1 ∷ []) ∷ line 4 (1 ∷ 0 ∷ []) ∷ []);
  procs =
      form_at 1 (A.Tail (A.Close 0)) ∷
      proc_at 0 2 (0 ∷ []) [] (bind_value 2 (A.Call (var 0) (char 65 ∷ []) (spot 4)) (A.Tail (sum 3 (value 2) (fix 1)))) ∷ [];
}

-- (lambda (f) (apply f (cons 1 '())))
abbrev application : Row
application = record {
  source = program 0 (
      lambda_at 2 (0 ∷ []) None (node 3 (Apply (local 4 0) (
      prim 5 Primitive.Cons (two (number 6 1) (node 7 (Quote Const.Nil)))))) ∷ []
      ) (one (lambda 1 0)) (line 3 (0 ∷ 1 ∷ []) ∷ line 5 (0 ∷ 1 ∷ []) ∷ []);
  procs =
      form_at 1 (A.Tail (A.Close 0)) ∷
      proc_at 0 2 (0 ∷ []) [] (
      bind_value 3 (A.PrimUse Primitive.Cons (fix 1 ∷ A.Quote Const.Nil ∷ []) (spot 5)) (
      A.Tail (A.Apply (var 0) (value 3) (spot 3)))
      ) ∷ [];
}

-- (let ((x0 1)) (let ((x (new-cell x0))) (begin (cell-set x 2) (cell-get x))))
abbrev cell_of_variable : Row
cell_of_variable = record {
  source = program 0 [] (one (let_one 1 0 (number 2 1) (let_one 3 1 (node 4 (NewCell (local 5 0))) (sequence 6 (two
      (node 7 (CellSet (local 8 1) (number 9 2)))
      (node 10 (CellGet (local 11 1)))))))) (line 1 (0 ∷ []) ∷ []);
  procs = form_at 1 (
      A.Bind 0 (A.Atom (fix 1)) (A.Bind 1 (A.NewCell (var 0)) (
      bind_value 6 (A.CellSet (var 1) (fix 2)) (A.Tail (A.CellGet (var 1) (spot 10)))))
      ) ∷ [];
}

-- (lambda (x y) (lambda () (begin (write-char y) (write-char x)))), whose inner procedure captures in the order of use
abbrev captured_pair : Row
captured_pair = record {
  source = program 0 (
      lambda_at 2 (0 ∷ 1 ∷ []) None (lambda 3 1) ∷
      lambda_at 4 [] None (sequence 5 (two (put 6 (local 7 1)) (put 8 (local 9 0)))) ∷ []
      ) (one (lambda 1 0)) (line 6 (0 ∷ []) ∷ line 8 (0 ∷ []) ∷ []);
  procs =
      form_at 1 (A.Tail (A.Close 0)) ∷
      proc_at 0 2 (0 ∷ 1 ∷ []) [] (A.Tail (A.Close 1)) ∷
      proc_at 1 4 [] (1 ∷ 0 ∷ []) (bind_value 3 (write 6 (var 1)) (A.Tail (write 8 (var 0)))) ∷ [];
}

-- a lambda expression that is lifted with a variable added, and a direct call of it
abbrev direct_call : Row
direct_call = record {
  source = lifted_call;
  procs =
      form_at 1 (A.Bind 0 (A.Atom (char 65)) (A.Tail (A.Direct 0 (char 66 ∷ var 0 ∷ [])))) ∷
      record {
        lambda = Some 0;
        lifted = true;
        place = spot 5;
        params = 1 ∷ 0 ∷ [];
        rest = false;
        captured = [];
        body = bind_value 6 (write 7 (var 0)) (A.Tail (write 9 (var 1)));
      } ∷ [];
}

abbrev pub rows : List Row
rows =
    from_left ∷ from_right ∷ if_operand ∷ if_at_end ∷ let_in_arm ∷ let_of_two ∷ begin_of_three ∷ letrec_of_two ∷
    call_at_end ∷ call_before_end ∷ application ∷ cell_of_variable ∷ captured_pair ∷ direct_call ∷ []
