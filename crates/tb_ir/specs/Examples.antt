-- Small programs written out as trees, and what it means that they are run. The node of a number stands in
-- line 1, at the column of that number, so that a failure's place names its node.
use Rattle.std.specs.Prelude.{◌≡◌, ℕ, pos, false, true, List, [], ◌∷◌, length, Option, Some, None}
use Rattle.tb_prim.specs.declared.constant.Const.{Const}
use Rattle.tb_prim.specs.declared.constant.Static.{Static}
use Rattle.tb_prim.specs.declared.event.Event.{Event}
use Rattle.tb_prim.specs.declared.primitive.Primitive.{Primitive}
use Rattle.tb_semantics.specs.Runs.{after}
use Rattle.tb_core.specs.OperandOrder.{Line}
use Rattle.tb_core.specs.Examples.{spot, names}
use Rattle.tb_ir.specs.Tree.{Tree, Node, Form, Quote, Local, Global, Lambda, If, NewCell, CellGet, CellSet, DefGlobal, Let, Seq, Call, Direct, PrimUse, Apply, Trees, none, more, LambdaTree, ProgramTree}
use Rattle.tb_ir.specs.AnfTree as A
use Rattle.tb_ir.specs.AnfTree.{ProcTree, AnfTree}
use Rattle.tb_ir.specs.Machine.{events_of}
use Rattle.tb_ir.specs.TreeMachine as T
use Rattle.tb_ir.specs.AnfMachine as M
use Rattle.tb_ir.specs.Space.{frames_of, closures_of, words_of, made_of}

-- a program with an order of its operands
pub record Ordered : Type 0 where
  pub tree : ProgramTree
  pub order : List Line

abbrev pub state : Ordered → ℕ → T.TreeState
state o n = after (T.tree_machine o.tree o.order []) n

abbrev pub anf_state : AnfTree → ℕ → M.AnfState
anf_state p n = after (M.anf_machine p []) n

-- after some steps without input, the program has emitted these events
abbrev pub Emits : Ordered → List Event → Type 0
Emits o events = (n : ℕ) × (events_of (state o n) ≡ events)

abbrev pub AnfEmits : AnfTree → List Event → Type 0
AnfEmits p events = (n : ℕ) × (events_of (anf_state p n) ≡ events)

-- the frames that wait, the procedures and the words that are held, and what was made, after so many steps
abbrev pub held : Ordered → ℕ → List ℕ
held o n =
    let x = T.language o.tree o.order in
    let statics = length o.tree.statics in
    let s = state o n in
    frames_of s ∷ closures_of x statics s ∷ words_of x statics s ∷ made_of s ∷ []

abbrev pub anf_held : AnfTree → ℕ → List ℕ
anf_held p n =
    let x = M.language p in
    let statics = length p.statics in
    let s = anf_state p n in
    frames_of s ∷ closures_of x statics s ∷ words_of x statics s ∷ made_of s ∷ []

abbrev pub node : ℕ → Form → Tree
node n f = Node (spot n) n f

abbrev pub one : Tree → Trees
one a = more a none

abbrev pub two : Tree → Tree → Trees
two a b = more a (one b)

abbrev pub three : Tree → Tree → Tree → Trees
three a b c = more a (two b c)

-- expressions with the number of their node first
abbrev pub number : ℕ → ℕ → Tree
number n k = node n (Quote (Const.Fix (pos k)))

abbrev pub letter : ℕ → ℕ → Tree
letter n c = node n (Quote (Const.Char c))

abbrev pub local : ℕ → ℕ → Tree
local n x = node n (Local x)

abbrev pub global : ℕ → ℕ → Tree
global n g = node n (Global g)

abbrev pub lambda : ℕ → ℕ → Tree
lambda n l = node n (Lambda l)

abbrev pub call : ℕ → Tree → Trees → Tree
call n f es = node n (Call f es)

abbrev pub prim : ℕ → Primitive → Trees → Tree
prim n p es = node n (PrimUse p es)

abbrev pub put : ℕ → Tree → Tree
put n e = prim n Primitive.WriteChar (one e)

abbrev pub sequence : ℕ → Trees → Tree
sequence n es = node n (Seq es)

abbrev pub let_one : ℕ → ℕ → Tree → Tree → Tree
let_one n x e body = node n (Let (x ∷ []) (one e) body)

abbrev pub lambda_at : ℕ → List ℕ → Option ℕ → Tree → LambdaTree
lambda_at n formals rest body = record { place = spot n; formals = formals; rest = rest; body = body }

-- the line of the node of a number
abbrev pub line : ℕ → List ℕ → Line
line n order = record { place = spot n; site = n; order = order }

-- a program with so many globals, and without static objects and lambda expressions that are lifted
abbrev pub program : ℕ → List LambdaTree → Trees → List Line → Ordered
program n lambdas forms order =
    record { tree = record { globals = names n; statics = []; lambdas = lambdas; forms = forms; set = [] }; order = order }

-- (define (loop n) (if (= n 0) (write-char #\A) (loop (- n 1))))
-- (loop 2)
abbrev pub tail_loop : Ordered
tail_loop =
    program 1 (
    lambda_at 2 (0 ∷ []) None (node 3 (If
    (prim 4 Primitive.NumEq (two (local 5 0) (number 6 0)))
    (put 7 (letter 8 65))
    (call 9 (global 10 0) (one (prim 11 Primitive.Sub (two (local 12 0) (number 13 1))))))) ∷ []
    )
    (two (node 1 (DefGlobal 0 (lambda 2 0))) (call 14 (global 15 0) (one (number 16 2))))
    (line 4 (0 ∷ 1 ∷ []) ∷ line 7 (0 ∷ []) ∷ line 9 (0 ∷ 1 ∷ []) ∷ line 11 (0 ∷ 1 ∷ []) ∷ line 14 (0 ∷ 1 ∷ []) ∷ [])

-- (define (deep n) (if (= n 0) 0 (+ (deep (- n 1)) 1)))
-- (deep 2)
abbrev pub deep : Ordered
deep =
    program 1 (
    lambda_at 2 (0 ∷ []) None (node 3 (If
    (prim 4 Primitive.NumEq (two (local 5 0) (number 6 0)))
    (number 7 0)
    (prim 8 Primitive.Add (two
    (call 9 (global 10 0) (one (prim 11 Primitive.Sub (two (local 12 0) (number 13 1)))))
    (number 14 1))))) ∷ []
    )
    (two (node 1 (DefGlobal 0 (lambda 2 0))) (call 15 (global 16 0) (one (number 17 2))))
    (line 4 (0 ∷ 1 ∷ []) ∷ line 8 (0 ∷ 1 ∷ []) ∷ line 9 (0 ∷ 1 ∷ []) ∷ line 11 (0 ∷ 1 ∷ []) ∷ line 15 (0 ∷ 1 ∷ []) ∷ [])

-- (let ((x0 #\A)) (let ((x (new-cell x0)))
--   (let ((f (lambda () (cell-set x #\B))) (g (lambda () (cell-get x)))) (begin (f) (write-char (g))))))
abbrev pub shared_cell : Ordered
shared_cell =
    program 0 (
    lambda_at 5 [] None (node 6 (CellSet (local 7 1) (letter 8 66))) ∷ lambda_at 9 [] None
    (node 10 (CellGet (local 11 1))) ∷ []
    )
    (one (let_one 1 0 (letter 2 65) (let_one 3 1 (node 4 (NewCell (local 20 0))) (
    node 12 (Let (2 ∷ 3 ∷ []) (two (lambda 5 0) (lambda 9 1)) (sequence 13 (two
    (call 14 (local 15 2) none)
    (put 16 (call 17 (local 18 3) none)))))))))
    (line 1 (0 ∷ []) ∷ line 12 (0 ∷ 1 ∷ []) ∷ line 14 (0 ∷ []) ∷ line 16 (0 ∷ []) ∷ line 17 (0 ∷ []) ∷ [])

-- a cell without a value is read: (let ((x0 undefined)) (let ((x (new-cell x0))) (cell-get x)))
abbrev pub early_read : Ordered
early_read =
    program 0 []
    (one (let_one 1 0 (node 2 (Quote Const.Undefined))
    (let_one 3 1 (node 4 (NewCell (local 5 0))) (node 6 (CellGet (local 7 1))))))
    (line 1 (0 ∷ []) ∷ [])

-- (let ((y #\A)) (f #\B)), where f is the lambda expression (lambda (a) (begin (write-char y) (write-char a)))
-- lifted with y added
abbrev pub lifted_call : Ordered
lifted_call = record {
  tree = record {
    globals = [];
    statics = [];
    lambdas = lambda_at 5 (1 ∷ []) None (sequence 6 (two (put 7 (local 8 0)) (put 9 (local 10 1)))) ∷ [];
    forms = one (let_one 1 0 (letter 2 65) (node 3 (Direct 0 (two (letter 4 66) (local 11 0)))));
    set = record { lambda = 0; added = 0 ∷ [] } ∷ [];
  };
  order = line 1 (0 ∷ []) ∷ line 3 (1 ∷ 0 ∷ []) ∷ line 7 (0 ∷ []) ∷ line 9 (0 ∷ []) ∷ [];
}

-- (let ((x 1)) (write-char (integer->char (+ x (begin (write-char #\A) 65))))), the complex operand first
abbrev pub complex_first : Ordered
complex_first =
    program 0 []
    (one (let_one 1 0 (number 2 1) (put 3 (prim 4 Primitive.IntToChar (one (
    prim 5 Primitive.Add (two (local 6 0) (sequence 7 (two (put 8 (letter 9 65)) (number 10 65))))
    ))))))
    (line 1 (0 ∷ []) ∷ line 3 (0 ∷ []) ∷ line 4 (0 ∷ []) ∷ line 5 (1 ∷ 0 ∷ []) ∷ line 8 (0 ∷ []) ∷ [])

-- ((lambda (x . r) (write-char (car r))) #\A #\B #\C)
abbrev pub rest_parameter : Ordered
rest_parameter =
    program 0 (lambda_at 2 (0 ∷ []) (Some 1) (put 3 (prim 4 Primitive.Car (one (local 5 1)))) ∷ [])
    (one (call 1 (lambda 2 0) (three (letter 6 65) (letter 7 66) (letter 8 67))))
    (line 1 (0 ∷ 1 ∷ 2 ∷ 3 ∷ []) ∷ line 3 (0 ∷ []) ∷ line 4 (0 ∷ []) ∷ [])

-- (apply (lambda (x) (write-char x)) '(#\A))
abbrev pub applied : Ordered
applied = record {
  tree = record {
    globals = [];
    statics = Static.Pair (Const.Char 65) Const.Nil ∷ [];
    lambdas = lambda_at 2 (0 ∷ []) None (put 3 (local 4 0)) ∷ [];
    forms = one (node 1 (Apply (lambda 2 0) (node 5 (Quote (Const.Stat 0)))));
    set = [];
  };
  order = line 1 (0 ∷ 1 ∷ []) ∷ line 3 (0 ∷ []) ∷ [];
}

-- (write-char #\A) (car '())
abbrev pub failure_after_output : Ordered
failure_after_output =
    program 0 []
    (two (put 1 (letter 2 65)) (prim 3 Primitive.Car (one (node 4 (Quote Const.Nil)))))
    (line 1 (0 ∷ []) ∷ line 3 (0 ∷ []) ∷ [])

-- (string-length (make-string 9)) 0
abbrev pub dropped_string : Ordered
dropped_string =
    program 0 []
    (two (prim 1 Primitive.StringLength (one (prim 2 Primitive.MakeString (one (number 3 9))))) (number 4 0))
    (line 1 (0 ∷ []) ∷ line 2 (0 ∷ []) ∷ [])

-- bodies in A-normal form
abbrev pub form_proc : A.Block → ProcTree
form_proc b = record { lambda = None; lifted = false; place = spot 1; params = []; rest = false; captured = []; body = b }

abbrev pub proc_at : ℕ → List ℕ → List ℕ → A.Block → ProcTree
proc_at l params captured b =
    record { lambda = Some l; lifted = false; place = spot 2; params = params; rest = false; captured = captured; body = b }

abbrev pub var : ℕ → A.Operand
var x = A.Var x

abbrev pub char : ℕ → A.Operand
char c = A.Quote (Const.Char c)

abbrev pub anf : List ProcTree → AnfTree
anf procs = record { globals = []; statics = []; order = []; procs = procs }

-- (let ((y #\B)) (letrec ((f (lambda () (g))) (g (lambda () (if #t (write-char y) (f))))) (f)))
abbrev pub mutual_closures : AnfTree
mutual_closures =
    anf (
    form_proc (A.Bind 0 (A.Atom (char 66))
    (A.CloseAll (1 ∷ 2 ∷ []) (0 ∷ 1 ∷ []) (A.Tail (A.Call (var 1) [] (spot 3))))) ∷
    proc_at 0 [] (2 ∷ []) (A.Tail (A.Call (var 2) [] (spot 4))) ∷
    proc_at 1 [] (0 ∷ 1 ∷ []) (A.Tail (A.Branch (A.Quote (Const.Bool true))
    (A.Tail (A.PrimUse Primitive.WriteChar (var 0 ∷ []) (spot 5)))
    (A.Tail (A.Call (var 1) [] (spot 6))))) ∷ []
    )

-- (let ((x #\A)) (f x)), where f is lifted with nothing added, sets a cell of its parameter and reads it:
-- (lambda (x) (begin (set! x #\B) (write-char x)))
abbrev pub lifted_cell : AnfTree
lifted_cell =
    anf (
    form_proc (A.Bind 0 (A.Atom (char 65)) (A.Bind 1 (A.Direct 0 (var 0 ∷ [])) (A.Tail (A.Atom (var 1))))) ∷
    record {
      lambda = Some 0;
      lifted = true;
      place = spot 2;
      params = 2 ∷ [];
      rest = false;
      captured = [];
      body = A.Bind 3 (A.NewCell (var 2)) (A.Bind 4 (A.CellSet (var 3) (char 66)) (
          A.Bind 5 (A.CellGet (var 3) (spot 3)) (A.Tail (A.PrimUse Primitive.WriteChar (var 5 ∷ []) (spot 4)))));
    } ∷ []
    )

-- (define (loop n) (if (= n 0) 0 (loop (- n 1)))), called as a global with 2
abbrev pub anf_loop : AnfTree
anf_loop = record {
  globals = names 1;
  statics = [];
  order = [];
  procs =
      form_proc (A.Bind 0 (A.Close 0) (A.Tail (A.DefGlobal 0 (var 0)))) ∷
      form_proc (A.Bind 1 (A.Global 0 (spot 1)) (A.Tail (A.Call (var 1) (A.Quote (Const.Fix (pos 2)) ∷ []) (spot 2)))) ∷
      proc_at 0 (2 ∷ []) [] (A.Bind 3 (A.PrimUse Primitive.NumEq (var 2 ∷ A.Quote (Const.Fix (pos 0)) ∷ []) (spot 3)) (
      A.Tail (A.Branch (var 3) (A.Tail (A.Atom (A.Quote (Const.Fix (pos 0))))) (
      A.Bind 4 (A.Global 0 (spot 4))
      (A.Bind 5 (A.PrimUse Primitive.Sub (var 2 ∷ A.Quote (Const.Fix (pos 1)) ∷ []) (spot 5)) (
      A.Tail (A.Call (var 4) (var 5 ∷ []) (spot 6)))))))) ∷ [];
}
