-- Small programs written out as trees, and what it means that they are run. The node of a number stands in
-- line 1, at the column of that number, so that a failure's place names its node.
use Rattle.std.specs.Prelude.{◌≡◌, ℕ, zero, suc, pos, false, List, [], ◌∷◌, Option, Some, None, slice_get}
use Rattle.tb_prim.specs.declared.place.Place.{Place}
use Rattle.tb_prim.specs.declared.constant.Const.{Const}
use Rattle.tb_prim.specs.declared.constant.Static.{Static}
use Rattle.tb_prim.specs.declared.constant.GlobalName.{GlobalName}
use Rattle.tb_prim.specs.declared.event.Event.{Event}
use Rattle.tb_prim.specs.declared.primitive.Primitive.{Primitive}
use Rattle.tb_semantics.specs.Runs.{after}
use Rattle.tb_core.specs.Tree.{Tree, Node, Form, Quote, Local, Global, Lambda, If, SetLocal, SetGlobal, DefGlobal, Let, Letrec, Seq, Call, PrimUse, Apply, Trees, none, more, LambdaTree, ProgramTree}
use Rattle.tb_core.specs.OperandOrder.{order_of}
use Rattle.tb_core.specs.declared.limits.Totals.{Totals}
use Rattle.tb_core.specs.Store.{Item, Obj, Fix, Nil, Pair, Vec, Str}
use Rattle.tb_core.specs.Reference.{config_of, events_of, reference}

-- after some steps in its own order, with this input, the program has emitted these events
abbrev pub Emits : ProgramTree → List ℕ → List Event → Type 0
Emits p input events = (n : ℕ) × (events_of (after (reference p (order_of p) input) n) ≡ events)

-- after some steps the store has this item
abbrev pub Stores : ProgramTree → List ℕ → Item → Type 0
Stores p input item = (n : ℕ) × (l : ℕ) × (slice_get (config_of (after (reference p (order_of p) input) n)).store l ≡ Some item)

-- the place of a number
abbrev pub spot : ℕ → Place
spot n = record { library = false; line = 1; column = n }

abbrev pub node : ℕ → Form → Tree
node n f = Node (spot n) n f

-- lists of one, two and three expressions
abbrev pub one : Tree → Trees
one a = more a none

abbrev pub two : Tree → Tree → Trees
two a b = more a (one b)

abbrev pub three : Tree → Tree → Tree → Trees
three a b c = more a (two b c)

-- expressions with the number of their node first: a fixnum, a character, variables, and uses of a primitive
abbrev pub number : ℕ → ℕ → Tree
number n k = node n (Quote (Const.Fix (pos k)))

abbrev pub letter : ℕ → ℕ → Tree
letter n c = node n (Quote (Const.Char c))

abbrev pub local : ℕ → ℕ → Tree
local n x = node n (Local x)

abbrev pub global : ℕ → ℕ → Tree
global n g = node n (Global g)

abbrev pub lambda : ℕ → ℕ → Tree
lambda n l = node n (Lambda l)

abbrev pub call : ℕ → Tree → Trees → Tree
call n f es = node n (Call f es)

abbrev pub sequence : ℕ → Trees → Tree
sequence n es = node n (Seq es)

abbrev pub prim : ℕ → Primitive → Trees → Tree
prim n p es = node n (PrimUse p es)

abbrev pub put : ℕ → Tree → Tree
put n e = prim n Primitive.WriteChar (one e)

abbrev pub let_one : ℕ → ℕ → Tree → Tree → Tree
let_one n x e body = node n (Let (x ∷ []) (one e) body)

-- a lambda expression at the place of a number, with these parameters
abbrev pub lambda_at : ℕ → List ℕ → Option ℕ → Tree → LambdaTree
lambda_at n formals rest body = record { place = spot n; formals = formals; rest = rest; body = body }

abbrev pub names : ℕ → List GlobalName
names zero = []
names (suc n) = record { library = false; name = n ∷ [] } ∷ names n

-- a program with so many globals
abbrev pub program : ℕ → List Static → List LambdaTree → Trees → ProgramTree
program n statics lambdas forms = record { globals = names n; statics = statics; lambdas = lambdas; forms = forms }

-- (define (loop n) (if (= n 0) (write-char #\A) (loop (- n 1))))
-- (loop 2)
abbrev pub tail_loop : ProgramTree
tail_loop =
    program 1 [] (
    lambda_at 2 (0 ∷ []) None (node 3 (If
    (prim 4 Primitive.NumEq (two (local 5 0) (number 6 0)))
    (put 7 (letter 8 65))
    (call 9 (global 10 0) (one (prim 11 Primitive.Sub (two (local 12 0) (number 13 1))))))) ∷ []
    )
    (two (node 1 (DefGlobal 0 (lambda 2 0))) (call 14 (global 15 0) (one (number 16 2))))

-- (let ((x #\A) (y #\B)) ((lambda () (write-char y))))
abbrev pub closure_of_one : ProgramTree
closure_of_one =
    program 0 [] (lambda_at 5 [] None (put 6 (local 7 1)) ∷ []) (
    one (node 1 (Let (0 ∷ 1 ∷ []) (two (letter 2 65) (letter 3 66)) (call 4 (lambda 5 0) none)))
    )

-- (let ((x #\A)) (let ((f (lambda () x))) (begin (set! x #\B) (write-char (f)))))
abbrev pub assigned_capture : ProgramTree
assigned_capture =
    program 0 [] (lambda_at 4 [] None (local 5 0) ∷ []) (
    one (let_one 1 0 (letter 2 65) (let_one 3 1 (lambda 4 0) (sequence 6 (two
    (node 7 (SetLocal 0 (letter 8 66)))
    (put 9 (call 10 (local 11 1) none))))))
    )

-- (letrec ((x x)) x)
abbrev pub early_read : ProgramTree
early_read =
    program 0 [] [] (
    one (let_one 1 0 (node 2 (Quote Const.Undefined)) (sequence 3 (two
    (node 4 (SetLocal 0 (local 5 0)))
    (local 6 0))))
    )

-- (set! x 1), where x has no value yet
abbrev pub early_assignment : ProgramTree
early_assignment = program 1 [] [] (one (node 1 (SetGlobal 0 (number 2 1))))

-- (5 6)
abbrev pub no_procedure : ProgramTree
no_procedure = program 0 [] [] (one (call 1 (number 2 5) (one (number 3 6))))

-- ((lambda (x) x))
abbrev pub wrong_count : ProgramTree
wrong_count = program 0 [] (lambda_at 2 (0 ∷ []) None (local 3 0) ∷ []) (one (call 1 (lambda 2 0) none))

-- ((lambda (x . r) (write-char (car r))) #\A #\B #\C)
abbrev pub rest_parameter : ProgramTree
rest_parameter =
    program 0 [] (lambda_at 2 (0 ∷ []) (Some 1) (put 3 (prim 4 Primitive.Car (one (local 5 1)))) ∷ []) (
    one (call 1 (lambda 2 0) (three (letter 6 65) (letter 7 66) (letter 8 67)))
    )

-- pairs that follow one another, the first with the empty list behind it: the last is a list of n letters
abbrev pub pairs : ℕ → ℕ → List Static
pairs first zero = []
pairs first (suc n) = Static.Pair (Const.Char 65) (Const.Stat first) ∷ pairs (suc first) n

abbrev pub list_of : ℕ → List Static
list_of n = Static.Pair (Const.Char 66) Const.Nil ∷ pairs 0 n

-- (apply (lambda (x . r) (write-char x)) '(#\A .. #\A #\B)), with so many letters before the last
abbrev pub applied : ℕ → ProgramTree
applied n =
    program 0 (list_of n) (lambda_at 2 (0 ∷ []) (Some 1) (put 3 (local 4 0)) ∷ []) (
    one (node 1 (Apply (lambda 2 0) (node 5 (Quote (Const.Stat n)))))
    )

-- (peek-char) (read-char) (read-char) (peek-char) (read-char)
abbrev pub reads : ProgramTree
reads =
    program 0 [] [] (
    more (prim 1 Primitive.PeekChar none) (more (prim 2 Primitive.ReadChar none) (
    three (prim 3 Primitive.ReadChar none) (prim 4 Primitive.PeekChar none) (prim 5 Primitive.ReadChar none)
    ))
    )

-- (let ((x 1)) (write-char (integer->char (+ x (begin (write-char #\A) 65)))))
abbrev pub complex_first : ProgramTree
complex_first =
    program 0 [] [] (
    one (let_one 1 0 (number 2 1) (put 3 (prim 4 Primitive.IntToChar (one (
    prim 5 Primitive.Add (two (local 6 0) (sequence 7 (two (put 8 (letter 9 65)) (number 10 65))))
    )))))
    )

-- (let ((x 1)) (write-char (integer->char (+ x (begin (set! x 2) 65)))))
abbrev pub assigned_in_order : ProgramTree
assigned_in_order =
    program 0 [] [] (
    one (let_one 1 0 (number 2 1) (put 3 (prim 4 Primitive.IntToChar (one (
    prim 5 Primitive.Add (two (local 6 0) (sequence 7 (two (node 8 (SetLocal 0 (number 9 2))) (number 10 65))))
    )))))
    )

-- (write-char #\A) (car '())
abbrev pub failure_after_output : ProgramTree
failure_after_output =
    program 0 [] [] (two (put 1 (letter 2 65)) (prim 3 Primitive.Car (one (node 4 (Quote Const.Nil)))))

-- (let ((x #\A) (y #\B)) (letrec ((f (lambda () (g))) (g (lambda () (write-char y)))) (f)))
abbrev pub letrec_closures : ProgramTree
letrec_closures =
    program 0 [] (
    lambda_at 5 [] None (call 6 (local 7 3) none) ∷ lambda_at 8 [] None (put 9 (local 10 1)) ∷ []
    ) (
    one (node 1 (Let (0 ∷ 1 ∷ []) (two (letter 2 65) (letter 3 66)) (
    node 4 (Letrec (2 ∷ 3 ∷ []) (0 ∷ 1 ∷ []) (call 11 (local 12 2) none))
    )))
    )

-- (define g #\1)
-- (define (f a b c) (write-char a) (write-char b) (write-char c))
-- (let ((v #\2)) (f v (begin (set! v #\3) (set! g #\4) (write-char #\x) v) g))
abbrev pub mixed_operands : ProgramTree
mixed_operands =
    program 2 [] (
    lambda_at 4 (0 ∷ 1 ∷ 2 ∷ []) None (sequence 5 (three (put 6 (local 7 0)) (put 8 (local 9 1)) (put 10 (local 11 2)))) ∷ []
    ) (three
    (node 1 (DefGlobal 0 (letter 2 49)))
    (node 3 (DefGlobal 1 (lambda 4 0)))
    (let_one 12 3 (letter 13 50) (call 14 (global 15 1) (three
    (local 16 3)
    (sequence 17 (more (node 18 (SetLocal 3 (letter 19 51))) (three
    (node 20 (SetGlobal 0 (letter 21 52)))
    (put 22 (letter 23 120))
    (local 24 3))))
    (global 25 0)))))

-- (apply 5 6)
abbrev pub applied_number : ProgramTree
applied_number = program 0 [] [] (one (node 1 (Apply (number 2 5) (number 3 6))))

-- (apply (lambda (x) x) 6)
abbrev pub applied_to_number : ProgramTree
applied_to_number = program 0 [] (lambda_at 2 (0 ∷ []) None (local 3 0) ∷ []) (one (node 1 (Apply (lambda 2 0) (number 4 6))))

-- a vector of two numbers, a string of one character, and a pair of two empty lists
abbrev pub three_objects : List Item
three_objects =
    Obj (Vec (Fix (pos 1) ∷ Fix (pos 2) ∷ [])) ∷ Obj (Str (65 ∷ [])) ∷ Obj (Pair Nil Nil) ∷ []

-- a lambda expression of thirteen parameters, and widths that leave no room for a further form
abbrev pub thirteen : LambdaTree
thirteen = lambda_at 2 (0 ∷ 1 ∷ 2 ∷ 3 ∷ 4 ∷ 5 ∷ 6 ∷ 7 ∷ 8 ∷ 9 ∷ 10 ∷ 11 ∷ 12 ∷ []) None (number 3 1)

abbrev pub no_room : Totals
no_room = record { widest = 1; squares = 1048576 }
