-- Small texts, with the columns of their data as places.
use Rattle.std.specs.Prelude.{ℕ, pos, false, List, [], ◌∷◌, Some, None, codes}
use Rattle.tb_prim.specs.declared.place.Place.{Place}
use Rattle.tb_prim.specs.declared.primitive.Primitive.TheVariants.{Cons, Car}
use Rattle.tb_sexp.specs.Tree as datum
use Rattle.tb_sexp.specs.View.{trees}
use Rattle.tb_expand.specs.Trees.{Var, Node, At, Constant, Undefined, Local, Global, Lambda, SetLocal, SetGlobal, DefGlobal, Let, Letrec, Seq, Call, PrimUse, Nodes, nil, cons}

-- a place in the first line
abbrev pub at : ℕ → Place
at n = record { library = false; line = 1; column = n }

abbrev pub word : ℕ → List ℕ → datum.Tree
word n s = datum.At (at n) (datum.Name s 0)

abbrev pub number : ℕ → ℕ → datum.Tree
number n z = datum.At (at n) (datum.Fixnum (pos z))

abbrev pub row : ℕ → List datum.Tree → datum.Tree
row n ds = datum.At (at n) (datum.Proper (trees ds))

abbrev pub dotted : ℕ → List datum.Tree → datum.Tree → datum.Tree
dotted n ds d = datum.At (at n) (datum.Dotted (trees ds) d)

abbrev pub empty : ℕ → datum.Tree
empty n = datum.At (at n) datum.Nil

abbrev pub var : ℕ → List ℕ → Var
var s x = record { scope = s; name = record { text = x; alias = 0 } }

abbrev pub nodes : List Node → Nodes
nodes [] = nil
nodes (e ∷ es) = cons e (nodes es)

abbrev pub fixed : ℕ → ℕ → Node
fixed n z = At (at n) (Constant (datum.Fixnum (pos z)))

abbrev pub local : ℕ → Var → Node
local n x = At (at n) (Local x)

-- `(let ((a 1)) (cons a (car '(2))))`
abbrev pub binding : datum.Trees
binding =
    trees (row 1 (word 2 (codes "let") ∷ row 6 (row 7 (word 8 (codes "a") ∷ number 10 1 ∷ []) ∷ []) ∷ row 14
    (word 15 (codes "cons") ∷ word 20 (codes "a") ∷ row 22 (word 23 (codes "car") ∷ row 27 (word 27 (codes
    "quote") ∷ row 28 (number 29 2 ∷ []) ∷ []) ∷ []) ∷ []) ∷ []) ∷ [])

abbrev pub binding_nodes : Nodes
binding_nodes =
    nodes (At (at 1) (Let (var 1 (codes "a") ∷ []) (nodes (fixed 10 1 ∷ [])) (At (at 14) (PrimUse Cons (nodes
    (local 20 (var 1 (codes "a")) ∷ At (at 22) (PrimUse Car (nodes (At (at 27) (Constant (datum.Proper (trees
    (number 29 2 ∷ [])))) ∷ []))) ∷ []))))) ∷ [])

-- `(lambda (a) (define f (lambda (x) (g x))) (define (g . x) x) (define y 1) (set! g f) (f y))`
abbrev pub splitting : datum.Trees
splitting =
    trees (row 1 (word 2 (codes "lambda") ∷ row 9 (word 10 (codes "a") ∷ []) ∷ row 13 (word 14 (codes "define")
    ∷ word 21 (codes "f") ∷ row 23 (word 24 (codes "lambda") ∷ row 31 (word 32 (codes "x") ∷ []) ∷ row 35 (word
    36 (codes "g") ∷ word 38 (codes "x") ∷ []) ∷ []) ∷ []) ∷ row 43 (word 44 (codes "define") ∷ dotted 51 (word
    52 (codes "g") ∷ []) (word 56 (codes "x")) ∷ word 59 (codes "x") ∷ []) ∷ row 62 (word 63 (codes "define") ∷
    word 70 (codes "y") ∷ number 72 1 ∷ []) ∷ row 75 (word 76 (codes "set!") ∷ word 81 (codes "g") ∷ word 83
    (codes "f") ∷ []) ∷ row 86 (word 87 (codes "f") ∷ word 89 (codes "y") ∷ []) ∷ []) ∷ [])

abbrev pub splitting_nodes : Nodes
splitting_nodes =
    nodes (At (at 1) (Lambda (var 1 (codes "a") ∷ []) None (At (at 1) (Let (var 3 (codes "g") ∷ var 4 (codes
    "y") ∷ []) (nodes (At (at 1) Undefined ∷ At (at 1) Undefined ∷ [])) (At (at 1) (Letrec (var 2 (codes "f") ∷
    []) (nodes (At (at 23) (Lambda (var 5 (codes "x") ∷ []) None (At (at 35) (Call (local 36 (var 3 (codes
    "g"))) (nodes (local 38 (var 5 (codes "x")) ∷ []))))) ∷ [])) (At (at 1) (Seq (nodes (At (at 1) (SetLocal
    (var 3 (codes "g")) (At (at 43) (Lambda [] (Some (var 6 (codes "x"))) (local 59 (var 6 (codes "x")))))) ∷
    At (at 1) (SetLocal (var 4 (codes "y")) (fixed 72 1)) ∷ At (at 75) (SetLocal (var 3 (codes "g")) (local 83
    (var 2 (codes "f")))) ∷ At (at 86) (Call (local 87 (var 2 (codes "f"))) (nodes (local 89 (var 4 (codes
    "y")) ∷ []))) ∷ []))))))))) ∷ [])

-- `(lambda (car if) (if car))`
abbrev pub hiding : datum.Trees
hiding =
    trees (row 1 (word 2 (codes "lambda") ∷ row 9 (word 10 (codes "car") ∷ word 14 (codes "if") ∷ []) ∷ row 18
    (word 19 (codes "if") ∷ word 22 (codes "car") ∷ []) ∷ []) ∷ [])

abbrev pub hiding_nodes : Nodes
hiding_nodes =
    nodes (At (at 1) (Lambda (var 1 (codes "car") ∷ var 1 (codes "if") ∷ []) None (At (at 18) (Call (local 19
    (var 1 (codes "if"))) (nodes (local 22 (var 1 (codes "car")) ∷ []))))) ∷ [])

-- `(letrec ((f (begin (lambda () (begin) (begin (define a 1) (begin)) a)))) f)`
abbrev pub beginning : datum.Trees
beginning =
    trees (row 1 (word 2 (codes "letrec") ∷ row 9 (row 10 (word 11 (codes "f") ∷ row 13 (word 14 (codes
    "begin") ∷ row 20 (word 21 (codes "lambda") ∷ empty 28 ∷ row 31 (word 32 (codes "begin") ∷ []) ∷ row 39
    (word 40 (codes "begin") ∷ row 46 (word 47 (codes "define") ∷ word 54 (codes "a") ∷ number 56 1 ∷ []) ∷ row
    59 (word 60 (codes "begin") ∷ []) ∷ []) ∷ word 68 (codes "a") ∷ []) ∷ []) ∷ []) ∷ []) ∷ word 74 (codes "f")
    ∷ []) ∷ [])

abbrev pub beginning_nodes : Nodes
beginning_nodes =
    nodes (At (at 1) (Letrec (var 1 (codes "f") ∷ []) (nodes (At (at 20) (Lambda [] None (At (at 20) (Let (var
    3 (codes "a") ∷ []) (nodes (At (at 20) Undefined ∷ [])) (At (at 20) (Seq (nodes (At (at 20) (SetLocal (var
    3 (codes "a")) (fixed 56 1)) ∷ local 68 (var 3 (codes "a")) ∷ []))))))) ∷ [])) (local 74 (var 1 (codes
    "f")))) ∷ [])

-- `(begin (define (f) 'x) (begin)) (set! f f) (define list 1) list`
abbrev pub globals : datum.Trees
globals =
    trees (row 1 (word 2 (codes "begin") ∷ row 8 (word 9 (codes "define") ∷ row 16 (word 17 (codes "f") ∷ []) ∷
    row 20 (word 20 (codes "quote") ∷ word 21 (codes "x") ∷ []) ∷ []) ∷ row 24 (word 25 (codes "begin") ∷ []) ∷
    []) ∷ row 33 (word 34 (codes "set!") ∷ word 39 (codes "f") ∷ word 41 (codes "f") ∷ []) ∷ row 44 (word 45
    (codes "define") ∷ word 52 (codes "list") ∷ number 57 1 ∷ []) ∷ word 60 (codes "list") ∷ [])

abbrev pub globals_nodes : Nodes
globals_nodes =
    nodes (At (at 8) (DefGlobal (codes "f") (At (at 8) (Lambda [] None (At (at 20) (Constant (datum.Name (codes
    "x") 0)))))) ∷ At (at 33) (SetGlobal (at 39) (codes "f") (At (at 41) (Global (codes "f")))) ∷ At (at 44)
    (DefGlobal (codes "list") (fixed 57 1)) ∷ At (at 60) (Global (codes "list")) ∷ [])

-- `'(a b . a) 'b`
abbrev pub symbols : datum.Trees
symbols =
    trees (row 1 (word 1 (codes "quote") ∷ dotted 2 (word 3 (codes "a") ∷ word 5 (codes "b") ∷ []) (word 9
    (codes "a")) ∷ []) ∷ row 12 (word 12 (codes "quote") ∷ word 13 (codes "b") ∷ []) ∷ [])

abbrev pub symbols_nodes : Nodes
symbols_nodes =
    nodes (At (at 1) (Constant (datum.Dotted (trees (word 3 (codes "a") ∷ word 5 (codes "b") ∷ [])) (word 9
    (codes "a")))) ∷ At (at 12) (Constant (datum.Name (codes "b") 0)) ∷ [])

-- `(if)`
abbrev pub shapeless : datum.Trees
shapeless =
    trees (row 1 (word 2 (codes "if") ∷ []) ∷ [])

-- `(define car 1)`
abbrev pub integrated : datum.Trees
integrated =
    trees (row 1 (word 2 (codes "define") ∷ word 9 (codes "car") ∷ number 13 1 ∷ []) ∷ [])

-- `(let ((a 1) (a 2)) a)`
abbrev pub twice : datum.Trees
twice =
    trees (row 1 (word 2 (codes "let") ∷ row 6 (row 7 (word 8 (codes "a") ∷ number 10 1 ∷ []) ∷ row 13 (word 14
    (codes "a") ∷ number 16 2 ∷ []) ∷ []) ∷ word 20 (codes "a") ∷ []) ∷ [])

-- `(lambda (a) (define y (if)) (define))`
abbrev pub scanned_first : datum.Trees
scanned_first =
    trees (row 1 (word 2 (codes "lambda") ∷ row 9 (word 10 (codes "a") ∷ []) ∷ row 13 (word 14 (codes "define")
    ∷ word 21 (codes "y") ∷ row 23 (word 24 (codes "if") ∷ []) ∷ []) ∷ row 29 (word 30 (codes "define") ∷ []) ∷
    []) ∷ [])

-- `(lambda (a) 1 (define y 1))`
abbrev pub too_late : datum.Trees
too_late =
    trees (row 1 (word 2 (codes "lambda") ∷ row 9 (word 10 (codes "a") ∷ []) ∷ number 13 1 ∷ row 15 (word 16
    (codes "define") ∷ word 23 (codes "y") ∷ number 25 1 ∷ []) ∷ []) ∷ [])

-- `(lambda () (begin (define a 1) a) a)`
abbrev pub mixed : datum.Trees
mixed =
    trees (row 1 (word 2 (codes "lambda") ∷ empty 9 ∷ row 12 (word 13 (codes "begin") ∷ row 19 (word 20 (codes
    "define") ∷ word 27 (codes "a") ∷ number 29 1 ∷ []) ∷ word 32 (codes "a") ∷ []) ∷ word 35 (codes "a") ∷ [])
    ∷ [])

-- `(lambda () (define define 1) (define a 2))`
abbrev pub hidden_define : datum.Trees
hidden_define =
    trees (row 1 (word 2 (codes "lambda") ∷ empty 9 ∷ row 12 (word 13 (codes "define") ∷ word 20 (codes
    "define") ∷ number 27 1 ∷ []) ∷ row 30 (word 31 (codes "define") ∷ word 38 (codes "a") ∷ number 40 2 ∷ [])
    ∷ []) ∷ [])

abbrev pub hidden_define_nodes : Nodes
hidden_define_nodes =
    nodes (At (at 1) (Lambda [] None (At (at 1) (Let (var 2 (codes "define") ∷ []) (nodes (At (at 1) Undefined
    ∷ [])) (At (at 1) (Seq (nodes (At (at 1) (SetLocal (var 2 (codes "define")) (fixed 27 1)) ∷ At (at 30)
    (Call (local 31 (var 2 (codes "define"))) (nodes (At (at 38) (Global (codes "a")) ∷ fixed 40 2 ∷ []))) ∷
    []))))))) ∷ [])

-- `(define f car) (if)`
abbrev pub unbuilt : datum.Trees
unbuilt =
    trees (row 1 (word 2 (codes "define") ∷ word 9 (codes "f") ∷ word 11 (codes "car") ∷ []) ∷ row 16 (word 17
    (codes "if") ∷ []) ∷ [])

-- `list (define x list)`
abbrev pub outside : datum.Trees
outside =
    trees (word 1 (codes "list") ∷ row 6 (word 7 (codes "define") ∷ word 14 (codes "x") ∷ word 16 (codes
    "list") ∷ []) ∷ [])
