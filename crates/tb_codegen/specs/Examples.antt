-- Small programs in A-normal form, and what it means that their code runs as they do.
use Rattle.std.specs.Prelude.{◌≡◌, ℕ, pos, false, true, List, [], ◌∷◌, Option, Some, None}
use Rattle.tb_prim.specs.declared.constant.Const.{Const}
use Rattle.tb_prim.specs.declared.constant.Static.{Static}
use Rattle.tb_prim.specs.declared.event.Event.{Event}
use Rattle.tb_prim.specs.declared.event.Stop.{Stop}
use Rattle.tb_prim.specs.declared.primitive.Primitive.{Primitive}
use Rattle.tb_semantics.specs.Runs.{after}
use Rattle.tb_core.specs.Examples.{names, spot}
use Rattle.tb_ir.specs.AnfTree as A
use Rattle.tb_ir.specs.AnfTree.{ProcTree, AnfTree}
use Rattle.tb_ir.specs.AnfMachine.{anf_machine}
use Rattle.tb_ir.specs.Examples.{anf, char, form_proc, proc_at, var}
use Rattle.tb_ir.specs.Machine.{events_of}
use Rattle.tb_mac.specs.FramedRuns.{FramedState, Runs, Stays, framed_events, framed_machine}
use Rattle.tb_mac.specs.Scrubbed.{scrubbed_machine}
use Rattle.tb_codegen.specs.PlainCode.{code_of}

-- the code after so many steps, in a memory of so many words
abbrev pub code_state : AnfTree → ℕ → ℕ → FramedState
code_state p heap n = after (framed_machine (code_of p) heap []) n

-- after so many steps without input, in a memory of so many words, the code has emitted these events, also where
-- all that its maps do not call live is marked, and so has the program after so many steps of its own
pub record SameEvents (p : AnfTree) (heap n m : ℕ) (events : List Event) : Type 0 where
  pub code : framed_events (code_state p heap n) ≡ events
  pub marked : framed_events (after (scrubbed_machine (code_of p) heap []) n) ≡ events
  pub program : events_of (after (anf_machine p []) m) ≡ events

abbrev pub stop_of : FramedState → Option Stop
stop_of (Runs m input es) = None
stop_of (Stays m s input es) = Some s

-- after so many steps, the code has stopped with these events
abbrev pub StopsWith : AnfTree → ℕ → ℕ → Stop → List Event → Type 0
StopsWith p heap n s events = (stop_of (code_state p heap n) ≡ Some s) × (framed_events (code_state p heap n) ≡ events)

-- (write-char #\A) (car '())
abbrev pub fails_after_output : AnfTree
fails_after_output =
    anf (
    form_proc (A.Tail (A.PrimUse Primitive.WriteChar (char 65 ∷ []) (spot 1))) ∷
    form_proc (A.Tail (A.PrimUse Primitive.Car (A.Quote Const.Nil ∷ []) (spot 3))) ∷ []
    )

-- ((lambda (x . r) (write-char (car r))) #\A #\B #\C)
abbrev pub takes_rest : AnfTree
takes_rest =
    anf (
    form_proc (A.Bind 2 (A.Close 0) (A.Tail (A.Call (var 2) (char 65 ∷ char 66 ∷ char 67 ∷ []) (spot 1)))) ∷
    record {
      lambda = Some 0;
      lifted = false;
      place = spot 2;
      params = 0 ∷ 1 ∷ [];
      rest = true;
      captured = [];
      body = A.Bind 3 (A.PrimUse Primitive.Car (var 1 ∷ []) (spot 4)) (A.Tail (A.PrimUse Primitive.WriteChar (var 3 ∷ []) (spot 3)));
    } ∷ []
    )

-- (apply (lambda (x) (write-char x)) '(#\A))
abbrev pub applies_list : AnfTree
applies_list = record {
  globals = [];
  statics = Static.Pair (Const.Char 65) Const.Nil ∷ [];
  order = [];
  procs =
      form_proc (A.Bind 1 (A.Close 0) (A.Tail (A.Apply (var 1) (A.Quote (Const.Stat 0)) (spot 1)))) ∷
      proc_at 0 (0 ∷ []) [] (A.Tail (A.PrimUse Primitive.WriteChar (var 0 ∷ []) (spot 3))) ∷ [];
}

-- a cell without a value is read: (let ((x0 undefined)) (let ((x (new-cell x0))) (cell-get x)))
abbrev pub reads_early : AnfTree
reads_early =
    anf (
    form_proc (A.Bind 0 (A.Atom (A.Quote Const.Undefined)) (A.Bind 1 (A.NewCell (var 0)) (A.Tail (A.CellGet (var 1) (spot 6))))) ∷ []
    )

-- (write-char (if (eq? (let ((f (lambda () #t))) (f)) #t) #\Y #\N)), and a group of no procedures
abbrev pub joins_arms : AnfTree
joins_arms =
    anf (
    form_proc (A.CloseAll [] [] (
    A.Bind 0 (A.Close 0)
    (A.Bind 1 (A.Call (var 0) [] (spot 2))
    (A.Bind 2 (A.Branch (var 1) (A.CloseAll [] [] (A.Tail (A.Atom (char 89)))) (A.Tail (A.Atom (char 78))))
    (A.Tail (A.PrimUse Primitive.WriteChar (var 2 ∷ []) (spot 3))))))) ∷
    proc_at 0 [] [] (A.Tail (A.Atom (A.Quote (Const.Bool true)))) ∷ []
    )

-- (let ((x #\A)) ((lambda (y) (begin (write-char x) (write-char y))) #\B)), and the same with one operand too many
abbrev pub captures_one : List A.Operand → AnfTree
captures_one ds =
    anf (
    form_proc (A.Bind 0 (A.Atom (char 65)) (A.Bind 1 (A.Close 0) (A.Tail (A.Call (var 1) ds (spot 1))))) ∷
    proc_at 0 (2 ∷ []) (0 ∷ [])
    (A.Bind 3 (A.PrimUse Primitive.WriteChar (var 0 ∷ []) (spot 3)) (A.Tail (A.PrimUse Primitive.WriteChar (var 2 ∷ []) (spot 4)))) ∷ []
    )

-- (1)
abbrev pub calls_number : AnfTree
calls_number = anf (form_proc (A.Tail (A.Call (A.Quote (Const.Fix (pos 1))) [] (spot 1))) ∷ [])

-- (string-length (make-string 9)) 0
abbrev pub drops_string : AnfTree
drops_string =
    anf (
    form_proc (A.Bind 0 (A.PrimUse Primitive.MakeString (A.Quote (Const.Fix (pos 9)) ∷ []) (spot 2))
    (A.Tail (A.PrimUse Primitive.StringLength (var 0 ∷ []) (spot 1)))) ∷
    form_proc (A.Tail (A.Atom (A.Quote (Const.Fix (pos 0))))) ∷ []
    )

-- (set! g #\A) where g is defined, and (vector-set! v 0 g) with (write-char (vector-ref v 0)) for a new vector v
abbrev pub sets_elements : AnfTree
sets_elements = record {
  globals = names 1;
  statics = [];
  order = [];
  procs =
      form_proc (A.Tail (A.DefGlobal 0 (A.Quote (Const.Bool false)))) ∷
      form_proc (A.Bind 0 (A.SetGlobal 0 (char 65) (spot 1))
      (A.Bind 1 (A.PrimUse Primitive.MakeVector (A.Quote (Const.Fix (pos 1)) ∷ []) (spot 2))
      (A.Bind 2 (A.Global 0 (spot 3))
      (A.Bind 3 (A.PrimUse Primitive.VectorSet (var 1 ∷ A.Quote (Const.Fix (pos 0)) ∷ var 2 ∷ []) (spot 4))
      (A.Bind 4 (A.PrimUse Primitive.VectorRef (var 1 ∷ A.Quote (Const.Fix (pos 0)) ∷ []) (spot 5))
      (A.Tail (A.PrimUse Primitive.WriteChar (var 4 ∷ []) (spot 6)))))))) ∷ [];
}

-- (if (eq? 1 2) (write-char #\Y) (if #t (write-char #\N) 0)) (write-char #\Z): arms in tail position of a form
abbrev pub branches_at_top : AnfTree
branches_at_top =
    anf (
    form_proc (A.Bind 0 (A.PrimUse Primitive.Eq (A.Quote (Const.Fix (pos 1)) ∷ A.Quote (Const.Fix (pos 2)) ∷ []) (spot 1))
    (A.Tail (A.Branch (var 0) (A.Tail (A.PrimUse Primitive.WriteChar (char 89 ∷ []) (spot 2)))
    (A.Tail (A.Branch (A.Quote (Const.Bool true)) (A.Tail (A.PrimUse Primitive.WriteChar (char 78 ∷ []) (spot 3)))
    (A.Tail (A.Atom (A.Quote (Const.Fix (pos 0)))))))))) ∷
    form_proc (A.Tail (A.PrimUse Primitive.WriteChar (char 90 ∷ []) (spot 4))) ∷ []
    )
