-- How the machine of values runs A-normal form.
use Rattle.std.specs.Prelude.{ℕ, ◌-◌, Bool, true, false, cond, ◌==◌, List, [], ◌∷◌, ◌++◌, length, take, Option, Some, None, slice_get}
use Rattle.tb_prim.specs.declared.place.Place.{Place}
use Rattle.tb_prim.specs.declared.event.Event.{Event}
use Rattle.tb_semantics.specs.Runs.{Machine}
use Rattle.tb_core.specs.FreeVariables.{without, of_lambdas}
use Rattle.tb_core.specs.Store.{Value, value_of}
use Rattle.tb_core.specs.Effects.{is_false}
use Rattle.tb_ir.specs.AnfTree.{Operand, Quote, Var, Block, Op, Bind, CloseAll, Tail, Atom, Global, SetGlobal, DefGlobal, PrimUse, NewCell, CellGet, CellSet, Close, Call, Direct, Apply, Branch, ProcTree, AnfTree}
use Rattle.tb_ir.specs.Machine.{Env, Config, State, Lost, Frame, Eval, Procedure, Language, lookup, gather, go, push, read_value, give_value, make_closure, make_closures, new_cell, get_cell, set_cell, enter, enter_lifted, apply, use_primitive, assign_global, set_global, machine_of}
use Rattle.tb_ir.specs.TreeMachine.{env_values}

-- what is evaluated: a block, or an operation
pub data Code : Type 0 where
  InBlock : Block → Code
  InOp : Op → Code

-- what waits for a value: the block after an operation, with the variable that the value is bound to
pub data AnfWork : Type 0 where
  Binding : ℕ → Block → Env → AnfWork

abbrev pub AnfConfig : Type 0
AnfConfig = Config Code AnfWork

abbrev pub AnfState : Type 0
AnfState = State Code AnfWork

abbrev pub AnfFrames : Type 0
AnfFrames = List (Frame AnfWork)

-- the variables that occur in atoms
abbrev pub free_of_atom : Operand → List ℕ
free_of_atom (Quote c) = []
free_of_atom (Var x) = x ∷ []

abbrev pub free_of_atoms : List Operand → List ℕ
free_of_atoms [] = []
free_of_atoms (a ∷ ds) = free_of_atom a ++ free_of_atoms ds

-- the variables that a block or an operation names and does not bind; a procedure that is made names what it
-- captures
abbrev mutual
  pub free_block : (ℕ → List ℕ) → Block → List ℕ
  free_block captured (Bind x op b) = free_op captured op ++ without (x ∷ []) (free_block captured b)
  free_block captured (CloseAll xs ls b) = without xs (of_lambdas captured ls ++ free_block captured b)
  free_block captured (Tail op) = free_op captured op

  pub free_op : (ℕ → List ℕ) → Op → List ℕ
  free_op captured (Atom a) = free_of_atom a
  free_op captured (Global g p) = []
  free_op captured (SetGlobal g a p) = free_of_atom a
  free_op captured (DefGlobal g a) = free_of_atom a
  free_op captured (PrimUse q ds p) = free_of_atoms ds
  free_op captured (NewCell a) = free_of_atom a
  free_op captured (CellGet a p) = free_of_atom a
  free_op captured (CellSet a b) = free_of_atom a ++ free_of_atom b
  free_op captured (Close l) = captured l
  free_op captured (Call f ds p) = free_of_atom f ++ free_of_atoms ds
  free_op captured (Direct l ds) = free_of_atoms ds
  free_op captured (Apply f l p) = free_of_atom f ++ free_of_atom l
  free_op captured (Branch a b c) = free_of_atom a ++ (free_block captured b ++ free_block captured c)

abbrev pub free_code : (ℕ → List ℕ) → Code → List ℕ
free_code captured (InBlock b) = free_block captured b
free_code captured (InOp op) = free_op captured op

-- the value of an atom, and of each of some
abbrev pub atom_value : Env → Operand → Option Value
atom_value r (Quote c) = Some (value_of c)
atom_value r (Var x) = lookup r x

abbrev pub both : Option Value → Option (List Value) → Option (List Value)
both (Some v) (Some vs) = Some (v ∷ vs)
both _ _ = None

abbrev pub atom_values : Env → List Operand → Option (List Value)
atom_values r [] = Some []
atom_values r (a ∷ ds) = both (atom_value r a) (atom_values r ds)

-- with the values of atoms; where one is not there, there is no next step
abbrev pub with_values : AnfConfig → Option (List Value) → List Event → (List Value → AnfState) → AnfState
with_values c None es k = Lost c es
with_values c (Some vs) es k = k vs

-- an operation with the values of its atoms
abbrev pub run_call : AnfConfig → Place → List Event → List Value → AnfState
run_call c p es (v ∷ vs) = enter c p v vs c.frames es
run_call c p es _ = Lost c es

abbrev pub run_apply : AnfConfig → Place → List Event → List Value → AnfState
run_apply c p es (v ∷ w ∷ []) = apply c p v w c.frames es
run_apply c p es _ = Lost c es

abbrev pub run_cell_set : AnfConfig → List Event → List Value → AnfState
run_cell_set c es (v ∷ w ∷ []) = set_cell c v w c.frames es
run_cell_set c es _ = Lost c es

abbrev pub with_value : AnfConfig → Option Value → List Event → (Value → AnfState) → AnfState
with_value c None es k = Lost c es
with_value c (Some v) es k = k v

abbrev pub evaluate_cut : (ℕ → List ℕ) → AnfConfig → Code → Env → AnfFrames → List Event → AnfState
evaluate_cut captured c e r fs es = go c (Eval e (gather (free_code captured e) r)) fs es

-- the block that is chosen
abbrev pub run_branch : (ℕ → List ℕ) → AnfConfig → Value → Block → Block → Env → List Event → AnfState
run_branch captured c v b d r es =
    cond (is_false v) (evaluate_cut captured c (InBlock d) r c.frames es)
    (evaluate_cut captured c (InBlock b) r c.frames es)

-- an operation whose environment is cut to it
abbrev pub run_op : (ℕ → List ℕ) → AnfConfig → Op → Env → List Event → AnfState
run_op captured c (Atom a) r es = give_value c (atom_value r a) es
run_op captured c (Global g p) r es = read_value c p (slice_get c.globals g) es
run_op captured c (SetGlobal g a p) r es = with_value c (atom_value r a) es (λ v. set_global c g p v c.frames es)
run_op captured c (DefGlobal g a) r es = with_value c (atom_value r a) es (λ v. assign_global c g v c.frames es)
run_op captured c (PrimUse q ds p) r es = with_values c (atom_values r ds) es (λ vs. use_primitive c p q vs c.frames es)
run_op captured c (NewCell a) r es = with_value c (atom_value r a) es (λ v. new_cell c v c.frames es)
run_op captured c (CellGet a p) r es = with_value c (atom_value r a) es (λ v. get_cell c p v c.frames es)
run_op captured c (CellSet a b) r es = with_values c (atom_values r (a ∷ b ∷ [])) es (run_cell_set c es)
run_op captured c (Close l) r es = make_closure c l (captured l) r es
run_op captured c (Call f ds p) r es = with_values c (atom_values r (f ∷ ds)) es (run_call c p es)
run_op captured c (Direct l ds) r es = with_values c (atom_values r ds) es (λ vs. enter_lifted c l vs c.frames es)
run_op captured c (Apply f l p) r es = with_values c (atom_values r (f ∷ l ∷ [])) es (run_apply c p es)
run_op captured c (Branch a b d) r es =
    with_value c (atom_value r a) es (λ v.
    cond (is_false v) (evaluate_cut captured c (InBlock d) r c.frames es)
    (evaluate_cut captured c (InBlock b) r c.frames es))

-- the operation of a `Bind` is evaluated above a frame with the variable and the block after it; procedures that
-- are made together name one another
abbrev pub run_block : (ℕ → List ℕ) → AnfConfig → Block → Env → List Event → AnfState
run_block captured c (Bind x op b) r es =
    evaluate_cut captured c (InOp op) r
    (push (Binding x b (gather (without (x ∷ []) (free_block captured b)) r)) c.frames) es
run_block captured c (CloseAll xs ls b) r es =
    make_closures captured c xs ls (InBlock b) (gather (free_block captured (CloseAll xs ls b)) r) es
run_block captured c (Tail op) r es = evaluate_cut captured c (InOp op) r c.frames es

abbrev pub evaluate : (ℕ → List ℕ) → AnfConfig → Code → Env → List Event → AnfState
evaluate captured c (InBlock b) r es = run_block captured c b r es
evaluate captured c (InOp op) r es = run_op captured c op r es

abbrev pub give : (ℕ → List ℕ) → AnfConfig → Value → AnfWork → AnfFrames → List Event → AnfState
give captured c v (Binding x b r) fs es = evaluate_cut captured c (InBlock b) (Env.Bind x v r) fs es

abbrev pub work_values : AnfWork → List Value
work_values (Binding x b r) = env_values r

-- whether a proc is that of a lambda expression
abbrev pub is_number : Option ℕ → ℕ → Bool
is_number None l = false
is_number (Some m) l = m == l

-- the proc of a lambda expression
abbrev pub proc_of : List ProcTree → ℕ → Option ProcTree
proc_of [] l = None
proc_of (q ∷ qs) l = cond (is_number q.lambda l) (Some q) (proc_of qs l)

abbrev pub captured_by : Option ProcTree → List ℕ
captured_by None = []
captured_by (Some q) = q.captured

-- the parameters of a proc without its rest parameter, which is its last
abbrev pub own_formals : Bool → List ℕ → List ℕ
own_formals false xs = xs
own_formals true xs = take (length xs - 1) xs

abbrev pub own_rest : Bool → List ℕ → Option ℕ
own_rest false xs = None
own_rest true xs = slice_get xs (length xs - 1)

-- a proc as a procedure; one that is lifted has all that is added among its parameters
abbrev pub procedure_of : Option ProcTree → Option (Procedure Code)
procedure_of None = None
procedure_of (Some q) = Some (record {
  place = q.place;
  formals = own_formals q.rest q.params;
  rest = own_rest q.rest q.params;
  added = [];
  captured = q.captured;
  body = InBlock q.body;
})

-- the body of a top-level form; the procs of forms have no lambda expression and stand first
abbrev pub form_of : Option ProcTree → Option Code
form_of None = None
form_of (Some q) = form_body q.lambda q.body
  where
    form_body : Option ℕ → Block → Option Code
    form_body None b = Some (InBlock b)
    form_body (Some l) b = None

abbrev pub language : AnfTree → Language Code AnfWork
language p =
    let captured = λ (l : ℕ). captured_by (proc_of p.procs l) in
    record {
      procedure = λ l. procedure_of (proc_of p.procs l);
      form = λ k. form_of (slice_get p.procs k);
      free = free_code captured;
      evaluate = evaluate captured;
      give = give captured;
      values = work_values;
    }

-- the machine of a program in A-normal form, with the input
abbrev pub anf_machine : AnfTree → List ℕ → Machine Event AnfState
anf_machine p input = machine_of (language p) p.globals p.statics input
