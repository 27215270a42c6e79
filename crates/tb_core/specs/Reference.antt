-- The reference machine (after Clinger, "Proper Tail Recursion and Space Efficiency", 1998): what a program
-- means. It has locations, environments by name and a frame for each subexpression, and its store only grows.
-- No code runs it; contracts cite it.
use Rattle.std.specs.Prelude.{ℕ, zero, suc, ◌+◌, Bool, true, false, cond, ◌==◌, nat_le, List, [], ◌∷◌, ◌++◌, map, length, take, drop, replicate, Option, Some, None, slice_get, slice_set}
use Rattle.tb_prim.specs.declared.place.Place.{Place}
use Rattle.tb_prim.specs.declared.event.Cause.{Cause}
use Rattle.tb_prim.specs.declared.event.Taken.{Taken}
use Rattle.tb_prim.specs.declared.event.Event.{Event}
use Rattle.tb_semantics.specs.Runs.{Machine}
use Rattle.tb_core.specs.Tree.{Tree, Node, Form, Quote, Local, Global, Lambda, If, SetLocal, SetGlobal, DefGlobal, Let, Letrec, Seq, Call, PrimUse, Apply, Trees, none, more, tree_at, LambdaTree, ProgramTree}
use Rattle.tb_core.specs.FreeVariables.{free, free_form, free_all, inner_free}
use Rattle.tb_core.specs.OperandOrder.{operands, Line, line_at}
use Rattle.tb_core.specs.Store.{Value, Char, Unspecified, Undefined, EndObject, At, Env, Empty, Item, Var, Obj, Clo, contents, lookup, cut, bind_from, value_of, static_item}
use Rattle.tb_core.specs.Effects.{Effect, Gives, Makes, Changes, Puts, Takes, Peeks, Fails, Misused, is_false, effect_of}
use Rattle.tb_core.specs.Lists.{Walked, Elements, TooLong, NoList, walked, list_objects, list_value}

-- what is done next: an expression is evaluated, or one whose environment is not cut yet; a value is given
-- to the frame on top; or a procedure, known by its location, is entered with its operands
pub data Control : Type 0 where
  Eval : Tree → Env → Control
  Bound : Tree → Env → Control
  Val : Value → Control
  Entering : ℕ → List Value → Control

-- what waits for a value: the arms of an `if`; a variable or a global that is assigned (a global also by
-- its definition), with the place; the rest of a sequence; a node with operands that are being evaluated,
-- with the values so far in the order of its line; and the top level, with the number of the next form
pub data Work : Type 0 where
  Sel : Tree → Tree → Env → Work
  SetVar : ℕ → Work
  SetGlo : ℕ → Bool → Place → Work
  Rest : Trees → Env → Work
  Args : Place → ℕ → Form → List Value → Env → Work
  Top : ℕ → Work

-- a frame; it is marked while a procedure that was called above it has not given its value back
pub record Frame : Type 0 where
  pub marked : Bool
  pub work : Work

-- a configuration: the control, the frames with the newest first, the globals, the store, the rest of the
-- input, and whether its end was met
pub record Config : Type 0 where
  pub control : Control
  pub frames : List Frame
  pub globals : List Value
  pub store : List Item
  pub input : List ℕ
  pub met_end : Bool

-- a run: it goes on, or it has stopped after End or Fail, with the events so far. `Lost` is a configuration
-- without a next step, to which no program comes that keeps the rules of its type.
pub data State : Type 0 where
  Running : Config → List Event → State
  Stopped : Config → List Event → State
  Lost : Config → List Event → State

-- what a step needs of the program: its lambda expressions, its forms, their free variables and the order
pub record Context : Type 0 where
  pub lambdas : List LambdaTree
  pub forms : Trees
  pub inner : ℕ → List ℕ
  pub order : ℕ → List ℕ

-- the step goes on to a control above these frames, without an event or with one
abbrev pub go : Config → Control → List Frame → List Event → State
go c control fs es = Running (record c { control = control; frames = fs }) es

abbrev pub go_with : Config → Control → List Frame → List Item → List Event → State
go_with c control fs st es = Running (record c { control = control; frames = fs; store = st }) es

abbrev pub emit : List Event → Event → List Event
emit es e = es ++ e ∷ []

-- a step that fails leaves the configuration as it was, and is the last
abbrev pub fail : Config → Cause → Place → List Event → State
fail c cause p es = Stopped c (emit es (Event.Fail cause p))

-- a frame that is not marked
abbrev pub push : Work → List Frame → List Frame
push w fs = record { marked = false; work = w } ∷ fs

-- the frame on top is marked
abbrev pub mark_top : List Frame → List Frame
mark_top [] = []
mark_top (f ∷ fs) = record f { marked = true } ∷ fs

-- evaluate, with the environment cut to the expression
abbrev pub eval : Context → Tree → Env → Control
eval x e r = Eval e (cut (free x.inner e) r)

-- what a variable holds, or the failure
abbrev pub held_value : Option Item → Option Value
held_value (Some (Var v)) = Some v
held_value _ = None

abbrev pub local_value : Option ℕ → List Item → Option Value
local_value None st = None
local_value (Some l) st = held_value (slice_get st l)

abbrev pub read_value : Config → Place → Option Value → List Event → State
read_value c p None es = Lost c es
read_value c p (Some Undefined) es = fail c Cause.Undefined p es
read_value c p (Some v) es = go c (Val v) c.frames es

-- the procedures of a `letrec`, each with the environment in which all its variables are bound
abbrev pub closures : Context → List ℕ → Env → List Item
closures x [] r = []
closures x (l ∷ ls) r = Clo l (cut (x.inner l) r) ∷ closures x ls r

-- variables that hold locations which follow one another
abbrev pub located : List ℕ → ℕ → List Item
located [] l = []
located (x ∷ xs) l = Var (At l) ∷ located xs (suc l)

abbrev pub vars : List Value → List Item
vars vs = map Var vs

-- a sequence: its first expression, above a frame for the rest where more than one is left
abbrev pub sequence : Context → Config → Trees → Env → List Frame → List Event → State
sequence x c none r fs es = Lost c es
sequence x c (more e none) r fs es = go c (eval x e r) fs es
sequence x c (more e (more d ds)) r fs es = go c (eval x e r) (push (Rest (more d ds) (cut (free_all x.inner (more d ds)) r)) fs) es

-- the free variables of the operands of these numbers
abbrev pub free_of_tree : Context → Option Tree → List ℕ
free_of_tree x None = []
free_of_tree x (Some e) = free x.inner e

abbrev pub free_of_numbers : Context → Trees → List ℕ → List ℕ
free_of_numbers x es [] = []
free_of_numbers x es (n ∷ ns) = free_of_tree x (tree_at es n) ++ free_of_numbers x es ns

-- the free variables of the body of a `let`
abbrev pub free_of_body : Context → Form → List ℕ
free_of_body x (Let xs es e) = free x.inner e
free_of_body x _ = []

-- the value of the operand of a number, where the values stand in the order of the line
abbrev pub value_for : ℕ → List ℕ → List Value → Option Value
value_for i [] vs = None
value_for i (n ∷ ns) [] = None
value_for i (n ∷ ns) (v ∷ vs) = cond (n == i) (Some v) (value_for i ns vs)

abbrev pub prepend : Option Value → List Value → List Value
prepend None vs = vs
prepend (Some v) vs = v ∷ vs

-- the values of so many operands by their numbers, from number i on
abbrev pub arranged : ℕ → ℕ → List ℕ → List Value → List Value
arranged i zero line vs = []
arranged i (suc k) line vs = prepend (value_for i line vs) (arranged (suc i) k line vs)

-- a call enters the procedure: the frame on top is marked
abbrev pub enter_at : Config → Place → ℕ → Option Item → List Value → List Frame → List Event → State
enter_at c p l (Some (Clo m r)) vs fs es = go c (Entering l vs) (mark_top fs) (emit es (Event.Enter m))
enter_at c p l _ vs fs es = fail c Cause.NotProcedure p es

abbrev pub enter : Config → Place → Value → List Value → List Frame → List Event → State
enter c p (At l) vs fs es = enter_at c p l (slice_get c.store l) vs fs es
enter c p _ vs fs es = fail c Cause.NotProcedure p es

-- an `apply`: the operator first, then the walk of the list, each failure at the place of the `apply`
abbrev pub apply_to : Config → Place → ℕ → ℕ → Walked → List Frame → List Event → State
apply_to c p l m (Elements vs) fs es = go c (Entering l vs) (mark_top fs) (emit es (Event.Enter m))
apply_to c p l m TooLong fs es = fail c Cause.TooMany p es
apply_to c p l m NoList fs es = fail c Cause.WrongType p es

abbrev pub apply_at : Config → Place → ℕ → Option Item → Value → List Frame → List Event → State
apply_at c p l (Some (Clo m r)) v fs es = apply_to c p l m (walked (contents c.store) 12 v) fs es
apply_at c p l _ v fs es = fail c Cause.NotProcedure p es

abbrev pub apply : Config → Place → Value → Value → List Frame → List Event → State
apply c p (At l) v fs es = apply_at c p l (slice_get c.store l) v fs es
apply c p _ v fs es = fail c Cause.NotProcedure p es

-- the next byte of the input, or its end; after the end was met once, every later answer is the end
abbrev pub take_input : Config → Bool → List ℕ → List Frame → List Event → State
take_input c true bs fs es = go c (Val EndObject) fs (emit es (Event.Took Taken.End))
take_input c false [] fs es = go (record c { met_end = true }) (Val EndObject) fs (emit es (Event.Took Taken.End))
take_input c false (b ∷ bs) fs es = go (record c { input = bs }) (Val (Char b)) fs (emit es (Event.Took (Taken.Byte b)))

abbrev pub peek_input : Config → Bool → List ℕ → List Frame → List Event → State
peek_input c true bs fs es = go c (Val EndObject) fs es
peek_input c false [] fs es = go (record c { met_end = true }) (Val EndObject) fs es
peek_input c false (b ∷ bs) fs es = go c (Val (Char b)) fs es

-- what a primitive does, carried out
abbrev pub perform : Config → Place → Effect → List Frame → List Event → State
perform c p (Gives v) fs es = go c (Val v) fs es
perform c p (Makes o) fs es = go_with c (Val (At (length c.store))) fs (c.store ++ Obj o ∷ []) es
perform c p (Changes l o) fs es = go_with c (Val Unspecified) fs (slice_set c.store l (Obj o)) es
perform c p (Puts ch) fs es = go c (Val Unspecified) fs (emit es (Event.Put ch))
perform c p Takes fs es = take_input c c.met_end c.input fs es
perform c p Peeks fs es = peek_input c c.met_end c.input fs es
perform c p (Fails cause) fs es = fail c cause p es
perform c p Misused fs es = Lost c es

-- a node whose operands have all been evaluated, with their values by number
abbrev pub complete : Context → Config → Place → Form → List Value → Env → List Frame → List Event → State
complete x c p (Call f ds) (v ∷ vs) r fs es = enter c p v vs fs es
complete x c p (Apply f l) (v ∷ w ∷ []) r fs es = apply c p v w fs es
complete x c p (PrimUse pr ds) vs r fs es = perform c p (effect_of (contents c.store) pr vs) fs es
complete x c p (Let xs ds e) vs r fs es = go_with c (eval x e (bind_from xs (length c.store) r)) fs (c.store ++ vars vs) es
complete x c p _ vs r fs es = Lost c es

-- the next operand in the order of the line: its environment is cut to it, and that of the frame to the
-- operands after it, and for a `let` to the body also
abbrev pub operand : Context → Config → Place → ℕ → Form → List Value → Env → List ℕ → Option Tree → List Frame → List Event → State
operand x c p s f vs r ns None fs es = Lost c es
operand x c p s f vs r ns (Some e) fs es =
    go c (eval x e r) (push (Args p s f vs (cut (free_of_numbers x (operands f) ns ++ free_of_body x f) r)) fs) es

-- a node with some of its operands evaluated goes on with those that are left of its line
abbrev pub operands_left : Context → Config → Place → ℕ → Form → List Value → Env → List ℕ → List Frame → List Event → State
operands_left x c p s f vs r [] fs es = complete x c p f (arranged 0 (length (x.order s)) (x.order s) vs) r fs es
operands_left x c p s f vs r (n ∷ ns) fs es = operand x c p s f vs r ns (tree_at (operands f) n) fs es

abbrev pub continue : Context → Config → Place → ℕ → Form → List Value → Env → List Frame → List Event → State
continue x c p s f vs r fs es = operands_left x c p s f vs r (drop (length vs) (x.order s)) fs es

-- the target of an assignment
abbrev pub set_local : Context → Config → Option ℕ → Tree → Env → List Event → State
set_local x c None e r es = Lost c es
set_local x c (Some l) e r es = go c (eval x e r) (push (SetVar l) c.frames) es

-- the variables and the procedures of a `letrec`, and its body, whose environment is not cut for one step
abbrev pub bind_procedures : Context → Config → List ℕ → List ℕ → Tree → Env → List Event → State
bind_procedures x c xs ls e r es =
    go_with c (Bound e r) c.frames (c.store ++ (located xs (length c.store + length xs) ++ closures x ls r)) es

-- the evaluation of each form of the core language
abbrev pub eval_form : Context → Config → Place → ℕ → Form → Env → List Event → State
eval_form x c p s (Quote k) r es = go c (Val (value_of k)) c.frames es
eval_form x c p s (Local y) r es = read_value c p (local_value (lookup r y) c.store) es
eval_form x c p s (Global g) r es = read_value c p (slice_get c.globals g) es
eval_form x c p s (Lambda l) r es = go_with c (Val (At (length c.store))) c.frames (c.store ++ Clo l (cut (x.inner l) r) ∷ []) es
eval_form x c p s (If a b d) r es = go c (eval x a r) (push (Sel b d (cut (free x.inner b ++ free x.inner d) r)) c.frames) es
eval_form x c p s (SetLocal y e) r es = set_local x c (lookup r y) e r es
eval_form x c p s (SetGlobal g e) r es = go c (eval x e r) (push (SetGlo g false p) c.frames) es
eval_form x c p s (DefGlobal g e) r es = go c (eval x e r) (push (SetGlo g true p) c.frames) es
eval_form x c p s (Seq ds) r es = sequence x c ds r c.frames es
eval_form x c p s (Letrec xs ls e) r es =
    bind_procedures x c xs ls e (bind_from xs (length c.store) (cut (free_form x.inner (Letrec xs ls e)) r)) es
eval_form x c p s (Call f ds) r es = continue x c p s (Call f ds) [] r c.frames es
eval_form x c p s (PrimUse pr ds) r es = continue x c p s (PrimUse pr ds) [] r c.frames es
eval_form x c p s (Apply f l) r es = continue x c p s (Apply f l) [] r c.frames es
eval_form x c p s (Let xs ds e) r es = continue x c p s (Let xs ds e) [] r c.frames es

-- whether a procedure takes this many operands
abbrev pub takes : LambdaTree → Option ℕ → ℕ → Bool
takes l None n = length l.formals == n
takes l (Some y) n = nat_le (length l.formals) n

-- the pairs of a new list as items
abbrev pub list_items : List Value → ℕ → List Item
list_items vs l = map Obj (list_objects vs l)

-- the body is evaluated with a new variable for each parameter, and the list of the rest parameter
abbrev pub bind_parameters : Context → Config → LambdaTree → Option ℕ → List Value → Env → List Event → State
bind_parameters x c l None vs r es =
    go_with c (eval x l.body (bind_from l.formals (length c.store) r)) c.frames (c.store ++ vars vs) es
bind_parameters x c l (Some y) vs r es =
    let k = length l.formals in
    let pairs = list_items (drop k vs) (length c.store) in
    let n = length c.store + length pairs in
    go_with c (eval x l.body (bind_from (l.formals ++ y ∷ []) n r)) c.frames
    (c.store ++ (pairs ++ vars (take k vs ++ list_value (drop k vs) (length c.store) ∷ []))) es

abbrev pub enter_lambda : Context → Config → Option LambdaTree → List Value → Env → List Event → State
enter_lambda x c None vs r es = Lost c es
enter_lambda x c (Some l) vs r es =
    cond (takes l l.rest (length vs)) (bind_parameters x c l l.rest vs r es) (fail c Cause.WrongArgs l.place es)

abbrev pub entering : Context → Config → Option Item → List Value → List Event → State
entering x c (Some (Clo m r)) vs es = enter_lambda x c (slice_get x.lambdas m) vs r es
entering x c _ vs es = Lost c es

-- the assignment of a global; `set!` fails where the global has no value yet, a definition never
abbrev pub assign_global : Config → ℕ → Value → List Frame → List Event → State
assign_global c g v fs es = go (record c { globals = slice_set c.globals g v }) (Val Unspecified) fs es

abbrev pub set_global : Config → ℕ → Place → Value → Option Value → List Frame → List Event → State
set_global c g p v None fs es = Lost c es
set_global c g p v (Some Undefined) fs es = fail c Cause.Undefined p es
set_global c g p v (Some w) fs es = assign_global c g v fs es

-- the next top-level form, or the end
abbrev pub top : Context → Config → ℕ → Option Tree → List Frame → List Event → State
top x c k None fs es = Stopped c (emit es Event.End)
top x c k (Some e) fs es = go c (eval x e Empty) (push (Top (suc k)) fs) es

-- what an unmarked frame does with a value, above the frames below it
abbrev pub give : Context → Config → Value → Work → List Frame → List Event → State
give x c v (Sel a b r) fs es = cond (is_false v) (go c (eval x b r) fs es) (go c (eval x a r) fs es)
give x c v (SetVar l) fs es = go_with c (Val Unspecified) fs (slice_set c.store l (Var v)) es
give x c v (SetGlo g true p) fs es = assign_global c g v fs es
give x c v (SetGlo g false p) fs es = set_global c g p v (slice_get c.globals g) fs es
give x c v (Rest ds r) fs es = sequence x c ds r fs es
give x c v (Args p s f vs r) fs es = continue x c p s f (vs ++ v ∷ []) r fs es
give x c v (Top k) fs es = top x c k (tree_at x.forms k) fs es

-- a value goes to the frame on top; one that is marked is unmarked first, and its procedure has come back
abbrev pub give_top : Context → Config → Value → List Frame → List Event → State
give_top x c v [] es = Lost c es
give_top x c v (f ∷ fs) es =
    cond f.marked (go c (Val v) (record f { marked = false } ∷ fs) (emit es Event.Back)) (give x c v f.work fs es)

abbrev pub step_control : Context → Config → Control → List Event → State
step_control x c (Eval (Node p s f) r) es = eval_form x c p s f r es
step_control x c (Bound e r) es = go c (eval x e r) c.frames es
step_control x c (Val v) es = give_top x c v c.frames es
step_control x c (Entering l vs) es = entering x c (slice_get c.store l) vs es

-- one step; a run that has stopped stands still
abbrev pub step : Context → State → State
step x (Running c es) = step_control x c c.control es
step x (Stopped c es) = Stopped c es
step x (Lost c es) = Lost c es

-- the events so far
abbrev pub events_of : State → List Event
events_of (Running c es) = es
events_of (Stopped c es) = es
events_of (Lost c es) = es

-- the configuration that a run has come to
abbrev pub config_of : State → Config
config_of (Running c es) = c
config_of (Stopped c es) = c
config_of (Lost c es) = c

abbrev pub context_of : ProgramTree → List Line → Context
context_of p order = record { lambdas = p.lambdas; forms = p.forms; inner = inner_free p; order = line_at order }

abbrev pub start_of : ProgramTree → List ℕ → Config
start_of p input = record {
  control = Val Unspecified;
  frames = push (Top 0) [];
  globals = replicate (length p.globals) Undefined;
  store = map static_item p.statics;
  input = input;
  met_end = false;
}

-- the reference machine of a program, with its order and the input
abbrev pub reference : ProgramTree → List Line → List ℕ → Machine Event State
reference p order input = record { start = Running (start_of p input) []; step = step (context_of p order); events = events_of }
