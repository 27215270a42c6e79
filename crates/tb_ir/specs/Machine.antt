-- The machine of values: what the programs of the languages here mean. Its rules are those of the reference
-- machine, but variables hold values, and a variable that is assigned is a cell. It knows of a language how its
-- codes are evaluated and what they name, what a frame of its own does with a value, and its procedures and
-- top-level forms; the rest stands here once for all of them. No code runs it; contracts cite it.
use Rattle.std.specs.Prelude.{ℕ, suc, Bool, true, false, cond, ◌==◌, nat_le, List, [], ◌∷◌, ◌++◌, map, length, take, drop, replicate, Option, Some, None, slice_get, slice_set}
use Rattle.tb_prim.specs.declared.place.Place.{Place}
use Rattle.tb_prim.specs.declared.constant.Static.{Static}
use Rattle.tb_prim.specs.declared.constant.GlobalName.{GlobalName}
use Rattle.tb_prim.specs.declared.event.Cause.{Cause}
use Rattle.tb_prim.specs.declared.event.Taken.{Taken}
use Rattle.tb_prim.specs.declared.event.Event.{Event}
use Rattle.tb_prim.specs.declared.primitive.Primitive.{Primitive}
use Rattle.tb_semantics.specs.Runs.{Machine}
use Rattle.tb_core.specs.Store.{Value, Char, Unspecified, Undefined, EndObject, At, Object, Content, Holds, Procedure as ProcedureThere, Other, static_object}
use Rattle.tb_core.specs.Effects.{Effect, Gives, Makes, Changes, Puts, Takes, Peeks, Fails, Misused, effect_of}
use Rattle.tb_core.specs.Lists.{Walked, Elements, TooLong, NoList, walked, list_objects, list_value}

-- variables with the values that they hold, the newest first
pub data Env : Type 0 where
  Empty : Env
  Bind : ℕ → Value → Env → Env

-- an item: a cell with what it holds, an object, or a procedure with the variables that it captures
pub data Item : Type 0 where
  Cell : Value → Item
  Obj : Object → Item
  Clo : ℕ → Env → Item

-- what the items of a store are to the primitives
abbrev pub content_of : Option Item → Content
content_of None = Other
content_of (Some (Cell v)) = Other
content_of (Some (Obj o)) = Holds o
content_of (Some (Clo m r)) = ProcedureThere

abbrev pub contents : List Item → ℕ → Content
contents st l = content_of (slice_get st l)

abbrev pub lookup : Env → ℕ → Option Value
lookup Empty x = None
lookup (Bind y v r) x = cond (y == x) (Some v) (lookup r x)

abbrev pub bind_found : ℕ → Option Value → Env → Env
bind_found x None r = r
bind_found x (Some v) r = Bind x v r

-- an environment cut to the variables of a list, in the order of the list
abbrev pub gather : List ℕ → Env → Env
gather [] r = Empty
gather (x ∷ xs) r = bind_found x (lookup r x) (gather xs r)

-- the variables hold the values
abbrev pub bind_all : List ℕ → List Value → Env → Env
bind_all (x ∷ xs) (v ∷ vs) r = Bind x v (bind_all xs vs r)
bind_all _ _ r = r

-- the variables hold locations that follow one another
abbrev pub bind_located : List ℕ → ℕ → Env → Env
bind_located [] l r = r
bind_located (x ∷ xs) l r = Bind x (At l) (bind_located xs (suc l) r)

-- what is entered: the procedure at a location, or a lambda expression that is lifted, by its number
pub data Callee : Type 0 where
  Closure : ℕ → Callee
  Lifted : ℕ → Callee

-- what is done next, with the codes C of a language: a code is evaluated, or one whose environment is not cut
-- yet; a value is given to the frame on top; or a procedure is entered with its operands
pub data Control (C : Type 0) : Type 0 where
  Eval : C → Env → Control C
  Bound : C → Env → Control C
  Val : Value → Control C
  Entering : Callee → List Value → Control C

-- what waits for a value: the top level, with the number of the next form, or what the language has besides
pub data Work (W : Type 0) : Type 0 where
  Top : ℕ → Work W
  Own : W → Work W

-- a frame; it is marked while a procedure that was called above it has not given its value back
pub record Frame (W : Type 0) : Type 0 where
  pub marked : Bool
  pub work : Work W

-- a configuration: the control, the frames with the newest first, the globals, the store, the rest of the
-- input, and whether its end was met
pub record Config (C W : Type 0) : Type 0 where
  pub control : Control C
  pub frames : List (Frame W)
  pub globals : List Value
  pub store : List Item
  pub input : List ℕ
  pub met_end : Bool

-- a run: it goes on, or it has stopped after End or Fail, with the events so far. `Lost` is a configuration
-- without a next step, to which no program comes that keeps the rules of its type.
pub data State (C W : Type 0) : Type 0 where
  Running : Config C W → List Event → State C W
  Stopped : Config C W → List Event → State C W
  Lost : Config C W → List Event → State C W

-- a procedure: the place of its lambda expression, its own parameters with the rest parameter apart, the
-- variables that are added to them where it is lifted, those that its closures capture, and its body
pub record Procedure (C : Type 0) : Type 0 where
  pub place : Place
  pub formals : List ℕ
  pub rest : Option ℕ
  pub added : List ℕ
  pub captured : List ℕ
  pub body : C

-- a language with its program: its procedures and forms by their numbers, what a code names, how a code is
-- evaluated, what a frame of its own does with a value above the frames below it, and the values of such a frame
pub record Language (C W : Type 0) : Type 0 where
  pub procedure : ℕ → Option (Procedure C)
  pub form : ℕ → Option C
  pub free : C → List ℕ
  pub evaluate : Config C W → C → Env → List Event → State C W
  pub give : Config C W → Value → W → List (Frame W) → List Event → State C W
  pub values : W → List Value

-- the step goes on to a control above these frames, without an event or with one
abbrev pub go : {C W : Type 0} → Config C W → Control C → List (Frame W) → List Event → State C W
go c control fs es = Running (record c { control = control; frames = fs }) es

abbrev pub go_with : {C W : Type 0} → Config C W → Control C → List (Frame W) → List Item → List Event → State C W
go_with c control fs st es = Running (record c { control = control; frames = fs; store = st }) es

abbrev pub emit : List Event → Event → List Event
emit es e = es ++ e ∷ []

-- a step that fails leaves the configuration as it was, and is the last
abbrev pub fail : {C W : Type 0} → Config C W → Cause → Place → List Event → State C W
fail c cause p es = Stopped c (emit es (Event.Fail cause p))

-- a frame that is not marked
abbrev pub push : {W : Type 0} → W → List (Frame W) → List (Frame W)
push w fs = record { marked = false; work = Own w } ∷ fs

-- the frame on top is marked
abbrev pub mark_top : {W : Type 0} → List (Frame W) → List (Frame W)
mark_top [] = []
mark_top (f ∷ fs) = record f { marked = true } ∷ fs

-- a value that is read, where the mark of a variable without a value fails
abbrev pub read_value : {C W : Type 0} → Config C W → Place → Option Value → List Event → State C W
read_value c p None es = Lost c es
read_value c p (Some Undefined) es = fail c Cause.Undefined p es
read_value c p (Some v) es = go c (Val v) c.frames es

-- a value that is there already
abbrev pub give_value : {C W : Type 0} → Config C W → Option Value → List Event → State C W
give_value c None es = Lost c es
give_value c (Some v) es = go c (Val v) c.frames es

-- a procedure is made, with the variables that it captures
abbrev pub make_closure : {C W : Type 0} → Config C W → ℕ → List ℕ → Env → List Event → State C W
make_closure c l captured r es = go_with c (Val (At (length c.store))) c.frames
    (c.store ++ Clo l (gather captured r) ∷ []) es

-- procedures in whose environment all of them are bound
abbrev pub closures : (ℕ → List ℕ) → List ℕ → Env → List Item
closures captured [] r = []
closures captured (l ∷ ls) r = Clo l (gather (captured l) r) ∷ closures captured ls r

-- procedures that name one another, and what comes after them, whose environment is not cut for one step
abbrev pub make_closures : {C W : Type 0} → (ℕ → List ℕ) → Config C W → List ℕ → List ℕ → C → Env → List Event →
    State C W
make_closures captured c xs ls e r es =
    let q = bind_located xs (length c.store) r in
    go_with c (Bound e q) c.frames (c.store ++ closures captured ls q) es

-- a cell is made, read and set
abbrev pub new_cell : {C W : Type 0} → Config C W → Value → List (Frame W) → List Event → State C W
new_cell c v fs es = go_with c (Val (At (length c.store))) fs (c.store ++ Cell v ∷ []) es

abbrev pub get_held : {C W : Type 0} → Config C W → Place → Option Item → List (Frame W) → List Event → State C W
get_held c p (Some (Cell Undefined)) fs es = fail c Cause.Undefined p es
get_held c p (Some (Cell v)) fs es = go c (Val v) fs es
get_held c p _ fs es = Lost c es

abbrev pub get_cell : {C W : Type 0} → Config C W → Place → Value → List (Frame W) → List Event → State C W
get_cell c p (At l) fs es = get_held c p (slice_get c.store l) fs es
get_cell c p _ fs es = Lost c es

abbrev pub set_held : {C W : Type 0} → Config C W → ℕ → Option Item → Value → List (Frame W) → List Event → State C W
set_held c l (Some (Cell u)) v fs es = go_with c (Val Unspecified) fs (slice_set c.store l (Cell v)) es
set_held c l _ v fs es = Lost c es

abbrev pub set_cell : {C W : Type 0} → Config C W → Value → Value → List (Frame W) → List Event → State C W
set_cell c (At l) v fs es = set_held c l (slice_get c.store l) v fs es
set_cell c _ v fs es = Lost c es

-- a call enters the procedure: the frame on top is marked
abbrev pub enter_at : {C W : Type 0} → Config C W → Place → ℕ → Option Item → List Value → List (Frame W) →
    List Event → State C W
enter_at c p l (Some (Clo m r)) vs fs es = go c (Entering (Closure l) vs) (mark_top fs) (emit es (Event.Enter m))
enter_at c p l _ vs fs es = fail c Cause.NotProcedure p es

abbrev pub enter : {C W : Type 0} → Config C W → Place → Value → List Value → List (Frame W) → List Event → State C W
enter c p (At l) vs fs es = enter_at c p l (slice_get c.store l) vs fs es
enter c p _ vs fs es = fail c Cause.NotProcedure p es

-- a lambda expression that is lifted is entered without a procedure
abbrev pub enter_lifted : {C W : Type 0} → Config C W → ℕ → List Value → List (Frame W) → List Event → State C W
enter_lifted c m vs fs es = go c (Entering (Lifted m) vs) (mark_top fs) (emit es (Event.Enter m))

-- an `apply`: the operator first, then the walk of the list, each failure at the place of the `apply`
abbrev pub apply_to : {C W : Type 0} → Config C W → Place → ℕ → ℕ → Walked → List (Frame W) → List Event → State C W
apply_to c p l m (Elements vs) fs es = go c (Entering (Closure l) vs) (mark_top fs) (emit es (Event.Enter m))
apply_to c p l m TooLong fs es = fail c Cause.TooMany p es
apply_to c p l m NoList fs es = fail c Cause.WrongType p es

abbrev pub apply_at : {C W : Type 0} → Config C W → Place → ℕ → Option Item → Value → List (Frame W) → List Event →
    State C W
apply_at c p l (Some (Clo m r)) v fs es = apply_to c p l m (walked (contents c.store) 12 v) fs es
apply_at c p l _ v fs es = fail c Cause.NotProcedure p es

abbrev pub apply : {C W : Type 0} → Config C W → Place → Value → Value → List (Frame W) → List Event → State C W
apply c p (At l) v fs es = apply_at c p l (slice_get c.store l) v fs es
apply c p _ v fs es = fail c Cause.NotProcedure p es

-- the next byte of the input, or its end; after the end was met once, every later answer is the end
abbrev pub take_input : {C W : Type 0} → Config C W → Bool → List ℕ → List (Frame W) → List Event → State C W
take_input c true bs fs es = go c (Val EndObject) fs (emit es (Event.Took Taken.End))
take_input c false [] fs es = go (record c { met_end = true }) (Val EndObject) fs (emit es (Event.Took Taken.End))
take_input c false (b ∷ bs) fs es = go (record c { input = bs }) (Val (Char b)) fs (emit es (Event.Took (Taken.Byte b)))

abbrev pub peek_input : {C W : Type 0} → Config C W → Bool → List ℕ → List (Frame W) → List Event → State C W
peek_input c true bs fs es = go c (Val EndObject) fs es
peek_input c false [] fs es = go (record c { met_end = true }) (Val EndObject) fs es
peek_input c false (b ∷ bs) fs es = go c (Val (Char b)) fs es

-- what a primitive does, carried out
abbrev pub perform : {C W : Type 0} → Config C W → Place → Effect → List (Frame W) → List Event → State C W
perform c p (Gives v) fs es = go c (Val v) fs es
perform c p (Makes o) fs es = go_with c (Val (At (length c.store))) fs (c.store ++ Obj o ∷ []) es
perform c p (Changes l o) fs es = go_with c (Val Unspecified) fs (slice_set c.store l (Obj o)) es
perform c p (Puts ch) fs es = go c (Val Unspecified) fs (emit es (Event.Put ch))
perform c p Takes fs es = take_input c c.met_end c.input fs es
perform c p Peeks fs es = peek_input c c.met_end c.input fs es
perform c p (Fails cause) fs es = fail c cause p es
perform c p Misused fs es = Lost c es

abbrev pub use_primitive : {C W : Type 0} → Config C W → Place → Primitive → List Value → List (Frame W) →
    List Event → State C W
use_primitive c p q vs fs es = perform c p (effect_of (contents c.store) q vs) fs es

-- the assignment of a global; `set!` fails where the global has no value yet, a definition never
abbrev pub assign_global : {C W : Type 0} → Config C W → ℕ → Value → List (Frame W) → List Event → State C W
assign_global c g v fs es = go (record c { globals = slice_set c.globals g v }) (Val Unspecified) fs es

abbrev pub set_held_global : {C W : Type 0} → Config C W → ℕ → Place → Value → Option Value → List (Frame W) →
    List Event → State C W
set_held_global c g p v None fs es = Lost c es
set_held_global c g p v (Some Undefined) fs es = fail c Cause.Undefined p es
set_held_global c g p v (Some w) fs es = assign_global c g v fs es

abbrev pub set_global : {C W : Type 0} → Config C W → ℕ → Place → Value → List (Frame W) → List Event → State C W
set_global c g p v fs es = set_held_global c g p v (slice_get c.globals g) fs es

-- evaluate, with the environment cut to the code
abbrev pub eval : {C W : Type 0} → Language C W → C → Env → Control C
eval x e r = Eval e (gather (x.free e) r)

-- whether a procedure takes this many operands
abbrev pub takes : ℕ → Option ℕ → ℕ → Bool
takes formals None n = formals == n
takes formals (Some y) n = nat_le formals n

-- the body is evaluated with the parameters, and the list of the rest parameter
abbrev pub bind_parameters : {C W : Type 0} → Language C W → Config C W → Procedure C → Option ℕ → List Value → Env →
    List Event → State C W
bind_parameters x c q None vs r es = go c (eval x q.body (bind_all q.formals vs r)) c.frames es
bind_parameters x c q (Some y) vs r es =
    let k = length q.formals in
    let ws = take k vs ++ list_value (drop k vs) (length c.store) ∷ [] in
    go_with c (eval x q.body (bind_all (q.formals ++ y ∷ []) ws r)) c.frames
    (c.store ++ map Obj (list_objects (drop k vs) (length c.store))) es

abbrev pub enter_body : {C W : Type 0} → Language C W → Config C W → Option (Procedure C) → List Value → Env →
    List Event → State C W
enter_body x c None vs r es = Lost c es
enter_body x c (Some q) vs r es =
    cond (takes (length q.formals) q.rest (length vs)) (bind_parameters x c q q.rest vs r es)
    (fail c Cause.WrongArgs q.place es)

-- the body of a lambda expression that is lifted runs with its parameters and the variables added to them
abbrev pub enter_lifted_body : {C W : Type 0} → Language C W → Config C W → Option (Procedure C) → List Value →
    List Event → State C W
enter_lifted_body x c None vs es = Lost c es
enter_lifted_body x c (Some q) vs es =
    cond (length (q.formals ++ q.added) == length vs)
    (go c (eval x q.body (bind_all (q.formals ++ q.added) vs Empty)) c.frames es)
    (fail c Cause.WrongArgs q.place es)

abbrev pub enter_item : {C W : Type 0} → Language C W → Config C W → Option Item → List Value → List Event → State C W
enter_item x c (Some (Clo m r)) vs es = enter_body x c (x.procedure m) vs r es
enter_item x c _ vs es = Lost c es

abbrev pub entering : {C W : Type 0} → Language C W → Config C W → Callee → List Value → List Event → State C W
entering x c (Closure l) vs es = enter_item x c (slice_get c.store l) vs es
entering x c (Lifted m) vs es = enter_lifted_body x c (x.procedure m) vs es

-- the next top-level form, or the end
abbrev pub top : {C W : Type 0} → Language C W → Config C W → ℕ → Option C → List (Frame W) → List Event → State C W
top x c k None fs es = Stopped c (emit es Event.End)
top x c k (Some e) fs es = go c (eval x e Empty) (record { marked = false; work = Top (suc k) } ∷ fs) es

-- what an unmarked frame does with a value, above the frames below it
abbrev pub give : {C W : Type 0} → Language C W → Config C W → Value → Work W → List (Frame W) → List Event → State C W
give x c v (Top k) fs es = top x c k (x.form k) fs es
give x c v (Own w) fs es = x.give c v w fs es

-- a value goes to the frame on top; one that is marked is unmarked first, and its procedure has come back
abbrev pub give_top : {C W : Type 0} → Language C W → Config C W → Value → List (Frame W) → List Event → State C W
give_top x c v [] es = Lost c es
give_top x c v (f ∷ fs) es =
    cond f.marked (go c (Val v) (record f { marked = false } ∷ fs) (emit es Event.Back)) (give x c v f.work fs es)

abbrev pub step_control : {C W : Type 0} → Language C W → Config C W → Control C → List Event → State C W
step_control x c (Eval e r) es = x.evaluate c e r es
step_control x c (Bound e r) es = go c (eval x e r) c.frames es
step_control x c (Val v) es = give_top x c v c.frames es
step_control x c (Entering callee vs) es = entering x c callee vs es

-- one step; a run that has stopped stands still
abbrev pub step : {C W : Type 0} → Language C W → State C W → State C W
step x (Running c es) = step_control x c c.control es
step x (Stopped c es) = Stopped c es
step x (Lost c es) = Lost c es

-- the events so far
abbrev pub events_of : {C W : Type 0} → State C W → List Event
events_of (Running c es) = es
events_of (Stopped c es) = es
events_of (Lost c es) = es

-- the configuration that a run has come to
abbrev pub config_of : {C W : Type 0} → State C W → Config C W
config_of (Running c es) = c
config_of (Stopped c es) = c
config_of (Lost c es) = c

-- the item of a static object
abbrev pub static_item : Static → Item
static_item s = Obj (static_object s)

abbrev pub start_of : {C W : Type 0} → List GlobalName → List Static → List ℕ → Config C W
start_of globals statics input = record {
  control = Val Unspecified;
  frames = record { marked = false; work = Top 0 } ∷ [];
  globals = replicate (length globals) Undefined;
  store = map static_item statics;
  input = input;
  met_end = false;
}

-- the machine of a program in a language, with these globals and static objects, and the input
abbrev pub machine_of : {C W : Type 0} → Language C W → List GlobalName → List Static → List ℕ →
    Machine Event (State C W)
machine_of x globals statics input =
    record { start = Running (start_of globals statics input) []; step = step x; events = events_of }
