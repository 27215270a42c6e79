-- What a step of the reference machine emits, by cases of the step.
use Rattle.std.proofs.Common.{◌≡◌, refl, sym, ℕ, zero, suc, arith, Bool, true, false, cond, List, [], ◌∷◌, ◌++◌, Option, Some, None, append-nil}
use Rattle.tb_prim.specs.declared.place.Place.{Place}
use Rattle.tb_prim.specs.declared.event.Event.{Event}
use Rattle.tb_semantics.specs.Runs.{Appends, EmitsInOrder, run, after}
use Rattle.tb_core.specs.Tree.{Tree, Node, Form, Quote, Local, Global, Lambda, If, SetLocal, SetGlobal, DefGlobal, Let, Letrec, Seq, Call, PrimUse, Apply, Trees, none, more, LambdaTree, ProgramTree}
use Rattle.tb_core.specs.OperandOrder.{Line}
use Rattle.tb_core.specs.Store.{Value, Undefined, At, Env, Item, Clo, lookup}
use Rattle.tb_core.specs.Effects.{Effect, Gives, Makes, Changes, Puts, Takes, Peeks, Fails, Misused}
use Rattle.tb_core.specs.Lists.{Walked, Elements, TooLong, NoList}
use Rattle.tb_core.specs.Reference
use Rattle.tb_core.specs.Reference.{Control, Eval, Bound, Val, Entering, Work, Sel, SetVar, SetGlo, Rest, Args, Top, Frame, Config, State, Running, Stopped, Lost, Context, events_of, reference}
use Rattle.tb_core.specs.Events.{is_last, NoneLast, EndsLast}

-- the state after a step from a configuration with these events
pub data Stepped (es : List Event) : State → Type 0 where
  quiet : {c : Config} → Stepped es (Running c es)
  emits : {c : Config} (e : Event) → is_last e ≡ false → Stepped es (Running c (es ++ e ∷ []))
  stops : {c : Config} (e : Event) → is_last e ≡ true → Stepped es (Stopped c (es ++ e ∷ []))
  lost : {c : Config} → Stepped es (Lost c es)

read_value : (c : Config) (p : Place) (v : Option Value) (es : List Event) → Stepped es (Reference.read_value c p v es)
read_value c p None es = lost
read_value c p (Some Undefined) es = stops _ refl
read_value c p (Some v) es = quiet

sequence : (x : Context) (c : Config) (ds : Trees) (r : Env) (fs : List Frame) (es : List Event) → Stepped es (Reference.sequence x c ds r fs es)
sequence x c none r fs es = lost
sequence x c (more e none) r fs es = quiet
sequence x c (more e (more d ds)) r fs es = quiet

enter_at : (c : Config) (p : Place) (l : ℕ) (i : Option Item) (vs : List Value) (fs : List Frame) (es : List Event) → Stepped es (Reference.enter_at c p l i vs fs es)
enter_at c p l (Some (Clo m r)) vs fs es = emits _ refl
enter_at c p l _ vs fs es = stops _ refl

enter : (c : Config) (p : Place) (v : Value) (vs : List Value) (fs : List Frame) (es : List Event) → Stepped es (Reference.enter c p v vs fs es)
enter c p (At l) vs fs es = enter_at c p l _ vs fs es
enter c p _ vs fs es = stops _ refl

apply_to : (c : Config) (p : Place) (l m : ℕ) (w : Walked) (fs : List Frame) (es : List Event) → Stepped es (Reference.apply_to c p l m w fs es)
apply_to c p l m (Elements vs) fs es = emits _ refl
apply_to c p l m TooLong fs es = stops _ refl
apply_to c p l m NoList fs es = stops _ refl

apply_at : (c : Config) (p : Place) (l : ℕ) (i : Option Item) (v : Value) (fs : List Frame) (es : List Event) → Stepped es (Reference.apply_at c p l i v fs es)
apply_at c p l (Some (Clo m r)) v fs es = apply_to c p l m _ fs es
apply_at c p l _ v fs es = stops _ refl

apply : (c : Config) (p : Place) (v w : Value) (fs : List Frame) (es : List Event) → Stepped es (Reference.apply c p v w fs es)
apply c p (At l) w fs es = apply_at c p l _ w fs es
apply c p _ w fs es = stops _ refl

take_input : (c : Config) (met : Bool) (bs : List ℕ) (fs : List Frame) (es : List Event) → Stepped es (Reference.take_input c met bs fs es)
take_input c true bs fs es = emits _ refl
take_input c false [] fs es = emits _ refl
take_input c false (b ∷ bs) fs es = emits _ refl

peek_input : (c : Config) (met : Bool) (bs : List ℕ) (fs : List Frame) (es : List Event) → Stepped es (Reference.peek_input c met bs fs es)
peek_input c true bs fs es = quiet
peek_input c false [] fs es = quiet
peek_input c false (b ∷ bs) fs es = quiet

perform : (c : Config) (p : Place) (f : Effect) (fs : List Frame) (es : List Event) → Stepped es (Reference.perform c p f fs es)
perform c p (Gives v) fs es = quiet
perform c p (Makes i) fs es = quiet
perform c p (Changes l i) fs es = quiet
perform c p (Puts ch) fs es = emits _ refl
perform c p Takes fs es = take_input c _ _ fs es
perform c p Peeks fs es = peek_input c _ _ fs es
perform c p (Fails cause) fs es = stops _ refl
perform c p Misused fs es = lost

complete : (x : Context) (c : Config) (p : Place) (f : Form) (vs : List Value) (r : Env) (fs : List Frame) (es : List Event) → Stepped es (Reference.complete x c p f vs r fs es)
complete x c p (Call f ds) (v ∷ vs) r fs es = enter c p v vs fs es
complete x c p (Apply f l) (v ∷ w ∷ []) r fs es = apply c p v w fs es
complete x c p (PrimUse pr ds) vs r fs es = perform c p _ fs es
complete x c p (Let xs ds e) vs r fs es = quiet
complete x c p _ vs r fs es = lost

operand : (x : Context) (c : Config) (p : Place) (s : ℕ) (f : Form) (vs : List Value) (r : Env) (ns : List ℕ) (e : Option Tree) (fs : List Frame) (es : List Event) → Stepped es (Reference.operand x c p s f vs r ns e fs es)
operand x c p s f vs r ns None fs es = lost
operand x c p s f vs r ns (Some e) fs es = quiet

operands_left : (x : Context) (c : Config) (p : Place) (s : ℕ) (f : Form) (vs : List Value) (r : Env) (ns : List ℕ) (fs : List Frame) (es : List Event) → Stepped es (Reference.operands_left x c p s f vs r ns fs es)
operands_left x c p s f vs r [] fs es = complete x c p f _ r fs es
operands_left x c p s f vs r (n ∷ ns) fs es = operand x c p s f vs r ns _ fs es

set_local : (x : Context) (c : Config) (l : Option ℕ) (e : Tree) (r : Env) (es : List Event) → Stepped es (Reference.set_local x c l e r es)
set_local x c None e r es = lost
set_local x c (Some l) e r es = quiet

eval_form : (x : Context) (c : Config) (p : Place) (s : ℕ) (f : Form) (r : Env) (es : List Event) → Stepped es (Reference.eval_form x c p s f r es)
eval_form x c p s (Quote k) r es = quiet
eval_form x c p s (Local y) r es = read_value c p _ es
eval_form x c p s (Global g) r es = read_value c p _ es
eval_form x c p s (Lambda l) r es = quiet
eval_form x c p s (If a b d) r es = quiet
eval_form x c p s (SetLocal y e) r es = set_local x c (lookup r y) e r es
eval_form x c p s (SetGlobal g e) r es = quiet
eval_form x c p s (DefGlobal g e) r es = quiet
eval_form x c p s (Seq ds) r es = sequence x c ds r c.frames es
eval_form x c p s (Letrec xs ls e) r es = quiet
eval_form x c p s (Call f ds) r es = operands_left x c p s (Call f ds) [] r _ c.frames es
eval_form x c p s (PrimUse pr ds) r es = operands_left x c p s (PrimUse pr ds) [] r _ c.frames es
eval_form x c p s (Apply f l) r es = operands_left x c p s (Apply f l) [] r _ c.frames es
eval_form x c p s (Let xs ds e) r es = operands_left x c p s (Let xs ds e) [] r _ c.frames es

bind_parameters : (x : Context) (c : Config) (l : LambdaTree) (y : Option ℕ) (vs : List Value) (r : Env) (es : List Event) → Stepped es (Reference.bind_parameters x c l y vs r es)
bind_parameters x c l None vs r es = quiet
bind_parameters x c l (Some y) vs r es = quiet

either : (es : List Event) (b : Bool) (s t : State) → Stepped es s → Stepped es t → Stepped es (cond b s t)
either es true s t p q = p
either es false s t p q = q

enter_lambda : (x : Context) (c : Config) (l : Option LambdaTree) (vs : List Value) (r : Env) (es : List Event) → Stepped es (Reference.enter_lambda x c l vs r es)
enter_lambda x c None vs r es = lost
enter_lambda x c (Some l) vs r es = either es _ _ _ (bind_parameters x c l l.rest vs r es) (stops _ refl)

entering : (x : Context) (c : Config) (i : Option Item) (vs : List Value) (es : List Event) → Stepped es (Reference.entering x c i vs es)
entering x c (Some (Clo m r)) vs es = enter_lambda x c _ vs r es
entering x c _ vs es = lost

set_global : (c : Config) (g : ℕ) (p : Place) (v : Value) (w : Option Value) (fs : List Frame) (es : List Event) → Stepped es (Reference.set_global c g p v w fs es)
set_global c g p v None fs es = lost
set_global c g p v (Some Undefined) fs es = stops _ refl
set_global c g p v (Some w) fs es = quiet

top : (x : Context) (c : Config) (k : ℕ) (e : Option Tree) (fs : List Frame) (es : List Event) → Stepped es (Reference.top x c k e fs es)
top x c k None fs es = stops _ refl
top x c k (Some e) fs es = quiet

give : (x : Context) (c : Config) (v : Value) (w : Work) (fs : List Frame) (es : List Event) → Stepped es (Reference.give x c v w fs es)
give x c v (Sel a b r) fs es = either es _ _ _ quiet quiet
give x c v (SetVar l) fs es = quiet
give x c v (SetGlo g true p) fs es = quiet
give x c v (SetGlo g false p) fs es = set_global c g p v _ fs es
give x c v (Rest ds r) fs es = sequence x c ds r fs es
give x c v (Args p s f vs r) fs es = operands_left x c p s f (vs ++ v ∷ []) r _ fs es
give x c v (Top k) fs es = top x c k _ fs es

give_top : (x : Context) (c : Config) (v : Value) (fs : List Frame) (es : List Event) → Stepped es (Reference.give_top x c v fs es)
give_top x c v [] es = lost
give_top x c v (f ∷ fs) es = either es _ _ _ (emits _ refl) (give x c v f.work fs es)

-- a step from a running configuration
pub stepped : (x : Context) (c : Config) (k : Control) (es : List Event) → Stepped es (Reference.step_control x c k es)
stepped x c (Eval (Node p s f) r) es = eval_form x c p s f r es
stepped x c (Bound e r) es = quiet
stepped x c (Val v) es = give_top x c v c.frames es
stepped x c (Entering l vs) es = entering x c _ vs es

-- the same events, and one more
same : (es : List Event) → Appends es es
same es = record { added = []; appended = sym (append-nil es); few = omega arith }

one_more : (es : List Event) (e : Event) → Appends es (es ++ e ∷ [])
one_more es e = record { added = e ∷ []; appended = refl; few = omega arith }

appends : (es : List Event) (s : State) → Stepped es s → Appends es (events_of s)
appends es (Running c _) quiet = same es
appends es (Running c _) (emits e h) = one_more es e
appends es (Stopped c _) (stops e h) = one_more es e
appends es (Lost c _) lost = same es

-- the reference machine emits at most one event a step, behind those before
pub in_order : (p : ProgramTree) (order : List Line) (input : List ℕ) → EmitsInOrder (reference p order input)
in_order p order input (Running c es) = appends es _ (stepped (Reference.context_of p order) c c.control es)
in_order p order input (Stopped c es) = same es
in_order p order input (Lost c es) = same es

go_on : (es : List Event) (e : Event) → NoneLast es → is_last e ≡ false → NoneLast (es ++ e ∷ [])
go_on [] e g h = (h, tt)
go_on (d ∷ es) e g h = (g.0, go_on es e g.1 h)

ends_last_step : (es : List Event) (s : State) → NoneLast es → Stepped es s → EndsLast s
ends_last_step es (Running c _) g quiet = g
ends_last_step es (Running c _) g (emits e h) = go_on es e g h
ends_last_step es (Stopped c _) g (stops e h) = record { front = es; last = e; whole = refl; goes_on = g; stops = h }
ends_last_step es (Lost c _) g lost = g

ends_last : (x : Context) (s : State) → EndsLast s → EndsLast (Reference.step x s)
ends_last x (Running c es) g = ends_last_step es _ g (stepped x c c.control es)
ends_last x (Stopped c es) g = g
ends_last x (Lost c es) g = g

ends_last_run : (x : Context) (n : ℕ) (s : State) → EndsLast s → EndsLast (run (Reference.step x) n s)
ends_last_run x zero s g = g
ends_last_run x (suc n) s g = ends_last_run x n (Reference.step x s) (ends_last x s g)

-- along a run from the start a last event belongs to a run that has stopped, and stands last
pub ends_last_after : (p : ProgramTree) (order : List Line) (input : List ℕ) (n : ℕ) → EndsLast (after (reference p order input) n)
ends_last_after p order input n = ends_last_run (Reference.context_of p order) n (Running (Reference.start_of p input) []) tt
