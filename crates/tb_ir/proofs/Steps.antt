-- What a step of the machine of values emits and makes, in any language whose own steps do so.
use Rattle.std.proofs.Common.{◌≡◌, ◌≤◌, refl, sym, ap, ℕ, zero, suc, ◌+◌, arith, Bool, true, false, cond, List, [], ◌∷◌, ◌++◌, Option, Some, None, slice_get, append-nil}
use Rattle.tb_prim.specs.declared.place.Place.{Place}
use Rattle.tb_prim.specs.declared.constant.Static.{Static}
use Rattle.tb_prim.specs.declared.constant.GlobalName.{GlobalName}
use Rattle.tb_prim.specs.declared.event.Cause.{Cause}
use Rattle.tb_prim.specs.declared.event.Event.{Event}
use Rattle.tb_prim.specs.declared.primitive.Primitive.{Primitive}
use Rattle.tb_semantics.specs.Runs.{Appends, EmitsInOrder, run}
use Rattle.tb_core.specs.Store.{Value, Undefined, At}
use Rattle.tb_core.specs.Effects.{Effect}
use Rattle.tb_core.specs.Lists.{Walked, Elements, TooLong, NoList}
use Rattle.tb_core.specs.Events.{is_last}
use Rattle.tb_core.proofs.Fits as fit
use Rattle.tb_core.proofs.Fits.{Fit, fits}
use Rattle.tb_core.proofs.Stores.{same-size}
use Rattle.tb_ir.specs.Machine as M
use Rattle.tb_ir.specs.Machine.{Env, Item, Cell, Obj, Clo, Callee, Control, Eval, Bound, Val, Entering, Work, Top, Own, Frame, Config, State, Running, Stopped, Lost, Procedure, Language, contents, go, go_with, fail, emit, events_of, config_of, machine_of}
use Rattle.tb_ir.specs.Space.{made, made_of}
use Rattle.tb_ir.proofs.Stores.{content-object, made-append, made-set}

-- the state after a step from a configuration with these events
pub data Stepped {C W : Type 0} (c : Config C W) (es : List Event) : State C W → Type 0 where
  quiet : {d : Config C W} → made c.store ≤ made d.store → Stepped c es (Running d es)
  emits : {d : Config C W} (e : Event) → is_last e ≡ false → made c.store ≤ made d.store →
      Stepped c es (Running d (es ++ e ∷ []))
  stops : (e : Event) → is_last e ≡ true → Stepped c es (Stopped c (es ++ e ∷ []))
  lost : Stepped c es (Lost c es)

module _ {C W : Type 0} (c : Config C W) where
  pub stays : (k : Control C) (fs : List (Frame W)) (es : List Event) → Stepped c es (go c k fs es)
  stays k fs es = quiet (omega arith)

  pub fails : (cause : Cause) (p : Place) (es : List Event) → Stepped c es (fail c cause p es)
  fails cause p es = stops _ refl

  pub grows : (k : Control C) (fs : List (Frame W)) (is : List Item) (es : List Event) →
      Stepped c es (go_with c k fs (c.store ++ is) es)
  grows k fs is es = quiet (made-append c.store is)

  pub read_value : (p : Place) (v : Option Value) (es : List Event) → Stepped c es (M.read_value c p v es)
  read_value p None es = lost
  read_value p (Some Undefined) es = fails _ p es
  read_value p (Some v) es = stays _ _ es

  pub give_value : (v : Option Value) (es : List Event) → Stepped c es (M.give_value c v es)
  give_value None es = lost
  give_value (Some v) es = stays _ _ es

  get_held : (p : Place) (i : Option Item) (fs : List (Frame W)) (es : List Event) →
      Stepped c es (M.get_held c p i fs es)
  get_held p (Some (Cell Undefined)) fs es = fails _ p es
  get_held p (Some (Cell v)) fs es = stays _ fs es
  get_held p _ fs es = lost

  pub get_cell : (p : Place) (v : Value) (fs : List (Frame W)) (es : List Event) → Stepped c es (M.get_cell c p v fs es)
  get_cell p (At l) fs es = get_held p _ fs es
  get_cell p _ fs es = lost

  set_held : (l : ℕ) (i : Option Item) (v : Value) (fs : List (Frame W)) (es : List Event) → slice_get c.store l ≡ i →
      Stepped c es (M.set_held c l i v fs es)
  set_held l (Some (Cell u)) v fs es e = let same = made-set c.store l (Cell u) (Cell v) e refl in quiet (omega arith)
  set_held l _ v fs es e = lost

  pub set_cell : (u v : Value) (fs : List (Frame W)) (es : List Event) → Stepped c es (M.set_cell c u v fs es)
  set_cell (At l) v fs es = set_held l _ v fs es refl
  set_cell _ v fs es = lost

  enter_at : (p : Place) (l : ℕ) (i : Option Item) (vs : List Value) (fs : List (Frame W)) (es : List Event) →
      Stepped c es (M.enter_at c p l i vs fs es)
  enter_at p l (Some (Clo m r)) vs fs es = emits _ refl (omega arith)
  enter_at p l _ vs fs es = fails _ p es

  pub enter : (p : Place) (v : Value) (vs : List Value) (fs : List (Frame W)) (es : List Event) →
      Stepped c es (M.enter c p v vs fs es)
  enter p (At l) vs fs es = enter_at p l _ vs fs es
  enter p _ vs fs es = fails _ p es

  pub enter_lifted : (m : ℕ) (vs : List Value) (fs : List (Frame W)) (es : List Event) →
      Stepped c es (M.enter_lifted c m vs fs es)
  enter_lifted m vs fs es = emits _ refl (omega arith)

  apply_to : (p : Place) (l m : ℕ) (w : Walked) (fs : List (Frame W)) (es : List Event) →
      Stepped c es (M.apply_to c p l m w fs es)
  apply_to p l m (Elements vs) fs es = emits _ refl (omega arith)
  apply_to p l m TooLong fs es = fails _ p es
  apply_to p l m NoList fs es = fails _ p es

  apply_at : (p : Place) (l : ℕ) (i : Option Item) (v : Value) (fs : List (Frame W)) (es : List Event) →
      Stepped c es (M.apply_at c p l i v fs es)
  apply_at p l (Some (Clo m r)) v fs es = apply_to p l m _ fs es
  apply_at p l _ v fs es = fails _ p es

  pub apply : (p : Place) (v w : Value) (fs : List (Frame W)) (es : List Event) → Stepped c es (M.apply c p v w fs es)
  apply p (At l) w fs es = apply_at p l _ w fs es
  apply p _ w fs es = fails _ p es

  take_input : (met : Bool) (bs : List ℕ) (fs : List (Frame W)) (es : List Event) →
      Stepped c es (M.take_input c met bs fs es)
  take_input true bs fs es = emits _ refl (omega arith)
  take_input false [] fs es = emits _ refl (omega arith)
  take_input false (b ∷ bs) fs es = emits _ refl (omega arith)

  peek_input : (met : Bool) (bs : List ℕ) (fs : List (Frame W)) (es : List Event) →
      Stepped c es (M.peek_input c met bs fs es)
  peek_input true bs fs es = quiet (omega arith)
  peek_input false [] fs es = quiet (omega arith)
  peek_input false (b ∷ bs) fs es = quiet (omega arith)

  perform : {right : Type 0} (p : Place) (f : Effect) (fs : List (Frame W)) (es : List Event) →
      Fit (contents c.store) right f → Stepped c es (M.perform c p f fs es)
  perform p _ fs es fit.gives = stays _ fs es
  perform p _ fs es fit.makes = grows _ fs _ es
  perform p _ fs es (fit.changes {l = l} {o = o} old here k) =
      let same = made-set c.store l (Obj old) (Obj o) (content-object (slice_get c.store l) old here)
      (ap (λ n. 0 + n) (same-size old o k)) in
      quiet (omega arith)
  perform p _ fs es fit.puts = emits _ refl (omega arith)
  perform p _ fs es fit.takes = take_input _ _ fs es
  perform p _ fs es fit.peeks = peek_input _ _ fs es
  perform p _ fs es fit.fails = fails _ p es
  perform p _ fs es (fit.misused wrong) = lost

  pub use_primitive : (p : Place) (q : Primitive) (vs : List Value) (fs : List (Frame W)) (es : List Event) →
      Stepped c es (M.use_primitive c p q vs fs es)
  use_primitive p q vs fs es = perform p _ fs es (fits (contents c.store) q vs)

  pub assign_global : (g : ℕ) (v : Value) (fs : List (Frame W)) (es : List Event) →
      Stepped c es (M.assign_global c g v fs es)
  assign_global g v fs es = quiet (omega arith)

  set_held_global : (g : ℕ) (p : Place) (v : Value) (w : Option Value) (fs : List (Frame W)) (es : List Event) →
      Stepped c es (M.set_held_global c g p v w fs es)
  set_held_global g p v None fs es = lost
  set_held_global g p v (Some Undefined) fs es = fails _ p es
  set_held_global g p v (Some w) fs es = quiet (omega arith)

  pub set_global : (g : ℕ) (p : Place) (v : Value) (fs : List (Frame W)) (es : List Event) →
      Stepped c es (M.set_global c g p v fs es)
  set_global g p v fs es = set_held_global g p v _ fs es

  pub either : (es : List Event) (b : Bool) {s t : State C W} → Stepped c es s → Stepped c es t →
      Stepped c es (cond b s t)
  either es true p q = p
  either es false p q = q

-- a language each of whose own steps is one
pub record OwnSteps {C W : Type 0} (x : Language C W) : Type 0 where
  pub evaluates : (c : Config C W) (e : C) (r : Env) (es : List Event) → Stepped c es (x.evaluate c e r es)
  pub gives : (c : Config C W) (v : Value) (w : W) (fs : List (Frame W)) (es : List Event) →
      Stepped c es (x.give c v w fs es)

module _ {C W : Type 0} (x : Language C W) (own : OwnSteps x) where
  bind_parameters : (c : Config C W) (q : Procedure C) (y : Option ℕ) (vs : List Value) (r : Env) (es : List Event) →
      Stepped c es (M.bind_parameters x c q y vs r es)
  bind_parameters c q None vs r es = stays c _ _ es
  bind_parameters c q (Some y) vs r es = grows c _ _ _ es

  enter_body : (c : Config C W) (q : Option (Procedure C)) (vs : List Value) (r : Env) (es : List Event) →
      Stepped c es (M.enter_body x c q vs r es)
  enter_body c None vs r es = lost
  enter_body c (Some q) vs r es = either c es _ (bind_parameters c q q.rest vs r es) (fails c _ q.place es)

  enter_lifted_body : (c : Config C W) (q : Option (Procedure C)) (vs : List Value) (es : List Event) →
      Stepped c es (M.enter_lifted_body x c q vs es)
  enter_lifted_body c None vs es = lost
  enter_lifted_body c (Some q) vs es = either c es _ (stays c _ _ es) (fails c _ q.place es)

  enter_item : (c : Config C W) (i : Option Item) (vs : List Value) (es : List Event) →
      Stepped c es (M.enter_item x c i vs es)
  enter_item c (Some (Clo m r)) vs es = enter_body c _ vs r es
  enter_item c _ vs es = lost

  entering : (c : Config C W) (callee : Callee) (vs : List Value) (es : List Event) →
      Stepped c es (M.entering x c callee vs es)
  entering c (Callee.Closure l) vs es = enter_item c _ vs es
  entering c (Callee.Lifted m) vs es = enter_lifted_body c _ vs es

  top : (c : Config C W) (k : ℕ) (e : Option C) (fs : List (Frame W)) (es : List Event) →
      Stepped c es (M.top x c k e fs es)
  top c k None fs es = stops _ refl
  top c k (Some e) fs es = stays c _ _ es

  give : (c : Config C W) (v : Value) (w : Work W) (fs : List (Frame W)) (es : List Event) →
      Stepped c es (M.give x c v w fs es)
  give c v (Top k) fs es = top c k _ fs es
  give c v (Own w) fs es = own.gives c v w fs es

  give_top : (c : Config C W) (v : Value) (fs : List (Frame W)) (es : List Event) →
      Stepped c es (M.give_top x c v fs es)
  give_top c v [] es = lost
  give_top c v (f ∷ fs) es = either c es _ (emits _ refl (omega arith)) (give c v f.work fs es)

  -- a step from a running configuration
  pub stepped : (c : Config C W) (k : Control C) (es : List Event) → Stepped c es (M.step_control x c k es)
  stepped c (Eval e r) es = own.evaluates c e r es
  stepped c (Bound e r) es = stays c _ _ es
  stepped c (Val v) es = give_top c v c.frames es
  stepped c (Entering callee vs) es = entering c callee vs es

-- the same events, and one more
same : (es : List Event) → Appends es es
same es = record { added = []; appended = sym (append-nil es); few = omega arith }

one_more : (es : List Event) (e : Event) → Appends es (es ++ e ∷ [])
one_more es e = record { added = e ∷ []; appended = refl; few = omega arith }

appends : {C W : Type 0} (c : Config C W) (es : List Event) (s : State C W) → Stepped c es s → Appends es (events_of s)
appends c es (Running d _) (quiet h) = same es
appends c es (Running d _) (emits e h k) = one_more es e
appends c es (Stopped d _) (stops e h) = one_more es e
appends c es (Lost d _) lost = same es

-- the machine emits at most one event a step, behind those before
pub in-order : {C W : Type 0} (x : Language C W) → OwnSteps x →
    (globals : List GlobalName) (statics : List Static) (input : List ℕ) →
    EmitsInOrder (machine_of x globals statics input)
in-order x own globals statics input (Running c es) = appends c es _ (stepped x own c c.control es)
in-order x own globals statics input (Stopped c es) = same es
in-order x own globals statics input (Lost c es) = same es

more_made : {C W : Type 0} (c : Config C W) (es : List Event) (s : State C W) → Stepped c es s →
    made c.store ≤ made_of s
more_made c es (Running d _) (quiet h) = h
more_made c es (Running d _) (emits e h k) = k
more_made c es (Stopped d _) (stops e h) = omega arith
more_made c es (Lost d _) lost = omega arith

-- what was made only grows
pub made-grows-step : {C W : Type 0} (x : Language C W) → OwnSteps x → (s : State C W) →
    made_of s ≤ made_of (M.step x s)
made-grows-step x own (Running c es) = more_made c es _ (stepped x own c c.control es)
made-grows-step x own (Stopped c es) = omega arith
made-grows-step x own (Lost c es) = omega arith

pub made-grows : {C W : Type 0} (x : Language C W) → OwnSteps x → (n : ℕ) (s : State C W) →
    made_of s ≤ made_of (run (M.step x) n s)
made-grows x own zero s = omega arith
made-grows x own (suc n) s = let h = made-grows-step x own s in let k = made-grows x own n (M.step x s) in omega arith
