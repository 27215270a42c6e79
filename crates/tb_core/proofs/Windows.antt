-- Between two calls there are finitely many steps: a measure falls with each step that enters no call. It is
-- the sum of the weights of what is being evaluated and of all that waits, each the most steps that it takes
-- apart from calls.
use Rattle.std.proofs.Common.{◌≡◌, refl, ap, subst, ℕ, zero, suc, ◌+◌, ◌<◌, ◌≤◌, ◌⊎◌, inl, inr, ⊎_elim, arith, Bool, true, false, cond, List, [], ◌∷◌, ◌++◌, length, drop, Option, Some, None, slice_get, slice_index_or}
use Rattle.std.proofs.lemmas.Option.{same_Some}
use Rattle.tb_prim.specs.declared.place.Place.{Place}
use Rattle.tb_prim.specs.declared.event.Event.{Event}
use Rattle.tb_semantics.specs.Runs.{run}
use Rattle.tb_core.specs.Tree.{Tree, Node, Form, Quote, Local, Global, Lambda, If, SetLocal, SetGlobal, DefGlobal, Let, Letrec, Seq, Call, PrimUse, Apply, Trees, none, more, tree_at, LambdaTree, ProgramTree}
use Rattle.tb_core.specs.OperandOrder.{Line, operands}
use Rattle.tb_core.specs.Store.{Value, Undefined, At, Env, Item, Clo, lookup}
use Rattle.tb_core.specs.Effects.{Effect, Gives, Makes, Changes, Puts, Takes, Peeks, Fails, Misused}
use Rattle.tb_core.specs.Lists.{Walked, Elements, TooLong, NoList}
use Rattle.tb_core.specs.Reference
use Rattle.tb_core.specs.Reference.{Control, Eval, Bound, Val, Entering, Work, Sel, SetVar, SetGlo, Rest, Args, Top, Frame, Config, State, Running, Stopped, Lost, Context, events_of, reference}
use Rattle.tb_core.specs.Events.{calls, IsFinal, ComesToCall}

-- the weights of the operands of these numbers, and one more for each
abbrev pub line_weight : List ℕ → List ℕ → ℕ
line_weight [] ws = 0
line_weight (n ∷ ns) ws = suc (slice_index_or ws n 0) + line_weight ns ws

abbrev mutual
  pub weight : (ℕ → List ℕ) → Tree → ℕ
  weight o (Node p s f) = suc (weight_form o s f)

  pub weight_form : (ℕ → List ℕ) → ℕ → Form → ℕ
  weight_form o s (Quote c) = 0
  weight_form o s (Local x) = 0
  weight_form o s (Global g) = 0
  weight_form o s (Lambda l) = 0
  weight_form o s (If a b c) = suc (weight o a + (weight o b + weight o c))
  weight_form o s (SetLocal x e) = suc (weight o e)
  weight_form o s (SetGlobal g e) = suc (weight o e)
  weight_form o s (DefGlobal g e) = suc (weight o e)
  weight_form o s (Let xs es e) = suc (weight o e + line_weight (o s) (weights o es))
  weight_form o s (Letrec xs ls e) = suc (weight o e)
  weight_form o s (Seq es) = rest_weight o es
  weight_form o s (Call f es) = suc (line_weight (o s) (weight o f ∷ weights o es))
  weight_form o s (PrimUse p es) = suc (line_weight (o s) (weights o es))
  weight_form o s (Apply f l) = suc (line_weight (o s) (weight o f ∷ weight o l ∷ []))

  pub weights : (ℕ → List ℕ) → Trees → List ℕ
  weights o none = []
  weights o (more e es) = weight o e ∷ weights o es

  -- of expressions that follow one another
  pub rest_weight : (ℕ → List ℕ) → Trees → ℕ
  rest_weight o none = 0
  rest_weight o (more e es) = suc (weight o e) + rest_weight o es

abbrev pub body_weight : (ℕ → List ℕ) → Form → ℕ
body_weight o (Let xs es e) = weight o e
body_weight o _ = 0

abbrev pub sum_weight : List ℕ → ℕ
sum_weight [] = 0
sum_weight (w ∷ ws) = suc w + sum_weight ws

abbrev pub args_weight : Context → ℕ → Form → List ℕ → ℕ
args_weight x s f ns = suc (body_weight x.order f + line_weight ns (weights x.order (operands f)))

abbrev pub work_weight : Context → Work → ℕ
work_weight x (Sel a b r) = suc (weight x.order a + weight x.order b)
work_weight x (SetVar l) = 1
work_weight x (SetGlo g d p) = 1
work_weight x (Rest es r) = rest_weight x.order es
work_weight x (Args p s f vs r) = args_weight x s f (drop (suc (length vs)) (x.order s))
work_weight x (Top k) = suc (sum_weight (drop k (weights x.order x.forms)))

abbrev pub mark_weight : Bool → ℕ
mark_weight true = 1
mark_weight false = 0

abbrev pub frames_weight : Context → List Frame → ℕ
frames_weight x [] = 0
frames_weight x (f ∷ fs) = (mark_weight f.marked + work_weight x f.work) + frames_weight x fs

abbrev pub lambda_weight : Context → Option LambdaTree → ℕ
lambda_weight x None = 0
lambda_weight x (Some l) = weight x.order l.body

abbrev pub item_weight : Context → Option Item → ℕ
item_weight x (Some (Clo m r)) = lambda_weight x (slice_get x.lambdas m)
item_weight x _ = 0

abbrev pub control_weight : Context → List Item → Control → ℕ
control_weight x st (Eval e r) = weight x.order e
control_weight x st (Bound e r) = suc (weight x.order e)
control_weight x st (Val v) = 0
control_weight x st (Entering l vs) = suc (item_weight x (slice_get st l))

abbrev pub measure : Context → Config → ℕ
measure x c = control_weight x c.store c.control + frames_weight x c.frames

-- a step after which the measure is below m, or one more call was entered, or there is no next step
data Moves (x : Context) (es : List Event) (m : ℕ) : State → Type 0 where
  falls : {c : Config} {fs : List Event} → measure x c < m → calls es ≤ calls fs → Moves x es m (Running c fs)
  enters : {c : Config} {fs : List Event} → calls es < calls fs → Moves x es m (Running c fs)
  stops : {c : Config} {fs : List Event} → Moves x es m (Stopped c fs)
  lost : {c : Config} {fs : List Event} → Moves x es m (Lost c fs)

-- an event at the end
calls_grow : (es : List Event) (e : Event) → calls es ≤ calls (es ++ e ∷ [])
calls_grow [] e = omega arith
calls_grow (Event.Enter l ∷ es) e = let h = calls_grow es e in omega arith
calls_grow (Event.Back ∷ es) e = calls_grow es e
calls_grow (Event.Put c ∷ es) e = calls_grow es e
calls_grow (Event.Took t ∷ es) e = calls_grow es e
calls_grow (Event.End ∷ es) e = calls_grow es e
calls_grow (Event.Fail c p ∷ es) e = calls_grow es e

calls_enter : (es : List Event) (l : ℕ) → calls es < calls (es ++ Event.Enter l ∷ [])
calls_enter [] l = omega arith
calls_enter (Event.Enter k ∷ es) l = let h = calls_enter es l in omega arith
calls_enter (Event.Back ∷ es) l = calls_enter es l
calls_enter (Event.Put c ∷ es) l = calls_enter es l
calls_enter (Event.Took t ∷ es) l = calls_enter es l
calls_enter (Event.End ∷ es) l = calls_enter es l
calls_enter (Event.Fail c p ∷ es) l = calls_enter es l

quiet : (x : Context) (es : List Event) (m : ℕ) (c : Config) → measure x c < m → Moves x es m (Running c es)
quiet x es m c h = falls h (omega arith)

read_value : (x : Context) (c : Config) (p : Place) (v : Option Value) (es : List Event) (m : ℕ) → frames_weight x c.frames < m → Moves x es m (Reference.read_value c p v es)
read_value x c p None es m h = lost
read_value x c p (Some Undefined) es m h = stops
read_value x c p (Some v) es m h = quiet x es m _ (omega arith)

sequence : (x : Context) (c : Config) (ds : Trees) (r : Env) (fs : List Frame) (es : List Event) (m : ℕ) → rest_weight x.order ds + frames_weight x fs ≤ m → Moves x es m (Reference.sequence x c ds r fs es)
sequence x c none r fs es m h = lost
sequence x c (more e none) r fs es m h = quiet x es m _ (omega arith)
sequence x c (more e (more d ds)) r fs es m h = quiet x es m _ (omega arith)

enter_at : (x : Context) (c : Config) (p : Place) (l : ℕ) (i : Option Item) (vs : List Value) (fs : List Frame) (es : List Event) (m : ℕ) → Moves x es m (Reference.enter_at c p l i vs fs es)
enter_at x c p l (Some (Clo k r)) vs fs es m = enters (calls_enter es k)
enter_at x c p l _ vs fs es m = stops

enter : (x : Context) (c : Config) (p : Place) (v : Value) (vs : List Value) (fs : List Frame) (es : List Event) (m : ℕ) → Moves x es m (Reference.enter c p v vs fs es)
enter x c p (At l) vs fs es m = enter_at x c p l _ vs fs es m
enter x c p _ vs fs es m = stops

apply_to : (x : Context) (c : Config) (p : Place) (l k : ℕ) (w : Walked) (fs : List Frame) (es : List Event) (m : ℕ) → Moves x es m (Reference.apply_to c p l k w fs es)
apply_to x c p l k (Elements vs) fs es m = enters (calls_enter es k)
apply_to x c p l k TooLong fs es m = stops
apply_to x c p l k NoList fs es m = stops

apply_at : (x : Context) (c : Config) (p : Place) (l : ℕ) (i : Option Item) (v : Value) (fs : List Frame) (es : List Event) (m : ℕ) → Moves x es m (Reference.apply_at c p l i v fs es)
apply_at x c p l (Some (Clo k r)) v fs es m = apply_to x c p l k _ fs es m
apply_at x c p l _ v fs es m = stops

apply : (x : Context) (c : Config) (p : Place) (v w : Value) (fs : List Frame) (es : List Event) (m : ℕ) → Moves x es m (Reference.apply c p v w fs es)
apply x c p (At l) w fs es m = apply_at x c p l _ w fs es m
apply x c p _ w fs es m = stops

take_input : (x : Context) (c : Config) (met : Bool) (bs : List ℕ) (fs : List Frame) (es : List Event) (m : ℕ) → frames_weight x fs < m → Moves x es m (Reference.take_input c met bs fs es)
take_input x c true bs fs es m h = falls (omega arith) (calls_grow es _)
take_input x c false [] fs es m h = falls (omega arith) (calls_grow es _)
take_input x c false (b ∷ bs) fs es m h = falls (omega arith) (calls_grow es _)

peek_input : (x : Context) (c : Config) (met : Bool) (bs : List ℕ) (fs : List Frame) (es : List Event) (m : ℕ) → frames_weight x fs < m → Moves x es m (Reference.peek_input c met bs fs es)
peek_input x c true bs fs es m h = quiet x es m _ (omega arith)
peek_input x c false [] fs es m h = quiet x es m _ (omega arith)
peek_input x c false (b ∷ bs) fs es m h = quiet x es m _ (omega arith)

perform : (x : Context) (c : Config) (p : Place) (f : Effect) (fs : List Frame) (es : List Event) (m : ℕ) → frames_weight x fs < m → Moves x es m (Reference.perform c p f fs es)
perform x c p (Gives v) fs es m h = quiet x es m _ (omega arith)
perform x c p (Makes i) fs es m h = quiet x es m _ (omega arith)
perform x c p (Changes l i) fs es m h = quiet x es m _ (omega arith)
perform x c p (Puts ch) fs es m h = falls (omega arith) (calls_grow es _)
perform x c p Takes fs es m h = take_input x c _ _ fs es m h
perform x c p Peeks fs es m h = peek_input x c _ _ fs es m h
perform x c p (Fails cause) fs es m h = stops
perform x c p Misused fs es m h = lost

complete : (x : Context) (c : Config) (p : Place) (f : Form) (vs : List Value) (r : Env) (fs : List Frame) (es : List Event) (m : ℕ) → body_weight x.order f + frames_weight x fs < m → Moves x es m (Reference.complete x c p f vs r fs es)
complete x c p (Call f ds) (v ∷ vs) r fs es m h = enter x c p v vs fs es m
complete x c p (Apply f l) (v ∷ w ∷ []) r fs es m h = apply x c p v w fs es m
complete x c p (PrimUse pr ds) vs r fs es m h = perform x c p _ fs es m (omega arith)
complete x c p (Let xs ds e) vs r fs es m h = quiet x es m _ (omega arith)
complete x c p _ vs r fs es m h = lost

-- the weight of the operand of a number
weight_at : (o : ℕ → List ℕ) (ds : Trees) (n : ℕ) (e : Tree) → tree_at ds n ≡ Some e → slice_index_or (weights o ds) n 0 ≡ weight o e
weight_at o none n e h = cc
weight_at o (more d ds) zero e h = ap (weight o) (same_Some d e h)
weight_at o (more d ds) (suc n) e h = weight_at o ds n e h

drop_more : (k n : ℕ) (xs ns : List ℕ) → n ∷ ns ≡ drop k xs → drop (suc k) xs ≡ ns
drop_more zero n [] ns h = cc
drop_more zero n (y ∷ xs) ns h = cc
drop_more (suc k) n [] ns h = cc
drop_more (suc k) n (y ∷ xs) ns h = drop_more k n xs ns h

args_more : (x : Context) (s : ℕ) (f : Form) (vs : List Value) (n : ℕ) (ns : List ℕ) → n ∷ ns ≡ drop (length vs) (x.order s) → args_weight x s f (drop (suc (length vs)) (x.order s)) ≡ args_weight x s f ns
args_more x s f vs n ns h = ap (args_weight x s f) (drop_more (length vs) n (x.order s) ns h)

operand : (x : Context) (c : Config) (p : Place) (s : ℕ) (f : Form) (vs : List Value) (r : Env) (n : ℕ) (ns : List ℕ) (o : Option Tree) (fs : List Frame) (es : List Event) (m : ℕ) → tree_at (operands f) n ≡ o → n ∷ ns ≡ drop (length vs) (x.order s) → args_weight x s f (n ∷ ns) + frames_weight x fs ≤ m → Moves x es m (Reference.operand x c p s f vs r ns o fs es)
operand x c p s f vs r n ns None fs es m e d h = lost
operand x c p s f vs r n ns (Some a) fs es m e d h =
    let w = weight_at x.order (operands f) n a e in
    let q = args_more x s f vs n ns d in
    quiet x es m _ (omega arith)

operands_left : (x : Context) (c : Config) (p : Place) (s : ℕ) (f : Form) (vs : List Value) (r : Env) (ns : List ℕ) (fs : List Frame) (es : List Event) (m : ℕ) → ns ≡ drop (length vs) (x.order s) → args_weight x s f ns + frames_weight x fs ≤ m → Moves x es m (Reference.operands_left x c p s f vs r ns fs es)
operands_left x c p s f vs r [] fs es m d h = complete x c p f _ r fs es m (omega arith)
operands_left x c p s f vs r (n ∷ ns) fs es m d h = operand x c p s f vs r n ns _ fs es m refl d h

set_local : (x : Context) (c : Config) (l : Option ℕ) (e : Tree) (r : Env) (es : List Event) (m : ℕ) → suc (weight x.order e) + frames_weight x c.frames < m → Moves x es m (Reference.set_local x c l e r es)
set_local x c None e r es m h = lost
set_local x c (Some l) e r es m h = quiet x es m _ (omega arith)

eval_form : (x : Context) (c : Config) (p : Place) (s : ℕ) (f : Form) (r : Env) (es : List Event) → Moves x es (suc (weight_form x.order s f) + frames_weight x c.frames) (Reference.eval_form x c p s f r es)
eval_form x c p s (Quote k) r es = quiet x es _ _ (omega arith)
eval_form x c p s (Local y) r es = read_value x c p _ es _ (omega arith)
eval_form x c p s (Global g) r es = read_value x c p _ es _ (omega arith)
eval_form x c p s (Lambda l) r es = quiet x es _ _ (omega arith)
eval_form x c p s (If a b d) r es = quiet x es _ _ (omega arith)
eval_form x c p s (SetLocal y e) r es = set_local x c (lookup r y) e r es _ (omega arith)
eval_form x c p s (SetGlobal g e) r es = quiet x es _ _ (omega arith)
eval_form x c p s (DefGlobal g e) r es = quiet x es _ _ (omega arith)
eval_form x c p s (Seq ds) r es = sequence x c ds r c.frames es _ (omega arith)
eval_form x c p s (Letrec xs ls e) r es = quiet x es _ _ (omega arith)
eval_form x c p s (Call f ds) r es = operands_left x c p s (Call f ds) [] r _ c.frames es _ refl (omega arith)
eval_form x c p s (PrimUse pr ds) r es = operands_left x c p s (PrimUse pr ds) [] r _ c.frames es _ refl (omega arith)
eval_form x c p s (Apply f l) r es = operands_left x c p s (Apply f l) [] r _ c.frames es _ refl (omega arith)
eval_form x c p s (Let xs ds e) r es = operands_left x c p s (Let xs ds e) [] r _ c.frames es _ refl (omega arith)

bind_parameters : (x : Context) (c : Config) (l : LambdaTree) (y : Option ℕ) (vs : List Value) (r : Env) (es : List Event) (m : ℕ) → weight x.order l.body + frames_weight x c.frames < m → Moves x es m (Reference.bind_parameters x c l y vs r es)
bind_parameters x c l None vs r es m h = quiet x es m _ h
bind_parameters x c l (Some y) vs r es m h = quiet x es m _ h

either : (x : Context) (es : List Event) (m : ℕ) (b : Bool) (s t : State) → Moves x es m s → Moves x es m t → Moves x es m (cond b s t)
either x es m true s t p q = p
either x es m false s t p q = q

enter_lambda : (x : Context) (c : Config) (l : Option LambdaTree) (vs : List Value) (r : Env) (es : List Event) (m : ℕ) → lambda_weight x l + frames_weight x c.frames < m → Moves x es m (Reference.enter_lambda x c l vs r es)
enter_lambda x c None vs r es m h = lost
enter_lambda x c (Some l) vs r es m h = either x es m _ _ _ (bind_parameters x c l l.rest vs r es m h) stops

entering : (x : Context) (c : Config) (i : Option Item) (vs : List Value) (es : List Event) (m : ℕ) → item_weight x i + frames_weight x c.frames < m → Moves x es m (Reference.entering x c i vs es)
entering x c (Some (Clo k r)) vs es m h = enter_lambda x c _ vs r es m h
entering x c _ vs es m h = lost

set_global : (x : Context) (c : Config) (g : ℕ) (p : Place) (v : Value) (w : Option Value) (fs : List Frame) (es : List Event) (m : ℕ) → frames_weight x fs < m → Moves x es m (Reference.set_global c g p v w fs es)
set_global x c g p v None fs es m h = lost
set_global x c g p v (Some Undefined) fs es m h = stops
set_global x c g p v (Some w) fs es m h = quiet x es m _ (omega arith)

weights_from : (o : ℕ → List ℕ) (ds : Trees) (k : ℕ) (e : Tree) → tree_at ds k ≡ Some e → drop k (weights o ds) ≡ weight o e ∷ drop (suc k) (weights o ds)
weights_from o none k e h = cc
weights_from o (more d ds) zero e h = ap (λ t. weight o t ∷ weights o ds) (same_Some d e h)
weights_from o (more d ds) (suc k) e h = weights_from o ds k e h

top : (x : Context) (c : Config) (k : ℕ) (o : Option Tree) (fs : List Frame) (es : List Event) (m : ℕ) → tree_at x.forms k ≡ o → suc (sum_weight (drop k (weights x.order x.forms))) + frames_weight x fs ≤ m → Moves x es m (Reference.top x c k o fs es)
top x c k None fs es m q h = stops
top x c k (Some e) fs es m q h =
    let w = ap sum_weight (weights_from x.order x.forms k e q) in
    quiet x es m _ (omega arith)

length_more : (vs : List Value) (v : Value) → length (vs ++ v ∷ []) ≡ suc (length vs)
length_more [] v = refl
length_more (w ∷ vs) v = ap suc (length_more vs v)

give : (x : Context) (c : Config) (v : Value) (w : Work) (fs : List Frame) (es : List Event) → Moves x es (work_weight x w + frames_weight x fs) (Reference.give x c v w fs es)
give x c v (Sel a b r) fs es = either x es _ _ _ _ (quiet x es _ _ (omega arith)) (quiet x es _ _ (omega arith))
give x c v (SetVar l) fs es = quiet x es _ _ (omega arith)
give x c v (SetGlo g true p) fs es = quiet x es _ _ (omega arith)
give x c v (SetGlo g false p) fs es = set_global x c g p v _ fs es _ (omega arith)
give x c v (Rest ds r) fs es = sequence x c ds r fs es _ (omega arith)
give x c v (Args p s f vs r) fs es =
    let l = length_more vs v in
    let q = ap (λ n. args_weight x s f (drop n (x.order s))) l in
    operands_left x c p s f (vs ++ v ∷ []) r _ fs es _ refl (omega arith)
give x c v (Top k) fs es = top x c k _ fs es _ refl (omega arith)

over_zero : (x : Context) (es : List Event) (m n : ℕ) (s : State) → m ≡ n → Moves x es m s → Moves x es n s
over_zero x es m n s e h = subst (λ k. Moves x es k s) e h

give_marked : (x : Context) (c : Config) (v : Value) (f : Frame) (fs : List Frame) (es : List Event) (b : Bool) → Moves x es ((mark_weight b + work_weight x f.work) + frames_weight x fs) (cond b (Reference.go c (Val v) (record f { marked = false } ∷ fs) (Reference.emit es Event.Back)) (Reference.give x c v f.work fs es))
give_marked x c v f fs es true = falls (omega arith) (calls_grow es Event.Back)
give_marked x c v f fs es false = over_zero x es _ _ _ (omega arith) (give x c v f.work fs es)

give_top : (x : Context) (c : Config) (v : Value) (fs : List Frame) (es : List Event) → Moves x es (frames_weight x fs) (Reference.give_top x c v fs es)
give_top x c v [] es = lost
give_top x c v (f ∷ fs) es = give_marked x c v f fs es f.marked

moves : (x : Context) (c : Config) (k : Control) (es : List Event) → Moves x es (control_weight x c.store k + frames_weight x c.frames) (Reference.step_control x c k es)
moves x c (Eval (Node p s f) r) es = eval_form x c p s f r es
moves x c (Bound e r) es = quiet x es _ _ (omega arith)
moves x c (Val v) es = over_zero x es _ _ _ (omega arith) (give_top x c v c.frames es)
moves x c (Entering l vs) es = entering x c (slice_get c.store l) vs es _ (omega arith)

-- a run goes on to a further call or to its end
from_next : (x : Context) (es : List Event) (m : ℕ) (t : State) → Moves x es m t → ((d : Config) (fs : List Event) → measure x d < m → ComesToCall (Reference.step x) (Running d fs)) → (k : ℕ) × (IsFinal (run (Reference.step x) k t) ⊎ (calls es < calls (events_of (run (Reference.step x) k t))))
from_next x es m (Running d fs) (falls q le) later = let g = later d fs q in (g.steps, ⊎_elim inl (λ l. inr (omega arith)) g.reached)
from_next x es m (Running d fs) (enters l) later = (0, inr l)
from_next x es m (Stopped d fs) stops later = (0, inl tt)
from_next x es m (Lost d fs) lost later = (0, inl tt)

goes_on : (x : Context) (n : ℕ) (c : Config) (es : List Event) → measure x c < n → ComesToCall (Reference.step x) (Running c es)
goes_on x zero c es h = absurd (omega arith)
goes_on x (suc n) c es h =
    let f = from_next x es (measure x c) (Reference.step x (Running c es)) (moves x c c.control es) (λ d fs q. goes_on x n d fs (omega arith)) in
    record { steps = suc f.0; reached = f.1 }

pub windows-end : (p : ProgramTree) (order : List Line) (input : List ℕ) (s : State) → ComesToCall (reference p order input).step s
windows-end p order input (Running c es) =
    let x = Reference.context_of p order in goes_on x (suc (measure x c)) c es (omega arith)
windows-end p order input (Stopped c es) = record { steps = 0; reached = inl tt }
windows-end p order input (Lost c es) = record { steps = 0; reached = inl tt }
