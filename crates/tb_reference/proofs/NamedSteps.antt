-- Each step of a run keeps that the locations which its state names are there, and that its environments bind no variable
-- twice.
use Rattle.std.proofs.Common.{◌≡◌, refl, sym, ap, ◌∙◌, subst, ℕ, zero, suc, ◌+◌, ◌<◌, ◌≤◌, arith, Bool, true, false, cond, List, [], ◌∷◌, ◌++◌, length, take, drop, map, Option, Some, None, slice_get, slice_set, length-append, length-set, append-nil}
use Rattle.std.proofs.lemmas.Bool.{eqb-true, leb-true}
use Rattle.std.proofs.lemmas.List.{length-map, length-take-le}
use Rattle.tb_prim.specs.declared.place.Place.{Place}
use Rattle.tb_prim.specs.declared.constant.Const.{Const}
use Rattle.tb_prim.specs.declared.constant.Static.{Static}
use Rattle.tb_prim.specs.declared.event.Event.{Event}
use Rattle.tb_semantics.specs.Graph.{IsIn, IsApart}
use Rattle.tb_semantics.specs.Runs.{run, after}
use Rattle.tb_core.specs.Tree.{Tree, Node, Form, Quote, Local, Global, Lambda, If, SetLocal, SetGlobal, DefGlobal, Let, Letrec, Seq, Call, PrimUse, Apply, Trees, none, more, count, tree_at, LambdaTree, ProgramTree, parameters, option_list}
use Rattle.tb_core.specs.FreeVariables.{without, of_lambdas, free, free_form, inner_free, is_assigned}
use Rattle.tb_core.specs.OperandOrder.{operands, has_order, line_at, order_of}
use Rattle.tb_core.specs.Store.{Value, Undefined, At, Env, Empty, Item, Var, Obj, Clo, lookup, cut, bind_from, value_of, static_item}
use Rattle.tb_core.specs.Effects.{Effect, is_false}
use Rattle.tb_core.specs.Partners.{AlikeEffects, gives, makes, changes, puts, takes as takes_input, peeks, fails, misused, AlikeWalks, elements, too_long, no_list}
use Rattle.tb_core.specs.Lists.{Walked, list_value}
use Rattle.tb_core.specs.Rules.{Every, Each, EachForm, EachAll, NodeKeeps, LambdaKeeps, ConstKeeps, PartKeeps, StaticsKeep, KeepsRules}
use Rattle.tb_core.specs.Reference
use Rattle.tb_core.specs.Reference.{Control, Eval, Bound, Val, Entering, Work, Sel, SetVar, SetGlo, Rest, Args, Top, Frame, Config, State, Running, Stopped, Lost, Context, free_of_numbers, free_of_body, arranged, vars, located, closures, list_items, takes, config_of, reference}
use Rattle.tb_core.proofs.Numbers.{free-of-lambda, forms-have-lines, bodies-have-lines}
use Rattle.tb_core.proofs.Lines.{line-all, line-length, arranged-length}
use Rattle.tb_core.proofs.Kept.{NodeOk, both, both_all, each-at, operand-each, own_context}
use Rattle.tb_reference.proofs.Everies.{every-more, every-append, every-set, IfThere, every-at, every-take, every-drop, every-copies, every-arranged}
use Rattle.tb_reference.proofs.Scopes.{Binds, without-out, forms-bind, parameters-apart, body-binds}
use Rattle.tb_reference.proofs.Named.{ValueIn, EnvIn, NamesAmong, NamesNone, ItemIn, NodeIn, ControlIn, binders, ArgsIn, WorkIn, FramesIn, ConfigIn, StateIn, values-more, env-more, item-more, frames-more, cut-names, cut-in, empty-in, bound-in, found-in, fresh-at, vars-in, located-in, located-length, list-in, list-length, list-value-in}
use Rattle.tb_reference.proofs.Operations.{Own, own-effect, own-walk, value-there, values-there, object-there}

module _ (p : ProgramTree) (rules : KeepsRules p) where
  abbrev I : ℕ → List ℕ
  I = inner_free p

  abbrev X : Context
  X = own_context p

  -- the results of steps: another control above these frames, with the same items, with more, and with one changed
  go : (c : Config) (k : Control) (fs : List Frame) → ConfigIn p c → FramesIn p (length c.store) fs →
      ControlIn p (length c.store) k → ConfigIn p (record c { control = k; frames = fs })
  go c k fs g f h = record { statics = g.statics; store = g.store; globals = g.globals; frames = f; control = h }

  stored : (c : Config) (k : Control) (fs : List Frame) (st : List Item) → ConfigIn p c → FramesIn p (length c.store) fs →
      length c.store ≤ length st → Every (ItemIn p (length st)) st → ControlIn p (length st) k →
      ConfigIn p (record c { control = k; frames = fs; store = st })
  stored c k fs st g f le s h =
      let many = g.statics in
      record {
        statics = omega arith;
        store = s;
        globals = values-more (length c.store) (length st) le c.globals g.globals;
        frames = frames-more (length c.store) (length st) le p fs f;
        control = h;
      }

  made : (c : Config) (k : Control) (fs : List Frame) (is : List Item) → ConfigIn p c → FramesIn p (length c.store) fs →
      Every (ItemIn p (length (c.store ++ is))) is → ControlIn p (length (c.store ++ is)) k →
      ConfigIn p (record c { control = k; frames = fs; store = c.store ++ is })
  made c k fs is g f i h =
      let m = length (c.store ++ is) in
      let le : length c.store ≤ m = omega (arith, length-append c.store is) in
      stored c k fs (c.store ++ is) g f le
      (every-append (ItemIn p m) c.store is (every-more (ItemIn p (length c.store)) (ItemIn p m) (item-more (length c.store) m le p) c.store g.store) i) h

  changed : (c : Config) (l : ℕ) (i : Item) (fs : List Frame) → ConfigIn p c → FramesIn p (length c.store) fs →
      ItemIn p (length c.store) i →
      ConfigIn p (record c { control = Val Value.Unspecified; frames = fs; store = slice_set c.store l i })
  changed c l i fs g f h =
      let n = length c.store in
      let m = length (slice_set c.store l i) in
      let le : n ≤ m = omega (arith, length-set c.store l i) in
      stored c _ fs (slice_set c.store l i) g f le
      (every-more (ItemIn p n) (ItemIn p m) (item-more n m le p) (slice_set c.store l i) (every-set (ItemIn p n) c.store l i g.store h)) tt

  marked : (n : ℕ) (fs : List Frame) → FramesIn p n fs → FramesIn p n (Reference.mark_top fs)
  marked n [] h = tt
  marked n (f ∷ fs) h = h

  by_test : (b : Bool) (s t : State) → (b ≡ true → StateIn p s) → StateIn p t → StateIn p (cond b s t)
  by_test true s t h k = h refl
  by_test false s t h k = k

  -- an expression whose environment is cut to it
  eval : (c : Config) (e : Tree) (r : Env) (fs : List Frame) → ConfigIn p c → FramesIn p (length c.store) fs → Each (NodeIn p) e →
      EnvIn (length c.store) r → ConfigIn p (record c { control = Reference.eval X e r; frames = fs })
  eval c e r fs g f n h = go c _ fs g f (n, cut-in (length c.store) (free I e) r h, λ y i. (cut-names (free I e) r y i).0)

  sequence : (c : Config) (ds : Trees) (r : Env) (fs : List Frame) (es : List Event) → ConfigIn p c →
      FramesIn p (length c.store) fs → EachAll (NodeIn p) ds → EnvIn (length c.store) r →
      StateIn p (Reference.sequence X c ds r fs es)
  sequence c none r fs es g f n h = g
  sequence c (more e none) r fs es g f n h = eval c e r fs g f n.0 h
  sequence c (more e (more d ds)) r fs es g f n h = eval c e r _ g ((n.1, cut-in (length c.store) _ r h), f) n.0 h

  read_value : (c : Config) (q : Place) (o : Option Value) (es : List Event) → ConfigIn p c →
      IfThere (ValueIn (length c.store)) o → StateIn p (Reference.read_value c q o es)
  read_value c q None es g h = g
  read_value c q (Some Undefined) es g h = g
  read_value c q (Some v) es g h = go c (Val v) c.frames g g.frames h

  held : (n : ℕ) (o : Option Item) → IfThere (ItemIn p n) o → IfThere (ValueIn n) (Reference.held_value o)
  held n (Some (Var v)) h = h
  held n _ h = tt

  local : (c : Config) (o : Option ℕ) → ConfigIn p c → IfThere (ValueIn (length c.store)) (Reference.local_value o c.store)
  local c None g = tt
  local c (Some l) g = held (length c.store) (slice_get c.store l) (every-at (ItemIn p (length c.store)) c.store l g.store)

  -- calls
  enter_at : (c : Config) (q : Place) (l : ℕ) (o : Option Item) (vs : List Value) (fs : List Frame) (es : List Event) →
      ConfigIn p c → FramesIn p (length c.store) fs → l < length c.store → Every (ValueIn (length c.store)) vs →
      StateIn p (Reference.enter_at c q l o vs fs es)
  enter_at c q l (Some (Clo m r)) vs fs es g f lt h = go c _ _ g (marked (length c.store) fs f) (lt, h)
  enter_at c q l _ vs fs es g f lt h = g

  enter : (c : Config) (q : Place) (v : Value) (vs : List Value) (fs : List Frame) (es : List Event) → ConfigIn p c →
      FramesIn p (length c.store) fs → ValueIn (length c.store) v → Every (ValueIn (length c.store)) vs →
      StateIn p (Reference.enter c q v vs fs es)
  enter c q (At l) vs fs es g f lt h = enter_at c q l _ vs fs es g f lt h
  enter c q _ vs fs es g f lt h = g

  apply_to : (c : Config) (q : Place) (l m : ℕ) {w u : Walked} (fs : List Frame) (es : List Event) → ConfigIn p c →
      FramesIn p (length c.store) fs → l < length c.store → AlikeWalks (Own (length c.store)) (Unit {0}) w u →
      StateIn p (Reference.apply_to c q l m w fs es)
  apply_to c q l m fs es g f lt (elements rs) = go c _ _ g (marked (length c.store) fs f) (lt, values-there (length c.store) rs)
  apply_to c q l m fs es g f lt too_long = g
  apply_to c q l m fs es g f lt no_list = g

  apply_at : (c : Config) (q : Place) (l : ℕ) (o : Option Item) (v : Value) (fs : List Frame) (es : List Event) → ConfigIn p c →
      FramesIn p (length c.store) fs → l < length c.store → ValueIn (length c.store) v →
      StateIn p (Reference.apply_at c q l o v fs es)
  apply_at c q l (Some (Clo m r)) v fs es g f lt h = apply_to c q l m fs es g f lt (own-walk p (length c.store) c.store 12 v g.store h)
  apply_at c q l _ v fs es g f lt h = g

  apply : (c : Config) (q : Place) (v w : Value) (fs : List Frame) (es : List Event) → ConfigIn p c →
      FramesIn p (length c.store) fs → ValueIn (length c.store) v → ValueIn (length c.store) w →
      StateIn p (Reference.apply c q v w fs es)
  apply c q (At l) w fs es g f lt h = apply_at c q l _ w fs es g f lt h
  apply c q _ w fs es g f lt h = g

  -- primitives
  input_left : (c : Config) (bs : List ℕ) (met : Bool) (v : Value) (fs : List Frame) → ConfigIn p c →
      FramesIn p (length c.store) fs → ValueIn (length c.store) v →
      ConfigIn p (record c { control = Val v; frames = fs; input = bs; met_end = met })
  input_left c bs met v fs g f h = record { statics = g.statics; store = g.store; globals = g.globals; frames = f; control = h }

  take_input : (c : Config) (met : Bool) (bs : List ℕ) (fs : List Frame) (es : List Event) → ConfigIn p c →
      FramesIn p (length c.store) fs → StateIn p (Reference.take_input c met bs fs es)
  take_input c true bs fs es g f = go c _ fs g f tt
  take_input c false [] fs es g f = input_left c c.input true _ fs g f tt
  take_input c false (x ∷ bs) fs es g f = input_left c bs c.met_end _ fs g f tt

  peek_input : (c : Config) (met : Bool) (bs : List ℕ) (fs : List Frame) (es : List Event) → ConfigIn p c →
      FramesIn p (length c.store) fs → StateIn p (Reference.peek_input c met bs fs es)
  peek_input c true bs fs es g f = go c _ fs g f tt
  peek_input c false [] fs es g f = input_left c c.input true _ fs g f tt
  peek_input c false (x ∷ bs) fs es g f = go c _ fs g f tt

  perform : (c : Config) (q : Place) {e w : Effect} (fs : List Frame) (es : List Event) → ConfigIn p c →
      FramesIn p (length c.store) fs → AlikeEffects (Own (length c.store)) (Unit {0}) e w →
      StateIn p (Reference.perform c q e fs es)
  perform c q fs es g f (gives r) = go c _ fs g f (value-there (length c.store) r)
  perform c q fs es g f (makes {o = o} r) =
      let is = Obj o ∷ [] in
      let lt : length c.store < length (c.store ++ is) = omega (arith, length-append c.store is) in
      made c _ fs is g f (item-more (length c.store) (length (c.store ++ is)) (omega arith) p (Obj o) (object-there (length c.store) r), tt) lt
  perform c q fs es g f (changes {a = a} {o = o} h r) = changed c a (Obj o) fs g f (object-there (length c.store) r)
  perform c q fs es g f puts = go c _ fs g f tt
  perform c q fs es g f takes_input = take_input c c.met_end c.input fs es g f
  perform c q fs es g f peeks = peek_input c c.met_end c.input fs es g f
  perform c q fs es g f fails = g
  perform c q fs es g f misused = g

  -- variables that are made for values, and the body for which they are
  bind_values : (c : Config) (e : Tree) (xs : List ℕ) (r : Env) (is : List Item) (n : ℕ) (fs : List Frame) → ConfigIn p c →
      FramesIn p (length c.store) fs → Each (NodeIn p) e → Every (ItemIn p (length (c.store ++ is))) is →
      n + length xs ≤ length (c.store ++ is) → IsApart xs → NamesNone xs r → EnvIn (length c.store) r →
      ConfigIn p (record c { control = Reference.eval X e (bind_from xs n r); frames = fs; store = c.store ++ is })
  bind_values c e xs r is n fs g f k i le a other h =
      let m = length (c.store ++ is) in
      let wide : length c.store ≤ m = omega (arith, length-append c.store is) in
      let b = bound-in m xs n r le a other (env-more (length c.store) m wide r h) in
      made c _ fs is g f i (k, cut-in m (free I e) _ b, λ y j. (cut-names (free I e) _ y j).0)

  values_in_more : (c : Config) (is : List Item) (vs : List Value) → Every (ValueIn (length c.store)) vs →
      Every (ValueIn (length (c.store ++ is))) vs
  values_in_more c is vs h = values-more (length c.store) (length (c.store ++ is)) (omega (arith, length-append c.store is)) vs h

  complete : (c : Config) (q : Place) (s : ℕ) (f : Form) (vs : List Value) (r : Env) (fs : List Frame) (es : List Event) →
      ConfigIn p c → FramesIn p (length c.store) fs → NodeIn p s f → EachForm (NodeIn p) f → length vs ≡ count (operands f) →
      Every (ValueIn (length c.store)) vs → EnvIn (length c.store) r → NamesNone (binders f) r →
      StateIn p (Reference.complete X c q f vs r fs es)
  complete c q s (Call f ds) [] r fs es g k n parts len h e a = g
  complete c q s (Call f ds) (v ∷ vs) r fs es g k n parts len h e a = enter c q v vs fs es g k h.0 h.1
  complete c q s (Apply f l) [] r fs es g k n parts len h e a = g
  complete c q s (Apply f l) (v ∷ []) r fs es g k n parts len h e a = g
  complete c q s (Apply f l) (v ∷ w ∷ []) r fs es g k n parts len h e a = apply c q v w fs es g k h.0 (h.1).0
  complete c q s (Apply f l) (v ∷ w ∷ u ∷ vs) r fs es g k n parts len h e a = g
  complete c q s (PrimUse pr ds) vs r fs es g k n parts len h e a = perform c q fs es g k (own-effect p (length c.store) c.store pr vs g.store h)
  complete c q s (Let xs ds d) vs r fs es g k n parts len h e a =
      let shape : length xs ≡ count ds = ((n.0).0).shaped in
      let many = length-map vs Var in
      bind_values c d xs r (vars vs) (length c.store) fs g k parts.1
      (vars-in p _ vs (values_in_more c (vars vs) vs h)) (omega (arith, length-append c.store (vars vs))) (n.1).0 a e
  complete c q s _ vs r fs es g k n parts len h e a = g

  drop_none : (k : ℕ) (xs : List ℕ) → [] ≡ drop k xs → length xs ≤ k
  drop_none k [] h = omega arith
  drop_none zero (x ∷ xs) h = cc
  drop_none (suc k) (x ∷ xs) h = let r = drop_none k xs h in omega arith

  operand : (c : Config) (q : Place) (s : ℕ) (f : Form) (vs : List Value) (r : Env) (n : ℕ) (ns : List ℕ) (t : Option Tree) (fs : List Frame) (es : List Event) →
      ConfigIn p c → FramesIn p (length c.store) fs → ArgsIn p (length c.store) s f vs r → tree_at (operands f) n ≡ t →
      StateIn p (Reference.operand X c q s f vs r ns t fs es)
  operand c q s f vs r n ns None fs es g k a e = g
  operand c q s f vs r n ns (Some d) fs es g k a e =
      let xs = free_of_numbers X (operands f) ns ++ free_of_body X f in
      let frame : ArgsIn p (length c.store) s f vs (cut xs r) = record {
        ordered = a.ordered;
        node = a.node;
        parts = a.parts;
        values = a.values;
        env = cut-in (length c.store) xs r a.env;
        fresh = λ y i j. a.fresh y i (cut-names xs r y j).1;
      } in
      eval c d r _ g (frame, k) (operand-each (NodeIn p) f n d a.parts e) a.env

  operands_left : (c : Config) (q : Place) (s : ℕ) (f : Form) (vs : List Value) (r : Env) (ns : List ℕ) (fs : List Frame) (es : List Event) →
      ConfigIn p c → FramesIn p (length c.store) fs → ArgsIn p (length c.store) s f vs r →
      ns ≡ drop (length vs) (line_at (order_of p) s) → StateIn p (Reference.operands_left X c q s f vs r ns fs es)
  operands_left c q s f vs r [] fs es g k a d =
      let line = line_at (order_of p) s in
      let own = ((a.node).0).1 a.ordered in
      let size : length line ≡ count (operands f) = ap length own ∙ line-length (is_assigned p) (operands f) in
      let all : (j : ℕ) → j < length line → IsIn j line = λ j lt. subst (IsIn j) (sym own) (line-all (is_assigned p) (operands f) j (omega arith)) in
      let len = arranged-length 0 (length line) line vs (λ j lt. all j (omega arith)) (drop_none (length vs) line d) in
      complete c q s f (arranged 0 (length line) line vs) r fs es g k a.node a.parts (len ∙ size)
      (every-arranged (ValueIn (length c.store)) 0 (length line) line vs a.values) a.env a.fresh
  operands_left c q s f vs r (n ∷ ns) fs es g k a d = operand c q s f vs r n ns _ fs es g k a refl

  first_operand : (c : Config) (q : Place) (s : ℕ) (f : Form) (r : Env) (es : List Event) → ConfigIn p c → has_order f ≡ true →
      NodeIn p s f → EachForm (NodeIn p) f → EnvIn (length c.store) r → NamesAmong (free_form I f) r →
      StateIn p (Reference.operands_left X c q s f [] r (line_at (order_of p) s) c.frames es)
  first_operand c q s f r es g o n parts h w =
      operands_left c q s f [] r (line_at (order_of p) s) c.frames es g g.frames
      (record { ordered = o; node = n; parts = parts; values = tt; env = h; fresh = fresh-at p s f r n w }) refl

  set_local : (c : Config) (o : Option ℕ) (e : Tree) (r : Env) (es : List Event) → ConfigIn p c →
      IfThere (λ l. l < length c.store) o → Each (NodeIn p) e → EnvIn (length c.store) r →
      StateIn p (Reference.set_local X c o e r es)
  set_local c None e r es g lt n h = g
  set_local c (Some l) e r es g lt n h = eval c e r _ g (lt, g.frames) n h

  -- procedures
  closures_in : (m : ℕ) (ls : List ℕ) (r : Env) → EnvIn m r → Every (ItemIn p m) (closures X ls r)
  closures_in m [] r h = tt
  closures_in m (l ∷ ls) r h = ((cut-in m (I l) r h, λ y i. (cut-names (I l) r y i).0), closures_in m ls r h)

  closures_length : (ls : List ℕ) (r : Env) → length (closures X ls r) ≡ length ls
  closures_length [] r = refl
  closures_length (l ∷ ls) r = ap suc (closures_length ls r)

  bind_procedures : (c : Config) (xs ls : List ℕ) (e : Tree) (r : Env) (es : List Event) → ConfigIn p c → length xs ≡ length ls →
      IsApart xs → NamesNone xs r → Each (NodeIn p) e → EnvIn (length c.store) r →
      StateIn p (Reference.bind_procedures X c xs ls e (bind_from xs (length c.store) r) es)
  bind_procedures c xs ls e r es g len a other n h =
      let now = bind_from xs (length c.store) r in
      let boxes = located xs (length c.store + length xs) in
      let is = boxes ++ closures X ls now in
      let m = length (c.store ++ is) in
      let whole = length-append c.store is in
      let parts = length-append boxes (closures X ls now) in
      let few = located-length xs (length c.store + length xs) in
      let many = closures_length ls now in
      let b = bound-in m xs (length c.store) r (omega arith) a other (env-more (length c.store) m (omega arith) r h) in
      made c (Bound e now) c.frames is g g.frames
      (every-append (ItemIn p m) boxes _ (located-in p m xs _ (omega arith)) (closures_in m ls now b)) (n, b)

  constant : (n : ℕ) (k : Const) → ConstKeeps (length p.statics) k → length p.statics ≤ n → ValueIn n (value_of k)
  constant n (Const.Stat m) h le = omega arith
  constant n (Const.Fix z) h le = tt
  constant n (Const.Char z) h le = tt
  constant n (Const.Bool z) h le = tt
  constant n Const.Nil h le = tt
  constant n Const.Unspecified h le = tt
  constant n Const.Undefined h le = tt

  eval_form : (c : Config) (q : Place) (s : ℕ) (f : Form) (r : Env) (es : List Event) → ConfigIn p c → NodeIn p s f →
      EachForm (NodeIn p) f → EnvIn (length c.store) r → NamesAmong (free_form I f) r →
      StateIn p (Reference.eval_form X c q s f r es)
  eval_form c q s (Quote k) r es g n parts h w = go c _ c.frames g g.frames (constant (length c.store) k ((n.0).0).in_range g.statics)
  eval_form c q s (Local y) r es g n parts h w = read_value c q _ es g (local c (lookup r y) g)
  eval_form c q s (Global v) r es g n parts h w = read_value c q _ es g (every-at (ValueIn (length c.store)) c.globals v g.globals)
  eval_form c q s (Lambda l) r es g n parts h w =
      let is = Clo l (cut (I l) r) ∷ [] in
      let lt : length c.store < length (c.store ++ is) = omega (arith, length-append c.store is) in
      made c _ c.frames is g g.frames
      (closures_in (length (c.store ++ is)) (l ∷ []) r (env-more (length c.store) (length (c.store ++ is)) (omega arith) r h)) lt
  eval_form c q s (If a b d) r es g n parts h w =
      eval c a r _ g ((parts.1, parts.2, cut-in (length c.store) _ r h), g.frames) parts.0 h
  eval_form c q s (SetLocal y e) r es g n parts h w = set_local c (lookup r y) e r es g (found-in (length c.store) r y h.locations) parts h
  eval_form c q s (SetGlobal v e) r es g n parts h w = eval c e r _ g (tt, g.frames) parts h
  eval_form c q s (DefGlobal v e) r es g n parts h w = eval c e r _ g (tt, g.frames) parts h
  eval_form c q s (Seq ds) r es g n parts h w = sequence c ds r c.frames es g g.frames parts h
  eval_form c q s (Letrec xs ls e) r es g n parts h w =
      let inside = without xs (of_lambdas I ls ++ free I e) in
      bind_procedures c xs ls e (cut inside r) es g ((n.0).0).shaped n.1
      (λ y i j. without-out xs _ y (cut-names inside r y j).0 i) parts (cut-in (length c.store) inside r h)
  eval_form c q s (Call f ds) r es g n parts h w = first_operand c q s (Call f ds) r es g refl n parts h w
  eval_form c q s (PrimUse pr ds) r es g n parts h w = first_operand c q s (PrimUse pr ds) r es g refl n parts h w
  eval_form c q s (Apply f l) r es g n parts h w = first_operand c q s (Apply f l) r es g refl n parts h w
  eval_form c q s (Let xs ds e) r es g n parts h w = first_operand c q s (Let xs ds e) r es g refl n parts h w

  -- the body of a procedure
  lambda_at : (ls : List LambdaTree) (m : ℕ) (l : LambdaTree) → Every (LambdaKeeps p) ls → slice_get ls m ≡ Some l →
      LambdaKeeps p l
  lambda_at ls m l h e = subst (IfThere (LambdaKeeps p)) e (every-at (LambdaKeeps p) ls m h)

  body : (m : ℕ) (l : LambdaTree) → slice_get p.lambdas m ≡ Some l → Each (NodeIn p) l.body
  body m l e =
      both (NodeOk p) (Binds I) l.body
      (both (NodeKeeps p) _ l.body (lambda_at p.lambdas m l rules.lambdas e).nodes (bodies-have-lines p rules m l e)) (body-binds p rules m l e)

  -- its parameters are apart, and not in its environment
  parameters_new : (m : ℕ) (l : LambdaTree) (r : Env) → slice_get p.lambdas m ≡ Some l → NamesAmong (I m) r →
      NamesNone (parameters l) r
  parameters_new m l r e w y i j =
      without-out (parameters l) _ y (subst (IsIn y) (free-of-lambda p m l rules.inner_greater e) (w y j)) i

  bind_parameters : (c : Config) (m : ℕ) (l : LambdaTree) (o : Option ℕ) (vs : List Value) (r : Env) (es : List Event) →
      ConfigIn p c → slice_get p.lambdas m ≡ Some l → l.rest ≡ o → EnvIn (length c.store) r → NamesAmong (I m) r →
      Every (ValueIn (length c.store)) vs → takes l o (length vs) ≡ true → StateIn p (Reference.bind_parameters X c l o vs r es)
  bind_parameters c m l None vs r es g e q h w v t =
      let n = eqb-true (length l.formals) (length vs) t in
      let names : parameters l ≡ l.formals = ap (λ v. l.formals ++ option_list v) q ∙ append-nil l.formals in
      let many = length-map vs Var in
      bind_values c l.body l.formals r (vars vs) (length c.store) c.frames g g.frames (body m l e)
      (vars-in p _ vs (values_in_more c (vars vs) vs v)) (omega (arith, length-append c.store (vars vs)))
      (subst IsApart names (parameters-apart p rules m l e))
      (subst (λ xs. NamesNone xs r) names (parameters_new m l r e w)) h
  bind_parameters c m l (Some z) vs r es g e q h w v t =
      let n = length c.store in
      let k = length l.formals in
      let xs = l.formals ++ z ∷ [] in
      let names : parameters l ≡ xs = ap (λ o. l.formals ++ option_list o) q in
      let wide = length-append l.formals (z ∷ []) in
      let last = list_value (drop k vs) n in
      let ws = take k vs ++ last ∷ [] in
      let pairs = list_items (drop k vs) n in
      let is = pairs ++ vars ws in
      let m1 = length (c.store ++ is) in
      let whole = length-append c.store is in
      let both = length-append pairs (vars ws) in
      let some = list-length (drop k vs) n in
      let held = length-map ws Var in
      let taken = length-take-le k vs (leb-true k (length vs) t) in
      let many = length-append (take k vs) (last ∷ []) in
      let more = values_in_more c is vs v in
      bind_values c l.body xs r is (n + length pairs) c.frames g g.frames (body m l e)
      (every-append (ItemIn p m1) pairs (vars ws)
      (list-in p m1 (drop k vs) n (omega arith) (every-drop (ValueIn m1) k vs more))
      (vars-in p m1 ws (every-append (ValueIn m1) (take k vs) (last ∷ []) (every-take (ValueIn m1) k vs more)
      (list-value-in m1 (drop k vs) n (omega arith), tt))))
      (omega arith) (subst IsApart names (parameters-apart p rules m l e))
      (subst (λ ys. NamesNone ys r) names (parameters_new m l r e w)) h

  enter_lambda : (c : Config) (m : ℕ) (o : Option LambdaTree) (vs : List Value) (r : Env) (es : List Event) → ConfigIn p c →
      slice_get p.lambdas m ≡ o → EnvIn (length c.store) r → NamesAmong (I m) r → Every (ValueIn (length c.store)) vs →
      StateIn p (Reference.enter_lambda X c o vs r es)
  enter_lambda c m None vs r es g e h w v = g
  enter_lambda c m (Some l) vs r es g e h w v =
      by_test (takes l l.rest (length vs)) _ _ (λ t. bind_parameters c m l l.rest vs r es g e refl h w v t) g

  entering : (c : Config) (o : Option Item) (vs : List Value) (es : List Event) → ConfigIn p c →
      IfThere (ItemIn p (length c.store)) o → Every (ValueIn (length c.store)) vs → StateIn p (Reference.entering X c o vs es)
  entering c (Some (Clo m r)) vs es g h v = enter_lambda c m _ vs r es g refl h.0 h.1 v
  entering c _ vs es g h v = g

  -- values that are given to frames
  assigned : (c : Config) (l : ℕ) (v : Value) (fs : List Frame) (es : List Event) → ConfigIn p c →
      FramesIn p (length c.store) fs → ValueIn (length c.store) v → StateIn p (Reference.assign_global c l v fs es)
  assigned c l v fs es g f h = record {
    statics = g.statics;
    store = g.store;
    globals = every-set (ValueIn (length c.store)) c.globals l v g.globals h;
    frames = f;
    control = tt;
  }

  set_global : (c : Config) (l : ℕ) (q : Place) (v : Value) (o : Option Value) (fs : List Frame) (es : List Event) →
      ConfigIn p c → FramesIn p (length c.store) fs → ValueIn (length c.store) v →
      StateIn p (Reference.set_global c l q v o fs es)
  set_global c l q v None fs es g f h = g
  set_global c l q v (Some Undefined) fs es g f h = g
  set_global c l q v (Some w) fs es g f h = assigned c l v fs es g f h

  top : (c : Config) (n : ℕ) (o : Option Tree) (fs : List Frame) (es : List Event) → ConfigIn p c →
      FramesIn p (length c.store) fs → tree_at p.forms n ≡ o → StateIn p (Reference.top X c n o fs es)
  top c n None fs es g f e = g
  top c n (Some d) fs es g f e =
      eval c d Empty _ g (tt, f)
      (each-at (NodeIn p) p.forms n d (both_all (NodeOk p) (Binds I) p.forms (both_all (NodeKeeps p) _ p.forms rules.forms (forms-have-lines p rules)) (forms-bind p rules)) e)
      (empty-in (length c.store))

  give : (c : Config) (v : Value) (w : Work) (fs : List Frame) (es : List Event) → ConfigIn p c → FramesIn p (length c.store) fs →
      WorkIn p (length c.store) w → ValueIn (length c.store) v → StateIn p (Reference.give X c v w fs es)
  give c v (Sel a b r) fs es g f h i = by_test (is_false v) _ _ (λ e. eval c b r fs g f h.1 h.2) (eval c a r fs g f h.0 h.2)
  give c v (SetVar l) fs es g f h i = changed c l (Var v) fs g f i
  give c v (SetGlo l true q) fs es g f h i = assigned c l v fs es g f i
  give c v (SetGlo l false q) fs es g f h i = set_global c l q v _ fs es g f i
  give c v (Rest ds r) fs es g f h i = sequence c ds r fs es g f h.0 h.1
  give c v (Args q s d vs r) fs es g f h i =
      operands_left c q s d (vs ++ v ∷ []) r _ fs es g f
      (record {
        ordered = h.ordered;
        node = h.node;
        parts = h.parts;
        values = every-append (ValueIn (length c.store)) vs (v ∷ []) h.values (i, tt);
        env = h.env;
        fresh = h.fresh;
      }) refl
  give c v (Top k) fs es g f h i = top c k _ fs es g f refl

  give_top : (c : Config) (v : Value) (fs : List Frame) (es : List Event) → ConfigIn p c → FramesIn p (length c.store) fs →
      ValueIn (length c.store) v → StateIn p (Reference.give_top X c v fs es)
  give_top c v [] es g f i = g
  give_top c v (d ∷ fs) es g f i = by_test d.marked _ _ (λ e. go c (Val v) _ g f i) (give c v d.work fs es g f.1 f.0 i)

  step_control : (c : Config) (k : Control) (es : List Event) → ConfigIn p c → ControlIn p (length c.store) k →
      StateIn p (Reference.step_control X c k es)
  step_control c (Eval (Node q s f) r) es g h = eval_form c q s f r es g (h.0).0 (h.0).1 h.1 h.2
  step_control c (Bound e r) es g h = eval c e r c.frames g g.frames h.0 h.1
  step_control c (Val v) es g h = give_top c v c.frames es g g.frames h
  step_control c (Entering l vs) es g h = entering c _ vs es g (every-at (ItemIn p (length c.store)) c.store l g.store) h.1

  step : (s : State) → StateIn p s → StateIn p (Reference.step X s)
  step (Running c es) g = step_control c c.control es g g.control
  step (Stopped c es) g = g
  step (Lost c es) g = g

  steps : (k : ℕ) (s : State) → StateIn p s → StateIn p (run (Reference.step X) k s)
  steps zero s g = g
  steps (suc k) s g = steps k (Reference.step X s) (step s g)

  -- static objects name earlier ones
  part : (k n : ℕ) (c : Const) → k ≤ n → PartKeeps k c → ValueIn n (value_of c)
  part k n (Const.Stat m) le h = omega arith
  part k n (Const.Fix z) le h = tt
  part k n (Const.Char z) le h = tt
  part k n (Const.Bool z) le h = tt
  part k n Const.Nil le h = tt
  part k n Const.Unspecified le h = tt
  part k n Const.Undefined le h = tt

  parts_in : (k n : ℕ) (cs : List Const) → k ≤ n → Every (PartKeeps k) cs → Every (ValueIn n) (map value_of cs)
  parts_in k n [] le h = tt
  parts_in k n (c ∷ cs) le h = (part k n c le h.0, parts_in k n cs le h.1)

  statics_in : (n k : ℕ) (ss : List Static) → k + length ss ≤ n → StaticsKeep k ss → Every (ItemIn p n) (map static_item ss)
  statics_in n k [] le h = tt
  statics_in n k (Static.Pair a b ∷ ss) le h = ((part k n a (omega arith) (h.0).0, part k n b (omega arith) (h.0).1), statics_in n (suc k) ss (omega arith) h.1)
  statics_in n k (Static.Vector cs ∷ ss) le h = (parts_in k n cs (omega arith) (h.0).1, statics_in n (suc k) ss (omega arith) h.1)
  statics_in n k (Static.Str bs ∷ ss) le h = (tt, statics_in n (suc k) ss (omega arith) h.1)
  statics_in n k (Static.Sym bs ∷ ss) le h = (tt, statics_in n (suc k) ss (omega arith) h.1)

  start : (input : List ℕ) → ConfigIn p (Reference.start_of p input)
  start input =
      let same = length-map p.statics static_item in
      record {
        statics = omega arith;
        store = statics_in (length (map static_item p.statics)) 0 p.statics (omega arith) rules.statics;
        globals = every-copies (ValueIn (length (map static_item p.statics))) (length p.globals) Undefined tt;
        frames = (tt, tt);
        control = tt;
      }

  pub named-at : (input : List ℕ) (n : ℕ) → StateIn p (after (reference p (order_of p) input) n)
  named-at input n = steps n _ (start input)
