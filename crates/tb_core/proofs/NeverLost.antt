-- A run of a program that keeps its rules, in its own order, always has a next step until it stops; and what
-- stands in its store keeps its size.
use Rattle.std.proofs.Common.{◌≡◌, refl, sym, ap, ◌∙◌, subst, ℕ, zero, suc, ◌+◌, ◌<◌, ◌≤◌, inl, inr, ⊎_elim, arith, Bool, true, false, cond, List, [], ◌∷◌, ◌++◌, length, take, drop, map, Option, Some, None, slice_get, length-append, length-set, append-nil}
use Rattle.std.proofs.lemmas.Bool.{eqb-true, leb-true}
use Rattle.std.proofs.lemmas.List.{length-replicate}
use Rattle.std.proofs.lemmas.Option.{same_Some}
use Rattle.tb_prim.specs.declared.place.Place.{Place}
use Rattle.tb_prim.specs.declared.constant.Static.{Static}
use Rattle.tb_prim.specs.declared.event.Event.{Event}
use Rattle.tb_semantics.specs.Graph.{IsIn}
use Rattle.tb_semantics.specs.Runs.{run, after}
use Rattle.tb_semantics.proofs.RunLaws.{run-add}
use Rattle.tb_core.specs.Tree.{Tree, Node, Form, Quote, Local, Global, Lambda, If, SetLocal, SetGlobal, DefGlobal, Let, Letrec, Seq, Call, PrimUse, Apply, Trees, none, more, count, tree_at, LambdaTree, ProgramTree, parameters, option_list}
use Rattle.tb_core.specs.FreeVariables.{is_in, without, of_lambdas, free, free_form, free_all, inner_free, is_assigned}
use Rattle.tb_core.specs.OperandOrder.{operands, has_order, line_at, order_of}
use Rattle.tb_core.specs.Store.{Value, Fix, Char, Truth, Nil, Unspecified, Undefined, EndObject, At, Env, Object, Item, Var, Obj, Clo, contents, lookup, cut, bind_from, static_item}
use Rattle.tb_core.specs.Effects.{Effect, is_false}
use Rattle.tb_core.specs.Space.{size_at, made, made_of}
use Rattle.tb_core.specs.Rules.{Every, Each, EachForm, EachAll, NodeKeeps, LambdaKeeps, KeepsRules}
use Rattle.tb_core.specs.Events.{IsNotLost}
use Rattle.tb_core.specs.Lists.{Walked, Elements, TooLong, NoList, list_value}
use Rattle.tb_core.specs.Reference
use Rattle.tb_core.specs.Reference.{Control, Eval, Bound, Val, Entering, Work, Sel, SetVar, SetGlo, Rest, Args, Top, Frame, Config, State, Running, Stopped, Lost, free_of_numbers, free_of_body, arranged, vars, located, closures, list_items, takes, config_of, reference}
use Rattle.tb_core.proofs.Members.{in-left, in-right, in-either, in-without}
use Rattle.tb_core.proofs.Numbers.{free-of-lambda, forms-have-lines, bodies-have-lines}
use Rattle.tb_core.proofs.Lines.{line-within, line-all, line-length, tree-within, arranged-length}
use Rattle.tb_core.proofs.Fits.{Fit, gives, makes, changes, puts, takes as takes_input, peeks, fails, misused, fits}
use Rattle.tb_core.proofs.Stores
use Rattle.tb_core.proofs.Stores.{VarAt, Found, Covers, KeepsSizes, sizes-trans, sizes-made, Extends, covers-cut, covers-own, extends_refl, extends-append, extends-set, get-right, covers-bound, vars-at, vars-no-closure, located-at, located-no-closure, pairs-no-closure, SameKind, var_kind, obj_kind, content-object}
use Rattle.tb_core.proofs.Kept.{NodeOk, both, both_all, each-at, operand-each, let_free, let-free-body, free-at, covers-operands, own_context, CloOk, StoreOk, ControlOk, ArgsOk, WorkOk, FramesOk, IsAbove, EndsTop, Base, Later, After, store-append, store-set, go-ok, go-with-ok, base-push, base-mark}

got : {X : Type 0} (xs : List X) (n : ℕ) → n < length xs → (x : X) × (slice_get xs n ≡ Some x)
got [] n h = absurd (omega arith)
got (x ∷ xs) zero h = (x, refl)
got (x ∷ xs) (suc n) h = got xs n (omega arith)

every_at : {X : Type 0} (P : X → Type 0) (xs : List X) (n : ℕ) (x : X) → Every P xs → slice_get xs n ≡ Some x → P x
every_at P [] n x h e = cc
every_at P (y ∷ xs) zero x h e = subst P (same_Some y x e) h.0
every_at P (y ∷ xs) (suc n) x h e = every_at P xs n x h.1 e

every_in : {X : Type 0} (P : X → Type 0) (xs : List X) (x : X) → Every P xs → IsIn x xs → P x
every_in P [] x h i = absurd i
every_in P (y ∷ xs) x h (inl e) = subst P e h.0
every_in P (y ∷ xs) x h (inr i) = every_in P xs x h.1 i

in_lambdas : (inner : ℕ → List ℕ) (ls : List ℕ) (l y : ℕ) → IsIn l ls → IsIn y (inner l) → IsIn y (of_lambdas inner ls)
in_lambdas inner [] l y i j = absurd i
in_lambdas inner (k ∷ ls) l y (inl e) j = in-left y (inner k) _ (subst (λ v. IsIn y (inner v)) (sym e) j)
in_lambdas inner (k ∷ ls) l y (inr i) j = in-right y (inner k) _ (in_lambdas inner ls l y i j)

in_closures : (p : ProgramTree) (ls : List ℕ) (r : Env) (m : ℕ) (q : Env) → IsIn (Clo m q) (closures (own_context p) ls r) → IsIn m ls × (cut (inner_free p m) r ≡ q)
in_closures p [] r m q i = absurd i
in_closures p (l ∷ ls) r m q (inl e) = let s : l ≡ m = cc in (inl s, let t : cut (inner_free p l) r ≡ q = cc in ap (λ v. cut (inner_free p v) r) (sym s) ∙ t)
in_closures p (l ∷ ls) r m q (inr i) = let h = in_closures p ls r m q i in (inr h.0, h.1)

drop_at : (k : ℕ) (xs : List ℕ) (n : ℕ) (ns : List ℕ) → n ∷ ns ≡ drop k xs → (drop (suc k) xs ≡ ns) × (k < length xs) × IsIn n xs
drop_at zero [] n ns h = cc
drop_at zero (x ∷ xs) n ns h = (cc, omega arith, inl cc)
drop_at (suc k) [] n ns h = cc
drop_at (suc k) (x ∷ xs) n ns h = let r = drop_at k xs n ns h in (r.0, omega (arith, r.1), inr r.2)

drop_none : (k : ℕ) (xs : List ℕ) → [] ≡ drop k xs → length xs ≤ k
drop_none k [] h = omega arith
drop_none zero (x ∷ xs) h = cc
drop_none (suc k) (x ∷ xs) h = let r = drop_none k xs h in omega arith

take_length : (k : ℕ) (vs : List Value) → k ≤ length vs → length (take k vs) ≡ k
take_length zero vs h = refl
take_length (suc k) [] h = absurd (omega arith)
take_length (suc k) (v ∷ vs) h = ap suc (take_length k vs (omega arith))

own_sizes : (p : ProgramTree) (st : List Item) (s : State) → Later p st s → Later p (config_of s).store s
own_sizes p st (Running c es) h = (h.0, h.1, λ l. omega arith)
own_sizes p st (Stopped c es) h = λ l. omega arith
own_sizes p st (Lost c es) h = h

sizes_of : (p : ProgramTree) (st : List Item) (s : State) → Later p st s → KeepsSizes st (config_of s).store
sizes_of p st (Running c es) h = h.2
sizes_of p st (Stopped c es) h = h
sizes_of p st (Lost c es) h = absurd h

made_after : (p : ProgramTree) (st : List Item) (s : State) → Later p st s → After p (made st) s
made_after p st (Running c es) h = (h.0, h.1, sizes-made st c.store h.2)
made_after p st (Stopped c es) h = sizes-made st c.store h
made_after p st (Lost c es) h = h

module _ (p : ProgramTree) (rules : KeepsRules p) where
  abbrev I : ℕ → List ℕ
  I = inner_free p

  -- the body of a lambda expression
  body_ok : (m : ℕ) (l : LambdaTree) → slice_get p.lambdas m ≡ Some l → Each (NodeOk p) l.body
  body_ok m l e = both (NodeKeeps p) (λ s f. _) l.body (every_at (LambdaKeeps p) p.lambdas m l rules.lambdas e).nodes (bodies-have-lines p rules m l e)

  forms_ok : EachAll (NodeOk p) p.forms
  forms_ok = both_all (NodeKeeps p) (λ s f. _) p.forms rules.forms (forms-have-lines p rules)

  read_value : (c : Config) (q : Place) (v : Value) (es : List Event) → Base p c c.frames → Later p c.store (Reference.read_value c q (Some v) es)
  read_value c q Undefined es b = λ k. omega arith
  read_value c q (Fix n) es b = go-ok p c _ _ es b tt
  read_value c q (Char n) es b = go-ok p c _ _ es b tt
  read_value c q (Truth n) es b = go-ok p c _ _ es b tt
  read_value c q Nil es b = go-ok p c _ _ es b tt
  read_value c q Unspecified es b = go-ok p c _ _ es b tt
  read_value c q EndObject es b = go-ok p c _ _ es b tt
  read_value c q (At l) es b = go-ok p c _ _ es b tt

  read_some : (c : Config) (q : Place) (o : Option Value) (v : Value) (es : List Event) → o ≡ Some v → Base p c c.frames → Later p c.store (Reference.read_value c q o es)
  read_some c q o v es e b = subst (λ w. Later p c.store (Reference.read_value c q w es)) (sym e) (read_value c q v es b)

  -- an expression whose environment is cut to it
  eval_ok : (c : Config) (e : Tree) (r : Env) (fs : List Frame) (es : List Event) → Base p c fs → Each (NodeOk p) e → Covers c.store (free I e) r → Later p c.store (Reference.go c (Reference.eval (own_context p) e r) fs es)
  eval_ok c e r fs es b n h = go-ok p c _ fs es b (n, covers-own c.store (free I e) r h)

  sequence : (c : Config) (ds : Trees) (r : Env) (fs : List Frame) (es : List Event) → Base p c fs → EachAll (NodeOk p) ds → 1 ≤ count ds → Covers c.store (free_all I ds) r → Later p c.store (Reference.sequence (own_context p) c ds r fs es)
  sequence c none r fs es b n l h = absurd (omega arith)
  sequence c (more e none) r fs es b n l h = eval_ok c e r fs es b n.0 (λ y i. h y (in-left y (free I e) _ i))
  sequence c (more e (more d ds)) r fs es b n l h =
      eval_ok c e r _ es
      (base-push p c _ fs b (n.1, omega arith, covers-own c.store (free_all I (more d ds)) r (λ y i. h y (in-right y (free I e) _ i))))
      n.0 (λ y i. h y (in-left y (free I e) _ i))

  enter_at : (c : Config) (q : Place) (l : ℕ) (o : Option Item) (vs : List Value) (fs : List Frame) (es : List Event) → Base p c fs → slice_get c.store l ≡ o → Later p c.store (Reference.enter_at c q l o vs fs es)
  enter_at c q l (Some (Clo m r)) vs fs es b e = go-ok p c _ _ es (base-mark p c fs b) (m, r, e)
  enter_at c q l _ vs fs es b e = λ k. omega arith

  enter : (c : Config) (q : Place) (v : Value) (vs : List Value) (fs : List Frame) (es : List Event) → Base p c fs → Later p c.store (Reference.enter c q v vs fs es)
  enter c q (At l) vs fs es b = enter_at c q l _ vs fs es b refl
  enter c q _ vs fs es b = λ k. omega arith

  apply_to : (c : Config) (q : Place) (l m : ℕ) (r : Env) (w : Walked) (fs : List Frame) (es : List Event) → Base p c fs → slice_get c.store l ≡ Some (Clo m r) → Later p c.store (Reference.apply_to c q l m w fs es)
  apply_to c q l m r (Elements vs) fs es b e = go-ok p c _ _ es (base-mark p c fs b) (m, r, e)
  apply_to c q l m r TooLong fs es b e = λ k. omega arith
  apply_to c q l m r NoList fs es b e = λ k. omega arith

  apply_at : (c : Config) (q : Place) (l : ℕ) (o : Option Item) (v : Value) (fs : List Frame) (es : List Event) → Base p c fs → slice_get c.store l ≡ o → Later p c.store (Reference.apply_at c q l o v fs es)
  apply_at c q l (Some (Clo m r)) v fs es b e = apply_to c q l m r _ fs es b e
  apply_at c q l _ v fs es b e = λ k. omega arith

  apply : (c : Config) (q : Place) (v w : Value) (fs : List Frame) (es : List Event) → Base p c fs → Later p c.store (Reference.apply c q v w fs es)
  apply c q (At l) w fs es b = apply_at c q l _ w fs es b refl
  apply c q _ w fs es b = λ k. omega arith

  -- the same where the input alone is another
  input_ok : (c : Config) (bs : List ℕ) (met : Bool) (v : Value) (fs : List Frame) (es : List Event) → Base p c fs → Later p c.store (Reference.go (record c { input = bs; met_end = met }) (Val v) fs es)
  input_ok c bs met v fs es b = (record { store = b.store; globals = b.globals; frames = b.frames; bottom = b.bottom }, tt, λ k. omega arith)

  take_input : (c : Config) (met : Bool) (bs : List ℕ) (fs : List Frame) (es : List Event) → Base p c fs → Later p c.store (Reference.take_input c met bs fs es)
  take_input c true bs fs es b = go-ok p c _ fs es b tt
  take_input c false [] fs es b = input_ok c c.input true _ fs es b
  take_input c false (x ∷ bs) fs es b = input_ok c bs c.met_end _ fs es b

  peek_input : (c : Config) (met : Bool) (bs : List ℕ) (fs : List Frame) (es : List Event) → Base p c fs → Later p c.store (Reference.peek_input c met bs fs es)
  peek_input c true bs fs es b = go-ok p c _ fs es b tt
  peek_input c false [] fs es b = input_ok c c.input true _ fs es b
  peek_input c false (x ∷ bs) fs es b = go-ok p c _ fs es b tt

  one_object : (m : ℕ) (r : Env) (o : Object) → IsIn (Clo m r) (Obj o ∷ []) → ⊥
  one_object m r o (inl e) = cc
  one_object m r o (inr j) = absurd j

  perform : (c : Config) (q : Place) (f : Effect) (fs : List Frame) {right : Type 0} (es : List Event) → right → Base p c fs → Fit (contents c.store) right f → Later p c.store (Reference.perform c q f fs es)
  perform c q _ fs es ok b gives = go-ok p c _ fs es b tt
  perform c q _ fs es ok b (makes {o = o}) =
      go-with-ok p c _ fs _ es b (extends-append c.store (Obj o ∷ []))
      (store-append p c.store (Obj o ∷ []) b.store (λ m r j. absurd (one_object m r o j))) tt
  perform c q _ fs es ok b (changes {l = l} {o = o} old e k) =
      let here = content-object (slice_get c.store l) old e in
      let kind = obj_kind old o k in
      go-with-ok p c _ fs _ es b (extends-set c.store l (Obj old) (Obj o) here kind)
      (store-set p c.store l (Obj old) (Obj o) here kind b.store) tt
  perform c q _ fs es ok b puts = go-ok p c _ fs es b tt
  perform c q _ fs es ok b takes_input = take_input c _ _ fs es b
  perform c q _ fs es ok b peeks = peek_input c _ _ fs es b
  perform c q _ fs es ok b fails = λ k. omega arith
  perform c q _ fs es ok b (misused wrong) = absurd (wrong ok)

  -- the variables of a `let` are made, and its body is evaluated
  let_body : (c : Config) (xs : List ℕ) (e : Tree) (vs : List Value) (r : Env) (fs : List Frame) (es : List Event) → Base p c fs → Each (NodeOk p) e → length xs ≡ length vs → Covers c.store (without xs (free I e)) r → Later p c.store (Reference.go_with c (Reference.eval (own_context p) e (bind_from xs (length c.store) r)) fs (c.store ++ vars vs) es)
  let_body c xs e vs r fs es b n l h =
      let st = c.store ++ vars vs in
      let at : (i : ℕ) → i < length xs → VarAt st (length c.store + i) = λ i q. let v = vars-at vs i (omega arith) in (v.0, get-right c.store (vars vs) _ i refl ∙ v.1) in
      go-with-ok p c _ fs st es b (extends-append c.store (vars vs))
      (store-append p c.store (vars vs) b.store (λ m q j. absurd (vars-no-closure vs m q j)))
      (n, covers-own st (free I e) _ (covers-bound c.store st xs (length c.store) r (free I e) (extends-append c.store (vars vs)) at (λ y i q. h y (in-without xs (free I e) y i q))))

  complete : (c : Config) (q : Place) (s : ℕ) (f : Form) (vs : List Value) (r : Env) (fs : List Frame) (es : List Event) → Base p c fs → has_order f ≡ true → NodeKeeps p s f → EachForm (NodeOk p) f → length vs ≡ count (operands f) → Covers c.store (let_free I f) r → Later p c.store (Reference.complete (own_context p) c q f vs r fs es)
  complete c q s (Call f ds) [] r fs es b o k n l h = absurd (omega arith)
  complete c q s (Call f ds) (v ∷ vs) r fs es b o k n l h = enter c q v vs fs es b
  complete c q s (Apply f g) [] r fs es b o k n l h = absurd (omega arith)
  complete c q s (Apply f g) (v ∷ []) r fs es b o k n l h = absurd (omega arith)
  complete c q s (Apply f g) (v ∷ w ∷ []) r fs es b o k n l h = apply c q v w fs es b
  complete c q s (Apply f g) (v ∷ w ∷ u ∷ vs) r fs es b o k n l h = absurd (omega arith)
  complete c q s (PrimUse pr ds) vs r fs es b o k n l h = perform c q _ fs es (l ∙ k.shaped) b (fits (contents c.store) pr vs)
  complete c q s (Let xs ds e) vs r fs es b o k n l h = let_body c xs e vs r fs es b n.1 (k.shaped ∙ sym l) h
  complete c q s _ vs r fs es b o k n l h = cc

  -- the line of a node has as many numbers as the node has operands
  line_count : (s : ℕ) (f : Form) → has_order f ≡ true → NodeOk p s f → length (line_at (order_of p) s) ≡ count (operands f)
  line_count s f o k = ap length (k.1 o) ∙ line-length (is_assigned p) (operands f)

  operand : (c : Config) (q : Place) (s : ℕ) (f : Form) (vs : List Value) (r : Env) (n : ℕ) (ns : List ℕ) (t : Option Tree) (fs : List Frame) (es : List Event) → Base p c fs → has_order f ≡ true → NodeOk p s f → EachForm (NodeOk p) f → n ∷ ns ≡ drop (length vs) (line_at (order_of p) s) → tree_at (operands f) n ≡ t → Covers c.store (free_of_numbers (own_context p) (operands f) (n ∷ ns) ++ let_free I f) r → Later p c.store (Reference.operand (own_context p) c q s f vs r ns t fs es)
  operand c q s f vs r n ns None fs es b o k parts d e h =
      let m = drop_at (length vs) (line_at (order_of p) s) n ns d in
      let t = tree-within (operands f) n (line-within (is_assigned p) (operands f) n (subst (IsIn n) (k.1 o) m.2)) in
      let no_tree : None ≡ Some t.0 = sym e ∙ t.1 in
      cc
  operand c q s f vs r n ns (Some a) fs es b o k parts d e h =
      let m = drop_at (length vs) (line_at (order_of p) s) n ns d in
      let X = own_context p in
      let first : Covers c.store (free I a) r = λ y i. h y (in-left y (free_of_numbers X (operands f) (n ∷ ns)) _ (in-left y (Reference.free_of_tree X (tree_at (operands f) n)) _ (subst (λ t. IsIn y (Reference.free_of_tree X t)) (sym e) i))) in
      let rest : Covers c.store (free_of_numbers X (operands f) ns ++ let_free I f) r = λ y i. h y (⊎_elim (λ j. in-left y (free_of_numbers X (operands f) (n ∷ ns)) _ (in-right y (Reference.free_of_tree X (tree_at (operands f) n)) _ j)) (λ j. in-right y (free_of_numbers X (operands f) (n ∷ ns)) _ j) (in-either y (free_of_numbers X (operands f) ns) _ i)) in
      let wider : (y : ℕ) → IsIn y (free_of_numbers X (operands f) ns ++ let_free I f) → IsIn y (free_of_numbers X (operands f) ns ++ free_of_body X f) = λ y i. ⊎_elim (λ j. in-left y (free_of_numbers X (operands f) ns) _ j) (λ j. in-right y (free_of_numbers X (operands f) ns) _ (let-free-body X f y j)) (in-either y (free_of_numbers X (operands f) ns) _ i) in
      let kept = covers-cut c.store (free_of_numbers X (operands f) ns ++ free_of_body X f) (free_of_numbers X (operands f) ns ++ let_free I f) r wider rest in
      let args : ArgsOk p c.store s f vs (cut (free_of_numbers X (operands f) ns ++ free_of_body X f) r) = record { ordered = o; node = k; parts = parts; short = m.1; covers = subst (λ v. Covers c.store (free_of_numbers X (operands f) v ++ let_free I f) (cut (free_of_numbers X (operands f) ns ++ free_of_body X f) r)) (sym m.0) kept } in
      eval_ok c a r _ es (base-push p c (Args q s f vs (cut (free_of_numbers X (operands f) ns ++ free_of_body X f) r)) fs b args) (operand-each (NodeOk p) f n a parts e) first

  operands_left : (c : Config) (q : Place) (s : ℕ) (f : Form) (vs : List Value) (r : Env) (ns : List ℕ) (fs : List Frame) (es : List Event) → Base p c fs → has_order f ≡ true → NodeOk p s f → EachForm (NodeOk p) f → ns ≡ drop (length vs) (line_at (order_of p) s) → length vs ≤ length (line_at (order_of p) s) → Covers c.store (free_of_numbers (own_context p) (operands f) ns ++ let_free I f) r → Later p c.store (Reference.operands_left (own_context p) c q s f vs r ns fs es)
  operands_left c q s f vs r [] fs es b o k parts d le h =
      let line = line_at (order_of p) s in
      let size = line_count s f o k in
      let all : (j : ℕ) → j < length line → IsIn j line = λ j lt. subst (IsIn j) (sym (k.1 o)) (line-all (is_assigned p) (operands f) j (omega arith)) in
      let len = arranged-length 0 (length line) line vs (λ j lt. all j (omega arith)) (drop_none (length vs) line d) in
      complete c q s f (arranged 0 (length line) line vs) r fs es b o k.0 parts (len ∙ size) h
  operands_left c q s f vs r (n ∷ ns) fs es b o k parts d le h = operand c q s f vs r n ns _ fs es b o k parts d refl h

  first_operand : (c : Config) (q : Place) (s : ℕ) (f : Form) (r : Env) (es : List Event) → Base p c c.frames → has_order f ≡ true → NodeOk p s f → EachForm (NodeOk p) f → Covers c.store (free_form I f) r → Later p c.store (Reference.operands_left (own_context p) c q s f [] r (line_at (order_of p) s) c.frames es)
  first_operand c q s f r es b o k parts h =
      operands_left c q s f [] r (line_at (order_of p) s) c.frames es b o k parts refl (omega arith) (covers-operands (own_context p) c.store f (line_at (order_of p) s) r o h)

  set_local : (c : Config) (o : Option ℕ) (l : ℕ) (e : Tree) (r : Env) (es : List Event) → Base p c c.frames → o ≡ Some l → VarAt c.store l → Each (NodeOk p) e → Covers c.store (free I e) r → Later p c.store (Reference.set_local (own_context p) c o e r es)
  set_local c None l e r es b q v n h = cc
  set_local c (Some k) l e r es b q v n h =
      eval_ok c e r _ es (base-push p c (SetVar k) c.frames b (subst (VarAt c.store) (sym (same_Some k l q)) v)) n h

  make_closure : (c : Config) (l : ℕ) (r : Env) (es : List Event) → Base p c c.frames → l < length p.lambdas → Covers c.store (I l) r → Later p c.store (Reference.go_with c (Val (At (length c.store))) c.frames (c.store ++ Clo l (cut (I l) r) ∷ []) es)
  make_closure c l r es b lt h =
      let g = got p.lambdas l lt in
      let is = Clo l (cut (I l) r) ∷ [] in
      go-with-ok p c _ c.frames (c.store ++ is) es b (extends-append c.store is)
      (store-append p c.store is b.store (λ m q j. ⊎_elim
      (λ e.
      let s : l ≡ m = cc in
      let t : cut (I l) r ≡ q = cc in
      subst (λ v. CloOk p (c.store ++ is) v q) s (subst (CloOk p (c.store ++ is) l) t (record { lambda = g.0; known = g.1; covers = Stores.covers-extends c.store (c.store ++ is) (I l) (cut (I l) r) (extends-append c.store is) (covers-own c.store (I l) r h) })))
      (λ x. absurd x)
      j))
      tt

  bind_procedures : (c : Config) (xs ls : List ℕ) (e : Tree) (r : Env) (es : List Event) → Base p c c.frames → length xs ≡ length ls → Every (λ l. l < length p.lambdas) ls → Each (NodeOk p) e → Covers c.store (without xs (of_lambdas I ls ++ free I e)) r → Later p c.store (Reference.bind_procedures (own_context p) c xs ls e (bind_from xs (length c.store) (cut (without xs (of_lambdas I ls ++ free I e)) r)) es)
  bind_procedures c xs ls e r es b len lts n h =
      let all = of_lambdas I ls ++ free I e in
      let inside = cut (without xs all) r in
      let now = bind_from xs (length c.store) inside in
      let is = located xs (length c.store + length xs) ++ closures (own_context p) ls now in
      let st = c.store ++ is in
      let at : (i : ℕ) → i < length xs → VarAt st (length c.store + i) = λ i q. let v = located-at xs (closures (own_context p) ls now) (length c.store + length xs) i q in (v.0, get-right c.store is _ i refl ∙ v.1) in
      let whole : Covers st all now = covers-bound c.store st xs (length c.store) inside all (extends-append c.store is) at (λ y i q. covers-own c.store (without xs all) r h y (in-without xs all y i q)) in
      go-with-ok p c (Bound e now) c.frames st es b (extends-append c.store is)
      (store-append p c.store is b.store (λ m q j. ⊎_elim
      (λ k. absurd (located-no-closure xs _ m q k))
      (λ k.
      let f = in_closures p ls now m q k in
      let g = got p.lambdas m (every_in (λ l. l < length p.lambdas) ls m lts f.0) in
      subst (CloOk p st m) f.1 (record { lambda = g.0; known = g.1; covers = covers-own st (I m) now (λ y i. whole y (in-left y (of_lambdas I ls) _ (in_lambdas I ls m y f.0 i))) }))
      (in-either (Clo m q) (located xs (length c.store + length xs)) _ j)))
      (n, λ y i. whole y (in-right y (of_lambdas I ls) _ i))

  local_some : (c : Config) (o : Option ℕ) (l : ℕ) → o ≡ Some l → VarAt c.store l → (v : Value) × (Reference.local_value o c.store ≡ Some v)
  local_some c o l e v = (v.0, ap (λ w. Reference.local_value w c.store) e ∙ ap Reference.held_value v.1)

  eval_form : (c : Config) (q : Place) (s : ℕ) (f : Form) (r : Env) (es : List Event) → Base p c c.frames → NodeOk p s f → EachForm (NodeOk p) f → Covers c.store (free_form I f) r → Later p c.store (Reference.eval_form (own_context p) c q s f r es)
  eval_form c q s (Quote k) r es b n parts h = go-ok p c _ _ es b tt
  eval_form c q s (Local y) r es b n parts h =
      let f = h y (inl refl) in
      let v = local_some c (lookup r y) f.0 f.1 f.2 in
      read_some c q _ v.0 es v.1 b
  eval_form c q s (Global g) r es b n parts h =
      let e = b.globals in
      let lt : g < length p.globals = (n.0).in_range in
      let v = got c.globals g (omega arith) in
      read_some c q _ v.0 es v.1 b
  eval_form c q s (Lambda l) r es b n parts h = make_closure c l r es b (n.0).in_range h
  eval_form c q s (If a d e) r es b n parts h =
      eval_ok c a r _ es
      (base-push p c _ c.frames b (parts.1, parts.2, covers-own c.store (free I d ++ free I e) r (λ y i. h y (in-right y (free I a) _ i))))
      parts.0 (λ y i. h y (in-left y (free I a) _ i))
  eval_form c q s (SetLocal y e) r es b n parts h =
      let f = h y (inl refl) in
      set_local c (lookup r y) f.0 e r es b f.1 f.2 parts (λ z i. h z (inr i))
  eval_form c q s (SetGlobal g e) r es b n parts h = eval_ok c e r _ es (base-push p c (SetGlo g false q) c.frames b (n.0).in_range) parts h
  eval_form c q s (DefGlobal g e) r es b n parts h = eval_ok c e r _ es (base-push p c (SetGlo g true q) c.frames b (n.0).in_range) parts h
  eval_form c q s (Seq ds) r es b n parts h = sequence c ds r c.frames es b parts (n.0).shaped h
  eval_form c q s (Letrec xs ls e) r es b n parts h = bind_procedures c xs ls e r es b (n.0).shaped (n.0).in_range parts h
  eval_form c q s (Call f ds) r es b n parts h = first_operand c q s (Call f ds) r es b refl n parts h
  eval_form c q s (PrimUse pr ds) r es b n parts h = first_operand c q s (PrimUse pr ds) r es b refl n parts h
  eval_form c q s (Apply f l) r es b n parts h = first_operand c q s (Apply f l) r es b refl n parts h
  eval_form c q s (Let xs ds e) r es b n parts h = first_operand c q s (Let xs ds e) r es b refl n parts h

  by_test : (st : List Item) (b : Bool) (s t : State) → (b ≡ true → Later p st s) → Later p st t → Later p st (cond b s t)
  by_test st true s t h k = h refl
  by_test st false s t h k = k

  either : (st : List Item) (b : Bool) (s t : State) → Later p st s → Later p st t → Later p st (cond b s t)
  either st true s t h k = h
  either st false s t h k = k

  -- what is free in the body of a lambda expression is found where its parameters are bound
  other_found : (c : Config) (m : ℕ) (l : LambdaTree) (xs : List ℕ) (r : Env) → slice_get p.lambdas m ≡ Some l → parameters l ≡ xs → Covers c.store (I m) r → (y : ℕ) → IsIn y (free I l.body) → is_in xs y ≡ false → Found c.store r y
  other_found c m l xs r e q h y i n =
      h y (subst (IsIn y) (sym (free-of-lambda p m l rules.inner_greater e)) (in-without (parameters l) (free I l.body) y i (ap (λ v. is_in v y) q ∙ n)))

  bind_parameters : (c : Config) (m : ℕ) (l : LambdaTree) (o : Option ℕ) (vs : List Value) (r : Env) (es : List Event) → Base p c c.frames → slice_get p.lambdas m ≡ Some l → l.rest ≡ o → Covers c.store (I m) r → takes l o (length vs) ≡ true → Later p c.store (Reference.bind_parameters (own_context p) c l o vs r es)
  bind_parameters c m l None vs r es b e q h t =
      let n = eqb-true (length l.formals) (length vs) t in
      let st = c.store ++ vars vs in
      let names : parameters l ≡ l.formals = ap (λ v. l.formals ++ option_list v) q ∙ append-nil l.formals in
      let at : (i : ℕ) → i < length l.formals → VarAt st (length c.store + i) = λ i lt. let v = vars-at vs i (omega arith) in (v.0, get-right c.store (vars vs) _ i refl ∙ v.1) in
      go-with-ok p c _ c.frames st es b (extends-append c.store (vars vs))
      (store-append p c.store (vars vs) b.store (λ k u j. absurd (vars-no-closure vs k u j)))
      (body_ok m l e, covers-own st (free I l.body) _ (covers-bound c.store st l.formals (length c.store) r (free I l.body) (extends-append c.store (vars vs)) at (other_found c m l l.formals r e names h)))
  bind_parameters c m l (Some z) vs r es b e q h t =
      let n = leb-true (length l.formals) (length vs) t in
      let pairs = list_items (drop (length l.formals) vs) (length c.store) in
      let ws = take (length l.formals) vs ++ list_value (drop (length l.formals) vs) (length c.store) ∷ [] in
      let is = pairs ++ vars ws in
      let st = c.store ++ is in
      let xs = l.formals ++ z ∷ [] in
      let first = length c.store + length pairs in
      let names : parameters l ≡ xs = ap (λ v. l.formals ++ option_list v) q in
      let taken = take_length (length l.formals) vs n in
      let many = length-append (take (length l.formals) vs) (list_value (drop (length l.formals) vs) (length c.store) ∷ []) in
      let wide = length-append l.formals (z ∷ []) in
      let at : (i : ℕ) → i < length xs → VarAt st (first + i) = λ i lt. let v = vars-at ws i (omega arith) in (v.0, get-right c.store is (first + i) (length pairs + i) (omega arith) ∙ get-right pairs (vars ws) (length pairs + i) i refl ∙ v.1) in
      go-with-ok p c _ c.frames st es b (extends-append c.store is)
      (store-append p c.store is b.store (λ k u j. absurd (⊎_elim (λ i. pairs-no-closure (drop (length l.formals) vs) (length c.store) k u i) (λ i. vars-no-closure ws k u i) (in-either (Clo k u) pairs (vars ws) j))))
      (body_ok m l e, covers-own st (free I l.body) _ (covers-bound c.store st xs first r (free I l.body) (extends-append c.store is) at (other_found c m l xs r e names h)))

  enter_lambda : (c : Config) (m : ℕ) (l : LambdaTree) (o : Option LambdaTree) (vs : List Value) (r : Env) (es : List Event) → Base p c c.frames → slice_get p.lambdas m ≡ Some l → o ≡ Some l → Covers c.store (I m) r → Later p c.store (Reference.enter_lambda (own_context p) c o vs r es)
  enter_lambda c m l None vs r es b e q h = cc
  enter_lambda c m l (Some k) vs r es b e q h =
      let s : l ≡ k = sym (same_Some k l q) in
      by_test c.store (takes k k.rest (length vs)) _ _ (λ t. bind_parameters c m k k.rest vs r es b (e ∙ ap Some s) refl h t) (λ a. omega arith)

  entering : (c : Config) (m : ℕ) (r : Env) (o : Option Item) (vs : List Value) (es : List Event) → Base p c c.frames → o ≡ Some (Clo m r) → CloOk p c.store m r → Later p c.store (Reference.entering (own_context p) c o vs es)
  entering c m r o vs es b q h =
      subst (λ v. Later p c.store (Reference.entering (own_context p) c v vs es)) (sym q) (enter_lambda c m h.lambda _ vs r es b h.known h.known h.covers)

  -- the globals alone are others
  assigned : (c : Config) (g : ℕ) (v : Value) (fs : List Frame) (es : List Event) → Base p c fs → Later p c.store (Reference.assign_global c g v fs es)
  assigned c g v fs es b = (record { store = b.store; globals = length-set c.globals g v ∙ b.globals; frames = b.frames; bottom = b.bottom }, tt, λ k. omega arith)

  set_value : (c : Config) (g : ℕ) (q : Place) (v w : Value) (fs : List Frame) (es : List Event) → Base p c fs → Later p c.store (Reference.set_global c g q v (Some w) fs es)
  set_value c g q v Undefined fs es b = λ k. omega arith
  set_value c g q v (Fix n) fs es b = assigned c g v fs es b
  set_value c g q v (Char n) fs es b = assigned c g v fs es b
  set_value c g q v (Truth n) fs es b = assigned c g v fs es b
  set_value c g q v Nil fs es b = assigned c g v fs es b
  set_value c g q v Unspecified fs es b = assigned c g v fs es b
  set_value c g q v EndObject fs es b = assigned c g v fs es b
  set_value c g q v (At l) fs es b = assigned c g v fs es b

  set_global : (c : Config) (g : ℕ) (q : Place) (v : Value) (o : Option Value) (fs : List Frame) (es : List Event) → Base p c fs → (w : Value) → o ≡ Some w → Later p c.store (Reference.set_global c g q v o fs es)
  set_global c g q v o fs es b w e = subst (λ u. Later p c.store (Reference.set_global c g q v u fs es)) (sym e) (set_value c g q v w fs es b)

  -- no form has free variables
  form_closed : (n : ℕ) (e : Tree) (y : ℕ) → tree_at p.forms n ≡ Some e → IsIn y (free I e) → ⊥
  form_closed n e y q i = subst (IsIn y) rules.in_scope (free-at I p.forms n e y q i)

  -- the store, the globals and the frames below the one on top
  record Below (c : Config) (fs : List Frame) : Type 0 where
    below_store : StoreOk p c.store
    below_globals : length c.globals ≡ length p.globals
    below_frames : FramesOk p c.store fs

  based : (c : Config) (fs : List Frame) → Below c fs → EndsTop fs → Base p c fs
  based c fs b t = record { store = b.below_store; globals = b.below_globals; frames = b.below_frames; bottom = t }

  top : (c : Config) (n : ℕ) (o : Option Tree) (fs : List Frame) (es : List Event) → Below c fs → tree_at p.forms n ≡ o → Later p c.store (Reference.top (own_context p) c n o fs es)
  top c n None fs es b e = λ k. omega arith
  top c n (Some a) fs es b e =
      go-ok p c _ _ es
      (record { store = b.below_store; globals = b.below_globals; frames = (tt, b.below_frames); bottom = tt })
      (each-at (NodeOk p) p.forms n a forms_ok e, λ y i. absurd (form_closed n a y e i))

  length_more : (vs : List Value) (v : Value) → length (vs ++ v ∷ []) ≡ suc (length vs)
  length_more vs v = let h = length-append vs (v ∷ []) in omega arith

  give : (c : Config) (v : Value) (w : Work) (fs : List Frame) (es : List Event) → Below c fs → IsAbove w (EndsTop fs) → WorkOk p c.store w → Later p c.store (Reference.give (own_context p) c v w fs es)
  give c v (Sel a d r) fs es b t h =
      either c.store (is_false v) _ _
      (eval_ok c d r fs es (based c fs b t) h.1 (λ y i. h.2 y (in-right y (free I a) _ i)))
      (eval_ok c a r fs es (based c fs b t) h.0 (λ y i. h.2 y (in-left y (free I a) _ i)))
  give c v (SetVar l) fs es b t h =
      go-with-ok p c _ fs _ es (based c fs b t) (extends-set c.store l (Var h.0) (Var v) h.1 (var_kind h.0 v)) (store-set p c.store l (Var h.0) (Var v) h.1 (var_kind h.0 v) b.below_store) tt
  give c v (SetGlo g true q) fs es b t h = assigned c g v fs es (based c fs b t)
  give c v (SetGlo g false q) fs es b t h =
      let e = b.below_globals in
      let w = got c.globals g (omega arith) in
      set_global c g q v _ fs es (based c fs b t) w.0 w.1
  give c v (Rest ds r) fs es b t h = sequence c ds r fs es (based c fs b t) h.0 h.1 h.2
  give c v (Args q s f vs r) fs es b t h =
      let n = length_more vs v in
      let short = h.short in
      operands_left c q s f (vs ++ v ∷ []) r _ fs es (based c fs b t) h.ordered h.node h.parts refl (omega arith)
      (subst (λ k. Covers c.store (free_of_numbers (own_context p) (operands f) (drop k (line_at (order_of p) s)) ++ let_free I f) r) (sym n) h.covers)
  give c v (Top k) fs es b t h = top c k _ fs es b refl

  give_marked : (c : Config) (v : Value) (f : Frame) (fs : List Frame) (es : List Event) (m : Bool) → Below c fs → IsAbove f.work (EndsTop fs) → WorkOk p c.store f.work → Later p c.store (cond m (Reference.go c (Val v) (record f { marked = false } ∷ fs) (Reference.emit es Event.Back)) (Reference.give (own_context p) c v f.work fs es))
  give_marked c v f fs es true b t h = go-ok p c _ _ es (record { store = b.below_store; globals = b.below_globals; frames = (h, b.below_frames); bottom = t }) tt
  give_marked c v f fs es false b t h = give c v f.work fs es b t h

  give_top : (c : Config) (v : Value) (fs : List Frame) (es : List Event) → Base p c fs → Later p c.store (Reference.give_top (own_context p) c v fs es)
  give_top c v [] es b = absurd b.bottom
  give_top c v (f ∷ fs) es b =
      give_marked c v f fs es f.marked (record { below_store = b.store; below_globals = b.globals; below_frames = (b.frames).1 }) b.bottom (b.frames).0

  step_control : (c : Config) (k : Control) (es : List Event) → Base p c c.frames → ControlOk p c.store k → Later p c.store (Reference.step_control (own_context p) c k es)
  step_control c (Eval (Node q s f) r) es b h = eval_form c q s f r es b h.0.0 h.0.1 h.1
  step_control c (Bound e r) es b h = eval_ok c e r c.frames es b h.0 h.1
  step_control c (Val v) es b h = give_top c v c.frames es b
  step_control c (Entering l vs) es b h = entering c h.0 h.1 (slice_get c.store l) vs es b h.2 (b.store l h.0 h.1 h.2)

  earlier : (old st : List Item) (s : State) → KeepsSizes old st → Later p st s → Later p old s
  earlier old st (Running c es) le h = (h.0, h.1, sizes-trans old st c.store le h.2)
  earlier old st (Stopped c es) le h = sizes-trans old st c.store le h
  earlier old st (Lost c es) le h = h

  step : (st : List Item) (s : State) → Later p st s → Later p st (Reference.step (own_context p) s)
  step st (Running c es) h = earlier st c.store _ h.2 (step_control c c.control es h.0 h.1)
  step st (Stopped c es) h = h
  step st (Lost c es) h = h

  steps : (st : List Item) (k : ℕ) (s : State) → Later p st s → Later p st (run (Reference.step (own_context p)) k s)
  steps st zero s h = h
  steps st (suc k) s h = steps st k (Reference.step (own_context p) s) (step st s h)

  static_no_closure : (ss : List Static) (a m : ℕ) (r : Env) → slice_get (map static_item ss) a ≡ Some (Clo m r) → ⊥
  static_no_closure [] a m r e = cc
  static_no_closure (Static.Pair x y ∷ ss) zero m r e = cc
  static_no_closure (Static.Vector xs ∷ ss) zero m r e = cc
  static_no_closure (Static.Str bs ∷ ss) zero m r e = cc
  static_no_closure (Static.Sym bs ∷ ss) zero m r e = cc
  static_no_closure (s ∷ ss) (suc a) m r e = static_no_closure ss a m r e

  start : (input : List ℕ) → Later p [] (Running (Reference.start_of p input) [])
  start input =
      (record { store = λ a m r e. absurd (static_no_closure p.statics a m r e); globals = length-replicate (length p.globals) Undefined; frames = (tt, tt); bottom = tt }, tt, λ l. omega arith)

  run_later : (input : List ℕ) (n : ℕ) → Later p [] (after (reference p (order_of p) input) n)
  run_later input n = steps [] n _ (start input)

  -- from any moment of a run on
  later_from : (input : List ℕ) (n k : ℕ) → let m = reference p (order_of p) input in
      Later p (config_of (after m n)).store (after m (n + k))
  later_from input n k =
      let m = reference p (order_of p) input in
      let s = after m n in
      subst (Later p (config_of s).store) (sym (run-add m.step n k m.start)) (steps (config_of s).store k s (own_sizes p [] s (run_later input n)))

  pub run-keeps : (input : List ℕ) (n : ℕ) → After p 0 (after (reference p (order_of p) input) n)
  run-keeps input n = made_after p [] _ (run_later input n)

found : (p : ProgramTree) (n : ℕ) (s : State) → After p n s → IsNotLost s
found p n (Running c es) h = tt
found p n (Stopped c es) h = tt
found p n (Lost c es) h = h

-- no run of a program is lost
pub never-lost : (p : ProgramTree) (input : List ℕ) (n : ℕ) → KeepsRules p → IsNotLost (after (reference p (order_of p) input) n)
never-lost p input n k = found p 0 _ (run-keeps p k input n)

-- what stands at a location keeps its size
pub sizes-stay : (p : ProgramTree) (input : List ℕ) (n k l : ℕ) → KeepsRules p →
    let m = reference p (order_of p) input in size_at (config_of (after m n)).store l ≤ size_at (config_of (after m (n + k))).store l
sizes-stay p input n k l r = sizes_of p _ _ (later_from p r input n k) l

-- what was made only grows
pub made-grows : (p : ProgramTree) (input : List ℕ) (n k : ℕ) → KeepsRules p → made_of (after (reference p (order_of p) input) n) ≤ made_of (after (reference p (order_of p) input) (n + k))
made-grows p input n k r = sizes-made _ _ (λ l. sizes-stay p input n k l r)
