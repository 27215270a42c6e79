-- The cells of the variables of a list are made, one after another, while the source waits with all its variables
-- made.
use Rattle.std.proofs.Common.{◌≡◌, refl, sym, ap, ◌∙◌, subst, ℕ, zero, suc, ◌+◌, ◌*◌, ◌<◌, ◌≤◌, inl, inr, ⊎_elim, arith, Bool, true, false, cond, ◌==◌, List, [], ◌∷◌, ◌++◌, length, drop, Option, Some, None, slice_get, append_assoc, zero-add, length-append, eq-eqb, eqb-true}
use Rattle.std.proofs.lemmas.Bool.{cases_Bool}
use Rattle.std.proofs.lemmas.Option.{same_Some}
use Rattle.tb_prim.specs.declared.place.Place.{Place}
use Rattle.tb_prim.specs.declared.event.Event.{Event}
use Rattle.tb_semantics.specs.Graph.{IsIn, child}
use Rattle.tb_semantics.proofs.ListLemmas.{get-left}
use Rattle.tb_semantics.proofs.Worlds.{World, Grows, Stores}
use Rattle.tb_core.specs.Tree.{Tree, ProgramTree}
use Rattle.tb_core.specs.FreeVariables.{free, inner_free, is_assigned}
use Rattle.tb_core.specs.OperandOrder.{order_of}
use Rattle.tb_core.specs.Store as S
use Rattle.tb_core.specs.Store.{Value, At}
use Rattle.tb_core.specs.Space as Space
use Rattle.tb_core.specs.Space.{value_locations, values_locations, env_locations}
use Rattle.tb_core.specs.Reference as R
use Rattle.tb_ir.specs.Tree as C
use Rattle.tb_ir.specs.Machine as M
use Rattle.tb_ir.specs.TreeMachine as T
use Rattle.tb_ir.specs.TreeMachine.{env_values}
use Rattle.tb_ir.specs.Space as V
use Rattle.tb_assign.specs.Eliminate.{fresh, celled, new_cell, new_cells, cell_site, operand_site, eliminate}
use Rattle.tb_assign.proofs.Rel.{Alike, VarRel, FramesRel, target}
use Rattle.tb_assign.proofs.Grow as Grow
use Rattle.tb_assign.proofs.Grow.{items}
use Rattle.tb_assign.proofs.Envs.{gather-finds}
use Rattle.tb_assign.proofs.Match.{Matches, HoldsFor, match-none, match-both, match-more, match-var, match-value, lookup-location, sources}
use Rattle.tb_assign.proofs.Shape.{Held, holds-for, source_roots}
use Rattle.tb_assign.proofs.Base.{Ground, Goes, step, pending, pending_frames, pending_state, held-by}
use Rattle.tb_assign.proofs.Moves.{alone_to}

-- a store of the source with more items
pub stores-wide : (p : ProgramTree) (w v : World Value) (st : List M.Item) (ss js : List S.Item) →
    Stores (items p) w v st ss → Stores (items p) w v st (ss ++ js)
stores-wide p w v st ss js h = record {
  linked = λ t s i. let l = h.linked t s i in record { item = l.item; other = l.other; here = l.here; there = get-left ss js s l.other l.there; alike = l.alike };
  holds = λ s x i. let k = h.holds s x i in record { other = k.other; there = get-left ss js s k.other k.there; known = k.known };
  one_target = h.one_target;
  one_source = h.one_source;
  apart = h.apart;
  all = h.all;
}

-- numbers that follow one another
numbers-long : (i n : ℕ) → length (T.numbers_from i n) ≡ n
numbers-long i zero = refl
numbers-long i (suc n) = ap suc (numbers-long (suc i) n)

drop-numbers : (k i m : ℕ) → drop k (T.numbers_from i (k + m)) ≡ T.numbers_from (k + i) m
drop-numbers zero i m = let a : 0 + m ≡ m = omega arith in let b : i ≡ 0 + i = omega arith in ap
    (T.numbers_from i) a ∙ ap (λ n. T.numbers_from n m) b
drop-numbers (suc k) i m =
    let a : suc k + m ≡ suc (k + m) = omega arith in
    let b : k + suc i ≡ suc k + i = omega arith in
    ap (λ n. drop (suc k) (T.numbers_from i n)) a ∙ drop-numbers k (suc i) m ∙ ap (λ n. T.numbers_from n m) b

value_numbered : (i n j : ℕ) (v : Value) (ts : List Value) → length ts ≡ n → slice_get ts j ≡ Some v →
    R.value_for (i + j) (T.numbers_from i n) ts ≡ Some v
value_numbered i n j v [] l e = cc
value_numbered i zero j v (u ∷ ts) l e = absurd (omega arith)
value_numbered i (suc n) zero v (u ∷ ts) l e = ap
    (λ b. cond b (Some u) (R.value_for (i + 0) (T.numbers_from (suc i) n) ts)) (eq-eqb i (i + 0) (omega arith)) ∙ e
value_numbered i (suc n) (suc j) v (u ∷ ts) l e =
    let other : (i == (i + suc j)) ≡ false = ⊎_elim (λ s. let z = eqb-true i (i + suc j) s in absurd (omega arith))
    (λ m. m) (cases_Bool (i == (i + suc j))) in
    let m : i + suc j ≡ suc i + j = omega arith in
    ap (λ b. cond b (Some u) (R.value_for (i + suc j) (T.numbers_from (suc i) n) ts)) other
    ∙ ap (λ k. R.value_for k (T.numbers_from (suc i) n) ts) m ∙ value_numbered (suc i) n j v ts (omega arith) e

drop_get : (j : ℕ) (ts : List Value) → j < length ts →
    (v : Value) × (slice_get ts j ≡ Some v) × (drop j ts ≡ v ∷ drop (suc j) ts)
drop_get j [] h = absurd (omega arith)
drop_get zero (v ∷ ts) h = (v, refl, refl)
drop_get (suc j) (v ∷ ts) h = drop_get j ts (omega arith)

drop_all : (j : ℕ) (ts : List Value) → length ts ≤ j → drop j ts ≡ []
drop_all zero [] h = refl
drop_all (suc j) [] h = refl
drop_all zero (v ∷ ts) h = absurd (omega arith)
drop_all (suc j) (v ∷ ts) h = drop_all j ts (omega arith)

arranged_numbered : (j k n : ℕ) (ts : List Value) → length ts ≡ n → j + k ≡ n →
    R.arranged j k (T.numbers_from 0 n) ts ≡ drop j ts
arranged_numbered j zero n ts l e = sym (drop_all j ts (omega arith))
arranged_numbered j (suc k) n ts l e =
    let f = drop_get j ts (omega arith) in
    let z : 0 + j ≡ j = omega arith in
    let rest = arranged_numbered (suc j) k n ts l (omega arith) in
    ap (λ o. R.prepend o (R.arranged (suc j) k (T.numbers_from 0 n) ts))
    (ap (λ m. R.value_for m (T.numbers_from 0 n) ts) (sym z) ∙ value_numbered 0 n j f.0 ts l f.1)
    ∙ ap (λ us. f.0 ∷ us) rest ∙ sym f.2

-- the values of cells, all in written order
pub arranged-written : (n : ℕ) (ts : List Value) → length ts ≡ n →
    R.arranged 0 (length (T.numbers_from 0 n)) (T.numbers_from 0 n) ts ≡ ts
arranged-written n ts l = ap (λ k. R.arranged 0 k (T.numbers_from 0 n) ts) (numbers-long 0 n)
    ∙ arranged_numbered 0 n n ts l (omega arith)

pub count-cells : (g : ℕ → Bool) (q : Place) (xs : List ℕ) → C.count (new_cells g q xs) ≡ length xs
count-cells g q [] = refl
count-cells g q (x ∷ xs) = let h = count-cells g q xs in omega arith

pub tree-of-cell : (g : ℕ → Bool) (q : Place) (ds : List ℕ) (x : ℕ) (cs : List ℕ) →
    C.tree_at (new_cells g q (ds ++ x ∷ cs)) (length ds) ≡ Some (new_cell g q x)
tree-of-cell g q [] x cs = refl
tree-of-cell g q (y ∷ ds) x cs = tree-of-cell g q ds x cs

-- values that stand for what the source reaches from an environment
pub data Reached (w : World Value) (ss : List S.Item) (h : S.Env) : Value → Type 0 where
  by_variable : {v : Value} (y s : ℕ) (b : Bool) → S.lookup h y ≡ Some s → VarRel w b v s → Reached w ss h v
  by_item : {v : Value} (u : Value) (y s : ℕ) → S.lookup h y ≡ Some s → slice_get ss s ≡ Some (S.Var u) →
      Alike w true v u → Reached w ss h v

pub data AllReached (w : World Value) (ss : List S.Item) (h : S.Env) : List Value → Type 0 where
  no_value : AllReached w ss h []
  a_reached : {v : Value} {vs : List Value} → Reached w ss h v → AllReached w ss h vs → AllReached w ss h (v ∷ vs)

var_grows : (w u : World Value) → Grows w u → (ss : List S.Item) (h : S.Env) (v : Value) → Reached w ss h v →
    Reached u ss h v
var_grows w u gr ss h v (by_variable y s b e x) = by_variable y s b e (Grow.var_grows w u gr b v s x)
var_grows w u gr ss h v (by_item z y s e f a) = by_item z y s e f (Grow.alike_grows w u gr true v z a)

pub reached-grows : (w u : World Value) → Grows w u → (ss : List S.Item) (h : S.Env) (vs : List Value) →
    AllReached w ss h vs → AllReached u ss h vs
reached-grows w u gr ss h _ no_value = no_value
reached-grows w u gr ss h _ (a_reached x xs) = a_reached (var_grows w u gr ss h _ x) (reached-grows w u gr ss h _ xs)

pub reached-append : (w : World Value) (ss : List S.Item) (h : S.Env) (vs us : List Value) → AllReached w ss h vs →
    AllReached w ss h us → AllReached w ss h (vs ++ us)
reached-append w ss h _ us no_value k = k
reached-append w ss h _ us (a_reached x xs) k = a_reached x (reached-append w ss h _ us xs k)

values_append : (vs us : List Value) → values_locations (vs ++ us) ≡ values_locations vs ++ values_locations us
values_append [] us = refl
values_append (v ∷ vs) us = ap (λ ks. value_locations v ++ ks) (values_append vs us)
    ∙ sym (append_assoc (value_locations v) (values_locations vs) (values_locations us))

-- an environment that is gathered has values of the old one alone
reached_found : (w : World Value) (ss : List S.Item) (h : S.Env) (x : ℕ) (o : Option Value) (rest : M.Env) →
    ((v : Value) → o ≡ Some v → Reached w ss h v) → AllReached w ss h (env_values rest) →
    AllReached w ss h (env_values (M.bind_found x o rest))
reached_found w ss h x None rest f k = k
reached_found w ss h x (Some v) rest f k = a_reached (f v refl) k

pub reached-gather : (w : World Value) (ss : List S.Item) (h : S.Env) (xs : List ℕ) (r : M.Env) →
    ((y : ℕ) (v : Value) → IsIn y xs → M.lookup r y ≡ Some v → Reached w ss h v) →
    AllReached w ss h (env_values (M.gather xs r))
reached-gather w ss h [] r f = no_value
reached-gather w ss h (x ∷ xs) r f = reached_found w ss h x (M.lookup r x) (M.gather xs r)
    (λ v e. f x v (inl refl) e) (reached-gather w ss h xs r (λ y v i e. f y v (inr i) e))

reached_first : (w : World Value) (ss : List S.Item) (h : S.Env) (x y : ℕ) (u v : Value) (r : M.Env) (b : Bool) →
    Reached w ss h u → cond b (Some u) (M.lookup r y) ≡ Some v → (M.lookup r y ≡ Some v → Reached w ss h v) →
    Reached w ss h v
reached_first w ss h x y u v r true k e rest = subst (Reached w ss h) (same_Some u v e) k
reached_first w ss h x y u v r false k e rest = rest e

pub reached-lookup : (w : World Value) (ss : List S.Item) (h : S.Env) (r : M.Env) (y : ℕ) (v : Value) →
    AllReached w ss h (env_values r) → M.lookup r y ≡ Some v → Reached w ss h v
reached-lookup w ss h M.Empty y v k e = cc
reached-lookup w ss h (M.Bind x u r) y v (a_reached k ks) e = reached_first w ss h x y u v r (x == y) k e
    (reached-lookup w ss h r y v ks)

module _ (p : ProgramTree) (w : World Value) (ss : List S.Item) (roots : List ℕ) (held : HoldsFor p w ss roots)
    (h : S.Env) where
  reached_match : (v : Value) → Reached w ss h v →
      Matches w (sources p w ss roots) (value_locations v) (env_locations h)
  reached_match v (by_variable y s b e x) =
      match-more w (sources p w ss roots)
      (λ k. ⊎_elim (λ i. subst (λ a. IsIn a (env_locations h)) i (lookup-location h y s e)) (λ i. absurd i))
      (match-var p w ss roots held b v s x)
  reached_match v (by_item u y s e f a) =
      record {
        by = λ all. (match-value w (sources p w ss roots) true v u a).by
            (λ k i. child (all s (lookup-location h y s e)) (subst (λ o. IsIn k (Space.locations_of o)) (sym f) i));
      }

  pub match-reached : (vs : List Value) → AllReached w ss h vs →
      Matches w (sources p w ss roots) (values_locations vs) (env_locations h)
  match-reached _ no_value = match-none w (sources p w ss roots) (env_locations h)
  match-reached _ (a_reached {v = v} {vs = vs} x xs) = match-both w (sources p w ss roots) (reached_match v x)
      (match-reached vs xs)

-- the making of the cells of one list, in a body of the source that is about to be evaluated
module _ (p : ProgramTree) (input : List ℕ) (q : Place) (site : ℕ) (xs : List ℕ) (e : Tree) (vs : List Value)
    (r : M.Env) (h : S.Env)
    (fs : List (M.Frame T.TreeWork)) (hs : List R.Frame) (es : List Event) (d : R.Config) (all_us : List Value)
    (noline : T.line_of (order_of p) site ≡ None) where
  abbrev pub g : ℕ → Bool
  g = is_assigned p

  abbrev pub n0 : ℕ
  n0 = length d.store

  abbrev pub body_env : S.Env
  body_env = S.cut (free (inner_free p) e) (S.bind_from xs n0 h)

  abbrev pub made : R.Config
  made = record d { control = R.Eval e body_env; frames = hs; store = d.store ++ R.vars all_us }

  abbrev pub waits : R.State
  waits = R.Running made es

  abbrev pub body : C.Tree
  body = eliminate g e

  abbrev pub cs0 : List ℕ
  cs0 = celled g xs

  abbrev pub F0 : C.Form
  F0 = C.Let cs0 (new_cells g q cs0) body

  abbrev pub all : List ℕ
  all = T.numbers_from 0 (C.count (new_cells g q cs0))

  -- the cells of some of the list are made, with these values in the frame, and those of the rest are not
  abbrev pub stage : T.TreeConfig → List Value → M.Env → List ℕ → T.TreeState
  stage c ts z cs = T.operands_left (target p) c q site F0 ts z all (T.numbers_from (length ts) (length cs)) fs es

  abbrev pub later : M.Env → List Value → List ℕ → List ℕ
  later z ts cs = T.free_of_numbers (target p) (new_cells g q cs0)
      (T.numbers_from (suc (length ts)) (length cs)) ++ T.free_of_body (target p) F0

  abbrev pub let_frame : List Value → M.Env → M.Frame T.TreeWork
  let_frame ts z = record { marked = false; work = M.Own (T.Args q site F0 ts z) }

  abbrev pub cell_frame : ℕ → M.Frame T.TreeWork
  cell_frame x = record {
    marked = false;
    work = M.Own
        (T.Args q (cell_site x) (C.NewCell (C.Node q (operand_site x) (C.Local (fresh x)))) [] M.Empty);
  }

  abbrev pub Reaches_all : World Value → List Value → Type 0
  Reaches_all w us = AllReached w made.store body_env us

  -- what such a configuration holds
  pub held_making : (w : World Value) (c : T.TreeConfig) (own : List (M.Frame T.TreeWork)) (us : List Value) →
      Ground p w c made → FramesRel p w fs hs → c.frames ≡ own ++ fs → V.marks (own ++ fs) ≡ V.marks fs →
      V.control_locations c.control ++ V.frames_locations T.work_values
      (own ++ fs) ≡ values_locations us ++ V.frames_locations T.work_values fs → Reaches_all w us →
      Held p w c made
  held_making w c own us k f e m eq a =
      held-by p w c made k fs (values_locations us) f (ap V.marks e ∙ m)
      (match-reached p w made.store (source_roots p made)
      (holds-for p w c.store made.store (source_roots p made) k.stores) body_env us a)
      (ap (λ gs. V.control_locations c.control ++ V.frames_locations T.work_values gs) e ∙ eq)

  -- the measure of such a state
  abbrev pub bound : List ℕ → ℕ
  bound cs = 4 + (5 * length cs + (pending body + pending_frames fs))

  abbrev pub Made : T.TreeState → List ℕ → Type 0
  Made t cs = Goes p input waits t × (pending_state t ≤ bound cs)

  locations_two : (us ts : List Value) (ls : List ℕ) →
      values_locations us ++ (values_locations ts ++ ls) ≡ values_locations (us ++ ts) ++ ls
  locations_two us ts ls = sym (append_assoc (values_locations us) (values_locations ts) ls)
      ∙ ap (λ ks. ks ++ ls) (sym (values_append us ts))

  -- one cell is made
  pub one_cell : (w w4 : World Value) (c : T.TreeConfig) (ts : List Value) (z : M.Env) (x : ℕ) (cs ds : List ℕ)
      (v : Value) →
      Ground p w c made → FramesRel p w fs hs → Reaches_all w (env_values z) → Reaches_all w ts →
      M.lookup z (fresh x) ≡ Some v → cs0 ≡ ds ++ x ∷ cs → length ds ≡ length ts →
      Grows w w4 → Ground p w4 (record c { store = c.store ++ M.Cell v ∷ [] }) made →
      Reached w4 made.store body_env (At (length c.store)) →
      Made (stage
      (record c {
        control = M.Val (At (length c.store));
        frames = let_frame ts
            (M.gather (later z ts cs) z) ∷ fs;
        store = c.store ++ M.Cell v ∷ [];
      }) (ts ++ At (length c.store) ∷ [])
      (M.gather (later z ts cs) z) cs) cs →
      Made (stage c ts z (x ∷ cs)) (x ∷ cs)
  one_cell w w4 c ts z x cs ds v k f az at look split same gr k4 new next =
      let z2 : M.Env = M.gather (later z ts cs) z in
      let t : ℕ = length c.store in
      let e1 : M.Env = M.gather (fresh x ∷ []) z in
      let e2 : M.Env = M.gather (fresh x ∷ []) e1 in
      let lets : M.Frame T.TreeWork = let_frame ts z2 in
      let c1 : T.TreeConfig = record c { control = M.Eval (new_cell g q x) e1; frames = lets ∷ fs } in
      let name_x : C.Tree = C.Node q (operand_site x) (C.Local (fresh x)) in
      let c2 : T.TreeConfig = record c { control = M.Eval name_x e2; frames = cell_frame x ∷ lets ∷ fs } in
      let c3 : T.TreeConfig = record c { control = M.Val v; frames = cell_frame x ∷ lets ∷ fs } in
      let c4 : T.TreeConfig = record c {
        control = M.Val
            (At t);
        frames = lets ∷ fs;
        store = c.store ++ M.Cell v ∷ [];
      } in
      let k1 : Ground p w c1 made = record { globals = k.globals; stores = k.stores; statics = k.statics; input = k.input; met = k.met } in
      let k2 : Ground p w c2 made = record { globals = k.globals; stores = k.stores; statics = k.statics; input = k.input; met = k.met } in
      let k3 : Ground p w c3 made = record { globals = k.globals; stores = k.stores; statics = k.statics; input = k.input; met = k.met } in
      let k5 : Ground p w4 c4 made = record { globals = k4.globals; stores = k4.stores; statics = k4.statics; input = k4.input; met = k4.met } in
      let count : C.count (new_cells g q cs0) ≡ length ts + suc (length cs) = count-cells g q cs0 ∙ ap length split
      ∙ length-append ds (x ∷ cs) ∙ ap (λ n. n + suc (length cs)) same in
      let tree : C.tree_at (new_cells g q cs0) (length ts) ≡ Some (new_cell g q x) = subst
      (λ n. C.tree_at (new_cells g q cs0) n ≡ Some (new_cell g q x)) same
      (ap (λ ys. C.tree_at (new_cells g q ys) (length ds)) split ∙ tree-of-cell g q ds x cs) in
      let eq0 : stage c ts z (x ∷ cs) ≡ M.Running c1 es = ap
      (λ o. T.operand (target p) c q site F0 ts z (T.numbers_from (suc (length ts)) (length cs)) o fs es) tree in
      let az2 : Reaches_all w (env_values z2) = reached-gather w made.store body_env (later z ts cs) z
      (λ y u i m. reached-lookup w made.store body_env z y u az m) in
      let ae1 : Reaches_all w (env_values e1) = reached-gather w made.store body_env (fresh x ∷ []) z
      (λ y u i m. reached-lookup w made.store body_env z y u az m) in
      let ae2 : Reaches_all w (env_values e2) = reached-gather w made.store body_env (fresh x ∷ []) e1
      (λ y u i m. reached-lookup w made.store body_env e1 y u ae1 m) in
      let frame_values : Reaches_all w (ts ++ env_values z2) = reached-append w made.store body_env ts
      (env_values z2) at az2 in
      let look1 : M.lookup e1 (fresh x) ≡ Some v = gather-finds (fresh x ∷ []) z (fresh x) v (inl refl) look in
      let look2 : M.lookup e2 (fresh x) ≡ Some v = gather-finds (fresh x ∷ []) e1 (fresh x) v (inl refl) look1 in
      let no_mark : V.marks (lets ∷ fs) ≡ V.marks fs = zero-add _ in
      let no_marks : V.marks (cell_frame x ∷ lets ∷ fs) ≡ V.marks fs = zero-add _ ∙ no_mark in
      let fl : List ℕ = V.frames_locations T.work_values fs in
      let held1 = held_making w c1 (lets ∷ []) (env_values e1 ++ (ts ++ env_values z2)) k1 f refl no_mark
      (locations_two (env_values e1) (ts ++ env_values z2) fl)
      (reached-append w made.store body_env (env_values e1) _ ae1 frame_values) in
      let held2 = held_making w c2 (cell_frame x ∷ lets ∷ [])
      (env_values e2 ++ (ts ++ env_values z2)) k2 f refl no_marks
      (locations_two (env_values e2) (ts ++ env_values z2) fl)
      (reached-append w made.store body_env (env_values e2) _ ae2 frame_values) in
      let held3 = held_making w c3 (cell_frame x ∷ lets ∷ []) (v ∷ (ts ++ env_values z2)) k3 f refl no_marks
      (sym (append_assoc (value_locations v) (values_locations (ts ++ env_values z2)) fl))
      (a_reached (reached-lookup w made.store body_env e1 (fresh x) v ae1 look1) frame_values) in
      let held4 = held_making w4 c4 (lets ∷ []) (At t ∷ (ts ++ env_values z2)) k5
      (Grow.frames_grow w w4 gr p fs hs f) refl no_mark
      (sym (append_assoc (t ∷ []) (values_locations (ts ++ env_values z2)) fl))
      (a_reached new (reached-grows w w4 gr made.store body_env _ frame_values)) in
      let numbered : T.numbers (T.line_of (order_of p) site) F0 ≡ all = ap
      (λ o. T.line_or_written o (C.count (new_cells g q cs0))) noline in
      let last : length (ts ++ At t ∷ []) ≡ suc (length ts) = length-append ts (At t ∷ [])
      ∙ (let n : length ts + 1 ≡ suc (length ts) = omega arith in n) in
      let left : drop (length (ts ++ At t ∷ [])) all ≡ T.numbers_from (length (ts ++ At t ∷ [])) (length cs) =
      ap (λ n. drop (length (ts ++ At t ∷ [])) (T.numbers_from 0 n))
      (let n : C.count (new_cells g q cs0) ≡ length (ts ++ At t ∷ []) + length cs = omega arith in n)
      ∙ drop-numbers (length (ts ++ At t ∷ [])) 0 (length cs)
      ∙ ap (λ n. T.numbers_from n (length cs))
      (let n : length (ts ++ At t ∷ []) + 0 ≡ length (ts ++ At t ∷ []) = omega arith in n) in
      let eq4 : step p (M.Running c4 es) ≡ stage c4 (ts ++ At t ∷ []) z2 cs =
      ap (λ ns. T.operands_left (target p) c4 q site F0 (ts ++ At t ∷ []) z2 ns
      (drop (length (ts ++ At t ∷ [])) ns) fs es) numbered
      ∙ ap (λ ns. T.operands_left (target p) c4 q site F0 (ts ++ At t ∷ []) z2 all ns fs es) left in
      let low = next.1 in
      let g4 : Goes p input waits (M.Running c4 es) = alone_to p input w4 (M.Running c4 es) _ waits eq4 refl held4
      (omega arith) next.0 in
      let g3 : Goes p input waits (M.Running c3 es) = alone_to p input w (M.Running c3 es)
      (M.Running c4 es) waits refl refl held3 (omega arith) g4 in
      let g2 : Goes p input waits (M.Running c2 es) = alone_to p input w (M.Running c2 es) (M.Running c3 es) waits
      (ap (λ o. M.give_value c2 o es) look2) refl held2 (omega arith) g3 in
      let g1 : Goes p input waits (M.Running c1 es) = alone_to p input w (M.Running c1 es)
      (M.Running c2 es) waits refl refl held1 (omega arith) g2 in
      let b1 : pending_state (M.Running c1 es) ≤ bound (x ∷ cs) = omega arith in
      (subst (Goes p input waits) (sym eq0) g1, subst (λ s. pending_state s ≤ bound (x ∷ cs)) (sym eq0) b1)
