-- A body in which variables are bound, with their cells, is evaluated as in its source.
use Rattle.std.proofs.Common.{◌≡◌, refl, sym, ap, ◌∙◌, subst, subst₂, ℕ, suc, ◌+◌, ◌^◌, ◌<◌, inl, inr, ⊎_elim, arith, Bool, true, false, cond, IsTrue, List, [], ◌∷◌, ◌++◌, length, drop, Some, None, slice_get, append_assoc, append-nil, length-append}
use Rattle.std.proofs.lemmas.Bool.{cases_Bool, both_ways}
use Rattle.std.proofs.lemmas.Option.{same_Some}
use Rattle.tb_prim.specs.declared.place.Place.{Place}
use Rattle.tb_prim.specs.declared.event.Event.{Event}
use Rattle.tb_semantics.specs.Graph.{IsIn}
use Rattle.tb_semantics.proofs.Worlds.{Entry, Both, Only, World, Grows, Stores, stores_stay, both_made, source_made, grows_one, grows_refl}
use Rattle.tb_core.specs.Tree.{Tree, ProgramTree}
use Rattle.tb_core.specs.FreeVariables.{is_in, free, inner_free, is_assigned}
use Rattle.tb_core.specs.OperandOrder.{order_of}
use Rattle.tb_core.specs.Rules.{Each, is_mark}
use Rattle.tb_core.specs.Store as S
use Rattle.tb_core.specs.Store.{Value, At}
use Rattle.tb_core.specs.Reference as R
use Rattle.tb_core.specs.Partners.{AlikeLists}
use Rattle.tb_core.proofs.Members.{in-left, in-right, tested-in, in-tested, in-without}
use Rattle.tb_core.proofs.Cuts.{cut-kept}
use Rattle.tb_core.proofs.Stores.{bound-other, get-right}
use Rattle.tb_ir.specs.Tree as C
use Rattle.tb_ir.specs.FreeVariables as F
use Rattle.tb_ir.specs.Machine as M
use Rattle.tb_ir.specs.TreeMachine as T
use Rattle.tb_ir.specs.TreeMachine.{env_values}
use Rattle.tb_assign.specs.Eliminate.{fresh, renamed, celled, new_cells, bind_cells, with_cells, eliminate}
use Rattle.tb_assign.proofs.Free.{Same, AreSmall, in-celled, celled-in, cells-to, cells-from, absent}
use Rattle.tb_assign.proofs.Rel as Rel
use Rattle.tb_assign.proofs.Rel.{Alike, VarRel, EnvRel, Covers, FramesRel, Good, BindsWell, free_cells, inner_cells, target}
use Rattle.tb_assign.proofs.Grow as Grow
use Rattle.tb_assign.proofs.Grow.{items}
use Rattle.tb_assign.proofs.Envs.{gather-finds, gather-points, gather-twice, looked-up}
use Rattle.tb_assign.proofs.Base.{Ground, Goes, step}
use Rattle.tb_assign.proofs.Simple.{goes}
use Rattle.tb_assign.proofs.Moves.{alone_to}
use Rattle.tb_assign.proofs.Nodes.{Bodies, BoundRel, no_bound, one_bound}
use Rattle.tb_assign.proofs.Bound.{name, bound-at, bound-not, all-not, Placed, no_place, a_cell, a_value, cell-at, value-at, nth-bound}
use Rattle.tb_assign.proofs.Making as K
use Rattle.tb_assign.proofs.Making.{stores-wide, arranged-written, count-cells, tree-of-cell, Reached, by_variable, by_item, AllReached, no_value, reached-grows, reached-append, a_reached, reached-gather, reached-lookup}

grows_then : (u w v : World Value) → Grows u w → Grows w v → Grows u v
grows_then u w v a b k i = b k (a k i)

-- the fresh variables of the cells that are left are named
later_named : (p : ProgramTree) (g : ℕ → Bool) (q : Place) (cs ds : List ℕ) (a : ℕ) → IsIn a cs →
    IsIn (fresh a) (T.free_of_numbers (target p) (new_cells g q (ds ++ cs)) (T.numbers_from (length ds) (length cs)))
later_named p g q [] ds a i = absurd i
later_named p g q (x ∷ cs) ds a i =
    let names = T.free_of_numbers (target p) (new_cells g q (ds ++ x ∷ cs))
    (T.numbers_from (suc (length ds)) (length cs)) in
    let first : T.free_of_tree (target p) (C.tree_at (new_cells g q (ds ++ x ∷ cs)) (length ds)) ≡ fresh x ∷ [] = ap
    (T.free_of_tree (target p)) (tree-of-cell g q ds x cs) in
    let more : length (ds ++ x ∷ []) ≡ suc (length ds) = length-append ds (x ∷ [])
    ∙ (let n : length ds + 1 ≡ suc (length ds) = omega arith in n) in
    subst (λ ls. IsIn (fresh a) (ls ++ names)) (sym first)
    (⊎_elim (λ e. inl (ap fresh e))
    (λ j. inr (subst₂
    (λ ys n. IsIn (fresh a) (T.free_of_numbers (target p) (new_cells g q ys) (T.numbers_from n (length cs))))
    (append_assoc ds (x ∷ []) cs) more (later_named p g q cs (ds ++ x ∷ []) a j)))
    i)

module _ (p : ProgramTree) (input : List ℕ) (q : Place) (site : ℕ) (xs : List ℕ) (e : Tree) (vs : List Value)
    (r : M.Env) (h : S.Env)
    (fs : List (M.Frame T.TreeWork)) (hs : List R.Frame) (es : List Event) (d : R.Config) (all_us : List Value)
    (noline : T.line_of (order_of p) site ≡ None) (good : Each (Good p) e) (no_mark : is_mark e ≡ false)
    (well : BindsWell p xs e)
    (same : Same (free_cells p e) (free (inner_free p) e)) (small : AreSmall (free (inner_free p) e)) where
  abbrev g : ℕ → Bool
  g = is_assigned p

  abbrev cs0 : List ℕ
  cs0 = celled g xs

  abbrev body_env : S.Env
  body_env = K.body_env p input q site xs e vs r h fs hs es d all_us noline

  abbrev made : R.Config
  made = K.made p input q site xs e vs r h fs hs es d all_us noline

  abbrev waits : R.State
  waits = K.waits p input q site xs e vs r h fs hs es d all_us noline

  abbrev stage : T.TreeConfig → List Value → M.Env → List ℕ → T.TreeState
  stage = K.stage p input q site xs e vs r h fs hs es d all_us noline

  abbrev later : M.Env → List Value → List ℕ → List ℕ
  later = K.later p input q site xs e vs r h fs hs es d all_us noline

  abbrev Made : T.TreeState → List ℕ → Type 0
  Made = K.Made p input q site xs e vs r h fs hs es d all_us noline

  -- all variables of the list, with their values
  abbrev start_env : M.Env
  start_env = M.bind_all (renamed g xs) vs r

  -- the rest of the list, with the values and the locations of its variables
  data Tabled : ℕ → List ℕ → List Value → Type 0 where
    no_row : {n : ℕ} → Tabled n [] []
    a_row : {n x : ℕ} {v : Value} {ys : List ℕ} {us : List Value} → IsIn x xs →
        M.lookup start_env (name p x) ≡ Some v → S.lookup (S.bind_from xs (length d.store) h) x ≡ Some n →
        Tabled (suc n) ys us → Tabled n (x ∷ ys) (v ∷ us)

  -- what an environment keeps of the first one
  abbrev Keeping : M.Env → Type 0
  Keeping z = (y : ℕ) → IsIn y (free_cells p e) → (IsIn y cs0 → ⊥) → (v : Value) → M.lookup start_env y ≡ Some v →
      M.lookup z y ≡ Some v

  abbrev Finding : M.Env → List ℕ → Type 0
  Finding z cs = (a : ℕ) → IsIn a cs → (v : Value) → M.lookup start_env (fresh a) ≡ Some v →
      M.lookup z (fresh a) ≡ Some v

  abbrev Then : World Value → ℕ → List ℕ → List Value → List Value → Type 0
  Then w n ys us ts = (w' : World Value) (c' : T.TreeConfig) (ts' : List Value) (z' : M.Env) → Grows w w' →
      Ground p w' c' made → FramesRel p w' fs hs → Placed p w' n ys us ts' → Keeping z' →
      Goes p input waits (T.evaluate_cut (target p) c' (eliminate g e) (M.bind_all cs0 (ts ++ ts') z') fs es)

  -- another store of the source, and more of it
  ground_store : (w : World Value) (c : T.TreeConfig) (ss js : List S.Item) →
      Ground p w c (record made { store = ss }) → made.store ≡ ss ++ js → Ground p w c made
  ground_store w c ss js k eq = record {
    globals = k.globals;
    stores = subst (Stores (items p) w w c.store) (sym eq) (stores-wide p w w c.store ss js k.stores);
    statics = k.statics;
    input = k.input;
    met = k.met;
  }

  ground_grown : (w w' : World Value) (c c' : T.TreeConfig) (ss ss' : List S.Item) →
      Ground p w c (record made { store = ss }) → Grows w w' → c'.globals ≡ c.globals → c'.input ≡ c.input →
      c'.met_end ≡ c.met_end → Stores (items p) w' w' c'.store ss' → Ground p w' c' (record made { store = ss' })
  ground_grown w w' c c' ss ss' k gr eg ei em st = record {
    globals = subst (λ gs. AlikeLists (Rel.Partner w') (IsTrue true) gs made.globals) (sym eg)
        (Grow.lists_wider (Rel.Partner w) (Rel.Partner w') (IsTrue true) (IsTrue true) (λ a b i. gr (Both a b) i)
        (λ u. u) _ _ k.globals);
    stores = st;
    statics = λ n lt. gr (Both n n) (k.statics n lt);
    input = ei ∙ k.input;
    met = em ∙ k.met;
  }

  one_longer : (ss : List S.Item) (i : S.Item) → length (ss ++ i ∷ []) ≡ suc (length ss)
  one_longer ss i = length-append ss (i ∷ []) ∙ (let n : length ss + 1 ≡ suc (length ss) = omega arith in n)

  named_env : (x n : ℕ) → IsIn x xs → g x ≡ true → S.lookup (S.bind_from xs (length d.store) h) x ≡ Some n →
      S.lookup body_env x ≡ Some n
  named_env x n i e' l = cut-kept (free (inner_free p) e) (S.bind_from xs (length d.store) h) x
      (tested-in (free (inner_free p) e) x (well.used x (in-celled g xs x i e'))) ∙ l

  bound_grows : (w w' : World Value) → Grows w w' → (ys : List ℕ) (us ws : List Value) → BoundRel p w ys us ws →
      BoundRel p w' ys us ws
  bound_grows w w' gr _ _ _ no_bound = no_bound
  bound_grows w w' gr _ _ _ (one_bound a bs) = one_bound (Grow.alike_grows w w' gr _ _ _ a)
      (bound_grows w w' gr _ _ _ bs)

  make_value : (x : ℕ) (v u : Value) (ys : List ℕ) (us ws : List Value) (w : World Value) (c : T.TreeConfig)
      (ss : List S.Item) (ds : List ℕ) (ts : List Value) (z : M.Env) (b : Bool) → g x ≡ b →
      ((w' : World Value) (c' : T.TreeConfig) (ss' : List S.Item) (ds' : List ℕ) (ts' : List Value) (z' : M.Env) →
      Ground p w' c' (record made { store = ss' }) → made.store ≡ ss' ++ R.vars ws → FramesRel p w' fs hs →
      BoundRel p w' ys us ws → Tabled (length ss') ys us → cs0 ≡ ds' ++ celled g ys → length ds' ≡ length ts' →
      AllReached w' made.store body_env (env_values z') → AllReached w' made.store body_env ts' →
      Finding z' (celled g ys) → Keeping z' → Then w' (length ss') ys us ts' →
      Made (stage c' ts' z' (celled g ys)) (celled g ys)) →
      Ground p w c (record made { store = ss }) → made.store ≡ ss ++ S.Var u ∷ R.vars ws → FramesRel p w fs hs →
      Alike w b v u → BoundRel p w ys us ws → IsIn x xs → M.lookup start_env (cond b (fresh x) x) ≡ Some v →
      S.lookup (S.bind_from xs (length d.store) h) x ≡ Some (length ss) → Tabled (suc (length ss)) ys us →
      cs0 ≡ ds ++ cond b (x ∷ celled g ys) (celled g ys) → length ds ≡ length ts →
      AllReached w made.store body_env (env_values z) → AllReached w made.store body_env ts →
      Finding z (cond b (x ∷ celled g ys) (celled g ys)) → Keeping z → Then w (length ss) (x ∷ ys) (v ∷ us) ts →
      Made (stage c ts z (cond b (x ∷ celled g ys) (celled g ys))) (cond b (x ∷ celled g ys) (celled g ys))
  make_value x v u ys us ws w c ss ds ts z false e' rec k eq f a bs i l1 l2 rows split len az at fi ke after =
      let kk : Entry Value = Only (length ss) v in
      let w1 : World Value = kk ∷ w in
      let gr : Grows w w1 = grows_one kk w in
      let st = source_made M.Item S.Item Value (items p) w1 w c.store ss (S.Var u) v
      (stores_stay M.Item S.Item Value (items p) w w1 w c.store ss gr k.stores)
      (Rel.holds (Grow.alike_grows w w1 gr false v u a)) in
      rec w1 c (ss ++ S.Var u ∷ []) ds ts z (ground_grown w w1 c c ss (ss ++ S.Var u ∷ []) k gr refl refl refl st)
      (eq ∙ sym (append_assoc ss (S.Var u ∷ []) (R.vars ws)))
      (Grow.frames_grow w w1 gr p fs hs f) (bound_grows w w1 gr ys us ws bs)
      (subst (λ n. Tabled n ys us) (sym (one_longer ss (S.Var u))) rows) split len
      (reached-grows w w1 gr made.store body_env (env_values z) az)
      (reached-grows w w1 gr made.store body_env ts at) fi ke
      (λ w' c' ts' z' gr' k' f' pl ke'. after w' c' ts' z' (grows_then w w1 w' gr gr') k' f'
      (a_value e' (gr' kk (inl refl)) (subst (λ n. Placed p w' n ys us ts') (one_longer ss (S.Var u)) pl)) ke')
  make_value x v u ys us ws w c ss ds ts z true e' rec k eq f a bs i l1 l2 rows split len az at fi ke after =
      let t : ℕ = length c.store in
      let kk : Entry Value = Both t (length ss) in
      let w4 : World Value = kk ∷ w in
      let gr : Grows w w4 = grows_one kk w in
      let cs : List ℕ = celled g ys in
      let z2 : M.Env = M.gather (later z ts cs) z in
      let ss4 : List S.Item = ss ++ S.Var u ∷ [] in
      let c4 : T.TreeConfig = record c { store = c.store ++ M.Cell v ∷ [] } in
      let c5 : T.TreeConfig = record c {
        control = M.Val
            (At t);
        frames = K.let_frame p input q site xs e vs r h fs hs es d all_us noline ts z2 ∷ fs;
        store = c.store ++ M.Cell v ∷ [];
      } in
      let st = both_made M.Item S.Item Value (items p) w4 w c.store ss (M.Cell v) (S.Var u)
      (stores_stay M.Item S.Item Value (items p) w w4 w c.store ss gr k.stores)
      (Rel.cell (Grow.alike_grows w w4 gr true v u a)) in
      let eq4 : made.store ≡ ss4 ++ R.vars ws = eq ∙ sym (append_assoc ss (S.Var u ∷ []) (R.vars ws)) in
      let k4 = ground_store w4 c4 ss4 (R.vars ws) (ground_grown w w4 c c4 ss ss4 k gr refl refl refl st) eq4 in
      let k0 = ground_store w c ss (S.Var u ∷ R.vars ws) k eq in
      let new : Reached w4 made.store body_env (At t) = by_variable x (length ss) true
      (named_env x (length ss) i e' l2) (Rel.in_cell refl (inl refl)) in
      let split4 : cs0 ≡ (ds ++ x ∷ []) ++ cs = split ∙ sym (append_assoc ds (x ∷ []) cs) in
      let long_d : length (ds ++ x ∷ []) ≡ suc (length ds) = length-append ds (x ∷ [])
      ∙ (let n : length ds + 1 ≡ suc (length ds) = omega arith in n) in
      let long_t : length (ts ++ At t ∷ []) ≡ suc (length ts) = length-append ts (At t ∷ [])
      ∙ (let n : length ts + 1 ≡ suc (length ts) = omega arith in n) in
      let in_later : (b : ℕ) → IsIn b cs →
      IsIn (fresh b) (later z ts cs) = λ b m. in-left (fresh b)
      (T.free_of_numbers (target p) (new_cells g q cs0) (T.numbers_from (suc (length ts)) (length cs))) _
      (subst₂ (λ zs n. IsIn (fresh b)
      (T.free_of_numbers (target p) (new_cells g q zs) (T.numbers_from n (length cs)))) (sym split4)
      (long_d ∙ ap suc len) (later_named p g q cs (ds ++ x ∷ []) b m)) in
      let az2 = reached-gather w made.store body_env (later z ts cs) z
      (λ y b m n. reached-lookup w made.store body_env z y b az n) in
      K.one_cell p input q site xs e vs r h fs hs es d all_us noline w w4 c ts z x cs ds v k0 f az at
      (fi x (inl refl) v l1) split len gr k4 new
      (rec w4 c5 ss4 (ds ++ x ∷ []) (ts ++ At t ∷ []) z2 (ground_grown w w4 c c5 ss ss4 k gr refl refl refl st) eq4
      (Grow.frames_grow w w4 gr p fs hs f) (bound_grows w w4 gr ys us ws bs)
      (subst (λ n. Tabled n ys us) (sym (one_longer ss (S.Var u))) rows) split4 (long_d ∙ ap suc len ∙ sym long_t)
      (reached-grows w w4 gr made.store body_env (env_values z2) az2)
      (reached-append w4 made.store body_env ts (At t ∷ []) (reached-grows w w4 gr made.store body_env ts at)
      (a_reached new no_value))
      (λ b m b' n. gather-finds (later z ts cs) z (fresh b) b' (in_later b m) (fi b (inr m) b' n))
      (λ y m out b n. gather-finds (later z ts cs) z y b
      (in-right y
      (T.free_of_numbers (target p) (new_cells g q cs0) (T.numbers_from (suc (length ts)) (length cs))) _
      (in-without cs0 (free_cells p e) y m (absent cs0 y out))) (ke y m out b n))
      (λ w' c' ts' z' gr' k' f' pl ke'.
      subst (λ us'. Goes p input waits (T.evaluate_cut (target p) c' (eliminate g e) (M.bind_all cs0 us' z') fs es))
      (sym (append_assoc ts (At t ∷ []) ts'))
      (after w' c' (At t ∷ ts') z' (grows_then w w4 w' gr gr') k' f'
      (a_cell e' (gr' kk (inl refl)) (subst (λ n. Placed p w' n ys us ts') (one_longer ss (S.Var u)) pl)) ke')))

  -- the cells of the rest of the list are made
  make : (ys : List ℕ) (us ws : List Value) (w : World Value) (c : T.TreeConfig) (ss : List S.Item) (ds : List ℕ)
      (ts : List Value) (z : M.Env) →
      Ground p w c (record made { store = ss }) → made.store ≡ ss ++ R.vars ws → FramesRel p w fs hs →
      BoundRel p w ys us ws → Tabled (length ss) ys us → cs0 ≡ ds ++ celled g ys → length ds ≡ length ts →
      AllReached w made.store body_env (env_values z) → AllReached w made.store body_env ts →
      Finding z (celled g ys) → Keeping z → Then w (length ss) ys us ts →
      Made (stage c ts z (celled g ys)) (celled g ys)
  make [] _ _ w c ss ds ts z k eq f no_bound rows split len az at fi ke after =
      let n : ℕ = C.count (new_cells g q cs0) in
      let long : length ts ≡ n = sym (count-cells g q cs0 ∙ ap length split ∙ ap length (append-nil ds) ∙ len) in (
        subst (λ us'. Goes p input waits (T.evaluate_cut (target p) c (eliminate g e) (M.bind_all cs0 us' z) fs es))
            (append-nil ts ∙ sym (arranged-written n ts long))
            (after w c [] z (grows_refl w) (ground_store w c ss [] k eq) f no_place ke),
        omega arith,
      )
  make (x ∷ ys) _ _ w c ss ds ts z k eq f (one_bound {v = v} {u = u} {vs = us} {us = ws} a bs)
      (a_row i l1 l2 rows) split len az at fi ke after =
      make_value x v u ys us ws w c ss ds ts z (g x) refl
      (λ w' c' ss' ds' ts' z' k' eq' f' bs' rows' split' len' az' at' fi' ke' after'. make ys us ws w' c' ss' ds' ts' z' k' eq' f' bs' rows' split' len' az' at' fi' ke' after')
      k eq f a bs i l1 l2 rows split len az at fi ke after

  -- where each variable that the body names stands once all are made
  record Point (w : World Value) (z : M.Env) (y : ℕ) : Type 0 where
    value : Value
    variable : ℕ
    here : M.lookup z y ≡ Some value
    there : S.lookup body_env y ≡ Some variable
    stands : VarRel w (g y) value variable

  in_body : (y : ℕ) → IsIn y (free_cells p e) → S.lookup body_env y ≡ S.lookup (S.bind_from xs (length d.store) h) y
  in_body y i = cut-kept (free (inner_free p) e) (S.bind_from xs (length d.store) h) y
      (tested-in (free (inner_free p) e) y (same.to y i))

  module _ (w : World Value) (ts : List Value) (z : M.Env) (placed : Placed p w (length d.store) xs vs ts)
      (keeps : Keeping z) (env : EnvRel g w r h)
      (outer : (y : ℕ) → IsIn y (free_cells p e) → (IsIn y xs → ⊥) → (v : Value) × (M.lookup r y ≡ Some v)) where
    point_cell : (y : ℕ) → IsIn y (free_cells p e) → IsIn y cs0 → Point w (M.bind_all cs0 ts z) y
    point_cell y i j =
        let m = celled-in g xs y j in
        let c = cell-at p w (length d.store) xs vs ts z h y placed m.0 m.1 in
        record {
          value = At c.cell;
          variable = c.variable;
          here = c.here;
          there = in_body y i
              ∙ c.there;
          stands = Rel.in_cell m.1 c.linked;
        }

    point_value : (y : ℕ) → IsIn y (free_cells p e) → (IsIn y cs0 → ⊥) → IsIn y xs → g y ≡ false →
        Point w (M.bind_all cs0 ts z) y
    point_value y i out j gy =
        let c = value-at p w (length d.store) xs vs ts r h y placed j gy (small y (same.to y i)) in
        record {
          value = c.value;
          variable = c.variable;
          here = all-not p cs0 ts z y out
              ∙ keeps y i out c.value c.here;
          there = in_body y i ∙ c.there;
          stands = Rel.plain gy c.holds;
        }

    point_outer : (y : ℕ) → IsIn y (free_cells p e) → (IsIn y cs0 → ⊥) → (IsIn y xs → ⊥) →
        Point w (M.bind_all cs0 ts z) y
    point_outer y i out far =
        let v = outer y i far in
        let first : M.lookup start_env y ≡ Some v.0 = bound-not p xs vs r y (small y (same.to y i)) well.small far
        ∙ v.1 in
        let u = looked-up g w r h y v.0 env v.1 in
        record {
          value = v.0;
          variable = u.0;
          here = all-not p cs0 ts z y out
              ∙ keeps y i out v.0 first;
          there = in_body y i ∙ bound-other xs (length d.store) h y (absent xs y far)
              ∙ u.1;
          stands = u.2;
        }

    point_at : (y : ℕ) → IsIn y (free_cells p e) → Point w (M.bind_all cs0 ts z) y
    point_at y i =
        ⊎_elim
        (λ t. point_cell y i (in-tested cs0 y t))
        (λ f. let out : IsIn y cs0 → ⊥ = λ j. both_ways (is_in cs0 y) f (tested-in cs0 y j) in
        ⊎_elim
        (λ t. let j = in-tested xs y t in point_value y i out j
        (⊎_elim (λ a. absurd (out (in-celled g xs y j a))) (λ n. n) (cases_Bool (g y))))
        (λ n. point_outer y i out (λ j. both_ways (is_in xs y) n (tested-in xs y j)))
        (cases_Bool (is_in xs y)))
        (cases_Bool (is_in cs0 y))

    -- the body is evaluated
    body_goes : (c : T.TreeConfig) → Ground p w c made → FramesRel p w fs hs →
        Goes p input waits (T.evaluate_cut (target p) c (eliminate g e) (M.bind_all cs0 ts z) fs es)
    body_goes c k f =
        goes p input w c made k _ _ fs hs es
        (Rel.eval good (λ m. absurd (both_ways (is_mark e) no_mark m))
        (record {
          has = λ y i. let x = point_at y i in
              (x.value, gather-finds (free_cells p e) (M.bind_all cs0 ts z) y x.value i x.here);
        })
        (gather-points g w (free_cells p e) (M.bind_all cs0 ts z) body_env
        (λ y v i l. let x = point_at y i in (
          x.variable,
          x.there,
          subst (λ u. VarRel w (g y) u x.variable)
              (same_Some x.value v (sym x.here ∙ l)) x.stands,
        ))))
        f

  -- the values of a list by their names
  tabled_from : (w : World Value) (ys : List ℕ) (us ws : List Value) (n : ℕ) →
      ((x : ℕ) (v : Value) (i : ℕ) → slice_get ys i ≡ Some x → slice_get us i ≡ Some v →
      IsIn x xs × (M.lookup start_env (name p x) ≡ Some v) ×
      (S.lookup (S.bind_from xs (length d.store) h) x ≡ Some (n + i))) → BoundRel p w ys us ws → Tabled n ys us
  tabled_from w _ _ _ n at no_bound = no_row
  tabled_from w _ _ _ n at (one_bound {x = x} {v = v} {xs = ys} {vs = us} {us = ws} a bs) =
      let here = at x v 0 refl refl in
      a_row here.0 here.1 (here.2 ∙ ap Some (let m : n + 0 ≡ n = omega arith in m))
      (tabled_from w ys us ws (suc n)
      (λ y u i l m. let k = at y u (suc i) l m in
      (k.0, k.1, k.2 ∙ ap Some (let s : n + suc i ≡ suc n + i = omega arith in s))) bs)

  fresh_in : (cs : List ℕ) (a : ℕ) → IsIn a cs → IsIn (fresh a) (F.free_all (inner_cells p) (new_cells g q cs))
  fresh_in [] a i = absurd i
  fresh_in (x ∷ cs) a (inl m) = inl (ap fresh m)
  fresh_in (x ∷ cs) a (inr i) = inr (fresh_in cs a i)

  fresh_named : (cs : List ℕ) (a : ℕ) → IsIn a cs →
      IsIn (fresh a) (F.free (inner_cells p) (bind_cells g q site cs (eliminate g e)))
  fresh_named [] a i = absurd i
  fresh_named (x ∷ cs) a i = in-left (fresh a) (F.free_all (inner_cells p) (new_cells g q (x ∷ cs))) _
      (fresh_in (x ∷ cs) a i)

  abbrev L0 : List ℕ
  L0 = F.free (inner_cells p) (bind_cells g q site cs0 (eliminate g e))

  abbrev z0 : M.Env
  z0 = M.gather L0 start_env

  true_is : (b : Bool) → IsTrue b → IsTrue true
  true_is b u = refl

  may : (w : World Value) (b : Bool) (v u : Value) → Alike w b v u → Alike w true v u
  may w b = Grow.values_wider (Rel.Partner w) (Rel.Partner w) (IsTrue b) (IsTrue true) (λ a c i. i) (true_is b)

  module _ (w : World Value) (c : T.TreeConfig) (ground : Ground p w c d) (frames : FramesRel p w fs hs)
      (bound : BoundRel p w xs vs all_us) (env : EnvRel g w r h)
      (outer : (y : ℕ) → IsIn y (free_cells p e) → (IsIn y xs → ⊥) → (v : Value) × (M.lookup r y ≡ Some v)) where
    item_there : (i : ℕ) (u : Value) → slice_get (R.vars all_us) i ≡ Some (S.Var u) →
        slice_get made.store (length d.store + i) ≡ Some (S.Var u)
    item_there i u l = get-right d.store (R.vars all_us) (length d.store + i) i refl ∙ l

    -- a variable of the list
    reached_bound : (a : ℕ) (v : Value) → IsIn a xs → a < 2 ^ 24 →
        ((n : ℕ) → S.lookup (S.bind_from xs (length d.store) h) a ≡ Some n → S.lookup body_env a ≡ Some n) →
        M.lookup start_env (name p a) ≡ Some v → Reached w made.store body_env v
    reached_bound a v i la named l =
        let b = bound-at p w xs vs all_us r (length d.store) h a bound well.small la i in
        subst (Reached w made.store body_env) (same_Some b.value v (sym b.here ∙ l))
        (by_item b.other a (length d.store + b.index) (named _ b.there) (item_there b.index b.other b.item)
        (may w (g a) b.value b.other b.alike))

    -- each value that the first environment has is reached
    first_reached : (y : ℕ) (v : Value) → IsIn y L0 → M.lookup start_env y ≡ Some v → Reached w made.store body_env v
    first_reached y v i l =
        ⊎_elim
        (λ n. ⊎_elim
        (λ t. let j = in-tested xs y t in
        let gy : g y ≡ false = ⊎_elim (λ a. absurd (n.1 (in-celled g xs y j a))) (λ m. m) (cases_Bool (g y)) in
        let same_name : name p y ≡ y = ap (λ b. cond b (fresh y) y) gy in
        reached_bound y v j (small y (same.to y n.0)) (λ m lm. in_body y n.0 ∙ lm)
        (ap (M.lookup start_env) same_name ∙ l))
        (λ o. let far : IsIn y xs → ⊥ = λ j. both_ways (is_in xs y) o (tested-in xs y j) in
        let u = looked-up g w r h y v env (sym (bound-not p xs vs r y (small y (same.to y n.0)) well.small far) ∙ l) in
        by_variable y u.0 (g y) (in_body y n.0 ∙ bound-other xs (length d.store) h y (absent xs y far) ∙ u.1) u.2)
        (cases_Bool (is_in xs y)))
        (λ n. let m = celled-in g xs n.0 n.1 in
        let same_name : name p n.0 ≡ y = ap (λ b. cond b (fresh n.0) n.0) m.1 ∙ sym n.2 in
        reached_bound n.0 v m.0 (well.small n.0 m.0) (λ k lk. named_env n.0 k m.0 m.1 lk)
        (ap (M.lookup start_env) same_name ∙ l))
        (cells-to g (inner_cells p) q site cs0 (eliminate g e) y i)

    -- all cells are made, from a configuration with the frames and the store
    all_made : (c0 : T.TreeConfig) → c0.globals ≡ c.globals → c0.input ≡ c.input → c0.met_end ≡ c.met_end →
        c0.store ≡ c.store → Made (stage c0 [] z0 cs0) cs0
    all_made c0 eg ei em es' =
        make xs vs all_us w c0 d.store [] [] z0
        (record {
          globals = subst (λ gs. AlikeLists (Rel.Partner w) (IsTrue true) gs d.globals) (sym eg) ground.globals;
          stores = subst (λ st. Stores (items p) w w st d.store) (sym es') ground.stores;
          statics = ground.statics;
          input = ei ∙ ground.input;
          met = em ∙ ground.met;
        })
        refl frames bound
        (tabled_from w xs vs all_us (length d.store)
        (λ x v i l m. let n = nth-bound p xs vs r (length d.store) h i x v well.apart well.small l m in
        (n.0, n.1, n.2)) bound)
        refl refl (reached-gather w made.store body_env L0 start_env first_reached) no_value
        (λ a i v l. gather-finds L0 start_env (fresh a) v (fresh_named cs0 a i) l)
        (λ y i out v l. gather-finds L0 start_env y v
        (cells-from g (inner_cells p) q site cs0 (eliminate g e) y i out) l)
        (λ w' c' ts' z' gr k' f' pl ke. body_goes w' ts' z' pl ke (Grow.env_grows w w' gr g r h env) outer c' k' f')

    ground_wide : (c0 : T.TreeConfig) → c0.globals ≡ c.globals → c0.input ≡ c.input → c0.met_end ≡ c.met_end →
        c0.store ≡ c.store → Ground p w c0 made
    ground_wide c0 eg ei em es' = record {
      globals = subst (λ gs. AlikeLists (Rel.Partner w) (IsTrue true) gs d.globals) (sym eg) ground.globals;
      stores = subst (λ st. Stores (items p) w w st made.store) (sym es')
          (stores-wide p w w c.store d.store (R.vars all_us) ground.stores);
      statics = ground.statics;
      input = ei ∙ ground.input;
      met = em ∙ ground.met;
    }

    -- the `let` of the cells is evaluated
    abbrev let_config : T.TreeConfig
    let_config = record c {
      control = M.Eval
          (C.Node q site (C.Let cs0 (new_cells g q cs0) (eliminate g e))) z0;
      frames = fs;
    }

    let_goes : Goes p input waits (M.Running let_config es)
    let_goes =
        let held = K.held_making p input q site xs e vs r h fs hs es d all_us noline w let_config [] (env_values z0)
        (ground_wide let_config refl refl refl refl) frames refl refl refl
        (reached-gather w made.store body_env L0 start_env first_reached) in
        let numbered : T.numbers (T.line_of (order_of p) site)
        (C.Let cs0 (new_cells g q cs0) (eliminate g e)) ≡ T.numbers_from 0 (C.count (new_cells g q cs0)) = ap
        (λ o. T.line_or_written o (C.count (new_cells g q cs0))) noline in
        let count = count-cells g q cs0 in
        let begins : step p (M.Running let_config es) ≡ stage let_config [] z0 cs0 =
        ap (λ ns. T.operands_left (target p) let_config q site
        (C.Let cs0 (new_cells g q cs0) (eliminate g e)) [] z0 ns (drop 0 ns) fs es) numbered
        ∙ ap (λ n. T.operands_left (target p) let_config q site
        (C.Let cs0 (new_cells g q cs0) (eliminate g e)) [] z0
        (T.numbers_from 0 (C.count (new_cells g q cs0))) (T.numbers_from 0 n) fs es) count in
        let made_all = all_made let_config refl refl refl refl in
        let low = made_all.1 in
        alone_to p input w (M.Running let_config es) (stage let_config [] z0 cs0) waits begins refl held
        (omega arith) made_all.0

    starts : (cs : List ℕ) → cs0 ≡ cs →
        Goes p input waits (T.evaluate_cut (target p) c (bind_cells g q site cs (eliminate g e)) start_env fs es)
    starts [] eq =
        subst (λ z. Goes p input waits
        (M.Running (record c { control = M.Eval (eliminate g e) z; frames = fs }) es))
        (gather-twice (F.free (inner_cells p) (eliminate g e)) start_env)
        (subst (λ cs. Goes p input waits
        (T.operands_left (target p) c q site (C.Let cs (new_cells g q cs) (eliminate g e)) []
        (M.gather (F.free (inner_cells p) (bind_cells g q site cs (eliminate g e))) start_env)
        (T.numbers_from 0 (C.count (new_cells g q cs))) (T.numbers_from 0 (length cs)) fs es)) eq
        (all_made c refl refl refl refl).0)
    starts (x ∷ cs) eq =
        subst (λ ys. Goes p input waits
        (M.Running
        (record c {
          control = M.Eval (C.Node q site (C.Let ys (new_cells g q ys) (eliminate g e)))
              (M.gather (F.free (inner_cells p)
              (bind_cells g q site ys (eliminate g e))) start_env);
          frames = fs;
        }) es)) eq let_goes

    pub body-starts : Goes p input waits
        (T.evaluate_cut (target p) c (with_cells g q site xs (eliminate g e)) start_env fs es)
    body-starts = starts cs0 refl

pub all-bodies : (p : ProgramTree) (input : List ℕ) →
    ((e : Tree) → Each (Good p) e → Same (free_cells p e) (free (inner_free p) e)) →
    ((e : Tree) → Each (Good p) e → AreSmall (free (inner_free p) e)) → Bodies p input
all-bodies p input same small = record {
  binds = λ w c d k q site xs e vs us r h fs hs es good no_mark well noline bound outer env f.
      body-starts p input q site xs e vs r h fs hs es d us noline good no_mark well (same e good)
      (small e good) w c k f bound env outer;
}
