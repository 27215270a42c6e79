-- Procedures are made: one, and a group of which some are in the source alone.
use Rattle.std.proofs.Common.{◌≡◌, refl, sym, ◌∙◌, subst, subst₂, ℕ, suc, ◌⊎◌, inl, inr, ⊎_elim, false, List, [], ◌∷◌, ◌++◌, length, append_assoc, append-nil}
use Rattle.tb_prim.specs.declared.event.Event.{Event}
use Rattle.tb_semantics.specs.Graph.{IsIn}
use Rattle.tb_semantics.proofs.ListLemmas.{length-last}
use Rattle.tb_semantics.proofs.Worlds.{Both, Only, Stores, Grows, stores_stay, both_made, source_made}
use Rattle.tb_core.specs.FreeVariables.{without, of_lambdas}
use Rattle.tb_core.specs.Store.{Value, At}
use Rattle.tb_core.specs.Partners as Like
use Rattle.tb_core.proofs.Members.{in-left, in-right, without-sub}
use Rattle.tb_ir.specs.Tree.{Tree, Letrec}
use Rattle.tb_ir.specs.FreeVariables.{free, free_form}
use Rattle.tb_ir.specs.Machine as M
use Rattle.tb_ir.specs.Machine.{Env, Item, Clo, lookup, gather, bind_located, closures}
use Rattle.tb_ir.specs.TreeMachine.{TreeConfig, env_values}
use Rattle.tb_lift.proofs.Environments.{left-in, left-not, located-out, located-agree}
use Rattle.tb_lift.proofs.Rel as Rel
use Rattle.tb_lift.proofs.Rel.{Fact, World, Alike, Pass, Added, ClearBeyond, Group, group_end, group_lifts, group_keeps, Becomes, Uses, plainly, added_by, entered, Scope, Justified, is_used, is_alike, EnvRel, ItemRel, FramesRel}
use Rattle.tb_lift.proofs.Uses.{Fits, uses-lambda, group-all}
use Rattle.tb_lift.proofs.Grow.{items, frames-grow, alike-grows}
use Rattle.tb_lift.proofs.Scopes.{env-gather, env-cut, scope-sub, scope-cut, grown, grown-grows, scope-located}
use Rattle.tb_lift.proofs.Base.{Ground, StateRel, running}
use Rattle.tb_lift.proofs.Simple as Simple

-- a value of an environment in which more is bound
pub located-keeps : (xs : List ℕ) (s : ℕ) (q : Env) (v : Value) → IsIn v (env_values q) →
    IsIn v (env_values (bind_located xs s q))
located-keeps [] s q v i = i
located-keeps (x ∷ xs) s q v i = inr (located-keeps xs (suc s) q v i)

module _ (z : Pass) (fits : Fits z) where
  -- a procedure that stays
  pub closure-made : (w : World) (l : ℕ) (r : Env) {xs : List ℕ} {q m : Env} → z.choice.lifted l ≡ false →
      Scope z w xs q m → ((x : ℕ) → IsIn x (z.source_free l) → IsIn x xs) →
      ((y : ℕ) → IsIn y (z.target_free l) → lookup r y ≡ lookup m y) →
      ItemRel z w (Clo l (gather (z.target_captured l) r)) (Clo l (gather (z.source_captured l) q))
  closure-made w l r e s h agree =
      Rel.closure e
      (env-gather z w (z.source_captured l) (z.target_captured l) r (scope-sub z w h s) (fits.source_captures l)
      (fits.target_captures l) (fits.target_captured l) agree (λ y i. uses-lambda z fits l y e i))

  -- what the variables of a group hold in the target stands for what they hold in the source
  located_values : {n : ℕ} {xs ls ys ms : List ℕ} (g : Group z n xs ls ys ms) (t s : ℕ) (k r q : Env) (w : World)
      (v : Value) → IsIn v (env_values (bind_located ys t r)) →
      ((u : Value) × IsIn u (env_values (bind_located xs s q)) × Alike (grown z g t s k w) v u) ⊎ IsIn v (env_values r)
  located_values group_end t s k r q w v i = inr i
  located_values (group_lifts {l = l} b d e g) t s k r q w v i =
      ⊎_elim
      (λ h. inl (h.0, inr h.1, h.2))
      inr
      (located_values g t (suc s) k r q (Only s (record { lambda = l; env = k }) ∷ w) v i)
  located_values (group_keeps b d e g) t s k r q w v (inl h) =
      inl (
        At s,
        inl refl,
        subst (λ a. Alike (grown z g (suc t) (suc s) k (Both t s ∷ w)) a (At s)) h
            (Like.at (grown-grows z g (suc t) (suc s) k (Both t s ∷ w) (Both t s) (inl refl))),
      )
  located_values (group_keeps b d e g) t s k r q w v (inr i) =
      ⊎_elim
      (λ h. inl (h.0, inr h.1, h.2))
      inr
      (located_values g (suc t) (suc s) k r q (Both t s ∷ w) v i)

  -- the procedures of a group are made in a world that has them all
  group_stores : (W : World) {n : ℕ} {xs ls ys ms zs : List ℕ} (g : Group z n xs ls ys ms) (r q m : Env) (v : World)
      (st ss : List Item) → Stores (items z) W v st ss → Scope z W zs q m →
      ((x : ℕ) → IsIn x (of_lambdas z.source_free ls) → IsIn x zs) →
      ((y : ℕ) → IsIn y (of_lambdas z.target_free ms) → lookup r y ≡ lookup m y) →
      Stores (items z) W (grown z g (length st) (length ss) m v) (st ++ closures z.target_captured ms r)
      (ss ++ closures z.source_captured ls q)
  group_stores W group_end r q m v st ss h s sub agree =
      subst₂ (Stores (items z) W v) (sym (append-nil st)) (sym (append-nil ss)) h
  group_stores W (group_lifts {l = l} {ls = ls} {ms = ms} b d e g) r q m v st ss h s sub agree =
      let x : Fact = record { lambda = l; env = m } in
      let j = Clo l (gather (z.source_captured l) q) in
      let one = source_made Item Item Fact (items z) W v st ss j x h
      (Rel.lifted_closure d
      (scope-cut z W (z.source_captured l) (fits.source_captures l)
      (scope-sub z W (λ x i. sub x (in-left x (z.source_free l) _ i)) s))) in
      let rest = group_stores W g r q m (Only (length ss) x ∷ v) st (ss ++ j ∷ []) one s
      (λ x i. sub x (in-right x (z.source_free l) _ i)) agree in
      subst (Stores (items z) W (grown z g (length st) (suc (length ss)) m (Only (length ss) x ∷ v)) (st ++ closures z.target_captured ms r))
      (append_assoc ss (j ∷ []) (closures z.source_captured ls q))
      (subst (λ n. Stores (items z) W (grown z g (length st) n m (Only (length ss) x ∷ v)) (st ++ closures z.target_captured ms r)
      ((ss ++ j ∷ []) ++ closures z.source_captured ls q)) (length-last ss j) rest)
  group_stores W (group_keeps {l = l} {ls = ls} {ms = ms} b d e g) r q m v st ss h s sub agree =
      let i = Clo l (gather (z.target_captured l) r) in
      let j = Clo l (gather (z.source_captured l) q) in
      let one = both_made Item Item Fact (items z) W v st ss i j h
      (closure-made W l r d s (λ x i. sub x (in-left x (z.source_free l) _ i)) (λ y i. agree y (in-left y (z.target_free l) _ i))) in
      let rest = group_stores W g r q m (Both (length st) (length ss) ∷ v) (st ++ i ∷ []) (ss ++ j ∷ []) one s
      (λ x i. sub x (in-right x (z.source_free l) _ i)) (λ y i. agree y (in-right y (z.target_free l) _ i)) in
      subst₂ (Stores (items z) W (grown z g (suc (length st)) (suc (length ss)) m (Both (length st) (length ss) ∷ v)))
      (append_assoc st (i ∷ []) (closures z.target_captured ms r))
      (append_assoc ss (j ∷ []) (closures z.source_captured ls q))
      (subst₂ (λ a n. Stores (items z) W (grown z g a n m (Both (length st) (length ss) ∷ v))
      ((st ++ i ∷ []) ++ closures z.target_captured ms r) ((ss ++ j ∷ []) ++ closures z.source_captured ls q))
      (length-last st i) (length-last ss j) rest)

  module _ (w : World) (c d : TreeConfig) (g : Ground z w c d) where
    -- a lambda expression that stays is evaluated
    pub makes-closure : (l : ℕ) {q r m : Env} (es : List Event) → z.choice.lifted l ≡ false →
        EnvRel z w [] (z.source_free l) q (z.target_free l) r m → FramesRel z w c.frames d.frames →
        StateRel z (M.make_closure c l (z.target_captured l) r es) (M.make_closure d l (z.source_captured l) q es)
    makes-closure l {r = r} es e env f =
        Simple.goes-made z w c d g _ _ c.frames d.frames es
        (closure-made w l r e env.scope (λ x i. i) (λ y i. env.agree y i)) f

    -- a `letrec` whose environments are cut to it
    makes_cut : {n i : ℕ} {xs ls ys ms : List ℕ} {e b : Tree} {q r m : Env} (es : List Event) →
        (gr : Group z n xs ls ys ms) → ClearBeyond z xs (of_lambdas z.source_free ls ++ free z.source_free e) →
        Becomes z i e b →
        EnvRel z w [] (free_form z.source_free (Letrec xs ls e)) q (free_form z.target_free (Letrec ys ms b)) r m →
        FramesRel z w c.frames d.frames →
        StateRel z (M.make_closures z.target_captured c ys ms b r es) (M.make_closures z.source_captured d xs ls e q es)
    makes_cut {xs = xs} {ls = ls} {ys = ys} {ms = ms} {e = e} {b = b} {q = q} {r = r} {m = m} es gr clear t env f =
        let nt = length c.store in
        let ns = length d.store in
        let zs = of_lambdas z.source_free ls ++ free z.source_free e in
        let ks = of_lambdas z.target_free ms ++ free z.target_free b in
        let ghost_env = bind_located ys nt m in
        let W = grown z gr nt ns ghost_env w in
        let up : Grows w W = grown-grows z gr nt ns ghost_env w in
        let sub : (x : ℕ) → IsIn x (of_lambdas z.source_free ls) → IsIn x zs =
        λ x i. in-left x (of_lambdas z.source_free ls) (free z.source_free e) i in
        let scope : Scope z W zs (bind_located xs ns q) ghost_env =
        scope-located z fits w gr sub clear q m env.scope nt ns in
        let agree : (y : ℕ) → IsIn y ks → lookup (bind_located ys nt r) y ≡ lookup ghost_env y =
        λ y i. located-agree ys nt r m y (λ away. env.agree y (left-in ys ks y away i)) in
        let stores : Stores (items z) W W (c.store ++ closures z.target_captured ms (bind_located ys nt r))
        (d.store ++ closures z.source_captured ls (bind_located xs ns q)) =
        group_stores W gr (bind_located ys nt r) (bind_located xs ns q) ghost_env w c.store d.store
        (stores_stay Item Item Fact (items z) w W w c.store d.store up g.stores) scope sub
        (λ y i. agree y (in-left y (of_lambdas z.target_free ms) (free z.target_free b) i)) in
        let before : (v : Value) → Justified z w [] (without xs zs) q m v →
        Justified z W [] zs (bind_located xs ns q) ghost_env v =
        λ v j. still gr clear v nt ns W up j in
        running {w = W} (Simple.reground z w c d g W _ _ c.frames d.frames _ _ up stores)
        (Rel.point
        (Rel.bound t (λ y i. in-right y (of_lambdas z.source_free ls) (free z.source_free e) i)
        (λ y i. in-right y (of_lambdas z.target_free ms) (free z.target_free b) i)
        (record {
          scope = scope;
          agree = agree;
          within = λ v i.
              ⊎_elim (λ h. is_alike h.0 h.1 h.2) (λ j. before v (env.within v j))
              (located_values gr nt ns ghost_env r q w v i);
        }))
        (frames-grow w W up z f))
      where
        still : {n : ℕ} {xs ls ys ms zs : List ℕ} {q m : Env} → Group z n xs ls ys ms → ClearBeyond z xs zs → (v : Value)
            (nt ns : ℕ) (W : World) → Grows w W → Justified z w [] (without xs zs) q m v →
            Justified z W [] zs (bind_located xs ns q) (bind_located ys nt m) v
        still {xs = xs} {ys = ys} {zs = zs} {m = m} gr clear v nt ns W up (is_used y (plainly i e) looked) =
            is_used y (plainly (without-sub xs zs y i) e)
            (located-out ys nt m y (λ j. left-not xs zs y i (group-all z gr y j)) ∙ looked)
        still {xs = xs} {ys = ys} {zs = zs} {m = m} gr clear v nt ns W up (is_used y (added_by f l i e a) looked) =
            is_used y (added_by f l (without-sub xs zs f i) e a)
            (located-out ys nt m y
            (λ j. clear.clear f l y (without-sub xs zs f i) (left-not xs zs f i) e (fits.full l y (fits.named f l e) a) (group-all z gr y j)) ∙ looked)
        still gr clear v nt ns W up (is_used y (entered l i a) looked) = absurd i
        still {xs = xs} {q = q} gr clear v nt ns W up (is_alike u i h) =
            is_alike u (located-keeps xs ns q u i) (alike-grows w W up h)

    -- a `letrec`
    pub makes-closures : {n i : ℕ} {xs ls ys ms : List ℕ} {e b : Tree} {q r m : Env} (es : List Event) →
        (gr : Group z n xs ls ys ms) → ClearBeyond z xs (of_lambdas z.source_free ls ++ free z.source_free e) →
        Becomes z i e b →
        ((y : ℕ) → IsIn y (free_form z.target_free (Letrec ys ms b)) → Uses z [] (free_form z.source_free (Letrec xs ls e)) y) →
        EnvRel z w [] (free_form z.source_free (Letrec xs ls e)) q (free_form z.target_free (Letrec ys ms b)) r m →
        FramesRel z w c.frames d.frames →
        StateRel z
        (M.make_closures z.target_captured c ys ms b (gather (free_form z.target_free (Letrec ys ms b)) r) es)
        (M.make_closures z.source_captured d xs ls e (gather (free_form z.source_free (Letrec xs ls e)) q) es)
    makes-closures es gr clear t uses env f =
        makes_cut es gr clear t (env-cut z w env (λ x i. i) (λ y i. i) uses) f
