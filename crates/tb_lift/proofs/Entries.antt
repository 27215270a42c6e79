-- Procedures are entered, and lambda expressions that are lifted in place of procedures.
use Rattle.std.proofs.Common.{◌≡◌, refl, sym, ap, ◌∙◌, subst, subst₂, ℕ, zero, suc, ◌+◌, ◌≤◌, arith, inl, inr, ⊎_elim, true, false, cond, ◌==◌, List, [], ◌∷◌, ◌++◌, length, map, take, drop, Option, Some, None, slice_get, append_assoc, append-nil, length-append, eq-eqb, ne_eqb, eqb-true}
use Rattle.std.proofs.lemmas.Bool.{cases_Bool, cases_eq, leb-true}
use Rattle.tb_prim.specs.declared.event.Event.{Event}
use Rattle.tb_prim.specs.declared.event.Cause.{Cause}
use Rattle.tb_semantics.specs.Graph.{IsIn}
use Rattle.tb_semantics.proofs.Worlds.{Both, Stores, Grows, stores_stay, both_made, grows_refl}
use Rattle.tb_core.specs.Lists.{list_objects, list_value}
use Rattle.tb_core.specs.Store.{Value, At, Nil, Pair}
use Rattle.tb_core.specs.Tree.{option_list}
use Rattle.tb_core.specs.Partners as Like
use Rattle.tb_core.proofs.Members.{without-sub}
use Rattle.tb_ir.specs.Tree.{Tree, LambdaTree}
use Rattle.tb_ir.specs.FreeVariables.{free, parameters}
use Rattle.tb_ir.specs.Machine as M
use Rattle.tb_ir.specs.Machine.{Env, Empty, Item, Obj, Clo, Control, Closure, Lifted, Eval, Entering, Procedure, lookup, gather, bind_all}
use Rattle.tb_ir.specs.TreeMachine.{TreeConfig, TreeWork}
use Rattle.tb_lift.specs.Lift.{lift, lift_lambda}
use Rattle.tb_lift.proofs.Environments.{in-rest, left-not, lookup-same, lookup-other, bound-agree}
use Rattle.tb_lift.proofs.Rel as Rel
use Rattle.tb_lift.proofs.Rel.{Fact, World, Entry, Alike, AllAlike, Pass, Added, itself, through, Uses, plainly, added_by, entered, Ready, Scope, EnvRel, ItemRel, FactHolds, FramesRel, ControlRel, Got, got_none, got_more}
use Rattle.tb_lift.proofs.Uses.{Fits, uses-tree, some-none}
use Rattle.tb_lift.proofs.Grow.{items, all-grow, scope-grows}
use Rattle.tb_lift.proofs.Scopes.{env-gather, scope-sub, scope-bound, bindings-plain}
use Rattle.tb_lift.proofs.Shape.{Held, alike-length, source_language, target_language, procedure_by}
use Rattle.tb_lift.proofs.Base.{Ground, StateRel, stopped, lost}
use Rattle.tb_lift.proofs.Simple as Simple
use Rattle.tb_lift.proofs.Match.{facts-of}

alike_take : (w : World) (n : ℕ) {vs us : List Value} → AllAlike w vs us → AllAlike w (take n vs) (take n us)
alike_take w zero h = Like.nothing
alike_take w (suc n) Like.nothing = Like.nothing
alike_take w (suc n) (Like.further h hs) = Like.further h (alike_take w n hs)

alike_drop : (w : World) (n : ℕ) {vs us : List Value} → AllAlike w vs us → AllAlike w (drop n vs) (drop n us)
alike_drop w zero h = h
alike_drop w (suc n) Like.nothing = Like.nothing
alike_drop w (suc n) (Like.further h hs) = alike_drop w n hs

alike_append : (w : World) {vs us xs ys : List Value} → AllAlike w vs us → AllAlike w xs ys →
    AllAlike w (vs ++ xs) (us ++ ys)
alike_append w Like.nothing k = k
alike_append w (Like.further h hs) k = Like.further h (alike_append w hs k)

take_long : (n : ℕ) (us : List Value) → n ≤ length us → length (take n us) ≡ n
take_long zero us h = refl
take_long (suc n) [] h = absurd (omega arith)
take_long (suc n) (u ∷ us) h = ap suc (take_long n us (omega arith))

-- so many pairs more, on both sides
abbrev pairs_more : ℕ → ℕ → ℕ → World → World
pairs_more zero t s w = w
pairs_more (suc n) t s w = pairs_more n (suc t) (suc s) (Both t s ∷ w)

pairs_grow : (n t s : ℕ) (w : World) → Grows w (pairs_more n t s w)
pairs_grow zero t s w k i = i
pairs_grow (suc n) t s w k i = pairs_grow n (suc t) (suc s) (Both t s ∷ w) k (inr i)

last_long : {X : Type 0} (xs : List X) (x : X) → suc (length xs) ≡ length (xs ++ x ∷ [])
last_long xs x = (let n : suc (length xs) ≡ length xs + 1 = omega arith in n) ∙ sym (length-append xs (x ∷ []))

module _ (z : Pass) (W : World) where
  -- the pairs of a list are made, in the world that has them all
  pairs_made : (vs us : List Value) (v : World) (st ss : List Item) → AllAlike W vs us →
      Grows (pairs_more (length us) (length st) (length ss) v) W → Stores (items z) W v st ss →
      Stores (items z) W (pairs_more (length us) (length st) (length ss) v)
      (st ++ map Obj (list_objects vs (length st))) (ss ++ map Obj (list_objects us (length ss)))
  pairs_made _ _ v st ss Like.nothing gr h = subst₂ (Stores (items z) W v) (sym (append-nil st)) (sym (append-nil ss)) h
  pairs_made _ _ v st ss (Like.further {v = a} {w = b} x Like.nothing) gr h =
      both_made Item Item Fact (items z) W v st ss (Obj (Pair a Nil)) (Obj (Pair b Nil)) h
      (Rel.object (Like.pair x Like.nil))
  pairs_made _ _ v st ss
      (Like.further {v = a} {w = b} x (Like.further {v = a2} {w = b2} {vs = vs} {ws = us} y ys)) gr h =
      let i : Item = Obj (Pair a (At (suc (length st)))) in
      let j : Item = Obj (Pair b (At (suc (length ss)))) in
      let st1 : List Item = st ++ i ∷ [] in
      let ss1 : List Item = ss ++ j ∷ [] in
      let next : IsIn (Both (suc (length st)) (suc (length ss))) W = gr _
      (pairs_grow (length us) (suc (suc (length st))) (suc (suc (length ss)))
      (Both (suc (length st)) (suc (length ss)) ∷ Both (length st) (length ss) ∷ v) _ (inl refl)) in
      let one = both_made Item Item Fact (items z) W v st ss i j h (Rel.object (Like.pair x (Like.at next))) in
      let lt : suc (length st) ≡ length st1 = last_long st i in
      let ls : suc (length ss) ≡ length ss1 = last_long ss j in
      let goal : ℕ → ℕ →
      Type 0 = λ n m. Stores (items z) W (pairs_more (suc (length us)) n m (Both (length st) (length ss) ∷ v))
      (st1 ++ map Obj (list_objects (a2 ∷ vs) n)) (ss1 ++ map Obj (list_objects (b2 ∷ us) m)) in
      let rest : goal (length st1) (length ss1) = pairs_made (a2 ∷ vs) (b2 ∷ us)
      (Both (length st) (length ss) ∷ v) st1 ss1 (Like.further y ys)
      (subst₂ (λ n m. Grows
      (pairs_more (suc (length us)) n m (Both (length st) (length ss) ∷ v)) W) lt ls gr) one in
      let at : goal (suc (length st)) (suc (length ss)) = subst₂ goal (sym lt) (sym ls) rest in
      subst₂ (Stores (items z) W
      (pairs_more (suc (length us)) (suc (length st)) (suc (length ss)) (Both (length st) (length ss) ∷ v)))
      (append_assoc st (i ∷ []) (map Obj (list_objects (a2 ∷ vs) (suc (length st)))))
      (append_assoc ss (j ∷ []) (map Obj (list_objects (b2 ∷ us) (suc (length ss))))) at

-- the list of a rest parameter
list_alike : (w W : World) (vs us : List Value) (t s : ℕ) → AllAlike w vs us →
    Grows (pairs_more (length us) t s w) W → Alike W (list_value vs t) (list_value us s)
list_alike w W _ _ t s Like.nothing gr = Like.nil
list_alike w W _ _ t s (Like.further {ws = us} x xs) gr = Like.at
    (gr _ (pairs_grow (length us) (suc t) (suc s) (Both t s ∷ w) _ (inl refl)))

-- variables that got their values
pub got-long : {m : Env} {ys : List ℕ} {gs : List Value} → Got m ys gs → length ys ≡ length gs
got-long got_none = refl
got-long (got_more e g) = ap suc (got-long g)

got-lookup : {m : Env} {ys : List ℕ} {gs : List Value} (r : Env) → Got m ys gs → (y : ℕ) → IsIn y ys →
    lookup (bind_all ys gs r) y ≡ lookup m y
got-lookup r got_none y i = absurd i
got-lookup {m = m} r (got_more {y = x} {v = v} {ys = ys} {vs = gs} e g) y i =
    ⊎_elim
    (λ d. lookup-same x y v (bind_all ys gs r) d ∙ sym (subst (λ a. lookup m a ≡ Some v) d e))
    (λ ne. lookup-other x y v (bind_all ys gs r) ne ∙ got-lookup r g y (in-rest y x ys ne i))
    (cases_eq x y)

bind-both : (xs ys : List ℕ) (vs gs : List Value) (r : Env) → length xs ≡ length vs →
    bind_all (xs ++ ys) (vs ++ gs) r ≡ bind_all xs vs (bind_all ys gs r)
bind-both [] ys [] gs r e = refl
bind-both [] ys (v ∷ vs) gs r e = absurd (omega arith)
bind-both (x ∷ xs) ys [] gs r e = absurd (omega arith)
bind-both (x ∷ xs) ys (v ∷ vs) gs r e = ap (M.Bind x v) (bind-both xs ys vs gs r (omega arith))

abbrev pub lifted_at : Pass → Option LambdaTree → Option LambdaTree
lifted_at z None = None
lifted_at z (Some m) = Some (lift_lambda z.choice m)

pub lambda-at : (z : Pass) (ls : List LambdaTree) (l : ℕ) →
    slice_get (map (lift_lambda z.choice) ls) l ≡ lifted_at z (slice_get ls l)
lambda-at z [] l = refl
lambda-at z (m ∷ ls) zero = refl
lambda-at z (m ∷ ls) (suc l) = lambda-at z ls l

module _ (z : Pass) (fits : Fits z) where
  abbrev S : M.Language Tree TreeWork
  S = source_language z

  abbrev L : M.Language Tree TreeWork
  L = target_language z

  -- the body of a lambda expression, in environments in which its parameters are bound
  body_control : (w : World) (l : ℕ) (p : LambdaTree) → slice_get z.lambdas l ≡ Some p → {vs us : List Value} {q m : Env}
      (r : Env) → length (parameters p) ≡ length vs → AllAlike w vs us → Scope z w (z.source_free l) q m →
      ((y : ℕ) → IsIn y (free z.target_free (lift z.choice p.body)) →
      lookup r y ≡ lookup (bind_all (parameters p) vs m) y) →
      ControlRel z w (M.eval L (lift z.choice p.body) r) (M.eval S p.body (bind_all (parameters p) us q))
  body_control w l p at r long x s agree =
      Rel.eval (fits.body l p at)
      (env-gather z w (free z.source_free p.body) (free z.target_free (lift z.choice p.body)) r
      (scope-bound z w fits (bindings-plain z w (parameters p) (fits.plain l p at) long x) (fits.clear l p at)
      (scope-sub z w
      (λ y i. fits.source_of l p at y (without-sub (parameters p) (free z.source_free p.body) y i)
      (left-not (parameters p) (free z.source_free p.body) y i)) s))
      (λ y i. i) (λ y i. i) (λ y i. i) agree (uses-tree z fits (fits.body l p at)))

  module _ (w : World) (c d : TreeConfig) (g : Ground z w c d) (held : Held z w c d) (f : FramesRel z w c.frames d.frames)
      (l : ℕ) (p : LambdaTree) (at : slice_get z.lambdas l ≡ Some p) where
    abbrev target_procedure : Procedure Tree
    target_procedure = record {
      place = p.place;
      formals = p.formals;
      rest = p.rest;
      added = z.choice.added l;
      captured = z.target_captured l;
      body = lift z.choice p.body;
    }

    abbrev source_procedure : Procedure Tree
    source_procedure = record {
      place = p.place;
      formals = p.formals;
      rest = p.rest;
      added = z.source_added l;
      captured = z.source_captured l;
      body = p.body;
    }

    agrees : (r m : Env) (vs : List Value) → z.choice.lifted l ≡ false → length (parameters p) ≡ length vs →
        ((y : ℕ) → IsIn y (z.target_free l) → lookup r y ≡ lookup m y) → (y : ℕ) →
        IsIn y (free z.target_free (lift z.choice p.body)) →
        lookup (bind_all (parameters p) vs r) y ≡ lookup (bind_all (parameters p) vs m) y
    agrees r m vs e long agree y i =
        bound-agree (parameters p) vs r m y long (λ away. agree y (fits.target_of l p e at y i away))

    -- without a rest parameter
    enters_plain : (r q m : Env) {vs us : List Value} (es : List Event) → z.choice.lifted l ≡ false →
        EnvRel z w [] (z.source_free l) q (z.target_free l) r m → p.rest ≡ None → length p.formals ≡ length vs →
        AllAlike w vs us →
        StateRel z (M.bind_parameters L c target_procedure None vs r es) (M.bind_parameters S d source_procedure None us q es)
    enters_plain r q m {vs = vs} {us = us} es e env no_rest long x =
        let names : parameters p ≡ p.formals = ap (λ o. p.formals ++ option_list o) no_rest ∙ append-nil p.formals in
        subst (λ xs. StateRel z (M.go c (M.eval L (lift z.choice p.body) (bind_all xs vs r)) c.frames es)
        (M.go d (M.eval S p.body (bind_all xs us q)) d.frames es)) names
        (Simple.goes z w c d g _ _ c.frames d.frames es
        (body_control w l p at (bind_all (parameters p) vs r) (ap length names ∙ long) x env.scope
        (agrees r m vs e (ap length names ∙ long) env.agree)) f)

    -- with a rest parameter, whose list is made
    enters_rest : (y : ℕ) (r q m : Env) (vs us : List Value) (es : List Event) → z.choice.lifted l ≡ false →
        EnvRel z w [] (z.source_free l) q (z.target_free l) r m → p.rest ≡ Some y → length p.formals ≤ length vs →
        AllAlike w vs us →
        StateRel z (M.bind_parameters L c target_procedure (Some y) vs r es)
        (M.bind_parameters S d source_procedure (Some y) us q es)
    enters_rest y r q m vs us es e env rest le x =
        let n = length p.formals in
        let names : parameters p ≡ p.formals ++ y ∷ [] = ap (λ o. p.formals ++ option_list o) rest in
        let W : World = pairs_more (length (drop n us)) (length c.store) (length d.store) w in
        let up : Grows w W = pairs_grow (length (drop n us)) (length c.store) (length d.store) w in
        let stores = pairs_made z W (drop n vs) (drop n us) w c.store d.store (all-grow w W up (alike_drop w n x)) (grows_refl W)
        (stores_stay Item Item Fact (items z) w W w c.store d.store up g.stores) in
        let ws : List Value = take n vs ++ list_value (drop n vs) (length c.store) ∷ [] in
        let zs : List Value = take n us ++ list_value (drop n us) (length d.store) ∷ [] in
        let values : AllAlike W ws zs = alike_append W (all-grow w W up (alike_take w n x))
        (Like.further (list_alike w W (drop n vs) (drop n us) (length c.store) (length d.store) (alike_drop w n x) (grows_refl W)) Like.nothing) in
        let taken : length (take n vs) ≡ n = take_long n vs le in
        let front = length-append p.formals (y ∷ []) in
        let back = length-append (take n vs) (list_value (drop n vs) (length c.store) ∷ []) in
        let long : length (parameters p) ≡ length ws = ap length names ∙ omega arith in
        subst (λ xs. StateRel z
        (M.go_with c (M.eval L (lift z.choice p.body) (bind_all xs ws r)) c.frames
        (c.store ++ map Obj (list_objects (drop n vs) (length c.store))) es)
        (M.go_with d (M.eval S p.body (bind_all xs zs q)) d.frames
        (d.store ++ map Obj (list_objects (drop n us) (length d.store))) es)) names
        (Simple.goes-with z w c d g W _ _ c.frames d.frames _ _ es up stores
        (body_control W l p at (bind_all (parameters p) ws r) long values (scope-grows w W up z env.scope)
        (agrees r m ws e long env.agree)) f)

    same_takes : (o : Option ℕ) (n : ℕ) → M.takes (length p.formals) o n ≡ true →
        (o ≡ None → length p.formals ≡ n) × ((y : ℕ) → o ≡ Some y → length p.formals ≤ n)
    same_takes None n e = (λ q. eqb-true (length p.formals) n e, λ y q. let c : None ≡ Some y = q in absurd cc)
    same_takes (Some x) n e = (λ q. let c : Some x ≡ None = q in absurd cc, λ y q. leb-true (length p.formals) n e)

    enters_by : (o : Option ℕ) (r q m : Env) (vs us : List Value) (es : List Event) → z.choice.lifted l ≡ false →
        EnvRel z w [] (z.source_free l) q (z.target_free l) r m → p.rest ≡ o → M.takes (length p.formals) o (length vs) ≡ true →
        AllAlike w vs us →
        StateRel z (M.bind_parameters L c target_procedure o vs r es) (M.bind_parameters S d source_procedure o us q es)
    enters_by None r q m vs us es e env no_rest t x =
        enters_plain r q m es e env no_rest ((same_takes None (length vs) t).0 refl) x
    enters_by (Some y) r q m vs us es e env rest t x =
        enters_rest y r q m vs us es e env rest ((same_takes (Some y) (length vs) t).1 y refl) x

    -- a procedure that stays
    enters_stays : (r q m : Env) (vs us : List Value) (es : List Event) → z.choice.lifted l ≡ false →
        EnvRel z w [] (z.source_free l) q (z.target_free l) r m → AllAlike w vs us →
        StateRel z (M.enter_body L c (Some target_procedure) vs r es) (M.enter_body S d (Some source_procedure) us q es)
    enters_stays r q m vs us es e env x =
        let long = alike-length w vs us x in
        ⊎_elim
        (λ t. subst₂ (λ a b. StateRel z
        (cond a (M.bind_parameters L c target_procedure p.rest vs r es) (M.fail c Cause.WrongArgs p.place es))
        (cond b (M.bind_parameters S d source_procedure p.rest us q es) (M.fail d Cause.WrongArgs p.place es)))
        (sym t) (sym (ap (M.takes (length p.formals) p.rest) (sym long) ∙ t))
        (enters_by p.rest r q m vs us es e env refl t x))
        (λ t. subst₂ (λ a b. StateRel z
        (cond a (M.bind_parameters L c target_procedure p.rest vs r es) (M.fail c Cause.WrongArgs p.place es))
        (cond b (M.bind_parameters S d source_procedure p.rest us q es) (M.fail d Cause.WrongArgs p.place es)))
        (sym t) (sym (ap (M.takes (length p.formals) p.rest) (sym long) ∙ t))
        (stopped held))
        (cases_Bool (M.takes (length p.formals) p.rest (length vs)))

    -- a lambda expression that is lifted: what its procedure captures is what is added
    lifted_agrees : (r m n : Env) (vs gs : List Value) → z.choice.lifted l ≡ true → parameters p ≡ p.formals → length p.formals ≡ length vs →
        Got m (z.choice.added l) gs → ((y : ℕ) → Added z l y → (v : Value) × (lookup n y ≡ Some v) × (lookup m y ≡ Some v)) →
        (y : ℕ) → IsIn y (free z.target_free (lift z.choice p.body)) →
        lookup (bind_all (p.formals ++ z.choice.added l) (vs ++ gs) r) y ≡ lookup (bind_all (parameters p) vs n) y
    lifted_agrees r m n vs gs lifts names long got same y i =
        ap (λ e. lookup e y) (bind-both p.formals (z.choice.added l) vs gs r long) ∙
        (bound-agree p.formals vs (bind_all (z.choice.added l) gs r) n y long
        (λ away.
        let a = is_added y (λ j. away (subst (IsIn y) names j)) (uses-tree z fits (fits.body l p at) y i) in
        let b = same y a in
        got-lookup r got y (fits.full l y lifts a) ∙ (b.2 ∙ sym b.1))
        ∙ ap (λ xs. lookup (bind_all xs vs n) y) (sym names))
      where
        is_added : (y : ℕ) → (IsIn y (parameters p) → ⊥) → Uses z [] (free z.source_free p.body) y → Added z l y
        is_added y away (plainly j e) = itself (fits.source_of l p at y j away) e
        is_added y away (added_by h k j e a) =
            through h k (fits.source_of l p at h j (λ b. some-none (z.choice.names h) k (fits.plain l p at h b) e)) e a
        is_added y away (entered k j a) = absurd j

    lifted_lengths : (vs gs : List Value) (m : Env) → Got m (z.choice.added l) gs →
        (length (p.formals ++ z.choice.added l) == length (vs ++ gs)) ≡ (length p.formals == length vs)
    lifted_lengths vs gs m got =
        let a = length-append p.formals (z.choice.added l) in
        let b = length-append vs gs in
        let e = got-long got in
        same_tests (length p.formals) (length vs) (length (p.formals ++ z.choice.added l)) (length (vs ++ gs))
        (λ h. omega arith) (λ h. omega arith)
      where
        same_tests : (a b c d : ℕ) → (a ≡ b → c ≡ d) → (c ≡ d → a ≡ b) → (c == d) ≡ (a == b)
        same_tests a b c d to from =
            ⊎_elim
            (λ e. eq-eqb c d (to e) ∙ sym (eq-eqb a b e))
            (λ ne. ne_eqb c d (λ e. ne (from e)) ∙ sym (ne_eqb a b ne))
            (cases_eq a b)

    enters_lifted : (q m : Env) (k : ℕ) (vs us gs : List Value) (es : List Event) → (ready : Ready z w l k m) →
        Scope z w (z.source_free l) q ready.old → Got m (z.choice.added l) gs → AllAlike w vs us →
        StateRel z (M.enter_lifted_body L c (Some target_procedure) (vs ++ gs) es)
        (M.enter_body S d (Some source_procedure) us q es)
    enters_lifted q m k vs us gs es ready s got x =
        let long = alike-length w vs us x in
        let no_rest = fits.no_rest l p ready.lifts at in
        let names : parameters p ≡ p.formals = ap (λ o. p.formals ++ option_list o) no_rest ∙ append-nil p.formals in
        let lengths = lifted_lengths vs gs m got in
        let takes : M.takes (length p.formals) p.rest (length us) ≡ (length p.formals == length vs) =
        ap (λ o. M.takes (length p.formals) o (length us)) no_rest ∙ ap (λ n. length p.formals == n) (sym long) in
        ⊎_elim
        (λ t. subst₂ (λ a b. StateRel z
        (cond a (M.go c (M.eval L (lift z.choice p.body) (bind_all (p.formals ++ z.choice.added l) (vs ++ gs) Empty)) c.frames es)
        (M.fail c Cause.WrongArgs p.place es))
        (cond b (M.bind_parameters S d source_procedure p.rest us q es) (M.fail d Cause.WrongArgs p.place es)))
        (sym (lengths ∙ t)) (sym (takes ∙ t))
        (subst₂ (λ o xs. StateRel z
        (M.go c (M.eval L (lift z.choice p.body) (bind_all (p.formals ++ z.choice.added l) (vs ++ gs) Empty)) c.frames es)
        (M.bind_parameters S d source_procedure o us q es)) (sym no_rest) names
        (subst (λ xs. StateRel z
        (M.go c (M.eval L (lift z.choice p.body) (bind_all (p.formals ++ z.choice.added l) (vs ++ gs) Empty)) c.frames es)
        (M.go d (M.eval S p.body (bind_all xs us q)) d.frames es)) names
        (Simple.goes z w c d g _ _ c.frames d.frames es
        (body_control w l p at (bind_all (p.formals ++ z.choice.added l) (vs ++ gs) Empty)
        (ap length names ∙ eqb-true (length p.formals) (length vs) t) x s
        (lifted_agrees Empty m ready.old vs gs ready.lifts names (eqb-true (length p.formals) (length vs) t) got ready.agree)) f))))
        (λ t. subst₂ (λ a b. StateRel z
        (cond a (M.go c (M.eval L (lift z.choice p.body) (bind_all (p.formals ++ z.choice.added l) (vs ++ gs) Empty)) c.frames es)
        (M.fail c Cause.WrongArgs p.place es))
        (cond b (M.bind_parameters S d source_procedure p.rest us q es) (M.fail d Cause.WrongArgs p.place es)))
        (sym (lengths ∙ t)) (sym (takes ∙ t)) (stopped held))
        (cases_Bool (length p.formals == length vs))

  module _ (w : World) (c d : TreeConfig) (g : Ground z w c d) (held : Held z w c d)
      (f : FramesRel z w c.frames d.frames) where
    enters_number : (l : ℕ) (o : Option LambdaTree) → slice_get z.lambdas l ≡ o → (r q m : Env) (vs us : List Value)
        (es : List Event) → z.choice.lifted l ≡ false → EnvRel z w [] (z.source_free l) q (z.target_free l) r m →
        AllAlike w vs us →
        StateRel z (M.enter_body L c (procedure_by z.choice.added z.target_captured l (lifted_at z o)) vs r es)
        (M.enter_body S d (procedure_by z.source_added z.source_captured l o) us q es)
    enters_number l None at r q m vs us es e env x = lost held
    enters_number l (Some p) at r q m vs us es e env x = enters_stays w c d g held f l p at r q m vs us es e env x

    enters_item : (i j : Item) (vs us : List Value) (es : List Event) → ItemRel z w i j → AllAlike w vs us →
        StateRel z (M.enter_item L c (Some i) vs es) (M.enter_item S d (Some j) us es)
    enters_item _ _ vs us es (Rel.cell h) x = lost held
    enters_item _ _ vs us es (Rel.object h) x = lost held
    enters_item _ _ vs us es (Rel.closure {l = l} {r = r} {q = q} {m = m} e env) x =
        subst (λ o. StateRel z (M.enter_body L c (procedure_by z.choice.added z.target_captured l o) vs r es)
        (M.enter_body S d (procedure_by z.source_added z.source_captured l (slice_get z.lambdas l)) us q es))
        (sym (lambda-at z z.lambdas l)) (enters_number l (slice_get z.lambdas l) refl r q m vs us es e env x)

    -- a procedure that both have is entered
    pub enters-closure : (t s : ℕ) (vs us : List Value) (es : List Event) → IsIn (Both t s) w → AllAlike w vs us →
        StateRel z (M.entering L c (Closure t) vs es) (M.entering S d (Closure s) us es)
    enters-closure t s vs us es i x =
        let l = g.stores.linked t s i in
        subst₂ (λ a b. StateRel z (M.enter_item L c a vs es) (M.enter_item S d b us es)) (sym l.here) (sym l.there)
        (enters_item l.item l.other vs us es l.alike x)

    number_lifted : (l : ℕ) (o : Option LambdaTree) → slice_get z.lambdas l ≡ o → (q m : Env) (k : ℕ) (vs us gs : List Value)
        (es : List Event) → (ready : Ready z w l k m) → Scope z w (z.source_free l) q ready.old →
        Got m (z.choice.added l) gs → AllAlike w vs us →
        StateRel z (M.enter_lifted_body L c (procedure_by z.choice.added z.target_captured l (lifted_at z o)) (vs ++ gs) es)
        (M.enter_body S d (procedure_by z.source_added z.source_captured l o) us q es)
    number_lifted l None at q m k vs us gs es ready s got x = lost held
    number_lifted l (Some p) at q m k vs us gs es ready s got x =
        enters_lifted w c d g held f l p at q m k vs us gs es ready s got x

    -- a lambda expression that is lifted is entered where the source enters its procedure
    pub enters-number : (l k : ℕ) (m : Env) (vs us gs : List Value) (es : List Event) → Ready z w l k m → AllAlike w vs us →
        Got m (z.choice.added l) gs →
        StateRel z (M.entering L c (Lifted l) (vs ++ gs) es) (M.entering S d (Closure k) us es)
    enters-number l k m vs us gs es ready x got =
        let h = facts-of z w c.store d.store [] g.stores k (record { lambda = l; env = ready.old }) ready.fact in
        subst (λ b. StateRel z (M.entering L c (Lifted l) (vs ++ gs) es) (M.enter_item S d b us es)) (sym h.1)
        (subst (λ o. StateRel z
        (M.enter_lifted_body L c (procedure_by z.choice.added z.target_captured l o) (vs ++ gs) es)
        (M.enter_body S d (procedure_by z.source_added z.source_captured l (slice_get z.lambdas l)) us h.0 es))
        (sym (lambda-at z z.lambdas l))
        (number_lifted l (slice_get z.lambdas l) refl h.0 m k vs us gs es ready h.2 got x))
