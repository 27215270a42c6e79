-- Environments of both sides when they are cut, and when variables are bound.
use Rattle.std.proofs.Common.{◌≡◌, refl, sym, ap, ◌∙◌, subst, ℕ, suc, arith, inl, inr, ⊎_elim, true, List, [], ◌∷◌, length, Option, Some, None}
use Rattle.std.proofs.lemmas.Bool.{cases_eq}
use Rattle.tb_semantics.specs.Graph.{IsIn}
use Rattle.tb_semantics.proofs.Worlds.{Both, Only, Grows}
use Rattle.tb_core.specs.FreeVariables.{without, of_lambdas}
use Rattle.tb_core.specs.Store.{Value, At}
use Rattle.tb_core.specs.Partners as Like
use Rattle.tb_ir.specs.Machine.{Env, lookup, gather, bind_all, bind_located}
use Rattle.tb_lift.proofs.Environments.{in-or-not, in-rest, left-in, lookup-same, lookup-other, lookup-gather, gather-value, bound-out, located-out}
use Rattle.tb_lift.proofs.Rel.{World, Alike, AllAlike, Pass, Added, itself, through, Clear, ClearBeyond, Group, group_end, group_lifts, group_keeps, Uses, Ready, Plain, Scope, EnvRel, is_used, ValueRel, plain_value, ready_value}
use Rattle.tb_lift.proofs.Uses.{Fits, some-none, some-same, group-all, group-free}
use Rattle.tb_lift.proofs.Grow.{ready-grows, alike-grows}

module _ (z : Pass) (w : World) where
  pub scope-sub : {xs ys : List ℕ} {q m : Env} → ((x : ℕ) → IsIn x ys → IsIn x xs) → Scope z w xs q m → Scope z w ys q m
  scope-sub h s = record { plain = λ x i. s.plain x (h x i); known = λ f l i. s.known f l (h f i) }

  -- the source's environment is cut
  pub scope-cut : {xs : List ℕ} (zs : List ℕ) {q m : Env} → ((x : ℕ) → IsIn x xs → IsIn x zs) → Scope z w xs q m →
      Scope z w xs (gather zs q) m
  scope-cut zs {q = q} h s = record {
    plain = λ x i e.
        let p = s.plain x i e in
        record {
          value = p.value;
          other = p.other;
          here = p.here;
          there = lookup-gather zs q x (h x i) ∙ p.there;
          alike = p.alike;
        };
    known = λ f l i e.
        let k = s.known f l i e in
        record { location = k.location; there = lookup-gather zs q f (h f i) ∙ k.there; ready = k.ready };
  }

  -- both environments are cut
  pub env-gather : {ls xs ys : List ℕ} (zs ks : List ℕ) {q m : Env} (r : Env) → Scope z w xs q m →
      ((x : ℕ) → IsIn x xs → IsIn x zs) → ((y : ℕ) → IsIn y ys → IsIn y ks) → ((y : ℕ) → IsIn y ks → IsIn y ys) →
      ((y : ℕ) → IsIn y ys → lookup r y ≡ lookup m y) → ((y : ℕ) → IsIn y ys → Uses z ls xs y) →
      EnvRel z w ls xs (gather zs q) ys (gather ks r) m
  env-gather zs ks r s h to from agree uses = record {
    scope = scope-cut zs h s;
    agree = λ y i. lookup-gather ks r y (to y i) ∙ agree y i;
    within = λ v i.
        let k = gather-value ks r v i in
        is_used k.0 (uses k.0 (from k.0 k.1)) (sym (agree k.0 (from k.0 k.1)) ∙ k.2);
  }

  pub env-cut : {ls ks xs ys xs' ys' : List ℕ} {q r m : Env} → EnvRel z w ls xs q ys r m →
      ((x : ℕ) → IsIn x xs' → IsIn x xs) → ((y : ℕ) → IsIn y ys' → IsIn y ys) →
      ((y : ℕ) → IsIn y ys' → Uses z ks xs' y) → EnvRel z w ks xs' (gather xs' q) ys' (gather ys' r) m
  env-cut {xs' = xs'} {ys' = ys'} {r = r} e h k uses =
      env-gather xs' ys' r (scope-sub h e.scope) (λ x i. i) (λ y i. i) (λ y i. i) (λ y i. e.agree y (k y i)) uses

  -- environments that agree on the added variables
  pub ready-env : {l c : ℕ} {m n : Env} → ((y : ℕ) → Added z l y → lookup n y ≡ lookup m y) → Ready z w l c m →
      Ready z w l c n
  ready-env same r = record {
    lifts = r.lifts;
    old = r.old;
    fact = r.fact;
    agree = λ y a. let b = r.agree y a in (b.0, b.1, same y a ∙ b.2);
  }

  -- values of variables that are bound
  pub data Bindings (m : Env) : List ℕ → List Value → List Value → Type 0 where
    no_binding : Bindings m [] [] []
    one_binding : {x : ℕ} {v u : Value} {xs : List ℕ} {vs us : List Value} → ValueRel z w m (z.choice.names x) v u →
        Bindings m xs vs us → Bindings m (x ∷ xs) (v ∷ vs) (u ∷ us)

  pub bindings-plain : {m : Env} (xs : List ℕ) {vs us : List Value} → ((x : ℕ) → IsIn x xs → z.choice.names x ≡ None) →
      length xs ≡ length vs → AllAlike w vs us → Bindings m xs vs us
  bindings-plain [] h e Like.nothing = no_binding
  bindings-plain [] h e (Like.further k ks) = absurd (omega arith)
  bindings-plain (x ∷ xs) h e Like.nothing = absurd (omega arith)
  bindings-plain {m} (x ∷ xs) h e (Like.further {v = v} {w = u} k ks) =
      one_binding (subst (λ o. ValueRel z w m o v u) (sym (h x (inl refl))) (plain_value k))
      (bindings-plain xs (λ y i. h y (inr i)) (omega arith) ks)

  pub plain_of : {m : Env} {o : Option ℕ} {v u : Value} → o ≡ None → ValueRel z w m o v u → Alike w v u
  plain_of e (plain_value h) = h
  plain_of {v = v} {u = u} e (ready_value {l = l} r) = let c : Some l ≡ None = e in cc

  ready_of : {m : Env} {o : Option ℕ} {v u : Value} (l : ℕ) → o ≡ Some l → ValueRel z w m o v u →
      (c : ℕ) × (u ≡ At c) × Ready z w l c m
  ready_of l e (plain_value h) = let c : None ≡ Some l = e in cc
  ready_of {m} l e (ready_value {l = k} {c = c} r) = (c, refl, subst (λ a. Ready z w a c m) (some-same (Some k) k l refl e) r)

  plain_bound : {m : Env} {xs : List ℕ} {vs us : List Value} (q n : Env) (x : ℕ) → Bindings m xs vs us → IsIn x xs →
      z.choice.names x ≡ None → Plain w (bind_all xs us q) (bind_all xs vs n) x
  plain_bound q n x no_binding i e = absurd i
  plain_bound q n x (one_binding {x = y} {v = v} {u = u} {xs = xs} {vs = vs} {us = us} k ks) i e =
      ⊎_elim
      (λ same. record {
        value = v;
        other = u;
        here = lookup-same y x v (bind_all xs vs n) same;
        there = lookup-same y x u (bind_all xs us q) same;
        alike = plain_of (subst (λ a. z.choice.names a ≡ None) (sym same) e) k;
      })
      (λ ne.
      let p = plain_bound q n x ks (in-rest x y xs ne i) e in
      record {
        value = p.value;
        other = p.other;
        here = lookup-other y x v (bind_all xs vs n) ne ∙ p.here;
        there = lookup-other y x u (bind_all xs us q) ne ∙ p.there;
        alike = p.alike;
      })
      (cases_eq y x)

  ready_bound : {m : Env} {xs : List ℕ} {vs us : List Value} (q : Env) (f l : ℕ) → Bindings m xs vs us → IsIn f xs →
      z.choice.names f ≡ Some l → (c : ℕ) × (lookup (bind_all xs us q) f ≡ Some (At c)) × Ready z w l c m
  ready_bound q f l no_binding i e = absurd i
  ready_bound q f l (one_binding {x = y} {u = u} {xs = xs} {us = us} k ks) i e =
      ⊎_elim
      (λ same.
      let r = ready_of l (subst (λ a. z.choice.names a ≡ Some l) (sym same) e) k in
      (r.0, lookup-same y f u (bind_all xs us q) same ∙ ap Some r.1, r.2))
      (λ ne.
      let r = ready_bound q f l ks (in-rest f y xs ne i) e in
      (r.0, lookup-other y f u (bind_all xs us q) ne ∙ r.1, r.2))
      (cases_eq y f)

  -- variables are bound to values of which the code's names have no added variable
  pub scope-bound : (fits : Fits z) {xs ns : List ℕ} {vs us : List Value} {q m : Env} → Bindings m xs vs us →
      Clear z xs ns → Scope z w (without xs ns) q m → Scope z w ns (bind_all xs us q) (bind_all xs vs m)
  scope-bound fits {xs = xs} {ns = ns} {vs = vs} {us = us} {q = q} {m = m} bs clear s =
      let same : (f l : ℕ) → IsIn f ns → z.choice.names f ≡ Some l → (y : ℕ) → Added z l y →
      lookup (bind_all xs vs m) y ≡ lookup m y =
      λ f l i e y a. bound-out xs vs m y (clear.clear f l y i e (fits.full l y (fits.named f l e) a)) in
      record {
        plain = λ x i e.
            ⊎_elim
            (λ j. plain_bound q m x bs j e)
            (λ away.
            let p = s.plain x (left-in xs ns x away i) e in
            record {
              value = p.value;
              other = p.other;
              here = bound-out xs vs m x away ∙ p.here;
              there = bound-out xs us q x away ∙ p.there;
              alike = p.alike;
            })
            (in-or-not x xs);
        known = λ f l i e.
            ⊎_elim
            (λ j.
            let r = ready_bound q f l bs j e in
            record { location = r.0; there = r.1; ready = ready-env (same f l i e) r.2 })
            (λ away.
            let k = s.known f l (left-in xs ns f away i) e in
            record {
              location = k.location;
              there = bound-out xs us q f away ∙ k.there;
              ready = ready-env (same f l i e) k.ready;
            })
            (in-or-not f xs);
      }

-- the world with the procedures of a group, whose first items are at t and at s
abbrev pub grown : (z : Pass) {n : ℕ} {xs ls ys ms : List ℕ} → Group z n xs ls ys ms → ℕ → ℕ → Env → World → World
grown z group_end t s m w = w
grown z (group_lifts {l = l} b d k g) t s m w = grown z g t (suc s) m (Only s (record { lambda = l; env = m }) ∷ w)
grown z (group_keeps b d k g) t s m w = grown z g (suc t) (suc s) m (Both t s ∷ w)

pub grown-grows : (z : Pass) {n : ℕ} {xs ls ys ms : List ℕ} (g : Group z n xs ls ys ms) (t s : ℕ) (m : Env) (w : World) →
    Grows w (grown z g t s m w)
grown-grows z group_end t s m w k i = i
grown-grows z (group_lifts b d k g) t s m w a i = grown-grows z g t (suc s) m _ a (inr i)
grown-grows z (group_keeps b d k g) t s m w a i = grown-grows z g (suc t) (suc s) m _ a (inr i)

-- what the variables of a group hold
located_plain : (z : Pass) {n : ℕ} {xs ls ys ms : List ℕ} (g : Group z n xs ls ys ms) (t s : ℕ) (k m q : Env) (w : World)
    (x : ℕ) → IsIn x xs → z.choice.names x ≡ None →
    Plain (grown z g t s k w) (bind_located xs s q) (bind_located ys t m) x
located_plain z group_end t s k m q w x i e = absurd i
located_plain z (group_lifts {x = f} {l = l} {xs = xs} b d c g) t s k m q w x i e =
    let ne : f ≡ x → ⊥ = λ same. some-none (z.choice.names x) l e (subst (λ a. z.choice.names a ≡ Some l) same c) in
    let p = located_plain z g t (suc s) k m q (Only s (record { lambda = l; env = k }) ∷ w) x (in-rest x f xs ne i) e in
    record {
      value = p.value;
      other = p.other;
      here = p.here;
      there = lookup-other f x (At s) (bind_located xs (suc s) q) ne ∙ p.there;
      alike = p.alike;
    }
located_plain z (group_keeps {x = f} {xs = xs} {ys = ys} b d c g) t s k m q w x i e =
    ⊎_elim
    (λ same. record {
      value = At t;
      other = At s;
      here = lookup-same f x (At t) (bind_located ys (suc t) m) same;
      there = lookup-same f x (At s) (bind_located xs (suc s) q) same;
      alike = Like.at (grown-grows z g (suc t) (suc s) k (Both t s ∷ w) (Both t s) (inl refl));
    })
    (λ ne.
    let p = located_plain z g (suc t) (suc s) k m q (Both t s ∷ w) x (in-rest x f xs ne i) e in
    record {
      value = p.value;
      other = p.other;
      here = lookup-other f x (At t) (bind_located ys (suc t) m) ne ∙ p.here;
      there = lookup-other f x (At s) (bind_located xs (suc s) q) ne ∙ p.there;
      alike = p.alike;
    })
    (cases_eq f x)

located_known : (z : Pass) {n : ℕ} {xs ls ys ms : List ℕ} (g : Group z n xs ls ys ms) (t s : ℕ) (k q : Env) (w : World)
    (f l : ℕ) → IsIn f xs → z.choice.names f ≡ Some l →
    (c : ℕ) × (lookup (bind_located xs s q) f ≡ Some (At c)) × (z.choice.lifted l ≡ true) ×
    IsIn (Only c (record { lambda = l; env = k })) (grown z g t s k w)
located_known z group_end t s k q w f l i e = absurd i
located_known z (group_lifts {x = x} {l = h} {xs = xs} b d c g) t s k q w f l i e =
    ⊎_elim
    (λ same.
    let eq : h ≡ l = some-same (z.choice.names f) h l (subst (λ a. z.choice.names a ≡ Some h) same c) e in (
      s,
      lookup-same x f (At s) (bind_located xs (suc s) q) same,
      subst (λ a. z.choice.lifted a ≡ true) eq d,
      subst (λ a. IsIn (Only s (record { lambda = a; env = k })) (grown z g t (suc s) k (Only s (record { lambda = h; env = k }) ∷ w))) eq
          (grown-grows z g t (suc s) k (Only s (record { lambda = h; env = k }) ∷ w) _ (inl refl)),
    ))
    (λ ne.
    let r = located_known z g t (suc s) k q (Only s (record { lambda = h; env = k }) ∷ w) f l (in-rest f x xs ne i) e in
    (r.0, lookup-other x f (At s) (bind_located xs (suc s) q) ne ∙ r.1, r.2, r.3))
    (cases_eq x f)
located_known z (group_keeps {x = x} {xs = xs} b d c g) t s k q w f l i e =
    let ne : x ≡ f → ⊥ = λ same. some-none (z.choice.names f) l (subst (λ a. z.choice.names a ≡ None) same c) e in
    let r = located_known z g (suc t) (suc s) k q (Both t s ∷ w) f l (in-rest f x xs ne i) e in
    (r.0, lookup-other x f (At s) (bind_located xs (suc s) q) ne ∙ r.1, r.2, r.3)

-- the variables of a group are bound, in the world that has its procedures
module _ (z : Pass) (fits : Fits z) (w : World) {n : ℕ} {xs ls ys ms zs : List ℕ} (g : Group z n xs ls ys ms)
    (sub : (x : ℕ) → IsIn x (of_lambdas z.source_free ls) → IsIn x zs) (clear : ClearBeyond z xs zs) (q m : Env)
    (s : Scope z w (without xs zs) q m) (t o : ℕ) where
  abbrev ghost_env : Env
  ghost_env = bind_located ys t m

  out_of : (y : ℕ) → (IsIn y xs → ⊥) → lookup ghost_env y ≡ lookup m y
  out_of y away = located-out ys t m y (λ i. away (group-all z g y i))

  -- each added variable of a member has a value where the group is made
  has_added : (l y : ℕ) → Added z l y → ((x : ℕ) → IsIn x (z.source_free l) → IsIn x zs) →
      (v : Value) × (lookup ghost_env y ≡ Some v)
  has_added l y (itself i e) h =
      ⊎_elim
      (λ j. let p = located_plain z g t o ghost_env m q w y j e in (p.value, p.here))
      (λ away. let p = s.plain y (left-in xs zs y away (h y i)) e in (p.value, out_of y away ∙ p.here))
      (in-or-not y xs)
  has_added l y (through f k i e a) h =
      ⊎_elim
      (λ j. has_added k y a (λ x b. sub x (group-free z g f k x e j b)))
      (λ away.
      let r = (s.known f k (left-in xs zs f away (h f i)) e).ready in
      let b = r.agree y a in
      (b.0, out_of y (clear.clear f k y (h f i) away e (fits.full k y (fits.named f k e) a)) ∙ b.2))
      (in-or-not f xs)

  pub scope-located : Scope z (grown z g t o ghost_env w) zs (bind_located xs o q) (bind_located ys t m)
  scope-located =
      let W = grown z g t o ghost_env w in
      let up = grown-grows z g t o ghost_env w in
      record {
        plain = λ x i e.
            ⊎_elim
            (λ j. located_plain z g t o ghost_env m q w x j e)
            (λ away.
            let p = s.plain x (left-in xs zs x away i) e in
            record {
              value = p.value;
              other = p.other;
              here = out_of x away ∙ p.here;
              there = located-out xs o q x away ∙ p.there;
              alike = alike-grows w W up p.alike;
            })
            (in-or-not x xs);
        known = λ f l i e.
            ⊎_elim
            (λ j.
            let r = located_known z g t o ghost_env q w f l j e in
            record {
              location = r.0;
              there = r.1;
              ready = record {
                lifts = r.2;
                old = ghost_env;
                fact = r.3;
                agree = λ y a.
                    let b = has_added l y a (λ x c. sub x (group-free z g f l x e j c)) in (b.0, b.1, b.1);
              };
            })
            (λ away.
            let k = s.known f l (left-in xs zs f away i) e in
            record {
              location = k.location;
              there = located-out xs o q f away ∙ k.there;
              ready = ready-env z W
                  (λ y a. out_of y (clear.clear f l y i away e (fits.full l y (fits.named f l e) a)))
                  (ready-grows w W up z k.ready);
            })
            (in-or-not f xs);
      }
