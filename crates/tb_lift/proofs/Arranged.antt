-- The operands of a direct call in the order of their numbers: those of the call that it was, and the added variables.
use Rattle.std.proofs.Common.{◌≡◌, refl, sym, ap, ◌∙◌, subst, subst₂, ℕ, zero, suc, ◌+◌, ◌-◌, ◌<◌, ◌≤◌, arith, inl, inr, ⊎_elim, not, cond, ◌==◌, List, [], ◌∷◌, ◌++◌, length, map, filter, Option, Some, None, length-append, eq-eqb, ne_eqb}
use Rattle.std.proofs.lemmas.Bool.{cases_eq}
use Rattle.tb_semantics.specs.Graph.{IsIn, IsApart}
use Rattle.tb_core.specs.Store.{Value, At}
use Rattle.tb_core.specs.Reference.{value_for, prepend, arranged}
use Rattle.tb_core.specs.Partners as Like
use Rattle.tb_ir.specs.Machine.{Env}
use Rattle.tb_ir.specs.TreeMachine.{direct_numbers, numbers_from}
use Rattle.tb_ir.specs.Rules.{IsPermutation}
use Rattle.tb_lift.proofs.Environments.{in-rest}
use Rattle.tb_lift.proofs.Rel as Rel
use Rattle.tb_lift.proofs.Rel.{World, Alike, AllAlike, Pass, Ready, CallRel, own_numbers}
use Rattle.tb_lift.proofs.Operands.{permutation-length}

own_test : (ns : List ℕ) → map (λ i. i - 1) (filter (λ i. not (i == 0)) ns) ≡ own_numbers ns
own_test [] = refl
own_test (zero ∷ ns) = own_test ns
own_test (suc n ∷ ns) =
    subst (λ b. map (λ i. i - 1) (cond (not b) (suc n ∷ filter (λ i. not (i == 0)) ns) (filter (λ i. not (i == 0)) ns)) ≡ n ∷ own_numbers ns)
    (sym (ne_eqb (suc n) 0 (λ e. omega arith)))
    (subst (λ k. k ∷ map (λ i. i - 1) (filter (λ i. not (i == 0)) ns) ≡ n ∷ own_numbers ns)
    (let e : n ≡ suc n - 1 = omega arith in e) (ap (λ ks. n ∷ ks) (own_test ns)))

-- the numbers of a direct call
pub direct-all : (ns : List ℕ) (n k a : ℕ) → length ns ≡ suc k → n ≡ k + a →
    direct_numbers ns n ≡ own_numbers ns ++ numbers_from k a
direct-all ns n k a e h =
    let x : length ns - 1 ≡ k = omega arith in
    let y : n - (length ns - 1) ≡ a = omega arith in
    ap (λ ks. ks ++ numbers_from (length ns - 1) (n - (length ns - 1))) (own_test ns)
    ∙ (ap (λ j. own_numbers ns ++ numbers_from j (n - (length ns - 1))) x ∙ ap (λ j. own_numbers ns ++ numbers_from k j) y)

pub own-append : (ks ns : List ℕ) → own_numbers (ks ++ ns) ≡ own_numbers ks ++ own_numbers ns
own-append [] ns = refl
own-append (zero ∷ ks) ns = own-append ks ns
own-append (suc k ∷ ks) ns = ap (λ js. k ∷ js) (own-append ks ns)

own_in : (ns : List ℕ) (i : ℕ) → IsIn i (own_numbers ns) → IsIn (suc i) ns
own_in [] i h = absurd h
own_in (zero ∷ ns) i h = inr (own_in ns i h)
own_in (suc n ∷ ns) i (inl e) = inl (ap suc e)
own_in (suc n ∷ ns) i (inr h) = inr (own_in ns i h)

in_own : (ns : List ℕ) (i : ℕ) → IsIn (suc i) ns → IsIn i (own_numbers ns)
in_own [] i h = absurd h
in_own (zero ∷ ns) i h = in_own ns i (in-rest (suc i) 0 ns (λ e. omega arith) h)
in_own (suc n ∷ ns) i (inl e) = inl (omega arith)
in_own (suc n ∷ ns) i (inr h) = inr (in_own ns i h)

pub numbers-long : (k a : ℕ) → length (numbers_from k a) ≡ a
numbers-long k zero = refl
numbers-long k (suc a) = ap suc (numbers-long (suc k) a)

left_found : (i : ℕ) (ns ms : List ℕ) (vs gs : List Value) (v : Value) → value_for i ns vs ≡ Some v →
    value_for i (ns ++ ms) (vs ++ gs) ≡ Some v
left_found i [] ms vs gs v e = let c : None ≡ Some v = e in absurd cc
left_found i (n ∷ ns) ms [] gs v e = let c : None ≡ Some v = e in absurd cc
left_found i (n ∷ ns) ms (u ∷ vs) gs v e =
    ⊎_elim
    (λ q. ap (λ b. cond b (Some u) (value_for i (ns ++ ms) (vs ++ gs))) (eq-eqb n i q)
    ∙ (sym (ap (λ b. cond b (Some u) (value_for i ns vs)) (eq-eqb n i q)) ∙ e))
    (λ ne. ap (λ b. cond b (Some u) (value_for i (ns ++ ms) (vs ++ gs))) (ne_eqb n i ne)
    ∙ left_found i ns ms vs gs v (sym (ap (λ b. cond b (Some u) (value_for i ns vs)) (ne_eqb n i ne)) ∙ e))
    (cases_eq n i)

right_found : (i : ℕ) (ns ms : List ℕ) (vs gs : List Value) → (IsIn i ns → ⊥) → length ns ≡ length vs →
    value_for i (ns ++ ms) (vs ++ gs) ≡ value_for i ms gs
right_found i [] ms [] gs away e = refl
right_found i [] ms (v ∷ vs) gs away e = absurd (omega arith)
right_found i (n ∷ ns) ms [] gs away e = absurd (omega arith)
right_found i (n ∷ ns) ms (v ∷ vs) gs away e =
    ap (λ b. cond b (Some v) (value_for i (ns ++ ms) (vs ++ gs))) (ne_eqb n i (λ q. away (inl q)))
    ∙ right_found i ns ms vs gs (λ j. away (inr j)) (omega arith)

arranged_right : (i a : ℕ) (ns ms : List ℕ) (vs gs : List Value) → ((j : ℕ) → i ≤ j → IsIn j ns → ⊥) →
    length ns ≡ length vs → arranged i a (ns ++ ms) (vs ++ gs) ≡ arranged i a ms gs
arranged_right i zero ns ms vs gs away e = refl
arranged_right i (suc a) ns ms vs gs away e =
    ap (λ o. prepend o (arranged (suc i) a (ns ++ ms) (vs ++ gs))) (right_found i ns ms vs gs (away i (omega arith)) e)
    ∙ ap (prepend (value_for i ms gs)) (arranged_right (suc i) a ns ms vs gs (λ j le. away j (omega arith)) e)

-- values in written order
pub written-arranged : (k a : ℕ) (gs : List Value) → length gs ≡ a → arranged k a (numbers_from k a) gs ≡ gs
written-arranged k zero [] e = refl
written-arranged k zero (g ∷ gs) e = absurd (omega arith)
written-arranged k (suc a) [] e = absurd (omega arith)
written-arranged k (suc a) (g ∷ gs) e =
    ap (λ b. prepend (cond b (Some g) (value_for k (numbers_from (suc k) a) gs)) (arranged (suc k) a (k ∷ numbers_from (suc k) a) (g ∷ gs)))
    (eq-eqb k k refl)
    ∙ ap (λ ws. g ∷ ws)
    (arranged_right (suc k) a (k ∷ []) (numbers_from (suc k) a) (g ∷ []) gs
    (λ j le. ⊎_elim (λ q. omega arith) (λ h. h)) refl
    ∙ written-arranged (suc k) a gs (omega arith))

arranged_split : (i k a : ℕ) (ns : List ℕ) (vs : List Value) → arranged i (k + a) ns vs ≡ arranged i k ns vs ++ arranged (i + k) a ns vs
arranged_split i zero a ns vs =
    let e : zero + a ≡ a = omega arith in let f : i ≡ i + zero = omega arith in
    ap (λ n. arranged i n ns vs) e ∙ ap (λ j. arranged j a ns vs) f
arranged_split i (suc k) a ns vs =
    let e : suc k + a ≡ suc (k + a) = omega arith in let f : suc i + k ≡ i + suc k = omega arith in
    ap (λ n. arranged i n ns vs) e
    ∙ (ap (prepend (value_for i ns vs)) (arranged_split (suc i) k a ns vs)
    ∙ (prepend_front (value_for i ns vs) (arranged (suc i) k ns vs) (arranged (suc i + k) a ns vs)
    ∙ ap (λ j. prepend (value_for i ns vs) (arranged (suc i) k ns vs) ++ arranged j a ns vs) f))
  where
    prepend_front : (o : Option Value) (vs us : List Value) → prepend o (vs ++ us) ≡ prepend o vs ++ us
    prepend_front None vs us = refl
    prepend_front (Some v) vs us = refl

module _ (z : Pass) (w : World) (m : Env) (l : ℕ) where
  pub call-long : {ns : List ℕ} {vs us : List Value} → CallRel z w m l ns vs us →
      (length vs ≡ length (own_numbers ns)) × (length us ≡ length ns)
  call-long Rel.no_value = (refl, refl)
  call-long (Rel.own_value h hs) = let k = call-long hs in (ap suc k.0, ap suc k.1)
  call-long (Rel.operator_value r hs) = let k = call-long hs in (k.0, ap suc k.1)

  record FoundOwn (i : ℕ) (ns : List ℕ) (vs us : List Value) : Type 0 where
    value : Value
    other : Value
    here : value_for i (own_numbers ns) vs ≡ Some value
    there : value_for (suc i) ns us ≡ Some other
    alike : Alike w value other

  found_own : (i : ℕ) {ns : List ℕ} {vs us : List Value} → CallRel z w m l ns vs us → IsIn (suc i) ns →
      FoundOwn i ns vs us
  found_own i Rel.no_value h = absurd h
  found_own i (Rel.own_value {n = n} {ns = ns} {v = v} {u = u} {vs = vs} {us = us} k ks) h =
      ⊎_elim
      (λ e. record {
        value = v;
        other = u;
        here = ap (λ b. cond b (Some v) (value_for i (own_numbers ns) vs)) (eq-eqb n i e);
        there = ap (λ b. cond b (Some u) (value_for (suc i) ns us)) (eq-eqb (suc n) (suc i) (ap suc e));
        alike = k;
      })
      (λ ne.
      let r = found_own i ks (in-rest (suc i) (suc n) ns (λ e. ne (omega arith)) h) in
      record {
        value = r.value;
        other = r.other;
        here = ap (λ b. cond b (Some v) (value_for i (own_numbers ns) vs)) (ne_eqb n i ne) ∙ r.here;
        there = ap (λ b. cond b (Some u) (value_for (suc i) ns us)) (ne_eqb (suc n) (suc i) (λ e. ne (omega arith))) ∙ r.there;
        alike = r.alike;
      })
      (cases_eq n i)
  found_own i (Rel.operator_value {c = c} {ns = ns} {vs = vs} {us = us} k ks) h =
      let r = found_own i ks (in-rest (suc i) 0 ns (λ e. omega arith) h) in
      record {
        value = r.value;
        other = r.other;
        here = r.here;
        there = ap (λ b. cond b (Some (At c)) (value_for (suc i) ns us)) (ne_eqb 0 (suc i) (λ e. omega arith)) ∙ r.there;
        alike = r.alike;
      }

  found_operator : {ns : List ℕ} {vs us : List Value} → CallRel z w m l ns vs us → IsIn 0 ns →
      (c : ℕ) × (value_for 0 ns us ≡ Some (At c)) × Ready z w l c m
  found_operator Rel.no_value h = absurd h
  found_operator (Rel.own_value {n = n} {ns = ns} {u = u} {us = us} k ks) h =
      let r = found_operator ks (in-rest 0 (suc n) ns (λ e. omega arith) h) in
      (r.0, ap (λ b. cond b (Some u) (value_for 0 ns us)) (ne_eqb (suc n) 0 (λ e. omega arith)) ∙ r.1, r.2)
  found_operator (Rel.operator_value {c = c} k ks) h = (c, refl, k)

  own_arranged : (i k : ℕ) {ns : List ℕ} {vs us : List Value} (ms : List ℕ) (gs : List Value) → CallRel z w m l ns vs us →
      ((j : ℕ) → j < i + k → IsIn (suc j) ns) →
      AllAlike w (arranged i k (own_numbers ns ++ ms) (vs ++ gs)) (arranged (suc i) k ns us)
  own_arranged i zero ms gs h all = Like.nothing
  own_arranged i (suc k) {ns = ns} {vs = vs} {us = us} ms gs h all =
      let r = found_own i h (all i (omega arith)) in
      subst₂ (λ o p. AllAlike w (prepend o (arranged (suc i) k (own_numbers ns ++ ms) (vs ++ gs))) (prepend p (arranged (suc (suc i)) k ns us)))
      (sym (left_found i (own_numbers ns) ms vs gs r.value r.here)) (sym r.there)
      (Like.further r.alike (own_arranged (suc i) k ms gs h (λ j lt. all j (omega arith))))

  -- what both enter with
  pub record Passed (ns : List ℕ) (k : ℕ) (vs us gs : List Value) : Type 0 where
    pub location : ℕ
    pub own : List Value
    pub others : List Value
    pub in_source : arranged 0 (length ns) ns us ≡ At location ∷ others
    pub in_target : arranged 0 (length (own_numbers ns ++ numbers_from k (length gs))) (own_numbers ns ++ numbers_from k (length gs)) (vs ++ gs) ≡ own ++ gs
    pub alike : AllAlike w own others
    pub ready : Ready z w l location m

  pub passes : (ns : List ℕ) (k : ℕ) {vs us : List Value} (gs : List Value) → IsPermutation ns (suc k) →
      CallRel z w m l ns vs us → Passed ns k vs us gs
  passes ns k {vs = vs} {us = us} gs perm h =
      let long = permutation-length ns (suc k) perm in
      let longs = call-long h in
      let op = found_operator h (perm.full 0 (omega arith)) in
      let ms = numbers_from k (length gs) in
      let own_long : length (own_numbers ns) ≡ k = own_count ns k perm long in
      let whole : length (own_numbers ns ++ ms) ≡ k + length gs =
      length-append (own_numbers ns) ms ∙ (ap (λ n. n + length ms) own_long ∙ ap (λ n. k + n) (numbers-long k (length gs))) in
      let second : arranged (0 + k) (length gs) (own_numbers ns ++ ms) (vs ++ gs) ≡ gs =
      (let e : 0 + k ≡ k = omega arith in ap (λ j. arranged j (length gs) (own_numbers ns ++ ms) (vs ++ gs)) e)
      ∙ (arranged_right k (length gs) (own_numbers ns) ms vs gs
      (λ j le i. let lt = perm.within (suc j) (own_in ns j i) in omega arith) (sym longs.0)
      ∙ written-arranged k (length gs) gs refl) in
      record {
        location = op.0;
        own = arranged 0 k (own_numbers ns ++ ms) (vs ++ gs);
        others = arranged 1 k ns us;
        in_source = ap (λ n. arranged 0 n ns us) long ∙ ap (λ o. prepend o (arranged 1 k ns us)) op.1;
        in_target = ap (λ n. arranged 0 n (own_numbers ns ++ ms) (vs ++ gs)) whole
            ∙ (arranged_split 0 k (length gs) (own_numbers ns ++ ms) (vs ++ gs)
            ∙ ap (λ ws. arranged 0 k (own_numbers ns ++ ms) (vs ++ gs) ++ ws) second);
        alike = own_arranged 0 k ms gs h (λ j lt. perm.full (suc j) (omega arith));
        ready = op.2;
      }
    where
      own_all : (ns : List ℕ) → (IsIn 0 ns → ⊥) → length (own_numbers ns) ≡ length ns
      own_all [] away = refl
      own_all (zero ∷ ns) away = absurd (away (inl refl))
      own_all (suc n ∷ ns) away = ap suc (own_all ns (λ i. away (inr i)))

      own_but_one : (ns : List ℕ) → IsApart ns → IsIn 0 ns → suc (length (own_numbers ns)) ≡ length ns
      own_but_one [] a i = absurd i
      own_but_one (zero ∷ ns) a i = ap suc (own_all ns a.0)
      own_but_one (suc n ∷ ns) a i = ap suc (own_but_one ns a.1 (in-rest 0 (suc n) ns (λ e. omega arith) i))

      own_count : (ns : List ℕ) (k : ℕ) → IsPermutation ns (suc k) → length ns ≡ suc k → length (own_numbers ns) ≡ k
      own_count ns k perm long = let e = own_but_one ns perm.apart (perm.full 0 (omega arith)) in omega arith
