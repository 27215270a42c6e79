-- Slots that are marked.
use Rattle.std.proofs.Common.{◌≡◌, refl, sym, ap, ◌∙◌, ℕ, zero, suc, ◌+◌, ◌<◌, ◌≤◌, ◌==◌, ◌||◌, Bool, true, false, arith, List, [], ◌∷◌, length, drop, get_or, set, eq-eqb, eqb-true, ne_eqb}
use Rattle.std.proofs.Math.Seq.{drop-cons}
use Rattle.tb_core.specs.FreeVariables.{is_in}
use Rattle.tb_generate.specs.calls.Bits.{is_home, with_slots}

pub no-slots : (home : ℕ → ℕ) (h : ℕ) (bs : List Bool) → with_slots home [] h bs ≡ bs
no-slots home h [] = refl
no-slots home h (b ∷ bs) = ap (λ cs. b ∷ cs) (no-slots home (suc h) bs)

or_true : (a : Bool) → (a || true) ≡ true
or_true true = refl
or_true false = refl

behind_slots : (home : ℕ → ℕ) (x : ℕ) (xs : List ℕ) (h : ℕ) (bs : List Bool) → home x < h → with_slots home (x ∷ xs) h bs ≡ with_slots home xs h bs
behind_slots home x xs h [] lt = refl
behind_slots home x xs h (b ∷ bs) lt =
    let e : (h == home x) ≡ false = ne_eqb h (home x) (λ q. omega (arith, lt, q)) in
    rw (e, behind_slots home x xs (suc h) bs (omega arith)) refl

pub one-slot : (home : ℕ → ℕ) (x : ℕ) (xs : List ℕ) (h k : ℕ) (bs : List Bool) → home x ≡ h + k →
    with_slots home (x ∷ xs) h bs ≡ with_slots home xs h (set bs k true)
one-slot home x xs h k [] e = refl
one-slot home x xs h zero (b ∷ bs) e =
    let q : (h == home x) ≡ true = eq-eqb h (home x) (omega (arith, e)) in
    rw (q, or_true (is_home home xs h), behind_slots home x xs (suc h) bs (omega (arith, e))) refl
one-slot home x xs h (suc k) (b ∷ bs) e =
    let q : (h == home x) ≡ false = ne_eqb h (home x) (λ r. omega (arith, e, r)) in
    rw (q, one-slot home x xs (suc h) k bs (omega (arith, e))) refl

set_outside : (bs : List Bool) (k : ℕ) → length bs ≤ k → set bs k true ≡ bs
set_outside [] k le = refl
set_outside (b ∷ bs) zero le = absurd (omega (arith, le))
set_outside (b ∷ bs) (suc k) le = ap (λ cs. b ∷ cs) (set_outside bs k (omega (arith, le)))

-- the next of the variables whose slots are marked
pub mark-step : (home : ℕ → ℕ) (xs : List ℕ) (i j x : ℕ) (bs cs : List Bool) → i < length xs → j ≡ suc i → get_or xs i 0 ≡ x →
    cs ≡ set bs (home x) true → with_slots home (drop i xs) 0 bs ≡ with_slots home (drop j xs) 0 cs
mark-step home xs i j x bs cs lt e q r =
    ap (λ ys. with_slots home ys 0 bs) (drop-cons xs i 0 lt)
    ∙ ap (λ y. with_slots home (y ∷ drop (suc i) xs) 0 bs) q
    ∙ one-slot home x (drop (suc i) xs) 0 (home x) bs (omega arith)
    ∙ ap (λ k. with_slots home (drop k xs) 0 (set bs (home x) true)) (sym e)
    ∙ ap (with_slots home (drop j xs) 0) (sym r)

pub set-within : (bs cs : List Bool) (k : ℕ) → length bs ≤ k → cs ≡ bs → cs ≡ set bs k true
set-within bs cs k le e = e ∙ sym (set_outside bs k le)

in_home : (home : ℕ → ℕ) (ys : List ℕ) (x h : ℕ) → is_in ys x ≡ true → (h == home x) ≡ true → is_home home ys h ≡ true
in_home home [] x h i e = cc
in_home home (y ∷ ys) x h i e = by_test (λ k. in_home home ys x h k e) (y == x) refl i
  where
    by_test : (is_in ys x ≡ true → is_home home ys h ≡ true) → (b : Bool) → (y == x) ≡ b → (b || is_in ys x) ≡ true → ((h == home y) || is_home home ys h) ≡ true
    by_test r true q k = ap (λ z. (h == home z) || is_home home ys h) (eqb-true y x q) ∙ ap (λ b. b || is_home home ys h) e
    by_test r false q k = ap (λ b. (h == home y) || b) (r k) ∙ or_true (h == home y)

home_within : (home : ℕ → ℕ) (xs ys : List ℕ) (h : ℕ) → ((x : ℕ) → is_in xs x ≡ true → is_in ys x ≡ true) → is_home home xs h ≡ true → is_home home ys h ≡ true
home_within home [] ys h k e = cc
home_within home (x ∷ xs) ys h k e = by_test (home_within home xs ys h (λ z i. k z (ap (λ b. (x == z) || b) i ∙ or_true (x == z)))) (h == home x) refl e
  where
    by_test : (is_home home xs h ≡ true → is_home home ys h ≡ true) → (b : Bool) → (h == home x) ≡ b → (b || is_home home xs h) ≡ true → is_home home ys h ≡ true
    by_test r true q _ = in_home home ys x h (k x (ap (λ b. b || is_in xs x) (eq-eqb x x refl))) q
    by_test r false _ i = r i

both_ways : (a b : Bool) → (a ≡ true → b ≡ true) → (b ≡ true → a ≡ true) → a ≡ b
both_ways true b f g = sym (f refl)
both_ways false true f g = g refl
both_ways false false f g = refl

pub same-home : (home : ℕ → ℕ) (xs ys : List ℕ) (h : ℕ) → ((x : ℕ) → is_in xs x ≡ is_in ys x) → is_home home xs h ≡ is_home home ys h
same-home home xs ys h k =
    both_ways _ _ (home_within home xs ys h (λ x i. sym (k x) ∙ i)) (home_within home ys xs h (λ x i. k x ∙ i))

-- the slots of lists with the same members
pub same-slots : (home : ℕ → ℕ) (xs ys : List ℕ) (h : ℕ) (bs : List Bool) → ((x : ℕ) → is_in xs x ≡ is_in ys x) → with_slots home xs h bs ≡ with_slots home ys h bs
same-slots home xs ys h [] k = refl
same-slots home xs ys h (b ∷ bs) k = rw (same-home home xs ys h k, same-slots home xs ys (suc h) bs k) refl
