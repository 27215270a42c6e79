-- Lists in ascending order, each number once.
use Rattle.std.proofs.Common.{◌≡◌, refl, sym, ap, ◌∙◌, ℕ, suc, ◌<◌, ◌≤◌, inl, inr, arith, Bool, true, false, cond, ◌==◌, nat_lt, nat_le, List, [], ◌∷◌, slice_get, eqb-true, eq-eqb, ne_eqb, insert}
use Rattle.std.proofs.lemmas.Bool.{eqb-false, ltb-true, ltb-false, leb-true, leb-false}
use Rattle.tb_semantics.specs.Graph.{IsIn}
use Rattle.tb_liftable.specs.Added.{Rising, put, ascending, is_name}
use Rattle.tb_liftable.specs.calls.Place.{place}

-- what is put in, and what was there
in_by : (x y : ℕ) (ys : List ℕ) (z : ℕ) → (IsIn z (put x ys) → IsIn z (x ∷ ys)) → (b c : Bool) → nat_lt x y ≡ b → (x == y) ≡ c → IsIn z (cond b (x ∷ y ∷ ys) (cond c (y ∷ ys) (y ∷ put x ys))) → IsIn z (x ∷ y ∷ ys)
in_by x y ys z h true c p q i = i
in_by x y ys z h false true p q i = inr i
in_by x y ys z h false false p q (inl e) = inr (inl e)
in_by x y ys z h false false p q (inr i) = elim (h i) [ inl e ↦ inl e | inr j ↦ inr (inr j) ]

pub put-in : (x : ℕ) (ys : List ℕ) (z : ℕ) → IsIn z (put x ys) → IsIn z (x ∷ ys)
put-in x [] z i = i
put-in x (y ∷ ys) z i = in_by x y ys z (put-in x ys z) (nat_lt x y) (x == y) refl refl i

back_by : (x y : ℕ) (ys : List ℕ) (z : ℕ) → (IsIn z (x ∷ ys) → IsIn z (put x ys)) → (b c : Bool) → nat_lt x y ≡ b → (x == y) ≡ c → IsIn z (x ∷ y ∷ ys) → IsIn z (cond b (x ∷ y ∷ ys) (cond c (y ∷ ys) (y ∷ put x ys)))
back_by x y ys z h true c p q i = i
back_by x y ys z h false true p q (inl e) = inl (sym (eqb-true x y q) ∙ e)
back_by x y ys z h false true p q (inr i) = i
back_by x y ys z h false false p q (inl e) = inr (h (inl e))
back_by x y ys z h false false p q (inr (inl e)) = inl e
back_by x y ys z h false false p q (inr (inr i)) = inr (h (inr i))

pub in-put : (x : ℕ) (ys : List ℕ) (z : ℕ) → IsIn z (x ∷ ys) → IsIn z (put x ys)
in-put x [] z i = i
in-put x (y ∷ ys) z i = back_by x y ys z (in-put x ys z) (nat_lt x y) (x == y) refl refl i

rising_by : (x y : ℕ) (ys : List ℕ) → Rising (y ∷ ys) → Rising (put x ys) → (b c : Bool) → nat_lt x y ≡ b → (x == y) ≡ c → Rising (cond b (x ∷ y ∷ ys) (cond c (y ∷ ys) (y ∷ put x ys)))
rising_by x y ys r h true c p q =
    let lt : x < y = ltb-true x y p in
    (λ z i. elim i [ inl e ↦ omega arith | inr j ↦ let k : y < z = r.0 z j in omega arith ], r)
rising_by x y ys r h false true p q = r
rising_by x y ys r h false false p q =
    let le : y ≤ x = ltb-false x y p in
    let ne : x ≡ y → ⊥ = eqb-false x y q in
    (λ z i. elim (put-in x ys z i) [ inl e ↦ let apart : z ≡ y → ⊥ = λ f. ne (e ∙ f) in omega arith | inr j ↦ r.0 z j ], h)

pub put-rising : (x : ℕ) (ys : List ℕ) → Rising ys → Rising (put x ys)
put-rising x [] r = (λ z i. absurd i, tt)
put-rising x (y ∷ ys) r = rising_by x y ys r (put-rising x ys r.1) (nat_lt x y) (x == y) refl refl

pub ascending-rising : (xs : List ℕ) → Rising (ascending xs)
ascending-rising [] = tt
ascending-rising (x ∷ xs) = put-rising x (ascending xs) (ascending-rising xs)

pub ascending-in : (xs : List ℕ) (z : ℕ) → IsIn z (ascending xs) → IsIn z xs
ascending-in [] z i = i
ascending-in (x ∷ xs) z i = elim (put-in x (ascending xs) z i) [ inl e ↦ inl e | inr j ↦ inr (ascending-in xs z j) ]

pub in-ascending : (xs : List ℕ) (z : ℕ) → IsIn z xs → IsIn z (ascending xs)
in-ascending [] z i = i
in-ascending (x ∷ xs) z (inl e) = in-put x (ascending xs) z (inl e)
in-ascending (x ∷ xs) z (inr i) = in-put x (ascending xs) z (inr (in-ascending xs z i))

-- the tails of two lists with one first element
tail_in : (x y z : ℕ) (xs ys : List ℕ) → x ≡ y → x < z → IsIn z (y ∷ ys) → IsIn z ys
tail_in x y z xs ys e lt (inl f) = absurd (omega arith)
tail_in x y z xs ys e lt (inr i) = i

first_same : (x y : ℕ) (xs ys : List ℕ) → Rising (x ∷ xs) → Rising (y ∷ ys) → IsIn x (y ∷ ys) → IsIn y (x ∷ xs) → x ≡ y
first_same x y xs ys r s (inl e) j = sym e
first_same x y xs ys r s (inr i) (inl e) = e
first_same x y xs ys r s (inr i) (inr j) = let a : y < x = s.0 x i in let b : x < y = r.0 y j in absurd (omega arith)

-- two such lists with the same members are one
pub rising-same : (xs ys : List ℕ) → Rising xs → Rising ys → ((z : ℕ) → IsIn z xs → IsIn z ys) → ((z : ℕ) → IsIn z ys → IsIn z xs) → xs ≡ ys
rising-same [] [] r s f g = refl
rising-same [] (y ∷ ys) r s f g = absurd (g y (inl refl))
rising-same (x ∷ xs) [] r s f g = absurd (f x (inl refl))
rising-same (x ∷ xs) (y ∷ ys) r s f g =
    let e : x ≡ y = first_same x y xs ys r s (f x (inl refl)) (g y (inl refl)) in
    let tails : xs ≡ ys = rising-same xs ys r.1 s.1 (λ z i. tail_in x y z xs ys e (r.0 z i) (f z (inr i))) (λ z i. tail_in y x z ys xs (sym e) (s.0 z i) (g z (inr i))) in
    ap (λ v. v ∷ xs) e ∙ ap (λ vs. y ∷ vs) tails

pub ascending-same : (xs ys : List ℕ) → ((z : ℕ) → IsIn z xs → IsIn z ys) → ((z : ℕ) → IsIn z ys → IsIn z xs) → ascending xs ≡ ascending ys
ascending-same xs ys f g =
    rising-same (ascending xs) (ascending ys) (ascending-rising xs) (ascending-rising ys)
    (λ z i. in-ascending ys z (f z (ascending-in xs z i)))
    (λ z i. in-ascending xs z (g z (ascending-in ys z i)))

-- a number put in where it goes
cond_cons : (t : Bool) (y : ℕ) (a b : List ℕ) → cond t (y ∷ a) (y ∷ b) ≡ y ∷ cond t a b
cond_cons true y a b = refl
cond_cons false y a b = refl

place_by : (x y : ℕ) (ys : List ℕ) → cond (is_name (slice_get ys (place x ys)) x) ys (insert ys (place x ys) x) ≡ put x ys → (b c d : Bool) → nat_le x y ≡ b → nat_lt x y ≡ c → (x == y) ≡ d → cond (is_name (slice_get (y ∷ ys) (cond b 0 (suc (place x ys)))) x) (y ∷ ys) (insert (y ∷ ys) (cond b 0 (suc (place x ys))) x) ≡ cond c (x ∷ y ∷ ys) (cond d (y ∷ ys) (y ∷ put x ys))
place_by x y ys h true true d p q r =
    let lt : x < y = ltb-true x y q in
    let e : (y == x) ≡ false = ne_eqb y x (λ f. omega arith) in
    ap (λ t. cond t (y ∷ ys) (x ∷ y ∷ ys)) e
place_by x y ys h true false true p q r =
    let e : (y == x) ≡ true = eq-eqb y x (sym (eqb-true x y r)) in
    ap (λ t. cond t (y ∷ ys) (x ∷ y ∷ ys)) e
place_by x y ys h true false false p q r =
    let a : x ≤ y = leb-true x y p in
    let b : y ≤ x = ltb-false x y q in
    let n : x ≡ y → ⊥ = eqb-false x y r in
    absurd (n (omega arith))
place_by x y ys h false true d p q r =
    let a : y < x = leb-false x y p in
    let b : x < y = ltb-true x y q in
    absurd (omega arith)
place_by x y ys h false false true p q r =
    let a : y < x = leb-false x y p in
    let b : x ≡ y = eqb-true x y r in
    absurd (omega arith)
place_by x y ys h false false false p q r =
    cond_cons (is_name (slice_get ys (place x ys)) x) y ys (insert ys (place x ys) x) ∙ ap (λ vs. y ∷ vs) h

pub put_at : (x : ℕ) (ys : List ℕ) → cond (is_name (slice_get ys (place x ys)) x) ys (insert ys (place x ys) x) ≡ put x ys
put_at x [] = refl
put_at x (y ∷ ys) = place_by x y ys (put_at x ys) (nat_le x y) (nat_lt x y) (x == y) refl refl refl

pub put_found : (x : ℕ) (ys : List ℕ) (n : ℕ) (b : Bool) → n ≡ place x ys → b ≡ is_name (slice_get ys n) x → b ≡ true → ys ≡ put x ys
put_found x ys n b e f g =
    let t : is_name (slice_get ys (place x ys)) x ≡ true = ap (λ k. is_name (slice_get ys k) x) (sym e) ∙ (sym f ∙ g) in
    ap (λ v. cond v ys (insert ys (place x ys) x)) (sym t) ∙ put_at x ys

pub put_new : (x : ℕ) (ys new : List ℕ) (n : ℕ) (b : Bool) → n ≡ place x ys → b ≡ is_name (slice_get ys n) x → b ≡ false → new ≡ insert ys n x → new ≡ put x ys
put_new x ys new n b e f g h =
    let t : is_name (slice_get ys (place x ys)) x ≡ false = ap (λ k. is_name (slice_get ys k) x) (sym e) ∙ (sym f ∙ g) in
    h ∙ ap (λ k. insert ys k x) e ∙ ap (λ v. cond v ys (insert ys (place x ys) x)) (sym t) ∙ put_at x ys
