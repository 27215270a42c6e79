-- Marks that tell which addresses a list holds, and why a list of different addresses is no longer than the memory.
use Rattle.std.proofs.Common.{◌≡◌, ℕ, zero, suc, ◌<◌, ◌≤◌, ◌==◌, Bool, true, false, not, ◌||◌, List, [], ◌∷◌, ◌++◌, length, get_or, set, refl, sym, ap, ◌∙◌, subst, ⊎_elim, arith, eqb-true, eq-eqb, get_or-set_other, get_or-set_same}
use Rattle.std.proofs.lemmas.Bool.{and_parts, and_from, cases_Bool, cases_eq, cases_lt, false≢true}
use Rattle.std.proofs.lemmas.List.{get_or_past}
use Rattle.tb_semantics.specs.Graph.{IsIn, IsApart, below, has, sum_of}
use Rattle.tb_semantics.proofs.Reachable.{below_in, in_has, sum_by_partners}
use Rattle.tb_space.specs.calls.Noting.{is_apart}

not_true : (b : Bool) → not b ≡ true → b ≡ false
not_true true e = cc
not_true false e = refl

pub has-push : (xs : List ℕ) (a b : ℕ) → has (xs ++ a ∷ []) b ≡ (has xs b || (a == b))
has-push [] a b = elim (a == b) as (λ v. (v || false) ≡ v) [ true ↦ refl | false ↦ refl ]
has-push (x ∷ xs) a b =
    let h = has-push xs a b in
    elim (x == b) as (λ v. (v || has (xs ++ a ∷ []) b) ≡ ((v || has xs b) || (a == b))) [ true ↦ refl | false ↦ h ]

other : (a b : ℕ) → (a ≡ b → ⊥) → (a == b) ≡ false
other a b ne = ⊎_elim (λ e. absurd (ne (eqb-true a b e))) (λ e. e) (cases_Bool (a == b))

or_false : (b : Bool) → (b || false) ≡ b
or_false true = refl
or_false false = refl

or_true : (b : Bool) → (b || true) ≡ true
or_true true = refl
or_true false = refl

pub has_last : (xs : List ℕ) (a : ℕ) → has (xs ++ a ∷ []) a ≡ true
has_last xs a = has-push xs a a ∙ ap (λ v. has xs a || v) (eq-eqb a a refl) ∙ or_true (has xs a)

pub has_but_last : (xs : List ℕ) (a b : ℕ) → (a ≡ b → ⊥) → has (xs ++ a ∷ []) b ≡ has xs b
has_but_last xs a b ne = has-push xs a b ∙ ap (λ v. has xs b || v) (other a b ne) ∙ or_false (has xs b)

pub apart-push : (xs : List ℕ) (a : ℕ) → is_apart xs ≡ true → has xs a ≡ false → is_apart (xs ++ a ∷ []) ≡ true
apart-push [] a e h = refl
apart-push (x ∷ xs) a e h =
    let p = and_parts (not (has xs x)) (is_apart xs) e in
    let ne : a ≡ x → ⊥ = λ q. let t : (x == a) ≡ true = eq-eqb x a (sym q) in let f : (true || has xs a) ≡ false = subst (λ v. (v || has xs a) ≡ false) t h in cc in
    let tail : has xs a ≡ false = ⊎_elim (λ t. let f : ((x == a) || true) ≡ false = subst (λ v. ((x == a) || v) ≡ false) t h in absurd (false≢true (sym f ∙ or_true (x == a)))) (λ f. f) (cases_Bool (has xs a)) in
    and_from _ _ (ap not (has_but_last xs a x ne) ∙ p.0) (apart-push xs a p.1 tail)

pub apart-last : (xs : List ℕ) (a : ℕ) → is_apart (xs ++ a ∷ []) ≡ true → (is_apart xs ≡ true) × (has xs a ≡ false)
apart-last [] a e = (refl, refl)
apart-last (x ∷ xs) a e =
    let p = and_parts (not (has (xs ++ a ∷ []) x)) (is_apart (xs ++ a ∷ [])) e in
    let q = apart-last xs a p.1 in
    let none : has (xs ++ a ∷ []) x ≡ false = not_true _ p.0 in
    let ne : a ≡ x → ⊥ = λ r. false≢true (sym none ∙ ap (has (xs ++ a ∷ [])) (sym r) ∙ has_last xs a) in
    let ne' : x ≡ a → ⊥ = λ r. ne (sym r) in
    (and_from _ _ (ap not (sym (has_but_last xs a x ne) ∙ none)) q.0, ap (λ v. v || has xs a) (other x a ne') ∙ q.1)

pub IsApart-by_test : (xs : List ℕ) → is_apart xs ≡ true → IsApart xs
IsApart-by_test [] e = tt
IsApart-by_test (x ∷ xs) e =
    let p = and_parts (not (has xs x)) (is_apart xs) e in
    (λ i. false≢true (sym (not_true _ p.0) ∙ in_has xs x i), IsApart-by_test xs p.1)

-- the marks tell which addresses the list holds
abbrev pub Marked : List Bool → List ℕ → Type 0
Marked marks found = (a : ℕ) → get_or marks a false ≡ has found a

pub marked-push : (marks : List Bool) (found : List ℕ) (a : ℕ) → Marked marks found → a < length marks →
    Marked (set marks a true) (found ++ a ∷ [])
marked-push marks found a m lt b =
    ⊎_elim
    (λ e. ap (λ k. get_or (set marks a true) k false) (sym e) ∙ get_or-set_same marks a true false lt ∙ sym (ap (has (found ++ a ∷ [])) (sym e) ∙ has_last found a))
    (λ ne. get_or-set_other marks a b true false (λ q. ne (sym q)) ∙ m b ∙ sym (has_but_last found a b ne))
    (cases_eq a b)

pub within : (marks : List Bool) (found : List ℕ) (a : ℕ) → Marked marks found → has found a ≡ true → a < length marks
within marks found a m h =
    ⊎_elim (λ lt. lt) (λ ge. absurd (false≢true (sym (get_or_past marks a false ge) ∙ m a ∙ h))) (cases_lt a (length marks))

pub marked-last : (marks : List Bool) (found : List ℕ) (a : ℕ) → Marked marks (found ++ a ∷ []) →
    is_apart (found ++ a ∷ []) ≡ true → Marked (set marks a false) found
marked-last marks found a m e b =
    let lt : a < length marks = within marks (found ++ a ∷ []) a m (has_last found a) in
    ⊎_elim
    (λ q. ap (λ k. get_or (set marks a false) k false) (sym q) ∙ get_or-set_same marks a false false lt ∙ sym (ap (has found) (sym q) ∙ (apart-last found a e).1))
    (λ ne. get_or-set_other marks a b false false (λ q. ne (sym q)) ∙ m b ∙ has_but_last found a b ne)
    (cases_eq a b)

one : ℕ → ℕ
one a = 1

sum_of-one : (xs : List ℕ) → sum_of one xs ≡ length xs
unfolding one
sum_of-one [] = refl
sum_of-one (x ∷ xs) = let h = sum_of-one xs in omega arith

length-below : (n : ℕ) → length (below n) ≡ n
length-below zero = refl
length-below (suc n) = ap suc (length-below n)

-- different numbers below n are at most n
few : (xs : List ℕ) (n : ℕ) → IsApart xs → ((l : ℕ) → IsIn l xs → l < n) → length xs ≤ n
few xs n apart low =
    let le : sum_of one xs ≤ sum_of one (below n) = sum_by_partners (λ m k. m ≡ k) one one (λ x y z p q. p ∙ sym q) xs (below n) apart (λ l i. (l, below_in n l (low l i), refl, omega arith)) in
    let d = sum_of-one xs in
    let e = sum_of-one (below n) in
    let f = length-below n in
    omega arith

-- there is room for one more
pub room : (marks : List Bool) (found : List ℕ) (a : ℕ) → Marked marks found → is_apart found ≡ true → has found a ≡ false →
    a < length marks → length found < length marks
room marks found a m e h lt =
    let low : (l : ℕ) → IsIn l (a ∷ found) → l < length marks = λ l i. ⊎_elim (λ q. subst (λ k. k < length marks) q lt) (λ j. within marks found l m (in_has found l j)) i in
    let apart : IsApart (a ∷ found) = (λ i. false≢true (sym h ∙ in_has found a i), IsApart-by_test found e) in
    let le : length (a ∷ found) ≤ length marks = few (a ∷ found) (length marks) apart low in
    omega arith

pub no_more : (marks : List Bool) (found : List ℕ) → Marked marks found → is_apart found ≡ true → length found ≤ length marks
no_more marks found m e =
    few found (length marks) (IsApart-by_test found e) (λ l i. within marks found l m (in_has found l i))
