-- How many elements of a list pass a test, and what follows from it for lists of numbers.
use Rattle.std.proofs.Common.{◌≡◌, refl, sym, ap, ◌∙◌, ℕ, ◌+◌, ◌<◌, ◌≤◌, inl, inr, ⊎_elim, arith, Bool, true, false, ◌==◌, ◌||◌, nat_le, List, [], ◌∷◌, ◌++◌, map, eq-eqb}
use Rattle.std.specs.List.{list_any}
use Rattle.std.proofs.lemmas.Bool.{cases_lt, ne_eqb, le-leb, lt-leb}
use Rattle.tb_semantics.specs.Graph.{IsIn, IsApart}
use Rattle.tb_core.specs.FreeVariables.{is_in}
use Rattle.tb_expand.specs.Closed.{one_if, times}

pub times_joined : {X : Type 0} (test : X → Bool) (xs ys : List X) → times test (xs ++ ys) ≡ times test xs + times test ys
times_joined test [] ys = omega arith
times_joined test (x ∷ xs) ys = let h = times_joined test xs ys in omega arith

pub times_mapped : {X Y : Type 0} (test : Y → Bool) (f : X → Y) (xs : List X) → times test (map f xs) ≡ times (λ x. test (f x)) xs
times_mapped test f [] = refl
times_mapped test f (x ∷ xs) = let h = times_mapped test f xs in omega arith

reached : (n : ℕ) → nat_le 1 (1 + n) ≡ true
reached n = le-leb 1 (1 + n) (omega arith)

or_some : (a : Bool) (n : ℕ) (b : Bool) → b ≡ nat_le 1 n → (a || b) ≡ nat_le 1 (one_if a + n)
or_some true n b h = sym (reached n)
or_some false n b h = h ∙ ap (nat_le 1) (omega arith)

-- some element passes the test
pub any_times : {X : Type 0} (test : X → Bool) (xs : List X) → list_any test xs ≡ nat_le 1 (times test xs)
any_times test [] = refl
any_times test (x ∷ xs) = or_some (test x) (times test xs) (list_any test xs) (any_times test xs)

-- a number in a list of numbers
abbrev pub is_number : ℕ → ℕ → Bool
is_number n x = x == n

pub same_once : (x : ℕ) → one_if (is_number x x) ≡ 1
same_once x = ap one_if (eq-eqb x x refl)

pub in_times : (x : ℕ) (xs : List ℕ) → IsIn x xs → 1 ≤ times (is_number x) xs
in_times x [] i = absurd i
in_times x (y ∷ xs) (inl e) = let h : one_if (is_number x y) ≡ 1 = ap one_if (eq-eqb y x e) in omega arith
in_times x (y ∷ xs) (inr i) = let h = in_times x xs i in omega arith

pub times_apart : (xs : List ℕ) → ((x : ℕ) → times (is_number x) xs ≤ 1) → IsApart xs
times_apart [] h = tt
times_apart (y ∷ xs) h = (
  λ i. let m = in_times y xs i in let o = same_once y in let all = h y in absurd (omega arith),
  times_apart xs (λ x. let all = h x in omega arith),
)

pub times_in : (x : ℕ) (xs : List ℕ) → 1 ≤ times (is_number x) xs → is_in xs x ≡ true
times_in x xs h = any_times (is_number x) xs ∙ le-leb 1 (times (is_number x) xs) h

-- one where a number is reached
unfoldable pub past : ℕ → ℕ → ℕ
past x n = one_if (nat_le n x)

pub past_at : (x n : ℕ) → n ≤ x → past x n ≡ 1
unfolding past
past_at x n h = ap one_if (le-leb n x h)

pub past_below : (x n : ℕ) → x < n → past x n ≡ 0
unfolding past
past_below x n h = ap one_if (lt-leb n x h)

pub past_least : (x n : ℕ) → past x n ≤ 1
past_least x n = ⊎_elim (λ l. let a = past_below x n l in omega arith) (λ g. let a = past_at x n g in omega arith) (cases_lt x n)

pub past_here : (x n m : ℕ) → m ≡ n + 1 → one_if (is_number x n) + past x m ≡ past x n
past_here x n m e =
    ⊎_elim
    (λ l. let a = past_below x n l in let b = past_below x m (omega arith) in let c : one_if (is_number x n) ≡ 0 = ap one_if (ne_eqb n x (λ q. omega arith)) in omega arith)
    (λ g. ⊎_elim
    (λ l. let a = past_at x n g in let b = past_below x m l in let c : one_if (is_number x n) ≡ 1 = ap one_if (eq-eqb n x (omega arith)) in omega arith)
    (λ k. let a = past_at x n g in let b = past_at x m k in let c : one_if (is_number x n) ≡ 0 = ap one_if (ne_eqb n x (λ q. omega arith)) in omega arith)
    (cases_lt x m))
    (cases_lt x n)

pub past_more : (x n m : ℕ) → n ≤ m → past x m ≤ past x n
past_more x n m h =
    ⊎_elim
    (λ l. let a = past_below x m (omega arith) in omega arith)
    (λ g. let a = past_at x n g in let b = past_least x m in omega arith)
    (cases_lt x n)

pub past_none : (x : ℕ) → past x 0 ≡ 1
past_none x = past_at x 0 (omega arith)
