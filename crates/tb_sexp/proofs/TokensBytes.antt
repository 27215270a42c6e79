-- The kinds of bytes apart from one another, and runs of bytes without a delimiter.
use Rattle.std.proofs.Common.{◌≡◌, ℕ, suc, ◌≤◌, Bool, true, false, List, [], ◌∷◌, ◌++◌, length, take, drop, refl, ap, ◌∙◌, subst, ⊎_elim}
use Rattle.std.specs.Prelude.{◌==◌, nat_lt, codes}
use Rattle.std.specs.List.{list_any, list_all}
use Rattle.std.proofs.lemmas.Bool.{false≢true, both_ways, eqb-true, ne_eqb, le-ltb, or_cases, and_parts, cond_both, cond-true, cond-false, false_from_ne_true}
use Rattle.std.proofs.Math.Seq.{take-append_seam}
use Rattle.tb_sexp.specs.Bytes.{is_whitespace, is_delimiter, is_initial, is_subsequent}
use Rattle.tb_sexp.specs.calls.Scanning.{run_length}
use Rattle.tb_sexp.specs.calls.Lexing.{run}
use Rattle.tb_sexp.specs.Numbers.{digit_of}
use Rattle.tb_sexp.specs.Tokens.{EndsWord}

-- what holds of each number of a list
abbrev pub EachOf : (ℕ → Type 0) → List ℕ → Type 0
EachOf P [] = Unit {0}
EachOf P (x ∷ xs) = P x × EachOf P xs

pub any_of : (P : ℕ → Type 0) (b : ℕ) (xs : List ℕ) → EachOf P xs → list_any (λ c. c == b) xs ≡ true → P b
any_of P b [] each h = absurd (false≢true h)
any_of P b (x ∷ xs) each h = ⊎_elim (λ e. subst P (eqb-true x b e) each.0) (λ e. any_of P b xs each.1 e) (or_cases (x == b) (list_any (λ c. c == b) xs) h)

pub whitespace_of : (P : ℕ → Type 0) → EachOf P (32 ∷ 9 ∷ 10 ∷ 13 ∷ 12 ∷ []) → (b : ℕ) → is_whitespace b ≡ true → P b
whitespace_of P each b h = any_of P b (32 ∷ 9 ∷ 10 ∷ 13 ∷ 12 ∷ []) each h

pub delimiter_of : (P : ℕ → Type 0) → EachOf P (32 ∷ 9 ∷ 10 ∷ 13 ∷ 12 ∷ []) → EachOf P (codes "()\";") → (b : ℕ) → is_delimiter b ≡ true → P b
delimiter_of P spaces others b h =
    ⊎_elim (λ e. whitespace_of P spaces b e) (λ e. any_of P b (codes "()\";") others e) (or_cases (is_whitespace b) (list_any (λ c. c == b) (codes "()\";")) h)

-- a test that fails at each delimiter tells a byte from them
pub no_delimiter : (test : ℕ → Bool) → EachOf (λ c. test c ≡ false) (32 ∷ 9 ∷ 10 ∷ 13 ∷ 12 ∷ []) → EachOf (λ c. test c ≡ false) (codes "()\";") →
    (b : ℕ) → test b ≡ true → is_delimiter b ≡ false
no_delimiter test spaces others b h =
    false_from_ne_true (is_delimiter b) (λ d. both_ways (test b) (delimiter_of (λ c. test c ≡ false) spaces others b d) h)

pub subsequent_clear : (b : ℕ) → is_subsequent b ≡ true → is_delimiter b ≡ false
subsequent_clear b h = no_delimiter is_subsequent (refl, (refl, (refl, (refl, (refl, tt))))) (refl, (refl, (refl, (refl, tt)))) b h

pub initial_clear : (b : ℕ) → is_initial b ≡ true → is_delimiter b ≡ false
initial_clear b h = no_delimiter is_initial (refl, (refl, (refl, (refl, (refl, tt))))) (refl, (refl, (refl, (refl, tt)))) b h

pub digit_clear : (base b : ℕ) → base ≤ 16 → nat_lt (digit_of b) base ≡ true → is_delimiter b ≡ false
digit_clear base b le h =
    let no : nat_lt 16 base ≡ false = le-ltb 16 base le in
    no_delimiter (λ d. nat_lt (digit_of d) base) (no, (no, (no, (no, (no, tt))))) (no, (no, (no, (no, tt)))) b h

-- a test that fails at each number of a list tells a number from them
pub apart_by : (test : ℕ → Bool) (xs : List ℕ) → EachOf (λ c. test c ≡ false) xs → (b : ℕ) → test b ≡ true → EachOf (λ c. (b == c) ≡ false) xs
apart_by test [] each b h = tt
apart_by test (x ∷ xs) each b h =
    (ne_eqb b x (λ e. both_ways (test x) each.0 (subst (λ n. test n ≡ true) e h)), apart_by test xs each.1 b h)

-- no byte of a list is a delimiter
abbrev pub Clear : List ℕ → Type 0
Clear [] = Unit {0}
Clear (b ∷ bs) = (is_delimiter b ≡ false) × Clear bs

pub clear_all : (test : ℕ → Bool) → ((b : ℕ) → test b ≡ true → is_delimiter b ≡ false) → (bs : List ℕ) → list_all test bs ≡ true → Clear bs
clear_all test each [] h = tt
clear_all test each (b ∷ bs) h =
    let parts = and_parts (test b) (list_all test bs) h in (each b parts.0, clear_all test each bs parts.1)

-- a run goes up to a delimiter
pub run_passed : (w rest : List ℕ) → Clear w → EndsWord rest → run_length (w ++ rest) ≡ length w
run_passed [] [] clear ends = refl
run_passed [] (b ∷ rest) clear ends = cond-true (is_delimiter b) 0 (suc (run_length rest)) ends
run_passed (b ∷ w) rest clear ends =
    cond-false (is_delimiter b) 0 (suc (run_length (w ++ rest))) clear.0 ∙ ap suc (run_passed w rest clear.1 ends)

pub run_taken : (w rest : List ℕ) → Clear w → EndsWord rest → run (w ++ rest) ≡ w
run_taken w rest clear ends = ap (λ n. take n (w ++ rest)) (run_passed w rest clear ends) ∙ take-append_seam w rest

pub run_ends : (bs : List ℕ) → EndsWord (drop (run_length bs) bs)
run_ends [] = tt
run_ends (b ∷ bs) = cond_both (is_delimiter b) 0 (suc (run_length bs)) (λ n. EndsWord (drop n (b ∷ bs))) (λ e. e) (λ e. run_ends bs)

pub run_size : (bs : List ℕ) → length (run bs) ≡ run_length bs
run_size [] = refl
run_size (b ∷ bs) = cond_both (is_delimiter b) 0 (suc (run_length bs)) (λ n. length (take n (b ∷ bs)) ≡ n) (λ e. refl) (λ e. ap suc (run_size bs))
