-- Moves to locations with numbers of their own, for the tests.
use Rattle.std.proofs.Common.{◌≡◌, ◌≢◌, ℕ, ◌+◌, ◌<◌, ◌≤◌, List, [], ◌∷◌, ◌++◌, length, get_or, ◌⊎◌, inl, inr, ap, arith, length-append}
use Rattle.std.specs.Prelude.{All, AllPairs}
use Rattle.std.proofs.Math.ListN.{get_or-append}
use Rattle.std.proofs.Math.Seq.{get_or-append_seam}
use Rattle.std.proofs.lemmas.Bool.{cases_lt}
use Rattle.tb_moves.specs.declared.loc.Loc.{Loc}
use Rattle.tb_moves.specs.declared.loc.Loc.TheVariants.{Reg, Slot}

abbrev pub number_of : Loc → ℕ
number_of (Reg a) = a
number_of (Slot a) = a

pub number_of-either : (l : Loc) (n : ℕ) → (l ≡ Reg n) ⊎ (l ≡ Slot n) → number_of l ≡ n
number_of-either l n (inl e) = ap number_of e
number_of-either l n (inr e) = ap number_of e

-- the targets are numbered by their places, and the sources are below 15
abbrev pub IsNumbered : List (Loc × Loc) → Type 0
IsNumbered ms = (k : ℕ) (d : Loc × Loc) → k < length ms → (number_of (get_or ms k d).0 ≡ k) × (number_of (get_or ms k d).1 < 15)

pub IsNumbered-push : (ms : List (Loc × Loc)) (t s : Loc) → number_of t ≡ length ms → number_of s < 15 → IsNumbered ms → IsNumbered (ms ++ (t, s) ∷ [])
IsNumbered-push ms t s e p h k d q =
    let n : length (ms ++ (t, s) ∷ []) ≡ length ms + 1 = length-append ms ((t, s) ∷ []) in
    elim (cases_lt k (length ms)) [
      | inl lt ↦ rw (get_or-append ms ((t, s) ∷ []) d k lt) (h k d lt)
      | inr le ↦
          let at : k ≡ length ms = omega arith in
          rw (at, get_or-append_seam ms (t, s) [] d) (e, p)
    ]

pub AllPairs-numbered : (ms : List (Loc × Loc)) → IsNumbered ms → AllPairs (λ m n. m.0 ≢ n.0) ms
AllPairs-numbered ms h i j d p q = λ e. omega (arith, (h i d (omega arith)).0, (h j d q).0, ap number_of e)

pub All-numbered : (ms : List (Loc × Loc)) → length ms ≤ 15 → IsNumbered ms → All (λ m. (m.0 ≢ Reg 15) × (m.1 ≢ Reg 15)) ms
All-numbered ms few h k d p = ((λ e. omega (arith, (h k d p).0, ap number_of e)), (λ e. omega (arith, (h k d p).1, ap number_of e)))
