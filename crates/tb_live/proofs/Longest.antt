-- The longest of some rows.
use Rattle.std.proofs.Common.{◌≡◌, ap, ℕ, suc, ◌<◌, ◌≤◌, max, min, List, length, drop, get_or, drop_of_length-le, arith}
use Rattle.std.proofs.Math.Seq.{drop-cons}
use Rattle.tb_live.specs.Live.{pressure_of}

-- a step of the loop over the rows
pub longest-step : (rows : List (List ℕ)) (i j : ℕ) (d : List ℕ) (old new most end : ℕ) → i < length rows → j ≡ suc i →
    new ≡ max (min (length (get_or rows i d)) most) old → max old (min (pressure_of (drop i rows)) most) ≡ end →
    max new (min (pressure_of (drop j rows)) most) ≡ end
longest-step rows i j d old new most end lt e n h =
    let f : pressure_of (drop i rows) ≡ max (length (get_or rows i d)) (pressure_of (drop (suc i) rows)) = ap pressure_of (drop-cons rows i d lt) in
    let g : pressure_of (drop j rows) ≡ pressure_of (drop (suc i) rows) = ap (λ k. pressure_of (drop k rows)) e in
    omega (arith, f, g, n, h)

-- and its end
pub longest-done : (rows : List (List ℕ)) (i : ℕ) (old most end : ℕ) → length rows ≤ i → max old (min (pressure_of (drop i rows)) most) ≡ end → old ≡ end
longest-done rows i old most end le h =
    let f : pressure_of (drop i rows) ≡ 0 = ap pressure_of (drop_of_length-le rows le) in
    omega (arith, f, h)
