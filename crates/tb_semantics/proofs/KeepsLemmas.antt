-- Keeping composes, and moments of one run with equally many events have the same events.
use Rattle.std.proofs.Common.{◌≡◌, ◌+◌, ◌-◌, ◌≤◌, ℕ, false, List, [], ◌∷◌, ◌++◌, IsTrue, length, inl, inr, ⊎_elim, refl, sym, ap, ◌∙◌, subst, arith, append-nil, length-append}
use Rattle.tb_semantics.specs.Runs.{Machine, EmitsInOrder, IsPrefix, after}
use Rattle.tb_semantics.specs.Keeps.{Shape, Measured, Fits, Keeps, IsInWindow, IsSameWindow, IsNeverFull, IsStillWhenFull, emitted_at}
use Rattle.tb_semantics.proofs.RunLaws.{after-stays, prefix-after, prefix_refl}
use Rattle.tb_semantics.proofs.SameEnd.{either_le}

pub fits_trans : (d e : ℕ) (a b c : Shape) → Fits d a b → Fits e b c → Fits (d + e) a c
fits_trans d e a b c f g =
    record {
      frames = omega (arith, f.frames, g.frames);
      closures = omega (arith, f.closures, g.closures);
      words = omega (arith, f.words, g.words);
    }

-- one pass after another: what the first may hold beyond its source and what the second may add up
pub keeps-trans : {E A B C : Type 0} (a : Measured E A) (b : Measured E B) (c : Measured E C) (d e : ℕ) →
    IsNeverFull b → Keeps a b d → Keeps b c e → Keeps a c (d + e)
keeps-trans a b c d e room h k = record {
  windows = λ n.
      let x = h.windows n in
      let y = k.windows x.0 in
      (y.0, x.1 ∙ y.1, fits_trans d e _ _ _ x.2 y.2);
  made = λ n.
      let x = h.made n in
      let y = k.made x.0 in
      (y.0, x.1 ∙ y.1, omega (arith, x.2, y.2));
  comes = λ m.
      let y = k.comes m in
      let x = h.comes y.0 in (
        x.0,
        ⊎_elim
            (λ full. let never = room y.0 in cc)
            (λ le. ⊎_elim inl (λ here. inr (omega arith)) x.1)
            y.1,
      );
}

-- a front of a list that is as long as the list is the list
prefix_whole : {E : Type 0} (front all : List E) → IsPrefix front all → length front ≡ length all → front ≡ all
prefix_whole front all p e = no_more front p.rest all p.whole e
  where
    no_more : {E : Type 0} (front rest all : List E) → front ++ rest ≡ all → length front ≡ length all → front ≡ all
    no_more front [] all w e = sym (append-nil front) ∙ w
    no_more front (x ∷ rest) all w e =
        let long = length-append front (x ∷ rest) in
        let same = ap length w in
        absurd (omega arith)

later_same : {E S : Type 0} (m : Machine E S) → EmitsInOrder m → (n k : ℕ) → n ≤ k →
    length (m.events (after m n)) ≡ length (m.events (after m k)) → m.events (after m n) ≡ m.events (after m k)
later_same m o n k le e =
    let there : n + (k - n) ≡ k = omega arith in
    prefix_whole (m.events (after m n)) (m.events (after m k))
    (subst (λ j. IsPrefix (m.events (after m n)) (m.events (after m j))) there (prefix-after m o n (k - n))) e

-- the window of a moment is told by the number of its events
pub same_number-same_window : {E S : Type 0} (m : Machine E S) → EmitsInOrder m → (j n k : ℕ) → IsInWindow m j n →
    IsInWindow m j k → IsSameWindow m m n k
same_number-same_window m o j n k a b =
    ⊎_elim
    (λ le. later_same m o n k le (a ∙ sym b))
    (λ le. sym (later_same m o k n le (b ∙ sym a)))
    (either_le n k)

-- a machine that stands still has emitted all that what it keeps ever emits, unless it is full
module _ {E A B : Type 0} (a : Measured E A) (b : Measured E B) (d : ℕ) (order : EmitsInOrder a.machine)
    (source : EmitsInOrder b.machine) (still : IsStillWhenFull a) (keeps : Keeps a b d) (n : ℕ)
    (stands : a.machine.step (after a.machine n) ≡ after a.machine n) (room : a.is_full (after a.machine n) ≡ false) where
  later : (k : ℕ) → n ≤ k → after a.machine k ≡ after a.machine n
  later k le =
      let e : n + (k - n) ≡ k = omega arith in
      sym (ap (after a.machine) e) ∙ after-stays a.machine n (k - n) (after a.machine n) refl stands

  -- a state that is not left stands also at moments after it
  earlier : (k : ℕ) → k ≤ n → IsTrue (a.is_full (after a.machine k)) → ⊥
  earlier k le full =
      let e : k + (n - k) ≡ n = omega arith in
      let same : after a.machine n ≡ after a.machine k =
      sym (ap (after a.machine) e) ∙ after-stays a.machine k (n - k) (after a.machine k) refl (still _ full) in
      let f : IsTrue (a.is_full (after a.machine n)) = subst (λ s. IsTrue (a.is_full s)) (sym same) full in
      cc

  never_full : (k : ℕ) → IsTrue (a.is_full (after a.machine k)) → ⊥
  never_full k full =
      ⊎_elim (λ le. earlier k le full)
      (λ ge. let f : IsTrue (a.is_full (after a.machine n)) = subst (λ s. IsTrue (a.is_full s)) (later k ge) full in cc)
      (either_le k n)

  no_more : (k : ℕ) → length (a.machine.events (after a.machine k)) ≤ length (a.machine.events (after a.machine n))
  no_more k =
      ⊎_elim
      (λ le.
      let e : k + (n - k) ≡ n = omega arith in
      let p = prefix-after a.machine order k (n - k) in
      let l = length-append (a.machine.events (after a.machine k)) p.rest in
      let w : length (a.machine.events (after a.machine k) ++ p.rest) ≡ length (a.machine.events (after a.machine n)) =
      ap length (p.whole ∙ ap (λ j. a.machine.events (after a.machine j)) e) in
      omega arith)
      (λ ge. let e : length (a.machine.events (after a.machine k)) ≡ length (a.machine.events (after a.machine n)) =
      ap (λ s. length (a.machine.events s)) (later k ge) in omega arith)
      (either_le k n)

  reached : (m : ℕ) → emitted_at b m ≤ emitted_at a n
  reached m =
      let c = keeps.comes m in
      ⊎_elim (λ full. absurd (never_full c.0 full)) (λ le. let h = no_more c.0 in omega arith) c.1

  pub still-behind : (m : ℕ) → IsPrefix (b.machine.events (after b.machine m)) (a.machine.events (after a.machine n))
  still-behind m =
      let w = keeps.windows n in
      let r = reached m in
      subst (IsPrefix (b.machine.events (after b.machine m))) (sym w.1)
      (⊎_elim
      (λ le. let e : m + (w.0 - m) ≡ w.0 = omega arith in
      subst (λ j. IsPrefix (b.machine.events (after b.machine m)) (b.machine.events (after b.machine j))) e
      (prefix-after b.machine source m (w.0 - m)))
      (λ ge.
      let e : w.0 + (m - w.0) ≡ m = omega arith in
      let p : IsPrefix (b.machine.events (after b.machine w.0)) (b.machine.events (after b.machine m)) =
      subst (λ j. IsPrefix (b.machine.events (after b.machine w.0)) (b.machine.events (after b.machine j))) e
      (prefix-after b.machine source w.0 (m - w.0)) in
      let q : length (a.machine.events (after a.machine n)) ≡ length (b.machine.events (after b.machine w.0)) = ap length w.1 in
      let l = length-append (b.machine.events (after b.machine w.0)) p.rest in
      let pw : length (b.machine.events (after b.machine w.0) ++ p.rest) ≡ length (b.machine.events (after b.machine m)) = ap length p.whole in
      let s : b.machine.events (after b.machine w.0) ≡ b.machine.events (after b.machine m) =
      prefix_whole (b.machine.events (after b.machine w.0)) (b.machine.events (after b.machine m)) p (omega arith) in
      subst (IsPrefix (b.machine.events (after b.machine m))) (sym s) (prefix_refl (b.machine.events (after b.machine m))))
      (either_le m w.0))
