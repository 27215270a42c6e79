-- Runs compose, and events only grow along them.
use Rattle.std.proofs.Common.{◌≡◌, refl, ℕ, zero, suc, ◌+◌, List, [], ◌++◌, sym, ap, ◌∙◌, subst, arith, append-nil, append_assoc}
use Rattle.tb_semantics.specs.Runs.{Machine, run, after, IsPrefix, Appends, EmitsInOrder, KeepsEvents}

-- a steps and then b steps
pub run-add : {S : Type 0} (step : S → S) (a b : ℕ) (s : S) → run step (a + b) s ≡ run step b (run step a s)
run-add step zero b s = let e : zero + b ≡ b = omega arith in ap (λ n. run step n s) e
run-add step (suc a) b s =
    let e : suc a + b ≡ suc (a + b) = omega arith in
    ap (λ n. run step n s) e ∙ run-add step a b (step s)

pub prefix_refl : {E : Type 0} (xs : List E) → IsPrefix xs xs
prefix_refl xs = record { rest = []; whole = append-nil xs }

pub prefix_trans : {E : Type 0} (xs ys zs : List E) → IsPrefix xs ys → IsPrefix ys zs → IsPrefix xs zs
prefix_trans xs ys zs p q = record { rest = p.rest ++ q.rest; whole = sym (append_assoc xs p.rest q.rest) ∙ ap (λ v. v ++ q.rest) p.whole ∙ q.whole }

pub prefix_appends : {E : Type 0} (xs ys : List E) → Appends xs ys → IsPrefix xs ys
prefix_appends xs ys a = record { rest = a.added; whole = sym a.appended }

-- the events of a run go on from those of where it starts
pub prefix-run : {E S : Type 0} (m : Machine E S) → EmitsInOrder m → (n : ℕ) (s : S) →
    IsPrefix (m.events s) (m.events (run m.step n s))
prefix-run m e zero s = prefix_refl (m.events s)
prefix-run m e (suc n) s =
    prefix_trans (m.events s) (m.events (m.step s)) (m.events (run m.step n (m.step s)))
    (prefix_appends (m.events s) (m.events (m.step s)) (e s))
    (prefix-run m e n (m.step s))

pub prefix-after : {E S : Type 0} (m : Machine E S) → EmitsInOrder m → (k n : ℕ) →
    IsPrefix (m.events (after m k)) (m.events (after m (k + n)))
prefix-after m e k n =
    subst (λ s. IsPrefix (m.events (after m k)) (m.events s)) (sym (run-add m.step k n m.start)) (prefix-run m e n (after m k))

pub keeps_events-trans : {E A B C : Type 0} (a : Machine E A) (b : Machine E B) (c : Machine E C) → KeepsEvents a b →
    KeepsEvents b c → KeepsEvents a c
keeps_events-trans a b c h k = record {
  events = λ n. let x = h.events n in let y = k.events x.0 in (y.0, x.1 ∙ y.1);
  comes = λ m. let y = k.comes m in let x = h.comes y.0 in (x.0, omega (arith, x.1, y.1));
}

-- a state that steps to itself is never left
pub run-stays : {S : Type 0} (step : S → S) (n : ℕ) (s : S) → step s ≡ s → run step n s ≡ s
run-stays step zero s e = refl
run-stays step (suc n) s e = ap (run step n) e ∙ run-stays step n s e

pub after-stays : {E S : Type 0} (m : Machine E S) (n k : ℕ) (s : S) → after m n ≡ s → m.step s ≡ s →
    after m (n + k) ≡ s
after-stays m n k s h e = run-add m.step n k m.start ∙ ap (run m.step k) h ∙ run-stays m.step k s e
