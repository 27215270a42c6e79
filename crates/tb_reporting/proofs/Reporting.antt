-- A report, one step after the other: where the run has come to, and what was measured.
use Rattle.std.proofs.Common.{◌≡◌, ℕ, suc, ◌+◌, ◌%◌, ◌==◌, Bool, true, false, cond, nat_lt, ◌&&◌, max, List, [], ◌∷◌, ◌++◌, map, Option, Some, None, refl, sym, ap, ◌∙◌, arith, append_assoc, append-nil}
use Rattle.std.proofs.lemmas.Bool.Decides.{nat_tests}
use Rattle.tb_prim.specs.declared.event.Event.{Event}
use Rattle.tb_prim.specs.declared.event.Stop.{Stop}
use Rattle.tb_lines.specs.Lines.{joined}
use Rattle.tb_semantics.proofs.RunLaws.{run-add}
use Rattle.tb_mac.specs.Assembled.{Assembled}
use Rattle.tb_mac.specs.MacEvents.{Going, Halted, next, next_state, mac_start, with_event, with_stop}
use Rattle.tb_mac.specs.MacStep.{Mac, Outcome, Stops, fetched, with_input}
use Rattle.tb_macm.specs.Steps.{Made}
use Rattle.tb_reporting.specs.Reports.{Asked, Measure, emitted, goes_on, is_measured, lines, measure_line, measures, peak, state_after, words_after}
use Rattle.tb_reporting.specs.calls.Meters.{counted, measured}

-- one more step of the machine
pub stepped : (c : Assembled) (a : Asked) (n : ℕ) (mac new : Mac) (left left' : List ℕ) (es : List Event) (e : Option Event) →
    state_after c a n ≡ Going mac left es → Made (fetched c mac) mac new (Some left) (Some left') e →
    state_after c a (n + 1) ≡ Going new left' (with_event e es)
stepped c a n mac new left left' es e h m =
    let rest : left' ≡ m.rest = let q = (m.told).1 in cc in
    run-add (next c) n 1 (Going (mac_start c a.heap) a.input [])
    ∙ ap (next c) h
    ∙ ap (λ (i : List ℕ). next_state mac left es (with_input mac i (fetched c mac))) (m.told).0
    ∙ ap (next_state mac left es) m.step
    ∙ ap (λ (i : List ℕ). Going new i (with_event e es)) (sym rest)

-- one more step, at which it stops
pub stopped : (c : Assembled) (a : Asked) (n : ℕ) (mac : Mac) (left : List ℕ) (es : List Event) (s : Stop) →
    state_after c a n ≡ Going mac left es → fetched c mac ≡ Stops s → state_after c a (n + 1) ≡ Halted mac s left (with_stop s es)
stopped c a n mac left es s h e =
    run-add (next c) n 1 (Going (mac_start c a.heap) a.input [])
    ∙ ap (next c) h
    ∙ ap (λ (o : Outcome). next_state mac left es (with_input mac left o)) e

measures-next : (c : Assembled) (a : Asked) (n : ℕ) (b : Bool) → is_measured c a n ≡ b → measures c a (n + 1) ≡ measures c a n
    ++ cond b (record { event = emitted c a (n + 1); words = words_after c a (n + 1) } ∷ []) []
measures-next c a n b e =
    let q : n + 1 ≡ suc n = omega arith in
    ap (measures c a) q
    ∙ ap (λ b. measures c a n ++ cond b (record { event = emitted c a (n + 1); words = words_after c a (n + 1) } ∷ []) []) e

-- a step without an event is not measured
measures-none : (c : Assembled) (a : Asked) (n : ℕ) → emitted c a (n + 1) ≡ emitted c a n → measures c a (n + 1) ≡ measures c a n
measures-none c a n e =
    let f : nat_lt (emitted c a n) (emitted c a (n + 1)) ≡ false = grind (arith, nat_tests, e) in
    let g : is_measured c a n ≡ false =
    ap (λ b. goes_on (state_after c a (n + 1)) && (b && (emitted c a (n + 1) % a.every == 0))) f ∙ both (goes_on (state_after c a (n + 1))) in
    measures-next c a n false g ∙ append-nil (measures c a n)
  where
    both : (x : Bool) → (x && false) ≡ false
    both true = refl
    both false = refl

-- nor is the step at which the machine stops
pub measures-stopped : (c : Assembled) (a : Asked) (n : ℕ) → goes_on (state_after c a (n + 1)) ≡ false → measures c a (n + 1) ≡ measures c a n
measures-stopped c a n e =
    measures-next c a n false (ap (λ b. b && (nat_lt (emitted c a n) (emitted c a (n + 1)) && (emitted c a (n + 1) % a.every == 0))) e)
    ∙ append-nil (measures c a n)

-- what a step with an event or none adds to the measures
pub measures-step : (c : Assembled) (a : Asked) (n events : ℕ) (e : Option Event) → goes_on (state_after c a (n + 1)) ≡ true →
    emitted c a n ≡ events → emitted c a (n + 1) ≡ counted e events →
    measures c a (n + 1) ≡ measures c a n ++ measured e a.every events (words_after c a (n + 1))
measures-step c a n events None goes e now = measures-none c a n (now ∙ sym e) ∙ sym (append-nil (measures c a n))
measures-step c a n events (Some v) goes e now =
    let f : nat_lt (emitted c a n) (emitted c a (n + 1)) ≡ true = grind (arith, nat_tests, e, now) in
    let g : is_measured c a n ≡ (emitted c a (n + 1) % a.every == 0) =
    ap (λ b. b && (nat_lt (emitted c a n) (emitted c a (n + 1)) && (emitted c a (n + 1) % a.every == 0))) goes
    ∙ ap (λ b. b && (emitted c a (n + 1) % a.every == 0)) f in
    measures-next c a n (emitted c a (n + 1) % a.every == 0) g
    ∙ ap (λ k. measures c a n ++ cond (k % a.every == 0) (record { event = k; words = words_after c a (n + 1) } ∷ []) []) now

-- the most words, with more measures
pub peak-append : (ms ks : List Measure) → peak (ms ++ ks) ≡ max (peak ks) (peak ms)
peak-append [] ks = omega arith
peak-append (m ∷ ms) ks = let h = peak-append ms ks in omega arith

joined-append : (ms ks : List Measure) →
    joined (map measure_line (ms ++ ks)) ≡ joined (map measure_line ms) ++ joined (map measure_line ks)
joined-append [] ks = refl
joined-append (m ∷ ms) ks =
    ap (λ xs. measure_line m ++ xs) (joined-append ms ks)
    ∙ sym (append_assoc (measure_line m) (joined (map measure_line ms)) (joined (map measure_line ks)))

-- the lines of one more step
pub lines-more : (c : Assembled) (a : Asked) (n : ℕ) (ms : List Measure) → measures c a (n + 1) ≡ measures c a n ++ ms →
    lines c a (n + 1) ≡ lines c a n ++ joined (map measure_line ms)
lines-more c a n ms e = ap (λ (ks : List Measure). joined (map measure_line ks)) e ∙ joined-append (measures c a n) ms
