-- Runs of the reference machine: where one stands still it has stopped, and a moment whose events end with End or Fail has
-- all the events.
use Rattle.std.proofs.Common.{◌≡◌, ℕ, suc, ◌+◌, ◌-◌, ◌++◌, length, length-append, List, [], ◌∷◌, refl, sym, ap, ◌∙◌, subst, true, ⊎_elim, arith}
use Rattle.tb_prim.specs.declared.event.Event.{Event}
use Rattle.tb_semantics.specs.Runs.{EmitsInOrder, Ends, IsPrefix, Machine, after}
use Rattle.tb_semantics.proofs.RunLaws.{after-stays, prefix-after, prefix_refl}
use Rattle.tb_semantics.proofs.SameEnd.{either_le}
use Rattle.tb_core.specs.Events.{EndsLast, HasStopped, NoneLast, is_last}
use Rattle.tb_core.specs.Reference as ref
use Rattle.tb_core.specs.Tree.{ProgramTree}
use Rattle.tb_twobit.specs.SpaceSafe.{reference_of}

-- what is known of the reference machine of a program
pub record ReferenceLaws (p : ProgramTree) (input : List ℕ) : Type 0 where
  pub ends_last : (n : ℕ) → EndsLast (after (reference_of p input) n)
  pub in_order : EmitsInOrder (reference_of p input)
  pub all_end : (es : List Event) → ((n : ℕ) → IsPrefix (ref.events_of (after (reference_of p input) n)) es) →
      (n : ℕ) × HasStopped (after (reference_of p input) n)

none_last_goes_on : (front : List Event) (e : Event) → NoneLast (front ++ e ∷ []) → is_last e ≡ true → ⊥
none_last_goes_on [] e h l = let n = h.0 in cc
none_last_goes_on (x ∷ xs) e h l = none_last_goes_on xs e h.1 l

-- a state whose events end with End or Fail has stopped
last_stops : (s : ref.State) → EndsLast s → (front : List Event) (e : Event) → ref.events_of s ≡ front ++ e ∷ [] →
    is_last e ≡ true → HasStopped s
last_stops (ref.Running c es) h front e w l = none_last_goes_on front e (subst NoneLast w h) l
last_stops (ref.Stopped c es) h front e w l = tt
last_stops (ref.Lost c es) h front e w l = none_last_goes_on front e (subst NoneLast w h) l

-- a state that has stopped has an event
stopped_has_some : (s : ref.State) → HasStopped s → EndsLast s → (j : ℕ) × (length (ref.events_of s) ≡ suc j)
stopped_has_some (ref.Running c es) h l = absurd h
stopped_has_some (ref.Stopped c es) h l =
    let long = length-append l.front (l.last ∷ []) in let whole = ap length l.whole in
    (length l.front, omega (arith, long, whole))
stopped_has_some (ref.Lost c es) h l = absurd h

module _ (p : ProgramTree) (input : List ℕ) (laws : ReferenceLaws p input) where
  abbrev source : Machine Event ref.State
  source = reference_of p input

  -- where the reference has emitted all its events, every moment's are a beginning of them
  pub begins : (n : ℕ) (es : List Event) → Ends source n es → (m : ℕ) → IsPrefix (ref.events_of (after source m)) es
  begins n es e m =
      ⊎_elim
      (λ le. let z : m + (n - m) ≡ n = omega arith in
      subst (IsPrefix (ref.events_of (after source m))) (ap (λ k. ref.events_of (after source k)) z ∙ e.emitted)
      (prefix-after source laws.in_order m (n - m)))
      (λ ge. let z : n + (m - n) ≡ m = omega arith in
      let same : ref.events_of (after source m) ≡ es =
      ap (λ k. ref.events_of (after source k)) (sym z) ∙ ap ref.events_of (after-stays source n (m - n) (after source n) refl e.still) ∙ e.emitted in
      subst (λ fs. IsPrefix fs es) (sym same) (prefix_refl es))
      (either_le m n)

  stays_stopped : (s : ref.State) → HasStopped s → source.step s ≡ s
  stays_stopped (ref.Running c fs) h = absurd h
  stays_stopped (ref.Stopped c fs) h = refl
  stays_stopped (ref.Lost c fs) h = absurd h

  -- a run stands still in one state
  same_end : (n : ℕ) (es : List Event) → Ends source n es → (k : ℕ) → HasStopped (after source k) →
      after source k ≡ after source n
  same_end n es e k h =
      ⊎_elim
      (λ le. let z : k + (n - k) ≡ n = omega arith in
      sym (after-stays source k (n - k) (after source k) refl (stays_stopped (after source k) h)) ∙ ap (after source) z)
      (λ ge. let z : n + (k - n) ≡ k = omega arith in
      ap (after source) (sym z) ∙ after-stays source n (k - n) (after source n) refl e.still)
      (either_le k n)

  -- a run of the reference that stands still has stopped
  pub still_stopped : (n : ℕ) (es : List Event) → Ends source n es → HasStopped (after source n)
  still_stopped n es e =
      let k = laws.all_end es (begins n es e) in
      subst HasStopped (same_end n es e k.0 k.1) k.1

  -- and has emitted an event
  pub end_has_some : (n : ℕ) (es : List Event) → Ends source n es → (j : ℕ) × (length es ≡ suc j)
  end_has_some n es e =
      let some = stopped_has_some (after source n) (still_stopped n es e) (laws.ends_last n) in
      (some.0, sym (ap length e.emitted) ∙ some.1)

  -- a moment whose events end with End or Fail has all the events
  pub last-is-all : (n : ℕ) (es : List Event) → Ends source n es → (m : ℕ) (front : List Event) (e : Event) →
      ref.events_of (after source m) ≡ front ++ e ∷ [] → is_last e ≡ true → ref.events_of (after source m) ≡ es
  last-is-all n es d m front e w l =
      let h = last_stops (after source m) (laws.ends_last m) front e w l in
      ap ref.events_of (same_end n es d m h) ∙ d.emitted
