-- Moments of a run that has stopped.
use Rattle.std.proofs.Common.{◌≡◌, refl, sym, ap, ◌∙◌, subst, ℕ, ◌+◌, ◌-◌, ⊎_elim, arith, List, ◌∷◌, ◌++◌, length, length-append, append-nil, []}
use Rattle.tb_semantics.specs.Runs.{IsPrefix, after}
use Rattle.tb_semantics.proofs.SameEnd.{either_le}
use Rattle.tb_prim.specs.declared.event.Event.{Event}
use Rattle.tb_core.specs.Events.{HasStopped}
use Rattle.tb_core.specs.OperandOrder.{Line}
use Rattle.tb_core.specs.Reference.{Config, Lost, Running, State, Stopped, events_of, reference}
use Rattle.tb_core.specs.Tree.{ProgramTree}

-- two fronts of one another are the same
both_fronts : (xs ys : List Event) → IsPrefix xs ys → IsPrefix ys xs → xs ≡ ys
both_fronts xs ys p q = no_rest p.rest p.whole
  where
    no_rest : (r : List Event) → xs ++ r ≡ ys → xs ≡ ys
    no_rest [] e = sym (append-nil xs) ∙ e
    no_rest (x ∷ r) e =
        let a = length-append xs (x ∷ r) in let b : length (xs ++ x ∷ r) ≡ length ys = ap length e in
        let c = length-append ys q.rest in let d : length (ys ++ q.rest) ≡ length xs = ap length q.whole in absurd (omega arith)

module _ (p : ProgramTree) (order : List Line) (input : List ℕ)
    (stays : (n k : ℕ) (c : Config) (es : List Event) → after (reference p order input) n ≡ Stopped c es →
    after (reference p order input) (n + k) ≡ Stopped c es)
    (grows : (k n : ℕ) → IsPrefix (events_of (after (reference p order input) k)) (events_of (after (reference p order input) (k + n))))
  where
    abbrev at : ℕ → State
    at n = after (reference p order input) n

    stays_at : (n k : ℕ) (s : State) → at n ≡ s → HasStopped s → at (n + k) ≡ s
    stays_at n k (Running c es) e h = absurd h
    stays_at n k (Stopped c es) e h = stays n k c es e
    stays_at n k (Lost c es) e h = absurd h

    -- events of any moment that has all of the run are those where it has stopped
    pub same-at-end : (n m : ℕ) (es : List Event) → HasStopped (at n) → es ≡ events_of (at m) →
        IsPrefix (events_of (at n)) es → es ≡ events_of (at n)
    same-at-end n m es h e pre =
        ⊎_elim
        (λ le.
        let z : n + (m - n) ≡ m = omega arith in
        e ∙ ap (λ k. events_of (at k)) (sym z) ∙ ap events_of (stays_at n (m - n) (at n) refl h))
        (λ ge.
        let z : m + (n - m) ≡ n = omega arith in
        sym (both_fronts (events_of (at n)) es pre
        (subst (λ xs. IsPrefix xs (events_of (at n))) (sym e)
        (subst (λ k. IsPrefix (events_of (at m)) (events_of (at k))) z (grows m (n - m))))))
        (either_le n m)
