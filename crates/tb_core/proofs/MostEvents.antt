-- A run that has no event beyond a list stops.
use Rattle.std.proofs.Common.{sym, subst, ℕ, zero, suc, ◌+◌, ◌<◌, ◌≤◌, ⊎_elim, arith, List, [], ◌∷◌, ◌++◌}
use Rattle.tb_prim.specs.declared.event.Event.{Event}
use Rattle.tb_semantics.specs.Runs.{IsPrefix, after}
use Rattle.tb_semantics.proofs.RunLaws.{run-add}
use Rattle.tb_core.specs.Events.{IsFinal, IsNotLost, HasStopped, calls}
use Rattle.tb_core.specs.OperandOrder.{order_of}
use Rattle.tb_core.specs.Reference.{State, Running, Stopped, Lost, events_of, reference}
use Rattle.tb_core.specs.Rules.{KeepsRules}
use Rattle.tb_core.specs.Tree.{ProgramTree}
use Rattle.tb_core.proofs.NeverLost.{never-lost}
use Rattle.tb_core.proofs.Windows.{windows-end}

calls_append : (es fs : List Event) → calls es ≤ calls (es ++ fs)
calls_append [] fs = omega arith
calls_append (Event.Enter l ∷ es) fs = let h = calls_append es fs in omega arith
calls_append (Event.Back ∷ es) fs = calls_append es fs
calls_append (Event.Put c ∷ es) fs = calls_append es fs
calls_append (Event.Took t ∷ es) fs = calls_append es fs
calls_append (Event.End ∷ es) fs = calls_append es fs
calls_append (Event.Fail c q ∷ es) fs = calls_append es fs

stopped : (s : State) → IsFinal s → IsNotLost s → HasStopped s
stopped (Running c es) f h = absurd f
stopped (Stopped c es) f h = tt
stopped (Lost c es) f h = absurd h

module _ (p : ProgramTree) (input : List ℕ) (es : List Event) (r : KeepsRules p)
    (most : (n : ℕ) → IsPrefix (events_of (after (reference p (order_of p) input) n)) es) where
  abbrev at : ℕ → State
  at n = after (reference p (order_of p) input) n

  fewer : (n : ℕ) → calls (events_of (at n)) ≤ calls es
  fewer n = let h = most n in subst (λ fs. calls (events_of (at n)) ≤ calls fs) h.whole (calls_append (events_of (at n)) h.rest)

  stops : (fuel n : ℕ) → calls es < calls (events_of (at n)) + fuel → (k : ℕ) × HasStopped (at k)
  stops zero n lt = let f = fewer n in absurd (omega arith)
  stops (suc fuel) n lt =
      let m = reference p (order_of p) input in
      let c = windows-end p (order_of p) input (at n) in
      let same = sym (run-add m.step n c.steps m.start) in
      ⊎_elim
      (λ f. (n + c.steps, stopped (at (n + c.steps)) (subst IsFinal same f) (never-lost p input (n + c.steps) r)))
      (λ g. stops fuel (n + c.steps) (let h = subst (λ s. calls (events_of (at n)) < calls (events_of s)) same g in omega arith))
      c.reached

  pub events-end : (n : ℕ) × HasStopped (at n)
  events-end = stops (suc (calls es)) 0 (omega arith)
