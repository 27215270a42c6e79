-- What the interpreter's run says of its stop is how the run ends.
use Rattle.std.proofs.Common.{◌≡◌, refl, sym, ap, ◌∙◌, subst, ℕ, ◌++◌, List, [], ◌∷◌, All, append-nil, Option, None, Some, arith}
use Rattle.tb_prim.specs.declared.event.Event.{Event}
use Rattle.tb_prim.specs.declared.event.Stop.{Stop}
use Rattle.tb_base.specs.Outside.{Rose}
use Rattle.tb_semantics.specs.Runs.{after, run}
use Rattle.tb_mac.specs.Assembled.{Assembled}
use Rattle.tb_mac.specs.MacEvents.{MacState, Going, events_of, mac_start, next}
use Rattle.tb_mac.specs.MacStep.{Mac}
use Rattle.tb_macm.specs.RunDoes.{Counted, IsPassing, Reached, RunDoes, StandsAt, puts}
use Rattle.tb_macm.specs.Steps.{Faults}
use Rattle.tb_running.specs.Runs.{Asked, EndsWith, Gained, Runs, Sunk, ended, failed, full, machine_of, not_put, out_of_steps, stuck}

-- an end and a failure put nothing
put_nothing : (es : List Event) (e : Event) → puts (e ∷ []) ≡ [] → puts (es ++ e ∷ []) ≡ puts es
put_nothing [] e h = h
put_nothing (Event.Enter l ∷ es) e h = put_nothing es e h
put_nothing (Event.Back ∷ es) e h = put_nothing es e h
put_nothing (Event.Put b ∷ es) e h = ap (λ bs. b ∷ bs) (put_nothing es e h)
put_nothing (Event.Took t ∷ es) e h = put_nothing es e h
put_nothing (Event.End ∷ es) e h = put_nothing es e h
put_nothing (Event.Fail c p ∷ es) e h = put_nothing es e h

pub gained-nothing : (held : Option (List ℕ)) (faults now : ℕ) →
    Gained (record { before = held; now = held; faults = faults; faults_now = now }) []
gained-nothing None faults now = tt
gained-nothing (Some held) faults now = ap Some (sym (append-nil held))

module _ (c : Assembled) (state : MacState) (r : Reached) (n : Counted) (f f' : Faults) (out : Sunk)
    (writes : (f.write ≡ out.faults) × (f'.write ≡ out.faults_now)) (never : Rose f.read f'.read → ⊥)
    (passing : All IsPassing r.events) (put : Gained out (puts r.events)) where
  same_puts : {es : List Event} → events_of state ≡ es → puts es ≡ puts r.events → Gained out (puts (events_of state))
  same_puts e p = subst (Gained out) (sym (ap puts e ∙ p)) put

  pub how-it-ends : (s : Stop) → StandsAt c state r n f f' s →
      Gained out (puts (events_of state)) × EndsWith c state n.taken n.allowed out s
  how-it-ends Stop.Steps h = (same_puts (ap events_of h.goes) refl, out_of_steps r.rest r.events h.goes passing h.all)
  how-it-ends Stop.ReadFault h = absurd (never h.rose)
  how-it-ends Stop.WriteFault h = (
    same_puts (ap events_of h.goes) refl,
    not_put r.rest r.events h.goes passing h.before h.puts
        (subst (λ a. Rose a out.faults_now) writes.0 (subst (λ b. Rose f.write b) writes.1 h.rose)),
  )
  how-it-ends Stop.End h =
      (same_puts (ap events_of h) (put_nothing r.events Event.End refl), ended r.rest r.events h passing)
  how-it-ends (Stop.Fail e p) h =
      (same_puts (ap events_of h) (put_nothing r.events (Event.Fail e p) refl), failed r.rest r.events e p h passing)
  how-it-ends (Stop.Full x y z) h = (same_puts (ap events_of h) refl, full r.rest r.events x y z h passing)
  how-it-ends (Stop.Stuck pc) h = (same_puts (ap events_of h) refl, stuck r.rest r.events pc h passing)

-- from the machine's start, with a source that holds all of the input and never fails
pub code-ran : (c : Assembled) (a : Asked) (new : Mac) (left : Option (List ℕ)) (out : Sunk) (stop : Stop) →
    RunDoes c (mac_start c a.heap) new (Some a.input) left out.before out.now (record { read = 0; write = out.faults })
    (record { read = 0; write = out.faults_now }) a.steps stop → Runs c a out stop
code-ran c a new left out stop d =
    let same : run (next c) d.taken (Going (mac_start c a.heap) d.input []) ≡ after (machine_of c a) d.taken =
    ap (λ bs. run (next c) d.taken (Going (mac_start c a.heap) bs [])) (sym (d.told).0) in
    let r : Reached = record { mac = new; rest = d.rest; events = d.events } in
    let n : Counted = record { taken = d.taken; allowed = a.steps } in
    let e = how-it-ends c (after (machine_of c a) d.taken) r n (record { read = 0; write = out.faults })
    (record { read = 0; write = out.faults_now }) out (refl, refl) (λ h. omega arith) d.passing d.put stop
    (subst (λ s. StandsAt c s r n (record { read = 0; write = out.faults }) (record { read = 0; write = out.faults_now }) stop) same d.stands) in
    record { taken = d.taken; within = d.within; put = e.0; ends = e.1 }
