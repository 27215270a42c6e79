-- Steps at group starts.
use Rattle.std.proofs.Common.{◌≡◌, ℕ, List, [], Option, Some, None, slice_get, refl, sym, ap, subst, inl, inr, ◌∙◌}
use Rattle.tb_prim.specs.declared.event.Event.{Event}
use Rattle.tb_prim.specs.declared.event.Stop.{Stop}
use Rattle.tb_mac.specs.declared.code.Instr.{Instr}
use Rattle.tb_mac.specs.declared.code.Instr.TheVariants.{Proc, Args, ArgsGe, Save, SetRtn, Load, Store, Pop, Return, Invoke, Jump, Brf, Imm, Stat, Move, GlobalGet, GlobalSet, GlobalDef, Cell, CellGet, CellSet, Clo, Capt, CaptSet, Apply, End, Op0, Op1, Op2, Op3}
use Rattle.tb_mac.specs.Assembled.{Assembled}
use Rattle.tb_mac.specs.Words.{on_some}
use Rattle.tb_macm.specs.declared.step.Step.{Step}
use Rattle.tb_macm.specs.Steps.{Adds, Faults, bytes_of}
use Rattle.tb_macm.specs.RunDoes.{IsPassing}
use Rattle.tb_sparc.specs.SparcStep.{Sparc, Outcome, Goes, Emits, Takes, Peeks, Stops, Stepped, Went, Stopped, event_of, with_input, with_mark}
use Rattle.tb_sparcm.specs.Steps.{NotMade, asks}
use Rattle.tb_sparcm.specs.calls.Quiet.{DoesAt, grouped, mark_of}

-- the event of a group puts no byte, and is neither an end nor a failure
pub record IsMark (mark : Option Event) : Type 0 where
  pub quiet : bytes_of mark ≡ []
  pub passing : (e : Event) → mark ≡ Some e → IsPassing e

no_mark : IsMark None
no_mark = record { quiet = refl; passing = λ e q. absurd (cc q) }

enters : (n : ℕ) → IsMark (Some (Event.Enter n))
enters n = record { quiet = refl; passing = λ e q. let p : Event.Enter n ≡ e = cc q in subst IsPassing p tt }

goes_back : IsMark (Some Event.Back)
goes_back = record { quiet = refl; passing = λ e q. let p : Event.Back ≡ e = cc q in subst IsPassing p tt }

event_is_mark : (i : Instr) → IsMark (event_of i)
event_is_mark (Proc x) = enters x
event_is_mark (Args a) = no_mark
event_is_mark (ArgsGe a) = no_mark
event_is_mark (Save x) = no_mark
event_is_mark (SetRtn x) = no_mark
event_is_mark (Load a x) = no_mark
event_is_mark (Store a x) = no_mark
event_is_mark (Pop x) = no_mark
event_is_mark Return = goes_back
event_is_mark (Invoke a) = no_mark
event_is_mark (Jump x) = no_mark
event_is_mark (Brf a x) = no_mark
event_is_mark (Imm a x) = no_mark
event_is_mark (Stat a tag x) = no_mark
event_is_mark (Move a b) = no_mark
event_is_mark (GlobalGet a x) = no_mark
event_is_mark (GlobalSet a x) = no_mark
event_is_mark (GlobalDef a x) = no_mark
event_is_mark (Cell a b) = no_mark
event_is_mark (CellGet a b) = no_mark
event_is_mark (CellSet a b) = no_mark
event_is_mark (Clo a n x) = no_mark
event_is_mark (Capt a b x) = no_mark
event_is_mark (CaptSet a b x) = no_mark
event_is_mark Apply = no_mark
event_is_mark End = no_mark
event_is_mark (Op0 a x) = no_mark
event_is_mark (Op1 a b x) = no_mark
event_is_mark (Op2 a b d x) = no_mark
event_is_mark (Op3 a b d x) = no_mark

found : (o : Option Instr) → IsMark (on_some o None event_of)
found None = no_mark
found (Some i) = event_is_mark i

pub mark_is_mark : (c : Assembled) (group : Option ℕ) → IsMark (mark_of c group)
mark_is_mark c None = no_mark
mark_is_mark c (Some n) = found (slice_get c.code n)

-- a step without an event has that of the group
unmarked : (mark : Option Event) (s : Stepped) (new : Sparc) (rest : List ℕ) → with_mark None s ≡ Went None new rest → with_mark mark s ≡ Went mark new rest
unmarked mark (Went None n i) new rest h = cc h
unmarked mark (Went (Some e) n i) new rest h = absurd (cc h)
unmarked mark (Stopped s) new rest h = absurd (cc h)

-- a step with an event keeps it
kept_event : (mark : Option Event) (s : Stepped) (e : Event) (new : Sparc) (rest : List ℕ) → with_mark None s ≡ Went (Some e) new rest → with_mark mark s ≡ Went (Some e) new rest
kept_event mark (Went None n i) e new rest h = absurd (cc h)
kept_event mark (Went (Some e') n i) e new rest h = h
kept_event mark (Stopped s) e new rest h = absurd (cc h)

pub started : (c : Assembled) (group : Option ℕ) (outcome : Outcome) (at old new : Sparc) (l l' h h' : Option (List ℕ)) (f f' : Faults) → DoesAt None outcome at at new l l' h h' f f' (Step.Went None) → DoesAt (mark_of c group) outcome at old new l l' h h' f f' (Step.Went (mark_of c group))
started c group outcome at old new l l' h h' f f' d =
    let m = d.0 in (
      record { input = m.input; rest = m.rest; told = m.told; step = unmarked (mark_of c group) (with_input at m.input outcome) new m.rest m.step },
      subst (λ bs. Adds h h' bs) (sym (mark_is_mark c group).quiet) d.1,
    )

pub kept_own : (mark : Option Event) (outcome : Outcome) (at old new : Sparc) (l l' h h' : Option (List ℕ)) (f f' : Faults) (e : Event) → DoesAt None outcome at at new l l' h h' f f' (Step.Went (Some e)) → DoesAt mark outcome at old new l l' h h' f f' (Step.Went (Some e))
kept_own mark outcome at old new l l' h h' f f' e d =
    let m = d.0 in
    (record { input = m.input; rest = m.rest; told = m.told; step = kept_event mark (with_input at m.input outcome) e new m.rest m.step }, d.1)

-- whether a step asks does not depend on the group
pub asks_grouped : (group : Option ℕ) (s : Sparc) (o : Outcome) → asks (grouped group s) o ≡ asks s o
asks_grouped group s (Goes n) = refl
asks_grouped group s (Emits e n) = refl
asks_grouped group s Takes = refl
asks_grouped group s Peeks = refl
asks_grouped group s (Stops stop) = refl

not_made : (group : Option ℕ) (old : Sparc) (outcome : Outcome) (f f' : Faults) (s : Stop) → NotMade outcome (grouped group old) f f' s → NotMade outcome old f f' s
not_made group old outcome f f' s n = elim n [
  | inl e ↦ inl e
  | inr (inl r) ↦ inr (inl (record { stop = r.stop; asks = sym (asks_grouped group old outcome) ∙ r.asks; rose = r.rose }))
  | inr (inr w) ↦ inr (inr w)
]

-- a step that was not made leaves the group of before
pub not_started : (mark : Option Event) (group : Option ℕ) (outcome : Outcome) (old new new' : Sparc) (l l' h h' : Option (List ℕ)) (f f' : Faults) (s : Stop) → new' ≡ record new { group = old.group } → DoesAt None outcome (grouped group old) (grouped group old) new l l' h h' f f' (Step.Stopped s) → DoesAt mark outcome (grouped group old) old new' l l' h h' f f' (Step.Stopped s)
not_started mark group outcome old new new' l l' h h' f f' s e d =
    (not_made group old outcome f f' s d.0, e ∙ ap (λ (x : Sparc). record x { group = old.group }) d.1, d.2, d.3)
