-- Steps without input or output, and those that read or write, as steps that may do both.
use Rattle.std.proofs.Common.{◌≡◌, ℕ, List, [], Option, Some, None, refl, sym, ap, subst, inl, inr}
use Rattle.tb_prim.specs.declared.event.Event.{Event}
use Rattle.tb_prim.specs.declared.event.Event.TheVariants as E
use Rattle.tb_macm.specs.declared.step.Step.{Step}
use Rattle.tb_macm.specs.Steps.{Adds, Faults, byte_of, bytes_of, told}
use Rattle.tb_macm.specs.calls.Quiet.{byte_of_some}
use Rattle.tb_macm.proofs.Inputs.{rests_self}
use Rattle.tb_macm.proofs.StepLaws.{adds_nothing}
use Rattle.tb_sparc.specs.SparcStep.{Sparc, Outcome, with_input, with_mark}
use Rattle.tb_sparcm.specs.calls.Quiet.{Does, DoesAt, OutputDoes, ReadDoes, WriteDoes}

no_bytes : (e : Event) → byte_of e ≡ None → bytes_of (Some e) ≡ []
no_bytes (E.Enter l) h = refl
no_bytes E.Back h = refl
no_bytes (E.Put b) h = absurd (cc h)
no_bytes (E.Took t) h = refl
no_bytes E.End h = refl
no_bytes (E.Fail c p) h = refl

no_bytes_some : (e : Option Event) → byte_of_some e ≡ None → bytes_of e ≡ []
no_bytes_some None h = refl
no_bytes_some (Some e) h = no_bytes e h

silent : (e : Option Event) (held : Option (List ℕ)) → byte_of_some e ≡ None → Adds held held (bytes_of e)
silent e held h = subst (λ (bs : List ℕ). Adds held held bs) (sym (no_bytes_some e h)) (adds_nothing held)

-- a step without input and output leaves what the source and the sink have
pub quiet_step : (outcome : Outcome) (old new : Sparc) (left held : Option (List ℕ)) (f f' : Faults) (r : Step) → Does outcome old new r → DoesAt None outcome old old new left left held held f f' r
quiet_step outcome old new left held f f' (Step.Went None) d =
    (record { input = told left; rest = told left; told = rests_self left; step = ap (λ o. with_mark None (with_input old (told left) o)) d }, adds_nothing held)
quiet_step outcome old new left held f f' (Step.Went (Some e)) d =
    (record { input = told left; rest = told left; told = rests_self left; step = ap (λ o. with_mark None (with_input old (told left) o)) d.0 }, silent (Some e) held d.1)
quiet_step outcome old new left held f f' (Step.Stopped s) d = (inl d.0, d.1, rests_self left, adds_nothing held)

pub read_step : (outcome : Outcome) (old new : Sparc) (left left' held : Option (List ℕ)) (f f' : Faults) (r : Step) → ReadDoes outcome old new left left' f.read f'.read r → DoesAt None outcome old old new left left' held held f f' r
read_step outcome old new left left' held f f' (Step.Went e) d = (d.0, silent e held d.1)
read_step outcome old new left left' held f f' (Step.Stopped s) d = (inr (inl d.0), d.1, d.2, adds_nothing held)

write_step : (outcome : Outcome) (old new : Sparc) (left held held' : Option (List ℕ)) (f f' : Faults) (r : Step) → WriteDoes outcome old new held held' f.write f'.write r → DoesAt None outcome old old new left left held held' f f' r
write_step outcome old new left held held' f f' (Step.Went None) d = absurd d
write_step outcome old new left held held' f f' (Step.Went (Some e)) d =
    (record { input = told left; rest = told left; told = rests_self left; step = ap (λ o. with_mark None (with_input old (told left) o)) d.0 }, d.1)
write_step outcome old new left held held' f f' (Step.Stopped s) d = (inr (inr d.0), d.1, rests_self left, d.2)

-- a step that may write
pub output_step : (outcome : Outcome) (old new : Sparc) (left held held' : Option (List ℕ)) (f f' : Faults) (r : Step) → OutputDoes outcome old new held held' f.write f'.write r → DoesAt None outcome old old new left left held held' f f' r
output_step outcome old new left held held' f f' r d = elim d [
  | inl e ↦ write_step outcome old new left held held' f f' r e
  | inr e ↦ subst (λ (h : Option (List ℕ)). DoesAt None outcome old old new left left held h f f' r) (sym e.1) (quiet_step outcome old new left held f f' r e.0)
]
