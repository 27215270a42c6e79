-- A step emits at most one event, behind those before it.
use Rattle.std.proofs.Common.{◌≡◌, ℕ, List, [], ◌∷◌, ◌++◌, Option, Some, None, refl, sym, append-nil, lit≤}
use Rattle.tb_prim.specs.declared.event.Event.{Event}
use Rattle.tb_prim.specs.declared.event.Event.TheVariants as E
use Rattle.tb_prim.specs.declared.event.Stop.{Stop}
use Rattle.tb_prim.specs.declared.event.Stop.TheVariants as S
use Rattle.tb_semantics.specs.Runs.{Appends, EmitsInOrder}
use Rattle.tb_mac.specs.Assembled.{Assembled}
use Rattle.tb_mac.specs.MacStep.{Mac, Stepped, Went, Stopped, mac_step}
use Rattle.tb_mac.specs.MacEvents.{MacState, Going, Halted, events_of, mac_machine, next_state, with_stop}

nothing : (es : List Event) → Appends es es
nothing es = record { added = []; appended = sym (append-nil es); few = lit≤ tt }

one : (es : List Event) (e : Event) → Appends es (es ++ e ∷ [])
one es e = record { added = e ∷ []; appended = refl; few = lit≤ tt }

stopping : (s : Stop) (es : List Event) → Appends es (with_stop s es)
stopping S.End es = one es E.End
stopping (S.Fail c p) es = one es (E.Fail c p)
stopping (S.Full h s n) es = nothing es
stopping S.Steps es = nothing es
stopping (S.Stuck pc) es = nothing es
stopping S.ReadFault es = nothing es
stopping S.WriteFault es = nothing es

stepping : (m : Mac) (input : List ℕ) (es : List Event) (s : Stepped) → Appends es (events_of (next_state m input es s))
stepping m input es (Went None m' rest) = nothing es
stepping m input es (Went (Some e) m' rest) = one es e
stepping m input es (Stopped s) = stopping s es

pub emits_in_order : (c : Assembled) (heap : ℕ) (input : List ℕ) → EmitsInOrder (mac_machine c heap input)
emits_in_order c heap input (Going m rest es) = stepping m rest es (mac_step c m rest)
emits_in_order c heap input (Halted m s rest es) = nothing es
