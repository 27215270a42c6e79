-- A step of the framed machine emits at most one event, and a machine that is full stays as it is.
use Rattle.std.proofs.Common.{refl, sym, append-nil, lit≤, ℕ, List, [], ◌∷◌, ◌++◌, IsTrue, false}
use Rattle.tb_prim.specs.declared.event.Event.{Event}
use Rattle.tb_prim.specs.declared.event.Stop.{Stop}
use Rattle.tb_semantics.specs.Keeps.{IsStillWhenFull}
use Rattle.tb_semantics.specs.Runs.{Appends, EmitsInOrder}
use Rattle.tb_mac.specs.Assembled.{Assembled}
use Rattle.tb_mac.specs.Frames.{AsksAhead, AsksNext, Continues, Ends, Framed, FramedOutcome, Shows, framed_fetched}
use Rattle.tb_mac.specs.FramedRuns.{Runs, Stays, framed_after, framed_events, framed_machine, measured_machine}
use Rattle.tb_mac.specs.MacEvents.{with_stop}

nothing : (es : List Event) → Appends es es
nothing es = record { added = []; appended = sym (append-nil es); few = lit≤ tt }

one : (es : List Event) (e : Event) → Appends es (es ++ e ∷ [])
one es e = record { added = e ∷ []; appended = refl; few = lit≤ tt }

stopping : (s : Stop) (es : List Event) → Appends es (with_stop s es)
stopping Stop.End es = one es Event.End
stopping (Stop.Fail c p) es = one es (Event.Fail c p)
stopping (Stop.Full h s n) es = nothing es
stopping Stop.Steps es = nothing es
stopping (Stop.Stuck pc) es = nothing es
stopping Stop.ReadFault es = nothing es
stopping Stop.WriteFault es = nothing es

stepping : (m : Framed) (input : List ℕ) (es : List Event) (o : FramedOutcome) →
    Appends es (framed_events (framed_after m input es o))
stepping m input es (Continues m') = nothing es
stepping m input es (Shows e m') = one es e
stepping m input es (AsksNext a) = one es _
stepping m input es (AsksAhead a) = nothing es
stepping m input es (Ends s) = stopping s es

pub framed-in-order : (c : Assembled) (heap : ℕ) (input : List ℕ) → EmitsInOrder (framed_machine c heap input)
framed-in-order c heap input (Runs m rest es) = stepping m rest es (framed_fetched c m)
framed-in-order c heap input (Stays m s rest es) = nothing es

pub framed-still : (c : Assembled) (heap : ℕ) (input : List ℕ) → IsStillWhenFull (measured_machine c heap input)
framed-still c heap input (Runs m rest es) full = absurd (no full)
  where
    no : IsTrue false → ⊥
    no e = cc
framed-still c heap input (Stays m s rest es) full = refl
