-- What a call of the interpreter's run does.
use Rattle.std.specs.Prelude.{◌≡◌, ℕ, ◌≤◌, ◌<◌, true, List, [], ◌∷◌, All, Option, IsSome}
use Rattle.tb_prim.specs.declared.event.Event.{Event}
use Rattle.tb_prim.specs.declared.event.Event.TheVariants as E
use Rattle.tb_prim.specs.declared.event.Stop.{Stop}
use Rattle.tb_prim.specs.declared.event.Stop.TheVariants as S
use Rattle.tb_base.specs.Outside.{Rose}
use Rattle.tb_semantics.specs.Runs.{run}
use Rattle.tb_mac.specs.Assembled.{Assembled}
use Rattle.tb_mac.specs.MacStep.{Mac, fetched}
use Rattle.tb_mac.specs.MacEvents.{MacState, Going, Halted, with_stop, next}
use Rattle.tb_macm.specs.Steps.{Adds, Faults, Rests, asks, byte_put}

-- the event is neither an end nor a failure
abbrev pub IsPassing : Event → Type 0
IsPassing E.End = ⊥
IsPassing (E.Fail c p) = ⊥
IsPassing _ = Unit {0}

-- the bytes that a list of events puts
abbrev pub puts : List Event → List ℕ
puts [] = []
puts (E.Put b ∷ es) = b ∷ puts es
puts (_ ∷ es) = puts es

-- where a run has come to: the machine, the rest of the input and the events
pub record Reached : Type 0 where
  pub mac : Mac
  pub rest : List ℕ
  pub events : List Event

abbrev pub going : Reached → MacState
going r = Going r.mac r.rest r.events

-- the definition has stopped; an end and a failure are events
abbrev pub halted : Reached → Stop → MacState
halted r s = Halted r.mac s r.rest (with_stop s r.events)

-- how many steps were taken, and how many were allowed
pub record Counted : Type 0 where
  pub taken : ℕ
  pub allowed : ℕ

-- the machine goes on, after all steps
pub record MadeAll (state : MacState) (r : Reached) (n : Counted) : Type 0 where
  pub goes : state ≡ going r
  pub all : n.taken ≡ n.allowed

-- the machine stands before a step that asks the source, which did not tell more; it counted a fault
pub record LacksSource (c : Assembled) (state : MacState) (r : Reached) (n : Counted) (f f' : Faults) : Type 0 where
  pub goes : state ≡ going r
  pub before : n.taken < n.allowed
  pub asks : asks r.mac (fetched c r.mac) ≡ true
  pub rose : Rose f.read f'.read

-- the machine stands before a step that puts a byte, which the sink did not take; it counted a fault
pub record LacksSink (c : Assembled) (state : MacState) (r : Reached) (n : Counted) (f f' : Faults) : Type 0 where
  pub goes : state ≡ going r
  pub before : n.taken < n.allowed
  pub puts : IsSome (byte_put (fetched c r.mac))
  pub rose : Rose f.write f'.write

-- what the state after the steps that were taken is, by the stop: events are those before the stop
abbrev pub StandsAt : Assembled → MacState → Reached → Counted → Faults → Faults → Stop → Type 0
StandsAt c state r n f f' S.Steps = MadeAll state r n
StandsAt c state r n f f' S.ReadFault = LacksSource c state r n f f'
StandsAt c state r n f f' S.WriteFault = LacksSink c state r n f f'
StandsAt c state r n f f' s = state ≡ halted r s

-- a run takes some number of the definition's steps, at most those that were allowed, with the input of the
-- source. It comes to the definition's state, adds the bytes that its events put, and says why it stopped. The
-- events before the stop hold no end and no failure
pub record RunDoes (c : Assembled) (old new : Mac) (left left' held held' : Option (List ℕ)) (f f' : Faults) (steps : ℕ) (stop : Stop) : Type 0 where
  pub taken : ℕ
  pub input : List ℕ
  pub rest : List ℕ
  pub events : List Event
  pub within : taken ≤ steps
  pub told : Rests left left' input rest
  pub passing : All IsPassing events
  pub stands : StandsAt c (run (next c) taken (Going old input [])) (record { mac = new; rest = rest; events = events }) (record { taken = taken; allowed = steps }) f f' stop
  pub put : Adds held held' (puts events)
