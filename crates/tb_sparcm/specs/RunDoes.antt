-- What a call of the interpreter's run does.
use Rattle.std.specs.Prelude.{◌≡◌, ℕ, ◌≤◌, ◌<◌, true, List, [], All, Option, IsSome}
use Rattle.tb_prim.specs.declared.event.Event.{Event}
use Rattle.tb_prim.specs.declared.event.Stop.{Stop}
use Rattle.tb_prim.specs.declared.event.Stop.TheVariants as S
use Rattle.tb_base.specs.Outside.{Rose}
use Rattle.tb_semantics.specs.Runs.{run}
use Rattle.tb_mac.specs.Assembled.{Assembled}
use Rattle.tb_mac.specs.MacEvents.{with_stop}
use Rattle.tb_macm.specs.RunDoes.{Counted, IsPassing, puts}
use Rattle.tb_macm.specs.Steps.{Adds, Faults, Rests}
use Rattle.tb_sparc.specs.Grouped.{Grouped}
use Rattle.tb_sparc.specs.SparcEvents.{SparcState, Going, Halted, next}
use Rattle.tb_sparc.specs.SparcStep.{Sparc, fetched}
use Rattle.tb_sparcm.specs.Steps.{asks, byte_put}

-- where a run has come to: the machine, the rest of the input and the events
pub record Reached : Type 0 where
  pub state : Sparc
  pub rest : List ℕ
  pub events : List Event

abbrev pub going : Reached → SparcState
going r = Going r.state r.rest r.events

-- the definition has stopped; an end and a failure are events
abbrev pub halted : Reached → Stop → SparcState
halted r s = Halted r.state s r.rest (with_stop s r.events)

-- the machine goes on, after all steps
pub record MadeAll (state : SparcState) (r : Reached) (n : Counted) : Type 0 where
  pub goes : state ≡ going r
  pub all : n.taken ≡ n.allowed

-- the machine stands before a step that asks the source, which did not tell more; it counted a fault
pub record LacksSource (c : Assembled) (g : Grouped) (state : SparcState) (r : Reached) (n : Counted) (f f' : Faults) : Type 0 where
  pub goes : state ≡ going r
  pub before : n.taken < n.allowed
  pub asks : asks r.state (fetched c g r.state) ≡ true
  pub rose : Rose f.read f'.read

-- the machine stands before a step that puts a byte, which the sink did not take; it counted a fault
pub record LacksSink (c : Assembled) (g : Grouped) (state : SparcState) (r : Reached) (n : Counted) (f f' : Faults) : Type 0 where
  pub goes : state ≡ going r
  pub before : n.taken < n.allowed
  pub puts : IsSome (byte_put (fetched c g r.state))
  pub rose : Rose f.write f'.write

-- what the state after the steps that were taken is, by the stop: events are those before the stop
abbrev pub StandsAt : Assembled → Grouped → SparcState → Reached → Counted → Faults → Faults → Stop → Type 0
StandsAt c g state r n f f' S.Steps = MadeAll state r n
StandsAt c g state r n f f' S.ReadFault = LacksSource c g state r n f f'
StandsAt c g state r n f f' S.WriteFault = LacksSink c g state r n f f'
StandsAt c g state r n f f' s = state ≡ halted r s

-- a run takes some number of the definition's steps, at most those that were allowed, with the input of the
-- source. It comes to the definition's state, adds the bytes that its events put, and says why it stopped. The
-- events before the stop hold no end and no failure
pub record RunDoes (c : Assembled) (g : Grouped) (old new : Sparc) (left left' held held' : Option (List ℕ)) (f f' : Faults) (steps : ℕ) (stop : Stop) : Type 0 where
  pub taken : ℕ
  pub input : List ℕ
  pub rest : List ℕ
  pub events : List Event
  pub within : taken ≤ steps
  pub told : Rests left left' input rest
  pub passing : All IsPassing events
  pub stands : StandsAt c g (run (next c g) taken (Going old input [])) (record { state = new; rest = rest; events = events }) (record { taken = taken; allowed = steps }) f f' stop
  pub put : Adds held held' (puts events)
