-- What is promised of space: at every step of a run the words that the MAC machine holds are bounded by the space of
-- the reference machine at a moment with the same events, and memory is full only where it is small beside that.
use Rattle.std.specs.Prelude.{◌≡◌, ℕ, ◌+◌, ◌*◌, ◌≤◌, ◌<◌, List}
use Rattle.tb_prim.specs.declared.event.Event.{Event}
use Rattle.tb_semantics.specs.Runs.{Machine, after}
use Rattle.tb_core.specs.OperandOrder.{order_of}
use Rattle.tb_core.specs.Reference as ref
use Rattle.tb_core.specs.Reference.{reference}
use Rattle.tb_core.specs.Space.{made_of, space_of}
use Rattle.tb_core.specs.Tree.{ProgramTree}
use Rattle.tb_core.specs.Width.{factor_bound}
use Rattle.tb_mac.specs.Bounds.{space_bound}
use Rattle.tb_mac.specs.Frames.{Framed}
use Rattle.tb_mac.specs.FramedRuns.{flat_state, framed_machine, framed_of}
use Rattle.tb_mac.specs.LiveWords.{IsWalkable, machine_words}
use Rattle.tb_mac.specs.MacEvents as mac
use Rattle.tb_mac.specs.MacEvents.{MacState, mac_machine}
use Rattle.tb_passes.specs.Passes.{program_code}

-- the reference machine of a program, in the order of its own lines, with this input
abbrev pub reference_of : ProgramTree → List ℕ → Machine Event ref.State
reference_of p input = reference p (order_of p) input

-- the machine on the code of a program, in a memory of so many words
abbrev pub code_machine : ProgramTree → ℕ → List ℕ → Machine Event MacState
code_machine p heap input = mac_machine (program_code p) heap input

-- its state after n steps, with the stack as a list of frames
abbrev pub frames_after : ProgramTree → ℕ → List ℕ → ℕ → Framed
frames_after p heap input n = framed_of (after (framed_machine (program_code p) heap input) n)

-- K, the factor of the bound on space of a program's code
abbrev pub factor_of : ProgramTree → ℕ
factor_of p = space_bound (program_code p).code

-- words that are at most K for each word of a space, and K more
abbrev pub IsWithinFactor : ℕ → ℕ → ℕ → Type 0
IsWithinFactor k words space = words ≤ k * space + k

-- the state of a run after n steps: its frames are those that the live maps speak of, and the words that it holds, M,
-- are at most K * S + K, with S the space of the reference machine at a moment with the same events
pub record IsSpaceSafe (p : ProgramTree) (heap : ℕ) (input : List ℕ) (n : ℕ) : Type 0 where
  pub own_state : flat_state (after (framed_machine (program_code p) heap input) n) ≡ after (code_machine p heap input) n
  pub walkable : IsWalkable (program_code p) (frames_after p heap input n)
  pub moment : ℕ
  pub same_window : mac.events_of (after (code_machine p heap input) n) ≡ ref.events_of (after (reference_of p input) moment)
  pub within : IsWithinFactor (factor_of p) (machine_words (program_code p) (frames_after p heap input n))
      (space_of p (after (reference_of p input) moment))

-- K goes by the width of the program alone
abbrev pub HasNarrowFactor : ProgramTree → Type 0
HasNarrowFactor p = factor_of p ≤ factor_bound p

-- a memory has fewer than K words for each word that the reference machine holds at some moment with these events and
-- for each that it has made at another, and K more
pub record IsSmallMemory (p : ProgramTree) (heap : ℕ) (input : List ℕ) (es : List Event) : Type 0 where
  pub held : ℕ
  pub made : ℕ
  pub held_window : es ≡ ref.events_of (after (reference_of p input) held)
  pub made_window : es ≡ ref.events_of (after (reference_of p input) made)
  pub small : heap < factor_of p * (space_of p (after (reference_of p input) held) + made_of (after (reference_of p input) made))
      + factor_of p
