-- What a step of the machine comes to, and quiet steps, at which the source stands still.
use Rattle.std.proofs.Common.{◌≡◌, ℕ, ◌-◌, ◌<◌, ◌⊎◌, Bool, inl, inr, arith, List, length, Option, IsTrue}
use Rattle.tb_prim.specs.declared.event.Event.{Event}
use Rattle.tb_prim.specs.declared.event.Taken.{Taken}
use Rattle.tb_semantics.specs.Runs.{run}
use Rattle.tb_core.specs.Store.{Value}
use Rattle.tb_ir.specs.AnfTree.{AnfTree}
use Rattle.tb_ir.specs.AnfMachine.{AnfFrames, AnfState, Code}
use Rattle.tb_ir.specs.Machine.{Control, Env, Item, Running}
use Rattle.tb_mac.specs.declared.word.Word.{Word}
use Rattle.tb_mac.specs.Frames.{Frame as MacFrame, Framed}
use Rattle.tb_mac.specs.FramedRuns.{FramedState, Runs, Stays, framed_full}
use Rattle.tb_codegen.specs.Notes.{Entry, Own, Note, Inside, Point}
use Rattle.tb_codegen.proofs.Ok.{HasNote}
use Rattle.tb_codegen.proofs.Rel.{FsRel, Goes, Holds, Memory, OwnRel, PtRel, World, config, framed, open_of, r_inside, step_of}

-- what a step leaves to its case: the machine without its frames, and the source without its control and frames
pub record Still : Type 0 where
  pub pc : ℕ
  pub regs : List Word
  pub heap : List Word
  pub gap : List Word
  pub ahead : Option Taken
  pub input : List ℕ
  pub globals : List Value
  pub st : List Item
  pub cin : List ℕ
  pub met : Bool
  pub es : List Event

-- the machine with these frames, and the source
abbrev pub machine : Still → List MacFrame → Framed
machine x top = record { pc = x.pc; registers = x.regs; heap = x.heap; gap = x.gap; frames = top; ahead = x.ahead }

module _ (p : AnfTree) (notes : List Note) (limit : ℕ) where
  abbrev pub target : Still → List MacFrame → FramedState
  target x top = Runs (machine x top) x.input x.es

  abbrev pub source : Still → Control Code → AnfFrames → AnfState
  source x control gs = Running (config p notes control gs x.globals x.st x.cin x.met) x.es

  abbrev pub Mem : World → Point → Control Code → Still → Type 0
  Mem w pt control x = Memory p notes w (open_of pt control) x.heap x.st x.globals x.ahead x.input x.cin x.met

  -- how far the code still goes on
  abbrev pub measure : FramedState → ℕ
  measure (Runs m input es) = limit - m.pc
  measure (Stays m s input es) = 0

  -- a state of the machine is that of the source after some steps; there are some, or the measure falls, or it is full
  abbrev pub Sim : FramedState → ℕ → AnfState → Type 0
  Sim t k s = (m : ℕ) × Goes p notes t (run (step_of p notes) m s) × ((0 < m) ⊎ ((measure t < k) ⊎ IsTrue (framed_full t)))

  -- the source stands still
  pub quiet : {w : World} (x y : Still) {pt : Point} {own : Own} {map : List Entry} {rs : List Env} {control : Control Code}
      {gs fs : AnfFrames} {slots : List Word} {top ms : List MacFrame} → HasNote p notes y.pc (Inside pt own map) →
      PtRel p notes x.st pt rs gs fs control → Holds p x.st w rs y.regs slots map → OwnRel own slots top ms → FsRel p notes w fs ms →
      Mem w pt control x → length y.regs ≡ 17 → x.pc < y.pc → x.pc < limit →
      Sim (Runs (framed p notes y.pc y.regs x.heap y.gap top x.ahead) x.input x.es) (limit - x.pc) (source x control gs)
  quiet {w} x y n pr h o f mem len lt within = (0, (w, r_inside x.es n pr h o f mem len), inr (inl (omega arith)))
