-- Each state of a run of code is walkable.
use Rattle.std.proofs.Common.{◌≡◌, refl, sym, ◌∙◌, subst, ap, ℕ, zero, suc, List, [], length, Some}
use Rattle.tb_prim.specs.declared.event.Event.{Event}
use Rattle.tb_semantics.specs.Runs.{after}
use Rattle.tb_semantics.proofs.Simulation.{runs_related}
use Rattle.tb_ir.specs.AnfMachine.{AnfFrames, AnfState}
use Rattle.tb_ir.specs.AnfRules.{KeepsRules, forms_of, lambdas_of}
use Rattle.tb_ir.specs.AnfTree.{AnfTree}
use Rattle.tb_ir.specs.Machine.{Running, start_of}
use Rattle.tb_ir.specs.Measures.{anf_measured}
use Rattle.tb_mac.specs.declared.word.Word.{Word}
use Rattle.tb_mac.specs.declared.word.Word.TheVariants as W
use Rattle.tb_mac.specs.Assemble.{number_of}
use Rattle.tb_mac.specs.Assembled.{Assembled}
use Rattle.tb_mac.specs.Frames.{Frame as MacFrame, Framed}
use Rattle.tb_mac.specs.FramedRuns.{FramedState, Runs, framed_machine, framed_of, framed_start, measured_machine}
use Rattle.tb_mac.specs.LiveWords.{AreWaiting, HasSlots, IsWalkable, IsWalkableBy, map_at, slots_at, slots_of}
use Rattle.tb_codegen.specs.Fits.{Fits}
use Rattle.tb_codegen.specs.Generate.{noted_items}
use Rattle.tb_codegen.specs.Notes.{Entry, Note, Inside, Own, Here, Point, note_map, own_slots, slot_bits}
use Rattle.tb_codegen.specs.PlainCode.{code_of}
use Rattle.tb_codegen.proofs.Assembling.{items_of, notes_of}
use Rattle.tb_codegen.proofs.Begin.{starts_alike}
use Rattle.tb_codegen.proofs.FineNotes.{constants-written}
use Rattle.tb_codegen.proofs.Following.{follows}
use Rattle.tb_codegen.proofs.Follows.{first-there}
use Rattle.tb_codegen.proofs.MarkSteps.{clean}
use Rattle.tb_codegen.proofs.Ok.{Follows, HasNote}
use Rattle.tb_codegen.proofs.Rel.{FsRel, f_none, f_then, f_top, OwnRel, o_away, o_here, o_ready, Rel, r_args, r_calls, r_failed, r_full, r_inside, r_lifted, r_lost, r_stopped, World}
use Rattle.tb_codegen.proofs.Sim.{measure}
use Rattle.tb_codegen.proofs.Whole.{R, moves}

bits_long : (es : List Entry) (x n : ℕ) → length (slot_bits es x n) ≡ n
bits_long es x zero = refl
bits_long es x (suc n) = ap suc (bits_long es (suc x) n)

module _ (p : AnfTree) (notes : List Note) (c : Assembled) (fo : Follows p notes c) where
  -- the map at an instruction with a note
  map_there : (pc : ℕ) (n : Note) → HasNote p notes pc n → map_at c pc ≡ Some (note_map n)
  map_there pc n h = fo.maps pc n h

  has_slots : (e size : ℕ) (pt : Point) (es : List Entry) (slots : List Word) → HasNote p notes e (Inside pt (Here size) es) → length slots ≡ size →
      HasSlots (slots_at c (W.Code e)) (record { back = W.Code e; slots = slots })
  has_slots e size pt es slots note len =
      let m : slots_at c (W.Code e) ≡ Some (slot_bits es 0 size) = ap slots_of (map_there e _ note) in
      subst (λ o. HasSlots o (record { back = W.Code e; slots = slots })) (sym m) (bits_long es 0 size ∙ sym len)

  waiting : (w : World) (fs : AnfFrames) (ms : List MacFrame) → FsRel p notes w fs ms → AreWaiting c ms
  waiting w fs ms f_none = tt
  waiting w fs ms (f_then x k l r {e = e} {size = size} {slots = slots} {map = map} note js len saved f) = (has_slots e size _ map slots note len, waiting w _ _ f)
  waiting w fs ms (f_top k {e = e} {size = size} {slots = slots} {map = map} note len saved) = (has_slots e size _ map slots note len, tt)

  own_walkable : (own : Own) (es : List Entry) (slots : List Word) (top ms : List MacFrame) → OwnRel own slots top ms → AreWaiting c ms → IsWalkableBy c (own_slots own es) top
  own_walkable own es slots top ms o_away h = h
  own_walkable own es slots top ms (o_here {size = size} len) h = (bits_long es 0 size ∙ sym len, h)
  own_walkable own es slots top ms (o_ready {size = size} len) h = (bits_long es 0 size ∙ sym len, h)

  walkable_at : (m : Framed) (n : Note) → HasNote p notes m.pc n → IsWalkableBy c (slots_of (Some (note_map n))) m.frames → IsWalkable c m
  walkable_at m n note h = subst (λ o. IsWalkableBy c (slots_of o) m.frames) (sym (map_there m.pc n note)) h

  walkable : (w : World) (t : FramedState) (s : AnfState) → Rel p notes w t s → IsWalkable c (framed_of t)
  walkable w t s (r_inside {pc = pc} {regs = regs} {heap = hp} {gap = gap} {slots = slots} {top = top} {ms = ms} {ahead = ahead} {gs = gs} {fs = fs} {own = own} {map = map} es note pr h o f mem len) =
      walkable_at (record { pc = pc; registers = regs; heap = hp; gap = gap; frames = top; ahead = ahead }) _ note (own_walkable own map slots top ms o (waiting w fs ms f))
  walkable w t s (r_calls {pc = pc} {regs = regs} {heap = hp} {gap = gap} {ms = ms} {ahead = ahead} es note call about e f mem len) =
      walkable_at (record { pc = pc; registers = regs; heap = hp; gap = gap; frames = ms; ahead = ahead }) _ note (waiting w _ ms f)
  walkable w t s (r_args {pc = pc} {regs = regs} {heap = hp} {gap = gap} {ms = ms} {ahead = ahead} es note call f mem len) =
      walkable_at (record { pc = pc; registers = regs; heap = hp; gap = gap; frames = ms; ahead = ahead }) _ note (waiting w _ ms f)
  walkable w t s (r_lifted {pc = pc} {regs = regs} {heap = hp} {gap = gap} {ms = ms} {ahead = ahead} es q note lf st0 count ins about e f mem len) =
      walkable_at (record { pc = pc; registers = regs; heap = hp; gap = gap; frames = ms; ahead = ahead }) _ note (waiting w _ ms f)
  walkable w t s (r_full {m = m} {input = input} {es = es} e r) = walkable w (Runs m input es) s r
  walkable w t s (r_stopped {m = m} {input = input} {c = k} {es = es} r) = walkable w (Runs m input es) (Running k es) r
  walkable w t s (r_failed {m = m} {input = input} {c = k} {es = es} r h) = walkable w (Runs m input es) (Running k es) r
  walkable w t s (r_lost {m = m} {input = input} {c = k} {es = es} e r h) = walkable w (Runs m input es) (Running k es) r

pub code-walkable : (p : AnfTree) → KeepsRules p → Fits p → (heap : ℕ) (input : List ℕ) (n : ℕ) → IsWalkable (code_of p) (framed_of (after (framed_machine (code_of p) heap input) n))
code-walkable p rules fits heap input n =
    let to = number_of (items_of (noted_items p)) in
    let notes = notes_of to (noted_items p) in
    let fo = follows p rules fits in
    let cs = constants-written p rules fits in
    let code = code_of p in
    let start = starts_alike p notes code heap input fo rules.statics (first-there p to (forms_of p) (length (lambdas_of p)) _ refl) in
    let r = runs_related Event FramedState AnfState (measured_machine code heap input) (anf_measured p input) (R p notes code heap input fo cs) (measure p notes (length code.code)) (λ s. 0)
    (moves p notes code heap input fo cs (clean p rules input)) n (Runs (framed_start code heap) input []) (Running (start_of p.globals p.statics input) []) (start, record { moment = 0; comes = refl }) in
    let g = r.1.0 in
    walkable p notes code fo g.0 (after (framed_machine code heap input) n) _ g.1
