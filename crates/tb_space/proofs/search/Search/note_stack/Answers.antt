use Rattle.std.proofs.Common.{◌≡◌, ℕ, ◌∷◌, Some, drop, ap, sym, ◌∙◌}
use Rattle.std.specs.Option.{option_copied}
use Rattle.tb_mac.specs.CodeOf.{code_of}
use Rattle.tb_mac.specs.Assembled.{Assembled}
use Rattle.tb_mac.specs.Frames.{flat_frames}
use Rattle.tb_mac.specs.LiveWords.{map_at, slots_of}
use Rattle.tb_space.proofs.Stacks.{stack-noted, top-frame}
use Rattle.tb_space.proofs.search.Search.note_stack.Goals as goal

pub returns-then-top-heap_words-clause-found : goal.returns-then-top-heap_words-clause-found
returns-then-top-heap_words-clause-found c = λ fs e h.
    let m = c.args.machine.now in
    let o = slots_of (map_at m.code m.mac.pc) in
    let bits = c.in-Some.slots.now in
    let some : o ≡ Some bits = ap (λ (k : Assembled). slots_of (map_at k m.mac.pc)) (sym c.code.ensures) ∙ ap (λ (n : ℕ). slots_of (map_at (code_of c.code.result.now) n)) (sym c.pc.ensures) ∙ sym c.slots_of.ensures ∙ ap option_copied c.in-Some.is in
    let t = top-frame m.code o bits fs some h in
    let stand : drop c.pointers-top.result.1 m.mac.memory ≡ flat_frames (t.frame ∷ t.frames) = ap (λ (n : ℕ). drop n m.mac.memory) c.pointers-top.ensures.stack ∙ e ∙ ap flat_frames t.is in
    let r = c.note_frame-next.ensures.found t.frame t.frames stand t.size in
    let w = c.note_waiting.ensures.found t.frames r.0 t.waiting in
    stack-noted m.code c.args.limit o bits fs c.args.self.now.found.items c.note_frame-next.new.self.found.items c.note_waiting.new.self.found.items t r.1 w
