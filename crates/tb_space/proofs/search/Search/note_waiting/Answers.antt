use Rattle.std.proofs.Common.{◌≡◌, Some, None, arith, ap, sym, ◌∙◌}
use Rattle.std.specs.Option.{option_copied}
use Rattle.tb_mac.specs.Assembled.{Assembled}
use Rattle.tb_mac.specs.LiveWords.{slots_at}
use Rattle.tb_space.proofs.Stacks.{next-frame, no-slots, some-slots, waiting-step, waiting-end}
use Rattle.tb_space.proofs.search.Search.note_waiting.Goals as goal

pub returns-in_default-clause-found : goal.returns-in_default-clause-found
returns-in_default-clause-found c = λ fs e h.
    let m = c.args.machine.now in
    let w = c.word_at.result in
    let n = next-frame m.code m.mac.memory c.args.limit c.loop-at.at w c.loop-at.self.found.items _ (omega (arith, c.heap_words.ensures, c.loop-at-test.true)) c.word_at.ensures (c.loop-at.invariant.frames fs e h) in
    let none : slots_at m.code w ≡ None = ap (λ (k : Assembled). slots_at k w) (sym c.code.ensures) ∙ sym c.slots_at.ensures ∙ ap option_copied c.in_default.is in
    absurd (no-slots m.code m.mac.memory c.args.limit c.loop-at.at w c.loop-at.self.found.items _ none n)

pub loop-at-preserved : goal.loop-at-preserved
loop-at-preserved c = record {
  frames = λ fs e h.
      let m = c.args.machine.now in
      let w = c.word_at.result in
      let bits = c.in-Some.slots.now in
      let old = c.loop-at.self.found.items in
      let n = next-frame m.code m.mac.memory c.args.limit c.loop-at.at w old _ (omega (arith, c.heap_words.ensures, c.loop-at-test.true)) c.word_at.ensures (c.loop-at.invariant.frames fs e h) in
      let some : slots_at m.code w ≡ Some bits = ap (λ (k : Assembled). slots_at k w) (sym c.code.ensures) ∙ sym c.slots_at.ensures ∙ ap option_copied c.in-Some.is in
      let r = c.note_frame-at.ensures.found n.frame n.frames n.stand (some-slots m.code m.mac.memory c.args.limit c.loop-at.at w old _ bits some n) in
      waiting-step m.code m.mac.memory c.args.limit c.loop-at.at c.note_frame-at.result w old c.note_frame-at.new.self.found.items _ bits some n r.0 r.1;
  size = c.note_frame-at.ensures.size ∙ c.loop-at.invariant.size;
}

pub returns-clause-found : goal.returns-clause-found
returns-clause-found c = λ fs e h.
    let m = c.args.machine.now in
    waiting-end m.code m.mac.memory c.args.limit c.loop-at.at c.loop-at.self.found.items _ (omega (arith, c.heap_words.ensures, c.loop-at-test.false)) (c.loop-at.invariant.frames fs e h)
