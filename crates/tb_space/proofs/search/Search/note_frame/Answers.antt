use Rattle.std.proofs.Common.{ap, ◌∙◌, arith}
use Rattle.tb_mac.specs.LiveWords.{all_targets}
use Rattle.tb_space.specs.calls.Noting.{noted_all}
use Rattle.tb_space.proofs.Stacks.{at-frame}
use Rattle.tb_space.proofs.search.Search.note_frame.Goals as goal

pub returns-then-size-words-clause-found : goal.returns-then-size-words-clause-found
returns-then-size-words-clause-found c = λ f fs e h.
    let a = c.args in
    let w = at-frame a.machine.now.mac.memory a.at a.slots.now f fs c.requires.there e h in
    absurd (omega (arith, w.fits, c.heap_words-words.ensures, c.if-size-words.true))

pub returns-clause-found : goal.returns-clause-found
returns-clause-found c = λ f fs e h.
    let a = c.args in
    let w = at-frame a.machine.now.mac.memory a.at a.slots.now f fs c.requires.there e h in
    (w.rest, c.note_live.ensures.found ∙ ap (λ ws. noted_all a.limit a.self.now.found.items (all_targets ws)) w.live)
