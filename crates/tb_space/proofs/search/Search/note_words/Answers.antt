use Rattle.std.proofs.Common.{◌≡◌, Some, arith, sym, ◌∙◌, take, slice_get}
use Rattle.tb_space.proofs.Notings.{get-take, words-step, words-end}
use Rattle.tb_space.proofs.search.Search.note_words.Goals as goal

pub loop-at-preserved : goal.loop-at-preserved
loop-at-preserved c =
    let a = c.args in
    let heap = take a.limit a.machine.now.mac.memory in
    let i = c.loop-at.invariant in
    let read : slice_get heap c.loop-at.at ≡ Some c.word_at.result = get-take a.limit c.loop-at.at a.machine.now.mac.memory (omega arith) ∙ c.word_at.ensures in
    record {
      left = words-step a.limit a.to c.loop-at.at heap c.loop-at.self.found.items c.note_word.new.self.found.items c.word_at.result c.loop-at-test.true read c.note_word.ensures.found ∙ i.left;
      size = c.note_word.ensures.size ∙ i.size;
    }

pub returns-clause-found : goal.returns-clause-found
returns-clause-found c =
    let heap = take c.args.limit c.args.machine.now.mac.memory in
    sym (words-end c.args.limit c.args.to c.loop-at.at heap c.loop-at.self.found.items c.loop-at-test.false) ∙ c.loop-at.invariant.left
