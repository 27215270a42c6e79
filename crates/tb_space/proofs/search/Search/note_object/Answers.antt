use Rattle.std.proofs.Common.{ap, ◌∙◌}
use Rattle.tb_space.specs.calls.Noting.{noted_all}
use Rattle.tb_space.proofs.Notings.{object-words}
use Rattle.tb_space.proofs.search.Search.note_object.Goals as goal

pub returns-clause-found : goal.returns-clause-found
returns-clause-found c =
    let a = c.args in
    c.note_words.ensures.found
    ∙ ap (noted_all a.limit a.self.now.found.items)
    (object-words a.machine.now.mac.memory a.limit a.at c.min.result c.pointing_words.result c.word_at.result c.requires.heap c.word_at.ensures c.pointing_words.ensures.count (cc))
