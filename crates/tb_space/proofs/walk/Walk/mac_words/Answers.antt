use Rattle.std.proofs.Common.{◌≡◌, ◌<◌, ℕ, List, [], length, ap, ◌∙◌, subst}
use Rattle.tb_semantics.specs.Graph.{IsIn}
use Rattle.tb_mac.specs.LiveWords.{object_graph}
use Rattle.tb_space.specs.calls.Noting.{noted_all}
use Rattle.tb_space.proofs.Counted.{counted, limit-is}
use Rattle.tb_space.proofs.Following.{noted-low}
use Rattle.tb_space.proofs.walk.Walk.mac_words.Goals as goal

pub returns-clause-words : goal.returns-clause-words
returns-clause-words c = λ m e w.
    let mac = c.args.machine.now.mac in
    let code = c.args.machine.now.code in
    let limit = c.min-limit.result in
    let rs = (object_graph code m).roots in
    let found = c.note_roots-start.new.self.found.items in
    let size : length m.heap ≡ limit = limit-is m mac limit e (cc) in
    let r : found ≡ noted_all limit [] rs = c.note_roots-start.ensures.found m e w size ∙ ap (λ (xs : List ℕ). noted_all limit xs rs) c.self.invariant.0 in
    let low : (a : ℕ) → IsIn a found → a < limit = λ a i. noted-low limit rs a (subst (IsIn a) r i) in
    counted code m mac limit c.from.result c.note_roots-start.result c.size-objects.result found c.follow.new.self.found.items
    e size r (c.follow.ensures.found low) c.size-objects.ensures.sum c.note_roots-start.ensures.start (cc)
