use Rattle.std.proofs.Common.{◌≡◌, ◌+◌, Some, true, false, get_or, slice_get, arith, ap, ◌∙◌}
use Rattle.std.proofs.lemmas.Option.{slice_get-get_or}
use Rattle.tb_semantics.proofs.ListLemmas.{get-some}
use Rattle.tb_space.specs.calls.Noting.{noted_all}
use Rattle.tb_space.specs.declared.search.Search.{Search}
use Rattle.tb_space.proofs.Notings.{live-step, one-live}
use Rattle.tb_space.proofs.search.Search.note_live.Goals as goal
use Rattle.tb_space.proofs.search.Search.note_live.Goals.{then-is_live, else-is_live}

pub loop-k-preserved : goal.loop-k-preserved
loop-k-preserved c =
    let a = c.args in
    let k = c.loop-k.k in
    let memory = a.machine.now.mac.memory in
    let i = c.loop-k.invariant in
    let old = c.loop-k.self.found.items in
    let bit : slice_get a.live.now k ≡ Some (get_or a.live.now k false) = slice_get-get_or a.live.now k false c.loop-k-test.true in
    elim c.if-is_live.branch [
      | then-is_live w ↦
          let e : c.if-is_live.self.found.items ≡ _ = ap (λ (s : Search). s.found.items) w.self-is ∙ w.note_word.ensures.found ∙ ap (noted_all a.limit old) (one-live true w.word_at.result (cc)) in
          record {
            left = live-step a.limit a.live.now memory k a.from true w.word_at.result old c.if-is_live.self.found.items (bit ∙ ap Some w.if-is_live.true) w.word_at.ensures e ∙ i.left;
            size = ap (λ (s : Search). s.marks.len) w.self-is ∙ w.note_word.ensures.size ∙ i.size;
          }
      | else-is_live w ↦
          let word = get-some memory (a.from + k) (omega (arith, c.requires.there, c.loop-k-test.true)) in
          let e : c.if-is_live.self.found.items ≡ old = ap (λ (s : Search). s.found.items) w.self-is in
          record {
            left = live-step a.limit a.live.now memory k a.from false word.0 old c.if-is_live.self.found.items (bit ∙ ap Some w.if-is_live.false) word.1 e ∙ i.left;
            size = ap (λ (s : Search). s.marks.len) w.self-is ∙ i.size;
          }
    ]
