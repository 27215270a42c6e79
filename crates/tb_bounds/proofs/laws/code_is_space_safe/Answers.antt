use Rattle.std.proofs.Common.{◌≡◌, subst, ℕ, ◌+◌, ◌≤◌, arith, length, map}
use Rattle.tb_semantics.specs.Runs.{after}
use Rattle.tb_core.specs.OperandOrder.{order_of}
use Rattle.tb_core.specs.Reference.{config_of, reference}
use Rattle.tb_core.specs.Space.{size_at}
use Rattle.tb_core.specs.Store.{static_item}
use Rattle.tb_mac.specs.Bounds.{frame_bound}
use Rattle.tb_mac.specs.FramedRuns.{framed_machine, framed_of, framed_shape}
use Rattle.tb_mac.specs.Layout.{statics_size}
use Rattle.tb_mac.specs.LiveWords.{machine_words}
use Rattle.tb_passes.specs.Passes.{program_code}
use Rattle.tb_bounds.proofs.CodeSpace.{words-within}
use Rattle.tb_bounds.proofs.ReferenceSpace.{statics-within}
use Rattle.tb_bounds.proofs.laws.code_is_space_safe.Goals as goal

-- the static objects of the configuration, which it holds, have the sizes that they had at the start
pub returns : goal.returns
returns c = record {
  law = λ p ok heap input n.
      let code = program_code p in
      let m = framed_of (after (framed_machine code heap input) n) in
      let held = (c.code_keeps_the_reference_machine.ensures.law p ok heap input).windows n in
      let source = reference p (order_of p) input in
      let s = after source held.0 in
      let stay : (l : ℕ) → size_at (map static_item p.statics) l ≤ size_at (config_of s).store l = λ l.
      subst (λ k. size_at (map static_item p.statics) l ≤ size_at (config_of (after source k)).store l)
      (let e : 0 + held.0 ≡ held.0 = omega arith in e) (c.items_keep_their_sizes.ensures.law p input 0 held.0 l ok.rules) in
      let words = c.words_go_by_shapes.ensures.law code m (frame_bound code.code) (c.runs_stay_within.ensures.law code heap input n) in (
        held.0,
        held.1,
        words-within (frame_bound code.code) (statics_size p.statics) (length p.statics) (machine_words code m) (framed_shape code m) s
            words held.2 (statics-within p.statics (config_of s) stay),
      );
}
