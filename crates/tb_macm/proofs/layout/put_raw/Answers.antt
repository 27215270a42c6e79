use Rattle.std.proofs.Common.{◌≡◌, ◌+◌, ◌*◌, [], ◌∷◌, slice_set, sym, subst}
use Rattle.tb_mac.specs.declared.word.Word.{Word}
use Rattle.tb_mac.specs.declared.word.Word.TheVariants.{Raw}
use Rattle.tb_mac.specs.MacStep.{put_words}
use Rattle.tb_mac.specs.Objects.{raw_words}
use Rattle.tb_macm.proofs.Layouts.{Packing, packing_step, raw_at}
use Rattle.tb_macm.proofs.layout.put_raw.Goals as goal

pub loop-k-preserved : goal.loop-k-preserved
loop-k-preserved c =
    let bytes = c.args.bytes.now in
    let k = c.loop-k.k in
    let end = put_words c.args.at (raw_words bytes) c.args.memory.now in
    let a = c.byte_at.ensures in
    let b = c.byte_at-in-loop-k.ensures in
    let d = c.byte_at-in-loop-k-2.ensures in
    let f = c.byte_at-in-loop-k-3.ensures in
    let e : Raw (c.byte_at.result ∷ c.byte_at-in-loop-k.result ∷ c.byte_at-in-loop-k-2.result ∷ c.byte_at-in-loop-k-3.result ∷ []) ≡ raw_at bytes (4 * k) = cc in
    subst (λ (w : Word). Packing c.args.at (k + 1) bytes (slice_set c.loop-k.memory (c.args.at + k) w) end) (sym e)
    (packing_step c.args.at k bytes c.loop-k.memory end c.loop-k-test.true c.loop-k.invariant)
