use Rattle.std.proofs.Common.{rules, ◌≡◌, length, replicate, ◌∙◌, arith}
use Rattle.tb_mac.specs.Layout.{addresses}
use Rattle.tb_mac.specs.MacStep.{put_words}
use Rattle.tb_mac.specs.Words.{zero_word}
use Rattle.tb_macm.specs.calls.Loads.{laid_out}
use Rattle.tb_macm.proofs.Layouts.{start_memory, whole_slice}
use Rattle.tb_macm.proofs.load.start_memory.Goals as goal

pub returns-clause-words : goal.returns-clause-words
returns-clause-words c =
    let parts = c.args.parts.now in
    let laid : c.lay_out.new.memory ≡ put_words 0 (laid_out (length parts.globals) parts.statics (addresses parts)) (replicate c.args.heap_words zero_word) =
    let globals : c.as_slice-globals.result.now ≡ parts.globals = c.as_slice-globals.ensures in
    let statics : c.as_slice.result.now ≡ parts.statics = c.as_slice.ensures in
    let placed : c.args.placed.now ≡ addresses parts = c.requires.placed in
    let words : c.deref_mut.result.now ≡ replicate c.args.heap_words zero_word = c.deref_mut.ensures.value ∙ search rules in
    c.lay_out.ensures ∙ cc (globals, statics, placed, words) in
    whole_slice c.lay_out.new.memory c.in_ok-memory.memory.items c.in_ok-memory.memory.len (omega arith) (omega arith)
    ∙ laid ∙ start_memory parts c.args.heap_words c.requires.fits
