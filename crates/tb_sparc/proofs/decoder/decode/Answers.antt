use Rattle.std.proofs.Common.{ap, sym, ◌∙◌}
use Rattle.tb_sparc.specs.Word.{instr_of}
use Rattle.tb_sparc.proofs.Laws.{instr_of-word_of}
use Rattle.tb_sparc.proofs.Rows.{instr_of-some, instr_of-back, instr_of-in_range}
use Rattle.tb_sparc.proofs.decoder.decode.Goals as goal

pub returns-clause-accepts : goal.returns-clause-accepts
returns-clause-accepts c = rw c.instr_from.ensures (instr_of-some c.args.word c.ranges.word.fits)

pub returns-clause-encodes_back : goal.returns-clause-encodes_back
returns-clause-encodes_back c = rw c.instr_from.ensures (instr_of-back c.args.word c.ranges.word.fits)

pub returns-clause-in_range : goal.returns-clause-in_range
returns-clause-in_range c = rw c.instr_from.ensures (instr_of-in_range c.args.word c.ranges.word.fits)

pub returns-clause-every_encoding : goal.returns-clause-every_encoding
returns-clause-every_encoding c = λ i h e. c.instr_from.ensures ∙ ap instr_of (sym e) ∙ instr_of-word_of i h
