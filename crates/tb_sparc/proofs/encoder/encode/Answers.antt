use Rattle.std.proofs.Common.{ap, ◌∙◌}
use Rattle.tb_sparc.specs.Word.{instr_of}
use Rattle.tb_sparc.proofs.Laws.{instr_of-word_of}
use Rattle.tb_sparc.proofs.encoder.encode.Goals as goal

pub returns-clause-decodes : goal.returns-clause-decodes
returns-clause-decodes c = ap instr_of c.word_from.ensures ∙ instr_of-word_of c.args.instr c.requires
