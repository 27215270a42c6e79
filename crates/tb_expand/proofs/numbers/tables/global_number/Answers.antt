use Rattle.std.proofs.Common.{◌∙◌, sym}
use Rattle.tb_expand.proofs.Tables.{global_found}
use Rattle.tb_expand.proofs.numbers.tables.global_number.Goals as goal

pub returns : goal.returns
returns c = global_found c.args.tables.now c.args.name c.in_ok-number.number (sym c.in_ok-number.ensures ∙ c.get_index_of.ensures.index)
