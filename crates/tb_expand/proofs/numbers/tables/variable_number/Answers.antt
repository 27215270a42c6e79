use Rattle.std.proofs.Common.{◌∙◌, sym}
use Rattle.tb_expand.specs.View.{view_variable}
use Rattle.tb_expand.proofs.Tables.{variable_found}
use Rattle.tb_expand.proofs.numbers.tables.variable_number.Goals as goal

pub returns : goal.returns
returns c = variable_found c.args.tables.now c.key_of.result (view_variable c.args.variable) c.in_ok-number.number (sym c.in_ok-number.ensures ∙ c.get_index_of.ensures.index) c.key_of.ensures
