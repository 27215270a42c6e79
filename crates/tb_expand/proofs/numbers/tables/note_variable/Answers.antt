use Rattle.tb_expand.specs.View.{view_variable}
use Rattle.tb_expand.specs.calls.Numbering.{view_tables}
use Rattle.tb_expand.proofs.Tables.{variable_noted}
use Rattle.tb_expand.proofs.numbers.tables.note_variable.Goals as goal

pub returns : goal.returns
unfolding view_tables
returns c = variable_noted c.args.tables.now c.insert.new.self.keys c.key_of.result (view_variable c.args.variable) c.in_ok-insert.ensures.keys c.key_of.ensures
