use Rattle.tb_expand.specs.calls.Numbering.{view_tables}
use Rattle.tb_expand.proofs.Tables.{global_noted}
use Rattle.tb_expand.proofs.numbers.tables.note_global.Goals as goal

pub returns : goal.returns
unfolding view_tables
returns c = global_noted c.args.tables.now c.insert.new.self.keys c.args.name c.in_ok-insert.ensures.keys
