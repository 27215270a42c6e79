use Rattle.tb_expand.proofs.Reading.{sequence_read}
use Rattle.tb_expand.specs.View.{view_state}
use Rattle.tb_expand.proofs.expression.read_begin.Goals as goal

pub returns-else-is_empty : goal.returns-else-is_empty
returns-else-is_empty c = sequence_read (view_state c.args._state.now) c.args.context c.args.place c.args.rest.now c.if-is_empty.ensures
