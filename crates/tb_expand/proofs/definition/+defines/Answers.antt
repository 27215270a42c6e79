use Rattle.std.proofs.Common.{◌∙◌, arith}
use Rattle.tb_sexp.specs.View.{view}
use Rattle.tb_expand.specs.View.{view_state, data_of}
use Rattle.tb_expand.proofs.Items.{elements_define, nothing_defines, elements_smaller}
use Rattle.tb_expand.proofs.definition.+defines.Goals as goal

pub defines-defines_in-requires : goal.defines-defines_in-requires
defines-defines_in-requires t c = let h = elements_smaller (view c.args.datum.now) (data_of c.in-Some.elements.now) c.in-Some.ensures in omega (arith, h, c.decreases)

pub defines-returns-in-Some : goal.defines-returns-in-Some
defines-returns-in-Some t c = c.defines_in.ensures ∙ elements_define (view_state c.args.state.now) c.args.context (view c.args.datum.now) (data_of c.in-Some.elements.now) c.in-Some.ensures

pub defines-returns-in-None : goal.defines-returns-in-None
defines-returns-in-None t c = nothing_defines (view_state c.args.state.now) c.args.context (view c.args.datum.now) c.in-None.ensures
