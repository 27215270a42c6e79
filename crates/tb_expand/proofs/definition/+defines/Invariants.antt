use Rattle.tb_sexp.specs.View.{view}
use Rattle.tb_expand.specs.View.{data_of}
use Rattle.tb_expand.proofs.Sizes.{size, size_all}
use Rattle.tb_expand.proofs.definition.+defines.Given as goal

abbrev pub decreases-defines : goal.decreases-defines
decreases-defines l = size (view l.datum.now)

abbrev pub decreases-defines_in : goal.decreases-defines_in
decreases-defines_in l = size_all (data_of l.elements.now)
