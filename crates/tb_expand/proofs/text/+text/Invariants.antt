use Rattle.std.proofs.Common.{◌+◌, ◌*◌, drop, map}
use Rattle.tb_sexp.specs.View.{view as view_datum}
use Rattle.tb_expand.specs.View.{data_of, nodes, view, view_state}
use Rattle.tb_expand.specs.calls.Forms.{FormsGo}
use Rattle.tb_expand.proofs.Sizes.{size, size_all}
use Rattle.tb_expand.proofs.text.+text.Given as goal

abbrev pub decreases-expand_form : goal.decreases-expand_form
decreases-expand_form l = 2 * size (view_datum l.datum.now)

abbrev pub decreases-expand_forms : goal.decreases-expand_forms
decreases-expand_forms l = 2 * size_all (data_of l.datums.now) + 1

abbrev pub invariant-expand_forms-loop-i : goal.invariant-expand_forms-loop-i
invariant-expand_forms-loop-i l =
    FormsGo (view_state l.initial.state) l.context (data_of l.datums) (nodes (map view l.initial.out.items)) (view_state l.state) (data_of (drop l.i l.datums)) (nodes (map view l.out.items))
