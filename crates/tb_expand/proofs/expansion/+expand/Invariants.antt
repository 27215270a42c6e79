use Rattle.std.proofs.Common.{◌+◌, ◌*◌, drop, map}
use Rattle.tb_sexp.specs.View.{view as view_datum}
use Rattle.tb_expand.specs.View.{data_of, nodes, view, view_defined, view_expression, view_pairs, view_state}
use Rattle.tb_expand.specs.calls.Expanded.{AllGoes, EachGoes}
use Rattle.tb_expand.proofs.Sizes.{size, size_all}
use Rattle.tb_expand.proofs.Works.{work, weight, weight_all}
use Rattle.tb_expand.proofs.expansion.+expand.Given as goal

abbrev pub decreases-expand_datum : goal.decreases-expand_datum
decreases-expand_datum l = 8 * size (view_datum l.datum.now)

abbrev pub decreases-expand_form : goal.decreases-expand_form
decreases-expand_form l = 8 * work (view_expression l.expression) + 7

abbrev pub decreases-expand_operands : goal.decreases-expand_operands
decreases-expand_operands l = 8 * size_all (data_of l.datums.now) + 6

abbrev pub decreases-expand_assignment : goal.decreases-expand_assignment
decreases-expand_assignment l = 8 * size (view_datum l.datum.now) + 6

abbrev pub decreases-expand_all : goal.decreases-expand_all
decreases-expand_all l = 8 * size_all (data_of l.datums.now) + 4

abbrev pub decreases-expand_sequence : goal.decreases-expand_sequence
decreases-expand_sequence l = 8 * size_all (data_of l.datums.now) + 5

abbrev pub decreases-expand_lambda : goal.decreases-expand_lambda
decreases-expand_lambda l = 8 * (size_all (data_of l.body.now) + 2) + 5

abbrev pub decreases-expand_let : goal.decreases-expand_let
decreases-expand_let l = 8 * (size_all (view_pairs l.pairs.now).values + (size_all (data_of l.body.now) + 2)) + 6

abbrev pub decreases-expand_letrec : goal.decreases-expand_letrec
decreases-expand_letrec l = 8 * (size_all (view_pairs l.pairs.now).values + (size_all (data_of l.body.now) + 2)) + 6

abbrev pub decreases-expand_body : goal.decreases-expand_body
decreases-expand_body l = 8 * (size_all (data_of l.items.now) + 2) + 4

abbrev pub decreases-expand_found : goal.decreases-expand_found
decreases-expand_found l = 8 * (weight_all (map view_defined l.found.now.values.items) + size_all (data_of l.rest.now)) + 8

abbrev pub decreases-expand_each : goal.decreases-expand_each
decreases-expand_each l = 8 * weight_all (map view_defined l.values.now) + 7

abbrev pub decreases-expand_defined : goal.decreases-expand_defined
decreases-expand_defined l = 8 * weight (view_defined l.value.now) + 6

abbrev pub invariant-expand_all-loop-i : goal.invariant-expand_all-loop-i
invariant-expand_all-loop-i l =
    AllGoes (view_state l.initial.state) l.context (data_of l.datums) (nodes (map view l.parts.items)) (view_state l.state) (data_of (drop l.i l.datums))

abbrev pub invariant-expand_each-loop-i : goal.invariant-expand_each-loop-i
invariant-expand_each-loop-i l =
    EachGoes (view_state l.initial.state) l.context (map view_defined l.values) (nodes (map view l.parts.items)) (view_state l.state) (map view_defined (drop l.i l.values))
