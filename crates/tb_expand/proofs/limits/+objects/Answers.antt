use Rattle.std.proofs.Common.{◌≡◌, sym, ap, ◌∙◌, arith, false}
use Rattle.tb_sexp.specs.declared.datum.Node.TheVariants as node
use Rattle.tb_sexp.specs.View.{view, view_node}
use Rattle.tb_expand.specs.Limits.{has_room, with_objects, with_objects_of, with_pairs, one_object}
use Rattle.tb_expand.specs.View.{view_state, data_of}
use Rattle.tb_expand.proofs.Counts.{not_counted, pair_past, pair_inside_past, each_past, tail_past, rest_past, view_dotted}
use Rattle.tb_expand.proofs.limits.+objects.Goals as goal

pub add_data-returns-then-not-branch : goal.add_data-returns-then-not-branch
add_data-returns-then-not-branch t c =
    ap has_room (sym c.loop-datum.invariant)
    ∙ each_past c.args.datums.now c.loop-datum.datum-index c.datum-item.result (view_state c.loop-datum.state) (omega arith) c.datum-item.is
    (not_counted c.in_ok-add_datum.field-0 _ _ c.if-not-branch.true c.in_ok-add_datum.ensures)

pub add_pairs-returns-then-not-add_object : goal.add_pairs-returns-then-not-add_object
add_pairs-returns-then-not-add_object t c =
    ap has_room (sym c.loop-datum.invariant)
    ∙ pair_past c.args.datums.now c.loop-datum.datum-index c.datum-item.result (view_state c.loop-datum.state) (omega arith) c.datum-item.is c.if-not-add_object.ensures

pub add_pairs-returns-then-not-branch : goal.add_pairs-returns-then-not-branch
add_pairs-returns-then-not-branch t c =
    ap has_room (sym c.loop-datum.invariant)
    ∙ pair_inside_past c.args.datums.now c.loop-datum.datum-index c.datum-item.result (view_state c.loop-datum.state) (omega arith) c.datum-item.is
    (ap (λ s. has_room (with_objects (view c.datum-item.result) s)) (sym c.if-not-add_object.ensures)
    ∙ not_counted c.in_ok-add_datum.field-0 _ _ c.if-not-branch.true c.in_ok-add_datum.ensures)

pub add_vector-returns-then-not-add_object : goal.add_vector-returns-then-not-add_object
add_vector-returns-then-not-add_object t c =
    rest_past (data_of c.args.elements.now) _ (ap (λ w. has_room (one_object w (view_state c.args.state.now))) (sym c.vector_words.ensures) ∙ c.if-not-add_object.ensures)

pub add_node-returns-else-branch : goal.add_node-returns-else-branch
add_node-returns-else-branch t c =
    let e = c.in-List.is ∙ ap (λ o. node.List c.in-List.elements o) c.in-Some.is in
    let h : has_room (with_pairs (data_of c.in-List.elements) (view_state c.args.state.now)) ≡ false =
    ap (λ ds. has_room (with_pairs (data_of ds) (view_state c.args.state.now))) (sym c.as_slice-in-Some.ensures)
    ∙ not_counted c.in_ok-add_pairs-in-Some.field-0 _ _ c.if-branch.false c.in_ok-add_pairs-in-Some.ensures in
    ap (λ n. has_room (with_objects_of (view_node n) (view_state c.args.state.now))) e
    ∙ ap (λ s. has_room (with_objects_of s (view_state c.args.state.now))) (view_dotted c.in-List.elements c.in-Some.tail)
    ∙ tail_past (view c.in-Some.tail) (with_pairs (data_of c.in-List.elements) (view_state c.args.state.now)) h
