use Rattle.std.proofs.Common.{◌≡◌, ap, length, map, arith}
use Rattle.tb_expand.specs.View.{view, view_option, view_variable}
use Rattle.tb_expand.specs.calls.Numbering.{Made, made, open_lambda, so_far, with_lambda, view_tables}
use Rattle.tb_expand.proofs.Numbering.{numbering, counted, so_far-size, inner-below, made-lambda}
use Rattle.tb_expand.proofs.numbers.nodes.+number.Goals as goal

pub number_core-close_lambda-requires : goal.number_core-close_lambda-requires
number_core-close_lambda-requires t c =
    let m = so_far c.args.state.now in
    let tables = view_tables c.args.tables.now in
    let e = view c.in-Lambda.body in
    let inner : so_far c.number_node.new.state ≡ made tables (with_lambda m (open_lambda c.args.at)) e = grind (arith, numbering) in
    let below = inner-below tables m (open_lambda c.args.at) e (counted c.args.state.now) in
    let size = so_far-size c.number_node.new.state in
    let same = ap (λ (k : Made). length k.lambdas) inner in
    omega (arith, below, size, same, c.in_ok-number-in-Lambda.ensures.number)

pub number_core-returns-in_ok-lambda-in-Lambda-clause-state : goal.number_core-returns-in_ok-lambda-in-Lambda-clause-state
number_core-returns-in_ok-lambda-in-Lambda-clause-state t c =
    let m = so_far c.args.state.now in
    let whole = made-lambda (view_tables c.args.tables.now) m c.args.at (map view_variable c.in-Lambda.formals) (view_option c.in-Lambda.rest) (view c.in-Lambda.body) (counted c.args.state.now) in
    grind (numbering, whole)
