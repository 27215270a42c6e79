use Rattle.std.proofs.Common.{◌≡◌, ◌++◌, [], drop, map}
use Rattle.tb_sexp.specs.Printing.{printed_all}
use Rattle.tb_sexp.specs.View.{trees, view}
use Rattle.tb_sexp.proofs.printer.+print.Given as goal

abbrev pub invariant-put_data-loop-datum : goal.invariant-put_data-loop-datum
invariant-put_data-loop-datum l =
    l.out.items ++ printed_all l.lead (trees (map view (drop l.datum-index l.elements))) ≡ l.initial.out.items ++ printed_all [] (trees (map view l.elements))
