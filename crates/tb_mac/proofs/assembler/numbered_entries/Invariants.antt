use Rattle.std.proofs.Common.{drop, map}
use Rattle.tb_mac.specs.Assemble.{entry_labels, with_entry}
use Rattle.tb_mac.specs.calls.Labels.{number_in}
use Rattle.tb_mac.proofs.LabelLemmas.{Numbering}
use Rattle.tb_mac.proofs.assembler.numbered_entries.Given as goal

abbrev pub invariant-loop-lambda : goal.invariant-loop-lambda
invariant-loop-lambda l =
    let to = with_entry (number_in l.found.entries) in
    let left = drop l.lambda-index l.lambdas in
    Numbering l.found.entries l.out.items (map to left) (map to l.lambdas) (entry_labels l.lambdas) (entry_labels left)
