use Rattle.std.proofs.Common.{drop, map}
use Rattle.tb_mac.specs.Assemble.{instructions, targets, with_target}
use Rattle.tb_mac.specs.calls.Labels.{number_in}
use Rattle.tb_mac.proofs.LabelLemmas.{Numbering}
use Rattle.tb_mac.proofs.assembler.numbered.Given as goal

abbrev pub invariant-loop-item : goal.invariant-loop-item
invariant-loop-item l =
    let to = with_target (number_in l.found.entries) in
    let left = instructions (drop l.item-index l.items) in
    Numbering l.found.entries l.code.items (map to left) (map to (instructions l.items)) (targets (instructions l.items)) (targets left)
