use Rattle.std.proofs.Common.{map}
use Rattle.tb_core.specs.Order.{view_line}
use Rattle.tb_ir.specs.View.{view_lifted}
use Rattle.tb_anf.proofs.RulesOnce.{whole-rules}
use Rattle.tb_anf.proofs.code.Program.{made-whole, rules-at, keeps-at, no-wider-at}
use Rattle.tb_anf.proofs.program.normalise.Goals as goal

pub invariant_of-result : goal.invariant_of-result
invariant_of-result c =
    let p = view_lifted c.args.lifted.now in
    let same = made-whole p c.args.order.now _ _ _ _ _ _ _ c.as_slice.ensures c.in_ok-copy_names.ensures c.as_slice-2.ensures
    c.in_ok-copy_statics.ensures c.as_slice-3.ensures c.in_ok-copy_lines.ensures c.in_ok-procs.ensures in
    record { rules = ∣ rules-at p (map view_line c.args.order.now) _ same (whole-rules _ p c.args.lifted.now.rules) c.requires ∣₁ }

pub returns-clause-keeps : goal.returns-clause-keeps
returns-clause-keeps c =
    let p = view_lifted c.args.lifted.now in
    let same = made-whole p c.args.order.now _ _ _ _ _ _ _ c.as_slice.ensures c.in_ok-copy_names.ensures c.as_slice-2.ensures
    c.in_ok-copy_statics.ensures c.as_slice-3.ensures c.in_ok-copy_lines.ensures c.in_ok-procs.ensures in
    keeps-at p (map view_line c.args.order.now) _ same (whole-rules _ p c.args.lifted.now.rules) c.requires

pub returns-clause-no_wider : goal.returns-clause-no_wider
returns-clause-no_wider c =
    let p = view_lifted c.args.lifted.now in
    let same = made-whole p c.args.order.now _ _ _ _ _ _ _ c.as_slice.ensures c.in_ok-copy_names.ensures c.as_slice-2.ensures
    c.in_ok-copy_statics.ensures c.as_slice-3.ensures c.in_ok-copy_lines.ensures c.in_ok-procs.ensures in
    no-wider-at p (map view_line c.args.order.now) _ same (whole-rules _ p c.args.lifted.now.rules) c.requires
