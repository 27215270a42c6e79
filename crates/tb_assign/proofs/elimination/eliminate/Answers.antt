use Rattle.tb_core.specs.View.{view_program}
use Rattle.tb_core.proofs.RulesOnce.{whole-rules}
use Rattle.tb_assign.proofs.Eliminated.{from-code, rules-at, keeps-at, order-at, widths-at}
use Rattle.tb_assign.proofs.elimination.eliminate.Goals as goal

pub invariant_of-result : goal.invariant_of-result
invariant_of-result c =
    let made = from-code c.args.program.now _ _ _ _ _ _ _ _ _ _ c.as_slice-assigned.ensures.value c.in_ok-assigned.ensures c.as_slice-3.ensures c.as_slice-4.ensures
    c.as_slice.ensures c.as_slice-2.ensures c.in_ok-copy_names.ensures c.in_ok-copy_statics.ensures c.in_ok-lambdas.ensures c.in_ok-forms.ensures in
    record { rules = ∣ rules-at (view_program c.args.program.now) _ (whole-rules _ c.args.program.now.rules) made ∣₁ }

pub returns-clause-cells : goal.returns-clause-cells
returns-clause-cells c =
    from-code c.args.program.now _ _ _ _ _ _ _ _ _ _ c.as_slice-assigned.ensures.value c.in_ok-assigned.ensures c.as_slice-3.ensures c.as_slice-4.ensures
    c.as_slice.ensures c.as_slice-2.ensures c.in_ok-copy_names.ensures c.in_ok-copy_statics.ensures c.in_ok-lambdas.ensures c.in_ok-forms.ensures

pub returns-clause-keeps : goal.returns-clause-keeps
returns-clause-keeps c = keeps-at (view_program c.args.program.now) (whole-rules _ c.args.program.now.rules) _ _ (returns-clause-cells c) c.requires

pub returns-clause-is_order : goal.returns-clause-is_order
returns-clause-is_order c = order-at (view_program c.args.program.now) (whole-rules _ c.args.program.now.rules) _ _ (returns-clause-cells c) c.requires

pub returns-clause-no_wider : goal.returns-clause-no_wider
returns-clause-no_wider c = widths-at (view_program c.args.program.now) (whole-rules _ c.args.program.now.rules) _ _ (returns-clause-cells c) c.requires
