use Rattle.std.proofs.Common.{◌∙◌}
use Rattle.tb_ir.specs.View.{view_anf}
use Rattle.tb_generate.proofs.Conditions.{assembles}
use Rattle.tb_generate.proofs.Refusals.{never-labels}
use Rattle.tb_generate.proofs.generator.generate.Goals as goal

pub assemble-requires : goal.assemble-requires
assemble-requires c =
    assembles (view_anf c.args.anf.now) c.code_is_short.ensures.short c.items_can_be_assembled.ensures.conditions c.args.anf.now.rules c.requires
    c.in_ok-parts.parts c.as_slice.result.now c.in_ok-parts.ensures (c.as_slice.ensures.value ∙ c.in_ok-items.ensures)

pub unreachable-requires : goal.unreachable-requires
unreachable-requires c =
    never-labels (view_anf c.args.anf.now) c.labels_are_resolved.ensures.resolved c.args.anf.now.rules c.requires
    c.in_ok-parts.parts c.as_slice.result.now c.in_ok-parts.ensures (c.as_slice.ensures.value ∙ c.in_ok-items.ensures)
    c.in-Err-TwiceLabel.field-0 c.in-Err-TwiceLabel.ensures.refused (λ e. let h = c.in-Err-TwiceLabel.field-0-is in cc)

pub unreachable-requires-in-Err-NoLabel : goal.unreachable-requires-in-Err-NoLabel
unreachable-requires-in-Err-NoLabel c =
    never-labels (view_anf c.args.anf.now) c.labels_are_resolved.ensures.resolved c.args.anf.now.rules c.requires
    c.in_ok-parts.parts c.as_slice.result.now c.in_ok-parts.ensures (c.as_slice.ensures.value ∙ c.in_ok-items.ensures)
    c.in-Err-NoLabel.field-0 c.in-Err-NoLabel.ensures.refused (λ e. let h = c.in-Err-NoLabel.field-0-is in cc)
