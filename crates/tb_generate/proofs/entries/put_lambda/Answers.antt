use Rattle.std.proofs.Common.{◌∙◌, nat_eq}
use Rattle.std.proofs.Math.Path.{fun_ext}
use Rattle.indexmap.specs.IndexSet.{contains}
use Rattle.tb_ir.specs.AnfPlain.{view_proc}
use Rattle.tb_generate.specs.calls.Bodies.{body_at}
use Rattle.tb_generate.proofs.Members.{on-ok}
use Rattle.tb_generate.proofs.Programs.{lambda-parts}
use Rattle.tb_generate.proofs.entries.put_lambda.Goals as goal

pub returns-clause-items : goal.returns-clause-items
returns-clause-items c =
    on-ok _ _ c.put_block.result
    (λ h. lambda-parts (body_at c.args.body) (contains nat_eq c.in_ok-named.named) c.args.number (view_proc c.args.proc.now) c.args.label.now
    c.as_slice.result.now c.as_slice-2.result.now c.from_vec.result _ _ _ _ _ (fun_ext (λ x. c.in_ok-named.ensures x)) c.as_slice.ensures c.as_slice-2.ensures
    (c.from_vec.ensures ∙ c.in_ok-no_slots.ensures) c.in_ok-put_label.ensures c.in_ok-put_entry.ensures c.in_ok-put_frame.ensures h)
    c.put_block.ensures.items
