use Rattle.std.proofs.Common.{◌∙◌, ◌++◌, ap, nat_eq}
use Rattle.std.proofs.Math.Path.{fun_ext}
use Rattle.indexmap.specs.IndexMap.{get}
use Rattle.tb_ir.specs.AnfPlain.{view_proc}
use Rattle.tb_codegen.specs.Homes.{index_of, own_variables}
use Rattle.tb_codegen.specs.Operations.{Body}
use Rattle.tb_generate.specs.calls.Bodies.{captured_in, or_else}
use Rattle.tb_generate.specs.calls.Entries.{form_items}
use Rattle.tb_generate.proofs.Members.{on-ok}
use Rattle.tb_generate.proofs.Programs.{body-is}
use Rattle.tb_generate.proofs.program.put_form_of.Goals as goal

pub returns-clause-items : goal.returns-clause-items
returns-clause-items c =
    let q = view_proc c.args.proc.now in
    let same =
    body-is (λ m. captured_in c.args.source.procs.now (get nat_eq c.args.source.lambdas.now m)) c.args.source.statics.now q _ c.in_ok-homes.homes.size
    (fun_ext (λ x. c.in_ok-homes.ensures.slots (or_else (get nat_eq c.in_ok-homes.homes.origins x) x) ∙ ap (index_of (own_variables q)) (c.in_ok-homes.ensures.origins x)))
    c.in_ok-homes.ensures.size in
    on-ok _ _ c.put_form.result (λ h. h ∙ ap (λ (b : Body). c.args.code.now.items.items ++ form_items b q c.args.label.now) same) c.put_form.ensures.items
