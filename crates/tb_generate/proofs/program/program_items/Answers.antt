use Rattle.std.proofs.Common.{◌∙◌, ap, map, List}
use Rattle.tb_prim.specs.declared.constant.Static.{Static}
use Rattle.tb_ir.specs.AnfPlain.{view_proc}
use Rattle.tb_ir.specs.View.{view_anf}
use Rattle.tb_ir.specs.declared.anf.AnfProc.{AnfProc}
use Rattle.tb_generate.specs.calls.Programs.{procs_items}
use Rattle.tb_generate.proofs.Members.{if-ok}
use Rattle.tb_generate.proofs.Whole.{program-is}
use Rattle.tb_generate.proofs.program.program_items.Goals as goal

pub returns : goal.returns
returns c =
    let procs = c.as_slice.ensures in
    let statics = c.as_slice-2.ensures in
    if-ok _ _ c.items_of.result
    (λ items h. h ∙ ap (λ (qs : List AnfProc). procs_items (map view_proc qs) c.as_slice-2.result.now) procs
    ∙ ap (λ (ss : List Static). procs_items (map view_proc c.args.anf.now.procs) ss) statics ∙ program-is (view_anf c.args.anf.now))
    c.items_of.ensures
