use Rattle.std.proofs.Common.{◌∙◌, ◌∷◌, ◌++◌, [], None, ap, filter, map, not, nat_eq, ℕ, List}
use Rattle.std.proofs.Math.Path.{fun_ext}
use Rattle.indexmap.specs.IndexMap.{get}
use Rattle.tb_ir.specs.AnfPlain.{view_proc}
use Rattle.tb_ir.specs.AnfRules.{is_form}
use Rattle.tb_generate.specs.calls.Bodies.{captured_in}
use Rattle.tb_mac.specs.declared.code.Instr.TheVariants as I
use Rattle.tb_generate.specs.calls.Bits.{away_item}
use Rattle.tb_generate.specs.calls.Entries.{program_items}
use Rattle.tb_generate.specs.calls.Programs.{body_with}
use Rattle.tb_generate.proofs.Programs.{program-parts}
use Rattle.tb_generate.proofs.program.items_of.Goals as goal

pub returns : goal.returns
returns c =
    let qs = map view_proc c.args.procs.now in
    let forms = filter is_form qs in
    let lambdas = filter (λ q. not (is_form q)) qs in
    program-parts (body_with (λ m. captured_in c.args.procs.now (get nat_eq c.in_ok-lambdas.lambdas m)) c.args.statics.now) forms lambdas c.in_ok-label.label _ _ _ _ _
    c.new.ensures.items c.in_ok-label.ensures c.in_ok-put_forms.ensures.label c.in_ok-put_forms.ensures.items
    (c.in_ok-put_away.ensures ∙ ap (λ rs. c.put_forms.new.code.items.items ++ away_item I.End rs None ∷ []) c.no_registers.ensures) c.in_ok-put_lambdas.ensures
    ∙ ap (λ (f : ℕ → List ℕ). program_items (body_with f c.args.statics.now) forms lambdas) (fun_ext (λ m. c.in_ok-lambdas.ensures m))
