use Rattle.std.proofs.Common.{◌≡◌, ◌∙◌, ◌++◌, ap, ℕ, List, map, nat_eq, get_or}
use Rattle.indexmap.specs.IndexMap.{get}
use Rattle.tb_ir.specs.declared.anf.AnfProc.{AnfProc}
use Rattle.tb_ir.specs.AnfMachine.{captured_by, proc_of}
use Rattle.tb_ir.specs.AnfPlain.{view_block, view_proc}
use Rattle.tb_ir.specs.AnfRules.{blocks, captured_in}
use Rattle.tb_ir.specs.View.{view_anf}
use Rattle.tb_live.specs.calls.Captures.{captured_by_index}
use Rattle.tb_live.specs.calls.Rows.{back_rows}
use Rattle.tb_live.proofs.Parts.{proc-rows}
use Rattle.tb_live.proofs.table.live.Goals as goal

pub returns : goal.returns
returns c =
    let procs = c.args.anf.now.procs in
    let same : c.as_slice-procs.result.now ≡ procs = c.as_slice-procs.ensures in
    let captured = λ (m : ℕ). captured_by_index c.as_slice-procs.result.now (get nat_eq c.in_ok-lambdas.lambdas m) in
    record {
      rows = proc-rows procs c.args.at c.index-procs-at.result captured (captured_in (view_anf c.args.anf.now)) c.put_body.new.rows.items c.from_vec.result c.requires
          (λ m. c.in_ok-lambdas.ensures m ∙ ap (λ (ps : List AnfProc). captured_by (proc_of (map view_proc ps) m)) same)
          (c.in_ok-put_body.ensures
          ∙ ap (λ (rs : List (List ℕ)). rs ++ back_rows captured (blocks (view_block (get_or c.as_slice-procs.result.now c.args.at c.index-procs-at.result).body))) c.new-rows.ensures.items
          ∙ ap (λ (ps : List AnfProc). back_rows captured (blocks (view_block (get_or ps c.args.at c.index-procs-at.result).body))) same)
          (c.from_vec.ensures ∙ c.reverse.ensures.items);
    }
