-- What lambda expressions capture, by the index of the procs.
use Rattle.std.proofs.Common.{◌≡◌, sym, ap, ◌∙◌, ℕ, suc, ◌<◌, Bool, true, false, cond, List, length, map, drop, get_or, Option, Some}
use Rattle.std.proofs.Math.Seq.{drop-cons}
use Rattle.std.proofs.lemmas.Option.{slice_get-get_or}
use Rattle.tb_ir.specs.declared.anf.AnfProc.{AnfProc}
use Rattle.tb_ir.specs.AnfMachine.{captured_by, proc_of, is_number}
use Rattle.tb_ir.specs.AnfPlain.{view_proc}
use Rattle.tb_live.specs.calls.Captures.{captured_by_index, captured_of}

-- a step of the loop that notes the procs, the last of them first
pub index-step : (procs : List AnfProc) (i j : ℕ) (d : AnfProc) (m : ℕ) (o n : Option ℕ) → i < length procs → j ≡ suc i →
    n ≡ cond (is_number (get_or procs i d).lambda m) (Some i) o →
    captured_by_index procs o ≡ captured_by (proc_of (map view_proc (drop j procs)) m) →
    captured_by_index procs n ≡ captured_by (proc_of (map view_proc (drop i procs)) m)
index-step procs i j d m o n lt e q h =
    ap (captured_by_index procs) q ∙ by_test (is_number (get_or procs i d).lambda m)
    ∙ ap (λ ps. captured_by (proc_of (map view_proc ps) m)) (sym (drop-cons procs i d lt))
  where
    by_test : (b : Bool) → captured_by_index procs (cond b (Some i) o) ≡ captured_by (cond b (Some (view_proc (get_or procs i d))) (proc_of (map view_proc (drop (suc i) procs)) m))
    by_test true = ap captured_of (slice_get-get_or procs i d lt)
    by_test false = h ∙ ap (λ k. captured_by (proc_of (map view_proc (drop k procs)) m)) e
