-- Parallel assignment of contents of any kind.
use Rattle.std.proofs.Common.{◌≡◌, ℕ, ◌+◌, ◌*◌, List, get_or, sym, ap, arith, ◌∙◌}
use Rattle.tb_moves.specs.declared.loc.Loc.{Loc}
use Rattle.tb_moves.specs.declared.loc.Loc.TheVariants.{Reg, Slot}
use Rattle.tb_moves.specs.ParallelMoves.{run_moves, IsParallel}
use Rattle.tb_moves.proofs.Run.{held, run_moves-held}

-- a number for each location
abbrev code : Loc → ℕ
code (Reg a) = 2 * a
code (Slot a) = 2 * a + 1

code-differs : (l k : Loc) → code l ≡ code k → l ≡ k
code-differs (Reg a) (Reg b) e = ap Reg (omega arith)
code-differs (Slot a) (Slot b) e = ap Slot (omega arith)
code-differs (Reg a) (Slot b) e = absurd (omega arith)
code-differs (Slot a) (Reg b) e = absurd (omega arith)

-- what is so of numbers is so of every kind of value, since moves do not look at values
pub IsParallel-values : (V : Type 0) (moves : List (Loc × Loc)) (scratch : Loc) (done : List (Loc × Loc)) → IsParallel ℕ moves scratch done → IsParallel V moves scratch done
IsParallel-values V moves scratch done p =
    let from : (l k : Loc) → run_moves done code l ≡ code k → held done l ≡ k = λ l k e. code-differs (held done l) k (sym (run_moves-held done code l) ∙ e) in
    record {
      moved = λ k d h content. run_moves-held done content (get_or moves k d).0 ∙ ap content (from (get_or moves k d).0 (get_or moves k d).1 (p.moved k d h code));
      kept = λ l s h content. run_moves-held done content l ∙ ap content (from l l (p.kept l s h code));
    }
