-- Lines that are found by their index, and numbers that are written one by one.
use Rattle.std.proofs.Common.{◌≡◌, refl, sym, ap, ◌∙◌, ℕ, zero, suc, ◌+◌, ◌-◌, ◌<◌, arith, Bool, true, false, cond, ◌==◌, List, [], ◌∷◌, ◌++◌, length, map, drop, get_or, Option, Some, slice_get, append_assoc}
use Rattle.std.proofs.Math.Seq.{drop-cons}
use Rattle.tb_core.specs.Order.{view_line}
use Rattle.tb_core.specs.declared.order.OrderLine.{OrderLine}
use Rattle.tb_ir.specs.TreeMachine.{line_of, numbers_from}
use Rattle.tb_anf.specs.calls.Lines.{order_at, line_in}

at_index : (order : List OrderLine) (i : ℕ) (d : OrderLine) → i < length order → slice_get order i ≡ Some (get_or order i d)
at_index [] i d lt = absurd (omega arith)
at_index (l ∷ ls) zero d lt = refl
at_index (l ∷ ls) (suc i) d lt = at_index ls i d (omega arith)

-- one more line, before those that are found already
pub index-step : (order : List OrderLine) (i j : ℕ) (d : OrderLine) (s : ℕ) (rest : Option ℕ) → i < length order → j ≡ suc i →
    line_in order rest ≡ line_of (map view_line (drop j order)) s →
    line_in order (cond ((get_or order i d).site == s) (Some i) rest) ≡ line_of (map view_line (drop i order)) s
index-step order i j d s rest lt e h =
    let l = get_or order i d in
    by_test (l.site == s)
    ∙ ap (λ o. cond (l.site == s) (Some l.order) o) (h ∙ ap (λ n. line_of (map view_line (drop n order)) s) e)
    ∙ ap (λ ls. line_of (map view_line ls) s) (sym (drop-cons order i d lt))
  where
    by_test : (b : Bool) → line_in order (cond b (Some i) rest) ≡ cond b (Some (get_or order i d).order) (line_in order rest)
    by_test true = ap order_at (at_index order i d lt)
    by_test false = refl

-- one more number
pub written-step : (out new t : List ℕ) (first i n v : ℕ) → i < n → v ≡ first + i → new ≡ out ++ v ∷ [] →
    out ++ numbers_from (first + i) (n - i) ≡ t → new ++ numbers_from (first + (i + 1)) (n - (i + 1)) ≡ t
written-step out new t first i n v lt q e h =
    ap (λ xs. xs ++ numbers_from (first + (i + 1)) (n - (i + 1))) e
    ∙ append_assoc out (v ∷ []) _
    ∙ ap (λ xs. out ++ xs) (sym (one_more (first + i) (n - i) v (first + (i + 1)) (n - (i + 1)) (omega arith) (omega arith) q (omega arith)))
    ∙ h
  where
    one_more : (a k v b m : ℕ) → k ≡ suc m → b ≡ suc a → v ≡ a → m ≡ m → numbers_from a k ≡ v ∷ numbers_from b m
    one_more a k v b m e f q w =
        ap (numbers_from a) e ∙ ap (λ x. x ∷ numbers_from (suc a) m) (sym q) ∙ ap (λ x. v ∷ numbers_from x m) (sym f)
