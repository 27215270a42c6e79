-- How much is left that the source evaluates by itself: a measure of its states.
use Rattle.std.proofs.Common.{◌≡◌, refl, sym, ap, ◌∙◌, ℕ, zero, suc, ◌+◌, ◌*◌, ◌<◌, ◌≤◌, ◌⊎◌, inl, inr, ⊎_elim, arith, true, List, [], ◌∷◌, length, drop, Option, Some, None}
use Rattle.tb_semantics.specs.Graph.{IsIn, sum_of}
use Rattle.tb_semantics.proofs.Reachable.{sum_by_partners}
use Rattle.tb_ir.specs.Tree.{Tree, Node, Form, NewCell, CellGet, CellSet, Let, Call, Direct, PrimUse, Apply, Trees, none, more, count, tree_at, operands}
use Rattle.tb_ir.specs.Machine.{Control, Eval, Bound, Val, Entering, Work, Top, Own, Running, Stopped, Lost}
use Rattle.tb_ir.specs.Rules.{IsPermutation}
use Rattle.tb_ir.specs.TreeMachine.{TreeWork, Sel, SetGlo, Rest, Args, Frames, TreeState, numbers, numbers_from}
use Rattle.tb_anf.specs.NormalForm.{size, size_form, size_all}
use Rattle.tb_anf.proofs.Names.{by_operands}

-- a measure of expressions, at a number and summed over all
abbrev pub at_tree : (Tree → ℕ) → Option Tree → ℕ
at_tree m None = 0
at_tree m (Some e) = m e

abbrev pub sum_all : (Tree → ℕ) → Trees → ℕ
sum_all m none = 0
sum_all m (more e es) = m e + sum_all m es

-- the sizes of the operands of these numbers
abbrev pub sizes_at : Trees → List ℕ → ℕ
sizes_at es ns = sum_of (λ i. at_tree size (tree_at es i)) ns

abbrev pub size_of_body : Form → ℕ
size_of_body (Let xs es e) = size e
size_of_body f = 0

abbrev pub own_weight : Form → ℕ
own_weight f = suc (2 * size_form f)

abbrev pub weight : Tree → ℕ
weight (Node p s f) = own_weight f

module _ (line : ℕ → Option (List ℕ)) where
  abbrev pub work_weight : TreeWork → ℕ
  work_weight (Sel a b r) = 0
  work_weight (SetGlo g defines p) = 0
  work_weight (Rest es r) = 2 * size_all es
  work_weight (Args p s f vs r) =
      2 * (sizes_at (operands f) (drop (suc (length vs)) (numbers (line s) f)) + size_of_body f)

  abbrev pub any_weight : Work TreeWork → ℕ
  any_weight (Top k) = 0
  any_weight (Own w) = work_weight w

  abbrev pub frames_weight : Frames → ℕ
  frames_weight [] = 0
  frames_weight (f ∷ fs) = any_weight f.work + frames_weight fs

  abbrev pub control_weight : Control Tree → ℕ
  control_weight (Eval e r) = weight e
  control_weight (Bound e r) = 0
  control_weight (Val v) = 0
  control_weight (Entering callee vs) = 0

  abbrev pub state_weight : TreeState → ℕ
  state_weight (Running c es) = control_weight c.control + frames_weight c.frames
  state_weight (Stopped c es) = 0
  state_weight (Lost c es) = 0

pub weight-size : (e : Tree) → suc (weight e) ≡ 2 * size e
weight-size (Node p s f) = omega arith

later_numbers : (size_at : ℕ → ℕ) (i n : ℕ) →
    sum_of size_at (numbers_from (suc i) n) ≡ sum_of (λ j. size_at (suc j)) (numbers_from i n)
later_numbers size_at i zero = refl
later_numbers size_at i (suc n) = ap (λ k. size_at (suc i) + k) (later_numbers size_at (suc i) n)

pub sums-written : (m : Tree → ℕ) (es : Trees) →
    sum_of (λ i. at_tree m (tree_at es i)) (numbers_from 0 (count es)) ≡ sum_all m es
sums-written m none = refl
sums-written m (more e es) =
    let z : 1 + count es ≡ suc (count es) = omega arith in
    ap (λ n. sum_of (λ i. at_tree m (tree_at (more e es) i)) (numbers_from 0 n)) z
    ∙ ap (λ k. m e + k) (later_numbers (λ i. at_tree m (tree_at (more e es) i)) 0 (count es) ∙ sums-written m es)

pub in-numbers : (i n j : ℕ) → i ≤ j → j < i + n → IsIn j (numbers_from i n)
in-numbers i zero j le lt = absurd (omega arith)
in-numbers i (suc n) j le lt =
    ⊎_elim (λ e. inl e) (λ l. inr (in-numbers (suc i) n j l (omega arith))) (first_or_later i j le)
  where
    first_or_later : (i j : ℕ) → i ≤ j → i ≡ j ⊎ (suc i ≤ j)
    first_or_later zero zero le = inl refl
    first_or_later zero (suc j) le = inr (omega arith)
    first_or_later (suc i) zero le = absurd (omega arith)
    first_or_later (suc i) (suc j) le =
        ⊎_elim (λ e. inl (ap suc e)) (λ l. inr (omega arith)) (first_or_later i j (omega arith))

-- a measure of the operands of a node is no more than that of all of them, in any order
pub sums-permuted : (m : Tree → ℕ) (es : Trees) (ns : List ℕ) → IsPermutation ns (count es) →
    sum_of (λ i. at_tree m (tree_at es i)) ns ≤ sum_all m es
sums-permuted m es ns h =
    let size_at = λ (i : ℕ). at_tree m (tree_at es i) in
    let le = sum_by_partners (λ i j. i ≡ j) size_at size_at
    (λ i j k p q. p ∙ sym q) ns (numbers_from 0 (count es)) h.apart
    (λ i t. (i, in-numbers 0 (count es) i (omega arith) (let lt = h.within i t in omega arith), refl, omega arith)) in
    let e = sums-written m es in
    omega arith

all_sizes : (es : Trees) → sum_all size es ≡ size_all es
all_sizes none = refl
all_sizes (more e es) = ap (λ k. size e + k) (all_sizes es)

pub sizes-permuted : (es : Trees) (ns : List ℕ) → IsPermutation ns (count es) → sizes_at es ns ≤ size_all es
sizes-permuted es ns h =
    let le = sums-permuted size es ns h in
    let e = all_sizes es in
    omega arith

pub operands-size : (f : Form) → by_operands f ≡ true → size_all (operands f) + size_of_body f ≤ size_form f
operands-size (NewCell e) o = omega arith
operands-size (CellGet e) o = omega arith
operands-size (CellSet c e) o = omega arith
operands-size (Let xs es e) o = omega arith
operands-size (Call f es) o = omega arith
operands-size (Direct l es) o = omega arith
operands-size (PrimUse q es) o = omega arith
operands-size (Apply f l) o = omega arith
operands-size _ o = cc
