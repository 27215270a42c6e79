-- Where an order is one of the program, the operands of each node go in an order that has each of them once.
use Rattle.std.proofs.Common.{◌≡◌, refl, subst, ℕ, zero, suc, ◌+◌, ◌-◌, ◌^◌, ◌<◌, ◌≤◌, inl, inr, ⊎_elim, arith, Bool, true, false, cond, not, ◌==◌, List, [], ◌∷◌, ◌++◌, length, map, filter, Option, Some, None, slice_get, eqb-true}
use Rattle.std.proofs.lemmas.Bool.{cases_Bool, cases_lt, eqb-false}
use Rattle.tb_semantics.specs.Graph.{IsIn, IsApart}
use Rattle.tb_core.specs.Lifting.{Lifted}
use Rattle.tb_core.specs.OperandOrder.{Line}
use Rattle.tb_core.specs.Rules.{Every}
use Rattle.tb_core.proofs.Members.{in-left, in-right, in-either, in-tested}
use Rattle.tb_ir.specs.FreeVariables.{added_to}
use Rattle.tb_ir.specs.Rules.{IsPermutation, HasPermutation, HasLine, IsOrderOf, NodeKeeps, KeepsRules, LiftedKeeps, AreAdded, all_nodes}
use Rattle.tb_ir.specs.Tree.{Tree, Node, Quote, Local, Global, Lambda, If, NewCell, CellGet, CellSet, SetGlobal, DefGlobal, Let, Letrec, Seq, Call, Direct, PrimUse, Apply, Trees, none, more, count, LambdaTree, ProgramTree}
use Rattle.tb_ir.specs.TreeMachine.{Context, context_of, line_of, numbers_from, direct_numbers, direct_line, line_or_written}
use Rattle.tb_anf.proofs.Names.{Any, ProperNode}
use Rattle.tb_anf.proofs.Arranged.{permutation-length}

from_within : (a k i : ℕ) → IsIn i (numbers_from a k) → (a ≤ i) × (i < a + k)
from_within a zero i j = absurd j
from_within a (suc k) i (inl e) = (omega arith, omega arith)
from_within a (suc k) i (inr j) = let h = from_within (suc a) k i j in let b = h.0 in let c = h.1 in (omega arith, omega arith)

from_full : (a k i : ℕ) → a ≤ i → i < a + k → IsIn i (numbers_from a k)
from_full a zero i le lt = absurd (omega arith)
from_full a (suc k) i le lt =
    ⊎_elim (λ t. inl (eqb-true a i t)) (λ f. inr (from_full (suc a) k i (past a i le (eqb-false a i f)) (omega arith))) (cases_Bool (a == i))
  where
    past : (a i : ℕ) → a ≤ i → (a ≡ i → ⊥) → suc a ≤ i
    past a i le ne = omega arith

from_apart : (a k : ℕ) → IsApart (numbers_from a k)
from_apart a zero = tt
from_apart a (suc k) = (λ i. let h = (from_within (suc a) k a i).0 in absurd (omega arith), from_apart (suc a) k)

written_permutes : (n : ℕ) → IsPermutation (numbers_from 0 n) n
written_permutes n = record { apart = from_apart 0 n; within = λ i j. let h = (from_within 0 n i j).1 in omega arith; full = λ i lt. from_full 0 n i (omega arith) (omega arith) }

-- the numbers of a line but 0, each less by one
abbrev rest : List ℕ → List ℕ
rest line = map (λ i. i - 1) (filter (λ i. not (i == 0)) line)

rest_in : (line : List ℕ) (i : ℕ) → IsIn i (rest line) → IsIn (suc i) line
rest_in [] i j = absurd j
rest_in (n ∷ line) i j = by_test (n == 0) refl j (rest_in line i)
  where
    by_test : (b : Bool) → (n == 0) ≡ b → IsIn i (map (λ k. k - 1) (cond (not b) (n ∷ filter (λ k. not (k == 0)) line) (filter (λ k. not (k == 0)) line))) →
        (IsIn i (rest line) → IsIn (suc i) line) → IsIn (suc i) (n ∷ line)
    by_test true e j r = inr (r j)
    by_test false e (inl q) r = inl (less (eqb-false n 0 e) q)
      where
        less : (n ≡ 0 → ⊥) → n - 1 ≡ i → n ≡ suc i
        less ne q = omega arith
    by_test false e (inr j) r = inr (r j)

in_rest : (line : List ℕ) (i : ℕ) → IsIn (suc i) line → IsIn i (rest line)
in_rest [] i j = absurd j
in_rest (n ∷ line) i j = by_test (n == 0) refl j (in_rest line i)
  where
    by_test : (b : Bool) → (n == 0) ≡ b → IsIn (suc i) (n ∷ line) → (IsIn (suc i) line → IsIn i (rest line)) →
        IsIn i (map (λ k. k - 1) (cond (not b) (n ∷ filter (λ k. not (k == 0)) line) (filter (λ k. not (k == 0)) line)))
    by_test true e (inl q) r = let z = eqb-true n 0 e in absurd (omega arith)
    by_test true e (inr j) r = r j
    by_test false e (inl q) r = inl (omega arith)
    by_test false e (inr j) r = inr (r j)

rest_apart : (line : List ℕ) → IsApart line → IsApart (rest line)
rest_apart [] h = tt
rest_apart (n ∷ line) h = by_test (n == 0) refl (rest_apart line h.1)
  where
    by_test : (b : Bool) → (n == 0) ≡ b → IsApart (rest line) →
        IsApart (map (λ k. k - 1) (cond (not b) (n ∷ filter (λ k. not (k == 0)) line) (filter (λ k. not (k == 0)) line)))
    by_test true e r = r
    by_test false e r = (λ j. h.0 (subst (λ k. IsIn k line) (back (eqb-false n 0 e)) (rest_in line (n - 1) j)), r)
      where
        back : (n ≡ 0 → ⊥) → suc (n - 1) ≡ n
        back ne = omega arith

apart_both : (xs ys : List ℕ) → IsApart xs → IsApart ys → ((i : ℕ) → IsIn i xs → IsIn i ys → ⊥) → IsApart (xs ++ ys)
apart_both [] ys h k out = k
apart_both (x ∷ xs) ys h k out =
    (λ i. ⊎_elim h.0 (out x (inl refl)) (in-either x xs ys i), apart_both xs ys h.1 k (λ i j. out i (inr j)))

-- the operands of a direct call, and the variables that are added behind them
direct_permutes : (line : List ℕ) (f n : ℕ) → IsPermutation line (suc f) → f ≤ n → IsPermutation (direct_numbers line n) n
direct_permutes line f n h le =
    let long = permutation-length line (suc f) h in
    record {
      apart = apart_both (rest line) (numbers_from (length line - 1) (n - (length line - 1))) (rest_apart line h.apart) (from_apart _ _)
          (λ i j k. let a = h.within (suc i) (rest_in line i j) in let b = (from_within (length line - 1) (n - (length line - 1)) i k).0 in absurd (omega arith));
      within = λ i j. ⊎_elim (λ k. let a = h.within (suc i) (rest_in line i k) in omega arith)
          (λ k. let b = (from_within (length line - 1) (n - (length line - 1)) i k).1 in omega arith)
          (in-either i (rest line) (numbers_from (length line - 1) (n - (length line - 1))) j);
      full = λ i lt. ⊎_elim (λ less. in-left i (rest line) _ (in_rest line i (h.full (suc i) (omega arith))))
          (λ more. in-right i (rest line) _ (from_full (length line - 1) (n - (length line - 1)) i (omega arith) (omega arith))) (cases_lt i f);
    }

one_permutes : IsPermutation (0 ∷ []) 1
one_permutes = written_permutes 1

two_permutes : IsPermutation (0 ∷ 1 ∷ []) 2
two_permutes = written_permutes 2

-- added operands are as many as the variables
added_count : (n : ℕ) (es : Trees) (xs : List ℕ) → AreAdded n es xs → count es ≡ n + length xs
added_count (suc n) (more e es) xs h = let r = added_count n es xs h in omega arith
added_count zero (more (Node p s (Local y)) es) (x ∷ xs) h = let r = added_count zero es xs h.1 in omega arith
added_count zero none [] h = refl
added_count n es xs h = absurd h

with_line : (o : Option (List ℕ)) (n : ℕ) → HasPermutation o n → IsPermutation (line_or_written o n) n
with_line None n h = absurd h
with_line (Some line) n h = h

let_line : (o : Option (List ℕ)) (n : ℕ) → ((line : List ℕ) → o ≡ Some line → IsPermutation line n) → IsPermutation (line_or_written o n) n
let_line None n h = written_permutes n
let_line (Some line) n h = h line refl

direct_with_line : (o : Option (List ℕ)) (f n : ℕ) → HasPermutation o (suc f) → f ≤ n → IsPermutation (direct_line o n) n
direct_with_line None f n h le = absurd h
direct_with_line (Some line) f n h le = direct_permutes line f n h le

lambda_there : (ms : List LambdaTree) (l : ℕ) → l < length ms → (m : LambdaTree) × (slice_get ms l ≡ Some m)
lambda_there [] l lt = absurd (omega arith)
lambda_there (m ∷ ms) zero lt = (m, refl)
lambda_there (m ∷ ms) (suc l) lt = lambda_there ms l (omega arith)

module _ (p : ProgramTree) (order : List Line) (lifted : Every (LiftedKeeps p) p.set) where
  abbrev x : Context
  x = context_of p order

  lifted_range : (set : List Lifted) → Every (LiftedKeeps p) set → (l : ℕ) → IsIn l (map (λ (m : Lifted). m.lambda) set) → l < length p.lambdas
  lifted_range [] h l i = absurd i
  lifted_range (m ∷ ms) h l (inl e) = let r = (h.0).in_range in omega arith
  lifted_range (m ∷ ms) h l (inr i) = lifted_range ms h.1 l i

  node_proper : (e : Tree) → HasLine order p.set p.lambdas e → NodeKeeps (2 ^ 31) p e → ProperNode x Any e
  node_proper (Node q s (Quote c)) h k = record { permuted = λ b. cc; long = tt; may = tt }
  node_proper (Node q s (Local y)) h k = record { permuted = λ b. cc; long = tt; may = tt }
  node_proper (Node q s (Global g)) h k = record { permuted = λ b. cc; long = tt; may = tt }
  node_proper (Node q s (Lambda l)) h k = record { permuted = λ b. cc; long = tt; may = tt }
  node_proper (Node q s (If a b c)) h k = record { permuted = λ b. cc; long = tt; may = tt }
  node_proper (Node q s (NewCell e)) h k = record { permuted = λ b. one_permutes; long = tt; may = tt }
  node_proper (Node q s (CellGet e)) h k = record { permuted = λ b. one_permutes; long = tt; may = tt }
  node_proper (Node q s (CellSet c e)) h k = record { permuted = λ b. two_permutes; long = tt; may = tt }
  node_proper (Node q s (SetGlobal g e)) h k = record { permuted = λ b. cc; long = tt; may = tt }
  node_proper (Node q s (DefGlobal g e)) h k = record { permuted = λ b. cc; long = tt; may = tt }
  node_proper (Node q s (Let ys es e)) h k = record { permuted = λ b. let_line (line_of order s) (count es) h; long = k.shaped; may = tt }
  node_proper (Node q s (Letrec ys ls e)) h k = record { permuted = λ b. cc; long = tt; may = tt }
  node_proper (Node q s (Seq es)) h k = record { permuted = λ b. cc; long = k.shaped; may = tt }
  node_proper (Node q s (Call f es)) h k = record { permuted = λ b. with_line (line_of order s) _ (h refl); long = tt; may = tt }
  node_proper (Node q s (PrimUse a es)) h k = record { permuted = λ b. with_line (line_of order s) _ (h refl); long = tt; may = tt }
  node_proper (Node q s (Apply f l)) h k = record { permuted = λ b. with_line (line_of order s) _ (h refl); long = tt; may = tt }
  node_proper (Node q s (Direct l es)) h k =
      let calls = k.shaped in
      let m = lambda_there p.lambdas l (lifted_range p.set lifted l (in-tested (map (λ (m : Lifted). m.lambda) p.set) l calls.is_lifted)) in
      let counted = added_count (length (m.0).formals) es (added_to p.set l) (calls.operands_match m.0 m.1) in
      record { permuted = λ b. direct_with_line (line_of order s) (length (m.0).formals) (count es) (h m.0 m.1) (omega arith); long = tt; may = tt }

  all_proper : (es : List Tree) → Every (HasLine order p.set p.lambdas) es → Every (NodeKeeps (2 ^ 31) p) es → Every (ProperNode x Any) es
  all_proper [] h k = tt
  all_proper (e ∷ es) h k = (node_proper e h.0 k.0, all_proper es h.1 k.1)

pub proper-nodes : (p : ProgramTree) (order : List Line) → KeepsRules (2 ^ 31) p → IsOrderOf p order → Every (ProperNode (context_of p order) Any) (all_nodes p)
proper-nodes p order r h = all_proper p order r.lifted (all_nodes p) h r.nodes
