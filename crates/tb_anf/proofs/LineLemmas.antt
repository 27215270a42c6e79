-- The operands of each node go in an order that has each of them once.
use Rattle.std.proofs.Common.{◌≡◌, refl, sym, ap, subst, ℕ, zero, suc, ◌+◌, ◌-◌, ◌<◌, ◌≤◌, ◌⊎◌, inl, inr, ⊎_elim, arith, not, true, cond, ◌==◌, List, [], ◌∷◌, ◌++◌, length, map, filter, Option, Some, None, eq-eqb, ne_eqb}
use Rattle.std.proofs.lemmas.Bool.{cases_eq}
use Rattle.tb_prim.specs.declared.place.Place.{Place}
use Rattle.tb_semantics.specs.Graph.{IsIn, IsApart}
use Rattle.tb_core.specs.OperandOrder.{Line}
use Rattle.tb_core.proofs.Members.{in-left, in-right, in-either}
use Rattle.tb_ir.specs.Tree.{Node, Form, NewCell, CellGet, CellSet, Let, Call, Direct, PrimUse, Apply, Trees, none, more, count, operands, LambdaTree, ProgramTree}
use Rattle.tb_ir.specs.FreeVariables.{added_to}
use Rattle.tb_ir.specs.Rules.{IsPermutation, HasPermutation, HasLine, AreAdded, IsLambda}
use Rattle.tb_ir.specs.TreeMachine.{numbers_from, direct_numbers, line_or_written, direct_line, numbers, line_of}
use Rattle.tb_anf.proofs.Apart.{apart-append}
use Rattle.tb_anf.proofs.Arranged.{permutation-length}
use Rattle.tb_anf.proofs.Names.{by_operands}
use Rattle.tb_anf.proofs.Weights.{in-numbers}

numbers-from : (i n j : ℕ) → IsIn j (numbers_from i n) → (i ≤ j) × (j < i + n)
numbers-from i zero j h = absurd h
numbers-from i (suc n) j (inl e) = (omega arith, omega arith)
numbers-from i (suc n) j (inr h) = let k = numbers-from (suc i) n j h in let a = k.0 in let b = k.1 in
    (omega arith, omega arith)

numbers-apart : (i n : ℕ) → IsApart (numbers_from i n)
numbers-apart i zero = tt
numbers-apart i (suc n) =
    (λ h. let k = (numbers-from (suc i) n i h).0 in absurd (omega arith), numbers-apart (suc i) n)

pub written-permutation : (n : ℕ) → IsPermutation (numbers_from 0 n) n
written-permutation n = record {
  apart = numbers-apart 0 n;
  within = λ i h. let k = (numbers-from 0 n i h).1 in omega arith;
  full = λ i lt. in-numbers 0 n i (omega arith) (omega arith);
}

-- a line without its operator
abbrev inner_line : List ℕ → List ℕ
inner_line line = map (λ i. i - 1) (filter (λ i. not (i == 0)) line)

inner_zero : (i : ℕ) (line : List ℕ) → i ≡ 0 → inner_line (i ∷ line) ≡ inner_line line
inner_zero i line e = ap (λ b. map (λ i. i - 1) (cond (not b) (i ∷ filter (λ i. not (i == 0)) line) (filter (λ i. not
    (i == 0)) line)))
    (eq-eqb i 0 e)

inner_suc : (i : ℕ) (line : List ℕ) → (i ≡ 0 → ⊥) → inner_line (i ∷ line) ≡ (i - 1) ∷ inner_line line
inner_suc i line ne = ap (λ b. map (λ i. i - 1) (cond (not b) (i ∷ filter (λ i. not (i == 0)) line) (filter (λ i. not
    (i == 0)) line)))
    (ne_eqb i 0 ne)

inner-in : (line : List ℕ) (j : ℕ) → IsIn j (inner_line line) → IsIn (suc j) line
inner-in [] j h = h
inner-in (i ∷ line) j h =
    ⊎_elim
    (λ z. inr (inner-in line j (subst (IsIn j) (inner_zero i line z) h)))
    (λ ne. ⊎_elim (λ e. inl (omega arith)) (λ k. inr (inner-in line j k)) (subst (IsIn j) (inner_suc i line ne) h))
    (cases_eq i 0)

in-inner : (line : List ℕ) (j : ℕ) → IsIn (suc j) line → IsIn j (inner_line line)
in-inner [] j h = h
in-inner (i ∷ line) j h =
    ⊎_elim
    (λ z. subst (IsIn j) (sym (inner_zero i line z))
    (⊎_elim (λ e. absurd (omega arith)) (λ k. in-inner line j k) h))
    (λ ne. subst (IsIn j) (sym (inner_suc i line ne)) (⊎_elim (λ e. inl (omega arith)) (λ k. inr
    (in-inner line j k)) h))
    (cases_eq i 0)

inner-apart : (line : List ℕ) → IsApart line → IsApart (inner_line line)
inner-apart [] h = h
inner-apart (i ∷ line) h =
    ⊎_elim
    (λ z. subst IsApart (sym (inner_zero i line z)) (inner-apart line h.1))
    (λ ne. subst IsApart (sym (inner_suc i line ne)) (
      λ k. h.0 (let e : suc (i - 1) ≡ i = omega arith in subst (λ w. IsIn w line) e (inner-in line (i - 1) k)),
      inner-apart line h.1,
    ))
    (cases_eq i 0)

direct-permutation : (line : List ℕ) (k n : ℕ) → IsPermutation line (suc k) → k ≤ n →
    IsPermutation (direct_numbers line n) n
direct-permutation line k n h le =
    let long = permutation-length line (suc k) h in
    let e : length line - 1 ≡ k = omega arith in
    subst (λ z. IsPermutation (inner_line line ++ numbers_from z (n - z)) n) (sym e) (record {
      apart = apart-append (inner_line line) (numbers_from k (n - k)) (inner-apart line h.apart) (numbers-apart k
          (n - k))
          (λ y i j. let lt = h.within (suc y) (inner-in line y i) in let b = (numbers-from k (n - k) y j).0 in
          absurd (omega arith));
      within = λ y i. ⊎_elim
          (λ j. let lt = h.within (suc y) (inner-in line y j) in omega arith)
          (λ j. let b = (numbers-from k (n - k) y j).1 in omega arith)
          (in-either y (inner_line line) _ i);
      full = λ y lt. ⊎_elim
          (λ b. in-left y (inner_line line) _ (in-inner line y (h.full (suc y) (omega arith))))
          (λ b. in-right y (inner_line line) _ (in-numbers k (n - k) y b (omega arith)))
          (below_or_not y k);
    })
  where
    below_or_not : (a b : ℕ) → a < b ⊎ (b ≤ a)
    below_or_not a zero = inr (omega arith)
    below_or_not zero (suc b) = inl (omega arith)
    below_or_not (suc a) (suc b) = ⊎_elim (λ h. inl (omega arith)) (λ h. inr (omega arith)) (below_or_not a b)

-- a direct call has as many operands as parameters of its own, and more
added-count : (k : ℕ) (es : Trees) (xs : List ℕ) → AreAdded k es xs → k ≤ count es
added-count zero es xs h = omega arith
added-count (suc k) none xs h = absurd h
added-count (suc k) (more e es) xs h = let le = added-count k es xs h in omega arith

line-written : (o : Option (List ℕ)) (n : ℕ) → ((line : List ℕ) → o ≡ Some line → IsPermutation line n) →
    IsPermutation (line_or_written o n) n
line-written None n h = written-permutation n
line-written (Some line) n h = h line refl

line-there : (o : Option (List ℕ)) (n : ℕ) → HasPermutation o n → IsPermutation (line_or_written o n) n
line-there None n h = absurd h
line-there (Some line) n h = h

direct-there : (o : Option (List ℕ)) (k n : ℕ) → HasPermutation o (suc k) → k ≤ n → IsPermutation (direct_line o n) n
direct-there None k n h le = absurd h
direct-there (Some line) k n h le = direct-permutation line k n h le

pub node-permutation : (p : ProgramTree) (order : List Line) (u : Place) (s : ℕ) (f : Form) → by_operands f ≡ true →
    HasLine order p.set p.lambdas (Node u s f) →
    ((l : ℕ) (es : Trees) → f ≡ Direct l es → (m : LambdaTree) × IsLambda p l m × AreAdded (length m.formals) es
    (added_to p.set l)) →
    IsPermutation (numbers (line_of order s) f) (count (operands f))
node-permutation p order u s (NewCell e) o h d = written-permutation 1
node-permutation p order u s (CellGet e) o h d = written-permutation 1
node-permutation p order u s (CellSet c e) o h d = written-permutation 2
node-permutation p order u s (Let xs es e) o h d = line-written (line_of order s) (count es) h
node-permutation p order u s (Call f es) o h d = line-there (line_of order s) (count (more f es)) (h refl)
node-permutation p order u s (Direct l es) o h d =
    let m = d l es refl in
    direct-there (line_of order s) (length (m.0).formals) (count es) (h m.0 m.1) (added-count _ es _ m.2)
node-permutation p order u s (PrimUse q es) o h d = line-there (line_of order s) (count es) (h refl)
node-permutation p order u s (Apply f l) o h d = line-there (line_of order s) 2 (h refl)
node-permutation p order u s _ o h d = cc
