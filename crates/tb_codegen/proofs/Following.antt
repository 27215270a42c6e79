-- The code of a program that keeps its rules, and fits, follows the notes of its items.
use Rattle.std.proofs.Common.{◌≡◌, ℕ, suc, List, [], ◌∷◌, ◌++◌, length, map, Some, refl, sym, ap, ◌∙◌, subst, inl, inr}
use Rattle.tb_semantics.specs.Graph.{IsIn}
use Rattle.tb_ir.specs.AnfMachine.{proc_of}
use Rattle.tb_ir.specs.AnfTree.{AnfTree, ProcTree}
use Rattle.tb_ir.specs.AnfRules.{KeepsRules, lambdas_of}
use Rattle.tb_mac.specs.Assemble.{number_of, with_entry}
use Rattle.tb_mac.specs.LiveWords.{is_lifted}
use Rattle.tb_codegen.specs.Fits.{Fits}
use Rattle.tb_codegen.specs.Generate.{noted_items}
use Rattle.tb_codegen.specs.Notes.{ToTop, AtValue, Away, Inside}
use Rattle.tb_codegen.specs.PlainCode.{code_of, entries}
use Rattle.tb_codegen.proofs.Assembling.{code-follows, items_of, notes_of}
use Rattle.tb_codegen.proofs.Labels.{labels-apart}
use Rattle.tb_codegen.proofs.Namings.{proc-found}
use Rattle.tb_codegen.proofs.Ok.{Follows}
use Rattle.tb_codegen.proofs.Procs.{kept-in, lambda-at, lambda-kept}
use Rattle.tb_codegen.proofs.Programs.{program-ok}
use Rattle.tb_codegen.proofs.WholeChains.{program-chain}

some-same : {X : Type 0} {x y : X} → Some x ≡ Some y → x ≡ y
some-same e = cc

-- where an element stands in a list
record Split (qs : List ProcTree) (q : ProcTree) : Type 0 where
  front : List ProcTree
  rest : List ProcTree
  same : qs ≡ front ++ q ∷ rest

split-at : (qs : List ProcTree) (q : ProcTree) → IsIn q qs → Split qs q
split-at [] q i = absurd i
split-at (r ∷ qs) q (inl e) = record { front = []; rest = qs; same = ap (λ s. s ∷ qs) e }
split-at (r ∷ qs) q (inr i) =
    let s = split-at qs q i in record { front = r ∷ s.front; rest = s.rest; same = ap (λ rs. r ∷ rs) s.same }

entry-at : (to : ℕ → ℕ) (n : ℕ) (front rest : List ProcTree) (q : ProcTree) →
    is_lifted (map (with_entry to) (entries n (front ++ q ∷ rest))) (length front) ≡ q.lifted
entry-at to n [] rest q = refl
entry-at to n (r ∷ front) rest q = entry-at to (suc n) front rest q

lifted-as : (p : AnfTree) → KeepsRules p → (to : ℕ → ℕ) (m : ℕ) (q : ProcTree) → proc_of p.procs m ≡ Some q →
    is_lifted (map (with_entry to) (entries 0 (lambdas_of p))) m ≡ q.lifted
lifted-as p rules to m q e =
    let f = proc-found p p.procs m q e in
    let s = split-at (lambdas_of p) q (kept-in _ p.procs q f.0 (lambda-kept q m f.1)) in
    let at : length s.front ≡ m = some-same (sym (lambda-at p rules s.front s.rest q s.same).1 ∙ f.1) in
    subst (λ k. is_lifted (map (with_entry to) (entries 0 (lambdas_of p))) k ≡ q.lifted) at
    (ap (λ qs. is_lifted (map (with_entry to) (entries 0 qs)) (length s.front)) s.same ∙ entry-at to 0 s.front s.rest q)

pub follows : (p : AnfTree) → KeepsRules p → Fits p →
    Follows p (notes_of (number_of (items_of (noted_items p))) (noted_items p)) (code_of p)
follows p rules fits =
    code-follows p (labels-apart p) (Some (Inside (AtValue (ToTop 0)) Away [])) (program-chain p (program-ok p rules fits))
    (lifted-as p rules (number_of (items_of (noted_items p))))
