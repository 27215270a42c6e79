-- Each lambda expression stands at exactly one block of a normal form, or is lifted.
use Rattle.std.proofs.Common.{◌≡◌, refl, ap, ◌∙◌, ℕ, suc, ◌+◌, ◌<◌, ◌≤◌, ⊎_elim, arith, Bool, true, false, cond, ◌==◌, List, [], ◌∷◌, ◌++◌, length, map, Option, eqb-true}
use Rattle.std.proofs.lemmas.Bool.{cases_Bool, cases_lt, eqb-false}
use Rattle.tb_semantics.specs.Graph.{IsApart}
use Rattle.tb_core.specs.FreeVariables.{is_in}
use Rattle.tb_core.specs.Lifting.{Lifted}
use Rattle.tb_core.specs.OperandOrder.{Line}
use Rattle.tb_core.specs.Rules.{Every}
use Rattle.tb_core.proofs.Members.{in-tested, tested-in}
use Rattle.tb_ir.specs.AnfRules as N
use Rattle.tb_ir.specs.AnfRules.{all_blocks, of_each, lifted_lambda, standing_at, lambdas_of}
use Rattle.tb_ir.specs.AnfTree.{ProcTree}
use Rattle.tb_ir.specs.Rules as K
use Rattle.tb_ir.specs.Rules.{all_nodes, of_nodes, times}
use Rattle.tb_ir.specs.Tree.{Node, Trees, none, more, LambdaTree, ProgramTree}
use Rattle.tb_ir.specs.TreeMachine.{context_of, line_of}
use Rattle.tb_anf.specs.NormalForm.{size, size_all, form_procs, is_lifted, lambda_procs, normal_form}
use Rattle.tb_anf.proofs.Names.{Any, ProperNode}
use Rattle.tb_anf.proofs.rules.Counts.{one_if, in-times, times-in, apart-times, times-apart}
use Rattle.tb_anf.proofs.rules.Lists.{lambdas-count}
use Rattle.tb_anf.proofs.rules.Same.{times-append, standing-same}

abbrev gated : Bool → ℕ → ℕ
gated b n = cond b n 0

module _ (p : ProgramTree) (line : ℕ → Option (List ℕ)) where
  abbrev lifted : List ProcTree → List ℕ
  lifted qs = of_each lifted_lambda qs

  one_lifted : (z l : ℕ) (b : Bool) → times z (cond b (l ∷ []) []) ≡ gated b (one_if (l == z))
  one_lifted z l true = omega arith
  one_lifted z l false = refl

  forms_lifted : (z n : ℕ) (es : Trees) (qs : List ProcTree) → times z (lifted (form_procs line n es ++ qs)) ≡ times z (lifted qs)
  forms_lifted z n none qs = refl
  forms_lifted z n (more (Node q s f) es) qs = forms_lifted z (n + size (Node q s f)) es qs

  lambdas_lifted : (z l n : ℕ) (ms : List LambdaTree) →
      (times z (lifted (lambda_procs p line l n ms)) ≤ one_if (is_lifted p z))
      × (z < l → times z (lifted (lambda_procs p line l n ms)) ≡ 0)
      × (l ≤ z → z < l + length ms → times z (lifted (lambda_procs p line l n ms)) ≡ one_if (is_lifted p z))
  lambdas_lifted z l n [] = (omega arith, λ lt. refl, λ le lt. absurd (omega arith))
  lambdas_lifted z l n (m ∷ ms) =
      let r = lambdas_lifted z (suc l) (n + size m.body) ms in
      let o = one_lifted z l (is_lifted p l) in
      let a = times-append z (cond (is_lifted p l) (l ∷ []) []) (lifted (lambda_procs p line (suc l) (n + size m.body) ms)) in
      ⊎_elim
      (λ t. let e = eqb-true l z t in let i = r.1 (omega arith) in
      let w : gated (is_lifted p l) (one_if (l == z)) ≡ one_if (is_lifted p z) =
      ap (λ b. gated (is_lifted p l) (one_if b)) t ∙ of_one (is_lifted p l) ∙ ap (λ k. one_if (is_lifted p k)) e in
      (omega arith, λ lt. absurd (omega arith), λ le lt. omega arith))
      (λ f. let ne = eqb-false l z f in
      let w : gated (is_lifted p l) (one_if (l == z)) ≡ 0 = ap (λ b. gated (is_lifted p l) (one_if b)) f ∙ none_there (is_lifted p l) in
      let u = r.0 in
      (omega arith, λ lt. let i = r.1 (omega arith) in omega arith, λ le lt. let i = r.2 (past l z le ne) (omega arith) in omega arith))
      (cases_Bool (l == z))
    where
      of_one : (b : Bool) → gated b 1 ≡ one_if b
      of_one true = refl
      of_one false = refl

      none_there : (b : Bool) → gated b 0 ≡ 0
      none_there true = refl
      none_there false = refl

      past : (l z : ℕ) → l ≤ z → (l ≡ z → ⊥) → suc l ≤ z
      past l z le ne = omega arith

module _ (p : ProgramTree) (order : List Line) (proper : Every (ProperNode (context_of p order) Any) (all_nodes p)) where
  abbrev set : List ℕ
  set = map (λ (m : Lifted). m.lambda) p.set

  own_lifted : (z : ℕ) → times z (of_each lifted_lambda (normal_form p order).procs)
      ≡ times z (lifted p (line_of order) (lambda_procs p (line_of order) 0 (size_all p.forms) p.lambdas))
  own_lifted z = forms_lifted p (line_of order) z 0 p.forms (lambda_procs p (line_of order) 0 (size_all p.forms) p.lambdas)

  blocks_count : (z : ℕ) → times z (N.standing (normal_form p order))
      ≡ times z (of_nodes K.standing_at (all_nodes p)) + times z (of_each lifted_lambda (normal_form p order).procs)
  blocks_count z =
      let a = times-append z (of_each standing_at (all_blocks (normal_form p order))) (of_each lifted_lambda (normal_form p order).procs) in
      let b = standing-same z p order proper in omega arith

  set_count : (z : ℕ) → one_if (is_lifted p z) ≤ times z set
  set_count z = by_test (is_in set z) refl
    where
      by_test : (b : Bool) → is_in set z ≡ b → one_if b ≤ times z set
      by_test true e = in-times z set (in-tested set z e)
      by_test false e = omega arith

  pub at-most-once : IsApart (K.standing p) → IsApart (N.standing (normal_form p order))
  at-most-once h = times-apart (N.standing (normal_form p order)) (λ z.
      let a = blocks_count z in let b = own_lifted z in
      let c = (lambdas_lifted p (line_of order) z 0 (size_all p.forms) p.lambdas).0 in
      let d = set_count z in let e = apart-times z (K.standing p) h in
      let f = times-append z (of_nodes K.standing_at (all_nodes p)) set in omega arith)

  pub at-least-once : ((l : ℕ) → l < length p.lambdas → is_in (K.standing p) l ≡ true) →
      (l : ℕ) → l < length (lambdas_of (normal_form p order)) → is_in (N.standing (normal_form p order)) l ≡ true
  at-least-once h l lt =
      let size = lambdas-count p order in
      let there = in-times l (K.standing p) (in-tested (K.standing p) l (h l (omega arith))) in
      let a = blocks_count l in let b = own_lifted l in
      let c = (lambdas_lifted p (line_of order) l 0 (size_all p.forms) p.lambdas).2 (omega arith) (omega arith) in
      let f = times-append l (of_nodes K.standing_at (all_nodes p)) set in
      tested-in (N.standing (normal_form p order)) l (times-in l (N.standing (normal_form p order))
      (⊎_elim (λ less. omega arith) (λ some. let g = in_set (is_in set l) refl some in omega arith) (cases_lt (times l set) 1)))
    where
      in_set : (b : Bool) → is_in set l ≡ b → (1 ≤ times l set → 1 ≤ one_if b)
      in_set true e i = omega arith
      in_set false e i = let q = tested-in set l (times-in l set i) in cc
