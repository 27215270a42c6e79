-- The code of a program has at most eight times as many instructions as the squares of its widths come to, and eight.
use Rattle.std.proofs.Common.{◌≡◌, ℕ, zero, suc, ◌≤◌, ◌+◌, ◌*◌, Bool, true, false, true≢false, cond, List, [], ◌∷◌, ◌++◌, length, length-append, map, Option, Some, None, refl, sym, ap, ◌∙◌, inl, inr, arith}
use Rattle.std.proofs.lemmas.List.{length-map}
use Rattle.tb_semantics.specs.Graph.{IsIn, below}
use Rattle.tb_semantics.proofs.Reachable.{apart_below, in_below}
use Rattle.tb_core.specs.Width.{squares}
use Rattle.tb_core.proofs.Members.{in-tested, no-longer}
use Rattle.tb_ir.specs.AnfTree.{ProcTree, AnfTree}
use Rattle.tb_ir.specs.AnfRules.{KeepsRules, blocks, blocks_of, all_blocks, forms_of, is_form, lambdas_of, lifted_lambda, of_each, standing, standing_at}
use Rattle.tb_ir.specs.AnfWidth.{proc_width, square_sum}
use Rattle.tb_mac.specs.Assemble.{instructions, number_of, with_target}
use Rattle.tb_codegen.specs.Fits.{Fits}
use Rattle.tb_codegen.specs.Generate.{block_point, body_of, code_block, code_form, code_forms, code_lambda, code_lambdas, counting, entry, frame_made, labels_in, labels_within, noted_items, operands_map, stores_captured, stores_operands}
use Rattle.tb_codegen.specs.Notes.{AtValue, Away, Inside, AtProc, AtArgs, AtLifted, Does, ToCaller, ToTop}
use Rattle.tb_codegen.specs.PlainCode.{code_of}
use Rattle.tb_mac.specs.declared.code.Instr.TheVariants as I
use Rattle.tb_codegen.proofs.Assembling.{count, items_of}
use Rattle.tb_codegen.proofs.Counts.{count-append, count-length, stood, stores-captured-count, stores-operands-count}
use Rattle.tb_codegen.proofs.Lengths.{body-count}
use Rattle.tb_codegen.proofs.Namings.{each-append}
use Rattle.tb_codegen.proofs.Ok.{free}
use Rattle.tb_codegen.proofs.Procs.{form-in, lambda-in, passes}
use Rattle.tb_codegen.proofs.Programs.{keeps}

-- the lambda expressions that stand in procs, and how many of these have a procedure of their own, and have none
abbrev stood_in : List ProcTree → ℕ
stood_in [] = 0
stood_in (q ∷ qs) = length (stood (blocks q.body)) + stood_in qs

abbrev kept_in : List ProcTree → ℕ
kept_in [] = 0
kept_in (q ∷ qs) = cond q.lifted 0 1 + kept_in qs

abbrev lifted_in : List ProcTree → ℕ
lifted_in [] = 0
lifted_in (q ∷ qs) = cond q.lifted 1 0 + lifted_in qs

either-count : (qs : List ProcTree) → kept_in qs + lifted_in qs ≡ length qs
either-count [] = refl
either-count (q ∷ qs) = let h = either-count qs in let g = by q.lifted in omega (arith, h, g)
  where
    by : (b : Bool) → cond b 0 1 + cond b 1 0 ≡ 1
    by true = refl
    by false = refl

stood-all : (qs : List ProcTree) → length (stood (blocks_of qs)) ≡ stood_in qs
stood-all [] = refl
stood-all (q ∷ qs) =
    let h = stood-all qs in
    let e = ap length (each-append standing_at (blocks q.body) (blocks_of qs)) in
    let a = length-append (stood (blocks q.body)) (stood (blocks_of qs)) in
    omega (arith, h, e, a)

stood-append : (xs ys : List ProcTree) → stood_in (xs ++ ys) ≡ stood_in xs + stood_in ys
stood-append [] ys = omega arith
stood-append (q ∷ xs) ys = let h = stood-append xs ys in omega (arith, h)

squares-append : (xs ys : List ProcTree) → squares (map proc_width (xs ++ ys)) ≡ squares (map proc_width xs) + squares (map proc_width ys)
squares-append [] ys = omega arith
squares-append (q ∷ xs) ys = let h = squares-append xs ys in omega (arith, h)

-- a form is not lifted, and a lambda expression is so at most once
lifted-forms : (qs : List ProcTree) → ((q : ProcTree) → IsIn q qs → q.lifted ≡ false) → length (of_each lifted_lambda qs) ≡ 0
lifted-forms [] h = refl
lifted-forms (q ∷ qs) h =
    let a = length-append (lifted_lambda q) (of_each lifted_lambda qs) in
    let b = one q (h q (inl refl)) in
    let more = lifted-forms qs (λ r i. h r (inr i)) in
    omega (arith, a, b, more)
  where
    one : (r : ProcTree) → r.lifted ≡ false → length (lifted_lambda r) ≡ 0
    one r e = rw e refl

lifted-lambdas : (qs : List ProcTree) → length (of_each lifted_lambda qs) ≤ lifted_in qs
lifted-lambdas [] = omega arith
lifted-lambdas (q ∷ qs) =
    let a = length-append (lifted_lambda q) (of_each lifted_lambda qs) in
    let b = one q in
    let more = lifted-lambdas qs in
    omega (arith, a, b, more)
  where
    number : (o : Option ℕ) (r : ProcTree) → r.lambda ≡ o → (b : Bool) → r.lifted ≡ b → length (lifted_lambda r) ≤ cond b 1 0
    number None r e true f = rw (f, e) (omega arith)
    number (Some n) r e true f = rw (f, e) (omega arith)
    number o r e false f = rw f (omega arith)

    one : (r : ProcTree) → length (lifted_lambda r) ≤ cond r.lifted 1 0
    one r = number r.lambda r refl r.lifted refl

below-length : (n : ℕ) → length (below n) ≡ n
below-length zero = refl
below-length (suc n) = ap suc (below-length n)

module _ (p : AnfTree) (rules : KeepsRules p) (fits : Fits p) where
  not-lifted : (q : ProcTree) → IsIn q (forms_of p) → q.lifted ≡ false
  not-lifted q i = by q.lifted refl
    where
      by : (b : Bool) → q.lifted ≡ b → b ≡ false
      by false e = refl
      by true e =
          absurd (true≢false (sym (passes is_form p.procs q i) ∙ ((keeps p rules fits q (form-in p rules q i)).lifted_alone e).2))

  -- each lambda expression with a procedure of its own stands at a block
  kept-stand : kept_in (lambdas_of p) ≤ stood_in (forms_of p) + stood_in (lambdas_of p)
  kept-stand =
      let n = length (lambdas_of p) in
      let h = no-longer (below n) (standing p) (apart_below n) (λ l i. in-tested (standing p) l (rules.lambdas_at_least_once l (in_below n l i))) in
      let a = length-append (of_each standing_at (all_blocks p)) (of_each lifted_lambda p.procs) in
      let b = stood-all p.procs in
      let d : stood_in p.procs ≡ stood_in (forms_of p ++ lambdas_of p) = ap stood_in rules.forms_first in
      let e = stood-append (forms_of p) (lambdas_of p) in
      let f : length (of_each lifted_lambda p.procs) ≡ length (of_each lifted_lambda (forms_of p ++ lambdas_of p)) = ap (λ qs. length (of_each lifted_lambda qs)) rules.forms_first in
      let g = ap length (each-append lifted_lambda (forms_of p) (lambdas_of p)) in
      let j = length-append (of_each lifted_lambda (forms_of p)) (of_each lifted_lambda (lambdas_of p)) in
      let k = lifted-forms (forms_of p) not-lifted in
      let m = lifted-lambdas (lambdas_of p) in
      let o = either-count (lambdas_of p) in
      let z = below-length n in
      omega (arith, h, a, b, d, e, f, g, j, k, m, o, z)

  forms-count : (k : ℕ) (qs : List ProcTree) (l : ℕ) → ((q : ProcTree) → IsIn q qs → IsIn q p.procs) →
      count (code_forms p k qs l) + stood_in qs ≤ 8 * squares (map proc_width qs)
  forms-count k [] l sub = omega arith
  forms-count k (q ∷ qs) l sub =
      let a = count-append (code_form p k q l) (code_forms p (suc k) qs (l + labels_in q.body)) in
      let h = body-count p rules fits q (sub q (inl refl)) (ToTop (suc k)) l in
      let more = forms-count (suc k) qs (l + labels_in q.body) (λ r i. sub r (inr i)) in
      omega (arith, a, h, more)

  entry-count : (n : ℕ) (q : ProcTree) → count (entry (body_of p q) n q) ≡ 1 + cond q.lifted 0 1
  entry-count n q = by q.lifted
    where
      by : (b : Bool) → count (cond b (Does (I.Proc n) (AtLifted n (operands_map (free p q.body) 1 q.params)) None ∷ [])
          (Does (I.Proc n) (AtProc n) None ∷ Does (counting q.rest q.params) (AtArgs n) (Some q.place) ∷ [])) ≡ 1 + cond b 0 1
      by true = refl
      by false = refl

  lambda-count : (n : ℕ) (q : ProcTree) (l : ℕ) → IsIn q p.procs →
      count (code_lambda p n q l) + length (stood (blocks q.body)) ≤ 8 * (proc_width q * proc_width q) + cond q.lifted 0 1
  lambda-count n q l i =
      let c = body_of p q in
      let block = code_block c q.body ToCaller l in
      let h = body-count p rules fits q i ToCaller l in
      let e = entry-count n q in
      let a = count-append (entry c n q) (frame_made c n q.body q.params q.captured ++ block) in
      let b = count-append (frame_made c n q.body q.params q.captured) block in
      let f = frame-count in
      omega (arith, h, e, a, b, f)
    where
      frame-count : count (frame_made (body_of p q) n q.body q.params q.captured) ≤ 1 + 2 * length q.captured + length q.params
      frame-count =
          let d = count-append (stores_captured (body_of p q) n (block_point q.body ToCaller) (operands_map (free p q.body) 1 q.params) 0 q.captured []) (stores_operands (body_of p q) (block_point q.body ToCaller) (free p q.body) 1 q.params q.captured) in
          let s = stores-captured-count (body_of p q) n (block_point q.body ToCaller) (operands_map (free p q.body) 1 q.params) 0 q.captured [] in
          let t = stores-operands-count (body_of p q) (block_point q.body ToCaller) (free p q.body) 1 q.params q.captured in
          omega (arith, d, s, t)

  lambdas-count : (n : ℕ) (qs : List ProcTree) (l : ℕ) → ((q : ProcTree) → IsIn q qs → IsIn q p.procs) →
      count (code_lambdas p n qs l) + stood_in qs ≤ 8 * squares (map proc_width qs) + kept_in qs
  lambdas-count n [] l sub = omega arith
  lambdas-count n (q ∷ qs) l sub =
      let a = count-append (code_lambda p n q l) (code_lambdas p (suc n) qs (l + labels_in q.body)) in
      let h = lambda-count n q l (sub q (inl refl)) in
      let more = lambdas-count (suc n) qs (l + labels_in q.body) (λ r i. sub r (inr i)) in
      omega (arith, a, h, more)

  pub code-short : length (code_of p).code ≤ 8 * square_sum p + 8
  code-short =
      let l = length (lambdas_of p) in
      let m = length-map (instructions (items_of (noted_items p))) (with_target (number_of (items_of (noted_items p)))) in
      let c = count-length (noted_items p) in
      let f = forms-count 0 (forms_of p) l (form-in p rules) in
      let g = lambdas-count 0 (lambdas_of p) (l + labels_within (forms_of p)) (lambda-in p rules) in
      let a = count-append (code_forms p 0 (forms_of p) l)
      (Does I.End (Inside (AtValue (ToTop (length (forms_of p)))) Away []) None ∷ code_lambdas p 0 (lambdas_of p) (l + labels_within (forms_of p))) in
      let s = ap (λ qs. squares (map proc_width qs)) rules.forms_first in
      let t = squares-append (forms_of p) (lambdas_of p) in
      let k = kept-stand in
      omega (arith, m, c, f, g, a, s, t, k)
