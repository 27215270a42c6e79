-- The procs of a program by their numbers: those of forms stand first, and then those of lambdas.
use Rattle.std.proofs.lemmas.Bool.{cases_eq}
use Rattle.std.proofs.Common.{◌==◌, ◌≡◌, true≢false, ℕ, suc, ◌<◌, ◌≤◌, ◌+◌, Bool, true, false, cond, not, filter, List, [], ◌∷◌, ◌++◌, length, Option, Some, None, slice_get, refl, sym, ap, ◌∙◌, subst, inl, inr, ⊎_elim, append_assoc, zero-add, eq-eqb, eqb-true, arith}
use Rattle.tb_semantics.specs.Graph.{IsApart, IsIn}
use Rattle.tb_semantics.proofs.ListLemmas.{in-left, in-right}
use Rattle.tb_ir.specs.AnfTree.{Block, ProcTree, AnfTree}
use Rattle.tb_ir.specs.AnfMachine.{InBlock, form_of, is_number, proc_of}
use Rattle.tb_ir.specs.AnfRules.{KeepsRules, Numbered, all_blocks, blocks, blocks_of, forms_of, is_form, lambdas_of, lifted_lambda, of_each, standing_at}
use Rattle.tb_codegen.proofs.Namings.{in-each, proc-found}

none-some : {X : Type 0} {x : X} → None ≡ Some x → ⊥
none-some e = cc

some-same : {X : Type 0} {x y : X} → Some x ≡ Some y → x ≡ y
some-same e = cc

-- elements that pass a test
pub kept-in : (test : ProcTree → Bool) (qs : List ProcTree) (q : ProcTree) → IsIn q qs → test q ≡ true → IsIn q (filter test qs)
kept-in test [] q i e = absurd i
kept-in test (r ∷ qs) q (inl f) e =
    subst (λ b. IsIn q (cond b (r ∷ filter test qs) (filter test qs))) (sym (ap test f ∙ e)) (inl f)
kept-in test (r ∷ qs) q (inr i) e = by (test r) (kept-in test qs q i e)
  where
    by : (b : Bool) → IsIn q (filter test qs) → IsIn q (cond b (r ∷ filter test qs) (filter test qs))
    by true j = inr j
    by false j = j

pub passes : (test : ProcTree → Bool) (qs : List ProcTree) (q : ProcTree) → IsIn q (filter test qs) → test q ≡ true
passes test [] q i = absurd i
passes test (r ∷ qs) q i = by (test r) refl i (passes test qs q)
  where
    by : (b : Bool) → test r ≡ b → IsIn q (cond b (r ∷ filter test qs) (filter test qs)) → (IsIn q (filter test qs) → test q ≡ true) → test q ≡ true
    by true e (inl f) so = ap test (sym f) ∙ e
    by true e (inr j) so = so j
    by false e j so = so j

-- a proc is that of a form, or of a lambda
pub form-none : (q : ProcTree) → is_form q ≡ true → q.lambda ≡ None
form-none q e = by q.lambda refl
  where
    by : (o : Option ℕ) → q.lambda ≡ o → q.lambda ≡ None
    by None f = f
    by (Some m) f = absurd (true≢false (sym e ∙ ap (λ (o2 : Option ℕ). is_form (record q { lambda = o2 })) f))

pub lambda-kept : (q : ProcTree) (m : ℕ) → q.lambda ≡ Some m → not (is_form q) ≡ true
lambda-kept q m e = ap (λ (o : Option ℕ). not (is_form (record q { lambda = o }))) e

pub numbered-found : (qs : List ProcTree) (first l : ℕ) → Numbered first qs → first ≤ l → l < first + length qs →
    (q : ProcTree) × (proc_of qs l ≡ Some q)
numbered-found [] first l h a b = absurd (omega (arith, a, b))
numbered-found (q ∷ qs) first l h a b = by (first == l) refl (λ above. numbered-found qs (suc first) l h.1 above (omega (arith, b)))
  where
    number : (c : Bool) → (first == l) ≡ c → proc_of (q ∷ qs) l ≡ cond c (Some q) (proc_of qs l)
    number c e = ap (λ (o : Option ℕ). cond (is_number o l) (Some q) (proc_of qs l)) h.0 ∙ ap (λ d. cond d (Some q) (proc_of qs l)) e

    by : (c : Bool) → (first == l) ≡ c → (suc first ≤ l → (r : ProcTree) × (proc_of qs l ≡ Some r)) → (r : ProcTree) × (proc_of (q ∷ qs) l ≡ Some r)
    by true e so = (q, number true e)
    by false e so =
        let ne : first ≡ l → ⊥ = λ f. true≢false (sym (eq-eqb first l f) ∙ e) in
        let g = so (⊎_elim (λ f. absurd (ne f)) (λ n. omega (arith, n, a)) (cases_eq first l)) in
        (g.0, number false e ∙ g.1)

-- the proc of a lambda among those that are numbered from one on
pub numbered-at : (front rest : List ProcTree) (q : ProcTree) (first : ℕ) → Numbered first (front ++ q ∷ rest) →
    (proc_of (front ++ q ∷ rest) (first + length front) ≡ Some q) × (q.lambda ≡ Some (first + length front))
numbered-at [] rest q first h = (
  ap (λ (o : Option ℕ). cond (is_number o (first + 0)) (Some q) (proc_of rest (first + 0))) h.0
      ∙ ap (λ c. cond c (Some q) (proc_of rest (first + 0))) (eq-eqb first (first + 0) (omega arith)),
  h.0 ∙ ap Some (omega arith),
)
numbered-at (r ∷ front) rest q first h =
    let g = numbered-at front rest q (suc first) h.1 in
    let same : suc first + length front ≡ first + suc (length front) = omega arith in (
      ap (λ (o : Option ℕ). cond (is_number o (first + suc (length front))) (Some r) (proc_of (front ++ q ∷ rest) (first + suc (length front)))) h.0
          ∙ by (first == first + suc (length front)) refl (ap (proc_of (front ++ q ∷ rest)) (sym same) ∙ g.0),
      g.1 ∙ ap Some same,
    )
  where
    by : (c : Bool) → (first == first + suc (length front)) ≡ c → proc_of (front ++ q ∷ rest) (first + suc (length front)) ≡ Some q →
        cond c (Some r) (proc_of (front ++ q ∷ rest) (first + suc (length front))) ≡ Some q
    by true e f = let z = eqb-true first (first + suc (length front)) e in absurd (omega (arith, z))
    by false e f = f

-- those of forms are passed over
pub forms-passed : (fs qs : List ProcTree) (l : ℕ) → ((q : ProcTree) → IsIn q fs → is_form q ≡ true) → proc_of (fs ++ qs) l ≡ proc_of qs l
forms-passed [] qs l h = refl
forms-passed (f ∷ fs) qs l h =
    ap (λ (o : Option ℕ). cond (is_number o l) (Some f) (proc_of (fs ++ qs) l)) (form-none f (h f (inl refl)))
    ∙ forms-passed fs qs l (λ q i. h q (inr i))

pub get-at : {X : Type 0} (front rest : List X) (x : X) → slice_get (front ++ x ∷ rest) (length front) ≡ Some x
get-at [] rest x = refl
get-at (y ∷ front) rest x = get-at front rest x

pub get-past : {X : Type 0} (xs ys : List X) → slice_get (xs ++ ys) (length xs) ≡ slice_get ys 0
get-past [] ys = refl
get-past (x ∷ xs) ys = get-past xs ys

-- where a number stands apart from others
pub apart-both : (xs ys : List ℕ) (l : ℕ) → IsApart (xs ++ ys) → IsIn l ys → IsIn l xs → ⊥
apart-both [] ys l h i j = j
apart-both (x ∷ xs) ys l h i (inl e) = h.0 (in-right xs ys x (subst (λ k. IsIn k ys) (sym e) i))
apart-both (x ∷ xs) ys l h i (inr j) = apart-both xs ys l h.1 i j

pub in-blocks-of : (qs : List ProcTree) (q : ProcTree) (b : Block) → IsIn q qs → IsIn b (blocks q.body) → IsIn b (blocks_of qs)
in-blocks-of [] q b i j = absurd i
in-blocks-of (r ∷ qs) q b (inl e) j =
    in-left (blocks r.body) (blocks_of qs) b (subst (λ (s : ProcTree). IsIn b (blocks s.body)) (sym e) j)
in-blocks-of (r ∷ qs) q b (inr i) j = in-right (blocks r.body) (blocks_of qs) b (in-blocks-of qs q b i j)

module _ (p : AnfTree) (rules : KeepsRules p) where
  forms-are : (q : ProcTree) → IsIn q (forms_of p) → is_form q ≡ true
  forms-are q i = passes is_form p.procs q i

  pub form-in : (q : ProcTree) → IsIn q (forms_of p) → IsIn q p.procs
  form-in q i = subst (IsIn q) (sym rules.forms_first) (in-left (forms_of p) (lambdas_of p) q i)

  pub lambda-in : (q : ProcTree) → IsIn q (lambdas_of p) → IsIn q p.procs
  lambda-in q i = subst (IsIn q) (sym rules.forms_first) (in-right (forms_of p) (lambdas_of p) q i)

  proc-among : (l : ℕ) → proc_of p.procs l ≡ proc_of (lambdas_of p) l
  proc-among l = ap (λ qs. proc_of qs l) rules.forms_first ∙ forms-passed (forms_of p) (lambdas_of p) l forms-are

  -- each number of a lambda has a proc
  pub lambda-found : (l : ℕ) → l < length (lambdas_of p) → (q : ProcTree) × (proc_of p.procs l ≡ Some q)
  lambda-found l lt =
      let g = numbered-found (lambdas_of p) 0 l rules.numbered (omega arith) (omega (arith, lt)) in
      (g.0, proc-among l ∙ g.1)

  pub lambda-at : (front rest : List ProcTree) (q : ProcTree) → lambdas_of p ≡ front ++ q ∷ rest →
      (proc_of p.procs (length front) ≡ Some q) × (q.lambda ≡ Some (length front))
  lambda-at front rest q e =
      let g = numbered-at front rest q 0 (subst (Numbered 0) e rules.numbered) in
      let same : 0 + length front ≡ length front = zero-add (length front) in
      (proc-among (length front) ∙ ap (λ qs. proc_of qs (length front)) e ∙ ap (proc_of (front ++ q ∷ rest)) (sym same) ∙ g.0, g.1 ∙ ap Some same)

  pub form-at : (front rest : List ProcTree) (q : ProcTree) → forms_of p ≡ front ++ q ∷ rest →
      form_of (slice_get p.procs (length front)) ≡ Some (InBlock q.body)
  form-at front rest q e =
      let i : IsIn q (forms_of p) = subst (IsIn q) (sym e) (in-right front (q ∷ rest) q (inl refl)) in
      let none = form-none q (forms-are q i) in
      ap (λ qs. form_of (slice_get qs (length front))) (rules.forms_first ∙ ap (λ fs. fs ++ lambdas_of p) e ∙ append_assoc front (q ∷ rest) (lambdas_of p))
      ∙ ap form_of (get-at front (rest ++ lambdas_of p) q)
      ∙ ap (λ (o : Option ℕ). form_of (Some (record q { lambda = o }))) none

  pub forms-end : form_of (slice_get p.procs (length (forms_of p))) ≡ None
  forms-end =
      ap (λ qs. form_of (slice_get qs (length (forms_of p)))) rules.forms_first
      ∙ ap form_of (get-past (forms_of p) (lambdas_of p)) ∙ first (lambdas_of p) rules.numbered
    where
      first : (qs : List ProcTree) → Numbered 0 qs → form_of (slice_get qs 0) ≡ None
      first [] h = refl
      first (q ∷ qs) h = ap (λ (o : Option ℕ). form_of (Some (record q { lambda = o }))) h.0

  -- a lambda that stands at a block is not lifted
  pub standing-kept : (l : ℕ) (q : ProcTree) → IsIn l (of_each standing_at (all_blocks p)) → proc_of p.procs l ≡ Some q → q.lifted ≡ false
  standing-kept l q i e = by q.lifted refl
    where
      lifted-in : q.lifted ≡ true → IsIn l (of_each lifted_lambda p.procs)
      lifted-in f =
          let g = proc-found p p.procs l q e in
          in-each lifted_lambda p.procs q l g.0
          (subst (IsIn l) (sym (ap (λ c. cond c (lifted_lambda (record q { lifted = true })) []) f
          ∙ ap (λ (o : Option ℕ). lifted_lambda (record q { lifted = true; lambda = o })) g.1)) (inl refl))

      by : (c : Bool) → q.lifted ≡ c → q.lifted ≡ false
      by false f = f
      by true f = absurd (apart-both (of_each standing_at (all_blocks p)) (of_each lifted_lambda p.procs) l rules.lambdas_at_most_once (lifted-in f) i)
