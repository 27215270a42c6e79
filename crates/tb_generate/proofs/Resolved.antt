-- The labels of a program: none stands twice, and each that is named stands somewhere.
use Rattle.std.proofs.Common.{◌≡◌, ℕ, suc, ◌+◌, List, [], ◌∷◌, ◌++◌, ◌⊎◌, length, Option, Some, None, refl, sym, ap, ◌∙◌, subst, inl, inr, ⊎_elim, append-nil}
use Rattle.tb_prim.specs.declared.constant.Const.{Const}
use Rattle.tb_prim.specs.declared.constant.Static.{Static}
use Rattle.tb_prim.specs.declared.place.Place.{Place}
use Rattle.tb_semantics.specs.Graph.{IsIn}
use Rattle.tb_semantics.proofs.ListLemmas.{in-cases, in-left, in-right}
use Rattle.tb_ir.specs.AnfTree.{Op, ProcTree, AnfTree}
use Rattle.tb_ir.specs.AnfRules.{KeepsRules, forms_of, lambdas_of}
use Rattle.tb_mac.specs.declared.code.Instr.{Instr}
use Rattle.tb_mac.specs.Assemble.{AreResolved, entry_labels, instructions, target, targets}
use Rattle.tb_codegen.specs.Fits.{Fits}
use Rattle.tb_codegen.specs.Generate.{code_forms, code_lambda, code_lambdas, labels_in, labels_within, noted_items}
use Rattle.tb_codegen.specs.Notes.{Note, Noted, Mark, Does}
use Rattle.tb_codegen.specs.Operations.{constant}
use Rattle.tb_codegen.specs.PlainCode.{entries, parts_of}
use Rattle.tb_codegen.proofs.Assembling.{items_of}
use Rattle.tb_codegen.proofs.Chains as chain
use Rattle.tb_codegen.proofs.Chains.{Target, Chain, c_end, c_does, c_mark, c_dead}
use Rattle.tb_codegen.proofs.Labels.{labels-apart, labels-marks, marks}
use Rattle.tb_codegen.proofs.Ok.{Acts, a_quote, a_global, a_use0, a_use1, a_use2, a_use3, a_cell, a_get, Writes, w_set, w_define, w_cell, Ok, ok_load, ok_store, ok_const, ok_save, ok_setrtn, ok_pop, ok_jump, ok_form, ok_end, ok_act, ok_read, ok_write, ok_unspecified, ok_given, ok_branch, ok_return, ok_invoke, ok_apply, ok_direct, ok_proc, ok_lifted, ok_args, ok_args_ge, ok_capt, ok_close, ok_open, ok_fill, ok_filled, ok_first, ok_next, ok_stored, ok_word}
use Rattle.tb_codegen.proofs.Programs.{program-ok}
use Rattle.tb_codegen.proofs.WholeChains.{program-chain}
use Rattle.tb_generate.proofs.Returned.{marks-left, marks-right, program-back, returned, returns}

-- instructions that name no label
constant-names : (statics : List Static) (a : ℕ) (k : Const) → target (constant statics a k) ≡ []
constant-names statics a (Const.Stat n) = refl
constant-names statics a (Const.Fix v) = refl
constant-names statics a (Const.Char v) = refl
constant-names statics a (Const.Bool b) = refl
constant-names statics a Const.Nil = refl
constant-names statics a Const.Unspecified = refl
constant-names statics a Const.Undefined = refl

acts-names : (p : AnfTree) (op : Op) (i : Instr) (rs : List ℕ) (d : ℕ) → Acts p op i rs d → target i ≡ []
acts-names p op i rs d (a_quote c j e f w) = ap target f ∙ constant-names p.statics d c
acts-names p op i rs d (a_global g q e lt) = refl
acts-names p op i rs d (a_use0 r q e) = refl
acts-names p op i rs d (a_use1 r x q e a) = refl
acts-names p op i rs d (a_use2 r x y q e a b) = refl
acts-names p op i rs d (a_use3 r x y z q a b e) = refl
acts-names p op i rs d (a_cell x e a) = refl
acts-names p op i rs d (a_get x q e a) = refl

writes-names : (p : AnfTree) (op : Op) (i : Instr) (rs : List ℕ) → Writes p op i rs → target i ≡ []
writes-names p op i rs (w_set g x q a lt) = refl
writes-names p op i rs (w_define g x a lt) = refl
writes-names p op i rs (w_cell x y a b) = refl

-- the label that an instruction names is that of a `setrtn`, or has a note
module _ (p : AnfTree) (T F : ℕ → Note → Type 0) (X : ℕ → Type 0) (t : (l : ℕ) (n : Note) → T l n → X l)
    (f : (l : ℕ) (n : Note) → F l n → X l) where
  none : (i : Instr) (l : ℕ) → target i ≡ [] → IsIn l (target i) → IsIn l (returned i) ⊎ X l
  none i l e j = absurd (subst (IsIn l) e j)

  one : (ls : List ℕ) (x l : ℕ) → X x → IsIn l (x ∷ []) → IsIn l ls ⊎ X l
  one ls x l h (inl e) = inr (subst X e h)
  one ls x l h (inr j) = absurd j

  named : (i : Instr) (q : Option Place) (n : Note) (o : Option Note) → Ok p T F i q n o → (l : ℕ) → IsIn l (target i) →
      IsIn l (returned i) ⊎ X l
  named i q n o (ok_load z a b c) l j = absurd j
  named i q n o (ok_store z a b c) l j = absurd j
  named i q n o (ok_const k c e w d g) l j = none i l (ap target e ∙ constant-names p.statics _ c) j
  named i q n o (ok_save a) l j = absurd j
  named i q n o (ok_setrtn a) l j = inl j
  named i q n o (ok_pop a b) l j = absurd j
  named i q n o (ok_jump h a) l j = one [] _ l (f _ _ h) j
  named i q n o (ok_form b a c) l j = absurd j
  named i q n o (ok_end a) l j = absurd j
  named i q n o (ok_act op rs a b c d e) l j = none i l (acts-names p op i rs _ a) j
  named i q n o (ok_read a b c d) l j = absurd j
  named i q n o (ok_write op rs a b c d) l j = none i l (writes-names p op i rs a) j
  named i q n o (ok_unspecified a b) l j = absurd j
  named i q n o (ok_given x k a b c d) l j = absurd j
  named i q n o (ok_branch a b c d e h g) l j = one [] _ l (t _ _ h) j
  named i q n o (ok_return a) l j = absurd j
  named i q n o (ok_invoke a b c d e) l j = absurd j
  named i q n o (ok_apply a b c) l j = absurd j
  named i q n o (ok_direct m r a b c d e h g k) l j = one [] _ l (t _ _ h) j
  named i q n o (ok_proc m r a) l j = absurd j
  named i q n o (ok_lifted m r a b c d) l j = absurd j
  named i q n o (ok_args m r a b c d e g h) l j = absurd j
  named i q n o (ok_args_ge m r a b c d e g h k) l j = absurd j
  named i q n o (ok_capt m x r a b c d e) l j = absurd j
  named i q n o (ok_close m r a b c d h e) l j = one [] _ l (t _ _ h) j
  named i q n o (ok_open m r a b c d e g h k) l j = one [] _ l (t _ _ h) j
  named i q n o (ok_fill a b c d) l j = absurd j
  named i q n o (ok_filled a b c d) l j = absurd j
  named i q n o (ok_first a b c h d e g k m) l j = one [] _ l (t _ _ h) j
  named i q n o (ok_next a b c h d e g k m r) l j = one [] _ l (t _ _ h) j
  named i q n o (ok_stored z a b c d e) l j = absurd j
  named i q n o (ok_word k x y m a b c d e g h r s) l j = absurd j

marked : (l : ℕ) (n : Note) (is : List Noted) → IsIn (Mark l n) is → IsIn l (marks is)
marked l n [] i = absurd i
marked l n (Mark k m ∷ is) (inl e) = inl (same e)
  where
    same : Mark k m ≡ Mark l n → k ≡ l
    same f = cc
marked l n (Mark k m ∷ is) (inr i) = inr (marked l n is i)
marked l n (Does j m q ∷ is) (inl e) = other e
  where
    other : {X : Type 0} → Does j m q ≡ Mark l n → X
    other f = cc
marked l n (Does j m q ∷ is) (inr i) = marked l n is i

target-in : (is : List Noted) (l : ℕ) (n : Note) → Target is l n → IsIn l (marks is)
target-in is l n (chain.target i) = marked l n is i

-- the labels that the items of a chain name
module _ (p : AnfTree) (all rest : List Noted) where
  chain-named : (a : Option Note) (is : List Noted) (e : Option Note) → Chain p all rest a is e →
      ((l : ℕ) → IsIn l (marks (is ++ rest)) → IsIn l (marks all)) → (l : ℕ) →
      IsIn l (targets (instructions (items_of is))) → IsIn l (returns is) ⊎ IsIn l (marks all)
  chain-named a is e c_end g l j = absurd j
  chain-named a is e (c_does {i = i} {q = q} {n = n} {o = o} {is = is2} ok h) g l j = ⊎_elim
      (λ k. ⊎_elim (λ r. inl (in-left (returned i) (returns is2) l r)) (λ m. inr m)
      (named p (Target all) (Target (is2 ++ rest)) (λ m. IsIn m (marks all)) (target-in all)
      (λ m w d. g m (target-in (is2 ++ rest) m w d)) i q n o ok l k))
      (λ k. ⊎_elim (λ r. inl (in-right (returned i) (returns is2) l r)) (λ m. inr m) (chain-named o is2 e h g l k))
      (in-cases (target i) (targets (instructions (items_of is2))) l j)
  chain-named a is e (c_mark {n = n} {is = is2} h) g l j = chain-named (Some n) is2 e h (λ m i. g m (inr i)) l j
  chain-named a is e (c_dead {n = n} {is = is2} h) g l j = chain-named (Some n) is2 e h (λ m i. g m (inr i)) l j

entries-in : (p : AnfTree) (n : ℕ) (qs : List ProcTree) (l k : ℕ) → IsIn k (entry_labels (entries n qs)) →
    IsIn k (marks (code_lambdas p n qs l))
entries-in p n [] l k i = absurd i
entries-in p n (q ∷ qs) l k (inl e) =
    marks-left (code_lambda p n q l) (code_lambdas p (suc n) qs (l + labels_in q.body)) k (inl e)
entries-in p n (q ∷ qs) l k (inr i) =
    marks-right (code_lambda p n q l) (code_lambdas p (suc n) qs (l + labels_in q.body)) k
    (entries-in p (suc n) qs (l + labels_in q.body) k i)

pub resolved : (p : AnfTree) → KeepsRules p → Fits p → AreResolved (parts_of p) (items_of (noted_items p))
resolved p rules fits =
    let is = noted_items p in
    let n = length (lambdas_of p) in
    let links = program-chain p (program-ok p rules fits) in
    let there = λ (k : ℕ) (i : IsIn k (marks is)). subst (IsIn k) (sym (labels-marks is)) i in
    record {
      apart = labels-apart p;
      found = λ k i. ⊎_elim
          (λ j. there k (⊎_elim (program-back p k) (λ m. m)
          (chain-named p is [] _ is None links (λ l m. subst (λ zs. IsIn l (marks zs)) (append-nil is) m) k j)))
          (λ j. there k (marks-right (code_forms p 0 (forms_of p) n) _ k
          (entries-in p 0 (lambdas_of p) (n + labels_within (forms_of p)) k j)))
          (in-cases (targets (instructions (items_of is))) (entry_labels (entries 0 (lambdas_of p))) k i);
    }
