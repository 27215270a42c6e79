-- What the block of an expression names is free in the expression, or named behind it.
use Rattle.std.proofs.Common.{◌≡◌, refl, sym, ap, ◌∙◌, subst, ℕ, zero, suc, ◌+◌, ◌<◌, ◌⊎◌, inl, inr, ⊎_elim, arith, true, false, cond, not, List, [], ◌∷◌, ◌++◌, length, Some, slice_get, eq-eqb}
use Rattle.std.proofs.lemmas.Bool.{cases_eq, cases_Bool}
use Rattle.std.proofs.lemmas.Option.{same_Some}
use Rattle.tb_prim.specs.declared.place.Place.{Place}
use Rattle.tb_semantics.specs.Graph.{IsIn}
use Rattle.tb_core.specs.FreeVariables.{is_in, without, of_lambdas}
use Rattle.tb_core.specs.Rules.{Every}
use Rattle.tb_core.proofs.Members.{in-left, in-right, in-either, in-tested, in-without, without-sub}
use Rattle.tb_ir.specs.Tree.{Tree, Node, Form, Quote, Local, Global, Lambda, If, NewCell, CellGet, CellSet, SetGlobal, DefGlobal, Let, Letrec, Seq, Call, Direct, PrimUse, Apply, Trees, none, more, count, tree_at, operands}
use Rattle.tb_ir.specs.FreeVariables.{free, free_form, free_all}
use Rattle.tb_ir.specs.Rules.{nodes, nodes_in, nodes_of}
use Rattle.tb_ir.specs.AnfTree as A
use Rattle.tb_ir.specs.AnfTree.{Operand, Block, Op}
use Rattle.tb_ir.specs.TreeMachine.{Context, numbers, free_of_tree, free_of_numbers}
use Rattle.tb_ir.specs.AnfMachine.{free_of_atom, free_of_atoms, free_block, free_op}
use Rattle.tb_anf.specs.NormalForm.{size, size_all, value_name, atom, atoms, After, AtEnd, Then, put, around, around_at, block_of, block_of_sequence, bound, bound_operands, named_operands}
use Rattle.tb_anf.proofs.Names.{by_operands, Proper, ProperNode}
use Rattle.tb_anf.proofs.Operands.{every-left, every-right, number_at, numbers-free, atoms-at, bound-at, named-at, variable-at, operands-free}
use Rattle.tb_anf.proofs.Rel.{operand_atoms, operation}
use Rattle.tb_anf.proofs.Advance.{Simple, constant, variable, Kind, stays, binds, kind}
use Rattle.tb_anf.proofs.Arranged.{operand-count}

pub without-out : (xs ys : List ℕ) (y : ℕ) → IsIn y (without xs ys) → is_in xs y ≡ false
without-out xs [] y i = absurd i
without-out xs (z ∷ ys) y i =
    (elim (is_in xs z) as (λ b. is_in xs z ≡ b → IsIn y (cond (not b) (z ∷ without xs ys) (without xs ys)) →
    is_in xs y ≡ false) [
      | true ↦ λ e j. without-out xs ys y j
      | false ↦ λ e j. ⊎_elim (λ q. subst (λ w. is_in xs w ≡ false) q e) (without-out xs ys y) j
    ]) refl i

pub without_one : (x : ℕ) (ys : List ℕ) (y : ℕ) → IsIn y (without (x ∷ []) ys) → x ≡ y → ⊥
without_one x ys y i e =
    let h = without-out (x ∷ []) ys y i in
    let k : is_in (x ∷ []) y ≡ true = rw (eq-eqb x y e) refl in
    absurd cc

pub tree_there : (es : Trees) (i : ℕ) → i < count es → (e : Tree) × (tree_at es i ≡ Some e)
tree_there none i lt = absurd (omega arith)
tree_there (more e es) zero lt = (e, refl)
tree_there (more e es) (suc i) lt = tree_there es i (omega arith)

-- an atom that names a variable
pub some_atom : (ds : List Operand) (y : ℕ) → IsIn y (free_of_atoms ds) →
    (i : ℕ) × (a : Operand) × (slice_get ds i ≡ Some a) × IsIn y (free_of_atom a) × (i < length ds)
some_atom [] y i = absurd i
some_atom (a ∷ ds) y i =
    ⊎_elim (λ j. (0, a, refl, j, omega arith))
    (λ j. let r = some_atom ds y j in (suc r.0, r.1, r.2, r.3, (let lt = r.4 in omega arith)))
    (in-either y (free_of_atom a) (free_of_atoms ds) i)

pub some_variable : (xs : List ℕ) (y : ℕ) → IsIn y xs → (i : ℕ) × (slice_get xs i ≡ Some y) × (i < length xs)
some_variable [] y i = absurd i
some_variable (x ∷ xs) y (inl e) = (0, ap Some e, omega arith)
some_variable (x ∷ xs) y (inr i) = let r = some_variable xs y i in (suc r.0, r.1, (let lt = r.2 in omega arith))

module _ (x : Context) (calls : Form → Type 0) (taken : ℕ → List ℕ) (fewer : (l y : ℕ) → IsIn y (taken l) →
    IsIn y (x.inner l)) where
  abbrev pub named_in : Block → List ℕ
  named_in b = free_block taken b

  -- what is named behind an expression
  abbrev pub named_behind : After → List ℕ
  named_behind AtEnd = []
  named_behind (Then y b) = without (y ∷ []) (free_block taken b)

  pub put_named : (k : After) (op : Op) (y : ℕ) → IsIn y (named_in (put k op)) →
      IsIn y (free_op taken op) ⊎ IsIn y (named_behind k)
  put_named AtEnd op y i = inl i
  put_named (Then z b) op y i = in-either y (free_op taken op) _ i

  abbrev pub Uses : Tree → Type 0
  Uses e = (n : ℕ) (k : After) (y : ℕ) → IsIn y (free_block taken (block_of x.line n e k)) →
      IsIn y (free x.inner e) ⊎ IsIn y (named_behind k)

  abbrev pub AllUse : Trees → Type 0
  AllUse es = (i : ℕ) (e : Tree) → tree_at es i ≡ Some e → Uses e

  none_use : AllUse none
  none_use i e t = cc

  more_use : (d : Tree) (es : Trees) → Uses d → AllUse es → AllUse (more d es)
  more_use d es u h zero e t = subst Uses (same_Some d e t) u
  more_use d es u h (suc i) e t = h i e t

  -- an operand before a block
  bound_named : (n : ℕ) (e : Tree) (b : Block) (y : ℕ) → Uses e → Kind x.line n e →
      IsIn y (named_in (bound x.line n e b)) →
      IsIn y (free x.inner e) ⊎ (IsIn y (named_in b) × (IsIn y (free_of_atom (atom n e)) → ⊥))
  bound_named n e b y u (stays s h) i = of_simple s (subst (λ z. IsIn y (named_in z)) (h b) i)
    where
      of_simple : {d : Tree} {a : Operand} → Simple d a → IsIn y (named_in b) →
          IsIn y (free x.inner d) ⊎ (IsIn y (named_in b) × (IsIn y (free_of_atom a) → ⊥))
      of_simple (constant c) j = inr (j, λ k. k)
      of_simple (variable z) j = ⊎_elim (λ q. inl (inl q)) (λ ne. inr (j, λ k. ⊎_elim ne (λ w. w) k)) (cases_eq z y)
  bound_named n e b y u (binds a h) i =
      ⊎_elim inl
      (λ j. inr (
        without-sub (value_name n ∷ []) (named_in b) y j,
        λ k. let z : IsIn y (value_name n ∷ []) = subst (λ w. IsIn y (free_of_atom w)) a k in
            ⊎_elim (without_one (value_name n) (named_in b) y j) (λ w. w) z,
      ))
      (u n (Then (value_name n) b) y (subst (λ z. IsIn y (named_in z)) (h b) i))

  -- operands before a block
  abbrev pub AreNone : (List Operand) → List ℕ → ℕ → Type 0
  AreNone all is y = (i : ℕ) → IsIn i is → (a : Operand) → slice_get all i ≡ Some a → IsIn y (free_of_atom a) → ⊥

  pub around_named : (n : ℕ) (es : Trees) → AllUse es → (is : List ℕ) → ((i : ℕ) → IsIn i is → i < count es) →
      (b : Block)
      (y : ℕ) → IsIn y (named_in (around (bound_operands x.line n es) is b)) →
      IsIn y (free_of_numbers x es is) ⊎ (IsIn y (named_in b) × AreNone (atoms n es) is y)
  around_named n es u [] w b y i = inr (i, λ j k. absurd k)
  around_named n es u (j ∷ is) w b y i =
      let t = tree_there es j (w j (inl refl)) in
      let e = t.0 in
      let rest = around (bound_operands x.line n es) is b in
      let here = bound_named (number_at n es j) e rest y (u j e t.1) (kind x.line (number_at n es j) e)
      (subst (λ o. IsIn y (named_in (around_at o rest))) (bound-at x.line n es j e t.1) i) in
      ⊎_elim
      (λ k. inl (in-left y (free_of_tree x (tree_at es j)) _ (subst (λ o. IsIn y (free_of_tree x o)) (sym t.1) k)))
      (λ k. ⊎_elim (λ l. inl (in-right y (free_of_tree x (tree_at es j)) _ l))
      (λ l. inr (
        l.0,
        λ z r a g. ⊎_elim
            (λ q m. k.1 (subst (λ d. IsIn y (free_of_atom d))
            (same_Some a (atom (number_at n es j) e)
            (sym g ∙ ap (slice_get (atoms n es)) (sym q) ∙ atoms-at n es j e t.1)) m))
            (λ r' m. l.1 z r' a g m) r,
      ))
      (around_named n es u is (λ z r. w z (inr r)) b y k.0))
      here

  pub let_named : (n : ℕ) (xs : List ℕ) (es : Trees) → length xs ≡ count es → AllUse es → (is : List ℕ) →
      ((i : ℕ) → IsIn i is → i < count es) → (b : Block) (y : ℕ) →
      IsIn y (named_in (around (named_operands x.line n xs es) is b)) →
      IsIn y (free_of_numbers x es is) ⊎ (IsIn y (named_in b) × ((i : ℕ) → IsIn i is → slice_get xs i ≡ Some y → ⊥))
  let_named n xs es long u [] w b y i = inr (i, λ j k. absurd k)
  let_named n xs es long u (j ∷ is) w b y i =
      let t = tree_there es j (w j (inl refl)) in
      let e = t.0 in
      let v = variable-at xs es j e long t.1 in
      let rest = around (named_operands x.line n xs es) is b in
      ⊎_elim
      (λ k. inl (in-left y (free_of_tree x (tree_at es j)) _ (subst (λ o. IsIn y (free_of_tree x o)) (sym t.1) k)))
      (λ k. ⊎_elim (λ l. inl (in-right y (free_of_tree x (tree_at es j)) _ l))
      (λ l. inr (
        l.0,
        λ z r g. ⊎_elim
            (λ q. without_one v.0 (named_in rest) y k
            (same_Some v.0 y (sym v.1 ∙ ap (slice_get xs) q ∙ g)))
            (λ r'. l.1 z r' g) r,
      ))
      (let_named n xs es long u is (λ z r. w z (inr r)) b y (without-sub (v.0 ∷ []) (named_in rest) y k)))
      (u j e t.1 (number_at n es j) (Then v.0 rest) y
      (subst (λ o. IsIn y (named_in (around_at o rest))) (named-at x.line n xs es j v.0 e v.1 t.1) i))

  one_more : (xs : List ℕ) (y : ℕ) → IsIn y xs → IsIn y (xs ++ [])
  one_more xs y i = in-left y xs [] i

  -- what the operation of a node names, the atoms of its operands name
  pub operation_named : (n : ℕ) (p : Place) (f : Form) (y : ℕ) → IsIn y (free_op taken (operation n p f)) →
      IsIn y (free_of_atoms (operand_atoms n f))
  operation_named n p (NewCell e) y i = one_more (free_of_atom (atom (suc n) e)) y i
  operation_named n p (CellGet e) y i = one_more (free_of_atom (atom (suc n) e)) y i
  operation_named n p (CellSet c e) y i =
      ⊎_elim (in-left y (free_of_atom (atom (suc n) c)) _)
      (λ j. in-right y (free_of_atom (atom (suc n) c)) _ (one_more (free_of_atom (atom (suc n + size c) e)) y j))
      (in-either y (free_of_atom (atom (suc n) c)) _ i)
  operation_named n p (Call f es) y i = i
  operation_named n p (Direct l es) y i = i
  operation_named n p (PrimUse q es) y i = i
  operation_named n p (Apply f l) y i =
      ⊎_elim (in-left y (free_of_atom (atom (suc n) f)) _)
      (λ j. in-right y (free_of_atom (atom (suc n) f)) _ (one_more (free_of_atom (atom (suc n + size f) l)) y j))
      (in-either y (free_of_atom (atom (suc n) f)) _ i)
  operation_named n p _ y i = absurd i

  -- a node whose operation comes behind all its operands
  operands_named : (n s : ℕ) (p : Place) (f : Form) (k : After) (y : ℕ) → by_operands f ≡ true → Proper x calls s f →
      operand_atoms n f ≡ atoms (suc n) (operands f) → AllUse (operands f) →
      IsIn y (named_in
      (around (bound_operands x.line (suc n) (operands f)) (numbers (x.line s) f) (put k (operation n p f)))) →
      IsIn y (free_form x.inner f) ⊎ IsIn y (named_behind k)
  operands_named n s p f k y o pr same u i =
      let per = pr.permuted o in
      ⊎_elim
      (λ j. inl (operands-free x.inner f o y (numbers-free x (operands f) (numbers (x.line s) f) y j)))
      (λ j. ⊎_elim
      (λ l. let a = some_atom (operand_atoms n f) y (operation_named n p f y l) in
      let long = operand-count n f o pr.long in
      let lt = a.4 in
      absurd (j.1 a.0 (per.full a.0 (omega arith)) a.1 (ap (λ g. slice_get g a.0) (sym same) ∙ a.2) a.3))
      inr (put_named k (operation n p f) y j.0))
      (around_named (suc n) (operands f) u (numbers (x.line s) f) per.within (put k (operation n p f)) y i)

  let_uses : (n s : ℕ) (p : Place) (xs : List ℕ) (es : Trees) (e : Tree) (k : After) (y : ℕ) →
      Proper x calls s (Let xs es e) → AllUse es → Uses e →
      IsIn y (named_in (block_of x.line n (Node p s (Let xs es e)) k)) →
      IsIn y (free_form x.inner (Let xs es e)) ⊎ IsIn y (named_behind k)
  let_uses n s p xs es e k y pr u ue i =
      let per = pr.permuted refl in
      ⊎_elim
      (λ j. inl (in-left y (free_all x.inner es) _ (numbers-free x es (numbers (x.line s) (Let xs es e)) y j)))
      (λ j. ⊎_elim
      (λ l. inl (in-right y (free_all x.inner es) _ (in-without xs (free x.inner e) y l
      (⊎_elim (λ t. let v = some_variable xs y (in-tested xs y t) in
      let lt = v.2 in
      let long = pr.long in
      absurd (j.1 v.0 (per.full v.0 (omega arith)) v.1))
      (λ t. t) (cases_Bool (is_in xs y))))))
      inr (ue (suc n + size_all es) k y j.0))
      (let_named (suc n) xs es pr.long u (numbers (x.line s) (Let xs es e)) per.within
      (block_of x.line (suc n + size_all es) e k) y i)

  pub sequence_uses : (es : Trees) → AllUse es → (n : ℕ) (k : After) (y : ℕ) →
      IsIn y (named_in (block_of_sequence x.line n es k)) → IsIn y (free_all x.inner es) ⊎ IsIn y (named_behind k)
  sequence_uses none u n k y i = ⊎_elim (λ j. absurd j) inr (put_named k _ y i)
  sequence_uses (more e none) u n k y i = ⊎_elim (λ j. inl (one_more (free x.inner e) y j)) inr (u 0 e refl n k y i)
  sequence_uses (more e (more d ds)) u n k y i =
      ⊎_elim (λ j. inl (in-left y (free x.inner e) _ j))
      (λ j. ⊎_elim (λ l. inl (in-right y (free x.inner e) _ l)) inr
      (sequence_uses (more d ds) (λ a b t. u (suc a) b t) (n + size e) k y
      (without-sub (value_name n ∷ []) _ y j)))
      (u 0 e refl n _ y i)

  of_group : (ls : List ℕ) (y : ℕ) → IsIn y (of_lambdas taken ls) → IsIn y (of_lambdas x.inner ls)
  of_group [] y i = i
  of_group (l ∷ ls) y i = ⊎_elim (λ j. in-left y (x.inner l) _ (fewer l y j))
      (λ j. in-right y (x.inner l) _ (of_group ls y j))
      (in-either y (taken l) _ i)

  letrec_uses : (n s : ℕ) (p : Place) (xs ls : List ℕ) (e : Tree) (k : After) (y : ℕ) → Uses e →
      IsIn y (named_in (block_of x.line n (Node p s (Letrec xs ls e)) k)) →
      IsIn y (free_form x.inner (Letrec xs ls e)) ⊎ IsIn y (named_behind k)
  letrec_uses n s p xs ls e k y u i =
      let out = without-out xs _ y i in
      ⊎_elim
      (λ j. inl (in-without xs _ y (in-left y (of_lambdas x.inner ls) _ (of_group ls y j)) out))
      (λ j. ⊎_elim (λ l. inl (in-without xs _ y (in-right y (of_lambdas x.inner ls) _ l) out)) inr (u (suc n) k y j))
      (in-either y (of_lambdas taken ls) _ (without-sub xs _ y i))

  -- one operand, and then an operation with its atom
  one_uses : (n : ℕ) (e : Tree) (k : After) (op : Op) (rest : List ℕ) (y : ℕ) → Uses e →
      (IsIn y (free_op taken op) → IsIn y (free_of_atom (atom (suc n) e)) ⊎ IsIn y rest) →
      IsIn y (named_in (bound x.line (suc n) e (put k op))) →
      IsIn y (free x.inner e ++ rest) ⊎ IsIn y (named_behind k)
  one_uses n e k op rest y u h i =
      ⊎_elim
      (λ j. inl (in-left y (free x.inner e) rest j))
      (λ j. ⊎_elim (λ l. ⊎_elim (λ z. absurd (j.1 z)) (λ z. inl (in-right y (free x.inner e) rest z)) (h l)) inr
      (put_named k op y j.0))
      (bound_named (suc n) e (put k op) y u (kind x.line (suc n) e) i)

  pub at_end_uses : (e : Tree) (n : ℕ) (y : ℕ) → Uses e → IsIn y (named_in (block_of x.line n e AtEnd)) →
      IsIn y (free x.inner e)
  at_end_uses e n y u i = ⊎_elim (λ j. j) (λ j. absurd j) (u n AtEnd y i)

  if_uses : (n s : ℕ) (p : Place) (a b c : Tree) (k : After) (y : ℕ) → Uses a → Uses b → Uses c →
      IsIn y (named_in (block_of x.line n (Node p s (If a b c)) k)) →
      IsIn y (free_form x.inner (If a b c)) ⊎ IsIn y (named_behind k)
  if_uses n s p a b c k y ua ub uc i =
      let B = block_of x.line (suc n + size a) b AtEnd in
      let C = block_of x.line (suc n + (size a + size b)) c AtEnd in
      one_uses n a k (A.Branch (atom (suc n) a) B C) (free x.inner b ++ free x.inner c) y ua
      (λ j. ⊎_elim inl (λ l. inr (⊎_elim (λ z. in-left y (free x.inner b) _ (at_end_uses b _ y ub z))
      (λ z. in-right y (free x.inner b) _ (at_end_uses c _ y uc z)) (in-either y (named_in B) _ l)))
      (in-either y (free_of_atom (atom (suc n) a)) _ j)) i

  without_rest : (xs : List ℕ) (y : ℕ) (Z : Type 0) → IsIn y (xs ++ []) ⊎ Z → IsIn y xs ⊎ Z
  without_rest xs y Z i = ⊎_elim (λ j. ⊎_elim inl (λ z. absurd z) (in-either y xs [] j)) inr i

  mutual
    pub block-uses : (e : Tree) → Every (ProperNode x calls) (nodes e) → Uses e
    block-uses (Node p s f) a = λ n k y i. form_uses p s f a.0 a.1 n k y i

    form_uses : (p : Place) (s : ℕ) (f : Form) → Proper x calls s f → Every (ProperNode x calls) (nodes_in f) →
        (n : ℕ) (k : After)
        (y : ℕ) → IsIn y (named_in (block_of x.line n (Node p s f) k)) →
        IsIn y (free_form x.inner f) ⊎ IsIn y (named_behind k)
    form_uses p s (Quote c) pr a n k y i = put_named k _ y i
    form_uses p s (Local z) pr a n k y i = put_named k _ y i
    form_uses p s (Global g) pr a n k y i = put_named k _ y i
    form_uses p s (Lambda l) pr a n k y i = ⊎_elim (λ j. inl (fewer l y j)) inr (put_named k _ y i)
    form_uses p s (If b c d) pr a n k y i =
        if_uses n s p b c d k y (block-uses b (every-left _ (nodes b) _ a))
        (block-uses c (every-left _ (nodes c) _ (every-right _ (nodes b) _ a)))
        (block-uses d (every-right _ (nodes c) _ (every-right _ (nodes b) _ a))) i
    form_uses p s (NewCell e) pr a n k y i =
        operands_named n s p (NewCell e) k y refl pr refl (more_use e none (block-uses e a) none_use) i
    form_uses p s (CellGet e) pr a n k y i =
        operands_named n s p (CellGet e) k y refl pr refl (more_use e none (block-uses e a) none_use) i
    form_uses p s (CellSet c e) pr a n k y i =
        operands_named n s p (CellSet c e) k y refl pr refl
        (more_use c (more e none) (block-uses c (every-left _ (nodes c) _ a))
        (more_use e none (block-uses e (every-right _ (nodes c) _ a)) none_use)) i
    form_uses p s (SetGlobal g e) pr a n k y i =
        without_rest _ y _ (one_uses n e k (A.SetGlobal g (atom (suc n) e) p) [] y (block-uses e a) inl i)
    form_uses p s (DefGlobal g e) pr a n k y i =
        without_rest _ y _ (one_uses n e k (A.DefGlobal g (atom (suc n) e)) [] y (block-uses e a) inl i)
    form_uses p s (Let xs es e) pr a n k y i =
        let_uses n s p xs es e k y pr (all_uses es (every-left _ (nodes_of es) _ a))
        (block-uses e (every-right _ (nodes_of es) _ a)) i
    form_uses p s (Letrec xs ls e) pr a n k y i = letrec_uses n s p xs ls e k y (block-uses e a) i
    form_uses p s (Seq es) pr a n k y i = sequence_uses es (all_uses es a) (suc n) k y i
    form_uses p s (Call f es) pr a n k y i =
        operands_named n s p (Call f es) k y refl pr refl
        (more_use f es (block-uses f (every-left _ (nodes f) _ a)) (all_uses es (every-right _ (nodes f) _ a))) i
    form_uses p s (Direct l es) pr a n k y i =
        operands_named n s p (Direct l es) k y refl pr refl (all_uses es a) i
    form_uses p s (PrimUse q es) pr a n k y i =
        operands_named n s p (PrimUse q es) k y refl pr refl (all_uses es a) i
    form_uses p s (Apply f l) pr a n k y i =
        operands_named n s p (Apply f l) k y refl pr refl
        (more_use f (more l none) (block-uses f (every-left _ (nodes f) _ a))
        (more_use l none (block-uses l (every-right _ (nodes f) _ a)) none_use)) i

    pub all_uses : (es : Trees) → Every (ProperNode x calls) (nodes_of es) → AllUse es
    all_uses none a = none_use
    all_uses (more e es) a =
        more_use e es (block-uses e (every-left _ (nodes e) _ a)) (all_uses es (every-right _ (nodes e) _ a))
