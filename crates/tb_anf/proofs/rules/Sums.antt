-- A sum over the blocks of a normal form is one over the nodes of its source, whatever the order of operands.
use Rattle.std.proofs.Common.{◌≡◌, refl, sym, ap, ◌∙◌, subst, ℕ, zero, suc, ◌+◌, ◌<◌, ◌≤◌, arith, Bool, true, false, cond, ◌==◌, ◌||◌, List, [], ◌∷◌, ◌++◌, length, get_or, Option, Some, None, slice_get, inl, inr, ⊎_elim, eqb-true}
use Rattle.std.proofs.lemmas.Bool.{cases_Bool, eqb-false}
use Rattle.tb_prim.specs.declared.place.Place.{Place}
use Rattle.tb_prim.specs.declared.constant.Const.{Const}
use Rattle.tb_semantics.specs.Graph.{IsIn, IsApart}
use Rattle.tb_core.specs.FreeVariables.{is_in}
use Rattle.tb_core.specs.Rules.{Every}
use Rattle.tb_core.proofs.Members.{in-tested, tested-in}
use Rattle.tb_ir.specs.AnfRules.{blocks, blocks_in}
use Rattle.tb_ir.specs.AnfTree as A
use Rattle.tb_ir.specs.AnfTree.{Block, Op}
use Rattle.tb_ir.specs.Rules.{IsPermutation, nodes, nodes_in, nodes_of}
use Rattle.tb_ir.specs.Tree.{Tree, Node, Form, Quote, Local, Global, Lambda, If, NewCell, CellGet, CellSet, SetGlobal, DefGlobal, Let, Letrec, Seq, Call, Direct, PrimUse, Apply, Trees, none, more, count}
use Rattle.tb_ir.specs.TreeMachine.{Context, numbers}
use Rattle.tb_anf.specs.NormalForm.{After, AtEnd, Then, put, around, around_at, size, size_all, atom, atoms, value_name, bound, bound_operands, named_operands, block_of, block_of_form, block_of_sequence}
use Rattle.tb_anf.proofs.Names.{Any, Proper, ProperNode}
use Rattle.tb_anf.proofs.Operands.{every-left, every-right}

-- the sum over the numbers below a bound, and along a list of numbers
module _ (v : ℕ → ℕ) where
  abbrev pub upto : ℕ → ℕ
  upto zero = 0
  upto (suc n) = upto n + v n

  abbrev pub along : List ℕ → ℕ
  along [] = 0
  along (i ∷ is) = v i + along is

pub one-only : (v : ℕ → ℕ) (i n : ℕ) → (i < n → upto (λ j. cond (i == j) (v j) 0) n ≡ v i) × (n ≤ i → upto (λ j. cond (i == j) (v j) 0) n ≡ 0)
one-only v i zero = (λ lt. absurd (omega arith), λ le. refl)
one-only v i (suc n) =
    let h = one-only v i n in
    ⊎_elim
    (λ t. let e = eqb-true i n t in let z : cond (i == n) (v n) 0 ≡ v n = ap (λ b. cond b (v n) 0) t in let w = ap v e in
    (λ lt. let o = h.1 (omega arith) in omega arith, λ le. absurd (omega arith)))
    (λ f. let ne = eqb-false i n f in let z : cond (i == n) (v n) 0 ≡ 0 = ap (λ b. cond b (v n) 0) f in
    (λ lt. let o = h.0 (below i n lt ne) in omega arith, λ le. let o = h.1 (omega arith) in omega arith))
    (cases_Bool (i == n))
  where
    below : (i n : ℕ) → i < suc n → (i ≡ n → ⊥) → i < n
    below i n lt ne = omega arith

sum_both : (u v w : ℕ → ℕ) (n : ℕ) → ((j : ℕ) → u j ≡ v j + w j) → upto u n ≡ upto v n + upto w n
sum_both u v w zero h = refl
sum_both u v w (suc n) h = let r = sum_both u v w n h in let e = h n in omega arith

sum_same : (u v : ℕ → ℕ) (n : ℕ) → ((j : ℕ) → j < n → u j ≡ v j) → upto u n ≡ upto v n
sum_same u v zero h = refl
sum_same u v (suc n) h = let r = sum_same u v n (λ j lt. h j (omega arith)) in let e = h n (omega arith) in omega arith

module _ (v : ℕ → ℕ) where
  masked : List ℕ → ℕ → ℕ
  masked is j = cond (is_in is j) (v j) 0

  sum_masked : (is : List ℕ) (n : ℕ) → IsApart is → ((i : ℕ) → IsIn i is → i < n) → upto (masked is) n ≡ along v is
  unfolding masked
  sum_masked [] n a w = none_of n
    where
      none_of : (n : ℕ) → upto (λ j. 0) n ≡ 0
      none_of zero = refl
      none_of (suc n) = let h = none_of n in omega arith
  sum_masked (i ∷ is) n a w =
      let r = sum_masked is n a.1 (λ j h. w j (inr h)) in
      let one = (one-only v i n).0 (w i (inl refl)) in
      let both = sum_both (masked (i ∷ is)) (λ j. cond (i == j) (v j) 0) (masked is) n (λ j. split j (i == j) refl (is_in is j) refl) in
      omega arith
    where
      split : (j : ℕ) (b : Bool) → (i == j) ≡ b → (c : Bool) → is_in is j ≡ c → cond (b || c) (v j) 0 ≡ cond b (v j) 0 + cond c (v j) 0
      split j true e true f = absurd (a.0 (subst (λ k. IsIn k is) (sym (eqb-true i j e)) (in-tested is j f)))
      split j true e false f = omega arith
      split j false e true f = omega arith
      split j false e false f = refl

  pub permuted-sum : (is : List ℕ) (n : ℕ) → IsPermutation is n → along v is ≡ upto v n
  unfolding masked
  permuted-sum is n h = sym (sum_masked is n h.apart h.within)
      ∙ sum_same (masked is) v n (λ j lt. ap (λ b. cond b (v j) 0) (tested-in is j (h.full j lt)))

-- what stands behind a block in a weight that does not see it
abbrev pub stub : Block
stub = A.Tail (A.Atom (A.Quote Const.Nil))

-- a weight of blocks that sees of each what it binds and its operation, and not the block behind it
pub record IsOwn (W : Block → ℕ) : Type 0 where
  pub bind : (x : ℕ) (op : Op) (b : Block) → W (A.Bind x op b) ≡ W (A.Bind x op stub)
  pub close : (xs ls : List ℕ) (b : Block) → W (A.CloseAll xs ls b) ≡ W (A.CloseAll xs ls stub)

module _ (W : Block → ℕ) where
  abbrev pub sum_blocks : List Block → ℕ
  sum_blocks [] = 0
  sum_blocks (b ∷ bs) = W b + sum_blocks bs

  pub sum-append : (bs cs : List Block) → sum_blocks (bs ++ cs) ≡ sum_blocks bs + sum_blocks cs
  sum-append [] cs = omega arith
  sum-append (b ∷ bs) cs = let h = sum-append bs cs in omega arith

  -- the sum over a block and those in it and behind it
  abbrev pub total : Block → ℕ
  total b = sum_blocks (blocks b)

  abbrev total_after : After → ℕ
  total_after AtEnd = 0
  total_after (Then x b) = total b

  abbrev pub kind : After → Option ℕ
  kind AtEnd = None
  kind (Then x b) = Some x

  -- the weight of an operation in tail position, or of one whose value is bound to a variable
  abbrev pub own : Option ℕ → Op → ℕ
  own None op = W (A.Tail op)
  own (Some x) op = W (A.Bind x op stub)

  module _ (line : ℕ → Option (List ℕ)) where
    -- what an expression adds, whose node has this number
    abbrev mutual
      pub adds : ℕ → Tree → Option ℕ → ℕ
      adds n (Node p s f) k = adds_form n p f k

      pub adds_form : ℕ → Place → Form → Option ℕ → ℕ
      adds_form n p (Quote c) k = own k (A.Atom (A.Quote c))
      adds_form n p (Local x) k = own k (A.Atom (A.Var x))
      adds_form n p (Global g) k = own k (A.Global g p)
      adds_form n p (Lambda l) k = own k (A.Close l)
      adds_form n p (If a b c) k =
          adds_bound (suc n) a + (own k (A.Branch (atom (suc n) a) (block_of line (suc n + size a) b AtEnd) (block_of line (suc n + (size a + size b)) c AtEnd))
          + (adds (suc n + size a) b None + adds (suc n + (size a + size b)) c None))
      adds_form n p (NewCell e) k = adds_bound (suc n) e + own k (A.NewCell (atom (suc n) e))
      adds_form n p (CellGet e) k = adds_bound (suc n) e + own k (A.CellGet (atom (suc n) e) p)
      adds_form n p (CellSet c e) k =
          adds_bound (suc n) c + (adds_bound (suc n + size c) e + own k (A.CellSet (atom (suc n) c) (atom (suc n + size c) e)))
      adds_form n p (SetGlobal g e) k = adds_bound (suc n) e + own k (A.SetGlobal g (atom (suc n) e) p)
      adds_form n p (DefGlobal g e) k = adds_bound (suc n) e + own k (A.DefGlobal g (atom (suc n) e))
      adds_form n p (Let xs es e) k = adds_named (suc n) xs es + adds (suc n + size_all es) e k
      adds_form n p (Letrec xs ls e) k = W (A.CloseAll xs ls stub) + adds (suc n) e k
      adds_form n p (Seq es) k = adds_sequence (suc n) es k
      adds_form n p (Call f es) k =
          (adds_bound (suc n) f + adds_all (suc n + size f) es) + own k (A.Call (atom (suc n) f) (atoms (suc n + size f) es) p)
      adds_form n p (Direct l es) k = adds_all (suc n) es + own k (A.Direct l (atoms (suc n) es))
      adds_form n p (PrimUse q es) k = adds_all (suc n) es + own k (A.PrimUse q (atoms (suc n) es) p)
      adds_form n p (Apply f l) k =
          (adds_bound (suc n) f + adds_bound (suc n + size f) l) + own k (A.Apply (atom (suc n) f) (atom (suc n + size f) l) p)

      -- an operand, which adds nothing where it is simple
      pub adds_bound : ℕ → Tree → ℕ
      adds_bound n (Node p s (Quote c)) = 0
      adds_bound n (Node p s (Local x)) = 0
      adds_bound n (Node p s f) = adds_form n p f (Some (value_name n))

      pub adds_all : ℕ → Trees → ℕ
      adds_all n none = 0
      adds_all n (more e es) = adds_bound n e + adds_all (n + size e) es

      pub adds_named : ℕ → List ℕ → Trees → ℕ
      adds_named n (x ∷ xs) (more e es) = adds n e (Some x) + adds_named (n + size e) xs es
      adds_named n xs none = 0
      adds_named n [] es = 0

      pub adds_sequence : ℕ → Trees → Option ℕ → ℕ
      adds_sequence n none k = own k (A.Atom (A.Quote Const.Unspecified))
      adds_sequence n (more e none) k = adds n e k
      adds_sequence n (more e (more d ds)) k = adds n e (Some (value_name n)) + adds_sequence (n + size e) (more d ds) k

    -- blocks that are put around another, with what each adds
    AllAdd : List (Block → Block) → List ℕ → Type 0
    AllAdd [] [] = Unit {0}
    AllAdd (f ∷ fs) (w ∷ ws) = ((b : Block) → total (f b) ≡ w + total b) × AllAdd fs ws
    AllAdd fs ws = ⊥

    around_one : (fs : List (Block → Block)) (ws : List ℕ) → AllAdd fs ws → (i : ℕ) (b : Block) →
        total (around_at (slice_get fs i) b) ≡ get_or ws i 0 + total b
    unfolding AllAdd
    around_one [] [] h i b = omega arith
    around_one (f ∷ fs) [] h i b = absurd h
    around_one [] (w ∷ ws) h i b = absurd h
    around_one (f ∷ fs) (w ∷ ws) h zero b = h.0 b
    around_one (f ∷ fs) (w ∷ ws) h (suc i) b = around_one fs ws h.1 i b

    around_sum : (fs : List (Block → Block)) (ws : List ℕ) → AllAdd fs ws → (is : List ℕ) (b : Block) →
        total (around fs is b) ≡ along (λ i. get_or ws i 0) is + total b
    around_sum fs ws h [] b = omega arith
    around_sum fs ws h (i ∷ is) b =
        let r = around_sum fs ws h is b in let o = around_one fs ws h i (around fs is b) in omega arith

    abbrev sum_of : List ℕ → ℕ
    sum_of [] = 0
    sum_of (w ∷ ws) = w + sum_of ws

    sum_first : (v : ℕ → ℕ) (n : ℕ) → upto v (suc n) ≡ v 0 + upto (λ i. v (suc i)) n
    sum_first v zero = omega arith
    sum_first v (suc n) = let h = sum_first v n in omega arith

    sum_upto : (ws : List ℕ) → upto (λ i. get_or ws i 0) (length ws) ≡ sum_of ws
    sum_upto [] = refl
    sum_upto (w ∷ ws) = let a = sum_first (λ i. get_or (w ∷ ws) i 0) (length ws) in let h = sum_upto ws in omega arith

    -- in an order that has each of them once they add what all do
    permuted : (fs : List (Block → Block)) (ws : List ℕ) → AllAdd fs ws → (is : List ℕ) (n : ℕ) → length ws ≡ n → IsPermutation is n → (b : Block) →
        total (around fs is b) ≡ sum_of ws + total b
    permuted fs ws h is n e q b =
        let a = around_sum fs ws h is b in
        let c = permuted-sum (λ i. get_or ws i 0) is (length ws) (subst (IsPermutation is) (sym e) q) in
        let d = sum_upto ws in omega arith

module _ (W : Block → ℕ) (local : IsOwn W) (x : Context) where
  abbrev line : ℕ → Option (List ℕ)
  line = x.line

  put_total : (k : After) (op : Op) → total W (put k op) ≡ own W (kind W k) op + (sum_blocks W (blocks_in op) + total_after W k)
  put_total AtEnd op = omega arith
  put_total (Then y b) op = let e = local.bind y op b in let a = sum-append W (blocks_in op) (blocks b) in omega arith

  abbrev Sums : Tree → Type 0
  Sums e = (n : ℕ) (k : After) → total W (block_of line n e k) ≡ adds W line n e (kind W k) + total_after W k

  abbrev AllSum : Trees → Type 0
  AllSum none = Unit {0}
  AllSum (more e es) = Sums e × AllSum es

  bound_total : (n : ℕ) (e : Tree) (b : Block) → Sums e → total W (bound line n e b) ≡ adds_bound W line n e + total W b
  bound_total n (Node p s (Quote c)) b h = omega arith
  bound_total n (Node p s (Local y)) b h = omega arith
  bound_total n (Node p s f) b h = h n (Then (value_name n) b)

  weights : ℕ → Trees → List ℕ
  weights n none = []
  weights n (more e es) = adds_bound W line n e ∷ weights (n + size e) es

  all_bound : (n : ℕ) (es : Trees) → AllSum es → AllAdd W line (bound_operands line n es) (weights n es)
  unfolding weights AllAdd
  all_bound n none h = tt
  all_bound n (more e es) h = (λ b. bound_total n e b h.0, all_bound (n + size e) es h.1)

  weights_sum : (n : ℕ) (es : Trees) → (sum_of W line (weights n es) ≡ adds_all W line n es) × (length (weights n es) ≡ count es)
  unfolding weights
  weights_sum n none = (refl, refl)
  weights_sum n (more e es) = let h = weights_sum (n + size e) es in let a = h.0 in let b = h.1 in (omega arith, omega arith)

  named_weights : ℕ → List ℕ → Trees → List ℕ
  named_weights n (y ∷ ys) (more e es) = adds W line n e (Some y) ∷ named_weights (n + size e) ys es
  named_weights n ys es = []

  all_named : (n : ℕ) (ys : List ℕ) (es : Trees) → length ys ≡ count es → AllSum es → AllAdd W line (named_operands line n ys es) (named_weights n ys es)
  unfolding named_weights AllAdd
  all_named n [] none q h = tt
  all_named n [] (more e es) q h = absurd (omega arith)
  all_named n (y ∷ ys) none q h = absurd (omega arith)
  all_named n (y ∷ ys) (more e es) q h = (λ b. h.0 n (Then y b), all_named (n + size e) ys es (omega arith) h.1)

  named_sum : (n : ℕ) (ys : List ℕ) (es : Trees) → length ys ≡ count es →
      (sum_of W line (named_weights n ys es) ≡ adds_named W line n ys es) × (length (named_weights n ys es) ≡ count es)
  unfolding named_weights
  named_sum n [] none q = (refl, refl)
  named_sum n [] (more e es) q = absurd (omega arith)
  named_sum n (y ∷ ys) none q = absurd (omega arith)
  named_sum n (y ∷ ys) (more e es) q = let h = named_sum (n + size e) ys es (omega arith) in let a = h.0 in let b = h.1 in (omega arith, omega arith)

  -- operands before a block, in their order
  operands_total : (n : ℕ) (es : Trees) (is : List ℕ) (b : Block) → AllSum es → IsPermutation is (count es) →
      total W (around (bound_operands line n es) is b) ≡ adds_all W line n es + total W b
  operands_total n es is b h q =
      let w = weights_sum n es in let s = w.0 in
      let a = permuted W line (bound_operands line n es) (weights n es) (all_bound n es h) is (count es) w.1 q b in omega arith

  first_total : (n m : ℕ) (f : Tree) (es : Trees) (is : List ℕ) (b : Block) → Sums f → AllSum es → IsPermutation is (1 + count es) →
      total W (around ((λ d. bound line n f d) ∷ bound_operands line m es) is b) ≡ (adds_bound W line n f + adds_all W line m es) + total W b
  unfolding AllAdd
  first_total n m f es is b h g q =
      let w = weights_sum m es in let s = w.0 in let l = w.1 in
      let a = permuted W line ((λ d. bound line n f d) ∷ bound_operands line m es) (adds_bound W line n f ∷ weights m es)
      ((λ d. bound_total n f d h), all_bound m es g) is (1 + count es) (omega arith) q b in omega arith

  mutual
    pub tree-sum : (e : Tree) → Every (ProperNode x Any) (nodes e) → Sums e
    tree-sum (Node p s f) h n k = form_sum n p s f k h.0 h.1

    form_sum : (n : ℕ) (p : Place) (s : ℕ) (f : Form) (k : After) → Proper x Any s f → Every (ProperNode x Any) (nodes_in f) →
        total W (block_of_form line n p s f k) ≡ adds_form W line n p f (kind W k) + total_after W k
    form_sum n p s (Quote c) k pr h = let a = put_total k (A.Atom (A.Quote c)) in omega arith
    form_sum n p s (Local y) k pr h = let a = put_total k (A.Atom (A.Var y)) in omega arith
    form_sum n p s (Global g) k pr h = let a = put_total k (A.Global g p) in omega arith
    form_sum n p s (Lambda l) k pr h = let a = put_total k (A.Close l) in omega arith
    form_sum n p s (If a b c) k pr h =
        let sb = tree-sum b (every-left _ (nodes b) _ (every-right _ (nodes a) _ h)) (suc n + size a) AtEnd in
        let sc = tree-sum c (every-right _ (nodes b) _ (every-right _ (nodes a) _ h)) (suc n + (size a + size b)) AtEnd in
        let op = A.Branch (atom (suc n) a) (block_of line (suc n + size a) b AtEnd) (block_of line (suc n + (size a + size b)) c AtEnd) in
        let i = put_total k op in
        let j = sum-append W (blocks (block_of line (suc n + size a) b AtEnd)) (blocks (block_of line (suc n + (size a + size b)) c AtEnd)) in
        let t = bound_total (suc n) a (put k op) (tree-sum a (every-left _ (nodes a) _ h)) in omega arith
    form_sum n p s (NewCell e) k pr h =
        let t = bound_total (suc n) e (put k (A.NewCell (atom (suc n) e))) (tree-sum e h) in
        let i = put_total k (A.NewCell (atom (suc n) e)) in omega arith
    form_sum n p s (CellGet e) k pr h =
        let t = bound_total (suc n) e (put k (A.CellGet (atom (suc n) e) p)) (tree-sum e h) in
        let i = put_total k (A.CellGet (atom (suc n) e) p) in omega arith
    form_sum n p s (CellSet c e) k pr h =
        let op = A.CellSet (atom (suc n) c) (atom (suc n + size c) e) in
        let u = bound_total (suc n + size c) e (put k op) (tree-sum e (every-right _ (nodes c) _ h)) in
        let t = bound_total (suc n) c (bound line (suc n + size c) e (put k op)) (tree-sum c (every-left _ (nodes c) _ h)) in
        let i = put_total k op in omega arith
    form_sum n p s (SetGlobal g e) k pr h =
        let t = bound_total (suc n) e (put k (A.SetGlobal g (atom (suc n) e) p)) (tree-sum e h) in
        let i = put_total k (A.SetGlobal g (atom (suc n) e) p) in omega arith
    form_sum n p s (DefGlobal g e) k pr h =
        let t = bound_total (suc n) e (put k (A.DefGlobal g (atom (suc n) e))) (tree-sum e h) in
        let i = put_total k (A.DefGlobal g (atom (suc n) e)) in omega arith
    form_sum n p s (Let ys es e) k pr h =
        let w = named_sum (suc n) ys es pr.long in let v = w.0 in
        let b = block_of line (suc n + size_all es) e k in
        let a = permuted W line (named_operands line (suc n) ys es) (named_weights (suc n) ys es)
        (all_named (suc n) ys es pr.long (all_sum es (every-left _ (nodes_of es) _ h))) (numbers (line s) (Let ys es e)) (count es) w.1 (pr.permuted refl) b in
        let t = tree-sum e (every-right _ (nodes_of es) _ h) (suc n + size_all es) k in omega arith
    form_sum n p s (Letrec ys ls e) k pr h =
        let t = tree-sum e h (suc n) k in let c = local.close ys ls (block_of line (suc n) e k) in omega arith
    form_sum n p s (Seq es) k pr h = sequence_sum (suc n) es k (all_sum es h)
    form_sum n p s (Call f es) k pr h =
        let op = A.Call (atom (suc n) f) (atoms (suc n + size f) es) p in
        let t = first_total (suc n) (suc n + size f) f es (numbers (line s) (Call f es)) (put k op) (tree-sum f (every-left _ (nodes f) _ h))
        (all_sum es (every-right _ (nodes f) _ h)) (pr.permuted refl) in
        let i = put_total k op in omega arith
    form_sum n p s (Direct l es) k pr h =
        let op = A.Direct l (atoms (suc n) es) in
        let t = operands_total (suc n) es (numbers (line s) (Direct l es)) (put k op) (all_sum es h) (pr.permuted refl) in
        let i = put_total k op in omega arith
    form_sum n p s (PrimUse q es) k pr h =
        let op = A.PrimUse q (atoms (suc n) es) p in
        let t = operands_total (suc n) es (numbers (line s) (PrimUse q es)) (put k op) (all_sum es h) (pr.permuted refl) in
        let i = put_total k op in omega arith
    form_sum n p s (Apply f l) k pr h =
        let op = A.Apply (atom (suc n) f) (atom (suc n + size f) l) p in
        let t = first_total (suc n) (suc n + size f) f (more l none) (numbers (line s) (Apply f l)) (put k op) (tree-sum f (every-left _ (nodes f) _ h))
        (tree-sum l (every-right _ (nodes f) _ h), tt) (pr.permuted refl) in
        let i = put_total k op in omega arith

    all_sum : (es : Trees) → Every (ProperNode x Any) (nodes_of es) → AllSum es
    all_sum none h = tt
    all_sum (more e es) h = (tree-sum e (every-left _ (nodes e) _ h), all_sum es (every-right _ (nodes e) _ h))

    sequence_sum : (n : ℕ) (es : Trees) (k : After) → AllSum es →
        total W (block_of_sequence line n es k) ≡ adds_sequence W line n es (kind W k) + total_after W k
    sequence_sum n none k h = let a = put_total k (A.Atom (A.Quote Const.Unspecified)) in omega arith
    sequence_sum n (more e none) k h = h.0 n k
    sequence_sum n (more e (more d ds)) k h =
        let t = h.0 n (Then (value_name n) (block_of_sequence line (n + size e) (more d ds) k)) in
        let r = sequence_sum (n + size e) (more d ds) k h.1 in omega arith
