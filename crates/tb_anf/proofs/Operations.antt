-- The block of an expression has no more operations than the expression has nodes that count.
use Rattle.std.proofs.Common.{◌≡◌, refl, ap, subst, ℕ, zero, suc, ◌+◌, ◌<◌, ◌≤◌, inl, inr, arith, Bool, true, false, cond, List, [], ◌∷◌, length, Option, Some}
use Rattle.std.proofs.lemmas.Option.{same_Some}
use Rattle.tb_prim.specs.declared.place.Place.{Place}
use Rattle.tb_semantics.specs.Graph.{IsIn, sum_of}
use Rattle.tb_core.specs.Rules.{Every}
use Rattle.tb_ir.specs.Tree.{Tree, Node, Form, Quote, Local, Global, Lambda, If, NewCell, CellGet, CellSet, SetGlobal, DefGlobal, Let, Letrec, Seq, Call, Direct, PrimUse, Apply, Trees, none, more, count, tree_at, operands}
use Rattle.tb_ir.specs.Rules as K
use Rattle.tb_ir.specs.Rules.{IsPermutation, AreAdded, nodes_in, nodes_of}
use Rattle.tb_ir.specs.TreeMachine.{numbers}
use Rattle.tb_ir.specs.Width.{is_new_cell, is_lined, nodes, nodes_form, nodes_all, nodes_cell, nodes_plain, nodes_first}
use Rattle.tb_ir.specs.AnfTree as A
use Rattle.tb_ir.specs.AnfTree.{Operand, Block, Op}
use Rattle.tb_ir.specs.AnfWidth.{quotes, operations, operations_in}
use Rattle.tb_anf.specs.NormalForm.{size, size_all, value_name, atom, atoms, After, AtEnd, Then, put, around, around_at, block_of, block_of_sequence, bound, bound_operands, named_operands}
use Rattle.tb_anf.proofs.Names.{by_operands, IsLong}
use Rattle.tb_anf.proofs.Operands.{number_at, nodes-at, operands-nodes, bound-at, named-at, variable-at, every-left, every-right}
use Rattle.tb_anf.proofs.TreeParts.{parts, onto, by-parts, nodes-parts}
use Rattle.tb_anf.proofs.Uses.{tree_there}
use Rattle.tb_anf.proofs.Weights.{at_tree, sum_all, sums-permuted}

-- an expression that names a variable
abbrev pub IsLocal : Tree → Type 0
IsLocal (Node p s (Local y)) = Unit {0}
IsLocal _ = ⊥

-- a cell is made of a variable, and the added operands of a direct call are variables
abbrev pub NamesOnly : (ℕ → ℕ) → Form → Type 0
NamesOnly own (NewCell e) = IsLocal e
NamesOnly own (Direct l es) = (xs : List ℕ) × AreAdded (own l) es xs
NamesOnly own f = Unit {0}

module _ (line : ℕ → Option (List ℕ)) (own : ℕ → ℕ) where
  abbrev pub lined : ℕ → Bool
  lined s = is_lined (line s)

  -- what a node has to keep so that its block is not wider
  pub record FitForm (s : ℕ) (f : Form) : Type 0 where
    pub permuted : by_operands f ≡ true → IsPermutation (numbers (line s) f) (count (operands f))
    pub long : IsLong f
    pub names : NamesOnly own f

  abbrev pub FitNode : Tree → Type 0
  FitNode (Node p s f) = FitForm s f

  abbrev width : Tree → ℕ
  width e = nodes lined own e

  -- what an operand adds to the block before which it is bound
  abbrev extra : Tree → ℕ
  extra (Node p s (Quote c)) = 0
  extra (Node p s (Local y)) = 0
  extra (Node p s f) = nodes_form lined own (lined s) f

  extra-less : (e : Tree) → extra e ≤ width e
  extra-less (Node p s (Quote c)) = omega arith
  extra-less (Node p s (Local y)) = omega arith
  extra-less (Node p s _) = omega arith

  extra-quote : (n : ℕ) (e : Tree) → extra e + quotes (atom n e ∷ []) ≤ width e
  extra-quote n (Node p s (Quote c)) = omega arith
  extra-quote n (Node p s (Local y)) = omega arith
  extra-quote n (Node p s _) = omega arith

  extra-cell : (e : Tree) → extra e ≤ nodes_cell lined own e
  extra-cell (Node p s (Quote c)) = omega arith
  extra-cell (Node p s (Local y)) = omega arith
  extra-cell (Node p s _) = omega arith

  quotes-more : (a : Operand) (ds : List Operand) → quotes (a ∷ ds) ≡ quotes (a ∷ []) + quotes ds
  quotes-more (A.Quote c) ds = omega arith
  quotes-more (A.Var y) ds = omega arith

  -- the operations of what comes behind
  abbrev behind : After → ℕ
  behind AtEnd = 0
  behind (Then y b) = operations b

  put-operations : (k : After) (op : Op) → operations (put k op) ≡ operations_in op + behind k
  put-operations AtEnd op = omega arith
  put-operations (Then y b) op = refl

  abbrev Fits : Tree → Type 0
  Fits e = (n : ℕ) (k : After) → operations (block_of line n e k) ≤ width e + behind k

  -- and where the cells that are made count nothing
  plain_width : Tree → ℕ
  plain_width e = cond (is_new_cell e) 0 (width e)

  bound-fits : (e : Tree) → Fits e → (n : ℕ) (b : Block) → operations (bound line n e b) ≤ extra e + operations b
  bound-fits (Node p s (Quote c)) h n b = omega arith
  bound-fits (Node p s (Local y)) h n b = omega arith
  bound-fits (Node p s _) h n b = h n (Then (value_name n) b)

  abbrev AllFit : Trees → Type 0
  AllFit none = Unit {0}
  AllFit (more e es) = Fits e × AllFit es

  fit-at : (es : Trees) (i : ℕ) (e : Tree) → AllFit es → tree_at es i ≡ Some e → Fits e
  fit-at none i e h t = cc
  fit-at (more d es) zero e h t = subst Fits (same_Some d e t) h.0
  fit-at (more d es) (suc i) e h t = fit-at es i e h.1 t

  -- operands before a block
  around-fits : (n : ℕ) (es : Trees) (is : List ℕ) (b : Block) → AllFit es → ((i : ℕ) → IsIn i is → i < count es) →
      operations (around (bound_operands line n es) is b) ≤
      sum_of (λ i. at_tree extra (tree_at es i)) is + operations b
  around-fits n es [] b h w = omega arith
  around-fits n es (i ∷ is) b h w =
      let t = tree_there es i (w i (inl refl)) in
      let rest = around (bound_operands line n es) is b in
      let later = around-fits n es is b h (λ j k. w j (inr k)) in
      let here = bound-fits t.0 (fit-at es i t.0 h t.1) (number_at n es i) rest in
      let e = ap (λ o. operations (around_at o rest)) (bound-at line n es i t.0 t.1) in
      let z = ap (at_tree extra) t.1 in
      omega arith

  named-fits : (m : Tree → ℕ) (n : ℕ) (xs : List ℕ) (es : Trees) (is : List ℕ) (b : Block) → length xs ≡ count es →
      ((i : ℕ) (e : Tree) → tree_at es i ≡ Some e → (n y : ℕ) (c : Block) →
      operations (block_of line n e (Then y c)) ≤ m e + operations c) → ((i : ℕ) → IsIn i is → i < count es) →
      operations (around (named_operands line n xs es) is b) ≤ sum_of (λ i. at_tree m (tree_at es i)) is + operations b
  named-fits m n xs es [] b l h w = omega arith
  named-fits m n xs es (i ∷ is) b l h w =
      let t = tree_there es i (w i (inl refl)) in
      let v = variable-at xs es i t.0 l t.1 in
      let rest = around (named_operands line n xs es) is b in
      let later = named-fits m n xs es is b l h (λ j k. w j (inr k)) in
      let here = h i t.0 t.1 (number_at n es i) v.0 rest in
      let e = ap (λ o. operations (around_at o rest)) (named-at line n xs es i v.0 t.0 v.1 t.1) in
      let z = ap (at_tree m) t.1 in
      omega arith

  extras-less : (es : Trees) → sum_all extra es ≤ nodes_all lined own es
  extras-less none = omega arith
  extras-less (more e es) = let a = extra-less e in let h = extras-less es in omega arith

  quotes-fit : (n : ℕ) (es : Trees) → sum_all extra es + quotes (atoms n es) ≤ nodes_all lined own es
  quotes-fit n none = omega arith
  quotes-fit n (more e es) =
      let a = extra-quote n e in
      let h = quotes-fit (n + size e) es in
      let q = quotes-more (atom n e) (atoms (n + size e) es) in
      omega arith

  first-fit : (k n : ℕ) (es : Trees) (xs : List ℕ) → AreAdded k es xs →
      sum_all extra es + quotes (atoms n es) ≤ nodes_first lined own k es
  first-fit (suc k) n (more e es) xs h =
      let a = extra-quote n e in
      let r = first-fit k (n + size e) es xs h in
      let q = quotes-more (atom n e) (atoms (n + size e) es) in
      omega arith
  first-fit zero n (more (Node p s (Local y)) es) (x ∷ xs) h =
      let r = first-fit zero (n + 1) es xs h.1 in omega arith
  first-fit zero n none [] h = omega arith
  first-fit k n es xs h = absurd h

  -- a node with an operation behind its operands
  operands-fit : (n s : ℕ) (f : Form) (k : After) (op : Op) → by_operands f ≡ true → FitForm s f →
      AllFit (operands f) →
      operations (around (bound_operands line (suc n) (operands f)) (numbers (line s) f) (put k op)) ≤
      sum_all extra (operands f) + (operations_in op + behind k)
  operands-fit n s f k op o fit h =
      let per = fit.permuted o in
      let a = around-fits (suc n) (operands f) (numbers (line s) f) (put k op) h per.within in
      let b = sums-permuted extra (operands f) (numbers (line s) f) per in
      let c = put-operations k op in
      omega arith

  plain-operand : (e : Tree) → FitNode e → Fits e → (n y : ℕ) (c : Block) →
      operations (block_of line n e (Then y c)) ≤ plain_width e + operations c
  unfolding plain_width
  plain-operand (Node p s (NewCell (Node q t (Local z)))) fit h n y c = omega arith
  plain-operand (Node p s (NewCell e)) fit h n y c = absurd fit.names
  plain-operand (Node p s _) fit h n y c = h n (Then y c)

  plain-all : (es : Trees) → sum_all plain_width es ≡ nodes_plain lined own es
  unfolding plain_width
  plain-all none = refl
  plain-all (more e es) = ap (λ k. cond (is_new_cell e) 0 (width e) + k) (plain-all es)

  width-all : (es : Trees) → sum_all width es ≡ nodes_all lined own es
  width-all none = refl
  width-all (more e es) = ap (λ k. width e + k) (width-all es)

  sequence-fits : (es : Trees) (n : ℕ) (k : After) → AllFit es → 1 ≤ count es →
      operations (block_of_sequence line n es k) ≤ nodes_all lined own es + behind k
  sequence-fits none n k h le = absurd (omega arith)
  sequence-fits (more e none) n k h le = let a = h.0 n k in omega arith
  sequence-fits (more e (more d ds)) n k h le =
      let a = h.0 n (Then (value_name n) (block_of_sequence line (n + size e) (more d ds) k)) in
      let b = sequence-fits (more d ds) (n + size e) k h.1 (omega arith) in
      omega arith

  fit-onto : (es : Trees) (e : Tree) → AllFit (onto es (more e none)) → AllFit es × Fits e
  fit-onto none e h = (tt, h.0)
  fit-onto (more d es) e h = let r = fit-onto es e h.1 in ((h.0, r.0), r.1)

  abbrev AllNodesFit : Trees → Type 0
  AllNodesFit es = (i : ℕ) (e : Tree) → tree_at es i ≡ Some e → FitNode e

  let-fits : (n s : ℕ) (p : Place) (xs : List ℕ) (es : Trees) (e : Tree) (k : After) → FitForm s (Let xs es e) →
      AllFit es → Fits e → AllNodesFit es →
      operations (block_of line n (Node p s (Let xs es e)) k) ≤ nodes_form lined own (lined s) (Let xs es e) + behind k
  let-fits n s p xs es e k fit h he w =
      let ns = numbers (line s) (Let xs es e) in
      let per = fit.permuted refl in
      let body = block_of line (suc n + size_all es) e k in
      let b = he (suc n + size_all es) k in
      let a = named-fits width (suc n) xs es ns body fit.long (λ i d t n y c. fit-at es i d h t n
      (Then y c)) per.within in
      let c = named-fits plain_width (suc n) xs es ns body fit.long
      (λ i d t. plain-operand d (w i d t) (fit-at es i d h t)) per.within in
      let a' = sums-permuted width es ns per in
      let c' = sums-permuted plain_width es ns per in
      let wa = width-all es in
      let pa = plain-all es in
      by (lined s) (omega arith) (omega arith)
    where
      by : (l : Bool) →
          operations (block_of line n (Node p s (Let xs es e)) k) ≤ nodes_all lined own es + width e + behind k →
          operations (block_of line n (Node p s (Let xs es e)) k) ≤ nodes_plain lined own es + width e + behind k →
          operations (block_of line n (Node p s (Let xs es e)) k) ≤ nodes_form lined own l (Let xs es e) + behind k
      by true a c = omega arith
      by false a c = omega arith

  form-fits : (p : Place) (s : ℕ) (f : Form) → FitForm s f → AllFit (parts f) →
      (by_operands f ≡ true → AllNodesFit (operands f)) → Fits (Node p s f)
  form-fits p s (Quote c) fit h w n k = let e = put-operations k (A.Atom (A.Quote c)) in omega arith
  form-fits p s (Local x) fit h w n k = let e = put-operations k (A.Atom (A.Var x)) in omega arith
  form-fits p s (Global g) fit h w n k = let e = put-operations k (A.Global g p) in omega arith
  form-fits p s (Lambda l) fit h w n k = let e = put-operations k (A.Close l) in omega arith
  form-fits p s (If a b c) fit h w n k =
      let B = block_of line (suc n + size a) b AtEnd in
      let C = block_of line (suc n + (size a + size b)) c AtEnd in
      let op = A.Branch (atom (suc n) a) B C in
      let r = bound-fits a h.0 (suc n) (put k op) in
      let e = put-operations k op in
      let z = extra-less a in
      let hb = h.1.0 (suc n + size a) AtEnd in
      let hc = h.1.1.0 (suc n + (size a + size b)) AtEnd in
      omega arith
  form-fits p s (NewCell d) fit h w n k =
      let r = bound-fits d h.0 (suc n) (put k (A.NewCell (atom (suc n) d))) in
      let e = put-operations k (A.NewCell (atom (suc n) d)) in
      let z = extra-less d in
      omega arith
  form-fits p s (CellGet d) fit h w n k =
      let r = bound-fits d h.0 (suc n) (put k (A.CellGet (atom (suc n) d) p)) in
      let e = put-operations k (A.CellGet (atom (suc n) d) p) in
      let z = extra-cell d in
      omega arith
  form-fits p s (CellSet c d) fit h w n k =
      let op = A.CellSet (atom (suc n) c) (atom (suc n + size c) d) in
      let r = bound-fits c h.0 (suc n) (bound line (suc n + size c) d (put k op)) in
      let t = bound-fits d h.1.0 (suc n + size c) (put k op) in
      let e = put-operations k op in
      let y = extra-cell c in
      let z = extra-less d in
      omega arith
  form-fits p s (SetGlobal g d) fit h w n k =
      let r = bound-fits d h.0 (suc n) (put k (A.SetGlobal g (atom (suc n) d) p)) in
      let e = put-operations k (A.SetGlobal g (atom (suc n) d) p) in
      let z = extra-less d in
      omega arith
  form-fits p s (DefGlobal g d) fit h w n k =
      let r = bound-fits d h.0 (suc n) (put k (A.DefGlobal g (atom (suc n) d))) in
      let e = put-operations k (A.DefGlobal g (atom (suc n) d)) in
      let z = extra-less d in
      omega arith
  form-fits p s (Let xs es e) fit h w n k =
      let both = fit-onto es e h in
      let-fits n s p xs es e k fit both.0 both.1 (w refl)
  form-fits p s (Letrec xs ls e) fit h w n k = let r = h.0 (suc n) k in omega arith
  form-fits p s (Seq es) fit h w n k = let r = sequence-fits es (suc n) k h fit.long in omega arith
  form-fits p s (Call d es) fit h w n k =
      let op = A.Call (atom (suc n) d) (atoms (suc n + size d) es) p in
      let r = operands-fit n s (Call d es) k op refl fit h in
      let q = quotes-fit (suc n) (more d es) in
      omega arith
  form-fits p s (Direct l es) fit h w n k =
      let r = operands-fit n s (Direct l es) k (A.Direct l (atoms (suc n) es)) refl fit h in
      let q = first-fit (own l) (suc n) es (fit.names).0 (fit.names).1 in
      omega arith
  form-fits p s (PrimUse g es) fit h w n k =
      let r = operands-fit n s (PrimUse g es) k (A.PrimUse g (atoms (suc n) es) p) refl fit h in
      let q = extras-less es in
      omega arith
  form-fits p s (Apply d l) fit h w n k =
      let op = A.Apply (atom (suc n) d) (atom (suc n + size d) l) p in
      let r = operands-fit n s (Apply d l) k op refl fit h in
      let q = extras-less (more d (more l none)) in
      omega arith

  fit-head : (e : Tree) → Every FitNode (K.nodes e) → FitNode e
  fit-head (Node p s f) h = h.0

  -- where all its nodes are fit
  pub fits : (e : Tree) → Every FitNode (K.nodes e) → (n : ℕ) →
      operations (block_of line n e AtEnd) ≤ nodes lined own e
  fits e all n =
      let h = by-parts (λ e. Every FitNode (K.nodes e) → Fits e) (λ es. Every FitNode (nodes_of es) → AllFit es)
      (λ p s f q k. form-fits p s f k.0 (q (subst (Every FitNode) (nodes-parts f) k.1))
      (λ o i d t. fit-head d (nodes-at FitNode (operands f) i d t (operands-nodes FitNode f o k.1))))
      (λ k. tt)
      (λ d ds a b k. (a (every-left FitNode (K.nodes d) _ k), b (every-right FitNode (K.nodes d) _ k))) e all n AtEnd in
      omega arith
