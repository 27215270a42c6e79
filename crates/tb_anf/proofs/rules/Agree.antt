-- Quantities that each node of the source adds to, whatever its operands are bound to: they are the same in a normal
-- form, as how often a variable is named, made into a cell or bound, and how often a lambda expression stands.
use Rattle.std.proofs.Common.{◌≡◌, refl, ℕ, suc, ◌+◌, ◌≤◌, arith, List, [], ◌∷◌, ◌++◌, length, Option, Some, None}
use Rattle.tb_prim.specs.declared.place.Place.{Place}
use Rattle.tb_prim.specs.declared.constant.Const.{Const}
use Rattle.tb_prim.specs.declared.primitive.Primitive.{Primitive}
use Rattle.tb_core.specs.Rules.{Every}
use Rattle.tb_ir.specs.AnfTree as A
use Rattle.tb_ir.specs.AnfTree.{Block}
use Rattle.tb_ir.specs.Rules.{nodes, nodes_in, nodes_of, form_of}
use Rattle.tb_ir.specs.Tree.{Tree, Node, Form, Quote, Local, Global, Lambda, If, NewCell, CellGet, CellSet, SetGlobal, DefGlobal, Let, Letrec, Seq, Call, Direct, PrimUse, Apply, Trees, none, more, count}
use Rattle.tb_ir.specs.TreeMachine.{Context}
use Rattle.tb_anf.specs.NormalForm.{AtEnd, size, size_all, atom, atoms, value_name, block_of}
use Rattle.tb_anf.proofs.Names.{Any, Proper, ProperNode}
use Rattle.tb_anf.proofs.Operands.{every-left, every-right}
use Rattle.tb_anf.proofs.rules.Sums.{stub, own, adds, adds_form, adds_bound, adds_all, adds_named, adds_sequence}

module _ (m : Form → ℕ) where
  -- what some nodes add, and what an operand adds that is an atom of the operation
  abbrev pub weigh : List Tree → ℕ
  weigh [] = 0
  weigh (e ∷ es) = m (form_of e) + weigh es

  pub weigh-append : (es ds : List Tree) → weigh (es ++ ds) ≡ weigh es + weigh ds
  weigh-append [] ds = omega arith
  weigh-append (e ∷ es) ds = let h = weigh-append es ds in omega arith

  abbrev pub simple : Tree → ℕ
  simple (Node p s (Quote c)) = m (Quote c)
  simple (Node p s (Local x)) = m (Local x)
  simple (Node p s f) = 0

  abbrev pub simple_all : Trees → ℕ
  simple_all none = 0
  simple_all (more e es) = simple e + simple_all es

-- what variables add that are bound
abbrev pub bound_to : (Option ℕ → ℕ) → List ℕ → ℕ
bound_to t [] = 0
bound_to t (x ∷ xs) = t (Some x) + bound_to t xs

-- a weight of blocks is what a node adds, what its simple operands add, and what the variable adds that is bound
pub record Agrees (W : Block → ℕ) (m : Form → ℕ) (t : Option ℕ → ℕ) : Type 0 where
  pub at_end : t None ≡ 0
  pub value : (n : ℕ) → t (Some (value_name n)) ≡ 0
  pub quote : (k : Option ℕ) (c : Const) → own W k (A.Atom (A.Quote c)) ≡ t k + m (Quote c)
  pub variable : (k : Option ℕ) (x : ℕ) → own W k (A.Atom (A.Var x)) ≡ t k + m (Local x)
  pub global : (k : Option ℕ) (g : ℕ) (p : Place) → own W k (A.Global g p) ≡ t k + m (Global g)
  pub lambda : (k : Option ℕ) (l : ℕ) → own W k (A.Close l) ≡ t k + m (Lambda l)
  pub branch : (k : Option ℕ) (n : ℕ) (a b c : Tree) (d e : Block) → own W k (A.Branch (atom n a) d e) ≡ t k + (m (If a b c) + simple m a)
  pub new_cell : (k : Option ℕ) (n : ℕ) (e : Tree) → own W k (A.NewCell (atom n e)) ≡ t k + (m (NewCell e) + simple m e)
  pub cell_get : (k : Option ℕ) (n : ℕ) (e : Tree) (p : Place) → own W k (A.CellGet (atom n e) p) ≡ t k + (m (CellGet e) + simple m e)
  pub cell_set : (k : Option ℕ) (n i : ℕ) (c e : Tree) → own W k (A.CellSet (atom n c) (atom i e)) ≡ t k + (m (CellSet c e) + (simple m c + simple m e))
  pub set_global : (k : Option ℕ) (n g : ℕ) (e : Tree) (p : Place) → own W k (A.SetGlobal g (atom n e) p) ≡ t k + (m (SetGlobal g e) + simple m e)
  pub def_global : (k : Option ℕ) (n g : ℕ) (e : Tree) → own W k (A.DefGlobal g (atom n e)) ≡ t k + (m (DefGlobal g e) + simple m e)
  pub names : (xs : List ℕ) (es : Trees) (e : Tree) → m (Let xs es e) ≡ bound_to t xs
  pub close : (xs ls : List ℕ) (e : Tree) → W (A.CloseAll xs ls stub) ≡ m (Letrec xs ls e)
  pub sequence : (es : Trees) → m (Seq es) ≡ 0
  pub call : (k : Option ℕ) (n i : ℕ) (f : Tree) (es : Trees) (p : Place) → own W k (A.Call (atom n f) (atoms i es) p) ≡ t k + (m (Call f es) + (simple m f + simple_all m es))
  pub direct : (k : Option ℕ) (n l : ℕ) (es : Trees) → own W k (A.Direct l (atoms n es)) ≡ t k + (m (Direct l es) + simple_all m es)
  pub prim : (k : Option ℕ) (n : ℕ) (q : Primitive) (es : Trees) (p : Place) → own W k (A.PrimUse q (atoms n es) p) ≡ t k + (m (PrimUse q es) + simple_all m es)
  pub apply : (k : Option ℕ) (n i : ℕ) (f l : Tree) (p : Place) → own W k (A.Apply (atom n f) (atom i l) p) ≡ t k + (m (Apply f l) + (simple m f + simple m l))

-- operations and nodes other than those that make a closure or a cell, or bind variables
abbrev pub IsOther : A.Op → Type 0
IsOther (A.Close l) = ⊥
IsOther (A.NewCell a) = ⊥
IsOther op = Unit {0}

abbrev pub IsOtherForm : Form → Type 0
IsOtherForm (Lambda l) = ⊥
IsOtherForm (NewCell e) = ⊥
IsOtherForm (Let xs es e) = ⊥
IsOtherForm (Letrec xs ls e) = ⊥
IsOtherForm f = Unit {0}

-- the same for what others do not add to
pub record IsPlain (W : Block → ℕ) (m : Form → ℕ) (t : Option ℕ → ℕ) (u : A.Op → ℕ) : Type 0 where
  pub own_is : (k : Option ℕ) (op : A.Op) → own W k op ≡ t k + u op
  pub at_end : t None ≡ 0
  pub value : (n : ℕ) → t (Some (value_name n)) ≡ 0
  pub other : (op : A.Op) → IsOther op → u op ≡ 0
  pub other_form : (f : Form) → IsOtherForm f → m f ≡ 0
  pub lambda : (l : ℕ) → u (A.Close l) ≡ m (Lambda l)
  pub new_cell : (n : ℕ) (e : Tree) → u (A.NewCell (atom n e)) ≡ m (NewCell e)
  pub names : (xs : List ℕ) (es : Trees) (e : Tree) → m (Let xs es e) ≡ bound_to t xs
  pub close : (xs ls : List ℕ) (e : Tree) → W (A.CloseAll xs ls stub) ≡ m (Letrec xs ls e)

module _ (W : Block → ℕ) (m : Form → ℕ) (t : Option ℕ → ℕ) (u : A.Op → ℕ) (h : IsPlain W m t u) where
  no_simple : (e : Tree) → simple m e ≡ 0
  no_simple (Node p s (Quote c)) = h.other_form (Quote c) tt
  no_simple (Node p s (Local y)) = h.other_form (Local y) tt
  no_simple (Node p s f) = refl

  none_simple : (es : Trees) → simple_all m es ≡ 0
  none_simple none = refl
  none_simple (more e es) = let a = no_simple e in let b = none_simple es in omega arith

  none_of : (k : Option ℕ) (op : A.Op) (f : Form) → IsOther op → IsOtherForm f → own W k op ≡ t k + (m f + 0)
  none_of k op f i j = let a = h.own_is k op in let b = h.other op i in let c = h.other_form f j in omega arith

  pub plain-agrees : Agrees W m t
  plain-agrees = record {
    at_end = h.at_end;
    value = h.value;
    quote = λ k c. let a = none_of k (A.Atom (A.Quote c)) (Quote c) tt tt in omega arith;
    variable = λ k y. let a = none_of k (A.Atom (A.Var y)) (Local y) tt tt in omega arith;
    global = λ k g p. let a = none_of k (A.Global g p) (Global g) tt tt in omega arith;
    lambda = λ k l. let a = h.own_is k (A.Close l) in let b = h.lambda l in omega arith;
    branch = λ k n a b c d e. let o = none_of k (A.Branch (atom n a) d e) (If a b c) tt tt in let i = no_simple a in omega arith;
    new_cell = λ k n e. let o = h.own_is k (A.NewCell (atom n e)) in let b = h.new_cell n e in let i = no_simple e in omega arith;
    cell_get = λ k n e p. let o = none_of k (A.CellGet (atom n e) p) (CellGet e) tt tt in let i = no_simple e in omega arith;
    cell_set = λ k n i c e. let o = none_of k (A.CellSet (atom n c) (atom i e)) (CellSet c e) tt tt in let a = no_simple c in let b = no_simple e in omega arith;
    set_global = λ k n g e p. let o = none_of k (A.SetGlobal g (atom n e) p) (SetGlobal g e) tt tt in let i = no_simple e in omega arith;
    def_global = λ k n g e. let o = none_of k (A.DefGlobal g (atom n e)) (DefGlobal g e) tt tt in let i = no_simple e in omega arith;
    names = h.names;
    close = h.close;
    sequence = λ es. h.other_form (Seq es) tt;
    call = λ k n i f es p. let o = none_of k (A.Call (atom n f) (atoms i es) p) (Call f es) tt tt in let a = no_simple f in let b = none_simple es in omega arith;
    direct = λ k n l es. let o = none_of k (A.Direct l (atoms n es)) (Direct l es) tt tt in let b = none_simple es in omega arith;
    prim = λ k n q es p. let o = none_of k (A.PrimUse q (atoms n es) p) (PrimUse q es) tt tt in let b = none_simple es in omega arith;
    apply = λ k n i f l p. let o = none_of k (A.Apply (atom n f) (atom i l) p) (Apply f l) tt tt in let a = no_simple f in let b = no_simple l in omega arith;
  }

module _ (W : Block → ℕ) (m : Form → ℕ) (t : Option ℕ → ℕ) (agrees : Agrees W m t) (x : Context) where
  abbrev line : ℕ → Option (List ℕ)
  line = x.line

  mutual
    pub tree-agrees : (e : Tree) → Every (ProperNode x Any) (nodes e) → (n : ℕ) (k : Option ℕ) → adds W line n e k ≡ t k + weigh m (nodes e)
    tree-agrees (Node p s f) h n k = form_agrees n p s f k h.0 h.1

    form_agrees : (n : ℕ) (p : Place) (s : ℕ) (f : Form) (k : Option ℕ) → Proper x Any s f → Every (ProperNode x Any) (nodes_in f) →
        adds_form W line n p f k ≡ t k + (m f + weigh m (nodes_in f))
    form_agrees n p s (Quote c) k pr h = let a = agrees.quote k c in omega arith
    form_agrees n p s (Local y) k pr h = let a = agrees.variable k y in omega arith
    form_agrees n p s (Global g) k pr h = let a = agrees.global k g p in omega arith
    form_agrees n p s (Lambda l) k pr h = let a = agrees.lambda k l in omega arith
    form_agrees n p s (If a b c) k pr h =
        let o = agrees.branch k (suc n) a b c (block_of line (suc n + size a) b AtEnd) (block_of line (suc n + (size a + size b)) c AtEnd) in
        let u = operand_agrees a (every-left _ (nodes a) _ h) (suc n) in
        let v = tree-agrees b (every-left _ (nodes b) _ (every-right _ (nodes a) _ h)) (suc n + size a) None in
        let w = tree-agrees c (every-right _ (nodes b) _ (every-right _ (nodes a) _ h)) (suc n + (size a + size b)) None in
        let z = agrees.at_end in
        let i = weigh-append m (nodes a) (nodes b ++ nodes c) in let j = weigh-append m (nodes b) (nodes c) in omega arith
    form_agrees n p s (NewCell e) k pr h = let o = agrees.new_cell k (suc n) e in let u = operand_agrees e h (suc n) in omega arith
    form_agrees n p s (CellGet e) k pr h = let o = agrees.cell_get k (suc n) e p in let u = operand_agrees e h (suc n) in omega arith
    form_agrees n p s (CellSet c e) k pr h =
        let o = agrees.cell_set k (suc n) (suc n + size c) c e in
        let u = operand_agrees c (every-left _ (nodes c) _ h) (suc n) in
        let v = operand_agrees e (every-right _ (nodes c) _ h) (suc n + size c) in
        let i = weigh-append m (nodes c) (nodes e) in omega arith
    form_agrees n p s (SetGlobal g e) k pr h = let o = agrees.set_global k (suc n) g e p in let u = operand_agrees e h (suc n) in omega arith
    form_agrees n p s (DefGlobal g e) k pr h = let o = agrees.def_global k (suc n) g e in let u = operand_agrees e h (suc n) in omega arith
    form_agrees n p s (Let ys es e) k pr h =
        let o = agrees.names ys es e in
        let u = named_agrees ys es (every-left _ (nodes_of es) _ h) pr.long (suc n) in
        let v = tree-agrees e (every-right _ (nodes_of es) _ h) (suc n + size_all es) k in
        let i = weigh-append m (nodes_of es) (nodes e) in omega arith
    form_agrees n p s (Letrec ys ls e) k pr h = let o = agrees.close ys ls e in let u = tree-agrees e h (suc n) k in omega arith
    form_agrees n p s (Seq es) k pr h = let o = agrees.sequence es in let u = sequence_agrees es h pr.long (suc n) k in omega arith
    form_agrees n p s (Call f es) k pr h =
        let o = agrees.call k (suc n) (suc n + size f) f es p in
        let u = operand_agrees f (every-left _ (nodes f) _ h) (suc n) in
        let v = all_agree es (every-right _ (nodes f) _ h) (suc n + size f) in
        let i = weigh-append m (nodes f) (nodes_of es) in omega arith
    form_agrees n p s (Direct l es) k pr h = let o = agrees.direct k (suc n) l es in let u = all_agree es h (suc n) in omega arith
    form_agrees n p s (PrimUse q es) k pr h = let o = agrees.prim k (suc n) q es p in let u = all_agree es h (suc n) in omega arith
    form_agrees n p s (Apply f l) k pr h =
        let o = agrees.apply k (suc n) (suc n + size f) f l p in
        let u = operand_agrees f (every-left _ (nodes f) _ h) (suc n) in
        let v = operand_agrees l (every-right _ (nodes f) _ h) (suc n + size f) in
        let i = weigh-append m (nodes f) (nodes l) in omega arith

    operand_agrees : (e : Tree) → Every (ProperNode x Any) (nodes e) → (n : ℕ) → adds_bound W line n e + simple m e ≡ weigh m (nodes e)
    operand_agrees (Node p s (Quote c)) h n = omega arith
    operand_agrees (Node p s (Local y)) h n = omega arith
    operand_agrees (Node p s f) h n =
        let u = form_agrees n p s f (Some (value_name n)) h.0 h.1 in let z = agrees.value n in omega arith

    all_agree : (es : Trees) → Every (ProperNode x Any) (nodes_of es) → (n : ℕ) → adds_all W line n es + simple_all m es ≡ weigh m (nodes_of es)
    all_agree none h n = refl
    all_agree (more e es) h n =
        let u = operand_agrees e (every-left _ (nodes e) _ h) n in
        let v = all_agree es (every-right _ (nodes e) _ h) (n + size e) in
        let i = weigh-append m (nodes e) (nodes_of es) in omega arith

    named_agrees : (ys : List ℕ) (es : Trees) → Every (ProperNode x Any) (nodes_of es) → length ys ≡ count es → (n : ℕ) →
        adds_named W line n ys es ≡ bound_to t ys + weigh m (nodes_of es)
    named_agrees [] none h q n = refl
    named_agrees [] (more e es) h q n = absurd (omega arith)
    named_agrees (y ∷ ys) none h q n = absurd (omega arith)
    named_agrees (y ∷ ys) (more e es) h q n =
        let u = tree-agrees e (every-left _ (nodes e) _ h) n (Some y) in
        let v = named_agrees ys es (every-right _ (nodes e) _ h) (omega arith) (n + size e) in
        let i = weigh-append m (nodes e) (nodes_of es) in omega arith

    sequence_agrees : (es : Trees) → Every (ProperNode x Any) (nodes_of es) → 1 ≤ count es → (n : ℕ) (k : Option ℕ) →
        adds_sequence W line n es k ≡ t k + weigh m (nodes_of es)
    sequence_agrees none h q n k = absurd (omega arith)
    sequence_agrees (more e none) h q n k =
        let u = tree-agrees e (every-left _ (nodes e) _ h) n k in let i = weigh-append m (nodes e) [] in omega arith
    sequence_agrees (more e (more d ds)) h q n k =
        let u = tree-agrees e (every-left _ (nodes e) _ h) n (Some (value_name n)) in
        let v = sequence_agrees (more d ds) (every-right _ (nodes e) _ h) (omega arith) (n + size e) k in
        let z = agrees.value n in
        let i = weigh-append m (nodes e) (nodes_of (more d ds)) in omega arith
