-- What holds of every block of a normal form: a fact about blocks that the nodes of the source have for theirs.
use Rattle.std.proofs.Common.{ℕ, zero, suc, ◌+◌, List, [], ◌∷◌, ◌++◌, Option, Some, None, slice_get}
use Rattle.tb_prim.specs.declared.place.Place.{Place}
use Rattle.tb_prim.specs.declared.constant.Const.{Const}
use Rattle.tb_prim.specs.declared.primitive.Primitive.{Primitive}
use Rattle.tb_core.specs.OperandOrder.{Line}
use Rattle.tb_core.specs.Rules.{Every}
use Rattle.tb_ir.specs.AnfRules.{all_blocks, blocks, blocks_in, blocks_of}
use Rattle.tb_ir.specs.AnfTree as A
use Rattle.tb_ir.specs.AnfTree.{Block, Op, ProcTree}
use Rattle.tb_ir.specs.Rules.{all_nodes, nodes, nodes_in, nodes_of, nodes_of_lambdas, other_parts}
use Rattle.tb_ir.specs.Tree.{Tree, Node, Form, Quote, Local, Global, Lambda, If, NewCell, CellGet, CellSet, SetGlobal, DefGlobal, Let, Letrec, Seq, Call, Direct, PrimUse, Apply, Trees, none, more, LambdaTree, ProgramTree}
use Rattle.tb_ir.specs.TreeMachine.{numbers, line_of}
use Rattle.tb_anf.specs.NormalForm.{After, AtEnd, Then, put, around, around_at, size, size_all, atom, atoms, value_name, bound, bound_operands, named_operands, block_of, block_of_form, block_of_sequence, form_procs, lambda_procs, normal_form}
use Rattle.tb_anf.proofs.Operands.{every-left, every-right}
use Rattle.tb_anf.proofs.Scopes.{every-append}
use Rattle.tb_anf.proofs.TreeParts.{parts}

-- the operation of a node that is neither a `let` nor a `letrec`, nor a sequence of some expressions
pub data Makes (p : Place) : Form → Op → Type 0 where
  of_quote : (c : Const) → Makes p (Quote c) (A.Atom (A.Quote c))
  of_local : (y : ℕ) → Makes p (Local y) (A.Atom (A.Var y))
  of_global : (g : ℕ) → Makes p (Global g) (A.Global g p)
  of_lambda : (l : ℕ) → Makes p (Lambda l) (A.Close l)
  of_if : (n : ℕ) (a b c : Tree) (d e : Block) → Makes p (If a b c) (A.Branch (atom n a) d e)
  of_new_cell : (n : ℕ) (e : Tree) → Makes p (NewCell e) (A.NewCell (atom n e))
  of_cell_get : (n : ℕ) (e : Tree) → Makes p (CellGet e) (A.CellGet (atom n e) p)
  of_cell_set : (n i : ℕ) (c e : Tree) → Makes p (CellSet c e) (A.CellSet (atom n c) (atom i e))
  of_set_global : (n g : ℕ) (e : Tree) → Makes p (SetGlobal g e) (A.SetGlobal g (atom n e) p)
  of_def_global : (n g : ℕ) (e : Tree) → Makes p (DefGlobal g e) (A.DefGlobal g (atom n e))
  of_nothing : Makes p (Seq none) (A.Atom (A.Quote Const.Unspecified))
  of_call : (n i : ℕ) (f : Tree) (es : Trees) → Makes p (Call f es) (A.Call (atom n f) (atoms i es) p)
  of_direct : (n l : ℕ) (es : Trees) → Makes p (Direct l es) (A.Direct l (atoms n es))
  of_prim : (n : ℕ) (q : Primitive) (es : Trees) → Makes p (PrimUse q es) (A.PrimUse q (atoms n es) p)
  of_apply : (n i : ℕ) (f l : Tree) → Makes p (Apply f l) (A.Apply (atom n f) (atom i l) p)

-- a node whose value is that of a part
abbrev pub IsAround : Form → Type 0
IsAround (Let xs es e) = Unit {0}
IsAround (Letrec xs ls e) = Unit {0}
IsAround (Seq es) = Unit {0}
IsAround f = ⊥

abbrev pub kind : After → Option ℕ
kind AtEnd = None
kind (Then y b) = Some y

-- what holds of each of some expressions
abbrev pub AllOf : (Tree → Type 0) → Trees → Type 0
AllOf Inner none = Unit {0}
AllOf Inner (more e es) = Inner e × AllOf Inner es

-- `D` holds of the nodes, `Inner` of the parts of a node that are not operands of a `let`, and `Ready` of an expression
-- and the variable that is bound to its value, if one is
module _ (P : Block → Type 0) (D Inner : Tree → Type 0) (Ready : Option ℕ → Tree → Type 0) where
  -- the block of an operation, in tail position or bound to a variable
  abbrev pub Own : Option ℕ → Op → Type 0
  Own None op = P (A.Tail op)
  Own (Some y) op = (b : Block) → P (A.Bind y op b)

  abbrev pub AllReady : List ℕ → Trees → Type 0
  AllReady (y ∷ ys) (more e es) = Ready (Some y) e × AllReady ys es
  AllReady ys es = Unit {0}

  pub record Walks : Type 0 where
    pub own : (k : Option ℕ) (p : Place) (s : ℕ) (f : Form) (op : Op) → Makes p f op → D (Node p s f) →
        AllOf D (parts f) → Ready k (Node p s f) → Own k op
    pub close : (p : Place) (s : ℕ) (xs ls : List ℕ) (e : Tree) → D (Node p s (Letrec xs ls e)) → (b : Block) →
        P (A.CloseAll xs ls b)
    pub parts_inner : (p : Place) (s : ℕ) (f : Form) → D (Node p s f) → AllOf Inner (other_parts f)
    pub at_end : (e : Tree) → Inner e → Ready None e
    pub value : (n : ℕ) (e : Tree) → Inner e → Ready (Some (value_name n)) e
    pub named : (p : Place) (s : ℕ) (xs : List ℕ) (es : Trees) (e : Tree) → D (Node p s (Let xs es e)) → AllReady xs es
    pub inside : (k : Option ℕ) (p : Place) (s : ℕ) (f : Form) (e : Tree) → IsAround f → Inner e →
        Ready k (Node p s f) → Ready k e

  module _ (w : Walks) (line : ℕ → Option (List ℕ)) where
    abbrev All : Block → Type 0
    All b = Every P (blocks b)

    abbrev Behind : After → Type 0
    Behind AtEnd = Unit {0}
    Behind (Then y b) = All b

    put_all : (k : After) (op : Op) → Own (kind k) op → Every P (blocks_in op) → Behind k → All (put k op)
    put_all AtEnd op o i b = (o, i)
    put_all (Then y d) op o i b = (o d, every-append P (blocks_in op) (blocks d) i b)

    abbrev Goes : Tree → Type 0
    Goes e = (n : ℕ) (k : After) → Ready (kind k) e → Behind k → All (block_of line n e k)

    abbrev AllGo : Trees → Type 0
    AllGo none = Unit {0}
    AllGo (more e es) = Goes e × AllGo es

    first : (e : Tree) → Every D (nodes e) → D e
    first (Node p s f) h = h.0

    all_have : (es : Trees) → Every D (nodes_of es) → AllOf D es
    all_have none h = tt
    all_have (more e es) h = (first e (every-left D (nodes e) _ h), all_have es (every-right D (nodes e) _ h))

    -- an operand is bound before a block
    bound_all : (n : ℕ) (e : Tree) (b : Block) → Goes e → Inner e → All b →
        All (bound line n e b)
    bound_all n (Node p s (Quote c)) b g i h = h
    bound_all n (Node p s (Local y)) b g i h = h
    bound_all n (Node p s f) b g i h = g n (Then (value_name n) b) (w.value n (Node p s f) i) h

    AllKeep : List (Block → Block) → Type 0
    AllKeep [] = Unit {0}
    AllKeep (f ∷ fs) = ((b : Block) → All b → All (f b)) × AllKeep fs

    around_one : (fs : List (Block → Block)) → AllKeep fs → (i : ℕ) (b : Block) → All b →
        All (around_at (slice_get fs i) b)
    unfolding AllKeep
    around_one [] h i b a = a
    around_one (f ∷ fs) h zero b a = h.0 b a
    around_one (f ∷ fs) h (suc i) b a = around_one fs h.1 i b a

    around_all : (fs : List (Block → Block)) → AllKeep fs → (is : List ℕ) (b : Block) → All b → All (around fs is b)
    around_all fs h [] b a = a
    around_all fs h (i ∷ is) b a = around_one fs h i (around fs is b) (around_all fs h is b a)

    operands_keep : (n : ℕ) (es : Trees) → AllGo es → AllOf Inner es → AllKeep (bound_operands line n es)
    unfolding AllKeep
    operands_keep n none g i = tt
    operands_keep n (more e es) g i =
        (λ b h. bound_all n e b g.0 i.0 h, operands_keep (n + size e) es g.1 i.1)

    first_keeps : (n m : ℕ) (f : Tree) (es : Trees) → Goes f → AllGo es → AllOf Inner (more f es) →
        AllKeep ((λ d. bound line n f d) ∷ bound_operands line m es)
    unfolding AllKeep
    first_keeps n m f es g h i = (λ b a. bound_all n f b g i.0 a, operands_keep m es h i.1)

    named_keep : (n : ℕ) (ys : List ℕ) (es : Trees) → AllGo es → AllReady ys es → AllKeep (named_operands line n ys es)
    unfolding AllKeep
    named_keep n [] none g r = tt
    named_keep n [] (more e es) g r = tt
    named_keep n (y ∷ ys) none g r = tt
    named_keep n (y ∷ ys) (more e es) g r = (λ b h. g.0 n (Then y b) r.0 h, named_keep (n + size e) ys es g.1 r.1)

    sequence_all : (n : ℕ) (p : Place) (s : ℕ) (all : Trees) (e : Tree) (es : Trees) (k : After) → AllGo (more e es) →
        AllOf Inner (more e es) → Ready (kind k) (Node p s (Seq all)) → Behind k →
        All (block_of_sequence line n (more e es) k)
    sequence_all n p s all e none k g i r b = g.0 n k (w.inside (kind k) p s (Seq all) e tt i.0 r) b
    sequence_all n p s all e (more c cs) k g i r b =
        g.0 n (Then (value_name n) (block_of_sequence line (n + size e) (more c cs) k)) (w.value n e i.0)
        (sequence_all (n + size e) p s all c cs k g.1 i.1 r b)

    mutual
      pub tree-all : (e : Tree) → Every D (nodes e) → Goes e
      tree-all (Node p s f) h n k r b = form_all n p s f k h.0 h.1 (w.parts_inner p s f h.0) r b

      form_all : (n : ℕ) (p : Place) (s : ℕ) (f : Form) (k : After) → D (Node p s f) → Every D (nodes_in f) →
          AllOf Inner (other_parts f) → Ready (kind k) (Node p s f) → Behind k →
          All (block_of_form line n p s f k)
      form_all n p s (Quote c) k d h i r b = put_all k _ (w.own (kind k) p s (Quote c) _ (of_quote c) d tt r) tt b
      form_all n p s (Local y) k d h i r b = put_all k _ (w.own (kind k) p s (Local y) _ (of_local y) d tt r) tt b
      form_all n p s (Global g) k d h i r b = put_all k _ (w.own (kind k) p s (Global g) _ (of_global g) d tt r) tt b
      form_all n p s (Lambda l) k d h i r b = put_all k _ (w.own (kind k) p s (Lambda l) _ (of_lambda l) d tt r) tt b
      form_all n p s (If a c e) k d h i r b =
          let ha = every-left D (nodes a) _ h in
          let hc = every-left D (nodes c) _ (every-right D (nodes a) _ h) in
          let he = every-right D (nodes c) _ (every-right D (nodes a) _ h) in
          let C = block_of line (suc n + size a) c AtEnd in
          let E = block_of line (suc n + (size a + size c)) e AtEnd in
          bound_all (suc n) a _ (tree-all a ha) i.0
          (put_all k (A.Branch (atom (suc n) a) C E)
          (w.own (kind k) p s (If a c e) _ (of_if (suc n) a c e C E) d (first a ha, (first c hc, (first e he, tt))) r)
          (every-append P (blocks C) (blocks E) (tree-all c hc (suc n + size a) AtEnd (w.at_end c i.1.0) tt)
          (tree-all e he (suc n + (size a + size c)) AtEnd (w.at_end e i.1.1.0) tt)) b)
      form_all n p s (NewCell e) k d h i r b =
          bound_all (suc n) e _ (tree-all e h) i.0
          (put_all k _ (w.own (kind k) p s (NewCell e) _ (of_new_cell (suc n) e) d (first e h, tt) r) tt b)
      form_all n p s (CellGet e) k d h i r b =
          bound_all (suc n) e _ (tree-all e h) i.0
          (put_all k _ (w.own (kind k) p s (CellGet e) _ (of_cell_get (suc n) e) d (first e h, tt) r) tt b)
      form_all n p s (CellSet c e) k d h i r b =
          let hc = every-left D (nodes c) _ h in
          let he = every-right D (nodes c) _ h in
          bound_all (suc n) c _ (tree-all c hc) i.0 (bound_all (suc n + size c) e _ (tree-all e he) i.1.0
          (put_all k _ (w.own (kind k) p s (CellSet c e) _ (of_cell_set (suc n) (suc n + size c) c e) d
          (first c hc, (first e he, tt)) r) tt b))
      form_all n p s (SetGlobal g e) k d h i r b =
          bound_all (suc n) e _ (tree-all e h) i.0
          (put_all k _ (w.own (kind k) p s (SetGlobal g e) _ (of_set_global (suc n) g e) d (first e h, tt) r) tt b)
      form_all n p s (DefGlobal g e) k d h i r b =
          bound_all (suc n) e _ (tree-all e h) i.0
          (put_all k _ (w.own (kind k) p s (DefGlobal g e) _ (of_def_global (suc n) g e) d (first e h, tt) r) tt b)
      form_all n p s (Let ys es e) k d h i r b =
          around_all _ (named_keep (suc n) ys es (all_go es (every-left D (nodes_of es) _ h)) (w.named p s ys es e d))
          (numbers (line s) (Let ys es e)) _
          (tree-all e (every-right D (nodes_of es) _ h) (suc n + size_all es) k
          (w.inside (kind k) p s (Let ys es e) e tt i.0 r) b)
      form_all n p s (Letrec ys ls e) k d h i r b =
          (w.close p s ys ls e d _, tree-all e h (suc n) k (w.inside (kind k) p s (Letrec ys ls e) e tt i.0 r) b)
      form_all n p s (Seq none) k d h i r b = put_all k _ (w.own (kind k) p s (Seq none) _ of_nothing d tt r) tt b
      form_all n p s (Seq (more e es)) k d h i r b =
          sequence_all (suc n) p s (more e es) e es k (all_go (more e es) h) i r b
      form_all n p s (Call f es) k d h i r b =
          let hf = every-left D (nodes f) _ h in
          let hs = every-right D (nodes f) _ h in
          around_all _ (first_keeps (suc n) (suc n + size f) f es (tree-all f hf) (all_go es hs) i)
          (numbers (line s) (Call f es)) _
          (put_all k _ (w.own (kind k) p s (Call f es) _ (of_call (suc n) (suc n + size f) f es) d
          (first f hf, all_have es hs) r) tt b)
      form_all n p s (Direct l es) k d h i r b =
          around_all _ (operands_keep (suc n) es (all_go es h) i) (numbers (line s) (Direct l es)) _
          (put_all k _ (w.own (kind k) p s (Direct l es) _ (of_direct (suc n) l es) d (all_have es h) r) tt b)
      form_all n p s (PrimUse q es) k d h i r b =
          around_all _ (operands_keep (suc n) es (all_go es h) i) (numbers (line s) (PrimUse q es)) _
          (put_all k _ (w.own (kind k) p s (PrimUse q es) _ (of_prim (suc n) q es) d (all_have es h) r) tt b)
      form_all n p s (Apply f l) k d h i r b =
          let hf = every-left D (nodes f) _ h in
          let hl = every-right D (nodes f) _ h in
          around_all _ (first_keeps (suc n) (suc n + size f) f (more l none) (tree-all f hf) (tree-all l hl, tt) i)
          (numbers (line s) (Apply f l)) _
          (put_all k _ (w.own (kind k) p s (Apply f l) _ (of_apply (suc n) (suc n + size f) f l) d
          (first f hf, (first l hl, tt)) r) tt b)

      all_go : (es : Trees) → Every D (nodes_of es) → AllGo es
      all_go none h = tt
      all_go (more e es) h = (tree-all e (every-left D (nodes e) _ h), all_go es (every-right D (nodes e) _ h))

    pub body-all : (n : ℕ) (e : Tree) → Every D (nodes e) → Inner e →
        Every P (blocks (block_of line n e AtEnd))
    body-all n e h i = tree-all e h n AtEnd (w.at_end e i) tt

-- what holds of the blocks of each body holds of all blocks of the normal form
module _ (P : Block → Type 0) (D Inner : Tree → Type 0) (Ready : Option ℕ → Tree → Type 0)
    (w : Walks P D Inner Ready) (p : ProgramTree)
    (order : List Line) where
  forms_all : (n : ℕ) (es : Trees) → Every D (nodes_of es) → AllOf Inner es →
      Every P (blocks_of (form_procs (line_of order) n es))
  forms_all n none h k = tt
  forms_all n (more (Node q s f) es) h k =
      let e = Node q s f in
      every-append P (blocks (block_of (line_of order) n e AtEnd)) _
      (body-all P D Inner Ready w (line_of order) n e (every-left D (nodes e) _ h) k.0)
      (forms_all (n + size e) es (every-right D (nodes e) _ h) k.1)

  lambdas_all : (l n : ℕ) (ms : List LambdaTree) → Every D (nodes_of_lambdas ms) →
      Every (λ (m : LambdaTree). Inner m.body) ms →
      Every P (blocks_of (lambda_procs p (line_of order) l n ms))
  lambdas_all l n [] h k = tt
  lambdas_all l n (m ∷ ms) h k =
      every-append P (blocks (block_of (line_of order) n m.body AtEnd)) _
      (body-all P D Inner Ready w (line_of order) n m.body (every-left D (nodes m.body) _ h) k.0)
      (lambdas_all (suc l) (n + size m.body) ms (every-right D (nodes m.body) _ h) k.1)

  both_all : (qs rs : List ProcTree) → Every P (blocks_of qs) → Every P (blocks_of rs) → Every P (blocks_of (qs ++ rs))
  both_all [] rs a b = b
  both_all (q ∷ qs) rs a b =
      every-append P (blocks q.body) _ (every-left P (blocks q.body) _ a)
      (both_all qs rs (every-right P (blocks q.body) _ a) b)

  pub whole-all : Every D (all_nodes p) → AllOf Inner p.forms →
      Every (λ (m : LambdaTree). Inner m.body) p.lambdas →
      Every P (all_blocks (normal_form p order))
  whole-all h forms bodies =
      both_all (form_procs (line_of order) 0 p.forms) (lambda_procs p (line_of order) 0 (size_all p.forms) p.lambdas)
      (forms_all 0 p.forms (every-left D (nodes_of p.forms) _ h) forms)
      (lambdas_all 0 (size_all p.forms) p.lambdas (every-right D (nodes_of p.forms) _ h) bodies)
