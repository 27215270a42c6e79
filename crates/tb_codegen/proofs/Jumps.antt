-- Plain code goes on to labels ahead: each jump and branch names one that stands behind it, before the next `proc`, or
-- the entry of a lifted lambda.
use Rattle.std.proofs.Common.{◌≡◌, ℕ, suc, ◌+◌, ◌⊎◌, Bool, true, false, cond, List, [], ◌∷◌, ◌++◌, length, None, refl, sym, subst, inl, inr, ⊎_elim}
use Rattle.tb_prim.specs.declared.constant.Const.{Const}
use Rattle.tb_prim.specs.declared.constant.Static.{Static}
use Rattle.tb_prim.specs.declared.primitive.Primitive.{Primitive}
use Rattle.tb_semantics.specs.Graph.{IsIn}
use Rattle.tb_semantics.proofs.ListLemmas.{in-left, in-right}
use Rattle.tb_core.specs.FreeVariables.{is_in}
use Rattle.tb_ir.specs.AnfTree.{Operand, Quote, Var, Block, Bind, CloseAll, Tail, Op, Atom, Global, SetGlobal, DefGlobal, PrimUse, NewCell, CellGet, CellSet, Close, Call, Direct, Apply, Branch, AnfTree}
use Rattle.tb_mac.specs.declared.code.Instr.{Instr}
use Rattle.tb_mac.specs.declared.code.Instr.TheVariants as I
use Rattle.tb_codegen.specs.Notes.{Entry, Waiting, ToCaller, ToTop, Then, Point, AtBlock, AtAll, Note, AtLifted, Noted, Mark, Does}
use Rattle.tb_codegen.specs.Operations.{Body, act, behind, block_map, constant, evaluated, fills, first_register, here, is_call, leaving, load, loaded, loads, operands, returning, simple, use_of}
use Rattle.tb_codegen.specs.Generate.{all_words, block_note, code_block, code_bound, code_last, counts, given, group, group_map, keep, labels_in, labels_of, last, makes, passed, passing, stores_captured, stores_operands, words, writes, zeros}
use Rattle.tb_codegen.proofs.BlockChains.{ArmsOk, BlockOk}
use Rattle.tb_codegen.proofs.CodeChains.{bound-plain, is_branch, last-plain, other-ok}
use Rattle.tb_codegen.proofs.Labels.{marks, marks-append}
use Rattle.tb_codegen.proofs.OperationChains.{OpOk, body}

-- an instruction of a body: what it jumps to is one of these labels, and it is no `proc`
abbrev pub Lands : (ℕ → Type 0) → Instr → Type 0
Lands T (I.Jump l) = T l
Lands T (I.Brf a l) = T l
Lands T (I.Proc x) = ⊥
Lands T i = Unit {0}

-- items of a body, each of which jumps to a label behind it, or to one of these
abbrev pub Piece : (ℕ → Type 0) → List Noted → Type 0
Piece T [] = Unit {0}
Piece T (Mark l n ∷ is) = Piece T is
Piece T (Does i n q ∷ is) = Lands (λ l. IsIn l (marks is) ⊎ T l) i × Piece T is

lands-more : (T U : ℕ → Type 0) → ((l : ℕ) → T l → U l) → (i : Instr) → Lands T i → Lands U i
lands-more T U f (I.Jump l) h = f l h
lands-more T U f (I.Brf a l) h = f l h
lands-more T U f (I.Proc x) h = h
lands-more T U f _ h = tt

marks-left : (is js : List Noted) (l : ℕ) → IsIn l (marks is) → IsIn l (marks (is ++ js))
marks-left is js l i = subst (IsIn l) (sym (marks-append is js)) (in-left (marks is) (marks js) l i)

marks-right : (is js : List Noted) (l : ℕ) → IsIn l (marks js) → IsIn l (marks (is ++ js))
marks-right is js l i = subst (IsIn l) (sym (marks-append is js)) (in-right (marks is) (marks js) l i)

-- items that follow one another; the first ones may jump to the labels of the others
piece-append : (T : ℕ → Type 0) (is js : List Noted) → Piece (λ l. IsIn l (marks js) ⊎ T l) is → Piece T js → Piece T (is ++ js)
piece-append T [] js g h = h
piece-append T (Mark l n ∷ is) js g h = piece-append T is js g h
piece-append T (Does i n q ∷ is) js g h = (
  lands-more (λ l. IsIn l (marks is) ⊎ (IsIn l (marks js) ⊎ T l)) (λ l. IsIn l (marks (is ++ js)) ⊎ T l)
      (λ l. ⊎_elim (λ j. inl (marks-left is js l j)) (λ k. ⊎_elim (λ j. inl (marks-right is js l j)) (λ t. inr t) k)) i g.0,
  piece-append T is js g.1 h,
)

piece-more : (T U : ℕ → Type 0) → ((l : ℕ) → T l → U l) → (is : List Noted) → Piece T is → Piece U is
piece-more T U f [] h = tt
piece-more T U f (Mark l n ∷ is) h = piece-more T U f is h
piece-more T U f (Does i n q ∷ is) h = (
  lands-more (λ l. IsIn l (marks is) ⊎ T l) (λ l. IsIn l (marks is) ⊎ U l) (λ l. ⊎_elim (λ j. inl j) (λ t. inr (f l t))) i h.0,
  piece-more T U f is h.1,
)

pub pieces : (T : ℕ → Type 0) (is js : List Noted) → Piece T is → Piece T js → Piece T (is ++ js)
pieces T is js g h = piece-append T is js (piece-more T (λ l. IsIn l (marks js) ⊎ T l) (λ l t. inr t) is g) h

-- the entry of a lifted lambda among the items
abbrev pub IsLiftedAt : List Noted → ℕ → Type 0
IsLiftedAt all l = (m : ℕ) × (es : List Entry) × IsIn (Mark l (AtLifted m es)) all

module _ (c : Body) (T : ℕ → Type 0) where
  constant-lands : (statics : List Static) (a : ℕ) (k : Const) → Lands T (constant statics a k)
  constant-lands statics a (Const.Stat n) = tt
  constant-lands statics a (Const.Fix v) = tt
  constant-lands statics a (Const.Char v) = tt
  constant-lands statics a (Const.Bool b) = tt
  constant-lands statics a Const.Nil = tt
  constant-lands statics a Const.Unspecified = tt
  constant-lands statics a Const.Undefined = tt

  load-lands : (a : ℕ) (d : Operand) → Lands T (load c a d)
  load-lands a (Quote k) = constant-lands c.statics a k
  load-lands a (Var x) = tt

  use-lands : (q : Primitive) (ds : List Operand) → Lands T (use_of q ds)
  use-lands q [] = tt
  use-lands q (a ∷ []) = tt
  use-lands q (a ∷ b ∷ []) = tt
  use-lands q (a ∷ b ∷ d ∷ ds) = tt

-- the instruction of an operation that is no branch
abbrev Lifts-in : (ℕ → Type 0) → Op → Type 0
Lifts-in T (Direct m ds) = T m
Lifts-in T (Branch a b d) = ⊥
Lifts-in T op = Unit {0}

act-lands : (c : Body) (T : ℕ → Type 0) (l : ℕ) (op : Op) → Lifts-in T op → Lands T (act c l op)
act-lands c T l (Atom a) h = load-lands c T 16 a
act-lands c T l (Global g q) h = tt
act-lands c T l (SetGlobal g a q) h = tt
act-lands c T l (DefGlobal g a) h = tt
act-lands c T l (PrimUse q ds r) h = use-lands c T q ds
act-lands c T l (NewCell a) h = tt
act-lands c T l (CellGet a q) h = tt
act-lands c T l (CellSet a b) h = tt
act-lands c T l (Close m) h = tt
act-lands c T l (Call f ds q) h = tt
act-lands c T l (Direct m ds) h = h
act-lands c T l (Apply f a q) h = tt
act-lands c T l (Branch a b d) h = absurd h

lifts-more : (T U : ℕ → Type 0) → ((l : ℕ) → T l → U l) → (op : Op) → Lifts-in T op → Lifts-in U op
lifts-more T U f (Direct m ds) h = f m h
lifts-more T U f (Branch a b d) h = h
lifts-more T U f _ h = tt

-- items without jumps
loads-piece : (c : Body) (T : ℕ → Type 0) (pt : Point) (a : ℕ) (ds : List Operand) (es : List Entry) → Piece T (loads c pt a ds es)
loads-piece c T pt a [] es = tt
loads-piece c T pt a (d ∷ ds) es = (load-lands c _ a d, loads-piece c T pt (suc a) ds _)

fills-piece : (c : Body) (T : ℕ → Type 0) (m : ℕ) (js : Waiting) (j : ℕ) (xs : List ℕ) → Piece T (fills c m js j xs)
fills-piece c T m js j [] = tt
fills-piece c T m js j (x ∷ xs) = (tt, (tt, fills-piece c T m js (suc j) xs))

behind-piece : (c : Body) (T : ℕ → Type 0) (js : Waiting) (op : Op) → Piece T (behind c js op)
behind-piece c T js (SetGlobal g a q) = (tt, tt)
behind-piece c T js (DefGlobal g a) = (tt, tt)
behind-piece c T js (CellSet a b) = (tt, tt)
behind-piece c T js (Close m) = fills-piece c T m js 0 (c.captured m)
behind-piece c T js (Atom a) = tt
behind-piece c T js (Global g q) = tt
behind-piece c T js (PrimUse r ds q) = tt
behind-piece c T js (NewCell a) = tt
behind-piece c T js (CellGet a q) = tt
behind-piece c T js (Call f ds q) = tt
behind-piece c T js (Direct m ds) = tt
behind-piece c T js (Apply f a q) = tt
behind-piece c T js (Branch a b d) = tt

makes-piece : (c : Body) (T : ℕ → Type 0) (xs ls : List ℕ) (b : Block) (js : Waiting) (done ys ms : List ℕ) → Piece T (makes c xs ls b js done ys ms)
makes-piece c T xs ls b js done (y ∷ ys) (m ∷ ms) = (tt, (tt, makes-piece c T xs ls b js (done ++ y ∷ []) ys ms))
makes-piece c T xs ls b js done [] [] = tt
makes-piece c T xs ls b js done (y ∷ ys) [] = tt
makes-piece c T xs ls b js done [] (m ∷ ms) = tt

words-piece : (c : Body) (T : ℕ → Type 0) (y : ℕ) (pt : ℕ → Point) (es : List Entry) (j : ℕ) (xs : List ℕ) → Piece T (words c y pt es j xs)
words-piece c T y pt es j [] = tt
words-piece c T y pt es j (x ∷ xs) = (tt, (tt, words-piece c T y pt es (suc j) xs))

all-words-piece : (c : Body) (T : ℕ → Type 0) (y : ℕ) (pt : ℕ → Point) (es : List Entry) (xs : List ℕ) → Piece T (all_words c y pt es xs)
all-words-piece c T y pt es [] = tt
all-words-piece c T y pt es (x ∷ xs) = (tt, words-piece c T y pt es 0 (x ∷ xs))

writes-piece : (c : Body) (T : ℕ → Type 0) (xs ls : List ℕ) (b : Block) (js : Waiting) (done ys ms : List ℕ) → Piece T (writes c xs ls b js done ys ms)
writes-piece c T xs ls b js done (y ∷ ys) (m ∷ ms) =
    let pt : ℕ → Point = λ j. AtAll (length xs) (counts c done ++ (j ∷ zeros ms)) xs ls b js in
    pieces T (all_words c y pt (group_map c xs ls b js xs) (c.captured m)) (writes c xs ls b js (done ++ m ∷ []) ys ms)
    (all-words-piece c T y pt (group_map c xs ls b js xs) (c.captured m))
    (writes-piece c T xs ls b js (done ++ m ∷ []) ys ms)
writes-piece c T xs ls b js done [] [] = tt
writes-piece c T xs ls b js done (y ∷ ys) [] = tt
writes-piece c T xs ls b js done [] (m ∷ ms) = tt

pub stores-captured-piece : (c : Body) (T : ℕ → Type 0) (n : ℕ) (pt : Point) (es : List Entry) (j : ℕ) (xs done : List ℕ) →
    Piece T (stores_captured c n pt es j xs done)
stores-captured-piece c T n pt es j [] done = tt
stores-captured-piece c T n pt es j (x ∷ xs) done = (tt, (tt, stores-captured-piece c T n pt es (suc j) xs (x ∷ done)))

pub stores-operands-piece : (c : Body) (T : ℕ → Type 0) (pt : Point) (us : List ℕ) (a : ℕ) (ys done : List ℕ) → Piece T (stores_operands c pt us a ys done)
stores-operands-piece c T pt us a [] done = tt
stores-operands-piece c T pt us a (y ∷ ys) done =
    by (is_in us y) _ _ _ (stores-operands-piece c T pt us (suc a) ys (y ∷ done)) (stores-operands-piece c T pt us (suc a) ys done)
  where
    by : (b : Bool) (n : Note) (is js : List Noted) → Piece T is → Piece T js → Piece T (cond b (Does (I.Store a (c.home y)) n None ∷ is) js)
    by true n is js g h = (tt, g)
    by false n is js g h = h

-- an operation that is no branch
evaluated-piece : (c : Body) (T : ℕ → Type 0) (op : Op) (pt : Point) (js : Waiting) (l : ℕ) (es : List Entry) → Lifts-in T op →
    Piece T (evaluated c op pt js l es)
evaluated-piece c T op pt js l es h = by (is_call op)
  where
    by : (b : Bool) → Piece T (cond b (returning c op pt js l es) (simple c op pt js es))
    by true =
        pieces T (loads c pt (first_register op) (operands op) es) _ (loads-piece c T pt (first_register op) (operands op) es)
        (tt, (act-lands c _ l op (lifts-more T _ (λ m t. inr t) op h), tt))
    by false =
        pieces T (loads c pt (first_register op) (operands op) es) _ (loads-piece c T pt (first_register op) (operands op) es)
        (act-lands c _ 0 op (lifts-more T _ (λ m t. inr t) op h), behind-piece c T js op)

leaving-piece : (c : Body) (T : ℕ → Type 0) (op : Op) (pt : Point) (es : List Entry) → Lifts-in T op → Piece T (leaving c op pt es)
leaving-piece c T op pt es h =
    pieces T (loads c pt (first_register op) (operands op) es) _ (loads-piece c T pt (first_register op) (operands op) es)
    (tt, (act-lands c _ 0 op (lifts-more T _ (λ m t. inr t) op h), tt))

-- the label of the block that waits is one of these
abbrev pub Awaits : (ℕ → Type 0) → Waiting → Type 0
Awaits T ToCaller = Unit {0}
Awaits T (ToTop k) = Unit {0}
Awaits T (Then x b l js) = T l

awaits-more : (T U : ℕ → Type 0) → ((l : ℕ) → T l → U l) → (js : Waiting) → Awaits T js → Awaits U js
awaits-more T U f ToCaller h = tt
awaits-more T U f (ToTop k) h = tt
awaits-more T U f (Then x b l js) h = f l h

given-piece : (c : Body) (T : ℕ → Type 0) (js : Waiting) → Awaits T js → Piece T (given c js)
given-piece c T ToCaller h = (tt, (tt, tt))
given-piece c T (ToTop k) h = (tt, tt)
given-piece c T (Then x b l js) h = (tt, (inr h, tt))

last-piece : (c : Body) (T : ℕ → Type 0) (op : Op) (js : Waiting) (l : ℕ) → Lifts-in T op → Awaits T js → Piece T (last c op js l)
last-piece c T op ToCaller l h w = by (is_call op)
  where
    by : (b : Bool) → Piece T (cond b (leaving c op (AtBlock (Tail op) ToCaller) (block_map c (Tail op) ToCaller))
        (evaluated c op (AtBlock (Tail op) ToCaller) ToCaller l (block_map c (Tail op) ToCaller) ++ given c ToCaller))
    by true = leaving-piece c T op _ _ h
    by false =
        pieces T (evaluated c op (AtBlock (Tail op) ToCaller) ToCaller l (block_map c (Tail op) ToCaller)) _ (evaluated-piece c T op _ _ l _ h)
        (given-piece c T ToCaller tt)
last-piece c T op (ToTop k) l h w =
    pieces T (evaluated c op (AtBlock (Tail op) (ToTop k)) (ToTop k) l (block_map c (Tail op) (ToTop k))) _ (evaluated-piece c T op _ _ l _ h)
    (given-piece c T (ToTop k) w)
last-piece c T op (Then x b m js) l h w =
    pieces T (evaluated c op (AtBlock (Tail op) (Then x b m js)) (Then x b m js) l (block_map c (Tail op) (Then x b m js))) _
    (evaluated-piece c T op _ _ l _ h) (given-piece c T (Then x b m js) w)

passing-piece : (T : ℕ → Type 0) (js : Waiting) (l : ℕ) → (IsIn l (marks (passed js l)) → T l) → Piece T (passing js l)
passing-piece T ToCaller l f = tt
passing-piece T (ToTop k) l f = (inr (f (inl refl)), tt)
passing-piece T (Then x b m js) l f = tt

passed-piece : (T : ℕ → Type 0) (js : Waiting) (l : ℕ) → Piece T (passed js l)
passed-piece T ToCaller l = tt
passed-piece T (ToTop k) l = tt
passed-piece T (Then x b m js) l = tt

module _ (p : AnfTree) (all : List Noted) (home : ℕ → ℕ) (size : ℕ) where
  abbrev c : Body
  c = body p all home size

  -- the entries of lifted lambdas are among these labels
  abbrev pub Enters : (ℕ → Type 0) → Type 0
  Enters T = (l : ℕ) → IsLiftedAt all l → T l

  lifts-of : (T : ℕ → Type 0) (op : Op) → Enters T → is_branch op ≡ false → OpOk p all home size op → Lifts-in T op
  lifts-of T (Direct m ds) e f w = let r = w.2 in e m (m, _, r.1.mark)
  lifts-of T (Branch a b d) e f w = w
  lifts-of T (Atom a) e f w = tt
  lifts-of T (Global g q) e f w = tt
  lifts-of T (SetGlobal g a q) e f w = tt
  lifts-of T (DefGlobal g a) e f w = tt
  lifts-of T (PrimUse r ds q) e f w = tt
  lifts-of T (NewCell a) e f w = tt
  lifts-of T (CellGet a q) e f w = tt
  lifts-of T (CellSet a b) e f w = tt
  lifts-of T (Close m) e f w = tt
  lifts-of T (Call f2 ds q) e f w = tt
  lifts-of T (Apply f2 a q) e f w = tt

  bound-piece : (T : ℕ → Type 0) (op : Op) (x : ℕ) (k : Block) (js : Waiting) (l : ℕ) (ws : List ℕ) → is_branch op ≡ false → Enters T →
      ArmsOk p all home size op ws → Piece T (code_bound c op x k js l)
  bound-piece T op x k js l ws f e w =
      subst (Piece T) (sym (bound-plain p all home size op x k js l f))
      (pieces T (evaluated c op (AtBlock (Bind x op k) js) (Then x k l js) l (block_map c (Bind x op k) js)) (keep c x (Then x k l js))
      (evaluated-piece c T op _ _ l _ (lifts-of T op e f (other-ok p all home size op ws f w))) (tt, tt))

  tail-piece : (T : ℕ → Type 0) (op : Op) (js : Waiting) (l : ℕ) (ws : List ℕ) → is_branch op ≡ false → Enters T → Awaits T js →
      ArmsOk p all home size op ws → Piece T (code_last c op js l)
  tail-piece T op js l ws f e a w =
      subst (Piece T) (sym (last-plain p all home size op js l f))
      (last-piece c T op js l (lifts-of T op e f (other-ok p all home size op ws f w)) a)

  -- the test of a branch, and its arms
  test-piece : (T : ℕ → Type 0) (a : Operand) (pt : Point) (l : ℕ) (es : List Entry) (is : List Noted) → IsIn (suc l) (marks is) → Piece T is →
      Piece T (loads c pt 1 (a ∷ []) es ++ (Does (I.Brf 1 (suc l)) (here c pt (loaded 1 (a ∷ []) es)) None ∷ is))
  test-piece T a pt l es is i g = (load-lands c _ 1 a, (inl i, g))

  mutual
    unfolding code_block code_bound code_last

    pub block-piece : (T : ℕ → Type 0) (b : Block) (js : Waiting) (l : ℕ) (ws : List ℕ) → Enters T → Awaits T js → BlockOk p all home size b ws →
        Piece T (code_block c b js l)
    block-piece T (Bind x op k) js l ws e a w =
        pieces T (code_bound c op x k js l) (code_block c k js (l + labels_of op)) (arms-piece T op x k js l _ e w.1.0)
        (block-piece T k js (l + labels_of op) ws e a w.1.1)
    block-piece T (CloseAll xs ls k) js l ws e a w =
        pieces T (group c xs ls k js) (code_block c k js l)
        (pieces T (makes c xs ls k js [] xs ls) (writes c xs ls k js [] xs ls) (makes-piece c T xs ls k js [] xs ls) (writes-piece c T xs ls k js [] xs ls))
        (block-piece T k js l ws e a w.4)
    block-piece T (Tail op) js l ws e a w = ends-piece T op js l ws e a w

    arms-piece : (T : ℕ → Type 0) (op : Op) (x : ℕ) (k : Block) (js : Waiting) (l : ℕ) (ws : List ℕ) → Enters T → ArmsOk p all home size op ws →
        Piece T (code_bound c op x k js l)
    arms-piece T (Branch a b d) x k js l ws e w =
        let arm = Then x k l js in
        let first = code_block c b arm (l + 2) in
        let second = code_block c d arm (l + 2 + labels_in b) in
        let end = Mark l (block_note c k js) ∷ [] in
        let others = Mark (suc l) (block_note c d arm) ∷ (second ++ end) in
        test-piece T a (AtBlock (Bind x (Branch a b d) k) js) l (block_map c (Bind x (Branch a b d) k) js) (first ++ others)
        (marks-right first others (suc l) (inl refl))
        (piece-append T first others
        (block-piece (λ m. IsIn m (marks others) ⊎ T m) b arm (l + 2) _ (λ m h. inr (e m h)) (inl (inr (marks-right second end l (inl refl)))) w.1.0)
        (piece-append T second end
        (block-piece (λ m. IsIn m (marks end) ⊎ T m) d arm (l + 2 + labels_in b) _ (λ m h. inr (e m h)) (inl (inl refl)) w.1.1) tt))
    arms-piece T op x k js l ws e w = bound-piece T op x k js l ws refl e w

    ends-piece : (T : ℕ → Type 0) (op : Op) (js : Waiting) (l : ℕ) (ws : List ℕ) → Enters T → Awaits T js → ArmsOk p all home size op ws →
        Piece T (code_last c op js l)
    ends-piece T (Branch a b d) js l ws e w2 w =
        let first = code_block c b js (l + 2) in
        let second = code_block c d js (l + 2 + labels_in b) in
        let others = Mark (suc l) (block_note c d js) ∷ (second ++ passed js l) in
        test-piece T a (AtBlock (Tail (Branch a b d)) js) l (block_map c (Tail (Branch a b d)) js) (first ++ (passing js l ++ others))
        (marks-right first (passing js l ++ others) (suc l) (marks-right (passing js l) others (suc l) (inl refl)))
        (pieces T first (passing js l ++ others) (block-piece T b js (l + 2) ws e w2 w.1.0)
        (piece-append T (passing js l) others
        (passing-piece (λ m. IsIn m (marks others) ⊎ T m) js l (λ i. inl (inr (marks-right second (passed js l) l i))))
        (pieces T second (passed js l) (block-piece T d js (l + 2 + labels_in b) ws e w2 w.1.1) (passed-piece T js l))))
    ends-piece T op js l ws e w2 w = tail-piece T op js l ws refl e w2 w
