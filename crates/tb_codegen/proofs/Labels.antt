-- No label stands twice among the items of a program: each block has labels of its own, from its first one on.
use Rattle.std.proofs.Common.{◌≡◌, ℕ, suc, ◌<◌, ◌≤◌, ◌+◌, ◌⊎◌, Bool, true, false, cond, List, [], ◌∷◌, ◌++◌, length, Some, None, refl, sym, ap, ◌∙◌, subst, inl, inr, ⊎_elim, append-nil, arith}
use Rattle.tb_semantics.specs.Graph.{IsApart, IsIn}
use Rattle.tb_semantics.proofs.ListLemmas.{in-cases}
use Rattle.tb_core.specs.FreeVariables.{is_in}
use Rattle.tb_ir.specs.AnfTree.{Operand, Block, Bind, CloseAll, Tail, Op, Atom, Global, SetGlobal, DefGlobal, PrimUse, NewCell, CellGet, CellSet, Close, Call, Direct, Apply, Branch, ProcTree, AnfTree}
use Rattle.tb_ir.specs.AnfRules.{forms_of, lambdas_of}
use Rattle.tb_ir.specs.AnfMachine.{free_block}
use Rattle.tb_mac.specs.declared.code.Instr.TheVariants as I
use Rattle.tb_mac.specs.Assemble.{labels}
use Rattle.tb_codegen.specs.Notes.{Entry, Waiting, ToCaller, ToTop, Then, Point, AtBlock, AtAll, Note, AtProc, AtArgs, AtLifted, Noted, Mark, Does}
use Rattle.tb_codegen.specs.Homes.{frame_size, slot_of}
use Rattle.tb_codegen.specs.Operations.{Body, behind, block_map, evaluated, fills, first_register, is_call, leaving, loads, operands, returning, simple}
use Rattle.tb_codegen.specs.Generate.{all_words, block_note, body_of, captured_in, counting, counts, group_map, operands_map, zeros, code_block, code_bound, code_form, code_forms, code_lambda, code_lambdas, code_last, entry, frame_made, given, group, keep, labels_in, labels_of, labels_within, last, makes, noted_items, passed, passing, stores_captured, stores_operands, words, writes}
use Rattle.tb_codegen.proofs.Assembling.{items_of}
use Rattle.tb_codegen.proofs.OperationChains.{body}
use Rattle.tb_codegen.proofs.CodeChains.{bound-plain, is_branch, last-plain}

-- the labels of items with notes
abbrev pub marks : List Noted → List ℕ
marks [] = []
marks (Mark l n ∷ is) = l ∷ marks is
marks (Does i n p ∷ is) = marks is

pub labels-marks : (is : List Noted) → labels (items_of is) ≡ marks is
labels-marks [] = refl
labels-marks (Mark l n ∷ is) = ap (λ ls. l ∷ ls) (labels-marks is)
labels-marks (Does i n p ∷ is) = labels-marks is

pub marks-append : (is js : List Noted) → marks (is ++ js) ≡ marks is ++ marks js
marks-append [] js = refl
marks-append (Mark l n ∷ is) js = ap (λ ls. l ∷ ls) (marks-append is js)
marks-append (Does i n p ∷ is) js = marks-append is js

pub no-marks : (is js : List Noted) → marks is ≡ [] → marks (is ++ js) ≡ marks js
no-marks is js e = marks-append is js ∙ ap (λ ls. ls ++ marks js) e

-- labels from one on and below another, each once
record Within (lo hi : ℕ) (ls : List ℕ) : Type 0 where
  apart : IsApart ls
  low : (l : ℕ) → IsIn l ls → lo ≤ l
  high : (l : ℕ) → IsIn l ls → l < hi

apart-join : (xs ys : List ℕ) → IsApart xs → IsApart ys → ((l : ℕ) → IsIn l xs → IsIn l ys → ⊥) → IsApart (xs ++ ys)
apart-join [] ys f g h = g
apart-join (x ∷ xs) ys f g h =
    ((λ i. ⊎_elim (λ j. f.0 j) (λ j. h x (inl refl) j) (in-cases xs ys x i)), apart-join xs ys f.1 g (λ l i j. h l (inr i) j))

none-within : (lo hi : ℕ) → Within lo hi []
none-within lo hi = record { apart = tt; low = λ l i. absurd i; high = λ l i. absurd i }

one-within : (lo hi l : ℕ) → lo ≤ l → l < hi → Within lo hi (l ∷ [])
one-within lo hi l a b = record {
  apart = ((λ i. i), tt);
  low = λ m i. ⊎_elim (λ e. omega (arith, a, e)) (λ j. absurd j) i;
  high = λ m i. ⊎_elim (λ e. omega (arith, b, e)) (λ j. absurd j) i;
}

wider : (a b lo hi : ℕ) (ls : List ℕ) → Within lo hi ls → a ≤ lo → hi ≤ b → Within a b ls
wider a b lo hi ls h f g = record {
  apart = h.apart;
  low = λ l i. let k = h.low l i in omega (arith, k, f);
  high = λ l i. let k = h.high l i in omega (arith, k, g);
}

joined : (lo mid hi : ℕ) (xs ys : List ℕ) → lo ≤ mid → mid ≤ hi → Within lo mid xs → Within mid hi ys → Within lo hi (xs ++ ys)
joined lo mid hi xs ys a b f g = record {
  apart = apart-join xs ys f.apart g.apart (λ l i j. let x = f.high l i in let y = g.low l j in omega (arith, x, y));
  low = λ l i. ⊎_elim (λ j. f.low l j) (λ j. let k = g.low l j in omega (arith, k, a)) (in-cases xs ys l i);
  high = λ l i. ⊎_elim (λ j. let k = f.high l j in omega (arith, k, b)) (λ j. g.high l j) (in-cases xs ys l i);
}

-- a branch has the first label behind its arms or nowhere, and the second one between them
branched : (l m hi : ℕ) (xs ys zs : List ℕ) → l + 2 ≤ m → m ≤ hi → Within (l + 2) m xs → Within m hi ys → Within l (l + 1) zs →
    Within l hi (xs ++ (suc l ∷ (ys ++ zs)))
branched l m hi xs ys zs a b f g h = record {
  apart = apart-join xs (suc l ∷ (ys ++ zs)) f.apart (
    (λ i. ⊎_elim (λ j. let k = g.low (suc l) j in omega (arith, k, a)) (λ j. let k = h.high (suc l) j in omega (arith, k)) (in-cases ys zs (suc l) i)),
    apart-join ys zs g.apart h.apart (λ n i j. let x = g.low n i in let y = h.high n j in omega (arith, x, y, a)),
  )
      (λ n i j. ⊎_elim
      (λ e. let x = f.low n i in omega (arith, x, e))
      (λ k. ⊎_elim (λ u. let x = f.high n i in let y = g.low n u in omega (arith, x, y)) (λ u. let x = f.low n i in let y = h.high n u in omega (arith, x, y)) (in-cases ys zs n k))
      j);
  low = λ n i. ⊎_elim
      (λ j. let x = f.low n j in omega (arith, x))
      (λ j. ⊎_elim
      (λ e. omega (arith, e))
      (λ k. ⊎_elim (λ u. let x = g.low n u in omega (arith, x, a)) (λ u. h.low n u) (in-cases ys zs n k))
      j)
      (in-cases xs (suc l ∷ (ys ++ zs)) n i);
  high = λ n i. ⊎_elim
      (λ j. let x = f.high n j in omega (arith, x, b))
      (λ j. ⊎_elim
      (λ e. omega (arith, e, a, b))
      (λ k. ⊎_elim (λ u. g.high n u) (λ u. let x = h.high n u in omega (arith, x, a, b)) (in-cases ys zs n k))
      j)
      (in-cases xs (suc l ∷ (ys ++ zs)) n i);
}

-- items without labels
pub loads-none : (c : Body) (pt : Point) (a : ℕ) (ds : List Operand) (es : List Entry) → marks (loads c pt a ds es) ≡ []
loads-none c pt a [] es = refl
loads-none c pt a (d ∷ ds) es = loads-none c pt (suc a) ds _

fills-none : (c : Body) (m : ℕ) (js : Waiting) (j : ℕ) (xs : List ℕ) → marks (fills c m js j xs) ≡ []
fills-none c m js j [] = refl
fills-none c m js j (x ∷ xs) = fills-none c m js (suc j) xs

behind-none : (c : Body) (js : Waiting) (op : Op) → marks (behind c js op) ≡ []
behind-none c js (SetGlobal g a p) = refl
behind-none c js (DefGlobal g a) = refl
behind-none c js (CellSet a b) = refl
behind-none c js (Close m) = fills-none c m js 0 (c.captured m)
behind-none c js (Atom a) = refl
behind-none c js (Global g p) = refl
behind-none c js (PrimUse q ds p) = refl
behind-none c js (NewCell a) = refl
behind-none c js (CellGet a p) = refl
behind-none c js (Call f ds p) = refl
behind-none c js (Direct m ds) = refl
behind-none c js (Apply f a p) = refl
behind-none c js (Branch a b d) = refl

pub simple-none : (c : Body) (op : Op) (pt : Point) (js : Waiting) (es : List Entry) → marks (simple c op pt js es) ≡ []
simple-none c op pt js es =
    no-marks (loads c pt (first_register op) (operands op) es) _ (loads-none c pt (first_register op) (operands op) es) ∙ behind-none c js op

pub leaving-none : (c : Body) (op : Op) (pt : Point) (es : List Entry) → marks (leaving c op pt es) ≡ []
leaving-none c op pt es = no-marks (loads c pt (first_register op) (operands op) es) _ (loads-none c pt (first_register op) (operands op) es)

pub given-none : (c : Body) (js : Waiting) → marks (given c js) ≡ []
given-none c ToCaller = refl
given-none c (ToTop k) = refl
given-none c (Then x b l js) = refl

words-none : (c : Body) (y : ℕ) (pt : ℕ → Point) (es : List Entry) (j : ℕ) (xs : List ℕ) → marks (words c y pt es j xs) ≡ []
words-none c y pt es j [] = refl
words-none c y pt es j (x ∷ xs) = words-none c y pt es (suc j) xs

all-words-none : (c : Body) (y : ℕ) (pt : ℕ → Point) (es : List Entry) (xs : List ℕ) → marks (all_words c y pt es xs) ≡ []
all-words-none c y pt es [] = refl
all-words-none c y pt es (x ∷ xs) = words-none c y pt es 0 (x ∷ xs)

makes-none : (c : Body) (xs ls : List ℕ) (b : Block) (js : Waiting) (done ys ms : List ℕ) → marks (makes c xs ls b js done ys ms) ≡ []
makes-none c xs ls b js done (y ∷ ys) (m ∷ ms) = makes-none c xs ls b js (done ++ y ∷ []) ys ms
makes-none c xs ls b js done [] [] = refl
makes-none c xs ls b js done (y ∷ ys) [] = refl
makes-none c xs ls b js done [] (m ∷ ms) = refl

writes-none : (c : Body) (xs ls : List ℕ) (b : Block) (js : Waiting) (done ys ms : List ℕ) → marks (writes c xs ls b js done ys ms) ≡ []
writes-none c xs ls b js done (y ∷ ys) (m ∷ ms) =
    let pt : ℕ → Point = λ j. AtAll (length xs) (counts c done ++ (j ∷ zeros ms)) xs ls b js in
    no-marks (all_words c y pt (group_map c xs ls b js xs) (c.captured m)) (writes c xs ls b js (done ++ m ∷ []) ys ms)
    (all-words-none c y pt (group_map c xs ls b js xs) (c.captured m))
    ∙ writes-none c xs ls b js (done ++ m ∷ []) ys ms
writes-none c xs ls b js done [] [] = refl
writes-none c xs ls b js done (y ∷ ys) [] = refl
writes-none c xs ls b js done [] (m ∷ ms) = refl

pub group-none : (c : Body) (xs ls : List ℕ) (b : Block) (js : Waiting) → marks (group c xs ls b js) ≡ []
group-none c xs ls b js = no-marks (makes c xs ls b js [] xs ls) _ (makes-none c xs ls b js [] xs ls) ∙ writes-none c xs ls b js [] xs ls

pub stores-captured-none : (c : Body) (n : ℕ) (pt : Point) (es : List Entry) (j : ℕ) (xs done : List ℕ) → marks (stores_captured c n pt es j xs done) ≡ []
stores-captured-none c n pt es j [] done = refl
stores-captured-none c n pt es j (x ∷ xs) done = stores-captured-none c n pt es (suc j) xs (x ∷ done)

pub stores-operands-none : (c : Body) (pt : Point) (us : List ℕ) (a : ℕ) (ys done : List ℕ) → marks (stores_operands c pt us a ys done) ≡ []
stores-operands-none c pt us a [] done = refl
stores-operands-none c pt us a (y ∷ ys) done =
    by (is_in us y) _ _ _ (stores-operands-none c pt us (suc a) ys (y ∷ done)) (stores-operands-none c pt us (suc a) ys done)
  where
    by : (b : Bool) (n : Note) (is js : List Noted) → marks is ≡ [] → marks js ≡ [] → marks (cond b (Does (I.Store a (c.home y)) n None ∷ is) js) ≡ []
    by true n is js e f = e
    by false n is js e f = f

evaluated-within : (c : Body) (op : Op) (pt : Point) (js : Waiting) (l : ℕ) (es : List Entry) → Within l (l + 1) (marks (evaluated c op pt js l es))
evaluated-within c op pt js l es = by (is_call op)
  where
    by : (b : Bool) → Within l (l + 1) (marks (cond b (returning c op pt js l es) (simple c op pt js es)))
    by false = subst (Within l (l + 1)) (sym (simple-none c op pt js es)) (none-within l (l + 1))
    by true =
        subst (Within l (l + 1))
        (sym (no-marks (loads c pt (first_register op) (operands op) es) _ (loads-none c pt (first_register op) (operands op) es)))
        (one-within l (l + 1) l (omega arith) (omega arith))

-- labels, and then none
then-none : (lo hi : ℕ) (is js : List Noted) → Within lo hi (marks is) → marks js ≡ [] → Within lo hi (marks (is ++ js))
then-none lo hi is js h e =
    subst (Within lo hi) (sym (marks-append is js ∙ ap (λ ls. marks is ++ ls) e ∙ append-nil (marks is))) h

none-then : (lo hi : ℕ) (is js : List Noted) → marks is ≡ [] → Within lo hi (marks js) → Within lo hi (marks (is ++ js))
none-then lo hi is js e h = subst (Within lo hi) (sym (no-marks is js e)) h

last-within : (c : Body) (op : Op) (js : Waiting) (l : ℕ) → Within l (l + 1) (marks (last c op js l))
last-within c op ToCaller l = by (is_call op)
  where
    by : (b : Bool) → Within l (l + 1) (marks (cond b (leaving c op (AtBlock (Tail op) ToCaller) (block_map c (Tail op) ToCaller))
        (evaluated c op (AtBlock (Tail op) ToCaller) ToCaller l (block_map c (Tail op) ToCaller) ++ given c ToCaller)))
    by true = subst (Within l (l + 1)) (sym (leaving-none c op (AtBlock (Tail op) ToCaller) (block_map c (Tail op) ToCaller))) (none-within l (l + 1))
    by false = then-none l (l + 1) (evaluated c op (AtBlock (Tail op) ToCaller) ToCaller l (block_map c (Tail op) ToCaller)) (given c ToCaller) (evaluated-within c op (AtBlock (Tail op) ToCaller) ToCaller l (block_map c (Tail op) ToCaller)) refl
last-within c op (ToTop k) l = then-none l (l + 1) (evaluated c op (AtBlock (Tail op) (ToTop k)) (ToTop k) l (block_map c (Tail op) (ToTop k))) (given c (ToTop k))
    (evaluated-within c op (AtBlock (Tail op) (ToTop k)) (ToTop k) l (block_map c (Tail op) (ToTop k))) refl
last-within c op (Then x b m js) l = then-none l (l + 1) (evaluated c op (AtBlock (Tail op) (Then x b m js)) (Then x b m js) l (block_map c (Tail op) (Then x b m js))) (given c (Then x b m js))
    (evaluated-within c op (AtBlock (Tail op) (Then x b m js)) (Then x b m js) l (block_map c (Tail op) (Then x b m js))) refl

passed-within : (js : Waiting) (l : ℕ) → Within l (l + 1) (marks (passed js l))
passed-within ToCaller l = none-within l (l + 1)
passed-within (ToTop k) l = one-within l (l + 1) l (omega arith) (omega arith)
passed-within (Then x b m js) l = none-within l (l + 1)

passing-none : (js : Waiting) (l : ℕ) → marks (passing js l) ≡ []
passing-none ToCaller l = refl
passing-none (ToTop k) l = refl
passing-none (Then x b m js) l = refl

module _ (p : AnfTree) (home : ℕ → ℕ) (size : ℕ) where
  abbrev c : Body
  c = body p [] home size

  plain-within : (op : Op) (x : ℕ) (k : Block) (js : Waiting) (l : ℕ) → is_branch op ≡ false → labels_of op ≡ 1 →
      Within l (l + labels_of op) (marks (code_bound c op x k js l))
  plain-within op x k js l e f =
      subst (λ n. Within l (l + n) (marks (code_bound c op x k js l))) (sym f)
      (subst (λ is. Within l (l + 1) (marks is)) (sym (bound-plain p [] home size op x k js l e))
      (then-none l (l + 1) (evaluated c op (AtBlock (Bind x op k) js) (Then x k l js) l (block_map c (Bind x op k) js)) (keep c x (Then x k l js))
      (evaluated-within c op (AtBlock (Bind x op k) js) (Then x k l js) l (block_map c (Bind x op k) js)) refl))

  plain-last : (op : Op) (js : Waiting) (l : ℕ) → is_branch op ≡ false → labels_of op ≡ 1 → Within l (l + labels_of op) (marks (code_last c op js l))
  plain-last op js l e f =
      subst (λ n. Within l (l + n) (marks (code_last c op js l))) (sym f)
      (subst (λ is. Within l (l + 1) (marks is)) (sym (last-plain p [] home size op js l e)) (last-within c op js l))

  mutual
    unfolding code_block code_bound code_last

    block-within : (b : Block) (js : Waiting) (l : ℕ) → Within l (l + labels_in b) (marks (code_block c b js l))
    block-within (Bind x op k) js l =
        subst (Within l (l + (labels_of op + labels_in k))) (sym (marks-append (code_bound c op x k js l) (code_block c k js (l + labels_of op))))
        (joined l (l + labels_of op) (l + (labels_of op + labels_in k)) _ _ (omega arith) (omega arith) (bound-within op x k js l)
        (wider (l + labels_of op) (l + (labels_of op + labels_in k)) (l + labels_of op) (l + labels_of op + labels_in k) _ (block-within k js (l + labels_of op))
        (omega arith) (omega arith)))
    block-within (CloseAll xs ls k) js l = none-then l (l + labels_in k) (group c xs ls k js) _ (group-none c xs ls k js) (block-within k js l)
    block-within (Tail op) js l = tail-within op js l

    bound-within : (op : Op) (x : ℕ) (k : Block) (js : Waiting) (l : ℕ) → Within l (l + labels_of op) (marks (code_bound c op x k js l))
    bound-within (Branch a b d) x k js l =
        let arm = Then x k l js in
        let first = code_block c b arm (l + 2) in
        let second = code_block c d arm (l + 2 + labels_in b) in
        subst (Within l (l + (2 + (labels_in b + labels_in d))))
        (sym (marks-append first (Mark (suc l) (block_note c d arm) ∷ (second ++ (Mark l (block_note c k js) ∷ [])))
        ∙ ap (λ ls. marks first ++ (suc l ∷ ls)) (marks-append second (Mark l (block_note c k js) ∷ []))))
        (branched l (l + 2 + labels_in b) (l + (2 + (labels_in b + labels_in d))) (marks first) (marks second) (l ∷ []) (omega arith) (omega arith)
        (block-within b arm (l + 2))
        (wider (l + 2 + labels_in b) (l + (2 + (labels_in b + labels_in d))) (l + 2 + labels_in b) (l + 2 + labels_in b + labels_in d) _
        (block-within d arm (l + 2 + labels_in b)) (omega arith) (omega arith))
        (one-within l (l + 1) l (omega arith) (omega arith)))
    bound-within op x k js l = plain-within op x k js l refl refl

    tail-within : (op : Op) (js : Waiting) (l : ℕ) → Within l (l + labels_of op) (marks (code_last c op js l))
    tail-within (Branch a b d) js l =
        let first = code_block c b js (l + 2) in
        let second = code_block c d js (l + 2 + labels_in b) in
        subst (Within l (l + (2 + (labels_in b + labels_in d))))
        (sym (marks-append first (passing js l ++ (Mark (suc l) (block_note c d js) ∷ (second ++ passed js l)))
        ∙ ap (λ ls. marks first ++ ls) (no-marks (passing js l) _ (passing-none js l))
        ∙ ap (λ ls. marks first ++ (suc l ∷ ls)) (marks-append second (passed js l))))
        (branched l (l + 2 + labels_in b) (l + (2 + (labels_in b + labels_in d))) (marks first) (marks second) (marks (passed js l)) (omega arith) (omega arith)
        (block-within b js (l + 2))
        (wider (l + 2 + labels_in b) (l + (2 + (labels_in b + labels_in d))) (l + 2 + labels_in b) (l + 2 + labels_in b + labels_in d) _
        (block-within d js (l + 2 + labels_in b)) (omega arith) (omega arith))
        (passed-within js l))
    tail-within op js l = plain-last op js l refl refl

-- the forms of a program
forms-within : (p : AnfTree) (k : ℕ) (qs : List ProcTree) (l : ℕ) → Within l (l + labels_within qs) (marks (code_forms p k qs l))
forms-within p k [] l = none-within l (l + 0)
forms-within p k (q ∷ qs) l =
    subst (Within l (l + (labels_in q.body + labels_within qs)))
    (sym (marks-append (code_form p k q l) (code_forms p (suc k) qs (l + labels_in q.body))))
    (joined l (l + labels_in q.body) (l + (labels_in q.body + labels_within qs)) _ _ (omega arith) (omega arith)
    (block-within p (slot_of q) (frame_size q) q.body (ToTop (suc k)) l)
    (wider (l + labels_in q.body) (l + (labels_in q.body + labels_within qs)) (l + labels_in q.body) (l + labels_in q.body + labels_within qs) _
    (forms-within p (suc k) qs (l + labels_in q.body)) (omega arith) (omega arith)))

-- labels of entries from one number on, and labels of blocks from another on
record Both (a b lo hi : ℕ) (ls : List ℕ) : Type 0 where
  once : IsApart ls
  either : (l : ℕ) → IsIn l ls → ((a ≤ l) × (l < b)) ⊎ ((lo ≤ l) × (l < hi))

-- the entry of a lambda, and where its frame is made
pub entry-none : (p : AnfTree) (n : ℕ) (q : ProcTree) → marks (entry (body_of p q) n q) ≡ []
entry-none p n q = by q.lifted
  where
    by : (b : Bool) → marks (cond b (Does (I.Proc n) (AtLifted n (operands_map (free_block (captured_in p) q.body) 1 q.params)) None ∷ [])
        (Does (I.Proc n) (AtProc n) None ∷ Does (counting q.rest q.params) (AtArgs n) (Some q.place) ∷ [])) ≡ []
    by true = refl
    by false = refl

pub frame-none : (p : AnfTree) (n : ℕ) (q : ProcTree) → marks (frame_made (body_of p q) n q.body q.params q.captured) ≡ []
frame-none p n q =
    no-marks (stores_captured (body_of p q) n _ _ 0 q.captured []) _ (stores-captured-none (body_of p q) n _ _ 0 q.captured [])
    ∙ stores-operands-none (body_of p q) _ _ 1 q.params q.captured

lambda-marks : (p : AnfTree) (n : ℕ) (q : ProcTree) (l : ℕ) →
    marks (code_lambda p n q l) ≡ n ∷ marks (code_block (body_of p q) q.body ToCaller l)
lambda-marks p n q l =
    ap (λ ls. n ∷ ls)
    (no-marks (entry (body_of p q) n q) _ (entry-none p n q) ∙ no-marks (frame_made (body_of p q) n q.body q.params q.captured) _ (frame-none p n q))

lambdas-both : (p : AnfTree) (n : ℕ) (qs : List ProcTree) (l : ℕ) → n + length qs ≤ l →
    Both n (n + length qs) l (l + labels_within qs) (marks (code_lambdas p n qs l))
lambdas-both p n [] l le = record { once = tt; either = λ m i. absurd i }
lambdas-both p n (q ∷ qs) l le =
    let here = block-within p (slot_of q) (frame_size q) q.body ToCaller l in
    let more = lambdas-both p (suc n) qs (l + labels_in q.body) (omega (arith, le)) in
    let bs = marks (code_block (body_of p q) q.body ToCaller l) in
    let rest = marks (code_lambdas p (suc n) qs (l + labels_in q.body)) in
    subst (Both n (n + suc (length qs)) l (l + (labels_in q.body + labels_within qs)))
    (sym (marks-append (code_lambda p n q l) (code_lambdas p (suc n) qs (l + labels_in q.body)) ∙ ap (λ ls. ls ++ rest) (lambda-marks p n q l)))
    (record {
      once = (
        (λ i. ⊎_elim
            (λ j. let x = here.low n j in omega (arith, x, le))
            (λ j. ⊎_elim (λ k. let x = k.0 in omega (arith, x)) (λ k. let x = k.0 in omega (arith, x, le)) (more.either n j))
            (in-cases bs rest n i)),
        apart-join bs rest here.apart more.once (λ m i j. ⊎_elim
            (λ k. let x = here.low m i in let y = k.1 in omega (arith, x, y, le))
            (λ k. let x = here.high m i in let y = k.0 in omega (arith, x, y))
            (more.either m j)),
      );
      either = λ m i. ⊎_elim
          (λ e. inl (omega (arith, e), omega (arith, e)))
          (λ j. ⊎_elim
          (λ k. let x = here.low m k in let y = here.high m k in inr (omega (arith, x), omega (arith, y)))
          (λ k. ⊎_elim
          (λ r. let x = r.0 in let y = r.1 in inl (omega (arith, x), omega (arith, y)))
          (λ r. let x = r.0 in let y = r.1 in inr (omega (arith, x), omega (arith, y)))
          (more.either m k))
          (in-cases bs rest m j))
          i;
    })

-- the labels of a program are apart
pub labels-apart : (p : AnfTree) → IsApart (labels (items_of (noted_items p)))
labels-apart p =
    let n = length (lambdas_of p) in
    let forms = code_forms p 0 (forms_of p) n in
    let lambdas = code_lambdas p 0 (lambdas_of p) (n + labels_within (forms_of p)) in
    let f = forms-within p 0 (forms_of p) n in
    let g = lambdas-both p 0 (lambdas_of p) (n + labels_within (forms_of p)) (omega arith) in
    subst IsApart (sym (labels-marks (noted_items p) ∙ marks-append forms _))
    (apart-join (marks forms) (marks lambdas) f.apart g.once (λ l i j. ⊎_elim
    (λ k. let x = f.low l i in let y = k.1 in omega (arith, x, y))
    (λ k. let x = f.high l i in let y = k.0 in omega (arith, x, y))
    (g.either l j)))
