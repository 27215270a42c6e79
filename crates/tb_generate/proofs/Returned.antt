-- Each label that a `setrtn` names stands among the items of a program: that of a call is behind it.
use Rattle.std.proofs.Common.{◌≡◌, ℕ, suc, ◌+◌, Bool, true, false, cond, List, [], ◌∷◌, ◌++◌, length, Some, None, refl, sym, subst, inl, inr, ⊎_elim}
use Rattle.tb_prim.specs.declared.constant.Const.{Const}
use Rattle.tb_prim.specs.declared.constant.Static.{Static}
use Rattle.tb_prim.specs.declared.primitive.Primitive.{Primitive}
use Rattle.tb_semantics.specs.Graph.{IsIn}
use Rattle.tb_semantics.proofs.ListLemmas.{in-cases, in-left, in-right}
use Rattle.tb_core.specs.FreeVariables.{is_in}
use Rattle.tb_ir.specs.AnfTree.{Operand, Quote, Var, Block, Bind, CloseAll, Tail, Op, Atom, Global, SetGlobal, DefGlobal, PrimUse, NewCell, CellGet, CellSet, Close, Call, Direct, Apply, Branch, ProcTree, AnfTree}
use Rattle.tb_ir.specs.AnfRules.{forms_of, lambdas_of}
use Rattle.tb_ir.specs.AnfMachine.{free_block}
use Rattle.tb_mac.specs.declared.code.Instr.{Instr}
use Rattle.tb_mac.specs.declared.code.Instr.TheVariants as I
use Rattle.tb_codegen.specs.Notes.{Reg, Entry, Stands, Waiting, ToCaller, ToTop, Then, Point, AtBlock, AtValue, AtAll, Away, Ready, Note, Inside, AtProc, AtArgs, AtLifted, Noted, Mark, Does, symbol_of}
use Rattle.tb_codegen.specs.Homes.{frame_size, slot_of}
use Rattle.tb_codegen.specs.Operations.{Body, act, behind, block_map, constant, evaluated, fills, first_register, here, is_call, leaving, load, loaded, loads, operands, place, returning, simple, use_of, value_map, variables}
use Rattle.tb_codegen.specs.Generate.{all_words, block_note, block_point, body_of, captured_in, counting, counts, group_map, operands_map, zeros, code_block, code_bound, code_form, code_forms, code_lambda, code_lambdas, code_last, entry, frame_made, given, group, keep, labels_in, labels_of, labels_within, last, makes, noted_items, passed, passing, stores_captured, stores_operands, words, writes}
use Rattle.tb_codegen.proofs.CodeChains.{bound-plain, is_branch, last-plain}
use Rattle.tb_codegen.proofs.Labels.{marks}
use Rattle.tb_codegen.proofs.OperationChains.{body}

-- the label of a `setrtn`
abbrev pub returned : Instr → List ℕ
returned (I.SetRtn l) = l ∷ []
returned i = []

abbrev pub returns : List Noted → List ℕ
returns [] = []
returns (Mark l n ∷ is) = returns is
returns (Does i n q ∷ is) = returned i ++ returns is

-- these labels stand among the same items
abbrev pub Backed : List Noted → Type 0
Backed is = (l : ℕ) → IsIn l (returns is) → IsIn l (marks is)

pub marks-left : (is js : List Noted) (l : ℕ) → IsIn l (marks is) → IsIn l (marks (is ++ js))
marks-left [] js l i = absurd i
marks-left (Mark k n ∷ is) js l (inl e) = inl e
marks-left (Mark k n ∷ is) js l (inr i) = inr (marks-left is js l i)
marks-left (Does j n q ∷ is) js l i = marks-left is js l i

pub marks-right : (is js : List Noted) (l : ℕ) → IsIn l (marks js) → IsIn l (marks (is ++ js))
marks-right [] js l i = i
marks-right (Mark k n ∷ is) js l i = inr (marks-right is js l i)
marks-right (Does j n q ∷ is) js l i = marks-right is js l i

returns-cases : {X : Type 0} (is js : List Noted) (l : ℕ) → IsIn l (returns (is ++ js)) → (IsIn l (returns is) → X) →
    (IsIn l (returns js) → X) → X
returns-cases [] js l i a b = b i
returns-cases (Mark k n ∷ is) js l i a b = returns-cases is js l i a b
returns-cases (Does j n q ∷ is) js l i a b = ⊎_elim
    (λ h. a (in-left (returned j) (returns is) l h))
    (λ h. returns-cases is js l h (λ g. a (in-right (returned j) (returns is) l g)) b)
    (in-cases (returned j) (returns (is ++ js)) l i)

joined : (is js : List Noted) → Backed is → Backed js → Backed (is ++ js)
joined is js f g = λ l i. returns-cases is js l i (λ h. marks-left is js l (f l h)) (λ h. marks-right is js l (g l h))

other : (i : Instr) (n : Note) (q : _) (is : List Noted) → returned i ≡ [] → Backed is → Backed (Does i n q ∷ is)
other i n q is e h = λ l j. h l (subst (λ ls. IsIn l (ls ++ returns is)) e j)

behind_mark : (k : ℕ) (n : Note) (is : List Noted) → Backed is → Backed (Mark k n ∷ is)
behind_mark k n is h = λ l i. inr (h l i)

constant-none : (statics : List Static) (a : ℕ) (k : Const) → returned (constant statics a k) ≡ []
constant-none statics a (Const.Stat n) = refl
constant-none statics a (Const.Fix v) = refl
constant-none statics a (Const.Char v) = refl
constant-none statics a (Const.Bool b) = refl
constant-none statics a Const.Nil = refl
constant-none statics a Const.Unspecified = refl
constant-none statics a Const.Undefined = refl

load-none : (c : Body) (a : ℕ) (d : Operand) → returned (load c a d) ≡ []
load-none c a (Quote k) = constant-none c.statics a k
load-none c a (Var x) = refl

use-none : (r : Primitive) (ds : List Operand) → returned (use_of r ds) ≡ []
use-none r [] = refl
use-none r (a ∷ []) = refl
use-none r (a ∷ b ∷ []) = refl
use-none r (a ∷ b ∷ d ∷ ds) = refl

act-none : (c : Body) (l : ℕ) (op : Op) → returned (act c l op) ≡ []
act-none c l (Atom a) = load-none c 16 a
act-none c l (Global g p) = refl
act-none c l (SetGlobal g a p) = refl
act-none c l (DefGlobal g a) = refl
act-none c l (PrimUse r ds p) = use-none r ds
act-none c l (NewCell a) = refl
act-none c l (CellGet a p) = refl
act-none c l (CellSet a b) = refl
act-none c l (Close m) = refl
act-none c l (Call f ds p) = refl
act-none c l (Direct m ds) = refl
act-none c l (Apply f a p) = refl
act-none c l (Branch a b d) = refl

loads-back : (c : Body) (pt : Point) (a : ℕ) (ds : List Operand) (es : List Entry) → Backed (loads c pt a ds es)
loads-back c pt a [] es = λ l i. absurd i
loads-back c pt a (d ∷ ds) es =
    let more = Stands (Reg a) (symbol_of d) ∷ es in
    other (load c a d) (here c pt es) None (loads c pt (suc a) ds more) (load-none c a d)
    (loads-back c pt (suc a) ds more)

fills-back : (c : Body) (m : ℕ) (js : Waiting) (j : ℕ) (xs : List ℕ) → Backed (fills c m js j xs)
fills-back c m js j [] = λ l i. absurd i
fills-back c m js j (x ∷ xs) = fills-back c m js (suc j) xs

behind-back : (c : Body) (js : Waiting) (op : Op) → Backed (behind c js op)
behind-back c js (SetGlobal g a p) = λ l i. absurd i
behind-back c js (DefGlobal g a) = λ l i. absurd i
behind-back c js (CellSet a b) = λ l i. absurd i
behind-back c js (Close m) = fills-back c m js 0 (c.captured m)
behind-back c js (Atom a) = λ l i. absurd i
behind-back c js (Global g p) = λ l i. absurd i
behind-back c js (PrimUse q ds p) = λ l i. absurd i
behind-back c js (NewCell a) = λ l i. absurd i
behind-back c js (CellGet a p) = λ l i. absurd i
behind-back c js (Call f ds p) = λ l i. absurd i
behind-back c js (Direct m ds) = λ l i. absurd i
behind-back c js (Apply f a p) = λ l i. absurd i
behind-back c js (Branch a b d) = λ l i. absurd i

simple-back : (c : Body) (op : Op) (pt : Point) (js : Waiting) (es : List Entry) → Backed (simple c op pt js es)
simple-back c op pt js es =
    let note = here c pt (loaded (first_register op) (operands op) es) in
    joined (loads c pt (first_register op) (operands op) es) (Does (act c 0 op) note (place op) ∷ behind c js op)
    (loads-back c pt (first_register op) (operands op) es)
    (other (act c 0 op) note (place op) (behind c js op) (act-none c 0 op) (behind-back c js op))

returning-back : (c : Body) (op : Op) (pt : Point) (js : Waiting) (l : ℕ) (es : List Entry) →
    Backed (returning c op pt js l es)
returning-back c op pt js l es =
    let now = loaded (first_register op) (operands op) es in
    joined (loads c pt (first_register op) (operands op) es)
    (Does (I.SetRtn l) (here c pt now) None ∷ Does (act c l op) (Inside pt (Ready c.size l) now) (place op) ∷
    Mark l (here c (AtValue js) (value_map c js)) ∷ []) (loads-back c pt (first_register op) (operands op) es)
    (λ k i. subst (λ ls. IsIn k (l ∷ (ls ++ [])) → IsIn k (l ∷ [])) (sym (act-none c l op)) (λ h. h) i)

evaluated-back : (c : Body) (op : Op) (pt : Point) (js : Waiting) (l : ℕ) (es : List Entry) →
    Backed (evaluated c op pt js l es)
evaluated-back c op pt js l es = by (is_call op)
  where
    by : (b : Bool) → Backed (cond b (returning c op pt js l es) (simple c op pt js es))
    by false = simple-back c op pt js es
    by true = returning-back c op pt js l es

leaving-back : (c : Body) (op : Op) (pt : Point) (es : List Entry) → Backed (leaving c op pt es)
leaving-back c op pt es =
    let gone = Inside pt Away (loaded (first_register op) (operands op) []) in
    joined (loads c pt (first_register op) (operands op) es)
    (Does (I.Pop c.size) (here c pt (loaded (first_register op) (operands op) es)) None ∷ Does (act c 0 op) gone
    (place op) ∷ [])
    (loads-back c pt (first_register op) (operands op) es)
    (other (act c 0 op) gone (place op) [] (act-none c 0 op) (λ l i. absurd i))

given-back : (c : Body) (js : Waiting) → Backed (given c js)
given-back c ToCaller = λ l i. absurd i
given-back c (ToTop k) = λ l i. absurd i
given-back c (Then x b m js) = λ l i. absurd i

-- so it is of an operation and what is given its value
then-given : (c : Body) (op : Op) (js : Waiting) (l : ℕ) →
    Backed (evaluated c op (AtBlock (Tail op) js) js l (block_map c (Tail op) js) ++ given c js)
then-given c op js l =
    joined (evaluated c op (AtBlock (Tail op) js) js l (block_map c (Tail op) js)) (given c js)
    (evaluated-back c op (AtBlock (Tail op) js) js l (block_map c (Tail op) js)) (given-back c js)

last-back : (c : Body) (op : Op) (js : Waiting) (l : ℕ) → Backed (last c op js l)
last-back c op ToCaller l = by (is_call op)
  where
    by : (b : Bool) → Backed (cond b (leaving c op (AtBlock (Tail op) ToCaller) (block_map c (Tail op) ToCaller))
        (evaluated c op (AtBlock (Tail op) ToCaller) ToCaller l (block_map c (Tail op) ToCaller) ++ given c ToCaller))
    by true = leaving-back c op (AtBlock (Tail op) ToCaller) (block_map c (Tail op) ToCaller)
    by false = then-given c op ToCaller l
last-back c op (ToTop k) l = then-given c op (ToTop k) l
last-back c op (Then x b m js) l = then-given c op (Then x b m js) l

makes-back : (c : Body) (xs ls : List ℕ) (b : Block) (js : Waiting) (done ys ms : List ℕ) →
    Backed (makes c xs ls b js done ys ms)
makes-back c xs ls b js done (y ∷ ys) (m ∷ ms) = makes-back c xs ls b js (done ++ y ∷ []) ys ms
makes-back c xs ls b js done [] [] = λ l i. absurd i
makes-back c xs ls b js done (y ∷ ys) [] = λ l i. absurd i
makes-back c xs ls b js done [] (m ∷ ms) = λ l i. absurd i

words-back : (c : Body) (y : ℕ) (pt : ℕ → Point) (es : List Entry) (j : ℕ) (xs : List ℕ) → Backed (words c y pt es j xs)
words-back c y pt es j [] = λ l i. absurd i
words-back c y pt es j (x ∷ xs) = words-back c y pt es (suc j) xs

all-words-back : (c : Body) (y : ℕ) (pt : ℕ → Point) (es : List Entry) (xs : List ℕ) → Backed (all_words c y pt es xs)
all-words-back c y pt es [] = λ l i. absurd i
all-words-back c y pt es (x ∷ xs) = words-back c y pt es 0 (x ∷ xs)

writes-back : (c : Body) (xs ls : List ℕ) (b : Block) (js : Waiting) (done ys ms : List ℕ) →
    Backed (writes c xs ls b js done ys ms)
writes-back c xs ls b js done (y ∷ ys) (m ∷ ms) =
    let pt : ℕ → Point = λ j. AtAll (length xs) (counts c done ++ (j ∷ zeros ms)) xs ls b js in
    let es = group_map c xs ls b js xs in
    joined (all_words c y pt es (c.captured m)) (writes c xs ls b js (done ++ m ∷ []) ys ms)
    (all-words-back c y pt es (c.captured m))
    (writes-back c xs ls b js (done ++ m ∷ []) ys ms)
writes-back c xs ls b js done [] [] = λ l i. absurd i
writes-back c xs ls b js done (y ∷ ys) [] = λ l i. absurd i
writes-back c xs ls b js done [] (m ∷ ms) = λ l i. absurd i

group-back : (c : Body) (xs ls : List ℕ) (b : Block) (js : Waiting) → Backed (group c xs ls b js)
group-back c xs ls b js =
    joined (makes c xs ls b js [] xs ls) (writes c xs ls b js [] xs ls) (makes-back c xs ls b js [] xs ls)
    (writes-back c xs ls b js [] xs ls)

passing-back : (js : Waiting) (l : ℕ) → Backed (passing js l)
passing-back ToCaller l = λ k i. absurd i
passing-back (ToTop k) l = λ k i. absurd i
passing-back (Then x b m js) l = λ k i. absurd i

passed-back : (js : Waiting) (l : ℕ) → Backed (passed js l)
passed-back ToCaller l = λ k i. absurd i
passed-back (ToTop k) l = λ k i. absurd i
passed-back (Then x b m js) l = λ k i. absurd i

module _ (p : AnfTree) (home : ℕ → ℕ) (size : ℕ) where
  abbrev c : Body
  c = body p [] home size

  plain-bound-back : (op : Op) (x : ℕ) (k : Block) (js : Waiting) (l : ℕ) → is_branch op ≡ false →
      Backed (code_bound c op x k js l)
  plain-bound-back op x k js l e =
      subst Backed (sym (bound-plain p [] home size op x k js l e))
      (joined (evaluated c op (AtBlock (Bind x op k) js) (Then x k l js) l (block_map c (Bind x op k) js))
      (keep c x (Then x k l js))
      (evaluated-back c op (AtBlock (Bind x op k) js) (Then x k l js) l (block_map c (Bind x op k) js))
      (λ m i. absurd i))

  plain-last-back : (op : Op) (js : Waiting) (l : ℕ) → is_branch op ≡ false → Backed (code_last c op js l)
  plain-last-back op js l e = subst Backed (sym (last-plain p [] home size op js l e)) (last-back c op js l)

  mutual
    unfolding code_block code_bound code_last

    block-back : (b : Block) (js : Waiting) (l : ℕ) → Backed (code_block c b js l)
    block-back (Bind x op k) js l =
        joined (code_bound c op x k js l) (code_block c k js (l + labels_of op)) (bound-back op x k js l)
        (block-back k js (l + labels_of op))
    block-back (CloseAll xs ls k) js l =
        joined (group c xs ls k js) (code_block c k js l) (group-back c xs ls k js) (block-back k js l)
    block-back (Tail op) js l = tail-back op js l

    bound-back : (op : Op) (x : ℕ) (k : Block) (js : Waiting) (l : ℕ) → Backed (code_bound c op x k js l)
    bound-back (Branch a b d) x k js l =
        let arm = Then x k l js in
        let first = code_block c b arm (l + 2) in
        let second = code_block c d arm (l + 2 + labels_in b) in
        let pt = AtBlock (Bind x (Branch a b d) k) js in
        let es = block_map c (Bind x (Branch a b d) k) js in
        let end = Mark l (block_note c k js) ∷ [] in
        let arms = first ++ (Mark (suc l) (block_note c d arm) ∷ (second ++ end)) in
        joined (loads c pt 1 (a ∷ []) es) (Does (I.Brf 1 (suc l)) (here c pt (loaded 1 (a ∷ []) es)) None ∷ arms)
        (loads-back c pt 1 (a ∷ []) es)
        (joined first (Mark (suc l) (block_note c d arm) ∷ (second ++ end)) (block-back b arm (l + 2))
        (behind_mark (suc l) (block_note c d arm) (second ++ end)
        (joined second end (block-back d arm (l + 2 + labels_in b)) (λ m i. absurd i))))
    bound-back op x k js l = plain-bound-back op x k js l refl

    tail-back : (op : Op) (js : Waiting) (l : ℕ) → Backed (code_last c op js l)
    tail-back (Branch a b d) js l =
        let first = code_block c b js (l + 2) in
        let second = code_block c d js (l + 2 + labels_in b) in
        let pt = AtBlock (Tail (Branch a b d)) js in
        let es = block_map c (Tail (Branch a b d)) js in
        let end = passed js l in
        let arms = first ++ (passing js l ++ (Mark (suc l) (block_note c d js) ∷ (second ++ end))) in
        joined (loads c pt 1 (a ∷ []) es) (Does (I.Brf 1 (suc l)) (here c pt (loaded 1 (a ∷ []) es)) None ∷ arms)
        (loads-back c pt 1 (a ∷ []) es)
        (joined first (passing js l ++ (Mark (suc l) (block_note c d js) ∷ (second ++ end))) (block-back b js (l + 2))
        (joined (passing js l) (Mark (suc l) (block_note c d js) ∷ (second ++ end)) (passing-back js l)
        (behind_mark (suc l) (block_note c d js) (second ++ end)
        (joined second end (block-back d js (l + 2 + labels_in b)) (passed-back js l)))))
    tail-back op js l = plain-last-back op js l refl

forms-back : (p : AnfTree) (k : ℕ) (qs : List ProcTree) (l : ℕ) → Backed (code_forms p k qs l)
forms-back p k [] l = λ m i. absurd i
forms-back p k (q ∷ qs) l =
    joined (code_form p k q l) (code_forms p (suc k) qs (l + labels_in q.body))
    (block-back p (slot_of q) (frame_size q) q.body (ToTop (suc k)) l) (forms-back p (suc k) qs (l + labels_in q.body))

counting-none : (b : Bool) (params : List ℕ) → returned (counting b params) ≡ []
counting-none false params = refl
counting-none true params = refl

entry-back : (p : AnfTree) (n : ℕ) (q : ProcTree) → Backed (entry (body_of p q) n q)
entry-back p n q = by q.lifted
  where
    by : (b : Bool) → Backed (cond b (Does (I.Proc n) (AtLifted n (operands_map (free_block (captured_in p) q.body) 1 q.params)) None ∷ [])
        (Does (I.Proc n) (AtProc n) None ∷ Does (counting q.rest q.params) (AtArgs n) (Some q.place) ∷ []))
    by true = λ l i. absurd i
    by false =
        other (counting q.rest q.params) (AtArgs n) (Some q.place) [] (counting-none q.rest q.params) (λ l i. absurd i)

stores-captured-back : (c : Body) (n : ℕ) (pt : Point) (es : List Entry) (j : ℕ) (xs done : List ℕ) →
    Backed (stores_captured c n pt es j xs done)
stores-captured-back c n pt es j [] done = λ l i. absurd i
stores-captured-back c n pt es j (x ∷ xs) done = stores-captured-back c n pt es (suc j) xs (x ∷ done)

stores-operands-back : (c : Body) (pt : Point) (us : List ℕ) (a : ℕ) (ys done : List ℕ) →
    Backed (stores_operands c pt us a ys done)
stores-operands-back c pt us a [] done = λ l i. absurd i
stores-operands-back c pt us a (y ∷ ys) done =
    by (is_in us y) (stores-operands-back c pt us (suc a) ys (y ∷ done)) (stores-operands-back c pt us (suc a) ys done)
  where
    by : (b : Bool) → Backed (stores_operands c pt us (suc a) ys (y ∷ done)) →
        Backed (stores_operands c pt us (suc a) ys done) →
        Backed (cond b
        (Does (I.Store a (c.home y)) (here c pt (operands_map us a (y ∷ ys) ++ variables c 0 done)) None ∷
        stores_operands c pt us (suc a) ys (y ∷ done))
        (stores_operands c pt us (suc a) ys done))
    by true f g = f
    by false f g = g

frame-back : (p : AnfTree) (n : ℕ) (q : ProcTree) → Backed (frame_made (body_of p q) n q.body q.params q.captured)
frame-back p n q =
    let c = body_of p q in
    let us = free_block c.captured q.body in
    let pt = block_point q.body ToCaller in
    joined (stores_captured c n pt (operands_map us 1 q.params) 0 q.captured [])
    (stores_operands c pt us 1 q.params q.captured)
    (stores-captured-back c n pt (operands_map us 1 q.params) 0 q.captured [])
    (stores-operands-back c pt us 1 q.params q.captured)

lambda-back : (p : AnfTree) (n : ℕ) (q : ProcTree) (l : ℕ) → Backed (code_lambda p n q l)
lambda-back p n q l =
    let c = body_of p q in
    let made = frame_made c n q.body q.params q.captured in
    let block = code_block c q.body ToCaller l in
    let note = cond q.lifted (AtLifted n (operands_map (free_block c.captured q.body) 1 q.params)) (AtProc n) in
    behind_mark n note (entry c n q ++ (made ++ block))
    (joined (entry c n q) (made ++ block) (entry-back p n q)
    (joined made block (frame-back p n q) (block-back p (slot_of q) (frame_size q) q.body ToCaller l)))

lambdas-back : (p : AnfTree) (n : ℕ) (qs : List ProcTree) (l : ℕ) → Backed (code_lambdas p n qs l)
lambdas-back p n [] l = λ m i. absurd i
lambdas-back p n (q ∷ qs) l =
    joined (code_lambda p n q l) (code_lambdas p (suc n) qs (l + labels_in q.body)) (lambda-back p n q l)
    (lambdas-back p (suc n) qs (l + labels_in q.body))

-- so it is among the items of a program
pub program-back : (p : AnfTree) → Backed (noted_items p)
program-back p =
    let n = length (lambdas_of p) in
    let lambdas = code_lambdas p 0 (lambdas_of p) (n + labels_within (forms_of p)) in
    joined (code_forms p 0 (forms_of p) n) (Does I.End (Inside (AtValue (ToTop (length (forms_of p)))) Away []) None ∷
    lambdas)
    (forms-back p 0 (forms_of p) n) (lambdas-back p 0 (lambdas_of p) (n + labels_within (forms_of p)))
