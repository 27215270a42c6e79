-- The operands of a node with cells: their numbers, their trees and what they name are those of the source.
use Rattle.std.proofs.Common.{◌≡◌, refl, sym, ap, ◌∙◌, subst, ℕ, zero, suc, ◌+◌, ◌<◌, ◌≤◌, ⊎_elim, arith, Bool, true, false, cond, ◌==◌, List, [], ◌∷◌, ◌++◌, length, drop, Option, Some, None, slice_get, eqb-true}
use Rattle.std.proofs.lemmas.Bool.{eqb-false}
use Rattle.std.proofs.lemmas.Option.{same_Some}
use Rattle.tb_prim.specs.declared.place.Place.{Place}
use Rattle.tb_semantics.specs.Graph.{IsIn}
use Rattle.tb_semantics.proofs.Worlds.{World}
use Rattle.tb_core.specs.Tree.{Tree, Form, Let, Call, PrimUse, Apply, Trees, none, more, count, tree_at, ProgramTree}
use Rattle.tb_core.specs.FreeVariables.{free, inner_free, is_assigned}
use Rattle.tb_core.specs.OperandOrder.{Line, HasLine, has_order, operands, line_at, order_of}
use Rattle.tb_core.specs.Rules.{Each, EachForm, EachAll, NodeKeeps, NoMark, MarksAssigned, is_mark}
use Rattle.tb_core.specs.Reference as R
use Rattle.tb_core.specs.Store.{Value}
use Rattle.tb_core.specs.Partners as Like
use Rattle.tb_core.proofs.Lines.{line-length}
use Rattle.tb_core.proofs.Members.{in-left, in-right, in-either}
use Rattle.tb_ir.specs.Tree as C
use Rattle.tb_ir.specs.FreeVariables as F
use Rattle.tb_ir.specs.TreeMachine as T
use Rattle.tb_assign.specs.Eliminate.{eliminate, eliminate_form, eliminate_all}
use Rattle.tb_assign.proofs.Free.{Same}
use Rattle.tb_assign.proofs.Rel as Rel
use Rattle.tb_assign.proofs.Rel.{Good, Alike, AllAlike, ValuesRel, none_yet, one_more, may_mark, assigned_at}

-- the line of a node that has one, however the order is read
line_first : (l : Line) (ls : List Line) (s n : ℕ) (b : Bool) → length (cond b l.order (line_at ls s)) ≡ n →
    (length (line_at ls s) ≡ n → T.line_or_written (T.line_of ls s) n ≡ line_at ls s) →
    T.line_or_written (cond b (Some l.order) (T.line_of ls s)) n ≡ cond b l.order (line_at ls s)
line_first l ls s n true e h = refl
line_first l ls s n false e h = h e

line_read : (ls : List Line) (s n : ℕ) → length (line_at ls s) ≡ n → T.line_or_written (T.line_of ls s) n ≡ line_at ls s
line_read [] s zero e = refl
line_read [] s (suc n) e = absurd (omega arith)
line_read (l ∷ ls) s n e = line_first l ls s n (l.site == s) e (line_read ls s n)

pub count-all : (g : ℕ → Bool) (es : Trees) → C.count (eliminate_all g es) ≡ count es
count-all g none = refl
count-all g (more e es) = ap (λ n. 1 + n) (count-all g es)

module _ (p : ProgramTree) where
  order_length : (s : ℕ) (f : Form) → has_order f ≡ true → HasLine p s f →
      length (line_at (order_of p) s) ≡ count (operands f)
  order_length s f o h = ap length (h o) ∙ line-length (is_assigned p) (operands f)

  -- the numbers of the operands in the order of evaluation
  pub same-numbers : (q : Place) (s : ℕ) (f : Form) → has_order f ≡ true → HasLine p s f →
      T.numbers (T.line_of (order_of p) s) (eliminate_form (is_assigned p) q s f) ≡ line_at (order_of p) s
  same-numbers q s (Call a ds) o h = line_read (order_of p) s _
      (order_length s (Call a ds) o h ∙ ap (λ n. 1 + n) (sym (count-all (is_assigned p) ds)))
  same-numbers q s (PrimUse a ds) o h = line_read (order_of p) s _
      (order_length s (PrimUse a ds) o h ∙ sym (count-all (is_assigned p) ds))
  same-numbers q s (Apply a b) o h = line_read (order_of p) s _ (order_length s (Apply a b) o h)
  same-numbers q s (Let xs ds e) o h = line_read (order_of p) s _
      (order_length s (Let xs ds e) o h ∙ sym (count-all (is_assigned p) ds))
  same-numbers q s _ o h = cc

  pub same-operands : (q : Place) (s : ℕ) (f : Form) → has_order f ≡ true →
      C.operands (eliminate_form (is_assigned p) q s f) ≡ eliminate_all (is_assigned p) (operands f)
  same-operands q s (Call a ds) o = refl
  same-operands q s (PrimUse a ds) o = refl
  same-operands q s (Apply a b) o = refl
  same-operands q s (Let xs ds e) o = refl
  same-operands q s _ o = cc

abbrev pub with_cells_at : (ℕ → Bool) → Option Tree → Option C.Tree
with_cells_at g None = None
with_cells_at g (Some e) = Some (eliminate g e)

pub same-tree : (g : ℕ → Bool) (es : Trees) (n : ℕ) → C.tree_at (eliminate_all g es) n ≡ with_cells_at g (tree_at es n)
same-tree g none n = refl
same-tree g (more e es) zero = refl
same-tree g (more e es) (suc n) = same-tree g es n

-- a node with operands has its parts
pub each-operand : (P : ℕ → Form → Type 0) (f : Form) → has_order f ≡ true → EachForm P f → EachAll P (operands f)
each-operand P (Call a ds) o h = (h.0, h.1)
each-operand P (PrimUse a ds) o h = h
each-operand P (Apply a b) o h = (h.0, (h.1, tt))
each-operand P (Let xs ds e) o h = h.0
each-operand P _ o h = cc

pub each-tree : (P : ℕ → Form → Type 0) (es : Trees) (n : ℕ) (e : Tree) → EachAll P es → tree_at es n ≡ Some e →
    Each P e
each-tree P none n e h q = cc
each-tree P (more d es) zero e h q = subst (Each P) (same_Some d e q) h.0
each-tree P (more d es) (suc n) e h q = each-tree P es n e h.1 q

-- the mark is the operand of a variable that is assigned
no_mark : (es : Trees) (n : ℕ) (e : Tree) → NoMark es → tree_at es n ≡ Some e → is_mark e ≡ true → ⊥
no_mark none n e h q m = cc
no_mark (more d es) zero e h q m = let k : is_mark d ≡ false = h.0 in let z = ap is_mark (same_Some d e q) in cc
no_mark (more d es) (suc n) e h q m = no_mark es n e h.1 q m

mark_of_let : (p : ProgramTree) (xs : List ℕ) (es : Trees) (n : ℕ) (e : Tree) → MarksAssigned (is_assigned p) xs es →
    tree_at es n ≡ Some e → is_mark e ≡ true → assigned_at p (slice_get xs n) ≡ true
mark_of_let p xs none n e h q m = cc
mark_of_let p [] (more d es) n e h q m = absurd (no_mark (more d es) n e h q m)
mark_of_let p (x ∷ xs) (more d es) zero e h q m = h.0 (ap is_mark (same_Some d e q) ∙ m)
mark_of_let p (x ∷ xs) (more d es) (suc n) e h q m = mark_of_let p xs es n e h.1 q m

pub mark-of-operand : (p : ProgramTree) (s : ℕ) (f : Form) (n : ℕ) (e : Tree) → has_order f ≡ true → NodeKeeps p s f →
    tree_at (operands f) n ≡ Some e → is_mark e ≡ true → may_mark p f n ≡ true
mark-of-operand p s (Call a ds) n e o k q m = absurd (no_mark (more a ds) n e k.marks_are_operands q m)
mark-of-operand p s (PrimUse a ds) n e o k q m = absurd (no_mark ds n e k.marks_are_operands q m)
mark-of-operand p s (Apply a b) n e o k q m = absurd (no_mark (more a (more b none)) n e k.marks_are_operands q m)
mark-of-operand p s (Let xs ds b) n e o k q m = mark_of_let p xs ds n e (k.marks_are_operands).0 q m
mark-of-operand p s _ n e o k q m = cc

-- values in the order of evaluation, and by their numbers
pub data NumberedRel (p : ProgramTree) (w : World Value) (f : Form) : ℕ → List Value → List Value → Type 0 where
  no_more : {i : ℕ} → NumberedRel p w f i [] []
  next_one : {i : ℕ} {v u : Value} {vs us : List Value} → Alike w (may_mark p f i) v u →
      NumberedRel p w f (suc i) vs us → NumberedRel p w f i (v ∷ vs) (u ∷ us)

-- the value of a number is there on both sides
pub record Found (p : ProgramTree) (w : World Value) (f : Form) (i : ℕ) (ns : List ℕ)
    (vs us : List Value) : Type 0 where
  pub value : Value
  pub other : Value
  pub here : R.value_for i ns vs ≡ Some value
  pub there : R.value_for i ns us ≡ Some other
  pub alike : Alike w (may_mark p f i) value other

module _ (p : ProgramTree) (w : World Value) (f : Form) where
  found_first : (i n : ℕ) (v u : Value) (ns : List ℕ) (vs us : List Value) (b : Bool) → (n == i) ≡ b →
      Alike w (may_mark p f n) v u → (b ≡ false → Found p w f i ns vs us) → Found p w f i (n ∷ ns) (v ∷ vs) (u ∷ us)
  found_first i n v u ns vs us true e h rest = record {
    value = v;
    other = u;
    here = ap (λ b. cond b (Some v) (R.value_for i ns vs)) e;
    there = ap (λ b. cond b (Some u) (R.value_for i ns us)) e;
    alike = subst (λ m. Alike w (may_mark p f m) v u) (eqb-true n i e) h;
  }
  found_first i n v u ns vs us false e h rest =
      let k = rest refl in
      record {
        value = k.value;
        other = k.other;
        here = ap (λ b. cond b (Some v) (R.value_for i ns vs)) e ∙ k.here;
        there = ap (λ b. cond b (Some u) (R.value_for i ns us)) e ∙ k.there;
        alike = k.alike;
      }

  value-found : (i : ℕ) (ns : List ℕ) (vs us : List Value) → ValuesRel p w f ns vs us → IsIn i ns →
      length ns ≤ length us → Found p w f i ns vs us
  value-found i [] _ _ none_yet j le = absurd j
  value-found i (n ∷ ns) _ _ none_yet j le = absurd (omega arith)
  value-found i _ _ _ (one_more {n = n} {ns = ns} {v = v} {u = u} {vs = vs} {us = us} h hs) j le =
      found_first i n v u ns vs us (n == i) refl h
      (λ q. value-found i ns vs us hs (⊎_elim (λ same. absurd (eqb-false n i q same)) (λ k. k) j) (omega arith))

  -- all numbers from one on
  pub arranged-alike : (i k : ℕ) (ns : List ℕ) (vs us : List Value) → ValuesRel p w f ns vs us →
      ((j : ℕ) → j < i + k → IsIn j ns) → length ns ≤ length us →
      NumberedRel p w f i (R.arranged i k ns vs) (R.arranged i k ns us)
  arranged-alike i zero ns vs us h all le = no_more
  arranged-alike i (suc k) ns vs us h all le =
      let n = value-found i ns vs us h (all i (omega arith)) le in
      let rest = arranged-alike (suc i) k ns vs us h (λ j lt. all j (omega arith)) le in
      subst (λ o. NumberedRel p w f i (R.prepend o (R.arranged (suc i) k ns vs))
      (R.prepend (R.value_for i ns us) (R.arranged (suc i) k ns us))) (sym n.here)
      (subst (λ o. NumberedRel p w f i (n.value ∷ R.arranged (suc i) k ns vs)
      (R.prepend o (R.arranged (suc i) k ns us))) (sym n.there) (next_one n.alike rest))

  -- where no value may be the mark
  pub all-alike : ((i : ℕ) → may_mark p f i ≡ false) → (i : ℕ) (vs us : List Value) → NumberedRel p w f i vs us →
      AllAlike w vs us
  all-alike never i _ _ no_more = Like.nothing
  all-alike never i _ _ (next_one {v = v} {u = u} h hs) = Like.further (subst (λ b. Alike w b v u) (never i) h)
      (all-alike never (suc i) _ _ hs)

  pub values-last : (ns : List ℕ) (vs us : List Value) (n : ℕ) (v u : Value) → ValuesRel p w f ns vs us →
      slice_get ns (length us) ≡ Some n → Alike w (may_mark p f n) v u →
      ValuesRel p w f ns (vs ++ v ∷ []) (us ++ u ∷ [])
  values-last [] _ _ n v u none_yet e h = cc
  values-last (m ∷ ns) _ _ n v u none_yet e h = one_more
      (subst (λ k. Alike w (may_mark p f k) v u) (sym (same_Some m n e)) h) none_yet
  values-last _ _ _ n v u (one_more k ks) e h = one_more k (values-last _ _ _ n v u ks e h)

  pub values-long : (ns : List ℕ) (vs us : List Value) → ValuesRel p w f ns vs us → length vs ≡ length us
  values-long ns _ _ none_yet = refl
  values-long _ _ _ (one_more h hs) = ap suc (values-long _ _ _ hs)

pub drop-at : (k : ℕ) (xs : List ℕ) (n : ℕ) (ns : List ℕ) → n ∷ ns ≡ drop k xs →
    (drop (suc k) xs ≡ ns) × (k < length xs) × (slice_get xs k ≡ Some n)
drop-at zero [] n ns h = cc
drop-at zero (x ∷ xs) n ns h = (cc, omega arith, cc)
drop-at (suc k) [] n ns h = cc
drop-at (suc k) (x ∷ xs) n ns h = let r = drop-at k xs n ns h in (r.0, omega (arith, r.1), r.2)

pub drop-none : (k : ℕ) (xs : List ℕ) → [] ≡ drop k xs → length xs ≤ k
drop-none k [] h = omega arith
drop-none zero (x ∷ xs) h = cc
drop-none (suc k) (x ∷ xs) h = let r = drop-none k xs h in omega arith

-- what operands of some numbers name
module _ (p : ProgramTree)
    (same : (e : Tree) → Each (Good p) e → Same (Rel.free_cells p e) (free (inner_free p) e)) where
  numbers_tree : (o : Option Tree) (y : ℕ) → ((e : Tree) → o ≡ Some e → Each (Good p) e) →
      IsIn y (T.free_of_tree (Rel.target p) (with_cells_at (is_assigned p) o)) →
      IsIn y (R.free_of_tree (Rel.source p) o)
  numbers_tree None y h i = absurd i
  numbers_tree (Some e) y h i = (same e (h e refl)).to y i

  pub numbers-to : (es : Trees) (ns : List ℕ) (y : ℕ) → EachAll (Good p) es →
      IsIn y (T.free_of_numbers (Rel.target p) (eliminate_all (is_assigned p) es) ns) →
      IsIn y (R.free_of_numbers (Rel.source p) es ns)
  numbers-to es [] y h i = absurd i
  numbers-to es (n ∷ ns) y h i =
      ⊎_elim
      (λ j. in-left y (R.free_of_tree (Rel.source p) (tree_at es n)) _
      (numbers_tree (tree_at es n) y (λ e q. each-tree (Good p) es n e h q)
      (subst (λ o. IsIn y (T.free_of_tree (Rel.target p) o)) (same-tree (is_assigned p) es n) j)))
      (λ j. in-right y (R.free_of_tree (Rel.source p) (tree_at es n)) _ (numbers-to es ns y h j))
      (in-either y (T.free_of_tree (Rel.target p) (C.tree_at (eliminate_all (is_assigned p) es) n)) _ i)

-- what operands name is named by the node
pub numbers-all : (x : T.Context) (es : C.Trees) (ns : List ℕ) (y : ℕ) → IsIn y (T.free_of_numbers x es ns) →
    IsIn y (F.free_all x.inner es)
numbers-all x es [] y i = absurd i
numbers-all x es (n ∷ ns) y i = ⊎_elim (at_tree es n) (numbers-all x es ns y)
    (in-either y (T.free_of_tree x (C.tree_at es n)) _ i)
  where
    at_tree : (es : C.Trees) (n : ℕ) → IsIn y (T.free_of_tree x (C.tree_at es n)) → IsIn y (F.free_all x.inner es)
    at_tree C.none n j = absurd j
    at_tree (C.more e es) zero j = in-left y (F.free x.inner e) _ j
    at_tree (C.more e es) (suc n) j = in-right y (F.free x.inner e) _ (at_tree es n j)
