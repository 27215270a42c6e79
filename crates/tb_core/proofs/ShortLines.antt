-- The lines of an order are short, and as many as nodes have one.
use Rattle.std.proofs.Common.{◌≡◌, refl, ap, subst, ℕ, suc, ◌+◌, ◌≤◌, ◌⊎◌, ⊎_elim, inl, inr, arith, Bool, true, false, cond, ◌==◌, List, [], ◌∷◌, ◌++◌, length, map, length-append, IsOk}
use Rattle.tb_prim.specs.declared.place.Place.{Place}
use Rattle.tb_semantics.specs.Graph.{IsIn}
use Rattle.tb_core.specs.Tree.{Tree, Node, Form, Quote, Local, Global, Lambda, If, SetLocal, SetGlobal, DefGlobal, Let, Letrec, Seq, Call, PrimUse, Apply, Trees, none, more, count, LambdaTree, ProgramTree}
use Rattle.tb_core.specs.FreeVariables.{is_assigned}
use Rattle.tb_core.specs.OperandOrder.{Line, operands, has_order, line_of, own_line, lines, lines_form, lines_all, lines_of_lambdas, lambdas_lines, order_of}
use Rattle.tb_core.specs.Rules.{Every, Each, EachForm, EachAll, KeepsRules, size, size_form, size_all, size_of_lambdas}
use Rattle.tb_core.specs.Width.{nodes, nodes_form, nodes_all}
use Rattle.tb_core.specs.Limits.{FewOperands, IsShort, judge_program}
use Rattle.tb_core.proofs.Members.{in-left, in-right, in-either, no-longer}
use Rattle.tb_core.proofs.Lines.{line-apart, line-length, line-within}
use Rattle.tb_core.proofs.WithinLimits.{NarrowForms, forms-narrow, bodies-narrow, forms-law, bodies-law, within-program}

every_append : {X : Type 0} (P : X → Type 0) (xs ys : List X) → Every P xs → Every P ys → Every P (xs ++ ys)
every_append P [] ys h k = k
every_append P (x ∷ xs) ys h k = (h.0, every_append P xs ys h.1 k)

own_node : (e : Tree) → 1 ≤ nodes e
own_node (Node p s f) = omega arith

counted : (es : Trees) → count es ≤ nodes_all es
counted none = omega arith
counted (more e es) = let h = counted es in let o = own_node e in omega arith

abbrev Fine : ℕ → Form → Type 0
Fine s f = FewOperands f

short : (a : ℕ → Bool) (p : Place) (s : ℕ) (es : Trees) → count es ≤ 1000 → IsShort (record { place = p; site = s; order = line_of a es })
short a p s es h =
    let l = line-length a es in record {
      few = omega arith;
      below = λ i j. let w = line-within a es i j in omega arith;
      apart = line-apart a es;
    }

own_short : (a : ℕ → Bool) (p : Place) (s : ℕ) (f : Form) → Fine s f → 1 + nodes_form f ≤ 1000 → Every IsShort (own_line a p s f)
own_short a p s (Quote c) h w = tt
own_short a p s (Local x) h w = tt
own_short a p s (Global g) h w = tt
own_short a p s (Lambda l) h w = tt
own_short a p s (If b c d) h w = tt
own_short a p s (SetLocal x e) h w = tt
own_short a p s (SetGlobal g e) h w = tt
own_short a p s (DefGlobal g e) h w = tt
own_short a p s (Let xs es e) h w = let c = counted es in (short a p s es (omega arith), tt)
own_short a p s (Letrec xs ls e) h w = tt
own_short a p s (Seq es) h w = tt
own_short a p s (Call f es) h w = (short a p s (more f es) (omega arith), tt)
own_short a p s (PrimUse q es) h w = let c = counted es in (short a p s es (omega arith), tt)
own_short a p s (Apply f l) h w = (short a p s (more f (more l none)) (omega arith), tt)

module _ (a : ℕ → Bool) (f : ℕ → List Line) (inside : (l : ℕ) → Every IsShort (f l)) where
  short_lambdas : (ls : List ℕ) → Every IsShort (lines_of_lambdas f ls)
  short_lambdas [] = tt
  short_lambdas (l ∷ ls) = every_append IsShort (f l) _ (inside l) (short_lambdas ls)

  mutual
    short_tree : (e : Tree) → Each Fine e → nodes e ≤ 1000 → Every IsShort (lines a f e)
    short_tree (Node p s k) h w = every_append IsShort (own_line a p s k) _ (own_short a p s k h.0 w) (short_form k h.1 w)

    short_form : (k : Form) → EachForm Fine k → 1 + nodes_form k ≤ 1000 → Every IsShort (lines_form a f k)
    short_form (Quote c) h w = tt
    short_form (Local x) h w = tt
    short_form (Global g) h w = tt
    short_form (Lambda l) h w = inside l
    short_form (If b c d) h w =
        every_append IsShort (lines a f b) _ (short_tree b h.0 (omega arith))
        (every_append IsShort (lines a f c) _ (short_tree c h.1 (omega arith)) (short_tree d h.2 (omega arith)))
    short_form (SetLocal x e) h w = short_tree e h (omega arith)
    short_form (SetGlobal g e) h w = short_tree e h (omega arith)
    short_form (DefGlobal g e) h w = short_tree e h (omega arith)
    short_form (Let xs es e) h w =
        every_append IsShort (lines_all a f es) _ (short_all es h.0 (omega arith)) (short_tree e h.1 (omega arith))
    short_form (Letrec xs ls e) h w =
        every_append IsShort (lines_of_lambdas f ls) _ (short_lambdas ls) (short_tree e h (omega arith))
    short_form (Seq es) h w = short_all es h (omega arith)
    short_form (Call b es) h w =
        every_append IsShort (lines a f b) _ (short_tree b h.0 (omega arith)) (short_all es h.1 (omega arith))
    short_form (PrimUse q es) h w = short_all es h (omega arith)
    short_form (Apply b c) h w =
        every_append IsShort (lines a f b) _ (short_tree b h.0 (omega arith)) (short_tree c h.1 (omega arith))

    short_all : (es : Trees) → EachAll Fine es → nodes_all es ≤ 1000 → Every IsShort (lines_all a f es)
    short_all none h w = tt
    short_all (more e es) h w =
        every_append IsShort (lines a f e) _ (short_tree e h.0 (omega arith)) (short_all es h.1 (omega arith))

  short_forms : (es : Trees) → EachAll Fine es → NarrowForms es → Every IsShort (lines_all a f es)
  short_forms none h w = tt
  short_forms (more e es) h w = every_append IsShort (lines a f e) _ (short_tree e h.0 w.0) (short_forms es h.1 w.1)

either_short : (b : Bool) (xs ys : List Line) → Every IsShort xs → Every IsShort ys → Every IsShort (cond b xs ys)
either_short true xs ys h k = h
either_short false xs ys h k = k

short_by_number : (a : ℕ → Bool) (ms : List LambdaTree) → Every (λ (l : LambdaTree). Each Fine l.body) ms →
    Every (λ (l : LambdaTree). nodes l.body ≤ 1000) ms → (first l : ℕ) → Every IsShort (lambdas_lines a ms first l)
short_by_number a [] h w first l = tt
short_by_number a (m ∷ ms) h w first l =
    either_short (first == l) _ _
    (short_tree a (lambdas_lines a ms (suc first)) (short_by_number a ms h.1 w.1 (suc first)) m.body h.0 w.0)
    (short_by_number a ms h.1 w.1 (suc first) l)

pub short-lines : (p : ProgramTree) → KeepsRules p → IsOk (judge_program p) → Every IsShort (order_of p)
short-lines p r ok =
    short_forms (is_assigned p) (lambdas_lines (is_assigned p) p.lambdas 0)
    (short_by_number (is_assigned p) p.lambdas (bodies-law p r ok) (bodies-narrow p r ok) 0)
    p.forms (forms-law p r ok) (forms-narrow p r (within-program p ok))

-- the lines of the nodes outside inner lambda expressions
abbrev nothing : ℕ → List Line
nothing l = []

module _ (a : ℕ → Bool) where
  own_few : (p : Place) (s : ℕ) (f : Form) → length (own_line a p s f) ≤ 1
  own_few p s f = by_test (has_order f) (record { place = p; site = s; order = line_of a (operands f) })
    where
      by_test : (b : Bool) (line : Line) → length (cond b (line ∷ []) []) ≤ 1
      by_test true line = omega arith
      by_test false line = omega arith

  no_lambdas : (ls : List ℕ) → length (lines_of_lambdas nothing ls) ≡ 0
  no_lambdas [] = refl
  no_lambdas (l ∷ ls) = no_lambdas ls

  mutual
    few_tree : (e : Tree) → length (lines a nothing e) ≤ size e
    few_tree (Node p s f) =
        let o = own_few p s f in let h = few_form f in
        let l = length-append (own_line a p s f) (lines_form a nothing f) in omega arith

    few_form : (f : Form) → length (lines_form a nothing f) ≤ size_form f
    few_form (Quote c) = omega arith
    few_form (Local x) = omega arith
    few_form (Global g) = omega arith
    few_form (Lambda l) = omega arith
    few_form (If b c d) =
        let x = few_tree b in let y = few_tree c in let z = few_tree d in
        let l = length-append (lines a nothing b) (lines a nothing c ++ lines a nothing d) in
        let m = length-append (lines a nothing c) (lines a nothing d) in omega arith
    few_form (SetLocal x e) = few_tree e
    few_form (SetGlobal g e) = few_tree e
    few_form (DefGlobal g e) = few_tree e
    few_form (Let xs es e) =
        let x = few_all es in let y = few_tree e in let l = length-append (lines_all a nothing es) (lines a nothing e) in omega arith
    few_form (Letrec xs ls e) =
        let x = no_lambdas ls in let y = few_tree e in
        let l = length-append (lines_of_lambdas nothing ls) (lines a nothing e) in omega arith
    few_form (Seq es) = few_all es
    few_form (Call f es) =
        let x = few_tree f in let y = few_all es in let l = length-append (lines a nothing f) (lines_all a nothing es) in omega arith
    few_form (PrimUse q es) = few_all es
    few_form (Apply b c) =
        let x = few_tree b in let y = few_tree c in let l = length-append (lines a nothing b) (lines a nothing c) in omega arith

    few_all : (es : Trees) → length (lines_all a nothing es) ≤ size_all es
    few_all none = omega arith
    few_all (more e es) =
        let x = few_tree e in let y = few_all es in let l = length-append (lines a nothing e) (lines_all a nothing es) in omega arith

  abbrev of_bodies : List LambdaTree → List Line
  of_bodies [] = []
  of_bodies (l ∷ ls) = lines a nothing l.body ++ of_bodies ls

  few_bodies : (ls : List LambdaTree) → length (of_bodies ls) ≤ size_of_lambdas ls
  few_bodies [] = omega arith
  few_bodies (l ∷ ls) =
      let x = few_tree l.body in let y = few_bodies ls in let n = length-append (lines a nothing l.body) (of_bodies ls) in omega arith

  -- a line of an expression is one of its own nodes or of a lambda expression
  module _ (f : ℕ → List Line) (n : Line) where
    abbrev Inside : Type 0
    Inside = (m : ℕ) × IsIn n (f m)

    both : (xs ys vs ws : List Line) → (IsIn n xs → IsIn n vs ⊎ Inside) → (IsIn n ys → IsIn n ws ⊎ Inside) →
        IsIn n (xs ++ ys) → IsIn n (vs ++ ws) ⊎ Inside
    both xs ys vs ws h k i =
        ⊎_elim (λ j. ⊎_elim (λ g. inl (in-left n vs ws g)) inr (h j)) (λ j. ⊎_elim (λ g. inl (in-right n vs ws g)) inr (k j))
        (in-either n xs ys i)

    own_lambdas : (ls : List ℕ) → IsIn n (lines_of_lambdas f ls) → IsIn n (lines_of_lambdas nothing ls) ⊎ Inside
    own_lambdas [] i = absurd i
    own_lambdas (l ∷ ls) i = ⊎_elim (λ j. inr (l, j)) (own_lambdas ls) (in-either n (f l) _ i)

    mutual
      own_tree : (e : Tree) → IsIn n (lines a f e) → IsIn n (lines a nothing e) ⊎ Inside
      own_tree (Node p s k) i =
          both (own_line a p s k) (lines_form a f k) (own_line a p s k) (lines_form a nothing k) inl (own_form k) i

      own_form : (k : Form) → IsIn n (lines_form a f k) → IsIn n (lines_form a nothing k) ⊎ Inside
      own_form (Quote c) i = absurd i
      own_form (Local x) i = absurd i
      own_form (Global g) i = absurd i
      own_form (Lambda l) i = inr (l, i)
      own_form (If b c d) i =
          both (lines a f b) (lines a f c ++ lines a f d) (lines a nothing b) (lines a nothing c ++ lines a nothing d) (own_tree b)
          (both (lines a f c) (lines a f d) (lines a nothing c) (lines a nothing d) (own_tree c) (own_tree d)) i
      own_form (SetLocal x e) i = own_tree e i
      own_form (SetGlobal g e) i = own_tree e i
      own_form (DefGlobal g e) i = own_tree e i
      own_form (Let xs es e) i =
          both (lines_all a f es) (lines a f e) (lines_all a nothing es) (lines a nothing e) (own_all es) (own_tree e) i
      own_form (Letrec xs ls e) i =
          both (lines_of_lambdas f ls) (lines a f e) (lines_of_lambdas nothing ls) (lines a nothing e) (own_lambdas ls) (own_tree e) i
      own_form (Seq es) i = own_all es i
      own_form (Call g es) i =
          both (lines a f g) (lines_all a f es) (lines a nothing g) (lines_all a nothing es) (own_tree g) (own_all es) i
      own_form (PrimUse q es) i = own_all es i
      own_form (Apply b c) i = both (lines a f b) (lines a f c) (lines a nothing b) (lines a nothing c) (own_tree b) (own_tree c) i

      own_all : (es : Trees) → IsIn n (lines_all a f es) → IsIn n (lines_all a nothing es) ⊎ Inside
      own_all none i = absurd i
      own_all (more e es) i =
          both (lines a f e) (lines_all a f es) (lines a nothing e) (lines_all a nothing es) (own_tree e) (own_all es) i

  in_cond : (n : Line) (b : Bool) (xs ys : List Line) → IsIn n (cond b xs ys) → IsIn n xs ⊎ IsIn n ys
  in_cond n true xs ys i = inl i
  in_cond n false xs ys i = inr i

  of_number : (n : Line) (ms : List LambdaTree) (first l : ℕ) → IsIn n (lambdas_lines a ms first l) → IsIn n (of_bodies ms)
  of_number n [] first l i = absurd i
  of_number n (m ∷ ms) first l i =
      ⊎_elim
      (λ j. ⊎_elim (in-left n (lines a nothing m.body) (of_bodies ms))
      (λ k. in-right n (lines a nothing m.body) (of_bodies ms) (of_number n ms (suc first) k.0 k.1))
      (own_tree (lambdas_lines a ms (suc first)) n m.body j))
      (λ j. in-right n (lines a nothing m.body) (of_bodies ms) (of_number n ms (suc first) l j))
      (in_cond n (first == l) _ _ i)

in_mapped : {X Y : Type 0} (f : X → Y) (x : X) (xs : List X) → IsIn x xs → IsIn (f x) (map f xs)
in_mapped f x [] i = absurd i
in_mapped f x (z ∷ xs) (inl e) = inl (ap f e)
in_mapped f x (z ∷ xs) (inr i) = inr (in_mapped f x xs i)

from_mapped : {X Y : Type 0} (f : X → Y) (y : Y) (xs : List X) → IsIn y (map f xs) → (x : X) × IsIn x xs × (f x ≡ y)
from_mapped f y [] i = absurd i
from_mapped f y (x ∷ xs) (inl e) = (x, inl refl, e)
from_mapped f y (x ∷ xs) (inr i) = let r = from_mapped f y xs i in (r.0, inr r.1, r.2)

map_length : {X Y : Type 0} (f : X → Y) (xs : List X) → length (map f xs) ≡ length xs
map_length f [] = refl
map_length f (x ∷ xs) = let h = map_length f xs in omega arith

abbrev site_of : Line → ℕ
site_of l = l.site

pub few-lines : (p : ProgramTree) → KeepsRules p → length (order_of p) ≤ 1000000
few-lines p r =
    let a = is_assigned p in
    let own = lines_all a nothing p.forms in
    let all = own ++ of_bodies a p.lambdas in
    let held : (n : Line) → IsIn n (order_of p) → IsIn n all =
    λ n i. ⊎_elim (in-left n own (of_bodies a p.lambdas))
    (λ k. in-right n own (of_bodies a p.lambdas) (of_number a n p.lambdas 0 k.0 k.1))
    (own_all a (lambdas_lines a p.lambdas 0) n p.forms i) in
    let few = no-longer (map site_of (order_of p)) (map site_of all) r.sites_apart
    (λ s i. let l = from_mapped site_of s (order_of p) i in
    subst (λ t. IsIn t (map site_of all)) l.2 (in_mapped site_of l.0 all (held l.0 l.1))) in
    let m = map_length site_of (order_of p) in let n = map_length site_of all in
    let x = few_all a p.forms in let y = few_bodies a p.lambdas in let w = r.few_nodes in
    let l = length-append own (of_bodies a p.lambdas) in omega arith

pub few-lambdas : (p : ProgramTree) → KeepsRules p → length p.lambdas ≤ 1000000
few-lambdas p r = let w = r.few_nodes in let b = fewer p.lambdas in omega arith
  where
    own : (e : Tree) → 1 ≤ size e
    own (Node p s f) = omega arith

    fewer : (ls : List LambdaTree) → length ls ≤ size_of_lambdas ls
    fewer [] = omega arith
    fewer (l ∷ ls) = let h = fewer ls in let o = own l.body in omega arith
