-- What the functions on a program's lambda expressions by their numbers give, where the rules are kept: those
-- inside a lambda expression have greater numbers.
use Rattle.std.proofs.Common.{◌≡◌, refl, sym, ap, ◌∙◌, subst, ℕ, zero, suc, ◌+◌, ◌<◌, inl, inr, ⊎_elim, arith, Bool, cond, ◌==◌, List, [], ◌∷◌, ◌++◌, length, map, Some, slice_get, eq-eqb}
use Rattle.std.proofs.lemmas.Bool.{ne_eqb}
use Rattle.std.proofs.lemmas.Option.{same_Some}
use Rattle.tb_prim.specs.declared.place.Place.{Place}
use Rattle.tb_semantics.specs.Graph.{IsIn, IsApart}
use Rattle.tb_core.specs.Tree.{Tree, Node, Form, Quote, Local, Global, Lambda, If, SetLocal, SetGlobal, DefGlobal, Let, Letrec, Seq, Call, PrimUse, Apply, Trees, none, more, LambdaTree, ProgramTree, parameters}
use Rattle.tb_core.specs.FreeVariables.{is_assigned, without, of_lambdas, free, free_form, free_all, lambda_free, lambdas_free, inner_free}
use Rattle.tb_core.specs.OperandOrder.{Line, operands, line_of, own_line, lines, lines_form, lines_all, lines_of_lambdas, lambdas_lines, order_of, line_at, HasLine}
use Rattle.tb_core.specs.Rules.{Every, Each, EachForm, EachAll, InnerAreGreater, KeepsRules, inner, inner_form, inner_all, inner_of_lambdas, standing}
use Rattle.tb_core.proofs.Members.{in-left, in-right, in-either, in-tested, append-same}

-- the free variables of an expression depend on those of the lambda expressions in it
module _ (f g : ℕ → List ℕ) where
  abbrev Same : List ℕ → Type 0
  Same ls = (l : ℕ) → IsIn l ls → f l ≡ g l

  of_lambdas_same : (ls : List ℕ) → Same ls → of_lambdas f ls ≡ of_lambdas g ls
  of_lambdas_same [] h = refl
  of_lambdas_same (l ∷ ls) h = append-same (f l) _ (g l) _ (h l (inl refl)) (of_lambdas_same ls (λ k i. h k (inr i)))

  mutual
    free_same : (e : Tree) → Same (inner e) → free f e ≡ free g e
    free_same (Node p s k) h = free_form_same k h

    free_form_same : (k : Form) → Same (inner_form k) → free_form f k ≡ free_form g k
    free_form_same (Quote c) h = refl
    free_form_same (Local x) h = refl
    free_form_same (Global v) h = refl
    free_form_same (Lambda l) h = h l (inl refl)
    free_form_same (If a b c) h =
        append-same (free f a) _ (free g a) _ (free_same a (λ l i. h l (in-left l (inner a) _ i)))
        (append-same (free f b) _ (free g b) _ (free_same b (λ l i. h l (in-right l (inner a) _ (in-left l (inner b) _ i)))) (free_same c (λ l i. h l (in-right l (inner a) _ (in-right l (inner b) _ i)))))
    free_form_same (SetLocal x e) h = ap (λ xs. x ∷ xs) (free_same e h)
    free_form_same (SetGlobal v e) h = free_same e h
    free_form_same (DefGlobal v e) h = free_same e h
    free_form_same (Let xs es e) h =
        append-same (free_all f es) _ (free_all g es) _ (free_all_same es (λ l i. h l (in-left l (inner_all es) _ i)))
        (ap (without xs) (free_same e (λ l i. h l (in-right l (inner_all es) _ i))))
    free_form_same (Letrec xs ls e) h =
        ap (without xs) (append-same (of_lambdas f ls) _ (of_lambdas g ls) _ (of_lambdas_same ls (λ l i. h l (in-left l ls _ i))) (free_same e (λ l i. h l (in-right l ls _ i))))
    free_form_same (Seq es) h = free_all_same es h
    free_form_same (Call a es) h =
        append-same (free f a) _ (free g a) _ (free_same a (λ l i. h l (in-left l (inner a) _ i))) (free_all_same es (λ l i. h l (in-right l (inner a) _ i)))
    free_form_same (PrimUse q es) h = free_all_same es h
    free_form_same (Apply a b) h =
        append-same (free f a) _ (free g a) _ (free_same a (λ l i. h l (in-left l (inner a) _ i))) (free_same b (λ l i. h l (in-right l (inner a) _ i)))

    free_all_same : (es : Trees) → Same (inner_all es) → free_all f es ≡ free_all g es
    free_all_same none h = refl
    free_all_same (more e es) h =
        append-same (free f e) _ (free g e) _ (free_same e (λ l i. h l (in-left l (inner e) _ i))) (free_all_same es (λ l i. h l (in-right l (inner e) _ i)))

-- the lines of an expression do, too
module _ (a : ℕ → Bool) (f g : ℕ → List Line) where
  abbrev SameLines : List ℕ → Type 0
  SameLines ls = (l : ℕ) → IsIn l ls → f l ≡ g l

  lines_of_lambdas_same : (ls : List ℕ) → SameLines ls → lines_of_lambdas f ls ≡ lines_of_lambdas g ls
  lines_of_lambdas_same [] h = refl
  lines_of_lambdas_same (l ∷ ls) h = append-same (f l) _ (g l) _ (h l (inl refl)) (lines_of_lambdas_same ls (λ k i. h k (inr i)))

  mutual
    lines_same : (e : Tree) → SameLines (inner e) → lines a f e ≡ lines a g e
    lines_same (Node p s k) h = ap (λ ns. own_line a p s k ++ ns) (lines_form_same k h)

    lines_form_same : (k : Form) → SameLines (inner_form k) → lines_form a f k ≡ lines_form a g k
    lines_form_same (Quote c) h = refl
    lines_form_same (Local x) h = refl
    lines_form_same (Global v) h = refl
    lines_form_same (Lambda l) h = h l (inl refl)
    lines_form_same (If b c d) h =
        append-same (lines a f b) _ (lines a g b) _ (lines_same b (λ l i. h l (in-left l (inner b) _ i)))
        (append-same (lines a f c) _ (lines a g c) _ (lines_same c (λ l i. h l (in-right l (inner b) _ (in-left l (inner c) _ i)))) (lines_same d (λ l i. h l (in-right l (inner b) _ (in-right l (inner c) _ i)))))
    lines_form_same (SetLocal x e) h = lines_same e h
    lines_form_same (SetGlobal v e) h = lines_same e h
    lines_form_same (DefGlobal v e) h = lines_same e h
    lines_form_same (Let xs es e) h =
        append-same (lines_all a f es) _ (lines_all a g es) _ (lines_all_same es (λ l i. h l (in-left l (inner_all es) _ i))) (lines_same e (λ l i. h l (in-right l (inner_all es) _ i)))
    lines_form_same (Letrec xs ls e) h =
        append-same (lines_of_lambdas f ls) _ (lines_of_lambdas g ls) _ (lines_of_lambdas_same ls (λ l i. h l (in-left l ls _ i))) (lines_same e (λ l i. h l (in-right l ls _ i)))
    lines_form_same (Seq es) h = lines_all_same es h
    lines_form_same (Call b es) h =
        append-same (lines a f b) _ (lines a g b) _ (lines_same b (λ l i. h l (in-left l (inner b) _ i))) (lines_all_same es (λ l i. h l (in-right l (inner b) _ i)))
    lines_form_same (PrimUse q es) h = lines_all_same es h
    lines_form_same (Apply b c) h =
        append-same (lines a f b) _ (lines a g b) _ (lines_same b (λ l i. h l (in-left l (inner b) _ i))) (lines_same c (λ l i. h l (in-right l (inner b) _ i)))

    lines_all_same : (es : Trees) → SameLines (inner_all es) → lines_all a f es ≡ lines_all a g es
    lines_all_same none h = refl
    lines_all_same (more e es) h =
        append-same (lines a f e) _ (lines a g e) _ (lines_same e (λ l i. h l (in-left l (inner e) _ i))) (lines_all_same es (λ l i. h l (in-right l (inner e) _ i)))

every_in : {X : Type 0} (P : X → Type 0) (xs : List X) (x : X) → Every P xs → IsIn x xs → P x
every_in P [] x e i = absurd i
every_in P (y ∷ xs) x e (inl q) = subst P q e.0
every_in P (y ∷ xs) x e (inr i) = every_in P xs x e.1 i

-- those inside a lambda expression have greater numbers
pub greater-at : (ls : List LambdaTree) (first k : ℕ) (l : LambdaTree) → InnerAreGreater first ls → slice_get ls k ≡ Some l → (m : ℕ) → IsIn m (inner l.body) → first + k < m
greater-at [] first k l h e m i = cc
greater-at (n ∷ ls) first zero l h e m i =
    let j = every_in (λ m. first < m) (inner n.body) m h.0 (subst (λ t. IsIn m (inner t.body)) (sym (same_Some n l e)) i) in
    omega arith
greater-at (n ∷ ls) first (suc k) l h e m i = let j = greater-at ls (suc first) k l h.1 e m i in omega arith

-- a number past the first is looked for among the others
pub past-first : {X : Type 0} (first n : ℕ) (x y : X) → first < n → cond (first == n) x y ≡ y
past-first first n x y h = ap (λ b. cond b x y) (ne_eqb first n (λ e. absurd (omega arith)))

pub at-first : {X : Type 0} (first n : ℕ) (x y : X) → first ≡ n → cond (first == n) x y ≡ x
at-first first n x y h = ap (λ b. cond b x y) (eq-eqb first n h)

free_at : (ms : List LambdaTree) (first k n : ℕ) (l : LambdaTree) → n ≡ first + k → InnerAreGreater first ms → slice_get ms k ≡ Some l → lambdas_free ms first n ≡ lambda_free (lambdas_free ms first) l
free_at [] first k n l q h e = cc
free_at (m ∷ ms) first zero n l q h e =
    let t : m ≡ l = same_Some m l e in
    at-first first n _ _ (omega arith)
    ∙ ap (λ v. lambda_free (lambdas_free ms (suc first)) v) t
    ∙ ap (without (parameters l)) (free_same (lambdas_free ms (suc first)) (lambdas_free (m ∷ ms) first) l.body
    (λ v i. let j = greater-at (m ∷ ms) first zero l h e v i in sym (past-first first v _ _ (omega arith))))
free_at (m ∷ ms) first (suc k) n l q h e =
    past-first first n _ _ (omega arith)
    ∙ free_at ms (suc first) k n l (omega arith) h.1 e
    ∙ ap (without (parameters l)) (free_same (lambdas_free ms (suc first)) (lambdas_free (m ∷ ms) first) l.body
    (λ v i. let j = greater-at (m ∷ ms) first (suc k) l h e v i in sym (past-first first v _ _ (omega arith))))

-- the free variables of a lambda expression are those of its body but its parameters
pub free-of-lambda : (p : ProgramTree) (n : ℕ) (l : LambdaTree) → InnerAreGreater 0 p.lambdas → slice_get p.lambdas n ≡ Some l → inner_free p n ≡ lambda_free (inner_free p) l
free-of-lambda p n l h e = free_at p.lambdas 0 n n l (omega arith) h e

lines_at : (a : ℕ → Bool) (ms : List LambdaTree) (first k n : ℕ) (l : LambdaTree) → n ≡ first + k → InnerAreGreater first ms → slice_get ms k ≡ Some l → lambdas_lines a ms first n ≡ lines a (lambdas_lines a ms first) l.body
lines_at a [] first k n l q h e = cc
lines_at a (m ∷ ms) first zero n l q h e =
    let t : m ≡ l = same_Some m l e in
    at-first first n _ _ (omega arith)
    ∙ ap (λ v. lines a (lambdas_lines a ms (suc first)) v.body) t
    ∙ lines_same a (lambdas_lines a ms (suc first)) (lambdas_lines a (m ∷ ms) first) l.body
    (λ v i. let j = greater-at (m ∷ ms) first zero l h e v i in sym (past-first first v _ _ (omega arith)))
lines_at a (m ∷ ms) first (suc k) n l q h e =
    past-first first n _ _ (omega arith)
    ∙ lines_at a ms (suc first) k n l (omega arith) h.1 e
    ∙ lines_same a (lambdas_lines a ms (suc first)) (lambdas_lines a (m ∷ ms) first) l.body
    (λ v i. let j = greater-at (m ∷ ms) first (suc k) l h e v i in sym (past-first first v _ _ (omega arith)))

-- the lines of a lambda expression that stands in an expression are among those of the expression
module _ (a : ℕ → Bool) (f : ℕ → List Line) (m : ℕ) (n : Line) (i : IsIn n (f m)) where
  standing_lambdas : (ls : List ℕ) → IsIn m ls → IsIn n (lines_of_lambdas f ls)
  standing_lambdas [] j = absurd j
  standing_lambdas (l ∷ ls) (inl e) = in-left n (f l) _ (subst (λ k. IsIn n (f k)) (sym e) i)
  standing_lambdas (l ∷ ls) (inr j) = in-right n (f l) _ (standing_lambdas ls j)

  mutual
    standing_lines : (e : Tree) → IsIn m (inner e) → IsIn n (lines a f e)
    standing_lines (Node p s k) j = in-right n (own_line a p s k) _ (standing_form k j)

    standing_form : (k : Form) → IsIn m (inner_form k) → IsIn n (lines_form a f k)
    standing_form (Quote c) j = absurd j
    standing_form (Local x) j = absurd j
    standing_form (Global v) j = absurd j
    standing_form (Lambda l) (inl e) = subst (λ k. IsIn n (f k)) (sym e) i
    standing_form (Lambda l) (inr j) = absurd j
    standing_form (If b c d) j =
        ⊎_elim (λ h. in-left n (lines a f b) _ (standing_lines b h))
        (λ h. in-right n (lines a f b) _ (⊎_elim (λ g. in-left n (lines a f c) _ (standing_lines c g)) (λ g. in-right n (lines a f c) _ (standing_lines d g)) (in-either m (inner c) (inner d) h)))
        (in-either m (inner b) _ j)
    standing_form (SetLocal x e) j = standing_lines e j
    standing_form (SetGlobal v e) j = standing_lines e j
    standing_form (DefGlobal v e) j = standing_lines e j
    standing_form (Let xs es e) j =
        ⊎_elim (λ h. in-left n (lines_all a f es) _ (standing_all es h)) (λ h. in-right n (lines_all a f es) _ (standing_lines e h)) (in-either m (inner_all es) _ j)
    standing_form (Letrec xs ls e) j =
        ⊎_elim (λ h. in-left n (lines_of_lambdas f ls) _ (standing_lambdas ls h)) (λ h. in-right n (lines_of_lambdas f ls) _ (standing_lines e h)) (in-either m ls _ j)
    standing_form (Seq es) j = standing_all es j
    standing_form (Call b es) j =
        ⊎_elim (λ h. in-left n (lines a f b) _ (standing_lines b h)) (λ h. in-right n (lines a f b) _ (standing_all es h)) (in-either m (inner b) _ j)
    standing_form (PrimUse q es) j = standing_all es j
    standing_form (Apply b c) j =
        ⊎_elim (λ h. in-left n (lines a f b) _ (standing_lines b h)) (λ h. in-right n (lines a f b) _ (standing_lines c h)) (in-either m (inner b) _ j)

    standing_all : (es : Trees) → IsIn m (inner_all es) → IsIn n (lines_all a f es)
    standing_all none j = absurd j
    standing_all (more e es) j =
        ⊎_elim (λ h. in-left n (lines a f e) _ (standing_lines e h)) (λ h. in-right n (lines a f e) _ (standing_all es h)) (in-either m (inner e) _ j)

-- the lambda expression in whose body another stands
pub around : (ls : List LambdaTree) (m : ℕ) → IsIn m (inner_of_lambdas ls) → (k : ℕ) × (l : LambdaTree) × (slice_get ls k ≡ Some l) × IsIn m (inner l.body)
around [] m i = absurd i
around (l ∷ ls) m i =
    ⊎_elim (λ h. (0, l, refl, h)) (λ h. let r = around ls m h in (suc r.0, r.1, r.2, r.3)) (in-either m (inner l.body) _ i)

pub within : {X : Type 0} (xs : List X) (k : ℕ) (x : X) → slice_get xs k ≡ Some x → k < length xs
within [] k x e = cc
within (y ∷ xs) zero x e = omega arith
within (y ∷ xs) (suc k) x e = let h = within xs k x e in omega arith

-- the line of a site, where no other line has it
line_found : (ls : List Line) (n : Line) → IsApart (map (λ (l : Line). l.site) ls) → IsIn n ls → line_at ls n.site ≡ n.order
line_found [] n h i = absurd i
line_found (l ∷ ls) n h (inl e) = at-first l.site n.site _ _ (ap (λ (k : Line). k.site) e) ∙ ap (λ (k : Line). k.order) e
line_found (l ∷ ls) n h (inr i) =
    ap (λ b. cond b l.order (line_at ls n.site)) (ne_eqb l.site n.site (λ e. h.0 (mapped_in ls n l.site (sym e) i)))
    ∙ line_found ls n h.1 i
  where
    mapped_in : (ks : List Line) (n : Line) (s : ℕ) → n.site ≡ s → IsIn n ks → IsIn s (map (λ (l : Line). l.site) ks)
    mapped_in [] n s e i = absurd i
    mapped_in (k ∷ ks) n s e (inl q) = inl (ap (λ (v : Line). v.site) q ∙ e)
    mapped_in (k ∷ ks) n s e (inr i) = inr (mapped_in ks n s e i)

abbrev by_number : ProgramTree → ℕ → List Line
by_number p = lambdas_lines (is_assigned p) p.lambdas 0

-- each line of a lambda expression is one of the program's
lambda_lines : (p : ProgramTree) → KeepsRules p → (fuel m : ℕ) (l : LambdaTree) → m < fuel → slice_get p.lambdas m ≡ Some l → (n : Line) → IsIn n (by_number p m) → IsIn n (order_of p)
lambda_lines p r zero m l h e n i = absurd (omega arith)
lambda_lines p r (suc fuel) m l h e n i =
    ⊎_elim
    (λ j. standing_all (is_assigned p) (by_number p) m n i p.forms j)
    (λ j.
    let o = around p.lambdas m j in
    let g = greater-at p.lambdas 0 o.0 o.1 r.inner_greater o.2 m o.3 in
    let eq = lines_at (is_assigned p) p.lambdas 0 o.0 o.0 o.1 (omega arith) r.inner_greater o.2 in
    lambda_lines p r fuel o.0 o.1 (omega arith) o.2 n (subst (IsIn n) (sym eq) (standing_lines (is_assigned p) (by_number p) m n i (o.1).body o.3)))
    (in-either m (inner_all p.forms) _ (in-tested (standing p) m (r.lambdas_at_least_once m (within p.lambdas m l e))))

module _ (p : ProgramTree) (apart : IsApart (map (λ (l : Line). l.site) (order_of p))) where
  abbrev Holds : List Line → Type 0
  Holds ls = (n : Line) → IsIn n ls → IsIn n (order_of p)

  own_found : (q : Place) (s : ℕ) (f : Form) → Holds (own_line (is_assigned p) q s f) → HasLine p s f
  own_found q s f h e =
      let n : Line = record { place = q; site = s; order = line_of (is_assigned p) (operands f) } in
      let own : IsIn n (own_line (is_assigned p) q s f) = subst (λ b. IsIn n (cond b (n ∷ []) [])) (sym e) (inl refl) in
      line_found (order_of p) n apart (h n own)

  mutual
    each_found : (e : Tree) → Holds (lines (is_assigned p) (by_number p) e) → Each (HasLine p) e
    each_found (Node q s f) h =
        (own_found q s f (λ n i. h n (in-left n _ _ i)), form_found f (λ n i. h n (in-right n (own_line (is_assigned p) q s f) _ i)))

    form_found : (f : Form) → Holds (lines_form (is_assigned p) (by_number p) f) → EachForm (HasLine p) f
    form_found (Quote c) h = tt
    form_found (Local x) h = tt
    form_found (Global v) h = tt
    form_found (Lambda l) h = tt
    form_found (If b c d) h = (
      each_found b (λ n i. h n (in-left n _ _ i)),
      each_found c (λ n i. h n (in-right n (lines (is_assigned p) (by_number p) b) _ (in-left n _ _ i))),
      each_found d (λ n i. h n (in-right n (lines (is_assigned p) (by_number p) b) _ (in-right n (lines (is_assigned p) (by_number p) c) _ i))),
    )
    form_found (SetLocal x e) h = each_found e h
    form_found (SetGlobal v e) h = each_found e h
    form_found (DefGlobal v e) h = each_found e h
    form_found (Let xs es e) h = (all_found es (λ n i. h n (in-left n _ _ i)), each_found e (λ n i. h n (in-right n (lines_all (is_assigned p) (by_number p) es) _ i)))
    form_found (Letrec xs ls e) h = each_found e (λ n i. h n (in-right n (lines_of_lambdas (by_number p) ls) _ i))
    form_found (Seq es) h = all_found es h
    form_found (Call b es) h = (each_found b (λ n i. h n (in-left n _ _ i)), all_found es (λ n i. h n (in-right n (lines (is_assigned p) (by_number p) b) _ i)))
    form_found (PrimUse q es) h = all_found es h
    form_found (Apply b c) h = (each_found b (λ n i. h n (in-left n _ _ i)), each_found c (λ n i. h n (in-right n (lines (is_assigned p) (by_number p) b) _ i)))

    all_found : (es : Trees) → Holds (lines_all (is_assigned p) (by_number p) es) → EachAll (HasLine p) es
    all_found none h = tt
    all_found (more e es) h = (each_found e (λ n i. h n (in-left n _ _ i)), all_found es (λ n i. h n (in-right n (lines (is_assigned p) (by_number p) e) _ i)))

-- where the rules are kept, each node that has an order has its own line, in the forms
pub forms-have-lines : (p : ProgramTree) → KeepsRules p → EachAll (HasLine p) p.forms
forms-have-lines p r = all_found p r.sites_apart p.forms (λ n i. i)

-- and in the body of each lambda expression
pub bodies-have-lines : (p : ProgramTree) → KeepsRules p → (m : ℕ) (l : LambdaTree) → slice_get p.lambdas m ≡ Some l → Each (HasLine p) l.body
bodies-have-lines p r m l e =
    let eq = lines_at (is_assigned p) p.lambdas 0 m m l (omega arith) r.inner_greater e in
    each_found p r.sites_apart l.body (λ n i. lambda_lines p r (suc m) m l (omega arith) e n (subst (IsIn n) (sym eq) i))
