-- First uses do not change where what a lambda expression uses stands as its first uses alone.
use Rattle.std.proofs.Common.{◌≡◌, refl, sym, ap, ◌∙◌, ℕ, zero, suc, ◌<◌, arith, Bool, true, false, cond, not, ◌==◌, ◌||◌, List, [], ◌∷◌, ◌++◌, length, map, drop, get_or, set, append_assoc, ◌⊎◌, inl, inr, eqb-true}
use Rattle.std.proofs.Math.Seq.{drop-cons}
use Rattle.std.proofs.lemmas.Bool.{cases_Bool, eqb-false}
use Rattle.std.proofs.lemmas.List.Folds.{list_any-append}
use Rattle.tb_core.specs.FirstUses.{first_of}
use Rattle.tb_core.specs.FreeVariables.{is_in, without, of_lambdas}
use Rattle.tb_core.specs.Lifting.{Lifted}
use Rattle.tb_core.proofs.FirstUses.{first_of-same, first_of-append, first_of-in}
use Rattle.tb_ir.specs.FreeVariables.{parameters, added_to, free, free_form, free_all, lambda_free, lambdas_free}
use Rattle.tb_ir.specs.Plain.{view_lambda}
use Rattle.tb_ir.specs.Tree.{Tree, Node, Form, Quote, Local, Global, Lambda, If, NewCell, CellGet, CellSet, SetGlobal, DefGlobal, Let, Letrec, Seq, Call, Direct, PrimUse, Apply, Trees, none, more, LambdaTree}
use Rattle.tb_ir.specs.declared.cells.CellLambda.{CellLambda}
use Rattle.tb_anf.specs.calls.Captures.{row_at, captured_in}

in_append : (xs ys : List ℕ) (y : ℕ) → is_in (xs ++ ys) y ≡ (is_in xs y || is_in ys y)
in_append xs ys y = list_any-append (λ x. x == y) xs ys

-- two lists have the same first uses, whatever was seen before
abbrev SameUses : List ℕ → List ℕ → Type 0
SameUses xs ys = (s : List ℕ) → first_of s xs ≡ first_of s ys

same_members : (xs ys : List ℕ) → SameUses xs ys → (y : ℕ) → is_in xs y ≡ is_in ys y
same_members xs ys h y = sym (first_of-in [] xs y) ∙ ap (λ zs. is_in zs y) (h []) ∙ first_of-in [] ys y

same_append : (xs ys us vs : List ℕ) → SameUses xs ys → SameUses us vs → SameUses (xs ++ us) (ys ++ vs)
same_append xs ys us vs h k s =
    first_of-append s xs us
    ∙ ap (λ zs. zs ++ first_of (s ++ xs) us) (h s)
    ∙ ap (λ zs. first_of s ys ++ zs)
    (k (s ++ xs) ∙ first_of-same (s ++ xs) (s ++ ys) vs
    (λ y. in_append s xs y ∙ ap (λ b. is_in s y || b) (same_members xs ys h y) ∙ sym (in_append s ys y)))
    ∙ sym (first_of-append s ys vs)

-- what is left out counts as seen
uses_without : (p t ys : List ℕ) → first_of t (without p ys) ≡ first_of (p ++ t) ys
uses_without p t [] = refl
uses_without p t (y ∷ ys) = by_test (λ t'. uses_without p t' ys) (is_in p y) refl
  where
    by_test : ((t' : List ℕ) → first_of t' (without p ys) ≡ first_of (p ++ t') ys) → (b : Bool) → is_in p y ≡ b → first_of t (cond (not b) (y ∷ without p ys) (without p ys)) ≡ first_of (p ++ t) (y ∷ ys)
    by_test r true e = r t ∙ ap (λ c. cond c (first_of (p ++ t) ys) (y ∷ first_of ((p ++ t) ++ y ∷ []) ys)) (sym (in_append p t y ∙ ap (λ c. c || is_in t y) e))
    by_test r false e =
        ap (λ zs. cond (is_in t y) zs (y ∷ first_of (t ++ y ∷ []) (without p ys))) (r t)
        ∙ ap (λ zs. cond (is_in t y) (first_of (p ++ t) ys) (y ∷ zs)) (r (t ++ y ∷ []) ∙ ap (λ q. first_of q ys) (sym (append_assoc p t (y ∷ []))))
        ∙ ap (λ c. cond c (first_of (p ++ t) ys) (y ∷ first_of ((p ++ t) ++ y ∷ []) ys)) (sym (in_append p t y ∙ ap (λ c. c || is_in t y) e))

same_without : (p xs ys : List ℕ) → SameUses xs ys → SameUses (without p xs) (without p ys)
same_without p xs ys h s = uses_without p s xs ∙ h (p ++ s) ∙ sym (uses_without p s ys)

-- first uses of first uses
abbrev AreSeen : List ℕ → List ℕ → Type 0
AreSeen t s = (y : ℕ) → is_in t y ≡ true → is_in s y ≡ true

seen_more : (t s : List ℕ) (x : ℕ) → AreSeen t s → AreSeen (t ++ x ∷ []) (s ++ x ∷ [])
seen_more t s x h y e = in_append s (x ∷ []) y ∙ by_test (is_in t y) refl (sym (in_append t (x ∷ []) y) ∙ e)
  where
    or_true : (b : Bool) → (b || true) ≡ true
    or_true true = refl
    or_true false = refl

    by_test : (b : Bool) → is_in t y ≡ b → (b || is_in (x ∷ []) y) ≡ true → (is_in s y || is_in (x ∷ []) y) ≡ true
    by_test true q k = ap (λ c. c || is_in (x ∷ []) y) (h y q)
    by_test false q k = ap (λ c. is_in s y || c) k ∙ or_true (is_in s y)

seen_here : (t s : List ℕ) (x : ℕ) → AreSeen t s → is_in s x ≡ true → AreSeen (t ++ x ∷ []) s
seen_here t s x h i y e = by_test (is_in t y) refl (sym (in_append t (x ∷ []) y) ∙ e)
  where
    of_one : (b : Bool) → (x == y) ≡ b → (b || false) ≡ true → is_in s y ≡ true
    of_one true q k = ap (is_in s) (sym (eqb-true x y q)) ∙ i
    of_one false q k = cc

    by_test : (b : Bool) → is_in t y ≡ b → (b || is_in (x ∷ []) y) ≡ true → is_in s y ≡ true
    by_test true q k = h y q
    by_test false q k = of_one (x == y) refl k

uses_twice : (t s xs : List ℕ) → AreSeen t s → first_of s (first_of t xs) ≡ first_of s xs
uses_twice t s [] h = refl
uses_twice t s (x ∷ xs) h = by_test (λ t' s' k. uses_twice t' s' xs k) (is_in t x) refl (is_in s x) refl
  where
    by_test : ((t' s' : List ℕ) → AreSeen t' s' → first_of s' (first_of t' xs) ≡ first_of s' xs) → (b : Bool) → is_in t x ≡ b → (c : Bool) → is_in s x ≡ c →
        first_of s (cond b (first_of t xs) (x ∷ first_of (t ++ x ∷ []) xs)) ≡ cond c (first_of s xs) (x ∷ first_of (s ++ x ∷ []) xs)
    by_test r true e true f = r t s h
    by_test r true e false f = let g = h x e in cc
    by_test r false e true f =
        ap (λ c. cond c (first_of s (first_of (t ++ x ∷ []) xs)) (x ∷ first_of (s ++ x ∷ []) (first_of (t ++ x ∷ []) xs))) f
        ∙ r (t ++ x ∷ []) s (seen_here t s x h f)
    by_test r false e false f =
        ap (λ c. cond c (first_of s (first_of (t ++ x ∷ []) xs)) (x ∷ first_of (s ++ x ∷ []) (first_of (t ++ x ∷ []) xs))) f
        ∙ ap (λ zs. x ∷ zs) (r (t ++ x ∷ []) (s ++ x ∷ []) (seen_more t s x h))

same_first : (xs : List ℕ) → SameUses (first_of [] xs) xs
same_first xs s = uses_twice [] s xs (λ y e. cc)

module _ (f g : ℕ → List ℕ) (same : (l : ℕ) → SameUses (f l) (g l)) where
  lambdas_same : (ls : List ℕ) → SameUses (of_lambdas f ls) (of_lambdas g ls)
  lambdas_same [] s = refl
  lambdas_same (l ∷ ls) s = same_append (f l) (g l) _ _ (same l) (lambdas_same ls) s

  mutual
    uses_same : (e : Tree) → SameUses (free f e) (free g e)
    uses_same (Node p i k) s = form_same k s

    form_same : (k : Form) → SameUses (free_form f k) (free_form g k)
    form_same (Quote c) s = refl
    form_same (Local x) s = refl
    form_same (Global v) s = refl
    form_same (Lambda l) s = same l s
    form_same (If a b c) s = same_append (free f a) (free g a) _ _ (uses_same a) (same_append (free f b) (free g b) _ _ (uses_same b) (uses_same c)) s
    form_same (NewCell e) s = uses_same e s
    form_same (CellGet e) s = uses_same e s
    form_same (CellSet c e) s = same_append (free f c) (free g c) _ _ (uses_same c) (uses_same e) s
    form_same (SetGlobal v e) s = uses_same e s
    form_same (DefGlobal v e) s = uses_same e s
    form_same (Let xs es e) s = same_append (free_all f es) (free_all g es) _ _ (all_same es) (same_without xs (free f e) (free g e) (uses_same e)) s
    form_same (Letrec xs ls e) s =
        same_without xs (of_lambdas f ls ++ free f e) (of_lambdas g ls ++ free g e) (same_append (of_lambdas f ls) (of_lambdas g ls) _ _ (lambdas_same ls) (uses_same e)) s
    form_same (Seq es) s = all_same es s
    form_same (Call a es) s = same_append (free f a) (free g a) _ _ (uses_same a) (all_same es) s
    form_same (Direct l es) s = all_same es s
    form_same (PrimUse q es) s = all_same es s
    form_same (Apply a b) s = same_append (free f a) (free g a) _ _ (uses_same a) (uses_same b) s

    all_same : (es : Trees) → SameUses (free_all f es) (free_all g es)
    all_same none s = refl
    all_same (more e es) s = same_append (free f e) (free g e) _ _ (uses_same e) (all_same es) s

  pub captured-same : (m : LambdaTree) (added : List ℕ) → captured_in f m added ≡ first_of [] (lambda_free g added m)
  captured-same m added = same_without (parameters m ++ added) (free f m.body) (free g m.body) (uses_same m.body) []

row_same : (rows : List (List ℕ)) (i : ℕ) (c : List ℕ) → i < length rows → row_at (set rows i c) i ≡ c
row_same [] i c lt = absurd (omega arith)
row_same (r ∷ rows) zero c lt = refl
row_same (r ∷ rows) (suc i) c lt = row_same rows i c (omega arith)

row_other : (rows : List (List ℕ)) (i : ℕ) (c : List ℕ) (l : ℕ) → (i ≡ l → ⊥) → row_at (set rows i c) l ≡ row_at rows l
row_other [] i c l ne = refl
row_other (r ∷ rows) zero c zero ne = absurd (ne refl)
row_other (r ∷ rows) zero c (suc l) ne = refl
row_other (r ∷ rows) (suc i) c zero ne = refl
row_other (r ∷ rows) (suc i) c (suc l) ne = row_other rows i c l (λ e. ne (ap suc e))

-- one more lambda expression, before those of which it is known what their closures capture
pub captures-step : (added : List Lifted) (ls : List CellLambda) (i j : ℕ) (d : CellLambda) (rows : List (List ℕ)) (c : List ℕ) → i < length ls → j ≡ suc i →
    length rows ≡ length ls → ((l : ℕ) → row_at rows l ≡ first_of [] (lambdas_free added (map view_lambda (drop j ls)) j l)) →
    c ≡ captured_in (row_at rows) (view_lambda (get_or ls i d)) (added_to added i) → (l : ℕ) →
    row_at (set rows i c) l ≡ first_of [] (lambdas_free added (map view_lambda (drop i ls)) i l)
captures-step added ls i j d rows c lt e long h q l =
    by_test (cases_Bool (i == l)) ∙ ap (λ ms. first_of [] (lambdas_free added (map view_lambda ms) i l)) (sym (drop-cons ls i d lt))
  where
    m : LambdaTree
    m = view_lambda (get_or ls i d)

    rest : List LambdaTree
    rest = map view_lambda (drop (suc i) ls)

    known : (k : ℕ) → row_at rows k ≡ first_of [] (lambdas_free added rest (suc i) k)
    known k = h k ∙ ap (λ n. first_of [] (lambdas_free added (map view_lambda (drop n ls)) n k)) e

    whole : ℕ → Bool → List ℕ
    whole n b = cond b (lambda_free (lambdas_free added rest (suc i)) (added_to added n) m) (lambdas_free added rest (suc i) n)

    by_test : ((i == l) ≡ true) ⊎ ((i == l) ≡ false) → row_at (set rows i c) l ≡ first_of [] (whole l (i == l))
    by_test (inl t) =
        let same = eqb-true i l t in
        ap (row_at (set rows i c)) (sym same)
        ∙ row_same rows i c (omega arith) ∙ q
        ∙ captured-same (row_at rows) (lambdas_free added rest (suc i)) (λ k s. ap (first_of s) (known k) ∙ same_first (lambdas_free added rest (suc i) k) s) m (added_to added i)
        ∙ ap (λ n. first_of [] (whole n true)) same ∙ ap (λ b. first_of [] (whole l b)) (sym t)
    by_test (inr t) =
        row_other rows i c l (eqb-false i l t) ∙ known l ∙ ap (λ b. first_of [] (whole l b)) (sym t)
