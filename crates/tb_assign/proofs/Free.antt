-- What an expression names is named by the expression with cells, and nothing else is.
use Rattle.std.proofs.Common.{◌≡◌, refl, sym, ap, ◌∙◌, subst, ℕ, suc, ◌^◌, ◌<◌, ◌⊎◌, inl, inr, ⊎_elim, arith, Bool, true, false, cond, not, ◌==◌, List, [], ◌∷◌, ◌++◌, Option, Some, None, append-nil}
use Rattle.std.proofs.lemmas.Bool.{cases_Bool, both_ways}
use Rattle.tb_prim.specs.declared.place.Place.{Place}
use Rattle.tb_semantics.specs.Graph.{IsIn}
use Rattle.tb_core.specs.Tree.{Tree, Node, Form, Quote, Local, Global, Lambda, If, SetLocal, SetGlobal, DefGlobal, Let, Letrec, Seq, Call, PrimUse, Apply, Trees, none, more, LambdaTree, parameters, option_list}
use Rattle.tb_core.specs.FreeVariables.{is_in, without, of_lambdas, free, free_form, free_all, lambda_free, lambdas_free}
use Rattle.tb_core.specs.Rules.{Each, EachForm, EachAll, Every}
use Rattle.tb_core.proofs.Members.{in-left, in-right, in-either, in-tested, tested-in, in-without, without-sub}
use Rattle.tb_ir.specs.Tree as C
use Rattle.tb_ir.specs.FreeVariables as F
use Rattle.tb_assign.specs.Eliminate.{fresh, renamed, celled, new_cells, bind_cells, with_cells, read_variable, eliminate, eliminate_form, eliminate_all, renamed_rest, eliminate_lambda, eliminate_lambdas}

-- lists with the same elements
pub record Same (xs ys : List ℕ) : Type 0 where
  pub to : (y : ℕ) → IsIn y xs → IsIn y ys
  pub from : (y : ℕ) → IsIn y ys → IsIn y xs

pub same_refl : (xs : List ℕ) → Same xs xs
same_refl xs = record { to = λ y i. i; from = λ y i. i }

pub same_append : {ks bs cs ds : List ℕ} → Same ks bs → Same cs ds → Same (ks ++ cs) (bs ++ ds)
same_append {ks} {bs} {cs} {ds} h k = record {
  to = λ y i. ⊎_elim (λ j. in-left y bs ds (h.to y j)) (λ j. in-right y bs ds (k.to y j)) (in-either y ks cs i);
  from = λ y i. ⊎_elim (λ j. in-left y ks cs (h.from y j)) (λ j. in-right y ks cs (k.from y j)) (in-either y bs ds i);
}

-- what is left of a list was not taken out
not_first : (xs ys : List ℕ) (z y : ℕ) (b : Bool) → is_in xs z ≡ b → (IsIn y (without xs ys) → is_in xs y ≡ false) →
    IsIn y (cond (not b) (z ∷ without xs ys) (without xs ys)) → is_in xs y ≡ false
not_first xs ys z y true e rest i = rest i
not_first xs ys z y false e rest (inl q) = ap (is_in xs) (sym q) ∙ e
not_first xs ys z y false e rest (inr j) = rest j

pub without-not : (xs ys : List ℕ) (y : ℕ) → IsIn y (without xs ys) → is_in xs y ≡ false
without-not xs [] y i = absurd i
without-not xs (z ∷ ys) y i = not_first xs ys z y (is_in xs z) refl (without-not xs ys y) i

pub same_without : (xs : List ℕ) {ys zs : List ℕ} → Same ys zs → Same (without xs ys) (without xs zs)
same_without xs {ys} {zs} h = record {
  to = λ y i. in-without xs zs y (h.to y (without-sub xs ys y i)) (without-not xs ys y i);
  from = λ y i. in-without xs ys y (h.from y (without-sub xs zs y i)) (without-not xs zs y i);
}

pub absent : (xs : List ℕ) (y : ℕ) → (IsIn y xs → ⊥) → is_in xs y ≡ false
absent xs y h = ⊎_elim (λ e. absurd (h (in-tested xs y e))) (λ e. e) (cases_Bool (is_in xs y))

pub absent-not : (xs : List ℕ) (y : ℕ) → is_in xs y ≡ false → IsIn y xs → ⊥
absent-not xs y h i = both_ways (is_in xs y) h (tested-in xs y i)

-- all numbers of a list are those of a program
abbrev pub AreSmall : List ℕ → Type 0
AreSmall xs = (y : ℕ) → IsIn y xs → y < 2 ^ 24

-- a node names a variable of the program
abbrev pub NamesSmall : ℕ → Form → Type 0
NamesSmall s (Local x) = x < 2 ^ 24
NamesSmall s (SetLocal x e) = x < 2 ^ 24
NamesSmall s f = Unit {0}

small_append : (xs ys : List ℕ) → AreSmall xs → AreSmall ys → AreSmall (xs ++ ys)
small_append xs ys h k y i = ⊎_elim (h y) (k y) (in-either y xs ys i)

small_without : (xs ys : List ℕ) → AreSmall ys → AreSmall (without xs ys)
small_without xs ys h y i = h y (without-sub xs ys y i)

small_first : (x : ℕ) (xs : List ℕ) → x < 2 ^ 24 → AreSmall xs → AreSmall (x ∷ xs)
small_first x xs lt h y = ⊎_elim (λ e. subst (λ z. z < 2 ^ 24) e lt) (h y)

small_lambdas : (I : ℕ → List ℕ) → ((l : ℕ) → AreSmall (I l)) → (ls : List ℕ) → AreSmall (of_lambdas I ls)
small_lambdas I h [] = λ y i. absurd i
small_lambdas I h (l ∷ ls) = small_append (I l) _ (h l) (small_lambdas I h ls)

module _ (I : ℕ → List ℕ) (inner : (l : ℕ) → AreSmall (I l)) where
  mutual
    pub small-free : (e : Tree) → Each NamesSmall e → AreSmall (free I e)
    small-free (Node p s f) n = small_form s f n.0 n.1

    small_form : (s : ℕ) (f : Form) → NamesSmall s f → EachForm NamesSmall f → AreSmall (free_form I f)
    small_form s (Quote c) h n = λ y i. absurd i
    small_form s (Local x) h n = small_first x [] h (λ y i. absurd i)
    small_form s (Global g) h n = λ y i. absurd i
    small_form s (Lambda l) h n = inner l
    small_form s (If a b c) h n = small_append _ _ (small-free a n.0)
        (small_append _ _ (small-free b n.1) (small-free c n.2))
    small_form s (SetLocal x e) h n = small_first x _ h (small-free e n)
    small_form s (SetGlobal g e) h n = small-free e n
    small_form s (DefGlobal g e) h n = small-free e n
    small_form s (Let xs es e) h n = small_append _ _ (small-all es n.0) (small_without xs _ (small-free e n.1))
    small_form s (Letrec xs ls e) h n = small_without xs _
        (small_append _ _ (small_lambdas I inner ls) (small-free e n))
    small_form s (Seq es) h n = small-all es n
    small_form s (Call f es) h n = small_append _ _ (small-free f n.0) (small-all es n.1)
    small_form s (PrimUse p es) h n = small-all es n
    small_form s (Apply f l) h n = small_append _ _ (small-free f n.0) (small-free l n.1)

    pub small-all : (es : Trees) → EachAll NamesSmall es → AreSmall (free_all I es)
    small-all none n = λ y i. absurd i
    small-all (more e es) n = small_append _ _ (small-free e n.0) (small-all es n.1)

module _ (g : ℕ → Bool) where
  in-renamed-plain : (xs : List ℕ) (y : ℕ) → IsIn y xs → g y ≡ false → IsIn y (renamed g xs)
  in-renamed-plain [] y i e = absurd i
  in-renamed-plain (x ∷ xs) y (inl q) e = inl (ap (λ b. cond b (fresh x) x) (ap g q ∙ e) ∙ q)
  in-renamed-plain (x ∷ xs) y (inr i) e = inr (in-renamed-plain xs y i e)

  fresh_first : (x a : ℕ) (xs : List ℕ) (b : Bool) → g x ≡ b →
      (IsIn a (celled g xs) → IsIn (fresh a) (renamed g xs)) → IsIn a (cond b (x ∷ celled g xs) (celled g xs)) →
      IsIn (fresh a) (renamed g (x ∷ xs))
  fresh_first x a xs true e rest (inl q) = inl (ap (λ b. cond b (fresh x) x) e ∙ ap fresh q)
  fresh_first x a xs true e rest (inr j) = inr (rest j)
  fresh_first x a xs false e rest j = inr (rest j)

  in-renamed-fresh : (xs : List ℕ) (a : ℕ) → IsIn a (celled g xs) → IsIn (fresh a) (renamed g xs)
  in-renamed-fresh [] a i = absurd i
  in-renamed-fresh (x ∷ xs) a i = fresh_first x a xs (g x) refl (in-renamed-fresh xs a) i

  renamed-either : (xs : List ℕ) (y : ℕ) → IsIn y (renamed g xs) → IsIn y xs ⊎ ((x : ℕ) × (y ≡ fresh x))
  renamed-either [] y i = absurd i
  renamed-either (x ∷ xs) y (inr i) = ⊎_elim (λ j. inl (inr j)) inr (renamed-either xs y i)
  renamed-either (x ∷ xs) y (inl q) = at_first (g x) refl
    where
      at_first : (b : Bool) → g x ≡ b → IsIn y (x ∷ xs) ⊎ ((x : ℕ) × (y ≡ fresh x))
      at_first true e = inr (x, sym q ∙ ap (λ b. cond b (fresh x) x) e)
      at_first false e = inl (inl (sym (ap (λ b. cond b (fresh x) x) e) ∙ q))

  pub in-celled : (xs : List ℕ) (y : ℕ) → IsIn y xs → g y ≡ true → IsIn y (celled g xs)
  in-celled [] y i e = absurd i
  in-celled (x ∷ xs) y (inl q) e = subst (λ b. IsIn y (cond b (x ∷ celled g xs) (celled g xs))) (sym (ap g q ∙ e))
      (inl q)
  in-celled (x ∷ xs) y (inr i) e =
      let j = in-celled xs y i e in
      elim (g x) as (λ b. IsIn y (cond b (x ∷ celled g xs) (celled g xs))) [ true ↦ inr j | false ↦ j ]

  celled_first : (x y : ℕ) (xs : List ℕ) (b : Bool) → g x ≡ b → (IsIn y (celled g xs) → IsIn y xs × (g y ≡ true)) →
      IsIn y (cond b (x ∷ celled g xs) (celled g xs)) → IsIn y (x ∷ xs) × (g y ≡ true)
  celled_first x y xs true e rest (inl q) = (inl q, ap g (sym q) ∙ e)
  celled_first x y xs true e rest (inr j) = let r = rest j in (inr r.0, r.1)
  celled_first x y xs false e rest j = let r = rest j in (inr r.0, r.1)

  pub celled-in : (xs : List ℕ) (y : ℕ) → IsIn y (celled g xs) → IsIn y xs × (g y ≡ true)
  celled-in [] y i = absurd i
  celled-in (x ∷ xs) y i = celled_first x y xs (g x) refl (celled-in xs y) i

  module _ (J : ℕ → List ℕ) where
    new-cells-free : (p : Place) (xs : List ℕ) (y : ℕ) → IsIn y (F.free_all J (new_cells g p xs)) →
        (a : ℕ) × IsIn a xs × (y ≡ fresh a)
    new-cells-free p [] y i = absurd i
    new-cells-free p (x ∷ xs) y (inl q) = (x, inl refl, sym q)
    new-cells-free p (x ∷ xs) y (inr i) = let r = new-cells-free p xs y i in (r.0, inr r.1, r.2)

    -- what a body with cells names
    pub cells-to : (p : Place) (s : ℕ) (xs : List ℕ) (e : C.Tree) (y : ℕ) →
        IsIn y (F.free J (bind_cells g p s xs e)) →
        (IsIn y (F.free J e) × (IsIn y xs → ⊥)) ⊎ ((a : ℕ) × IsIn a xs × (y ≡ fresh a))
    cells-to p s [] e y i = inl (i, λ j. absurd j)
    cells-to p s (x ∷ xs) e y i =
        ⊎_elim
        (λ j. inr (new-cells-free p (x ∷ xs) y j))
        (λ j. inl (without-sub (x ∷ xs) _ y j, absent-not (x ∷ xs) y (without-not (x ∷ xs) _ y j)))
        (in-either y (F.free_all J (new_cells g p (x ∷ xs))) _ i)

    pub cells-from : (p : Place) (s : ℕ) (xs : List ℕ) (e : C.Tree) (y : ℕ) → IsIn y (F.free J e) → (IsIn y xs → ⊥) →
        IsIn y (F.free J (bind_cells g p s xs e))
    cells-from p s [] e y i n = i
    cells-from p s (x ∷ xs) e y i n =
        in-right y (F.free_all J (new_cells g p (x ∷ xs))) _ (in-without (x ∷ xs) _ y i (absent (x ∷ xs) y n))

    -- the variables that a body names beside those of a list
    pub same-bound : (p : Place) (s : ℕ) (xs ys : List ℕ) (e : C.Tree) → Same (F.free J e) ys → AreSmall ys →
        Same (without (renamed g xs) (F.free J (with_cells g p s xs e))) (without xs ys)
    same-bound p s xs ys e h small = record {
      to = λ y i.
          let out = absent-not (renamed g xs) y (without-not (renamed g xs) _ y i) in
          ⊎_elim
          (λ n. in-without xs ys y (h.to y n.0)
          (absent xs y
          (λ j. ⊎_elim (λ t. n.1 (in-celled xs y j t)) (λ t. out (in-renamed-plain xs y j t))
          (cases_Bool (g y)))))
          (λ c. absurd (out (subst (λ z. IsIn z (renamed g xs)) (sym c.2) (in-renamed-fresh xs c.0 c.1))))
          (cells-to p s (celled g xs) e y (without-sub (renamed g xs) _ y i));
      from = λ y i.
          let out = absent-not xs y (without-not xs ys y i) in
          let k = without-sub xs ys y i in
          let lt = small y k in
          in-without (renamed g xs) _ y (cells-from p s (celled g xs) e y (h.from y k) (λ j. out (celled-in xs y j).0))
          (absent (renamed g xs) y
          (λ j. ⊎_elim out (λ f. let q = f.1 in absurd (omega arith)) (renamed-either xs y j)));
    }

  read-free : (J : ℕ → List ℕ) (p : Place) (s x : ℕ) (b : Bool) →
      Same (F.free_form J (read_variable g p s x b)) (x ∷ [])
  read-free J p s x true = same_refl _
  read-free J p s x false = same_refl _

  module _ (I J : ℕ → List ℕ) (inner : (l : ℕ) → Same (J l) (I l)) (small : (l : ℕ) → AreSmall (I l)) where
    same_lambdas : (ls : List ℕ) → Same (of_lambdas J ls) (of_lambdas I ls)
    same_lambdas [] = same_refl []
    same_lambdas (l ∷ ls) = same_append (inner l) (same_lambdas ls)

    mutual
      pub same-free : (e : Tree) → Each NamesSmall e → Same (F.free J (eliminate g e)) (free I e)
      same-free (Node p s f) n = same-form p s f n.1

      pub same-form : (p : Place) (s : ℕ) (f : Form) → EachForm NamesSmall f →
          Same (F.free_form J (eliminate_form g p s f)) (free_form I f)
      same-form p s (Quote c) n = same_refl []
      same-form p s (Local x) n = read-free J p s x (g x)
      same-form p s (Global m) n = same_refl []
      same-form p s (Lambda l) n = inner l
      same-form p s (If a b c) n = same_append (same-free a n.0) (same_append (same-free b n.1) (same-free c n.2))
      same-form p s (SetLocal x e) n = same_append (same_refl (x ∷ [])) (same-free e n)
      same-form p s (SetGlobal m e) n = same-free e n
      same-form p s (DefGlobal m e) n = same-free e n
      same-form p s (Let xs es e) n = same_append (same-all es n.0)
          (same-bound J p _ xs (free I e) (eliminate g e) (same-free e n.1) (small-free I small e n.1))
      same-form p s (Letrec xs ls e) n = same_without xs (same_append (same_lambdas ls) (same-free e n))
      same-form p s (Seq es) n = same-all es n
      same-form p s (Call f es) n = same_append (same-free f n.0) (same-all es n.1)
      same-form p s (PrimUse q es) n = same-all es n
      same-form p s (Apply f l) n = same_append (same-free f n.0) (same-free l n.1)

      pub same-all : (es : Trees) → EachAll NamesSmall es → Same (F.free_all J (eliminate_all g es)) (free_all I es)
      same-all none n = same_refl []
      same-all (more e es) n = same_append (same-free e n.0) (same-all es n.1)

  renamed-append : (xs ys : List ℕ) → renamed g (xs ++ ys) ≡ renamed g xs ++ renamed g ys
  renamed-append [] ys = refl
  renamed-append (x ∷ xs) ys = ap (λ zs. cond (g x) (fresh x) x ∷ zs) (renamed-append xs ys)

  renamed-rest : (o : Option ℕ) → renamed g (option_list o) ≡ option_list (renamed_rest g o)
  renamed-rest None = refl
  renamed-rest (Some x) = refl

  -- the parameters of a lambda expression
  pub renamed-parameters : (n : ℕ) (l : LambdaTree) → F.parameters (eliminate_lambda g n l) ≡ renamed g (parameters l)
  renamed-parameters n l = sym
      (renamed-append l.formals (option_list l.rest) ∙ ap (λ zs. renamed g l.formals ++ zs) (renamed-rest l.rest))

  -- the free variables of the lambda expressions of a list, the first being number n
  abbrev pub SmallLambdas : List LambdaTree → Type 0
  SmallLambdas ls = Every (λ (l : LambdaTree). Each NamesSmall l.body) ls

  small_here : (ms : List LambdaTree) (m : LambdaTree) (n l : ℕ) (b : Bool) → Each NamesSmall m.body →
      ((k : ℕ) → AreSmall (lambdas_free ms (suc n) k)) →
      AreSmall (cond b (lambda_free (lambdas_free ms (suc n)) m) (lambdas_free ms (suc n) l))
  small_here ms m n l true h rest = small_without (parameters m) _ (small-free (lambdas_free ms (suc n)) rest m.body h)
  small_here ms m n l false h rest = rest l

  pub small-inner : (ls : List LambdaTree) (n l : ℕ) → SmallLambdas ls → AreSmall (lambdas_free ls n l)
  small-inner [] n l h = λ y i. absurd i
  small-inner (m ∷ ms) n l h = small_here ms m n l (n == l) h.0 (λ k. small-inner ms (suc n) k h.1)

  -- the same for the lambda expressions with cells
  lambda_same : (I J : ℕ → List ℕ) → ((l : ℕ) → Same (J l) (I l)) → ((l : ℕ) → AreSmall (I l)) →
      (n : ℕ) (m : LambdaTree) → Each NamesSmall m.body →
      Same (F.lambda_free J [] (eliminate_lambda g n m)) (lambda_free I m)
  lambda_same I J inner small n m h =
      let s = same-bound J m.place _ (parameters m) (free I m.body) (eliminate g m.body)
      (same-free I J inner small m.body h) (small-free I small m.body h) in
      subst (λ zs. Same (without zs (F.free J (eliminate_lambda g n m).body)) (lambda_free I m))
      (sym (append-nil (F.parameters (eliminate_lambda g n m)) ∙ renamed-parameters n m)) s

  inner_here : (ms : List LambdaTree) (m : LambdaTree) (n l : ℕ) (b : Bool) → Each NamesSmall m.body →
      ((k : ℕ) → AreSmall (lambdas_free ms (suc n) k)) →
      ((k : ℕ) → Same (F.lambdas_free [] (eliminate_lambdas g (suc n) ms) (suc n) k) (lambdas_free ms (suc n) k)) →
      Same (cond b
      (F.lambda_free (F.lambdas_free [] (eliminate_lambdas g (suc n) ms) (suc n)) [] (eliminate_lambda g n m))
      (F.lambdas_free [] (eliminate_lambdas g (suc n) ms) (suc n) l))
      (cond b (lambda_free (lambdas_free ms (suc n)) m) (lambdas_free ms (suc n) l))
  inner_here ms m n l true h small rest = lambda_same (lambdas_free ms (suc n))
      (F.lambdas_free [] (eliminate_lambdas g (suc n) ms) (suc n)) rest small n m h
  inner_here ms m n l false h small rest = rest l

  pub same-inner : (ls : List LambdaTree) (n l : ℕ) → SmallLambdas ls →
      Same (F.lambdas_free [] (eliminate_lambdas g n ls) n l) (lambdas_free ls n l)
  same-inner [] n l h = same_refl []
  same-inner (m ∷ ms) n l h = inner_here ms m n l (n == l) h.0 (λ k. small-inner ms (suc n) k h.1)
      (λ k. same-inner ms (suc n) k h.1)
