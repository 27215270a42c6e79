-- The names that a normal form binds are apart where the variables of the expression are, wherever its numbers begin.
use Rattle.std.proofs.Common.{◌≡◌, refl, sym, ap, ◌∙◌, subst, ℕ, suc, ◌+◌, ◌^◌, ◌<◌, ◌≤◌, ◌⊎◌, inl, inr, ⊎_elim, arith, List, [], ◌∷◌, ◌++◌, append_assoc}
use Rattle.tb_prim.specs.declared.place.Place.{Place}
use Rattle.tb_semantics.specs.Graph.{IsIn, IsApart}
use Rattle.tb_core.proofs.Members.{in-left, in-right, in-either}
use Rattle.tb_ir.specs.Tree.{Tree, Node, Form, Trees, none, more}
use Rattle.tb_ir.specs.Rules.{nodes, nodes_in, nodes_of, of_nodes, binders, form_of}
use Rattle.tb_anf.specs.NormalForm.{size, size_all, value_name}
use Rattle.tb_anf.proofs.Names.{names, names_all}
use Rattle.tb_anf.proofs.Operands.{apart-left, apart-right, apart-both}
use Rattle.tb_anf.proofs.TreeParts.{parts, by-parts, nodes-parts, size-parts, names-parts}

pub of_nodes-append : {X : Type 0} (has : Form → List X) (ds es : List Tree) →
    of_nodes has (ds ++ es) ≡ of_nodes has ds ++ of_nodes has es
of_nodes-append has [] es = refl
of_nodes-append has (d ∷ ds) es =
    ap (λ z. has (form_of d) ++ z) (of_nodes-append has ds es)
    ∙ sym (append_assoc (has (form_of d)) (of_nodes has ds) (of_nodes has es))

pub apart-append : (xs ys : List ℕ) → IsApart xs → IsApart ys → ((y : ℕ) → IsIn y xs → IsIn y ys → ⊥) →
    IsApart (xs ++ ys)
apart-append [] ys a b h = b
apart-append (x ∷ xs) ys a b h = (
  λ i. ⊎_elim a.0 (h x (inl refl)) (in-either x xs ys i),
  apart-append xs ys a.1 b (λ y i. h y (inr i)),
)

-- the variables that an expression binds
abbrev pub own : Tree → List ℕ
own e = of_nodes binders (nodes e)

abbrev pub own_of : Trees → List ℕ
own_of es = of_nodes binders (nodes_of es)

own-parts : (f : Form) → of_nodes binders (nodes_in f) ≡ own_of (parts f)
own-parts f = ap (of_nodes binders) (nodes-parts f)

pub own-more : (e : Tree) (es : Trees) → own_of (more e es) ≡ own e ++ own_of es
own-more e es = of_nodes-append binders (nodes e) (nodes_of es)

abbrev pub AreSmall : List ℕ → Type 0
AreSmall xs = (y : ℕ) → IsIn y xs → y < 2 ^ 31

-- the name of the value of one of so many nodes from a number on
pub record IsName (n k y : ℕ) : Type 0 where
  pub node : ℕ
  pub from : n ≤ node
  pub below : node < n + k
  pub same : value_name node ≡ y

not_small : {n k y : ℕ} → IsName n k y → y < 2 ^ 31 → ⊥
not_small h lt = let e = h.same in omega arith

other_name : {n k m l y : ℕ} → n + k ≤ m → IsName n k y → IsName m l y → ⊥
other_name le a b =
    let e = a.same in
    let f = b.same in
    let p = a.below in
    let q = b.from in
    omega arith

-- what an expression with these variables binds, its nodes being so many from a number on
pub record Bound (n k : ℕ) (vars names : List ℕ) : Type 0 where
  pub apart : IsApart vars → AreSmall vars → IsApart names
  pub each : (y : ℕ) → IsIn y names → IsIn y vars ⊎ IsName n k y

-- one after another
both_bound : (n k l : ℕ) (xs ys ns ms : List ℕ) → Bound n k xs ns → Bound (n + k) l ys ms →
    Bound n (k + l) (xs ++ ys) (ns ++ ms)
both_bound n k l xs ys ns ms a b = record {
  apart = λ ap small. apart-append ns ms
      (a.apart (apart-left xs ys ap) (λ y i. small y (in-left y xs ys i)))
      (b.apart (apart-right xs ys ap) (λ y i. small y (in-right y xs ys i)))
      (λ y i j. ⊎_elim
      (λ u. ⊎_elim
      (λ v. apart-both xs ys y ap u v)
      (λ v. not_small v (small y (in-left y xs ys u)))
      (b.each y j))
      (λ u. ⊎_elim
      (λ v. not_small u (small y (in-right y xs ys v)))
      (λ v. other_name {n = n} {k = k} {m = n + k} {l = l} (omega arith) u v)
      (b.each y j))
      (a.each y i));
  each = λ y i. ⊎_elim
      (λ u. ⊎_elim (λ v. inl (in-left y xs ys v))
      (λ v. inr (let lt = v.below in record { node = v.node; from = v.from; below = omega arith; same = v.same }))
      (a.each y u))
      (λ u. ⊎_elim (λ v. inl (in-right y xs ys v))
      (λ v. inr (let lt = v.below in let le = v.from in
      record { node = v.node; from = omega arith; below = omega arith; same = v.same }))
      (b.each y u))
      (in-either y ns ms i);
}

variables_bound : (n : ℕ) (xs : List ℕ) → Bound n 0 xs xs
variables_bound n xs = record { apart = λ a s. a; each = λ y i. inl i }

abbrev pub TreeBound : Tree → Type 0
TreeBound e = (n : ℕ) → Bound n (size e) (own e) (names n e)

abbrev pub AllBound : Trees → Type 0
AllBound es = (n : ℕ) → Bound n (size_all es) (own_of es) (names_all n es)

bound_same : (n k k' : ℕ) (xs xs' ns ns' : List ℕ) → k ≡ k' → xs ≡ xs' → ns ≡ ns' → Bound n k xs ns → Bound n k' xs' ns'
bound_same n k k' xs xs' ns ns' a b c h =
    subst (λ z. Bound n z xs' ns') a (subst (λ z. Bound n k z ns') b (subst (λ z. Bound n k xs z) c h))

name_bound : (n : ℕ) → Bound n 1 [] (value_name n ∷ [])
name_bound n = record {
  apart = λ a s. (λ i. i, tt);
  each = λ y i. ⊎_elim (λ e. inr (record { node = n; from = omega arith; below = omega arith; same = e }))
      (λ z. absurd z) i;
}

pub names-bound : (e : Tree) → TreeBound e
names-bound = by-parts TreeBound AllBound node nil cons
  where
    node : (p : Place) (s : ℕ) (f : Form) → AllBound (parts f) → TreeBound (Node p s f)
    node p s f h n =
        let k = n + 1 + 0 in
        let l = size_all (parts f) in
        let inner = both_bound (n + 1) 0 l (binders f) (own_of (parts f)) (binders f) (names_all k (parts f))
        (variables_bound (n + 1) (binders f)) (h k) in
        let e : k ≡ suc n = omega arith in
        let z = size-parts f in
        bound_same n _ _ _ _ _ _ (omega arith) (ap (λ w. binders f ++ w) (sym (own-parts f)))
        (ap (λ w. value_name n ∷ w) (ap (λ w. binders f ++ names_all w (parts f)) e ∙ sym (names-parts n f)))
        (both_bound n 1 (0 + l) [] (binders f ++ own_of (parts f)) (value_name n ∷ [])
        (binders f ++ names_all k (parts f)) (name_bound n) inner)

    nil : AllBound none
    nil n = record { apart = λ a s. tt; each = λ y i. absurd i }

    cons : (e : Tree) (es : Trees) → TreeBound e → AllBound es → AllBound (more e es)
    cons e es a b n =
        subst (λ z. Bound n (size e + size_all es) z (names n e ++ names_all (n + size e) es)) (sym (own-more e es))
        (both_bound n (size e) (size_all es) (own e) (own_of es) (names n e) (names_all (n + size e) es) (a n)
        (b (n + size e)))
