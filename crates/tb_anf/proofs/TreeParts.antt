-- The parts of a node in written order, and induction over expressions by parts.
use Rattle.std.proofs.Common.{◌≡◌, refl, sym, ap, ◌∙◌, subst, ℕ, suc, ◌+◌, ◌⊎◌, inl, inr, ⊎_elim, arith, List, [], ◌++◌, append_assoc, append-nil}
use Rattle.std.proofs.lemmas.Bool.{cases_Bool}
use Rattle.tb_prim.specs.declared.place.Place.{Place}
use Rattle.tb_semantics.specs.Graph.{IsIn}
use Rattle.tb_core.specs.FreeVariables.{is_in, without, of_lambdas}
use Rattle.tb_core.proofs.Members.{in-left, in-right, in-either, in-tested, in-without}
use Rattle.tb_ir.specs.Tree.{Tree, Node, Form, Quote, Local, Global, Lambda, If, NewCell, CellGet, CellSet, SetGlobal, DefGlobal, Let, Letrec, Seq, Call, Direct, PrimUse, Apply, Trees, none, more}
use Rattle.tb_ir.specs.FreeVariables.{free, free_form, free_all}
use Rattle.tb_ir.specs.Rules.{nodes, nodes_in, nodes_of, binders}
use Rattle.tb_anf.specs.NormalForm.{size, size_form, size_all}
use Rattle.tb_anf.proofs.Names.{names, names_form, names_all}

abbrev pub onto : Trees → Trees → Trees
onto none ds = ds
onto (more e es) ds = more e (onto es ds)

abbrev pub parts : Form → Trees
parts (Quote c) = none
parts (Local x) = none
parts (Global g) = none
parts (Lambda l) = none
parts (If a b c) = more a (more b (more c none))
parts (NewCell e) = more e none
parts (CellGet e) = more e none
parts (CellSet c e) = more c (more e none)
parts (SetGlobal g e) = more e none
parts (DefGlobal g e) = more e none
parts (Let xs es e) = onto es (more e none)
parts (Letrec xs ls e) = more e none
parts (Seq es) = es
parts (Call f es) = more f es
parts (Direct l es) = es
parts (PrimUse q es) = es
parts (Apply f l) = more f (more l none)

-- what holds of a node where it holds of its parts, holds of all expressions
module _ (P : Tree → Type 0) (Q : Trees → Type 0)
    (node : (p : Place) (s : ℕ) (f : Form) → Q (parts f) → P (Node p s f)) (nil : Q none)
    (cons : (e : Tree) (es : Trees) → P e → Q es → Q (more e es)) where
  mutual
    pub by-parts : (e : Tree) → P e
    by-parts (Node p s f) = node p s f (of_form f)

    of_form : (f : Form) → Q (parts f)
    of_form (Quote c) = nil
    of_form (Local x) = nil
    of_form (Global g) = nil
    of_form (Lambda l) = nil
    of_form (If a b c) = cons a _ (by-parts a) (cons b _ (by-parts b) (cons c none (by-parts c) nil))
    of_form (NewCell e) = cons e none (by-parts e) nil
    of_form (CellGet e) = cons e none (by-parts e) nil
    of_form (CellSet c e) = cons c _ (by-parts c) (cons e none (by-parts e) nil)
    of_form (SetGlobal g e) = cons e none (by-parts e) nil
    of_form (DefGlobal g e) = cons e none (by-parts e) nil
    of_form (Let xs es e) = of_onto es (more e none) (cons e none (by-parts e) nil)
    of_form (Letrec xs ls e) = cons e none (by-parts e) nil
    of_form (Seq es) = all-parts es
    of_form (Call f es) = cons f es (by-parts f) (all-parts es)
    of_form (Direct l es) = all-parts es
    of_form (PrimUse q es) = all-parts es
    of_form (Apply f l) = cons f _ (by-parts f) (cons l none (by-parts l) nil)

    of_onto : (es ds : Trees) → Q ds → Q (onto es ds)
    of_onto none ds h = h
    of_onto (more e es) ds h = cons e (onto es ds) (by-parts e) (of_onto es ds h)

    pub all-parts : (es : Trees) → Q es
    all-parts none = nil
    all-parts (more e es) = cons e es (by-parts e) (all-parts es)

nodes-onto : (es ds : Trees) → nodes_of (onto es ds) ≡ nodes_of es ++ nodes_of ds
nodes-onto none ds = refl
nodes-onto (more e es) ds =
    ap (λ z. nodes e ++ z) (nodes-onto es ds) ∙ sym (append_assoc (nodes e) (nodes_of es) (nodes_of ds))

pub nodes-parts : (f : Form) → nodes_in f ≡ nodes_of (parts f)
nodes-parts (Quote c) = refl
nodes-parts (Local x) = refl
nodes-parts (Global g) = refl
nodes-parts (Lambda l) = refl
nodes-parts (If a b c) = ap (λ z. nodes a ++ (nodes b ++ z)) (sym (append-nil (nodes c)))
nodes-parts (NewCell e) = sym (append-nil (nodes e))
nodes-parts (CellGet e) = sym (append-nil (nodes e))
nodes-parts (CellSet c e) = ap (λ z. nodes c ++ z) (sym (append-nil (nodes e)))
nodes-parts (SetGlobal g e) = sym (append-nil (nodes e))
nodes-parts (DefGlobal g e) = sym (append-nil (nodes e))
nodes-parts (Let xs es e) =
    ap (λ z. nodes_of es ++ z) (sym (append-nil (nodes e))) ∙ sym (nodes-onto es (more e none))
nodes-parts (Letrec xs ls e) = sym (append-nil (nodes e))
nodes-parts (Seq es) = refl
nodes-parts (Call f es) = refl
nodes-parts (Direct l es) = refl
nodes-parts (PrimUse q es) = refl
nodes-parts (Apply f l) = ap (λ z. nodes f ++ z) (sym (append-nil (nodes l)))

size-onto : (es ds : Trees) → size_all (onto es ds) ≡ size_all es + size_all ds
size-onto none ds = omega arith
size-onto (more e es) ds = let h = size-onto es ds in omega arith

pub size-parts : (f : Form) → size_form f ≡ size_all (parts f)
size-parts (Quote c) = refl
size-parts (Local x) = refl
size-parts (Global g) = refl
size-parts (Lambda l) = refl
size-parts (If a b c) = omega arith
size-parts (NewCell e) = omega arith
size-parts (CellGet e) = omega arith
size-parts (CellSet c e) = omega arith
size-parts (SetGlobal g e) = omega arith
size-parts (DefGlobal g e) = omega arith
size-parts (Let xs es e) = let h = size-onto es (more e none) in omega arith
size-parts (Letrec xs ls e) = omega arith
size-parts (Seq es) = refl
size-parts (Call f es) = refl
size-parts (Direct l es) = refl
size-parts (PrimUse q es) = refl
size-parts (Apply f l) = omega arith

names-onto : (n : ℕ) (es ds : Trees) → names_all n (onto es ds) ≡ names_all n es ++ names_all (n + size_all es) ds
names-onto n none ds = let z : n ≡ n + 0 = omega arith in ap (λ k. names_all k ds) z
names-onto n (more e es) ds =
    let k : n + size e + size_all es ≡ n + (size e + size_all es) = omega arith in
    ap (λ z. names n e ++ z) (names-onto (n + size e) es ds
    ∙ ap (λ z. names_all (n + size e) es ++ names_all z ds) k)
    ∙ sym (append_assoc (names n e) (names_all (n + size e) es) _)

-- the names of a node: its variables, and those of its parts
pub names-parts : (n : ℕ) (f : Form) → names_form n f ≡ binders f ++ names_all (suc n) (parts f)
names-parts n (Quote c) = refl
names-parts n (Local x) = refl
names-parts n (Global g) = refl
names-parts n (Lambda l) = refl
names-parts n (If a b c) =
    let k : suc n + (size a + size b) ≡ suc n + size a + size b = omega arith in
    ap (λ z. names (suc n) a ++ (names (suc n + size a) b ++ z))
    (ap (λ z. names z c) k ∙ sym (append-nil (names (suc n + size a + size b) c)))
names-parts n (NewCell e) = refl
names-parts n (CellGet e) = refl
names-parts n (CellSet c e) = refl
names-parts n (SetGlobal g e) = sym (append-nil (names (suc n) e))
names-parts n (DefGlobal g e) = sym (append-nil (names (suc n) e))
names-parts n (Let xs es e) =
    ap (λ z. xs ++ z) (ap (λ z. names_all (suc n) es ++ z) (sym (append-nil (names (suc n + size_all es) e)))
    ∙ sym (names-onto (suc n) es (more e none)))
names-parts n (Letrec xs ls e) = ap (λ z. xs ++ z) (sym (append-nil (names (suc n) e)))
names-parts n (Seq es) = refl
names-parts n (Call f es) = refl
names-parts n (Direct l es) = refl
names-parts n (PrimUse q es) = refl
names-parts n (Apply f l) = refl

free-onto : (I : ℕ → List ℕ) (es ds : Trees) → free_all I (onto es ds) ≡ free_all I es ++ free_all I ds
free-onto I none ds = refl
free-onto I (more e es) ds =
    ap (λ z. free I e ++ z) (free-onto I es ds) ∙ sym (append_assoc (free I e) (free_all I es) (free_all I ds))

one_more : (xs ys : List ℕ) (y : ℕ) → IsIn y (xs ++ []) → IsIn y xs ⊎ IsIn y ys
one_more xs ys y i = inl (subst (IsIn y) (append-nil xs) i)

inside : (xs ys : List ℕ) (y : ℕ) → IsIn y ys → IsIn y (without xs ys) ⊎ IsIn y xs
inside xs ys y i = ⊎_elim (λ t. inr (in-tested xs y t)) (λ t. inl (in-without xs ys y i t)) (cases_Bool (is_in xs y))

-- what is free in a part is free in the node, or the node binds it
pub free-parts : (I : ℕ → List ℕ) (f : Form) (y : ℕ) → IsIn y (free_all I (parts f)) →
    IsIn y (free_form I f) ⊎ IsIn y (binders f)
free-parts I (Quote c) y i = inl i
free-parts I (Local x) y i = absurd i
free-parts I (Global g) y i = inl i
free-parts I (Lambda l) y i = absurd i
free-parts I (If a b c) y i =
    inl (subst (λ z. IsIn y (free I a ++ (free I b ++ z))) (append-nil (free I c)) i)
free-parts I (NewCell e) y i = one_more (free I e) [] y i
free-parts I (CellGet e) y i = one_more (free I e) [] y i
free-parts I (CellSet c e) y i = inl (subst (λ z. IsIn y (free I c ++ z)) (append-nil (free I e)) i)
free-parts I (SetGlobal g e) y i = one_more (free I e) [] y i
free-parts I (DefGlobal g e) y i = one_more (free I e) [] y i
free-parts I (Let xs es e) y i =
    ⊎_elim (λ j. inl (in-left y (free_all I es) _ j))
    (λ j. ⊎_elim (λ k. inl (in-right y (free_all I es) _ k)) inr
    (inside xs (free I e) y (subst (IsIn y) (append-nil (free I e)) j)))
    (in-either y (free_all I es) _ (subst (IsIn y) (free-onto I es (more e none)) i))
free-parts I (Letrec xs ls e) y i =
    inside xs (of_lambdas I ls ++ free I e) y
    (in-right y (of_lambdas I ls) _ (subst (IsIn y) (append-nil (free I e)) i))
free-parts I (Seq es) y i = inl i
free-parts I (Call f es) y i = inl i
free-parts I (Direct l es) y i = inl i
free-parts I (PrimUse q es) y i = inl i
free-parts I (Apply f l) y i = inl (subst (λ z. IsIn y (free I f ++ z)) (append-nil (free I l)) i)
