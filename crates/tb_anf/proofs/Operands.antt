-- The operands of a node: their numbers, blocks, atoms and names, each by its index.
use Rattle.std.proofs.Common.{◌≡◌, refl, sym, ap, ◌∙◌, subst, ℕ, zero, suc, ◌+◌, inl, inr, ⊎_elim, arith, true, List, [], ◌∷◌, ◌++◌, length, map, Option, Some, None, slice_get, append-nil}
use Rattle.std.proofs.lemmas.Option.{same_Some}
use Rattle.tb_semantics.specs.Graph.{IsIn, IsApart}
use Rattle.tb_core.specs.Rules.{Every}
use Rattle.tb_core.proofs.Members.{in-left, in-right, in-either}
use Rattle.tb_ir.specs.Tree.{Tree, Form, NewCell, CellGet, CellSet, Let, Call, Direct, PrimUse, Apply, Trees, none, more, count, tree_at, operands}
use Rattle.tb_ir.specs.FreeVariables.{free, free_form, free_all}
use Rattle.tb_ir.specs.Rules.{nodes, nodes_in, nodes_of}
use Rattle.tb_ir.specs.AnfTree as A
use Rattle.tb_ir.specs.AnfTree.{Operand, Block}
use Rattle.tb_ir.specs.TreeMachine.{Context, free_of_tree, free_of_numbers, free_of_body}
use Rattle.tb_anf.specs.NormalForm.{size, atom, atoms, Then, block_of, bound, bound_operands, named_operands}
use Rattle.tb_anf.proofs.Names.{names, names_form, names_all, by_operands}

pub apart-left : (xs ys : List ℕ) → IsApart (xs ++ ys) → IsApart xs
apart-left [] ys h = tt
apart-left (x ∷ xs) ys h = (λ i. h.0 (in-left x xs ys i), apart-left xs ys h.1)

pub apart-right : (xs ys : List ℕ) → IsApart (xs ++ ys) → IsApart ys
apart-right [] ys h = h
apart-right (x ∷ xs) ys h = apart-right xs ys h.1

pub apart-both : (xs ys : List ℕ) (y : ℕ) → IsApart (xs ++ ys) → IsIn y xs → IsIn y ys → ⊥
apart-both [] ys y h i j = absurd i
apart-both (x ∷ xs) ys y h (inl e) j = h.0 (in-right x xs ys (subst (λ z. IsIn z ys) (sym e) j))
apart-both (x ∷ xs) ys y h (inr i) j = apart-both xs ys y h.1 i j

pub in-at : (xs : List ℕ) (i y : ℕ) → slice_get xs i ≡ Some y → IsIn y xs
in-at [] i y e = cc
in-at (x ∷ xs) zero y e = inl (same_Some x y e)
in-at (x ∷ xs) (suc i) y e = inr (in-at xs i y e)

pub apart-at : (xs : List ℕ) (i j y : ℕ) → IsApart xs → (i ≡ j → ⊥) → slice_get xs i ≡ Some y →
    slice_get xs j ≡ Some y → ⊥
apart-at [] i j y h ne e d = cc
apart-at (x ∷ xs) zero zero y h ne e d = ne refl
apart-at (x ∷ xs) zero (suc j) y h ne e d = h.0 (subst (λ z. IsIn z xs) (sym (same_Some x y e)) (in-at xs j y d))
apart-at (x ∷ xs) (suc i) zero y h ne e d = h.0 (subst (λ z. IsIn z xs) (sym (same_Some x y d)) (in-at xs i y e))
apart-at (x ∷ xs) (suc i) (suc j) y h ne e d = apart-at xs i j y h.1 (λ q. ne (ap suc q)) e d

pub every-left : {X : Type 0} (P : X → Type 0) (xs ys : List X) → Every P (xs ++ ys) → Every P xs
every-left P [] ys h = tt
every-left P (x ∷ xs) ys h = (h.0, every-left P xs ys h.1)

pub every-right : {X : Type 0} (P : X → Type 0) (xs ys : List X) → Every P (xs ++ ys) → Every P ys
every-right P [] ys h = h
every-right P (x ∷ xs) ys h = every-right P xs ys h.1

-- the number of an operand's node, where the first one has number n
abbrev pub number_at : ℕ → Trees → ℕ → ℕ
number_at n none i = n
number_at n (more e es) zero = n
number_at n (more e es) (suc i) = number_at (n + size e) es i

pub names-at : (n : ℕ) (es : Trees) (i : ℕ) (e : Tree) → tree_at es i ≡ Some e → (y : ℕ) →
    IsIn y (names (number_at n es i) e) → IsIn y (names_all n es)
names-at n none i e h y j = cc
names-at n (more d es) zero e h y j = in-left y (names n d) _
    (subst (λ z. IsIn y (names n z)) (sym (same_Some d e h)) j)
names-at n (more d es) (suc i) e h y j = in-right y (names n d) _ (names-at (n + size d) es i e h y j)

pub names-apart : (n : ℕ) (es : Trees) (i : ℕ) (e : Tree) → tree_at es i ≡ Some e → IsApart (names_all n es) →
    IsApart (names (number_at n es i) e)
names-apart n none i e h a = cc
names-apart n (more d es) zero e h a = subst (λ z. IsApart (names n z)) (same_Some d e h) (apart-left (names n d) _ a)
names-apart n (more d es) (suc i) e h a = names-apart (n + size d) es i e h (apart-right (names n d) _ a)

pub names-other : (n : ℕ) (es : Trees) (i j : ℕ) (d e : Tree) → tree_at es i ≡ Some d → tree_at es j ≡ Some e →
    (i ≡ j → ⊥) → IsApart (names_all n es) → (y : ℕ) → IsIn y (names (number_at n es i) d) →
    IsIn y (names (number_at n es j) e) → ⊥
names-other n none i j d e h k ne a y s t = cc
names-other n (more b es) zero zero d e h k ne a y s t = ne refl
names-other n (more b es) zero (suc j) d e h k ne a y s t =
    apart-both (names n b) _ y a (subst (λ z. IsIn y (names n z)) (sym (same_Some b d h)) s)
    (names-at (n + size b) es j e k y t)
names-other n (more b es) (suc i) zero d e h k ne a y s t =
    apart-both (names n b) _ y a (subst (λ z. IsIn y (names n z)) (sym (same_Some b e k)) t)
    (names-at (n + size b) es i d h y s)
names-other n (more b es) (suc i) (suc j) d e h k ne a y s t =
    names-other (n + size b) es i j d e h k (λ q. ne (ap suc q)) (apart-right (names n b) _ a) y s t

pub free-at : (I : ℕ → List ℕ) (es : Trees) (i : ℕ) (e : Tree) → tree_at es i ≡ Some e → (y : ℕ) →
    IsIn y (free I e) → IsIn y (free_all I es)
free-at I none i e h y j = cc
free-at I (more d es) zero e h y j = in-left y (free I d) _ (subst (λ z. IsIn y (free I z)) (sym (same_Some d e h)) j)
free-at I (more d es) (suc i) e h y j = in-right y (free I d) _ (free-at I es i e h y j)

free_tree : (x : Context) (es : Trees) (o : Option Tree) (y : ℕ) →
    ((e : Tree) → o ≡ Some e → IsIn y (free x.inner e) → IsIn y (free_all x.inner es)) → IsIn y (free_of_tree x o) →
    IsIn y (free_all x.inner es)
free_tree x es None y h i = absurd i
free_tree x es (Some e) y h i = h e refl i

pub numbers-free : (x : Context) (es : Trees) (ns : List ℕ) (y : ℕ) → IsIn y (free_of_numbers x es ns) →
    IsIn y (free_all x.inner es)
numbers-free x es [] y i = absurd i
numbers-free x es (n ∷ ns) y i =
    ⊎_elim (free_tree x es (tree_at es n) y (λ e h. free-at x.inner es n e h y)) (numbers-free x es ns y)
    (in-either y (free_of_tree x (tree_at es n)) _ i)

pub nodes-at : (P : Tree → Type 0) (es : Trees) (i : ℕ) (e : Tree) → tree_at es i ≡ Some e → Every P (nodes_of es) →
    Every P (nodes e)
nodes-at P none i e h a = cc
nodes-at P (more d es) zero e h a = subst (λ z. Every P (nodes z)) (same_Some d e h) (every-left P (nodes d) _ a)
nodes-at P (more d es) (suc i) e h a = nodes-at P es i e h (every-right P (nodes d) _ a)

pub atoms-at : (n : ℕ) (es : Trees) (i : ℕ) (e : Tree) → tree_at es i ≡ Some e →
    slice_get (atoms n es) i ≡ Some (atom (number_at n es i) e)
atoms-at n none i e h = cc
atoms-at n (more d es) zero e h = ap (λ z. Some (atom n z)) (same_Some d e h)
atoms-at n (more d es) (suc i) e h = atoms-at (n + size d) es i e h

-- an atom is that of an operand
pub atom-of : (n : ℕ) (es : Trees) (i : ℕ) (a : Operand) → slice_get (atoms n es) i ≡ Some a →
    (e : Tree) × (tree_at es i ≡ Some e) × (atom (number_at n es i) e ≡ a)
atom-of n none i a h = cc
atom-of n (more d es) zero a h = (d, refl, same_Some (atom n d) a h)
atom-of n (more d es) (suc i) a h = atom-of (n + size d) es i a h

pub var-of : (xs : List ℕ) (i : ℕ) (a : Operand) → slice_get (map A.Var xs) i ≡ Some a →
    (y : ℕ) × (slice_get xs i ≡ Some y) × (A.Var y ≡ a)
var-of [] i a h = cc
var-of (x ∷ xs) zero a h = (x, refl, same_Some (A.Var x) a h)
var-of (x ∷ xs) (suc i) a h = var-of xs i a h

pub var-at : (xs : List ℕ) (i y : ℕ) → slice_get xs i ≡ Some y → slice_get (map A.Var xs) i ≡ Some (A.Var y)
var-at [] i y h = cc
var-at (x ∷ xs) zero y h = ap (λ z. Some (A.Var z)) (same_Some x y h)
var-at (x ∷ xs) (suc i) y h = var-at xs i y h

pub variable-at : (xs : List ℕ) (es : Trees) (i : ℕ) (e : Tree) → length xs ≡ count es → tree_at es i ≡ Some e →
    (y : ℕ) × (slice_get xs i ≡ Some y)
variable-at xs none i e l h = cc
variable-at [] (more d es) i e l h = absurd (omega arith)
variable-at (x ∷ xs) (more d es) zero e l h = (x, refl)
variable-at (x ∷ xs) (more d es) (suc i) e l h = variable-at xs es i e (omega arith) h

module _ (line : ℕ → Option (List ℕ)) where
  pub bound-at : (n : ℕ) (es : Trees) (i : ℕ) (e : Tree) → tree_at es i ≡ Some e →
      slice_get (bound_operands line n es) i ≡ Some (λ b. bound line (number_at n es i) e b)
  bound-at n none i e h = cc
  bound-at n (more d es) zero e h = ap (λ z. Some (λ b. bound line n z b)) (same_Some d e h)
  bound-at n (more d es) (suc i) e h = bound-at (n + size d) es i e h

  pub named-at : (n : ℕ) (xs : List ℕ) (es : Trees) (i y : ℕ) (e : Tree) → slice_get xs i ≡ Some y →
      tree_at es i ≡ Some e →
      slice_get (named_operands line n xs es) i ≡ Some (λ b. block_of line (number_at n es i) e (Then y b))
  named-at n xs none i y e g h = cc
  named-at n [] (more d es) i y e g h = cc
  named-at n (x ∷ xs) (more d es) zero y e g h =
      ap (λ z. Some (λ b. block_of line n z (Then x b))) (same_Some d e h)
      ∙ ap (λ z. Some (λ b. block_of line n e (Then z b))) (same_Some x y g)
  named-at n (x ∷ xs) (more d es) (suc i) y e g h = named-at (n + size d) xs es i y e g h

-- what holds of a node that is evaluated operand by operand holds of its operands
pub operands-apart : (n : ℕ) (f : Form) → by_operands f ≡ true → IsApart (names_form n f) →
    IsApart (names_all (suc n) (operands f))
operands-apart n (NewCell e) o a = a
operands-apart n (CellGet e) o a = a
operands-apart n (CellSet c e) o a = a
operands-apart n (Let xs es e) o a = apart-left (names_all (suc n) es) _ (apart-right xs _ a)
operands-apart n (Call f es) o a = a
operands-apart n (Direct l es) o a = a
operands-apart n (PrimUse q es) o a = a
operands-apart n (Apply f l) o a = a
operands-apart n _ o a = cc

pub operands-in : (n : ℕ) (f : Form) → by_operands f ≡ true → (y : ℕ) → IsIn y (names_all (suc n) (operands f)) →
    IsIn y (names_form n f)
operands-in n (NewCell e) o y i = i
operands-in n (CellGet e) o y i = i
operands-in n (CellSet c e) o y i = i
operands-in n (Let xs es e) o y i = in-right y xs _ (in-left y (names_all (suc n) es) _ i)
operands-in n (Call f es) o y i = i
operands-in n (Direct l es) o y i = i
operands-in n (PrimUse q es) o y i = i
operands-in n (Apply f l) o y i = i
operands-in n _ o y i = cc

one_free : (xs : List ℕ) (y : ℕ) → IsIn y (xs ++ []) → IsIn y xs
one_free xs y i = subst (IsIn y) (append-nil xs) i

pub operands-free : (I : ℕ → List ℕ) (f : Form) → by_operands f ≡ true → (y : ℕ) → IsIn y (free_all I (operands f)) →
    IsIn y (free_form I f)
operands-free I (NewCell e) o y i = one_free (free I e) y i
operands-free I (CellGet e) o y i = one_free (free I e) y i
operands-free I (CellSet c e) o y i =
    ⊎_elim (in-left y (free I c) _) (λ j. in-right y (free I c) _ (one_free (free I e) y j))
    (in-either y (free I c) _ i)
operands-free I (Let xs es e) o y i = in-left y (free_all I es) _ i
operands-free I (Call f es) o y i = i
operands-free I (Direct l es) o y i = i
operands-free I (PrimUse q es) o y i = i
operands-free I (Apply f l) o y i =
    ⊎_elim (in-left y (free I f) _) (λ j. in-right y (free I f) _ (one_free (free I l) y j))
    (in-either y (free I f) _ i)
operands-free I _ o y i = cc

pub body-free : (x : Context) (f : Form) (y : ℕ) → IsIn y (free_of_body x f) → IsIn y (free_form x.inner f)
body-free x (Let xs es e) y i = in-right y (free_all x.inner es) _ i
body-free x _ y i = search

pub operands-nodes : (P : Tree → Type 0) (f : Form) → by_operands f ≡ true → Every P (nodes_in f) →
    Every P (nodes_of (operands f))
operands-nodes P (NewCell e) o a = subst (Every P) (sym (append-nil (nodes e))) a
operands-nodes P (CellGet e) o a = subst (Every P) (sym (append-nil (nodes e))) a
operands-nodes P (CellSet c e) o a = subst (λ z. Every P (nodes c ++ z)) (sym (append-nil (nodes e))) a
operands-nodes P (Let xs es e) o a = every-left P (nodes_of es) _ a
operands-nodes P (Call f es) o a = a
operands-nodes P (Direct l es) o a = a
operands-nodes P (PrimUse q es) o a = a
operands-nodes P (Apply f l) o a = subst (λ z. Every P (nodes f ++ z)) (sym (append-nil (nodes l))) a
operands-nodes P _ o a = cc
