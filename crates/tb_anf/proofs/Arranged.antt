-- The values of all operands, in the order in which they are written.
use Rattle.std.proofs.Common.{◌≡◌, refl, sym, ap, ◌∙◌, subst, ℕ, zero, suc, ◌+◌, ◌<◌, ◌≤◌, ⊎_elim, arith, true, false, cond, List, [], ◌∷◌, length, map, Some, slice_get, eq-eqb, ne_eqb}
use Rattle.std.proofs.lemmas.Bool.{cases_eq}
use Rattle.std.proofs.lemmas.Option.{same_Some}
use Rattle.tb_semantics.specs.Graph.{IsIn, IsApart, below, sum_of}
use Rattle.tb_semantics.proofs.Reachable.{sum_by_partners, below_in, in_below, apart_below}
use Rattle.tb_core.specs.FreeVariables.{is_in, without}
use Rattle.tb_core.specs.Reference.{value_for, prepend, arranged}
use Rattle.tb_core.specs.Store.{Value}
use Rattle.tb_core.proofs.Members.{in-without}
use Rattle.tb_ir.specs.Tree.{Form, NewCell, CellGet, CellSet, Let, Call, Direct, PrimUse, Apply, Trees, none, more, count, operands}
use Rattle.tb_ir.specs.AnfTree as A
use Rattle.tb_ir.specs.AnfTree.{Operand}
use Rattle.tb_ir.specs.Machine.{Env, lookup, bind_all}
use Rattle.tb_ir.specs.AnfMachine.{atom_value}
use Rattle.tb_ir.specs.Rules.{IsPermutation}
use Rattle.tb_anf.specs.NormalForm.{size, atoms}
use Rattle.tb_anf.proofs.Environments.{Named, Values, no_value, one_value, lookup-same, lookup-other}
use Rattle.tb_anf.proofs.Names.{by_operands, IsLong}
use Rattle.tb_anf.proofs.Rel.{operand_atoms, Done, none_done, one_done}

-- a list without repeats is no longer than one that has all its elements
ones : (xs : List ℕ) → sum_of (λ i. 1) xs ≡ length xs
ones [] = refl
ones (x ∷ xs) = let h = ones xs in omega arith

pub no_longer : (xs ys : List ℕ) → IsApart xs → ((i : ℕ) → IsIn i xs → IsIn i ys) → length xs ≤ length ys
no_longer xs ys a h =
    let le = sum_by_partners (λ i j. i ≡ j) (λ i. 1) (λ i. 1) (λ i j k p q. p ∙ sym q) xs ys a
    (λ i t. (i, h i t, refl, omega arith)) in
    let e = ones xs in
    let f = ones ys in
    omega arith

below_length : (n : ℕ) → length (below n) ≡ n
below_length zero = refl
below_length (suc n) = ap suc (below_length n)

pub permutation-length : (line : List ℕ) (n : ℕ) → IsPermutation line n → length line ≡ n
permutation-length line n h =
    let a = no_longer line (below n) h.apart (λ i t. below_in n i (h.within i t)) in
    let b = no_longer (below n) line (apart_below n) (λ i t. h.full i (in_below n i t)) in
    let e = below_length n in
    omega arith

-- the value of an operand that is done
pub record Found (m : Env) (all : List Operand) (is : List ℕ) (vs : List Value) (i : ℕ) : Type 0 where
  pub atom : Operand
  pub value : Value
  pub there : value_for i is vs ≡ Some value
  pub operand : slice_get all i ≡ Some atom
  pub holds : atom_value m atom ≡ Some value

found : {m : Env} {all ds : List Operand} {is : List ℕ} {vs : List Value} (i : ℕ) → Done m all is ds vs → IsIn i is →
    Found m all is vs i
found i none_done t = absurd t
found {m} {all} i (one_done {i = j} {a = a} {v = v} {is = is} {vs = vs} g e d) t =
    ⊎_elim
    (λ q. record {
      atom = a;
      value = v;
      there = rw (eq-eqb j i q) refl;
      operand = subst (λ z. slice_get all z ≡ Some a) q g;
      holds = e;
    })
    (λ ne.
    let f = found i d (⊎_elim (λ q. absurd (ne q)) (λ k. k) t) in
    record {
      atom = f.atom;
      value = f.value;
      there = ap (λ b. cond b (Some v) (value_for i is vs)) (ne_eqb j i ne) ∙ f.there;
      operand = f.operand;
      holds = f.holds;
    })
    (cases_eq j i)

-- the values of the operands from a number on
values_from : {m : Env} {all ds : List Operand} {is : List ℕ} {vs : List Value} → Done m all is ds vs →
    (as' : List Operand) (i : ℕ) → ((j : ℕ) (a : Operand) → slice_get as' j ≡ Some a → slice_get all (i + j) ≡ Some a) →
    ((j : ℕ) → j < i + length as' → IsIn j is) → Values m as' (arranged i (length as') is vs)
values_from d [] i h full = no_value
values_from {m} {all} {is = is} {vs = vs} d (a ∷ as') i h full =
    let f = found i d (full i (omega arith)) in
    let z : i + 0 ≡ i = omega arith in
    let same : a ≡ f.atom = same_Some a f.atom (sym (h 0 a refl) ∙ ap (slice_get all) z ∙ f.operand) in
    let rest = values_from d as' (suc i)
    (λ j b g. let e : i + suc j ≡ suc i + j = omega arith in sym (ap (slice_get all) e) ∙ h (suc j) b g)
    (λ j lt. full j (omega arith)) in
    subst (λ o. Values m (a ∷ as') (prepend o (arranged (suc i) (length as') is vs))) (sym f.there)
    (one_value (ap (atom_value m) same ∙ f.holds) rest)

atoms_length : (n : ℕ) (es : Trees) → length (atoms n es) ≡ count es
atoms_length n none = refl
atoms_length n (more e es) = let h = atoms_length (n + size e) es in omega arith

variables_length : (xs : List ℕ) → length (map A.Var xs) ≡ length xs
variables_length [] = refl
variables_length (x ∷ xs) = ap suc (variables_length xs)

pub operand-count : (n : ℕ) (f : Form) → by_operands f ≡ true → IsLong f →
    length (operand_atoms n f) ≡ count (operands f)
operand-count n (NewCell e) o l = refl
operand-count n (CellGet e) o l = refl
operand-count n (CellSet c e) o l = refl
operand-count n (Let xs es e) o l = variables_length xs ∙ l
operand-count n (Call f es) o l = atoms_length (suc n) (more f es)
operand-count n (Direct p es) o l = atoms_length (suc n) es
operand-count n (PrimUse q es) o l = atoms_length (suc n) es
operand-count n (Apply f a) o l = refl
operand-count n _ o l = cc

-- all operands are done
pub all-values : {m : Env} {ds : List Operand} {is : List ℕ} {vs : List Value} (n : ℕ) (f : Form) →
    by_operands f ≡ true → IsLong f → IsPermutation is (count (operands f)) → Done m (operand_atoms n f) is ds vs →
    Values m (operand_atoms n f) (arranged 0 (length is) is vs)
all-values {m} {ds} {is} {vs} n f o l h d =
    let long = operand-count n f o l in
    let e : length (operand_atoms n f) ≡ length is = long ∙ sym (permutation-length is _ h) in
    subst (λ k. Values m (operand_atoms n f) (arranged 0 k is vs)) e
    (values_from d (operand_atoms n f) 0
    (λ j a g. let z : 0 + j ≡ j = omega arith in ap (slice_get (operand_atoms n f)) z ∙ g)
    (λ j lt. h.full j (omega arith)))

-- the variables of a `let`, bound to the values that they have already in the second environment
bound_there : {m : Env} (xs : List ℕ) (vs : List Value) (q : Env) (y : ℕ) → Values m (map A.Var xs) vs →
    (is_in xs y ≡ false → (v : Value) × (lookup q y ≡ Some v) × (lookup m y ≡ Some v)) →
    (v : Value) × (lookup (bind_all xs vs q) y ≡ Some v) × (lookup m y ≡ Some v)
bound_there [] vs q y h k = k refl
bound_there {m} (x ∷ xs) _ q y (one_value {v = v} {vs = vs} e h) k =
    ⊎_elim
    (λ z. (
      v,
      subst (λ w. lookup (bind_all (x ∷ xs) (v ∷ vs) q) w ≡ Some v) z (lookup-same x v (bind_all xs vs q)),
      subst (λ w. lookup m w ≡ Some v) z e,
    ))
    (λ ne.
    let f = bound_there xs vs q y h (λ out. k (rw (ne_eqb x y ne, out) refl)) in
    (f.0, lookup-other x y v (bind_all xs vs q) ne ∙ f.1, f.2))
    (cases_eq x y)

pub named-let : {m : Env} (xs ys : List ℕ) (vs : List Value) (q : Env) → Values m (map A.Var xs) vs →
    Named (without xs ys) q m → Named ys (bind_all xs vs q) m
named-let xs ys vs q h n = record {
  has = λ y i. bound_there xs vs q y h (λ out. n.has y (in-without xs ys y i out));
}
