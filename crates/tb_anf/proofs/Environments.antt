-- Environments that are cut, and those that hold all that was bound in a body.
use Rattle.std.proofs.Common.{◌≡◌, refl, sym, ◌∙◌, subst, ℕ, suc, ◌⊎◌, inl, inr, ⊎_elim, true, false, List, [], ◌∷◌, ◌++◌, Option, Some, None, eq-eqb, ne_eqb}
use Rattle.std.proofs.lemmas.Bool.{cases_eq, cases_Bool}
use Rattle.tb_semantics.specs.Graph.{IsIn}
use Rattle.tb_core.specs.FreeVariables.{is_in, without}
use Rattle.tb_core.specs.Store.{Value, At}
use Rattle.tb_core.proofs.Members.{in-left, in-right, in-without}
use Rattle.tb_ir.specs.AnfTree as A
use Rattle.tb_ir.specs.AnfTree.{Operand}
use Rattle.tb_ir.specs.Machine.{Env, Bind, lookup, bind_found, gather, bind_located}
use Rattle.tb_ir.specs.AnfMachine.{atom_value, atom_values, free_of_atom, free_of_atoms}

pub lookup-same : (x : ℕ) (v : Value) (r : Env) → lookup (Bind x v r) x ≡ Some v
lookup-same x v r = rw (eq-eqb x x refl) refl

pub lookup-other : (x y : ℕ) (v : Value) (r : Env) → (x ≡ y → ⊥) → lookup (Bind x v r) y ≡ lookup r y
lookup-other x y v r ne = rw (ne_eqb x y ne) refl

found_same : (x : ℕ) (o : Option Value) (r : Env) → lookup r x ≡ None ⊎ (lookup r x ≡ o) →
    lookup (bind_found x o r) x ≡ o
found_same x None r (inl e) = e
found_same x None r (inr e) = e
found_same x (Some v) r h = lookup-same x v r

found_other : (x y : ℕ) (o : Option Value) (r : Env) → (x ≡ y → ⊥) → lookup (bind_found x o r) y ≡ lookup r y
found_other x y None r ne = refl
found_other x y (Some v) r ne = lookup-other x y v r ne

-- an environment that is gathered has nothing of its own
gathered : (xs : List ℕ) (r : Env) (y : ℕ) → lookup (gather xs r) y ≡ None ⊎ (lookup (gather xs r) y ≡ lookup r y)
gathered [] r y = inl refl
gathered (x ∷ xs) r y =
    ⊎_elim
    (λ e. inr (subst (λ z. lookup (bind_found x (lookup r x) (gather xs r)) z ≡ lookup r z) e
    (found_same x (lookup r x) (gather xs r) (gathered xs r x))))
    (λ ne. let h = found_other x y (lookup r x) (gather xs r) ne in
    ⊎_elim (λ e. inl (h ∙ e)) (λ e. inr (h ∙ e)) (gathered xs r y))
    (cases_eq x y)

pub lookup-gather : (xs : List ℕ) (r : Env) (y : ℕ) → IsIn y xs → lookup (gather xs r) y ≡ lookup r y
lookup-gather [] r y i = absurd i
lookup-gather (x ∷ xs) r y i =
    ⊎_elim
    (λ e. subst (λ z. lookup (bind_found x (lookup r x) (gather xs r)) z ≡ lookup r z) e
    (found_same x (lookup r x) (gather xs r) (gathered xs r x)))
    (λ ne. found_other x y (lookup r x) (gather xs r) ne
    ∙ lookup-gather xs r y (⊎_elim (λ e. absurd (ne e)) (λ j. j) i))
    (cases_eq x y)

pub gather-agree : (xs : List ℕ) (q r : Env) → ((y : ℕ) → IsIn y xs → lookup q y ≡ lookup r y) →
    gather xs q ≡ gather xs r
gather-agree [] q r h = refl
gather-agree (x ∷ xs) q r h = rw (h x (inl refl), gather-agree xs q r (λ y i. h y (inr i))) refl

pub gather-sub : (xs ys : List ℕ) (r : Env) → ((y : ℕ) → IsIn y xs → IsIn y ys) → gather xs (gather ys r) ≡ gather xs r
gather-sub xs ys r h = gather-agree xs (gather ys r) r (λ y i. lookup-gather ys r y (h y i))

-- what is cut to all but a variable, once that is bound
not_one : (x y : ℕ) → (x ≡ y → ⊥) → is_in (x ∷ []) y ≡ false
not_one x y ne = rw (ne_eqb x y ne) refl

pub gather-bind : (x : ℕ) (v : Value) (xs : List ℕ) (r : Env) →
    gather xs (Bind x v (gather (without (x ∷ []) xs) r)) ≡ gather xs (Bind x v r)
gather-bind x v xs r =
    gather-agree xs _ _
    (λ y i.
    ⊎_elim
    (λ e. subst (λ z. lookup (Bind x v (gather (without (x ∷ []) xs) r)) z ≡ lookup (Bind x v r) z) e
    (lookup-same x v (gather (without (x ∷ []) xs) r) ∙ sym (lookup-same x v r)))
    (λ ne. lookup-other x y v (gather (without (x ∷ []) xs) r) ne
    ∙ lookup-gather (without (x ∷ []) xs) r y (in-without (x ∷ []) xs y i (not_one x y ne))
    ∙ sym (lookup-other x y v r ne))
    (cases_eq x y))

-- where two environments agree on all but some variables that are bound in both
pub located-agree : (xs : List ℕ) (l : ℕ) (q r : Env) (y : ℕ) → (is_in xs y ≡ false → lookup q y ≡ lookup r y) →
    lookup (bind_located xs l q) y ≡ lookup (bind_located xs l r) y
located-agree [] l q r y h = h refl
located-agree (x ∷ xs) l q r y h =
    ⊎_elim
    (λ e. rw (eq-eqb x y e) refl)
    (λ ne. rw (ne_eqb x y ne) (located-agree xs (suc l) q r y (λ k. h (rw (ne_eqb x y ne, k) refl))))
    (cases_eq x y)

pub located-other : (xs : List ℕ) (l : ℕ) (r : Env) (y : ℕ) → is_in xs y ≡ false →
    lookup (bind_located xs l r) y ≡ lookup r y
located-other [] l r y h = refl
located-other (x ∷ xs) l r y h =
    ⊎_elim
    (λ e. let k : is_in (x ∷ xs) y ≡ true = rw (eq-eqb x y e) refl in absurd cc)
    (λ ne. rw (ne_eqb x y ne)
    (located-other xs (suc l) r y (let k : is_in (x ∷ xs) y ≡ is_in xs y = rw (ne_eqb x y ne) refl in sym k ∙ h)))
    (cases_eq x y)

-- procedures that name one another, in an environment that is cut to what they and the body after them name
pub gather-located : (xs : List ℕ) (l : ℕ) (ys zs : List ℕ) (r : Env) → ((y : ℕ) → IsIn y zs → IsIn y ys) →
    gather zs (bind_located xs l (gather (without xs ys) r)) ≡ gather zs (bind_located xs l r)
gather-located xs l ys zs r h =
    gather-agree zs _ _
    (λ y i. located-agree xs l (gather (without xs ys) r) r y
    (λ k. lookup-gather (without xs ys) r y (in-without xs ys y (h y i) k)))

-- both have these variables, with the same values
pub record Named (xs : List ℕ) (q m : Env) : Type 0 where
  pub has : (y : ℕ) → IsIn y xs → (v : Value) × (lookup q y ≡ Some v) × (lookup m y ≡ Some v)

pub named-sub : {xs ys : List ℕ} {q m : Env} → ((y : ℕ) → IsIn y ys → IsIn y xs) → Named xs q m → Named ys q m
named-sub h n = record { has = λ y i. n.has y (h y i) }

-- the first one cut
pub named-gather : {xs : List ℕ} (zs : List ℕ) {q m : Env} → ((y : ℕ) → IsIn y xs → IsIn y zs) → Named xs q m →
    Named xs (gather zs q) m
named-gather zs {q = q} h n = record {
  has = λ y i. let k = n.has y i in
      (k.0, lookup-gather zs q y (h y i) ∙ k.1, k.2);
}

-- another variable is bound in the second
pub named-more : (x : ℕ) (v : Value) {xs : List ℕ} {q m : Env} → (IsIn x xs → ⊥) → Named xs q m →
    Named xs q (Bind x v m)
named-more x v {xs} {q} {m} new n = record {
  has = λ y i.
      let k = n.has y i in
      (k.0, k.1, lookup-other x y v m (λ e. new (subst (λ z. IsIn z xs) (sym e) i)) ∙ k.2);
}

located_found : (xs : List ℕ) (l : ℕ) (y : ℕ) → is_in xs y ≡ true →
    (v : Value) × ((r : Env) → lookup (bind_located xs l r) y ≡ Some v)
located_found [] l y h = cc
located_found (x ∷ xs) l y h =
    ⊎_elim
    (λ e. (At l, λ r. rw (eq-eqb x y e) refl))
    (λ ne.
    let k : is_in (x ∷ xs) y ≡ is_in xs y = rw (ne_eqb x y ne) refl in
    let f = located_found xs (suc l) y (sym k ∙ h) in
    (f.0, λ r. lookup-other x y (At l) (bind_located xs (suc l) r) ne ∙ f.1 r))
    (cases_eq x y)

pub named-located : (xs : List ℕ) (l : ℕ) {ys : List ℕ} {q m : Env} → Named (without xs ys) q m →
    Named ys (bind_located xs l q) (bind_located xs l m)
named-located xs l {ys} {q} {m} n = record {
  has = λ y i.
      ⊎_elim
      (λ t. let f = located_found xs l y t in (f.0, f.1 q, f.1 m))
      (λ f.
      let k = n.has y (in-without xs ys y i f) in
      (k.0, located-other xs l q y f ∙ k.1, located-other xs l m y f ∙ k.2))
      (cases_Bool (is_in xs y));
}

-- what two environments have in common is gathered alike
pub named-gathers : {xs : List ℕ} {q m : Env} → Named xs q m → gather xs q ≡ gather xs m
named-gathers {xs} {q} {m} n = gather-agree xs q m (λ y i. let k = n.has y i in k.1 ∙ sym k.2)

-- atoms and their values
pub data Values (m : Env) : List Operand → List Value → Type 0 where
  no_value : Values m [] []
  one_value : {a : Operand} {v : Value} {ds : List Operand} {vs : List Value} → atom_value m a ≡ Some v →
      Values m ds vs → Values m (a ∷ ds) (v ∷ vs)

pub values-there : {m : Env} {ds : List Operand} {vs : List Value} → Values m ds vs → atom_values m ds ≡ Some vs
values-there no_value = refl
values-there (one_value e h) = rw (e, values-there h) refl

pub atom-gather : (xs : List ℕ) (m : Env) (a : Operand) → ((y : ℕ) → IsIn y (free_of_atom a) → IsIn y xs) →
    atom_value (gather xs m) a ≡ atom_value m a
atom-gather xs m (A.Quote c) h = refl
atom-gather xs m (A.Var x) h = lookup-gather xs m x (h x (inl refl))

pub values-gather : (xs : List ℕ) {m : Env} {ds : List Operand} {vs : List Value} →
    ((y : ℕ) → IsIn y (free_of_atoms ds) → IsIn y xs) → Values m ds vs → Values (gather xs m) ds vs
values-gather xs h no_value = no_value
values-gather xs {m} h (one_value {a = a} {ds = ds} e hs) =
    one_value (atom-gather xs m a (λ y i. h y (in-left y (free_of_atom a) (free_of_atoms ds) i)) ∙ e)
    (values-gather xs (λ y i. h y (in-right y (free_of_atom a) (free_of_atoms ds) i)) hs)

pub atom-more : (x : ℕ) (v : Value) (m : Env) (a : Operand) → (IsIn x (free_of_atom a) → ⊥) →
    atom_value (Bind x v m) a ≡ atom_value m a
atom-more x v m (A.Quote c) new = refl
atom-more x v m (A.Var y) new = lookup-other x y v m (λ e. new (inl (sym e)))

pub values-more : (x : ℕ) (v : Value) {m : Env} {ds : List Operand} {vs : List Value} →
    (IsIn x (free_of_atoms ds) → ⊥) → Values m ds vs → Values (Bind x v m) ds vs
values-more x v new no_value = no_value
values-more x v {m} new (one_value {a = a} {ds = ds} e hs) =
    one_value (atom-more x v m a (λ i. new (in-left x (free_of_atom a) (free_of_atoms ds) i)) ∙ e)
    (values-more x v (λ i. new (in-right x (free_of_atom a) (free_of_atoms ds) i)) hs)

-- one more value, behind the others
pub values-last : {m : Env} {ds : List Operand} {vs : List Value} (a : Operand) (v : Value) → Values m ds vs →
    atom_value m a ≡ Some v → Values m (ds ++ a ∷ []) (vs ++ v ∷ [])
values-last a v no_value e = one_value e no_value
values-last a v (one_value d h) e = one_value d (values-last a v h e)
