-- Environments that are cut, and elements of lists that are set.
use Rattle.std.proofs.Common.{◌≡◌, refl, sym, ◌∙◌, subst, ap, ℕ, zero, suc, ◌<◌, ◌⊎◌, inl, inr, ⊎_elim, arith, List, [], ◌∷◌, length, Option, Some, None, slice_get, slice_set, eq-eqb, ne_eqb}
use Rattle.std.proofs.lemmas.Bool.{cases_eq}
use Rattle.tb_semantics.specs.Graph.{IsIn}
use Rattle.tb_core.specs.Store.{Value}
use Rattle.tb_ir.specs.Machine.{Env, Empty, Bind, bind_all, lookup, bind_found, gather}

pub lookup-same : (x : ℕ) (v : Value) (r : Env) → lookup (Bind x v r) x ≡ Some v
lookup-same x v r = rw (eq-eqb x x refl) refl

pub lookup-other : (x y : ℕ) (v : Value) (r : Env) → (x ≡ y → ⊥) → lookup (Bind x v r) y ≡ lookup r y
lookup-other x y v r ne = rw (ne_eqb x y ne) refl

found_same : (x : ℕ) (o : Option Value) (r : Env) → lookup r x ≡ None ⊎ (lookup r x ≡ o) →
    lookup (bind_found x o r) x ≡ o
found_same x None r (inl e) = e
found_same x None r (inr e) = e
found_same x (Some v) r h = lookup-same x v r

found_other : (x y : ℕ) (o : Option Value) (r : Env) → (x ≡ y → ⊥) → lookup (bind_found x o r) y ≡ lookup r y
found_other x y None r ne = refl
found_other x y (Some v) r ne = lookup-other x y v r ne

gathered : (xs : List ℕ) (r : Env) (y : ℕ) → lookup (gather xs r) y ≡ None ⊎ (lookup (gather xs r) y ≡ lookup r y)
gathered [] r y = inl refl
gathered (x ∷ xs) r y =
    ⊎_elim
    (λ e. inr (subst (λ z. lookup (bind_found x (lookup r x) (gather xs r)) z ≡ lookup r z) e
    (found_same x (lookup r x) (gather xs r) (gathered xs r x))))
    (λ ne. let h = found_other x y (lookup r x) (gather xs r) ne in
    ⊎_elim (λ e. inl (h ∙ e)) (λ e. inr (h ∙ e)) (gathered xs r y))
    (cases_eq x y)

pub lookup-gather : (xs : List ℕ) (r : Env) (y : ℕ) → IsIn y xs → lookup (gather xs r) y ≡ lookup r y
lookup-gather [] r y i = absurd i
lookup-gather (x ∷ xs) r y i =
    ⊎_elim
    (λ e. subst (λ z. lookup (bind_found x (lookup r x) (gather xs r)) z ≡ lookup r z) e
    (found_same x (lookup r x) (gather xs r) (gathered xs r x)))
    (λ ne. found_other x y (lookup r x) (gather xs r) ne
    ∙ lookup-gather xs r y (⊎_elim (λ e. absurd (ne e)) (λ j. j) i))
    (cases_eq x y)

-- what an environment that is cut has, it had before
pub gather-had : (xs : List ℕ) (r : Env) (y : ℕ) (v : Value) → lookup (gather xs r) y ≡ Some v → lookup r y ≡ Some v
gather-had xs r y v e = ⊎_elim (λ n. cc (n, e)) (λ s. sym s ∙ e) (gathered xs r y)

pub gather-agree : (xs : List ℕ) (q r : Env) → ((y : ℕ) → IsIn y xs → lookup q y ≡ lookup r y) →
    gather xs q ≡ gather xs r
gather-agree [] q r h = refl
gather-agree (x ∷ xs) q r h = rw (h x (inl refl), gather-agree xs q r (λ y i. h y (inr i))) refl

pub gather-sub : (xs ys : List ℕ) (r : Env) → ((y : ℕ) → IsIn y xs → IsIn y ys) → gather xs (gather ys r) ≡ gather xs r
gather-sub xs ys r h = gather-agree xs (gather ys r) r (λ y i. lookup-gather ys r y (h y i))

-- elements that are set
pub get-within : {X : Type 0} (xs : List X) (i : ℕ) (x : X) → slice_get xs i ≡ Some x → i < length xs
get-within [] i x e = cc
get-within (y ∷ xs) zero x e = omega arith
get-within (y ∷ xs) (suc i) x e = let h = get-within xs i x e in omega arith

pub get-set : {X : Type 0} (xs : List X) (i : ℕ) (y : X) → i < length xs → slice_get (slice_set xs i y) i ≡ Some y
get-set [] i y h = absurd (omega arith)
get-set (z ∷ xs) zero y h = refl
get-set (z ∷ xs) (suc i) y h = get-set xs i y (omega arith)

pub get-set-other : {X : Type 0} (xs : List X) (i j : ℕ) (x y : X) → (j ≡ i → ⊥) → slice_get xs j ≡ Some x →
    slice_get (slice_set xs i y) j ≡ Some x
get-set-other [] i j x y ne e = cc
get-set-other (z ∷ xs) zero zero x y ne e = absurd (ne refl)
get-set-other (z ∷ xs) zero (suc j) x y ne e = e
get-set-other (z ∷ xs) (suc i) zero x y ne e = e
get-set-other (z ∷ xs) (suc i) (suc j) x y ne e = get-set-other xs i j x y (λ q. ne (ap suc q)) e

pub get-in : {X : Type 0} (xs : List X) (j : ℕ) (x : X) → slice_get xs j ≡ Some x → IsIn x xs
get-in [] j x e = cc
get-in (y ∷ xs) zero x e = inl (cc (e))
get-in (y ∷ xs) (suc j) x e = inr (get-in xs j x e)

-- the captured values of a procedure are what was bound
pub same_caught : (xs : List ℕ) (us vs : List Value) → length us ≡ length xs → length vs ≡ length xs → bind_all xs us Empty ≡ bind_all xs vs Empty → us ≡ vs
same_caught [] [] [] a b e = refl
same_caught [] (u ∷ us) vs a b e = absurd (omega arith)
same_caught [] [] (v ∷ vs) a b e = absurd (omega arith)
same_caught (x ∷ xs) [] vs a b e = absurd (omega arith)
same_caught (x ∷ xs) (u ∷ us) [] a b e = absurd (omega arith)
same_caught (x ∷ xs) (u ∷ us) (v ∷ vs) a b e =
    let h : u ≡ v = cc (e) in
    let t : bind_all xs us Empty ≡ bind_all xs vs Empty = cc (e) in
    let k = same_caught xs us vs (omega arith) (omega arith) t in
    cc (h, k)
