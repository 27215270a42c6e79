-- Environments that are cut, and those in which some variables are bound.
use Rattle.std.proofs.Common.{◌≡◌, refl, sym, ◌∙◌, subst, ℕ, suc, ◌+◌, ◌<◌, ◌≤◌, arith, ◌⊎◌, inl, inr, ⊎_elim, true, false, cond, not, List, [], ◌∷◌, length, Option, Some, None, eq-eqb, ne_eqb}
use Rattle.std.proofs.lemmas.Bool.{cases_eq, cases_Bool}
use Rattle.std.proofs.lemmas.Option.{same_Some}
use Rattle.tb_semantics.specs.Graph.{IsIn}
use Rattle.tb_core.specs.FreeVariables.{is_in, without}
use Rattle.tb_core.specs.Store.{Value, At}
use Rattle.tb_core.proofs.Members.{in-tested, tested-in, in-without}
use Rattle.tb_ir.specs.Machine.{Env, Empty, Bind, lookup, bind_found, gather, bind_all, bind_located}
use Rattle.tb_ir.specs.TreeMachine.{env_values}

-- a number is in a list or not
pub in-or-not : (x : ℕ) (xs : List ℕ) → IsIn x xs ⊎ (IsIn x xs → ⊥)
in-or-not x xs =
    ⊎_elim
    (λ e. inl (in-tested xs x e))
    (λ e. inr (λ i. let h = tested-in xs x i in absurd (let c : true ≡ false = sym h ∙ e in cc)))
    (cases_Bool (is_in xs x))

pub in-rest : (x y : ℕ) (ys : List ℕ) → (y ≡ x → ⊥) → IsIn x (y ∷ ys) → IsIn x ys
in-rest x y ys ne i = ⊎_elim (λ e. absurd (ne e)) (λ j. j) i

-- what is left of a list
pub left-in : (xs ys : List ℕ) (y : ℕ) → (IsIn y xs → ⊥) → IsIn y ys → IsIn y (without xs ys)
left-in xs ys y away i =
    in-without xs ys y i (⊎_elim (λ e. absurd (away (in-tested xs y e))) (λ e. e) (cases_Bool (is_in xs y)))

pub left-not : (xs ys : List ℕ) (y : ℕ) → IsIn y (without xs ys) → IsIn y xs → ⊥
left-not xs [] y i j = i
left-not xs (z ∷ ys) y i j =
    ⊎_elim
    (λ e. left-not xs ys y (subst (λ b. IsIn y (cond (not b) (z ∷ without xs ys) (without xs ys))) e i) j)
    (λ e. ⊎_elim
    (λ same. let h = tested-in xs z (subst (λ a. IsIn a xs) (sym same) j) in let c : true ≡ false = sym h ∙ e in cc)
    (λ k. left-not xs ys y k j)
    (subst (λ b. IsIn y (cond (not b) (z ∷ without xs ys) (without xs ys))) e i))
    (cases_Bool (is_in xs z))

pub lookup-same : (x y : ℕ) (v : Value) (r : Env) → x ≡ y → lookup (Bind x v r) y ≡ Some v
lookup-same x y v r e = rw (eq-eqb x y e) refl

pub lookup-other : (x y : ℕ) (v : Value) (r : Env) → (x ≡ y → ⊥) → lookup (Bind x v r) y ≡ lookup r y
lookup-other x y v r ne = rw (ne_eqb x y ne) refl

found_same : (x : ℕ) (o : Option Value) (r : Env) → lookup r x ≡ None ⊎ (lookup r x ≡ o) →
    lookup (bind_found x o r) x ≡ o
found_same x None r (inl e) = e
found_same x None r (inr e) = e
found_same x (Some v) r h = lookup-same x x v r refl

found_other : (x y : ℕ) (o : Option Value) (r : Env) → (x ≡ y → ⊥) → lookup (bind_found x o r) y ≡ lookup r y
found_other x y None r ne = refl
found_other x y (Some v) r ne = lookup-other x y v r ne

-- an environment that is gathered has nothing of its own
gathered : (xs : List ℕ) (r : Env) (y : ℕ) → lookup (gather xs r) y ≡ None ⊎ (lookup (gather xs r) y ≡ lookup r y)
gathered [] r y = inl refl
gathered (x ∷ xs) r y =
    ⊎_elim
    (λ e. inr (subst (λ z. lookup (bind_found x (lookup r x) (gather xs r)) z ≡ lookup r z) e
    (found_same x (lookup r x) (gather xs r) (gathered xs r x))))
    (λ ne. let h = found_other x y (lookup r x) (gather xs r) ne in
    ⊎_elim (λ e. inl (h ∙ e)) (λ e. inr (h ∙ e)) (gathered xs r y))
    (cases_eq x y)

pub lookup-gather : (xs : List ℕ) (r : Env) (y : ℕ) → IsIn y xs → lookup (gather xs r) y ≡ lookup r y
lookup-gather [] r y i = absurd i
lookup-gather (x ∷ xs) r y i =
    ⊎_elim
    (λ e. subst (λ z. lookup (bind_found x (lookup r x) (gather xs r)) z ≡ lookup r z) e
    (found_same x (lookup r x) (gather xs r) (gathered xs r x)))
    (λ ne. found_other x y (lookup r x) (gather xs r) ne
    ∙ lookup-gather xs r y (⊎_elim (λ e. absurd (ne e)) (λ j. j) i))
    (cases_eq x y)

-- a value of an environment that is gathered is that of one of the variables
found_value : (x : ℕ) (o : Option Value) (r : Env) (v : Value) → IsIn v (env_values (bind_found x o r)) →
    (o ≡ Some v) ⊎ IsIn v (env_values r)
found_value x None r v i = inr i
found_value x (Some u) r v (inl e) = inl (subst (λ a. Some u ≡ Some a) e refl)
found_value x (Some u) r v (inr i) = inr i

pub gather-value : (xs : List ℕ) (r : Env) (v : Value) → IsIn v (env_values (gather xs r)) →
    (x : ℕ) × IsIn x xs × (lookup r x ≡ Some v)
gather-value [] r v i = absurd i
gather-value (x ∷ xs) r v i =
    ⊎_elim
    (λ e. (x, inl refl, e))
    (λ j. let k = gather-value xs r v j in (k.0, inr k.1, k.2))
    (found_value x (lookup r x) (gather xs r) v i)

value_first : (x y : ℕ) (u v : Value) (r : Env) → (lookup r y ≡ Some v → IsIn v (env_values r)) →
    lookup (Bind x u r) y ≡ Some v → IsIn v (u ∷ env_values r)
value_first x y u v r rest e =
    ⊎_elim
    (λ same. inl (same_Some u v (sym (lookup-same x y u r same) ∙ e)))
    (λ ne. inr (rest (sym (lookup-other x y u r ne) ∙ e)))
    (cases_eq x y)

-- what a variable holds is a value of the environment
pub lookup-value : (r : Env) (y : ℕ) (v : Value) → lookup r y ≡ Some v → IsIn v (env_values r)
lookup-value Empty y v e = cc
lookup-value (Bind x u r) y v e = value_first x y u v r (lookup-value r y v) e

-- variables that are bound to values
pub bound-out : (xs : List ℕ) (vs : List Value) (r : Env) (y : ℕ) → (IsIn y xs → ⊥) →
    lookup (bind_all xs vs r) y ≡ lookup r y
bound-out [] vs r y away = refl
bound-out (x ∷ xs) [] r y away = refl
bound-out (x ∷ xs) (v ∷ vs) r y away =
    lookup-other x y v (bind_all xs vs r) (λ e. away (inl e)) ∙ bound-out xs vs r y (λ i. away (inr i))

pub bound-agree : (xs : List ℕ) (vs : List Value) (q r : Env) (y : ℕ) → length xs ≡ length vs →
    ((IsIn y xs → ⊥) → lookup q y ≡ lookup r y) → lookup (bind_all xs vs q) y ≡ lookup (bind_all xs vs r) y
bound-agree [] vs q r y e h = h (λ i. i)
bound-agree (x ∷ xs) [] q r y e h = absurd (omega arith)
bound-agree (x ∷ xs) (v ∷ vs) q r y e h =
    ⊎_elim
    (λ same. lookup-same x y v (bind_all xs vs q) same ∙ sym (lookup-same x y v (bind_all xs vs r) same))
    (λ ne. lookup-other x y v (bind_all xs vs q) ne
    ∙ (bound-agree xs vs q r y (omega arith) (λ away. h (⊎_elim ne away)) ∙ sym (lookup-other x y v (bind_all xs vs r) ne)))
    (cases_eq x y)

-- variables that are bound to locations
pub located-out : (xs : List ℕ) (l : ℕ) (r : Env) (y : ℕ) → (IsIn y xs → ⊥) →
    lookup (bind_located xs l r) y ≡ lookup r y
located-out [] l r y away = refl
located-out (x ∷ xs) l r y away =
    lookup-other x y (At l) (bind_located xs (suc l) r) (λ e. away (inl e)) ∙ located-out xs (suc l) r y (λ i. away (inr i))

pub located-agree : (xs : List ℕ) (l : ℕ) (q r : Env) (y : ℕ) → ((IsIn y xs → ⊥) → lookup q y ≡ lookup r y) →
    lookup (bind_located xs l q) y ≡ lookup (bind_located xs l r) y
located-agree [] l q r y h = h (λ i. i)
located-agree (x ∷ xs) l q r y h =
    ⊎_elim
    (λ same. lookup-same x y (At l) (bind_located xs (suc l) q) same
    ∙ sym (lookup-same x y (At l) (bind_located xs (suc l) r) same))
    (λ ne. lookup-other x y (At l) (bind_located xs (suc l) q) ne
    ∙ (located-agree xs (suc l) q r y (λ away. h (⊎_elim ne away))
    ∙ sym (lookup-other x y (At l) (bind_located xs (suc l) r) ne)))
    (cases_eq x y)

-- a value of such an environment is one of them, or was there
pub located-value : (xs : List ℕ) (l : ℕ) (r : Env) (v : Value) → IsIn v (env_values (bind_located xs l r)) →
    ((y : ℕ) × IsIn y xs × (n : ℕ) × (v ≡ At n) × (l ≤ n) × (n < l + length xs)) ⊎ IsIn v (env_values r)
located-value [] l r v i = inr i
located-value (x ∷ xs) l r v (inl e) = inl (x, inl refl, l, sym e, omega arith, omega arith)
located-value (x ∷ xs) l r v (inr i) =
    ⊎_elim
    (λ h. let a = h.4 in let b = h.5 in inl (h.0, inr h.1, h.2, h.3, omega arith, omega arith))
    inr
    (located-value xs (suc l) r v i)
