-- Lists without repeats that grow.
use Rattle.std.proofs.Common.{◌≡◌, refl, sym, ap, ◌∙◌, ℕ, suc, ◌<◌, ◌≤◌, Bool, true, false, cond, not, ◌==◌, ◌||◌, ◌&&◌, List, [], ◌∷◌, ◌++◌, length, map, drop, get_or, nat_eq, append-nil, append_assoc, eqb-true, drop_of_length-le}
use Rattle.std.proofs.Math.Seq.{drop-cons}
use Rattle.indexmap.specs.IndexSet.{insert_key}
use Rattle.tb_core.specs.FreeVariables.{is_in, without, of_lambdas}
use Rattle.tb_core.specs.FirstUses.{first_of}
use Rattle.std.proofs.lemmas.List.Folds.{list_any-append}
use Rattle.tb_core.proofs.FirstUses.{is_in-asked, first_of-append, first_of-in, first_of-same}
use Rattle.tb_ir.specs.declared.anf.Atom.{Atom}
use Rattle.tb_ir.specs.AnfMachine.{free_of_atom, free_of_atoms}
use Rattle.tb_ir.specs.AnfPlain.{view_atom}
use Rattle.tb_live.specs.calls.Sets.{joined}

is_in-append : (xs ys : List ℕ) (y : ℕ) → is_in (xs ++ ys) y ≡ (is_in xs y || is_in ys y)
is_in-append xs ys y = list_any-append (λ x. x == y) xs ys

-- two lists, one after the other
pub joined-joined : (ks xs ys : List ℕ) → joined (joined ks xs) ys ≡ joined ks (xs ++ ys)
joined-joined ks xs ys =
    ap (λ zs. (ks ++ first_of ks xs) ++ zs) (first_of-same (ks ++ first_of ks xs) (ks ++ xs) ys same)
    ∙ append_assoc ks (first_of ks xs) (first_of (ks ++ xs) ys)
    ∙ ap (λ zs. ks ++ zs) (sym (first_of-append ks xs ys))
  where
    by_test : (a b : Bool) → (a || (not a && b)) ≡ (a || b)
    by_test true b = refl
    by_test false b = refl

    same : (y : ℕ) → is_in (ks ++ first_of ks xs) y ≡ is_in (ks ++ xs) y
    same y =
        is_in-append ks (first_of ks xs) y ∙ ap (λ b. is_in ks y || b) (first_of-in ks xs y)
        ∙ by_test (is_in ks y) (is_in xs y) ∙ sym (is_in-append ks xs y)

-- what is left out of a list counts as seen
first-without_by : (s ys : List ℕ) (x : ℕ) (xs : List ℕ) → first_of s (without ys xs) ≡ first_of (ys ++ s) xs →
    first_of (s ++ x ∷ []) (without ys xs) ≡ first_of (ys ++ (s ++ x ∷ [])) xs → (b : Bool) → is_in ys x ≡ b → (a : Bool) → is_in s x ≡ a →
    first_of s (cond (not b) (x ∷ without ys xs) (without ys xs)) ≡ cond (b || a) (first_of (ys ++ s) xs) (x ∷ first_of ((ys ++ s) ++ x ∷ []) xs)
first-without_by s ys x xs h k true e a f = h
first-without_by s ys x xs h k false e true f = rw f h
first-without_by s ys x xs h k false e false f =
    rw f (ap (λ zs. x ∷ zs) (k ∙ ap (λ t. first_of t xs) (sym (append_assoc ys s (x ∷ [])))))

pub first-without : (s ys xs : List ℕ) → first_of s (without ys xs) ≡ first_of (ys ++ s) xs
first-without s ys [] = refl
first-without s ys (x ∷ xs) =
    first-without_by s ys x xs (first-without s ys xs) (first-without (s ++ x ∷ []) ys xs) (is_in ys x) refl (is_in s x) refl
    ∙ ap (λ b. cond b (first_of (ys ++ s) xs) (x ∷ first_of ((ys ++ s) ++ x ∷ []) xs)) (sym (is_in-append ys s x))

-- one variable more counts nothing where it was seen, and once where it was not
once_more : (s t : List ℕ) (x y : ℕ) (b : Bool) → (x == y) ≡ b → is_in s x ≡ true → ((is_in t y || (b || false)) || is_in s y) ≡ (is_in t y || is_in s y)
once_more s t x y true e h = let k : is_in s y ≡ true = ap (is_in s) (sym (eqb-true x y e)) ∙ h in rw k (by_test (is_in t y))
  where
    by_test : (a : Bool) → ((a || true) || true) ≡ (a || true)
    by_test true = refl
    by_test false = refl
once_more s t x y false e h = by_test (is_in t y)
  where
    by_test : (a : Bool) → ((a || false) || is_in s y) ≡ (a || is_in s y)
    by_test true = refl
    by_test false = refl

seen_twice : (a b c : Bool) → ((a || (b || false)) || (c || (b || false))) ≡ ((a || c) || (b || false))
seen_twice true b c = refl
seen_twice false true true = refl
seen_twice false true false = refl
seen_twice false false c = refl

again_seen : (s t : List ℕ) (x : ℕ) → is_in s x ≡ true → (y : ℕ) → is_in ((t ++ x ∷ []) ++ s) y ≡ is_in (t ++ s) y
again_seen s t x h y =
    is_in-append (t ++ x ∷ []) s y ∙ ap (λ b. b || is_in s y) (is_in-append t (x ∷ []) y) ∙ once_more s t x y (x == y) refl h ∙ sym (is_in-append t s y)

again_put : (s t : List ℕ) (x y : ℕ) → is_in ((t ++ x ∷ []) ++ (s ++ x ∷ [])) y ≡ is_in ((t ++ s) ++ x ∷ []) y
again_put s t x y =
    is_in-append (t ++ x ∷ []) (s ++ x ∷ []) y
    ∙ ap (λ b. b || is_in (s ++ x ∷ []) y) (is_in-append t (x ∷ []) y)
    ∙ ap (λ b. (is_in t y || is_in (x ∷ []) y) || b) (is_in-append s (x ∷ []) y)
    ∙ seen_twice (is_in t y) (x == y) (is_in s y)
    ∙ ap (λ b. b || is_in (x ∷ []) y) (sym (is_in-append t s y))
    ∙ sym (is_in-append (t ++ s) (x ∷ []) y)

-- the first uses of first uses
first-first_by : (s t : List ℕ) (x : ℕ) (xs : List ℕ) → first_of s (first_of t xs) ≡ first_of (t ++ s) xs →
    first_of s (first_of (t ++ x ∷ []) xs) ≡ first_of ((t ++ x ∷ []) ++ s) xs →
    first_of (s ++ x ∷ []) (first_of (t ++ x ∷ []) xs) ≡ first_of ((t ++ x ∷ []) ++ (s ++ x ∷ [])) xs → (b : Bool) → is_in t x ≡ b → (a : Bool) → is_in s x ≡ a →
    first_of s (cond b (first_of t xs) (x ∷ first_of (t ++ x ∷ []) xs)) ≡ cond (b || a) (first_of (t ++ s) xs) (x ∷ first_of ((t ++ s) ++ x ∷ []) xs)
first-first_by s t x xs g h k true e a f = g
first-first_by s t x xs g h k false e true f = rw f (h ∙ first_of-same ((t ++ x ∷ []) ++ s) (t ++ s) xs (again_seen s t x f))
first-first_by s t x xs g h k false e false f =
    rw f (ap (λ zs. x ∷ zs) (k ∙ first_of-same ((t ++ x ∷ []) ++ (s ++ x ∷ [])) ((t ++ s) ++ x ∷ []) xs (again_put s t x)))

pub first-first : (s t xs : List ℕ) → first_of s (first_of t xs) ≡ first_of (t ++ s) xs
first-first s t [] = refl
first-first s t (x ∷ xs) =
    first-first_by s t x xs (first-first s t xs) (first-first s (t ++ x ∷ []) xs) (first-first (s ++ x ∷ []) (t ++ x ∷ []) xs) (is_in t x) refl (is_in s x) refl
    ∙ ap (λ b. cond b (first_of (t ++ s) xs) (x ∷ first_of ((t ++ s) ++ x ∷ []) xs)) (sym (is_in-append t s x))

pub joined-first : (ks xs : List ℕ) → joined ks (first_of [] xs) ≡ joined ks xs
joined-first ks xs = ap (λ zs. ks ++ zs) (first-first ks [] xs)

pub joined-without : (ks ys xs : List ℕ) → joined ks (without ys (first_of [] xs)) ≡ joined ks (without ys xs)
joined-without ks ys xs =
    ap (λ zs. ks ++ zs) (first-without ks ys (first_of [] xs) ∙ first-first (ys ++ ks) [] xs ∙ sym (first-without ks ys xs))

pub joined-none : (ks : List ℕ) → joined ks [] ≡ ks
joined-none ks = append-nil ks

-- a step of a loop that adds the lists of some parts, and its end
pub joined-step : (ks new us vs end : List ℕ) → new ≡ joined ks us → joined ks (us ++ vs) ≡ end → joined new vs ≡ end
joined-step ks new us vs end e h = ap (λ zs. joined zs vs) e ∙ joined-joined ks us vs ∙ h

put_by : (ks : List ℕ) (x : ℕ) (b : Bool) → is_in ks x ≡ b → cond b ks (ks ++ x ∷ []) ≡ ks ++ cond b [] (x ∷ [])
put_by ks x true e = sym (append-nil ks)
put_by ks x false e = refl

-- a variable that is inserted
pub inserted : (ks new : List ℕ) (x : ℕ) → new ≡ insert_key nat_eq ks x → new ≡ joined ks (x ∷ [])
inserted ks new x e = e ∙ ap (λ b. cond b ks (ks ++ x ∷ [])) (is_in-asked ks x) ∙ put_by ks x (is_in ks x) refl

pub add-step : (xs ks new end : List ℕ) (i j : ℕ) → i < length xs → j ≡ suc i → new ≡ insert_key nat_eq ks (get_or xs i 0) →
    joined ks (drop i xs) ≡ end → joined new (drop j xs) ≡ end
add-step xs ks new end i j lt e q h =
    joined-step ks new (get_or xs i 0 ∷ []) (drop j xs) end (inserted ks new (get_or xs i 0) q)
    (ap (λ k. joined ks (get_or xs i 0 ∷ drop k xs)) e ∙ ap (joined ks) (sym (drop-cons xs i 0 lt)) ∙ h)

pub add-done : (xs ks end : List ℕ) (i : ℕ) → length xs ≤ i → joined ks (drop i xs) ≡ end → ks ≡ end
add-done xs ks end i le h = sym (joined-none ks) ∙ ap (joined ks) (sym (drop_of_length-le xs le)) ∙ h

pub atoms-step : (ds : List Atom) (ks new end : List ℕ) (i j : ℕ) (d : Atom) → i < length ds → j ≡ suc i →
    new ≡ joined ks (free_of_atom (view_atom (get_or ds i d))) → joined ks (free_of_atoms (map view_atom (drop i ds))) ≡ end →
    joined new (free_of_atoms (map view_atom (drop j ds))) ≡ end
atoms-step ds ks new end i j d lt e q h =
    let a = get_or ds i d in
    joined-step ks new (free_of_atom (view_atom a)) (free_of_atoms (map view_atom (drop j ds))) end q
    (ap (λ k. joined ks (free_of_atom (view_atom a) ++ free_of_atoms (map view_atom (drop k ds)))) e
    ∙ ap (λ es. joined ks (free_of_atoms (map view_atom es))) (sym (drop-cons ds i d lt)) ∙ h)

pub atoms-done : (ds : List Atom) (ks end : List ℕ) (i : ℕ) → length ds ≤ i → joined ks (free_of_atoms (map view_atom (drop i ds))) ≡ end → ks ≡ end
atoms-done ds ks end i le h = sym (joined-none ks) ∙ ap (λ es. joined ks (free_of_atoms (map view_atom es))) (sym (drop_of_length-le ds le)) ∙ h

pub lambdas-step : (captured : ℕ → List ℕ) (ls ks new end : List ℕ) (i j : ℕ) → i < length ls → j ≡ suc i →
    new ≡ joined ks (captured (get_or ls i 0)) → joined ks (of_lambdas captured (drop i ls)) ≡ end → joined new (of_lambdas captured (drop j ls)) ≡ end
lambdas-step captured ls ks new end i j lt e q h =
    joined-step ks new (captured (get_or ls i 0)) (of_lambdas captured (drop j ls)) end q
    (ap (λ k. joined ks (captured (get_or ls i 0) ++ of_lambdas captured (drop k ls))) e
    ∙ ap (λ ms. joined ks (of_lambdas captured ms)) (sym (drop-cons ls i 0 lt)) ∙ h)

pub lambdas-done : (captured : ℕ → List ℕ) (ls ks end : List ℕ) (i : ℕ) → length ls ≤ i → joined ks (of_lambdas captured (drop i ls)) ≡ end → ks ≡ end
lambdas-done captured ls ks end i le h = sym (joined-none ks) ∙ ap (λ ms. joined ks (of_lambdas captured ms)) (sym (drop_of_length-le ls le)) ∙ h

-- a step of the loop that adds what is not bound
pub others-step : (bound xs ks new end : List ℕ) (i j : ℕ) (b : Bool) → i < length xs → j ≡ suc i → b ≡ is_in bound (get_or xs i 0) →
    new ≡ cond b ks (joined ks (get_or xs i 0 ∷ [])) → joined ks (without bound (drop i xs)) ≡ end → joined new (without bound (drop j xs)) ≡ end
others-step bound xs ks new end i j b lt e q n h =
    let x = get_or xs i 0 in
    by_test b n
    (ap (λ c. joined ks (cond (not c) (x ∷ without bound (drop j xs)) (without bound (drop j xs)))) q
    ∙ ap (λ k. joined ks (without bound (x ∷ drop k xs))) e ∙ ap (λ ys. joined ks (without bound ys)) (sym (drop-cons xs i 0 lt)) ∙ h)
  where
    by_test : (b : Bool) → new ≡ cond b ks (joined ks (get_or xs i 0 ∷ [])) →
        joined ks (cond (not b) (get_or xs i 0 ∷ without bound (drop j xs)) (without bound (drop j xs))) ≡ end → joined new (without bound (drop j xs)) ≡ end
    by_test true n h = ap (λ zs. joined zs (without bound (drop j xs))) n ∙ h
    by_test false n h = joined-step ks new (get_or xs i 0 ∷ []) (without bound (drop j xs)) end n h

pub others-done : (bound xs ks end : List ℕ) (i : ℕ) → length xs ≤ i → joined ks (without bound (drop i xs)) ≡ end → ks ≡ end
others-done bound xs ks end i le h = sym (joined-none ks) ∙ ap (λ ys. joined ks (without bound ys)) (sym (drop_of_length-le xs le)) ∙ h

-- the members of a list that was joined to none
pub in-joined : (ks xs : List ℕ) (y : ℕ) → ks ≡ joined [] xs → is_in ks y ≡ is_in xs y
in-joined ks xs y e = ap (λ zs. is_in zs y) e ∙ first_of-in [] xs y
