-- Lists of variables in the order of their first use.
use Rattle.std.proofs.Common.{◌≡◌, refl, sym, ap, ◌∙◌, ℕ, Bool, true, false, cond, not, ◌==◌, ◌||◌, ◌&&◌, List, [], ◌∷◌, ◌++◌, length, drop, get_or, nat_eq, ◌+◌, ◌<◌, add-one, drop-cons, ◌≤◌, drop_of_length-le, eqb-true, eq-eqb, ne_eqb, append-nil, append_assoc}
use Rattle.std.proofs.lemmas.Bool.{eqb-false}
use Rattle.std.specs.List.{list_any}
use Rattle.indexmap.specs.IndexSet.{insert_key}
use Rattle.std.proofs.lemmas.List.Folds.{list_any-append}
use Rattle.tb_semantics.specs.Graph.{IsApart}
use Rattle.tb_core.specs.FreeVariables.{is_in, without}
use Rattle.tb_core.specs.FirstUses.{first_of}
use Rattle.tb_core.proofs.Members.{tested-in}

eqb_swapped : (b : Bool) (x y : ℕ) → (x == y) ≡ b → (y == x) ≡ b
eqb_swapped true x y e = eq-eqb y x (sym (eqb-true x y e))
eqb_swapped false x y e = ne_eqb y x (λ h. eqb-false x y e (sym h))

-- a test of each element from the other side
pub is_in-asked : (xs : List ℕ) (y : ℕ) → list_any (λ x. y == x) xs ≡ is_in xs y
is_in-asked [] y = refl
is_in-asked (x ∷ xs) y = rw (is_in-asked xs y, eqb_swapped (x == y) x y refl) refl

is_in-append : (xs ys : List ℕ) (y : ℕ) → is_in (xs ++ ys) y ≡ (is_in xs y || is_in ys y)
is_in-append xs ys y = list_any-append (λ x. x == y) xs ys

-- what was seen counts by its members alone
pub first_of-same : (s t xs : List ℕ) → ((y : ℕ) → is_in s y ≡ is_in t y) → first_of s xs ≡ first_of t xs
first_of-same s t [] h = refl
first_of-same s t (x ∷ xs) h =
    let more = first_of-same (s ++ x ∷ []) (t ++ x ∷ []) xs (λ y. is_in-append s (x ∷ []) y ∙ ap (λ b. b || is_in (x ∷ []) y) (h y) ∙ sym (is_in-append t (x ∷ []) y)) in
    let rest = first_of-same s t xs h in
    rw (h x, more, rest) refl

-- a variable that was seen adds nothing to what was seen
again_by : (s : List ℕ) (x y : ℕ) (o : Bool) → is_in s x ≡ true → (b : Bool) → (x == y) ≡ b → (is_in s y || o) ≡ (is_in s y || (b || o))
again_by s x y o h true e = let k : is_in s y ≡ true = ap (is_in s) (sym (eqb-true x y e)) ∙ h in rw k refl
again_by s x y o h false e = refl

seen_again : (s : List ℕ) (x : ℕ) (xs : List ℕ) → is_in s x ≡ true → (y : ℕ) → is_in (s ++ xs) y ≡ is_in (s ++ x ∷ xs) y
seen_again s x xs h y = is_in-append s xs y ∙ again_by s x y (is_in xs y) h (x == y) refl ∙ sym (is_in-append s (x ∷ xs) y)

-- the first uses of two lists, one after the other
append_by : (s : List ℕ) (x : ℕ) (xs ys : List ℕ) → first_of s (xs ++ ys) ≡ first_of s xs ++ first_of (s ++ xs) ys → first_of (s ++ x ∷ []) (xs ++ ys) ≡ first_of (s ++ x ∷ []) xs ++ first_of ((s ++ x ∷ []) ++ xs) ys → (b : Bool) → is_in s x ≡ b → cond b (first_of s (xs ++ ys)) (x ∷ first_of (s ++ x ∷ []) (xs ++ ys)) ≡ cond b (first_of s xs) (x ∷ first_of (s ++ x ∷ []) xs) ++ first_of (s ++ x ∷ xs) ys
append_by s x xs ys h k true e = h ∙ ap (λ zs. first_of s xs ++ zs) (first_of-same (s ++ xs) (s ++ x ∷ xs) ys (seen_again s x xs e))
append_by s x xs ys h k false e = ap (λ zs. x ∷ zs) (k ∙ ap (λ t. first_of (s ++ x ∷ []) xs ++ first_of t ys) (append_assoc s (x ∷ []) xs))

pub first_of-append : (s xs ys : List ℕ) → first_of s (xs ++ ys) ≡ first_of s xs ++ first_of (s ++ xs) ys
first_of-append s [] ys = ap (λ t. first_of t ys) (sym (append-nil s))
first_of-append s (x ∷ xs) ys = append_by s x xs ys (first_of-append s xs ys) (first_of-append (s ++ x ∷ []) xs ys) (is_in s x) refl

-- a variable of the first list may as well stand at the end
seen_last : (s t : List ℕ) (y : ℕ) → is_in s y ≡ true → (z : ℕ) → is_in (s ++ t) z ≡ is_in (s ++ (t ++ y ∷ [])) z
seen_last s t y h z =
    is_in-append s t z
    ∙ last_by (is_in t z) (y == z) refl
    ∙ ap (λ b. is_in s z || b) (sym (is_in-append t (y ∷ []) z))
    ∙ sym (is_in-append s (t ++ y ∷ []) z)
  where
    last_by : (o b : Bool) → (y == z) ≡ b → (is_in s z || o) ≡ (is_in s z || (o || (b || false)))
    last_by true b e = refl
    last_by false true e = let k : is_in s z ≡ true = ap (is_in s) (sym (eqb-true y z e)) ∙ h in rw k refl
    last_by false false e = refl

-- what was seen before is left out of the first uses
without_by : (s t : List ℕ) (y : ℕ) (ys : List ℕ) → first_of (s ++ t) ys ≡ without s (first_of t ys) → first_of (s ++ (t ++ y ∷ [])) ys ≡ without s (first_of (t ++ y ∷ []) ys) → (a b : Bool) → is_in s y ≡ a → is_in t y ≡ b → cond (a || b) (first_of (s ++ t) ys) (y ∷ first_of ((s ++ t) ++ y ∷ []) ys) ≡ without s (cond b (first_of t ys) (y ∷ first_of (t ++ y ∷ []) ys))
without_by s t y ys h k true true e f = h
without_by s t y ys h k false true e f = h
without_by s t y ys h k true false e f = rw e (first_of-same (s ++ t) (s ++ (t ++ y ∷ [])) ys (seen_last s t y e) ∙ k)
without_by s t y ys h k false false e f = rw e (ap (λ zs. y ∷ zs) (ap (λ r. first_of r ys) (append_assoc s t (y ∷ [])) ∙ k))

pub first_of-without : (s t ys : List ℕ) → first_of (s ++ t) ys ≡ without s (first_of t ys)
first_of-without s t [] = refl
first_of-without s t (y ∷ ys) =
    ap (λ b. cond b (first_of (s ++ t) ys) (y ∷ first_of ((s ++ t) ++ y ∷ []) ys)) (is_in-append s t y)
    ∙ without_by s t y ys (first_of-without s t ys) (first_of-without s (t ++ y ∷ []) ys) (is_in s y) (is_in t y) refl refl

-- the members are those of the list that were not seen before
in_by : (s : List ℕ) (x : ℕ) (xs : List ℕ) (y : ℕ) → is_in (first_of s xs) y ≡ (not (is_in s y) && is_in xs y) → is_in (first_of (s ++ x ∷ []) xs) y ≡ (not (is_in (s ++ x ∷ []) y) && is_in xs y) → (a : Bool) → is_in s x ≡ a → (b : Bool) → (x == y) ≡ b → is_in (cond a (first_of s xs) (x ∷ first_of (s ++ x ∷ []) xs)) y ≡ (not (is_in s y) && (b || is_in xs y))
in_by s x xs y h k true e true f = let q : is_in s y ≡ true = ap (is_in s) (sym (eqb-true x y f)) ∙ e in h ∙ rw q refl
in_by s x xs y h k true e false f = h
in_by s x xs y h k false e true f = let q : is_in s y ≡ false = ap (is_in s) (sym (eqb-true x y f)) ∙ e in rw (f, q) refl
in_by s x xs y h k false e false f =
    let q : is_in (s ++ x ∷ []) y ≡ is_in s y = is_in-append s (x ∷ []) y ∙ or_none (is_in s y) in
    rw f (k ∙ ap (λ b. not b && is_in xs y) q)
  where
    or_none : (a : Bool) → (a || (x == y || false)) ≡ a
    or_none true = refl
    or_none false = rw f refl

pub first_of-in : (s xs : List ℕ) (y : ℕ) → is_in (first_of s xs) y ≡ (not (is_in s y) && is_in xs y)
first_of-in s [] y = none_by (is_in s y)
  where
    none_by : (a : Bool) → false ≡ (not a && false)
    none_by true = refl
    none_by false = refl
first_of-in s (x ∷ xs) y = in_by s x xs y (first_of-in s xs y) (first_of-in (s ++ x ∷ []) xs y) (is_in s x) refl (x == y) refl

-- no variable stands twice
last_seen : (s : List ℕ) (x : ℕ) → is_in (s ++ x ∷ []) x ≡ true
last_seen s x = is_in-append s (x ∷ []) x ∙ by (is_in s x)
  where
    by : (a : Bool) → (a || (x == x || false)) ≡ true
    by true = refl
    by false = rw (eq-eqb x x refl) refl

once_by : (s : List ℕ) (x : ℕ) (xs : List ℕ) → IsApart (first_of s xs) → IsApart (first_of (s ++ x ∷ []) xs) → (a : Bool) → IsApart (cond a (first_of s xs) (x ∷ first_of (s ++ x ∷ []) xs))
once_by s x xs h k true = h
once_by s x xs h k false =
    (λ i. let e = sym (tested-in (first_of (s ++ x ∷ []) xs) x i) ∙ first_of-in (s ++ x ∷ []) xs x ∙ ap (λ b. not b && is_in xs x) (last_seen s x) in cc, k)

pub first_of-apart : (s xs : List ℕ) → IsApart (first_of s xs)
first_of-apart s [] = tt
first_of-apart s (x ∷ xs) = once_by s x xs (first_of-apart s xs) (first_of-apart (s ++ x ∷ []) xs) (is_in s x)

-- a step of the loop that puts some variables into a set
put_by : (ks : List ℕ) (x : ℕ) (xs all : List ℕ) → (b : Bool) → is_in ks x ≡ b → ks ++ cond b (first_of ks xs) (x ∷ first_of (ks ++ x ∷ []) xs) ≡ all → cond b ks (ks ++ x ∷ []) ++ first_of (cond b ks (ks ++ x ∷ [])) xs ≡ all
put_by ks x xs all true e h = h
put_by ks x xs all false e h = append_assoc ks (x ∷ []) (first_of (ks ++ x ∷ []) xs) ∙ h

pub first_of-put : (all ks new : List ℕ) (i : ℕ) → i < length all → ks ++ first_of ks (drop i all) ≡ first_of [] all → new ≡ insert_key nat_eq ks (get_or all i 0) → new ++ first_of new (drop (i + 1) all) ≡ first_of [] all
first_of-put all ks new i lt h e =
    let x = get_or all i 0 in
    let same : new ≡ cond (is_in ks x) ks (ks ++ x ∷ []) = e ∙ ap (λ b. cond b ks (ks ++ x ∷ [])) (is_in-asked ks x) in
    let left : drop i all ≡ x ∷ drop (i + 1) all = drop-cons all i 0 lt ∙ ap (λ k. x ∷ drop k all) (sym (add-one i)) in
    ap (λ zs. zs ++ first_of zs (drop (i + 1) all)) same
    ∙ put_by ks x (drop (i + 1) all) (first_of [] all) (is_in ks x) refl (ap (λ zs. ks ++ first_of ks zs) (sym left) ∙ h)

-- the end of that loop
pub first_of-all : (all ks : List ℕ) (i : ℕ) → length all ≤ i → ks ++ first_of ks (drop i all) ≡ first_of [] all → (y : ℕ) → is_in ks y ≡ is_in all y
first_of-all all ks i le h y =
    let whole : ks ≡ first_of [] all = sym (append-nil ks) ∙ ap (λ zs. ks ++ first_of ks zs) (sym (drop_of_length-le all le)) ∙ h in
    ap (λ zs. is_in zs y) whole ∙ first_of-in [] all y

-- a step of the loop that puts those of a list that are not bound
kept_by : (bound out : List ℕ) (x : ℕ) (xs all : List ℕ) (b : Bool) → is_in bound x ≡ b → out ++ cond (not b) (x ∷ without bound xs) (without bound xs) ≡ all → cond b out (out ++ x ∷ []) ++ without bound xs ≡ all
kept_by bound out x xs all true e h = h
kept_by bound out x xs all false e h = append_assoc out (x ∷ []) (without bound xs) ∙ h

pub without-put : (bound xs out new all : List ℕ) (i : ℕ) (b : Bool) → i < length xs → b ≡ is_in bound (get_or xs i 0) → new ≡ cond b out (out ++ get_or xs i 0 ∷ []) → out ++ without bound (drop i xs) ≡ all → new ++ without bound (drop (i + 1) xs) ≡ all
without-put bound xs out new all i b lt e n h =
    let x = get_or xs i 0 in
    let rest = drop (i + 1) xs in
    let left : drop i xs ≡ x ∷ rest = drop-cons xs i 0 lt ∙ ap (λ k. x ∷ drop k xs) (sym (add-one i)) in
    ap (λ zs. zs ++ without bound rest) (n ∙ ap (λ d. cond d out (out ++ x ∷ [])) e)
    ∙ kept_by bound out x rest all (is_in bound x) refl (ap (λ zs. out ++ without bound zs) (sym left) ∙ h)
