-- Variables that an environment finds in a store, and what stores keep of one another.
use Rattle.std.proofs.Common.{◌≡◌, refl, sym, ap, ◌∙◌, ℕ, zero, suc, ◌+◌, ◌<◌, ◌≤◌, ◌⊎◌, inl, inr, ⊎_elim, arith, Bool, true, false, cond, ◌==◌, ◌||◌, List, [], ◌∷◌, ◌++◌, length, map, Option, Some, None, slice_get, slice_set, eqb-true}
use Rattle.std.proofs.lemmas.Bool.{eqb-false, cases_Bool}
use Rattle.std.proofs.lemmas.Option.{same_Some}
use Rattle.tb_semantics.specs.Graph.{IsIn}
use Rattle.tb_core.specs.FreeVariables.{is_in}
use Rattle.tb_core.specs.Store.{Value, At, Object, Pair, Vec, Str, Env, Item, Var, Obj, Clo, Holds, content_of, lookup, cut, bind_from, object_size, flat_size}
use Rattle.tb_core.specs.Space.{size_at, made}
use Rattle.tb_core.specs.Lists.{list_objects}
use Rattle.tb_core.specs.Reference.{vars, located, list_items}
use Rattle.tb_core.proofs.Members.{in-tested, tested-in}
use Rattle.tb_core.proofs.Cuts.{cut-kept}

-- a variable stands at the location
abbrev pub VarAt : List Item → ℕ → Type 0
VarAt st l = (v : Value) × (slice_get st l ≡ Some (Var v))

-- the environment finds the variable, and the store has it
abbrev pub Found : List Item → Env → ℕ → Type 0
Found st r y = (l : ℕ) × (lookup r y ≡ Some l) × VarAt st l

abbrev pub Covers : List Item → List ℕ → Env → Type 0
Covers st xs r = (y : ℕ) → IsIn y xs → Found st r y

-- a cut to these variables and maybe more
pub covers-cut : (st : List Item) (zs ys : List ℕ) (r : Env) → ((y : ℕ) → IsIn y ys → IsIn y zs) → Covers st ys r → Covers st ys (cut zs r)
covers-cut st zs ys r w h y i = let f = h y i in (f.0, cut-kept zs r y (tested-in zs y (w y i)) ∙ f.1, f.2)

pub covers-own : (st : List Item) (ys : List ℕ) (r : Env) → Covers st ys r → Covers st ys (cut ys r)
covers-own st ys r h = covers-cut st ys ys r (λ y i. i) h

-- what stands at a location of the first store is no smaller in the second
abbrev pub KeepsSizes : List Item → List Item → Type 0
KeepsSizes st now = (l : ℕ) → size_at st l ≤ size_at now l

pub sizes-trans : (a b c : List Item) → KeepsSizes a b → KeepsSizes b c → KeepsSizes a c
sizes-trans a b c h k l = let x = h l in let y = k l in omega arith

-- so all that was made is no less
pub sizes-made : (st now : List Item) → KeepsSizes st now → made st ≤ made now
sizes-made [] now h = omega arith
sizes-made (i ∷ st) [] h = let x = h 0 in let y = sizes-made st [] (λ l. h (suc l)) in omega arith
sizes-made (i ∷ st) (j ∷ now) h = let x = h 0 in let y = sizes-made st now (λ l. h (suc l)) in omega arith

-- the second store has the variables and the procedures of the first where they were, and its items keep their sizes
pub record Extends (st now : List Item) : Type 0 where
  pub vars_stay : (l : ℕ) → VarAt st l → VarAt now l
  pub closures_stay : (l m : ℕ) (r : Env) → slice_get st l ≡ Some (Clo m r) → slice_get now l ≡ Some (Clo m r)
  pub sizes_stay : KeepsSizes st now

pub extends_refl : (st : List Item) → Extends st st
extends_refl st = record { vars_stay = λ l h. h; closures_stay = λ l m r h. h; sizes_stay = λ l. omega arith }

pub covers-extends : (st now : List Item) (xs : List ℕ) (r : Env) → Extends st now → Covers st xs r → Covers now xs r
covers-extends st now xs r e h y i = let f = h y i in (f.0, f.1, e.vars_stay f.0 f.2)

-- items behind others
pub get-left : {X : Type 0} (st is : List X) (l : ℕ) (i : X) → slice_get st l ≡ Some i → slice_get (st ++ is) l ≡ Some i
get-left [] is l i e = cc
get-left (x ∷ st) is zero i e = e
get-left (x ∷ st) is (suc l) i e = get-left st is l i e

pub get-right : {X : Type 0} (st is : List X) (n l : ℕ) → n ≡ length st + l → slice_get (st ++ is) n ≡ slice_get is l
get-right [] is n l e = ap (slice_get is) (let h : n ≡ l = omega arith in h)
get-right (x ∷ st) is zero l e = absurd (omega arith)
get-right (x ∷ st) is (suc n) l e = get-right st is n l (omega arith)

pub get-either : {X : Type 0} (st is : List X) (l : ℕ) (i : X) → slice_get (st ++ is) l ≡ Some i → (slice_get st l ≡ Some i) ⊎ IsIn i is
get-either [] is l i e = inr (got_in is l i e)
  where
    got_in : {X : Type 0} (is : List X) (l : ℕ) (i : X) → slice_get is l ≡ Some i → IsIn i is
    got_in [] l i e = cc
    got_in (x ∷ is) zero i e = inl (same_Some x i e)
    got_in (x ∷ is) (suc l) i e = inr (got_in is l i e)
get-either (x ∷ st) is zero i e = inl e
get-either (x ∷ st) is (suc l) i e = get-either st is l i e

sizes_append : (st is : List Item) (l : ℕ) → size_at st l ≤ size_at (st ++ is) l
sizes_append [] is l = omega arith
sizes_append (i ∷ st) is zero = omega arith
sizes_append (i ∷ st) is (suc l) = sizes_append st is l

pub extends-append : (st is : List Item) → Extends st (st ++ is)
extends-append st is = record {
  vars_stay = λ l h. (h.0, get-left st is l (Var h.0) h.1);
  closures_stay = λ l m r h. get-left st is l (Clo m r) h;
  sizes_stay = sizes_append st is;
}

-- an item that is changed into another of its kind and size
pub set-same : {X : Type 0} (st : List X) (l : ℕ) (old i : X) → slice_get st l ≡ Some old → slice_get (slice_set st l i) l ≡ Some i
set-same [] l old i e = cc
set-same (x ∷ st) zero old i e = refl
set-same (x ∷ st) (suc l) old i e = set-same st l old i e

pub set-other : {X : Type 0} (st : List X) (l k : ℕ) (i : X) → (l ≡ k → ⊥) → slice_get (slice_set st l i) k ≡ slice_get st k
set-other [] l k i ne = refl
set-other (x ∷ st) zero zero i ne = absurd (ne refl)
set-other (x ∷ st) zero (suc k) i ne = refl
set-other (x ∷ st) (suc l) zero i ne = refl
set-other (x ∷ st) (suc l) (suc k) i ne = set-other st l k i (λ e. ne (ap suc e))

sizes_set : (st : List Item) (l : ℕ) (old i : Item) → slice_get st l ≡ Some old → flat_size old ≡ flat_size i → (k : ℕ) → size_at st k ≤ size_at (slice_set st l i) k
sizes_set [] l old i e s k = omega arith
sizes_set (x ∷ st) zero old i e s zero = let h = ap flat_size (same_Some x old e) in omega arith
sizes_set (x ∷ st) zero old i e s (suc k) = omega arith
sizes_set (x ∷ st) (suc l) old i e s zero = omega arith
sizes_set (x ∷ st) (suc l) old i e s (suc k) = sizes_set st l old i e s k

-- the kinds of objects that a change keeps, with their sizes
pub data SameObject : Object → Object → Type 0 where
  pair_kind : (a b c d : Value) → SameObject (Pair a b) (Pair c d)
  vec_kind : (vs ws : List Value) → length vs ≡ length ws → SameObject (Vec vs) (Vec ws)
  str_kind : (bs cs : List ℕ) → length bs ≡ length cs → SameObject (Str bs) (Str cs)

pub data SameKind : Item → Item → Type 0 where
  var_kind : (v w : Value) → SameKind (Var v) (Var w)
  obj_kind : (o n : Object) → SameObject o n → SameKind (Obj o) (Obj n)

pub same-size : (o n : Object) → SameObject o n → object_size o ≡ object_size n
same-size _ _ (pair_kind a b c d) = refl
same-size _ _ (vec_kind vs ws e) = ap (λ n. n + 1) e
same-size _ _ (str_kind bs cs e) = ap (λ n. n + 1) e

kind_size : (old i : Item) → SameKind old i → flat_size old ≡ flat_size i
kind_size _ _ (var_kind v w) = refl
kind_size _ _ (obj_kind o n k) = same-size o n k

kind_var : (old i : Item) (u : Value) → SameKind old i → old ≡ Var u → (v : Value) × (i ≡ Var v)
kind_var _ _ u (var_kind v w) e = (w, refl)
kind_var _ _ u (obj_kind o n k) e = cc

kind_closure : (old i : Item) (m : ℕ) (r : Env) → SameKind old i → old ≡ Clo m r → ⊥
kind_closure _ _ m r (var_kind v w) e = cc
kind_closure _ _ m r (obj_kind o n k) e = cc

kind_new : (old i : Item) (m : ℕ) (r : Env) → SameKind old i → i ≡ Clo m r → ⊥
kind_new _ _ m r (var_kind v w) e = cc
kind_new _ _ m r (obj_kind o n k) e = cc

-- where the primitives see an object stands its item
pub content-object : (i : Option Item) (o : Object) → content_of i ≡ Holds o → i ≡ Some (Obj o)
content-object None o e = cc
content-object (Some (Var v)) o e = cc
content-object (Some (Obj n)) o e = let h : n ≡ o = cc in ap (λ x. Some (Obj x)) h
content-object (Some (Clo m r)) o e = cc

pub extends-set : (st : List Item) (l : ℕ) (old i : Item) → slice_get st l ≡ Some old → SameKind old i → Extends st (slice_set st l i)
extends-set st l old i e k = record {
  vars_stay = λ a h. ⊎_elim
      (λ q. let old_var = same_Some old (Var h.0) (sym e ∙ ap (slice_get st) (eqb-true l a q) ∙ h.1) in let w = kind_var old i h.0 k old_var in (w.0, ap (slice_get (slice_set st l i)) (sym (eqb-true l a q)) ∙ set-same st l old i e ∙ ap Some w.1))
      (λ q. (h.0, set-other st l a i (eqb-false l a q) ∙ h.1))
      (cases_Bool (l == a));
  closures_stay = λ a m r h. ⊎_elim
      (λ q. absurd (kind_closure old i m r k (same_Some old (Clo m r) (sym e ∙ ap (slice_get st) (eqb-true l a q) ∙ h))))
      (λ q. set-other st l a i (eqb-false l a q) ∙ h)
      (cases_Bool (l == a));
  sizes_stay = sizes_set st l old i e (kind_size old i k);
}

-- a procedure of the changed store was there before
pub set-closure : (st : List Item) (l : ℕ) (old i : Item) (a m : ℕ) (r : Env) → slice_get st l ≡ Some old → SameKind old i → slice_get (slice_set st l i) a ≡ Some (Clo m r) → slice_get st a ≡ Some (Clo m r)
set-closure st l old i a m r e k h =
    ⊎_elim
    (λ q. absurd (kind_new old i m r k (same_Some i (Clo m r) (sym (set-same st l old i e) ∙ ap (slice_get (slice_set st l i)) (eqb-true l a q) ∙ h))))
    (λ q. sym (set-other st l a i (eqb-false l a q)) ∙ h)
    (cases_Bool (l == a))

-- variables that are bound to locations which follow one another
pub bound-found : (xs : List ℕ) (n : ℕ) (r : Env) (y : ℕ) → IsIn y xs → (i : ℕ) × (i < length xs) × (lookup (bind_from xs n r) y ≡ Some (n + i))
bound-found [] n r y j = absurd j
bound-found (x ∷ xs) n r y j =
    ⊎_elim
    (λ q. (0, omega arith, ap (λ b. cond b (Some n) (lookup (bind_from xs (suc n) r) y)) q ∙ ap Some (let e : n ≡ n + 0 = omega arith in e)))
    (λ q. let k = ⊎_elim (λ e. absurd (eqb-false x y q e)) (λ i. i) j in let f = bound-found xs (suc n) r y k in
    (suc f.0, omega (arith, f.1), ap (λ b. cond b (Some n) (lookup (bind_from xs (suc n) r) y)) q ∙ f.2 ∙ ap Some (let e : suc n + f.0 ≡ n + suc f.0 = omega arith in e)))
    (cases_Bool (x == y))

pub bound-other : (xs : List ℕ) (n : ℕ) (r : Env) (y : ℕ) → is_in xs y ≡ false → lookup (bind_from xs n r) y ≡ lookup r y
bound-other [] n r y h = refl
bound-other (x ∷ xs) n r y h =
    let p = or_false (x == y) (is_in xs y) h in
    ap (λ b. cond b (Some n) (lookup (bind_from xs (suc n) r) y)) p.0 ∙ bound-other xs (suc n) r y p.1
  where
    or_false : (a b : Bool) → (a || b) ≡ false → (a ≡ false) × (b ≡ false)
    or_false true b e = cc
    or_false false b e = (refl, e)

pub covers-bound : (st now : List Item) (xs : List ℕ) (n : ℕ) (r : Env) (ys : List ℕ) → Extends st now → ((i : ℕ) → i < length xs → VarAt now (n + i)) → ((y : ℕ) → IsIn y ys → is_in xs y ≡ false → Found st r y) → Covers now ys (bind_from xs n r)
covers-bound st now xs n r ys e at other y j =
    ⊎_elim
    (λ q. let f = bound-found xs n r y (in-tested xs y q) in (n + f.0, f.2, at f.0 f.1))
    (λ q. let f = other y j q in (f.0, bound-other xs n r y q ∙ f.1, e.vars_stay f.0 f.2))
    (cases_Bool (is_in xs y))

-- variables that are made
pub vars-at : (vs : List Value) (i : ℕ) → i < length vs → (v : Value) × (slice_get (vars vs) i ≡ Some (Var v))
vars-at [] i h = absurd (omega arith)
vars-at (v ∷ vs) zero h = (v, refl)
vars-at (v ∷ vs) (suc i) h = vars-at vs i (omega arith)

pub vars-no-closure : (vs : List Value) (m : ℕ) (r : Env) → IsIn (Clo m r) (vars vs) → ⊥
vars-no-closure [] m r i = absurd i
vars-no-closure (v ∷ vs) m r (inl e) = cc
vars-no-closure (v ∷ vs) m r (inr i) = vars-no-closure vs m r i

pub located-at : (xs : List ℕ) (is : List Item) (l i : ℕ) → i < length xs → (v : Value) × (slice_get (located xs l ++ is) i ≡ Some (Var v))
located-at [] is l i h = absurd (omega arith)
located-at (x ∷ xs) is l zero h = (At l, refl)
located-at (x ∷ xs) is l (suc i) h = located-at xs is (suc l) i (omega arith)

pub located-no-closure : (xs : List ℕ) (l m : ℕ) (r : Env) → IsIn (Clo m r) (located xs l) → ⊥
located-no-closure [] l m r i = absurd i
located-no-closure (x ∷ xs) l m r (inl e) = cc
located-no-closure (x ∷ xs) l m r (inr i) = located-no-closure xs (suc l) m r i

pub pairs-no-closure : (vs : List Value) (l m : ℕ) (r : Env) → IsIn (Clo m r) (list_items vs l) → ⊥
pairs-no-closure vs l m r = objects_only (list_objects vs l)
  where
    objects_only : (os : List Object) → IsIn (Clo m r) (map Obj os) → ⊥
    objects_only [] i = absurd i
    objects_only (o ∷ os) (inl e) = cc
    objects_only (o ∷ os) (inr i) = objects_only os i
