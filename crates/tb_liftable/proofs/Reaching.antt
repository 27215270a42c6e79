-- What a lambda expression comes to is found, and what is added to it.
use Rattle.std.proofs.Common.{◌≡◌, refl, sym, ap, ◌∙◌, subst, ℕ, zero, suc, ◌+◌, ◌<◌, ◌≤◌, ◌⊎◌, inl, inr, arith, Bool, true, false, cond, ◌==◌, nat_eq, drop, append-nil, drop_of_length-le, List, [], ◌∷◌, ◌++◌, length, slice_get, Option, Some, None, eqb-true}
use Rattle.std.proofs.lemmas.Bool.{eqb-false}
use mathlib.Core.Path.{fun_ext}
use Rattle.std.proofs.lemmas.Option.{slice_get_within}
use Rattle.std.specs.List.{list_any}
use Rattle.indexmap.specs.IndexSet.{insert_key}
use Rattle.tb_semantics.specs.Graph.{IsIn, IsClosed, Reaches, root, child, reaches, kept, below}
use Rattle.tb_semantics.proofs.ListLemmas.{get-left, get-some, in-left, in-right, in-cases}
use Rattle.tb_semantics.proofs.SameEnd.{either_le}
use Rattle.tb_semantics.proofs.Reachable.{reachable_kept}
use Rattle.tb_core.specs.FreeVariables.{of_lambdas}
use Rattle.tb_core.proofs.Members.{in-tested}
use Rattle.tb_core.proofs.FirstUses.{is_in-asked}
use Rattle.tb_liftable.specs.Procedures.{Procedures, Within}
use Rattle.tb_liftable.specs.Added.{member, plain, plain_by, called, called_by, calls_from, ascending, added_to}
use Rattle.tb_liftable.specs.calls.Reached.{Reached, Progress, inserted}
use Rattle.tb_liftable.proofs.Orders.{ascending-same}

-- one more key
stays_by : (ks : List ℕ) (x m : ℕ) → IsIn m ks → (b : Bool) → IsIn m (cond b ks (ks ++ x ∷ []))
stays_by ks x m i true = i
stays_by ks x m i false = in-left ks (x ∷ []) m i

key-stays : (ks : List ℕ) (x m : ℕ) → IsIn m ks → IsIn m (insert_key nat_eq ks x)
key-stays ks x m i = stays_by ks x m i (list_any (nat_eq x) ks)

there_by : (ks : List ℕ) (x : ℕ) (b : Bool) → list_any (nat_eq x) ks ≡ b → IsIn x (cond b ks (ks ++ x ∷ []))
there_by ks x true e = in-tested ks x (sym (is_in-asked ks x) ∙ e)
there_by ks x false e = in-right ks (x ∷ []) x (inl refl)

key-there : (ks : List ℕ) (x : ℕ) → IsIn x (insert_key nat_eq ks x)
key-there ks x = there_by ks x (list_any (nat_eq x) ks) refl

from_by : (ks : List ℕ) (x m : ℕ) (b : Bool) → IsIn m (cond b ks (ks ++ x ∷ [])) → IsIn m ks ⊎ (x ≡ m)
from_by ks x m true i = inl i
from_by ks x m false i = elim (in-cases ks (x ∷ []) m i) [ inl j ↦ inl j | inr j ↦ elim j [ inl e ↦ inr e | inr k ↦ absurd k ] ]

key-from : (ks : List ℕ) (x m : ℕ) → IsIn m (insert_key nat_eq ks x) → IsIn m ks ⊎ (x ≡ m)
key-from ks x m i = from_by ks x m (list_any (nat_eq x) ks) i

get_by : (ks : List ℕ) (x j m : ℕ) → slice_get ks j ≡ Some m → (b : Bool) → slice_get (cond b ks (ks ++ x ∷ [])) j ≡ Some m
get_by ks x j m e true = e
get_by ks x j m e false = get-left ks (x ∷ []) j m e

-- several
pub inserted-stays : (ks xs : List ℕ) (m : ℕ) → IsIn m ks → IsIn m (inserted ks xs)
inserted-stays ks [] m i = i
inserted-stays ks (x ∷ xs) m i = inserted-stays (insert_key nat_eq ks x) xs m (key-stays ks x m i)

pub inserted-there : (ks xs : List ℕ) (m : ℕ) → IsIn m xs → IsIn m (inserted ks xs)
inserted-there ks [] m i = absurd i
inserted-there ks (x ∷ xs) m (inl e) = inserted-stays (insert_key nat_eq ks x) xs m (subst (λ v. IsIn v (insert_key nat_eq ks x)) e (key-there ks x))
inserted-there ks (x ∷ xs) m (inr i) = inserted-there (insert_key nat_eq ks x) xs m i

pub inserted-from : (ks xs : List ℕ) (m : ℕ) → IsIn m (inserted ks xs) → IsIn m ks ⊎ IsIn m xs
inserted-from ks [] m i = inl i
inserted-from ks (x ∷ xs) m i =
    elim (inserted-from (insert_key nat_eq ks x) xs m i) [
      | inl j ↦ elim (key-from ks x m j) [ inl k ↦ inl k | inr e ↦ inr (inl e) ]
      | inr j ↦ inr (inr j)
    ]

pub inserted-get : (ks xs : List ℕ) (j m : ℕ) → slice_get ks j ≡ Some m → slice_get (inserted ks xs) j ≡ Some m
inserted-get ks [] j m e = e
inserted-get ks (x ∷ xs) j m e = inserted-get (insert_key nat_eq ks x) xs j m (get_by ks x j m e (list_any (nat_eq x) ks))

-- elements by index
get-in : (ks : List ℕ) (j m : ℕ) → slice_get ks j ≡ Some m → IsIn m ks
get-in [] j m e = absurd (let w = slice_get_within [] j m e in omega arith)
get-in (k ∷ ks) zero m e = inl (some_same e)
  where
    some_same : Some k ≡ Some m → k ≡ m
    some_same q = cc
get-in (k ∷ ks) (suc j) m e = inr (get-in ks j m e)

in-get : (ks : List ℕ) (m : ℕ) → IsIn m ks → (j : ℕ) × (slice_get ks j ≡ Some m)
in-get [] m i = absurd i
in-get (k ∷ ks) m (inl e) = (0, ap Some e)
in-get (k ∷ ks) m (inr i) = let r = in-get ks m i in (suc r.0, r.1)

pub past_end : (ks : List ℕ) (n : ℕ) → slice_get ks n ≡ None → length ks ≤ n
past_end ks n e = elim (either_le (length ks) n) [ inl l ↦ l | inr l ↦ at_end (n == length ks) refl l ]
  where
    at_end : (b : Bool) → (n == length ks) ≡ b → n ≤ length ks → length ks ≤ n
    at_end true q l = let f : n ≡ length ks = eqb-true n (length ks) q in omega arith
    at_end false q l =
        let f : n ≡ length ks → ⊥ = eqb-false n (length ks) q in
        let o = get-some ks n (omega arith) in
        absurd (clash o.0 (slice_get ks n) e o.1)
      where
        clash : (x : ℕ) (o : Option ℕ) → o ≡ None → o ≡ Some x → ⊥
        clash x o p q = cc

module _ (g : Procedures) (known : ℕ → Option ℕ) (l : ℕ) where
  pub begins : (ks : List ℕ) → ks ≡ l ∷ [] → Progress g known l 0 ks
  begins ks e = record {
    sound = λ m i. elim (subst (λ v. IsIn m v) e i) [ inl f ↦ subst (λ v. Reaches (calls_from g known l) v) f (root (inl refl)) | inr j ↦ absurd j ];
    start = subst (λ v. IsIn l v) (sym e) (inl refl);
    closed = λ j m c lt q i. absurd (omega arith);
  }

  same_some : (a b : ℕ) (o : Option ℕ) → o ≡ Some a → o ≡ Some b → a ≡ b
  same_some a b o p q = cc

  earlier : (j n : ℕ) → j < n + 1 → (j < n) ⊎ (j ≡ n)
  earlier j n h = elim (j == n) as (λ b. (j == n) ≡ b → (j < n) ⊎ (j ≡ n)) [ true ↦ (λ e. inr (eqb_true_nat j n e)) | false ↦ (λ e. inl (smaller e)) ] refl
    where
      eqb_true_nat : (a b : ℕ) → (a == b) ≡ true → a ≡ b
      eqb_true_nat a b e = eqb-true a b e

      smaller : (j == n) ≡ false → j < n
      smaller e = let q : j ≡ n → ⊥ = eqb-false j n e in omega arith

  pub goes_on : (next from : ℕ) (ks new : List ℕ) → Progress g known l next ks → slice_get ks next ≡ Some from → new ≡ inserted ks (called known (g.free from)) → Progress g known l (next + 1) new
  goes_on next from ks new p e n =
      let added = called known (g.free from) in
      let whole : Progress g known l (next + 1) (inserted ks added) = record {
        sound = λ m i. elim (inserted-from ks added m i) [ inl j ↦ p.sound m j | inr j ↦ child (p.sound from (get-in ks next from e)) j ];
        start = inserted-stays ks added l p.start;
        closed = λ j m c lt q i.
            elim (earlier j next lt) [
              | inl k ↦
                  let w = slice_get_within ks next from e in
                  let o = get-some ks j (omega arith) in
                  let f : o.0 ≡ m = same_some o.0 m (slice_get (inserted ks added) j) (inserted-get ks added j o.0 o.1) q in
                  inserted-stays ks added c (p.closed j m c k (o.1 ∙ ap Some f) i)
              | inr k ↦
                  let f : from ≡ m = same_some from m (slice_get (inserted ks added) j) (ap (slice_get (inserted ks added)) k ∙ inserted-get ks added next from e) q in
                  inserted-there ks added c (subst (λ v. IsIn c (called known (g.free v))) (sym f) i)
            ];
      } in
      subst (λ v. Progress g known l (next + 1) v) (sym n) whole

  all_in : (next : ℕ) (ks : List ℕ) → Progress g known l next ks → length ks ≤ next → (m : ℕ) → Reaches (calls_from g known l) m → IsIn m ks
  all_in next ks p le m (root i) = elim i [ inl f ↦ subst (λ v. IsIn v ks) f p.start | inr j ↦ absurd j ]
  all_in next ks p le m (child {k = k} r i) =
      let q = in-get ks k (all_in next ks p le k r) in
      let w = slice_get_within ks q.0 k q.1 in
      p.closed q.0 k m (omega arith) q.1 i

  pub ends : (next : ℕ) (ks : List ℕ) → Progress g known l next ks → length ks ≤ next → Reached g known l ks
  ends next ks p le = record { sound = p.sound; full = all_in next ks p le }

-- the variables of several lambda expressions
pub of_lambdas-in : (f : ℕ → List ℕ) (ls : List ℕ) (y : ℕ) → IsIn y (of_lambdas f ls) → (m : ℕ) × IsIn m ls × IsIn y (f m)
of_lambdas-in f [] y i = absurd i
of_lambdas-in f (l ∷ ls) y i =
    elim (in-cases (f l) (of_lambdas f ls) y i) [ inl j ↦ (l, inl refl, j) | inr j ↦ let r = of_lambdas-in f ls y j in (r.0, inr r.1, r.2) ]

pub in-of_lambdas : (f : ℕ → List ℕ) (ls : List ℕ) (y m : ℕ) → IsIn m ls → IsIn y (f m) → IsIn y (of_lambdas f ls)
in-of_lambdas f [] y m i j = absurd i
in-of_lambdas f (l ∷ ls) y m (inl e) j = in-left (f l) (of_lambdas f ls) y (subst (λ v. IsIn y (f v)) (sym e) j)
in-of_lambdas f (l ∷ ls) y m (inr i) j = in-right (f l) (of_lambdas f ls) y (in-of_lambdas f ls y m i j)

plain_in : (o : Option ℕ) (x : ℕ) (xs rest : List ℕ) (y : ℕ) → (IsIn y rest → IsIn y xs) → IsIn y (plain_by o x rest) → IsIn y (x ∷ xs)
plain_in None x xs rest y h (inl e) = inl e
plain_in None x xs rest y h (inr i) = inr (h i)
plain_in (Some l) x xs rest y h i = inr (h i)

pub plain-free : (known : ℕ → Option ℕ) (xs : List ℕ) (y : ℕ) → IsIn y (plain known xs) → IsIn y xs
plain-free known [] y i = i
plain-free known (x ∷ xs) y i = plain_in (known x) x xs (plain known xs) y (plain-free known xs y) i

called_in : (o : Option ℕ) (x : ℕ) (xs rest : List ℕ) (m : ℕ) → (IsIn m rest → (y : ℕ) × IsIn y xs) → IsIn m (called_by o rest) → (y : ℕ) × IsIn y (x ∷ xs)
called_in o x xs rest m h i = (x, inl refl)

called-free : (known : ℕ → Option ℕ) (xs : List ℕ) (m : ℕ) → IsIn m (called known xs) → (y : ℕ) × IsIn y xs
called-free known [] m i = absurd i
called-free known (x ∷ xs) m i = (x, inl refl)

pub closed_calls : (g : Procedures) (known : ℕ → Option ℕ) (l : ℕ) → Within g → IsClosed (calls_from g known l)
closed_calls g known l w k m i = let r = called-free known (g.free k) m i in w.below k r.0 r.1

found : (g : Procedures) (set : List ℕ) (l : ℕ) (ks : List ℕ) → Within g → Reached g (member g set) l ks → ascending (of_lambdas (λ m. plain (member g set) (g.free m)) ks) ≡ added_to g set l
unfolding added_to
found g set l ks w r =
    let known = member g set in
    let f : ℕ → List ℕ = λ m. plain known (g.free m) in
    let graph = calls_from g known l in
    let nodes = kept (reaches graph) (below graph.count) in
    let exact = reachable_kept graph (closed_calls g known l w) in
    ascending-same (of_lambdas f ks) (of_lambdas f nodes)
    (λ z i. let o = of_lambdas-in f ks z i in in-of_lambdas f nodes z o.0 (exact.full o.0 (w.below o.0 z (plain-free known (g.free o.0) z o.2)) (r.sound o.0 o.1)) o.2)
    (λ z i. let o = of_lambdas-in f nodes z i in in-of_lambdas f ks z o.0 (r.full o.0 ((exact.sound o.0 o.1).1)) o.2)

pub added-found : (g : Procedures) (set : List ℕ) (known : ℕ → Option ℕ) (l : ℕ) (ks all : List ℕ) → Within g → ((x : ℕ) → known x ≡ member g set x) → Reached g known l ks → all ≡ of_lambdas (λ m. plain known (g.free m)) ks → ascending all ≡ added_to g set l
added-found g set known l ks all w e r a =
    let P : (ℕ → Option ℕ) → Type 0 = λ k. Reached g k l ks → ascending (of_lambdas (λ m. plain k (g.free m)) ks) ≡ added_to g set l in
    let same : known ≡ member g set = fun_ext e in
    let q : P known = subst P (sym same) (found g set l ks w) in
    ap ascending a ∙ q r

-- the end of the loop over them
pub all_done : (f : ℕ → List ℕ) (ls : List ℕ) (i : ℕ) (all : List ℕ) → length ls ≤ i → all ++ of_lambdas f (drop i ls) ≡ of_lambdas f ls → all ≡ of_lambdas f ls
all_done f ls i all le e = sym (append-nil all) ∙ (ap (λ v. all ++ of_lambdas f v) (sym (drop_of_length-le ls le)) ∙ e)
