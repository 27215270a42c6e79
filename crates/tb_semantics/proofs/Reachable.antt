-- The size of what can be reached, and how those of two graphs compare.
use Rattle.std.proofs.Common.{◌≡◌, ℕ, zero, suc, ◌+◌, ◌*◌, ◌<◌, ◌≤◌, Bool, true, false, cond, ◌==◌, ◌||◌, ◌⊎◌, List, [], ◌∷◌, refl, sym, ap, ◌∙◌, subst, inl, inr, ⊎_elim, arith, eqb-true, eq-eqb}
use Rattle.std.proofs.lemmas.Bool.{or_cases, and_parts, and_from, cases_Bool, cases_eq}
use Rattle.tb_semantics.specs.Graph.{IsIn, IsApart, IsClosed, ListsReachable, Graph, Reaches, root, child, has, joined, below, from_some, reaches, kept, sum_of, total, with_roots}

or_left : (a b : Bool) → a ≡ true → (a || b) ≡ true
or_left a b e = rw e refl

or_right : (a b : Bool) → b ≡ true → (a || b) ≡ true
or_right true b e = refl
or_right false b e = e

pub has_in : (xs : List ℕ) (x : ℕ) → has xs x ≡ true → IsIn x xs
has_in [] x e = cc
has_in (y ∷ ys) x e = ⊎_elim (λ h. inl (eqb-true y x h)) (λ h. inr (has_in ys x h)) (or_cases (y == x) (has ys x) e)

pub in_has : (xs : List ℕ) (x : ℕ) → IsIn x xs → has xs x ≡ true
in_has [] x h = absurd h
in_has (y ∷ ys) x (inl e) = or_left (y == x) (has ys x) (eq-eqb y x e)
in_has (y ∷ ys) x (inr h) = or_right (y == x) (has ys x) (in_has ys x h)

pub below_in : (n l : ℕ) → l < n → IsIn l (below n)
below_in zero l h = absurd (omega arith)
below_in (suc n) l h = elim (cases_eq n l) [ inl e ↦ inl e | inr ne ↦ inr (below_in n l (omega arith)) ]

-- a path through nodes of the list
data Path (next : ℕ → List ℕ) (us : List ℕ) (a : ℕ) : ℕ → Type 0 where
  edge : {b : ℕ} → IsIn b (next a) → Path next us a b
  via : {m b : ℕ} → Path next us a m → IsIn m us → IsIn b (next m) → Path next us a b

-- without the first node, or to it and from it
around : (next : ℕ → List ℕ) (u : ℕ) (us : List ℕ) (a b : ℕ) → Path next (u ∷ us) a b →
    Path next us a b ⊎ (Path next us a u × Path next us u b)
around next u us a b (edge e) = inl (edge e)
around next u us a b (via {m = m} p (inl q) e) =
    let last : Path next us u b = edge (subst (λ k. IsIn b (next k)) (sym q) e) in
    ⊎_elim
    (λ h. inr (subst (λ k. Path next us a k) (sym q) h, last))
    (λ h. inr (h.0, last))
    (around next u us a m p)
around next u us a b (via {m = m} p (inr i) e) =
    ⊎_elim (λ h. inl (via h i e)) (λ h. inr (h.0, via h.1 i e)) (around next u us a m p)

path_joined : (next : ℕ → List ℕ) (us : List ℕ) (a b : ℕ) → Path next us a b → joined next us a b ≡ true
path_joined next [] a b (edge e) = in_has (next a) b e
path_joined next [] a b (via p i e) = absurd i
path_joined next (u ∷ us) a b p =
    ⊎_elim
    (λ h. or_left _ _ (path_joined next us a b h))
    (λ h. or_right _ _ (and_from _ _ (path_joined next us a u h.0) (path_joined next us u b h.1)))
    (around next u us a b p)

joined_reaches : (g : Graph) (us : List ℕ) (a b : ℕ) → joined g.next us a b ≡ true → Reaches g a → Reaches g b
joined_reaches g [] a b e r = child r (has_in (g.next a) b e)
joined_reaches g (u ∷ us) a b e r =
    ⊎_elim
    (λ h. joined_reaches g us a b h r)
    (λ h. let p = and_parts (joined g.next us a u) (joined g.next us u b) h in joined_reaches g us u b p.1 (joined_reaches g us a u p.0 r))
    (or_cases (joined g.next us a b) _ e)

from_some_reaches : (g : Graph) (us rs : List ℕ) (l : ℕ) → ((r : ℕ) → IsIn r rs → Reaches g r) →
    from_some g.next us rs l ≡ true → Reaches g l
from_some_reaches g us [] l all e = cc
from_some_reaches g us (r ∷ rs) l all e =
    ⊎_elim
    (λ h. ⊎_elim (λ q. subst (Reaches g) (eqb-true r l q) (all r (inl refl))) (λ q. joined_reaches g us r l q (all r (inl refl))) (or_cases (r == l) _ h))
    (λ h. from_some_reaches g us rs l (λ s i. all s (inr i)) h)
    (or_cases ((r == l) || joined g.next us r l) _ e)

reaches_from_some : (g : Graph) (us rs : List ℕ) (r l : ℕ) → IsIn r rs → (r ≡ l) ⊎ Path g.next us r l →
    from_some g.next us rs l ≡ true
reaches_from_some g us [] r l i p = absurd i
reaches_from_some g us (x ∷ rs) r l (inr i) p = or_right _ _ (reaches_from_some g us rs r l i p)
reaches_from_some g us (x ∷ rs) r l (inl i) (inl e) = or_left _ _ (or_left _ _ (eq-eqb x l (i ∙ e)))
reaches_from_some g us (x ∷ rs) r l (inl i) (inr p) = or_left _ _ (or_right _ _ (path_joined g.next us x l (subst (λ k. Path g.next us k l) (sym i) p)))

start_of : (g : Graph) → IsClosed g → (l : ℕ) → Reaches g l →
    (r : ℕ) × IsIn r g.roots × ((r ≡ l) ⊎ Path g.next (below g.count) r l)
start_of g closed l (root i) = (l, i, inl refl)
start_of g closed l (child {k = k} p i) =
    let s = start_of g closed k p in (
      s.0,
      s.1,
      ⊎_elim
          (λ e. inr (edge (subst (λ m. IsIn l (g.next m)) (sym e) i)))
          (λ q. inr (via q (below_in g.count k (closed k l i)) i))
          s.2,
    )

pub reaches-true : (g : Graph) (l : ℕ) → reaches g l ≡ true → Reaches g l
unfolding reaches
reaches-true g l e = from_some_reaches g (below g.count) g.roots l (λ r i. root i) e

pub Reaches-reaches : (g : Graph) → IsClosed g → (l : ℕ) → Reaches g l → reaches g l ≡ true
unfolding reaches
Reaches-reaches g closed l p = let s = start_of g closed l p in reaches_from_some g (below g.count) g.roots s.0 l s.1 s.2

-- lists by partners
dropped : (x : ℕ) (xs : List ℕ) → IsIn x xs → List ℕ
dropped x [] i = absurd i
dropped x (y ∷ ys) (inl e) = ys
dropped x (y ∷ ys) (inr i) = y ∷ dropped x ys i

sum_of-dropped : (f : ℕ → ℕ) (x : ℕ) (xs : List ℕ) (i : IsIn x xs) → sum_of f xs ≡ f x + sum_of f (dropped x xs i)
unfolding dropped
sum_of-dropped f x [] i = absurd i
sum_of-dropped f x (y ∷ ys) (inl e) = ap (λ z. f z + sum_of f ys) e
sum_of-dropped f x (y ∷ ys) (inr i) = let h = sum_of-dropped f x ys i in omega arith

in-dropped : (x z : ℕ) (xs : List ℕ) (i : IsIn x xs) → (x ≡ z → ⊥) → IsIn z xs → IsIn z (dropped x xs i)
unfolding dropped
in-dropped x z [] i ne j = absurd i
in-dropped x z (y ∷ ys) (inl e) ne (inl j) = absurd (ne (sym e ∙ j))
in-dropped x z (y ∷ ys) (inl e) ne (inr j) = j
in-dropped x z (y ∷ ys) (inr i) ne (inl j) = inl j
in-dropped x z (y ∷ ys) (inr i) ne (inr j) = inr (in-dropped x z ys i ne j)

module _ (P : ℕ → ℕ → Type 0) (small large : ℕ → ℕ) (apart : (a b s : ℕ) → P a s → P b s → a ≡ b) where
  abbrev pub HasPartner : List ℕ → ℕ → Type 0
  HasPartner ss t = (s : ℕ) × IsIn s ss × P t s × (small t ≤ large s)

  partner_stays : (t : ℕ) (ss : List ℕ) (p : HasPartner ss t) (u : ℕ) → (t ≡ u → ⊥) → HasPartner ss u →
      HasPartner (dropped p.0 ss p.1) u
  partner_stays t ss p u ne q = (q.0, in-dropped p.0 q.0 ss p.1 (λ e. ne (apart t u q.0 (subst (P t) e p.2) q.2)) q.1, q.2, q.3)

  not_first : (t : ℕ) (ts : List ℕ) → (IsIn t ts → ⊥) → (u : ℕ) → IsIn u ts → t ≡ u → ⊥
  not_first t ts n u i e = n (subst (λ v. IsIn v ts) (sym e) i)

  pub sum_by_partners : (ts ss : List ℕ) → IsApart ts → ((t : ℕ) → IsIn t ts → HasPartner ss t) →
      sum_of small ts ≤ sum_of large ss
  sum_by_partners [] ss ap_ts f = omega arith
  sum_by_partners (t ∷ ts) ss a f =
      let p = f t (inl refl) in
      let rest = sum_by_partners ts (dropped p.0 ss p.1) a.1 (λ u i. partner_stays t ss p u (not_first t ts a.0 u i) (f u (inr i))) in
      let e = sum_of-dropped large p.0 ss p.1 in
      let le = p.3 in
      omega arith

  -- one element at most has no partner
  pub sum_by_partners_but : (d odd : ℕ) (ts ss : List ℕ) → IsApart ts → small odd ≤ d →
      ((t : ℕ) → IsIn t ts → (t ≡ odd) ⊎ HasPartner ss t) → sum_of small ts ≤ sum_of large ss + d
  sum_by_partners_but d odd [] ss a le f = omega arith
  sum_by_partners_but d odd (t ∷ ts) ss a le f =
      ⊎_elim
      (λ e.
      let rest = sum_by_partners ts ss a.1 (λ u i. ⊎_elim (λ q. absurd (not_first t ts a.0 u i (e ∙ sym q))) (λ q. q) (f u (inr i))) in
      let same = ap small e in
      omega arith)
      (λ p.
      let rest = sum_by_partners_but d odd ts (dropped p.0 ss p.1) a.1 le (λ u i. ⊎_elim inl (λ q. inr (partner_stays t ss p u (not_first t ts a.0 u i) q)) (f u (inr i))) in
      let e = sum_of-dropped large p.0 ss p.1 in
      let le' = p.3 in
      omega arith)
      (f t (inl refl))

in_kept : (test : ℕ → Bool) (xs : List ℕ) (x : ℕ) → IsIn x xs → test x ≡ true → IsIn x (kept test xs)
in_kept test [] x i e = absurd i
in_kept test (y ∷ ys) x (inl i) e =
    subst (λ b. IsIn x (cond b (y ∷ kept test ys) (kept test ys))) (sym e ∙ ap test (sym i)) (inl i)
in_kept test (y ∷ ys) x (inr i) e =
    let rest = in_kept test ys x i e in
    elim (test y) as (λ b. IsIn x (cond b (y ∷ kept test ys) (kept test ys))) [ true ↦ inr rest | false ↦ rest ]

kept_in : (test : ℕ → Bool) (xs : List ℕ) (x : ℕ) → IsIn x (kept test xs) → IsIn x xs × (test x ≡ true)
kept_in test [] x i = absurd i
kept_in test (y ∷ ys) x i =
    ⊎_elim
    (λ e.
    let j : IsIn x (y ∷ kept test ys) = subst (λ b. IsIn x (cond b (y ∷ kept test ys) (kept test ys))) e i in
    ⊎_elim (λ q. (inl q, ap test (sym q) ∙ e)) (λ q. let h = kept_in test ys x q in (inr h.0, h.1)) j)
    (λ e.
    let j : IsIn x (kept test ys) = subst (λ b. IsIn x (cond b (y ∷ kept test ys) (kept test ys))) e i in
    let h = kept_in test ys x j in (inr h.0, h.1))
    (cases_Bool (test y))

apart_kept : (test : ℕ → Bool) (xs : List ℕ) → IsApart xs → IsApart (kept test xs)
apart_kept test [] a = tt
apart_kept test (x ∷ xs) a =
    elim (test x) as (λ b. IsApart (cond b (x ∷ kept test xs) (kept test xs))) [
      | true ↦ (λ i. a.0 (kept_in test xs x i).0, apart_kept test xs a.1)
      | false ↦ apart_kept test xs a.1
    ]

pub in_below : (n l : ℕ) → IsIn l (below n) → l < n
in_below zero l i = absurd i
in_below (suc n) l (inl e) = omega arith
in_below (suc n) l (inr i) = let h = in_below n l i in omega arith

pub apart_below : (n : ℕ) → IsApart (below n)
apart_below zero = tt
apart_below (suc n) = (λ i. let h = in_below n n i in absurd (omega arith), apart_below n)

-- each reachable node, apart from one at most, has a partner
abbrev pub HasMatch : (ℕ → ℕ → Type 0) → Graph → ℕ → Type 0
HasMatch P s a = (b : ℕ) × Reaches s b × P a b

module _ (P : ℕ → ℕ → Type 0) (small large : ℕ → ℕ) (t s : Graph) (closed : IsClosed s) (apart : (a b c : ℕ) → P a c → P b c → a ≡ b) (within : (a b : ℕ) → P a b → b < s.count) (sizes : (a b : ℕ) → P a b → small a ≤ large b) where
  partner_of : (a : ℕ) → HasMatch P s a → HasPartner P small large apart (kept (reaches s) (below s.count)) a
  partner_of a m = (m.0, in_kept (reaches s) (below s.count) m.0 (below_in s.count m.0 (within a m.0 m.2)) (Reaches-reaches s closed m.0 m.1), m.2, sizes a m.0 m.2)

  pub total_by_partners : ((a : ℕ) → Reaches t a → HasMatch P s a) → total small t ≤ total large s
  unfolding total
  total_by_partners cover =
      sum_by_partners P small large apart (kept (reaches t) (below t.count)) (kept (reaches s) (below s.count))
      (apart_kept (reaches t) (below t.count) (apart_below t.count))
      (λ a i. partner_of a (cover a (reaches-true t a (kept_in (reaches t) (below t.count) a i).1)))

  pub total_by_partners_but : (d odd : ℕ) → small odd ≤ d → ((a : ℕ) → Reaches t a → (a ≡ odd) ⊎ HasMatch P s a) →
      total small t ≤ total large s + d
  unfolding total
  total_by_partners_but d odd le cover =
      sum_by_partners_but P small large apart d odd (kept (reaches t) (below t.count)) (kept (reaches s) (below s.count))
      (apart_kept (reaches t) (below t.count) (apart_below t.count)) le
      (λ a i. ⊎_elim inl (λ m. inr (partner_of a m)) (cover a (reaches-true t a (kept_in (reaches t) (below t.count) a i).1)))

-- from roots and edges alone
pub covers : (P : ℕ → ℕ → Type 0) (t s : Graph) → ((a : ℕ) → IsIn a t.roots → HasMatch P s a) →
    ((a b c : ℕ) → P a b → Reaches s b → IsIn c (t.next a) → HasMatch P s c) → (a : ℕ) → Reaches t a → HasMatch P s a
covers P t s roots next a (root i) = roots a i
covers P t s roots next a (child {k = k} p i) = let m = covers P t s roots next k p in next k m.0 a m.2 m.1 i

-- the sum over any list of the reachable nodes, each once
pub total-unique : (size : ℕ → ℕ) (g : Graph) (xs : List ℕ) → IsClosed g → ListsReachable g xs →
    sum_of size xs ≡ total size g
unfolding total
total-unique size g xs closed r =
    let P : ℕ → ℕ → Type 0 = λ m n. m ≡ n in
    let ap_P : (x y z : ℕ) → P x z → P y z → x ≡ y = λ x y z p q. p ∙ sym q in
    let all = kept (reaches g) (below g.count) in
    let le = sum_by_partners P size size ap_P xs all r.apart (λ l i. let h = r.sound l i in (l, in_kept (reaches g) (below g.count) l (below_in g.count l h.0) (Reaches-reaches g closed l h.1), refl, omega arith)) in
    let ge = sum_by_partners P size size ap_P all xs (apart_kept (reaches g) (below g.count) (apart_below g.count)) (λ l i. let h = kept_in (reaches g) (below g.count) l i in (l, r.full l (in_below g.count l h.0) (reaches-true g l h.1), refl, omega arith)) in
    omega arith

sum_kept : (size : ℕ → ℕ) (test : ℕ → Bool) (xs : List ℕ) → sum_of size (kept test xs) ≤ sum_of size xs
sum_kept size test [] = omega arith
sum_kept size test (x ∷ xs) =
    let h = sum_kept size test xs in
    elim (test x) as (λ b. sum_of size (cond b (x ∷ kept test xs) (kept test xs)) ≤ sum_of size (x ∷ xs)) [ true ↦ omega arith | false ↦ omega arith ]

-- what can be reached is no more than what there is
pub total-within : (size : ℕ → ℕ) (g : Graph) → total size g ≤ sum_of size (below g.count)
unfolding total
total-within size g = sum_kept size (reaches g) (below g.count)

-- nodes of two graphs stand for one another: one node of the first at most for a node of the second, which is no
-- smaller; what the first reaches at once stands for something that the second reaches, and so does each node that
-- one which stands for something leads to
pub record Partners (P : ℕ → ℕ → Type 0) (small large : ℕ → ℕ) (t s : Graph) : Type 0 where
  pub one_each : (a b c : ℕ) → P a c → P b c → a ≡ b
  pub within : (a b : ℕ) → P a b → b < s.count
  pub sizes : (a b : ℕ) → P a b → small a ≤ large b
  pub at_roots : (a : ℕ) → IsIn a t.roots → HasMatch P s a
  pub at_edges : (a b c : ℕ) → P a b → Reaches s b → IsIn c (t.next a) → HasMatch P s c

-- the first graph then reaches no more
pub total-partners : (P : ℕ → ℕ → Type 0) (small large : ℕ → ℕ) (t s : Graph) → IsClosed s →
    Partners P small large t s → total small t ≤ total large s
total-partners P small large t s closed h =
    total_by_partners P small large t s closed h.one_each h.within h.sizes (covers P t s h.at_roots h.at_edges)

-- the same where one odd node of the first may be a root and stand for nothing; it leads to what stands for something
pub record PartnersBut (P : ℕ → ℕ → Type 0) (small large : ℕ → ℕ) (t s : Graph) (odd : ℕ) : Type 0 where
  pub one_each : (a b c : ℕ) → P a c → P b c → a ≡ b
  pub within : (a b : ℕ) → P a b → b < s.count
  pub sizes : (a b : ℕ) → P a b → small a ≤ large b
  pub at_roots : (a : ℕ) → IsIn a t.roots → (a ≡ odd) ⊎ HasMatch P s a
  pub at_edges : (a b c : ℕ) → P a b → Reaches s b → IsIn c (t.next a) → HasMatch P s c
  pub odd_edges : (c : ℕ) → IsIn c (t.next odd) → HasMatch P s c

covers_but : (P : ℕ → ℕ → Type 0) (small large : ℕ → ℕ) (t s : Graph) (odd : ℕ) → PartnersBut P small large t s odd →
    (a : ℕ) → Reaches t a → (a ≡ odd) ⊎ HasMatch P s a
covers_but P small large t s odd h a (root i) = h.at_roots a i
covers_but P small large t s odd h a (child {k = k} p i) =
    ⊎_elim
    (λ e. inr (h.odd_edges a (subst (λ k. IsIn a (t.next k)) e i)))
    (λ m. inr (h.at_edges k m.0 a m.2 m.1 i))
    (covers_but P small large t s odd h k p)

-- the first graph then reaches no more than the second and that node
pub total-partners_but : (P : ℕ → ℕ → Type 0) (small large : ℕ → ℕ) (t s : Graph) (odd : ℕ) → IsClosed s →
    PartnersBut P small large t s odd → total small t ≤ total large s + small odd
total-partners_but P small large t s odd closed h =
    total_by_partners_but P small large t s closed h.one_each h.within h.sizes (small odd) odd (omega arith) (covers_but P small large t s odd h)

kept_step : (size : ℕ → ℕ) (x : ℕ) (xs ys : List ℕ) (a b : Bool) → (a ≡ true → b ≡ true) →
    sum_of size xs ≤ sum_of size ys → sum_of size (cond a (x ∷ xs) xs) ≤ sum_of size (cond b (x ∷ ys) ys)
kept_step size x xs ys true true h le = omega arith
kept_step size x xs ys true false h le = let no_way = h refl in cc
kept_step size x xs ys false true h le = omega arith
kept_step size x xs ys false false h le = le

kept_more : (f g : ℕ → Bool) (size : ℕ → ℕ) → ((x : ℕ) → f x ≡ true → g x ≡ true) → (xs : List ℕ) →
    sum_of size (kept f xs) ≤ sum_of size (kept g xs)
kept_more f g size h [] = omega arith
kept_more f g size h (x ∷ xs) = kept_step size x _ _ (f x) (g x) (h x) (kept_more f g size h xs)

-- where a graph reaches another's roots, over the same nodes and edges, it reaches all that the other does
pub reaches-more : (g : Graph) (ss : List ℕ) → ((l : ℕ) → IsIn l g.roots → Reaches (with_roots g ss) l) → (l : ℕ) →
    Reaches g l → Reaches (with_roots g ss) l
reaches-more g ss h l (root i) = h l i
reaches-more g ss h l (child p i) = child (reaches-more g ss h _ p) i

-- so it reaches no less
pub total-more : (size : ℕ → ℕ) (g : Graph) (ss : List ℕ) → IsClosed g →
    ((l : ℕ) → IsIn l g.roots → Reaches (with_roots g ss) l) → total size g ≤ total size (with_roots g ss)
unfolding total
total-more size g ss closed h =
    kept_more (reaches g) (reaches (with_roots g ss)) size
    (λ x e. Reaches-reaches (with_roots g ss) closed x (reaches-more g ss h x (reaches-true g x e))) (below g.count)

sum_of-scaled : (factor : ℕ) (size : ℕ → ℕ) (xs : List ℕ) → sum_of (λ l. factor * size l) xs ≡ factor * sum_of size xs
sum_of-scaled factor size [] = omega arith
sum_of-scaled factor size (x ∷ xs) = let h = sum_of-scaled factor size xs in omega arith

-- sizes that are multiples
pub total-scaled : (factor : ℕ) (size : ℕ → ℕ) (g : Graph) → total (λ l. factor * size l) g ≡ factor * total size g
unfolding total
total-scaled factor size g = sum_of-scaled factor size (kept (reaches g) (below g.count))

-- the nodes that the test lets pass are exactly those that can be reached, each once
pub reachable_kept : (g : Graph) → IsClosed g → ListsReachable g (kept (reaches g) (below g.count))
reachable_kept g closed = record {
  apart = apart_kept (reaches g) (below g.count) (apart_below g.count);
  sound = λ l i. let h = kept_in (reaches g) (below g.count) l i in (in_below g.count l h.0, reaches-true g l h.1);
  full = λ l lt r. in_kept (reaches g) (below g.count) l (below_in g.count l lt) (Reaches-reaches g closed l r);
}
