-- A search that notes the targets of one found address after the other comes to all that can be reached.
use Rattle.std.proofs.Common.{◌≡◌, ℕ, zero, suc, ◌+◌, ◌<◌, ◌≤◌, ◌⊎◌, true, false, not, cond, nat_lt, ◌&&◌, List, [], ◌∷◌, ◌++◌, length, slice_get, Some, refl, sym, ap, ◌∙◌, subst, inl, inr, ⊎_elim, arith}
use Rattle.std.proofs.lemmas.Bool.{and_parts, and_from, cases_Bool, cases_lt}
use Rattle.std.proofs.lemmas.Bool.Decides.{nat_tests}
use Rattle.tb_semantics.specs.Graph.{IsIn, IsClosed, ListsReachable, Reaches, root, child, has}
use Rattle.tb_semantics.proofs.ListLemmas.{get-left, get-some, in-cases, in-left, in-right}
use Rattle.tb_semantics.proofs.Reachable.{has_in}
use Rattle.tb_mac.specs.declared.word.Word.{Word}
use Rattle.tb_mac.specs.LiveWords.{pointing_words, targets_from}
use Rattle.tb_space.specs.calls.Noting.{is_apart, noted, noted_all}
use Rattle.tb_space.specs.calls.Roots.{heap_graph}
use Rattle.tb_space.proofs.Marks.{IsApart-by_test}
use Rattle.tb_space.proofs.Notings.{targets-beyond}

lt_true : (a b : ℕ) → a < b → nat_lt a b ≡ true
lt_true a b h = grind (arith, nat_tests)

true_lt : (a b : ℕ) → nat_lt a b ≡ true → a < b
true_lt a b h = grind (arith, nat_tests)

-- an address is noted, or was found before, or is no address below the limit
noted-keeps : (limit : ℕ) (found : List ℕ) (a x : ℕ) → IsIn x found → IsIn x (noted limit found a)
noted-keeps limit found a x i =
    elim (nat_lt a limit && not (has found a)) as (λ b. IsIn x (cond b (found ++ a ∷ []) found)) [ true ↦ in-left found (a ∷ []) x i | false ↦ i ]

noted-cases : (limit : ℕ) (found : List ℕ) (a x : ℕ) → IsIn x (noted limit found a) → IsIn x found ⊎ ((a ≡ x) × (x < limit))
noted-cases limit found a x i =
    ⊎_elim
    (λ t.
    let j : IsIn x (found ++ a ∷ []) = subst (λ b. IsIn x (cond b (found ++ a ∷ []) found)) t i in
    let p = and_parts (nat_lt a limit) (not (has found a)) t in
    ⊎_elim inl (λ k. ⊎_elim (λ e. inr (e, subst (λ y. y < limit) e (true_lt a limit p.0))) (λ v. absurd v) k) (in-cases found (a ∷ []) x j))
    (λ f. inl (subst (λ b. IsIn x (cond b (found ++ a ∷ []) found)) f i))
    (cases_Bool (nat_lt a limit && not (has found a)))

noted-has : (limit : ℕ) (found : List ℕ) (a : ℕ) → a < limit → IsIn a (noted limit found a)
noted-has limit found a lt =
    ⊎_elim
    (λ t. noted-keeps limit found a a (has_in found a t))
    (λ f.
    let h : (nat_lt a limit && not (has found a)) ≡ true = and_from _ _ (lt_true a limit lt) (ap not f) in
    subst (λ b. IsIn a (cond b (found ++ a ∷ []) found)) (sym h) (in-right found (a ∷ []) a (inl refl)))
    (cases_Bool (has found a))

noted-get : (limit : ℕ) (found : List ℕ) (a i x : ℕ) → slice_get found i ≡ Some x → slice_get (noted limit found a) i ≡ Some x
noted-get limit found a i x e =
    elim (nat_lt a limit && not (has found a)) as (λ b. slice_get (cond b (found ++ a ∷ []) found) i ≡ Some x) [ true ↦ get-left found (a ∷ []) i x e | false ↦ e ]

pub all-keep : (limit : ℕ) (found rs : List ℕ) (x : ℕ) → IsIn x found → IsIn x (noted_all limit found rs)
all-keep limit found [] x i = i
all-keep limit found (a ∷ rs) x i = all-keep limit (noted limit found a) rs x (noted-keeps limit found a x i)

pub all-cases : (limit : ℕ) (found rs : List ℕ) (x : ℕ) → IsIn x (noted_all limit found rs) → IsIn x found ⊎ (IsIn x rs × (x < limit))
all-cases limit found [] x i = inl i
all-cases limit found (a ∷ rs) x i =
    ⊎_elim
    (λ j. ⊎_elim inl (λ k. inr (inl k.0, k.1)) (noted-cases limit found a x j))
    (λ j. inr (inr j.0, j.1))
    (all-cases limit (noted limit found a) rs x i)

pub all-have : (limit : ℕ) (found rs : List ℕ) (x : ℕ) → IsIn x rs → x < limit → IsIn x (noted_all limit found rs)
all-have limit found [] x i lt = absurd i
all-have limit found (a ∷ rs) x (inl e) lt =
    let l : a < limit = omega arith in
    all-keep limit (noted limit found a) rs x (subst (λ y. IsIn y (noted limit found a)) e (noted-has limit found a l))
all-have limit found (a ∷ rs) x (inr i) lt = all-have limit (noted limit found a) rs x i lt

all-get : (limit : ℕ) (found rs : List ℕ) (i x : ℕ) → slice_get found i ≡ Some x → slice_get (noted_all limit found rs) i ≡ Some x
all-get limit found [] i x e = e
all-get limit found (a ∷ rs) i x e = all-get limit (noted limit found a) rs i x (noted-get limit found a i x e)

pub get-in : (xs : List ℕ) (i x : ℕ) → slice_get xs i ≡ Some x → IsIn x xs
get-in [] i x e = cc
get-in (y ∷ xs) zero x e = let h : y ≡ x = cc in inl h
get-in (y ∷ xs) (suc i) x e = inr (get-in xs i x e)

in-get : (xs : List ℕ) (x : ℕ) → IsIn x xs → (i : ℕ) × (i < length xs) × (slice_get xs i ≡ Some x)
in-get [] x i = absurd i
in-get (y ∷ xs) x (inl e) = (0, omega arith, ap Some e)
in-get (y ∷ xs) x (inr j) = let h = in-get xs x j in (suc h.0, omega (arith, h.1), h.2)

-- where an object points to
abbrev pub leads : List Word → ℕ → List ℕ
leads heap a = targets_from heap a (pointing_words (slice_get heap a))

pub closed-heap : (heap : List Word) (roots : List ℕ) → IsClosed (heap_graph heap roots)
closed-heap heap roots k l i =
    ⊎_elim (λ lt. lt) (λ ge. absurd (subst (IsIn l) (targets-beyond heap k (pointing_words (slice_get heap k)) ge) i)) (cases_lt k (length heap))

-- the targets of the addresses before number `next` were noted
pub record Following (heap : List Word) (limit : ℕ) (first found : List ℕ) (next : ℕ) : Type 0 where
  pub grows : (a : ℕ) → IsIn a first → IsIn a found
  pub reached : (a : ℕ) → IsIn a found → Reaches (heap_graph heap first) a
  pub low : ((a : ℕ) → IsIn a first → a < limit) → (a : ℕ) → IsIn a found → a < limit
  pub closed : (i a b : ℕ) → i < next → slice_get found i ≡ Some a → IsIn b (leads heap a) → b < limit → IsIn b found

pub following-start : (heap : List Word) (limit : ℕ) (first : List ℕ) → Following heap limit first first 0
following-start heap limit first = record {
  grows = λ a i. i;
  reached = λ a i. root i;
  low = λ h a i. h a i;
  closed = λ i a b lt e j l. absurd (omega arith);
}

pub following-step : (heap : List Word) (limit : ℕ) (first found found' : List ℕ) (next at : ℕ) → slice_get found next ≡ Some at →
    next < length found → found' ≡ noted_all limit found (leads heap at) → Following heap limit first found next →
    Following heap limit first found' (next + 1)
following-step heap limit first found found' next at e in' q f =
    let new = noted_all limit found (leads heap at) in
    let made : Following heap limit first new (next + 1) = record {
      grows = λ a i. all-keep limit found (leads heap at) a (f.grows a i);
      reached = λ a i. ⊎_elim (f.reached a) (λ j. child (f.reached at (get-in found next at e)) j.0) (all-cases limit found (leads heap at) a i);
      low = λ h a i. ⊎_elim (f.low h a) (λ j. j.1) (all-cases limit found (leads heap at) a i);
      closed = λ i a b lt g j l.
          let old = get-some found i (omega arith) in
          let same : old.0 ≡ a = let h = all-get limit found (leads heap at) i old.0 old.1 in cc in
          let here : slice_get found i ≡ Some a = old.1 ∙ ap Some same in
          ⊎_elim
          (λ less. all-keep limit found (leads heap at) b (f.closed i a b less here j l))
          (λ more.
          let k : i ≡ next = omega arith in
          let is_at : a ≡ at = let h : slice_get found next ≡ Some a = ap (slice_get found) (sym k) ∙ here in cc in
          all-have limit found (leads heap at) b (subst (λ x. IsIn b (leads heap x)) is_at j) l)
          (cases_lt i next);
    } in
    subst (λ xs. Following heap limit first xs (next + 1)) (sym q) made

reach_in : (heap : List Word) (limit : ℕ) (first found : List ℕ) (next : ℕ) → length heap ≡ limit → length found ≤ next →
    Following heap limit first found next → (l : ℕ) → Reaches (heap_graph heap first) l → l < limit → IsIn l found
reach_in heap limit first found next size le f l (root i) lt = f.grows l i
reach_in heap limit first found next size le f l (child {k = k} p i) lt =
    let small : k < limit = let h = closed-heap heap first k l i in omega (arith, h) in
    let j = in-get found k (reach_in heap limit first found next size le f k p small) in
    f.closed j.0 k l (omega (arith, j.1)) j.2 i lt

pub following-end : (heap : List Word) (limit : ℕ) (first found : List ℕ) (next : ℕ) → length heap ≡ limit → length found ≤ next →
    is_apart found ≡ true → Following heap limit first found next → ((a : ℕ) → IsIn a first → a < limit) →
    ListsReachable (heap_graph heap first) found
following-end heap limit first found next size le once f low = record {
  apart = IsApart-by_test found once;
  sound = λ l i. (let h = f.low low l i in omega (arith, h), f.reached l i);
  full = λ l lt r. reach_in heap limit first found next size le f l r (omega arith);
}

-- noted roots lead to the same
same_reach : (heap : List Word) (limit : ℕ) (roots : List ℕ) → length heap ≡ limit → (l : ℕ) → l < limit →
    Reaches (heap_graph heap roots) l → Reaches (heap_graph heap (noted_all limit [] roots)) l
same_reach heap limit roots size l lt (root i) = root (all-have limit [] roots l i lt)
same_reach heap limit roots size l lt (child {k = k} p i) =
    let small : k < limit = let h = closed-heap heap roots k l i in omega (arith, h) in
    child (same_reach heap limit roots size k small p) i

back : (heap : List Word) (limit : ℕ) (roots : List ℕ) (l : ℕ) → Reaches (heap_graph heap (noted_all limit [] roots)) l →
    Reaches (heap_graph heap roots) l
back heap limit roots l (root i) = ⊎_elim (λ v. absurd v) (λ j. root j.0) (all-cases limit [] roots l i)
back heap limit roots l (child {k = k} p i) = child (back heap limit roots k p) i

pub lists-roots : (heap : List Word) (limit : ℕ) (roots found : List ℕ) → length heap ≡ limit →
    ListsReachable (heap_graph heap (noted_all limit [] roots)) found → ListsReachable (heap_graph heap roots) found
lists-roots heap limit roots found size r = record {
  apart = r.apart;
  sound = λ l i. let h = r.sound l i in (h.0, back heap limit roots l h.1);
  full = λ l lt p. r.full l lt (same_reach heap limit roots size l (omega arith) p);
}

pub noted-low : (limit : ℕ) (roots : List ℕ) (a : ℕ) → IsIn a (noted_all limit [] roots) → a < limit
noted-low limit roots a i = ⊎_elim (λ v. absurd v) (λ j. j.1) (all-cases limit [] roots a i)

pub has-get : (xs : List ℕ) (i : ℕ) (d : ℕ) → i < length xs → slice_get xs i ≡ Some d → IsIn d xs
has-get xs i d lt e = get-in xs i d e
