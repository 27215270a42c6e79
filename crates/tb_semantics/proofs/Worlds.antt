-- Two stores and what stands for what, for items of any kind: the part that every pass over stores shares. A world
-- is what is known of locations for good; it only grows, and every relation of items depends on it alone.
use Rattle.std.proofs.Common.{◌≡◌, ◌+◌, ◌<◌, ◌≤◌, ℕ, zero, suc, List, [], ◌∷◌, ◌++◌, Option, None, Some, length, slice_get, slice_set, refl, sym, ap, ◌∙◌, subst, subst₂, inl, inr, ⊎_elim, arith, length-set}
use Rattle.std.specs.Prelude.{sum_by}
use Rattle.std.proofs.lemmas.Bool.{cases_eq, cases_lt}
use Rattle.std.proofs.lemmas.List.Sums.{sum_by-cons}
use Rattle.std.proofs.lemmas.Option.{slice_get_past, slice_get_within}
use Rattle.tb_semantics.specs.Graph.{IsIn, IsClosed, Graph, Reaches, child, below, sum_of, total}
use Rattle.tb_semantics.proofs.Reachable.{HasMatch, total-partners, sum_by_partners, apart_below, in_below, below_in}
use Rattle.tb_semantics.proofs.ListLemmas.{get-left, get-last, length-last, set-same, set-other}

-- items of the target and of the source stand for one another, or a source item has no target item and this is
-- known of it for good
pub data Entry (V : Type 0) : Type 0 where
  Both : (t s : ℕ) → Entry V
  Only : (s : ℕ) (v : V) → Entry V

abbrev pub World : Type 0 → Type 0
World V = List (Entry V)

-- a world has grown
abbrev pub Grows : {V : Type 0} → World V → World V → Type 0
Grows {V} w v = (k : Entry V) → IsIn k w → IsIn k v

-- when items stand for one another, and when a source item is as is known of it; both stay when the world grows
pub record Items (A B V : Type 0) : Type 1 where
  pub Alike : World V → A → B → Type 0
  pub Known : World V → B → V → Type 0
  pub alike_stays : (w v : World V) → Grows w v → (i : A) (j : B) → Alike w i j → Alike v i j
  pub known_stays : (w v : World V) → Grows w v → (j : B) (x : V) → Known w j x → Known v j x

-- two locations have items that stand for one another
pub record Linked {A B V : Type 0} (I : Items A B V) (w : World V) (st : List A) (ss : List B) (t s : ℕ) : Type 0 where
  pub item : A
  pub other : B
  pub here : slice_get st t ≡ Some item
  pub there : slice_get ss s ≡ Some other
  pub alike : I.Alike w item other

-- a location of the source has an item of which this is known
pub record Holds {A B V : Type 0} (I : Items A B V) (w : World V) (ss : List B) (s : ℕ) (x : V) : Type 0 where
  pub other : B
  pub there : slice_get ss s ≡ Some other
  pub known : I.Known w other x

-- the stores are as the entries v say, where relations of items are meant in the world w. A group of items that
-- name one another is made in the world that has them all; elsewhere w is v.
pub record Stores {A B V : Type 0} (I : Items A B V) (w v : World V) (st : List A) (ss : List B) : Type 0 where
  pub linked : (t s : ℕ) → IsIn (Both t s) v → Linked I w st ss t s
  pub holds : (s : ℕ) (x : V) → IsIn (Only s x) v → Holds I w ss s x
  pub one_target : (a b s : ℕ) → IsIn (Both a s) v → IsIn (Both b s) v → a ≡ b
  pub one_source : (t a b : ℕ) → IsIn (Both t a) v → IsIn (Both t b) v → a ≡ b
  pub apart : (t s : ℕ) (x : V) → IsIn (Both t s) v → IsIn (Only s x) v → ⊥
  pub all : (t : ℕ) → t < length st → (s : ℕ) × IsIn (Both t s) v

abbrev both : (V : Type 0) → ℕ → ℕ → Entry V
both V t s = Both t s

both_t : (V : Type 0) (a b c d : ℕ) → both V a b ≡ both V c d → a ≡ c
both_t V a b c d e = cc

both_s : (V : Type 0) (a b c d : ℕ) → both V a b ≡ both V c d → b ≡ d
both_s V a b c d e = cc

both_only : {V : Type 0} (a b s : ℕ) (x : V) → Both a b ≡ Only s x → ⊥
both_only a b s x e = cc

only_s : {V : Type 0} (r s : ℕ) (x y : V) → Only r x ≡ Only s y → r ≡ s
only_s r s x y e = cc

only_x : {V : Type 0} (r s : ℕ) (x y : V) → Only r x ≡ Only s y → x ≡ y
only_x r s x y e = cc

pub grows_refl : {V : Type 0} (w : World V) → Grows w w
grows_refl w k i = i

pub grows_one : {V : Type 0} (k : Entry V) (w : World V) → Grows w (k ∷ w)
grows_one k w j i = inr i

module _ (A B V : Type 0) (I : Items A B V) where
  linked_stays : (w u : World V) (st ts : List A) (ss us : List B) (t s : ℕ) → Grows w u → Linked I w st ss t s →
      Linked I u (st ++ ts) (ss ++ us) t s
  linked_stays w u st ts ss us t s g l = record {
    item = l.item;
    other = l.other;
    here = get-left st ts t l.item l.here;
    there = get-left ss us s l.other l.there;
    alike = I.alike_stays w u g l.item l.other l.alike;
  }

  holds_stays : (w u : World V) (ss us : List B) (s : ℕ) (x : V) → Grows w u → Holds I w ss s x →
      Holds I u (ss ++ us) s x
  holds_stays w u ss us s x g h = record {
    other = h.other;
    there = get-left ss us s h.other h.there;
    known = I.known_stays w u g h.other x h.known;
  }

  -- the same in a world that has grown
  pub stores_stay : (w u v : World V) (st : List A) (ss : List B) → Grows w u → Stores I w v st ss →
      Stores I u v st ss
  stores_stay w u v st ss g h = record {
    linked = λ t s i.
        let l = h.linked t s i in
        record {
          item = l.item;
          other = l.other;
          here = l.here;
          there = l.there;
          alike = I.alike_stays w u g l.item l.other l.alike;
        };
    holds = λ s x i.
        let k = h.holds s x i in
        record { other = k.other; there = k.there; known = I.known_stays w u g k.other x k.known };
    one_target = h.one_target;
    one_source = h.one_source;
    apart = h.apart;
    all = h.all;
  }

  target_within : (w v : World V) (st : List A) (ss : List B) → Stores I w v st ss → (t s : ℕ) → IsIn (Both t s) v →
      t < length st
  target_within w v st ss h t s i = let l = h.linked t s i in slice_get_within st t l.item l.here

  source_within : (w v : World V) (st : List A) (ss : List B) → Stores I w v st ss → (t s : ℕ) → IsIn (Both t s) v →
      s < length ss
  source_within w v st ss h t s i = let l = h.linked t s i in slice_get_within ss s l.other l.there

  known_within : (w v : World V) (st : List A) (ss : List B) → Stores I w v st ss → (s : ℕ) (x : V) →
      IsIn (Only s x) v → s < length ss
  known_within w v st ss h s x i = let k = h.holds s x i in slice_get_within ss s k.other k.there

  -- both stores get an item
  pub both_made : (w v : World V) (st : List A) (ss : List B) (i : A) (j : B) → Stores I w v st ss → I.Alike w i j →
      Stores I w (Both (length st) (length ss) ∷ v) (st ++ i ∷ []) (ss ++ j ∷ [])
  both_made w v st ss i j h ij =
      let new : Linked I w (st ++ i ∷ []) (ss ++ j ∷ []) (length st) (length ss) =
      record { item = i; other = j; here = get-last st i; there = get-last ss j; alike = ij } in
      record {
        linked = λ t s. ⊎_elim
            (λ e. subst₂ (Linked I w (st ++ i ∷ []) (ss ++ j ∷ [])) (both_t V _ _ _ _ e) (both_s V _ _ _ _ e) new)
            (λ q. linked_stays w w st (i ∷ []) ss (j ∷ []) t s (grows_refl w) (h.linked t s q));
        holds = λ s x. ⊎_elim
            (λ e. absurd (both_only _ _ s x e))
            (λ q. holds_stays w w ss (j ∷ []) s x (grows_refl w) (h.holds s x q));
        one_target = λ a b s. ⊎_elim
            (λ e. ⊎_elim
            (λ f. sym (both_t V _ _ _ _ e) ∙ both_t V _ _ _ _ f)
            (λ q. let lt = source_within w v st ss h b s q in let same = both_s V _ _ _ _ e in absurd (omega arith)))
            (λ q. ⊎_elim
            (λ f. let lt = source_within w v st ss h a s q in let same = both_s V _ _ _ _ f in absurd (omega arith))
            (λ r. h.one_target a b s q r));
        one_source = λ t a b. ⊎_elim
            (λ e. ⊎_elim
            (λ f. sym (both_s V _ _ _ _ e) ∙ both_s V _ _ _ _ f)
            (λ q. let lt = target_within w v st ss h t b q in let same = both_t V _ _ _ _ e in absurd (omega arith)))
            (λ q. ⊎_elim
            (λ f. let lt = target_within w v st ss h t a q in let same = both_t V _ _ _ _ f in absurd (omega arith))
            (λ r. h.one_source t a b q r));
        apart = λ t s x. ⊎_elim
            (λ e. ⊎_elim
            (λ f. both_only _ _ s x f)
            (λ q. let lt = known_within w v st ss h s x q in let same = both_s V _ _ _ _ e in absurd (omega arith)))
            (λ q. ⊎_elim (λ f. both_only _ _ s x f) (λ r. h.apart t s x q r));
        all = λ t lt. ⊎_elim
            (λ e. (length ss, inl (ap (λ a. Both a (length ss)) (sym e))))
            (λ ne. let long = length-last st i in let old = h.all t (omega arith) in (old.0, inr old.1))
            (cases_eq t (length st));
      }

  -- the source alone gets an item
  pub source_made : (w v : World V) (st : List A) (ss : List B) (j : B) (x : V) → Stores I w v st ss → I.Known w j x →
      Stores I w (Only (length ss) x ∷ v) st (ss ++ j ∷ [])
  source_made w v st ss j x h jx =
      let new : Holds I w (ss ++ j ∷ []) (length ss) x = record { other = j; there = get-last ss j; known = jx } in
      record {
        linked = λ t s. ⊎_elim
            (λ e. absurd (both_only t s _ x (sym e)))
            (λ q.
            let l = h.linked t s q in
            record {
              item = l.item;
              other = l.other;
              here = l.here;
              there = get-left ss (j ∷ []) s l.other l.there;
              alike = l.alike;
            });
        holds = λ s y. ⊎_elim
            (λ e. subst₂ (Holds I w (ss ++ j ∷ [])) (only_s _ _ _ _ e) (only_x _ _ _ _ e) new)
            (λ q. holds_stays w w ss (j ∷ []) s y (grows_refl w) (h.holds s y q));
        one_target = λ a b s. ⊎_elim
            (λ e. absurd (both_only a s _ x (sym e)))
            (λ q. ⊎_elim (λ f. absurd (both_only b s _ x (sym f))) (λ r. h.one_target a b s q r));
        one_source = λ t a b. ⊎_elim
            (λ e. absurd (both_only t a _ x (sym e)))
            (λ q. ⊎_elim (λ f. absurd (both_only t b _ x (sym f))) (λ r. h.one_source t a b q r));
        apart = λ t s y. ⊎_elim
            (λ e. absurd (both_only t s _ x (sym e)))
            (λ q. ⊎_elim
            (λ f. let lt = source_within w v st ss h t s q in let same = only_s _ _ _ _ f in absurd (omega arith))
            (λ r. h.apart t s y q r));
        all = λ t lt. let old = h.all t lt in (old.0, inr old.1);
      }

  -- items that stand for one another are written
  pub both_written : (w v : World V) (st : List A) (ss : List B) (t s : ℕ) (i : A) (j : B) → Stores I w v st ss →
      IsIn (Both t s) v → I.Alike w i j → Stores I w v (slice_set st t i) (slice_set ss s j)
  both_written w v st ss t s i j h at ij =
      let old = h.linked t s at in
      let new : Linked I w (slice_set st t i) (slice_set ss s j) t s = record {
        item = i;
        other = j;
        here = set-same st t old.item i old.here;
        there = set-same ss s old.other j old.there;
        alike = ij;
      } in
      let at_other : (a b : ℕ) → t ≡ a → IsIn (Both a b) v → s ≡ b =
      λ a b e q. h.one_source a s b (subst (λ c. IsIn (Both c s) v) e at) q in
      let at_target : (a b : ℕ) → s ≡ b → IsIn (Both a b) v → t ≡ a =
      λ a b e q. h.one_target t a b (subst (λ c. IsIn (Both t c) v) e at) q in
      record {
        linked = λ a b q.
            let l = h.linked a b q in
            ⊎_elim
            (λ e. subst₂ (Linked I w (slice_set st t i) (slice_set ss s j)) e (at_other a b e q) new)
            (λ ne. record {
              item = l.item;
              other = l.other;
              here = set-other st t a i ne ∙ l.here;
              there = set-other ss s b j (λ e. ne (at_target a b e q)) ∙ l.there;
              alike = l.alike;
            })
            (cases_eq t a);
        holds = λ b x q.
            let k = h.holds b x q in
            record {
              other = k.other;
              there = set-other ss s b j (λ e. h.apart t b x (subst (λ c. IsIn (Both t c) v) e at) q) ∙ k.there;
              known = k.known;
            };
        one_target = h.one_target;
        one_source = h.one_source;
        apart = h.apart;
        all = λ a lt. h.all a (rw (← length-set st t i) lt);
      }

-- a store as a graph
abbrev pub store_graph : {A : Type 0} → (Option A → List ℕ) → List A → List ℕ → Graph
store_graph locations st roots = record { count = length st; next = λ l. locations (slice_get st l); roots = roots }

-- only a location of the store leads to others
pub store_graph-closed : {A : Type 0} (locations : Option A → List ℕ) (st : List A) (roots : List ℕ) →
    locations None ≡ [] → IsClosed (store_graph locations st roots)
store_graph-closed locations st roots none k l i =
    ⊎_elim
    (λ lt. lt)
    (λ ge. let past = slice_get_past st k ge in absurd (subst (IsIn l) (ap locations past ∙ none) i))
    (cases_lt k (length st))

-- what the items of a store are measured by: the locations that they lead to, and their sizes
pub record Measure (A : Type 0) : Type 0 where
  pub locations : Option A → List ℕ
  pub size : Option A → ℕ
  pub nowhere : locations None ≡ []

-- the graph of a store under a measure, the size of what roots reach in it, and that of all its items
abbrev pub graph_of : {A : Type 0} → Measure A → List A → List ℕ → Graph
graph_of a st roots = store_graph a.locations st roots

abbrev pub reached_size : {A : Type 0} → Measure A → List A → List ℕ → ℕ
reached_size a st roots = total (λ l. a.size (slice_get st l)) (graph_of a st roots)

abbrev pub made_size : {A : Type 0} → Measure A → List A → ℕ
made_size a st = sum_of (λ l. a.size (slice_get st l)) (below (length st))

-- a location of the target stands for one that the source reaches
abbrev pub HasSource : {B V : Type 0} → Measure B → World V → List B → List ℕ → ℕ → Type 0
HasSource b v ss roots t = HasMatch (λ t s. IsIn (Both t s) v) (graph_of b ss roots) t

module _ (A B V : Type 0) (I : Items A B V) (w v : World V) (st : List A) (ss : List B) (h : Stores I w v st ss)
    (a : Measure A) (b : Measure B) (sizes : (i : A) (j : B) → I.Alike w i j → a.size (Some i) ≤ b.size (Some j)) where
  linked_size : (t s : ℕ) → IsIn (Both t s) v → a.size (slice_get st t) ≤ b.size (slice_get ss s)
  linked_size t s i =
      let l = h.linked t s i in
      subst₂ (λ o p. a.size o ≤ b.size p) (sym l.here) (sym l.there) (sizes l.item l.other l.alike)

  -- what the target reaches is no more: its roots stand for what the source reaches, and so do the locations in an
  -- item that stands for one which the source reaches
  pub total-stores : (roots others : List ℕ) → ((t : ℕ) → IsIn t roots → HasSource b v ss others t) →
      ((i : A) (j : B) → I.Alike w i j → ((s : ℕ) → IsIn s (b.locations (Some j)) → Reaches (graph_of b ss others) s) →
      (t : ℕ) → IsIn t (a.locations (Some i)) → HasSource b v ss others t) →
      reached_size a st roots ≤ reached_size b ss others
  total-stores roots others at_roots at_items =
      total-partners _ _ _ (graph_of a st roots) (graph_of b ss others)
      (store_graph-closed b.locations ss others b.nowhere)
      (record {
        one_each = h.one_target;
        within = λ t s i. source_within A B V I w v st ss h t s i;
        sizes = linked_size;
        at_roots = at_roots;
        at_edges = λ t s c i r j.
            let l = h.linked t s i in
            at_items l.item l.other l.alike
            (λ d q. child r (subst (λ o. IsIn d (b.locations o)) (sym l.there) q))
            c (subst (λ o. IsIn c (a.locations o)) l.here j);
      })

  -- what the target has made is no more
  pub made-stores : made_size a st ≤ made_size b ss
  made-stores =
      sum_by_partners (λ t s. IsIn (Both t s) v) _ _ h.one_target (below (length st)) (below (length ss))
      (apart_below (length st))
      (λ t i.
      let p = h.all t (in_below (length st) t i) in
      (p.0, below_in (length ss) p.0 (source_within A B V I w v st ss h t p.0 p.1), p.1, linked_size t p.0 p.1))

sum_first : (f : ℕ → ℕ) (n : ℕ) → sum_of f (below (suc n)) ≡ f 0 + sum_of (λ l. f (suc l)) (below n)
sum_first f zero = refl
sum_first f (suc n) = let h = sum_first f n in omega arith

-- the sum over the locations of a store is the one over its items
pub made_size-items : {A : Type 0} (a : Measure A) (st : List A) → made_size a st ≡ sum_by (λ i. a.size (Some i)) st
made_size-items a [] = refl
made_size-items a (i ∷ st) =
    let first = sum_first (λ l. a.size (slice_get (i ∷ st) l)) (length st) in
    let rest = made_size-items a st in
    let cons = sum_by-cons (λ j. a.size (Some j)) i st in
    omega arith
