-- Heap and store stay related when a word of an object is written and when an object is made.
use Rattle.std.proofs.Common.{◌≡◌, refl, sym, ◌∙◌, subst, subst₂, ap, ℕ, zero, suc, ◌+◌, ◌<◌, ◌≤◌, ◌⊎◌, ◌==◌, ◌/◌, ◌%◌, Bool, cond, true, false, inl, inr, ⊎_elim, arith, List, [], ◌∷◌, ◌++◌, length, Option, Some, None, slice_get, slice_set, length-set}
use Rattle.std.proofs.lemmas.Bool.{cases_eq}
use Rattle.std.proofs.lemmas.List.{length-append}
use Rattle.tb_semantics.specs.Graph.{IsIn}
use Rattle.tb_semantics.proofs.ListLemmas.{set-other}
use Rattle.tb_ir.specs.AnfTree.{AnfTree}
use Rattle.tb_ir.specs.Machine.{Item}
use Rattle.tb_ir.specs.Space.{made}
use Rattle.tb_mac.specs.declared.word.Word.{Word}
use Rattle.tb_mac.specs.declared.word.Word.TheVariants as W
use Rattle.tb_mac.specs.LiveWords.{closure_count, data_size, object_size as words_from}
use Rattle.tb_mac.specs.Objects.{procedure_kind, string_kind, symbol_kind}
use Rattle.tb_codegen.specs.Notes.{Note}
use Rattle.tb_codegen.proofs.Envs.{get-set, get-within}
use Rattle.tb_codegen.proofs.Memories.{Agree, agree_left, agree_set, chained_new, chained_set, IsPlain, p_agree, plain_word}
use Rattle.tb_codegen.proofs.Rel.{BytesAt, Chained, ch_end, ch_more, Fill, Grows, IsBefore, Lk, Linked, Open, ORel, o_cell, o_pair, o_vector, o_string, o_symbol, o_procedure, p_full, Stores, World, unmade, fill_of, tag_of}

-- bytes in words that agree
bytes_agree : (heap heap2 : List Word) (a b : ℕ) (cs : List ℕ) → a + (length cs + 3) / 4 ≤ b → Agree heap heap2 a b → BytesAt heap a cs → BytesAt heap2 a cs
bytes_agree heap heap2 a b cs le h r = record {
  bytes = λ k c e.
      let t = r.bytes k c e in
      let lt = get-within cs k c e in
      (t.0, h.agree (a + k / 4) _ (omega arith) (omega arith) t.1, t.2, t.3);
}

agree_from : (heap heap2 : List Word) (a b c d : ℕ) → a ≤ c → d ≤ b → Agree heap heap2 a b → Agree heap heap2 c d
agree_from heap heap2 a b c d l m h = record { agree = λ k u le lt e. h.agree k u (omega arith) (omega arith) e }

lk_t : (t u a b l m : ℕ) → Lk t a l ≡ Lk u b m → t ≡ u
lk_t t u a b l m e = cc

lk_a : (t u a b l m : ℕ) → Lk t a l ≡ Lk u b m → a ≡ b
lk_a t u a b l m e = cc

lk_l : (t u a b l m : ℕ) → Lk t a l ≡ Lk u b m → l ≡ m
lk_l t u a b l m e = cc

left_same : (xs ys : List Word) (i : ℕ) → i < length xs → slice_get (xs ++ ys) i ≡ slice_get xs i
left_same [] ys i lt = absurd (omega arith)
left_same (x ∷ xs) ys zero lt = refl
left_same (x ∷ xs) ys (suc i) lt = left_same xs ys i (omega arith)

pub chained_le : (heap : List Word) (a n : ℕ) → Chained heap a n → a ≤ length heap
chained_le heap a n (ch_end q) = omega (arith, q)
chained_le heap a n (ch_more f h) = let t = chained_le heap _ _ h in omega arith

module _ (p : AnfTree) (notes : List Note) where
  -- an object needs only its own words
  pub o_agree : (w z : World) → Grows w z → (heap heap2 : List Word) (q : Fill) (a n : ℕ) (i : Item) → n ≡ words_from (slice_get heap a) →
      Agree heap heap2 a (a + n) → ORel p notes w heap q a i → ORel p notes z heap2 q a i
  o_agree w z g heap heap2 q a n i e h (o_cell {v = v} f r) =
      let m : n ≡ 2 = e ∙ ap words_from f in
      o_cell (h.agree a _ (omega arith) (omega arith) f) (p_agree w z g heap heap2 (a + 1) 1 (a + 2) (v ∷ []) (omega arith) (agree_from heap heap2 a (a + n) (a + 1) (a + 2) (omega arith) (omega arith) h) r)
  o_agree w z g heap heap2 q a n i e h (o_pair {u = u} {v = v} (p_full {u = y} f r s)) =
      let m : n ≡ 2 = e ∙ ap words_from f ∙ (plain_word w y u r).size in
      o_pair (p_agree w z g heap heap2 a 2 (a + 2) (u ∷ v ∷ []) (omega arith) (agree_from heap heap2 a (a + n) a (a + 2) (omega arith) (omega arith) h) (p_full f r s))
  o_agree w z g heap heap2 q a n i e h (o_vector {vs = vs} few f r) =
      let m : n ≡ (length vs + 1) + (length vs + 1) % 2 = e ∙ ap words_from f in
      o_vector few (h.agree a _ (omega arith) (omega arith) f) (p_agree w z g heap heap2 (a + 1) (length vs) (a + 1 + length vs) vs (omega arith) (agree_from heap heap2 a (a + n) (a + 1) (a + 1 + length vs) (omega arith) (omega arith) h) r)
  o_agree w z g heap heap2 q a n i e h (o_string {cs = cs} few f r) =
      let m : n ≡ ((length cs + 3) / 4 + 1) + ((length cs + 3) / 4 + 1) % 2 = e ∙ ap words_from f in
      o_string few (h.agree a _ (omega arith) (omega arith) f) (bytes_agree heap heap2 (a + 1) (a + n) cs (omega arith) (agree_from heap heap2 a (a + n) (a + 1) (a + n) (omega arith) (omega arith) h) r)
  o_agree w z g heap heap2 q a n i e h (o_symbol {cs = cs} few f r) =
      let m : n ≡ ((length cs + 3) / 4 + 1) + ((length cs + 3) / 4 + 1) % 2 = e ∙ ap words_from f in
      o_symbol few (h.agree a _ (omega arith) (omega arith) f) (bytes_agree heap heap2 (a + 1) (a + n) cs (omega arith) (agree_from heap heap2 a (a + n) (a + 1) (a + n) (omega arith) (omega arith) h) r)
  o_agree w z g heap heap2 q a n i e h (o_procedure k x us f c note len er r) =
      let m : n ≡ (length us + 2) + (length us + 2) % 2 = e ∙ ap words_from f in
      o_procedure k x us (h.agree a _ (omega arith) (omega arith) f) (h.agree (a + 1) _ (omega arith) (omega arith) c) note len er
      (p_agree w z g heap heap2 (a + 2) _ (a + 2 + length us) us (omega arith) (agree_from heap heap2 a (a + n) (a + 2) (a + 2 + length us) (omega arith) (omega arith) h) r)

  -- a word that is written leaves the sizes of all objects
  pub head_set : (heap : List Word) (k : ℕ) (old u : Word) (a : ℕ) → slice_get heap k ≡ Some old → IsPlain old → IsPlain u → a < length heap →
      words_from (slice_get (slice_set heap k u) a) ≡ words_from (slice_get heap a)
  head_set heap k old u a e po pu lt =
      ⊎_elim
      (λ (q : k ≡ a).
      subst (λ a. words_from (slice_get (slice_set heap k u) a) ≡ words_from (slice_get heap a)) q
      (ap words_from (get-set heap k u (get-within heap k old e)) ∙ pu.size ∙ sym po.size ∙ sym (ap words_from e)))
      (λ ne. ap words_from (set-other heap k a u ne))
      (cases_eq k a)

  -- every object has words
  one_of : (b : Bool) (m n : ℕ) → 1 ≤ m → 1 ≤ n → 1 ≤ cond b m n
  one_of true m n h g = h
  one_of false m n h g = g

  pub some_size : (o : Option Word) → 1 ≤ words_from o
  some_size None = omega arith
  some_size (Some (W.Header k n)) =
      one_of (k == procedure_kind) _ _ (omega arith) (one_of (k == string_kind) _ _ (omega arith) (one_of (k == symbol_kind) _ _ (omega arith) (omega arith)))
  some_size (Some (W.Fix v)) = omega arith
  some_size (Some (W.Special v)) = omega arith
  some_size (Some (W.Char v)) = omega arith
  some_size (Some (W.Pointer v b)) = omega arith
  some_size (Some (W.Code v)) = omega arith
  some_size (Some (W.Raw v)) = omega arith

  pub is_within : (w : World) (o : Open) (globals : ℕ) (heap : List Word) (st : List Item) (t a l : ℕ) → Stores p notes w o globals heap st → IsIn (Lk t a l) w → a < length heap
  is_within w o globals heap st t a l s i = let f = s.within t a l i in let q = some_size (slice_get heap a) in omega arith

  -- pointers to one location have one tag
  pub one_tag : (w : World) (o : Open) (globals : ℕ) (heap : List Word) (st : List Item) (t u a b l : ℕ) → Stores p notes w o globals heap st → IsIn (Lk t a l) w → IsIn (Lk u b l) w → t ≡ u
  one_tag w o globals heap st t u a b l s i j =
      let d = s.linked t a l i in
      let e = s.linked u b l j in
      let same : d.item ≡ e.item = cc (d.there, e.there) in
      d.tag ∙ ap tag_of same ∙ sym e.tag

  -- a word of the object at l is written; other objects are as they were
  pub stores_write : (w : World) (o o2 : Open) (globals : ℕ) (heap : List Word) (st st2 : List Item) (t a l k : ℕ) (old u : Word) (j : Item) →
      Stores p notes w o globals heap st → IsIn (Lk t a l) w → slice_get heap k ≡ Some old → IsPlain old → IsPlain u →
      a ≤ k → k < a + words_from (slice_get heap a) → slice_get st2 l ≡ Some j → t ≡ tag_of j →
      ORel p notes w (slice_set heap k u) (fill_of o2 l) a j →
      ((m : ℕ) (i : Item) → (l ≡ m → ⊥) → slice_get st m ≡ Some i → slice_get st2 m ≡ Some i) →
      ((m : ℕ) → (l ≡ m → ⊥) → fill_of o2 m ≡ fill_of o m) → ((m : ℕ) → IsBefore o m → IsBefore o2 m) → unmade o2 ≤ unmade o → made st2 ≡ made st →
      Stores p notes w o2 globals (slice_set heap k u) st2
  stores_write w o o2 globals heap st st2 t a l k old u j s i e po pu le lt there tg rel others fills before fewer same =
      let within = λ (t b m : ℕ) (h : IsIn (Lk t b m) w). is_within w o globals heap st t b m s h in
      let hd = λ (b : ℕ) (lt : b < length heap). head_set heap k old u b e po pu lt in
      record {
        linked = λ v b m h. ⊎_elim
            (λ (q : l ≡ m).
            let sa : a ≡ b = s.one_address t v a b l i (subst (λ m. IsIn (Lk v b m) w) (sym q) h) in
            let st' : t ≡ v = one_tag w o globals heap st t v a b l s i (subst (λ m. IsIn (Lk v b m) w) (sym q) h) in
            record {
              item = j;
              there = subst (λ m. slice_get st2 m ≡ Some j) q there;
              tag = sym st' ∙ tg;
              rel = subst₂ (λ b m. ORel p notes w (slice_set heap k u) (fill_of o2 m) b j) sa q rel;
            })
            (λ ne.
            let d = s.linked v b m h in
            let out : (k < b) ⊎ (b + words_from (slice_get heap b) ≤ k) = ⊎_elim (λ x. inl (omega arith)) (λ x. inr (omega arith)) (s.apart t v a b l m i h ne) in
            record {
              item = d.item;
              there = others m d.item ne d.there;
              tag = d.tag;
              rel = subst (λ q. ORel p notes w (slice_set heap k u) q b d.item) (sym (fills m ne))
                  (o_agree w w (λ k i. i) heap (slice_set heap k u) (fill_of o m) b _ d.item refl (agree_set heap k u b (b + words_from (slice_get heap b)) out) d.rel);
            })
            (cases_eq l m);
        one_address = s.one_address;
        before = λ v b m h. before m (s.before v b m h);
        behind = s.behind;
        apart = λ v y b d m n h g ne.
            subst₂ (λ x y. (b + x ≤ d) ⊎ (d + y ≤ b)) (sym (hd b (within v b m h))) (sym (hd d (within y d n g))) (s.apart v y b d m n h g ne);
        within = λ v b m h. subst₂ (λ x n. b + x ≤ n) (sym (hd b (within v b m h))) (sym (length-set heap k u)) (s.within v b m h);
        total = s.total;
        chained = chained_set heap k old u globals s.total e po pu s.chained;
        made = (let f = s.made in omega arith);
      }

  -- an object is made behind the heap, for the item at l, which no address stands for yet
  pub stores_new : (w : World) (o o2 : Open) (globals : ℕ) (heap ws : List Word) (st st2 : List Item) (l : ℕ) (i : Item) (u : Word) →
      (s : Stores p notes w o globals heap st) → slice_get (heap ++ ws) (length heap) ≡ Some u → length ws ≡ words_from (Some u) →
      slice_get st2 l ≡ Some i → ((t a : ℕ) → IsIn (Lk t a l) w → ⊥) →
      ((m : ℕ) (j : Item) → slice_get st m ≡ Some j → slice_get st2 m ≡ Some j) →
      ORel p notes (Lk (tag_of i) (length heap) l ∷ w) (heap ++ ws) (fill_of o2 l) (length heap) i →
      ((t a m : ℕ) → IsIn (Lk t a m) w → fill_of o2 m ≡ fill_of o m) → ((t a m : ℕ) → IsIn (Lk t a m) w → IsBefore o2 m) → IsBefore o2 l →
      s.total + (closure_count (Some u) + data_size (Some u)) + unmade o2 ≤ made st2 →
      Stores p notes (Lk (tag_of i) (length heap) l ∷ w) o2 globals (heap ++ ws) st2
  stores_new w o o2 globals heap ws st st2 l i u s head long there fresh keep rel fills before now room =
      let z = Lk (tag_of i) (length heap) l ∷ w in
      let lt = λ (t b m : ℕ) (h : IsIn (Lk t b m) w). is_within w o globals heap st t b m s h in
      let same = λ (t b m : ℕ) (h : IsIn (Lk t b m) w). ap words_from (left_same heap ws b (lt t b m h)) in
      let size : words_from (slice_get (heap ++ ws) (length heap)) ≡ length ws = ap words_from head ∙ sym long in
      record {
        linked = λ t b m h. ⊎_elim
            (λ e.
            subst (λ t. Linked p notes z o2 (heap ++ ws) st2 t b m) (lk_t _ t _ b _ m e)
            (subst₂ (λ b m. Linked p notes z o2 (heap ++ ws) st2 (tag_of i) b m) (lk_a _ t _ b _ m e) (lk_l _ t _ b _ m e)
            (record { item = i; there = there; tag = refl; rel = rel })))
            (λ h.
            let d = s.linked t b m h in
            record {
              item = d.item;
              there = keep m d.item d.there;
              tag = d.tag;
              rel = subst (λ q. ORel p notes z (heap ++ ws) q b d.item) (sym (fills t b m h))
                  (o_agree w z (λ k i. inr i) heap (heap ++ ws) (fill_of o m) b _ d.item refl (agree_left heap ws b _) d.rel);
            })
            h;
        one_address = λ t v a b m h g. ⊎_elim
            (λ e. ⊎_elim (λ f. sym (lk_a _ t _ a _ m e) ∙ lk_a _ v _ b _ m f) (λ g. absurd (fresh v b (subst (λ m. IsIn (Lk v b m) w) (sym (lk_l _ t _ a _ m e)) g))) g)
            (λ h. ⊎_elim (λ f. absurd (fresh t a (subst (λ m. IsIn (Lk t a m) w) (sym (lk_l _ v _ b _ m f)) h))) (λ g. s.one_address t v a b m h g) g)
            h;
        before = λ t b m h. ⊎_elim (λ e. subst (IsBefore o2) (lk_l _ t _ b _ m e) now) (λ h. before t b m h) h;
        behind = λ t b m h. ⊎_elim (λ e. subst (λ b. globals ≤ b) (lk_a _ t _ b _ m e) (chained_le heap globals s.total s.chained)) (s.behind t b m) h;
        apart = λ t v b d m n h g ne. ⊎_elim
            (λ e. ⊎_elim
            (λ f. absurd (ne (sym (lk_l _ t _ b _ m e) ∙ lk_l _ v _ d _ n f)))
            (λ g. inr (let r = same v d n g in let x = s.within v d n g in let y = lk_a _ t _ b _ m e in omega arith)) g)
            (λ h. ⊎_elim
            (λ f. inl (let r = same t b m h in let x = s.within t b m h in let y = lk_a _ v _ d _ n f in omega arith))
            (λ g. subst₂ (λ x y. (b + x ≤ d) ⊎ (d + y ≤ b)) (sym (same t b m h)) (sym (same v d n g)) (s.apart t v b d m n h g ne)) g)
            h;
        within = λ t b m h. ⊎_elim
            (λ e. subst (λ b. b + words_from (slice_get (heap ++ ws) b) ≤ length (heap ++ ws)) (lk_a _ t _ b _ m e) (let q = length-append heap ws in omega arith))
            (λ h. let q = length-append heap ws in let r = same t b m h in let x = s.within t b m h in omega arith)
            h;
        total = s.total + (closure_count (Some u) + data_size (Some u));
        chained = chained_new heap ws u globals s.total long head s.chained;
        made = room;
      }

  -- a word before all objects is written
  pub stores_global : (w : World) (o : Open) (globals : ℕ) (heap : List Word) (st : List Item) (k : ℕ) (old u : Word) →
      Stores p notes w o globals heap st → slice_get heap k ≡ Some old → IsPlain old → IsPlain u → k < globals →
      Stores p notes w o globals (slice_set heap k u) st
  stores_global w o globals heap st k old u s e po pu lt =
      let hd = λ (t b m : ℕ) (h : IsIn (Lk t b m) w). head_set heap k old u b e po pu (is_within w o globals heap st t b m s h) in
      record {
        linked = λ t b m h.
            let d = s.linked t b m h in
            let f = s.behind t b m h in
            record { item = d.item; there = d.there; tag = d.tag; rel = o_agree w w (λ k i. i) heap (slice_set heap k u) (fill_of o m) b _ d.item refl (agree_set heap k u b (b + words_from (slice_get heap b)) (inl (omega arith))) d.rel };
        one_address = s.one_address;
        before = s.before;
        behind = s.behind;
        apart = λ t v b d m n h g ne. subst₂ (λ x y. (b + x ≤ d) ⊎ (d + y ≤ b)) (sym (hd t b m h)) (sym (hd v d n g)) (s.apart t v b d m n h g ne);
        within = λ t b m h. subst₂ (λ x n. b + x ≤ n) (sym (hd t b m h)) (sym (length-set heap k u)) (s.within t b m h);
        total = s.total;
        chained = chained_set heap k old u globals s.total e po pu s.chained;
        made = s.made;
      }
