-- The list of a rest parameter: its pairs are made at once.
use Rattle.std.proofs.Common.{◌≡◌, refl, sym, ◌∙◌, subst, subst₂, ap, ℕ, zero, suc, ◌+◌, ◌*◌, ◌<◌, ◌≤◌, ◌⊎◌, inl, inr, ⊎_elim, arith, List, [], ◌∷◌, ◌++◌, length, map, Option, Some, slice_get, Bool, append-nil, append_assoc}
use Rattle.std.proofs.lemmas.Bool.{cases_lt}
use Rattle.std.proofs.lemmas.List.{length-append}
use Rattle.tb_prim.specs.declared.event.Taken.{Taken}
use Rattle.tb_semantics.specs.Graph.{IsIn}
use Rattle.tb_semantics.proofs.ListLemmas.{get-left, in-cases, in-left, in-right}
use Rattle.tb_core.specs.Store.{Value, Pair}
use Rattle.tb_core.specs.Lists.{list_objects, list_value}
use Rattle.tb_ir.specs.AnfTree.{AnfTree}
use Rattle.tb_ir.specs.Machine.{Item, Obj}
use Rattle.tb_ir.specs.Space.{made}
use Rattle.tb_mac.specs.declared.word.Word.{Word}
use Rattle.tb_mac.specs.LiveWords.{closure_count, data_size, object_size as words_from}
use Rattle.tb_mac.specs.MacStep.{list_at, list_words}
use Rattle.tb_mac.specs.Objects.{pair_tag}
use Rattle.tb_codegen.specs.Notes.{Note}
use Rattle.tb_codegen.proofs.Cells.{at_end, at_next}
use Rattle.tb_codegen.proofs.Envs.{get-within}
use Rattle.tb_codegen.proofs.Holding.{w-more}
use Rattle.tb_codegen.proofs.Memories.{agree_left, chained_new, p_agree, plain_word}
use Rattle.tb_codegen.proofs.Rel.{Chained, Closed, Grows, globals_words, Link, Lk, Memory, o_pair, PRel, p_none, p_full, Stores, Whole, World, WRel, w_at, w_nil, WsRel, ws_none, ws_more}
use Rattle.tb_codegen.proofs.Stored.{chained_le, is_within, o_agree}

-- the links of the pairs of a list
pub links : ℕ → ℕ → List Value → World
links at l [] = []
links at l (v ∷ vs) = Lk pair_tag at l ∷ links (at + 2) (suc l) vs

-- a link of them, by its number
links_in : (at l : ℕ) (vs : List Value) (k : Link) → IsIn k (links at l vs) → (i : ℕ) × (i < length vs) × (Lk pair_tag (at + i * 2) (l + i) ≡ k)
unfolding links
links_in at l [] k i = absurd i
links_in at l (v ∷ vs) k (inl e) =
    let a : at + 0 * 2 ≡ at = omega arith in
    let b : l + 0 ≡ l = omega arith in
    (0, omega arith, subst₂ (λ x y. Lk pair_tag x y ≡ k) (sym a) (sym b) e)
links_in at l (v ∷ vs) k (inr i) =
    let t = links_in (at + 2) (suc l) vs k i in
    let a : at + 2 + t.0 * 2 ≡ at + suc t.0 * 2 = omega arith in
    let b : suc l + t.0 ≡ l + suc t.0 = omega arith in
    let lt = t.1 in
    (suc t.0, omega arith, subst₂ (λ x y. Lk pair_tag x y ≡ k) a b t.2)

-- what the final heap and store have of the list
pub data Row (z : World) (heap : List Word) (st : List Item) : ℕ → ℕ → List Value → Type 0 where
  r_none : {at l : ℕ} → Row z heap st at l []
  r_more : {at l : ℕ} {u t : Word} {v : Value} {vs : List Value} → slice_get heap at ≡ Some u → WRel z u v → slice_get heap (suc at) ≡ Some t → WRel z t (list_value vs (suc l)) →
      slice_get st l ≡ Some (Obj (Pair v (list_value vs (suc l)))) → Row z heap st (at + 2) (suc l) vs → Row z heap st at l (v ∷ vs)

record Pair' (z : World) (heap : List Word) (st : List Item) (a l : ℕ) : Type 0 where
  one : Value
  two : Value
  head : Word
  here : slice_get heap a ≡ Some head
  rel : WRel z head one
  words : PRel z heap a 2 (one ∷ two ∷ [])
  there : slice_get st l ≡ Some (Obj (Pair one two))

row_at : (z : World) (heap : List Word) (st : List Item) (at l : ℕ) (vs : List Value) (i : ℕ) → Row z heap st at l vs → i < length vs → Pair' z heap st (at + i * 2) (l + i)
row_at z heap st at l [] i r lt = absurd (omega arith)
row_at z heap st at l (v ∷ vs) zero (r_more {u = u} {t = t} e r f s g h) lt =
    let a : at + 0 * 2 ≡ at = omega arith in
    let b : l + 0 ≡ l = omega arith in
    subst₂ (λ x y. Pair' z heap st x y) (sym a) (sym b) (record { one = v; two = list_value vs (suc l); head = u; here = e; rel = r; words = p_full e r (p_full f s p_none); there = g })
row_at z heap st at l (v ∷ vs) (suc i) (r_more e r f s g h) lt =
    let a : at + 2 + i * 2 ≡ at + suc i * 2 = omega arith in
    let b : suc l + i ≡ l + suc i = omega arith in
    subst₂ (λ x y. Pair' z heap st x y) a b (row_at z heap st (at + 2) (suc l) vs i h (omega arith))

list_rel : (z : World) (at l : ℕ) (us : List Word) (vs : List Value) → WsRel z us vs → ((k : Link) → IsIn k (links at l vs) → IsIn k z) → WRel z (list_at at us) (list_value vs l)
unfolding links
list_rel z at l us vs ws_none f = w_nil
list_rel z at l us vs (ws_more r rs) f = w_at (f (Lk pair_tag at l) (inl refl))

objects_more : (v : Value) (vs : List Value) (l : ℕ) → list_objects (v ∷ vs) l ≡ Pair v (list_value vs (suc l)) ∷ list_objects vs (suc l)
objects_more v [] l = refl
objects_more v (w ∷ ws) l = refl

ws_grow : (w z : World) → Grows w z → (us : List Word) (vs : List Value) → WsRel w us vs → WsRel z us vs
ws_grow w z g us vs ws_none = ws_none
ws_grow w z g us vs (ws_more r rs) = ws_more (w-more w z g _ _ r) (ws_grow w z g _ _ rs)

rows : (z : World) (heap : List Word) (st : List Item) (at l : ℕ) (us : List Word) (vs : List Value) → at ≡ length heap → l ≡ length st → WsRel z us vs → ((k : Link) → IsIn k (links at l vs) → IsIn k z) →
    Row z (heap ++ list_words at us) (st ++ map Obj (list_objects vs l)) at l vs
unfolding links
rows z heap st at l us vs ea el ws_none f = r_none
rows z heap st at l us vs ea el (ws_more {u = u} {v = v} {us = us2} {vs = vs2} r rs) f =
    let t = list_at (at + 2) us2 in
    let o = Obj (Pair v (list_value vs2 (suc l))) in
    let hs : (heap ++ (u ∷ t ∷ [])) ++ list_words (at + 2) us2 ≡ heap ++ list_words at (u ∷ us2) = append_assoc heap (u ∷ t ∷ []) (list_words (at + 2) us2) in
    let om = objects_more v vs2 l in
    let ss : (st ++ (o ∷ [])) ++ map Obj (list_objects vs2 (suc l)) ≡ st ++ map Obj (list_objects (v ∷ vs2) l) = append_assoc st (o ∷ []) (map Obj (list_objects vs2 (suc l))) ∙ ap (λ os. st ++ map Obj os) (sym om) in
    let la : at + 2 ≡ length (heap ++ (u ∷ t ∷ [])) = (let q = length-append heap (u ∷ t ∷ []) in omega arith) in
    let ll : suc l ≡ length (st ++ (o ∷ [])) = (let q = length-append st (o ∷ []) in omega arith) in
    let rest = rows z (heap ++ (u ∷ t ∷ [])) (st ++ (o ∷ [])) (at + 2) (suc l) us2 vs2 la ll rs (λ k i. f k (inr i)) in
    let rest2 = subst₂ (λ h s. Row z h s (at + 2) (suc l) vs2) hs ss rest in
    let e1 : slice_get (heap ++ list_words at (u ∷ us2)) at ≡ Some u = subst (λ n. slice_get (heap ++ list_words at (u ∷ us2)) n ≡ Some u) (sym ea) (at_end heap (list_words at (u ∷ us2)) u refl) in
    let q : length heap + 1 ≡ suc at = omega arith in
    let e2 : slice_get (heap ++ list_words at (u ∷ us2)) (suc at) ≡ Some t = subst (λ n. slice_get (heap ++ list_words at (u ∷ us2)) n ≡ Some t) q (at_next heap (list_words at (u ∷ us2)) 1 t refl) in
    let p : length st + 0 ≡ l = omega arith in
    let e3 : slice_get (st ++ map Obj (list_objects (v ∷ vs2) l)) l ≡ Some o = subst (λ n. slice_get (st ++ map Obj (list_objects (v ∷ vs2) l)) n ≡ Some o) p (at_next st (map Obj (list_objects (v ∷ vs2) l)) 0 o (ap (λ os. slice_get (map Obj os) 0) om)) in
    r_more e1 r e2 (list_rel z (at + 2) (suc l) us2 vs2 rs (λ k i. f k (inr i))) e3 rest2

chained_list : (w : World) (heap : List Word) (g n at : ℕ) (us : List Word) (vs : List Value) → at ≡ length heap → WsRel w us vs → Chained heap g n → Chained (heap ++ list_words at us) g (n + length vs * 3)
chained_list w heap g n at us vs e ws_none h =
    let z : n ≡ n + 0 * 3 = omega arith in subst₂ (λ hp n. Chained hp g n) (sym (append-nil heap)) z h
chained_list w heap g n at us vs e (ws_more {u = u} {v = v} {us = us2} {vs = vs2} r rs) h =
    let t = list_at (at + 2) us2 in
    let f = plain_word w u v r in
    let f1 = f.size in let f2 = f.closures in let f3 = f.words in
    let one = chained_new heap (u ∷ t ∷ []) u g n (sym f1) (at_end heap (u ∷ t ∷ []) u refl) h in
    let la : at + 2 ≡ length (heap ++ (u ∷ t ∷ [])) = (let q = length-append heap (u ∷ t ∷ []) in omega arith) in
    let rest = chained_list w (heap ++ (u ∷ t ∷ [])) g _ (at + 2) us2 vs2 la rs one in
    let z : n + (closure_count (Some u) + data_size (Some u)) + length vs2 * 3 ≡ n + suc (length vs2) * 3 = omega arith in
    subst₂ (λ hp n. Chained hp g n) (append_assoc heap (u ∷ t ∷ []) (list_words (at + 2) us2)) z rest

length_list : (w : World) (at : ℕ) (us : List Word) (vs : List Value) → WsRel w us vs → length (list_words at us) ≡ length vs * 2
length_list w at us vs ws_none = refl
length_list w at us vs (ws_more {us = us2} {vs = vs2} r rs) = let h = length_list w (at + 2) us2 vs2 rs in omega arith

made_list : (st : List Item) (vs : List Value) (l : ℕ) → made (st ++ map Obj (list_objects vs l)) ≡ made st + length vs * 3
made_list [] [] l = refl
made_list [] (v ∷ []) l = refl
made_list [] (v ∷ w ∷ ws) l = let h = made_list [] (w ∷ ws) (suc l) in omega arith
made_list (i ∷ st) vs l = let h = made_list st vs l in omega arith

lk_t : (t u a b l m : ℕ) → Lk t a l ≡ Lk u b m → t ≡ u
lk_t t u a b l m e = cc

lk_a : (t u a b l m : ℕ) → Lk t a l ≡ Lk u b m → a ≡ b
lk_a t u a b l m e = cc

lk_l : (t u a b l m : ℕ) → Lk t a l ≡ Lk u b m → l ≡ m
lk_l t u a b l m e = cc

left_same : (xs ys : List Word) (i : ℕ) → i < length xs → slice_get (xs ++ ys) i ≡ slice_get xs i
left_same [] ys i lt = absurd (omega arith)
left_same (x ∷ xs) ys zero lt = refl
left_same (x ∷ xs) ys (suc i) lt = left_same xs ys i (omega arith)

module _ (p : AnfTree) (notes : List Note) where
  -- a link of the list: its number, address and location
  record New (z : World) (heap : List Word) (st : List Item) (at l n t a m : ℕ) : Type 0 where
    index : ℕ
    below : index < n
    is_tag : pair_tag ≡ t
    address : at + index * 2 ≡ a
    place : l + index ≡ m
    pair : Pair' z heap st a m

  new_link : (z : World) (heap : List Word) (st : List Item) (at l : ℕ) (vs : List Value) (t a m : ℕ) → Row z heap st at l vs → IsIn (Lk t a m) (links at l vs) → New z heap st at l (length vs) t a m
  new_link z heap st at l vs t a m r i =
      let k = links_in at l vs (Lk t a m) i in
      let ea = lk_a _ _ _ _ _ _ k.2 in
      let el = lk_l _ _ _ _ _ _ k.2 in
      record { index = k.0; below = k.1; is_tag = lk_t _ _ _ _ _ _ k.2; address = ea; place = el; pair = subst₂ (λ a m. Pair' z heap st a m) ea el (row_at z heap st at l vs k.0 r k.1) }

  two_words : (z : World) (heap : List Word) (st : List Item) (a m : ℕ) → Pair' z heap st a m → words_from (slice_get heap a) ≡ 2
  two_words z heap st a m q = ap words_from q.here ∙ (plain_word z q.head q.one q.rel).size

  stores_list : (w : World) (globals : ℕ) (heap : List Word) (st : List Item) (us : List Word) (vs : List Value) → Stores p notes w Closed globals heap st → WsRel w us vs →
      Stores p notes (links (length heap) (length st) vs ++ w) Closed globals (heap ++ list_words (length heap) us) (st ++ map Obj (list_objects vs (length st)))
  stores_list w globals heap st us vs s rs =
      let at = length heap in
      let l0 = length st in
      let z = links at l0 vs ++ w in
      let ws = list_words at us in
      let heap2 = heap ++ ws in
      let st2 = st ++ map Obj (list_objects vs l0) in
      let g : Grows w z = λ k i. in-right (links at l0 vs) w k i in
      let row = rows z heap st at l0 us vs refl refl (ws_grow w z g us vs rs) (λ k i. in-left (links at l0 vs) w k i) in
      let long = length-append heap ws in
      let many = length_list w at us vs rs in
      let some = made_list st vs l0 in
      let old_made = s.made in
      record {
        linked = λ t a l k. ⊎_elim
            (λ i. let n = new_link z heap2 st2 at l0 vs t a l row i in
            record { item = Obj (Pair n.pair.one n.pair.two); there = n.pair.there; tag = sym n.is_tag; rel = o_pair n.pair.words })
            (λ i. let d = s.linked t a l i in
            record { item = d.item; there = get-left st (map Obj (list_objects vs l0)) l d.item d.there; tag = d.tag; rel = o_agree p notes w z g heap heap2 Whole a _ d.item refl (agree_left heap ws a _) d.rel })
            (in-cases (links at l0 vs) w (Lk t a l) k);
        one_address = λ t u a b l i j. ⊎_elim
            (λ i. ⊎_elim
            (λ j. let n = new_link z heap2 st2 at l0 vs t a l row i in let m = new_link z heap2 st2 at l0 vs u b l row j in
            let x = n.place in let y = m.place in let v = n.address in let q = m.address in omega arith)
            (λ j. let n = new_link z heap2 st2 at l0 vs t a l row i in let d = s.linked u b l j in let lt = get-within st l d.item d.there in let x = n.place in absurd (omega arith))
            (in-cases (links at l0 vs) w (Lk u b l) j))
            (λ i. ⊎_elim
            (λ j. let n = new_link z heap2 st2 at l0 vs u b l row j in let d = s.linked t a l i in let lt = get-within st l d.item d.there in let x = n.place in absurd (omega arith))
            (λ j. s.one_address t u a b l i j)
            (in-cases (links at l0 vs) w (Lk u b l) j))
            (in-cases (links at l0 vs) w (Lk t a l) i);
        before = λ t a l k. tt;
        behind = λ t a l k. ⊎_elim
            (λ i. let n = new_link z heap2 st2 at l0 vs t a l row i in let x = n.address in let c = chained_le heap globals s.total s.chained in omega arith)
            (s.behind t a l)
            (in-cases (links at l0 vs) w (Lk t a l) k);
        apart = λ t u a b l m i j ne. ⊎_elim
            (λ i. ⊎_elim
            (λ j. let n = new_link z heap2 st2 at l0 vs t a l row i in let k = new_link z heap2 st2 at l0 vs u b m row j in
            let x = n.place in let y = k.place in let v = n.address in let q = k.address in
            let e = two_words z heap2 st2 a l n.pair in let f = two_words z heap2 st2 b m k.pair in
            ⊎_elim (λ lt. inl (omega arith)) (λ ge. inr (let other : l ≡ m → ⊥ = ne in not_same l m n.index k.index l0 a b at x y v q e f ge ne)) (cases_lt n.index k.index))
            (λ j. let n = new_link z heap2 st2 at l0 vs t a l row i in let v = n.address in let f = s.within u b m j in let h = ap words_from (left_same heap ws b (is_within p notes w Closed globals heap st u b m s j)) in
            inr (omega arith))
            (in-cases (links at l0 vs) w (Lk u b m) j))
            (λ i. ⊎_elim
            (λ j. let n = new_link z heap2 st2 at l0 vs u b m row j in let v = n.address in let f = s.within t a l i in let h = ap words_from (left_same heap ws a (is_within p notes w Closed globals heap st t a l s i)) in
            inl (omega arith))
            (λ j. subst₂ (λ x y. (a + x ≤ b) ⊎ (b + y ≤ a)) (sym (ap words_from (left_same heap ws a (is_within p notes w Closed globals heap st t a l s i)))) (sym (ap words_from (left_same heap ws b (is_within p notes w Closed globals heap st u b m s j)))) (s.apart t u a b l m i j ne))
            (in-cases (links at l0 vs) w (Lk u b m) j))
            (in-cases (links at l0 vs) w (Lk t a l) i);
        within = λ t a l k. ⊎_elim
            (λ i. let n = new_link z heap2 st2 at l0 vs t a l row i in let v = n.address in let lt = n.below in let e = two_words z heap2 st2 a l n.pair in omega arith)
            (λ i. let f = s.within t a l i in let h = ap words_from (left_same heap ws a (is_within p notes w Closed globals heap st t a l s i)) in omega arith)
            (in-cases (links at l0 vs) w (Lk t a l) k);
        total = s.total + length vs * 3;
        chained = chained_list w heap globals s.total at us vs refl rs s.chained;
        made = omega arith;
      }
    where
      not_same : (l m i k l0 a b at : ℕ) → l0 + i ≡ l → l0 + k ≡ m → at + i * 2 ≡ a → at + k * 2 ≡ b → {x y : ℕ} → x ≡ 2 → y ≡ 2 → k ≤ i → (l ≡ m → ⊥) → b + y ≤ a
      not_same l m i k l0 a b at x y v q e f ge ne = ⊎_elim (λ lt. omega arith) (λ le. absurd (ne (omega arith))) (cases_lt k i)

  -- and so do the memories
  pub mem_list : (w : World) (heap : List Word) (st : List Item) (globals : List Value) (ahead : Option Taken) (input cin : List ℕ) (met : Bool) (us : List Word) (vs : List Value) →
      Memory p notes w Closed heap st globals ahead input cin met → WsRel w us vs →
      Memory p notes (links (length heap) (length st) vs ++ w) Closed (heap ++ list_words (length heap) us) (st ++ map Obj (list_objects vs (length st))) globals ahead input cin met
  mem_list w heap st globals ahead input cin met us vs mem rs = record {
    stores = stores_list w (globals_words p notes) heap st us vs mem.stores rs;
    held = p_agree w (links (length heap) (length st) vs ++ w) (λ k i. in-right (links (length heap) (length st) vs) w k i) heap (heap ++ list_words (length heap) us) 0 (length globals) (length globals) globals (omega arith) (agree_left heap (list_words (length heap) us) 0 (length globals)) mem.held;
    count = mem.count;
    inputs = mem.inputs;
    padded = λ k a b. get-left heap (list_words (length heap) us) k _ (mem.padded k a b);
    statics = λ n s e. let q = mem.statics n s e in (q.0, q.1, in-right (links (length heap) (length st) vs) w _ q.2);
  }

  pub list_word : (w : World) (at l : ℕ) (us : List Word) (vs : List Value) → WsRel w us vs → WRel (links at l vs ++ w) (list_at at us) (list_value vs l)
  list_word w at l us vs rs = list_rel (links at l vs ++ w) at l us vs (ws_grow w (links at l vs ++ w) (λ k i. in-right (links at l vs) w k i) us vs rs) (λ k i. in-left (links at l vs) w k i)
