-- The machine and the program in A-normal form start alike.
use Rattle.std.proofs.Common.{◌≡◌, refl, sym, ◌∙◌, subst, subst₂, ap, ℕ, zero, suc, ◌+◌, ◌-◌, ◌<◌, ◌/◌, ◌%◌, ◌^◌, inl, inr, ⊎_elim, arith, true, false, List, [], ◌∷◌, ◌++◌, length, map, replicate, Some, None, slice_get, append-nil, append_assoc}
use Rattle.std.specs.Prelude.{slice_index}
use Rattle.std.proofs.lemmas.Bool.{cases_lt}
use Rattle.std.proofs.lemmas.List.{length-append, length-map}
use Rattle.tb_prim.specs.declared.constant.Const.{Const}
use Rattle.tb_prim.specs.declared.constant.Static.{Static}
use Rattle.tb_semantics.specs.Graph.{IsIn}
use Rattle.tb_semantics.proofs.ListLemmas.{get-last, get-left}
use Rattle.tb_core.specs.Rules.{Every, PartKeeps, StaticKeeps, StaticsKeep}
use Rattle.tb_core.specs.Store.{Value, value_of, Undefined, Unspecified}
use Rattle.tb_ir.specs.AnfTree.{AnfTree}
use Rattle.tb_ir.specs.Machine.{Item, Running, start_of, static_item}
use Rattle.tb_ir.specs.Space.{closures_in, words_in}
use Rattle.tb_mac.specs.declared.word.Word.{Word}
use Rattle.tb_mac.specs.declared.word.Word.TheVariants as W
use Rattle.tb_mac.specs.Assembled.{Assembled}
use Rattle.tb_mac.specs.FramedRuns.{Runs, framed_start}
use Rattle.tb_mac.specs.Layout.{addresses_from, all_words, const_word, start_words, static_size, static_tag, static_words}
use Rattle.tb_mac.specs.LiveWords.{closure_count, data_size, object_size as words_from}
use Rattle.tb_mac.specs.Objects.{bytes_words, padding, raw_size, raw_words, string_kind, symbol_kind, vector_kind, vector_words}
use Rattle.tb_mac.specs.Words.{on_some, undefined, zero_word}
use Rattle.tb_codegen.specs.Notes.{Note, Inside, AtValue, Away, ToTop}
use Rattle.tb_codegen.proofs.Cells.{at_end, at_next, made_more}
use Rattle.tb_codegen.proofs.Envs.{get-within}
use Rattle.tb_codegen.proofs.Memories.{p_agree, plain_word}
use Rattle.tb_codegen.proofs.Ok.{Follows, HasNote}
use Rattle.tb_codegen.proofs.Rel.{BytesAt, ch_end, Closed, f_none, Goes, Grows, globals_words, i_none, j_top, Lk, Memory, o_away, o_pair, o_string, o_symbol, o_vector, ORel, at_value, PRel, p_none, p_full, r_inside, Stores, Whole, World, WRel, tag_of, w_at, w_char, w_false, w_fix, w_nil, w_true, w_undefined, w_unspecified, WsRel, ws_more, ws_none}
use Rattle.tb_codegen.proofs.Stored.{stores_new}

index_get : (xs : List ℕ) (i x : ℕ) → slice_get xs i ≡ Some x → slice_index xs i ≡ x
index_get [] i x e = cc
index_get (y ∷ xs) zero x e = cc (e)
index_get (y ∷ xs) (suc i) x e = index_get xs i x e

-- words that stand behind one another hold values
pub words_hold : (w : World) (heap : List Word) (a : ℕ) (us : List Word) (vs : List Value) → WsRel w us vs → ((i : ℕ) (u : Word) → slice_get us i ≡ Some u → slice_get heap (a + i) ≡ Some u) → PRel w heap a (length vs) vs
words_hold w heap a us vs ws_none h = p_none
words_hold w heap a us vs (ws_more {u = u} {us = us2} {vs = vs2} r rs) h =
    let z : a + 0 ≡ a = omega arith in
    p_full (subst (λ n. slice_get heap n ≡ Some u) z (h 0 u refl)) r
    (words_hold w heap (suc a) us2 vs2 rs (λ i x e. let q : a + suc i ≡ suc a + i = omega arith in subst (λ n. slice_get heap n ≡ Some x) q (h (suc i) x e)))

-- raw words hold bytes
record RawAt (bs : List ℕ) (k c : ℕ) : Type 0 where
  four : List ℕ
  here : slice_get (raw_words bs) (k / 4) ≡ Some (W.Raw four)
  byte : slice_get four (k % 4) ≡ Some c
  long : length four ≡ 4

raw_long : (bs : List ℕ) → length (raw_words bs) ≡ raw_size (length bs)
raw_long [] = omega arith
raw_long (a ∷ []) = omega arith
raw_long (a ∷ b ∷ []) = omega arith
raw_long (a ∷ b ∷ c ∷ []) = omega arith
raw_long (a ∷ b ∷ c ∷ d ∷ bs) = let h = raw_long bs in omega arith

raw_get : (bs : List ℕ) (k c : ℕ) → slice_get bs k ≡ Some c → RawAt bs k c
raw_get [] k c e = cc
raw_get (a ∷ []) zero c e = record { four = a ∷ 0 ∷ 0 ∷ 0 ∷ []; here = refl; byte = e; long = refl }
raw_get (a ∷ []) (suc k) c e = cc
raw_get (a ∷ b ∷ []) zero c e = record { four = a ∷ b ∷ 0 ∷ 0 ∷ []; here = refl; byte = e; long = refl }
raw_get (a ∷ b ∷ []) (suc zero) c e = record { four = a ∷ b ∷ 0 ∷ 0 ∷ []; here = refl; byte = e; long = refl }
raw_get (a ∷ b ∷ []) (suc (suc k)) c e = cc
raw_get (a ∷ b ∷ d ∷ []) zero c e = record { four = a ∷ b ∷ d ∷ 0 ∷ []; here = refl; byte = e; long = refl }
raw_get (a ∷ b ∷ d ∷ []) (suc zero) c e = record { four = a ∷ b ∷ d ∷ 0 ∷ []; here = refl; byte = e; long = refl }
raw_get (a ∷ b ∷ d ∷ []) (suc (suc zero)) c e = record { four = a ∷ b ∷ d ∷ 0 ∷ []; here = refl; byte = e; long = refl }
raw_get (a ∷ b ∷ d ∷ []) (suc (suc (suc k))) c e = cc
raw_get (a ∷ b ∷ d ∷ f ∷ bs) zero c e = record { four = a ∷ b ∷ d ∷ f ∷ []; here = refl; byte = e; long = refl }
raw_get (a ∷ b ∷ d ∷ f ∷ bs) (suc zero) c e = record { four = a ∷ b ∷ d ∷ f ∷ []; here = refl; byte = e; long = refl }
raw_get (a ∷ b ∷ d ∷ f ∷ bs) (suc (suc zero)) c e = record { four = a ∷ b ∷ d ∷ f ∷ []; here = refl; byte = e; long = refl }
raw_get (a ∷ b ∷ d ∷ f ∷ bs) (suc (suc (suc zero))) c e = record { four = a ∷ b ∷ d ∷ f ∷ []; here = refl; byte = e; long = refl }
raw_get (a ∷ b ∷ d ∷ f ∷ bs) (suc (suc (suc (suc k)))) c e =
    let t = raw_get bs k c e in
    let q : suc (k / 4) ≡ suc (suc (suc (suc k))) / 4 = omega arith in
    let m : k % 4 ≡ suc (suc (suc (suc k))) % 4 = omega arith in
    let h : slice_get (raw_words (a ∷ b ∷ d ∷ f ∷ bs)) (suc (k / 4)) ≡ Some (W.Raw t.four) = t.here in
    record { four = t.four; here = subst (λ n. slice_get (raw_words (a ∷ b ∷ d ∷ f ∷ bs)) n ≡ Some (W.Raw t.four)) q h; byte = subst (λ n. slice_get t.four n ≡ Some c) m t.byte; long = t.long }

length_same : {X : Type 0} (n : ℕ) (x : X) → length (replicate n x) ≡ n
length_same zero x = refl
length_same (suc n) x = ap suc (length_same n x)

same_hold : (w : World) (n : ℕ) → WsRel w (replicate n undefined) (replicate n Undefined)
same_hold w zero = ws_none
same_hold w (suc n) = ws_more w_undefined (same_hold w n)

get_same : (n k : ℕ) → k < n → slice_get (replicate n zero_word) k ≡ Some zero_word
get_same zero k lt = absurd (omega arith)
get_same (suc n) zero lt = refl
get_same (suc n) (suc k) lt = get_same n k (omega arith)

-- the links of the static objects, and the words of what they hold
record Known (w : World) (all : List Static) (ats : List ℕ) (n : ℕ) : Type 0 where
  known : (k : ℕ) → k < n → (s : Static) × (a : ℕ) × (slice_get all k ≡ Some s) × (slice_get ats k ≡ Some a) × IsIn (Lk (static_tag s) a k) w

part_word : (w : World) (all : List Static) (ats : List ℕ) (n : ℕ) → Known w all ats n → (c : Const) → PartKeeps n c → WRel w (const_word all ats c) (value_of c)
part_word w all ats n h (Const.Fix v) k = w_fix v
part_word w all ats n h (Const.Char v) k = w_char v
part_word w all ats n h (Const.Bool true) k = w_true
part_word w all ats n h (Const.Bool false) k = w_false
part_word w all ats n h Const.Nil k = w_nil
part_word w all ats n h Const.Unspecified k = w_unspecified
part_word w all ats n h Const.Undefined k = absurd k
part_word w all ats n h (Const.Stat m) k =
    let t = h.known m k in
    let e : slice_index ats m ≡ t.1 = index_get ats m t.1 t.3 in
    let q : on_some (slice_get all m) 0 static_tag ≡ static_tag t.0 = ap (λ o. on_some o 0 static_tag) t.2 in
    subst₂ (λ x y. WRel w (W.Pointer x y) (Value.At m)) (sym q) (sym e) (w_at t.4)

part_words : (w : World) (all : List Static) (ats : List ℕ) (n : ℕ) → Known w all ats n → (cs : List Const) → Every (PartKeeps n) cs → WsRel w (map (const_word all ats) cs) (map value_of cs)
part_words w all ats n h [] k = ws_none
part_words w all ats n h (c ∷ cs) k = ws_more (part_word w all ats n h c k.0) (part_words w all ats n h cs k.1)

module _ (p : AnfTree) (notes : List Note) where
  -- a static object that is made
  record Made (w z : World) (heap : List Word) (all : List Static) (ats : List ℕ) (s : Static) : Type 0 where
    head : Word
    here : slice_get (heap ++ static_words all ats s) (length heap) ≡ Some head
    long : length (static_words all ats s) ≡ words_from (Some head)
    size : static_size s ≡ words_from (Some head)
    room : closure_count (Some head) + data_size (Some head) ≡ closures_in (static_item s) + words_in (static_item s)
    rel : ORel p notes z (heap ++ static_words all ats s) Whole (length heap) (static_item s)

  bytes_there : (heap : List Word) (kind : ℕ) (bs : List ℕ) → BytesAt (heap ++ bytes_words kind bs) (length heap + 1) bs
  bytes_there heap kind bs = record {
    bytes = λ k c e.
        let t = raw_get bs k c e in
        let q : length heap + suc (k / 4) ≡ length heap + 1 + k / 4 = omega arith in
        let f = get-left (raw_words bs) (padding (raw_size (length bs) + 1)) (k / 4) _ t.here in
        (t.four, subst (λ i. slice_get (heap ++ bytes_words kind bs) i ≡ Some (W.Raw t.four)) q (at_next heap (bytes_words kind bs) (suc (k / 4)) _ f), t.byte, t.long);
  }

  bytes_long : (kind : ℕ) (bs : List ℕ) → length (bytes_words kind bs) ≡ (raw_size (length bs) + 1) + (raw_size (length bs) + 1) % 2
  bytes_long kind bs =
      let a = raw_long bs in
      let b = length-append (raw_words bs) (padding (raw_size (length bs) + 1)) in
      let c = length_same ((raw_size (length bs) + 1) % 2) zero_word in
      omega arith

  made_static : (w z : World) (heap : List Word) (all : List Static) (ats : List ℕ) (n : ℕ) → Known w all ats n → Grows w z → (s : Static) → StaticKeeps n s → Made w z heap all ats s
  made_static w z heap all ats n h g (Static.Pair a b) k =
      let ua = const_word all ats a in let ub = const_word all ats b in
      let ra = part_word w all ats n h a k.0 in let rb = part_word w all ats n h b k.1 in
      let pl = plain_word w ua (value_of a) ra in
      let f1 = pl.size in let f2 = pl.closures in let f3 = pl.words in
      let ws = ua ∷ ub ∷ [] in
      let e = at_end heap ws ua refl in
      let held : PRel w (heap ++ ws) (length heap) 2 (value_of a ∷ value_of b ∷ []) = words_hold w (heap ++ ws) (length heap) ws (value_of a ∷ value_of b ∷ []) (ws_more ra (ws_more rb ws_none)) (λ i u e. at_next heap ws i u e) in
      record {
        head = ua;
        here = e;
        long = sym f1;
        size = sym f1;
        room = omega arith;
        rel = o_pair (p_agree w z g (heap ++ ws) (heap ++ ws) (length heap) 2 (length heap + 2) (value_of a ∷ value_of b ∷ []) (omega arith) (record { agree = λ k u le lt e. e }) held);
      }
  made_static w z heap all ats n h g (Static.Vector cs) k =
      let us = map (const_word all ats) cs in
      let vs = map value_of cs in
      let ws = vector_words us in
      let lu : length us ≡ length cs = length-map cs (const_word all ats) in
      let lv : length vs ≡ length cs = length-map cs value_of in
      let la = length-append us (padding (length us + 1)) in
      let lp = length_same ((length us + 1) % 2) zero_word in
      let e = at_end heap ws (W.Header vector_kind (length us)) refl in
      let same : length us ≡ length vs = lu ∙ sym lv in
      let held : PRel w (heap ++ ws) (length heap + 1) (length vs) vs = words_hold w (heap ++ ws) (length heap + 1) us vs (part_words w all ats n h cs k.1)
      (λ i u e. let q : length heap + suc i ≡ length heap + 1 + i = omega arith in subst (λ i. slice_get (heap ++ ws) i ≡ Some u) q (at_next heap ws (suc i) u (get-left us (padding (length us + 1)) i u e))) in
      let few = k.0 in
      record {
        head = W.Header vector_kind (length us);
        here = e;
        long = omega arith;
        size = (ap (λ n. (n + 1) + (n + 1) % 2) (sym lu));
        room = omega arith;
        rel = o_vector (subst (λ n. n < 2 ^ 24) (sym lv) few) (subst (λ n. slice_get (heap ++ ws) (length heap) ≡ Some (W.Header vector_kind n)) same e)
            (p_agree w z g (heap ++ ws) (heap ++ ws) (length heap + 1) (length vs) (length heap + 1 + length vs) vs (omega arith) (record { agree = λ k u le lt e. e }) held);
      }
  made_static w z heap all ats n h g (Static.Str bs) k =
      let ws = bytes_words string_kind bs in
      let e = at_end heap ws (W.Header string_kind (length bs)) refl in
      record {
        head = W.Header string_kind (length bs);
        here = e;
        long = bytes_long string_kind bs;
        size = refl;
        room = omega arith;
        rel = o_string k e (bytes_there heap string_kind bs);
      }
  made_static w z heap all ats n h g (Static.Sym bs) k =
      let ws = bytes_words symbol_kind bs in
      let e = at_end heap ws (W.Header symbol_kind (length bs)) refl in
      record {
        head = W.Header symbol_kind (length bs);
        here = e;
        long = bytes_long symbol_kind bs;
        size = refl;
        room = omega arith;
        rel = o_symbol k e (bytes_there heap symbol_kind bs);
      }

  tag_same : (s : Static) → tag_of (static_item s) ≡ static_tag s
  tag_same (Static.Pair a b) = refl
  tag_same (Static.Vector cs) = refl
  tag_same (Static.Str bs) = refl
  tag_same (Static.Sym bs) = refl

  -- all static objects, one behind the other
  record Rest (all : List Static) (ats : List ℕ) (n a : ℕ) (ss : List Static) : Type 0 where
    here : (i : ℕ) → slice_get all (n + i) ≡ slice_get ss i
    at : (i : ℕ) → slice_get ats (n + i) ≡ slice_get (addresses_from a ss) i

  all_stores : (w : World) (g : ℕ) (heap : List Word) (st : List Item) (all : List Static) (ats : List ℕ) (ss : List Static) → Stores p notes w Closed g heap st →
      Known w all ats (length st) → Rest all ats (length st) (length heap) ss → StaticsKeep (length st) ss →
      (z : World) × Stores p notes z Closed g (heap ++ all_words all ats ss) (st ++ map static_item ss) × Known z all ats (length st + length ss)
  all_stores w g heap st all ats [] s h r k =
      let q : length st ≡ length st + 0 = omega arith in
      (w, subst₂ (λ hp st. Stores p notes w Closed g hp st) (sym (append-nil heap)) (sym (append-nil st)) s, subst (λ n. Known w all ats n) q h)
  all_stores w g heap st all ats (x ∷ ss) s h r k =
      let ws = static_words all ats x in
      let i = static_item x in
      let z : World = Lk (tag_of i) (length heap) (length st) ∷ w in
      let m = made_static w z heap all ats (length st) h (λ k i. inr i) x k.0 in
      let more = made_more st i in
      let rm = m.room in let sm = s.made in
      let n = stores_new p notes w Closed Closed g heap ws st (st ++ i ∷ []) (length st) i m.head s m.here m.long (get-last st i)
      (λ t a j. let d = s.linked t a (length st) j in let lt = get-within st (length st) d.item d.there in absurd (omega arith))
      (λ m j e. get-left st (i ∷ []) m j e) m.rel (λ t a m j. refl) (λ t a m j. tt) tt (omega arith) in
      let ls = length-append st (i ∷ []) in
      let lh = length-append heap ws in
      let l1 : suc (length st) ≡ length (st ++ i ∷ []) = omega arith in
      let e1 = m.long in let e2 = m.size in
      let l2 : length heap + static_size x ≡ length (heap ++ ws) = omega arith in
      let z0 : length st + 0 ≡ length st = omega arith in
      let know : Known z all ats (suc (length st)) = record {
        known = λ k lt. ⊎_elim
            (λ lt. let t = h.known k lt in (t.0, t.1, t.2, t.3, inr t.4))
            (λ ge.
            let q : length st ≡ k = omega arith in
            let e3 : slice_get all (length st) ≡ Some x = subst (λ n. slice_get all n ≡ Some x) z0 (r.here 0) in
            let e4 : slice_get ats (length st) ≡ Some (length heap) = subst (λ n. slice_get ats n ≡ Some (length heap)) z0 (r.at 0) in
            let e5 : Lk (tag_of i) (length heap) (length st) ≡ Lk (static_tag x) (length heap) (length st) = ap (λ t. Lk t (length heap) (length st)) (tag_same x) in
            subst (λ k. (s : Static) × (a : ℕ) × (slice_get all k ≡ Some s) × (slice_get ats k ≡ Some a) × IsIn (Lk (static_tag s) a k) z) q (x, length heap, e3, e4, inl e5))
            (cases_lt k (length st));
      } in
      let rest : Rest all ats (suc (length st)) (length heap + static_size x) ss = record {
        here = λ i. (let q : suc (length st) + i ≡ length st + suc i = omega arith in ap (slice_get all) q ∙ r.here (suc i));
        at = λ i. (let q : suc (length st) + i ≡ length st + suc i = omega arith in ap (slice_get ats) q ∙ r.at (suc i));
      } in
      let t = all_stores z g (heap ++ ws) (st ++ i ∷ []) all ats ss n (subst (λ n. Known z all ats n) l1 know) (subst₂ (λ n a. Rest all ats n a ss) l1 l2 rest) (subst (λ n. StaticsKeep n ss) l1 k.1) in
      let b : length (st ++ i ∷ []) + length ss ≡ length st + suc (length ss) = omega arith in
      (t.0, subst₂ (λ hp st. Stores p notes t.0 Closed g hp st) (append_assoc heap ws (all_words all ats ss)) (append_assoc st (i ∷ []) (map static_item ss)) t.1, subst (λ n. Known t.0 all ats n) b t.2)

  start_known : (all : List Static) (ats : List ℕ) → Known [] all ats 0
  start_known all ats = record { known = λ k lt. absurd (omega arith) }

  no_stores : (g : ℕ) (heap : List Word) → g ≡ length heap → Stores p notes [] Closed g heap []
  no_stores g heap e = record {
    linked = λ t a l i. absurd i;
    one_address = λ t u a b l i j. absurd i;
    before = λ t a l i. absurd i;
    behind = λ t a l i. absurd i;
    apart = λ t u a b l m i j ne. absurd i;
    within = λ t a l i. absurd i;
    total = 0;
    chained = ch_end e;
    made = omega arith;
  }

  -- the memory at the start
  start_memory : (c : Assembled) → Follows p notes c → StaticsKeep 0 p.statics → (input : List ℕ) →
      (w : World) × Memory p notes w Closed (start_words c.parts) (map static_item p.statics) (replicate (length p.globals) Undefined) None input input false
  start_memory c fo keeps input =
      let n = length p.globals in
      let g = globals_words p notes in
      let front = replicate n undefined ++ padding n in
      let l1 = length_same n undefined in
      let l2 = length_same (n % 2) zero_word in
      let l3 = length-append (replicate n undefined) (padding n) in
      let lg : g ≡ length front = omega arith in
      let ats = addresses_from g p.statics in
      let r : Rest p.statics ats 0 (length front) p.statics = record {
        here = λ i. (let q : 0 + i ≡ i = omega arith in ap (slice_get p.statics) q);
        at = λ i. (let q : 0 + i ≡ i = omega arith in ap (slice_get ats) q ∙ ap (λ a. slice_get (addresses_from a p.statics) i) lg);
      } in
      let t = all_stores [] g front [] p.statics ats p.statics (no_stores g front lg) (start_known p.statics ats) r keeps in
      let heap = front ++ all_words p.statics ats p.statics in
      let eg : length c.parts.globals ≡ n = ap length fo.globals in
      let words : heap ≡ start_words c.parts =
      ap (λ ss. front ++ all_words ss (addresses_from g ss) ss) (sym fo.statics) ∙
      ap (λ n. (replicate n undefined ++ padding n) ++ all_words c.parts.statics (addresses_from (n + n % 2) c.parts.statics) c.parts.statics) (sym eg) in
      let lgs = length_same n Undefined in
      let held : PRel t.0 heap 0 (length (replicate n Undefined)) (replicate n Undefined) = words_hold t.0 heap 0 (replicate n undefined) (replicate n Undefined) (same_hold t.0 n)
      (λ i u e. let q : i ≡ 0 + i = omega arith in subst (λ i. slice_get heap i ≡ Some u) q (get-left front (all_words p.statics ats p.statics) i u (get-left (replicate n undefined) (padding n) i u e))) in (
        t.0,
        subst (λ hp. Memory p notes t.0 Closed hp (map static_item p.statics) (replicate n Undefined) None input input false) words (record {
          stores = t.1;
          held = held;
          count = lgs;
          padded = λ k le lt.
              let q : length (replicate n undefined) + (k - n) ≡ k = omega arith in
              subst (λ k. slice_get heap k ≡ Some zero_word) q (get-left front _ (length (replicate n undefined) + (k - n)) zero_word (at_next (replicate n undefined) (padding n) (k - n) zero_word (get_same (n % 2) (k - n) (omega arith))));
          inputs = i_none input;
          statics = λ k s e. let know = t.2 in
              let lt = get-within p.statics k s e in
              let h = know.known k (omega arith) in
              let same : h.0 ≡ s = cc (h.2, e) in
              (h.1, h.3, subst (λ s. IsIn (Lk (static_tag s) h.1 k) t.0) same h.4);
        }),
      )

  -- both start alike
  pub starts_alike : (c : Assembled) (heap : ℕ) (input : List ℕ) → Follows p notes c → StaticsKeep 0 p.statics → HasNote p notes 0 (Inside (AtValue (ToTop 0)) Away []) →
      Goes p notes (Runs (framed_start c heap) input []) (Running (start_of p.globals p.statics input) [])
  starts_alike c heap input fo keeps note =
      let t = start_memory c fo keeps input in
      (t.0, r_inside [] note (at_value Unspecified (j_top 0)) (record { holds = λ q s i. absurd i }) o_away f_none t.1 (length_same 17 zero_word))
