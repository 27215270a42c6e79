-- Labels become numbers of instructions: a row of items with notes gives code that follows them.
use Rattle.std.proofs.Common.{◌≡◌, ℕ, zero, suc, ◌<◌, ◌+◌, ◌==◌, Bool, true, false, true≢false, cond, List, [], ◌∷◌, ◌++◌, map, Option, Some, None, slice_get, refl, sym, ap, ◌∙◌, subst, inl, inr, append_assoc, append-nil, eq-eqb, eqb-true, arith}
use Rattle.std.specs.Prelude.{find}
use Rattle.std.specs.Option.{option_map}
use Rattle.std.proofs.lemmas.Option.{slice_get-map}
use Rattle.tb_prim.specs.declared.place.Place.{Place}
use Rattle.tb_prim.specs.declared.constant.Const.{Const}
use Rattle.tb_prim.specs.declared.constant.Static.{Static}
use Rattle.tb_semantics.specs.Graph.{IsApart, IsIn}
use Rattle.tb_semantics.proofs.ListLemmas.{in-right}
use Rattle.tb_ir.specs.AnfMachine.{proc_of}
use Rattle.tb_mac.specs.LiveWords.{is_lifted}
use Rattle.tb_ir.specs.AnfTree.{Block, Op, ProcTree, AnfTree}
use Rattle.tb_mac.specs.declared.code.Instr.{Instr}
use Rattle.tb_mac.specs.declared.code.PlaceEntry.{PlaceEntry}
use Rattle.tb_mac.specs.declared.item.Item.{Item}
use Rattle.tb_mac.specs.Assemble.{instructions, item_maps, item_places, labels, number_of, placed_at, stands_at, with_target}
use Rattle.tb_mac.specs.MacStep.{place_of}
use Rattle.tb_mac.specs.Words.{on_some}
use Rattle.tb_codegen.specs.Notes.{Entry, Waiting, Own, Away, Here, Ready, Note, Inside, AtProc, AtArgs, AtLifted, Noted, Mark, Does, item_of, note_map}
use Rattle.tb_codegen.specs.Operations.{constant}
use Rattle.tb_codegen.specs.PlainCode.{code_of}
use Rattle.tb_codegen.specs.Generate.{noted_items}
use Rattle.tb_codegen.proofs.Ok.{Acts, a_quote, a_global, a_use0, a_use1, a_use2, a_use3, a_cell, a_get, Writes, w_set, w_define, w_cell, Calls, from_ready, from_away, Onward, not_yet, all_done, Ok, ok_load, ok_store, ok_const, ok_save, ok_setrtn, ok_pop, ok_jump, ok_form, ok_end, ok_act, ok_read, ok_write, ok_unspecified, ok_given, ok_branch, ok_return, ok_invoke, ok_apply, ok_direct, ok_proc, ok_lifted, ok_args, ok_args_ge, ok_capt, ok_close, ok_open, ok_fill, ok_filled, ok_first, ok_next, ok_stored, ok_word, HasNote, Further, Falls, Follows}
use Rattle.tb_codegen.proofs.Chains.{Target, target, Chain, c_end, c_does, c_mark, c_dead}

-- notes with numbers of instructions in place of labels
abbrev pub own_at : (ℕ → ℕ) → Own → Own
own_at a Away = Away
own_at a (Here s) = Here s
own_at a (Ready s l) = Ready s (a l)

abbrev pub note_at : (ℕ → ℕ) → Note → Note
note_at a (Inside pt own es) = Inside pt (own_at a own) es
note_at a (AtProc m) = AtProc m
note_at a (AtArgs m) = AtArgs m
note_at a (AtLifted m es) = AtLifted m es

abbrev pub behind_at : (ℕ → ℕ) → Option Note → Option Note
behind_at a None = None
behind_at a (Some n) = Some (note_at a n)

-- the notes of items
abbrev pub notes_of : (ℕ → ℕ) → List Noted → List Note
notes_of a [] = []
notes_of a (Mark l n ∷ is) = notes_of a is
notes_of a (Does i n q ∷ is) = note_at a n ∷ notes_of a is

-- conditions do not depend on what labels are
const_target : (a : ℕ → ℕ) (statics : List Static) (d : ℕ) (k : Const) → with_target a (constant statics d k) ≡ constant statics d k
const_target a statics d (Const.Stat n) = refl
const_target a statics d (Const.Fix v) = refl
const_target a statics d (Const.Char v) = refl
const_target a statics d (Const.Bool b) = refl
const_target a statics d Const.Nil = refl
const_target a statics d Const.Unspecified = refl
const_target a statics d Const.Undefined = refl

acts_at : (p : AnfTree) (a : ℕ → ℕ) (op : Op) (i : Instr) (rs : List ℕ) (d : ℕ) → Acts p op i rs d → Acts p op (with_target a i) rs d
acts_at p a op i rs d (a_quote k j e h w) = a_quote k (with_target a j) e (ap (with_target a) h ∙ const_target a p.statics e k) w
acts_at p a op i rs d (a_global g q e lt) = a_global g q e lt
acts_at p a op i rs d (a_use0 r q e) = a_use0 r q e
acts_at p a op i rs d (a_use1 r x q e b) = a_use1 r x q e b
acts_at p a op i rs d (a_use2 r x y q e b f) = a_use2 r x y q e b f
acts_at p a op i rs d (a_use3 r x y z q b f g) = a_use3 r x y z q b f g
acts_at p a op i rs d (a_cell x e b) = a_cell x e b
acts_at p a op i rs d (a_get x q e b) = a_get x q e b

writes_at : (p : AnfTree) (a : ℕ → ℕ) (op : Op) (i : Instr) (rs : List ℕ) → Writes p op i rs → Writes p op (with_target a i) rs
writes_at p a op i rs (w_set g x q b lt) = w_set g x q b lt
writes_at p a op i rs (w_define g x b lt) = w_define g x b lt
writes_at p a op i rs (w_cell x y b d) = w_cell x y b d

onward_at : (p : AnfTree) (a : ℕ → ℕ) (own : Own) (mid : List Entry) (made : ℕ) (ns xs ls : List ℕ) (k : Block) (js : Waiting) (n : Note) →
    Onward p own mid made ns xs ls k js n → Onward p (own_at a own) mid made ns xs ls k js (note_at a n)
onward_at p a own mid made ns xs ls k js n not_yet = not_yet
onward_at p a own mid made ns xs ls k js n (all_done s e f i) = all_done s e f i

module _ (p : AnfTree) (T F U G : ℕ → Note → Type 0) (a : ℕ → ℕ) (t : (l : ℕ) (n : Note) → T l n → U (a l) (note_at a n))
    (f : (l : ℕ) (n : Note) → F l n → G (a l) (note_at a n)) where
  calls_at : (js : Waiting) (o : Option (List ℕ)) (old : List Entry) (own : Own) → Calls p T js o old own → Calls p U js o old (own_at a own)
  calls_at js o old own (from_ready r h b) = from_ready (t _ _ r) h b
  calls_at js o old own (from_away e) = from_away e

  pub ok_at : (i : Instr) (q : Option Place) (n : Note) (o : Option Note) → Ok p T F i q n o → Ok p U G (with_target a i) q (note_at a n) (behind_at a o)
  ok_at i q n o (ok_load z lt st into) = ok_load z lt st into
  ok_at i q n o (ok_store z lt st into) = ok_store z lt st into
  ok_at i q n o (ok_const j k e w lt into) = ok_const (with_target a j) k (ap (with_target a) e ∙ const_target a p.statics _ k) w lt into
  ok_at i q n o (ok_save from) = ok_save from
  ok_at i q n o (ok_setrtn from) = ok_setrtn from
  ok_at i q n o (ok_pop ns from) = ok_pop ns from
  ok_at i q n o (ok_jump m from) = ok_jump (f _ _ m) from
  ok_at i q n o (ok_form b s e) = ok_form b s e
  ok_at i q n o (ok_end e) = ok_end e
  ok_at i q n o (ok_act op rs w at lt args into) = ok_act op rs (acts_at p a op i rs _ w) at lt args into
  ok_at i q n o (ok_read at lt st into) = ok_read at lt st into
  ok_at i q n o (ok_write op rs w at args from) = ok_write op rs (writes_at p a op i rs w) at args from
  ok_at i q n o (ok_unspecified lt into) = ok_unspecified lt into
  ok_at i q n o (ok_given x k s lt st into) = ok_given x k s lt st into
  ok_at i q n o (ok_branch s1 s2 at st f1 m f2) = ok_branch s1 s2 at st f1 (t _ _ m) f2
  ok_at i q n o (ok_return st) = ok_return st
  ok_at i q n o (ok_invoke at e le args k) = ok_invoke at e le args (calls_at _ _ _ _ k)
  ok_at i q n o (ok_apply at args k) = ok_apply at args (calls_at _ _ _ _ k)
  ok_at i q n o (ok_direct m r at w e le args h s k) = ok_direct m r at w e le args (t _ _ h) s (calls_at _ _ _ _ k)
  ok_at i q n o (ok_proc m r w) = ok_proc m r w
  ok_at i q n o (ok_lifted m r s w h from) = ok_lifted m r s w h from
  ok_at i q n o (ok_args m r s w e h ap_c g k) = ok_args m r s w e h ap_c g k
  ok_at i q n o (ok_args_ge m r s w e h le ap_c g k) = ok_args_ge m r s w e h le ap_c g k
  ok_at i q n o (ok_capt m x r lt w e st into) = ok_capt m x r lt w e st into
  ok_at i q n o (ok_close m r at lt w e h into) = ok_close m r at lt w e (t _ _ h) into
  ok_at i q n o (ok_open m r at lt w e le st h into) = ok_open m r at lt w e le st (t _ _ h) into
  ok_at i q n o (ok_fill lt s1 s2 from) = ok_fill lt s1 s2 from
  ok_at i q n o (ok_filled e s1 s2 from) = ok_filled e s1 s2 from
  ok_at i q n o (ok_first lt w e h ap_x l st into ow) = ok_first lt w e (t _ _ h) ap_x l st into (onward_at p a _ _ _ _ _ _ _ _ _ ow)
  ok_at i q n o (ok_next lt w e h g1 g2 g3 long into ow) = ok_next lt w e (t _ _ h) g1 g2 g3 long into (onward_at p a _ _ _ _ _ _ _ _ _ ow)
  ok_at i q n o (ok_stored z lt st into long ow) = ok_stored z lt st into long (onward_at p a _ _ _ _ _ _ _ _ _ ow)
  ok_at i q n o (ok_word j x y m g1 g2 g3 g4 long s1 s2 from ow) = ok_word j x y m g1 g2 g3 g4 long s1 s2 from (onward_at p a _ _ _ _ _ _ _ _ _ ow)

-- an item says one thing
none-some : {X : Type 0} {x : X} → None ≡ Some x → ⊥
none-some e = cc

some-same : {X : Type 0} {x y : X} → Some x ≡ Some y → x ≡ y
some-same e = cc

does-mark : {i : Instr} {n m : Note} {q : Option Place} {l : ℕ} → Does i n q ≡ Mark l m → ⊥
does-mark e = cc

mark-label : {l m : ℕ} {n o : Note} → Mark l n ≡ Mark m o → l ≡ m
mark-label e = cc

mark-note : {l m : ℕ} {n o : Note} → Mark l n ≡ Mark m o → n ≡ o
mark-note e = cc

pub other-label : (m l base : ℕ) (js : List Noted) → (m ≡ l → ⊥) →
    cond (m == l) (Some base) (stands_at l base (map item_of js)) ≡ stands_at l base (map item_of js)
other-label m l base js ne = by (m == l) refl
  where
    by : (b : Bool) → (m == l) ≡ b → cond b (Some base) (stands_at l base (map item_of js)) ≡ stands_at l base (map item_of js)
    by true e = absurd (ne (eqb-true m l e))
    by false e = refl

-- items of notes
abbrev pub items_of : List Noted → List Item
items_of is = map item_of is

mark-in : (l : ℕ) (n : Note) (is : List Noted) → IsIn (Mark l n) is → IsIn l (labels (items_of is))
mark-in l n [] i = absurd i
mark-in l n (Mark m o ∷ is) (inl e) = inl (mark-label e)
mark-in l n (Mark m o ∷ is) (inr i) = inr (mark-in l n is i)
mark-in l n (Does j o q ∷ is) (inl e) = absurd (does-mark e)
mark-in l n (Does j o q ∷ is) (inr i) = mark-in l n is i

-- the maps and the places of items with notes
maps-same : (a : ℕ → ℕ) (is : List Noted) → item_maps (items_of is) ≡ map note_map (notes_of a is)
maps-same a [] = refl
maps-same a (Mark l n ∷ is) = maps-same a is
maps-same a (Does i n q ∷ is) = ap (λ m. m ∷ item_maps (items_of is)) (map-same n) ∙ ap (λ ms. note_map (note_at a n) ∷ ms) (maps-same a is)
  where
    map-same : (o : Note) → note_map o ≡ note_map (note_at a o)
    map-same (Inside pt Away es) = refl
    map-same (Inside pt (Here s) es) = refl
    map-same (Inside pt (Ready s l) es) = refl
    map-same (AtProc m) = refl
    map-same (AtArgs m) = refl
    map-same (AtLifted m es) = refl

later-none : (n m : ℕ) (is : List Noted) → m < n → place_of (item_places n (items_of is)) m ≡ None
later-none n m [] lt = refl
later-none n m (Mark l o ∷ is) lt = later-none n m is lt
later-none n m (Does i o None ∷ is) lt = later-none (suc n) m is (omega arith)
later-none n m (Does i o (Some q) ∷ is) lt =
    by (n == m) refl (later-none (suc n) m is (omega arith))
  where
    by : (b : Bool) → (n == m) ≡ b → place_of (item_places (suc n) (items_of is)) m ≡ None →
        option_map (λ (e : PlaceEntry). e.place) (cond b (Some (record { instr = n; place = q })) (find (λ (e : PlaceEntry). e.instr == m) (item_places (suc n) (items_of is)))) ≡ None
    by true e so = absurd (let h = eqb-true n m e in omega (arith, h, lt))
    by false e so = so

place-skip : (n m : ℕ) (q : Option Place) (es : List PlaceEntry) → n < m → place_of (placed_at n q ++ es) m ≡ place_of es m
place-skip n m None es lt = refl
place-skip n m (Some q) es lt = by (n == m) refl
  where
    by : (b : Bool) → (n == m) ≡ b →
        option_map (λ (e : PlaceEntry). e.place) (cond b (Some (record { instr = n; place = q })) (find (λ (e : PlaceEntry). e.instr == m) es)) ≡ place_of es m
    by true e = absurd (let h = eqb-true n m e in omega (arith, h, lt))
    by false e = refl

place-here : (n : ℕ) (q : Option Place) (is : List Noted) → place_of (placed_at n q ++ item_places (suc n) (items_of is)) n ≡ q
place-here n None is = later-none (suc n) n is (omega arith)
place-here n (Some q) is =
    ap (λ b. option_map (λ (e : PlaceEntry). e.place) (cond b (Some (record { instr = n; place = q })) (find (λ (e : PlaceEntry). e.instr == n) (item_places (suc n) (items_of is)))))
    (eq-eqb n n refl)

-- the place of each instruction
abbrev places_list : List Noted → List (Option Place)
places_list [] = []
places_list (Mark l n ∷ is) = places_list is
places_list (Does i n q ∷ is) = q ∷ places_list is

place-at : (base : ℕ) (is : List Noted) (pc : ℕ) (q : Option Place) → slice_get (places_list is) pc ≡ Some q →
    place_of (item_places base (items_of is)) (base + pc) ≡ q
place-at base [] pc q e = absurd (none-some e)
place-at base (Mark l n ∷ is) pc q e = place-at base is pc q e
place-at base (Does i n r ∷ is) zero q e =
    let z : base + 0 ≡ base = omega arith in
    ap (place_of (placed_at base r ++ item_places (suc base) (items_of is))) z ∙ place-here base r is ∙ some-same e
place-at base (Does i n r ∷ is) (suc pc) q e =
    let z : base + suc pc ≡ suc base + pc = omega arith in
    place-skip base (base + suc pc) r _ (omega arith) ∙ ap (place_of (item_places (suc base) (items_of is))) z ∙ place-at (suc base) is pc q e

module _ (p : AnfTree) (all : List Noted) where
  first-note : (a : ℕ → ℕ) (n : Note) (is : List Noted) → Chain p all [] (Some n) is None → slice_get (notes_of a is) 0 ≡ Some (note_at a n)
  first-note a n is (c_does ok h) = refl
  first-note a n is (c_mark h) = first-note a n _ h

  -- where a label stands is the note of its mark
  pub label-note : (a : ℕ → ℕ) (base : ℕ) (o : Option Note) (is : List Noted) (l : ℕ) (n : Note) → Chain p all [] o is None → IsIn (Mark l n) is →
      IsApart (labels (items_of is)) → (k : ℕ) × (stands_at l base (items_of is) ≡ Some (base + k)) × (slice_get (notes_of a is) k ≡ Some (note_at a n))
  label-note a base o is l n c_end i ap_is = absurd i
  label-note a base o is l n (c_does {is = js} ok h) (inl e) ap_is = absurd (does-mark e)
  label-note a base o is l n (c_does {is = js} ok h) (inr i) ap_is =
      let r = label-note a (suc base) _ js l n h i ap_is in
      let z : suc base + r.0 ≡ base + suc r.0 = omega arith in
      (suc r.0, r.1 ∙ ap Some z, r.2)
  label-note a base o is l n (c_mark {l = m} {n = k} {is = js} h) (inl e) ap_is =
      let z : base ≡ base + 0 = omega arith in (
        0,
        ap (λ t. cond t (Some base) (stands_at l base (items_of js))) (eq-eqb m l (mark-label e)) ∙ ap Some z,
        first-note a k js h ∙ ap (λ u. Some (note_at a u)) (mark-note e),
      )
  label-note a base o is l n (c_mark {l = m} {is = js} h) (inr i) ap_is =
      let r = label-note a base _ js l n h i ap_is.1 in
      (r.0, other-label m l base js (λ e. ap_is.0 (subst (λ k. IsIn k (labels (items_of js))) (sym e) (mark-in l n js i))) ∙ r.1, r.2)
  label-note a base o is l n (c_dead {l = m} {n = k} {is = js} h) (inl e) ap_is =
      let z : base ≡ base + 0 = omega arith in (
        0,
        ap (λ t. cond t (Some base) (stands_at l base (items_of js))) (eq-eqb m l (mark-label e)) ∙ ap Some z,
        first-note a k js h ∙ ap (λ u. Some (note_at a u)) (mark-note e),
      )
  label-note a base o is l n (c_dead {l = m} {is = js} h) (inr i) ap_is =
      let r = label-note a base _ js l n h i ap_is.1 in
      (r.0, other-label m l base js (λ e. ap_is.0 (subst (λ k. IsIn k (labels (items_of js))) (sym e) (mark-in l n js i))) ∙ r.1, r.2)

-- how many instructions items have
abbrev pub count : List Noted → ℕ
count [] = 0
count (Mark l n ∷ is) = count is
count (Does i n q ∷ is) = suc (count is)

labels-append : (xs is : List Noted) → labels (items_of (xs ++ is)) ≡ labels (items_of xs) ++ labels (items_of is)
labels-append [] is = refl
labels-append (Mark l n ∷ xs) is = ap (λ ls. l ∷ ls) (labels-append xs is)
labels-append (Does i n q ∷ xs) is = labels-append xs is

-- a label that does not stand among the first items stands among the others
stands-behind : (l base : ℕ) (xs is : List Noted) → (IsIn l (labels (items_of xs)) → ⊥) →
    stands_at l base (items_of (xs ++ is)) ≡ stands_at l (base + count xs) (items_of is)
stands-behind l base [] is ne = let z : base ≡ base + 0 = omega arith in ap (λ b. stands_at l b (items_of is)) z
stands-behind l base (Mark m n ∷ xs) is ne =
    other-label m l base (xs ++ is) (λ e. ne (inl e)) ∙ stands-behind l base xs is (λ i. ne (inr i))
stands-behind l base (Does i n q ∷ xs) is ne =
    let z : suc base + count xs ≡ base + suc (count xs) = omega arith in
    stands-behind l (suc base) xs is ne ∙ ap (λ b. stands_at l b (items_of is)) z

stands-number : (l base : ℕ) (js : List Noted) → IsIn l (labels (items_of js)) → (k : ℕ) × (stands_at l base (items_of js) ≡ Some (base + k))
stands-number l base [] i = absurd i
stands-number l base (Does j n q ∷ js) i =
    let r = stands-number l (suc base) js i in let z : suc base + r.0 ≡ base + suc r.0 = omega arith in (suc r.0, r.1 ∙ ap Some z)
stands-number l base (Mark m n ∷ js) i = by (m == l) refl i (stands-number l base js)
  where
    by : (b : Bool) → (m == l) ≡ b → IsIn l (m ∷ labels (items_of js)) →
        (IsIn l (labels (items_of js)) → (k : ℕ) × (stands_at l base (items_of js) ≡ Some (base + k))) →
        (k : ℕ) × (cond b (Some base) (stands_at l base (items_of js)) ≡ Some (base + k))
    by true e h so = let z : base ≡ base + 0 = omega arith in (0, ap Some z)
    by false e (inl r) so = absurd (true≢false (sym (eq-eqb m l r) ∙ e))
    by false e (inr j) so = so j

apart-both : (xs ys : List ℕ) (l : ℕ) → IsApart (xs ++ ys) → IsIn l ys → IsIn l xs → ⊥
apart-both [] ys l h i j = j
apart-both (x ∷ xs) ys l h i (inl e) = h.0 (in-right xs ys x (subst (λ k. IsIn k ys) (sym e) i))
apart-both (x ∷ xs) ys l h i (inr j) = apart-both xs ys l h.1 i j

apart-back : (xs ys : List ℕ) → IsApart (xs ++ ys) → IsApart ys
apart-back [] ys h = h
apart-back (x ∷ xs) ys h = apart-back xs ys h.1

count-last : (xs : List Noted) (i : Instr) (n : Note) (q : Option Place) → suc (count xs) ≡ count (xs ++ Does i n q ∷ [])
count-last [] i n q = refl
count-last (Mark l k ∷ xs) i n q = count-last xs i n q
count-last (Does j k r ∷ xs) i n q = ap suc (count-last xs i n q)

count-mark : (xs : List Noted) (l : ℕ) (n : Note) → count xs ≡ count (xs ++ Mark l n ∷ [])
count-mark [] l n = refl
count-mark (Mark m k ∷ xs) l n = count-mark xs l n
count-mark (Does j k r ∷ xs) l n = ap suc (count-mark xs l n)

module _ (p : AnfTree) (all : List Noted) (apart : IsApart (labels (items_of all))) (start : Option Note) (whole : Chain p all [] start all None) where
  abbrev pub to : ℕ → ℕ
  to = number_of (items_of all)

  abbrev pub notes : List Note
  notes = notes_of to all

  -- the note at a label
  target-note : (l : ℕ) (n : Note) → Target all l n → HasNote p notes (to l) (note_at to n)
  target-note l n (target i) =
      let r = label-note p all to 0 start all l n whole i apart in
      let z : 0 + r.0 ≡ r.0 = omega arith in
      subst (λ k. HasNote p notes k (note_at to n)) (sym (ap (λ o. on_some o 0 (λ k. k)) r.1 ∙ z)) r.2

  -- and further on, where the label stands behind an instruction
  further-note : (xs js : List Noted) (i : Instr) (k : Note) (q : Option Place) → xs ++ Does i k q ∷ js ≡ all → (l : ℕ) (n : Note) →
      Target (js ++ []) l n → Further p notes (count xs) (to l) (note_at to n)
  further-note xs js i k q e l n (target h) =
      (subst (λ m. count xs < m) (sym number) (omega arith), target-note l n (target in_all))
    where
      in_js : IsIn (Mark l n) js
      in_js = subst (IsIn (Mark l n)) (append-nil js) h

      in_all : IsIn (Mark l n) all
      in_all = subst (IsIn (Mark l n)) e (in-right xs (Does i k q ∷ js) (Mark l n) (inr in_js))

      split : IsApart (labels (items_of xs) ++ labels (items_of js))
      split = subst IsApart (labels-append xs (Does i k q ∷ js)) (subst (λ is. IsApart (labels (items_of is))) (sym e) apart)

      not_before : IsIn l (labels (items_of xs)) → ⊥
      not_before = apart-both (labels (items_of xs)) (labels (items_of js)) l split (mark-in l n js in_js)

      stands : (d : ℕ) × (stands_at l (suc (0 + count xs)) (items_of js) ≡ Some (suc (0 + count xs) + d))
      stands = stands-number l (suc (0 + count xs)) js (mark-in l n js in_js)

      number : to l ≡ suc (0 + count xs) + stands.0
      number =
          ap (λ is. on_some (stands_at l 0 (items_of is)) 0 (λ m. m)) (sym e)
          ∙ ap (λ o. on_some o 0 (λ m. m)) (stands-behind l 0 xs (Does i k q ∷ js) not_before ∙ stands.1)

  next-note : (o : Option Note) (js : List Noted) → Chain p all [] o js None → (m : Note) → behind_at to o ≡ Some m →
      slice_get (notes_of to js) 0 ≡ Some m
  next-note None js h m e = absurd (none-some e)
  next-note (Some k) js h m e = first-note p all to k js h ∙ e

  -- an instruction of the last items, its place, and what it is to the notes
  record At (base pc : ℕ) (n : Note) (is : List Noted) : Type 0 where
    instr : Instr
    found : slice_get (map (with_target to) (instructions (items_of is))) pc ≡ Some instr
    placed : Option Place
    place_found : slice_get (places_list is) pc ≡ Some placed
    behind : Option Note
    ok : Ok p (HasNote p notes) (Further p notes (base + pc)) instr placed n behind
    next : (m : Note) → behind ≡ Some m → slice_get (notes_of to is) (suc pc) ≡ Some m

  walk : (base : ℕ) (xs is : List Noted) (o : Option Note) (pc : ℕ) (n : Note) → base ≡ count xs → xs ++ is ≡ all → Chain p all [] o is None →
      slice_get (notes_of to is) pc ≡ Some n → At base pc n is
  walk base xs is o pc n b e c_end g = absurd (none-some g)
  walk base xs is o zero n b e (c_does {i = i} {q = q} {n = k} {o = r} {is = js} ok h) g =
      let z : base + 0 ≡ base = omega arith in
      record {
        instr = with_target to i;
        found = refl;
        placed = q;
        place_found = refl;
        behind = behind_at to r;
        ok = subst (λ m. Ok p (HasNote p notes) (Further p notes (base + 0)) (with_target to i) q m (behind_at to r)) (some-same g)
            (subst (λ c. Ok p (HasNote p notes) (Further p notes c) (with_target to i) q (note_at to k) (behind_at to r)) (sym (z ∙ b))
            (ok_at p (Target all) (Target (js ++ [])) (HasNote p notes) (Further p notes (count xs)) to target-note (further-note xs js i k q e) i q k r ok));
        next = next-note r js h;
      }
  walk base xs is o (suc pc) n b e (c_does {i = i} {q = q} {n = k} {o = r} {is = js} ok h) g =
      let w = walk (suc base) (xs ++ Does i k q ∷ []) js r pc n (ap suc b ∙ count-last xs i k q) (append_assoc xs (Does i k q ∷ []) js ∙ e) h g in
      let z : suc base + pc ≡ base + suc pc = omega arith in
      record {
        instr = w.instr;
        found = w.found;
        placed = w.placed;
        place_found = w.place_found;
        behind = w.behind;
        ok = subst (λ c. Ok p (HasNote p notes) (Further p notes c) w.instr w.placed n w.behind) z w.ok;
        next = w.next;
      }
  walk base xs is o pc n b e (c_mark {l = l} {n = k} {is = js} h) g =
      let w = walk base (xs ++ Mark l k ∷ []) js o pc n (b ∙ count-mark xs l k) (append_assoc xs (Mark l k ∷ []) js ∙ e) h g in
      record { instr = w.instr; found = w.found; placed = w.placed; place_found = w.place_found; behind = w.behind; ok = w.ok; next = w.next }
  walk base xs is o pc n b e (c_dead {l = l} {n = k} {is = js} h) g =
      let w = walk base (xs ++ Mark l k ∷ []) js (Some k) pc n (b ∙ count-mark xs l k) (append_assoc xs (Mark l k ∷ []) js ∙ e) h g in
      record { instr = w.instr; found = w.found; placed = w.placed; place_found = w.place_found; behind = w.behind; ok = w.ok; next = w.next }

  falls-of : (pc : ℕ) (o : Option Note) → ((m : Note) → o ≡ Some m → slice_get notes (suc pc) ≡ Some m) → Falls p notes pc o
  falls-of pc None h = tt
  falls-of pc (Some m) h = let z : pc + 1 ≡ suc pc = omega arith in ap (slice_get notes) z ∙ h m refl

-- the code of a program follows the notes of its items
pub code-follows : (p : AnfTree) → IsApart (labels (items_of (noted_items p))) → (start : Option Note) →
    Chain p (noted_items p) [] start (noted_items p) None →
    ((m : ℕ) (q : ProcTree) → proc_of p.procs m ≡ Some q → is_lifted (code_of p).parts.lambdas m ≡ q.lifted) →
    Follows p (notes_of (number_of (items_of (noted_items p))) (noted_items p)) (code_of p)
code-follows p apart start whole found = record {
  each = λ pc n g.
      let w = walk p (noted_items p) apart start whole 0 [] (noted_items p) start pc n refl refl whole g in
      let z : 0 + pc ≡ pc = omega arith in
      let N = notes_of (number_of (items_of (noted_items p))) (noted_items p) in (
        w.instr,
        w.found,
        (
          w.behind,
          subst (λ q. Ok p (HasNote p N) (Further p N pc) w.instr q n w.behind)
              (sym (ap (place_of (item_places 0 (items_of (noted_items p)))) (sym z) ∙ place-at 0 (noted_items p) pc w.placed w.place_found))
              (subst (λ c. Ok p (HasNote p N) (Further p N c) w.instr w.placed n w.behind) z w.ok),
          falls-of p (noted_items p) apart start whole pc w.behind w.next,
        ),
      );
  maps = λ pc n g.
      ap (λ ms. slice_get ms pc) (maps-same (number_of (items_of (noted_items p))) (noted_items p))
      ∙ slice_get-map note_map (notes_of (number_of (items_of (noted_items p))) (noted_items p)) pc ∙ ap (option_map note_map) g;
  globals = refl;
  statics = refl;
  lambdas = found;
}
