-- What live words lead to can be reached in the source.
use Rattle.std.proofs.Common.{◌≡◌, refl, sym, subst, ap, ℕ, zero, suc, ◌+◌, ◌<◌, ◌%◌, Bool, arith, inl, inr, ⊎_elim, List, [], ◌∷◌, ◌++◌, length, Some, slice_get}
use Rattle.std.specs.Prelude.{pos, take}
use Rattle.std.proofs.lemmas.Bool.{cases_lt}
use Rattle.tb_prim.specs.declared.constant.Const.{Const}
use Rattle.tb_prim.specs.declared.constant.Const.TheVariants as K
use Rattle.tb_prim.specs.declared.constant.Static.{Static}
use Rattle.tb_semantics.specs.Graph.{Graph, IsIn, Reaches}
use Rattle.tb_semantics.proofs.ListLemmas.{get-some, in-cases, in-left, in-right}
use Rattle.tb_semantics.proofs.Reachable.{HasMatch}
use Rattle.tb_core.specs.Store.{Value, value_of}
use Rattle.tb_core.specs.Space.{value_locations, values_locations}
use Rattle.tb_ir.specs.AnfTree.{AnfTree}
use Rattle.tb_ir.specs.AnfMachine.{AnfFrames, language}
use Rattle.tb_ir.specs.Machine.{Env, Empty, Item}
use Rattle.tb_ir.specs.Space.{frames_locations}
use Rattle.tb_ir.specs.TreeMachine.{env_values}
use Rattle.tb_mac.specs.declared.word.Word.{Word}
use Rattle.tb_mac.specs.declared.word.Word.TheVariants as W
use Rattle.tb_mac.specs.Assembled.{Assembled}
use Rattle.tb_mac.specs.Frames.{Frame as MacFrame}
use Rattle.tb_mac.specs.Layout.{addresses, addresses_from, globals_size, static_tag}
use Rattle.tb_mac.specs.LiveWords.{all_targets, live_slots, map_at, slots_at, slots_of, targets, waiting_slots}
use Rattle.tb_codegen.specs.Notes.{Entry, Stands, Spot, Reg, Slot, Symbol, Constant, Variable, Itself, Capture, Note, Inside, Here, AtValue, Waiting, slot_bits}
use Rattle.tb_codegen.proofs.Bits.{from_slots, slot_entry}
use Rattle.tb_codegen.proofs.Operands.{found_location}
use Rattle.tb_codegen.proofs.Edges.{word_target}
use Rattle.tb_codegen.proofs.Memories.{p_get}
use Rattle.tb_codegen.proofs.Ok.{Follows, HasNote, IsWritten}
use Rattle.tb_codegen.proofs.Rel.{FsRel, f_none, f_then, f_top, globals_words, JRel, j_caller, j_top, j_then, Lk, Memory, Open, Saved, WRel, World, env_at, meaning}
use Rattle.tb_codegen.proofs.Steps.{Constants}
use Rattle.tb_codegen.proofs.Whole.{AllConstants}

-- a target is that of a word
pub record From (ws : List Word) (a : ℕ) : Type 0 where
  pub word : Word
  pub among : IsIn word ws
  pub target : IsIn a (targets word)

pub target_in : (ws : List Word) (a : ℕ) → IsIn a (all_targets ws) → From ws a
target_in [] a i = absurd i
target_in (w ∷ ws) a i =
    ⊎_elim (λ k. record { word = w; among = inl refl; target = k })
    (λ k. let t = target_in ws a k in record { word = t.word; among = inr t.among; target = t.target })
    (in-cases (targets w) (all_targets ws) a i)

-- an element has an index
pub index_in : {X : Type 0} (xs : List X) (x : X) → IsIn x xs → (i : ℕ) × (slice_get xs i ≡ Some x)
index_in [] x i = absurd i
index_in (y ∷ xs) x (inl e) = (0, ap Some e)
index_in (y ∷ xs) x (inr i) = let t = index_in xs x i in (suc t.0, t.1)

taken : (n i : ℕ) (xs : List Word) (u : Word) → slice_get (take n xs) i ≡ Some u → (i < n) × (slice_get xs i ≡ Some u)
taken zero i xs u e = cc
taken (suc n) i [] u e = cc
taken (suc n) zero (x ∷ xs) u e = (omega arith, e)
taken (suc n) (suc i) (x ∷ xs) u e = let t = taken n i xs u e in ((let lt = t.0 in omega arith), t.1)

value_in : (vs : List Value) (i : ℕ) (v : Value) (l : ℕ) → slice_get vs i ≡ Some v → IsIn l (value_locations v) → IsIn l (values_locations vs)
value_in [] i v l e k = cc
value_in (x ∷ vs) zero v l e k = let q : x ≡ v = cc (e) in in-left (value_locations x) (values_locations vs) l (subst (λ v. IsIn l (value_locations v)) (sym q) k)
value_in (x ∷ vs) (suc i) v l e k = in-right (value_locations x) (values_locations vs) l (value_in vs i v l e k)

static_index : (at n : ℕ) (ss : List Static) (a : ℕ) → slice_get (addresses_from at ss) n ≡ Some a → n < length ss
static_index at n [] a e = cc
static_index at zero (s ∷ ss) a e = omega arith
static_index at (suc n) (s ∷ ss) a e = let h = static_index (at + _) n ss a e in omega arith

module _ (p : AnfTree) (notes : List Note) (w : World) (G : Graph) where
  abbrev pub P : ℕ → ℕ → Type 0
  P a b = (t : ℕ) × IsIn (Lk t a b) w

  abbrev pub Seen : Value → Type 0
  Seen v = (l : ℕ) → IsIn l (value_locations v) → Reaches G l

  pub word_seen : (u : Word) (v : Value) (a : ℕ) → WRel w u v → Seen v → IsIn a (targets u) → HasMatch P G a
  word_seen u v a r s i = let h = word_target w u v a r i in (h.location, s h.location h.among, (h.tag, h.link))

  -- what a name means
  pub name_seen : (rs : List Env) (map : List Entry) (q : Spot) (s : Symbol) (v : Value) → Constants p map → IsIn (Stands q s) map → ((n : ℕ) → n < length p.statics → Reaches G n) →
      ((d l : ℕ) → IsIn l (values_locations (env_values (env_at rs d))) → Reaches G l) → meaning rs s ≡ Some v → Seen v
  name_seen rs map q (Variable d y) v cs i st f e = λ l k. f d l (found_location (env_at rs d) y v l e k)
  name_seen rs map q (Itself m) v cs i st f e = cc
  name_seen rs map q (Capture j) v cs i st f e = cc
  name_seen rs map q (Constant c) v cs i st f e = λ l k. constant_seen c (cs.constants q c i) l (let z : value_of c ≡ v = cc (e) in subst (λ v. IsIn l (value_locations v)) (sym z) k)
    where
      constant_seen : (c : Const) → IsWritten p.statics c → (l : ℕ) → IsIn l (value_locations (value_of c)) → Reaches G l
      constant_seen (K.Stat n) h l (inl e) = subst (Reaches G) e (st n h)
      constant_seen (K.Stat n) h l (inr i) = absurd i
      constant_seen (K.Fix n) h l i = absurd i
      constant_seen (K.Char n) h l i = absurd i
      constant_seen (K.Bool n) h l i = absurd i
      constant_seen K.Nil h l i = absurd i
      constant_seen K.Unspecified h l i = absurd i
      constant_seen K.Undefined h l i = absurd i

  -- environments of frames
  pub jrel_in : (js : Waiting) (rs : List Env) (gs fs : AnfFrames) → JRel js rs gs fs → (d l : ℕ) → IsIn l (values_locations (env_values (env_at rs d))) → IsIn l (frames_locations (language p).values gs)
  jrel_in js rs gs fs j_caller d l i = absurd i
  jrel_in js rs gs fs (j_top k) d l i = absurd i
  jrel_in js rs gs fs (j_then x k m r j) zero l i = in-left (values_locations (env_values r)) _ l i
  jrel_in js rs gs fs (j_then x k m r j) (suc d) l i = in-right (values_locations (env_values r)) _ l (jrel_in _ _ _ _ j d l i)

  pub jrel_sub : (js : Waiting) (rs : List Env) (gs fs : AnfFrames) → JRel js rs gs fs → (l : ℕ) → IsIn l (frames_locations (language p).values fs) → IsIn l (frames_locations (language p).values gs)
  jrel_sub js rs gs fs j_caller l i = i
  jrel_sub js rs gs fs (j_top k) l i = absurd i
  jrel_sub js rs gs fs (j_then x k m r j) l i = in-right (values_locations (env_values r)) _ l (jrel_sub _ _ _ _ j l i)

  module _ (c : Assembled) (fo : Follows p notes c) (consts : AllConstants p notes) (st : (n : ℕ) → n < length p.statics → Reaches G n) where
    -- the slots of a frame that waits
    saved_seen : (rs : List Env) (slots : List Word) (pc : ℕ) (js : Waiting) (size : ℕ) (map : List Entry) (u : Word) (a : ℕ) → HasNote p notes pc (Inside (AtValue js) (Here size) map) → Saved w rs slots map →
        ((d l : ℕ) → IsIn l (values_locations (env_values (env_at rs d))) → Reaches G l) → IsIn u (live_slots (slots_of (map_at c pc)) (record { back = W.Code pc; slots = slots })) → IsIn a (targets u) → HasMatch P G a
    saved_seen rs slots pc js size map u a n s f i k =
        let m = fo.maps pc _ n in
        let i2 : IsIn u (live_slots (Some (slot_bits map 0 size)) (record { back = W.Code pc; slots = slots })) = subst (λ o. IsIn u (live_slots (slots_of o) (record { back = W.Code pc; slots = slots }))) m i in
        let ch = from_slots map 0 size slots slots u (λ i u e. let z : i ≡ 0 + i = omega arith in subst (λ n. slice_get slots n ≡ Some u) z e) i2 in
        let en = slot_entry map ch.index ch.passes in
        ⊎_elim
        (λ h. absurd (slot_register ch.index 16 h.0))
        (λ h.
        let g = h.2 in
        let e : ch.index ≡ h.0 = slot_slot ch.index h.0 h.1 in
        let same : g.word ≡ u = cc (g.here, ch.here, e) in
        word_seen u g.value a (subst (λ u. WRel w u g.value) same g.rel) (name_seen (Empty ∷ rs) map (Slot ch.index) en.symbol g.value (consts.all pc _ _ map n) en.entry st (deeper f) g.means) k)
        (s.saved (Slot ch.index) en.symbol en.entry)
      where
        slot_register : (a b : ℕ) → Slot a ≡ Reg b → ⊥
        slot_register a b e = cc

        slot_slot : (a b : ℕ) → Slot a ≡ Slot b → a ≡ b
        slot_slot a b e = cc

        deeper : ((d l : ℕ) → IsIn l (values_locations (env_values (env_at rs d))) → Reaches G l) → (d l : ℕ) → IsIn l (values_locations (env_values (env_at (Empty ∷ rs) d))) → Reaches G l
        deeper f zero l i = absurd i
        deeper f (suc d) l i = f d l i

    pub waiting_seen : (fs : AnfFrames) (ms : List MacFrame) (u : Word) (a : ℕ) → FsRel p notes w fs ms → ((l : ℕ) → IsIn l (frames_locations (language p).values fs) → Reaches G l) →
        IsIn u (waiting_slots c ms) → IsIn a (targets u) → HasMatch P G a
    waiting_seen fs ms u a f_none f i k = absurd i
    waiting_seen fs ms u a (f_then x b l r {e = e} {js = js} {rs = rs} {gs = gs} {fs = fs2} {slots = slots} {ms = ms2} {map = map} n j long s g) f i k =
        ⊎_elim
        (λ i. saved_seen (r ∷ rs) slots e _ _ map u a n s (here j f) i k)
        (λ i. waiting_seen fs2 ms2 u a g (λ l i. f l (in-right (values_locations (env_values r)) _ l (jrel_sub js rs gs fs2 j l i))) i k)
        (in-cases (live_slots (slots_at c (W.Code e)) (record { back = W.Code e; slots = slots })) (waiting_slots c ms2) u i)
      where
        here : JRel js rs gs fs2 → ((l : ℕ) → IsIn l (frames_locations (language p).values fs) → Reaches G l) → (d l : ℕ) → IsIn l (values_locations (env_values (env_at (r ∷ rs) d))) → Reaches G l
        here j f zero l i = f l (in-left (values_locations (env_values r)) _ l i)
        here j f (suc d) l i = f l (in-right (values_locations (env_values r)) _ l (jrel_in js rs gs fs2 j d l i))
    waiting_seen fs ms u a (f_top b {e = e} {slots = slots} {map = map} n long s) f i k =
        ⊎_elim
        (λ i. saved_seen [] slots e _ _ map u a n s (λ d l i. absurd i) i k)
        (λ i. absurd i)
        (in-cases (live_slots (slots_at c (W.Code e)) (record { back = W.Code e; slots = slots })) [] u i)

    -- the globals and the static objects
    pub fixed_seen : (o : Open) (heap : List Word) (store : List Item) (globals : List Value) (ahead : _) (input cin : List ℕ) (met : Bool) → Memory p notes w o heap store globals ahead input cin met →
        ((l : ℕ) → IsIn l (values_locations globals) → Reaches G l) → (a : ℕ) → IsIn a (all_targets (take (globals_size c.parts) heap) ++ addresses c.parts) → HasMatch P G a
    fixed_seen o heap store globals ahead input cin met mem f a i =
        ⊎_elim
        (λ i.
        let t = target_in (take (globals_size c.parts) heap) a i in
        let x = index_in (take (globals_size c.parts) heap) t.word t.among in
        let y = taken (globals_size c.parts) x.0 heap t.word x.1 in
        let size : globals_size c.parts ≡ globals_words p notes = ap (λ gs. length gs + length gs % 2) fo.globals in
        let n = mem.count in
        ⊎_elim
        (λ lt.
        let g = get-some globals x.0 lt in
        let v = p_get w heap 0 (length globals) globals x.0 g.0 mem.held lt g.1 in
        let z : 0 + x.0 ≡ x.0 = omega arith in
        let same : v.0 ≡ t.word = cc (subst (λ n. slice_get heap n ≡ Some v.0) z v.1, y.1) in
        word_seen t.word g.0 a (subst (λ u. WRel w u g.0) same v.2) (λ l k. f l (value_in globals x.0 g.0 l g.1 k)) t.target)
        (λ ge.
        let lt = y.0 in
        let same : t.word ≡ W.Fix (pos 0) = cc (y.1, mem.padded x.0 (omega arith) (omega arith)) in
        absurd (subst (λ u. IsIn a (targets u)) same t.target))
        (cases_lt x.0 (length globals)))
        (λ i.
        let same : addresses c.parts ≡ addresses_from (globals_words p notes) p.statics = static_addresses fo.globals fo.statics in
        let x = index_in (addresses_from (globals_words p notes) p.statics) a (subst (λ as'. IsIn a as') same i) in
        let lt = static_index (globals_words p notes) x.0 p.statics a x.1 in
        let s = get-some p.statics x.0 lt in
        let q = mem.statics x.0 s.0 s.1 in
        let e : q.0 ≡ a = cc (q.1, x.1) in
        (x.0, st x.0 lt, (static_tag s.0, subst (λ a. IsIn (Lk (static_tag s.0) a x.0) w) e q.2)))
        (in-cases (all_targets (take (globals_size c.parts) heap)) (addresses c.parts) a i)
      where
        static_addresses : c.parts.globals ≡ p.globals → c.parts.statics ≡ p.statics → addresses c.parts ≡ addresses_from (globals_words p notes) p.statics
        static_addresses g s = rw (g, s) refl
