-- What a state of the machine holds is at most what the related state of the source holds, up to one frame and one
-- procedure.
use Rattle.std.proofs.Common.{◌≡◌, refl, sym, ◌∙◌, subst, subst₂, ap, ℕ, zero, suc, ◌+◌, ◌-◌, ◌<◌, ◌≤◌, ◌⊎◌, ◌&&◌, Bool, true, false, not, arith, inl, inr, ⊎_elim, List, [], ◌∷◌, ◌++◌, length, Some, None, slice_get}
use Rattle.std.specs.Prelude.{nat_le, nat_lt, pos, take}
use Rattle.std.proofs.lemmas.Bool.{cases_eq, cases_lt, le-leb, lt-ltb}
use Rattle.tb_semantics.specs.Graph.{Graph, IsClosed, IsIn, Reaches, root, child, below, total}
use Rattle.tb_semantics.proofs.ListLemmas.{get-some, in-cases, in-left, in-right}
use Rattle.tb_semantics.proofs.Reachable.{HasMatch, total-partners, total-partners_but, below_in}
use Rattle.tb_core.specs.Store.{Value, At}
use Rattle.tb_core.specs.Space.{value_locations, values_locations}
use Rattle.tb_ir.specs.AnfTree.{AnfTree}
use Rattle.tb_ir.specs.AnfMachine.{AnfConfig, AnfFrames, Code, language}
use Rattle.tb_ir.specs.Machine.{Control, Env, Empty, Item, Clo, bind_all, mark_top}
use Rattle.tb_ir.specs.Space.{closures_in, control_locations, frames_locations, item_locations, locations_of, marks, of_item, store_graph, words_in}
use Rattle.tb_ir.specs.TreeMachine.{env_values}
use Rattle.tb_mac.specs.declared.word.Word.{Word}
use Rattle.tb_mac.specs.declared.word.Word.TheVariants as W
use Rattle.tb_mac.specs.Assembled.{Assembled}
use Rattle.tb_mac.specs.Frames.{Frame as MacFrame, Framed}
use Rattle.tb_mac.specs.Layout.{addresses, globals_size}
use Rattle.tb_mac.specs.LiveWords.{all_targets, chosen, closure_count, counts_now, data_size, is_beyond, is_bit_set, is_live_register, live_registers, live_words, map_at, object_graph, operand_count, slots_of, stack_slots, targets, waiting_slots}
use Rattle.tb_mac.specs.Objects.{procedure_kind, procedure_tag}
use Rattle.tb_mac.specs.Words.{on_some}
use Rattle.tb_codegen.specs.Notes.{any, AtLifted, is_slot, Entry, Stands, Spot, Reg, Slot, Symbol, Constant, Variable, Itself, Capture, Note, Inside, Own, Point, note_map, register_bits, slot_bits}
use Rattle.tb_codegen.specs.Generate.{captured_in}
use Rattle.tb_codegen.proofs.Bits.{Chosen, Entered', digit, from_chosen, from_slots, register_entry, slot_entry}
use Rattle.tb_codegen.proofs.Operands.{found_location}
use Rattle.tb_codegen.proofs.Edges.{closure_fits, data_fits, env_bind_all, object_target}
use Rattle.tb_codegen.proofs.Changes.{Param, here_param, there_param, StartsLifted}
use Rattle.tb_codegen.proofs.Envs.{get-within}
use Rattle.tb_codegen.proofs.Ok.{Follows, HasNote}
use Rattle.tb_codegen.proofs.Rel.{AtCall, Ins, in_none, in_more, Closed, FsRel, f_none, f_then, f_top, Holds, JRel, j_caller, j_top, j_then, Means, m_name, m_itself, m_capture, Memory, Open, ORel, o_cell, o_pair, o_vector, o_string, o_symbol, o_procedure, OwnRel, o_away, o_here, o_ready, PtRel, at_block, at_value, at_unspecified, at_fill, at_all, Stores, WRel, w_at, World, env_at, fill_of, open_of, read}
use Rattle.tb_codegen.proofs.Seen.{P, Seen, fixed_seen, jrel_in, jrel_sub, name_seen, target_in, waiting_seen, word_seen}
use Rattle.tb_codegen.proofs.Steps.{Constants}
use Rattle.tb_codegen.proofs.Whole.{AllConstants}

-- the source's graph leads to what is made alone
pub closed_graph : (p : AnfTree) (c : AnfConfig) → IsClosed (store_graph (language p).values (length p.statics) c)
closed_graph p c k l i = below_store c.store k l i
  where
    below_store : (st : List Item) (k l : ℕ) → IsIn l (locations_of (slice_get st k)) → k < length st
    below_store [] k l i = absurd i
    below_store (x ∷ st) zero l i = omega arith
    below_store (x ∷ st) (suc k) l i = let h = below_store st k l i in omega arith

-- all that the machine reaches at once stands for what the source reaches, apart from one procedure at most
pub data Cover (p : AnfTree) (notes : List Note) (w : World) (c : Assembled) (m : Framed) (G : Graph) : Type 0 where
  c_even : ((a : ℕ) → IsIn a (object_graph c m).roots → HasMatch (P p notes w G) G a) → Cover p notes w c m G
  c_odd : (odd n : ℕ) → slice_get m.heap odd ≡ Some (W.Header procedure_kind n) →
      ((a : ℕ) → IsIn a (object_graph c m).roots → (a ≡ odd) ⊎ HasMatch (P p notes w G) G a) →
      ((a : ℕ) → IsIn a ((object_graph c m).next odd) → HasMatch (P p notes w G) G a) → Cover p notes w c m G

module _ (p : AnfTree) (notes : List Note) (c : Assembled) (fo : Follows p notes c) where
  abbrev pub graph : AnfConfig → Graph
  graph k = store_graph (language p).values (length p.statics) k

  edges : (w : World) (o : Open) (globals : ℕ) (m : Framed) (k : AnfConfig) → Stores p notes w o globals m.heap k.store → (a b d : ℕ) → P p notes w (graph k) a b → Reaches (graph k) b → IsIn d ((object_graph c m).next a) → HasMatch (P p notes w (graph k)) (graph k) d
  edges w o globals m k s a b d h r i =
      let e = s.linked h.0 a b h.1 in
      let t = object_target p notes w m.heap (fill_of o b) a e.item d e.rel i in
      let there = e.there in
      (t.location, child r (subst (λ o. IsIn t.location (locations_of o)) (sym there) t.among), (t.tag, t.link))

  pub totals : (w : World) (o : Open) (globals : ℕ) (m : Framed) (k : AnfConfig) → Stores p notes w o globals m.heap k.store → Cover p notes w c m (graph k) →
      (total (λ a. closure_count (slice_get m.heap a)) (object_graph c m) ≤ total (λ l. of_item closures_in (slice_get k.store l)) (graph k) + 1) ×
      (total (λ a. data_size (slice_get m.heap a)) (object_graph c m) ≤ total (λ l. of_item words_in (slice_get k.store l)) (graph k))
  totals w o globals m k s (c_even roots) =
      let one = λ (a b d : ℕ) (x : P p notes w (graph k) a d) (y : P p notes w (graph k) b d). s.one_address x.0 y.0 a b d x.1 y.1 in
      let within = λ (a b : ℕ) (x : P p notes w (graph k) a b). below_linked s a b x in
      let f1 = total-partners (P p notes w (graph k)) (λ a. closure_count (slice_get m.heap a)) (λ l. of_item closures_in (slice_get k.store l)) (object_graph c m) (graph k) (closed_graph p k)
      (record { one_each = one; within = within; sizes = λ a b x. closures_le s a b x; at_roots = roots; at_edges = edges w o globals m k s }) in
      let f2 = total-partners (P p notes w (graph k)) (λ a. data_size (slice_get m.heap a)) (λ l. of_item words_in (slice_get k.store l)) (object_graph c m) (graph k) (closed_graph p k)
      (record { one_each = one; within = within; sizes = λ a b x. words_le s a b x; at_roots = roots; at_edges = edges w o globals m k s }) in
      (omega arith, f2)
    where
      below_linked : Stores p notes w o globals m.heap k.store → (a b : ℕ) → P p notes w (graph k) a b → b < length k.store
      below_linked s a b x = let d = s.linked x.0 a b x.1 in get-within k.store b d.item d.there

      closures_le : Stores p notes w o globals m.heap k.store → (a b : ℕ) → P p notes w (graph k) a b → closure_count (slice_get m.heap a) ≤ of_item closures_in (slice_get k.store b)
      closures_le s a b x = let d = s.linked x.0 a b x.1 in let e = d.there in subst (λ o. closure_count (slice_get m.heap a) ≤ of_item closures_in o) (sym e) (closure_fits p notes w m.heap (fill_of o b) a d.item d.rel)

      words_le : Stores p notes w o globals m.heap k.store → (a b : ℕ) → P p notes w (graph k) a b → data_size (slice_get m.heap a) ≤ of_item words_in (slice_get k.store b)
      words_le s a b x = let d = s.linked x.0 a b x.1 in let e = d.there in subst (λ o. data_size (slice_get m.heap a) ≤ of_item words_in o) (sym e) (data_fits p notes w m.heap (fill_of o b) a d.item d.rel)
  totals w o globals m k s (c_odd odd n hd roots odd_edges) =
      let one = λ (a b d : ℕ) (x : P p notes w (graph k) a d) (y : P p notes w (graph k) b d). s.one_address x.0 y.0 a b d x.1 y.1 in
      let f1 = total-partners_but (P p notes w (graph k)) (λ a. closure_count (slice_get m.heap a)) (λ l. of_item closures_in (slice_get k.store l)) (object_graph c m) (graph k) odd (closed_graph p k)
      (record { one_each = one; within = λ a b x. below_linked s a b x; sizes = λ a b x. closures_le s a b x; at_roots = roots; at_edges = edges w o globals m k s; odd_edges = odd_edges }) in
      let f2 = total-partners_but (P p notes w (graph k)) (λ a. data_size (slice_get m.heap a)) (λ l. of_item words_in (slice_get k.store l)) (object_graph c m) (graph k) odd (closed_graph p k)
      (record { one_each = one; within = λ a b x. below_linked s a b x; sizes = λ a b x. words_le s a b x; at_roots = roots; at_edges = edges w o globals m k s; odd_edges = odd_edges }) in
      let e1 : closure_count (slice_get m.heap odd) ≡ 1 = ap closure_count hd in
      let e2 : data_size (slice_get m.heap odd) ≡ 0 = ap data_size hd in
      (omega arith, omega arith)
    where
      below_linked : Stores p notes w o globals m.heap k.store → (a b : ℕ) → P p notes w (graph k) a b → b < length k.store
      below_linked s a b x = let d = s.linked x.0 a b x.1 in get-within k.store b d.item d.there

      closures_le : Stores p notes w o globals m.heap k.store → (a b : ℕ) → P p notes w (graph k) a b → closure_count (slice_get m.heap a) ≤ of_item closures_in (slice_get k.store b)
      closures_le s a b x = let d = s.linked x.0 a b x.1 in let e = d.there in subst (λ o. closure_count (slice_get m.heap a) ≤ of_item closures_in o) (sym e) (closure_fits p notes w m.heap (fill_of o b) a d.item d.rel)

      words_le : Stores p notes w o globals m.heap k.store → (a b : ℕ) → P p notes w (graph k) a b → data_size (slice_get m.heap a) ≤ of_item words_in (slice_get k.store b)
      words_le s a b x = let d = s.linked x.0 a b x.1 in let e = d.there in subst (λ o. data_size (slice_get m.heap a) ≤ of_item words_in o) (sym e) (data_fits p notes w m.heap (fill_of o b) a d.item d.rel)

  -- frames that are not marked count nothing
  pub jrel_marks : (js : _) (rs : List Env) (gs fs : AnfFrames) → JRel js rs gs fs → marks gs ≡ marks fs
  jrel_marks js rs gs fs j_caller = refl
  jrel_marks js rs gs fs (j_top k) = refl
  jrel_marks js rs gs fs (j_then x k l r j) = let h = jrel_marks _ _ _ _ j in omega arith

  -- frames: one for each that is marked, and the own one
  pub frames_waiting : (w : World) (fs : AnfFrames) (ms : List MacFrame) → FsRel p notes w fs ms → length ms ≡ marks fs
  frames_waiting w fs ms f_none = refl
  frames_waiting w fs ms (f_then x k l r {js = js} {rs = rs} {gs = gs} {fs = fs2} {ms = ms2} n j long s g) =
      let h = frames_waiting w fs2 ms2 g in
      let e = jrel_marks js rs gs fs2 j in
      omega arith
  frames_waiting w fs ms (f_top k n long s) = refl

  pub own_frames : (w : World) (own : Own) (slots : List Word) (top ms : List MacFrame) (fs : AnfFrames) → OwnRel own slots top ms → FsRel p notes w fs ms → length top ≤ marks fs + 1
  own_frames w own slots top ms fs o_away f = let h = frames_waiting w fs ms f in omega arith
  own_frames w own slots top ms fs (o_here {ms = ms2} e) f = let h = frames_waiting w fs ms2 f in omega arith
  own_frames w own slots top ms fs (o_ready {ms = ms2} e) f = let h = frames_waiting w fs ms2 f in omega arith

  pub point_marks : (w : World) (st : List Item) (pt : Point) (rs : List Env) (gs fs : AnfFrames) (control : Control Code) → PtRel p notes st pt rs gs fs control → marks gs ≡ marks fs
  point_marks w st pt rs gs fs control (at_block b r cut j) = jrel_marks _ _ gs fs j
  point_marks w st pt rs gs fs control (at_value v j) = jrel_marks _ _ gs fs j
  point_marks w st pt rs gs fs control (at_unspecified j) = jrel_marks _ _ gs fs j
  point_marks w st pt rs gs fs control (at_fill m i l us j there long) = jrel_marks _ _ gs fs j
  point_marks w st pt rs gs fs control (at_all l0 made ns xs ls k r j facts) = jrel_marks _ _ gs fs j

  -- environments are in the control and the frames
  pub point_in : (st : List Item) (pt : Point) (rs : List Env) (gs fs : AnfFrames) (control : Control Code) → PtRel p notes st pt rs gs fs control → (d l : ℕ) → IsIn l (values_locations (env_values (env_at rs d))) →
      IsIn l (control_locations control) ⊎ IsIn l (frames_locations (language p).values gs)
  point_in st pt rs gs fs control (at_block b r cut j) zero l i = inl i
  point_in st pt rs gs fs control (at_block b r cut j) (suc d) l i = inr (jrel_in p notes [] (record { count = 0; next = λ l. []; roots = [] }) _ _ gs fs j d l i)
  point_in st pt rs gs fs control (at_value v j) zero l i = inl (⊎_elim (λ k. k) (λ k. absurd k) (in-cases (value_locations v) [] l i))
  point_in st pt rs gs fs control (at_value v j) (suc d) l i = inr (jrel_in p notes [] (record { count = 0; next = λ l. []; roots = [] }) _ _ gs fs j d l i)
  point_in st pt rs gs fs control (at_unspecified j) zero l i = absurd i
  point_in st pt rs gs fs control (at_unspecified j) (suc d) l i = inr (jrel_in p notes [] (record { count = 0; next = λ l. []; roots = [] }) _ _ gs fs j d l i)
  point_in st pt rs gs fs control (at_fill m k l0 us j there long) zero l i = inl i
  point_in st pt rs gs fs control (at_fill m k l0 us j there long) (suc d) l i = inr (jrel_in p notes [] (record { count = 0; next = λ l. []; roots = [] }) _ _ gs fs j d l i)
  point_in st pt rs gs fs control (at_all l0 made ns xs ls k r j facts) zero l i = inl i
  point_in st pt rs gs fs control (at_all l0 made ns xs ls k r j facts) (suc d) l i = inr (jrel_in p notes [] (record { count = 0; next = λ l. []; roots = [] }) _ _ gs fs j d l i)

  -- the frames below are among the frames
  pub point_sub : (st : List Item) (pt : Point) (rs : List Env) (gs fs : AnfFrames) (control : Control Code) → PtRel p notes st pt rs gs fs control → (l : ℕ) → IsIn l (frames_locations (language p).values fs) → IsIn l (frames_locations (language p).values gs)
  point_sub st pt rs gs fs control (at_block b r cut j) l i = jrel_sub p notes [] (record { count = 0; next = λ l. []; roots = [] }) _ _ gs fs j l i
  point_sub st pt rs gs fs control (at_value v j) l i = jrel_sub p notes [] (record { count = 0; next = λ l. []; roots = [] }) _ _ gs fs j l i
  point_sub st pt rs gs fs control (at_unspecified j) l i = jrel_sub p notes [] (record { count = 0; next = λ l. []; roots = [] }) _ _ gs fs j l i
  point_sub st pt rs gs fs control (at_fill m k l0 us j there long) l i = jrel_sub p notes [] (record { count = 0; next = λ l. []; roots = [] }) _ _ gs fs j l i
  point_sub st pt rs gs fs control (at_all l0 made ns xs ls k r j facts) l i = jrel_sub p notes [] (record { count = 0; next = λ l. []; roots = [] }) _ _ gs fs j l i

  module _ (consts : AllConstants p notes) where
    -- roots of the source
    static_root : (k : AnfConfig) (n : ℕ) → n < length p.statics → Reaches (graph k) n
    static_root k n lt = root (in-left (below (length p.statics)) _ n (below_in (length p.statics) n lt))

    pub control_root : (k : AnfConfig) (l : ℕ) → IsIn l (control_locations k.control) → Reaches (graph k) l
    control_root k l i = root (in-right (below (length p.statics)) _ l (in-left (control_locations k.control) _ l i))

    pub frames_root : (k : AnfConfig) (l : ℕ) → IsIn l (frames_locations (language p).values k.frames) → Reaches (graph k) l
    frames_root k l i = root (in-right (below (length p.statics)) _ l (in-right (control_locations k.control) _ l (in-left (frames_locations (language p).values k.frames) _ l i)))

    globals_root : (k : AnfConfig) (l : ℕ) → IsIn l (values_locations k.globals) → Reaches (graph k) l
    globals_root k l i = root (in-right (below (length p.statics)) _ l (in-right (control_locations k.control) _ l (in-right (frames_locations (language p).values k.frames) _ l i)))

    -- from live words alone
    roots_from : (w : World) (o : Open) (m : Framed) (k : AnfConfig) (input : List ℕ) (Q : ℕ → Type 0) → Memory p notes w o m.heap k.store k.globals m.ahead input k.input k.met_end →
        ((a : ℕ) → HasMatch (P p notes w (graph k)) (graph k) a → Q a) →
        ((u : Word) (a : ℕ) → IsIn u (live_words c m) → IsIn a (targets u) → Q a) → (a : ℕ) → IsIn a (object_graph c m).roots → Q a
    roots_from w o m k input Q mem f g a i =
        ⊎_elim
        (λ i. let t = target_in (live_words c m) a i in g t.word a t.among t.target)
        (λ i. f a (fixed_seen p notes w (graph k) c fo consts (static_root k) o m.heap k.store k.globals m.ahead input k.input k.met_end mem (globals_root k) a i))
        (in-cases (all_targets (live_words c m)) (all_targets (take (globals_size c.parts) m.heap) ++ addresses c.parts) a i)

    and_left : (a b : Bool) → a && b ≡ true → a ≡ true
    and_left true b e = refl
    and_left false b e = e

    -- a live register has an entry
    live_entry : (m : Framed) (pt : Point) (own : Own) (es : List Entry) (a : ℕ) → HasNote p notes m.pc (Inside pt own es) → a < 17 → is_live_register c m a ≡ true → Entered' es (Reg a)
    live_entry m pt own es a n lt e =
        let q = fo.maps m.pc _ n in
        let e2 : is_bit_set (register_bits es 17) a && not (counts_now c m && is_beyond (operand_count (slice_get m.registers 16)) a) ≡ true =
        subst (λ o. on_some o false (λ map. is_bit_set map.regs a) && not (counts_now c m && is_beyond (operand_count (slice_get m.registers 16)) a) ≡ true) q e in
        register_entry es a (sym (digit es 17 a lt) ∙ and_left _ _ e2)

    -- what stands somewhere can be reached, but for the procedure itself
    entry_seen : (w : World) (k : AnfConfig) (map : List Entry) (rs : List Env) (q : Spot) (s : Symbol) (v : Value) → Constants p map → IsIn (Stands q s) map → Means p k.store rs s v →
        ((d l : ℕ) → IsIn l (values_locations (env_values (env_at rs d))) → Reaches (graph k) l) → ((m : ℕ) × (s ≡ Itself m)) ⊎ Seen p notes w (graph k) v
    entry_seen w k map rs q s v cs i (m_name e) f = inr (name_seen p notes w (graph k) rs map q s v cs i (static_root k) f e)
    entry_seen w k map rs q s v cs i (m_itself m l us there long caps) f = inl (m, refl)
    entry_seen w k map rs q s v cs i (m_capture j l m us e there long g) f =
        inr (λ z h. child (f 0 l (found_location (env_at rs 0) 0 (At l) l e (inl refl)))
        (subst (λ o. IsIn z (locations_of o)) (sym there) (subst (λ vs. IsIn z (values_locations vs)) (sym (env_bind_all (captured_in p m) us long)) (value_among us j v z g h))))
      where
        value_among : (vs : List Value) (i : ℕ) (v : Value) (l : ℕ) → slice_get vs i ≡ Some v → IsIn l (value_locations v) → IsIn l (values_locations vs)
        value_among [] i v l e h = cc
        value_among (x ∷ vs) zero v l e h = let q : x ≡ v = cc (e) in in-left (value_locations x) (values_locations vs) l (subst (λ v. IsIn l (value_locations v)) (sym q) h)
        value_among (x ∷ vs) (suc i) v l e h = in-right (value_locations x) (values_locations vs) l (value_among vs i v l e h)

    -- a live word is reached, or is that of the procedure itself
    data Live (w : World) (G : Graph) (map : List Entry) (regs slots : List Word) (u : Word) (a : ℕ) : Type 0 where
      l_match : HasMatch (P p notes w G) G a → Live w G map regs slots u a
      l_itself : (q : Spot) (m : ℕ) → IsIn (Stands q (Itself m)) map → read q regs slots ≡ Some u → Live w G map regs slots u a

    entry_live : (w : World) (k : AnfConfig) (map : List Entry) (rs : List Env) (regs slots : List Word) (q : Spot) (u : Word) (a : ℕ) → Constants p map → Holds p k.store w rs regs slots map → Entered' map q → read q regs slots ≡ Some u →
        ((d l : ℕ) → IsIn l (values_locations (env_values (env_at rs d))) → Reaches (graph k) l) → IsIn a (targets u) → Live w (graph k) map regs slots u a
    entry_live w k map rs regs slots q u a cs h en e f t =
        let x = h.holds q en.symbol en.entry in
        let same : x.word ≡ u = cc (x.here, e) in
        ⊎_elim
        (λ i. l_itself q i.0 (subst (λ s. IsIn (Stands q s) map) i.1 en.entry) e)
        (λ s. l_match (word_seen p notes w (graph k) u x.value a (subst (λ u. WRel w u x.value) same x.rel) s t))
        (entry_seen w k map rs q en.symbol x.value cs en.entry x.means f)

    own_word : (map : List Entry) (size : ℕ) (slots : List Word) (u : Word) → IsIn u (chosen (slot_bits map 0 size) slots) → Chosen (λ i. any (is_slot i) map) slots u
    own_word map size slots u i = from_slots map 0 size slots slots u (λ i u g. let z : i ≡ 0 + i = omega arith in subst (λ n. slice_get slots n ≡ Some u) z g) i

    -- the live slots of the own frame, and of those that wait
    stack_word : (own : Own) (slots : List Word) (top ms : List MacFrame) (map : List Entry) (pt : Point) (u : Word) → OwnRel own slots top ms →
        IsIn u (stack_slots c (slots_of (Some (note_map (Inside pt own map)))) top) → IsIn u (waiting_slots c ms) ⊎ Chosen (λ i. any (is_slot i) map) slots u
    stack_word own slots top ms map pt u o_away i = inl i
    stack_word own slots top ms map pt u (o_here {u = b} {size = size} long) i =
        ⊎_elim (λ i. inr (own_word map size slots u i)) inl (in-cases (chosen (slot_bits map 0 size) slots) (waiting_slots c ms) u i)
    stack_word own slots top ms map pt u (o_ready {l = l} {size = size} long) i =
        ⊎_elim (λ i. inr (own_word map size slots u i)) inl (in-cases (chosen (slot_bits map 0 size) slots) (waiting_slots c ms) u i)

    inside_live : (w : World) (m : Framed) (k : AnfConfig) (pt : Point) (own : Own) (map : List Entry) (rs : List Env) (fs : AnfFrames) (slots : List Word) (ms : List MacFrame) (u : Word) (a : ℕ) →
        HasNote p notes m.pc (Inside pt own map) → PtRel p notes k.store pt rs k.frames fs k.control → Holds p k.store w rs m.registers slots map → OwnRel own slots m.frames ms → FsRel p notes w fs ms → length m.registers ≡ 17 →
        ((l : ℕ) → IsIn l (frames_locations (language p).values fs) → Reaches (graph k) l) → IsIn u (live_words c m) → IsIn a (targets u) → Live w (graph k) map m.registers slots u a
    inside_live w m k pt own map rs fs slots ms u a n pr h o f len fr i t =
        let cs = consts.all m.pc pt own map n in
        let env = λ (d l : ℕ) (i : IsIn l (values_locations (env_values (env_at rs d)))). ⊎_elim (control_root k l) (frames_root k l) (point_in k.store pt rs k.frames fs k.control pr d l i) in
        ⊎_elim
        (λ i.
        let ch = from_chosen (is_live_register c m) 0 m.registers m.registers u (λ i u e. let z : i ≡ 0 + i = omega arith in subst (λ n. slice_get m.registers n ≡ Some u) z e) i in
        let lt = get-within m.registers ch.index u ch.here in
        entry_live w k map rs m.registers slots (Reg ch.index) u a cs h (live_entry m pt own map ch.index n (omega arith) ch.passes) ch.here env t)
        (λ i. ⊎_elim
        (λ i. l_match (waiting_seen p notes w (graph k) c fo consts (static_root k) fs ms u a f fr i t))
        (λ ch. entry_live w k map rs m.registers slots (Slot ch.index) u a cs h (slot_entry map ch.index ch.passes) ch.here env t)
        (stack_word own slots m.frames ms map pt u o (subst (λ o. IsIn u (stack_slots c (slots_of o) m.frames)) (fo.maps m.pc _ n) i)))
        (in-cases (live_registers c m) (stack_slots c (slots_of (map_at c m.pc)) m.frames) u i)

    -- an entry for the procedure itself, or none
    find_itself : (map : List Entry) → ((q : Spot) × (m : ℕ) × IsIn (Stands q (Itself m)) map) ⊎ ((q : Spot) (m : ℕ) → IsIn (Stands q (Itself m)) map → ⊥)
    find_itself [] = inr (λ q m i. i)
    find_itself (Stands q (Itself m) ∷ es) = inl (q, m, inl refl)
    find_itself (Stands q (Constant k) ∷ es) = ⊎_elim (λ t. inl (t.0, t.1, inr t.2)) (λ n. inr (λ q m i. ⊎_elim (λ e. cc) (n q m) i)) (find_itself es)
    find_itself (Stands q (Variable d y) ∷ es) = ⊎_elim (λ t. inl (t.0, t.1, inr t.2)) (λ n. inr (λ q m i. ⊎_elim (λ e. cc) (n q m) i)) (find_itself es)
    find_itself (Stands q (Capture j) ∷ es) = ⊎_elim (λ t. inl (t.0, t.1, inr t.2)) (λ n. inr (λ q m i. ⊎_elim (λ e. cc) (n q m) i)) (find_itself es)

    procedure_head : (w : World) (heap : List Word) (q : _) (a m : ℕ) (i : Item) (r : Env) → ORel p notes w heap q a i → i ≡ Clo m r → (n : ℕ) × (slice_get heap a ≡ Some (W.Header procedure_kind n))
    procedure_head w heap q a m i r (o_cell hd pr) e = cc
    procedure_head w heap q a m i r (o_pair pr) e = cc
    procedure_head w heap q a m i r (o_vector few hd pr) e = cc
    procedure_head w heap q a m i r (o_string few hd pr) e = cc
    procedure_head w heap q a m i r (o_symbol few hd pr) e = cc
    procedure_head w heap q a m i r (o_procedure n x us hd cd note long er pr) e = (length us, hd)

    value_index : (vs : List Value) (l : ℕ) → IsIn l (values_locations vs) → (j : ℕ) × (v : Value) × (slice_get vs j ≡ Some v) × IsIn l (value_locations v)
    value_index [] l i = absurd i
    value_index (v ∷ vs) l i = ⊎_elim (λ k. (0, v, refl, k)) (λ k. let t = value_index vs l k in (suc t.0, t.1, t.2, t.3)) (in-cases (value_locations v) (values_locations vs) l i)

    -- with the procedure in register 0
    odd_cover : (w : World) (m : Framed) (k : AnfConfig) (o : Open) (input : List ℕ) (map : List Entry) (rs : List Env) (slots : List Word) (n : ℕ) (u : Word) (v : Value) →
        Memory p notes w o m.heap k.store k.globals m.ahead input k.input k.met_end → WRel w u v → slice_get m.registers 0 ≡ Some u → Means p k.store rs (Itself n) v →
        ((q : Spot) (m : ℕ) → IsIn (Stands q (Itself m)) map → q ≡ Reg 0) →
        ((d l : ℕ) → IsIn l (values_locations (env_values (env_at rs d))) → Reaches (graph k) l) →
        ((u : Word) (a : ℕ) → IsIn u (live_words c m) → IsIn a (targets u) → Live w (graph k) map m.registers slots u a) → Cover p notes w c m (graph k)
    odd_cover w m k o input map rs slots n u v mem uv e (m_name q) one env live = cc
    odd_cover w m k o input map rs slots n u v mem (w_at {t = t} {a = ad} {l = l} link) e (m_itself _ _ us there long caps) one env live =
        let d = mem.stores.linked t ad l link in
        let same : d.item ≡ Clo n (bind_all (captured_in p n) us Empty) = cc (d.there, there) in
        let hd = procedure_head w m.heap (fill_of o l) ad n d.item _ d.rel same in
        c_odd ad hd.0 hd.1
        (roots_from w o m k input (λ a. (a ≡ ad) ⊎ HasMatch (P p notes w (graph k)) (graph k) a) mem (λ a h. inr h) (λ u2 a i t2. from_live u2 a (live u2 a i t2) t2))
        (λ a i.
        let x = object_target p notes w m.heap (fill_of o l) ad d.item a d.rel i in
        let y = value_index us x.location (subst (λ vs. IsIn x.location (values_locations vs)) (env_bind_all (captured_in p n) us long) (subst (λ i. IsIn x.location (item_locations i)) same x.among)) in
        let z = get_some_of us (captured_in p n) y.0 y.1 y.2 long in
        let q = caps.caps y.0 z.0 z.1 in
        let ev : q.0 ≡ y.1 = cc (q.1, y.2) in
        (x.location, env 0 x.location (found_location (env_at rs 0) z.0 q.0 x.location q.2 (subst (λ v. IsIn x.location (value_locations v)) (sym ev) y.3)), (x.tag, x.link)))
      where
        from_live : (u2 : Word) (a : ℕ) → Live w (graph k) map m.registers slots u2 a → IsIn a (targets u2) → (a ≡ ad) ⊎ HasMatch (P p notes w (graph k)) (graph k) a
        from_live u2 a (l_match h) t2 = inr h
        from_live u2 a (l_itself q m2 i r) t2 =
            let at0 : slice_get m.registers 0 ≡ Some u2 = subst (λ q. read q m.registers slots ≡ Some u2) (one q m2 i) r in
            let eu : u2 ≡ W.Pointer t ad = cc (at0, e) in
            ⊎_elim (λ z. inl (sym z)) (λ z. absurd z) (subst (λ u. IsIn a (targets u)) eu t2)

        get_some_of : (us : List Value) (xs : List ℕ) (j : ℕ) (v : Value) → slice_get us j ≡ Some v → length us ≡ length xs → (x : ℕ) × (slice_get xs j ≡ Some x)
        get_some_of us xs j v e long = get-some xs j (subst (λ n. j < n) long (get-within us j v e))

    pub inside_cover : (w : World) (m : Framed) (k : AnfConfig) (input : List ℕ) (pt : Point) (own : Own) (map : List Entry) (rs : List Env) (fs : AnfFrames) (slots : List Word) (ms : List MacFrame) →
        HasNote p notes m.pc (Inside pt own map) → PtRel p notes k.store pt rs k.frames fs k.control → Holds p k.store w rs m.registers slots map → OwnRel own slots m.frames ms → FsRel p notes w fs ms → length m.registers ≡ 17 →
        Memory p notes w (open_of pt k.control) m.heap k.store k.globals m.ahead input k.input k.met_end →
        ((q : Spot) (m : ℕ) → IsIn (Stands q (Itself m)) map → q ≡ Reg 0) → Cover p notes w c m (graph k)
    inside_cover w m k input pt own map rs fs slots ms n pr h o f len mem one =
        let fr = λ (l : ℕ) (i : IsIn l (frames_locations (language p).values fs)). frames_root k l (point_sub k.store pt rs k.frames fs k.control pr l i) in
        let env = λ (d l : ℕ) (i : IsIn l (values_locations (env_values (env_at rs d)))). ⊎_elim (control_root k l) (frames_root k l) (point_in k.store pt rs k.frames fs k.control pr d l i) in
        let live = λ (u : Word) (a : ℕ) (i : IsIn u (live_words c m)) (t : IsIn a (targets u)). inside_live w m k pt own map rs fs slots ms u a n pr h o f len fr i t in
        ⊎_elim
        (λ x.
        let e = h.holds (Reg 0) (Itself x.1) (subst (λ q. IsIn (Stands q (Itself x.1)) map) (one x.0 x.1 x.2) x.2) in
        odd_cover w m k (open_of pt k.control) input map rs slots x.1 e.word e.value mem e.rel e.here e.means one env live)
        (λ none. c_even (roots_from w (open_of pt k.control) m k input (HasMatch (P p notes w (graph k)) (graph k)) mem (λ a h. h) (λ u a i t. no_itself u a none (live u a i t))))
        (find_itself map)
      where
        no_itself : (u : Word) (a : ℕ) → ((q : Spot) (m : ℕ) → IsIn (Stands q (Itself m)) map → ⊥) → Live w (graph k) map m.registers slots u a → HasMatch (P p notes w (graph k)) (graph k) a
        no_itself u a none (l_match h) = h
        no_itself u a none (l_itself q m2 i r) = absurd (none q m2 i)

    -- operands in registers
    ins_get : (w : World) (regs : List Word) (i : ℕ) (vs : List Value) (j : ℕ) → Ins w regs i vs → j < length vs → (v : Value) × (u : Word) × (slice_get vs j ≡ Some v) × (slice_get regs (i + j) ≡ Some u) × WRel w u v
    ins_get w regs i [] j h lt = absurd (omega arith)
    ins_get w regs i (v ∷ vs) zero (in_more {u = u} e r h) lt = let z : i + 0 ≡ i = omega arith in (v, u, refl, subst (λ n. slice_get regs n ≡ Some u) (sym z) e, r)
    ins_get w regs i (v ∷ vs) (suc j) (in_more e r h) lt =
        let t = ins_get w regs (suc i) vs j h (omega arith) in
        let z : suc i + j ≡ i + suc j = omega arith in
        (t.0, t.1, t.2, subst (λ n. slice_get regs n ≡ Some t.1) z t.3, t.4)

    pub marked_locations : (gs : AnfFrames) (l : ℕ) → IsIn l (frames_locations (language p).values (mark_top gs)) → IsIn l (frames_locations (language p).values gs)
    marked_locations [] l i = i
    marked_locations (f ∷ fs) l i = i

    bit_cases : (a : ℕ) → a < 17 → is_bit_set 73727 a ≡ true → (a ≤ 12) ⊎ (a ≡ 16)
    bit_cases a lt e =
        ⊎_elim (λ l. inl (omega arith))
        (λ g. ⊎_elim (λ (q : a ≡ 13). absurd (false_bit 13 refl (subst (λ a. is_bit_set 73727 a ≡ true) q e)))
        (λ n1. ⊎_elim (λ (q : a ≡ 14). absurd (false_bit 14 refl (subst (λ a. is_bit_set 73727 a ≡ true) q e)))
        (λ n2. ⊎_elim (λ (q : a ≡ 15). absurd (false_bit 15 refl (subst (λ a. is_bit_set 73727 a ≡ true) q e)))
        (λ n3. inr (omega arith)) (cases_eq a 15)) (cases_eq a 14)) (cases_eq a 13))
        (cases_lt a 13)
      where
        false_bit : (a : ℕ) → is_bit_set 73727 a ≡ false → is_bit_set 73727 a ≡ true → ⊥
        false_bit a e f = cc (e, f)

    -- a register that is live at an entry where operands are counted
    counted_live : (m : Framed) (n a : ℕ) → map_at c m.pc ≡ Some (record { regs = 73727; slots = None }) → counts_now c m ≡ true → slice_get m.registers 16 ≡ Some (W.Fix (pos n)) → a < 17 → is_live_register c m a ≡ true →
        (a ≡ 0) ⊎ (((1 ≤ a) × (a ≤ n)) ⊎ (a ≡ 16))
    counted_live m n a em ec er lt e =
        let e2 : is_bit_set 73727 a && not (counts_now c m && is_beyond (operand_count (slice_get m.registers 16)) a) ≡ true =
        subst (λ o. on_some o false (λ map. is_bit_set map.regs a) && not (counts_now c m && is_beyond (operand_count (slice_get m.registers 16)) a) ≡ true) em e in
        let e3 : is_bit_set 73727 a && not (is_beyond n a) ≡ true = subst₂ (λ b o. is_bit_set 73727 a && not (b && is_beyond (operand_count o) a) ≡ true) ec er e2 in
        ⊎_elim
        (λ le. ⊎_elim (λ z. inl (omega arith)) (λ some. inr (inl (some, not_beyond n a some le (and_right _ _ e3)))) (cases_lt a 1))
        (λ q. inr (inr q))
        (bit_cases a lt (and_left _ _ e3))
      where
        and_right : (a b : Bool) → a && b ≡ true → b ≡ true
        and_right true b e = e
        and_right false b e = cc

        false_true : false ≡ true → ⊥
        false_true e = cc

        beyond : (n a : ℕ) → nat_le 1 a ≡ true → nat_le a 12 ≡ true → nat_lt n a ≡ true → is_beyond n a ≡ true
        beyond n a x y z = rw (x, y, z) refl

        not_beyond : (n a : ℕ) → 1 ≤ a → a ≤ 12 → not (is_beyond n a) ≡ true → a ≤ n
        not_beyond n a some le e =
            ⊎_elim
            (λ lt. let x = le-leb 1 a some in let y = le-leb a 12 le in let z = lt-ltb n a lt in absurd (false_true (subst (λ b. not b ≡ true) (beyond n a x y z) e)))
            (λ ge. ge)
            (cases_lt n a)

    pub entry_cover : (w : World) (m : Framed) (k : AnfConfig) (input : List ℕ) (n l : ℕ) (vs : List Value) (fs : AnfFrames) → map_at c m.pc ≡ Some (record { regs = 73727; slots = None }) → counts_now c m ≡ true →
        AtCall p w k.store n m.registers l vs → ((z : ℕ) → IsIn z (l ∷ values_locations vs) → Reaches (graph k) z) → FsRel p notes w fs m.frames → ((z : ℕ) → IsIn z (frames_locations (language p).values fs) → Reaches (graph k) z) →
        length m.registers ≡ 17 → Memory p notes w Closed m.heap k.store k.globals m.ahead input k.input k.met_end → Cover p notes w c m (graph k)
    entry_cover w m k input n l vs fs em ec call seen f fr len mem =
        c_even (roots_from w Closed m k input (HasMatch (P p notes w (graph k)) (graph k)) mem (λ a h. h) (λ u a i t.
        ⊎_elim
        (λ i.
        let ch = from_chosen (is_live_register c m) 0 m.registers m.registers u (λ i u e. let z : i ≡ 0 + i = omega arith in subst (λ n. slice_get m.registers n ≡ Some u) z e) i in
        let lt = get-within m.registers ch.index u ch.here in
        ⊎_elim
        (λ z.
        let e : u ≡ W.Pointer procedure_tag call.itself = cc (call.reg0, ch.here, z) in
        word_seen p notes w (graph k) u (At l) a (subst (λ u. WRel w u (At l)) (sym e) (w_at call.link)) (λ y j. ⊎_elim (λ q. seen y (inl q)) (λ q. absurd q) j) t)
        (⊎_elim
        (λ b.
        let b0 = b.0 in let b1 = b.1 in
        let g = ins_get w m.registers 1 vs (ch.index - 1) call.ops (omega arith) in
        let z : 1 + (ch.index - 1) ≡ ch.index = omega arith in
        let same : g.1 ≡ u = cc (subst (λ n. slice_get m.registers n ≡ Some g.1) z g.3, ch.here) in
        word_seen p notes w (graph k) u g.0 a (subst (λ u. WRel w u g.0) same g.4) (λ y j. seen y (inr (among vs (ch.index - 1) g.0 y g.2 j))) t)
        (λ z.
        let e : u ≡ W.Fix (pos (length vs)) = cc (call.number, ch.here, z) in
        absurd (subst (λ u. IsIn a (targets u)) e t)))
        (counted_live m (length vs) ch.index em ec call.number (omega arith) ch.passes))
        (λ i. waiting_seen p notes w (graph k) c fo consts (static_root k) fs m.frames u a f fr (subst (λ o. IsIn u (stack_slots c (slots_of o) m.frames)) em i) t)
        (in-cases (live_registers c m) (stack_slots c (slots_of (map_at c m.pc)) m.frames) u i)))
      where
        among : (vs : List Value) (i : ℕ) (v : Value) (l : ℕ) → slice_get vs i ≡ Some v → IsIn l (value_locations v) → IsIn l (values_locations vs)
        among [] i v l e h = cc
        among (x ∷ vs) zero v l e h = let q : x ≡ v = cc (e) in in-left (value_locations x) (values_locations vs) l (subst (λ v. IsIn l (value_locations v)) (sym q) h)
        among (x ∷ vs) (suc i) v l e h = in-right (value_locations x) (values_locations vs) l (among vs i v l e h)

    -- at the entry of a lambda that is lifted
    param_word : (w : World) (regs : List Word) (ps : List ℕ) (vs : List Value) (y i j : ℕ) → Ins w regs j vs → Param y i j ps → length ps ≡ length vs → (n : ℕ) × (v : Value) × (u : Word) × (slice_get vs n ≡ Some v) × (slice_get regs i ≡ Some u) × WRel w u v
    param_word w regs ps vs y i j in_none here_param len = absurd (omega arith)
    param_word w regs ps vs y i j in_none (there_param ne h) len = absurd (omega arith)
    param_word w regs ps vs y i j (in_more {u = u} {v = v} e r h) here_param len = (0, v, u, refl, e, r)
    param_word w regs ps vs y i j (in_more {vs = us} e r h) (there_param {ps = qs} ne q) len =
        let t = param_word w regs qs us y i (suc j) h q (omega arith) in (suc t.0, t.1, t.2, t.3, t.4, t.5)

    pub lifted_cover : (w : World) (m : Framed) (k : AnfConfig) (input : List ℕ) (n : ℕ) (ps us : List ℕ) (vs : List Value) (fs : AnfFrames) (map : List Entry) → HasNote p notes m.pc (AtLifted n map) → StartsLifted ps us map → length vs ≡ length ps →
        Ins w m.registers 1 vs → ((z : ℕ) → IsIn z (values_locations vs) → Reaches (graph k) z) → FsRel p notes w fs m.frames → ((z : ℕ) → IsIn z (frames_locations (language p).values fs) → Reaches (graph k) z) →
        length m.registers ≡ 17 → Memory p notes w Closed m.heap k.store k.globals m.ahead input k.input k.met_end → Cover p notes w c m (graph k)
    lifted_cover w m k input n ps us vs fs map note st count ins seen f fr len mem =
        let em = fo.maps m.pc _ note in
        c_even (roots_from w Closed m k input (HasMatch (P p notes w (graph k)) (graph k)) mem (λ a h. h) (λ u a i t.
        ⊎_elim
        (λ i.
        let ch = from_chosen (is_live_register c m) 0 m.registers m.registers u (λ i u e. let z : i ≡ 0 + i = omega arith in subst (λ n. slice_get m.registers n ≡ Some u) z e) i in
        let lt = get-within m.registers ch.index u ch.here in
        let e2 : is_bit_set (register_bits map 17) ch.index && not (counts_now c m && is_beyond (operand_count (slice_get m.registers 16)) ch.index) ≡ true =
        subst (λ o. on_some o false (λ map. is_bit_set map.regs ch.index) && not (counts_now c m && is_beyond (operand_count (slice_get m.registers 16)) ch.index) ≡ true) em ch.passes in
        let en = register_entry map ch.index (sym (digit map 17 ch.index (omega arith)) ∙ and_left _ _ e2) in
        let q = st.begins_lifted (Reg ch.index) en.symbol en.entry in
        let g = param_word w m.registers ps vs q.0 q.1 1 ins q.5 (sym count) in
        let same : g.2 ≡ u = cc (subst (λ s. read s m.registers [] ≡ Some g.2) (sym q.2) g.4, ch.here) in
        word_seen p notes w (graph k) u g.1 a (subst (λ u. WRel w u g.1) same g.5) (λ y j. seen y (value_among2 vs g.0 g.1 y g.3 j)) t)
        (λ i. waiting_seen p notes w (graph k) c fo consts (static_root k) fs m.frames u a f fr (subst (λ o. IsIn u (stack_slots c (slots_of o) m.frames)) em i) t)
        (in-cases (live_registers c m) (stack_slots c (slots_of (map_at c m.pc)) m.frames) u i)))
      where
        value_among2 : (vs : List Value) (i : ℕ) (v : Value) (l : ℕ) → slice_get vs i ≡ Some v → IsIn l (value_locations v) → IsIn l (values_locations vs)
        value_among2 [] i v l e h = cc
        value_among2 (x ∷ vs) zero v l e h = let q : x ≡ v = cc (e) in in-left (value_locations x) (values_locations vs) l (subst (λ v. IsIn l (value_locations v)) (sym q) h)
        value_among2 (x ∷ vs) (suc i) v l e h = in-right (value_locations x) (values_locations vs) l (value_among2 vs i v l e h)
