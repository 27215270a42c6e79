-- Cells are made, read and set.
use Rattle.std.proofs.Common.{◌≡◌, refl, sym, ◌∙◌, subst, ap, ℕ, zero, suc, ◌+◌, ◌<◌, ◌≤◌, Bool, inl, inr, ⊎_elim, arith, List, [], ◌∷◌, ◌++◌, length, Option, Some, None, slice_get, slice_set}
use Rattle.std.specs.Prelude.{drop}
use Rattle.std.proofs.Common.{lt-ltb, le-ltb}
use Rattle.std.proofs.lemmas.Bool.{cases_lt}
use Rattle.tb_prim.specs.declared.event.Cause.{Cause}
use Rattle.tb_prim.specs.declared.event.Event.{Event}
use Rattle.tb_prim.specs.declared.event.Stop.{Stop}
use Rattle.tb_prim.specs.declared.event.Taken.{Taken}
use Rattle.tb_prim.specs.declared.place.Place.{Place}
use Rattle.tb_semantics.specs.Graph.{IsIn}
use Rattle.tb_semantics.proofs.ListLemmas.{get-last, get-left, in-left, in-right}
use Rattle.tb_core.specs.Store.{Value, At, Unspecified, Undefined}
use Rattle.tb_ir.specs.AnfTree.{Operand, Block, Op, NewCell, CellGet, CellSet, AnfTree}
use Rattle.tb_ir.specs.AnfMachine.{AnfConfig, AnfFrames, InBlock, InOp, atom_value, atom_values, free_of_atom, free_op}
use Rattle.tb_ir.specs.Machine.{Env, Eval, Item, Cell, Lost, Val, gather, get_cell, go, get_held, set_cell}
use Rattle.tb_ir.specs.Space.{closures_in, made, words_in}
use Rattle.tb_mac.specs.declared.code.Instr.TheVariants as I
use Rattle.tb_mac.specs.declared.word.Word.{Word}
use Rattle.tb_mac.specs.declared.word.Word.TheVariants as W
use Rattle.tb_mac.specs.Assembled.{Assembled}
use Rattle.tb_mac.specs.Effects.{object_at}
use Rattle.tb_mac.specs.Frames.{Frame as MacFrame, makes}
use Rattle.tb_mac.specs.LiveWords.{closure_count, data_size, object_size as words_from}
use Rattle.tb_mac.specs.MacStep.{place_of}
use Rattle.tb_mac.specs.Objects.{cell_kind, vector_tag}
use Rattle.tb_codegen.specs.Notes.{Entry, Reg, Own, Note, Inside, AtBlock, AtValue, AtUnspecified, Waiting, symbol_of}
use Rattle.tb_codegen.specs.Generate.{captured_in}
use Rattle.tb_codegen.proofs.Calls.{Kind, k_at, k_data, kind_of}
use Rattle.tb_codegen.proofs.Changes.{Args, no_args, an_arg, From, Into, IsFirst, OpAt, Under}
use Rattle.tb_codegen.proofs.Envs.{get-set, get-set-other, get-within}
use Rattle.tb_codegen.proofs.Holding.{w-more}
use Rattle.tb_mac.specs.FramedRuns.{framed_after}
use Rattle.tb_codegen.proofs.Memories.{agree_left, agree_set, IsPlain, p_agree, p_set, plain_word}
use Rattle.tb_codegen.proofs.Moves.{done}
use Rattle.tb_codegen.proofs.Ok.{HasNote, free}
use Rattle.tb_codegen.proofs.Operands.{at_op, atom_there, fails_op, lands_op, lands_written, lost_op, value-gather}
use Rattle.tb_codegen.proofs.Rel.{Closed, FsRel, globals_words, Holds, JRel, Lk, Memory, ORel, o_cell, o_pair, o_vector, o_string, o_symbol, o_procedure, OwnRel, IsCut, PRel, p_none, p_full, at_block, r_full, r_inside, Stores, Whole, World, WRel, w_at, config, step_of, tag_of}
use Rattle.tb_codegen.proofs.Sim.{Sim, Still, machine, source}
use Rattle.tb_codegen.proofs.Simple.{Defined, is_mark, is_value, defined}
use Rattle.tb_codegen.proofs.Stored.{stores_new, stores_write}

-- what is made so far, with one more item, and with an item in place of one as large
pub made_more : (st : List Item) (i : Item) → made (st ++ i ∷ []) ≡ made st + (closures_in i + words_in i)
made_more [] i = omega arith
made_more (j ∷ st) i = let h = made_more st i in omega arith

pub made_set : (st : List Item) (l : ℕ) (i j : Item) → slice_get st l ≡ Some i → closures_in j + words_in j ≡ closures_in i + words_in i → made (slice_set st l j) ≡ made st
made_set [] l i j e q = cc
made_set (x ∷ st) zero i j e q = let s : x ≡ i = cc (e) in let z : closures_in x + words_in x ≡ closures_in i + words_in i = ap (λ x. closures_in x + words_in x) s in omega arith
made_set (x ∷ st) (suc l) i j e q = let h = made_set st l i j e q in omega arith

-- words behind others
pub at_next : {X : Type 0} (xs ys : List X) (i : ℕ) (y : X) → slice_get ys i ≡ Some y → slice_get (xs ++ ys) (length xs + i) ≡ Some y
at_next [] ys i y e = let z : 0 + i ≡ i = omega arith in subst (λ i. slice_get ys i ≡ Some y) (sym z) e
at_next (x ∷ xs) ys i y e = let z : suc (length xs + i) ≡ suc (length xs) + i = omega arith in subst (λ n. slice_get (x ∷ (xs ++ ys)) n ≡ Some y) z (at_next xs ys i y e)

pub at_end : (xs ys : List Word) (y : Word) → slice_get ys 0 ≡ Some y → slice_get (xs ++ ys) (length xs) ≡ Some y
at_end xs ys y e = let z : length xs + 0 ≡ length xs = omega arith in subst (λ n. slice_get (xs ++ ys) n ≡ Some y) z (at_next xs ys 0 y e)

module _ (p : AnfTree) (notes : List Note) (limit : ℕ) where
  -- a word of an object is written, as its item is
  pub mem_write : (w : World) (heap : List Word) (st : List Item) (globals : List Value) (ahead : Option Taken) (input cin : List ℕ) (met : Bool)
      (t a l k : ℕ) (old u : Word) (i j : Item) → Memory p notes w Closed heap st globals ahead input cin met → IsIn (Lk t a l) w → slice_get st l ≡ Some i →
      slice_get heap k ≡ Some old → IsPlain old → IsPlain u → a ≤ k → k < a + words_from (slice_get heap a) → t ≡ tag_of j →
      closures_in j + words_in j ≡ closures_in i + words_in i → ORel p notes w (slice_set heap k u) Whole a j →
      Memory p notes w Closed (slice_set heap k u) (slice_set st l j) globals ahead input cin met
  mem_write w heap st globals ahead input cin met t a l k old u i j mem lk there e po pu le lt tg same rel =
      let g = mem.stores.behind t a l lk in
      let n = mem.count in
      record {
        stores = stores_write p notes w Closed Closed (globals_words p notes) heap st (slice_set st l j) t a l k old u j mem.stores lk e po pu le lt (get-set st l j (get-within st l i there)) tg rel
            (λ m x ne f. get-set-other st l m x j (λ q. ne (sym q)) f) (λ m ne. refl) (λ m b. tt) (omega arith) (made_set st l i j there same);
        held = p_agree w w (λ k i. i) heap (slice_set heap k u) 0 (length globals) (length globals) globals (omega arith) (agree_set heap k u 0 (length globals) (inr (omega arith))) mem.held;
        count = mem.count;
        inputs = mem.inputs;
        padded = λ n a b. get-set-other heap k n _ u (λ q. absurd (omega arith)) (mem.padded n a b);
        statics = mem.statics;
      }

  -- an object is made, as an item is
  pub mem_new : (w : World) (heap ws : List Word) (st : List Item) (globals : List Value) (ahead : Option Taken) (input cin : List ℕ) (met : Bool) (i : Item) (u : Word) →
      Memory p notes w Closed heap st globals ahead input cin met → slice_get (heap ++ ws) (length heap) ≡ Some u → length ws ≡ words_from (Some u) →
      closure_count (Some u) + data_size (Some u) ≤ closures_in i + words_in i → ORel p notes (Lk (tag_of i) (length heap) (length st) ∷ w) (heap ++ ws) Whole (length heap) i →
      Memory p notes (Lk (tag_of i) (length heap) (length st) ∷ w) Closed (heap ++ ws) (st ++ i ∷ []) globals ahead input cin met
  mem_new w heap ws st globals ahead input cin met i u mem head long fits rel =
      let z = Lk (tag_of i) (length heap) (length st) ∷ w in
      let m = made_more st i in
      let f = mem.stores.made in
      record {
        stores = stores_new p notes w Closed Closed (globals_words p notes) heap ws st (st ++ i ∷ []) (length st) i u mem.stores head long (get-last st i)
            (λ t a k. no_link w heap st t a mem.stores k) (λ m j e. get-left st (i ∷ []) m j e) rel (λ t a m k. refl) (λ t a m k. tt) tt (omega arith);
        held = p_agree w z (λ k i. inr i) heap (heap ++ ws) 0 (length globals) (length globals) globals (omega arith) (agree_left heap ws 0 (length globals)) mem.held;
        count = mem.count;
        inputs = mem.inputs;
        padded = λ k a b. get-left heap ws k _ (mem.padded k a b);
        statics = λ n s e. let q = mem.statics n s e in (q.0, q.1, inr q.2);
      }
    where
      no_link : (w : World) (heap : List Word) (st : List Item) (t a : ℕ) → Stores p notes w Closed (globals_words p notes) heap st → IsIn (Lk t a (length st)) w → ⊥
      no_link w heap st t a s k = let d = s.linked t a (length st) k in let lt = get-within st (length st) d.item d.there in omega arith

  -- an operation makes an object
  pub step_make : (x : Still) {w : World} {op : Op} {b : Block} {js gs : Waiting} {o : Option (List ℕ)} {own : Own} {d : ℕ}
      {old new : List Entry} {rs : List Env} {fr fs : AnfFrames} {slots : List Word} {top ms : List MacFrame} (r : Env) (k : ℕ) (i : Item) (ws : List Word) (u : Word) →
      OpAt (captured_in p) op b js gs o → d < 17 → Into (Reg d) IsFirst (Under o []) new old →
      HasNote p notes x.pc (Inside (AtBlock b js) own old) → IsCut p notes (free p b) r →
      HasNote p notes (x.pc + 1) (Inside (AtValue gs) own new) → JRel js rs fr fs →
      Holds p x.st w (r ∷ rs) x.regs slots old → OwnRel own slots top ms → FsRel p notes w fs ms → length x.regs ≡ 17 →
      Memory p notes w Closed x.heap x.st x.globals x.ahead x.input x.cin x.met →
      ((hs : AnfFrames) → step_of p notes (at_op p notes limit x op r hs) ≡ source p notes limit (record x { st = x.st ++ i ∷ [] }) (Val (At (length x.st))) hs) →
      slice_get (x.heap ++ ws) (length x.heap) ≡ Some u → length ws ≡ words_from (Some u) →
      closure_count (Some u) + data_size (Some u) ≤ closures_in i + words_in i → ORel p notes (Lk (tag_of i) (length x.heap) (length x.st) ∷ w) (x.heap ++ ws) Whole (length x.heap) i →
      Sim p notes limit (framed_after (machine x top) x.input x.es (makes (tag_of i) ws d (machine x top))) k (source p notes limit x (Eval (InBlock b) r) fr)
  step_make x {w = w} {b = b} {d = d} {top = top} r k i ws u at lt into here cut next j h o f len mem steps head long fits rel =
      ⊎_elim
      (λ less. rw (lt-ltb (length x.gap) (length ws) less) (0, (w, r_full refl (r_inside x.es here (at_block b r cut j) h o f mem len)), inr (inr refl)))
      (λ ge.
      rw (le-ltb (length x.gap) (length ws) ge)
      (lands_op p notes limit x (record x { st = x.st ++ i ∷ []; heap = x.heap ++ ws; gap = drop (length ws) x.gap }) (Lk (tag_of i) (length x.heap) (length x.st) ∷ w) r
      (W.Pointer (tag_of i) (length x.heap)) (At (length x.st)) k at lt into (λ k i. inr i) next j h o f len (w_at (inl refl)) steps
      (mem_new w x.heap ws x.st x.globals x.ahead x.input x.cin x.met i u mem head long fits rel)))
      (cases_lt (length x.gap) (length ws))

  module _ (c : Assembled) where
    -- a cell is made
    pub step_new_cell : (x : Still) (a : ℕ) {w : World} {e : Operand} {b : Block} {js gs : Waiting} {o : Option (List ℕ)} {own : Own} {d : ℕ}
        {old new : List Entry} {rs : List Env} {fr fs : AnfFrames} {slots : List Word} {top ms : List MacFrame} (r : Env) (k : ℕ) →
        OpAt (captured_in p) (NewCell e) b js gs o → d < 17 → Into (Reg d) IsFirst (Under o []) new old → Args old (a ∷ []) (e ∷ []) →
        HasNote p notes x.pc (Inside (AtBlock b js) own old) → IsCut p notes (free p b) r →
        HasNote p notes (x.pc + 1) (Inside (AtValue gs) own new) → JRel js rs fr fs →
        Holds p x.st w (r ∷ rs) x.regs slots old → OwnRel own slots top ms → FsRel p notes w fs ms → length x.regs ≡ 17 →
        Memory p notes w Closed x.heap x.st x.globals x.ahead x.input x.cin x.met →
        Sim p notes limit (done p notes limit c x top (I.Cell d a)) k (source p notes limit x (Eval (InBlock b) r) fr)
    step_new_cell x a {w = w} {e = e} {old = old} {rs = rs} {slots = slots} r k at lt into (an_arg i no_args) here cut next j h o f len mem =
        let h0 = h.holds (Reg a) (symbol_of e) i in
        let v = value-gather (free_op (captured_in p) (NewCell e)) r e (λ y i. i) ∙ atom_there p x.st w r rs x.regs slots old (Reg a) e h0 in
        let ws = W.Header cell_kind 1 ∷ h0.word ∷ [] in
        let head : slice_get (x.heap ++ ws) (length x.heap) ≡ Some (W.Header cell_kind 1) = at_end x.heap ws (W.Header cell_kind 1) refl in
        let second : slice_get (x.heap ++ ws) (length x.heap + 1) ≡ Some h0.word = at_next x.heap ws 1 h0.word refl in
        rw (h0.here) (step_make x r k (Cell h0.value) ws (W.Header cell_kind 1) at lt into here cut next j h o f len mem (λ hs. rw v refl) head refl (omega arith)
        (o_cell head (p_full second (w-more w _ (λ k i. inr i) _ _ h0.rel) p_none)))

-- what an operand is to the operations on cells: a cell with its word and value, or none
pub data CellView (w : World) (heap : List Word) (st : List Item) : Word → Value → Type 0 where
  v_cell : {a l : ℕ} (u : Word) (v : Value) → object_at (λ at. slice_get heap at) vector_tag cell_kind (W.Pointer vector_tag a) ≡ Some (record { at = a; size = 1 }) →
      slice_get heap a ≡ Some (W.Header cell_kind 1) → slice_get heap (a + 1) ≡ Some u → WRel w u v → IsIn (Lk vector_tag a l) w → slice_get st l ≡ Some (Cell v) →
      CellView w heap st (W.Pointer vector_tag a) (At l)
  v_none : {u : Word} {v : Value} → object_at (λ at. slice_get heap at) vector_tag cell_kind u ≡ None →
      ((c : AnfConfig) (q : Place) (es : List Event) → c.store ≡ st → get_cell c q v c.frames es ≡ Lost c es) →
      ((c : AnfConfig) (v2 : Value) (es : List Event) → c.store ≡ st → set_cell c v v2 c.frames es ≡ Lost c es) → CellView w heap st u v

get_data : (c : AnfConfig) (q : Place) (v : Value) (fs : AnfFrames) (es : List Event) → ((l : ℕ) → v ≡ At l → ⊥) → get_cell c q v fs es ≡ Lost c es
get_data c q (Value.Fix n) fs es ne = refl
get_data c q (Value.Char n) fs es ne = refl
get_data c q (Value.Truth b) fs es ne = refl
get_data c q Value.Nil fs es ne = refl
get_data c q Value.Unspecified fs es ne = refl
get_data c q Value.Undefined fs es ne = refl
get_data c q Value.EndObject fs es ne = refl
get_data c q (At l) fs es ne = absurd (ne l refl)

set_data : (c : AnfConfig) (v v2 : Value) (fs : AnfFrames) (es : List Event) → ((l : ℕ) → v ≡ At l → ⊥) → set_cell c v v2 fs es ≡ Lost c es
set_data c (Value.Fix n) v2 fs es ne = refl
set_data c (Value.Char n) v2 fs es ne = refl
set_data c (Value.Truth b) v2 fs es ne = refl
set_data c Value.Nil v2 fs es ne = refl
set_data c Value.Unspecified v2 fs es ne = refl
set_data c Value.Undefined v2 fs es ne = refl
set_data c Value.EndObject v2 fs es ne = refl
set_data c (At l) v2 fs es ne = absurd (ne l refl)

module _ (p : AnfTree) (notes : List Note) where
  item_view : (w : World) (heap : List Word) (st : List Item) (t a l : ℕ) (i : Item) → IsIn (Lk t a l) w → slice_get st l ≡ Some i → t ≡ tag_of i → ORel p notes w heap Whole a i →
      CellView w heap st (W.Pointer t a) (At l)
  item_view w heap st t a l i k there tg (o_cell {v = v} hd (p_full {u = u} e uv p_none)) =
      subst (λ t. CellView w heap st (W.Pointer t a) (At l)) (sym tg)
      (v_cell u v (rw hd refl) hd e uv (subst (λ t. IsIn (Lk t a l) w) tg k) there)
  item_view w heap st t a l i k there tg (o_pair pr) = v_none (rw tg refl) (λ c q es e. rw (e, there) refl) (λ c v es e. rw (e, there) refl)
  item_view w heap st t a l i k there tg (o_vector few hd pr) = v_none (rw (tg, hd) refl) (λ c q es e. rw (e, there) refl) (λ c v es e. rw (e, there) refl)
  item_view w heap st t a l i k there tg (o_string few hd pr) = v_none (rw tg refl) (λ c q es e. rw (e, there) refl) (λ c v es e. rw (e, there) refl)
  item_view w heap st t a l i k there tg (o_symbol few hd pr) = v_none (rw tg refl) (λ c q es e. rw (e, there) refl) (λ c v es e. rw (e, there) refl)
  item_view w heap st t a l i k there tg (o_procedure m e us hd cd note long er pr) = v_none (rw tg refl) (λ c q es e. rw (e, there) refl) (λ c v es e. rw (e, there) refl)

  pub cell_view : (w : World) (globals : ℕ) (heap : List Word) (st : List Item) (u : Word) (v : Value) → Stores p notes w Closed globals heap st → Kind w u v → CellView w heap st u v
  cell_view w globals heap st u v s (k_data no_object no_pair ne) = v_none (no_object (λ at. slice_get heap at) vector_tag cell_kind) (λ c q es e. get_data c q v c.frames es ne) (λ c v2 es e. set_data c v v2 c.frames es ne)
  cell_view w globals heap st u v s (k_at {t = t} {a = a} {l = l} k) = let d = s.linked t a l k in item_view w heap st t a l d.item k d.there d.tag d.rel

  held_some : (c : AnfConfig) (q : Place) (v : Value) (fs : AnfFrames) (es : List Event) → (v ≡ Undefined → ⊥) → get_held c q (Some (Cell v)) fs es ≡ go c (Val v) fs es
  held_some c q (Value.Fix n) fs es ne = refl
  held_some c q (Value.Char n) fs es ne = refl
  held_some c q (Value.Truth b) fs es ne = refl
  held_some c q Value.Nil fs es ne = refl
  held_some c q Unspecified fs es ne = refl
  held_some c q Undefined fs es ne = absurd (ne refl)
  held_some c q Value.EndObject fs es ne = refl
  held_some c q (At l) fs es ne = refl

  module _ (limit : ℕ) (c : Assembled) where
    got : (x : Still) (a : ℕ) {w : World} {e : Operand} {q : Place} {b : Block} {js gs : Waiting} {o : Option (List ℕ)} {own : Own} {d : ℕ}
        {old new : List Entry} {rs : List Env} {fr fs : AnfFrames} {slots : List Word} {top ms : List MacFrame} (r : Env) (k : ℕ) (u : Word) (v : Value) (ad l : ℕ) →
        Defined u v → OpAt (captured_in p) (CellGet e q) b js gs o → place_of c.places x.pc ≡ Some q → d < 17 → Into (Reg d) IsFirst (Under o []) new old →
        slice_get x.regs a ≡ Some (W.Pointer vector_tag ad) → atom_value (gather (free_op (captured_in p) (CellGet e q)) r) e ≡ Some (At l) →
        object_at (λ at. slice_get x.heap at) vector_tag cell_kind (W.Pointer vector_tag ad) ≡ Some (record { at = ad; size = 1 }) →
        slice_get x.heap (ad + 1) ≡ Some u → WRel w u v → slice_get x.st l ≡ Some (Cell v) →
        HasNote p notes x.pc (Inside (AtBlock b js) own old) → IsCut p notes (free p b) r →
        HasNote p notes (x.pc + 1) (Inside (AtValue gs) own new) → JRel js rs fr fs →
        Holds p x.st w (r ∷ rs) x.regs slots old → OwnRel own slots top ms → FsRel p notes w fs ms → length x.regs ≡ 17 →
        Memory p notes w Closed x.heap x.st x.globals x.ahead x.input x.cin x.met →
        Sim p notes limit (done p notes limit c x top (I.CellGet d a)) k (source p notes limit x (Eval (InBlock b) r) fr)
    got x a {q = q} r k u v ad l is_mark at place lt into e0 ev ob f uv there here cut next j h o fs len mem =
        rw (e0, ob, f, place) (fails_op p notes limit x r (Stop.Fail Cause.Undefined q) (x.es ++ Event.Fail Cause.Undefined q ∷ []) k at here cut j h o fs len (λ hs. rw (ev, there) refl) mem)
    got x a {w = w} {e = e} {q = q} r k u v ad l (is_value t ne) at place lt into e0 ev ob f uv there here cut next j h o fs len mem =
        rw (e0, ob, f, t) (lands_op p notes limit x x w r u v k at lt into (λ k i. i) next j h o fs len uv
        (λ hs. rw (ev, there) (held_some (config p notes (Eval (InOp (CellGet e q)) (gather (free_op (captured_in p) (CellGet e q)) r)) hs x.globals x.st x.cin x.met) q v hs x.es ne)) mem)

    get_viewed : (x : Still) (a : ℕ) {w : World} {e : Operand} {q : Place} {b : Block} {js gs : Waiting} {o : Option (List ℕ)} {own : Own} {d : ℕ}
        {old new : List Entry} {rs : List Env} {fr fs : AnfFrames} {slots : List Word} {top ms : List MacFrame} (r : Env) (k : ℕ) (u : Word) (v : Value) →
        CellView w x.heap x.st u v → OpAt (captured_in p) (CellGet e q) b js gs o → place_of c.places x.pc ≡ Some q → d < 17 → Into (Reg d) IsFirst (Under o []) new old →
        slice_get x.regs a ≡ Some u → atom_value (gather (free_op (captured_in p) (CellGet e q)) r) e ≡ Some v →
        HasNote p notes x.pc (Inside (AtBlock b js) own old) → IsCut p notes (free p b) r →
        HasNote p notes (x.pc + 1) (Inside (AtValue gs) own new) → JRel js rs fr fs →
        Holds p x.st w (r ∷ rs) x.regs slots old → OwnRel own slots top ms → FsRel p notes w fs ms → length x.regs ≡ 17 →
        Memory p notes w Closed x.heap x.st x.globals x.ahead x.input x.cin x.met →
        Sim p notes limit (done p notes limit c x top (I.CellGet d a)) k (source p notes limit x (Eval (InBlock b) r) fr)
    get_viewed x a {w = w} r k u v (v_cell {a = ad} {l = l} u2 v2 ob hd f uv lk there) at place lt into e0 ev here cut next j h o fs len mem =
        got x a r k u2 v2 ad l (defined w u2 v2 uv) at place lt into e0 ev ob f uv there here cut next j h o fs len mem
    get_viewed x a {q = q} r k u v (v_none none lost set) at place lt into e0 ev here cut next j h o fs len mem =
        rw (e0, none) (lost_op p notes limit x r (Stop.Stuck x.pc) k refl at here cut j h o fs len (λ hs. rw ev (lost _ q x.es refl)) mem)

    pub step_cell_get : (x : Still) (a : ℕ) {w : World} {e : Operand} {q : Place} {b : Block} {js gs : Waiting} {o : Option (List ℕ)} {own : Own} {d : ℕ}
        {old new : List Entry} {rs : List Env} {fr fs : AnfFrames} {slots : List Word} {top ms : List MacFrame} (r : Env) (k : ℕ) →
        OpAt (captured_in p) (CellGet e q) b js gs o → place_of c.places x.pc ≡ Some q → d < 17 → Into (Reg d) IsFirst (Under o []) new old → Args old (a ∷ []) (e ∷ []) →
        HasNote p notes x.pc (Inside (AtBlock b js) own old) → IsCut p notes (free p b) r →
        HasNote p notes (x.pc + 1) (Inside (AtValue gs) own new) → JRel js rs fr fs →
        Holds p x.st w (r ∷ rs) x.regs slots old → OwnRel own slots top ms → FsRel p notes w fs ms → length x.regs ≡ 17 →
        Memory p notes w Closed x.heap x.st x.globals x.ahead x.input x.cin x.met →
        Sim p notes limit (done p notes limit c x top (I.CellGet d a)) k (source p notes limit x (Eval (InBlock b) r) fr)
    step_cell_get x a {w = w} {e = e} {q = q} {old = old} {rs = rs} {slots = slots} r k at place lt into (an_arg i no_args) here cut next j h o fs len mem =
        let h0 = h.holds (Reg a) (symbol_of e) i in
        let v = value-gather (free_op (captured_in p) (CellGet e q)) r e (λ y i. i) ∙ atom_there p x.st w r rs x.regs slots old (Reg a) e h0 in
        get_viewed x a r k h0.word h0.value (cell_view w _ x.heap x.st h0.word h0.value mem.stores (kind_of w h0.word h0.value h0.rel)) at place lt into h0.here v here cut next j h o fs len mem

    set_viewed : (x : Still) (a a2 : ℕ) {w : World} {e e2 : Operand} {b : Block} {js gs : Waiting} {o : Option (List ℕ)} {own : Own}
        {old new : List Entry} {rs : List Env} {fr fs : AnfFrames} {slots : List Word} {top ms : List MacFrame} (r : Env) (k : ℕ) (u u2 : Word) (v v2 : Value) →
        CellView w x.heap x.st u v → OpAt (captured_in p) (CellSet e e2) b js gs o → From (Under o []) new old →
        slice_get x.regs a ≡ Some u → slice_get x.regs a2 ≡ Some u2 → WRel w u2 v2 → atom_values (gather (free_op (captured_in p) (CellSet e e2)) r) (e ∷ e2 ∷ []) ≡ Some (v ∷ v2 ∷ []) →
        HasNote p notes x.pc (Inside (AtBlock b js) own old) → IsCut p notes (free p b) r →
        HasNote p notes (x.pc + 1) (Inside (AtUnspecified gs) own new) → JRel js rs fr fs →
        Holds p x.st w (r ∷ rs) x.regs slots old → OwnRel own slots top ms → FsRel p notes w fs ms → length x.regs ≡ 17 →
        Memory p notes w Closed x.heap x.st x.globals x.ahead x.input x.cin x.met →
        Sim p notes limit (done p notes limit c x top (I.CellSet a a2)) k (source p notes limit x (Eval (InBlock b) r) fr)
    set_viewed x a a2 {w = w} r k u u2 v v2 (v_cell {a = ad} {l = l} u3 v3 ob hd f uv lk there) at from e0 e1 uv2 ev here cut next j h o fs len mem =
        let two : words_from (slice_get x.heap ad) ≡ 2 = ap words_from hd in
        let one : PRel w x.heap (ad + 1) 1 (v3 ∷ []) = p_full f uv p_none in
        let z : ad + 1 + 0 ≡ ad + 1 = omega arith in
        let set : PRel w (slice_set x.heap (ad + 1) u2) (ad + 1) 1 (v2 ∷ []) = subst (λ n. PRel w (slice_set x.heap n u2) (ad + 1) 1 (v2 ∷ [])) z (p_set w x.heap (ad + 1) 1 (v3 ∷ []) 0 u2 v2 (omega arith) (omega arith) uv2 one) in
        let head : slice_get (slice_set x.heap (ad + 1) u2) ad ≡ Some (W.Header cell_kind 1) = get-set-other x.heap (ad + 1) ad _ u2 (λ q. omega arith) hd in
        rw (e0, ob, f, e1) (lands_written p notes limit x (record x { heap = slice_set x.heap (ad + 1) u2; st = slice_set x.st l (Cell v2) }) r k at from next j h o fs len
        (λ hs. rw (ev, there) refl)
        (mem_write p notes limit w x.heap x.st x.globals x.ahead x.input x.cin x.met vector_tag ad l (ad + 1) u3 u2 (Cell v3) (Cell v2) mem lk there f (plain_word w u3 v3 uv) (plain_word w u2 v2 uv2) (omega arith) (omega arith) refl refl (o_cell head set)))
    set_viewed x a a2 r k u u2 v v2 (v_none none get lost) at from e0 e1 uv2 ev here cut next j h o fs len mem =
        rw (e0, none) (lost_op p notes limit x r (Stop.Stuck x.pc) k refl at here cut j h o fs len (λ hs. rw ev (lost _ v2 x.es refl)) mem)

    pub step_cell_set : (x : Still) (a a2 : ℕ) {w : World} {e e2 : Operand} {b : Block} {js gs : Waiting} {o : Option (List ℕ)} {own : Own}
        {old new : List Entry} {rs : List Env} {fr fs : AnfFrames} {slots : List Word} {top ms : List MacFrame} (r : Env) (k : ℕ) →
        OpAt (captured_in p) (CellSet e e2) b js gs o → From (Under o []) new old → Args old (a ∷ a2 ∷ []) (e ∷ e2 ∷ []) →
        HasNote p notes x.pc (Inside (AtBlock b js) own old) → IsCut p notes (free p b) r →
        HasNote p notes (x.pc + 1) (Inside (AtUnspecified gs) own new) → JRel js rs fr fs →
        Holds p x.st w (r ∷ rs) x.regs slots old → OwnRel own slots top ms → FsRel p notes w fs ms → length x.regs ≡ 17 →
        Memory p notes w Closed x.heap x.st x.globals x.ahead x.input x.cin x.met →
        Sim p notes limit (done p notes limit c x top (I.CellSet a a2)) k (source p notes limit x (Eval (InBlock b) r) fr)
    step_cell_set x a a2 {w = w} {e = e} {e2 = e2} {old = old} {rs = rs} {slots = slots} r k at from (an_arg i (an_arg i2 no_args)) here cut next j h o fs len mem =
        let h0 = h.holds (Reg a) (symbol_of e) i in
        let h1 = h.holds (Reg a2) (symbol_of e2) i2 in
        let F = free_op (captured_in p) (CellSet e e2) in
        let v = value-gather F r e (λ y i. in-left (free_of_atom e) (free_of_atom e2) y i) ∙ atom_there p x.st w r rs x.regs slots old (Reg a) e h0 in
        let v2 = value-gather F r e2 (λ y i. in-right (free_of_atom e) (free_of_atom e2) y i) ∙ atom_there p x.st w r rs x.regs slots old (Reg a2) e2 h1 in
        set_viewed x a a2 r k h0.word h1.word h0.value h1.value (cell_view w _ x.heap x.st h0.word h0.value mem.stores (kind_of w h0.word h0.value h0.rel)) at from h0.here h1.here h1.rel (rw (v, v2) refl) here cut next j h o fs len mem
