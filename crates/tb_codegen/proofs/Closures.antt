-- New procedures: made, filled with what they capture, and given.
use Rattle.std.proofs.Common.{◌≡◌, refl, sym, ◌∙◌, subst, ap, ℕ, zero, suc, ◌+◌, ◌-◌, ◌<◌, ◌≤◌, ◌%◌, Bool, inl, inr, ⊎_elim, arith, List, [], ◌∷◌, ◌++◌, length, Option, Some, slice_get, slice_set, length-set, lt-ltb, le-ltb, eq-eqb, ne_eqb}
use Rattle.std.specs.Prelude.{drop, pos, replicate}
use Rattle.std.proofs.lemmas.Bool.{cases_lt}
use Rattle.tb_prim.specs.declared.event.Taken.{Taken}
use Rattle.tb_semantics.specs.Graph.{IsIn}
use Rattle.tb_semantics.specs.Runs.{run}
use Rattle.tb_semantics.proofs.ListLemmas.{get-last, get-left}
use Rattle.tb_core.specs.Store.{Value, At}
use Rattle.tb_ir.specs.AnfTree.{Block, Close, AnfTree, ProcTree}
use Rattle.tb_ir.specs.AnfMachine.{AnfFrames, Code, InBlock, captured_by}
use Rattle.tb_ir.specs.Machine.{Control, Env, Empty, Eval, Item, Clo, Val, bind_all, gather, lookup}
use Rattle.tb_ir.specs.Space.{closures_in, words_in}
use Rattle.tb_mac.specs.declared.code.Instr.TheVariants as I
use Rattle.tb_mac.specs.declared.word.Word.{Word}
use Rattle.tb_mac.specs.declared.word.Word.TheVariants as W
use Rattle.tb_mac.specs.Assembled.{Assembled}
use Rattle.tb_mac.specs.Frames.{Frame as MacFrame}
use Rattle.tb_mac.specs.LiveWords.{closure_count, data_size, object_size as words_from}
use Rattle.tb_mac.specs.MacStep.{captured_at}
use Rattle.tb_mac.specs.Objects.{new_procedure, padded_size, procedure_kind, procedure_tag}
use Rattle.tb_codegen.specs.Notes.{Entry, Stands, Reg, Variable, Capture, Own, Note, Inside, Point, AtBlock, AtValue, AtFill, AtProc, Waiting}
use Rattle.tb_codegen.specs.Generate.{captured_in}
use Rattle.tb_codegen.proofs.Cells.{at_end, at_next, made_more, step_make}
use Rattle.tb_codegen.proofs.Changes.{From, Into, IsFirst, OpAt, Opens, o_under, o_capture, Same, Under}
use Rattle.tb_codegen.proofs.Envs.{gather-sub, get-set, get-set-other, get-within, same_caught}
use Rattle.tb_codegen.proofs.Holding.{Changes, first-put, fs-more, holds-from, holds-into, pushed, same-means, under}
use Rattle.tb_codegen.proofs.Memories.{agree_left, agree_set, p_agree, plain_word}
use Rattle.tb_codegen.proofs.Moves.{done}
use Rattle.tb_codegen.proofs.Ok.{Entered, HasNote, Stand, free}
use Rattle.tb_codegen.proofs.Operands.{op_starts}
use Rattle.tb_codegen.proofs.Rel.{Closed, Fill, FsRel, globals_words, Holds, JRel, Lk, Means, m_name, m_capture, Memory, Open, Opened, ORel, o_cell, o_pair, o_vector, o_string, o_symbol, o_procedure, OwnRel, IsBefore, IsCut, Part, PRel, p_none, p_full, p_zero, PtRel, at_block, at_fill, at_value, r_full, r_inside, Rel, Stores, Whole, World, WRel, unmade, w_fix, w_at, fill_of, filled, open_of, step_of, tag_of}
use Rattle.tb_codegen.proofs.Sim.{Mem, Sim, Still, source, target}
use Rattle.tb_codegen.proofs.Stored.{stores_new, stores_write}

-- the values that are captured
pub record Values (r : Env) (xs : List ℕ) : Type 0 where
  pub values : List Value
  pub long : length values ≡ length xs
  pub same : gather xs r ≡ bind_all xs values Empty
  pub each : (j y : ℕ) → slice_get xs j ≡ Some y → slice_get values j ≡ lookup r y

each_more : (r : Env) (x : ℕ) (xs : List ℕ) (v : Value) (vs : List Value) → lookup r x ≡ Some v → ((j y : ℕ) → slice_get xs j ≡ Some y → slice_get vs j ≡ lookup r y) →
    (j y : ℕ) → slice_get (x ∷ xs) j ≡ Some y → slice_get (v ∷ vs) j ≡ lookup r y
each_more r x xs v vs ev h zero y e = let q : x ≡ y = cc (e) in sym ev ∙ ap (lookup r) q
each_more r x xs v vs ev h (suc j) y e = h j y e

pub values_of : (r : Env) (xs : List ℕ) → ((y : ℕ) → IsIn y xs → (v : Value) × (lookup r y ≡ Some v)) → Values r xs
values_of r [] h = record { values = []; long = refl; same = refl; each = λ j y e. cc }
values_of r (x ∷ xs) h =
    let v = h x (inl refl) in
    let t = values_of r xs (λ y i. h y (inr i)) in
    let s = t.same in
    record { values = v.0 ∷ t.values; long = ap suc t.long; same = rw (v.1, s) refl; each = λ j y e. each_more r x xs v.0 t.values v.1 t.each j y e }

-- words that are still the fixnum 0
pub zeros_at : (heap : List Word) (n a : ℕ) (w : World) (vs : List Value) → length vs ≤ n → ((k : ℕ) → k < n → slice_get heap (a + k) ≡ Some (W.Fix (pos 0))) → PRel w heap a 0 vs
zeros_at heap n a w [] le h = p_none
zeros_at heap n a w (v ∷ vs) le h =
    let z : a + 0 ≡ a = omega arith in
    p_zero (subst (λ a. slice_get heap a ≡ Some (W.Fix (pos 0))) z (h 0 (omega arith)))
    (zeros_at heap (n - 1) (suc a) w vs (omega arith) (λ k lt. let q : a + suc k ≡ suc a + k = omega arith in subst (λ n. slice_get heap n ≡ Some (W.Fix (pos 0))) q (h (suc k) (omega arith))))

pub get-replicate : {X : Type 0} (n k : ℕ) (u : X) → k < n → slice_get (replicate n u) k ≡ Some u
get-replicate zero k u lt = absurd (omega arith)
get-replicate (suc n) zero u lt = refl
get-replicate (suc n) (suc k) u lt = get-replicate n k u (omega arith)

pub length-replicate' : (n : ℕ) (u : Word) → length (replicate n u) ≡ n
length-replicate' zero u = refl
length-replicate' (suc n) u = ap suc (length-replicate' n u)

-- one of the words of values is written behind those that are
pub p_fill : (w : World) (heap : List Word) (a j : ℕ) (vs : List Value) (u : Word) (v : Value) → slice_get vs j ≡ Some v → WRel w u v → PRel w heap a j vs →
    (slice_get heap (a + j) ≡ Some (W.Fix (pos 0))) × PRel w (slice_set heap (a + j) u) a (suc j) vs
p_fill w heap a j [] u v e r p_none = cc
p_fill w heap a zero (x ∷ vs) u v e r (p_zero f p) =
    let s : x ≡ v = cc (e) in
    let z : a + 0 ≡ a = omega arith in (
      subst (λ n. slice_get heap n ≡ Some (W.Fix (pos 0))) (sym z) f,
      subst (λ n. PRel w (slice_set heap n u) a 1 (x ∷ vs)) (sym z)
          (p_full (get-set heap a u (get-within heap a _ f)) (subst (λ v. WRel w u v) (sym s) r)
          (p_agree w w (λ k i. i) heap (slice_set heap a u) (suc a) 0 (suc a + length vs) vs (omega arith) (agree_set heap a u (suc a) (suc a + length vs) (inl (omega arith))) p)),
    )
p_fill w heap a (suc j) (x ∷ vs) u v e r (p_full {u = y} f q p) =
    let t = p_fill w heap (suc a) j vs u v e r p in
    let z : suc a + j ≡ a + suc j = omega arith in (
      subst (λ n. slice_get heap n ≡ Some (W.Fix (pos 0))) z t.0,
      p_full (get-set-other heap (a + suc j) a y u (λ q. absurd (omega arith)) f) q
          (subst (λ n. PRel w (slice_set heap n u) (suc a) (suc j) vs) z t.1),
    )

module _ (p : AnfTree) (notes : List Note) where
  -- the words of a procedure that is being filled
  pub record Half (w : World) (heap : List Word) (t a l m j : ℕ) (us : List Value) : Type 0 where
    pub is_tag : t ≡ procedure_tag
    pub entry : ℕ
    pub head : slice_get heap a ≡ Some (W.Header procedure_kind (length us))
    pub code : slice_get heap (a + 1) ≡ Some (W.Code entry)
    pub note : HasNote p notes entry (AtProc m)
    pub long : length us ≡ length (captured_in p m)
    pub words : PRel w heap (a + 2) j us

  pub half : (w : World) (heap : List Word) (t a l m j : ℕ) (i : Item) (us : List Value) → t ≡ tag_of i → ORel p notes w heap (Part j) a i →
      i ≡ Clo m (bind_all (captured_in p m) us Empty) → length us ≡ length (captured_in p m) → Half w heap t a l m j us
  half w heap t a l m j i us tg (o_cell hd pr) e long = cc
  half w heap t a l m j i us tg (o_pair pr) e long = cc
  half w heap t a l m j i us tg (o_vector few hd pr) e long = cc
  half w heap t a l m j i us tg (o_string few hd pr) e long = cc
  half w heap t a l m j i us tg (o_symbol few hd pr) e long = cc
  half w heap t a l m j i us tg (o_procedure n x ws {r = r} hd cd note long2 er pr) e long =
      let en : n ≡ m = cc (e) in
      let eq : r ≡ bind_all (captured_in p m) us Empty = cc (e) in
      let l3 : length ws ≡ length (captured_in p m) = subst (λ m. length ws ≡ length (captured_in p m)) en long2 in
      let e2 : bind_all (captured_in p m) ws Empty ≡ bind_all (captured_in p m) us Empty = subst (λ n. bind_all (captured_in p n) ws Empty ≡ r) en (sym er) ∙ eq in
      let same = same_caught (captured_in p m) ws us l3 long e2 in
      record {
        is_tag = tg;
        entry = x;
        head = subst (λ us. slice_get heap a ≡ Some (W.Header procedure_kind (length us))) same hd;
        code = cd;
        note = subst (λ n. HasNote p notes x (AtProc n)) en note;
        long = long;
        words = subst (λ us. PRel w heap (a + 2) j us) same pr;
      }

  -- a new procedure's words
  pub procedure_made : (z : World) (heap : List Word) (n l m : ℕ) (us : List Value) → HasNote p notes l (AtProc m) → n ≡ length us → length us ≡ length (captured_in p m) →
      ORel p notes z (heap ++ new_procedure n l) (Part 0) (length heap) (Clo m (bind_all (captured_in p m) us Empty))
  procedure_made z heap n l m us note e long =
      let ws = new_procedure n l in
      let hd : slice_get (heap ++ ws) (length heap) ≡ Some (W.Header procedure_kind n) = at_end heap ws (W.Header procedure_kind n) refl in
      let cd : slice_get (heap ++ ws) (length heap + 1) ≡ Some (W.Code l) = at_next heap ws 1 (W.Code l) refl in
      o_procedure m l us (subst (λ n2. slice_get (heap ++ ws) (length heap) ≡ Some (W.Header procedure_kind n2)) e hd) cd note long refl
      (zeros_at (heap ++ ws) n (length heap + 2) z us (omega arith) (λ k lt.
      let q : length heap + suc (suc k) ≡ length heap + 2 + k = omega arith in
      let f : slice_get ws (suc (suc k)) ≡ Some (W.Fix (pos 0)) = get-replicate (padded_size n) k (W.Fix (pos 0)) (omega arith) in
      subst (λ i. slice_get (heap ++ ws) i ≡ Some (W.Fix (pos 0))) q (at_next heap ws (suc (suc k)) (W.Fix (pos 0)) f)))

  -- nothing to fill
  whole_none : (w : World) (heap : List Word) (a m : ℕ) (xs : List ℕ) (i : Item) → captured_in p m ≡ [] → i ≡ Clo m (bind_all (captured_in p m) [] Empty) → ORel p notes w heap (Part 0) a i → ORel p notes w heap Whole a i
  whole_none w heap a m xs i e q (o_cell hd pr) = o_cell hd pr
  whole_none w heap a m xs i e q (o_pair pr) = o_pair pr
  whole_none w heap a m xs i e q (o_vector few hd pr) = o_vector few hd pr
  whole_none w heap a m xs i e q (o_string few hd pr) = o_string few hd pr
  whole_none w heap a m xs i e q (o_symbol few hd pr) = o_symbol few hd pr
  whole_none w heap a m xs i e q (o_procedure n x ws hd cd note long er pr) =
      let en : n ≡ m = cc (q) in
      let z : length ws ≡ 0 = subst (λ m. length ws ≡ length (captured_in p m)) en long ∙ ap length e in
      o_procedure n x ws hd cd note long er (subst (λ j. PRel w heap (a + 2) j ws) (sym z) pr)

  pub long_procedure : (n l : ℕ) → length (new_procedure n l) ≡ words_from (Some (W.Header procedure_kind n))
  long_procedure n l = let q = length-replicate' (padded_size n) (W.Fix (pos 0)) in omega arith

  module _ (limit : ℕ) (c : Assembled) where
    -- a procedure that captures nothing
    pub step_close : (x : Still) (l : ℕ) {w : World} {m d : ℕ} {q : ProcTree} {b : Block} {js gs : Waiting} {o : Option (List ℕ)} {own : Own}
        {old new : List Entry} {rs : List Env} {fr fs : AnfFrames} {slots : List Word} {top ms : List MacFrame} (r : Env) (k : ℕ) →
        OpAt (captured_in p) (Close m) b js gs o → d < 17 → Entered p m q → q.captured ≡ [] → HasNote p notes l (AtProc m) → Into (Reg d) IsFirst (Under o []) new old →
        HasNote p notes x.pc (Inside (AtBlock b js) own old) → IsCut p notes (free p b) r →
        HasNote p notes (x.pc + 1) (Inside (AtValue gs) own new) → JRel js rs fr fs →
        Holds p x.st w (r ∷ rs) x.regs slots old → OwnRel own slots top ms → FsRel p notes w fs ms → length x.regs ≡ 17 →
        Memory p notes w Closed x.heap x.st x.globals x.ahead x.input x.cin x.met →
        Sim p notes limit (done p notes limit c x top (I.Clo d 0 l)) k (source p notes limit x (Eval (InBlock b) r) fr)
    step_close x l {w = w} {m = m} {q = q} r k at lt en none note into here cut next j h o fs len mem =
        let xs : captured_in p m ≡ [] = ap captured_by en.there ∙ none in
        let i = Clo m (bind_all (captured_in p m) [] Empty) in
        let z = Lk procedure_tag (length x.heap) (length x.st) ∷ w in
        step_make p notes limit x r k i (new_procedure 0 l) (W.Header procedure_kind 0) at lt into here cut next j h o fs len mem
        (λ hs. rw xs refl) (at_end x.heap (new_procedure 0 l) _ refl) refl (omega arith)
        (whole_none z (x.heap ++ new_procedure 0 l) (length x.heap) m [] i xs refl (procedure_made z x.heap 0 l m [] note refl (sym (ap length xs))))

    pub no_link : (w : World) (heap : List Word) (st : List Item) (t a : ℕ) → Stores p notes w Closed (globals_words p notes) heap st → IsIn (Lk t a (length st)) w → ⊥
    no_link w heap st t a s k = let d = s.linked t a (length st) k in let lt = get-within st (length st) d.item d.there in omega arith

    -- a procedure that is to be filled
    pub mem_open : (w : World) (heap ws : List Word) (st : List Item) (globals : List Value) (ahead : Option Taken) (input cin : List ℕ) (met : Bool) (i : Item) (u : Word) →
        Memory p notes w Closed heap st globals ahead input cin met → slice_get (heap ++ ws) (length heap) ≡ Some u → length ws ≡ words_from (Some u) →
        closure_count (Some u) + data_size (Some u) ≤ closures_in i + words_in i → ORel p notes (Lk (tag_of i) (length heap) (length st) ∷ w) (heap ++ ws) (Part 0) (length heap) i →
        Memory p notes (Lk (tag_of i) (length heap) (length st) ∷ w) (Opened (length st) 0) (heap ++ ws) (st ++ i ∷ []) globals ahead input cin met
    mem_open w heap ws st globals ahead input cin met i u mem head long fits rel =
        let z = Lk (tag_of i) (length heap) (length st) ∷ w in
        let m = made_more st i in
        let f = mem.stores.made in
        let own : fill_of (Opened (length st) 0) (length st) ≡ Part 0 = rw (eq-eqb (length st) (length st) refl) refl in
        record {
          stores = stores_new p notes w Closed (Opened (length st) 0) (globals_words p notes) heap ws st (st ++ i ∷ []) (length st) i u mem.stores head long (get-last st i)
              (λ t a k. no_link w heap st t a mem.stores k) (λ m j e. get-left st (i ∷ []) m j e)
              (subst (λ q. ORel p notes z (heap ++ ws) q (length heap) i) (sym own) rel)
              (λ t a m k. rw (ne_eqb (length st) m (λ e. no_link w heap st t a mem.stores (subst (λ m. IsIn (Lk t a m) w) (sym e) k))) refl) (λ t a m k. tt) tt (omega arith);
          held = p_agree w z (λ k i. inr i) heap (heap ++ ws) 0 (length globals) (length globals) globals (omega arith) (agree_left heap ws 0 (length globals)) mem.held;
          count = mem.count;
          inputs = mem.inputs;
          padded = λ k a b. get-left heap ws k _ (mem.padded k a b);
          statics = λ n s e. let q = mem.statics n s e in (q.0, q.1, inr q.2);
        }

    -- what is captured has values
    standing : (st : List Item) (w : World) (r : Env) (rs : List Env) (regs slots : List Word) (old : List Entry) (xs : List ℕ) → Stand p xs old → Holds p st w (r ∷ rs) regs slots old →
        (y : ℕ) → IsIn y xs → (v : Value) × (lookup r y ≡ Some v)
    standing st w r rs regs slots old xs s h y i = let q = s.stand y i in let a = h.holds q.0 (Variable 0 y) q.1 in (a.value, named st r rs y a.value a.means)
      where
        named : (st : List Item) (r : Env) (rs : List Env) (y : ℕ) (v : Value) → Means p st (r ∷ rs) (Variable 0 y) v → lookup r y ≡ Some v
        named st r rs y v (m_name e) = e

    opens : (st st2 : List Item) (o : Option (List ℕ)) (m l : ℕ) (xs : List ℕ) (us : List Value) (r : Env) (rs : List Env) → captured_in p m ≡ xs →
        slice_get st2 l ≡ Some (Clo m (bind_all (captured_in p m) us Empty)) → length us ≡ length (captured_in p m) →
        ((j y : ℕ) → slice_get xs j ≡ Some y → slice_get us j ≡ lookup r y) →
        Changes p st st2 (Opens o xs) (r ∷ rs) (Env.Bind 0 (At l) Empty ∷ pushed p st st2 o r rs)
    opens st st2 o m l xs us r rs e there long each z s v (o_under u) me = under p st st2 o [] [] r (Env.Bind 0 (At l) Empty) rs (λ y i. absurd i) z s v u me
    opens st st2 o m l xs us r rs e there long each z s v (o_capture j y g) (m_name q) = m_capture j l m us refl there long (each j y g ∙ q)

    pub step_open : (x : Still) (l : ℕ) {w : World} {m n d : ℕ} {q : ProcTree} {b : Block} {js gs : Waiting} {o : Option (List ℕ)} {own : Own}
        {old new : List Entry} {rs : List Env} {fr fs : AnfFrames} {slots : List Word} {top ms : List MacFrame} (r : Env) (k : ℕ) →
        OpAt (captured_in p) (Close m) b js gs o → d < 17 → Entered p m q → n ≡ length q.captured → Stand p q.captured old → HasNote p notes l (AtProc m) →
        Into (Reg d) IsFirst (Opens o q.captured) new old →
        HasNote p notes x.pc (Inside (AtBlock b js) own old) → IsCut p notes (free p b) r →
        HasNote p notes (x.pc + 1) (Inside (AtFill m 0 gs) own new) → JRel js rs fr fs →
        Holds p x.st w (r ∷ rs) x.regs slots old → OwnRel own slots top ms → FsRel p notes w fs ms → length x.regs ≡ 17 →
        Memory p notes w Closed x.heap x.st x.globals x.ahead x.input x.cin x.met →
        Sim p notes limit (done p notes limit c x top (I.Clo d n l)) k (source p notes limit x (Eval (InBlock b) r) fr)
    step_open x l {w = w} {m = m} {n = n} {d = d} {q = q} {b = b} {o = o} {old = old} {new = new} {rs = rs} {slots = slots} {top = top} r k at lt en count stand note into here cut next j h o2 fs len mem =
        let xs : captured_in p m ≡ q.captured = ap captured_by en.there in
        let vs = values_of r q.captured (standing x.st w r rs x.regs slots old q.captured stand h) in
        let us = vs.values in
        let i = Clo m (bind_all (captured_in p m) us Empty) in
        let z = Lk procedure_tag (length x.heap) (length x.st) ∷ w in
        let long : length us ≡ length (captured_in p m) = vs.long ∙ sym (ap length xs) in
        let size : n ≡ length us = count ∙ sym vs.long in
        let s = op_starts p notes limit r at j in
        let env : gather (captured_in p m) (gather (captured_in p m) r) ≡ bind_all (captured_in p m) us Empty =
        gather-sub (captured_in p m) (captured_in p m) r (λ y i. i) ∙ subst (λ xs. gather xs r ≡ bind_all xs us Empty) (sym xs) vs.same in
        ⊎_elim
        (λ less. rw (lt-ltb (length x.gap) (length (new_procedure n l)) less) (0, (w, r_full refl (r_inside x.es here (at_block b r cut j) h o2 fs mem len)), inr (inr refl)))
        (λ ge.
        let there : slice_get (x.st ++ i ∷ []) (length x.st) ≡ Some i = get-last x.st i in
        let hh = holds-into p x.st (x.st ++ i ∷ []) w z (λ k i. inr i) (r ∷ rs) (Env.Bind 0 (At (length x.st)) Empty ∷ pushed p x.st x.st o r rs) x.regs slots d _ _ new old (W.Pointer procedure_tag (length x.heap)) (omega arith) h into
        (first-put p (x.st ++ i ∷ []) z (W.Pointer procedure_tag (length x.heap)) (At (length x.st)) _ (w_at (inl refl)))
        (opens x.st (x.st ++ i ∷ []) o m (length x.st) q.captured us r rs xs there long vs.each) in
        let e : run (step_of p notes) 2 (source p notes limit x (Eval (InBlock b) r) _) ≡ source p notes limit (record x { st = x.st ++ i ∷ [] }) (Val (At (length x.st))) s.0 =
        ap (step_of p notes) (s.1 x) ∙ rw env refl in
        let y = record x { pc = x.pc + 1; regs = slice_set x.regs d (W.Pointer procedure_tag (length x.heap)); heap = x.heap ++ new_procedure n l; gap = drop (length (new_procedure n l)) x.gap; st = x.st ++ i ∷ [] } in
        let fits : closure_count (Some (W.Header procedure_kind n)) + data_size (Some (W.Header procedure_kind n)) ≤ closures_in i + words_in i = omega arith in
        let mem2 = mem_open w x.heap (new_procedure n l) x.st x.globals x.ahead x.input x.cin x.met i (W.Header procedure_kind n) mem (at_end x.heap (new_procedure n l) _ refl) (long_procedure n l) fits
        (procedure_made z x.heap n l m us note size long) in
        let rel : Rel p notes z (target p notes limit y top) (source p notes limit y (Val (At (length x.st))) s.0) =
        r_inside x.es next (at_fill m 0 (length x.st) us s.2 there long) hh o2 (fs-more p notes w z (λ k i. inr i) _ _ fs) mem2 (length-set x.regs d _ ∙ len) in
        let two : 0 < 2 = omega arith in
        rw (le-ltb (length x.gap) (length (new_procedure n l)) ge) (2, (z, rw e rel), inl two))
        (cases_lt (length x.gap) (length (new_procedure n l)))

    -- a captured word is written
    pub mem_fill : (w : World) (o o2 : Open) (heap : List Word) (st : List Item) (globals : List Value) (ahead : Option Taken) (input cin : List ℕ) (met : Bool)
        (t a l k : ℕ) (u : Word) (v : Value) (i : Item) → Memory p notes w o heap st globals ahead input cin met → IsIn (Lk t a l) w → slice_get st l ≡ Some i → t ≡ tag_of i →
        slice_get heap k ≡ Some (W.Fix (pos 0)) → WRel w u v → a ≤ k → k < a + words_from (slice_get heap a) →
        ORel p notes w (slice_set heap k u) (fill_of o2 l) a i → ((m : ℕ) → (l ≡ m → ⊥) → fill_of o2 m ≡ fill_of o m) → ((m : ℕ) → IsBefore o m → IsBefore o2 m) → unmade o2 ≤ unmade o →
        Memory p notes w o2 (slice_set heap k u) st globals ahead input cin met
    mem_fill w o o2 heap st globals ahead input cin met t a l k u v i mem lk there tg e uv le lt rel fills before fewer =
        let g = mem.stores.behind t a l lk in
        let n = mem.count in
        record {
          stores = stores_write p notes w o o2 (globals_words p notes) heap st st t a l k (W.Fix (pos 0)) u i mem.stores lk e (plain_word w (W.Fix (pos 0)) (Value.Fix (pos 0)) (w_fix (pos 0))) (plain_word w u v uv) le lt there tg rel
              (λ m x ne f. f) fills before fewer refl;
          held = p_agree w w (λ k i. i) heap (slice_set heap k u) 0 (length globals) (length globals) globals (omega arith) (agree_set heap k u 0 (length globals) (inr (omega arith))) mem.held;
          count = mem.count;
          inputs = mem.inputs;
          padded = λ n a b. get-set-other heap k n _ u (λ q. absurd (omega arith)) (mem.padded n a b);
          statics = mem.statics;
        }

    -- the object of a half filled procedure with one more word
    pub filled_more : (w : World) (heap : List Word) (t a l m j : ℕ) (us : List Value) (u : Word) (v : Value) (q : Fill) → Half w heap t a l m j us → slice_get us j ≡ Some v → WRel w u v →
        filled q (length us) ≡ suc j → ORel p notes w (slice_set heap (a + 2 + j) u) q a (Clo m (bind_all (captured_in p m) us Empty))
    filled_more w heap t a l m j us u v q h g uv e =
        let f = p_fill w heap (a + 2) j us u v g uv h.words in
        o_procedure m h.entry us (get-set-other heap (a + 2 + j) a _ u (λ q. omega arith) h.head) (get-set-other heap (a + 2 + j) (a + 1) _ u (λ q. omega arith) h.code) h.note h.long refl
        (subst (λ n. PRel w (slice_set heap (a + 2 + j) u) (a + 2) n us) (sym e) f.1)

    pub captured_there : (heap : List Word) (t a n j : ℕ) → t ≡ procedure_tag → slice_get heap a ≡ Some (W.Header procedure_kind n) → j < n →
        captured_at (λ at. slice_get heap at) j (W.Pointer t a) ≡ Some (a + 2 + j)
    captured_there heap t a n j tg hd lt = let test = lt-ltb j n lt in rw (tg, hd, test) refl

    pub in_procedure : (heap : List Word) (a n j : ℕ) → slice_get heap a ≡ Some (W.Header procedure_kind n) → j < n → a + 2 + j < a + words_from (slice_get heap a)
    in_procedure heap a n j hd lt = let q : words_from (slice_get heap a) ≡ (n + 2) + (n + 2) % 2 = ap words_from hd in omega arith

    -- what a capture is
    capture_value : (st : List Item) (l m j : ℕ) (us : List Value) (rs : List Env) (v : Value) → slice_get st l ≡ Some (Clo m (bind_all (captured_in p m) us Empty)) → length us ≡ length (captured_in p m) →
        Means p st (Env.Bind 0 (At l) Empty ∷ rs) (Capture j) v → slice_get us j ≡ Some v
    capture_value st l m j us rs v there long (m_name e) = cc
    capture_value st l m j us rs v there long (m_capture _ l2 m2 us2 e there2 long2 g) =
        let el : l ≡ l2 = cc (e) in
        let same : Clo m (bind_all (captured_in p m) us Empty) ≡ Clo m2 (bind_all (captured_in p m2) us2 Empty) = cc (there, there2, el) in
        let em : m ≡ m2 = cc (same) in
        let eb : bind_all (captured_in p m) us Empty ≡ bind_all (captured_in p m2) us2 Empty = cc (same) in
        let eu = same_caught (captured_in p m) us us2 long (subst (λ m. length us2 ≡ length (captured_in p m)) (sym em) long2) (subst (λ n. bind_all (captured_in p m) us Empty ≡ bind_all (captured_in p n) us2 Empty) (sym em) eb) in
        subst (λ us. slice_get us j ≡ Some v) (sym eu) g

    value_is : (st : List Item) (v u : Value) (rs : List Env) → Means p st (Env.Bind 0 v Empty ∷ rs) (Variable 0 0) u → v ≡ u
    value_is st v u rs (m_name e) = cc (e)

    fill_here : (x : Still) (a b : ℕ) (o2 : Open) {w : World} {m j l : ℕ} {gs fs : AnfFrames} {top ms : List MacFrame} {own : Own} {slots : List Word} {new : List Entry} {rs : List Env} {pt : Point} (us : List Value) (ua u : Word) (v : Value) →
        WRel w ua (At l) → slice_get x.regs a ≡ Some ua → slice_get x.regs b ≡ Some u → WRel w u v → slice_get us j ≡ Some v →
        slice_get x.st l ≡ Some (Clo m (bind_all (captured_in p m) us Empty)) → length us ≡ length (captured_in p m) →
        filled (fill_of o2 l) (length us) ≡ suc j → ((m : ℕ) → (l ≡ m → ⊥) → fill_of o2 m ≡ Whole) → ((m : ℕ) → IsBefore o2 m) → unmade o2 ≤ 0 → open_of pt (Val (At l)) ≡ o2 →
        Memory p notes w (Opened l j) x.heap x.st x.globals x.ahead x.input x.cin x.met →
        HasNote p notes (x.pc + 1) (Inside pt own new) → PtRel p notes x.st pt rs gs fs (Val (At l)) → Holds p x.st w rs x.regs slots new → OwnRel own slots top ms → FsRel p notes w fs ms → length x.regs ≡ 17 → x.pc < limit →
        Sim p notes limit (done p notes limit c x top (I.CaptSet a b j)) (limit - x.pc) (source p notes limit x (Val (At l)) gs)
    fill_here x a b o2 {w = w} {m = m} {j = j} {l = l} us ua u v (w_at {t = t} {a = ad} k) ea eb uv g there long fl fills before none op mem next pr h o f len within =
        let d = mem.stores.linked t ad l k in
        let own : fill_of (Opened l j) l ≡ Part j = rw (eq-eqb l l refl) refl in
        let same : d.item ≡ Clo m (bind_all (captured_in p m) us Empty) = cc (d.there, there) in
        let hf = half w x.heap t ad l m j d.item us d.tag (subst (λ q. ORel p notes w x.heap q ad d.item) own d.rel) same long in
        let lt = get-within us j v g in
        let pf = p_fill w x.heap (ad + 2) j us u v g uv hf.words in
        let cap = captured_there x.heap t ad (length us) j hf.is_tag hf.head lt in
        let rel = filled_more w x.heap t ad l m j us u v (fill_of o2 l) hf g uv fl in
        let mem2 = mem_fill w (Opened l j) o2 x.heap x.st x.globals x.ahead x.input x.cin x.met t ad l (ad + 2 + j) u v (Clo m (bind_all (captured_in p m) us Empty)) mem k there (hf.is_tag) pf.0 uv (omega arith) (in_procedure x.heap ad (length us) j hf.head lt) rel
        (λ n ne. fills n ne ∙ sym (other l n j ne)) (λ n b. before n) none in
        let mem3 = subst (λ o. Memory p notes w o (slice_set x.heap (ad + 2 + j) u) x.st x.globals x.ahead x.input x.cin x.met) (sym op) mem2 in
        let rel2 : Rel p notes w (target p notes limit (record x { pc = x.pc + 1; heap = slice_set x.heap (ad + 2 + j) u }) _) (source p notes limit x (Val (At l)) _) = r_inside x.es next pr h o f mem3 len in
        let less : limit - (x.pc + 1) < limit - x.pc = omega arith in
        rw (ea, cap, pf.0, eb) (0, (w, rel2), inr (inl less))
      where
        other : (l n j : ℕ) → (l ≡ n → ⊥) → fill_of (Opened l j) n ≡ Whole
        other l n j ne = rw (ne_eqb l n ne) refl

    pub step_fill : (x : Still) (a b : ℕ) {w : World} {m j : ℕ} {js : Waiting} {own : Own} {old new : List Entry} {rs : List Env} {control : Control Code}
        {gs fs : AnfFrames} {slots : List Word} {top ms : List MacFrame} → suc j < length (captured_in p m) →
        IsIn (Stands (Reg a) (Variable 0 0)) old → IsIn (Stands (Reg b) (Capture j)) old → From Same new old →
        HasNote p notes (x.pc + 1) (Inside (AtFill m (suc j) js) own new) →
        PtRel p notes x.st (AtFill m j js) rs gs fs control → Holds p x.st w rs x.regs slots old → OwnRel own slots top ms → FsRel p notes w fs ms →
        Mem p notes limit w (AtFill m j js) control x → length x.regs ≡ 17 → x.pc < limit →
        Sim p notes limit (done p notes limit c x top (I.CaptSet a b j)) (limit - x.pc) (source p notes limit x control gs)
    step_fill x a b {w = w} {m = m} {j = j} {old = old} {new = new} {slots = slots} lt ia ib from next (at_fill _ _ l us {rs = rs} jr there long) h o f mem len within =
        let ha = h.holds (Reg a) (Variable 0 0) ia in
        let hb = h.holds (Reg b) (Capture j) ib in
        let uv : WRel w ha.word (At l) = subst (λ v. WRel w ha.word v) (sym (value_is x.st (At l) ha.value rs ha.means)) ha.rel in
        let g = capture_value x.st l m j us rs hb.value there long hb.means in
        let hh = holds-from p x.st x.st w w (λ k i. i) (Env.Bind 0 (At l) Empty ∷ rs) (Env.Bind 0 (At l) Empty ∷ rs) x.regs slots Same new old h from (same-means p x.st _) in
        let own : fill_of (Opened l (suc j)) l ≡ Part (suc j) = rw (eq-eqb l l refl) refl in
        fill_here x a b (Opened l (suc j)) us ha.word hb.word hb.value uv ha.here hb.here hb.rel g there long (ap (λ q. filled q (length us)) own) (λ n ne. rw (ne_eqb l n ne) refl) (λ n. tt) (omega arith) refl mem next
        (at_fill m (suc j) l us jr there long) hh o f len within

    pub step_filled : (x : Still) (a b : ℕ) {w : World} {m j : ℕ} {js : Waiting} {own : Own} {old new : List Entry} {rs : List Env} {control : Control Code}
        {gs fs : AnfFrames} {slots : List Word} {top ms : List MacFrame} → suc j ≡ length (captured_in p m) →
        IsIn (Stands (Reg a) (Variable 0 0)) old → IsIn (Stands (Reg b) (Capture j)) old → From Same new old →
        HasNote p notes (x.pc + 1) (Inside (AtValue js) own new) →
        PtRel p notes x.st (AtFill m j js) rs gs fs control → Holds p x.st w rs x.regs slots old → OwnRel own slots top ms → FsRel p notes w fs ms →
        Mem p notes limit w (AtFill m j js) control x → length x.regs ≡ 17 → x.pc < limit →
        Sim p notes limit (done p notes limit c x top (I.CaptSet a b j)) (limit - x.pc) (source p notes limit x control gs)
    step_filled x a b {w = w} {m = m} {j = j} {old = old} {new = new} {slots = slots} last ia ib from next (at_fill _ _ l us {rs = rs} jr there long) h o f mem len within =
        let ha = h.holds (Reg a) (Variable 0 0) ia in
        let hb = h.holds (Reg b) (Capture j) ib in
        let uv : WRel w ha.word (At l) = subst (λ v. WRel w ha.word v) (sym (value_is x.st (At l) ha.value rs ha.means)) ha.rel in
        let g = capture_value x.st l m j us rs hb.value there long hb.means in
        let hh = holds-from p x.st x.st w w (λ k i. i) (Env.Bind 0 (At l) Empty ∷ rs) (Env.Bind 0 (At l) Empty ∷ rs) x.regs slots Same new old h from (same-means p x.st _) in
        fill_here x a b Closed us ha.word hb.word hb.value uv ha.here hb.here hb.rel g there long (long ∙ sym last) (λ n ne. refl) (λ n. tt) (omega arith) refl mem next
        (at_value (At l) jr) hh o f len within
