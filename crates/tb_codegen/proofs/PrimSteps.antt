-- Uses of primitives: their effects are carried out on both sides.
use Rattle.std.proofs.Common.{◌≡◌, refl, sym, ◌∙◌, subst, subst₂, ap, ℕ, zero, suc, ◌+◌, ◌<◌, ◌≤◌, ◌/◌, ◌%◌, ◌^◌, Bool, cond, true, false, inr, ⊎_elim, arith, List, [], ◌∷◌, ◌++◌, length, Option, Some, None, slice_get, slice_set, length-set}
use Rattle.std.specs.Prelude.{pos, replicate}
use Rattle.std.proofs.lemmas.Bool.{cases_eq}
use Rattle.std.proofs.lemmas.List.{length-append}
use Rattle.tb_prim.specs.declared.event.Cause.{Cause}
use Rattle.tb_prim.specs.declared.event.Event.{Event}
use Rattle.tb_prim.specs.declared.event.Stop.{Stop}
use Rattle.tb_prim.specs.declared.event.Taken.{Taken}
use Rattle.tb_prim.specs.declared.place.Place.{Place}
use Rattle.tb_prim.specs.declared.primitive.Primitive.{Primitive}
use Rattle.tb_prim.specs.declared.primitive.Primitive.TheVariants as P
use Rattle.tb_prim.specs.Primitives.{can_fail, number_of, primitive_at}
use Rattle.tb_semantics.proofs.ListLemmas.{get-left, get-some, in-left, in-right, set-other}
use Rattle.tb_core.specs.Store.{Value, Unspecified, Undefined, EndObject, Object, Pair, Vec, Str}
use Rattle.tb_core.specs.Effects as E
use Rattle.tb_ir.specs.AnfTree.{Operand, Block, Op, PrimUse, AnfTree}
use Rattle.tb_ir.specs.AnfMachine.{AnfFrames, Code, InBlock, InOp, atom_value, free_of_atom, free_op}
use Rattle.tb_ir.specs.Machine.{Control, Env, Eval, Item, Obj, Running, Val, contents, gather, perform}
use Rattle.tb_ir.specs.Space.{closures_in, words_in}
use Rattle.tb_mac.specs.declared.code.Instr.TheVariants as I
use Rattle.tb_mac.specs.declared.word.Word.{Word}
use Rattle.tb_mac.specs.declared.word.Word.TheVariants as W
use Rattle.tb_mac.specs.Assembled.{Assembled}
use Rattle.tb_mac.specs.Effects as M
use Rattle.tb_mac.specs.Frames.{Frame as MacFrame, carries_out}
use Rattle.tb_mac.specs.FramedRuns.{framed_after}
use Rattle.tb_mac.specs.LiveWords.{closure_count, data_size, object_size as words_from}
use Rattle.tb_mac.specs.MacStep.{kept_ahead, next_taken, place_of, rest_after, taken_word}
use Rattle.tb_mac.specs.Words.{unspecified}
use Rattle.tb_mac.specs.Objects.{new_string, new_vector, pair_tag, pair_words, padding, raw_size, string_kind, string_tag, vector_kind, vector_tag}
use Rattle.tb_codegen.specs.Notes.{Entry, Reg, Own, Note, Inside, AtBlock, AtValue, Waiting, symbol_of}
use Rattle.tb_codegen.specs.Generate.{captured_in}
use Rattle.tb_codegen.specs.Operations.{place}
use Rattle.tb_codegen.proofs.Moves.{done}
use Rattle.tb_codegen.proofs.Stored.{one_tag, some_size}
use Rattle.tb_codegen.proofs.Views.{view}
use Rattle.tb_codegen.proofs.Cells.{at_end, at_next, mem_write, step_make}
use Rattle.tb_codegen.proofs.Changes.{Args, no_args, an_arg, Into, IsFirst, OpAt, Under}
use Rattle.tb_codegen.proofs.Closures.{get-replicate}
use Rattle.tb_codegen.proofs.Envs.{get-set, get-set-other, get-within}
use Rattle.tb_codegen.proofs.Holding.{w-more}
use Rattle.tb_codegen.proofs.Memories.{p_get, p_set, plain_raw, plain_word}
use Rattle.tb_codegen.proofs.Ok.{HasNote, free}
use Rattle.tb_codegen.proofs.Operands.{at_op, atom_there, fails_op, lands_op, lost_op, value-gather}
use Rattle.tb_codegen.proofs.Primitives.{Unique, effect_none, effect_one, effect_two, effect_three, ERel, e_gives, e_makes, e_changes, e_puts, e_takes, e_peeks, e_fails, e_none, News, n_pair, n_vector, n_string, Sets, s_car, s_cdr, s_vector, s_string}
use Rattle.tb_codegen.proofs.Rel.{BytesAt, Closed, FsRel, Grows, Holds, InRel, i_none, i_byte, i_end, JRel, Lk, Memory, ORel, o_pair, o_vector, o_string, OwnRel, IsCut, PRel, p_none, p_full, Stores, Whole, World, WRel, w_char, w_end, w_fix, w_unspecified, config, step_of, tag_of}
use Rattle.tb_codegen.proofs.Sim.{Sim, Still, machine, source}

-- words that are all the fixnum 0
fixes_at : (z : World) (heap : List Word) (n a : ℕ) → ((k : ℕ) → k < n → slice_get heap (a + k) ≡ Some (W.Fix (pos 0))) → PRel z heap a n (replicate n (Value.Fix (pos 0)))
fixes_at z heap zero a h = p_none
fixes_at z heap (suc n) a h =
    let q : a + 0 ≡ a = omega arith in
    p_full (subst (λ a. slice_get heap a ≡ Some (W.Fix (pos 0))) q (h 0 (omega arith))) (w_fix (pos 0))
    (fixes_at z heap n (suc a) (λ k lt. let e : a + suc k ≡ suc a + k = omega arith in subst (λ n. slice_get heap n ≡ Some (W.Fix (pos 0))) e (h (suc k) (omega arith))))

length-same : {X : Type 0} (n : ℕ) (u : X) → length (replicate n u) ≡ n
length-same zero u = refl
length-same (suc n) u = ap suc (length-same n u)

get-same : {X : Type 0} (n k : ℕ) (u x : X) → slice_get (replicate n u) k ≡ Some x → (u ≡ x) × (k < n)
get-same zero k u x e = cc
get-same (suc n) zero u x e = (cc (e), omega arith)
get-same (suc n) (suc k) u x e = let t = get-same n k u x e in (t.0, (let lt = t.1 in omega arith))

-- a byte of a string is set
bytes_set : (heap : List Word) (a : ℕ) (cs bs : List ℕ) (k c : ℕ) → k < length cs → slice_get heap (a + k / 4) ≡ Some (W.Raw bs) → BytesAt heap a cs →
    BytesAt (slice_set heap (a + k / 4) (W.Raw (slice_set bs (k % 4) c))) a (slice_set cs k c)
bytes_set heap a cs bs k c lt e r = record {
  bytes = λ j d g.
      let own = get-some cs k lt in
      let bk = r.bytes k own.0 own.1 in
      let same : bk.0 ≡ bs = cc (bk.1, e) in
      let four : length bs ≡ 4 = ap length (sym same) ∙ bk.3 in
      let four2 : length (slice_set bs (k % 4) c) ≡ 4 = length-set bs (k % 4) c ∙ four in
      let inside : k % 4 < length bs = omega arith in
      let word = get-set heap (a + k / 4) (W.Raw (slice_set bs (k % 4) c)) (get-within heap (a + k / 4) _ e) in
      ⊎_elim
      (λ (q : k ≡ j).
      let z : c ≡ d = cc (get-set cs k c lt, g, q) in
      let here : slice_get (slice_set heap (a + k / 4) (W.Raw (slice_set bs (k % 4) c))) (a + j / 4) ≡ Some (W.Raw (slice_set bs (k % 4) c)) =
      subst (λ j. slice_get (slice_set heap (a + k / 4) (W.Raw (slice_set bs (k % 4) c))) (a + j / 4) ≡ Some (W.Raw (slice_set bs (k % 4) c))) q word in
      let byte : slice_get (slice_set bs (k % 4) c) (j % 4) ≡ Some d = subst₂ (λ j d. slice_get (slice_set bs (k % 4) c) (j % 4) ≡ Some d) q z (get-set bs (k % 4) c inside) in
      (slice_set bs (k % 4) c, here, byte, four2))
      (λ ne.
      let b = r.bytes j d (sym (set-other cs k j c ne) ∙ g) in
      ⊎_elim
      (λ (q : k / 4 ≡ j / 4).
      let same2 : b.0 ≡ bs = cc (b.1, e, q) in
      let apart : k % 4 ≡ j % 4 → ⊥ = λ m. ne (omega arith) in
      let here : slice_get (slice_set heap (a + k / 4) (W.Raw (slice_set bs (k % 4) c))) (a + j / 4) ≡ Some (W.Raw (slice_set bs (k % 4) c)) =
      subst (λ n. slice_get (slice_set heap (a + k / 4) (W.Raw (slice_set bs (k % 4) c))) (a + n) ≡ Some (W.Raw (slice_set bs (k % 4) c))) q word in
      let byte : slice_get (slice_set bs (k % 4) c) (j % 4) ≡ Some d = set-other bs (k % 4) (j % 4) c apart ∙ subst (λ bs. slice_get bs (j % 4) ≡ Some d) same2 b.2 in
      (slice_set bs (k % 4) c, here, byte, four2))
      (λ far.
      (b.0, get-set-other heap (a + k / 4) (a + j / 4) _ _ (λ m. far (omega arith)) b.1, b.2, b.3))
      (cases_eq (k / 4) (j / 4)))
      (cases_eq k j);
}

-- what is taken, on both sides, and what is peeked at
record Took (w : World) (ahead : Option Taken) (input cin : List ℕ) (met : Bool) : Type 0 where
  value : Value
  left : List ℕ
  ended : Bool
  word : WRel w (taken_word (next_taken ahead input)) value
  rest : InRel (kept_ahead (next_taken ahead input)) (rest_after ahead input) left ended
  takes : (control : Control Code) (gs : AnfFrames) (globals : List Value) (st : List Item) (pl : Place) (hs : AnfFrames) (es : List Event) →
      perform (record { control = control; frames = gs; globals = globals; store = st; input = cin; met_end = met }) pl E.Takes hs es
      ≡ Running (record { control = Val value; frames = hs; globals = globals; store = st; input = left; met_end = ended }) (es ++ Event.Took (next_taken ahead input) ∷ [])

took : (w : World) (ahead : Option Taken) (input cin : List ℕ) (met : Bool) → InRel ahead input cin met → Took w ahead input cin met
took w ahead input cin met (i_none []) = record { value = EndObject; left = []; ended = true; word = w_end; rest = i_end [] []; takes = λ control gs globals st pl hs es. refl }
took w ahead input cin met (i_none (b ∷ bs)) = record { value = Value.Char b; left = bs; ended = false; word = w_char b; rest = i_none bs; takes = λ control gs globals st pl hs es. refl }
took w ahead input cin met (i_byte b bs) = record { value = Value.Char b; left = bs; ended = false; word = w_char b; rest = i_none bs; takes = λ control gs globals st pl hs es. refl }
took w ahead input cin met (i_end bs cs) = record { value = EndObject; left = cs; ended = true; word = w_end; rest = i_end bs cs; takes = λ control gs globals st pl hs es. refl }

record Peeked (w : World) (ahead : Option Taken) (input cin : List ℕ) (met : Bool) : Type 0 where
  value : Value
  ended : Bool
  word : WRel w (taken_word (next_taken ahead input)) value
  rest : InRel (Some (next_taken ahead input)) (rest_after ahead input) cin ended
  peeks : (control : Control Code) (gs : AnfFrames) (globals : List Value) (st : List Item) (pl : Place) (hs : AnfFrames) (es : List Event) →
      perform (record { control = control; frames = gs; globals = globals; store = st; input = cin; met_end = met }) pl E.Peeks hs es
      ≡ Running (record { control = Val value; frames = hs; globals = globals; store = st; input = cin; met_end = ended }) es

peeked : (w : World) (ahead : Option Taken) (input cin : List ℕ) (met : Bool) → InRel ahead input cin met → Peeked w ahead input cin met
peeked w ahead input cin met (i_none []) = record { value = EndObject; ended = true; word = w_end; rest = i_end [] []; peeks = λ control gs globals st pl hs es. refl }
peeked w ahead input cin met (i_none (b ∷ bs)) = record { value = Value.Char b; ended = false; word = w_char b; rest = i_byte b bs; peeks = λ control gs globals st pl hs es. refl }
peeked w ahead input cin met (i_byte b bs) = record { value = Value.Char b; ended = false; word = w_char b; rest = i_byte b bs; peeks = λ control gs globals st pl hs es. refl }
peeked w ahead input cin met (i_end bs cs) = record { value = EndObject; ended = true; word = w_end; rest = i_end bs cs; peeks = λ control gs globals st pl hs es. refl }

module _ (p : AnfTree) (notes : List Note) where
  -- memory with other input
  mem_input : (w : World) (heap : List Word) (st : List Item) (globals : List Value) (ahead ahead2 : Option Taken) (input input2 cin cin2 : List ℕ) (met met2 : Bool) →
      Memory p notes w Closed heap st globals ahead input cin met → InRel ahead2 input2 cin2 met2 → Memory p notes w Closed heap st globals ahead2 input2 cin2 met2
  mem_input w heap st globals ahead ahead2 input input2 cin cin2 met met2 mem i = record { stores = mem.stores; held = mem.held; count = mem.count; padded = mem.padded; inputs = i; statics = mem.statics }

  -- the object of new words
  new_object : (w : World) (heap : List Word) (t : ℕ) (ws : List Word) (o : Object) → News w t ws o → (z : World) → Grows w z → (u : Word) × (slice_get (heap ++ ws) (length heap) ≡ Some u) ×
      (length ws ≡ words_from (Some u)) × (closure_count (Some u) + data_size (Some u) ≤ closures_in (Obj o) + words_in (Obj o)) × (t ≡ tag_of (Obj o)) × ORel p notes z (heap ++ ws) Whole (length heap) (Obj o)
  new_object w heap t ws o (n_pair {u = u} {v = v} {x = x} {y = y} r s) z g =
      let f = plain_word w u x r in
      let f1 = f.size in let f2 = f.closures in let f3 = f.words in
      let e1 : slice_get (heap ++ pair_words u v) (length heap) ≡ Some u = at_end heap (pair_words u v) u refl in
      let q : length heap + 1 ≡ suc (length heap) = omega arith in
      let e2 : slice_get (heap ++ pair_words u v) (suc (length heap)) ≡ Some v = subst (λ n. slice_get (heap ++ pair_words u v) n ≡ Some v) q (at_next heap (pair_words u v) 1 v refl) in
      (u, e1, sym f1, omega arith, refl, o_pair (p_full e1 (w-more w z g u x r) (p_full e2 (w-more w z g v y s) p_none)))
  new_object w heap t ws o (n_vector n few) z g =
      let ws = new_vector n in
      let l = length-same n (Value.Fix (pos 0)) in
      let l2 = length-same (n + (n + 1) % 2) (W.Fix (pos 0)) in
      let head : slice_get (heap ++ ws) (length heap) ≡ Some (W.Header vector_kind n) = at_end heap ws (W.Header vector_kind n) refl in
      let full : PRel z (heap ++ ws) (length heap + 1) n (replicate n (Value.Fix (pos 0))) = fixes_at z (heap ++ ws) n (length heap + 1) (λ k lt.
      let q : length heap + suc k ≡ length heap + 1 + k = omega arith in
      subst (λ i. slice_get (heap ++ ws) i ≡ Some (W.Fix (pos 0))) q (at_next heap ws (suc k) (W.Fix (pos 0)) (get-replicate (n + (n + 1) % 2) k (W.Fix (pos 0)) (omega arith)))) in (
        W.Header vector_kind n,
        head,
        omega arith,
        omega arith,
        refl,
        o_vector (subst (λ m. m < 2 ^ 24) (sym l) few) (subst (λ m. slice_get (heap ++ ws) (length heap) ≡ Some (W.Header vector_kind m)) (sym l) head)
            (subst (λ m. PRel z (heap ++ ws) (length heap + 1) m (replicate n (Value.Fix (pos 0)))) (sym l) full),
      )
  new_object w heap t ws o (n_string n few) z g =
      let ws = new_string n in
      let l = length-same {X = ℕ} n 0 in
      let raws = replicate (raw_size n) (W.Raw (0 ∷ 0 ∷ 0 ∷ 0 ∷ [])) in
      let l2 = length-same (raw_size n) (W.Raw (0 ∷ 0 ∷ 0 ∷ 0 ∷ [])) in
      let l3 = length-same ((raw_size n + 1) % 2) (W.Fix (pos 0)) in
      let l4 = length-append raws (padding (raw_size n + 1)) in
      let head : slice_get (heap ++ ws) (length heap) ≡ Some (W.Header string_kind n) = at_end heap ws (W.Header string_kind n) refl in
      let bytes : BytesAt (heap ++ ws) (length heap + 1) (replicate n 0) = record {
        bytes = λ k c e.
            let s = get-same n k 0 c e in
            let lt = s.1 in
            let q : length heap + suc (k / 4) ≡ length heap + 1 + k / 4 = omega arith in
            let f = get-left raws (padding (raw_size n + 1)) (k / 4) _ (get-replicate (raw_size n) (k / 4) (W.Raw (0 ∷ 0 ∷ 0 ∷ 0 ∷ [])) (omega arith)) in
            (0 ∷ 0 ∷ 0 ∷ 0 ∷ [], subst (λ i. slice_get (heap ++ ws) i ≡ Some (W.Raw (0 ∷ 0 ∷ 0 ∷ 0 ∷ []))) q (at_next heap ws (suc (k / 4)) _ f), get-replicate 4 (k % 4) 0 (omega arith) ∙ ap Some s.0, refl);
      } in (
        W.Header string_kind n,
        head,
        omega arith,
        omega arith,
        refl,
        o_string (subst (λ m. m < 2 ^ 24) (sym l) few) (subst (λ m. slice_get (heap ++ ws) (length heap) ≡ Some (W.Header string_kind m)) (sym l) head) bytes,
      )

  module _ (limit : ℕ) (c : Assembled) where
    -- a word of an object changes
    set_object : (w : World) (heap : List Word) (st : List Item) (globals : List Value) (ahead : Option Taken) (input cin : List ℕ) (met : Bool) (a : ℕ) (u : Word) (l : ℕ) (o : Object) →
        Memory p notes w Closed heap st globals ahead input cin met → Sets w heap st a u l o → Memory p notes w Closed (slice_set heap a u) (slice_set st l (Obj o)) globals ahead input cin met
    set_object w heap st globals ahead input cin met a u l o mem (s_car {ux = ux} {uy = uy} {x = x} {y = y} {v = v} there k e1 r1 e2 r2 r) =
        let q : a + 1 ≡ suc a = omega arith in
        let z : a + 0 ≡ a = omega arith in
        let old : PRel w heap a 2 (x ∷ y ∷ []) = p_full e1 r1 (p_full (subst (λ n. slice_get heap n ≡ Some uy) q e2) r2 p_none) in
        let new : PRel w (slice_set heap a u) a 2 (v ∷ y ∷ []) = subst (λ n. PRel w (slice_set heap n u) a 2 (v ∷ y ∷ [])) z (p_set w heap a 2 (x ∷ y ∷ []) 0 u v (omega arith) (omega arith) r old) in
        let two : words_from (slice_get heap a) ≡ 2 = ap words_from e1 ∙ (plain_word w ux x r1).size in
        mem_write p notes limit w heap st globals ahead input cin met pair_tag a l a ux u (Obj (Pair x y)) (Obj (Pair v y)) mem k there e1 (plain_word w ux x r1) (plain_word w u v r) (omega arith) (omega arith) refl refl (o_pair new)
    set_object w heap st globals ahead input cin met at u l o mem (s_cdr a {ux = ux} {uy = uy} {x = x} {y = y} {v = v} there k e1 r1 e2 r2 r) =
        let q : a + 1 ≡ suc a = omega arith in
        let old : PRel w heap a 2 (x ∷ y ∷ []) = p_full e1 r1 (p_full (subst (λ n. slice_get heap n ≡ Some uy) q e2) r2 p_none) in
        let new : PRel w (slice_set heap (a + 1) u) a 2 (x ∷ v ∷ []) = p_set w heap a 2 (x ∷ y ∷ []) 1 u v (omega arith) (omega arith) r old in
        let two : words_from (slice_get heap a) ≡ 2 = ap words_from e1 ∙ (plain_word w ux x r1).size in
        mem_write p notes limit w heap st globals ahead input cin met pair_tag a l (a + 1) uy u (Obj (Pair x y)) (Obj (Pair x v)) mem k there e2 (plain_word w uy y r2) (plain_word w u v r) (omega arith) (omega arith) refl refl (o_pair new)
    set_object w heap st globals ahead input cin met at u l o mem (s_vector a k {v = v} vs few hd pr there link lt r) =
        let g = get-some vs k lt in
        let t = p_get w heap (a + 1) (length vs) vs k g.0 pr lt g.1 in
        let n = length-set vs k v in
        let size : words_from (slice_get heap a) ≡ (length vs + 1) + (length vs + 1) % 2 = ap words_from hd in
        let new = p_set w heap (a + 1) (length vs) vs k u v lt (omega arith) r pr in
        let head : slice_get (slice_set heap (a + 1 + k) u) a ≡ Some (W.Header vector_kind (length vs)) = get-set-other heap (a + 1 + k) a _ u (λ q. omega arith) hd in
        mem_write p notes limit w heap st globals ahead input cin met vector_tag a l (a + 1 + k) t.0 u (Obj (Vec vs)) (Obj (Vec (slice_set vs k v))) mem link there t.1 (plain_word w t.0 g.0 t.2) (plain_word w u v r) (omega arith) (omega arith) refl
        (ap (λ n. 0 + (n + 1)) n)
        (o_vector (subst (λ n. n < 2 ^ 24) (sym n) few) (subst (λ n. slice_get (slice_set heap (a + 1 + k) u) a ≡ Some (W.Header vector_kind n)) (sym n) head)
        (subst (λ n. PRel w (slice_set heap (a + 1 + k) u) (a + 1) n (slice_set vs k v)) (sym n) new))
    set_object w heap st globals ahead input cin met at u l o mem (s_string a k ch {bs = bs} cs few hd pr there link lt e) =
        let n = length-set cs k ch in
        let size : words_from (slice_get heap a) ≡ ((length cs + 3) / 4 + 1) + ((length cs + 3) / 4 + 1) % 2 = ap words_from hd in
        let new = bytes_set heap (a + 1) cs bs k ch lt e pr in
        let head : slice_get (slice_set heap (a + 1 + k / 4) (W.Raw (slice_set bs (k % 4) ch))) a ≡ Some (W.Header string_kind (length cs)) = get-set-other heap (a + 1 + k / 4) a _ _ (λ q. omega arith) hd in
        mem_write p notes limit w heap st globals ahead input cin met string_tag a l (a + 1 + k / 4) (W.Raw bs) (W.Raw (slice_set bs (k % 4) ch)) (Obj (Str cs)) (Obj (Str (slice_set cs k ch))) mem link there e (plain_raw bs) (plain_raw _) (omega arith) (omega arith) refl
        (ap (λ n. 0 + (n + 1)) n)
        (o_string (subst (λ n. n < 2 ^ 24) (sym n) few) (subst (λ n. slice_get (slice_set heap (a + 1 + k / 4) (W.Raw (slice_set bs (k % 4) ch))) a ≡ Some (W.Header string_kind n)) (sym n) head) new)

    -- an effect is carried out
    pub does : (x : Still) {w : World} {op : Op} {b : Block} {js gs : Waiting} {o : Option (List ℕ)} {own : Own} {d : ℕ}
        {old new : List Entry} {rs : List Env} {fr fs : AnfFrames} {slots : List Word} {top ms : List MacFrame} (r : Env) (k : ℕ) (pl : Place) (me : M.Effect) (ef : E.Effect) → ERel w x.heap x.st me ef →
        OpAt (captured_in p) op b js gs o → d < 17 → Into (Reg d) IsFirst (Under o []) new old →
        ((cause : Cause) → me ≡ M.Fails cause → place_of c.places x.pc ≡ Some pl) →
        HasNote p notes x.pc (Inside (AtBlock b js) own old) → IsCut p notes (free p b) r →
        HasNote p notes (x.pc + 1) (Inside (AtValue gs) own new) → JRel js rs fr fs →
        Holds p x.st w (r ∷ rs) x.regs slots old → OwnRel own slots top ms → FsRel p notes w fs ms → length x.regs ≡ 17 →
        Memory p notes w Closed x.heap x.st x.globals x.ahead x.input x.cin x.met →
        ((hs : AnfFrames) → step_of p notes (at_op p notes limit x op r hs) ≡ perform (config p notes (Eval (InOp op) (gather (free_op (captured_in p) op) r)) hs x.globals x.st x.cin x.met) pl ef hs x.es) →
        Sim p notes limit (framed_after (machine x top) x.input x.es (carries_out c d (machine x top) me)) k (source p notes limit x (Eval (InBlock b) r) fr)
    does x {w = w} r k pl me ef (e_gives {u = u} {v = v} uv) at lt into place here cut next j h o fs len mem steps =
        lands_op p notes limit x x w r u v k at lt into (λ k i. i) next j h o fs len uv steps mem
    does x {w = w} r k pl me ef (e_makes {t = t} {ws = ws} {o = ob} n) at lt into place here cut next j h o fs len mem steps =
        let z = Lk (tag_of (Obj ob)) (length x.heap) (length x.st) ∷ w in
        let f = new_object w x.heap t ws ob n z (λ k i. inr i) in
        rw (f.4) (step_make p notes limit x r k (Obj ob) ws f.0 at lt into here cut next j h o fs len mem steps f.1 f.2 f.3 f.5)
    does x {w = w} r k pl me ef (e_changes {a = a} {l = l} {u = u} {o = ob} e s) at lt into place here cut next j h o fs len mem steps =
        rw e (lands_op p notes limit x (record x { heap = slice_set x.heap a u; st = slice_set x.st l (Obj ob) }) w r unspecified Unspecified k at lt into (λ k i. i) next j h o fs len w_unspecified steps
        (set_object w x.heap x.st x.globals x.ahead x.input x.cin x.met a u l ob mem s))
    does x {w = w} r k pl me ef (e_puts ch) at lt into place here cut next j h o fs len mem steps =
        lands_op p notes limit x (record x { es = x.es ++ Event.Put ch ∷ [] }) w r unspecified Unspecified k at lt into (λ k i. i) next j h o fs len w_unspecified steps mem
    does x {w = w} {op = op} r k pl me ef e_takes at lt into place here cut next j h o fs len mem steps =
        let t = took w x.ahead x.input x.cin x.met mem.inputs in
        lands_op p notes limit x (record x { ahead = kept_ahead (next_taken x.ahead x.input); input = rest_after x.ahead x.input; cin = t.left; met = t.ended; es = x.es ++ Event.Took (next_taken x.ahead x.input) ∷ [] }) w r
        (taken_word (next_taken x.ahead x.input)) t.value k at lt into (λ k i. i) next j h o fs len t.word
        (λ hs. steps hs ∙ t.takes (Eval (InOp op) (gather (free_op (captured_in p) op) r)) hs x.globals x.st pl hs x.es)
        (mem_input w x.heap x.st x.globals x.ahead _ x.input _ x.cin _ x.met _ mem t.rest)
    does x {w = w} {op = op} r k pl me ef e_peeks at lt into place here cut next j h o fs len mem steps =
        let t = peeked w x.ahead x.input x.cin x.met mem.inputs in
        lands_op p notes limit x (record x { ahead = Some (next_taken x.ahead x.input); input = rest_after x.ahead x.input; met = t.ended }) w r
        (taken_word (next_taken x.ahead x.input)) t.value k at lt into (λ k i. i) next j h o fs len t.word
        (λ hs. steps hs ∙ t.peeks (Eval (InOp op) (gather (free_op (captured_in p) op) r)) hs x.globals x.st pl hs x.es)
        (mem_input w x.heap x.st x.globals x.ahead _ x.input _ x.cin _ x.met _ mem t.rest)
    does x r k pl me ef (e_fails cause) at lt into place here cut next j h o fs len mem steps =
        rw (place cause refl) (fails_op p notes limit x r (Stop.Fail cause pl) (x.es ++ Event.Fail cause pl ∷ []) k at here cut j h o fs len steps mem)
    does x r k pl me ef e_none at lt into place here cut next j h o fs len mem steps =
        lost_op p notes limit x r (Stop.Stuck x.pc) k refl at here cut j h o fs len steps mem

-- a primitive has its number, and one that cannot fail does not
number_back : (q : Primitive) → primitive_at (number_of q) ≡ Some q
number_back P.Cons = refl
number_back q = refl

fails_none : (q : Primitive) (c : Cause) → M.effect_0 q ≡ M.Fails c → can_fail q ≡ true
fails_none P.Cons c e = cc
fails_none q c e = cc

fails_one : (heap : M.Heap) (q : Primitive) (u : Word) (c : Cause) → M.effect_1 heap q u ≡ M.Fails c → can_fail q ≡ true
fails_one heap P.Cons u c e = cc
fails_one heap q u c e = cc

fails_two : (heap : M.Heap) (q : Primitive) (u v : Word) (c : Cause) → M.effect_2 heap q u v ≡ M.Fails c → can_fail q ≡ true
fails_two heap P.Cons u v c e = cc
fails_two heap q u v c e = cc

fails_three : (heap : M.Heap) (q : Primitive) (u v z : Word) (c : Cause) → M.effect_3 heap q u v z ≡ M.Fails c → can_fail q ≡ true
fails_three heap P.Cons u v z c e = cc
fails_three heap q u v z c e = cc

placed : (b : Bool) (o : Option Place) (pl : Place) → o ≡ cond b (Some pl) None → b ≡ true → o ≡ Some pl
placed b o pl e q = e ∙ rw q refl

module _ (p : AnfTree) (notes : List Note) (limit : ℕ) (c : Assembled) where
  unique : (w : World) (globals : ℕ) (heap : List Word) (st : List Item) → Stores p notes w Closed globals heap st → Unique w
  unique w globals heap st s = record {
    same = λ t u a b l i j. (one_tag p notes w Closed globals heap st t u a b l s i j, s.one_address t u a b l i j);
    apart = λ t u a b l m i j ne e.
        let h = some_size p notes (slice_get heap a) in
        let g = some_size p notes (slice_get heap b) in
        ⊎_elim (λ f. absurd (omega arith)) (λ f. absurd (omega arith)) (s.apart t u a b l m i j ne);
  }

  pub step_use0 : (x : Still) {w : World} {q : Primitive} {pl : Place} {b : Block} {js gs : Waiting} {o : Option (List ℕ)} {own : Own} {d : ℕ}
      {old new : List Entry} {rs : List Env} {fr fs : AnfFrames} {slots : List Word} {top ms : List MacFrame} (r : Env) (k : ℕ) →
      OpAt (captured_in p) (PrimUse q [] pl) b js gs o → d < 17 → Into (Reg d) IsFirst (Under o []) new old → place_of c.places x.pc ≡ place (PrimUse q [] pl) →
      HasNote p notes x.pc (Inside (AtBlock b js) own old) → IsCut p notes (free p b) r →
      HasNote p notes (x.pc + 1) (Inside (AtValue gs) own new) → JRel js rs fr fs →
      Holds p x.st w (r ∷ rs) x.regs slots old → OwnRel own slots top ms → FsRel p notes w fs ms → length x.regs ≡ 17 →
      Memory p notes w Closed x.heap x.st x.globals x.ahead x.input x.cin x.met →
      Sim p notes limit (done p notes limit c x top (I.Op0 d (number_of q))) k (source p notes limit x (Eval (InBlock b) r) fr)
  step_use0 x {w = w} {q = q} {pl = pl} r k at lt into at_place here cut next j h o fs len mem =
      let n = number_back q in
      rw n (does p notes limit c x r k pl (M.effect_0 q) (E.effect_0 q) (effect_none w x.heap x.st q) at lt into
      (λ cause e. placed (can_fail q) _ pl at_place (fails_none q cause e)) here cut next j h o fs len mem (λ hs. refl))

  pub step_use1 : (x : Still) (a : ℕ) {w : World} {q : Primitive} {e : Operand} {pl : Place} {b : Block} {js gs : Waiting} {o : Option (List ℕ)} {own : Own} {d : ℕ}
      {old new : List Entry} {rs : List Env} {fr fs : AnfFrames} {slots : List Word} {top ms : List MacFrame} (r : Env) (k : ℕ) →
      OpAt (captured_in p) (PrimUse q (e ∷ []) pl) b js gs o → d < 17 → Into (Reg d) IsFirst (Under o []) new old → Args old (a ∷ []) (e ∷ []) → place_of c.places x.pc ≡ place (PrimUse q (e ∷ []) pl) →
      HasNote p notes x.pc (Inside (AtBlock b js) own old) → IsCut p notes (free p b) r →
      HasNote p notes (x.pc + 1) (Inside (AtValue gs) own new) → JRel js rs fr fs →
      Holds p x.st w (r ∷ rs) x.regs slots old → OwnRel own slots top ms → FsRel p notes w fs ms → length x.regs ≡ 17 →
      Memory p notes w Closed x.heap x.st x.globals x.ahead x.input x.cin x.met →
      Sim p notes limit (done p notes limit c x top (I.Op1 d a (number_of q))) k (source p notes limit x (Eval (InBlock b) r) fr)
  step_use1 x a {w = w} {q = q} {e = e} {pl = pl} {old = old} {rs = rs} {slots = slots} r k at lt into (an_arg i no_args) at_place here cut next j h o fs len mem =
      let n = number_back q in
      let h0 = h.holds (Reg a) (symbol_of e) i in
      let F = free_op (captured_in p) (PrimUse q (e ∷ []) pl) in
      let v = value-gather F r e (λ y i. in-left (free_of_atom e) [] y i) ∙ atom_there p x.st w r rs x.regs slots old (Reg a) e h0 in
      rw (h0.here, n) (does p notes limit c x r k pl (M.effect_1 (λ at. slice_get x.heap at) q h0.word) (E.effect_1 (contents x.st) q h0.value)
      (effect_one w x.heap x.st q h0.word h0.value (view p notes w _ x.heap x.st h0.word h0.value mem.stores h0.rel) h0.rel) at lt into
      (λ cause e. placed (can_fail q) _ pl at_place (fails_one (λ at. slice_get x.heap at) q h0.word cause e)) here cut next j h o fs len mem (λ hs. rw v refl))

  pub step_use2 : (x : Still) (a a2 : ℕ) {w : World} {q : Primitive} {e e2 : Operand} {pl : Place} {b : Block} {js gs : Waiting} {o : Option (List ℕ)} {own : Own} {d : ℕ}
      {old new : List Entry} {rs : List Env} {fr fs : AnfFrames} {slots : List Word} {top ms : List MacFrame} (r : Env) (k : ℕ) →
      OpAt (captured_in p) (PrimUse q (e ∷ e2 ∷ []) pl) b js gs o → d < 17 → Into (Reg d) IsFirst (Under o []) new old → Args old (a ∷ a2 ∷ []) (e ∷ e2 ∷ []) → place_of c.places x.pc ≡ place (PrimUse q (e ∷ e2 ∷ []) pl) →
      ((v : Value) → atom_value r e ≡ Some v → v ≡ Undefined → ⊥) →
      HasNote p notes x.pc (Inside (AtBlock b js) own old) → IsCut p notes (free p b) r →
      HasNote p notes (x.pc + 1) (Inside (AtValue gs) own new) → JRel js rs fr fs →
      Holds p x.st w (r ∷ rs) x.regs slots old → OwnRel own slots top ms → FsRel p notes w fs ms → length x.regs ≡ 17 →
      Memory p notes w Closed x.heap x.st x.globals x.ahead x.input x.cin x.met →
      Sim p notes limit (done p notes limit c x top (I.Op2 d a a2 (number_of q))) k (source p notes limit x (Eval (InBlock b) r) fr)
  step_use2 x a a2 {w = w} {q = q} {e = e} {e2 = e2} {pl = pl} {old = old} {rs = rs} {slots = slots} r k at lt into (an_arg i (an_arg i2 no_args)) at_place clean here cut next j h o fs len mem =
      let n = number_back q in
      let h0 = h.holds (Reg a) (symbol_of e) i in
      let h1 = h.holds (Reg a2) (symbol_of e2) i2 in
      let F = free_op (captured_in p) (PrimUse q (e ∷ e2 ∷ []) pl) in
      let v0 = atom_there p x.st w r rs x.regs slots old (Reg a) e h0 in
      let v = value-gather F r e (λ y i. in-left (free_of_atom e) _ y i) ∙ v0 in
      let v2 = value-gather F r e2 (λ y i. in-right (free_of_atom e) _ y (in-left (free_of_atom e2) [] y i)) ∙ atom_there p x.st w r rs x.regs slots old (Reg a2) e2 h1 in
      rw (h0.here, h1.here, n) (does p notes limit c x r k pl (M.effect_2 (λ at. slice_get x.heap at) q h0.word h1.word) (E.effect_2 (contents x.st) q h0.value h1.value)
      (effect_two w x.heap x.st (unique w _ x.heap x.st mem.stores) q h0.word h1.word h0.value h1.value (clean h0.value v0) (view p notes w _ x.heap x.st h0.word h0.value mem.stores h0.rel) h0.rel h1.rel) at lt into
      (λ cause e. placed (can_fail q) _ pl at_place (fails_two (λ at. slice_get x.heap at) q h0.word h1.word cause e)) here cut next j h o fs len mem (λ hs. rw (v, v2) refl))

  pub step_use3 : (x : Still) (a a2 a3 : ℕ) {w : World} {q : Primitive} {e e2 e3 : Operand} {pl : Place} {b : Block} {js gs : Waiting} {o : Option (List ℕ)} {own : Own}
      {old new : List Entry} {rs : List Env} {fr fs : AnfFrames} {slots : List Word} {top ms : List MacFrame} (r : Env) (k : ℕ) →
      OpAt (captured_in p) (PrimUse q (e ∷ e2 ∷ e3 ∷ []) pl) b js gs o → Into (Reg 16) IsFirst (Under o []) new old → Args old (a ∷ a2 ∷ a3 ∷ []) (e ∷ e2 ∷ e3 ∷ []) → place_of c.places x.pc ≡ place (PrimUse q (e ∷ e2 ∷ e3 ∷ []) pl) →
      HasNote p notes x.pc (Inside (AtBlock b js) own old) → IsCut p notes (free p b) r →
      HasNote p notes (x.pc + 1) (Inside (AtValue gs) own new) → JRel js rs fr fs →
      Holds p x.st w (r ∷ rs) x.regs slots old → OwnRel own slots top ms → FsRel p notes w fs ms → length x.regs ≡ 17 →
      Memory p notes w Closed x.heap x.st x.globals x.ahead x.input x.cin x.met →
      Sim p notes limit (done p notes limit c x top (I.Op3 a a2 a3 (number_of q))) k (source p notes limit x (Eval (InBlock b) r) fr)
  step_use3 x a a2 a3 {w = w} {q = q} {e = e} {e2 = e2} {e3 = e3} {pl = pl} {old = old} {rs = rs} {slots = slots} r k at into (an_arg i (an_arg i2 (an_arg i3 no_args))) at_place here cut next j h o fs len mem =
      let n = number_back q in
      let h0 = h.holds (Reg a) (symbol_of e) i in
      let h1 = h.holds (Reg a2) (symbol_of e2) i2 in
      let h2 = h.holds (Reg a3) (symbol_of e3) i3 in
      let F = free_op (captured_in p) (PrimUse q (e ∷ e2 ∷ e3 ∷ []) pl) in
      let v = value-gather F r e (λ y i. in-left (free_of_atom e) _ y i) ∙ atom_there p x.st w r rs x.regs slots old (Reg a) e h0 in
      let v2 = value-gather F r e2 (λ y i. in-right (free_of_atom e) _ y (in-left (free_of_atom e2) _ y i)) ∙ atom_there p x.st w r rs x.regs slots old (Reg a2) e2 h1 in
      let v3 = value-gather F r e3 (λ y i. in-right (free_of_atom e) _ y (in-right (free_of_atom e2) _ y (in-left (free_of_atom e3) [] y i))) ∙ atom_there p x.st w r rs x.regs slots old (Reg a3) e3 h2 in
      rw (h0.here, h1.here, h2.here, n) (does p notes limit c x r k pl (M.effect_3 (λ at. slice_get x.heap at) q h0.word h1.word h2.word) (E.effect_3 (contents x.st) q h0.value h1.value h2.value)
      (effect_three w x.heap x.st q h0.word h1.word h2.word h0.value h1.value h2.value (view p notes w _ x.heap x.st h0.word h0.value mem.stores h0.rel) h1.rel h2.rel) at (omega arith) into
      (λ cause e. placed (can_fail q) _ pl at_place (fails_three (λ at. slice_get x.heap at) q h0.word h1.word h2.word cause e)) here cut next j h o fs len mem (λ hs. rw (v, v2, v3) refl))
