-- Branches, calls, returns and entries: they read no mark, and do the same in both states.
use Rattle.std.proofs.Common.{◌≡◌, refl, sym, ◌∙◌, subst, subst₂, ap, ℕ, zero, suc, ◌+◌, ◌-◌, ◌<◌, ◌≤◌, ◌⊎◌, ◌==◌, ◌||◌, Bool, true, false, cond, inl, inr, ⊎_elim, arith, List, [], ◌∷◌, ◌++◌, length, Option, Some, None, slice_get, slice_set, length-set, length-drop, length-take, eq-eqb, ne_eqb, lt-ltb, le-ltb}
use Rattle.std.specs.Prelude.{pos, take, drop}
use Rattle.std.proofs.lemmas.Bool.{cases_Bool, cases_eq, cases_lt}
use Rattle.std.proofs.lemmas.List.{length-append}
use Rattle.tb_prim.specs.declared.event.Cause.{Cause}
use Rattle.tb_prim.specs.declared.event.Event.{Event}
use Rattle.tb_prim.specs.declared.event.Stop.{Stop}
use Rattle.tb_prim.specs.declared.place.Place.{Place}
use Rattle.tb_semantics.specs.Graph.{IsIn}
use Rattle.tb_semantics.proofs.ListLemmas.{set-other}
use Rattle.tb_ir.specs.AnfTree.{AnfTree, Operand, Block, ProcTree}
use Rattle.tb_mac.specs.declared.code.Instr.TheVariants as I
use Rattle.tb_mac.specs.declared.word.Placed.{Placed}
use Rattle.tb_mac.specs.declared.word.Word.{Word}
use Rattle.tb_mac.specs.declared.word.Word.TheVariants as W
use Rattle.tb_mac.specs.Assembled.{Assembled}
use Rattle.tb_mac.specs.Effects.{Heap, pair_at, procedure_at}
use Rattle.tb_mac.specs.Frames.{Frame as MacFrame, Framed, FramedOutcome, Continues, Ends, applies_to, enters, framed_perform}
use Rattle.tb_mac.specs.Frames as Frames
use Rattle.tb_mac.specs.MacStep.{Walked, Elements, NoList, NoWord, ends_list, list_at, list_words, put_words, walk_list, walked, with_element}
use Rattle.tb_mac.specs.Scrubbed.{any_poison, is_poison, reads}
use Rattle.tb_mac.specs.Words.{is_false, on_some, same_word}
use Rattle.tb_codegen.specs.Notes.{Spot, Reg, Slot, Symbol, Variable, Itself, Entry, Stands, Own, Away, Here, Ready, Note, Point, Inside, AtProc, AtArgs, AtLifted, AtBlock, Waiting, ToCaller, symbol_of}
use Rattle.tb_codegen.proofs.Changes.{Args, no_args, an_arg, Backs, From, from_register, Param, here_param, there_param, Starts, StartsLifted}
use Rattle.tb_codegen.proofs.Envs.{get-set}
use Rattle.tb_codegen.proofs.Ok.{Calls, from_ready, from_away, HasNote}
use Rattle.tb_codegen.proofs.Rel.{read}
use Rattle.tb_scrubbed.proofs.Alike.{Agree, AgreeBack, Both, b_continues, b_ends, b_shows, frame, left, Lock, LockEntry, LockIn, Owns, own_away, own_here, own_ready, own_words, Pair, right, Waits, w_none, w_more}
use Rattle.tb_scrubbed.proofs.Changing.{agree_from, both_ways, either, failed, lock_from, requested}
use Rattle.tb_scrubbed.proofs.Facts.{Counted, Good}
use Rattle.tb_scrubbed.proofs.Stepping.{after_scrub, Found, found, Inside2, Steps}

-- operands stand in registers that follow one another
operand_at : (old : List Entry) (k i : ℕ) (ds : List Operand) → Args old (from_register k ds) ds → k ≤ i → i < k + length ds → (s : Symbol) × IsIn (Stands (Reg i) s) old
operand_at old k i [] args le lt = absurd (omega arith)
operand_at old k i (d ∷ ds) (an_arg here args) le lt =
    ⊎_elim
    (λ (q : k ≡ i). (symbol_of d, subst (λ n. IsIn (Stands (Reg n) (symbol_of d)) old) q here))
    (λ ne. let n : suc k ≤ i = omega (arith, ne) in operand_at old (suc k) i ds args n (omega arith))
    (cases_eq k i)

-- the registers of parameters
param_range : (y i j : ℕ) (ps : List ℕ) → Param y i j ps → (j ≤ i) × (i < j + length ps)
param_range y i j ps here_param = (omega arith, omega arith)
param_range y i j ps (there_param {ps = qs} ne q) = let t = param_range y i (suc j) qs q in let t0 = t.0 in let t1 = t.1 in (omega (arith, t0), omega (arith, t1))

-- a walk has at most so many elements
walked_few : (heap : Heap) (n : ℕ) (w : Word) (us : List Word) → walked heap n w ≡ Elements us → length us ≤ n
walked_few heap zero w us e = limit (pair_at w) e
  where
    ended : (b : Bool) → cond b (Elements []) (NoList Cause.WrongType) ≡ Elements us → length us ≤ 0
    ended true e = let q : [] ≡ us = cc (e) in subst (λ us. length us ≤ 0) q (omega arith)
    ended false e = cc

    limit : (o : Option ℕ) → on_some o (ends_list w) (λ a. NoList Cause.TooMany) ≡ Elements us → length us ≤ 0
    limit None e = ended _ e
    limit (Some a) e = cc
walked_few heap (suc n) w us e = more (λ v vs q. walked_few heap n v vs q) (pair_at w) e
  where
    ended : (b : Bool) → cond b (Elements []) (NoList Cause.WrongType) ≡ Elements us → length us ≤ suc n
    ended true e = let q : [] ≡ us = cc (e) in subst (λ us. length us ≤ suc n) q (omega arith)
    ended false e = cc

    element : (u : Word) (t : Walked) → ((vs : List Word) → t ≡ Elements vs → length vs ≤ n) → with_element u t ≡ Elements us → length us ≤ suc n
    element u (Elements vs) rec e = let q : u ∷ vs ≡ us = cc (e) in let h = rec vs refl in subst (λ us. length us ≤ suc n) q (omega (arith, h))
    element u (NoList k) rec e = cc
    element u NoWord rec e = cc

    second : (rec : (v : Word) (vs : List Word) → walked heap n v ≡ Elements vs → length vs ≤ n) (u : Word) (o : Option Word) → on_some o NoWord (λ v. with_element u (walked heap n v)) ≡ Elements us → length us ≤ suc n
    second rec u None e = cc
    second rec u (Some v) e = element u (walked heap n v) (rec v) e

    first : (rec : (v : Word) (vs : List Word) → walked heap n v ≡ Elements vs → length vs ≤ n) (a : ℕ) (o : Option Word) → on_some o NoWord (λ u. on_some (heap (a + 1)) NoWord (λ v. with_element u (walked heap n v))) ≡ Elements us →
        length us ≤ suc n
    first rec a None e = cc
    first rec a (Some u) e = second rec u (heap (a + 1)) e

    more : (rec : (v : Word) (vs : List Word) → walked heap n v ≡ Elements vs → length vs ≤ n) (o : Option ℕ) →
        on_some o (ends_list w) (λ a. on_some (heap a) NoWord (λ u. on_some (heap (a + 1)) NoWord (λ v. with_element u (walked heap n v)))) ≡ Elements us → length us ≤ suc n
    more rec None e = ended _ e
    more rec (Some a) e = first rec a (heap a) e

walk_few : (heap : Heap) (w : Word) (us : List Word) → walk_list heap w ≡ Elements us → length us ≤ 12
unfolding walk_list
walk_few heap w us e = walked_few heap 12 w us e

-- words that are put into registers that follow one another
length_put : (a : ℕ) (us regs : List Word) → length (put_words a us regs) ≡ length regs
length_put a [] regs = refl
length_put a (x ∷ us) regs = length_put (a + 1) us (slice_set regs a x) ∙ length-set regs a x

put_below : (a i : ℕ) (us regs : List Word) → i < a → slice_get (put_words a us regs) i ≡ slice_get regs i
put_below a i [] regs lt = refl
put_below a i (x ∷ us) regs lt = put_below (a + 1) i us (slice_set regs a x) (omega arith) ∙ set-other regs a i x (λ q. omega arith)

put_alike : (a i : ℕ) (us regs regs2 : List Word) → a ≤ i → i < a + length us → i < length regs → i < length regs2 → slice_get (put_words a us regs) i ≡ slice_get (put_words a us regs2) i
put_alike a i [] regs regs2 le lt l l2 = absurd (omega arith)
put_alike a i (x ∷ us) regs regs2 le lt l l2 =
    ⊎_elim
    (λ (q : a ≡ i).
    let one = put_below (a + 1) i us (slice_set regs a x) (omega (arith, q)) in
    let two = put_below (a + 1) i us (slice_set regs2 a x) (omega (arith, q)) in
    let s : slice_get (slice_set regs a x) i ≡ Some x = subst (λ k. slice_get (slice_set regs a x) k ≡ Some x) q (get-set regs a x (omega (arith, q))) in
    let s2 : slice_get (slice_set regs2 a x) i ≡ Some x = subst (λ k. slice_get (slice_set regs2 a x) k ≡ Some x) q (get-set regs2 a x (omega (arith, q))) in
    one ∙ s ∙ sym s2 ∙ sym two)
    (λ ne.
    let n : a + 1 ≤ i = omega (arith, ne) in
    let s = length-set regs a x in let s2 = length-set regs2 a x in
    put_alike (a + 1) i us (slice_set regs a x) (slice_set regs2 a x) n (omega arith) (omega (arith, s)) (omega (arith, s2)))
    (cases_eq a i)

module _ (p : AnfTree) (notes : List Note) (c : Assembled) where
  -- the frames that wait at a call
  back_agree : {old : List Entry} {o : Option (List ℕ)} {ret : List Entry} {regs regs3 : List Word} (slots slots3 : List Word) → Agree old regs slots regs3 slots3 → Backs o ret old → AgreeBack ret slots slots3
  back_agree slots slots3 a b = record {
    back = λ q s i. ⊎_elim (λ k. inl k.0) (λ k. inr (k.0, k.2, a.agree (Slot k.0) k.1 k.3)) (b.backs q s i);
  }

  call_waits : {own : Own} {old : List Entry} {gs : Waiting} {o : Option (List ℕ)} {regs regs3 : List Word} {top top3 : List MacFrame} → Agree old regs (own_words own top) regs3 (own_words own top3) → Calls p (HasNote p notes) gs o old own →
      Owns p notes own top top3 → Waits p notes top top3
  call_waits a (from_ready n h b) (own_ready {slots = slots} {slots2 = slots3} l l2 w) = w_more n l l2 (back_agree slots slots3 a b) w
  call_waits a (from_away e) (own_away w) = w

  module _ {own : Own} {old : List Entry} {y : Pair} {regs3 : List Word} {top top2 top3 : List MacFrame} (g : Inside2 p notes c own old y regs3 top top2 top3) where
    -- a branch
    pub branch_steps : {pt qt : Point} {C D : Symbol → Symbol → Type 0} {new1 new2 : List Entry} (s : Symbol) (a l : ℕ) → IsIn (Stands (Reg a) s) old → From C new1 old → HasNote p notes (y.pc + 1) (Inside pt own new1) →
        From D new2 old → HasNote p notes l (Inside qt own new2) → Steps p notes c y regs3 top top2 top3 (I.Brf a l)
    branch_steps {C = C} {D = D} {new1 = new1} {new2 = new2} s a l i n1 note1 n2 note2 =
        let k = found p notes c g (Reg a) s i in
        let e = k.one in let e2 = k.two in let h = k.good.clean in
        (rw (e2, h) refl, rw (e, e2) (ways (is_false k.word)))
      where
        ways : (b : Bool) → Both p notes y top top2 (Continues (left (record y { pc = cond b l (y.pc + 1); regs2 = regs3 }) top)) (Continues (right (record y { pc = cond b l (y.pc + 1); regs2 = regs3 }) top3))
        ways true = b_continues (record y { pc = l; regs2 = regs3 }) (record { note = _; there = note2; at = lock_from p notes own old new2 D (after_scrub p notes c y regs3) top top3 n2 g.now l y.heap })
        ways false = b_continues (record y { pc = y.pc + 1; regs2 = regs3 }) (record { note = _; there = note1; at = lock_from p notes own old new1 C (after_scrub p notes c y regs3) top top3 n1 g.now (y.pc + 1) y.heap })

    -- a procedure is entered, whose operands stand in registers from 1 on
    invoke_entry : (n : ℕ) (ds : List Operand) → n ≡ length ds → n ≤ 12 → (s : Symbol) → IsIn (Stands (Reg 0) s) old → Args old (from_register 1 ds) ds → Waits p notes top top3 → (e : ℕ) →
        LockEntry p notes (record y { pc = e; regs = slice_set y.regs 16 (W.Fix (pos n)); regs2 = slice_set regs3 16 (W.Fix (pos n)) }) top top3
    invoke_entry n ds en le s i0 args w e =
        let l = g.now.long in let l2 = g.now.long2 in
        record {
          gaps = g.now.gaps;
          long = length-set y.regs 16 (W.Fix (pos n)) ∙ l;
          long2 = length-set regs3 16 (W.Fix (pos n)) ∙ l2;
          count = n;
          number = get-set y.regs 16 (W.Fix (pos n)) (omega (arith, l));
          number2 = get-set regs3 16 (W.Fix (pos n)) (omega (arith, l2));
          few = le;
          same = λ i lei. set-other y.regs 16 i _ (λ q. omega (arith, le, lei, q)) ∙ operands_same i lei ∙ sym (set-other regs3 16 i _ (λ q. omega (arith, le, lei, q)));
          waits = w;
        }
      where
        operands_same : (i : ℕ) → i ≤ n → slice_get y.regs i ≡ slice_get regs3 i
        operands_same zero lei = g.now.same.agree (Reg 0) s i0
        operands_same (suc i) lei = let t = operand_at old 1 (suc i) ds args (omega arith) (omega (arith, en, lei)) in g.now.same.agree (Reg (suc i)) t.0 t.1

    pub invoke_steps : {f : Operand} {gs : Waiting} {o : Option (List ℕ)} (n : ℕ) (ds : List Operand) → n ≡ length ds → n ≤ 12 → Args old (from_register 0 (f ∷ ds)) (f ∷ ds) → Calls p (HasNote p notes) gs o old own →
        Steps p notes c y regs3 top top2 top3 (I.Invoke n)
    invoke_steps {f = f} n ds en le (an_arg i0 args) cs =
        let k = found p notes c g (Reg 0) (symbol_of f) i0 in
        let e = k.one in let e2 = k.two in let h = k.good.clean in (
          rw (e2, h) refl,
          rw (e, e2) (called k.word k.good (procedure_at (λ at. slice_get y.heap at) k.word) refl),
        )
      where
        entered : (o : Placed) → (e : ℕ) × (m : ℕ) × (slice_get y.heap (o.at + 1) ≡ Some (W.Code e)) × HasNote p notes e (AtProc m) →
            Both p notes y top top2 (enters o (left (after_scrub p notes c y regs3) top) (left (record y { regs = slice_set y.regs 16 (W.Fix (pos n)); regs2 = slice_set regs3 16 (W.Fix (pos n)) }) top))
            (enters o (right (after_scrub p notes c y regs3) top3) (right (record y { regs = slice_set y.regs 16 (W.Fix (pos n)); regs2 = slice_set regs3 16 (W.Fix (pos n)) }) top3))
        entered o t =
            let q = t.2 in
            rw q (b_continues (record y { pc = t.0; regs = slice_set y.regs 16 (W.Fix (pos n)); regs2 = slice_set regs3 16 (W.Fix (pos n)) })
            (record { note = _; there = t.3; at = invoke_entry n ds en le (symbol_of f) i0 args (call_waits g.now.same cs g.now.owns) t.0 }))

        called : (u : Word) → Good p notes y.heap u → (o : Option Placed) → procedure_at (λ at. slice_get y.heap at) u ≡ o →
            Both p notes y top top2 (on_some o (Frames.fails c (left (after_scrub p notes c y regs3) top) Cause.NotProcedure) (λ o. enters o (left (after_scrub p notes c y regs3) top) (left (record y { regs = slice_set y.regs 16 (W.Fix (pos n)); regs2 = slice_set regs3 16 (W.Fix (pos n)) }) top)))
            (on_some o (Frames.fails c (right (after_scrub p notes c y regs3) top3) Cause.NotProcedure) (λ o. enters o (right (after_scrub p notes c y regs3) top3) (right (record y { regs = slice_set y.regs 16 (W.Fix (pos n)); regs2 = slice_set regs3 16 (W.Fix (pos n)) }) top3)))
        called u gd None q = failed p notes c y (after_scrub p notes c y regs3) top top2 top top3 Cause.NotProcedure
        called u gd (Some o) q = entered o (gd.entry o q)

    -- a procedure is entered with the elements of a list
    apply_entry : (us : List Word) → length us ≤ 12 → (s : Symbol) → IsIn (Stands (Reg 0) s) old → Waits p notes top top3 → (e : ℕ) →
        LockEntry p notes (record y { pc = e; regs = slice_set (put_words 1 us y.regs) 16 (W.Fix (pos (length us))); regs2 = slice_set (put_words 1 us regs3) 16 (W.Fix (pos (length us))) }) top top3
    apply_entry us le s i0 w e =
        let l = g.now.long in let l2 = g.now.long2 in
        let n = W.Fix (pos (length us)) in
        let lp = length_put 1 us y.regs in let lp2 = length_put 1 us regs3 in
        record {
          gaps = g.now.gaps;
          long = length-set (put_words 1 us y.regs) 16 n ∙ lp ∙ l;
          long2 = length-set (put_words 1 us regs3) 16 n ∙ lp2 ∙ l2;
          count = length us;
          number = get-set (put_words 1 us y.regs) 16 n (omega (arith, l, lp));
          number2 = get-set (put_words 1 us regs3) 16 n (omega (arith, l2, lp2));
          few = le;
          same = λ i lei. set-other (put_words 1 us y.regs) 16 i n (λ q. omega (arith, le, lei, q)) ∙ elements_same i lei ∙ sym (set-other (put_words 1 us regs3) 16 i n (λ q. omega (arith, le, lei, q)));
          waits = w;
        }
      where
        elements_same : (i : ℕ) → i ≤ length us → slice_get (put_words 1 us y.regs) i ≡ slice_get (put_words 1 us regs3) i
        elements_same zero lei = put_below 1 zero us y.regs (omega arith) ∙ g.now.same.agree (Reg 0) s i0 ∙ sym (put_below 1 zero us regs3 (omega arith))
        elements_same (suc i) lei = let l = g.now.long in let l2 = g.now.long2 in put_alike 1 (suc i) us y.regs regs3 (omega arith) (omega (arith, lei)) (omega (arith, l, le, lei)) (omega (arith, l2, le, lei))

    pub apply_steps : {f a : Operand} {gs : Waiting} {o : Option (List ℕ)} → Args old (0 ∷ 1 ∷ []) (f ∷ a ∷ []) → Calls p (HasNote p notes) gs o old own → Steps p notes c y regs3 top top2 top3 I.Apply
    apply_steps {f = f} {a = a} (an_arg i0 (an_arg i1 no_args)) cs =
        let k = found p notes c g (Reg 0) (symbol_of f) i0 in
        let k1 = found p notes c g (Reg 1) (symbol_of a) i1 in
        let e = k.one in let e2 = k.two in let h = k.good.clean in
        let f1 = k1.one in let f2 = k1.two in let h1 = k1.good.clean in (
          rw (e2, f2, h, h1) refl,
          rw (e, e2, f1, f2) (called k.word k1.word k.good (procedure_at (λ at. slice_get y.heap at) k.word) refl),
        )
      where
        with_elements : (us : List Word) → Pair
        with_elements us = record y { regs = slice_set (put_words 1 us y.regs) 16 (W.Fix (pos (length us))); regs2 = slice_set (put_words 1 us regs3) 16 (W.Fix (pos (length us))) }

        applied : (o : Placed) → (e : ℕ) × (m : ℕ) × (slice_get y.heap (o.at + 1) ≡ Some (W.Code e)) × HasNote p notes e (AtProc m) → (u : Word) (wk : Walked) → walk_list (λ at. slice_get y.heap at) u ≡ wk →
            Both p notes y top top2 (applies_to c o (left (after_scrub p notes c y regs3) top) wk) (applies_to c o (right (after_scrub p notes c y regs3) top3) wk)
        applied o t u (Elements us) q =
            let z = t.2 in
            rw z (b_continues (record y { pc = t.0; regs = slice_set (put_words 1 us y.regs) 16 (W.Fix (pos (length us))); regs2 = slice_set (put_words 1 us regs3) 16 (W.Fix (pos (length us))) })
            (record { note = _; there = t.3; at = apply_entry us (walk_few (λ at. slice_get y.heap at) u us q) (symbol_of f) i0 (call_waits g.now.same cs g.now.owns) t.0 }))
        applied o t u (NoList cause) q = failed p notes c y (after_scrub p notes c y regs3) top top2 top top3 cause
        applied o t u NoWord q = b_ends (Stop.Stuck y.pc)

        called : (u v : Word) → Good p notes y.heap u → (o : Option Placed) → procedure_at (λ at. slice_get y.heap at) u ≡ o →
            Both p notes y top top2 (on_some o (Frames.fails c (left (after_scrub p notes c y regs3) top) Cause.NotProcedure) (λ o. applies_to c o (left (after_scrub p notes c y regs3) top) (walk_list (λ at. slice_get y.heap at) v)))
            (on_some o (Frames.fails c (right (after_scrub p notes c y regs3) top3) Cause.NotProcedure) (λ o. applies_to c o (right (after_scrub p notes c y regs3) top3) (walk_list (λ at. slice_get y.heap at) v)))
        called u v gd None q = failed p notes c y (after_scrub p notes c y regs3) top top2 top top3 Cause.NotProcedure
        called u v gd (Some o) q = applied o (gd.entry o q) v (walk_list (λ at. slice_get y.heap at) v) refl

    -- a lifted procedure is entered
    pub direct_steps : {gs : Waiting} {o : Option (List ℕ)} {new : List Entry} {m : ℕ} (l : ℕ) (ps us : List ℕ) (ds : List Operand) → length ds ≡ length ps → Args old (from_register 1 ds) ds → HasNote p notes l (AtLifted m new) →
        StartsLifted ps us new → Calls p (HasNote p notes) gs o old own → Steps p notes c y regs3 top top2 top3 (I.Jump l)
    direct_steps l ps us ds len args note st cs = (
      refl,
      b_continues (record y { pc = l; regs2 = regs3 })
          (record {
            note = _;
            there = note;
            at = record {
              gaps = g.now.gaps;
              long = g.now.long;
              long2 = g.now.long2;
              same = record {
                agree = λ q s i.
                    let b = st.begins_lifted q s i in
                    let r = param_range b.0 b.1 1 ps b.5 in
                    let r0 = r.0 in let r1 = r.1 in
                    let t = operand_at old 1 b.1 ds args r0 (omega (arith, len, r1)) in
                    subst (λ q. read q y.regs [] ≡ read q regs3 []) (sym b.2) (g.now.same.agree (Reg b.1) t.0 t.1);
              };
              owns = own_away (call_waits g.now.same cs g.now.owns);
            };
          }),
    )

  -- a return goes on at the return word of the frame on top
  pub return_to_steps : {old : List Entry} {y : Pair} {regs3 : List Word} {top top2 top3 : List MacFrame} (g : Inside2 p notes c Away old y regs3 top top2 top3) (s : Symbol) → IsIn (Stands (Reg 16) s) old → Owns p notes Away top top3 →
      Steps p notes c y regs3 top top2 top3 I.Return
  return_to_steps {y = y} g s i (own_away w_none) = (refl, b_ends (Stop.Stuck y.pc))
  return_to_steps {y = y} {regs3 = regs3} g s i (own_away (w_more {e = e} {map = map} {slots = slots} {slots2 = slots3} n l l2 b w)) = (
    refl,
    b_shows Event.Back (record y { pc = e; regs2 = regs3 })
        (record {
          note = _;
          there = n;
          at = record {
            gaps = g.now.gaps;
            long = g.now.long;
            long2 = g.now.long2;
            same = record {
              agree = λ q z j. ⊎_elim
                  (λ k. subst (λ q. read q y.regs slots ≡ read q regs3 slots3) (sym k) (g.now.same.agree (Reg 16) s i))
                  (λ k. subst (λ q. read q y.regs slots ≡ read q regs3 slots3) (sym k.1) k.2)
                  (b.back q z j);
            };
            owns = own_here l l2 w;
          };
        }),
  )

-- elements at the same numbers are the same
taken_alike : (k m : ℕ) (xs ys : List Word) → length xs ≡ length ys → ((i : ℕ) → i < k + m → slice_get xs i ≡ slice_get ys i) → take m (drop k xs) ≡ take m (drop k ys)
taken_alike zero zero xs ys len h = refl
taken_alike zero (suc m) [] [] len h = refl
taken_alike zero (suc m) [] (y ∷ ys) len h = absurd (omega arith)
taken_alike zero (suc m) (x ∷ xs) [] len h = absurd (omega arith)
taken_alike zero (suc m) (x ∷ xs) (y ∷ ys) len h =
    let q : x ≡ y = (let e : Some x ≡ Some y = h zero (omega arith) in cc (e)) in
    let r = taken_alike zero m xs ys (omega arith) (λ i lt. h (suc i) (omega arith)) in
    rw (q, r) refl
taken_alike (suc k) m [] [] len h = refl
taken_alike (suc k) m [] (y ∷ ys) len h = absurd (omega arith)
taken_alike (suc k) m (x ∷ xs) [] len h = absurd (omega arith)
taken_alike (suc k) m (x ∷ xs) (y ∷ ys) len h = taken_alike k m xs ys (omega arith) (λ i lt. h (suc i) (omega arith))

-- and none of them is the mark
none_poison : (k m : ℕ) (xs : List Word) → ((i : ℕ) → i < k + m → (u : Word) × (slice_get xs i ≡ Some u) × (is_poison u ≡ false)) → any_poison (take m (drop k xs)) ≡ false
none_poison zero zero xs h = refl
none_poison zero (suc m) [] h = refl
none_poison zero (suc m) (x ∷ xs) h =
    let t = h zero (omega arith) in
    let q : x ≡ t.0 = (let e : Some x ≡ Some t.0 = t.1 in cc (e)) in
    let e : is_poison x ≡ false = ap is_poison q ∙ t.2 in
    let r = none_poison zero m xs (λ i lt. h (suc i) (omega arith)) in
    rw (e, r) refl
none_poison (suc k) zero [] h = refl
none_poison (suc k) (suc m) [] h = refl
none_poison (suc k) m (x ∷ xs) h = none_poison k m xs (λ i lt. h (suc i) (omega arith))

module _ (p : AnfTree) (notes : List Note) (c : Assembled) where
  -- at the `proc` of a procedure
  pub proc_steps : {m : ℕ} (y : Pair) (regs3 : List Word) (top top2 top3 : List MacFrame) → LockEntry p notes (after_scrub p notes c y regs3) top top3 → HasNote p notes (y.pc + 1) (AtArgs m) → Steps p notes c y regs3 top top2 top3 (I.Proc m)
  proc_steps {m = m} y regs3 top top2 top3 l note = (
    refl,
    b_shows (Event.Enter m) (record y { pc = y.pc + 1; regs2 = regs3 })
        (record {
          note = AtArgs m;
          there = note;
          at = record { gaps = l.gaps; long = l.long; long2 = l.long2; count = l.count; number = l.number; number2 = l.number2; few = l.few; same = l.same; waits = l.waits };
        }),
  )

  -- at that of a lifted one
  pub lifted_steps : {m : ℕ} {old new : List Entry} {C : Symbol → Symbol → Type 0} {pt : Point} (y : Pair) (regs3 : List Word) (top top2 top3 : List MacFrame) → LockIn p notes Away old (after_scrub p notes c y regs3) top top3 → From C new old →
      HasNote p notes (y.pc + 1) (Inside pt Away new) → Steps p notes c y regs3 top top2 top3 (I.Proc m)
  lifted_steps {m = m} {old = old} {new = new} {C = C} y regs3 top top2 top3 l n note =
      (refl, b_shows (Event.Enter m) (record y { pc = y.pc + 1; regs2 = regs3 }) (record { note = _; there = note; at = lock_from p notes Away old new C (after_scrub p notes c y regs3) top top3 n l (y.pc + 1) y.heap }))

  -- where the operands are counted: the procedure and its parameters
  start_agree : {m : ℕ} {us : List ℕ} {new : List Entry} (regs regs3 : List Word) (ps : List ℕ) → Starts m ps us new → ((i : ℕ) → i < 1 + length ps → slice_get regs i ≡ slice_get regs3 i) → Agree new regs [] regs3 []
  start_agree regs regs3 ps st same = record {
    agree = λ q s i. ⊎_elim
        (λ k. subst (λ q. read q regs [] ≡ read q regs3 []) (sym k.0) (same 0 (omega arith)))
        (λ k. let r = param_range k.0 k.1 1 ps k.5 in let r1 = r.1 in subst (λ q. read q regs [] ≡ read q regs3 []) (sym k.2) (same k.1 r1))
        (st.begins q s i);
  }

  pub args_steps : {m : ℕ} {us : List ℕ} {new : List Entry} {pt : Point} (y : Pair) (regs3 : List Word) (top top2 top3 : List MacFrame) (n : ℕ) (ps : List ℕ) → n ≡ length ps → LockEntry p notes (after_scrub p notes c y regs3) top top3 → Starts m ps us new →
      HasNote p notes (y.pc + 1) (Inside pt Away new) → Steps p notes c y regs3 top top2 top3 (I.Args n)
  args_steps {new = new} {pt = pt} y regs3 top top2 top3 n ps len l st note =
      let e = l.number in let e2 = l.number2 in (
        rw e2 refl,
        rw (e, e2) (⊎_elim
            (λ (yes : l.count ≡ n).
            let t : l.count == n ≡ true = eq-eqb l.count n yes in
            rw t (b_continues (record y { pc = y.pc + 1; regs2 = regs3 })
            (record {
              note = _;
              there = note;
              at = record { gaps = l.gaps; long = l.long; long2 = l.long2; same = start_agree y.regs regs3 ps st (λ i lt. l.same i (omega (arith, lt, len, yes))); owns = own_away l.waits };
            })))
            (λ other. let t : l.count == n ≡ false = ne_eqb l.count n other in rw t (failed p notes c y (after_scrub p notes c y regs3) top top2 top top3 Cause.WrongArgs))
            (cases_eq l.count n)),
      )

  -- and the list of the operands beyond those
  pub args_ge_steps : {m : ℕ} {us : List ℕ} {new : List Entry} {pt : Point} (y : Pair) (regs3 : List Word) (top top2 top3 : List MacFrame) (n : ℕ) (ps : List ℕ) → suc n ≡ length ps → n ≤ 11 → Counted p notes y.regs → LockEntry p notes (after_scrub p notes c y regs3) top top3 →
      Starts m ps us new → HasNote p notes (y.pc + 1) (Inside pt Away new) → Steps p notes c y regs3 top top2 top3 (I.ArgsGe n)
  args_ge_steps {new = new} {pt = pt} y regs3 top top2 top3 n ps len small f l st note =
      let e = l.number in let e2 = l.number2 in (
        ⊎_elim
            (λ less.
            let z : l.count - n ≡ 0 = omega (arith, less) in
            rw (e2, z) refl)
            (λ ge.
            let nb : any_poison (take (l.count - n) (drop (n + 1) regs3)) ≡ false = none_poison (n + 1) (l.count - n) regs3 (λ i lt. clean_at i (omega (arith, lt, ge))) in
            rw (e2, nb) refl)
            (cases_lt l.count n),
        rw (e, e2) (⊎_elim
            (λ less. let t = lt-ltb l.count n less in rw t (failed p notes c y (after_scrub p notes c y regs3) top top2 top top3 Cause.WrongArgs))
            (λ ge.
            let t = le-ltb l.count n ge in
            let t2 = le-ltb 12 l.count l.few in
            let us = take (l.count - n) (drop (n + 1) y.regs) in
            let same_us : take (l.count - n) (drop (n + 1) regs3) ≡ us = sym (taken_alike (n + 1) (l.count - n) y.regs regs3 (l.long ∙ sym l.long2) (λ i lt. l.same i (omega (arith, lt, ge)))) in
            let ws = list_words (length y.heap) us in
            let u = list_at (length y.heap) us in
            let k = length ws in
            let long = l.long in let long2 = l.long2 in
            let eg : length (drop k y.gap) ≡ length (drop k y.gap2) = length-drop k y.gap ∙ ap (λ n. n - k) l.gaps ∙ sym (length-drop k y.gap2) in
            rw (t, t2, same_us) (requested p notes y (after_scrub p notes c y regs3)
            (record y { pc = y.pc + 1; regs = slice_set y.regs (n + 1) u; regs2 = slice_set regs3 (n + 1) u; heap = y.heap ++ ws; gap = drop k y.gap; gap2 = drop k y.gap2 }) top top2 top top3 top top3 k l.gaps
            (λ le. record {
              note = _;
              there = note;
              at = record {
                gaps = eg;
                long = length-set y.regs (n + 1) u ∙ l.long;
                long2 = length-set regs3 (n + 1) u ∙ l.long2;
                same = start_agree (slice_set y.regs (n + 1) u) (slice_set regs3 (n + 1) u) ps st (λ i lt. ⊎_elim
                    (λ (q : n + 1 ≡ i). subst (λ i. slice_get (slice_set y.regs (n + 1) u) i ≡ slice_get (slice_set regs3 (n + 1) u) i) q (get-set y.regs (n + 1) u (omega (arith, long, small)) ∙ sym (get-set regs3 (n + 1) u (omega (arith, long2, small)))))
                    (λ ne. set-other y.regs (n + 1) i u ne ∙ l.same i (omega (arith, lt, len, ne, ge)) ∙ sym (set-other regs3 (n + 1) i u ne))
                    (cases_eq (n + 1) i));
                owns = own_away l.waits;
              };
            })))
            (cases_lt l.count n)),
      )
    where
      clean_at : (i : ℕ) → i ≤ l.count → (u : Word) × (slice_get regs3 i ≡ Some u) × (is_poison u ≡ false)
      clean_at i le =
          let same : f.count ≡ l.count = (let a = f.number in let b = l.number in cc (a, b)) in
          let t = f.words i (omega (arith, le, same)) in
          (t.0, sym (l.same i le) ∙ t.1, t.2)
