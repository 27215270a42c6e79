-- The instructions of operations, of moves and of frames: they read no mark, and do the same in both states.
use Rattle.std.proofs.Common.{◌≡◌, refl, sym, ◌∙◌, subst, ap, ℕ, zero, suc, ◌+◌, ◌-◌, ◌<◌, ◌≤◌, ◌⊎◌, ◌==◌, Bool, true, false, cond, inl, inr, ⊎_elim, arith, List, [], ◌∷◌, ◌++◌, length, Option, Some, None, slice_get, slice_set, length-set, length-drop, length-take, eq-eqb, lt-ltb}
use Rattle.std.specs.Prelude.{pos, take, drop, min}
use Rattle.std.proofs.lemmas.List.{length-append}
use Rattle.tb_prim.specs.declared.constant.Const.{Const}
use Rattle.tb_prim.specs.declared.event.Cause.{Cause}
use Rattle.tb_prim.specs.declared.event.Event.{Event}
use Rattle.tb_prim.specs.declared.event.Stop.{Stop}
use Rattle.tb_prim.specs.Primitives.{number_of, primitive_at}
use Rattle.tb_semantics.specs.Graph.{IsIn}
use Rattle.tb_ir.specs.AnfTree.{AnfTree, Operand, Block, Op}
use Rattle.tb_mac.specs.declared.code.Instr.{Instr}
use Rattle.tb_mac.specs.declared.code.Instr.TheVariants as I
use Rattle.tb_mac.specs.declared.word.Word.{Word}
use Rattle.tb_mac.specs.declared.word.Word.TheVariants as W
use Rattle.tb_mac.specs.Assembled.{Assembled}
use Rattle.tb_mac.specs.Effects.{effect_0, effect_1, effect_2, effect_3, numbered, object_at}
use Rattle.tb_mac.specs.Frames.{Frame as MacFrame, Framed, FramedOutcome, Continues, Ends, framed_perform, gets}
use Rattle.tb_mac.specs.Layout.{addresses, const_word}
use Rattle.tb_mac.specs.MacStep.{captured_at}
use Rattle.tb_mac.specs.Objects.{cell_kind, cell_words, new_procedure, procedure_tag, vector_tag}
use Rattle.tb_mac.specs.Scrubbed.{any_poison, is_poison, reads}
use Rattle.tb_mac.specs.Words.{imm_bits, imm_word, is_undefined, unspecified, zero_word}
use Rattle.tb_codegen.specs.Notes.{Spot, Reg, Slot, Symbol, Entry, Stands, Own, Away, Here, Ready, Note, Point, Inside, symbol_of}
use Rattle.tb_codegen.specs.Operations.{constant, operands}
use Rattle.tb_codegen.proofs.Changes.{Args, no_args, an_arg, From, Into, NoSlots, Same}
use Rattle.tb_codegen.proofs.Ok.{Acts, a_quote, a_global, a_use0, a_use1, a_use2, a_use3, a_cell, a_get, HasNote, Writes, w_set, w_define, w_cell}
use Rattle.tb_codegen.proofs.Rel.{read}
use Rattle.tb_scrubbed.proofs.Alike.{Agree, Both, b_continues, b_ends, b_shows, frame, left, Lock, LockIn, Owns, own_away, own_here, own_ready, own_words, Pair, right, Waits}
use Rattle.tb_scrubbed.proofs.Changing.{agree_from, both_ways, either, failed, lock_from, lock_into, lock_slot, requested}
use Rattle.tb_scrubbed.proofs.Facts.{Good, Sees}
use Rattle.tb_scrubbed.proofs.Stepping.{after_scrub, carried, Found, found, gets_both, Inside2, makes_both, Steps}

module _ (p : AnfTree) (notes : List Note) (c : Assembled) where
  module _ {own : Own} {old new : List Entry} {V : Symbol → Type 0} {C : Symbol → Symbol → Type 0} {y : Pair} {regs3 : List Word} {top top2 top3 : List MacFrame} {pt : Point} (g : Inside2 p notes c own old y regs3 top top2 top3) where
    -- a constant comes to a register
    pub immediate : (d b : ℕ) → d < 17 → Into (Reg d) V C new old → HasNote p notes (y.pc + 1) (Inside pt own new) → Steps p notes c y regs3 top top2 top3 (I.Imm d b)
    immediate d b lt n note = (refl, either p notes y top top2 (imm_word b) _ _ _ (λ w e. gets_both p notes c g d w lt n note))

    pub constant_steps : (d : ℕ) (k : Const) → d < 17 → Into (Reg d) V C new old → HasNote p notes (y.pc + 1) (Inside pt own new) → Steps p notes c y regs3 top top2 top3 (constant p.statics d k)
    constant_steps d (Const.Fix v) lt n note = immediate d (imm_bits (const_word [] [] (Const.Fix v))) lt n note
    constant_steps d (Const.Char v) lt n note = immediate d (imm_bits (const_word [] [] (Const.Char v))) lt n note
    constant_steps d (Const.Bool v) lt n note = immediate d (imm_bits (const_word [] [] (Const.Bool v))) lt n note
    constant_steps d Const.Nil lt n note = immediate d (imm_bits (const_word [] [] Const.Nil)) lt n note
    constant_steps d Const.Unspecified lt n note = immediate d (imm_bits (const_word [] [] Const.Unspecified)) lt n note
    constant_steps d Const.Undefined lt n note = immediate d (imm_bits (const_word [] [] Const.Undefined)) lt n note
    constant_steps d (Const.Stat k) lt n note = (refl, either p notes y top top2 (slice_get (addresses c.parts) k) _ _ _ (λ at e. gets_both p notes c g d _ lt n note))

    -- an operation gives a value
    pub act_steps : (op : Op) (i : Instr) (rs : List ℕ) (d : ℕ) → Acts p op i rs d → Args old rs (operands op) → d < 17 → Into (Reg d) V C new old → HasNote p notes (y.pc + 1) (Inside pt own new) → Steps p notes c y regs3 top top2 top3 i
    act_steps op i rs d (a_quote k j f e wr) args lt n note = rw e (constant_steps f k lt n note)
    act_steps op i rs d (a_global x q f within) args lt n note =
        (refl, either p notes y top top2 (slice_get y.heap x) _ _ _ (λ w e. both_ways p notes y top top2 (is_undefined w) _ _ _ _ (failed p notes c y (after_scrub p notes c y regs3) top top2 top top3 Cause.Undefined) (gets_both p notes c g f w lt n note)))
    act_steps op i rs d (a_use0 r q f) args lt n note = (refl, carried p notes c g f (numbered (primitive_at (number_of r)) effect_0) lt n note)
    act_steps op i rs d (a_use1 r x q f a) (an_arg i1 no_args) lt n note =
        let k = found p notes c g (Reg a) _ i1 in
        let e = k.one in let e2 = k.two in let h = k.good.clean in
        (rw (e2, h) refl, rw (e, e2) (carried p notes c g f (numbered (primitive_at (number_of r)) (λ r. effect_1 (λ at. slice_get y.heap at) r k.word)) lt n note))
    act_steps op i rs d (a_use2 r x x2 q f a b) (an_arg i1 (an_arg i2 no_args)) lt n note =
        let k = found p notes c g (Reg a) _ i1 in
        let k2 = found p notes c g (Reg b) _ i2 in
        let e = k.one in let e2 = k.two in let h = k.good.clean in
        let f1 = k2.one in let f2 = k2.two in let h2 = k2.good.clean in
        (rw (e2, f2, h, h2) refl, rw (e, e2, f1, f2) (carried p notes c g f (numbered (primitive_at (number_of r)) (λ r. effect_2 (λ at. slice_get y.heap at) r k.word k2.word)) lt n note))
    act_steps op i rs d (a_use3 r x x2 x3 q a b e3) (an_arg i1 (an_arg i2 (an_arg i3 no_args))) lt n note =
        let k = found p notes c g (Reg a) _ i1 in
        let k2 = found p notes c g (Reg b) _ i2 in
        let k3 = found p notes c g (Reg e3) _ i3 in
        let e = k.one in let e2 = k.two in let h = k.good.clean in
        let f1 = k2.one in let f2 = k2.two in let h2 = k2.good.clean in
        let j1 = k3.one in let j2 = k3.two in let h3 = k3.good.clean in (
          rw (e2, f2, j2, h, h2, h3) refl,
          rw (e, e2, f1, f2, j1, j2) (carried p notes c g 16 (numbered (primitive_at (number_of r)) (λ r. effect_3 (λ at. slice_get y.heap at) r k.word k2.word k3.word)) lt n note),
        )
    act_steps op i rs d (a_cell x f a) (an_arg i1 no_args) lt n note =
        let k = found p notes c g (Reg a) _ i1 in
        let e = k.one in let e2 = k.two in let h = k.good.clean in
        (rw (e2, h) refl, rw (e, e2) (makes_both p notes c g f vector_tag (cell_words k.word) lt n note))
    act_steps op i rs d (a_get x q f a) (an_arg i1 no_args) lt n note =
        let k = found p notes c g (Reg a) _ i1 in
        let e = k.one in let e2 = k.two in let h = k.good.clean in (
          rw (e2, h) refl,
          rw (e, e2) (either p notes y top top2 (object_at (λ at. slice_get y.heap at) vector_tag cell_kind k.word) _ _ _
              (λ o q. either p notes y top top2 (slice_get y.heap (o.at + 1)) _ _ _
              (λ w z. both_ways p notes y top top2 (is_undefined w) _ _ _ _ (failed p notes c y (after_scrub p notes c y regs3) top top2 top top3 Cause.Undefined) (gets_both p notes c g f w lt n note)))),
        )

    -- a captured word comes to a register
    pub captured_steps : (s : Symbol) (d a j : ℕ) → IsIn (Stands (Reg a) s) old → d < 17 → Into (Reg d) V C new old → HasNote p notes (y.pc + 1) (Inside pt own new) → Steps p notes c y regs3 top top2 top3 (I.Capt d a j)
    captured_steps s d a j i1 lt n note =
        let k = found p notes c g (Reg a) s i1 in
        let e = k.one in let e2 = k.two in let h = k.good.clean in (
          rw (e2, h) refl,
          rw (e, e2) (either p notes y top top2 (captured_at (λ at. slice_get y.heap at) j k.word) _ _ _
              (λ at q. either p notes y top top2 (slice_get y.heap at) _ _ _ (λ w z. gets_both p notes c g d w lt n note))),
        )

    -- a procedure is made
    pub procedure_steps : (d size l : ℕ) → d < 17 → Into (Reg d) V C new old → HasNote p notes (y.pc + 1) (Inside pt own new) → Steps p notes c y regs3 top top2 top3 (I.Clo d size l)
    procedure_steps d size l lt n note = (refl, makes_both p notes c g d procedure_tag (new_procedure size l) lt n note)

  module _ {own : Own} {old new : List Entry} {C : Symbol → Symbol → Type 0} {y : Pair} {regs3 : List Word} {top top2 top3 : List MacFrame} {pt : Point} (g : Inside2 p notes c own old y regs3 top top2 top3) where
    -- a word of the heap is written, or nothing changes, and names change
    word_written : (heap : List Word) → From C new old → HasNote p notes (y.pc + 1) (Inside pt own new) → Lock p notes (record y { pc = y.pc + 1; heap = heap; regs2 = regs3 }) top top3
    word_written heap n note = record { note = _; there = note; at = lock_from p notes own old new C (after_scrub p notes c y regs3) top top3 n g.now (y.pc + 1) heap }

    pub write_steps : (op : Op) (i : Instr) (rs : List ℕ) → Writes p op i rs → Args old rs (operands op) → From C new old → HasNote p notes (y.pc + 1) (Inside pt own new) → Steps p notes c y regs3 top top2 top3 i
    write_steps op i rs (w_set x o q a within) (an_arg i1 no_args) n note =
        let k = found p notes c g (Reg a) _ i1 in
        let e = k.one in let e2 = k.two in let h = k.good.clean in (
          rw (e2, h) refl,
          rw (e, e2) (either p notes y top top2 (slice_get y.heap x) _ _ _
              (λ w z. both_ways p notes y top top2 (is_undefined w) _ _ _ _ (failed p notes c y (after_scrub p notes c y regs3) top top2 top top3 Cause.Undefined)
              (b_continues (record y { pc = y.pc + 1; heap = slice_set y.heap x k.word; regs2 = regs3 }) (word_written (slice_set y.heap x k.word) n note)))),
        )
    write_steps op i rs (w_define x o a within) (an_arg i1 no_args) n note =
        let k = found p notes c g (Reg a) _ i1 in
        let e = k.one in let e2 = k.two in let h = k.good.clean in (
          rw (e2, h) refl,
          rw (e, e2) (either p notes y top top2 (slice_get y.heap x) _ _ _
              (λ w z. b_continues (record y { pc = y.pc + 1; heap = slice_set y.heap x k.word; regs2 = regs3 }) (word_written (slice_set y.heap x k.word) n note))),
        )
    write_steps op i rs (w_cell x x2 a b) (an_arg i1 (an_arg i2 no_args)) n note =
        let k = found p notes c g (Reg a) _ i1 in
        let k2 = found p notes c g (Reg b) _ i2 in
        let e = k.one in let e2 = k.two in let h = k.good.clean in
        let f1 = k2.one in let f2 = k2.two in let h2 = k2.good.clean in (
          rw (e2, f2, h, h2) refl,
          rw (e, e2, f1, f2) (either p notes y top top2 (object_at (λ at. slice_get y.heap at) vector_tag cell_kind k.word) _ _ _
              (λ o q. either p notes y top top2 (slice_get y.heap (o.at + 1)) _ _ _
              (λ w z. b_continues (record y { pc = y.pc + 1; heap = slice_set y.heap (o.at + 1) k2.word; regs2 = regs3 }) (word_written (slice_set y.heap (o.at + 1) k2.word) n note)))),
        )

    -- a captured word is written
    pub fill_steps : (s z : Symbol) (a b j : ℕ) → IsIn (Stands (Reg a) s) old → IsIn (Stands (Reg b) z) old → From C new old → HasNote p notes (y.pc + 1) (Inside pt own new) → Steps p notes c y regs3 top top2 top3 (I.CaptSet a b j)
    fill_steps s z a b j i1 i2 n note =
        let k = found p notes c g (Reg a) s i1 in
        let k2 = found p notes c g (Reg b) z i2 in
        let e = k.one in let e2 = k.two in let h = k.good.clean in
        let f1 = k2.one in let f2 = k2.two in let h2 = k2.good.clean in (
          rw (e2, f2, h, h2) refl,
          rw (e, e2, f1, f2) (either p notes y top top2 (captured_at (λ at. slice_get y.heap at) j k.word) _ _ _
              (λ at q. either p notes y top top2 (slice_get y.heap at) _ _ _
              (λ w r. b_continues (record y { pc = y.pc + 1; heap = slice_set y.heap at k2.word; regs2 = regs3 }) (word_written (slice_set y.heap at k2.word) n note)))),
        )

    -- the machine goes on elsewhere, and names change
    pub jump_steps : (l : ℕ) → From C new old → HasNote p notes l (Inside pt own new) → Steps p notes c y regs3 top top2 top3 (I.Jump l)
    jump_steps l n note =
        (refl, b_continues (record y { pc = l; regs2 = regs3 }) (record { note = _; there = note; at = lock_from p notes own old new C (after_scrub p notes c y regs3) top top3 n g.now l y.heap }))

  -- a slot comes to a register
  pub load_steps : {size : ℕ} {old new : List Entry} {V : Symbol → Type 0} {C : Symbol → Symbol → Type 0} {y : Pair} {regs3 : List Word} {top top2 top3 : List MacFrame} {pt : Point} (g : Inside2 p notes c (Here size) old y regs3 top top2 top3)
      (s : Symbol) (d x : ℕ) → IsIn (Stands (Slot x) s) old → d < 17 → Into (Reg d) V C new old → HasNote p notes (y.pc + 1) (Inside pt (Here size) new) → Owns p notes (Here size) top top3 →
      Steps p notes c y regs3 top top2 top3 (I.Load d x)
  load_steps g s d x i1 lt n note (own_here l l2 w) =
      let k = found p notes c g (Slot x) s i1 in
      let e = k.one in let e2 = k.two in let h = k.good.clean in
      (rw (e2, h) refl, rw (e, e2) (gets_both p notes c g d k.word lt n note))

  -- a register comes to a slot
  pub store_steps : {size : ℕ} {old new : List Entry} {V : Symbol → Type 0} {C : Symbol → Symbol → Type 0} {y : Pair} {regs3 : List Word} {top top2 top3 : List MacFrame} {pt : Point} (g : Inside2 p notes c (Here size) old y regs3 top top2 top3)
      (s : Symbol) (a x : ℕ) → IsIn (Stands (Reg a) s) old → x < size → Into (Slot x) V C new old → HasNote p notes (y.pc + 1) (Inside pt (Here size) new) → Owns p notes (Here size) top top3 →
      Steps p notes c y regs3 top top2 top3 (I.Store a x)
  store_steps {size = size} {old = old} {new = new} {V = V} {C = C} {y = y} {regs3 = regs3} g s a x i1 lt n note (own_here {u = u} {slots = slots} {slots2 = slots3} {fs = fs} {gs = gs} l l2 w) =
      let k = found p notes c g (Reg a) s i1 in
      let e = k.one in let e2 = k.two in let h = k.good.clean in
      let b = lt-ltb x (length slots) (omega arith) in
      let b2 = lt-ltb x (length slots3) (omega arith) in (
        rw (e2, h) refl,
        rw (e, e2, b, b2) (b_continues (record y { pc = y.pc + 1; regs2 = regs3 })
            (record { note = _; there = note; at = lock_slot p notes size old new V C (after_scrub p notes c y regs3) u slots slots3 fs gs x k.word lt l l2 w n g.now })),
      )

  -- a frame is made
  slots_empty : (own : Own) (top : List MacFrame) → own ≡ Away → own_words own top ≡ []
  slots_empty own top e = rw e refl

  pub save_steps : {size : ℕ} {old new : List Entry} {C : Symbol → Symbol → Type 0} {y : Pair} {regs3 : List Word} {top top2 top3 : List MacFrame} {pt : Point} (g : Inside2 p notes c Away old y regs3 top top2 top3) → From C new old →
      HasNote p notes (y.pc + 1) (Inside pt (Here size) new) → Owns p notes Away top top3 → Steps p notes c y regs3 top top2 top3 (I.Save size)
  save_steps {size = size} {old = old} {new = new} {C = C} {y = y} {regs3 = regs3} {top = top} {top2 = top2} {top3 = top3} g n note (own_away w) =
      let k = length y.gap - (size + 2) in
      let k2 = length y.gap2 - (size + 2) in
      let s = drop (k + 2) y.gap in
      let s2 = drop (k2 + 2) y.gap2 in
      let z = record y { pc = y.pc + 1; gap = take k y.gap; gap2 = take k2 y.gap2; regs2 = regs3 } in
      let eg = g.now.gaps in
      let lt1 = length-take k y.gap in
      let lt2 = length-take k2 y.gap2 in
      let ld1 = length-drop (k + 2) y.gap in
      let ld2 = length-drop (k2 + 2) y.gap2 in (
        refl,
        requested p notes y (after_scrub p notes c y regs3) z top top2 top top3 (frame zero_word s ∷ top) (frame zero_word s2 ∷ top3) (size + 2) g.now.gaps
            (λ le.
            let l1 : length s ≡ size = omega (arith, ld1) in
            let l2 : length s2 ≡ size = omega (arith, ld2, eg) in
            let lk : length (take k y.gap) ≡ length (take k2 y.gap2) = omega (arith, lt1, lt2, eg) in
            record {
              note = _;
              there = note;
              at = record {
                gaps = lk;
                long = g.now.long;
                long2 = g.now.long2;
                same = record { agree = λ q t i. let f = n.from q t i in let b = found p notes c g q f.0 f.1 in here_too q s s2 b.one b.two };
                owns = own_here l1 l2 w;
              };
            }),
      )
    where
      here_too : {u : Word} (q : Spot) (s s2 : List Word) → read q y.regs [] ≡ Some u → read q regs3 [] ≡ Some u → read q y.regs s ≡ read q regs3 s2
      here_too (Reg a) s s2 e e2 = e ∙ sym e2
      here_too (Slot i) s s2 e e2 = cc

  -- the return word of the own frame is set
  pub return_steps : {size l : ℕ} {old new : List Entry} {C : Symbol → Symbol → Type 0} {y : Pair} {regs3 : List Word} {top top2 top3 : List MacFrame} {pt : Point} (g : Inside2 p notes c (Here size) old y regs3 top top2 top3) → From C new old →
      HasNote p notes (y.pc + 1) (Inside pt (Ready size l) new) → Owns p notes (Here size) top top3 → Steps p notes c y regs3 top top2 top3 (I.SetRtn l)
  return_steps {l = l} {old = old} {new = new} {C = C} {y = y} {regs3 = regs3} g n note (own_here {slots = slots} {slots2 = slots3} l1 l2 w) = (
    refl,
    b_continues (record y { pc = y.pc + 1; regs2 = regs3 })
        (record { note = _; there = note; at = record { gaps = g.now.gaps; long = g.now.long; long2 = g.now.long2; same = agree_from C new old y.regs slots regs3 slots3 n g.now.same; owns = own_ready l1 l2 w } }),
  )

  -- the own frame goes back to the gap
  pub pop_steps : {size : ℕ} {old new : List Entry} {C : Symbol → Symbol → Type 0} {y : Pair} {regs3 : List Word} {top top2 top3 : List MacFrame} {pt : Point} (g : Inside2 p notes c (Here size) old y regs3 top top2 top3) → NoSlots new → From C new old →
      HasNote p notes (y.pc + 1) (Inside pt Away new) → Owns p notes (Here size) top top3 → Steps p notes c y regs3 top top2 top3 (I.Pop size)
  pop_steps {size = size} {old = old} {new = new} {C = C} {y = y} {regs3 = regs3} g ns n note (own_here {u = u} {slots = slots} {slots2 = slots3} l1 l2 w) =
      let b = eq-eqb (length slots) size l1 in
      let b2 = eq-eqb (length slots3) size l2 in
      let a1 = length-append y.gap (u ∷ W.Fix (pos (length slots)) ∷ slots) in
      let a2 = length-append y.gap2 (u ∷ W.Fix (pos (length slots3)) ∷ slots3) in
      let eg = g.now.gaps in (
        refl,
        rw (b, b2) (b_continues (record y { pc = y.pc + 1; gap = y.gap ++ (u ∷ W.Fix (pos (length slots)) ∷ slots); gap2 = y.gap2 ++ (u ∷ W.Fix (pos (length slots3)) ∷ slots3); regs2 = regs3 })
            (record {
              note = _;
              there = note;
              at = record {
                gaps = omega (arith, a1, a2, eg, l1, l2);
                long = g.now.long;
                long2 = g.now.long2;
                same = record { agree = λ q t i. let f = n.from q t i in registers_too q t i (g.now.same.agree q f.0 f.1) };
                owns = own_away w;
              };
            })),
      )
    where
      registers_too : (q : Spot) (t : Symbol) → IsIn (Stands q t) new → read q y.regs slots ≡ read q regs3 slots3 → read q y.regs [] ≡ read q regs3 []
      registers_too (Reg a) t i e = e
      registers_too (Slot j) t i e = refl
