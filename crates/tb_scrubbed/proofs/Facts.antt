-- What stands at the spots that a note names, in a run of code: never the mark, and what can be entered begins with an
-- entry.
use Rattle.std.proofs.Common.{◌≡◌, refl, sym, ◌∙◌, subst, ap, ℕ, zero, suc, ◌+◌, ◌≤◌, ◌⊎◌, Bool, true, false, inl, inr, ⊎_elim, arith, List, [], ◌∷◌, length, Option, Some, None, slice_get}
use Rattle.std.specs.Prelude.{pos}
use Rattle.std.proofs.lemmas.Bool.{cases_eq}
use Rattle.tb_prim.specs.declared.event.Event.{Event}
use Rattle.tb_prim.specs.declared.event.Taken.{Taken}
use Rattle.tb_semantics.specs.Graph.{IsIn}
use Rattle.tb_core.specs.Store.{Value, Pair, Vec, Str, Sym}
use Rattle.tb_ir.specs.AnfTree.{AnfTree}
use Rattle.tb_ir.specs.AnfMachine.{AnfState}
use Rattle.tb_ir.specs.Machine.{Item, Cell, Obj, Clo}
use Rattle.tb_mac.specs.declared.word.Placed.{Placed}
use Rattle.tb_mac.specs.declared.word.Word.{Word}
use Rattle.tb_mac.specs.declared.word.Word.TheVariants as W
use Rattle.tb_mac.specs.Assembled.{Assembled}
use Rattle.tb_mac.specs.Effects.{Heap, object_at, procedure_at}
use Rattle.tb_mac.specs.Frames.{Frame as MacFrame, Framed}
use Rattle.tb_mac.specs.FramedRuns.{FramedState, Runs, Stays}
use Rattle.tb_mac.specs.Objects.{procedure_kind, procedure_tag}
use Rattle.tb_mac.specs.Scrubbed.{is_poison}
use Rattle.tb_codegen.specs.Notes.{Spot, Reg, Slot, Symbol, Entry, Stands, Own, Away, Here, Ready, Note, Point, Inside, AtProc, AtArgs, AtLifted}
use Rattle.tb_codegen.proofs.Calls.{NoClo, n_cell, n_object, no_procedure}
use Rattle.tb_codegen.proofs.Changes.{Param, here_param, there_param, StartsLifted}
use Rattle.tb_codegen.proofs.Ok.{HasNote, free}
use Rattle.tb_codegen.proofs.Rel.{AtCall, fill_of, Fill, Ins, in_none, in_more, Lk, Memory, Open, ORel, o_cell, o_pair, o_vector, o_string, o_symbol, o_procedure, OwnRel, o_away, o_here, o_ready, read, Rel, r_inside, r_calls, r_args, r_lifted, r_full, r_stopped, r_failed, r_lost, tag_of, World, WRel, w_fix, w_char, w_false, w_true, w_nil, w_unspecified, w_undefined, w_end, w_at}
use Rattle.tb_scrubbed.proofs.Alike.{own_words, top_slots}

module _ (p : AnfTree) (notes : List Note) where
  -- a word that stands at a spot that is named
  pub record Good (heap : List Word) (u : Word) : Type 0 where
    pub clean : is_poison u ≡ false
    pub entry : (o : Placed) → procedure_at (λ at. slice_get heap at) u ≡ Some o →
        (e : ℕ) × (m : ℕ) × (slice_get heap (o.at + 1) ≡ Some (W.Code e)) × HasNote p notes e (AtProc m)

  data_good : (heap : List Word) (u : Word) → is_poison u ≡ false → procedure_at (λ at. slice_get heap at) u ≡ None → Good heap u
  data_good heap u c e = record { clean = c; entry = λ o q. cc (e, q) }

  object_good : (w : World) (heap : List Word) (fill : Fill) (t a : ℕ) (i : Item) → t ≡ tag_of i → ORel p notes w heap fill a i → Good heap (W.Pointer t a)
  object_good w heap fill t a i e (o_cell {v = v} hd pr) = data_good heap (W.Pointer t a) refl (no_procedure p notes 0 (λ at. slice_get heap at) t a i e (n_cell v))
  object_good w heap fill t a i e (o_pair {u = u} {v = v} pr) = data_good heap (W.Pointer t a) refl (no_procedure p notes 0 (λ at. slice_get heap at) t a i e (n_object (Pair u v)))
  object_good w heap fill t a i e (o_vector {vs = vs} few hd pr) = data_good heap (W.Pointer t a) refl (no_procedure p notes 0 (λ at. slice_get heap at) t a i e (n_object (Vec vs)))
  object_good w heap fill t a i e (o_string {cs = cs} few hd pr) = data_good heap (W.Pointer t a) refl (no_procedure p notes 0 (λ at. slice_get heap at) t a i e (n_object (Str cs)))
  object_good w heap fill t a i e (o_symbol {cs = cs} few hd pr) = data_good heap (W.Pointer t a) refl (no_procedure p notes 0 (λ at. slice_get heap at) t a i e (n_object (Sym cs)))
  object_good w heap fill t a i q (o_procedure m e us hd cd note long er pr) = record {
    clean = refl;
    entry = λ o f.
        let g : procedure_at (λ at. slice_get heap at) (W.Pointer t a) ≡ Some (record { at = a; size = length us }) = rw (q, hd) refl in
        let z : a ≡ o.at = cc (f, g) in
        (e, m, subst (λ n. slice_get heap (n + 1) ≡ Some (W.Code e)) z cd, note);
  }

  pub good : (w : World) (o : Open) (heap : List Word) (st : List Item) (globals : List Value) (ahead : Option Taken) (input cin : List ℕ) (met : Bool) (u : Word) (v : Value) →
      Memory p notes w o heap st globals ahead input cin met → WRel w u v → Good heap u
  good w o heap st globals ahead input cin met u v mem (w_fix n) = data_good heap u refl refl
  good w o heap st globals ahead input cin met u v mem (w_char n) = data_good heap u refl refl
  good w o heap st globals ahead input cin met u v mem w_false = data_good heap u refl refl
  good w o heap st globals ahead input cin met u v mem w_true = data_good heap u refl refl
  good w o heap st globals ahead input cin met u v mem w_nil = data_good heap u refl refl
  good w o heap st globals ahead input cin met u v mem w_unspecified = data_good heap u refl refl
  good w o heap st globals ahead input cin met u v mem w_undefined = data_good heap u refl refl
  good w o heap st globals ahead input cin met u v mem w_end = data_good heap u refl refl
  good w o heap st globals ahead input cin met u v mem (w_at {t = t} {a = a} {l = l} i) =
      let d = mem.stores.linked t a l i in
      object_good w heap (fill_of o l) t a d.item d.tag d.rel

  -- at each spot of a map stands such a word
  pub record Sees (map : List Entry) (regs slots heap : List Word) : Type 0 where
    pub sees : (q : Spot) (s : Symbol) → IsIn (Stands q s) map → (u : Word) × (read q regs slots ≡ Some u) × Good heap u

  -- at an entry: the procedure and as many operands as RESULT says
  pub record Counted (regs : List Word) : Type 0 where
    pub count : ℕ
    pub number : slice_get regs 16 ≡ Some (W.Fix (pos count))
    pub words : (i : ℕ) → i ≤ count → (u : Word) × (slice_get regs i ≡ Some u) × (is_poison u ≡ false)

  abbrev pub Facts : Note → Framed → Type 0
  Facts (Inside pt own map) m = Sees map m.registers (own_words own m.frames) m.heap
  Facts (AtProc l) m = Counted m.registers
  Facts (AtArgs l) m = Counted m.registers
  Facts (AtLifted l map) m = Sees map m.registers [] m.heap

  pub record StateFacts (m : Framed) : Type 0 where
    pub note : Note
    pub there : HasNote p notes m.pc note
    pub facts : Facts note m

  own_is : (own : Own) (slots : List Word) (top ms : List MacFrame) → OwnRel own slots top ms → own_words own top ≡ slots
  own_is own slots top ms o_away = refl
  own_is own slots top ms (o_here e) = refl
  own_is own slots top ms (o_ready e) = refl

  clean_word : (w : World) (u : Word) (v : Value) → WRel w u v → is_poison u ≡ false
  clean_word w u v (w_fix n) = refl
  clean_word w u v (w_char n) = refl
  clean_word w u v w_false = refl
  clean_word w u v w_true = refl
  clean_word w u v w_nil = refl
  clean_word w u v w_unspecified = refl
  clean_word w u v w_undefined = refl
  clean_word w u v w_end = refl
  clean_word w u v (w_at i) = refl

  -- operands in registers, by number and by parameter
  operand : (w : World) (regs : List Word) (j i : ℕ) (vs : List Value) → Ins w regs j vs → j ≤ i → suc i ≤ j + length vs → (u : Word) × (slice_get regs i ≡ Some u) × (v : Value) × WRel w u v
  operand w regs j i [] in_none le lt = absurd (omega arith)
  operand w regs j i (v ∷ vs) (in_more {u = u} e r h) le lt =
      ⊎_elim (λ (q : j ≡ i). (u, subst (λ k. slice_get regs k ≡ Some u) q e, v, r)) (λ ne. let n : suc j ≤ i = omega (arith, ne) in operand w regs (suc j) i vs h n (omega arith)) (cases_eq j i)

  parameter : (w : World) (regs : List Word) (y i j : ℕ) (ps : List ℕ) (vs : List Value) → Ins w regs j vs → Param y i j ps → length vs ≡ length ps → (u : Word) × (slice_get regs i ≡ Some u) × (v : Value) × WRel w u v
  parameter w regs y i j ps vs in_none here_param len = absurd (omega arith)
  parameter w regs y i j ps vs in_none (there_param ne q) len = absurd (omega arith)
  parameter w regs y i j ps vs (in_more {u = u} {v = v} e r h) here_param len = (u, e, v, r)
  parameter w regs y i j ps vs (in_more e r h) (there_param ne q) len = parameter w regs y i (suc j) _ _ h q (omega arith)

  counted : (w : World) (st : List Item) (m l : ℕ) (regs : List Word) (vs : List Value) → AtCall p w st m regs l vs → Counted regs
  counted w st m l regs vs call = record {
    count = length vs;
    number = call.number;
    words = words;
  }
    where
      words : (i : ℕ) → i ≤ length vs → (u : Word) × (slice_get regs i ≡ Some u) × (is_poison u ≡ false)
      words zero le = (W.Pointer procedure_tag call.itself, call.reg0, refl)
      words (suc i) le = let t = operand w regs 1 (suc i) vs call.ops (omega arith) (omega arith) in (t.0, t.1, clean_word w t.0 t.2 t.3)

  abbrev pub FactsOf : FramedState → Type 0
  FactsOf (Runs m input es) = StateFacts m
  FactsOf (Stays m s input es) = Unit {0}

  pub facts_of : (w : World) (t : FramedState) (s : AnfState) → Rel p notes w t s → FactsOf t
  facts_of w t s (r_inside {slots = slots} {top = top} {ms = ms} {own = own} {map = map} es n pr h o f mem len) = record {
    note = _;
    there = n;
    facts = record { sees = λ q z i. let k = h.holds q z i in let e = own_is own slots top ms o in (k.word, rw e k.here, good w _ _ _ _ _ _ _ _ k.word k.value mem k.rel) };
  }
  facts_of w t s (r_calls {m = m} {l = l} {regs = regs} {st = st} {vs = vs} es n call about e f mem len) = record { note = _; there = n; facts = counted w st m l regs vs call }
  facts_of w t s (r_args {m = m} {l = l} {regs = regs} {st = st} {vs = vs} es n call f mem len) = record { note = _; there = n; facts = counted w st m l regs vs call }
  facts_of w t s (r_lifted {regs = regs} {vs = vs} {map = map} es q n lf st0 count ins about e f mem len) = record {
    note = _;
    there = n;
    facts = record {
      sees = λ k z i.
          let b = st0.begins_lifted k z i in
          let t = parameter w regs b.0 b.1 1 q.params vs ins b.5 count in
          (t.0, subst (λ k. read k regs [] ≡ Some t.0) (sym b.2) t.1, good w _ _ _ _ _ _ _ _ t.0 t.2 mem t.3);
    };
  }
  facts_of w t s (r_full e r) = tt
  facts_of w t s (r_stopped r) = tt
  facts_of w t s (r_failed r h) = tt
  facts_of w t s (r_lost e r h) = tt
