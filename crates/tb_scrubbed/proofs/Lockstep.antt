-- The run and the scrubbed run of code go step by step together.
use Rattle.std.proofs.Common.{◌≡◌, refl, sym, ◌∙◌, subst, subst₂, ap, ℕ, zero, suc, ◌+◌, inl, inr, ⊎_elim, arith, List, [], length, Option, Some, None, slice_get}
use Rattle.tb_prim.specs.declared.constant.Const.{Const}
use Rattle.tb_prim.specs.declared.event.Event.{Event}
use Rattle.tb_prim.specs.declared.place.Place.{Place}
use Rattle.tb_semantics.specs.Graph.{IsIn}
use Rattle.tb_semantics.specs.Runs.{after, run}
use Rattle.tb_semantics.proofs.RunLaws.{run-add}
use Rattle.tb_semantics.proofs.Simulation.{runs_related}
use Rattle.tb_ir.specs.AnfMachine.{AnfState}
use Rattle.tb_ir.specs.AnfRules.{KeepsRules, forms_of, lambdas_of}
use Rattle.tb_ir.specs.AnfTree.{AnfTree, Block, Op, Operand, ProcTree}
use Rattle.tb_ir.specs.Machine.{Running, start_of}
use Rattle.tb_ir.specs.Measures.{anf_measured}
use Rattle.tb_mac.specs.declared.code.Instr.{Instr}
use Rattle.tb_mac.specs.declared.code.Instr.TheVariants as I
use Rattle.tb_mac.specs.declared.word.Word.{Word}
use Rattle.tb_mac.specs.Assemble.{number_of}
use Rattle.tb_mac.specs.Assembled.{Assembled}
use Rattle.tb_mac.specs.Frames.{Frame as MacFrame, Framed, framed_fetched}
use Rattle.tb_mac.specs.FramedRuns.{FramedState, Runs, Stays, framed_after, framed_machine, framed_next, framed_start, measured_machine}
use Rattle.tb_mac.specs.MacStep.{place_of}
use Rattle.tb_mac.specs.Scrubbed.{scrubbed_fetched, scrubbed_machine}
use Rattle.tb_codegen.specs.Fits.{Fits}
use Rattle.tb_codegen.specs.Generate.{noted_items}
use Rattle.tb_codegen.specs.Notes.{Spot, Reg, Slot, Symbol, Variable, Capture, Entry, Stands, Own, Away, Here, Ready, Note, Point, Inside, AtProc, AtArgs, AtLifted, AtValue, ToTop, Waiting}
use Rattle.tb_codegen.specs.PlainCode.{code_of}
use Rattle.tb_codegen.proofs.Assembling.{items_of, notes_of}
use Rattle.tb_codegen.proofs.Begin.{starts_alike}
use Rattle.tb_codegen.proofs.Changes.{From, Into}
use Rattle.tb_codegen.proofs.FineNotes.{constants-written}
use Rattle.tb_codegen.proofs.Following.{follows}
use Rattle.tb_codegen.proofs.Follows.{first-there}
use Rattle.tb_codegen.proofs.MarkSteps.{clean}
use Rattle.tb_codegen.proofs.Ok.{Falls, Follows, Further, HasNote, Ok, Onward, not_yet, all_done, ok_load, ok_store, ok_const, ok_save, ok_setrtn, ok_pop, ok_jump, ok_form, ok_end, ok_act, ok_read, ok_write, ok_unspecified, ok_given, ok_branch, ok_return, ok_invoke, ok_apply, ok_direct, ok_proc, ok_lifted, ok_args, ok_args_ge, ok_capt, ok_close, ok_open, ok_fill, ok_filled, ok_first, ok_next, ok_stored, ok_word}
use Rattle.tb_codegen.proofs.Rel.{r_inside}
use Rattle.tb_codegen.proofs.Sim.{measure}
use Rattle.tb_codegen.proofs.Whole.{R, moves}
use Rattle.tb_mac.specs.Words.{imm_bits, unspecified}
use Rattle.tb_scrubbed.specs.SameRun.{DoSame}
use Rattle.tb_scrubbed.proofs.Alike.{b_ends, do_same, left, Lock, LockAt, LockEntry, LockIn, Locked, both_go, both_stand, locked_after, own_away, Pair, right, w_none}
use Rattle.tb_scrubbed.proofs.Entering.{apply_steps, args_ge_steps, args_steps, branch_steps, direct_steps, invoke_steps, lifted_steps, proc_steps, return_to_steps}
use Rattle.tb_scrubbed.proofs.Facts.{Counted, Facts, FactsOf, facts_of, StateFacts}
use Rattle.tb_scrubbed.proofs.Operations.{act_steps, captured_steps, constant_steps, fill_steps, immediate, jump_steps, load_steps, pop_steps, procedure_steps, return_steps, save_steps, store_steps, write_steps}
use Rattle.tb_scrubbed.proofs.Scrubbing.{Cleaned, clean_lock, cleaned, cleaned_frames, Standing}
use Rattle.tb_scrubbed.proofs.Stepping.{Inside2, Steps}

-- any change of names
abbrev Any : Symbol → Symbol → Type 0
Any o s = Unit {0}

abbrev AnyNew : Symbol → Type 0
AnyNew s = Unit {0}

into_any : (q : Spot) (V : Symbol → Type 0) (C : Symbol → Symbol → Type 0) (new old : List Entry) → Into q V C new old → Into q AnyNew Any new old
into_any q V C new old n = record { into = λ k s i. ⊎_elim (λ a. inl (a.0, tt)) (λ a. inr (a.0, (a.1.0, a.1.1, tt))) (n.into k s i) }

into_then : (q : Spot) (V : Symbol → Type 0) (C D : Symbol → Symbol → Type 0) (new mid old : List Entry) → Into q V C mid old → From D new mid → Into q AnyNew Any new old
into_then q V C D new mid old n f = record {
  into = λ k s i. let m = f.from k s i in ⊎_elim (λ a. inl (a.0, tt)) (λ a. inr (a.0, (a.1.0, a.1.1, tt))) (n.into k m.0 m.1);
}

from_any : (C : Symbol → Symbol → Type 0) (new old : List Entry) → From C new old → From Any new old
from_any C new old n = record { from = λ k s i. let a = n.from k s i in (a.0, a.1, tt) }

from_then : (C D : Symbol → Symbol → Type 0) (new mid old : List Entry) → From C mid old → From D new mid → From Any new old
from_then C D new mid old n f = record { from = λ k s i. let m = f.from k s i in let a = n.from k m.0 m.1 in (a.0, a.1, tt) }

module _ (p : AnfTree) where
  -- what comes behind an instruction of a group of procedures
  onward_into : {q : Spot} {V : Symbol → Type 0} {C : Symbol → Symbol → Type 0} {own : Own} {mid old : List Entry} {made : ℕ} {ns xs ls : List ℕ} {k : Block} {js : Waiting} {new : Note} → Onward p own mid made ns xs ls k js new →
      Into q V C mid old → (pt : Point) × (map : List Entry) × (new ≡ Inside pt own map) × Into q AnyNew Any map old
  onward_into {q = q} {V = V} {C = C} {mid = mid} {old = old} not_yet n = (_, _, refl, into_any q V C mid old n)
  onward_into {q = q} {V = V} {C = C} {mid = mid} {old = old} (all_done {new = map} se e f from) n = (_, _, refl, into_then q V C _ map mid old n from)

  onward_from : {C : Symbol → Symbol → Type 0} {own : Own} {mid old : List Entry} {made : ℕ} {ns xs ls : List ℕ} {k : Block} {js : Waiting} {new : Note} → Onward p own mid made ns xs ls k js new →
      From C mid old → (pt : Point) × (map : List Entry) × (new ≡ Inside pt own map) × From Any map old
  onward_from {C = C} {mid = mid} {old = old} not_yet n = (_, _, refl, from_any C mid old n)
  onward_from {C = C} {mid = mid} {old = old} (all_done {new = map} se e f from) n = (_, _, refl, from_then C _ map mid old n from)

module _ (p : AnfTree) (notes : List Note) (c : Assembled) where
  -- inside a body
  inside_steps : {i : Instr} {pl : Option Place} {pt : Point} {own : Own} {old : List Entry} {o : Option Note} (y : Pair) (regs3 : List Word) (top top2 top3 : List MacFrame) →
      Ok p (HasNote p notes) (Further p notes y.pc) i pl (Inside pt own old) o → Falls p notes y.pc o → Inside2 p notes c own old y regs3 top top2 top3 → Steps p notes c y regs3 top top2 top3 i
  inside_steps y regs3 top top2 top3 (ok_load {d = d} {s = s} z lt i n) note g = load_steps p notes c g z d s i lt n note g.now.owns
  inside_steps y regs3 top top2 top3 (ok_store {s = s} {a = a} z lt i n) note g = store_steps p notes c g z a s i lt n note g.now.owns
  inside_steps y regs3 top top2 top3 (ok_const j k {d = d} e wr lt n) note g = rw e (constant_steps p notes c g d k lt n note)
  inside_steps y regs3 top top2 top3 (ok_save n) note g = save_steps p notes c g n note g.now.owns
  inside_steps y regs3 top top2 top3 (ok_setrtn n) note g = return_steps p notes c g n note g.now.owns
  inside_steps y regs3 top top2 top3 (ok_pop ns n) note g = pop_steps p notes c g ns n note g.now.owns
  inside_steps y regs3 top top2 top3 (ok_jump {l = l} f n) note g = jump_steps p notes c g l n f.1
  inside_steps y regs3 top top2 top3 (ok_form b {old = old} se e) note g = save_steps p notes c g (nothing old) note g.now.owns
    where
      nothing : (old : List Entry) → From Any [] old
      nothing old = record { from = λ q s i. absurd i }
  inside_steps y regs3 top top2 top3 (ok_end e) note g = (refl, b_ends _)
  inside_steps y regs3 top top2 top3 (ok_act op rs {i = i} {d = d} ac at lt args n) note g = act_steps p notes c g op i rs d ac args lt n note
  inside_steps y regs3 top top2 top3 (ok_read {d = d} {s = s} at lt i n) note g = load_steps p notes c g _ d s i lt n note g.now.owns
  inside_steps y regs3 top top2 top3 (ok_write op rs {i = i} wr at args n) note g = write_steps p notes c g op i rs wr args n note
  inside_steps y regs3 top top2 top3 (ok_unspecified {d = d} lt n) note g = immediate p notes c g d (imm_bits unspecified) lt n note
  inside_steps y regs3 top top2 top3 (ok_given x k {a = a} {s = s} se lt i n) note g = store_steps p notes c g _ a s i lt n note g.now.owns
  inside_steps y regs3 top top2 top3 (ok_branch {a = a} {l = l} sb sc at i n1 t n2) note g = branch_steps p notes c g _ a l i n1 note n2 t
  inside_steps y regs3 top top2 top3 (ok_return i) note g = return_to_steps p notes c g _ i g.now.owns
  inside_steps y regs3 top top2 top3 (ok_invoke {n = n} {ds = ds} at e le args cs) note g = invoke_steps p notes c g n ds e le args cs
  inside_steps y regs3 top top2 top3 (ok_apply at args cs) note g = apply_steps p notes c g args cs
  inside_steps y regs3 top top2 top3 (ok_direct m q {l = l} {ds = ds} at lf len le args t st cs) note g = direct_steps p notes c g l q.params _ ds len args t st cs
  inside_steps y regs3 top top2 top3 (ok_capt m x q {d = d} {a = a} {j = j} lt en e i n) note g = captured_steps p notes c g _ d a j i lt n note
  inside_steps y regs3 top top2 top3 (ok_close m q {l = l} {d = d} at lt en e t n) note g = procedure_steps p notes c g d 0 l lt n note
  inside_steps y regs3 top top2 top3 (ok_open m q {l = l} {n = k} {d = d} at lt en e le st t n) note g = procedure_steps p notes c g d k l lt n note
  inside_steps y regs3 top top2 top3 (ok_fill {a = a} {b = b} {j = j} lt i i2 n) note g = fill_steps p notes c g _ _ a b j i i2 n note
  inside_steps y regs3 top top2 top3 (ok_filled {a = a} {b = b} {j = j} e i i2 n) note g = fill_steps p notes c g _ _ a b j i i2 n note
  inside_steps y regs3 top top2 top3 (ok_first {d = d} {n = k} {l = l} lt en e t apart len st n on) note g =
      let w = onward_into p on n in procedure_steps p notes c g d k l lt w.3 (subst (HasNote p notes (y.pc + 1)) w.2 note)
  inside_steps y regs3 top top2 top3 (ok_next {d = d} {n = k} {l = l} lt en e t h h2 h3 len n on) note g =
      let w = onward_into p on n in procedure_steps p notes c g d k l lt w.3 (subst (HasNote p notes (y.pc + 1)) w.2 note)
  inside_steps y regs3 top top2 top3 (ok_stored z {s = s} {a = a} lt i n len on) note g =
      let w = onward_into p on n in store_steps p notes c g z a s i lt w.3 (subst (HasNote p notes (y.pc + 1)) w.2 note) g.now.owns
  inside_steps y regs3 top top2 top3 (ok_word k x x2 m {a = a} {b = b} {j = j} h h2 h3 h4 len i i2 n on) note g =
      let w = onward_from p on n in fill_steps p notes c g _ _ a b j i i2 w.3 (subst (HasNote p notes (y.pc + 1)) w.2 note)

  -- at any note
  steps_at : {i : Instr} {pl : Option Place} {o : Option Note} (n : Note) (y : Pair) (regs3 : List Word) (top top2 top3 : List MacFrame) →
      Ok p (HasNote p notes) (Further p notes y.pc) i pl n o → Falls p notes y.pc o → LockAt p notes n y top top2 → LockAt p notes n (record y { regs2 = regs3 }) top top3 → Facts p notes n (left y top) → Steps p notes c y regs3 top top2 top3 i
  steps_at (Inside pt own map) y regs3 top top2 top3 ok next l now f = inside_steps y regs3 top top2 top3 ok next (record { before = l; now = now; sees = f })
  steps_at (AtProc k) y regs3 top top2 top3 (ok_proc m q en) next l now f = proc_steps p notes c y regs3 top top2 top3 now next
  steps_at (AtArgs k) y regs3 top top2 top3 (ok_args m q {n = n} se en rest len ap' ca st) next l now f = args_steps p notes c y regs3 top top2 top3 n q.params len now st next
  steps_at (AtArgs k) y regs3 top top2 top3 (ok_args_ge m q {n = n} se en rest len few ap' ca st) next l now f = args_ge_steps p notes c y regs3 top top2 top3 n q.params len few f now st next
  steps_at (AtLifted k map) y regs3 top top2 top3 (ok_lifted m q se lf st n) next l now f = lifted_steps p notes c y regs3 top top2 top3 now n next

  module _ (fo : Follows p notes c) where
    standing : (n : Note) (y : Pair) (top : List MacFrame) → Facts p notes n (left y top) → Standing p notes c fo n y top
    standing (Inside pt own map) y top f = record { stand = λ q s i. let k = f.sees q s i in (k.0, k.1) }
    standing (AtProc m) y top f = tt
    standing (AtArgs m) y top f = tt
    standing (AtLifted m map) y top f = record { stand = λ q s i. let k = f.sees q s i in (k.0, k.1) }

    step_together : (y : Pair) (top top2 : List MacFrame) (input : List ℕ) (es : List Event) → Lock p notes y top top2 → StateFacts p notes (left y top) →
        Locked p notes (framed_after (left y top) input es (framed_fetched c (left y top))) (framed_after (right y top2) input es (scrubbed_fetched c (right y top2)))
    step_together y top top2 input es l f =
        let same : f.note ≡ l.note = (let a = f.there in let b = l.there in cc (a, b)) in
        let facts : Facts p notes l.note (left y top) = subst (λ n. Facts p notes n (left y top)) same f.facts in
        let cl = clean_lock p notes c fo l.note y top top2 l.there (standing l.note y top facts) l.at in
        let k = fo.each y.pc l.note l.there in
        let s = steps_at l.note y (cleaned c y top2).regs2 top top2 (cleaned_frames c y top2) k.2.1 k.2.2 l.at cl.at facts in
        let e = k.1 in let q = cl.is in let none = s.0 in
        rw (q, e, none) (locked_after p notes y top top2 input es _ _ l s.1)

    together : (t u : FramedState) → Locked p notes t u → FactsOf p notes t → Locked p notes (framed_next (framed_fetched c) t) (framed_next (scrubbed_fetched c) u)
    together t u (both_go x l) f = step_together x _ _ _ _ l f
    together t u (both_stand x l) f = both_stand x l

    together_after : (heap : ℕ) (input : List ℕ) → Locked p notes (Runs (framed_start c heap) input []) (Runs (framed_start c heap) input []) → ((n : ℕ) → FactsOf p notes (after (framed_machine c heap input) n)) → (n : ℕ) →
        Locked p notes (after (framed_machine c heap input) n) (after (scrubbed_machine c heap input) n)
    together_after heap input start facts zero = start
    together_after heap input start facts (suc n) =
        let e : suc n ≡ n + 1 = omega arith in
        let a : after (framed_machine c heap input) (suc n) ≡ framed_next (framed_fetched c) (after (framed_machine c heap input) n) =
        ap (after (framed_machine c heap input)) e ∙ run-add (framed_next (framed_fetched c)) n 1 _ in
        let b : after (scrubbed_machine c heap input) (suc n) ≡ framed_next (scrubbed_fetched c) (after (scrubbed_machine c heap input) n) =
        ap (after (scrubbed_machine c heap input)) e ∙ run-add (framed_next (scrubbed_fetched c)) n 1 _ in
        subst₂ (Locked p notes) (sym a) (sym b) (together _ _ (together_after heap input start facts n) (facts n))

pub scrubbed-same : (p : AnfTree) → KeepsRules p → Fits p → (heap : ℕ) (input : List ℕ) (n : ℕ) → DoSame (after (framed_machine (code_of p) heap input) n) (after (scrubbed_machine (code_of p) heap input) n)
scrubbed-same p rules fits heap input n =
    let to = number_of (items_of (noted_items p)) in
    let notes = notes_of to (noted_items p) in
    let fo = follows p rules fits in
    let cs = constants-written p rules fits in
    let code = code_of p in
    let first = first-there p to (forms_of p) (length (lambdas_of p)) _ refl in
    let start = starts_alike p notes code heap input fo rules.statics first in
    let related = λ (n : ℕ). runs_related Event FramedState AnfState (measured_machine code heap input) (anf_measured p input) (R p notes code heap input fo cs) (measure p notes (length code.code)) (λ s. 0)
    (moves p notes code heap input fo cs (clean p rules input)) n (Runs (framed_start code heap) input []) (Running (start_of p.globals p.statics input) []) (start, record { moment = 0; comes = refl }) in
    let facts = λ (n : ℕ). (let g = (related n).1.0 in facts_of p notes g.0 (after (framed_machine code heap input) n) _ g.1) in
    do_same p notes _ _ (together_after p notes code fo heap input (starts p notes code heap input first) facts n)
  where
    starts : (p : AnfTree) (notes : List Note) (c : Assembled) (heap : ℕ) (input : List ℕ) → HasNote p notes 0 (Inside (AtValue (ToTop 0)) Away []) → Locked p notes (Runs (framed_start c heap) input []) (Runs (framed_start c heap) input [])
    starts p notes c heap input h =
        let m = framed_start c heap in
        both_go (record { pc = 0; heap = m.heap; ahead = None; regs = m.registers; regs2 = m.registers; gap = m.gap; gap2 = m.gap })
        (record { note = _; there = h; at = record { gaps = refl; long = refl; long2 = refl; same = record { agree = λ q s i. absurd i }; owns = own_away w_none } })
