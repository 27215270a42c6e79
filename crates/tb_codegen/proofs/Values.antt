-- A value in RESULT goes to what waits for it; forms begin, and the program ends.
use Rattle.std.proofs.Common.{◌≡◌, refl, sym, ◌∙◌, subst, ℕ, zero, suc, ◌+◌, ◌-◌, ◌<◌, inl, inr, ⊎_elim, arith, List, [], ◌∷◌, ◌++◌, length, Some, None, slice_get, slice_set, length-set, length-drop, lt-ltb, le-ltb}
use Rattle.std.proofs.lemmas.Bool.{cases_lt}
use Rattle.std.specs.Prelude.{take, drop}
use Rattle.tb_semantics.specs.Graph.{IsIn}
use Rattle.tb_prim.specs.declared.event.Event.{Event}
use Rattle.tb_core.specs.Store.{Value, Unspecified}
use Rattle.tb_ir.specs.AnfTree.{Block, AnfTree}
use Rattle.tb_ir.specs.AnfMachine.{AnfFrames, Code, InBlock, form_of}
use Rattle.tb_ir.specs.Machine.{Control, Env, Empty, Item, gather}
use Rattle.tb_mac.specs.declared.code.Instr.TheVariants as I
use Rattle.tb_mac.specs.declared.word.Word.{Word}
use Rattle.tb_mac.specs.Assembled.{Assembled}
use Rattle.tb_mac.specs.Frames.{Frame as MacFrame}
use Rattle.tb_mac.specs.Words.{imm_bits, unspecified}
use Rattle.tb_codegen.specs.Notes.{Entry, Stands, Reg, Slot, Symbol, Constant, Variable, Itself, Capture, Own, Here, Away, Note, Inside, AtBlock, AtValue, AtUnspecified, Waiting, ToCaller, ToTop, Then}
use Rattle.tb_codegen.specs.Generate.{settled}
use Rattle.tb_codegen.proofs.Changes.{Given, Into, IsFirst, IsNew, Same}
use Rattle.tb_codegen.proofs.Holding.{first-put, given, holds-into, holds-slot, new-put, same-means}
use Rattle.tb_codegen.proofs.Landing.{lands_block, lands_value}
use Rattle.tb_codegen.proofs.Moves.{done}
use Rattle.tb_codegen.proofs.Ok.{HasNote, Settles, free}
use Rattle.tb_codegen.proofs.Rel.{FsRel, f_none, f_then, f_top, HasAny, Holds, j_caller, j_then, j_top, Means, m_name, OwnRel, o_away, o_here, PtRel, at_unspecified, at_value, Saved, WRel, w_unspecified, World, meaning, r_full, r_inside, r_stopped}
use Rattle.tb_codegen.proofs.Sim.{Mem, Sim, Still, quiet, source}

-- the value itself
pub first_is : (p : AnfTree) (st : List Item) (v u : Value) (rs : List Env) → Means p st (Env.Bind 0 v Empty ∷ rs) (Variable 0 0) u → v ≡ u
first_is p st v u rs (m_name e) = cc (e)

-- what is named without the newest environment
past_empty : (v u : Value) (rs : List Env) (s : Symbol) → meaning (Empty ∷ rs) s ≡ Some u → meaning (Env.Bind 0 v Empty ∷ rs) s ≡ Some u
past_empty v u rs (Constant c) e = e
past_empty v u rs (Variable zero y) e = cc
past_empty v u rs (Variable (suc d) y) e = e
past_empty v u rs (Itself m) e = cc
past_empty v u rs (Capture j) e = cc

-- the map at a return point
returned : (p : AnfTree) (st : List Item) (w : World) (v : Value) (u : Word) (rs : List Env) (regs slots : List Word) (map : List Entry) →
    slice_get regs 16 ≡ Some u → WRel w u v → Saved w rs slots map → Holds p st w (Env.Bind 0 v Empty ∷ rs) regs slots map
returned p st w v u rs regs slots map here uv s = record {
  holds = λ q z i. ⊎_elim
      (λ k. subst (λ q. HasAny p st w (Env.Bind 0 v Empty ∷ rs) regs slots q z) (sym k.0)
      (subst (λ z. HasAny p st w (Env.Bind 0 v Empty ∷ rs) regs slots (Reg 16) z) (sym k.1)
      (record { value = v; word = u; means = m_name refl; here = here; rel = uv })))
      (λ k. let a = k.2 in
      subst (λ q. HasAny p st w (Env.Bind 0 v Empty ∷ rs) regs slots q z) (sym k.1)
      (record { value = a.value; word = a.word; means = m_name (past_empty v a.value rs z a.means); here = a.here; rel = a.rel }))
      (s.saved q z i);
}

module _ (p : AnfTree) (notes : List Note) (limit : ℕ) (c : Assembled) where
  pub step_given : (x : Still) (a : ℕ) {w : World} {s size l : ℕ} {y : ℕ} {k : Block} {js : Waiting} {old new : List Entry} {rs : List Env}
      {control : Control Code} {gs fs : AnfFrames} {slots : List Word} {top ms : List MacFrame} → Settles k → s < size →
      IsIn (Stands (Reg a) (Variable 0 0)) old →
      Into (Slot s) (IsNew y (free p (settled k))) (Given y (free p (settled k))) new old →
      HasNote p notes (x.pc + 1) (Inside (AtBlock (settled k) js) (Here size) new) →
      PtRel p notes x.st (AtValue (Then y k l js)) rs gs fs control → Holds p x.st w rs x.regs slots old → OwnRel (Here size) slots top ms → FsRel p notes w fs ms →
      Mem p notes limit w (AtValue (Then y k l js)) control x → length x.regs ≡ 17 → x.pc < limit →
      Sim p notes limit (done p notes limit c x top (I.Store a s)) (limit - x.pc) (source p notes limit x control gs)
  step_given x a {w = w} {s = s} {size = size} {y = y} {k = k} {old = old} {new = new} {slots = slots} se lt i into n (at_value v (j_then _ _ _ r {rs = rs} j)) h (o_here e) f mem len within =
      let h0 = h.holds (Reg a) (Variable 0 0) i in
      let uv : WRel w h0.word v = subst (λ z. WRel w h0.word z) (sym (first_is p x.st v h0.value (r ∷ rs) h0.means)) h0.rel in
      let few : s < length slots = omega arith in
      let hh = holds-slot p x.st x.st w (Env.Bind 0 v Empty ∷ (r ∷ rs)) (gather (free p (settled k)) (Env.Bind y v r) ∷ rs) x.regs slots s _ _ new old h0.word few h into
      (new-put p x.st w h0.word y (free p (settled k)) v r rs uv) (given p x.st x.st y (free p (settled k)) v r rs) in
      rw (lt-ltb s (length slots) few, h0.here) (lands_block p notes limit (record x { pc = x.pc + 1 }) k (Env.Bind y v r) _ 1 _ se refl (omega arith) n j hh
      (o_here (length-set slots s h0.word ∙ e)) f mem len)

  pub step_unspecified : (x : Still) {w : World} {d : ℕ} {js : Waiting} {own : Own} {old new : List Entry} {rs : List Env}
      {control : Control Code} {gs fs : AnfFrames} {slots : List Word} {top ms : List MacFrame} → d < 17 → Into (Reg d) IsFirst Same new old →
      HasNote p notes (x.pc + 1) (Inside (AtValue js) own new) →
      PtRel p notes x.st (AtUnspecified js) rs gs fs control → Holds p x.st w rs x.regs slots old → OwnRel own slots top ms → FsRel p notes w fs ms →
      Mem p notes limit w (AtUnspecified js) control x → length x.regs ≡ 17 → x.pc < limit →
      Sim p notes limit (done p notes limit c x top (I.Imm d (imm_bits unspecified))) (limit - x.pc) (source p notes limit x control gs)
  step_unspecified x {w = w} {d = d} {old = old} {new = new} {slots = slots} lt into n (at_unspecified {rs = rs} j) h o f mem len within =
      let hh = holds-into p x.st x.st w w (λ k i. i) (Env.Bind 0 Unspecified Empty ∷ rs) (Env.Bind 0 Unspecified Empty ∷ rs) x.regs slots d _ _ new old unspecified (omega arith) h into
      (first-put p x.st w unspecified Unspecified rs w_unspecified) (same-means p x.st (Env.Bind 0 Unspecified Empty ∷ rs)) in
      quiet p notes limit x (record x { pc = x.pc + 1; regs = slice_set x.regs d unspecified }) n (at_value Unspecified j) hh o f mem
      (length-set x.regs d unspecified ∙ len) (omega arith) within

  pub step_return : (x : Still) {w : World} {old : List Entry} {rs : List Env} {control : Control Code} {gs fs : AnfFrames}
      {slots : List Word} {top ms : List MacFrame} → IsIn (Stands (Reg 16) (Variable 0 0)) old →
      PtRel p notes x.st (AtValue ToCaller) rs gs fs control → Holds p x.st w rs x.regs slots old → OwnRel Away slots top ms → FsRel p notes w fs ms →
      Mem p notes limit w (AtValue ToCaller) control x → length x.regs ≡ 17 →
      Sim p notes limit (done p notes limit c x top I.Return) (limit - x.pc) (source p notes limit x control gs)
  step_return x {w = w} i (at_value v j_caller) h o_away (f_then y k l r {e = e} {size = size} {js = js} {rs = rs} {map = map} n j long s f) mem len =
      let h0 = h.holds (Reg 16) (Variable 0 0) i in
      let uv : WRel w h0.word v = subst (λ z. WRel w h0.word z) (sym (first_is p x.st v h0.value [] h0.means)) h0.rel in
      lands_value p notes limit (record x { pc = e; es = x.es ++ Event.Back ∷ [] }) v _ 1 _ refl (omega arith) n (j_then y k l r j)
      (returned p x.st w v h0.word (r ∷ rs) x.regs _ map h0.here uv s) (o_here long) f mem len
  step_return x {w = w} i (at_value v j_caller) h o_away (f_top k {e = e} {map = map} n long s) mem len =
      let h0 = h.holds (Reg 16) (Variable 0 0) i in
      let uv : WRel w h0.word v = subst (λ z. WRel w h0.word z) (sym (first_is p x.st v h0.value [] h0.means)) h0.rel in
      lands_value p notes limit (record x { pc = e; es = x.es ++ Event.Back ∷ [] }) v _ 1 _ refl (omega arith) n (j_top k)
      (returned p x.st w v h0.word [] x.regs _ map h0.here uv s) (o_here long) f_none mem len

  pub step_form : (x : Still) {w : World} {k size : ℕ} {old : List Entry} {rs : List Env} {control : Control Code} {gs fs : AnfFrames}
      {slots : List Word} {top ms : List MacFrame} (b : Block) → Settles b → form_of (slice_get p.procs k) ≡ Some (InBlock b) →
      HasNote p notes (x.pc + 1) (Inside (AtBlock (settled b) (ToTop (suc k))) (Here size) []) →
      HasNote p notes x.pc (Inside (AtValue (ToTop k)) Away old) →
      PtRel p notes x.st (AtValue (ToTop k)) rs gs fs control → Holds p x.st w rs x.regs slots old → OwnRel Away slots top ms → FsRel p notes w fs ms →
      Mem p notes limit w (AtValue (ToTop k)) control x → length x.regs ≡ 17 → x.pc < limit →
      Sim p notes limit (done p notes limit c x top (I.Save size)) (limit - x.pc) (source p notes limit x control gs)
  step_form x {w = w} {k = k} {size = size} b se form n here (at_value v (j_top _)) h o_away f_none mem len within =
      ⊎_elim
      (λ lt. rw (lt-ltb (length x.gap) (size + 2) lt) (0, (w, r_full refl (r_inside x.es here (at_value v (j_top k)) h o_away f_none mem len)), inr (inr refl)))
      (λ ge.
      let many : length (drop (length x.gap - (size + 2) + 2) x.gap) ≡ size = length-drop (length x.gap - (size + 2) + 2) x.gap ∙ (omega arith) in
      let one : 0 < 1 = omega arith in
      rw (le-ltb (length x.gap) (size + 2) ge) (lands_block p notes limit (record x { pc = x.pc + 1; gap = take (length x.gap - (size + 2)) x.gap }) b Empty _ 1 _ se
      (rw form refl) one n (j_top (suc k)) (record { holds = λ q s i. absurd i }) (o_here many) f_none mem len))
      (cases_lt (length x.gap) (size + 2))

  pub step_end : (x : Still) {w : World} {k : ℕ} {old : List Entry} {rs : List Env} {control : Control Code} {gs fs : AnfFrames}
      {slots : List Word} {top ms : List MacFrame} → form_of (slice_get p.procs k) ≡ None →
      HasNote p notes x.pc (Inside (AtValue (ToTop k)) Away old) →
      PtRel p notes x.st (AtValue (ToTop k)) rs gs fs control → Holds p x.st w rs x.regs slots old → OwnRel Away slots top ms → FsRel p notes w fs ms →
      Mem p notes limit w (AtValue (ToTop k)) control x → length x.regs ≡ 17 →
      Sim p notes limit (done p notes limit c x top I.End) (limit - x.pc) (source p notes limit x control gs)
  step_end x {w = w} {k = k} form here (at_value v (j_top _)) h o_away f_none mem len =
      (1, (w, rw form (r_stopped (r_inside x.es here (at_value v (j_top k)) h o_away f_none mem len))), inl (omega arith))
