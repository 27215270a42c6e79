-- Words that go from one place to another, and frames that are made and taken away.
use Rattle.std.proofs.Common.{◌≡◌, refl, ◌∙◌, ℕ, ◌+◌, ◌-◌, ◌<◌, true, false, inr, ⊎_elim, arith, List, [], ◌∷◌, ◌++◌, length, Some, slice_set, length-set, length-drop, eq-eqb, lt-ltb, le-ltb}
use Rattle.std.specs.Prelude.{take, drop, pos}
use Rattle.std.proofs.lemmas.Bool.{cases_lt}
use Rattle.tb_semantics.specs.Graph.{IsIn}
use Rattle.tb_mac.specs.declared.word.Word.TheVariants as W
use Rattle.tb_ir.specs.AnfTree.{AnfTree}
use Rattle.tb_ir.specs.AnfMachine.{AnfFrames, Code}
use Rattle.tb_ir.specs.Machine.{Control, Env, Item}
use Rattle.tb_mac.specs.declared.code.Instr.{Instr}
use Rattle.tb_mac.specs.declared.code.Instr.TheVariants as I
use Rattle.tb_mac.specs.declared.word.Word.{Word}
use Rattle.tb_prim.specs.declared.constant.Const.{Const}
use Rattle.tb_core.specs.Store.{value_of}
use Rattle.tb_mac.specs.Assembled.{Assembled}
use Rattle.tb_mac.specs.Words.{imm_bits, imm_word}
use Rattle.tb_mac.specs.Layout.{addresses, addresses_from, static_tag}
use Rattle.tb_mac.proofs.Immediates.{imm_word-imm_bits}
use Rattle.tb_semantics.proofs.ListLemmas.{get-some}
use Rattle.tb_codegen.specs.Operations.{constant}
use Rattle.tb_mac.specs.Frames.{Frame as MacFrame, Continues, framed_perform, gets}
use Rattle.tb_mac.specs.FramedRuns.{FramedState, framed_after}
use Rattle.tb_codegen.specs.Notes.{Constant, Entry, Stands, Reg, Slot, Symbol, Own, Here, Away, Ready, Note, Inside, Point}
use Rattle.tb_codegen.proofs.Changes.{From, Into, IsThat, is_that, NoSlots, Same, StandsAt}
use Rattle.tb_codegen.proofs.Holding.{holds-any, holds-from, holds-into, holds-none, holds-slot, moved, Puts, same-means}
use Rattle.tb_codegen.proofs.Ok.{HasNote, IsWritten}
use Rattle.tb_codegen.proofs.Rel.{FsRel, globals_words, Holds, OwnRel, o_away, o_here, o_ready, PtRel, World, WRel, m_name, w_at, w_char, w_false, w_fix, w_nil, w_true, w_undefined, w_unspecified, r_full, r_inside}
use Rattle.tb_codegen.proofs.Sim.{Mem, Sim, Still, machine, quiet, source}

module _ (p : AnfTree) (notes : List Note) (limit : ℕ) (c : Assembled) where
  -- the state behind an instruction
  abbrev pub done : Still → List MacFrame → Instr → FramedState
  done x top i = framed_after (machine x top) x.input x.es (framed_perform c (machine x top) i)

  pub step_load : (x : Still) {w : World} {d s size : ℕ} {pt : Point} {old new : List Entry} {rs : List Env} {control : Control Code}
      {gs fs : AnfFrames} {slots : List Word} {top ms : List MacFrame} (z : Symbol) → d < 17 → IsIn (Stands (Slot s) z) old →
      Into (Reg d) (StandsAt (Slot s) old) Same new old → HasNote p notes (x.pc + 1) (Inside pt (Here size) new) →
      PtRel p notes x.st pt rs gs fs control → Holds p x.st w rs x.regs slots old → OwnRel (Here size) slots top ms → FsRel p notes w fs ms →
      Mem p notes limit w pt control x → length x.regs ≡ 17 → x.pc < limit →
      Sim p notes limit (done x top (I.Load d s)) (limit - x.pc) (source p notes limit x control gs)
  step_load x {w = w} {d = d} {s = s} {old = old} {new = new} {rs = rs} {slots = slots} z lt i into n pr h (o_here e) f mem len within =
      let k = h.holds (Slot s) z i in
      let hh = holds-into p x.st x.st w w (λ k i. i) rs rs x.regs slots d _ _ new old k.word (omega arith) h into
      (moved p w rs x.regs slots old (Slot s) k.word x.st h k.here) (same-means p x.st rs) in
      rw (k.here) (quiet p notes limit x (record x { pc = x.pc + 1; regs = slice_set x.regs d k.word }) n pr hh (o_here e) f mem
      (length-set x.regs d k.word ∙ len) (omega arith) within)

  -- a constant's word comes to a register
  pub record Written (w : World) (x : Still) (top : List MacFrame) (d : ℕ) (i : Instr) (k : Const) : Type 0 where
    pub word : Word
    pub writes : framed_perform c (machine x top) i ≡ Continues (gets d word (machine x top))
    pub rel : WRel w word (value_of k)

  imm_written : (x : Still) (w : World) (top : List MacFrame) (d : ℕ) (k : Const) (u : Word) → imm_word (imm_bits u) ≡ Some u → WRel w u (value_of k) →
      Written w x top d (I.Imm d (imm_bits u)) k
  imm_written x w top d k u e r = record { word = u; writes = rw e refl; rel = r }

  same_addresses : c.parts.globals ≡ p.globals → c.parts.statics ≡ p.statics → addresses c.parts ≡ addresses_from (globals_words p notes) p.statics
  same_addresses g s = rw (g, s) refl

  pub written : (x : Still) {w : World} (pt : Point) (control : Control Code) (top : List MacFrame) (d : ℕ) (i : Instr) (k : Const) → c.parts.globals ≡ p.globals → c.parts.statics ≡ p.statics →
      i ≡ constant p.statics d k → IsWritten p.statics k → Mem p notes limit w pt control x → Written w x top d i k
  written x {w = w} pt control top d i (Const.Fix v) g s e h mem = rw e (imm_written x w top d (Const.Fix v) _ (imm_word-imm_bits _ h) (w_fix v))
  written x {w = w} pt control top d i (Const.Char v) g s e h mem = rw e (imm_written x w top d (Const.Char v) _ (imm_word-imm_bits _ h) (w_char v))
  written x {w = w} pt control top d i (Const.Bool true) g s e h mem = rw e (imm_written x w top d (Const.Bool true) _ refl w_true)
  written x {w = w} pt control top d i (Const.Bool false) g s e h mem = rw e (imm_written x w top d (Const.Bool false) _ refl w_false)
  written x {w = w} pt control top d i Const.Nil g s e h mem = rw e (imm_written x w top d Const.Nil _ refl w_nil)
  written x {w = w} pt control top d i Const.Unspecified g s e h mem = rw e (imm_written x w top d Const.Unspecified _ refl w_unspecified)
  written x {w = w} pt control top d i Const.Undefined g s e h mem = rw e (imm_written x w top d Const.Undefined _ refl w_undefined)
  written x {w = w} pt control top d i (Const.Stat n) g s e h mem =
      let o = get-some p.statics n h in
      let a = mem.statics n o.0 o.1 in
      let q = same_addresses g s in
      rw (e, o.1) (record { word = W.Pointer (static_tag o.0) a.0; writes = rw (q, a.1) refl; rel = w_at a.2 })

  pub step_const : (x : Still) {w : World} {d : ℕ} {pt : Point} {own : Own} {old new : List Entry} {rs : List Env} {control : Control Code}
      {gs fs : AnfFrames} {slots : List Word} {top ms : List MacFrame} (i : Instr) (k : Const) → Written w x top d i k → d < 17 →
      Into (Reg d) (IsThat (Constant k)) Same new old → HasNote p notes (x.pc + 1) (Inside pt own new) →
      PtRel p notes x.st pt rs gs fs control → Holds p x.st w rs x.regs slots old → OwnRel own slots top ms → FsRel p notes w fs ms →
      Mem p notes limit w pt control x → length x.regs ≡ 17 → x.pc < limit →
      Sim p notes limit (done x top i) (limit - x.pc) (source p notes limit x control gs)
  step_const x {w = w} {d = d} {old = old} {new = new} {rs = rs} {slots = slots} i k wr lt into n pr h o f mem len within =
      let hh = holds-into p x.st x.st w w (λ k i. i) rs rs x.regs slots d _ _ new old wr.word (omega arith) h into
      (that_put w wr.word rs x.st k wr.rel) (same-means p x.st rs) in
      rw (wr.writes) (quiet p notes limit x (record x { pc = x.pc + 1; regs = slice_set x.regs d wr.word }) n pr hh o f mem
      (length-set x.regs d wr.word ∙ len) (omega arith) within)
    where
      that_put : (w : World) (u : Word) (rs : List Env) (st : List Item) (k : Const) → WRel w u (value_of k) → Puts p st st (IsThat (Constant k)) w u rs
      that_put w u rs st k r s is_that = (value_of k, m_name refl, r)

  pub step_store : (x : Still) {w : World} {a s size : ℕ} {pt : Point} {old new : List Entry} {rs : List Env} {control : Control Code}
      {gs fs : AnfFrames} {slots : List Word} {top ms : List MacFrame} (z : Symbol) → s < size → IsIn (Stands (Reg a) z) old →
      Into (Slot s) (StandsAt (Reg a) old) Same new old → HasNote p notes (x.pc + 1) (Inside pt (Here size) new) →
      PtRel p notes x.st pt rs gs fs control → Holds p x.st w rs x.regs slots old → OwnRel (Here size) slots top ms → FsRel p notes w fs ms →
      Mem p notes limit w pt control x → length x.regs ≡ 17 → x.pc < limit →
      Sim p notes limit (done x top (I.Store a s)) (limit - x.pc) (source p notes limit x control gs)
  step_store x {w = w} {a = a} {s = s} {size = size} {old = old} {new = new} {rs = rs} {slots = slots} z lt i into n pr h (o_here e) f mem len within =
      let k = h.holds (Reg a) z i in
      let few : s < length slots = omega arith in
      let hh = holds-slot p x.st x.st w rs rs x.regs slots s _ _ new old k.word few h into
      (moved p w rs x.regs slots old (Reg a) k.word x.st h k.here) (same-means p x.st rs) in
      rw (lt-ltb s (length slots) few, k.here) (quiet p notes limit x (record x { pc = x.pc + 1 }) n pr hh (o_here (length-set slots s k.word ∙ e)) f mem len (omega arith) within)

  pub step_save : (x : Still) {w : World} {size : ℕ} {pt : Point} {old new : List Entry} {rs : List Env} {control : Control Code}
      {gs fs : AnfFrames} {slots : List Word} {top ms : List MacFrame} → From Same new old → HasNote p notes (x.pc + 1) (Inside pt (Here size) new) →
      PtRel p notes x.st pt rs gs fs control → Holds p x.st w rs x.regs slots old → OwnRel Away slots top ms → FsRel p notes w fs ms →
      HasNote p notes x.pc (Inside pt Away old) → Mem p notes limit w pt control x → length x.regs ≡ 17 → x.pc < limit →
      Sim p notes limit (done x top (I.Save size)) (limit - x.pc) (source p notes limit x control gs)
  step_save x {w = w} {size = size} {old = old} {new = new} {rs = rs} {ms = ms} from n pr h o_away f here mem len within =
      ⊎_elim
      (λ lt. rw (lt-ltb (length x.gap) (size + 2) lt) (0, (w, r_full refl (r_inside x.es here pr h o_away f mem len)), inr (inr refl)))
      (λ ge.
      let hh = holds-from p x.st x.st w w (λ k i. i) rs rs x.regs [] Same new old h from (same-means p x.st rs) in
      let many : length (drop (length x.gap - (size + 2) + 2) x.gap) ≡ size = length-drop (length x.gap - (size + 2) + 2) x.gap ∙ (omega arith) in
      let next : x.pc < x.pc + 1 = omega arith in
      rw (le-ltb (length x.gap) (size + 2) ge) (quiet p notes limit x (record x { pc = x.pc + 1; gap = take (length x.gap - (size + 2)) x.gap }) n pr
      (holds-any p x.st w rs x.regs _ new hh) (o_here many) f mem len next within))
      (cases_lt (length x.gap) (size + 2))

  pub step_setrtn : (x : Still) {w : World} {size l : ℕ} {pt : Point} {old new : List Entry} {rs : List Env} {control : Control Code}
      {gs fs : AnfFrames} {slots : List Word} {top ms : List MacFrame} → From Same new old → HasNote p notes (x.pc + 1) (Inside pt (Ready size l) new) →
      PtRel p notes x.st pt rs gs fs control → Holds p x.st w rs x.regs slots old → OwnRel (Here size) slots top ms → FsRel p notes w fs ms →
      Mem p notes limit w pt control x → length x.regs ≡ 17 → x.pc < limit →
      Sim p notes limit (done x top (I.SetRtn l)) (limit - x.pc) (source p notes limit x control gs)
  step_setrtn x {w = w} {old = old} {new = new} {rs = rs} {slots = slots} from n pr h (o_here e) f mem len within =
      let hh = holds-from p x.st x.st w w (λ k i. i) rs rs x.regs slots Same new old h from (same-means p x.st rs) in
      quiet p notes limit x (record x { pc = x.pc + 1 }) n pr hh (o_ready e) f mem len (omega arith) within

  pub step_pop : (x : Still) {w : World} {size : ℕ} {pt : Point} {old new : List Entry} {rs : List Env} {control : Control Code}
      {gs fs : AnfFrames} {slots : List Word} {top ms : List MacFrame} → NoSlots new → From Same new old → HasNote p notes (x.pc + 1) (Inside pt Away new) →
      PtRel p notes x.st pt rs gs fs control → Holds p x.st w rs x.regs slots old → OwnRel (Here size) slots top ms → FsRel p notes w fs ms →
      Mem p notes limit w pt control x → length x.regs ≡ 17 → x.pc < limit →
      Sim p notes limit (done x top (I.Pop size)) (limit - x.pc) (source p notes limit x control gs)
  step_pop x {w = w} {size = size} {old = old} {new = new} {rs = rs} {slots = slots} ns from n pr h (o_here {u = u} e) f mem len within =
      let hh = holds-from p x.st x.st w w (λ k i. i) rs rs x.regs slots Same new old h from (same-means p x.st rs) in
      rw (eq-eqb (length slots) size e) (quiet p notes limit x (record x { pc = x.pc + 1; gap = x.gap ++ (u ∷ W.Fix (pos (length slots)) ∷ slots) }) n pr (holds-none p x.st w rs x.regs slots new ns hh) o_away f mem len (omega arith) within)

  pub step_jump : (x : Still) {w : World} {l : ℕ} {pt : Point} {own : Own} {old new : List Entry} {rs : List Env} {control : Control Code}
      {gs fs : AnfFrames} {slots : List Word} {top ms : List MacFrame} → x.pc < l → HasNote p notes l (Inside pt own new) → From Same new old →
      PtRel p notes x.st pt rs gs fs control → Holds p x.st w rs x.regs slots old → OwnRel own slots top ms → FsRel p notes w fs ms →
      Mem p notes limit w pt control x → length x.regs ≡ 17 → x.pc < limit →
      Sim p notes limit (done x top (I.Jump l)) (limit - x.pc) (source p notes limit x control gs)
  step_jump x {w = w} {l = l} {old = old} {new = new} {rs = rs} {slots = slots} lt n from pr h o f mem len within =
      let hh = holds-from p x.st x.st w w (λ k i. i) rs rs x.regs slots Same new old h from (same-means p x.st rs) in
      quiet p notes limit x (record x { pc = l }) n pr hh o f mem len lt within
