-- Code that follows its notes: one step, by the instruction.
use Rattle.std.proofs.Common.{◌≡◌, refl, ℕ, ◌-◌, ◌<◌, inl, List, [], ◌∷◌, length, Option, Some}
use Rattle.tb_prim.specs.declared.constant.Const.{Const}
use Rattle.tb_prim.specs.declared.place.Place.{Place}
use Rattle.tb_semantics.specs.Graph.{IsIn}
use Rattle.tb_core.specs.Store.{Value, Undefined}
use Rattle.tb_ir.specs.AnfTree.{Operand, Block, Op, PrimUse, AnfTree}
use Rattle.tb_ir.specs.AnfMachine.{AnfFrames, Code, InBlock, atom_value}
use Rattle.tb_ir.specs.AnfRules.{operation}
use Rattle.tb_ir.specs.Machine.{Control, Env, Eval}
use Rattle.tb_mac.specs.declared.code.Instr.{Instr}
use Rattle.tb_mac.specs.declared.word.Word.{Word}
use Rattle.tb_mac.specs.Assembled.{Assembled}
use Rattle.tb_mac.specs.Frames.{Frame as MacFrame}
use Rattle.tb_mac.specs.MacStep.{place_of}
use Rattle.tb_codegen.specs.Notes.{Entry, Stands, Spot, Constant, Own, Note, Inside, Point, Waiting}
use Rattle.tb_codegen.specs.Generate.{captured_in}
use Rattle.tb_codegen.proofs.Applies.{step_apply}
use Rattle.tb_codegen.proofs.Calls.{step_direct, step_invoke}
use Rattle.tb_codegen.proofs.Cells.{step_cell_get, step_cell_set, step_new_cell}
use Rattle.tb_codegen.proofs.Changes.{OpAt, at_bind, at_tail}
use Rattle.tb_codegen.proofs.Closures.{step_close, step_fill, step_filled, step_open}
use Rattle.tb_codegen.proofs.Entries.{step_capt}
use Rattle.tb_codegen.proofs.Groups.{step_first, step_next, step_stored, step_word}
use Rattle.tb_codegen.proofs.Moves.{done, step_const, step_jump, step_load, step_pop, step_save, step_setrtn, step_store, written}
use Rattle.tb_codegen.proofs.Ok.{a_quote, a_global, a_use0, a_use1, a_use2, a_use3, a_cell, a_get, w_set, w_define, w_cell, Further, Falls, HasNote, IsWritten, Ok, ok_load, ok_store, ok_const, ok_save, ok_setrtn, ok_pop, ok_jump, ok_form, ok_end, ok_act, ok_read, ok_write, ok_unspecified, ok_given, ok_branch, ok_return, ok_invoke, ok_apply, ok_direct, ok_capt, ok_close, ok_open, ok_fill, ok_filled, ok_first, ok_next, ok_stored, ok_word}
use Rattle.tb_codegen.proofs.PrimSteps.{step_use0, step_use1, step_use2, step_use3}
use Rattle.tb_codegen.proofs.Rel.{FsRel, Holds, OwnRel, PtRel, at_block, World}
use Rattle.tb_codegen.proofs.Sim.{Mem, Sim, Still, source}
use Rattle.tb_codegen.proofs.Simple.{step_branch, step_define, step_global, step_quote, step_read, step_set}
use Rattle.tb_codegen.proofs.Values.{step_end, step_form, step_given, step_return, step_unspecified}

-- the constants of a map can be written
pub record Constants (p : AnfTree) (map : List Entry) : Type 0 where
  pub constants : (q : Spot) (c : Const) → IsIn (Stands q (Constant c)) map → IsWritten p.statics c

-- no operand of a primitive that is about to be used is the mark of a variable without a value
pub record Unmarked (control : Control Code) : Type 0 where
  pub unmarked : (b : Block) (r : Env) (q : _) (ds : List Operand) (pl : Place) → control ≡ Eval (InBlock b) r → operation b ≡ PrimUse q ds pl ∷ [] →
      (d : Operand) (v : Value) → IsIn d ds → atom_value r d ≡ Some v → v ≡ Undefined → ⊥

operation_at : (captured : ℕ → List ℕ) (op : Op) (b : Block) (js gs : Waiting) (o : Option (List ℕ)) → OpAt captured op b js gs o → operation b ≡ op ∷ []
operation_at captured op b js gs o (at_bind x k l) = refl
operation_at captured op b js gs o at_tail = refl

module _ (p : AnfTree) (notes : List Note) (limit : ℕ) (c : Assembled) (same_globals : c.parts.globals ≡ p.globals) (same_statics : c.parts.statics ≡ p.statics) where
  pub step_inside : (x : Still) {w : World} {pt : Point} {own : Own} {map : List Entry} {rs : List Env} {control : Control Code} {gs fs : AnfFrames} {slots : List Word} {top ms : List MacFrame}
      (i : Instr) (pl : Option Place) (n : Option Note) → Ok p (HasNote p notes) (Further p notes x.pc) i pl (Inside pt own map) n → place_of c.places x.pc ≡ pl → Falls p notes x.pc n →
      HasNote p notes x.pc (Inside pt own map) → Constants p map → Unmarked control →
      PtRel p notes x.st pt rs gs fs control → Holds p x.st w rs x.regs slots map → OwnRel own slots top ms → FsRel p notes w fs ms → Mem p notes limit w pt control x → length x.regs ≡ 17 → x.pc < limit →
      Sim p notes limit (done p notes limit c x top i) (limit - x.pc) (source p notes limit x control gs)
  step_inside x i pl n (ok_load z lt j into) place next here cs um pr h o f mem len within = step_load p notes limit c x z lt j into next pr h o f mem len within
  step_inside x i pl n (ok_store z lt j into) place next here cs um pr h o f mem len within = step_store p notes limit c x z lt j into next pr h o f mem len within
  step_inside x {pt = pt} {control = control} {top = top} i pl n (ok_const i2 k {d = d} e wr lt into) place next here cs um pr h o f mem len within =
      step_const p notes limit c x i k (written p notes limit c x pt control top d i k same_globals same_statics e wr mem) lt into next pr h o f mem len within
  step_inside x i pl n (ok_save from) place next here cs um pr h o f mem len within = step_save p notes limit c x from next pr h o f here mem len within
  step_inside x i pl n (ok_setrtn from) place next here cs um pr h o f mem len within = step_setrtn p notes limit c x from next pr h o f mem len within
  step_inside x i pl n (ok_pop ns from) place next here cs um pr h o f mem len within = step_pop p notes limit c x ns from next pr h o f mem len within
  step_inside x i pl n (ok_jump t from) place next here cs um pr h o f mem len within = step_jump p notes limit c x t.0 t.1 from pr h o f mem len within
  step_inside x i pl n (ok_form b se form) place next here cs um pr h o f mem len within = step_form p notes limit c x b se form next here pr h o f mem len within
  step_inside x i pl n (ok_end form) place next here cs um pr h o f mem len within = step_end p notes limit c x form here pr h o f mem len
  step_inside x {pt = pt} {control = control} {top = top} i pl n (ok_act op rs (a_quote k i2 d e wr) at lt args into) place next here cs um (at_block b r cut jr) h o f mem len within =
      step_quote p notes limit c x r k i at (written p notes limit c x pt control top d i k same_globals same_statics e wr mem) lt into next jr h o f len mem
  step_inside x i pl n (ok_act op rs (a_global g q d few) at lt args into) place next here cs um (at_block b r cut jr) h o f mem len within = step_global p notes limit c x r at few place lt into here cut next jr h o f len mem
  step_inside x i pl n (ok_act op rs (a_use0 q y d) at lt args into) place next here cs um (at_block b r cut jr) h o f mem len within = step_use0 p notes limit c x r (limit - x.pc) at lt into place here cut next jr h o f len mem
  step_inside x i pl n (ok_act op rs (a_use1 q e y d a) at lt args into) place next here cs um (at_block b r cut jr) h o f mem len within = step_use1 p notes limit c x a r (limit - x.pc) at lt into args place here cut next jr h o f len mem
  step_inside x i pl n (ok_act op rs (a_use2 q e e2 y d a a2) at lt args into) place next here cs um (at_block b r cut jr) h o f mem len within =
      step_use2 p notes limit c x a a2 r (limit - x.pc) at lt into args place (λ v ev. um.unmarked b r q (e ∷ e2 ∷ []) y refl (operation_at (captured_in p) _ _ _ _ _ at) e v (inl refl) ev) here cut next jr h o f len mem
  step_inside x i pl n (ok_act op rs (a_use3 q e e2 e3 y a a2 a3) at lt args into) place next here cs um (at_block b r cut jr) h o f mem len within = step_use3 p notes limit c x a a2 a3 r (limit - x.pc) at into args place here cut next jr h o f len mem
  step_inside x i pl n (ok_act op rs (a_cell e d a) at lt args into) place next here cs um (at_block b r cut jr) h o f mem len within = step_new_cell p notes limit c x a r (limit - x.pc) at lt into args here cut next jr h o f len mem
  step_inside x i pl n (ok_act op rs (a_get e q d a) at lt args into) place next here cs um (at_block b r cut jr) h o f mem len within = step_cell_get p notes limit c x a r (limit - x.pc) at place lt into args here cut next jr h o f len mem
  step_inside x i pl n (ok_read {s = s} at lt j into) place next here cs um (at_block b r cut jr) h o f mem len within = step_read p notes limit c x s r at lt j into next jr h o f len mem
  step_inside x i pl n (ok_write op rs (w_set g e q a few) at args from) place next here cs um (at_block b r cut jr) h o f mem len within = step_set p notes limit c x r at few place args from here cut next jr h o f len mem
  step_inside x i pl n (ok_write op rs (w_define g e a few) at args from) place next here cs um (at_block b r cut jr) h o f mem len within = step_define p notes limit c x r at few args from next jr h o f len mem
  step_inside x i pl n (ok_write op rs (w_cell e e2 a a2) at args from) place next here cs um (at_block b r cut jr) h o f mem len within = step_cell_set p notes limit c x a a2 r (limit - x.pc) at from args here cut next jr h o f len mem
  step_inside x i pl n (ok_unspecified lt into) place next here cs um pr h o f mem len within = step_unspecified p notes limit c x lt into next pr h o f mem len within
  step_inside x i pl n (ok_given y k {a = a} se lt j into) place next here cs um pr h o f mem len within = step_given p notes limit c x a se lt j into next pr h o f mem len within
  step_inside x i pl n (ok_branch {a = a} {l = l} sb sd at j from1 t from2) place next here cs um (at_block b r cut jr) h o f mem len within = step_branch p notes limit c x a l r sb sd at j from1 t from2 next jr h o f len mem
  step_inside x i pl n (ok_return j) place next here cs um pr h o f mem len within = step_return p notes limit c x j pr h o f mem len
  step_inside x i pl n (ok_invoke at e le args calls) place next here cs um (at_block b r cut jr) h o f mem len within = step_invoke p notes limit c x r (limit - x.pc) at e le args calls cs.constants place here cut jr h o f len mem
  step_inside x i pl n (ok_apply at args calls) place next here cs um (at_block b r cut jr) h o f mem len within = step_apply p notes limit c x r (limit - x.pc) at args calls cs.constants place here cut jr h o f len mem
  step_inside x i pl n (ok_direct m q {l = l} at lf count few args t starts calls) place next here cs um (at_block b r cut jr) h o f mem len within = step_direct p notes limit c x l r (limit - x.pc) at lf count args t starts calls cs.constants jr h o f len mem
  step_inside x i pl n (ok_capt m y q {a = a} {j = j} lt en at k into) place next here cs um pr h o f mem len within = step_capt p notes limit c x a j lt en at k into next pr h o f mem len within
  step_inside x i pl n (ok_close m q {l = l} at lt en none t into) place next here cs um (at_block b r cut jr) h o f mem len within = step_close p notes limit c x l r (limit - x.pc) at lt en none t into here cut next jr h o f len mem
  step_inside x i pl n (ok_open m q {l = l} at lt en count some stand t into) place next here cs um (at_block b r cut jr) h o f mem len within = step_open p notes limit c x l r (limit - x.pc) at lt en count stand t into here cut next jr h o f len mem
  step_inside x i pl n (ok_fill {a = a} {b = b} lt j k from) place next here cs um pr h o f mem len within = step_fill p notes limit c x a b lt j k from next pr h o f mem len within
  step_inside x i pl n (ok_filled {a = a} {b = b} last j k from) place next here cs um pr h o f mem len within = step_filled p notes limit c x a b last j k from next pr h o f mem len within
  step_inside x i pl n (ok_first {l = l} lt en count t ap_xs long so into on) place next here cs um (at_block b r cut jr) h o f mem len within = step_first p notes limit c x l r lt en count t ap_xs long so into on next here cut jr h o f mem len
  step_inside x i pl n (ok_next {l = l} lt en count t ax al an long into on) place next here cs um pr h o f mem len within = step_next p notes limit c x l lt en count t ax al an long into on next here pr h o f mem len within
  step_inside x i pl n (ok_word j y z m {a = a} {b = b} ax al an ac long ia ib from on) place next here cs um pr h o f mem len within = step_word p notes limit c x a b j ax al an ac long ia ib from on next pr h o f mem len within
  step_inside x i pl n (ok_stored z lt j into long on) place next here cs um pr h o f mem len within = step_stored p notes limit c x z lt j into long on next pr h o f mem len within
