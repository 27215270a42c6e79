-- No primitive is used on the mark of a variable without a value.
use Rattle.std.proofs.Common.{◌≡◌, refl, sym, ◌∙◌, subst, ℕ, zero, suc, ◌⊎◌, ◌==◌, Bool, cond, true, false, inl, inr, ⊎_elim, List, [], ◌∷◌, ◌++◌, length, take, drop, Option, Some, None, slice_get}
use Rattle.tb_prim.specs.declared.constant.Const.{Const}
use Rattle.tb_prim.specs.declared.event.Cause.{Cause}
use Rattle.tb_prim.specs.declared.event.Event.{Event}
use Rattle.tb_prim.specs.declared.place.Place.{Place}
use Rattle.tb_semantics.specs.Graph.{IsIn}
use Rattle.tb_semantics.specs.Runs.{after, run}
use Rattle.tb_semantics.proofs.ListLemmas.{in-left, in-right}
use Rattle.tb_core.specs.Effects.{Effect, Gives, Makes, Changes, Puts, Takes, Peeks, Fails, Misused, effect_of, is_false}
use Rattle.tb_core.specs.FreeVariables.{without}
use Rattle.tb_core.specs.Lists.{Walked, Elements, TooLong, NoList, list_value, walked}
use Rattle.tb_core.specs.Partners.{AlikeEffects, gives, makes, changes, AlikeWalks, elements, nothing, further, unspecified, end_object, char, fix, truth, nil, at}
use Rattle.tb_core.specs.Store.{Value, Fix, Char, Truth, Nil, Unspecified, Undefined, EndObject, At}
use Rattle.tb_core.proofs.Partners.{same-effect, same-walk}
use Rattle.tb_ir.specs.AnfTree.{AnfTree, ProcTree, Operand, Quote, Var, Block, Bind, CloseAll, Tail, Op, Atom, Global, SetGlobal, DefGlobal, PrimUse, NewCell, CellGet, CellSet, Close, Call, Direct, Apply, Branch}
use Rattle.tb_ir.specs.AnfMachine.{evaluate_cut, AnfConfig, AnfFrames, AnfState, AnfWork, Binding, Code, InBlock, InOp, anf_machine, atom_value, atom_values, captured_by, form_of, free_block, free_of_atom, free_of_atoms, language, own_formals, own_rest, proc_of, procedure_of, run_apply, run_call, run_cell_set, run_op, with_value, with_values}
use Rattle.tb_ir.specs.AnfRules.{BlockKeeps, KeepsRules, MarkIsBound, NoMark, all_blocks, atoms, blocks, blocks_in, blocks_of, celled, is_mark, operation, operations}
use Rattle.tb_ir.specs.Machine.{Language, give_value, new_cell, enter_lifted, give as give_work, go, emit, bind_parameters, fail, enter_lifted_body, eval, Closure, Lifted, Control, Entering, Env, Empty, Eval, Bound, Val, Item, Cell, Obj, Clo, Own, Top, Running, Stopped, Lost, Procedure, Work, apply, apply_at, apply_to, assign_global, bind_all, config_of, contents, enter, enter_at, enter_body, enter_item, gather, get_cell, get_held, give_top, mark_top, perform, peek_input, read_value, set_cell, set_global, set_held, set_held_global, start_of, step, step_control, take_input, takes, top, use_primitive}
use Rattle.tb_codegen.proofs.Marks.{EnvFine, Fine, FineList, Marked, Same, StoreFine, atom_fine, atoms_fine, fine_append, fine_at, fine_bind, fine_bind_all, fine_drop, fine_empty, fine_gather, fine_list_value, fine_located, fine_take, inside_all, not_mark, partnered, self_block, store_closures, store_list, store_more, store_set, store_statics}
use Rattle.tb_codegen.proofs.Namings.{every-at, in-each, proc-found}
use Rattle.tb_codegen.proofs.Procs.{in-blocks-of}
use Rattle.tb_codegen.proofs.Steps.{Unmarked}

abbrev made_of : ProcTree → Procedure Code
made_of q = record { place = q.place; formals = own_formals q.rest q.params; rest = own_rest q.rest q.params; added = []; captured = q.captured; body = InBlock q.body }

abbrev mark : Op
mark = Atom (Quote Const.Undefined)

module _ (p : AnfTree) (rules : KeepsRules p) where
  abbrev B : List Block
  B = all_blocks p

  abbrev x : Language Code AnfWork
  x = language p

  -- frames
  abbrev WorkFine : Work AnfWork → Type 0
  WorkFine (Top k) = Unit {0}
  WorkFine (Own (Binding y b r)) = IsIn b B × EnvFine p rules r

  abbrev FramesFine : AnfFrames → Type 0
  FramesFine [] = Unit {0}
  FramesFine (f ∷ fs) = WorkFine f.work × FramesFine fs

  -- the mark may be given to what is on top
  abbrev TakesWork : Work AnfWork → Type 0
  TakesWork (Top k) = ⊥
  TakesWork (Own (Binding y b r)) = Marked p rules y

  abbrev TakesMark : AnfFrames → Type 0
  TakesMark [] = ⊥
  TakesMark (f ∷ fs) = TakesWork f.work

  record OpFine (fs : AnfFrames) (op : Op) (r : Env) : Type 0 where
    among : IsIn op (operations p)
    arms : (b : Block) → IsIn b (blocks_in op) → IsIn b B
    env : EnvFine p rules r
    marks : NoMark (atoms op) ⊎ ((op ≡ mark) × TakesMark fs)

  abbrev ControlFine : AnfFrames → Control Code → Type 0
  ControlFine fs (Eval (InBlock b) r) = IsIn b B × EnvFine p rules r
  ControlFine fs (Eval (InOp op) r) = OpFine fs op r
  ControlFine fs (Bound (InBlock b) r) = IsIn b B × EnvFine p rules r
  ControlFine fs (Bound (InOp op) r) = ⊥
  ControlFine fs (Val v) = Fine v ⊎ TakesMark fs
  ControlFine fs (Entering callee vs) = FineList vs

  record Good (c : AnfConfig) : Type 0 where
    control : ControlFine c.frames c.control
    frames : FramesFine c.frames
    store : StoreFine p rules c.store

  abbrev GoodState : AnfState → Type 0
  GoodState s = Good (config_of s)

  goes : (c : AnfConfig) (k : Control Code) (fs : AnfFrames) → Good c → ControlFine fs k → FramesFine fs → Good (record c { control = k; frames = fs })
  goes c k fs g h f = record { control = h; frames = f; store = g.store }

  goes_with : (c : AnfConfig) (k : Control Code) (fs : AnfFrames) (st : List Item) → ControlFine fs k → FramesFine fs → StoreFine p rules st → Good (record c { control = k; frames = fs; store = st })
  goes_with c k fs st h f s = record { control = h; frames = f; store = s }

  marked_frames : (fs : AnfFrames) → FramesFine fs → FramesFine (mark_top fs)
  marked_frames [] h = tt
  marked_frames (f ∷ fs) h = h

  -- rules for blocks
  marks_bound : (y : ℕ) (op : Op) (b : Block) → MarkIsBound p (Bind y op b) → NoMark (atoms op) ⊎ (op ≡ mark)
  marks_bound y (Atom (Quote (Const.Fix n))) b h = inl h.0
  marks_bound y (Atom (Quote (Const.Char n))) b h = inl h.0
  marks_bound y (Atom (Quote (Const.Bool n))) b h = inl h.0
  marks_bound y (Atom (Quote Const.Nil)) b h = inl h.0
  marks_bound y (Atom (Quote Const.Unspecified)) b h = inl h.0
  marks_bound y (Atom (Quote Const.Undefined)) b h = inr refl
  marks_bound y (Atom (Quote (Const.Stat n))) b h = inl h.0
  marks_bound y (Atom (Var z)) b h = inl h.0
  marks_bound y (Global g q) b h = inl h.0
  marks_bound y (SetGlobal g a q) b h = inl h.0
  marks_bound y (DefGlobal g a) b h = inl h.0
  marks_bound y (PrimUse q ds s) b h = inl h.0
  marks_bound y (NewCell a) b h = inl h.0
  marks_bound y (CellGet a q) b h = inl h.0
  marks_bound y (CellSet a d) b h = inl h.0
  marks_bound y (Close l) b h = inl h.0
  marks_bound y (Call f ds q) b h = inl h.0
  marks_bound y (Direct l ds) b h = inl h.0
  marks_bound y (Apply f l q) b h = inl h.0
  marks_bound y (Branch a d e) b h = inl h.0

  keeps_block : (b : Block) → IsIn b B → BlockKeeps p b
  keeps_block b i = every-at (BlockKeeps p) B b rules.blocks i

  within : (b j : Block) → IsIn b B → IsIn j (blocks b) → IsIn j B
  within b j i h = inside_all p.procs j b i h

  abbrev cut : Code → Env → Env
  cut e r = gather (x.free e) r

  -- a block
  step_block : (c : AnfConfig) (b : Block) (r : Env) (es : List Event) → Good c → IsIn b B → EnvFine p rules r → GoodState (x.evaluate c (InBlock b) r es)
  step_block c (Bind y op b) r es g i h =
      let k = keeps_block (Bind y op b) i in
      let fs = record { marked = false; work = Own (Binding y b (gather (without (y ∷ []) (free_block (λ l. captured_by (proc_of p.procs l)) b)) r)) } ∷ c.frames in
      let arms : (d : Block) → IsIn d (blocks_in op) → IsIn d B = λ d j. within (Bind y op b) d i (inr (in-left (blocks_in op) (blocks b) d j)) in
      let inner : IsIn b B = within (Bind y op b) b i (inr (in-right (blocks_in op) (blocks b) b (self_block b))) in
      let among : IsIn op (operations p) = in-each operation B (Bind y op b) op i (inl refl) in
      goes c (Eval (InOp op) (cut (InOp op) r)) fs g
      (record {
        among = among;
        arms = arms;
        env = fine_gather p rules _ r h;
        marks = ⊎_elim inl (λ e. inr (e, record { behind = b; bound = subst (λ op. IsIn (Bind y op b) B) e i })) (marks_bound y op b k.mark_is_bound);
      })
      ((inner, fine_gather p rules _ r h), g.frames)
  step_block c (CloseAll ys ls b) r es g i h =
      let q = fine_located p rules ys (length c.store) _ (fine_gather p rules (free_block (λ l. captured_by (proc_of p.procs l)) (CloseAll ys ls b)) r h) in
      goes_with c _ c.frames _ (within (CloseAll ys ls b) b i (inr (self_block b)), q) g.frames
      (store_more p rules c.store _ g.store (store_closures p rules (λ l. captured_by (proc_of p.procs l)) ls _ q))
  step_block c (Tail op) r es g i h =
      let k = keeps_block (Tail op) i in
      goes c (Eval (InOp op) (cut (InOp op) r)) c.frames g
      (record { among = in-each operation B (Tail op) op i (inl refl); arms = λ d j. within (Tail op) d i (inr j); env = fine_gather p rules _ r h; marks = inl (tail_marks op k.mark_is_bound) })
      g.frames
    where
      tail_marks : (op : Op) → MarkIsBound p (Tail op) → NoMark (atoms op)
      tail_marks op h = h.0

  -- values that are there
  valued : (c : AnfConfig) (o : Option Value) (es : List Event) (k : Value → AnfState) → Good c → ((v : Value) → o ≡ Some v → GoodState (k v)) → GoodState (with_value c o es k)
  valued c None es k g f = g
  valued c (Some v) es k g f = f v refl

  all_valued : (c : AnfConfig) (o : Option (List Value)) (es : List Event) (k : List Value → AnfState) → Good c → ((vs : List Value) → o ≡ Some vs → GoodState (k vs)) → GoodState (with_values c o es k)
  all_valued c None es k g f = g
  all_valued c (Some vs) es k g f = f vs refl

  gives_val : (c : AnfConfig) (v : Value) → Good c → Fine v → Good (record c { control = Val v })
  gives_val c v g f = goes c (Val v) c.frames g (inl f) g.frames

  step_read : (c : AnfConfig) (q : Place) (o : Option Value) (es : List Event) → Good c → GoodState (read_value c q o es)
  step_read c q None es g = g
  step_read c q (Some Undefined) es g = g
  step_read c q (Some (Fix n)) es g = gives_val c _ g AlikeF
    where
      AlikeF : Fine (Fix n)
      AlikeF = fix
  step_read c q (Some (Char n)) es g = gives_val c _ g char
  step_read c q (Some (Truth n)) es g = gives_val c _ g truth
  step_read c q (Some Nil) es g = gives_val c _ g nil
  step_read c q (Some Unspecified) es g = gives_val c _ g unspecified
  step_read c q (Some EndObject) es g = gives_val c _ g end_object
  step_read c q (Some (At n)) es g = gives_val c _ g (at refl)

  step_assign : (c : AnfConfig) (n : ℕ) (v : Value) (es : List Event) → Good c → GoodState (assign_global c n v c.frames es)
  step_assign c n v es g = record { control = inl unspecified; frames = g.frames; store = g.store }

  step_set : (c : AnfConfig) (n : ℕ) (q : Place) (v : Value) (o : Option Value) (es : List Event) → Good c → GoodState (set_held_global c n q v o c.frames es)
  step_set c n q v None es g = g
  step_set c n q v (Some Undefined) es g = g
  step_set c n q v (Some (Fix k)) es g = step_assign c n v es g
  step_set c n q v (Some (Char k)) es g = step_assign c n v es g
  step_set c n q v (Some (Truth k)) es g = step_assign c n v es g
  step_set c n q v (Some Nil) es g = step_assign c n v es g
  step_set c n q v (Some Unspecified) es g = step_assign c n v es g
  step_set c n q v (Some EndObject) es g = step_assign c n v es g
  step_set c n q v (Some (At k)) es g = step_assign c n v es g

  step_take : (c : AnfConfig) (b : Bool) (bs : List ℕ) (es : List Event) → Good c → GoodState (take_input c b bs c.frames es)
  step_take c true bs es g = record { control = inl end_object; frames = g.frames; store = g.store }
  step_take c false [] es g = record { control = inl end_object; frames = g.frames; store = g.store }
  step_take c false (b ∷ bs) es g = record { control = inl char; frames = g.frames; store = g.store }

  step_peek : (c : AnfConfig) (b : Bool) (bs : List ℕ) (es : List Event) → Good c → GoodState (peek_input c b bs c.frames es)
  step_peek c true bs es g = record { control = inl end_object; frames = g.frames; store = g.store }
  step_peek c false [] es g = record { control = inl end_object; frames = g.frames; store = g.store }
  step_peek c false (b ∷ bs) es g = record { control = inl char; frames = g.frames; store = g.store }

  step_perform : (c : AnfConfig) (q : Place) (e : Effect) (es : List Event) → Good c → AlikeEffects Same ⊥ e e → GoodState (perform c q e c.frames es)
  step_perform c q (Gives v) es g (gives r) = gives_val c v g r
  step_perform c q (Makes o) es g (makes r) = goes_with c _ c.frames _ (inl (at refl)) g.frames (store_more p rules c.store (Obj o ∷ []) g.store (r, tt))
  step_perform c q (Changes l o) es g (changes e r) = goes_with c _ c.frames _ (inl unspecified) g.frames (store_set p rules c.store l (Obj o) g.store r)
  step_perform c q (Puts n) es g h = goes c (Val Unspecified) c.frames g (inl unspecified) g.frames
  step_perform c q Takes es g h = step_take c c.met_end c.input es g
  step_perform c q Peeks es g h = step_peek c c.met_end c.input es g
  step_perform c q (Fails cause) es g h = g
  step_perform c q Misused es g h = g

  step_held : (c : AnfConfig) (q : Place) (o : Option Item) (es : List Event) → Good c → GoodState (get_held c q o c.frames es)
  step_held c q None es g = g
  step_held c q (Some (Obj o)) es g = g
  step_held c q (Some (Clo m r)) es g = g
  step_held c q (Some (Cell Undefined)) es g = g
  step_held c q (Some (Cell (Fix n))) es g = gives_val c _ g fix
  step_held c q (Some (Cell (Char n))) es g = gives_val c _ g char
  step_held c q (Some (Cell (Truth n))) es g = gives_val c _ g truth
  step_held c q (Some (Cell Nil)) es g = gives_val c _ g nil
  step_held c q (Some (Cell Unspecified)) es g = gives_val c _ g unspecified
  step_held c q (Some (Cell EndObject)) es g = gives_val c _ g end_object
  step_held c q (Some (Cell (At n))) es g = gives_val c _ g (at refl)

  step_cell : (c : AnfConfig) (q : Place) (v : Value) (es : List Event) → Good c → GoodState (get_cell c q v c.frames es)
  step_cell c q (At l) es g = step_held c q (slice_get c.store l) es g
  step_cell c q (Fix n) es g = g
  step_cell c q (Char n) es g = g
  step_cell c q (Truth n) es g = g
  step_cell c q Nil es g = g
  step_cell c q Unspecified es g = g
  step_cell c q Undefined es g = g
  step_cell c q EndObject es g = g

  step_put : (c : AnfConfig) (l : ℕ) (o : Option Item) (v : Value) (es : List Event) → Good c → GoodState (set_held c l o v c.frames es)
  step_put c l None v es g = g
  step_put c l (Some (Obj o)) v es g = g
  step_put c l (Some (Clo m r)) v es g = g
  step_put c l (Some (Cell u)) v es g = goes_with c _ c.frames _ (inl unspecified) g.frames (store_set p rules c.store l (Cell v) g.store tt)

  step_cell_set : (c : AnfConfig) (u v : Value) (es : List Event) → Good c → GoodState (set_cell c u v c.frames es)
  step_cell_set c (At l) v es g = step_put c l (slice_get c.store l) v es g
  step_cell_set c (Fix n) v es g = g
  step_cell_set c (Char n) v es g = g
  step_cell_set c (Truth n) v es g = g
  step_cell_set c Nil v es g = g
  step_cell_set c Unspecified v es g = g
  step_cell_set c Undefined v es g = g
  step_cell_set c EndObject v es g = g

  step_sets : (c : AnfConfig) (vs : List Value) (es : List Event) → Good c → GoodState (run_cell_set c es vs)
  step_sets c [] es g = g
  step_sets c (u ∷ []) es g = g
  step_sets c (u ∷ v ∷ []) es g = step_cell_set c u v es g
  step_sets c (u ∷ v ∷ w ∷ vs) es g = g

  step_enter_at : (c : AnfConfig) (q : Place) (l : ℕ) (o : Option Item) (vs : List Value) (es : List Event) → Good c → FineList vs → GoodState (enter_at c q l o vs c.frames es)
  step_enter_at c q l None vs es g f = g
  step_enter_at c q l (Some (Obj o)) vs es g f = g
  step_enter_at c q l (Some (Cell v)) vs es g f = g
  step_enter_at c q l (Some (Clo m r)) vs es g f = goes c (Entering (Closure l) vs) (mark_top c.frames) g f (marked_frames c.frames g.frames)

  step_enter : (c : AnfConfig) (q : Place) (v : Value) (vs : List Value) (es : List Event) → Good c → FineList vs → GoodState (enter c q v vs c.frames es)
  step_enter c q (At l) vs es g f = step_enter_at c q l (slice_get c.store l) vs es g f
  step_enter c q (Fix n) vs es g f = g
  step_enter c q (Char n) vs es g f = g
  step_enter c q (Truth n) vs es g f = g
  step_enter c q Nil vs es g f = g
  step_enter c q Unspecified vs es g f = g
  step_enter c q Undefined vs es g f = g
  step_enter c q EndObject vs es g f = g

  step_call : (c : AnfConfig) (q : Place) (vs : List Value) (es : List Event) → Good c → FineList vs → GoodState (run_call c q es vs)
  step_call c q [] es g f = g
  step_call c q (v ∷ vs) es g (further r f) = step_enter c q v vs es g f

  step_apply_to : (c : AnfConfig) (q : Place) (l m : ℕ) (w : Walked) (es : List Event) → Good c → AlikeWalks Same ⊥ w w → GoodState (apply_to c q l m w c.frames es)
  step_apply_to c q l m (Elements vs) es g (elements f) = goes c (Entering (Closure l) vs) (mark_top c.frames) g f (marked_frames c.frames g.frames)
  step_apply_to c q l m TooLong es g h = g
  step_apply_to c q l m NoList es g h = g

  step_apply_at : (c : AnfConfig) (q : Place) (l : ℕ) (o : Option Item) (v : Value) (es : List Event) → Good c → Fine v → GoodState (apply_at c q l o v c.frames es)
  step_apply_at c q l None v es g f = g
  step_apply_at c q l (Some (Obj o)) v es g f = g
  step_apply_at c q l (Some (Cell u)) v es g f = g
  step_apply_at c q l (Some (Clo m r)) v es g f =
      step_apply_to c q l m (walked (contents c.store) 12 v) es g (same-walk Same ⊥ (contents c.store) (contents c.store) (partnered p rules c.store g.store) 12 f)

  step_apply : (c : AnfConfig) (q : Place) (u v : Value) (es : List Event) → Good c → Fine v → GoodState (apply c q u v c.frames es)
  step_apply c q (At l) v es g f = step_apply_at c q l (slice_get c.store l) v es g f
  step_apply c q (Fix n) v es g f = g
  step_apply c q (Char n) v es g f = g
  step_apply c q (Truth n) v es g f = g
  step_apply c q Nil v es g f = g
  step_apply c q Unspecified v es g f = g
  step_apply c q Undefined v es g f = g
  step_apply c q EndObject v es g f = g

  step_applies : (c : AnfConfig) (q : Place) (vs : List Value) (es : List Event) → Good c → FineList vs → GoodState (run_apply c q es vs)
  step_applies c q [] es g f = g
  step_applies c q (u ∷ []) es g f = g
  step_applies c q (u ∷ v ∷ []) es g (further r (further s h)) = step_apply c q u v es g s
  step_applies c q (u ∷ v ∷ w ∷ vs) es g f = g

  abbrev captures : ℕ → List ℕ
  captures l = captured_by (proc_of p.procs l)

  -- an operation that is not the mark
  plain_op : (fs : AnfFrames) (op : Op) (r : Env) → OpFine fs op r → (op ≡ mark → ⊥) → NoMark (atoms op)
  plain_op fs op r o h = ⊎_elim (λ n. n) (λ t. absurd (h t.0)) o.marks

  op_atoms : (fs : AnfFrames) (op : Op) (r : Env) (vs : List Value) → OpFine fs op r → (op ≡ mark → ⊥) → celled op ≡ [] → atom_values r (atoms op) ≡ Some vs → FineList vs
  op_atoms fs op r vs o h e q = atoms_fine p rules op r (atoms op) vs o.among e o.env (plain_op fs op r o h) (λ y i. i) q

  step_op : (c : AnfConfig) (op : Op) (r : Env) (es : List Event) → Good c → OpFine c.frames op r → GoodState (run_op captures c op r es)
  step_op c (Atom a) r es g o = atom_value_good (atom_value r a) refl
    where
      atom_value_good : (v : Option Value) → atom_value r a ≡ v → GoodState (give_value c v es)
      atom_value_good None e = g
      atom_value_good (Some v) e = goes c (Val v) c.frames g
          (⊎_elim (λ n. inl (atom_fine p rules (Atom a) r a v o.among refl o.env n.0 (λ y i. in-left (free_of_atom a) [] y i) e)) (λ t. inr t.1) o.marks) g.frames
  step_op c (Global n q) r es g o = step_read c q (slice_get c.globals n) es g
  step_op c (SetGlobal n a q) r es g o = valued c (atom_value r a) es (λ v. set_global c n q v c.frames es) g (λ v e. step_set c n q v (slice_get c.globals n) es g)
  step_op c (DefGlobal n a) r es g o = valued c (atom_value r a) es (λ v. assign_global c n v c.frames es) g (λ v e. step_assign c n v es g)
  step_op c (PrimUse s ds q) r es g o = all_valued c (atom_values r ds) es (λ vs. use_primitive c q s vs c.frames es) g
      (λ vs e. step_perform c q (effect_of (contents c.store) s vs) es g
      (same-effect Same ⊥ (contents c.store) (contents c.store) (partnered p rules c.store g.store) s (op_atoms c.frames (PrimUse s ds q) r vs o (λ e. cc) refl e)))
  step_op c (NewCell a) r es g o = valued c (atom_value r a) es (λ v. new_cell c v c.frames es) g
      (λ v e. goes_with c (Val (At (length c.store))) c.frames _ (inl (at refl)) g.frames (store_more p rules c.store (Cell v ∷ []) g.store (tt, tt)))
  step_op c (CellGet a q) r es g o = valued c (atom_value r a) es (λ v. get_cell c q v c.frames es) g (λ v e. step_cell c q v es g)
  step_op c (CellSet a b) r es g o = all_valued c (atom_values r (a ∷ b ∷ [])) es (run_cell_set c es) g (λ vs e. step_sets c vs es g)
  step_op c (Close l) r es g o = goes_with c (Val (At (length c.store))) c.frames _ (inl (at refl)) g.frames
      (store_more p rules c.store (Clo l (gather (captures l) r) ∷ []) g.store (fine_gather p rules (captures l) r o.env, tt))
  step_op c (Call f ds q) r es g o = all_valued c (atom_values r (f ∷ ds)) es (run_call c q es) g (λ vs e. step_call c q vs es g (op_atoms c.frames (Call f ds q) r vs o (λ e. cc) refl e))
  step_op c (Direct l ds) r es g o = all_valued c (atom_values r ds) es (λ vs. enter_lifted c l vs c.frames es) g
      (λ vs e. goes c (Entering (Lifted l) vs) (mark_top c.frames) g (op_atoms c.frames (Direct l ds) r vs o (λ e. cc) refl e) (marked_frames c.frames g.frames))
  step_op c (Apply f l q) r es g o = all_valued c (atom_values r (f ∷ l ∷ [])) es (run_apply c q es) g (λ vs e. step_applies c q vs es g (op_atoms c.frames (Apply f l q) r vs o (λ e. cc) refl e))
  step_op c (Branch a b d) r es g o = valued c (atom_value r a) es (λ v. cond (is_false v) (evaluate_cut captures c (InBlock d) r c.frames es) (evaluate_cut captures c (InBlock b) r c.frames es)) g
      (λ v e. chosen (is_false v))
    where
      chosen : (t : Bool) → GoodState (cond t (evaluate_cut captures c (InBlock d) r c.frames es) (evaluate_cut captures c (InBlock b) r c.frames es))
      chosen true = goes c (Eval (InBlock d) (cut (InBlock d) r)) c.frames g (o.arms d (in-right (blocks b) (blocks d) d (self_block d)), fine_gather p rules _ r o.env) g.frames
      chosen false = goes c (Eval (InBlock b) (cut (InBlock b) r)) c.frames g (o.arms b (in-left (blocks b) (blocks d) b (self_block b)), fine_gather p rules _ r o.env) g.frames

  -- a value is given
  form_within : (qs : List ProcTree) (k : ℕ) (b : Block) → form_of (slice_get qs k) ≡ Some (InBlock b) → IsIn b (blocks_of qs)
  form_within [] k b e = cc
  form_within (q ∷ qs) zero b e = in-left (blocks q.body) (blocks_of qs) b (form_block q q.lambda refl e)
    where
      form_block : (q : ProcTree) (o : Option ℕ) → q.lambda ≡ o → form_of (Some q) ≡ Some (InBlock b) → IsIn b (blocks q.body)
      form_block q None f e = let s : q.body ≡ b = cc (f, e) in subst (λ b. IsIn b (blocks q.body)) s (self_block q.body)
      form_block q (Some l) f e = cc (f, e)
  form_within (q ∷ qs) (suc k) b e = in-right (blocks q.body) (blocks_of qs) b (form_within qs k b e)

  no_op_form : (o : Option ProcTree) (op : Op) → form_of o ≡ Some (InOp op) → ⊥
  no_op_form None op e = cc
  no_op_form (Some q) op e = by q q.lambda refl e
    where
      by : (q : ProcTree) (o : Option ℕ) → q.lambda ≡ o → form_of (Some q) ≡ Some (InOp op) → ⊥
      by q None f e = cc (f, e)
      by q (Some l) f e = cc (f, e)

  step_top : (c : AnfConfig) (k : ℕ) (o : Option Code) (fs : AnfFrames) (es : List Event) → form_of (slice_get p.procs k) ≡ o → Good c → FramesFine fs → GoodState (top x c k o fs es)
  step_top c k None fs es e g f = g
  step_top c k (Some (InBlock b)) fs es e g f = goes c (Eval (InBlock b) (cut (InBlock b) Empty)) _ g (form_within p.procs k b e, fine_gather p rules (x.free (InBlock b)) Empty (fine_empty p rules)) (tt, f)
  step_top c k (Some (InOp op)) fs es e g f = absurd (no_op_form (slice_get p.procs k) op e)

  step_give : (c : AnfConfig) (v : Value) (w : Work AnfWork) (fs : AnfFrames) (es : List Event) → Good c → Fine v ⊎ TakesWork w → WorkFine w → FramesFine fs → GoodState (give_work x c v w fs es)
  step_give c v (Top k) fs es g h w f = step_top c k (form_of (slice_get p.procs k)) fs es refl g f
  step_give c v (Own (Binding y b r)) fs es g h w f =
      goes c (Eval (InBlock b) (cut (InBlock b) (Env.Bind y v r))) fs g
      (w.0, fine_gather p rules (x.free (InBlock b)) (Env.Bind y v r) (fine_bind p rules y v r w.1 (λ e. ⊎_elim (λ k. absurd (not_mark v k e)) (λ m. m) h))) f

  step_val : (c : AnfConfig) (v : Value) (fs : AnfFrames) (es : List Event) → Good c → Fine v ⊎ TakesMark fs → FramesFine fs → GoodState (give_top x c v fs es)
  step_val c v [] es g h f = g
  step_val c v (f0 ∷ fs) es g h f = marked_or f0.marked
    where
      marked_or : (t : Bool) → GoodState (cond t (go c (Val v) (record f0 { marked = false } ∷ fs) (emit es Event.Back)) (give_work x c v f0.work fs es))
      marked_or true = goes c (Val v) (record f0 { marked = false } ∷ fs) g h f
      marked_or false = step_give c v f0.work fs es g h f.0 f.1

  -- a procedure is entered
  body_within : (m : ℕ) (q : ProcTree) → proc_of p.procs m ≡ Some q → IsIn q.body B
  body_within m q e = let t = proc-found p p.procs m q e in in-blocks-of p.procs q q.body t.0 (self_block q.body)

  bound_body : (c : AnfConfig) (q : ProcTree) (y : Option ℕ) (vs : List Value) (r : Env) (es : List Event) → Good c → IsIn q.body B → FineList vs → EnvFine p rules r → (pr : Procedure Code) → pr.body ≡ InBlock q.body →
      GoodState (bind_parameters x c pr y vs r es)
  bound_body c q None vs r es g i f h pr e =
      goes c _ c.frames g (subst (λ k. ControlFine c.frames (Eval k (cut k (bind_all pr.formals vs r)))) (sym e) (i, fine_gather p rules (x.free (InBlock q.body)) (bind_all pr.formals vs r) (fine_bind_all p rules pr.formals vs r f h))) g.frames
  bound_body c q (Some y) vs r es g i f h pr e =
      let k = length pr.formals in
      let ws = take k vs ++ list_value (drop k vs) (length c.store) ∷ [] in
      let fw : FineList ws = fine_append (take k vs) _ (fine_take k vs f) (further (fine_list_value (drop k vs) (length c.store)) nothing) in
      goes_with c _ c.frames _
      (subst (λ b. ControlFine c.frames (Eval b (cut b (bind_all (pr.formals ++ y ∷ []) ws r)))) (sym e) (i, fine_gather p rules (x.free (InBlock q.body)) (bind_all (pr.formals ++ y ∷ []) ws r) (fine_bind_all p rules (pr.formals ++ y ∷ []) ws r fw h)))
      g.frames (store_more p rules c.store _ g.store (store_list p rules (drop k vs) (length c.store) (fine_drop k vs f)))

  step_body : (c : AnfConfig) (m : ℕ) (o : Option ProcTree) (vs : List Value) (r : Env) (es : List Event) → proc_of p.procs m ≡ o → Good c → FineList vs → EnvFine p rules r → GoodState (enter_body x c (procedure_of o) vs r es)
  step_body c m None vs r es e g f h = g
  step_body c m (Some q) vs r es e g f h = fitting (takes (length (own_formals q.rest q.params)) (own_rest q.rest q.params) (length vs))
    where
      fitting : (t : Bool) → GoodState (cond t (bind_parameters x c (made_of q) (made_of q).rest vs r es) (fail c Cause.WrongArgs q.place es))
      fitting true = bound_body c q (made_of q).rest vs r es g (body_within m q e) f h (made_of q) refl
      fitting false = g

  step_item : (c : AnfConfig) (l : ℕ) (o : Option Item) (vs : List Value) (es : List Event) → slice_get c.store l ≡ o → Good c → FineList vs → GoodState (enter_item x c o vs es)
  step_item c l None vs es e g f = g
  step_item c l (Some (Cell v)) vs es e g f = g
  step_item c l (Some (Obj o)) vs es e g f = g
  step_item c l (Some (Clo m r)) vs es e g f = step_body c m (proc_of p.procs m) vs r es refl g f (fine_at p rules c.store l (Clo m r) g.store e)

  step_lifted_body : (c : AnfConfig) (m : ℕ) (o : Option ProcTree) (vs : List Value) (es : List Event) → proc_of p.procs m ≡ o → Good c → FineList vs → GoodState (enter_lifted_body x c (procedure_of o) vs es)
  step_lifted_body c m None vs es e g f = g
  step_lifted_body c m (Some q) vs es e g f = fitting (length (own_formals q.rest q.params ++ []) == length vs)
    where
      fitting : (t : Bool) → GoodState (cond t (go c (eval x (InBlock q.body) (bind_all (own_formals q.rest q.params ++ []) vs Empty)) c.frames es) (fail c Cause.WrongArgs q.place es))
      fitting true = goes c (Eval (InBlock q.body) (cut (InBlock q.body) (bind_all (own_formals q.rest q.params ++ []) vs Empty))) c.frames g (body_within m q e, fine_gather p rules (x.free (InBlock q.body)) (bind_all (own_formals q.rest q.params ++ []) vs Empty) (fine_bind_all p rules (own_formals q.rest q.params ++ []) vs Empty f (fine_empty p rules))) g.frames
      fitting false = g

  step_control_good : (c : AnfConfig) (k : Control Code) (es : List Event) → Good c → ControlFine c.frames k → GoodState (step_control x c k es)
  step_control_good c (Eval (InBlock b) r) es g h = step_block c b r es g h.0 h.1
  step_control_good c (Eval (InOp op) r) es g h = step_op c op r es g h
  step_control_good c (Bound (InBlock b) r) es g h = goes c (Eval (InBlock b) (cut (InBlock b) r)) c.frames g (h.0, fine_gather p rules (x.free (InBlock b)) r h.1) g.frames
  step_control_good c (Bound (InOp op) r) es g h = absurd h
  step_control_good c (Val v) es g h = step_val c v c.frames es g h g.frames
  step_control_good c (Entering (Closure l) vs) es g h = step_item c l (slice_get c.store l) vs es refl g h
  step_control_good c (Entering (Lifted m) vs) es g h = step_lifted_body c m (proc_of p.procs m) vs es refl g h

  step_good : (s : AnfState) → GoodState s → GoodState (step x s)
  step_good (Running c es) g = step_control_good c c.control es g g.control
  step_good (Stopped c es) g = g
  step_good (Lost c es) g = g

  runs_good : (n : ℕ) (s : AnfState) → GoodState s → GoodState (run (step x) n s)
  runs_good zero s g = g
  runs_good (suc n) s g = runs_good n (step x s) (step_good s g)

  -- no operand of a primitive is the mark
  clean_control : (fs : AnfFrames) (k : Control Code) → ControlFine fs k → Unmarked k
  clean_control fs k h = record {
    unmarked = λ b r s ds q e f d v i u m.
        let g : IsIn b B × EnvFine p rules r = subst (ControlFine fs) e h in
        let op = PrimUse s ds q in
        let among : IsIn op (operations p) = in-each operation B b op g.0 (subst (IsIn op) (sym f) (inl refl)) in
        let nm = plain_at b (keeps_block b g.0) op f (λ e. cc) in
        not_mark v (atom_fine p rules op r d v among refl g.1 (every-at (λ a. is_mark a ≡ false) ds d nm i) (λ y j. among_atoms ds d y i j) u) m;
  }
    where
      plain_at : (b : Block) → BlockKeeps p b → (op : Op) → operation b ≡ op ∷ [] → (op ≡ mark → ⊥) → NoMark (atoms op)
      plain_at (Bind y o b) k op e ne =
          let q : o ≡ op = cc (e) in
          subst (λ op. NoMark (atoms op)) q (⊎_elim (λ n. n) (λ m. absurd (ne (sym q ∙ m))) (marks_bound y o b k.mark_is_bound))
      plain_at (CloseAll xs ls b) k op e ne = cc
      plain_at (Tail o) k op e ne = let q : o ≡ op = cc (e) in let m = k.mark_is_bound in subst (λ op. NoMark (atoms op)) q m.0

      among_atoms : (ds : List Operand) (d : Operand) (y : ℕ) → IsIn d ds → IsIn y (free_of_atom d) → IsIn y (free_of_atoms ds)
      among_atoms [] d y i j = absurd i
      among_atoms (c ∷ ds) d y (inl e) j = in-left (free_of_atom c) (free_of_atoms ds) y (subst (λ c. IsIn y (free_of_atom c)) (sym e) j)
      among_atoms (c ∷ ds) d y (inr i) j = in-right (free_of_atom c) (free_of_atoms ds) y (among_atoms ds d y i j)

  start_good : (input : List ℕ) → Good (start_of p.globals p.statics input)
  start_good input = record { control = inl unspecified; frames = (tt, tt); store = store_statics p rules 0 p.statics rules.statics }

  pub clean : (input : List ℕ) (n : ℕ) → Unmarked (config_of (after (anf_machine p input) n)).control
  clean input n =
      let s = after (anf_machine p input) n in
      let g = runs_good n (Running (start_of p.globals p.statics input) []) (start_good input) in
      clean_control (config_of s).frames (config_of s).control g.control
