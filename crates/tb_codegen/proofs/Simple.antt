-- Atoms, globals and branches.
use Rattle.std.proofs.Common.{◌≡◌, refl, sym, ◌∙◌, subst, subst₂, ap, ℕ, ◌+◌, ◌-◌, ◌<◌, Bool, true, false, inl, ⊎_elim, arith, List, [], ◌∷◌, ◌++◌, length, Option, Some, slice_get, slice_set, length-set}
use Rattle.tb_prim.specs.declared.event.Cause.{Cause}
use Rattle.tb_prim.specs.declared.event.Event.{Event}
use Rattle.tb_prim.specs.declared.event.Stop.{Stop}
use Rattle.tb_prim.specs.declared.event.Taken.{Taken}
use Rattle.tb_prim.specs.declared.constant.Const.{Const}
use Rattle.tb_prim.specs.declared.place.Place.{Place}
use Rattle.std.proofs.lemmas.Bool.{cases_Bool}
use Rattle.tb_semantics.specs.Graph.{IsIn}
use Rattle.tb_semantics.specs.Runs.{run}
use Rattle.tb_semantics.proofs.ListLemmas.{get-some, in-left, in-right}
use Rattle.tb_core.specs.Store.{Value, Unspecified, Undefined, value_of}
use Rattle.tb_core.specs.Effects.{is_false}
use Rattle.tb_ir.specs.AnfTree.{Operand, Quote, Var, Block, Atom, Global, SetGlobal, DefGlobal, Branch, AnfTree}
use Rattle.tb_ir.specs.AnfMachine.{AnfConfig, AnfFrames, InBlock, InOp, atom_value, free_of_atom, free_op}
use Rattle.tb_ir.specs.Machine.{Env, Empty, Eval, Item, Val, assign_global, gather, go, read_value, set_held_global}
use Rattle.tb_mac.specs.declared.code.Instr.{Instr}
use Rattle.tb_mac.specs.declared.code.Instr.TheVariants as I
use Rattle.tb_mac.specs.declared.word.Word.{Word}
use Rattle.tb_mac.specs.declared.word.Word.TheVariants as W
use Rattle.tb_mac.specs.Assembled.{Assembled}
use Rattle.tb_mac.specs.Frames.{Frame as MacFrame}
use Rattle.tb_mac.specs.MacStep.{place_of}
use Rattle.tb_mac.specs.Words.{is_false as is_false_word, is_undefined}
use Rattle.tb_codegen.specs.Notes.{Entry, Stands, Reg, Slot, Variable, Own, Here, Note, Inside, AtBlock, AtValue, AtUnspecified, Waiting, symbol_of}
use Rattle.tb_codegen.specs.Generate.{captured_in, settled}
use Rattle.tb_codegen.proofs.Changes.{Args, no_args, an_arg, From, Into, IsFirst, OpAt, Under}
use Rattle.tb_codegen.proofs.Envs.{get-set-other, gather-sub, lookup-gather}
use Rattle.tb_codegen.proofs.Holding.{holds-from, under}
use Rattle.tb_codegen.proofs.Landing.{lands_block}
use Rattle.tb_codegen.proofs.Memories.{p_get, p_set, plain_word}
use Rattle.tb_codegen.proofs.Moves.{done, Written}
use Rattle.tb_codegen.proofs.Ok.{HasNote, Settles, free}
use Rattle.tb_codegen.proofs.Operands.{atom_there, fails_op, lands_op, lands_written, op_starts, value-gather}
use Rattle.tb_codegen.proofs.Rel.{Closed, FsRel, o_here, globals_words, Holds, JRel, Memory, Open, OwnRel, PRel, IsCut, WRel, w_fix, w_char, w_false, w_true, w_nil, w_unspecified, w_undefined, w_end, w_at, World, config, step_of}
use Rattle.tb_codegen.proofs.Sim.{Sim, Still, source}
use Rattle.tb_codegen.proofs.Stored.{stores_global}

-- a word is false, or undefined, as its value is
pub same_test : (w : World) (u : Word) (v : Value) → WRel w u v → is_false_word u ≡ is_false v
same_test w u v (w_fix n) = refl
same_test w u v (w_char n) = refl
same_test w u v w_false = refl
same_test w u v w_true = refl
same_test w u v w_nil = refl
same_test w u v w_unspecified = refl
same_test w u v w_undefined = refl
same_test w u v w_end = refl
same_test w u v (w_at i) = refl

-- a word of a value that is there, or of the mark of none
pub data Defined : Word → Value → Type 0 where
  is_mark : Defined (W.Special 4) Undefined
  is_value : {u : Word} {v : Value} → is_undefined u ≡ false → (v ≡ Undefined → ⊥) → Defined u v

pub defined : (w : World) (u : Word) (v : Value) → WRel w u v → Defined u v
defined w u v (w_fix n) = is_value refl (λ e. cc)
defined w u v (w_char n) = is_value refl (λ e. cc)
defined w u v w_false = is_value refl (λ e. cc)
defined w u v w_true = is_value refl (λ e. cc)
defined w u v w_nil = is_value refl (λ e. cc)
defined w u v w_unspecified = is_value refl (λ e. cc)
defined w u v w_undefined = is_mark
defined w u v w_end = is_value refl (λ e. cc)
defined w u v (w_at i) = is_value refl (λ e. cc)

-- a value that is no mark is read
read_some : (c : AnfConfig) (q : Place) (v : Value) (es : List Event) → (v ≡ Undefined → ⊥) → read_value c q (Some v) es ≡ go c (Val v) c.frames es
read_some c q (Value.Fix n) es ne = refl
read_some c q (Value.Char n) es ne = refl
read_some c q (Value.Truth b) es ne = refl
read_some c q Value.Nil es ne = refl
read_some c q Unspecified es ne = refl
read_some c q Undefined es ne = absurd (ne refl)
read_some c q Value.EndObject es ne = refl
read_some c q (Value.At l) es ne = refl

set_some : (c : AnfConfig) (g : ℕ) (q : Place) (v w : Value) (es : List Event) → (w ≡ Undefined → ⊥) →
    set_held_global c g q v (Some w) c.frames es ≡ assign_global c g v c.frames es
set_some c g q v (Value.Fix n) es ne = refl
set_some c g q v (Value.Char n) es ne = refl
set_some c g q v (Value.Truth b) es ne = refl
set_some c g q v Value.Nil es ne = refl
set_some c g q v Unspecified es ne = refl
set_some c g q v Undefined es ne = absurd (ne refl)
set_some c g q v Value.EndObject es ne = refl
set_some c g q v (Value.At l) es ne = refl

module _ (p : AnfTree) (notes : List Note) (limit : ℕ) where
  -- a global is written
  pub mem_global : (w : World) (o : Open) (heap : List Word) (st : List Item) (globals : List Value) (ahead : Option Taken) (input cin : List ℕ) (met : Bool)
      (g : ℕ) (u : Word) (v : Value) → Memory p notes w o heap st globals ahead input cin met → g < length globals → WRel w u v →
      Memory p notes w o (slice_set heap g u) st (slice_set globals g v) ahead input cin met
  mem_global w o heap st globals ahead input cin met g u v mem lt uv =
      let x = get-some globals g lt in
      let t = p_get w heap 0 (length globals) globals g x.0 mem.held lt x.1 in
      let z : 0 + g ≡ g = omega arith in
      let q = length-set globals g v in
      let n = mem.count in
      record {
        stores = stores_global p notes w o (globals_words p notes) heap st g t.0 u mem.stores (subst (λ n. slice_get heap n ≡ Some t.0) z t.1) (plain_word w t.0 x.0 t.2) (plain_word w u v uv) (omega arith);
        held = subst₂ (λ m n. PRel w (slice_set heap m u) 0 n (slice_set globals g v)) z (sym q) (p_set w heap 0 (length globals) globals g u v lt (omega arith) uv mem.held);
        count = q ∙ n;
        inputs = mem.inputs;
        padded = λ k a b. get-set-other heap g k _ u (λ q. absurd (omega arith)) (mem.padded k a b);
        statics = mem.statics;
      }

  -- the word of a global
  pub global_word : (w : World) (o : Open) (heap : List Word) (st : List Item) (globals : List Value) (ahead : Option Taken) (input cin : List ℕ) (met : Bool)
      (g : ℕ) → Memory p notes w o heap st globals ahead input cin met → g < length p.globals →
      (v : Value) × (slice_get globals g ≡ Some v) × (u : Word) × (slice_get heap g ≡ Some u) × WRel w u v
  global_word w o heap st globals ahead input cin met g mem lt =
      let few : g < length globals = subst (λ n. g < n) (sym mem.count) lt in
      let x = get-some globals g few in
      let t = p_get w heap 0 (length globals) globals g x.0 mem.held few x.1 in
      let z : 0 + g ≡ g = omega arith in
      (x.0, x.1, t.0, subst (λ n. slice_get heap n ≡ Some t.0) z t.1, t.2)

  module _ (c : Assembled) where
    -- a constant is the value
    pub step_quote : (x : Still) {w : World} {b : Block} {js gs : Waiting} {o : Option (List ℕ)} {own : Own} {d : ℕ} {old new : List Entry}
        {rs : List Env} {fr fs : AnfFrames} {slots : List Word} {top ms : List MacFrame} (r : Env) (k : Const) (i : Instr) →
        OpAt (captured_in p) (Atom (Quote k)) b js gs o → Written p notes limit c w x top d i k → d < 17 → Into (Reg d) IsFirst (Under o []) new old →
        HasNote p notes (x.pc + 1) (Inside (AtValue gs) own new) → JRel js rs fr fs → Holds p x.st w (r ∷ rs) x.regs slots old → OwnRel own slots top ms →
        FsRel p notes w fs ms → length x.regs ≡ 17 → Memory p notes w Closed x.heap x.st x.globals x.ahead x.input x.cin x.met →
        Sim p notes limit (done p notes limit c x top i) (limit - x.pc) (source p notes limit x (Eval (InBlock b) r) fr)
    step_quote x {w = w} r k i at wr lt into n j h o f len mem =
        rw (wr.writes) (lands_op p notes limit x x w r wr.word (value_of k) _ at lt into (λ k i. i) n j h o f len wr.rel (λ hs. refl) mem)

    -- a variable in a slot is the value
    pub step_read : (x : Still) (s : ℕ) {w : World} {b : Block} {js gs : Waiting} {o : Option (List ℕ)} {size d y : ℕ} {old new : List Entry}
        {rs : List Env} {fr fs : AnfFrames} {slots : List Word} {top ms : List MacFrame} (r : Env) →
        OpAt (captured_in p) (Atom (Var y)) b js gs o → d < 17 → IsIn (Stands (Slot s) (Variable 0 y)) old → Into (Reg d) IsFirst (Under o []) new old →
        HasNote p notes (x.pc + 1) (Inside (AtValue gs) (Here size) new) → JRel js rs fr fs → Holds p x.st w (r ∷ rs) x.regs slots old → OwnRel (Here size) slots top ms →
        FsRel p notes w fs ms → length x.regs ≡ 17 → Memory p notes w Closed x.heap x.st x.globals x.ahead x.input x.cin x.met →
        Sim p notes limit (done p notes limit c x top (I.Load d s)) (limit - x.pc) (source p notes limit x (Eval (InBlock b) r) fr)
    step_read x s {w = w} {y = y} {old = old} {rs = rs} {slots = slots} r at lt i into n j h (o_here e) f len mem =
        let k = h.holds (Slot s) (Variable 0 y) i in
        let v = atom_there p x.st w r rs x.regs slots old (Slot s) (Var y) k in
        let g = lookup-gather (y ∷ []) r y (inl refl) in
        rw (k.here) (lands_op p notes limit x x w r k.word k.value _ at lt into (λ k i. i) n j h (o_here e) f len k.rel (λ hs. rw (g, v) refl) mem)

    -- a global is read
    global_read : (x : Still) {w : World} {b : Block} {js gs : Waiting} {o : Option (List ℕ)} {own : Own} {d g : ℕ} {q : Place} {old new : List Entry}
        {rs : List Env} {fr fs : AnfFrames} {slots : List Word} {top ms : List MacFrame} (r : Env) (u : Word) (v : Value) →
        Defined u v → slice_get x.globals g ≡ Some v → slice_get x.heap g ≡ Some u → WRel w u v →
        OpAt (captured_in p) (Global g q) b js gs o → place_of c.places x.pc ≡ Some q → d < 17 → Into (Reg d) IsFirst (Under o []) new old →
        HasNote p notes x.pc (Inside (AtBlock b js) own old) → IsCut p notes (free p b) r →
        HasNote p notes (x.pc + 1) (Inside (AtValue gs) own new) → JRel js rs fr fs → Holds p x.st w (r ∷ rs) x.regs slots old → OwnRel own slots top ms →
        FsRel p notes w fs ms → length x.regs ≡ 17 → Memory p notes w Closed x.heap x.st x.globals x.ahead x.input x.cin x.met →
        Sim p notes limit (done p notes limit c x top (I.GlobalGet d g)) (limit - x.pc) (source p notes limit x (Eval (InBlock b) r) fr)
    global_read x {w = w} {q = q} r u v is_mark e f uv at place lt into here cut n j h o2 fr len mem =
        rw (f, place) (fails_op p notes limit x r (Stop.Fail Cause.Undefined q) (x.es ++ Event.Fail Cause.Undefined q ∷ []) _ at here cut j h o2 fr len (λ hs. rw e refl) mem)
    global_read x {w = w} {g = g} {q = q} r u v (is_value t ne) e f uv at place lt into here cut n j h o2 fr len mem =
        rw (f, t) (lands_op p notes limit x x w r u v _ at lt into (λ k i. i) n j h o2 fr len uv (λ hs. rw e (read_some (config p notes (Eval (InOp (Global g q)) Empty) hs x.globals x.st x.cin x.met) q v x.es ne)) mem)

    pub step_global : (x : Still) {w : World} {b : Block} {js gs : Waiting} {o : Option (List ℕ)} {own : Own} {d g : ℕ} {q : Place} {old new : List Entry}
        {rs : List Env} {fr fs : AnfFrames} {slots : List Word} {top ms : List MacFrame} (r : Env) →
        OpAt (captured_in p) (Global g q) b js gs o → g < length p.globals → place_of c.places x.pc ≡ Some q → d < 17 → Into (Reg d) IsFirst (Under o []) new old →
        HasNote p notes x.pc (Inside (AtBlock b js) own old) → IsCut p notes (free p b) r →
        HasNote p notes (x.pc + 1) (Inside (AtValue gs) own new) → JRel js rs fr fs → Holds p x.st w (r ∷ rs) x.regs slots old → OwnRel own slots top ms →
        FsRel p notes w fs ms → length x.regs ≡ 17 → Memory p notes w Closed x.heap x.st x.globals x.ahead x.input x.cin x.met →
        Sim p notes limit (done p notes limit c x top (I.GlobalGet d g)) (limit - x.pc) (source p notes limit x (Eval (InBlock b) r) fr)
    step_global x {w = w} {g = g} r at few place lt into here cut n j h o f len mem =
        let t = global_word w Closed x.heap x.st x.globals x.ahead x.input x.cin x.met g mem few in
        global_read x r t.2 t.0 (defined w t.2 t.0 t.4) t.1 t.3 t.4 at place lt into here cut n j h o f len mem

    -- a global is assigned, which fails where it has no value, or defined
    global_set : (x : Still) (a : ℕ) {w : World} {b : Block} {js gs : Waiting} {o : Option (List ℕ)} {own : Own} {g : ℕ} {d : Operand} {q : Place} {old new : List Entry}
        {rs : List Env} {fr fs : AnfFrames} {slots : List Word} {top ms : List MacFrame} (r : Env) (u u2 : Word) (v v2 : Value) →
        Defined u v → slice_get x.globals g ≡ Some v → slice_get x.heap g ≡ Some u → slice_get x.regs a ≡ Some u2 → atom_value r d ≡ Some v2 → WRel w u2 v2 →
        OpAt (captured_in p) (SetGlobal g d q) b js gs o → g < length x.globals → place_of c.places x.pc ≡ Some q → From (Under o []) new old →
        HasNote p notes x.pc (Inside (AtBlock b js) own old) → IsCut p notes (free p b) r →
        HasNote p notes (x.pc + 1) (Inside (AtUnspecified gs) own new) → JRel js rs fr fs → Holds p x.st w (r ∷ rs) x.regs slots old → OwnRel own slots top ms →
        FsRel p notes w fs ms → length x.regs ≡ 17 → Memory p notes w Closed x.heap x.st x.globals x.ahead x.input x.cin x.met →
        Sim p notes limit (done p notes limit c x top (I.GlobalSet a g)) (limit - x.pc) (source p notes limit x (Eval (InBlock b) r) fr)
    global_set x a {w = w} {d = d} {q = q} r u u2 v v2 is_mark e f hu hv uv at few place from here cut n j h o2 fr len mem =
        let k = value-gather (free_of_atom d) r d (λ y i. i) ∙ hv in
        rw (f, place) (fails_op p notes limit x r (Stop.Fail Cause.Undefined q) (x.es ++ Event.Fail Cause.Undefined q ∷ []) _ at here cut j h o2 fr len (λ hs. rw (k, e) refl) mem)
    global_set x a {w = w} {g = g} {d = d} {q = q} r u u2 v v2 (is_value t ne) e f hu hv uv at few place from here cut n j h o2 fr len mem =
        let k = value-gather (free_of_atom d) r d (λ y i. i) ∙ hv in
        rw (f, t, hu) (lands_written p notes limit x (record x { heap = slice_set x.heap g u2; globals = slice_set x.globals g v2 }) r _ at from n j h o2 fr len
        (λ hs. rw (k, e) (set_some (config p notes (Eval (InOp (SetGlobal g d q)) (gather (free_op (captured_in p) (SetGlobal g d q)) r)) hs x.globals x.st x.cin x.met) g q v2 v x.es ne))
        (mem_global w Closed x.heap x.st x.globals x.ahead x.input x.cin x.met g u2 v2 mem few uv))

    pub step_set : (x : Still) {w : World} {b : Block} {js gs : Waiting} {o : Option (List ℕ)} {own : Own} {a g : ℕ} {d : Operand} {q : Place} {old new : List Entry}
        {rs : List Env} {fr fs : AnfFrames} {slots : List Word} {top ms : List MacFrame} (r : Env) →
        OpAt (captured_in p) (SetGlobal g d q) b js gs o → g < length p.globals → place_of c.places x.pc ≡ Some q → Args old (a ∷ []) (d ∷ []) → From (Under o []) new old →
        HasNote p notes x.pc (Inside (AtBlock b js) own old) → IsCut p notes (free p b) r →
        HasNote p notes (x.pc + 1) (Inside (AtUnspecified gs) own new) → JRel js rs fr fs → Holds p x.st w (r ∷ rs) x.regs slots old → OwnRel own slots top ms →
        FsRel p notes w fs ms → length x.regs ≡ 17 → Memory p notes w Closed x.heap x.st x.globals x.ahead x.input x.cin x.met →
        Sim p notes limit (done p notes limit c x top (I.GlobalSet a g)) (limit - x.pc) (source p notes limit x (Eval (InBlock b) r) fr)
    step_set x {w = w} {a = a} {g = g} {d = d} {old = old} {rs = rs} {slots = slots} r at few place (an_arg i no_args) from here cut n j h o f len mem =
        let t = global_word w Closed x.heap x.st x.globals x.ahead x.input x.cin x.met g mem few in
        let k = h.holds (Reg a) (symbol_of d) i in
        global_set x a r t.2 k.word t.0 k.value (defined w t.2 t.0 t.4) t.1 t.3 k.here (atom_there p x.st w r rs x.regs slots old (Reg a) d k) k.rel at
        (subst (λ n. g < n) (sym mem.count) few) place from here cut n j h o f len mem

    pub step_define : (x : Still) {w : World} {b : Block} {js gs : Waiting} {o : Option (List ℕ)} {own : Own} {a g : ℕ} {d : Operand} {old new : List Entry}
        {rs : List Env} {fr fs : AnfFrames} {slots : List Word} {top ms : List MacFrame} (r : Env) →
        OpAt (captured_in p) (DefGlobal g d) b js gs o → g < length p.globals → Args old (a ∷ []) (d ∷ []) → From (Under o []) new old →
        HasNote p notes (x.pc + 1) (Inside (AtUnspecified gs) own new) → JRel js rs fr fs → Holds p x.st w (r ∷ rs) x.regs slots old → OwnRel own slots top ms →
        FsRel p notes w fs ms → length x.regs ≡ 17 → Memory p notes w Closed x.heap x.st x.globals x.ahead x.input x.cin x.met →
        Sim p notes limit (done p notes limit c x top (I.GlobalDef a g)) (limit - x.pc) (source p notes limit x (Eval (InBlock b) r) fr)
    step_define x {w = w} {a = a} {g = g} {d = d} {old = old} {rs = rs} {slots = slots} r at few (an_arg i no_args) from n j h o f len mem =
        let t = global_word w Closed x.heap x.st x.globals x.ahead x.input x.cin x.met g mem few in
        let k = h.holds (Reg a) (symbol_of d) i in
        let v = value-gather (free_of_atom d) r d (λ y i. i) ∙ atom_there p x.st w r rs x.regs slots old (Reg a) d k in
        rw (t.3, k.here) (lands_written p notes limit x (record x { heap = slice_set x.heap g k.word; globals = slice_set x.globals g k.value }) r _ at from n j h o f len
        (λ hs. rw v refl)
        (mem_global w Closed x.heap x.st x.globals x.ahead x.input x.cin x.met g k.word k.value mem (subst (λ n. g < n) (sym mem.count) few) k.rel))

    -- a branch
    pub step_branch : (x : Still) (a l : ℕ) {w : World} {t : Operand} {b d k : Block} {js gs : Waiting} {o : Option (List ℕ)} {own : Own} {old new1 new2 : List Entry}
        {rs : List Env} {fr fs : AnfFrames} {slots : List Word} {top ms : List MacFrame} (r : Env) → Settles b → Settles d →
        OpAt (captured_in p) (Branch t b d) k js gs o → IsIn (Stands (Reg a) (symbol_of t)) old →
        From (Under o (free p (settled b))) new1 old → HasNote p notes l (Inside (AtBlock (settled d) gs) own new2) → From (Under o (free p (settled d))) new2 old →
        HasNote p notes (x.pc + 1) (Inside (AtBlock (settled b) gs) own new1) → JRel js rs fr fs → Holds p x.st w (r ∷ rs) x.regs slots old → OwnRel own slots top ms →
        FsRel p notes w fs ms → length x.regs ≡ 17 → Memory p notes w Closed x.heap x.st x.globals x.ahead x.input x.cin x.met →
        Sim p notes limit (done p notes limit c x top (I.Brf a l)) (limit - x.pc) (source p notes limit x (Eval (InBlock k) r) fr)
    step_branch x a l {w = w} {t = t} {b = b} {d = d} {k = k} {o = o} {old = old} {new1 = new1} {new2 = new2} {rs = rs} {fr = fr} {slots = slots} {top = top} r sb sd at i from1 n2 from2 n1 j h o2 f len mem =
        let h0 = h.holds (Reg a) (symbol_of t) i in
        let F = free_op (captured_in p) (Branch t b d) in
        let v = value-gather F r t (λ y i. in-left (free_of_atom t) _ y i) ∙ atom_there p x.st w r rs x.regs slots old (Reg a) t h0 in
        let st = op_starts p notes limit r at j in
        let inb : gather (free p b) (gather F r) ≡ gather (free p b) r = gather-sub (free p b) F r (λ y i. in-right (free_of_atom t) _ y (in-left (free p b) (free p d) y i)) in
        let ind : gather (free p d) (gather F r) ≡ gather (free p d) r = gather-sub (free p d) F r (λ y i. in-right (free_of_atom t) _ y (in-right (free p b) (free p d) y i)) in
        let first = st.1 x in
        let same = same_test w h0.word h0.value h0.rel in
        ⊎_elim
        (λ (yes : is_false_word h0.word ≡ true).
        let e : run (step_of p notes) 2 (source p notes limit x (Eval (InBlock k) r) fr) ≡ source p notes limit x (Eval (InBlock d) (gather (free p d) r)) st.0 =
        ap (step_of p notes) first ∙ rw (v, sym same ∙ yes, ind) refl in
        rw (h0.here, yes) (lands_block p notes limit (record x { pc = l }) d r _ 2 _ sd e (omega arith) n2 st.2
        (holds-from p x.st x.st w w (λ k i. i) (r ∷ rs) _ x.regs slots _ new2 old h from2 (under p x.st x.st o (free p (settled d)) [] r (gather (free p (settled d)) r) rs (λ y i. lookup-gather (free p (settled d)) r y i)))
        o2 f mem len))
        (λ (no : is_false_word h0.word ≡ false).
        let e : run (step_of p notes) 2 (source p notes limit x (Eval (InBlock k) r) fr) ≡ source p notes limit x (Eval (InBlock b) (gather (free p b) r)) st.0 =
        ap (step_of p notes) first ∙ rw (v, sym same ∙ no, inb) refl in
        rw (h0.here, no) (lands_block p notes limit (record x { pc = x.pc + 1 }) b r _ 2 _ sb e (omega arith) n1 st.2
        (holds-from p x.st x.st w w (λ k i. i) (r ∷ rs) _ x.regs slots _ new1 old h from1 (under p x.st x.st o (free p (settled b)) [] r (gather (free p (settled b)) r) rs (λ y i. lookup-gather (free p (settled b)) r y i)))
        o2 f mem len))
        (cases_Bool (is_false_word h0.word))
