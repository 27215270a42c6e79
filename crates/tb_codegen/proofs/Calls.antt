-- Calls: the frame that waits, what can be reached, and the entry of a procedure.
use Rattle.std.proofs.Common.{◌≡◌, refl, sym, ◌∙◌, subst, ap, ℕ, suc, ◌+◌, ◌≤◌, ◌⊎◌, true, inl, inr, ⊎_elim, arith, List, [], ◌∷◌, ◌++◌, length, Option, Some, None, slice_get, slice_set, length-set}
use Rattle.std.specs.Prelude.{pos}
use Rattle.tb_prim.specs.declared.event.Cause.{Cause}
use Rattle.tb_prim.specs.declared.event.Event.{Event}
use Rattle.tb_prim.specs.declared.event.Stop.{Stop}
use Rattle.tb_prim.specs.declared.constant.Const.{Const}
use Rattle.tb_prim.specs.declared.constant.Const.TheVariants as K
use Rattle.tb_prim.specs.declared.constant.Static.{Static}
use Rattle.tb_prim.specs.declared.place.Place.{Place}
use Rattle.tb_semantics.specs.Graph.{IsIn, root, below}
use Rattle.tb_semantics.proofs.ListLemmas.{in-cases, in-left, in-right}
use Rattle.tb_semantics.proofs.Reachable.{below_in}
use Rattle.tb_core.specs.Store.{Value, At, Object, Pair, Vec, Str, Sym}
use Rattle.tb_core.specs.Space.{value_locations, values_locations}
use Rattle.tb_ir.specs.TreeMachine.{env_values}
use Rattle.tb_ir.specs.AnfTree.{Operand, Quote, Var, Block, Call, Direct, AnfTree, ProcTree}
use Rattle.tb_ir.specs.AnfMachine.{AnfConfig, AnfFrames, AnfWork, InBlock, InOp, atom_value, atom_values, free_of_atom, free_of_atoms, free_op}
use Rattle.tb_ir.specs.Machine.{Closure, Lifted, Env, Empty, Eval, Frame, Item, Cell, Obj, Clo, bind_all, enter, fail, gather, mark_top}
use Rattle.tb_mac.specs.declared.code.Instr.TheVariants as I
use Rattle.tb_mac.specs.declared.word.Word.{Word}
use Rattle.tb_mac.specs.declared.word.Word.TheVariants as W
use Rattle.tb_mac.specs.Assembled.{Assembled}
use Rattle.tb_mac.specs.Effects.{object_at, pair_at, procedure_at, Heap}
use Rattle.tb_mac.specs.Frames.{Frame as MacFrame}
use Rattle.tb_mac.specs.MacStep.{place_of}
use Rattle.tb_mac.specs.Objects.{procedure_kind, procedure_tag}
use Rattle.tb_codegen.specs.Notes.{Entry, Stands, Spot, Reg, Slot, Constant, Own, Note, Inside, AtBlock, AtLifted, Waiting, ToCaller, symbol_of}
use Rattle.tb_codegen.specs.Generate.{captured_in}
use Rattle.tb_codegen.proofs.Changes.{Args, no_args, an_arg, Backs, from_register, frame_then, frame_top, OpAt, StartsLifted}
use Rattle.tb_codegen.proofs.Envs.{get-set, get-set-other}
use Rattle.tb_codegen.proofs.Holding.{pushed, under_name}
use Rattle.tb_codegen.proofs.Moves.{done}
use Rattle.tb_codegen.proofs.Ok.{Calls, from_away, from_ready, HasNote, IsWritten, Lifts, free}
use Rattle.tb_codegen.proofs.Operands.{found_location, Opers, op_none, op_more, fails_op, op_starts, opers, opers_length, opers_values, value-gather}
use Rattle.tb_codegen.proofs.Rel.{AboutTo, AtCall, Closed, FsRel, f_none, f_then, f_top, Holds, Ins, in_none, in_more, JRel, j_caller, j_then, j_top, Lk, Memory, ORel, o_cell, o_pair, o_vector, o_string, o_symbol, o_procedure, OwnRel, o_away, o_ready, IsCut, r_calls, r_lifted, Saved, WRel, w_fix, w_char, w_false, w_true, w_nil, w_unspecified, w_undefined, w_end, w_at, Whole, World, at_top, config, meaning, tag_of, waits}
use Rattle.tb_codegen.proofs.Sim.{Sim, Still, source}

-- a value that is no location, and a word that is no pointer
pub data Kind (w : World) : Word → Value → Type 0 where
  k_data : {u : Word} {v : Value} → ((heap : Heap) (t k : ℕ) → object_at heap t k u ≡ None) → pair_at u ≡ None → ((l : ℕ) → v ≡ At l → ⊥) → Kind w u v
  k_at : {t a l : ℕ} → IsIn (Lk t a l) w → Kind w (W.Pointer t a) (At l)

pub kind_of : (w : World) (u : Word) (v : Value) → WRel w u v → Kind w u v
kind_of w u v (w_fix n) = k_data (λ h t k. refl) refl (λ l e. cc)
kind_of w u v (w_char n) = k_data (λ h t k. refl) refl (λ l e. cc)
kind_of w u v w_false = k_data (λ h t k. refl) refl (λ l e. cc)
kind_of w u v w_true = k_data (λ h t k. refl) refl (λ l e. cc)
kind_of w u v w_nil = k_data (λ h t k. refl) refl (λ l e. cc)
kind_of w u v w_unspecified = k_data (λ h t k. refl) refl (λ l e. cc)
kind_of w u v w_undefined = k_data (λ h t k. refl) refl (λ l e. cc)
kind_of w u v w_end = k_data (λ h t k. refl) refl (λ l e. cc)
kind_of w u v (w_at i) = k_at i

-- those of an operand
pub operand_location : (statics : List Static) (old : List Entry) (q : Spot) (d : Operand) (xs : List ℕ) (r : Env) (v : Value) (l : ℕ) →
    ((q : Spot) (c : Const) → IsIn (Stands q (Constant c)) old → IsWritten statics c) → IsIn (Stands q (symbol_of d)) old →
    atom_value (gather xs r) d ≡ Some v → IsIn l (value_locations v) →
    IsIn l (below (length statics)) ⊎ IsIn l (values_locations (env_values (gather xs r)))
operand_location statics old q (Var x) xs r v l wr i e j = inr (found_location (gather xs r) x v l e j)
operand_location statics old q (Quote (K.Stat n)) xs r v l wr i e j =
    let s : At n ≡ v = cc (e) in
    let k : IsIn l (n ∷ []) = subst (λ v. IsIn l (value_locations v)) (sym s) j in
    ⊎_elim (λ (z : n ≡ l). inl (subst (λ l. IsIn l (below (length statics))) z (below_in (length statics) n (wr q (K.Stat n) i)))) (λ z. absurd z) k
operand_location statics old q (Quote (K.Fix n)) xs r v l wr i e j = let s : Value.Fix n ≡ v = cc (e) in absurd (subst (λ v. IsIn l (value_locations v)) (sym s) j)
operand_location statics old q (Quote (K.Char n)) xs r v l wr i e j = let s : Value.Char n ≡ v = cc (e) in absurd (subst (λ v. IsIn l (value_locations v)) (sym s) j)
operand_location statics old q (Quote (K.Bool n)) xs r v l wr i e j = let s : Value.Truth n ≡ v = cc (e) in absurd (subst (λ v. IsIn l (value_locations v)) (sym s) j)
operand_location statics old q (Quote K.Nil) xs r v l wr i e j = let s : Value.Nil ≡ v = cc (e) in absurd (subst (λ v. IsIn l (value_locations v)) (sym s) j)
operand_location statics old q (Quote K.Unspecified) xs r v l wr i e j = let s : Value.Unspecified ≡ v = cc (e) in absurd (subst (λ v. IsIn l (value_locations v)) (sym s) j)
operand_location statics old q (Quote K.Undefined) xs r v l wr i e j = let s : Value.Undefined ≡ v = cc (e) in absurd (subst (λ v. IsIn l (value_locations v)) (sym s) j)

-- and of some operands
pub operands_location : (w : World) (statics : List Static) (old : List Entry) (as' : List ℕ) (ds : List Operand) (xs : List ℕ) (r : Env) (regs us : List Word) (vs : List Value) (l : ℕ) →
    ((q : Spot) (c : Const) → IsIn (Stands q (Constant c)) old → IsWritten statics c) → Args old as' ds → ((y : ℕ) → IsIn y (free_of_atoms ds) → IsIn y xs) →
    Opers w r regs as' ds us vs → IsIn l (values_locations vs) →
    IsIn l (below (length statics)) ⊎ IsIn l (values_locations (env_values (gather xs r)))
operands_location w statics old as' ds xs r regs us vs l wr no_args f op_none j = absurd j
operands_location w statics old as' ds xs r regs us vs l wr (an_arg {a = a} {d = d} {ds = es} i more) f (op_more {v = v} {vs = vs2} e g x o) j =
    ⊎_elim
    (operand_location statics old (Reg a) d xs r v l wr i (value-gather xs r d (λ y k. f y (in-left (free_of_atom d) (free_of_atoms es) y k)) ∙ g))
    (operands_location w statics old _ _ xs r regs _ vs2 l wr more (λ y k. f y (in-right (free_of_atom d) (free_of_atoms es) y k)) o)
    (in-cases (value_locations v) (values_locations vs2) l j)

module _ (p : AnfTree) (notes : List Note) (limit : ℕ) where
  -- the frames of the source with the one on top marked, and those of the machine
  pub record CallsTo (w : World) (hs : AnfFrames) (top : List MacFrame) : Type 0 where
    pub first : Frame AnfWork
    pub others : AnfFrames
    pub marked : first ∷ others ≡ mark_top hs
    pub rel : FsRel p notes w (first ∷ others) top

  saved_backs : (w : World) (st : List Item) (o : Option (List ℕ)) (old ret : List Entry) (r : Env) (rs qs : List Env) (regs slots : List Word) →
      qs ≡ pushed p [] [] o r rs → Backs o ret old → Holds p st w (r ∷ rs) regs slots old → Saved w qs slots ret
  saved_backs w st o old ret r rs qs regs slots e b h = record {
    saved = λ q s i. ⊎_elim inl
        (λ k.
        let a = h.holds (Slot k.0) k.1 k.3 in
        inr (k.0, k.2, record { value = a.value; word = a.word; means = subst (λ qs. meaning (Empty ∷ qs) s ≡ Some a.value) (sym e) (under_name p st st o [] r Empty rs k.1 s a.value (λ y i. absurd i) k.4 a.means); here = a.here; rel = a.rel }))
        (b.backs q s i);
  }

  caller_frames : (w : World) (gs : Waiting) (qs : List Env) (hs fs : AnfFrames) (ms : List MacFrame) → gs ≡ ToCaller → JRel gs qs hs fs → FsRel p notes w fs ms → CallsTo w hs ms
  caller_frames w gs qs hs fs ms e j_caller (f_then x k l r n j long s f) = record { first = waits true x k r; others = _; marked = refl; rel = f_then x k l r n j long s f }
  caller_frames w gs qs hs fs ms e j_caller (f_top k n long s) = record { first = at_top true k; others = []; marked = refl; rel = f_top k n long s }
  caller_frames w gs qs hs fs ms e (j_top k) f = cc
  caller_frames w gs qs hs fs ms e (j_then x k l r j) f = cc

  pub calls_to : (w : World) (st : List Item) {gs : Waiting} {o : Option (List ℕ)} {old : List Entry} {own : Own} {r : Env} {rs qs : List Env} {hs fs : AnfFrames} {regs slots : List Word} {top ms : List MacFrame} →
      Calls p (HasNote p notes) gs o old own → qs ≡ pushed p [] [] o r rs → JRel gs qs hs fs → Holds p st w (r ∷ rs) regs slots old → OwnRel own slots top ms → FsRel p notes w fs ms →
      CallsTo w hs top
  calls_to w st {o = o} {old = old} {r = r} {rs = rs} {regs = regs} {slots = slots} (from_ready n (frame_then x k l js) b) e (j_then _ _ _ r2 j) h (o_ready long) f =
      record { first = waits true x k r2; others = _; marked = refl; rel = f_then x k l r2 n j long (saved_backs w st o old _ r rs _ regs slots e b h) f }
  calls_to w st {o = o} {old = old} {r = r} {rs = rs} {regs = regs} {slots = slots} (from_ready n (frame_top k) b) e (j_top _) h (o_ready long) f_none =
      record { first = at_top true k; others = []; marked = refl; rel = f_top k n long (saved_backs w st o old _ r rs _ regs slots e b h) }
  calls_to w st {gs = gs} {qs = qs} {hs = hs} {fs = fs} {ms = ms} (from_away q) e j h o_away f = caller_frames w gs qs hs fs ms q j f

  pub opers_ins : (w : World) (r : Env) (regs : List Word) (k : Word) (i : ℕ) (ds : List Operand) (us : List Word) (vs : List Value) → i + length ds ≤ 16 →
      Opers w r regs (from_register i ds) ds us vs → Ins w (slice_set regs 16 k) i vs
  opers_ins w r regs k i [] us vs le op_none = in_none
  opers_ins w r regs k i (d ∷ ds) us vs le (op_more {u = u} e f x o) = in_more (get-set-other regs 16 i u k (λ q. omega arith) e) x (opers_ins w r regs k (suc i) ds _ _ (omega arith) o)

  pub opers_ins_same : (w : World) (r : Env) (regs : List Word) (i : ℕ) (ds : List Operand) (us : List Word) (vs : List Value) →
      Opers w r regs (from_register i ds) ds us vs → Ins w regs i vs
  opers_ins_same w r regs i [] us vs op_none = in_none
  opers_ins_same w r regs i (d ∷ ds) us vs (op_more e f x o) = in_more e x (opers_ins_same w r regs (suc i) ds _ _ o)

  -- what is no procedure
  pub enter_data : (c : AnfConfig) (q : Place) (v : Value) (vs : List Value) (fs : AnfFrames) (es : List Event) → ((l : ℕ) → v ≡ At l → ⊥) →
      enter c q v vs fs es ≡ fail c Cause.NotProcedure q es
  enter_data c q (Value.Fix n) vs fs es ne = refl
  enter_data c q (Value.Char n) vs fs es ne = refl
  enter_data c q (Value.Truth b) vs fs es ne = refl
  enter_data c q Value.Nil vs fs es ne = refl
  enter_data c q Value.Unspecified vs fs es ne = refl
  enter_data c q Value.Undefined vs fs es ne = refl
  enter_data c q Value.EndObject vs fs es ne = refl
  enter_data c q (At l) vs fs es ne = absurd (ne l refl)

  pub data NoClo : Item → Type 0 where
    n_cell : (v : Value) → NoClo (Cell v)
    n_object : (o : Object) → NoClo (Obj o)

  pub no_procedure : (heap : Heap) (t a : ℕ) (i : Item) → t ≡ tag_of i → NoClo i → procedure_at heap (W.Pointer t a) ≡ None
  no_procedure heap t a i e (n_cell v) = rw e refl
  no_procedure heap t a i e (n_object (Pair u v)) = rw e refl
  no_procedure heap t a i e (n_object (Vec vs)) = rw e refl
  no_procedure heap t a i e (n_object (Str cs)) = rw e refl
  no_procedure heap t a i e (n_object (Sym cs)) = rw e refl

  module _ (c : Assembled) where
    -- the operator is no procedure
    invoked_none : (x : Still) (n : ℕ) {w : World} {f : Operand} {ds : List Operand} {q : Place} {b : Block} {js gs : Waiting} {o : Option (List ℕ)}
        {own : Own} {old : List Entry} {rs : List Env} {fr fs : AnfFrames} {slots : List Word} {top ms : List MacFrame} (r : Env) (u : Word) (v : Value) (vs : List Value) (k : ℕ) →
        OpAt (captured_in p) (Call f ds q) b js gs o → slice_get x.regs 0 ≡ Some u → procedure_at (λ at. slice_get x.heap at) u ≡ None →
        atom_values (gather (free_op (captured_in p) (Call f ds q)) r) (f ∷ ds) ≡ Some (v ∷ vs) →
        ((c : AnfConfig) → c.store ≡ x.st → enter c q v vs c.frames x.es ≡ fail c Cause.NotProcedure q x.es) → place_of c.places x.pc ≡ Some q →
        HasNote p notes x.pc (Inside (AtBlock b js) own old) → IsCut p notes (free p b) r → JRel js rs fr fs → Holds p x.st w (r ∷ rs) x.regs slots old →
        OwnRel own slots top ms → FsRel p notes w fs ms → length x.regs ≡ 17 → Memory p notes w Closed x.heap x.st x.globals x.ahead x.input x.cin x.met →
        Sim p notes limit (done p notes limit c x top (I.Invoke n)) k (source p notes limit x (Eval (InBlock b) r) fr)
    invoked_none x n {w = w} {q = q} r u v vs k at e0 none values ne place here cut j h o2 fr len mem =
        rw (e0, none, place) (fails_op p notes limit x r (Stop.Fail Cause.NotProcedure q) (x.es ++ Event.Fail Cause.NotProcedure q ∷ []) k at here cut j h o2 fr len
        (λ hs. rw values (ne _ refl)) mem)

    -- a procedure is entered
    invoked_at : (x : Still) {w : World} {n a l : ℕ} {f : Operand} {ds : List Operand} {q : Place} {b : Block} {js gs : Waiting} {o : Option (List ℕ)}
        {own : Own} {old : List Entry} {rs : List Env} {fr fs : AnfFrames} {slots : List Word} {top ms : List MacFrame} (r : Env) (t : ℕ) (us : List Word) (vs : List Value) (k : ℕ) (i : Item) →
        OpAt (captured_in p) (Call f ds q) b js gs o → n ≡ length ds → n ≤ 12 → slice_get x.regs 0 ≡ Some (W.Pointer t a) → IsIn (Lk t a l) w → slice_get x.st l ≡ Some i → t ≡ tag_of i →
        ORel p notes w x.heap Whole a i →
        atom_values (gather (free_op (captured_in p) (Call f ds q)) r) (f ∷ ds) ≡ Some (At l ∷ vs) →
        Opers w r x.regs (from_register 1 ds) ds us vs →
        ((z : ℕ) → IsIn z (l ∷ values_locations vs) → IsIn z (below (length p.statics)) ⊎ IsIn z (values_locations (env_values (gather (free_op (captured_in p) (Call f ds q)) r)))) →
        Calls p (HasNote p notes) gs o old own → place_of c.places x.pc ≡ Some q →
        HasNote p notes x.pc (Inside (AtBlock b js) own old) → IsCut p notes (free p b) r → JRel js rs fr fs → Holds p x.st w (r ∷ rs) x.regs slots old →
        OwnRel own slots top ms → FsRel p notes w fs ms → length x.regs ≡ 17 → Memory p notes w Closed x.heap x.st x.globals x.ahead x.input x.cin x.met →
        Sim p notes limit (done p notes limit c x top (I.Invoke n)) k (source p notes limit x (Eval (InBlock b) r) fr)
    invoked_at x {n = n} {a = a} {l = l} {q = q} r t us vs k i at en le e0 lk there tg (o_cell {v = v} hd pr) values ops reach cs place here cut j h o2 fr len mem =
        invoked_none x n r (W.Pointer t a) (At l) vs k at e0 (no_procedure (λ at. slice_get x.heap at) t a i tg (n_cell v)) values (λ c e. rw (e, there) refl) place here cut j h o2 fr len mem
    invoked_at x {n = n} {a = a} {l = l} {q = q} r t us vs k i at en le e0 lk there tg (o_pair {u = u} {v = v} pr) values ops reach cs place here cut j h o2 fr len mem =
        invoked_none x n r (W.Pointer t a) (At l) vs k at e0 (no_procedure (λ at. slice_get x.heap at) t a i tg (n_object (Pair u v))) values (λ c e. rw (e, there) refl) place here cut j h o2 fr len mem
    invoked_at x {n = n} {a = a} {l = l} {q = q} r t us vs k i at en le e0 lk there tg (o_vector {vs = ws} few hd pr) values ops reach cs place here cut j h o2 fr len mem =
        invoked_none x n r (W.Pointer t a) (At l) vs k at e0 (no_procedure (λ at. slice_get x.heap at) t a i tg (n_object (Vec ws))) values (λ c e. rw (e, there) refl) place here cut j h o2 fr len mem
    invoked_at x {n = n} {a = a} {l = l} {q = q} r t us vs k i at en le e0 lk there tg (o_string {cs = ss} few hd pr) values ops reach cs place here cut j h o2 fr len mem =
        invoked_none x n r (W.Pointer t a) (At l) vs k at e0 (no_procedure (λ at. slice_get x.heap at) t a i tg (n_object (Str ss))) values (λ c e. rw (e, there) refl) place here cut j h o2 fr len mem
    invoked_at x {n = n} {a = a} {l = l} {q = q} r t us vs k i at en le e0 lk there tg (o_symbol {cs = ss} few hd pr) values ops reach cs place here cut j h o2 fr len mem =
        invoked_none x n r (W.Pointer t a) (At l) vs k at e0 (no_procedure (λ at. slice_get x.heap at) t a i tg (n_object (Sym ss))) values (λ c e. rw (e, there) refl) place here cut j h o2 fr len mem
    invoked_at x {w = w} {n = n} {a = a} {l = l} {f = f} {ds = ds} {q = q} {rs = rs} {fr = fr} {slots = slots} r t us vs k i at en le e0 lk there tg (o_procedure m e caught hd cd note long er pr) values ops reach cs place here cut j h o2 fs len mem =
        let s = op_starts p notes limit r at j in
        let to = calls_to w x.st cs refl s.2 h o2 fs in
        let lb = opers_length w r x.regs _ _ us vs ops in
        let item : slice_get x.st l ≡ Some (Clo m (bind_all (captured_in p m) caught Empty)) = there ∙ ap (λ r. Some (Clo m r)) er in
        let number : slice_get (slice_set x.regs 16 (W.Fix (pos n))) 16 ≡ Some (W.Fix (pos (length vs))) = get-set x.regs 16 (W.Fix (pos n)) (omega arith) ∙ ap (λ n. Some (W.Fix (pos n))) (en ∙ lb) in
        let call : AtCall p w x.st m (slice_set x.regs 16 (W.Fix (pos n))) l vs = record {
          itself = a;
          caught = caught;
          link = subst (λ t. IsIn (Lk t a l) w) tg lk;
          item = item;
          long = long;
          reg0 = get-set-other x.regs 16 0 _ _ (λ z. omega arith) (e0 ∙ ap (λ t. Some (W.Pointer t a)) tg);
          number = number;
          few = subst (λ n. n ≤ 12) (en ∙ lb) le;
          ops = opers_ins w r x.regs (W.Fix (pos n)) 1 ds us vs (omega arith) ops;
        } in
        let about : AboutTo p notes (config p notes (Eval (InOp (Call f ds q)) (gather (free_op (captured_in p) (Call f ds q)) r)) s.0 x.globals x.st x.cin x.met) (Closure l) vs m x.es (l ∷ values_locations vs) = record {
          enters = rw (values, there) refl;
          reached = λ z i. root (⊎_elim (in-left (below (length p.statics)) _ z) (λ g. in-right (below (length p.statics)) _ z (in-left (values_locations (env_values (gather (free_op (captured_in p) (Call f ds q)) r))) _ z g)) (reach z i));
        } in
        rw (e0, tg, hd, cd) (1, (w, rw (s.1 x) (r_calls x.es note call about to.marked to.rel mem (length-set x.regs 16 (W.Fix (pos n)) ∙ len))), inl (omega arith))

    invoked : (x : Still) {w : World} {n : ℕ} {f : Operand} {ds : List Operand} {q : Place} {b : Block} {js gs : Waiting} {o : Option (List ℕ)}
        {own : Own} {old : List Entry} {rs : List Env} {fr fs : AnfFrames} {slots : List Word} {top ms : List MacFrame} (r : Env) (u : Word) (v : Value) (us : List Word) (vs : List Value) (k : ℕ) →
        Kind w u v → OpAt (captured_in p) (Call f ds q) b js gs o → n ≡ length ds → n ≤ 12 → slice_get x.regs 0 ≡ Some u →
        atom_values (gather (free_op (captured_in p) (Call f ds q)) r) (f ∷ ds) ≡ Some (v ∷ vs) →
        Opers w r x.regs (from_register 1 ds) ds us vs →
        ((z : ℕ) → IsIn z (values_locations (v ∷ vs)) → IsIn z (below (length p.statics)) ⊎ IsIn z (values_locations (env_values (gather (free_op (captured_in p) (Call f ds q)) r)))) →
        Calls p (HasNote p notes) gs o old own → place_of c.places x.pc ≡ Some q →
        HasNote p notes x.pc (Inside (AtBlock b js) own old) → IsCut p notes (free p b) r → JRel js rs fr fs → Holds p x.st w (r ∷ rs) x.regs slots old →
        OwnRel own slots top ms → FsRel p notes w fs ms → length x.regs ≡ 17 → Memory p notes w Closed x.heap x.st x.globals x.ahead x.input x.cin x.met →
        Sim p notes limit (done p notes limit c x top (I.Invoke n)) k (source p notes limit x (Eval (InBlock b) r) fr)
    invoked x {n = n} {q = q} r u v us vs k (k_data no_object no_pair ne) at en le e0 values ops reach cs place here cut j h o2 fr len mem =
        invoked_none x n r u v vs k at e0 (no_object (λ at. slice_get x.heap at) procedure_tag procedure_kind) values (λ c e. enter_data c q v vs c.frames x.es ne) place here cut j h o2 fr len mem
    invoked x r u v us vs k (k_at {t = t} {a = a} {l = l} i) at en le e0 values ops reach cs place here cut j h o2 fr len mem =
        let d = mem.stores.linked t a l i in
        invoked_at x r t us vs k d.item at en le e0 i d.there d.tag d.rel values ops reach cs place here cut j h o2 fr len mem

    invoked_opers : (x : Still) {w : World} {n : ℕ} {f : Operand} {ds : List Operand} {q : Place} {b : Block} {js gs : Waiting} {o : Option (List ℕ)}
        {own : Own} {old : List Entry} {rs : List Env} {fr fs : AnfFrames} {slots : List Word} {top ms : List MacFrame} (r : Env) (us : List Word) (vs : List Value) (k : ℕ) →
        OpAt (captured_in p) (Call f ds q) b js gs o → n ≡ length ds → n ≤ 12 →
        atom_values (gather (free_op (captured_in p) (Call f ds q)) r) (f ∷ ds) ≡ Some vs →
        Opers w r x.regs (0 ∷ from_register 1 ds) (f ∷ ds) us vs →
        ((z : ℕ) → IsIn z (values_locations vs) → IsIn z (below (length p.statics)) ⊎ IsIn z (values_locations (env_values (gather (free_op (captured_in p) (Call f ds q)) r)))) →
        Calls p (HasNote p notes) gs o old own → place_of c.places x.pc ≡ Some q →
        HasNote p notes x.pc (Inside (AtBlock b js) own old) → IsCut p notes (free p b) r → JRel js rs fr fs → Holds p x.st w (r ∷ rs) x.regs slots old →
        OwnRel own slots top ms → FsRel p notes w fs ms → length x.regs ≡ 17 → Memory p notes w Closed x.heap x.st x.globals x.ahead x.input x.cin x.met →
        Sim p notes limit (done p notes limit c x top (I.Invoke n)) k (source p notes limit x (Eval (InBlock b) r) fr)
    invoked_opers x {w = w} r us vs k at en le values (op_more {u = u} {us = ws} {v = v} {vs = xs} e0 ea uv ops) reach cs place here cut j h o2 fr len mem =
        invoked x r u v ws xs k (kind_of w u v uv) at en le e0 values ops reach cs place here cut j h o2 fr len mem

    pub step_invoke : (x : Still) {w : World} {n : ℕ} {f : Operand} {ds : List Operand} {q : Place} {b : Block} {js gs : Waiting} {o : Option (List ℕ)}
        {own : Own} {old : List Entry} {rs : List Env} {fr fs : AnfFrames} {slots : List Word} {top ms : List MacFrame} (r : Env) (k : ℕ) →
        OpAt (captured_in p) (Call f ds q) b js gs o → n ≡ length ds → n ≤ 12 → Args old (from_register 0 (f ∷ ds)) (f ∷ ds) →
        Calls p (HasNote p notes) gs o old own → ((q : Spot) (c : Const) → IsIn (Stands q (Constant c)) old → IsWritten p.statics c) → place_of c.places x.pc ≡ Some q →
        HasNote p notes x.pc (Inside (AtBlock b js) own old) → IsCut p notes (free p b) r → JRel js rs fr fs → Holds p x.st w (r ∷ rs) x.regs slots old →
        OwnRel own slots top ms → FsRel p notes w fs ms → length x.regs ≡ 17 → Memory p notes w Closed x.heap x.st x.globals x.ahead x.input x.cin x.met →
        Sim p notes limit (done p notes limit c x top (I.Invoke n)) k (source p notes limit x (Eval (InBlock b) r) fr)
    step_invoke x {w = w} {f = f} {ds = ds} {q = q} {old = old} {rs = rs} {slots = slots} r k at en le args cs wr place here cut j h o2 fr len mem =
        let t = opers p x.st w r rs x.regs slots old (from_register 0 (f ∷ ds)) (f ∷ ds) h args in
        let F = free_op (captured_in p) (Call f ds q) in
        invoked_opers x r t.0 t.1 k at en le (opers_values w r x.regs _ (f ∷ ds) t.0 t.1 F (λ y i. i) t.2) t.2
        (λ z i. operands_location w p.statics old _ (f ∷ ds) F r x.regs t.0 t.1 z wr args (λ y i. i) t.2 i) cs place here cut j h o2 fr len mem

    -- a procedure that is lifted is entered
    pub step_direct : (x : Still) (l : ℕ) {w : World} {m : ℕ} {g : ProcTree} {ds : List Operand} {b : Block} {js gs : Waiting} {o : Option (List ℕ)}
        {own : Own} {old new : List Entry} {rs : List Env} {fr fs : AnfFrames} {slots : List Word} {top ms : List MacFrame} (r : Env) (k : ℕ) →
        OpAt (captured_in p) (Direct m ds) b js gs o → Lifts p m g → length ds ≡ length g.params → Args old (from_register 1 ds) ds →
        HasNote p notes l (AtLifted m new) → StartsLifted g.params (free p g.body) new →
        Calls p (HasNote p notes) gs o old own → ((q : Spot) (c : Const) → IsIn (Stands q (Constant c)) old → IsWritten p.statics c) →
        JRel js rs fr fs → Holds p x.st w (r ∷ rs) x.regs slots old →
        OwnRel own slots top ms → FsRel p notes w fs ms → length x.regs ≡ 17 → Memory p notes w Closed x.heap x.st x.globals x.ahead x.input x.cin x.met →
        Sim p notes limit (done p notes limit c x top (I.Jump l)) k (source p notes limit x (Eval (InBlock b) r) fr)
    step_direct x l {w = w} {m = m} {g = g} {ds = ds} {old = old} {rs = rs} {slots = slots} r k at lf count args n starts cs wr j h o2 fs len mem =
        let t = opers p x.st w r rs x.regs slots old (from_register 1 ds) ds h args in
        let F = free_op (captured_in p) (Direct m ds) in
        let values = opers_values w r x.regs _ ds t.0 t.1 F (λ y i. i) t.2 in
        let s = op_starts p notes limit r at j in
        let to = calls_to w x.st cs refl s.2 h o2 fs in
        let about : AboutTo p notes (config p notes (Eval (InOp (Direct m ds)) (gather F r)) s.0 x.globals x.st x.cin x.met) (Lifted m) t.1 m x.es (values_locations t.1) = record {
          enters = rw values refl;
          reached = λ z i. root (⊎_elim (in-left (below (length p.statics)) _ z) (λ g. in-right (below (length p.statics)) _ z (in-left (values_locations (env_values (gather F r))) _ z g))
              (operands_location w p.statics old _ ds F r x.regs t.0 t.1 z wr args (λ y i. i) t.2 i));
        } in
        (1, (w, rw (s.1 x) (r_lifted x.es g n lf starts (sym (opers_length w r x.regs _ ds t.0 t.1 t.2) ∙ count) (opers_ins_same w r x.regs 1 ds t.0 t.1 t.2) about to.marked to.rel mem len)), inl (omega arith))
