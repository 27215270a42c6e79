-- The entry of a procedure: its operands are counted, and are its parameters.
use Rattle.std.proofs.Common.{◌≡◌, refl, sym, ◌∙◌, subst, subst₂, ap, ℕ, zero, suc, ◌+◌, ◌-◌, ◌<◌, ◌==◌, true, false, inl, inr, ⊎_elim, arith, List, [], ◌∷◌, ◌++◌, length, Some, slice_get, slice_set, length-set, append-nil, eq-eqb, ne_eqb, lt-ltb}
use Rattle.std.proofs.lemmas.Bool.{cases_eq}
use Rattle.tb_prim.specs.declared.event.Event.{Event}
use Rattle.tb_semantics.specs.Graph.{IsApart, IsIn}
use Rattle.tb_semantics.specs.Runs.{run}
use Rattle.tb_core.specs.Space.{values_locations}
use Rattle.tb_core.specs.Store.{Value, At}
use Rattle.tb_ir.specs.AnfTree.{Block, AnfTree, ProcTree}
use Rattle.tb_ir.specs.AnfMachine.{AnfFrames, AnfWork, Code, InBlock, captured_by}
use Rattle.tb_ir.specs.Machine.{Closure, Lifted, Control, Entering, Env, Empty, Eval, Frame, Item, Clo, bind_all, gather, lookup, mark_top}
use Rattle.tb_mac.specs.declared.code.Instr.TheVariants as I
use Rattle.tb_mac.specs.declared.word.Word.{Word}
use Rattle.tb_mac.specs.declared.word.Word.TheVariants as W
use Rattle.tb_mac.specs.Assembled.{Assembled}
use Rattle.tb_mac.specs.Frames.{Frame as MacFrame}
use Rattle.tb_mac.specs.MacStep.{captured_at, place_of}
use Rattle.tb_codegen.specs.Notes.{Entry, Stands, Reg, Variable, Itself, Own, Away, Note, Inside, AtBlock, AtArgs, Point, Waiting, ToCaller}
use Rattle.tb_codegen.specs.Generate.{captured_in, settled}
use Rattle.tb_codegen.proofs.Changes.{Caught, Into, IsThat, is_that, Same, Param, here_param, there_param, Starts, StartsLifted}
use Rattle.tb_codegen.proofs.Envs.{get-in, get-within, lookup-gather, lookup-other, lookup-same, same_caught}
use Rattle.tb_codegen.proofs.Holding.{holds-into, Puts, same-means}
use Rattle.tb_codegen.proofs.Landing.{lands_block}
use Rattle.tb_codegen.proofs.Memories.{p_get}
use Rattle.tb_codegen.proofs.Moves.{done}
use Rattle.tb_codegen.proofs.Ok.{Entered, HasNote, Lifts, Settles, free}
use Rattle.tb_codegen.proofs.Rel.{AboutTo, AtCall, Caps, Closed, env_at, fill_of, FsRel, HasAny, Holds, Ins, in_none, in_more, j_caller, Means, m_itself, m_name, Memory, open_of, ORel, o_cell, o_pair, o_vector, o_string, o_symbol, o_procedure, OwnRel, o_away, PtRel, tag_of, Whole, r_args, r_stopped, WRel, w_at, World, config, step_of}
use Rattle.tb_codegen.proofs.Sim.{Mem, Sim, Still, quiet, source}

past_binds : (ps : List ℕ) (vs : List Value) (r : Env) (x : ℕ) → (IsIn x ps → ⊥) → lookup (bind_all ps vs r) x ≡ lookup r x
past_binds [] vs r x ne = refl
past_binds (p ∷ ps) [] r x ne = refl
past_binds (p ∷ ps) (v ∷ vs) r x ne = lookup-other p x v (bind_all ps vs r) (λ e. ne (inl e)) ∙ past_binds ps vs r x (λ i. ne (inr i))

at_binds : (xs : List ℕ) (us : List Value) (j x : ℕ) → IsApart xs → length us ≡ length xs → slice_get xs j ≡ Some x → (u : Value) × (slice_get us j ≡ Some u) × (lookup (bind_all xs us Empty) x ≡ Some u)
at_binds [] us j x a len e = cc
at_binds (y ∷ xs) [] j x a len e = absurd (omega arith)
at_binds (y ∷ xs) (u ∷ us) zero x a len e = let q : y ≡ x = cc (e) in (u, refl, subst (λ x. lookup (Env.Bind y u (bind_all xs us Empty)) x ≡ Some u) q (lookup-same y u (bind_all xs us Empty)))
at_binds (y ∷ xs) (u ∷ us) (suc j) x a len e =
    let h = at_binds xs us j x a.1 (omega arith) e in
    (h.0, h.1, lookup-other y x u (bind_all xs us Empty) (λ q. a.0 (subst (λ n. IsIn n xs) (sym q) (get-in xs j x e))) ∙ h.2)

-- the environment of a body has what its procedure captured
entry_caps : (p : AnfTree) (m : ℕ) (ps zs : List ℕ) (vs us : List Value) → IsApart (captured_in p m) → Caught ps (captured_in p m) zs → length us ≡ length (captured_in p m) →
    Caps p (gather zs (bind_all ps vs (bind_all (captured_in p m) us Empty))) m us
entry_caps p m ps zs vs us a c len = record {
  caps = λ j x e.
      let h = at_binds (captured_in p m) us j x a len e in
      let f = c.caught x (get-in (captured_in p m) j x e) in
      (h.0, h.1, lookup-gather zs (bind_all ps vs (bind_all (captured_in p m) us Empty)) x f.0 ∙ past_binds ps vs (bind_all (captured_in p m) us Empty) x f.1 ∙ h.2);
}

-- a parameter in the register of its operand
record Operand' (w : World) (regs : List Word) (r : Env) (y i : ℕ) : Type 0 where
  value : Value
  word : Word
  means : lookup r y ≡ Some value
  here : slice_get regs i ≡ Some word
  rel : WRel w word value

param_given : (w : World) (regs : List Word) (ps : List ℕ) (vs : List Value) (r : Env) (y i j : ℕ) → Ins w regs j vs → Param y i j ps → length ps ≡ length vs → Operand' w regs (bind_all ps vs r) y i
param_given w regs ps vs r y i j in_none here_param len = absurd (omega arith)
param_given w regs ps vs r y i j in_none (there_param ne p) len = absurd (omega arith)
param_given w regs ps vs r y i j (in_more {u = u} {v = v} {vs = us} e x rest) (here_param {ps = qs}) len = record { value = v; word = u; means = lookup-same y v (bind_all qs us r); here = e; rel = x }
param_given w regs ps vs r y i j (in_more {v = v} {vs = us} e x rest) (there_param {z = z} {ps = qs} ne p) len =
    let h = param_given w regs qs us r y i (suc j) rest p (omega arith) in
    record { value = h.value; word = h.word; means = lookup-other z y v (bind_all qs us r) ne ∙ h.means; here = h.here; rel = h.rel }

-- what stands in the registers behind the entry
pub starts_hold : (p : AnfTree) (st : List Item) (w : World) (m l : ℕ) (regs : List Word) (ps zs : List ℕ) (vs us : List Value) (map : List Entry) (u : Word) →
    slice_get st l ≡ Some (Clo m (bind_all (captured_in p m) us Empty)) → length us ≡ length (captured_in p m) → slice_get regs 0 ≡ Some u → WRel w u (At l) →
    IsApart (captured_in p m) → Caught ps (captured_in p m) zs → Ins w regs 1 vs → length ps ≡ length vs → Starts m ps zs map →
    Holds p st w (gather zs (bind_all ps vs (bind_all (captured_in p m) us Empty)) ∷ []) regs [] map
starts_hold p st w m l regs ps zs vs us map u item len e uv ap_xs ca ins count s =
    let r = gather zs (bind_all ps vs (bind_all (captured_in p m) us Empty)) in
    record {
      holds = λ q z i. ⊎_elim
          (λ k. subst₂ (λ q z. HasAny p st w (r ∷ []) regs [] q z) (sym k.0) (sym k.1)
          (record { value = At l; word = u; means = m_itself m l us item len (entry_caps p m ps zs vs us ap_xs ca len); here = e; rel = uv }))
          (λ k.
          let h = param_given w regs ps vs (bind_all (captured_in p m) us Empty) k.0 k.1 1 ins k.5 count in
          subst₂ (λ q z. HasAny p st w (r ∷ []) regs [] q z) (sym k.2) (sym k.3)
          (record { value = h.value; word = h.word; means = m_name (lookup-gather zs (bind_all ps vs (bind_all (captured_in p m) us Empty)) k.0 k.4 ∙ h.means); here = h.here; rel = h.rel }))
          (s.begins q z i);
    }

lifted_hold : (p : AnfTree) (st : List Item) (w : World) (regs : List Word) (ps zs : List ℕ) (vs : List Value) (map : List Entry) →
    Ins w regs 1 vs → length ps ≡ length vs → StartsLifted ps zs map → Holds p st w (gather zs (bind_all ps vs Empty) ∷ []) regs [] map
lifted_hold p st w regs ps zs vs map ins count s =
    let r = gather zs (bind_all ps vs Empty) in
    record {
      holds = λ q z i.
          let k = s.begins_lifted q z i in
          let h = param_given w regs ps vs Empty k.0 k.1 1 ins k.5 count in
          subst₂ (λ q z. HasAny p st w (r ∷ []) regs [] q z) (sym k.2) (sym k.3)
          (record { value = h.value; word = h.word; means = m_name (lookup-gather zs (bind_all ps vs Empty) k.0 k.4 ∙ h.means); here = h.here; rel = h.rel });
    }

module _ (p : AnfTree) (notes : List Note) (limit : ℕ) (c : Assembled) where
  pub step_proc : (x : Still) {w : World} {m l : ℕ} {control : Control Code} {f : Frame AnfWork} {gs fs : AnfFrames} {vs : List Value} {ms : List MacFrame} (k : ℕ) →
      HasNote p notes (x.pc + 1) (AtArgs m) → AtCall p w x.st m x.regs l vs →
      AboutTo p notes (config p notes control gs x.globals x.st x.cin x.met) (Closure l) vs m x.es (l ∷ values_locations vs) → f ∷ fs ≡ mark_top gs → FsRel p notes w (f ∷ fs) ms →
      Memory p notes w Closed x.heap x.st x.globals x.ahead x.input x.cin x.met → length x.regs ≡ 17 →
      Sim p notes limit (done p notes limit c x ms (I.Proc m)) k (source p notes limit x control gs)
  step_proc x {w = w} {m = m} k n call about marked fr mem len =
      (1, (w, rw (about.enters, sym marked) (r_args (x.es ++ Event.Enter m ∷ []) n call fr mem len)), inl (omega arith))

  pub step_lifted : (x : Still) {w : World} {m : ℕ} {control : Control Code} {f : Frame AnfWork} {gs fs : AnfFrames} {vs : List Value} {ms : List MacFrame} {new : List Entry} (k : ℕ) (q : ProcTree) →
      Settles q.body → Lifts p m q → StartsLifted q.params (free p (settled q.body)) new → length vs ≡ length q.params → Ins w x.regs 1 vs →
      HasNote p notes (x.pc + 1) (Inside (AtBlock (settled q.body) ToCaller) Away new) →
      AboutTo p notes (config p notes control gs x.globals x.st x.cin x.met) (Lifted m) vs m x.es (values_locations vs) → f ∷ fs ≡ mark_top gs → FsRel p notes w (f ∷ fs) ms →
      Memory p notes w Closed x.heap x.st x.globals x.ahead x.input x.cin x.met → length x.regs ≡ 17 →
      Sim p notes limit (done p notes limit c x ms (I.Proc m)) k (source p notes limit x control gs)
  step_lifted x {w = w} {m = m} {control = control} {f = f} {gs = gs} {fs = fs} {vs = vs} {new = new} k q se lf starts count ins n about marked fr mem len =
      let test : length q.params == length vs ≡ true = eq-eqb (length q.params) (length vs) (sym count) in
      let nil : q.params ++ [] ≡ q.params = append-nil q.params in
      let e : run (step_of p notes) 2 (source p notes limit x control gs) ≡ source p notes limit (record x { es = x.es ++ Event.Enter m ∷ [] }) (Eval (InBlock q.body) (gather (free p q.body) (bind_all q.params vs Empty))) (f ∷ fs) =
      ap (step_of p notes) about.enters ∙ rw (lf.there, lf.no_rest, nil, test, sym marked) refl in
      lands_block p notes limit (record x { pc = x.pc + 1; es = x.es ++ Event.Enter m ∷ [] }) q.body (bind_all q.params vs Empty) _ 2 k se e (omega arith) n j_caller
      (lifted_hold p x.st w x.regs q.params (free p (settled q.body)) vs new ins (sym count) starts) o_away fr mem len

  pub step_args : (x : Still) {w : World} {m l n : ℕ} {f : Frame AnfWork} {fs : AnfFrames} {vs : List Value} {ms : List MacFrame} {new : List Entry} (k : ℕ) (q : ProcTree) →
      Settles q.body → Entered p m q → q.rest ≡ false → n ≡ length q.params → IsApart q.captured → Caught q.params q.captured (free p (settled q.body)) →
      Starts m q.params (free p (settled q.body)) new → place_of c.places x.pc ≡ Some q.place →
      HasNote p notes (x.pc + 1) (Inside (AtBlock (settled q.body) ToCaller) Away new) → HasNote p notes x.pc (AtArgs m) → AtCall p w x.st m x.regs l vs → FsRel p notes w (f ∷ fs) ms →
      Memory p notes w Closed x.heap x.st x.globals x.ahead x.input x.cin x.met → length x.regs ≡ 17 →
      Sim p notes limit (done p notes limit c x ms (I.Args n)) k (source p notes limit x (Entering (Closure l) vs) (f ∷ fs))
  step_args x {w = w} {m = m} {l = l} {n = n} {f = f} {fs = fs} {vs = vs} {ms = ms} {new = new} k q se en rest count ap_xs ca starts place next here call fr mem len =
      let body = gather (free p (settled q.body)) (bind_all q.params vs (bind_all (captured_in p m) call.caught Empty)) in
      let xs : captured_in p m ≡ q.captured = ap captured_by en.there in
      ⊎_elim
      (λ (yes : length q.params ≡ length vs).
      let test : length q.params == length vs ≡ true = eq-eqb (length q.params) (length vs) yes in
      let test2 : length vs == n ≡ true = eq-eqb (length vs) n (sym yes ∙ sym count) in
      rw (call.number, test2) (lands_block p notes limit (record x { pc = x.pc + 1 }) q.body (bind_all q.params vs (bind_all (captured_in p m) call.caught Empty)) _ 1 k se
      (rw (call.item, en.there, rest, test) refl) (omega arith) next j_caller
      (starts_hold p x.st w m l x.regs q.params (free p (settled q.body)) vs call.caught new _ call.item call.long call.reg0 (w_at call.link)
      (subst IsApart (sym xs) ap_xs) (subst (λ xs. Caught q.params xs (free p (settled q.body))) (sym xs) ca) call.ops yes starts)
      o_away fr mem len))
      (λ no.
      let test : length q.params == length vs ≡ false = ne_eqb (length q.params) (length vs) no in
      let test2 : length vs == n ≡ false = ne_eqb (length vs) n (λ e. no (sym (e ∙ count))) in
      rw (call.number, test2, place) (1, (w, rw (call.item, en.there, rest, test) (r_stopped (r_args x.es here call fr mem len))), inl (omega arith)))
      (cases_eq (length q.params) (length vs))

  -- a captured word of a procedure in the heap
  caught_word : (w : World) (heap : List Word) (t a m j : ℕ) (i : Item) (us : List Value) (v : Value) → t ≡ tag_of i → ORel p notes w heap Whole a i →
      i ≡ Clo m (bind_all (captured_in p m) us Empty) → length us ≡ length (captured_in p m) → slice_get us j ≡ Some v →
      (u : Word) × (captured_at (λ at. slice_get heap at) j (W.Pointer t a) ≡ Some (a + 2 + j)) × (slice_get heap (a + 2 + j) ≡ Some u) × WRel w u v
  caught_word w heap t a m j i us v tg (o_cell hd pr) e long g = cc
  caught_word w heap t a m j i us v tg (o_pair pr) e long g = cc
  caught_word w heap t a m j i us v tg (o_vector few hd pr) e long g = cc
  caught_word w heap t a m j i us v tg (o_string few hd pr) e long g = cc
  caught_word w heap t a m j i us v tg (o_symbol few hd pr) e long g = cc
  caught_word w heap t a m j i us v tg (o_procedure n x ws {r = r} hd cd note long2 er pr) e long g =
      let en : n ≡ m = cc (e) in
      let eq : r ≡ bind_all (captured_in p m) us Empty = cc (e) in
      let l3 : length ws ≡ length (captured_in p m) = subst (λ m. length ws ≡ length (captured_in p m)) en long2 in
      let e2 : bind_all (captured_in p m) ws Empty ≡ bind_all (captured_in p m) us Empty = subst (λ n. bind_all (captured_in p n) ws Empty ≡ r) en (sym er) ∙ eq in
      let same = same_caught (captured_in p m) ws us l3 long e2 in
      let g2 : slice_get ws j ≡ Some v = subst (λ us. slice_get us j ≡ Some v) (sym same) g in
      let lt = get-within ws j v g2 in
      let t2 = p_get w heap (a + 2) (length ws) ws j v pr lt g2 in
      let test = lt-ltb j (length ws) lt in
      (t2.0, rw (tg, hd, test) refl, t2.1, t2.2)

  capt_of : (x : Still) (a j : ℕ) {w : World} {m y d : ℕ} {pt : Point} {own : Own} {old new : List Entry} {rs : List Env} {control : Control Code}
      {gs fs : AnfFrames} {slots : List Word} {top ms : List MacFrame} {u : Word} {v : Value} → open_of pt control ≡ Closed → d < 17 → Into (Reg d) (IsThat (Variable 0 y)) Same new old →
      HasNote p notes (x.pc + 1) (Inside pt own new) →
      PtRel p notes x.st pt rs gs fs control → Holds p x.st w rs x.regs slots old → OwnRel own slots top ms → FsRel p notes w fs ms →
      Mem p notes limit w pt control x → length x.regs ≡ 17 → x.pc < limit →
      slice_get x.regs a ≡ Some u → Means p x.st rs (Itself m) v → WRel w u v → slice_get (captured_in p m) j ≡ Some y →
      Sim p notes limit (done p notes limit c x top (I.Capt d a j)) (limit - x.pc) (source p notes limit x control gs)
  capt_of x a j cl lt into n pr h o f mem len within here (m_name e) r at = cc
  capt_of x a j {w = w} {m = m} {y = y} {d = d} {old = old} {new = new} {rs = rs} {slots = slots} cl lt into n pr h o f mem len within here (m_itself _ _ us item long caps) (w_at {t = t} {a = b} {l = l} k) at =
      let z = caps.caps j y at in
      let d0 = mem.stores.linked t b l k in
      let same : d0.item ≡ Clo m (bind_all (captured_in p m) us Empty) = cc (d0.there, item) in
      let whole = subst (λ o. ORel p notes w x.heap (fill_of o l) b d0.item) cl d0.rel in
      let t2 = caught_word w x.heap t b m j d0.item us z.0 d0.tag whole same long z.1 in
      let hh = holds-into p x.st x.st w w (λ k i. i) rs rs x.regs slots d _ _ new old t2.0 (omega arith) h into
      (name_put w t2.0 rs x.st y z.0 z.2 t2.3) (same-means p x.st rs) in
      rw (here, t2.1, t2.2) (quiet p notes limit x (record x { pc = x.pc + 1; regs = slice_set x.regs d t2.0 }) n pr hh o f mem (length-set x.regs d t2.0 ∙ len) (omega arith) within)
    where
      name_put : (w : World) (u : Word) (rs : List Env) (st : List Item) (y : ℕ) (v : Value) → lookup (env_at rs 0) y ≡ Some v → WRel w u v → Puts p st st (IsThat (Variable 0 y)) w u rs
      name_put w u rs st y v e r s is_that = (v, m_name e, r)

  block_closed : (st : List Item) (b : Block) (js : Waiting) (control : Control Code) → open_of (AtBlock b js) control ≡ Closed
  block_closed st b js control = refl

  pub step_capt : (x : Still) (a j : ℕ) {w : World} {m y d : ℕ} {q : ProcTree} {own : Own} {old new : List Entry} {rs : List Env} {control : Control Code}
      {gs fs : AnfFrames} {slots : List Word} {top ms : List MacFrame} → d < 17 → Entered p m q → slice_get q.captured j ≡ Some y →
      IsIn (Stands (Reg a) (Itself m)) old → Into (Reg d) (IsThat (Variable 0 y)) Same new old →
      HasNote p notes (x.pc + 1) (Inside (AtBlock (settled q.body) ToCaller) own new) →
      PtRel p notes x.st (AtBlock (settled q.body) ToCaller) rs gs fs control → Holds p x.st w rs x.regs slots old → OwnRel own slots top ms → FsRel p notes w fs ms →
      Mem p notes limit w (AtBlock (settled q.body) ToCaller) control x → length x.regs ≡ 17 → x.pc < limit →
      Sim p notes limit (done p notes limit c x top (I.Capt d a j)) (limit - x.pc) (source p notes limit x control gs)
  step_capt x a j {w = w} {m = m} {y = y} {d = d} {q = q} {old = old} {new = new} {rs = rs} {slots = slots} lt en at i into n pr h o f mem len within =
      capt_of x a j refl lt into n pr h o f mem len within (h.holds (Reg a) (Itself m) i).here (h.holds (Reg a) (Itself m) i).means (h.holds (Reg a) (Itself m) i).rel (subst (λ xs. slice_get xs j ≡ Some y) (sym (ap captured_by en.there)) at)
