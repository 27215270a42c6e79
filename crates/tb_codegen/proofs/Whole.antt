-- Code that follows its notes moves on as the program in A-normal form does.
use Rattle.std.proofs.Common.{◌≡◌, refl, ◌∙◌, subst, ap, ℕ, zero, suc, ◌+◌, ◌-◌, arith, ⊎_elim, List, ◌∷◌, length, Option}
use Rattle.tb_prim.specs.declared.place.Place.{Place}
use Rattle.tb_prim.specs.declared.event.Event.{Event}
use Rattle.tb_semantics.specs.Runs.{run, after}
use Rattle.tb_semantics.specs.Keeps.{Measured}
use Rattle.tb_semantics.proofs.RunLaws.{run-add}
use Rattle.tb_semantics.proofs.Simulation.{Moves, answered_by, target_moves, becomes_full}
use Rattle.tb_ir.specs.AnfTree.{AnfTree, ProcTree}
use Rattle.tb_core.specs.Space.{values_locations}
use Rattle.tb_core.specs.Store.{Value}
use Rattle.tb_ir.specs.AnfMachine.{AnfFrames, AnfState, AnfWork, Code, anf_machine}
use Rattle.tb_ir.specs.Machine.{Closure, Lifted, Control, Entering, Frame, config_of, events_of, mark_top}
use Rattle.tb_ir.specs.Measures.{anf_measured}
use Rattle.tb_mac.specs.declared.code.Instr.{Instr}
use Rattle.tb_mac.specs.Assembled.{Assembled}
use Rattle.tb_mac.specs.FramedRuns.{FramedState, framed_events, measured_machine}
use Rattle.tb_mac.specs.Frames.{Frame as MacFrame}
use Rattle.tb_mac.specs.MacStep.{place_of}
use Rattle.tb_codegen.specs.Notes.{Entry, Note, Inside, AtProc, AtArgs, AtLifted, Own, Point}
use Rattle.tb_codegen.proofs.Entries.{step_args, step_lifted, step_proc}
use Rattle.tb_codegen.proofs.Envs.{get-within}
use Rattle.tb_codegen.proofs.Moves.{done}
use Rattle.tb_codegen.proofs.Ok.{Falls, Follows, Further, HasNote, Lifts, Ok, ok_args, ok_args_ge, ok_lifted, ok_proc}
use Rattle.tb_codegen.proofs.Rel.{AboutTo, AtCall, Closed, FsRel, Ins, Memory, config, Goes, Rel, r_args, r_calls, r_failed, r_full, r_inside, r_lifted, r_lost, r_stopped, World, step_of}
use Rattle.tb_codegen.proofs.RestLists.{step_args_ge}
use Rattle.tb_codegen.proofs.Sim.{Sim, Still, measure, source}
use Rattle.tb_codegen.proofs.Steps.{Constants, Unmarked, step_inside}

-- the constants of all maps can be written
pub record AllConstants (p : AnfTree) (notes : List Note) : Type 0 where
  pub all : (pc : ℕ) (pt : Point) (own : Own) (map : List Entry) → HasNote p notes pc (Inside pt own map) → Constants p map

-- both have the same events
pub same_events : (p : AnfTree) (notes : List Note) (w : World) (t : FramedState) (s : AnfState) → Rel p notes w t s → framed_events t ≡ events_of s
same_events p notes w t s (r_inside es n pr h o f mem len) = refl
same_events p notes w t s (r_calls es n call about e f mem len) = refl
same_events p notes w t s (r_args es n call f mem len) = refl
same_events p notes w t s (r_lifted es q n lf st count ins about e f mem len) = refl
same_events p notes w t s (r_full e r) = same_events p notes w _ s r
same_events p notes w t s (r_stopped r) = refl
same_events p notes w t s (r_failed r e) = refl
same_events p notes w t s (r_lost e r q) = refl

module _ (p : AnfTree) (notes : List Note) (c : Assembled) (heap : ℕ) (input : List ℕ) (fo : Follows p notes c) (consts : AllConstants p notes) where
  abbrev limit : ℕ
  limit = length c.code

  abbrev mac : Measured Event FramedState
  mac = measured_machine c heap input

  abbrev anf : Measured Event AnfState
  anf = anf_measured p input

  -- a state of the source that a run comes to
  pub record Reached (s : AnfState) : Type 0 where
    pub moment : ℕ
    pub comes : after (anf_machine p input) moment ≡ s

  reached_on : (s : AnfState) (m : ℕ) → Reached s → Reached (run (step_of p notes) m s)
  reached_on s m r = record { moment = r.moment + m; comes = run-add (step_of p notes) r.moment m _ ∙ ap (run (step_of p notes) m) r.comes }

  abbrev pub R : FramedState → AnfState → Type 0
  R t s = Goes p notes t s × Reached s

  -- from what a step comes to
  moves_from : (t : FramedState) (s : AnfState) → Sim p notes limit (mac.machine.step t) (measure p notes limit t) s → Reached s → Moves mac anf R (measure p notes limit) (λ s. 0) t s
  moves_from t s (zero, g, alt) r =
      ⊎_elim (λ lt. absurd (omega arith)) (λ d. ⊎_elim (λ lt. target_moves (g, r) lt) (λ full. becomes_full 0 full (g, r)) d) alt
  moves_from t s (suc m, g, alt) r = answered_by (suc m) (omega arith) (g, reached_on s (suc m) r)

  module _ (clean : (n : ℕ) → Unmarked (config_of (after (anf_machine p input) n)).control) where
    clean_at : (s : AnfState) → Reached s → Unmarked (config_of s).control
    clean_at s r = subst (λ s. Unmarked (config_of s).control) r.comes (clean r.moment)

    -- at the entry of a procedure
    at_proc : (x : Still) {w : World} {m l : ℕ} {control : Control Code} {f : Frame AnfWork} {gs fs : AnfFrames} {vs : List Value} {ms : List MacFrame} (i : Instr) (pl : Option Place) (o : Option Note) →
        Ok p (HasNote p notes) (Further p notes x.pc) i pl (AtProc m) o → Falls p notes x.pc o → AtCall p w x.st m x.regs l vs →
        AboutTo p notes (config p notes control gs x.globals x.st x.cin x.met) (Closure l) vs m x.es (l ∷ values_locations vs) → f ∷ fs ≡ mark_top gs → FsRel p notes w (f ∷ fs) ms →
        Memory p notes w Closed x.heap x.st x.globals x.ahead x.input x.cin x.met → length x.regs ≡ 17 →
        Sim p notes limit (done p notes limit c x ms i) (limit - x.pc) (source p notes limit x control gs)
    at_proc x i pl o (ok_proc m q en) next call about e f mem len = step_proc p notes limit c x (limit - x.pc) next call about e f mem len

    at_args : (x : Still) {w : World} {m l : ℕ} {f : Frame AnfWork} {fs : AnfFrames} {vs : List Value} {ms : List MacFrame} (i : Instr) (pl : Option Place) (o : Option Note) →
        Ok p (HasNote p notes) (Further p notes x.pc) i pl (AtArgs m) o → place_of c.places x.pc ≡ pl → Falls p notes x.pc o → HasNote p notes x.pc (AtArgs m) → AtCall p w x.st m x.regs l vs → FsRel p notes w (f ∷ fs) ms →
        Memory p notes w Closed x.heap x.st x.globals x.ahead x.input x.cin x.met → length x.regs ≡ 17 →
        Sim p notes limit (done p notes limit c x ms i) (limit - x.pc) (source p notes limit x (Entering (Closure l) vs) (f ∷ fs))
    at_args x i pl o (ok_args m q se en rest count ap_xs ca starts) place next here call f mem len = step_args p notes limit c x (limit - x.pc) q se en rest count ap_xs ca starts place next here call f mem len
    at_args x i pl o (ok_args_ge m q se en rest count few ap_xs ca starts) place next here call f mem len = step_args_ge p notes limit c x (limit - x.pc) q se en rest count few ap_xs ca starts place next here call f mem len

    at_lifted : (x : Still) {w : World} {m : ℕ} {control : Control Code} {f : Frame AnfWork} {gs fs : AnfFrames} {vs : List Value} {ms : List MacFrame} {map : List Entry} (q0 : ProcTree) (i : Instr) (pl : Option Place) (o : Option Note) →
        Ok p (HasNote p notes) (Further p notes x.pc) i pl (AtLifted m map) o → Falls p notes x.pc o → Lifts p m q0 → length vs ≡ length q0.params → Ins w x.regs 1 vs →
        AboutTo p notes (config p notes control gs x.globals x.st x.cin x.met) (Lifted m) vs m x.es (values_locations vs) → f ∷ fs ≡ mark_top gs → FsRel p notes w (f ∷ fs) ms →
        Memory p notes w Closed x.heap x.st x.globals x.ahead x.input x.cin x.met → length x.regs ≡ 17 →
        Sim p notes limit (done p notes limit c x ms i) (limit - x.pc) (source p notes limit x control gs)
    at_lifted x {vs = vs} q0 i pl o (ok_lifted m q se lf starts from) next lf0 count ins about e f mem len =
        let same : q0 ≡ q = cc (lf0.there, lf.there) in
        step_lifted p notes limit c x (limit - x.pc) q se lf starts (subst (λ (q : ProcTree). length vs ≡ length q.params) same count) ins next about e f mem len

    pub moves : (t : FramedState) (s : AnfState) → R t s → Moves mac anf R (measure p notes limit) (λ s. 0) t s
    moves t s (g, r) = moves_of g.0 t s g.1 r
      where
        moves_of : (w : World) (t : FramedState) (s : AnfState) → Rel p notes w t s → Reached s → Moves mac anf R (measure p notes limit) (λ s. 0) t s
        moves_of w t s (r_inside {pc = pc} {regs = regs} {heap = hp} {gap = gap} {top = top} {ahead = ahead} {input = inp} {cin = cin} {control = control} {gs = gs} {globals = globals} {st = st} {met = met} {pt = pt} {own = own} {map = map} es n pr h o f mem len) r =
            let k = fo.each pc _ n in
            let x : Still = record { pc = pc; regs = regs; heap = hp; gap = gap; ahead = ahead; input = inp; globals = globals; st = st; cin = cin; met = met; es = es } in
            let i = k.1 in
            moves_from _ _ (rw i (step_inside p notes limit c fo.globals fo.statics x k.0 _ k.2.0 k.2.1 refl k.2.2 n (consts.all pc pt own map n) (clean_at _ r) pr h o f mem len (get-within c.code pc k.0 k.1))) r
        moves_of w t s (r_calls {pc = pc} {m = m} {regs = regs} {heap = hp} {gap = gap} {ms = ms} {ahead = ahead} {input = inp} {cin = cin} {control = control} {gs = gs} {globals = globals} {st = st} {met = met} es n call about e f mem len) r =
            let k = fo.each pc _ n in
            let x : Still = record { pc = pc; regs = regs; heap = hp; gap = gap; ahead = ahead; input = inp; globals = globals; st = st; cin = cin; met = met; es = es } in
            let i = k.1 in
            moves_from _ _ (rw i (at_proc x k.0 _ k.2.0 k.2.1 k.2.2 call about e f mem len)) r
        moves_of w t s (r_args {pc = pc} {m = m} {regs = regs} {heap = hp} {gap = gap} {ms = ms} {ahead = ahead} {input = inp} {cin = cin} {globals = globals} {st = st} {met = met} es n call f mem len) r =
            let k = fo.each pc _ n in
            let x : Still = record { pc = pc; regs = regs; heap = hp; gap = gap; ahead = ahead; input = inp; globals = globals; st = st; cin = cin; met = met; es = es } in
            let i = k.1 in
            moves_from _ _ (rw i (at_args x k.0 _ k.2.0 k.2.1 refl k.2.2 n call f mem len)) r
        moves_of w t s (r_lifted {pc = pc} {m = m} {regs = regs} {heap = hp} {gap = gap} {ms = ms} {ahead = ahead} {input = inp} {cin = cin} {control = control} {gs = gs} {globals = globals} {st = st} {met = met} es q n lf st0 count ins about e f mem len) r =
            let k = fo.each pc _ n in
            let x : Still = record { pc = pc; regs = regs; heap = hp; gap = gap; ahead = ahead; input = inp; globals = globals; st = st; cin = cin; met = met; es = es } in
            let i = k.1 in
            moves_from _ _ (rw i (at_lifted x q k.0 _ k.2.0 k.2.1 k.2.2 lf count ins about e f mem len)) r
        moves_of w t s (r_full e g) r = becomes_full 0 e ((w, r_full e g), r)
        moves_of w t s (r_stopped g) r = answered_by 1 (omega arith) ((w, r_stopped g), reached_on _ 1 r)
        moves_of w t s (r_failed g e) r = answered_by 1 (omega arith) ((w, r_failed g e), reached_on _ 1 r)
        moves_of w t s (r_lost e g q) r = answered_by 1 (omega arith) ((w, r_lost e g q), reached_on _ 1 r)
