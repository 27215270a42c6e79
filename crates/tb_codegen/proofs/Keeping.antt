-- Code that follows its notes keeps the program in A-normal form: events, what is held, and what is made.
use Rattle.std.proofs.Common.{◌≡◌, refl, sym, ◌∙◌, subst, ap, ℕ, zero, suc, ◌+◌, ◌%◌, ◌≤◌, true, arith, ⊎_elim, List, [], ◌∷◌, ◌++◌, length, drop, Option, Some, slice_get}
use Rattle.tb_prim.specs.declared.event.Event.{Event}
use Rattle.tb_semantics.specs.Graph.{Graph, IsIn, root, below, total, with_roots}
use Rattle.tb_semantics.specs.Keeps.{Fits, Keeps}
use Rattle.tb_semantics.specs.Runs.{after}
use Rattle.tb_semantics.proofs.ListLemmas.{in-cases, in-left, in-right}
use Rattle.tb_semantics.proofs.Reachable.{total-more}
use Rattle.tb_semantics.proofs.Simulation.{Alike, keeps_from}
use Rattle.tb_core.specs.Space.{values_locations}
use Rattle.tb_ir.specs.AnfTree.{AnfTree}
use Rattle.tb_ir.specs.AnfMachine.{AnfConfig, AnfFrames, AnfState, anf_machine, language}
use Rattle.tb_ir.specs.Machine.{Closure, Entering, Item, Running, config_of, mark_top, start_of}
use Rattle.tb_ir.specs.Measures.{anf_measured, shape_of}
use Rattle.tb_ir.specs.Space.{closures_in, control_locations, frames_locations, made, made_of, marks, of_item, words_in}
use Rattle.tb_ir.proofs.OwnSteps.{anf-steps}
use Rattle.tb_ir.proofs.Steps.{in-order}
use Rattle.tb_mac.specs.declared.code.Instr.{Instr}
use Rattle.tb_mac.specs.declared.word.Word.{Word}
use Rattle.tb_mac.specs.Assembled.{Assembled}
use Rattle.tb_mac.specs.Frames.{Framed}
use Rattle.tb_mac.specs.FramedRuns.{FramedState, Runs, framed_made, framed_of, framed_shape, framed_start, made_in, measured_machine}
use Rattle.tb_mac.specs.Layout.{globals_size}
use Rattle.tb_mac.specs.LiveWords.{closure_count, counts_now, data_size, is_counted, object_size as words_from}
use Rattle.tb_codegen.specs.Notes.{Entry, Stands, Spot, Reg, Itself, Note, Inside, AtProc, AtArgs, Own, Point}
use Rattle.tb_codegen.proofs.Ok.{Follows, Further, HasNote, Ok, ok_args, ok_args_ge, ok_proc}
use Rattle.tb_codegen.proofs.Rel.{Chained, ch_end, ch_more, globals_words, Goes, Closed, Memory, Onto, Open, Rel, r_args, r_calls, r_failed, r_full, r_inside, r_lifted, r_lost, r_stopped, World, framed, open_of}
use Rattle.tb_codegen.proofs.Sim.{measure}
use Rattle.tb_codegen.proofs.Space.{Cover, closed_graph, control_root, entry_cover, frames_root, frames_waiting, graph, inside_cover, lifted_cover, marked_locations, own_frames, point_marks, totals}
use Rattle.tb_codegen.proofs.Steps.{Unmarked}
use Rattle.tb_codegen.proofs.Whole.{AllConstants, R, moves, same_events}

-- only register 0 holds the procedure itself
pub record OnlyFirst (p : AnfTree) (notes : List Note) : Type 0 where
  pub only : (pc : ℕ) (pt : Point) (own : Own) (map : List Entry) → HasNote p notes pc (Inside pt own map) → (q : Spot) (m : ℕ) → IsIn (Stands q (Itself m)) map → q ≡ Reg 0

-- what is made, word for word
drop_drop : (a b : ℕ) (xs : List Word) → drop b (drop a xs) ≡ drop (a + b) xs
drop_drop zero b xs = let z : 0 + b ≡ b = omega arith in ap (λ n. drop n xs) (sym z)
drop_drop (suc a) zero [] = drop_none (suc a + 0)
  where
    drop_none : (n : ℕ) → [] ≡ drop {A = Word} n []
    drop_none zero = refl
    drop_none (suc n) = refl
drop_drop (suc a) (suc b) [] = drop_none (suc a + suc b)
  where
    drop_none : (n : ℕ) → [] ≡ drop {A = Word} n []
    drop_none zero = refl
    drop_none (suc n) = refl
drop_drop (suc a) b (x ∷ xs) = let z : suc a + b ≡ suc (a + b) = omega arith in drop_drop a b xs ∙ ap (λ n. drop n (x ∷ xs)) (sym z)

get_drop : (xs : List Word) (i : ℕ) (u : Word) → slice_get xs i ≡ Some u → drop i xs ≡ u ∷ drop (suc i) xs
get_drop [] i u e = cc
get_drop (x ∷ xs) zero u e = let q : x ≡ u = cc (e) in ap (λ x. x ∷ xs) q
get_drop (x ∷ xs) (suc i) u e = get_drop xs i u e

drop_all : (xs : List Word) (a : ℕ) → a ≡ length xs → drop a xs ≡ []
drop_all [] zero e = refl
drop_all [] (suc a) e = absurd (omega arith)
drop_all (x ∷ xs) zero e = absurd (omega arith)
drop_all (x ∷ xs) (suc a) e = drop_all xs a (omega arith)

made_none : (k : ℕ) → made_in k [] ≡ 0
made_none zero = refl
made_none (suc k) = refl

made_chained : (heap : List Word) (k a n : ℕ) → Chained heap a n → made_in k (drop a heap) ≤ n
made_chained heap zero a n h = omega arith
made_chained heap (suc k) a n (ch_end e) = let q = drop_all heap a e in rw q (omega arith)
made_chained heap (suc k) a n (ch_more {n = m} {u = u} e h) =
    let q = get_drop heap a u e in
    let d : drop (words_from (Some u)) (u ∷ drop (suc a) heap) ≡ drop (a + words_from (Some u)) heap = ap (drop (words_from (Some u))) (sym q) ∙ drop_drop a (words_from (Some u)) heap in
    let r = made_chained heap k (a + words_from (Some u)) m h in
    let s : made_in k (drop (words_from (Some u)) (u ∷ drop (suc a) heap)) ≤ m = subst (λ xs. made_in k xs ≤ m) (sym d) r in
    subst (λ xs. made_in (suc k) xs ≤ closure_count (Some u) + data_size (Some u) + m) (sym q) (omega arith)

marks_le : (gs : AnfFrames) → marks (mark_top gs) ≤ marks gs + 1
marks_le [] = omega arith
marks_le (g ∷ gs) = omega arith

module _ (p : AnfTree) (notes : List Note) (c : Assembled) (fo : Follows p notes c) (consts : AllConstants p notes) (only : OnlyFirst p notes) where
  -- an instruction at which operands are counted
  counts_at : (m : Framed) (i : Instr) → slice_get c.code m.pc ≡ Some i → is_counted c.parts.lambdas i ≡ true → counts_now c m ≡ true
  counts_at m i e h = rw e h

  proc_counts : (m : Framed) (n : ℕ) → HasNote p notes m.pc (AtProc n) → counts_now c m ≡ true
  proc_counts m n note = let k = fo.each m.pc _ note in counts_at m k.0 k.1 (counted k.0 _ k.2.0 k.2.1)
    where
      counted : (i : Instr) (pl : _) (o : Option Note) → Ok p (HasNote p notes) (Further p notes m.pc) i pl (AtProc n) o → is_counted c.parts.lambdas i ≡ true
      counted i pl o (ok_proc _ q en) = let l = fo.lambdas n q en.there in let k = en.kept in rw (l, k) refl

  args_counts : (m : Framed) (n : ℕ) → HasNote p notes m.pc (AtArgs n) → counts_now c m ≡ true
  args_counts m n note = let k = fo.each m.pc _ note in counts_at m k.0 k.1 (counted k.0 _ k.2.0 k.2.1)
    where
      counted : (i : Instr) (pl : _) (o : Option Note) → Ok p (HasNote p notes) (Further p notes m.pc) i pl (AtArgs n) o → is_counted c.parts.lambdas i ≡ true
      counted i pl o (ok_args _ q se en rest count ap_xs ca st) = refl
      counted i pl o (ok_args_ge _ q se en rest count few ap_xs ca st) = refl

  -- from what is covered
  fits_covered : (w : World) (o : Open) (m : Framed) (k : AnfConfig) (input : List ℕ) (es : List Event) → Memory p notes w o m.heap k.store k.globals m.ahead input k.input k.met_end → Cover p notes w c m (graph p notes c fo k) →
      length m.frames ≤ marks k.frames + 1 → Fits 1 (framed_shape c m) (shape_of (language p) (length p.statics) (Running k es))
  fits_covered w o m k input es mem cover fr =
      let t = totals p notes c fo w o (globals_words p notes) m k mem.stores cover in
      let a = t.0 in let b = t.1 in
      let n = mem.count in
      let g : length c.parts.globals ≡ length p.globals = ap length fo.globals in
      record { frames = fr; closures = a; words = omega arith }

  -- a configuration that holds what another does fits more
  onto_total : (size : Item → ℕ) (k d : AnfConfig) → Onto p notes k d → total (λ l. of_item size (slice_get k.store l)) (graph p notes c fo k) ≤ total (λ l. of_item size (slice_get d.store l)) (graph p notes c fo d)
  onto_total size k d h =
      let rd = below (length p.statics) ++ (control_locations d.control ++ (frames_locations (language p).values d.frames ++ values_locations d.globals)) in
      let g : List Item → Graph = λ st. with_roots (graph p notes c fo (record k { store = st })) rd in
      let le : total (λ l. of_item size (slice_get k.store l)) (graph p notes c fo k) ≤ total (λ l. of_item size (slice_get k.store l)) (g k.store) =
      total-more (λ l. of_item size (slice_get k.store l)) (graph p notes c fo k) rd (closed_graph p k) (λ l i. root (roots_onto k d h l i)) in
      subst (λ st. total (λ l. of_item size (slice_get k.store l)) (graph p notes c fo k) ≤ total (λ l. of_item size (slice_get st l)) (g st)) (sym h.store) le
    where
      roots_onto : (k d : AnfConfig) → Onto p notes k d → (l : ℕ) → IsIn l (below (length p.statics) ++ (control_locations k.control ++ (frames_locations (language p).values k.frames ++ values_locations k.globals))) →
          IsIn l (below (length p.statics) ++ (control_locations d.control ++ (frames_locations (language p).values d.frames ++ values_locations d.globals)))
      roots_onto k d h l i =
          let fk = frames_locations (language p).values k.frames in
          let fd = frames_locations (language p).values d.frames in
          let into : IsIn l (control_locations d.control ++ fd) → IsIn l (below (length p.statics) ++ (control_locations d.control ++ (fd ++ values_locations d.globals))) =
          λ j. in-right (below (length p.statics)) _ l (⊎_elim (in-left (control_locations d.control) _ l) (λ j. in-right (control_locations d.control) _ l (in-left fd _ l j)) (in-cases (control_locations d.control) fd l j)) in
          ⊎_elim (in-left (below (length p.statics)) _ l)
          (λ i. ⊎_elim (λ j. into (h.roots l (in-left (control_locations k.control) fk l j)))
          (λ i. ⊎_elim (λ j. into (h.roots l (in-right (control_locations k.control) fk l j)))
          (λ j. in-right (below (length p.statics)) _ l (in-right (control_locations d.control) _ l (in-right fd _ l (subst (λ gs. IsIn l (values_locations gs)) (sym h.globals) j))))
          (in-cases fk (values_locations k.globals) l i))
          (in-cases (control_locations k.control) (fk ++ values_locations k.globals) l i))
          (in-cases (below (length p.statics)) (control_locations k.control ++ (fk ++ values_locations k.globals)) l i)

  fits_onto : (m : Framed) (k d : AnfConfig) (es now : List Event) (s : AnfState) → config_of s ≡ d → Onto p notes k d → Fits 1 (framed_shape c m) (shape_of (language p) (length p.statics) (Running k es)) → Fits 1 (framed_shape c m) (shape_of (language p) (length p.statics) s)
  fits_onto m k d es now s e h f =
      let a = onto_total closures_in k d h in
      let b = onto_total words_in k d h in
      let fr = f.frames in let cl = f.closures in let wo = f.words in
      let mk = h.marked in
      let gl : length d.globals ≡ length k.globals = ap length h.globals in
      let g : Fits 1 (framed_shape c m) (shape_of (language p) (length p.statics) (Running d es)) = record { frames = omega arith; closures = omega arith; words = omega arith } in
      subst (λ d. Fits 1 (framed_shape c m) (record { frames = marks d.frames; closures = total (λ l. of_item closures_in (slice_get d.store l)) (graph p notes c fo d); words = length d.globals + total (λ l. of_item words_in (slice_get d.store l)) (graph p notes c fo d) })) (sym e) g

  pub fits : (w : World) (t : FramedState) (s : AnfState) → Rel p notes w t s → Fits 1 (framed_shape c (framed_of t)) (shape_of (language p) (length p.statics) s)
  fits w t s (r_inside {pc = pc} {regs = regs} {heap = hp} {gap = gap} {slots = slots} {top = top} {ms = ms} {ahead = ahead} {input = inp} {cin = cin} {control = control} {gs = gs} {fs = fs} {globals = globals} {st = st} {met = met} {pt = pt} {own = own} {map = map} {rs = rs} es n pr h o f mem len) =
      let m = framed p notes pc regs hp gap top ahead in
      let k : AnfConfig = record { control = control; frames = gs; globals = globals; store = st; input = cin; met_end = met } in
      let a = own_frames p notes c fo w own slots top ms fs o f in
      let b = point_marks p notes c fo w st pt rs gs fs control pr in
      fits_covered w (open_of pt control) m k inp es mem (inside_cover p notes c fo consts w m k inp pt own map rs fs slots ms n pr h o f len mem (only.only pc pt own map n)) (omega arith)
  fits w t s (r_calls {pc = pc} {m = n} {l = l} {regs = regs} {heap = hp} {gap = gap} {ms = ms} {ahead = ahead} {input = inp} {cin = cin} {control = control} {f = f0} {gs = gs} {fs = fs} {globals = globals} {st = st} {met = met} {vs = vs} es note call about e f mem len) =
      let m = framed p notes pc regs hp gap ms ahead in
      let k : AnfConfig = record { control = control; frames = gs; globals = globals; store = st; input = cin; met_end = met } in
      let a = frames_waiting p notes c fo w (f0 ∷ fs) ms f in
      let b = marks_le gs in
      let q : marks (f0 ∷ fs) ≡ marks (mark_top gs) = ap marks e in
      fits_covered w _ m k inp es mem
      (entry_cover p notes c fo consts w m k inp n l vs (f0 ∷ fs) (fo.maps pc _ note) (proc_counts m n note) call about.reached f
      (λ z i. frames_root p notes c fo consts k z (marked_locations p notes c fo consts gs z (subst (λ fs. IsIn z (frames_locations (language p).values fs)) e i))) len mem) (omega arith)
  fits w t s (r_args {pc = pc} {m = n} {l = l} {regs = regs} {heap = hp} {gap = gap} {ms = ms} {ahead = ahead} {input = inp} {cin = cin} {f = f0} {fs = fs} {globals = globals} {st = st} {met = met} {vs = vs} es note call f mem len) =
      let m = framed p notes pc regs hp gap ms ahead in
      let k : AnfConfig = record { control = Entering (Closure l) vs; frames = f0 ∷ fs; globals = globals; store = st; input = cin; met_end = met } in
      let a = frames_waiting p notes c fo w (f0 ∷ fs) ms f in
      fits_covered w _ m k inp es mem
      (entry_cover p notes c fo consts w m k inp n l vs (f0 ∷ fs) (fo.maps pc _ note) (args_counts m n note) call (λ z i. control_root p notes c fo consts k z i) f
      (λ z i. frames_root p notes c fo consts k z i) len mem) (omega arith)
  fits w t s (r_lifted {pc = pc} {m = n} {regs = regs} {heap = hp} {gap = gap} {ms = ms} {ahead = ahead} {input = inp} {cin = cin} {control = control} {f = f0} {gs = gs} {fs = fs} {globals = globals} {st = st} {met = met} {vs = vs} {map = map} es q note lf st0 count ins about e f mem len) =
      let m = framed p notes pc regs hp gap ms ahead in
      let k : AnfConfig = record { control = control; frames = gs; globals = globals; store = st; input = cin; met_end = met } in
      let a = frames_waiting p notes c fo w (f0 ∷ fs) ms f in
      let b = marks_le gs in
      let q2 : marks (f0 ∷ fs) ≡ marks (mark_top gs) = ap marks e in
      fits_covered w _ m k inp es mem
      (lifted_cover p notes c fo consts w m k inp n q.params _ vs (f0 ∷ fs) map note st0 count ins about.reached f
      (λ z i. frames_root p notes c fo consts k z (marked_locations p notes c fo consts gs z (subst (λ fs. IsIn z (frames_locations (language p).values fs)) e i))) len mem) (omega arith)
  fits w t s (r_full {m = m} {input = input} {es = es} e r) = fits w (Runs m input es) s r
  fits w t s (r_stopped {m = m} {input = input} {c = k} {es = es} r) = fits w (Runs m input es) (Running k es) r
  fits w t s (r_failed {m = m} {input = input} {c = k} {d = d} {es = es} {now = now} r h) = fits_onto m k d es now s refl h (fits w (Runs m input es) (Running k es) r)
  fits w t s (r_lost {m = m} {input = input} {c = k} {d = d} {es = es} e r h) = fits_onto m k d es es s refl h (fits w (Runs m input es) (Running k es) r)

  -- what is made
  made_words : (w : World) (o : Open) (m : Framed) (k : AnfConfig) (input : List ℕ) → Memory p notes w o m.heap k.store k.globals m.ahead input k.input k.met_end → framed_made c m ≤ made k.store
  made_words w o m k input mem =
      let st = mem.stores in
      let g : globals_size c.parts ≡ globals_words p notes = ap (λ n. n + n % 2) (ap length fo.globals) in
      let a = subst (λ g. made_in (length m.heap) (drop g m.heap) ≤ st.total) (sym g) (made_chained m.heap (length m.heap) (globals_words p notes) st.total st.chained) in
      let b = st.made in
      omega arith

  pub keeps_made : (w : World) (t : FramedState) (s : AnfState) → Rel p notes w t s → framed_made c (framed_of t) ≤ made_of s
  keeps_made w t s (r_inside {pc = pc} {regs = regs} {heap = hp} {gap = gap} {top = top} {ahead = ahead} {input = inp} {cin = cin} {control = control} {gs = gs} {globals = globals} {st = st} {met = met} {pt = pt} es n pr h o f mem len) =
      made_words w (open_of pt control) (framed p notes pc regs hp gap top ahead) (record { control = control; frames = gs; globals = globals; store = st; input = cin; met_end = met }) inp mem
  keeps_made w t s (r_calls {pc = pc} {regs = regs} {heap = hp} {gap = gap} {ms = ms} {ahead = ahead} {input = inp} {cin = cin} {control = control} {gs = gs} {globals = globals} {st = st} {met = met} es note call about e f mem len) =
      made_words w Closed (framed p notes pc regs hp gap ms ahead) (record { control = control; frames = gs; globals = globals; store = st; input = cin; met_end = met }) inp mem
  keeps_made w t s (r_args {pc = pc} {l = l} {regs = regs} {heap = hp} {gap = gap} {ms = ms} {ahead = ahead} {input = inp} {cin = cin} {f = f0} {fs = fs} {globals = globals} {st = st} {met = met} {vs = vs} es note call f mem len) =
      made_words w Closed (framed p notes pc regs hp gap ms ahead) (record { control = Entering (Closure l) vs; frames = f0 ∷ fs; globals = globals; store = st; input = cin; met_end = met }) inp mem
  keeps_made w t s (r_lifted {pc = pc} {regs = regs} {heap = hp} {gap = gap} {ms = ms} {ahead = ahead} {input = inp} {cin = cin} {control = control} {gs = gs} {globals = globals} {st = st} {met = met} es q note lf st0 count ins about e f mem len) =
      made_words w Closed (framed p notes pc regs hp gap ms ahead) (record { control = control; frames = gs; globals = globals; store = st; input = cin; met_end = met }) inp mem
  keeps_made w t s (r_full {m = m} {input = input} {es = es} e r) = keeps_made w (Runs m input es) s r
  keeps_made w t s (r_stopped {m = m} {input = input} {c = k} {es = es} r) = keeps_made w (Runs m input es) (Running k es) r
  keeps_made w t s (r_failed {m = m} {input = input} {c = k} {d = d} {es = es} {now = now} r h) = let e = h.store in subst (λ st. framed_made c m ≤ made st) (sym e) (keeps_made w (Runs m input es) (Running k es) r)
  keeps_made w t s (r_lost {m = m} {input = input} {c = k} {d = d} {es = es} e r h) = let q = h.store in subst (λ st. framed_made c m ≤ made st) (sym q) (keeps_made w (Runs m input es) (Running k es) r)

  -- code that follows its notes keeps the program, when both start alike
  module _ (heap : ℕ) (input : List ℕ) (clean : (n : ℕ) → Unmarked (config_of (after (anf_machine p input) n)).control) where
    keeps_all : (w : World) (t : FramedState) (s : AnfState) → Rel p notes w t s → Alike (measured_machine c heap input) (anf_measured p input) 1 t s
    keeps_all w t s r = record { events = same_events p notes w t s r; fits = fits w t s r; made = keeps_made w t s r }

    pub keeps_started : Goes p notes (Runs (framed_start c heap) input []) (Running (start_of p.globals p.statics input) []) → Keeps (measured_machine c heap input) (anf_measured p input) 1
    keeps_started g = keeps_from (measured_machine c heap input) (anf_measured p input) 1 (record {
      R = R p notes c heap input fo consts;
      size_t = measure p notes (length c.code);
      size_s = λ s. 0;
      starts = (g, record { moment = 0; comes = refl });
      moves = moves p notes c heap input fo consts clean;
      alike = λ t s r. let g = r.0 in keeps_all g.0 t s g.1;
      in_order = in-order (language p) (anf-steps p) p.globals p.statics input;
    })
