-- Procedures that are made together: the source makes all at once, the machine one after another.
use Rattle.std.proofs.Common.{◌≡◌, refl, sym, ◌∙◌, subst, subst₂, ap, ℕ, zero, suc, ◌+◌, ◌-◌, ◌<◌, ◌≤◌, ◌⊎◌, Bool, cond, true, false, inl, inr, ⊎_elim, arith, List, [], ◌∷◌, ◌++◌, length, Option, Some, None, slice_get, slice_set, length-set, lt-ltb, le-ltb}
use Rattle.std.specs.Prelude.{drop, nat_le}
use Rattle.std.proofs.lemmas.Bool.{cases_Bool, cases_lt, le-leb, lt-leb}
use Rattle.tb_prim.specs.declared.event.Taken.{Taken}
use Rattle.tb_semantics.specs.Graph.{IsApart, IsIn}
use Rattle.tb_semantics.specs.Runs.{run}
use Rattle.tb_semantics.proofs.RunLaws.{run-add}
use Rattle.tb_semantics.proofs.ListLemmas.{get-left, get-some, set-other, in-cases, in-left, in-right}
use Rattle.tb_core.specs.FreeVariables.{is_in, of_lambdas}
use Rattle.tb_core.proofs.Members.{in-tested, in-without, tested-in}
use Rattle.tb_core.specs.Store.{Value, At}
use Rattle.tb_ir.specs.AnfTree.{Block, CloseAll, AnfTree, ProcTree}
use Rattle.tb_ir.specs.AnfMachine.{AnfFrames, AnfState, Code, InBlock, captured_by}
use Rattle.tb_ir.specs.Machine.{Control, Bound, Env, Empty, Eval, Item, Clo, bind_all, bind_located, closures, gather, lookup}
use Rattle.tb_ir.specs.Space.{made, made as made_of_store}
use Rattle.tb_mac.specs.declared.code.Instr.TheVariants as I
use Rattle.tb_mac.specs.declared.word.Word.{Word}
use Rattle.tb_mac.specs.declared.word.Word.TheVariants as W
use Rattle.tb_mac.specs.Assembled.{Assembled}
use Rattle.tb_mac.specs.Frames.{Frame as MacFrame}
use Rattle.tb_mac.specs.LiveWords.{closure_count, data_size}
use Rattle.tb_mac.specs.Objects.{new_procedure, procedure_kind, procedure_tag}
use Rattle.tb_codegen.specs.Notes.{Entry, Stands, Reg, Slot, Symbol, Variable, Own, Here, Note, Inside, AtBlock, AtAll, AtProc, Waiting}
use Rattle.tb_codegen.specs.Generate.{captured_in, settled, zeros}
use Rattle.tb_codegen.proofs.Cells.{at_end, at_next}
use Rattle.tb_codegen.proofs.Changes.{From, Into, IsThat, StandsAt, is_that, Kept, k_const, k_var, k_deep, Same}
use Rattle.tb_codegen.proofs.Closures.{half, filled_more, captured_there, in_procedure, long_procedure, mem_fill, procedure_made, p_fill, values_of}
use Rattle.tb_codegen.proofs.Envs.{get-in, get-set, get-within, lookup-gather, lookup-other, lookup-same}
use Rattle.tb_codegen.proofs.Holding.{Changes, fs-more, holds-from, holds-into, holds-slot, moved, Puts, same-means, under}
use Rattle.tb_codegen.proofs.Landing.{lands_block}
use Rattle.tb_codegen.proofs.Memories.{agree_left, p_agree}
use Rattle.tb_codegen.proofs.Moves.{done}
use Rattle.tb_codegen.proofs.Ok.{catches, Entered, Fulls, HasNote, Onward, not_yet, all_done, StandOr, free}
use Rattle.tb_codegen.proofs.Rel.{AllFacts, Closed, FsRel, globals_words, Holds, JRel, Lk, Means, m_name, Memory, OpenAll, ORel, o_here, o_cell, o_pair, o_vector, o_string, o_symbol, o_procedure, OwnRel, IsCut, Part, PRel, PtRel, at_block, at_all, r_full, r_inside, Rel, Stores, Whole, World, WRel, w_at, fill_of, filled, first_of, open_of, part_of, step_of, unmade}
use Rattle.tb_codegen.proofs.Sim.{Mem, Sim, Still, source, target}
use Rattle.tb_codegen.proofs.Stored.{stores_new}

-- variables that are bound to locations that follow one another
located : (xs : List ℕ) (l : ℕ) (r : Env) (i x : ℕ) → IsApart xs → slice_get xs i ≡ Some x → lookup (bind_located xs l r) x ≡ Some (At (l + i))
located [] l r i x a e = cc
located (y ∷ xs) l r zero x a e =
    let q : y ≡ x = cc (e) in
    let z : l + 0 ≡ l = omega arith in
    subst₂ (λ x n. lookup (bind_located (y ∷ xs) l r) x ≡ Some (At n)) q (sym z) (lookup-same y (At l) (bind_located xs (suc l) r))
located (y ∷ xs) l r (suc i) x a e =
    let z : suc l + i ≡ l + suc i = omega arith in
    lookup-other y x (At l) (bind_located xs (suc l) r) (λ q. a.0 (subst (λ y. IsIn y xs) (sym q) (get-in xs i x e)))
    ∙ located xs (suc l) r i x a.1 e ∙ ap (λ n. Some (At n)) z

not_located : (xs : List ℕ) (l : ℕ) (r : Env) (x : ℕ) → (IsIn x xs → ⊥) → lookup (bind_located xs l r) x ≡ lookup r x
not_located [] l r x ne = refl
not_located (y ∷ xs) l r x ne = lookup-other y x (At l) (bind_located xs (suc l) r) (λ q. ne (inl q)) ∙ not_located xs (suc l) r x (λ i. ne (inr i))

find : (xs : List ℕ) (x : ℕ) → IsIn x xs → (i : ℕ) × (slice_get xs i ≡ Some x)
find [] x i = absurd i
find (y ∷ xs) x (inl e) = (0, ap Some e)
find (y ∷ xs) x (inr i) = let t = find xs x i in (suc t.0, t.1)

closure_at : (captured : ℕ → List ℕ) (ls : List ℕ) (q : Env) (i m : ℕ) → slice_get ls i ≡ Some m → slice_get (closures captured ls q) i ≡ Some (Clo m (gather (captured m) q))
closure_at captured [] q i m e = cc
closure_at captured (l ∷ ls) q zero m e = let s : l ≡ m = cc (e) in ap (λ m. Some (Clo m (gather (captured m) q))) s
closure_at captured (l ∷ ls) q (suc i) m e = closure_at captured ls q i m e

made_closures : (captured : ℕ → List ℕ) (st : List Item) (ls : List ℕ) (q : Env) → made (st ++ closures captured ls q) ≡ made st + length ls
made_closures captured [] [] q = omega arith
made_closures captured [] (l ∷ ls) q = let h = made_closures captured [] ls q in omega arith
made_closures captured (i ∷ st) ls q = let h = made_closures captured st ls q in omega arith

length_zeros : (ls : List ℕ) → length (zeros ls) ≡ length ls
length_zeros [] = refl
length_zeros (l ∷ ls) = ap suc (length_zeros ls)

is_not_in : (xs : List ℕ) (x : ℕ) → (IsIn x xs → ⊥) → is_in xs x ≡ false
is_not_in xs x ne = ⊎_elim (λ e. absurd (ne (in-tested xs x e))) (λ e. e) (cases_Bool (is_in xs x))

-- the fill of a procedure of the group, and of one before it
fill_in : (l0 c i j : ℕ) (ns : List ℕ) → slice_get ns i ≡ Some j → fill_of (OpenAll l0 c ns) (l0 + i) ≡ Part j
fill_in l0 c i j ns e =
    let z : (l0 + i) - l0 ≡ i = omega arith in
    let t = le-leb l0 (l0 + i) (omega arith) in
    rw (t, z, e) refl

fill_before : (l0 c l : ℕ) (ns : List ℕ) → l < l0 → fill_of (OpenAll l0 c ns) l ≡ Whole
fill_before l0 c l ns lt = let t = lt-leb l0 l lt in rw t refl

-- a group that is open is so at its first variable
opens_at : (l0 c : ℕ) (ns xs : List ℕ) (k : Block) (q : Env) (ls : List ℕ) (js : Waiting) → lookup q (first_of xs) ≡ Some (At l0) → open_of (AtAll c ns xs ls k js) (Bound (InBlock k) q) ≡ OpenAll l0 c ns
opens_at l0 c ns xs k q ls js e = rw e refl

module _ (p : AnfTree) (notes : List Note) where
  -- a procedure that is filled is whole
  whole_of : (w : World) (heap : List Word) (a m j : ℕ) (us : List Value) (i : Item) → ORel p notes w heap (Part j) a i → i ≡ Clo m (bind_all (captured_in p m) us Empty) → j ≡ length (captured_in p m) → ORel p notes w heap Whole a i
  whole_of w heap a m j us i (o_cell hd pr) e q = o_cell hd pr
  whole_of w heap a m j us i (o_pair pr) e q = o_pair pr
  whole_of w heap a m j us i (o_vector few hd pr) e q = o_vector few hd pr
  whole_of w heap a m j us i (o_string few hd pr) e q = o_string few hd pr
  whole_of w heap a m j us i (o_symbol few hd pr) e q = o_symbol few hd pr
  whole_of w heap a m j us i (o_procedure n x ws hd cd note long er pr) e q =
      let en : n ≡ m = cc (e) in
      let z : j ≡ length ws = q ∙ sym (subst (λ m. length ws ≡ length (captured_in p m)) en long) in
      o_procedure n x ws hd cd note long er (subst (λ j. PRel w heap (a + 2) j ws) z pr)

  -- the group is closed
  mem_close : (w : World) (l0 c : ℕ) (ns xs ls : List ℕ) (q : Env) (heap : List Word) (st : List Item) (globals : List Value) (ahead : Option Taken) (input cin : List ℕ) (met : Bool) →
      Memory p notes w (OpenAll l0 c ns) heap st globals ahead input cin met → AllFacts p st l0 xs ls q → Fulls p ns ls → c ≡ length ls →
      Memory p notes w Closed heap st globals ahead input cin met
  mem_close w l0 c ns xs ls q heap st globals ahead input cin met mem facts full e = record {
    stores = record {
      linked = λ t a l k.
          let d = mem.stores.linked t a l k in
          record { item = d.item; there = d.there; tag = d.tag; rel = close t a l k d.item d.there d.rel };
      one_address = mem.stores.one_address;
      before = λ t a l k. tt;
      behind = mem.stores.behind;
      apart = mem.stores.apart;
      within = mem.stores.within;
      total = mem.stores.total;
      chained = mem.stores.chained;
      made = (let f = mem.stores.made in omega arith);
    };
    held = mem.held;
    count = mem.count;
    inputs = mem.inputs;
    padded = mem.padded;
    statics = mem.statics;
  }
    where
      close : (t a l : ℕ) → IsIn (Lk t a l) w → (i : Item) → slice_get st l ≡ Some i → ORel p notes w heap (fill_of (OpenAll l0 c ns) l) a i → ORel p notes w heap Whole a i
      close t a l k i there rel =
          ⊎_elim
          (λ lt. subst (λ q. ORel p notes w heap q a i) (fill_before l0 c l ns lt) rel)
          (λ ge.
          let n = l - l0 in
          let z : l0 + n ≡ l = omega arith in
          let b = mem.stores.before t a l k in
          let m = get-some ls n (omega arith) in
          let v = facts.values n m.0 m.1 in
          let same : i ≡ Clo m.0 (bind_all (captured_in p m.0) v.0 Empty) = cc (there, v.1, z) in
          let f = full.fulls n m.0 m.1 in
          let part : fill_of (OpenAll l0 c ns) l ≡ Part (length (captured_in p m.0)) = subst (λ l. fill_of (OpenAll l0 c ns) l ≡ Part (length (captured_in p m.0))) z (fill_in l0 c n _ ns f) in
          whole_of w heap a m.0 (length (captured_in p m.0)) v.0 i (subst (λ q. ORel p notes w heap q a i) part rel) same refl)
          (cases_lt l l0)

  module _ (limit : ℕ) where
    -- the group goes on, or it is done and the block behind it begins
    onward : (x y : Still) {w : World} {own : Own} {mid : List Entry} {c : ℕ} {ns xs ls : List ℕ} {k : Block} {js : Waiting} {new : Note} {gs fs : AnfFrames} {rs : List Env} {slots : List Word} {top ms : List MacFrame}
        (l0 : ℕ) (q : Env) (s : AnfState) (m : ℕ) →
        Onward p own mid c ns xs ls k js new → HasNote p notes y.pc new → run (step_of p notes) m s ≡ source p notes limit y (Bound (InBlock k) q) gs →
        (0 < m) ⊎ ((x.pc < y.pc) × (x.pc < limit)) → length xs ≡ length ls → AllFacts p y.st l0 xs ls q → JRel js rs gs fs → Holds p y.st w (q ∷ rs) y.regs slots mid →
        OwnRel own slots top ms → FsRel p notes w fs ms → Memory p notes w (OpenAll l0 c ns) y.heap y.st y.globals y.ahead y.input y.cin y.met → length y.regs ≡ 17 →
        Sim p notes limit (target p notes limit y top) (limit - x.pc) s
    onward x y {w = w} {c = c} {ns = ns} {xs = xs} {ls = ls} {k = k} {js = js} {gs = gs} {top = top} l0 q s m not_yet n e fall count facts jr h o f mem len =
        let mem2 = subst (λ o. Memory p notes w o y.heap y.st y.globals y.ahead y.input y.cin y.met) (sym (opens_at l0 c ns xs k q ls js facts.start)) mem in
        let rel : Rel p notes w (target p notes limit y top) (source p notes limit y (Bound (InBlock k) q) gs) = r_inside y.es n (at_all l0 c ns xs ls k q jr facts) h o f mem2 len in
        (m, (w, subst (Rel p notes w (target p notes limit y top)) (sym e) rel), ⊎_elim inl (λ d. let a = d.0 in let b = d.1 in inr (inl (omega arith))) fall)
    onward x y {w = w} {mid = mid} {c = c} {ns = ns} {xs = xs} {ls = ls} {k = k} {gs = gs} {rs = rs} {slots = slots} l0 q s m (all_done {new = new} se made full from) n e fall count facts jr h o f mem len =
        let there : run (step_of p notes) (m + 1) s ≡ source p notes limit y (Eval (InBlock k) (gather (free p k) q)) gs =
        run-add (step_of p notes) m 1 s ∙ ap (run (step_of p notes) 1) e in
        let hh = holds-from p y.st y.st w w (λ k i. i) (q ∷ rs) (gather (free p (settled k)) q ∷ rs) y.regs slots _ new mid h from
        (under p y.st y.st None (free p (settled k)) [] q (gather (free p (settled k)) q) rs (λ y i. lookup-gather (free p (settled k)) q y i)) in
        lands_block p notes limit y k q s (m + 1) (limit - x.pc) se there (omega arith) n jr hh o f
        (mem_close w l0 c ns xs ls q y.heap y.st y.globals y.ahead y.input y.cin y.met mem facts full (made ∙ count)) len

    module _ (c : Assembled) where
      named_value : (st : List Item) (r : Env) (rs : List Env) (y : ℕ) (v : Value) → Means p st (r ∷ rs) (Variable 0 y) v → lookup r y ≡ Some v
      named_value st r rs y v (m_name e) = e

      name_put : (st : List Item) (w : World) (u : Word) (q : Env) (rs : List Env) (x : ℕ) (v : Value) → lookup q x ≡ Some v → WRel w u v → Puts p st st (IsThat (Variable 0 x)) w u (q ∷ rs)
      name_put st w u q rs x v e r s is_that = (v, m_name e, r)

      -- the next procedure is made
      pub step_next : (x : Still) (l : ℕ) {w : World} {y m d n made : ℕ} {ns xs ls : List ℕ} {q : ProcTree} {k : Block} {js : Waiting} {own : Own} {old mid : List Entry} {new : Note}
          {rs : List Env} {control : Control Code} {gs fs : AnfFrames} {slots : List Word} {top ms : List MacFrame} →
          d < 17 → Entered p m q → n ≡ length q.captured → HasNote p notes l (AtProc m) → slice_get xs made ≡ Some y → slice_get ls made ≡ Some m → slice_get ns made ≡ Some 0 →
          length xs ≡ length ls → Into (Reg d) (IsThat (Variable 0 y)) Same mid old → Onward p own mid (suc made) ns xs ls k js new → HasNote p notes (x.pc + 1) new →
          HasNote p notes x.pc (Inside (AtAll made ns xs ls k js) own old) →
          PtRel p notes x.st (AtAll made ns xs ls k js) rs gs fs control → Holds p x.st w rs x.regs slots old → OwnRel own slots top ms → FsRel p notes w fs ms →
          Mem p notes limit w (AtAll made ns xs ls k js) control x → length x.regs ≡ 17 → x.pc < limit →
          Sim p notes limit (done p notes limit c x top (I.Clo d n l)) (limit - x.pc) (source p notes limit x control gs)
      step_next x l {w = w} {y = y} {m = m} {d = d} {n = n} {made = made} {ns = ns} {xs = xs} {ls = ls} {q = g} {k = k} {js = js} {old = old} {mid = mid} {slots = slots} {top = top} lt en count note ax al an long into on next here (at_all l0 _ _ _ _ _ q {rs = rs} jr facts) h o f mem len within =
          let cs : captured_in p m ≡ g.captured = ap captured_by en.there in
          let v = facts.values made m al in
          let us = v.0 in
          let i = Clo m (bind_all (captured_in p m) us Empty) in
          let z = Lk procedure_tag (length x.heap) (l0 + made) ∷ w in
          let mem1 : Memory p notes w (OpenAll l0 made ns) x.heap x.st x.globals x.ahead x.input x.cin x.met =
          subst (λ o. Memory p notes w o x.heap x.st x.globals x.ahead x.input x.cin x.met) (opens_at l0 made ns xs k q ls js facts.start) mem in
          let size : n ≡ length us = count ∙ sym (v.2 ∙ ap length cs) in
          let inside = get-within ns made 0 an in
          ⊎_elim
          (λ less. rw (lt-ltb (length x.gap) (length (new_procedure n l)) less) (0, (w, r_full refl (r_inside x.es here (at_all l0 made ns xs ls k q jr facts) h o f mem len)), inr (inr refl)))
          (λ ge.
          let u = W.Pointer procedure_tag (length x.heap) in
          let yy = record x { pc = x.pc + 1; regs = slice_set x.regs d u; heap = x.heap ++ new_procedure n l; gap = drop (length (new_procedure n l)) x.gap } in
          let fits = mem1.stores.made in
          let room : mem1.stores.total + (closure_count (Some (W.Header procedure_kind n)) + data_size (Some (W.Header procedure_kind n))) + unmade (OpenAll l0 (suc made) ns) ≤ made_of_store x.st = omega arith in
          let part = fill_in l0 (suc made) made 0 ns an in
          let stores2 = stores_new p notes w (OpenAll l0 made ns) (OpenAll l0 (suc made) ns) (globals_words p notes) x.heap (new_procedure n l) x.st x.st (l0 + made) i (W.Header procedure_kind n) mem1.stores
          (at_end x.heap (new_procedure n l) _ refl) (long_procedure p notes n l) v.1 (λ t a e. let b = mem1.stores.before t a (l0 + made) e in omega arith) (λ m j e. e)
          (subst (λ q. ORel p notes z (x.heap ++ new_procedure n l) q (length x.heap) i) (sym part) (procedure_made p notes z x.heap n l m us note size v.2))
          (λ t a m k. refl) (λ t a m k. let b = mem1.stores.before t a m k in omega arith) (omega arith) room in
          let mem2 : Memory p notes z (OpenAll l0 (suc made) ns) (x.heap ++ new_procedure n l) x.st x.globals x.ahead x.input x.cin x.met = record {
            stores = stores2;
            held = p_agree w z (λ k i. inr i) x.heap (x.heap ++ new_procedure n l) 0 (length x.globals) (length x.globals) x.globals (omega arith) (agree_left x.heap (new_procedure n l) 0 (length x.globals)) mem1.held;
            count = mem1.count;
            inputs = mem1.inputs;
            padded = λ k a b. get-left x.heap (new_procedure n l) k _ (mem1.padded k a b);
            statics = λ n s e. let q = mem1.statics n s e in (q.0, q.1, inr q.2);
          } in
          let hh = holds-into p x.st x.st w z (λ k i. inr i) (q ∷ rs) (q ∷ rs) x.regs slots d _ _ mid old u (omega arith) h into
          (name_put x.st z u q rs y (At (l0 + made)) (facts.named made y ax) (w_at (inl refl))) (same-means p x.st (q ∷ rs)) in
          let on2 : x.pc < x.pc + 1 = omega arith in
          rw (le-ltb (length x.gap) (length (new_procedure n l)) ge)
          (onward x yy l0 q _ 0 on next refl (inr (on2, within)) long facts jr hh o (fs-more p notes w z (λ k i. inr i) _ _ f) mem2 (length-set x.regs d u ∙ len)))
          (cases_lt (length x.gap) (length (new_procedure n l)))

      -- a captured word is written
      word_at : (x : Still) (a b i : ℕ) {w : World} {y m j made : ℕ} {ns xs ls : List ℕ} {k : Block} {js : Waiting} {own : Own} {mid : List Entry} {new : Note}
          {rs : List Env} {gs fs : AnfFrames} {slots : List Word} {top ms : List MacFrame} (l0 : ℕ) (q : Env) (ua u : Word) (v : Value) →
          WRel w ua (At (l0 + i)) → slice_get x.regs a ≡ Some ua → slice_get x.regs b ≡ Some u → WRel w u v → lookup q y ≡ Some v →
          slice_get ls i ≡ Some m → slice_get ns i ≡ Some j → slice_get (captured_in p m) j ≡ Some y → length xs ≡ length ls →
          Onward p own mid made (slice_set ns i (suc j)) xs ls k js new → HasNote p notes (x.pc + 1) new → AllFacts p x.st l0 xs ls q → JRel js rs gs fs →
          Holds p x.st w (q ∷ rs) x.regs slots mid → OwnRel own slots top ms → FsRel p notes w fs ms →
          Memory p notes w (OpenAll l0 made ns) x.heap x.st x.globals x.ahead x.input x.cin x.met → length x.regs ≡ 17 → x.pc < limit →
          Sim p notes limit (done p notes limit c x top (I.CaptSet a b j)) (limit - x.pc) (source p notes limit x (Bound (InBlock k) q) gs)
      word_at x a b i {w = w} {y = y} {m = m} {j = j} {made = made} {ns = ns} {xs = xs} {ls = ls} {k = k} l0 q ua u v (w_at {t = t} {a = ad} lk) ea eb uv ev al an ac long on next facts jr h o f mem len within =
          let vs = facts.values i m al in
          let us = vs.0 in
          let d = mem.stores.linked t ad (l0 + i) lk in
          let same : d.item ≡ Clo m (bind_all (captured_in p m) us Empty) = cc (d.there, vs.1) in
          let hf = half p notes w x.heap t ad (l0 + i) m j d.item us d.tag (subst (λ q. ORel p notes w x.heap q ad d.item) (fill_in l0 made i j ns an) d.rel) same vs.2 in
          let cp = vs.3.caps j y ac in
          let val : v ≡ cp.0 = cc (ev, cp.2) in
          let g : slice_get us j ≡ Some v = cp.1 ∙ ap Some (sym val) in
          let lt = get-within us j v g in
          let pf = p_fill w x.heap (ad + 2) j us u v g uv hf.words in
          let cap = captured_there p notes limit c x.heap t ad (length us) j hf.is_tag hf.head lt in
          let full : slice_get (slice_set ns i (suc j)) i ≡ Some (suc j) = get-set ns i (suc j) (get-within ns i j an) in
          let part = fill_in l0 made i (suc j) (slice_set ns i (suc j)) full in
          let rel = filled_more p notes limit c w x.heap t ad (l0 + i) m j us u v (fill_of (OpenAll l0 made (slice_set ns i (suc j))) (l0 + i)) hf g uv (ap (λ q. filled q (length us)) part) in
          let same_long = length-set ns i (suc j) in
          let mem2 = mem_fill p notes limit c w (OpenAll l0 made ns) (OpenAll l0 made (slice_set ns i (suc j))) x.heap x.st x.globals x.ahead x.input x.cin x.met t ad (l0 + i) (ad + 2 + j) u v (Clo m (bind_all (captured_in p m) us Empty)) mem lk vs.1 hf.is_tag pf.0 uv (omega arith)
          (in_procedure p notes limit c x.heap ad (length us) j hf.head lt) rel (λ n ne. other l0 i n j ns ne) (λ n b. b) (omega arith) in
          let on2 : x.pc < x.pc + 1 = omega arith in
          rw (ea, cap, pf.0, eb) (onward x (record x { pc = x.pc + 1; heap = slice_set x.heap (ad + 2 + j) u }) l0 q _ 0 on next refl (inr (on2, within)) long facts jr h o f mem2 len)
        where
          other : (l0 i n j : ℕ) (ns : List ℕ) → (l0 + i ≡ n → ⊥) → fill_of (OpenAll l0 made (slice_set ns i (suc j))) n ≡ fill_of (OpenAll l0 made ns) n
          other l0 i n j ns ne =
              ⊎_elim
              (λ lt. fill_before l0 made n (slice_set ns i (suc j)) lt ∙ sym (fill_before l0 made n ns lt))
              (λ ge. ap (λ z. cond (nat_le l0 n) (part_of z) Whole) (set-other ns i (n - l0) (suc j) (λ e. ne (omega arith))))
              (cases_lt n l0)

      pub step_word : (x : Still) (a b i : ℕ) {w : World} {z y m j made : ℕ} {ns xs ls : List ℕ} {k : Block} {js : Waiting} {own : Own} {old mid : List Entry} {new : Note}
          {rs : List Env} {control : Control Code} {gs fs : AnfFrames} {slots : List Word} {top ms : List MacFrame} →
          slice_get xs i ≡ Some z → slice_get ls i ≡ Some m → slice_get ns i ≡ Some j → slice_get (captured_in p m) j ≡ Some y → length xs ≡ length ls →
          IsIn (Stands (Reg a) (Variable 0 z)) old → IsIn (Stands (Reg b) (Variable 0 y)) old → From Same mid old →
          Onward p own mid made (slice_set ns i (suc j)) xs ls k js new → HasNote p notes (x.pc + 1) new →
          PtRel p notes x.st (AtAll made ns xs ls k js) rs gs fs control → Holds p x.st w rs x.regs slots old → OwnRel own slots top ms → FsRel p notes w fs ms →
          Mem p notes limit w (AtAll made ns xs ls k js) control x → length x.regs ≡ 17 → x.pc < limit →
          Sim p notes limit (done p notes limit c x top (I.CaptSet a b j)) (limit - x.pc) (source p notes limit x control gs)
      step_word x a b i {w = w} {z = z} {y = y} {m = m} {j = j} {made = made} {ns = ns} {xs = xs} {ls = ls} {k = k} {js = js} {old = old} {mid = mid} {slots = slots} ax al an ac long ia ib from on next (at_all l0 _ _ _ _ _ q {rs = rs} jr facts) h o f mem len within =
          let ha = h.holds (Reg a) (Variable 0 z) ia in
          let hb = h.holds (Reg b) (Variable 0 y) ib in
          let va : ha.value ≡ At (l0 + i) = cc (named_value x.st q rs z ha.value ha.means, facts.named i z ax) in
          let mem1 : Memory p notes w (OpenAll l0 made ns) x.heap x.st x.globals x.ahead x.input x.cin x.met =
          subst (λ o. Memory p notes w o x.heap x.st x.globals x.ahead x.input x.cin x.met) (opens_at l0 made ns xs k q ls js facts.start) mem in
          let hh = holds-from p x.st x.st w w (λ k i. i) (q ∷ rs) (q ∷ rs) x.regs slots Same mid old h from (same-means p x.st (q ∷ rs)) in
          word_at x a b i l0 q ha.word hb.word hb.value (subst (λ v. WRel w ha.word v) va ha.rel) ha.here hb.here hb.rel (named_value x.st q rs y hb.value hb.means) al an ac long on next facts jr hh o f mem1 len within

      -- the last of the procedures goes to its slot, and nothing is captured
      pub step_stored : (x : Still) {w : World} {s a size made : ℕ} {ns xs ls : List ℕ} {k : Block} {js : Waiting} {old mid : List Entry} {new : Note}
          {rs : List Env} {control : Control Code} {gs fs : AnfFrames} {slots : List Word} {top ms : List MacFrame} (z : Symbol) →
          s < size → IsIn (Stands (Reg a) z) old → Into (Slot s) (StandsAt (Reg a) old) Same mid old → length xs ≡ length ls →
          Onward p (Here size) mid made ns xs ls k js new → HasNote p notes (x.pc + 1) new →
          PtRel p notes x.st (AtAll made ns xs ls k js) rs gs fs control → Holds p x.st w rs x.regs slots old → OwnRel (Here size) slots top ms → FsRel p notes w fs ms →
          Mem p notes limit w (AtAll made ns xs ls k js) control x → length x.regs ≡ 17 → x.pc < limit →
          Sim p notes limit (done p notes limit c x top (I.Store a s)) (limit - x.pc) (source p notes limit x control gs)
      step_stored x {w = w} {s = s} {a = a} {made = made} {ns = ns} {xs = xs} {ls = ls} {k = k} {js = js} {old = old} {mid = mid} {slots = slots} z lt i into long on next (at_all l0 _ _ _ _ _ q {rs = rs} jr facts) h (o_here e) f mem len within =
          let v = h.holds (Reg a) z i in
          let few : s < length slots = omega arith in
          let hh = holds-slot p x.st x.st w (q ∷ rs) (q ∷ rs) x.regs slots s _ _ mid old v.word few h into
          (moved p w (q ∷ rs) x.regs slots old (Reg a) v.word x.st h v.here) (same-means p x.st (q ∷ rs)) in
          let mem1 : Memory p notes w (OpenAll l0 made ns) x.heap x.st x.globals x.ahead x.input x.cin x.met =
          subst (λ o. Memory p notes w o x.heap x.st x.globals x.ahead x.input x.cin x.met) (opens_at l0 made ns xs k q ls js facts.start) mem in
          let on2 : x.pc < x.pc + 1 = omega arith in
          rw (lt-ltb s (length slots) few, v.here)
          (onward x (record x { pc = x.pc + 1 }) l0 q _ 0 on next refl (inr (on2, within)) long facts jr hh (o_here (length-set slots s v.word ∙ e)) f mem1 len)

      true_false : true ≡ false → ⊥
      true_false e = cc

      -- what an address stands for is made
      linked_below : (w : World) (heap : List Word) (st : List Item) (t a l : ℕ) → Stores p notes w Closed (globals_words p notes) heap st → IsIn (Lk t a l) w → l < length st
      linked_below w heap st t a l s k = let d = s.linked t a l k in get-within st l d.item d.there

      kept : (st st2 : List Item) (ys zs : List ℕ) (r q : Env) (rs : List Env) → ((z : ℕ) → (IsIn z ys → ⊥) → IsIn z zs → lookup q z ≡ lookup r z) → Changes p st st2 (Kept ys zs) (r ∷ rs) (q ∷ rs)
      kept st st2 ys zs r q rs f a b v (k_const c) (m_name e) = m_name e
      kept st st2 ys zs r q rs f a b v (k_var z ne i) (m_name e) = m_name (f z ne i ∙ e)
      kept st st2 ys zs r q rs f a b v (k_deep d z) (m_name e) = m_name e

      -- a captured variable of the group is free before it, or is of the group
      in_catches : (ms : List ℕ) (i m y : ℕ) → slice_get ms i ≡ Some m → IsIn y (captured_in p m) → IsIn y (catches p ms)
      in_catches [] i m y e k = cc
      in_catches (n ∷ ms) zero m y e k = let q : n ≡ m = cc (e) in in-left (captured_in p n) (catches p ms) y (subst (λ m. IsIn y (captured_in p m)) (sym q) k)
      in_catches (n ∷ ms) (suc i) m y e k = in-right (captured_in p n) (catches p ms) y (in_catches ms i m y e k)

      in_lambdas : (ms : List ℕ) (y : ℕ) → IsIn y (catches p ms) → IsIn y (of_lambdas (captured_in p) ms)
      in_lambdas [] y k = absurd k
      in_lambdas (m ∷ ms) y k = ⊎_elim (in-left (captured_in p m) (of_lambdas (captured_in p) ms) y) (λ i. in-right (captured_in p m) (of_lambdas (captured_in p) ms) y (in_lambdas ms y i)) (in-cases (captured_in p m) (catches p ms) y k)

      -- the facts of a new group
      all_facts : (st : List Item) (w : World) (r : Env) (rs : List Env) (regs slots : List Word) (old : List Entry) (xs ls : List ℕ) (k : Block) (x0 : ℕ) (zs : List ℕ) → xs ≡ x0 ∷ zs → IsApart xs →
          StandOr p xs (catches p ls) old → Holds p st w (r ∷ rs) regs slots old → length xs ≡ length ls →
          AllFacts p (st ++ closures (captured_in p) ls (bind_located xs (length st) (gather (free p (CloseAll xs ls k)) r))) (length st) xs ls (bind_located xs (length st) (gather (free p (CloseAll xs ls k)) r))
      all_facts st w r rs regs slots old xs ls k x0 zs ex ap_xs so h long =
          let F = free p (CloseAll xs ls k) in
          let q = bind_located xs (length st) (gather F r) in
          let z : length st + 0 ≡ length st = omega arith in
          record {
            start = subst (λ xs. lookup (bind_located xs (length st) (gather F r)) (first_of xs) ≡ Some (At (length st))) (sym ex)
                (lookup-same x0 (At (length st)) (bind_located zs (suc (length st)) (gather F r)));
            named = λ i x e. located xs (length st) (gather F r) i x ap_xs e;
            values = λ i m e.
                let vs = values_of q (captured_in p m) (λ y i2. found y (in_catches ls i m y e i2)) in (
                  vs.values,
                  at_next st (closures (captured_in p) ls q) i (Clo m (gather (captured_in p m) q)) (closure_at (captured_in p) ls q i m e) ∙ ap (λ r. Some (Clo m r)) vs.same,
                  vs.long,
                  record {
                    caps = λ j y e2.
                        let v = found y (in_catches ls i m y e (get-in (captured_in p m) j y e2)) in
                        (v.0, vs.each j y e2 ∙ v.1, v.1);
                  },
                );
          }
        where
          found : (y : ℕ) → IsIn y (catches p ls) → (v : Value) × (lookup (bind_located xs (length st) (gather (free p (CloseAll xs ls k)) r)) y ≡ Some v)
          found y i =
              let F = free p (CloseAll xs ls k) in
              ⊎_elim
              (λ yes. let f = find xs y (in-tested xs y yes) in (At (length st + f.0), located xs (length st) (gather F r) f.0 y ap_xs f.1))
              (λ (n : is_in xs y ≡ false).
              let out : IsIn y xs → ⊥ = λ j. true_false (sym (tested-in xs y j) ∙ n) in
              let inF : IsIn y F = in-without xs (of_lambdas (captured_in p) ls ++ free p k) y (in-left (of_lambdas (captured_in p) ls) (free p k) y (in_lambdas ls y i)) n in
              ⊎_elim (λ j. absurd (out j))
              (λ d. let a = h.holds d.0 (Variable 0 y) d.1 in
              (a.value, not_located xs (length st) (gather F r) y out ∙ lookup-gather F r y inF ∙ named_value st r rs y a.value a.means))
              (so.stand_or y i))
              (cases_Bool (is_in xs y))

      pub step_first : (x : Still) (l : ℕ) {w : World} {y m d n : ℕ} {xs ls : List ℕ} {q : ProcTree} {k : Block} {js : Waiting} {own : Own} {old mid : List Entry} {new : Note}
          {rs : List Env} {gs fs : AnfFrames} {slots : List Word} {top ms : List MacFrame} (r : Env) →
          d < 17 → Entered p m q → n ≡ length q.captured → HasNote p notes l (AtProc m) → IsApart (y ∷ xs) → length xs ≡ length ls → StandOr p (y ∷ xs) (catches p (m ∷ ls)) old →
          Into (Reg d) (IsThat (Variable 0 y)) (Kept (y ∷ xs) (free p (CloseAll (y ∷ xs) (m ∷ ls) k))) mid old →
          Onward p own mid 1 (zeros (m ∷ ls)) (y ∷ xs) (m ∷ ls) k js new → HasNote p notes (x.pc + 1) new →
          HasNote p notes x.pc (Inside (AtBlock (CloseAll (y ∷ xs) (m ∷ ls) k) js) own old) → IsCut p notes (free p (CloseAll (y ∷ xs) (m ∷ ls) k)) r → JRel js rs gs fs →
          Holds p x.st w (r ∷ rs) x.regs slots old → OwnRel own slots top ms → FsRel p notes w fs ms →
          Memory p notes w Closed x.heap x.st x.globals x.ahead x.input x.cin x.met → length x.regs ≡ 17 →
          Sim p notes limit (done p notes limit c x top (I.Clo d n l)) (limit - x.pc) (source p notes limit x (Eval (InBlock (CloseAll (y ∷ xs) (m ∷ ls) k)) r) gs)
      step_first x l {w = w} {y = y} {m = m} {d = d} {n = n} {xs = xs} {ls = ls} {q = g} {k = k} {js = js} {old = old} {mid = mid} {rs = rs} {gs = gs} {slots = slots} {top = top} r lt en count note ap_xs long so into on next here cut jr h o f mem len =
          let F = free p (CloseAll (y ∷ xs) (m ∷ ls) k) in
          let l0 = length x.st in
          let q = bind_located (y ∷ xs) l0 (gather F r) in
          let st2 = x.st ++ closures (captured_in p) (m ∷ ls) q in
          let ns = zeros (m ∷ ls) in
          let facts = all_facts x.st w r rs x.regs slots old (y ∷ xs) (m ∷ ls) k y xs refl ap_xs so h (ap suc long) in
          let cs : captured_in p m ≡ g.captured = ap captured_by en.there in
          let v = facts.values 0 m refl in
          let us = v.0 in
          let i = Clo m (bind_all (captured_in p m) us Empty) in
          let z = Lk procedure_tag (length x.heap) l0 ∷ w in
          let size : n ≡ length us = count ∙ sym (v.2 ∙ ap length cs) in
          let zero : l0 + 0 ≡ l0 = omega arith in
          let there : slice_get st2 l0 ≡ Some i = subst (λ n. slice_get st2 n ≡ Some i) zero v.1 in
          let keep = λ (m : ℕ) (j : Item) (e : slice_get x.st m ≡ Some j). get-left x.st (closures (captured_in p) (m ∷ ls) q) m j e in
          ⊎_elim
          (λ less. rw (lt-ltb (length x.gap) (length (new_procedure n l)) less) (0, (w, r_full refl (r_inside x.es here (at_block _ r cut jr) h o f mem len)), inr (inr refl)))
          (λ ge.
          let u = W.Pointer procedure_tag (length x.heap) in
          let yy = record x { pc = x.pc + 1; regs = slice_set x.regs d u; heap = x.heap ++ new_procedure n l; gap = drop (length (new_procedure n l)) x.gap; st = st2 } in
          let fits = mem.stores.made in
          let grown = made_closures (captured_in p) x.st (m ∷ ls) q in
          let many = length_zeros ls in
          let room : mem.stores.total + (closure_count (Some (W.Header procedure_kind n)) + data_size (Some (W.Header procedure_kind n))) + unmade (OpenAll l0 1 ns) ≤ made_of_store st2 = omega arith in
          let part : fill_of (OpenAll l0 1 ns) l0 ≡ Part 0 = subst (λ n. fill_of (OpenAll l0 1 ns) n ≡ Part 0) zero (fill_in l0 1 0 0 ns refl) in
          let in_st = λ (t a m : ℕ) (k : IsIn (Lk t a m) w). linked_below w x.heap x.st t a m mem.stores k in
          let stores2 = stores_new p notes w Closed (OpenAll l0 1 ns) (globals_words p notes) x.heap (new_procedure n l) x.st st2 l0 i (W.Header procedure_kind n) mem.stores
          (at_end x.heap (new_procedure n l) _ refl) (long_procedure p notes n l) there (λ t a e. let b = linked_below w x.heap x.st t a l0 mem.stores e in omega arith)
          (λ n j e. get-left x.st (closures (captured_in p) (m ∷ ls) q) n j e)
          (subst (λ q. ORel p notes z (x.heap ++ new_procedure n l) q (length x.heap) i) (sym part) (procedure_made p notes z x.heap n l m us note size v.2))
          (λ t a n k. fill_before l0 1 n ns (linked_below w x.heap x.st t a n mem.stores k)) (λ t a n k. let b = linked_below w x.heap x.st t a n mem.stores k in omega arith) (omega arith) room in
          let mem2 : Memory p notes z (OpenAll l0 1 ns) (x.heap ++ new_procedure n l) st2 x.globals x.ahead x.input x.cin x.met = record {
            stores = stores2;
            held = p_agree w z (λ k i. inr i) x.heap (x.heap ++ new_procedure n l) 0 (length x.globals) (length x.globals) x.globals (omega arith) (agree_left x.heap (new_procedure n l) 0 (length x.globals)) mem.held;
            count = mem.count;
            inputs = mem.inputs;
            padded = λ k a b. get-left x.heap (new_procedure n l) k _ (mem.padded k a b);
            statics = λ n s e. let q = mem.statics n s e in (q.0, q.1, inr q.2);
          } in
          let hh = holds-into p x.st st2 w z (λ k i. inr i) (r ∷ rs) (q ∷ rs) x.regs slots d _ _ mid old u (omega arith) h into
          (name_put st2 z u q rs y (At l0) facts.start (w_at (inl refl)))
          (kept x.st st2 (y ∷ xs) F r q rs (λ v ne i. not_located (y ∷ xs) l0 (gather F r) v ne ∙ lookup-gather F r v i)) in
          let some : 0 < 1 = omega arith in
          rw (le-ltb (length x.gap) (length (new_procedure n l)) ge)
          (onward x yy l0 q _ 1 on next refl (inl some) (ap suc long) facts jr hh o (fs-more p notes w z (λ k i. inr i) _ _ f) mem2 (length-set x.regs d u ∙ len)))
          (cases_lt (length x.gap) (length (new_procedure n l)))
