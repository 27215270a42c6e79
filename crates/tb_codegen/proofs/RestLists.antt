-- The entry of a procedure with a rest parameter.
use Rattle.std.proofs.Common.{◌≡◌, refl, sym, ◌∙◌, subst, subst₂, ap, ℕ, zero, suc, ◌+◌, ◌-◌, ◌<◌, ◌≤◌, true, inl, inr, ⊎_elim, arith, List, [], ◌∷◌, ◌++◌, length, map, Some, slice_get, slice_set, length-set, lt-ltb, le-ltb}
use Rattle.std.specs.Prelude.{take, drop}
use Rattle.std.proofs.lemmas.Bool.{cases_lt, le-leb, lt-leb}
use Rattle.std.proofs.lemmas.List.{length-append}
use Rattle.tb_semantics.specs.Graph.{IsApart}
use Rattle.tb_semantics.specs.Runs.{run}
use Rattle.tb_semantics.proofs.ListLemmas.{get-left, in-right}
use Rattle.tb_core.specs.Store.{Value}
use Rattle.tb_core.specs.Lists.{list_objects, list_value}
use Rattle.tb_ir.specs.AnfTree.{AnfTree, ProcTree}
use Rattle.tb_ir.specs.AnfMachine.{AnfFrames, AnfWork, InBlock, captured_by}
use Rattle.tb_ir.specs.Machine.{Closure, Entering, Empty, Eval, Frame, Obj, bind_all, gather}
use Rattle.tb_mac.specs.declared.code.Instr.TheVariants as I
use Rattle.tb_mac.specs.declared.word.Word.{Word}
use Rattle.tb_mac.specs.Assembled.{Assembled}
use Rattle.tb_mac.specs.Frames.{Frame as MacFrame}
use Rattle.tb_mac.specs.MacStep.{list_at, list_words, place_of}
use Rattle.tb_codegen.specs.Notes.{Entry, Away, Note, Inside, AtBlock, AtArgs, ToCaller}
use Rattle.tb_codegen.specs.Generate.{captured_in, settled}
use Rattle.tb_codegen.proofs.Changes.{Caught, Starts}
use Rattle.tb_codegen.proofs.Entries.{starts_hold}
use Rattle.tb_codegen.proofs.Envs.{get-set, get-set-other}
use Rattle.tb_codegen.proofs.Holding.{fs-more, w-more}
use Rattle.tb_codegen.proofs.Landing.{lands_block}
use Rattle.tb_codegen.proofs.Lists.{links, list_word, mem_list}
use Rattle.tb_codegen.proofs.Moves.{done}
use Rattle.tb_codegen.proofs.Ok.{Entered, HasNote, Settles, free}
use Rattle.tb_codegen.proofs.Rel.{AtCall, Closed, FsRel, Grows, Ins, in_none, in_more, j_caller, Memory, o_away, r_args, r_full, r_stopped, WRel, w_at, WsRel, ws_none, ws_more, World, step_of}
use Rattle.tb_codegen.proofs.Sim.{Sim, Still, source}

-- the last of some elements
record Last (xs : List ℕ) (n : ℕ) : Type 0 where
  last : ℕ
  get : slice_get xs n ≡ Some last
  whole : take n xs ++ last ∷ [] ≡ xs
  long : length (take n xs) ≡ n

last_of : (xs : List ℕ) (n : ℕ) → suc n ≡ length xs → Last xs n
last_of [] n e = absurd (omega arith)
last_of (x ∷ []) zero e = record { last = x; get = refl; whole = refl; long = refl }
last_of (x ∷ y ∷ xs) zero e = absurd (omega arith)
last_of (x ∷ xs) (suc n) e =
    let h = last_of xs n (omega arith) in
    record { last = h.last; get = h.get; whole = ap (λ ys. x ∷ ys) h.whole; long = ap suc h.long }

-- operands from one on
ins_drop : (w : World) (regs : List Word) (i n : ℕ) (vs : List Value) → Ins w regs i vs → Ins w regs (i + n) (drop n vs)
ins_drop w regs i zero vs h = let z : i + 0 ≡ i = omega arith in subst (λ i. Ins w regs i vs) (sym z) h
ins_drop w regs i (suc n) [] h = in_none
ins_drop w regs i (suc n) (v ∷ vs) (in_more e r h) = let z : suc i + n ≡ i + suc n = omega arith in subst (λ i. Ins w regs i (drop n vs)) z (ins_drop w regs (suc i) n vs h)

get_drop : (xs : List Word) (i : ℕ) (u : Word) → slice_get xs i ≡ Some u → drop i xs ≡ u ∷ drop (suc i) xs
get_drop [] i u e = cc
get_drop (x ∷ xs) zero u e = let q : x ≡ u = cc (e) in ap (λ x. x ∷ xs) q
get_drop (x ∷ xs) (suc i) u e = get_drop xs i u e

-- and their words
ins_words : (w : World) (regs : List Word) (i : ℕ) (vs : List Value) → Ins w regs i vs → WsRel w (take (length vs) (drop i regs)) vs
ins_words w regs i [] h = ws_none
ins_words w regs i (v ∷ vs) (in_more {u = u} e r h) =
    let q = get_drop regs i u e in
    rw q (ws_more r (ins_words w regs (suc i) vs h))

-- operands with a list in place of the last
ins_rest : (w z : World) → Grows w z → (regs : List Word) (i n : ℕ) (vs : List Value) (u : Word) (v : Value) → i + n < length regs → WRel z u v → n ≤ length vs → Ins w regs i vs →
    Ins z (slice_set regs (i + n) u) i (take n vs ++ v ∷ [])
ins_rest w z g regs i zero vs u v lt r le h =
    let q : i + 0 ≡ i = omega arith in
    in_more (subst (λ k. slice_get (slice_set regs (i + 0) u) k ≡ Some u) q (get-set regs (i + 0) u lt)) r in_none
ins_rest w z g regs i (suc n) [] u v lt r le h = absurd (omega arith)
ins_rest w z g regs i (suc n) (x ∷ vs) u v lt r le (in_more {u = y} e s h) =
    let q : suc i + n ≡ i + suc n = omega arith in
    in_more (get-set-other regs (i + suc n) i y u (λ e. absurd (omega arith)) e) (w-more w z g _ _ s)
    (subst (λ k. Ins z (slice_set regs k u) (suc i) (take n vs ++ v ∷ [])) q (ins_rest w z g regs (suc i) n vs u v (omega arith) r (omega arith) h))

length_drop : (n : ℕ) (vs : List Value) → length (drop n vs) ≡ length vs - n
length_drop zero vs = omega arith
length_drop (suc n) [] = omega arith
length_drop (suc n) (v ∷ vs) = let h = length_drop n vs in omega arith

length_taken : (n : ℕ) (vs : List Value) → n ≤ length vs → length (take n vs) ≡ n
length_taken zero vs le = refl
length_taken (suc n) [] le = absurd (omega arith)
length_taken (suc n) (v ∷ vs) le = ap suc (length_taken n vs (omega arith))

module _ (p : AnfTree) (notes : List Note) (limit : ℕ) (c : Assembled) where
  pub step_args_ge : (x : Still) {w : World} {m l n : ℕ} {f : Frame AnfWork} {fs : AnfFrames} {vs : List Value} {ms : List MacFrame} {new : List Entry} (k : ℕ) (q : ProcTree) →
      Settles q.body → Entered p m q → q.rest ≡ true → suc n ≡ length q.params → n ≤ 11 → IsApart q.captured → Caught q.params q.captured (free p (settled q.body)) →
      Starts m q.params (free p (settled q.body)) new → place_of c.places x.pc ≡ Some q.place →
      HasNote p notes (x.pc + 1) (Inside (AtBlock (settled q.body) ToCaller) Away new) → HasNote p notes x.pc (AtArgs m) → AtCall p w x.st m x.regs l vs → FsRel p notes w (f ∷ fs) ms →
      Memory p notes w Closed x.heap x.st x.globals x.ahead x.input x.cin x.met → length x.regs ≡ 17 →
      Sim p notes limit (done p notes limit c x ms (I.ArgsGe n)) k (source p notes limit x (Entering (Closure l) vs) (f ∷ fs))
  step_args_ge x {w = w} {m = m} {l = l} {n = n} {f = f} {fs = fs} {vs = vs} {ms = ms} {new = new} k q se en rest count small ap_xs ca starts place next here call fr mem len =
      let xs : captured_in p m ≡ q.captured = ap captured_by en.there in
      let sp = last_of q.params n count in
      let e1 : length q.params - 1 ≡ n = omega arith in
      let few = call.few in
      ⊎_elim
      (λ less.
      let t = lt-leb n (length vs) less in
      let t2 = lt-ltb (length vs) n less in
      let g = sp.get in let lo = sp.long in
      rw (call.number, t2, place) (1, (w, rw (call.item, en.there, rest, e1, g, lo, t) (r_stopped (r_args x.es here call fr mem len))), inl (omega arith)))
      (λ ge.
      let t = le-leb n (length vs) ge in
      let t2 = le-ltb (length vs) n ge in
      let t3 = le-ltb 12 (length vs) few in
      let us = take (length vs - n) (drop (n + 1) x.regs) in
      let rel : WsRel w us (drop n vs) =
      (let h = ins_words w x.regs (1 + n) (drop n vs) (ins_drop w x.regs 1 n vs call.ops) in
      let a = length_drop n vs in let b : 1 + n ≡ n + 1 = omega arith in subst₂ (λ k i. WsRel w (take k (drop i x.regs)) (drop n vs)) a b h) in
      let l0 = length x.st in
      let z = links (length x.heap) l0 (drop n vs) ++ w in
      let g : Grows w z = λ k i. in-right (links (length x.heap) l0 (drop n vs)) w k i in
      let u = list_at (length x.heap) us in
      let v = list_value (drop n vs) l0 in
      let ws = take n vs ++ v ∷ [] in
      let wl = list_words (length x.heap) us in
      let st2 = x.st ++ map Obj (list_objects (drop n vs) l0) in
      ⊎_elim
      (λ full. rw (call.number, t2, t3, lt-ltb (length x.gap) (length wl) full) (0, (w, r_full refl (r_args x.es here call fr mem len)), inr (inr refl)))
      (λ fits.
      let yy = record x { pc = x.pc + 1; regs = slice_set x.regs (n + 1) u; heap = x.heap ++ wl; gap = drop (length wl) x.gap; st = st2 } in
      let gt = sp.get in let lo = sp.long in let wh = sp.whole in
      let e : run (step_of p notes) 1 (source p notes limit x (Entering (Closure l) vs) (f ∷ fs)) ≡ source p notes limit yy (Eval (InBlock q.body) (gather (free p q.body) (bind_all q.params ws (bind_all (captured_in p m) call.caught Empty)))) (f ∷ fs) =
      rw (call.item, en.there, rest, e1, gt, lo, t, wh) refl in
      let b : 1 + n ≡ n + 1 = omega arith in
      let ins2 : Ins z (slice_set x.regs (n + 1) u) 1 ws = subst (λ k. Ins z (slice_set x.regs k u) 1 ws) b (ins_rest w z g x.regs 1 n vs u v (omega arith) (list_word p notes w (length x.heap) l0 us (drop n vs) rel) ge call.ops) in
      let lt = length_taken n vs ge in let la = length-append (take n vs) (v ∷ []) in
      let cnt : length q.params ≡ length ws = omega arith in
      let one : 0 < 1 = omega arith in
      let reg0 = get-set-other x.regs (n + 1) 0 _ u (λ e. absurd (omega arith)) call.reg0 in
      rw (call.number, t2, t3, le-ltb (length x.gap) (length wl) fits)
      (lands_block p notes limit yy q.body (bind_all q.params ws (bind_all (captured_in p m) call.caught Empty)) _ 1 k se e one next j_caller
      (starts_hold p st2 z m l (slice_set x.regs (n + 1) u) q.params (free p (settled q.body)) ws call.caught new _ (get-left x.st _ l _ call.item) call.long reg0 (w_at (g _ call.link))
      (subst IsApart (sym xs) ap_xs) (subst (λ xs. Caught q.params xs (free p (settled q.body))) (sym xs) ca) ins2 cnt starts)
      o_away (fs-more p notes w z g _ _ fr) (mem_list p notes w x.heap x.st x.globals x.ahead x.input x.cin x.met us (drop n vs) mem rel) (length-set x.regs (n + 1) u ∙ len)))
      (cases_lt (length x.gap) (length wl)))
      (cases_lt (length vs) n)
