-- Operations: how the source comes to one, the values of its operands, and where its value comes to RESULT.
use Rattle.std.proofs.Common.{◌≡◌, refl, sym, ◌∙◌, subst, ap, ℕ, suc, ◌+◌, ◌<◌, false, inl, inr, ⊎_elim, arith, List, [], ◌∷◌, ◌++◌, length, Option, Some, None, slice_get, slice_set, length-set}
use Rattle.tb_prim.specs.declared.event.Event.{Event}
use Rattle.tb_prim.specs.declared.event.Stop.{Stop}
use Rattle.tb_semantics.specs.Graph.{IsIn}
use Rattle.tb_semantics.proofs.ListLemmas.{in-cases, in-left, in-right}
use Rattle.std.proofs.lemmas.Bool.{cases_eq}
use Rattle.tb_core.specs.FreeVariables.{without}
use Rattle.tb_core.specs.Space.{value_locations, values_locations}
use Rattle.tb_core.specs.Store.{Value, Unspecified}
use Rattle.tb_ir.specs.Space.{frames_locations}
use Rattle.tb_ir.specs.TreeMachine.{env_values}
use Rattle.tb_ir.specs.AnfTree.{Operand, Quote, Var, Block, Op, Atom, Global, SetGlobal, DefGlobal, PrimUse, NewCell, CellGet, CellSet, Close, Call, Direct, Apply, Branch, AnfTree}
use Rattle.tb_ir.specs.AnfMachine.{AnfFrames, AnfState, InBlock, InOp, atom_value, atom_values, free_of_atom, free_of_atoms, free_op, language}
use Rattle.tb_ir.specs.Machine.{Env, Empty, Eval, Item, Lost, Stopped, Val, bind_found, gather, lookup}
use Rattle.tb_mac.specs.declared.word.Word.{Word}
use Rattle.tb_mac.specs.Frames.{Frame as MacFrame}
use Rattle.tb_mac.specs.FramedRuns.{Stays, is_full_stop}
use Rattle.tb_codegen.specs.Notes.{Entry, Spot, Reg, Own, Note, Inside, AtBlock, AtValue, AtUnspecified, Waiting, symbol_of}
use Rattle.tb_codegen.specs.Generate.{captured_in}
use Rattle.tb_codegen.specs.Operations.{operands}
use Rattle.tb_codegen.proofs.Changes.{Args, no_args, an_arg, From, Into, IsFirst, OpAt, at_bind, at_tail, Under}
use Rattle.tb_codegen.proofs.Envs.{lookup-gather, lookup-other, lookup-same}
use Rattle.tb_codegen.proofs.Holding.{first-put, fs-more, holds-from, holds-into, pushed, under}
use Rattle.tb_codegen.proofs.Landing.{lands_value}
use Rattle.tb_codegen.proofs.Ok.{HasNote, free}
use Rattle.tb_codegen.proofs.Rel.{Closed, FsRel, Grows, HasAny, Holds, JRel, j_then, Means, m_name, Memory, Onto, OwnRel, at_block, at_unspecified, IsCut, Rel, WRel, WsRel, ws_none, ws_more, World, config, r_inside, r_failed, r_lost, step_of}
use Rattle.tb_codegen.proofs.Sim.{Sim, Still, machine, source, target}

-- operands one by one: their registers and words, and their values
pub data Opers (w : World) (r : Env) (regs : List Word) : List ℕ → List Operand → List Word → List Value → Type 0 where
  op_none : Opers w r regs [] [] [] []
  op_more : {a : ℕ} {rs : List ℕ} {d : Operand} {ds : List Operand} {u : Word} {us : List Word} {v : Value} {vs : List Value} →
      slice_get regs a ≡ Some u → atom_value r d ≡ Some v → WRel w u v → Opers w r regs rs ds us vs →
      Opers w r regs (a ∷ rs) (d ∷ ds) (u ∷ us) (v ∷ vs)

symbol_means : (p : AnfTree) (st : List Item) (r : Env) (rs : List Env) (d : Operand) (v : Value) → Means p st (r ∷ rs) (symbol_of d) v → atom_value r d ≡ Some v
symbol_means p st r rs (Quote c) v (m_name e) = e
symbol_means p st r rs (Var x) v (m_name e) = e

-- an atom that stands somewhere
pub atom_there : (p : AnfTree) (st : List Item) (w : World) (r : Env) (rs : List Env) (regs slots : List Word) (map : List Entry) (q : Spot) (d : Operand) →
    (h : HasAny p st w (r ∷ rs) regs slots q (symbol_of d)) → atom_value r d ≡ Some h.value
atom_there p st w r rs regs slots map q d h = symbol_means p st r rs d h.value h.means

pub opers : (p : AnfTree) (st : List Item) (w : World) (r : Env) (rs : List Env) (regs slots : List Word) (map : List Entry) (as' : List ℕ) (ds : List Operand) →
    Holds p st w (r ∷ rs) regs slots map → Args map as' ds → (us : List Word) × (vs : List Value) × Opers w r regs as' ds us vs
opers p st w r rs regs slots map as' ds h no_args = ([], [], op_none)
opers p st w r rs regs slots map as' ds h (an_arg {d = d} i more) =
    let k = h.holds _ _ i in
    let t = opers p st w r rs regs slots map _ _ h more in
    (k.word ∷ t.0, k.value ∷ t.1, op_more k.here (symbol_means p st r rs d k.value k.means) k.rel t.2)

pub value-gather : (xs : List ℕ) (r : Env) (d : Operand) → ((y : ℕ) → IsIn y (free_of_atom d) → IsIn y xs) → atom_value (gather xs r) d ≡ atom_value r d
value-gather xs r (Quote c) h = refl
value-gather xs r (Var x) h = lookup-gather xs r x (h x (inl refl))

pub opers_values : (w : World) (r : Env) (regs : List Word) (as' : List ℕ) (ds : List Operand) (us : List Word) (vs : List Value) (xs : List ℕ) →
    ((y : ℕ) → IsIn y (free_of_atoms ds) → IsIn y xs) → Opers w r regs as' ds us vs → atom_values (gather xs r) ds ≡ Some vs
opers_values w r regs as' ds us vs xs h op_none = refl
opers_values w r regs as' ds us vs xs h (op_more {d = d} {ds = es} e f x o) =
    let g = value-gather xs r d (λ y i. h y (in-left (free_of_atom d) (free_of_atoms es) y i)) in
    let t = opers_values w r regs _ _ _ _ xs (λ y i. h y (in-right (free_of_atom d) (free_of_atoms es) y i)) o in
    rw (g, f, t) refl

pub opers_rel : (w : World) (r : Env) (regs : List Word) (as' : List ℕ) (ds : List Operand) (us : List Word) (vs : List Value) → Opers w r regs as' ds us vs → WsRel w us vs
opers_rel w r regs as' ds us vs op_none = ws_none
opers_rel w r regs as' ds us vs (op_more e f x o) = ws_more x (opers_rel w r regs _ _ _ _ o)

pub opers_length : (w : World) (r : Env) (regs : List Word) (as' : List ℕ) (ds : List Operand) (us : List Word) (vs : List Value) → Opers w r regs as' ds us vs → length ds ≡ length vs
opers_length w r regs as' ds us vs op_none = refl
opers_length w r regs as' ds us vs (op_more e f x o) = ap suc (opers_length w r regs _ _ _ _ o)

in_end : (xs : List ℕ) (y : ℕ) → IsIn y (xs ++ []) → IsIn y xs
in_end xs y i = ⊎_elim (λ j. j) (λ j. absurd j) (in-cases xs [] y i)

-- an operation names its operands
pub operand_free : (captured : ℕ → List ℕ) (op : Op) (y : ℕ) → IsIn y (free_of_atoms (operands op)) → IsIn y (free_op captured op)
operand_free captured (Atom a) y i = absurd i
operand_free captured (Global g p) y i = absurd i
operand_free captured (SetGlobal g a p) y i = in_end (free_of_atom a) y i
operand_free captured (DefGlobal g a) y i = in_end (free_of_atom a) y i
operand_free captured (PrimUse q ds p) y i = i
operand_free captured (NewCell a) y i = in_end (free_of_atom a) y i
operand_free captured (CellGet a p) y i = in_end (free_of_atom a) y i
operand_free captured (CellSet a b) y i =
    ⊎_elim (in-left (free_of_atom a) (free_of_atom b) y) (λ j. in-right (free_of_atom a) (free_of_atom b) y (in_end (free_of_atom b) y j))
    (in-cases (free_of_atom a) (free_of_atom b ++ []) y i)
operand_free captured (Close l) y i = absurd i
operand_free captured (Call f ds p) y i = i
operand_free captured (Direct l ds) y i = i
operand_free captured (Apply a b p) y i =
    ⊎_elim (in-left (free_of_atom a) (free_of_atom b) y) (λ j. in-right (free_of_atom a) (free_of_atom b) y (in_end (free_of_atom b) y j))
    (in-cases (free_of_atom a) (free_of_atom b ++ []) y i)
operand_free captured (Branch a b d) y i = in-left (free_of_atom a) _ y (in_end (free_of_atom a) y i)

-- the locations of a variable that is found
pub found_location : (r : Env) (x : ℕ) (v : Value) (l : ℕ) → lookup r x ≡ Some v → IsIn l (value_locations v) → IsIn l (values_locations (env_values r))
found_location Empty x v l e i = cc
found_location (Env.Bind y u r) x v l e i =
    ⊎_elim
    (λ (q : y ≡ x).
    let s : u ≡ v = cc (lookup-same y u r, e, q) in
    in-left (value_locations u) _ l (subst (λ v. IsIn l (value_locations v)) (sym s) i))
    (λ ne. in-right (value_locations u) _ l (found_location r x v l (sym (lookup-other y x u r ne) ∙ e) i))
    (cases_eq y x)

-- a value of an environment that is cut is that of one of its variables
record OfVariable (xs : List ℕ) (r : Env) (l : ℕ) : Type 0 where
  variable : ℕ
  value : Value
  among : IsIn variable xs
  found : lookup r variable ≡ Some value
  location : IsIn l (value_locations value)

of_found : (x : ℕ) (xs : List ℕ) (whole : Env) (l : ℕ) (o : Option Value) → lookup whole x ≡ o → (IsIn l (values_locations (env_values (gather xs whole))) → OfVariable xs (gather xs whole) l) →
    IsIn l (values_locations (env_values (bind_found x o (gather xs whole)))) → OfVariable (x ∷ xs) (bind_found x o (gather xs whole)) l
of_found x xs whole l None e rec i = let t = rec i in record { variable = t.variable; value = t.value; among = inr t.among; found = t.found; location = t.location }
of_found x xs whole l (Some u) e rec i =
    ⊎_elim
    (λ i. record { variable = x; value = u; among = inl refl; found = lookup-same x u (gather xs whole); location = i })
    (λ i.
    let t = rec i in
    ⊎_elim
    (λ (q : x ≡ t.variable).
    let f : lookup whole t.variable ≡ Some t.value = sym (lookup-gather xs whole t.variable t.among) ∙ t.found in
    let s : u ≡ t.value = cc (e, f, q) in
    record { variable = x; value = u; among = inl refl; found = lookup-same x u (gather xs whole); location = subst (λ v. IsIn l (value_locations v)) (sym s) t.location })
    (λ ne. record { variable = t.variable; value = t.value; among = inr t.among; found = lookup-other x t.variable u (gather xs whole) ne ∙ t.found; location = t.location })
    (cases_eq x t.variable))
    (in-cases (value_locations u) (values_locations (env_values (gather xs whole))) l i)

of_cut : (xs : List ℕ) (whole : Env) (l : ℕ) → IsIn l (values_locations (env_values (gather xs whole))) → OfVariable xs (gather xs whole) l
of_cut [] whole l i = absurd i
of_cut (x ∷ xs) whole l i = of_found x xs whole l (lookup whole x) refl (of_cut xs whole l) i

value_of_cut : (xs : List ℕ) (whole : Env) (l : ℕ) → IsIn l (values_locations (env_values (gather xs whole))) → (x : ℕ) × (v : Value) × IsIn x xs × (lookup (gather xs whole) x ≡ Some v) × IsIn l (value_locations v)
value_of_cut xs whole l i = let t = of_cut xs whole l i in (t.variable, t.value, t.among, t.found, t.location)

module _ (p : AnfTree) (notes : List Note) (limit : ℕ) where
  -- the source at an operation, with its own environment
  abbrev pub at_op : Still → Op → Env → AnfFrames → AnfState
  at_op y op r hs = source p notes limit y (Eval (InOp op) (gather (free_op (captured_in p) op) r)) hs

  -- the source comes to an operation in one step
  pub op_starts : {op : Op} {b : Block} {js gs : Waiting} {o : Option (List ℕ)} {rs : List Env} {fr fs : AnfFrames} (r : Env) →
      OpAt (captured_in p) op b js gs o → JRel js rs fr fs → (hs : AnfFrames) ×
      ((y : Still) → step_of p notes (source p notes limit y (Eval (InBlock b) r) fr) ≡ at_op y op r hs) ×
      JRel gs (pushed p [] [] o r rs) hs fs
  op_starts {op = op} r (at_bind x k l) j = (_, λ y. refl, j_then x k l _ j)
  op_starts r at_tail j = (_, λ y. refl, j)

  -- the operation holds what the block holds
  op_onto : {op : Op} {b : Block} {js gs : Waiting} {o : Option (List ℕ)} {rs : List Env} {fr fs : AnfFrames} (r : Env) (at : OpAt (captured_in p) op b js gs o) (j : JRel js rs fr fs) → IsCut p notes (free p b) r → (y : Still) →
      Onto p notes (config p notes (Eval (InBlock b) r) fr y.globals y.st y.cin y.met) (config p notes (Eval (InOp op) (gather (free_op (captured_in p) op) r)) (op_starts r at j).0 y.globals y.st y.cin y.met)
  unfolding op_starts
  op_onto {op = op} {fr = fr} r (at_bind x k l) j cut y = record {
    store = refl;
    globals = refl;
    marked = omega arith;
    roots = λ n i. ⊎_elim
        (λ i.
        let F = free_op (captured_in p) op in
        let ys = without (x ∷ []) (free p k) in
        let v = value_of_cut (F ++ ys) cut.whole n (subst (λ r. IsIn n (values_locations (env_values r))) cut.cut i) in
        let e : lookup r v.0 ≡ Some v.1 = subst (λ r. lookup r v.0 ≡ Some v.1) (sym cut.cut) v.3 in
        ⊎_elim
        (λ z. in-left (values_locations (env_values (gather F r))) _ n (found_location (gather F r) v.0 v.1 n (lookup-gather F r v.0 z ∙ e) v.4))
        (λ z. in-right (values_locations (env_values (gather F r))) _ n (in-left (values_locations (env_values (gather ys r))) _ n (found_location (gather ys r) v.0 v.1 n (lookup-gather ys r v.0 z ∙ e) v.4)))
        (in-cases F ys v.0 v.2))
        (λ i. in-right (values_locations (env_values (gather (free_op (captured_in p) op) r))) _ n (in-right (values_locations (env_values (gather (without (x ∷ []) (free p k)) r))) _ n i))
        (in-cases (values_locations (env_values r)) (frames_locations (language p).values fr) n i);
  }
  op_onto {op = op} {fr = fr} r at_tail j cut y = record {
    store = refl;
    globals = refl;
    marked = refl;
    roots = λ n i. ⊎_elim
        (λ i.
        let F = free_op (captured_in p) op in
        let v = value_of_cut F cut.whole n (subst (λ r. IsIn n (values_locations (env_values r))) cut.cut i) in
        let e : lookup r v.0 ≡ Some v.1 = subst (λ r. lookup r v.0 ≡ Some v.1) (sym cut.cut) v.3 in
        in-left (values_locations (env_values (gather F r))) _ n (found_location (gather F r) v.0 v.1 n (lookup-gather F r v.0 v.2 ∙ e) v.4))
        (λ i. in-right (values_locations (env_values (gather (free_op (captured_in p) op) r))) _ n i)
        (in-cases (values_locations (env_values r)) (frames_locations (language p).values fr) n i);
  }

  -- an operation gives a value, which comes to a register
  pub lands_op : (x y : Still) {w : World} (z : World) {op : Op} {b : Block} {js gs : Waiting} {o : Option (List ℕ)} {own : Own} {d : ℕ}
      {old new : List Entry} {rs : List Env} {fr fs : AnfFrames} {slots : List Word} {top ms : List MacFrame} (r : Env) (u : Word) (v : Value) (k : ℕ) →
      OpAt (captured_in p) op b js gs o → d < 17 → Into (Reg d) IsFirst (Under o []) new old → Grows w z →
      HasNote p notes (x.pc + 1) (Inside (AtValue gs) own new) → JRel js rs fr fs →
      Holds p x.st w (r ∷ rs) x.regs slots old → OwnRel own slots top ms → FsRel p notes w fs ms → length x.regs ≡ 17 →
      WRel z u v → ((hs : AnfFrames) → step_of p notes (at_op x op r hs) ≡ source p notes limit y (Val v) hs) →
      Memory p notes z Closed y.heap y.st y.globals y.ahead y.input y.cin y.met →
      Sim p notes limit (target p notes limit (record y { pc = x.pc + 1; regs = slice_set x.regs d u }) top) k (source p notes limit x (Eval (InBlock b) r) fr)
  lands_op x y {w = w} z {o = o} {d = d} {old = old} {new = new} {rs = rs} {slots = slots} r u v k at lt into g n j h o2 f len uv steps mem =
      let t = op_starts r at j in
      lands_value p notes limit (record y { pc = x.pc + 1; regs = slice_set x.regs d u }) v _ 2 k
      (ap (step_of p notes) (t.1 x) ∙ steps t.0) (omega arith) n t.2
      (holds-into p x.st y.st w z g (r ∷ rs) (Env.Bind 0 v Empty ∷ pushed p [] [] o r rs) x.regs slots d _ _ new old u (omega arith) h into
      (first-put p y.st z u v _ uv) (under p x.st y.st o [] [] r (Env.Bind 0 v Empty) rs (λ y i. absurd i)))
      o2 (fs-more p notes w z g _ _ f) mem (length-set x.regs d u ∙ len)

  -- an operation fails
  pub fails_op : (x : Still) {w : World} {op : Op} {b : Block} {js gs : Waiting} {o : Option (List ℕ)} {own : Own}
      {old : List Entry} {rs : List Env} {fr fs : AnfFrames} {slots : List Word} {top ms : List MacFrame} (r : Env) (stop : Stop) (now : List Event) (k : ℕ) →
      OpAt (captured_in p) op b js gs o → HasNote p notes x.pc (Inside (AtBlock b js) own old) → IsCut p notes (free p b) r → JRel js rs fr fs →
      Holds p x.st w (r ∷ rs) x.regs slots old → OwnRel own slots top ms → FsRel p notes w fs ms → length x.regs ≡ 17 →
      ((hs : AnfFrames) → step_of p notes (at_op x op r hs) ≡ Stopped (config p notes (Eval (InOp op) (gather (free_op (captured_in p) op) r)) hs x.globals x.st x.cin x.met) now) →
      Memory p notes w Closed x.heap x.st x.globals x.ahead x.input x.cin x.met →
      Sim p notes limit (Stays (machine x top) stop x.input now) k (source p notes limit x (Eval (InBlock b) r) fr)
  fails_op x {w = w} {b = b} r stop now k at n cut j h o f len steps mem =
      let t = op_starts r at j in
      let e = ap (step_of p notes) (t.1 x) ∙ steps t.0 in
      (2, (w, rw e (r_failed (r_inside x.es n (at_block b r cut j) h o f mem len) (op_onto r at j cut x))), inl (omega arith))

  -- an operation writes, and its value is the unspecified one
  pub lands_written : (x y : Still) {w : World} {op : Op} {b : Block} {js gs : Waiting} {o : Option (List ℕ)} {own : Own}
      {old new : List Entry} {rs : List Env} {fr fs : AnfFrames} {slots : List Word} {top ms : List MacFrame} (r : Env) (k : ℕ) →
      OpAt (captured_in p) op b js gs o → From (Under o []) new old →
      HasNote p notes (x.pc + 1) (Inside (AtUnspecified gs) own new) → JRel js rs fr fs →
      Holds p x.st w (r ∷ rs) x.regs slots old → OwnRel own slots top ms → FsRel p notes w fs ms → length x.regs ≡ 17 →
      ((hs : AnfFrames) → step_of p notes (at_op x op r hs) ≡ source p notes limit y (Val Unspecified) hs) →
      Memory p notes w Closed y.heap y.st y.globals y.ahead y.input y.cin y.met →
      Sim p notes limit (target p notes limit (record y { pc = x.pc + 1; regs = x.regs }) top) k (source p notes limit x (Eval (InBlock b) r) fr)
  lands_written x y {w = w} {o = o} {old = old} {new = new} {rs = rs} {slots = slots} {top = top} r k at from n j h o2 f len steps mem =
      let t = op_starts r at j in
      let e = ap (step_of p notes) (t.1 x) ∙ steps t.0 in
      let hh = holds-from p x.st y.st w w (λ k i. i) (r ∷ rs) (Env.Bind 0 Unspecified Empty ∷ pushed p [] [] o r rs) x.regs slots _ new old h from
      (under p x.st y.st o [] [] r (Env.Bind 0 Unspecified Empty) rs (λ y i. absurd i)) in
      let rel : Rel p notes w (target p notes limit (record y { pc = x.pc + 1; regs = x.regs }) top) (source p notes limit y (Val Unspecified) t.0) =
      r_inside y.es n (at_unspecified t.2) hh o2 f mem len in
      (2, (w, subst (Rel p notes w (target p notes limit (record y { pc = x.pc + 1; regs = x.regs }) top)) (sym e) rel), inl (omega arith))

  -- neither the source nor the machine has a next step
  pub lost_op : (x : Still) {w : World} {op : Op} {b : Block} {js gs : Waiting} {o : Option (List ℕ)} {own : Own}
      {old : List Entry} {rs : List Env} {fr fs : AnfFrames} {slots : List Word} {top ms : List MacFrame} (r : Env) (stop : Stop) (k : ℕ) → is_full_stop stop ≡ false →
      OpAt (captured_in p) op b js gs o → HasNote p notes x.pc (Inside (AtBlock b js) own old) → IsCut p notes (free p b) r → JRel js rs fr fs →
      Holds p x.st w (r ∷ rs) x.regs slots old → OwnRel own slots top ms → FsRel p notes w fs ms → length x.regs ≡ 17 →
      ((hs : AnfFrames) → step_of p notes (at_op x op r hs) ≡ Lost (config p notes (Eval (InOp op) (gather (free_op (captured_in p) op) r)) hs x.globals x.st x.cin x.met) x.es) →
      Memory p notes w Closed x.heap x.st x.globals x.ahead x.input x.cin x.met →
      Sim p notes limit (Stays (machine x top) stop x.input x.es) k (source p notes limit x (Eval (InBlock b) r) fr)
  lost_op x {w = w} {b = b} r stop k ns at n cut j h o f len steps mem =
      let t = op_starts r at j in
      let e = ap (step_of p notes) (t.1 x) ∙ steps t.0 in
      (2, (w, rw e (r_lost ns (r_inside x.es n (at_block b r cut j) h o f mem len) (op_onto r at j cut x))), inl (omega arith))
