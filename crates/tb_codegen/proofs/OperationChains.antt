-- The items of an operation follow their notes: its operands are loaded, and its value comes to RESULT.
use Rattle.std.proofs.Common.{◌≡◌, ℕ, zero, suc, ◌<◌, ◌≤◌, ◌+◌, true, false, cond, List, [], ◌∷◌, ◌++◌, length, Option, Some, None, slice_get, true≢false, Bool, refl, sym, ap, ◌∙◌, subst, inl, inr, ⊎_elim, append-nil, lit<, lit≤, arith}
use Rattle.tb_semantics.specs.Graph.{IsIn}
use Rattle.tb_semantics.proofs.ListLemmas.{in-left, in-right, in-cases}
use Rattle.tb_core.specs.FreeVariables.{without}
use Rattle.tb_ir.specs.AnfTree.{Operand, Quote, Var, Block, Bind, Tail, Op, Atom, Global, SetGlobal, DefGlobal, PrimUse, NewCell, CellGet, CellSet, Close, Call, Direct, Apply, Branch, ProcTree, AnfTree}
use Rattle.tb_ir.specs.AnfMachine.{captured_by, free_op, free_of_atom, free_of_atoms}
use Rattle.tb_mac.specs.declared.code.Instr.TheVariants as I
use Rattle.tb_codegen.specs.Notes.{Spot, Reg, Slot, Symbol, Constant, Variable, Capture, Entry, Stands, Waiting, ToCaller, Point, AtBlock, AtValue, AtUnspecified, AtFill, Own, Away, Ready, Note, Inside, AtProc, AtLifted, Noted, Mark, Does, symbol_of}
use Rattle.tb_codegen.specs.Operations.{Body, variables, waiting_map, block_map, value_map, here, constant, loads, loaded, operands, first_register, act, place, is_call, captures, fill_map, fills, unspecified_result, simple, returning, leaving, evaluated}
use Rattle.tb_codegen.specs.Generate.{captured_in, operands_map}
use Rattle.tb_codegen.proofs.Changes.{OpAt, at_bind, at_tail, Under, u_waits, u_deep, Same, same, IsFirst, is_first, IsThat, is_that, StandsAt, stands_at, From, Into, no_args, Backs, HasFrame, StartsLifted, Opens, o_under, o_capture}
use Rattle.tb_codegen.proofs.Ok.{IsWritten, a_quote, a_global, a_use0, a_use1, a_use2, a_use3, a_cell, a_get, w_set, w_define, w_cell, Entered, Lifts, Calls, from_ready, from_away, Ok, ok_load, ok_const, ok_setrtn, ok_pop, ok_act, ok_read, ok_write, ok_unspecified, ok_invoke, ok_apply, ok_direct, ok_close, ok_open, ok_fill, ok_filled, free}
use Rattle.tb_codegen.proofs.Chains.{Target, target, Chain, c_end, c_does, c_dead, chain-on}
use Rattle.tb_codegen.proofs.Maps.{Below, above, args-loaded, below-more, block-slots, down, down-more, entry-spot, entry-symbol, in-loaded, in-variables, in-waiting, none-below, put-into, reg-same, reg-slot, variables-in, waiting-in, waiting-slots}

none-some : {y : ℕ} → None ≡ Some y → ⊥
none-some e = cc

some-same : {z y : ℕ} → Some z ≡ Some y → z ≡ y
some-same e = cc

-- the constants among atoms are written by instructions
abbrev pub QuoteOk : AnfTree → Operand → Type 0
QuoteOk p (Quote k) = IsWritten p.statics k
QuoteOk p (Var x) = Unit {0}

abbrev pub QuotesOk : AnfTree → List Operand → Type 0
QuotesOk p [] = Unit {0}
QuotesOk p (d ∷ ds) = QuoteOk p d × QuotesOk p ds

module _ (p : AnfTree) (all : List Noted) (home : ℕ → ℕ) (size : ℕ) where
  -- the body whose code it is
  abbrev pub body : Body
  body = record { captured = captured_in p; statics = p.statics; home = home; size = size }

  -- the entry of a lambda is among the items
  pub record IsEntered (m : ℕ) (q : ProcTree) : Type 0 where
    pub entered : Entered p m q
    pub mark : IsIn (Mark m (AtProc m)) all

  pub record IsLifted (m : ℕ) (q : ProcTree) : Type 0 where
    pub lifts : Lifts p m q
    pub mark : IsIn (Mark m (AtLifted m (operands_map (free p q.body) 1 q.params))) all
    pub starts : StartsLifted q.params (free p q.body) (operands_map (free p q.body) 1 q.params)

  -- what an operation keeps, but for the arms of a branch
  abbrev pub OpOk : Op → Type 0
  OpOk (Atom a) = QuoteOk p a
  OpOk (Global g q) = g < length p.globals
  OpOk (SetGlobal g a q) = (g < length p.globals) × QuoteOk p a
  OpOk (DefGlobal g a) = (g < length p.globals) × QuoteOk p a
  OpOk (PrimUse r ds q) = (length ds ≤ 3) × QuotesOk p ds
  OpOk (NewCell a) = QuoteOk p a
  OpOk (CellGet a q) = QuoteOk p a
  OpOk (CellSet a b) = QuoteOk p a × QuoteOk p b
  OpOk (Close m) = (q : ProcTree) × IsEntered m q
  OpOk (Call f ds q) = (length ds ≤ 12) × QuoteOk p f × QuotesOk p ds
  OpOk (Direct m ds) = (length ds ≤ 12) × QuotesOk p ds × ((q : ProcTree) × IsLifted m q × (length ds ≡ length q.params))
  OpOk (Apply f a q) = QuoteOk p f × QuoteOk p a
  OpOk (Branch a b d) = ⊥

  -- an entry under other names of its spot and symbol
  pub at-home : (es : List Entry) (y d : ℕ) (q : Spot) (s : Symbol) → q ≡ Slot (home y) → s ≡ Variable d y →
      IsIn (Stands (Slot (home y)) (Variable d y)) es → IsIn (Stands q s) es
  at-home es y d q s e f i = subst (λ r. IsIn (Stands r s) es) (sym e) (subst (λ t. IsIn (Stands (Slot (home y)) t) es) (sym f) i)

  -- operands go to registers above those that are named
  pub loads-chain : (rest : List Noted) (pt : Point) (a : ℕ) (ds : List Operand) (es : List Entry) → QuotesOk p ds →
      ((x : ℕ) → IsIn x (free_of_atoms ds) → IsIn (Stands (Slot (home x)) (Variable 0 x)) es) → Below a es → a + length ds ≤ 17 →
      Chain p all rest (Some (here body pt es)) (loads body pt a ds es) (Some (here body pt (loaded a ds es)))
  loads-chain rest pt a [] es w st b lt = c_end
  loads-chain rest pt a (Quote k ∷ ds) es w st b lt =
      c_does
      (ok_const (constant p.statics a k) k refl w.0 (omega arith)
      (put-into (Reg a) (IsThat (Constant k)) (Constant k) es (above a es b) is_that))
      (loads-chain rest pt (suc a) ds (Stands (Reg a) (Constant k) ∷ es) w.1 (λ x i. inr (st x i)) (below-more a (Constant k) es b) (omega arith))
  loads-chain rest pt a (Var x ∷ ds) es w st b lt =
      c_does
      (ok_load (Variable 0 x) (omega arith) (st x (inl refl))
      (put-into (Reg a) (StandsAt (Slot (home x)) es) (Variable 0 x) es (above a es b) (stands_at (st x (inl refl)))))
      (loads-chain rest pt (suc a) ds (Stands (Reg a) (Variable 0 x) ∷ es) w.1 (λ y i. inr (st y (inr i))) (below-more a (Variable 0 x) es b) (omega arith))

  -- what waits for the value of an operation, named from its block
  pub waits-under : (op : Op) (b : Block) (js gs : Waiting) (o : Option (List ℕ)) (xs : List ℕ) → OpAt (captured_in p) op b js gs o →
      (q : Spot) (s : Symbol) → IsIn (Stands q s) (waiting_map body 1 gs) →
      (z : Symbol) × IsIn (Stands q z) (block_map body b js) × Under o xs z s
  waits-under op b js gs o xs (at_bind x k l) q s i =
      ⊎_elim
      (λ h. let v = variables-in body 1 (without (x ∷ []) (free p k)) q s h in (
        Variable 0 v.0,
        in-left (variables body 0 (free p (Bind x op k))) _ _
            (at-home _ v.0 0 q (Variable 0 v.0) v.2.spot refl (in-variables body 0 v.0 _ (in-right (free_op (captured_in p) op) _ v.0 v.1))),
        subst (Under o xs (Variable 0 v.0)) (sym v.2.symbol) (u_waits v.0 (without (x ∷ []) (free p k)) refl v.1),
      ))
      (λ h. let w = waiting-in body 2 js q s h in (
        Variable (down 1 w.deep) w.var,
        in-right (variables body 0 (free p (Bind x op k))) _ _
            (at-home _ w.var (down 1 w.deep) q (Variable (down 1 w.deep) w.var) w.spot refl (in-waiting body 1 js w.deep w.var w.named)),
        deeper-under (without (x ∷ []) (free p k)) w.deep w.var s w.symbol,
      ))
      (in-cases (variables body 1 (without (x ∷ []) (free p k))) _ _ i)
    where
      deeper-under : (ys : List ℕ) (e y : ℕ) (t : Symbol) → t ≡ Variable (down 2 e) y → Under (Some ys) xs (Variable (down 1 e) y) t
      deeper-under ys e y t h =
          subst (λ n. Under (Some ys) xs (Variable n y) t) (sym (down-more 0 e))
          (subst (Under (Some ys) xs (Variable (suc (down 0 e)) y)) (sym (h ∙ ap (λ n. Variable n y) (down-more 1 e ∙ ap suc (down-more 0 e))))
          (u_deep (down 0 e) y))
  waits-under op b js gs o xs at_tail q s i =
      let w = waiting-in body 1 js q s i in
      (s, in-right (variables body 0 (free p (Tail op))) _ _ i, same-under w.deep w.var s w.symbol)
    where
      same-under : (e y : ℕ) (t : Symbol) → t ≡ Variable (down 1 e) y → Under None xs t t
      same-under e y t h =
          subst (λ r. Under None xs r r) (sym (h ∙ ap (λ n. Variable n y) (down-more 0 e))) (u_deep (down 0 e) y)

  -- the map at the value of an operation, from its block once operands are loaded
  pub value-into : (op : Op) (b : Block) (js gs : Waiting) (o : Option (List ℕ)) (a : ℕ) (ds : List Operand) →
      OpAt (captured_in p) op b js gs o → Into (Reg 16) IsFirst (Under o []) (value_map body gs) (loaded a ds (block_map body b js))
  value-into op b js gs o a ds at = record {
    into = λ q s i. ⊎_elim
        (λ e. inl (entry-spot (Reg 16) q _ s e, subst IsFirst (sym (entry-symbol (Reg 16) q _ s e)) is_first))
        (λ h. let u = waits-under op b js gs o [] at q s h in
        inr (
          (λ e. (waiting-slots body 1 gs).none 16 s (subst (λ r. IsIn (Stands r s) (waiting_map body 1 gs)) (sym e) h)),
          (u.0, in-loaded _ a ds _ u.1, u.2),
        ))
        i;
  }

  pub waits-from : (op : Op) (b : Block) (js gs : Waiting) (o : Option (List ℕ)) (a : ℕ) (ds : List Operand) →
      OpAt (captured_in p) op b js gs o → From (Under o []) (waiting_map body 1 gs) (loaded a ds (block_map body b js))
  waits-from op b js gs o a ds at = record {
    from = λ q s i.
        let u = waits-under op b js gs o [] at q s i in (u.0, in-loaded _ a ds _ u.1, u.2);
  }

  -- the slots that a map at a return point names, and the value that comes back
  pub value-backs : (op : Op) (b : Block) (js gs : Waiting) (o : Option (List ℕ)) (a : ℕ) (ds : List Operand) →
      OpAt (captured_in p) op b js gs o → Backs o (value_map body gs) (loaded a ds (block_map body b js))
  value-backs op b js gs o a ds at = record {
    backs = λ q s i. ⊎_elim
        (λ e. inl (entry-spot (Reg 16) q _ s e, entry-symbol (Reg 16) q _ s e))
        (λ h. let u = waits-under op b js gs o [] at q s h in let w = waiting-in body 1 gs q s h in
        inr (
          home w.var,
          u.0,
          w.spot,
          subst (λ r. IsIn (Stands r u.0) (loaded a ds (block_map body b js))) w.spot (in-loaded _ a ds _ u.1),
          u.2,
        ))
        i;
  }

  -- the variables of an operation stand in their homes at its block
  pub names-stand : (op : Op) (b : Block) (js gs : Waiting) (o : Option (List ℕ)) → OpAt (captured_in p) op b js gs o → (x : ℕ) →
      IsIn x (free_op (captured_in p) op) → IsIn (Stands (Slot (home x)) (Variable 0 x)) (block_map body b js)
  names-stand op b js gs o (at_bind x k l) y i =
      in-left (variables body 0 (free p (Bind x op k))) _ _ (in-variables body 0 y _ (in-left (free_op (captured_in p) op) _ y i))
  names-stand op b js gs o at_tail y i =
      in-left (variables body 0 (free p (Tail op))) _ _ (in-variables body 0 y _ i)

  -- behind an operation that writes, the value is the unspecified one
  pub unspecified-chain : (rest : List Noted) (gs : Waiting) →
      Chain p all rest (Some (here body (AtUnspecified gs) (waiting_map body 1 gs))) (unspecified_result body gs) (Some (here body (AtValue gs) (value_map body gs)))
  unspecified-chain rest gs =
      c_does (ok_unspecified (lit< tt) (put-into (Reg 16) IsFirst (Variable 0 0) (waiting_map body 1 gs) ((waiting-slots body 1 gs).none 16) is_first)) c_end

  -- the words that a new procedure captures
  captures-in : (j : ℕ) (xs : List ℕ) (q : Spot) (s : Symbol) → IsIn (Stands q s) (captures body j xs) →
      (i : ℕ) × (y : ℕ) × (slice_get xs i ≡ Some y) × (q ≡ Slot (home y)) × (s ≡ Capture (j + i))
  captures-in j [] q s i = absurd i
  captures-in j (x ∷ xs) q s (inl e) =
      let z : j + 0 ≡ j = omega arith in
      (0, x, refl, entry-spot _ q _ s e, entry-symbol _ q _ s e ∙ ap Capture (sym z))
  captures-in j (x ∷ xs) q s (inr i) =
      let t = captures-in (suc j) xs q s i in
      let z : suc j + t.0 ≡ j + suc t.0 = omega arith in (suc t.0, t.1, t.2, t.3, t.4 ∙ ap Capture z)

  -- no register but RESULT has a name while a procedure is filled
  fill-new : (j : ℕ) (xs : List ℕ) (gs : Waiting) (t : Symbol) → IsIn (Stands (Reg 1) t) (fill_map body j xs gs) → ⊥
  fill-new j xs gs t (inl e) = let h = reg-same 1 16 (entry-spot (Reg 16) (Reg 1) _ t e) in absurd (omega (arith, h))
  fill-new j xs gs t (inr i) = ⊎_elim
      (λ h. let c = captures-in j xs (Reg 1) t h in reg-slot 1 _ c.3)
      (λ h. (waiting-slots body 1 gs).none 1 t h)
      (in-cases (captures body j xs) _ _ i)

  fill-next : (j x : ℕ) (xs : List ℕ) (gs : Waiting) (e : Entry) → From Same (fill_map body (suc j) xs gs) (e ∷ fill_map body j (x ∷ xs) gs)
  fill-next j x xs gs e = record { from = λ q s i. (s, ⊎_elim (λ h. inr (inl h)) (λ h. inr (inr (inr h))) i, same s) }

  -- the captured words of a new procedure are written
  pub fills-chain : (rest : List Noted) (m : ℕ) (gs : Waiting) (j x : ℕ) (xs : List ℕ) → j + suc (length xs) ≡ length (captured_in p m) →
      Chain p all rest (Some (here body (AtFill m j gs) (fill_map body j (x ∷ xs) gs))) (fills body m gs j (x ∷ xs)) (Some (here body (AtValue gs) (value_map body gs)))
  fills-chain rest m gs j x [] e =
      c_does (ok_load (Capture j) (lit< tt) (inr (inl refl))
      (put-into (Reg 1) (StandsAt (Slot (home x)) (fill_map body j (x ∷ []) gs)) (Capture j) _ (fill-new j (x ∷ []) gs) (stands_at (inr (inl refl)))))
      (c_does (ok_filled (omega (arith, e)) (inr (inl refl)) (inl refl) (fill-next j x [] gs _)) c_end)
  fills-chain rest m gs j x (y ∷ ys) e =
      c_does (ok_load (Capture j) (lit< tt) (inr (inl refl))
      (put-into (Reg 1) (StandsAt (Slot (home x)) (fill_map body j (x ∷ y ∷ ys) gs)) (Capture j) _ (fill-new j (x ∷ y ∷ ys) gs) (stands_at (inr (inl refl)))))
      (c_does (ok_fill (omega (arith, e)) (inr (inl refl)) (inl refl) (fill-next j x (y ∷ ys) gs _))
      (fills-chain rest m gs (suc j) y ys (omega (arith, e))))

  -- the map of a new procedure that is to be filled, from the block
  pub opens-into : (op : Op) (b : Block) (js gs : Waiting) (o : Option (List ℕ)) (xs : List ℕ) → OpAt (captured_in p) op b js gs o →
      ((y : ℕ) → IsIn y xs → IsIn (Stands (Slot (home y)) (Variable 0 y)) (block_map body b js)) →
      Into (Reg 16) IsFirst (Opens o xs) (fill_map body 0 xs gs) (block_map body b js)
  opens-into op b js gs o xs at st = record {
    into = λ q s i. ⊎_elim
        (λ e. inl (entry-spot (Reg 16) q _ s e, subst IsFirst (sym (entry-symbol (Reg 16) q _ s e)) is_first))
        (λ h. inr (⊎_elim
        (λ g. let c = captures-in 0 xs q s g in
        let z : 0 + c.0 ≡ c.0 = omega arith in (
          (λ e. reg-slot 16 _ (e ∙ c.3)),
          (
            Variable 0 c.1,
            subst (λ r. IsIn (Stands r (Variable 0 c.1)) (block_map body b js)) (sym c.3) (st c.1 (got-in xs c.0 c.1 c.2)),
            subst (Opens o xs (Variable 0 c.1)) (ap Capture (sym z) ∙ sym c.4) (o_capture c.0 c.1 c.2),
          ),
        ))
        (λ g. let u = waits-under op b js gs o [] at q s g in (
          (λ e. (waiting-slots body 1 gs).none 16 s (subst (λ r. IsIn (Stands r s) (waiting_map body 1 gs)) (sym e) g)),
          (u.0, u.1, o_under u.2),
        ))
        (in-cases (captures body 0 xs) _ _ h)))
        i;
  }
    where
      got-in : (ys : List ℕ) (k y : ℕ) → slice_get ys k ≡ Some y → IsIn y ys
      got-in [] k y e = absurd (none-some e)
      got-in (z ∷ ys) zero y e = inl (some-same e)
      got-in (z ∷ ys) (suc k) y e = inr (got-in ys k y e)

  -- the variables of operands are named by the operation
  operands-named : (op : Op) (x : ℕ) → IsIn x (free_of_atoms (operands op)) → IsIn x (free_op (captured_in p) op)
  operands-named (Atom a) x i = absurd i
  operands-named (Global g q) x i = absurd i
  operands-named (SetGlobal g a q) x i = subst (IsIn x) (append-nil (free_of_atom a)) i
  operands-named (DefGlobal g a) x i = subst (IsIn x) (append-nil (free_of_atom a)) i
  operands-named (PrimUse r ds q) x i = i
  operands-named (NewCell a) x i = subst (IsIn x) (append-nil (free_of_atom a)) i
  operands-named (CellGet a q) x i = subst (IsIn x) (append-nil (free_of_atom a)) i
  operands-named (CellSet a b) x i = subst (λ xs. IsIn x (free_of_atom a ++ xs)) (append-nil (free_of_atom b)) i
  operands-named (Close m) x i = absurd i
  operands-named (Call f ds q) x i = i
  operands-named (Direct m ds) x i = i
  operands-named (Apply f a q) x i = subst (λ xs. IsIn x (free_of_atom f ++ xs)) (append-nil (free_of_atom a)) i
  operands-named (Branch a b d) x i =
      in-left (free_of_atom a) _ x (subst (IsIn x) (append-nil (free_of_atom a)) i)

  -- the operands of an operation are loaded at its block, and then come these items
  pub loaded-chain : (rest : List Noted) (op : Op) (b : Block) (js gs : Waiting) (o : Option (List ℕ)) (is : List Noted) (e : Option Note) →
      OpAt (captured_in p) op b js gs o → QuotesOk p (operands op) → first_register op + length (operands op) ≤ 17 →
      Chain p all rest (Some (here body (AtBlock b js) (loaded (first_register op) (operands op) (block_map body b js)))) is e →
      Chain p all rest (Some (here body (AtBlock b js) (block_map body b js)))
      (loads body (AtBlock b js) (first_register op) (operands op) (block_map body b js) ++ is) e
  loaded-chain rest op b js gs o is e at w lt k =
      chain-on p all rest is _ _ e _
      (loads-chain (is ++ rest) (AtBlock b js) (first_register op) (operands op) (block_map body b js) w
      (λ x i. names-stand op b js gs o at x (operands-named op x i))
      (none-below (first_register op) (block_map body b js) (block-slots body b js)) lt)
      k

  abbrev Valued : List Noted → Block → Waiting → Waiting → List Noted → Type 0
  Valued rest b js gs is =
      Chain p all rest (Some (here body (AtBlock b js) (block_map body b js))) is (Some (here body (AtValue gs) (value_map body gs)))

  -- a new procedure
  close-chain : (rest : List Noted) (m : ℕ) (q : ProcTree) (b : Block) (js gs : Waiting) (o : Option (List ℕ)) (xs : List ℕ) →
      OpAt (captured_in p) (Close m) b js gs o → IsEntered m q → captured_in p m ≡ xs →
      Valued rest b js gs (Does (I.Clo 16 (length xs) m) (here body (AtBlock b js) (block_map body b js)) None ∷ fills body m gs 0 xs)
  close-chain rest m q b js gs o [] at h e =
      c_does (ok_close m q at (lit< tt) h.entered (sym (ap captured_by (h.entered.there)) ∙ e) (target h.mark)
      (value-into (Close m) b js gs o 1 [] at)) c_end
  close-chain rest m q b js gs o (x ∷ xs) at h e =
      let same = sym (ap captured_by (h.entered.there)) ∙ e in
      let st = λ (y : ℕ) (i : IsIn y (x ∷ xs)). names-stand (Close m) b js gs o at y (subst (IsIn y) (sym e) i) in
      c_does (ok_open m q at (lit< tt) h.entered (ap length (sym same)) (omega arith)
      (record { stand = λ y i. (Slot (home y), st y (subst (IsIn y) same i)) }) (target h.mark)
      (subst (λ ys. Into (Reg 16) IsFirst (Opens o ys) (fill_map body 0 (x ∷ xs) gs) (block_map body b js)) (sym same)
      (opens-into (Close m) b js gs o (x ∷ xs) at st)))
      (fills-chain rest m gs 0 x xs (let n = ap length e in let z : 0 + suc (length xs) ≡ suc (length xs) = omega arith in z ∙ sym n))

  -- an operation that is no call
  pub simple-chain : (rest : List Noted) (op : Op) (b : Block) (js gs : Waiting) (o : Option (List ℕ)) →
      OpAt (captured_in p) op b js gs o → OpOk op → is_call op ≡ false → Valued rest b js gs (simple body op (AtBlock b js) gs (block_map body b js))
  simple-chain rest (Atom (Quote k)) b js gs o at w e =
      c_does (ok_act (Atom (Quote k)) [] (a_quote k (constant p.statics 16 k) 16 refl w) at (lit< tt) no_args
      (value-into (Atom (Quote k)) b js gs o 1 [] at)) c_end
  simple-chain rest (Atom (Var x)) b js gs o at w e =
      c_does (ok_read at (lit< tt) (names-stand (Atom (Var x)) b js gs o at x (inl refl)) (value-into (Atom (Var x)) b js gs o 1 [] at)) c_end
  simple-chain rest (Global g q) b js gs o at w e =
      c_does (ok_act (Global g q) [] (a_global g q 16 w) at (lit< tt) no_args (value-into (Global g q) b js gs o 1 [] at)) c_end
  simple-chain rest (SetGlobal g a q) b js gs o at w e =
      loaded-chain rest (SetGlobal g a q) b js gs o _ _ at (w.1, tt) (lit≤ tt)
      (c_does (ok_write (SetGlobal g a q) (1 ∷ []) (w_set g a q 1 w.0) at (args-loaded 1 (a ∷ []) _)
      (waits-from (SetGlobal g a q) b js gs o 1 (a ∷ []) at)) (unspecified-chain rest gs))
  simple-chain rest (DefGlobal g a) b js gs o at w e =
      loaded-chain rest (DefGlobal g a) b js gs o _ _ at (w.1, tt) (lit≤ tt)
      (c_does (ok_write (DefGlobal g a) (1 ∷ []) (w_define g a 1 w.0) at (args-loaded 1 (a ∷ []) _)
      (waits-from (DefGlobal g a) b js gs o 1 (a ∷ []) at)) (unspecified-chain rest gs))
  simple-chain rest (PrimUse r [] q) b js gs o at w e =
      c_does (ok_act (PrimUse r [] q) [] (a_use0 r q 16) at (lit< tt) no_args (value-into (PrimUse r [] q) b js gs o 1 [] at)) c_end
  simple-chain rest (PrimUse r (x ∷ []) q) b js gs o at w e =
      loaded-chain rest (PrimUse r (x ∷ []) q) b js gs o _ _ at w.1 (lit≤ tt)
      (c_does (ok_act (PrimUse r (x ∷ []) q) (1 ∷ []) (a_use1 r x q 16 1) at (lit< tt) (args-loaded 1 (x ∷ []) _)
      (value-into (PrimUse r (x ∷ []) q) b js gs o 1 (x ∷ []) at)) c_end)
  simple-chain rest (PrimUse r (x ∷ y ∷ []) q) b js gs o at w e =
      loaded-chain rest (PrimUse r (x ∷ y ∷ []) q) b js gs o _ _ at w.1 (lit≤ tt)
      (c_does (ok_act (PrimUse r (x ∷ y ∷ []) q) (1 ∷ 2 ∷ []) (a_use2 r x y q 16 1 2) at (lit< tt) (args-loaded 1 (x ∷ y ∷ []) _)
      (value-into (PrimUse r (x ∷ y ∷ []) q) b js gs o 1 (x ∷ y ∷ []) at)) c_end)
  simple-chain rest (PrimUse r (x ∷ y ∷ z ∷ []) q) b js gs o at w e =
      loaded-chain rest (PrimUse r (x ∷ y ∷ z ∷ []) q) b js gs o _ _ at w.1 (lit≤ tt)
      (c_does (ok_act (PrimUse r (x ∷ y ∷ z ∷ []) q) (1 ∷ 2 ∷ 3 ∷ []) (a_use3 r x y z q 1 2 3) at (lit< tt) (args-loaded 1 (x ∷ y ∷ z ∷ []) _)
      (value-into (PrimUse r (x ∷ y ∷ z ∷ []) q) b js gs o 1 (x ∷ y ∷ z ∷ []) at)) c_end)
  simple-chain rest (PrimUse r (x ∷ y ∷ z ∷ d ∷ ds) q) b js gs o at w e = absurd (let h = w.0 in omega (arith, h))
  simple-chain rest (NewCell a) b js gs o at w e =
      loaded-chain rest (NewCell a) b js gs o _ _ at (w, tt) (lit≤ tt)
      (c_does (ok_act (NewCell a) (1 ∷ []) (a_cell a 16 1) at (lit< tt) (args-loaded 1 (a ∷ []) _) (value-into (NewCell a) b js gs o 1 (a ∷ []) at)) c_end)
  simple-chain rest (CellGet a q) b js gs o at w e =
      loaded-chain rest (CellGet a q) b js gs o _ _ at (w, tt) (lit≤ tt)
      (c_does (ok_act (CellGet a q) (1 ∷ []) (a_get a q 16 1) at (lit< tt) (args-loaded 1 (a ∷ []) _) (value-into (CellGet a q) b js gs o 1 (a ∷ []) at)) c_end)
  simple-chain rest (CellSet a d) b js gs o at w e =
      loaded-chain rest (CellSet a d) b js gs o _ _ at (w.0, (w.1, tt)) (lit≤ tt)
      (c_does (ok_write (CellSet a d) (1 ∷ 2 ∷ []) (w_cell a d 1 2) at (args-loaded 1 (a ∷ d ∷ []) _)
      (waits-from (CellSet a d) b js gs o 1 (a ∷ d ∷ []) at)) (unspecified-chain rest gs))
  simple-chain rest (Close m) b js gs o at w e = close-chain rest m w.0 b js gs o (captured_in p m) at w.1 refl
  simple-chain rest (Call f ds q) b js gs o at w e = absurd (true≢false e)
  simple-chain rest (Direct m ds) b js gs o at w e = absurd (true≢false e)
  simple-chain rest (Apply f a q) b js gs o at w e = absurd (true≢false e)
  simple-chain rest (Branch a c d) b js gs o at w e = absurd w

  -- a call whose operands are loaded, above whatever stood there
  call-ok : (F : ℕ → Note → Type 0) (l : ℕ) (op : Op) (b : Block) (js gs : Waiting) (o : Option (List ℕ)) (own : Own) (es : List Entry) →
      OpAt (captured_in p) op b js gs o → OpOk op → is_call op ≡ true →
      Calls p (Target all) gs o (loaded (first_register op) (operands op) es) own →
      Ok p (Target all) F (act body l op) (place op) (Inside (AtBlock b js) own (loaded (first_register op) (operands op) es)) None
  call-ok F l (Call f ds q) b js gs o own es at w e k = ok_invoke at refl w.0 (args-loaded 0 (f ∷ ds) es) k
  call-ok F l (Direct m ds) b js gs o own es at w e k =
      ok_direct m w.2.0 at w.2.1.lifts w.2.2 w.0 (args-loaded 1 ds es) (target w.2.1.mark) w.2.1.starts k
  call-ok F l (Apply f a q) b js gs o own es at w e k = ok_apply at (args-loaded 0 (f ∷ a ∷ []) es) k
  call-ok F l (Atom a) b js gs o own es at w e k = absurd (true≢false (sym e))
  call-ok F l (Global g q) b js gs o own es at w e k = absurd (true≢false (sym e))
  call-ok F l (SetGlobal g a q) b js gs o own es at w e k = absurd (true≢false (sym e))
  call-ok F l (DefGlobal g a) b js gs o own es at w e k = absurd (true≢false (sym e))
  call-ok F l (PrimUse r ds q) b js gs o own es at w e k = absurd (true≢false (sym e))
  call-ok F l (NewCell a) b js gs o own es at w e k = absurd (true≢false (sym e))
  call-ok F l (CellGet a q) b js gs o own es at w e k = absurd (true≢false (sym e))
  call-ok F l (CellSet a d) b js gs o own es at w e k = absurd (true≢false (sym e))
  call-ok F l (Close m) b js gs o own es at w e k = absurd (true≢false (sym e))
  call-ok F l (Branch a c d) b js gs o own es at w e k = absurd w

  call-quotes : (op : Op) → OpOk op → is_call op ≡ true → QuotesOk p (operands op)
  call-quotes (Call f ds q) w e = (w.1, w.2)
  call-quotes (Direct m ds) w e = w.1
  call-quotes (Apply f a q) w e = (w.0, (w.1, tt))
  call-quotes (Atom a) w e = absurd (true≢false (sym e))
  call-quotes (Global g q) w e = absurd (true≢false (sym e))
  call-quotes (SetGlobal g a q) w e = absurd (true≢false (sym e))
  call-quotes (DefGlobal g a) w e = absurd (true≢false (sym e))
  call-quotes (PrimUse r ds q) w e = absurd (true≢false (sym e))
  call-quotes (NewCell a) w e = absurd (true≢false (sym e))
  call-quotes (CellGet a q) w e = absurd (true≢false (sym e))
  call-quotes (CellSet a d) w e = absurd (true≢false (sym e))
  call-quotes (Close m) w e = absurd (true≢false (sym e))
  call-quotes (Branch a b d) w e = absurd w

  call-few : (op : Op) → OpOk op → is_call op ≡ true → first_register op + length (operands op) ≤ 17
  call-few (Call f ds q) w e = let h = w.0 in omega (arith, h)
  call-few (Direct m ds) w e = let h = w.0 in omega (arith, h)
  call-few (Apply f a q) w e = lit≤ tt
  call-few (Atom a) w e = absurd (true≢false (sym e))
  call-few (Global g q) w e = absurd (true≢false (sym e))
  call-few (SetGlobal g a q) w e = absurd (true≢false (sym e))
  call-few (DefGlobal g a) w e = absurd (true≢false (sym e))
  call-few (PrimUse r ds q) w e = absurd (true≢false (sym e))
  call-few (NewCell a) w e = absurd (true≢false (sym e))
  call-few (CellGet a q) w e = absurd (true≢false (sym e))
  call-few (CellSet a d) w e = absurd (true≢false (sym e))
  call-few (Close m) w e = absurd (true≢false (sym e))
  call-few (Branch a b d) w e = absurd w

  same-map : (es : List Entry) → From Same es es
  same-map es = record { from = λ q s i. (s, i, same s) }

  -- a call that comes back to a label
  pub returning-chain : (rest : List Noted) (op : Op) (b : Block) (js gs : Waiting) (o : Option (List ℕ)) (l : ℕ) →
      OpAt (captured_in p) op b js gs o → OpOk op → is_call op ≡ true → HasFrame gs →
      IsIn (Mark l (here body (AtValue gs) (value_map body gs))) all →
      Valued rest b js gs (returning body op (AtBlock b js) gs l (block_map body b js))
  returning-chain rest op b js gs o l at w e f i =
      loaded-chain rest op b js gs o _ _ at (call-quotes op w e) (call-few op w e)
      (c_does (ok_setrtn (same-map _))
      (c_does (call-ok _ l op b js gs o (Ready size l) (block_map body b js) at w e
      (from_ready (target i) f (value-backs op b js gs o (first_register op) (operands op) at)))
      (c_dead c_end)))

  -- the registers of operands, above fewer entries, which are registers
  loaded-fewer : (a : ℕ) (ds : List Operand) (fs es : List Entry) →
      ((q : Spot) (s : Symbol) → IsIn (Stands q s) fs → IsIn (Stands q s) es × ((j : ℕ) × (q ≡ Reg j))) →
      (q : Spot) (s : Symbol) → IsIn (Stands q s) (loaded a ds fs) → IsIn (Stands q s) (loaded a ds es) × ((j : ℕ) × (q ≡ Reg j))
  loaded-fewer a [] fs es h q s i = h q s i
  loaded-fewer a (d ∷ ds) fs es h q s i =
      loaded-fewer (suc a) ds (Stands (Reg a) (symbol_of d) ∷ fs) (Stands (Reg a) (symbol_of d) ∷ es)
      (λ r t. ⊎_elim (λ e. (inl e, (a, entry-spot (Reg a) r _ t e))) (λ j. let g = h r t j in (inr g.0, g.1)))
      q s i

  -- a call that leaves the procedure
  pub leaving-chain : (rest : List Noted) (op : Op) (b : Block) (o : Option (List ℕ)) →
      OpAt (captured_in p) op b ToCaller ToCaller o → OpOk op → is_call op ≡ true →
      Chain p all rest (Some (here body (AtBlock b ToCaller) (block_map body b ToCaller)))
      (leaving body op (AtBlock b ToCaller) (block_map body b ToCaller)) None
  leaving-chain rest op b o at w e =
      let fewer = loaded-fewer (first_register op) (operands op) [] (block_map body b ToCaller) (λ q s i. absurd i) in
      loaded-chain rest op b ToCaller ToCaller o _ _ at (call-quotes op w e) (call-few op w e)
      (c_does (ok_pop
      (record { no_slots = λ x s i. let h = fewer (Slot x) s i in reg-slot h.1.0 x (sym h.1.1) })
      (record { from = λ q s i. (s, (fewer q s i).0, same s) }))
      (c_does (call-ok _ 0 op b ToCaller ToCaller o Away [] at w e (from_away refl)) c_end))

  -- the value of an operation comes to RESULT; a call comes back to a label
  pub evaluated-chain : (rest : List Noted) (op : Op) (b : Block) (js gs : Waiting) (o : Option (List ℕ)) (l : ℕ) →
      OpAt (captured_in p) op b js gs o → OpOk op → (is_call op ≡ true → HasFrame gs) →
      (is_call op ≡ true → IsIn (Mark l (here body (AtValue gs) (value_map body gs))) all) →
      Valued rest b js gs (evaluated body op (AtBlock b js) gs l (block_map body b js))
  evaluated-chain rest op b js gs o l at w f m =
      by (is_call op) refl
    where
      by : (t : Bool) → is_call op ≡ t →
          Valued rest b js gs (cond t (returning body op (AtBlock b js) gs l (block_map body b js)) (simple body op (AtBlock b js) gs (block_map body b js)))
      by true e = returning-chain rest op b js gs o l at w e (f e) (m e)
      by false e = simple-chain rest op b js gs o at w e
