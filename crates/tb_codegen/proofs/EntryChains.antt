-- The items at the entry of a lambda follow their notes: operands are counted, the frame is made, and captured
-- variables and operands go to their slots.
use Rattle.std.proofs.Common.{◌≡◌, true≢false, ℕ, suc, ◌<◌, ◌≤◌, ◌+◌, ◌⊎◌, Bool, true, false, cond, List, [], ◌∷◌, ◌++◌, length, Some, None, slice_get, refl, sym, ap, ◌∙◌, subst, inl, inr, ⊎_elim, append_assoc, append-nil, lit<, lit≤, arith}
use Rattle.tb_semantics.specs.Graph.{IsApart, IsIn}
use Rattle.tb_semantics.proofs.ListLemmas.{in-left, in-right, in-cases, length-last}
use Rattle.tb_core.specs.FreeVariables.{is_in}
use Rattle.tb_core.proofs.Members.{in-tested, tested-in}
use Rattle.tb_ir.specs.AnfTree.{ProcTree, AnfTree}
use Rattle.tb_mac.specs.declared.code.Instr.{Instr}
use Rattle.tb_mac.specs.declared.code.Instr.TheVariants as I
use Rattle.tb_codegen.specs.Notes.{Spot, Reg, Slot, Symbol, Variable, Itself, Entry, Stands, ToCaller, Point, AtBlock, Away, Note, Inside, Noted, Does}
use Rattle.tb_codegen.specs.Operations.{Body, variables, block_map, here}
use Rattle.tb_codegen.specs.Generate.{settled, block_note, block_point, operands_map, itself_map, stores_captured, stores_operands, frame_made}
use Rattle.tb_codegen.proofs.Changes.{Same, same, IsThat, is_that, StandsAt, stands_at, From, Into, Param, here_param, there_param}
use Rattle.tb_codegen.proofs.Ok.{Entered, Ok, ok_store, ok_save, ok_capt, free}
use Rattle.tb_codegen.proofs.Chains.{Target, Chain, c_end, c_does}
use Rattle.tb_codegen.proofs.Maps.{entry-spot, entry-symbol, in-variables, put-into, reg-same, reg-slot, slot-same, variables-in}
use Rattle.tb_codegen.proofs.OperationChains.{at-home, body}

-- names that stay the same, one after another
pub from-refl : (es : List Entry) → From Same es es
from-refl es = record { from = λ q s i. (s, i, same s) }

from-sub : (es fs : List Entry) → ((q : Spot) (s : Symbol) → IsIn (Stands q s) fs → IsIn (Stands q s) es) → From Same fs es
from-sub es fs h = record { from = λ q s i. (s, h q s i, same s) }

same-in : (q : Spot) (s o : Symbol) (es : List Entry) → Same o s → IsIn (Stands q o) es → IsIn (Stands q s) es
same-in q s o es (same t) i = i

into-from : (r : Spot) (V : Symbol → Type 0) (new big old : List Entry) → From Same new big → Into r V Same big old → Into r V Same new old
into-from r V new big old f h = record { into = λ q s i. let g = f.from q s i in h.into q s (same-in q s g.0 big g.2 g.1) }

from-from : (new big old : List Entry) → From Same new big → From Same big old → From Same new old
from-from new big old f h = record { from = λ q s i. let g = f.from q s i in h.from q s (same-in q s g.0 big g.2 g.1) }

-- what is captured, once all is in its slot
abbrev captured_end : List ℕ → List ℕ → List ℕ
captured_end [] done = done
captured_end (x ∷ xs) done = captured_end xs (x ∷ done)

get-here : {X : Type 0} (xs ys : List X) (x : X) → slice_get (xs ++ x ∷ ys) (length xs) ≡ Some x
get-here [] ys x = refl
get-here (y ∷ xs) ys x = get-here xs ys x

in-captured_end : (xs done : List ℕ) (y : ℕ) → IsIn y xs ⊎ IsIn y done → IsIn y (captured_end xs done)
in-captured_end [] done y (inl i) = absurd i
in-captured_end [] done y (inr i) = i
in-captured_end (x ∷ xs) done y (inl (inl e)) = in-captured_end xs (x ∷ done) y (inr (inl e))
in-captured_end (x ∷ xs) done y (inl (inr i)) = in-captured_end xs (x ∷ done) y (inl i)
in-captured_end (x ∷ xs) done y (inr i) = in-captured_end xs (x ∷ done) y (inr (inr i))

-- the variables in their slots, once operands that are named are stored
abbrev operands_end : List ℕ → List ℕ → List ℕ → List ℕ
operands_end us [] done = done
operands_end us (y ∷ ys) done = cond (is_in us y) (operands_end us ys (y ∷ done)) (operands_end us ys done)

in-operands_end : (us ys done : List ℕ) (z : ℕ) → (IsIn z ys × (is_in us z ≡ true)) ⊎ IsIn z done → IsIn z (operands_end us ys done)
in-operands_end us [] done z (inl h) = absurd h.0
in-operands_end us [] done z (inr i) = i
in-operands_end us (y ∷ ys) done z h =
    by (is_in us y) refl (in-operands_end us ys (y ∷ done) z) (in-operands_end us ys done z) h
  where
    by : (b : Bool) → is_in us y ≡ b →
        ((IsIn z ys × (is_in us z ≡ true)) ⊎ IsIn z (y ∷ done) → IsIn z (operands_end us ys (y ∷ done))) →
        ((IsIn z ys × (is_in us z ≡ true)) ⊎ IsIn z done → IsIn z (operands_end us ys done)) →
        (IsIn z (y ∷ ys) × (is_in us z ≡ true)) ⊎ IsIn z done → IsIn z (cond b (operands_end us ys (y ∷ done)) (operands_end us ys done))
    by true e f g (inl (inl r, t)) = f (inr (inl r))
    by true e f g (inl (inr i, t)) = f (inl (i, t))
    by true e f g (inr i) = f (inr (inr i))
    by false e f g (inl (inl r, t)) = absurd (true≢false (sym t ∙ ap (is_in us) (sym r) ∙ e))
    by false e f g (inl (inr i, t)) = g (inl (i, t))
    by false e f g (inr i) = g (inr i)

-- the procedure itself is in register 0
pub itself-only : (m : ℕ) (xs : List ℕ) (r : Spot) (s : Symbol) → IsIn (Stands r s) (itself_map m xs) → Stands (Reg 0) (Itself m) ≡ Stands r s
itself-only m [] r s i = absurd i
itself-only m (x ∷ xs) r s (inl e) = e
itself-only m (x ∷ xs) r s (inr i) = absurd i

itself-spot : (m : ℕ) (xs : List ℕ) (r : Spot) (s : Symbol) → IsIn (Stands r s) (itself_map m xs) → r ≡ Reg 0
itself-spot m xs r s i = entry-spot (Reg 0) r (Itself m) s (itself-only m xs r s i)

-- parts of lists without repeats
pub apart-left : (xs ys : List ℕ) → IsApart (xs ++ ys) → IsApart xs
apart-left [] ys h = tt
apart-left (x ∷ xs) ys h = (λ i. h.0 (in-left xs ys x i), apart-left xs ys h.1)

pub apart-right : (xs ys : List ℕ) → IsApart (xs ++ ys) → IsApart ys
apart-right [] ys h = h
apart-right (x ∷ xs) ys h = apart-right xs ys h.1

apart-parts : (xs ys : List ℕ) (x : ℕ) → IsApart (xs ++ x ∷ ys) → IsIn x xs → ⊥
apart-parts [] ys x h i = i
apart-parts (z ∷ xs) ys x h (inl e) = h.0 (subst (λ w. IsIn w (xs ++ x ∷ ys)) (sym e) (in-right xs (x ∷ ys) x (inl refl)))
apart-parts (z ∷ xs) ys x h (inr i) = apart-parts xs ys x h.1 i

-- operands that a body names, in their registers
param-in : (y i a : ℕ) (ps : List ℕ) → Param y i a ps → IsIn y ps
param-in y i a ps here_param = inl refl
param-in y i a ps (there_param ne h) = inr (param-in y i _ _ h)

pub record Operand-at (us : List ℕ) (a : ℕ) (ps : List ℕ) (q : Spot) (s : Symbol) : Type 0 where
  pub var : ℕ
  pub register : ℕ
  pub spot : q ≡ Reg register
  pub symbol : s ≡ Variable 0 var
  pub used : IsIn var us
  pub at : Param var register a ps
  pub from_a : a ≤ register
  pub below : register < a + length ps

pub operands-in : (us : List ℕ) (a : ℕ) (ps : List ℕ) → IsApart ps → (q : Spot) (s : Symbol) → IsIn (Stands q s) (operands_map us a ps) →
    Operand-at us a ps q s
operands-in us a [] h q s i = absurd i
operands-in us a (y ∷ ps) h q s i = by (is_in us y) refl i (operands-in us (suc a) ps h.1 q s)
  where
    there : Operand-at us (suc a) ps q s → Operand-at us a (y ∷ ps) q s
    there o = record {
      var = o.var;
      register = o.register;
      spot = o.spot;
      symbol = o.symbol;
      used = o.used;
      at = there_param (λ e. h.0 (subst (λ z. IsIn z ps) (sym e) (param-in o.var o.register (suc a) ps o.at))) o.at;
      from_a = let f = o.from_a in omega (arith, f);
      below = let f = o.below in omega (arith, f);
    }

    by : (b : Bool) → is_in us y ≡ b →
        IsIn (Stands q s) (cond b (Stands (Reg a) (Variable 0 y) ∷ operands_map us (suc a) ps) (operands_map us (suc a) ps)) →
        (IsIn (Stands q s) (operands_map us (suc a) ps) → Operand-at us (suc a) ps q s) → Operand-at us a (y ∷ ps) q s
    by true e (inl r) so = record {
      var = y;
      register = a;
      spot = entry-spot (Reg a) q _ s r;
      symbol = entry-symbol (Reg a) q _ s r;
      used = in-tested us y e;
      at = here_param;
      from_a = omega arith;
      below = omega arith;
    }
    by true e (inr j) so = there (so j)
    by false e j so = there (so j)

module _ (p : AnfTree) (all : List Noted) (home : ℕ → ℕ) (size : ℕ) where
  abbrev c : Body
  c = body p all home size

  -- a move above the frame, with all that may be named behind it
  data Moves (pt : Point) : Instr → List Entry → List Entry → Type 0 where
    m_store : {s a : ℕ} {es big : List Entry} (z : Symbol) → s < size → IsIn (Stands (Reg a) z) es →
        Into (Slot s) (StandsAt (Reg a) es) Same big es → Moves pt (I.Store a s) es big
    m_capt : {d a j : ℕ} {es big : List Entry} (m x : ℕ) (q : ProcTree) → AtBlock (settled q.body) ToCaller ≡ pt → d < 17 →
        Entered p m q → slice_get q.captured j ≡ Some x → IsIn (Stands (Reg a) (Itself m)) es →
        Into (Reg d) (IsThat (Variable 0 x)) Same big es → Moves pt (I.Capt d a j) es big

  move-ok : (F : ℕ → Note → Type 0) (pt : Point) (i : Instr) (es big new : List Entry) → Moves pt i es big → From Same new big →
      Ok p (Target all) F i None (here c pt es) (Some (here c pt new))
  move-ok F pt i es big new (m_store {s = s} {a = a} z lt st into) f = ok_store z lt st (into-from (Slot s) (StandsAt (Reg a) es) new big es f into)
  move-ok F pt i es big new (m_capt {d = d} {a = a} {j = j} m x q e lt h g st into) f =
      subst (λ r. Ok p (Target all) F (I.Capt d a j) None (here c r es) (Some (here c r new))) e
      (ok_capt m x q lt h g st (into-from (Reg d) (IsThat (Variable 0 x)) new big es f into))

  -- moves one after another, each of which may leave fewer names than it could
  data Row (pt : Point) : List Entry → List Noted → List Entry → Type 0 where
    row_end : {es end : List Entry} → From Same end es → Row pt es [] end
    row_step : {i : Instr} {old es big end : List Entry} {is : List Noted} → From Same es old → Moves pt i es big → Row pt big is end →
        Row pt old (Does i (here c pt es) None ∷ is) end

  row-from : (pt : Point) (a b d : List Entry) (is : List Noted) → From Same a b → Row pt a is d → Row pt b is d
  row-from pt a b d is f (row_end g) = row_end (from-from d a b g f)
  row-from pt a b d is f (row_step {es = es} g m r) = row_step (from-from es a b g f) m r

  row-append : (pt : Point) (a b d : List Entry) (is js : List Noted) → Row pt a is b → Row pt b js d → Row pt a (is ++ js) d
  row-append pt a b d is js (row_end f) k = row-from pt b a d js f k
  row-append pt a b d is js (row_step f m r) k = row_step f m (row-append pt _ b d _ js r k)

  -- fewer names at the end
  moves-chain : (rest : List Noted) (pt : Point) (i : Instr) (n : Note) (old end fin : List Entry) (is : List Noted) →
      ((new : List Entry) → From Same new old → Ok p (Target all) (Target (is ++ rest)) i None n (Some (here c pt new))) →
      Row pt old is end → From Same fin end → Chain p all rest (Some n) (Does i n None ∷ is) (Some (here c pt fin))
  moves-chain rest pt i n old end fin is step (row_end g) f = c_does (step fin (from-from fin end old f g)) c_end
  moves-chain rest pt i n old end fin is step (row_step {i = j} {es = es} {big = big} {is = is2} g m r) f =
      c_does (step es g)
      (moves-chain rest pt j (here c pt es) big end fin is2 (λ new h. move-ok (Target (is2 ++ rest)) pt j es big new m h) r f)

  -- a lambda whose parameters and captured variables have slots of their own
  pub record Entering (q : ProcTree) : Type 0 where
    pub small : (x : ℕ) → IsIn x (q.captured ++ q.params) → home x < size
    pub own : (x y : ℕ) → IsIn x (q.captured ++ q.params) → IsIn y (q.captured ++ q.params) → home x ≡ home y → x ≡ y
    pub apart : IsApart (q.captured ++ q.params)
    pub few : length q.params ≤ 12

  -- maps with variables in slots and operands in registers
  abbrev operand_entries : ProcTree → List Entry
  operand_entries q = operands_map (free p q.body) 1 q.params

  no-register : (q : ProcTree) (a : ℕ) (t : Symbol) → Entering q → IsApart q.params → (a ≡ 0) ⊎ (13 ≤ a) →
      IsIn (Stands (Reg a) t) (operand_entries q) → ⊥
  no-register q a t h ap_ps out i =
      let o = operands-in (free p q.body) 1 q.params ap_ps (Reg a) t i in
      let e = reg-same a o.register o.spot in let f = o.from_a in let b = o.below in let few = h.few in
      ⊎_elim (λ z. omega (arith, e, f, z)) (λ z. omega (arith, e, b, z, few)) out

  -- captured variables go to their slots, where those of `done` are
  captured-row : (m : ℕ) (q : ProcTree) (front xs done : List ℕ) (n : ℕ) → Entering q → IsApart q.params → Entered p m q →
      q.captured ≡ front ++ xs → n ≡ length front → ((y : ℕ) → IsIn y done → IsIn y front) →
      Row (block_point q.body ToCaller) (itself_map m xs ++ (operand_entries q ++ variables c 0 done))
      (stores_captured c m (block_point q.body ToCaller) (operand_entries q) n xs done)
      (operand_entries q ++ variables c 0 (captured_end xs done))
  captured-row m q front [] done n h ap_ps w e k d = row_end (from-refl _)
  captured-row m q front (x ∷ xs) done n h ap_ps w e k d =
      row_step (from-refl _)
      (m_capt m x q refl (lit< tt) w (ap (λ zs. slice_get zs n) e ∙ ap (slice_get (front ++ x ∷ xs)) k ∙ get-here front xs x) (inl refl)
      (put-into (Reg 16) (IsThat (Variable 0 x)) (Variable 0 x) _ no_result is_that))
      (row_step (from-sub _ _ drop_itself)
      (m_store (Variable 0 x) (h.small x in_x) (inl refl) stored)
      (captured-row m q (front ++ x ∷ []) xs (x ∷ done) (suc n) h ap_ps w (e ∙ sym (append_assoc front (x ∷ []) xs))
      (ap suc k ∙ sym (length-last front x))
      (λ y. ⊎_elim (λ r. subst (λ z. IsIn z (front ++ x ∷ [])) r (in-right front (x ∷ []) x (inl refl))) (λ j. in-left front (x ∷ []) y (d y j)))))
    where
      in_captured : IsIn x q.captured
      in_captured = subst (IsIn x) (sym e) (in-right front (x ∷ xs) x (inl refl))

      in_x : IsIn x (q.captured ++ q.params)
      in_x = in-left q.captured q.params x in_captured

      no_result : (t : Symbol) → IsIn (Stands (Reg 16) t) (itself_map m (x ∷ xs) ++ (operand_entries q ++ variables c 0 done)) → ⊥
      no_result t (inl r) = let z = reg-same 16 0 (entry-spot (Reg 0) (Reg 16) _ t r) in absurd (omega (arith, z))
      no_result t (inr i) = ⊎_elim (no-register q 16 t h ap_ps (inr (lit≤ tt))) (λ v. let s = variables-in c 0 done (Reg 16) t v in reg-slot 16 _ s.2.spot)
          (in-cases (operand_entries q) (variables c 0 done) _ i)

      drop_itself : (r : Spot) (s : Symbol) →
          IsIn (Stands r s) (Stands (Reg 16) (Variable 0 x) ∷ (itself_map m xs ++ (operand_entries q ++ variables c 0 done))) →
          IsIn (Stands r s) (Stands (Reg 16) (Variable 0 x) ∷ (itself_map m (x ∷ xs) ++ (operand_entries q ++ variables c 0 done)))
      drop_itself r s (inl i) = inl i
      drop_itself r s (inr i) = inr (⊎_elim (λ j. inl (itself-only m xs r s j)) inr (in-cases (itself_map m xs) _ _ i))

      other_slot : (y : ℕ) → IsIn y done → home x ≡ home y → ⊥
      other_slot y j r =
          let in_front = d y j in
          let same_y = h.own x y in_x (in-left q.captured q.params y (subst (IsIn y) (sym e) (in-left front (x ∷ xs) y in_front))) r in
          apart-parts front xs x (subst IsApart e (apart-left q.captured q.params h.apart)) (subst (λ z. IsIn z front) (sym same_y) in_front)

      stored : Into (Slot (home x)) (StandsAt (Reg 16) (Stands (Reg 16) (Variable 0 x) ∷ (itself_map m xs ++ (operand_entries q ++ variables c 0 done)))) Same
          (itself_map m xs ++ (operand_entries q ++ variables c 0 (x ∷ done)))
          (Stands (Reg 16) (Variable 0 x) ∷ (itself_map m xs ++ (operand_entries q ++ variables c 0 done)))
      stored = record {
        into = λ r s i. ⊎_elim
            (λ j. inr ((λ z. reg-slot _ _ (sym (itself-spot m xs r s j) ∙ sym z)), (s, inr (in-left (itself_map m xs) _ _ j), same s)))
            (λ j. ⊎_elim
            (λ o. let v = operands-in (free p q.body) 1 q.params ap_ps r s o in
            inr ((λ z. reg-slot v.register _ (sym v.spot ∙ sym z)), (s, inr (in-right (itself_map m xs) _ _ (in-left (operand_entries q) _ _ o)), same s)))
            (λ v. ⊎_elim
            (λ t. inl (entry-spot _ r _ s t, stands_at (inl (ap (Stands (Reg 16)) (sym (entry-symbol _ r _ s t))))))
            (λ u. let t = variables-in c 0 done r s u in
            inr ((λ z. other_slot t.0 t.1 (slot-same _ _ (z ∙ t.2.spot))), (s, inr (in-right (itself_map m xs) _ _ (in-right (operand_entries q) _ _ u)), same s)))
            v)
            (in-cases (operand_entries q) (variables c 0 (x ∷ done)) _ j))
            (in-cases (itself_map m xs) _ _ i);
      }

  -- operands go to the slots of their parameters
  operands-row : (q : ProcTree) (pt : Point) (us : List ℕ) (a : ℕ) (front ys done : List ℕ) → Entering q → IsApart ys →
      q.captured ++ q.params ≡ front ++ ys → ((z : ℕ) → IsIn z done → IsIn z front) →
      Row pt (operands_map us a ys ++ variables c 0 done) (stores_operands c pt us a ys done) (variables c 0 (operands_end us ys done))
  operands-row q pt us a front [] done h ap_ys e d = row_end (from-refl _)
  operands-row q pt us a front (y ∷ ys) done h ap_ys e d =
      by (is_in us y) refl
      (operands-row q pt us (suc a) (front ++ y ∷ []) ys (y ∷ done) h ap_ys.1 (e ∙ sym (append_assoc front (y ∷ []) ys))
      (λ z. ⊎_elim (λ r. subst (λ w. IsIn w (front ++ y ∷ [])) r (in-right front (y ∷ []) y (inl refl))) (λ j. in-left front (y ∷ []) z (d z j))))
      (operands-row q pt us (suc a) (front ++ y ∷ []) ys done h ap_ys.1 (e ∙ sym (append_assoc front (y ∷ []) ys)) (λ z j. in-left front (y ∷ []) z (d z j)))
    where
      in_y : IsIn y (q.captured ++ q.params)
      in_y = subst (IsIn y) (sym e) (in-right front (y ∷ ys) y (inl refl))

      other_slot : (z : ℕ) → IsIn z done → home y ≡ home z → ⊥
      other_slot z j r =
          let in_front = d z j in
          let same_z = h.own y z in_y (subst (IsIn z) (sym e) (in-left front (y ∷ ys) z in_front)) r in
          apart-parts front ys y (subst IsApart e h.apart) (subst (λ w. IsIn w front) (sym same_z) in_front)

      stored : Into (Slot (home y)) (StandsAt (Reg a) ((Stands (Reg a) (Variable 0 y) ∷ operands_map us (suc a) ys) ++ variables c 0 done)) Same
          (operands_map us (suc a) ys ++ variables c 0 (y ∷ done)) ((Stands (Reg a) (Variable 0 y) ∷ operands_map us (suc a) ys) ++ variables c 0 done)
      stored = record {
        into = λ r s i. ⊎_elim
            (λ o. let v = operands-in us (suc a) ys ap_ys.1 r s o in
            inr ((λ z. reg-slot v.register _ (sym v.spot ∙ sym z)), (s, inr (in-left (operands_map us (suc a) ys) _ _ o), same s)))
            (λ v. ⊎_elim
            (λ t. inl (entry-spot _ r _ s t, stands_at (inl (ap (Stands (Reg a)) (sym (entry-symbol _ r _ s t))))))
            (λ u. let t = variables-in c 0 done r s u in
            inr ((λ z. other_slot t.0 t.1 (slot-same _ _ (z ∙ t.2.spot))), (s, inr (in-right (operands_map us (suc a) ys) _ _ u), same s)))
            v)
            (in-cases (operands_map us (suc a) ys) (variables c 0 (y ∷ done)) _ i);
      }

      by : (b : Bool) → is_in us y ≡ b →
          Row pt (operands_map us (suc a) ys ++ variables c 0 (y ∷ done)) (stores_operands c pt us (suc a) ys (y ∷ done)) (variables c 0 (operands_end us ys (y ∷ done))) →
          Row pt (operands_map us (suc a) ys ++ variables c 0 done) (stores_operands c pt us (suc a) ys done) (variables c 0 (operands_end us ys done)) →
          Row pt (cond b (Stands (Reg a) (Variable 0 y) ∷ operands_map us (suc a) ys) (operands_map us (suc a) ys) ++ variables c 0 done)
          (cond b
          (Does (I.Store a (home y)) (here c pt (cond b (Stands (Reg a) (Variable 0 y) ∷ operands_map us (suc a) ys) (operands_map us (suc a) ys) ++ variables c 0 done)) None ∷
          stores_operands c pt us (suc a) ys (y ∷ done))
          (stores_operands c pt us (suc a) ys done))
          (variables c 0 (cond b (operands_end us ys (y ∷ done)) (operands_end us ys done)))
      by true t stored_row left = row_step (from-refl _) (m_store (Variable 0 y) (h.small y in_y) (inl refl) stored) stored_row
      by false t stored_row left = left

  -- what the body of a lambda names is captured, or one of its parameters
  pub record Names (q : ProcTree) : Type 0 where
    pub names : (y : ℕ) → IsIn y (free p q.body) → IsIn y q.captured ⊎ IsIn y q.params
    pub settles : free p (settled q.body) ≡ free p q.body

  -- the frame is made, and the variables that the body names go to their slots
  pub frame-chain : (rest : List Noted) (m : ℕ) (q : ProcTree) → Entering q → Names q → (q.captured ≡ []) ⊎ Entered p m q →
      Chain p all rest (Some (Inside (block_point q.body ToCaller) Away (itself_map m q.captured ++ operand_entries q)))
      (frame_made c m q.body q.params q.captured) (Some (block_note c q.body ToCaller))
  frame-chain rest m q h n w =
      moves-chain rest (block_point q.body ToCaller) (I.Save size) _ (itself_map m q.captured ++ operand_entries q)
      (variables c 0 (operands_end (free p q.body) q.params q.captured)) (block_map c (settled q.body) ToCaller)
      (stores_captured c m (block_point q.body ToCaller) (operand_entries q) 0 q.captured [] ++
      stores_operands c (block_point q.body ToCaller) (free p q.body) 1 q.params q.captured)
      (λ new f. ok_save f)
      (row-append (block_point q.body ToCaller) _ (operand_entries q ++ variables c 0 q.captured) _ _ _
      (captured w)
      (operands-row q (block_point q.body ToCaller) (free p q.body) 1 q.captured q.params q.captured h (apart-right q.captured q.params h.apart) refl (λ z i. i)))
      (from-sub _ _ (λ r s i. ⊎_elim
      (λ v. let t = variables-in c 0 (free p (settled q.body)) r s v in
      let used = subst (IsIn t.0) n.settles t.1 in
      at-home p all home size _ t.0 0 r s t.2.spot t.2.symbol (in-variables c 0 t.0 _ (in-operands_end (free p q.body) q.params q.captured t.0
      (⊎_elim (λ j. inr j) (λ j. inl (j, tested-in (free p q.body) t.0 used)) (n.names t.0 used)))))
      (λ v. absurd v)
      (in-cases (variables c 0 (free p (settled q.body))) [] _ i)))
    where
      pt : Point
      pt = block_point q.body ToCaller

      ending : (xs : List ℕ) → xs ≡ q.captured → From Same (operand_entries q ++ variables c 0 q.captured) (operand_entries q ++ variables c 0 (captured_end xs []))
      ending xs e = from-sub _ _ (λ r s i. ⊎_elim
          (λ o. in-left (operand_entries q) _ _ o)
          (λ v. let t = variables-in c 0 q.captured r s v in
          in-right (operand_entries q) _ _ (at-home p all home size _ t.0 0 r s t.2.spot t.2.symbol
          (in-variables c 0 t.0 _ (in-captured_end xs [] t.0 (inl (subst (IsIn t.0) (sym e) t.1))))))
          (in-cases (operand_entries q) (variables c 0 q.captured) _ i))

      captured : (q.captured ≡ []) ⊎ Entered p m q → Row (block_point q.body ToCaller) (itself_map m q.captured ++ operand_entries q)
          (stores_captured c m (block_point q.body ToCaller) (operand_entries q) 0 q.captured []) (operand_entries q ++ variables c 0 q.captured)
      captured (inr g) =
          row-from (block_point q.body ToCaller) (itself_map m q.captured ++ (operand_entries q ++ [])) _ _ _
          (from-sub _ _ (λ r s i. subst (λ es. IsIn (Stands r s) (itself_map m q.captured ++ es)) (append-nil (operand_entries q)) i))
          (subst (λ js. Row (block_point q.body ToCaller) (itself_map m q.captured ++ (operand_entries q ++ [])) js (operand_entries q ++ variables c 0 q.captured))
          (append-nil _)
          (row-append (block_point q.body ToCaller) _ _ _ _ []
          (captured-row m q [] q.captured [] 0 h (apart-right q.captured q.params h.apart) g refl refl (λ y i. absurd i))
          (row_end (ending q.captured refl))))
      captured (inl e) =
          subst (λ xs. Row (block_point q.body ToCaller) (itself_map m xs ++ operand_entries q)
          (stores_captured c m (block_point q.body ToCaller) (operand_entries q) 0 xs []) (operand_entries q ++ variables c 0 xs)) (sym e)
          (row_end (from-sub _ _ (λ r s i. subst (IsIn (Stands r s)) (append-nil (operand_entries q)) i)))
