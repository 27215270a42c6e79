-- The items of a block follow their notes.
use Rattle.std.proofs.Common.{◌≡◌, ℕ, suc, ◌<◌, Bool, true, false, cond, not, List, [], ◌∷◌, ◌++◌, length, Option, Some, None, refl, sym, ap, ◌∙◌, subst, inl, inr, ⊎_elim, arith}
use Rattle.std.proofs.lemmas.Bool.{cases_eq}
use Rattle.tb_semantics.specs.Graph.{IsApart, IsIn}
use Rattle.tb_semantics.proofs.ListLemmas.{in-left, in-right, in-cases}
use Rattle.tb_core.specs.FreeVariables.{is_in, without}
use Rattle.tb_core.proofs.Members.{in-without, in-tested}
use Rattle.tb_ir.specs.AnfTree.{Operand, Block, Bind, CloseAll, Tail, Op, Branch, ProcTree, AnfTree}
use Rattle.tb_mac.specs.declared.code.Instr.TheVariants as I
use Rattle.tb_codegen.specs.Notes.{Reg, Slot, Symbol, Variable, Stands, Waiting, ToCaller, ToTop, Then, AtValue, Away, Note, Inside, Noted, Mark, Does}
use Rattle.tb_codegen.specs.Operations.{Body, variables, block_map, value_map, here, loaded}
use Rattle.tb_codegen.specs.Generate.{captured_in, settled, block_note, keep, given}
use Rattle.tb_codegen.proofs.Changes.{OpAt, Under, u_own, Given, g_var, g_deep, same, IsNew, is_new, From}
use Rattle.tb_codegen.proofs.Ok.{Settles, s_more, s_group, s_bind, s_tail, ok_pop, ok_jump, ok_given, ok_return, free}
use Rattle.tb_codegen.proofs.Chains.{target, Chain, c_end, c_does, chain-on}
use Rattle.tb_codegen.proofs.Maps.{Named, down, down-more, entry-spot, in-loaded, in-variables, in-waiting, reg-slot, slot-same, variables-in, waiting-in}
use Rattle.tb_codegen.proofs.OperationChains.{IsEntered, OpOk, QuoteOk, at-home, body, waits-under}

-- what is kept without some variables is none of these
pub kept-apart : (xs ys : List ℕ) (y : ℕ) → IsIn y (without xs ys) → is_in xs y ≡ false
kept-apart xs [] y i = absurd i
kept-apart xs (z ∷ ys) y i = by (is_in xs z) refl i (kept-apart xs ys y)
  where
    by : (b : Bool) → is_in xs z ≡ b → IsIn y (cond (not b) (z ∷ without xs ys) (without xs ys)) →
        (IsIn y (without xs ys) → is_in xs y ≡ false) → is_in xs y ≡ false
    by true e j so = so j
    by false e (inl h) so = ap (is_in xs) (sym h) ∙ e
    by false e (inr j) so = so j

pub without-nothing : (ys : List ℕ) → without [] ys ≡ ys
without-nothing [] = refl
without-nothing (y ∷ ys) = ap (λ zs. y ∷ zs) (without-nothing ys)

-- a variable apart from x is kept without it
pub kept-other : (x y : ℕ) (ys : List ℕ) → IsIn y ys → (x ≡ y → ⊥) → IsIn y (without (x ∷ []) ys)
kept-other x y ys i ne = in-without (x ∷ []) ys y i (by (is_in (x ∷ []) y) refl)
  where
    by : (b : Bool) → is_in (x ∷ []) y ≡ b → b ≡ false
    by false e = refl
    by true e = absurd (⊎_elim (λ h. ne h) (λ h. h) (in-tested (x ∷ []) y e))

module _ (p : AnfTree) (all : List Noted) (home : ℕ → ℕ) (size : ℕ) where
  -- a variable's slot is in the frame, and apart from those of others
  pub record HomeOk (x : ℕ) (others : List ℕ) : Type 0 where
    pub small : home x < size
    pub apart : (y : ℕ) → IsIn y others → home x ≡ home y → ⊥

  abbrev pub HomesOk : List ℕ → List ℕ → List ℕ → Type 0
  HomesOk done [] others = Unit {0}
  HomesOk done (x ∷ xs) others = HomeOk x (done ++ others) × HomesOk (done ++ x ∷ []) xs others

  abbrev pub AllEntered : List ℕ → Type 0
  AllEntered [] = Unit {0}
  AllEntered (m ∷ ms) = ((q : ProcTree) × IsEntered p all home size m q) × AllEntered ms

  -- what a block keeps, where blocks that wait name these variables
  abbrev mutual
    pub BlockOk : Block → List ℕ → Type 0
    BlockOk (Bind x op k) ws =
        HomeOk x (without (x ∷ []) (free p k) ++ ws) × (ArmsOk op (without (x ∷ []) (free p k) ++ ws) × BlockOk k ws)
    BlockOk (CloseAll xs ls k) ws =
        (length xs ≡ length ls) × IsApart xs × AllEntered ls × HomesOk [] xs (free p (CloseAll xs ls k) ++ ws) × BlockOk k ws
    BlockOk (Tail op) ws = ArmsOk op ws

    pub ArmsOk : Op → List ℕ → Type 0
    ArmsOk (Branch a b d) ws = QuoteOk p a × (BlockOk b ws × BlockOk d ws)
    ArmsOk op ws = OpOk p all home size op

  -- the blocks that wait are further on, at their labels
  pub record Stored (x : ℕ) (k : Block) (js : Waiting) : Type 0 where
    pub small : home x < size
    pub apart : (y : ℕ) → IsIn y (without (x ∷ []) (free p k)) → home x ≡ home y → ⊥
    pub waits : (e y : ℕ) → Named (body p all home size) js e y → home x ≡ home y → ⊥
    pub settles : free p (settled k) ≡ free p k
    pub empties : Settles k

  abbrev pub WaitOk : List Noted → Waiting → Type 0
  WaitOk rest ToCaller = Unit {0}
  WaitOk rest (ToTop k) = Unit {0}
  WaitOk rest (Then x k l js) = Stored x k js × (IsIn (Mark l (block_note (body p all home size) k js)) rest × WaitOk rest js)

  abbrev pub Within : List Noted → Type 0
  Within is = (n : Noted) → IsIn n is → IsIn n all

  -- where a block's code ends
  abbrev pub end_of : Waiting → Option Note
  end_of ToCaller = None
  end_of (ToTop k) = Some (Inside (AtValue (ToTop k)) Away [])
  end_of (Then x k l js) = None

  pub wait-more : (js : Waiting) (is rest : List Noted) → WaitOk rest js → WaitOk (is ++ rest) js
  wait-more ToCaller is rest w = tt
  wait-more (ToTop k) is rest w = tt
  wait-more (Then x k l js) is rest w = (w.0, (in-right is rest _ w.1.0, wait-more js is rest w.1.1))

  -- a group of no procedures changes nothing
  pub settles : (b : Block) (ws : List ℕ) → BlockOk b ws → free p (settled b) ≡ free p b
  settles (Bind x op k) ws w = refl
  settles (Tail op) ws w = refl
  settles (CloseAll (x ∷ xs) ls k) ws w = refl
  settles (CloseAll [] [] k) ws w = settles k ws w.4 ∙ sym (without-nothing (free p k))
  settles (CloseAll [] (m ∷ ls) k) ws w = absurd (let h = w.0 in omega (arith, h))

  pub empties : (b : Block) (ws : List ℕ) → BlockOk b ws → Settles b
  empties (Bind x op k) ws w = s_bind x op k
  empties (Tail op) ws w = s_tail op
  empties (CloseAll (x ∷ xs) ls k) ws w = s_group x xs ls k
  empties (CloseAll [] [] k) ws w = s_more (empties k ws w.4)
  empties (CloseAll [] (m ∷ ls) k) ws w = absurd (let h = w.0 in omega (arith, h))

  -- a value in RESULT is stored in the slot of its variable
  pub keep-chain : (rest : List Noted) (x : ℕ) (k : Block) (l : ℕ) (js : Waiting) → Stored x k js →
      Chain p all rest (Some (here (body p all home size) (AtValue (Then x k l js)) (value_map (body p all home size) (Then x k l js))))
      (keep (body p all home size) x (Then x k l js)) (Some (block_note (body p all home size) k js))
  keep-chain rest x k l js h =
      c_does (ok_given x k h.empties h.small (inl refl) (record {
        into = λ q s i. ⊎_elim
            (λ g. let v = variables-in c 0 (free p (settled k)) q s g in
            ⊎_elim
            (λ e. inl (
              v.2.spot ∙ ap (λ z. Slot (home z)) (sym e),
              subst (IsNew x (free p (settled k))) (ap (Variable 0) e ∙ sym v.2.symbol) (is_new (subst (λ z. IsIn z (free p (settled k))) (sym e) v.1)),
            ))
            (λ ne. let y = kept-other x v.0 (free p k) (subst (IsIn v.0) h.settles v.1) ne in
            inr (
              (λ e. h.apart v.0 y (slot-same _ _ (e ∙ v.2.spot))),
              (
                Variable 1 v.0,
                inr (in-left (variables c 1 (without (x ∷ []) (free p k))) _ _ (at-home p all home size _ v.0 1 q (Variable 1 v.0) v.2.spot refl (in-variables c 1 v.0 _ y))),
                subst (Given x (free p (settled k)) (Variable 1 v.0)) (sym v.2.symbol) (g_var v.0 ne v.1),
              ),
            ))
            (cases_eq x v.0))
            (λ g. let w = waiting-in c 1 js q s g in
            inr (
              (λ e. h.waits w.deep w.var w.named (slot-same _ _ (e ∙ w.spot))),
              (
                Variable (down 2 w.deep) w.var,
                inr (in-right (variables c 1 (without (x ∷ []) (free p k))) _ _ (at-home p all home size _ w.var (down 2 w.deep) q (Variable (down 2 w.deep) w.var) w.spot refl (in-waiting c 2 js w.deep w.var w.named))),
                deeper-given w.deep w.var s w.symbol,
              ),
            ))
            (in-cases (variables c 0 (free p (settled k))) _ _ i);
      })) c_end
    where
      c : Body
      c = body p all home size

      deeper-given : (e y : ℕ) (t : Symbol) → t ≡ Variable (down 1 e) y → Given x (free p (settled k)) (Variable (down 2 e) y) t
      deeper-given e y t g =
          subst (λ n. Given x (free p (settled k)) (Variable n y) t) (sym (down-more 1 e ∙ ap suc (down-more 0 e)))
          (subst (Given x (free p (settled k)) (Variable (suc (suc (down 0 e))) y)) (sym (g ∙ ap (λ n. Variable n y) (down-more 0 e)))
          (g_deep (down 0 e) y))

  -- a value in RESULT goes to what waits for it
  pub given-chain : (rest : List Noted) (gs : Waiting) → WaitOk rest gs →
      Chain p all rest (Some (here (body p all home size) (AtValue gs) (value_map (body p all home size) gs))) (given (body p all home size) gs) (end_of gs)
  given-chain rest ToCaller w =
      c_does (ok_pop (record { no_slots = λ x s i. ⊎_elim (λ e. reg-slot 16 x (sym (entry-spot (Reg 16) (Slot x) _ s e))) (λ h. h) i })
      (record { from = λ q s i. (s, i, same s) }))
      (c_does (ok_return (inl refl)) c_end)
  given-chain rest (ToTop k) w =
      c_does (ok_pop (record { no_slots = λ x s i. i }) (record { from = λ q s i. absurd i })) c_end
  given-chain rest (Then x k l js) w =
      chain-on p all rest (Does (I.Jump l) (block_note (body p all home size) k js) None ∷ []) _ _ _ _
      (keep-chain _ x k l js w.0)
      (c_does (ok_jump (target w.1.0) (record { from = λ q s i. (s, i, same s) })) c_end)

  -- the arm of a branch, from the block of the branch
  pub arm-from : (op : Op) (b k : Block) (js gs : Waiting) (o : Option (List ℕ)) (a : ℕ) (ds : List Operand) →
      OpAt (captured_in p) op k js gs o → ((y : ℕ) → IsIn y (free p b) → IsIn (Stands (Slot (home y)) (Variable 0 y)) (block_map (body p all home size) k js)) →
      From (Under o (free p b)) (block_map (body p all home size) b gs) (loaded a ds (block_map (body p all home size) k js))
  arm-from op b k js gs o a ds at st = record {
    from = λ q s i. ⊎_elim
        (λ h. let v = variables-in (body p all home size) 0 (free p b) q s h in (
          Variable 0 v.0,
          in-loaded _ a ds _ (at-home p all home size _ v.0 0 q (Variable 0 v.0) v.2.spot refl (st v.0 v.1)),
          subst (Under o (free p b) (Variable 0 v.0)) (sym v.2.symbol) (u_own v.0 v.1),
        ))
        (λ h. let u = waits-under p all home size op k js gs o (free p b) at q s h in (u.0, in-loaded _ a ds _ u.1, u.2))
        (in-cases (variables (body p all home size) 0 (free p b)) _ _ i);
  }
