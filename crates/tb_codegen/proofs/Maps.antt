-- What stands where in the maps of notes: variables in their slots, those of blocks that wait, operands in registers.
use Rattle.std.proofs.Common.{◌≡◌, ℕ, zero, suc, ◌<◌, List, [], ◌∷◌, refl, sym, ap, ◌∙◌, subst, inl, inr, ⊎_elim, arith}
use Rattle.tb_semantics.specs.Graph.{IsIn}
use Rattle.tb_semantics.proofs.ListLemmas.{in-left, in-right, in-cases}
use Rattle.tb_core.specs.FreeVariables.{without}
use Rattle.tb_ir.specs.AnfTree.{Operand, Block}
use Rattle.tb_ir.specs.AnfMachine.{free_block}
use Rattle.tb_codegen.specs.Notes.{Spot, Reg, Slot, Symbol, Variable, Entry, Stands, Waiting, ToCaller, ToTop, Then, symbol_of}
use Rattle.tb_codegen.specs.Operations.{Body, variables, waiting_map, block_map, loaded}
use Rattle.tb_codegen.proofs.Changes.{Same, same, Into, Args, no_args, an_arg, from_register}

-- an entry says one thing
pub entry-spot : (q r : Spot) (s t : Symbol) → Stands q s ≡ Stands r t → r ≡ q
entry-spot q r s t e = cc

pub entry-symbol : (q r : Spot) (s t : Symbol) → Stands q s ≡ Stands r t → t ≡ s
entry-symbol q r s t e = cc

pub reg-slot : (a b : ℕ) → Reg a ≡ Slot b → ⊥
reg-slot a b e = cc

pub slot-same : (a b : ℕ) → Slot a ≡ Slot b → a ≡ b
slot-same a b e = cc

pub reg-same : (a b : ℕ) → Reg a ≡ Reg b → a ≡ b
reg-same a b e = cc

-- a variable stands in the slot of its home
pub record Home (c : Body) (d y : ℕ) (q : Spot) (s : Symbol) : Type 0 where
  pub spot : q ≡ Slot (c.home y)
  pub symbol : s ≡ Variable d y

pub in-variables : (c : Body) (d y : ℕ) (xs : List ℕ) → IsIn y xs → IsIn (Stands (Slot (c.home y)) (Variable d y)) (variables c d xs)
in-variables c d y [] i = absurd i
in-variables c d y (x ∷ xs) (inl e) = inl (ap (λ z. Stands (Slot (c.home z)) (Variable d z)) e)
in-variables c d y (x ∷ xs) (inr i) = inr (in-variables c d y xs i)

pub variables-in : (c : Body) (d : ℕ) (xs : List ℕ) (q : Spot) (s : Symbol) → IsIn (Stands q s) (variables c d xs) →
    (y : ℕ) × IsIn y xs × Home c d y q s
variables-in c d [] q s i = absurd i
variables-in c d (x ∷ xs) q s (inl e) =
    (x, inl refl, record { spot = entry-spot _ q _ s e; symbol = entry-symbol _ q _ s e })
variables-in c d (x ∷ xs) q s (inr i) = let h = variables-in c d xs q s i in (h.0, inr h.1, h.2)

-- a variable that a block which waits names, so many blocks further on
pub data Named (c : Body) : Waiting → ℕ → ℕ → Type 0 where
  here_named : {x l y : ℕ} {b : Block} {js : Waiting} → IsIn y (without (x ∷ []) (free_block c.captured b)) → Named c (Then x b l js) 0 y
  further : {x l e y : ℕ} {b : Block} {js : Waiting} → Named c js e y → Named c (Then x b l js) (suc e) y

-- a depth so many further
pub down : ℕ → ℕ → ℕ
down d zero = d
down d (suc e) = suc (down d e)

pub record Waits (c : Body) (d : ℕ) (js : Waiting) (q : Spot) (s : Symbol) : Type 0 where
  pub var : ℕ
  pub deep : ℕ
  pub named : Named c js deep var
  pub spot : q ≡ Slot (c.home var)
  pub symbol : s ≡ Variable (down d deep) var

down-suc : (d e : ℕ) → down (suc d) e ≡ suc (down d e)
unfolding down
down-suc d zero = refl
down-suc d (suc e) = ap suc (down-suc d e)

pub waiting-in : (c : Body) (d : ℕ) (js : Waiting) (q : Spot) (s : Symbol) → IsIn (Stands q s) (waiting_map c d js) → Waits c d js q s
unfolding down
waiting-in c d ToCaller q s i = absurd i
waiting-in c d (ToTop k) q s i = absurd i
waiting-in c d (Then x b l js) q s i =
    ⊎_elim
    (λ h. let v = variables-in c d (without (x ∷ []) (free_block c.captured b)) q s h in
    record { var = v.0; deep = 0; named = here_named v.1; spot = v.2.spot; symbol = v.2.symbol })
    (λ h. let v = waiting-in c (suc d) js q s h in
    record { var = v.var; deep = suc v.deep; named = further v.named; spot = v.spot; symbol = v.symbol ∙ ap (λ n. Variable n v.var) (down-suc d v.deep) })
    (in-cases (variables c d (without (x ∷ []) (free_block c.captured b))) _ _ i)

pub in-waiting : (c : Body) (d : ℕ) (js : Waiting) (e y : ℕ) → Named c js e y →
    IsIn (Stands (Slot (c.home y)) (Variable (down d e) y)) (waiting_map c d js)
unfolding down
in-waiting c d js e y (here_named i) = in-left _ _ _ (in-variables c d y _ i)
in-waiting c d js e y (further {x = x} {e = e2} {b = b} {js = js2} n) =
    in-right (variables c d (without (x ∷ []) (free_block c.captured b))) _ _
    (subst (λ k. IsIn (Stands (Slot (c.home y)) (Variable k y)) (waiting_map c (suc d) js2)) (down-suc d e2) (in-waiting c (suc d) js2 e2 y n))

-- the same variable, one block further on
pub down-more : (d e : ℕ) → down (suc d) e ≡ suc (down d e)
down-more d e = down-suc d e

-- registers below a number
pub record Below (a : ℕ) (old : List Entry) : Type 0 where
  pub below : (j : ℕ) (s : Symbol) → IsIn (Stands (Reg j) s) old → j < a

-- what stood before operands are loaded stands after
pub in-loaded : (e : Entry) (a : ℕ) (ds : List Operand) (old : List Entry) → IsIn e old → IsIn e (loaded a ds old)
in-loaded e a [] old h = h
in-loaded e a (d ∷ ds) old h = in-loaded e (suc a) ds (Stands (Reg a) (symbol_of d) ∷ old) (inr h)

-- each operand stands in its register
pub args-loaded : (a : ℕ) (ds : List Operand) (old : List Entry) → Args (loaded a ds old) (from_register a ds) ds
args-loaded a [] old = no_args
args-loaded a (d ∷ ds) old =
    an_arg (in-loaded _ (suc a) ds (Stands (Reg a) (symbol_of d) ∷ old) (inl refl)) (args-loaded (suc a) ds (Stands (Reg a) (symbol_of d) ∷ old))

-- no register has a name
pub record NoRegisters (old : List Entry) : Type 0 where
  pub none : (j : ℕ) (s : Symbol) → IsIn (Stands (Reg j) s) old → ⊥

pub waiting-slots : (c : Body) (d : ℕ) (js : Waiting) → NoRegisters (waiting_map c d js)
waiting-slots c d js = record { none = λ j s i. let w = waiting-in c d js (Reg j) s i in reg-slot j _ w.spot }

pub block-slots : (c : Body) (b : Block) (js : Waiting) → NoRegisters (block_map c b js)
block-slots c b js = record {
  none = λ j s i. ⊎_elim
      (λ h. let v = variables-in c 0 (free_block c.captured b) (Reg j) s h in reg-slot j _ v.2.spot)
      (λ h. let w = waiting-in c 1 js (Reg j) s h in reg-slot j _ w.spot)
      (in-cases (variables c 0 (free_block c.captured b)) _ _ i);
}

-- a new word in a register where no word has a name
pub put-into : (p : Spot) (V : Symbol → Type 0) (s : Symbol) (old : List Entry) → ((t : Symbol) → IsIn (Stands p t) old → ⊥) → V s →
    Into p V Same (Stands p s ∷ old) old
put-into p V s old fresh v = record {
  into = λ q t. ⊎_elim
      (λ e. inl (entry-spot p q s t e, subst V (sym (entry-symbol p q s t e)) v))
      (λ h. inr ((λ e. fresh t (subst (λ r. IsIn (Stands r t) old) (sym e) h)), (t, h, same t)));
}

-- a register above those that are named is new, and so is the next
pub above : (a : ℕ) (old : List Entry) → Below a old → (t : Symbol) → IsIn (Stands (Reg a) t) old → ⊥
above a old b t i = let lt = b.below a t i in absurd (omega arith)

pub below-more : (a : ℕ) (s : Symbol) (old : List Entry) → Below a old → Below (suc a) (Stands (Reg a) s ∷ old)
below-more a s old b = record {
  below = λ j t. ⊎_elim
      (λ e. let h = reg-same j a (entry-spot (Reg a) (Reg j) s t e) in omega (arith, h))
      (λ i. let h = b.below j t i in omega (arith, h));
}

pub none-below : (a : ℕ) (old : List Entry) → NoRegisters old → Below a old
none-below a old n = record { below = λ j t i. absurd (n.none j t i) }
