-- How what stands somewhere changes its names along the code.
use Rattle.std.proofs.Common.{◌≡◌, ℕ, suc, ◌⊎◌, List, [], ◌∷◌, Option, Some, None, slice_get}
use Rattle.tb_prim.specs.declared.constant.Const.{Const}
use Rattle.tb_semantics.specs.Graph.{IsIn}
use Rattle.tb_core.specs.FreeVariables.{without}
use Rattle.tb_ir.specs.AnfTree.{Operand, Block, Bind, Tail, Op}
use Rattle.tb_ir.specs.AnfMachine.{free_block}
use Rattle.tb_codegen.specs.Notes.{Spot, Reg, Slot, Symbol, Constant, Variable, Itself, Capture, Entry, Stands, Waiting, ToTop, Then, symbol_of}

-- an operation of a block: what waits for its value, and the variables that a block which waits for it names,
-- if it is bound
module _ (captured : ℕ → List ℕ) where
  pub data OpAt (op : Op) : Block → Waiting → Waiting → Option (List ℕ) → Type 0 where
    at_bind : (x : ℕ) (k : Block) (l : ℕ) {js : Waiting} →
        OpAt op (Bind x op k) js (Then x k l js) (Some (without (x ∷ []) (free_block captured k)))
    at_tail : {js : Waiting} → OpAt op (Tail op) js js None

-- one deeper where a block was pushed
abbrev pub deeper : Option (List ℕ) → ℕ → ℕ
deeper None d = d
deeper (Some ys) d = suc d

-- from a block to what is evaluated in its operation, whose variables are these
pub data Under (o : Option (List ℕ)) (xs : List ℕ) : Symbol → Symbol → Type 0 where
  u_const : (c : Const) → Under o xs (Constant c) (Constant c)
  u_own : (y : ℕ) → IsIn y xs → Under o xs (Variable 0 y) (Variable 0 y)
  u_waits : (y : ℕ) (ys : List ℕ) → o ≡ Some ys → IsIn y ys → Under o xs (Variable 0 y) (Variable 1 y)
  u_deep : (d y : ℕ) → Under o xs (Variable (suc d) y) (Variable (deeper o (suc d)) y)

-- from a value to the block that binds it to x, whose variables are these
pub data Given (x : ℕ) (xs : List ℕ) : Symbol → Symbol → Type 0 where
  g_const : (c : Const) → Given x xs (Constant c) (Constant c)
  g_new : IsIn x xs → Given x xs (Variable 0 0) (Variable 0 x)
  g_var : (y : ℕ) → (x ≡ y → ⊥) → IsIn y xs → Given x xs (Variable 1 y) (Variable 0 y)
  g_deep : (d y : ℕ) → Given x xs (Variable (suc (suc d)) y) (Variable (suc d) y)

pub data Same : Symbol → Symbol → Type 0 where
  same : (s : Symbol) → Same s s

-- the value itself, a new variable, a constant, or what stands elsewhere
pub data IsFirst : Symbol → Type 0 where
  is_first : IsFirst (Variable 0 0)

pub data IsNew (x : ℕ) (xs : List ℕ) : Symbol → Type 0 where
  is_new : IsIn x xs → IsNew x xs (Variable 0 x)

pub data IsThat (s : Symbol) : Symbol → Type 0 where
  is_that : IsThat s s

pub data StandsAt (q : Spot) (old : List Entry) (s : Symbol) : Type 0 where
  stands_at : IsIn (Stands q s) old → StandsAt q old s

-- each entry of the new map comes from the old one, by names that change
pub record From (C : Symbol → Symbol → Type 0) (new old : List Entry) : Type 0 where
  pub from : (q : Spot) (s : Symbol) → IsIn (Stands q s) new → (o : Symbol) × IsIn (Stands q o) old × C o s

-- or it is at the spot that was written, with a name of what was put there
pub record Into (p : Spot) (V : Symbol → Type 0) (C : Symbol → Symbol → Type 0) (new old : List Entry) : Type 0 where
  pub into : (q : Spot) (s : Symbol) → IsIn (Stands q s) new →
      ((q ≡ p) × V s) ⊎ ((p ≡ q → ⊥) × ((o : Symbol) × IsIn (Stands q o) old × C o s))

pub record NoSlots (old : List Entry) : Type 0 where
  pub no_slots : (i : ℕ) (s : Symbol) → IsIn (Stands (Slot i) s) old → ⊥

-- the values of atoms stand in registers
pub data Args (old : List Entry) : List ℕ → List Operand → Type 0 where
  no_args : Args old [] []
  an_arg : {a : ℕ} {rs : List ℕ} {d : Operand} {ds : List Operand} → IsIn (Stands (Reg a) (symbol_of d)) old →
      Args old rs ds → Args old (a ∷ rs) (d ∷ ds)

-- so many registers from one on, one for each atom
abbrev pub from_register : ℕ → List Operand → List ℕ
from_register a [] = []
from_register a (d ∷ ds) = a ∷ from_register (suc a) ds

-- what a map at a return point may name: the value that comes back, and slots
pub record Backs (o : Option (List ℕ)) (new old : List Entry) : Type 0 where
  pub backs : (q : Spot) (s : Symbol) → IsIn (Stands q s) new →
      ((q ≡ Reg 16) × (s ≡ Variable 0 0)) ⊎
      ((i : ℕ) × (z : Symbol) × (q ≡ Slot i) × IsIn (Stands (Slot i) z) old × Under o [] z s)

-- a frame of the source waits, which a call marks
pub data HasFrame : Waiting → Type 0 where
  frame_then : (x : ℕ) (k : Block) (l : ℕ) (js : Waiting) → HasFrame (Then x k l js)
  frame_top : (k : ℕ) → HasFrame (ToTop k)

-- a parameter and the register of its operand
pub data Param (y i : ℕ) : ℕ → List ℕ → Type 0 where
  here_param : {ps : List ℕ} → Param y i i (y ∷ ps)
  there_param : {z j : ℕ} {ps : List ℕ} → (z ≡ y → ⊥) → Param y i (suc j) ps → Param y i j (z ∷ ps)

-- what may be named behind the entry of a lambda with these parameters, whose body names these variables: the
-- procedure itself, and operands
pub record Starts (m : ℕ) (ps us : List ℕ) (new : List Entry) : Type 0 where
  pub begins : (q : Spot) (s : Symbol) → IsIn (Stands q s) new → ((q ≡ Reg 0) × (s ≡ Itself m)) ⊎
      ((y : ℕ) × (i : ℕ) × (q ≡ Reg i) × (s ≡ Variable 0 y) × IsIn y us × Param y i 1 ps)

pub record StartsLifted (ps us : List ℕ) (new : List Entry) : Type 0 where
  pub begins_lifted : (q : Spot) (s : Symbol) → IsIn (Stands q s) new →
      (y : ℕ) × (i : ℕ) × (q ≡ Reg i) × (s ≡ Variable 0 y) × IsIn y us × Param y i 1 ps

-- captured variables are each once there, free in the body, and no parameters
pub record Caught (ps xs us : List ℕ) : Type 0 where
  pub caught : (x : ℕ) → IsIn x xs → IsIn x us × (IsIn x ps → ⊥)

-- from a block to a new procedure that captures these variables: it is filled
pub data Opens (o : Option (List ℕ)) (xs : List ℕ) : Symbol → Symbol → Type 0 where
  o_under : {z s : Symbol} → Under o [] z s → Opens o xs z s
  o_capture : (j y : ℕ) → slice_get xs j ≡ Some y → Opens o xs (Variable 0 y) (Capture j)

-- from a block to procedures that are made together, bound to these variables, where the rest names those
pub data Kept (ys us : List ℕ) : Symbol → Symbol → Type 0 where
  k_const : (c : Const) → Kept ys us (Constant c) (Constant c)
  k_var : (z : ℕ) → (IsIn z ys → ⊥) → IsIn z us → Kept ys us (Variable 0 z) (Variable 0 z)
  k_deep : (d z : ℕ) → Kept ys us (Variable (suc d) z) (Variable (suc d) z)
