-- What the rules of code say of one instruction.
use Rattle.std.proofs.Common.{◌≡◌, ℕ, ◌<◌, List, length, All, Option, Some, None, IfSome, slice_get, sym, subst, arith}
use Rattle.std.proofs.lemmas.Option.{get_or_from_slice_get, slice_get_within}
use Rattle.std.proofs.lemmas.List.Elements.{All-get_or}
use Rattle.std.proofs.Props.{props}
use Rattle.tb_mac.specs.declared.code.Instr.{Instr}
use Rattle.tb_mac.specs.declared.code.Instr.TheVariants.{Proc, Args, ArgsGe, Save, SetRtn, Load, Store, Pop, Return, Invoke, Jump, Brf, Imm, Stat, Move, GlobalGet, GlobalSet, GlobalDef, Cell, CellGet, CellSet, Clo, Capt, CaptSet, Apply, End, Op0, Op1, Op2, Op3}
use Rattle.tb_mac.specs.declared.code.Parts.{Parts}
use Rattle.tb_mac.specs.Rules.{InstrOk}

-- there is at most one proof that an instruction's fields are in range
pub InstrOk-prop : (parts : Parts) (count : ℕ) (i : Instr) → IsProp (InstrOk parts count i)
InstrOk-prop parts count (Proc x) = hlevel props
InstrOk-prop parts count (Args a) = hlevel props
InstrOk-prop parts count (ArgsGe a) = hlevel props
InstrOk-prop parts count (Save x) = hlevel props
InstrOk-prop parts count (SetRtn x) = hlevel props
InstrOk-prop parts count (Load a x) = hlevel props
InstrOk-prop parts count (Store a x) = hlevel props
InstrOk-prop parts count (Pop x) = hlevel props
InstrOk-prop parts count Return = hlevel props
InstrOk-prop parts count (Invoke a) = hlevel props
InstrOk-prop parts count (Jump x) = hlevel props
InstrOk-prop parts count (Brf a x) = hlevel props
InstrOk-prop parts count (Imm a x) = hlevel props
InstrOk-prop parts count (Stat a b x) = hlevel props
InstrOk-prop parts count (Move a b) = hlevel props
InstrOk-prop parts count (GlobalGet a x) = hlevel props
InstrOk-prop parts count (GlobalSet a x) = hlevel props
InstrOk-prop parts count (GlobalDef a x) = hlevel props
InstrOk-prop parts count (Cell a b) = hlevel props
InstrOk-prop parts count (CellGet a b) = hlevel props
InstrOk-prop parts count (CellSet a b) = hlevel props
InstrOk-prop parts count (Clo a n x) = hlevel props
InstrOk-prop parts count (Capt a b x) = hlevel props
InstrOk-prop parts count (CaptSet a b x) = hlevel props
InstrOk-prop parts count Apply = hlevel props
InstrOk-prop parts count End = hlevel props
InstrOk-prop parts count (Op0 a x) = hlevel props
InstrOk-prop parts count (Op1 a b x) = hlevel props
InstrOk-prop parts count (Op2 a b c x) = hlevel props
InstrOk-prop parts count (Op3 a b c x) = hlevel props

pub IfSome-prop : {X : Type 0} (P : X → Type 0) → ((x : X) → IsProp (P x)) → (o : Option X) → IsProp (IfSome o P)
IfSome-prop P h None = hlevel props
IfSome-prop P h (Some x) = h x

-- what holds of each element holds of the one that was read, if one was
pub All-slice_get : {X : Type 0} (P : X → Type 0) (xs : List X) (i : ℕ) (o : Option X) → o ≡ slice_get xs i → All P xs → IfSome o P
All-slice_get P xs i None e h = tt
All-slice_get P xs i (Some x) e h =
    subst P (get_or_from_slice_get xs i x x (sym e)) (All-get_or P xs i x (slice_get_within xs i x (sym e)) h)

pub less-prop : (m n : ℕ) → IsProp (m < n)
less-prop m n = hlevel props

-- an element that was read has a number below any bound on the length
pub few-slice_get : {X : Type 0} (xs : List X) (n i : ℕ) (o : Option X) → o ≡ slice_get xs i → length xs < n → IfSome o (λ _. i < n)
few-slice_get xs n i None e h = tt
few-slice_get xs n i (Some x) e h = omega (arith, h, slice_get_within xs i x (sym e))
