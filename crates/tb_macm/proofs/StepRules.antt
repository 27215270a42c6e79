-- What a step of the definition can come to.
use Rattle.std.proofs.Common.{◌≡◌, ℕ, Bool, true, false, cond, Option, Some, None, slice_get}
use Rattle.std.specs.Prelude.{ℤ, pos, negsuc}
use Rattle.tb_prim.specs.declared.event.Cause.{Cause}
use Rattle.tb_prim.specs.declared.event.Event.{Event}
use Rattle.tb_prim.specs.declared.event.Stop.{Stop}
use Rattle.tb_prim.specs.declared.event.Stop.TheVariants as S
use Rattle.tb_mac.specs.declared.word.Word.{Word}
use Rattle.tb_mac.specs.declared.word.Word.TheVariants.{Fix, Special, Char, Header, Pointer, Code, Raw}
use Rattle.tb_mac.specs.declared.word.Placed.{Placed}
use Rattle.tb_mac.specs.declared.code.Instr.{Instr}
use Rattle.tb_mac.specs.declared.code.Instr.TheVariants.{Proc, Args, ArgsGe, Save, SetRtn, Load, Store, Pop, Return, Invoke, Jump, Brf, Imm, Stat, Move, GlobalGet, GlobalSet, GlobalDef, Cell, CellGet, CellSet, Clo, Capt, CaptSet, Apply, End, Op0, Op1, Op2, Op3}
use Rattle.tb_mac.specs.Assembled.{Assembled}
use Rattle.tb_mac.specs.Effects.{Effect, Gives, Makes, Changes, Puts, Takes, Peeks, Fails, NoNextStep}
use Rattle.tb_mac.specs.MacStep.{Mac, Outcome, Goes, Emits, TakesTo, PeeksTo, Stops, Walked, Elements, NoList, NoWord, stuck, fail, request, apply_to, carry_out, rest_args, on_fixnum, perform, fetched}
use Rattle.tb_mac.specs.Words.{on_some}
use Rattle.tb_macm.specs.RunDoes.{IsPassing}

-- a stop that the definition gives
abbrev pub IsOwn : Stop → Type 0
IsOwn S.End = Unit {0}
IsOwn (S.Fail c p) = Unit {0}
IsOwn (S.Full h s n) = Unit {0}
IsOwn S.Steps = ⊥
IsOwn (S.Stuck pc) = Unit {0}
IsOwn S.ReadFault = ⊥
IsOwn S.WriteFault = ⊥

-- what is ahead stays so without reading, an event of a step that goes on is passing, and a stop is one of the
-- definition's
abbrev pub IsLawful : Mac → Outcome → Type 0
IsLawful m (Goes m') = m'.ahead ≡ m.ahead
IsLawful m (Emits e m') = IsPassing e × (m'.ahead ≡ m.ahead)
IsLawful m (TakesTo a) = Unit {0}
IsLawful m (PeeksTo a) = Unit {0}
IsLawful m (Stops s) = IsOwn s

pub record OutcomeOk (m : Mac) (o : Outcome) : Type 0 where
  pub ok : IsLawful m o

goes-ok : (m m' : Mac) → m'.ahead ≡ m.ahead → OutcomeOk m (Goes m')
goes-ok m m' h = record { ok = h }

emits-ok : (m m' : Mac) (e : Event) → IsPassing e → m'.ahead ≡ m.ahead → OutcomeOk m (Emits e m')
emits-ok m m' e p h = record { ok = (p, h) }

takes-ok : (m : Mac) (a : ℕ) → OutcomeOk m (TakesTo a)
takes-ok m a = record { ok = tt }

peeks-ok : (m : Mac) (a : ℕ) → OutcomeOk m (PeeksTo a)
peeks-ok m a = record { ok = tt }

stops-ok : (m : Mac) (s : Stop) → IsOwn s → OutcomeOk m (Stops s)
stops-ok m s h = record { ok = h }

some-ok : {A : Type 0} (o : Option A) (m : Mac) (k : A → Outcome) → ((a : A) → OutcomeOk m (k a)) → OutcomeOk m (on_some o (stuck m) k)
some-ok None m k h = stops-ok m (S.Stuck m.pc) tt
some-ok (Some a) m k h = h a

cond-ok : (b : Bool) (m : Mac) (s t : Outcome) → OutcomeOk m s → OutcomeOk m t → OutcomeOk m (cond b s t)
cond-ok true m s t p q = p
cond-ok false m s t p q = q

else-ok : {A : Type 0} (o : Option A) (m : Mac) (e : Outcome) (k : A → Outcome) → OutcomeOk m e → ((a : A) → OutcomeOk m (k a)) → OutcomeOk m (on_some o e k)
else-ok None m e k p h = p
else-ok (Some a) m e k p h = h a

ruleset parts = (goes-ok, emits-ok, takes-ok, peeks-ok, stops-ok, some-ok, cond-ok)

fail-ok : (c : Assembled) (m : Mac) (cause : Cause) → OutcomeOk m (fail c m cause)
fail-ok c m cause = search parts

request-ok : (need : ℕ) (m m' : Mac) → m'.ahead ≡ m.ahead → OutcomeOk m (request need m m')
request-ok need m m' h = search (parts, h)

carry-ok : (c : Assembled) (a : ℕ) (m : Mac) (e : Effect) → OutcomeOk m (carry_out c a m e)
carry-ok c a m (Gives w) = search parts
carry-ok c a m (Makes tag ws) = search (parts, request-ok)
carry-ok c a m (Changes at w) = search parts
carry-ok c a m (Puts b) = search parts
carry-ok c a m Takes = search parts
carry-ok c a m Peeks = search parts
carry-ok c a m (Fails cause) = search (parts, fail-ok)
carry-ok c a m NoNextStep = search parts

rest_args-ok : (c : Assembled) (a : ℕ) (n : ℤ) (m : Mac) → OutcomeOk m (rest_args c a n m)
rest_args-ok c a (pos n) m = search (parts, fail-ok, request-ok)
rest_args-ok c a (negsuc n) m = search (parts, fail-ok)

on_fixnum-ok : (m : Mac) (w : Word) (k : ℤ → Outcome) → ((n : ℤ) → OutcomeOk m (k n)) → OutcomeOk m (on_fixnum w (stuck m) k)
on_fixnum-ok m (Fix n) k h = h n
on_fixnum-ok m (Special n) k h = search parts
on_fixnum-ok m (Char n) k h = search parts
on_fixnum-ok m (Header n i) k h = search parts
on_fixnum-ok m (Pointer n i) k h = search parts
on_fixnum-ok m (Code n) k h = search parts
on_fixnum-ok m (Raw n) k h = search parts

apply_to-ok : (c : Assembled) (o : Placed) (m : Mac) (w : Walked) → OutcomeOk m (apply_to c o m w)
apply_to-ok c o m (Elements us) = search parts
apply_to-ok c o m (NoList cause) = search (parts, fail-ok)
apply_to-ok c o m NoWord = search parts

ruleset rows = (parts, fail-ok, request-ok, carry-ok, rest_args-ok, on_fixnum-ok, apply_to-ok, else-ok)

perform-ok : (c : Assembled) (m : Mac) (i : Instr) → OutcomeOk m (perform c m i)
perform-ok c m (Proc x) = search rows
perform-ok c m (Args a) = search rows
perform-ok c m (ArgsGe a) = search rows
perform-ok c m (Save x) = search rows
perform-ok c m (SetRtn x) = search rows
perform-ok c m (Load a x) = search rows
perform-ok c m (Store a x) = search rows
perform-ok c m (Pop x) = search rows
perform-ok c m Return = search rows
perform-ok c m (Invoke a) = search rows
perform-ok c m (Jump x) = search rows
perform-ok c m (Brf a x) = search rows
perform-ok c m (Imm a x) = search rows
perform-ok c m (Stat a tag x) = search rows
perform-ok c m (Move a b) = search rows
perform-ok c m (GlobalGet a x) = search rows
perform-ok c m (GlobalSet a x) = search rows
perform-ok c m (GlobalDef a x) = search rows
perform-ok c m (Cell a b) = search rows
perform-ok c m (CellGet a b) = search rows
perform-ok c m (CellSet a b) = search rows
perform-ok c m (Clo a n x) = search rows
perform-ok c m (Capt a b x) = search rows
perform-ok c m (CaptSet a b x) = search rows
perform-ok c m Apply = search rows
perform-ok c m End = search rows
perform-ok c m (Op0 a x) = search rows
perform-ok c m (Op1 a b x) = search rows
perform-ok c m (Op2 a b d x) = search rows
perform-ok c m (Op3 a b d x) = search rows

-- what a step comes to
pub fetched-ok : (c : Assembled) (m : Mac) → OutcomeOk m (fetched c m)
fetched-ok c m = some-ok (slice_get c.code m.pc) m (perform c m) (perform-ok c m)
