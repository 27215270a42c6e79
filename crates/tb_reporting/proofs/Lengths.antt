-- A step leaves the memory as long as it was.
use Rattle.std.proofs.Common.{◌≡◌, ℕ, ◌+◌, Bool, true, false, cond, List, [], ◌∷◌, length, Option, Some, None, slice_get, slice_set, refl, sym, ap, ◌∙◌}
use Rattle.std.proofs.lemmas.List.{length-set}
use Rattle.std.specs.Prelude.{ℤ, pos, negsuc}
use Rattle.tb_prim.specs.declared.event.Cause.{Cause}
use Rattle.tb_prim.specs.declared.event.Event.{Event}
use Rattle.tb_prim.specs.declared.event.Stop.{Stop}
use Rattle.tb_prim.specs.declared.event.Stop.TheVariants as S
use Rattle.tb_mac.specs.declared.word.Word.{Word}
use Rattle.tb_mac.specs.declared.word.Word.TheVariants.{Fix, Special, Char, Header, Pointer, Code, Raw}
use Rattle.tb_mac.specs.declared.word.Placed.{Placed}
use Rattle.tb_mac.specs.declared.code.Instr.{Instr}
use Rattle.tb_mac.specs.declared.code.Instr.TheVariants.{Proc, Args, ArgsGe, Save, SetRtn, Load, Store, Pop, Return, Invoke, Jump, Brf, Imm, Stat, Move, GlobalGet, GlobalSet, GlobalDef, Cell, CellGet, CellSet, Clo, Capt, CaptSet, Apply, End, Op0, Op1, Op2, Op3}
use Rattle.tb_mac.specs.Assembled.{Assembled}
use Rattle.tb_mac.specs.Effects.{Effect, Gives, Makes, Changes, Puts, Takes, Peeks, Fails, NoNextStep}
use Rattle.tb_mac.specs.MacStep.{Mac, Outcome, Goes, Emits, TakesTo, PeeksTo, Stops, Went, Walked, Elements, NoList, NoWord, stuck, fail, request, apply_to, carry_out, rest_args, on_fixnum, perform, put_words, fetched, with_input}
use Rattle.tb_mac.specs.Words.{on_some}

-- the memory of the next state is as long
abbrev pub IsAsLong : Mac → Outcome → Type 0
IsAsLong m (Goes m') = length m'.memory ≡ length m.memory
IsAsLong m (Emits e m') = length m'.memory ≡ length m.memory
IsAsLong m _ = Unit {0}

pub record OutcomeOk (m : Mac) (o : Outcome) : Type 0 where
  pub ok : IsAsLong m o

pub length-put : (at : ℕ) (ws memory : List Word) → length (put_words at ws memory) ≡ length memory
length-put at [] memory = refl
length-put at (w ∷ ws) memory = length-put (at + 1) ws (slice_set memory at w) ∙ length-set memory at w

length-two : (memory : List Word) (i j : ℕ) (u w : Word) → length (slice_set (slice_set memory i u) j w) ≡ length memory
length-two memory i j u w = length-set (slice_set memory i u) j w ∙ length-set memory i u

goes-ok : (m m' : Mac) → length m'.memory ≡ length m.memory → OutcomeOk m (Goes m')
goes-ok m m' h = record { ok = h }

emits-ok : (m m' : Mac) (e : Event) → length m'.memory ≡ length m.memory → OutcomeOk m (Emits e m')
emits-ok m m' e h = record { ok = h }

takes-ok : (m : Mac) (a : ℕ) → OutcomeOk m (TakesTo a)
takes-ok m a = record { ok = tt }

peeks-ok : (m : Mac) (a : ℕ) → OutcomeOk m (PeeksTo a)
peeks-ok m a = record { ok = tt }

stops-ok : (m : Mac) (s : Stop) → OutcomeOk m (Stops s)
stops-ok m s = record { ok = tt }

some-ok : {A : Type 0} (o : Option A) (m : Mac) (k : A → Outcome) → ((a : A) → OutcomeOk m (k a)) → OutcomeOk m (on_some o (stuck m) k)
some-ok None m k h = stops-ok m (S.Stuck m.pc)
some-ok (Some a) m k h = h a

cond-ok : (b : Bool) (m : Mac) (s t : Outcome) → OutcomeOk m s → OutcomeOk m t → OutcomeOk m (cond b s t)
cond-ok true m s t p q = p
cond-ok false m s t p q = q

else-ok : {A : Type 0} (o : Option A) (m : Mac) (e : Outcome) (k : A → Outcome) → OutcomeOk m e → ((a : A) → OutcomeOk m (k a)) → OutcomeOk m (on_some o e k)
else-ok None m e k p h = p
else-ok (Some a) m e k p h = h a

ruleset parts = (length-put, length-two, length-set, goes-ok, emits-ok, takes-ok, peeks-ok, stops-ok, some-ok, cond-ok)

fail-ok : (c : Assembled) (m : Mac) (cause : Cause) → OutcomeOk m (fail c m cause)
fail-ok c m cause = search parts

request-ok : (need : ℕ) (m m' : Mac) → length m'.memory ≡ length m.memory → OutcomeOk m (request need m m')
request-ok need m m' h = search (parts, h)

carry-ok : (c : Assembled) (a : ℕ) (m : Mac) (e : Effect) → OutcomeOk m (carry_out c a m e)
carry-ok c a m (Gives w) = search parts
carry-ok c a m (Makes tag ws) = search (parts, request-ok)
carry-ok c a m (Changes at w) = search parts
carry-ok c a m (Puts b) = search parts
carry-ok c a m Takes = search parts
carry-ok c a m Peeks = search parts
carry-ok c a m (Fails cause) = search (parts, fail-ok)
carry-ok c a m NoNextStep = search parts

rest_args-ok : (c : Assembled) (a : ℕ) (n : ℤ) (m : Mac) → OutcomeOk m (rest_args c a n m)
rest_args-ok c a (pos n) m = search (parts, fail-ok, request-ok)
rest_args-ok c a (negsuc n) m = search (parts, fail-ok)

on_fixnum-ok : (m : Mac) (w : Word) (k : ℤ → Outcome) → ((n : ℤ) → OutcomeOk m (k n)) → OutcomeOk m (on_fixnum w (stuck m) k)
on_fixnum-ok m (Fix n) k h = h n
on_fixnum-ok m (Special n) k h = search parts
on_fixnum-ok m (Char n) k h = search parts
on_fixnum-ok m (Header n i) k h = search parts
on_fixnum-ok m (Pointer n i) k h = search parts
on_fixnum-ok m (Code n) k h = search parts
on_fixnum-ok m (Raw n) k h = search parts

apply_to-ok : (c : Assembled) (o : Placed) (m : Mac) (w : Walked) → OutcomeOk m (apply_to c o m w)
apply_to-ok c o m (Elements us) = search parts
apply_to-ok c o m (NoList cause) = search (parts, fail-ok)
apply_to-ok c o m NoWord = search parts

ruleset rows = (parts, fail-ok, request-ok, carry-ok, rest_args-ok, on_fixnum-ok, apply_to-ok, else-ok)

perform-ok : (c : Assembled) (m : Mac) (i : Instr) → OutcomeOk m (perform c m i)
perform-ok c m (Proc x) = search rows
perform-ok c m (Args a) = search rows
perform-ok c m (ArgsGe a) = search rows
perform-ok c m (Save x) = search rows
perform-ok c m (SetRtn x) = search rows
perform-ok c m (Load a x) = search rows
perform-ok c m (Store a x) = search rows
perform-ok c m (Pop x) = search rows
perform-ok c m Return = search rows
perform-ok c m (Invoke a) = search rows
perform-ok c m (Jump x) = search rows
perform-ok c m (Brf a x) = search rows
perform-ok c m (Imm a x) = search rows
perform-ok c m (Stat a tag x) = search rows
perform-ok c m (Move a b) = search rows
perform-ok c m (GlobalGet a x) = search rows
perform-ok c m (GlobalSet a x) = search rows
perform-ok c m (GlobalDef a x) = search rows
perform-ok c m (Cell a b) = search rows
perform-ok c m (CellGet a b) = search rows
perform-ok c m (CellSet a b) = search rows depth 8
perform-ok c m (Clo a n x) = search rows
perform-ok c m (Capt a b x) = search rows
perform-ok c m (CaptSet a b x) = search rows depth 8
perform-ok c m Apply = search rows
perform-ok c m End = search rows
perform-ok c m (Op0 a x) = search rows
perform-ok c m (Op1 a b x) = search rows
perform-ok c m (Op2 a b d x) = search rows
perform-ok c m (Op3 a b d x) = search rows

-- what a step comes to
pub fetched-ok : (c : Assembled) (m : Mac) → OutcomeOk m (fetched c m)
fetched-ok c m = some-ok (slice_get c.code m.pc) m (perform c m) (perform-ok c m)

same_mac : {e e' : Option Event} {m m' : Mac} {i i' : List ℕ} → Went e m i ≡ Went e' m' i' → m ≡ m'
same_mac h = cc h

went-long : (m new : Mac) (o : Outcome) → OutcomeOk m o → (input rest : List ℕ) (e : Option Event) →
    with_input m input o ≡ Went e new rest → length new.memory ≡ length m.memory
went-long m new (Goes n) k input rest e h = ap (λ (x : Mac). length x.memory) (sym (same_mac h)) ∙ k.ok
went-long m new (Emits v n) k input rest e h = ap (λ (x : Mac). length x.memory) (sym (same_mac h)) ∙ k.ok
went-long m new (TakesTo a) k input rest e h = ap (λ (x : Mac). length x.memory) (sym (same_mac h))
went-long m new (PeeksTo a) k input rest e h = ap (λ (x : Mac). length x.memory) (sym (same_mac h))
went-long m new (Stops s) k input rest e h = absurd (cc h)

-- a step that was made leaves the memory as long as it was
pub step-long : (c : Assembled) (m new : Mac) (input rest : List ℕ) (e : Option Event) →
    with_input m input (fetched c m) ≡ Went e new rest → length new.memory ≡ length m.memory
step-long c m new input rest e h = went-long m new (fetched c m) (fetched-ok c m) input rest e h
