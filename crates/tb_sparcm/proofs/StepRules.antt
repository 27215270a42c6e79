-- What a step of the definition can come to.
use Rattle.std.proofs.Common.{◌≡◌, ◌==◌, ◌*◌, ℕ, Bool, true, false, cond, Option, Some, None, slice_get, refl}
use Rattle.std.specs.Prelude.{ℤ}
use Rattle.tb_prim.specs.declared.event.Event.{Event}
use Rattle.tb_prim.specs.declared.event.Stop.{Stop}
use Rattle.tb_prim.specs.declared.event.Stop.TheVariants as S
use Rattle.tb_mac.specs.Assembled.{Assembled}
use Rattle.tb_mac.specs.Words.{on_some}
use Rattle.tb_macm.specs.RunDoes.{IsPassing}
use Rattle.tb_macm.proofs.StepRules.{IsOwn}
use Rattle.tb_sparc.specs.declared.instr.AluOp.{AluOp}
use Rattle.tb_sparc.specs.declared.instr.AluOp.TheVariants.{Add, And, Or, Xor, Sub, Smul, Sdiv, AddCc, AndCc, OrCc, SubCc, TaddCc, TsubCc, Sll, Srl, Sra}
use Rattle.tb_sparc.specs.declared.instr.SparcInstr.{SparcInstr}
use Rattle.tb_sparc.specs.declared.instr.SparcInstr.TheVariants.{Call, Sethi, Branch, Alu, RdY, WrY, Jmpl, Load, Store, Trap}
use Rattle.tb_sparc.specs.Grouped.{Grouped}
use Rattle.tb_sparc.specs.SparcStep.{Sparc, Outcome, Goes, Emits, Takes, Peeks, Stops, stuck, branch, operate, load, store, fail, request, put_char, clear, serve, perform, fetched, entered}
use Rattle.tb_sparc.specs.Word.{instr_of}

-- what is ahead stays so without reading, an event of a step that goes on is passing, and a stop is one of the
-- definition's
abbrev pub IsLawful : Sparc → Outcome → Type 0
IsLawful s (Goes s') = s'.ahead ≡ s.ahead
IsLawful s (Emits e s') = IsPassing e × (s'.ahead ≡ s.ahead)
IsLawful s Takes = Unit {0}
IsLawful s Peeks = Unit {0}
IsLawful s (Stops stop) = IsOwn stop

pub record OutcomeOk (s : Sparc) (o : Outcome) : Type 0 where
  pub ok : IsLawful s o

goes-ok : (s s' : Sparc) → s'.ahead ≡ s.ahead → OutcomeOk s (Goes s')
goes-ok s s' h = record { ok = h }

emits-ok : (s s' : Sparc) (e : Event) → IsPassing e → s'.ahead ≡ s.ahead → OutcomeOk s (Emits e s')
emits-ok s s' e p h = record { ok = (p, h) }

takes-ok : (s : Sparc) → OutcomeOk s Takes
takes-ok s = record { ok = tt }

peeks-ok : (s : Sparc) → OutcomeOk s Peeks
peeks-ok s = record { ok = tt }

stops-ok : (s : Sparc) (stop : Stop) → IsOwn stop → OutcomeOk s (Stops stop)
stops-ok s stop h = record { ok = h }

else-ok : {A : Type 0} (o : Option A) (s : Sparc) (e : Outcome) (k : A → Outcome) → OutcomeOk s e → ((a : A) → OutcomeOk s (k a)) → OutcomeOk s (on_some o e k)
else-ok None s e k p h = p
else-ok (Some a) s e k p h = h a

cond-ok : (b : Bool) (s : Sparc) (o p : Outcome) → OutcomeOk s o → OutcomeOk s p → OutcomeOk s (cond b o p)
cond-ok true s o p h k = h
cond-ok false s o p h k = k

ruleset parts = (goes-ok, emits-ok, takes-ok, peeks-ok, stops-ok, else-ok, cond-ok)

operate-ok : (op : AluOp) (rd a b : ℕ) (s : Sparc) → OutcomeOk s (operate op rd a b s)
operate-ok Add rd a b s = search parts
operate-ok And rd a b s = search parts
operate-ok Or rd a b s = search parts
operate-ok Xor rd a b s = search parts
operate-ok Sub rd a b s = search parts
operate-ok Smul rd a b s = search parts
operate-ok Sdiv rd a b s = search parts
operate-ok AddCc rd a b s = search parts
operate-ok AndCc rd a b s = search parts
operate-ok OrCc rd a b s = search parts
operate-ok SubCc rd a b s = search parts
operate-ok TaddCc rd a b s = search parts
operate-ok TsubCc rd a b s = search parts
operate-ok Sll rd a b s = search parts
operate-ok Srl rd a b s = search parts
operate-ok Sra rd a b s = search parts

load-ok : (byte : Bool) (rd at : ℕ) (s : Sparc) → OutcomeOk s (load byte rd at s)
load-ok true rd at s = search parts
load-ok false rd at s = search parts

store-ok : (byte : Bool) (rd at : ℕ) (s : Sparc) → OutcomeOk s (store byte rd at s)
store-ok true rd at s = search parts
store-ok false rd at s = search parts

branch-ahead : (holds annul always : Bool) (distance : ℤ) (s : Sparc) → (branch holds annul always distance s).ahead ≡ s.ahead
branch-ahead true true true distance s = refl
branch-ahead true true false distance s = refl
branch-ahead true false always distance s = refl
branch-ahead false true always distance s = refl
branch-ahead false false always distance s = refl

fail-ok : (c : Assembled) (s : Sparc) → OutcomeOk s (fail c s)
fail-ok c s = search parts

request-ok : (s : Sparc) → OutcomeOk s (request s)
request-ok s = search parts

put_char-ok : (s : Sparc) → OutcomeOk s (put_char s)
put_char-ok s = search parts

clear-ok : (s : Sparc) → OutcomeOk s (clear s)
clear-ok s = search parts

serve-ok : (c : Assembled) (n : ℕ) (s : Sparc) → OutcomeOk s (serve c n s)
serve-ok c n s =
    cond-ok (n == 0) s (Stops S.End) _ (stops-ok s S.End tt)
    (cond-ok (n == 1) s (fail c s) _ (fail-ok c s)
    (cond-ok (n == 2) s (request s) _ (request-ok s)
    (cond-ok (n == 3) s (put_char s) _ (put_char-ok s)
    (cond-ok (n == 4) s Takes _ (takes-ok s)
    (cond-ok (n == 5) s Peeks _ (peeks-ok s)
    (cond-ok (n == 6) s (clear s) (stuck s) (clear-ok s) (stops-ok s (S.Stuck (4 * s.pc)) tt)))))))

perform-ok : (c : Assembled) (s : Sparc) (i : SparcInstr) → OutcomeOk s (perform c s i)
perform-ok c s (Call distance) = search parts
perform-ok c s (Sethi rd n) = search parts
perform-ok c s (Branch k annul distance) = search (parts, branch-ahead)
perform-ok c s (Alu op rd rs1 o) = search operate-ok
perform-ok c s (RdY rd) = search parts
perform-ok c s (WrY rs1 o) = search parts
perform-ok c s (Jmpl rd rs1 o) = search parts
perform-ok c s (Load byte rd rs1 o) = search load-ok
perform-ok c s (Store byte rd rs1 o) = search store-ok
perform-ok c s (Trap n) = serve-ok c n s

-- what a step comes to
pub fetched-ok : (c : Assembled) (g : Grouped) (s : Sparc) → OutcomeOk (entered g s) (fetched c g s)
fetched-ok c g s = else-ok (slice_get g.words s.pc) (entered g s) (stuck s) (λ w. on_some (instr_of w) (stuck s) (perform c (entered g s))) (stops-ok (entered g s) _ tt)
    (λ w. else-ok (instr_of w) (entered g s) (stuck s) (perform c (entered g s)) (stops-ok (entered g s) _ tt) (perform-ok c (entered g s)))
