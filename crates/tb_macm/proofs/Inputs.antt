-- What comes next in the input.
use Rattle.std.proofs.Common.{◌≡◌, ℕ, zero, suc, ◌<◌, ◌≤◌, List, [], ◌∷◌, length, get_or, Option, Some, None, refl, sym, ap, arith}
use Rattle.std.specs.Prelude.{Ok}
use Rattle.tb_prim.specs.declared.event.Taken.{Taken}
use Rattle.tb_base.specs.Outside.{Takes, TakesFirst}
use Rattle.tb_mac.specs.MacStep.{next_taken, rest_after}
use Rattle.tb_macm.specs.Steps.{Rests, told}
use Rattle.tb_macm.specs.calls.Quiet.{Next}

pub rests_self : (left : Option (List ℕ)) → Rests left left (told left) (told left)
rests_self None = tt
rests_self (Some bs) = (refl, refl)

-- what is ahead comes next, and the source is not asked
pub next_ahead : (left : Option (List ℕ)) (ahead : Option Taken) (t : Taken) → ahead ≡ Some t → Next left left ahead t
next_ahead left ahead t e = record {
  input = told left;
  rest = told left;
  told = rests_self left;
  taken = sym (ap (λ (o : Option Taken). next_taken o (told left)) e);
  behind = sym (ap (λ (o : Option Taken). rest_after o (told left)) e);
}

first_byte : (x b : ℕ) (xs bs : List ℕ) (left' : Option (List ℕ)) → left' ≡ Some bs → x ∷ [] ≡ b ∷ [] → Next (Some (b ∷ bs)) left' None (Taken.Byte x)
first_byte x b xs bs left' e f = record { input = b ∷ bs; rest = bs; told = (refl, e); taken = ap Taken.Byte (cc f); behind = refl }

one_byte : (left : List ℕ) (left' : Option (List ℕ)) (x : ℕ) (xs : List ℕ) → TakesFirst left left' 1 (x ∷ xs) → Next (Some left) left' None (Taken.Byte x)
one_byte [] left' x xs t = absurd (omega (arith, t.within))
one_byte (b ∷ bs) left' x xs t = first_byte x b xs bs left' t.rest t.front

-- one byte was taken
pub next_byte : (n : ℕ) (buf : List ℕ) (left left' : Option (List ℕ)) → 0 < n → n ≤ 1 → length buf ≡ 1 → Takes left left' (Ok n) buf → Next left left' None (Taken.Byte (get_or buf 0 0))
next_byte zero buf left left' p q l t = absurd (omega (arith, p))
next_byte (suc (suc n)) buf left left' p q l t = absurd (omega (arith, q))
next_byte (suc zero) [] left left' p q l t = absurd (omega (arith, l))
next_byte (suc zero) (x ∷ xs) None left' p q l t = record { input = x ∷ []; rest = []; told = tt; taken = refl; behind = refl }
next_byte (suc zero) (x ∷ xs) (Some left) left' p q l t = one_byte left left' x xs t
