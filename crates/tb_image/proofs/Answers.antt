-- The answer of a format to bytes, which computes.
use Rattle.std.proofs.Common.{◌≡◌, refl, sym, subst, ℕ, ◌+◌, ◌≤◌, inl, inr, arith, Bool, true, false, cond, List, [], ◌∷◌, length, take, drop}
use Rattle.std.specs.Prelude.{nat_le}
use Rattle.std.proofs.lemmas.Bool.Decides.{leb_tells}
use Rattle.tb_image.specs.Format.{Format, done, field, Spells, Refused}

-- a value, or the offset of a refusal
pub data Answer (A : Type 0) : Type 0 where
  Value : A → Answer A
  Wrong : ℕ → Answer A

abbrev pub later : {A : Type 0} → ℕ → Answer A → Answer A
later n (Value a) = Value a
later n (Wrong at) = Wrong (n + at)

abbrev pub answer : {A : Type 0} → Format A → List ℕ → Answer A
answer (done a) [] = Value a
answer (done a) (b ∷ bs) = Wrong 0
answer (field n rule next) bytes =
    cond (nat_le n (length bytes)) (cond (rule (take n bytes)) (later n (answer (next (take n bytes)) (drop n bytes))) (Wrong 0)) (Wrong 0)

-- what an answer says of the bytes
abbrev pub Says : {A : Type 0} → Format A → List ℕ → Answer A → Type 0
Says f bytes (Value a) = Spells f bytes a
Says f bytes (Wrong at) = Refused f bytes at

says_field : {A : Type 0} (n : ℕ) (rule : List ℕ → Bool) (next : List ℕ → Format A) (bytes : List ℕ) (r : Answer A) →
    n ≤ length bytes → rule (take n bytes) ≡ true → Says (next (take n bytes)) (drop n bytes) r → Says (field n rule next) bytes (later n r)
says_field n rule next bytes (Value a) there t s = ((there, t), s)
says_field n rule next bytes (Wrong at) there t s =
    inr ((there, t), omega arith, subst (λ i. Refused (next (take n bytes)) (drop n bytes) i) (omega arith) s)

says_rule : {A : Type 0} (n : ℕ) (rule : List ℕ → Bool) (next : List ℕ → Format A) (bytes : List ℕ) (r : Answer A) (b : Bool) →
    n ≤ length bytes → rule (take n bytes) ≡ b → Says (next (take n bytes)) (drop n bytes) r → Says (field n rule next) bytes (cond b (later n r) (Wrong 0))
says_rule n rule next bytes r true there t s = says_field n rule next bytes r there t s
says_rule n rule next bytes r false there f s = inl (inr (there, f), refl)

says_size : {A : Type 0} (n : ℕ) (rule : List ℕ → Bool) (next : List ℕ → Format A) (bytes : List ℕ) (r : Answer A) →
    Says (next (take n bytes)) (drop n bytes) r → Says (field n rule next) bytes (cond (nat_le n (length bytes)) (cond (rule (take n bytes)) (later n r) (Wrong 0)) (Wrong 0))
says_size n rule next bytes r s = elim (leb_tells n (length bytes)) [
  | inl t ↦ subst (λ b. Says (field n rule next) bytes (cond b (cond (rule (take n bytes)) (later n r) (Wrong 0)) (Wrong 0))) (sym t.0) (says_rule n rule next bytes r (rule (take n bytes)) t.1 refl s)
  | inr f ↦ subst (λ b. Says (field n rule next) bytes (cond b (cond (rule (take n bytes)) (later n r) (Wrong 0)) (Wrong 0))) (sym f.0) (inl (inl f.1, refl))
]

pub says : {A : Type 0} (f : Format A) (bytes : List ℕ) → Says f bytes (answer f bytes)
says (done a) [] = (refl, refl)
says (done a) (b ∷ bs) = (omega arith, refl)
says (field n rule next) bytes = says_size n rule next bytes (answer (next (take n bytes)) (drop n bytes)) (says (next (take n bytes)) (drop n bytes))

-- where the answer computes to one, that is said of the bytes
pub said : {A : Type 0} (f : Format A) (bytes : List ℕ) (r : Answer A) → answer f bytes ≡ r → Says f bytes r
said f bytes r e = subst (λ r. Says f bytes r) e (says f bytes)
