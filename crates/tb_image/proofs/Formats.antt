-- Bytes have one answer in any format.
use Rattle.std.proofs.Common.{◌≡◌, refl, sym, ap, ◌∙◌, subst, ℕ, ◌+◌, ◌-◌, ◌⊎◌, inl, inr, arith, Bool, true, false, List, [], ◌∷◌, length, take, drop}
use Rattle.std.proofs.lemmas.Bool.{cases_lt}
use Rattle.tb_image.specs.Format.{Format, done, field, IsField, IsBroken, Refused}
use Rattle.tb_image.specs.FormatLaws.{SomeAnswer, OneAnswer, OneValue, OneOffset}

true_or_false : (b : Bool) → (b ≡ true) ⊎ (b ≡ false)
true_or_false true = inl refl
true_or_false false = inr refl

not_both : (b : Bool) → b ≡ true → b ≡ false → ⊥
not_both b t f = cc

-- a field is whole, or broken, and not both
whole_or_broken : (n : ℕ) (rule : List ℕ → Bool) (bytes : List ℕ) → IsField n rule bytes ⊎ IsBroken n rule bytes
whole_or_broken n rule bytes = elim (cases_lt (length bytes) n) [
  | inl short ↦ inr (inl short)
  | inr there ↦ elim (true_or_false (rule (take n bytes))) [ inl t ↦ inl (there, t) | inr f ↦ inr (inr (there, f)) ]
]

whole_not_broken : (n : ℕ) (rule : List ℕ → Bool) (bytes : List ℕ) → IsField n rule bytes → IsBroken n rule bytes → ⊥
whole_not_broken n rule bytes w (inl short) = omega (arith, short, w.0)
whole_not_broken n rule bytes w (inr b) = not_both _ w.1 b.1

pub some_answer : {A : Type 0} (f : Format A) → SomeAnswer f
some_answer (done a) [] = inl (a, (refl, refl))
some_answer (done a) (b ∷ bs) = inr (0, (omega arith, refl))
some_answer (field n rule next) bytes = elim (whole_or_broken n rule bytes) [
  | inl w ↦ elim (some_answer (next (take n bytes)) (drop n bytes)) [
    | inl s ↦ inl (s.0, (w, s.1))
    | inr r ↦ inr (n + r.0, inr (w, omega arith, subst (λ at. Refused (next (take n bytes)) (drop n bytes) at) (omega arith) r.1))
  ]
  | inr b ↦ inr (0, inl (b, refl))
]

pub one_answer : {A : Type 0} (f : Format A) → OneAnswer f
one_answer (done a) bytes b at s r = omega (arith, ap length s.0, r.0)
one_answer (field n rule next) bytes a at s (inl broken) = whole_not_broken n rule bytes s.0 broken.0
one_answer (field n rule next) bytes a at s (inr later) = one_answer (next (take n bytes)) (drop n bytes) a (at - n) s.1 later.2

pub one_value : {A : Type 0} (f : Format A) → OneValue f
one_value (done c) bytes a b s t = sym s.1 ∙ t.1
one_value (field n rule next) bytes a b s t = one_value (next (take n bytes)) (drop n bytes) a b s.1 t.1

pub one_offset : {A : Type 0} (f : Format A) → OneOffset f
one_offset (done a) bytes i j r s = r.1 ∙ sym s.1
one_offset (field n rule next) bytes i j (inl a) (inl b) = a.1 ∙ sym b.1
one_offset (field n rule next) bytes i j (inl a) (inr b) = absurd (whole_not_broken n rule bytes b.0 a.0)
one_offset (field n rule next) bytes i j (inr a) (inl b) = absurd (whole_not_broken n rule bytes a.0 b.0)
one_offset (field n rule next) bytes i j (inr a) (inr b) =
    let same : i - n ≡ j - n = one_offset (next (take n bytes)) (drop n bytes) (i - n) (j - n) a.2 b.2 in
    omega (arith, same, a.1, b.1)
