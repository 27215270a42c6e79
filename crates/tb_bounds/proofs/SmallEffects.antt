-- What a primitive gives, makes or writes is small where the heap and its operands are.
use Rattle.std.proofs.Common.{◌≡◌, refl, ℕ, ◌+◌, ◌%◌, ◌^◌, arith, ℤ, pos, negsuc, ◌+ℤ◌, ◌-ℤ◌, ◌*ℤ◌, int_div, replicate, Bool, true, false, cond, nat_lt, [], ◌∷◌, Option, None, Some}
use Rattle.tb_prim.specs.declared.event.Cause.{Cause}
use Rattle.tb_prim.specs.declared.primitive.Primitive.{Primitive}
use Rattle.tb_prim.specs.declared.primitive.Primitive.TheVariants.{Cons, Car, Cdr, SetCar, SetCdr, IsPair, IsNull, Not, IsBoolean, IsSymbol, IsChar, IsString, IsVector, IsProcedure, IsInteger, IsEof, Eq, Add, Sub, Mul, Quotient, Remainder, Modulo, NumEq, Less, Greater, LessEq, GreaterEq, CharToInt, IntToChar, MakeVector, VectorRef, VectorSet, VectorLength, MakeString, StringRef, StringSet, StringLength, SymbolLength, SymbolRef, ReadChar, PeekChar, WriteChar, Unspecified as UnspecifiedPrim}
use Rattle.tb_mac.specs.declared.word.Placed.{Placed}
use Rattle.tb_mac.specs.declared.word.Word.{Word}
use Rattle.tb_mac.specs.declared.word.Word.TheVariants.{Fix, Special, Char, Header, Pointer, Code, Raw}
use Rattle.tb_mac.specs.Effects.{string_at, symbol_at, vector_at, Effect, Gives, Makes, Changes, Puts, Takes, Peeks, Fails, NoNextStep, Heap, changes_byte, changes_word, effect_0, effect_1, effect_2, effect_3, gives_byte, gives_fix, gives_length, gives_truth, gives_word, is_zero, numbered, with_char, with_fix, with_index, with_object, with_pair, wrong_type, pair_at}
use Rattle.tb_mac.specs.Objects.{padding, raw_size}
use Rattle.tb_mac.specs.Words.{on_some, zero_word}
use Rattle.tb_prim.specs.Fixnums.{is_fixnum}
use Rattle.tb_bounds.specs.Within.{IsSmall}
use Rattle.tb_bounds.proofs.SmallWords.{Small, every-append, every-replicate, padding-small}

module _ (bound : ℕ) where
  -- the words of an effect are small
  abbrev pub IsTame : Effect → Type 0
  IsTame (Gives w) = IsSmall bound w
  IsTame (Makes tag ws) = Small bound ws
  IsTame (Changes at w) = IsSmall bound w
  IsTame (Puts b) = Unit {0}
  IsTame Takes = Unit {0}
  IsTame Peeks = Unit {0}
  IsTame (Fails c) = Unit {0}
  IsTame NoNextStep = Unit {0}

  -- the words of a heap are small
  abbrev pub TameHeap : Heap → Type 0
  TameHeap heap = (at : ℕ) (w : Word) → heap at ≡ Some w → IsSmall bound w

  some_tame : {A : Type 0} (o : Option A) (e : Effect) (k : A → Effect) → IsTame e → ((a : A) → IsTame (k a)) → IsTame (on_some o e k)
  some_tame None e k h f = h
  some_tame (Some a) e k h f = f a

  either_tame : (b : Bool) (e f : Effect) → IsTame e → IsTame f → IsTame (cond b e f)
  either_tame true e f h k = h
  either_tame false e f h k = k

  fix_tame : (w : Word) (k : ℤ → Effect) → ((n : ℤ) → IsTame (k n)) → IsTame (with_fix w k)
  fix_tame (Fix n) k h = h n
  fix_tame (Special n) k h = tt
  fix_tame (Char n) k h = tt
  fix_tame (Header x n) k h = tt
  fix_tame (Pointer x n) k h = tt
  fix_tame (Code n) k h = tt
  fix_tame (Raw n) k h = tt

  char_tame : (w : Word) (k : ℕ → Effect) → ((n : ℕ) → IsTame (k n)) → IsTame (with_char w k)
  char_tame (Char n) k h = h n
  char_tame (Special n) k h = tt
  char_tame (Fix n) k h = tt
  char_tame (Header x n) k h = tt
  char_tame (Pointer x n) k h = tt
  char_tame (Code n) k h = tt
  char_tame (Raw n) k h = tt

  pair_tame : (w : Word) (k : ℕ → Effect) → ((n : ℕ) → IsTame (k n)) → IsTame (with_pair w k)
  pair_tame w k h = some_tame (pair_at w) wrong_type k tt h

  object_tame : (o : Option Placed) (k : Placed → Effect) → ((p : Placed) → IsTame (k p)) → IsTame (with_object o k)
  object_tame o k h = some_tame o wrong_type k tt h

  index_tame : (n : ℤ) (m : ℕ) (k : ℕ → Effect) → ((i : ℕ) → IsTame (k i)) → IsTame (with_index n m k)
  index_tame (pos n) m k h = either_tame (nat_lt n m) (k n) (Fails Cause.Range) (h n) tt
  index_tame (negsuc n) m k h = tt

  truth_tame : (b : Bool) → IsTame (gives_truth b)
  truth_tame true = tt
  truth_tame false = tt

  result_tame : (n : ℤ) → IsTame (gives_fix n)
  result_tame n = either_tame (is_fixnum n) (Gives (Fix n)) (Fails Cause.Overflow) tt tt

  length_tame : (o : Option Placed) → IsTame (gives_length o)
  length_tame o = object_tame o _ (λ p. either_tame (is_fixnum (pos p.size)) (Gives (Fix (pos p.size))) NoNextStep tt tt)

  divisor_tame : (u v : Word) (k : ℤ → ℤ → Effect) → ((m n : ℤ) → IsTame (k m n)) →
      IsTame (with_fix u (λ m. with_fix v (λ n. cond (is_zero n) (Fails Cause.ZeroDivide) (k m n))))
  divisor_tame u v k h =
      fix_tame u _ (λ m. fix_tame v _ (λ n. either_tame (is_zero n) (Fails Cause.ZeroDivide) (k m n) tt (h m n)))

  byte_tame : (o : Option Word) (k : ℕ) → IsTame (gives_byte o k)
  byte_tame None k = tt
  byte_tame (Some (Raw bs)) k = tt
  byte_tame (Some (Fix n)) k = tt
  byte_tame (Some (Special n)) k = tt
  byte_tame (Some (Char n)) k = tt
  byte_tame (Some (Header x n)) k = tt
  byte_tame (Some (Pointer x n)) k = tt
  byte_tame (Some (Code n)) k = tt

  written_tame : (o : Option Word) (at k c : ℕ) → IsTame (changes_byte o at k c)
  written_tame None at k c = tt
  written_tame (Some (Raw bs)) at k c = tt
  written_tame (Some (Fix n)) at k c = tt
  written_tame (Some (Special n)) at k c = tt
  written_tame (Some (Char n)) at k c = tt
  written_tame (Some (Header x n)) at k c = tt
  written_tame (Some (Pointer x n)) at k c = tt
  written_tame (Some (Code n)) at k c = tt

  pub effect-0 : (p : Primitive) → IsTame (effect_0 p)
  effect-0 ReadChar = tt
  effect-0 PeekChar = tt
  effect-0 UnspecifiedPrim = tt
  effect-0 _ = tt

  module _ (heap : Heap) (tame : TameHeap heap) where
    word_tame : (at : ℕ) → IsTame (gives_word (heap at))
    word_tame at = found (heap at) (tame at)
      where
        found : (o : Option Word) → ((w : Word) → o ≡ Some w → IsSmall bound w) → IsTame (gives_word o)
        found None h = tt
        found (Some w) h = h w refl

    change_tame : (at : ℕ) (w : Word) → IsSmall bound w → IsTame (changes_word heap at w)
    change_tame at w h = some_tame (heap at) NoNextStep (λ old. Changes at w) tt (λ old. h)

    pub effect-1 : (p : Primitive) (u : Word) → IsSmall bound u → IsTame (effect_1 heap p u)
    effect-1 Car u h = pair_tame u _ (λ a. word_tame a)
    effect-1 Cdr u h = pair_tame u _ (λ a. word_tame (a + 1))
    effect-1 IsPair u h = truth_tame _
    effect-1 IsNull u h = truth_tame _
    effect-1 Not u h = truth_tame _
    effect-1 IsBoolean u h = truth_tame _
    effect-1 IsSymbol u h = truth_tame _
    effect-1 IsChar u h = truth_tame _
    effect-1 IsString u h = truth_tame _
    effect-1 IsVector u h = truth_tame _
    effect-1 IsProcedure u h = truth_tame _
    effect-1 IsInteger u h = truth_tame _
    effect-1 IsEof u h = truth_tame _
    effect-1 CharToInt u h = char_tame u _ (λ c. tt)
    effect-1 IntToChar u h = fix_tame u _ (λ n. index_tame n 256 _ (λ c. tt))
    effect-1 MakeVector u h = fix_tame u _ (λ n. index_tame n (2 ^ 24) _ (λ k.
        (λ e. absurd (omega arith), every-replicate (IsSmall bound) (k + (k + 1) % 2) zero_word tt)))
    effect-1 VectorLength u h = length_tame (vector_at heap u)
    effect-1 MakeString u h = fix_tame u _ (λ n. index_tame n (2 ^ 24) _ (λ k. (
      λ e. absurd (omega arith),
      every-append (IsSmall bound) (replicate (raw_size k) (Raw (0 ∷ 0 ∷ 0 ∷ 0 ∷ []))) (padding (raw_size k + 1))
          (every-replicate (IsSmall bound) (raw_size k) (Raw (0 ∷ 0 ∷ 0 ∷ 0 ∷ [])) tt) (padding-small bound (raw_size k + 1)),
    )))
    effect-1 StringLength u h = length_tame (string_at heap u)
    effect-1 SymbolLength u h = length_tame (symbol_at heap u)
    effect-1 WriteChar u h = char_tame u _ (λ c. tt)
    effect-1 _ u h = tt

    pub effect-2 : (p : Primitive) (u v : Word) → IsSmall bound u → IsSmall bound v → IsTame (effect_2 heap p u v)
    effect-2 Cons u v h k = (h, (k, tt))
    effect-2 SetCar u v h k = pair_tame u _ (λ a. change_tame a v k)
    effect-2 SetCdr u v h k = pair_tame u _ (λ a. change_tame (a + 1) v k)
    effect-2 Eq u v h k = truth_tame _
    effect-2 Add u v h k = fix_tame u _ (λ m. fix_tame v _ (λ n. result_tame (m +ℤ n)))
    effect-2 Sub u v h k = fix_tame u _ (λ m. fix_tame v _ (λ n. result_tame (m -ℤ n)))
    effect-2 Mul u v h k = fix_tame u _ (λ m. fix_tame v _ (λ n. result_tame (m *ℤ n)))
    effect-2 Quotient u v h k = divisor_tame u v _ (λ m n. result_tame (int_div m n))
    effect-2 Remainder u v h k = divisor_tame u v _ (λ m n. tt)
    effect-2 Modulo u v h k = divisor_tame u v _ (λ m n. tt)
    effect-2 NumEq u v h k = fix_tame u _ (λ m. fix_tame v _ (λ n. truth_tame _))
    effect-2 Less u v h k = fix_tame u _ (λ m. fix_tame v _ (λ n. truth_tame _))
    effect-2 Greater u v h k = fix_tame u _ (λ m. fix_tame v _ (λ n. truth_tame _))
    effect-2 LessEq u v h k = fix_tame u _ (λ m. fix_tame v _ (λ n. truth_tame _))
    effect-2 GreaterEq u v h k = fix_tame u _ (λ m. fix_tame v _ (λ n. truth_tame _))
    effect-2 VectorRef u v h k = object_tame _ _ (λ o. fix_tame v _ (λ n. index_tame n o.size _ (λ i. word_tame (o.at + 1 + i))))
    effect-2 StringRef u v h k = object_tame _ _ (λ o. fix_tame v _ (λ n. index_tame n o.size _ (λ i. byte_tame _ _)))
    effect-2 SymbolRef u v h k = object_tame _ _ (λ o. fix_tame v _ (λ n. index_tame n o.size _ (λ i. byte_tame _ _)))
    effect-2 _ u v h k = tt

    pub effect-3 : (p : Primitive) (u v w : Word) → IsSmall bound w → IsTame (effect_3 heap p u v w)
    effect-3 VectorSet u v w h = object_tame _ _ (λ o. fix_tame v _ (λ n. index_tame n o.size _ (λ i. change_tame (o.at + 1 + i) w h)))
    effect-3 StringSet u v w h =
        object_tame _ _ (λ o. fix_tame v _ (λ n. char_tame w _ (λ c. index_tame n o.size _ (λ i. written_tame _ _ _ c))))
    effect-3 _ u v w h = tt

  pub numbered-tame : (o : Option Primitive) (f : Primitive → Effect) → ((p : Primitive) → IsTame (f p)) → IsTame (numbered o f)
  numbered-tame o f h = some_tame o NoNextStep f tt h
