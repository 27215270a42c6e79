-- What each primitive does with words, apart from the rest of the machine (R5RS 6, within this profile).
-- Checks go in this order: the kinds of the operands from the left, then Range or ZeroDivide, then Overflow.
-- A word of the heap that ought to be there and is not leaves no next step.
use Rattle.std.specs.Prelude.{ℕ, zero, ◌+◌, ◌/◌, ◌%◌, ◌^◌, ℤ, pos, negsuc, ◌+ℤ◌, ◌-ℤ◌, ◌*ℤ◌, int_lt, int_le, int_div, int_rem, Bool, true, false, not, cond, ◌==◌, nat_lt, List, [], ◌∷◌, is_some, Option, Some, None, slice_index, slice_set}
use Rattle.tb_prim.specs.declared.event.Cause.{Cause}
use Rattle.tb_prim.specs.declared.primitive.Primitive.{Primitive}
use Rattle.tb_prim.specs.declared.primitive.Primitive.TheVariants.{Cons, Car, Cdr, SetCar, SetCdr, IsPair, IsNull, Not, IsBoolean, IsSymbol, IsChar, IsString, IsVector, IsProcedure, IsInteger, IsEof, Eq, Add, Sub, Mul, Quotient, Remainder, Modulo, NumEq, Less, Greater, LessEq, GreaterEq, CharToInt, IntToChar, MakeVector, VectorRef, VectorSet, VectorLength, MakeString, StringRef, StringSet, StringLength, SymbolLength, SymbolRef, ReadChar, PeekChar, WriteChar, Unspecified as UnspecifiedPrim}
use Rattle.tb_mac.specs.declared.word.Word.{Word}
use Rattle.tb_mac.specs.declared.word.Placed.{Placed}
use Rattle.tb_mac.specs.declared.word.Word.TheVariants.{Fix, Special, Char, Header, Pointer, Code, Raw}
use Rattle.tb_mac.specs.Words.{on_some, false_word, true_word, unspecified, is_false, same_int, same_word}
use Rattle.tb_prim.specs.Fixnums.{is_fixnum}
use Rattle.tb_mac.specs.Objects.{pair_tag, vector_tag, string_tag, procedure_tag, vector_kind, string_kind, symbol_kind, procedure_kind, pair_words, new_vector, new_string}

-- the words of the heap, by their numbers
abbrev pub Heap : Type 0
Heap = ℕ → Option Word

-- what a primitive does: it gives a word, makes an object of these words and gives the pointer with this tag,
-- changes a word of the heap and gives the unspecified value, puts a character, takes or peeks at the input,
-- fails, or leaves no next step
pub data Effect : Type 0 where
  Gives : Word → Effect
  Makes : ℕ → List Word → Effect
  Changes : ℕ → Word → Effect
  Puts : ℕ → Effect
  Takes : Effect
  Peeks : Effect
  Fails : Cause → Effect
  NoNextStep : Effect

abbrev pub wrong_type : Effect
wrong_type = Fails Cause.WrongType

-- the pair to which a word points
abbrev pub pair_at : Word → Option ℕ
pair_at (Pointer t a) = cond (t == pair_tag) (Some a) None
pair_at _ = None

-- the length in a header of this kind
abbrev pub length_in : ℕ → Option Word → Option ℕ
length_in kind (Some (Header k n)) = cond (k == kind) (Some n) None
length_in kind _ = None

-- the object of this kind to which a word points with this tag
abbrev pub object_at : Heap → ℕ → ℕ → Word → Option Placed
object_at heap tag kind (Pointer t a) =
    cond (t == tag) (on_some (length_in kind (heap a)) None (λ n. Some (record { at = a; size = n }))) None
object_at heap tag kind _ = None

abbrev pub vector_at : Heap → Word → Option Placed
vector_at heap w = object_at heap vector_tag vector_kind w

abbrev pub string_at : Heap → Word → Option Placed
string_at heap w = object_at heap string_tag string_kind w

abbrev pub symbol_at : Heap → Word → Option Placed
symbol_at heap w = object_at heap string_tag symbol_kind w

abbrev pub procedure_at : Heap → Word → Option Placed
procedure_at heap w = object_at heap procedure_tag procedure_kind w

-- an operand of the kind that is wanted, or the failure
abbrev pub with_fix : Word → (ℤ → Effect) → Effect
with_fix (Fix n) k = k n
with_fix _ k = wrong_type

abbrev pub with_char : Word → (ℕ → Effect) → Effect
with_char (Char c) k = k c
with_char _ k = wrong_type

abbrev pub with_pair : Word → (ℕ → Effect) → Effect
with_pair w k = on_some (pair_at w) wrong_type k

abbrev pub with_object : Option Placed → (Placed → Effect) → Effect
with_object o k = on_some o wrong_type k

-- an index below a bound, or Range
abbrev pub with_index : ℤ → ℕ → (ℕ → Effect) → Effect
with_index (pos n) bound k = cond (nat_lt n bound) (k n) (Fails Cause.Range)
with_index (negsuc n) bound k = Fails Cause.Range

-- a word of the heap
abbrev pub gives_word : Option Word → Effect
gives_word o = on_some o NoNextStep Gives

-- a word of the heap becomes another
abbrev pub changes_word : Heap → ℕ → Word → Effect
changes_word heap at w = on_some (heap at) NoNextStep (λ old. Changes at w)

-- a byte of a raw word
abbrev pub gives_byte : Option Word → ℕ → Effect
gives_byte (Some (Raw bytes)) k = Gives (Char (slice_index bytes k))
gives_byte _ k = NoNextStep

-- a byte of a raw word becomes another
abbrev pub changes_byte : Option Word → ℕ → ℕ → ℕ → Effect
changes_byte (Some (Raw bytes)) at k c = Changes at (Raw (slice_set bytes k c))
changes_byte _ at k c = NoNextStep

-- the characters of a string or symbol stand behind its header, four in a word
abbrev pub gives_char : Heap → Placed → ℕ → Effect
gives_char heap o k = gives_byte (heap (o.at + 1 + k / 4)) (k % 4)

abbrev pub changes_char : Heap → Placed → ℕ → ℕ → Effect
changes_char heap o k c = let at = o.at + 1 + k / 4 in changes_byte (heap at) at (k % 4) c

-- a result that has to be a fixnum
abbrev pub gives_fix : ℤ → Effect
gives_fix n = cond (is_fixnum n) (Gives (Fix n)) (Fails Cause.Overflow)

abbrev pub gives_truth : Bool → Effect
gives_truth b = Gives (cond b true_word false_word)

abbrev pub is_zero : ℤ → Bool
is_zero (pos zero) = true
is_zero _ = false

abbrev pub same_truth : Bool → Bool → Bool
same_truth true b = b
same_truth false b = not b

-- the sign of the divisor (R5RS 6.2.5)
abbrev pub modulo_of : ℤ → ℤ → ℤ
modulo_of a b =
    let r = int_rem a b in
    cond (is_zero r) r (cond (same_truth (int_lt r (pos 0)) (int_lt b (pos 0))) r (r +ℤ b))

abbrev pub is_boolean : Word → Bool
is_boolean (Special k) = nat_lt k 2
is_boolean _ = false

abbrev pub is_char : Word → Bool
is_char (Char c) = true
is_char _ = false

abbrev pub is_integer : Word → Bool
is_integer (Fix n) = true
is_integer _ = false

-- the special with this number
abbrev pub is_special : ℕ → Word → Bool
is_special n (Special k) = k == n
is_special n _ = false

-- the longest vector or string has 2^24 - 1 elements
abbrev pub with_length : Word → (ℕ → Effect) → Effect
with_length w k = with_fix w (λ n. with_index n (2 ^ 24) k)

-- the length of an object, which is a fixnum
abbrev pub gives_length : Option Placed → Effect
gives_length o = with_object o (λ p. cond (is_fixnum (pos p.size)) (Gives (Fix (pos p.size))) NoNextStep)

-- both operands are fixnums
abbrev pub with_fixes : Word → Word → (ℤ → ℤ → Effect) → Effect
with_fixes u v k = with_fix u (λ m. with_fix v (λ n. k m n))

-- the divisor is not 0
abbrev pub with_divisor : Word → Word → (ℤ → ℤ → Effect) → Effect
with_divisor u v k = with_fixes u v (λ m n. cond (is_zero n) (Fails Cause.ZeroDivide) (k m n))

-- primitives without operands, and with one, two and three
abbrev pub effect_0 : Primitive → Effect
effect_0 ReadChar = Takes
effect_0 PeekChar = Peeks
effect_0 UnspecifiedPrim = Gives unspecified
effect_0 _ = NoNextStep

abbrev pub effect_1 : Heap → Primitive → Word → Effect
effect_1 heap Car u = with_pair u (λ a. gives_word (heap a))
effect_1 heap Cdr u = with_pair u (λ a. gives_word (heap (a + 1)))
effect_1 heap IsPair u = gives_truth (is_some (pair_at u))
effect_1 heap IsNull u = gives_truth (is_special 2 u)
effect_1 heap Not u = gives_truth (is_false u)
effect_1 heap IsBoolean u = gives_truth (is_boolean u)
effect_1 heap IsSymbol u = gives_truth (is_some (symbol_at heap u))
effect_1 heap IsChar u = gives_truth (is_char u)
effect_1 heap IsString u = gives_truth (is_some (string_at heap u))
effect_1 heap IsVector u = gives_truth (is_some (vector_at heap u))
effect_1 heap IsProcedure u = gives_truth (is_some (procedure_at heap u))
effect_1 heap IsInteger u = gives_truth (is_integer u)
effect_1 heap IsEof u = gives_truth (is_special 5 u)
effect_1 heap CharToInt u = with_char u (λ c. Gives (Fix (pos c)))
effect_1 heap IntToChar u = with_fix u (λ n. with_index n 256 (λ c. Gives (Char c)))
effect_1 heap MakeVector u = with_length u (λ n. Makes vector_tag (new_vector n))
effect_1 heap VectorLength u = gives_length (vector_at heap u)
effect_1 heap MakeString u = with_length u (λ n. Makes string_tag (new_string n))
effect_1 heap StringLength u = gives_length (string_at heap u)
effect_1 heap SymbolLength u = gives_length (symbol_at heap u)
effect_1 heap WriteChar u = with_char u Puts
effect_1 heap _ u = NoNextStep

abbrev pub effect_2 : Heap → Primitive → Word → Word → Effect
effect_2 heap Cons u v = Makes pair_tag (pair_words u v)
effect_2 heap SetCar u v = with_pair u (λ a. changes_word heap a v)
effect_2 heap SetCdr u v = with_pair u (λ a. changes_word heap (a + 1) v)
effect_2 heap Eq u v = gives_truth (same_word u v)
effect_2 heap Add u v = with_fixes u v (λ m n. gives_fix (m +ℤ n))
effect_2 heap Sub u v = with_fixes u v (λ m n. gives_fix (m -ℤ n))
effect_2 heap Mul u v = with_fixes u v (λ m n. gives_fix (m *ℤ n))
effect_2 heap Quotient u v = with_divisor u v (λ m n. gives_fix (int_div m n))
effect_2 heap Remainder u v = with_divisor u v (λ m n. Gives (Fix (int_rem m n)))
effect_2 heap Modulo u v = with_divisor u v (λ m n. Gives (Fix (modulo_of m n)))
effect_2 heap NumEq u v = with_fixes u v (λ m n. gives_truth (same_int m n))
effect_2 heap Less u v = with_fixes u v (λ m n. gives_truth (int_lt m n))
effect_2 heap Greater u v = with_fixes u v (λ m n. gives_truth (int_lt n m))
effect_2 heap LessEq u v = with_fixes u v (λ m n. gives_truth (int_le m n))
effect_2 heap GreaterEq u v = with_fixes u v (λ m n. gives_truth (int_le n m))
effect_2 heap VectorRef u v = with_object (vector_at heap u) (λ o. with_fix v (λ n. with_index n o.size (λ k. gives_word (heap (o.at + 1 + k)))))
effect_2 heap StringRef u v = with_object (string_at heap u) (λ o. with_fix v (λ n. with_index n o.size (gives_char heap o)))
effect_2 heap SymbolRef u v = with_object (symbol_at heap u) (λ o. with_fix v (λ n. with_index n o.size (gives_char heap o)))
effect_2 heap _ u v = NoNextStep

abbrev pub effect_3 : Heap → Primitive → Word → Word → Word → Effect
effect_3 heap VectorSet u v w = with_object (vector_at heap u) (λ o. with_fix v (λ n. with_index n o.size (λ k. changes_word heap (o.at + 1 + k) w)))
effect_3 heap StringSet u v w =
    with_object (string_at heap u) (λ o. with_fix v (λ n. with_char w (λ c. with_index n o.size (λ k. changes_char heap o k c))))
effect_3 heap _ u v w = NoNextStep

-- by number
abbrev pub numbered : Option Primitive → (Primitive → Effect) → Effect
numbered o f = on_some o NoNextStep f
