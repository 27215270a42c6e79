-- What each primitive does with its operands, in any store that tells what it has at a location (R5RS 6,
-- within this profile).
-- Checks go in this order: the kinds of the operands from the left, then Range or ZeroDivide, then Overflow.
use Rattle.std.specs.Prelude.{ℕ, zero, ◌^◌, ℤ, pos, negsuc, ◌+ℤ◌, ◌-ℤ◌, ◌*ℤ◌, int_lt, int_le, int_div, int_rem, Bool, true, false, not, cond, ◌==◌, nat_lt, List, [], ◌∷◌, length, replicate, Option, Some, None, slice_get, slice_set}
use Rattle.tb_prim.specs.Fixnums.{is_fixnum}
use Rattle.tb_prim.specs.declared.event.Cause.{Cause}
use Rattle.tb_prim.specs.declared.primitive.Primitive.{Primitive}
use Rattle.tb_prim.specs.declared.primitive.Primitive.TheVariants.{Cons, Car, Cdr, SetCar, SetCdr, IsPair, IsNull, Not, IsBoolean, IsSymbol, IsChar, IsString, IsVector, IsProcedure, IsInteger, IsEof, Eq, Add, Sub, Mul, Quotient, Remainder, Modulo, NumEq, Less, Greater, LessEq, GreaterEq, CharToInt, IntToChar, MakeVector, VectorRef, VectorSet, VectorLength, MakeString, StringRef, StringSet, StringLength, SymbolLength, SymbolRef, ReadChar, PeekChar, WriteChar, Unspecified as UnspecifiedPrim}
use Rattle.tb_core.specs.Store.{Value, Fix, Char, Truth, Nil, Unspecified, EndObject, At, Object, Pair, Vec, Str, Sym, Content, Holds, Procedure}

-- what a primitive does: it gives a value, makes an object and gives its location, changes an object and
-- gives the unspecified value, puts a character, takes or peeks at the input, or fails. `Misused` is for other
-- numbers of operands than its own, which no program has.
pub data Effect : Type 0 where
  Gives : Value → Effect
  Makes : Object → Effect
  Changes : ℕ → Object → Effect
  Puts : ℕ → Effect
  Takes : Effect
  Peeks : Effect
  Fails : Cause → Effect
  Misused : Effect

abbrev pub wrong_type : Effect
wrong_type = Fails Cause.WrongType

-- an operand of the kind that is wanted, or the failure
abbrev pub with_fix : Value → (ℤ → Effect) → Effect
with_fix (Fix n) k = k n
with_fix _ k = wrong_type

abbrev pub with_char : Value → (ℕ → Effect) → Effect
with_char (Char c) k = k c
with_char _ k = wrong_type

abbrev pub if_object : Content → (Object → Effect) → Effect
if_object (Holds o) k = k o
if_object _ k = wrong_type

abbrev pub with_object : (ℕ → Content) → Value → (ℕ → Object → Effect) → Effect
with_object st (At l) k = if_object (st l) (k l)
with_object st _ k = wrong_type

abbrev pub if_pair : Object → (Value → Value → Effect) → Effect
if_pair (Pair a b) k = k a b
if_pair _ k = wrong_type

abbrev pub if_vector : Object → (List Value → Effect) → Effect
if_vector (Vec vs) k = k vs
if_vector _ k = wrong_type

abbrev pub if_string : Object → (List ℕ → Effect) → Effect
if_string (Str cs) k = k cs
if_string _ k = wrong_type

abbrev pub if_symbol : Object → (List ℕ → Effect) → Effect
if_symbol (Sym cs) k = k cs
if_symbol _ k = wrong_type

-- an index below a bound, or Range
abbrev pub with_index : ℤ → ℕ → (ℕ → Effect) → Effect
with_index (pos n) bound k = cond (nat_lt n bound) (k n) (Fails Cause.Range)
with_index (negsuc n) bound k = Fails Cause.Range

abbrev pub gives_at : {A : Type 0} → Option A → (A → Value) → Effect
gives_at None value = Fails Cause.Range
gives_at (Some a) value = Gives (value a)

-- a result that has to be a fixnum
abbrev pub gives_fix : ℤ → Effect
gives_fix n = cond (is_fixnum n) (Gives (Fix n)) (Fails Cause.Overflow)

abbrev pub gives_truth : Bool → Effect
gives_truth b = Gives (Truth b)

abbrev pub is_zero : ℤ → Bool
is_zero (pos zero) = true
is_zero _ = false

abbrev pub same_int : ℤ → ℤ → Bool
same_int (pos a) (pos b) = a == b
same_int (negsuc a) (negsuc b) = a == b
same_int _ _ = false

abbrev pub same_truth : Bool → Bool → Bool
same_truth true b = b
same_truth false b = not b

-- `eq?`: equal constants, or one location
abbrev pub same_value : Value → Value → Bool
same_value (Fix a) (Fix b) = same_int a b
same_value (Char a) (Char b) = a == b
same_value (Truth a) (Truth b) = same_truth a b
same_value Nil Nil = true
same_value Unspecified Unspecified = true
same_value EndObject EndObject = true
same_value (At a) (At b) = a == b
same_value _ _ = false

-- the sign of the divisor (R5RS 6.2.5)
abbrev pub modulo_of : ℤ → ℤ → ℤ
modulo_of a b =
    let r = int_rem a b in
    cond (is_zero r) r (cond (same_truth (int_lt r (pos 0)) (int_lt b (pos 0))) r (r +ℤ b))

-- the kinds of values
abbrev pub is_pair : Content → Bool
is_pair (Holds (Pair a b)) = true
is_pair _ = false

abbrev pub is_vector : Content → Bool
is_vector (Holds (Vec vs)) = true
is_vector _ = false

abbrev pub is_string : Content → Bool
is_string (Holds (Str cs)) = true
is_string _ = false

abbrev pub is_symbol : Content → Bool
is_symbol (Holds (Sym cs)) = true
is_symbol _ = false

abbrev pub is_procedure : Content → Bool
is_procedure Procedure = true
is_procedure _ = false

abbrev pub is_at : (ℕ → Content) → (Content → Bool) → Value → Bool
is_at st test (At l) = test (st l)
is_at st test _ = false

abbrev pub is_null : Value → Bool
is_null Nil = true
is_null _ = false

abbrev pub is_boolean : Value → Bool
is_boolean (Truth b) = true
is_boolean _ = false

abbrev pub is_char : Value → Bool
is_char (Char c) = true
is_char _ = false

abbrev pub is_integer : Value → Bool
is_integer (Fix n) = true
is_integer _ = false

abbrev pub is_eof : Value → Bool
is_eof EndObject = true
is_eof _ = false

-- only `#f` counts as false
abbrev pub is_false : Value → Bool
is_false (Truth b) = not b
is_false _ = false

-- the longest vector or string has 2^24 - 1 elements
abbrev pub with_length : Value → (ℕ → Effect) → Effect
with_length v k = with_fix v (λ n. with_index n (2 ^ 24) k)

-- primitives without operands, and with one, two and three
abbrev pub effect_0 : Primitive → Effect
effect_0 ReadChar = Takes
effect_0 PeekChar = Peeks
effect_0 UnspecifiedPrim = Gives Unspecified
effect_0 _ = Misused

abbrev pub effect_1 : (ℕ → Content) → Primitive → Value → Effect
effect_1 st Car a = with_object st a (λ l o. if_pair o (λ x y. Gives x))
effect_1 st Cdr a = with_object st a (λ l o. if_pair o (λ x y. Gives y))
effect_1 st IsPair a = gives_truth (is_at st is_pair a)
effect_1 st IsNull a = gives_truth (is_null a)
effect_1 st Not a = gives_truth (is_false a)
effect_1 st IsBoolean a = gives_truth (is_boolean a)
effect_1 st IsSymbol a = gives_truth (is_at st is_symbol a)
effect_1 st IsChar a = gives_truth (is_char a)
effect_1 st IsString a = gives_truth (is_at st is_string a)
effect_1 st IsVector a = gives_truth (is_at st is_vector a)
effect_1 st IsProcedure a = gives_truth (is_at st is_procedure a)
effect_1 st IsInteger a = gives_truth (is_integer a)
effect_1 st IsEof a = gives_truth (is_eof a)
effect_1 st CharToInt a = with_char a (λ c. Gives (Fix (pos c)))
effect_1 st IntToChar a = with_fix a (λ n. with_index n 256 (λ c. Gives (Char c)))
effect_1 st MakeVector a = with_length a (λ n. Makes (Vec (replicate n (Fix (pos 0)))))
effect_1 st VectorLength a = with_object st a (λ l o. if_vector o (λ vs. Gives (Fix (pos (length vs)))))
effect_1 st MakeString a = with_length a (λ n. Makes (Str (replicate n 0)))
effect_1 st StringLength a = with_object st a (λ l o. if_string o (λ cs. Gives (Fix (pos (length cs)))))
effect_1 st SymbolLength a = with_object st a (λ l o. if_symbol o (λ cs. Gives (Fix (pos (length cs)))))
effect_1 st WriteChar a = with_char a Puts
effect_1 st _ a = Misused

abbrev pub effect_2 : (ℕ → Content) → Primitive → Value → Value → Effect
effect_2 st Cons a b = Makes (Pair a b)
effect_2 st SetCar a b = with_object st a (λ l o. if_pair o (λ x y. Changes l (Pair b y)))
effect_2 st SetCdr a b = with_object st a (λ l o. if_pair o (λ x y. Changes l (Pair x b)))
effect_2 st Eq a b = gives_truth (same_value a b)
effect_2 st Add a b = with_fix a (λ m. with_fix b (λ n. gives_fix (m +ℤ n)))
effect_2 st Sub a b = with_fix a (λ m. with_fix b (λ n. gives_fix (m -ℤ n)))
effect_2 st Mul a b = with_fix a (λ m. with_fix b (λ n. gives_fix (m *ℤ n)))
effect_2 st Quotient a b = with_fix a (λ m. with_fix b (λ n. cond (is_zero n) (Fails Cause.ZeroDivide) (gives_fix (int_div m n))))
effect_2 st Remainder a b = with_fix a (λ m. with_fix b (λ n. cond (is_zero n) (Fails Cause.ZeroDivide) (Gives (Fix (int_rem m n)))))
effect_2 st Modulo a b = with_fix a (λ m. with_fix b (λ n. cond (is_zero n) (Fails Cause.ZeroDivide) (Gives (Fix (modulo_of m n)))))
effect_2 st NumEq a b = with_fix a (λ m. with_fix b (λ n. gives_truth (same_int m n)))
effect_2 st Less a b = with_fix a (λ m. with_fix b (λ n. gives_truth (int_lt m n)))
effect_2 st Greater a b = with_fix a (λ m. with_fix b (λ n. gives_truth (int_lt n m)))
effect_2 st LessEq a b = with_fix a (λ m. with_fix b (λ n. gives_truth (int_le m n)))
effect_2 st GreaterEq a b = with_fix a (λ m. with_fix b (λ n. gives_truth (int_le n m)))
effect_2 st VectorRef a b = with_object st a (λ l o. if_vector o (λ vs. with_fix b (λ n. with_index n (length vs) (λ k. gives_at (slice_get vs k) (λ v. v)))))
effect_2 st StringRef a b = with_object st a (λ l o. if_string o (λ cs. with_fix b (λ n. with_index n (length cs) (λ k. gives_at (slice_get cs k) Char))))
effect_2 st SymbolRef a b = with_object st a (λ l o. if_symbol o (λ cs. with_fix b (λ n. with_index n (length cs) (λ k. gives_at (slice_get cs k) Char))))
effect_2 st _ a b = Misused

abbrev pub effect_3 : (ℕ → Content) → Primitive → Value → Value → Value → Effect
effect_3 st VectorSet a b c = with_object st a (λ l o. if_vector o (λ vs. with_fix b (λ n. with_index n (length vs) (λ k. Changes l (Vec (slice_set vs k c))))))
effect_3 st StringSet a b c = with_object st a (λ l o. if_string o (λ cs. with_fix b (λ n. with_char c (λ ch. with_index n (length cs) (λ k. Changes l (Str (slice_set cs k ch)))))))
effect_3 st _ a b c = Misused

-- what a primitive does with its operands, in this store
abbrev pub effect_of : (ℕ → Content) → Primitive → List Value → Effect
effect_of st p [] = effect_0 p
effect_of st p (a ∷ []) = effect_1 st p a
effect_of st p (a ∷ b ∷ []) = effect_2 st p a b
effect_of st p (a ∷ b ∷ c ∷ []) = effect_3 st p a b c
effect_of st p _ = Misused
