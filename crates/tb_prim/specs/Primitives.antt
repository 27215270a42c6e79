-- The table of the primitives: their numbers, how many operands each takes, and which can fail.
use Rattle.std.specs.Prelude.{ℕ, Bool, ◌&&◌, ◌||◌, ◌==◌, nat_le, List, [], ◌∷◌, Option, option_map, slice_get}
use Rattle.tb_prim.specs.declared.primitive.Primitive.{Primitive}
use Rattle.tb_prim.specs.declared.primitive.Primitive.TheVariants.{Cons, Car, Cdr, SetCar, SetCdr, IsPair, IsNull, Not, IsBoolean, IsSymbol, IsChar, IsString, IsVector, IsProcedure, IsInteger, IsEof, Eq, Add, Sub, Mul, Quotient, Remainder, Modulo, NumEq, Less, Greater, LessEq, GreaterEq, CharToInt, IntToChar, MakeVector, VectorRef, VectorSet, VectorLength, MakeString, StringRef, StringSet, StringLength, SymbolLength, SymbolRef, ReadChar, PeekChar, WriteChar, Unspecified}

-- the number of operands (R5RS 6, and this project's own where R5RS takes any number)
abbrev pub arity_of : Primitive → ℕ
arity_of Cons = 2
arity_of Car = 1
arity_of Cdr = 1
arity_of SetCar = 2
arity_of SetCdr = 2
arity_of IsPair = 1
arity_of IsNull = 1
arity_of Not = 1
arity_of IsBoolean = 1
arity_of IsSymbol = 1
arity_of IsChar = 1
arity_of IsString = 1
arity_of IsVector = 1
arity_of IsProcedure = 1
arity_of IsInteger = 1
arity_of IsEof = 1
arity_of Eq = 2
arity_of Add = 2
arity_of Sub = 2
arity_of Mul = 2
arity_of Quotient = 2
arity_of Remainder = 2
arity_of Modulo = 2
arity_of NumEq = 2
arity_of Less = 2
arity_of Greater = 2
arity_of LessEq = 2
arity_of GreaterEq = 2
arity_of CharToInt = 1
arity_of IntToChar = 1
arity_of MakeVector = 1
arity_of VectorRef = 2
arity_of VectorSet = 3
arity_of VectorLength = 1
arity_of MakeString = 1
arity_of StringRef = 2
arity_of StringSet = 3
arity_of StringLength = 1
arity_of SymbolLength = 1
arity_of SymbolRef = 2
arity_of ReadChar = 0
arity_of PeekChar = 0
arity_of WriteChar = 1
arity_of Unspecified = 0

-- the number of a primitive in code and images (this project's own)
abbrev pub number_of : Primitive → ℕ
number_of Cons = 0
number_of Car = 1
number_of Cdr = 2
number_of SetCar = 3
number_of SetCdr = 4
number_of IsPair = 5
number_of IsNull = 6
number_of Not = 7
number_of IsBoolean = 8
number_of IsSymbol = 9
number_of IsChar = 10
number_of IsString = 11
number_of IsVector = 12
number_of IsProcedure = 13
number_of IsInteger = 14
number_of IsEof = 15
number_of Eq = 16
number_of Add = 17
number_of Sub = 18
number_of Mul = 19
number_of Quotient = 20
number_of Remainder = 21
number_of Modulo = 22
number_of NumEq = 23
number_of Less = 24
number_of Greater = 25
number_of LessEq = 26
number_of GreaterEq = 27
number_of CharToInt = 28
number_of IntToChar = 29
number_of MakeVector = 30
number_of VectorRef = 31
number_of VectorSet = 32
number_of VectorLength = 33
number_of MakeString = 34
number_of StringRef = 35
number_of StringSet = 36
number_of StringLength = 37
number_of SymbolLength = 38
number_of SymbolRef = 39
number_of ReadChar = 40
number_of PeekChar = 41
number_of WriteChar = 42
number_of Unspecified = 43

-- the primitives in the order of their numbers from 0
abbrev pub primitives : List Primitive
primitives =
    Cons ∷ Car ∷ Cdr ∷ SetCar ∷ SetCdr ∷ IsPair ∷ IsNull ∷ Not ∷ IsBoolean ∷ IsSymbol ∷ IsChar ∷ IsString ∷
    IsVector ∷ IsProcedure ∷ IsInteger ∷ IsEof ∷ Eq ∷ Add ∷ Sub ∷ Mul ∷ Quotient ∷ Remainder ∷ Modulo ∷ NumEq ∷
    Less ∷ Greater ∷ LessEq ∷ GreaterEq ∷ CharToInt ∷ IntToChar ∷ MakeVector ∷ VectorRef ∷ VectorSet ∷
    VectorLength ∷ MakeString ∷ StringRef ∷ StringSet ∷ StringLength ∷ SymbolLength ∷ SymbolRef ∷ ReadChar ∷
    PeekChar ∷ WriteChar ∷ Unspecified ∷ []

-- the primitive with this number; none from 44 on
abbrev pub primitive_at : ℕ → Option Primitive
primitive_at x = slice_get primitives x

-- the number of operands of the primitive with this number
abbrev pub arity_at : ℕ → Option ℕ
arity_at x = option_map arity_of (primitive_at x)

-- a primitive can fail where it wants operands of some kind: those on pairs but `cons`, on numbers, on characters
-- and of vectors, strings and symbols, and `write-char` (R5RS 6)
abbrev pub can_fail : Primitive → Bool
can_fail p = (nat_le 1 (number_of p) && nat_le (number_of p) 4) || ((nat_le 17 (number_of p) && nat_le (number_of p) 39) || (number_of p == 42))
