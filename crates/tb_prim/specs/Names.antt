-- The names of the primitives in source texts (R5RS 6). Two primitives have two names each.
use Rattle.std.specs.Prelude.{ℕ, Bool, cond, List, [], ◌∷◌, codes, bytes_eq, Option, Some, None}
use Rattle.tb_prim.specs.declared.primitive.Primitive.{Primitive}
use Rattle.tb_prim.specs.declared.primitive.Primitive.TheVariants.{Cons, Car, Cdr, SetCar, SetCdr, IsPair, IsNull, Not, IsBoolean, IsSymbol, IsChar, IsString, IsVector, IsProcedure, IsInteger, IsEof, Eq, Add, Sub, Mul, Quotient, Remainder, Modulo, NumEq, Less, Greater, LessEq, GreaterEq, CharToInt, IntToChar, MakeVector, VectorRef, VectorSet, VectorLength, MakeString, StringRef, StringSet, StringLength, SymbolLength, SymbolRef, ReadChar, PeekChar, WriteChar, Unspecified}

-- a name, and the primitive that it means
pub record Named : Type 0 where
  pub name : List ℕ
  pub primitive : Primitive

abbrev pub named : List ℕ → Primitive → Named
named x p = record { name = x; primitive = p }

-- the names of primitives on pairs
abbrev pub pair_names : List Named
pair_names =
    named (codes "cons") Cons ∷
    named (codes "car") Car ∷
    named (codes "cdr") Cdr ∷
    named (codes "set-car!") SetCar ∷
    named (codes "set-cdr!") SetCdr ∷ []

-- the names of the tests of kinds, and `eq?`
abbrev pub test_names : List Named
test_names =
    named (codes "pair?") IsPair ∷
    named (codes "null?") IsNull ∷
    named (codes "not") Not ∷
    named (codes "boolean?") IsBoolean ∷
    named (codes "symbol?") IsSymbol ∷
    named (codes "char?") IsChar ∷
    named (codes "string?") IsString ∷
    named (codes "vector?") IsVector ∷
    named (codes "procedure?") IsProcedure ∷
    named (codes "integer?") IsInteger ∷
    named (codes "number?") IsInteger ∷
    named (codes "eof-object?") IsEof ∷
    named (codes "eq?") Eq ∷
    named (codes "eqv?") Eq ∷ []

-- the names of primitives on numbers
abbrev pub number_names : List Named
number_names =
    named (codes "+") Add ∷
    named (codes "-") Sub ∷
    named (codes "*") Mul ∷
    named (codes "quotient") Quotient ∷
    named (codes "remainder") Remainder ∷
    named (codes "modulo") Modulo ∷
    named (codes "=") NumEq ∷
    named (codes "<") Less ∷
    named (codes ">") Greater ∷
    named (codes "<=") LessEq ∷
    named (codes ">=") GreaterEq ∷ []

-- the names of primitives on characters, vectors and strings
abbrev pub text_names : List Named
text_names =
    named (codes "char->integer") CharToInt ∷
    named (codes "integer->char") IntToChar ∷
    named (codes "vector-ref") VectorRef ∷
    named (codes "vector-set!") VectorSet ∷
    named (codes "vector-length") VectorLength ∷
    named (codes "string-ref") StringRef ∷
    named (codes "string-set!") StringSet ∷
    named (codes "string-length") StringLength ∷ []

-- the names of the primitives of input and output
abbrev pub port_names : List Named
port_names =
    named (codes "read-char") ReadChar ∷
    named (codes "peek-char") PeekChar ∷
    named (codes "write-char") WriteChar ∷ []

-- the names that the library alone sees
abbrev pub library_names : List Named
library_names =
    named (codes "%make-vector") MakeVector ∷
    named (codes "%make-string") MakeString ∷
    named (codes "%symbol-length") SymbolLength ∷
    named (codes "%symbol-ref") SymbolRef ∷
    named (codes "%unspecified") Unspecified ∷ []

-- the first of the two, where there is one
abbrev pub or_else : Option Primitive → Option Primitive → Option Primitive
or_else None q = q
or_else (Some p) q = Some p

-- the primitive of a name in a table
abbrev pub found_in : List Named → List ℕ → Option Primitive
found_in [] x = None
found_in (n ∷ ns) x = cond (bytes_eq x n.name) (Some n.primitive) (found_in ns x)

-- the primitive of a name, in the program's texts and in those of the library
abbrev pub prim_named : List ℕ → Bool → Option Primitive
prim_named x library =
    or_else (found_in pair_names x) (or_else (found_in test_names x) (or_else (found_in number_names x) (or_else (found_in text_names x)
    (or_else (found_in port_names x) (cond library (found_in library_names x) None)))))
