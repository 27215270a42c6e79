-- Reading one token: the token and how many bytes it takes, or what is wrong with it.
use Rattle.std.specs.Prelude.{ℕ, ◌+◌, ◌==◌, ◌||◌, nat_lt, Bool, true, false, cond, List, [], ◌∷◌, ◌++◌, ◌≡◌, length, take, codes, bytes_eq, Option, Some, None, Result, Ok, Err}
use Rattle.std.specs.Char.{to_ascii_lowercase}
use Rattle.tb_prim.specs.Fixnums.{is_fixnum}
use Rattle.tb_sexp.specs.declared.token.Token.{Token}
use Rattle.tb_sexp.specs.declared.token.Token.TheVariants as token
use Rattle.tb_sexp.specs.declared.token.Mark.TheVariants.{Quote, Quasiquote, Unquote, UnquoteSplicing}
use Rattle.tb_sexp.specs.declared.token.Fault.{Fault}
use Rattle.tb_sexp.specs.declared.token.Fault.TheVariants.{Syntax, LongName, BigNumber, LongString, BadEscape, OpenString}
use Rattle.tb_sexp.specs.declared.token.TokenRefusal.{TokenRefusal}
use Rattle.tb_sexp.specs.declared.token.TokenRefusal.TheVariants as refusal
use Rattle.tb_sexp.specs.Bytes.{is_identifier, folded, escaped_of}
use Rattle.tb_sexp.specs.calls.Scanning.{run_length}
use Rattle.tb_sexp.specs.Numbers.{base_of, are_digits, value_of, signed}

-- what a call returned is what reading gives, unless memory ran out
abbrev pub Fails : {X : Type 0} → TokenRefusal → Result X Fault → Type 0
Fails refusal.NoMemory read = Unit {0}
Fails (refusal.Fault f) read = read ≡ Err f

abbrev pub Gives : {X : Type 0} → Result X TokenRefusal → Result X Fault → Type 0
Gives (Ok x) read = read ≡ Ok x
Gives (Err e) read = Fails e read

-- whether a sign (`+` is 43, and `-` 45) stands in front, and what stands behind it
abbrev pub is_negative : List ℕ → Bool
is_negative [] = false
is_negative (b ∷ bs) = b == 45

abbrev pub digits_of : List ℕ → List ℕ
digits_of [] = []
digits_of (b ∷ bs) = cond ((b == 43) || (b == 45)) bs (b ∷ bs)

-- a number: an optional sign, and one or more digits
abbrev pub is_number : ℕ → List ℕ → Bool
is_number base bs = are_digits base (digits_of bs)

-- a number that is a fixnum
abbrev pub fixnum_of : Bool → ℕ → Result Token Fault
fixnum_of negative n = cond (is_fixnum (signed negative n)) (Ok (token.Fix (signed negative n))) (Err BigNumber)

abbrev pub number_of : ℕ → List ℕ → Result Token Fault
number_of base bs = cond (is_number base bs) (fixnum_of (is_negative bs) (value_of base (digits_of bs))) (Err Syntax)

-- an identifier of at most 255 bytes
abbrev pub name_of : List ℕ → Result Token Fault
name_of bs = cond (nat_lt 255 (length bs)) (Err LongName) (Ok (token.Name (folded bs)))

-- a run of bytes without delimiters that is a dot, an identifier or a decimal number
abbrev pub atom_of : List ℕ → Result Token Fault
atom_of bs = cond (bytes_eq bs (codes ".")) (Ok token.Dot) (cond (is_identifier bs) (name_of bs) (number_of 10 bs))

abbrev pub based_of : Option ℕ → List ℕ → Result Token Fault
based_of None bs = Err Syntax
based_of (Some base) bs = number_of base bs

-- a truth value, behind which nothing stands
abbrev pub truth_of : Bool → List ℕ → Result Token Fault
truth_of value [] = Ok (token.Bool value)
truth_of value (b ∷ bs) = Err Syntax

-- what follows `#` up to a delimiter: `t` (116), `f` (102), or a base and a number
abbrev pub hashed_of : List ℕ → Result Token Fault
hashed_of [] = Err Syntax
hashed_of (b ∷ bs) =
    cond (to_ascii_lowercase b == 116) (truth_of true bs)
    (cond (to_ascii_lowercase b == 102) (truth_of false bs) (based_of (base_of (to_ascii_lowercase b)) bs))

-- these bytes, letters in either case
abbrev pub is_folded : List ℕ → List ℕ → Bool
is_folded bs word = bytes_eq (folded bs) (folded word)

abbrev pub named_of : List ℕ → Result Token Fault
named_of bs =
    cond (is_folded bs (codes "space")) (Ok (token.Char 32))
    (cond (is_folded bs (codes "newline")) (Ok (token.Char 10)) (Err Syntax))

-- a character: one byte, or one of two names
abbrev pub character_of : List ℕ → Result Token Fault
character_of [] = Err Syntax
character_of (b ∷ bs) = cond (length bs == 0) (Ok (token.Char b)) (named_of (b ∷ bs))

-- the token with the number of its bytes
abbrev pub sized : Result Token Fault → ℕ → Result (Token × ℕ) Fault
sized (Ok t) n = Ok (t, n)
sized (Err e) n = Err e

-- the bytes before the first delimiter
abbrev pub run : List ℕ → List ℕ
run bs = take (run_length bs) bs

-- what stands behind `#`: the rest of `#(` or of a character, or a run up to a delimiter
abbrev pub character_at : List ℕ → Result (Token × ℕ) Fault
character_at [] = Err Syntax
character_at (b ∷ bs) = sized (character_of (take (run_length bs + 1) (b ∷ bs))) (run_length bs + 3)

abbrev pub hash_at : List ℕ → Result (Token × ℕ) Fault
hash_at [] = Err Syntax
hash_at (b ∷ bs) =
    cond (b == 40) (Ok (token.OpenVector, 2))
    (cond (b == 92) (character_at bs) (sized (hashed_of (run (b ∷ bs))) (run_length (b ∷ bs) + 1)))

-- what stands behind a comma: `,@` (64) is a mark of its own
abbrev pub comma_at : List ℕ → Result (Token × ℕ) Fault
comma_at [] = Ok (token.Mark Unquote, 1)
comma_at (b ∷ bs) = cond (b == 64) (Ok (token.Mark UnquoteSplicing, 2)) (Ok (token.Mark Unquote, 1))

abbrev pub on_some : Option ℕ → Result (Token × ℕ) Fault → (ℕ → Result (Token × ℕ) Fault) → Result (Token × ℕ) Fault
on_some None otherwise f = otherwise
on_some (Some c) otherwise f = f c

-- the rest of a string, behind its characters so far, perhaps a backslash, and `passed` bytes after the quote
abbrev pub string_from : List ℕ → Bool → ℕ → List ℕ → Result (Token × ℕ) Fault
string_from front escape passed [] = Err OpenString
string_from front escape passed (b ∷ bs) =
    cond escape
    (on_some (escaped_of b) (Err (BadEscape passed)) (λ c. cond (nat_lt (length front) 65535) (string_from (front ++ c ∷ []) false (passed + 1) bs) (Err LongString)))
    (cond (b == 34) (Ok (token.Str front, passed + 2))
    (cond (b == 92) (string_from front true (passed + 1) bs)
    (cond (nat_lt (length front) 65535) (string_from (front ++ b ∷ []) false (passed + 1) bs) (Err LongString))))

-- what stands behind the quote that opens a string
abbrev pub string_at : List ℕ → Result (Token × ℕ) Fault
string_at bs = string_from [] false 0 bs

abbrev pub atom_at : List ℕ → Result (Token × ℕ) Fault
atom_at bs = cond (run_length bs == 0) (Err Syntax) (sized (atom_of (run bs)) (run_length bs))

-- the token at the front of a text
abbrev pub token_at : List ℕ → Result (Token × ℕ) Fault
token_at [] = Err Syntax
token_at (b ∷ bs) =
    cond (b == 40) (Ok (token.Open, 1)) (cond (b == 41) (Ok (token.Close, 1))
    (cond (b == 39) (Ok (token.Mark Quote, 1)) (cond (b == 96) (Ok (token.Mark Quasiquote, 1))
    (cond (b == 44) (comma_at bs) (cond (b == 34) (string_at bs) (cond (b == 35) (hash_at bs) (atom_at (b ∷ bs))))))))

-- a string has at most 65,535 characters
abbrev pub PutsCharacter : List ℕ → List ℕ → ℕ → Result (Unit {0}) TokenRefusal → Type 0
PutsCharacter before now c (Ok u) = (nat_lt (length before) 65535 ≡ true) × (now ≡ before ++ c ∷ [])
PutsCharacter before now c (Err refusal.NoMemory) = Unit {0}
PutsCharacter before now c (Err (refusal.Fault f)) = (nat_lt (length before) 65535 ≡ false) × (f ≡ LongString)
