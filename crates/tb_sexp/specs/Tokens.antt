-- The grammar of tokens: what each is spelled by, where it ends, and what is wrong with what is no token.
use Rattle.std.specs.Prelude.{◌≡◌, ◌≢◌, ℕ, ◌+◌, ◌≤◌, ◌<◌, Bool, true, false, List, [], ◌∷◌, ◌++◌, length, codes, Some, None}
use Rattle.std.specs.Char.{to_ascii_lowercase}
use Rattle.tb_prim.specs.Fixnums.{is_fixnum}
use Rattle.tb_sexp.specs.declared.token.Token.{Token}
use Rattle.tb_sexp.specs.declared.token.Token.TheVariants as token
use Rattle.tb_sexp.specs.declared.token.Mark.{Mark}
use Rattle.tb_sexp.specs.declared.token.Mark.TheVariants.{Quote, Quasiquote, Unquote, UnquoteSplicing}
use Rattle.tb_sexp.specs.declared.token.Fault.{Fault}
use Rattle.tb_sexp.specs.declared.token.Fault.TheVariants.{Syntax, LongName, BigNumber, LongString, BadEscape, OpenString}
use Rattle.tb_sexp.specs.Bytes.{is_delimiter, is_identifier, escaped_of, folded}
use Rattle.tb_sexp.specs.Numbers.{base_of, are_digits, value_of, signed}

-- the bytes between the quotes of a string, and the characters that they stand for: no `"` (34), and behind
-- each backslash (92) a letter that stands for a character
pub data Characters : List ℕ → List ℕ → Type 0 where
  no_more : Characters [] []
  plain : {b : ℕ} {bs cs : List ℕ} → b ≢ 34 → b ≢ 92 → Characters bs cs → Characters (b ∷ bs) (b ∷ cs)
  escaped : {b c : ℕ} {bs cs : List ℕ} → escaped_of b ≡ Some c → Characters bs cs → Characters (92 ∷ b ∷ bs) (c ∷ cs)

-- what gives the base of a number: `#` (35) and a letter in either case; without these it is 10
pub data Prefix : List ℕ → ℕ → Type 0 where
  decimal : Prefix [] 10
  based : {b base : ℕ} → base_of (to_ascii_lowercase b) ≡ Some base → Prefix (35 ∷ b ∷ []) base

-- an optional `+` (43) or `-` (45), and whether the number is negative
pub data Sign : List ℕ → Bool → Type 0 where
  unsigned : Sign [] false
  plus : Sign (43 ∷ []) false
  minus : Sign (45 ∷ []) true

-- a word that is a number: a prefix, a sign and one or more digits of the base
pub data IsNumeral : List ℕ → ℕ → Bool → List ℕ → Type 0 where
  numeral : {prefix sign ds : List ℕ} {base : ℕ} {negative : Bool} → Prefix prefix base → Sign sign negative →
      are_digits base ds ≡ true → IsNumeral (prefix ++ (sign ++ ds)) base negative ds

-- a word spells a token; letters of names are folded to lower case, and other letters may be in either case
pub data Spells : List ℕ → Token → Type 0 where
  open_list : Spells (codes "(") token.Open
  open_vector : Spells (codes "#(") token.OpenVector
  close : Spells (codes ")") token.Close
  quote : Spells (codes "'") (token.Mark Quote)
  quasiquote : Spells (codes "`") (token.Mark Quasiquote)
  unquote : Spells (codes ",") (token.Mark Unquote)
  splicing : Spells (codes ",@") (token.Mark UnquoteSplicing)
  dot : Spells (codes ".") token.Dot
  truth : {b : ℕ} → to_ascii_lowercase b ≡ 116 → Spells (35 ∷ b ∷ []) (token.Bool true)
  falsity : {b : ℕ} → to_ascii_lowercase b ≡ 102 → Spells (35 ∷ b ∷ []) (token.Bool false)
  number : {w ds : List ℕ} {base : ℕ} {negative : Bool} → IsNumeral w base negative ds → is_fixnum (signed negative (value_of base ds)) ≡ true →
      Spells w (token.Fix (signed negative (value_of base ds)))
  name : {w : List ℕ} → is_identifier w ≡ true → length w ≤ 255 → Spells w (token.Name (folded w))
  one_byte : {b : ℕ} → Spells (35 ∷ 92 ∷ b ∷ []) (token.Char b)
  space : {w : List ℕ} → folded w ≡ codes "space" → Spells (35 ∷ 92 ∷ w) (token.Char 32)
  newline : {w : List ℕ} → folded w ≡ codes "newline" → Spells (35 ∷ 92 ∷ w) (token.Char 10)
  text : {w cs : List ℕ} → Characters w cs → length cs ≤ 65535 → Spells (34 ∷ (w ++ 34 ∷ [])) (token.Str cs)

-- behind a word the text ends, or a delimiter stands
abbrev pub EndsWord : List ℕ → Type 0
EndsWord [] = Unit {0}
EndsWord (b ∷ bs) = is_delimiter b ≡ true

-- a comma with `@` (64) behind it is a mark of its own
abbrev pub NoAt : List ℕ → Type 0
NoAt [] = Unit {0}
NoAt (b ∷ bs) = b ≢ 64

abbrev pub EndsMark : Mark → List ℕ → Type 0
EndsMark Quote rest = Unit {0}
EndsMark Quasiquote rest = Unit {0}
EndsMark Unquote rest = NoAt rest
EndsMark UnquoteSplicing rest = Unit {0}

-- what may stand behind a token
abbrev pub EndsAt : Token → List ℕ → Type 0
EndsAt token.Open rest = Unit {0}
EndsAt token.OpenVector rest = Unit {0}
EndsAt token.Close rest = Unit {0}
EndsAt (token.Mark m) rest = EndsMark m rest
EndsAt token.Dot rest = EndsWord rest
EndsAt (token.Bool b) rest = EndsWord rest
EndsAt (token.Fix n) rest = EndsWord rest
EndsAt (token.Char c) rest = EndsWord rest
EndsAt (token.Str s) rest = Unit {0}
EndsAt (token.Name s) rest = EndsWord rest

-- a text begins with a token of so many bytes
pub record TokenAt (bs : List ℕ) (t : Token) (n : ℕ) : Type 0 where
  pub word : List ℕ
  pub rest : List ℕ
  pub whole : bs ≡ word ++ rest
  pub size : length word ≡ n
  pub spells : Spells word t
  pub ends : EndsAt t rest

-- a text begins with a token
abbrev pub HasToken : List ℕ → Type 0
HasToken bs = (t : Token) × (n : ℕ) × TokenAt bs t n

-- a text begins as a token does, with a fault of its own: a name of more than 255 bytes, a number that is no
-- fixnum, a string of more than 65,535 characters, a backslash that stands for nothing, or a string without an
-- end. A bad escape is told by the bytes of the string before its backslash, the opening quote included.
pub data Spoiled : List ℕ → Fault → Type 0 where
  long_name : (w rest : List ℕ) → is_identifier w ≡ true → 255 < length w → EndsWord rest → Spoiled (w ++ rest) LongName
  big_number : {w ds : List ℕ} {base : ℕ} {negative : Bool} (rest : List ℕ) → IsNumeral w base negative ds →
      is_fixnum (signed negative (value_of base ds)) ≡ false → EndsWord rest → Spoiled (w ++ rest) BigNumber
  long_string : {w cs : List ℕ} (rest : List ℕ) → Characters w cs → 65535 < length cs → Spoiled (34 ∷ (w ++ rest)) LongString
  bad_escape : {w cs : List ℕ} (b : ℕ) (rest : List ℕ) → Characters w cs → length cs ≤ 65535 → escaped_of b ≡ None →
      Spoiled (34 ∷ (w ++ 92 ∷ b ∷ rest)) (BadEscape (1 + length w))
  open_string : {w cs : List ℕ} → Characters w cs → length cs ≤ 65535 → Spoiled (34 ∷ w) OpenString
  open_escape : {w cs : List ℕ} → Characters w cs → length cs ≤ 65535 → Spoiled (34 ∷ (w ++ 92 ∷ [])) OpenString

-- what is wrong where a token should begin: a fault of its own, or else there is no token
pub data Faulty : List ℕ → Fault → Type 0 where
  spoiled : {bs : List ℕ} {f : Fault} → Spoiled bs f → Faulty bs f
  no_token : {bs : List ℕ} → (HasToken bs → ⊥) → ((f : Fault) → Spoiled bs f → ⊥) → Faulty bs Syntax
