-- The kinds of bytes that tokens are made of.
use Rattle.std.specs.Prelude.{ℕ, ◌==◌, ◌||◌, ◌&&◌, Bool, false, cond, List, [], ◌∷◌, map, codes, bytes_eq, Option, Some, None}
use Rattle.std.specs.List.{list_any, list_all}
use Rattle.std.specs.Char.{is_ascii_alphabetic, is_ascii_digit, to_ascii_lowercase}

-- space, tab, newline, carriage return and form feed
abbrev pub is_whitespace : ℕ → Bool
is_whitespace b = list_any (λ c. c == b) (32 ∷ 9 ∷ 10 ∷ 13 ∷ 12 ∷ [])

-- whitespace, `(`, `)`, `"` and `;` end a token that has no end of its own
abbrev pub is_delimiter : ℕ → Bool
is_delimiter b = is_whitespace b || list_any (λ c. c == b) (codes "()\";")

-- what an identifier begins with: a letter, or one of these bytes
abbrev pub is_initial : ℕ → Bool
is_initial b = is_ascii_alphabetic b || list_any (λ c. c == b) (codes "!$%&*/:<=>?^_~")

-- what follows in an identifier: also a digit, or one of these bytes
abbrev pub is_subsequent : ℕ → Bool
is_subsequent b = is_initial b || (is_ascii_digit b || list_any (λ c. c == b) (codes "+-.@"))

abbrev pub is_word : List ℕ → Bool
is_word [] = false
is_word (b ∷ bs) = is_initial b && list_all is_subsequent bs

-- an identifier: an initial and subsequents, or `+`, `-` or `...`
abbrev pub is_identifier : List ℕ → Bool
is_identifier bs = bytes_eq bs (codes "+") || (bytes_eq bs (codes "-") || (bytes_eq bs (codes "...") || is_word bs))

-- letters are folded to lower case
abbrev pub folded : List ℕ → List ℕ
folded bs = map to_ascii_lowercase bs

-- the character that stands for itself or for another behind a backslash
abbrev pub escaped_of : ℕ → Option ℕ
escaped_of b =
    cond (b == 34) (Some 34) (cond (b == 92) (Some 92) (cond (b == 110) (Some 10) (cond (b == 116) (Some 9) None)))
