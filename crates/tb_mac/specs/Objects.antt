-- The objects of the heap, word for word. A pair is its two words; every other object has a header with its
-- kind and length. Objects have an even number of words, so that they start at even words; a fixnum 0 pads.
use Rattle.std.specs.Prelude.{ℕ, ◌+◌, ◌/◌, ◌%◌, List, [], ◌∷◌, ◌++◌, length, replicate}
use Rattle.tb_mac.specs.declared.word.Word.{Word}
use Rattle.tb_mac.specs.declared.word.Word.TheVariants.{Fix, Header, Code, Raw}
use Rattle.tb_mac.specs.Words.{zero_word}

-- the tags of pointers: of a pair, of a vector or cell, of a string or symbol, of a procedure
abbrev pub pair_tag : ℕ
pair_tag = 1

abbrev pub vector_tag : ℕ
vector_tag = 3

abbrev pub string_tag : ℕ
string_tag = 5

abbrev pub procedure_tag : ℕ
procedure_tag = 7

-- the kinds of headers
abbrev pub vector_kind : ℕ
vector_kind = 18

abbrev pub cell_kind : ℕ
cell_kind = 26

abbrev pub string_kind : ℕ
string_kind = 34

abbrev pub symbol_kind : ℕ
symbol_kind = 42

abbrev pub procedure_kind : ℕ
procedure_kind = 50

-- the padding behind so many words
abbrev pub padding : ℕ → List Word
padding n = replicate (n % 2) zero_word

-- so many words and their padding
abbrev pub padded_size : ℕ → ℕ
padded_size n = n + n % 2

-- how many words hold so many bytes
abbrev pub raw_size : ℕ → ℕ
raw_size n = (n + 3) / 4

-- bytes in raw words, zeros after the last
abbrev pub raw_words : List ℕ → List Word
raw_words [] = []
raw_words (a ∷ []) = Raw (a ∷ 0 ∷ 0 ∷ 0 ∷ []) ∷ []
raw_words (a ∷ b ∷ []) = Raw (a ∷ b ∷ 0 ∷ 0 ∷ []) ∷ []
raw_words (a ∷ b ∷ c ∷ []) = Raw (a ∷ b ∷ c ∷ 0 ∷ []) ∷ []
raw_words (a ∷ b ∷ c ∷ d ∷ bytes) = Raw (a ∷ b ∷ c ∷ d ∷ []) ∷ raw_words bytes

abbrev pub pair_words : Word → Word → List Word
pair_words a b = a ∷ b ∷ []

abbrev pub cell_words : Word → List Word
cell_words w = Header cell_kind 1 ∷ w ∷ []

abbrev pub vector_words : List Word → List Word
vector_words ws = Header vector_kind (length ws) ∷ (ws ++ padding (length ws + 1))

-- a string or symbol, by its kind and bytes
abbrev pub bytes_words : ℕ → List ℕ → List Word
bytes_words kind bytes = Header kind (length bytes) ∷ (raw_words bytes ++ padding (raw_size (length bytes) + 1))

-- a new vector of n fixnums 0
abbrev pub new_vector : ℕ → List Word
new_vector n = Header vector_kind n ∷ replicate (n + (n + 1) % 2) zero_word

-- a new string of n characters of code 0
abbrev pub new_string : ℕ → List Word
new_string n = Header string_kind n ∷ (replicate (raw_size n) (Raw (0 ∷ 0 ∷ 0 ∷ 0 ∷ [])) ++ padding (raw_size n + 1))

-- a new procedure with the entry x and n captured fixnums 0
abbrev pub new_procedure : ℕ → ℕ → List Word
new_procedure n x = Header procedure_kind n ∷ Code x ∷ replicate (padded_size n) zero_word
