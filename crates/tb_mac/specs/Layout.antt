-- The words at the start of the memory: the globals, padded to an even number, then the static objects.
use Rattle.std.specs.Prelude.{ℕ, ◌+◌, true, false, List, [], ◌∷◌, ◌++◌, length, map, replicate, slice_get, slice_index, Option}
use Rattle.tb_prim.specs.declared.constant.Const.{Const}
use Rattle.tb_prim.specs.declared.constant.Static.{Static}
use Rattle.tb_mac.specs.declared.word.Word.{Word}
use Rattle.tb_mac.specs.declared.word.Word.TheVariants.{Fix, Special, Char, Pointer}
use Rattle.tb_mac.specs.declared.code.Parts.{Parts}
use Rattle.tb_mac.specs.Words.{on_some, false_word, true_word, empty_list, unspecified, undefined}
use Rattle.tb_mac.specs.Objects.{pair_tag, vector_tag, string_tag, string_kind, symbol_kind, padding, padded_size, raw_size, pair_words, vector_words, bytes_words}

-- the tag of a pointer to a static object
abbrev pub static_tag : Static → ℕ
static_tag (Static.Pair a b) = pair_tag
static_tag (Static.Vector cs) = vector_tag
static_tag (Static.Str bytes) = string_tag
static_tag (Static.Sym bytes) = string_tag

-- the words of a static object, padding included
abbrev pub static_size : Static → ℕ
static_size (Static.Pair a b) = 2
static_size (Static.Vector cs) = padded_size (length cs + 1)
static_size (Static.Str bytes) = padded_size (raw_size (length bytes) + 1)
static_size (Static.Sym bytes) = padded_size (raw_size (length bytes) + 1)

abbrev pub statics_size : List Static → ℕ
statics_size [] = 0
statics_size (s ∷ ss) = static_size s + statics_size ss

-- where static objects stand that follow one another from a word on
abbrev pub addresses_from : ℕ → List Static → List ℕ
addresses_from at [] = []
addresses_from at (s ∷ ss) = at ∷ addresses_from (at + static_size s) ss

-- the words of the globals, padding included
abbrev pub globals_size : Parts → ℕ
globals_size parts = padded_size (length parts.globals)

-- where the static objects of code stand
abbrev pub addresses : Parts → List ℕ
addresses parts = addresses_from (globals_size parts) parts.statics

-- the pointer to a static object, of which the rules of code say that it is there
abbrev pub static_pointer : List Static → List ℕ → ℕ → Word
static_pointer statics at n = Pointer (on_some (slice_get statics n) 0 static_tag) (slice_index at n)

-- the word of a constant
abbrev pub const_word : List Static → List ℕ → Const → Word
const_word statics at (Const.Fix v) = Fix v
const_word statics at (Const.Char c) = Char c
const_word statics at (Const.Bool true) = true_word
const_word statics at (Const.Bool false) = false_word
const_word statics at Const.Nil = empty_list
const_word statics at Const.Unspecified = unspecified
const_word statics at Const.Undefined = undefined
const_word statics at (Const.Stat n) = static_pointer statics at n

-- the words of a static object
abbrev pub static_words : List Static → List ℕ → Static → List Word
static_words statics at (Static.Pair a b) = pair_words (const_word statics at a) (const_word statics at b)
static_words statics at (Static.Vector cs) = vector_words (map (const_word statics at) cs)
static_words statics at (Static.Str bytes) = bytes_words string_kind bytes
static_words statics at (Static.Sym bytes) = bytes_words symbol_kind bytes

abbrev pub all_words : List Static → List ℕ → List Static → List Word
all_words statics at [] = []
all_words statics at (s ∷ ss) = static_words statics at s ++ all_words statics at ss

-- the globals, which start as Undefined
abbrev pub globals_words : Parts → List Word
globals_words parts = let n = length parts.globals in replicate n undefined ++ padding n

-- the words of globals and static objects
abbrev pub start_words : Parts → List Word
start_words parts = globals_words parts ++ all_words parts.statics (addresses parts) parts.statics

-- how many these are
abbrev pub start_size : Parts → ℕ
start_size parts = globals_size parts + statics_size parts.statics
