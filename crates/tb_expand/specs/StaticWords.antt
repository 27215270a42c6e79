-- The words that static objects take, with padding.
use Rattle.std.specs.Prelude.{ℕ, ◌+◌, List, [], ◌∷◌, length}
use Rattle.tb_prim.specs.declared.constant.Static.{Static}
use Rattle.tb_expand.specs.Limits.{even, byte_words}

-- a pair has two, a vector one for each element and one more, a string or a symbol those of its bytes
abbrev pub words_of_static : Static → ℕ
words_of_static (Static.Pair a d) = 2
words_of_static (Static.Vector cs) = even (1 + length cs)
words_of_static (Static.Str s) = byte_words s
words_of_static (Static.Sym s) = byte_words s

abbrev pub words_of_statics : List Static → ℕ
words_of_statics [] = 0
words_of_statics (s ∷ o) = words_of_static s + words_of_statics o
