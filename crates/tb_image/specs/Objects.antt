-- The static objects of an image: pairs, vectors, strings and symbols.
use Rattle.std.specs.Prelude.{ℕ, ◌+◌, ◌*◌, ◌^◌, ◌==◌, ◌||◌, Bool, true, false, cond, nat_lt, List, [], ◌∷◌, Option, Some, None, is_some, option_map, slice_get}
use Rattle.tb_prim.specs.declared.constant.Const.{Const}
use Rattle.tb_prim.specs.declared.constant.Static.{Static}
use Rattle.tb_mac.specs.declared.word.Word.{Word}
use Rattle.tb_mac.specs.declared.word.Word.TheVariants.{Fix, Special, Char}
use Rattle.tb_mac.specs.Layout.{static_size, static_tag}
use Rattle.tb_mac.specs.Words.{imm_word, on_some}
use Rattle.tb_image.specs.Format.{Format, done, field, then, times}
use Rattle.tb_image.specs.Numbers.{any, number}

-- the specials that a static object can hold, by number; the end object is not among them
abbrev pub specials : List Const
specials = Const.Bool false ∷ Const.Bool true ∷ Const.Nil ∷ Const.Unspecified ∷ Const.Undefined ∷ []

-- the constant of a word of 32 bits
abbrev pub constant_of : Word → Option Const
constant_of (Fix v) = Some (Const.Fix v)
constant_of (Char c) = Some (Const.Char c)
constant_of (Special k) = slice_get specials k
constant_of _ = None

-- the number of the object whose pointer has these 32 bits: 4 times its place, counted in words from the first, and
-- its tag. The first of the objects has this number and stands at this word
abbrev pub object_from : ℕ → ℕ → List Static → ℕ → Option ℕ
object_from n at [] x = None
object_from n at (s ∷ ss) x = cond (4 * at + static_tag s == x) (Some n) (object_from (n + 1) (at + static_size s) ss x)

-- the constant of 32 bits, where these objects are earlier
abbrev pub constant_at : List Static → ℕ → Option Const
constant_at earlier x = on_some (imm_word x) (option_map Const.Stat (object_from 0 0 earlier x)) constant_of

-- a word of an object
abbrev pub word_format : List Static → Format Const
word_format earlier = number 4 (λ x. is_some (constant_at earlier x)) (λ x. done (on_some (constant_at earlier x) Const.Nil (λ c. c)))

-- how many words or bytes an object has: at most 16,777,215
abbrev pub is_length : ℕ → Bool
is_length n = nat_lt n (2 ^ 24)

abbrev pub pair_format : List Static → Format Static
pair_format earlier = then (word_format earlier) (λ a. then (word_format earlier) (λ b. done (Static.Pair a b)))

abbrev pub vector_format : List Static → Format Static
vector_format earlier = number 4 is_length (λ n. then (times (λ before. word_format earlier) n []) (λ cs. done (Static.Vector cs)))

-- a string or a symbol
abbrev pub bytes_format : (List ℕ → Static) → Format Static
bytes_format make = number 4 is_length (λ n. field n any (λ bytes. done (make bytes)))

-- the kinds: 1 a pair, 2 a vector, 4 a string, 5 a symbol
abbrev pub is_kind : ℕ → Bool
is_kind k = (k == 1) || ((k == 2) || ((k == 4) || (k == 5)))

-- an object behind these
abbrev pub object_format : List Static → Format Static
object_format earlier =
    number 1 is_kind (λ k.
    cond (k == 1) (pair_format earlier)
    (cond (k == 2) (vector_format earlier)
    (cond (k == 4) (bytes_format (λ bytes. Static.Str bytes)) (bytes_format (λ bytes. Static.Sym bytes)))))
