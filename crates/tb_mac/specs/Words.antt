-- The words of the MAC machine, and the 32 bits that stand for those that an instruction can write.
use Rattle.std.specs.Prelude.{ℕ, ◌+◌, ◌-◌, ◌*◌, ◌<◌, ◌/◌, ◌%◌, ◌^◌, ◌==◌, Bool, true, false, ◌&&◌, cond, nat_lt, ℤ, pos, negsuc, neg_ℤ, List, [], ◌∷◌, Option, Some, None}
use Rattle.tb_mac.specs.declared.word.Word.{Word}
use Rattle.tb_mac.specs.declared.word.Word.TheVariants.{Fix, Special, Char, Header, Pointer, Code, Raw}

-- the value that an option holds, put to use, or else another value
abbrev pub on_some : {A B : Type 0} → Option A → B → (A → B) → B
on_some None b f = b
on_some (Some a) b f = f a

-- the specials
abbrev pub false_word : Word
false_word = Special 0

abbrev pub true_word : Word
true_word = Special 1

abbrev pub empty_list : Word
empty_list = Special 2

abbrev pub unspecified : Word
unspecified = Special 3

abbrev pub undefined : Word
undefined = Special 4

abbrev pub end_object : Word
end_object = Special 5

-- the fixnum 0
abbrev pub zero_word : Word
zero_word = Fix (pos 0)

-- the word is false, which alone counts as false (R5RS 6.3.1)
abbrev pub is_false : Word → Bool
is_false (Special k) = k == 0
is_false _ = false

-- the word is Undefined
abbrev pub is_undefined : Word → Bool
is_undefined (Special k) = k == 4
is_undefined _ = false

-- equal whole numbers
abbrev pub same_int : ℤ → ℤ → Bool
same_int (pos a) (pos b) = a == b
same_int (negsuc a) (negsuc b) = a == b
same_int _ _ = false

-- equal lists of bytes
abbrev pub same_bytes : List ℕ → List ℕ → Bool
same_bytes [] [] = true
same_bytes (a ∷ as') (b ∷ bs) = (a == b) && same_bytes as' bs
same_bytes _ _ = false

-- equal words
abbrev pub same_word : Word → Word → Bool
same_word (Fix i) (Fix j) = same_int i j
same_word (Special i) (Special j) = i == j
same_word (Char c) (Char d) = c == d
same_word (Header k n) (Header l m) = (k == l) && (n == m)
same_word (Pointer s a) (Pointer t b) = (s == t) && (a == b)
same_word (Code i) (Code j) = i == j
same_word (Raw b) (Raw c) = same_bytes b c
same_word _ _ = false

-- the fixnum whose 32 bits, in two's complement, are 4 times its value
abbrev pub fixnum_of : ℕ → ℤ
fixnum_of x = cond (nat_lt x (2 ^ 31)) (pos (x / 4)) (neg_ℤ (pos ((2 ^ 32 - x) / 4)))

-- the word that is written as these 32 bits: a fixnum v as 4 * v, the character c as 256 * c + 10, and the
-- special number k as 256 * k + 2 (this project's own tags, those of fixnums as SPARC V8 has them)
abbrev pub imm_word : ℕ → Option Word
imm_word x =
    cond (x % 4 == 0) (Some (Fix (fixnum_of x)))
    (cond (x % 256 == 10) (cond (nat_lt (x / 256) 256) (Some (Char (x / 256))) None)
    (cond (x % 256 == 2) (cond (nat_lt (x / 256) 6) (Some (Special (x / 256))) None)
    None))

-- the words that an instruction can write: fixnums of 30 bits in two's complement, specials and characters
abbrev pub IsImmediate : Word → Type 0
IsImmediate (Fix (pos n)) = n < 2 ^ 29
IsImmediate (Fix (negsuc n)) = n < 2 ^ 29
IsImmediate (Special k) = k < 6
IsImmediate (Char c) = c < 256
IsImmediate (Header k n) = ⊥
IsImmediate (Pointer t a) = ⊥
IsImmediate (Code i) = ⊥
IsImmediate (Raw bytes) = ⊥

-- the 32 bits of such a word, as `imm_word` reads them
abbrev pub imm_bits : Word → ℕ
imm_bits (Fix (pos n)) = 4 * n
imm_bits (Fix (negsuc n)) = 2 ^ 32 - 4 * (n + 1)
imm_bits (Special k) = 256 * k + 2
imm_bits (Char c) = 256 * c + 10
imm_bits _ = 0
