-- The 32 bits that stand for a word of the MAC machine, where the instructions start at these words of the code.
use Rattle.std.specs.Prelude.{ℕ, ◌+◌, ◌*◌, ◌%◌, ◌^◌, List, slice_index}
use Rattle.std.specs.Int.{cast_unsigned, from_be_bytes, w32}
use Rattle.tb_mac.specs.declared.word.Word.{Word}
use Rattle.tb_mac.specs.declared.word.Word.TheVariants.{Fix, Special, Char, Header, Pointer, Code, Raw}

-- the address of the first byte of the data
abbrev pub data_address : ℕ
data_address = 0xC0000000

-- a fixnum v is 4 * v in two's complement; special number k is 256 * k + 2, a character c 256 * c + 10, a header of
-- length n 256 * n and its kind; a pointer is the address of its object's first word and its tag; a code place is the
-- address of its instruction's first word; the bytes of a raw word stand with the first of them highest
abbrev pub word_bits : List ℕ → Word → ℕ
word_bits starts (Fix v) = cast_unsigned w32 v * 4 % 2 ^ 32
word_bits starts (Special k) = 256 * k + 2
word_bits starts (Char c) = 256 * c + 10
word_bits starts (Header kind n) = (256 * n + kind) % 2 ^ 32
word_bits starts (Pointer tag at) = (data_address + 4 * at + tag) % 2 ^ 32
word_bits starts (Code i) = slice_index starts i * 4 % 2 ^ 32
word_bits starts (Raw bytes) = from_be_bytes w32 bytes
