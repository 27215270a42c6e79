-- Immediates are read back from their bits.
use Rattle.std.proofs.Common.{◌≡◌, Some, pos, negsuc, arith}
use Rattle.tb_mac.specs.declared.word.Word.{Word}
use Rattle.tb_mac.specs.declared.word.Word.TheVariants.{Fix, Special, Char, Header, Pointer, Code, Raw}
use Rattle.tb_mac.specs.Words.{IsImmediate, imm_bits, imm_word}

pub imm_word-imm_bits : (w : Word) → IsImmediate w → imm_word (imm_bits w) ≡ Some w
imm_word-imm_bits (Fix (pos n)) h = grind arith
imm_word-imm_bits (Fix (negsuc n)) h = grind arith
imm_word-imm_bits (Special k) h = grind arith
imm_word-imm_bits (Char c) h = grind arith
imm_word-imm_bits (Header k n) h = absurd h
imm_word-imm_bits (Pointer t a) h = absurd h
imm_word-imm_bits (Code i) h = absurd h
imm_word-imm_bits (Raw bytes) h = absurd h
