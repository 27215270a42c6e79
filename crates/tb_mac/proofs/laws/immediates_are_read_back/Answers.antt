use Rattle.tb_mac.proofs.Immediates.{imm_word-imm_bits}
use Rattle.tb_mac.proofs.laws.immediates_are_read_back.Goals as goal

pub returns : goal.returns
returns c = record { law = imm_word-imm_bits }
