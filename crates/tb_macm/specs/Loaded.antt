-- What callers see of a machine that is loaded with code.
use Rattle.tb_mac.specs.Assembled.{Assembled}
use Rattle.tb_mac.specs.MacStep.{Mac}

-- the code that is run, and the machine's state
pub record Loaded : Type 0 where
  pub code : Assembled
  pub mac : Mac
