-- What callers see of a machine that is loaded with code.
use Rattle.tb_mac.specs.Assembled.{Assembled}
use Rattle.tb_sparc.specs.Grouped.{Grouped}
use Rattle.tb_sparc.specs.SparcStep.{Sparc}

-- the code of both machines, and the machine's state
pub record Loaded : Type 0 where
  pub code : Assembled
  pub sparc : Grouped
  pub state : Sparc
