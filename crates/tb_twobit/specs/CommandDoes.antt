-- What a command does.
use Rattle.std.specs.Prelude.{ℕ}
use Rattle.tb_twobit.specs.GoDoes.{GoDoes}
use Rattle.tb_twobit.specs.Preparing.{Outside}
use Rattle.tb_twobit.specs.SpaceDoes.{SpaceDoes}
use Rattle.tb_twobit.specs.Words.{Command, GoMac, SpaceMac}

-- by the command and its status
abbrev pub CommandDoes : Command → Outside → ℕ → Type 0
CommandDoes (GoMac go) o status = GoDoes go o status
CommandDoes (SpaceMac space) o status = SpaceDoes space o status
