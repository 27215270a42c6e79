-- What a command is seen as.
use Rattle.std.specs.Prelude.{ℕ, nat_le, cond, Option, Some, None}
use Rattle.tb_twobit.specs.declared.limits.Interval.{Interval}
use Rattle.tb_twobit.specs.declared.words.Asked.{Asked}
use Rattle.tb_twobit.specs.declared.words.Run.{Run}
use Rattle.tb_twobit.specs.Words.{Go, Space, Command, GoMac, SpaceMac}

-- a source file and the limits of its run
abbrev pub go_of : Run → Go
go_of run = record { source = run.source.now; heap = run.limits.heap; steps = run.limits.steps }

-- and how often it is reported
abbrev pub space_of : Run → Interval → Space
space_of run every = record { go = go_of run; every = every.events }

abbrev pub command : Asked → Command
command (Asked.Go run) = GoMac (go_of run)
command (Asked.Space run every) = SpaceMac (space_of run every)

-- the interval that a number is
abbrev pub events_of : Interval → ℕ
events_of every = every.events

abbrev pub interval_of : Option ℕ → Option ℕ
interval_of (Some every) = cond (nat_le 1 every) (Some every) None
interval_of None = None
