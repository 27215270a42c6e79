-- The run of instructions that goes on behind one.
use Rattle.std.specs.Prelude.{ℕ, ◌+◌}
use Rattle.tb_mac.specs.declared.code.Instr.{Instr}
use Rattle.tb_mac.specs.declared.code.Instr.TheVariants.{Proc}

-- the length of a run of so many instructions with this one behind it; a `proc` begins another
abbrev pub run_behind : Instr → ℕ → ℕ
run_behind (Proc x) run = 1
run_behind _ run = run + 1
