-- The bounds of code: on one frame or procedure, on space, and on the length of a procedure.
use Rattle.std.specs.Prelude.{ℕ, zero, suc, ◌+◌, ◌*◌, max, List, [], ◌∷◌, length}
use Rattle.tb_mac.specs.declared.code.Instr.{Instr}
use Rattle.tb_mac.specs.declared.code.Instr.TheVariants.{Proc, Save, Clo}

-- the slots of a frame that the instruction makes, or the captured words of a procedure
abbrev pub extent : Instr → ℕ
extent (Save x) = x
extent (Clo a n x) = n
extent _ = 0

-- the largest frame or number of captured words, or 0
abbrev pub frame_bound : List Instr → ℕ
frame_bound [] = 0
frame_bound (i ∷ is) = max (extent i) (frame_bound is)

-- the factor of the bound on space
abbrev pub space_bound : List Instr → ℕ
space_bound code = 4 * (frame_bound code + 16)

-- how many instructions stand before the first `proc`
abbrev pub before_proc : List Instr → ℕ
before_proc [] = 0
before_proc (Proc x ∷ is) = 0
before_proc (i ∷ is) = suc (before_proc is)

-- the longest run of instructions that begins at a `proc` and holds no later one
abbrev pub longest_procedure : List Instr → ℕ
longest_procedure [] = 0
longest_procedure (Proc x ∷ is) = max (suc (before_proc is)) (longest_procedure is)
longest_procedure (i ∷ is) = longest_procedure is

-- the same, or the run that begins at the first instruction
abbrev pub window_bound : List Instr → ℕ
window_bound code = max (before_proc code) (longest_procedure code)
