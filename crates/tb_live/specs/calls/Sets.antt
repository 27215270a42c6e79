-- Lists without repeats that grow.
use Rattle.std.specs.Prelude.{ℕ, List, ◌++◌}
use Rattle.tb_core.specs.FirstUses.{first_of}

-- a list, and after it those of another that it lacks, each at its first place
abbrev pub joined : List ℕ → List ℕ → List ℕ
joined ks xs = ks ++ first_of ks xs
