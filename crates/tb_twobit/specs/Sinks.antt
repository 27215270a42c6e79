-- What a sink was given by a call.
use Rattle.std.specs.Prelude.{◌⊎◌, ℕ, List, take}
use Rattle.tb_base.specs.Outside.{Rose}
pub use Rattle.tb_running.specs.Runs.{Sunk, sunk, Gained}

-- a sink was given this line, or a front of it where its count rose
abbrev pub Said : Sunk → List ℕ → Type 0
Said s line = Gained s line ⊎ ((n : ℕ) × Gained s (take n line) × Rose s.faults s.faults_now)
