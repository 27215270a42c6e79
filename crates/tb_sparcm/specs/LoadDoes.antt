-- What loading does.
use Rattle.std.specs.Prelude.{◌≡◌, ℕ, ◌+◌, ◌<◌, ◌≤◌, Result, Ok, Err}
use Rattle.tb_mac.specs.Assembled.{Assembled}
use Rattle.tb_mac.specs.Layout.{start_size}
use Rattle.tb_macm.specs.declared.load.LoadRefusal.{LoadRefusal}
use Rattle.tb_macm.specs.declared.load.LoadRefusal.TheVariants as L
use Rattle.tb_sparc.specs.Grouped.{Grouped}
use Rattle.tb_sparc.specs.SparcEvents.{sparc_start}
use Rattle.tb_sparcm.specs.Loaded.{Loaded}

-- the globals and static objects with 64 further words do not fit, and `pointer` is their number; or they fit, and
-- the machine stands before its first step, or there was no memory for it
abbrev pub LoadDoes : Assembled → Grouped → ℕ → Result Loaded LoadRefusal → Type 0
LoadDoes c g heap (Ok m) = (start_size c.parts + 64 ≤ heap) × (m ≡ record { code = c; sparc = g; state = sparc_start c g heap })
LoadDoes c g heap (Err (L.HeapSmall pointer)) = (heap < start_size c.parts + 64) × (pointer ≡ start_size c.parts)
LoadDoes c g heap (Err L.NoMemory) = start_size c.parts + 64 ≤ heap
