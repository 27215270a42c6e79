-- What loading does.
use Rattle.std.specs.Prelude.{◌≡◌, ℕ, ◌+◌, ◌<◌, ◌≤◌, Result, Ok, Err}
use Rattle.tb_mac.specs.Assembled.{Assembled}
use Rattle.tb_mac.specs.Layout.{start_size}
use Rattle.tb_mac.specs.MacEvents.{mac_start}
use Rattle.tb_macm.specs.Loaded.{Loaded}
use Rattle.tb_macm.specs.declared.load.LoadRefusal.{LoadRefusal}
use Rattle.tb_macm.specs.declared.load.LoadRefusal.TheVariants as L

-- the globals and static objects with 64 further words do not fit, and `pointer` is their number; or they fit, and
-- the machine stands before its first step, or there was no memory for it
abbrev pub LoadDoes : Assembled → ℕ → Result Loaded LoadRefusal → Type 0
LoadDoes c heap (Ok m) = (start_size c.parts + 64 ≤ heap) × (m ≡ record { code = c; mac = mac_start c heap })
LoadDoes c heap (Err (L.HeapSmall pointer)) = (heap < start_size c.parts + 64) × (pointer ≡ start_size c.parts)
LoadDoes c heap (Err L.NoMemory) = start_size c.parts + 64 ≤ heap
