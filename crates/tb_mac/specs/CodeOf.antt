-- Code as it runs.
use Rattle.tb_mac.specs.declared.code.MacCode.{MacCode}
use Rattle.tb_mac.specs.Assembled.{Assembled}

-- the code without the proof of its rules
abbrev pub code_of : MacCode → Assembled
code_of c = record { parts = c.parts; code = c.code; maps = c.maps; places = c.places }
