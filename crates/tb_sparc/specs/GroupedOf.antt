-- Code as it runs.
use Rattle.tb_sparc.specs.declared.code.SparcCode.{SparcCode}
use Rattle.tb_sparc.specs.Grouped.{Grouped}

-- the code without the proof of its rules
abbrev pub grouped_of : SparcCode → Grouped
grouped_of code = record { words = code.words; starts = code.starts }
