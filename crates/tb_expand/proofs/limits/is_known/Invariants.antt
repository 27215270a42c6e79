use Rattle.std.proofs.Common.{◌≡◌, drop, map, bytes_eq}
use Rattle.std.specs.List.{list_any}
use Rattle.tb_expand.specs.View.{text_of}
use Rattle.tb_expand.proofs.limits.is_known.Given as goal

abbrev pub invariant-loop-symbol : goal.invariant-loop-symbol
invariant-loop-symbol l = list_any (bytes_eq l.text) (map text_of (drop l.symbol-index l.symbols)) ≡ list_any (bytes_eq l.text) (map text_of l.symbols)
