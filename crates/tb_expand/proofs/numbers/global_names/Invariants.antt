use Rattle.std.proofs.Common.{◌≡◌, ◌++◌, map, drop}
use Rattle.tb_expand.specs.Numbers.{global_name}
use Rattle.tb_expand.specs.View.{text_of}
use Rattle.tb_expand.proofs.numbers.global_names.Given as goal

abbrev pub invariant-loop-name : goal.invariant-loop-name
invariant-loop-name l =
    l.out.items ++ map (global_name l.library) (map text_of (drop l.name-index l.names)) ≡ map (global_name l.library) (map text_of l.names)
