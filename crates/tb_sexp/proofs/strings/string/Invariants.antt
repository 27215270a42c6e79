use Rattle.std.proofs.Common.{◌≡◌, [], false, drop}
use Rattle.tb_sexp.specs.calls.Lexing.{string_from}
use Rattle.tb_sexp.proofs.strings.string.Given as goal

abbrev pub invariant-loop-index : goal.invariant-loop-index
invariant-loop-index l =
    string_from l.characters.items l.is_escaped l.index (drop l.index l.text) ≡ string_from [] false 0 l.text
