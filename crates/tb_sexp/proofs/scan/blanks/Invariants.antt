use Rattle.std.proofs.Common.{◌≡◌, ◌+◌, drop}
use Rattle.tb_sexp.specs.calls.Scanning as scanning
use Rattle.tb_sexp.proofs.scan.blanks.Given as goal

abbrev pub invariant-loop-index : goal.invariant-loop-index
invariant-loop-index l = l.index + scanning.blanks_in l.in_comment (drop l.index l.text) ≡ scanning.blanks l.text
