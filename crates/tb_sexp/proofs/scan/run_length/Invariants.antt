use Rattle.std.proofs.Common.{◌≡◌, ◌+◌, drop}
use Rattle.tb_sexp.specs.calls.Scanning as scanning
use Rattle.tb_sexp.proofs.scan.run_length.Given as goal

abbrev pub invariant-loop-index : goal.invariant-loop-index
invariant-loop-index l = l.index + scanning.run_length (drop l.index l.text) ≡ scanning.run_length l.text
