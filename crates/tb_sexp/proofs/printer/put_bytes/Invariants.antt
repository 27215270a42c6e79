use Rattle.std.proofs.Common.{◌≡◌, ◌++◌, drop}
use Rattle.tb_sexp.specs.Printing.{printed_bytes}
use Rattle.tb_sexp.proofs.printer.put_bytes.Given as goal

abbrev pub invariant-loop-b : goal.invariant-loop-b
invariant-loop-b l = l.out.items ++ printed_bytes (drop l.b-index l.bytes) ≡ l.initial.out.items ++ printed_bytes l.bytes
