use Rattle.std.proofs.Common.{◌≡◌, ◌-◌, drop, length}
use Rattle.tb_sexp.specs.calls.Scanning.{HasRoom}
use Rattle.tb_sexp.specs.Places.{behind_all}
use Rattle.tb_sexp.proofs.scan.place_behind.Given as goal

abbrev pub invariant-loop-b : goal.invariant-loop-b
invariant-loop-b l = record {
  room : HasRoom l.now (length l.passed - l.b-index);
  behind : behind_all l.now (drop l.b-index l.passed) ≡ behind_all l.fn.place l.passed;
}
