use Rattle.std.proofs.Common.{length, List}
use Rattle.std.specs.Prelude.{Result}
use Rattle.tb_sexp.specs.declared.refusal.ReadRefusal.{ReadRefusal}
use Rattle.tb_sexp.specs.calls.Frames.{view_state}
use Rattle.tb_sexp.specs.calls.Scanning.{HasRoom}
use Rattle.tb_sexp.specs.Places.{text_start}
use Rattle.tb_sexp.specs.calls.Runs.{ReadsFrom, nothing}
use Rattle.tb_sexp.specs.Tree.{Tree}
use Rattle.tb_sexp.proofs.reader.read_tokens.Given as goal

abbrev pub invariant-loop-tokens : goal.invariant-loop-tokens
invariant-loop-tokens l = record {
  room : HasRoom l.place (length l.rest);
  reads : (r : Result (List Tree) ReadRefusal) → ReadsFrom (view_state l.state) l.place l.rest r → ReadsFrom nothing (text_start l.fn.library) l.text r;
}

abbrev pub decreases-loop-tokens : goal.decreases-loop-tokens
decreases-loop-tokens l = length l.rest
