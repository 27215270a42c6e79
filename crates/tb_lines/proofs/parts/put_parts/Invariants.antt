use Rattle.std.proofs.Common.{◌≡◌, ◌≤◌, ◌++◌, Some, take, map}
use Rattle.std.specs.Prelude.{IfSome}
use Rattle.tb_lines.specs.Lines.{joined}
use Rattle.tb_lines.proofs.parts.put_parts.Given as goal

abbrev pub invariant-loop-part : goal.invariant-loop-part
invariant-loop-part g l = record {
  put : IfSome (g.O.Sink.held l.initial.out) (λ held. g.O.Sink.held l.out ≡ Some (held ++ joined (map (λ part. part.now) (take l.part-index l.parts))));
  later : g.O.Sink.faults l.initial.out ≤ g.O.Sink.faults l.out;
}
