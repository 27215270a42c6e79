use Rattle.std.proofs.Common.{◌≡◌, ◌≤◌}
use Rattle.tb_sparcm.proofs.RunLaws.{Running}
use Rattle.tb_sparcm.proofs.machine.SparcMachine.run.Given as goal

abbrev pub invariant-loop-made : goal.invariant-loop-made
invariant-loop-made g l = record {
  running : Running l.initial.self.code l.initial.self.sparc l.initial.self.state l._made l.self.state (g.I.Source.left l.initial.input) (g.I.Source.left l.input) (g.O.Sink.held l.initial.out) (g.O.Sink.held l.out);
  code : l.self.code ≡ l.initial.self.code;
  sparc : l.self.sparc ≡ l.initial.self.sparc;
  later_input : g.I.Source.faults l.initial.input ≤ g.I.Source.faults l.input;
  later_output : g.O.Sink.faults l.initial.out ≤ g.O.Sink.faults l.out;
}
