use Rattle.std.proofs.Common.{◌≡◌, ◌≤◌}
use Rattle.tb_macm.proofs.RunLaws.{Running}
use Rattle.tb_macm.proofs.machine.MacMachine.run.Given as goal

abbrev pub invariant-loop-made : goal.invariant-loop-made
invariant-loop-made g l = record {
  running : Running l.initial.self.code l.initial.self.mac l._made l.self.mac (g.I.Source.left l.initial.input) (g.I.Source.left l.input) (g.O.Sink.held l.initial.out) (g.O.Sink.held l.out);
  code : l.self.code ≡ l.initial.self.code;
  later_input : g.I.Source.faults l.initial.input ≤ g.I.Source.faults l.input;
  later_output : g.O.Sink.faults l.initial.out ≤ g.O.Sink.faults l.out;
}
