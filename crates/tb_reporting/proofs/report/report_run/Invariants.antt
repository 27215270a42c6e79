use Rattle.std.proofs.Common.{◌≡◌, ◌≤◌}
use Rattle.tb_mac.specs.CodeOf.{code_of}
use Rattle.tb_reporting.proofs.UnderWay.{UnderWay}
use Rattle.tb_reporting.proofs.report.report_run.Given as goal

abbrev pub invariant-loop-made : goal.invariant-loop-made
invariant-loop-made g l = record {
  way : UnderWay (code_of l.code) (record { heap = l.heap_words; steps = l.steps; every = l.every; input = l.fn.input }) l._made
      l.machine.mac l.source l.meter.events l.meter.peak (g.O.Sink.held l.initial.out) (g.O.Sink.held l.out);
  code : l.machine.code ≡ code_of l.code;
  walk : l.meter.walk ≡ l.heap_words;
  every : l.meter.every ≡ l.every;
  later : g.O.Sink.faults l.initial.out ≤ g.O.Sink.faults l.out;
}
