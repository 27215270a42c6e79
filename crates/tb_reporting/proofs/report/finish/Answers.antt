use Rattle.std.proofs.Common.{ℕ, subst}
use Rattle.tb_reporting.specs.Reports.{peak_of}
use Rattle.tb_reporting.specs.calls.Meters.{Finishes, cut, whole}
use Rattle.tb_reporting.proofs.report.finish.Goals as goal

pub returns-in-Ok-clause-does : goal.returns-in-Ok-clause-does
returns-in-Ok-clause-does g c =
    subst (λ (k : ℕ). Finishes (g.O.Sink.held c.args.out.now) (g.O.Sink.held c.put_peak.new.out) (g.O.Sink.faults c.args.out.now)
    (g.O.Sink.faults c.put_peak.new.out) (peak_of c.args.peak k) c.args.stop c.args.stop) c.space_bound.ensures (whole c.in-Ok.ensures.bytes)

pub returns-in-Err-clause-does : goal.returns-in-Err-clause-does
returns-in-Err-clause-does g c =
    subst (λ (k : ℕ). Finishes (g.O.Sink.held c.args.out.now) (g.O.Sink.held c.put_peak.new.out) (g.O.Sink.faults c.args.out.now)
    (g.O.Sink.faults c.put_peak.new.out) (peak_of c.args.peak k) c.args.stop _) c.space_bound.ensures
    (cut c.in-Err.ensures.bytes c.in-Err.ensures.cause.failed)
