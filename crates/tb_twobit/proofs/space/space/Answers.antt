use Rattle.std.proofs.Common.{subst, sym}
use Rattle.tb_mac.specs.Assembled.{Assembled}
use Rattle.tb_reporting.specs.Reports.{ReportDoes, StaysWalkable}
use Rattle.tb_twobit.specs.SpaceDoes.{asked_of, not_run}
use Rattle.tb_twobit.specs.Preparing.{not_ready}
use Rattle.tb_twobit.specs.Sinks.{sunk}
use Rattle.tb_twobit.specs.calls.Asked.{space_of}
use Rattle.tb_twobit.specs.calls.Running.{Finishes}
use Rattle.tb_twobit.proofs.CodeRuns.{space_runs, same_input}
use Rattle.tb_twobit.proofs.Parts.{gained_nothing}
use Rattle.tb_twobit.proofs.space.space.Goals as goal

pub returns-in-Err-clause-does : goal.returns-in-Err-clause-does
returns-in-Err-clause-does g c = not_run (not_ready c.in-Err.ensures.does (gained_nothing (g.O.Sink.held c.args.out.now)))

pub returns-clause-does : goal.returns-clause-does
returns-clause-does g c =
    let made = c.in-Ok.ensures.does in
    let p = made.program in
    let input = c.as_slice.result.now in
    let space = space_of c.args.run c.args.every in
    space_runs space _ input p
    (same_input _ _ _ input _ c.as_slice.ensures.value made.ready)
    (λ room. record {
      promised = c.runs_are_promised.ensures.law space.go p input made.has_code room;
      never_stuck = c.runs_are_promised.ensures.never_stuck space.go p input made.has_code room;
    })
    (c.loading_wants_little.ensures.law p input)
    c.report_run-ended.result c.finish.result
    (subst
    (λ (code : Assembled). ReportDoes code (asked_of space input)
    (sunk g.O.Sink.held g.O.Sink.faults c.args.out.now c.report_run-ended.new.out) c.report_run-ended.result)
    made.own_code c.report_run-ended.ensures.does)
    (subst (λ d. Finishes space.go.heap c.report_run-ended.result (sunk g.E.Sink.held g.E.Sink.faults d c.finish.new.diag) c.finish.result)
    c.in-Ok.ensures.silent c.finish.ensures.finishes)

pub report_run-ended-requires-clause-walkable : goal.report_run-ended-requires-clause-walkable
report_run-ended-requires-clause-walkable g c =
    let made = c.in-Ok.ensures.does in
    let space = space_of c.args.run c.args.every in
    subst (λ (code : Assembled). StaysWalkable code (asked_of space c.as_slice.result.now)) (sym made.own_code)
    (c.states_are_walkable.ensures.law made.program made.has_code space.go.heap c.as_slice.result.now)
