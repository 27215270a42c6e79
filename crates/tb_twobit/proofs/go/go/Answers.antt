use Rattle.std.proofs.Common.{subst}
use Rattle.tb_mac.specs.Assembled.{Assembled}
use Rattle.tb_running.specs.Runs.{CodeDoes}
use Rattle.tb_twobit.specs.GoDoes.{not_run}
use Rattle.tb_twobit.specs.Preparing.{not_ready}
use Rattle.tb_twobit.specs.Sinks.{sunk}
use Rattle.tb_twobit.specs.calls.Asked.{go_of}
use Rattle.tb_twobit.specs.calls.Running.{Finishes}
use Rattle.tb_twobit.proofs.CodeRuns.{go_runs, same_input}
use Rattle.tb_twobit.proofs.Parts.{gained_nothing}
use Rattle.tb_twobit.proofs.go.go.Goals as goal

pub returns-in-Err-clause-does : goal.returns-in-Err-clause-does
returns-in-Err-clause-does g c = not_run (not_ready c.in-Err.ensures.does (gained_nothing (g.O.Sink.held c.args.out.now)))

pub returns-clause-does : goal.returns-clause-does
returns-clause-does g c =
    let made = c.in-Ok.ensures.does in
    let p = made.program in
    let input = c.as_slice.result.now in
    let go = go_of c.args.run in
    go_runs go _ input p
    (same_input _ _ _ input _ c.as_slice.ensures.value made.ready)
    (λ room. record {
      promised = c.runs_are_promised.ensures.law go p input made.has_code room;
      never_stuck = c.runs_are_promised.ensures.never_stuck go p input made.has_code room;
    })
    (c.loading_wants_little.ensures.law p input)
    c.run_code-ended.result c.finish.result
    (subst
    (λ (code : Assembled). CodeDoes code (record { heap = go.heap; steps = go.steps; input = input })
    (sunk g.O.Sink.held g.O.Sink.faults c.args.out.now c.run_code-ended.new.out) c.run_code-ended.result)
    made.own_code c.run_code-ended.ensures.does)
    (subst (λ d. Finishes go.heap c.run_code-ended.result (sunk g.E.Sink.held g.E.Sink.faults d c.finish.new.diag) c.finish.result)
    c.in-Ok.ensures.silent c.finish.ensures.finishes)
