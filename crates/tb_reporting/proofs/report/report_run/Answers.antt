use Rattle.std.proofs.Common.{◌≡◌, ℕ, ◌+◌, List, Option, None, Some, ap, sym, subst, ◌∙◌, inl, inr, arith}
use Rattle.std.specs.Prelude.{Ok, Err}
use Rattle.tb_prim.specs.declared.event.Event.{Event}
use Rattle.tb_prim.specs.declared.event.Stop.{Stop}
use Rattle.tb_mac.specs.Assembled.{Assembled}
use Rattle.tb_mac.specs.CodeOf.{code_of}
use Rattle.tb_mac.specs.MacEvents.{mac_start}
use Rattle.tb_mac.specs.MacStep.{Mac, Stops, fetched}
use Rattle.tb_macm.specs.Loaded.{Loaded}
use Rattle.tb_macm.specs.declared.step.Step.{Step}
use Rattle.tb_macm.specs.Steps.{Made, StepDoes, faults}
use Rattle.tb_reporting.specs.Reports.{Asked}
use Rattle.tb_reporting.specs.calls.Meters.{Counts, measured}
use Rattle.tb_reporting.proofs.Lengths.{step-long}
use Rattle.tb_reporting.proofs.UnderWay.{UnderWay, Walked, way-counted, way-start}
use Rattle.tb_reporting.proofs.Endings.{line-cut, report-made, report-stopped}
use Rattle.tb_reporting.proofs.report.report_run.Goals as goal

-- a step of the same code
made : (c c' : Assembled) (old new : Mac) (left left' : Option (List ℕ)) (e : Option Event) → c ≡ c' →
    Made (fetched c old) old new left left' e → Made (fetched c' old) old new left left' e
made c c' old new left left' e p m = subst (λ x. Made (fetched x old) old new left left' e) p m

-- a stop is the definition's, since neither the source nor the sink has faults
stop-is : (c c' : Assembled) (old new : Mac) (left left' : Option (List ℕ)) (s : Stop) → c ≡ c' →
    StepDoes (fetched c old) old new left left' None None (faults 0 0) (faults 0 0) (Step.Stopped s) → fetched c' old ≡ Stops s
stop-is c c' old new left left' s p d = elim d.0 [
  | inl e ↦ subst (λ x. fetched x old ≡ Stops s) p e
  | inr (inl r) ↦ absurd (omega (arith, r.rose))
  | inr (inr r) ↦ absurd (omega (arith, r.rose))
]

-- what is known at each view of the machine, of the same code and the same number
counts-of : (c c' : Assembled) (mac : Mac) (every every' : ℕ) (P : ℕ → ℕ → Type 0) → c ≡ c' → every ≡ every' →
    Walked c mac (P every) → Walked c' mac (P every')
counts-of c c' mac every every' P p q h = subst (λ k. Walked c' mac (P k)) q (subst (λ x. Walked x mac (P every)) p h)

pub loop-made-init : goal.loop-made-init
loop-made-init g c =
    let loaded = c.in_ok-machine.ensures in
    let code = code_of c.args.code.now in
    let a : Asked = record { heap = c.args.heap_words; steps = c.args.steps; every = c.args.every; input = c.args.input.now } in
    let held = g.O.Sink.held c.args.out.now in
    let first = c.new-meter.ensures in
    record {
      way = rw first (subst (λ (m : Loaded). UnderWay code a 0 m.mac c.new-source.result 0 0 held held) (sym loaded.1)
          (subst (λ (bs : List ℕ). UnderWay code a 0 (mac_start code c.args.heap_words) bs 0 0 held held) (sym c.new-source.ensures)
          (way-start code a held loaded.0)));
      code = ap (λ (m : Loaded). m.code) loaded.1;
      walk = rw first c.in_ok-new.ensures;
      every = rw first;
      later = omega arith;
    }

pub count-requires-clause-size : goal.count-requires-clause-size
count-requires-clause-size g c =
    let i = c.loop-made.invariant in
    let m = made c.loop-made.machine.code (code_of c.args.code.now) c.loop-made.machine.mac c.step.new.self.mac
    (Some c.loop-made.source) (Some c.step.new.input) c.in-Went.event i.code (c.in-Went.ensures.does).0 in
    i.walk ∙ sym (step-long (code_of c.args.code.now) c.loop-made.machine.mac c.step.new.self.mac m.input m.rest c.in-Went.event m.step ∙ i.way.long)

pub returns-in-Err-clause-does : goal.returns-in-Err-clause-does
returns-in-Err-clause-does g c =
    let i = c.loop-made.invariant in
    let fits = (c.in_ok-machine.ensures).0 in
    let code = code_of c.args.code.now in
    let a : Asked = record { heap = c.args.heap_words; steps = c.args.steps; every = c.args.every; input = c.args.input.now } in
    let b = c.loop-made.meter in
    let e = c.in-Went.event in
    let mid = g.O.Sink.held c.loop-made.out in
    let last = g.O.Sink.held c.count.new.out in
    let m = made c.loop-made.machine.code code c.loop-made.machine.mac c.step.new.self.mac
    (Some c.loop-made.source) (Some c.step.new.input) e i.code (c.in-Went.ensures.does).0 in
    let counts = counts-of c.step.new.self.code code c.step.new.self.mac b.every a.every
    (λ k words. Counts (measured e k b.events words) b.peak c.count.new.self.peak mid last (Err c.in-Err._failed))
    (c.in-Went.ensures.code ∙ i.code) i.every c.in-Err.ensures.does in (
      fits,
      line-cut code a c.loop-made._made c.loop-made.machine.mac c.step.new.self.mac c.loop-made.source c.step.new.input
          b.events b.peak c.count.new.self.peak (g.O.Sink.held c.args.out.now) mid last e c.in-Err._failed
          (g.O.Sink.faults c.args.out.now) (g.O.Sink.faults c.loop-made.out) (g.O.Sink.faults c.count.new.out)
          i.way m fits c.requires.walkable c.loop-made-test.true counts i.later c.in-Err.ensures.cause.failed,
    )

pub returns-in-Stopped-clause-does : goal.returns-in-Stopped-clause-does
returns-in-Stopped-clause-does g c =
    let i = c.loop-made.invariant in
    let code = code_of c.args.code.now in
    let a : Asked = record { heap = c.args.heap_words; steps = c.args.steps; every = c.args.every; input = c.args.input.now } in
    let stops = stop-is c.loop-made.machine.code code c.loop-made.machine.mac c.step.new.self.mac (Some c.loop-made.source)
    (Some c.step.new.input) c.in-Stopped.stop i.code c.in-Stopped.ensures.does in (
      (c.in_ok-machine.ensures).0,
      report-stopped code a c.loop-made._made c.loop-made.machine.mac c.loop-made.source c.loop-made.meter.events
          c.loop-made.meter.peak (g.O.Sink.held c.args.out.now) (g.O.Sink.held c.loop-made.out) (g.O.Sink.held c.finish.new.out)
          (g.O.Sink.faults c.args.out.now) (g.O.Sink.faults c.loop-made.out) (g.O.Sink.faults c.finish.new.out) c.in-Stopped.stop c.finish.result
          i.way c.loop-made-test.true stops i.later c.finish.ensures.does,
    )

pub loop-made-preserved : goal.loop-made-preserved
loop-made-preserved g c =
    let i = c.loop-made.invariant in
    let code = code_of c.args.code.now in
    let a : Asked = record { heap = c.args.heap_words; steps = c.args.steps; every = c.args.every; input = c.args.input.now } in
    let b = c.loop-made.meter in
    let e = c.in-Went.event in
    let held = g.O.Sink.held c.args.out.now in
    let mid = g.O.Sink.held c.loop-made.out in
    let last = g.O.Sink.held c.count.new.out in
    let k = c.in-Ok.ensures in
    let m = made c.loop-made.machine.code code c.loop-made.machine.mac c.step.new.self.mac
    (Some c.loop-made.source) (Some c.step.new.input) e i.code (c.in-Went.ensures.does).0 in
    let counts = counts-of c.step.new.self.code code c.step.new.self.mac b.every a.every
    (λ k words. Counts (measured e k b.events words) b.peak c.count.new.self.peak mid last (Ok tt))
    (c.in-Went.ensures.code ∙ i.code) i.every k.does in
    record {
      way = subst (λ n. UnderWay code a (c.loop-made._made + 1) c.step.new.self.mac c.step.new.input n c.count.new.self.peak held last)
          (sym k.events)
          (way-counted code a c.loop-made._made c.loop-made.machine.mac c.step.new.self.mac c.loop-made.source c.step.new.input
          b.events b.peak c.count.new.self.peak held mid last e i.way m (c.in_ok-machine.ensures).0 c.requires.walkable counts);
      code = c.in-Went.ensures.code ∙ i.code;
      walk = k.walk ∙ i.walk;
      every = k.every ∙ i.every;
      later = omega (arith, i.later, k.cause.later);
    }

pub returns-clause-does : goal.returns-clause-does
returns-clause-does g c =
    let i = c.loop-made.invariant in
    let a : Asked = record { heap = c.args.heap_words; steps = c.args.steps; every = c.args.every; input = c.args.input.now } in (
      (c.in_ok-machine.ensures).0,
      report-made (code_of c.args.code.now) a c.loop-made._made c.loop-made.machine.mac c.loop-made.source
          c.loop-made.meter.events c.loop-made.meter.peak (g.O.Sink.held c.args.out.now) (g.O.Sink.held c.loop-made.out)
          (g.O.Sink.held c.finish-2.new.out) (g.O.Sink.faults c.args.out.now) (g.O.Sink.faults c.loop-made.out)
          (g.O.Sink.faults c.finish-2.new.out) c.finish-2.result i.way (omega arith) i.later c.finish-2.ensures.does,
    )
