use Rattle.std.proofs.Common.{◌≡◌, ℕ, List, Option, refl, subst, ◌∙◌, arith}
use Rattle.tb_mac.specs.Assembled.{Assembled}
use Rattle.tb_macm.specs.declared.step.Step.{Step}
use Rattle.tb_macm.specs.Steps.{Faults}
use Rattle.tb_sparc.specs.Grouped.{Grouped}
use Rattle.tb_sparc.specs.SparcStep.{Sparc}
use Rattle.tb_sparcm.specs.Steps.{StepDoes}
use Rattle.tb_sparcm.proofs.RunLaws.{run_made, run_stopped, running_start, running_step}
use Rattle.tb_sparcm.proofs.machine.SparcMachine.run.Goals as goal

-- a step of the same code
same_code : (c c' : Assembled) (g g' : Grouped) (old new : Sparc) (l l' h h' : Option (List ℕ)) (f f' : Faults) (r : Step) → c ≡ c' → g ≡ g' → StepDoes c g old new l l' h h' f f' r → StepDoes c' g' old new l l' h h' f f' r
same_code c c' g g' old new l l' h h' f f' r e q d =
    subst (λ x. StepDoes x g' old new l l' h h' f f' r) e (subst (λ x. StepDoes c x old new l l' h h' f f' r) q d)

pub returns-in-Stopped-clause-does : goal.returns-in-Stopped-clause-does
returns-in-Stopped-clause-does g c =
    let i = c.loop-made.invariant in
    let d = same_code _ _ _ _ _ _ _ _ _ _ _ _ (Step.Stopped c.in-Stopped.stop) i.code i.sparc c.in-Stopped.ensures.does in
    run_stopped c.args.self.now.code c.args.self.now.sparc c.args.self.now.state c.loop-made.self.state c.step.new.self.state c.loop-made._made c.args.steps _ _ _ _ _ _ _ _ _ c.in-Stopped.stop i.running c.loop-made-test.true i.later_input i.later_output d

pub loop-made-preserved : goal.loop-made-preserved
loop-made-preserved g c =
    let i = c.loop-made.invariant in
    let e = c.in-Went.ensures in
    let none : Faults = record { read = 0; write = 0 } in
    let d = same_code _ _ _ _ _ _ _ _ _ _ none none (Step.Went c.in-Went._event) i.code i.sparc e.does in
    record {
      running = running_step c.args.self.now.code c.args.self.now.sparc c.args.self.now.state c.loop-made.self.state c.step.new.self.state c.loop-made._made _ _ _ _ _ _ c.in-Went._event i.running d.0 d.1;
      code = e.code ∙ i.code;
      sparc = e.sparc ∙ i.sparc;
      later_input = omega (arith, i.later_input, e.later_input);
      later_output = omega (arith, i.later_output, e.later_output);
    }

pub loop-made-init : goal.loop-made-init
loop-made-init g c = record {
  running = running_start c.args.self.now.code c.args.self.now.sparc c.args.self.now.state (g.I.Source.left c.args.input.now) (g.O.Sink.held c.args.out.now);
  code = refl;
  sparc = refl;
  later_input = omega arith;
  later_output = omega arith;
}

pub returns-clause-does : goal.returns-clause-does
returns-clause-does g c =
    run_made c.args.self.now.code c.args.self.now.sparc c.args.self.now.state c.loop-made.self.state c.loop-made._made c.args.steps _ _ _ _ _ _ c.loop-made.invariant.running (omega arith)
