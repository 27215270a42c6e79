use Rattle.std.proofs.Common.{⊎_elim, arith}
use Rattle.std.proofs.lemmas.Bool.{cases_Bool}
use Rattle.tb_semantics.specs.Runs.{after}
use Rattle.tb_mac.specs.FramedRuns.{framed_full, framed_machine}
use Rattle.tb_passes.specs.Passes.{program_code}
use Rattle.tb_bounds.proofs.laws.large_memory_is_never_full.Goals as goal

pub returns : goal.returns
returns c = record {
  law = λ p ok heap input large n.
      ⊎_elim
      (λ e.
      let f = c.full_only_when_small.ensures.law p ok heap input n e in
      let enough = large f.0 f.1 in let small = f.4 in
      absurd (omega (arith, enough, small)))
      (λ e. e)
      (cases_Bool (framed_full (after (framed_machine (program_code p) heap input) n)));
}
