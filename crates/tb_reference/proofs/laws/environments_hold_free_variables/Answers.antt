use Rattle.std.proofs.Common.{◌≡◌, subst, ℕ, List}
use Rattle.tb_prim.specs.declared.event.Event.{Event}
use Rattle.tb_semantics.specs.Runs.{after}
use Rattle.tb_core.specs.OperandOrder.{order_of}
use Rattle.tb_core.specs.Reference.{Config, Running, reference}
use Rattle.tb_core.specs.Rules.{KeepsRules}
use Rattle.tb_core.specs.Tree.{ProgramTree}
use Rattle.tb_core.proofs.Kept.{After}
use Rattle.tb_core.proofs.NeverLost.{run-keeps}
use Rattle.tb_reference.proofs.Named.{ConfigIn, StateIn}
use Rattle.tb_reference.proofs.NamedLemmas.{exact-at, exact-in, exact-size}
use Rattle.tb_reference.proofs.NamedSteps.{named-at}
use Rattle.tb_reference.proofs.laws.environments_hold_free_variables.Goals as goal

-- what a state keeps from which the run goes on
module _ (p : ProgramTree) (input : List ℕ) (n : ℕ) (c : Config) (es : List Event) (k : KeepsRules p)
    (q : after (reference p (order_of p) input) n ≡ Running c es) where
  named : ConfigIn p c
  named = subst (StateIn p) q (named-at p k input n)

  kept : After p 0 (Running c es)
  kept = subst (After p 0) q (run-keeps p k input n)

pub returns : goal.returns
returns c = record {
  evaluated = λ p input n d es e r k q. let h = kept p input n d es k q in exact-at p d (named p input n d es k q) h.0 h.1 e r;
  kept = λ p input n d es l m r k q. let h = kept p input n d es k q in exact-in p d (named p input n d es k q) h.0 h.1 l m r;
  sizes = λ p input n d es l m r k q. let h = kept p input n d es k q in exact-size p d (named p input n d es k q) h.0 h.1 l m r;
}
