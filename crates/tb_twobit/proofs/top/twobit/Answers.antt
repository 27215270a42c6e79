use Rattle.std.proofs.Common.{◌≡◌, ◌∙◌, ap, sym, subst, Some, None}
use Rattle.tb_twobit.specs.Complete.{ComesToEnd}
use Rattle.tb_twobit.specs.Preparing.{Outside}
use Rattle.tb_twobit.specs.Sinks.{sunk}
use Rattle.tb_twobit.specs.Words.{Go, GoMac}
use Rattle.tb_twobit.specs.declared.words.Asked.{Asked}
use Rattle.tb_twobit.specs.calls.Asked.{command, go_of}
use Rattle.tb_twobit.specs.Statuses.{number}
use Rattle.tb_twobit.proofs.GoParts.{go_is_not_usage, space_is_not_usage}
use Rattle.tb_twobit.proofs.top.twobit.Goals as goal

some_none : {A : Type 0} {a : A} → Some a ≡ None → ⊥
some_none h = cc

same_go : {a b : Go} → Some (GoMac a) ≡ Some (GoMac b) → a ≡ b
same_go h = cc

pub returns-in-Some-Go-clause-usage : goal.returns-in-Some-Go-clause-usage
returns-in-Some-Go-clause-usage g c = (
  λ e. absurd (go_is_not_usage _ _ (number c.go.result) c.go.ensures.does (sym c.number.ensures ∙ e)),
  λ none. absurd (some_none (c.in-Some-Go.ensures ∙ none)),
)

pub returns-in-Some-Go-clause-complete : goal.returns-in-Some-Go-clause-complete
returns-in-Some-Go-clause-complete g c go e =
    let h : Some (GoMac (go_of c.in-Some-Go.run')) ≡ Some (GoMac go) =
    ap (λ (a : Asked). Some (command a)) (sym c.in-Some-Go.field-0-is) ∙ c.in-Some-Go.ensures ∙ e in
    let outside : Go → Outside = λ k. record {
      given = record {
        files = g.S.Store.files c.args.store.now;
        loads = g.S.Store.load_faults c.args.store.now k.source;
        loads_now = g.S.Store.load_faults c.go.new.store k.source;
        input = g.I.Source.left c.args.input.now;
        reads = g.I.Source.faults c.args.input.now;
        reads_now = g.I.Source.faults c.go.new.input;
      };
      out = sunk g.O.Sink.held g.O.Sink.faults c.args.out.now c.go.new.out;
      diag = sunk g.E.Sink.held g.E.Sink.faults c.args.diag.now c.go.new.diag;
    } in
    subst (λ k. ComesToEnd k (outside k) c.number.result) (same_go h)
    (subst (ComesToEnd (go_of c.in-Some-Go.run') (outside (go_of c.in-Some-Go.run'))) (sym c.number.ensures)
    (c.enough_comes_to_the_end.ensures.law _ _ (number c.go.result) c.go.ensures.does))

pub returns-in-Some-Go-clause-nothing_put : goal.returns-in-Some-Go-clause-nothing_put
returns-in-Some-Go-clause-nothing_put g c e = absurd (go_is_not_usage _ _ (number c.go.result) c.go.ensures.does (sym c.number.ensures ∙ e))

pub returns-in-Some-Go-clause-nothing_said : goal.returns-in-Some-Go-clause-nothing_said
returns-in-Some-Go-clause-nothing_said g c e = absurd (go_is_not_usage _ _ (number c.go.result) c.go.ensures.does (sym c.number.ensures ∙ e))

pub returns-in-Some-Go-clause-nothing_loaded : goal.returns-in-Some-Go-clause-nothing_loaded
returns-in-Some-Go-clause-nothing_loaded g c e = absurd (go_is_not_usage _ _ (number c.go.result) c.go.ensures.does (sym c.number.ensures ∙ e))

pub returns-in-Some-Go-clause-nothing_read : goal.returns-in-Some-Go-clause-nothing_read
returns-in-Some-Go-clause-nothing_read g c e = absurd (go_is_not_usage _ _ (number c.go.result) c.go.ensures.does (sym c.number.ensures ∙ e))

pub returns-in-Some-Space-clause-usage : goal.returns-in-Some-Space-clause-usage
returns-in-Some-Space-clause-usage g c = (
  λ e. absurd (space_is_not_usage _ _ (number c.space.result) c.space.ensures.does (sym c.number-in-Some-Space.ensures ∙ e)),
  λ none. absurd (some_none (c.in-Some-Space.ensures ∙ none)),
)

pub returns-in-Some-Space-clause-nothing_put : goal.returns-in-Some-Space-clause-nothing_put
returns-in-Some-Space-clause-nothing_put g c e = absurd (space_is_not_usage _ _ (number c.space.result) c.space.ensures.does (sym c.number-in-Some-Space.ensures ∙ e))

pub returns-in-Some-Space-clause-nothing_said : goal.returns-in-Some-Space-clause-nothing_said
returns-in-Some-Space-clause-nothing_said g c e = absurd (space_is_not_usage _ _ (number c.space.result) c.space.ensures.does (sym c.number-in-Some-Space.ensures ∙ e))

pub returns-in-Some-Space-clause-nothing_loaded : goal.returns-in-Some-Space-clause-nothing_loaded
returns-in-Some-Space-clause-nothing_loaded g c e = absurd (space_is_not_usage _ _ (number c.space.result) c.space.ensures.does (sym c.number-in-Some-Space.ensures ∙ e))

pub returns-in-Some-Space-clause-nothing_read : goal.returns-in-Some-Space-clause-nothing_read
returns-in-Some-Space-clause-nothing_read g c e = absurd (space_is_not_usage _ _ (number c.space.result) c.space.ensures.does (sym c.number-in-Some-Space.ensures ∙ e))
