use Rattle.std.proofs.Common.{sym, ap, ◌∙◌, arith, map, ◌-◌, take, inl, inr}
use Rattle.tb_expand.specs.Scopes.{binding}
use Rattle.tb_expand.specs.Names.{is_among}
use Rattle.tb_expand.specs.View.{view_name, view_scope, older}
use Rattle.tb_expand.proofs.Lookups.{found_here, found_outside, found_nowhere}
use Rattle.tb_expand.proofs.state.find_binding.Goals as goal
use Rattle.tb_expand.proofs.state.find_binding.Goals.{then-loop-number-test+else-number-limit, else-loop-number-test}

pub returns-then-is_among : goal.returns-then-is_among
returns-then-is_among c =
    let d = c.index-scopes-number.result in
    let e = ap (λ e. is_among (view_name c.args.name) (view_scope e).names) (sym c.index-scopes-number.is) ∙ ap (λ xs. is_among (view_name c.args.name) (map view_name xs)) (sym c.as_slice.ensures.value) ∙ sym c.if-is_among.ensures in
    sym (found_here c.args.scopes.now d c.loop-number.number (view_name c.args.name) c.loop-number.limit c.loop-number.invariant.within (omega arith) (omega arith) e)
    ∙ c.loop-number.invariant.same

pub loop-number-preserved : goal.loop-number-preserved
loop-number-preserved c =
    let d = c.index-scopes-number.result in
    let e = ap (λ e. is_among (view_name c.args.name) (view_scope e).names) (sym c.index-scopes-number.is) ∙ ap (λ xs. is_among (view_name c.args.name) (map view_name xs)) (sym c.as_slice.ensures.value) ∙ sym c.if-is_among.ensures in
    record {
      within = omega arith;
      same = ap (λ e. binding (older (take (c.loop-number.number - 1) c.args.scopes.now)) e.around (view_name c.args.name)) c.index-scopes-number.is ∙ sym (found_outside c.args.scopes.now d c.loop-number.number (view_name c.args.name) c.loop-number.limit c.loop-number.invariant.within (omega arith) (omega arith) e)
          ∙ c.loop-number.invariant.same;
    }

pub returns : goal.returns
returns c =
    elim c.loop-number-test.branch [
      | then-loop-number-test+else-number-limit w ↦ sym (found_nowhere c.args.scopes.now c.loop-number.number (view_name c.args.name) c.loop-number.limit c.loop-number.invariant.within (inr (omega arith))) ∙ c.loop-number.invariant.same
      | else-loop-number-test w ↦ sym (found_nowhere c.args.scopes.now c.loop-number.number (view_name c.args.name) c.loop-number.limit c.loop-number.invariant.within (inl (omega arith))) ∙ c.loop-number.invariant.same
    ]
