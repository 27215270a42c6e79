use Rattle.std.proofs.Common.{sym, ap, ◌∙◌, map, ◌∷◌}
use Rattle.tb_expand.specs.Trees.{joined}
use Rattle.tb_expand.specs.View.{nodes, view, view_variable}
use Rattle.tb_expand.specs.calls.Splitting.{assignments}
use Rattle.tb_expand.proofs.Forms.{joined_none}
use Rattle.tb_expand.proofs.SplitLists.{assignment_joined, no_assignments}
use Rattle.tb_expand.proofs.splitting.add_assignments.Goals as goal

pub loop-variable-preserved : goal.loop-variable-preserved
loop-variable-preserved c =
    let p = c.args.place in
    let out = nodes (map view c.loop-variable.out.items) in
    ap (λ xs. joined (nodes (map view xs)) (assignments p (map view_variable c.pop.new.self) (nodes (map view c.pop-in-Some.new.self)))) c.in_ok-push-in-Some-pop.ensures.items
    ∙ assignment_joined p c.loop-variable.out.items c.in_ok-make_assignment-in-Some-pop.field-0 c.in-Some.variable c.in-Some-pop.value c.pop.new.self c.pop-in-Some.new.self c.in_ok-make_assignment-in-Some-pop.ensures
    ∙ ap (λ xs. joined out (assignments p (map view_variable xs) (nodes (map view (c.in-Some-pop.value ∷ c.pop-in-Some.new.self))))) (sym c.in-Some.ensures)
    ∙ ap (λ vs. joined out (assignments p (map view_variable c.loop-variable.left) (nodes (map view vs)))) (sym c.in-Some-pop.ensures) ∙ c.loop-variable.invariant

pub returns-in-None : goal.returns-in-None
returns-in-None c =
    let p = c.args.place in
    let out = nodes (map view c.loop-variable.out.items) in
    sym (joined_none out) ∙ ap (joined out) (sym (no_assignments p (map view_variable c.loop-variable.left) _ (ap (λ vs. nodes (map view vs)) c.in-None.ensures.0))) ∙ c.loop-variable.invariant
    ∙ ap (λ xs. joined (nodes (map view c.args.out.now.items)) (assignments p (map view_variable xs) (nodes (map view c.of-parts.result)))) c.of-left.ensures
    ∙ ap (λ vs. joined (nodes (map view c.args.out.now.items)) (assignments p (map view_variable c.args.bindings.variables.items) (nodes (map view vs)))) c.of-parts.ensures

pub returns : goal.returns
returns c =
    let p = c.args.place in
    let out = nodes (map view c.loop-variable.out.items) in
    sym (joined_none out) ∙ ap (λ xs. joined out (assignments p (map view_variable xs) (nodes (map view c.loop-variable.parts)))) (sym c.in_default.ensures.0) ∙ c.loop-variable.invariant
    ∙ ap (λ xs. joined (nodes (map view c.args.out.now.items)) (assignments p (map view_variable xs) (nodes (map view c.of-parts.result)))) c.of-left.ensures
    ∙ ap (λ vs. joined (nodes (map view c.args.out.now.items)) (assignments p (map view_variable c.args.bindings.variables.items) (nodes (map view vs)))) c.of-parts.ensures
