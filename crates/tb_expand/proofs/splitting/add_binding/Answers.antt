use Rattle.std.proofs.Common.{ap, ◌∙◌, map, [], ◌∷◌}
use Rattle.std.proofs.lemmas.List.{map-append}
use Rattle.tb_expand.specs.View.{nodes, view, view_variable}
use Rattle.tb_expand.proofs.Forms.{nodes_pushed}
use Rattle.tb_expand.proofs.SplitLists.{same_bindings}
use Rattle.tb_expand.proofs.splitting.add_binding.Goals as goal

pub returns : goal.returns
returns c =
    same_bindings _ _ _ _ (ap (map view_variable) c.in_ok-push.ensures.items ∙ map-append view_variable c.args.bindings.now.variables.items (c.args.variable ∷ []))
    (ap (λ es. nodes (map view es)) c.in_ok-push-2.ensures.items ∙ nodes_pushed c.args.bindings.now.values.items c.args.value)
