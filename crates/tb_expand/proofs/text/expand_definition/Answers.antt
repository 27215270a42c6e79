use Rattle.tb_expand.specs.View.{data_of, view_definition, view_state}
use Rattle.tb_expand.proofs.TopForms as top
use Rattle.tb_expand.proofs.text.expand_definition.Goals as goal

pub returns-in-Ok : goal.returns-in-Ok
returns-in-Ok c =
    let q = rw c.in-Some.is at c.in_ok-definition.ensures in
    top.definition_gives (view_state c.args.state.now) (view_state c.expand_global.new.state) c.args.context c.args.place (data_of c.args.rest.now) (view_definition c.in-Some.definition) c.in-Some-plain_name.name.now c.args.out.now.items c.push.new.self.items c.in-Ok.node
    q c.in-Some-plain_name.ensures c.in-Ok.ensures c.in_ok-push-in-Ok.ensures.items

pub returns-in-Some-plain_name : goal.returns-in-Some-plain_name
returns-in-Some-plain_name c =
    let q = rw c.in-Some.is at c.in_ok-definition.ensures in
    top.global_refused (view_state c.args.state.now) c.args.context c.args.place (data_of c.args.rest.now) (view_definition c.in-Some.definition) c.in-Some-plain_name.name.now c.in-Err.refusal q c.in-Some-plain_name.ensures c.in-Err.ensures

pub returns-in-Some : goal.returns-in-Some
returns-in-Some c =
    let q = rw c.in-Some.is at c.in_ok-definition.ensures in
    top.integrated_refused (view_state c.args.state.now) c.args.context c.args.place (data_of c.args.rest.now) (view_definition c.in-Some.definition) q c.in-None-plain_name.ensures

pub returns : goal.returns
returns c =
    let q = rw c.in-None.is at c.in_ok-definition.ensures in
    top.shapeless_refused (view_state c.args.state.now) c.args.context c.args.place (data_of c.args.rest.now) q
