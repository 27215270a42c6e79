use Rattle.std.proofs.Common.{sym, ◌∙◌, true}
use Rattle.tb_sexp.specs.View.{view}
use Rattle.tb_expand.proofs.Reading.{used, not_used, not_used_at}
use Rattle.tb_expand.proofs.expression.read_use.Goals as goal

pub returns-then-rest-from : goal.returns-then-rest-from
returns-then-rest-from c = used c.args.place (view c.args.first.now) c.args.rest.now c.args.prim (c.if-rest-from.true ∙ c.from.ensures ∙ c.arity.ensures)

pub returns-then-is_of_many : goal.returns-then-is_of_many
returns-then-is_of_many c =
    not_used c.args.place (view c.args.first.now) c.args.rest.now c.args.prim true
    (λ e. c.if-rest-from.false (e ∙ sym c.arity.ensures ∙ sym c.from.ensures)) (sym c.is_of_many.ensures ∙ c.if-is_of_many.true)

pub returns-else-is_of_many : goal.returns-else-is_of_many
returns-else-is_of_many c =
    not_used_at c.args.place c.args.first.now c.args.rest.now c.args.prim
    (λ e. c.if-rest-from.false (e ∙ sym c.arity.ensures ∙ sym c.from.ensures)) (sym c.is_of_many.ensures ∙ c.if-is_of_many.false)
