use Rattle.std.proofs.Common.{◌≡◌, map, sym, ap, ◌∙◌}
use Rattle.std.specs.Prelude.{reverse}
use Rattle.std.proofs.lemmas.List.{reverse-reverse}
use Rattle.std.proofs.lemmas.Result.{IfOk-weaker}
use Rattle.tb_sexp.specs.ListShapes.{dotted, front_of}
use Rattle.tb_sexp.specs.calls.Tails.{ended, view_tail}
use Rattle.tb_sexp.specs.Tree.{At}
use Rattle.tb_sexp.specs.View.{trees, view}
use Rattle.tb_sexp.proofs.Rows.{dotted-list}
use Rattle.tb_sexp.proofs.tails.dotted_list.Goals as goal

pub returns-in-List : goal.returns-in-List
returns-in-List c =
    let front = map view c.args.front.items in
    let more = c.in-List.more in
    let end = c.in-List.end in
    let turned : reverse c.reverse.new.self.items ≡ more = ap reverse (c.reverse.ensures.items ∙ ap reverse c.into_vec-back.ensures) ∙ reverse-reverse more in
    IfOk-weaker c.joined-in-List.result _ _ (λ all h. h ∙ ap (At c.args.place) (
    ap (λ ds. ended (front_of front (trees (map view ds))) end) turned
    ∙ sym (dotted-list front c.in-Whole.field-0 more end c.in-List.is)
    ∙ sym (ap (λ t. dotted front (view_tail t)) c.in-Whole.is))) c.joined-in-List.ensures
