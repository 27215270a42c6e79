use Rattle.std.proofs.Common.{◌≡◌, sym, ap, ◌∙◌, ◌||◌, bytes_eq}
use Rattle.std.specs.List.{list_any}
use Rattle.tb_expand.specs.Outside.{is_one_of, library_names, left_out_names}
use Rattle.tb_expand.proofs.outside.is_reserved.Goals as goal

pub returns-then-is_known : goal.returns-then-is_known
unfolding is_one_of library_names left_out_names
returns-then-is_known c =
    let e : c.is_known.result ≡ list_any (bytes_eq c.args.name.now) library_names = c.is_known.ensures in
    c.if-is_known.true ∙ ap (λ v. v || list_any (bytes_eq c.args.name.now) left_out_names) (sym (sym e ∙ c.if-is_known.true))

pub returns-else-is_known : goal.returns-else-is_known
unfolding is_one_of library_names left_out_names
returns-else-is_known c =
    let e : c.is_known.result ≡ list_any (bytes_eq c.args.name.now) library_names = c.is_known.ensures in
    let f : c.is_known-else-is_known.result ≡ list_any (bytes_eq c.args.name.now) left_out_names = c.is_known-else-is_known.ensures in
    f ∙ ap (λ v. v || list_any (bytes_eq c.args.name.now) left_out_names) (sym (sym e ∙ c.if-is_known.false))
