use Rattle.std.proofs.Common.{◌∙◌, ap, map}
use Rattle.tb_expand.specs.Numbers.{global_name}
use Rattle.tb_expand.specs.View.{text_of, view}
use Rattle.tb_expand.specs.calls.Numbering.{made_each, trees_each, view_tables}
use Rattle.tb_expand.proofs.Numbering.{program_numbered}
use Rattle.tb_expand.proofs.numbers.number.Goals as goal

pub returns : goal.returns
returns c =
    let t = view_tables c.in_ok-tables.tables in
    let es = map view c.args.nodes.now in
    program_numbered c.args.library c.in_ok-tables.tables c.number_each.new.state es c.in_ok-globals.globals c.from_vec.result c.from_vec-2.result c.in_ok-forms.forms
    c.in_ok-tables.ensures
    (c.in_ok-globals.ensures ∙ ap (λ names. map (global_name c.args.library) (map text_of names)) c.as_slice.ensures.keys)
    (c.in_ok-forms.ensures.state ∙ ap (λ m. made_each t m es) c.nothing_numbered-state.ensures)
    (c.in_ok-forms.ensures.trees ∙ ap (λ m. trees_each t m es) c.nothing_numbered-state.ensures)
    c.from_vec.ensures c.from_vec-2.ensures
