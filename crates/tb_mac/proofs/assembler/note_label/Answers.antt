use Rattle.std.proofs.Common.{◌≡◌, refl, sym, ◌∙◌, nat_eq}
use Rattle.indexmap.proofs.CallerLemmas.{insert_entry-new}
use Rattle.tb_mac.proofs.LabelLemmas.{found-in, in-found}
use Rattle.tb_mac.proofs.assembler.note_label.Goals as goal

pub returns-in-Ok-None-clause-noted : goal.returns-in-Ok-None-clause-noted
returns-in-Ok-None-clause-noted c =
    c.in-Ok-None.ensures.entries ∙ insert_entry-new nat_eq c.args.labels.now c.args.label c.args.number
    (sym c.in-Ok-None.ensures.old ∙ c.in-Ok-None.field-0-is)

pub returns-in-Ok-None-clause-absent : goal.returns-in-Ok-None-clause-absent
returns-in-Ok-None-clause-absent c = λ i.
    in-found c.args.labels.now.entries c.args.label i (sym c.in-Ok-None.ensures.old ∙ c.in-Ok-None.field-0-is)

pub returns-in-Ok-Some-clause-twice : goal.returns-in-Ok-Some-clause-twice
returns-in-Ok-Some-clause-twice c =
    (refl, found-in c.args.labels.now.entries c.args.label _ (sym c.in-Ok-Some.ensures.old ∙ c.in-Ok-Some.field-0-is))
