use Rattle.std.proofs.Common.{◌≡◌, ◌+◌, ◌++◌, drop, filter, map}
use Rattle.tb_ir.specs.AnfPlain.{view_proc}
use Rattle.tb_ir.specs.AnfRules.{is_form}
use Rattle.tb_codegen.specs.Generate.{labels_within}
use Rattle.tb_generate.specs.calls.Entries.{forms_items}
use Rattle.tb_generate.specs.calls.Programs.{body_for}
use Rattle.tb_generate.proofs.program.put_forms.Given as goal

abbrev pub invariant-loop-proc : goal.invariant-loop-proc
invariant-loop-proc l = record {
  label : l.label + labels_within (filter is_form (map view_proc (drop l.proc-index l.procs)))
      ≡ l.initial.label + labels_within (filter is_form (map view_proc l.procs));
  items : l.code.items.items ++ forms_items (body_for l.source) (filter is_form (map view_proc (drop l.proc-index l.procs))) l.label
      ≡ l.initial.code.items.items ++ forms_items (body_for l.source) (filter is_form (map view_proc l.procs)) l.initial.label;
}
