use Rattle.std.proofs.Common.{◌≡◌, ◌+◌, ◌++◌, map, drop}
use Rattle.tb_ir.specs.AnfPlain.{view_proc}
use Rattle.tb_ir.specs.Plain.{trees, view}
use Rattle.tb_anf.specs.NormalForm as normal
use Rattle.tb_anf.specs.NormalForm.{size_all}
use Rattle.tb_anf.specs.calls.Lines.{line_at}
use Rattle.tb_anf.proofs.normal.form_procs.Given as goal

abbrev pub invariant-loop-form : goal.invariant-loop-form
invariant-loop-form l = record {
  number : l.number + size_all (trees (map view (drop l.form-index l.forms))) ≡ l.initial.number + size_all (trees (map view l.forms));
  procs : map view_proc l.out.items ++ normal.form_procs (line_at l.walk) l.number (trees (map view (drop l.form-index l.forms)))
      ≡ normal.form_procs (line_at l.walk) l.initial.number (trees (map view l.forms));
}
