use Rattle.std.proofs.Common.{◌≡◌, List, ◌++◌, map, length, refl, sym, ap, subst, ◌∙◌}
use Rattle.std.specs.Prelude.{All}
use Rattle.tb_mac.specs.declared.code.Instr.{Instr}
use Rattle.tb_mac.specs.declared.code.LambdaEntry.{LambdaEntry}
use Rattle.tb_mac.specs.declared.code.PlaceEntry.{PlaceEntry}
use Rattle.tb_mac.specs.Rules.{EntryOk, MapOk, KeepsRules}
use Rattle.tb_macm_rows.proofs.code.code_of.Goals as goal

pub invariant_of-result : goal.invariant_of-result
invariant_of-result c =
    let code = c.args.code.now in
    let parts = c.in_ok-parts.parts in
    let maps = c.from_vec-2.result in
    let places = c.from_vec-3.result in
    let same : c.from_vec.result ≡ code = c.from_vec.ensures ∙ c.in_ok-extend_from_slice.ensures.items ∙ ap (λ v. v ++ code) c.new-row.ensures.items in
    let rules : KeepsRules parts code maps places = record {
      parts_ok = c.in_ok-parts.ensures.rules;
      some = c.if-code-lt1.false;
      few = c.if-code-ge16777216.false;
      fields = c.if-not-fields_ok.ensures refl;
      mapped = ap length c.from_vec-2.ensures ∙ c.in_ok-maps.ensures.count;
      each_map = subst (All MapOk) (sym c.from_vec-2.ensures) c.in_ok-maps.ensures.each;
      entries = λ n. subst (λ (ls : List LambdaEntry). EntryOk ls code n) (sym c.in_ok-parts.ensures.lambdas) (c.in_ok-lambdas_of.ensures.entries n);
      placed = ap (map (λ (e : PlaceEntry). e.instr)) c.from_vec-3.ensures ∙ c.in_ok-places.ensures;
    } in
    record { rules = ∣ subst (λ (is : List Instr). KeepsRules parts is maps places) (sym same) rules ∣₁ }
