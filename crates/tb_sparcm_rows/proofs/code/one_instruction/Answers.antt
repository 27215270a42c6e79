use Rattle.std.proofs.Common.{◌≡◌, ℕ, List, [], ◌∷◌, refl, sym, subst, ◌∙◌, lit<, lit≤}
use Rattle.std.proofs.lemmas.List.Elements.{All-cons, All-nil}
use Rattle.tb_mac.specs.declared.code.Instr.{Instr}
use Rattle.tb_mac.specs.declared.code.Instr.TheVariants.{Args}
use Rattle.tb_mac.specs.declared.code.LambdaEntry.{LambdaEntry}
use Rattle.tb_mac.specs.declared.code.PlaceEntry.{PlaceEntry}
use Rattle.tb_mac.specs.Rules.{EntryOk, InstrOk, MapOk, KeepsRules}
use Rattle.tb_sparcm_rows.proofs.Parts.{same_rules}
use Rattle.tb_sparcm_rows.proofs.code.one_instruction.Goals as goal

abbrev code : List Instr
code = Args 0 ∷ []

no_entry : (n : ℕ) → EntryOk [] code n
no_entry n = tt

placed_at : (p : PlaceEntry) → p.instr ≡ 0 → p.instr ∷ [] ≡ 0 ∷ []
placed_at p e = cc

pub invariant_of-result : goal.invariant_of-result
invariant_of-result c =
    let parts = c.parts.result in
    let maps = c.no_map.result ∷ [] in
    let places = c.placed.result ∷ [] in
    let rules : KeepsRules parts code maps places = record {
      parts_ok = c.parts.ensures.rules;
      some = lit≤ tt;
      few = lit< tt;
      fields = All-cons (InstrOk parts 1) (Args 0) [] (lit≤ tt) (All-nil (InstrOk parts 1));
      mapped = refl;
      each_map = All-cons MapOk c.no_map.result [] c.no_map.ensures (All-nil MapOk);
      entries = λ n. subst (λ (ls : List LambdaEntry). EntryOk ls code n) (sym (c.parts.ensures.lambdas ∙ c.new.ensures.items)) (no_entry n);
      placed = placed_at c.placed.result c.placed.ensures;
    } in
    record { rules = ∣ same_rules parts _ _ _ _ _ _ (c.from_vec.ensures ∙ c.in_ok-code.ensures.items) (c.from_vec-2.ensures ∙ c.in_ok-maps.ensures.items) (c.from_vec-3.ensures ∙ c.in_ok-places.ensures.items) rules ∣₁ }
