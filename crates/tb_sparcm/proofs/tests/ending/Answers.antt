use Rattle.std.proofs.Common.{◌≡◌, ℕ, List, [], ◌∷◌, refl, sym, subst, ◌∙◌, lit<, lit≤}
use Rattle.std.proofs.lemmas.List.Elements.{All-cons, All-nil}
use Rattle.tb_mac.specs.declared.code.Instr.{Instr}
use Rattle.tb_mac.specs.declared.code.Instr.TheVariants.{End}
use Rattle.tb_mac.specs.declared.code.LambdaEntry.{LambdaEntry}
use Rattle.tb_mac.specs.declared.code.LiveMap.{LiveMap}
use Rattle.tb_mac.specs.declared.code.PlaceEntry.{PlaceEntry}
use Rattle.tb_mac.specs.declared.code.Parts.{Parts}
use Rattle.tb_mac.specs.Rules.{EntryOk, InstrOk, MapOk, KeepsRules}
use Rattle.tb_sparcm.proofs.tests.ending.Goals as goal

abbrev code : List Instr
code = End ∷ []

no_entry : (n : ℕ) → EntryOk [] code n
no_entry n = tt

same_rules : (parts : Parts) (is is' : List Instr) (ms ms' : List LiveMap) (ps ps' : List PlaceEntry) → is ≡ is' → ms ≡ ms' → ps ≡ ps' → KeepsRules parts is' ms' ps' → KeepsRules parts is ms ps
same_rules parts is is' ms ms' ps ps' e f g k =
    subst (λ v. KeepsRules parts v ms ps) (sym e) (subst (λ v. KeepsRules parts is' v ps) (sym f) (subst (λ v. KeepsRules parts is' ms' v) (sym g) k))

pub invariant_of-result : goal.invariant_of-result
invariant_of-result c =
    let parts = c.no_parts.result in
    let maps = c.no_map.result ∷ [] in
    let rules : KeepsRules parts code maps [] = record {
      parts_ok = c.no_parts.ensures.rules;
      some = lit≤ tt;
      few = lit< tt;
      fields = All-cons (InstrOk parts 1) End [] tt (All-nil (InstrOk parts 1));
      mapped = refl;
      each_map = All-cons MapOk c.no_map.result [] c.no_map.ensures (All-nil MapOk);
      entries = λ n. subst (λ (ls : List LambdaEntry). EntryOk ls code n) (sym c.no_parts.ensures.lambdas) (no_entry n);
      placed = refl;
    } in
    record { rules = ∣ same_rules parts _ _ _ _ _ _ (c.from_vec.ensures ∙ c.in_ok-code.ensures.items) (c.from_vec-2.ensures ∙ c.in_ok-maps.ensures.items) (c.from_vec-3.ensures ∙ c.new.ensures.items) rules ∣₁ }
