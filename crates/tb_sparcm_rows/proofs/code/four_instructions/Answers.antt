use Rattle.std.proofs.Common.{◌≡◌, ℕ, zero, suc, List, [], ◌∷◌, refl, sym, subst, ◌∙◌, lit<, lit≤}
use Rattle.std.specs.Prelude.{All, ◌<◌, length, slice_get, Some}
use Rattle.std.proofs.lemmas.List.Elements.{All-cons, All-nil}
use Rattle.tb_mac.specs.declared.code.Instr.{Instr}
use Rattle.tb_mac.specs.declared.code.Instr.TheVariants.{Proc, Args, Return, End}
use Rattle.tb_mac.specs.declared.code.LambdaEntry.{LambdaEntry}
use Rattle.tb_mac.specs.declared.code.LiveMap.{LiveMap}
use Rattle.tb_mac.specs.declared.code.Parts.{Parts}
use Rattle.tb_mac.specs.declared.code.PlaceEntry.{PlaceEntry}
use Rattle.tb_mac.specs.Rules.{EntryOk, InstrOk, MapOk, KeepsRules}
use Rattle.tb_sparcm_rows.proofs.Parts.{same_rules}
use Rattle.tb_sparcm_rows.proofs.code.four_instructions.Goals as goal

abbrev code : List Instr
code = Proc 0 ∷ Args 0 ∷ Return ∷ End ∷ []

-- one lambda, which begins at the first instruction
entry_of : (l : LambdaEntry) → l.entry ≡ 0 → (n : ℕ) → EntryOk (l ∷ []) code n
entry_of l e zero = subst (λ (at : ℕ). slice_get code at ≡ Some (Proc 0)) (sym e) refl
entry_of l e (suc n) = tt

fields : (parts : Parts) (ls : List LambdaEntry) → parts.lambdas ≡ ls → 0 < length ls → All (InstrOk parts 4) code
fields parts ls e some =
    let first : InstrOk parts 4 (Proc 0) = subst (λ (v : List LambdaEntry). 0 < length v) (sym e) some in
    let second : InstrOk parts 4 (Args 0) = lit≤ tt in
    All-cons (InstrOk parts 4) (Proc 0) (Args 0 ∷ Return ∷ End ∷ []) first (All-cons (InstrOk parts 4) (Args 0) (Return ∷ End ∷ []) second (All-cons (InstrOk parts 4) Return (End ∷ []) tt (All-cons (InstrOk parts 4) End [] tt (All-nil (InstrOk parts 4)))))

each_map : (m0 m1 m2 m3 : LiveMap) → MapOk m0 → MapOk m1 → MapOk m2 → MapOk m3 → All MapOk (m0 ∷ m1 ∷ m2 ∷ m3 ∷ [])
each_map m0 m1 m2 m3 h0 h1 h2 h3 = All-cons MapOk m0 (m1 ∷ m2 ∷ m3 ∷ []) h0 (All-cons MapOk m1 (m2 ∷ m3 ∷ []) h1 (All-cons MapOk m2 (m3 ∷ []) h2 (All-cons MapOk m3 [] h3 (All-nil MapOk))))

placed_at : (p : PlaceEntry) → p.instr ≡ 1 → p.instr ∷ [] ≡ 1 ∷ []
placed_at p e = cc

pub invariant_of-result : goal.invariant_of-result
invariant_of-result c =
    let parts = c.parts.result in
    let lambdas = c.parts.ensures.lambdas ∙ c.in_ok-lambdas.ensures.items in
    let maps = c.no_map.result ∷ c.no_map-2.result ∷ c.no_map-3.result ∷ c.no_map-4.result ∷ [] in
    let places = c.placed.result ∷ [] in
    let rules : KeepsRules parts code maps places = record {
      parts_ok = c.parts.ensures.rules;
      some = lit≤ tt;
      few = lit< tt;
      fields = fields parts _ lambdas (lit< tt);
      mapped = refl;
      each_map = each_map _ _ _ _ c.no_map.ensures c.no_map-2.ensures c.no_map-3.ensures c.no_map-4.ensures;
      entries = λ n. subst (λ (ls : List LambdaEntry). EntryOk ls code n) (sym lambdas) (entry_of _ refl n);
      placed = placed_at c.placed.result c.placed.ensures;
    } in
    record { rules = ∣ same_rules parts _ _ _ _ _ _ (c.from_vec.ensures ∙ c.in_ok-code.ensures.items) (c.from_vec-2.ensures ∙ c.in_ok-maps.ensures.items) (c.from_vec-3.ensures ∙ c.in_ok-places.ensures.items) rules ∣₁ }
