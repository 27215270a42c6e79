use Rattle.std.proofs.Common.{◌≡◌, ℕ, List, [], ◌∷◌, refl, sym, subst, ◌∙◌, lit<, lit≤}
use Rattle.std.specs.Prelude.{All}
use Rattle.std.proofs.lemmas.List.Elements.{All-cons, All-nil}
use Rattle.tb_mac.specs.declared.code.Instr.{Instr}
use Rattle.tb_mac.specs.declared.code.Instr.TheVariants.{Imm, Op1, Op2, Brf, Jump, End}
use Rattle.tb_mac.specs.declared.code.LambdaEntry.{LambdaEntry}
use Rattle.tb_mac.specs.declared.code.LiveMap.{LiveMap}
use Rattle.tb_mac.specs.declared.code.PlaceEntry.{PlaceEntry}
use Rattle.tb_mac.specs.declared.code.Parts.{Parts}
use Rattle.tb_mac.specs.Rules.{EntryOk, InstrOk, MapOk, KeepsRules}
use Rattle.tb_macm.proofs.tests.countdown.Goals as goal

-- the code
abbrev code : List Instr
code = Imm 1 4000000 ∷ Imm 2 4 ∷ Imm 3 0 ∷ Op2 4 1 3 23 ∷ Brf 4 8 ∷ Imm 1 24842 ∷ Op1 16 1 42 ∷ End ∷ Op2 1 1 2 18 ∷ Jump 3 ∷ []

fields : (parts : Parts) → All (InstrOk parts 10) code
fields parts =
    let p0 : InstrOk parts 10 (Imm 1 4000000) = (lit≤ tt, refl) in
    let p1 : InstrOk parts 10 (Imm 2 4) = (lit≤ tt, refl) in
    let p2 : InstrOk parts 10 (Imm 3 0) = (lit≤ tt, refl) in
    let p3 : InstrOk parts 10 (Op2 4 1 3 23) = (lit≤ tt, lit≤ tt, lit≤ tt, refl) in
    let p4 : InstrOk parts 10 (Brf 4 8) = (lit≤ tt, lit< tt) in
    let p5 : InstrOk parts 10 (Imm 1 24842) = (lit≤ tt, refl) in
    let p6 : InstrOk parts 10 (Op1 16 1 42) = (lit≤ tt, lit≤ tt, refl) in
    let p7 : InstrOk parts 10 (End) = tt in
    let p8 : InstrOk parts 10 (Op2 1 1 2 18) = (lit≤ tt, lit≤ tt, lit≤ tt, refl) in
    let p9 : InstrOk parts 10 (Jump 3) = lit< tt in
    All-cons (InstrOk parts 10) (Imm 1 4000000) (Imm 2 4 ∷ Imm 3 0 ∷ Op2 4 1 3 23 ∷ Brf 4 8 ∷ Imm 1 24842 ∷ Op1 16 1 42 ∷ End ∷ Op2 1 1 2 18 ∷ Jump 3 ∷ []) p0 (All-cons (InstrOk parts 10) (Imm 2 4) (Imm 3 0 ∷ Op2 4 1 3 23 ∷ Brf 4 8 ∷ Imm 1 24842 ∷ Op1 16 1 42 ∷ End ∷ Op2 1 1 2 18 ∷ Jump 3 ∷ []) p1 (All-cons (InstrOk parts 10) (Imm 3 0) (Op2 4 1 3 23 ∷ Brf 4 8 ∷ Imm 1 24842 ∷ Op1 16 1 42 ∷ End ∷ Op2 1 1 2 18 ∷ Jump 3 ∷ []) p2 (All-cons (InstrOk parts 10) (Op2 4 1 3 23) (Brf 4 8 ∷ Imm 1 24842 ∷ Op1 16 1 42 ∷ End ∷ Op2 1 1 2 18 ∷ Jump 3 ∷ []) p3 (All-cons (InstrOk parts 10) (Brf 4 8) (Imm 1 24842 ∷ Op1 16 1 42 ∷ End ∷ Op2 1 1 2 18 ∷ Jump 3 ∷ []) p4 (All-cons (InstrOk parts 10) (Imm 1 24842) (Op1 16 1 42 ∷ End ∷ Op2 1 1 2 18 ∷ Jump 3 ∷ []) p5 (All-cons (InstrOk parts 10) (Op1 16 1 42) (End ∷ Op2 1 1 2 18 ∷ Jump 3 ∷ []) p6 (All-cons (InstrOk parts 10) (End) (Op2 1 1 2 18 ∷ Jump 3 ∷ []) p7 (All-cons (InstrOk parts 10) (Op2 1 1 2 18) (Jump 3 ∷ []) p8 (All-cons (InstrOk parts 10) (Jump 3) ([]) p9 (All-nil (InstrOk parts 10)))))))))))

each_map : (m0 m1 m2 m3 m4 m5 m6 m7 m8 m9 : LiveMap) → MapOk m0 → MapOk m1 → MapOk m2 → MapOk m3 → MapOk m4 → MapOk m5 → MapOk m6 → MapOk m7 → MapOk m8 → MapOk m9 → All MapOk (m0 ∷ m1 ∷ m2 ∷ m3 ∷ m4 ∷ m5 ∷ m6 ∷ m7 ∷ m8 ∷ m9 ∷ [])
each_map m0 m1 m2 m3 m4 m5 m6 m7 m8 m9 h0 h1 h2 h3 h4 h5 h6 h7 h8 h9 = All-cons MapOk m0 (m1 ∷ m2 ∷ m3 ∷ m4 ∷ m5 ∷ m6 ∷ m7 ∷ m8 ∷ m9 ∷ []) h0 (All-cons MapOk m1 (m2 ∷ m3 ∷ m4 ∷ m5 ∷ m6 ∷ m7 ∷ m8 ∷ m9 ∷ []) h1 (All-cons MapOk m2 (m3 ∷ m4 ∷ m5 ∷ m6 ∷ m7 ∷ m8 ∷ m9 ∷ []) h2 (All-cons MapOk m3 (m4 ∷ m5 ∷ m6 ∷ m7 ∷ m8 ∷ m9 ∷ []) h3 (All-cons MapOk m4 (m5 ∷ m6 ∷ m7 ∷ m8 ∷ m9 ∷ []) h4 (All-cons MapOk m5 (m6 ∷ m7 ∷ m8 ∷ m9 ∷ []) h5 (All-cons MapOk m6 (m7 ∷ m8 ∷ m9 ∷ []) h6 (All-cons MapOk m7 (m8 ∷ m9 ∷ []) h7 (All-cons MapOk m8 (m9 ∷ []) h8 (All-cons MapOk m9 ([]) h9 (All-nil MapOk))))))))))

no_entry : (n : ℕ) → EntryOk [] code n
no_entry n = tt

placed_at : (p q r : PlaceEntry) → p.instr ≡ 3 → q.instr ≡ 6 → r.instr ≡ 8 → p.instr ∷ q.instr ∷ r.instr ∷ [] ≡ 3 ∷ 6 ∷ 8 ∷ []
placed_at p q r a b d = cc

same_rules : (parts : Parts) (is is' : List Instr) (ms ms' : List LiveMap) (ps ps' : List PlaceEntry) → is ≡ is' → ms ≡ ms' → ps ≡ ps' → KeepsRules parts is' ms' ps' → KeepsRules parts is ms ps
same_rules parts is is' ms ms' ps ps' e f g k =
    subst (λ v. KeepsRules parts v ms ps) (sym e) (subst (λ v. KeepsRules parts is' v ps) (sym f) (subst (λ v. KeepsRules parts is' ms' v) (sym g) k))

pub invariant_of-result : goal.invariant_of-result
invariant_of-result c =
    let parts = c.no_parts.result in
    let maps = c.no_map.result ∷ c.no_map-2.result ∷ c.no_map-3.result ∷ c.no_map-4.result ∷ c.no_map-5.result ∷ c.no_map-6.result ∷ c.no_map-7.result ∷ c.no_map-8.result ∷ c.no_map-9.result ∷ c.no_map-10.result ∷ [] in
    let places = c.placed.result ∷ c.placed-2.result ∷ c.placed-3.result ∷ [] in
    let rules : KeepsRules parts code maps places = record {
      parts_ok = c.no_parts.ensures.rules;
      some = lit≤ tt;
      few = lit< tt;
      fields = fields parts;
      mapped = refl;
      each_map = each_map _ _ _ _ _ _ _ _ _ _ c.no_map.ensures c.no_map-2.ensures c.no_map-3.ensures c.no_map-4.ensures c.no_map-5.ensures c.no_map-6.ensures c.no_map-7.ensures c.no_map-8.ensures c.no_map-9.ensures c.no_map-10.ensures;
      entries = λ n. subst (λ (ls : List LambdaEntry). EntryOk ls code n) (sym c.no_parts.ensures.lambdas) (no_entry n);
      placed = placed_at c.placed.result c.placed-2.result c.placed-3.result c.placed.ensures c.placed-2.ensures c.placed-3.ensures;
    } in
    record { rules = ∣ same_rules parts _ _ _ _ _ _ (c.from_vec.ensures ∙ c.in_ok-code.ensures.items) (c.from_vec-2.ensures ∙ c.in_ok-maps.ensures.items) (c.from_vec-3.ensures ∙ c.in_ok-places.ensures.items) rules ∣₁ }
