use Rattle.std.proofs.Common.{◌≡◌, ◌<◌, ◌^◌, ℕ, List, [], ◌∷◌, refl, sym, subst, ◌∙◌, lit<, lit≤}
use Rattle.std.specs.Prelude.{All}
use Rattle.std.proofs.lemmas.List.Elements.{All-cons, All-nil}
use Rattle.tb_mac.specs.declared.code.Instr.{Instr}
use Rattle.tb_mac.specs.declared.code.Instr.TheVariants.{Imm, Op1, Op2, Clo, CaptSet, End}
use Rattle.tb_mac.specs.declared.code.LambdaEntry.{LambdaEntry}
use Rattle.tb_mac.specs.declared.code.LiveMap.{LiveMap}
use Rattle.tb_mac.specs.declared.code.PlaceEntry.{PlaceEntry}
use Rattle.tb_mac.specs.declared.code.Parts.{Parts}
use Rattle.tb_mac.specs.Rules.{EntryOk, InstrOk, MapOk, KeepsRules}
use Rattle.tb_space.proofs.tests.objects.Goals as goal

-- the code
abbrev code : List Instr
code = Imm 1 514 ∷ Imm 2 4 ∷ Op2 3 2 1 0 ∷ Op2 4 3 3 0 ∷ Op2 5 2 1 0 ∷ Op2 16 5 5 4 ∷ Imm 6 12 ∷ Op1 6 6 30 ∷ Clo 7 1 10 ∷ CaptSet 7 6 0 ∷ End ∷ []

fields : (parts : Parts) → All (InstrOk parts 11) code
fields parts =
    let p0 : InstrOk parts 11 (Imm 1 514) = (lit≤ tt, refl) in
    let p1 : InstrOk parts 11 (Imm 2 4) = (lit≤ tt, refl) in
    let p2 : InstrOk parts 11 (Op2 3 2 1 0) = (lit≤ tt, lit≤ tt, lit≤ tt, refl) in
    let p3 : InstrOk parts 11 (Op2 4 3 3 0) = (lit≤ tt, lit≤ tt, lit≤ tt, refl) in
    let p4 : InstrOk parts 11 (Op2 5 2 1 0) = (lit≤ tt, lit≤ tt, lit≤ tt, refl) in
    let p5 : InstrOk parts 11 (Op2 16 5 5 4) = (lit≤ tt, lit≤ tt, lit≤ tt, refl) in
    let p6 : InstrOk parts 11 (Imm 6 12) = (lit≤ tt, refl) in
    let p7 : InstrOk parts 11 (Op1 6 6 30) = (lit≤ tt, lit≤ tt, refl) in
    let p8 : InstrOk parts 11 (Clo 7 1 10) = (lit≤ tt, lit≤ tt, lit< tt) in
    let p9 : InstrOk parts 11 (CaptSet 7 6 0) = (lit≤ tt, lit≤ tt, lit< tt) in
    let p10 : InstrOk parts 11 (End) = tt in
    All-cons (InstrOk parts 11) (Imm 1 514) (Imm 2 4 ∷ Op2 3 2 1 0 ∷ Op2 4 3 3 0 ∷ Op2 5 2 1 0 ∷ Op2 16 5 5 4 ∷ Imm 6 12 ∷ Op1 6 6 30 ∷ Clo 7 1 10 ∷ CaptSet 7 6 0 ∷ End ∷ []) p0 (All-cons (InstrOk parts 11) (Imm 2 4) (Op2 3 2 1 0 ∷ Op2 4 3 3 0 ∷ Op2 5 2 1 0 ∷ Op2 16 5 5 4 ∷ Imm 6 12 ∷ Op1 6 6 30 ∷ Clo 7 1 10 ∷ CaptSet 7 6 0 ∷ End ∷ []) p1 (All-cons (InstrOk parts 11) (Op2 3 2 1 0) (Op2 4 3 3 0 ∷ Op2 5 2 1 0 ∷ Op2 16 5 5 4 ∷ Imm 6 12 ∷ Op1 6 6 30 ∷ Clo 7 1 10 ∷ CaptSet 7 6 0 ∷ End ∷ []) p2 (All-cons (InstrOk parts 11) (Op2 4 3 3 0) (Op2 5 2 1 0 ∷ Op2 16 5 5 4 ∷ Imm 6 12 ∷ Op1 6 6 30 ∷ Clo 7 1 10 ∷ CaptSet 7 6 0 ∷ End ∷ []) p3 (All-cons (InstrOk parts 11) (Op2 5 2 1 0) (Op2 16 5 5 4 ∷ Imm 6 12 ∷ Op1 6 6 30 ∷ Clo 7 1 10 ∷ CaptSet 7 6 0 ∷ End ∷ []) p4 (All-cons (InstrOk parts 11) (Op2 16 5 5 4) (Imm 6 12 ∷ Op1 6 6 30 ∷ Clo 7 1 10 ∷ CaptSet 7 6 0 ∷ End ∷ []) p5 (All-cons (InstrOk parts 11) (Imm 6 12) (Op1 6 6 30 ∷ Clo 7 1 10 ∷ CaptSet 7 6 0 ∷ End ∷ []) p6 (All-cons (InstrOk parts 11) (Op1 6 6 30) (Clo 7 1 10 ∷ CaptSet 7 6 0 ∷ End ∷ []) p7 (All-cons (InstrOk parts 11) (Clo 7 1 10) (CaptSet 7 6 0 ∷ End ∷ []) p8 (All-cons (InstrOk parts 11) (CaptSet 7 6 0) (End ∷ []) p9 (All-cons (InstrOk parts 11) (End) ([]) p10 (All-nil (InstrOk parts 11))))))))))))

each_map : (m0 m1 m2 m3 m4 m5 m6 m7 m8 m9 m10 : LiveMap) → MapOk m0 → MapOk m1 → MapOk m2 → MapOk m3 → MapOk m4 → MapOk m5 → MapOk m6 → MapOk m7 → MapOk m8 → MapOk m9 → MapOk m10 → All MapOk (m0 ∷ m1 ∷ m2 ∷ m3 ∷ m4 ∷ m5 ∷ m6 ∷ m7 ∷ m8 ∷ m9 ∷ m10 ∷ [])
each_map m0 m1 m2 m3 m4 m5 m6 m7 m8 m9 m10 h0 h1 h2 h3 h4 h5 h6 h7 h8 h9 h10 = All-cons (MapOk) (m0) (m1 ∷ m2 ∷ m3 ∷ m4 ∷ m5 ∷ m6 ∷ m7 ∷ m8 ∷ m9 ∷ m10 ∷ []) h0 (All-cons (MapOk) (m1) (m2 ∷ m3 ∷ m4 ∷ m5 ∷ m6 ∷ m7 ∷ m8 ∷ m9 ∷ m10 ∷ []) h1 (All-cons (MapOk) (m2) (m3 ∷ m4 ∷ m5 ∷ m6 ∷ m7 ∷ m8 ∷ m9 ∷ m10 ∷ []) h2 (All-cons (MapOk) (m3) (m4 ∷ m5 ∷ m6 ∷ m7 ∷ m8 ∷ m9 ∷ m10 ∷ []) h3 (All-cons (MapOk) (m4) (m5 ∷ m6 ∷ m7 ∷ m8 ∷ m9 ∷ m10 ∷ []) h4 (All-cons (MapOk) (m5) (m6 ∷ m7 ∷ m8 ∷ m9 ∷ m10 ∷ []) h5 (All-cons (MapOk) (m6) (m7 ∷ m8 ∷ m9 ∷ m10 ∷ []) h6 (All-cons (MapOk) (m7) (m8 ∷ m9 ∷ m10 ∷ []) h7 (All-cons (MapOk) (m8) (m9 ∷ m10 ∷ []) h8 (All-cons (MapOk) (m9) (m10 ∷ []) h9 (All-cons (MapOk) (m10) ([]) h10 (All-nil (MapOk))))))))))))

no_entry : (n : ℕ) → EntryOk [] code n
no_entry n = tt

placed_at : (p q : PlaceEntry) → p.instr ≡ 5 → q.instr ≡ 7 → p.instr ∷ q.instr ∷ [] ≡ 5 ∷ 7 ∷ []
placed_at p q a b = cc

same_rules : (parts : Parts) (is is' : List Instr) (ms ms' : List LiveMap) (ps ps' : List PlaceEntry) → is ≡ is' → ms ≡ ms' → ps ≡ ps' → KeepsRules parts is' ms' ps' → KeepsRules parts is ms ps
same_rules parts is is' ms ms' ps ps' e f g k =
    subst (λ v. KeepsRules parts v ms ps) (sym e) (subst (λ v. KeepsRules parts is' v ps) (sym f) (subst (λ v. KeepsRules parts is' ms' v) (sym g) k))

pub invariant_of-result : goal.invariant_of-result
invariant_of-result c =
    let parts = c.no_parts.result in
    let maps = c.map.result ∷ c.map-2.result ∷ c.map-3.result ∷ c.map-4.result ∷ c.map-5.result ∷ c.map-6.result ∷ c.map-7.result ∷ c.map-8.result ∷ c.map-9.result ∷ c.map-10.result ∷ c.map-11.result ∷ [] in
    let places = c.placed.result ∷ c.placed-2.result ∷ [] in
    let rules : KeepsRules parts code maps places = record {
      parts_ok = c.no_parts.ensures.rules;
      some = lit≤ tt;
      few = lit< tt;
      fields = fields parts;
      mapped = refl;
      each_map = each_map _ _ _ _ _ _ _ _ _ _ _ c.map.ensures c.map-2.ensures c.map-3.ensures c.map-4.ensures c.map-5.ensures c.map-6.ensures c.map-7.ensures c.map-8.ensures c.map-9.ensures c.map-10.ensures c.map-11.ensures;
      entries = λ n. subst (λ (ls : List LambdaEntry). EntryOk ls code n) (sym c.no_parts.ensures.lambdas) (no_entry n);
      placed = placed_at c.placed.result c.placed-2.result c.placed.ensures c.placed-2.ensures;
    } in
    record { rules = ∣ same_rules parts _ _ _ _ _ _ (c.from_vec.ensures ∙ c.in_ok-code.ensures.items) (c.from_vec-2.ensures ∙ c.in_ok-maps.ensures.items) (c.from_vec-3.ensures ∙ c.in_ok-places.ensures.items) rules ∣₁ }
