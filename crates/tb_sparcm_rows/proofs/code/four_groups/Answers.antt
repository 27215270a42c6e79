use Rattle.std.proofs.Common.{◌≡◌, ℕ, List, [], ◌∷◌, ◌++◌, ◌<◌, ◌≤◌, length, sym, ap, subst, ◌∙◌, arith}
use Rattle.std.specs.Prelude.{All, AllPairs}
use Rattle.std.proofs.lemmas.List.Elements.{All-cons, All-nil}
use Rattle.std.proofs.lemmas.List.Kept.{AllPairs-cons}
use Rattle.tb_sparc.specs.Grouped.{IsGrouped}
use Rattle.tb_sparcm_rows.proofs.code.four_groups.Goals as goal

four_below : (n a b c d : ℕ) → a < n → b < n → c < n → d < n → All (λ start. start < n) (a ∷ b ∷ c ∷ d ∷ [])
four_below n a b c d pa pb pc pd =
    All-cons (λ start. start < n) a (b ∷ c ∷ d ∷ []) pa (All-cons (λ start. start < n) b (c ∷ d ∷ []) pb (All-cons (λ start. start < n) c (d ∷ []) pc (All-cons (λ start. start < n) d [] pd (All-nil (λ start. start < n)))))

rising : (a b c d : ℕ) → a < b → b < c → c < d → AllPairs ◌<◌ (a ∷ b ∷ c ∷ d ∷ [])
rising a b c d p q r =
    AllPairs-cons ◌<◌ a (b ∷ c ∷ d ∷ []) (All-cons (λ y. a < y) b (c ∷ d ∷ []) p (All-cons (λ y. a < y) c (d ∷ []) (omega (arith, p, q)) (All-cons (λ y. a < y) d [] (omega (arith, p, q, r)) (All-nil (λ y. a < y)))))
    (AllPairs-cons ◌<◌ b (c ∷ d ∷ []) (All-cons (λ y. b < y) c (d ∷ []) q (All-cons (λ y. b < y) d [] (omega (arith, q, r)) (All-nil (λ y. b < y))))
    (AllPairs-cons ◌<◌ c (d ∷ []) (All-cons (λ y. c < y) d [] r (All-nil (λ y. c < y)))
    (AllPairs-cons ◌<◌ d [] (All-nil (λ y. d < y)) (λ i j e p q. absurd (omega (arith, p, q))))))

grouped : (words : List ℕ) (a b c d : ℕ) → length words ≤ 1000 → a < b → b < c → c < d → d < length words → IsGrouped words (a ∷ b ∷ c ∷ d ∷ [])
grouped words a b c d few p q r l = record {
  few = omega (arith, few);
  rising = rising a b c d p q r;
  below = four_below (length words) a b c d (omega (arith, p, q, r, l)) (omega (arith, q, r, l)) (omega (arith, r, l)) l;
}

same_grouped : (words words' starts starts' : List ℕ) → words ≡ words' → starts ≡ starts' → IsGrouped words' starts' → IsGrouped words starts
same_grouped words words' starts starts' e f g = subst (λ ws. IsGrouped ws starts) (sym e) (subst (λ ss. IsGrouped words' ss) (sym f) g)

pub invariant_of-result : goal.invariant_of-result
invariant_of-result c =
    let ws = c.args.words.now in
    let same : c.from_vec.result ≡ ws = c.from_vec.ensures ∙ c.in_ok-extend_from_slice.ensures.items ∙ ap (λ v. v ++ ws) c.new-row.ensures.items in
    record { rules = ∣ same_grouped _ ws _ _ same (c.from_vec-2.ensures ∙ c.in_ok-starts.ensures.items) (grouped ws _ _ _ _ c.if-words-gt1000.false c.if-first-second.false c.if-second-third.false c.if-third-fourth.false c.if-fourth-words.false) ∣₁ }
