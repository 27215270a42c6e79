use Rattle.std.proofs.Common.{◌≡◌, ℕ, List, [], ◌∷◌, ◌<◌, length, sym, ap, subst, ◌∙◌, arith}
use Rattle.std.proofs.lemmas.List.Elements.{All-cons, All-nil}
use Rattle.tb_sparc.specs.Grouped.{IsGrouped}
use Rattle.tb_sparcm.proofs.tests.countdown.Goals as goal

one_start : (words : List ℕ) → length words ≡ 9 → IsGrouped words (0 ∷ [])
one_start words e = record {
  few = omega (arith, e);
  rising = λ i j d p q. absurd (omega (arith, p, q));
  below = All-cons (λ start. start < length words) 0 [] (omega (arith, e)) (All-nil (λ start. start < length words));
}

same_starts : (words starts : List ℕ) → starts ≡ 0 ∷ [] → length words ≡ 9 → IsGrouped words starts
same_starts words starts e l = subst (λ ss. IsGrouped words ss) (sym e) (one_start words l)

pub invariant_of-result : goal.invariant_of-result
invariant_of-result c = record {
  rules = ∣ same_starts _ _ (c.from_vec-2.ensures ∙ c.in_ok-starts.ensures.items) (ap length (c.from_vec.ensures ∙ c.in_ok-words.ensures.items)) ∣₁;
}
