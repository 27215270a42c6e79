-- How a step uses the input: not at all, one byte of it, or its end.
use Rattle.std.proofs.Common.{◌≡◌, ℕ, List, [], ◌∷◌, Option, Some, None, refl, sym, ap, ◌∙◌, ◌⊎◌, inl, inr}
use Rattle.tb_prim.specs.declared.event.Event.{Event}
use Rattle.tb_prim.specs.declared.event.Taken.{Taken}
use Rattle.tb_mac.specs.Assembled.{Assembled}
use Rattle.tb_mac.specs.MacStep.{kept_ahead, next_taken, rest_after}
use Rattle.tb_sparc.specs.Grouped.{Grouped}
use Rattle.tb_sparc.specs.SparcStep.{Sparc, Outcome, Goes, Emits, Takes, Peeks, Stops, Stepped, Went, entered, event_at, fetched, received, sparc_step, with_input, with_mark}
use Rattle.tb_sparcm.proofs.StepRules.{OutcomeOk, fetched-ok}

-- the same step with every input, which stays
pub record Same (ahead : Option Taken) (step : List ℕ → Stepped) (e : Option Event) (new : Sparc) (input rest : List ℕ) : Type 0 where
  pub stays : rest ≡ input
  pub is : (i : List ℕ) → step i ≡ Went e new i
  pub end : ahead ≡ Some Taken.End → new.ahead ≡ Some Taken.End

-- the same step with every input that begins with this byte, which is taken
pub record TakesByte (ahead : Option Taken) (step : List ℕ → Stepped) (e : Option Event) (new : Sparc) (input rest : List ℕ) : Type 0 where
  pub byte : ℕ
  pub begins : input ≡ byte ∷ rest
  pub is : (i : List ℕ) → step (byte ∷ i) ≡ Went e new i
  pub nothing : ahead ≡ None

-- the step at the end of the input
pub record MeetsEnd (ahead : Option Taken) (step : List ℕ → Stepped) (e : Option Event) (new : Sparc) (input rest : List ℕ) : Type 0 where
  pub empty : input ≡ []
  pub stays : rest ≡ []
  pub is : step [] ≡ Went e new []
  pub nothing : ahead ≡ None
  pub end : new.ahead ≡ Some Taken.End

abbrev pub Uses : Option Taken → (List ℕ → Stepped) → Option Event → Sparc → List ℕ → List ℕ → Type 0
Uses ahead step e new input rest = Same ahead step e new input rest ⊎ (TakesByte ahead step e new input rest ⊎ MeetsEnd ahead step e new input rest)

pub same_event : {e e' : Option Event} {m m' : Sparc} {i i' : List ℕ} → Went e m i ≡ Went e' m' i' → e ≡ e'
same_event h = cc h

same_mac : {e e' : Option Event} {m m' : Sparc} {i i' : List ℕ} → Went e m i ≡ Went e' m' i' → m ≡ m'
same_mac h = cc h

same_rest : {e e' : Option Event} {m m' : Sparc} {i i' : List ℕ} → Went e m i ≡ Went e' m' i' → i ≡ i'
same_rest h = cc h

went : (e e' : Option Event) (m m' : Sparc) (j : List ℕ) → e ≡ e' → m ≡ m' → Went e m j ≡ Went e' m' j
went e e' m m' j p q = cc (p, q)

-- a step that is the same with every input
plain : (ahead : Option Taken) (e e' : Option Event) (n new : Sparc) (input rest : List ℕ) → n.ahead ≡ ahead → Went e n input ≡ Went e' new rest → Same ahead (λ i. Went e n i) e' new input rest
plain ahead e e' n new input rest k h = record {
  stays = sym (same_rest h);
  is = λ i. went e e' n new i (same_event h) (same_mac h);
  end = λ q. sym (ap (λ (x : Sparc). x.ahead) (same_mac h)) ∙ k ∙ q;
}

-- a step that asks for what comes next
asked : (f : Taken → Option Event) (g : Taken → Sparc) → ((g Taken.End).ahead ≡ Some Taken.End) → (ahead : Option Taken) (input rest : List ℕ) (e : Option Event) (new : Sparc)
    → Went (f (next_taken ahead input)) (g (next_taken ahead input)) (rest_after ahead input) ≡ Went e new rest
    → Uses ahead (λ i. Went (f (next_taken ahead i)) (g (next_taken ahead i)) (rest_after ahead i)) e new input rest
asked f g k (Some (Taken.Byte b)) input rest e new h = inl (record {
  stays = sym (same_rest h);
  is = λ i. went (f (Taken.Byte b)) e (g (Taken.Byte b)) new i (same_event h) (same_mac h);
  end = λ q. absurd (cc q);
})
asked f g k (Some Taken.End) input rest e new h = inl (record {
  stays = sym (same_rest h);
  is = λ i. went (f Taken.End) e (g Taken.End) new i (same_event h) (same_mac h);
  end = λ q. sym (ap (λ (x : Sparc). x.ahead) (same_mac h)) ∙ k;
})
asked f g k None [] rest e new h = inr (inr (record {
  empty = refl;
  stays = sym (same_rest h);
  is = went (f Taken.End) e (g Taken.End) new [] (same_event h) (same_mac h);
  nothing = refl;
  end = sym (ap (λ (x : Sparc). x.ahead) (same_mac h)) ∙ k;
}))
asked f g k None (b ∷ bs) rest e new h = inr (inl (record {
  byte = b;
  begins = ap (λ (bs' : List ℕ). b ∷ bs') (same_rest h);
  is = λ i. went (f (Taken.Byte b)) e (g (Taken.Byte b)) new i (same_event h) (same_mac h);
  nothing = refl;
}))

uses_of : (mark : Option Event) (s : Sparc) (o : Outcome) → OutcomeOk s o → (input rest : List ℕ) (e : Option Event) (new : Sparc) → with_mark mark (with_input s input o) ≡ Went e new rest → Uses s.ahead (λ i. with_mark mark (with_input s i o)) e new input rest
uses_of mark s (Goes n) ok input rest e new h = inl (plain s.ahead mark e n new input rest ok.ok h)
uses_of mark s (Emits e' n) ok input rest e new h = inl (plain s.ahead (Some e') e n new input rest ok.ok.1 h)
uses_of mark s Takes ok input rest e new h = asked (λ t. Some (Event.Took t)) (λ t. received t (kept_ahead t) s) refl s.ahead input rest e new h
uses_of mark s Peeks ok input rest e new h = asked (λ t. mark) (λ t. received t (Some t) s) refl s.ahead input rest e new h
uses_of mark s (Stops stop) ok input rest e new h = absurd (cc h)

pub uses : (c : Assembled) (g : Grouped) (s new : Sparc) (input rest : List ℕ) (e : Option Event) → sparc_step c g s input ≡ Went e new rest → Uses s.ahead (sparc_step c g s) e new input rest
uses c g s new input rest e h = uses_of (event_at c g s.pc) (entered g s) (fetched c g s) (fetched-ok c g s) input rest e new h
