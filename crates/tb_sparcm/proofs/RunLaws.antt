-- Runs of the interpreter as runs of the definition.
use Rattle.std.proofs.Common.{◌≡◌, ℕ, ◌+◌, ◌≤◌, ◌<◌, Bool, true, false, List, [], ◌∷◌, ◌++◌, All, Option, Some, None, IfSome, refl, sym, ap, ◌∙◌, subst, arith, append_assoc, append-nil, inl, inr}
use Rattle.std.proofs.lemmas.List.Elements.{All-append, All-cons, All-nil}
use Rattle.tb_prim.specs.declared.event.Event.{Event}
use Rattle.tb_prim.specs.declared.event.Event.TheVariants as E
use Rattle.tb_prim.specs.declared.event.Stop.{Stop}
use Rattle.tb_prim.specs.declared.event.Stop.TheVariants as S
use Rattle.tb_prim.specs.declared.event.Taken.{Taken}
use Rattle.tb_base.specs.Outside.{Rose}
use Rattle.tb_semantics.specs.Runs.{run}
use Rattle.tb_semantics.proofs.RunLaws.{run-add}
use Rattle.tb_mac.specs.Assembled.{Assembled}
use Rattle.tb_mac.specs.MacEvents.{with_event}
use Rattle.tb_macm.specs.declared.step.Step.{Step}
use Rattle.tb_macm.specs.Steps.{Adds, Faults, Rests, bytes_of, told}
use Rattle.tb_macm.specs.RunDoes.{IsPassing, Counted, puts}
use Rattle.tb_macm.proofs.StepLaws.{adds_nothing}
use Rattle.tb_macm.proofs.StepRules.{IsOwn}
use Rattle.tb_sparc.specs.Grouped.{Grouped, group_at}
use Rattle.tb_sparc.specs.SparcStep.{Sparc, Outcome, Goes, Emits, Takes, Peeks, Stepped, Went, Stopped, Stops, entered, event_at, fetched, sparc_step, with_input, with_mark}
use Rattle.tb_sparc.specs.SparcEvents.{SparcState, Going, next_state, next}
use Rattle.tb_sparcm.specs.Steps.{Made, StepDoes}
use Rattle.tb_sparcm.specs.RunDoes.{Reached, StandsAt, RunDoes, halted}
use Rattle.tb_sparcm.proofs.GroupLaws.{mark_is_mark}
use Rattle.tb_sparcm.proofs.StepRules.{IsLawful, fetched-ok}
use Rattle.tb_sparcm.proofs.Uses.{uses, same_event}

-- a source that told these bytes has had the first of them taken, all of them where the end was met
pub record Taken-from (used : List ℕ) (ended : Bool) (bytes : List ℕ) (left : Option (List ℕ)) : Type 0 where
  pub rest : List ℕ
  pub whole : bytes ≡ used ++ rest
  pub now : left ≡ Some rest
  pub end : ended ≡ true → rest ≡ []

-- the machine goes on after n steps, with these events, for every input that begins with the bytes that were
-- used, and has no others where its end was met; the sink holds the bytes that were put
pub record Running (c : Assembled) (g : Grouped) (old : Sparc) (n : ℕ) (now : Sparc) (left left' held held' : Option (List ℕ)) : Type 0 where
  pub used : List ℕ
  pub ended : Bool
  pub events : List Event
  pub passing : All IsPassing events
  pub reached : (rest : List ℕ) → (ended ≡ true → rest ≡ []) → run (next c g) n (Going old (used ++ rest) []) ≡ Going now rest events
  pub ahead : ended ≡ true → now.ahead ≡ Some Taken.End
  pub source : IfSome left (λ bytes. Taken-from used ended bytes left')
  pub put : Adds held held' (puts events)

run-suc : {S : Type 0} (step : S → S) (n : ℕ) (s : S) → run step (n + 1) s ≡ step (run step n s)
run-suc step n s = run-add step n 1 s

puts-append : (xs ys : List Event) → puts (xs ++ ys) ≡ puts xs ++ puts ys
puts-append [] ys = refl
puts-append (E.Enter l ∷ xs) ys = puts-append xs ys
puts-append (E.Back ∷ xs) ys = puts-append xs ys
puts-append (E.Put b ∷ xs) ys = ap (λ bs. b ∷ bs) (puts-append xs ys)
puts-append (E.Took t ∷ xs) ys = puts-append xs ys
puts-append (E.End ∷ xs) ys = puts-append xs ys
puts-append (E.Fail c p ∷ xs) ys = puts-append xs ys

puts-one : (e : Event) → puts (e ∷ []) ≡ bytes_of (Some e)
puts-one (E.Enter l) = refl
puts-one E.Back = refl
puts-one (E.Put b) = refl
puts-one (E.Took t) = refl
puts-one E.End = refl
puts-one (E.Fail c p) = refl

puts-event : (e : Option Event) (es : List Event) → puts (with_event e es) ≡ puts es ++ bytes_of e
puts-event None es = sym (append-nil (puts es))
puts-event (Some e) es = puts-append es (e ∷ []) ∙ ap (λ bs. puts es ++ bs) (puts-one e)

adds-adds : (a b c : Option (List ℕ)) (xs ys : List ℕ) → Adds a b xs → Adds b c ys → Adds a c (xs ++ ys)
adds-adds None b c xs ys p q = tt
adds-adds (Some bs) b c xs ys p q =
    let there : Adds (Some (bs ++ xs)) c ys = subst (λ v. Adds v c ys) p q in
    there ∙ ap (λ v. Some v) (append_assoc bs xs ys)

-- what is added and then nothing
adds-nothing : (a b c : Option (List ℕ)) (xs : List ℕ) → Adds a b xs → Adds b c [] → Adds a c xs
adds-nothing a b c xs p q = subst (λ v. Adds a c v) (append-nil xs) (adds-adds a b c xs [] p q)

abbrev IsPassingOne : Option Event → Type 0
IsPassingOne None = Unit {0}
IsPassingOne (Some e) = IsPassing e

passing-mark : (mark : Option Event) → ((e : Event) → mark ≡ Some e → IsPassing e) → IsPassingOne mark
passing-mark None h = tt
passing-mark (Some e) h = h e refl

passing-outcome : (mark : Option Event) → IsPassingOne mark → (m : Sparc) (o : Outcome) → IsLawful m o → (input rest : List ℕ) (e : Option Event) (new : Sparc) → with_mark mark (with_input m input o) ≡ Went e new rest → IsPassingOne e
passing-outcome mark p m (Goes n) ok input rest e new h = subst IsPassingOne (same_event h) p
passing-outcome mark p m (Emits e' n) ok input rest e new h = subst IsPassingOne (same_event h) ok.0
passing-outcome mark p m Takes ok input rest e new h = subst IsPassingOne (same_event h) tt
passing-outcome mark p m Peeks ok input rest e new h = subst IsPassingOne (same_event h) p
passing-outcome mark p m (Stops s) ok input rest e new h = absurd (cc h)

passing-one : (e : Option Event) (es : List Event) → IsPassingOne e → All IsPassing es → All IsPassing (with_event e es)
passing-one None es h p = p
passing-one (Some e) es h p = All-append IsPassing es (e ∷ []) p (All-cons IsPassing e [] h (All-nil IsPassing))

passing-event : (c : Assembled) (g : Grouped) (m new : Sparc) (input rest : List ℕ) (e : Option Event) (es : List Event) → sparc_step c g m input ≡ Went e new rest → All IsPassing es → All IsPassing (with_event e es)
passing-event c g m new input rest e es h p =
    let mark = event_at c g m.pc in
    passing-one e es (passing-outcome mark (passing-mark mark (mark_is_mark c (group_at g.starts m.pc)).passing) (entered g m) (fetched c g m) (fetched-ok c g m).ok input rest e new h) p

-- before the first step
pub running_start : (c : Assembled) (g : Grouped) (m : Sparc) (left held : Option (List ℕ)) → Running c g m 0 m left left held held
running_start c g m None held = record {
  used = [];
  ended = false;
  events = [];
  passing = All-nil IsPassing;
  reached = λ rest q. refl;
  ahead = λ q. absurd (cc q);
  source = tt;
  put = adds_nothing held;
}
running_start c g m (Some bytes) held = record {
  used = [];
  ended = false;
  events = [];
  passing = All-nil IsPassing;
  reached = λ rest q. refl;
  ahead = λ q. absurd (cc q);
  source = record { rest = bytes; whole = refl; now = refl; end = λ q. absurd (cc q) };
  put = adds_nothing held;
}

-- the state after one more step
reached_next : (c : Assembled) (g : Grouped) (old now : Sparc) (n : ℕ) (input rest : List ℕ) (es : List Event) (s : Stepped) → run (next c g) n (Going old input []) ≡ Going now rest es → sparc_step c g now rest ≡ s → run (next c g) (n + 1) (Going old input []) ≡ next_state now rest es s
reached_next c g old now n input rest es s h e = run-suc (next c g) n (Going old input []) ∙ ap (next c g) h ∙ ap (next_state now rest es) e

-- a source that told its bytes: what it has now, after a step with this input
source_same : (left left' left'' : Option (List ℕ)) (used input rest : List ℕ) (ended : Bool) → IfSome left (λ bytes. Taken-from used ended bytes left') → Rests left' left'' input rest → rest ≡ input → IfSome left (λ bytes. Taken-from used ended bytes left'')
source_same None left' left'' used input rest ended t r e = tt
source_same (Some bytes) left' left'' used input rest ended t r e =
    let r' : Rests (Some t.rest) left'' input rest = subst (λ v. Rests v left'' input rest) t.now r in
    record { rest = t.rest; whole = t.whole; now = r'.1 ∙ ap (λ v. Some v) (e ∙ sym r'.0); end = t.end }

source_byte : (left left' left'' : Option (List ℕ)) (used input rest : List ℕ) (ended : Bool) (b : ℕ) → IfSome left (λ bytes. Taken-from used ended bytes left') → Rests left' left'' input rest → input ≡ b ∷ rest → (ended ≡ true → ⊥) → IfSome left (λ bytes. Taken-from (used ++ b ∷ []) ended bytes left'')
source_byte None left' left'' used input rest ended b t r e unmet = tt
source_byte (Some bytes) left' left'' used input rest ended b t r e unmet =
    let r' : Rests (Some t.rest) left'' input rest = subst (λ v. Rests v left'' input rest) t.now r in
    record { rest = rest; whole = t.whole ∙ ap (λ (v : List ℕ). used ++ v) (r'.0 ∙ e) ∙ sym (append_assoc used (b ∷ []) rest); now = r'.1; end = λ q. absurd (unmet q) }

source_end : (left left' left'' : Option (List ℕ)) (used input rest : List ℕ) (ended : Bool) → IfSome left (λ bytes. Taken-from used ended bytes left') → Rests left' left'' input rest → input ≡ [] → rest ≡ [] → IfSome left (λ bytes. Taken-from used true bytes left'')
source_end None left' left'' used input rest ended t r e f = tt
source_end (Some bytes) left' left'' used input rest ended t r e f =
    let r' : Rests (Some t.rest) left'' input rest = subst (λ v. Rests v left'' input rest) t.now r in
    record { rest = rest; whole = t.whole ∙ ap (λ (v : List ℕ). used ++ v) (r'.0 ∙ e ∙ sym f); now = r'.1; end = λ q. f }

-- one more step
pub running_step : (c : Assembled) (g : Grouped) (old now new : Sparc) (n : ℕ) (l l' l'' h h' h'' : Option (List ℕ)) (e : Option Event) → Running c g old n now l l' h h' → Made c g now new l' l'' e → Adds h' h'' (bytes_of e) → Running c g old (n + 1) new l l'' h h''
running_step c g old now new n l l' l'' h h' h'' e r m p =
    let passing = passing-event c g now new m.input m.rest e r.events m.step r.passing in
    let put : Adds h h'' (puts (with_event e r.events)) = subst (λ v. Adds h h'' v) (sym (puts-event e r.events)) (adds-adds h h' h'' (puts r.events) (bytes_of e) r.put p) in
    elim (uses c g now new m.input m.rest e m.step) [
      | inl s ↦ record {
        used = r.used;
        ended = r.ended;
        events = with_event e r.events;
        passing = passing;
        reached = λ rest q. reached_next c g old now n (r.used ++ rest) rest r.events (Went e new rest) (r.reached rest q) (s.is rest);
        ahead = λ q. s.end (r.ahead q);
        source = source_same l l' l'' r.used m.input m.rest r.ended r.source m.told s.stays;
        put = put;
      }
      | inr (inl b) ↦
          let unmet : r.ended ≡ true → ⊥ = λ q. absurd (cc (r.ahead q, b.nothing)) in
          record {
            used = r.used ++ b.byte ∷ [];
            ended = r.ended;
            events = with_event e r.events;
            passing = passing;
            reached = λ rest q.
                let a : r.used ++ (b.byte ∷ rest) ≡ (r.used ++ b.byte ∷ []) ++ rest = sym (append_assoc r.used (b.byte ∷ []) rest) in
                sym (ap (λ (i : List ℕ). run (next c g) (n + 1) (Going old i [])) a)
                ∙ reached_next c g old now n (r.used ++ (b.byte ∷ rest)) (b.byte ∷ rest) r.events (Went e new rest) (r.reached (b.byte ∷ rest) (λ k. absurd (unmet k))) (b.is rest);
            ahead = λ q. absurd (unmet q);
            source = source_byte l l' l'' r.used m.input m.rest r.ended b.byte r.source m.told b.begins unmet;
            put = put;
          }
      | inr (inr z) ↦ record {
        used = r.used;
        ended = true;
        events = with_event e r.events;
        passing = passing;
        reached = λ rest q. subst (λ (i : List ℕ). run (next c g) (n + 1) (Going old (r.used ++ i) []) ≡ Going new i (with_event e r.events)) (sym (q refl))
            (reached_next c g old now n (r.used ++ []) [] r.events (Went e new []) (r.reached [] (λ k. refl)) z.is);
        ahead = λ q. z.end;
        source = source_end l l' l'' r.used m.input m.rest r.ended r.source m.told z.empty z.stays;
        put = put;
      }
    ]

-- the rest of the input where a run stops
pub record Closing (used : List ℕ) (ended : Bool) (left left' : Option (List ℕ)) : Type 0 where
  pub rest : List ℕ
  pub fits : ended ≡ true → rest ≡ []
  pub told : Rests left left' (used ++ rest) rest

pub closing : (used : List ℕ) (ended : Bool) (left left' : Option (List ℕ)) → IfSome left (λ bytes. Taken-from used ended bytes left') → Closing used ended left left'
closing used ended None left' t = record { rest = []; fits = λ q. refl; told = tt }
closing used ended (Some bytes) left' t = record { rest = t.rest; fits = t.end; told = (t.whole, t.now) }

-- a source that told its bytes, after a step that was not made
source_still : (left left' left'' : Option (List ℕ)) (used : List ℕ) (ended : Bool) → IfSome left (λ bytes. Taken-from used ended bytes left') → Rests left' left'' (told left') (told left') → IfSome left (λ bytes. Taken-from used ended bytes left'')
source_still left left' left'' used ended t r = source_same left left' left'' used (told left') (told left') ended t r refl

-- where the definition stops
stands_stopped : (c : Assembled) (g : Grouped) (state : SparcState) (r : Reached) (n : Counted) (f f' : Faults) (s : Stop) → IsOwn s → state ≡ halted r s → StandsAt c g state r n f f' s
stands_stopped c g state r n f f' S.End own h = h
stands_stopped c g state r n f f' (S.Fail k p) own h = h
stands_stopped c g state r n f f' (S.Full hp sp need) own h = h
stands_stopped c g state r n f f' S.Steps own h = absurd own
stands_stopped c g state r n f f' (S.Stuck pc) own h = h
stands_stopped c g state r n f f' S.ReadFault own h = absurd own
stands_stopped c g state r n f f' S.WriteFault own h = absurd own

own_stop : (c : Assembled) (g : Grouped) (m : Sparc) (s : Stop) → fetched c g m ≡ Stops s → IsOwn s
own_stop c g m s h = let p : IsLawful (entered g m) (Stops s) = subst (λ o. IsLawful (entered g m) o) h (fetched-ok c g m).ok in p

rose_from : (f g h : ℕ) → f ≤ g → Rose g h → Rose f h
rose_from f g h p q = omega (arith, p, q)

-- the run stops where a step was not made
pub run_stopped : (c : Assembled) (g : Grouped) (old now new : Sparc) (n steps : ℕ) (f j k : Faults) (l l' l'' h h' h'' : Option (List ℕ)) (s : Stop) → Running c g old n now l l' h h' → n < steps → f.read ≤ j.read → f.write ≤ j.write → StepDoes c g now new l' l'' h' h'' j k (Step.Stopped s) → RunDoes c g old new l l'' h h'' f k steps s
run_stopped c g old now new n steps f j k l l' l'' h h' h'' s r lt later later' d =
    let close : Closing r.used r.ended l l'' = closing r.used r.ended l l'' (source_still l l' l'' r.used r.ended r.source d.2) in
    let here : run (next c g) n (Going old (r.used ++ close.rest) []) ≡ Going now close.rest r.events = r.reached close.rest close.fits in
    let put : Adds h h'' (puts r.events) = adds-nothing h h' h'' (puts r.events) r.put d.3 in
    subst (λ m. RunDoes c g old m l l'' h h'' f k steps s) (sym d.1) (elim d.0 [
      | inl e ↦ record {
        taken = n + 1;
        input = r.used ++ close.rest;
        rest = close.rest;
        events = r.events;
        within = omega (arith, lt);
        told = close.told;
        passing = r.passing;
        stands = stands_stopped c g _ (record { state = now; rest = close.rest; events = r.events }) (record { taken = n + 1; allowed = steps }) f k s (own_stop c g now s e)
            (reached_next c g old now n (r.used ++ close.rest) close.rest r.events (Stopped s) here (ap (λ (o : Outcome). with_mark (event_at c g now.pc) (with_input (entered g now) close.rest o)) e));
        put = put;
      }
      | inr (inl w) ↦ subst (λ v. RunDoes c g old now l l'' h h'' f k steps v) (sym w.stop) (record {
        taken = n;
        input = r.used ++ close.rest;
        rest = close.rest;
        events = r.events;
        within = omega (arith, lt);
        told = close.told;
        passing = r.passing;
        stands = record { goes = here; before = lt; asks = w.asks; rose = rose_from f.read j.read k.read later w.rose };
        put = put;
      })
      | inr (inr w) ↦ subst (λ v. RunDoes c g old now l l'' h h'' f k steps v) (sym w.stop) (record {
        taken = n;
        input = r.used ++ close.rest;
        rest = close.rest;
        events = r.events;
        within = omega (arith, lt);
        told = close.told;
        passing = r.passing;
        stands = record { goes = here; before = lt; puts = w.puts; rose = rose_from f.write j.write k.write later' w.rose };
        put = put;
      })
    ])

-- the run has made all its steps
pub run_made : (c : Assembled) (g : Grouped) (old now : Sparc) (n steps : ℕ) (f k : Faults) (l l' h h' : Option (List ℕ)) → Running c g old n now l l' h h' → n ≡ steps → RunDoes c g old now l l' h h' f k steps S.Steps
run_made c g old now n steps f k l l' h h' r e =
    let close : Closing r.used r.ended l l' = closing r.used r.ended l l' r.source in
    record {
      taken = n;
      input = r.used ++ close.rest;
      rest = close.rest;
      events = r.events;
      within = omega (arith, e);
      told = close.told;
      passing = r.passing;
      stands = record { goes = r.reached close.rest close.fits; all = e };
      put = r.put;
    }
