-- A report under way: what has been come to, counted, measured and put after so many steps.
use Rattle.std.proofs.Common.{◌≡◌, ℕ, ◌+◌, ◌≤◌, max, List, [], ◌∷◌, ◌++◌, All, length, map, Option, Some, None, refl, sym, ap, ◌∙◌, subst, arith, length-append}
use Rattle.std.specs.Prelude.{Ok}
use Rattle.std.proofs.lemmas.List.{length-replicate}
use Rattle.std.proofs.lemmas.List.Elements.{All-append, All-cons, All-nil}
use Rattle.tb_prim.specs.declared.event.Event.{Event}
use Rattle.tb_lines.specs.Lines.{joined}
use Rattle.tb_lines.proofs.Joined.{put_more}
use Rattle.tb_mac.specs.declared.word.Word.{Word}
use Rattle.tb_mac.specs.Assembled.{Assembled}
use Rattle.tb_mac.specs.Frames.{Framed, flat}
use Rattle.tb_mac.specs.FramedRuns.{FramedState, Runs, Stays, flat_state, framed_machine, framed_of}
use Rattle.tb_mac.specs.Layout.{start_size, start_words}
use Rattle.tb_mac.specs.LiveWords.{IsWalkable, machine_words}
use Rattle.tb_mac.specs.MacEvents.{Going, events_of, mac_start, with_event}
use Rattle.tb_mac.specs.MacStep.{Mac, Outcome, Goes, Emits, TakesTo, PeeksTo, Stops, Went, fetched, with_input}
use Rattle.tb_mac.proofs.FramedRunLaws.{framed_run}
use Rattle.tb_macm.specs.RunDoes.{IsPassing}
use Rattle.tb_macm.specs.Steps.{Adds, Made}
use Rattle.tb_macm.proofs.Layouts.{length_start_words}
use Rattle.tb_macm.proofs.StepLaws.{adds_nothing}
use Rattle.tb_macm.proofs.StepRules.{IsLawful, fetched-ok}
use Rattle.tb_macm.proofs.Uses.{same_event}
use Rattle.tb_semantics.specs.Runs.{after}
use Rattle.tb_reporting.specs.Reports.{Asked, Measure, StaysWalkable, goes_on, lines, measure_line, measures, peak, state_after, words_after}
use Rattle.tb_reporting.specs.calls.Meters.{Counts, counted, measured}
use Rattle.tb_reporting.proofs.Lengths.{step-long}
use Rattle.tb_reporting.proofs.Reporting.{lines-more, measures-step, peak-append, stepped}

-- the machine goes on after n steps; its events are counted, and what was measured has been put
pub record UnderWay (c : Assembled) (a : Asked) (n : ℕ) (mac : Mac) (left : List ℕ) (events top : ℕ) (held held' : Option (List ℕ)) : Type 0 where
  pub es : List Event
  pub at : state_after c a n ≡ Going mac left es
  pub passing : All IsPassing es
  pub count : events ≡ length es
  pub few : events ≤ n
  pub most : top ≡ peak (measures c a n)
  pub long : length mac.memory ≡ a.heap
  pub put : Adds held held' (lines c a n)

-- before the first step
pub way-start : (c : Assembled) (a : Asked) (held : Option (List ℕ)) → start_size c.parts + 64 ≤ a.heap →
    UnderWay c a 0 (mac_start c a.heap) a.input 0 0 held held
way-start c a held h =
    let l = length_start_words c.parts in
    record {
      es = [];
      at = refl;
      passing = All-nil IsPassing;
      count = refl;
      few = omega arith;
      most = refl;
      long = omega (arith, h, l, length-append {A = Word}, length-replicate {A = Word});
      put = adds_nothing held;
    }

passing-event : (m : Mac) (o : Outcome) → IsLawful m o → (input rest : List ℕ) (e : Option Event) (new : Mac) (es : List Event) →
    with_input m input o ≡ Went e new rest → All IsPassing es → All IsPassing (with_event e es)
passing-event m (Goes n) ok input rest e new es h p = subst (λ v. All IsPassing (with_event v es)) (same_event h) p
passing-event m (Emits v n) ok input rest e new es h p =
    subst (λ v. All IsPassing (with_event v es)) (same_event h) (All-append IsPassing es (v ∷ []) p (All-cons IsPassing v [] ok.0 (All-nil IsPassing)))
passing-event m (TakesTo a) ok input rest e new es h p =
    subst (λ v. All IsPassing (with_event v es)) (same_event h) (All-append IsPassing es _ p (All-cons IsPassing _ [] tt (All-nil IsPassing)))
passing-event m (PeeksTo a) ok input rest e new es h p = subst (λ v. All IsPassing (with_event v es)) (same_event h) p
passing-event m (Stops s) ok input rest e new es h p = absurd (cc h)

flat-going : (s : FramedState) (mac : Mac) (left : List ℕ) (es : List Event) → flat_state s ≡ Going mac left es → flat (framed_of s) ≡ mac
flat-going (Runs m input es') mac left es h = cc h
flat-going (Stays m s input es') mac left es h = absurd (cc h)

-- what is known of the words that a walk counts: at each view of the machine with its frames that live maps speak of
abbrev pub Walked : Assembled → Mac → (ℕ → Type 0) → Type 0
Walked c mac P = (m : Framed) → flat m ≡ mac → IsWalkable c m → P (machine_words c m)

-- the view of the machine after so many steps is one of these
pub walked : (c : Assembled) (a : Asked) (n : ℕ) (mac : Mac) (left : List ℕ) (es : List Event) (P : ℕ → Type 0) →
    start_size c.parts + 64 ≤ a.heap → StaysWalkable c a → state_after c a n ≡ Going mac left es → Walked c mac P →
    P (words_after c a n)
walked c a n mac left es P h w at p =
    let s = after (framed_machine c a.heap a.input) n in
    let fits : length (start_words c.parts) ≤ a.heap = omega (arith, h, length_start_words c.parts) in
    p (framed_of s) (flat-going s mac left es (framed_run c a.heap a.input n fits ∙ at)) (w n)

length-counted : (e : Option Event) (es : List Event) → length (with_event e es) ≡ counted e (length es)
length-counted None es = refl
length-counted (Some e) es = length-append es (e ∷ [])

counted-few : (e : Option Event) (events n : ℕ) → events ≤ n → counted e events ≤ n + 1
counted-few None events n h = omega arith
counted-few (Some e) events n h = omega arith

-- what one more step comes to and adds to the measures
pub record Advanced (c : Assembled) (a : Asked) (n : ℕ) (new : Mac) (left : List ℕ) (es : List Event) (ms : List Measure) : Type 0 where
  pub at : state_after c a (n + 1) ≡ Going new left es
  pub more : measures c a (n + 1) ≡ measures c a n ++ ms

pub advanced : (c : Assembled) (a : Asked) (n : ℕ) (mac new : Mac) (left left' : List ℕ) (events top : ℕ) (held held' : Option (List ℕ))
    (e : Option Event) (w : UnderWay c a n mac left events top held held') →
    Made (fetched c mac) mac new (Some left) (Some left') e →
    Advanced c a n new left' (with_event e w.es) (measured e a.every events (words_after c a (n + 1)))
advanced c a n mac new left left' events top held held' e w m =
    let at = stepped c a n mac new left left' w.es e w.at m in
    record {
      at = at;
      more = measures-step c a n events e (ap goes_on at) (ap (λ s. length (events_of s)) w.at ∙ sym w.count)
          (ap (λ s. length (events_of s)) at ∙ length-counted e w.es ∙ ap (counted e) (sym w.count));
    }

-- one more step was counted, and measured where that is asked for
pub way-counted : (c : Assembled) (a : Asked) (n : ℕ) (mac new : Mac) (left left' : List ℕ) (events top top' : ℕ)
    (held mid last : Option (List ℕ)) (e : Option Event) → UnderWay c a n mac left events top held mid →
    Made (fetched c mac) mac new (Some left) (Some left') e →
    start_size c.parts + 64 ≤ a.heap → StaysWalkable c a →
    Walked c new (λ words. Counts (measured e a.every events words) top top' mid last (Ok tt)) →
    UnderWay c a (n + 1) new left' (counted e events) top' held last
way-counted c a n mac new left left' events top top' held mid last e w m fits stays counts =
    let v = advanced c a n mac new left left' events top held mid e w m in
    let k = walked c a (n + 1) new left' (with_event e w.es) (λ words. Counts (measured e a.every events words) top top' mid last (Ok tt))
    fits stays v.at counts in
    let ms = measured e a.every events (words_after c a (n + 1)) in
    record {
      es = with_event e w.es;
      at = v.at;
      passing = passing-event mac (fetched c mac) (fetched-ok c mac).ok m.input m.rest e new w.es m.step w.passing;
      count = ap (counted e) w.count ∙ sym (length-counted e w.es);
      few = counted-few e events n w.few;
      most = k.most ∙ ap (max (peak ms)) w.most ∙ sym (peak-append (measures c a n) ms) ∙ sym (ap peak v.more);
      long = step-long c mac new m.input m.rest e m.step ∙ w.long;
      put = put_more held mid last (lines c a n) (joined (map measure_line ms)) (lines c a (n + 1)) (lines-more c a n ms v.more) w.put k.put;
    }
