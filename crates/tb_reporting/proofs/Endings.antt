-- How a report ends: where a line is not put whole, where the machine stops, and where all steps were made.
use Rattle.std.proofs.Common.{◌≡◌, ℕ, ◌+◌, ◌≤◌, ◌<◌, List, [], ◌++◌, All, map, Option, Some, None, IfSome, refl, sym, ap, ◌∙◌, subst, arith, append_assoc, append-nil}
use Rattle.std.specs.Prelude.{Err}
use Rattle.tb_prim.specs.declared.event.Event.{Event}
use Rattle.tb_prim.specs.declared.event.Stop.{Stop}
use Rattle.tb_base.specs.declared.outside.Failed.{Failed}
use Rattle.tb_base.specs.Outside.{PutsSome, Rose}
use Rattle.tb_lines.specs.Lines.{joined}
use Rattle.tb_lines.proofs.Joined.{Split, put_more, put_some}
use Rattle.tb_mac.specs.Assembled.{Assembled}
use Rattle.tb_mac.specs.Bounds.{space_bound}
use Rattle.tb_mac.specs.Layout.{start_size}
use Rattle.tb_mac.specs.MacEvents.{MacState, Halted, with_event, with_stop}
use Rattle.tb_mac.specs.MacStep.{Mac, Stops, fetched}
use Rattle.tb_macm.specs.RunDoes.{IsPassing}
use Rattle.tb_macm.specs.Steps.{Adds, Made}
use Rattle.tb_macm.proofs.StepRules.{IsLawful, IsOwn, fetched-ok}
use Rattle.tb_running.specs.Runs.{Gained, Sunk}
use Rattle.tb_reporting.specs.Reports.{Asked, ReportEnds, Reports, StaysWalkable, ended, failed, full, goes_on, lines, measure_line, measures, not_put, out_of_steps, peak, peak_line, peak_of, report, state_after, stuck, words_after}
use Rattle.tb_reporting.specs.calls.Meters.{Counts, Finishes, cut, measured, whole}
use Rattle.tb_reporting.proofs.Reporting.{lines-more, measures-stopped, stopped}
use Rattle.tb_reporting.proofs.UnderWay.{UnderWay, Walked, advanced, walked}

-- a sink before a report and after it
abbrev pub sink_of : Option (List ℕ) → Option (List ℕ) → ℕ → ℕ → Sunk
sink_of held held' f f' = record { before = held; now = held'; faults = f; faults_now = f' }

-- only a front of the report was put
cut-short : (c : Assembled) (a : Asked) (t : ℕ) (held held' : Option (List ℕ)) (f f' : ℕ) →
    IfSome held (λ bs. (n : ℕ) × PutsSome bs held' (report c a t) n) → Rose f f' →
    ReportEnds c a (state_after c a t) t (sink_of held held' f f') Stop.WriteFault
cut-short c a t None held' f f' p r = not_put 0 tt r
cut-short c a t (Some bs) held' f f' p r = not_put p.0 (p.1).front r

-- the line of an event was not put whole
pub line-cut : (c : Assembled) (a : Asked) (n : ℕ) (mac new : Mac) (left left' : List ℕ) (events top top' : ℕ)
    (held mid last : Option (List ℕ)) (e : Option Event) (x : Failed) (f g f' : ℕ) → UnderWay c a n mac left events top held mid →
    Made (fetched c mac) mac new (Some left) (Some left') e →
    start_size c.parts + 64 ≤ a.heap → StaysWalkable c a → n < a.steps →
    Walked c new (λ words. Counts (measured e a.every events words) top top' mid last (Err x)) →
    f ≤ g → Rose g f' → Reports c a (sink_of held last f f') Stop.WriteFault
line-cut c a n mac new left left' events top top' held mid last e x f g f' w m fits stays lt counts later rose =
    let v = advanced c a n mac new left left' events top held mid e w m in
    let k = walked c a (n + 1) new left' (with_event e w.es) (λ words. Counts (measured e a.every events words) top top' mid last (Err x))
    fits stays v.at counts in
    let ms = measured e a.every events (words_after c a (n + 1)) in
    let own = joined (map measure_line ms) in
    let line = peak_line c (measures c a (n + 1)) in
    let split : Split (report c a (n + 1)) (lines c a n) own = record {
      rest = line;
      whole = ap (λ xs. xs ++ line) (lines-more c a n ms v.more) ∙ append_assoc (lines c a n) own line;
    } in
    record {
      taken = n + 1;
      within = omega (arith, lt);
      ends = cut-short c a (n + 1) held last f f' (put_some held mid last (lines c a n) own (report c a (n + 1)) split w.put k.put)
          (omega (arith, later, rose));
    }

-- the last line was put, or only a front of it
last-line : (c : Assembled) (a : Asked) (t : ℕ) (held mid last : Option (List ℕ)) (f g f' : ℕ) (stop answer : Stop) →
    Adds held mid (lines c a t) → Finishes mid last g f' (peak_line c (measures c a t)) stop answer → f ≤ g →
    (Gained (sink_of held last f f') (report c a t) → ReportEnds c a (state_after c a t) t (sink_of held last f f') stop) →
    ReportEnds c a (state_after c a t) t (sink_of held last f f') answer
last-line c a t held mid last f g f' stop answer put (whole added) later ends =
    ends (put_more held mid last (lines c a t) (peak_line c (measures c a t)) (report c a t) refl put added)
last-line c a t held mid last f g f' stop answer put (cut front rose) later ends =
    let line = peak_line c (measures c a t) in
    let split : Split (report c a t) (lines c a t) line = record { rest = []; whole = ap (λ xs. lines c a t ++ xs) (sym (append-nil line)) } in
    cut-short c a t held last f f' (put_some held mid last (lines c a t) line (report c a t) split put front) (omega (arith, later, rose))

-- where the machine stops by itself
ends-with : (c : Assembled) (a : Asked) (state : MacState) (t : ℕ) (out : Sunk) (mac : Mac) (rest : List ℕ) (es : List Event) (s : Stop) →
    IsOwn s → state ≡ Halted mac s rest (with_stop s es) → All IsPassing es → Gained out (report c a t) → ReportEnds c a state t out s
ends-with c a state t out mac rest es Stop.End own h p g = ended rest es h p g
ends-with c a state t out mac rest es (Stop.Fail e k) own h p g = failed rest es e k h p g
ends-with c a state t out mac rest es (Stop.Full x y z) own h p g = full rest es x y z h p g
ends-with c a state t out mac rest es Stop.Steps own h p g = absurd own
ends-with c a state t out mac rest es (Stop.Stuck pc) own h p g = stuck rest es pc h p g
ends-with c a state t out mac rest es Stop.ReadFault own h p g = absurd own
ends-with c a state t out mac rest es Stop.WriteFault own h p g = absurd own

pub report-stopped : (c : Assembled) (a : Asked) (n : ℕ) (mac : Mac) (left : List ℕ) (events top : ℕ) (held mid last : Option (List ℕ))
    (f g f' : ℕ) (stop answer : Stop) → UnderWay c a n mac left events top held mid → n < a.steps → fetched c mac ≡ Stops stop →
    f ≤ g → Finishes mid last g f' (peak_of top (space_bound c.code)) stop answer → Reports c a (sink_of held last f f') answer
report-stopped c a n mac left events top held mid last f g f' stop answer w lt stops later fin =
    let at = stopped c a n mac left w.es stop w.at stops in
    let same = measures-stopped c a n (ap goes_on at) in
    let own : IsOwn stop = let k : IsLawful mac (Stops stop) = subst (λ o. IsLawful mac o) stops (fetched-ok c mac).ok in k in
    let line : peak_of top (space_bound c.code) ≡ peak_line c (measures c a (n + 1)) =
    ap (λ k. peak_of k (space_bound c.code)) (w.most ∙ sym (ap peak same)) in
    record {
      taken = n + 1;
      within = omega (arith, lt);
      ends = last-line c a (n + 1) held mid last f g f' stop answer
          (subst (λ ms. Adds held mid (joined (map measure_line ms))) (sym same) w.put)
          (subst (λ (xs : List ℕ). Finishes mid last g f' xs stop answer) line fin) later
          (λ gained. ends-with c a (state_after c a (n + 1)) (n + 1) (sink_of held last f f') mac left w.es stop own at w.passing gained);
    }

-- all steps were made
pub report-made : (c : Assembled) (a : Asked) (n : ℕ) (mac : Mac) (left : List ℕ) (events top : ℕ) (held mid last : Option (List ℕ))
    (f g f' : ℕ) (answer : Stop) → UnderWay c a n mac left events top held mid → n ≡ a.steps →
    f ≤ g → Finishes mid last g f' (peak_of top (space_bound c.code)) Stop.Steps answer → Reports c a (sink_of held last f f') answer
report-made c a n mac left events top held mid last f g f' answer w all later fin = record {
  taken = n;
  within = omega (arith, all);
  ends = last-line c a n held mid last f g f' Stop.Steps answer w.put
      (subst (λ k. Finishes mid last g f' (peak_of k (space_bound c.code)) Stop.Steps answer) w.most fin) later
      (λ gained. out_of_steps left w.es w.at w.passing all gained);
}
