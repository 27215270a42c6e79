-- What is promised of a run of code that keeps the reference machine.
use Rattle.std.proofs.Common.{◌≡◌, ℕ, suc, ◌+◌, ◌*◌, ◌≤◌, ◌<◌, ◌++◌, length, length-append, List, [], ◌∷◌, All, refl, sym, ap, ◌∙◌, subst, false, true, slice_index_or, ◌⊎◌, inl, inr, append-nil, arith}
use Rattle.std.proofs.Math.Nat.{mul-le-mul_left}
use Rattle.tb_prim.specs.declared.event.Event.{Event}
use Rattle.tb_prim.specs.declared.event.Stop.{Stop}
use Rattle.tb_semantics.specs.Keeps.{IsSameWindow, Keeps}
use Rattle.tb_semantics.specs.Runs.{Ends, Machine, after}
use Rattle.tb_core.specs.Events.{EndsLast, HasStopped, is_last}
use Rattle.tb_core.specs.Measures.{reference_measured}
use Rattle.tb_core.specs.OperandOrder.{order_of}
use Rattle.tb_core.specs.Reference as ref
use Rattle.tb_core.specs.Space.{made_of, space_of}
use Rattle.tb_core.specs.Tree.{ProgramTree}
use Rattle.tb_core.specs.Width.{square_sum}
use Rattle.tb_mac.specs.Frames.{Framed}
use Rattle.tb_mac.specs.FramedRuns.{FramedState, Runs as FramedRuns, Stays, flat_state, framed_events, framed_full, framed_machine, measured_machine}
use Rattle.tb_mac.specs.LiveWords.{IsWalkable, machine_words}
use Rattle.tb_mac.specs.MacEvents as mac
use Rattle.tb_mac.specs.MacEvents.{MacState, Going, Halted}
use Rattle.tb_mac.specs.MacStep.{Mac}
use Rattle.tb_macm.specs.RunDoes.{IsPassing}
use Rattle.tb_passes.specs.Passes.{program_code}
use Rattle.tb_twobit.specs.Words.{Go}
use Rattle.tb_twobit.specs.Sinks.{Sunk}
use Rattle.tb_twobit.specs.Stopping as stops
use Rattle.tb_twobit.specs.Stopping.{IsNeverStuck, IsPromised, NeedsNoMore, Stops, machine_of}
use Rattle.tb_twobit.specs.SpaceSafe.{HasNarrowFactor, IsSmallMemory, IsSpaceSafe, IsWithinFactor, code_machine, factor_of, frames_after, reference_of}
use Rattle.tb_twobit.proofs.ReferenceRuns.{ReferenceLaws, begins, still_stopped}

-- what is known of code: the laws of the layers below, for one program, one memory and one input
pub record CodeLaws (p : ProgramTree) (heap : ℕ) (input : List ℕ) : Type 0 where
  pub reference : ReferenceLaws p input
  pub keeps : Keeps (measured_machine (program_code p) heap input) (reference_measured p (order_of p) input) 1
  pub stands : (n : ℕ) →
      (framed_machine (program_code p) heap input).step (after (framed_machine (program_code p) heap input) n)
      ≡ after (framed_machine (program_code p) heap input) n →
      framed_full (after (framed_machine (program_code p) heap input) n) ≡ false →
      (m : ℕ) × HasStopped (after (reference_of p input) m)
      × (framed_events (after (framed_machine (program_code p) heap input) n)
      ≡ ref.events_of (after (reference_of p input) m))
  pub flat : (n : ℕ) → flat_state (after (framed_machine (program_code p) heap input) n)
      ≡ after (code_machine p heap input) n
  pub quick : (n : ℕ) (m : Framed) (rest : List ℕ) (es : List Event) →
      after (framed_machine (program_code p) heap input) n ≡ FramedRuns m rest es →
      n < (8 * square_sum p + 10) * (length es + 1)
  pub narrow : HasNarrowFactor p
  pub walkable : (n : ℕ) → IsWalkable (program_code p) (frames_after p heap input n)
  pub space : (n : ℕ) → (m : ℕ) × IsSameWindow (framed_machine (program_code p) heap input) (reference_of p input) n m
      × IsWithinFactor (factor_of p) (machine_words (program_code p) (frames_after p heap input n))
      (space_of p (after (reference_of p input) m))
  pub small : (n : ℕ) → framed_full (after (framed_machine (program_code p) heap input) n) ≡ true →
      (k : ℕ) × (l : ℕ) × IsSameWindow (framed_machine (program_code p) heap input) (reference_of p input) n k
      × IsSameWindow (framed_machine (program_code p) heap input) (reference_of p input) n l
      × (heap < factor_of p * (space_of p (after (reference_of p input) k) + made_of (after (reference_of p input) l))
      + factor_of p)

flat_events : (s : FramedState) → mac.events_of (flat_state s) ≡ framed_events s
flat_events (FramedRuns m input es) = refl
flat_events (Stays m s input es) = refl

-- events that pass do not end with the last of a run
passing_last : (front : List Event) (e : Event) → All IsPassing (front ++ e ∷ []) → IsPassing e
passing_last front e h =
    subst IsPassing (index_last front e e) (h (length front) e (let l = length-append front (e ∷ []) in omega arith))
  where
    index_last : (xs : List Event) (x d : Event) → slice_index_or (xs ++ x ∷ []) (length xs) d ≡ x
    index_last [] x d = refl
    index_last (y ∷ xs) x d = index_last xs x d

not_last : (e : Event) → IsPassing e → is_last e ≡ true → ⊥
not_last (Event.Enter l) h e = cc
not_last Event.Back h e = cc
not_last (Event.Put c) h e = cc
not_last (Event.Took t) h e = cc
not_last Event.End h e = h
not_last (Event.Fail c q) h e = h

-- where a run has stopped its events do not all pass
no_pass : (s : ref.State) → HasStopped s → EndsLast s → All IsPassing (ref.events_of s) → ⊥
no_pass (ref.Running c es) h l a = h
no_pass (ref.Stopped c es) h l a = not_last l.last (passing_last l.front l.last (subst (All IsPassing) l.whole a)) l.stops
no_pass (ref.Lost c es) h l a = h

module _ (go : Go) (p : ProgramTree) (input : List ℕ) (laws : CodeLaws p go.heap input) where
  abbrev at : ℕ → MacState
  at n = after (machine_of go p input) n

  abbrev source : Machine Event ref.State
  source = reference_of p input

  like_reference : (n : ℕ) → (m : ℕ) × (mac.events_of (at n) ≡ ref.events_of (after (reference_of p input) m))
  like_reference n =
      let w = (laws.keeps).windows n in
      (w.0, ap mac.events_of (sym (laws.flat n)) ∙ flat_events (after (framed_machine (program_code p) go.heap input) n) ∙ w.1)

  -- a state without a next step stands still, and is not full
  stuck_stands : (s : FramedState) (m : Mac) (pc : ℕ) (rest : List ℕ) (es : List Event) →
      flat_state s ≡ Halted m (Stop.Stuck pc) rest es →
      ((framed_machine (program_code p) go.heap input).step s ≡ s) × (framed_full s ≡ false) × (framed_events s ≡ es)
  stuck_stands (FramedRuns x y z) m pc rest es e = cc
  stuck_stands (Stays x (Stop.Stuck q) y z) m pc rest es e = (refl, refl, cc)
  stuck_stands (Stays x (Stop.Full h s n) y z) m pc rest es e = cc
  stuck_stands (Stays x Stop.End y z) m pc rest es e = cc
  stuck_stands (Stays x (Stop.Fail c q) y z) m pc rest es e = cc
  stuck_stands (Stays x Stop.Steps y z) m pc rest es e = cc
  stuck_stands (Stays x Stop.ReadFault y z) m pc rest es e = cc
  stuck_stands (Stays x Stop.WriteFault y z) m pc rest es e = cc

  pub never_stuck : (n : ℕ) (m : Mac) (pc : ℕ) (rest : List ℕ) (es : List Event) → at n ≡ Halted m (Stop.Stuck pc) rest es →
      All IsPassing es → ⊥
  never_stuck n m pc rest es e a =
      let s = stuck_stands (after (framed_machine (program_code p) go.heap input) n) m pc rest es (laws.flat n ∙ e) in
      let end = laws.stands n s.0 s.1 in
      no_pass (after source end.0) end.1 ((laws.reference).ends_last end.0)
      (subst (All IsPassing) (sym s.2 ∙ end.2) a)

  -- a machine that goes on has emitted fewer events than a reference that has stopped
  goes_framed : (s : FramedState) (m : Mac) (rest : List ℕ) (es : List Event) → flat_state s ≡ Going m rest es →
      (f : Framed) × (s ≡ FramedRuns f rest es)
  goes_framed (FramedRuns f x y) m rest es e = (f, (let a : x ≡ rest = cc in let b : y ≡ es = cc in ap (λ v. FramedRuns f v y) a ∙ ap (FramedRuns f rest) b))
  goes_framed (Stays f s x y) m rest es e = cc

  fewer_events : (taken j n : ℕ) (m : Mac) (rest : List ℕ) (es fs : List Event) → at taken ≡ Going m rest es → All IsPassing es →
      Ends source n fs → length fs ≡ suc j → length es ≤ j
  fewer_events taken j n m rest es fs e a d l =
      let like = like_reference taken in
      let mine : es ≡ ref.events_of (after source like.0) = sym (ap mac.events_of e) ∙ like.1 in
      let pre = begins p input laws.reference n fs d like.0 in
      let len : length (ref.events_of (after source like.0) ++ pre.rest) ≡ length fs = ap length pre.whole in
      let parts = length-append (ref.events_of (after source like.0)) pre.rest in
      let own : length es ≡ length (ref.events_of (after source like.0)) = ap length mine in
      no_rest pre.rest (pre.whole) (omega arith)
    where
      no_rest : (r : List Event) → ref.events_of (after source (like_reference taken).0) ++ r ≡ fs →
          length es + length r ≡ suc j → length es ≤ j
      no_rest (x ∷ r) w k = omega arith
      no_rest [] w k =
          let like = like_reference taken in
          let all : es ≡ fs = sym (ap mac.events_of e) ∙ like.1 ∙ sym (append-nil (ref.events_of (after source like.0))) ∙ w in
          absurd (no_pass (after source n) (still_stopped p input laws.reference n fs d) ((laws.reference).ends_last n) (subst (All IsPassing) (all ∙ sym d.emitted) a))

  enough : (taken status : ℕ) (diag : Sunk) → Stops (at taken) taken go.steps diag status → NeedsNoMore p input go.steps status
  enough taken _ diag (stops.ended rest front a b d) j n es e l le is = omega arith
  enough taken _ diag (stops.failed rest front c q a b d) j n es e l le is = omega arith
  enough taken _ diag (stops.full rest fs x y z a b d) j n es e l le is = omega arith
  enough taken _ diag (stops.out_of_steps {m = m} rest fs going a t d) j n es e l le is =
      let f = goes_framed (after (framed_machine (program_code p) go.heap input) taken) m rest fs (laws.flat taken ∙ going) in
      let q = laws.quick taken f.0 rest fs f.1 in
      let few = fewer_events taken j n m rest fs es going a e l in
      let most : (8 * square_sum p + 10) * (length fs + 1) ≤ (8 * square_sum p + 10) * suc j =
      mul-le-mul_left (8 * square_sum p + 10) (omega arith) in
      omega (arith, q, most, le, t)

  -- each state of the run is safe for space
  safe : (n : ℕ) → IsSpaceSafe p go.heap input n
  safe n =
      let w = laws.space n in record {
        own_state = laws.flat n;
        walkable = laws.walkable n;
        moment = w.0;
        same_window = ap mac.events_of (sym (laws.flat n)) ∙ flat_events (after (framed_machine (program_code p) go.heap input) n) ∙ w.1;
        within = w.2;
      }

  -- a state whose request was refused is full
  full_framed : (s : FramedState) (m : Mac) (h k need : ℕ) (rest : List ℕ) (es : List Event) →
      flat_state s ≡ Halted m (Stop.Full h k need) rest es → framed_full s ≡ true
  full_framed (FramedRuns x y z) m h k need rest es e = cc
  full_framed (Stays x (Stop.Full h' k' n) y z) m h k need rest es e = refl
  full_framed (Stays x (Stop.Stuck q) y z) m h k need rest es e = cc
  full_framed (Stays x Stop.End y z) m h k need rest es e = cc
  full_framed (Stays x (Stop.Fail c q) y z) m h k need rest es e = cc
  full_framed (Stays x Stop.Steps y z) m h k need rest es e = cc
  full_framed (Stays x Stop.ReadFault y z) m h k need rest es e = cc
  full_framed (Stays x Stop.WriteFault y z) m h k need rest es e = cc

  small_where : (taken : ℕ) → framed_full (after (framed_machine (program_code p) go.heap input) taken) ≡ true →
      IsSmallMemory p go.heap input (mac.events_of (at taken))
  small_where taken full =
      let s = laws.small taken full in
      let same = ap mac.events_of (sym (laws.flat taken)) ∙ flat_events (after (framed_machine (program_code p) go.heap input) taken) in
      record { held = s.0; made = s.1; held_window = same ∙ s.2; made_window = same ∙ s.3; small = s.4 }

  small_full : (taken status : ℕ) (diag : Sunk) → Stops (at taken) taken go.steps diag status → status ≡ 7 →
      IsSmallMemory p go.heap input (mac.events_of (at taken))
  small_full taken _ diag (stops.ended rest front a b d) is = absurd (omega arith)
  small_full taken _ diag (stops.failed rest front c q a b d) is = absurd (omega arith)
  small_full taken _ diag (stops.full {m = m} rest fs x y z a b d) is =
      small_where taken (full_framed (after (framed_machine (program_code p) go.heap input) taken) m x y z rest fs (laws.flat taken ∙ a))
  small_full taken _ diag (stops.out_of_steps rest fs a b d e) is = absurd (omega arith)

  promised_of : (taken status : ℕ) → taken ≤ go.steps → NeedsNoMore p input go.steps status →
      (status ≡ 7 → IsSmallMemory p go.heap input (mac.events_of (at taken))) → IsPromised go p input taken status
  promised_of taken status within quick small =
      let like = like_reference taken in record {
        within = within;
        moment = like.0;
        like_reference = like.1;
        needs_no_more = quick;
        narrow = laws.narrow;
        space_safe = λ n le. safe n;
        small_where_full = small;
      }

  pub promised : (taken status : ℕ) (diag : Sunk) → taken ≤ go.steps →
      Stops (at taken) taken go.steps diag status ⊎ (status ≡ 4) → IsPromised go p input taken status
  promised taken status diag within (inl s) =
      promised_of taken status within (enough taken status diag s) (small_full taken status diag s)
  promised taken status diag within (inr four) =
      promised_of taken status within (λ j n es e l le is. omega (arith, four, is)) (λ is. absurd (omega (arith, four, is)))
