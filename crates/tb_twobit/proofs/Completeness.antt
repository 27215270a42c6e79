-- A run that has enough comes to the end of its program.
use Rattle.std.proofs.Common.{◌≡◌, ℕ, ◌+◌, ◌*◌, ◌≤◌, ◌<◌, ◌++◌, length, List, [], ◌∷◌, Option, Some, refl, sym, ap, ◌∙◌, subst, true, inl, inr, ◌⊎◌, arith}
use Rattle.std.proofs.Math.Nat.{mul-le-mul_right}
use Rattle.std.specs.Prelude.{IfSome}
use Rattle.tb_prim.specs.declared.event.Event.{Event}
use Rattle.tb_base.specs.Outside.{Files, IsLonger, Rose}
use Rattle.tb_semantics.specs.Runs.{Ends, after}
use Rattle.tb_core.specs.Events.{is_last}
use Rattle.tb_core.specs.Reference as ref
use Rattle.tb_core.specs.Space.{made_of, space_of}
use Rattle.tb_core.specs.Tree.{ProgramTree}
use Rattle.tb_core.specs.Width.{factor_bound, square_sum}
use Rattle.tb_mac.specs.MacEvents as mac
use Rattle.tb_mac.specs.MacEvents.{MacState}
use Rattle.tb_macm.specs.RunDoes.{puts}
use Rattle.tb_twobit.specs.declared.refusal.Refusal.{Refusal}
use Rattle.tb_twobit.specs.Complete.{ComesToEnd, HasEnough, IsServed}
use Rattle.tb_twobit.specs.GoDoes as does
use Rattle.tb_twobit.specs.GoDoes.{GoDoes, RunEnds, Runs}
use Rattle.tb_twobit.specs.Preparing as prepare
use Rattle.tb_twobit.specs.Preparing.{HasAccepted, HasFile, HasInput, IsNotReady, Outside, input_limit, source_limit}
use Rattle.tb_twobit.specs.Stopping as stops
use Rattle.tb_twobit.specs.Stopping.{Stops, machine_of}
use Rattle.tb_twobit.specs.Refusals.{IsAccepted, IsRefusedWith}
use Rattle.tb_twobit.specs.Sinks.{Gained, Sunk}
use Rattle.tb_twobit.specs.SpaceSafe.{IsSmallMemory, factor_of, reference_of}
use Rattle.tb_twobit.specs.Words.{Go}
use Rattle.tb_twobit.proofs.ReferenceRuns.{ReferenceLaws, end_has_some, last-is-all}

-- all bytes are put, with the status of an end or a failure
abbrev pub IsWhole : Sunk → List Event → ℕ → Type 0
IsWhole out es status = ((status ≡ 0) ⊎ (status ≡ 6)) × Gained out (puts es)

-- memory that is enough is not small
not_small : (go : Go) (p : ProgramTree) (input : List ℕ) (es fs : List Event) → HasEnough go p input es →
    factor_of p ≤ factor_bound p → IsSmallMemory p go.heap input fs → ⊥
not_small go p input es fs enough narrow small =
    let words = space_of p (after (reference_of p input) small.held) + made_of (after (reference_of p input) small.made) in
    let has : factor_bound p * words + factor_bound p ≤ go.heap = enough.memory small.held small.made in
    let less = mul-le-mul_right words narrow in
    let few = small.small in
    omega (arith, has, less, few, narrow)

-- and the program can be loaded
start_fits : (go : Go) (p : ProgramTree) (input : List ℕ) (es : List Event) → HasEnough go p input es →
    go.heap < 2 * space_of p (reference_of p input).start + 65 → ⊥
start_fits go p input es enough small =
    let start = (reference_of p input).start in
    let words = space_of p start + made_of start in
    let has : factor_bound p * words + factor_bound p ≤ go.heap = enough.memory 0 0 in
    let wide : 96 ≤ factor_bound p = omega arith in
    let more : 96 * words ≤ factor_bound p * words = mul-le-mul_right words wide in
    omega (arith, small, has, wide, more)

module _ (go : Go) (p : ProgramTree) (input : List ℕ) (laws : ReferenceLaws p input) (n : ℕ) (es : List Event)
    (ends : Ends (reference_of p input) n es) (enough : HasEnough go p input es) where
  -- the last event of a run is the reference's last
  whole : (out : Sunk) (state : MacState) (moment : ℕ) (front : List Event) (e : Event) →
      mac.events_of state ≡ front ++ e ∷ [] → is_last e ≡ true →
      mac.events_of state ≡ ref.events_of (after (reference_of p input) moment) →
      Gained out (puts (mac.events_of state)) → Gained out (puts es)
  whole out state moment front e w l like put =
      let all = last-is-all p input laws n es ends moment front e (sym like ∙ w) l in
      subst (λ fs. Gained out (puts fs)) (like ∙ all) put

  stops_whole : (out diag : Sunk) (status : ℕ) (r : Runs go p input out diag status) (taken : ℕ) → taken ≡ r.taken →
      Stops (after (machine_of go p input) taken) taken go.steps diag status → IsWhole out es status
  stops_whole out diag _ r taken is (stops.ended rest front a b d) = (
    inl refl,
    whole out (after (machine_of go p input) r.taken) r.promised.moment front Event.End
        (subst (λ t. mac.events_of (after (machine_of go p input) t) ≡ front ++ Event.End ∷ []) is (ap mac.events_of a))
        refl r.promised.like_reference r.put,
  )
  stops_whole out diag _ r taken is (stops.failed rest front c q a b d) = (
    inr refl,
    whole out (after (machine_of go p input) r.taken) r.promised.moment front (Event.Fail c q)
        (subst (λ t. mac.events_of (after (machine_of go p input) t) ≡ front ++ Event.Fail c q ∷ []) is (ap mac.events_of a))
        refl r.promised.like_reference r.put,
  )
  stops_whole out diag _ r taken is (stops.full rest fs x y z a b d) =
      absurd (not_small go p input es (mac.events_of (after (machine_of go p input) r.taken)) enough r.promised.narrow (r.promised.small_where_full refl))
  stops_whole out diag _ r taken is (stops.out_of_steps rest fs a b d e) =
      let some = end_has_some p input laws n es ends in
      absurd (r.promised.needs_no_more some.0 n es ends some.1
      (subst (λ k. (8 * square_sum p + 10) * k ≤ go.steps) some.1 enough.steps) refl)

  ends_whole : (out diag : Sunk) (status : ℕ) (r : Runs go p input out diag status) (taken : ℕ) → taken ≡ r.taken →
      RunEnds p (after (machine_of go p input) taken) taken go.steps out diag status →
      (Rose out.faults out.faults_now → ⊥) → IsWhole out es status
  ends_whole out diag status r taken is (does.stopped s) quiet = stops_whole out diag status r taken is s
  ends_whole out diag _ r taken is (does.not_put rest fs a b d q f h) quiet = absurd (quiet f)

  pub run-comes-to-end : (out diag : Sunk) (status : ℕ) → Runs go p input out diag status →
      (Rose out.faults out.faults_now → ⊥) → IsWhole out es status
  run-comes-to-end out diag status r quiet = ends_whole out diag status r r.taken refl r.ends quiet

-- what a store that tells its files has under a name
same_file : (told : Option Files) (files : Files) (name bytes other : List ℕ) → told ≡ Some files →
    files name ≡ Some bytes → HasFile told name other → bytes ≡ other
same_file told files name bytes other is there h =
    let own = subst (λ o. IfSome o (λ f. f name ≡ Some other)) is h.there in
    let both : Some bytes ≡ Some other = sym there ∙ own in cc

same_input : (told : Option (List ℕ)) (input other : List ℕ) → told ≡ Some input → HasInput told other → input ≡ other
same_input told input other is h = subst (λ o. IfSome o (λ bytes. bytes ≡ other)) is h.there

-- a text has one answer, and what is known of the program of an accepted text
pub record AnswerLaws : Type 0 where
  pub not_both : (bytes : List ℕ) (p : ProgramTree) (r : Refusal) → IsAccepted bytes p → IsRefusedWith bytes r → ⊥
  pub one_program : (bytes : List ℕ) (p q : ProgramTree) → IsAccepted bytes p → IsAccepted bytes q → p ≡ q
  pub reference : (bytes : List ℕ) (p : ProgramTree) → IsAccepted bytes p → (input : List ℕ) → ReferenceLaws p input

module _ (laws : AnswerLaws) (go : Go) (o : Outside) (bytes input : List ℕ) (p : ProgramTree) (n : ℕ) (es : List Event)
    (served : IsServed go o bytes input p) (ends : Ends (reference_of p input) n es) (enough : HasEnough go p input es) where
  same_bytes : (other : List ℕ) → HasFile o.given.files go.source other → bytes ≡ other
  same_bytes other h = same_file o.given.files served.files go.source bytes other served.told served.there h

  same_program : (other : List ℕ) (q : ProgramTree) → HasFile o.given.files go.source other → IsAccepted other q → q ≡ p
  same_program other q file a =
      laws.one_program bytes q p (subst (λ bs. IsAccepted bs q) (sym (same_bytes other file)) a) served.accepted

  same_ready : (q : ProgramTree) → HasAccepted go.source o.given q → q ≡ p
  same_ready q h = same_program h.bytes q h.file h.accepted

  only_memory : (status : ℕ) → IsNotReady go.source o.given o.diag status → status ≡ 5
  only_memory _ (prepare.not_loaded a b) = absurd (served.loaded a)
  only_memory _ (prepare.not_read q a b d) = absurd (served.read b)
  only_memory _ (prepare.no_memory a) = refl
  only_memory _ (prepare.too_long a b) =
      let told = subst (λ f. IfSome f (λ files. IsLonger (files go.source) source_limit)) served.told a in
      let long = subst (λ f. IsLonger f source_limit) served.there told in let short = served.short in
      absurd (omega (arith, long, short))
  only_memory _ (prepare.long_input q a b d) =
      let long = subst (λ i. IfSome i (λ bytes. input_limit < length bytes)) served.input_told b in let short = served.input_short in
      absurd (omega (arith, long, short))
  only_memory _ (prepare.refused bs r a b d) =
      absurd (laws.not_both bytes p r served.accepted (subst (λ c. IsRefusedWith c r) (sym (same_bytes bs a)) b))

  comes : (status : ℕ) → GoDoes go o status → (status ≡ 5) ⊎ IsWhole o.out es status
  comes status (does.not_run (prepare.not_ready a b)) = inl (only_memory status a)
  comes _ (does.not_run (prepare.not_fitting is q a b d f g)) =
      let own = same_input o.given.input input is served.input_told a.input_there in
      let small = subst (λ m. go.heap < 2 * space_of m (reference_of m is).start + 65) (same_ready q a.has) d in
      absurd (start_fits go p input es enough (subst (λ i. go.heap < 2 * space_of p (reference_of p i).start + 65) (sym own) small))
  comes status (does.ran is q a r) =
      let same = same_ready q a.has in let own = same_input o.given.input input is served.input_told a.input_there in
      let run = subst (λ i. Runs go p i o.out o.diag status) (sym own) (subst (λ m. Runs go m is o.out o.diag status) same r) in
      inr (run-comes-to-end go p input (laws.reference bytes p served.accepted input) n es ends enough o.out o.diag status run
      served.put)

pub comes-to-end : AnswerLaws → (go : Go) (o : Outside) (status : ℕ) → GoDoes go o status → ComesToEnd go o status
comes-to-end laws go o status d bytes input p n es served ends enough = comes laws go o bytes input p n es served ends enough status d
