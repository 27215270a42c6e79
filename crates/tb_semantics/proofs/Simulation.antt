-- From single steps to runs: a relation of states that each step keeps gives keeping.
use Rattle.std.proofs.Common.{◌≡◌, ◌+◌, ◌-◌, ◌<◌, ◌≤◌, ◌⊎◌, ℕ, zero, suc, IsTrue, length, inl, inr, ⊎_elim, sym, ap, subst, arith}
use Rattle.tb_semantics.specs.Runs.{Machine, EmitsInOrder, run, after}
use Rattle.tb_semantics.specs.Keeps.{Measured, Fits, Keeps}
use Rattle.tb_semantics.proofs.RunLaws.{run-add, prefix-after}
use Rattle.tb_semantics.proofs.SameEnd.{prefix-length}

-- how related states move on to related states: the source alone or the target alone, while a measure of the one
-- that moves falls; both; the target by one step and the source by one or more; or the target becomes full,
-- however many steps the source takes
pub data Moves {E T S : Type 0} (target : Measured E T) (source : Measured E S)
    (R : T → S → Type 0) (size_t : T → ℕ) (size_s : S → ℕ) (t : T) (s : S) : Type 0 where
  source_moves : R t (source.machine.step s) → size_s (source.machine.step s) < size_s s →
      Moves target source R size_t size_s t s
  target_moves : R (target.machine.step t) s → size_t (target.machine.step t) < size_t t →
      Moves target source R size_t size_s t s
  both_move : R (target.machine.step t) (source.machine.step s) → Moves target source R size_t size_s t s
  answered_by : (m : ℕ) → 0 < m → R (target.machine.step t) (run source.machine.step m s) →
      Moves target source R size_t size_s t s
  becomes_full : (m : ℕ) → IsTrue (target.is_full (target.machine.step t)) →
      R (target.machine.step t) (run source.machine.step m s) → Moves target source R size_t size_s t s

-- related states have the same events, and the target's holds and has made no more
pub record Alike {E T S : Type 0} (target : Measured E T) (source : Measured E S) (slack : ℕ)
    (t : T) (s : S) : Type 0 where
  pub events : target.machine.events t ≡ source.machine.events s
  pub fits : Fits slack (target.shape t) (source.shape s)
  pub made : target.made t ≤ source.made s

-- what a pass has to show
pub record Simulates {E T S : Type 0} (target : Measured E T) (source : Measured E S) (slack : ℕ) : Type 1 where
  pub R : T → S → Type 0
  pub size_t : T → ℕ
  pub size_s : S → ℕ
  pub starts : R target.machine.start source.machine.start
  pub moves : (t : T) (s : S) → R t s → Moves target source R size_t size_s t s
  pub alike : (t : T) (s : S) → R t s → Alike target source slack t s
  pub in_order : EmitsInOrder source.machine

module _ (E T S : Type 0) (target : Measured E T) (source : Measured E S)
    (R : T → S → Type 0) (size_t : T → ℕ) (size_s : S → ℕ)
    (moves : (t : T) (s : S) → R t s → Moves target source R size_t size_s t s) where
  abbrev after_t : T → T
  after_t t = target.machine.step t

  abbrev after_s : ℕ → S → S
  after_s m s = run source.machine.step m s

  -- one step of the target is some steps of the source: one or more, or its measure falls, or it is full
  Answers : T → S → Type 0
  Answers t s = (m : ℕ) × R (after_t t) (after_s m s) ×
      ((0 < m) ⊎ ((size_t (after_t t) < size_t t) ⊎ IsTrue (target.is_full (after_t t))))

  alone_or_answers : (t : T) (s : S) → Moves target source R size_t size_s t s →
      (R t (source.machine.step s) × (size_s (source.machine.step s) < size_s s)) ⊎ Answers t s
  unfolding Answers
  alone_or_answers t s (source_moves r lt) = inl (r, lt)
  alone_or_answers t s (target_moves r lt) = inr (0, r, inr (inl lt))
  alone_or_answers t s (both_move r) = inr (1, r, inl (omega arith))
  alone_or_answers t s (answered_by m some r) = inr (m, r, inl some)
  alone_or_answers t s (becomes_full m full r) = inr (m, r, inr (inr full))

  answers_later : (t : T) (s : S) → Answers t (source.machine.step s) → Answers t s
  unfolding Answers
  answers_later t s a = (suc a.0, a.1, inl (omega arith))

  answers_within : (b : ℕ) (t : T) (s : S) → size_s s ≤ b → R t s → Answers t s
  answers_within zero t s le r =
      ⊎_elim (λ w. let lt = w.1 in absurd (omega arith)) (λ a. a) (alone_or_answers t s (moves t s r))
  answers_within (suc b) t s le r =
      ⊎_elim
      (λ w. let lt = w.1 in answers_later t s (answers_within b t (source.machine.step s) (omega arith) w.0))
      (λ a. a)
      (alone_or_answers t s (moves t s r))

  answers : (t : T) (s : S) → R t s → Answers t s
  answers t s r = answers_within (size_s s) t s (omega arith) r

  -- the target after n steps has a source state
  pub runs_related : (n : ℕ) (t : T) (s : S) → R t s →
      (m : ℕ) × R (run target.machine.step n t) (after_s m s)
  unfolding Answers
  runs_related zero t s r = (0, r)
  runs_related (suc n) t s r =
      let a = answers t s r in
      let b = runs_related n (after_t t) (after_s a.0 s) a.1 in
      (a.0 + b.0, subst (R (run target.machine.step n (after_t t))) (sym (run-add source.machine.step a.0 b.0 s)) b.1)

  -- the target comes to where the source has made k steps, or is full before
  Far : ℕ → T → S → Type 0
  Far k t s = (n : ℕ) × (m : ℕ) × (IsTrue (target.is_full (run target.machine.step n t)) ⊎ (k ≤ m)) ×
      R (run target.machine.step n t) (after_s m s)

  far_later : (k l m : ℕ) (t : T) (s : S) → l ≤ m + k → Far k (after_t t) (after_s m s) →
      Far l t s
  unfolding Far
  far_later k l m t s le f = (
    suc f.0,
    m + f.1,
    ⊎_elim inl (λ h. inr (omega arith)) f.2,
    subst (R (run target.machine.step f.0 (after_t t))) (sym (run-add source.machine.step m f.1 s)) f.3,
  )

  far_full : (k m : ℕ) (t : T) (s : S) → IsTrue (target.is_full (after_t t)) →
      R (after_t t) (after_s m s) → Far k t s
  unfolding Far
  far_full k m t s full r = (1, m, inl full, r)

  far_more : (k : ℕ) → ((t : T) (s : S) → R t s → Far k t s) → (b : ℕ) (t : T) (s : S) → size_t t ≤ b → R t s →
      Far (suc k) t s
  unfolding Answers
  far_more k far zero t s le r =
      let a = answers t s r in
      ⊎_elim
      (λ some. far_later k (suc k) a.0 t s (omega arith) (far (after_t t) (after_s a.0 s) a.1))
      (⊎_elim (λ lt. absurd (omega arith)) (λ full. far_full (suc k) a.0 t s full a.1))
      a.2
  far_more k far (suc b) t s le r =
      let a = answers t s r in
      ⊎_elim
      (λ some. far_later k (suc k) a.0 t s (omega arith) (far (after_t t) (after_s a.0 s) a.1))
      (⊎_elim
      (λ lt.
      far_later (suc k) (suc k) a.0 t s (omega arith) (far_more k far b (after_t t) (after_s a.0 s) (omega arith) a.1))
      (λ full. far_full (suc k) a.0 t s full a.1))
      a.2

  far_at : (k : ℕ) (t : T) (s : S) → R t s → Far k t s
  unfolding Far
  far_at zero t s r = (0, 0, inr (omega arith), r)
  far_at (suc k) t s r = far_more k (far_at k) (size_t t) t s (omega arith) r

  pub comes_far : (k : ℕ) (t : T) (s : S) → R t s →
      (n : ℕ) × (m : ℕ) × (IsTrue (target.is_full (run target.machine.step n t)) ⊎ (k ≤ m)) ×
      R (run target.machine.step n t) (after_s m s)
  unfolding Far
  comes_far k t s r = far_at k t s r

-- at a later moment there are no fewer events
later_more : {E S : Type 0} (m : Machine E S) → EmitsInOrder m → (k n : ℕ) → k ≤ n →
    length (m.events (after m k)) ≤ length (m.events (after m n))
later_more m o k n le =
    let there : k + (n - k) ≡ n = omega arith in
    let p = prefix-length (m.events (after m k)) (m.events (after m (k + (n - k)))) (prefix-after m o k (n - k)) in
    subst (λ j. length (m.events (after m k)) ≤ length (m.events (after m j))) there p

-- a pass whose states are related keeps its source
pub keeps_from : {E T S : Type 0} (target : Measured E T) (source : Measured E S) (slack : ℕ) →
    Simulates target source slack → Keeps target source slack
keeps_from {E} {T} {S} target source slack h =
    let related = runs_related E T S target source h.R h.size_t h.size_s h.moves in
    let far = comes_far E T S target source h.R h.size_t h.size_s h.moves in
    record {
      windows = λ n.
          let r = related n target.machine.start source.machine.start h.starts in
          let a = h.alike _ _ r.1 in
          (r.0, a.events, a.fits);
      made = λ n.
          let r = related n target.machine.start source.machine.start h.starts in
          let a = h.alike _ _ r.1 in
          (r.0, a.events, a.made);
      comes = λ k.
          let r = far k target.machine.start source.machine.start h.starts in
          let a = h.alike _ _ r.3 in
          let e = ap length a.events in
          (r.0, ⊎_elim inl (λ le. let more = later_more source.machine h.in_order k r.1 le in inr (omega arith)) r.2);
    }
