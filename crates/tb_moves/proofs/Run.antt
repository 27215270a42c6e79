-- What moves leave in the locations.
use Rattle.std.proofs.Common.{◌≡◌, ◌≢◌, true, false, cond, List, [], ◌∷◌, ◌++◌, ◌⊎◌, inl, inr, refl, ap, ◌∙◌}
use Rattle.std.proofs.lemmas.Bool.Decides.{eqb_tells}
use Rattle.tb_moves.specs.declared.loc.Loc.{Loc}
use Rattle.tb_moves.specs.declared.loc.Loc.TheVariants.{Reg, Slot}
use Rattle.tb_moves.specs.ParallelMoves.{same_loc, after_move, run_moves}

pub same_loc-refl : (l : Loc) → same_loc l l ≡ true
same_loc-refl (Reg a) = elim (eqb_tells a a) [ inl t ↦ t.0 | inr t ↦ absurd (t.1 refl) ]
same_loc-refl (Slot a) = elim (eqb_tells a a) [ inl t ↦ t.0 | inr t ↦ absurd (t.1 refl) ]

pub same_loc-differs : (l k : Loc) → l ≢ k → same_loc l k ≡ false
same_loc-differs (Reg a) (Reg b) h = elim (eqb_tells a b) [ inl t ↦ absurd (h (ap Reg t.1)) | inr t ↦ t.0 ]
same_loc-differs (Slot a) (Slot b) h = elim (eqb_tells a b) [ inl t ↦ absurd (h (ap Slot t.1)) | inr t ↦ t.0 ]
same_loc-differs (Reg a) (Slot b) h = refl
same_loc-differs (Slot a) (Reg b) h = refl

-- two locations are one, or differ
pub one_or_two : (l k : Loc) → (l ≡ k) ⊎ (l ≢ k)
one_or_two (Reg a) (Reg b) = elim (eqb_tells a b) [ inl t ↦ inl (ap Reg t.1) | inr t ↦ inr (λ e. t.1 cc) ]
one_or_two (Slot a) (Slot b) = elim (eqb_tells a b) [ inl t ↦ inl (ap Slot t.1) | inr t ↦ inr (λ e. t.1 cc) ]
one_or_two (Reg a) (Slot b) = inr (λ e. cc)
one_or_two (Slot a) (Reg b) = inr (λ e. cc)

-- one more move at the end
run_moves-push : {V : Type 0} (ms : List (Loc × Loc)) (m : Loc × Loc) (content : Loc → V) (l : Loc) →
    run_moves (ms ++ m ∷ []) content l ≡ cond (same_loc l m.0) (run_moves ms content m.1) (run_moves ms content l)
run_moves-push [] m content l = refl
run_moves-push (x ∷ xs) m content l = run_moves-push xs m (after_move x content) l

-- the location whose first contents a location holds after moves
abbrev pub held : List (Loc × Loc) → Loc → Loc
held out = run_moves out (λ l. l)

pub held-target : (out : List (Loc × Loc)) (t s : Loc) → held (out ++ (t, s) ∷ []) t ≡ held out s
held-target out t s = run_moves-push out (t, s) (λ l. l) t ∙ rw (same_loc-refl t)

pub held-other : (out : List (Loc × Loc)) (t s l : Loc) → l ≢ t → held (out ++ (t, s) ∷ []) l ≡ held out l
held-other out t s l h = run_moves-push out (t, s) (λ l. l) l ∙ rw (same_loc-differs l t h)

after_move-by : {V : Type 0} (m : Loc × Loc) (content d : Loc → V) (f : Loc → Loc) → ((l : Loc) → d l ≡ content (f l)) →
    (l : Loc) → after_move m d l ≡ content (after_move m f l)
after_move-by m content d f h l = elim (same_loc l m.0) as (λ b. cond b (d m.1) (d l) ≡ content (cond b (f m.1) (f l))) [ true ↦ h m.1 | false ↦ h l ]

run_moves-by : {V : Type 0} (ms : List (Loc × Loc)) (content d : Loc → V) (f : Loc → Loc) → ((l : Loc) → d l ≡ content (f l)) →
    (l : Loc) → run_moves ms d l ≡ content (run_moves ms f l)
run_moves-by [] content d f h l = h l
run_moves-by (m ∷ ms) content d f h l = run_moves-by ms content (after_move m d) (after_move m f) (after_move-by m content d f h) l

-- contents of any kind go where the locations do
pub run_moves-held : {V : Type 0} (ms : List (Loc × Loc)) (content : Loc → V) (l : Loc) → run_moves ms content l ≡ content (held ms l)
run_moves-held ms content l = run_moves-by ms content content (λ k. k) (λ k. refl) l
