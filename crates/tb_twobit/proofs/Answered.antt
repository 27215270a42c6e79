-- A source text is accepted, or refused while it is read, expanded or judged: what is said of texts and of data makes what
-- is said of all three.
use Rattle.std.proofs.Common.{◌≡◌, refl, sym, ap, ◌∙◌, subst, ℕ, ◌⊎◌, inl, inr, false, IsOk, Result, Ok, Err, List, Option, Some, None}
use Rattle.tb_prim.specs.declared.place.Place.{Place}
use Rattle.tb_core.specs.Limits.{judge_program}
use Rattle.tb_core.specs.Tree.{ProgramTree}
use Rattle.tb_core.specs.declared.limits.CoreRefusal.{CoreRefusal}
use Rattle.tb_core.specs.declared.limits.Totals.{Totals}
use Rattle.tb_expand.specs.Numbers.{program_of}
use Rattle.tb_expand.specs.Refusals as expand
use Rattle.tb_expand.specs.Texts.{MeansText, RefusesText}
use Rattle.tb_expand.specs.Trees.{Nodes}
use Rattle.tb_sexp.specs.declared.token.Fault.{Fault}
use Rattle.tb_sexp.specs.declared.token.Fault.TheVariants as fault
use Rattle.tb_sexp.specs.declared.refusal.ReadRefusal.{ReadRefusal}
use Rattle.tb_sexp.specs.declared.refusal.ReadRefusal.TheVariants as reading
use Rattle.tb_sexp.specs.Faults.{refusal_of}
use Rattle.tb_sexp.specs.Texts.{IsText, IsRefused, no_front, a_mark_alone, too_deep, faulty, out_of_place, unclosed}
use Rattle.tb_sexp.specs.Tree as datum
use Rattle.tb_sexp.specs.View as sexp
use Rattle.tb_twobit.specs.Refusals as refused
use Rattle.tb_twobit.specs.declared.refusal.Refusal.{Refusal}
use Rattle.tb_twobit.specs.declared.refusal.RefusalKind.TheVariants as kind
use Rattle.tb_twobit.specs.Refusals.{refusal, expansion_refusal, limit_refusal, HasProgram, IsAccepted, IsRefusedWith, not_expanded, past_limit}

-- a text spells one row of data or has one refusal
pub record TextLaws : Type 0 where
  pub one_reading : (text : List ℕ) (ds es : List datum.Tree) → IsText false text ds → IsText false text es → ds ≡ es
  pub not_both : (text : List ℕ) (ds : List datum.Tree) (e : ReadRefusal) → IsText false text ds →
      IsRefused false text e → ⊥
  pub one_refusal : (text : List ℕ) (e f : ReadRefusal) → IsRefused false text e → IsRefused false text f → e ≡ f
  pub covered : (text : List ℕ) →
      ((ds : List datum.Tree) × IsText false text ds) ⊎ ((e : ReadRefusal) × IsRefused false text e)

-- data mean one list of nodes or have one refusal
pub record DataLaws : Type 0 where
  pub not_both : (ds : datum.Trees) (es : Nodes) (r : expand.Refusal) → MeansText false ds es → RefusesText false ds r → ⊥
  pub one_refusal : (ds : datum.Trees) (r q : expand.Refusal) → RefusesText false ds r → RefusesText false ds q → r ≡ q
  pub one_meaning : (ds : datum.Trees) (es fs : Nodes) → MeansText false ds es → MeansText false ds fs → es ≡ fs
  pub covered : (ds : datum.Trees) → ((es : Nodes) × MeansText false ds es) ⊎ ((r : expand.Refusal) × RefusesText false ds r)

-- the number and place of what is refused while a text is read
abbrev said : ReadRefusal → Option Refusal
said (reading.Syntax p) = Some (refusal kind.Syntax p)
said (reading.Unclosed p) = Some (refusal kind.Unclosed p)
said (reading.TooDeep p) = Some (refusal kind.TooDeep p)
said (reading.TooLong p) = Some (refusal kind.TooLong p)
said (reading.TooBig p) = Some (refusal kind.TooBig p)
said reading.NoMemory = None

-- why a text is refused: while it is read, while it is expanded, or at a limit
data Why (bytes : List ℕ) (r : Refusal) : Type 0 where
  unread : (e : ReadRefusal) → IsRefused false bytes e → said e ≡ Some r → Why bytes r
  unexpanded : (q : expand.Refusal) (ds : List datum.Tree) → IsText false bytes ds → RefusesText false (sexp.trees ds) q →
      r ≡ expansion_refusal q → Why bytes r
  unlimited : (q : CoreRefusal) (p : ProgramTree) → HasProgram bytes p → judge_program p ≡ Err q → r ≡ limit_refusal q →
      Why bytes r

why : (bytes : List ℕ) (r : Refusal) → IsRefusedWith bytes r → Why bytes r
why bytes _ (refused.syntax {p = p} h) = unread (reading.Syntax p) h refl
why bytes _ (refused.unclosed {p = p} h) = unread (reading.Unclosed p) h refl
why bytes _ (refused.too_deep {p = p} h) = unread (reading.TooDeep p) h refl
why bytes _ (refused.too_long {p = p} h) = unread (reading.TooLong p) h refl
why bytes _ (refused.too_big {p = p} h) = unread (reading.TooBig p) h refl
why bytes _ (not_expanded q ds t f) = unexpanded q ds t f refl
why bytes _ (past_limit q p h j) = unlimited q p h j refl

-- the first refusal of a text is never want of memory
has_memory : (f : Fault) (p : Place) (rest : List ℕ) → refusal_of f p rest ≡ reading.NoMemory → ⊥
has_memory fault.Syntax p rest e = cc
has_memory fault.LongName p rest e = cc
has_memory fault.BigNumber p rest e = cc
has_memory fault.LongString p rest e = cc
has_memory (fault.BadEscape n) p rest e = cc
has_memory fault.OpenString p rest e = cc

not_for_memory : (bytes : List ℕ) (e : ReadRefusal) → IsRefused false bytes e → e ≡ reading.NoMemory → ⊥
not_for_memory bytes _ (no_front ts p t rest h n) e = cc
not_for_memory bytes _ (a_mark_alone ts p t rest h n m) e = cc
not_for_memory bytes _ (too_deep ts p t rest h n m d) e = cc
not_for_memory bytes _ (faulty ts p byte rest f h b d) e = has_memory f p _ e
not_for_memory bytes _ (out_of_place ts p byte rest f h b d) e = cc
not_for_memory bytes _ (unclosed ts p h g o m) e = cc

refused_so : (bytes : List ℕ) (e : ReadRefusal) → IsRefused false bytes e → (r : Refusal) × IsRefusedWith bytes r
refused_so bytes (reading.Syntax p) h = (refusal kind.Syntax p, refused.syntax h)
refused_so bytes (reading.Unclosed p) h = (refusal kind.Unclosed p, refused.unclosed h)
refused_so bytes (reading.TooDeep p) h = (refusal kind.TooDeep p, refused.too_deep h)
refused_so bytes (reading.TooLong p) h = (refusal kind.TooLong p, refused.too_long h)
refused_so bytes (reading.TooBig p) h = (refusal kind.TooBig p, refused.too_big h)
refused_so bytes reading.NoMemory h = absurd (not_for_memory bytes reading.NoMemory h refl)

refusal_or : Refusal → Option Refusal → Refusal
refusal_or r None = r
refusal_or r (Some s) = s

same_said : (r s : Refusal) → Some r ≡ Some s → r ≡ s
unfolding refusal_or
same_said r s e = ap (refusal_or r) e

abbrev offence_or : CoreRefusal → Result Totals CoreRefusal → CoreRefusal
offence_or q (Ok t) = q
offence_or q (Err u) = u

module _ (texts : TextLaws) (means : DataLaws) (bytes : List ℕ) where
  -- a text that spells data spells no others
  same_data : (ds es : List datum.Tree) → IsText false bytes ds → IsText false bytes es → sexp.trees ds ≡ sexp.trees es
  same_data ds es t u = ap sexp.trees (texts.one_reading bytes ds es t u)

  one_has : (p q : ProgramTree) → HasProgram bytes p → HasProgram bytes q → p ≡ q
  one_has p q h g =
      let same = same_data h.elements g.elements h.text g.text in
      let m = subst (λ ds. MeansText false ds (h.program).nodes) same (h.program).means in
      (h.program).numbered
      ∙ ap (program_of false) (means.one_meaning (sexp.trees g.elements) (h.program).nodes (g.program).nodes m (g.program).means)
      ∙ sym (g.program).numbered

  -- data that mean a program are not refused
  not_refused : (p : ProgramTree) (q : expand.Refusal) (ds : List datum.Tree) → HasProgram bytes p → IsText false bytes ds →
      RefusesText false (sexp.trees ds) q → ⊥
  not_refused p q ds h t f =
      means.not_both (sexp.trees ds) (h.program).nodes q
      (subst (λ es. MeansText false es (h.program).nodes) (same_data h.elements ds h.text t) (h.program).means) f

  -- a program that offends no limit has no offence
  no_offence : (p : ProgramTree) (q : CoreRefusal) → IsOk (judge_program p) → judge_program p ≡ Err q → ⊥
  no_offence p q ok e = let h : IsOk {T = Totals} {E = CoreRefusal} (Err q) = subst IsOk e ok in cc

  accepted_or_not : (p : ProgramTree) (r : Refusal) → IsAccepted bytes p → Why bytes r → ⊥
  accepted_or_not p r a (unread e h s) = texts.not_both bytes (a.has).elements e (a.has).text h
  accepted_or_not p r a (unexpanded q ds t f s) = not_refused p q ds a.has t f
  accepted_or_not p r a (unlimited q o h j s) =
      no_offence p q a.within (ap judge_program (one_has p o a.has h) ∙ j)

  pub not_both : (p : ProgramTree) (r : Refusal) → IsAccepted bytes p → IsRefusedWith bytes r → ⊥
  not_both p r a h = accepted_or_not p r a (why bytes r h)

  pub one_program : (p q : ProgramTree) → IsAccepted bytes p → IsAccepted bytes q → p ≡ q
  one_program p q a b = one_has p q a.has b.has

  same_offence : (o : Result Totals CoreRefusal) (q u : CoreRefusal) → o ≡ Err q → o ≡ Err u → q ≡ u
  same_offence o q u e f = ap (offence_or q) (sym e ∙ f)

  one_why : (r s : Refusal) → Why bytes r → Why bytes s → r ≡ s
  one_why r s (unread e h a) (unread f g b) = same_said r s (sym a ∙ ap said (texts.one_refusal bytes e f h g) ∙ b)
  one_why r s (unread e h a) (unexpanded q ds t g b) = absurd (texts.not_both bytes ds e t h)
  one_why r s (unread e h a) (unlimited q p g j b) = absurd (texts.not_both bytes g.elements e g.text h)
  one_why r s (unexpanded q ds t h a) (unread f g b) = absurd (texts.not_both bytes ds f t g)
  one_why r s (unexpanded q ds t h a) (unexpanded u es v g b) =
      a ∙ ap expansion_refusal (means.one_refusal (sexp.trees es) q u (subst (λ ds. RefusesText false ds q) (same_data ds es t v) h) g) ∙ sym b
  one_why r s (unexpanded q ds t h a) (unlimited u p g j b) = absurd (not_refused p q ds g t h)
  one_why r s (unlimited q p h j a) (unread f g b) = absurd (texts.not_both bytes h.elements f h.text g)
  one_why r s (unlimited q p h j a) (unexpanded u ds t g b) = absurd (not_refused p u ds h t g)
  one_why r s (unlimited q p h j a) (unlimited u o g k b) =
      a ∙ ap limit_refusal (same_offence (judge_program o) q u (ap judge_program (sym (one_has p o h g)) ∙ j) k) ∙ sym b

  pub one_refusal : (r s : Refusal) → IsRefusedWith bytes r → IsRefusedWith bytes s → r ≡ s
  one_refusal r s h g = one_why r s (why bytes r h) (why bytes s g)

  abbrev Answered : Type 0
  Answered = ((p : ProgramTree) × IsAccepted bytes p) ⊎ ((r : Refusal) × IsRefusedWith bytes r)

  -- every text is one of the two
  judged_or_not : (p : ProgramTree) → HasProgram bytes p → (o : Result Totals CoreRefusal) → judge_program p ≡ o → Answered
  judged_or_not p h (Ok t) e = inl (p, record { has = h; within = subst IsOk (sym e) refl })
  judged_or_not p h (Err q) e = inr (limit_refusal q, past_limit q p h e)

  meant_or_not : (ds : List datum.Tree) → IsText false bytes ds →
      ((es : Nodes) × MeansText false (sexp.trees ds) es) ⊎ ((r : expand.Refusal) × RefusesText false (sexp.trees ds) r) → Answered
  meant_or_not ds t (inl m) =
      let p = program_of false m.0 in
      judged_or_not p (record { elements = ds; text = t; program = record { nodes = m.0; means = m.1; numbered = refl } }) (judge_program p) refl
  meant_or_not ds t (inr f) = inr (expansion_refusal f.0, not_expanded f.0 ds t f.1)

  read_or_not : ((ds : List datum.Tree) × IsText false bytes ds) ⊎ ((e : ReadRefusal) × IsRefused false bytes e) → Answered
  read_or_not (inl t) = meant_or_not t.0 t.1 (means.covered (sexp.trees t.0))
  read_or_not (inr h) = inr (refused_so bytes h.0 h.1)

  pub covered : Answered
  covered = read_or_not (texts.covered bytes)
