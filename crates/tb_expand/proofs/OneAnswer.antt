-- A datum, and a text, has one answer, and expansion gives it.
use Rattle.std.proofs.Common.{◌≡◌, refl, sym, ap, ◌∙◌, ℕ, ◌+◌, arith, ◌⊎◌, inl, inr, Bool, Option, Some, None}
use Rattle.tb_prim.specs.declared.place.Place.{Place}
use Rattle.tb_sexp.specs.Tree as datum
use Rattle.tb_expand.specs.Trees.{Node, Nodes}
use Rattle.tb_expand.specs.Refusals.{Refusal, NotBuilt}
use Rattle.tb_expand.specs.declared.context.Context.{Context}
use Rattle.tb_expand.specs.Scopes.{State}
use Rattle.tb_expand.specs.Means.{Means, Refuses}
use Rattle.tb_expand.specs.Outside.{defined_by_all, first_outside_of}
use Rattle.tb_expand.specs.Texts.{no_state, top_context, MeansForms, RefusesForms, MeansText, a_text, RefusesText, in_text, outside_text}
use Rattle.tb_expand.specs.calls.Expand.{Answer, Made, Refused, Unfinished, expand, forms, form}
use Rattle.tb_expand.proofs.Answers.{Reaches, one_reached, Finished}
use Rattle.tb_expand.proofs.Sound.{IsSo, sound, AreForms, forms_sound}
use Rattle.tb_expand.proofs.Complete.{means_reached, refusal_reached, forms_reached, forms_refused}
use Rattle.tb_expand.proofs.Sizes.{size, size_all}
use Rattle.tb_expand.proofs.Ends.{expansion_ends, text_ends}

abbrev made_or : {X : Type 0} → X → Answer X → X
made_or x (Made y st) = y
made_or x (Refused r) = x
made_or x Unfinished = x

abbrev state_or : {X : Type 0} → State → Answer X → State
state_or s (Made y st) = st
state_or s (Refused r) = s
state_or s Unfinished = s

abbrev refusal_or : {X : Type 0} → Refusal → Answer X → Refusal
refusal_or s (Made y st) = s
refusal_or s (Refused r) = r
refusal_or s Unfinished = s

-- two ways to be made are one
one_made : {X : Type 0} (run : ℕ → Answer X) (x y : X) (s t : State) → Reaches run (Made x s) → Reaches run (Made y t) → (x ≡ y) × (s ≡ t)
one_made run x y s t a b =
    let e = one_reached run (Made x s) (Made y t) a b in
    (ap (made_or x) e, ap (state_or s) e)

made_or_refused : {X : Type 0} (run : ℕ → Answer X) (x : X) (s : State) (r : Refusal) → Reaches run (Made x s) → Reaches run (Refused r) → ⊥
made_or_refused run x s r a b = let e = one_reached run (Made x s) (Refused r) a b in cc

one_refused : {X : Type 0} (run : ℕ → Answer X) (r q : Refusal) → Reaches run (Refused r) → Reaches run (Refused q) → r ≡ q
one_refused run r q a b = ap (refusal_or r) (one_reached run (Refused r) (Refused q) a b)

pub one_meaning : (st st1 st2 : State) (c : Context) (d : datum.Tree) (e f : Node) → Means st c d e st1 → Means st c d f st2 → (e ≡ f) × (st1 ≡ st2)
one_meaning st st1 st2 c d e f a b = one_made (λ m. expand m st c d) e f st1 st2 (means_reached a) (means_reached b)

pub one_refusal : (st : State) (c : Context) (d : datum.Tree) (r q : Refusal) → Refuses st c d r → Refuses st c d q → r ≡ q
one_refusal st c d r q a b = one_refused (λ m. expand m st c d) r q (refusal_reached a) (refusal_reached b)

pub not_both : (st st' : State) (c : Context) (d : datum.Tree) (e : Node) (r : Refusal) → Means st c d e st' → Refuses st c d r → ⊥
not_both st st' c d e r a b = made_or_refused (λ m. expand m st c d) e st' r (means_reached a) (refusal_reached b)

abbrev pub Decided : State → Context → datum.Tree → Type 0
Decided st c d = ((e : Node) × (st' : State) × Means st c d e st') ⊎ ((r : Refusal) × Refuses st c d r)

decided_by : (st : State) (c : Context) (d : datum.Tree) (a : Answer Node) → IsSo st c d a → Finished a → Decided st c d
decided_by st c d (Made e st') s f = inl (e, st', s)
decided_by st c d (Refused r) s f = inr (r, s)
decided_by st c d Unfinished s f = absurd f

pub covered : (st : State) (c : Context) (d : datum.Tree) → Decided st c d
covered st c d = decided_by st c d (expand (size d) st c d) (sound (size d) st c d) (expansion_ends (size d) st c d (omega arith))

-- texts
forms_one : (st st1 st2 : State) (c : Context) (ds : datum.Trees) (es fs : Nodes) → MeansForms st c ds es st1 → MeansForms st c ds fs st2 → (es ≡ fs) × (st1 ≡ st2)
forms_one st st1 st2 c ds es fs a b = one_made (λ m. forms (form m) st c ds) es fs st1 st2 (forms_reached a) (forms_reached b)

forms_not_both : (st st' : State) (c : Context) (ds : datum.Trees) (es : Nodes) (r : Refusal) → MeansForms st c ds es st' → RefusesForms st c ds r → ⊥
forms_not_both st st' c ds es r a b = made_or_refused (λ m. forms (form m) st c ds) es st' r (forms_reached a) (forms_refused b)

pub one_text : (library : Bool) (ds : datum.Trees) (es fs : Nodes) → MeansText library ds es → MeansText library ds fs → es ≡ fs
one_text library ds es fs (a_text {st = s} a o) (a_text {st = t} b q) = (forms_one no_state s t (top_context library) ds es fs a b).0

abbrev outside : Nodes → Option Place
outside es = first_outside_of (defined_by_all es) es

abbrev place_or : Place → Option Place → Place
place_or p None = p
place_or p (Some q) = q

pub text_not_both : (library : Bool) (ds : datum.Trees) (es : Nodes) (r : Refusal) → MeansText library ds es → RefusesText library ds r → ⊥
text_not_both library ds es r (a_text {st = s} a o) (in_text b) = forms_not_both no_state s (top_context library) ds es r a b
text_not_both library ds es r (a_text {st = s} a o) (outside_text {es = fs} {st = t} b q) =
    let e = (forms_one no_state s t (top_context library) ds es fs a b).0 in
    let z = sym o ∙ ap outside e ∙ q in
    cc

pub text_one_refusal : (library : Bool) (ds : datum.Trees) (r q : Refusal) → RefusesText library ds r → RefusesText library ds q → r ≡ q
text_one_refusal library ds r q (in_text a) (in_text b) = one_refused (λ m. forms (form m) no_state (top_context library) ds) r q (forms_refused a) (forms_refused b)
text_one_refusal library ds r q (in_text a) (outside_text {es = fs} {st = t} b o) = absurd (forms_not_both no_state t (top_context library) ds fs r b a)
text_one_refusal library ds r q (outside_text {es = es} {st = s} a o) (in_text b) = absurd (forms_not_both no_state s (top_context library) ds es q a b)
text_one_refusal library ds r q (outside_text {es = es} {st = s} {p = p} a o) (outside_text {es = fs} {st = t} b u) =
    let e = (forms_one no_state s t (top_context library) ds es fs a b).0 in
    let z = sym o ∙ ap outside e ∙ u in
    ap NotBuilt (ap (place_or p) z)

abbrev pub DecidedText : Bool → datum.Trees → Type 0
DecidedText library ds = ((es : Nodes) × MeansText library ds es) ⊎ ((r : Refusal) × RefusesText library ds r)

text_by : (library : Bool) (ds : datum.Trees) (es : Nodes) (st : State) → MeansForms no_state (top_context library) ds es st → (o : Option Place) → outside es ≡ o → DecidedText library ds
text_by library ds es st m None e = inl (es, a_text m e)
text_by library ds es st m (Some p) e = inr (NotBuilt p, outside_text m e)

text_decided_by : (library : Bool) (ds : datum.Trees) (a : Answer Nodes) → AreForms no_state (top_context library) ds a → Finished a → DecidedText library ds
text_decided_by library ds (Made es st) s f = text_by library ds es st s (outside es) refl
text_decided_by library ds (Refused r) s f = inr (r, in_text s)
text_decided_by library ds Unfinished s f = absurd f

pub text_covered : (library : Bool) (ds : datum.Trees) → DecidedText library ds
text_covered library ds =
    let n : ℕ = size_all ds + 1 in
    text_decided_by library ds (forms (form n) no_state (top_context library) ds) (forms_sound n no_state (top_context library) ds)
    (text_ends n no_state (top_context library) ds (omega arith))
