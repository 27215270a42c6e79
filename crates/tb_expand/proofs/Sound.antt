-- What expansion answers is so, whatever levels it was given.
use Rattle.std.proofs.Common.{◌≡◌, ◌≢◌, refl, sym, ◌∙◌, ℕ, zero, suc, true, List, [], ◌∷◌, Option, Some, None}
use Rattle.tb_prim.specs.declared.place.Place.{Place}
use Rattle.tb_sexp.specs.Tree as datum
use Rattle.tb_expand.specs.Names.{names, bound_twice}
use Rattle.tb_expand.specs.Trees.{Node, Core, Nodes}
use Rattle.tb_expand.specs.Words.{Meaning, Variable, Special, Integrated, Plain, word_of}
use Rattle.tb_expand.specs.declared.context.Context.{Context}
use Rattle.tb_expand.specs.Scopes.{State, fresh, enter}
use Rattle.tb_expand.specs.Limits.{Within, opened, inner, within, valued}
use Rattle.tb_expand.specs.Shapes.{Formals, parameters, Pairs, Defined, Value, Procedure, Definition, definition_of}
use Rattle.tb_expand.specs.Expressions.{Expression, Wrong, Constantly, Naming, Operands, Sequence, Procedural, Binding, Recursion, Build, expression, built}
use Rattle.tb_expand.specs.Bodies.{Kind, Defining, Beginning, kind, Found, and_one, and_then, defined_in, Scans, scanned, expressions, a_definition, a_begin, ScanRefuses, no_definition, behind_definition, in_begin, expression_in_begin, behind_begin}
use Rattle.tb_expand.specs.Bodies as body
use Rattle.tb_expand.specs.Means.{rest_context, letrec_body, Means, a_constant, a_name, operands, a_sequence, a_lambda, a_let, a_letrec, MeansAll, no_more, one_more, MeansSequence, alone, several, MeansLambda, closure, MeansDefined, a_value, a_procedure, MeansEach, none_defined, one_defined, MeansBody, plain_body, defining_body, Refuses, is_wrong, no_constant, no_objects, no_name, no_node, in_operands, behind_operands, in_sequence, in_lambda, no_let, in_let_values, in_let_body, no_letrec, in_letrec_values, in_letrec_body, no_split, RefusesAll, here, later, RefusesSequence, no_expressions, in_one, no_sequence, in_several, RefusesLambda, no_closure, in_closure, RefusesDefined, in_value, parameter_twice, in_procedure, RefusesEach, in_first, in_others, RefusesBody, in_scan, in_plain, defined_twice, nothing_behind, no_definitions, in_values, in_rest, no_body_split}
use Rattle.tb_expand.specs.Texts.{top_kind, MeansForm, an_expression, a_global, forms_of_begin, MeansForms, no_form, one_form, RefusesForm, in_expression, no_global, no_plain_name, no_room, in_global, in_forms, RefusesForms, in_form, in_later_form}
use Rattle.tb_expand.specs.calls.Expand.{Answer, Made, Refused, Unfinished, Scanner, scan_define, scan_behind, scan_kind, scan_step, scan, Deeper, all, sequence, Bodies, lambda, procedure, defined, each, body_parts, body_defining, body_found, body_step, made, let_form, letrec_form, of_expression, step, expand, bodies, Upper, global_as, global, forms, form_of_kind, form}
use Rattle.tb_expand.proofs.Answers.{on_so, limit_so, same_so}

-- an answer is so
abbrev pub IsScan : State → Context → datum.Trees → Answer Found → Type 0
IsScan st c ds (Made f st') = Scans st c ds f st'
IsScan st c ds (Refused r) = ScanRefuses st c ds r
IsScan st c ds Unfinished = Unit {0}

abbrev pub IsSo : State → Context → datum.Tree → Answer Node → Type 0
IsSo st c d (Made e st') = Means st c d e st'
IsSo st c d (Refused r) = Refuses st c d r
IsSo st c d Unfinished = Unit {0}

abbrev pub AreSo : State → Context → datum.Trees → Answer Nodes → Type 0
AreSo st c ds (Made es st') = MeansAll st c ds es st'
AreSo st c ds (Refused r) = RefusesAll st c ds r
AreSo st c ds Unfinished = Unit {0}

abbrev IsSequence : State → Context → Place → datum.Trees → Answer Node → Type 0
IsSequence st c p ds (Made e st') = MeansSequence st c p ds e st'
IsSequence st c p ds (Refused r) = RefusesSequence st c p ds r
IsSequence st c p ds Unfinished = Unit {0}

abbrev IsLambda : State → Context → Place → Formals → datum.Trees → Answer Node → Type 0
IsLambda st c p f b (Made e st') = MeansLambda st c p f b e st'
IsLambda st c p f b (Refused r) = RefusesLambda st c p f b r
IsLambda st c p f b Unfinished = Unit {0}

abbrev IsDefined : State → Context → Defined → Answer Node → Type 0
IsDefined st c v (Made e st') = MeansDefined st c v e st'
IsDefined st c v (Refused r) = RefusesDefined st c v r
IsDefined st c v Unfinished = Unit {0}

abbrev AreDefined : State → Context → List Defined → Answer Nodes → Type 0
AreDefined st c vs (Made es st') = MeansEach st c vs es st'
AreDefined st c vs (Refused r) = RefusesEach st c vs r
AreDefined st c vs Unfinished = Unit {0}

abbrev pub IsBody : State → Context → Place → datum.Trees → Answer Node → Type 0
IsBody st c p ds (Made e st') = MeansBody st c p ds e st'
IsBody st c p ds (Refused r) = RefusesBody st c p ds r
IsBody st c p ds Unfinished = Unit {0}

abbrev pub SoundScan : Scanner → Type 0
SoundScan scans = (st : State) (c : Context) (ds : datum.Trees) → IsScan st c ds (scans st c ds)

abbrev pub Sound : Deeper → Type 0
Sound again = (st : State) (c : Context) (d : datum.Tree) → IsSo st c d (again st c d)

abbrev pub SoundBodies : Bodies → Type 0
SoundBodies bodies = (st : State) (c : Context) (p : Place) (ds : datum.Trees) → IsBody st c p ds (bodies st c p ds)

-- scans
define_so : (again : Scanner) → SoundScan again → (st : State) (c : Context) (p : Place) (d : datum.Tree) (es ds : datum.Trees) → kind st c d ≡ Defining p es →
    (o : Option Definition) → definition_of p es ≡ o → IsScan st c (datum.more d ds) (scan_define again st c p ds o)
define_so again so st c p d es ds k None e = no_definition k e
define_so again so st c p d es ds k (Some i) e =
    on_so (IsScan (defined_in st c i) (within (fresh st) c) ds) (IsScan st c (datum.more d ds)) _ _ (so (defined_in st c i) (within (fresh st) c) ds)
    (λ f st' s. a_definition k e s) (λ r n. behind_definition k e n) tt

behind_so : (again : Scanner) → SoundScan again → (st : State) (c : Context) (p : Place) (d : datum.Tree) (es ds : datum.Trees) → kind st c d ≡ Beginning p es →
    (e : Found) (mid : State) → Scans st c es e mid → (rest : datum.Trees) → e.rest ≡ rest → IsScan st c (datum.more d ds) (scan_behind again c p e mid ds rest)
behind_so again so st c p d es ds k e mid s datum.none q =
    on_so (IsScan mid (within e.scope c) ds) (IsScan st c (datum.more d ds)) _ _ (so mid (within e.scope c) ds)
    (λ f st' t. a_begin k s q t) (λ r n. behind_begin k s q n) tt
behind_so again so st c p d es ds k e mid s (datum.more x xs) q = expression_in_begin k s (λ z. let t = sym q ∙ z in cc)

kind_so : (again : Scanner) → SoundScan again → (st : State) (c : Context) (d : datum.Tree) (ds : datum.Trees) (k : Kind) → kind st c d ≡ k →
    IsScan st c (datum.more d ds) (scan_kind again st c d ds k)
kind_so again so st c d ds body.Expression k = expressions k
kind_so again so st c d ds (Defining p es) k = define_so again so st c p d es ds k (definition_of p es) refl
kind_so again so st c d ds (Beginning p es) k =
    on_so (IsScan st c es) (IsScan st c (datum.more d ds)) _ _ (so st c es)
    (λ e mid s. behind_so again so st c p d es ds k e mid s e.rest refl) (λ r n. in_begin k n) tt

scan_step_so : (again : Scanner) → SoundScan again → SoundScan (scan_step again)
scan_step_so again so st c datum.none = scanned
scan_step_so again so st c (datum.more d ds) = kind_so again so st c d ds (kind st c d) refl

pub scan_sound : (n : ℕ) → SoundScan (scan n)
scan_sound zero = λ st c ds. tt
scan_sound (suc n) = scan_step_so (scan n) (scan_sound n)

-- parts
pub all_so : (again : Deeper) → Sound again → (st : State) (c : Context) (ds : datum.Trees) → AreSo st c ds (all again st c ds)
all_so again so st c datum.none = no_more
all_so again so st c (datum.more d ds) =
    on_so (IsSo st c d) (AreSo st c (datum.more d ds)) _ _ (so st c d)
    (λ e mid m. on_so (AreSo mid c ds) (AreSo st c (datum.more d ds)) _ _ (all_so again so mid c ds) (λ es st' ms. one_more m ms) (λ r n. later m n) tt)
    (λ r n. here n) tt

sequence_so : (again : Deeper) → Sound again → (st : State) (c : Context) (p : Place) (ds : datum.Trees) → IsSequence st c p ds (sequence again st c p ds)
sequence_so again so st c p datum.none = no_expressions
sequence_so again so st c p (datum.more d datum.none) =
    same_so (IsSo st c d) (IsSequence st c p (datum.more d datum.none)) _ (so st c d) (λ e st' m. alone m) (λ r n. in_one n) tt
sequence_so again so st c p (datum.more d (datum.more e ds)) =
    limit_so (IsSequence st c p (datum.more d (datum.more e ds))) _ _
    (λ mid o. on_so (AreSo mid (inner c) (datum.more d (datum.more e ds))) (IsSequence st c p (datum.more d (datum.more e ds))) _ _
    (all_so again so mid (inner c) (datum.more d (datum.more e ds))) (λ es st' ms. several o ms) (λ r n. in_several o n) tt)
    (λ r o. no_sequence o)

lambda_so : (bodies : Bodies) → SoundBodies bodies → (st : State) (c : Context) (p : Place) (f : Formals) (b : datum.Trees) → IsLambda st c p f b (lambda bodies st c p f b)
lambda_so bodies so st c p f b =
    limit_so (IsLambda st c p f b) _ _
    (λ mid o. on_so (IsBody (enter mid c.scope (names (parameters f))) (within (fresh mid) (inner c)) p b) (IsLambda st c p f b) _ _
    (so (enter mid c.scope (names (parameters f))) (within (fresh mid) (inner c)) p b) (λ e st' m. closure o m) (λ r n. in_closure o n) tt)
    (λ r o. no_closure o)

procedure_so : (bodies : Bodies) → SoundBodies bodies → (st : State) (c : Context) (p : Place) (f : Formals) (b : datum.Trees) (o : Option Place) → bound_twice (parameters f) ≡ o →
    IsDefined st c (Procedure p f b) (procedure bodies st c p f b o)
procedure_so bodies so st c p f b None e =
    same_so (IsLambda st c p f b) (IsDefined st c (Procedure p f b)) _ (lambda_so bodies so st c p f b) (λ x st' m. a_procedure e m) (λ r n. in_procedure e n) tt
procedure_so bodies so st c p f b (Some q) e = parameter_twice e

defined_so : (again : Deeper) → Sound again → (bodies : Bodies) → SoundBodies bodies → (st : State) (c : Context) (v : Defined) → IsDefined st c v (defined again bodies st c v)
defined_so again so bodies sb st c (Value d) = same_so (IsSo st c d) (IsDefined st c (Value d)) _ (so st c d) (λ e st' m. a_value m) (λ r n. in_value n) tt
defined_so again so bodies sb st c (Procedure p f b) = procedure_so bodies sb st c p f b (bound_twice (parameters f)) refl

each_so : (again : Deeper) → Sound again → (bodies : Bodies) → SoundBodies bodies → (st : State) (c : Context) (vs : List Defined) → AreDefined st c vs (each again bodies st c vs)
each_so again so bodies sb st c [] = none_defined
each_so again so bodies sb st c (v ∷ vs) =
    on_so (IsDefined st c v) (AreDefined st c (v ∷ vs)) _ _ (defined_so again so bodies sb st c v)
    (λ e mid m. on_so (AreDefined mid c vs) (AreDefined st c (v ∷ vs)) _ _ (each_so again so bodies sb mid c vs) (λ es st' ms. one_defined m ms) (λ r n. in_others m n) tt)
    (λ r n. in_first n) tt

-- bodies
parts_so : (again : Deeper) → Sound again → (bodies : Bodies) → SoundBodies bodies → (st mid : State) (c : Context) (p : Place) (ds : datum.Trees) (f : Found) → Scans st c ds f mid →
    f.values ≢ [] → bound_twice f.binders ≡ None → (rest : datum.Trees) → f.rest ≡ rest → IsBody st c p ds (body_parts again bodies c p f mid rest)
parts_so again so bodies sb st mid c p ds f s v t datum.none q = nothing_behind s v t q
parts_so again so bodies sb st mid c p ds f s v t (datum.more x xs) q =
    let n : f.rest ≢ datum.none = λ z. let w = sym q ∙ z in cc in
    limit_so (IsBody st c p ds) _ _
    (λ far o. on_so (AreDefined far (valued true (within f.scope c)) f.values) (IsBody st c p ds) _ _
    (each_so again so bodies sb far (valued true (within f.scope c)) f.values)
    (λ vs last ms. on_so (AreSo last (rest_context f c) f.rest) (IsBody st c p ds) _ _ (all_so again so last (rest_context f c) f.rest)
    (λ es end rs. limit_so (IsBody st c p ds) _ _ (λ st' g. defining_body s v t n o ms rs g) (λ r g. no_body_split s v t n o ms rs g))
    (λ r rs. in_rest s v t n o ms rs) tt)
    (λ r ms. in_values s v t n o ms) tt)
    (λ r o. no_definitions s v t n o)

defining_so : (again : Deeper) → Sound again → (bodies : Bodies) → SoundBodies bodies → (st mid : State) (c : Context) (p : Place) (ds : datum.Trees) (f : Found) → Scans st c ds f mid →
    f.values ≢ [] → (o : Option Place) → bound_twice f.binders ≡ o → IsBody st c p ds (body_defining again bodies c p f mid o)
defining_so again so bodies sb st mid c p ds f s v None t = parts_so again so bodies sb st mid c p ds f s v t f.rest refl
defining_so again so bodies sb st mid c p ds f s v (Some q) t = defined_twice s v t

found_so : (again : Deeper) → Sound again → (bodies : Bodies) → SoundBodies bodies → (st mid : State) (c : Context) (p : Place) (ds : datum.Trees) (f : Found) → Scans st c ds f mid →
    (vs : List Defined) → f.values ≡ vs → IsBody st c p ds (body_found again bodies c p f mid vs)
found_so again so bodies sb st mid c p ds f s [] v =
    same_so (IsSequence mid c p f.rest) (IsBody st c p ds) _ (sequence_so again so mid c p f.rest) (λ e st' m. plain_body s v m) (λ r n. in_plain s v n) tt
found_so again so bodies sb st mid c p ds f s (x ∷ xs) v =
    defining_so again so bodies sb st mid c p ds f s (λ z. let w = sym v ∙ z in cc) (bound_twice f.binders) refl

body_step_so : (scans : Scanner) → SoundScan scans → (again : Deeper) → Sound again → (bodies : Bodies) → SoundBodies bodies → SoundBodies (body_step scans again bodies)
body_step_so scans ss again so bodies sb st c p ds =
    on_so (IsScan st c ds) (IsBody st c p ds) _ _ (ss st c ds) (λ f mid s. found_so again so bodies sb st mid c p ds f s f.values refl) (λ r n. in_scan n) tt

-- forms
made_so : (st mid far : State) (c : Context) (p : Place) (s : datum.Shape) (k : Build) (ds : datum.Trees) (es : Nodes) → expression st c (datum.At p s) ≡ Operands k ds →
    opened p 1 0 st c ≡ Within mid → MeansAll mid (inner c) ds es far → (o : Option Core) → built p k es ≡ o → IsSo st c (datum.At p s) (made p k far es o)
made_so st mid far c p s k ds es e o m None b = tt
made_so st mid far c p s k ds es e o m (Some x) b = limit_so (IsSo st c (datum.At p s)) _ _ (λ st' l. operands e o m b l) (λ r l. behind_operands e o m b l)

let_so : (again : Deeper) → Sound again → (bodies : Bodies) → SoundBodies bodies → (st : State) (c : Context) (p : Place) (s : datum.Shape) (ps : Pairs) (b : datum.Trees) →
    expression st c (datum.At p s) ≡ Binding ps b → IsSo st c (datum.At p s) (let_form again bodies st c p ps b)
let_so again so bodies sb st c p s ps b e =
    limit_so (IsSo st c (datum.At p s)) _ _
    (λ mid o. on_so (AreSo mid (inner c) ps.values) (IsSo st c (datum.At p s)) _ _ (all_so again so mid (inner c) ps.values)
    (λ es far ms. on_so (IsBody (enter far c.scope (names ps.binders)) (within (fresh far) (inner c)) p b) (IsSo st c (datum.At p s)) _ _
    (sb (enter far c.scope (names ps.binders)) (within (fresh far) (inner c)) p b) (λ x st' m. a_let e o ms m) (λ r n. in_let_body e o ms n) tt)
    (λ r n. in_let_values e o n) tt)
    (λ r o. no_let e o)

letrec_so : (again : Deeper) → Sound again → (bodies : Bodies) → SoundBodies bodies → (st : State) (c : Context) (p : Place) (s : datum.Shape) (ps : Pairs) (b : datum.Trees) →
    expression st c (datum.At p s) ≡ Recursion ps b → IsSo st c (datum.At p s) (letrec_form again bodies st c p ps b)
letrec_so again so bodies sb st c p s ps b e =
    limit_so (IsSo st c (datum.At p s)) _ _
    (λ mid o. on_so (AreSo (enter mid c.scope (names ps.binders)) (valued true (within (fresh mid) c)) ps.values) (IsSo st c (datum.At p s)) _ _
    (all_so again so (enter mid c.scope (names ps.binders)) (valued true (within (fresh mid) c)) ps.values)
    (λ es far ms. on_so (IsBody far (letrec_body ps (fresh mid) c) p b) (IsSo st c (datum.At p s)) _ _ (sb far (letrec_body ps (fresh mid) c) p b)
    (λ x last m. limit_so (IsSo st c (datum.At p s)) _ _ (λ st' g. a_letrec e o ms m g) (λ r g. no_split e o ms m g))
    (λ r n. in_letrec_body e o ms n) tt)
    (λ r n. in_letrec_values e o n) tt)
    (λ r o. no_letrec e o)

expression_so : (again : Deeper) → Sound again → (bodies : Bodies) → SoundBodies bodies → (st : State) (c : Context) (p : Place) (s : datum.Shape) (x : Expression) →
    expression st c (datum.At p s) ≡ x → IsSo st c (datum.At p s) (of_expression again bodies st c p x)
expression_so again so bodies sb st c p s (Wrong r) e = is_wrong e
expression_so again so bodies sb st c p s (Constantly t) e =
    limit_so (IsSo st c (datum.At p s)) _ _
    (λ mid o. limit_so (IsSo st c (datum.At p s)) _ _ (λ st' l. a_constant e o l) (λ r l. no_objects e o l)) (λ r o. no_constant e o)
expression_so again so bodies sb st c p s (Naming x) e = limit_so (IsSo st c (datum.At p s)) _ _ (λ st' o. a_name e o) (λ r o. no_name e o)
expression_so again so bodies sb st c p s (Operands k ds) e =
    limit_so (IsSo st c (datum.At p s)) _ _
    (λ mid o. on_so (AreSo mid (inner c) ds) (IsSo st c (datum.At p s)) _ _ (all_so again so mid (inner c) ds)
    (λ es far m. made_so st mid far c p s k ds es e o m (built p k es) refl) (λ r n. in_operands e o n) tt)
    (λ r o. no_node e o)
expression_so again so bodies sb st c p s (Sequence ds) e =
    same_so (IsSequence st c p ds) (IsSo st c (datum.At p s)) _ (sequence_so again so st c p ds) (λ x st' m. a_sequence e m) (λ r n. in_sequence e n) tt
expression_so again so bodies sb st c p s (Procedural f b) e =
    same_so (IsLambda st c p f b) (IsSo st c (datum.At p s)) _ (lambda_so bodies sb st c p f b) (λ x st' m. a_lambda e m) (λ r n. in_lambda e n) tt
expression_so again so bodies sb st c p s (Binding ps b) e = let_so again so bodies sb st c p s ps b e
expression_so again so bodies sb st c p s (Recursion ps b) e = letrec_so again so bodies sb st c p s ps b e

step_so : (again : Deeper) → Sound again → (bodies : Bodies) → SoundBodies bodies → Sound (step again bodies)
step_so again so bodies sb st c (datum.At p s) = expression_so again so bodies sb st c p s (expression st c (datum.At p s)) refl

pub record BothSound (n : ℕ) : Type 0 where
  pub expressions : Sound (expand n)
  pub bodies : SoundBodies (bodies n)

pub both_sound : (n : ℕ) → BothSound n
both_sound zero = record { expressions = λ st c d. tt; bodies = λ st c p ds. tt }
both_sound (suc n) =
    let h = both_sound n in
    record {
      expressions = step_so (expand n) h.expressions (bodies n) h.bodies;
      bodies = body_step_so (scan n) (scan_sound n) (expand n) h.expressions (bodies n) h.bodies;
    }

pub sound : (n : ℕ) → Sound (expand n)
sound n = (both_sound n).expressions

-- the top level
abbrev pub IsForm : State → Context → datum.Tree → Answer Nodes → Type 0
IsForm st c d (Made es st') = MeansForm st c d es st'
IsForm st c d (Refused r) = RefusesForm st c d r
IsForm st c d Unfinished = Unit {0}

abbrev pub AreForms : State → Context → datum.Trees → Answer Nodes → Type 0
AreForms st c ds (Made es st') = MeansForms st c ds es st'
AreForms st c ds (Refused r) = RefusesForms st c ds r
AreForms st c ds Unfinished = Unit {0}

abbrev SoundForm : Upper → Type 0
SoundForm upper = (st : State) (c : Context) (d : datum.Tree) → IsForm st c d (upper st c d)

pub forms_so : (upper : Upper) → SoundForm upper → (st : State) (c : Context) (ds : datum.Trees) → AreForms st c ds (forms upper st c ds)
forms_so upper so st c datum.none = no_form
forms_so upper so st c (datum.more d ds) =
    on_so (IsForm st c d) (AreForms st c (datum.more d ds)) _ _ (so st c d)
    (λ es mid m. on_so (AreForms mid c ds) (AreForms st c (datum.more d ds)) _ _ (forms_so upper so mid c ds) (λ fs st' ms. one_form m ms) (λ r n. in_later_form m n) tt)
    (λ r n. in_form n) tt

plain_so : (again : Deeper) → Sound again → (bodies : Bodies) → SoundBodies bodies → (st : State) (c : Context) (d : datum.Tree) (p : Place) (ds : datum.Trees) (i : Definition) →
    top_kind st c d ≡ Defining p ds → definition_of p ds ≡ Some i → (m : Meaning) → word_of c.library i.binder.name.text ≡ m → IsForm st c d (global_as again bodies st c p i m)
plain_so again so bodies sb st c d p ds i k e (Variable x) w = no_plain_name k e (λ g z. let t = sym w ∙ z in cc)
plain_so again so bodies sb st c d p ds i k e (Special f) w = no_plain_name k e (λ g z. let t = sym w ∙ z in cc)
plain_so again so bodies sb st c d p ds i k e (Integrated q) w = no_plain_name k e (λ g z. let t = sym w ∙ z in cc)
plain_so again so bodies sb st c d p ds i k e (Plain g) w =
    limit_so (IsForm st c d) _ _
    (λ mid o. on_so (IsDefined mid (inner c) i.value) (IsForm st c d) _ _ (defined_so again so bodies sb mid (inner c) i.value) (λ x st' m. a_global k e w o m) (λ r n. in_global k e w o n) tt)
    (λ r o. no_room k e w o)

global_so : (again : Deeper) → Sound again → (bodies : Bodies) → SoundBodies bodies → (st : State) (c : Context) (d : datum.Tree) (p : Place) (ds : datum.Trees) →
    top_kind st c d ≡ Defining p ds → (o : Option Definition) → definition_of p ds ≡ o → IsForm st c d (global again bodies st c p o)
global_so again so bodies sb st c d p ds k None e = no_global k e
global_so again so bodies sb st c d p ds k (Some i) e = plain_so again so bodies sb st c d p ds i k e (word_of c.library i.binder.name.text) refl

form_kind_so : (again : Deeper) → Sound again → (bodies : Bodies) → SoundBodies bodies → (upper : Upper) → SoundForm upper → (st : State) (c : Context) (d : datum.Tree) (k : Kind) →
    top_kind st c d ≡ k → IsForm st c d (form_of_kind again bodies upper st c d k)
form_kind_so again so bodies sb upper su st c d body.Expression k = on_so (IsSo st c d) (IsForm st c d) _ _ (so st c d) (λ e st' m. an_expression k m) (λ r n. in_expression k n) tt
form_kind_so again so bodies sb upper su st c d (Defining p ds) k = global_so again so bodies sb st c d p ds k (definition_of p ds) refl
form_kind_so again so bodies sb upper su st c d (Beginning p ds) k =
    same_so (AreForms st c ds) (IsForm st c d) _ (forms_so upper su st c ds) (λ es st' m. forms_of_begin k m) (λ r n. in_forms k n) tt

pub form_sound : (n : ℕ) → SoundForm (form n)
form_sound zero = λ st c d. tt
form_sound (suc n) = λ st c d. form_kind_so (expand n) (sound n) (bodies n) (both_sound n).bodies (form n) (form_sound n) st c d (top_kind st c d) refl

pub forms_sound : (n : ℕ) (st : State) (c : Context) (ds : datum.Trees) → AreForms st c ds (forms (form n) st c ds)
forms_sound n st c ds = forms_so (form n) (form_sound n) st c ds
