-- Expansion comes to an answer with as many levels as a datum has size.
use Rattle.std.proofs.Common.{◌≡◌, refl, subst, sym, ℕ, zero, suc, ◌+◌, ◌≤◌, arith, true, List, [], ◌∷◌, ◌++◌, Option, Some, None}
use Rattle.tb_prim.specs.declared.place.Place.{Place}
use Rattle.tb_sexp.specs.Tree as datum
use Rattle.tb_expand.specs.Names.{names, bound_twice}
use Rattle.tb_expand.specs.Trees.{Nodes, nil, cons, how_many}
use Rattle.tb_expand.specs.Words.{Meaning, Variable, Special, Integrated, Plain, word_of}
use Rattle.tb_expand.specs.declared.context.Context.{Context}
use Rattle.tb_expand.specs.Scopes.{State, fresh, enter}
use Rattle.tb_expand.specs.Limits.{inner, within, valued, how_many_data}
use Rattle.tb_expand.specs.Shapes.{Formals, parameters, Defined, Value, Procedure, Definition, definition_of}
use Rattle.tb_expand.specs.Expressions.{Expression, Wrong, Constantly, Naming, Operands, Sequence, Procedural, Binding, Recursion, Build, Choosing, ChoosingOne, AssigningLocal, AssigningGlobal, Using, ApplyingTo, Calling, expression, built}
use Rattle.tb_expand.specs.Bodies.{Kind, Defining, Beginning, kind, Found, and_one, and_then, defined_in, Scans, scanned, expressions, a_definition, a_begin}
use Rattle.tb_expand.specs.Bodies as body
use Rattle.tb_expand.specs.Means.{rest_context, letrec_body, MeansAll, no_more, one_more}
use Rattle.tb_expand.specs.Texts.{top_kind}
use Rattle.tb_expand.specs.calls.Expand.{Made, Scanner, scan_define, scan_behind, scan_kind, scan_step, scan, Deeper, all, sequence, Bodies, lambda, procedure, defined, each, body_parts, body_defining, body_found, body_step, made, of_expression, step, expand, bodies, Upper, global_as, global, forms, form_of_kind, form}
use Rattle.tb_expand.proofs.Answers.{Finished, on_finished, limit_finished}
use Rattle.tb_expand.proofs.Sound.{IsScan, scan_sound, AreSo, all_so, Sound, sound}
use Rattle.tb_expand.proofs.Sizes.{size, size_all, some_size, Fits, expression_fits, ValueFits, DefinitionFits, definition_fits, KindFits, kind_fits, top_kind_fits}
use Rattle.tb_expand.specs.calls.Expanded.{Suits}

-- what was found in a body is smaller than the body
abbrev AllFit : ℕ → List Defined → Type 0
AllFit n [] = Unit {0}
AllFit n (v ∷ vs) = ValueFits n v × AllFit n vs

value_more : (m n : ℕ) (v : Defined) → m ≤ n → ValueFits m v → ValueFits n v
value_more m n (Value d) le h = omega arith
value_more m n (Procedure p f b) le h = omega arith

all_more : (m n : ℕ) (vs : List Defined) → m ≤ n → AllFit m vs → AllFit n vs
all_more m n [] le h = tt
all_more m n (v ∷ vs) le h = (value_more m n v le h.0, all_more m n vs le h.1)

all_joined : (n : ℕ) (vs ws : List Defined) → AllFit n vs → AllFit n ws → AllFit n (vs ++ ws)
all_joined n [] ws h k = k
all_joined n (v ∷ vs) ws h k = (h.0, all_joined n vs ws h.1 k)

record FoundFits (n : ℕ) (f : Found) : Type 0 where
  pub values : AllFit n f.values
  pub rest : size_all f.rest ≤ n

definition_at : (p : Place) (es : datum.Trees) (i : Definition) → definition_of p es ≡ Some i → ValueFits (size_all es) i.value
definition_at p es i e = subst (DefinitionFits (size_all es)) e (definition_fits p es)

found_fits : {st : State} {c : Context} {ds : datum.Trees} {f : Found} {st' : State} → Scans st c ds f st' → FoundFits (size_all ds) f
found_fits scanned = record { values = tt; rest = omega arith }
found_fits (expressions k) = record { values = tt; rest = omega arith }
found_fits (a_definition {st = st} {c = c} {d = d} {ds = ds} {es = es} {p = p} {e = e} k i s) =
    let h = found_fits s in
    let a : size_all es + 2 ≤ size d = subst (KindFits (size d)) k (kind_fits st c d) in
    record {
      values = (value_more (size_all es) (size d + size_all ds) e.value (omega arith) (definition_at p es e i), all_more (size_all ds) (size d + size_all ds) _ (omega arith) h.values);
      rest = omega (arith, h.rest);
    }
found_fits (a_begin {st = st} {c = c} {d = d} {ds = ds} {es = es} {p = p} {e = e} {f = f} k s q t) =
    let g = found_fits s in
    let h = found_fits t in
    let a : size_all es + 2 ≤ size d = subst (KindFits (size d)) k (kind_fits st c d) in
    record {
      values = all_joined (size d + size_all ds) e.values f.values (all_more (size_all es) (size d + size_all ds) _ (omega arith) g.values)
          (all_more (size_all ds) (size d + size_all ds) _ (omega arith) h.values);
      rest = omega (arith, h.rest);
    }

-- scans
abbrev ScanEnds : ℕ → Scanner → Type 0
ScanEnds n again = (st : State) (c : Context) (ds : datum.Trees) → size_all ds + 1 ≤ n → Finished (again st c ds)

define_ends : (n : ℕ) (again : Scanner) → ScanEnds n again → (st : State) (c : Context) (p : Place) (ds : datum.Trees) (o : Option Definition) → size_all ds + 1 ≤ n →
    Finished (scan_define again st c p ds o)
define_ends n again h st c p ds None le = tt
define_ends n again h st c p ds (Some e) le = on_finished _ _ (h (defined_in st c e) (within (fresh st) c) ds le) (λ f st' e. tt)

behind_ends : (n : ℕ) (again : Scanner) → ScanEnds n again → (c : Context) (p : Place) (e : Found) (mid : State) (ds rest : datum.Trees) → size_all ds + 1 ≤ n →
    Finished (scan_behind again c p e mid ds rest)
behind_ends n again h c p e mid ds datum.none le = on_finished _ _ (h mid (within e.scope c) ds le) (λ f st' e. tt)
behind_ends n again h c p e mid ds (datum.more x xs) le = tt

scan_kind_ends : (n : ℕ) (again : Scanner) → ScanEnds n again → (st : State) (c : Context) (d : datum.Tree) (ds : datum.Trees) (k : Kind) → KindFits (size d) k →
    size d + size_all ds ≤ n → 1 ≤ size d → Finished (scan_kind again st c d ds k)
scan_kind_ends n again h st c d ds body.Expression f le s = tt
scan_kind_ends n again h st c d ds (Defining p es) f le s = define_ends n again h st c p ds (definition_of p es) (omega arith)
scan_kind_ends n again h st c d ds (Beginning p es) f le s =
    on_finished _ _ (h st c es (omega arith)) (λ e mid q. behind_ends n again h c p e mid ds e.rest (omega arith))

scan_step_ends : (n : ℕ) (again : Scanner) → ScanEnds n again → ScanEnds (suc n) (scan_step again)
scan_step_ends n again h st c datum.none le = tt
scan_step_ends n again h st c (datum.more d ds) le = scan_kind_ends n again h st c d ds (kind st c d) (kind_fits st c d) (omega arith) (some_size d)

scan_ends : (n : ℕ) → ScanEnds n (scan n)
scan_ends zero = λ st c ds le. absurd (omega arith)
scan_ends (suc n) = scan_step_ends n (scan n) (scan_ends n)

-- parts
abbrev Ends : ℕ → Deeper → Type 0
Ends n again = (st : State) (c : Context) (d : datum.Tree) → size d ≤ n → Finished (again st c d)

abbrev BodyEnds : ℕ → Bodies → Type 0
BodyEnds n bodies = (st : State) (c : Context) (p : Place) (ds : datum.Trees) → size_all ds + 2 ≤ n → Finished (bodies st c p ds)

all_ends : (n : ℕ) (again : Deeper) → Ends n again → (st : State) (c : Context) (ds : datum.Trees) → size_all ds ≤ n → Finished (all again st c ds)
all_ends n again h st c datum.none le = tt
all_ends n again h st c (datum.more d ds) le =
    on_finished _ _ (h st c d (omega arith)) (λ e mid q. on_finished _ _ (all_ends n again h mid c ds (omega arith)) (λ es st' q. tt))

sequence_ends : (n : ℕ) (again : Deeper) → Ends n again → (st : State) (c : Context) (p : Place) (ds : datum.Trees) → size_all ds ≤ n → Finished (sequence again st c p ds)
sequence_ends n again h st c p datum.none le = tt
sequence_ends n again h st c p (datum.more d datum.none) le = h st c d (omega arith)
sequence_ends n again h st c p (datum.more d (datum.more e ds)) le =
    limit_finished _ _ (λ mid. on_finished _ _ (all_ends n again h mid (inner c) (datum.more d (datum.more e ds)) le) (λ es st' q. tt))

lambda_ends : (n : ℕ) (bodies : Bodies) → BodyEnds n bodies → (st : State) (c : Context) (p : Place) (f : Formals) (b : datum.Trees) → size_all b + 2 ≤ n → Finished (lambda bodies st c p f b)
lambda_ends n bodies h st c p f b le =
    limit_finished _ _ (λ mid. on_finished _ _ (h (enter mid c.scope (names (parameters f))) (within (fresh mid) (inner c)) p b le) (λ e st' q. tt))

procedure_ends : (n : ℕ) (bodies : Bodies) → BodyEnds n bodies → (st : State) (c : Context) (p : Place) (f : Formals) (b : datum.Trees) (o : Option Place) → size_all b + 2 ≤ n →
    Finished (procedure bodies st c p f b o)
procedure_ends n bodies h st c p f b None le = lambda_ends n bodies h st c p f b le
procedure_ends n bodies h st c p f b (Some q) le = tt

defined_ends : (n : ℕ) (again : Deeper) → Ends n again → (bodies : Bodies) → BodyEnds n bodies → (m : ℕ) (st : State) (c : Context) (v : Defined) → m + 1 ≤ n → ValueFits m v →
    Finished (defined again bodies st c v)
defined_ends n again h bodies k m st c (Value d) le f = h st c d (omega arith)
defined_ends n again h bodies k m st c (Procedure p f b) le z = procedure_ends n bodies k st c p f b (bound_twice (parameters f)) (omega arith)

each_ends : (n : ℕ) (again : Deeper) → Ends n again → (bodies : Bodies) → BodyEnds n bodies → (m : ℕ) (st : State) (c : Context) (vs : List Defined) → m + 1 ≤ n → AllFit m vs →
    Finished (each again bodies st c vs)
each_ends n again h bodies k m st c [] le f = tt
each_ends n again h bodies k m st c (v ∷ vs) le f =
    on_finished _ _ (defined_ends n again h bodies k m st c v le f.0) (λ e mid q. on_finished _ _ (each_ends n again h bodies k m mid c vs le f.1) (λ es st' q. tt))

-- bodies
body_parts_end : (n : ℕ) (again : Deeper) → Ends n again → (bodies : Bodies) → BodyEnds n bodies → (m : ℕ) (c : Context) (p : Place) (f : Found) (mid : State) (rest : datum.Trees) → m + 1 ≤ n →
    FoundFits m f → Finished (body_parts again bodies c p f mid rest)
body_parts_end n again h bodies k m c p f mid datum.none le z = tt
body_parts_end n again h bodies k m c p f mid (datum.more x xs) le z =
    let r = z.rest in
    limit_finished _ _ (λ far. on_finished _ _ (each_ends n again h bodies k m far (valued true (within f.scope c)) f.values le z.values)
    (λ vs last q. on_finished _ _ (all_ends n again h last (rest_context f c) f.rest (omega arith)) (λ es end q. limit_finished _ _ (λ st'. tt))))

defining_ends : (n : ℕ) (again : Deeper) → Ends n again → (bodies : Bodies) → BodyEnds n bodies → (m : ℕ) (c : Context) (p : Place) (f : Found) (mid : State) (o : Option Place) → m + 1 ≤ n →
    FoundFits m f → Finished (body_defining again bodies c p f mid o)
defining_ends n again h bodies k m c p f mid None le z = body_parts_end n again h bodies k m c p f mid f.rest le z
defining_ends n again h bodies k m c p f mid (Some q) le z = tt

body_found_ends : (n : ℕ) (again : Deeper) → Ends n again → (bodies : Bodies) → BodyEnds n bodies → (m : ℕ) (c : Context) (p : Place) (f : Found) (mid : State) (vs : List Defined) → m + 1 ≤ n →
    FoundFits m f → Finished (body_found again bodies c p f mid vs)
body_found_ends n again h bodies k m c p f mid [] le z = let r = z.rest in sequence_ends n again h mid c p f.rest (omega arith)
body_found_ends n again h bodies k m c p f mid (v ∷ vs) le z = defining_ends n again h bodies k m c p f mid (bound_twice f.binders) le z

scan_so : (n : ℕ) (st : State) (c : Context) (ds : datum.Trees) (f : Found) (mid : State) → scan n st c ds ≡ Made f mid → Scans st c ds f mid
scan_so n st c ds f mid e = subst (IsScan st c ds) e (scan_sound n st c ds)

body_step_ends : (n : ℕ) (again : Deeper) → Ends n again → (bodies : Bodies) → BodyEnds n bodies → BodyEnds (suc n) (body_step (scan n) again bodies)
body_step_ends n again h bodies k st c p ds le =
    on_finished _ _ (scan_ends n st c ds (omega arith))
    (λ f mid q. body_found_ends n again h bodies k (size_all ds) c p f mid f.values (omega arith) (found_fits (scan_so n st c ds f mid q)))

-- a node has as many operands as it needs
as_many : {st : State} {c : Context} {ds : datum.Trees} {es : Nodes} {st' : State} → MeansAll st c ds es st' → how_many es ≡ how_many_data ds
as_many no_more = refl
as_many (one_more m ms) = let h = as_many ms in omega arith

made_ends : (p : Place) (k : Build) (far : State) (es : Nodes) → Suits k (how_many es) → Finished (made p k far es (built p k es))
made_ends p Choosing far (cons a (cons b (cons c nil))) s = limit_finished _ _ (λ st'. tt)
made_ends p Choosing far nil s = absurd (omega arith)
made_ends p Choosing far (cons a nil) s = absurd (omega arith)
made_ends p Choosing far (cons a (cons b nil)) s = absurd (omega arith)
made_ends p Choosing far (cons a (cons b (cons c (cons d es)))) s = absurd (omega arith)
made_ends p ChoosingOne far (cons a (cons b nil)) s = limit_finished _ _ (λ st'. tt)
made_ends p ChoosingOne far nil s = absurd (omega arith)
made_ends p ChoosingOne far (cons a nil) s = absurd (omega arith)
made_ends p ChoosingOne far (cons a (cons b (cons c es))) s = absurd (omega arith)
made_ends p (AssigningLocal x) far (cons a nil) s = limit_finished _ _ (λ st'. tt)
made_ends p (AssigningLocal x) far nil s = absurd (omega arith)
made_ends p (AssigningLocal x) far (cons a (cons b es)) s = absurd (omega arith)
made_ends p (AssigningGlobal q g) far (cons a nil) s = limit_finished _ _ (λ st'. tt)
made_ends p (AssigningGlobal q g) far nil s = absurd (omega arith)
made_ends p (AssigningGlobal q g) far (cons a (cons b es)) s = absurd (omega arith)
made_ends p (Using q) far es s = limit_finished _ _ (λ st'. tt)
made_ends p ApplyingTo far (cons a (cons b nil)) s = limit_finished _ _ (λ st'. tt)
made_ends p ApplyingTo far nil s = absurd (omega arith)
made_ends p ApplyingTo far (cons a nil) s = absurd (omega arith)
made_ends p ApplyingTo far (cons a (cons b (cons c es))) s = absurd (omega arith)
made_ends p Calling far (cons a es) s = limit_finished _ _ (λ st'. tt)
made_ends p Calling far nil s = absurd (omega arith)

operands_so : (again : Deeper) → Sound again → (st : State) (c : Context) (ds : datum.Trees) (es : Nodes) (far : State) → all again st c ds ≡ Made es far → how_many es ≡ how_many_data ds
operands_so again so st c ds es far e = as_many (let P = AreSo st c ds in subst P e (all_so again so st c ds))

suited : (k : Build) (m n : ℕ) → m ≡ n → Suits k n → Suits k m
suited k m n e s = subst (Suits k) (sym e) s

-- expressions
expression_ends : (n : ℕ) (again : Deeper) → Ends n again → Sound again → (bodies : Bodies) → BodyEnds n bodies → (m : ℕ) (st : State) (c : Context) (p : Place) (x : Expression) → m ≤ suc n → Fits m x →
    Finished (of_expression again bodies st c p x)
expression_ends n again h so bodies k m st c p (Wrong r) le f = tt
expression_ends n again h so bodies k m st c p (Constantly s) le f = limit_finished _ _ (λ mid. limit_finished _ _ (λ st'. tt))
expression_ends n again h so bodies k m st c p (Naming e) le f = limit_finished _ _ (λ st'. tt)
expression_ends n again h so bodies k m st c p (Operands b ds) le f =
    let z : size_all ds ≤ n = omega arith in
    limit_finished _ _ (λ mid. on_finished _ _ (all_ends n again h mid (inner c) ds z)
    (λ es far q. made_ends p b far es (suited b (how_many es) (how_many_data ds) (operands_so again so mid (inner c) ds es far q) f.1)))
expression_ends n again h so bodies k m st c p (Sequence ds) le f = sequence_ends n again h st c p ds (omega arith)
expression_ends n again h so bodies k m st c p (Procedural g b) le f = lambda_ends n bodies k st c p g b (omega arith)
expression_ends n again h so bodies k m st c p (Binding ps b) le f =
    let z : size_all ps.values ≤ n = omega arith in
    let w : size_all b + 2 ≤ n = omega arith in
    limit_finished _ _ (λ mid. on_finished _ _ (all_ends n again h mid (inner c) ps.values z)
    (λ es far q. on_finished _ _ (k (enter far c.scope (names ps.binders)) (within (fresh far) (inner c)) p b w) (λ e st' q. tt)))
expression_ends n again h so bodies k m st c p (Recursion ps b) le f =
    let z : size_all ps.values ≤ n = omega arith in
    let w : size_all b + 2 ≤ n = omega arith in
    limit_finished _ _ (λ mid. on_finished _ _ (all_ends n again h (enter mid c.scope (names ps.binders)) (valued true (within (fresh mid) c)) ps.values z)
    (λ es far q. on_finished _ _ (k far (letrec_body ps (fresh mid) c) p b w) (λ e last q. limit_finished _ _ (λ st'. tt))))

step_ends : (n : ℕ) (again : Deeper) → Ends n again → Sound again → (bodies : Bodies) → BodyEnds n bodies → Ends (suc n) (step again bodies)
step_ends n again h so bodies k st c (datum.At p s) le =
    expression_ends n again h so bodies k (size (datum.At p s)) st c p (expression st c (datum.At p s)) le (expression_fits st c (datum.At p s))

record BothEnd (n : ℕ) : Type 0 where
  pub expressions : Ends n (expand n)
  pub bodies : BodyEnds n (bodies n)

none_ends : Ends 0 (expand 0)
none_ends st c d le = let h = some_size d in absurd (omega arith)

both_end : (n : ℕ) → BothEnd n
both_end zero = record { expressions = none_ends; bodies = λ st c p ds le. absurd (omega arith) }
both_end (suc n) =
    let h = both_end n in
    record {
      expressions = step_ends n (expand n) h.expressions (sound n) (bodies n) h.bodies;
      bodies = body_step_ends n (expand n) h.expressions (bodies n) h.bodies;
    }

pub expansion_ends : (n : ℕ) (st : State) (c : Context) (d : datum.Tree) → size d ≤ n → Finished (expand n st c d)
expansion_ends n st c d le = (both_end n).expressions st c d le

-- the top level
abbrev FormEnds : ℕ → Upper → Type 0
FormEnds n upper = (st : State) (c : Context) (d : datum.Tree) → size d + 1 ≤ n → Finished (upper st c d)

forms_end : (n : ℕ) (upper : Upper) → FormEnds n upper → (st : State) (c : Context) (ds : datum.Trees) → size_all ds + 1 ≤ n → Finished (forms upper st c ds)
forms_end n upper h st c datum.none le = tt
forms_end n upper h st c (datum.more d ds) le =
    on_finished _ _ (h st c d (omega arith)) (λ es mid q. on_finished _ _ (forms_end n upper h mid c ds (omega arith)) (λ fs st' q. tt))

global_as_ends : (n m : ℕ) (st : State) (c : Context) (p : Place) (i : Definition) (w : Meaning) → m + 1 ≤ n → ValueFits m i.value → Finished (global_as (expand n) (bodies n) st c p i w)
global_as_ends n m st c p i (Variable x) le f = tt
global_as_ends n m st c p i (Special g) le f = tt
global_as_ends n m st c p i (Integrated q) le f = tt
global_as_ends n m st c p i (Plain g) le f =
    limit_finished _ _ (λ mid. on_finished _ _ (defined_ends n (expand n) (both_end n).expressions (bodies n) (both_end n).bodies m mid (inner c) i.value le f) (λ e st' q. tt))

global_ends : (n m : ℕ) (st : State) (c : Context) (p : Place) (o : Option Definition) → m + 1 ≤ n → DefinitionFits m o → Finished (global (expand n) (bodies n) st c p o)
global_ends n m st c p None le f = tt
global_ends n m st c p (Some i) le f = global_as_ends n m st c p i (word_of c.library i.binder.name.text) le f

form_kind_ends : (n : ℕ) (upper : Upper) → FormEnds n upper → (st : State) (c : Context) (d : datum.Tree) (k : Kind) → size d ≤ n → KindFits (size d) k →
    Finished (form_of_kind (expand n) (bodies n) upper st c d k)
form_kind_ends n upper h st c d body.Expression le f = on_finished _ _ (expansion_ends n st c d le) (λ e st' q. tt)
form_kind_ends n upper h st c d (Defining p ds) le f = global_ends n (size_all ds) st c p (definition_of p ds) (omega arith) (definition_fits p ds)
form_kind_ends n upper h st c d (Beginning p ds) le f = forms_end n upper h st c ds (omega arith)

form_ends : (n : ℕ) → FormEnds n (form n)
form_ends zero = λ st c d le. absurd (omega arith)
form_ends (suc n) = λ st c d le. form_kind_ends n (form n) (form_ends n) st c d (top_kind st c d) (omega arith) (top_kind_fits st c d)

pub text_ends : (n : ℕ) (st : State) (c : Context) (ds : datum.Trees) → size_all ds + 1 ≤ n → Finished (forms (form n) st c ds)
text_ends n st c ds le = forms_end n (form n) (form_ends n) st c ds le
