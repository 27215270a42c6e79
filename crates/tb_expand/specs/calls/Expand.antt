-- Expansion as a function, with so many levels to go.
use Rattle.std.specs.Prelude.{ℕ, zero, suc, true, List, [], ◌∷◌, length, Option, Some, None}
use Rattle.tb_prim.specs.declared.place.Place.{Place}
use Rattle.tb_sexp.specs.Tree as datum
use Rattle.tb_expand.specs.Names.{names, bound_twice}
use Rattle.tb_expand.specs.Trees.{variables, Node, At, Core, Constant, Lambda, DefGlobal, Let, Seq, Nodes, nil, cons, joined}
use Rattle.tb_expand.specs.Splits.{Split, split, node_of}
use Rattle.tb_expand.specs.Words.{Meaning, Variable, Special, Integrated, Plain, word_of}
use Rattle.tb_expand.specs.Refusals as refusal
use Rattle.tb_expand.specs.Refusals.{Refusal}
use Rattle.tb_expand.specs.declared.context.Context.{Context}
use Rattle.tb_expand.specs.Scopes.{State, fresh, enter}
use Rattle.tb_expand.specs.Limits.{Limited, Within, Past, counted, opened, with_constant, inner, within, valued}
use Rattle.tb_expand.specs.Shapes.{Formals, parameters, Pairs, Defined, Value, Procedure, Definition, definition_of}
use Rattle.tb_expand.specs.Expressions.{Expression, Wrong, Constantly, Naming, Operands, Sequence, Procedural, Binding, Recursion, Build, expression, built, follows}
use Rattle.tb_expand.specs.Bodies.{Kind, Defining, Beginning, kind, Found, nothing_more, and_one, and_then, defined_in}
use Rattle.tb_expand.specs.Bodies as body
use Rattle.tb_expand.specs.Means.{fixed_variables, rest_variable, lambda_nodes, bound_together, rest_context, finished, letrec_body}
use Rattle.tb_expand.specs.Texts.{top_kind}

-- answers
pub data Answer (X : Type 0) : Type 0 where
  Made : X → State → Answer X
  Refused : Refusal → Answer X
  Unfinished : Answer X

unfoldable pub on : {X Y : Type 0} → Answer X → (X → State → Answer Y) → Answer Y
on (Made x st) f = f x st
on (Refused r) f = Refused r
on Unfinished f = Unfinished

unfoldable pub on_limit : {Y : Type 0} → Limited → (State → Answer Y) → Answer Y
on_limit (Within st) f = f st
on_limit (Past r) f = Refused r

-- the definitions of a body
abbrev pub Scanner : Type 0
Scanner = State → Context → datum.Trees → Answer Found

abbrev pub scan_define : Scanner → State → Context → Place → datum.Trees → Option Definition → Answer Found
scan_define again st c p ds None = Refused (refusal.BadForm p)
scan_define again st c p ds (Some e) = on (again (defined_in st c e) (within (fresh st) c) ds) (λ f st'. Made (and_one (fresh st) e f) st')

abbrev pub scan_behind : Scanner → Context → Place → Found → State → datum.Trees → datum.Trees → Answer Found
scan_behind again c p e mid ds datum.none = on (again mid (within e.scope c) ds) (λ f st'. Made (and_then e f) st')
scan_behind again c p e mid ds (datum.more x xs) = Refused (refusal.BadForm p)

abbrev pub scan_begin : Scanner → State → Context → Place → datum.Trees → datum.Trees → Answer Found
scan_begin again st c p es ds = on (again st c es) (λ e mid. scan_behind again c p e mid ds e.rest)

abbrev pub scan_kind : Scanner → State → Context → datum.Tree → datum.Trees → Kind → Answer Found
scan_kind again st c d ds body.Expression = Made (nothing_more c.scope (datum.more d ds)) st
scan_kind again st c d ds (Defining p es) = scan_define again st c p ds (definition_of p es)
scan_kind again st c d ds (Beginning p es) = scan_begin again st c p es ds

abbrev pub scan_step : Scanner → Scanner
scan_step again st c datum.none = Made (nothing_more c.scope datum.none) st
scan_step again st c (datum.more d ds) = scan_kind again st c d ds (kind st c d)

abbrev pub scan : ℕ → Scanner
scan zero = λ st c ds. Unfinished
scan (suc n) = scan_step (scan n)

-- expansion of the parts
abbrev pub Deeper : Type 0
Deeper = State → Context → datum.Tree → Answer Node

abbrev pub all : Deeper → State → Context → datum.Trees → Answer Nodes
all again st c datum.none = Made nil st
all again st c (datum.more d ds) = on (again st c d) (λ e mid. on (all again mid c ds) (λ es st'. Made (cons e es) st'))

abbrev pub sequence : Deeper → State → Context → Place → datum.Trees → Answer Node
sequence again st c p datum.none = Refused (refusal.BadForm p)
sequence again st c p (datum.more d datum.none) = again st c d
sequence again st c p (datum.more d (datum.more e ds)) =
    on_limit (opened p 1 0 st c) (λ mid. on (all again mid (inner c) (datum.more d (datum.more e ds))) (λ es st'. Made (At p (Seq es)) st'))

-- expansion of bodies
abbrev pub Bodies : Type 0
Bodies = State → Context → Place → datum.Trees → Answer Node

abbrev pub lambda : Bodies → State → Context → Place → Formals → datum.Trees → Answer Node
lambda bodies st c p f b =
    on_limit (opened p (lambda_nodes c) (length (parameters f)) st c)
    (λ mid. on (bodies (enter mid c.scope (names (parameters f))) (within (fresh mid) (inner c)) p b)
    (λ e st'. Made (At p (Lambda (fixed_variables (fresh mid) f) (rest_variable (fresh mid) f) e)) st'))

abbrev pub procedure : Bodies → State → Context → Place → Formals → datum.Trees → Option Place → Answer Node
procedure bodies st c p f b None = lambda bodies st c p f b
procedure bodies st c p f b (Some q) = Refused (refusal.Duplicate q)

abbrev pub defined : Deeper → Bodies → State → Context → Defined → Answer Node
defined again bodies st c (Value d) = again st c d
defined again bodies st c (Procedure p f b) = procedure bodies st c p f b (bound_twice (parameters f))

abbrev pub each : Deeper → Bodies → State → Context → List Defined → Answer Nodes
each again bodies st c [] = Made nil st
each again bodies st c (v ∷ vs) = on (defined again bodies st c v) (λ e mid. on (each again bodies mid c vs) (λ es st'. Made (cons e es) st'))

abbrev pub finishing : Place → Split → Context → State → Answer Node
finishing p s c st = on_limit (finished p s c st) (λ st'. Made (node_of p s) st')

abbrev pub body_parts : Deeper → Bodies → Context → Place → Found → State → datum.Trees → Answer Node
body_parts again bodies c p f mid datum.none = Refused (refusal.BadForm p)
body_parts again bodies c p f mid (datum.more d ds) =
    on_limit (bound_together p (length f.binders) mid c)
    (λ far. on (each again bodies far (valued true (within f.scope c)) f.values)
    (λ vs last. on (all again last (rest_context f c) f.rest) (λ es end. finishing p (split f.variables vs es) c end)))

abbrev pub body_defining : Deeper → Bodies → Context → Place → Found → State → Option Place → Answer Node
body_defining again bodies c p f mid None = body_parts again bodies c p f mid f.rest
body_defining again bodies c p f mid (Some q) = Refused (refusal.Duplicate q)

abbrev pub body_found : Deeper → Bodies → Context → Place → Found → State → List Defined → Answer Node
body_found again bodies c p f mid [] = sequence again mid c p f.rest
body_found again bodies c p f mid (v ∷ vs) = body_defining again bodies c p f mid (bound_twice f.binders)

abbrev pub body_step : Scanner → Deeper → Bodies → Bodies
body_step scans again bodies st c p ds = on (scans st c ds) (λ f mid. body_found again bodies c p f mid f.values)

-- forms
abbrev pub made : Place → Build → State → Nodes → Option Core → Answer Node
made p k far es None = Unfinished
made p k far es (Some e) = on_limit (counted p (follows k) 0 far) (λ st'. Made (At p e) st')

abbrev pub let_form : Deeper → Bodies → State → Context → Place → Pairs → datum.Trees → Answer Node
let_form again bodies st c p ps b =
    on_limit (opened p 1 (length ps.binders) st c)
    (λ mid. on (all again mid (inner c) ps.values)
    (λ es far. on (bodies (enter far c.scope (names ps.binders)) (within (fresh far) (inner c)) p b)
    (λ e st'. Made (At p (Let (variables (fresh far) (names ps.binders)) es e)) st')))

abbrev pub letrec_form : Deeper → Bodies → State → Context → Place → Pairs → datum.Trees → Answer Node
letrec_form again bodies st c p ps b =
    on_limit (bound_together p (length ps.binders) st c)
    (λ mid. on (all again (enter mid c.scope (names ps.binders)) (valued true (within (fresh mid) c)) ps.values)
    (λ es far. on (bodies far (letrec_body ps (fresh mid) c) p b)
    (λ e last. finishing p (split (variables (fresh mid) (names ps.binders)) es (cons e nil)) c last)))

abbrev pub of_expression : Deeper → Bodies → State → Context → Place → Expression → Answer Node
of_expression again bodies st c p (Wrong r) = Refused r
of_expression again bodies st c p (Constantly s) =
    on_limit (opened p 1 0 st c) (λ mid. on_limit (with_constant p s mid) (λ st'. Made (At p (Constant s)) st'))
of_expression again bodies st c p (Naming e) = on_limit (opened p 1 0 st c) (λ st'. Made (At p e) st')
of_expression again bodies st c p (Operands k ds) =
    on_limit (opened p 1 0 st c) (λ mid. on (all again mid (inner c) ds) (λ es far. made p k far es (built p k es)))
of_expression again bodies st c p (Sequence ds) = sequence again st c p ds
of_expression again bodies st c p (Procedural f b) = lambda bodies st c p f b
of_expression again bodies st c p (Binding ps b) = let_form again bodies st c p ps b
of_expression again bodies st c p (Recursion ps b) = letrec_form again bodies st c p ps b

abbrev pub step : Deeper → Bodies → Deeper
step again bodies st c (datum.At p s) = of_expression again bodies st c p (expression st c (datum.At p s))

-- an expression and a body, each from those one level deeper
pub record Pair : Type 0 where
  pub expand : Deeper
  pub body : Bodies

abbrev pub expansion : ℕ → Pair
expansion zero = record { expand = λ st c d. Unfinished; body = λ st c p ds. Unfinished }
expansion (suc n) =
    record { expand = step (expansion n).expand (expansion n).body; body = body_step (scan n) (expansion n).expand (expansion n).body }

abbrev pub expand : ℕ → Deeper
expand n = (expansion n).expand

abbrev pub bodies : ℕ → Bodies
bodies n = (expansion n).body

-- forms at top level
abbrev pub Upper : Type 0
Upper = State → Context → datum.Tree → Answer Nodes

abbrev pub global_as : Deeper → Bodies → State → Context → Place → Definition → Meaning → Answer Nodes
global_as again bodies st c p i (Variable x) = Refused (refusal.Integrated i.binder.place)
global_as again bodies st c p i (Special f) = Refused (refusal.Integrated i.binder.place)
global_as again bodies st c p i (Integrated q) = Refused (refusal.Integrated i.binder.place)
global_as again bodies st c p i (Plain g) =
    on_limit (opened p 1 0 st c) (λ mid. on (defined again bodies mid (inner c) i.value) (λ e st'. Made (cons (At p (DefGlobal g e)) nil) st'))

abbrev pub global : Deeper → Bodies → State → Context → Place → Option Definition → Answer Nodes
global again bodies st c p None = Refused (refusal.BadForm p)
global again bodies st c p (Some i) = global_as again bodies st c p i (word_of c.library i.binder.name.text)

abbrev pub forms : Upper → State → Context → datum.Trees → Answer Nodes
forms again st c datum.none = Made nil st
forms again st c (datum.more d ds) = on (again st c d) (λ es mid. on (forms again mid c ds) (λ fs st'. Made (joined es fs) st'))

abbrev pub form_of_kind : Deeper → Bodies → Upper → State → Context → datum.Tree → Kind → Answer Nodes
form_of_kind again bodies upper st c d body.Expression = on (again st c d) (λ e st'. Made (cons e nil) st')
form_of_kind again bodies upper st c d (Defining p ds) = global again bodies st c p (definition_of p ds)
form_of_kind again bodies upper st c d (Beginning p ds) = forms upper st c ds

abbrev pub form_step : Deeper → Bodies → Upper → Upper
form_step again bodies upper st c d = form_of_kind again bodies upper st c d (top_kind st c d)

abbrev pub form : ℕ → Upper
form zero = λ st c d. Unfinished
form (suc n) = form_step (expand n) (bodies n) (form n)
