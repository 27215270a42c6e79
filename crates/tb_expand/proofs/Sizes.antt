-- The parts of a form are smaller than it.
use Rattle.std.proofs.Common.{refl, ℕ, ◌+◌, ◌-◌, ◌≤◌, arith, Bool, true, false, cond, ◌==◌, Option, Some, None}
use Rattle.tb_prim.specs.declared.place.Place.{Place}
use Rattle.tb_prim.specs.declared.primitive.Primitive.{Primitive}
use Rattle.tb_prim.specs.Primitives.{arity_of}
use Rattle.tb_sexp.specs.Tree as datum
use Rattle.tb_expand.specs.Names.{Binder, bound_twice}
use Rattle.tb_expand.specs.declared.form.Form.{Form}
use Rattle.tb_expand.specs.declared.form.Form.TheVariants.{Quoting, Closure, Choice, Assigning, Defining, Beginning, Binding, Recursive, Applying, Later}
use Rattle.tb_expand.specs.Words.{Meaning, Variable, Special, Integrated, Plain, is_of_many}
use Rattle.tb_expand.specs.declared.context.Context.{Context}
use Rattle.tb_expand.specs.Scopes.{State, meaning}
use Rattle.tb_expand.specs.Limits.{how_many_data}
use Rattle.tb_expand.specs.Shapes.{binder_of, Formals, formals_of, parameters, elements_of, Pair, pair_with, pair_in, Pairs, and_pair, pairs_of, pairs_in, Parts, QuoteOf, LambdaOf, IfOf, ShortIfOf, SetOf, BeginOf, LetOf, LetrecOf, ApplyOf, Unbuilt, quote_parts, lambda_of, lambda_parts, if_parts, set_of, set_parts, begin_parts, let_of, named_or, let_parts, letrec_of, letrec_parts, apply_parts, parts_of, Defined, Value, Procedure, Definition, value_definition, Target, target_of, procedure_definition, definition_by, definition_of}
use Rattle.tb_expand.specs.Expressions as expr
use Rattle.tb_expand.specs.Expressions.{Expression, Wrong, Constantly, Naming, Operands, Sequence, Procedural, Recursion, Build, Choosing, ChoosingOne, AssigningLocal, AssigningGlobal, Using, ApplyingTo, Calling, Head, Operator, Keyword, Primitively, head, word_alone, named, assigned, binding_once, of_parts, are_fixnums_in, constantly, misused, primitive_use, by_head, by_sort, expression}
use Rattle.tb_expand.specs.Refusals as refusal
use Rattle.tb_expand.specs.Bodies as body
use Rattle.tb_expand.specs.Bodies.{Kind, kind_by, kind_in, kind, begins}
use Rattle.tb_expand.specs.Texts.{top_kind}
use Rattle.tb_expand.specs.calls.Expanded.{Suits}

-- the lists inside a datum, dotted ones apart
abbrev mutual
  pub size : datum.Tree → ℕ
  size (datum.At p s) = 1 + size_in s

  pub size_in : datum.Shape → ℕ
  size_in datum.Nil = 0
  size_in (datum.Truth b) = 0
  size_in (datum.Fixnum n) = 0
  size_in (datum.Character c) = 0
  size_in (datum.String s) = 0
  size_in (datum.Name s alias) = 0
  size_in (datum.Proper ds) = size_all ds
  size_in (datum.Dotted ds d) = 0
  size_in (datum.Vector ds) = 0

  pub size_all : datum.Trees → ℕ
  size_all datum.none = 0
  size_all (datum.more d ds) = size d + size_all ds

pub some_size : (d : datum.Tree) → 1 ≤ size d
some_size (datum.At p s) = omega arith

-- the parts are smaller than a form of this size
abbrev pub Fits : ℕ → Expression → Type 0
Fits n (Wrong r) = Unit {0}
Fits n (Constantly s) = Unit {0}
Fits n (Naming e) = Unit {0}
Fits n (Operands k ds) = (size_all ds + 1 ≤ n) × Suits k (how_many_data ds)
Fits n (Sequence ds) = size_all ds + 1 ≤ n
Fits n (Procedural f b) = size_all b + 3 ≤ n
Fits n (expr.Binding ps b) = size_all ps.values + (size_all b + 3) ≤ n
Fits n (Recursion ps b) = size_all ps.values + (size_all b + 3) ≤ n

-- bindings
abbrev PairFits : ℕ → Option Pair → Type 0
PairFits n None = Unit {0}
PairFits n (Some b) = size b.value ≤ n

abbrev PairsFit : ℕ → Option Pairs → Type 0
PairsFit n None = Unit {0}
PairsFit n (Some ps) = size_all ps.values ≤ n

pair_with_fits : (n : ℕ) (d : datum.Tree) (b : Option Binder) → size d ≤ n → PairFits n (pair_with d b)
pair_with_fits n d None h = tt
pair_with_fits n d (Some b) h = h

elements_fit : (n : ℕ) (ds : datum.Trees) → size_all ds ≤ n → PairFits n (pair_in (Some ds))
elements_fit n (datum.more h (datum.more d datum.none)) le = pair_with_fits n d (binder_of h) (omega arith)
elements_fit n ds le = tt

pair_fits : (d : datum.Tree) → PairFits (size d) (pair_in (elements_of d))
pair_fits (datum.At p (datum.Proper ds)) = elements_fit (1 + size_all ds) ds (omega arith)
pair_fits (datum.At p datum.Nil) = tt
pair_fits (datum.At p s) = tt

and_pair_fits : (m n : ℕ) (b : Option Pair) (ps : Option Pairs) → PairFits m b → PairsFit n ps → PairsFit (m + n) (and_pair b ps)
and_pair_fits m n None ps h k = tt
and_pair_fits m n (Some b) None h k = tt
and_pair_fits m n (Some b) (Some ps) h k = omega arith

pairs_fit : (ds : datum.Trees) → PairsFit (size_all ds) (pairs_of ds)
pairs_fit datum.none = omega arith
pairs_fit (datum.more d ds) = and_pair_fits (size d) (size_all ds) (pair_in (elements_of d)) (pairs_of ds) (pair_fits d) (pairs_fit ds)

pairs_more : (m n : ℕ) (ps : Option Pairs) → m ≤ n → PairsFit m ps → PairsFit n ps
pairs_more m n None le h = tt
pairs_more m n (Some ps) le h = omega arith

pairs_in_fit : (d : datum.Tree) → PairsFit (size d - 1) (pairs_in (elements_of d))
pairs_in_fit (datum.At p (datum.Proper ds)) = pairs_more (size_all ds) ((1 + size_all ds) - 1) (pairs_of ds) (omega arith) (pairs_fit ds)
pairs_in_fit (datum.At p datum.Nil) = omega arith
pairs_in_fit (datum.At p s) = tt

-- parts, from what stands behind the name of a form
abbrev PartsFit : ℕ → Option Parts → Type 0
PartsFit n None = Unit {0}
PartsFit n (Some (QuoteOf d)) = Unit {0}
PartsFit n (Some (LambdaOf f b)) = size_all b + 1 ≤ n
PartsFit n (Some (IfOf a b c)) = size a + (size b + size c) ≤ n
PartsFit n (Some (ShortIfOf a b)) = size a + size b ≤ n
PartsFit n (Some (SetOf b d)) = size d ≤ n
PartsFit n (Some (BeginOf ds)) = size_all ds ≤ n
PartsFit n (Some (LetOf ps b)) = size_all ps.values + (size_all b + 1) ≤ n
PartsFit n (Some (LetrecOf ps b)) = size_all ps.values + (size_all b + 1) ≤ n
PartsFit n (Some (ApplyOf f l)) = size f + size l ≤ n
PartsFit n (Some Unbuilt) = Unit {0}

quote_fit : (ds : datum.Trees) → PartsFit (size_all ds) (quote_parts ds)
quote_fit (datum.more d datum.none) = tt
quote_fit ds = tt

lambda_of_fits : (n : ℕ) (f : Option Formals) (b : datum.Trees) → size_all b + 1 ≤ n → PartsFit n (lambda_of f b)
lambda_of_fits n None b h = tt
lambda_of_fits n (Some f) b h = h

lambda_fit : (ds : datum.Trees) → PartsFit (size_all ds) (lambda_parts ds)
lambda_fit (datum.more f (datum.more b bs)) =
    let h = some_size f in
    lambda_of_fits (size f + (size b + size_all bs)) (formals_of f) (datum.more b bs) (omega arith)
lambda_fit ds = tt

if_fit : (ds : datum.Trees) → PartsFit (size_all ds) (if_parts ds)
if_fit (datum.more a (datum.more b datum.none)) = omega arith
if_fit (datum.more a (datum.more b (datum.more c datum.none))) = omega arith
if_fit ds = tt

set_of_fits : (n : ℕ) (b : Option Binder) (d : datum.Tree) → size d ≤ n → PartsFit n (set_of b d)
set_of_fits n None d h = tt
set_of_fits n (Some b) d h = h

set_fit : (ds : datum.Trees) → PartsFit (size_all ds) (set_parts ds)
set_fit (datum.more x (datum.more d datum.none)) = set_of_fits (size x + (size d + 0)) (binder_of x) d (omega arith)
set_fit ds = tt

begin_fit : (ds : datum.Trees) → PartsFit (size_all ds) (begin_parts ds)
begin_fit datum.none = tt
begin_fit (datum.more d ds) = omega arith

let_of_fits : (m n : ℕ) (x : Option Binder) (ps : Option Pairs) (b : datum.Trees) → m + (size_all b + 1) ≤ n → PairsFit m ps → PartsFit n (named_or x (let_of ps b))
let_of_fits m n (Some x) ps b le h = tt
let_of_fits m n None None b le h = tt
let_of_fits m n None (Some ps) b le h = omega arith

let_fit : (ds : datum.Trees) → PartsFit (size_all ds) (let_parts ds)
let_fit (datum.more d (datum.more b bs)) =
    let h = some_size d in
    let_of_fits (size d - 1) (size d + (size b + size_all bs)) (binder_of d) (pairs_in (elements_of d)) (datum.more b bs) (omega arith) (pairs_in_fit d)
let_fit ds = tt

letrec_of_fits : (m n : ℕ) (ps : Option Pairs) (b : datum.Trees) → m + (size_all b + 1) ≤ n → PairsFit m ps → PartsFit n (letrec_of ps b)
letrec_of_fits m n None b le h = tt
letrec_of_fits m n (Some ps) b le h = omega arith

letrec_fit : (ds : datum.Trees) → PartsFit (size_all ds) (letrec_parts ds)
letrec_fit (datum.more d (datum.more b bs)) =
    let h = some_size d in
    letrec_of_fits (size d - 1) (size d + (size b + size_all bs)) (pairs_in (elements_of d)) (datum.more b bs) (omega arith) (pairs_in_fit d)
letrec_fit ds = tt

apply_fit : (ds : datum.Trees) → PartsFit (size_all ds) (apply_parts ds)
apply_fit (datum.more f (datum.more l datum.none)) = omega arith
apply_fit ds = tt

parts_fit : (f : Form) (ds : datum.Trees) → PartsFit (size_all ds) (parts_of f ds)
parts_fit Quoting ds = quote_fit ds
parts_fit Closure ds = lambda_fit ds
parts_fit Choice ds = if_fit ds
parts_fit Assigning ds = set_fit ds
parts_fit Defining ds = tt
parts_fit Beginning ds = begin_fit ds
parts_fit Binding ds = let_fit ds
parts_fit Recursive ds = letrec_fit ds
parts_fit Applying ds = apply_fit ds
parts_fit Later ds = tt

-- expressions
once_fits : (n : ℕ) (o : Option Place) (x : Expression) → Fits n x → Fits n (binding_once o x)
once_fits n None x h = h
once_fits n (Some p) x h = tt

assigned_fits : (n : ℕ) (b : Binder) (d : datum.Tree) (m : Meaning) → size d + 1 ≤ n → Fits n (assigned b d m)
assigned_fits n b d (Variable x) h = (omega arith, refl)
assigned_fits n b d (Special f) h = tt
assigned_fits n b d (Integrated q) h = tt
assigned_fits n b d (Plain g) h = (omega arith, refl)

constantly_fits : (n : ℕ) (p : Place) (s : datum.Shape) (b : Bool) → Fits n (cond b (Constantly s) (Wrong (refusal.BadForm p)))
constantly_fits n p s true = tt
constantly_fits n p s false = tt

of_parts_fits : (m n : ℕ) (st : State) (c : Context) (p : Place) (o : Option Parts) → m + 2 ≤ n → PartsFit m o → Fits n (of_parts st c p o)
of_parts_fits m n st c p None le h = tt
of_parts_fits m n st c p (Some (QuoteOf (datum.At q s))) le h = constantly_fits n p s (are_fixnums_in s)
of_parts_fits m n st c p (Some (LambdaOf f b)) le h = once_fits n (bound_twice (parameters f)) (Procedural f b) (omega arith)
of_parts_fits m n st c p (Some (IfOf a b d)) le h = (omega arith, refl)
of_parts_fits m n st c p (Some (ShortIfOf a b)) le h = (omega arith, refl)
of_parts_fits m n st c p (Some (SetOf b d)) le h = assigned_fits n b d (meaning st c b.name) (omega arith)
of_parts_fits m n st c p (Some (BeginOf ds)) le h = omega arith
of_parts_fits m n st c p (Some (LetOf ps b)) le h = once_fits n (bound_twice ps.binders) (expr.Binding ps b) (omega arith)
of_parts_fits m n st c p (Some (LetrecOf ps b)) le h = once_fits n (bound_twice ps.binders) (Recursion ps b) (omega arith)
of_parts_fits m n st c p (Some (ApplyOf f l)) le h = (omega arith, refl)
of_parts_fits m n st c p (Some Unbuilt) le h = tt

misused_fits : (n : ℕ) (p : Place) (h : datum.Tree) (b : Bool) → Fits n (misused p h b)
misused_fits n p h true = tt
misused_fits n p h false = tt

use_fits : (n : ℕ) (p : Place) (h : datum.Tree) (ds : datum.Trees) (q : Primitive) (b : Bool) → size_all ds + 1 ≤ n → Fits n (cond b (Operands (Using q) ds) (misused p h (is_of_many q)))
use_fits n p h ds q true le = (le, tt)
use_fits n p h ds q false le = misused_fits n p h (is_of_many q)

by_head_fits : (n : ℕ) (st : State) (c : Context) (p : Place) (h : datum.Tree) (ds : datum.Trees) (x : Head) → size h + size_all ds + 1 ≤ n → 1 ≤ size h → Fits n (by_head st c p h ds x)
by_head_fits n st c p h ds Operator le s = (omega arith, omega arith)
by_head_fits n st c p h ds (Keyword f) le s = of_parts_fits (size_all ds) n st c p (parts_of f ds) (omega arith) (parts_fit f ds)
by_head_fits n st c p h ds (Primitively q) le s = use_fits n p h ds q (how_many_data ds == arity_of q) (omega arith)

alone_fits : (n : ℕ) (p : Place) (f : Form) → Fits n (word_alone p f)
alone_fits n p Applying = tt
alone_fits n p f = tt

named_fits : (n : ℕ) (p : Place) (m : Meaning) → Fits n (named p m)
named_fits n p (Variable x) = tt
named_fits n p (Special f) = alone_fits n p f
named_fits n p (Integrated q) = tt
named_fits n p (Plain g) = tt

pub expression_fits : (st : State) (c : Context) (d : datum.Tree) → Fits (size d) (expression st c d)
unfolding expression
expression_fits st c (datum.At p datum.Nil) = tt
expression_fits st c (datum.At p (datum.Truth b)) = tt
expression_fits st c (datum.At p (datum.Fixnum n)) = constantly_fits 1 p (datum.Fixnum n) (are_fixnums_in (datum.Fixnum n))
expression_fits st c (datum.At p (datum.Character n)) = tt
expression_fits st c (datum.At p (datum.String s)) = tt
expression_fits st c (datum.At p (datum.Name s alias)) = named_fits 1 p (meaning st c (record { text = s; alias = alias }))
expression_fits st c (datum.At p (datum.Proper datum.none)) = tt
expression_fits st c (datum.At p (datum.Proper (datum.more h ds))) =
    by_head_fits (1 + (size h + size_all ds)) st c p h ds (head st c h) (omega arith) (some_size h)
expression_fits st c (datum.At p (datum.Dotted ds d)) = tt
expression_fits st c (datum.At p (datum.Vector ds)) = tt

-- definitions, from what stands behind `define`
abbrev pub ValueFits : ℕ → Defined → Type 0
ValueFits n (Value d) = size d + 1 ≤ n
ValueFits n (Procedure p f b) = size_all b + 1 ≤ n

abbrev pub DefinitionFits : ℕ → Option Definition → Type 0
DefinitionFits n None = Unit {0}
DefinitionFits n (Some i) = ValueFits n i.value

value_fits : (m n : ℕ) (b : Binder) (ds : datum.Trees) → size_all ds + 1 ≤ n → DefinitionFits n (value_definition b ds)
value_fits m n b (datum.more d datum.none) h = omega arith
value_fits m n b ds h = tt

procedure_fits : (n : ℕ) (p : Place) (t : Option Target) (ds : datum.Trees) → size_all ds + 1 ≤ n → DefinitionFits n (procedure_definition p t ds)
procedure_fits n p (Some t) (datum.more d ds) h = h
procedure_fits n p (Some t) datum.none h = tt
procedure_fits n p None ds h = tt

definition_by_fits : (n : ℕ) (p : Place) (h : datum.Tree) (o : Option Binder) (ds : datum.Trees) → size_all ds + 1 ≤ n → DefinitionFits n (definition_by p h o ds)
definition_by_fits n p h None ds le = procedure_fits n p (target_of h) ds le
definition_by_fits n p h (Some b) ds le = value_fits 0 n b ds le

pub definition_fits : (p : Place) (ds : datum.Trees) → DefinitionFits (size_all ds) (definition_of p ds)
definition_fits p datum.none = tt
definition_fits p (datum.more h ds) = let s = some_size h in definition_by_fits (size h + size_all ds) p h (binder_of h) ds (omega arith)

-- items of bodies and texts
abbrev pub KindFits : ℕ → Kind → Type 0
KindFits n body.Expression = Unit {0}
KindFits n (body.Defining p es) = size_all es + 2 ≤ n
KindFits n (body.Beginning p es) = size_all es + 2 ≤ n

word_fits : (n : ℕ) (p : Place) (ds : datum.Trees) (b : Bool) (f : Form) → size_all ds + 2 ≤ n → KindFits n (kind_by p ds b (Keyword f))
word_fits n p ds b Defining le = le
word_fits n p ds true Beginning le = le
word_fits n p ds false Beginning le = tt
word_fits n p ds b f le = tt

kind_by_fits : (n : ℕ) (p : Place) (ds : datum.Trees) (b : Bool) (x : Head) → size_all ds + 2 ≤ n → KindFits n (kind_by p ds b x)
kind_by_fits n p ds b Operator le = tt
kind_by_fits n p ds b (Primitively q) le = tt
kind_by_fits n p ds b (Keyword f) le = word_fits n p ds b f le

pub kind_fits : (st : State) (c : Context) (d : datum.Tree) → KindFits (size d) (kind st c d)
unfolding kind
kind_fits st c (datum.At p (datum.Proper (datum.more h ds))) =
    let s = some_size h in kind_by_fits (1 + (size h + size_all ds)) p ds (begins st c ds) (head st c h) (omega arith)
kind_fits st c (datum.At p (datum.Proper datum.none)) = tt
kind_fits st c (datum.At p s) = tt

pub top_kind_fits : (st : State) (c : Context) (d : datum.Tree) → KindFits (size d) (top_kind st c d)
unfolding top_kind
top_kind_fits st c (datum.At p (datum.Proper (datum.more h ds))) =
    let s = some_size h in kind_by_fits (1 + (size h + size_all ds)) p ds true (head st c h) (omega arith)
top_kind_fits st c (datum.At p (datum.Proper datum.none)) = tt
top_kind_fits st c (datum.At p s) = tt
