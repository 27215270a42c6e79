-- The shapes of the forms, whatever their parts mean.
use Rattle.std.specs.Prelude.{List, [], ◌∷◌, ◌++◌, Option, Some, None}
use Rattle.tb_prim.specs.declared.place.Place.{Place}
use Rattle.tb_sexp.specs.Tree as datum
use Rattle.tb_expand.specs.Names.{Name, Binder}
use Rattle.tb_expand.specs.declared.form.Form.{Form}
use Rattle.tb_expand.specs.declared.form.Form.TheVariants.{Quoting, Closure, Choice, Assigning, Defining, Beginning, Binding, Recursive, Applying, Later}

-- a datum as an expression: a constant that stands for itself, a name, a list with its first element and the others,
-- or nothing that is an expression: the empty list, a dotted list or a vector
pub data Sort : Type 0 where
  Itself : Sort
  Word : Name → Sort
  Listed : datum.Tree → datum.Trees → Sort
  Nothing : Sort

abbrev pub listed : datum.Trees → Sort
listed datum.none = Nothing
listed (datum.more d ds) = Listed d ds

abbrev pub sort : datum.Shape → Sort
sort datum.Nil = Nothing
sort (datum.Truth b) = Itself
sort (datum.Fixnum n) = Itself
sort (datum.Character c) = Itself
sort (datum.String s) = Itself
sort (datum.Name s alias) = Word (record { text = s; alias = alias })
sort (datum.Proper ds) = listed ds
sort (datum.Dotted ds d) = Nothing
sort (datum.Vector ds) = Nothing

-- a name at its place
abbrev pub binder_at : Place → Sort → Option Binder
binder_at p Itself = None
binder_at p (Word x) = Some (record { place = p; name = x })
binder_at p (Listed d ds) = None
binder_at p Nothing = None

abbrev pub binder_of : datum.Tree → Option Binder
binder_of (datum.At p s) = binder_at p (sort s)

abbrev pub and_binder : Option Binder → Option (List Binder) → Option (List Binder)
and_binder None bs = None
and_binder (Some b) None = None
and_binder (Some b) (Some bs) = Some (b ∷ bs)

-- data that are all names
abbrev pub binders_of : datum.Trees → Option (List Binder)
binders_of datum.none = Some []
binders_of (datum.more d ds) = and_binder (binder_of d) (binders_of ds)

-- parameters: those that there are so many of, and the rest one
pub record Formals : Type 0 where
  pub fixed : List Binder
  pub rest : Option Binder

abbrev pub all_fixed : Option (List Binder) → Option Formals
all_fixed None = None
all_fixed (Some bs) = Some (record { fixed = bs; rest = None })

abbrev pub with_rest : Option (List Binder) → Option Binder → Option Formals
with_rest None r = None
with_rest (Some bs) None = None
with_rest (Some bs) (Some r) = Some (record { fixed = bs; rest = Some r })

-- `(x ...)`, `(x ... . r)` or `r` (R5RS 4.1.4)
abbrev pub formals_at : Place → datum.Shape → Option Formals
formals_at p datum.Nil = all_fixed (Some [])
formals_at p (datum.Truth b) = None
formals_at p (datum.Fixnum n) = None
formals_at p (datum.Character c) = None
formals_at p (datum.String s) = None
formals_at p (datum.Name s alias) = with_rest (Some []) (Some (record { place = p; name = record { text = s; alias = alias } }))
formals_at p (datum.Proper ds) = all_fixed (binders_of ds)
formals_at p (datum.Dotted ds d) = with_rest (binders_of ds) (binder_of d)
formals_at p (datum.Vector ds) = None

abbrev pub formals_of : datum.Tree → Option Formals
formals_of (datum.At p s) = formals_at p s

abbrev pub option_list : {X : Type 0} → Option X → List X
option_list None = []
option_list (Some x) = x ∷ []

abbrev pub parameters : Formals → List Binder
parameters f = f.fixed ++ option_list f.rest

-- the elements of a list that is not dotted
abbrev pub elements_at : datum.Shape → Option datum.Trees
elements_at datum.Nil = Some datum.none
elements_at (datum.Truth b) = None
elements_at (datum.Fixnum n) = None
elements_at (datum.Character c) = None
elements_at (datum.String s) = None
elements_at (datum.Name s alias) = None
elements_at (datum.Proper ds) = Some ds
elements_at (datum.Dotted ds d) = None
elements_at (datum.Vector ds) = None

abbrev pub elements_of : datum.Tree → Option datum.Trees
elements_of (datum.At p s) = elements_at s

-- bindings: names, and as many expressions
pub record Pairs : Type 0 where
  pub binders : List Binder
  pub values : datum.Trees

-- one binding: a name and an expression
pub record Pair : Type 0 where
  pub binder : Binder
  pub value : datum.Tree

abbrev pub pair_with : datum.Tree → Option Binder → Option Pair
pair_with d None = None
pair_with d (Some b) = Some (record { binder = b; value = d })

abbrev pub pair_in : Option datum.Trees → Option Pair
pair_in (Some (datum.more h (datum.more d datum.none))) = pair_with d (binder_of h)
pair_in o = None

abbrev pub and_pair : Option Pair → Option Pairs → Option Pairs
and_pair None ps = None
and_pair (Some b) None = None
and_pair (Some b) (Some ps) = Some (record { binders = b.binder ∷ ps.binders; values = datum.more b.value ps.values })

abbrev pub pairs_of : datum.Trees → Option Pairs
pairs_of datum.none = Some (record { binders = []; values = datum.none })
pairs_of (datum.more d ds) = and_pair (pair_in (elements_of d)) (pairs_of ds)

abbrev pub pairs_in : Option datum.Trees → Option Pairs
pairs_in None = None
pairs_in (Some ds) = pairs_of ds

-- the parts of a form; those of the last kind are lawful, and not built yet
pub data Parts : Type 0 where
  QuoteOf : datum.Tree → Parts
  LambdaOf : Formals → datum.Trees → Parts
  IfOf : datum.Tree → datum.Tree → datum.Tree → Parts
  ShortIfOf : datum.Tree → datum.Tree → Parts
  SetOf : Binder → datum.Tree → Parts
  BeginOf : datum.Trees → Parts
  LetOf : Pairs → datum.Trees → Parts
  LetrecOf : Pairs → datum.Trees → Parts
  ApplyOf : datum.Tree → datum.Tree → Parts
  Unbuilt : Parts

abbrev pub quote_parts : datum.Trees → Option Parts
quote_parts (datum.more d datum.none) = Some (QuoteOf d)
quote_parts ds = None

abbrev pub lambda_of : Option Formals → datum.Trees → Option Parts
lambda_of None b = None
lambda_of (Some f) b = Some (LambdaOf f b)

abbrev pub lambda_parts : datum.Trees → Option Parts
lambda_parts (datum.more f (datum.more b bs)) = lambda_of (formals_of f) (datum.more b bs)
lambda_parts ds = None

abbrev pub if_parts : datum.Trees → Option Parts
if_parts (datum.more a (datum.more b datum.none)) = Some (ShortIfOf a b)
if_parts (datum.more a (datum.more b (datum.more c datum.none))) = Some (IfOf a b c)
if_parts ds = None

abbrev pub set_of : Option Binder → datum.Tree → Option Parts
set_of None d = None
set_of (Some b) d = Some (SetOf b d)

abbrev pub set_parts : datum.Trees → Option Parts
set_parts (datum.more x (datum.more d datum.none)) = set_of (binder_of x) d
set_parts ds = None

abbrev pub begin_parts : datum.Trees → Option Parts
begin_parts datum.none = None
begin_parts (datum.more d ds) = Some (BeginOf (datum.more d ds))

-- a `let` with a name before its bindings is not built yet
abbrev pub let_of : Option Pairs → datum.Trees → Option Parts
let_of None b = None
let_of (Some ps) b = Some (LetOf ps b)

abbrev pub named_or : Option Binder → Option Parts → Option Parts
named_or None v = v
named_or (Some b) v = Some Unbuilt

abbrev pub let_parts : datum.Trees → Option Parts
let_parts (datum.more d (datum.more b bs)) = named_or (binder_of d) (let_of (pairs_in (elements_of d)) (datum.more b bs))
let_parts ds = None

abbrev pub letrec_of : Option Pairs → datum.Trees → Option Parts
letrec_of None b = None
letrec_of (Some ps) b = Some (LetrecOf ps b)

abbrev pub letrec_parts : datum.Trees → Option Parts
letrec_parts (datum.more d (datum.more b bs)) = letrec_of (pairs_in (elements_of d)) (datum.more b bs)
letrec_parts ds = None

-- more operands than two are not built yet
abbrev pub apply_parts : datum.Trees → Option Parts
apply_parts (datum.more f (datum.more l datum.none)) = Some (ApplyOf f l)
apply_parts (datum.more f (datum.more d (datum.more e ds))) = Some Unbuilt
apply_parts ds = None

-- the parts of a form, from what stands behind its name, where it is an expression
abbrev pub parts_of : Form → datum.Trees → Option Parts
parts_of Quoting ds = quote_parts ds
parts_of Closure ds = lambda_parts ds
parts_of Choice ds = if_parts ds
parts_of Assigning ds = set_parts ds
parts_of Defining ds = None
parts_of Beginning ds = begin_parts ds
parts_of Binding ds = let_parts ds
parts_of Recursive ds = letrec_parts ds
parts_of Applying ds = apply_parts ds
parts_of Later ds = Some Unbuilt

-- what a name is defined as: an expression, or a lambda expression at the place of the definition
pub data Defined : Type 0 where
  Value : datum.Tree → Defined
  Procedure : Place → Formals → datum.Trees → Defined

pub record Definition : Type 0 where
  pub binder : Binder
  pub value : Defined

abbrev pub value_definition : Binder → datum.Trees → Option Definition
value_definition b (datum.more d datum.none) = Some (record { binder = b; value = Value d })
value_definition b ds = None

-- the name and the parameters in `(f . formals)`
pub record Target : Type 0 where
  pub binder : Binder
  pub formals : Formals

abbrev pub target_with : Option Binder → Option Formals → Option Target
target_with None f = None
target_with (Some b) None = None
target_with (Some b) (Some f) = Some (record { binder = b; formals = f })

abbrev pub target_in : datum.Trees → Option Target
target_in datum.none = None
target_in (datum.more h hs) = target_with (binder_of h) (all_fixed (binders_of hs))

abbrev pub target_before : datum.Trees → datum.Tree → Option Target
target_before datum.none d = None
target_before (datum.more h hs) d = target_with (binder_of h) (with_rest (binders_of hs) (binder_of d))

abbrev pub target_at : datum.Shape → Option Target
target_at datum.Nil = None
target_at (datum.Truth b) = None
target_at (datum.Fixnum n) = None
target_at (datum.Character c) = None
target_at (datum.String s) = None
target_at (datum.Name s alias) = None
target_at (datum.Proper hs) = target_in hs
target_at (datum.Dotted hs d) = target_before hs d
target_at (datum.Vector hs) = None

abbrev pub target_of : datum.Tree → Option Target
target_of (datum.At p s) = target_at s

abbrev pub procedure_definition : Place → Option Target → datum.Trees → Option Definition
procedure_definition p None ds = None
procedure_definition p (Some t) datum.none = None
procedure_definition p (Some t) (datum.more d ds) = Some (record { binder = t.binder; value = Procedure p t.formals (datum.more d ds) })

abbrev pub definition_by : Place → datum.Tree → Option Binder → datum.Trees → Option Definition
definition_by p h None ds = procedure_definition p (target_of h) ds
definition_by p h (Some b) ds = value_definition b ds

-- a definition at this place, from what stands behind `define` (R5RS 5.2)
abbrev pub definition_of : Place → datum.Trees → Option Definition
definition_of p datum.none = None
definition_of p (datum.more h ds) = definition_by p h (binder_of h) ds
