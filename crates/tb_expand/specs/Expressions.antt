-- What a datum is as an expression: its form, with its parts, or why it is none. The shape of a form is judged before
-- any of its parts.
use Rattle.std.specs.Prelude.{ℕ, ◌==◌, ◌&&◌, Bool, true, false, cond, List, Option, Some, None}
use Rattle.tb_prim.specs.declared.place.Place.{Place}
use Rattle.tb_prim.specs.declared.primitive.Primitive.{Primitive}
use Rattle.tb_prim.specs.Fixnums.{is_fixnum}
use Rattle.tb_prim.specs.Primitives.{arity_of}
use Rattle.tb_sexp.specs.Tree as datum
use Rattle.tb_expand.specs.Names.{Binder, bound_twice}
use Rattle.tb_expand.specs.Trees.{Var, At, Core, Unspecified, Local, Global, If, SetLocal, SetGlobal, Call, PrimUse, Apply, Nodes, nil, cons}
use Rattle.tb_expand.specs.declared.form.Form.{Form}
use Rattle.tb_expand.specs.Words.{Meaning, Variable, Special, Integrated, Plain, is_of_many}
use Rattle.tb_expand.specs.declared.form.Form.TheVariants as word
use Rattle.tb_expand.specs.Refusals as refusal
use Rattle.tb_expand.specs.Refusals.{Refusal}
use Rattle.tb_expand.specs.declared.context.Context.{Context}
use Rattle.tb_expand.specs.Scopes.{State, meaning}
use Rattle.tb_expand.specs.Limits.{how_many_data}
use Rattle.tb_expand.specs.Shapes.{Sort, Itself, Word, Listed, Nothing, sort, Formals, parameters, Pairs, Parts, QuoteOf, LambdaOf, IfOf, ShortIfOf, SetOf, BeginOf, LetOf, LetrecOf, ApplyOf, Unbuilt, parts_of}

-- what a node is made of that has nothing but its operands, one after another
pub data Build : Type 0 where
  Choosing : Build
  ChoosingOne : Build
  AssigningLocal : Var → Build
  AssigningGlobal : Place → List ℕ → Build
  Using : Primitive → Build
  ApplyingTo : Build
  Calling : Build

-- what a datum is
pub data Expression : Type 0 where
  Wrong : Refusal → Expression
  Constantly : datum.Shape → Expression
  Naming : Core → Expression
  Operands : Build → datum.Trees → Expression
  Sequence : datum.Trees → Expression
  Procedural : Formals → datum.Trees → Expression
  Binding : Pairs → datum.Trees → Expression
  Recursion : Pairs → datum.Trees → Expression

-- what the first element of a list is
pub data Head : Type 0 where
  Operator : Head
  Keyword : Form → Head
  Primitively : Primitive → Head

abbrev pub head_by : Meaning → Head
head_by (Variable x) = Operator
head_by (Special f) = Keyword f
head_by (Integrated p) = Primitively p
head_by (Plain g) = Operator

abbrev pub head_in : State → Context → Sort → Head
head_in st c Itself = Operator
head_in st c (Word x) = head_by (meaning st c x)
head_in st c (Listed d ds) = Operator
head_in st c Nothing = Operator

abbrev pub head : State → Context → datum.Tree → Head
head st c (datum.At p s) = head_in st c (sort s)

-- a name alone: a form's name is no expression, and a primitive means the library's procedure, as `apply` does
abbrev pub word_alone : Place → Form → Expression
word_alone p word.Applying = Wrong (refusal.NotBuilt p)
word_alone p f = Wrong (refusal.BadForm p)

abbrev pub named : Place → Meaning → Expression
named p (Variable x) = Naming (Local x)
named p (Special f) = word_alone p f
named p (Integrated q) = Wrong (refusal.NotBuilt p)
named p (Plain g) = Naming (Global g)

-- what a `set!` assigns
abbrev pub assigned : Binder → datum.Tree → Meaning → Expression
assigned b d (Variable x) = Operands (AssigningLocal x) (datum.more d datum.none)
assigned b d (Special f) = Wrong (refusal.Integrated b.place)
assigned b d (Integrated p) = Wrong (refusal.Integrated b.place)
assigned b d (Plain g) = Operands (AssigningGlobal b.place g) (datum.more d datum.none)

-- a form that binds these names, each once
abbrev pub binding_once : Option Place → Expression → Expression
binding_once None e = e
binding_once (Some p) e = Wrong (refusal.Duplicate p)

-- numbers in a quoted datum are fixnums, as in all data that are read
abbrev mutual
  pub are_fixnums : datum.Tree → Bool
  are_fixnums (datum.At p s) = are_fixnums_in s

  pub are_fixnums_in : datum.Shape → Bool
  are_fixnums_in datum.Nil = true
  are_fixnums_in (datum.Truth b) = true
  are_fixnums_in (datum.Fixnum n) = is_fixnum n
  are_fixnums_in (datum.Character c) = true
  are_fixnums_in (datum.String s) = true
  are_fixnums_in (datum.Name s alias) = true
  are_fixnums_in (datum.Proper ds) = are_fixnums_all ds
  are_fixnums_in (datum.Dotted ds d) = are_fixnums_all ds && are_fixnums d
  are_fixnums_in (datum.Vector ds) = are_fixnums_all ds

  pub are_fixnums_all : datum.Trees → Bool
  are_fixnums_all datum.none = true
  are_fixnums_all (datum.more d ds) = are_fixnums d && are_fixnums_all ds

abbrev pub constantly : Place → datum.Shape → Expression
constantly p s = cond (are_fixnums_in s) (Constantly s) (Wrong (refusal.BadForm p))

abbrev pub of_parts : State → Context → Place → Option Parts → Expression
of_parts st c p None = Wrong (refusal.BadForm p)
of_parts st c p (Some (QuoteOf (datum.At q s))) = constantly p s
of_parts st c p (Some (LambdaOf f b)) = binding_once (bound_twice (parameters f)) (Procedural f b)
of_parts st c p (Some (IfOf a b d)) = Operands Choosing (datum.more a (datum.more b (datum.more d datum.none)))
of_parts st c p (Some (ShortIfOf a b)) = Operands ChoosingOne (datum.more a (datum.more b datum.none))
of_parts st c p (Some (SetOf b d)) = assigned b d (meaning st c b.name)
of_parts st c p (Some (BeginOf ds)) = Sequence ds
of_parts st c p (Some (LetOf ps b)) = binding_once (bound_twice ps.binders) (Binding ps b)
of_parts st c p (Some (LetrecOf ps b)) = binding_once (bound_twice ps.binders) (Recursion ps b)
of_parts st c p (Some (ApplyOf f l)) = Operands ApplyingTo (datum.more f (datum.more l datum.none))
of_parts st c p (Some Unbuilt) = Wrong (refusal.NotBuilt p)

abbrev pub place_of : datum.Tree → Place
place_of (datum.At p s) = p

-- a primitive with another number of operands than its own is not built: the call of the library's procedure, or, for
-- those that take any number, the sums and comparisons that stand for it
abbrev pub misused : Place → datum.Tree → Bool → Expression
misused p h true = Wrong (refusal.NotBuilt p)
misused p h false = Wrong (refusal.NotBuilt (place_of h))

abbrev pub primitive_use : Place → datum.Tree → datum.Trees → Primitive → Expression
primitive_use p h ds q = cond (how_many_data ds == arity_of q) (Operands (Using q) ds) (misused p h (is_of_many q))

abbrev pub by_head : State → Context → Place → datum.Tree → datum.Trees → Head → Expression
by_head st c p h ds Operator = Operands Calling (datum.more h ds)
by_head st c p h ds (Keyword f) = of_parts st c p (parts_of f ds)
by_head st c p h ds (Primitively q) = primitive_use p h ds q

abbrev pub by_sort : State → Context → Place → datum.Shape → Sort → Expression
by_sort st c p s Itself = constantly p s
by_sort st c p s (Word x) = named p (meaning st c x)
by_sort st c p s (Listed h ds) = by_head st c p h ds (head st c h)
by_sort st c p s Nothing = Wrong (refusal.BadForm p)

-- the same of a list of these elements
abbrev pub list_expression : State → Context → Place → datum.Trees → Expression
list_expression st c p datum.none = Wrong (refusal.BadForm p)
list_expression st c p (datum.more h ds) = by_head st c p h ds (head st c h)

-- what a datum is as an expression
unfoldable pub expression : State → Context → datum.Tree → Expression
expression st c (datum.At p s) = by_sort st c p s (sort s)

-- the node of these operands at this place; there are as many as the form has
abbrev pub built : Place → Build → Nodes → Option Core
built p Choosing (cons a (cons b (cons c nil))) = Some (If a b c)
built p ChoosingOne (cons a (cons b nil)) = Some (If a b (At p Unspecified))
built p (AssigningLocal x) (cons e nil) = Some (SetLocal x e)
built p (AssigningGlobal q g) (cons e nil) = Some (SetGlobal q g e)
built p (Using q) es = Some (PrimUse q es)
built p ApplyingTo (cons f (cons l nil)) = Some (Apply f l)
built p Calling (cons f es) = Some (Call f es)
built p k es = None

-- how many nodes follow the operands: the one of an `if` without its second arm
abbrev pub follows : Build → ℕ
follows Choosing = 0
follows ChoosingOne = 1
follows (AssigningLocal x) = 0
follows (AssigningGlobal p g) = 0
follows (Using q) = 0
follows ApplyingTo = 0
follows Calling = 0
