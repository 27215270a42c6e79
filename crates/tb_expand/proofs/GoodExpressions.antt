-- What data are as expressions: names that have a binding, and binders that are each once.
use Rattle.std.proofs.Common.{◌≡◌, refl, ◌==◌, Bool, true, false, cond, Option, Some, None}
use Rattle.tb_prim.specs.declared.place.Place.{Place}
use Rattle.tb_prim.specs.declared.primitive.Primitive.{Primitive}
use Rattle.tb_prim.specs.Primitives.{arity_of}
use Rattle.tb_sexp.specs.Tree as datum
use Rattle.tb_expand.specs.declared.context.Context.{Context}
use Rattle.tb_expand.specs.declared.form.Form.{Form}
use Rattle.tb_expand.specs.declared.form.Form.TheVariants.{Applying}
use Rattle.tb_expand.specs.Names.{Name, Binder, bound_twice}
use Rattle.tb_expand.specs.Trees.{Var, Core, Local, Global}
use Rattle.tb_expand.specs.Words.{Meaning, Variable, Special, Integrated, Plain, is_of_many, word_of, primitive_meaning, form_meaning}
use Rattle.tb_expand.specs.Refusals as refusal
use Rattle.tb_expand.specs.Refusals.{Refusal}
use Rattle.tb_expand.specs.Scopes.{State, binding, or_word, meaning}
use Rattle.tb_expand.specs.Limits.{how_many_data}
use Rattle.tb_expand.specs.Shapes.{Formals, Pairs, parameters, Parts, QuoteOf, LambdaOf, IfOf, ShortIfOf, SetOf, BeginOf, LetOf, LetrecOf, ApplyOf, Unbuilt, parts_of}
use Rattle.tb_expand.specs.Expressions as expr
use Rattle.tb_expand.specs.Expressions.{Expression, Wrong, Constantly, Naming, Operands, Sequence, Procedural, Recursion, Build, Choosing, ChoosingOne, AssigningLocal, AssigningGlobal, Using, ApplyingTo, Calling, Head, Operator, Keyword, Primitively, head, word_alone, named, assigned, binding_once, are_fixnums_in, constantly, of_parts, misused, by_head, expression}
use Rattle.tb_prim.specs.Names.{prim_named}
use Rattle.tb_expand.specs.Words.{find, forms}

-- a variable that a name is bound to
pub record IsVisible (st : State) (c : Context) (x : Var) : Type 0 where
  pub name : Name
  pub found : binding st.scopes c.scope name ≡ Some x

abbrev pub IsGoodName : State → Context → Core → Type 0
IsGoodName st c (Local x) = IsVisible st c x
IsGoodName st c (Global g) = Unit {0}
IsGoodName st c e = ⊥

abbrev pub IsGoodBuild : State → Context → Build → Type 0
IsGoodBuild st c (AssigningLocal x) = IsVisible st c x
IsGoodBuild st c k = Unit {0}

abbrev pub IsGood : State → Context → Expression → Type 0
IsGood st c (Wrong r) = Unit {0}
IsGood st c (Constantly s) = Unit {0}
IsGood st c (Naming e) = IsGoodName st c e
IsGood st c (Operands k ds) = IsGoodBuild st c k
IsGood st c (Sequence ds) = Unit {0}
IsGood st c (Procedural f b) = bound_twice (parameters f) ≡ None
IsGood st c (expr.Binding ps b) = bound_twice ps.binders ≡ None
IsGood st c (Recursion ps b) = bound_twice ps.binders ≡ None

-- a name that means a variable
abbrev IsFound : State → Context → Meaning → Type 0
IsFound st c (Variable x) = IsVisible st c x
IsFound st c (Special f) = Unit {0}
IsFound st c (Integrated q) = Unit {0}
IsFound st c (Plain g) = Unit {0}

no_primitive : (st : State) (c : Context) (o : Option Primitive) (x : Name) → IsFound st c (primitive_meaning o x.text)
no_primitive st c None x = tt
no_primitive st c (Some q) x = tt

no_form : (st : State) (c : Context) (f : Option Form) (o : Option Primitive) (x : Name) → IsFound st c (form_meaning f o x.text)
no_form st c None o x = no_primitive st c o x
no_form st c (Some f) o x = tt

word_found : (st : State) (c : Context) (x : Name) → IsFound st c (word_of c.library x.text)
unfolding word_of
word_found st c x = no_form st c (find forms x.text) (prim_named x.text c.library) x

found_by : (st : State) (c : Context) (x : Name) (o : Option Var) → binding st.scopes c.scope x ≡ o → IsFound st c (or_word o (word_of c.library x.text))
found_by st c x None e = word_found st c x
found_by st c x (Some v) e = record { name = x; found = e }

meaning_found : (st : State) (c : Context) (x : Name) → IsFound st c (meaning st c x)
meaning_found st c x = found_by st c x (binding st.scopes c.scope x) refl

good_constant : (st : State) (c : Context) (p : Place) (s : datum.Shape) (b : Bool) → IsGood st c (cond b (Constantly s) (Wrong (refusal.BadForm p)))
good_constant st c p s true = tt
good_constant st c p s false = tt

good_lambda : (st : State) (c : Context) (f : Formals) (b : datum.Trees) (o : Option Place) → bound_twice (parameters f) ≡ o → IsGood st c (binding_once o (Procedural f b))
good_lambda st c f b None e = e
good_lambda st c f b (Some p) e = tt

good_let : (st : State) (c : Context) (ps : Pairs) (b : datum.Trees) (o : Option Place) → bound_twice ps.binders ≡ o → IsGood st c (binding_once o (expr.Binding ps b))
good_let st c ps b None e = e
good_let st c ps b (Some p) e = tt

good_letrec : (st : State) (c : Context) (ps : Pairs) (b : datum.Trees) (o : Option Place) → bound_twice ps.binders ≡ o → IsGood st c (binding_once o (Recursion ps b))
good_letrec st c ps b None e = e
good_letrec st c ps b (Some p) e = tt

good_assigned : (st : State) (c : Context) (b : Binder) (d : datum.Tree) (m : Meaning) → IsFound st c m → IsGood st c (assigned b d m)
good_assigned st c b d (Variable x) h = h
good_assigned st c b d (Special f) h = tt
good_assigned st c b d (Integrated q) h = tt
good_assigned st c b d (Plain g) h = tt

good_of_parts : (st : State) (c : Context) (p : Place) (o : Option Parts) → IsGood st c (of_parts st c p o)
good_of_parts st c p None = tt
good_of_parts st c p (Some (QuoteOf (datum.At q s))) = good_constant st c p s (are_fixnums_in s)
good_of_parts st c p (Some (LambdaOf f b)) = good_lambda st c f b (bound_twice (parameters f)) refl
good_of_parts st c p (Some (IfOf a b d)) = tt
good_of_parts st c p (Some (ShortIfOf a b)) = tt
good_of_parts st c p (Some (SetOf b d)) = good_assigned st c b d (meaning st c b.name) (meaning_found st c b.name)
good_of_parts st c p (Some (BeginOf ds)) = tt
good_of_parts st c p (Some (LetOf ps b)) = good_let st c ps b (bound_twice ps.binders) refl
good_of_parts st c p (Some (LetrecOf ps b)) = good_letrec st c ps b (bound_twice ps.binders) refl
good_of_parts st c p (Some (ApplyOf f l)) = tt
good_of_parts st c p (Some Unbuilt) = tt

good_misused : (st : State) (c : Context) (p : Place) (h : datum.Tree) (b : Bool) → IsGood st c (misused p h b)
good_misused st c p h true = tt
good_misused st c p h false = tt

good_use : (st : State) (c : Context) (p : Place) (h : datum.Tree) (ds : datum.Trees) (q : Primitive) (b : Bool) → IsGood st c (cond b (Operands (Using q) ds) (misused p h (is_of_many q)))
good_use st c p h ds q true = tt
good_use st c p h ds q false = good_misused st c p h (is_of_many q)

good_by_head : (st : State) (c : Context) (p : Place) (h : datum.Tree) (ds : datum.Trees) (x : Head) → IsGood st c (by_head st c p h ds x)
good_by_head st c p h ds Operator = tt
good_by_head st c p h ds (Keyword f) = good_of_parts st c p (parts_of f ds)
good_by_head st c p h ds (Primitively q) = good_use st c p h ds q (how_many_data ds == arity_of q)

good_alone : (st : State) (c : Context) (p : Place) (f : Form) → IsGood st c (word_alone p f)
good_alone st c p Applying = tt
good_alone st c p f = tt

good_named : (st : State) (c : Context) (p : Place) (m : Meaning) → IsFound st c m → IsGood st c (named p m)
good_named st c p (Variable x) h = h
good_named st c p (Special f) h = good_alone st c p f
good_named st c p (Integrated q) h = tt
good_named st c p (Plain g) h = tt

pub good_expression : (st : State) (c : Context) (d : datum.Tree) → IsGood st c (expression st c d)
unfolding expression
good_expression st c (datum.At p datum.Nil) = tt
good_expression st c (datum.At p (datum.Truth b)) = tt
good_expression st c (datum.At p (datum.Fixnum n)) = good_constant st c p (datum.Fixnum n) (are_fixnums_in (datum.Fixnum n))
good_expression st c (datum.At p (datum.Character n)) = tt
good_expression st c (datum.At p (datum.String s)) = tt
good_expression st c (datum.At p (datum.Name s alias)) = good_named st c p (meaning st c (record { text = s; alias = alias })) (meaning_found st c (record { text = s; alias = alias }))
good_expression st c (datum.At p (datum.Proper datum.none)) = tt
good_expression st c (datum.At p (datum.Proper (datum.more h ds))) = good_by_head st c p h ds (head st c h)
good_expression st c (datum.At p (datum.Dotted ds d)) = tt
good_expression st c (datum.At p (datum.Vector ds)) = tt
