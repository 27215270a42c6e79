-- The words of the language: the names of forms, and what a text means where nothing
-- binds it.
use Rattle.std.specs.Prelude.{ℕ, Bool, true, false, cond, List, [], ◌∷◌, Option, Some, None, codes, bytes_eq}
use Rattle.tb_prim.specs.declared.primitive.Primitive.{Primitive}
use Rattle.tb_prim.specs.declared.primitive.Primitive.TheVariants.{Add, Sub, Mul, NumEq, Less, Greater, LessEq, GreaterEq}
use Rattle.tb_prim.specs.Names.{prim_named}
use Rattle.tb_expand.specs.declared.form.Form.{Form}
use Rattle.tb_expand.specs.declared.form.Form.TheVariants.{Quoting, Closure, Choice, Assigning, Defining, Beginning, Binding, Recursive, Applying, Later}
use Rattle.tb_expand.specs.Trees.{Var}

-- a text, and what it stands for
pub record Entry (X : Type 0) : Type 0 where
  pub text : List ℕ
  pub stands_for : X

abbrev entry : {X : Type 0} → List ℕ → X → Entry X
entry s x = record { text = s; stands_for = x }

-- what a text stands for, by its first entry
abbrev pub find : {X : Type 0} → List (Entry X) → List ℕ → Option X
find [] s = None
find (e ∷ es) s = cond (bytes_eq s e.text) (Some e.stands_for) (find es s)

-- the names of forms that are not built yet
unfoldable pub later_forms : List (Entry Form)
later_forms =
    entry (codes "let-syntax") Later ∷
    entry (codes "letrec-syntax") Later ∷
    entry (codes "define-syntax") Later ∷
    entry (codes "syntax-rules") Later ∷
    entry (codes "let*") Later ∷
    entry (codes "cond") Later ∷
    entry (codes "case") Later ∷
    entry (codes "and") Later ∷
    entry (codes "or") Later ∷
    entry (codes "do") Later ∷
    entry (codes "quasiquote") Later ∷ []

-- the names of forms (R5RS 4 and 5)
unfoldable pub forms : List (Entry Form)
forms =
    entry (codes "quote") Quoting ∷
    entry (codes "lambda") Closure ∷
    entry (codes "if") Choice ∷
    entry (codes "set!") Assigning ∷
    entry (codes "define") Defining ∷
    entry (codes "begin") Beginning ∷
    entry (codes "let") Binding ∷
    entry (codes "letrec") Recursive ∷
    entry (codes "apply") Applying ∷ later_forms

-- what a name means
pub data Meaning : Type 0 where
  Variable : Var → Meaning
  Special : Form → Meaning
  Integrated : Primitive → Meaning
  Plain : List ℕ → Meaning

abbrev pub primitive_meaning : Option Primitive → List ℕ → Meaning
primitive_meaning None s = Plain s
primitive_meaning (Some p) s = Integrated p

abbrev pub form_meaning : Option Form → Option Primitive → List ℕ → Meaning
form_meaning None q s = primitive_meaning q s
form_meaning (Some f) q s = Special f

-- the form, the integrated primitive or the global of a text, in the library or in a program
unfoldable pub word_of : Bool → List ℕ → Meaning
word_of library s = form_meaning (find forms s) (prim_named s library) s

-- `+`, `-`, `*` and the comparisons, which R5RS lets take other numbers of operands than two
abbrev pub is_of_many : Primitive → Bool
is_of_many Add = true
is_of_many Sub = true
is_of_many Mul = true
is_of_many NumEq = true
is_of_many Less = true
is_of_many Greater = true
is_of_many LessEq = true
is_of_many GreaterEq = true
is_of_many p = false
