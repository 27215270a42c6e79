-- Names that a program may use without a definition of its own, which are not built yet: those of the library, and
-- those that this profile of R5RS leaves out.
use Rattle.std.specs.Prelude.{ℕ, ◌||◌, ◌&&◌, not, Bool, cond, List, [], ◌∷◌, ◌++◌, Option, Some, None, codes, bytes_eq}
use Rattle.std.specs.List.{list_any}
use Rattle.tb_prim.specs.declared.place.Place.{Place}
use Rattle.tb_expand.specs.Trees.{Node, At, Core, Constant, Unspecified, Undefined, Local, Global, Lambda, If, SetLocal, SetGlobal, DefGlobal, Let, Letrec, Seq, Call, PrimUse, Apply, Nodes, nil, cons}
use Rattle.tb_expand.specs.Splits.{or_first}

unfoldable pub library_names : List (List ℕ)
library_names =
    codes "list" ∷ codes "length" ∷ codes "append" ∷ codes "reverse" ∷ codes "list-tail" ∷ codes "list-ref" ∷
    codes "list?" ∷ codes "caar" ∷ codes "cadr" ∷ codes "cdar" ∷ codes "cddr" ∷ codes "caaar" ∷
    codes "caadr" ∷ codes "cadar" ∷ codes "caddr" ∷ codes "cdaar" ∷ codes "cdadr" ∷ codes "cddar" ∷
    codes "cdddr" ∷ codes "caaaar" ∷ codes "caaadr" ∷ codes "caadar" ∷ codes "caaddr" ∷ codes "cadaar" ∷
    codes "cadadr" ∷ codes "caddar" ∷ codes "cadddr" ∷ codes "cdaaar" ∷ codes "cdaadr" ∷ codes "cdadar" ∷
    codes "cdaddr" ∷ codes "cddaar" ∷ codes "cddadr" ∷ codes "cdddar" ∷ codes "cddddr" ∷ codes "memq" ∷
    codes "memv" ∷ codes "member" ∷ codes "assq" ∷ codes "assv" ∷ codes "assoc" ∷ codes "equal?" ∷
    codes "map" ∷ codes "for-each" ∷ codes "zero?" ∷ codes "positive?" ∷ codes "negative?" ∷ codes "odd?" ∷
    codes "even?" ∷ codes "max" ∷ codes "min" ∷ codes "abs" ∷ codes "gcd" ∷ codes "lcm" ∷
    codes "number->string" ∷ codes "string->number" ∷ codes "char=?" ∷ codes "char<?" ∷ codes "char>?" ∷
    codes "char<=?" ∷ codes "char>=?" ∷ codes "char-ci=?" ∷ codes "char-ci<?" ∷ codes "char-ci>?" ∷
    codes "char-ci<=?" ∷ codes "char-ci>=?" ∷ codes "char-alphabetic?" ∷ codes "char-numeric?" ∷
    codes "char-whitespace?" ∷ codes "char-upper-case?" ∷ codes "char-lower-case?" ∷ codes "char-upcase" ∷
    codes "char-downcase" ∷ codes "string" ∷ codes "make-string" ∷ codes "string=?" ∷ codes "string<?" ∷
    codes "string>?" ∷ codes "string<=?" ∷ codes "string>=?" ∷ codes "string-ci=?" ∷ codes "string-ci<?" ∷
    codes "string-ci>?" ∷ codes "string-ci<=?" ∷ codes "string-ci>=?" ∷ codes "substring" ∷
    codes "string-append" ∷ codes "string->list" ∷ codes "list->string" ∷ codes "string-copy" ∷
    codes "string-fill!" ∷ codes "symbol->string" ∷ codes "vector" ∷ codes "make-vector" ∷
    codes "vector->list" ∷ codes "list->vector" ∷ codes "vector-fill!" ∷ codes "write" ∷ codes "display" ∷
    codes "newline" ∷ []

unfoldable pub left_out_names : List (List ℕ)
left_out_names =
    codes "call-with-current-continuation" ∷ codes "call/cc" ∷ codes "values" ∷ codes "call-with-values" ∷
    codes "dynamic-wind" ∷ codes "delay" ∷ codes "force" ∷ codes "eval" ∷ codes "scheme-report-environment" ∷
    codes "null-environment" ∷ codes "interaction-environment" ∷ codes "string->symbol" ∷ codes "complex?" ∷
    codes "real?" ∷ codes "rational?" ∷ codes "exact?" ∷ codes "inexact?" ∷ codes "numerator" ∷
    codes "denominator" ∷ codes "floor" ∷ codes "ceiling" ∷ codes "truncate" ∷ codes "round" ∷
    codes "rationalize" ∷ codes "exp" ∷ codes "log" ∷ codes "sin" ∷ codes "cos" ∷ codes "tan" ∷
    codes "asin" ∷ codes "acos" ∷ codes "atan" ∷ codes "sqrt" ∷ codes "expt" ∷ codes "make-rectangular" ∷
    codes "make-polar" ∷ codes "real-part" ∷ codes "imag-part" ∷ codes "magnitude" ∷ codes "angle" ∷
    codes "exact->inexact" ∷ codes "inexact->exact" ∷ codes "call-with-input-file" ∷
    codes "call-with-output-file" ∷ codes "input-port?" ∷ codes "output-port?" ∷ codes "current-input-port" ∷
    codes "current-output-port" ∷ codes "with-input-from-file" ∷ codes "with-output-to-file" ∷
    codes "open-input-file" ∷ codes "open-output-file" ∷ codes "close-input-port" ∷
    codes "close-output-port" ∷ codes "read" ∷ codes "char-ready?" ∷ codes "load" ∷ codes "transcript-on" ∷
    codes "transcript-off" ∷ []

unfoldable pub is_one_of : List (List ℕ) → List ℕ → Bool
is_one_of names s = list_any (bytes_eq s) names

-- such a name that no definition of the text names
unfoldable pub is_outside : List (List ℕ) → List ℕ → Bool
is_outside defined s = (is_one_of library_names s || is_one_of left_out_names s) && not (is_one_of defined s)

-- the globals that top-level forms define
abbrev pub defined_by : Node → List (List ℕ)
defined_by (At p (DefGlobal g e)) = g ∷ []
defined_by (At p c) = []

abbrev pub defined_by_all : Nodes → List (List ℕ)
defined_by_all nil = []
defined_by_all (cons e es) = defined_by e ++ defined_by_all es

abbrev mutual
  -- the place of the first use, in written order, of a name outside the text that defines these; an assignment is a
  -- use at the name
  pub first_outside : List (List ℕ) → Node → Option Place
  first_outside ns (At p c) = first_outside_in ns p c

  pub first_outside_in : List (List ℕ) → Place → Core → Option Place
  first_outside_in ns p (Constant s) = None
  first_outside_in ns p Unspecified = None
  first_outside_in ns p Undefined = None
  first_outside_in ns p (Local x) = None
  first_outside_in ns p (Global g) = cond (is_outside ns g) (Some p) None
  first_outside_in ns p (Lambda xs r b) = first_outside ns b
  first_outside_in ns p (If a b c) = or_first (first_outside ns a) (or_first (first_outside ns b) (first_outside ns c))
  first_outside_in ns p (SetLocal x e) = first_outside ns e
  first_outside_in ns p (SetGlobal q g e) = cond (is_outside ns g) (Some q) (first_outside ns e)
  first_outside_in ns p (DefGlobal g e) = first_outside ns e
  first_outside_in ns p (Let xs es e) = or_first (first_outside_of ns es) (first_outside ns e)
  first_outside_in ns p (Letrec xs es e) = or_first (first_outside_of ns es) (first_outside ns e)
  first_outside_in ns p (Seq es) = first_outside_of ns es
  first_outside_in ns p (Call f es) = or_first (first_outside ns f) (first_outside_of ns es)
  first_outside_in ns p (PrimUse q es) = first_outside_of ns es
  first_outside_in ns p (Apply f l) = or_first (first_outside ns f) (first_outside ns l)

  pub first_outside_of : List (List ℕ) → Nodes → Option Place
  first_outside_of ns nil = None
  first_outside_of ns (cons e es) = or_first (first_outside ns e) (first_outside_of ns es)
