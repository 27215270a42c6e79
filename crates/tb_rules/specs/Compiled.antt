-- What a `syntax-rules` form is compiled to, or its refusal.
use Rattle.std.specs.Prelude.{◌&&◌, Bool, true, false, cond, List, [], ◌∷◌, Option, Some, None}
use Rattle.tb_prim.specs.declared.place.Place.{Place}
use Rattle.tb_sexp.specs.Tree.{Tree, At, Shape, Nil, Truth, Fixnum, Character, String, Name, Proper, Dotted, Vector, Trees, none, more}
use Rattle.tb_rules.specs.Names.{Variable, are_names, are_apart}
use Rattle.tb_rules.specs.Rules.{Rule, Rules, Rest, elements_at, elements_of, rule_of, rules_of}
use Rattle.tb_rules.specs.Patterns.{rest_of, are_rest_patterns, rest_variables}
use Rattle.tb_rules.specs.Templates.{is_template}

-- the data of the form's literals and rules, behind its first element
pub record Parts : Type 0 where
  pub literals : Trees
  pub rules : Trees

abbrev pub parts_with : Option Trees → Trees → Option Parts
parts_with None rs = None
parts_with (Some ls) rs = Some (record { literals = ls; rules = rs })

abbrev pub parts_in : Option Trees → Option Parts
parts_in None = None
parts_in (Some none) = None
parts_in (Some (more h none)) = None
parts_in (Some (more h (more l rs))) = parts_with (elements_of l) rs

abbrev pub parts_of : Tree → Option Parts
parts_of d = parts_in (elements_of d)

-- no variable stands twice, and the template fits the variables
abbrev pub fit : List Variable → Tree → Bool
fit vs t = are_apart vs && is_template vs 0 t

abbrev pub is_good_rest : Trees → Option Rest → Tree → Bool
is_good_rest ls None t = false
is_good_rest ls (Some r) t = are_rest_patterns r.elements r.tail && fit (rest_variables ls r.elements r.tail) t

abbrev pub is_good : Trees → Option Rule → Bool
is_good ls None = false
is_good ls (Some r) = is_good_rest ls (rest_of r.pattern) r.template

abbrev pub are_good : Trees → Trees → Bool
are_good ls none = true
are_good ls (more d ds) = is_good ls (rule_of d) && are_good ls ds

-- the first of two places
abbrev pub or_place : Option Place → Option Place → Option Place
or_place None q = q
or_place (Some p) q = Some p

-- the place of the first vector in a datum, in written order
abbrev mutual
  pub first_vector : Tree → Option Place
  first_vector (At p s) = shape_vector p s

  pub shape_vector : Place → Shape → Option Place
  shape_vector p Nil = None
  shape_vector p (Truth b) = None
  shape_vector p (Fixnum n) = None
  shape_vector p (Character c) = None
  shape_vector p (String s) = None
  shape_vector p (Name s a) = None
  shape_vector p (Proper ds) = first_vector_among ds
  shape_vector p (Dotted ds d) = or_place (first_vector_among ds) (first_vector d)
  shape_vector p (Vector ds) = Some p

  pub first_vector_among : Trees → Option Place
  first_vector_among none = None
  first_vector_among (more d ds) = or_place (first_vector d) (first_vector_among ds)

-- the rules that are made, rules that are none, or a vector in rules
pub data Outcome : Type 0 where
  Made : Rules → Outcome
  Bad : Place → Outcome
  Outside : Place → Outcome

abbrev pub without_vectors : Parts → Option Place → Outcome
without_vectors ps None = Made (record { literals = ps.literals; rules = rules_of ps.rules })
without_vectors ps (Some q) = Outside q

abbrev pub outcome_in : Place → Option Parts → Outcome
outcome_in p None = Bad p
outcome_in p (Some ps) =
    cond (are_names ps.literals && are_good ps.literals ps.rules) (without_vectors ps (first_vector_among ps.rules)) (Bad p)

abbrev pub outcome : Tree → Outcome
outcome (At p s) = outcome_in p (parts_in (elements_at s))
