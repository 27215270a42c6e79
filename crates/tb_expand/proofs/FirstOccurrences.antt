-- The numbers of variables: each variable of a text is among the first occurrences, and variables with one number are
-- one.
use Rattle.std.proofs.Common.{◌≡◌, refl, sym, ap, ◌∙◌, ◌+◌, ◌==◌, ◌&&◌, ◌||◌, arith, Bool, true, false, cond, List, [], ◌∷◌, ◌++◌, bytes_eq, eqb-true, eq-eqb}
use Rattle.std.specs.List.{list_any}
use Rattle.std.proofs.lemmas.List.Folds.{list_any-append}
use Rattle.std.proofs.lemmas.Slice.Eq.{bytes_eq-Decides}
use Rattle.tb_core.specs.Rules.{Every}
use Rattle.tb_expand.specs.Names.{Name, same_name}
use Rattle.tb_expand.specs.Trees.{Var, same_var, Nodes}
use Rattle.tb_expand.specs.Numbers.{index, noted, firsts_behind, variables_of_all, Tables, variable_number, tables_of}
use Rattle.tb_expand.proofs.ShortConstants.{both_true}

-- names and variables are the same where they are equal
pub same_name_true : (x y : Name) → same_name x y ≡ true → x ≡ y
unfolding same_name
same_name_true x y h =
    let k = both_true (bytes_eq x.text y.text) (x.alias == y.alias) h in
    let t = (bytes_eq-Decides x.text y.text).0 k.0 in
    let a = eqb-true x.alias y.alias k.1 in
    λ i. record { text = t i; alias = a i }

pub same_name_itself : (x : Name) → same_name x x ≡ true
unfolding same_name
same_name_itself x = ap (λ b. b && (x.alias == x.alias)) ((bytes_eq-Decides x.text x.text).1 refl) ∙ eq-eqb x.alias x.alias refl

pub same_var_true : (x y : Var) → same_var x y ≡ true → x ≡ y
same_var_true x y h =
    let k = both_true (x.scope == y.scope) (same_name x.name y.name) h in
    let s = eqb-true x.scope y.scope k.0 in
    let n = same_name_true x.name y.name k.1 in
    λ i. record { scope = s i; name = n i }

pub same_var_itself : (x : Var) → same_var x x ≡ true
same_var_itself x = ap (λ b. b && same_name x.name x.name) (eq-eqb x.scope x.scope refl) ∙ same_name_itself x.name

-- what is among the first occurrences
pub or_left : (a b : Bool) → a ≡ true → (a || b) ≡ true
or_left a b e = ap (λ v. v || b) e

pub or_right : (a b : Bool) → b ≡ true → (a || b) ≡ true
or_right true b e = refl
or_right false b e = e

noted_by : (xs : List Var) (x : Var) (b : Bool) → list_any (same_var x) xs ≡ b → list_any (same_var x) (cond b xs (xs ++ (x ∷ []))) ≡ true
noted_by xs x true e = e
noted_by xs x false e = list_any-append (same_var x) xs (x ∷ []) ∙ or_right (list_any (same_var x) xs) (list_any (same_var x) (x ∷ [])) (or_left (same_var x x) false (same_var_itself x))

noted_stays : (xs : List Var) (x y : Var) (b : Bool) → list_any (same_var y) xs ≡ true → list_any (same_var y) (cond b xs (xs ++ (x ∷ []))) ≡ true
noted_stays xs x y true h = h
noted_stays xs x y false h = list_any-append (same_var y) xs (x ∷ []) ∙ or_left (list_any (same_var y) xs) (list_any (same_var y) (x ∷ [])) h

firsts_stay : (xs ys : List Var) (y : Var) → list_any (same_var y) xs ≡ true → list_any (same_var y) (firsts_behind same_var xs ys) ≡ true
firsts_stay xs [] y h = h
firsts_stay xs (z ∷ ys) y h = firsts_stay (noted same_var xs z) ys y (noted_stays xs z y (list_any (same_var z) xs) h)

-- a variable that has a number
abbrev pub HasNumber : Tables → Var → Type 0
HasNumber t x = list_any (same_var x) t.variables ≡ true

firsts_hold : (t : Tables) (xs ys : List Var) → t.variables ≡ firsts_behind same_var xs ys → Every (HasNumber t) ys
firsts_hold t xs [] q = tt
firsts_hold t xs (y ∷ ys) q =
    (ap (list_any (same_var y)) q ∙ firsts_stay (noted same_var xs y) ys y (noted_by xs y (list_any (same_var y) xs) refl), firsts_hold t (noted same_var xs y) ys q)

pub have_numbers : (es : Nodes) → Every (HasNumber (tables_of es)) (variables_of_all es)
have_numbers es = firsts_hold (tables_of es) [] (variables_of_all es) refl

-- variables with one number
index_case : (x y z : Var) (zs : List Var) (a b : Bool) → same_var x z ≡ a → same_var y z ≡ b → (list_any (same_var x) zs ≡ true → list_any (same_var y) zs ≡ true → index (same_var x) zs ≡ index (same_var y) zs → x ≡ y) →
    (a || list_any (same_var x) zs) ≡ true → (b || list_any (same_var y) zs) ≡ true → cond a 0 (index (same_var x) zs + 1) ≡ cond b 0 (index (same_var y) zs + 1) → x ≡ y
index_case x y z zs true true p q rest h k e = same_var_true x z p ∙ sym (same_var_true y z q)
index_case x y z zs true false p q rest h k e = absurd (omega arith)
index_case x y z zs false true p q rest h k e = absurd (omega arith)
index_case x y z zs false false p q rest h k e = rest h k (omega arith)

index_once : (x y : Var) (zs : List Var) → list_any (same_var x) zs ≡ true → list_any (same_var y) zs ≡ true → index (same_var x) zs ≡ index (same_var y) zs → x ≡ y
index_once x y [] h k e = cc
index_once x y (z ∷ zs) h k e = index_case x y z zs (same_var x z) (same_var y z) refl refl (index_once x y zs) h k e

pub number_once : (t : Tables) (x y : Var) → HasNumber t x → HasNumber t y → variable_number t x ≡ variable_number t y → x ≡ y
number_once t x y h k e = index_once x y t.variables h k e
