-- The variables that a numbered program binds are those that its nodes bind, each once and with a small number.
use Rattle.std.proofs.Common.{◌≡◌, refl, sym, ap, subst, ◌∙◌, ℕ, ◌+◌, ◌<◌, ◌≤◌, ◌^◌, ⊎_elim, arith, ◌==◌, nat_le, Bool, true, false, List, [], ◌∷◌, ◌++◌, length, Option, Some, None, eqb-true}
use Rattle.std.proofs.lemmas.Bool.{cases_Bool, leb-false, lt-leb}
use Rattle.tb_prim.specs.declared.place.Place.{Place}
use Rattle.tb_semantics.specs.Graph.{IsApart}
use Rattle.tb_core.specs.Tree as core
use Rattle.tb_core.specs.Tree.{LambdaTree, parameters}
use Rattle.tb_core.specs.Rules.{Every}
use Rattle.tb_core.specs.Variables.{bound, bound_form, bound_all, bound_in_lambdas, variables}
use Rattle.tb_expand.specs.Shapes.{option_list}
use Rattle.tb_expand.specs.Trees.{Var, same_var, Node, At, Core, Constant, Unspecified, Undefined, Local, Global, Lambda, If, SetLocal, SetGlobal, DefGlobal, Let, Letrec, Seq, Call, PrimUse, Apply, Nodes, nil, cons, is_lambda}
use Rattle.tb_expand.specs.Numbers.{Tables, Before, variable_number, variable_numbers, option_number, behind_node, behind_nodes, behind_values, one_node, one_closure, numbered, numbered_in, numbered_all, numbered_lambda, lambdas_of, lambdas_in, lambdas_of_all, lambdas_of_values, tables_of, none_before, program_of}
use Rattle.tb_expand.specs.WellShaped.{AreLambdas, HasShape, HasShapeIn, HaveShape}
use Rattle.tb_expand.specs.Closed.{binders_of, binders_in, binders_of_all, AreClosed, one_if, times}
use Rattle.tb_expand.proofs.StaticObjects.{found_below}
use Rattle.tb_expand.proofs.FirstOccurrences.{HasNumber, have_numbers, number_once, same_var_itself}
use Rattle.tb_expand.proofs.NamedVariables.{count, all_binders_keep, firsts_few}
use Rattle.tb_expand.proofs.Times.{times_joined, times_mapped, is_number, times_apart}

no_binders : (t : Tables) (b : Before) (p : Place) (c : Core) → is_lambda (At p c) ≡ true → bound_form (numbered_in t b c) ≡ []
no_binders t b p (Lambda xs r e) h = refl
no_binders t b p c h = absurd cc

module _ (test : ℕ → Bool) (t : Tables) where
  -- how many variables have a number that passes the test
  abbrev numbers : List Var → ℕ
  numbers xs = times (λ (x : Var). test (variable_number t x)) xs

  abbrev passing : List ℕ → ℕ
  passing xs = times test xs

  joined_numbers : (xs ys : List Var) → numbers (xs ++ ys) ≡ numbers xs + numbers ys
  joined_numbers xs ys = times_joined (λ (x : Var). test (variable_number t x)) xs ys

  own_numbers : (xs : List Var) → passing (variable_numbers t xs) ≡ numbers xs
  own_numbers xs = times_mapped test (variable_number t) xs

  option_numbers : (r : Option Var) → passing (core.option_list (option_number t r)) ≡ numbers (option_list r)
  option_numbers None = refl
  option_numbers (Some x) = refl

  bound_joined : (ls ms : List LambdaTree) → passing (bound_in_lambdas (ls ++ ms)) ≡ passing (bound_in_lambdas ls) + passing (bound_in_lambdas ms)
  bound_joined [] ms = omega arith
  bound_joined (l ∷ ls) ms =
      let h = bound_joined ls ms in
      let i = times_joined test (parameters l) (bound l.body ++ bound_in_lambdas ls) in
      let j = times_joined test (bound l.body) (bound_in_lambdas ls) in
      let k = times_joined test (parameters l) (bound l.body ++ bound_in_lambdas (ls ++ ms)) in
      let m = times_joined test (bound l.body) (bound_in_lambdas (ls ++ ms)) in
      omega arith

  mutual
    node_binds : (b : Before) (e : Node) → HasShape e → passing (bound (numbered t b e)) + passing (bound_in_lambdas (lambdas_of t b e)) ≡ numbers (binders_of e)
    node_binds b (At p c) h = form_binds (one_node b) p c h

    form_binds : (b : Before) (p : Place) (c : Core) → HasShapeIn c → passing (bound_form (numbered_in t b c)) + passing (bound_in_lambdas (lambdas_in t b p c)) ≡ numbers (binders_in c)
    form_binds b p (Constant s) h = refl
    form_binds b p Unspecified h = refl
    form_binds b p Undefined h = refl
    form_binds b p (Local x) h = refl
    form_binds b p (Global g) h = refl
    form_binds b p (Lambda xs r e) h =
        let k = node_binds (one_closure b) e h in
        let ls = lambdas_of t (one_closure b) e in
        let body = bound (numbered t (one_closure b) e) in
        let i = times_joined test (parameters (numbered_lambda t (one_closure b) p xs r e)) (body ++ bound_in_lambdas ls) in
        let j = times_joined test body (bound_in_lambdas ls) in
        let m = times_joined test (variable_numbers t xs) (core.option_list (option_number t r)) in
        let n = own_numbers xs in
        let o = option_numbers r in
        let u = joined_numbers (xs ++ option_list r) (binders_of e) in
        let v = joined_numbers xs (option_list r) in
        omega arith
    form_binds b p (If a c d) h =
        let b2 = behind_node b a in
        let b3 = behind_node b2 c in
        let i = node_binds b a h.0 in
        let j = node_binds b2 c h.1 in
        let k = node_binds b3 d h.2 in
        let l = times_joined test (bound (numbered t b a)) (bound (numbered t b2 c) ++ bound (numbered t b3 d)) in
        let m = times_joined test (bound (numbered t b2 c)) (bound (numbered t b3 d)) in
        let u = bound_joined (lambdas_of t b a) (lambdas_of t b2 c ++ lambdas_of t b3 d) in
        let v = bound_joined (lambdas_of t b2 c) (lambdas_of t b3 d) in
        let w = joined_numbers (binders_of a) (binders_of c ++ binders_of d) in
        let x = joined_numbers (binders_of c) (binders_of d) in
        omega arith
    form_binds b p (SetLocal x e) h = node_binds b e h
    form_binds b p (SetGlobal q g e) h = node_binds b e h
    form_binds b p (DefGlobal g e) h = node_binds b e h
    form_binds b p (Let xs es e) h =
        let b2 = behind_nodes b es in
        let i = all_bind b es h.1 in
        let j = node_binds b2 e h.2 in
        let k = times_joined test (variable_numbers t xs) (bound_all (numbered_all t b es) ++ bound (numbered t b2 e)) in
        let l = times_joined test (bound_all (numbered_all t b es)) (bound (numbered t b2 e)) in
        let n = own_numbers xs in
        let u = bound_joined (lambdas_of_all t b es) (lambdas_of t b2 e) in
        let w = joined_numbers xs (binders_of_all es ++ binders_of e) in
        let x = joined_numbers (binders_of_all es) (binders_of e) in
        omega arith
    form_binds b p (Letrec xs es e) h =
        let b2 = behind_values b es in
        let i = values_bind b es h.1 h.2 in
        let j = node_binds b2 e h.3 in
        let k = times_joined test (variable_numbers t xs) (bound (numbered t b2 e)) in
        let n = own_numbers xs in
        let u = bound_joined (lambdas_of_values t b es) (lambdas_of t b2 e) in
        let w = joined_numbers xs (binders_of_all es ++ binders_of e) in
        let x = joined_numbers (binders_of_all es) (binders_of e) in
        omega arith
    form_binds b p (Seq es) h = all_bind b es h.1
    form_binds b p (Call f es) h =
        let b2 = behind_node b f in
        let i = node_binds b f h.0 in
        let j = all_bind b2 es h.1 in
        let l = times_joined test (bound (numbered t b f)) (bound_all (numbered_all t b2 es)) in
        let u = bound_joined (lambdas_of t b f) (lambdas_of_all t b2 es) in
        let w = joined_numbers (binders_of f) (binders_of_all es) in
        omega arith
    form_binds b p (PrimUse g es) h = all_bind b es h.1
    form_binds b p (Apply f l) h =
        let b2 = behind_node b f in
        let i = node_binds b f h.0 in
        let j = node_binds b2 l h.1 in
        let k = times_joined test (bound (numbered t b f)) (bound (numbered t b2 l)) in
        let u = bound_joined (lambdas_of t b f) (lambdas_of t b2 l) in
        let w = joined_numbers (binders_of f) (binders_of l) in
        omega arith

    all_bind : (b : Before) (es : Nodes) → HaveShape es → passing (bound_all (numbered_all t b es)) + passing (bound_in_lambdas (lambdas_of_all t b es)) ≡ numbers (binders_of_all es)
    all_bind b nil h = refl
    all_bind b (cons e es) h =
        let b2 = behind_node b e in
        let i = node_binds b e h.0 in
        let j = all_bind b2 es h.1 in
        let l = times_joined test (bound (numbered t b e)) (bound_all (numbered_all t b2 es)) in
        let u = bound_joined (lambdas_of t b e) (lambdas_of_all t b2 es) in
        let w = joined_numbers (binders_of e) (binders_of_all es) in
        omega arith

    values_bind : (b : Before) (es : Nodes) → AreLambdas es → HaveShape es → passing (bound_in_lambdas (lambdas_of_values t b es)) ≡ numbers (binders_of_all es)
    values_bind b nil l h = refl
    values_bind b (cons (At p c) es) l h =
        let b2 = behind_values b (cons (At p c) nil) in
        let i = form_binds b p c h.0 in
        let k = ap passing (no_binders t b p c l.0) in
        let j = values_bind b2 es l.1 h.1 in
        let u = bound_joined (lambdas_in t b p c) (lambdas_of_values t b2 es) in
        let w = joined_numbers (binders_in c) (binders_of_all es) in
        omega arith

pub program_binds : (test : ℕ → Bool) (library : Bool) (es : Nodes) → HaveShape es → times test (variables (program_of library es)) ≡ times (λ (x : Var). test (variable_number (tables_of es) x)) (binders_of_all es)
unfolding program_of
program_binds test library es h =
    let t = tables_of es in
    times_joined test (bound_all (numbered_all t none_before es)) (bound_in_lambdas (lambdas_of_all t none_before es)) ∙ all_bind test t none_before es h

-- variables with one number are one
fewer_by : (t : Tables) (x z : Var) (n : ℕ) (b : Bool) → variable_number t x ≡ n → HasNumber t x → HasNumber t z → (variable_number t z == n) ≡ b → one_if b ≤ one_if (same_var x z)
fewer_by t x z n true e h k q =
    let s = number_once t x z h k (e ∙ sym (eqb-true (variable_number t z) n q)) in
    let o : one_if (same_var x z) ≡ 1 = ap one_if (subst (λ v. same_var x v ≡ true) s (same_var_itself x)) in omega arith
fewer_by t x z n false e h k q = omega arith

fewer : (t : Tables) (x : Var) (n : ℕ) (zs : List Var) → variable_number t x ≡ n → HasNumber t x → Every (HasNumber t) zs → times (λ (z : Var). is_number n (variable_number t z)) zs ≤ count x zs
fewer t x n [] e h k = omega arith
fewer t x n (z ∷ zs) e h k =
    let a = fewer_by t x z n (variable_number t z == n) e h k.0 refl in
    let b = fewer t x n zs e h k.1 in
    omega arith

numbers_once : (t : Tables) (n : ℕ) (xs : List Var) → Every (HasNumber t) xs → ((y : Var) → count y xs ≤ 1) → times (λ (x : Var). is_number n (variable_number t x)) xs ≤ 1
numbers_once t n [] h o = omega arith
numbers_once t n (x ∷ xs) h o =
    let all = o x in
    let own : one_if (same_var x x) ≡ 1 = ap one_if (same_var_itself x) in
    let rest = numbers_once t n xs h.1 (λ y. let a = o y in omega arith) in
    ⊎_elim
    (λ e. let f = fewer t x n xs (eqb-true (variable_number t x) n e) h.0 h.1 in let q : one_if (is_number n (variable_number t x)) ≡ 1 = ap one_if e in omega arith)
    (λ e. let q : one_if (is_number n (variable_number t x)) ≡ 0 = ap one_if e in omega arith)
    (cases_Bool (variable_number t x == n))

pub bound_once : (library : Bool) (es : Nodes) → HaveShape es → ((y : Var) → count y (binders_of_all es) ≤ 1) → IsApart (variables (program_of library es))
bound_once library es h o =
    let known = all_binders_keep (HasNumber (tables_of es)) es (have_numbers es) in
    times_apart (variables (program_of library es)) (λ n. let p = program_binds (is_number n) library es h in let k = numbers_once (tables_of es) n (binders_of_all es) known o in omega arith)

-- numbers are small where variables are few
none_large : (t : Tables) (xs : List Var) → length t.variables ≤ 2 ^ 24 → Every (HasNumber t) xs → times (λ (x : Var). nat_le (2 ^ 24) (variable_number t x)) xs ≡ 0
none_large t [] le h = refl
none_large t (x ∷ xs) le h =
    let b = found_below (same_var x) t.variables h.0 in
    let k = none_large t xs le h.1 in
    let z : one_if (nat_le (2 ^ 24) (variable_number t x)) ≡ 0 = ap one_if (lt-leb (2 ^ 24) (variable_number t x) (omega arith)) in
    omega arith

small_by : (n : ℕ) (b : Bool) → nat_le (2 ^ 24) n ≡ b → one_if b ≡ 0 → n < 2 ^ 24
small_by n true e z = absurd (omega arith)
small_by n false e z = leb-false (2 ^ 24) n e

all_small : (ns : List ℕ) → times (nat_le (2 ^ 24)) ns ≡ 0 → Every (λ n. n < 2 ^ 24) ns
all_small [] z = tt
all_small (n ∷ ns) z = (small_by n (nat_le (2 ^ 24) n) refl (omega arith), all_small ns (omega arith))

pub small_variables : (library : Bool) (es : Nodes) → HaveShape es → AreClosed [] es → length (binders_of_all es) ≤ 2 ^ 24 → Every (λ x. x < 2 ^ 24) (variables (program_of library es))
small_variables library es h o le =
    let few = firsts_few es o in
    let known = all_binders_keep (HasNumber (tables_of es)) es (have_numbers es) in
    all_small (variables (program_of library es)) (program_binds (nat_le (2 ^ 24)) library es h ∙ none_large (tables_of es) (binders_of_all es) (omega arith) known)
