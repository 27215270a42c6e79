-- A numbered program assigns the variables that its nodes assign.
use Rattle.std.proofs.Common.{◌≡◌, refl, sym, ap, subst, ◌∙◌, ℕ, ◌+◌, ◌==◌, nat_le, arith, Bool, true, false, List, [], ◌∷◌, ◌++◌, eqb-true, eq-eqb}
use Rattle.tb_prim.specs.declared.place.Place.{Place}
use Rattle.tb_core.specs.Tree.{LambdaTree}
use Rattle.tb_core.specs.Rules.{Every}
use Rattle.tb_core.specs.FreeVariables.{targets, targets_form, targets_all, targets_of_lambdas, is_assigned}
use Rattle.tb_expand.specs.Trees.{Var, same_var, Node, At, Core, Constant, Unspecified, Undefined, Local, Global, Lambda, If, SetLocal, SetGlobal, DefGlobal, Let, Letrec, Seq, Call, PrimUse, Apply, Nodes, nil, cons, is_lambda, assigns_any}
use Rattle.tb_expand.specs.Numbers.{Tables, Before, variable_number, behind_node, behind_nodes, behind_values, one_node, one_closure, numbered, numbered_in, numbered_all, lambdas_of, lambdas_in, lambdas_of_all, lambdas_of_values, tables_of, none_before, program_of}
use Rattle.tb_expand.specs.WellShaped.{AreLambdas, HasShape, HasShapeIn, HaveShape}
use Rattle.tb_expand.specs.Closed.{one_if, times}
use Rattle.tb_expand.specs.calls.Splitting.{assigned_of, assigned_in, assigned_all}
use Rattle.tb_expand.proofs.SplitLists.{assigned_found_all}
use Rattle.tb_expand.proofs.FirstOccurrences.{HasNumber, have_numbers, number_once, same_var_true, same_var_itself}
use Rattle.tb_expand.proofs.NamedVariables.{all_assigned_keep}
use Rattle.tb_expand.proofs.Times.{times_joined, is_number, any_times}

no_targets : (t : Tables) (b : Before) (p : Place) (c : Core) → is_lambda (At p c) ≡ true → targets_form (numbered_in t b c) ≡ []
no_targets t b p (Lambda xs r e) h = refl
no_targets t b p c h = absurd cc

module _ (n : ℕ) (t : Tables) where
  -- how many variables have this number
  abbrev numbers : List Var → ℕ
  numbers xs = times (λ (x : Var). is_number n (variable_number t x)) xs

  abbrev passing : List ℕ → ℕ
  passing xs = times (is_number n) xs

  joined_numbers : (xs ys : List Var) → numbers (xs ++ ys) ≡ numbers xs + numbers ys
  joined_numbers xs ys = times_joined (λ (x : Var). is_number n (variable_number t x)) xs ys

  targets_joined : (ls ms : List LambdaTree) → passing (targets_of_lambdas (ls ++ ms)) ≡ passing (targets_of_lambdas ls) + passing (targets_of_lambdas ms)
  targets_joined [] ms = omega arith
  targets_joined (l ∷ ls) ms =
      let h = targets_joined ls ms in
      let j = times_joined (is_number n) (targets l.body) (targets_of_lambdas ls) in
      let m = times_joined (is_number n) (targets l.body) (targets_of_lambdas (ls ++ ms)) in
      omega arith

  mutual
    node_assigns : (b : Before) (e : Node) → HasShape e → passing (targets (numbered t b e)) + passing (targets_of_lambdas (lambdas_of t b e)) ≡ numbers (assigned_of e)
    node_assigns b (At p c) h = form_assigns (one_node b) p c h

    form_assigns : (b : Before) (p : Place) (c : Core) → HasShapeIn c → passing (targets_form (numbered_in t b c)) + passing (targets_of_lambdas (lambdas_in t b p c)) ≡ numbers (assigned_in c)
    form_assigns b p (Constant s) h = refl
    form_assigns b p Unspecified h = refl
    form_assigns b p Undefined h = refl
    form_assigns b p (Local x) h = refl
    form_assigns b p (Global g) h = refl
    form_assigns b p (Lambda xs r e) h =
        let k = node_assigns (one_closure b) e h in
        let j = times_joined (is_number n) (targets (numbered t (one_closure b) e)) (targets_of_lambdas (lambdas_of t (one_closure b) e)) in
        omega arith
    form_assigns b p (If a c d) h =
        let b2 = behind_node b a in
        let b3 = behind_node b2 c in
        let i = node_assigns b a h.0 in
        let j = node_assigns b2 c h.1 in
        let k = node_assigns b3 d h.2 in
        let l = times_joined (is_number n) (targets (numbered t b a)) (targets (numbered t b2 c) ++ targets (numbered t b3 d)) in
        let m = times_joined (is_number n) (targets (numbered t b2 c)) (targets (numbered t b3 d)) in
        let u = targets_joined (lambdas_of t b a) (lambdas_of t b2 c ++ lambdas_of t b3 d) in
        let v = targets_joined (lambdas_of t b2 c) (lambdas_of t b3 d) in
        let w = joined_numbers (assigned_of a ++ assigned_of c) (assigned_of d) in
        let x = joined_numbers (assigned_of a) (assigned_of c) in
        omega arith
    form_assigns b p (SetLocal x e) h = let k = node_assigns b e h in omega arith
    form_assigns b p (SetGlobal q g e) h = node_assigns b e h
    form_assigns b p (DefGlobal g e) h = node_assigns b e h
    form_assigns b p (Let xs es e) h =
        let b2 = behind_nodes b es in
        let i = all_assign b es h.1 in
        let j = node_assigns b2 e h.2 in
        let l = times_joined (is_number n) (targets_all (numbered_all t b es)) (targets (numbered t b2 e)) in
        let u = targets_joined (lambdas_of_all t b es) (lambdas_of t b2 e) in
        let x = joined_numbers (assigned_all es) (assigned_of e) in
        omega arith
    form_assigns b p (Letrec xs es e) h =
        let b2 = behind_values b es in
        let i = values_assign b es h.1 h.2 in
        let j = node_assigns b2 e h.3 in
        let u = targets_joined (lambdas_of_values t b es) (lambdas_of t b2 e) in
        let x = joined_numbers (assigned_all es) (assigned_of e) in
        omega arith
    form_assigns b p (Seq es) h = all_assign b es h.1
    form_assigns b p (Call f es) h =
        let b2 = behind_node b f in
        let i = node_assigns b f h.0 in
        let j = all_assign b2 es h.1 in
        let l = times_joined (is_number n) (targets (numbered t b f)) (targets_all (numbered_all t b2 es)) in
        let u = targets_joined (lambdas_of t b f) (lambdas_of_all t b2 es) in
        let w = joined_numbers (assigned_of f) (assigned_all es) in
        omega arith
    form_assigns b p (PrimUse g es) h = all_assign b es h.1
    form_assigns b p (Apply f l) h =
        let b2 = behind_node b f in
        let i = node_assigns b f h.0 in
        let j = node_assigns b2 l h.1 in
        let k = times_joined (is_number n) (targets (numbered t b f)) (targets (numbered t b2 l)) in
        let u = targets_joined (lambdas_of t b f) (lambdas_of t b2 l) in
        let w = joined_numbers (assigned_of f) (assigned_of l) in
        omega arith

    all_assign : (b : Before) (es : Nodes) → HaveShape es → passing (targets_all (numbered_all t b es)) + passing (targets_of_lambdas (lambdas_of_all t b es)) ≡ numbers (assigned_all es)
    all_assign b nil h = refl
    all_assign b (cons e es) h =
        let b2 = behind_node b e in
        let i = node_assigns b e h.0 in
        let j = all_assign b2 es h.1 in
        let l = times_joined (is_number n) (targets (numbered t b e)) (targets_all (numbered_all t b2 es)) in
        let u = targets_joined (lambdas_of t b e) (lambdas_of_all t b2 es) in
        let w = joined_numbers (assigned_of e) (assigned_all es) in
        omega arith

    values_assign : (b : Before) (es : Nodes) → AreLambdas es → HaveShape es → passing (targets_of_lambdas (lambdas_of_values t b es)) ≡ numbers (assigned_all es)
    values_assign b nil l h = refl
    values_assign b (cons (At p c) es) l h =
        let b2 = behind_values b (cons (At p c) nil) in
        let i = form_assigns b p c h.0 in
        let k = ap passing (no_targets t b p c l.0) in
        let j = values_assign b2 es l.1 h.1 in
        let u = targets_joined (lambdas_in t b p c) (lambdas_of_values t b2 es) in
        let w = joined_numbers (assigned_in c) (assigned_all es) in
        omega arith

same_by : (t : Tables) (x z : Var) (a b : Bool) → HasNumber t x → HasNumber t z → (variable_number t z == variable_number t x) ≡ a → same_var z x ≡ b → one_if a ≡ one_if b
same_by t x z true true h k p q = refl
same_by t x z true false h k p q =
    let s = number_once t z x k h (eqb-true (variable_number t z) (variable_number t x) p) in
    let e : same_var z x ≡ true = subst (λ v. same_var z v ≡ true) s (same_var_itself z) in
    let f : true ≡ false = sym e ∙ q in absurd cc
same_by t x z false true h k p q =
    let e : (variable_number t z == variable_number t x) ≡ true = eq-eqb (variable_number t z) (variable_number t x) (ap (variable_number t) (same_var_true z x q)) in
    let f : true ≡ false = sym e ∙ p in absurd cc
same_by t x z false false h k p q = refl

same_times : (t : Tables) (x : Var) (zs : List Var) → HasNumber t x → Every (HasNumber t) zs → times (λ (z : Var). is_number (variable_number t x) (variable_number t z)) zs ≡ times (λ (z : Var). same_var z x) zs
same_times t x [] h k = refl
same_times t x (z ∷ zs) h k =
    let a = same_by t x z (variable_number t z == variable_number t x) (same_var z x) h k.0 refl refl in
    let b = same_times t x zs h k.1 in
    omega arith

targets_counted : (library : Bool) (es : Nodes) (n : ℕ) → HaveShape es →
    times (is_number n) (targets_all (program_of library es).forms ++ targets_of_lambdas (program_of library es).lambdas) ≡ times (λ (z : Var). is_number n (variable_number (tables_of es) z)) (assigned_all es)
unfolding program_of
targets_counted library es n h =
    let t = tables_of es in
    times_joined (is_number n) (targets_all (numbered_all t none_before es)) (targets_of_lambdas (lambdas_of_all t none_before es)) ∙ all_assign n t none_before es h

pub assigned_same : (library : Bool) (es : Nodes) (x : Var) → HaveShape es → HasNumber (tables_of es) x → is_assigned (program_of library es) (variable_number (tables_of es) x) ≡ assigns_any x es
assigned_same library es x h k =
    let t = tables_of es in
    let n = variable_number t x in
    let p = program_of library es in
    let known = all_assigned_keep (HasNumber t) es (have_numbers es) in
    any_times (is_number n) (targets_all p.forms ++ targets_of_lambdas p.lambdas)
    ∙ ap (nat_le 1) (targets_counted library es n h ∙ same_times t x (assigned_all es) k known)
    ∙ sym (any_times (λ (z : Var). same_var z x) (assigned_all es))
    ∙ assigned_found_all x es
