-- In a program that keeps the rules, a variable of which a cell is made is named in one body, and in no lambda
-- expression inside it.
use Rattle.std.proofs.Common.{◌≡◌, refl, sym, ap, ◌∙◌, subst, ℕ, zero, suc, ◌+◌, ◌^◌, ◌<◌, ◌≤◌, inr, ⊎_elim, arith, List, [], ◌∷◌, length, Option, Some, None, slice_get}
use Rattle.std.proofs.lemmas.Option.{same_Some}
use Rattle.tb_prim.specs.declared.place.Place.{Place}
use Rattle.tb_semantics.specs.Graph.{IsIn}
use Rattle.tb_core.specs.OperandOrder.{Line}
use Rattle.tb_core.specs.Rules.{Every}
use Rattle.tb_core.proofs.Members.{without-sub}
use Rattle.tb_ir.specs.Tree.{Tree, Node, Form, Local, NewCell, Direct, Trees, none, more, LambdaTree, ProgramTree}
use Rattle.tb_ir.specs.FreeVariables.{free, inner_free, parameters, added_to}
use Rattle.tb_ir.specs.Rules.{IsLambda, IsShaped, AreAdded, nodes, nodes_of, nodes_of_lambdas, all_nodes, named, form_of, times, times_named, MakesCell, BodyKeeps, FormsKeep, KeepsRules, IsOrderOf}
use Rattle.tb_anf.proofs.Apart.{of_nodes-append}
use Rattle.tb_anf.proofs.Bodies.{Facts, all-facts, inner, long_shaped, its_lambda, every-zip}
use Rattle.tb_anf.proofs.InScope.{Good, Makes, named_in, times-append, times-in, reached}
use Rattle.tb_anf.proofs.LineLemmas.{node-permutation}
use Rattle.tb_anf.proofs.Names.{IsLong}
use Rattle.tb_anf.proofs.Operations.{NamesOnly, FitNode}
use Rattle.tb_ir.specs.Width.{formals_of}
use Rattle.tb_ir.specs.TreeMachine.{line_of}
use Rattle.tb_anf.proofs.Operands.{every-left}
use Rattle.tb_anf.proofs.Procs.{free-past}
use Rattle.tb_anf.proofs.Scopes.{every-append, every-map, greater_at}
use Rattle.tb_anf.proofs.Variables.{body-nodes}

-- how often the bodies of lambda expressions name a variable, and the forms
abbrev named_by : List LambdaTree → List ℕ
named_by ls = named_in (nodes_of_lambdas ls)

first_named : (x : ℕ) (l : LambdaTree) (ls : List LambdaTree) →
    times x (named_by (l ∷ ls)) ≡ times x (named_in (nodes l.body)) + times x (named_by ls)
first_named x l ls = ap (times x) (of_nodes-append named (nodes l.body) (nodes_of_lambdas ls))
    ∙ times-append x (named_in (nodes l.body)) (named_by ls)

body-times : (x : ℕ) (ls : List LambdaTree) (i : ℕ) (m : LambdaTree) → slice_get ls i ≡ Some m →
    times x (named_in (nodes m.body)) ≤ times x (named_by ls)
body-times x [] i m e = cc
body-times x (l ∷ ls) zero m e =
    let k = first_named x l ls in
    let q = ap (λ (t : LambdaTree). times x (named_in (nodes t.body))) (same_Some l m e) in
    omega arith
body-times x (l ∷ ls) (suc i) m e = let k = first_named x l ls in let h = body-times x ls i m e in omega arith

two-bodies : (x : ℕ) (ls : List LambdaTree) (i j : ℕ) (m n : LambdaTree) → (i ≡ j → ⊥) → slice_get ls i ≡ Some m →
    slice_get ls j ≡ Some n →
    times x (named_in (nodes m.body)) + times x (named_in (nodes n.body)) ≤ times x (named_by ls)
two-bodies x [] i j m n ne e f = cc
two-bodies x (l ∷ ls) zero zero m n ne e f = absurd (ne refl)
two-bodies x (l ∷ ls) zero (suc j) m n ne e f =
    let k = first_named x l ls in
    let q = ap (λ (t : LambdaTree). times x (named_in (nodes t.body))) (same_Some l m e) in
    let h = body-times x ls j n f in
    omega arith
two-bodies x (l ∷ ls) (suc i) zero m n ne e f =
    let k = first_named x l ls in
    let q = ap (λ (t : LambdaTree). times x (named_in (nodes t.body))) (same_Some l n f) in
    let h = body-times x ls i m e in
    omega arith
two-bodies x (l ∷ ls) (suc i) (suc j) m n ne e f =
    let k = first_named x l ls in
    let h = two-bodies x ls i j m n (λ q. ne (ap suc q)) e f in
    omega arith

all-times : (p : ProgramTree) (x : ℕ) →
    times_named p x ≡ times x (named_in (nodes_of p.forms)) + times x (named_by p.lambdas)
all-times p x = ap (times x) (of_nodes-append named (nodes_of p.forms) (nodes_of_lambdas p.lambdas))
    ∙ times-append x (named_in (nodes_of p.forms)) (named_by p.lambdas)

makes_single : (p : ProgramTree) (own : List ℕ) (f : Form) → MakesCell p own f → Makes (λ x. times_named p x ≡ 1) f
makes_single p own (NewCell (Node q s (Local x))) h = h.1
makes_single p own (NewCell e) h = absurd h
makes_single p own _ h = tt

forms_make : (p : ProgramTree) (es : Trees) → FormsKeep p es →
    Every (λ d. Makes (λ x. times_named p x ≡ 1) (form_of d)) (nodes_of es)
forms_make p none h = tt
forms_make p (more e es) h =
    every-append _ (nodes e) (nodes_of es)
    (every-map _ _ (nodes e) (λ d k. makes_single p _ (form_of d) k) ((h.0).makes_cells)) (forms_make p es h.1)

bodies_make : (p : ProgramTree) (ls : List LambdaTree) →
    Every (λ (l : LambdaTree). BodyKeeps p (parameters l) l.body) ls →
    Every (λ d. Makes (λ x. times_named p x ≡ 1) (form_of d)) (nodes_of_lambdas ls)
bodies_make p [] h = tt
bodies_make p (l ∷ ls) h =
    every-append _ (nodes l.body) (nodes_of_lambdas ls)
    (every-map _ _ (nodes l.body) (λ d k. makes_single p _ (form_of d) k) ((h.0).makes_cells)) (bodies_make p ls h.1)

none-there : {X : Type 0} (xs : List X) (i : ℕ) → slice_get xs i ≡ None → length xs ≤ i
none-there [] i e = omega arith
none-there (x ∷ xs) zero e = cc
none-there (x ∷ xs) (suc i) e = let h = none-there xs i e in omega arith

module _ (p : ProgramTree) (order : List Line) (rules : KeepsRules (2 ^ 31) p) (lines : IsOrderOf p order) where
  abbrev I : ℕ → List ℕ
  I = inner_free p

  abbrev pub single : ℕ → Type 0
  single x = times_named p x ≡ 1

  all-make : Every (λ d. Makes single (form_of d)) (all_nodes p)
  all-make = every-append _ (nodes_of p.forms) _ (forms_make p p.forms rules.forms)
      (bodies_make p p.lambdas rules.bodies)

  -- a variable that no body from a number on names is free in none of them
  deep : (x from : ℕ) → ((l : ℕ) (m : LambdaTree) → from ≤ l → IsLambda p l m → IsIn x (named_in (nodes m.body)) → ⊥) →
      (fuel l : ℕ) → length p.lambdas ≤ l + fuel → from ≤ l → IsIn x (I l) → ⊥
  deep x from out zero l b le i = subst (IsIn x) (free-past p.set p.lambdas 0 l (inr (omega arith))) i
  deep x from out (suc fuel) l b le i =
      by (slice_get p.lambdas l) refl (λ k lt j. deep x from out fuel k (omega arith) (omega arith) j)
    where
      by : (o : Option LambdaTree) → slice_get p.lambdas l ≡ o → ((k : ℕ) → l < k → IsIn x (I k) → ⊥) → ⊥
      by None e later =
          let past = none-there p.lambdas l e in
          subst (IsIn x) (free-past p.set p.lambdas 0 l (inr (omega arith))) i
      by (Some m) e later =
          let j = without-sub _ (free I m.body) x (subst (IsIn x) (inner p order rules lines l m e) i) in
          ⊎_elim
          (λ k. out l m le e k)
          (λ r. let lt = greater_at p.lambdas 0 l m rules.inner_greater e r.0 r.1 in later r.0 (omega arith) r.2)
          (reached I single m.body x j)

  long_of : (d : Tree) → Facts p order d → IsLong (form_of d)
  long_of (Node u s f) h = long_shaped p f h.keeps.shaped

  -- the nodes of the body of a lambda expression, and of a form
  pub good-body : (l : ℕ) (m : LambdaTree) → IsLambda p l m → Good I single (nodes m.body)
  good-body l m e = record {
    once = λ x s. let a = body-times x p.lambdas l m e in let b = all-times p x in omega arith;
    away = λ x k s i j f.
        let lt = greater_at p.lambdas 0 l m rules.inner_greater e k j in
        deep x (suc l)
        (λ n w le g o.
        let a = two-bodies x p.lambdas l n m w (λ q. omega arith) e g in
        let b = all-times p x in
        let c = times-in x (named_in (nodes m.body)) i in
        let d = times-in x (named_in (nodes w.body)) o in
        absurd (omega arith))
        (length p.lambdas) k (omega arith) (omega arith) f;
    cells = body-nodes (λ d. Makes single (form_of d)) p all-make l m e;
    long = every-map _ _ (nodes m.body) (λ d h. long_of d h) (body-nodes (Facts p order) p
        (all-facts p order rules lines) l m e);
  }

  pub good-forms : Good I single (nodes_of p.forms)
  good-forms = record {
    once = λ x s. let b = all-times p x in omega arith;
    away = λ x l s i j f.
        deep x 0
        (λ n w le g o.
        let a = body-times x p.lambdas n w g in
        let b = all-times p x in
        let c = times-in x (named_in (nodes_of p.forms)) i in
        let d = times-in x (named_in (nodes w.body)) o in
        absurd (omega arith))
        (length p.lambdas) l (omega arith) (omega arith) f;
    cells = every-left _ (nodes_of p.forms) _ all-make;
    long = every-map _ _ (nodes_of p.forms) (λ d h. long_of d h)
        (every-left _ (nodes_of p.forms) _ (all-facts p order rules lines));
  }

  abbrev pub own_formals : ℕ → ℕ
  own_formals l = formals_of (slice_get p.lambdas l)

  names_only : (u : Place) (s : ℕ) (f : Form) → Facts p order (Node u s f) → Makes single f → NamesOnly own_formals f
  names_only u s (NewCell (Node q t (Local x))) h m = tt
  names_only u s (NewCell e) h m = absurd m
  names_only u s (Direct l es) h m =
      let k = its_lambda p order rules lines l es h.keeps.shaped in
      (added_to p.set l, subst (λ o. AreAdded (formals_of o) es (added_to p.set l)) (sym k.1) k.2)
  names_only u s _ h m = tt

  fit_node : (d : Tree) → Facts p order d → Makes single (form_of d) → FitNode (line_of order) own_formals d
  fit_node (Node u s f) h m = record {
    permuted = λ o. node-permutation p order u s f o h.lined
        (λ l es e. its_lambda p order rules lines l es (subst (IsShaped p) e h.keeps.shaped));
    long = long_shaped p f h.keeps.shaped;
    names = names_only u s f h m;
  }

  -- each node is fit
  pub all-fit : Every (FitNode (line_of order) own_formals) (all_nodes p)
  all-fit = every-zip _ _ _ (all_nodes p) fit_node (all-facts p order rules lines) all-make
