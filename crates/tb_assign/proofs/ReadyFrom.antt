-- A program that keeps its rules is ready for the simulation, where each variable that is assigned is named in the
-- body in which it is bound.
use Rattle.std.proofs.Common.{◌≡◌, refl, sym, ap, ◌∙◌, subst, ℕ, zero, suc, ◌^◌, ◌<◌, inl, inr, Bool, false, List, [], ◌∷◌, ◌++◌, Some, slice_get}
use Rattle.std.proofs.lemmas.Bool.{both_ways}
use Rattle.std.proofs.lemmas.Option.{same_Some}
use Rattle.tb_semantics.specs.Graph.{IsIn, IsApart}
use Rattle.tb_core.specs.Tree.{Tree, Node, Form, Quote, Local, Global, Lambda, If, SetLocal, SetGlobal, DefGlobal, Let, Letrec, Seq, Call, PrimUse, Apply, Trees, none, more, LambdaTree, ProgramTree, parameters}
use Rattle.tb_core.specs.FreeVariables.{free, inner_free, is_assigned, targets, targets_all, targets_of_lambdas}
use Rattle.tb_core.specs.OperandOrder.{HasLine}
use Rattle.tb_core.specs.Rules.{Every, Each, EachForm, EachAll, NodeKeeps, LambdaKeeps, KeepsRules, bound, bound_all, bound_in_lambdas}
use Rattle.tb_core.proofs.Kept as Kept
use Rattle.tb_core.proofs.Members.{in-left, in-right, tested-in}
use Rattle.tb_core.proofs.Numbers.{free-of-lambda, forms-have-lines, bodies-have-lines}
use Rattle.tb_assign.specs.Eliminate.{celled}
use Rattle.tb_assign.proofs.Free.{NamesSmall, celled-in}
use Rattle.tb_assign.proofs.Rel.{Good, Ready, BindsIn}
use Rattle.tb_assign.proofs.Scoped.{Scoped, Tied, scoped, scoped_all, apart-left, apart-right}
use Rattle.tb_assign.proofs.InnerSmall.{variable-small, body-small, lambda-bound}
use Rattle.tb_assign.proofs.Sites.{SmallSite, lines-small}

-- a variable of a `let` that is assigned is named in its body
abbrev pub UsesAssigned : ProgramTree → Form → Type 0
UsesAssigned p (Let xs es e) = (x : ℕ) → IsIn x (celled (is_assigned p) xs) → IsIn x (free (inner_free p) e)
UsesAssigned p f = Unit {0}

pub record AssignedAreNamed (p : ProgramTree) : Type 0 where
  pub forms : EachAll (λ s f. UsesAssigned p f) p.forms
  pub bodies : (n : ℕ) (l : LambdaTree) → slice_get p.lambdas n ≡ Some l → Each (λ s f. UsesAssigned p f) l.body
  pub parameters_named : (n : ℕ) (l : LambdaTree) → slice_get p.lambdas n ≡ Some l → (x : ℕ) →
      IsIn x (celled (is_assigned p) (parameters l)) → IsIn x (free (inner_free p) l.body)

-- a fact of each node gives another
module _ (R Q : ℕ → Form → Type 0) (then : (s : ℕ) (f : Form) → R s f → Q s f) where
  mutual
    pub each-then : (e : Tree) → Each R e → Each Q e
    each-then (Node p s f) n = (then s f n.0, form_then f n.1)

    form_then : (f : Form) → EachForm R f → EachForm Q f
    form_then (Quote c) n = tt
    form_then (Local x) n = tt
    form_then (Global g) n = tt
    form_then (Lambda l) n = tt
    form_then (If a b c) n = (each-then a n.0, each-then b n.1, each-then c n.2)
    form_then (SetLocal x e) n = each-then e n
    form_then (SetGlobal g e) n = each-then e n
    form_then (DefGlobal g e) n = each-then e n
    form_then (Let xs es e) n = (all-then es n.0, each-then e n.1)
    form_then (Letrec xs ls e) n = each-then e n
    form_then (Seq es) n = all-then es n
    form_then (Call f es) n = (each-then f n.0, all-then es n.1)
    form_then (PrimUse p es) n = all-then es n
    form_then (Apply f l) n = (each-then f n.0, each-then l n.1)

    pub all-then : (es : Trees) → EachAll R es → EachAll Q es
    all-then none n = tt
    all-then (more e es) n = (each-then e n.0, all-then es n.1)

never_celled : (g : ℕ → Bool) (xs : List ℕ) → Every (λ x. g x ≡ false) xs → (x : ℕ) → IsIn x (celled g xs) → ⊥
never_celled g xs h x i = let m = celled-in g xs x i in both_ways (g x) (at xs h m.0) m.1
  where
    at : (xs : List ℕ) → Every (λ x. g x ≡ false) xs → IsIn x xs → g x ≡ false
    at [] h i = absurd i
    at (y ∷ xs) h (inl e) = ap g (sym e) ∙ h.0
    at (y ∷ xs) h (inr i) = at xs h.1 i

module _ (p : ProgramTree) (rules : KeepsRules p) (named : AssignedAreNamed p) where
  abbrev I : ℕ → List ℕ
  I = inner_free p

  abbrev g : ℕ → Bool
  g = is_assigned p

  abbrev All : ℕ → Form → Type 0
  All s f = ((NodeKeeps p s f × HasLine p s f) × Scoped I g s f) × UsesAssigned p f

  binds : (s : ℕ) (f : Form) → NodeKeeps p s f → Tied I g f → UsesAssigned p f → BindsIn p f
  binds s (Let xs es e) k t u = record { apart = t.0; small = t.1; used = u }
  binds s (Letrec xs ls e) k t u = record {
    apart = t.0;
    small = t.1;
    used = λ x i. absurd
        (never_celled g xs k.letrec_for_good x i);
  }
  binds s (SetLocal x e) k t u = t
  binds s (Quote c) k t u = tt
  binds s (Local x) k t u = tt
  binds s (Global n) k t u = tt
  binds s (Lambda l) k t u = tt
  binds s (If a b c) k t u = tt
  binds s (SetGlobal n e) k t u = tt
  binds s (DefGlobal n e) k t u = tt
  binds s (Seq es) k t u = tt
  binds s (Call f es) k t u = tt
  binds s (PrimUse q es) k t u = tt
  binds s (Apply f l) k t u = tt

  good : (s : ℕ) (f : Form) → All s f → Good p s f
  good s f a = record {
    node = (a.0).0.0;
    lined = (a.0).0.1;
    named = (a.0).1.0;
    binds = binds s f (a.0).0.0
        (a.0).1.1 a.1;
  }

  every_lambda : (P : LambdaTree → Type 0) (ls : List LambdaTree) (n : ℕ) (l : LambdaTree) → Every P ls →
      slice_get ls n ≡ Some l → P l
  every_lambda P [] n l h e = cc
  every_lambda P (m ∷ ls) zero l h e = subst P (same_Some m l e) h.0
  every_lambda P (m ∷ ls) (suc n) l h e = every_lambda P ls n l h.1 e

  keeps : (n : ℕ) (l : LambdaTree) → slice_get p.lambdas n ≡ Some l → LambdaKeeps p l
  keeps n l e = every_lambda (LambdaKeeps p) p.lambdas n l rules.lambdas e

  forms_scoped : EachAll (Scoped I g) p.forms
  forms_scoped = scoped_all I g p.forms (record {
    free_small = λ y i. absurd (subst (IsIn y) rules.in_scope i);
    bound_small = λ y i. variable-small p rules y (in-left y (bound_all p.forms) _ i);
    apart = apart-left (bound_all p.forms) _ rules.bound_once;
    set = λ x i. tested-in _ x (in-left x (targets_all p.forms) _ i);
  })

  targets_in : (ls : List LambdaTree) (n : ℕ) (l : LambdaTree) (x : ℕ) → slice_get ls n ≡ Some l →
      IsIn x (targets l.body) → IsIn x (targets_of_lambdas ls)
  targets_in [] n l x e i = cc
  targets_in (m ∷ ls) zero l x e i = in-left x (targets m.body) _
      (subst (λ a. IsIn x (targets a.body)) (sym (same_Some m l e)) i)
  targets_in (m ∷ ls) (suc n) l x e i = in-right x (targets m.body) _ (targets_in ls n l x e i)

  lambda_apart : (ls : List LambdaTree) (n : ℕ) (l : LambdaTree) → slice_get ls n ≡ Some l →
      IsApart (bound_in_lambdas ls) → IsApart (parameters l) × IsApart (bound l.body)
  lambda_apart [] n l e h = cc
  lambda_apart (m ∷ ls) zero l e h = subst (λ a. IsApart (parameters a) × IsApart (bound a.body)) (same_Some m l e)
      (apart-left (parameters m) _ h, apart-left (bound m.body) _ (apart-right (parameters m) _ h))
  lambda_apart (m ∷ ls) (suc n) l e h = lambda_apart ls n l e
      (apart-right (bound m.body) _ (apart-right (parameters m) _ h))

  own_apart : (n : ℕ) (l : LambdaTree) → slice_get p.lambdas n ≡ Some l →
      IsApart (parameters l) × IsApart (bound l.body)
  own_apart n l e = lambda_apart p.lambdas n l e (apart-right (bound_all p.forms) _ rules.bound_once)

  of_lambda : (n : ℕ) (l : LambdaTree) (y : ℕ) → slice_get p.lambdas n ≡ Some l →
      IsIn y (parameters l ++ bound l.body) → y < 2 ^ 24
  of_lambda n l y e i = variable-small p rules y (in-right y (bound_all p.forms) _ (lambda-bound p.lambdas n l y e i))

  body_scoped : (n : ℕ) (l : LambdaTree) → slice_get p.lambdas n ≡ Some l → Each (Scoped I g) l.body
  body_scoped n l e = scoped I g l.body (record {
    free_small = body-small p rules n l e;
    bound_small = λ y i. of_lambda n l y e (in-right y (parameters l) _ i);
    apart = (own_apart n l e).1;
    set = λ x i. tested-in _ x (in-right x (targets_all p.forms) _ (targets_in p.lambdas n l x e i));
  })

  all_forms : EachAll All p.forms
  all_forms =
      Kept.both_all (λ s f. (NodeKeeps p s f × HasLine p s f) × Scoped I g s f) (λ s f. UsesAssigned p f) p.forms
      (Kept.both_all (λ s f. NodeKeeps p s f × HasLine p s f) (Scoped I g) p.forms
      (Kept.both_all (NodeKeeps p) (HasLine p) p.forms rules.forms
      (forms-have-lines p rules)) forms_scoped) named.forms

  all_body : (n : ℕ) (l : LambdaTree) → slice_get p.lambdas n ≡ Some l → Each All l.body
  all_body n l e =
      Kept.both (λ s f. (NodeKeeps p s f × HasLine p s f) × Scoped I g s f) (λ s f. UsesAssigned p f) l.body
      (Kept.both (λ s f. NodeKeeps p s f × HasLine p s f) (Scoped I g) l.body
      (Kept.both (NodeKeeps p) (HasLine p) l.body (keeps n l e).nodes (bodies-have-lines p rules n l e))
      (body_scoped n l e)) (named.bodies n l e)

  each_lambda : (Q : LambdaTree → Type 0) (ls : List LambdaTree) →
      ((n : ℕ) (l : LambdaTree) → slice_get ls n ≡ Some l → Q l) → Every Q ls
  each_lambda Q [] h = tt
  each_lambda Q (l ∷ ls) h = (h 0 l refl, each_lambda Q ls (λ n m e. h (suc n) m e))

  pub ready-from : Ready p
  ready-from = record {
    names_forms = all-then All NamesSmall (λ s f a. (a.0).1.0) p.forms all_forms;
    names_bodies = each_lambda _ p.lambdas
        (λ n l e. each-then All NamesSmall (λ s f a. (a.0).1.0) l.body (all_body n l e));
    forms = all-then All (Good p) good p.forms all_forms;
    bodies = λ n l e. each-then All (Good p) good l.body (all_body n l e);
    free_of = λ n l e. free-of-lambda p n l rules.inner_greater e;
    binds = λ n l e. record {
      apart = (own_apart n l e).0;
      small = λ y i. of_lambda n l y e
          (in-left y (parameters l) _ i);
      used = named.parameters_named n l e;
    };
    values = λ n l e. (keeps n l e).value;
    closed = λ n e y at i. subst (IsIn y) rules.in_scope (Kept.free-at I p.forms n e y at i);
    no_mark = rules.values;
    lines_small = lines-small p (all-then All SmallSite (λ s f a. ((a.0).0.0).small_site) p.forms all_forms)
        (each_lambda _ p.lambdas
        (λ n l e. each-then All SmallSite (λ s f a. ((a.0).0.0).small_site) l.body (all_body n l e)));
    statics = rules.statics;
  }
