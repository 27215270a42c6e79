-- How trees without variables are made, and the programs of them.
use Rattle.std.proofs.Common.{◌≡◌, refl, sym, ap, ◌∙◌, subst, ℕ, zero, suc, ◌+◌, ◌*◌, ◌^◌, ◌≤◌, ◌<◌, Bool, true, false, cond, List, [], ◌∷◌, ◌++◌, length, map, None, Some, ◌⊎◌, inl, inr, ⊎_elim, append-nil, length-append, mul-le-mul, arith}
use Rattle.std.proofs.lemmas.List.{map-append}
use Rattle.std.specs.Bool.{then_some}
use Rattle.tb_prim.specs.declared.place.Place.{Place}
use Rattle.tb_prim.specs.declared.constant.Const.{Const}
use Rattle.tb_prim.specs.declared.constant.Static.{Static}
use Rattle.tb_semantics.specs.Graph.{IsApart, IsIn}
use Rattle.tb_core.specs.declared.expr.Expr.{Expr}
use Rattle.tb_core.specs.Tree.{Tree, Node, Quote, Lambda, Let, Seq, Call, Trees, none, more, count, LambdaTree, option_list, parameters}
use Rattle.tb_core.specs.declared.program.Lambda.{Lambda as LambdaCode}
use Rattle.tb_core.specs.Plain.{trees, view, view_lambda, plain_program}
use Rattle.tb_core.specs.FreeVariables.{is_in, free_all, without}
use Rattle.tb_core.specs.OperandOrder.{Line, lines, lines_all}
use Rattle.tb_core.specs.Rules.{Every, KeepsRules, standing}
use Rattle.tb_core_rows.specs.Quiet.{IsQuiet, AreQuiet, IsPlain, sites}

-- a constant
pub quiet_constant : (within : List ℕ) (p : Place) (s : ℕ) → s < 2 ^ 24 → IsQuiet within [] [] 1 (Node p s (Quote Const.Nil))
quiet_constant within p s lt = record {
  names_none = λ f h. refl;
  binds_none = refl;
  assigns_none = refl;
  lambdas = refl;
  ordered = λ a f h. refl;
  small = omega arith;
  nodes = λ q k. (record { small_site = lt; in_range = tt; shaped = tt; letrec_for_good = tt; marks_are_operands = tt }, tt);
  no_mark = refl;
}

-- the lambda expression 0
pub quiet_lambda : (within : List ℕ) (p : Place) (s : ℕ) → s < 2 ^ 24 → IsQuiet within (0 ∷ []) within 1 (Node p s (Lambda 0))
quiet_lambda within p s lt = record {
  names_none = λ f h. h;
  binds_none = refl;
  assigns_none = refl;
  lambdas = refl;
  ordered = λ a f h. h;
  small = omega arith;
  nodes = λ q k. (record { small_site = lt; in_range = k.0; shaped = tt; letrec_for_good = tt; marks_are_operands = tt }, tt);
  no_mark = refl;
}

pub quiet_sequence : (within ls ss : List ℕ) (n : ℕ) (p : Place) (s : ℕ) (es : Trees) → s < 2 ^ 24 → 1 ≤ count es → AreQuiet within ls ss n es → IsQuiet within ls ss (n + 1) (Node p s (Seq es))
quiet_sequence within ls ss n p s es lt some q = record {
  names_none = q.names_none;
  binds_none = q.binds_none;
  assigns_none = q.assigns_none;
  lambdas = q.lambdas;
  ordered = q.ordered;
  small = let h = q.small in omega arith;
  nodes = λ t k. (record { small_site = lt; in_range = tt; shaped = some; letrec_for_good = tt; marks_are_operands = q.no_mark }, q.nodes t k);
  no_mark = refl;
}

-- a call of a constant, with these operands
pub quiet_call : (within ls ss : List ℕ) (n : ℕ) (p : Place) (s : ℕ) (e : Tree) (es : Trees) → s < 2 ^ 24 → IsQuiet within [] [] 1 e → AreQuiet within ls ss n es → IsQuiet within ls (s ∷ ss) (n + 2) (Node p s (Call e es))
quiet_call within ls ss n p s e es lt r q = record {
  names_none = λ f h. ap (λ zs. zs ++ free_all f es) (r.names_none f h) ∙ q.names_none f h;
  binds_none = rw r.binds_none q.binds_none;
  assigns_none = rw r.assigns_none q.assigns_none;
  lambdas = rw r.lambdas q.lambdas;
  ordered = λ a f h. ap (λ zs. s ∷ zs) (map-append (λ (l : Line). l.site) (lines a f e) (lines_all a f es) ∙ ap (λ zs. zs ++ sites (lines_all a f es)) (r.ordered a f h) ∙ q.ordered a f h);
  small = let h = q.small in let k = r.small in omega arith;
  nodes = λ t k. (record { small_site = lt; in_range = tt; shaped = tt; letrec_for_good = tt; marks_are_operands = (r.no_mark, q.no_mark) }, (r.nodes t tt, q.nodes t k));
  no_mark = refl;
}

-- a `let` without variables
pub quiet_let : (within ls ss : List ℕ) (n : ℕ) (p : Place) (s : ℕ) (e : Tree) → s < 2 ^ 24 → IsQuiet within ls ss n e → IsQuiet within ls (s ∷ ss) (n + 1) (Node p s (Let [] none e))
quiet_let within ls ss n p s e lt q = record {
  names_none = λ f h. ap (without []) (q.names_none f h);
  binds_none = q.binds_none;
  assigns_none = q.assigns_none;
  lambdas = q.lambdas;
  ordered = λ a f h. ap (λ zs. s ∷ zs) (q.ordered a f h);
  small = let h = q.small in omega arith;
  nodes = λ t k. (record { small_site = lt; in_range = tt; shaped = refl; letrec_for_good = tt; marks_are_operands = (tt, q.no_mark) }, (tt, q.nodes t k));
  no_mark = refl;
}

pub quiet_none : (within : List ℕ) → AreQuiet within [] [] 0 none
quiet_none within = record {
  names_none = λ f h. refl;
  binds_none = refl;
  assigns_none = refl;
  lambdas = refl;
  ordered = λ a f h. refl;
  small = omega arith;
  nodes = λ t k. tt;
  no_mark = tt;
}

-- one more expression before plain ones
pub quiet_more : (within ls ss : List ℕ) (m n : ℕ) (e : Tree) (es : Trees) → IsQuiet within ls ss m e → AreQuiet within [] [] n es → AreQuiet within ls ss (m + n) (more e es)
quiet_more within ls ss m n e es r q = record {
  names_none = λ f h. ap (λ zs. zs ++ free_all f es) (r.names_none f h) ∙ q.names_none f h;
  binds_none = rw r.binds_none q.binds_none;
  assigns_none = rw r.assigns_none q.assigns_none;
  lambdas = rw (r.lambdas, q.lambdas) (append-nil ls);
  ordered = λ a f h. map-append (λ (l : Line). l.site) (lines a f e) (lines_all a f es) ∙ ap (λ zs. zs ++ sites (lines_all a f es)) (r.ordered a f h) ∙ ap (λ zs. ss ++ zs) (q.ordered a f h) ∙ append-nil ss;
  small = let h = q.small in let k = r.small in omega arith;
  nodes = λ t k. (r.nodes t k, q.nodes t tt);
  no_mark = (r.no_mark, q.no_mark);
}

pub quiet_all : (within : List ℕ) (n : ℕ) (es : List Expr) → Every (λ e. IsPlain n (view e)) es → AreQuiet within [] [] (n * length es) (trees (map view es))
quiet_all within n [] h = subst (λ k. AreQuiet within [] [] k none) (omega arith) (quiet_none within)
quiet_all within n (e ∷ es) h = subst (λ k. AreQuiet within [] [] k (more (view e) (trees (map view es)))) (product n (length es)) (quiet_more within [] [] n (n * length es) (view e) (trees (map view es)) (h.0 within) (quiet_all within n es h.1))
  where
    product : (a b : ℕ) → a + a * b ≡ a * suc b
    product a b = grind arith

pub every_push : {X : Type 0} (P : X → Type 0) (xs : List X) (x : X) → Every P xs → P x → Every P (xs ++ x ∷ [])
every_push P [] x h p = (p, tt)
every_push P (y ∷ xs) x h p = (h.0, every_push P xs x h.1 p)

pub every_weaker : {X : Type 0} (P Q : X → Type 0) → ((x : X) → P x → Q x) → (xs : List X) → Every P xs → Every Q xs
every_weaker P Q f [] h = tt
every_weaker P Q f (x ∷ xs) h = (f x h.0, every_weaker P Q f xs h.1)

-- a number above all others is none of them
not_above : (xs : List ℕ) (n : ℕ) → Every (λ x. x < n) xs → IsIn n xs → ⊥
not_above (x ∷ xs) n h (inl e) = absurd (omega (arith, h.0, e))
not_above (x ∷ xs) n h (inr i) = not_above xs n h.1 i
not_above [] n h i = i

in_either : (y : ℕ) (xs : List ℕ) (x : ℕ) → IsIn y (xs ++ x ∷ []) → IsIn y xs ⊎ (x ≡ y)
in_either y [] x (inl e) = inr e
in_either y [] x (inr i) = absurd i
in_either y (z ∷ xs) x (inl e) = inl (inl e)
in_either y (z ∷ xs) x (inr i) = ⊎_elim (λ j. inl (inr j)) inr (in_either y xs x i)

apart_push : (xs : List ℕ) (n : ℕ) → IsApart xs → Every (λ x. x < n) xs → IsApart (xs ++ n ∷ [])
apart_push [] n a h = (λ i. i, tt)
apart_push (x ∷ xs) n a h = (λ i. ⊎_elim a.0 (λ e. absurd (omega (arith, e, h.0))) (in_either x xs n i), apart_push xs n a.1 h.1)

-- the numbers below another, and one more
pub below_push : (xs : List ℕ) (n : ℕ) → IsApart xs → Every (λ x. x < n) xs → IsApart (xs ++ n ∷ []) × Every (λ x. x < n + 1) (xs ++ n ∷ [])
below_push xs n a h = (apart_push xs n a h, every_push (λ x. x < n + 1) xs n (every_weaker (λ x. x < n) (λ x. x < n + 1) (λ x k. omega arith) xs h) (omega arith))

-- parameters below a number, with or without the number itself as the rest one
then_some_is : (b : Bool) (x : ℕ) → then_some b x ≡ cond b (Some x) None
then_some_is true x = refl
then_some_is false x = refl

with_rest_by : (xs : List ℕ) (n k : ℕ) (r : Bool) → n < k → IsApart xs → Every (λ x. x < n) xs → IsApart (xs ++ option_list (cond r (Some n) None)) × Every (λ x. x < k) (xs ++ option_list (cond r (Some n) None))
with_rest_by xs n k true lt a h = (apart_push xs n a h, every_push (λ x. x < k) xs n (every_weaker (λ x. x < n) (λ x. x < k) (λ x j. omega arith) xs h) lt)
with_rest_by xs n k false lt a h = (subst IsApart (sym (append-nil xs)) a, subst (Every (λ x. x < k)) (sym (append-nil xs)) (every_weaker (λ x. x < n) (λ x. x < k) (λ x j. omega arith) xs h))

pub with_rest : (xs : List ℕ) (n k : ℕ) (r : Bool) → n < k → IsApart xs → Every (λ x. x < n) xs → IsApart (xs ++ option_list (then_some r n)) × Every (λ x. x < k) (xs ++ option_list (then_some r n))
with_rest xs n k r lt a h = rw (then_some_is r n) (with_rest_by xs n k r lt a h)

pub count_view : (es : List Expr) → count (trees (map view es)) ≡ length es
count_view [] = refl
count_view (e ∷ es) = let h = count_view es in omega arith

-- a program of such forms alone
pub keeps_alone : (ss : List ℕ) (n : ℕ) (es : Trees) → AreQuiet [] [] ss n es → IsApart ss → n ≤ 1000000 → KeepsRules (record { globals = []; statics = []; lambdas = []; forms = es })
keeps_alone ss n es q apart few = record {
  bound_once = rw q.binds_none tt;
  small_variables = rw q.binds_none tt;
  in_scope = q.names_none (λ l. []) refl;
  lambdas_at_most_once = rw q.lambdas tt;
  lambdas_at_least_once = λ l lt. absurd (omega arith);
  inner_greater = tt;
  sites_apart = subst IsApart (sym (q.ordered _ _ refl)) apart;
  few_nodes = let h = q.small in omega arith;
  statics = tt;
  forms = q.nodes _ tt;
  values = q.no_mark;
  lambdas = tt;
}

-- a program of such forms, with one lambda expression
pub keeps_with : (within ss : List ℕ) (n m : ℕ) (es : Trees) (l : LambdaTree) → AreQuiet within (0 ∷ []) ss n es → IsQuiet [] [] within m l.body → IsApart (parameters l) → Every (λ x. x < 2 ^ 24) (parameters l) → IsApart ss → n + m ≤ 1000000 → KeepsRules (record { globals = []; statics = []; lambdas = l ∷ []; forms = es })
keeps_with within ss n m es l q b apart small sites_apart few = record {
  bound_once = rw (q.binds_none, b.binds_none) (subst IsApart (sym (append-nil (parameters l))) apart);
  small_variables = rw (q.binds_none, b.binds_none) (subst (Every (λ x. x < 2 ^ 24)) (sym (append-nil (parameters l))) small);
  in_scope = q.names_none _ (ap (without (parameters l)) (b.names_none _ refl));
  lambdas_at_most_once = rw (q.lambdas, b.lambdas) (λ i. absurd i, tt);
  lambdas_at_least_once = first;
  inner_greater = (rw b.lambdas tt, tt);
  sites_apart = subst IsApart (sym (q.ordered _ _ (b.ordered _ _ refl))) sites_apart;
  few_nodes = let h = q.small in let k = b.small in omega arith;
  statics = tt;
  forms = q.nodes _ (omega arith, tt);
  values = q.no_mark;
  lambdas = (record { nodes = b.nodes _ tt; value = b.no_mark }, tt);
}
  where
    first : (k : ℕ) → k < 1 → is_in (standing (record { globals = []; statics = []; lambdas = l ∷ []; forms = es })) k ≡ true
    first zero lt = rw q.lambdas refl
    first (suc k) lt = absurd (omega arith)

-- so many constants
pub quiet_constants : (within : List ℕ) (k : ℕ) (es : List Expr) → length es ≡ k → Every (λ e. IsPlain 1 (view e)) es → AreQuiet within [] [] k (trees (map view es))
quiet_constants within k es h q = subst (λ n. AreQuiet within [] [] n (trees (map view es))) (omega (arith, h)) (quiet_all within 1 es q)

pub some_view : (es : List Expr) (k : ℕ) → length es ≡ k → 1 ≤ k → 1 ≤ count (trees (map view es))
some_view es k h some = let n = count_view es in omega arith

pub quiet_weaker : (within ls ss : List ℕ) (n m : ℕ) (e : Tree) → n ≤ m → IsQuiet within ls ss n e → IsQuiet within ls ss m e
quiet_weaker within ls ss n m e le q = record {
  names_none = q.names_none;
  binds_none = q.binds_none;
  assigns_none = q.assigns_none;
  lambdas = q.lambdas;
  ordered = q.ordered;
  small = let h = q.small in omega arith;
  nodes = q.nodes;
  no_mark = q.no_mark;
}

-- the same, of the parts of a program
parts_keep : (ss : List Static) (ls ks : List LambdaCode) (fs : List Expr) → ss ≡ [] → ls ≡ ks → KeepsRules (plain_program [] [] ks fs) → KeepsRules (plain_program [] ss ls fs)
parts_keep ss ls ks fs e f k = subst (λ v. KeepsRules (plain_program [] v ls fs)) (sym e) (subst (λ v. KeepsRules (plain_program [] [] v fs)) (sym f) k)

pub form_keeps : (statics : List Static) (ls : List LambdaCode) (ss : List ℕ) (n : ℕ) (e : Expr) → statics ≡ [] → ls ≡ [] → IsQuiet [] [] ss n (view e) → IsApart ss → n ≤ 1000000 → KeepsRules (plain_program [] statics ls (e ∷ []))
form_keeps statics ls ss n e p q r apart few = parts_keep statics ls [] (e ∷ []) p q (keeps_alone ss (n + 0) (more (view e) none) (quiet_more [] [] ss n 0 (view e) none r (quiet_none [])) apart (omega arith))

pub lambda_keeps : (statics : List Static) (ls : List LambdaCode) (within ss : List ℕ) (n m : ℕ) (e : Expr) (l : LambdaCode) → statics ≡ [] → ls ≡ l ∷ [] → IsQuiet within (0 ∷ []) ss n (view e) → IsQuiet [] [] within m (view l.body) → IsApart (parameters (view_lambda l)) → Every (λ x. x < 2 ^ 24) (parameters (view_lambda l)) → IsApart ss → n + m ≤ 1000000 → KeepsRules (plain_program [] statics ls (e ∷ []))
lambda_keeps statics ls within ss n m e l p q r b apart small sites_apart few = parts_keep statics ls (l ∷ []) (e ∷ []) p q (keeps_with within ss (n + 0) m (more (view e) none) (view_lambda l) (quiet_more within (0 ∷ []) ss n 0 (view e) none r (quiet_none within)) b apart small sites_apart (omega arith))

pub one_apart : (n : ℕ) → IsApart (n ∷ [])
one_apart n = (λ i. i, tt)

pub plain_weaker : (n m : ℕ) → n ≤ m → (e : Tree) → IsPlain n e → IsPlain m e
plain_weaker n m le e q = λ within. quiet_weaker within [] [] n m e le (q within)

-- forms that are pushed, of at most so many nodes each
pub plain_push : (n m k : ℕ) (es all : List Expr) (e : Expr) → all ≡ es ++ e ∷ [] → length es ≡ k → m ≤ n → Every (λ d. IsPlain n (view d)) es → IsPlain m (view e) → (length all ≡ k + 1) × Every (λ d. IsPlain n (view d)) all
plain_push n m k es all e h len le q r =
    (ap length h ∙ length-append es (e ∷ []) ∙ ap (λ j. j + 1) len, subst (Every (λ d. IsPlain n (view d))) (sym h) (every_push (λ d. IsPlain n (view d)) es e q (plain_weaker m n le (view e) r)))

product_below : (n a : ℕ) → n ≤ 2000 → a ≤ 21 → n * a ≤ 1000000
product_below n a le few = let h : n * a ≤ 2000 * 21 = mul-le-mul le few in omega arith

pub forms_keep : (n : ℕ) (es : List Expr) → n ≤ 2000 → length es ≤ 21 → Every (λ e. IsPlain n (view e)) es → KeepsRules (plain_program [] [] [] es)
forms_keep n es le few q = keeps_alone [] (n * length es) (trees (map view es)) (quiet_all [] n es q) tt (product_below n (length es) le few)

-- a program that is written out
pub worked_keep : (ss statics : List Static) (lts : List LambdaTree) (ls : List LambdaCode) (t : Tree) (e : Expr) → statics ≡ ss → map view_lambda ls ≡ lts → view e ≡ t → KeepsRules (record { globals = []; statics = ss; lambdas = lts; forms = more t none }) → KeepsRules (plain_program [] statics ls (e ∷ []))
worked_keep ss statics lts ls t e h k m r =
    subst (λ v. KeepsRules (record { globals = []; statics = v; lambdas = map view_lambda ls; forms = more (view e) none })) (sym h)
    (subst (λ v. KeepsRules (record { globals = []; statics = ss; lambdas = v; forms = more (view e) none })) (sym k)
    (subst (λ v. KeepsRules (record { globals = []; statics = ss; lambdas = lts; forms = more v none })) (sym m) r))
