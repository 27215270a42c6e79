-- The lines of an order stand at nodes of the program, whose numbers are small.
use Rattle.std.proofs.Common.{◌≡◌, refl, ap, ◌∙◌, ℕ, suc, ◌^◌, ◌<◌, ◌≤◌, ⊎_elim, arith, Bool, true, false, cond, ◌==◌, List, [], ◌∷◌, ◌++◌, Option, Some, None, eqb-true}
use Rattle.std.proofs.lemmas.Bool.{cases_Bool}
use Rattle.tb_prim.specs.declared.place.Place.{Place}
use Rattle.tb_core.specs.Tree.{Tree, Node, Form, Quote, Local, Global, Lambda, If, SetLocal, SetGlobal, DefGlobal, Let, Letrec, Seq, Call, PrimUse, Apply, Trees, none, more, LambdaTree, ProgramTree}
use Rattle.tb_core.specs.FreeVariables.{is_assigned}
use Rattle.tb_core.specs.OperandOrder.{Line, own_line, lines, lines_form, lines_all, lines_of_lambdas, lambdas_lines, order_of, has_order, line_of, operands}
use Rattle.tb_core.specs.Rules.{Every, Each, EachForm, EachAll}
use Rattle.tb_ir.specs.TreeMachine as T

abbrev Small : List Line → Type 0
Small ls = Every (λ (l : Line). l.site < 2 ^ 24) ls

append : (xs ys : List Line) → Small xs → Small ys → Small (xs ++ ys)
append [] ys h k = k
append (x ∷ xs) ys h k = (h.0, append xs ys h.1 k)

abbrev pub SmallSite : ℕ → Form → Type 0
SmallSite s f = s < 2 ^ 24

own : (g : ℕ → Bool) (p : Place) (s : ℕ) (f : Form) → s < 2 ^ 24 → Small (own_line g p s f)
own g p s f lt = by_test (has_order f)
  where
    by_test : (b : Bool) → Small (cond b (record { place = p; site = s; order = line_of g (operands f) } ∷ []) [])
    by_test true = (lt, tt)
    by_test false = tt

module _ (g : ℕ → Bool) (inner : ℕ → List Line) (small : (l : ℕ) → Small (inner l)) where
  group : (ls : List ℕ) → Small (lines_of_lambdas inner ls)
  group [] = tt
  group (l ∷ ls) = append (inner l) _ (small l) (group ls)

  mutual
    small_lines : (e : Tree) → Each SmallSite e → Small (lines g inner e)
    small_lines (Node p s f) n = append (own_line g p s f) _ (own g p s f n.0) (small_form f n.1)

    small_form : (f : Form) → EachForm SmallSite f → Small (lines_form g inner f)
    small_form (Quote c) n = tt
    small_form (Local x) n = tt
    small_form (Global x) n = tt
    small_form (Lambda l) n = small l
    small_form (If a b c) n = append (lines g inner a) _ (small_lines a n.0)
        (append (lines g inner b) _ (small_lines b n.1) (small_lines c n.2))
    small_form (SetLocal x e) n = small_lines e n
    small_form (SetGlobal x e) n = small_lines e n
    small_form (DefGlobal x e) n = small_lines e n
    small_form (Let xs es e) n = append (lines_all g inner es) _ (small_all es n.0) (small_lines e n.1)
    small_form (Letrec xs ls e) n = append (lines_of_lambdas inner ls) _ (group ls) (small_lines e n)
    small_form (Seq es) n = small_all es n
    small_form (Call f es) n = append (lines g inner f) _ (small_lines f n.0) (small_all es n.1)
    small_form (PrimUse q es) n = small_all es n
    small_form (Apply f l) n = append (lines g inner f) _ (small_lines f n.0) (small_lines l n.1)

    small_all : (es : Trees) → EachAll SmallSite es → Small (lines_all g inner es)
    small_all none n = tt
    small_all (more e es) n = append (lines g inner e) _ (small_lines e n.0) (small_all es n.1)

small_lambda : (g : ℕ → Bool) (ms : List LambdaTree) (m : LambdaTree) (first l : ℕ) (b : Bool) →
    Each SmallSite m.body → ((k : ℕ) → Small (lambdas_lines g ms (suc first) k)) →
    Small (cond b (lines g (lambdas_lines g ms (suc first)) m.body) (lambdas_lines g ms (suc first) l))
small_lambda g ms m first l true n rest = small_lines g (lambdas_lines g ms (suc first)) rest m.body n
small_lambda g ms m first l false n rest = rest l

small_lambdas : (g : ℕ → Bool) (ls : List LambdaTree) (first l : ℕ) →
    Every (λ (m : LambdaTree). Each SmallSite m.body) ls → Small (lambdas_lines g ls first l)
small_lambdas g [] first l n = tt
small_lambdas g (m ∷ ms) first l n = small_lambda g ms m first l (first == l) n.0
    (λ k. small_lambdas g ms (suc first) k n.1)

none_first : (s n : ℕ) (l : List ℕ) (o : Option (List ℕ)) → s < 2 ^ 24 → 2 ^ 24 ≤ n → o ≡ None →
    cond (s == n) (Some l) o ≡ None
none_first s n l o lt le e =
    ap (λ b. cond b (Some l) o)
    (⊎_elim (λ t. let z = eqb-true s n t in absurd (omega arith)) (λ f. f) (cases_Bool (s == n))) ∙ e

none_there : (ls : List Line) (n : ℕ) → Small ls → 2 ^ 24 ≤ n → T.line_of ls n ≡ None
none_there [] n h le = refl
none_there (l ∷ ls) n h le = none_first l.site n l.order (T.line_of ls n) h.0 le (none_there ls n h.1 le)

-- no line of the order of a program has a number past those of its nodes
pub lines-small : (p : ProgramTree) → EachAll SmallSite p.forms →
    Every (λ (m : LambdaTree). Each SmallSite m.body) p.lambdas → (n : ℕ) → 2 ^ 24 ≤ n →
    T.line_of (order_of p) n ≡ None
lines-small p forms bodies n le = none_there (order_of p) n
    (small_all (is_assigned p) (lambdas_lines (is_assigned p) p.lambdas 0)
    (λ l. small_lambdas (is_assigned p) p.lambdas 0 l bodies) p.forms forms) le
