-- No proc is wider than its body: the widths of procs in the order of their numbers, and those of the source.
use Rattle.std.proofs.Common.{◌≡◌, refl, sym, ap, ◌∙◌, subst, ℕ, suc, ◌+◌, ◌^◌, ◌<◌, ◌≤◌, inl, inr, ⊎_elim, arith, Bool, List, [], ◌∷◌, ◌++◌, length, map, Some, slice_get, append_assoc, eq-eqb, ne_eqb}
use Rattle.std.proofs.lemmas.Bool.{cases_Bool}
use Rattle.std.proofs.lemmas.List.{length-append}
use Rattle.tb_semantics.specs.Graph.{IsIn, IsApart}
use Rattle.tb_core.specs.FreeVariables.{is_in}
use Rattle.tb_core.specs.OperandOrder.{Line}
use Rattle.tb_core.specs.Rules.{Every}
use Rattle.tb_core.specs.Tree.{option_list}
use Rattle.tb_core.proofs.FirstUses.{first_of-apart}
use Rattle.tb_core.proofs.Members.{in-left, in-right, in-either, in-tested, in-without}
use Rattle.tb_ir.specs.Tree.{Tree, LambdaTree, ProgramTree}
use Rattle.tb_ir.specs.FreeVariables.{free, inner_free, captured, parameters, added_to}
use Rattle.tb_ir.specs.Rules.{IsLambda, InnerAreGreater, LiftedKeeps, form_of, nodes_of, nodes_of_lambdas, all_nodes, of_nodes, standing_at, times, KeepsRules, IsOrderOf}
use Rattle.tb_ir.specs.Rules as K
use Rattle.tb_ir.specs.TreeMachine.{line_of}
use Rattle.tb_ir.specs.Width.{is_lined, nodes, lambdas_widths}
use Rattle.tb_ir.specs.AnfWidth as W
use Rattle.tb_anf.specs.NormalForm.{size, lambda_proc, lambda_procs}
use Rattle.tb_anf.specs.Wider.{AreAtMost}
use Rattle.tb_anf.proofs.Apart.{of_nodes-append}
use Rattle.tb_anf.proofs.Arranged.{no_longer}
use Rattle.tb_anf.proofs.Bodies.{inner, not-lifted}
use Rattle.tb_anf.proofs.Cells.{single, good-body, own_formals, all-fit}
use Rattle.tb_anf.proofs.InScope.{FitTask, fit-tasks, times-append}
use Rattle.tb_anf.proofs.Operands.{apart-right, apart-both, every-left, every-right}
use Rattle.tb_anf.proofs.Operations.{fits}
use Rattle.tb_anf.proofs.Procs.{captured-free}
use Rattle.tb_anf.proofs.Scopes.{every-append, every-in, in-node}
use Rattle.tb_anf.proofs.Tasks.{Task, tasks, gathered, gathered-append, widths-tasks, numbers_of, numbers-append, tasks-stand, stand_in}
use Rattle.tb_anf.proofs.Variables.{body-nodes}

-- a task with this number among some
record Found (l : ℕ) (ts : List Task) : Type 0 where
  before : List Task
  task : Task
  after : List Task
  same : ts ≡ before ++ task ∷ after
  number : task.number ≡ l

found : (l : ℕ) (ts : List Task) → IsIn l (numbers_of ts) → Found l ts
found l [] i = absurd i
found l (t ∷ ts) (inl e) = record { before = []; task = t; after = ts; same = refl; number = e }
found l (t ∷ ts) (inr i) =
    let f = found l ts i in
    record { before = t ∷ f.before; task = f.task; after = f.after; same = ap (λ z. t ∷ z) f.same; number = f.number }

-- an element is taken out
apart_out : (xs : List ℕ) (x : ℕ) (ys : List ℕ) → IsApart (xs ++ x ∷ ys) → IsApart (xs ++ ys)
apart_out [] x ys h = h.1
apart_out (z ∷ xs) x ys h = (
  λ i. h.0 (⊎_elim (in-left z xs (x ∷ ys)) (λ j. in-right z xs (x ∷ ys) (inr j)) (in-either z xs ys i)),
  apart_out xs x ys h.1,
)

in_out : (xs : List ℕ) (x : ℕ) (ys : List ℕ) (y : ℕ) → (x ≡ y → ⊥) → IsIn y (xs ++ x ∷ ys) → IsIn y (xs ++ ys)
in_out xs x ys y ne i =
    ⊎_elim (in-left y xs ys) (λ j. ⊎_elim (λ e. absurd (ne e)) (in-right y xs ys) j) (in-either y xs (x ∷ ys) i)

-- the numbers of the tasks that are left, with those of the body of the one that is taken
regrouped : (a b : List Task) (t : Task) (ns ms : List ℕ) (us : List Task) → numbers_of us ≡ ns →
    numbers_of ((a ++ b) ++ us) ++ ms ≡ numbers_of a ++ (numbers_of b ++ (ns ++ ms))
regrouped a b t ns ms us e =
    ap (λ z. z ++ ms) (numbers-append (a ++ b) us)
    ∙ append_assoc (numbers_of (a ++ b)) (numbers_of us) ms
    ∙ ap (λ z. z ++ (numbers_of us ++ ms)) (numbers-append a b)
    ∙ append_assoc (numbers_of a) (numbers_of b) (numbers_of us ++ ms)
    ∙ ap (λ z. numbers_of a ++ (numbers_of b ++ (z ++ ms))) e

with_task : (a b : List Task) (t : Task) (ms : List ℕ) →
    numbers_of (a ++ t ∷ b) ++ ms ≡ numbers_of a ++ (t.number ∷ (numbers_of b ++ ms))
with_task a b t ms =
    ap (λ z. z ++ ms) (numbers-append a (t ∷ b)) ∙ append_assoc (numbers_of a) (t.number ∷ numbers_of b) ms

module _ (p : ProgramTree) (order : List Line) (rules : KeepsRules (2 ^ 31) p) (lines : IsOrderOf p order) where
  abbrev I : ℕ → List ℕ
  I = inner_free p

  abbrev lined : ℕ → Bool
  lined s = is_lined (line_of order s)

  abbrev own : ℕ → ℕ
  own = own_formals p order rules lines

  -- a lambda expression with so many variables in scope, among which are those that it names and those added to it
  pub record Wide (t : Task) : Type 0 where
    pub variables : List ℕ
    pub few : length variables ≤ t.scope
    pub free_there : (y : ℕ) → IsIn y (I t.number) → IsIn y variables
    pub added_there : (y : ℕ) → IsIn y (added_to p.set t.number) → IsIn y variables
    pub both : length (added_to p.set t.number) + length (captured p t.number) ≤ t.scope

  -- one that stands at a node
  wide_standing : (t : Task) → IsIn t.number (of_nodes standing_at (all_nodes p)) →
      FitTask I (single p order rules lines) t → Wide t
  wide_standing t i f =
      let e = not-lifted p order rules lines t.number i in
      let z = ap length e in
      let few = f.few in
      let le = no_longer (captured p t.number) f.variables (first_of-apart [] (I t.number))
      (λ y j. f.all y (captured-free p t.number y j)) in
      record {
        variables = f.variables;
        few = few;
        free_there = f.all;
        added_there = λ y j. absurd (subst (IsIn y) e j);
        both = omega arith;
      }

  -- what holds of all that nodes have
  of_all : (Q : ℕ → Type 0) (ds : List Tree) → Every (λ d. (l : ℕ) → IsIn l (standing_at (form_of d)) → Q l) ds →
      (l : ℕ) →
      IsIn l (of_nodes standing_at ds) → Q l
  of_all Q [] h l i = absurd i
  of_all Q (d ∷ ds) h l i =
      ⊎_elim (h.0 l) (of_all Q ds h.1 l) (in-either l (standing_at (form_of d)) (of_nodes standing_at ds) i)

  stands_there : (l : ℕ) (m : LambdaTree) → IsLambda p l m → (k : ℕ) → IsIn k (stand_in m.body) →
      IsIn k (of_nodes standing_at (all_nodes p))
  stands_there l m e k i =
      of_all (λ z. IsIn z (of_nodes standing_at (all_nodes p))) (K.nodes m.body)
      (body-nodes _ p (in-node standing_at (all_nodes p)) l m e) k i

  pub wide_all : (ts : List Task) → ((k : ℕ) → IsIn k (numbers_of ts) → IsIn k (of_nodes standing_at (all_nodes p))) →
      Every (FitTask I (single p order rules lines)) ts → Every Wide ts
  wide_all [] h f = tt
  wide_all (t ∷ ts) h f = (wide_standing t (h t.number (inl refl)) f.0, wide_all ts (λ k i. h k (inr i)) f.1)

  -- the lambda expressions in a body
  body_wide : (l : ℕ) (m : LambdaTree) → IsLambda p l m → (t : Task) → t.number ≡ l → Wide t →
      Every Wide (tasks (t.scope + length (parameters m)) m.body)
  body_wide l m e t q w =
      let s = t.scope + length (parameters m) in
      wide_all (tasks s m.body)
      (λ k i. stands_there l m e k (subst (IsIn k) (tasks-stand s m.body) i))
      (fit-tasks I (single p order rules lines) m.body s (parameters m ++ w.variables)
      (let few = w.few in let k = length-append (parameters m) w.variables in omega arith)
      (λ y i. within y i) (good-body p order rules lines l m e))
    where
      within : (y : ℕ) → IsIn y (free I m.body) → IsIn y (parameters m ++ w.variables)
      within y i =
          ⊎_elim
          (λ h. ⊎_elim (in-left y (parameters m) w.variables)
          (λ j. in-right y (parameters m) w.variables (w.added_there y (subst (λ z. IsIn y (added_to p.set z))
          (sym q) j)))
          (in-either y (parameters m) (added_to p.set l) (in-tested _ y h)))
          (λ h. in-right y (parameters m) w.variables (w.free_there y (subst (λ z. IsIn y (I z)) (sym q)
          (subst (IsIn y) (sym (inner p order rules lines l m e)) (in-without _ (free I m.body) y i h)))))
          (cases_Bool (is_in (parameters m ++ added_to p.set l) y))

  -- the proc of a lambda expression is no wider than its body
  proc_fits : (l n : ℕ) (m : LambdaTree) → IsLambda p l m → (t : Task) → t.number ≡ l → Wide t →
      W.proc_width (lambda_proc p (line_of order) l n m) ≤
      (t.scope + length (parameters m)) + nodes lined own m.body
  proc_fits l n m e t q w =
      let le : length (added_to p.set l) + length (captured p l) ≤ t.scope =
      subst (λ z. length (added_to p.set z) + length (captured p z) ≤ t.scope) q w.both in
      let a = length-append m.formals (option_list m.rest ++ added_to p.set l) in
      let b = length-append (option_list m.rest) (added_to p.set l) in
      let c = length-append m.formals (option_list m.rest) in
      let f = fits (line_of order) own m.body (body-nodes _ p (all-fit p order rules lines) l m e) n in
      omega arith

  abbrev pub stands : List LambdaTree → List ℕ
  stands ms = of_nodes standing_at (nodes_of_lambdas ms)

  stands_greater : (ms : List LambdaTree) (first l : ℕ) → InnerAreGreater first ms → IsIn l (stands ms) → first < l
  stands_greater [] first l h i = absurd i
  stands_greater (m ∷ ms) first l h i =
      ⊎_elim
      (λ j. every-in (λ z. first < z) (stand_in m.body) l h.0 j)
      (λ j. let lt = stands_greater ms (suc first) l h.1 j in omega arith)
      (in-either l (stand_in m.body) (stands ms)
      (subst (IsIn l) (of_nodes-append standing_at (K.nodes m.body) (nodes_of_lambdas ms)) i))

  -- the widths of lambda expressions from a number on, in the order of their numbers
  pub record Ordered (first n : ℕ) (ms : List LambdaTree) (ts : List Task) : Type 0 where
    pub widths_of : List ℕ
    pub same : (k : ℕ) → times k widths_of ≡ times k (gathered (lambdas_widths lined own ms first) ts)
    pub at_most : AreAtMost (map W.proc_width (lambda_procs p (line_of order) first n ms)) widths_of

  gathered_none : (first : ℕ) (ts : List Task) → gathered (lambdas_widths lined own [] first) ts ≡ []
  gathered_none first [] = refl
  gathered_none first (t ∷ ts) = gathered_none first ts

  gathered_later : (m : LambdaTree) (ms : List LambdaTree) (first : ℕ) (ts : List Task) →
      ((l : ℕ) → IsIn l (numbers_of ts) → first ≡ l → ⊥) →
      gathered (lambdas_widths lined own (m ∷ ms) first) ts ≡ gathered (lambdas_widths lined own ms (suc first)) ts
  gathered_later m ms first [] h = refl
  gathered_later m ms first (t ∷ ts) h =
      rw (ne_eqb first t.number (h t.number (inl refl)))
      (ap (λ z. lambdas_widths lined own ms (suc first) t.number t.scope ++ z)
      (gathered_later m ms first ts (λ l i. h l (inr i))))

  gathered_first : (m : LambdaTree) (ms : List LambdaTree) (first : ℕ) (t : Task) → t.number ≡ first →
      lambdas_widths lined own (m ∷ ms) first t.number t.scope ≡
      ((t.scope + length (parameters m)) + nodes lined own m.body) ∷
      gathered (lambdas_widths lined own ms (suc first)) (tasks (t.scope + length (parameters m)) m.body)
  gathered_first m ms first t q =
      rw (eq-eqb first t.number (sym q))
      (ap (λ z. ((t.scope + length (parameters m)) + nodes lined own m.body) ∷ z)
      (widths-tasks lined own (lambdas_widths lined own ms (suc first)) (t.scope + length (parameters m)) m.body))

  -- one lambda expression is taken out of the tasks, and those in its body are put in
  module _ (m : LambdaTree) (ms : List LambdaTree) (first : ℕ) (a b : List Task) (t : Task) (q : t.number ≡ first)
      (ap_all : IsApart (numbers_of a ++ (t.number ∷ (numbers_of b ++ (stand_in m.body ++ stands ms))))) where
    abbrev now : ℕ → ℕ → List ℕ
    now = lambdas_widths lined own (m ∷ ms) first

    abbrev later : ℕ → ℕ → List ℕ
    later = lambdas_widths lined own ms (suc first)

    abbrev own_width : ℕ
    own_width = (t.scope + length (parameters m)) + nodes lined own m.body

    abbrev inside : List Task
    inside = tasks (t.scope + length (parameters m)) m.body

    before_same : gathered now a ≡ gathered later a
    before_same = gathered_later m ms first a
        (λ l i e. apart-both (numbers_of a) _ l ap_all i (inl (q ∙ e)))

    after_same : gathered now b ≡ gathered later b
    after_same = gathered_later m ms first b
        (λ l i e. (apart-right (numbers_of a) _ ap_all).0
        (in-left t.number (numbers_of b) _ (subst (λ z. IsIn z (numbers_of b)) (sym (q ∙ e)) i)))

    taken-times : (k : ℕ) → times k (gathered now (a ++ t ∷ b)) ≡
        times k (own_width ∷ gathered later ((a ++ b) ++ inside))
    taken-times k =
        let e1 = ap (times k) (gathered-append now a (t ∷ b)) ∙ times-append k (gathered now a) _ in
        let e2 = times-append k (now t.number t.scope) (gathered now b) in
        let e3 = ap (times k) (gathered_first m ms first t q) in
        let e4 = ap (times k) before_same in
        let e5 = ap (times k) after_same in
        let e6 = ap (times k) (gathered-append later (a ++ b) inside) ∙ times-append k (gathered later (a ++ b)) _ in
        let e7 = ap (times k) (gathered-append later a b) ∙ times-append k (gathered later a) _ in
        omega arith

  pub ordered : (ms : List LambdaTree) (first n : ℕ) (ts : List Task) →
      ((i : ℕ) (m : LambdaTree) → slice_get ms i ≡ Some m → IsLambda p (first + i) m) → InnerAreGreater first ms →
      IsApart (numbers_of ts ++ stands ms) →
      ((l : ℕ) → first ≤ l → l < first + length ms → IsIn l (numbers_of ts ++ stands ms)) → Every Wide ts →
      Ordered first n ms ts
  ordered [] first n ts ix gr ap_ts cov w = record {
    widths_of = [];
    same = λ k. ap (times k) (sym (gathered_none first ts));
    at_most = tt;
  }
  ordered (m ∷ ms) first n ts ix gr ap_ts cov w =
      let f = found first ts (⊎_elim (λ i. i)
      (λ i. let lt = stands_greater (m ∷ ms) first first gr i in absurd (omega arith))
      (in-either first (numbers_of ts) (stands (m ∷ ms)) (cov first (omega arith) (omega arith)))) in
      let a = f.before in
      let b = f.after in
      let t = f.task in
      let z : first + 0 ≡ first = omega arith in
      let e : IsLambda p first m = subst (λ k. IsLambda p k m) z (ix 0 m refl) in
      let wt = subst (Every Wide) f.same w in
      let wr = every-right Wide a (t ∷ b) wt in
      let us = tasks (t.scope + length (parameters m)) m.body in
      let rest = (a ++ b) ++ us in
      let was : numbers_of ts ++ stands (m ∷ ms) ≡
      numbers_of a ++ (t.number ∷ (numbers_of b ++ (stand_in m.body ++ stands ms))) =
      ap (λ k. numbers_of k ++ stands (m ∷ ms)) f.same ∙ with_task a b t (stands (m ∷ ms))
      ∙ ap (λ k. numbers_of a ++ (t.number ∷ (numbers_of b ++ k)))
      (of_nodes-append standing_at (K.nodes m.body) (nodes_of_lambdas ms)) in
      let is_now = regrouped a b t (stand_in m.body) (stands ms) us
      (tasks-stand (t.scope + length (parameters m)) m.body) in
      let ap_all = subst IsApart was ap_ts in
      let h = ordered ms (suc first) (n + size m.body) rest
      (λ i k g. let s : first + suc i ≡ suc first + i = omega arith in subst (λ l. IsLambda p l k) s (ix (suc i) k g))
      gr.1 (subst IsApart (sym is_now) (apart_out (numbers_of a) t.number _ ap_all))
      (λ l le lt. subst (IsIn l) (sym is_now)
      (in_out (numbers_of a) t.number _ l (λ g. let k = f.number in absurd (omega arith))
      (subst (IsIn l) was (cov l (omega arith) (omega arith)))))
      (every-append Wide (a ++ b) us (every-append Wide a b (every-left Wide a (t ∷ b) wt) wr.1)
      (body_wide first m e t f.number wr.0)) in
      record {
        widths_of = ((t.scope + length (parameters m)) + nodes lined own m.body) ∷ h.widths_of;
        same = λ k.
            let g = h.same k in
            let c = ap (λ ks. times k (gathered (lambdas_widths lined own (m ∷ ms) first) ks)) f.same
            ∙ taken-times m ms first a b t f.number ap_all k in
            omega arith;
        at_most = (proc_fits first n m e t f.number wr.0, h.at_most);
      }
