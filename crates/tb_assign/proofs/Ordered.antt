-- The order of the source is an order of a program with cells: each of its nodes goes by a line with the number of
-- each operand once, and a `let` that makes cells has no line.
use Rattle.std.proofs.Common.{◌≡◌, refl, sym, ap, ◌∙◌, subst, ℕ, suc, ◌+◌, ◌^◌, ◌<◌, ◌≤◌, ⊎_elim, arith, Bool, true, false, cond, ◌==◌, List, [], ◌∷◌, ◌++◌, Option, Some, eqb-true}
use Rattle.std.proofs.lemmas.Bool.{cases_Bool}
use Rattle.std.proofs.lemmas.Option.{same_Some}
use Rattle.tb_prim.specs.declared.place.Place.{Place}
use Rattle.tb_core.specs.Tree.{Form, Local, SetLocal, Let, Call, PrimUse, Apply, Trees, none, more, count, LambdaTree, ProgramTree}
use Rattle.tb_core.specs.FreeVariables.{is_assigned}
use Rattle.tb_core.specs.OperandOrder.{Line, HasLine, has_order, operands, is_simple, numbers, line_of, line_at, order_of}
use Rattle.tb_core.specs.Rules.{Every, Each, KeepsRules}
use Rattle.tb_core.proofs.Kept as Both
use Rattle.tb_core.proofs.Lines.{line-within, line-all}
use Rattle.tb_core.proofs.Numbers.{forms-have-lines, bodies-have-lines}
use Rattle.tb_ir.specs.Tree as C
use Rattle.tb_ir.specs.TreeMachine as T
use Rattle.tb_ir.specs.Rules as K
use Rattle.tb_ir.specs.Rules.{IsPermutation, HasPermutation, times}
use Rattle.tb_ir.specs.Width.{is_lined}
use Rattle.tb_assign.specs.Eliminate.{celled, new_cells, eliminate, eliminate_all, let_site, body_site, cells_of}
use Rattle.tb_assign.proofs.AllNamed.{all-named}
use Rattle.tb_assign.proofs.Counts.{one_if, times-append, times-apart}
use Rattle.tb_assign.proofs.Lines.{count-all}
use Rattle.tb_assign.proofs.NodesKept.{StandsFor, Makes, Reads, each_lambda, everywhere}
use Rattle.tb_assign.proofs.OwnLines.{lines-enough}
use Rattle.tb_assign.proofs.ReadyFrom.{ready-from}
use Rattle.tb_assign.proofs.Widths.{FitHere, enough, bodies-lined, forms_fit, bodies_fit}

-- the line of some operands has the number of each once
module _ (a : ℕ → Bool) (z : ℕ) where
  abbrev both : ℕ → Trees → ℕ
  both n es = times z (numbers a false n es) + times z (numbers a true n es)

  own_once : (c : Bool) (n : ℕ) (xs ys : List ℕ) →
      times z (cond c [] (n ∷ []) ++ xs) + times z (cond c (n ∷ []) [] ++ ys) ≡ one_if (n == z) + (times z xs + times z ys)
  own_once true n xs ys = omega arith
  own_once false n xs ys = omega arith

  numbers_once : (n : ℕ) (es : Trees) → (both n es ≤ 1) × (z < n → both n es ≡ 0)
  numbers_once n none = (omega arith, λ h. refl)
  numbers_once n (more e es) =
      let r = numbers_once (suc n) es in let r0 = r.0 in
      let o = own_once (is_simple a e) n (numbers a false (suc n) es) (numbers a true (suc n) es) in
      ⊎_elim
      (λ t. let v : one_if (n == z) ≡ 1 = ap one_if t in let e = eqb-true n z t in let i = r.1 (omega arith) in
      (omega arith, λ lt. absurd (omega arith)))
      (λ f. let v : one_if (n == z) ≡ 0 = ap one_if f in (omega arith, λ lt. let i = r.1 (omega arith) in omega arith))
      (cases_Bool (n == z))

line_permutes : (a : ℕ → Bool) (es : Trees) → IsPermutation (line_of a es) (count es)
line_permutes a es = record {
  apart = times-apart (line_of a es) (λ z.
      let v = times-append z (numbers a false 0 es) (numbers a true 0 es) in let o = (numbers_once a z 0 es).0 in omega arith);
  within = line-within a es;
  full = line-all a es;
}

-- the line of a site, however the order is read
read_first : (o : List ℕ) (rest : Option (List ℕ)) (at : List ℕ) (b : Bool) → is_lined (cond b (Some o) rest) ≡ true →
    (is_lined rest ≡ true → rest ≡ Some at) → cond b (Some o) rest ≡ Some (cond b o at)
read_first o rest at true l h = refl
read_first o rest at false l h = h l

read_line : (ls : List Line) (s : ℕ) → is_lined (T.line_of ls s) ≡ true → T.line_of ls s ≡ Some (line_at ls s)
read_line [] s h = cc
read_line (l ∷ ls) s h = read_first l.order (T.line_of ls s) (line_at ls s) (l.site == s) h (read_line ls s)

module _ (p : ProgramTree) (r : KeepsRules p) where
  abbrev g : ℕ → Bool
  g = is_assigned p

  abbrev Lined : C.Tree → Type 0
  Lined e = K.HasLine (order_of p) [] (cells_of p).lambdas e

  abbrev P : ℕ → Form → Type 0
  P s f = HasLine p s f × FitHere p r s f

  line_is : (s : ℕ) (f : Form) → P s f → has_order f ≡ true → T.line_of (order_of p) s ≡ Some (line_of g (operands f))
  line_is s f h o = read_line (order_of p) s ((h.1).0 o) ∙ ap (λ l. Some l) (h.0 o)

  permuted : (s n : ℕ) (f : Form) → P s f → has_order f ≡ true → count (operands f) ≡ n → HasPermutation (T.line_of (order_of p) s) n
  permuted s n f h o e = subst (λ l. HasPermutation l n) (sym (line_is s f h o)) (subst (IsPermutation (line_of g (operands f))) e (line_permutes g (operands f)))

  lined_cells : (q : Place) (xs : List ℕ) → Every Lined (K.nodes_of (new_cells g q xs))
  lined_cells q [] = tt
  lined_cells q (x ∷ xs) = (λ o. cc, (λ o. cc, lined_cells q xs))

  makes_lined : (q : Place) (s : ℕ) (xs : List ℕ) (e : C.Tree) → 2 ^ 24 ≤ s → Makes Lined g q s xs e
  makes_lined q s [] e le = tt
  makes_lined q s (x ∷ xs) e le =
      (λ line h. let n = (ready-from p r (all-named p r)).lines_small s le in cc, lined_cells q (x ∷ xs))

  reads_lined : (q : Place) (s x : ℕ) (b : Bool) → Reads Lined g q s x b
  reads_lined q s x true = (λ o. cc, λ o. cc)
  reads_lined q s x false = λ o. cc

  stands_lined : (q : Place) (s : ℕ) (f : Form) → P s f → StandsFor Lined g q s f
  stands_lined q s (Local x) h = reads_lined q s x (g x)
  stands_lined q s (SetLocal x e) h = (λ o. cc, λ o. cc)
  stands_lined q s (Let xs es e) h = (
    λ line i. subst (λ l. IsPermutation l (C.count (eliminate_all g es))) (same_Some _ line (sym (line_is s (Let xs es e) h refl) ∙ i))
        (subst (IsPermutation (line_of g es)) (sym (count-all g es)) (line_permutes g es)),
    makes_lined q (let_site s) (celled g xs) (eliminate g e) (omega arith),
  )
  stands_lined q s (Call f es) h = λ o. permuted s _ (Call f es) h refl (ap (λ n. 1 + n) (sym (count-all g es)))
  stands_lined q s (PrimUse a es) h = λ o. permuted s _ (PrimUse a es) h refl (sym (count-all g es))
  stands_lined q s (Apply f l) h = λ o. permuted s _ (Apply f l) h refl refl
  stands_lined q s f h = λ o. cc

  pub is-order : K.IsOrderOf (cells_of p) (order_of p)
  is-order = everywhere p r P Lined stands_lined (λ q n xs e lt sm m. makes_lined q (body_site n) xs e (omega arith))
      (Both.both_all (HasLine p) (FitHere p r) p.forms (forms-have-lines p r) (forms_fit p r))
      (bodies_all p.lambdas (each_lambda p r (λ l. Each (HasLine p) l.body) p.lambdas (λ n l e. bodies-have-lines p r n l e))
      (bodies_fit p r p.lambdas r.lambdas (bodies-lined (enough p r) p.lambdas (λ w. let h = lines-enough p w r in omega arith))))
    where
      bodies_all : (ls : List LambdaTree) → Every (λ (l : LambdaTree). Each (HasLine p) l.body) ls → Every (λ (l : LambdaTree). Each (FitHere p r) l.body) ls →
          Every (λ (l : LambdaTree). Each P l.body) ls
      bodies_all [] h k = tt
      bodies_all (l ∷ ls) h k = (Both.both (HasLine p) (FitHere p r) l.body h.0 k.0, bodies_all ls h.1 k.1)
