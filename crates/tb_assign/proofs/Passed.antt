-- What calls pass, what lambda expressions take, and constants, with cells.
use Rattle.std.proofs.Common.{◌≡◌, refl, sym, ap, ◌∙◌, subst, ℕ, suc, ◌≤◌, arith, Bool, true, false, List, [], ◌∷◌, ◌++◌, length}
use Rattle.tb_prim.specs.declared.constant.Const.{Const}
use Rattle.tb_prim.specs.declared.place.Place.{Place}
use Rattle.tb_core.specs.Limits.{FewOperands, FewParameters}
use Rattle.tb_core.specs.Rules.{Every, Each, EachAll, KeepsRules}
use Rattle.tb_core.specs.Tree.{Form, Quote, Local, Global, Lambda, If, SetLocal, SetGlobal, DefGlobal, Let, Letrec, Seq, Call, PrimUse, Apply, LambdaTree, ProgramTree, parameters}
use Rattle.tb_core.specs.FreeVariables.{is_assigned}
use Rattle.tb_ir.specs.FreeVariables as F
use Rattle.tb_ir.specs.Passed.{passed_at, quoted}
use Rattle.tb_ir.specs.Rules.{all_nodes, form_of, nodes_of, of_nodes}
use Rattle.tb_ir.specs.Tree as C
use Rattle.tb_assign.specs.Constants.{Passes}
use Rattle.tb_assign.specs.Eliminate.{celled, renamed, new_cells, eliminate, eliminate_lambdas, let_site, body_site, cells_of}
use Rattle.tb_assign.proofs.Free.{renamed-parameters}
use Rattle.tb_assign.proofs.Lines.{count-all}
use Rattle.tb_assign.proofs.NodesKept.{Makes, Reads, StandsFor, every-append, everywhere, renamed-count}

-- what holds of a form of the source and of all forms that elimination makes holds with cells
module _ (Q : C.Form → Type 0) (made_name : (x : ℕ) → Q (C.Local x)) (made_cell : (e : C.Tree) → Q (C.NewCell e))
    (made_let : (xs : List ℕ) (es : C.Trees) (e : C.Tree) → Q (C.Let xs es e)) where
  abbrev OfNode : C.Tree → Type 0
  OfNode e = Q (form_of e)

  cells_hold : (g : ℕ → Bool) (q : Place) (xs : List ℕ) → Every OfNode (nodes_of (new_cells g q xs))
  cells_hold g q [] = tt
  cells_hold g q (x ∷ xs) = (made_cell _, (made_name _, cells_hold g q xs))

  makes_hold : (g : ℕ → Bool) (q : Place) (s : ℕ) (xs : List ℕ) (e : C.Tree) → Makes OfNode g q s xs e
  makes_hold g q s [] e = tt
  makes_hold g q s (x ∷ xs) e = (made_let _ _ _, cells_hold g q (x ∷ xs))

-- a call passes as many operands with cells
abbrev pub Few : C.Tree → Type 0
Few e = C.count (passed_at (form_of e)) ≤ 12

module _ (g : ℕ → Bool) where
  few_reads : (q : Place) (s x : ℕ) (b : Bool) → Reads Few g q s x b
  few_reads q s x true = (omega arith, omega arith)
  few_reads q s x false = omega arith

  few_stand : (q : Place) (s : ℕ) (f : Form) → FewOperands f → StandsFor Few g q s f
  few_stand q s (Quote c) h = omega arith
  few_stand q s (Local x) h = few_reads q s x (g x)
  few_stand q s (Global n) h = omega arith
  few_stand q s (Lambda l) h = omega arith
  few_stand q s (If a b c) h = omega arith
  few_stand q s (SetLocal x e) h = (omega arith, omega arith)
  few_stand q s (SetGlobal n e) h = omega arith
  few_stand q s (DefGlobal n e) h = omega arith
  few_stand q s (Let xs es e) h = (
    omega arith,
    makes_hold (λ f. C.count (passed_at f) ≤ 12) (λ x. omega arith) (λ d. omega arith) (λ ys ds d. omega arith) g q (let_site s)
        (celled g xs) (eliminate g e),
  )
  few_stand q s (Letrec xs ls e) h = omega arith
  few_stand q s (Seq es) h = omega arith
  few_stand q s (Call f es) h = let c = count-all g es in omega arith
  few_stand q s (PrimUse a es) h = omega arith
  few_stand q s (Apply f l) h = omega arith

pub few-operands : (p : ProgramTree) → KeepsRules p → EachAll (λ s f. FewOperands f) p.forms →
    Every (λ (l : LambdaTree). Each (λ s f. FewOperands f) l.body) p.lambdas → Every Few (all_nodes (cells_of p))
few-operands p r f b =
    everywhere p r (λ s k. FewOperands k) Few (few_stand (is_assigned p))
    (λ q n xs e lt sm v. makes_hold (λ k. C.count (passed_at k) ≤ 12) (λ x. omega arith) (λ d. omega arith) (λ ys ds d. omega arith)
    (is_assigned p) q (body_site n) xs e) f b

renamed_length : (g : ℕ → Bool) (xs : List ℕ) → length (renamed g xs) ≡ length xs
renamed_length g [] = refl
renamed_length g (x ∷ xs) = ap suc (renamed_length g xs)

few_each : (g : ℕ → Bool) (n : ℕ) (ls : List LambdaTree) → Every FewParameters ls →
    Every (λ (l : C.LambdaTree). length (F.parameters l) ≤ 12) (eliminate_lambdas g n ls)
few_each g n [] h = tt
few_each g n (l ∷ ls) h =
    let c : length (renamed g (parameters l)) ≡ length (parameters l) = renamed_length g (parameters l) in
    let e = ap length (renamed-parameters g n l) in let few = h.0 in (omega arith, few_each g (suc n) ls h.1)

pub few-parameters : (p : ProgramTree) → Every FewParameters p.lambdas →
    Every (λ (l : C.LambdaTree). length (F.parameters l) ≤ 12) (cells_of p).lambdas
few-parameters p h = few_each (is_assigned p) 0 p.lambdas h

-- a constant with cells is one of the source
module _ (test : Const → Bool) where
  abbrev Good : C.Form → Type 0
  Good f = Every (λ (c : Const). test c ≡ true) (quoted f)

  abbrev GoodNode : C.Tree → Type 0
  GoodNode e = Good (form_of e)

  good_reads : (g : ℕ → Bool) (q : Place) (s x : ℕ) (b : Bool) → Reads GoodNode g q s x b
  good_reads g q s x true = (tt, tt)
  good_reads g q s x false = tt

  good_stand : (g : ℕ → Bool) (q : Place) (s : ℕ) (f : Form) → Passes test f → StandsFor GoodNode g q s f
  good_stand g q s (Quote c) h = (h, tt)
  good_stand g q s (Local x) h = good_reads g q s x (g x)
  good_stand g q s (Global n) h = tt
  good_stand g q s (Lambda l) h = tt
  good_stand g q s (If a b c) h = tt
  good_stand g q s (SetLocal x e) h = (tt, tt)
  good_stand g q s (SetGlobal n e) h = tt
  good_stand g q s (DefGlobal n e) h = tt
  good_stand g q s (Let xs es e) h =
      (tt, makes_hold Good (λ x. tt) (λ d. tt) (λ ys ds d. tt) g q (let_site s) (celled g xs) (eliminate g e))
  good_stand g q s (Letrec xs ls e) h = tt
  good_stand g q s (Seq es) h = tt
  good_stand g q s (Call f es) h = tt
  good_stand g q s (PrimUse a es) h = tt
  good_stand g q s (Apply f l) h = tt

  gathered : (es : List C.Tree) → Every GoodNode es → Every (λ (c : Const). test c ≡ true) (of_nodes quoted es)
  gathered [] h = tt
  gathered (e ∷ es) h = every-append (λ (c : Const). test c ≡ true) (quoted (form_of e)) (of_nodes quoted es) h.0 (gathered es h.1)

pub constants-stay : (p : ProgramTree) (test : Const → Bool) → KeepsRules p → EachAll (λ s f. Passes test f) p.forms →
    Every (λ (l : LambdaTree). Each (λ s f. Passes test f) l.body) p.lambdas →
    Every (λ (c : Const). test c ≡ true) (of_nodes quoted (all_nodes (cells_of p)))
constants-stay p test r f b =
    gathered test (all_nodes (cells_of p))
    (everywhere p r (λ s k. Passes test k) (GoodNode test) (good_stand test (is_assigned p))
    (λ q n xs e lt sm v. makes_hold (Good test) (λ x. tt) (λ d. tt) (λ ys ds d. tt) (is_assigned p) q (body_site n) xs e) f b)
