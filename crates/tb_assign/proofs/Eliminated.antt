-- A program with cells, from its parts.
use Rattle.std.proofs.Common.{◌≡◌, sym, ap, ◌∙◌, subst, ℕ, ◌^◌, Bool, List, [], map}
use Rattle.std.proofs.Math.Path.{fun_ext}
use Rattle.tb_prim.specs.declared.constant.Static.{Static}
use Rattle.tb_prim.specs.declared.constant.GlobalName.{GlobalName}
use Rattle.tb_semantics.specs.Keeps.{Keeps}
use Rattle.tb_core.specs.Measures.{reference_measured}
use Rattle.tb_core.specs.OperandOrder.{Line, order_of}
use Rattle.tb_core.specs.FreeVariables.{is_assigned}
use Rattle.tb_core.specs.Plain as code
use Rattle.tb_core.specs.Rules.{KeepsRules}
use Rattle.tb_core.specs.Tree.{ProgramTree}
use Rattle.tb_core.specs.View.{view_program}
use Rattle.tb_core.specs.Width as core
use Rattle.tb_core.specs.calls.Marks.{is_marked}
use Rattle.tb_core.specs.declared.expr.Expr.{Expr}
use Rattle.tb_core.specs.declared.program.Lambda.{Lambda}
use Rattle.tb_core.specs.declared.program.Program.{Program}
use Rattle.tb_ir.specs.Measures.{tree_measured}
use Rattle.tb_ir.specs.Plain.{trees, view, view_lambda, plain_program}
use Rattle.tb_ir.specs.Rules as K
use Rattle.tb_ir.specs.Tree as C
use Rattle.tb_ir.specs.Width.{all_widths}
use Rattle.tb_ir.specs.declared.cells.CellExpr.{CellExpr}
use Rattle.tb_ir.specs.declared.cells.CellLambda.{CellLambda}
use Rattle.tb_assign.specs.Eliminate.{eliminate_all, eliminate_lambdas, cells_of}
use Rattle.tb_assign.proofs.AllNamed.{all-named}
use Rattle.tb_assign.proofs.Ordered.{is-order}
use Rattle.tb_assign.proofs.ReadyFrom.{ready-from}
use Rattle.tb_assign.proofs.RulesKept.{rules-kept}
use Rattle.tb_assign.proofs.Whole.{cells-keep}
use Rattle.tb_assign.proofs.Widths.{same-widths}

abbrev whole : List GlobalName → List Static → List C.LambdaTree → C.Trees → C.ProgramTree
whole globals statics lambdas forms = record { globals = globals; statics = statics; lambdas = lambdas; forms = forms; set = [] }

-- the parts that the code makes, each from a part of the source
pub from-code : (p : Program) (marks table : List Bool) (names : List GlobalName) (objects : List Static) (ls : List Lambda) (es : List Expr)
    (globals : List GlobalName) (statics : List Static) (lambdas : List CellLambda) (forms : List CellExpr) →
    marks ≡ table → ((x : ℕ) → is_marked table x ≡ is_assigned (view_program p) x) →
    names ≡ p.globals → objects ≡ p.statics → ls ≡ p.lambdas → es ≡ p.forms → globals ≡ names → statics ≡ objects →
    map view_lambda lambdas ≡ eliminate_lambdas (is_marked marks) 0 (map code.view_lambda ls) →
    trees (map view forms) ≡ eliminate_all (is_marked marks) (code.trees (map code.view es)) →
    plain_program globals statics lambdas forms [] ≡ cells_of (view_program p)
from-code p marks table names objects ls es globals statics lambdas forms m t n o k e g s l f =
    let q = view_program p in
    let same : is_marked marks ≡ is_assigned q = ap is_marked m ∙ fun_ext t in
    ap (λ gs. whole gs statics (map view_lambda lambdas) (trees (map view forms))) (g ∙ n)
    ∙ ap (λ ss. whole q.globals ss (map view_lambda lambdas) (trees (map view forms))) (s ∙ o)
    ∙ ap (λ ks. whole q.globals q.statics ks (trees (map view forms)))
    (l ∙ ap (λ (ks : List Lambda). eliminate_lambdas (is_marked marks) 0 (map code.view_lambda ks)) k ∙ ap (λ (b : ℕ → Bool). eliminate_lambdas b 0 q.lambdas) same)
    ∙ ap (λ ds. whole q.globals q.statics (cells_of q).lambdas ds)
    (f ∙ ap (λ (ds : List Expr). eliminate_all (is_marked marks) (code.trees (map code.view ds))) e ∙ ap (λ (b : ℕ → Bool). eliminate_all b q.forms) same)

pub rules-at : (p : ProgramTree) (cells : C.ProgramTree) → KeepsRules p → cells ≡ cells_of p → K.KeepsRules (2 ^ 27) cells
rules-at p cells r same = subst (λ c. K.KeepsRules (2 ^ 27) c) (sym same) (rules-kept p r)

-- what holds of a program with cells, whose order is that of its source
module _ (p : ProgramTree) (r : KeepsRules p) (cells : C.ProgramTree) (order : List Line) (same : cells ≡ cells_of p) (own : order ≡ order_of p) where
  pub keeps-at : (input : List ℕ) → Keeps (tree_measured cells order input) (reference_measured p order input) 0
  keeps-at input =
      subst (λ c. Keeps (tree_measured c order input) (reference_measured p order input) 0) (sym same)
      (subst (λ o. Keeps (tree_measured (cells_of p) o input) (reference_measured p o input) 0) (sym own) (cells-keep p input r (ready-from p r (all-named p r))))

  pub order-at : K.IsOrderOf cells order
  order-at = subst (λ c. K.IsOrderOf c order) (sym same) (subst (λ o. K.IsOrderOf (cells_of p) o) (sym own) (is-order p r))

  pub widths-at : all_widths cells order ≡ core.all_widths p
  widths-at = ap (λ c. all_widths c order) same ∙ ap (λ o. all_widths (cells_of p) o) own ∙ same-widths p r
