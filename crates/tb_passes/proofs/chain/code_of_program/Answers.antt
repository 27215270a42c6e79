use Rattle.std.proofs.Common.{◌≡◌, ◌^◌, ◌∙◌, List, IfOk, map, sym, ap, subst, lit≤}
use Rattle.tb_core.specs.OperandOrder.{Line, order_of}
use Rattle.tb_core.specs.Order.{view_line}
use Rattle.tb_core.specs.View.{view_program}
use Rattle.tb_ir.specs.AnfTree.{AnfTree}
use Rattle.tb_ir.specs.Rules.{IsOrderOf, KeepsRules}
use Rattle.tb_ir.specs.Tree.{ProgramTree}
use Rattle.tb_ir.specs.View.{view_anf}
use Rattle.tb_mac.specs.CodeOf.{code_of}
use Rattle.tb_assign.specs.Eliminate.{cells_of}
use Rattle.tb_anf.specs.NormalForm.{normal_form}
use Rattle.tb_codegen.specs.PlainCode as plain
use Rattle.tb_passes.specs.Passes.{anf_of}
use Rattle.tb_passes.proofs.Limits.{rules-more}
use Rattle.tb_passes.proofs.chain.code_of_program.Goals as goal

pub none_lifted-lifted-requires : goal.none_lifted-lifted-requires
none_lifted-lifted-requires c =
    let p = view_program c.args.program.now in
    subst (KeepsRules (2 ^ 31)) (sym c.in_ok-cells.ensures.cells)
    (rules-more (2 ^ 27) (2 ^ 31) (cells_of p) (lit≤ tt) (c.rules_keep.ensures.rules p c.requires.rules))

pub normalise-requires : goal.normalise-requires
normalise-requires c =
    subst (λ (q : ProgramTree). IsOrderOf q (map view_line c.in_ok-order.order)) (sym c.none_lifted-lifted.ensures)
    c.in_ok-cells.ensures.is_order

-- the program in A-normal form is that of the definition
same_anf : (p : _) (lifted : ProgramTree) (order : List Line) (anf : AnfTree) → anf ≡ normal_form lifted order →
    lifted ≡ cells_of p → order ≡ order_of p → anf ≡ anf_of p
same_anf p lifted order anf e f g = e ∙ ap (λ q. normal_form q order) f ∙ ap (normal_form (cells_of p)) g

pub returns : goal.returns
returns c =
    subst (λ (q : AnfTree). IfOk c.generate.result (λ code. code_of code ≡ plain.code_of q))
    (same_anf (view_program c.args.program.now) _ _ (view_anf c.in_ok-anf.anf) c.in_ok-anf.ensures.normal
    (c.none_lifted-lifted.ensures ∙ c.in_ok-cells.ensures.cells) c.in_ok-order.ensures)
    c.generate.ensures.code
