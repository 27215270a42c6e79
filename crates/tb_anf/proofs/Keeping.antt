-- A program in A-normal form keeps its source.
use Rattle.std.proofs.Common.{ℕ, ◌^◌, false, List, [], ◌∷◌, map}
use Rattle.tb_prim.specs.declared.constant.Static.{Static}
use Rattle.tb_semantics.specs.Keeps.{Keeps}
use Rattle.tb_semantics.proofs.Simulation.{keeps_from}
use Rattle.tb_core.specs.OperandOrder.{Line}
use Rattle.tb_core.specs.Store.{Unspecified}
use Rattle.tb_ir.specs.Tree.{ProgramTree}
use Rattle.tb_ir.specs.Machine.{static_item}
use Rattle.tb_ir.specs.Measures.{tree_measured, anf_measured}
use Rattle.tb_ir.specs.Rules.{KeepsRules, IsOrderOf}
use Rattle.tb_ir.specs.TreeMachine as T
use Rattle.tb_ir.specs.TreeMachine.{line_of}
use Rattle.tb_ir.proofs.OwnSteps.{tree-steps}
use Rattle.tb_ir.proofs.Steps.{in-order}
use Rattle.tb_anf.specs.NormalForm.{normal_form}
use Rattle.tb_anf.proofs.Bodies.{inner, closed, form-sound, body-sound}
use Rattle.tb_anf.proofs.Calls.{Calls}
use Rattle.tb_anf.proofs.Moves.{pending}
use Rattle.tb_anf.proofs.Rel.{top}
use Rattle.tb_anf.proofs.Shape.{alike}
use Rattle.tb_anf.proofs.States as S
use Rattle.tb_anf.proofs.States.{Related, Stored}
use Rattle.tb_anf.proofs.WholeSteps.{turns}
use Rattle.tb_anf.proofs.Turns.{taken, fewer}
use Rattle.tb_anf.proofs.Weights.{state_weight}

statics-stored : (p : ProgramTree) (order : List Line) (ss : List Static) →
    Stored (T.context_of p order) (Calls p) (map static_item ss)
statics-stored p order [] = tt
statics-stored p order (s ∷ ss) = (tt, statics-stored p order ss)

pub normal-form-keeps : (p : ProgramTree) (order : List Line) (input : List ℕ) → KeepsRules (2 ^ 31) p →
    IsOrderOf p order → Keeps (anf_measured (normal_form p order) input) (tree_measured p order input) 0
normal-form-keeps p order input rules lines =
    keeps_from (anf_measured (normal_form p order) input) (tree_measured p order input) 0 (record {
      R = Related p order (taken p order input);
      size_t = pending;
      size_s = state_weight (line_of order);
      starts = S.returns _ Unspecified (top false 0) (statics-stored p order p.statics);
      moves = turns p order input (λ l m e g n. body-sound p order rules lines l m e g n) (inner p order rules lines)
          (form-sound p order rules lines) (closed p order rules lines);
      alike = alike p order (fewer p order input) input;
      in_order = in-order (T.language p order) (tree-steps p order) p.globals p.statics input;
    })
