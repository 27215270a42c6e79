-- The machine of values with what its states hold, which is what a pass keeps.
use Rattle.std.specs.Prelude.{ℕ, false, List, length}
use Rattle.tb_prim.specs.declared.constant.Static.{Static}
use Rattle.tb_prim.specs.declared.constant.GlobalName.{GlobalName}
use Rattle.tb_prim.specs.declared.event.Event.{Event}
use Rattle.tb_semantics.specs.Keeps.{Shape, Measured}
use Rattle.tb_core.specs.OperandOrder.{Line}
use Rattle.tb_ir.specs.Tree.{ProgramTree}
use Rattle.tb_ir.specs.AnfTree.{AnfTree}
use Rattle.tb_ir.specs.Machine.{Language, State, machine_of}
use Rattle.tb_ir.specs.TreeMachine as T
use Rattle.tb_ir.specs.AnfMachine as N
use Rattle.tb_ir.specs.Space.{frames_of, closures_of, words_of, made_of}

-- what a state holds, where so many objects are static
abbrev pub shape_of : {C W : Type 0} → Language C W → ℕ → State C W → Shape
shape_of x statics s = record { frames = frames_of s; closures = closures_of x statics s; words = words_of x statics s }

-- the machine has no memory that fills
abbrev pub measured_of : {C W : Type 0} → Language C W → List GlobalName → List Static → List ℕ →
    Measured Event (State C W)
measured_of x globals statics input = record {
  machine = machine_of x globals statics input;
  shape = shape_of x (length statics);
  made = made_of;
  is_full = λ s. false;
}

-- a program with cells, or with lambda expressions that are lifted, under an order, with the input
abbrev pub tree_measured : ProgramTree → List Line → List ℕ → Measured Event T.TreeState
tree_measured p order input = measured_of (T.language p order) p.globals p.statics input

-- a program in A-normal form, with the input
abbrev pub anf_measured : AnfTree → List ℕ → Measured Event N.AnfState
anf_measured p input = measured_of (N.language p) p.globals p.statics input
