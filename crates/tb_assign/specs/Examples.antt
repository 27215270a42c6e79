-- Small programs with cells: what it means that one runs as its source does, and the cells that it makes and uses.
use Rattle.std.specs.Prelude.{◌≡◌, ℕ, List, [], ◌∷◌, Option, Some, None}
use Rattle.tb_prim.specs.declared.event.Event.{Event}
use Rattle.tb_semantics.specs.Runs.{after}
use Rattle.tb_core.specs.Examples.{lambda, lambda_at, letter, local, node, one, program, sequence, two}
use Rattle.tb_core.specs.OperandOrder.{order_of}
use Rattle.tb_core.specs.Tree.{ProgramTree, SetLocal}
use Rattle.tb_ir.specs.Machine.{events_of}
use Rattle.tb_ir.specs.Rules.{all_nodes, of_nodes, form_of, named, celled}
use Rattle.tb_ir.specs.Tree as C
use Rattle.tb_ir.specs.TreeMachine.{tree_machine}
use Rattle.tb_assign.specs.Eliminate.{cells_of}

-- after some steps in the order of its source, with this input, the program has emitted these events
abbrev pub CellsEmit : ProgramTree → List ℕ → List Event → Type 0
CellsEmit p input events = (n : ℕ) × (events_of (after (tree_machine (cells_of p) (order_of p) input) n) ≡ events)

-- the variable that a node's cell is bound to, where it sets one and where it reads one
abbrev pub set_by : C.Form → List ℕ
set_by (C.CellSet c e) = named (form_of c)
set_by _ = []

abbrev pub read_by : C.Form → List ℕ
read_by (C.CellGet c) = named (form_of c)
read_by _ = []

-- the variables of which the program makes cells, and those whose cells it sets and reads, as often as it does
abbrev pub cells_made : ProgramTree → List ℕ
cells_made p = of_nodes celled (all_nodes (cells_of p))

abbrev pub cells_set : ProgramTree → List ℕ
cells_set p = of_nodes set_by (all_nodes (cells_of p))

abbrev pub cells_read : ProgramTree → List ℕ
cells_read p = of_nodes read_by (all_nodes (cells_of p))

-- an expression is a `let` of these variables, with these values
abbrev pub IsLet : List ℕ → C.Trees → Option C.Tree → Type 0
IsLet xs es (Some (C.Node p s (C.Let ys ds e))) = (ys ≡ xs) × (ds ≡ es)
IsLet xs es _ = ⊥

-- (lambda (x) x)
abbrev pub identity : ProgramTree
identity = program 0 [] (lambda_at 2 (0 ∷ []) None (local 3 0) ∷ []) (one (lambda 1 0))

-- (lambda (a . r) (set! r a) (set! a #\A))
abbrev pub assigned_rest : ProgramTree
assigned_rest =
    program 0 [] (lambda_at 2 (0 ∷ []) (Some 1) (sequence 3 (two
    (node 4 (SetLocal 1 (local 5 0)))
    (node 6 (SetLocal 0 (letter 7 65))))) ∷ []) (one (lambda 1 0))
