-- The items of entries and of whole programs. A test tells which parameters a body names.
use Rattle.std.specs.Prelude.{ℕ, suc, ◌+◌, Bool, true, false, cond, List, [], ◌∷◌, ◌++◌, length, replicate, Some, None}
use Rattle.tb_core.specs.FreeVariables.{is_in}
use Rattle.tb_ir.specs.AnfTree.{ProcTree}
use Rattle.tb_ir.specs.AnfMachine.{free_block}
use Rattle.tb_mac.specs.declared.code.Instr.TheVariants as I
use Rattle.tb_mac.specs.declared.item.Item.{Item}
use Rattle.tb_mac.specs.declared.item.Item.TheVariants.{Label}
use Rattle.tb_codegen.specs.Generate.{counting, labels_in, labels_within}
use Rattle.tb_codegen.specs.Operations.{Body, result}
use Rattle.tb_generate.specs.calls.Bits.{no_registers, with_bit, with_slots, here_item, away_item}
use Rattle.tb_generate.specs.calls.Items.{block_items}
use Rattle.tb_generate.specs.declared.waiting.Ending.TheVariants.{ToCaller, ToTop}

abbrev pub no_slots : ℕ → List Bool
no_slots n = replicate n false

-- the registers of the parameters that a body names, from a register on
abbrev pub parameter_bits : (ℕ → Bool) → List Bool → ℕ → List ℕ → List Bool
parameter_bits test rs a [] = rs
parameter_bits test rs a (y ∷ ys) = parameter_bits test (cond (test y) (with_bit rs a) rs) (suc a) ys

-- and that of the procedure, while captured variables are left
abbrev pub itself_bits : List ℕ → List Bool → List Bool
itself_bits [] rs = rs
itself_bits (x ∷ xs) rs = with_bit rs 0

abbrev pub captured_items : Body → List Bool → List Bool → ℕ → List ℕ → List Item
captured_items c rs ss j [] = []
captured_items c rs ss j (x ∷ xs) =
    here_item (I.Capt result 0 j) (with_bit rs 0) ss None ∷
    here_item (I.Store result (c.home x)) (with_bit (itself_bits xs rs) result) ss None ∷
    captured_items c rs (with_slots c.home (x ∷ []) 0 ss) (suc j) xs

-- an operand goes to the slot of its parameter, where the body names that
abbrev pub parameter_item : Body → (ℕ → Bool) → List Bool → ℕ → ℕ → List ℕ → List Item
parameter_item c test ss a y ys =
    cond (test y) (here_item (I.Store a (c.home y)) (parameter_bits test no_registers a ys) ss None ∷ []) []

abbrev pub parameter_slots : Body → (ℕ → Bool) → List Bool → ℕ → List Bool
parameter_slots c test ss y = cond (test y) (with_slots c.home (y ∷ []) 0 ss) ss

abbrev pub parameter_items : Body → (ℕ → Bool) → List Bool → ℕ → List ℕ → List Item
parameter_items c test ss a [] = []
parameter_items c test ss a (y ∷ ys) =
    parameter_item c test ss a y (y ∷ ys) ++ parameter_items c test (parameter_slots c test ss y) (suc a) ys

-- the frame is made, and captured variables and operands go to their slots
abbrev pub frame_items : Body → (ℕ → Bool) → List ℕ → List ℕ → List Item
frame_items c test params captured =
    away_item (I.Save c.size) (parameter_bits test (itself_bits captured no_registers) 1 params) None ∷
    (captured_items c (parameter_bits test no_registers 1 params) (no_slots c.size) 0 captured ++
    parameter_items c test (with_slots c.home captured 0 (no_slots c.size)) 1 params)

-- registers 0 to 12 and RESULT
abbrev pub entry_registers : List Bool
entry_registers = replicate 13 true ++ (false ∷ false ∷ false ∷ true ∷ [])

abbrev pub entry_items : (ℕ → Bool) → ℕ → ProcTree → List Item
entry_items test n q =
    cond q.lifted (away_item (I.Proc n) (parameter_bits test no_registers 1 q.params) None ∷ [])
    (away_item (I.Proc n) entry_registers None ∷ away_item (counting q.rest q.params) entry_registers (Some q.place) ∷ [])

abbrev pub lambda_items : Body → ℕ → ProcTree → ℕ → List Item
lambda_items c n q l =
    let test = is_in (free_block c.captured q.body) in
    Label n ∷
    (entry_items test n q ++ (frame_items c test q.params q.captured ++ block_items c q.body (no_slots c.size) ToCaller l))

abbrev pub form_items : Body → ProcTree → ℕ → List Item
form_items c q l = away_item (I.Save c.size) no_registers None ∷ block_items c q.body (no_slots c.size) ToTop l

abbrev pub forms_items : (ProcTree → Body) → List ProcTree → ℕ → List Item
forms_items c [] l = []
forms_items c (q ∷ qs) l = form_items (c q) q l ++ forms_items c qs (l + labels_in q.body)

abbrev pub lambdas_items : (ProcTree → Body) → ℕ → List ProcTree → ℕ → List Item
lambdas_items c n [] l = []
lambdas_items c n (q ∷ qs) l = lambda_items (c q) n q l ++ lambdas_items c (suc n) qs (l + labels_in q.body)

abbrev pub program_items : (ProcTree → Body) → List ProcTree → List ProcTree → List Item
program_items c forms lambdas =
    forms_items c forms (length lambdas) ++
    (away_item I.End no_registers None ∷ lambdas_items c 0 lambdas (length lambdas + labels_within forms))
