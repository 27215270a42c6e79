-- The code that a program in A-normal form is compiled to.
use Rattle.std.specs.Prelude.{ℕ, suc, List, [], ◌∷◌, map}
use Rattle.tb_core.specs.OperandOrder.{Line}
use Rattle.tb_ir.specs.AnfTree.{ProcTree, AnfTree}
use Rattle.tb_ir.specs.AnfRules.{lambdas_of}
use Rattle.tb_mac.specs.declared.code.LambdaEntry.{LambdaEntry}
use Rattle.tb_mac.specs.declared.code.OrderEntry.{OrderEntry}
use Rattle.tb_mac.specs.declared.code.Parts.{Parts}
use Rattle.tb_mac.specs.Assembled.{Assembled}
use Rattle.tb_mac.specs.Assemble.{assembled}
use Rattle.tb_codegen.specs.Notes.{item_of}
use Rattle.tb_codegen.specs.Generate.{noted_items}

-- the lambdas, each with its number as the label of its entry
abbrev pub entries : ℕ → List ProcTree → List LambdaEntry
entries n [] = []
entries n (q ∷ qs) = record { place = q.place; lifted = q.lifted; entry = n } ∷ entries (suc n) qs

abbrev pub order_entry : Line → OrderEntry
order_entry line = record { place = line.place; order = line.order }

-- what code refers to
abbrev pub parts_of : AnfTree → Parts
parts_of p = record {
  globals = p.globals;
  statics = p.statics;
  lambdas = entries 0 (lambdas_of p);
  order = map order_entry p.order;
}

abbrev pub code_of : AnfTree → Assembled
code_of p = assembled (parts_of p) (map item_of (noted_items p))
