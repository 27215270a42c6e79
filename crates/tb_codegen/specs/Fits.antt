-- The limits of a program from which code is made: registers 1 to 12 hold operands, a frame has at most 1,000 slots, code
-- has fewer than 2^24 instructions, and a character is a byte.
use Rattle.std.specs.Prelude.{◌<◌, ◌≤◌, ◌^◌, length}
use Rattle.tb_prim.specs.declared.constant.Const.{Const}
use Rattle.tb_core.specs.Rules.{Every}
use Rattle.tb_ir.specs.AnfTree.{Operand, Quote, ProcTree, AnfTree}
use Rattle.tb_ir.specs.AnfRules.{atoms, operations}
use Rattle.tb_ir.specs.Passed.{passed_by}
use Rattle.tb_ir.specs.AnfWidth.{square_sum, width_of}
use Rattle.tb_mac.specs.Rules.{PartsOk}
use Rattle.tb_codegen.specs.PlainCode.{parts_of}

abbrev pub IsByte : Operand → Type 0
IsByte (Quote (Const.Char c)) = c < 256
IsByte a = Unit {0}

pub record Fits (p : AnfTree) : Type 0 where
  pub few_operands : Every (λ op. length (passed_by op) ≤ 12) (operations p)
  pub few_params : Every (λ (q : ProcTree). length q.params ≤ 12) p.procs
  pub bytes : Every (λ op. Every IsByte (atoms op)) (operations p)
  pub narrow : width_of p ≤ 1000
  pub few_squares : square_sum p ≤ 2 ^ 20
  pub parts : PartsOk (parts_of p)
