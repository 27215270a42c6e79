use Rattle.std.proofs.Common.{◌+◌, length, arith}
use Rattle.std.proofs.Math.Nat.{add-mul}
use Rattle.tb_mac.specs.Bounds.{window_bound}
use Rattle.tb_codegen.specs.PlainCode.{code_of}
use Rattle.tb_codegen.proofs.Quick.{code-quick}
use Rattle.tb_codegen.proofs.laws.code_is_quick.Goals as goal

pub returns : goal.returns
returns c = record {
  quick = λ p rules fits heap input n m rest es e.
      let h = code-quick p rules fits heap input n m rest es e in
      let w = window_bound (code_of p).code in
      let a = add-mul w 1 (length es + 1) in
      let b = add-mul w 2 (length es + 1) in
      omega (arith, h, a, b);
}
