-- No frame or closure of a program's code has more words than the program is wide.
use Rattle.std.proofs.Common.{◌≡◌, ℕ, ◌≤◌, refl, List, [], ◌∷◌, map, arith}
use Rattle.tb_ir.specs.AnfTree.{AnfTree}
use Rattle.tb_ir.specs.AnfRules.{KeepsRules}
use Rattle.tb_ir.specs.AnfWidth.{width_of}
use Rattle.tb_mac.specs.declared.code.Instr.{Instr}
use Rattle.tb_mac.specs.declared.code.Instr.TheVariants.{SetRtn, Jump, Brf, Clo}
use Rattle.tb_mac.specs.Assemble.{instructions, number_of, with_target}
use Rattle.tb_mac.specs.Bounds.{extent, frame_bound}
use Rattle.tb_codegen.specs.Fits.{Fits}
use Rattle.tb_codegen.specs.Generate.{noted_items}
use Rattle.tb_codegen.specs.Notes.{Noted, Mark, Does}
use Rattle.tb_codegen.specs.PlainCode.{code_of}
use Rattle.tb_codegen.proofs.AllFields.{all-good}
use Rattle.tb_codegen.proofs.Assembling.{items_of}
use Rattle.tb_codegen.proofs.Ranges.{AllGood}

-- another target leaves the extent
extent-same : (to : ℕ → ℕ) (i : Instr) → extent (with_target to i) ≡ extent i
extent-same to (SetRtn x) = refl
extent-same to (Jump x) = refl
extent-same to (Brf a x) = refl
extent-same to (Clo a n x) = refl
extent-same to _ = refl

bounded : (p : AnfTree) (w : ℕ) (narrow : w ≤ 1000) (to : ℕ → ℕ) (is : List Noted) → AllGood p w narrow is →
    frame_bound (map (with_target to) (instructions (items_of is))) ≤ w
bounded p w narrow to [] h = omega arith
bounded p w narrow to (Mark l n ∷ is) h = bounded p w narrow to is h
bounded p w narrow to (Does i n q ∷ is) h =
    let a = extent-same to i in let b = h.0.small in let c = bounded p w narrow to is h.1 in omega (arith, a, b, c)

pub frames-narrow : (p : AnfTree) → KeepsRules p → Fits p → frame_bound (code_of p).code ≤ width_of p
frames-narrow p rules fits =
    bounded p (width_of p) fits.narrow (number_of (items_of (noted_items p))) (noted_items p) (all-good p rules fits fits.narrow)
