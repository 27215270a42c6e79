-- The items of a program that fits keep all conditions of an assembler.
use Rattle.std.proofs.Common.{◌≡◌, ◌<◌, ◌≤◌, ◌+◌, ◌*◌, ◌^◌, List, length, map, arith}
use Rattle.std.proofs.Math.Logic.{∥∥₁_elim}
use Rattle.std.proofs.lemmas.List.{length-map}
use Rattle.tb_ir.specs.AnfTree.{AnfTree}
use Rattle.tb_ir.specs.AnfRules.{KeepsRules}
use Rattle.tb_ir.specs.AnfWidth.{square_sum}
use Rattle.tb_mac.specs.declared.code.Parts.{Parts}
use Rattle.tb_mac.specs.declared.item.Item.{Item}
use Rattle.tb_mac.specs.Assemble.{ItemsOk, instructions, number_of, with_target}
use Rattle.tb_codegen.specs.Fits.{Fits}
use Rattle.tb_codegen.specs.Generate.{noted_items}
use Rattle.tb_codegen.specs.Notes.{item_of}
use Rattle.tb_codegen.specs.PlainCode.{code_of, parts_of}
use Rattle.tb_generate.proofs.ItemsOnce.{ItemsOk-prop}

-- there are fewer than 2^24 instructions, by a bound on the length of code
few : (p : AnfTree) → Fits p → length (code_of p).code ≤ 8 * square_sum p + 8 →
    length (instructions (map item_of (noted_items p))) < 2 ^ 24
few p fits h =
    let is = map item_of (noted_items p) in
    let same = length-map (instructions is) (with_target (number_of is)) in
    let squares = fits.few_squares in
    omega (arith, h, same, squares)

-- so do items and parts that are those
pub assembles : (p : AnfTree) → ((q : AnfTree) → KeepsRules q → Fits q →
    length (code_of q).code ≤ 8 * square_sum q + 8) →
    ((q : AnfTree) → KeepsRules q → Fits q → length (instructions (map item_of (noted_items q))) < 2 ^ 24 →
    ItemsOk (parts_of q) (map item_of (noted_items q))) →
    ∥ KeepsRules p ∥₁ → Fits p → (parts : Parts) (items : List Item) → parts ≡ parts_of p →
    items ≡ map item_of (noted_items p) → ItemsOk parts items
assembles p short conditions rules fits parts items same_parts same_items =
    rw (same_parts, same_items)
    (∥∥₁_elim rules (ItemsOk-prop (parts_of p) (map item_of (noted_items p)))
    (λ k. conditions p k fits (few p fits (short p k fits))))
