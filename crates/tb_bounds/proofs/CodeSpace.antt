-- The words of a state of code, by the space of a configuration that holds nearly as much.
use Rattle.std.proofs.Common.{ℕ, ◌+◌, ◌*◌, ◌≤◌, arith}
use Rattle.std.proofs.Math.Nat.{mul-add, mul-le-mul, mul-le-mul_left, mul-le-mul_right, mul_comm}
use Rattle.tb_semantics.specs.Graph.{total}
use Rattle.tb_semantics.specs.Keeps.{Fits, Shape}
use Rattle.tb_core.specs.Measures.{shape_of}
use Rattle.tb_core.specs.Reference.{State, config_of}
use Rattle.tb_core.specs.Space.{size_at, space, store_graph}
use Rattle.tb_bounds.proofs.ReferenceSpace.{shape-within}

-- so many frames, procedures and words, each with its factor
sum_within : (f marks closures words frames procedures objects statics all space : ℕ) →
    all ≤ 18 + (f + 2) * frames + (f + 3) * procedures + 2 * objects + statics →
    frames ≤ marks + 1 → procedures ≤ closures + 1 → objects ≤ words → marks + closures + words ≤ space → statics ≤ 2 * space →
    all ≤ 4 * (f + 16) * space + 4 * (f + 16)
sum_within f marks closures words frames procedures objects statics all space h a b c s t =
    let x : (f + 2) * frames ≤ (f + 3) * (marks + 1) = mul-le-mul (omega arith) a in
    let y : (f + 3) * procedures ≤ (f + 3) * (closures + 1) = mul-le-mul_left (f + 3) b in
    let z : 2 * objects ≤ (f + 3) * words = mul-le-mul (omega arith) c in
    let d = mul-add (f + 3) (marks + 1) (closures + 1) in
    let e = mul-add (f + 3) (marks + 1 + (closures + 1)) words in
    let g : (f + 3) * (marks + 1 + (closures + 1) + words) ≤ (f + 3) * (space + 2) = mul-le-mul_left (f + 3) (omega arith) in
    let i = mul-add (f + 3) space 2 in
    let j = mul_comm (f + 3) space in
    let k = mul-add space (f + 3) 2 in
    let l = mul_comm (f + 3 + 2) space in
    let m : (f + 3 + 2) * space ≤ 4 * (f + 16) * space = mul-le-mul_right space (omega arith) in
    omega (arith, h, x, y, z, d, e, g, i, j, k, l, m)

pub words-within : (f statics_words statics all : ℕ) (small : Shape) (s : State) →
    all ≤ 18 + (f + 2) * small.frames + (f + 3) * small.closures + 2 * small.words + statics_words →
    Fits 1 small (shape_of statics s) →
    statics_words ≤ 2 * total (size_at (config_of s).store) (store_graph statics (config_of s)) →
    all ≤ 4 * (f + 16) * space statics (config_of s) + 4 * (f + 16)
words-within f statics_words statics all small s h fits few =
    let shape = shape_of statics s in
    let c = config_of s in
    let w = shape-within statics c in
    sum_within f shape.frames shape.closures shape.words small.frames small.closures small.words statics_words all
    (space statics c) h fits.frames fits.closures fits.words (omega (arith, w)) (omega (arith, few))
