use Rattle.std.proofs.Common.{◌∙◌, ap, ℕ, List, nat_eq}
use Rattle.std.specs.Map.{lookup}
use Rattle.tb_ir.specs.AnfPlain.{view_block}
use Rattle.tb_ir.specs.AnfRules.{blocks}
use Rattle.tb_generate.specs.calls.Bodies.{or_else}
use Rattle.tb_generate.specs.calls.Homes.{or_found, origin_found}
use Rattle.tb_generate.proofs.Homing.{found-origin}
use Rattle.tb_generate.proofs.homes.origins.Goals as goal

pub returns : goal.returns
returns c x =
    let bs = blocks (view_block c.args.block.now) in
    ap (λ k. or_else k x) (c.in_ok-note_origins.ensures x ∙ ap (λ (es : List (ℕ × ℕ)). or_found (lookup (nat_eq x) es) (origin_found bs x)) c.new-origins.ensures.empty)
    ∙ found-origin bs x
