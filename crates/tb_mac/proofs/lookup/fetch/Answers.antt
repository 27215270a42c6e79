use Rattle.std.proofs.Common.{◌≡◌, ◌<◌, ◌^◌, List, length, slice_get, ◌∙◌, ap}
use Rattle.std.proofs.Math.Logic.{∥∥₁_elim}
use Rattle.tb_mac.specs.declared.code.Instr.{Instr}
use Rattle.tb_mac.specs.Rules.{InstrOk}
use Rattle.tb_mac.proofs.RuleLaws.{InstrOk-prop, IfSome-prop, All-slice_get, few-slice_get, less-prop}
use Rattle.tb_mac.proofs.lookup.fetch.Goals as goal

read : (c : goal.After-instr_at) → c.instr_at.result ≡ slice_get c.args.code.now.code c.args.number
read c = c.instr_at.ensures ∙ ap (λ (is : List Instr). slice_get is c.args.number) c.as_slice.ensures

pub returns-clause-keeps : goal.returns-clause-keeps
returns-clause-keeps c =
    let code = c.args.code.now in
    let P = InstrOk code.parts (length code.code) in
    ∥∥₁_elim code.rules (IfSome-prop P (InstrOk-prop code.parts (length code.code)) c.instr_at.result)
    (λ rules. All-slice_get P code.code c.args.number c.instr_at.result (read c) rules.fields)

pub returns-clause-few : goal.returns-clause-few
returns-clause-few c =
    let code = c.args.code.now in
    ∥∥₁_elim code.rules (IfSome-prop (λ _. c.args.number < 2 ^ 24) (λ _. less-prop c.args.number (2 ^ 24)) c.instr_at.result)
    (λ rules. few-slice_get code.code (2 ^ 24) c.args.number c.instr_at.result (read c) rules.few)
