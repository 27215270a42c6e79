-- Rules of code, along equal parts of it.
use Rattle.std.proofs.Common.{◌≡◌, List, sym, subst}
use Rattle.tb_mac.specs.declared.code.Instr.{Instr}
use Rattle.tb_mac.specs.declared.code.LiveMap.{LiveMap}
use Rattle.tb_mac.specs.declared.code.PlaceEntry.{PlaceEntry}
use Rattle.tb_mac.specs.declared.code.Parts.{Parts}
use Rattle.tb_mac.specs.Rules.{KeepsRules}

pub same_rules : (parts : Parts) (is is' : List Instr) (ms ms' : List LiveMap) (ps ps' : List PlaceEntry) → is ≡ is' → ms ≡ ms' → ps ≡ ps' → KeepsRules parts is' ms' ps' → KeepsRules parts is ms ps
same_rules parts is is' ms ms' ps ps' e f g k =
    subst (λ v. KeepsRules parts v ms ps) (sym e) (subst (λ v. KeepsRules parts is' v ps) (sym f) (subst (λ v. KeepsRules parts is' ms' v) (sym g) k))
