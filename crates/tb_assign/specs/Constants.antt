-- Constants that pass a test.
use Rattle.std.specs.Prelude.{◌≡◌, Bool, true}
use Rattle.tb_prim.specs.declared.constant.Const.{Const}
use Rattle.tb_core.specs.Tree.{Form, Quote}

-- the constant that a node is, where it is one, passes
abbrev pub Passes : (Const → Bool) → Form → Type 0
Passes test (Quote c) = test c ≡ true
Passes test _ = Unit {0}
