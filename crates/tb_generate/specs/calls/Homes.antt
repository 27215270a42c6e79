-- What cells are made from, as far as that is found.
use Rattle.std.specs.Prelude.{ℕ, ◌==◌, cond, List, [], ◌∷◌, Option, Some, None}
use Rattle.tb_ir.specs.AnfTree.{Block, Bind, CloseAll, Tail, Op, NewCell}
use Rattle.tb_codegen.specs.Homes.{made_from}

-- what is found first
abbrev pub or_found : Option ℕ → Option ℕ → Option ℕ
or_found None b = b
or_found (Some n) b = Some n

abbrev pub origin_found : List Block → ℕ → Option ℕ
origin_found [] x = None
origin_found (Bind z op b ∷ bs) x = cond (z == x) (Some (made_from z op)) (origin_found bs x)
origin_found (CloseAll zs ls b ∷ bs) x = origin_found bs x
origin_found (Tail op ∷ bs) x = origin_found bs x

-- the variable that is bound to an operation, if that makes no cell
abbrev pub own_binder : ℕ → Op → List ℕ
own_binder x (NewCell a) = []
own_binder x op = x ∷ []
