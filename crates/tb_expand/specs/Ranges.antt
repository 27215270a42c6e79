-- The globals and the lambda expressions that a node names are among so many; the names of globals.
use Rattle.std.specs.Prelude.{◌≡◌, ℕ, ◌<◌, ◌≤◌, Bool, true, List, length, bytes_eq}
use Rattle.std.specs.List.{list_any}
use Rattle.tb_prim.specs.declared.constant.GlobalName.{GlobalName}
use Rattle.tb_core.specs.Tree as core
use Rattle.tb_core.specs.Tree.{Form}
use Rattle.tb_core.specs.Rules.{Every}
use Rattle.tb_expand.specs.Trees.{Nodes}
use Rattle.tb_expand.specs.Numbers.{globals_of_all}

abbrev pub GlobalIn : ℕ → Form → Type 0
GlobalIn n (core.Quote c) = Unit {0}
GlobalIn n (core.Local x) = Unit {0}
GlobalIn n (core.Global g) = g < n
GlobalIn n (core.Lambda l) = Unit {0}
GlobalIn n (core.If a b c) = Unit {0}
GlobalIn n (core.SetLocal x e) = Unit {0}
GlobalIn n (core.SetGlobal g e) = g < n
GlobalIn n (core.DefGlobal g e) = g < n
GlobalIn n (core.Let xs es e) = Unit {0}
GlobalIn n (core.Letrec xs ls e) = Unit {0}
GlobalIn n (core.Seq es) = Unit {0}
GlobalIn n (core.Call f es) = Unit {0}
GlobalIn n (core.PrimUse q es) = Unit {0}
GlobalIn n (core.Apply f l) = Unit {0}

-- the lambda expressions that a node names are among so many
abbrev pub LambdaIn : ℕ → Form → Type 0
LambdaIn n (core.Quote c) = Unit {0}
LambdaIn n (core.Local x) = Unit {0}
LambdaIn n (core.Global g) = Unit {0}
LambdaIn n (core.Lambda l) = l < n
LambdaIn n (core.If a b c) = Unit {0}
LambdaIn n (core.SetLocal x e) = Unit {0}
LambdaIn n (core.SetGlobal g e) = Unit {0}
LambdaIn n (core.DefGlobal g e) = Unit {0}
LambdaIn n (core.Let xs es e) = Unit {0}
LambdaIn n (core.Letrec xs ls e) = Every (λ l. l < n) ls
LambdaIn n (core.Seq es) = Unit {0}
LambdaIn n (core.Call f es) = Unit {0}
LambdaIn n (core.PrimUse q es) = Unit {0}
LambdaIn n (core.Apply f l) = Unit {0}

-- a global of a program is one that its nodes name
abbrev pub IsNamed : Bool → Nodes → GlobalName → Type 0
IsNamed library es g = (g.library ≡ library) × (list_any (bytes_eq g.name) (globals_of_all es) ≡ true)

-- a name has 1 to 255 bytes
abbrev pub IsLong : List ℕ → Type 0
IsLong s = (1 ≤ length s) × (length s ≤ 255)
