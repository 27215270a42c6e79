-- What the walk over quoted data keeps: the static objects, and the numbers of the symbols among them.
use Rattle.std.specs.Prelude.{◌≡◌, ℕ, Bool, cond, List, [], ◌∷◌, Option, Some, None, bytes_eq}
use Rattle.std.specs.Borrow.{Bor}
use Rattle.std.specs.List.{list_any}
use Rattle.indexmap.specs.IndexMap.{IndexMap, get}
use Rattle.tb_prim.specs.declared.constant.Const.{Const}
use Rattle.tb_prim.specs.declared.constant.Static.{Static}
use Rattle.tb_expand.specs.Numbers.{Placed, finished_object, is_symbol, index}

-- whether two names have the same bytes
abbrev pub text_eq : Bor (List ℕ) → Bor (List ℕ) → Bool
text_eq g h = bytes_eq g.now h.now

-- the number of a symbol, if it is one of the objects
unfoldable pub symbol_number : List Static → List ℕ → Option ℕ
symbol_number o x = cond (list_any (is_symbol x) o) (Some (index (is_symbol x) o)) None

-- a map from the symbols among the objects to their numbers
pub record KnowsSymbols {S : Type 0} (o : List Static) (m : IndexMap (Bor (List ℕ)) ℕ S) : Type 0 where
  pub known : (g : Bor (List ℕ)) → get text_eq m g ≡ symbol_number o g.now

-- an object that is no symbol
abbrev pub IsNoSymbol : Static → Type 0
IsNoSymbol (Static.Pair a b) = Unit {0}
IsNoSymbol (Static.Vector cs) = Unit {0}
IsNoSymbol (Static.Str s) = Unit {0}
IsNoSymbol (Static.Sym s) = ⊥

-- a list of these constants before what is behind them
abbrev pub pairs_behind : List Const → Placed → Placed
pairs_behind [] p = p
pairs_behind (c ∷ cs) p = let r = pairs_behind cs p in finished_object r.statics (Static.Pair c r.constant)
