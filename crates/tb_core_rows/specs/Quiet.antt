-- Trees without variables, which keep the rules wherever they stand.
use Rattle.std.specs.Prelude.{◌≡◌, ℕ, ◌≤◌, ◌<◌, Bool, false, List, [], length, map}
use Rattle.tb_core.specs.Tree.{Tree, Trees, ProgramTree}
use Rattle.tb_core.specs.FreeVariables.{free, free_all, targets, targets_all}
use Rattle.tb_core.specs.OperandOrder.{Line, lines, lines_all}
use Rattle.tb_core.specs.Rules.{Each, EachAll, Every, NodeKeeps, NoMark, bound, bound_all, inner, inner_all, is_mark, size, size_all}

-- the numbers of the nodes of some lines
abbrev pub sites : List Line → List ℕ
sites = map (λ (l : Line). l.site)

-- an expression that binds, names and assigns no variable, and keeps the rules of its nodes: the lambda expressions
-- that stand in it, the numbers of its nodes that have an order where those of lambda expression 0 are `within`, and
-- a bound on its size
pub record IsQuiet (within ls ss : List ℕ) (n : ℕ) (e : Tree) : Type 0 where
  pub names_none : (f : ℕ → List ℕ) → f 0 ≡ [] → free f e ≡ []
  pub binds_none : bound e ≡ []
  pub assigns_none : targets e ≡ []
  pub lambdas : inner e ≡ ls
  pub ordered : (assigned : ℕ → Bool) (f : ℕ → List Line) → sites (f 0) ≡ within → sites (lines assigned f e) ≡ ss
  pub small : size e ≤ n
  pub nodes : (p : ProgramTree) → Every (λ l. l < length p.lambdas) ls → Each (NodeKeeps p) e
  pub no_mark : is_mark e ≡ false

-- the same of a list of expressions
pub record AreQuiet (within ls ss : List ℕ) (n : ℕ) (es : Trees) : Type 0 where
  pub names_none : (f : ℕ → List ℕ) → f 0 ≡ [] → free_all f es ≡ []
  pub binds_none : bound_all es ≡ []
  pub assigns_none : targets_all es ≡ []
  pub lambdas : inner_all es ≡ ls
  pub ordered : (assigned : ℕ → Bool) (f : ℕ → List Line) → sites (f 0) ≡ within → sites (lines_all assigned f es) ≡ ss
  pub small : size_all es ≤ n
  pub nodes : (p : ProgramTree) → Every (λ l. l < length p.lambdas) ls → EachAll (NodeKeeps p) es
  pub no_mark : NoMark es

-- an expression with neither lambda expressions nor nodes that have an order
abbrev pub IsPlain : ℕ → Tree → Type 0
IsPlain n e = (within : List ℕ) → IsQuiet within [] [] n e
