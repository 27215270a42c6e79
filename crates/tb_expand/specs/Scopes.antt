-- Scopes, and what a name means in one.
use Rattle.std.specs.Prelude.{ℕ, ◌+◌, ◌==◌, cond, List, [], ◌∷◌, length, Option, Some, None}
use Rattle.tb_expand.specs.declared.context.Context.{Context}
use Rattle.tb_expand.specs.Names.{Name, is_among}
use Rattle.tb_expand.specs.Trees.{Var}
use Rattle.tb_expand.specs.Words.{Meaning, Variable, word_of}

-- a scope: the number of the scope around it, and the names that it binds
pub record Scope : Type 0 where
  pub around : ℕ
  pub names : List Name

-- what was made so far: the scopes, newest first; how many nodes, variables and static objects, how many words these
-- objects take; and the texts of the symbols among them. The number of a scope is the number of scopes up to it, so
-- the oldest has number 1, and 0 is the top level
pub record State : Type 0 where
  pub scopes : List Scope
  pub nodes : ℕ
  pub variables : ℕ
  pub objects : ℕ
  pub words : ℕ
  pub symbols : List (List ℕ)

-- the innermost binding of exactly this name, from the scope of this number outwards
unfoldable pub binding : List Scope → ℕ → Name → Option Var
binding [] s x = None
binding (e ∷ es) s x =
    cond (s == length es + 1) (cond (is_among x e.names) (Some (record { scope = s; name = x })) (binding es e.around x)) (binding es s x)

abbrev pub or_word : Option Var → Meaning → Meaning
or_word None m = m
or_word (Some x) m = Variable x

-- a name that has a binding is that variable, and else what its text means
abbrev pub meaning : State → Context → Name → Meaning
meaning st c x = or_word (binding st.scopes c.scope x) (word_of c.library x.text)

-- a new scope in this one, and its number
abbrev pub fresh : State → ℕ
fresh st = length st.scopes + 1

abbrev pub enter : State → ℕ → List Name → State
enter st s xs = record st { scopes = record { around = s; names = xs } ∷ st.scopes }
