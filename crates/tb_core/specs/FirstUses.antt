-- Lists of variables in the order of their first use.
use Rattle.std.specs.Prelude.{ℕ, cond, List, [], ◌∷◌, ◌++◌}
use Rattle.tb_core.specs.Tree.{ProgramTree}
use Rattle.tb_core.specs.FreeVariables.{is_in, inner_free}

-- those of a list that were not seen before, each at its first place
abbrev pub first_of : List ℕ → List ℕ → List ℕ
first_of seen [] = []
first_of seen (x ∷ xs) = cond (is_in seen x) (first_of seen xs) (x ∷ first_of (seen ++ x ∷ []) xs)

-- the free variables of a lambda expression, each once, in the order of their first use
abbrev pub free_in_order : ProgramTree → ℕ → List ℕ
free_in_order p l = first_of [] (inner_free p l)
