-- The lambda expressions that are lifted.
use Rattle.std.specs.Prelude.{ℕ, zero, suc, ◌+◌, Bool, nat_le, List, length, map, filter}
use Rattle.tb_core.specs.Tree.{ProgramTree}
use Rattle.tb_core.specs.Lifting.{Lifted}
use Rattle.tb_liftable.specs.Procedures.{Procedures, procedures, candidates}
use Rattle.tb_liftable.specs.Added.{added_to}

-- the most operands that a procedure is called with in registers
abbrev pub most_operands : ℕ
most_operands = 12

-- whether the parameters of a lambda expression and the variables that are added to them pass in registers
abbrev pub fits : Procedures → List ℕ → ℕ → Bool
fits g set l = nat_le (g.formals l + length (added_to g set l)) most_operands

-- a round takes out all of a set that do not; the names of these are ordinary variables from then on
unfoldable pub round : Procedures → List ℕ → List ℕ
round g set = filter (fits g set) set

abbrev pub rounds : Procedures → ℕ → List ℕ → List ℕ
rounds g zero set = set
rounds g (suc n) set = rounds g n (round g set)

-- the set that no round changes any more: each that changes it takes out one at least
abbrev pub settled : Procedures → List ℕ → List ℕ
settled g set = rounds g (length set) set

-- a set with the variables that are added
abbrev pub lines : Procedures → List ℕ → List Lifted
lines g set = map (λ l. record { lambda = l; added = added_to g set l }) set

-- the lambda expressions of a program that are lifted, in the order of their numbers
abbrev pub liftable : ProgramTree → List Lifted
liftable p = lines (procedures p) (settled (procedures p) (candidates p))
