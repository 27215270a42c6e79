-- Tables of variables.
use Rattle.std.specs.Prelude.{ℕ, Bool, false, List, slice_index_or}

-- whether a table has a mark at a number
abbrev pub is_marked : List Bool → ℕ → Bool
is_marked table x = slice_index_or table x false
