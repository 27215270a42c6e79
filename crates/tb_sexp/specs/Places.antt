-- Where a byte stands in a text.
use Rattle.std.specs.Prelude.{ℕ, ◌+◌, ◌==◌, Bool, cond, List, [], ◌∷◌}
use Rattle.tb_prim.specs.declared.place.Place.{Place}

-- the first byte of a text
abbrev pub text_start : Bool → Place
text_start library = record { library = library; line = 1; column = 1 }

-- the place behind a byte: columns are in bytes, and a newline (10) begins a line
abbrev pub behind : Place → ℕ → Place
behind p b = cond (b == 10) (record { library = p.library; line = p.line + 1; column = 1 }) (record { library = p.library; line = p.line; column = p.column + 1 })

abbrev pub behind_all : Place → List ℕ → Place
behind_all p [] = p
behind_all p (b ∷ bs) = behind_all (behind p b) bs
