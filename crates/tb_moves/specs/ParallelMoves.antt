-- What moves do to the contents of locations, and parallel assignment.
use Rattle.std.specs.Prelude.{◌≡◌, ◌≢◌, Bool, false, ◌==◌, if◌then◌else◌, List, [], ◌∷◌, ◌++◌, All}
use Rattle.tb_moves.specs.declared.loc.Loc.{Loc}
use Rattle.tb_moves.specs.declared.loc.Loc.TheVariants.{Reg, Slot}

-- whether two locations are one
abbrev pub same_loc : Loc → Loc → Bool
same_loc (Reg a) (Reg b) = a == b
same_loc (Slot a) (Slot b) = a == b
same_loc _ _ = false

-- the contents after one move, a target and its source
abbrev pub after_move : {V : Type 0} → Loc × Loc → (Loc → V) → Loc → V
after_move m content l = if same_loc l m.0 then content m.1 else content l

-- the contents after moves, one after another
abbrev pub run_moves : {V : Type 0} → List (Loc × Loc) → (Loc → V) → Loc → V
run_moves [] content = content
run_moves (m ∷ ms) content = run_moves ms (after_move m content)

-- parallel assignment: after it each target holds what its source held before, and every other location but the scratch is unchanged
pub record IsParallel (V : Type 0) (moves : List (Loc × Loc)) (scratch : Loc) (done : List (Loc × Loc)) : Type 0 where
  pub moved : All (λ m. (content : Loc → V) → run_moves done content m.0 ≡ content m.1) moves
  pub kept : (l : Loc) → l ≢ scratch → All (λ m. m.0 ≢ l) moves → (content : Loc → V) → run_moves done content l ≡ content l

-- new is old without one place of this move
abbrev pub IsTaken : List (Loc × Loc) → Loc × Loc → List (Loc × Loc) → Type 0
IsTaken old m new = (front : List (Loc × Loc)) × (back : List (Loc × Loc)) × (old ≡ front ++ m ∷ back) × (new ≡ front ++ back)
