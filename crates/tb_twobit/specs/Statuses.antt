-- The statuses in which a call ends, and the lines that go with them.
use Rattle.std.specs.Prelude.{ℕ, Bool, true, false, List, [], ◌∷◌, codes, decimal}
use Rattle.tb_prim.specs.declared.place.Place.{Place}
use Rattle.tb_prim.specs.declared.event.Cause.{Cause}
use Rattle.tb_lines.specs.Lines.{joined}
use Rattle.tb_twobit.specs.declared.status.Status.{Status}
use Rattle.tb_twobit.specs.declared.status.Status.TheVariants.{Done, Refused, Usage, NotLoaded, NotPut, NoMemory, Failed, Full, OutOfSteps, Stuck, TooLong}
use Rattle.tb_twobit.specs.declared.refusal.Refusal.{Refusal}
use Rattle.tb_twobit.specs.declared.refusal.RefusalKind.{RefusalKind}
use Rattle.tb_twobit.specs.declared.refusal.RefusalKind.TheVariants as kind

-- the number of a status
abbrev pub number : Status → ℕ
number Done = 0
number Refused = 1
number Usage = 2
number NotLoaded = 3
number NotPut = 4
number NoMemory = 5
number Failed = 6
number Full = 7
number OutOfSteps = 8
number Stuck = 10
number TooLong = 11

-- the number of a cause
abbrev pub cause_number : Cause → ℕ
cause_number Cause.NotProcedure = 1
cause_number Cause.WrongArgs = 2
cause_number Cause.WrongType = 3
cause_number Cause.Overflow = 4
cause_number Cause.Range = 5
cause_number Cause.ZeroDivide = 6
cause_number Cause.Undefined = 7
cause_number Cause.TooMany = 8

-- the number of a kind of refusal
abbrev pub refusal_number : RefusalKind → ℕ
refusal_number kind.Syntax = 101
refusal_number kind.Unclosed = 102
refusal_number kind.TooDeep = 103
refusal_number kind.TooLong = 104
refusal_number kind.TooBig = 105
refusal_number kind.BadForm = 106
refusal_number kind.NoMatch = 107
refusal_number kind.BadRules = 108
refusal_number kind.TooManyArgs = 109
refusal_number kind.Integrated = 110
refusal_number kind.TooWide = 111
refusal_number kind.Duplicate = 112
refusal_number kind.Budget = 113
refusal_number kind.NotInProfile = 114
refusal_number kind.NotBuilt = 115

-- `lib ` stands before a place in the library
abbrev pub library_text : Bool → List ℕ
library_text true = codes "lib "
library_text false = []

-- a line of a word, a number, and a place as LINE:COLUMN
abbrev pub placed_line : List ℕ → ℕ → Place → List ℕ
placed_line word n p =
    joined (word ∷ decimal n ∷ codes " " ∷ library_text p.library ∷
    decimal p.line ∷ codes ":" ∷ decimal p.column ∷ (10 ∷ []) ∷ [])

-- the line of a text that is refused: the number of the refusal, and its place
abbrev pub refused_line : Refusal → List ℕ
refused_line r = placed_line (codes "refused ") (refusal_number r.kind) r.place

-- the line of a run that failed: its cause, and its place
abbrev pub failed_line : Cause → Place → List ℕ
failed_line c p = placed_line (codes "failed ") (cause_number c) p

-- the line of a request that does not fit: the heap pointer, the stack pointer, and the words that are asked for
abbrev pub full_line : ℕ → ℕ → ℕ → List ℕ
full_line pointer stack need =
    joined (codes "full " ∷ decimal pointer ∷ codes " " ∷ decimal stack ∷ codes " " ∷ decimal need ∷ (10 ∷ []) ∷ [])
