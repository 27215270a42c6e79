-- The words of the command line, and what they ask for.
use Rattle.std.specs.Prelude.{ℕ, ◌+◌, ◌-◌, ◌*◌, ◌^◌, ◌==◌, ◌&&◌, nat_lt, nat_le, Bool, cond, List, [], length, fold, Option, Some, None, codes, bytes_eq, slice_index_or}
use Rattle.std.specs.List.{list_all}

-- the number that decimal digits stand for
abbrev pub digits_value : List ℕ → ℕ
digits_value ds = fold (λ n d. n * 10 + (d - 48)) 0 ds

abbrev pub is_digit : ℕ → Bool
is_digit d = nat_le 48 d && nat_le d 57

-- a number is 1 to 20 decimal digits and at most 2^64 - 1
abbrev pub number_of : List ℕ → Option ℕ
number_of w =
    cond (nat_le 1 (length w) && nat_le (length w) 20)
    (cond (list_all is_digit w) (cond (nat_lt (digits_value w) (2 ^ 64)) (Some (digits_value w)) None) None) None

-- a run: the name of the source file, the words of the heap, and the bound on the steps
pub record Go : Type 0 where
  pub source : List ℕ
  pub heap : ℕ
  pub steps : ℕ

-- a report of the words that a run holds: a line at each so many events
pub record Space : Type 0 where
  pub go : Go
  pub every : ℕ

-- what words ask for
pub data Command : Type 0 where
  GoMac : Go → Command
  SpaceMac : Space → Command

-- the run that a command makes
abbrev pub run_of : Command → Go
run_of (GoMac go) = go
run_of (SpaceMac space) = space.go

-- a heap has 1,024 to 33,554,432 words
abbrev pub is_heap : ℕ → Bool
is_heap n = nat_le 1024 n && nat_le n 33554432

-- the name of a file is not empty
abbrev pub go_with : List ℕ → Option ℕ → Option ℕ → Option Go
go_with source (Some heap) (Some steps) =
    cond (nat_le 1 (length source) && is_heap heap) (Some (record { source = source; heap = heap; steps = steps })) None
go_with source _ _ = None

abbrev pub go_command : Option Go → Option Command
go_command (Some go) = Some (GoMac go)
go_command None = None

-- a line stands at every event at the most
abbrev pub space_command : Option Go → Option ℕ → Option Command
space_command (Some go) (Some every) = cond (nat_le 1 every) (Some (SpaceMac (record { go = go; every = every }))) None
space_command _ _ = None

-- the first two words name a command, and the machine MAC
abbrev pub is_on_mac : List ℕ → List ℕ → List ℕ → Bool
is_on_mac name command machine = bytes_eq command name && bytes_eq machine (codes "mac")

-- the run that the words from the third to the fifth tell: SRC HEAP STEPS
abbrev pub run_in : List (List ℕ) → Option Go
run_in ws = go_with (slice_index_or ws 2 []) (number_of (slice_index_or ws 3 [])) (number_of (slice_index_or ws 4 []))

abbrev pub begins_with : List ℕ → List (List ℕ) → Bool
begins_with name ws = is_on_mac name (slice_index_or ws 0 []) (slice_index_or ws 1 [])

-- what the words ask for: `go mac SRC HEAP STEPS`, or `space mac SRC HEAP STEPS EVERY`. All other words ask for nothing
-- that there is.
abbrev pub command_of : List (List ℕ) → Option Command
command_of ws =
    cond (length ws == 5) (cond (begins_with (codes "go") ws) (go_command (run_in ws)) None)
    (cond (length ws == 6)
    (cond (begins_with (codes "space") ws) (space_command (run_in ws) (number_of (slice_index_or ws 5 []))) None) None)
