-- What comes before a run: what a command meets outside, and why it runs no code.
use Rattle.std.specs.Prelude.{◌≡◌, ℕ, ◌+◌, ◌*◌, ◌≤◌, ◌<◌, List, [], length, Option, Some, IfSome}
use Rattle.tb_base.specs.Outside.{Files, Rose, IsLonger}
use Rattle.tb_core.specs.Space.{space_of}
use Rattle.tb_core.specs.Tree.{ProgramTree}
use Rattle.tb_mac.specs.Layout.{start_size}
use Rattle.tb_passes.specs.Passes.{program_code}
use Rattle.tb_twobit.specs.declared.refusal.Refusal.{Refusal}
use Rattle.tb_twobit.specs.Refusals.{IsAccepted, IsRefusedWith}
use Rattle.tb_twobit.specs.Sinks.{Sunk, Gained, Said}
use Rattle.tb_twobit.specs.SpaceSafe.{reference_of}
use Rattle.tb_twobit.specs.Statuses.{full_line, refused_line}
use Rattle.tb_twobit.specs.Words.{Go}

-- the most bytes of a source file, and of the input
abbrev pub source_limit : ℕ
source_limit = 4194304

abbrev pub input_limit : ℕ
input_limit = 16777216

-- what is given to a command: the files of the store, where it tells them, with its counts of failed loads of the source
-- file before and after; and the bytes of the input, where that tells them, with its counts of faults
pub record Given : Type 0 where
  pub files : Option Files
  pub loads : ℕ
  pub loads_now : ℕ
  pub input : Option (List ℕ)
  pub reads : ℕ
  pub reads_now : ℕ

-- all that it meets outside: what is given to it, and the two sinks
pub record Outside : Type 0 where
  pub given : Given
  pub out : Sunk
  pub diag : Sunk

-- a store holds these bytes under a name, where it tells what it holds, and they are not too many
pub record HasFile (files : Option Files) (name bytes : List ℕ) : Type 0 where
  pub there : IfSome files (λ f. f name ≡ Some bytes)
  pub short : length bytes ≤ source_limit

-- the bytes that it holds under a name are too many
abbrev pub HasLongFile : Option Files → List ℕ → Type 0
HasLongFile files name = IfSome files (λ f. IsLonger (f name) source_limit)

-- these are the bytes of the input, where it tells them, and they are not too many
pub record HasInput (told : Option (List ℕ)) (input : List ℕ) : Type 0 where
  pub there : IfSome told (λ bytes. bytes ≡ input)
  pub short : length input ≤ input_limit

-- the source file has an accepted text, of this program
pub record HasAccepted (source : List ℕ) (g : Given) (p : ProgramTree) : Type 0 where
  pub bytes : List ℕ
  pub file : HasFile g.files source bytes
  pub accepted : IsAccepted bytes p

-- it has, and these are the bytes of the input
pub record IsReady (source : List ℕ) (g : Given) (input : List ℕ) (p : ProgramTree) : Type 0 where
  pub has : HasAccepted source g p
  pub input_there : HasInput g.input input

-- why there is no code to run, or no input, with the status
pub data IsNotReady (source : List ℕ) (g : Given) (diag : Sunk) : ℕ → Type 0 where
  -- status 3 only where the count of loads of the name rose, or for an accepted text that of the input
  not_loaded : Rose g.loads g.loads_now → Gained diag [] → IsNotReady source g diag 3
  not_read : (p : ProgramTree) → HasAccepted source g p → Rose g.reads g.reads_now → Gained diag [] →
      IsNotReady source g diag 3
  -- status 5 is want of memory, while reading, compiling or loading
  no_memory : Gained diag [] → IsNotReady source g diag 5
  -- status 11 where the file is longer than its limit, or for an accepted text the input
  too_long : HasLongFile g.files source → Gained diag [] → IsNotReady source g diag 11
  long_input : (p : ProgramTree) → HasAccepted source g p → IfSome g.input (λ input. input_limit < length input) →
      Gained diag [] → IsNotReady source g diag 11
  -- status 1 where the text is refused, with the line of its first refusal
  refused : (bytes : List ℕ) (r : Refusal) → HasFile g.files source bytes → IsRefusedWith bytes r →
      Said diag (refused_line r) → IsNotReady source g diag 1

-- why no code is run, with the status; nothing is put then
pub data IsNotRun (go : Go) (o : Outside) : ℕ → Type 0 where
  not_ready : {status : ℕ} → IsNotReady go.source o.given o.diag status → Gained o.out [] → IsNotRun go o status
  -- status 7 where the globals and static objects with 64 further words do not fit, and so memory has fewer than twice
  -- the words of the reference's space at its start and 65
  not_fitting : (input : List ℕ) (p : ProgramTree) → IsReady go.source o.given input p →
      go.heap < start_size (program_code p).parts + 64 → go.heap < 2 * space_of p (reference_of p input).start + 65 →
      Gained o.out [] → Said o.diag (full_line (start_size (program_code p).parts) go.heap 64) → IsNotRun go o 7
