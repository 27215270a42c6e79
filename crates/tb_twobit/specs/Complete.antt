-- When a run of `go` comes to the end of its program: where the text is accepted, its reference machine ends or fails,
-- nothing fails outside, and memory and steps are enough.
use Rattle.std.specs.Prelude.{◌≡◌, ℕ, ◌+◌, ◌*◌, ◌≤◌, ◌⊎◌, List, length, Some}
use Rattle.tb_prim.specs.declared.event.Event.{Event}
use Rattle.tb_base.specs.Outside.{Files, Rose}
use Rattle.tb_semantics.specs.Runs.{Ends, after}
use Rattle.tb_core.specs.Space.{made_of, space_of}
use Rattle.tb_core.specs.Tree.{ProgramTree}
use Rattle.tb_core.specs.Width.{factor_bound, square_sum}
use Rattle.tb_macm.specs.RunDoes.{puts}
use Rattle.tb_twobit.specs.Preparing.{Outside, input_limit, source_limit}
use Rattle.tb_twobit.specs.Refusals.{IsAccepted}
use Rattle.tb_twobit.specs.Sinks.{Gained}
use Rattle.tb_twobit.specs.SpaceSafe.{reference_of}
use Rattle.tb_twobit.specs.Words.{Go}

-- memory and steps that are enough for a program that emits these events: for each word that the reference machine
-- holds or has made at any moment so many as the bound on K, and that many more; and 8 * Q + 10 steps for each event,
-- with Q the sum of the squared widths
pub record HasEnough (go : Go) (p : ProgramTree) (input : List ℕ) (es : List Event) : Type 0 where
  pub memory : (k l : ℕ) → factor_bound p * (space_of p (after (reference_of p input) k) + made_of (after (reference_of p input) l))
      + factor_bound p ≤ go.heap
  pub steps : (8 * square_sum p + 10) * length es ≤ go.steps

-- the source file is there and has an accepted text, the input is there, both within their limits, and no count of
-- faults rises
pub record IsServed (go : Go) (o : Outside) (bytes input : List ℕ) (p : ProgramTree) : Type 0 where
  pub files : Files
  pub told : o.given.files ≡ Some files
  pub there : files go.source ≡ Some bytes
  pub short : length bytes ≤ source_limit
  pub accepted : IsAccepted bytes p
  pub input_told : o.given.input ≡ Some input
  pub input_short : length input ≤ input_limit
  pub loaded : Rose o.given.loads o.given.loads_now → ⊥
  pub read : Rose o.given.reads o.given.reads_now → ⊥
  pub put : Rose o.out.faults o.out.faults_now → ⊥

-- the whole output of the program is put, and the status is that of its end, 0 or 6; but for want of memory of the
-- compiler itself, 5
abbrev pub ComesToEnd : Go → Outside → ℕ → Type 0
ComesToEnd go o status =
    (bytes input : List ℕ) (p : ProgramTree) (n : ℕ) (es : List Event) → IsServed go o bytes input p →
    Ends (reference_of p input) n es → HasEnough go p input es →
    (status ≡ 5) ⊎ (((status ≡ 0) ⊎ (status ≡ 6)) × Gained o.out (puts es))
