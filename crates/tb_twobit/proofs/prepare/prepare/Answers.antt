use Rattle.std.proofs.Common.{◌≡◌, ◌≤◌, ℕ, List, Option, None, Some, length, sym, subst}
use Rattle.std.specs.Prelude.{IfSome}
use Rattle.tb_base.specs.Outside.{Files}
use Rattle.tb_twobit.specs.Refusals.{IsNotCompiled}
use Rattle.tb_twobit.specs.Preparing.{HasFile, HasInput, input_limit, source_limit, no_memory, refused}
use Rattle.tb_twobit.specs.Sinks.{Said, sunk}
use Rattle.tb_twobit.specs.Statuses.{refused_line}
use Rattle.tb_twobit.proofs.Parts.{gained_nothing}
use Rattle.tb_twobit.proofs.Missing.{no-file, no-input}
use Rattle.tb_twobit.proofs.prepare.prepare.Goals as goal

-- a file that was loaded, in the bytes that are compiled
file_of : (files : Option Files) (name bytes text : List ℕ) (n : ℕ) → text ≡ bytes →
    IfSome files (λ f. f name ≡ Some bytes) → length text ≡ n → n ≤ source_limit → HasFile files name text
file_of files name bytes text n same there size short = record {
  there = subst (λ bs. IfSome files (λ f. f name ≡ Some bs)) (sym same) there;
  short = subst (λ m. m ≤ source_limit) (sym size) short;
}

-- the input that was read, in the bytes that the run has
input_of : (told : Option (List ℕ)) (bytes : List ℕ) → IfSome told (λ left. bytes ≡ left) → length bytes ≤ input_limit → HasInput told bytes
input_of None bytes there short = record { there = tt; short = short }
input_of (Some left) bytes there short = record { there = sym there; short = short }

pub returns-in-Err-clause-does : goal.returns-in-Err-clause-does
returns-in-Err-clause-does g c =
    no-file _ _ _ (gained_nothing (g.E.Sink.held c.args.diag.now)) c.load.result c.in-Err.fault c.missing.result c.in-Err.is
    c.missing.ensures c.load.ensures.cause.failed c.load.ensures.does.gives

pub returns-in-Err-Refused-clause-does : goal.returns-in-Err-Refused-clause-does
returns-in-Err-Refused-clause-does g c =
    refused c.as_slice.result.now c.in-Err-Refused.refusal
    (file_of _ c.args.source.now _ _ _ c.as_slice.ensures.value c.in-Ok.ensures.does.gives c.as_slice.ensures.len
    c.in-Ok.ensures.bound)
    (subst (IsNotCompiled c.as_slice.result.now) c.in-Err-Refused.field-0-is c.in-Err-Refused.ensures)
    (subst (λ r. Said (sunk g.E.Sink.held g.E.Sink.faults c.args.diag.now c.say_refused.new.diag) (refused_line r))
    c.in-Err-Refused.refusal-is c.say_refused.ensures.line)

pub returns-in-Err-NoMemory-clause-does : goal.returns-in-Err-NoMemory-clause-does
returns-in-Err-NoMemory-clause-does g c = no_memory (gained_nothing (g.E.Sink.held c.args.diag.now))

pub returns-clause-does : goal.returns-clause-does
returns-clause-does g c =
    let made = c.in-Ok-compile.ensures in
    no-input _ _ _ (gained_nothing (g.E.Sink.held c.args.diag.now)) made.program
    (record {
      bytes = c.as_slice.result.now;
      file = file_of _ c.args.source.now _ _ _ c.as_slice.ensures.value c.in-Ok.ensures.does.gives c.as_slice.ensures.len
          c.in-Ok.ensures.bound;
      accepted = made.accepted;
    })
    c.take_all.result c.in-Err-take_all.fault c.missing-in-Err-take_all.result c.in-Err-take_all.is
    c.missing-in-Err-take_all.ensures c.take_all.ensures.cause.failed c.take_all.ensures.bytes
