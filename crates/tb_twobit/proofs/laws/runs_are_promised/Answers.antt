use Rattle.std.proofs.Common.{◌≤◌, ◌+◌, ℕ, List, arith}
use Rattle.tb_core.specs.OperandOrder.{order_of}
use Rattle.tb_core.specs.Tree.{ProgramTree}
use Rattle.tb_mac.specs.Layout.{start_size}
use Rattle.tb_macm.proofs.Layouts.{length_start_words}
use Rattle.tb_passes.specs.Compilable.{IsCompilable}
use Rattle.tb_passes.specs.Passes.{program_code}
use Rattle.tb_twobit.specs.Words.{Go}
use Rattle.tb_twobit.proofs.Promises.{CodeLaws, promised, never_stuck}
use Rattle.tb_twobit.proofs.laws.runs_are_promised.Goals as goal

pub returns : goal.returns
returns c =
    let laws : (go : Go) (p : ProgramTree) (input : List ℕ) → IsCompilable p → start_size (program_code p).parts + 64 ≤ go.heap →
    CodeLaws p go.heap input =
    λ go p input ok room.
    let long = length_start_words (program_code p).parts in
    let heap = go.heap in record {
      reference = record {
        ends_last = c.ends_last.ensures.law p (order_of p) input;
        in_order = c.emits_in_order.ensures.step p (order_of p) input;
        all_end = λ es h. c.all_events_end.ensures.law p input es ok.rules h;
      };
      keeps = c.code_keeps_the_reference_machine.ensures.law p ok heap input;
      stands = c.code_stands_still_at_the_end.ensures.law p ok heap input;
      flat = λ n. c.framed_runs_are_flat.ensures.law (program_code p) heap input n (omega arith);
      quick = c.code_is_quick.ensures.law p ok heap input;
      narrow = c.bounds_are_narrow.ensures.law p ok;
      walkable = c.states_are_walkable.ensures.law p ok heap input;
      space = c.code_is_space_safe.ensures.law p ok heap input;
      small = c.full_only_when_small.ensures.law p ok heap input;
    } in record {
      law = λ go p input ok room. promised go p input (laws go p input ok room);
      never_stuck = λ go p input ok room n m pc rest es. never_stuck go p input (laws go p input ok room) n m pc rest es;
    }
