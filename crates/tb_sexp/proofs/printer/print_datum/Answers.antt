use Rattle.std.proofs.Common.{◌≡◌, Bool, List, ℕ, IfOk, Result, Ok, Err, sym, subst, rules}
use Rattle.tb_sexp.specs.Printing.{printed}
use Rattle.tb_sexp.specs.ReadData.{IsRead, ReadsBack}
use Rattle.tb_sexp.specs.Tree.{Tree}
use Rattle.tb_sexp.specs.View.{view}
use Rattle.tb_sexp.proofs.RoundTripData.{printed_reads_back}
use Rattle.tb_sexp.proofs.printer.print_datum.Goals as goal

again : {E : Type 0} (d : Tree) (r : Result (List ℕ) E) → IfOk r (λ text. text ≡ printed d) → IfOk r (λ text. (library : Bool) → IsRead 256 d → ReadsBack library text d)
again d (Ok text) e = λ library h. subst (λ bytes. ReadsBack library bytes d) (sym e) (printed_reads_back library d h)
again d (Err e) h = h

pub returns-clause-reads_back : goal.returns-clause-reads_back
returns-clause-reads_back c =
    let exact : IfOk c.new.result (λ text. text ≡ printed (view c.args.datum.now)) = search rules in
    again (view c.args.datum.now) c.new.result exact
