use Rattle.std.proofs.Common.{map, arith}
use Rattle.tb_sexp.specs.View.{view}
use Rattle.tb_sexp.proofs.TextsRead.{text_found, text_refused, text_kept, are_bytes}
use Rattle.tb_sexp.proofs.reader.read_all.Goals as goal

pub returns : goal.returns
returns c =
    let text = c.args.text.now in
    record {
      found = text_found (λ items_read. map view items_read.items) c.args.library text _ c.read_tokens.ensures;
      refused = text_refused (λ items_read. map view items_read.items) c.args.library text _ c.read_tokens.ensures;
      kept = text_kept (λ items_read. map view items_read.items) c.args.library text _ (are_bytes text (λ i. omega (arith, c.type_inv.text i))) c.read_tokens.ensures;
    }
