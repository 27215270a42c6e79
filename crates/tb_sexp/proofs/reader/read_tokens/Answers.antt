use Rattle.std.proofs.Common.{◌-◌, length, sym, ◌∙◌, arith}
use Rattle.tb_sexp.specs.calls.Frames.{view_state}
use Rattle.tb_sexp.specs.Places.{text_start}
use Rattle.tb_sexp.specs.calls.Runs.{ReadsFrom, nothing}
use Rattle.tb_sexp.proofs.Loops.{ends, refuses, goes_on, behind_blanks}
use Rattle.tb_sexp.proofs.Rooms.{room-fewer}
use Rattle.tb_sexp.proofs.reader.read_tokens.Goals as goal

pub returns-then-is_empty : goal.returns-then-is_empty
returns-then-is_empty c =
    ends (view_state c.loop-tokens.state) c.loop-tokens.place c.pass-start.result c.loop-tokens.rest.now c.behind-tokens.result.now
    (ReadsFrom nothing (text_start c.args.library) c.args.text.now) _ c.loop-tokens.invariant.reads
    (behind_blanks _ _ _ _ c.blanks-count.result c.blanks-count.ensures.exact c.pass-start.ensures.exact c.behind-tokens.ensures.exact)
    (sym c.is_empty.ensures ∙ c.if-is_empty.true) c.finish.ensures

pub take_token-requires : goal.take_token-requires
take_token-requires c =
    room-fewer c.pass-start.result (length c.loop-tokens.rest.now - c.blanks-count.result) (length c.behind-tokens.result.now) (omega arith) c.pass-start.ensures.room

pub returns-in-Err : goal.returns-in-Err
returns-in-Err c =
    refuses (view_state c.loop-tokens.state) c.loop-tokens.place c.pass-start.result c.loop-tokens.rest.now c.behind-tokens.result.now
    (ReadsFrom nothing (text_start c.args.library) c.args.text.now) c.in-Err.refusal c.loop-tokens.invariant.reads
    (behind_blanks _ _ _ _ c.blanks-count.result c.blanks-count.ensures.exact c.pass-start.ensures.exact c.behind-tokens.ensures.exact)
    (sym c.is_empty.ensures ∙ c.if-is_empty.false) c.in-Err.ensures.exact

pub loop-tokens-preserved : goal.loop-tokens-preserved
loop-tokens-preserved c = record {
  room = room-fewer c.pass-place.result (length c.behind-tokens.result.now - c.in-Ok.size) (length c.behind-rest.result.now) (omega arith) c.pass-place.ensures.room;
  reads = goes_on (view_state c.loop-tokens.state) (view_state c.take_token.new.state) c.loop-tokens.place c.pass-start.result c.pass-place.result
      c.loop-tokens.rest.now c.behind-tokens.result.now c.behind-rest.result.now c.in-Ok.size
      (ReadsFrom nothing (text_start c.args.library) c.args.text.now) c.loop-tokens.invariant.reads
      (behind_blanks _ _ _ _ c.blanks-count.result c.blanks-count.ensures.exact c.pass-start.ensures.exact c.behind-tokens.ensures.exact)
      (sym c.is_empty.ensures ∙ c.if-is_empty.false) c.in-Ok.ensures.exact c.pass-place.ensures.exact c.behind-rest.ensures.exact;
}
