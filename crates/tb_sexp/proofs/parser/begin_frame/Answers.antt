use Rattle.std.proofs.Common.{◌≡◌, ◌≤◌, true, length, sym, ◌∙◌, arith}
use Rattle.std.specs.Prelude.{Result, Err}
use Rattle.std.proofs.lemmas.Bool.Decides.{nat_tests}
use Rattle.std.proofs.lemmas.List.{length-map}
use Rattle.tb_prim.specs.declared.place.Place.{Place}
use Rattle.tb_sexp.specs.declared.refusal.ReadRefusal.{ReadRefusal}
use Rattle.tb_sexp.specs.declared.refusal.ReadRefusal.TheVariants.{Syntax, Unclosed, TooDeep, TooLong, TooBig, NoMemory}
use Rattle.tb_sexp.specs.calls.Frames.{Frame, State, view_frame, view_state}
use Rattle.tb_sexp.specs.calls.Reading.{Refuses, begin, takes_datum}
use Rattle.tb_sexp.proofs.parser.begin_frame.Goals as goal

refuses_as_read : (e : ReadRefusal) (read : Result State ReadRefusal) → read ≡ Err e → Refuses e read
refuses_as_read (Syntax p) read h = h
refuses_as_read (Unclosed p) read h = h
refuses_as_read (TooDeep p) read h = h
refuses_as_read (TooLong p) read h = h
refuses_as_read (TooBig p) read h = h
refuses_as_read NoMemory read h = tt

too_deep : (s : State) (p : Place) (f : Frame) (deep : ReadRefusal) → takes_datum s.frames ≡ true → 256 ≤ length s.frames → begin s p f deep ≡ Err deep
too_deep s p f deep takes full = grind (arith, nat_tests)

pub returns-else-len-lt-DEPTH : goal.returns-else-len-lt-DEPTH
returns-else-len-lt-DEPTH c =
    let open_before = view_state c.args.state.now in
    let takes : takes_datum open_before.frames ≡ true = sym c.takes_datum.ensures ∙ c.if-not-takes_datum.false in
    let count : c.len.result ≡ length open_before.frames =
    c.len.ensures ∙ sym (length-map c.args.state.now.frames view_frame) in
    refuses_as_read c.args.deep _ (too_deep open_before c.args.place (view_frame c.args.frame) c.args.deep takes (let test = c.if-len-lt-DEPTH.false in omega arith))
