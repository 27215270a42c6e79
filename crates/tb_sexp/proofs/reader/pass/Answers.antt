use Rattle.std.proofs.Common.{◌-◌, length, sym, subst, ◌∙◌, ap}
use Rattle.tb_sexp.specs.calls.Scanning.{HasRoom}
use Rattle.tb_sexp.specs.Places.{behind_all}
use Rattle.tb_sexp.proofs.Rooms.{room_taken}
use Rattle.tb_sexp.proofs.reader.pass.Goals as goal

pub returns-clause-room : goal.returns-clause-room
returns-clause-room c =
    subst (λ q. HasRoom q (length c.args.text.now - c.args.count)) (sym (c.place_behind.ensures ∙ ap (behind_all c.args.place) c.front.ensures.exact))
    (room_taken c.args.place c.args.text.now c.args.count c.requires.within c.requires.room)
