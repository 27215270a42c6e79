use Rattle.std.proofs.Common.{◌≡◌, ◌+◌, drop, vec_len}
use Rattle.tb_mac.specs.Layout.{addresses_from, statics_size}
use Rattle.tb_macm.proofs.Layouts.{Summing}
use Rattle.tb_space.specs.calls.Noting.{noted_all}
use Rattle.tb_space.proofs.search.Search.note_statics.Given as goal

abbrev pub invariant-loop-object : goal.invariant-loop-object
invariant-loop-object l = record {
  left : noted_all l.limit l.self.found.items (addresses_from l.at (drop l.object-index l.statics))
      ≡ noted_all l.limit l.initial.self.found.items (addresses_from l.fn.first l.statics);
  sum : Summing l.at l.object-index (l.fn.first + statics_size l.statics) l.statics;
  size : vec_len l.self.marks ≡ vec_len l.initial.self.marks;
}
