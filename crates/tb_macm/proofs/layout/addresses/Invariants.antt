use Rattle.std.proofs.Common.{◌+◌}
use Rattle.tb_mac.specs.Layout.{statics_size, addresses_from}
use Rattle.tb_macm.proofs.Layouts.{Addressing, Summing}
use Rattle.tb_macm.proofs.layout.addresses.Given as goal

abbrev pub invariant-loop-object : goal.invariant-loop-object
invariant-loop-object l = record {
  all : Addressing l.all.items l.next l.object-index l.statics (addresses_from l.fn.at l.statics);
  sum : Summing l.next l.object-index (l.fn.at + statics_size l.statics) l.statics;
}
