use Rattle.std.proofs.Common.{◌≡◌, ◌<◌, ◌+◌, ◌^◌, drop}
use Rattle.tb_generate.specs.calls.Bits.{number_from}
use Rattle.tb_generate.proofs.bits.number_of.Given as goal

abbrev pub invariant-loop-bit : goal.invariant-loop-bit
invariant-loop-bit l = record {
  below : l.number < l.weight;
  power : l.weight ≡ 2 ^ l.bit-index;
  sum : l.number + number_from l.weight (drop l.bit-index l.bits) ≡ number_from 1 l.bits;
}
