use Rattle.std.proofs.Common.{◌≡◌, ◌++◌, drop}
use Rattle.tb_expand.specs.Numbers.{placed_all}
use Rattle.tb_expand.specs.View.{data_of}
use Rattle.tb_expand.proofs.numbers.statics.+place.Given as goal

abbrev pub invariant-place_all-loop-datum : goal.invariant-place_all-loop-datum
invariant-place_all-loop-datum l = record {
  constants : l.out.items ++ (placed_all l.statics.objects.items (data_of (drop l.datum-index l.«data»))).constants ≡ (placed_all l.initial.statics.objects.items (data_of l.«data»)).constants;
  objects : (placed_all l.statics.objects.items (data_of (drop l.datum-index l.«data»))).statics ≡ (placed_all l.initial.statics.objects.items (data_of l.«data»)).statics;
}
