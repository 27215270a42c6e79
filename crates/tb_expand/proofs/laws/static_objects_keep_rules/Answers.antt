use Rattle.std.proofs.Common.{[]}
use Rattle.tb_expand.proofs.StaticObjects.{statics_keep_all}
use Rattle.tb_expand.proofs.laws.static_objects_keep_rules.Goals as goal

pub returns : goal.returns
returns c = λ es h. statics_keep_all [] es tt h
