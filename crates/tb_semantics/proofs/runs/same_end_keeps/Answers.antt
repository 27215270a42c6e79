use Rattle.tb_semantics.proofs.SameEnd.{same_end-keeps}
use Rattle.tb_semantics.proofs.runs.same_end_keeps.Goals as goal

pub returns : goal.returns
returns g c = record { law = λ a b oa ob none n m es ha hb. same_end-keeps a b oa ob none n m es ha hb }
