use Rattle.tb_semantics.proofs.KeepsLemmas.{still-behind}
use Rattle.tb_semantics.proofs.keeping.stands_still_at_the_end.Goals as goal

pub returns : goal.returns
returns g c = record { law = λ a b d o s f k n e r m. still-behind a b d o s f k n e r m }
