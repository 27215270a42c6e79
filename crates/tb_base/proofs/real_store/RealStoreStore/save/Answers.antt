use Rattle.tb_base.proofs.FaultCounts.{SaveHasCause-push}
use Rattle.tb_base.proofs.real_store.RealStoreStore.save.Goals as goal

pub returns-in-Err-Failed-clause-cause : goal.returns-in-Err-Failed-clause-cause
returns-in-Err-Failed-clause-cause g c =
    rw (c.note_name.ensures, c.in_ok-copy.ensures.names, c.in_ok-copy.ensures.copy, ← c.self.view_is) (SaveHasCause-push c.self.inside.failed_saves.items _ _)
