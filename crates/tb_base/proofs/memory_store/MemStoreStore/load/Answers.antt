use Rattle.std.proofs.Common.{inl, refl}
use Rattle.tb_base.proofs.FaultCounts.{LoadHasCause-push}
use Rattle.tb_base.proofs.memory_store.MemStoreStore.load.Goals as goal

pub returns-then-fails-clause-cause : goal.returns-then-fails-clause-cause
returns-then-fails-clause-cause c =
    rw (c.note_name.ensures, c.in_ok-copy.ensures.names, c.in_ok-copy.ensures.copy, ← c.self.view_is) (LoadHasCause-push c.self.inside.failed_loads.items _ _)

pub returns-then-fails-clause-failed_only : goal.returns-then-fails-clause-failed_only
returns-then-fails-clause-failed_only c = λ _. inl (rw (← c.self.view_is) (c.if-fails.ensures.fails.0 refl))

pub returns-in_default-clause-cause : goal.returns-in_default-clause-cause
returns-in_default-clause-cause c =
    rw (c.note_name-in_default.ensures, c.in_ok-copy.ensures.names, c.in_ok-copy.ensures.copy, ← c.self.view_is) (LoadHasCause-push c.self.inside.failed_loads.items _ _)
