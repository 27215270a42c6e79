use Rattle.std.proofs.Common.{◌≡◌, ◌≢◌, All, rules, refl, ap, ◌∙◌}
use Rattle.tb_base.proofs.FaultCounts.{SaveHasCause-push}
use Rattle.tb_base.proofs.Files.{SavesTold-push, SavesTold-set}
use Rattle.tb_base.specs.Memory.{IsFirstOf}
use Rattle.tb_base.specs.declared.entries.Entry.{Entry}
use Rattle.tb_base.proofs.memory_store.MemStoreStore.save.Goals as goal

pub returns-then-fails-clause-cause : goal.returns-then-fails-clause-cause
returns-then-fails-clause-cause c =
    rw (c.note_name.ensures, c.in_ok-copy.ensures.names, c.in_ok-copy.ensures.copy, ← c.self.view_is) (SaveHasCause-push c.self.inside.failed_saves.items _ _)

pub returns-then-fails-clause-failed_only : goal.returns-then-fails-clause-failed_only
returns-then-fails-clause-failed_only c = λ _. rw (← c.self.view_is) (c.if-fails.ensures.fails.0 refl)

pub returns-in-Some-clause-does : goal.returns-in-Some-clause-does
returns-in-Some-clause-does c =
    let entries = c.self.inside.entries.items in
    let place : IsFirstOf entries c.args.name.now c.in-Some.place = search rules in
    let same : c.index_mut.result.now.name ≡ c.args.name.now = ap (λ (entry : Entry). entry.name) c.index_mut.ensures.value ∙ place.named c.index_mut.result.now in
    rw (← c.self.view_is) (SavesTold-set entries _ c.args.name.now c.args.bytes.now c.in-Some.place _ place refl same c.in_ok-bytes.ensures)

pub returns-in_ok-push-in-None-clause-does : goal.returns-in_ok-push-in-None-clause-does
returns-in_ok-push-in-None-clause-does c =
    let entries = c.self.inside.entries.items in
    let absent : All (λ (entry : Entry). entry.name ≢ c.args.name.now) entries = search rules in
    rw (← c.self.view_is) (SavesTold-push entries c.push.new.self.items c.args.name.now c.args.bytes.now _ absent c.in_ok-push-in-None.ensures.items c.in_ok-copy.ensures.copy c.in_ok-bytes.ensures)
