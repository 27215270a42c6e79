use Rattle.std.proofs.Common.{◌≡◌, ◌+◌, ℕ, List, true, false, drop, arith, ap, sym, ◌∙◌}
use Rattle.tb_mac.specs.LiveWords.{all_targets, chosen_from, is_live_register, map_at}
use Rattle.tb_mac.specs.Assembled.{Assembled}
use Rattle.tb_mac.specs.Words.{on_some}
use Rattle.tb_space.specs.calls.Noting.{noted_all}
use Rattle.tb_space.specs.calls.Roots.{without_memory}
use Rattle.tb_space.specs.declared.search.Search.{Search}
use Rattle.tb_space.proofs.Notings.{registers-step, registers-skip, registers-end, one-live}
use Rattle.tb_space.proofs.Bits.{not-beyond}
use Rattle.tb_space.proofs.search.Search.note_registers.Goals as goal
use Rattle.tb_space.proofs.search.Search.note_registers.Goals.{then-is_live, else-is_live}

pub loop-a-preserved : goal.loop-a-preserved
loop-a-preserved c =
    let l = c.args.limit in
    let m = c.args.machine.now in
    let live = is_live_register m.code (without_memory m.mac) in
    let ws = m.mac.registers in
    let i = c.loop-a.invariant in
    let old = c.loop-a.self.found.items in
    let new = c.if-is_live.self.found.items in
    elim c.if-is_live.branch [
      | then-is_live w ↦
          let t : live c.loop-a.a ≡ true = sym c.is_live.ensures ∙ w.if-is_live.true in
          let e = ap (λ (s : Search). s.found.items) w.self-is ∙ w.note_word.ensures.found ∙ ap (noted_all l old) (one-live (live c.loop-a.a) w.register.result t) in
          record {
            left = registers-step l live c.loop-a.a ws w.register.result old new w.register.ensures e ∙ i.left;
            size = ap (λ (s : Search). s.marks.len) w.self-is ∙ w.note_word.ensures.size ∙ i.size;
          }
      | else-is_live w ↦
          let t : live c.loop-a.a ≡ false = sym c.is_live.ensures ∙ w.if-is_live.false in
          let e : new ≡ old = ap (λ (s : Search). s.found.items) w.self-is in
          record {
            left = ap (λ (xs : List ℕ). noted_all l xs (all_targets (chosen_from live (c.loop-a.a + 1) (drop (c.loop-a.a + 1) ws)))) e ∙ registers-skip l live c.loop-a.a ws old t ∙ i.left;
            size = ap (λ (s : Search). s.marks.len) w.self-is ∙ i.size;
          }
    ]

pub returns-clause-found : goal.returns-clause-found
returns-clause-found c =
    let m = c.args.machine.now in
    let f = without_memory m.mac in
    let live = is_live_register m.code f in
    let map : c.live_bits-bits.result ≡ on_some (map_at m.code m.mac.pc) 0 (λ x. x.regs) = c.live_bits-bits.ensures.bits ∙ ap (λ (k : Assembled). on_some (map_at k c.pc.result) 0 (λ x. x.regs)) c.code.ensures ∙ ap (λ (n : ℕ). on_some (map_at m.code n) 0 (λ x. x.regs)) c.pc.ensures in
    sym (registers-end c.args.limit live c.loop-a.a (drop c.loop-a.a m.mac.registers) c.loop-a.self.found.items
    (λ b le. not-beyond m.code f c.live_bits-bits.result b map c.live_bits-bits.ensures.few (omega (arith, le, c.loop-a-test.false))))
    ∙ c.loop-a.invariant.left
