use Rattle.std.proofs.Common.{◌≡◌, ◌+◌, ◌<◌, List, length, arith, ap, ◌∙◌, subst}
use Rattle.std.proofs.Math.Logic.{∥∥₁_elim}
use Rattle.tb_prim.specs.declared.constant.GlobalName.{GlobalName}
use Rattle.tb_prim.specs.declared.constant.Static.{Static}
use Rattle.tb_mac.specs.Assembled.{Assembled}
use Rattle.tb_mac.specs.Layout.{addresses_from, globals_size, statics_size}
use Rattle.tb_mac.specs.LiveWords.{IsWalkableBy, map_at, slots_of}
use Rattle.tb_mac.specs.MacStep.{Mac}
use Rattle.tb_mac.specs.Objects.{padded_size}
use Rattle.tb_mac.proofs.RuleLaws.{less-prop}
use Rattle.tb_space.specs.calls.Noting.{noted_all}
use Rattle.tb_space.proofs.Gathered.{gathered, stack-stands, start-few}
use Rattle.tb_space.proofs.search.Search.note_roots.Goals as goal

globals : (c : goal.After-as_slice-2) → c.padded_size-globals.result ≡ globals_size c.code.result.now.parts
globals c = c.padded_size-globals.ensures ∙ ap (λ (gs : List GlobalName). padded_size (length gs)) c.as_slice.ensures

fits : (c : goal.After-as_slice-2) → c.padded_size-globals.result + statics_size c.as_slice-2.result.now < 70368744177664
fits c =
    ∥∥₁_elim c.code.result.now.rules (less-prop (c.padded_size-globals.result + statics_size c.as_slice-2.result.now) 70368744177664)
    (λ rules.
    let h = start-few c.code.result.now.parts rules.parts_ok in
    let g = globals c in
    let s = ap statics_size c.as_slice-2.ensures in
    omega (arith, h, g, s))

pub note_statics-requires-clause-fits : goal.note_statics-requires-clause-fits
note_statics-requires-clause-fits c = let h = fits c in omega (arith, h)

pub returns-clause-few : goal.returns-clause-few
returns-clause-few c =
    let code = c.code.result.now in
    ∥∥₁_elim code.rules (less-prop c.note_statics.result 70368744177664)
    (λ rules.
    let h = start-few code.parts rules.parts_ok in
    let g : c.padded_size-globals.result ≡ globals_size code.parts = c.padded_size-globals.ensures ∙ ap (λ (gs : List GlobalName). padded_size (length gs)) c.as_slice.ensures in
    let s = ap statics_size c.as_slice-2.ensures in
    omega (arith, h, g, s, c.note_statics.ensures.end))

pub returns-clause-found : goal.returns-clause-found
returns-clause-found c = λ m e w size.
    let a = c.args in
    let mac = a.machine.now.mac in
    let code = a.machine.now.code in
    let stand = stack-stands m mac e in
    let walk = subst (λ (k : Mac). IsWalkableBy code (slots_of (map_at code k.pc)) m.frames) e w in
    let g : c.padded_size-globals.result ≡ globals_size code.parts = c.padded_size-globals.ensures ∙ ap (λ (gs : List GlobalName). padded_size (length gs)) c.as_slice.ensures ∙ ap (λ (k : Assembled). globals_size k.parts) c.code.ensures in
    gathered code m mac a.limit c.padded_size-globals.result a.self.now.found.items c.note_registers.new.self.found.items c.note_stack.new.self.found.items c.note_words.new.self.found.items c.note_statics.new.self.found.items
    e size c.note_registers.ensures.found (c.note_stack.ensures.found m.frames stand walk) (cc) g
    (c.note_statics.ensures.found ∙ ap (λ (ss : List Static). noted_all a.limit c.note_words.new.self.found.items (addresses_from c.padded_size-globals.result ss)) (c.as_slice-2.ensures ∙ ap (λ (k : Assembled). k.parts.statics) c.code.ensures))
