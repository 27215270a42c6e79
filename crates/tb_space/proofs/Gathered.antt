-- All roots, where the state is one with whole frames; and the words of globals and static objects are few.
use Rattle.std.proofs.Common.{◌≡◌, ℕ, suc, ◌-◌, ◌*◌, ◌<◌, ◌≤◌, min, List, [], ◌∷◌, ◌++◌, length, take, drop, slice_get, Option, Some, None, refl, sym, ap, ◌∙◌, subst, arith}
use Rattle.std.specs.Prelude.{IfSome}
use Rattle.std.proofs.lemmas.List.{drop-drop, drop_at, take_at}
use Rattle.tb_prim.specs.declared.constant.Static.{Static}
use Rattle.tb_mac.specs.declared.code.Parts.{Parts}
use Rattle.tb_mac.specs.Assembled.{Assembled}
use Rattle.tb_mac.specs.Frames.{Framed, flat, flat_frames}
use Rattle.tb_mac.specs.Layout.{addresses_from, globals_size, start_size, static_size, statics_size}
use Rattle.tb_mac.specs.LiveWords.{all_targets, live_registers, map_at, object_graph, slots_of, stack_slots, targets_from}
use Rattle.tb_mac.specs.MacStep.{Mac}
use Rattle.tb_mac.specs.Rules.{PartsOk, StaticOk}
use Rattle.tb_space.specs.calls.Noting.{noted_all}
use Rattle.tb_space.specs.calls.Roots.{without_memory}
use Rattle.tb_space.proofs.Notings.{all_targets-append, first-targets, noted_all-append}

-- the stack of a flat state
stands : (m : Framed) → drop (flat m).stack_pointer (flat m).memory ≡ flat_frames m.frames
stands m =
    sym (drop-drop (length m.gap) (length m.heap) (flat m).memory)
    ∙ ap (drop (length m.gap)) (drop_at m.heap (m.gap ++ flat_frames m.frames) (length m.heap) refl)
    ∙ drop_at m.gap (flat_frames m.frames) (length m.gap) refl

pub stack-stands : (m : Framed) (mac : Mac) → flat m ≡ mac → drop mac.stack_pointer mac.memory ≡ flat_frames m.frames
stack-stands m mac e = subst (λ (k : Mac). drop k.stack_pointer k.memory ≡ flat_frames m.frames) e (stands m)

pub heap-is : (m : Framed) (mac : Mac) (limit : ℕ) → flat m ≡ mac → length m.heap ≡ limit → take limit mac.memory ≡ m.heap
heap-is m mac limit e size = subst (λ (k : Mac). take limit k.memory ≡ m.heap) e (take_at m.heap (m.gap ++ flat_frames m.frames) limit size)

four : (limit : ℕ) (found as' bs cs ds : List ℕ) →
    noted_all limit (noted_all limit (noted_all limit (noted_all limit found as') bs) cs) ds
    ≡ noted_all limit found ((as' ++ bs) ++ (cs ++ ds))
four limit found as' bs cs ds =
    sym (noted_all-append limit (noted_all limit (noted_all limit found as') bs) cs ds)
    ∙ ap (λ xs. noted_all limit xs (cs ++ ds)) (sym (noted_all-append limit found as' bs))
    ∙ sym (noted_all-append limit found (as' ++ bs) (cs ++ ds))

-- what was noted by one part after the other
pub gathered : (c : Assembled) (m : Framed) (mac : Mac) (limit globals : ℕ) (f0 f1 f2 f3 f4 : List ℕ) → flat m ≡ mac →
    length m.heap ≡ limit →
    f1 ≡ noted_all limit f0 (all_targets (live_registers c (without_memory mac))) →
    f2 ≡ noted_all limit f1 (all_targets (stack_slots c (slots_of (map_at c mac.pc)) m.frames)) →
    f3 ≡ noted_all limit f2 (targets_from (take limit mac.memory) 0 (min globals limit - 0)) →
    globals ≡ globals_size c.parts →
    f4 ≡ noted_all limit f3 (addresses_from globals c.parts.statics) →
    f4 ≡ noted_all limit f0 (object_graph c m).roots
gathered c m mac limit globals f0 f1 f2 f3 f4 e size h1 h2 h3 g h4 =
    let rs = all_targets (live_registers c m) in
    let ss = all_targets (stack_slots c (slots_of (map_at c m.pc)) m.frames) in
    let gs = all_targets (take (globals_size c.parts) m.heap) in
    let as' = addresses_from (globals_size c.parts) c.parts.statics in
    let k1 : f1 ≡ noted_all limit f0 rs = h1 ∙ ap (λ (k : Mac). noted_all limit f0 (all_targets (live_registers c (without_memory k)))) (sym e) in
    let k2 : f2 ≡ noted_all limit f1 ss = h2 ∙ ap (λ (k : Mac). noted_all limit f1 (all_targets (stack_slots c (slots_of (map_at c k.pc)) m.frames))) (sym e) in
    let k3 : f3 ≡ noted_all limit f2 gs =
    h3 ∙ ap (λ ws. noted_all limit f2 (targets_from ws 0 (min globals limit - 0))) (heap-is m mac limit e size)
    ∙ ap (noted_all limit f2) (first-targets m.heap globals limit size)
    ∙ ap (λ n. noted_all limit f2 (all_targets (take n m.heap))) g in
    let k4 : f4 ≡ noted_all limit f3 as' = h4 ∙ ap (λ n. noted_all limit f3 (addresses_from n c.parts.statics)) g in
    k4 ∙ ap (λ xs. noted_all limit xs as') (k3 ∙ ap (λ xs. noted_all limit xs gs) (k2 ∙ ap (λ xs. noted_all limit xs ss) k1))
    ∙ four limit f0 rs ss gs as'
    ∙ ap (λ ts. noted_all limit f0 (ts ++ (gs ++ as'))) (sym (all_targets-append (live_registers c m) (stack_slots c (slots_of (map_at c m.pc)) m.frames)))

-- static objects that keep the rules of code
static_few : (all : List Static) (n : ℕ) (s : Static) → StaticOk all n s → static_size s ≤ 16777218
static_few all n (Static.Pair a b) h = omega arith
static_few all n (Static.Vector cs) h = let lt = h.0 in omega arith
static_few all n (Static.Str bytes) h = omega arith
static_few all n (Static.Sym bytes) h = omega arith

some_few : (all : List Static) (n : ℕ) (o : Option Static) → IfSome o (StaticOk all n) → IfSome o (λ s. static_size s ≤ 16777218)
some_few all n None h = tt
some_few all n (Some s) h = static_few all n s h

statics_few : (ss : List Static) → ((n : ℕ) → IfSome (slice_get ss n) (λ s. static_size s ≤ 16777218)) →
    statics_size ss ≤ 16777218 * length ss
statics_few [] h = omega arith
statics_few (s ∷ ss) h =
    let first = h 0 in
    let rest = statics_few ss (λ n. h (suc n)) in
    omega arith

pub start-few : (parts : Parts) → PartsOk parts → start_size parts < 70368744177664
start-few parts ok =
    let h = statics_few parts.statics (λ n. some_few parts.statics n (slice_get parts.statics n) (ok.statics n)) in
    let g = ok.few_globals in
    let s = ok.few_statics in
    omega arith
