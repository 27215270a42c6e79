-- The parts of a state that were counted are all its words.
use Rattle.std.proofs.Common.{◌≡◌, ℕ, ◌+◌, ◌-◌, ◌<◌, min, cond, nat_lt, List, [], ◌∷◌, ◌++◌, length, take, slice_get, refl, sym, ap, ◌∙◌, subst, inl, inr, arith}
use Rattle.std.proofs.lemmas.List.{length-append}
use Rattle.tb_semantics.specs.Graph.{IsIn, ListsReachable, sum_of, total}
use Rattle.tb_semantics.proofs.Reachable.{total-unique}
use Rattle.tb_mac.specs.declared.word.Word.{Word}
use Rattle.tb_mac.specs.Assembled.{Assembled}
use Rattle.tb_mac.specs.Frames.{Frame, Framed, flat, flat_frames}
use Rattle.tb_mac.specs.Layout.{start_size}
use Rattle.tb_mac.specs.LiveWords.{frame_words, machine_words, made_size, object_graph, object_size}
use Rattle.tb_mac.specs.MacStep.{Mac}
use Rattle.tb_space.specs.calls.Noting.{noted_all}
use Rattle.tb_space.specs.calls.Roots.{heap_graph, size_from}
use Rattle.tb_space.proofs.Following.{closed-heap, lists-roots}
use Rattle.tb_space.proofs.Gathered.{heap-is}
use Rattle.tb_space.proofs.Notings.{get-take}

frames-are : (fs : List Frame) → frame_words fs ≡ length (flat_frames fs)
frames-are [] = refl
frames-are (f ∷ fs) = let h = frames-are fs in let k = length-append f.slots (flat_frames fs) in omega arith

sum-same : (f g : ℕ → ℕ) (xs : List ℕ) → ((a : ℕ) → IsIn a xs → f a ≡ g a) → sum_of f xs ≡ sum_of g xs
sum-same f g [] h = refl
sum-same f g (x ∷ xs) h =
    let here = h x (inl refl) in
    let rest = sum-same f g xs (λ a i. h a (inr i)) in
    omega arith

-- by the parts, in a flat state
pub counted : (c : Assembled) (m : Framed) (mac : Mac) (limit frames start objects : ℕ) (roots found : List ℕ) → flat m ≡ mac →
    length m.heap ≡ limit →
    roots ≡ noted_all limit [] (object_graph c m).roots →
    ListsReachable (heap_graph (take limit mac.memory) roots) found →
    objects ≡ sum_of (size_from mac.memory start) found →
    start ≡ start_size c.parts →
    frames ≡ length mac.memory - mac.stack_pointer →
    17 + frames + start + objects ≡ machine_words c m
counted c m mac limit frames start objects roots found e size r lists o s fr =
    let heap = heap-is m mac limit e size in
    let l1 : ListsReachable (heap_graph m.heap (noted_all limit [] (object_graph c m).roots)) found =
    subst (λ rs. ListsReachable (heap_graph m.heap rs) found) r (subst (λ (ws : List Word). ListsReachable (heap_graph ws roots) found) heap lists) in
    let l2 : ListsReachable (object_graph c m) found = lists-roots m.heap limit (object_graph c m).roots found size l1 in
    let all : sum_of (made_size c m) found ≡ total (made_size c m) (object_graph c m) = total-unique (made_size c m) (object_graph c m) found (closed-heap m.heap (object_graph c m).roots) l2 in
    let each : (a : ℕ) → IsIn a found → size_from mac.memory start a ≡ made_size c m a = λ a i.
    let lt : a < limit = let h = (l2.sound a i).0 in omega arith in
    let same : slice_get mac.memory a ≡ slice_get m.heap a = sym (get-take limit a mac.memory lt) ∙ ap (λ (ws : List Word). slice_get ws a) heap in
    ap (λ (x : ℕ). cond (nat_lt a x) 0 (object_size (slice_get mac.memory a))) s ∙ ap (λ w. cond (nat_lt a (start_size c.parts)) 0 (object_size w)) same in
    let sum = sum-same (size_from mac.memory start) (made_size c m) found each in
    let k1 : length mac.memory ≡ length (m.heap ++ (m.gap ++ flat_frames m.frames)) = ap (λ (k : Mac). length k.memory) (sym e) in
    let k2 = length-append m.heap (m.gap ++ flat_frames m.frames) in
    let k3 = length-append m.gap (flat_frames m.frames) in
    let k4 : mac.stack_pointer ≡ length m.heap + length m.gap = ap (λ (k : Mac). k.stack_pointer) (sym e) in
    let k5 = frames-are m.frames in
    let f : frames ≡ frame_words m.frames = omega (arith, fr, k1, k2, k3, k4, k5) in
    let t : objects ≡ total (made_size c m) (object_graph c m) = o ∙ sum ∙ all in
    ap (λ n. 17 + n + start + objects) f ∙ ap (λ n. 17 + frame_words m.frames + n + objects) s ∙ ap (λ n. 17 + frame_words m.frames + start_size c.parts + n) t

pub limit-is : (m : Framed) (mac : Mac) (limit : ℕ) → flat m ≡ mac → limit ≡ min mac.heap_pointer (length mac.memory) →
    length m.heap ≡ limit
limit-is m mac limit e h =
    let k1 : length mac.memory ≡ length (m.heap ++ (m.gap ++ flat_frames m.frames)) = ap (λ (k : Mac). length k.memory) (sym e) in
    let k2 = length-append m.heap (m.gap ++ flat_frames m.frames) in
    let k3 : mac.heap_pointer ≡ length m.heap = ap (λ (k : Mac). k.heap_pointer) (sym e) in
    omega (arith, h, k1, k2, k3)
