-- What a configuration of the reference machine holds is within its space, and so are the static objects.
use Rattle.std.proofs.Common.{◌≡◌, refl, sym, ap, ◌∙◌, subst, ℕ, zero, suc, ◌+◌, ◌-◌, ◌*◌, ◌<◌, ◌≤◌, arith, Bool, true, false, cond, List, [], ◌∷◌, ◌++◌, length, map, Option, None, Some, slice_get}
use Rattle.std.proofs.Math.Nat.{le_refl}
use Rattle.std.proofs.lemmas.List.{length-map, length-replicate}
use Rattle.tb_prim.specs.declared.constant.Static.{Static}
use Rattle.tb_semantics.specs.Graph.{Graph, root, below, kept, reaches, sum_of, total}
use Rattle.tb_semantics.proofs.Reachable.{Reaches-reaches, below_in}
use Rattle.tb_core.specs.Measures.{closures_in, marks, of_item, one_if, reached, words_in}
use Rattle.tb_core.specs.Reference.{Config, Frame, start_of}
use Rattle.tb_core.specs.Space.{frames_words, made, size_at, size_of, space, store_graph}
use Rattle.tb_core.specs.Store.{Clo, Item, Obj, Undefined, Var, flat_size, static_item, value_of}
use Rattle.tb_core.specs.Tree.{ProgramTree}
use Rattle.tb_core.proofs.Members.{in-left}
use Rattle.tb_core.proofs.Reached.{store-closed, sum-made}
use Rattle.tb_mac.specs.Layout.{static_size, statics_size}
use Rattle.tb_mac.specs.Objects.{padded_size}

-- a marked frame has a word at least
one_at_most : (b : Bool) → one_if b ≤ 1
one_at_most true = omega arith
one_at_most false = omega arith

marks_few : (fs : List Frame) → marks fs ≤ frames_words fs
marks_few [] = omega arith
marks_few (f ∷ fs) = let h = marks_few fs in let o = one_at_most f.marked in omega arith

-- an item is no smaller than it counts
pub item-fits : (i : Item) → closures_in i + words_in i ≤ flat_size i
item-fits (Var v) = omega arith
item-fits (Obj o) = omega arith
item-fits (Clo m r) = omega arith

at_fits : (o : Option Item) → of_item closures_in o + of_item words_in o ≤ size_of o
at_fits None = omega arith
at_fits (Some i) = item-fits i

-- two sums within a third
sums_within : (f g h : ℕ → ℕ) (xs : List ℕ) → ((x : ℕ) → f x + g x ≤ h x) → sum_of f xs + sum_of g xs ≤ sum_of h xs
sums_within f g h [] le = omega arith
sums_within f g h (x ∷ xs) le = let r = sums_within f g h xs le in let o = le x in omega arith

totals_within : (f g h : ℕ → ℕ) (k : Graph) → ((x : ℕ) → f x + g x ≤ h x) → total f k + total g k ≤ total h k
unfolding total
totals_within f g h k le = sums_within f g h (kept (reaches k) (below k.count)) le

-- what is marked, the procedures and the words are within the space
pub shape-within : (statics : ℕ) (c : Config) →
    marks c.frames + reached closures_in statics c + (length c.globals + reached words_in statics c) ≤ space statics c
shape-within statics c =
    let m = marks_few c.frames in
    let t = totals_within (λ l. of_item closures_in (slice_get c.store l)) (λ l. of_item words_in (slice_get c.store l))
    (size_at c.store) (store_graph statics c) (λ l. at_fits (slice_get c.store l)) in
    omega arith

-- the numbers below one that pass a test are among those below a greater one
sum_cond : (f : ℕ → ℕ) (b : Bool) (x : ℕ) (xs : List ℕ) → sum_of f xs ≤ sum_of f (cond b (x ∷ xs) xs)
sum_cond f true x xs = omega arith
sum_cond f false x xs = omega arith

sum_more : (f : ℕ → ℕ) (test : ℕ → Bool) (d k n : ℕ) → n ≡ k + d → sum_of f (kept test (below k)) ≤ sum_of f (kept test (below n))
sum_more f test zero k n e =
    subst (λ a. sum_of f (kept test (below k)) ≤ sum_of f (kept test (below a))) (let s : k ≡ n = omega arith in s) (le_refl (sum_of f (kept test (below k))))
sum_more f test (suc d) k zero e = absurd (omega arith)
sum_more f test (suc d) k (suc n) e =
    let h = sum_more f test d k n (omega arith) in let s = sum_cond f (test n) n (kept test (below n)) in omega arith

kept_all : (test : ℕ → Bool) (k : ℕ) → ((l : ℕ) → l < k → test l ≡ true) → kept test (below k) ≡ below k
kept_all test zero h = refl
kept_all test (suc k) h =
    let t = kept_all test k (λ l lt. h l (omega arith)) in
    ap (λ b. cond b (k ∷ kept test (below k)) (kept test (below k))) (h k (omega arith)) ∙ ap (λ xs. k ∷ xs) t

sum_le : (f g : ℕ → ℕ) (xs : List ℕ) → ((x : ℕ) → f x ≤ g x) → sum_of f xs ≤ sum_of g xs
sum_le f g [] h = omega arith
sum_le f g (x ∷ xs) h = let r = sum_le f g xs h in let o = h x in omega arith

-- items that have a size are there
there : (st : List Item) (k : ℕ) → ((l : ℕ) → l < k → 1 ≤ size_at st l) → k ≤ length st
there st zero h = omega arith
there [] (suc k) h = let e = h 0 (omega arith) in absurd (omega arith)
there (i ∷ st) (suc k) h = let r = there st k (λ l lt. h (suc l) (omega arith)) in omega arith

-- the first items, which are reached, are within the space
firsts_total : (f : ℕ → ℕ) (g : Graph) (k : ℕ) → k ≤ g.count → ((l : ℕ) → l < k → reaches g l ≡ true) →
    sum_of f (below k) ≤ total f g
unfolding total
firsts_total f g k le h =
    subst (λ xs. sum_of f xs ≤ sum_of f (kept (reaches g) (below g.count))) (kept_all (reaches g) k h)
    (sum_more f (reaches g) (g.count - k) k g.count (omega arith))

static_reached : (statics : ℕ) (c : Config) (l : ℕ) → l < statics → reaches (store_graph statics c) l ≡ true
static_reached statics c l lt =
    Reaches-reaches (store_graph statics c) (store-closed statics c) l (root (in-left l (below statics) _ (below_in statics l lt)))

-- a static object has a size, and at most twice as many words as that
static_here : (ss : List Static) (l : ℕ) → l < length ss → 1 ≤ size_at (map static_item ss) l
static_here [] l lt = absurd (omega arith)
static_here (Static.Pair a b ∷ ss) zero lt = omega arith
static_here (Static.Vector cs ∷ ss) zero lt = omega arith
static_here (Static.Str bs ∷ ss) zero lt = omega arith
static_here (Static.Sym bs ∷ ss) zero lt = omega arith
static_here (s ∷ ss) (suc l) lt = static_here ss l (omega arith)

static_words : (s : Static) → static_size s ≤ 2 * flat_size (static_item s)
static_words (Static.Pair a b) = omega arith
static_words (Static.Vector cs) = let e = length-map cs value_of in omega arith
static_words (Static.Str bs) = omega arith
static_words (Static.Sym bs) = omega arith

statics_made : (ss : List Static) → statics_size ss ≤ 2 * made (map static_item ss)
statics_made [] = omega arith
statics_made (s ∷ ss) = let h = statics_made ss in let o = static_words s in omega arith

-- the words of static objects, which have kept their sizes, are within twice the sizes of what a configuration reaches
pub statics-within : (ss : List Static) (c : Config) → ((l : ℕ) → size_at (map static_item ss) l ≤ size_at c.store l) →
    statics_size ss ≤ 2 * total (size_at c.store) (store_graph (length ss) c)
statics-within ss c stay =
    let first = map static_item ss in
    let k = length ss in
    let many : k ≤ length c.store = there c.store k (λ l lt. let a = static_here ss l lt in let b = stay l in omega arith) in
    let t = firsts_total (size_at c.store) (store_graph k c) k many (λ l lt. static_reached k c l lt) in
    let m = sum_le (size_at first) (size_at c.store) (below k) stay in
    let w = statics_made ss in
    let a : sum_of (size_at first) (below k) ≡ made first =
    ap (λ n. sum_of (size_at first) (below n)) (sym (length-map ss static_item)) ∙ sum-made first in
    omega arith

-- the words of globals and static objects are within twice the space of the start
pub start-within : (p : ProgramTree) (input : List ℕ) →
    padded_size (length p.globals) + statics_size p.statics ≤ 2 * space (length p.statics) (start_of p input) + 1
start-within p input =
    let t = statics-within p.statics (start_of p input) (λ l. omega arith) in
    let g = length-replicate (length p.globals) Undefined in
    omega arith
