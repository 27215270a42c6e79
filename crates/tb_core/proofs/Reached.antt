-- Laws of the space of a configuration.
use Rattle.std.proofs.Common.{◌≡◌, refl, sym, ap, ℕ, zero, suc, ◌+◌, ◌<◌, ◌≤◌, arith, List, [], ◌∷◌, length, slice_get}
use Rattle.tb_semantics.specs.Graph.{IsIn, IsClosed, ListsReachable, below, sum_of}
use Rattle.tb_semantics.proofs.Reachable.{total-unique, total-within}
use Rattle.tb_core.specs.Store.{Item}
use Rattle.tb_core.specs.Reference.{Config}
use Rattle.tb_core.specs.Space.{locations_of, size_at, store_graph, own_words, space, made}

-- only a location of the store leads to others
leads_within : (st : List Item) (k l : ℕ) → IsIn l (locations_of (slice_get st k)) → k < length st
leads_within [] k l i = absurd i
leads_within (x ∷ st) zero l i = omega arith
leads_within (x ∷ st) (suc k) l i = let h = leads_within st k l i in omega arith

pub store-closed : (statics : ℕ) (c : Config) → IsClosed (store_graph statics c)
store-closed statics c k l i = leads_within c.store k l i

pub space-once : (statics : ℕ) (c : Config) (xs : List ℕ) → ListsReachable (store_graph statics c) xs → space statics c ≡ own_words c + sum_of (size_at c.store) xs
space-once statics c xs r = sym (ap (λ n. own_words c + n) (total-unique (size_at c.store) (store_graph statics c) xs (store-closed statics c) r))

-- the first number apart
sum_first : (f : ℕ → ℕ) (n : ℕ) → sum_of f (below (suc n)) ≡ f 0 + sum_of (λ l. f (suc l)) (below n)
sum_first f zero = refl
sum_first f (suc n) = let h = sum_first f n in omega arith

pub sum-made : (st : List Item) → sum_of (size_at st) (below (length st)) ≡ made st
sum-made [] = refl
sum-made (i ∷ st) = let h = sum_first (size_at (i ∷ st)) (length st) in let k = sum-made st in omega arith

pub space-within : (statics : ℕ) (c : Config) → space statics c ≤ own_words c + made c.store
space-within statics c =
    let h = total-within (size_at c.store) (store_graph statics c) in
    let k = sum-made c.store in
    omega arith
