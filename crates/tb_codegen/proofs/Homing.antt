-- The slots of variables that are named together are apart: a cell takes the slot of the variable that it is made
-- from, which nothing else names.
use Rattle.std.proofs.Common.{◌≡◌, true≢false, ℕ, suc, ◌<◌, ◌==◌, Bool, true, false, cond, List, [], ◌∷◌, ◌++◌, length, refl, sym, ap, ◌∙◌, subst, inl, inr, eq-eqb, eqb-true, arith}
use Rattle.tb_semantics.specs.Graph.{IsApart, IsIn}
use Rattle.tb_semantics.proofs.ListLemmas.{in-right}
use Rattle.tb_ir.specs.AnfTree.{Block, Bind, CloseAll, Tail, Op}
use Rattle.tb_ir.specs.AnfRules.{binders, of_each}
use Rattle.tb_codegen.specs.Homes.{index_of, made_from, origin}
use Rattle.tb_codegen.proofs.EntryChains.{apart-right}
use Rattle.tb_codegen.proofs.Namings.{in-each}

-- indexes in a list
pub index-below : (xs : List ℕ) (x : ℕ) → IsIn x xs → index_of xs x < length xs
index-below [] x i = absurd i
index-below (y ∷ xs) x i = by (y == x) refl i (index-below xs x)
  where
    by : (b : Bool) → (y == x) ≡ b → IsIn x (y ∷ xs) → (IsIn x xs → index_of xs x < length xs) → cond b 0 (suc (index_of xs x)) < suc (length xs)
    by true e j so = omega arith
    by false e (inl f) so = absurd (true≢false (sym (eq-eqb y x f) ∙ e))
    by false e (inr j) so = let h = so j in omega (arith, h)

pub index-same : (xs : List ℕ) (x y : ℕ) → IsIn x xs → IsIn y xs → index_of xs x ≡ index_of xs y → x ≡ y
index-same [] x y i j e = absurd i
index-same (z ∷ xs) x y i j e = by (z == x) (z == y) refl refl e i j (index-same xs x y)
  where
    by : (a b : Bool) → (z == x) ≡ a → (z == y) ≡ b → cond a 0 (suc (index_of xs x)) ≡ cond b 0 (suc (index_of xs y)) → IsIn x (z ∷ xs) → IsIn y (z ∷ xs) →
        (IsIn x xs → IsIn y xs → index_of xs x ≡ index_of xs y → x ≡ y) → x ≡ y
    by true true f g h i2 j2 so = sym (eqb-true z x f) ∙ eqb-true z y g
    by true false f g h i2 j2 so = absurd (omega (arith, h))
    by false true f g h i2 j2 so = absurd (omega (arith, h))
    by false false f g h (inl r) j2 so = absurd (true≢false (sym (eq-eqb z x r) ∙ f))
    by false false f g h (inr k) (inl r) so = absurd (true≢false (sym (eq-eqb z y r) ∙ g))
    by false false f g h (inr k) (inr m) so = so k m (omega (arith, h))

-- a block says one thing
bind-name : {x z : ℕ} {op o : Op} {k b : Block} → Bind x op k ≡ Bind z o b → x ≡ z
bind-name e = cc

bind-op : {x z : ℕ} {op o : Op} {k b : Block} → Bind x op k ≡ Bind z o b → op ≡ o
bind-op e = cc

group-bind : {xs ls : List ℕ} {z : ℕ} {o : Op} {k b : Block} → CloseAll xs ls k ≡ Bind z o b → ⊥
group-bind e = cc

tail-bind : {op o : Op} {z : ℕ} {b : Block} → Tail op ≡ Bind z o b → ⊥
tail-bind e = cc

bind-group : {xs ls : List ℕ} {z : ℕ} {o : Op} {k b : Block} → Bind z o b ≡ CloseAll xs ls k → ⊥
bind-group e = cc

tail-group : {op : Op} {xs ls : List ℕ} {k : Block} → Tail op ≡ CloseAll xs ls k → ⊥
tail-group e = cc

group-names : {xs ls ys ms : List ℕ} {k b : Block} → CloseAll xs ls k ≡ CloseAll ys ms b → xs ≡ ys
group-names e = cc

-- a variable that no block binds is its own origin
pub origin-absent : (bs : List Block) (x : ℕ) → (IsIn x (of_each binders bs) → ⊥) → origin bs x ≡ x
origin-absent [] x h = refl
origin-absent (Bind z op b ∷ bs) x h = by (z == x) refl (origin-absent bs x (λ i. h (inr i)))
  where
    by : (c : Bool) → (z == x) ≡ c → origin bs x ≡ x → cond c (made_from x op) (origin bs x) ≡ x
    by true e so = absurd (h (inl (eqb-true z x e)))
    by false e so = so
origin-absent (CloseAll zs ls b ∷ bs) x h = origin-absent bs x (λ i. h (in-right zs _ x i))
origin-absent (Tail op ∷ bs) x h = origin-absent bs x h

-- one that a block binds has the origin that its operation gives
pub origin-bound : (bs : List Block) (x : ℕ) (op : Op) (k : Block) → IsIn (Bind x op k) bs → IsApart (of_each binders bs) → origin bs x ≡ made_from x op
origin-bound [] x op k i h = absurd i
origin-bound (Bind z o b ∷ bs) x op k (inl e) h =
    ap (λ c. cond c (made_from x o) (origin bs x)) (eq-eqb z x (bind-name e)) ∙ ap (made_from x) (bind-op e)
origin-bound (Bind z o b ∷ bs) x op k (inr i) h =
    by (z == x) refl (origin-bound bs x op k i h.1)
  where
    by : (c : Bool) → (z == x) ≡ c → origin bs x ≡ made_from x op → cond c (made_from x o) (origin bs x) ≡ made_from x op
    by true e so = absurd (h.0 (subst (λ w. IsIn w (of_each binders bs)) (sym (eqb-true z x e)) (in-each binders bs (Bind x op k) x i (inl refl))))
    by false e so = so
origin-bound (CloseAll zs ls b ∷ bs) x op k (inl e) h = absurd (group-bind e)
origin-bound (CloseAll zs ls b ∷ bs) x op k (inr i) h = origin-bound bs x op k i (apart-right zs _ h)
origin-bound (Tail o ∷ bs) x op k (inl e) h = absurd (tail-bind e)
origin-bound (Tail o ∷ bs) x op k (inr i) h = origin-bound bs x op k i h

-- one that is bound to a procedure of a group is its own origin
pub origin-group : (bs : List Block) (x : ℕ) (xs ls : List ℕ) (k : Block) → IsIn (CloseAll xs ls k) bs → IsIn x xs → IsApart (of_each binders bs) → origin bs x ≡ x
origin-group [] x xs ls k i j h = absurd i
origin-group (Bind z o b ∷ bs) x xs ls k (inl e) j h = absurd (bind-group e)
origin-group (Bind z o b ∷ bs) x xs ls k (inr i) j h =
    by (z == x) refl (origin-group bs x xs ls k i j h.1)
  where
    by : (c : Bool) → (z == x) ≡ c → origin bs x ≡ x → cond c (made_from x o) (origin bs x) ≡ x
    by true e so = absurd (h.0 (subst (λ w. IsIn w (of_each binders bs)) (sym (eqb-true z x e)) (in-each binders bs (CloseAll xs ls k) x i j)))
    by false e so = so
origin-group (CloseAll zs ms b ∷ bs) x xs ls k (inl e) j h =
    origin-absent bs x (λ i. apart-both zs (of_each binders bs) x h i (subst (IsIn x) (sym (group-names e)) j))
  where
    apart-both : (as' bs' : List ℕ) (y : ℕ) → IsApart (as' ++ bs') → IsIn y bs' → IsIn y as' → ⊥
    apart-both [] bs' y g i i2 = i2
    apart-both (a ∷ as') bs' y g i (inl f) = g.0 (in-right as' bs' a (subst (λ w. IsIn w bs') (sym f) i))
    apart-both (a ∷ as') bs' y g i (inr i2) = apart-both as' bs' y g.1 i i2
origin-group (CloseAll zs ms b ∷ bs) x xs ls k (inr i) j h = origin-group bs x xs ls k i j (apart-right zs _ h)
origin-group (Tail o ∷ bs) x xs ls k (inl e) j h = absurd (tail-group e)
origin-group (Tail o ∷ bs) x xs ls k (inr i) j h = origin-group bs x xs ls k i j h
