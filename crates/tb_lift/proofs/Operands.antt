-- Operands of both programs by their numbers, and their values.
use Rattle.std.proofs.Common.{◌≡◌, refl, sym, ap, ◌∙◌, subst, subst₂, ℕ, zero, suc, ◌+◌, ◌<◌, arith, inl, inr, ⊎_elim, Bool, true, false, cond, ◌==◌, List, [], ◌∷◌, ◌++◌, length, Option, Some, None, slice_get, eqb-true}
use Rattle.std.proofs.lemmas.Bool.{eqb-false}
use Rattle.tb_prim.specs.declared.constant.Const.{Const}
use Rattle.tb_prim.specs.declared.place.Place.{Place}
use Rattle.tb_semantics.specs.Graph.{IsIn, below}
use Rattle.tb_semantics.proofs.Reachable.{below_in, in_below, apart_below}
use Rattle.tb_core.specs.Tree.{option_list}
use Rattle.tb_core.specs.Store.{Value}
use Rattle.tb_core.specs.Reference.{value_for, prepend, arranged}
use Rattle.tb_core.specs.Partners as Like
use Rattle.tb_core.proofs.Members.{in-left, in-right, in-either, no-longer, without-sub}
use Rattle.tb_ir.specs.Tree.{Tree, Node, Form, Quote, Lambda, Let, Trees, none, more, count, tree_at, operands}
use Rattle.tb_ir.specs.FreeVariables.{free}
use Rattle.tb_ir.specs.Rules.{IsPermutation}
use Rattle.tb_ir.specs.Machine.{Env}
use Rattle.tb_ir.specs.TreeMachine.{numbers, line_or_written, free_of_numbers, free_of_tree, free_of_body}
use Rattle.tb_lift.proofs.Environments.{in-or-not, left-in, left-not}
use Rattle.tb_lift.proofs.Rel as Rel
use Rattle.tb_lift.proofs.Rel.{World, AllAlike, Pass, source, target, Becomes, FormBecomes, BoundBecome, bound_end, bound_plain, bound_lifted, BecomeAll, all_end, all_more, Uses, plainly, added_by, entered, names_at, kind, lifted_of, ValueRel, ValuesRel, source_operands, target_operands}
use Rattle.tb_lift.proofs.Uses.{Fits, some-none, some-same, uses-sub, uses-left, uses-right, added-uses, uses-tree}
use Rattle.tb_lift.proofs.Scopes.{Bindings, no_binding, one_binding, plain_of}

below_length : (n : ℕ) → length (below n) ≡ n
below_length zero = refl
below_length (suc n) = ap suc (below_length n)

-- a permutation of so many numbers is as long
pub permutation-length : (line : List ℕ) (n : ℕ) → IsPermutation line n → length line ≡ n
permutation-length line n h =
    let a = no-longer line (below n) h.apart (λ i t. below_in n i (h.within i t)) in
    let b = no-longer (below n) line (apart_below n) (λ i t. h.full i (in_below n i t)) in
    let e = below_length n in
    omega arith

module _ (z : Pass) where
  pub count-all : {n : ℕ} {es ds : Trees} → BecomeAll z n es ds → count ds ≡ count es
  count-all all_end = refl
  count-all (all_more a b) = ap (λ k. 1 + k) (count-all b)

  count_bound : {n : ℕ} {xs : List ℕ} {es ds : Trees} → BoundBecome z n xs es ds → count ds ≡ count es
  count_bound bound_end = refl
  count_bound (bound_plain k a b) = ap (λ k. 1 + k) (count_bound b)
  count_bound (bound_lifted k d e b) = ap (λ k. 1 + k) (count_bound b)

  pub long-bound : {n : ℕ} {xs : List ℕ} {es ds : Trees} → BoundBecome z n xs es ds → length xs ≡ count es
  long-bound bound_end = refl
  long-bound (bound_plain k a b) = let h = long-bound b in omega arith
  long-bound (bound_lifted k d e b) = let h = long-bound b in omega arith

  -- the numbers of the operands are the same
  pub numbers-same : {i : ℕ} {f g : Form} → FormBecomes z i f g → (line : Option (List ℕ)) → numbers line g ≡ numbers line f
  numbers-same (Rel.new_cell a) line = refl
  numbers-same (Rel.cell_get a) line = refl
  numbers-same (Rel.cell_set a b) line = refl
  numbers-same (Rel.call a b) line = ap (λ n. line_or_written line (1 + n)) (count-all b)
  numbers-same (Rel.primitive b) line = ap (line_or_written line) (count-all b)
  numbers-same (Rel.apply a b) line = refl
  numbers-same (Rel.let_values b c a) line = ap (line_or_written line) (count_bound b)

  -- an operand of both
  pub data OperandPair (i : ℕ) : Option ℕ → Option Tree → Option Tree → Type 0 where
    no_operand : {o : Option ℕ} → OperandPair i o None None
    operand_stays : {e d : Tree} → Becomes z i e d → OperandPair i None (Some e) (Some d)
    operand_lifted : {l s : ℕ} {p : Place} → z.choice.lifted l ≡ true →
        OperandPair i (Some l) (Some (Node p s (Lambda l))) (Some (Node p s (Quote Const.Unspecified)))

  pub all-at : {i : ℕ} {es ds : Trees} → BecomeAll z i es ds → (n : ℕ) → OperandPair i None (tree_at es n) (tree_at ds n)
  all-at all_end n = no_operand
  all-at (all_more a b) zero = operand_stays a
  all-at (all_more a b) (suc n) = all-at b n

  bound_at : {i : ℕ} {xs : List ℕ} {es ds : Trees} → BoundBecome z i xs es ds → (n : ℕ) →
      OperandPair i (names_at z (slice_get xs n)) (tree_at es n) (tree_at ds n)
  bound_at bound_end n = no_operand
  bound_at {i} (bound_plain {e = e} {d = d} k a b) zero =
      subst (λ o. OperandPair i o (Some e) (Some d)) (sym k) (operand_stays a)
  bound_at (bound_plain k a b) (suc n) = bound_at b n
  bound_at {i} (bound_lifted {s = s} {l = l} {p = p} k d e b) zero =
      subst (λ o. OperandPair i o (Some (Node p s (Lambda l))) (Some (Node p s (Quote Const.Unspecified)))) (sym e)
      (operand_lifted d)
  bound_at (bound_lifted k d e b) (suc n) = bound_at b n

  one_at : {i : ℕ} {e d : Tree} → Becomes z i e d → (n : ℕ) →
      OperandPair i None (tree_at (more e none) n) (tree_at (more d none) n)
  one_at a n = all-at (all_more a all_end) n

  pub operand-at : {i : ℕ} {f g : Form} → FormBecomes z i f g → (n : ℕ) →
      OperandPair i (kind z f n) (tree_at (operands f) n) (tree_at (operands g) n)
  operand-at (Rel.new_cell a) n = one_at a n
  operand-at (Rel.cell_get a) n = one_at a n
  operand-at (Rel.cell_set a b) n = all-at (all_more a (all_more b all_end)) n
  operand-at (Rel.call a b) n = all-at (all_more a b) n
  operand-at (Rel.primitive b) n = all-at b n
  operand-at (Rel.apply a b) n = all-at (all_more a (all_more b all_end)) n
  operand-at (Rel.let_values b c a) n = bound_at b n

  module _ (fits : Fits z) where
    uses_pair : {i : ℕ} {o : Option ℕ} {a b : Option Tree} → OperandPair i o a b → (y : ℕ) →
        IsIn y (free_of_tree (target z) b) → Uses z [] (free_of_tree (source z) a) y
    uses_pair no_operand y j = absurd j
    uses_pair (operand_stays a) y j = uses-tree z fits a y j
    uses_pair (operand_lifted d) y j = absurd j

    pub uses-numbers : {i : ℕ} (k : ℕ → Option ℕ) (es ds : Trees) →
        ((n : ℕ) → OperandPair i (k n) (tree_at es n) (tree_at ds n)) → (ns : List ℕ) (y : ℕ) →
        IsIn y (free_of_numbers (target z) ds ns) → Uses z [] (free_of_numbers (source z) es ns) y
    uses-numbers k es ds h [] y j = absurd j
    uses-numbers k es ds h (n ∷ ns) y j =
        ⊎_elim (λ b. uses-left z _ (uses_pair (h n) y b)) (λ b. uses-right z _ (uses-numbers k es ds h ns y b))
        (in-either y (free_of_tree (target z) (tree_at ds n)) _ j)

  pub uses-any : {ls xs : List ℕ} {y : ℕ} → Uses z [] xs y → Uses z ls xs y
  uses-any (plainly i e) = plainly i e
  uses-any (added_by f l i e a) = added_by f l i e a
  uses-any (entered l i a) = absurd i

  -- the lambda expression of a variable of a `let`, by its number
  record LambdaAt (xs : List ℕ) (es : Trees) (l : ℕ) : Type 0 where
    number : ℕ
    within : number < count es
    kind_is : names_at z (slice_get xs number) ≡ Some l
    names : (x : ℕ) → IsIn x (z.source_free l) → IsIn x (free_of_tree (source z) (tree_at es number))

  lambda_at : {i : ℕ} {xs : List ℕ} {es ds : Trees} → BoundBecome z i xs es ds → (f l : ℕ) → IsIn f xs →
      z.choice.names f ≡ Some l → LambdaAt xs es l
  lambda_at bound_end f l j e = absurd j
  lambda_at (bound_plain k a b) f l (inl q) e =
      absurd (some-none (z.choice.names f) l (subst (λ a. z.choice.names a ≡ None) q k) e)
  lambda_at (bound_plain k a b) f l (inr j) e =
      let h = lambda_at b f l j e in
      let lt = h.within in
      record { number = suc h.number; within = omega arith; kind_is = h.kind_is; names = h.names }
  lambda_at (bound_lifted {l = m} k d n b) f l (inl q) e =
      let same : m ≡ l = some-same (z.choice.names f) m l (subst (λ a. z.choice.names a ≡ Some m) q n) e in
      record {
        number = 0;
        within = omega arith;
        kind_is = n ∙ ap Some same;
        names = λ x c. subst (λ a. IsIn x (z.source_free a)) (sym same) c;
      }
  lambda_at (bound_lifted k d n b) f l (inr j) e =
      let h = lambda_at b f l j e in
      let lt = h.within in
      record { number = suc h.number; within = omega arith; kind_is = h.kind_is; names = h.names }

  in_lifted : (f : Form) (ns : List ℕ) (k l : ℕ) → IsIn k ns → kind z f k ≡ Some l → IsIn l (lifted_of z f ns)
  in_lifted f [] k l i e = absurd i
  in_lifted f (n ∷ ns) k l (inl q) e =
      in-left l (option_list (kind z f n)) _
      (subst (λ o. IsIn l (option_list o)) (sym (ap (kind z f) q ∙ e)) (inl refl))
  in_lifted f (n ∷ ns) k l (inr i) e = in-right l (option_list (kind z f n)) _ (in_lifted f ns k l i e)

  in_numbers : (es : Trees) (ns : List ℕ) (n x : ℕ) → IsIn n ns → IsIn x (free_of_tree (source z) (tree_at es n)) →
      IsIn x (free_of_numbers (source z) es ns)
  in_numbers es [] n x i j = absurd i
  in_numbers es (k ∷ ns) n x (inl q) j =
      in-left x _ _ (subst (λ a. IsIn x (free_of_tree (source z) (tree_at es a))) (sym q) j)
  in_numbers es (k ∷ ns) n x (inr i) j = in-right x _ _ (in_numbers es ns n x i j)

  module _ (fits : Fits z) where
    body_uses : {i : ℕ} {xs : List ℕ} {es ds : Trees} (e : Tree) (done ns : List ℕ) → BoundBecome z i xs es ds →
        ((j : ℕ) → j < count es → IsIn j (done ++ ns)) → (y : ℕ) → (IsIn y xs → ⊥) → Uses z [] (free z.source_free e) y →
        Uses z (lifted_of z (Let xs es e) done) (source_operands z (Let xs es e) ns) y
    body_uses {xs = xs} {es = es} e done ns b full y away (plainly j k) =
        plainly (in-right y (free_of_numbers (source z) es ns) _ (left-in xs (free z.source_free e) y away j)) k
    body_uses {xs = xs} {es = es} e done ns b full y away (added_by f l j k a) =
        ⊎_elim
        (λ in_let.
        let h = lambda_at b f l in_let k in
        ⊎_elim
        (λ c. entered l (in_lifted (Let xs es e) done h.number l c h.kind_is) a)
        (λ c. uses-sub z (λ x t. in-left x (free_of_numbers (source z) es ns) _ (in_numbers es ns h.number x c (h.names x t)))
        (added-uses z a))
        (in-either h.number done ns (full h.number h.within)))
        (λ out. added_by f l (in-right f (free_of_numbers (source z) es ns) _ (left-in xs (free z.source_free e) f out j)) k a)
        (in-or-not f xs)
    body_uses e done ns b full y away (entered l j a) = absurd j

    -- what the operands that are left name, and what comes after them
    pub uses-operands : {i : ℕ} {f g : Form} → FormBecomes z i f g → (done ns : List ℕ) →
        ((j : ℕ) → j < count (operands f) → IsIn j (done ++ ns)) → (y : ℕ) → IsIn y (target_operands z g ns) →
        Uses z (lifted_of z f done) (source_operands z f ns) y
    uses-operands {f = f} {g = g} b done ns full y j =
        ⊎_elim
        (λ c. uses-left z _ (uses-any (uses-numbers fits (kind z f) (operands f) (operands g) (operand-at b) ns y c)))
        (λ c. of_body b full c)
        (in-either y (free_of_numbers (target z) (operands g) ns) _ j)
      where
        of_body : {i : ℕ} {f g : Form} → FormBecomes z i f g → ((j : ℕ) → j < count (operands f) → IsIn j (done ++ ns)) →
            IsIn y (free_of_body (target z) g) → Uses z (lifted_of z f done) (source_operands z f ns) y
        of_body (Rel.new_cell a) full c = absurd c
        of_body (Rel.cell_get a) full c = absurd c
        of_body (Rel.cell_set a b) full c = absurd c
        of_body (Rel.call a b) full c = absurd c
        of_body (Rel.primitive b) full c = absurd c
        of_body (Rel.apply a b) full c = absurd c
        of_body (Rel.let_values {xs = xs} {e = e} {d = d} b k a) full c =
            body_uses e done ns b full y (left-not xs (free z.target_free d) y c)
            (uses-tree z fits a y (without-sub xs (free z.target_free d) y c))

-- values by their numbers, the first of which is i
pub data Numbered (z : Pass) (w : World) (m : Env) (k : ℕ → Option ℕ) : ℕ → List Value → List Value → Type 0 where
  no_more : {i : ℕ} → Numbered z w m k i [] []
  next_one : {i : ℕ} {v u : Value} {vs us : List Value} → ValueRel z w m (k i) v u → Numbered z w m k (suc i) vs us →
      Numbered z w m k i (v ∷ vs) (u ∷ us)

-- the value of a number is there on both sides
record Found (z : Pass) (w : World) (m : Env) (f : Form) (i : ℕ) (ns : List ℕ) (vs us : List Value) : Type 0 where
  value : Value
  other : Value
  here : value_for i ns vs ≡ Some value
  there : value_for i ns us ≡ Some other
  alike : ValueRel z w m (kind z f i) value other

module _ (z : Pass) (w : World) (m : Env) where
  found_first : (f : Form) (i n : ℕ) (v u : Value) (ns : List ℕ) (vs us : List Value) (b : Bool) → (n == i) ≡ b →
      ValueRel z w m (kind z f n) v u → (b ≡ false → Found z w m f i ns vs us) → Found z w m f i (n ∷ ns) (v ∷ vs) (u ∷ us)
  found_first f i n v u ns vs us true e h rest = record {
    value = v;
    other = u;
    here = ap (λ b. cond b (Some v) (value_for i ns vs)) e;
    there = ap (λ b. cond b (Some u) (value_for i ns us)) e;
    alike = subst (λ k. ValueRel z w m (kind z f k) v u) (eqb-true n i e) h;
  }
  found_first f i n v u ns vs us false e h rest =
      let k = rest refl in
      record {
        value = k.value;
        other = k.other;
        here = ap (λ b. cond b (Some v) (value_for i ns vs)) e ∙ k.here;
        there = ap (λ b. cond b (Some u) (value_for i ns us)) e ∙ k.there;
        alike = k.alike;
      }

  value_found : {f : Form} (i : ℕ) {ns : List ℕ} {vs us : List Value} → ValuesRel z w m f ns vs us → IsIn i ns →
      Found z w m f i ns vs us
  value_found i Rel.none_yet j = absurd j
  value_found {f} i (Rel.one_more {n = n} {ns = ns} {v = v} {u = u} {vs = vs} {us = us} h hs) j =
      found_first f i n v u ns vs us (n == i) refl h
      (λ q. value_found i hs (⊎_elim (λ same. absurd (eqb-false n i q same)) (λ k. k) j))

  -- all numbers from one on
  pub arranged-related : {f : Form} (i k : ℕ) {ns : List ℕ} {vs us : List Value} → ValuesRel z w m f ns vs us →
      ((j : ℕ) → j < i + k → IsIn j ns) →
      Numbered z w m (kind z f) i (arranged i k ns vs) (arranged i k ns us) × (length (arranged i k ns vs) ≡ k)
  arranged-related i zero h all = (no_more, refl)
  arranged-related {f} i (suc k) {ns = ns} {vs = vs} {us = us} h all =
      let n = value_found i h (all i (omega arith)) in
      let rest = arranged-related (suc i) k h (λ j lt. all j (omega arith)) in (
        subst₂
            (λ o p. Numbered z w m (kind z f) i (prepend o (arranged (suc i) k ns vs)) (prepend p (arranged (suc i) k ns us)))
            (sym n.here) (sym n.there) (next_one n.alike rest.0),
        ap (λ o. length (prepend o (arranged (suc i) k ns vs))) n.here ∙ ap suc rest.1,
      )

  -- where no operand is a lambda expression that is lifted
  pub all-alike : {k : ℕ → Option ℕ} {i : ℕ} {vs us : List Value} → ((i : ℕ) → k i ≡ None) → Numbered z w m k i vs us →
      AllAlike w vs us
  all-alike never no_more = Like.nothing
  all-alike never (next_one {i = i} h hs) = Like.further (plain_of z w (never i) h) (all-alike never hs)

  shifted : (k : ℕ → Option ℕ) {i : ℕ} {vs us : List Value} → Numbered z w m k (suc i) vs us →
      Numbered z w m (λ n. k (suc n)) i vs us
  shifted k no_more = no_more
  shifted k (next_one h hs) = next_one h (shifted k hs)

  -- the values of the variables of a `let`
  pub bindings-numbered : (xs : List ℕ) {vs us : List Value} → length vs ≡ length xs →
      Numbered z w m (λ n. names_at z (slice_get xs n)) 0 vs us → Bindings z w m xs vs us
  bindings-numbered [] e no_more = no_binding
  bindings-numbered [] e (next_one h hs) = absurd (omega arith)
  bindings-numbered (x ∷ xs) e no_more = absurd (omega arith)
  bindings-numbered (x ∷ xs) e (next_one h hs) =
      one_binding h (bindings-numbered xs (omega arith) (shifted (λ n. names_at z (slice_get (x ∷ xs) n)) hs))

  pub values-last : {f : Form} {ns : List ℕ} {vs us : List Value} (n : ℕ) (v u : Value) → ValuesRel z w m f ns vs us →
      ValueRel z w m (kind z f n) v u → ValuesRel z w m f (ns ++ n ∷ []) (vs ++ v ∷ []) (us ++ u ∷ [])
  values-last n v u Rel.none_yet h = Rel.one_more h Rel.none_yet
  values-last n v u (Rel.one_more k ks) h = Rel.one_more k (values-last n v u ks h)

  pub values-long : {f : Form} {ns : List ℕ} {vs us : List Value} → ValuesRel z w m f ns vs us →
      (length vs ≡ length ns) × (length us ≡ length ns)
  values-long Rel.none_yet = (refl, refl)
  values-long (Rel.one_more h hs) = let k = values-long hs in (ap suc k.0, ap suc k.1)
