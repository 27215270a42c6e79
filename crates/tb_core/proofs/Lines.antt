-- The line of a node has the number of each operand once, and the values by its numbers are those of all.
use Rattle.std.proofs.Common.{◌≡◌, refl, ap, ◌∙◌, ℕ, zero, suc, ◌+◌, ◌<◌, ◌≤◌, ◌⊎◌, inl, inr, ⊎_elim, arith, Bool, true, false, cond, ◌==◌, List, [], ◌∷◌, length, Some, length-append}
use Rattle.std.proofs.lemmas.Bool.{cases_Bool, cases_lt, eqb-true, eqb-false}
use Rattle.tb_semantics.specs.Graph.{IsIn, IsApart}
use Rattle.tb_core.specs.Tree.{Tree, Trees, none, more, count, tree_at}
use Rattle.tb_core.specs.OperandOrder.{is_simple, numbers, line_of}
use Rattle.tb_core.specs.Store.{Value}
use Rattle.tb_core.specs.Reference.{value_for, prepend, arranged}
use Rattle.tb_core.proofs.Members.{in-left, in-right, in-either, apart-append}

-- the number of one operand, where it is of the kind that is listed
abbrev own : Bool → Bool → ℕ → List ℕ
own c b n = cond c (cond b (n ∷ []) []) (cond b [] (n ∷ []))

own_in : (c b : Bool) (n j : ℕ) → IsIn j (own c b n) → n ≡ j
own_in true true n j i = ⊎_elim (λ e. e) (λ x. absurd x) i
own_in true false n j i = absurd i
own_in false true n j i = absurd i
own_in false false n j i = ⊎_elim (λ e. e) (λ x. absurd x) i

own_one : (c : Bool) (n j : ℕ) → n ≡ j → IsIn j (own c false n) ⊎ IsIn j (own c true n)
own_one true n j e = inr (inl e)
own_one false n j e = inl (inl e)

own_length : (c : Bool) (n : ℕ) → length (own c false n) + length (own c true n) ≡ 1
own_length true n = refl
own_length false n = refl

numbers_within : (a : ℕ → Bool) (b : Bool) (n : ℕ) (es : Trees) (j : ℕ) → IsIn j (numbers a b n es) → j < n + count es
numbers_within a b n none j i = absurd i
numbers_within a b n (more e es) j i =
    ⊎_elim (λ h. let q = own_in (is_simple a e) b n j h in omega arith) (λ h. let q = numbers_within a b (suc n) es j h in omega arith)
    (in-either j (own (is_simple a e) b n) _ i)

numbers_all : (a : ℕ → Bool) (n : ℕ) (es : Trees) (j : ℕ) → n ≤ j → j < n + count es → IsIn j (numbers a false n es) ⊎ IsIn j (numbers a true n es)
numbers_all a n none j h k = absurd (omega arith)
numbers_all a n (more e es) j h k =
    ⊎_elim
    (λ q. ⊎_elim (λ i. inl (in-left j (own (is_simple a e) false n) _ i)) (λ i. inr (in-left j (own (is_simple a e) true n) _ i)) (own_one (is_simple a e) n j (eqb-true n j q)))
    (λ q. let ne = eqb-false n j q in
    ⊎_elim (λ i. inl (in-right j (own (is_simple a e) false n) _ i)) (λ i. inr (in-right j (own (is_simple a e) true n) _ i)) (numbers_all a (suc n) es j (past n j h ne) (omega arith)))
    (cases_Bool (n == j))
  where
    past : (n j : ℕ) → n ≤ j → (n ≡ j → ⊥) → suc n ≤ j
    past n j h ne = ⊎_elim (λ l. l) (λ g. absurd (ne (omega arith))) (cases_lt n j)

numbers_length : (a : ℕ → Bool) (n : ℕ) (es : Trees) → length (numbers a false n es) + length (numbers a true n es) ≡ count es
numbers_length a n none = refl
numbers_length a n (more e es) =
    let h = numbers_length a (suc n) es in
    let o = own_length (is_simple a e) n in
    let p = length-append (own (is_simple a e) false n) (numbers a false (suc n) es) in
    let q = length-append (own (is_simple a e) true n) (numbers a true (suc n) es) in
    omega arith

pub line-within : (a : ℕ → Bool) (es : Trees) (j : ℕ) → IsIn j (line_of a es) → j < count es
line-within a es j i =
    ⊎_elim (λ h. let q = numbers_within a false 0 es j h in omega arith) (λ h. let q = numbers_within a true 0 es j h in omega arith)
    (in-either j (numbers a false 0 es) _ i)

pub line-all : (a : ℕ → Bool) (es : Trees) (j : ℕ) → j < count es → IsIn j (line_of a es)
line-all a es j h =
    ⊎_elim (λ i. in-left j (numbers a false 0 es) _ i) (λ i. in-right j (numbers a false 0 es) _ i)
    (numbers_all a 0 es j (omega arith) (omega arith))

pub line-length : (a : ℕ → Bool) (es : Trees) → length (line_of a es) ≡ count es
line-length a es = length-append (numbers a false 0 es) (numbers a true 0 es) ∙ numbers_length a 0 es

numbers_from : (a : ℕ → Bool) (b : Bool) (n : ℕ) (es : Trees) (j : ℕ) → IsIn j (numbers a b n es) → n ≤ j
numbers_from a b n none j i = absurd i
numbers_from a b n (more e es) j i =
    ⊎_elim (λ h. let q = own_in (is_simple a e) b n j h in omega arith) (λ h. let q = numbers_from a b (suc n) es j h in omega arith)
    (in-either j (own (is_simple a e) b n) _ i)

own_apart : (c b : Bool) (n : ℕ) → IsApart (own c b n)
own_apart true true n = (λ i. absurd i, tt)
own_apart true false n = tt
own_apart false true n = tt
own_apart false false n = (λ i. absurd i, tt)

own_kinds : (c : Bool) (n j : ℕ) → IsIn j (own c false n) → IsIn j (own c true n) → ⊥
own_kinds true n j i k = absurd i
own_kinds false n j i k = absurd k

numbers_apart : (a : ℕ → Bool) (b : Bool) (n : ℕ) (es : Trees) → IsApart (numbers a b n es)
numbers_apart a b n none = tt
numbers_apart a b n (more e es) =
    apart-append (own (is_simple a e) b n) (numbers a b (suc n) es) (own_apart (is_simple a e) b n) (numbers_apart a b (suc n) es)
    (λ j i k. let q = own_in (is_simple a e) b n j i in let r = numbers_from a b (suc n) es j k in absurd (omega arith))

numbers_kinds : (a : ℕ → Bool) (n : ℕ) (es : Trees) (j : ℕ) → IsIn j (numbers a false n es) → IsIn j (numbers a true n es) → ⊥
numbers_kinds a n none j i k = absurd i
numbers_kinds a n (more e es) j i k =
    ⊎_elim
    (λ g. ⊎_elim (λ h. own_kinds (is_simple a e) n j g h)
    (λ h. let q = own_in (is_simple a e) false n j g in let r = numbers_from a true (suc n) es j h in absurd (omega arith))
    (in-either j (own (is_simple a e) true n) _ k))
    (λ g. ⊎_elim (λ h. let q = own_in (is_simple a e) true n j h in let r = numbers_from a false (suc n) es j g in absurd (omega arith))
    (λ h. numbers_kinds a (suc n) es j g h)
    (in-either j (own (is_simple a e) true n) _ k))
    (in-either j (own (is_simple a e) false n) _ i)

pub line-apart : (a : ℕ → Bool) (es : Trees) → IsApart (line_of a es)
line-apart a es =
    apart-append (numbers a false 0 es) (numbers a true 0 es) (numbers_apart a false 0 es) (numbers_apart a true 0 es)
    (numbers_kinds a 0 es)

pub tree-within : (es : Trees) (j : ℕ) → j < count es → (e : Tree) × (tree_at es j ≡ Some e)
tree-within none j h = absurd (omega arith)
tree-within (more e es) zero h = (e, refl)
tree-within (more e es) (suc j) h = tree-within es j (omega arith)

value_found : (j : ℕ) (line : List ℕ) (vs : List Value) → IsIn j line → length line ≤ length vs → (v : Value) × (value_for j line vs ≡ Some v)
value_found j [] vs i h = absurd i
value_found j (n ∷ line) [] i h = absurd (omega arith)
value_found j (n ∷ line) (v ∷ vs) i h =
    ⊎_elim
    (λ q. (v, ap (λ b. cond b (Some v) (value_for j line vs)) q))
    (λ q. let f = value_found j line vs (⊎_elim (λ e. absurd (eqb-false n j q e)) (λ k. k) i) (omega arith) in
    (f.0, ap (λ b. cond b (Some v) (value_for j line vs)) q ∙ f.1))
    (cases_Bool (n == j))

pub arranged-length : (i k : ℕ) (line : List ℕ) (vs : List Value) → ((j : ℕ) → j < i + k → IsIn j line) → length line ≤ length vs → length (arranged i k line vs) ≡ k
arranged-length i zero line vs h le = refl
arranged-length i (suc k) line vs h le =
    let f = value_found i line vs (h i (omega arith)) le in
    ap (λ o. length (prepend o (arranged (suc i) k line vs))) f.1
    ∙ ap suc (arranged-length (suc i) k line vs (λ j g. h j (omega arith)) le)
