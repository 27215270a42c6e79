-- Looking up a name goes from a scope to the one around it.
use Rattle.std.proofs.Common.{◌≡◌, refl, ap, ◌∙◌, ℕ, zero, suc, ◌+◌, ◌-◌, ◌≤◌, ◌<◌, arith, Bool, true, false, cond, ◌==◌, List, [], ◌∷◌, length, map, reverse, take, get_or, Option, Some, None, eqb-true, ◌⊎◌, inl, inr}
use Rattle.std.proofs.lemmas.Bool.{eq-eqb, ne_eqb}
use Rattle.std.proofs.Math.Seq.{take-suc}
use Rattle.std.proofs.lemmas.List.{reverse-append, map-append, length-reverse, length-map, length-take-le}
use Rattle.tb_expand.specs.declared.state.Scope.{Scope as ScopeCode}
use Rattle.tb_expand.specs.Names.{Name, is_among}
use Rattle.tb_expand.specs.Trees.{Var}
use Rattle.tb_expand.specs.Scopes.{Scope, binding}
use Rattle.tb_expand.specs.View.{view_scope, older}

older_more : (xs : List ScopeCode) (n : ℕ) (d : ScopeCode) → n < length xs → older (take (suc n) xs) ≡ view_scope (get_or xs n d) ∷ older (take n xs)
older_more xs n d lt =
    ap older (take-suc xs n d lt) ∙ ap reverse (map-append view_scope (take n xs) (get_or xs n d ∷ [])) ∙ reverse-append (map view_scope (take n xs)) (view_scope (get_or xs n d) ∷ [])

older_length : (xs : List ScopeCode) → length (older xs) ≡ length xs
older_length xs = length-reverse (map view_scope xs) ∙ length-map xs view_scope

-- the scope of this number, or else the one around it among those before
abbrev pub found_in : ℕ → Name → Scope → List Scope → Option Var
found_in s x e es = cond (is_among x e.names) (Some (record { scope = s; name = x })) (binding es e.around x)

-- a number that no scope has
pub no_binding : (es : List Scope) (s : ℕ) (x : Name) → (s ≡ 0) ⊎ (length es < s) → binding es s x ≡ None
unfolding binding
no_binding [] s x h = refl
no_binding (e ∷ es) s x (inl h) =
    ap (λ b. cond b (found_in s x e es) (binding es s x)) (ne_eqb s (length es + 1) (λ q. omega arith)) ∙ no_binding es s x (inl h)
no_binding (e ∷ es) s x (inr h) =
    ap (λ b. cond b (found_in s x e es) (binding es s x)) (ne_eqb s (length es + 1) (λ q. omega arith)) ∙ no_binding es s x (inr (omega arith))

at_newest : (e : Scope) (es : List Scope) (s : ℕ) (x : Name) → s ≡ length es + 1 → binding (e ∷ es) s x ≡ found_in s x e es
unfolding binding
at_newest e es s x q = ap (λ b. cond b (found_in s x e es) (binding es s x)) (eq-eqb s (length es + 1) q)

not_newest : (e : Scope) (es : List Scope) (s : ℕ) (x : Name) → (s ≡ length es + 1 → ⊥) → binding (e ∷ es) s x ≡ binding es s x
unfolding binding
not_newest e es s x q = ap (λ b. cond b (found_in s x e es) (binding es s x)) (ne_eqb s (length es + 1) q)

abbrev At : List ScopeCode → ScopeCode → ℕ → Name → ℕ → Type 0
At xs d s x n = binding (older (take n xs)) s x ≡ found_in s x (view_scope (get_or xs (s - 1) d)) (older (take (s - 1) xs))

one_more : (xs : List ScopeCode) (d : ScopeCode) (s : ℕ) (x : Name) (n : ℕ) → n < length xs → (s ≤ n → At xs d s x n) → 1 ≤ s → s ≤ suc n → (b : Bool) → (s == suc n) ≡ b → At xs d s x (suc n)
one_more xs d s x n lt h p q true e =
    let t : s ≡ suc n = eqb-true s (suc n) e in
    let l = older_length (take n xs) ∙ length-take-le n xs (omega arith) in
    ap (λ es. binding es s x) (older_more xs n d lt) ∙ at_newest (view_scope (get_or xs n d)) (older (take n xs)) s x (omega arith)
    ∙ ap (λ k. found_in s x (view_scope (get_or xs k d)) (older (take k xs))) (let z : n ≡ s - 1 = omega arith in z)
one_more xs d s x n lt h p q false e =
    let l = older_length (take n xs) ∙ length-take-le n xs (omega arith) in
    let t : s ≡ suc n → ⊥ = λ z. let w = eq-eqb s (suc n) z in cc in
    ap (λ es. binding es s x) (older_more xs n d lt) ∙ not_newest (view_scope (get_or xs n d)) (older (take n xs)) s x (λ z. t (omega arith))
    ∙ h (omega (arith, t))

-- the innermost scope that a look-up comes to
pub found_at : (xs : List ScopeCode) (d : ScopeCode) (s : ℕ) (x : Name) (n : ℕ) → n ≤ length xs → 1 ≤ s → s ≤ n → At xs d s x n
found_at xs d s x zero le p q = absurd (omega arith)
found_at xs d s x (suc n) le p q = one_more xs d s x n (omega arith) (λ r. found_at xs d s x n (omega arith) p r) p q (s == suc n) refl

pub found_here : (xs : List ScopeCode) (d : ScopeCode) (s : ℕ) (x : Name) (n : ℕ) → n ≤ length xs → 1 ≤ s → s ≤ n → is_among x (view_scope (get_or xs (s - 1) d)).names ≡ true →
    binding (older (take n xs)) s x ≡ Some (record { scope = s; name = x })
found_here xs d s x n le p q e =
    found_at xs d s x n le p q
    ∙ ap (λ b. cond b (Some (record { scope = s; name = x })) (binding (older (take (s - 1) xs)) (view_scope (get_or xs (s - 1) d)).around x)) e

pub found_outside : (xs : List ScopeCode) (d : ScopeCode) (s : ℕ) (x : Name) (n : ℕ) → n ≤ length xs → 1 ≤ s → s ≤ n → is_among x (view_scope (get_or xs (s - 1) d)).names ≡ false →
    binding (older (take n xs)) s x ≡ binding (older (take (s - 1) xs)) (get_or xs (s - 1) d).around x
found_outside xs d s x n le p q e =
    found_at xs d s x n le p q
    ∙ ap (λ b. cond b (Some (record { scope = s; name = x })) (binding (older (take (s - 1) xs)) (view_scope (get_or xs (s - 1) d)).around x)) e

pub found_nowhere : (xs : List ScopeCode) (s : ℕ) (x : Name) (n : ℕ) → n ≤ length xs → (s ≡ 0) ⊎ (n < s) → binding (older (take n xs)) s x ≡ None
found_nowhere xs s x n le (inl h) = no_binding (older (take n xs)) s x (inl h)
found_nowhere xs s x n le (inr h) =
    let l = older_length (take n xs) ∙ length-take-le n xs le in
    no_binding (older (take n xs)) s x (inr (omega arith))
