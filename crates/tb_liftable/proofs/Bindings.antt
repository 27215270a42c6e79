-- The ends of the loops over the variables of a `let` and of a `letrec`.
use Rattle.std.proofs.Common.{◌≡◌, refl, sym, ap, ◌∙◌, ℕ, ◌≤◌, ◌⊎◌, inl, inr, min, arith, List, [], ◌∷◌, ◌++◌, length, map, drop, drop_of_length-le, append-nil}
use Rattle.tb_semantics.proofs.SameEnd.{either_le}
use Rattle.tb_core.specs.declared.expr.Expr.{Expr}
use Rattle.tb_core.specs.Tree.{Trees, none, more}
use Rattle.tb_core.specs.View.{view, trees}
use Rattle.tb_liftable.specs.declared.mentions.Mention.{Mention}
use Rattle.tb_liftable.specs.Mentions.{let_bound, letrec_bound}

least : (a b i : ℕ) → min a b ≤ i → (a ≤ i) ⊎ (b ≤ i)
least a b i h = elim (either_le a b) [ inl l ↦ inl (omega arith) | inr l ↦ inr (omega arith) ]

let_no_variables : (es : Trees) → let_bound [] es ≡ []
let_no_variables none = refl
let_no_variables (more e es) = refl

letrec_no_lambdas : (xs : List ℕ) → letrec_bound xs [] ≡ []
letrec_no_lambdas [] = refl
letrec_no_lambdas (x ∷ xs) = refl

pub let-end : (xs : List ℕ) (es : List Expr) (i : ℕ) (out all : List Mention) → min (length xs) (length es) ≤ i → out ++ let_bound (drop i xs) (trees (map view (drop i es))) ≡ all → out ≡ all
let-end xs es i out all h k =
    let nothing : let_bound (drop i xs) (trees (map view (drop i es))) ≡ [] =
    elim (least (length xs) (length es) i h) [
      | inl l ↦ ap (λ v. let_bound v (trees (map view (drop i es)))) (drop_of_length-le xs l) ∙ let_no_variables (trees (map view (drop i es)))
      | inr l ↦ ap (λ (v : List Expr). let_bound (drop i xs) (trees (map view v))) (drop_of_length-le es l)
    ] in
    sym (append-nil out) ∙ ap (λ zs. out ++ zs) (sym nothing) ∙ k

pub letrec-end : (xs ls : List ℕ) (i : ℕ) (out all : List Mention) → min (length xs) (length ls) ≤ i → out ++ letrec_bound (drop i xs) (drop i ls) ≡ all → out ≡ all
letrec-end xs ls i out all h k =
    let nothing : letrec_bound (drop i xs) (drop i ls) ≡ [] =
    elim (least (length xs) (length ls) i h) [
      | inl l ↦ ap (λ v. letrec_bound v (drop i ls)) (drop_of_length-le xs l)
      | inr l ↦ ap (λ v. letrec_bound (drop i xs) v) (drop_of_length-le ls l) ∙ letrec_no_lambdas (drop i xs)
    ] in
    sym (append-nil out) ∙ ap (λ zs. out ++ zs) (sym nothing) ∙ k
