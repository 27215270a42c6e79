-- The items of procedures that are made together, one by one.
use Rattle.std.proofs.Common.{◌≡◌, refl, sym, ap, ◌∙◌, ℕ, zero, suc, ◌≤◌, ◌⊎◌, ⊎_elim, inl, inr, Bool, List, [], ◌∷◌, ◌++◌, length, drop, min, drop_of_length-le, append-nil, arith}
use Rattle.tb_mac.specs.declared.item.Item.{Item}
use Rattle.tb_codegen.specs.Operations.{Body}
use Rattle.tb_generate.specs.calls.Items.{make_items, write_items}

no_variables : (c : Body) (ss : List Bool) (ls : List ℕ) → make_items c ss [] ls ≡ []
no_variables c ss [] = refl
no_variables c ss (m ∷ ms) = refl

no_lambdas : (c : Body) (ss : List Bool) (ys : List ℕ) → make_items c ss ys [] ≡ []
no_lambdas c ss [] = refl
no_lambdas c ss (y ∷ ys) = refl

nothing_written : (c : Body) (ss : List Bool) (ls : List ℕ) → write_items c ss [] ls ≡ []
nothing_written c ss [] = refl
nothing_written c ss (m ∷ ms) = refl

none_written : (c : Body) (ss : List Bool) (ys : List ℕ) → write_items c ss ys [] ≡ []
none_written c ss [] = refl
none_written c ss (y ∷ ys) = refl

either_short : (a b i : ℕ) → min a b ≤ i → (a ≤ i) ⊎ (b ≤ i)
either_short zero b i le = inl (omega arith)
either_short (suc a) zero i le = inr (omega arith)
either_short (suc a) (suc b) zero le = absurd (omega (arith, le))
either_short (suc a) (suc b) (suc i) le = ⊎_elim (λ h. inl (omega (arith, h))) (λ h. inr (omega (arith, h))) (either_short a b i (omega (arith, le)))

-- behind the last pair nothing is left
pub makes-end : (c : Body) (ss : List Bool) (ys ls : List ℕ) (i : ℕ) (us vs : List Item) → min (length ys) (length ls) ≤ i →
    us ++ make_items c ss (drop i ys) (drop i ls) ≡ vs → us ≡ vs
makes-end c ss ys ls i us vs le e = sym (append-nil us) ∙ ap (λ k. us ++ k) (sym left) ∙ e
  where
    left : make_items c ss (drop i ys) (drop i ls) ≡ []
    left =
        ⊎_elim (λ a. ap (λ zs. make_items c ss zs (drop i ls)) (drop_of_length-le ys a) ∙ no_variables c ss (drop i ls))
        (λ b. ap (make_items c ss (drop i ys)) (drop_of_length-le ls b) ∙ no_lambdas c ss (drop i ys)) (either_short (length ys) (length ls) i le)

pub writes-end : (c : Body) (ss : List Bool) (ys ls : List ℕ) (i : ℕ) (us vs : List Item) → min (length ys) (length ls) ≤ i →
    us ++ write_items c ss (drop i ys) (drop i ls) ≡ vs → us ≡ vs
writes-end c ss ys ls i us vs le e = sym (append-nil us) ∙ ap (λ k. us ++ k) (sym left) ∙ e
  where
    left : write_items c ss (drop i ys) (drop i ls) ≡ []
    left =
        ⊎_elim (λ a. ap (λ zs. write_items c ss zs (drop i ls)) (drop_of_length-le ys a) ∙ nothing_written c ss (drop i ls))
        (λ b. ap (write_items c ss (drop i ys)) (drop_of_length-le ls b) ∙ none_written c ss (drop i ys)) (either_short (length ys) (length ls) i le)
