use Rattle.std.proofs.Common.{refl, inl, inr, ⊎_elim, sym, subst, ℕ, arith, [], ◌∷◌}
use Rattle.tb_semantics.specs.Graph.{IsIn, Reaches, root, child}
use Rattle.tb_core.specs.Examples.{closure_of_one}
use Rattle.tb_reference.specs.Locations.{graph_at}
use Rattle.tb_reference.proofs.examples.worked_locations.Goals as goal

reached : (l : ℕ) → Reaches (graph_at closure_of_one [] 8) l → IsIn l (2 ∷ 1 ∷ [])
reached l (root i) = ⊎_elim inl (λ j. absurd j) i
reached l (child {k = k} r i) = next k (reached k r) i
  where
    next : (k : ℕ) → IsIn k (2 ∷ 1 ∷ []) → IsIn l ((graph_at closure_of_one [] 8).next k) → IsIn l (2 ∷ 1 ∷ [])
    next k (inl e) i = inr (subst (λ m. IsIn l ((graph_at closure_of_one [] 8).next m)) (sym e) i)
    next k (inr (inl e)) i = absurd (subst (λ m. IsIn l ((graph_at closure_of_one [] 8).next m)) (sym e) i)
    next k (inr (inr j)) i = absurd j

pub returns-clause-listed : goal.returns-clause-listed
returns-clause-listed c = record {
  apart = (λ i. ⊎_elim (λ e. absurd (omega arith)) (λ j. absurd j) i, (λ i. absurd i, tt));
  sound = λ l i. ⊎_elim (λ e. root (inl e)) (λ j. child (root (inl refl)) j) i;
  full = reached;
}

pub returns-clause-no_object : goal.returns-clause-no_object
returns-clause-no_object c = λ h. absurd (let lt = h 3 (inl refl) in omega arith)
