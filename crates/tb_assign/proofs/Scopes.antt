-- The lambda expressions of a program with cells stand where those of its source do, and its forms have no free
-- variables.
use Rattle.std.proofs.Common.{◌≡◌, refl, sym, ap, ◌∙◌, subst, ℕ, ◌<◌, inl, Bool, true, List, [], ◌∷◌, length, append-nil}
use Rattle.tb_semantics.specs.Graph.{IsIn, IsApart}
use Rattle.tb_core.specs.Tree.{ProgramTree}
use Rattle.tb_core.specs.FreeVariables.{is_in, is_assigned, inner_free}
use Rattle.tb_core.specs.Rules.{KeepsRules, standing, inner_all}
use Rattle.tb_core.proofs.Members.{append-same}
use Rattle.tb_ir.specs.FreeVariables as F
use Rattle.tb_ir.specs.Rules as K
use Rattle.tb_ir.specs.Rules.{nodes_of, nodes_of_lambdas, of_nodes, standing_at}
use Rattle.tb_assign.specs.Eliminate.{eliminate_all, eliminate_lambdas, cells_of}
use Rattle.tb_assign.proofs.AllNamed.{all-named}
use Rattle.tb_assign.proofs.Free.{same-all, same-inner}
use Rattle.tb_assign.proofs.InnerSmall.{inner-small}
use Rattle.tb_assign.proofs.ReadyFrom.{ready-from}
use Rattle.tb_assign.proofs.Standing.{of-nodes-append, all-standing, lambdas-standing, lambdas-count, still-greater}

pub stands-same : (p : ProgramTree) → K.standing (cells_of p) ≡ standing p
stands-same p =
    let g : ℕ → Bool = is_assigned p in
    append-nil (of_nodes standing_at (K.all_nodes (cells_of p)))
    ∙ of-nodes-append standing_at (nodes_of (eliminate_all g p.forms)) (nodes_of_lambdas (eliminate_lambdas g 0 p.lambdas))
    ∙ append-same (of_nodes standing_at (nodes_of (eliminate_all g p.forms))) _ (inner_all p.forms) _ (all-standing g p.forms) (lambdas-standing g 0 p.lambdas)

empty : (xs : List ℕ) → ((y : ℕ) → IsIn y xs → ⊥) → xs ≡ []
empty [] h = refl
empty (x ∷ xs) h = absurd (h x (inl refl))

module _ (p : ProgramTree) (r : KeepsRules p) where
  pub at-most-once : IsApart (K.standing (cells_of p))
  at-most-once = subst IsApart (sym (stands-same p)) r.lambdas_at_most_once

  pub at-least-once : (l : ℕ) → l < length (cells_of p).lambdas → is_in (K.standing (cells_of p)) l ≡ true
  at-least-once l lt = ap (λ xs. is_in xs l) (stands-same p)
      ∙ r.lambdas_at_least_once l (subst (λ n. l < n) (lambdas-count (is_assigned p) 0 p.lambdas) lt)

  pub greater : K.InnerAreGreater 0 (cells_of p).lambdas
  greater = still-greater (is_assigned p) 0 0 p.lambdas r.inner_greater

  pub in-scope : F.free_all (F.inner_free (cells_of p)) (cells_of p).forms ≡ []
  in-scope =
      let ready = ready-from p r (all-named p r) in
      let same = same-all (is_assigned p) (inner_free p) (F.inner_free (cells_of p))
      (λ l. same-inner (is_assigned p) p.lambdas 0 l ready.names_bodies) (inner-small p r) p.forms ready.names_forms in
      empty _ (λ y i. subst (IsIn y) r.in_scope (same.to y i))
