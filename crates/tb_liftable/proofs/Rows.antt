-- The free variables of lambda expressions, as rows.
use Rattle.std.proofs.Common.{◌≡◌, refl, sym, ap, ◌∙◌, subst, ℕ, Bool, true, false, nat_lt, nat_eq, ◌<◌, ◌≤◌, ◌⊎◌, inl, inr, arith, List, [], length, map, slice_get, Option}
use mathlib.Core.Path.{fun_ext}
use Rattle.std.proofs.lemmas.Bool.{ltb-true, ltb-false}
use Rattle.indexmap.specs.IndexMap.{get}
use Rattle.tb_semantics.specs.Graph.{IsIn}
use Rattle.std.proofs.lemmas.List.{length-map}
use Rattle.std.proofs.lemmas.Option.{slice_get_past}
use Rattle.tb_core.specs.declared.program.Program.{Program}
use Rattle.tb_core.specs.FirstUses.{first_of, free_in_order}
use Rattle.tb_core.specs.declared.program.Lambda.{Lambda as LambdaCode}
use Rattle.tb_core.specs.View.{view_lambda, view_program}
use Rattle.tb_core.proofs.FreeByNumber.{free_past}
use Rattle.tb_liftable.specs.declared.procedures.Source.{Source}
use Rattle.tb_liftable.specs.declared.mentions.Mention.{Mention}
use Rattle.tb_liftable.specs.Mentions.{mentions_of}
use Rattle.tb_liftable.specs.Procedures.{Procedures, Within, procedures, name_in, formals_of}
use Rattle.tb_liftable.specs.calls.Given.{given, row_at, or_none}

pub no_row : (p : Program) (l : ℕ) → length p.lambdas ≤ l → free_in_order (view_program p) l ≡ []
no_row p l le =
    ap (first_of []) (free_past (map view_lambda p.lambdas) 0 l (inr (let e = length-map p.lambdas view_lambda in omega arith)))

pub split : (l n : ℕ) → (l < n) ⊎ (n ≤ l)
split l n = by (nat_lt l n) refl
  where
    by : (b : Bool) → nat_lt l n ≡ b → (l < n) ⊎ (n ≤ l)
    by true e = inl (ltb-true l n e)
    by false e = inr (ltb-false l n e)

pub rows-all : (p : Program) (rows : List (List ℕ)) (n : ℕ) → length rows ≡ n → length p.lambdas ≤ n → ((k : ℕ) → k < n → row_at rows k ≡ free_in_order (view_program p) k) → (l : ℕ) → row_at rows l ≡ free_in_order (view_program p) l
rows-all p rows n e le h l =
    elim (split l n) [
      | inl a ↦ h l a
      | inr a ↦ ap or_none (slice_get_past rows l (omega arith)) ∙ sym (no_row p l (omega arith))
    ]

-- only lambda expressions of the program have free variables
below_by : (p : Program) (l x : ℕ) → IsIn x (free_in_order (view_program p) l) → (l < length p.lambdas) ⊎ (length p.lambdas ≤ l) → l < length p.lambdas
below_by p l x i (inl a) = a
below_by p l x i (inr a) = absurd (subst (λ v. IsIn x v) (no_row p l a) i)

pub within_program : (p : Program) → Within (procedures (view_program p))
within_program p = record { below = λ l x i. let e = length-map p.lambdas view_lambda in let h = below_by p l x i (split l (length p.lambdas)) in omega arith }

made : ℕ → (ℕ → Option ℕ) → (ℕ → ℕ) → (ℕ → List ℕ) → Procedures
made c n f r = record { count = c; name = n; formals = f; free = r }

-- what the code carries along is the program's
pub given_is : (s : Source) (p : Program) → s.lambdas.now ≡ p.lambdas → ((l : ℕ) → get nat_eq s.names.now l ≡ name_in (mentions_of (view_program p)) l) → ((l : ℕ) → row_at s.rows.now l ≡ free_in_order (view_program p) l) → given s ≡ procedures (view_program p)
unfolding given made
given_is s p e n r =
    let lambdas : given s ≡ made (length (map view_lambda p.lambdas)) (get nat_eq s.names.now) (λ l. formals_of (slice_get (map view_lambda p.lambdas) l)) (row_at s.rows.now) =
    ap (λ (ls : List LambdaCode). made (length ls) (get nat_eq s.names.now) (λ l. formals_of (slice_get (map view_lambda ls) l)) (row_at s.rows.now)) e
    ∙ ap (λ c. made c (get nat_eq s.names.now) (λ l. formals_of (slice_get (map view_lambda p.lambdas) l)) (row_at s.rows.now)) (sym (length-map p.lambdas view_lambda)) in
    lambdas
    ∙ ap (λ m. made (length (map view_lambda p.lambdas)) m (λ l. formals_of (slice_get (map view_lambda p.lambdas) l)) (row_at s.rows.now)) (fun_ext n)
    ∙ ap (λ m. made (length (map view_lambda p.lambdas)) (name_in (mentions_of (view_program p))) (λ l. formals_of (slice_get (map view_lambda p.lambdas) l)) m) (fun_ext r)

module _ (s : Source) (p : Program) (ms : List Mention) (e : s.lambdas.now ≡ p.lambdas) (n : (l : ℕ) → get nat_eq s.names.now l ≡ name_in ms l) (m : ms ≡ mentions_of (view_program p)) (rows : List (List ℕ)) (v : s.rows.now ≡ rows) (r : (l : ℕ) → row_at rows l ≡ free_in_order (view_program p) l) where
  pub given_from : given s ≡ procedures (view_program p)
  given_from = given_is s p e (λ l. n l ∙ ap (λ (k : List Mention). name_in k l) m) (λ l. ap (λ (k : List (List ℕ)). row_at k l) v ∙ r l)

  pub within_given : Within (given s)
  within_given = let P : Procedures → Type 0 = Within in subst P (sym given_from) (within_program p)
