-- Environments that are cut and gathered.
use Rattle.std.proofs.Common.{◌≡◌, refl, sym, ap, ◌∙◌, subst, ℕ, inl, inr, ⊎_elim, Bool, true, false, cond, ◌==◌, List, [], ◌∷◌, Option, Some, None, eqb-true}
use Rattle.std.proofs.lemmas.Bool.{eqb-false}
use Rattle.std.proofs.lemmas.Option.{same_Some}
use Rattle.tb_semantics.specs.Graph.{IsIn}
use Rattle.tb_semantics.proofs.Worlds.{World}
use Rattle.tb_core.specs.Store as S
use Rattle.tb_core.specs.Store.{Value}
use Rattle.tb_core.proofs.Cuts.{cut-kept}
use Rattle.tb_core.proofs.Members.{tested-in}
use Rattle.tb_ir.specs.Machine as M
use Rattle.tb_ir.specs.Machine.{gather, bind_found}
use Rattle.tb_assign.proofs.Rel.{VarRel, EnvRel, empty, bind, Covers}

-- what an environment finds after it was gathered
gather_first : (x y : ℕ) (o : Option Value) (v : Value) (rest : M.Env) (b : Bool) → (x == y) ≡ b →
    (b ≡ true → o ≡ Some v) → (b ≡ false → M.lookup rest y ≡ Some v) → M.lookup (bind_found x o rest) y ≡ Some v
gather_first x y None v rest true e h k = let q : None ≡ Some v = h refl in cc
gather_first x y (Some u) v rest true e h k = ap (λ b. cond b (Some u) (M.lookup rest y)) e ∙ h refl
gather_first x y None v rest false e h k = k refl
gather_first x y (Some u) v rest false e h k = ap (λ b. cond b (Some u) (M.lookup rest y)) e ∙ k refl

pub gather-finds : (xs : List ℕ) (r : M.Env) (y : ℕ) (v : Value) → IsIn y xs → M.lookup r y ≡ Some v →
    M.lookup (gather xs r) y ≡ Some v
gather-finds [] r y v i e = absurd i
gather-finds (x ∷ xs) r y v i e =
    gather_first x y (M.lookup r x) v (gather xs r) (x == y) refl
    (λ q. ap (M.lookup r) (eqb-true x y q) ∙ e)
    (λ q. ⊎_elim (λ same. absurd (eqb-false x y q same)) (λ j. gather-finds xs r y v j e) i)

pub covers-gather : (xs ys zs : List ℕ) (r : M.Env) → Covers xs r → ((y : ℕ) → IsIn y ys → IsIn y xs) →
    ((y : ℕ) → IsIn y ys → IsIn y zs) → Covers ys (gather zs r)
covers-gather xs ys zs r c h k = record {
  has = λ y i. let f = c.has y (h y i) in
      (f.0, gather-finds zs r y f.0 (k y i) f.1);
}

-- where an environment that has a variable has it in the other
looked_first : (g : ℕ → Bool) (w : World Value) (x y : ℕ) (v u : Value) (s : ℕ) (r : M.Env) (q : S.Env) (b : Bool) →
    (x == y) ≡ b → S.lookup q x ≡ Some s → VarRel w (g x) v s → cond b (Some v) (M.lookup r y) ≡ Some u →
    (M.lookup r y ≡ Some u → (s : ℕ) × (S.lookup q y ≡ Some s) × VarRel w (g y) u s) →
    (s : ℕ) × (S.lookup q y ≡ Some s) × VarRel w (g y) u s
looked_first g w x y v u s r q true e f h k rest =
    let z = eqb-true x y e in (
      s,
      ap (S.lookup q) (sym z)
          ∙ f,
      subst (λ a. VarRel w (g a) u s) z (subst (λ a. VarRel w (g x) a s) (same_Some v u k) h),
    )
looked_first g w x y v u s r q false e f h k rest = rest k

pub looked-up : (g : ℕ → Bool) (w : World Value) (r : M.Env) (q : S.Env) (y : ℕ) (v : Value) → EnvRel g w r q →
    M.lookup r y ≡ Some v → (s : ℕ) × (S.lookup q y ≡ Some s) × VarRel w (g y) v s
looked-up g w _ q y v empty e = cc
looked-up g w _ q y v (bind {x = x} {v = u} {s = s} {r = r} f h hs) e =
    looked_first g w x y u v s r q (x == y) refl f h e (looked-up g w r q y v hs)

-- an environment that is gathered of variables which the other has
abbrev pub Points : (ℕ → Bool) → World Value → List ℕ → M.Env → S.Env → Type 0
Points g w xs r q = (y : ℕ) (v : Value) → IsIn y xs → M.lookup r y ≡ Some v →
    (s : ℕ) × (S.lookup q y ≡ Some s) × VarRel w (g y) v s

gather_found : (g : ℕ → Bool) (w : World Value) (x : ℕ) (o : Option Value) (rest : M.Env) (q : S.Env) →
    ((v : Value) → o ≡ Some v → (s : ℕ) × (S.lookup q x ≡ Some s) × VarRel w (g x) v s) → EnvRel g w rest q →
    EnvRel g w (bind_found x o rest) q
gather_found g w x None rest q h k = k
gather_found g w x (Some v) rest q h k = let f = h v refl in bind f.1 f.2 k

pub gather-points : (g : ℕ → Bool) (w : World Value) (xs : List ℕ) (r : M.Env) (q : S.Env) → Points g w xs r q →
    EnvRel g w (gather xs r) q
gather-points g w [] r q h = empty
gather-points g w (x ∷ xs) r q h = gather_found g w x (M.lookup r x) (gather xs r) q (λ v e. h x v (inl refl) e)
    (gather-points g w xs r q (λ y v i e. h y v (inr i) e))

-- an environment that is gathered, and the other cut to no fewer variables
pub gather-cut : (g : ℕ → Bool) (w : World Value) (xs ys : List ℕ) (r : M.Env) (q : S.Env) → EnvRel g w r q →
    ((y : ℕ) → IsIn y xs → IsIn y ys) → EnvRel g w (gather xs r) (S.cut ys q)
gather-cut g w xs ys r q h k =
    gather-points g w xs r (S.cut ys q)
    (λ y v i e. let f = looked-up g w r q y v h e in (f.0, cut-kept ys q y (tested-in ys y (k y i)) ∙ f.1, f.2))

-- gathering once more changes nothing
gather_absent : (x y : ℕ) (o : Option Value) (rest : M.Env) (b : Bool) → (x == y) ≡ b → (b ≡ true → o ≡ None) →
    M.lookup rest y ≡ None → M.lookup (bind_found x o rest) y ≡ None
gather_absent x y None rest b e h k = k
gather_absent x y (Some u) rest true e h k = let q : Some u ≡ None = h refl in cc
gather_absent x y (Some u) rest false e h k = ap (λ b. cond b (Some u) (M.lookup rest y)) e ∙ k

gather_none : (xs : List ℕ) (r : M.Env) (y : ℕ) → M.lookup r y ≡ None → M.lookup (gather xs r) y ≡ None
gather_none [] r y e = refl
gather_none (x ∷ xs) r y e = gather_absent x y (M.lookup r x) (gather xs r) (x == y) refl
    (λ q. ap (M.lookup r) (eqb-true x y q) ∙ e) (gather_none xs r y e)

gather_looked : (xs : List ℕ) (r : M.Env) (y : ℕ) (o : Option Value) → M.lookup r y ≡ o → IsIn y xs →
    M.lookup (gather xs r) y ≡ M.lookup r y
gather_looked xs r y None e i = gather_none xs r y e ∙ sym e
gather_looked xs r y (Some v) e i = gather-finds xs r y v i e ∙ sym e

gather_same : (xs : List ℕ) (r s : M.Env) → ((y : ℕ) → IsIn y xs → M.lookup r y ≡ M.lookup s y) →
    gather xs r ≡ gather xs s
gather_same [] r s h = refl
gather_same (x ∷ xs) r s h = ap (λ o. bind_found x o (gather xs r)) (h x (inl refl))
    ∙ ap (bind_found x (M.lookup s x)) (gather_same xs r s (λ y i. h y (inr i)))

pub gather-twice : (xs : List ℕ) (r : M.Env) → gather xs (gather xs r) ≡ gather xs r
gather-twice xs r = gather_same xs (gather xs r) r (λ y i. gather_looked xs r y (M.lookup r y) refl i)
