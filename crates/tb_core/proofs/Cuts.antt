-- Laws of cutting an environment.
use Rattle.std.proofs.Common.{◌≡◌, refl, sym, ap, ◌∙◌, subst, ℕ, Bool, true, false, cond, ◌==◌, List, Option, Some, None, eqb-true}
use Rattle.tb_core.specs.FreeVariables.{is_in}
use Rattle.tb_core.specs.Store.{Env, Empty, Bind, lookup, cut}

same_either : {A : Type 0} (b : Bool) (a : A) → cond b a a ≡ a
same_either true a = refl
same_either false a = refl

-- the newest variable, where it is kept and where it is not
looked_kept : (xs : List ℕ) (z l : ℕ) (o o' : Option ℕ) (y : ℕ) → is_in xs z ≡ true → o ≡ cond (is_in xs y) o' None → (e : Bool) → (z == y) ≡ e → cond e (Some l) o ≡ cond (is_in xs y) (cond e (Some l) o') None
looked_kept xs z l o o' y k h true q = sym (ap (λ b. cond b (Some l) None) (subst (λ v. is_in xs v ≡ true) (eqb-true z y q) k))
looked_kept xs z l o o' y k h false q = h

looked_left : (xs : List ℕ) (z l : ℕ) (o o' : Option ℕ) (y : ℕ) → is_in xs z ≡ false → o ≡ cond (is_in xs y) o' None → (e : Bool) → (z == y) ≡ e → o ≡ cond (is_in xs y) (cond e (Some l) o') None
looked_left xs z l o o' y k h true q =
    let n = subst (λ v. is_in xs v ≡ false) (eqb-true z y q) k in
    h ∙ ap (λ b. cond b o' None) n ∙ sym (ap (λ b. cond b (Some l) None) n)
looked_left xs z l o o' y k h false q = h

looked_newest : (xs : List ℕ) (z l : ℕ) (r : Env) (y : ℕ) → lookup (cut xs r) y ≡ cond (is_in xs y) (lookup r y) None → (b : Bool) → is_in xs z ≡ b → lookup (cond b (Bind z l (cut xs r)) (cut xs r)) y ≡ cond (is_in xs y) (lookup (Bind z l r) y) None
looked_newest xs z l r y h true k = looked_kept xs z l _ _ y k h (z == y) refl
looked_newest xs z l r y h false k = looked_left xs z l _ _ y k h (z == y) refl

-- a variable of the list is found where it was, and no other is found
pub cut-looked : (xs : List ℕ) (r : Env) (y : ℕ) → lookup (cut xs r) y ≡ cond (is_in xs y) (lookup r y) None
cut-looked xs Empty y = sym (same_either (is_in xs y) None)
cut-looked xs (Bind z l r) y = looked_newest xs z l r y (cut-looked xs r y) (is_in xs z) refl

-- a cut to fewer variables, after one to more
narrower_kept : (xs ys : List ℕ) (z l : ℕ) (r : Env) → ((y : ℕ) → is_in xs y ≡ true → is_in ys y ≡ true) → cut xs (cut ys r) ≡ cut xs r → (a b : Bool) → is_in xs z ≡ a → is_in ys z ≡ b → cut xs (cond b (Bind z l (cut ys r)) (cut ys r)) ≡ cond a (Bind z l (cut xs r)) (cut xs r)
narrower_kept xs ys z l r w h true true p q = ap (λ b. cond b (Bind z l (cut xs (cut ys r))) (cut xs (cut ys r))) p ∙ ap (Bind z l) h
narrower_kept xs ys z l r w h false true p q = ap (λ b. cond b (Bind z l (cut xs (cut ys r))) (cut xs (cut ys r))) p ∙ h
narrower_kept xs ys z l r w h false false p q = h
narrower_kept xs ys z l r w h true false p q = let e : false ≡ true = sym q ∙ w z p in cc

pub cut-narrower : (xs ys : List ℕ) (r : Env) → ((y : ℕ) → is_in xs y ≡ true → is_in ys y ≡ true) → cut xs (cut ys r) ≡ cut xs r
cut-narrower xs ys Empty w = refl
cut-narrower xs ys (Bind z l r) w = narrower_kept xs ys z l r w (cut-narrower xs ys r w) (is_in xs z) (is_in ys z) refl refl

pub cut-kept : (xs : List ℕ) (r : Env) (y : ℕ) → is_in xs y ≡ true → lookup (cut xs r) y ≡ lookup r y
cut-kept xs r y h = cut-looked xs r y ∙ ap (λ b. cond b (lookup r y) None) h

pub cut-left : (xs : List ℕ) (r : Env) (y : ℕ) → is_in xs y ≡ false → lookup (cut xs r) y ≡ None
cut-left xs r y h = cut-looked xs r y ∙ ap (λ b. cond b (lookup r y) None) h
