-- What is bound at the head of a body: in the source variables that hold values, with cells the values of variables
-- that are not assigned and of fresh ones for the others.
use Rattle.std.proofs.Common.{◌≡◌, refl, sym, ap, ◌∙◌, subst, ℕ, zero, suc, ◌+◌, ◌^◌, ◌<◌, ◌⊎◌, inl, inr, ⊎_elim, arith, Bool, true, false, cond, ◌==◌, List, [], ◌∷◌, length, Some, slice_get, eqb-true, eq-eqb}
use Rattle.std.proofs.lemmas.Bool.{cases_Bool, both_ways, eqb-false}
use Rattle.std.proofs.lemmas.Option.{same_Some}
use Rattle.tb_semantics.specs.Graph.{IsIn, IsApart}
use Rattle.tb_semantics.proofs.Worlds.{Both, Only, World, Grows}
use Rattle.tb_core.specs.Tree.{ProgramTree}
use Rattle.tb_core.specs.FreeVariables.{is_assigned}
use Rattle.tb_core.specs.Store as S
use Rattle.tb_core.specs.Store.{Value, At}
use Rattle.tb_core.specs.Reference as R
use Rattle.tb_ir.specs.Machine as M
use Rattle.tb_assign.specs.Eliminate.{fresh, renamed, celled}
use Rattle.tb_assign.proofs.Free.{AreSmall}
use Rattle.tb_assign.proofs.Rel.{Alike}
use Rattle.tb_assign.proofs.Nodes.{BoundRel, no_bound, one_bound}

module _ (p : ProgramTree) where
  abbrev g : ℕ → Bool
  g = is_assigned p

  -- the name that a variable is bound by
  abbrev pub name : ℕ → ℕ
  name x = cond (g x) (fresh x) x

  name_either : (x : ℕ) → (name x ≡ fresh x) ⊎ (name x ≡ x)
  name_either x = ⊎_elim (λ e. inl (ap (λ b. cond b (fresh x) x) e)) (λ e. inr (ap (λ b. cond b (fresh x) x) e))
      (cases_Bool (g x))

  name_of : (x : ℕ) (b : Bool) → g x ≡ b → name x ≡ cond b (fresh x) x
  name_of x b e = ap (λ b. cond b (fresh x) x) e

  names_apart : (x a : ℕ) → x < 2 ^ 24 → a < 2 ^ 24 → (x == a) ≡ false → (name x == name a) ≡ false
  names_apart x a lx la e = ⊎_elim (λ s. absurd (clash (eqb-true (name x) (name a) s))) (λ n. n)
      (cases_Bool (name x == name a))
    where
      clash : name x ≡ name a → ⊥
      clash s =
          ⊎_elim
          (λ m. ⊎_elim
          (λ n. let z : fresh x ≡ fresh a = sym m ∙ s ∙ n in let y : x ≡ a = omega arith in eqb-false x a e y)
          (λ n. let z : fresh x ≡ a = sym m ∙ s ∙ n in absurd (omega arith)) (name_either a))
          (λ m. ⊎_elim (λ n. let z : x ≡ fresh a = sym m ∙ s ∙ n in absurd (omega arith))
          (λ n. let z : x ≡ a = sym m ∙ s ∙ n in eqb-false x a e z) (name_either a))
          (name_either x)

  -- a variable that is bound, with its value on both sides
  pub record BoundAt (w : World Value) (xs : List ℕ) (vs us : List Value) (r : M.Env) (n : ℕ) (h : S.Env)
      (a : ℕ) : Type 0 where
    pub value : Value
    pub other : Value
    pub index : ℕ
    pub within : index < length us
    pub here : M.lookup (M.bind_all (renamed g xs) vs r) (name a) ≡ Some value
    pub there : S.lookup (S.bind_from xs n h) a ≡ Some (n + index)
    pub item : slice_get (R.vars us) index ≡ Some (S.Var other)
    pub alike : Alike w (g a) value other

  bound_first : (w : World Value) (x a : ℕ) (v u : Value) (xs : List ℕ) (vs us : List Value) (r : M.Env) (n : ℕ)
      (h : S.Env) (b : Bool) → (x == a) ≡ b → x < 2 ^ 24 → a < 2 ^ 24 → Alike w (g x) v u →
      (b ≡ false → BoundAt w xs vs us r (suc n) h a) → BoundAt w (x ∷ xs) (v ∷ vs) (u ∷ us) r n h a
  bound_first w x a v u xs vs us r n h true e lx la y rest =
      let z = eqb-true x a e in
      record {
        value = v;
        other = u;
        index = 0;
        within = omega arith;
        here = ap (λ b. cond b (Some v) (M.lookup (M.bind_all (renamed g xs) vs r) (name a)))
            (eq-eqb (name x) (name a) (ap name z));
        there = ap (λ b. cond b (Some n) (S.lookup (S.bind_from xs (suc n) h) a)) e
            ∙ ap Some (let t : n ≡ n + 0 = omega arith in t);
        item = refl;
        alike = subst (λ m. Alike w (g m) v u) z y;
      }
  bound_first w x a v u xs vs us r n h false e lx la y rest =
      let k = rest refl in
      let lt = k.within in
      record {
        value = k.value;
        other = k.other;
        index = suc k.index;
        within = omega arith;
        here = ap (λ b. cond b (Some v) (M.lookup (M.bind_all (renamed g xs) vs r) (name a)))
            (names_apart x a lx la e) ∙ k.here;
        there = ap (λ b. cond b (Some n) (S.lookup (S.bind_from xs (suc n) h) a)) e ∙ k.there
            ∙ ap Some (let t : suc n + k.index ≡ n + suc k.index = omega arith in t);
        item = k.item;
        alike = k.alike;
      }

  pub bound-at : (w : World Value) (xs : List ℕ) (vs us : List Value) (r : M.Env) (n : ℕ) (h : S.Env) (a : ℕ) →
      BoundRel p w xs vs us → AreSmall xs → a < 2 ^ 24 → IsIn a xs → BoundAt w xs vs us r n h a
  bound-at w _ _ _ r n h a no_bound small la i = absurd i
  bound-at w _ _ _ r n h a (one_bound {x = x} {v = v} {u = u} {xs = xs} {vs = vs} {us = us} y ys) small la i =
      bound_first w x a v u xs vs us r n h (x == a) refl (small x (inl refl)) la y
      (λ e. bound-at w xs vs us r (suc n) h a ys (λ z j. small z (inr j)) la
      (⊎_elim (λ q. absurd (eqb-false x a e q)) (λ j. j) i))

  -- a variable that is not bound
  pub bound-not : (xs : List ℕ) (vs : List Value) (r : M.Env) (y : ℕ) → y < 2 ^ 24 → AreSmall xs → (IsIn y xs → ⊥) →
      M.lookup (M.bind_all (renamed g xs) vs r) y ≡ M.lookup r y
  bound-not [] vs r y lt small out = refl
  bound-not (x ∷ xs) [] r y lt small out = refl
  bound-not (x ∷ xs) (v ∷ vs) r y lt small out =
      ap (λ b. cond b (Some v) (M.lookup (M.bind_all (renamed g xs) vs r) y)) (other_name)
      ∙ bound-not xs vs r y lt (λ z j. small z (inr j)) (λ j. out (inr j))
    where
      other_name : (name x == y) ≡ false
      other_name =
          ⊎_elim
          (λ s. absurd
          (⊎_elim (λ m. let z : fresh x ≡ y = sym m ∙ eqb-true (name x) y s in absurd (omega arith))
          (λ m. out (inl (sym m ∙ eqb-true (name x) y s))) (name_either x)))
          (λ n. n)
          (cases_Bool (name x == y))

  -- variables that are bound to values that follow one another, and one that is none of them
  pub all-not : (xs : List ℕ) (vs : List Value) (r : M.Env) (y : ℕ) → (IsIn y xs → ⊥) →
      M.lookup (M.bind_all xs vs r) y ≡ M.lookup r y
  all-not [] vs r y out = refl
  all-not (x ∷ xs) [] r y out = refl
  all-not (x ∷ xs) (v ∷ vs) r y out =
      ap (λ b. cond b (Some v) (M.lookup (M.bind_all xs vs r) y))
      (⊎_elim (λ s. absurd (out (inl (eqb-true x y s)))) (λ n. n) (cases_Bool (x == y)))
      ∙ all-not xs vs r y (λ j. out (inr j))

  -- where the variables stand once all are made: the cells of those that are assigned, and the values of the others
  pub data Placed (w : World Value) : ℕ → List ℕ → List Value → List Value → Type 0 where
    no_place : {n : ℕ} → Placed w n [] [] []
    a_cell : {n x t : ℕ} {v : Value} {xs : List ℕ} {vs ts : List Value} → g x ≡ true → IsIn (Both t n) w →
        Placed w (suc n) xs vs ts → Placed w n (x ∷ xs) (v ∷ vs) (At t ∷ ts)
    a_value : {n x : ℕ} {v : Value} {xs : List ℕ} {vs ts : List Value} → g x ≡ false → IsIn (Only n v) w →
        Placed w (suc n) xs vs ts → Placed w n (x ∷ xs) (v ∷ vs) ts

  pub placed-grows : (w u : World Value) → Grows w u → (n : ℕ) (xs : List ℕ) (vs ts : List Value) →
      Placed w n xs vs ts → Placed u n xs vs ts
  placed-grows w u gr _ _ _ _ no_place = no_place
  placed-grows w u gr _ _ _ _ (a_cell e i h) = a_cell e (gr _ i) (placed-grows w u gr _ _ _ _ h)
  placed-grows w u gr _ _ _ _ (a_value e i h) = a_value e (gr _ i) (placed-grows w u gr _ _ _ _ h)

  -- a cell that is placed
  pub record CellAt (w : World Value) (cs : List ℕ) (ts : List Value) (r : M.Env) (xs : List ℕ) (n : ℕ) (h : S.Env)
      (a : ℕ) : Type 0 where
    pub cell : ℕ
    pub variable : ℕ
    pub here : M.lookup (M.bind_all cs ts r) a ≡ Some (At cell)
    pub there : S.lookup (S.bind_from xs n h) a ≡ Some variable
    pub linked : IsIn (Both cell variable) w

  cell_first : (w : World Value) (x a t : ℕ) (ts : List Value) (r : M.Env) (xs : List ℕ) (n : ℕ) (h : S.Env)
      (b : Bool) → (x == a) ≡ b → IsIn (Both t n) w → (b ≡ false → CellAt w (celled g xs) ts r xs (suc n) h a) →
      CellAt w (x ∷ celled g xs) (At t ∷ ts) r (x ∷ xs) n h a
  cell_first w x a t ts r xs n h true e i rest = record {
    cell = t;
    variable = n;
    here = ap (λ b. cond b (Some (At t)) (M.lookup (M.bind_all (celled g xs) ts r) a)) e;
    there = ap (λ b. cond b (Some n) (S.lookup (S.bind_from xs (suc n) h) a)) e;
    linked = i;
  }
  cell_first w x a t ts r xs n h false e i rest =
      let k = rest refl in
      record {
        cell = k.cell;
        variable = k.variable;
        here = ap (λ b. cond b (Some (At t)) (M.lookup (M.bind_all (celled g xs) ts r) a)) e ∙ k.here;
        there = ap (λ b. cond b (Some n) (S.lookup (S.bind_from xs (suc n) h) a)) e ∙ k.there;
        linked = k.linked;
      }

  pub cell-at : (w : World Value) (n : ℕ) (xs : List ℕ) (vs ts : List Value) (r : M.Env) (h : S.Env) (a : ℕ) →
      Placed w n xs vs ts → IsIn a xs → g a ≡ true → CellAt w (celled g xs) ts r xs n h a
  cell-at w _ _ _ _ r h a no_place i y = absurd i
  cell-at w n _ _ _ r h a (a_cell {x = x} {t = t} {xs = xs} {vs = vs} {ts = ts} e j k) i y =
      subst (λ b. CellAt w (cond b (x ∷ celled g xs) (celled g xs)) (At t ∷ ts) r (x ∷ xs) n h a) (sym e)
      (cell_first w x a t ts r xs n h (x == a) refl j
      (λ q. cell-at w (suc n) xs vs ts r h a k (⊎_elim (λ z. absurd (eqb-false x a q z)) (λ m. m) i) y))
  cell-at w n _ _ _ r h a (a_value {x = x} {xs = xs} {vs = vs} {ts = ts} e j k) i y =
      let other : (x == a) ≡ false = ⊎_elim (λ s. absurd (both_ways (g x) e (ap g (eqb-true x a s) ∙ y))) (λ m. m)
      (cases_Bool (x == a)) in
      let z = cell-at w (suc n) xs vs ts r h a k (⊎_elim (λ q. absurd (eqb-false x a other q)) (λ m. m) i) y in
      subst (λ b. CellAt w (cond b (x ∷ celled g xs) (celled g xs)) ts r (x ∷ xs) n h a) (sym e)
      (record {
        cell = z.cell;
        variable = z.variable;
        here = z.here;
        there = ap
            (λ b. cond b (Some n) (S.lookup (S.bind_from xs (suc n) h) a)) other ∙ z.there;
        linked = z.linked;
      })

  -- a value that is placed
  pub record ValueAt (w : World Value) (xs : List ℕ) (vs : List Value) (r : M.Env) (n : ℕ) (h : S.Env)
      (a : ℕ) : Type 0 where
    pub value : Value
    pub variable : ℕ
    pub here : M.lookup (M.bind_all (renamed g xs) vs r) a ≡ Some value
    pub there : S.lookup (S.bind_from xs n h) a ≡ Some variable
    pub holds : IsIn (Only variable value) w

  other_place : (w : World Value) (x a : ℕ) (v : Value) (xs : List ℕ) (vs : List Value) (r : M.Env) (n : ℕ)
      (h : S.Env) → (x == a) ≡ false → (name x == a) ≡ false → ValueAt w xs vs r (suc n) h a →
      ValueAt w (x ∷ xs) (v ∷ vs) r n h a
  other_place w x a v xs vs r n h e f k = record {
    value = k.value;
    variable = k.variable;
    here = ap (λ b. cond b (Some v) (M.lookup (M.bind_all (renamed g xs) vs r) a)) f ∙ k.here;
    there = ap (λ b. cond b (Some n) (S.lookup (S.bind_from xs (suc n) h) a)) e ∙ k.there;
    holds = k.holds;
  }

  name_other : (x a : ℕ) → a < 2 ^ 24 → (x == a) ≡ false → (name x == a) ≡ false
  name_other x a lt e =
      ⊎_elim
      (λ s. absurd
      (⊎_elim (λ m. let z : fresh x ≡ a = sym m ∙ eqb-true (name x) a s in absurd (omega arith))
      (λ m. eqb-false x a e (sym m ∙ eqb-true (name x) a s)) (name_either x)))
      (λ n. n)
      (cases_Bool (name x == a))

  value_first : (w : World Value) (x a : ℕ) (v : Value) (xs : List ℕ) (vs : List Value) (r : M.Env) (n : ℕ)
      (h : S.Env) (b : Bool) → (x == a) ≡ b → g x ≡ false → a < 2 ^ 24 → IsIn (Only n v) w →
      (b ≡ false → ValueAt w xs vs r (suc n) h a) → ValueAt w (x ∷ xs) (v ∷ vs) r n h a
  value_first w x a v xs vs r n h true e gx la i rest = record {
    value = v;
    variable = n;
    here = ap (λ b. cond b (Some v) (M.lookup (M.bind_all (renamed g xs) vs r) a))
        (ap (λ m. m == a) (name_of x false gx) ∙ e);
    there = ap (λ b. cond b (Some n) (S.lookup (S.bind_from xs (suc n) h) a)) e;
    holds = i;
  }
  value_first w x a v xs vs r n h false e gx la i rest = other_place w x a v xs vs r n h e (name_other x a la e)
      (rest refl)

  pub value-at : (w : World Value) (n : ℕ) (xs : List ℕ) (vs ts : List Value) (r : M.Env) (h : S.Env) (a : ℕ) →
      Placed w n xs vs ts → IsIn a xs → g a ≡ false → a < 2 ^ 24 → ValueAt w xs vs r n h a
  value-at w _ _ _ _ r h a no_place i y la = absurd i
  value-at w n _ _ _ r h a (a_cell {x = x} {t = t} {v = v} {xs = xs} {vs = vs} {ts = ts} e j k) i y la =
      let other : (x == a) ≡ false = ⊎_elim (λ s. absurd (both_ways (g a) y (sym (ap g (eqb-true x a s)) ∙ e)))
      (λ m. m) (cases_Bool (x == a)) in
      other_place w x a v xs vs r n h other (name_other x a la other)
      (value-at w (suc n) xs vs ts r h a k (⊎_elim (λ q. absurd (eqb-false x a other q)) (λ m. m) i) y la)
  value-at w n _ _ _ r h a (a_value {x = x} {v = v} {xs = xs} {vs = vs} {ts = ts} e j k) i y la =
      value_first w x a v xs vs r n h (x == a) refl e la j
      (λ q. value-at w (suc n) xs vs ts r h a k (⊎_elim (λ z. absurd (eqb-false x a q z)) (λ m. m) i) y la)

  -- the values of a list by their places in it
  pub nth-bound : (xs : List ℕ) (vs : List Value) (r : M.Env) (n : ℕ) (h : S.Env) (i x : ℕ) (v : Value) → IsApart xs →
      AreSmall xs → slice_get xs i ≡ Some x → slice_get vs i ≡ Some v →
      IsIn x xs × (M.lookup (M.bind_all (renamed g xs) vs r) (name x) ≡ Some v) ×
      (S.lookup (S.bind_from xs n h) x ≡ Some (n + i))
  nth-bound [] vs r n h i x v ap' small l m = cc
  nth-bound (y ∷ xs) [] r n h i x v ap' small l m = cc
  nth-bound (y ∷ xs) (u ∷ vs) r n h zero x v ap' small l m =
      let e : y ≡ x = same_Some y x l in
      let f : (y == x) ≡ true = eq-eqb y x e in (
        inl e,
        ap (λ b. cond b (Some u) (M.lookup (M.bind_all (renamed g xs) vs r) (name x)))
            (eq-eqb (name y) (name x) (ap name e)) ∙ m,
        ap (λ b. cond b (Some n) (S.lookup (S.bind_from xs (suc n) h) x)) f
            ∙ ap Some (let t : n ≡ n + 0 = omega arith in t),
      )
  nth-bound (y ∷ xs) (u ∷ vs) r n h (suc i) x v ap' small l m =
      let k = nth-bound xs vs r (suc n) h i x v ap'.1 (λ z j. small z (inr j)) l m in
      let other : (y == x) ≡ false = ⊎_elim
      (λ s. absurd (ap'.0 (subst (λ z. IsIn z xs) (sym (eqb-true y x s)) k.0))) (λ t. t) (cases_Bool (y == x)) in (
        inr k.0,
        ap (λ b. cond b (Some u) (M.lookup (M.bind_all (renamed g xs) vs r) (name x)))
            (names_apart y x (small y (inl refl)) (small x (inr k.0)) other) ∙ k.1,
        ap (λ b. cond b (Some n) (S.lookup (S.bind_from xs (suc n) h) x)) other ∙ k.2
            ∙ ap Some (let t : suc n + i ≡ n + suc i = omega arith in t),
      )
