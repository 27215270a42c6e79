-- What the lifted program names: what its source names, or what is added to a lambda expression that the source names.
use Rattle.std.proofs.Common.{◌≡◌, refl, sym, ◌∙◌, subst, ℕ, suc, ◌≤◌, ◌+◌, zero, length, arith, ◌⊎◌, inl, inr, ⊎_elim, true, false, List, [], ◌∷◌, ◌++◌, Option, Some, None, slice_get}
use Rattle.std.proofs.lemmas.Bool.{cases_lt}
use Rattle.std.proofs.lemmas.Option.{slice_get_past, same_Some}
use Rattle.tb_prim.specs.declared.place.Place.{Place}
use Rattle.tb_semantics.specs.Graph.{IsIn}
use Rattle.tb_semantics.proofs.ListLemmas.{get-some}
use Rattle.tb_core.specs.FreeVariables.{without, of_lambdas}
use Rattle.tb_core.proofs.Members.{in-left, in-right, in-either, without-sub}
use Rattle.tb_ir.specs.Tree.{Tree, Form, Trees, none, more, LambdaTree}
use Rattle.tb_ir.specs.FreeVariables.{free, free_all, free_form, parameters}
use Rattle.tb_lift.specs.Lift.{joined, locals, lift}
use Rattle.tb_lift.proofs.Environments.{left-in, left-not, in-or-not}
use Rattle.tb_lift.proofs.Rel.{Pass, Added, itself, through, Clear, Group, group_end, group_lifts, group_keeps, Becomes, FormBecomes, BoundBecome, bound_end, bound_plain, bound_lifted, BecomeAll, all_end, all_more, Uses, plainly, added_by, entered}
use Rattle.tb_lift.proofs.Rel as Rel

-- what the simulation needs of the two programs
pub record Fits (z : Pass) : Type 0 where
  pub sound : (l y : ℕ) → IsIn y (z.choice.added l) → Added z l y
  pub full : (l y : ℕ) → z.choice.lifted l ≡ true → Added z l y → IsIn y (z.choice.added l)
  pub named : (f l : ℕ) → z.choice.names f ≡ Some l → z.choice.lifted l ≡ true
  pub source_in : (l : ℕ) (m : LambdaTree) → slice_get z.lambdas l ≡ Some m → (y : ℕ) → IsIn y (z.source_free l) →
      IsIn y (free z.source_free m.body) × (IsIn y (parameters m) → ⊥)
  pub source_of : (l : ℕ) (m : LambdaTree) → slice_get z.lambdas l ≡ Some m → (y : ℕ) →
      IsIn y (free z.source_free m.body) → (IsIn y (parameters m) → ⊥) → IsIn y (z.source_free l)
  pub target_in : (l : ℕ) (m : LambdaTree) → z.choice.lifted l ≡ false → slice_get z.lambdas l ≡ Some m → (y : ℕ) →
      IsIn y (z.target_free l) → IsIn y (free z.target_free (lift z.choice m.body)) × (IsIn y (parameters m) → ⊥)
  pub target_of : (l : ℕ) (m : LambdaTree) → z.choice.lifted l ≡ false → slice_get z.lambdas l ≡ Some m → (y : ℕ) →
      IsIn y (free z.target_free (lift z.choice m.body)) → (IsIn y (parameters m) → ⊥) → IsIn y (z.target_free l)
  pub target_past : (l y : ℕ) → slice_get z.lambdas l ≡ None → IsIn y (z.target_free l) → ⊥
  pub body : (l : ℕ) (m : LambdaTree) → slice_get z.lambdas l ≡ Some m → Becomes z (suc l) m.body (lift z.choice m.body)
  pub plain : (l : ℕ) (m : LambdaTree) → slice_get z.lambdas l ≡ Some m → (x : ℕ) → IsIn x (parameters m) →
      z.choice.names x ≡ None
  pub clear : (l : ℕ) (m : LambdaTree) → slice_get z.lambdas l ≡ Some m →
      Clear z (parameters m) (free z.source_free m.body)
  pub no_rest : (l : ℕ) (m : LambdaTree) → z.choice.lifted l ≡ true → slice_get z.lambdas l ≡ Some m → m.rest ≡ None
  pub source_captures : (l y : ℕ) → IsIn y (z.source_free l) → IsIn y (z.source_captured l)
  pub source_captured : (l y : ℕ) → IsIn y (z.source_captured l) → IsIn y (z.source_free l)
  pub target_captures : (l y : ℕ) → IsIn y (z.target_free l) → IsIn y (z.target_captured l)
  pub target_captured : (l y : ℕ) → IsIn y (z.target_captured l) → IsIn y (z.target_free l)

pub some-none : {X : Type 0} (o : Option X) (l : X) → o ≡ None → o ≡ Some l → ⊥
some-none o l e d = let c : None ≡ Some l = sym e ∙ d in cc

pub some-same : (o : Option ℕ) (l k : ℕ) → o ≡ Some l → o ≡ Some k → l ≡ k
some-same o l k e d = same_Some l k (sym e ∙ d)

module _ (z : Pass) where
  pub uses-sub : {ls xs zs : List ℕ} {y : ℕ} → ((x : ℕ) → IsIn x xs → IsIn x zs) → Uses z ls xs y → Uses z ls zs y
  uses-sub h (plainly i e) = plainly (h _ i) e
  uses-sub h (added_by f l i e a) = added_by f l (h f i) e a
  uses-sub h (entered l i a) = entered l i a

  pub uses-left : {ls xs : List ℕ} {y : ℕ} (zs : List ℕ) → Uses z ls xs y → Uses z ls (xs ++ zs) y
  uses-left {xs = xs} zs u = uses-sub (λ x. in-left x xs zs) u

  pub uses-right : {ls zs : List ℕ} {y : ℕ} (xs : List ℕ) → Uses z ls zs y → Uses z ls (xs ++ zs) y
  uses-right {zs = zs} xs u = uses-sub (λ x. in-right x xs zs) u

  -- what is added to a lambda expression is named by it, or added to one that it names
  pub added-uses : {ls : List ℕ} {l y : ℕ} → Added z l y → Uses z ls (z.source_free l) y
  added-uses (itself i e) = plainly i e
  added-uses (through f m i e a) = added_by f m i e a

  -- the variables of a group that stay
  pub group-left : {n : ℕ} {xs ls ys ms : List ℕ} → Group z n xs ls ys ms → (x : ℕ) → z.choice.names x ≡ None →
      IsIn x xs → IsIn x ys
  group-left group_end x e i = i
  group-left (group_lifts {x = f} {l = l} n d k g) x e (inl q) =
      absurd (some-none (z.choice.names x) l e (subst (λ a. z.choice.names a ≡ Some l) q k))
  group-left (group_lifts n d k g) x e (inr i) = group-left g x e i
  group-left (group_keeps n d k g) x e (inl q) = inl q
  group-left (group_keeps n d k g) x e (inr i) = inr (group-left g x e i)

  pub group-all : {n : ℕ} {xs ls ys ms : List ℕ} → Group z n xs ls ys ms → (x : ℕ) → IsIn x ys → IsIn x xs
  group-all group_end x i = i
  group-all (group_lifts n d k g) x i = inr (group-all g x i)
  group-all (group_keeps n d k g) x (inl q) = inl q
  group-all (group_keeps n d k g) x (inr i) = inr (group-all g x i)

  -- what a lambda expression of a group names that is lifted
  pub group-free : {n : ℕ} {xs ls ys ms : List ℕ} → Group z n xs ls ys ms → (f l x : ℕ) → z.choice.names f ≡ Some l →
      IsIn f xs → IsIn x (z.source_free l) → IsIn x (of_lambdas z.source_free ls)
  group-free group_end f l x e i j = absurd i
  group-free (group_lifts {l = m} n d k g) f l x e (inl q) j =
      let same : m ≡ l = some-same (z.choice.names f) m l (subst (λ a. z.choice.names a ≡ Some m) q k) e in
      in-left x (z.source_free m) _ (subst (λ a. IsIn x (z.source_free a)) (sym same) j)
  group-free (group_lifts {l = m} n d k g) f l x e (inr i) j = in-right x (z.source_free m) _ (group-free g f l x e i j)
  group-free (group_keeps n d k g) f l x e (inl q) j =
      absurd (some-none (z.choice.names f) l (subst (λ a. z.choice.names a ≡ None) q k) e)
  group-free (group_keeps {l = m} n d k g) f l x e (inr i) j = in-right x (z.source_free m) _ (group-free g f l x e i j)

  -- an added variable of a member of a group is used outside of the group, where it is not of the group
  group_added : {n : ℕ} {ks xs ls ys ms : List ℕ} (zs : List ℕ) → Group z n xs ls ys ms →
      ((x : ℕ) → IsIn x (of_lambdas z.source_free ls) → IsIn x zs) → (y : ℕ) → (IsIn y ys → ⊥) → (f l : ℕ) →
      IsIn f zs → z.choice.names f ≡ Some l → Added z l y → Uses z ks (without xs zs) y
  group_added {xs = xs} zs g sub y away f l i e (itself j k) =
      ⊎_elim
      (λ b. plainly (left-in xs zs y (λ c. away (group-left g y k c)) (sub y (group-free g f l y e b j))) k)
      (λ b. added_by f l (left-in xs zs f b i) e (itself j k))
      (in-or-not f xs)
  group_added {xs = xs} zs g sub y away f l i e (through h m j k a) =
      ⊎_elim
      (λ b. group_added zs g sub y away h m (sub h (group-free g f l h e b j)) k a)
      (λ b. added_by f l (left-in xs zs f b i) e (through h m j k a))
      (in-or-not f xs)

  group_uses_out : {n : ℕ} {ks xs ls ys ms : List ℕ} (zs : List ℕ) → Group z n xs ls ys ms →
      ((x : ℕ) → IsIn x (of_lambdas z.source_free ls) → IsIn x zs) → (y : ℕ) → (IsIn y ys → ⊥) → Uses z ks zs y →
      Uses z ks (without xs zs) y
  group_uses_out {xs = xs} zs g sub y away (plainly i e) =
      plainly (left-in xs zs y (λ c. away (group-left g y e c)) i) e
  group_uses_out zs g sub y away (added_by f l i e a) = group_added zs g sub y away f l i e a
  group_uses_out zs g sub y away (entered l i a) = entered l i a

  -- what the lambda expressions of a `let` name that are lifted
  pub bound-free : {n : ℕ} {xs : List ℕ} {es ds : Trees} → BoundBecome z n xs es ds → (f l x : ℕ) → IsIn f xs →
      z.choice.names f ≡ Some l → IsIn x (z.source_free l) → IsIn x (free_all z.source_free es)
  bound-free bound_end f l x i e j = absurd i
  bound-free (bound_plain k b h) f l x (inl q) e j =
      absurd (some-none (z.choice.names f) l (subst (λ a. z.choice.names a ≡ None) q k) e)
  bound-free (bound_plain {e = d} k b h) f l x (inr i) e j = in-right x (free z.source_free d) _ (bound-free h f l x i e j)
  bound-free (bound_lifted {l = m} n d k h) f l x (inl q) e j =
      let same : m ≡ l = some-same (z.choice.names f) m l (subst (λ a. z.choice.names a ≡ Some m) q k) e in
      in-left x (z.source_free m) _ (subst (λ a. IsIn x (z.source_free a)) (sym same) j)
  bound-free (bound_lifted {l = m} n d k h) f l x (inr i) e j = in-right x (z.source_free m) _ (bound-free h f l x i e j)

  let_uses : {n : ℕ} {ks xs ys : List ℕ} {es ds : Trees} → BoundBecome z n xs es ds → (y : ℕ) → (IsIn y xs → ⊥) →
      Uses z ks ys y → Uses z ks (free_all z.source_free es ++ without xs ys) y
  let_uses {xs = xs} {ys = ys} {es = es} h y away (plainly i e) =
      plainly (in-right y (free_all z.source_free es) _ (left-in xs ys y away i)) e
  let_uses {xs = xs} {ys = ys} {es = es} h y away (added_by f l i e a) =
      ⊎_elim
      (λ j. uses-sub (λ x k. in-left x (free_all z.source_free es) _ (bound-free h f l x j e k)) (added-uses a))
      (λ j. added_by f l (in-right f (free_all z.source_free es) _ (left-in xs ys f j i)) e a)
      (in-or-not f xs)
  let_uses h y away (entered l i a) = entered l i a

  -- the operands of a direct call
  pub in-joined : (inner : ℕ → List ℕ) (ds es : Trees) (y : ℕ) → IsIn y (free_all inner (joined ds es)) →
      IsIn y (free_all inner ds) ⊎ IsIn y (free_all inner es)
  in-joined inner none es y i = inr i
  in-joined inner (more d ds) es y i =
      ⊎_elim (λ j. inl (in-left y (free inner d) _ j))
      (λ j. ⊎_elim (λ k. inl (in-right y (free inner d) _ k)) inr (in-joined inner ds es y j))
      (in-either y (free inner d) _ i)

  pub in-locals : (inner : ℕ → List ℕ) (p : Place) (s : ℕ) (xs : List ℕ) (y : ℕ) →
      IsIn y (free_all inner (locals p s xs)) → IsIn y xs
  in-locals inner p s [] y i = i
  in-locals inner p s (x ∷ xs) y (inl e) = inl e
  in-locals inner p s (x ∷ xs) y (inr i) = inr (in-locals inner p s xs y i)

  module _ (fits : Fits z) (n : ℕ)
      (lambdas : (l y : ℕ) → n ≤ l → z.choice.lifted l ≡ false → IsIn y (z.target_free l) → Uses z [] (z.source_free l) y) where
    group_uses : {xs ls ys ms : List ℕ} → Group z n xs ls ys ms → (y : ℕ) → IsIn y (of_lambdas z.target_free ms) →
        Uses z [] (of_lambdas z.source_free ls) y
    group_uses group_end y i = absurd i
    group_uses (group_lifts b d k g) y i = uses-right _ (group_uses g y i)
    group_uses (group_keeps {l = l} b d k g) y i =
        ⊎_elim (λ j. uses-left _ (lambdas l y b d j)) (λ j. uses-right _ (group_uses g y j))
        (in-either y (z.target_free l) _ i)

    mutual
      uses_tree : {e d : Tree} → Becomes z n e d → (y : ℕ) → IsIn y (free z.target_free d) →
          Uses z [] (free z.source_free e) y
      uses_tree Rel.quote y i = absurd i
      uses_tree (Rel.local e) y i =
          ⊎_elim (λ q. plainly (inl q) (subst (λ a. z.choice.names a ≡ None) q e)) (λ a. absurd a) i
      uses_tree Rel.global y i = absurd i
      uses_tree (Rel.lambda {l = l} b e) y i = lambdas l y b e i
      uses_tree (Rel.choose {a = f} {b = g} {c = h} {d = d} {e = e} a b c) y i =
          let ys = free z.source_free g in
          let zs = free z.source_free h in
          ⊎_elim (λ j. uses-left (ys ++ zs) (uses_tree a y j))
          (λ j. uses-right (free z.source_free f)
          (⊎_elim (λ k. uses-left zs (uses_tree b y k)) (λ k. uses-right ys (uses_tree c y k))
          (in-either y (free z.target_free e) _ j)))
          (in-either y (free z.target_free d) _ i)
      uses_tree (Rel.assign a) y i = uses_tree a y i
      uses_tree (Rel.define a) y i = uses_tree a y i
      uses_tree (Rel.letrec {ls = ls} {ys = ys} {ms = ms} {e = e} {d = d} g c b) y i =
          let ns = of_lambdas z.target_free ms ++ free z.target_free d in
          group_uses_out (of_lambdas z.source_free ls ++ free z.source_free e) g (λ x j. in-left x (of_lambdas z.source_free ls) (free z.source_free e) j) y (left-not ys ns y i)
          (⊎_elim (λ j. uses-left _ (group_uses g y j)) (λ j. uses-right _ (uses_tree b y j))
          (in-either y (of_lambdas z.target_free ms) _ (without-sub ys ns y i)))
      uses_tree (Rel.sequence a) y i = uses_all a y i
      uses_tree (Rel.node l a) y i = uses_form a y i
      uses_tree (Rel.direct {s = s} {i = t} {x = x} {l = l} {q = q} {es = es} {ds = ds} e k perm a) y i =
          ⊎_elim (λ j. uses-right (x ∷ []) (uses_all a y j))
          (λ j. added_by x l (inl refl) e (fits.sound l y (in-locals z.target_free q t (z.choice.added l) y j)))
          (in-joined z.target_free ds (locals q t (z.choice.added l)) y i)

      uses_form : {e d : Form} → FormBecomes z n e d → (y : ℕ) → IsIn y (free_form z.target_free d) →
          Uses z [] (free_form z.source_free e) y
      uses_form (Rel.new_cell a) y i = uses_tree a y i
      uses_form (Rel.cell_get a) y i = uses_tree a y i
      uses_form (Rel.cell_set {d = d} a b) y i =
          ⊎_elim (λ j. uses-left _ (uses_tree a y j)) (λ j. uses-right _ (uses_tree b y j)) (in-either y (free z.target_free d) _ i)
      uses_form (Rel.call {g = g} a b) y i =
          ⊎_elim (λ j. uses-left _ (uses_tree a y j)) (λ j. uses-right _ (uses_all b y j)) (in-either y (free z.target_free g) _ i)
      uses_form (Rel.primitive a) y i = uses_all a y i
      uses_form (Rel.apply {g = g} a b) y i =
          ⊎_elim (λ j. uses-left _ (uses_tree a y j)) (λ j. uses-right _ (uses_tree b y j)) (in-either y (free z.target_free g) _ i)
      uses_form (Rel.let_values {xs = xs} {ds = ds} {d = d} b c a) y i =
          ⊎_elim (λ j. uses-left _ (uses_bound b y j))
          (λ j. let_uses b y (left-not xs (free z.target_free d) y j)
          (uses_tree a y (without-sub xs (free z.target_free d) y j)))
          (in-either y (free_all z.target_free ds) _ i)

      uses_bound : {xs : List ℕ} {es ds : Trees} → BoundBecome z n xs es ds → (y : ℕ) → IsIn y (free_all z.target_free ds) →
          Uses z [] (free_all z.source_free es) y
      uses_bound bound_end y i = absurd i
      uses_bound (bound_plain {d = d} e a b) y i =
          ⊎_elim (λ j. uses-left _ (uses_tree a y j)) (λ j. uses-right _ (uses_bound b y j)) (in-either y (free z.target_free d) _ i)
      uses_bound (bound_lifted {l = l} k d e b) y i = uses-right (z.source_free l) (uses_bound b y i)

      uses_all : {es ds : Trees} → BecomeAll z n es ds → (y : ℕ) → IsIn y (free_all z.target_free ds) →
          Uses z [] (free_all z.source_free es) y
      uses_all all_end y i = absurd i
      uses_all (all_more {d = d} a b) y i =
          ⊎_elim (λ j. uses-left _ (uses_tree a y j)) (λ j. uses-right _ (uses_all b y j)) (in-either y (free z.target_free d) _ i)

  -- what a lambda expression that stays names, from the last one back
  module _ (fits : Fits z) where
    lambda_uses : (k l y : ℕ) → length z.lambdas ≤ l + k → z.choice.lifted l ≡ false → IsIn y (z.target_free l) →
        Uses z [] (z.source_free l) y
    lambda_uses zero l y le d i =
        absurd (fits.target_past l y (slice_get_past z.lambdas l (omega arith)) i)
    lambda_uses (suc k) l y le d i =
        ⊎_elim
        (λ lt. let m = get-some z.lambdas l lt in
        let t = fits.target_in l m.0 d m.1 y i in
        body_uses l m.0 m.1 y t.1
        (uses_tree fits (suc l) (λ j x b e h. lambda_uses k j x (omega arith) e h) (fits.body l m.0 m.1) y t.0))
        (λ ge. absurd (fits.target_past l y (slice_get_past z.lambdas l ge) i))
        (cases_lt l (length z.lambdas))
      where
        body_uses : (l : ℕ) (m : LambdaTree) → slice_get z.lambdas l ≡ Some m → (y : ℕ) → (IsIn y (parameters m) → ⊥) →
            Uses z [] (free z.source_free m.body) y → Uses z [] (z.source_free l) y
        body_uses l m e y away (plainly i d) = plainly (fits.source_of l m e y i away) d
        body_uses l m e y away (added_by f k i d a) =
            added_by f k (fits.source_of l m e f i (λ j. some-none (z.choice.names f) k (fits.plain l m e f j) d)) d a
        body_uses l m e y away (entered k i a) = absurd i

    pub uses-lambda : (l y : ℕ) → z.choice.lifted l ≡ false → IsIn y (z.target_free l) → Uses z [] (z.source_free l) y
    uses-lambda l y d i = lambda_uses (length z.lambdas) l y (omega arith) d i

    pub uses-tree : {n : ℕ} {e d : Tree} → Becomes z n e d → (y : ℕ) → IsIn y (free z.target_free d) →
        Uses z [] (free z.source_free e) y
    uses-tree {n = n} b y i = uses_tree fits n (λ l x k e j. uses-lambda l x e j) b y i

    pub uses-all : {n : ℕ} {es ds : Trees} → BecomeAll z n es ds → (y : ℕ) → IsIn y (free_all z.target_free ds) →
        Uses z [] (free_all z.source_free es) y
    uses-all {n = n} b y i = uses_all fits n (λ l x k e j. uses-lambda l x e j) b y i

    pub uses-bound : {n : ℕ} {xs : List ℕ} {es ds : Trees} → BoundBecome z n xs es ds → (y : ℕ) →
        IsIn y (free_all z.target_free ds) → Uses z [] (free_all z.source_free es) y
    uses-bound {n = n} b y i = uses_bound fits n (λ l x k e j. uses-lambda l x e j) b y i

    pub uses-form : {n : ℕ} {e d : Form} → FormBecomes z n e d → (y : ℕ) → IsIn y (free_form z.target_free d) →
        Uses z [] (free_form z.source_free e) y
    uses-form {n = n} b y i = uses_form fits n (λ l x k e j. uses-lambda l x e j) b y i
