-- Procedures that name one another are made as in the source, where a variable stands for each of them.
use Rattle.std.proofs.Common.{◌≡◌, refl, sym, ap, ◌∙◌, subst, subst₂, ℕ, zero, suc, ◌+◌, ◌<◌, inl, inr, ⊎_elim, arith, Bool, true, false, cond, ◌==◌, List, [], ◌∷◌, ◌++◌, length, Some, slice_get, append_assoc, append-nil, length-append, eqb-true, eq-eqb}
use Rattle.std.proofs.lemmas.Bool.{cases_Bool, eqb-false, both_ways}
use Rattle.std.proofs.lemmas.Option.{same_Some}
use Rattle.tb_prim.specs.declared.event.Event.{Event}
use Rattle.tb_semantics.specs.Graph.{IsIn, IsApart}
use Rattle.tb_semantics.proofs.Worlds.{Both, Only, World, Grows, Stores, stores_stay, both_made, source_made}
use Rattle.tb_core.specs.Tree.{Tree, ProgramTree}
use Rattle.tb_core.specs.FreeVariables.{is_in, without, of_lambdas, free, inner_free, is_assigned}
use Rattle.tb_core.specs.Rules.{Every, Each, is_mark}
use Rattle.tb_core.specs.Store as S
use Rattle.tb_core.specs.Store.{Value, At}
use Rattle.tb_core.specs.Reference as R
use Rattle.tb_core.specs.Partners as Like
use Rattle.tb_core.proofs.Cuts.{cut-kept}
use Rattle.tb_core.proofs.Members.{in-left, in-right, in-either, in-tested, tested-in, in-without, without-sub}
use Rattle.tb_core.proofs.Stores.{bound-other}
use Rattle.tb_ir.specs.Tree as C
use Rattle.tb_ir.specs.FreeVariables as F
use Rattle.tb_ir.specs.Machine as M
use Rattle.tb_ir.specs.TreeMachine as T
use Rattle.tb_assign.specs.Eliminate.{eliminate, cells_of}
use Rattle.tb_assign.proofs.Free.{Same, without-not}
use Rattle.tb_assign.proofs.Rel as Rel
use Rattle.tb_assign.proofs.Rel.{Alike, EnvRel, Covers, FramesRel, ItemRel, Good, Ready, BindsWell, free_cells, inner_cells, source, target}
use Rattle.tb_assign.proofs.Grow as Grow
use Rattle.tb_assign.proofs.Grow.{items}
use Rattle.tb_assign.proofs.Envs.{gather-finds, gather-points, looked-up}
use Rattle.tb_assign.proofs.Base.{Ground, Goes}
use Rattle.tb_assign.proofs.Simple.{goes-with}
use Rattle.tb_assign.proofs.Entries.{pairs_more, pairs_grow}
use Rattle.tb_assign.proofs.Closures.{closure-made}
use Rattle.tb_assign.proofs.Step.{Groups}

-- so many variables of the source that hold procedures which follow one another
abbrev pub onlys : ℕ → ℕ → ℕ → World Value → World Value
onlys zero s t v = v
onlys (suc k) s t v = onlys k (suc s) (suc t) (Only s (At t) ∷ v)

onlys_grow : (k s t : ℕ) (v : World Value) → Grows v (onlys k s t v)
onlys_grow zero s t v e i = i
onlys_grow (suc k) s t v e i = onlys_grow k (suc s) (suc t) (Only s (At t) ∷ v) e (inr i)

only_in : (k s t i : ℕ) (v : World Value) → i < k → IsIn (Only (s + i) (At (t + i))) (onlys k s t v)
only_in zero s t i v lt = absurd (omega arith)
only_in (suc k) s t zero v lt = onlys_grow k (suc s) (suc t) _ _
    (inl (ap (λ n. Only n (At t)) (let a : s ≡ s + 0 = omega arith in a)
    ∙ ap (λ n. Only (s + 0) (At n)) (let a : t ≡ t + 0 = omega arith in a)))
only_in (suc k) s t (suc i) v lt =
    let a : suc s + i ≡ s + suc i = omega arith in
    let b : suc t + i ≡ t + suc i = omega arith in
    subst₂ (λ n m. IsIn (Only n (At m)) (onlys k (suc s) (suc t) (Only s (At t) ∷ v))) a b
    (only_in k (suc s) (suc t) i (Only s (At t) ∷ v) (omega arith))

pub pair_in : (k t s i : ℕ) (v : World Value) → i < k → IsIn (Both (t + i) (s + i)) (pairs_more k t s v)
pair_in zero t s i v lt = absurd (omega arith)
pair_in (suc k) t s zero v lt = pairs_grow k (suc t) (suc s) _ _
    (inl (ap (λ n. Both n s) (let a : t ≡ t + 0 = omega arith in a)
    ∙ ap (λ n. Both (t + 0) n) (let a : s ≡ s + 0 = omega arith in a)))
pair_in (suc k) t s (suc i) v lt =
    let a : suc s + i ≡ s + suc i = omega arith in
    let b : suc t + i ≡ t + suc i = omega arith in
    subst₂ (λ n m. IsIn (Both n m) (pairs_more k (suc t) (suc s) (Both t s ∷ v))) b a
    (pair_in k (suc t) (suc s) i (Both t s ∷ v) (omega arith))

last_long : {X : Type 0} (xs : List X) (x : X) → length (xs ++ x ∷ []) ≡ suc (length xs)
last_long xs x = length-append xs (x ∷ []) ∙ (let n : length xs + 1 ≡ suc (length xs) = omega arith in n)

module _ (p : ProgramTree) (W : World Value) where
  -- the variables of the source are made
  located_made : (ys : List ℕ) (v : World Value) (st : List M.Item) (ss : List S.Item) (s t m : ℕ) → length ss ≡ s →
      ((i : ℕ) → i < length ys → IsIn (Both (t + i) (m + i)) W) → Stores (items p) W v st ss →
      Stores (items p) W (onlys (length ys) s t v) st (ss ++ R.located ys m)
  located_made [] v st ss s t m e at h = subst (Stores (items p) W v st) (sym (append-nil ss)) h
  located_made (y ∷ ys) v st ss s t m e at h =
      let here : IsIn (Both t m) W = subst₂ (λ a b. IsIn (Both a b) W) (let a : t + 0 ≡ t = omega arith in a)
      (let a : m + 0 ≡ m = omega arith in a) (at 0 (omega arith)) in
      let one = source_made M.Item S.Item Value (items p) W v st ss (S.Var (At m)) (At t) h
      (Rel.holds (Like.at here)) in
      let one' : Stores (items p) W (Only s (At t) ∷ v) st (ss ++ S.Var (At m) ∷ []) = subst
      (λ n. Stores (items p) W (Only n (At t) ∷ v) st (ss ++ S.Var (At m) ∷ [])) e one in
      subst (Stores (items p) W (onlys (length ys) (suc s) (suc t) (Only s (At t) ∷ v)) st)
      (append_assoc ss (S.Var (At m) ∷ []) (R.located ys (suc m)))
      (located_made ys (Only s (At t) ∷ v) st (ss ++ S.Var (At m) ∷ []) (suc s) (suc t) (suc m)
      (last_long ss (S.Var (At m)) ∙ ap suc e)
      (λ i lt. subst₂ (λ a b. IsIn (Both a b) W) (let a : t + suc i ≡ suc t + i = omega arith in a)
      (let a : m + suc i ≡ suc m + i = omega arith in a) (at (suc i) (omega arith))) one')

  -- the procedures are made
  closures_made : (ls : List ℕ) (v : World Value) (st : List M.Item) (ss : List S.Item) (t s : ℕ) (z : M.Env)
      (q : S.Env) → length st ≡ t → length ss ≡ s →
      ((l : ℕ) → IsIn l ls →
      ItemRel p W (M.Clo l (M.gather (F.captured (cells_of p) l) z)) (S.Clo l (S.cut (inner_free p l) q))) →
      Stores (items p) W v st ss →
      Stores (items p) W (pairs_more (length ls) t s v) (st ++ M.closures (F.captured (cells_of p)) ls z)
      (ss ++ R.closures (source p) ls q)
  closures_made [] v st ss t s z q et es' each h = subst₂ (Stores (items p) W v) (sym (append-nil st))
      (sym (append-nil ss)) h
  closures_made (l ∷ ls) v st ss t s z q et es' each h =
      let i : M.Item = M.Clo l (M.gather (F.captured (cells_of p) l) z) in
      let j : S.Item = S.Clo l (S.cut (inner_free p l) q) in
      let one = both_made M.Item S.Item Value (items p) W v st ss i j h (each l (inl refl)) in
      let one' : Stores (items p) W (Both t s ∷ v) (st ++ i ∷ []) (ss ++ j ∷ []) = subst₂
      (λ a b. Stores (items p) W (Both a b ∷ v) (st ++ i ∷ []) (ss ++ j ∷ [])) et es' one in
      subst₂ (Stores (items p) W (pairs_more (length ls) (suc t) (suc s) (Both t s ∷ v)))
      (append_assoc st (i ∷ []) (M.closures (F.captured (cells_of p)) ls z))
      (append_assoc ss (j ∷ []) (R.closures (source p) ls q))
      (closures_made ls (Both t s ∷ v) (st ++ i ∷ []) (ss ++ j ∷ []) (suc t) (suc s) z q
      (last_long st i ∙ ap suc et) (last_long ss j ∙ ap suc es') (λ m n. each m (inr n)) one')

-- where the variables of a list are bound
nth_first : (y x n : ℕ) (i : ℕ) (xs : List ℕ) (h : S.Env) (b : Bool) → (y == x) ≡ b → b ≡ false →
    S.lookup (S.bind_from xs (suc n) h) x ≡ Some (suc n + i) →
    cond b (Some n) (S.lookup (S.bind_from xs (suc n) h) x) ≡ Some (n + suc i)
nth_first y x n i xs h true e f k = cc
nth_first y x n i xs h false e f k = k ∙ ap Some (let t : suc n + i ≡ n + suc i = omega arith in t)

nth_in : (xs : List ℕ) (i x : ℕ) → slice_get xs i ≡ Some x → IsIn x xs × (i < length xs)
nth_in [] i x e = cc
nth_in (y ∷ xs) zero x e = (inl (same_Some y x e), omega arith)
nth_in (y ∷ xs) (suc i) x e = let k = nth_in xs i x e in (inr k.0, omega (arith, k.1))

nth_bound : (xs : List ℕ) (n : ℕ) (h : S.Env) (i x : ℕ) → IsApart xs → slice_get xs i ≡ Some x →
    S.lookup (S.bind_from xs n h) x ≡ Some (n + i)
nth_bound [] n h i x a e = cc
nth_bound (y ∷ xs) n h zero x a e = ap (λ b. cond b (Some n) (S.lookup (S.bind_from xs (suc n) h) x))
    (eq-eqb y x (same_Some y x e)) ∙ ap Some (let t : n ≡ n + 0 = omega arith in t)
nth_bound (y ∷ xs) n h (suc i) x a e =
    let other : (y == x) ≡ false = ⊎_elim
    (λ s. absurd (a.0 (subst (λ z. IsIn z xs) (sym (eqb-true y x s)) (nth_in xs i x e).0))) (λ t. t)
    (cases_Bool (y == x)) in
    nth_first y x n i xs h (y == x) refl other (nth_bound xs (suc n) h i x a.1 e)

located_finds : (xs : List ℕ) (t : ℕ) (z : M.Env) (y : ℕ) → IsIn y xs →
    (v : Value) × (M.lookup (M.bind_located xs t z) y ≡ Some v)
located_finds [] t z y i = absurd i
located_finds (x ∷ xs) t z y i = ⊎_elim
    (λ s. (At t, ap (λ b. cond b (Some (At t)) (M.lookup (M.bind_located xs (suc t) z) y)) s))
    (λ n. let k = located_finds xs (suc t) z y (⊎_elim (λ e. absurd (eqb-false x y n e)) (λ j. j) i) in
    (k.0, ap (λ b. cond b (Some (At t)) (M.lookup (M.bind_located xs (suc t) z) y)) n ∙ k.1))
    (cases_Bool (x == y))

located_not : (xs : List ℕ) (t : ℕ) (z : M.Env) (y : ℕ) → (IsIn y xs → ⊥) →
    M.lookup (M.bind_located xs t z) y ≡ M.lookup z y
located_not [] t z y out = refl
located_not (x ∷ xs) t z y out =
    ap (λ b. cond b (Some (At t)) (M.lookup (M.bind_located xs (suc t) z) y))
    (⊎_elim (λ s. absurd (out (inl (eqb-true x y s)))) (λ n. n) (cases_Bool (x == y)))
    ∙ located_not xs (suc t) z y (λ j. out (inr j))

-- the environment of all of them
located_env : (g : ℕ → Bool) (W : World Value) (ys : List ℕ) (t : ℕ) (z : M.Env) (q : S.Env) (n : ℕ) →
    Every (λ x. g x ≡ false) ys →
    ((i x : ℕ) → slice_get ys i ≡ Some x → (S.lookup q x ≡ Some (n + i)) × IsIn (Only (n + i) (At (t + i))) W) →
    EnvRel g W z q → EnvRel g W (M.bind_located ys t z) q
located_env g W [] t z q n no_set at h = h
located_env g W (y ∷ ys) t z q n no_set at h =
    let k = at 0 y refl in
    Rel.bind k.0
    (Rel.plain no_set.0 (subst (λ m. IsIn (Only (n + 0) (At m)) W) (let a : t + 0 ≡ t = omega arith in a) k.1))
    (located_env g W ys (suc t) z q (suc n) no_set.1 (λ i x e. let m = at (suc i) x e in (
      m.0 ∙ ap Some (let a : n + suc i ≡ suc n + i = omega arith in a),
      subst₂ (λ a b. IsIn (Only a (At b)) W)
          (let a : n + suc i ≡ suc n + i = omega arith in a) (let b : t + suc i ≡ suc t + i = omega arith in b) m.1,
    )) h)

module _ (p : ProgramTree) (input : List ℕ)
    (same : (e : Tree) → Each (Good p) e → Same (free_cells p e) (free (inner_free p) e))
    (inner : (l : ℕ) → Same (inner_cells p l) (inner_free p l)) where
  abbrev g : ℕ → Bool
  g = is_assigned p

  lambdas_to : (ls : List ℕ) (y : ℕ) → IsIn y (of_lambdas (inner_cells p) ls) → IsIn y (of_lambdas (inner_free p) ls)
  lambdas_to [] y i = absurd i
  lambdas_to (l ∷ ls) y i = ⊎_elim (λ j. in-left y (inner_free p l) _ ((inner l).to y j))
      (λ j. in-right y (inner_free p l) _ (lambdas_to ls y j)) (in-either y (inner_cells p l) _ i)

  in_lambdas : (ls : List ℕ) (l y : ℕ) → IsIn l ls → IsIn y (inner_cells p l) → IsIn y (of_lambdas (inner_cells p) ls)
  in_lambdas [] l y i j = absurd i
  in_lambdas (m ∷ ls) l y (inl e) j = in-left y (inner_cells p m) _ (subst (λ n. IsIn y (inner_cells p n)) (sym e) j)
  in_lambdas (m ∷ ls) l y (inr i) j = in-right y (inner_cells p m) _ (in_lambdas ls l y i j)

  module _ (w : World Value) (c : T.TreeConfig) (d : R.Config) (k : Ground p w c d)
      (f : FramesRel p w c.frames d.frames) (xs ls : List ℕ) (e : Tree) (r : M.Env) (h : S.Env) (es : List Event)
      (good : Each (Good p) e) (no_mark : is_mark e ≡ false) (well : BindsWell p xs e)
      (no_set : Every (λ x. g x ≡ false) xs) (long : length xs ≡ length ls)
      (cv : Covers (F.free_form (inner_cells p) (C.Letrec xs ls (eliminate g e))) r) (env : EnvRel g w r h) where
    abbrev T0 : ℕ
    T0 = length c.store

    abbrev n0 : ℕ
    n0 = length d.store

    abbrev N : ℕ
    N = length xs

    abbrev names : List ℕ
    names = of_lambdas (inner_cells p) ls ++ free_cells p e

    abbrev source_names : List ℕ
    source_names = without xs (of_lambdas (inner_free p) ls ++ free (inner_free p) e)

    abbrev z : M.Env
    z = M.gather (without xs names) r

    abbrev zq : M.Env
    zq = M.bind_located xs T0 z

    abbrev qs : S.Env
    qs = S.bind_from xs n0 (S.cut source_names h)

    abbrev V : World Value
    V = onlys N n0 T0 w

    abbrev W : World Value
    W = pairs_more N T0 (n0 + N) V

    names_to : (y : ℕ) → IsIn y (without xs names) → IsIn y source_names
    names_to y i =
        in-without xs _ y
        (⊎_elim (λ j. in-left y (of_lambdas (inner_free p) ls) _ (lambdas_to ls y j))
        (λ j. in-right y (of_lambdas (inner_free p) ls) _ ((same e good).to y j))
        (in-either y (of_lambdas (inner_cells p) ls) _ (without-sub xs names y i)))
        (without-not xs names y i)

    grown : Grows w W
    grown kk i = pairs_grow N T0 (n0 + N) V kk (onlys_grow N n0 T0 w kk i)

    base_env : EnvRel g W z qs
    base_env = gather-points g W (without xs names) r qs (λ y v i l.
        let u = looked-up g w r h y v env l in (
          u.0,
          bound-other xs n0 (S.cut source_names h) y (without-not xs names y i)
              ∙ cut-kept source_names h y (tested-in source_names y (names_to y i)) ∙ u.1,
          Grow.var_grows w W grown (g y) v u.0 u.2,
        ))

    whole_env : EnvRel g W zq qs
    whole_env = located_env g W xs T0 z qs n0 no_set
        (λ i x l. (
          nth_bound xs n0 (S.cut source_names h) i x well.apart l,
          pairs_grow N T0 (n0 + N) V _
              (only_in N n0 T0 i w (nth_in xs i x l).1),
        )) base_env

    whole_covers : Covers names zq
    whole_covers = record {
      has = λ y i.
          ⊎_elim
          (λ t. located_finds xs T0 z y (in-tested xs y t))
          (λ n. let j = in-without xs names y i n in
          let v = cv.has y j in (
            v.0,
            located_not xs T0 z y (λ m. both_ways (is_in xs y) n (tested-in xs y m))
                ∙ gather-finds (without xs names) r y v.0 j v.1,
          ))
          (cases_Bool (is_in xs y));
    }

    each_closure : (l : ℕ) → IsIn l ls →
        ItemRel p W (M.Clo l (M.gather (F.captured (cells_of p) l) zq)) (S.Clo l (S.cut (inner_free p l) qs))
    each_closure l i = closure-made p inner W l names zq qs whole_covers
        (λ y j. in-left y (of_lambdas (inner_cells p) ls) _ (in_lambdas ls l y i j)) whole_env

    stores_made : Stores (items p) W W (c.store ++ M.closures (F.captured (cells_of p)) ls zq)
        (d.store ++ (R.located xs (n0 + N) ++ R.closures (source p) ls qs))
    stores_made =
        let first = located_made p W xs w c.store d.store n0 T0 (n0 + N) refl (λ i lt. pair_in N T0 (n0 + N) i V lt)
        (stores_stay M.Item S.Item Value (items p) w W w c.store d.store grown k.stores) in
        let at : length (d.store ++ R.located xs (n0 + N)) ≡ n0 + N = length-append d.store (R.located xs (n0 + N))
        ∙ ap (λ m. n0 + m) (located_long xs (n0 + N)) in
        let both' = closures_made p W ls V c.store (d.store ++ R.located xs (n0 + N)) T0
        (n0 + N) zq qs refl at each_closure first in
        subst (Stores (items p) W W (c.store ++ M.closures (F.captured (cells_of p)) ls zq))
        (append_assoc d.store (R.located xs (n0 + N)) (R.closures (source p) ls qs))
        (subst (λ m. Stores (items p) W (pairs_more m T0 (n0 + N) V)
        (c.store ++ M.closures (F.captured (cells_of p)) ls zq)
        ((d.store ++ R.located xs (n0 + N)) ++ R.closures (source p) ls qs)) (sym long) both')
      where
        located_long : (ys : List ℕ) (m : ℕ) → length (R.located ys m) ≡ length ys
        located_long [] m = refl
        located_long (y ∷ ys) m = ap suc (located_long ys (suc m))

    group_goes : Goes p input (R.bind_procedures (source p) d xs ls e qs es)
        (M.make_closures (F.captured (cells_of p)) c xs ls (eliminate g e) z es)
    group_goes =
        goes-with p input w c d k W (M.Bound (eliminate g e) zq)
        (R.Bound e qs) c.frames d.frames _ _ es grown stores_made
        (Rel.bound good no_mark
        (record { has = λ y i. whole_covers.has y (in-right y (of_lambdas (inner_cells p) ls) _ i) }) whole_env) f

  pub all-groups : Groups p input
  all-groups = record {
    makes = λ w c d k f xs ls e r h es good no_mark well no_set long cv env. group_goes w c d k f xs ls e r h es good no_mark well no_set long cv env;
  }
