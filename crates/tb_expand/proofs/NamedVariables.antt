-- The variables that closed nodes name are bound in them or around them.
use Rattle.std.proofs.Common.{◌≡◌, refl, sym, ap, subst, ◌∙◌, ℕ, ◌+◌, ◌≤◌, ⊎_elim, arith, Bool, true, false, cond, nat_le, List, [], ◌∷◌, ◌++◌, length}
use Rattle.std.specs.List.{list_any}
use Rattle.std.proofs.lemmas.Bool.{leb-true, leb-false, cases_Bool, or_cases}
use Rattle.tb_core.specs.Rules.{Every}
use Rattle.tb_expand.specs.Shapes.{option_list}
use Rattle.tb_expand.specs.Trees.{Var, same_var, Node, At, Core, Constant, Unspecified, Undefined, Local, Global, Lambda, If, SetLocal, SetGlobal, DefGlobal, Let, Letrec, Seq, Call, PrimUse, Apply, Nodes, nil, cons, assigns, assigns_any}
use Rattle.tb_expand.specs.Numbers.{noted, firsts_behind, firsts, variables_of, variables_in, variables_of_all}
use Rattle.tb_expand.specs.Closed.{binders_of, binders_in, binders_of_all, is_bound, IsClosed, IsClosedIn, AreClosed, one_if, times}
use Rattle.tb_expand.specs.calls.Splitting.{assigned_of, assigned_in, assigned_all, is_one}
use Rattle.tb_expand.proofs.ShapedNumbers.{every_joined}
use Rattle.tb_expand.proofs.SplitLists.{assigned_found, assigned_found_all}
use Rattle.tb_expand.proofs.FirstOccurrences.{same_var_true, same_var_itself}
use Rattle.tb_expand.proofs.Times.{times_joined, any_times}

pub every_left : {X : Type 0} (P : X → Type 0) (xs ys : List X) → Every P (xs ++ ys) → Every P xs
every_left P [] ys h = tt
every_left P (x ∷ xs) ys h = (h.0, every_left P xs ys h.1)

pub every_right : {X : Type 0} (P : X → Type 0) (xs ys : List X) → Every P (xs ++ ys) → Every P ys
every_right P [] ys h = h
every_right P (x ∷ xs) ys h = every_right P xs ys h.1

pub every_mapped : {X : Type 0} (P Q : X → Type 0) → ((x : X) → P x → Q x) → (xs : List X) → Every P xs → Every Q xs
every_mapped P Q f [] h = tt
every_mapped P Q f (x ∷ xs) h = (f x h.0, every_mapped P Q f xs h.1)

module _ (P : Var → Type 0) where
  both : (us bs cs ds : List Var) → (Every P us → Every P cs) → (Every P bs → Every P ds) → Every P (us ++ bs) → Every P (cs ++ ds)
  both us bs cs ds f g h = every_joined P cs ds (f (every_left P us bs h)) (g (every_right P us bs h))

  -- what all variables of a node keep, those that it binds keep
  mutual
    pub binders_keep : (e : Node) → Every P (variables_of e) → Every P (binders_of e)
    binders_keep (At p c) h = binders_keep_in c h

    binders_keep_in : (c : Core) → Every P (variables_in c) → Every P (binders_in c)
    binders_keep_in (Constant s) h = tt
    binders_keep_in Unspecified h = tt
    binders_keep_in Undefined h = tt
    binders_keep_in (Local x) h = tt
    binders_keep_in (Global g) h = tt
    binders_keep_in (Lambda xs r b) h = both (xs ++ option_list r) (variables_of b) _ _ (λ k. k) (binders_keep b) h
    binders_keep_in (If a b c) h = both (variables_of a) (variables_of b ++ variables_of c) _ _ (binders_keep a) (both (variables_of b) (variables_of c) _ _ (binders_keep b) (binders_keep c)) h
    binders_keep_in (SetLocal x e) h = binders_keep e h.1
    binders_keep_in (SetGlobal q g e) h = binders_keep e h
    binders_keep_in (DefGlobal g e) h = binders_keep e h
    binders_keep_in (Let xs es e) h = both xs (variables_of_all es ++ variables_of e) _ _ (λ k. k) (both (variables_of_all es) (variables_of e) _ _ (all_binders_keep es) (binders_keep e)) h
    binders_keep_in (Letrec xs es e) h = both xs (variables_of_all es ++ variables_of e) _ _ (λ k. k) (both (variables_of_all es) (variables_of e) _ _ (all_binders_keep es) (binders_keep e)) h
    binders_keep_in (Seq es) h = all_binders_keep es h
    binders_keep_in (Call f es) h = both (variables_of f) (variables_of_all es) _ _ (binders_keep f) (all_binders_keep es) h
    binders_keep_in (PrimUse q es) h = all_binders_keep es h
    binders_keep_in (Apply f l) h = both (variables_of f) (variables_of l) _ _ (binders_keep f) (binders_keep l) h

    pub all_binders_keep : (es : Nodes) → Every P (variables_of_all es) → Every P (binders_of_all es)
    all_binders_keep nil h = tt
    all_binders_keep (cons e es) h = both (variables_of e) (variables_of_all es) _ _ (binders_keep e) (all_binders_keep es) h

  -- and those that it assigns
  mutual
    pub assigned_keep : (e : Node) → Every P (variables_of e) → Every P (assigned_of e)
    assigned_keep (At p c) h = assigned_keep_in c h

    assigned_keep_in : (c : Core) → Every P (variables_in c) → Every P (assigned_in c)
    assigned_keep_in (Constant s) h = tt
    assigned_keep_in Unspecified h = tt
    assigned_keep_in Undefined h = tt
    assigned_keep_in (Local x) h = tt
    assigned_keep_in (Global g) h = tt
    assigned_keep_in (Lambda xs r b) h = assigned_keep b (every_right P (xs ++ option_list r) (variables_of b) h)
    assigned_keep_in (If a b c) h =
        let k = every_right P (variables_of a) (variables_of b ++ variables_of c) h in
        every_joined P (assigned_of a ++ assigned_of b) (assigned_of c)
        (every_joined P (assigned_of a) (assigned_of b) (assigned_keep a (every_left P (variables_of a) (variables_of b ++ variables_of c) h)) (assigned_keep b (every_left P (variables_of b) (variables_of c) k)))
        (assigned_keep c (every_right P (variables_of b) (variables_of c) k))
    assigned_keep_in (SetLocal x e) h = (h.0, assigned_keep e h.1)
    assigned_keep_in (SetGlobal q g e) h = assigned_keep e h
    assigned_keep_in (DefGlobal g e) h = assigned_keep e h
    assigned_keep_in (Let xs es e) h = both (variables_of_all es) (variables_of e) _ _ (all_assigned_keep es) (assigned_keep e) (every_right P xs (variables_of_all es ++ variables_of e) h)
    assigned_keep_in (Letrec xs es e) h = both (variables_of_all es) (variables_of e) _ _ (all_assigned_keep es) (assigned_keep e) (every_right P xs (variables_of_all es ++ variables_of e) h)
    assigned_keep_in (Seq es) h = all_assigned_keep es h
    assigned_keep_in (Call f es) h = both (variables_of f) (variables_of_all es) _ _ (assigned_keep f) (all_assigned_keep es) h
    assigned_keep_in (PrimUse q es) h = all_assigned_keep es h
    assigned_keep_in (Apply f l) h = both (variables_of f) (variables_of l) _ _ (assigned_keep f) (assigned_keep l) h

    pub all_assigned_keep : (es : Nodes) → Every P (variables_of_all es) → Every P (assigned_all es)
    all_assigned_keep nil h = tt
    all_assigned_keep (cons e es) h = both (variables_of e) (variables_of_all es) _ _ (assigned_keep e) (all_assigned_keep es) h

-- how often a variable is one of these
abbrev pub count : Var → List Var → ℕ
count y xs = times (same_var y) xs

-- a variable that is bound around a node or in it
abbrev pub IsHeld : List Var → List Var → Var → Type 0
IsHeld xs bs y = 1 ≤ count y xs + count y bs

pub bound_held : (xs bs : List Var) (x : Var) → is_bound xs x ≡ true → IsHeld xs bs x
bound_held xs bs x h = let k = leb-true 1 (count x xs) (sym (any_times (same_var x) xs) ∙ h) in omega arith

pub own_held : (xs ys bs : List Var) → Every (IsHeld xs (ys ++ bs)) ys
own_held xs [] bs = tt
own_held xs (c ∷ cs) bs = (
  let k : one_if (same_var c c) ≡ 1 = ap one_if (same_var_itself c) in omega arith,
  every_mapped (IsHeld xs (cs ++ bs)) (IsHeld xs (c ∷ cs ++ bs)) (λ y k. omega arith) cs (own_held xs cs bs),
)

module _ (xs : List Var) where
  -- held by more
  in_front : (us bs vs : List Var) → Every (IsHeld xs us) vs → Every (IsHeld xs (us ++ bs)) vs
  in_front us bs vs h = every_mapped (IsHeld xs us) (IsHeld xs (us ++ bs)) (λ y k. let j = times_joined (same_var y) us bs in omega arith) vs h

  in_back : (us bs vs : List Var) → Every (IsHeld xs bs) vs → Every (IsHeld xs (us ++ bs)) vs
  in_back us bs vs h = every_mapped (IsHeld xs bs) (IsHeld xs (us ++ bs)) (λ y k. let j = times_joined (same_var y) us bs in omega arith) vs h

  inside : (ys bs vs : List Var) → Every (IsHeld (ys ++ xs) bs) vs → Every (IsHeld xs (ys ++ bs)) vs
  inside ys bs vs h = every_mapped (IsHeld (ys ++ xs) bs) (IsHeld xs (ys ++ bs)) (λ y k. let i = times_joined (same_var y) ys bs in let j = times_joined (same_var y) ys xs in omega arith) vs h

  two_held : (us bs vs ws : List Var) → Every (IsHeld xs us) vs → Every (IsHeld xs bs) ws → Every (IsHeld xs (us ++ bs)) (vs ++ ws)
  two_held us bs vs ws h k = every_joined (IsHeld xs (us ++ bs)) vs ws (in_front us bs vs h) (in_back us bs ws k)

  under : (ys us bs vs ws : List Var) → Every (IsHeld xs us) vs → Every (IsHeld (ys ++ xs) bs) ws → Every (IsHeld xs (ys ++ (us ++ bs))) (ys ++ (vs ++ ws))
  under ys us bs vs ws h k =
      let move : (y : Var) → IsHeld xs (ys ++ bs) y → IsHeld xs (ys ++ (us ++ bs)) y = λ y g. let i = times_joined (same_var y) ys bs in let j = times_joined (same_var y) ys (us ++ bs) in let l = times_joined (same_var y) us bs in omega arith in
      every_joined (IsHeld xs (ys ++ (us ++ bs))) ys (vs ++ ws) (own_held xs ys (us ++ bs))
      (every_joined (IsHeld xs (ys ++ (us ++ bs))) vs ws (in_back ys (us ++ bs) vs (in_front us bs vs h))
      (every_mapped (IsHeld xs (ys ++ bs)) (IsHeld xs (ys ++ (us ++ bs))) move ws (inside ys bs ws k)))

  under_all : (ys us bs vs ws : List Var) → Every (IsHeld (ys ++ xs) us) vs → Every (IsHeld (ys ++ xs) bs) ws → Every (IsHeld xs (ys ++ (us ++ bs))) (ys ++ (vs ++ ws))
  under_all ys us bs vs ws h k =
      let move : (y : Var) → IsHeld xs (ys ++ bs) y → IsHeld xs (ys ++ (us ++ bs)) y = λ y g. let i = times_joined (same_var y) ys bs in let j = times_joined (same_var y) ys (us ++ bs) in let l = times_joined (same_var y) us bs in omega arith in
      let front : (y : Var) → IsHeld xs (ys ++ us) y → IsHeld xs (ys ++ (us ++ bs)) y = λ y g. let i = times_joined (same_var y) ys us in let j = times_joined (same_var y) ys (us ++ bs) in let l = times_joined (same_var y) us bs in omega arith in
      every_joined (IsHeld xs (ys ++ (us ++ bs))) ys (vs ++ ws) (own_held xs ys (us ++ bs))
      (every_joined (IsHeld xs (ys ++ (us ++ bs))) vs ws (every_mapped (IsHeld xs (ys ++ us)) (IsHeld xs (ys ++ (us ++ bs))) front vs (inside ys us vs h))
      (every_mapped (IsHeld xs (ys ++ bs)) (IsHeld xs (ys ++ (us ++ bs))) move ws (inside ys bs ws k)))

mutual
  pub all_held_of : (xs : List Var) (e : Node) → IsClosed xs e → Every (IsHeld xs (binders_of e)) (variables_of e)
  all_held_of xs (At p c) h = all_held_in xs c h

  all_held_in : (xs : List Var) (c : Core) → IsClosedIn xs c → Every (IsHeld xs (binders_in c)) (variables_in c)
  all_held_in xs (Constant s) h = tt
  all_held_in xs Unspecified h = tt
  all_held_in xs Undefined h = tt
  all_held_in xs (Local x) h = (bound_held xs [] x h, tt)
  all_held_in xs (Global g) h = tt
  all_held_in xs (Lambda ys r b) h =
      every_joined (IsHeld xs ((ys ++ option_list r) ++ binders_of b)) (ys ++ option_list r) (variables_of b) (own_held xs (ys ++ option_list r) (binders_of b))
      (inside xs (ys ++ option_list r) (binders_of b) (variables_of b) (all_held_of ((ys ++ option_list r) ++ xs) b h))
  all_held_in xs (If a b c) h =
      two_held xs (binders_of a) (binders_of b ++ binders_of c) (variables_of a) (variables_of b ++ variables_of c) (all_held_of xs a h.0)
      (two_held xs (binders_of b) (binders_of c) (variables_of b) (variables_of c) (all_held_of xs b h.1) (all_held_of xs c h.2))
  all_held_in xs (SetLocal x e) h = (bound_held xs (binders_of e) x h.0, all_held_of xs e h.1)
  all_held_in xs (SetGlobal q g e) h = all_held_of xs e h
  all_held_in xs (DefGlobal g e) h = all_held_of xs e h
  all_held_in xs (Let ys es e) h = under xs ys (binders_of_all es) (binders_of e) (variables_of_all es) (variables_of e) (all_held xs es h.0) (all_held_of (ys ++ xs) e h.1)
  all_held_in xs (Letrec ys es e) h = under_all xs ys (binders_of_all es) (binders_of e) (variables_of_all es) (variables_of e) (all_held (ys ++ xs) es h.0) (all_held_of (ys ++ xs) e h.1)
  all_held_in xs (Seq es) h = all_held xs es h
  all_held_in xs (Call f es) h = two_held xs (binders_of f) (binders_of_all es) (variables_of f) (variables_of_all es) (all_held_of xs f h.0) (all_held xs es h.1)
  all_held_in xs (PrimUse q es) h = all_held xs es h
  all_held_in xs (Apply f l) h = two_held xs (binders_of f) (binders_of l) (variables_of f) (variables_of l) (all_held_of xs f h.0) (all_held_of xs l h.1)

  pub all_held : (xs : List Var) (es : Nodes) → AreClosed xs es → Every (IsHeld xs (binders_of_all es)) (variables_of_all es)
  all_held xs nil h = tt
  all_held xs (cons e es) h = two_held xs (binders_of e) (binders_of_all es) (variables_of e) (variables_of_all es) (all_held_of xs e h.0) (all_held xs es h.1)

-- a variable that is assigned is held
one_held : (xs bs : List Var) (y : Var) (vs : List Var) → is_one vs y ≡ true → Every (IsHeld xs bs) vs → IsHeld xs bs y
one_held xs bs y [] e h = cc
one_held xs bs y (v ∷ vs) e h = ⊎_elim (λ k. subst (IsHeld xs bs) (same_var_true v y k) h.0) (λ k. one_held xs bs y vs k h.1) (or_cases (same_var v y) (is_one vs y) e)

by_assigned : (xs bs : List Var) (y : Var) (b : Bool) → (b ≡ true → IsHeld xs bs y) → one_if b ≤ count y xs + count y bs
by_assigned xs bs y true h = h refl
by_assigned xs bs y false h = omega arith

pub assigned_held : (xs : List Var) (e : Node) (y : Var) → IsClosed xs e → one_if (assigns y e) ≤ count y xs + count y (binders_of e)
assigned_held xs e y h =
    by_assigned xs (binders_of e) y (assigns y e)
    (λ k. one_held xs (binders_of e) y (assigned_of e) (assigned_found y e ∙ k) (assigned_keep (IsHeld xs (binders_of e)) e (all_held_of xs e h)))

pub all_assigned_held : (xs : List Var) (es : Nodes) (y : Var) → AreClosed xs es → one_if (assigns_any y es) ≤ count y xs + count y (binders_of_all es)
all_assigned_held xs es y h =
    by_assigned xs (binders_of_all es) y (assigns_any y es)
    (λ k. one_held xs (binders_of_all es) y (assigned_all es) (assigned_found_all y es ∙ k) (all_assigned_keep (IsHeld xs (binders_of_all es)) es (all_held xs es h)))

-- the first occurrences of variables are at most us many us a list that has them all
abbrev kept : Var → List Var → List Var
kept x [] = []
kept x (z ∷ zs) = cond (same_var x z) (kept x zs) (z ∷ kept x zs)

kept_length_by : (x z : Var) (zs : List Var) (b : Bool) → length (kept x zs) + count x zs ≡ length zs → length (cond b (kept x zs) (z ∷ kept x zs)) + (one_if b + count x zs) ≡ length zs + 1
kept_length_by x z zs true h = omega arith
kept_length_by x z zs false h = omega arith

kept_length : (x : Var) (zs : List Var) → length (kept x zs) + count x zs ≡ length zs
kept_length x [] = refl
kept_length x (z ∷ zs) = let h = kept_length_by x z zs (same_var x z) (kept_length x zs) in omega arith

kept_count_by : (x y z : Var) (zs : List Var) (b : Bool) → same_var x z ≡ b → (same_var y x ≡ true → ⊥) → count y (kept x zs) ≡ count y zs → count y (cond b (kept x zs) (z ∷ kept x zs)) ≡ one_if (same_var y z) + count y zs
kept_count_by x y z zs true e n h = ⊎_elim (λ k. absurd (n (ap (same_var y) (same_var_true x z e) ∙ k))) (λ k. let j : one_if (same_var y z) ≡ 0 = ap one_if k in omega arith) (cases_Bool (same_var y z))
kept_count_by x y z zs false e n h = omega arith

kept_count : (x y : Var) (zs : List Var) → (same_var y x ≡ true → ⊥) → count y (kept x zs) ≡ count y zs
kept_count x y [] n = refl
kept_count x y (z ∷ zs) n = kept_count_by x y z zs (same_var x z) refl n (kept_count x y zs n)

no_longer : (xs zs : List Var) → ((y : Var) → count y xs ≤ 1) → ((y : Var) → 1 ≤ count y xs → 1 ≤ count y zs) → length xs ≤ length zs
no_longer [] zs h k = omega arith
no_longer (x ∷ xs) zs h k =
    let own : one_if (same_var x x) ≡ 1 = ap one_if (same_var_itself x) in
    let once = h x in
    let there = k x (omega arith) in
    let fewer = kept_length x zs in
    let rest = no_longer xs (kept x zs) (λ y. let a = h y in omega arith)
    (λ y n. let a = k y (omega arith) in
    let differ : same_var y x ≡ true → ⊥ = λ e. let q : count y xs ≡ count x xs = ap (λ v. count v xs) (same_var_true y x e) in absurd (omega arith) in
    let c = kept_count x y zs differ in omega arith) in
    omega arith

noted_once_by : (xs : List Var) (x y : Var) (b : Bool) → list_any (same_var x) xs ≡ b → count y xs ≤ 1 → count y (cond b xs (xs ++ x ∷ [])) ≤ 1
noted_once_by xs x y true e h = h
noted_once_by xs x y false e h =
    let j = times_joined (same_var y) xs (x ∷ []) in
    ⊎_elim
    (λ k. let q : count y xs ≡ count x xs = ap (λ v. count v xs) (same_var_true y x k) in
    let z = none (count x xs) (sym (any_times (same_var x) xs) ∙ e) in
    let o : one_if (same_var y x) ≡ 1 = ap one_if k in omega arith)
    (λ k. let o : one_if (same_var y x) ≡ 0 = ap one_if k in omega arith)
    (cases_Bool (same_var y x))
  where
    none : (n : ℕ) → nat_le 1 n ≡ false → n ≡ 0
    none n h = let k = leb-false 1 n h in omega arith

firsts_once : (xs ys : List Var) → ((y : Var) → count y xs ≤ 1) → (y : Var) → count y (firsts_behind same_var xs ys) ≤ 1
firsts_once xs [] h = h
firsts_once xs (z ∷ ys) h = firsts_once (noted same_var xs z) ys (λ y. noted_once_by xs z y (list_any (same_var z) xs) refl (h y))

noted_keep : (P : Var → Type 0) (xs : List Var) (x : Var) (b : Bool) → Every P xs → P x → Every P (cond b xs (xs ++ x ∷ []))
noted_keep P xs x true h k = h
noted_keep P xs x false h k = every_joined P xs (x ∷ []) h (k, tt)

firsts_keep : (P : Var → Type 0) (xs ys : List Var) → Every P xs → Every P ys → Every P (firsts_behind same_var xs ys)
firsts_keep P xs [] h k = h
firsts_keep P xs (z ∷ ys) h k = firsts_keep P (noted same_var xs z) ys (noted_keep P xs z (list_any (same_var z) xs) h k.0) k.1

counted_held : (zs xs : List Var) (y : Var) → Every (λ x. 1 ≤ count x zs) xs → 1 ≤ count y xs → 1 ≤ count y zs
counted_held zs [] y h k = absurd (omega arith)
counted_held zs (x ∷ xs) y h k =
    ⊎_elim (λ e. subst (λ v. 1 ≤ count v zs) (sym (same_var_true y x e)) h.0)
    (λ e. let o : one_if (same_var y x) ≡ 0 = ap one_if e in counted_held zs xs y h.1 (omega arith))
    (cases_Bool (same_var y x))

pub firsts_few : (es : Nodes) → AreClosed [] es → length (firsts same_var (variables_of_all es)) ≤ length (binders_of_all es)
firsts_few es h =
    let held = every_mapped (IsHeld [] (binders_of_all es)) (λ x. 1 ≤ count x (binders_of_all es)) (λ x k. omega arith) (variables_of_all es) (all_held [] es h) in
    no_longer (firsts same_var (variables_of_all es)) (binders_of_all es) (firsts_once [] (variables_of_all es) (λ y. omega arith))
    (λ y k. counted_held (binders_of_all es) (firsts same_var (variables_of_all es)) y (firsts_keep (λ x. 1 ≤ count x (binders_of_all es)) [] (variables_of_all es) tt held) k)
