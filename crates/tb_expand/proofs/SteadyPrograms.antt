-- Nodes that are steady by what they assign themselves are so by what the whole text assigns.
use Rattle.std.proofs.Common.{◌≡◌, refl, ap, ◌∙◌, ℕ, ◌+◌, ◌≤◌, ◌||◌, arith, Bool, true, false, List, [], ◌∷◌, ◌++◌}
use Rattle.tb_core.specs.Rules.{Every}
use Rattle.tb_expand.specs.Shapes.{option_list}
use Rattle.tb_expand.specs.Trees.{Var, same_var, Node, At, Core, Constant, Unspecified, Undefined, Local, Global, Lambda, If, SetLocal, SetGlobal, DefGlobal, Let, Letrec, Seq, Call, PrimUse, Apply, Nodes, nil, cons, assigns, assigns_in, assigns_any}
use Rattle.tb_expand.specs.Closed.{binders_of, binders_in, binders_of_all, is_bound, IsClosed, IsClosedIn, AreClosed, one_if}
use Rattle.tb_expand.proofs.Times.{times_joined}
use Rattle.tb_expand.proofs.FirstOccurrences.{same_var_true}
use Rattle.tb_expand.proofs.NamedVariables.{count, own_held, bound_held, every_mapped, assigned_held, all_assigned_held}
use Rattle.tb_expand.proofs.Steady.{MarksPass, IsSteady, IsSteadyIn, AreSteady}
use Rattle.tb_expand.proofs.SteadyMeanings.{own_assigns, or_most, or_first, or_second}

pub bool_same : (a b : Bool) → one_if a ≡ one_if b → a ≡ b
bool_same true true h = refl
bool_same true false h = absurd (omega arith)
bool_same false true h = absurd (omega arith)
bool_same false false h = refl

marks_moved : (f g : Var → Bool) (xs : List Var) (es : Nodes) → Every (λ x. g x ≡ f x) xs → MarksPass f xs es → MarksPass g xs es
marks_moved f g xs nil q h = h
marks_moved f g [] (cons e es) q h = h
marks_moved f g (x ∷ xs) (cons e es) q h = (λ m. q.0 ∙ h.0 m, marks_moved f g xs es q.1 h.1)

every_two : {X : Type 0} (P Q R : X → Type 0) → ((x : X) → P x → Q x → R x) → (xs : List X) → Every P xs → Every Q xs → Every R xs
every_two P Q R f [] h k = tt
every_two P Q R f (x ∷ xs) h k = (f x h.0 k.0, every_two P Q R f xs h.1 k.1)

module _ (whole : Var → Bool) where
  abbrev final : Core → Var → Bool
  final c x = whole x

  -- no variable is bound in a node and round it, or twice
  abbrev Apart : List Var → List Var → Type 0
  Apart xs bs = (y : Var) → count y xs + count y bs ≤ 1

  -- the whole text assigns what is bound in a node where the node does
  abbrev Agrees : (Var → Bool) → List Var → Type 0
  Agrees p bs = (y : Var) → 1 ≤ count y bs → one_if (whole y) ≡ one_if (p y)

  -- only variables that are bound round a node or in it are assigned
  abbrev Held : List Var → (Var → Bool) → List Var → Type 0
  Held xs p bs = (y : Var) → one_if (p y) ≤ count y xs + count y bs

  left_apart : (xs us ws : List Var) → Apart xs (us ++ ws) → Apart xs us
  left_apart xs us ws a y = let h = a y in let j = times_joined (same_var y) us ws in omega arith

  right_apart : (xs us ws : List Var) → Apart xs (us ++ ws) → Apart xs ws
  right_apart xs us ws a y = let h = a y in let j = times_joined (same_var y) us ws in omega arith

  under_apart : (xs us ws : List Var) → Apart xs (us ++ ws) → Apart (us ++ xs) ws
  under_apart xs us ws a y = let h = a y in let j = times_joined (same_var y) us ws in let k = times_joined (same_var y) us xs in omega arith

  left_agrees : (xs us ws : List Var) (p q : Var → Bool) → Apart xs (us ++ ws) → Agrees (λ y. p y || q y) (us ++ ws) → Held xs q ws → Agrees p us
  left_agrees xs us ws p q a h o y k =
      let j = times_joined (same_var y) us ws in
      let b = a y in
      let c = h y (omega arith) in
      let d = o y in
      let e = or_most (p y) (q y) in
      let f = or_first (p y) (q y) in
      omega arith

  right_agrees : (xs us ws : List Var) (p q : Var → Bool) → Apart xs (us ++ ws) → Agrees (λ y. p y || q y) (us ++ ws) → Held xs p us → Agrees q ws
  right_agrees xs us ws p q a h o y k =
      let j = times_joined (same_var y) us ws in
      let b = a y in
      let c = h y (omega arith) in
      let d = o y in
      let e = or_most (p y) (q y) in
      let f = or_second (p y) (q y) in
      omega arith

  behind_agrees : (us ws : List Var) (p : Var → Bool) → Agrees p (us ++ ws) → Agrees p ws
  behind_agrees us ws p h y k = let j = times_joined (same_var y) us ws in h y (omega arith)

  two_held : (xs us ws : List Var) (p q : Var → Bool) → Held xs p us → Held xs q ws → Held xs (λ y. p y || q y) (us ++ ws)
  two_held xs us ws p q h k y = let j = times_joined (same_var y) us ws in let a = h y in let b = k y in by (p y) (q y) (count y xs) (count y us) (count y ws) (count y (us ++ ws)) j a b
    where
      by : (a b : Bool) (n u w m : ℕ) → m ≡ u + w → one_if a ≤ n + u → one_if b ≤ n + w → one_if (a || b) ≤ n + m
      by true b n u w m j h k = omega arith
      by false b n u w m j h k = omega arith

  around_held : (us xs bs : List Var) (p : Var → Bool) → Held xs p bs → Held (us ++ xs) p bs
  around_held us xs bs p h y = let k = h y in let j = times_joined (same_var y) us xs in omega arith

  own_agree : (us ws : List Var) (p : Var → Bool) → Agrees p (us ++ ws) → Every (λ x. whole x ≡ p x) us
  own_agree us ws p h =
      every_mapped (λ y. 1 ≤ count y [] + count y (us ++ ws)) (λ y. whole y ≡ p y) (λ y k. bool_same (whole y) (p y) (h y (omega arith))) us (own_held [] us ws)

  name_held : (xs : List Var) (x : Var) → is_bound xs x ≡ true → Held xs (λ y. same_var x y) []
  name_held xs x h y = by (same_var x y) refl
    where
      by : (b : Bool) → same_var x y ≡ b → one_if b ≤ count y xs + count y []
      by true e = let k = bound_held xs [] x h in let q : count x xs ≡ count y xs = ap (λ v. count v xs) (same_var_true x y e) in omega arith
      by false e = omega arith

  mutual
    keeps_node : (xs : List Var) (e : Node) → IsClosed xs e → Apart xs (binders_of e) → Agrees (λ y. assigns y e) (binders_of e) → IsSteady own_assigns e → IsSteady final e
    keeps_node xs (At p c) o a h k = keeps_core xs c o a h k

    keeps_core : (xs : List Var) (c : Core) → IsClosedIn xs c → Apart xs (binders_in c) → Agrees (λ y. assigns_in y c) (binders_in c) → IsSteadyIn own_assigns c → IsSteadyIn final c
    keeps_core xs (Constant s) o a h k = tt
    keeps_core xs Unspecified o a h k = tt
    keeps_core xs Undefined o a h k = tt
    keeps_core xs (Local x) o a h k = tt
    keeps_core xs (Global g) o a h k = tt
    keeps_core xs (Lambda ys r b) o a h k =
        let us = ys ++ option_list r in
        (k.0, keeps_node (us ++ xs) b o (under_apart xs us (binders_of b) a) (behind_agrees us (binders_of b) (λ y. assigns y b) h) k.1)
    keeps_core xs (If b c d) o a h k =
        let bb = binders_of b in
        let bc = binders_of c in
        let bd = binders_of d in
        let p = λ (y : Var). assigns y b in
        let q = λ (y : Var). assigns y c || assigns y d in
        let hc : Held xs (λ y. assigns y c) bc = λ y. assigned_held xs c y o.1 in
        let hd : Held xs (λ y. assigns y d) bd = λ y. assigned_held xs d y o.2 in
        let rest : Agrees q (bc ++ bd) = right_agrees xs bb (bc ++ bd) p q a h (λ y. assigned_held xs b y o.0) in
        let apart = right_apart xs bb (bc ++ bd) a in (
          k.0,
          keeps_node xs b o.0 (left_apart xs bb (bc ++ bd) a) (left_agrees xs bb (bc ++ bd) p q a h (two_held xs bc bd (λ y. assigns y c) (λ y. assigns y d) hc hd)) k.1,
          keeps_node xs c o.1 (left_apart xs bc bd apart) (left_agrees xs bc bd (λ y. assigns y c) (λ y. assigns y d) apart rest hd) k.2,
          keeps_node xs d o.2 (right_apart xs bc bd apart) (right_agrees xs bc bd (λ y. assigns y c) (λ y. assigns y d) apart rest hc) k.3,
        )
    keeps_core xs (SetLocal x e) o a h k =
        (k.0, keeps_node xs e o.1 a (right_agrees xs [] (binders_of e) (λ y. same_var x y) (λ y. assigns y e) a h (name_held xs x o.0)) k.1)
    keeps_core xs (SetGlobal q g e) o a h k = (k.0, keeps_node xs e o a h k.1)
    keeps_core xs (DefGlobal g e) o a h k = (k.0, keeps_node xs e o a h k.1)
    keeps_core xs (Let ys es e) o a h k =
        let bs = binders_of_all es in
        let be = binders_of e in
        let p = λ (y : Var). assigns_any y es in
        let q = λ (y : Var). assigns y e in
        let inside = under_apart xs ys (bs ++ be) a in
        let rest = behind_agrees ys (bs ++ be) (λ y. p y || q y) h in
        let hp : Held (ys ++ xs) p bs = around_held ys xs bs p (λ y. all_assigned_held xs es y o.0) in
        let hq : Held (ys ++ xs) q be = λ y. assigned_held (ys ++ xs) e y o.1 in (
          marks_moved (own_assigns (Let ys es e)) whole ys es (own_agree ys (bs ++ be) (λ y. p y || q y) h) k.0,
          k.1,
          keeps_all xs es o.0 (left_apart xs bs be (right_apart xs ys (bs ++ be) a)) (left_agrees (ys ++ xs) bs be p q inside rest hq) k.2,
          keeps_node (ys ++ xs) e o.1 (right_apart (ys ++ xs) bs be inside) (right_agrees (ys ++ xs) bs be p q inside rest hp) k.3,
        )
    keeps_core xs (Letrec ys es e) o a h k =
        let bs = binders_of_all es in
        let be = binders_of e in
        let p = λ (y : Var). assigns_any y es in
        let q = λ (y : Var). assigns y e in
        let inside = under_apart xs ys (bs ++ be) a in
        let rest = behind_agrees ys (bs ++ be) (λ y. p y || q y) h in
        let hp : Held (ys ++ xs) p bs = λ y. all_assigned_held (ys ++ xs) es y o.0 in
        let hq : Held (ys ++ xs) q be = λ y. assigned_held (ys ++ xs) e y o.1 in (
          every_two (λ x. whole x ≡ (p x || q x)) (λ x. own_assigns (Letrec ys es e) x ≡ false) (λ x. whole x ≡ false) (λ x u v. u ∙ v) ys (own_agree ys (bs ++ be) (λ y. p y || q y) h) k.0,
          k.1,
          keeps_all (ys ++ xs) es o.0 (left_apart (ys ++ xs) bs be inside) (left_agrees (ys ++ xs) bs be p q inside rest hq) k.2,
          keeps_node (ys ++ xs) e o.1 (right_apart (ys ++ xs) bs be inside) (right_agrees (ys ++ xs) bs be p q inside rest hp) k.3,
        )
    keeps_core xs (Seq es) o a h k = (k.0, keeps_all xs es o a h k.1)
    keeps_core xs (Call f es) o a h k =
        let bf = binders_of f in
        let bs = binders_of_all es in
        let p = λ (y : Var). assigns y f in
        let q = λ (y : Var). assigns_any y es in (
          k.0,
          keeps_node xs f o.0 (left_apart xs bf bs a) (left_agrees xs bf bs p q a h (λ y. all_assigned_held xs es y o.1)) k.1,
          keeps_all xs es o.1 (right_apart xs bf bs a) (right_agrees xs bf bs p q a h (λ y. assigned_held xs f y o.0)) k.2,
        )
    keeps_core xs (PrimUse q es) o a h k = (k.0, keeps_all xs es o a h k.1)
    keeps_core xs (Apply f l) o a h k =
        let bf = binders_of f in
        let bl = binders_of l in
        let p = λ (y : Var). assigns y f in
        let q = λ (y : Var). assigns y l in (
          k.0,
          keeps_node xs f o.0 (left_apart xs bf bl a) (left_agrees xs bf bl p q a h (λ y. assigned_held xs l y o.1)) k.1,
          keeps_node xs l o.1 (right_apart xs bf bl a) (right_agrees xs bf bl p q a h (λ y. assigned_held xs f y o.0)) k.2,
        )

    pub keeps_all : (xs : List Var) (es : Nodes) → AreClosed xs es → Apart xs (binders_of_all es) → Agrees (λ y. assigns_any y es) (binders_of_all es) → AreSteady own_assigns es → AreSteady final es
    keeps_all xs nil o a h k = tt
    keeps_all xs (cons e es) o a h k =
        let be = binders_of e in
        let bs = binders_of_all es in
        let p = λ (y : Var). assigns y e in
        let q = λ (y : Var). assigns_any y es in (
          keeps_node xs e o.0 (left_apart xs be bs a) (left_agrees xs be bs p q a h (λ y. all_assigned_held xs es y o.1)) k.0,
          keeps_all xs es o.1 (right_apart xs be bs a) (right_agrees xs be bs p q a h (λ y. assigned_held xs e y o.0)) k.1,
        )
