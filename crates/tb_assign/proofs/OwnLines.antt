-- Each node that has an order has a line in the order of its program: no fewer lines have a number than nodes.
use Rattle.std.proofs.Common.{◌≡◌, refl, sym, ap, ◌∙◌, ℕ, zero, suc, ◌+◌, ◌<◌, ◌≤◌, inl, inr, ⊎_elim, arith, Bool, true, false, cond, ◌==◌, List, [], ◌∷◌, ◌++◌, length, map, eqb-true, eq-eqb}
use Rattle.std.proofs.lemmas.Bool.{cases_Bool, ne_eqb}
use Rattle.tb_prim.specs.declared.place.Place.{Place}
use Rattle.tb_semantics.specs.Graph.{IsIn}
use Rattle.tb_core.specs.Tree.{Tree, Node, Form, Quote, Local, Global, Lambda, If, SetLocal, SetGlobal, DefGlobal, Let, Letrec, Seq, Call, PrimUse, Apply, Trees, none, more, LambdaTree, ProgramTree}
use Rattle.tb_core.specs.FreeVariables.{is_assigned}
use Rattle.tb_core.specs.OperandOrder.{Line, has_order, operands, line_of, own_line, lines, lines_form, lines_all, lines_of_lambdas, lambdas_lines, order_of}
use Rattle.tb_core.specs.Rules.{Every, InnerAreGreater, KeepsRules, inner, inner_form, inner_all, inner_of_lambdas, standing}
use Rattle.tb_core.proofs.Members.{in-tested}
use Rattle.tb_ir.specs.Rules.{times}
use Rattle.tb_assign.proofs.Counts.{one_if}
use Rattle.tb_assign.proofs.Weights.{weigh, weigh_form, weigh_all}

-- the sum of what is counted for each of a list
abbrev pub add_up : (ℕ → ℕ) → List ℕ → ℕ
add_up c [] = 0
add_up c (l ∷ ls) = c l + add_up c ls

add-append : (c : ℕ → ℕ) (xs ys : List ℕ) → add_up c (xs ++ ys) ≡ add_up c xs + add_up c ys
add-append c [] ys = omega arith
add-append c (x ∷ xs) ys = let h = add-append c xs ys in omega arith

add_same : (c d : ℕ → ℕ) (P : ℕ → Type 0) (xs : List ℕ) → ((x : ℕ) → P x → c x ≡ d x) → Every P xs → add_up c xs ≡ add_up d xs
add_same c d P [] h e = refl
add_same c d P (x ∷ xs) h e = let a = h x e.0 in let b = add_same c d P xs h e.1 in omega arith

-- the sum over so many numbers from the first on
abbrev add_from : (ℕ → ℕ) → ℕ → ℕ → ℕ
add_from c first zero = 0
add_from c first (suc n) = c first + add_from c (suc first) n

add_from_same : (c d : ℕ → ℕ) (first n : ℕ) → ((x : ℕ) → first ≤ x → c x ≡ d x) → add_from c first n ≡ add_from d first n
add_from_same c d first zero h = refl
add_from_same c d first (suc n) h =
    let a = h first (omega arith) in
    let b = add_from_same c d (suc first) n (λ x le. h x (omega arith)) in omega arith

module _ (w : ℕ) where
  abbrev pub site_count : List Line → ℕ
  site_count [] = 0
  site_count (l ∷ ls) = cond (l.site == w) 1 0 + site_count ls

  pub site-count : (ls : List Line) → times w (map (λ (l : Line). l.site) ls) ≡ site_count ls
  site-count [] = refl
  site-count (l ∷ ls) = let h = site-count ls in omega arith

  count_append : (ks ls : List Line) → site_count (ks ++ ls) ≡ site_count ks + site_count ls
  count_append [] ls = omega arith
  count_append (k ∷ ks) ls = let h = count_append ks ls in omega arith

  -- whether a node has an order and the number
  abbrev pub lined_here : Place → ℕ → Form → ℕ
  lined_here p s f = cond (has_order f) (one_if (s == w)) 0

  module _ (a : ℕ → Bool) (I : ℕ → List Line) where
    abbrev inside : ℕ → ℕ
    inside l = site_count (I l)

    own_count : (p : Place) (s : ℕ) (f : Form) → site_count (own_line a p s f) ≡ lined_here p s f
    own_count p s f = by_test (has_order f)
      where
        by_test : (b : Bool) → site_count (cond b (record { place = p; site = s; order = line_of a (operands f) } ∷ []) []) ≡ cond b (one_if (s == w)) 0
        by_test true = omega arith
        by_test false = refl

    group_count : (ls : List ℕ) → site_count (lines_of_lambdas I ls) ≡ add_up inside ls
    group_count [] = refl
    group_count (l ∷ ls) = let h = group_count ls in let v = count_append (I l) (lines_of_lambdas I ls) in omega arith

    mutual
      lines_count : (e : Tree) → site_count (lines a I e) ≡ weigh lined_here e + add_up inside (inner e)
      lines_count (Node p s f) =
          let h = form_count f in let o = own_count p s f in
          let v = count_append (own_line a p s f) (lines_form a I f) in omega arith

      form_count : (f : Form) → site_count (lines_form a I f) ≡ weigh_form lined_here f + add_up inside (inner_form f)
      form_count (Quote c) = refl
      form_count (Local x) = refl
      form_count (Global n) = refl
      form_count (Lambda l) = omega arith
      form_count (If b c d) =
          let i = lines_count b in let j = lines_count c in let k = lines_count d in
          let v = count_append (lines a I b) (lines a I c ++ lines a I d) in
          let u = count_append (lines a I c) (lines a I d) in
          let x = add-append inside (inner b) (inner c ++ inner d) in
          let y = add-append inside (inner c) (inner d) in omega arith
      form_count (SetLocal x e) = lines_count e
      form_count (SetGlobal n e) = lines_count e
      form_count (DefGlobal n e) = lines_count e
      form_count (Let xs es e) =
          let i = all_count es in let j = lines_count e in
          let v = count_append (lines_all a I es) (lines a I e) in
          let x = add-append inside (inner_all es) (inner e) in omega arith
      form_count (Letrec xs ls e) =
          let i = group_count ls in let j = lines_count e in
          let v = count_append (lines_of_lambdas I ls) (lines a I e) in
          let x = add-append inside ls (inner e) in omega arith
      form_count (Seq es) = all_count es
      form_count (Call f es) =
          let i = lines_count f in let j = all_count es in
          let v = count_append (lines a I f) (lines_all a I es) in
          let x = add-append inside (inner f) (inner_all es) in omega arith
      form_count (PrimUse q es) = all_count es
      form_count (Apply f l) =
          let i = lines_count f in let j = lines_count l in
          let v = count_append (lines a I f) (lines a I l) in
          let x = add-append inside (inner f) (inner l) in omega arith

      all_count : (es : Trees) → site_count (lines_all a I es) ≡ weigh_all lined_here es + add_up inside (inner_all es)
      all_count none = refl
      all_count (more e es) =
          let i = lines_count e in let j = all_count es in
          let v = count_append (lines a I e) (lines_all a I es) in
          let x = add-append inside (inner e) (inner_all es) in omega arith

  abbrev pub weigh_bodies : List LambdaTree → ℕ
  weigh_bodies [] = 0
  weigh_bodies (l ∷ ls) = weigh lined_here l.body + weigh_bodies ls

  module _ (a : ℕ → Bool) where
    abbrev counted : List LambdaTree → ℕ → ℕ → ℕ
    counted ms first l = site_count (lambdas_lines a ms first l)

    past : (m : LambdaTree) (ms : List LambdaTree) (first x : ℕ) → first < x → counted (m ∷ ms) first x ≡ counted ms (suc first) x
    past m ms first x lt = ap (λ b. site_count (cond b (lines a (lambdas_lines a ms (suc first)) m.body) (lambdas_lines a ms (suc first) x)))
        (ne_eqb first x (λ e. absurd (omega arith)))

    here : (m : LambdaTree) (ms : List LambdaTree) (first : ℕ) →
        counted (m ∷ ms) first first ≡ site_count (lines a (lambdas_lines a ms (suc first)) m.body)
    here m ms first = ap (λ b. site_count (cond b (lines a (lambdas_lines a ms (suc first)) m.body) (lambdas_lines a ms (suc first) first)))
        (eq-eqb first first refl)

    still_past : (ms : List LambdaTree) (first low : ℕ) → low ≤ first → InnerAreGreater first ms → Every (λ x. low < x) (inner_of_lambdas ms)
    still_past [] first low le h = tt
    still_past (m ∷ ms) first low le h = joined (inner m.body) (still_past ms (suc first) low (omega arith) h.1) h.0
      where
        joined : (xs : List ℕ) → Every (λ x. low < x) (inner_of_lambdas ms) → Every (λ x. first < x) xs →
            Every (λ x. low < x) (xs ++ inner_of_lambdas ms)
        joined [] r k = r
        joined (x ∷ xs) r k = let lt = k.0 in (omega arith, joined xs r k.1)

    -- the lines of all lambda expressions: their own, and those of the lambda expressions in them
    bodies_count : (ms : List LambdaTree) (first : ℕ) → InnerAreGreater first ms →
        add_from (counted ms first) first (length ms) ≡ weigh_bodies ms + add_up (counted ms first) (inner_of_lambdas ms)
    bodies_count [] first h = refl
    bodies_count (m ∷ ms) first h =
        let own = here m ms first in
        let body = lines_count a (lambdas_lines a ms (suc first)) m.body in
        let rest = bodies_count ms (suc first) h.1 in
        let shift : add_from (counted (m ∷ ms) first) (suc first) (length ms) ≡ add_from (counted ms (suc first)) (suc first) (length ms) =
        add_from_same _ _ (suc first) (length ms) (λ x le. past m ms first x (omega arith)) in
        let split = add-append (counted (m ∷ ms) first) (inner m.body) (inner_of_lambdas ms) in
        let one : add_up (counted (m ∷ ms) first) (inner m.body) ≡ add_up (counted ms (suc first)) (inner m.body) =
        add_same _ _ (λ x. first < x) (inner m.body) (λ x lt. past m ms first x lt) h.0 in
        let two : add_up (counted (m ∷ ms) first) (inner_of_lambdas ms) ≡ add_up (counted ms (suc first)) (inner_of_lambdas ms) =
        add_same _ _ (λ x. first < x) (inner_of_lambdas ms) (λ x lt. past m ms first x lt) (still_past ms (suc first) first (omega arith) h.1) in
        omega arith

-- a list with each number below a bound has at least the sum over them
module _ (c : ℕ → ℕ) where
  abbrev below : ℕ → List ℕ → ℕ
  below n [] = 0
  below n (x ∷ xs) = cond (x == n) (c n) 0 + below n xs

  once : (n : ℕ) (xs : List ℕ) → IsIn n xs → c n ≤ below n xs
  once n [] i = absurd i
  once n (x ∷ xs) (inl e) = let t = ap (λ b. cond b (c n) 0) (eq-eqb x n e) in omega arith
  once n (x ∷ xs) (inr i) = let h = once n xs i in omega arith

  -- the sum over those of a list that are below a bound
  abbrev small : ℕ → List ℕ → ℕ
  small zero xs = 0
  small (suc n) xs = below n xs + small n xs

  small_one : (n x : ℕ) (xs : List ℕ) → small n (x ∷ xs) ≡ small n (x ∷ []) + small n xs
  small_one zero x xs = refl
  small_one (suc n) x xs = let h = small_one n x xs in omega arith

  one_within : (n x : ℕ) → (small n (x ∷ []) ≤ c x) × (n ≤ x → small n (x ∷ []) ≡ 0)
  one_within zero x = (omega arith, λ h. refl)
  one_within (suc n) x =
      let h = one_within n x in
      ⊎_elim
      (λ t. let e = eqb-true x n t in let z = h.1 (omega arith) in
      let v : cond (x == n) (c n) 0 ≡ c x = ap (λ b. cond b (c n) 0) t ∙ ap c (sym e) in
      (omega arith, λ le. absurd (omega arith)))
      (λ f. let v : cond (x == n) (c n) 0 ≡ 0 = ap (λ b. cond b (c n) 0) f in
      (let q = h.0 in omega arith, λ le. let q = h.1 (omega arith) in omega arith))
      (cases_Bool (x == n))

  small_within : (n : ℕ) (xs : List ℕ) → small n xs ≤ add_up c xs
  small_within zero [] = omega arith
  small_within (suc n) [] = let h = small_within n [] in omega arith
  small_within n (x ∷ xs) =
      let h = small_within n xs in let o = (one_within n x).0 in let s = small_one n x xs in omega arith

  from_end : (first n : ℕ) → add_from c first (suc n) ≡ add_from c first n + c (first + n)
  from_end first zero = let e : c (first + 0) ≡ c first = ap c (omega arith) in omega arith
  from_end first (suc n) =
      let h = from_end (suc first) n in let e : c (suc first + n) ≡ c (first + suc n) = ap c (omega arith) in omega arith

  from_small : (n : ℕ) (xs : List ℕ) → ((x : ℕ) → x < n → IsIn x xs) → add_from c 0 n ≤ small n xs
  from_small zero xs h = omega arith
  from_small (suc n) xs h =
      let i = from_small n xs (λ x lt. h x (omega arith)) in
      let o = once n xs (h n (omega arith)) in
      let e : c (0 + n) ≡ c n = ap c (omega arith) in
      let f = from_end 0 n in omega arith

-- the nodes of a program with a number and an order are no more than its lines
pub lines-enough : (p : ProgramTree) (w : ℕ) → KeepsRules p →
    weigh_all (lined_here w) p.forms + weigh_bodies w p.lambdas ≤ times w (map (λ (l : Line). l.site) (order_of p))
lines-enough p w r =
    let I = lambdas_lines (is_assigned p) p.lambdas 0 in
    let c : ℕ → ℕ = counted w (is_assigned p) p.lambdas 0 in
    let top = all_count w (is_assigned p) I p.forms in
    let total = site-count w (order_of p) in
    let bodies = bodies_count w (is_assigned p) p.lambdas 0 r.inner_greater in
    let split = add-append c (inner_all p.forms) (inner_of_lambdas p.lambdas) in
    let each = from_small c (length p.lambdas) (standing p) (λ x lt. in-tested (standing p) x (r.lambdas_at_least_once x lt)) in
    let within = small_within c (length p.lambdas) (standing p) in
    omega arith
