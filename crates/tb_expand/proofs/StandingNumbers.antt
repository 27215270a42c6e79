-- The lambda expressions of a numbered program: each stands once, and those inside another have greater numbers.
use Rattle.std.proofs.Common.{◌≡◌, refl, sym, ap, subst, ◌∙◌, ℕ, suc, ◌+◌, ◌<◌, ◌≤◌, ⊎_elim, arith, Bool, true, List, [], ◌∷◌, ◌++◌, length, length-append}
use Rattle.std.proofs.lemmas.Bool.{cases_lt}
use Rattle.tb_prim.specs.declared.place.Place.{Place}
use Rattle.tb_semantics.specs.Graph.{IsApart}
use Rattle.tb_core.specs.Tree.{LambdaTree}
use Rattle.tb_core.specs.FreeVariables.{is_in}
use Rattle.tb_core.specs.Rules.{Every, Each, EachAll, inner, inner_form, inner_all, inner_of_lambdas, standing, InnerAreGreater}
use Rattle.tb_expand.specs.Trees.{Node, At, Core, Constant, Unspecified, Undefined, Local, Global, Lambda, If, SetLocal, SetGlobal, DefGlobal, Let, Letrec, Seq, Call, PrimUse, Apply, Nodes, nil, cons, is_lambda}
use Rattle.tb_expand.specs.Numbers.{Tables, Before, closures, closures_in, closures_of_all, lambda_numbers, behind_node, behind_nodes, behind_values, one_node, one_closure, numbered, numbered_in, numbered_all, lambdas_of, lambdas_in, lambdas_of_all, lambdas_of_values, tables_of, none_before, program_of}
use Rattle.tb_expand.specs.WellShaped.{AreLambdas, HasShape, HasShapeIn, HaveShape}
use Rattle.tb_expand.specs.Ranges.{LambdaIn}
use Rattle.tb_expand.proofs.LambdaRanges.{trees_names, lambdas_name}
use Rattle.tb_expand.proofs.NamedVariables.{every_left, every_right}
use Rattle.tb_expand.proofs.ShapedNumbers.{every_joined}
use Rattle.tb_expand.specs.Closed.{times}
use Rattle.tb_expand.proofs.Times.{times_joined, is_number, times_apart, times_in, past, past_here, past_none, past_at, past_below, same_once}

-- the lambda expression of a value
pub value_inner : (t : Tables) (b : Before) (p : Place) (c : Core) → is_lambda (At p c) ≡ true → inner_form (numbered_in t b c) ≡ b.closures ∷ []
value_inner t b p (Lambda xs r e) h = refl
value_inner t b p c h = absurd cc

module _ (x : ℕ) where
  -- how often it stands among numbers, and among the lambda expressions of some
  abbrev here : List ℕ → ℕ
  here ls = times (is_number x) ls

  abbrev deep : List LambdaTree → ℕ
  deep ls = here (inner_of_lambdas ls)

  deep_joined : (ls ms : List LambdaTree) → deep (ls ++ ms) ≡ deep ls + deep ms
  deep_joined [] ms = omega arith
  deep_joined (l ∷ ls) ms =
      let h = deep_joined ls ms in
      let j = times_joined (is_number x) (inner l.body) (inner_of_lambdas ls) in
      let k = times_joined (is_number x) (inner l.body) (inner_of_lambdas (ls ++ ms)) in
      omega arith

  mutual
    node_stands : (t : Tables) (b : Before) (e : Node) (m : ℕ) → m ≡ b.closures + closures e → HasShape e → (here (inner (numbered t b e)) + deep (lambdas_of t b e)) + past x m ≡ past x b.closures
    node_stands t b (At p c) m q h = form_stands t (one_node b) p c m q h

    form_stands : (t : Tables) (b : Before) (p : Place) (c : Core) (m : ℕ) → m ≡ b.closures + closures_in c → HasShapeIn c → (here (inner_form (numbered_in t b c)) + deep (lambdas_in t b p c)) + past x m ≡ past x b.closures
    form_stands t b p (Constant s) m q h = let z = ap (past x) q in let y : past x (b.closures + 0) ≡ past x b.closures = ap (past x) (omega arith) in omega arith
    form_stands t b p Unspecified m q h = let z = ap (past x) q in let y : past x (b.closures + 0) ≡ past x b.closures = ap (past x) (omega arith) in omega arith
    form_stands t b p Undefined m q h = let z = ap (past x) q in let y : past x (b.closures + 0) ≡ past x b.closures = ap (past x) (omega arith) in omega arith
    form_stands t b p (Local v) m q h = let z = ap (past x) q in let y : past x (b.closures + 0) ≡ past x b.closures = ap (past x) (omega arith) in omega arith
    form_stands t b p (Global g) m q h = let z = ap (past x) q in let y : past x (b.closures + 0) ≡ past x b.closures = ap (past x) (omega arith) in omega arith
    form_stands t b p (Lambda xs r e) m q h =
        let k = node_stands t (one_closure b) e m (omega arith) h in
        let j = times_joined (is_number x) (inner (numbered t (one_closure b) e)) (inner_of_lambdas (lambdas_of t (one_closure b) e)) in
        let o = past_here x b.closures (b.closures + 1) refl in
        omega arith
    form_stands t b p (If a c d) m q h =
        let b2 = behind_node b a in
        let b3 = behind_node b2 c in
        let i = node_stands t b a b2.closures refl h.0 in
        let j = node_stands t b2 c b3.closures refl h.1 in
        let k = node_stands t b3 d m (omega arith) h.2 in
        let u = times_joined (is_number x) (inner (numbered t b a)) (inner (numbered t b2 c) ++ inner (numbered t b3 d)) in
        let v = times_joined (is_number x) (inner (numbered t b2 c)) (inner (numbered t b3 d)) in
        let w = deep_joined (lambdas_of t b a) (lambdas_of t b2 c ++ lambdas_of t b3 d) in
        let z = deep_joined (lambdas_of t b2 c) (lambdas_of t b3 d) in
        omega arith
    form_stands t b p (SetLocal v e) m q h = node_stands t b e m q h
    form_stands t b p (SetGlobal g v e) m q h = node_stands t b e m q h
    form_stands t b p (DefGlobal g e) m q h = node_stands t b e m q h
    form_stands t b p (Let xs es e) m q h =
        let b2 = behind_nodes b es in
        let i = nodes_stand t b es b2.closures refl h.1 in
        let j = node_stands t b2 e m (omega arith) h.2 in
        let u = times_joined (is_number x) (inner_all (numbered_all t b es)) (inner (numbered t b2 e)) in
        let w = deep_joined (lambdas_of_all t b es) (lambdas_of t b2 e) in
        omega arith
    form_stands t b p (Letrec xs es e) m q h =
        let b2 = behind_values b es in
        let i = values_stand t b es b2.closures refl h.1 h.2 in
        let j = node_stands t b2 e m (omega arith) h.3 in
        let u = times_joined (is_number x) (lambda_numbers b.closures es) (inner (numbered t b2 e)) in
        let w = deep_joined (lambdas_of_values t b es) (lambdas_of t b2 e) in
        omega arith
    form_stands t b p (Seq es) m q h = nodes_stand t b es m q h.1
    form_stands t b p (Call f es) m q h =
        let b2 = behind_node b f in
        let i = node_stands t b f b2.closures refl h.0 in
        let j = nodes_stand t b2 es m (omega arith) h.1 in
        let u = times_joined (is_number x) (inner (numbered t b f)) (inner_all (numbered_all t b2 es)) in
        let w = deep_joined (lambdas_of t b f) (lambdas_of_all t b2 es) in
        omega arith
    form_stands t b p (PrimUse g es) m q h = nodes_stand t b es m q h.1
    form_stands t b p (Apply f l) m q h =
        let b2 = behind_node b f in
        let i = node_stands t b f b2.closures refl h.0 in
        let j = node_stands t b2 l m (omega arith) h.1 in
        let u = times_joined (is_number x) (inner (numbered t b f)) (inner (numbered t b2 l)) in
        let w = deep_joined (lambdas_of t b f) (lambdas_of t b2 l) in
        omega arith

    nodes_stand : (t : Tables) (b : Before) (es : Nodes) (m : ℕ) → m ≡ b.closures + closures_of_all es → HaveShape es → (here (inner_all (numbered_all t b es)) + deep (lambdas_of_all t b es)) + past x m ≡ past x b.closures
    nodes_stand t b nil m q h = let z = ap (past x) q in let y : past x (b.closures + 0) ≡ past x b.closures = ap (past x) (omega arith) in omega arith
    nodes_stand t b (cons e es) m q h =
        let b2 = behind_node b e in
        let i = node_stands t b e b2.closures refl h.0 in
        let j = nodes_stand t b2 es m (omega arith) h.1 in
        let u = times_joined (is_number x) (inner (numbered t b e)) (inner_all (numbered_all t b2 es)) in
        let w = deep_joined (lambdas_of t b e) (lambdas_of_all t b2 es) in
        omega arith

    values_stand : (t : Tables) (b : Before) (es : Nodes) (m : ℕ) → m ≡ b.closures + closures_of_all es → AreLambdas es → HaveShape es → (here (lambda_numbers b.closures es) + deep (lambdas_of_values t b es)) + past x m ≡ past x b.closures
    values_stand t b nil m q l h = let z = ap (past x) q in let y : past x (b.closures + 0) ≡ past x b.closures = ap (past x) (omega arith) in omega arith
    values_stand t b (cons (At p c) es) m q l h =
        let b2 = behind_values b (cons (At p c) nil) in
        let i = form_stands t b p c (b.closures + closures_in c) refl h.0 in
        let n = ap here (value_inner t b p c l.0) in
        let j = values_stand t b2 es m (omega arith) l.1 h.1 in
        let f = ap (λ k. here (lambda_numbers k es)) (same_behind b c) in
        let g = ap (past x) (same_behind b c) in
        let w = deep_joined (lambdas_in t b p c) (lambdas_of_values t b2 es) in
        omega arith
      where
        same_behind : (b : Before) (c : Core) → b.closures + closures_in c ≡ b.closures + (closures_in c + 0)
        same_behind b c = omega arith

stands : (library : Bool) (es : Nodes) (x : ℕ) → HaveShape es → times (is_number x) (standing (program_of library es)) + past x (closures_of_all es) ≡ 1
unfolding program_of
stands library es x h =
    let k = nodes_stand x (tables_of es) none_before es (closures_of_all es) (omega arith) h in
    let j = times_joined (is_number x) (inner_all (numbered_all (tables_of es) none_before es)) (inner_of_lambdas (lambdas_of_all (tables_of es) none_before es)) in
    let o = past_none x in
    omega arith

-- how many lambda expressions there are
mutual
  pub lambdas_counted : (t : Tables) (b : Before) (e : Node) → length (lambdas_of t b e) ≡ closures e
  lambdas_counted t b (At p c) = counted_in t (one_node b) p c

  pub counted_in : (t : Tables) (b : Before) (p : Place) (c : Core) → length (lambdas_in t b p c) ≡ closures_in c
  counted_in t b p (Constant s) = refl
  counted_in t b p Unspecified = refl
  counted_in t b p Undefined = refl
  counted_in t b p (Local v) = refl
  counted_in t b p (Global g) = refl
  counted_in t b p (Lambda xs r e) = let h = lambdas_counted t (one_closure b) e in omega arith
  counted_in t b p (If a c d) =
      let b2 = behind_node b a in
      let b3 = behind_node b2 c in
      let i = lambdas_counted t b a in
      let j = lambdas_counted t b2 c in
      let k = lambdas_counted t b3 d in
      let u = length-append (lambdas_of t b a) (lambdas_of t b2 c ++ lambdas_of t b3 d) in
      let v = length-append (lambdas_of t b2 c) (lambdas_of t b3 d) in
      omega arith
  counted_in t b p (SetLocal v e) = lambdas_counted t b e
  counted_in t b p (SetGlobal g v e) = lambdas_counted t b e
  counted_in t b p (DefGlobal g e) = lambdas_counted t b e
  counted_in t b p (Let xs es e) =
      let i = all_counted t b es in
      let j = lambdas_counted t (behind_nodes b es) e in
      let u = length-append (lambdas_of_all t b es) (lambdas_of t (behind_nodes b es) e) in
      omega arith
  counted_in t b p (Letrec xs es e) =
      let i = values_counted t b es in
      let j = lambdas_counted t (behind_values b es) e in
      let u = length-append (lambdas_of_values t b es) (lambdas_of t (behind_values b es) e) in
      omega arith
  counted_in t b p (Seq es) = all_counted t b es
  counted_in t b p (Call f es) =
      let i = lambdas_counted t b f in
      let j = all_counted t (behind_node b f) es in
      let u = length-append (lambdas_of t b f) (lambdas_of_all t (behind_node b f) es) in
      omega arith
  counted_in t b p (PrimUse g es) = all_counted t b es
  counted_in t b p (Apply f l) =
      let i = lambdas_counted t b f in
      let j = lambdas_counted t (behind_node b f) l in
      let u = length-append (lambdas_of t b f) (lambdas_of t (behind_node b f) l) in
      omega arith

  pub all_counted : (t : Tables) (b : Before) (es : Nodes) → length (lambdas_of_all t b es) ≡ closures_of_all es
  all_counted t b nil = refl
  all_counted t b (cons e es) =
      let i = lambdas_counted t b e in
      let j = all_counted t (behind_node b e) es in
      let u = length-append (lambdas_of t b e) (lambdas_of_all t (behind_node b e) es) in
      omega arith

  pub values_counted : (t : Tables) (b : Before) (es : Nodes) → length (lambdas_of_values t b es) ≡ closures_of_all es
  values_counted t b nil = refl
  values_counted t b (cons (At p c) es) =
      let i = counted_in t b p c in
      let j = values_counted t (behind_values b (cons (At p c) nil)) es in
      let u = length-append (lambdas_in t b p c) (lambdas_of_values t (behind_values b (cons (At p c) nil)) es) in
      omega arith

pub program_lambdas : (library : Bool) (es : Nodes) → length (program_of library es).lambdas ≡ closures_of_all es
unfolding program_of
program_lambdas library es = all_counted (tables_of es) none_before es

pub at_most_once : (library : Bool) (es : Nodes) → HaveShape es → IsApart (standing (program_of library es))
at_most_once library es h = times_apart (standing (program_of library es)) (λ x. let k = stands library es x h in omega arith)

pub at_least_once : (library : Bool) (es : Nodes) → HaveShape es → (l : ℕ) → l < length (program_of library es).lambdas → is_in (standing (program_of library es)) l ≡ true
at_least_once library es h l lt =
    let k = stands library es l h in
    let n = program_lambdas library es in
    let z = past_below l (closures_of_all es) (omega arith) in
    times_in l (standing (program_of library es)) (omega arith)

below_all : (n : ℕ) (xs : List ℕ) → ((x : ℕ) → 1 ≤ times (is_number x) xs → x < n) → Every (λ l. l < n) xs
below_all n [] h = tt
below_all n (x ∷ xs) h = (let o = same_once x in h x (omega arith), below_all n xs (λ y k. h y (omega arith)))

standing_below : (library : Bool) (es : Nodes) → HaveShape es → Every (λ l. l < length (program_of library es).lambdas) (standing (program_of library es))
standing_below library es h =
    below_all (length (program_of library es).lambdas) (standing (program_of library es))
    (λ x k. let s = stands library es x h in let n = program_lambdas library es in
    ⊎_elim (λ l. l) (λ g. let o = past_at x (closures_of_all es) (omega arith) in absurd (omega arith)) (cases_lt x (length (program_of library es).lambdas)))

pub forms_name : (library : Bool) (es : Nodes) → HaveShape es → EachAll (λ s f. LambdaIn (length (program_of library es).lambdas) f) (program_of library es).forms
forms_name library es h =
    let p = program_of library es in
    trees_names (length p.lambdas) p.forms (every_left (λ l. l < length p.lambdas) (inner_all p.forms) (inner_of_lambdas p.lambdas) (standing_below library es h))

pub bodies_name : (library : Bool) (es : Nodes) → HaveShape es → Every (λ l. Each (λ s f. LambdaIn (length (program_of library es).lambdas) f) l.body) (program_of library es).lambdas
bodies_name library es h =
    let p = program_of library es in
    lambdas_name (length p.lambdas) p.lambdas (every_right (λ l. l < length p.lambdas) (inner_all p.forms) (inner_of_lambdas p.lambdas) (standing_below library es h))

-- the lambda expressions inside others
above_joined : (k : ℕ) (xs ys : List ℕ) → Every (λ m. k ≤ m) xs → Every (λ m. k ≤ m) ys → Every (λ m. k ≤ m) (xs ++ ys)
above_joined k xs ys h g = every_joined (λ m. k ≤ m) xs ys h g

numbers_above : (k l : ℕ) (es : Nodes) → k ≤ l → Every (λ m. k ≤ m) (lambda_numbers l es)
numbers_above k l nil h = tt
numbers_above k l (cons e es) h = (h, numbers_above k (l + closures e) es (omega arith))

mutual
  inner_above : (t : Tables) (b : Before) (e : Node) (k : ℕ) → k ≤ b.closures → Every (λ m. k ≤ m) (inner (numbered t b e))
  inner_above t b (At p c) k h = form_above t (one_node b) c k h

  form_above : (t : Tables) (b : Before) (c : Core) (k : ℕ) → k ≤ b.closures → Every (λ m. k ≤ m) (inner_form (numbered_in t b c))
  form_above t b (Constant s) k h = tt
  form_above t b Unspecified k h = tt
  form_above t b Undefined k h = tt
  form_above t b (Local v) k h = tt
  form_above t b (Global g) k h = tt
  form_above t b (Lambda xs r e) k h = (h, tt)
  form_above t b (If a c d) k h =
      above_joined k _ _ (inner_above t b a k h) (above_joined k _ _ (inner_above t (behind_node b a) c k (omega arith)) (inner_above t (behind_node (behind_node b a) c) d k (omega arith)))
  form_above t b (SetLocal v e) k h = inner_above t b e k h
  form_above t b (SetGlobal g v e) k h = inner_above t b e k h
  form_above t b (DefGlobal g e) k h = inner_above t b e k h
  form_above t b (Let xs es e) k h = above_joined k _ _ (all_above t b es k h) (inner_above t (behind_nodes b es) e k (omega arith))
  form_above t b (Letrec xs es e) k h = above_joined k _ _ (numbers_above k b.closures es h) (inner_above t (behind_values b es) e k (omega arith))
  form_above t b (Seq es) k h = all_above t b es k h
  form_above t b (Call f es) k h = above_joined k _ _ (inner_above t b f k h) (all_above t (behind_node b f) es k (omega arith))
  form_above t b (PrimUse g es) k h = all_above t b es k h
  form_above t b (Apply f l) k h = above_joined k _ _ (inner_above t b f k h) (inner_above t (behind_node b f) l k (omega arith))

  all_above : (t : Tables) (b : Before) (es : Nodes) (k : ℕ) → k ≤ b.closures → Every (λ m. k ≤ m) (inner_all (numbered_all t b es))
  all_above t b nil k h = tt
  all_above t b (cons e es) k h = above_joined k _ _ (inner_above t b e k h) (all_above t (behind_node b e) es k (omega arith))

greater_joined : (n m : ℕ) (xs ys : List LambdaTree) → m ≡ n + length xs → InnerAreGreater n xs → InnerAreGreater m ys → InnerAreGreater n (xs ++ ys)
greater_joined n m [] ys q h g = subst (λ k. InnerAreGreater k ys) (q ∙ omega arith) g
greater_joined n m (x ∷ xs) ys q h g = (h.0, greater_joined (suc n) m xs ys (omega arith) h.1 g)

every_weaker : (n k : ℕ) (xs : List ℕ) → n < k → Every (λ m. k ≤ m) xs → Every (λ m. n < m) xs
every_weaker n k [] lt h = tt
every_weaker n k (x ∷ xs) lt h = (omega arith, every_weaker n k xs lt h.1)

mutual
  node_greater : (t : Tables) (b : Before) (e : Node) → InnerAreGreater b.closures (lambdas_of t b e)
  node_greater t b (At p c) = form_greater t (one_node b) p c

  form_greater : (t : Tables) (b : Before) (p : Place) (c : Core) → InnerAreGreater b.closures (lambdas_in t b p c)
  form_greater t b p (Constant s) = tt
  form_greater t b p Unspecified = tt
  form_greater t b p Undefined = tt
  form_greater t b p (Local v) = tt
  form_greater t b p (Global g) = tt
  form_greater t b p (Lambda xs r e) = (
    every_weaker b.closures (b.closures + 1) _ (omega arith) (inner_above t (one_closure b) e (b.closures + 1) (omega arith)),
    subst (λ k. InnerAreGreater k (lambdas_of t (one_closure b) e)) (omega arith) (node_greater t (one_closure b) e),
  )
  form_greater t b p (If a c d) =
      let b2 = behind_node b a in
      let b3 = behind_node b2 c in
      greater_joined b.closures b2.closures (lambdas_of t b a) _ (ap (λ n. b.closures + n) (sym (lambdas_counted t b a))) (node_greater t b a)
      (greater_joined b2.closures b3.closures (lambdas_of t b2 c) _ (ap (λ n. b2.closures + n) (sym (lambdas_counted t b2 c))) (node_greater t b2 c) (node_greater t b3 d))
  form_greater t b p (SetLocal v e) = node_greater t b e
  form_greater t b p (SetGlobal g v e) = node_greater t b e
  form_greater t b p (DefGlobal g e) = node_greater t b e
  form_greater t b p (Let xs es e) =
      greater_joined b.closures (behind_nodes b es).closures (lambdas_of_all t b es) _ (ap (λ n. b.closures + n) (sym (all_counted t b es))) (all_greater t b es) (node_greater t (behind_nodes b es) e)
  form_greater t b p (Letrec xs es e) =
      greater_joined b.closures (behind_values b es).closures (lambdas_of_values t b es) _ (ap (λ n. b.closures + n) (sym (values_counted t b es))) (values_greater t b es) (node_greater t (behind_values b es) e)
  form_greater t b p (Seq es) = all_greater t b es
  form_greater t b p (Call f es) =
      greater_joined b.closures (behind_node b f).closures (lambdas_of t b f) _ (ap (λ n. b.closures + n) (sym (lambdas_counted t b f))) (node_greater t b f) (all_greater t (behind_node b f) es)
  form_greater t b p (PrimUse g es) = all_greater t b es
  form_greater t b p (Apply f l) =
      greater_joined b.closures (behind_node b f).closures (lambdas_of t b f) _ (ap (λ n. b.closures + n) (sym (lambdas_counted t b f))) (node_greater t b f) (node_greater t (behind_node b f) l)

  all_greater : (t : Tables) (b : Before) (es : Nodes) → InnerAreGreater b.closures (lambdas_of_all t b es)
  all_greater t b nil = tt
  all_greater t b (cons e es) =
      greater_joined b.closures (behind_node b e).closures (lambdas_of t b e) _ (ap (λ n. b.closures + n) (sym (lambdas_counted t b e))) (node_greater t b e) (all_greater t (behind_node b e) es)

  values_greater : (t : Tables) (b : Before) (es : Nodes) → InnerAreGreater b.closures (lambdas_of_values t b es)
  values_greater t b nil = tt
  values_greater t b (cons (At p c) es) =
      let b2 = behind_values b (cons (At p c) nil) in
      let n = counted_in t b p c in
      greater_joined b.closures b2.closures (lambdas_in t b p c) _ (omega arith) (form_greater t b p c) (values_greater t b2 es)

pub inner_greater : (library : Bool) (es : Nodes) → InnerAreGreater 0 (program_of library es).lambdas
unfolding program_of
inner_greater library es = all_greater (tables_of es) none_before es
