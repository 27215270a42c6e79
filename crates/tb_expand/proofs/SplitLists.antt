-- Bindings that are split, and the nodes round them, as the code makes them.
use Rattle.std.proofs.Common.{◌≡◌, ◌≢◌, refl, sym, ap, ◌∙◌, ℕ, zero, suc, ◌+◌, ◌^◌, ◌<◌, ◌≤◌, ◌==◌, ◌&&◌, ◌||◌, not, nat_le, Bool, true, false, cond, arith, List, [], ◌∷◌, ◌++◌, map, length, take, append_assoc, Option, Some, None}
use Rattle.std.proofs.Math.Numerals.{add-one}
use Rattle.std.proofs.lemmas.Bool.{eqb-true, lt-leb}
use Rattle.std.proofs.lemmas.List.Folds.{list_any-append}
use Rattle.tb_prim.specs.declared.place.Place.{Place}
use Rattle.tb_expand.specs.declared.name.Variable.{Variable as VariableCode}
use Rattle.tb_expand.specs.declared.tree.Node.{Node as NodeCode}
use Rattle.tb_expand.specs.Trees.{Var, same_var, Node, At, Core, Constant, Unspecified, Undefined, Local, Global, Lambda, If, SetLocal, SetGlobal, DefGlobal, Let, Letrec, Seq, Call, PrimUse, Apply, Nodes, nil, cons, how_many, joined, is_lambda, assigns, assigns_in, assigns_any}
use Rattle.tb_expand.specs.Splits.{Bindings, no_bindings, binding_if, is_steady, chosen, Split, split, assigned_before, in_order, letrec_round, let_round, undefined, node_of, one_unless, lambdas_among, inserted, first_deep}
use Rattle.tb_expand.specs.Refusals.{Budget, TooDeep}
use Rattle.tb_expand.specs.Scopes.{State}
use Rattle.tb_expand.specs.Limits.{Limited, Within, Past, counted}
use Rattle.tb_expand.specs.View.{nodes, view, view_variable}
use Rattle.tb_expand.specs.calls.Splitting.{assigned_of, assigned_in, assigned_all, is_one, is_kept, with_binding, both, Halves, halves, split_from, assignments, inserted_by, one_if_some}
use Rattle.tb_expand.specs.declared.context.Context.{Context}
use Rattle.tb_expand.specs.declared.refusal.ExpandRefusal.{ExpandRefusal}
use Rattle.tb_expand.specs.Means.{finished, not_deep}
use Rattle.tb_expand.specs.View.{Fails}
use Rattle.tb_expand.specs.calls.Expanded.{Finishes}
use Rattle.tb_expand.proofs.Scanning.{fails_as}
use Rattle.tb_expand.proofs.Forms.{joined_one, joined_none, nodes_pushed}

-- the variables that nodes assign, as a list
is_one_joined : (ys zs : List Var) (x : Var) → is_one (ys ++ zs) x ≡ (is_one ys x || is_one zs x)
is_one_joined ys zs x = list_any-append (λ y. same_var y x) ys zs

either : (a b c d : Bool) → a ≡ c → b ≡ d → (a || b) ≡ (c || d)
either a b c d p q = ap (λ v. v || b) p ∙ ap (λ v. c || v) q

or_assoc : (a b c : Bool) → ((a || b) || c) ≡ (a || (b || c))
or_assoc true b c = refl
or_assoc false b c = refl

mutual
  pub assigned_found : (x : Var) (e : Node) → is_one (assigned_of e) x ≡ assigns x e
  assigned_found x (At p c) = assigned_found_in x c

  assigned_found_in : (x : Var) (c : Core) → is_one (assigned_in c) x ≡ assigns_in x c
  assigned_found_in x (Constant s) = refl
  assigned_found_in x Unspecified = refl
  assigned_found_in x Undefined = refl
  assigned_found_in x (Local y) = refl
  assigned_found_in x (Global g) = refl
  assigned_found_in x (Lambda ys r b) = assigned_found x b
  assigned_found_in x (If a b c) =
      is_one_joined (assigned_of a ++ assigned_of b) (assigned_of c) x
      ∙ either _ _ _ _ (is_one_joined (assigned_of a) (assigned_of b) x ∙ either _ _ _ _ (assigned_found x a) (assigned_found x b)) (assigned_found x c)
      ∙ or_assoc (assigns x a) (assigns x b) (assigns x c)
  assigned_found_in x (SetLocal y e) = ap (λ v. same_var y x || v) (assigned_found x e)
  assigned_found_in x (SetGlobal q g e) = assigned_found x e
  assigned_found_in x (DefGlobal g e) = assigned_found x e
  assigned_found_in x (Let ys es e) = is_one_joined (assigned_all es) (assigned_of e) x ∙ either _ _ _ _ (assigned_found_all x es) (assigned_found x e)
  assigned_found_in x (Letrec ys es e) = is_one_joined (assigned_all es) (assigned_of e) x ∙ either _ _ _ _ (assigned_found_all x es) (assigned_found x e)
  assigned_found_in x (Seq es) = assigned_found_all x es
  assigned_found_in x (Call f es) = is_one_joined (assigned_of f) (assigned_all es) x ∙ either _ _ _ _ (assigned_found x f) (assigned_found_all x es)
  assigned_found_in x (PrimUse p es) = assigned_found_all x es
  assigned_found_in x (Apply f l) = is_one_joined (assigned_of f) (assigned_of l) x ∙ either _ _ _ _ (assigned_found x f) (assigned_found x l)

  pub assigned_found_all : (x : Var) (es : Nodes) → is_one (assigned_all es) x ≡ assigns_any x es
  assigned_found_all x nil = refl
  assigned_found_all x (cons e es) = is_one_joined (assigned_of e) (assigned_all es) x ∙ either _ _ _ _ (assigned_found x e) (assigned_found_all x es)

assigned_joined : (vs es : Nodes) → assigned_all (joined vs es) ≡ assigned_all vs ++ assigned_all es
assigned_joined nil es = refl
assigned_joined (cons v vs) es = ap (λ xs. assigned_of v ++ xs) (assigned_joined vs es) ∙ sym (append_assoc (assigned_of v) (assigned_all vs) (assigned_all es))

-- what was split so far, and what is left
pub same_bindings : (xs ys : List Var) (es fs : Nodes) → xs ≡ ys → es ≡ fs → ◌≡◌ {A = Bindings} (record { variables = xs; values = es }) (record { variables = ys; values = fs })
same_bindings xs ys es fs p q = ap (λ (xs : List Var). let b : Bindings = record { variables = xs; values = es } in b) p ∙ ap (λ (es : Nodes). let b : Bindings = record { variables = ys; values = es } in b) q

append_none : {A : Type 0} (xs : List A) → xs ++ [] ≡ xs
append_none [] = refl
append_none (x ∷ xs) = ap (λ ys. x ∷ ys) (append_none xs)

both_none : (b : Bindings) → both b no_bindings ≡ b
both_none b = same_bindings _ b.variables _ b.values (append_none b.variables) (joined_none b.values)

one_both : (b d : Bindings) (x : Var) (e : Node) → both (with_binding b x e) d ≡ both b (record { variables = x ∷ d.variables; values = cons e d.values })
one_both b d x e = same_bindings _ _ _ _ (append_assoc b.variables (x ∷ []) d.variables) (joined_one b.values e d.values)

same_halves : (a b c d : Bindings) → a ≡ b → c ≡ d → halves a c ≡ halves b d
same_halves a b c d p q = ap (λ a. halves a c) p ∙ ap (λ c. halves b c) q

split_one : (ys : List Var) (t o tt' oo : Bindings) (x : Var) (xs : List Var) (e : Node) (es : Nodes) (k : Bool) →
    split_from ys (with_binding t x e) o xs es ≡ halves (both (with_binding t x e) tt') (both o oo) →
    split_from ys t (with_binding o x e) xs es ≡ halves (both t tt') (both (with_binding o x e) oo) →
    cond k (split_from ys (with_binding t x e) o xs es) (split_from ys t (with_binding o x e) xs es) ≡ halves (both t (binding_if k x e tt')) (both o (binding_if (not k) x e oo))
split_one ys t o a b x xs e es true p q = p ∙ same_halves _ _ _ _ (one_both t a x e) refl
split_one ys t o a b x xs e es false p q = q ∙ same_halves _ _ _ _ refl (one_both o b x e)

split_chosen : (ys : List Var) (parts : Nodes) → ((x : Var) → is_one ys x ≡ assigns_any x parts) → (t o : Bindings) (xs : List Var) (es : Nodes) →
    split_from ys t o xs es ≡ halves (both t (chosen true parts xs es)) (both o (chosen false parts xs es))
split_chosen ys parts h t o [] es = same_halves _ _ _ _ (sym (both_none t)) (sym (both_none o))
split_chosen ys parts h t o (x ∷ xs) nil = same_halves _ _ _ _ (sym (both_none t)) (sym (both_none o))
split_chosen ys parts h t o (x ∷ xs) (cons e es) =
    let k : is_kept ys x e ≡ is_steady parts x e = ap (λ b. is_lambda e && not b) (h x) in
    ap (λ b. cond b (split_from ys (with_binding t x e) o xs es) (split_from ys t (with_binding o x e) xs es)) k
    ∙ split_one ys t o (chosen true parts xs es) (chosen false parts xs es) x xs e es (is_steady parts x e) (split_chosen ys parts h (with_binding t x e) o xs es) (split_chosen ys parts h t (with_binding o x e) xs es)

none_both : (b : Bindings) → both no_bindings b ≡ b
none_both b = refl

pub split_made : (ws : List VariableCode) (vs es : Nodes) (xs : List Var) (n m t o : Bindings) → map view_variable ws ≡ assigned_all vs ++ assigned_all es → n ≡ no_bindings → m ≡ no_bindings →
    split_from (map view_variable ws) n m xs vs ≡ halves t o → (t ≡ (split xs vs es).together) × (o ≡ (split xs vs es).others)
split_made ws vs es xs n m t o a p q e =
    let h : (x : Var) → is_one (map view_variable ws) x ≡ assigns_any x (joined vs es) = λ x. ap (λ ys. is_one ys x) (a ∙ sym (assigned_joined vs es)) ∙ assigned_found_all x (joined vs es) in
    let s : split_from (map view_variable ws) n m xs vs ≡ halves (chosen true (joined vs es) xs vs) (chosen false (joined vs es) xs vs) =
    ap (λ n. split_from (map view_variable ws) n m xs vs) p ∙ ap (λ m. split_from (map view_variable ws) no_bindings m xs vs) q ∙ split_chosen (map view_variable ws) (joined vs es) h no_bindings no_bindings xs vs in
    (ap (λ (h : Halves). h.together) (sym e ∙ s), ap (λ (h : Halves). h.others) (sym e ∙ s))

-- the nodes round a body
pub assigned_first : (p : Place) (xs : List Var) (vs es : Nodes) → assigned_before p xs vs es ≡ joined (assignments p xs vs) es
assigned_first p [] vs es = refl
assigned_first p (x ∷ xs) nil es = refl
assigned_first p (x ∷ xs) (cons v vs) es = ap (λ fs. cons (At p (SetLocal x v)) fs) (assigned_first p xs vs es)

pub nodes_joined : (es fs : List NodeCode) → nodes (map view (es ++ fs)) ≡ joined (nodes (map view es)) (nodes (map view fs))
nodes_joined [] fs = refl
nodes_joined (e ∷ es) fs = ap (λ xs. cons (view e) xs) (nodes_joined es fs)

pub undefined_mapped : (p : Place) (xs : List VariableCode) → undefined p (map view_variable xs) ≡ nodes (map (λ (x : VariableCode). At p Undefined) xs)
undefined_mapped p [] = refl
undefined_mapped p (x ∷ xs) = ap (λ es. cons (At p Undefined) es) (undefined_mapped p xs)

pub in_sequence : (p : Place) (es : List NodeCode) → length es ≢ 1 → in_order p (nodes (map view es)) ≡ At p (Seq (nodes (map view es)))
in_sequence p [] n = refl
in_sequence p (e ∷ []) n = absurd (n refl)
in_sequence p (e ∷ f ∷ es) n = refl

pub letrec_made : (p : Place) (xs : List VariableCode) (vs : Nodes) (e : Node) → false ≡ (length xs == 0) → letrec_round p (map view_variable xs) vs e ≡ At p (Letrec (map view_variable xs) vs e)
letrec_made p [] vs e h = cc
letrec_made p (x ∷ xs) vs e h = refl

pub letrec_left : (p : Place) (xs : List VariableCode) (vs : Nodes) (e : Node) → true ≡ (length xs == 0) → e ≡ letrec_round p (map view_variable xs) vs e
letrec_left p [] vs e h = refl
letrec_left p (x ∷ xs) vs e h = let k = eqb-true (length (x ∷ xs)) 0 (sym h) in absurd (omega arith)

pub let_made : (p : Place) (xs : List VariableCode) (e : Node) → false ≡ (length xs == 0) → let_round p (map view_variable xs) e ≡ At p (Let (map view_variable xs) (undefined p (map view_variable xs)) e)
let_made p [] e h = cc
let_made p (x ∷ xs) e h = refl

pub let_left : (p : Place) (xs : List VariableCode) (e : Node) → true ≡ (length xs == 0) → e ≡ let_round p (map view_variable xs) e
let_left p [] e h = refl
let_left p (x ∷ xs) e h = let k = eqb-true (length (x ∷ xs)) 0 (sym h) in absurd (omega arith)

-- too many nodes
at_least : (o l t b : ℕ) → (o ≤ inserted_by o l t b) × (l ≤ inserted_by o l t b)
at_least o l t b = (omega arith, omega arith)

counted_past : (p : Place) (n v : ℕ) (st : State) → 1000000 < n → counted p n v st ≡ Past (Budget p)
unfolding counted
counted_past p n v st h = ap (λ k. cond (k && nat_le (st.variables + v) (2 ^ 24)) (Within (record st { nodes = st.nodes + n; variables = st.variables + v })) (Past (Budget p))) (lt-leb (st.nodes + n) 1000000 (omega arith))

pub others_past : (p : Place) (o l t b : ℕ) (st : State) → 1000000 < o → counted p (inserted_by o l t b) 0 st ≡ Past (Budget p)
others_past p o l t b st h = let k = (at_least o l t b).0 in counted_past p (inserted_by o l t b) 0 st (omega arith)

pub lambdas_past : (p : Place) (o l t b : ℕ) (st : State) → 1000000 < l → counted p (inserted_by o l t b) 0 st ≡ Past (Budget p)
lambdas_past p o l t b st h = let k = (at_least o l t b).1 in counted_past p (inserted_by o l t b) 0 st (omega arith)

-- assignments one after another
pub assignment_joined : (p : Place) (out : List NodeCode) (a : NodeCode) (x : VariableCode) (v : NodeCode) (xs : List VariableCode) (vs : List NodeCode) → view a ≡ At p (SetLocal (view_variable x) (view v)) →
    joined (nodes (map view (out ++ a ∷ []))) (assignments p (map view_variable xs) (nodes (map view vs)))
    ≡ joined (nodes (map view out)) (assignments p (map view_variable (x ∷ xs)) (nodes (map view (v ∷ vs))))
assignment_joined p out a x v xs vs e =
    ap (λ es. joined es (assignments p (map view_variable xs) (nodes (map view vs)))) (nodes_pushed out a)
    ∙ joined_one (nodes (map view out)) (view a) (assignments p (map view_variable xs) (nodes (map view vs)))
    ∙ ap (λ e. joined (nodes (map view out)) (cons e (assignments p (map view_variable xs) (nodes (map view vs))))) e

pub no_assignments : (p : Place) (xs : List Var) (vs : Nodes) → vs ≡ nil → assignments p xs vs ≡ nil
no_assignments p [] vs e = refl
no_assignments p (x ∷ xs) vs e = ap (assignments p (x ∷ xs)) e

-- the node of a split, round by round
pub node_made : (p : Place) (xs : List Var) (t o : Bindings) (parts es : Nodes) (e n m : Node) → xs ≡ o.variables → parts ≡ joined (assignments p o.variables o.values) es → m ≡ in_order p parts →
    n ≡ letrec_round p t.variables t.values m → e ≡ let_round p xs n → e ≡ node_of p (record { together = t; others = o; body = es })
node_made p xs t o parts es e n m a b q r s =
    s ∙ ap (λ xs. let_round p xs n) a
    ∙ ap (let_round p o.variables) (r ∙ ap (letrec_round p t.variables t.values) (q ∙ ap (in_order p) (b ∙ sym (assigned_first p o.variables o.values es))))

-- a split that is finished
pub same_split : (s : Split) (t o : Bindings) (es fs : Nodes) → t ≡ s.together → o ≡ s.others → es ≡ fs → s.body ≡ fs → ◌≡◌ {A = Split} (record { together = t; others = o; body = es }) s
same_split s t o es fs p q r b =
    ap (λ (t : Bindings). let s : Split = record { together = t; others = o; body = es } in s) p
    ∙ ap (λ (o : Bindings). let r : Split = record { together = s.together; others = o; body = es } in r) q
    ∙ ap (λ (es : Nodes). let r : Split = record { together = s.together; others = s.others; body = es } in r) (r ∙ sym b)

one_some : (xs : List Var) → one_unless xs ≡ one_if_some (length xs)
one_some [] = refl
one_some (x ∷ xs) = refl

inserted_counted : (s : Split) → inserted s ≡ inserted_by (length s.others.variables) (lambdas_among s.others.values) (length s.together.variables) (how_many s.body)
inserted_counted s =
    let a = one_some s.others.variables in
    let b = one_some s.together.variables in
    omega arith

inserted_as : (s : Split) (o l t b : ℕ) → o ≡ length s.others.variables → l ≡ lambdas_among s.others.values → t ≡ length s.together.variables → b ≡ how_many s.body → inserted s ≡ inserted_by o l t b
inserted_as s o l t b p q r u =
    inserted_counted s ∙ sym (ap (λ o. inserted_by o l t b) p ∙ ap (λ l. inserted_by (length s.others.variables) l t b) q
    ∙ ap (λ t. inserted_by (length s.others.variables) (lambdas_among s.others.values) t b) r ∙ ap (inserted_by (length s.others.variables) (lambdas_among s.others.values) (length s.together.variables)) u)

-- what is counted of a split
pub record Counts (s : Split) (o l t b : ℕ) : Type 0 where
  pub others : o ≡ length s.others.variables
  pub lambdas : l ≡ lambdas_among s.others.values
  pub together : t ≡ length s.together.variables
  pub body : b ≡ how_many s.body

finished_shallow : (p : Place) (s r : Split) (c : Context) (st : State) (e : Node) (d : Option Place) (o l t b : ℕ) (x : Limited) → r ≡ s → e ≡ node_of p r → d ≡ first_deep c.levels e → d ≡ None → Counts r o l t b →
    counted p (inserted_by o l t b) 0 st ≡ x → finished p s c st ≡ x
finished_shallow p s r c st e d o l t b x q n k z m a =
    ap (λ s. finished p s c st) (sym q)
    ∙ ap (λ d. not_deep d (counted p (inserted r) 0 st)) (ap (first_deep c.levels) (sym n) ∙ sym k ∙ z)
    ∙ ap (λ n. counted p n 0 st) (inserted_as r o l t b m.others m.lambdas m.together m.body) ∙ a

pub split_finishes : (p : Place) (s r : Split) (c : Context) (st st' : State) (e : Node) (d : Option Place) (o l t b : ℕ) → r ≡ s → e ≡ node_of p r → d ≡ first_deep c.levels e → d ≡ None → Counts r o l t b →
    counted p (inserted_by o l t b) 0 st ≡ Within st' → Finishes p s c st e st'
split_finishes p s r c st st' e d o l t b q n k z m a =
    record { limited = finished_shallow p s r c st e d o l t b (Within st') q n k z m a; node = n ∙ ap (node_of p) q }

pub split_past : (p : Place) (s r : Split) (c : Context) (st : State) (e : Node) (d : Option Place) (o l t b : ℕ) (x : ExpandRefusal) → r ≡ s → e ≡ node_of p r → d ≡ first_deep c.levels e → d ≡ None → Counts r o l t b →
    Fails (λ q. counted p (inserted_by o l t b) 0 st ≡ Past q) x → Fails (λ q. finished p s c st ≡ Past q) x
split_past p s r c st e d o l t b x q n k z m f =
    fails_as (λ q. counted p (inserted_by o l t b) 0 st ≡ Past q) (λ q. finished p s c st ≡ Past q) (λ y a. finished_shallow p s r c st e d o l t b (Past y) q n k z m a) x f

pub split_too_deep : (p q : Place) (s r : Split) (c : Context) (st : State) (e : Node) (d : Option Place) → r ≡ s → e ≡ node_of p r → d ≡ first_deep c.levels e → d ≡ Some q → finished p s c st ≡ Past (TooDeep q)
split_too_deep p q s r c st e d y n k z =
    ap (λ s. finished p s c st) (sym y) ∙ ap (λ d. not_deep d (counted p (inserted r) 0 st)) (ap (first_deep c.levels) (sym n) ∙ sym k ∙ z)

pub how_many_nodes : (es : List NodeCode) → how_many (nodes (map view es)) ≡ length es
how_many_nodes [] = refl
how_many_nodes (e ∷ es) = let h = how_many_nodes es in omega arith

pub undefined_more : (p : Place) (xs : List VariableCode) (i : ℕ) (es : List NodeCode) (e : NodeCode) → i < length xs → nodes (map view es) ≡ undefined p (map view_variable (take i xs)) → view e ≡ At p Undefined →
    nodes (map view (es ++ e ∷ [])) ≡ undefined p (map view_variable (take (i + 1) xs))
undefined_more p (x ∷ xs) zero es e lt h k = nodes_pushed es e ∙ ap (λ ns. joined ns (cons (view e) nil)) h ∙ ap (λ n. cons n nil) k
undefined_more p [] i es e lt h k = absurd (omega arith)
undefined_more p (x ∷ xs) (suc i) [] e lt h k = cc
undefined_more p (x ∷ xs) (suc i) (f ∷ es) e lt h k =
    let t : nodes (map view es) ≡ undefined p (map view_variable (take i xs)) = cc in
    let g : view f ≡ At p Undefined = cc in
    ap (λ n. cons n (nodes (map view (es ++ e ∷ [])))) g ∙ ap (λ ns. cons (At p Undefined) ns) (undefined_more p xs i es e (omega arith) t k)
    ∙ ap (λ n. undefined p (map view_variable (take n (x ∷ xs)))) (sym (add-one (i + 1)) ∙ ap (λ n. n + 1) (add-one i))
