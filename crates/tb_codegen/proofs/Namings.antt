-- How often the operations of a program name a variable: a variable that a block names is named by one of its
-- operations, or by one of a lambda inside.
use Rattle.std.proofs.Common.{◌≡◌, true≢false, ℕ, zero, suc, ◌<◌, ◌≤◌, ◌+◌, ◌==◌, Bool, true, false, cond, filter, List, [], ◌∷◌, ◌++◌, length, Option, Some, None, refl, sym, ap, ◌∙◌, subst, inl, inr, ⊎_elim, append_assoc, append-nil, zero-add, eq-eqb, eqb-true, arith}
use Rattle.tb_semantics.specs.Graph.{IsIn}
use Rattle.tb_semantics.proofs.ListLemmas.{in-left, in-right, in-cases}
use Rattle.tb_core.specs.FreeVariables.{is_in, of_lambdas}
use Rattle.tb_core.specs.Rules.{Every}
use Rattle.tb_core.proofs.Members.{in-tested, without-sub}
use Rattle.tb_ir.specs.AnfTree.{Operand, Block, Bind, CloseAll, Tail, Op, Atom, Global, SetGlobal, DefGlobal, PrimUse, NewCell, CellGet, CellSet, Close, Call, Direct, Apply, Branch, ProcTree, AnfTree}
use Rattle.tb_ir.specs.AnfMachine.{captured_by, free_block, free_of_atom, free_op, is_number, proc_of}
use Rattle.tb_ir.specs.AnfRules.{InnerGreater, KeepsRules, Numbered, ProcKeeps, blocks, blocks_in, blocks_of, closed_by, forms_of, is_form, lambdas_of, named, names_outside, of_each, operation, standing_at, times_named}
use Rattle.tb_ir.specs.Rules.{times}
use Rattle.tb_codegen.specs.Generate.{captured_in}

none-some : {X : Type 0} {x : X} → None ≡ Some x → ⊥
none-some e = cc

some-same : {X : Type 0} {x y : X} → Some x ≡ Some y → x ≡ y
some-same e = cc

-- every element of a list keeps what all keep
pub every-at : {X : Type 0} (P : X → Type 0) (xs : List X) (x : X) → Every P xs → IsIn x xs → P x
every-at P [] x h i = absurd i
every-at P (y ∷ ys) x h (inl e) = subst P e h.0
every-at P (y ∷ ys) x h (inr i) = every-at P ys x h.1 i

-- what each of some elements has
pub in-each : {X Y : Type 0} (has : X → List Y) (xs : List X) (x : X) (y : Y) → IsIn x xs → IsIn y (has x) → IsIn y (of_each has xs)
in-each has [] x y i j = absurd i
in-each has (z ∷ zs) x y (inl e) j = in-left (has z) (of_each has zs) y (subst (λ w. IsIn y (has w)) (sym e) j)
in-each has (z ∷ zs) x y (inr i) j = in-right (has z) (of_each has zs) y (in-each has zs x y i j)

pub each-append : {X Y : Type 0} (has : X → List Y) (xs ys : List X) → of_each has (xs ++ ys) ≡ of_each has xs ++ of_each has ys
each-append has [] ys = refl
each-append has (x ∷ xs) ys = ap (λ zs. has x ++ zs) (each-append has xs ys) ∙ sym (append_assoc (has x) (of_each has xs) (of_each has ys))

-- how often a number stands in lists
pub times-append : (x : ℕ) (xs ys : List ℕ) → times x (xs ++ ys) ≡ times x xs + times x ys
times-append x [] ys = omega arith
times-append x (y ∷ xs) ys = let h = times-append x xs ys in omega (arith, h)

hit : (b : Bool) (n : ℕ) → b ≡ true → 1 ≤ cond b 1 0 + n
hit true n e = omega arith
hit false n e = absurd (true≢false (sym e))

pub times-in : (x : ℕ) (xs : List ℕ) → IsIn x xs → 1 ≤ times x xs
times-in x [] i = absurd i
times-in x (y ∷ xs) (inl e) = hit (y == x) (times x xs) (eq-eqb y x e)
times-in x (y ∷ xs) (inr i) = let h = times-in x xs i in omega (arith, h)

-- what the operations of a block name, those of its arms and of the blocks behind it too
abbrev pub named_within : Block → List ℕ
named_within b = of_each named (of_each operation (blocks b))

abbrev pub named_in_arms : Op → List ℕ
named_in_arms op = of_each named (of_each operation (blocks_in op))

within-bind : (x : ℕ) (op : Op) (k : Block) → named_within (Bind x op k) ≡ named op ++ (named_in_arms op ++ named_within k)
within-bind x op k =
    ap (λ ops. named op ++ of_each named ops) (each-append operation (blocks_in op) (blocks k))
    ∙ ap (λ ns. named op ++ ns) (each-append named (of_each operation (blocks_in op)) (of_each operation (blocks k)))

arms-branch : (a : Operand) (b d : Block) → named_in_arms (Branch a b d) ≡ named_within b ++ named_within d
arms-branch a b d =
    ap (of_each named) (each-append operation (blocks b) (blocks d))
    ∙ each-append named (of_each operation (blocks b)) (of_each operation (blocks d))

-- how often an operation in a block names a variable
pub times-bind : (z x : ℕ) (op : Op) (k : Block) →
    times z (named_within (Bind x op k)) ≡ times z (named op) + (times z (named_in_arms op) + times z (named_within k))
times-bind z x op k =
    ap (times z) (within-bind x op k) ∙ times-append z (named op) _
    ∙ ap (λ n. times z (named op) + n) (times-append z (named_in_arms op) (named_within k))

pub times-tail : (z : ℕ) (op : Op) → times z (named_within (Tail op)) ≡ times z (named op) + times z (named_in_arms op)
times-tail z op = times-append z (named op) (named_in_arms op)

pub times-arms : (z : ℕ) (a : Operand) (b d : Block) →
    times z (named_in_arms (Branch a b d)) ≡ times z (named_within b) + times z (named_within d)
times-arms z a b d = ap (times z) (arms-branch a b d) ∙ times-append z (named_within b) (named_within d)

-- the lambdas that are closed over in a block
abbrev pub closed_within : Block → List ℕ
closed_within b = of_each standing_at (blocks b)

module _ (p : AnfTree) where
  -- a variable that a block names is named by an operation, or captured by a lambda that is closed over
  pub data Uses (b : Block) (y : ℕ) : Type 0 where
    by_operation : 1 ≤ times y (named_within b) → Uses b y
    by_lambda : (l : ℕ) → IsIn l (closed_within b) → IsIn y (captured_in p l) → Uses b y

  in-lambdas : (ls : List ℕ) (y : ℕ) → IsIn y (of_lambdas (captured_in p) ls) → (l : ℕ) × IsIn l ls × IsIn y (captured_in p l)
  in-lambdas [] y i = absurd i
  in-lambdas (l ∷ ls) y i =
      ⊎_elim (λ j. (l, inl refl, j)) (λ j. let r = in-lambdas ls y j in (r.0, inr r.1, r.2)) (in-cases (captured_in p l) _ y i)

  named-behind : (x : ℕ) (op : Op) (k : Block) (y : ℕ) → Uses k y → Uses (Bind x op k) y
  named-behind x op k y (by_operation h) = by_operation (let e = times-bind y x op k in omega (arith, e, h))
  named-behind x op k y (by_lambda l i j) =
      by_lambda l (subst (IsIn l) (sym (ap (λ ms. standing_at (Bind x op k) ++ ms) (each-append standing_at (blocks_in op) (blocks k))))
      (in-right (standing_at (Bind x op k)) _ l (in-right (of_each standing_at (blocks_in op)) _ l i))) j

  behind-group : (xs ls : List ℕ) (k : Block) (y : ℕ) → Uses k y → Uses (CloseAll xs ls k) y
  behind-group xs ls k y (by_operation h) = by_operation h
  behind-group xs ls k y (by_lambda l i j) = by_lambda l (in-right ls _ l i) j

  of-arm : (b e : Block) (op : Op) (y : ℕ) → Uses e y → (1 ≤ times y (named_within e) → 1 ≤ times y (named_in_arms op)) →
      ((l : ℕ) → IsIn l (closed_within e) → IsIn l (of_each standing_at (blocks_in op))) →
      (1 ≤ times y (named_in_arms op) → 1 ≤ times y (named_within b)) →
      ((l : ℕ) → IsIn l (of_each standing_at (blocks_in op)) → IsIn l (closed_within b)) → Uses b y
  of-arm b e op y (by_operation h) more stands arms d = by_operation (arms (more h))
  of-arm b e op y (by_lambda l i j) more stands arms d = by_lambda l (d l (stands l i)) j

  mutual
    pub block-uses : (b : Block) (y : ℕ) → IsIn y (free_block (captured_in p) b) → Uses b y
    block-uses (Bind x op k) y i =
        ⊎_elim
        (λ j. op-uses (Bind x op k) op y j
        (λ h. let e = times-bind y x op k in omega (arith, e, h))
        (λ h. let e = times-bind y x op k in omega (arith, e, h))
        (λ l h. in-left (of_each closed_by (op ∷ [])) _ l h)
        (λ l h. in-right (standing_at (Bind x op k)) _ l (subst (IsIn l) (sym (each-append standing_at (blocks_in op) (blocks k)))
        (in-left (of_each standing_at (blocks_in op)) _ l h))))
        (λ j. named-behind x op k y (block-uses k y (without-sub (x ∷ []) _ y j)))
        (in-cases (free_op (captured_in p) op) _ y i)
    block-uses (CloseAll xs ls k) y i =
        ⊎_elim
        (λ j. let r = in-lambdas ls y j in by_lambda r.0 (in-left ls _ r.0 r.1) r.2)
        (λ j. behind-group xs ls k y (block-uses k y j))
        (in-cases (of_lambdas (captured_in p) ls) _ y (without-sub xs _ y i))
    block-uses (Tail op) y i =
        op-uses (Tail op) op y i
        (λ h. let e = times-tail y op in omega (arith, e, h))
        (λ h. let e = times-tail y op in omega (arith, e, h))
        (λ l h. in-left (of_each closed_by (op ∷ [])) _ l h)
        (λ l h. in-right (standing_at (Tail op)) _ l h)

    -- what an operation of a block names
    op-uses : (b : Block) (op : Op) (y : ℕ) → IsIn y (free_op (captured_in p) op) → (1 ≤ times y (named op) → 1 ≤ times y (named_within b)) →
        (1 ≤ times y (named_in_arms op) → 1 ≤ times y (named_within b)) →
        ((l : ℕ) → IsIn l (of_each closed_by (op ∷ [])) → IsIn l (closed_within b)) →
        ((l : ℕ) → IsIn l (of_each standing_at (blocks_in op)) → IsIn l (closed_within b)) → Uses b y
    op-uses b (Atom a) y i own arms c d = by_operation (own (times-in y _ (subst (IsIn y) (sym (append-nil (free_of_atom a))) i)))
    op-uses b (Global g q) y i own arms c d = absurd i
    op-uses b (SetGlobal g a q) y i own arms c d = by_operation (own (times-in y _ (subst (IsIn y) (sym (append-nil (free_of_atom a))) i)))
    op-uses b (DefGlobal g a) y i own arms c d = by_operation (own (times-in y _ (subst (IsIn y) (sym (append-nil (free_of_atom a))) i)))
    op-uses b (PrimUse r ds q) y i own arms c d = by_operation (own (times-in y _ i))
    op-uses b (NewCell a) y i own arms c d = by_operation (own (times-in y _ (subst (IsIn y) (sym (append-nil (free_of_atom a))) i)))
    op-uses b (CellGet a q) y i own arms c d = by_operation (own (times-in y _ (subst (IsIn y) (sym (append-nil (free_of_atom a))) i)))
    op-uses b (CellSet a e) y i own arms c d =
        by_operation (own (times-in y _ (subst (λ xs. IsIn y (free_of_atom a ++ xs)) (sym (append-nil (free_of_atom e))) i)))
    op-uses b (Close l) y i own arms c d = by_lambda l (c l (inl refl)) i
    op-uses b (Call f ds q) y i own arms c d = by_operation (own (times-in y _ i))
    op-uses b (Direct l ds) y i own arms c d = by_operation (own (times-in y _ i))
    op-uses b (Apply f a q) y i own arms c d =
        by_operation (own (times-in y _ (subst (λ xs. IsIn y (free_of_atom f ++ xs)) (sym (append-nil (free_of_atom a))) i)))
    op-uses b (Branch a e f) y i own arms c d =
        ⊎_elim
        (λ j. by_operation (own (times-in y _ (subst (IsIn y) (sym (append-nil (free_of_atom a))) j))))
        (λ j. ⊎_elim
        (λ k. of-arm b e (Branch a e f) y (block-uses e y k) (λ h. let t = times-arms y a e f in omega (arith, t, h))
        (λ l h. subst (IsIn l) (sym (each-append standing_at (blocks e) (blocks f))) (in-left (closed_within e) _ l h)) arms d)
        (λ k. of-arm b f (Branch a e f) y (block-uses f y k) (λ h. let t = times-arms y a e f in omega (arith, t, h))
        (λ l h. subst (IsIn l) (sym (each-append standing_at (blocks e) (blocks f))) (in-right (closed_within e) _ l h)) arms d)
        (in-cases (free_block (captured_in p) e) _ y j))
        (in-cases (free_of_atom a) _ y i)

-- a proc that is kept as a form is one, and has no lambda
kept-form : (qs : List ProcTree) (r : ProcTree) → IsIn r (filter is_form qs) → is_form r ≡ true
kept-form [] r i = absurd i
kept-form (q ∷ qs) r i = by (is_form q) refl i (kept-form qs r)
  where
    by : (b : Bool) → is_form q ≡ b → IsIn r (cond b (q ∷ filter is_form qs) (filter is_form qs)) → (IsIn r (filter is_form qs) → is_form r ≡ true) → is_form r ≡ true
    by true e (inl f) so = ap is_form (sym f) ∙ e
    by true e (inr j) so = so j
    by false e j so = so j

lambda-no-form : (r : ProcTree) (m : ℕ) → r.lambda ≡ Some m → is_form r ≡ true → ⊥
lambda-no-form r m e h = true≢false (sym h ∙ ap (λ (o : Option ℕ). is_form (record r { lambda = o })) e)

-- the procs of a program
pub record IsProc (p : AnfTree) (q : ProcTree) : Type 0 where
  pub before : List ProcTree
  pub behind : List ProcTree
  pub stands : p.procs ≡ before ++ q ∷ behind

pub is-proc : (p : AnfTree) (qs : List ProcTree) (front : List ProcTree) (q : ProcTree) → p.procs ≡ front ++ qs → IsIn q qs → IsProc p q
is-proc p [] front q e i = absurd i
is-proc p (r ∷ qs) front q e (inl h) = record { before = front; behind = qs; stands = e ∙ ap (λ z. front ++ z ∷ qs) h }
is-proc p (r ∷ qs) front q e (inr i) = is-proc p qs (front ++ r ∷ []) q (e ∙ sym (append_assoc front (r ∷ []) qs)) i

pub in-proc : (p : AnfTree) (q : ProcTree) → IsProc p q → IsIn q p.procs
in-proc p q h = subst (IsIn q) (sym h.stands) (in-right h.before (q ∷ h.behind) q (inl refl))

-- the operations of some procs
abbrev named_of : List ProcTree → List ℕ
named_of qs = of_each named (of_each operation (blocks_of qs))

named-of : (qs : List ProcTree) (q : ProcTree) (rs : List ProcTree) (z : ℕ) →
    times z (named_of (qs ++ q ∷ rs)) ≡ times z (named_of qs) + (times z (named_within q.body) + times z (named_of rs))
named-of [] q rs z =
    ap (λ ops. times z (of_each named ops)) (each-append operation (blocks q.body) (blocks_of rs))
    ∙ ap (times z) (each-append named (of_each operation (blocks q.body)) (of_each operation (blocks_of rs)))
    ∙ times-append z (named_within q.body) (named_of rs) ∙ sym (zero-add _)
named-of (r ∷ qs) q rs z =
    let h = named-of qs q rs z in
    let a : times z (named_of (r ∷ (qs ++ q ∷ rs))) ≡ times z (named_within r.body) + times z (named_of (qs ++ q ∷ rs)) =
    ap (λ ops. times z (of_each named ops)) (each-append operation (blocks r.body) (blocks_of (qs ++ q ∷ rs)))
    ∙ ap (times z) (each-append named (of_each operation (blocks r.body)) _) ∙ times-append z (named_within r.body) _ in
    let b : times z (named_of (r ∷ qs)) ≡ times z (named_within r.body) + times z (named_of qs) =
    ap (λ ops. times z (of_each named ops)) (each-append operation (blocks r.body) (blocks_of qs))
    ∙ ap (times z) (each-append named (of_each operation (blocks r.body)) _) ∙ times-append z (named_within r.body) _ in
    omega (arith, h, a, b)

some-proc : (qs : List ProcTree) (r : ProcTree) (z : ℕ) → IsIn r qs → times z (named_within r.body) ≤ times z (named_of qs)
some-proc [] r z i = absurd i
some-proc (q ∷ qs) r z (inl e) =
    let h = named-of [] q qs z in let g : times z (named_within q.body) ≡ times z (named_within r.body) = ap (λ (s : ProcTree). times z (named_within s.body)) e in
    omega (arith, h, g)
some-proc (q ∷ qs) r z (inr i) = let h = named-of [] q qs z in let g = some-proc qs r z i in omega (arith, h, g)

module _ (p : AnfTree) where
  -- a proc names a variable as often as the program at most, and two procs together
  pub named-once : (q : ProcTree) (z : ℕ) → IsProc p q → times z (named_within q.body) ≤ times_named p z
  named-once q z h =
      let e : times_named p z ≡ times z (named_of (h.before ++ q ∷ h.behind)) = ap (λ qs. times z (named_of qs)) h.stands in
      let g = named-of h.before q h.behind z in omega (arith, e, g)

  pub named-twice : (q r : ProcTree) (z : ℕ) → IsProc p q → IsProc p r → (r.lambda ≡ q.lambda → ⊥) →
      times z (named_within q.body) + times z (named_within r.body) ≤ times_named p z
  named-twice q r z h k ne =
      let e : times_named p z ≡ times z (named_of (h.before ++ q ∷ h.behind)) = ap (λ qs. times z (named_of qs)) h.stands in
      let g = named-of h.before q h.behind z in
      ⊎_elim
      (λ i. let s = some-proc h.before r z i in omega (arith, e, g, s))
      (λ i. ⊎_elim
      (λ f. absurd (ne (ap (λ (s : ProcTree). s.lambda) (sym f))))
      (λ j. let s = some-proc h.behind r z j in omega (arith, e, g, s))
      i)
      (in-cases h.before (q ∷ h.behind) r (subst (IsIn r) h.stands (in-proc p r k)))

  -- the proc of a lambda
  pub proc-found : (qs : List ProcTree) (l : ℕ) (q : ProcTree) → proc_of qs l ≡ Some q → IsIn q qs × (q.lambda ≡ Some l)
  proc-found [] l q e = absurd (none-some e)
  proc-found (r ∷ qs) l q e = by (is_number r.lambda l) refl e (proc-found qs l q)
    where
      number-is : (o : Option ℕ) → is_number o l ≡ true → o ≡ Some l
      number-is None h = absurd (true≢false (sym h))
      number-is (Some m) h = ap Some (eqb-true m l h)

      by : (b : Bool) → is_number r.lambda l ≡ b → cond b (Some r) (proc_of qs l) ≡ Some q →
          (proc_of qs l ≡ Some q → IsIn q qs × (q.lambda ≡ Some l)) → IsIn q (r ∷ qs) × (q.lambda ≡ Some l)
      by true h f so = (inl (some-same f), ap (λ (s : ProcTree). s.lambda) (sym (some-same f)) ∙ number-is r.lambda h)
      by false h f so = let g = so f in (inr g.0, g.1)

  -- a proc of a lambda has a number below that of the lambdas
  numbered-below : (qs : List ProcTree) (first m : ℕ) (q : ProcTree) → Numbered first qs → IsIn q qs → q.lambda ≡ Some m → m < first + length qs
  numbered-below [] first m q h i e = absurd i
  numbered-below (r ∷ qs) first m q h (inl f) e =
      let g = some-same (sym h.0 ∙ ap (λ (s : ProcTree). s.lambda) f ∙ e) in omega (arith, g)
  numbered-below (r ∷ qs) first m q h (inr i) e = let g = numbered-below qs (suc first) m q h.1 i e in omega (arith, g)

  pub lambda-below : (rules : KeepsRules p) (q : ProcTree) (m : ℕ) → IsIn q p.procs → q.lambda ≡ Some m → m < length (lambdas_of p)
  lambda-below rules q m i e =
      ⊎_elim
      (λ j. absurd (form-none (forms_of p) q j e (form-is p.procs)))
      (λ j. let g = numbered-below (lambdas_of p) 0 m q rules.numbered j e in omega (arith, g))
      (in-cases (forms_of p) (lambdas_of p) q (subst (IsIn q) rules.forms_first i))
    where
      -- the procs of forms have no lambda
      form-is : (qs : List ProcTree) → (r : ProcTree) → IsIn r (filter is_form qs) → is_form r ≡ true
      form-is qs r k = kept-form qs r k

      form-none : (qs : List ProcTree) (r : ProcTree) → IsIn r qs → r.lambda ≡ Some m → ((s : ProcTree) → IsIn s qs → is_form s ≡ true) → ⊥
      form-none qs r k f all_forms = lambda-no-form r m f (all_forms r k)

  -- what is found of a captured variable
  abbrev pub NamedInside : ℕ → ℕ → Type 0
  NamedInside l z = (m : ℕ) × (l ≤ m) × ((q : ProcTree) × IsProc p q × (q.lambda ≡ Some m) × (1 ≤ times z (named_within q.body)))

  captured-step : (rules : KeepsRules p) (l z : ℕ) (o : Option ProcTree) → proc_of p.procs l ≡ o → IsIn z (captured_by o) →
      ((k : ℕ) → l < k → IsIn z (captured_in p k) → NamedInside k z) → NamedInside l z
  captured-step rules l z None e i deeper = absurd i
  captured-step rules l z (Some q) e i deeper =
      let f = proc-found p.procs l q e in
      let keeps = every-at (ProcKeeps p) p.procs q rules.procs f.0 in
      let used = without-sub q.params (free_block (captured_in p) q.body) z
      (in-tested (names_outside p q) z (every-at (λ x. is_in (names_outside p q) x ≡ true) q.captured z keeps.captures_named i)) in
      at_use q (is-proc p p.procs [] q refl f.0) f.1 (block-uses p q.body z used)
      (λ k j. every-at (λ m. l < m) _ k (inner-of (q.lambda) l f.1 _ keeps.inner_greater) j)
    where
      inner-of : (o2 : Option ℕ) (n : ℕ) → o2 ≡ Some n → (ls : List ℕ) → InnerGreater o2 ls → Every (λ m. n < m) ls
      inner-of None n g ls h = absurd (none-some g)
      inner-of (Some n2) n g ls h = subst (λ a. Every (λ m. a < m) ls) (some-same g) h

      at_use : (r : ProcTree) → IsProc p r → r.lambda ≡ Some l → Uses p r.body z → ((k : ℕ) → IsIn k (closed_within r.body) → l < k) → NamedInside l z
      at_use r h g (by_operation u) below = (l, omega arith, (r, h, g, u))
      at_use r h g (by_lambda k j u) below =
          let d = deeper k (below k j) u in let lt = below k j in let le = d.1 in (d.0, omega (arith, lt, le), d.2)

  pub captured-named : (rules : KeepsRules p) (n l z : ℕ) → length (lambdas_of p) ≤ l + n → IsIn z (captured_in p l) → NamedInside l z
  captured-named rules zero l z few i = absurd (at_proc (proc_of p.procs l) refl i)
    where
      at_proc : (o : Option ProcTree) → proc_of p.procs l ≡ o → IsIn z (captured_by o) → ⊥
      at_proc None e i2 = i2
      at_proc (Some q) e i2 = let f = proc-found p.procs l q e in let b = lambda-below rules q l f.0 f.1 in omega (arith, b, few)
  captured-named rules (suc n) l z few i =
      captured-step rules l z (proc_of p.procs l) refl i (λ k lt j. captured-named rules n k z (omega (arith, few, lt)) j)

  -- a variable that is named once by the program is named by no operation but one: not twice in a body, and not in a
  -- body and in a lambda that is closed over in it
  pub named-only : (rules : KeepsRules p) (q : ProcTree) (z : ℕ) → IsProc p q → times_named p z ≡ 1 → 1 ≤ times z (named_within q.body) →
      (l : ℕ) → IsIn l (closed_within q.body) → IsIn z (captured_in p l) → ⊥
  named-only rules q z h once here l i j =
      let keeps = every-at (ProcKeeps p) p.procs q rules.procs (in-proc p q h) in
      let d = captured-named rules (length (lambdas_of p)) l z (omega arith) j in
      let twice = named-twice q d.2.0 z h d.2.1 (λ e. other_number q.lambda d.2.0.lambda keeps.inner_greater d.0 d.2.2 d.1 e) in
      let other = d.2.3 in
      omega (arith, twice, here, other, once)
    where
      other_number : (o o2 : Option ℕ) → InnerGreater o (closed_within q.body) → (m : ℕ) → o2 ≡ Some m → l ≤ m → o2 ≡ o → ⊥
      other_number None o2 g m e le f = none-some (sym f ∙ e)
      other_number (Some n) o2 g m e le f =
          let lt = every-at (λ k. n < k) (closed_within q.body) l g i in
          let r = some-same (sym e ∙ f) in omega (arith, lt, r, le)
