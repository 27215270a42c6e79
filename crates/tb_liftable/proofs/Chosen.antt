-- What holds of the lambda expressions that are lifted.
use Rattle.std.proofs.Common.{◌≡◌, refl, sym, ap, ◌∙◌, subst, ℕ, zero, suc, ◌+◌, ◌<◌, ◌≤◌, ◌⊎◌, inl, inr, arith, Bool, true, false, cond, List, [], ◌∷◌, length, map, filter, slice_get, Option, Some, None}
use Rattle.std.proofs.lemmas.Bool.{leb-true}
use Rattle.tb_semantics.specs.Graph.{IsIn, Graph, Reaches, root, child, reaches, kept, below}
use Rattle.tb_semantics.proofs.Reachable.{reachable_kept}
use Rattle.tb_core.specs.FreeVariables.{of_lambdas}
use Rattle.tb_core.specs.Lifting.{Lifted}
use Rattle.tb_core.specs.Tree.{LambdaTree, ProgramTree}
use Rattle.tb_liftable.specs.declared.mentions.Mention.{Mention}
use Rattle.tb_liftable.specs.Mentions.{mentions_of}
use Rattle.tb_liftable.specs.Procedures.{Procedures, Within, procedures, candidates, known_from, is_known, is_known_by, name_in, formals_of}
use Rattle.tb_liftable.specs.Added.{Added, itself, through, Rising, member, plain, plain_by, called, called_by, calls_from, ascending, added_to}
use Rattle.tb_liftable.specs.Liftable.{fits, round, rounds, settled, lines, liftable}
use Rattle.tb_liftable.proofs.Orders.{ascending-rising, ascending-in, in-ascending}
use Rattle.tb_liftable.proofs.Reaching.{closed_calls, of_lambdas-in, in-of_lambdas, plain-free}
use Rattle.tb_liftable.proofs.Settling.{settles}

pub added-rising : (g : Procedures) (set : List ℕ) (l : ℕ) → Rising (added_to g set l)
unfolding added_to
added-rising g set l = ascending-rising (of_lambdas (λ m. plain (member g set) (g.free m)) (kept (reaches (calls_from g (member g set) l)) (below g.count)))

-- a variable that names no lambda expression
plain_by-known : (o : Option ℕ) (known : ℕ → Option ℕ) (x : ℕ) (rest : List ℕ) (y : ℕ) → known x ≡ o → (IsIn y rest → known y ≡ None) → IsIn y (plain_by o x rest) → known y ≡ None
plain_by-known None known x rest y e h (inl f) = ap known (sym f) ∙ e
plain_by-known None known x rest y e h (inr i) = h i
plain_by-known (Some l) known x rest y e h i = h i

plain-known : (known : ℕ → Option ℕ) (xs : List ℕ) (y : ℕ) → IsIn y (plain known xs) → known y ≡ None
plain-known known [] y i = absurd i
plain-known known (x ∷ xs) y i = plain_by-known (known x) known x (plain known xs) y refl (plain-known known xs y) i

plain_by-in : (o : Option ℕ) (known : ℕ → Option ℕ) (x : ℕ) (xs rest : List ℕ) (y : ℕ) → known x ≡ o → known y ≡ None → (IsIn y xs → IsIn y rest) → IsIn y (x ∷ xs) → IsIn y (plain_by o x rest)
plain_by-in None known x xs rest y e n h (inl f) = inl f
plain_by-in None known x xs rest y e n h (inr i) = inr (h i)
plain_by-in (Some l) known x xs rest y e n h (inl f) = let q : known y ≡ Some l = ap known (sym f) ∙ e in absurd (clash (known y) n q)
  where
    clash : (o : Option ℕ) → o ≡ None → o ≡ Some l → ⊥
    clash o p q = cc
plain_by-in (Some l) known x xs rest y e n h (inr i) = h i

in-plain : (known : ℕ → Option ℕ) (xs : List ℕ) (y : ℕ) → IsIn y xs → known y ≡ None → IsIn y (plain known xs)
in-plain known [] y i n = i
in-plain known (x ∷ xs) y i n = plain_by-in (known x) known x xs (plain known xs) y refl n (λ j. in-plain known xs y j n) i

-- a lambda expression that is named
abbrev Names : (ℕ → Option ℕ) → List ℕ → ℕ → Type 0
Names known xs m = (f : ℕ) × IsIn f xs × (known f ≡ Some m)

called_by-named : (o : Option ℕ) (known : ℕ → Option ℕ) (x : ℕ) (xs rest : List ℕ) (m : ℕ) → known x ≡ o → (IsIn m rest → Names known xs m) → IsIn m (called_by o rest) → Names known (x ∷ xs) m
called_by-named None known x xs rest m e h i = let r = h i in (r.0, inr r.1, r.2)
called_by-named (Some l) known x xs rest m e h (inl f) = (x, inl refl, e ∙ ap Some f)
called_by-named (Some l) known x xs rest m e h (inr i) = let r = h i in (r.0, inr r.1, r.2)

called-named : (known : ℕ → Option ℕ) (xs : List ℕ) (m : ℕ) → IsIn m (called known xs) → Names known xs m
called-named known [] m i = absurd i
called-named known (x ∷ xs) m i = called_by-named (known x) known x xs (called known xs) m refl (called-named known xs m) i

first_called : (o : Option ℕ) (rest : List ℕ) (m : ℕ) → o ≡ Some m → IsIn m (called_by o rest)
first_called None rest m e = absurd (clash None refl e)
  where
    clash : (o : Option ℕ) → o ≡ None → o ≡ Some m → ⊥
    clash o p q = cc
first_called (Some l) rest m e = inl (same e)
  where
    same : Some l ≡ Some m → l ≡ m
    same q = cc

later_called : (o : Option ℕ) (rest : List ℕ) (m : ℕ) → IsIn m rest → IsIn m (called_by o rest)
later_called None rest m i = i
later_called (Some l) rest m i = inr i

in-called : (known : ℕ → Option ℕ) (xs : List ℕ) (f m : ℕ) → IsIn f xs → known f ≡ Some m → IsIn m (called known xs)
in-called known [] f m i e = absurd i
in-called known (x ∷ xs) f m (inl q) e = first_called (known x) (called known xs) m (ap known q ∙ e)
in-called known (x ∷ xs) f m (inr i) e = later_called (known x) (called known xs) m (in-called known xs f m i e)

module _ (g : Procedures) (set : List ℕ) where
  -- what is added to those that one comes to is added to it
  added_back : (l m y : ℕ) → Reaches (calls_from g (member g set) l) m → Added g set m y → Added g set l y
  added_back l m y (root i) a = elim i [ inl e ↦ subst (λ v. Added g set v y) (sym e) a | inr j ↦ absurd j ]
  added_back l m y (child {k = k} r i) a =
      let n = called-named (member g set) (g.free k) m i in
      added_back l k y r (through n.0 m n.1 n.2 a)

  further : (l m n : ℕ) → IsIn m (called (member g set) (g.free l)) → Reaches (calls_from g (member g set) m) n → Reaches (calls_from g (member g set) l) n
  further l m n i (root j) = elim j [ inl e ↦ subst (λ v. Reaches (calls_from g (member g set) l) v) e (child (root (inl refl)) i) | inr k ↦ absurd k ]
  further l m n i (child {k = k} r j) = child (further l m k i r) j

  abbrev Found : ℕ → ℕ → Type 0
  Found l y = (n : ℕ) × Reaches (calls_from g (member g set) l) n × IsIn y (plain (member g set) (g.free n))

  added_found : (l y : ℕ) → Added g set l y → Found l y
  added_found l y (itself i e) = (l, root (inl refl), in-plain (member g set) (g.free l) y i e)
  added_found l y (through f m i e a) =
      let r = added_found m y a in
      (r.0, further l m r.0 (in-called (member g set) (g.free l) f m i e) r.1, r.2)

  pub added-sound : Within g → (l y : ℕ) → IsIn y (added_to g set l) → Added g set l y
  unfolding added_to
  added-sound w l y i =
      let known = member g set in
      let graph = calls_from g known l in
      let nodes = kept (reaches graph) (below graph.count) in
      let o = of_lambdas-in (λ m. plain known (g.free m)) nodes y (ascending-in (of_lambdas (λ m. plain known (g.free m)) nodes) y i) in
      added_back l o.0 y ((reachable_kept graph (closed_calls g known l w)).sound o.0 o.1).1
      (itself (plain-free known (g.free o.0) y o.2) (plain-known known (g.free o.0) y o.2))

  pub added-full : Within g → (l y : ℕ) → Added g set l y → IsIn y (added_to g set l)
  unfolding added_to
  added-full w l y a =
      let known = member g set in
      let graph = calls_from g known l in
      let nodes = kept (reaches graph) (below graph.count) in
      let f : ℕ → List ℕ = λ m. plain known (g.free m) in
      let r = added_found l y a in
      let here = (reachable_kept graph (closed_calls g known l w)).full r.0 (w.below r.0 y (plain-free known (g.free r.0) y r.2)) r.1 in
      in-ascending (of_lambdas f nodes) y (in-of_lambdas f nodes y r.0 here r.2)

-- elements of filtered and mapped lists
passed_by : (p : ℕ → Bool) (x l : ℕ) (rest : List ℕ) → (IsIn l rest → p l ≡ true) → (b : Bool) → p x ≡ b → IsIn l (cond b (x ∷ rest) rest) → p l ≡ true
passed_by p x l rest h true e (inl f) = ap p (sym f) ∙ e
passed_by p x l rest h true e (inr i) = h i
passed_by p x l rest h false e i = h i

passed : (p : ℕ → Bool) (xs : List ℕ) (l : ℕ) → IsIn l (filter p xs) → p l ≡ true
passed p [] l i = absurd i
passed p (x ∷ xs) l i = passed_by p x l (filter p xs) (passed p xs l) (p x) refl i

was_by : (x l : ℕ) (xs rest : List ℕ) → (IsIn l rest → IsIn l xs) → (b : Bool) → IsIn l (cond b (x ∷ rest) rest) → IsIn l (x ∷ xs)
was_by x l xs rest h true (inl e) = inl e
was_by x l xs rest h true (inr i) = inr (h i)
was_by x l xs rest h false i = inr (h i)

was_in : (p : ℕ → Bool) (xs : List ℕ) (l : ℕ) → IsIn l (filter p xs) → IsIn l xs
was_in p [] l i = i
was_in p (x ∷ xs) l i = was_by x l xs (filter p xs) (was_in p xs l) (p x) i

round-in : (g : Procedures) (set : List ℕ) (l : ℕ) → IsIn l (round g set) → IsIn l set
unfolding round
round-in g set l i = was_in (fits g set) set l i

rounds-in : (g : Procedures) (n : ℕ) (set : List ℕ) (l : ℕ) → IsIn l (rounds g n set) → IsIn l set
rounds-in g zero set l i = i
rounds-in g (suc n) set l i = round-in g set l (rounds-in g n (round g set) l i)

still-fits : (g : Procedures) (set : List ℕ) (l : ℕ) → round g set ≡ set → IsIn l set → fits g set l ≡ true
unfolding round
still-fits g set l e i = passed (fits g set) set l (subst (λ v. IsIn l v) (sym e) i)

line_of : (f : ℕ → Lifted) (ls : List ℕ) (line : Lifted) → IsIn line (map f ls) → (l : ℕ) × IsIn l ls × (f l ≡ line)
line_of f [] line i = absurd i
line_of f (l ∷ ls) line (inl e) = (l, inl refl, e)
line_of f (l ∷ ls) line (inr i) = let r = line_of f ls line i in (r.0, inr r.1, r.2)

pub few_operands : (p : ProgramTree) (line : Lifted) → IsIn line (liftable p) → formals_of (slice_get p.lambdas line.lambda) + length line.added ≤ 12
few_operands p line i =
    let g = procedures p in
    let set = settled g (candidates p) in
    let r = line_of (λ l. record { lambda = l; added = added_to g set l }) set line i in
    let few = leb-true (g.formals r.0 + length (added_to g set r.0)) 12 (still-fits g set r.0 (settles g (length (candidates p)) (candidates p) (omega arith)) r.1) in
    subst (λ (k : Lifted). formals_of (slice_get p.lambdas k.lambda) + length k.added ≤ 12) r.2 few

-- a candidate has no rest parameter
no_rest : (ms : List Mention) (m : LambdaTree) (rest o : Option ℕ) → is_known_by ms m rest o ≡ true → rest ≡ None
no_rest ms m None o e = refl
no_rest ms m (Some r) o e = absurd (clash e)
  where
    clash : false ≡ true → ⊥
    clash q = cc

abbrev Stands : List Mention → List LambdaTree → ℕ → ℕ → Type 0
Stands ms ls first l = (k : ℕ) × (m : LambdaTree) × (l ≡ first + k) × (slice_get ls k ≡ Some m) × (m.rest ≡ None)

stands_by : (ms : List Mention) (m : LambdaTree) (ls : List LambdaTree) (first l : ℕ) → (IsIn l (known_from ms ls (suc first)) → Stands ms ls (suc first) l) → (b : Bool) → is_known ms m first ≡ b → IsIn l (cond b (first ∷ known_from ms ls (suc first)) (known_from ms ls (suc first))) → Stands ms (m ∷ ls) first l
stands_by ms m ls first l h true e (inl f) = (0, m, omega arith, refl, no_rest ms m m.rest (name_in ms first) e)
stands_by ms m ls first l h true e (inr i) = let r = h i in let q : l ≡ suc first + r.0 = r.2 in (suc r.0, r.1, omega arith, r.3, r.4)
stands_by ms m ls first l h false e i = let r = h i in let q : l ≡ suc first + r.0 = r.2 in (suc r.0, r.1, omega arith, r.3, r.4)

stands : (ms : List Mention) (ls : List LambdaTree) (first l : ℕ) → IsIn l (known_from ms ls first) → Stands ms ls first l
stands ms [] first l i = absurd i
stands ms (m ∷ ls) first l i = stands_by ms m ls first l (stands ms ls (suc first) l) (is_known ms m first) refl i

pub without_rest : (p : ProgramTree) (line : Lifted) → IsIn line (liftable p) → (m : LambdaTree) → slice_get p.lambdas line.lambda ≡ Some m → m.rest ≡ None
without_rest p line i m e =
    let g = procedures p in
    let set = settled g (candidates p) in
    let r = line_of (λ l. record { lambda = l; added = added_to g set l }) set line i in
    let s = stands (mentions_of p) p.lambdas 0 r.0 (rounds-in g (length (candidates p)) (candidates p) r.0 r.1) in
    let at : line.lambda ≡ s.0 = ap (λ (k : Lifted). k.lambda) (sym r.2) ∙ (let q : r.0 ≡ 0 + s.0 = s.2 in omega arith) in
    same m s.1 (slice_get p.lambdas s.0) (ap (slice_get p.lambdas) (sym at) ∙ e) s.3 s.4
  where
    same : (a b : LambdaTree) (o : Option LambdaTree) → o ≡ Some a → o ≡ Some b → b.rest ≡ None → a.rest ≡ None
    same a b o x y z = let q : a ≡ b = cc in ap (λ (k : LambdaTree). k.rest) q ∙ z
