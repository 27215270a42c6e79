-- No lambda expression names more variables than are in scope where it stands, where a variable of which a cell is
-- made counts once with the cell.
use Rattle.std.proofs.Common.{◌≡◌, refl, sym, ap, ◌∙◌, subst, ℕ, suc, ◌+◌, ◌≤◌, ◌⊎◌, inl, inr, ⊎_elim, arith, Bool, true, false, cond, ◌==◌, List, [], ◌∷◌, ◌++◌, length, map, eq-eqb, eqb-true}
use Rattle.std.proofs.lemmas.Bool.{cases_Bool}
use Rattle.std.proofs.lemmas.List.{length-append}
use Rattle.tb_prim.specs.declared.place.Place.{Place}
use Rattle.tb_semantics.specs.Graph.{IsIn}
use Rattle.tb_core.specs.FreeVariables.{is_in, without, of_lambdas}
use Rattle.tb_core.specs.Rules.{Every}
use Rattle.tb_core.proofs.Members.{in-left, in-right, in-either, in-tested, in-without, without-sub}
use Rattle.tb_ir.specs.Tree.{Tree, Node, Form, Quote, Local, Global, Lambda, If, NewCell, CellGet, CellSet, SetGlobal, DefGlobal, Let, Letrec, Seq, Call, Direct, PrimUse, Apply, Trees, none, more, count}
use Rattle.tb_ir.specs.FreeVariables.{free, free_form, free_all}
use Rattle.tb_ir.specs.Rules.{nodes, nodes_in, nodes_of, of_nodes, of_kind, named, standing_at, form_of, times}
use Rattle.tb_ir.specs.Width.{is_new_cell, plain_count}
use Rattle.tb_anf.proofs.Apart.{of_nodes-append}
use Rattle.tb_anf.proofs.Names.{IsLong}
use Rattle.tb_anf.proofs.Operands.{every-left, every-right}
use Rattle.tb_anf.proofs.Scopes.{every-append}
use Rattle.tb_anf.proofs.Tasks.{Task, tasks_of, tasks, tasks_form, tasks_all}

pub times-append : (x : ℕ) (xs ys : List ℕ) → times x (xs ++ ys) ≡ times x xs + times x ys
times-append x [] ys = omega arith
times-append x (y ∷ xs) ys = let h = times-append x xs ys in omega arith

pub times-in : (x : ℕ) (xs : List ℕ) → IsIn x xs → 1 ≤ times x xs
times-in x [] i = absurd i
times-in x (y ∷ xs) (inl e) = rw (eq-eqb y x e) (omega arith)
times-in x (y ∷ xs) (inr i) = let h = times-in x xs i in omega arith

abbrev pub named_in : List Tree → List ℕ
named_in ds = of_nodes named ds

abbrev pub stand_at : List Tree → List ℕ
stand_at ds = of_nodes standing_at ds

-- a cell is made of such a variable
abbrev pub Makes : (ℕ → Type 0) → Form → Type 0
Makes single (NewCell (Node q s (Local x))) = single x
Makes single (NewCell e) = ⊥
Makes single f = Unit {0}

abbrev makes_of : Tree → ℕ → Bool
makes_of (Node p s (NewCell (Node q t (Local x)))) z = x == z
makes_of _ z = false

-- the cell in place of the variable of which it is made
abbrev swap : List ℕ → Trees → ℕ → ℕ
swap (c ∷ cs) (more e es) z = cond (makes_of e z) c (swap cs es z)
swap [] es z = z
swap (c ∷ cs) none z = z

module _ (I : ℕ → List ℕ) (single : ℕ → Type 0) where
  -- nodes that name such a variable once, and no lambda expression that stands there names it
  pub record Good (ds : List Tree) : Type 0 where
    pub once : (x : ℕ) → single x → times x (named_in ds) ≤ 1
    pub away : (x l : ℕ) → single x → IsIn x (named_in ds) → IsIn l (stand_at ds) → IsIn x (I l) → ⊥
    pub cells : Every (λ d. Makes single (form_of d)) ds
    pub long : Every (λ d. IsLong (form_of d)) ds

  good-left : (ds es : List Tree) → Good (ds ++ es) → Good ds
  good-left ds es g =
      let n = of_nodes-append named ds es in
      let k = of_nodes-append standing_at ds es in
      record {
        once = λ x s. let h = g.once x s in let e = ap (times x) n ∙ times-append x (named_in ds) (named_in es) in
            omega arith;
        away = λ x l s i j. g.away x l s (subst (IsIn x) (sym n) (in-left x (named_in ds) (named_in es) i))
            (subst (IsIn l) (sym k) (in-left l (stand_at ds) (stand_at es) j));
        cells = every-left _ ds es g.cells;
        long = every-left _ ds es g.long;
      }

  good-right : (ds es : List Tree) → Good (ds ++ es) → Good es
  good-right ds es g =
      let n = of_nodes-append named ds es in
      let k = of_nodes-append standing_at ds es in
      record {
        once = λ x s. let h = g.once x s in let e = ap (times x) n ∙ times-append x (named_in ds) (named_in es) in
            omega arith;
        away = λ x l s i j. g.away x l s (subst (IsIn x) (sym n) (in-right x (named_in ds) (named_in es) i))
            (subst (IsIn l) (sym k) (in-right l (stand_at ds) (stand_at es) j));
        cells = every-right _ ds es g.cells;
        long = every-right _ ds es g.long;
      }

  -- a variable of which a cell is made is not named on both sides
  not-both : (ds es : List Tree) → Good (ds ++ es) → (x : ℕ) → single x → IsIn x (named_in ds) →
      IsIn x (named_in es) → ⊥
  not-both ds es g x s i j =
      let h = g.once x s in
      let e = ap (times x) (of_nodes-append named ds es) ∙ times-append x (named_in ds) (named_in es) in
      let a = times-in x (named_in ds) i in
      let b = times-in x (named_in es) j in
      absurd (omega arith)

  -- what is free is named, or a lambda expression that stands there names it
  abbrev Reached : List Tree → ℕ → Type 0
  Reached ds y = IsIn y (named_in ds) ⊎ ((l : ℕ) × IsIn l (stand_at ds) × IsIn y (I l))

  reached-left : (ds es : List Tree) (y : ℕ) → Reached ds y → Reached (ds ++ es) y
  reached-left ds es y =
      ⊎_elim (λ i. inl (subst (IsIn y) (sym (of_nodes-append named ds es)) (in-left y (named_in ds) _ i)))
      (λ r. inr (
        r.0,
        subst (IsIn r.0) (sym (of_nodes-append standing_at ds es)) (in-left r.0
            (stand_at ds) _ r.1),
        r.2,
      ))

  reached-right : (ds es : List Tree) (y : ℕ) → Reached es y → Reached (ds ++ es) y
  reached-right ds es y =
      ⊎_elim (λ i. inl (subst (IsIn y) (sym (of_nodes-append named ds es)) (in-right y (named_in ds) _ i)))
      (λ r. inr (
        r.0,
        subst (IsIn r.0) (sym (of_nodes-append standing_at ds es)) (in-right r.0
            (stand_at ds) _ r.1),
        r.2,
      ))

  in_group : (ls : List ℕ) (y : ℕ) → IsIn y (of_lambdas I ls) → (l : ℕ) × IsIn l ls × IsIn y (I l)
  in_group [] y i = absurd i
  in_group (l ∷ ls) y i =
      ⊎_elim (λ j. (l, inl refl, j)) (λ j. let r = in_group ls y j in (r.0, inr r.1, r.2)) (in-either y (I l) _ i)

  mutual
    pub reached : (e : Tree) (y : ℕ) → IsIn y (free I e) → Reached (nodes e) y
    reached (Node p s f) y i =
        ⊎_elim (λ j. inl j) (λ r. inr r) (form_reached p s f y i)

    form_reached : (p : Place) (s : ℕ) (f : Form) (y : ℕ) → IsIn y (free_form I f) → Reached (Node p s f ∷ nodes_in f) y
    form_reached p s (Quote c) y i = absurd i
    form_reached p s (Local x) y i = inl i
    form_reached p s (Global g) y i = absurd i
    form_reached p s (Lambda l) y i = inr (l, inl refl, i)
    form_reached p s (If a b c) y i =
        ⊎_elim (λ j. reached-left (nodes a) _ y (reached a y j))
        (λ j. reached-right (nodes a) _ y (⊎_elim
        (λ k. reached-left (nodes b) _ y (reached b y k))
        (λ k. reached-right (nodes b) _ y (reached c y k)) (in-either y (free I b) _ j)))
        (in-either y (free I a) _ i)
    form_reached p s (NewCell e) y i = reached e y i
    form_reached p s (CellGet e) y i = reached e y i
    form_reached p s (CellSet c e) y i =
        ⊎_elim (λ j. reached-left (nodes c) _ y (reached c y j)) (λ j. reached-right (nodes c) _ y (reached e y j))
        (in-either y (free I c) _ i)
    form_reached p s (SetGlobal g e) y i = reached e y i
    form_reached p s (DefGlobal g e) y i = reached e y i
    form_reached p s (Let xs es e) y i =
        ⊎_elim (λ j. reached-left (nodes_of es) _ y (all_reached es y j))
        (λ j. reached-right (nodes_of es) _ y (reached e y (without-sub xs _ y j))) (in-either y (free_all I es) _ i)
    form_reached p s (Letrec xs ls e) y i =
        ⊎_elim
        (λ j. let r = in_group ls y j in inr (r.0, in-left r.0 ls _ r.1, r.2))
        (λ j. ⊎_elim inl (λ r. inr (r.0, in-right r.0 ls _ r.1, r.2)) (reached e y j))
        (in-either y (of_lambdas I ls) _ (without-sub xs _ y i))
    form_reached p s (Seq es) y i = all_reached es y i
    form_reached p s (Call f es) y i =
        ⊎_elim (λ j. reached-left (nodes f) _ y (reached f y j)) (λ j. reached-right (nodes f) _ y (all_reached es y j))
        (in-either y (free I f) _ i)
    form_reached p s (Direct l es) y i = all_reached es y i
    form_reached p s (PrimUse q es) y i = all_reached es y i
    form_reached p s (Apply f l) y i =
        ⊎_elim (λ j. reached-left (nodes f) _ y (reached f y j)) (λ j. reached-right (nodes f) _ y (reached l y j))
        (in-either y (free I f) _ i)

    all_reached : (es : Trees) (y : ℕ) → IsIn y (free_all I es) → Reached (nodes_of es) y
    all_reached none y i = absurd i
    all_reached (more e es) y i =
        ⊎_elim (λ j. reached-left (nodes e) _ y (reached e y j)) (λ j. reached-right (nodes e) _ y (all_reached es y j))
        (in-either y (free I e) _ i)

  made_of : (e : Tree) (z : ℕ) → Every (λ d. Makes single (form_of d)) (nodes e) → makes_of e z ≡ true →
      single z × IsIn z (named_in (nodes e))
  made_of (Node p s (NewCell (Node q t (Local x)))) z m h =
      let e = eqb-true x z h in (subst single e m.0, inl e)
  made_of (Node p s (NewCell d)) z m h = absurd m.0
  made_of (Node p s _) z m h = cc

  -- no cell is made of another variable
  swap-other : (xs : List ℕ) (es : Trees) (y : ℕ) → Every (λ d. Makes single (form_of d)) (nodes_of es) →
      (single y → IsIn y (named_in (nodes_of es)) → ⊥) → swap xs es y ≡ y
  swap-other [] es y m h = refl
  swap-other (c ∷ cs) none y m h = refl
  swap-other (c ∷ cs) (more e es) y m h =
      let n = of_nodes-append named (nodes e) (nodes_of es) in
      ⊎_elim
      (λ t. let r = made_of e y (every-left _ (nodes e) _ m) t in
      absurd (h r.0 (subst (IsIn y) (sym n) (in-left y (named_in (nodes e)) _ r.1))))
      (λ f. rw f (swap-other cs es y (every-right _ (nodes e) _ m)
      (λ s i. h s (subst (IsIn y) (sym n) (in-right y (named_in (nodes e)) _ i)))))
      (cases_Bool (makes_of e y))

  -- the cell that a variable of a `let` is, and the variable of which it is made
  record CellFor (xs : List ℕ) (es : Trees) (y : ℕ) : Type 0 where
    maker : ℕ
    free_there : IsIn maker (free_all I es)
    named_there : IsIn maker (named_in (nodes_of es))
    one : single maker
    swapped : swap xs es maker ≡ y

  -- a variable of a `let` is a cell or not
  first_variable : (x : ℕ) (xs : List ℕ) (e : Tree) (es : Trees) (y : ℕ) → Good (nodes_of (more e es)) → x ≡ y →
      IsIn y (of_kind false (x ∷ xs) (more e es)) ⊎ CellFor (x ∷ xs) (more e es) y
  first_variable x xs (Node p s (NewCell (Node q t (Local z)))) es y g e = inr (record {
    maker = z;
    free_there = inl refl;
    named_there = inl refl;
    one = g.cells.0;
    swapped = rw (eq-eqb z z refl) e;
  })
  first_variable x xs (Node p s (NewCell d)) es y g e = absurd g.cells.0
  first_variable x xs (Node p s _) es y g e = inl (inl e)

  let-variable : (xs : List ℕ) (es : Trees) (y : ℕ) → length xs ≡ count es → Good (nodes_of es) → IsIn y xs →
      IsIn y (of_kind false xs es) ⊎ CellFor xs es y
  let-variable [] es y l g i = absurd i
  let-variable (x ∷ xs) none y l g i = absurd (omega arith)
  let-variable (x ∷ xs) (more e es) y l g (inl q) = first_variable x xs e es y g q
  let-variable (x ∷ xs) (more e es) y l g (inr i) =
      ⊎_elim
      (λ j. inl (in-right y (cond (is_new_cell e) [] (x ∷ [])) _ j))
      (λ c. inr (record {
        maker = c.maker;
        free_there = in-right c.maker (free I e) _ c.free_there;
        named_there = subst (IsIn c.maker) (sym (of_nodes-append named (nodes e) (nodes_of es)))
            (in-right c.maker (named_in (nodes e)) _ c.named_there);
        one = c.one;
        swapped = ⊎_elim
            (λ t. absurd (not-both (nodes e) (nodes_of es) g c.maker c.one
            (made_of e c.maker (every-left _ (nodes e) _ g.cells) t).1 c.named_there))
            (λ f. rw f c.swapped)
            (cases_Bool (makes_of e c.maker));
      }))
      (let-variable xs es y (omega arith) (good-right (nodes e) (nodes_of es) g) i)

  plain_length : (xs : List ℕ) (es : Trees) → length xs ≡ count es → length (of_kind false xs es) ≤ plain_count es
  plain_length [] es l = omega arith
  plain_length (x ∷ xs) none l = absurd (omega arith)
  plain_length (x ∷ xs) (more e es) l = by (is_new_cell e) (plain_length xs es (omega arith))
    where
      by : (b : Bool) → length (of_kind false xs es) ≤ plain_count es →
          length (cond b [] (x ∷ []) ++ of_kind false xs es) ≤ cond b 0 1 + plain_count es
      by true h = omega arith
      by false h = omega arith

  map_length : (f : ℕ → ℕ) (xs : List ℕ) → length (map f xs) ≡ length xs
  map_length f [] = refl
  map_length f (x ∷ xs) = ap suc (map_length f xs)

  in_map : (f : ℕ → ℕ) (xs : List ℕ) (x : ℕ) → IsIn x xs → IsIn (f x) (map f xs)
  in_map f [] x i = absurd i
  in_map f (z ∷ xs) x (inl e) = inl (ap f e)
  in_map f (z ∷ xs) x (inr i) = inr (in_map f xs x i)

  -- the variables in scope where a lambda expression stands, of which it names no others
  pub record FitTask (t : Task) : Type 0 where
    pub variables : List ℕ
    pub few : length variables ≤ t.scope
    pub all : (y : ℕ) → IsIn y (I t.number) → IsIn y variables

  abbrev Within : List ℕ → List ℕ → Type 0
  Within xs vs = (y : ℕ) → IsIn y xs → IsIn y vs

  -- the variables in scope in the body of a `let`
  abbrev inside_let : List ℕ → Trees → List ℕ → List ℕ
  inside_let xs es vs = of_kind false xs es ++ map (swap xs es) vs

  let-few : (xs : List ℕ) (es : Trees) (vs : List ℕ) (s : ℕ) → length xs ≡ count es → length vs ≤ s →
      length (inside_let xs es vs) ≤ s + plain_count es
  let-few xs es vs s l le =
      let a = plain_length xs es l in
      let b = map_length (swap xs es) vs in
      let c = length-append (of_kind false xs es) (map (swap xs es) vs) in
      omega arith

  let-all : (xs : List ℕ) (es : Trees) (e : Tree) (vs : List ℕ) → length xs ≡ count es →
      Good (nodes_of es ++ nodes e) → Within (free_all I es ++ without xs (free I e)) vs →
      Within (free I e) (inside_let xs es vs)
  let-all xs es e vs l g w y i =
      let gs = good-left (nodes_of es) (nodes e) g in
      ⊎_elim
      (λ t. ⊎_elim (in-left y (of_kind false xs es) _)
      (λ c. in-right y (of_kind false xs es) _
      (subst (λ z. IsIn z (map (swap xs es) vs)) c.swapped
      (in_map (swap xs es) vs c.maker (w c.maker (in-left c.maker (free_all I es) _ c.free_there)))))
      (let-variable xs es y l gs (in-tested xs y t)))
      (λ f. in-right y (of_kind false xs es) _
      (subst (λ z. IsIn z (map (swap xs es) vs))
      (swap-other xs es y gs.cells (λ s j. ⊎_elim
      (λ k. not-both (nodes_of es) (nodes e) g y s j k)
      (λ r. g.away y r.0 s
      (subst (IsIn y) (sym (of_nodes-append named (nodes_of es) (nodes e))) (in-left y (named_in (nodes_of es)) _ j))
      (subst (IsIn r.0) (sym (of_nodes-append standing_at (nodes_of es) (nodes e)))
      (in-right r.0 (stand_at (nodes_of es)) _ r.1)) r.2)
      (reached e y i)))
      (in_map (swap xs es) vs y (w y (in-right y (free_all I es) _ (in-without xs (free I e) y i f))))))
      (cases_Bool (is_in xs y))

  letrec-all : (xs ns vs : List ℕ) → Within (without xs ns) vs → Within ns (xs ++ vs)
  letrec-all xs ns vs w y i =
      ⊎_elim (λ t. in-left y xs vs (in-tested xs y t)) (λ f. in-right y xs vs (w y (in-without xs ns y i f)))
      (cases_Bool (is_in xs y))

  group-fit : (ls : List ℕ) (s : ℕ) (vs : List ℕ) → length vs ≤ s → Within (of_lambdas I ls) vs →
      Every FitTask (tasks_of s ls)
  group-fit [] s vs le w = tt
  group-fit (l ∷ ls) s vs le w = (
    record { variables = vs; few = le; all = λ y i. w y (in-left y (I l) _ i) },
    group-fit ls s vs le (λ y i. w y (in-right y (I l) _ i)),
  )

  two_fit : (ts us : List Task) → Every FitTask ts → Every FitTask us → Every FitTask (ts ++ us)
  two_fit ts us a b = every-append FitTask ts us a b

  mutual
    -- the lambda expressions of an expression that names no others than these variables
    pub fit-tasks : (e : Tree) (s : ℕ) (vs : List ℕ) → length vs ≤ s → Within (free I e) vs → Good (nodes e) →
        Every FitTask (tasks s e)
    fit-tasks (Node p n f) s vs le w g =
        form_fit f s vs le w (good-right (Node p n f ∷ []) (nodes_in f) g) (g.long).0

    form_fit : (f : Form) (s : ℕ) (vs : List ℕ) → length vs ≤ s → Within (free_form I f) vs → Good (nodes_in f) →
        IsLong f → Every FitTask (tasks_form s f)
    form_fit (Quote c) s vs le w g l = tt
    form_fit (Local x) s vs le w g l = tt
    form_fit (Global v) s vs le w g l = tt
    form_fit (Lambda k) s vs le w g l = (record { variables = vs; few = le; all = w }, tt)
    form_fit (If a b c) s vs le w g l =
        let r = good-right (nodes a) (nodes b ++ nodes c) g in
        two_fit (tasks s a) (tasks s b ++ tasks s c)
        (fit-tasks a s vs le (λ y i. w y (in-left y (free I a) _ i)) (good-left (nodes a) (nodes b ++ nodes c) g))
        (two_fit (tasks s b) (tasks s c)
        (fit-tasks b s vs le (λ y i. w y (in-right y (free I a) _ (in-left y (free I b) _ i)))
        (good-left (nodes b) (nodes c) r))
        (fit-tasks c s vs le (λ y i. w y (in-right y (free I a) _ (in-right y (free I b) _ i)))
        (good-right (nodes b) (nodes c) r)))
    form_fit (NewCell e) s vs le w g l = fit-tasks e s vs le w g
    form_fit (CellGet e) s vs le w g l = fit-tasks e s vs le w g
    form_fit (CellSet c e) s vs le w g l =
        two_fit (tasks s c) (tasks s e)
        (fit-tasks c s vs le (λ y i. w y (in-left y (free I c) _ i)) (good-left (nodes c) (nodes e) g))
        (fit-tasks e s vs le (λ y i. w y (in-right y (free I c) _ i)) (good-right (nodes c) (nodes e) g))
    form_fit (SetGlobal v e) s vs le w g l = fit-tasks e s vs le w g
    form_fit (DefGlobal v e) s vs le w g l = fit-tasks e s vs le w g
    form_fit (Let xs es e) s vs le w g l =
        two_fit (tasks_all s es) (tasks (s + plain_count es) e)
        (all_fit es s vs le (λ y i. w y (in-left y (free_all I es) _ i)) (good-left (nodes_of es) (nodes e) g))
        (fit-tasks e (s + plain_count es) (inside_let xs es vs) (let-few xs es vs s l le) (let-all xs es e vs l g w)
        (good-right (nodes_of es) (nodes e) g))
    form_fit (Letrec xs ls e) s vs le w g l =
        let few : length (xs ++ vs) ≤ s + length xs = (let k = length-append xs vs in omega arith) in
        let inner = letrec-all xs (of_lambdas I ls ++ free I e) vs w in
        two_fit (tasks_of (s + length xs) ls) (tasks (s + length xs) e)
        (group-fit ls (s + length xs) (xs ++ vs) few (λ y i. inner y (in-left y (of_lambdas I ls) _ i)))
        (fit-tasks e (s + length xs) (xs ++ vs) few (λ y i. inner y (in-right y (of_lambdas I ls) _ i)) g)
    form_fit (Seq es) s vs le w g l = all_fit es s vs le w g
    form_fit (Call f es) s vs le w g l =
        two_fit (tasks s f) (tasks_all s es)
        (fit-tasks f s vs le (λ y i. w y (in-left y (free I f) _ i)) (good-left (nodes f) (nodes_of es) g))
        (all_fit es s vs le (λ y i. w y (in-right y (free I f) _ i)) (good-right (nodes f) (nodes_of es) g))
    form_fit (Direct k es) s vs le w g l = all_fit es s vs le w g
    form_fit (PrimUse q es) s vs le w g l = all_fit es s vs le w g
    form_fit (Apply f d) s vs le w g l =
        two_fit (tasks s f) (tasks s d)
        (fit-tasks f s vs le (λ y i. w y (in-left y (free I f) _ i)) (good-left (nodes f) (nodes d) g))
        (fit-tasks d s vs le (λ y i. w y (in-right y (free I f) _ i)) (good-right (nodes f) (nodes d) g))

    pub all_fit : (es : Trees) (s : ℕ) (vs : List ℕ) → length vs ≤ s → Within (free_all I es) vs → Good (nodes_of es) →
        Every FitTask (tasks_all s es)
    all_fit none s vs le w g = tt
    all_fit (more e es) s vs le w g =
        two_fit (tasks s e) (tasks_all s es)
        (fit-tasks e s vs le (λ y i. w y (in-left y (free I e) _ i)) (good-left (nodes e) (nodes_of es) g))
        (all_fit es s vs le (λ y i. w y (in-right y (free I e) _ i)) (good-right (nodes e) (nodes_of es) g))
