-- Each body with cells makes cells of its own variables alone, each of which is named there alone.
use Rattle.std.proofs.Common.{◌≡◌, refl, sym, ap, ◌∙◌, subst, ℕ, suc, ◌-◌, ◌^◌, ◌≤◌, arith, Bool, true, false, cond, List, [], ◌∷◌, ◌++◌, length}
use Rattle.tb_prim.specs.declared.place.Place.{Place}
use Rattle.tb_core.specs.Tree.{Tree, Form, Local, SetLocal, Let, Trees, none, more, count, LambdaTree, ProgramTree, parameters}
use Rattle.tb_core.specs.FreeVariables.{is_in, is_assigned}
use Rattle.tb_core.specs.Rules.{Every, Each, EachAll, IsShaped, KeepsRules, LambdaKeeps, NodeKeeps, NoMark, variables}
use Rattle.tb_core.proofs.Members.{tested-in}
use Rattle.tb_ir.specs.Tree as C
use Rattle.tb_ir.specs.FreeVariables as F
use Rattle.tb_ir.specs.Rules as K
use Rattle.tb_ir.specs.Rules.{nodes, nodes_of, nodes_of_lambdas, all_nodes, form_of, of_kind, of_nodes, plain_binders, times, times_named}
use Rattle.tb_assign.specs.Eliminate.{fresh, celled, renamed, new_cells, with_cells, eliminate, eliminate_all, eliminate_lambdas, let_site, body_site, cells_of}
use Rattle.tb_assign.proofs.Counts.{times-append, times-in, times-same, apart-times}
use Rattle.tb_assign.proofs.Free.{renamed-parameters}
use Rattle.tb_assign.proofs.FreshNames.{named-once}
use Rattle.tb_assign.proofs.NodesKept.{StandsFor, Makes, Reads, everywhere, IsValue, a-value, bind-value}
use Rattle.tb_assign.proofs.OwnLines.{lines-enough}
use Rattle.tb_assign.proofs.ReadyFrom.{each-then, all-then}
use Rattle.tb_assign.proofs.Standing.{of-nodes-append}
use Rattle.tb_assign.proofs.Weights.{weigh-grows, sum_nodes, sum-bind, binding, reading, stands, sum-tree, times-nodes}
use Rattle.tb_assign.proofs.Widths.{FitHere, enough, bodies-lined, forms_fit, bodies_fit, not-new}

-- the variables of which a body makes cells are among those that it binds otherwise, its parameters counted
module _ (g : ℕ → Bool) (z : ℕ) where
  abbrev M : C.Tree → ℕ
  M e = times z (K.celled (form_of e))

  abbrev B : C.Tree → ℕ
  B e = times z (plain_binders (form_of e))

  cells_enough : (p : Place) (xs : List ℕ) → sum_nodes M (nodes_of (new_cells g p (celled g xs))) ≤ times z (renamed g xs)
  cells_enough p [] = omega arith
  cells_enough p (x ∷ xs) = by_test (g x) (cells_enough p xs)
    where
      by_test : (b : Bool) → sum_nodes M (nodes_of (new_cells g p (celled g xs))) ≤ times z (renamed g xs) →
          sum_nodes M (nodes_of (new_cells g p (cond b (x ∷ celled g xs) (celled g xs)))) ≤ times z (cond b (fresh x) x ∷ renamed g xs)
      by_test true h = omega arith
      by_test false h = omega arith

  bind_same : (p : Place) (s : ℕ) (xs : List ℕ) (e : C.Tree) → binding M g p s xs e ≡ sum_nodes M (nodes_of (new_cells g p xs))
  bind_same p s [] e = refl
  bind_same p s (x ∷ xs) e = omega arith

  plain_all : (xs : List ℕ) (es : Trees) → length xs ≡ count es → of_kind false (renamed g xs) (eliminate_all g es) ≡ renamed g xs
  plain_all [] es h = refl
  plain_all (x ∷ xs) none h = absurd (omega arith)
  plain_all (x ∷ xs) (more e es) h =
      ap (λ (b : Bool). cond b [] (cond (g x) (fresh x) x ∷ []) ++ of_kind false (renamed g xs) (eliminate_all g es)) (not-new g e)
      ∙ ap (λ ys. cond (g x) (fresh x) x ∷ ys) (plain_all xs es (omega arith))

  node_enough : (p : Place) (s : ℕ) (f : Form) → IsShaped f → stands M g p s f ≤ stands B g p s f
  node_enough p s (Local x) h = by_read (g x)
    where
      by_read : (b : Bool) → reading M g p s x b ≤ reading B g p s x b
      by_read true = omega arith
      by_read false = omega arith
  node_enough p s (Let xs es e) h =
      let a = bind_same p (let_site s) (celled g xs) (eliminate g e) in let b = cells_enough p xs in
      let c = ap (times z) (plain_all xs es h) in omega arith
  node_enough p s f h = omega arith

  tree_enough : (e : Tree) → Each (λ s f. IsShaped f) e →
      times z (of_nodes K.celled (nodes (eliminate g e))) ≤ times z (of_nodes plain_binders (nodes (eliminate g e)))
  tree_enough e h =
      let a = times-nodes z K.celled (nodes (eliminate g e)) in let b = times-nodes z plain_binders (nodes (eliminate g e)) in
      let c = sum-tree M g e in let d = sum-tree B g e in
      let w = weigh-grows (λ s f. IsShaped f) (stands M g) (stands B g) node_enough e h in omega arith

  body_enough : (p : Place) (s : ℕ) (xs : List ℕ) (e : Tree) → Each (λ s f. IsShaped f) e →
      times z (of_nodes K.celled (nodes (with_cells g p s xs (eliminate g e))))
      ≤ times z (renamed g xs ++ of_nodes plain_binders (nodes (with_cells g p s xs (eliminate g e))))
  body_enough p s xs e h =
      let body = with_cells g p s xs (eliminate g e) in
      let a = times-nodes z K.celled (nodes body) in let b = times-nodes z plain_binders (nodes body) in
      let c = times-nodes z K.celled (nodes (eliminate g e)) in let d = times-nodes z plain_binders (nodes (eliminate g e)) in
      let i = sum-bind M g p s (celled g xs) (eliminate g e) in let j = sum-bind B g p s (celled g xs) (eliminate g e) in
      let k = bind_same p s (celled g xs) (eliminate g e) in let m = cells_enough p xs in
      let v = times-append z (renamed g xs) (of_nodes plain_binders (nodes body)) in let w = tree_enough e h in omega arith

-- a new cell is made of a fresh variable
abbrev IsMade : C.Form → Type 0
IsMade (C.NewCell (C.Node q s (C.Local x))) = 2 ^ 24 ≤ x
IsMade (C.NewCell e) = ⊥
IsMade _ = Unit {0}

abbrev Made : C.Tree → Type 0
Made e = IsMade (form_of e)

module _ (g : ℕ → Bool) where
  made_cells : (q : Place) (xs : List ℕ) → Every Made (nodes_of (new_cells g q xs))
  made_cells q [] = tt
  made_cells q (x ∷ xs) = (omega arith, (tt, made_cells q xs))

  makes_made : (q : Place) (s : ℕ) (xs : List ℕ) (e : C.Tree) → Makes Made g q s xs e
  makes_made q s [] e = tt
  makes_made q s (x ∷ xs) e = (tt, made_cells q (x ∷ xs))

  reads_made : (q : Place) (s x : ℕ) (b : Bool) → Reads Made g q s x b
  reads_made q s x true = (tt, tt)
  reads_made q s x false = tt

  stands_made : (q : Place) (s : ℕ) (f : Form) → StandsFor Made g q s f
  stands_made q s (Local x) = reads_made q s x (g x)
  stands_made q s (SetLocal x e) = (tt, tt)
  stands_made q s (Let xs es e) = (tt, makes_made q (let_site s) (celled g xs) (eliminate g e))
  stands_made q s f = tt

every_left : {X : Type 0} (P : X → Type 0) (xs ys : List X) → Every P (xs ++ ys) → Every P xs
every_left P [] ys h = tt
every_left P (x ∷ xs) ys h = (h.0, every_left P xs ys h.1)

every_right : {X : Type 0} (P : X → Type 0) (xs ys : List X) → Every P (xs ++ ys) → Every P ys
every_right P [] ys h = h
every_right P (x ∷ xs) ys h = every_right P xs ys h.1

module _ (p : ProgramTree) (r : KeepsRules p) where
  abbrev g : ℕ → Bool
  g = is_assigned p

  abbrev makers : List C.Tree → List ℕ
  makers es = of_nodes K.celled es

  -- nodes of the program with cells
  record IsPart (es : List C.Tree) : Type 0 where
    made : Every Made es
    within : (z : ℕ) → times z (makers es) ≤ times z (makers (all_nodes (cells_of p)))

  part_left : (es ds : List C.Tree) → IsPart (es ++ ds) → IsPart es
  part_left es ds h = record {
    made = every_left Made es ds h.made;
    within = λ z. let w = h.within z in let e = ap (times z) (of-nodes-append K.celled es ds) in let a = times-append z (makers es) (makers ds) in omega arith;
  }

  part_right : (es ds : List C.Tree) → IsPart (es ++ ds) → IsPart ds
  part_right es ds h = record {
    made = every_right Made es ds h.made;
    within = λ z. let w = h.within z in let e = ap (times z) (of-nodes-append K.celled es ds) in let a = times-append z (makers es) (makers ds) in omega arith;
  }

  -- a fresh variable of which a cell is made is the body's own, and is named there alone
  abbrev IsOwn : List ℕ → ℕ → Type 0
  IsOwn own z = (is_in own z ≡ true) × (times_named (cells_of p) z ≡ 1)

  made_here : (own : List ℕ) (f : C.Form) → IsMade f → ((z : ℕ) → 2 ^ 24 ≤ z → 1 ≤ times z (K.celled f) → IsOwn own z) →
      K.MakesCell (cells_of p) own f
  made_here own (C.NewCell (C.Node q s (C.Local x))) m h = h x m (let o = times-same x x refl in omega arith)
  made_here own (C.NewCell (C.Node q s _)) m h = absurd m
  made_here own _ m h = tt

  made_all : (own : List ℕ) (es : List C.Tree) → Every Made es → ((z : ℕ) → 2 ^ 24 ≤ z → 1 ≤ times z (makers es) → IsOwn own z) →
      Every (λ d. K.MakesCell (cells_of p) own (form_of d)) es
  made_all own [] m h = tt
  made_all own (e ∷ es) m h = (
    made_here own (form_of e) m.0 (λ z le o. h z le (let a = times-append z (K.celled (form_of e)) (makers es) in omega arith)),
    made_all own es m.1 (λ z le o. h z le (let a = times-append z (K.celled (form_of e)) (makers es) in omega arith)),
  )

  body_makes : (own : List ℕ) (es : List C.Tree) → IsPart es → ((z : ℕ) → times z (makers es) ≤ times z own) →
      Every (λ d. K.MakesCell (cells_of p) own (form_of d)) es
  body_makes own es part enough = made_all own es part.made (λ z le o.
      let n = named-once p r z le in let n0 = n.0 in let n1 = n.1 in let w = part.within z in let k = enough z in
      let a = apart-times (z - 2 ^ 24) (variables p) r.bound_once in
      (tested-in own z (times-in z own (omega arith)), omega arith))

  abbrev Shaped : ℕ → Form → Type 0
  Shaped s f = IsShaped f

  forms_kept : (es : Trees) → EachAll Shaped es → NoMark es → IsPart (nodes_of (eliminate_all g es)) →
      K.FormsKeep (cells_of p) (eliminate_all g es)
  forms_kept none h m w = tt
  forms_kept (more e es) h m w = (
    let v = a-value g e m.0 in
        record {
          makes_cells = body_makes _ (nodes (eliminate g e)) (part_left (nodes (eliminate g e)) (nodes_of (eliminate_all g es)) w) (λ z. tree_enough g z e h.0);
          value = v.no_mark;
          no_cell = v.no_cell;
        },
    forms_kept es h.1 m.1 (part_right (nodes (eliminate g e)) (nodes_of (eliminate_all g es)) w),
  )

  bodies_kept : (n : ℕ) (ls : List LambdaTree) → Every (λ (l : LambdaTree). Each Shaped l.body) ls → Every (LambdaKeeps p) ls →
      IsPart (nodes_of_lambdas (eliminate_lambdas g n ls)) →
      Every (λ (l : C.LambdaTree). K.BodyKeeps (cells_of p) (F.parameters l) l.body) (eliminate_lambdas g n ls)
  bodies_kept n [] h k w = tt
  bodies_kept n (l ∷ ls) h k w =
      let body = with_cells g l.place (body_site n) (parameters l) (eliminate g l.body) in
      let v = bind-value g l.place (body_site n) (celled g (parameters l)) (eliminate g l.body) (a-value g l.body (k.0).value) in (
        subst (λ xs. K.BodyKeeps (cells_of p) xs body) (sym (renamed-parameters g n l)) (record {
          makes_cells = body_makes _ (nodes body) (part_left (nodes body) _ w) (λ z. body_enough g z l.place (body_site n) (parameters l) l.body h.0);
          value = v.no_mark;
          no_cell = v.no_cell;
        }),
        bodies_kept (suc n) ls h.1 k.1 (part_right (nodes body) _ w),
      )

  whole : IsPart (all_nodes (cells_of p))
  whole = record {
    made = everywhere p r (FitHere p r) Made (λ q s f h. stands_made g q s f) (λ q n xs e lt sm m. makes_made g q (body_site n) xs e)
        (forms_fit p r) (bodies_fit p r p.lambdas r.lambdas (bodies-lined (enough p r) p.lambdas (λ w. let h = lines-enough p w r in omega arith)));
    within = λ z. omega arith;
  }

  shaped_forms : EachAll Shaped p.forms
  shaped_forms = all-then (FitHere p r) Shaped (λ s f h. h.1) p.forms (forms_fit p r)

  shaped_bodies : (ls : List LambdaTree) → Every (LambdaKeeps p) ls → Every (λ (l : LambdaTree). Each Shaped l.body) ls
  shaped_bodies [] h = tt
  shaped_bodies (l ∷ ls) h = (each-then (NodeKeeps p) Shaped (λ s f k. k.shaped) l.body (h.0).nodes, shaped_bodies ls h.1)

  pub forms-kept : K.FormsKeep (cells_of p) (cells_of p).forms
  forms-kept = forms_kept p.forms shaped_forms r.values (part_left (nodes_of (eliminate_all g p.forms)) _ whole)

  pub bodies-kept : Every (λ (l : C.LambdaTree). K.BodyKeeps (cells_of p) (F.parameters l) l.body) (cells_of p).lambdas
  bodies-kept = bodies_kept 0 p.lambdas (shaped_bodies p.lambdas r.lambdas) r.lambdas (part_right (nodes_of (eliminate_all g p.forms)) _ whole)
