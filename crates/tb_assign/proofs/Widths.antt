-- The width of each body and form with cells is that of its source.
use Rattle.std.proofs.Common.{◌≡◌, refl, sym, ap, ◌∙◌, ℕ, suc, ◌+◌, ◌^◌, ◌≤◌, ⊎_elim, arith, Bool, true, false, cond, ◌==◌, List, [], ◌∷◌, ◌++◌, length, map, Some, slice_get, append-nil, add-zero, zero-add, eq-eqb}
use Rattle.std.proofs.lemmas.Bool.{cases_Bool, eqb-false}
use Rattle.tb_prim.specs.declared.place.Place.{Place}
use Rattle.tb_semantics.specs.Graph.{IsIn}
use Rattle.tb_core.specs.Tree.{Tree, Node, Form, Quote, Local, Global, Lambda, If, SetLocal, SetGlobal, DefGlobal, Let, Letrec, Seq, Call, PrimUse, Apply, Trees, none, more, count, LambdaTree, ProgramTree, parameters}
use Rattle.tb_core.specs.FreeVariables.{is_assigned}
use Rattle.tb_core.specs.OperandOrder.{Line, has_order, order_of}
use Rattle.tb_core.specs.Rules.{Every, Each, EachForm, EachAll, IsShaped, NodeKeeps, LambdaKeeps, KeepsRules}
use Rattle.tb_core.specs.Width as core
use Rattle.tb_core.specs.Width.{widths_of_lambdas}
use Rattle.tb_core.proofs.Kept as Kept
use Rattle.tb_core.proofs.Members.{append-same}
use Rattle.tb_ir.specs.Tree as C
use Rattle.tb_ir.specs.FreeVariables as F
use Rattle.tb_ir.specs.TreeMachine as T
use Rattle.tb_ir.specs.Rules.{times}
use Rattle.tb_ir.specs.Width.{nodes, nodes_form, nodes_all, nodes_plain, plain_count, is_new_cell, widths, widths_form, widths_all, lambda_widths, lambdas_widths, form_widths, all_widths, is_lined, formals_of}
use Rattle.tb_assign.specs.Eliminate.{celled, renamed, new_cells, bind_cells, read_variable, eliminate, eliminate_form, eliminate_all, eliminate_lambda, eliminate_lambdas, let_site, body_site, cells_of}
use Rattle.tb_assign.proofs.Free.{renamed-parameters}
use Rattle.tb_assign.proofs.Counts.{one_if, times-in}
use Rattle.tb_assign.proofs.OwnLines.{lined_here, weigh_bodies, lines-enough}
use Rattle.tb_assign.proofs.AllNamed.{all-named}
use Rattle.tb_assign.proofs.ReadyFrom.{each-then, all-then, ready-from}
use Rattle.tb_assign.proofs.Weights.{weigh, weigh_form, weigh_all}

-- a node that has an order has a line, where there are lines enough
module _ (enough : ℕ → ℕ) where
  abbrev pub HasOne : ℕ → Form → Type 0
  HasOne s f = has_order f ≡ true → 1 ≤ enough s

  mutual
    pub each-lined : (e : Tree) → ((w : ℕ) → weigh (lined_here w) e ≤ enough w) → Each HasOne e
    each-lined (Node p s f) h = (
      λ o. let a = h s in let t : lined_here s p s f ≡ one_if (s == s) = ap (λ (b : Bool). cond b (one_if (s == s)) 0) o in
          let u = same_one s in omega arith,
      form_lined f (λ w. let a = h w in omega arith),
    )
      where
        same_one : (s : ℕ) → one_if (s == s) ≡ 1
        same_one s = ap one_if (eq-eqb s s refl)

    form_lined : (f : Form) → ((w : ℕ) → weigh_form (lined_here w) f ≤ enough w) → EachForm HasOne f
    form_lined (Quote c) h = tt
    form_lined (Local x) h = tt
    form_lined (Global n) h = tt
    form_lined (Lambda l) h = tt
    form_lined (If a b c) h = (
      each-lined a (λ w. let z = h w in omega arith),
      each-lined b (λ w. let z = h w in omega arith),
      each-lined c (λ w. let z = h w in omega arith),
    )
    form_lined (SetLocal x e) h = each-lined e h
    form_lined (SetGlobal n e) h = each-lined e h
    form_lined (DefGlobal n e) h = each-lined e h
    form_lined (Let xs es e) h =
        (all-lined es (λ w. let z = h w in omega arith), each-lined e (λ w. let z = h w in omega arith))
    form_lined (Letrec xs ls e) h = each-lined e h
    form_lined (Seq es) h = all-lined es h
    form_lined (Call f es) h =
        (each-lined f (λ w. let z = h w in omega arith), all-lined es (λ w. let z = h w in omega arith))
    form_lined (PrimUse q es) h = all-lined es h
    form_lined (Apply f l) h =
        (each-lined f (λ w. let z = h w in omega arith), each-lined l (λ w. let z = h w in omega arith))

    pub all-lined : (es : Trees) → ((w : ℕ) → weigh_all (lined_here w) es ≤ enough w) → EachAll HasOne es
    all-lined none h = tt
    all-lined (more e es) h =
        (each-lined e (λ w. let z = h w in omega arith), all-lined es (λ w. let z = h w in omega arith))

  pub bodies-lined : (ls : List LambdaTree) → ((w : ℕ) → weigh_bodies w ls ≤ enough w) →
      Every (λ (l : LambdaTree). Each HasOne l.body) ls
  bodies-lined [] h = tt
  bodies-lined (l ∷ ls) h =
      (each-lined l.body (λ w. let z = h w in omega arith), bodies-lined ls (λ w. let z = h w in omega arith))

pub line-there : (ls : List Line) (s : ℕ) → IsIn s (map (λ (l : Line). l.site) ls) → is_lined (T.line_of ls s) ≡ true
line-there [] s i = absurd i
line-there (l ∷ ls) s i = ⊎_elim
    (λ t. ap (λ b. is_lined (cond b (Some l.order) (T.line_of ls s))) t)
    (λ f. ap (λ b. is_lined (cond b (Some l.order) (T.line_of ls s))) f ∙ line-there ls s (⊎_elim (λ e. absurd (eqb-false l.site s f e)) (λ j. j) i))
    (cases_Bool (l.site == s))

pub not-new : (g : ℕ → Bool) (e : Tree) → is_new_cell (eliminate g e) ≡ false
not-new g (Node p s (Quote c)) = refl
not-new g (Node p s (Local x)) = by_read (g x)
  where
    by_read : (b : Bool) → is_new_cell (C.Node p s (read_variable g p s x b)) ≡ false
    by_read true = refl
    by_read false = refl
not-new g (Node p s (Global n)) = refl
not-new g (Node p s (Lambda l)) = refl
not-new g (Node p s (If a b c)) = refl
not-new g (Node p s (SetLocal x e)) = refl
not-new g (Node p s (SetGlobal n e)) = refl
not-new g (Node p s (DefGlobal n e)) = refl
not-new g (Node p s (Let xs es e)) = refl
not-new g (Node p s (Letrec xs ls e)) = refl
not-new g (Node p s (Seq es)) = refl
not-new g (Node p s (Call f es)) = refl
not-new g (Node p s (PrimUse q es)) = refl
not-new g (Node p s (Apply f l)) = refl

abbrev counts_plain : Bool → ℕ
counts_plain b = cond b 0 1

all_plain : (g : ℕ → Bool) (es : Trees) → plain_count (eliminate_all g es) ≡ count es
all_plain g none = refl
all_plain g (more e es) = let h = all_plain g es in let n : counts_plain (is_new_cell (eliminate g e)) ≡ 1 = ap counts_plain (not-new g e) in omega arith

renamed_length : (g : ℕ → Bool) (xs : List ℕ) → length (renamed g xs) ≡ length xs
renamed_length g [] = refl
renamed_length g (x ∷ xs) = ap suc (renamed_length g xs)

module _ (g lined : ℕ → Bool) (own : ℕ → ℕ) (unlined : (s : ℕ) → 2 ^ 24 ≤ s → lined s ≡ false) where
  abbrev pub Fit : ℕ → Form → Type 0
  Fit s f = (has_order f ≡ true → lined s ≡ true) × IsShaped f

  cells_plain : (p : Place) (xs : List ℕ) → nodes_plain lined own (new_cells g p xs) ≡ 0
  cells_plain p [] = refl
  cells_plain p (x ∷ xs) = let h = cells_plain p xs in omega arith

  cells_none : (p : Place) (xs : List ℕ) → plain_count (new_cells g p xs) ≡ 0
  cells_none p [] = refl
  cells_none p (x ∷ xs) = let h = cells_none p xs in omega arith

  bind_nodes : (p : Place) (s : ℕ) (xs : List ℕ) (e : C.Tree) → 2 ^ 24 ≤ s →
      nodes lined own (bind_cells g p s xs e) ≡ nodes lined own e
  bind_nodes p s [] e le = refl
  bind_nodes p s (x ∷ xs) e le =
      let z = cells_plain p (x ∷ xs) in
      ap (λ b. nodes_form lined own b (C.Let (x ∷ xs) (new_cells g p (x ∷ xs)) e)) (unlined s le)
      ∙ ap (λ n. n + nodes lined own e) z ∙ zero-add (nodes lined own e)

  read_nodes : (p : Place) (s x : ℕ) (b : Bool) → nodes_form lined own (lined s) (read_variable g p s x b) ≡ 1
  read_nodes p s x true = refl
  read_nodes p s x false = refl

  mutual
    same_nodes : (e : Tree) → Each Fit e → nodes lined own (eliminate g e) ≡ core.nodes e
    same_nodes (Node p s f) h = form_nodes p s f h.0 h.1

    form_nodes : (p : Place) (s : ℕ) (f : Form) → Fit s f → EachForm Fit f →
        nodes_form lined own (lined s) (eliminate_form g p s f) ≡ 1 + core.nodes_form f
    form_nodes p s (Quote c) t h = refl
    form_nodes p s (Local x) t h = read_nodes p s x (g x)
    form_nodes p s (Global n) t h = refl
    form_nodes p s (Lambda l) t h = refl
    form_nodes p s (If a b c) t h =
        let i = same_nodes a h.0 in let j = same_nodes b h.1 in let k = same_nodes c h.2 in omega arith
    form_nodes p s (SetLocal x e) t h = let i = same_nodes e h in omega arith
    form_nodes p s (SetGlobal n e) t h = let i = same_nodes e h in omega arith
    form_nodes p s (DefGlobal n e) t h = let i = same_nodes e h in omega arith
    form_nodes p s (Let xs es e) t h =
        let i = all_nodes es h.0 in let j = same_nodes e h.1 in
        let k = bind_nodes p (let_site s) (celled g xs) (eliminate g e) (omega arith) in
        ap (λ b. nodes_form lined own b (eliminate_form g p s (Let xs es e))) (t.0 refl) ∙ omega arith
    form_nodes p s (Letrec xs ls e) t h = let i = same_nodes e h in omega arith
    form_nodes p s (Seq es) t h = let i = all_nodes es h in omega arith
    form_nodes p s (Call f es) t h = let i = same_nodes f h.0 in let j = all_nodes es h.1 in omega arith
    form_nodes p s (PrimUse q es) t h = let i = all_nodes es h in omega arith
    form_nodes p s (Apply f l) t h = let i = same_nodes f h.0 in let j = same_nodes l h.1 in omega arith

    all_nodes : (es : Trees) → EachAll Fit es → nodes_all lined own (eliminate_all g es) ≡ core.nodes_all es
    all_nodes none h = refl
    all_nodes (more e es) h = let i = same_nodes e h.0 in let j = all_nodes es h.1 in omega arith

  module _ (J I : ℕ → ℕ → List ℕ) (same : (l n : ℕ) → J l n ≡ I l n) where
    cells_widths : (p : Place) (n : ℕ) (xs : List ℕ) → widths_all lined own J n (new_cells g p xs) ≡ []
    cells_widths p n [] = refl
    cells_widths p n (x ∷ xs) = cells_widths p n xs

    bind_widths : (p : Place) (s n : ℕ) (xs : List ℕ) (e : C.Tree) →
        widths lined own J n (bind_cells g p s xs e) ≡ widths lined own J n e
    bind_widths p s n [] e = refl
    bind_widths p s n (x ∷ xs) e =
        ap (λ ys. ys ++ widths lined own J (n + plain_count (new_cells g p (x ∷ xs))) e) (cells_widths p n (x ∷ xs))
        ∙ ap (λ m. widths lined own J m e) (ap (λ k. n + k) (cells_none p (x ∷ xs)) ∙ add-zero n)

    group_widths : (n : ℕ) (ls : List ℕ) → widths_of_lambdas J n ls ≡ widths_of_lambdas I n ls
    group_widths n [] = refl
    group_widths n (l ∷ ls) = append-same (J l n) _ (I l n) _ (same l n) (group_widths n ls)

    read_widths : (p : Place) (s n x : ℕ) (b : Bool) → widths_form lined own J n (read_variable g p s x b) ≡ []
    read_widths p s n x true = refl
    read_widths p s n x false = refl

    mutual
      same_widths : (e : Tree) (n : ℕ) → Each Fit e → widths lined own J n (eliminate g e) ≡ core.widths I n e
      same_widths (Node p s f) n h = form_same p s f n h.0 h.1

      form_same : (p : Place) (s : ℕ) (f : Form) (n : ℕ) → Fit s f → EachForm Fit f →
          widths_form lined own J n (eliminate_form g p s f) ≡ core.widths_form I n f
      form_same p s (Quote c) n t h = refl
      form_same p s (Local x) n t h = read_widths p s n x (g x)
      form_same p s (Global m) n t h = refl
      form_same p s (Lambda l) n t h = same l n
      form_same p s (If a b c) n t h =
          append-same (widths lined own J n (eliminate g a)) _ (core.widths I n a) _ (same_widths a n h.0)
          (append-same (widths lined own J n (eliminate g b)) _ (core.widths I n b) _ (same_widths b n h.1) (same_widths c n h.2))
      form_same p s (SetLocal x e) n t h = same_widths e n h
      form_same p s (SetGlobal m e) n t h = same_widths e n h
      form_same p s (DefGlobal m e) n t h = same_widths e n h
      form_same p s (Let xs es e) n t h =
          let k : n + plain_count (eliminate_all g es) ≡ n + length xs = ap (λ m. n + m) (all_plain g es ∙ sym t.1) in
          append-same (widths_all lined own J n (eliminate_all g es)) _ (core.widths_all I n es) _ (all_same es n h.0)
          (bind_widths p (let_site s) (n + plain_count (eliminate_all g es)) (celled g xs) (eliminate g e)
          ∙ ap (λ m. widths lined own J m (eliminate g e)) k ∙ same_widths e (n + length xs) h.1)
      form_same p s (Letrec xs ls e) n t h =
          append-same (widths_of_lambdas J (n + length xs) ls) _ (widths_of_lambdas I (n + length xs) ls) _
          (group_widths (n + length xs) ls) (same_widths e (n + length xs) h)
      form_same p s (Seq es) n t h = all_same es n h
      form_same p s (Call f es) n t h =
          append-same (widths lined own J n (eliminate g f)) _ (core.widths I n f) _ (same_widths f n h.0) (all_same es n h.1)
      form_same p s (PrimUse q es) n t h = all_same es n h
      form_same p s (Apply f l) n t h =
          append-same (widths lined own J n (eliminate g f)) _ (core.widths I n f) _ (same_widths f n h.0) (same_widths l n h.1)

      all_same : (es : Trees) (n : ℕ) → EachAll Fit es → widths_all lined own J n (eliminate_all g es) ≡ core.widths_all I n es
      all_same none n h = refl
      all_same (more e es) n h =
          append-same (widths lined own J n (eliminate g e)) _ (core.widths I n e) _ (same_widths e n h.0) (all_same es n h.1)

    one_lambda : (m : ℕ) (l : LambdaTree) (n : ℕ) → Each Fit l.body →
        lambda_widths lined own J (eliminate_lambda g m l) n ≡ core.lambda_widths I l n
    one_lambda m l n h =
        let q : n + length (F.parameters (eliminate_lambda g m l)) ≡ n + length (parameters l) =
        ap (λ k. n + k) (ap length (renamed-parameters g m l) ∙ renamed_length g (parameters l)) in
        let e : nodes lined own (eliminate_lambda g m l).body ≡ core.nodes l.body =
        bind_nodes l.place (body_site m) (celled g (parameters l)) (eliminate g l.body) (omega arith) ∙ same_nodes l.body h in
        ap (λ k. (k + nodes lined own (eliminate_lambda g m l).body) ∷ widths lined own J k (eliminate_lambda g m l).body) q
        ∙ ap (λ k. (n + length (parameters l) + k) ∷ widths lined own J (n + length (parameters l)) (eliminate_lambda g m l).body) e
        ∙ ap (λ ys. (n + length (parameters l) + core.nodes l.body) ∷ ys)
        (bind_widths l.place (body_site m) (n + length (parameters l)) (celled g (parameters l)) (eliminate g l.body) ∙ same_widths l.body _ h)

    forms_same : (es : Trees) → EachAll Fit es → form_widths lined own J (eliminate_all g es) ≡ core.form_widths I es
    forms_same none h = refl
    forms_same (more e es) h =
        ap (λ k. k ∷ (widths lined own J 0 (eliminate g e) ++ form_widths lined own J (eliminate_all g es))) (same_nodes e h.0)
        ∙ ap (λ ys. core.nodes e ∷ ys) (append-same (widths lined own J 0 (eliminate g e)) _ (core.widths I 0 e) _ (same_widths e 0 h.0) (forms_same es h.1))

  lambdas_same : (ls : List LambdaTree) (first l n : ℕ) → Every (λ (m : LambdaTree). Each Fit m.body) ls →
      lambdas_widths lined own (eliminate_lambdas g first ls) first l n ≡ core.lambdas_widths ls first l n
  lambdas_same [] first l n h = refl
  lambdas_same (m ∷ ls) first l n h = by_test (first == l) (λ k i. lambdas_same ls (suc first) k i h.1)
    where
      by_test : (b : Bool) →
          ((k i : ℕ) → lambdas_widths lined own (eliminate_lambdas g (suc first) ls) (suc first) k i ≡ core.lambdas_widths ls (suc first) k i) →
          cond b (lambda_widths lined own (lambdas_widths lined own (eliminate_lambdas g (suc first) ls) (suc first)) (eliminate_lambda g first m) n)
          (lambdas_widths lined own (eliminate_lambdas g (suc first) ls) (suc first) l n)
          ≡ cond b (core.lambda_widths (core.lambdas_widths ls (suc first)) m n) (core.lambdas_widths ls (suc first) l n)
      by_test true rest = one_lambda (lambdas_widths lined own (eliminate_lambdas g (suc first) ls) (suc first)) (core.lambdas_widths ls (suc first))
          rest first m n h.0
      by_test false rest = rest l n

module _ (p : ProgramTree) (r : KeepsRules p) where
  abbrev pub lined_at : ℕ → Bool
  lined_at s = is_lined (T.line_of (order_of p) s)

  abbrev pub enough : ℕ → ℕ
  enough w = times w (map (λ (l : Line). l.site) (order_of p))

  fit : (s : ℕ) (f : Form) → NodeKeeps p s f × HasOne enough s f → ((has_order f ≡ true → lined_at s ≡ true) × IsShaped f)
  fit s f h = (λ o. line-there (order_of p) s (times-in s _ (h.1 o)), h.0.shaped)

  abbrev own_of : ℕ → ℕ
  own_of l = formals_of (slice_get (cells_of p).lambdas l)

  unlined_at : (s : ℕ) → 2 ^ 24 ≤ s → lined_at s ≡ false
  unlined_at s le = ap is_lined ((ready-from p r (all-named p r)).lines_small s le)

  abbrev pub FitHere : ℕ → Form → Type 0
  FitHere s f = (has_order f ≡ true → lined_at s ≡ true) × IsShaped f

  pub forms_fit : EachAll FitHere p.forms
  forms_fit = all-then (λ s f. NodeKeeps p s f × HasOne enough s f) FitHere fit p.forms
      (Kept.both_all (NodeKeeps p) (HasOne enough) p.forms r.forms
      (all-lined enough p.forms (λ w. let h = lines-enough p w r in omega arith)))

  pub bodies_fit : (ls : List LambdaTree) → Every (LambdaKeeps p) ls → Every (λ (l : LambdaTree). Each (HasOne enough) l.body) ls →
      Every (λ (l : LambdaTree). Each FitHere l.body) ls
  bodies_fit [] h k = tt
  bodies_fit (l ∷ ls) h k = (
    each-then (λ s f. NodeKeeps p s f × HasOne enough s f) FitHere fit l.body
        (Kept.both (NodeKeeps p) (HasOne enough) l.body h.0.nodes k.0),
    bodies_fit ls h.1 k.1,
  )

  pub same-widths : all_widths (cells_of p) (order_of p) ≡ core.all_widths p
  same-widths =
      append-nil (form_widths lined_at own_of (lambdas_widths lined_at own_of (cells_of p).lambdas 0) (cells_of p).forms)
      ∙ forms_same (is_assigned p) lined_at own_of unlined_at (lambdas_widths lined_at own_of (cells_of p).lambdas 0) (core.lambdas_widths p.lambdas 0)
      (λ l n. lambdas_same (is_assigned p) lined_at own_of unlined_at p.lambdas 0 l n
      (bodies_fit p.lambdas r.lambdas (bodies-lined enough p.lambdas (λ w. let h = lines-enough p w r in omega arith))))
      p.forms forms_fit
