-- The steps of each form, from those of its parts.
use Rattle.std.proofs.Common.{◌≡◌, refl, sym, ap, ◌∙◌, subst, ℕ, suc, ◌+◌, ◌<◌, arith, List, [], ◌∷◌, ◌++◌, length, map, drop, get_or, Option, Some, None, Result, Ok, Err, IfOk, append-nil}
use Rattle.std.proofs.Math.Path.{fun_ext}
use Rattle.std.proofs.lemmas.Option.{same_Some}
use Rattle.std.proofs.Math.Seq.{drop-cons}
use Rattle.tb_prim.specs.declared.place.Place.{Place}
use Rattle.tb_ir.specs.declared.anf.Atom.{Atom}
use Rattle.tb_ir.specs.declared.cells.CellExpr.{CellExpr}
use Rattle.tb_ir.specs.AnfPlain.{view_atom, view_op}
use Rattle.tb_ir.specs.AnfTree as A
use Rattle.tb_ir.specs.AnfTree.{Block}
use Rattle.tb_ir.specs.Plain.{trees, view}
use Rattle.tb_ir.specs.Tree.{Tree, Node, Form, Quote, Local, CellSet, Let, Seq, Call, Direct, PrimUse, Apply, Trees, none, more, count}
use Rattle.tb_ir.specs.TreeMachine.{line_or_written, direct_line}
use Rattle.tb_prim.specs.declared.primitive.Primitive.{Primitive}
use Rattle.tb_anf.specs.NormalForm.{After, Then, put, around, size, size_all, atom, atoms, value_name, bound, bound_operands, named_operands, block_of, block_of_form, block_of_sequence}
use Rattle.tb_anf.specs.calls.Steps.{wrap, wrap_of, simple_of, Arranges, Evaluates, FormEvaluates, Binds, BindsAll, BindsNamed, StandsInFront, OperandsLeft, NamedLeft, FrontLeft, front}
use Rattle.tb_anf.specs.declared.steps.Step.{Step}
use Rattle.tb_anf.specs.declared.steps.Step.TheVariants as step
use Rattle.tb_anf.specs.declared.steps.Evaluation.{Evaluation}
use Rattle.tb_anf.specs.declared.steps.Operand.{Operand}
use Rattle.tb_anf.specs.declared.steps.Operands.{Operands}
use Rattle.tb_anf.proofs.code.Steps.{wrap-last, wrap_group, wrap_bind}

-- the expressions that are left begin with the next one
next-left : (es : List CellExpr) (i : ℕ) (d : CellExpr) → i < length es →
    trees (map view (drop i es)) ≡ more (view (get_or es i d)) (trees (map view (drop (i + 1) es)))
next-left es i d lt =
    let one : suc i ≡ i + 1 = omega arith in
    ap (λ ds. trees (map view ds)) (drop-cons es i d lt) ∙ ap (λ n. more (view (get_or es i d)) (trees (map view (drop n es)))) one

pub next-item : (es : List CellExpr) (i : ℕ) (e : CellExpr) → i < length es → e ≡ get_or es i e →
    trees (map view (drop i es)) ≡ more (view e) (trees (map view (drop (i + 1) es)))
next-item es i e lt q = next-left es i e lt ∙ ap (λ d. more (view d) (trees (map view (drop (i + 1) es)))) (sym q)

pub next-name : (xs : List ℕ) (i : ℕ) → i < length xs → drop i xs ≡ get_or xs i 0 ∷ drop (i + 1) xs
next-name xs i lt = let one : suc i ≡ i + 1 = omega arith in drop-cons xs i 0 lt ∙ ap (λ n. get_or xs i 0 ∷ drop n xs) one

pub count-trees : (es : List CellExpr) → count (trees (map view es)) ≡ length es
count-trees [] = refl
count-trees (e ∷ es) = let h = count-trees es in omega arith

more_done : {X Y : Type 0} (f : X → Y) (xs ys : List X) (x : X) (y : Y) (zs t : List Y) → ys ≡ xs ++ x ∷ [] → f x ≡ y →
    map f xs ++ y ∷ zs ≡ t → map f ys ++ zs ≡ t
more_done f xs ys x y zs t e q h =
    ap (λ us. map f us ++ zs) e ∙ last f xs x zs ∙ ap (λ v. map f xs ++ v ∷ zs) q ∙ h
  where
    last : {X Y : Type 0} (f : X → Y) (xs : List X) (x : X) (zs : List Y) → map f (xs ++ x ∷ []) ++ zs ≡ map f xs ++ f x ∷ zs
    last f [] x zs = refl
    last f (u ∷ us) x zs = ap (λ vs. f u ∷ vs) (last f us x zs)

-- what holds of an answer gives what holds of it otherwise
pub if-ok : {X E : Type 0} (P Q : X → Type 0) (r : Result X E) → ((x : X) → P x → Q x) → IfOk r P → IfOk r Q
if-ok P Q (Ok x) h k = h x k
if-ok P Q (Err e) h k = tt

module _ (line : ℕ → Option (List ℕ)) where
  pub operands-step : (from n m : ℕ) (all es ds : Trees) (e : Tree) (groups later : List (List Step)) (made ours : List Atom) (o : Operand) →
      es ≡ more e ds → Binds line n e o → m ≡ n + size e → later ≡ groups ++ o.steps.items ∷ [] → ours ≡ made ++ o.atom ∷ [] →
      OperandsLeft line from all n es groups made → OperandsLeft line from all m ds later ours
  operands-step from n m all es ds e groups later made ours o s b q g a h =
      let t = subst (λ fs. OperandsLeft line from all n fs groups made) s h in
      let number = t.number in
      record {
        number = omega arith;
        atoms_are = ap (λ k. map view_atom ours ++ atoms k ds) q ∙ more_done view_atom made ours o.atom (atom n e) (atoms (n + size e) ds) _ a b.atom_is t.atoms_are;
        are = ap (λ k. map wrap later ++ bound_operands line k ds) q
            ∙ more_done wrap groups later o.steps.items (λ c. bound line n e c) (bound_operands line (n + size e) ds) _ g (fun_ext (λ c. sym (b.is c))) t.are;
      }

  pub operands-done : (from n : ℕ) (all es : Trees) (o : Operands) → es ≡ none → OperandsLeft line from all n es o.groups.items o.atoms.items →
      (n ≡ from + size_all all) × BindsAll line from all o
  operands-done from n all es o s h =
      let t = subst (λ fs. OperandsLeft line from all n fs o.groups.items o.atoms.items) s h in
      let number = t.number in
      (omega arith, record { atoms_are = sym (append-nil (map view_atom o.atoms.items)) ∙ t.atoms_are; are = sym (append-nil (map wrap o.groups.items)) ∙ t.are })

  -- the steps of a value, and its variable bound behind them
  bound_to : (n x : ℕ) (e : Tree) (r : Evaluation) (ss : List Step) → Evaluates line n e r → ss ≡ r.steps.items ++ step.Bind x r.last ∷ [] →
      (b : Block) → wrap ss b ≡ block_of line n e (Then x b)
  bound_to n x e r ss h q b =
      ap (λ (us : List Step). wrap us b) q ∙ wrap-last r.steps.items (step.Bind x r.last) b ∙ ap (wrap r.steps.items) (wrap_bind x r.last b) ∙ sym (h.is (Then x b))

  pub named-step : (from n m : ℕ) (names xs ys : List ℕ) (x : ℕ) (all es ds : Trees) (e : Tree) (groups later : List (List Step)) (ss ts : List Step) (r : Evaluation) →
      es ≡ more e ds → xs ≡ x ∷ ys → Evaluates line n e r → m ≡ n + size e → ss ≡ ts → ts ≡ r.steps.items ++ step.Bind x r.last ∷ [] → later ≡ groups ++ ss ∷ [] →
      NamedLeft line from names all n xs es groups → NamedLeft line from names all m ys ds later
  named-step from n m names xs ys x all es ds e groups later ss ts r s v b q y w g h =
      let t = subst (λ zs. NamedLeft line from names all n zs (more e ds) groups) v (subst (λ fs. NamedLeft line from names all n xs fs groups) s h) in
      let number = t.number in
      record {
        number = omega arith;
        are = ap (λ k. map wrap later ++ named_operands line k ys ds) q
            ∙ more_done wrap groups later ss (λ c. block_of line n e (Then x c)) (named_operands line (n + size e) ys ds) _ g (fun_ext (bound_to n x e r ss b (y ∙ w))) t.are;
      }

  none_named : (n : ℕ) (xs : List ℕ) → named_operands line n xs none ≡ []
  none_named n [] = refl
  none_named n (x ∷ xs) = refl

  pub named-done : (from n : ℕ) (names xs : List ℕ) (all es : Trees) (groups : List (List Step)) → es ≡ none → NamedLeft line from names all n xs es groups →
      (n ≡ from + size_all all) × BindsNamed line from names all groups
  named-done from n names xs all es groups s h =
      let t = subst (λ fs. NamedLeft line from names all n xs fs groups) s h in
      let number = t.number in
      (omega arith, record { are = sym (append-nil (map wrap groups)) ∙ ap (λ fs. map wrap groups ++ fs) (sym (none_named n xs)) ∙ t.are })

  pub front-step : (from n m : ℕ) (all es ds : Trees) (e : Tree) (x : ℕ) (steps mid later : List Step) (r : Evaluation) →
      es ≡ more e ds → x ≡ value_name n → Evaluates line n e r → m ≡ n + size e →
      mid ≡ steps ++ step.Group r.steps.items ∷ [] → later ≡ mid ++ step.Bind x r.last ∷ [] →
      FrontLeft line from all n es steps → FrontLeft line from all m ds later
  front-step from n m all es ds e x steps mid later r s v b q g w h =
      let t = subst (λ fs. FrontLeft line from all n fs steps) s h in
      let number = t.number in
      record {
        number = omega arith;
        is = λ c. let d = front line m ds c in
            ap (λ (us : List Step). wrap us d) w ∙ wrap-last mid (step.Bind x r.last) d
            ∙ ap (λ (us : List Step). wrap us (wrap_of (step.Bind x r.last) d)) g
            ∙ wrap-last steps (step.Group r.steps.items) _
            ∙ ap (wrap steps) (wrap_group r.steps.items _ ∙ ap (wrap r.steps.items) (wrap_bind x r.last d) ∙ sym (b.is (Then x d))
            ∙ ap (λ y. block_of line n e (Then y d)) v ∙ ap (λ k. block_of line n e (Then (value_name n) (front line k ds c))) q)
            ∙ t.is c;
      }

  pub front-done : (from n : ℕ) (all es : Trees) (steps : List Step) → es ≡ none → FrontLeft line from all n es steps →
      (n ≡ from + size_all all) × StandsInFront line from all steps
  front-done from n all es steps s h =
      let t = subst (λ fs. FrontLeft line from all n fs steps) s h in
      let number = t.number in
      (omega arith, record { is = λ b. sym (t.is b) })

  pub of-node : (n m : ℕ) (p : Place) (s : ℕ) (f : Form) (e : Tree) (r : Evaluation) → e ≡ Node p s f → m ≡ suc n → FormEvaluates line m p s f r →
      Evaluates line n e r
  of-node n m p s f e r t q h = record { is = λ k. ap (λ d. block_of line n d k) t ∙ h.is n q k }

  -- an operand that is simple, and one that is bound
  simple_atom : (n : ℕ) (p : Place) (s : ℕ) (f : Form) (a : A.Operand) → simple_of f ≡ Some a →
      (a ≡ atom n (Node p s f)) × ((b : Block) → bound line n (Node p s f) b ≡ b)
  simple_atom n p s (Quote c) a e = (sym (same_Some _ a e), λ b. refl)
  simple_atom n p s (Local x) a e = (sym (same_Some _ a e), λ b. refl)
  simple_atom n p s _ a e = cc

  bound_atom : (n : ℕ) (p : Place) (s : ℕ) (f : Form) → simple_of f ≡ None →
      (A.Var (value_name n) ≡ atom n (Node p s f)) × ((b : Block) → bound line n (Node p s f) b ≡ block_of line n (Node p s f) (Then (value_name n) b))
  bound_atom n p s (Quote c) e = cc
  bound_atom n p s (Local x) e = cc
  bound_atom n p s _ e = (refl, λ b. refl)

  pub simple-binds : (n : ℕ) (p : Place) (s : ℕ) (f : Form) (e : Tree) (o : Operand) → e ≡ Node p s f → simple_of f ≡ Some (view_atom o.atom) →
      o.steps.items ≡ [] → Binds line n e o
  simple-binds n p s f e o t q z =
      let h = simple_atom n p s f (view_atom o.atom) q in
      subst (λ d. Binds line n d o) (sym t) (record { atom_is = h.0; is = λ b. h.1 b ∙ ap (λ (ss : List Step). wrap ss b) (sym z) })

  pub value-binds : (n x : ℕ) (p : Place) (s : ℕ) (f : Form) (e : Tree) (r : Evaluation) (o : Operand) → e ≡ Node p s f → simple_of f ≡ None →
      x ≡ value_name n → Evaluates line n e r → view_atom o.atom ≡ A.Var x → o.steps.items ≡ r.steps.items ++ step.Bind x r.last ∷ [] → Binds line n e o
  value-binds n x p s f e r o t q v h a w =
      let k = bound_atom n p s f q in
      record {
        atom_is = a ∙ ap (λ y. A.Var y) v ∙ k.0 ∙ ap (atom n) (sym t);
        is = λ b. ap (λ d. bound line n d b) t ∙ k.1 b ∙ ap (λ d. block_of line n d (Then (value_name n) b)) (sym t)
            ∙ ap (λ y. block_of line n e (Then y b)) (sym v) ∙ sym (bound_to n x e r o.steps.items h w b);
      }

  pub bound-count : (n : ℕ) (es : Trees) (groups : List (List Step)) → map wrap groups ≡ bound_operands line n es → length groups ≡ count es
  bound-count n es groups h = sym (map_long groups) ∙ ap length h ∙ long n es
    where
      map_long : (gs : List (List Step)) → length (map wrap gs) ≡ length gs
      map_long [] = refl
      map_long (g ∷ gs) = ap suc (map_long gs)

      long : (n : ℕ) (es : Trees) → length (bound_operands line n es) ≡ count es
      long n none = refl
      long n (more e es) = let h = long (n + size e) es in omega arith

  named_count : (n : ℕ) (xs : List ℕ) (es : Trees) (groups : List (List Step)) → length xs ≡ count es → map wrap groups ≡ named_operands line n xs es →
      length groups ≡ count es
  named_count n xs es groups q h = sym (map_long groups) ∙ ap length h ∙ long n xs es q
    where
      map_long : (gs : List (List Step)) → length (map wrap gs) ≡ length gs
      map_long [] = refl
      map_long (g ∷ gs) = ap suc (map_long gs)

      long : (n : ℕ) (xs : List ℕ) (es : Trees) → length xs ≡ count es → length (named_operands line n xs es) ≡ count es
      long n [] none q = refl
      long n (x ∷ xs) none q = absurd (omega arith)
      long n [] (more e es) q = absurd (omega arith)
      long n (x ∷ xs) (more e es) q = let h = long (n + size e) xs es (omega arith) in omega arith

  module _ (m : ℕ) (p : Place) (s : ℕ) where
    -- a node whose steps are those of its operands in an order
    arranged_form : (f : Form) (r : Evaluation) (fs : List (Block → Block)) (gs : List (List Step)) (is : List ℕ) (op : A.Op) → Arranges gs is r.steps.items →
        map wrap gs ≡ fs → view_op r.last ≡ op → ((n : ℕ) → m ≡ suc n → (k : After) → block_of_form line n p s f k ≡ around fs is (put k op)) →
        FormEvaluates line m p s f r
    arranged_form f r fs gs is op a g o h = record {
      is = λ n q k. h n q k ∙ ap (λ hs. around hs is (put k op)) (sym g) ∙ sym (a.is (put k op)) ∙ ap (λ v. wrap r.steps.items (put k v)) (sym o);
    }

    pub form-is : (f g : Form) (r : Evaluation) → g ≡ f → FormEvaluates line m p s f r → FormEvaluates line m p s g r
    form-is f g r e h = subst (λ k. FormEvaluates line m p s k r) (sym e) h

    pub call-evaluates : (f : Tree) (es : Trees) (m' : ℕ) (o : Operand) (os : Operands) (ds : List Atom) (gs : List (List Step)) (r : Evaluation) → ds ≡ os.atoms.items →
        Binds line m f o → BindsAll line m' es os → m' ≡ m + size f → gs ≡ o.steps.items ∷ os.groups.items →
        Arranges gs (line_or_written (line s) (length gs)) r.steps.items → view_op r.last ≡ A.Call (view_atom o.atom) (map view_atom ds) p →
        FormEvaluates line m p s (Call f es) r
    call-evaluates f es m' o os ds gs r z b bs q g a v =
        let all = subst (λ k. BindsAll line k es os) q bs in
        let first = ap length g in let rest = bound-count (m + size f) es os.groups.items all.are in
        let long : length gs ≡ 1 + count es = omega arith in
        arranged_form (Call f es) r ((λ d. bound line m f d) ∷ bound_operands line (m + size f) es) gs (line_or_written (line s) (1 + count es))
        (A.Call (atom m f) (atoms (m + size f) es) p)
        (subst (λ n. Arranges gs (line_or_written (line s) n) r.steps.items) long a)
        (ap (map wrap) g ∙ ap (λ h. h ∷ map wrap os.groups.items) (fun_ext (λ d. sym (b.is d))) ∙ ap (λ hs. (λ d. bound line m f d) ∷ hs) all.are)
        (v ∙ ap (λ xs. A.Call (view_atom o.atom) (map view_atom xs) p) z ∙ ap (λ x. A.Call x (map view_atom os.atoms.items) p) b.atom_is ∙ ap (λ xs. A.Call (atom m f) xs p) all.atoms_are)
        (λ n e k. ap (λ j. around ((λ d. bound line j f d) ∷ bound_operands line (j + size f) es) (line_or_written (line s) (1 + count es))
        (put k (A.Call (atom j f) (atoms (j + size f) es) p))) (sym e))

    pub apply-evaluates : (f l : Tree) (m' : ℕ) (o u : Operand) (gs : List (List Step)) (r : Evaluation) →
        Binds line m f o → Binds line m' l u → m' ≡ m + size f → gs ≡ o.steps.items ∷ u.steps.items ∷ [] →
        Arranges gs (line_or_written (line s) (length gs)) r.steps.items → view_op r.last ≡ A.Apply (view_atom o.atom) (view_atom u.atom) p →
        FormEvaluates line m p s (Apply f l) r
    apply-evaluates f l m' o u gs r b bs q g a v =
        let at = subst (λ k. Binds line k l u) q bs in
        arranged_form (Apply f l) r ((λ d. bound line m f d) ∷ (λ d. bound line (m + size f) l d) ∷ []) gs (line_or_written (line s) 2)
        (A.Apply (atom m f) (atom (m + size f) l) p)
        (subst (λ n. Arranges gs (line_or_written (line s) n) r.steps.items) (ap length g) a)
        (ap (map wrap) g ∙ ap (λ h. h ∷ wrap u.steps.items ∷ []) (fun_ext (λ d. sym (b.is d))) ∙ ap (λ h. (λ d. bound line m f d) ∷ h ∷ []) (fun_ext (λ d. sym (at.is d))))
        (v ∙ ap (λ x. A.Apply x (view_atom u.atom) p) b.atom_is ∙ ap (λ x. A.Apply (atom m f) x p) at.atom_is)
        (λ n e k. ap (λ j. around ((λ d. bound line j f d) ∷ (λ d. bound line (j + size f) l d) ∷ []) (line_or_written (line s) 2)
        (put k (A.Apply (atom j f) (atom (j + size f) l) p))) (sym e))

    pub prim-evaluates : (a : Primitive) (es : Trees) (os : Operands) (ds : List Atom) (r : Evaluation) → ds ≡ os.atoms.items → BindsAll line m es os →
        Arranges os.groups.items (line_or_written (line s) (length os.groups.items)) r.steps.items →
        view_op r.last ≡ A.PrimUse a (map view_atom ds) p → FormEvaluates line m p s (PrimUse a es) r
    prim-evaluates a es os ds r z b h v =
        arranged_form (PrimUse a es) r (bound_operands line m es) os.groups.items (line_or_written (line s) (count es)) (A.PrimUse a (atoms m es) p)
        (subst (λ n. Arranges os.groups.items (line_or_written (line s) n) r.steps.items) (bound-count m es os.groups.items b.are) h)
        b.are (v ∙ ap (λ xs. A.PrimUse a (map view_atom xs) p) z ∙ ap (λ xs. A.PrimUse a xs p) b.atoms_are)
        (λ n e k. ap (λ j. around (bound_operands line j es) (line_or_written (line s) (count es)) (put k (A.PrimUse a (atoms j es) p))) (sym e))

    pub direct-evaluates : (l : ℕ) (es : Trees) (os : Operands) (ds : List Atom) (r : Evaluation) → ds ≡ os.atoms.items → BindsAll line m es os →
        Arranges os.groups.items (direct_line (line s) (length os.groups.items)) r.steps.items →
        view_op r.last ≡ A.Direct l (map view_atom ds) → FormEvaluates line m p s (Direct l es) r
    direct-evaluates l es os ds r z b h v =
        arranged_form (Direct l es) r (bound_operands line m es) os.groups.items (direct_line (line s) (count es)) (A.Direct l (atoms m es))
        (subst (λ n. Arranges os.groups.items (direct_line (line s) n) r.steps.items) (bound-count m es os.groups.items b.are) h)
        b.are (v ∙ ap (λ xs. A.Direct l (map view_atom xs)) z ∙ ap (λ xs. A.Direct l xs) b.atoms_are)
        (λ n e k. ap (λ j. around (bound_operands line j es) (direct_line (line s) (count es)) (put k (A.Direct l (atoms j es)))) (sym e))

    -- steps with those of a part behind them
    followed_by : (ss ts us : List Step) (b : Block) → us ≡ ss ++ step.Group ts ∷ [] → wrap us b ≡ wrap ss (wrap ts b)
    followed_by ss ts us b e = ap (λ (vs : List Step). wrap vs b) e ∙ wrap-last ss (step.Group ts) b ∙ ap (wrap ss) (wrap_group ts b)

    pub cell-evaluates : (c e : Tree) (m' : ℕ) (o u : Operand) (r : Evaluation) → Binds line m c o → Binds line m' e u → m' ≡ m + size c →
        r.steps.items ≡ o.steps.items ++ step.Group u.steps.items ∷ [] → view_op r.last ≡ A.CellSet (view_atom o.atom) (view_atom u.atom) →
        FormEvaluates line m p s (CellSet c e) r
    cell-evaluates c e m' o u r b bs q w v =
        let at = subst (λ k. Binds line k e u) q bs in
        record {
          is = λ n h k.
              let op : view_op r.last ≡ A.CellSet (atom m c) (atom (m + size c) e) =
              v ∙ ap (λ x. A.CellSet x (view_atom u.atom)) b.atom_is ∙ ap (λ x. A.CellSet (atom m c) x) at.atom_is in
              ap (λ j. bound line j c (bound line (j + size c) e (put k (A.CellSet (atom j c) (atom (j + size c) e))))) (sym h)
              ∙ b.is _ ∙ ap (wrap o.steps.items) (at.is _) ∙ sym (followed_by o.steps.items u.steps.items r.steps.items _ w)
              ∙ ap (λ x. wrap r.steps.items (put k x)) (sym op);
        }

    pub let-evaluates : (xs : List ℕ) (es : Trees) (e : Tree) (m' : ℕ) (gs : List (List Step)) (ss : List Step) (d r : Evaluation) → length xs ≡ count es →
        BindsNamed line m xs es gs → Evaluates line m' e d → m' ≡ m + size_all es → Arranges gs (line_or_written (line s) (length gs)) ss →
        r.steps.items ≡ ss ++ step.Group d.steps.items ∷ [] → view_op r.last ≡ view_op d.last → FormEvaluates line m p s (Let xs es e) r
    let-evaluates xs es e m' gs ss d r long b h q a w v = record {
      is = λ n z k.
          let order = line_or_written (line s) (count es) in
          let arranges = subst (λ c. Arranges gs (line_or_written (line s) c) ss) (named_count m xs es gs long b.are) a in
          ap (λ j. around (named_operands line j xs es) order (block_of line (j + size_all es) e k)) (sym z)
          ∙ ap (λ j. around (named_operands line m xs es) order (block_of line j e k)) (sym q)
          ∙ ap (λ fs. around fs order (block_of line m' e k)) (sym b.are)
          ∙ sym (arranges.is (block_of line m' e k))
          ∙ ap (wrap ss) (h.is k)
          ∙ sym (followed_by ss d.steps.items r.steps.items _ w)
          ∙ ap (λ x. wrap r.steps.items (put k x)) (sym v);
    }

    -- the expressions of a sequence, the last of them apart
    sequence_front : (es : List CellExpr) (e : CellExpr) (j : ℕ) (k : After) →
        block_of_sequence line j (trees (map view (es ++ e ∷ []))) k ≡ front line j (trees (map view es)) (block_of line (j + size_all (trees (map view es))) (view e) k)
    sequence_front [] e j k = ap (λ i. block_of line i (view e) k) (omega arith)
    sequence_front (d ∷ []) e j k = ap (λ i. block_of line j (view d) (Then (value_name j) (block_of line i (view e) k))) (omega arith)
    sequence_front (d ∷ c ∷ es) e j k =
        ap (λ b. block_of line j (view d) (Then (value_name j) b)) (sequence_front (c ∷ es) e (j + size (view d)) k
        ∙ ap (λ i. front line (j + size (view d)) (trees (map view (c ∷ es))) (block_of line i (view e) k)) (omega arith))

    pub sequence-evaluates : (all es : List CellExpr) (e : CellExpr) (m' : ℕ) (ss : List Step) (d r : Evaluation) → all ≡ es ++ e ∷ [] →
        StandsInFront line m (trees (map view es)) ss → Evaluates line m' (view e) d → m' ≡ m + size_all (trees (map view es)) →
        r.steps.items ≡ ss ++ step.Group d.steps.items ∷ [] → view_op r.last ≡ view_op d.last → FormEvaluates line m p s (Seq (trees (map view all))) r
    sequence-evaluates all es e m' ss d r a b h q w v = record {
      is = λ n z k.
          ap (λ j. block_of_sequence line j (trees (map view all)) k) (sym z)
          ∙ ap (λ ds. block_of_sequence line m (trees (map view ds)) k) a
          ∙ sequence_front es e m k
          ∙ ap (λ j. front line m (trees (map view es)) (block_of line j (view e) k)) (sym q)
          ∙ b.is _ ∙ ap (wrap ss) (h.is k)
          ∙ sym (followed_by ss d.steps.items r.steps.items _ w)
          ∙ ap (λ x. wrap r.steps.items (put k x)) (sym v);
    }

pub sequence-size : (es : List CellExpr) (e : CellExpr) → size_all (trees (map view (es ++ e ∷ []))) ≡ size_all (trees (map view es)) + size (view e)
sequence-size [] e = omega arith
sequence-size (d ∷ es) e = let h = sequence-size es e in omega arith
