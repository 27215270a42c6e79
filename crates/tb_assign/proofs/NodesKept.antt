-- Each node of a program with cells keeps the rules of a node.
use Rattle.std.proofs.Common.{◌≡◌, refl, sym, ap, ◌∙◌, subst, ℕ, suc, ◌+◌, ◌^◌, ◌<◌, ◌≤◌, inl, inr, arith, Bool, true, false, cond, List, [], ◌∷◌, ◌++◌, length, slice_get, Some}
use Rattle.tb_prim.specs.declared.place.Place.{Place}
use Rattle.tb_prim.specs.declared.constant.Const.{Const}
use Rattle.tb_semantics.specs.Graph.{IsIn}
use Rattle.tb_core.specs.Tree.{Tree, Node, Form, Quote, Local, Global, Lambda, If, SetLocal, SetGlobal, DefGlobal, Let, Letrec, Seq, Call, PrimUse, Apply, Trees, none, more, LambdaTree, ProgramTree, parameters}
use Rattle.tb_core.specs.FreeVariables.{inner_free, is_assigned}
use Rattle.tb_core.specs.Rules.{Every, Each, EachForm, EachAll, KeepsRules, NoMark, MarksAssigned, is_mark, size, size_of_lambdas, variables}
use Rattle.tb_core.proofs.Kept as Both
use Rattle.tb_ir.specs.Tree as C
use Rattle.tb_ir.specs.Rules as K
use Rattle.tb_ir.specs.Rules.{nodes, nodes_in, nodes_of, nodes_of_lambdas, all_nodes, of_nodes, times, times_named}
use Rattle.tb_ir.specs.Width.{is_new_cell}
use Rattle.tb_assign.specs.Eliminate.{fresh, celled, renamed, new_cells, bind_cells, with_cells, cell_name, read_variable, eliminate, eliminate_form, eliminate_all, eliminate_lambdas, let_site, body_site, cells_of}
use Rattle.tb_assign.proofs.AllNamed.{all-named}
use Rattle.tb_assign.proofs.CellsBound.{NamesKnown, bound-to-cells, forms-names, body-names}
use Rattle.tb_assign.proofs.Free.{AreSmall, celled-in}
use Rattle.tb_assign.proofs.FreshNames.{named-once}
use Rattle.tb_assign.proofs.Lines.{count-all}
use Rattle.tb_assign.proofs.ReadyFrom.{ready-from}
use Rattle.tb_assign.proofs.Rel.{Good}
use Rattle.tb_assign.proofs.Standing.{lambdas-count}
use Rattle.tb_assign.proofs.Widths.{not-new}

pub every-append : {X : Type 0} (P : X → Type 0) (xs ys : List X) → Every P xs → Every P ys → Every P (xs ++ ys)
every-append P [] ys h k = k
every-append P (x ∷ xs) ys h k = (h.0, every-append P xs ys h.1 k)

-- what holds of the nodes that stand for each node of the source holds of all nodes
module _ (Q : C.Tree → Type 0) (g : ℕ → Bool) where
  abbrev pub Makes : Place → ℕ → List ℕ → C.Tree → Type 0
  Makes p s [] e = Unit {0}
  Makes p s (x ∷ xs) e =
      Q (C.Node p s (C.Let (x ∷ xs) (new_cells g p (x ∷ xs)) e)) × Every Q (nodes_of (new_cells g p (x ∷ xs)))

  abbrev pub Reads : Place → ℕ → ℕ → Bool → Type 0
  Reads p s x true = Q (C.Node p s (read_variable g p s x true)) × Q (cell_name g p s x)
  Reads p s x false = Q (C.Node p s (read_variable g p s x false))

  abbrev pub StandsFor : Place → ℕ → Form → Type 0
  StandsFor p s (Local x) = Reads p s x (g x)
  StandsFor p s (SetLocal x e) = Q (C.Node p s (eliminate_form g p s (SetLocal x e))) × Q (cell_name g p s x)
  StandsFor p s (Let xs es e) =
      Q (C.Node p s (eliminate_form g p s (Let xs es e))) × Makes p (let_site s) (celled g xs) (eliminate g e)
  StandsFor p s f = Q (C.Node p s (eliminate_form g p s f))

  pub every-bind : (p : Place) (s : ℕ) (xs : List ℕ) (e : C.Tree) → Makes p s xs e → Every Q (nodes e) →
      Every Q (nodes (bind_cells g p s xs e))
  every-bind p s [] e m h = h
  every-bind p s (x ∷ xs) e m h = (m.0, every-append Q (nodes_of (new_cells g p (x ∷ xs))) (nodes e) m.1 h)

  read_every : (p : Place) (s x : ℕ) (b : Bool) → Reads p s x b →
      Every Q (C.Node p s (read_variable g p s x b) ∷ nodes_in (read_variable g p s x b))
  read_every p s x true h = (h.0, (h.1, tt))
  read_every p s x false h = (h, tt)

  module _ (R : ℕ → Form → Type 0) (stand : (p : Place) (s : ℕ) (f : Form) → R s f → StandsFor p s f) where
    mutual
      pub every-tree : (e : Tree) → Each R e → Every Q (nodes (eliminate g e))
      every-tree (Node p s f) h = every_form p s f (stand p s f h.0) h.1

      every_form : (p : Place) (s : ℕ) (f : Form) → StandsFor p s f → EachForm R f →
          Every Q (C.Node p s (eliminate_form g p s f) ∷ nodes_in (eliminate_form g p s f))
      every_form p s (Quote c) t h = (t, tt)
      every_form p s (Local x) t h = read_every p s x (g x) t
      every_form p s (Global n) t h = (t, tt)
      every_form p s (Lambda l) t h = (t, tt)
      every_form p s (If a b c) t h =
          (t, every-append Q (nodes (eliminate g a)) _ (every-tree a h.0) (every-append Q (nodes (eliminate g b)) _ (every-tree b h.1) (every-tree c h.2)))
      every_form p s (SetLocal x e) t h = (t.0, (t.1, every-tree e h))
      every_form p s (SetGlobal n e) t h = (t, every-tree e h)
      every_form p s (DefGlobal n e) t h = (t, every-tree e h)
      every_form p s (Let xs es e) t h =
          (t.0, every-append Q (nodes_of (eliminate_all g es)) _ (every-all es h.0) (every-bind p (let_site s) (celled g xs) (eliminate g e) t.1 (every-tree e h.1)))
      every_form p s (Letrec xs ls e) t h = (t, every-tree e h)
      every_form p s (Seq es) t h = (t, every-all es h)
      every_form p s (Call f es) t h = (t, every-append Q (nodes (eliminate g f)) _ (every-tree f h.0) (every-all es h.1))
      every_form p s (PrimUse q es) t h = (t, every-all es h)
      every_form p s (Apply f l) t h = (t, every-append Q (nodes (eliminate g f)) _ (every-tree f h.0) (every-tree l h.1))

      pub every-all : (es : Trees) → EachAll R es → Every Q (nodes_of (eliminate_all g es))
      every-all none h = tt
      every-all (more e es) h = every-append Q (nodes (eliminate g e)) _ (every-tree e h.0) (every-all es h.1)

-- the mark stays what it is
mark_const : (p : Place) (s : ℕ) (c : Const) → K.is_mark (C.Node p s (C.Quote c)) ≡ is_mark (Node p s (Quote c))
mark_const p s (Const.Fix n) = refl
mark_const p s (Const.Char n) = refl
mark_const p s (Const.Bool b) = refl
mark_const p s Const.Nil = refl
mark_const p s Const.Unspecified = refl
mark_const p s Const.Undefined = refl
mark_const p s (Const.Stat n) = refl

pub mark-same : (g : ℕ → Bool) (e : Tree) → K.is_mark (eliminate g e) ≡ is_mark e
mark-same g (Node p s (Quote c)) = mark_const p s c
mark-same g (Node p s (Local x)) = by_read (g x)
  where
    by_read : (b : Bool) → K.is_mark (C.Node p s (read_variable g p s x b)) ≡ false
    by_read true = refl
    by_read false = refl
mark-same g (Node p s (Global n)) = refl
mark-same g (Node p s (Lambda l)) = refl
mark-same g (Node p s (If a b c)) = refl
mark-same g (Node p s (SetLocal x e)) = refl
mark-same g (Node p s (SetGlobal n e)) = refl
mark-same g (Node p s (DefGlobal n e)) = refl
mark-same g (Node p s (Let xs es e)) = refl
mark-same g (Node p s (Letrec xs ls e)) = refl
mark-same g (Node p s (Seq es)) = refl
mark-same g (Node p s (Call f es)) = refl
mark-same g (Node p s (PrimUse q es)) = refl
mark-same g (Node p s (Apply f l)) = refl

pub no-marks : (g : ℕ → Bool) (es : Trees) → NoMark es → K.NoMark (eliminate_all g es)
no-marks g none h = tt
no-marks g (more e es) h = (mark-same g e ∙ h.0, no-marks g es h.1)

-- no expression of the source makes a cell
pub no-cells : (g : ℕ → Bool) (es : Trees) → K.NoCell (eliminate_all g es)
no-cells g none = tt
no-cells g (more e es) = (not-new g e, no-cells g es)

-- an expression that may be a body: neither the mark nor the making of a cell
pub record IsValue (e : C.Tree) : Type 0 where
  pub no_mark : K.is_mark e ≡ false
  pub no_cell : is_new_cell e ≡ false

pub a-value : (g : ℕ → Bool) (e : Tree) → is_mark e ≡ false → IsValue (eliminate g e)
a-value g e h = record { no_mark = mark-same g e ∙ h; no_cell = not-new g e }

pub bind-value : (g : ℕ → Bool) (p : Place) (s : ℕ) (xs : List ℕ) (e : C.Tree) → IsValue e → IsValue (bind_cells g p s xs e)
bind-value g p s [] e h = h
bind-value g p s (x ∷ xs) e h = record { no_mark = refl; no_cell = refl }

module _ (p : ProgramTree) (r : KeepsRules p) where
  -- a variable of a `let` that may hold the mark is a fresh one
  marks_of : (xs : List ℕ) (es : Trees) → MarksAssigned (is_assigned p) xs es →
      K.MarksOfCells (cells_of p) (renamed (is_assigned p) xs) (eliminate_all (is_assigned p) es)
  marks_of [] none h = tt
  marks_of (x ∷ xs) none h = tt
  marks_of [] (more e es) h = no-marks (is_assigned p) (more e es) h
  marks_of (x ∷ xs) (more e es) h = (
    λ m. subst
        (λ b. times_named (cells_of p) (cond b (fresh x) x) ≡ times (cond b (fresh x) x) (of_nodes K.celled (all_nodes (cells_of p))))
        (sym (h.0 (sym (mark-same (is_assigned p) e) ∙ m))) (named-once p r (fresh x) (omega arith)).0,
    marks_of xs es h.1,
  )

  cells_unmarked : (q : Place) (xs : List ℕ) → K.MarksOfCells (cells_of p) xs (new_cells (is_assigned p) q xs)
  cells_unmarked q [] = tt
  cells_unmarked q (x ∷ xs) = (λ m. cc, cells_unmarked q xs)

  abbrev pub Kept : C.Tree → Type 0
  Kept e = K.NodeKeeps (2 ^ 27) (cells_of p) e

  abbrev R : ℕ → Form → Type 0
  R s f = Good p s f × NamesKnown (inner_free p) (variables p) s f

  name_kept : (q : Place) (s x : ℕ) → s < 2 ^ 24 → Kept (cell_name (is_assigned p) q s x)
  name_kept q s x lt = record { small_site = omega arith; in_range = tt; shaped = tt; marks_are_operands = tt; reads_cells = tt; cells_are_operands = tt }

  cells_kept : (q : Place) (xs : List ℕ) → AreSmall xs → Every Kept (nodes_of (new_cells (is_assigned p) q xs))
  cells_kept q [] h = tt
  cells_kept q (x ∷ xs) h =
      let lt = h x (inl refl) in (
        record { small_site = omega arith; in_range = tt; shaped = tt; marks_are_operands = (refl, tt); reads_cells = tt; cells_are_operands = (refl, tt) },
        (
          record { small_site = omega arith; in_range = tt; shaped = tt; marks_are_operands = tt; reads_cells = tt; cells_are_operands = tt },
          cells_kept q xs (λ y i. h y (inr i)),
        ),
      )

  cells_counted : (q : Place) (xs : List ℕ) → length xs ≡ C.count (new_cells (is_assigned p) q xs)
  cells_counted q [] = refl
  cells_counted q (x ∷ xs) = let h = cells_counted q xs in omega arith

  -- the `let` that makes the cells of a list of variables
  pub makes-kept : (q : Place) (s : ℕ) (xs : List ℕ) (e : C.Tree) → s < 2 ^ 27 → AreSmall xs → IsValue e →
      Makes Kept (is_assigned p) q s xs e
  makes-kept q s [] e lt h m = tt
  makes-kept q s (x ∷ xs) e lt h m = (
    record { small_site = lt; in_range = tt; shaped = cells_counted q (x ∷ xs); marks_are_operands = (cells_unmarked q (x ∷ xs), m.no_mark); reads_cells = tt; cells_are_operands = (m.no_cell, tt) },
    cells_kept q (x ∷ xs) h,
  )

  read_kept : (q : Place) (s x : ℕ) (b : Bool) → s < 2 ^ 24 → is_assigned p x ≡ b → IsIn x (variables p) →
      Reads Kept (is_assigned p) q s x b
  read_kept q s x true lt e i = (
    record { small_site = omega arith; in_range = tt; shaped = tt; marks_are_operands = (refl, tt); reads_cells = bound-to-cells p r x i e; cells_are_operands = (refl, tt) },
    name_kept q s x lt,
  )
  read_kept q s x false lt e i = record { small_site = omega arith; in_range = tt; shaped = tt; marks_are_operands = tt; reads_cells = tt; cells_are_operands = tt }

  pub renamed-count : (xs : List ℕ) → length (renamed (is_assigned p) xs) ≡ length xs
  renamed-count [] = refl
  renamed-count (x ∷ xs) = ap suc (renamed-count xs)

  same_count : (l : ℕ) → l < length p.lambdas → l < length (cells_of p).lambdas
  same_count l lt = subst (λ n. l < n) (sym (lambdas-count (is_assigned p) 0 p.lambdas)) lt

  same_counts : (ls : List ℕ) → Every (λ l. l < length p.lambdas) ls → Every (λ l. l < length (cells_of p).lambdas) ls
  same_counts [] h = tt
  same_counts (l ∷ ls) h = (same_count l h.0, same_counts ls h.1)

  pub unmarked : (e : Tree) → is_mark e ≡ false → K.is_mark (eliminate (is_assigned p) e) ≡ false
  unmarked e h = mark-same (is_assigned p) e ∙ h

  -- what stands for a node keeps the rules
  pub stands-kept : (q : Place) (s : ℕ) (f : Form) → R s f → StandsFor Kept (is_assigned p) q s f
  stands-kept q s (Quote c) h = let k = (h.0).node in let lt = k.small_site in
      record { small_site = omega arith; in_range = k.in_range; shaped = tt; marks_are_operands = tt; reads_cells = tt; cells_are_operands = tt }
  stands-kept q s (Local x) h = read_kept q s x (is_assigned p x) ((h.0).node).small_site refl h.1
  stands-kept q s (Global n) h = let k = (h.0).node in let lt = k.small_site in
      record { small_site = omega arith; in_range = k.in_range; shaped = tt; marks_are_operands = tt; reads_cells = tt; cells_are_operands = tt }
  stands-kept q s (Lambda l) h = let k = (h.0).node in let lt = k.small_site in
      record { small_site = omega arith; in_range = (same_count l k.in_range, tt); shaped = tt; marks_are_operands = tt; reads_cells = tt; cells_are_operands = tt }
  stands-kept q s (If a b c) h = let k = (h.0).node in let lt = k.small_site in
      record { small_site = omega arith; in_range = tt; shaped = tt; marks_are_operands = no-marks (is_assigned p) (more a (more b (more c none))) k.marks_are_operands; reads_cells = tt; cells_are_operands = no-cells (is_assigned p) (more a (more b (more c none))) }
  stands-kept q s (SetLocal x e) h = let k = (h.0).node in let lt = k.small_site in (
    record { small_site = omega arith; in_range = tt; shaped = tt; marks_are_operands = (refl, (unmarked e k.marks_are_operands, tt)); reads_cells = bound-to-cells p r x h.1 (h.0).binds; cells_are_operands = (refl, (not-new (is_assigned p) e, tt)) },
    name_kept q s x lt,
  )
  stands-kept q s (SetGlobal n e) h = let k = (h.0).node in let lt = k.small_site in
      record { small_site = omega arith; in_range = k.in_range; shaped = tt; marks_are_operands = (unmarked e k.marks_are_operands, tt); reads_cells = tt; cells_are_operands = (not-new (is_assigned p) e, tt) }
  stands-kept q s (DefGlobal n e) h = let k = (h.0).node in let lt = k.small_site in
      record { small_site = omega arith; in_range = k.in_range; shaped = tt; marks_are_operands = (unmarked e k.marks_are_operands, tt); reads_cells = tt; cells_are_operands = (not-new (is_assigned p) e, tt) }
  stands-kept q s (Let xs es e) h = let k = (h.0).node in let lt = k.small_site in
      let m = a-value (is_assigned p) e (k.marks_are_operands).1 in
      let bound = bind-value (is_assigned p) q (let_site s) (celled (is_assigned p) xs) (eliminate (is_assigned p) e) m in (
        record {
          small_site = omega arith;
          in_range = tt;
          shaped = renamed-count xs ∙ k.shaped ∙ sym (count-all (is_assigned p) es);
          marks_are_operands = (marks_of xs es (k.marks_are_operands).0, bound.no_mark);
          reads_cells = tt;
          cells_are_operands = (bound.no_cell, tt);
        },
        makes-kept q (let_site s) (celled (is_assigned p) xs) (eliminate (is_assigned p) e) (omega arith)
            (λ y i. ((h.0).binds).small y (celled-in (is_assigned p) xs y i).0) m,
      )
  stands-kept q s (Letrec xs ls e) h = let k = (h.0).node in let lt = k.small_site in
      record { small_site = omega arith; in_range = same_counts ls k.in_range; shaped = k.shaped; marks_are_operands = (unmarked e k.marks_are_operands, tt); reads_cells = tt; cells_are_operands = (not-new (is_assigned p) e, tt) }
  stands-kept q s (Seq es) h = let k = (h.0).node in let lt = k.small_site in
      record { small_site = omega arith; in_range = tt; shaped = subst (λ n. 1 ≤ n) (sym (count-all (is_assigned p) es)) k.shaped; marks_are_operands = no-marks (is_assigned p) es k.marks_are_operands; reads_cells = tt; cells_are_operands = no-cells (is_assigned p) es }
  stands-kept q s (Call f es) h = let k = (h.0).node in let lt = k.small_site in
      record { small_site = omega arith; in_range = tt; shaped = tt; marks_are_operands = no-marks (is_assigned p) (more f es) k.marks_are_operands; reads_cells = tt; cells_are_operands = no-cells (is_assigned p) (more f es) }
  stands-kept q s (PrimUse a es) h = let k = (h.0).node in let lt = k.small_site in
      record { small_site = omega arith; in_range = tt; shaped = count-all (is_assigned p) es ∙ k.shaped; marks_are_operands = no-marks (is_assigned p) es k.marks_are_operands; reads_cells = tt; cells_are_operands = no-cells (is_assigned p) es }
  stands-kept q s (Apply f l) h = let k = (h.0).node in let lt = k.small_site in
      record { small_site = omega arith; in_range = tt; shaped = tt; marks_are_operands = no-marks (is_assigned p) (more f (more l none)) k.marks_are_operands; reads_cells = tt; cells_are_operands = no-cells (is_assigned p) (more f (more l none)) }

  pub each_lambda : (Q : LambdaTree → Type 0) (ls : List LambdaTree) →
      ((n : ℕ) (l : LambdaTree) → slice_get ls n ≡ Some l → Q l) → Every Q ls
  each_lambda Q [] h = tt
  each_lambda Q (l ∷ ls) h = (h 0 l refl, each_lambda Q ls (λ n m e. h (suc n) m e))

  bodies_fewer : (ls : List LambdaTree) → length ls ≤ size_of_lambdas ls
  bodies_fewer [] = omega arith
  bodies_fewer (l ∷ ls) = let h = bodies_fewer ls in let o = own_node l.body in omega arith
    where
      own_node : (e : Tree) → 1 ≤ size e
      own_node (Node q s f) = omega arith

  -- what holds of what stands for each node, and of what makes the cells of parameters, holds of all nodes
  module _ (P : ℕ → Form → Type 0) (Q : C.Tree → Type 0)
      (stand : (q : Place) (s : ℕ) (f : Form) → P s f → StandsFor Q (is_assigned p) q s f)
      (makes : (q : Place) (n : ℕ) (xs : List ℕ) (e : C.Tree) → n < 2 ^ 24 → AreSmall xs → IsValue e →
      Makes Q (is_assigned p) q (body_site n) xs e) where
    at_each : (ls : List LambdaTree) → Every (λ (l : LambdaTree). Each P l.body) ls → Every (λ (l : LambdaTree). AreSmall (parameters l) × (is_mark l.body ≡ false)) ls →
        (n : ℕ) → length ls + n ≤ 2 ^ 24 → Every Q (nodes_of_lambdas (eliminate_lambdas (is_assigned p) n ls))
    at_each [] h k n lt = tt
    at_each (l ∷ ls) h k n lt =
        every-append Q (nodes (with_cells (is_assigned p) l.place (body_site n) (parameters l) (eliminate (is_assigned p) l.body))) _
        (every-bind Q (is_assigned p) l.place (body_site n) (celled (is_assigned p) (parameters l)) (eliminate (is_assigned p) l.body)
        (makes l.place n (celled (is_assigned p) (parameters l)) (eliminate (is_assigned p) l.body) (omega arith)
        (λ y i. (k.0).0 y (celled-in (is_assigned p) (parameters l) y i).0) (a-value (is_assigned p) l.body (k.0).1))
        (every-tree Q (is_assigned p) P stand l.body h.0))
        (at_each ls h.1 k.1 (suc n) (omega arith))

    pub everywhere : EachAll P p.forms → Every (λ (l : LambdaTree). Each P l.body) p.lambdas → Every Q (all_nodes (cells_of p))
    everywhere f b =
        let ready = ready-from p r (all-named p r) in
        let few = bodies_fewer p.lambdas in
        let less = r.few_nodes in
        every-append Q (nodes_of (eliminate_all (is_assigned p) p.forms)) _
        (every-all Q (is_assigned p) P stand p.forms f)
        (at_each p.lambdas b
        (each_lambda (λ l. AreSmall (parameters l) × (is_mark l.body ≡ false)) p.lambdas (λ n l e. ((ready.binds n l e).small, ready.values n l e)))
        0 (omega arith))

  pub nodes-kept : Every Kept (all_nodes (cells_of p))
  nodes-kept =
      let ready = ready-from p r (all-named p r) in
      everywhere R Kept stands-kept (λ q n xs e lt. makes-kept q (body_site n) xs e (omega arith))
      (Both.both_all (Good p) (NamesKnown (inner_free p) (variables p)) p.forms ready.forms (forms-names p r))
      (each_lambda (λ l. Each R l.body) p.lambdas (λ n l e. Both.both (Good p) (NamesKnown (inner_free p) (variables p)) l.body (ready.bodies n l e) (body-names p r n l e)))
