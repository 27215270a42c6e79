-- The evaluation of each form and the frames, in both machines; what binds variables in a body, and what makes
-- procedures together, stands apart.
use Rattle.std.proofs.Common.{◌≡◌, refl, sym, ap, ◌∙◌, subst, ℕ, suc, ◌+◌, ◌<◌, ⊎_elim, arith, Bool, true, false, List, [], ◌∷◌, ◌++◌, length, drop, Option, Some, None, slice_get}
use Rattle.tb_prim.specs.declared.place.Place.{Place}
use Rattle.tb_prim.specs.declared.event.Event.{Event}
use Rattle.tb_semantics.specs.Graph.{IsIn}
use Rattle.tb_semantics.proofs.Worlds.{World}
use Rattle.tb_core.specs.Tree.{Tree, Form, Let, Call, PrimUse, Apply, Trees, none, more, count, tree_at, ProgramTree}
use Rattle.tb_core.specs.FreeVariables.{without, free, free_all, inner_free, is_assigned}
use Rattle.tb_core.specs.OperandOrder.{has_order, operands, line_at, order_of}
use Rattle.tb_core.specs.Rules.{Each, EachForm, EachAll, NoMark, is_mark}
use Rattle.tb_core.specs.Store as S
use Rattle.tb_core.specs.Store.{Value, At, value_of}
use Rattle.tb_core.specs.Reference as R
use Rattle.tb_core.specs.Partners as Like
use Rattle.tb_core.proofs.Lines.{line-length, line-all, arranged-length}
use Rattle.tb_core.proofs.Members.{in-left, in-right, in-either, in-without, without-sub}
use Rattle.tb_ir.specs.Tree as C
use Rattle.tb_ir.specs.FreeVariables as F
use Rattle.tb_ir.specs.Machine as M
use Rattle.tb_ir.specs.TreeMachine as T
use Rattle.tb_assign.specs.Eliminate.{renamed, with_cells, let_site, eliminate, eliminate_form, eliminate_all}
use Rattle.tb_assign.proofs.Free.{Same, AreSmall, same-bound, absent}
use Rattle.tb_assign.proofs.Rel as Rel
use Rattle.tb_assign.proofs.Rel.{Partner, Alike, AllAlike, VarRel, EnvRel, Covers, ControlRel, WorkRel, FramesRel, ValuesRel, Good, Ready, BindsWell, may_top, may_mark, free_cells, free_all_cells, source, target}
use Rattle.tb_assign.proofs.Envs.{covers-gather, gather-cut}
use Rattle.tb_assign.proofs.Shape.{Held}
use Rattle.tb_assign.proofs.Base.{Ground, Goes}
use Rattle.tb_assign.proofs.Simple.{goes, loses, enters, applies, uses-primitive}
use Rattle.tb_assign.proofs.Lines.{same-numbers, same-operands, same-tree, with_cells_at, each-operand, each-tree, mark-of-operand, NumberedRel, no_more, next_one, arranged-alike, all-alike, drop-at, drop-none, numbers-to, values-long}

-- values of variables, where that of one that is assigned may be the mark
pub data BoundRel (p : ProgramTree) (w : World Value) : List ℕ → List Value → List Value → Type 0 where
  no_bound : BoundRel p w [] [] []
  one_bound : {x : ℕ} {v u : Value} {xs : List ℕ} {vs us : List Value} → Alike w (is_assigned p x) v u →
      BoundRel p w xs vs us → BoundRel p w (x ∷ xs) (v ∷ vs) (u ∷ us)

-- a body in which variables are bound is evaluated alike
pub record Bodies (p : ProgramTree) (input : List ℕ) : Type 0 where
  pub binds : (w : World Value) (c : T.TreeConfig) (d : R.Config) → Ground p w c d →
      (q : Place) (site : ℕ) (xs : List ℕ) (e : Tree) (vs us : List Value) (r : M.Env) (h : S.Env)
      (fs : List (M.Frame T.TreeWork)) (hs : List R.Frame) (es : List Event) →
      Each (Good p) e → is_mark e ≡ false → BindsWell p xs e → T.line_of (order_of p) site ≡ None →
      BoundRel p w xs vs us →
      ((y : ℕ) → IsIn y (free_cells p e) → (IsIn y xs → ⊥) → (v : Value) × (M.lookup r y ≡ Some v)) →
      EnvRel (is_assigned p) w r h → FramesRel p w fs hs →
      Goes p input (R.go_with d (R.eval (source p) e (S.bind_from xs (length d.store) h)) hs (d.store ++ R.vars us) es)
      (T.evaluate_cut (target p) c (with_cells (is_assigned p) q site xs (eliminate (is_assigned p) e))
      (M.bind_all (renamed (is_assigned p) xs) vs r) fs es)

module _ (p : ProgramTree) (input : List ℕ) (ready : Ready p) (bodies : Bodies p input)
    (same : (e : Tree) → Each (Good p) e → Same (free_cells p e) (free (inner_free p) e))
    (small : (e : Tree) → Each (Good p) e → AreSmall (free (inner_free p) e)) where
  abbrev g : ℕ → Bool
  g = is_assigned p

  same_list : (ds : Trees) → EachAll (Good p) ds → Same (free_all_cells p ds) (free_all (inner_free p) ds)
  same_list none n = record { to = λ y i. i; from = λ y i. i }
  same_list (more e ds) n = record {
    to = λ y i. ⊎_elim (λ j. in-left y (free (inner_free p) e) _ ((same e n.0).to y j))
        (λ j. in-right y (free (inner_free p) e) _ ((same_list ds n.1).to y j)) (in-either y (free_cells p e) _ i);
    from = λ y i. ⊎_elim (λ j. in-left y (free_cells p e) _ ((same e n.0).from y j))
        (λ j. in-right y (free_cells p e) _ ((same_list ds n.1).from y j)) (in-either y (free (inner_free p) e) _ i);
  }

  -- what a `let` names of its body
  body_same : (q : Place) (s : ℕ) (xs : List ℕ) (e : Tree) → Each (Good p) e →
      Same (without (renamed g xs) (F.free (Rel.inner_cells p) (with_cells g q s xs (eliminate g e))))
      (without xs (free (inner_free p) e))
  body_same q s xs e n = same-bound g (Rel.inner_cells p) q s xs (free (inner_free p) e) (eliminate g e) (same e n)
      (small e n)

  body_to : (q : Place) (s : ℕ) (f : Form) (y : ℕ) → has_order f ≡ true → EachForm (Good p) f →
      IsIn y (T.free_of_body (target p) (eliminate_form g q s f)) → IsIn y (R.free_of_body (source p) f)
  body_to q s (Call a ds) y o n i = absurd i
  body_to q s (PrimUse a ds) y o n i = absurd i
  body_to q s (Apply a b) y o n i = absurd i
  body_to q s (Let xs ds e) y o n i = without-sub xs (free (inner_free p) e) y
      ((body_same q (let_site s) xs e n.1).to y i)
  body_to q s _ y o n i = cc

  left_to : (q : Place) (s : ℕ) (f : Form) (ns : List ℕ) (y : ℕ) → has_order f ≡ true → EachForm (Good p) f →
      IsIn y (T.free_of_numbers (target p) (C.operands (eliminate_form g q s f)) ns ++ T.free_of_body (target p)
      (eliminate_form g q s f)) →
      IsIn y (R.free_of_numbers (source p) (operands f) ns ++ R.free_of_body (source p) f)
  left_to q s f ns y o n i =
      ⊎_elim
      (λ j. in-left y (R.free_of_numbers (source p) (operands f) ns) _
      (numbers-to p same (operands f) ns y (each-operand (Good p) f o n)
      (subst (λ es. IsIn y (T.free_of_numbers (target p) es ns)) (same-operands p q s f o) j)))
      (λ j. in-right y (R.free_of_numbers (source p) (operands f) ns) _ (body_to q s f y o n j))
      (in-either y (T.free_of_numbers (target p) (C.operands (eliminate_form g q s f)) ns) _ i)

  module _ (w : World Value) (c : T.TreeConfig) (d : R.Config) (k : Ground p w c d) (held : Held p w c d) where
    -- an expression is evaluated in environments that are cut to it
    pub evaluates : (e : Tree) (xs : List ℕ) (r : M.Env) (h : S.Env) (fs : List (M.Frame T.TreeWork))
        (hs : List R.Frame) (es : List Event) → Each (Good p) e → (is_mark e ≡ true → may_top p hs ≡ true) →
        Covers xs r → ((y : ℕ) → IsIn y (free_cells p e) → IsIn y xs) → EnvRel g w r h → FramesRel p w fs hs →
        Goes p input (R.go d (R.eval (source p) e h) hs es) (T.evaluate_cut (target p) c (eliminate g e) r fs es)
    evaluates e xs r h fs hs es n m cv sub v f =
        goes p input w c d k _ _ fs hs es
        (Rel.eval n m (covers-gather xs (free_cells p e) (free_cells p e) r cv sub (λ y i. i))
        (gather-cut g w (free_cells p e) (free (inner_free p) e) r h v (same e n).to)) f

    clash : (b : Bool) → b ≡ false → b ≡ true → ⊥
    clash b m n = cc

    pub sequences : (ds : Trees) (xs : List ℕ) (r : M.Env) (h : S.Env) (fs : List (M.Frame T.TreeWork))
        (hs : List R.Frame) (es : List Event) → EachAll (Good p) ds → NoMark ds → Covers xs r →
        ((y : ℕ) → IsIn y (free_all_cells p ds) → IsIn y xs) → EnvRel g w r h → FramesRel p w fs hs →
        Goes p input (R.sequence (source p) d ds h hs es) (T.sequence (target p) c (eliminate_all g ds) r fs es)
    sequences none xs r h fs hs es n m cv sub v f = loses p input w c d k held es
    sequences (more e none) xs r h fs hs es n m cv sub v f = evaluates e xs r h fs hs es n.0
        (λ i. absurd (clash (is_mark e) m.0 i)) cv (λ y i. sub y (in-left y (free_cells p e) _ i)) v f
    sequences (more e (more a ds)) xs r h fs hs es n m cv sub v f =
        evaluates e xs r h _ _ es n.0 (λ i. absurd (clash (is_mark e) m.0 i)) cv
        (λ y i. sub y (in-left y (free_cells p e) _ i)) v
        (Rel.frame
        (Rel.rest n.1 m.1
        (covers-gather xs (free_all_cells p (more a ds)) _ r cv (λ y i. sub y (in-right y (free_cells p e) _ i))
        (λ y i. i)) (gather-cut g w _ _ r h v (same_list (more a ds) n.1).to))
        f)

    -- operands by their numbers, where none may be the mark
    completes_call : (q : Place) (s : ℕ) (a : Tree) (ds : Trees) (vs us : List Value) (r : M.Env) (h : S.Env)
        (fs : List (M.Frame T.TreeWork)) (hs : List R.Frame) (es : List Event) → AllAlike w vs us →
        FramesRel p w fs hs →
        Goes p input (R.complete (source p) d q (Call a ds) us h hs es)
        (T.complete (target p) c q (eliminate_form g q s (Call a ds)) vs r fs es)
    completes_call q s a ds _ _ r h fs hs es Like.nothing f = loses p input w c d k held es
    completes_call q s a ds _ _ r h fs hs es
        (Like.further x xs) f = enters p input w c d k held q _ _ _ _ fs hs es x xs f

    completes_apply : (q : Place) (s : ℕ) (a b : Tree) (vs us : List Value) (r : M.Env) (h : S.Env)
        (fs : List (M.Frame T.TreeWork)) (hs : List R.Frame) (es : List Event) → AllAlike w vs us →
        FramesRel p w fs hs →
        Goes p input (R.complete (source p) d q (Apply a b) us h hs es)
        (T.complete (target p) c q (eliminate_form g q s (Apply a b)) vs r fs es)
    completes_apply q s a b _ _ r h fs hs es Like.nothing f = loses p input w c d k held es
    completes_apply q s a b _ _ r h fs hs es (Like.further x Like.nothing) f = loses p input w c d k held es
    completes_apply q s a b _ _ r h fs hs es
        (Like.further x (Like.further y Like.nothing)) f = applies p input w c d k held q _ _ _ _ fs hs es x y f
    completes_apply q s a b _ _ r h fs hs es
        (Like.further x (Like.further y (Like.further z zs))) f = loses p input w c d k held es

    -- the values of a `let`
    bound_values : (xs : List ℕ) (ds : Trees) (e : Tree) (i : ℕ) (ys : List ℕ) (vs us : List Value) →
        NumberedRel p w (Let xs ds e) i vs us → length ys ≡ length us →
        ((j : ℕ) (y : ℕ) → slice_get ys j ≡ Some y → slice_get xs (i + j) ≡ Some y) → BoundRel p w ys vs us
    bound_values xs ds e i [] _ _ no_more l at = no_bound
    bound_values xs ds e i (y ∷ ys) _ _ no_more l at = absurd (omega arith)
    bound_values xs ds e i [] _ _ (next_one h hs) l at = absurd (omega arith)
    bound_values xs ds e i (y ∷ ys) _ _ (next_one {v = v} {u = u} h hs) l at =
        let first : slice_get xs i ≡ Some y = ap (slice_get xs) (let z : i ≡ i + 0 = omega arith in z) ∙ at 0 y refl in
        one_bound (subst (λ o. Alike w (Rel.assigned_at p o) v u) first h)
        (bound_values xs ds e (suc i) ys _ _ hs (omega arith)
        (λ j z q. ap (slice_get xs) (let m : suc i + j ≡ i + suc j = omega arith in m) ∙ at (suc j) z q))

    abbrev line : ℕ → List ℕ
    line s = line_at (order_of p) s

    line_long : (s : ℕ) (f : Form) → has_order f ≡ true → Good p s f → length (line s) ≡ count (operands f)
    line_long s f o n = ap length (n.lined o) ∙ line-length g (operands f)

    line_full : (s : ℕ) (f : Form) → has_order f ≡ true → Good p s f → (j : ℕ) → j < length (line s) → IsIn j (line s)
    line_full s f o n j lt = let l = line_long s f o n in subst (IsIn j) (sym (n.lined o))
        (line-all g (operands f) j (omega arith))

    -- all operands are evaluated
    completes : (q : Place) (s : ℕ) (f : Form) (vs us : List Value) (zs : List ℕ) (r : M.Env) (h : S.Env)
        (fs : List (M.Frame T.TreeWork)) (hs : List R.Frame) (es : List Event) → has_order f ≡ true → Good p s f →
        EachForm (Good p) f →
        NumberedRel p w f 0 vs us → length us ≡ count (operands f) → Covers zs r →
        ((y : ℕ) → IsIn y (T.free_of_body (target p) (eliminate_form g q s f)) → IsIn y zs) → EnvRel g w r h →
        FramesRel p w fs hs →
        Goes p input (R.complete (source p) d q f us h hs es)
        (T.complete (target p) c q (eliminate_form g q s f) vs r fs es)
    completes q s
        (Call a ds) vs us zs r h fs hs es o n m x l cv sub v f = completes_call q s a ds vs us r h fs hs es
        (all-alike p w (Call a ds) (λ i. refl) 0 vs us x) f
    completes q s
        (PrimUse a ds) vs us zs r h fs hs es o n m x l cv sub v f = uses-primitive p input w c d k held q a vs us fs hs es (all-alike p w (PrimUse a ds) (λ i. refl) 0 vs us x) f
    completes q s
        (Apply a b) vs us zs r h fs hs es o n m x l cv sub v f = completes_apply q s a b vs us r h fs hs es
        (all-alike p w (Apply a b) (λ i. refl) 0 vs us x) f
    completes q s (Let xs ds e) vs us zs r h fs hs es o n m x l cv sub v f =
        bodies.binds w c d k q (let_site s) xs e vs us r h fs hs es m.1 ((n.node).marks_are_operands).1 n.binds
        (ready.lines_small (let_site s) (omega arith))
        (bound_values xs ds e 0 xs vs us x (let z : length xs ≡ count ds = (n.node).shaped in omega arith)
        (λ j y z. ap (slice_get xs) (let t : 0 + j ≡ j = omega arith in t) ∙ z))
        (λ y i out. cv.has y
        (sub y ((body_same q (let_site s) xs e m.1).from y
        (in-without xs _ y ((same e m.1).to y i) (absent xs y out)))))
        v f
    completes q s _ vs us zs r h fs hs es o n m x l cv sub v f = cc

    -- the next operand
    next_operand : (q : Place) (s : ℕ) (f : Form) (vs us : List Value) (zs : List ℕ) (r : M.Env) (h : S.Env) (n : ℕ)
        (ns : List ℕ) (e : Option Tree) (fs : List (M.Frame T.TreeWork)) (hs : List R.Frame) (es : List Event) →
        has_order f ≡ true → Good p s f → EachForm (Good p) f →
        ValuesRel p w f (line s) vs us → n ∷ ns ≡ drop (length us) (line s) → e ≡ tree_at (operands f) n →
        Covers zs r →
        ((y : ℕ) → IsIn y
        (T.free_of_numbers (target p) (C.operands (eliminate_form g q s f)) (n ∷ ns) ++ T.free_of_body
        (target p) (eliminate_form g q s f)) → IsIn y zs) → EnvRel g w r h → FramesRel p w fs hs →
        Goes p input (R.operand (source p) d q s f us h ns e hs es)
        (T.operand (target p) c q s (eliminate_form g q s f) vs r ns (with_cells_at g e) fs es)
    next_operand q s f vs us zs r h n ns None fs hs es o good parts x at t cv sub v fr = loses p input w c d k held es
    next_operand q s f vs us zs r h n ns (Some e) fs hs es o good parts x at t cv sub v fr =
        let st = drop-at (length us) (line s) n ns at in
        let there : C.tree_at (C.operands (eliminate_form g q s f)) n ≡ Some (eliminate g e) = ap
        (λ ds. C.tree_at ds n) (same-operands p q s f o) ∙ same-tree g (operands f) n
        ∙ ap (with_cells_at g) (sym t) in
        let here : (y : ℕ) → IsIn y (free_cells p e) →
        IsIn y (T.free_of_tree (target p) (C.tree_at (C.operands (eliminate_form g q s f)) n)) = λ y i. subst
        (λ u. IsIn y (T.free_of_tree (target p) u)) (sym there) i in
        let left : (y : ℕ) →
        IsIn y (T.free_of_numbers (target p) (C.operands (eliminate_form g q s f)) ns ++ T.free_of_body
        (target p) (eliminate_form g q s f)) → IsIn y zs = λ y i. sub y (⊎_elim
        (λ j. in-left y (T.free_of_numbers (target p) (C.operands (eliminate_form g q s f)) (n ∷ ns)) _
        (in-right y (T.free_of_tree (target p) (C.tree_at (C.operands (eliminate_form g q s f)) n)) _ j))
        (λ j. in-right y (T.free_of_numbers (target p) (C.operands (eliminate_form g q s f)) (n ∷ ns)) _ j)
        (in-either y (T.free_of_numbers (target p) (C.operands (eliminate_form g q s f)) ns) _ i)) in
        evaluates e zs r h _
        (R.push (R.Args q s f us
        (S.cut (R.free_of_numbers (source p) (operands f) ns ++ R.free_of_body (source p) f) h)) hs) es
        (each-tree (Good p) (operands f) n e (each-operand (Good p) f o parts) (sym t))
        (λ m. ap (Rel.may_number p f) st.2 ∙ mark-of-operand p s f n e o good.node (sym t) m)
        cv (λ y i. sub y
        (in-left y (T.free_of_numbers (target p) (C.operands (eliminate_form g q s f)) (n ∷ ns)) _
        (in-left y (T.free_of_tree (target p) (C.tree_at (C.operands (eliminate_form g q s f)) n)) _
        (here y i)))) v
        (Rel.frame
        (Rel.args o good parts x st.1
        (subst (λ ms. Covers
        (T.free_of_numbers (target p) (C.operands (eliminate_form g q s f)) ms ++ T.free_of_body (target p)
        (eliminate_form g q s f))
        (M.gather (T.free_of_numbers (target p) (C.operands (eliminate_form g q s f)) ns ++ T.free_of_body
        (target p) (eliminate_form g q s f)) r)) (sym st.0)
        (covers-gather zs _
        (T.free_of_numbers (target p) (C.operands (eliminate_form g q s f)) ns ++ T.free_of_body (target p)
        (eliminate_form g q s f)) r cv left (λ y i. i)))
        (gather-cut g w
        (T.free_of_numbers (target p) (C.operands (eliminate_form g q s f)) ns ++ T.free_of_body (target p)
        (eliminate_form g q s f))
        (R.free_of_numbers (source p) (operands f) ns ++ R.free_of_body (source p) f) r h v
        (λ y i. left_to q s f ns y o parts i)))
        fr)

    lefts : (q : Place) (s : ℕ) (f : Form) (vs us : List Value) (zs : List ℕ) (r : M.Env) (h : S.Env) (ns : List ℕ)
        (fs : List (M.Frame T.TreeWork)) (hs : List R.Frame) (es : List Event) → has_order f ≡ true → Good p s f →
        EachForm (Good p) f →
        ValuesRel p w f (line s) vs us → ns ≡ drop (length us) (line s) → Covers zs r →
        ((y : ℕ) → IsIn y
        (T.free_of_numbers (target p) (C.operands (eliminate_form g q s f)) ns ++ T.free_of_body (target p)
        (eliminate_form g q s f)) → IsIn y zs) → EnvRel g w r h → FramesRel p w fs hs →
        Goes p input (R.operands_left (source p) d q s f us h ns hs es)
        (T.operands_left (target p) c q s (eliminate_form g q s f) vs r (line s) ns fs es)
    lefts q s f vs us zs r h [] fs hs es o good parts x at cv sub v fr =
        let le = drop-none (length us) (line s) at in
        let full : (j : ℕ) → j < 0 + length (line s) → IsIn j (line s) = λ j lt. line_full s f o good j (omega arith) in
        completes q s f _ _ zs r h fs hs es o good parts
        (arranged-alike p w f 0 (length (line s)) (line s) vs us x full le)
        (arranged-length 0 (length (line s)) (line s) us full le ∙ line_long s f o good)
        cv sub v fr
    lefts q s f vs us zs r h (n ∷ ns) fs hs es o good parts x at cv sub v fr =
        subst (λ u. Goes p input (R.operand (source p) d q s f us h ns (tree_at (operands f) n) hs es)
        (T.operand (target p) c q s (eliminate_form g q s f) vs r ns u fs es))
        (sym (ap (λ ds. C.tree_at ds n) (same-operands p q s f o) ∙ same-tree g (operands f) n))
        (next_operand q s f vs us zs r h n ns (tree_at (operands f) n) fs hs es o good parts x at refl cv sub v fr)

    -- a node with operands goes on
    pub continues : (q : Place) (s : ℕ) (f : Form) (vs us : List Value) (zs : List ℕ) (r : M.Env) (h : S.Env)
        (fs : List (M.Frame T.TreeWork)) (hs : List R.Frame) (es : List Event) → has_order f ≡ true → Good p s f →
        EachForm (Good p) f →
        ValuesRel p w f (line s) vs us → Covers zs r →
        ((y : ℕ) → IsIn y
        (T.free_of_numbers (target p) (C.operands (eliminate_form g q s f))
        (drop (length us) (line s)) ++ T.free_of_body (target p) (eliminate_form g q s f)) → IsIn y zs) →
        EnvRel g w r h → FramesRel p w fs hs →
        Goes p input (R.continue (source p) d q s f us h hs es)
        (T.continue (target p) c q s (eliminate_form g q s f) vs r fs es)
    continues q s f vs us zs r h fs hs es o good parts x cv sub v fr =
        subst (λ all. Goes p input (R.continue (source p) d q s f us h hs es)
        (T.operands_left (target p) c q s (eliminate_form g q s f) vs r all (drop (length vs) all) fs es))
        (sym (same-numbers p q s f o good.lined))
        (subst (λ n. Goes p input (R.continue (source p) d q s f us h hs es)
        (T.operands_left (target p) c q s (eliminate_form g q s f) vs r (line s) (drop n (line s)) fs es))
        (sym (values-long p w f _ vs us x))
        (lefts q s f vs us zs r h (drop (length us) (line s)) fs hs es o good parts x refl cv sub v fr))
