-- Each step of a program with cells, and what its source does meanwhile.
use Rattle.std.proofs.Common.{◌≡◌, refl, sym, ap, ◌∙◌, subst, ℕ, zero, suc, ◌<◌, inl, inr, ⊎_elim, arith, Bool, true, false, cond, List, [], ◌∷◌, ◌++◌, length, drop, Option, Some, None, slice_get}
use Rattle.std.proofs.lemmas.Bool.{both_ways}
use Rattle.std.proofs.lemmas.Option.{same_Some}
use Rattle.tb_prim.specs.declared.place.Place.{Place}
use Rattle.tb_prim.specs.declared.event.Event.{Event}
use Rattle.tb_semantics.specs.Graph.{IsIn}
use Rattle.tb_semantics.proofs.Worlds.{Both, World}
use Rattle.tb_core.specs.Tree.{Tree, Node, Form, Quote, Local, Global, Lambda, If, SetLocal, SetGlobal, DefGlobal, Let, Letrec, Seq, Call, PrimUse, Apply, Trees, none, more, tree_at, ProgramTree}
use Rattle.tb_core.specs.FreeVariables.{free, free_form, inner_free, is_assigned}
use Rattle.tb_core.specs.OperandOrder.{has_order, line_at, order_of}
use Rattle.tb_core.specs.Rules.{Every, Each, EachForm, NoMark, is_mark}
use Rattle.tb_core.specs.Store as S
use Rattle.tb_core.specs.Store.{Value, At, value_of}
use Rattle.tb_core.specs.Effects.{is_false}
use Rattle.tb_core.specs.Reference as R
use Rattle.tb_core.specs.Space as Space
use Rattle.tb_core.specs.Partners as Like
use Rattle.tb_core.proofs.Members.{in-left, in-right, in-either}
use Rattle.tb_core.proofs.Stores.{VarAt}
use Rattle.tb_ir.specs.Tree as C
use Rattle.tb_ir.specs.FreeVariables as F
use Rattle.tb_ir.specs.Machine as M
use Rattle.tb_ir.specs.TreeMachine as T
use Rattle.tb_assign.specs.Eliminate.{read_variable, eliminate, eliminate_form, eliminate_all, cells_of}
use Rattle.tb_assign.proofs.Free.{Same, AreSmall}
use Rattle.tb_assign.proofs.Rel as Rel
use Rattle.tb_assign.proofs.Rel.{Partner, Alike, AllAlike, VarRel, EnvRel, Covers, ControlRel, WorkRel, FramesRel, ItemRel, ValuesRel, none_yet, Good, Ready, BindsWell, may_top, may_work, free_cells, free_all_cells, inner_cells, source, target}
use Rattle.tb_assign.proofs.Envs.{covers-gather, gather-cut, gather-points, looked-up}
use Rattle.tb_assign.proofs.Shape.{Held}
use Rattle.tb_assign.proofs.Base as B
use Rattle.tb_assign.proofs.Base.{Ground, Base, stopped, Goes, here, pending_state}
use Rattle.tb_assign.proofs.Simple.{goes, goes-made, anywhere, loses, reads-global, assigns-global, sets-global}
use Rattle.tb_assign.proofs.Lines as Lines
use Rattle.tb_assign.proofs.Lines.{numbers-all, values-last}
use Rattle.tb_assign.proofs.Nodes.{Bodies, evaluates, sequences, continues}
use Rattle.tb_assign.proofs.Closures.{closure-made}
use Rattle.tb_assign.proofs.Moves.{Next, both, target_alone, const-alike, reads-plain, goes-reading, goes-setting, sets-cell}

-- procedures that are made together are made alike
pub record Groups (p : ProgramTree) (input : List ℕ) : Type 0 where
  pub makes : (w : World Value) (c : T.TreeConfig) (d : R.Config) → Ground p w c d → FramesRel p w c.frames d.frames →
      (xs ls : List ℕ) (e : Tree) (r : M.Env) (h : S.Env) (es : List Event) →
      Each (Good p) e → is_mark e ≡ false → BindsWell p xs e → Every (λ x. is_assigned p x ≡ false) xs →
      length xs ≡ length ls →
      Covers (F.free_form (inner_cells p) (C.Letrec xs ls (eliminate (is_assigned p) e))) r →
      EnvRel (is_assigned p) w r h →
      Goes p input
      (R.bind_procedures (source p) d xs ls e
      (S.bind_from xs (length d.store) (S.cut (free_form (inner_free p) (Letrec xs ls e)) h)) es)
      (M.make_closures (F.captured (cells_of p)) c xs ls (eliminate (is_assigned p) e)
      (M.gather (F.free_form (inner_cells p) (C.Letrec xs ls (eliminate (is_assigned p) e))) r) es)

-- the body of a procedure is entered alike
pub record Entries (p : ProgramTree) (input : List ℕ) : Type 0 where
  pub enters : (w : World Value) (c : T.TreeConfig) (d : R.Config) → Ground p w c d → Held p w c d →
      FramesRel p w c.frames d.frames → (t s : ℕ) (vs us : List Value) (es : List Event) → IsIn (Both t s) w →
      AllAlike w vs us →
      Goes p input (R.entering (source p) d (slice_get d.store s) us es)
      (M.entering (T.language (cells_of p) (order_of p)) c (M.Closure t) vs es)

module _ (p : ProgramTree) (input : List ℕ) (ready : Ready p) (bodies : Bodies p input) (groups : Groups p input)
    (entries : Entries p input)
    (same : (e : Tree) → Each (Good p) e → Same (free_cells p e) (free (inner_free p) e))
    (small : (e : Tree) → Each (Good p) e → AreSmall (free (inner_free p) e))
    (inner : (l : ℕ) → Same (inner_cells p l) (inner_free p l)) where
  abbrev g : ℕ → Bool
  g = is_assigned p

  abbrev L : M.Language C.Tree T.TreeWork
  L = T.language (cells_of p) (order_of p)

  module _ (w : World Value) (c : T.TreeConfig) (d : R.Config) (k : Ground p w c d) (held : Held p w c d)
      (f : FramesRel p w c.frames d.frames) where
    pending_at : (m : M.Control C.Tree) (n : ℕ) → c.control ≡ m → B.pending_control m ≡ n →
        B.pending_control c.control ≡ n
    pending_at m n e q = ap B.pending_control e ∙ q

    -- a variable is read
    local : (q : Place) (s y : ℕ) (b : Bool) (v : Value) (l : ℕ) (r : M.Env) (h : S.Env) (es : List Event) → g y ≡ b →
        c.control ≡ M.Eval (C.Node q s (read_variable g q s y b)) r → d.control ≡ R.Eval (Node q s (Local y)) h →
        M.lookup r y ≡ Some v → S.lookup h y ≡ Some l → VarRel w b v l → EnvRel g w r h →
        Next p input c d (M.Eval (C.Node q s (read_variable g q s y b)) r) (R.Eval (Node q s (Local y)) h) es
    local q s y false v l r h es e ec ed a z x env = both (reads-plain p input w c d k q y v l r h es a z x f)
    local q s y true _ l r h es e ec ed a z (Rel.plain n i) env = absurd (both_ways true n refl)
    local q s y true _ l r h es e ec ed a z (Rel.in_cell {t = t} n i) env =
        let lt = ap B.pending_control ec in
        target_alone (goes-reading p input w c d k f q s y t l r h es a z i env (ap Space.control_locations ed) ed)
        (omega arith)

    local_read : (q : Place) (s y : ℕ) (r : M.Env) (h : S.Env) (es : List Event) →
        c.control ≡ M.Eval (C.Node q s (read_variable g q s y (g y))) r → d.control ≡ R.Eval (Node q s (Local y)) h →
        (v : Value) × (M.lookup r y ≡ Some v) → EnvRel g w r h →
        Next p input c d (M.Eval (C.Node q s (read_variable g q s y (g y))) r) (R.Eval (Node q s (Local y)) h) es
    local_read q s y r h es ec ed found env =
        let u = looked-up g w r h y found.0 env found.1 in
        local q s y (g y) found.0 u.0 r h es refl ec ed found.1 u.1 u.2 env

    is_named : (y : ℕ) (b : Bool) (q : Place) (s : ℕ) → IsIn y (F.free_form (inner_cells p) (read_variable g q s y b))
    is_named y true q s = inl refl
    is_named y false q s = inl refl

    -- a variable is set
    set : (q : Place) (s y : ℕ) (e : Tree) (b : Bool) (v : Value) (l : ℕ) (r : M.Env) (h : S.Env) (es : List Event) →
        g y ≡ b → b ≡ true → c.control ≡ M.Eval (eliminate g (Node q s (SetLocal y e))) r →
        d.control ≡ R.Eval (Node q s (SetLocal y e)) h → Each (Good p) e → is_mark e ≡ false →
        M.lookup r y ≡ Some v → S.lookup h y ≡ Some l → VarRel w b v l →
        Covers (free_cells p (Node q s (SetLocal y e))) r → EnvRel g w r h →
        Next p input c d (M.Eval (eliminate g (Node q s (SetLocal y e))) r) (R.Eval (Node q s (SetLocal y e)) h) es
    set q s y e b _ l r h es eb sure ec ed n nm a z (Rel.plain n0 i) cv env = absurd (both_ways b n0 sure)
    set q s y e b _ l r h es eb sure ec ed n nm a z (Rel.in_cell {t = t} m i) cv env =
        let lt = ap B.pending_control ec in
        let zs : List ℕ = T.free_of_numbers (target p) (C.operands (eliminate_form g q s (SetLocal y e)))
        (1 ∷ []) ++ [] in
        target_alone
        (goes-setting p input w c d k f q s y t l r h es a z i env (ap Space.control_locations ed) e
        (M.gather zs r) ed n nm
        (covers-gather (free_cells p (Node q s (SetLocal y e))) (free_cells p e) zs r cv (λ x j. inr j)
        (λ x j. in-left x (free_cells p e ++ []) [] (in-left x (free_cells p e) [] j)))
        (gather-points g w zs r h (λ x u j q'. looked-up g w r h x u env q')))
        (omega arith)

    -- a node with operands begins
    operands_named : (q : Place) (s : ℕ) (fo : Form) (y : ℕ) → has_order fo ≡ true →
        IsIn y (T.free_of_numbers (target p) (C.operands (eliminate_form g q s fo))
        (line_at (order_of p) s) ++ T.free_of_body (target p) (eliminate_form g q s fo)) →
        IsIn y (F.free_form (inner_cells p) (eliminate_form g q s fo))
    operands_named q s (Call a ds) y o i = ⊎_elim
        (numbers-all (target p) (C.more (eliminate g a) (eliminate_all g ds)) (line_at (order_of p) s) y)
        (λ j. absurd j)
        (in-either y
        (T.free_of_numbers (target p) (C.more (eliminate g a) (eliminate_all g ds)) (line_at (order_of p) s)) [] i)
    operands_named q s (PrimUse a ds) y o i = ⊎_elim
        (numbers-all (target p) (eliminate_all g ds) (line_at (order_of p) s) y) (λ j. absurd j)
        (in-either y (T.free_of_numbers (target p) (eliminate_all g ds) (line_at (order_of p) s)) [] i)
    operands_named q s (Apply a b) y o i =
        ⊎_elim
        (λ j. ⊎_elim (in-left y (free_cells p a) (free_cells p b))
        (λ m. ⊎_elim (in-right y (free_cells p a) (free_cells p b)) (λ z. absurd z)
        (in-either y (free_cells p b) [] m))
        (in-either y (free_cells p a) (free_cells p b ++ [])
        (numbers-all (target p) (C.more (eliminate g a) (C.more (eliminate g b) C.none))
        (line_at (order_of p) s) y j)))
        (λ j. absurd j)
        (in-either y
        (T.free_of_numbers (target p) (C.more (eliminate g a) (C.more (eliminate g b) C.none))
        (line_at (order_of p) s)) [] i)
    operands_named q s (Let xs ds e) y o i =
        ⊎_elim
        (λ j. in-left y (F.free_all (inner_cells p) (eliminate_all g ds)) _
        (numbers-all (target p) (eliminate_all g ds) (line_at (order_of p) s) y j))
        (λ j. in-right y (F.free_all (inner_cells p) (eliminate_all g ds)) _ j)
        (in-either y (T.free_of_numbers (target p) (eliminate_all g ds) (line_at (order_of p) s)) _ i)
    operands_named q s _ y o i = cc

    begins : (q : Place) (s : ℕ) (fo : Form) (r : M.Env) (h : S.Env) (es : List Event) → has_order fo ≡ true →
        Good p s fo → EachForm (Good p) fo → Covers (F.free_form (inner_cells p) (eliminate_form g q s fo)) r →
        EnvRel g w r h →
        Goes p input (R.continue (source p) d q s fo [] h d.frames es)
        (T.continue (target p) c q s (eliminate_form g q s fo) [] r c.frames es)
    begins q s fo r h es o n m cv env =
        continues p input ready bodies same small w c d k held q s fo [] []
        (F.free_form (inner_cells p) (eliminate_form g q s fo)) r h c.frames d.frames es o n m none_yet cv
        (λ y i. operands_named q s fo y o i) env f

    unmarked : (b a : Bool) → b ≡ false → b ≡ true → a ≡ true
    unmarked b a m n = cc

    -- an expression is evaluated
    evals_form : (q : Place) (s : ℕ) (fo : Form) (r : M.Env) (h : S.Env) (es : List Event) →
        c.control ≡ M.Eval (eliminate g (Node q s fo)) r → d.control ≡ R.Eval (Node q s fo) h → Good p s fo →
        EachForm (Good p) fo → (is_mark (Node q s fo) ≡ true → may_top p d.frames ≡ true) →
        Covers (F.free_form (inner_cells p) (eliminate_form g q s fo)) r → EnvRel g w r h →
        Next p input c d (M.Eval (eliminate g (Node q s fo)) r) (R.Eval (Node q s fo) h) es
    evals_form q s (Quote x) r h es ec ed n m mark cv env = both
        (goes p input w c d k _ _ _ _ es (Rel.val (const-alike p w _ x q s k.statics (n.node).in_range mark)) f)
    evals_form q s (Local y) r h es ec ed n m mark cv env = local_read q s y r h es ec ed
        (cv.has y (is_named y (g y) q s)) env
    evals_form q s (Global x) r h es ec ed n m mark cv env = both (reads-global p input w c d k held x q es f)
    evals_form q s (Lambda l) r h es ec ed n m mark cv env = both
        (goes-made p input w c d k _ _ _ _ es (closure-made p inner w l (inner_cells p l) r h cv (λ y i. i) env) f)
    evals_form q s (If a b e) r h es ec ed n m mark cv env =
        let marks = (n.node).marks_are_operands in
        both (evaluates p input ready bodies same small w c d k held a
        (F.free_form (inner_cells p) (eliminate_form g q s (If a b e))) r h _
        (R.push (R.Sel b e (S.cut (free (inner_free p) b ++ free (inner_free p) e) h)) d.frames) es m.0
        (unmarked (is_mark a) _ marks.0) cv (λ y i. in-left y (free_cells p a) _ i) env
        (Rel.frame
        (Rel.sel m.1 m.2 (marks.1).0 ((marks.1).1).0
        (covers-gather _ (free_cells p b ++ free_cells p e) (free_cells p b ++ free_cells p e) r cv
        (λ y i. in-right y (free_cells p a) _ i) (λ y i. i))
        (gather-cut g w (free_cells p b ++ free_cells p e) (free (inner_free p) b ++ free (inner_free p) e) r h env
        (λ y i. ⊎_elim (λ j. in-left y (free (inner_free p) b) _ ((same b m.1).to y j))
        (λ j. in-right y (free (inner_free p) b) _ ((same e m.2).to y j))
        (in-either y (free_cells p b) (free_cells p e) i))))
        f))
    evals_form q s (SetLocal y e) r h es ec ed n m mark cv env =
        let found = cv.has y (inl refl) in
        let u = looked-up g w r h y found.0 env found.1 in
        set q s y e (g y) found.0 u.0 r h es refl n.binds ec ed m (n.node).marks_are_operands found.1 u.1 u.2 cv env
    evals_form q s (SetGlobal x e) r h es ec ed n m mark cv env =
        both (evaluates p input ready bodies same small w c d k held e (free_cells p e) r h _
        (R.push (R.SetGlo x false q) d.frames) es m (unmarked (is_mark e) _ (n.node).marks_are_operands) cv
        (λ y i. i) env (Rel.frame Rel.set_global f))
    evals_form q s (DefGlobal x e) r h es ec ed n m mark cv env =
        both (evaluates p input ready bodies same small w c d k held e (free_cells p e) r h _
        (R.push (R.SetGlo x true q) d.frames) es m (unmarked (is_mark e) _ (n.node).marks_are_operands) cv
        (λ y i. i) env (Rel.frame Rel.set_global f))
    evals_form q s (Seq ds) r h es ec ed n m mark cv env = both
        (sequences p input ready bodies same small w c d k held ds (free_all_cells p ds) r h _ _ es m
        (n.node).marks_are_operands cv (λ y i. i) env f)
    evals_form q s (Letrec xs ls e) r h es ec ed n m mark cv env = both
        (groups.makes w c d k f xs ls e r h es m (n.node).marks_are_operands n.binds (n.node).letrec_for_good
        (n.node).shaped cv env)
    evals_form q s (Call a ds) r h es ec ed n m mark cv env = both (begins q s (Call a ds) r h es refl n m cv env)
    evals_form q s (PrimUse a ds) r h es ec ed n m mark cv env = both (begins q s (PrimUse a ds) r h es refl n m cv env)
    evals_form q s (Apply a b) r h es ec ed n m mark cv env = both (begins q s (Apply a b) r h es refl n m cv env)
    evals_form q s (Let xs ds e) r h es ec ed n m mark cv env = both (begins q s (Let xs ds e) r h es refl n m cv env)

  -- the location of a frame that sets a variable has one
  abbrev pub SetsVar : List S.Item → R.Work → Type 0
  SetsVar st (R.SetVar l) = VarAt st l
  SetsVar st _ = Unit {0}

  same_truth : (w : World Value) (b : Bool) (v u : Value) → Alike w b v u → is_false v ≡ is_false u
  same_truth w b _ _ Like.fix = refl
  same_truth w b _ _ Like.char = refl
  same_truth w b _ _ Like.truth = refl
  same_truth w b _ _ Like.nil = refl
  same_truth w b _ _ Like.unspecified = refl
  same_truth w b _ _ (Like.undefined m) = refl
  same_truth w b _ _ Like.end_object = refl
  same_truth w b _ _ (Like.at i) = refl

  got : (xs : List ℕ) (n : ℕ) → n < length xs → (x : ℕ) × (slice_get xs n ≡ Some x)
  got [] n h = absurd (omega arith)
  got (x ∷ xs) zero h = (x, refl)
  got (x ∷ xs) (suc n) h = got xs n (omega arith)

  length_last : (vs : List Value) (v : Value) → length (vs ++ v ∷ []) ≡ suc (length vs)
  length_last [] v = refl
  length_last (u ∷ vs) v = ap suc (length_last vs v)

  module _ (w : World Value) (c : T.TreeConfig) (d : R.Config) (k : Ground p w c d) (held : Held p w c d) where
    chooses : (b : Bool) (s t : R.State) (x y : T.TreeState) → Goes p input s x → Goes p input t y →
        Goes p input (cond b s t) (cond b x y)
    chooses true s t x y h m = h
    chooses false s t x y h m = m

    not_in_two : (b a : Bool) → b ≡ false → b ≡ true → a ≡ true
    not_in_two b a m n = cc

    tops : (n : ℕ) (o : Option Tree) (fs : List (M.Frame T.TreeWork)) (hs : List R.Frame) (es : List Event) →
        tree_at p.forms n ≡ o → FramesRel p w fs hs →
        Goes p input (R.top (source p) d n o hs es) (M.top L c n (Lines.with_cells_at g o) fs es)
    tops n None fs hs es e f = here (stopped held)
    tops n (Some e) fs hs es q f =
        let good = Lines.each-tree (Good p) p.forms n e ready.forms q in
        goes p input w c d k _ _ _ _ es
        (Rel.eval good (λ m. absurd (unmarked_form p.forms n e ready.no_mark q m))
        (record { has = λ y i. absurd (ready.closed n e y q ((same e good).to y i)) })
        (gather-points g w (free_cells p e) M.Empty S.Empty (λ y v i z. absurd (nothing_there y v z))))
        (Rel.frame Rel.top f)
      where
        nothing_there : (y : ℕ) (v : Value) → M.lookup M.Empty y ≡ Some v → ⊥
        nothing_there y v z = let none_some : None ≡ Some v = z in cc

        unmarked_form : (ds : Trees) (n : ℕ) (e : Tree) → NoMark ds → tree_at ds n ≡ Some e → is_mark e ≡ true → ⊥
        unmarked_form none n e h q m = cc
        unmarked_form (more a ds) zero e h q m = let z : is_mark a ≡ false = h.0 in let y = ap is_mark
            (same_Some a e q) in cc
        unmarked_form (more a ds) (suc n) e h q m = unmarked_form ds n e h.1 q m

    gives : (v u : Value) (a : M.Work T.TreeWork) (b : R.Work) (fs : List (M.Frame T.TreeWork)) (hs : List R.Frame)
        (es : List Event) → WorkRel p w a b → Alike w (may_work p b) v u → SetsVar d.store b → FramesRel p w fs hs →
        Goes p input (R.give (source p) d u b hs es) (M.give L c v a fs es)
    gives v u _ _ fs hs es (Rel.top {k = n}) x st f =
        subst (λ o. Goes p input (R.top (source p) d n (tree_at p.forms n) hs es) (M.top L c n o fs es))
        (sym (Lines.same-tree g p.forms n)) (tops n (tree_at p.forms n) fs hs es refl f)
    gives v u _ _ fs hs es (Rel.sel {a = a} {b = b} {r = r} {q = h} n m y z cv env) x st f =
        subst (λ t. Goes p input
        (cond (is_false u) (R.go d (R.eval (source p) b h) hs es) (R.go d (R.eval (source p) a h) hs es))
        (cond t (T.evaluate_cut (target p) c (eliminate g b) r fs es)
        (T.evaluate_cut (target p) c (eliminate g a) r fs es))) (sym (same_truth w false v u x))
        (chooses (is_false u) _ _ _ _
        (evaluates p input ready bodies same small w c d k held b (free_cells p a ++ free_cells p b) r h fs hs es m
        (not_in_two (is_mark b) _ z) cv (λ e i. in-right e (free_cells p a) _ i) env f)
        (evaluates p input ready bodies same small w c d k held a (free_cells p a ++ free_cells p b) r h fs hs es n
        (not_in_two (is_mark a) _ y) cv (λ e i. in-left e (free_cells p a) _ i) env f))
    gives v u _ _ fs hs es
        (Rel.set_global {n = n} {d = true} {q = q}) x st f = assigns-global p input w c d k held n v u fs hs es x f
    gives v u _ _ fs hs es
        (Rel.set_global {n = n} {d = false} {q = q}) x st f = sets-global p input w c d k held n q v u fs hs es x f
    gives v u _ _ fs hs es
        (Rel.set_cell {t = t} {s = s} i) x st f = sets-cell p input w c d k held t s v u st.0 fs hs es i st.1 x f
    gives v u _ _ fs hs es
        (Rel.rest {es = ds} {r = r} {q = h} n m cv env) x st f = sequences p input ready bodies same small w c d k held ds (free_all_cells p ds) r h fs hs es n m cv (λ y i. i) env f
    gives v u _ _ fs hs es
        (Rel.args {q = q} {s = s} {f = fo} {vs = vs} {us = us} {r = r} {h = h} o n m xs lt cv env) x st f =
        let at = got (line_at (order_of p) s) (length us) lt in
        let value : Alike w (Rel.may_mark p fo at.0) v u = subst (λ e. Alike w (Rel.may_number p fo e) v u) at.1 x in
        continues p input ready bodies same small w c d k held q s fo (vs ++ v ∷ []) (us ++ u ∷ []) _ r h fs hs es o n m
        (values-last p w fo (line_at (order_of p) s) vs us at.0 v u xs at.1 value) cv
        (λ y i. subst
        (λ z. IsIn y
        (T.free_of_numbers (target p) (C.operands (eliminate_form g q s fo))
        (drop z (line_at (order_of p) s)) ++ T.free_of_body (target p) (eliminate_form g q s fo)))
        (length_last us u) i) env f

    -- the variables of the frame on top that are set are there
    abbrev pub TopSets : List S.Item → List R.Frame → Type 0
    TopSets st [] = Unit {0}
    TopSets st (f ∷ fs) = SetsVar st f.work

    gives_top : (v u : Value) (fs : List (M.Frame T.TreeWork)) (hs : List R.Frame) (es : List Event) →
        FramesRel p w fs hs → Alike w (may_top p hs) v u → TopSets d.store hs →
        Goes p input (R.give_top (source p) d u hs es) (M.give_top L c v fs es)
    gives_top v u _ _ es Rel.no_frame x st = loses p input w c d k held es
    gives_top v u _ _ es (Rel.frame {m = true} a fs) x st = goes p input w c d k _ _ _ _ _
        (Rel.val (anywhere w _ v u x)) (Rel.frame a fs)
    gives_top v u _ _ es (Rel.frame {m = false} {a = a} {b = b} h fs) x st = gives v u a b _ _ es h x st fs

    -- one step from related configurations
    pub moves : (m : M.Control C.Tree) (n : R.Control) (es : List Event) → FramesRel p w c.frames d.frames →
        c.control ≡ m → d.control ≡ n → ControlRel p w d.frames m n → TopSets d.store d.frames →
        Next p input c d m n es
    moves _ _ es f ec ed
        (Rel.eval {e = Node q s fo} {r = r} {q = h} x mark cv env) st = evals_form w c d k held f q s fo r h es ec ed x.0 x.1 mark cv env
    moves _ _ es f ec ed (Rel.bound {e = e} {r = r} {q = h} x mark cv env) st = both
        (evaluates p input ready bodies same small w c d k held e (free_cells p e) r h _ _ es x
        (not_in_two (is_mark e) _ mark) cv (λ y i. i) env f)
    moves _ _ es f ec ed (Rel.val {v = v} {u = u} x) st = both (gives_top v u c.frames d.frames es f x st)
    moves _ _ es f ec ed (Rel.entering {t = t} {s = s} {vs = vs} {us = us} i x) st = both
        (entries.enters w c d k held f t s vs us es i x)
