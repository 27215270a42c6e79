-- One step of both machines, or steps of the program with cells alone where a cell is read or set.
use Rattle.std.proofs.Common.{◌≡◌, refl, sym, ap, ◌∙◌, subst, subst₂, ℕ, ◌<◌, inl, ⊎_elim, arith, Bool, true, false, List, [], ◌∷◌, ◌++◌, length, Some, slice_get, slice_set, zero-add, append_assoc}
use Rattle.std.proofs.lemmas.Option.{same_Some}
use Rattle.std.proofs.lemmas.Bool.{both_ways}
use Rattle.tb_prim.specs.declared.place.Place.{Place}
use Rattle.tb_prim.specs.declared.constant.Const.{Const}
use Rattle.tb_prim.specs.declared.event.Event.{Event}
use Rattle.tb_semantics.specs.Graph.{IsIn}
use Rattle.tb_semantics.proofs.Worlds.{Both, World}
use Rattle.tb_core.specs.Tree.{Tree, Node, Quote, Local, SetLocal, ProgramTree}
use Rattle.tb_core.specs.FreeVariables.{is_assigned}
use Rattle.tb_core.specs.OperandOrder.{order_of}
use Rattle.tb_core.specs.Rules.{Each, ConstKeeps, is_mark}
use Rattle.tb_core.specs.Store as S
use Rattle.tb_core.specs.Store.{Value, At, value_of}
use Rattle.tb_core.specs.Space as Space
use Rattle.tb_core.specs.Space.{values_locations, env_locations}
use Rattle.tb_core.specs.Reference as R
use Rattle.tb_core.specs.Partners as Like
use Rattle.tb_ir.specs.Tree as C
use Rattle.tb_ir.specs.Machine as M
use Rattle.tb_ir.specs.TreeMachine as T
use Rattle.tb_ir.specs.TreeMachine.{env_values}
use Rattle.tb_ir.specs.Space as V
use Rattle.tb_assign.specs.Eliminate.{cell_name, eliminate, cells_of}
use Rattle.tb_assign.proofs.Rel as Rel
use Rattle.tb_assign.proofs.Rel.{Partner, Alike, AllAlike, VarRel, EnvRel, Covers, ControlRel, WorkRel, FramesRel, ItemRel, ValuesRel, none_yet, Good, Ready, may_top, free_cells, free_all_cells, source, target}
use Rattle.tb_assign.proofs.Envs.{gather-points, gather-finds, looked-up}
use Rattle.tb_assign.proofs.Match.{Matches, match-one, match-both, match-more, match-env, lookup-location, sources}
use Rattle.tb_assign.proofs.Shape.{Held, alike-held, holds-for, source_roots}
use Rattle.tb_assign.proofs.Base.{Ground, reading, setting, Goes, here, alone, step, pending_state, held-by}
use Rattle.tb_assign.proofs.Simple.{goes, goes-written, anywhere, fails, loses}

-- both take a step, or the program with cells alone while its measure falls
pub data Next (p : ProgramTree) (input : List ℕ) (c : T.TreeConfig) (d : R.Config) (k : M.Control C.Tree)
    (m : R.Control) (es : List Event) : Type 0 where
  both : Goes p input (R.step_control (source p) d m es)
      (M.step_control (T.language (cells_of p) (order_of p)) c k es) → Next p input c d k m es
  target_alone : Goes p input (R.Running d es) (M.step_control (T.language (cells_of p) (order_of p)) c k es) →
      pending_state (M.step_control (T.language (cells_of p) (order_of p)) c k es) < pending_state (M.Running c es) →
      Next p input c d k m es

-- a constant stands for itself
pub const-alike : (p : ProgramTree) (w : World Value) (b : Bool) (k : Const) (q : Place) (s : ℕ) →
    ((n : ℕ) → n < length p.statics → IsIn (Both n n) w) → ConstKeeps (length p.statics) k →
    (is_mark (Node q s (Quote k)) ≡ true → b ≡ true) → Alike w b (value_of k) (value_of k)
const-alike p w b (Const.Fix n) q s st h m = Like.fix
const-alike p w b (Const.Char n) q s st h m = Like.char
const-alike p w b (Const.Bool n) q s st h m = Like.truth
const-alike p w b Const.Nil q s st h m = Like.nil
const-alike p w b Const.Unspecified q s st h m = Like.unspecified
const-alike p w b Const.Undefined q s st h m = Like.undefined (m refl)
const-alike p w b (Const.Stat n) q s st h m = Like.at (st n h)

-- what a variable that is not assigned holds is read
module _ (p : ProgramTree) (input : List ℕ) (w : World Value) (c : T.TreeConfig) (d : R.Config)
    (k : Ground p w c d) where
  gives_read : (q : Place) (v u : Value) (es : List Event) → Alike w false v u → FramesRel p w c.frames d.frames →
      Goes p input (R.read_value d q (Some u) es) (M.give_value c (Some v) es)
  gives_read q _ _ es Like.fix f = goes p input w c d k _ _ _ _ es (Rel.val Like.fix) f
  gives_read q _ _ es Like.char f = goes p input w c d k _ _ _ _ es (Rel.val Like.char) f
  gives_read q _ _ es Like.truth f = goes p input w c d k _ _ _ _ es (Rel.val Like.truth) f
  gives_read q _ _ es Like.nil f = goes p input w c d k _ _ _ _ es (Rel.val Like.nil) f
  gives_read q _ _ es Like.unspecified f = goes p input w c d k _ _ _ _ es (Rel.val Like.unspecified) f
  gives_read q _ _ es (Like.undefined m) f = let z : false ≡ true = m in absurd (both_ways false refl z)
  gives_read q _ _ es Like.end_object f = goes p input w c d k _ _ _ _ es (Rel.val Like.end_object) f
  gives_read q _ _ es (Like.at i) f = goes p input w c d k _ _ _ _ es (Rel.val (Like.at i)) f

  pub reads-plain : (q : Place) (y : ℕ) (v : Value) (s : ℕ) (r : M.Env) (h : S.Env) (es : List Event) →
      M.lookup r y ≡ Some v → S.lookup h y ≡ Some s → VarRel w false v s → FramesRel p w c.frames d.frames →
      Goes p input (R.read_value d q (R.local_value (S.lookup h y) d.store) es) (M.give_value c (M.lookup r y) es)
  reads-plain q y v s r h es a b (Rel.in_cell e i) f = absurd (both_ways false refl e)
  reads-plain q y v s r h es a b (Rel.plain e i) f =
      let there = holds-for p w c.store d.store (source_roots p d) k.stores s v i in
      subst₂ (λ o n. Goes p input (R.read_value d q (R.local_value o d.store) es) (M.give_value c n es)) (sym b) (sym a)
      (subst (λ o. Goes p input (R.read_value d q (R.held_value o) es) (M.give_value c (Some v) es)) (sym there.1)
      (gives_read q v there.0 es there.2 f))

  -- the one variable of a name
  one_found : (y : ℕ) (r : M.Env) (h : S.Env) → EnvRel (is_assigned p) w r h →
      EnvRel (is_assigned p) w (M.gather (y ∷ []) r) h
  one_found y r h v = gather-points (is_assigned p) w (y ∷ []) r h (λ z u i e. looked-up (is_assigned p) w r h z u v e)

  match_cell : (t s y : ℕ) (h : S.Env) → S.lookup h y ≡ Some s → IsIn (Both t s) w →
      Matches w (sources p w d.store (source_roots p d)) (t ∷ []) (env_locations h)
  match_cell t s y h e i =
      match-more w (sources p w d.store (source_roots p d))
      (λ n. ⊎_elim (λ q. subst (λ a. IsIn a (env_locations h)) q (lookup-location h y s e)) (λ j. absurd j))
      (match-one w (sources p w d.store (source_roots p d)) t s i)

-- the program with cells takes a step by itself
pub alone_to : (p : ProgramTree) (input : List ℕ) (w : World Value) (t u : T.TreeState) (s : R.State) → step p t ≡ u →
    M.events_of t ≡ R.events_of s → Held p w (M.config_of t) (R.config_of s) → pending_state u < pending_state t →
    Goes p input s u → Goes p input s t
alone_to p input w t u s e ev h lt n = alone (alike-held p w input t s ev h)
    (subst (λ v. pending_state v < pending_state t) (sym e) lt) (subst (Goes p input s) (sym e) n)

module _ (p : ProgramTree) (input : List ℕ) (w : World Value) (c : T.TreeConfig) (d : R.Config) (k : Ground p w c d)
    (f : FramesRel p w c.frames d.frames) where
  -- an own frame and a control above the frames of the configuration, in the same ground
  abbrev above : M.Control C.Tree → T.TreeWork → T.TreeConfig
  above m a = record c { control = m; frames = record { marked = false; work = M.Own a } ∷ c.frames }

  ground_above : (m : M.Control C.Tree) (a : T.TreeWork) → Ground p w (above m a) d
  ground_above m a = record { globals = k.globals; stores = k.stores; statics = k.statics; input = k.input; met = k.met }

  held_above : (m : M.Control C.Tree) (a : T.TreeWork) (ls : List ℕ) →
      Matches w (sources p w d.store (source_roots p d)) ls (Space.control_locations d.control) →
      V.control_locations m ++
      (values_locations
      (T.work_values a) ++ V.frames_locations T.work_values c.frames) ≡ ls ++ V.frames_locations T.work_values c.frames → Held p w (above m a) d
  held_above m a ls h e = held-by p w (above m a) d (ground_above m a) c.frames ls f (zero-add _) h e

  -- the cell of a variable is found, and the frame of its node waits for it
  module _ (q : Place) (s y t l : ℕ) (r : M.Env) (h : S.Env) (es : List Event)
      (here_t : M.lookup r y ≡ Some (At t)) (there_l : S.lookup h y ≡ Some l) (at : IsIn (Both t l) w)
      (v : EnvRel (is_assigned p) w r h)
      (control : Space.control_locations d.control ≡ env_locations h) where
    named : M.lookup (M.gather (y ∷ []) r) y ≡ Some (At t)
    named = gather-finds (y ∷ []) r y (At t) (inl refl) here_t

    match_named : Matches w (sources p w d.store (source_roots p d))
        (values_locations (env_values (M.gather (y ∷ []) r))) (Space.control_locations d.control)
    match_named = subst
        (Matches w (sources p w d.store (source_roots p d)) (values_locations (env_values (M.gather (y ∷ []) r))))
        (sym control)
        (match-env p w d.store (source_roots p d) (holds-for p w c.store d.store (source_roots p d) k.stores)
        (is_assigned p) (M.gather (y ∷ []) r) h (one_found p input w c d k y r h v))

    match_there : Matches w (sources p w d.store (source_roots p d)) (t ∷ []) (Space.control_locations d.control)
    match_there = subst (Matches w (sources p w d.store (source_roots p d)) (t ∷ [])) (sym control)
        (match_cell p input w c d k t l y h there_l at)

    -- a variable that is read
    pub goes-reading : d.control ≡ R.Eval (Node q s (Local y)) h →
        Goes p input (R.Running d es)
        (M.Running
        (above (M.Eval (cell_name (is_assigned p) q s y) (M.gather (y ∷ []) r))
        (T.Args q s (C.CellGet (cell_name (is_assigned p) q s y)) [] M.Empty)) es)
    goes-reading e =
        let a : T.TreeWork = T.Args q s (C.CellGet (cell_name (is_assigned p) q s y)) [] M.Empty in
        let held1 = held_above (M.Eval (cell_name (is_assigned p) q s y) (M.gather (y ∷ []) r)) a _ match_named refl in
        let held2 = held_above (M.Val (At t)) a _ match_there refl in
        alone_to p input w _ (M.Running (above (M.Val (At t)) a) es) _
        (ap (λ o. M.give_value
        (above (M.Eval (cell_name (is_assigned p) q s y) (M.gather (y ∷ []) r)) a) o es) named) refl held1
        (omega arith)
        (here (reading {w = w} (ground_above (M.Val (At t)) a) f refl refl e there_l at held2))

    -- a variable that is set; `z` is the environment of its expression
    pub goes-setting : (e : Tree) (z : M.Env) → d.control ≡ R.Eval (Node q s (SetLocal y e)) h → Each (Good p) e →
        is_mark e ≡ false → Covers (free_cells p e) z → EnvRel (is_assigned p) w z h →
        Goes p input (R.Running d es)
        (M.Running
        (above (M.Eval (cell_name (is_assigned p) q s y) (M.gather (y ∷ []) r))
        (T.Args q s (C.CellSet (cell_name (is_assigned p) q s y) (eliminate (is_assigned p) e)) [] z)) es)
    goes-setting e z q_d good no_mark cv ve =
        let a : T.TreeWork = T.Args q s
        (C.CellSet (cell_name (is_assigned p) q s y) (eliminate (is_assigned p) e)) [] z in
        let waits : Matches w (sources p w d.store (source_roots p d)) (values_locations (env_values z))
        (Space.control_locations d.control) =
        subst (Matches w (sources p w d.store (source_roots p d)) (values_locations (env_values z))) (sym control)
        (match-env p w d.store (source_roots p d) (holds-for p w c.store d.store (source_roots p d) k.stores)
        (is_assigned p) z h ve) in
        let held1 = held_above (M.Eval (cell_name (is_assigned p) q s y) (M.gather (y ∷ []) r)) a _
        (match-both w (sources p w d.store (source_roots p d)) match_named waits)
        (sym (append_assoc (values_locations (env_values (M.gather (y ∷ []) r)))
        (values_locations (env_values z)) _)) in
        let held2 = held_above (M.Val (At t)) a _
        (match-both w (sources p w d.store (source_roots p d)) match_there waits)
        (sym (append_assoc (t ∷ []) (values_locations (env_values z)) _)) in
        alone_to p input w _ (M.Running (above (M.Val (At t)) a) es) _
        (ap (λ o. M.give_value
        (above (M.Eval (cell_name (is_assigned p) q s y) (M.gather (y ∷ []) r)) a) o es) named) refl held1
        (omega arith)
        (here (setting {w = w} (ground_above (M.Val (At t)) a) f refl refl q_d there_l at good no_mark cv ve held2))

-- a cell that is read where its source reads a variable
module _ (p : ProgramTree) (input : List ℕ) (w : World Value) (c : T.TreeConfig) (d : R.Config) (k : Ground p w c d)
    (held : Held p w c d) where
  gets_held : (q : Place) (v u : Value) (fs : List (M.Frame T.TreeWork)) (es : List Event) → Alike w true v u →
      FramesRel p w fs d.frames → Goes p input (R.read_value d q (Some u) es) (M.get_held c q (Some (M.Cell v)) fs es)
  gets_held q _ _ fs es (Like.undefined m) f = fails p input w c d k held _ q es
  gets_held q _ _ fs es Like.fix f = goes p input w c d k _ _ _ _ es (Rel.val Like.fix) f
  gets_held q _ _ fs es Like.char f = goes p input w c d k _ _ _ _ es (Rel.val Like.char) f
  gets_held q _ _ fs es Like.truth f = goes p input w c d k _ _ _ _ es (Rel.val Like.truth) f
  gets_held q _ _ fs es Like.nil f = goes p input w c d k _ _ _ _ es (Rel.val Like.nil) f
  gets_held q _ _ fs es Like.unspecified f = goes p input w c d k _ _ _ _ es (Rel.val Like.unspecified) f
  gets_held q _ _ fs es Like.end_object f = goes p input w c d k _ _ _ _ es (Rel.val Like.end_object) f
  gets_held q _ _ fs es (Like.at i) f = goes p input w c d k _ _ _ _ es (Rel.val (Like.at i)) f

  gets_item : (q : Place) (i : M.Item) (j : S.Item) (fs : List (M.Frame T.TreeWork)) (es : List Event) →
      ItemRel p w i j → FramesRel p w fs d.frames →
      Goes p input (R.read_value d q (R.held_value (Some j)) es) (M.get_held c q (Some i) fs es)
  gets_item q _ _ fs es (Rel.cell h) f = gets_held q _ _ fs es h f
  gets_item q _ _ fs es (Rel.object h) f = loses p input w c d k held es
  gets_item q _ _ fs es (Rel.closure cv e) f = loses p input w c d k held es

  pub gets-cell : (q : Place) (t l y : ℕ) (h : S.Env) (fs : List (M.Frame T.TreeWork)) (es : List Event) →
      IsIn (Both t l) w → S.lookup h y ≡ Some l → FramesRel p w fs d.frames →
      Goes p input (R.read_value d q (R.local_value (S.lookup h y) d.store) es) (M.get_cell c q (At t) fs es)
  gets-cell q t l y h fs es at e f =
      let x = k.stores.linked t l at in
      subst (λ o. Goes p input (R.read_value d q (R.local_value o d.store) es) (M.get_cell c q (At t) fs es)) (sym e)
      (subst₂ (λ a b. Goes p input (R.read_value d q (R.held_value b) es) (M.get_held c q a fs es)) (sym x.here)
      (sym x.there) (gets_item q x.item x.other fs es x.alike f))

  -- a cell that is set where its source sets a variable
  sets_item : (t l : ℕ) (i : M.Item) (j : S.Item) (v u x : Value) (fs : List (M.Frame T.TreeWork))
      (hs : List R.Frame) (es : List Event) → IsIn (Both t l) w → ItemRel p w i j → j ≡ S.Var x → Alike w false v u →
      FramesRel p w fs hs →
      Goes p input (R.go_with d (R.Val S.Unspecified) hs (slice_set d.store l (S.Var u)) es)
      (M.set_held c t (Some i) v fs es)
  sets_item t l _ _ v u x fs hs es at (Rel.cell h) e a f = goes-written p input w c d k t l (M.Cell v)
      (S.Var u) fs hs es at (Rel.cell (anywhere w true v u a)) f
  sets_item t l _ _ v u x fs hs es at (Rel.object h) e a f = cc
  sets_item t l _ _ v u x fs hs es at (Rel.closure cv h) e a f = cc

  pub sets-cell : (t l : ℕ) (v u x : Value) (fs : List (M.Frame T.TreeWork)) (hs : List R.Frame) (es : List Event) →
      IsIn (Both t l) w → slice_get d.store l ≡ Some (S.Var x) → Alike w false v u → FramesRel p w fs hs →
      Goes p input (R.go_with d (R.Val S.Unspecified) hs (slice_set d.store l (S.Var u)) es)
      (M.set_cell c (At t) v fs es)
  sets-cell t l v u x fs hs es at e a f =
      let z = k.stores.linked t l at in
      subst (λ o. Goes p input (R.go_with d (R.Val S.Unspecified) hs (slice_set d.store l (S.Var u)) es)
      (M.set_held c t o v fs es)) (sym z.here)
      (sets_item t l z.item z.other v u x fs hs es at z.alike (same_Some z.other (S.Var x) (sym z.there ∙ e)) a f)
