-- A program with cells keeps its source: its events, what it holds at once, and what it makes.
use Rattle.std.proofs.Common.{◌≡◌, refl, sym, ap, ◌∙◌, subst, subst₂, ℕ, zero, suc, ◌+◌, ◌<◌, ◌≤◌, arith, Bool, true, false, IsTrue, List, [], ◌∷◌, ◌++◌, length, map, replicate, append_assoc, append-nil, length-append}
use Rattle.std.proofs.lemmas.Bool.{both_ways}
use Rattle.tb_prim.specs.declared.constant.Const.{Const}
use Rattle.tb_prim.specs.declared.constant.Static.{Static}
use Rattle.tb_prim.specs.declared.event.Event.{Event}
use Rattle.tb_semantics.specs.Graph.{IsIn}
use Rattle.tb_semantics.specs.Runs.{after}
use Rattle.tb_semantics.specs.Keeps.{Keeps}
use Rattle.tb_semantics.proofs.RunLaws.{run-add}
use Rattle.tb_semantics.proofs.Simulation as Sim
use Rattle.tb_semantics.proofs.Simulation.{keeps_from}
use Rattle.tb_semantics.proofs.Worlds.{Both, World, Stores, both_made}
use Rattle.tb_core.specs.Tree.{Tree, Node, Form, Quote, Local, Global, Lambda, If, SetLocal, SetGlobal, DefGlobal, Let, Letrec, Seq, Call, PrimUse, Apply, Trees, none, more, ProgramTree}
use Rattle.tb_core.specs.FreeVariables.{free, inner_free, is_assigned}
use Rattle.tb_core.specs.OperandOrder.{order_of}
use Rattle.tb_core.specs.Rules.{Every, Each, EachForm, EachAll, KeepsRules, is_mark, StaticsKeep, StaticKeeps, PartKeeps}
use Rattle.tb_core.specs.Store as S
use Rattle.tb_core.specs.Store.{Value, At, value_of, static_object}
use Rattle.tb_core.specs.Measures as N
use Rattle.tb_core.specs.Reference as R
use Rattle.tb_core.specs.Partners as Like
use Rattle.tb_core.specs.Partners.{AlikeLists, AlikeObjects}
use Rattle.tb_core.proofs.Kept as Kept
use Rattle.tb_core.proofs.NeverLost.{run-keeps}
use Rattle.tb_core.proofs.Steps as Steps
use Rattle.tb_ir.specs.Tree as C
use Rattle.tb_ir.specs.Machine as M
use Rattle.tb_ir.specs.TreeMachine as T
use Rattle.tb_ir.specs.Measures.{tree_measured}
use Rattle.tb_assign.specs.Eliminate.{cell_name, cells_of, eliminate}
use Rattle.tb_assign.proofs.Free.{Same, AreSmall, NamesSmall, same-free, same-inner, small-free, small-inner}
use Rattle.tb_assign.proofs.Rel as Rel
use Rattle.tb_assign.proofs.Rel.{Alike, FramesRel, Good, Ready, free_cells, inner_cells, source, target}
use Rattle.tb_assign.proofs.Grow.{items}
use Rattle.tb_assign.proofs.Shape.{alike-held}
use Rattle.tb_assign.proofs.Base.{Ground, Base, running, stopped, lost, reading, setting, Goes, here, alone, step, source_step, pending_state, held}
use Rattle.tb_assign.proofs.Moves.{Next, both, target_alone, gets-cell}
use Rattle.tb_assign.proofs.Nodes.{Bodies, evaluates}
use Rattle.tb_assign.proofs.Step as Step
use Rattle.tb_assign.proofs.Bodies.{all-bodies}
use Rattle.tb_assign.proofs.Entries.{all-entries, pairs_more}
use Rattle.tb_assign.proofs.Groups.{all-groups, pair_in}

-- what holds of each node holds in a weaker form
mutual
  pub names_small : (p : ProgramTree) (e : Tree) → Each (Good p) e → Each NamesSmall e
  names_small p (Node q s f) n = ((n.0).named, names_form p f n.1)

  names_form : (p : ProgramTree) (f : Form) → EachForm (Good p) f → EachForm NamesSmall f
  names_form p (Quote c) n = tt
  names_form p (Local x) n = tt
  names_form p (Global g) n = tt
  names_form p (Lambda l) n = tt
  names_form p (If a b c) n = (names_small p a n.0, names_small p b n.1, names_small p c n.2)
  names_form p (SetLocal x e) n = names_small p e n
  names_form p (SetGlobal g e) n = names_small p e n
  names_form p (DefGlobal g e) n = names_small p e n
  names_form p (Let xs es e) n = (names_all p es n.0, names_small p e n.1)
  names_form p (Letrec xs ls e) n = names_small p e n
  names_form p (Seq es) n = names_all p es n
  names_form p (Call f es) n = (names_small p f n.0, names_all p es n.1)
  names_form p (PrimUse q es) n = names_all p es n
  names_form p (Apply f l) n = (names_small p f n.0, names_small p l n.1)

  names_all : (p : ProgramTree) (es : Trees) → EachAll (Good p) es → EachAll NamesSmall es
  names_all p none n = tt
  names_all p (more e es) n = (names_small p e n.0, names_all p es n.1)

-- the static objects of both stores
module _ (p : ProgramTree) (W : World Value) (all : (n : ℕ) → n < length p.statics → IsIn (Both n n) W) where
  part_alike : (n : ℕ) (c : Const) → n ≤ length p.statics → PartKeeps n c → Alike W false (value_of c) (value_of c)
  part_alike n (Const.Fix k) le h = Like.fix
  part_alike n (Const.Char k) le h = Like.char
  part_alike n (Const.Bool k) le h = Like.truth
  part_alike n Const.Nil le h = Like.nil
  part_alike n Const.Unspecified le h = Like.unspecified
  part_alike n Const.Undefined le h = absurd h
  part_alike n (Const.Stat k) le h = Like.at (all k (omega arith))

  parts_alike : (n : ℕ) (cs : List Const) → n ≤ length p.statics → Every (PartKeeps n) cs →
      AlikeLists (Rel.Partner W) (IsTrue false) (map value_of cs) (map value_of cs)
  parts_alike n [] le h = Like.nothing
  parts_alike n (c ∷ cs) le h = Like.further (part_alike n c le h.0) (parts_alike n cs le h.1)

  static_alike : (n : ℕ) (s : Static) → n ≤ length p.statics → StaticKeeps n s →
      AlikeObjects (Rel.Partner W) (IsTrue false) (static_object s) (static_object s)
  static_alike n (Static.Pair a b) le h = Like.pair (part_alike n a le h.0) (part_alike n b le h.1)
  static_alike n (Static.Vector cs) le h = Like.vec (parts_alike n cs le h.1)
  static_alike n (Static.Str bs) le h = Like.str
  static_alike n (Static.Sym bs) le h = Like.sym

  statics_made : (ss : List Static) (n : ℕ) (v : World Value) (st : List M.Item) (js : List S.Item) → length st ≡ n →
      length js ≡ n → n + length ss ≡ length p.statics → StaticsKeep n ss → Stores (items p) W v st js →
      Stores (items p) W (pairs_more (length ss) n n v) (st ++ map M.static_item ss) (js ++ map S.static_item ss)
  statics_made [] n v st js lt lj total h k = subst₂ (Stores (items p) W v) (sym (append-nil st))
      (sym (append-nil js)) k
  statics_made (s ∷ ss) n v st js lt lj total h k =
      let i : M.Item = M.static_item s in
      let j : S.Item = S.static_item s in
      let one = both_made M.Item S.Item Value (items p) W v st js i j k
      (Rel.object (static_alike n s (omega arith) h.0)) in
      let one' : Stores (items p) W (Both n n ∷ v) (st ++ i ∷ []) (js ++ j ∷ []) = subst₂
      (λ a b. Stores (items p) W (Both a b ∷ v) (st ++ i ∷ []) (js ++ j ∷ [])) lt lj one in
      let more_t : length (st ++ i ∷ []) ≡ suc n = length-append st (i ∷ []) ∙ ap (λ m. m + 1) lt
      ∙ (let m : n + 1 ≡ suc n = omega arith in m) in
      let more_j : length (js ++ j ∷ []) ≡ suc n = length-append js (j ∷ []) ∙ ap (λ m. m + 1) lj
      ∙ (let m : n + 1 ≡ suc n = omega arith in m) in
      subst₂ (Stores (items p) W (pairs_more (length ss) (suc n) (suc n) (Both n n ∷ v)))
      (append_assoc st (i ∷ []) (map M.static_item ss)) (append_assoc js (j ∷ []) (map S.static_item ss))
      (statics_made ss (suc n) (Both n n ∷ v) (st ++ i ∷ []) (js ++ j ∷ []) more_t more_j (omega arith) h.1 one')

no_stores : (p : ProgramTree) (W : World Value) → Stores (items p) W [] [] []
no_stores p W = record {
  linked = λ t s i. absurd i;
  holds = λ s x i. absurd i;
  one_target = λ a b s i j. absurd i;
  one_source = λ t a b i j. absurd i;
  apart = λ t s x i j. absurd i;
  all = λ t lt. absurd (omega arith);
}

marks_alike : (w : World Value) (n : ℕ) →
    AlikeLists (Rel.Partner w) (IsTrue true) (replicate n S.Undefined) (replicate n S.Undefined)
marks_alike w zero = Like.nothing
marks_alike w (suc n) = Like.further (Like.undefined refl) (marks_alike w n)

-- both start alike
starts : (p : ProgramTree) (input : List ℕ) → Ready p →
    Goes p input (R.reference p (order_of p) input).start (T.tree_machine (cells_of p) (order_of p) input).start
starts p input ready =
    let W : World Value = pairs_more (length p.statics) 0 0 [] in
    let all : (n : ℕ) → n < length p.statics →
    IsIn (Both n n) W = λ n lt. subst₂ (λ a b. IsIn (Both a b) W) (let z : 0 + n ≡ n = omega arith in z)
    (let z : 0 + n ≡ n = omega arith in z) (pair_in (length p.statics) 0 0 n [] lt) in
    here (running {w = W}
    (record {
      globals = marks_alike W (length p.globals);
      stores = statics_made p W all p.statics 0 [] [] [] refl refl
          (let z : 0 + length p.statics ≡ length p.statics = omega arith in z) ready.statics (no_stores p W);
      statics = all;
      input = refl;
      met = refl;
    })
    (Rel.val Like.unspecified) (Rel.frame Rel.top Rel.no_frame))

module _ (p : ProgramTree) (input : List ℕ) (rules : KeepsRules p) (ready : Ready p) where
  abbrev g : ℕ → Bool
  g = is_assigned p

  inner : (l : ℕ) → Same (inner_cells p l) (inner_free p l)
  inner l = same-inner g p.lambdas 0 l ready.names_bodies

  small_names : (l : ℕ) → AreSmall (inner_free p l)
  small_names l = small-inner g p.lambdas 0 l ready.names_bodies

  same : (e : Tree) → Each (Good p) e → Same (free_cells p e) (free (inner_free p) e)
  same e n = same-free g (inner_free p) (inner_cells p) inner small_names e (names_small p e n)

  small : (e : Tree) → Each (Good p) e → AreSmall (free (inner_free p) e)
  small e n = small-free (inner_free p) small_names e (names_small p e n)

  bodies : Bodies p input
  bodies = all-bodies p input same small

  -- the variable of a frame that sets one is there
  sets_var : (st : List S.Item) (b : R.Work) → Kept.WorkOk p st b →
      Step.SetsVar p input ready bodies (all-groups p input same inner)
      (all-entries p input ready bodies same inner) same small inner st b
  sets_var st (R.Sel a b r) h = tt
  sets_var st (R.SetVar l) h = h
  sets_var st (R.SetGlo n d q) h = tt
  sets_var st (R.Rest es r) h = tt
  sets_var st (R.Args q s f vs r) h = tt
  sets_var st (R.Top k) h = tt

  top_sets : (w : World Value) (c : T.TreeConfig) (d : R.Config) (k : Ground p w c d) (h : _) (st : List S.Item)
      (fs : List R.Frame) → Kept.FramesOk p st fs →
      Step.TopSets p input ready bodies (all-groups p input same inner)
      (all-entries p input ready bodies same inner) same small inner w c d k h st fs
  top_sets w c d k h st [] o = tt
  top_sets w c d k h st (f ∷ fs) o = sets_var st f.work o.0

  -- the states that are related, and the moment of the source
  abbrev Related : T.TreeState → R.State → Type 0
  Related t s = Goes p input s t × (n : ℕ) × (s ≡ after (R.reference p (order_of p) input) n)

  abbrev Moves : T.TreeState → R.State → Type 0
  Moves t s = Sim.Moves (tree_measured (cells_of p) (order_of p) input)
      (N.reference_measured p (order_of p) input) Related pending_state (λ s. 0) t s

  next_moment : (s : R.State) (n : ℕ) → s ≡ after (R.reference p (order_of p) input) n →
      source_step p s ≡ after (R.reference p (order_of p) input) (n + 1)
  next_moment s n e = ap (source_step p) e ∙ sym (run-add (source_step p) n 1 (R.reference p (order_of p) input).start)

  both_go : (t : T.TreeState) (s : R.State) (n : ℕ) → s ≡ after (R.reference p (order_of p) input) n →
      Goes p input (source_step p s) (step p t) → Moves t s
  both_go t s n e h = Sim.both_move (h, n + 1, next_moment s n e)

  by_next : (c : T.TreeConfig) (d : R.Config) (es : List Event) (n : ℕ) →
      R.Running d es ≡ after (R.reference p (order_of p) input) n → Next p input c d c.control d.control es →
      Moves (M.Running c es) (R.Running d es)
  by_next c d es n e (both h) = both_go (M.Running c es) (R.Running d es) n e h
  by_next c d es n e (target_alone h lt) = Sim.target_moves (h, n, e) lt

  base_moves : (t : T.TreeState) (s : R.State) (n : ℕ) → s ≡ after (R.reference p (order_of p) input) n → Base p t s →
      Moves t s
  base_moves _ _ n e (running {w = w} {c = c} {d = d} {es = es} k r f) =
      let h = held p w c d k r f in
      let ok : Kept.After p 0 (R.Running d es) = subst (Kept.After p 0) (sym e) (run-keeps p rules input n) in
      by_next c d es n e
      (Step.moves p input ready bodies (all-groups p input same inner)
      (all-entries p input ready bodies same inner) same small inner w c d k h c.control d.control es f refl refl r (top_sets w c d k h d.store d.frames (ok.0).frames))
  base_moves _ _ n e (stopped {w = w} {c = c} {d = d} {es = es} h) = both_go (M.Stopped c es) (R.Stopped d es) n e
      (here (stopped h))
  base_moves _ _ n e (lost {w = w} {c = c} {d = d} {es = es} h) = both_go (M.Lost c es) (R.Lost d es) n e
      (here (lost h))
  base_moves _ _ n e
      (reading {w = w} {c = c} {d = d} {es = es} {q = q} {s = s} {x = x} {t = t} {l = l} {r = r} {fs = fs} k f ec ef ed lx i h) =
      both_go (M.Running c es) (R.Running d es) n e
      (subst₂ (λ m a. Goes p input (R.step_control (source p) d m es)
      (M.step_control (T.language (cells_of p) (order_of p)) c a es)) (sym ed) (sym ec)
      (subst (λ gs. Goes p input (R.step_control (source p) d (R.Eval (Node q s (Local x)) r) es)
      (M.give_top (T.language (cells_of p) (order_of p)) c (At t) gs es)) (sym ef)
      (gets-cell p input w c d k h q t l x r fs es i lx f)))
  base_moves _ _ n e
      (setting {w = w} {c = c} {d = d} {es = es} {q = q} {s = s} {x = x} {t = t} {l = l} {e = b} {h = z} {r = r} {fs = fs} k f ec ef ed lx i good no_mark cv env h) =
      both_go (M.Running c es) (R.Running d es) n e
      (subst₂ (λ m a. Goes p input (R.step_control (source p) d m es)
      (M.step_control (T.language (cells_of p) (order_of p)) c a es)) (sym ed) (sym ec)
      (subst (λ gs. Goes p input (R.step_control (source p) d (R.Eval (Node q s (SetLocal x b)) r) es)
      (M.give_top (T.language (cells_of p) (order_of p)) c (At t) gs es)) (sym ef)
      (subst (λ o. Goes p input (R.set_local (source p) d o b r es)
      (T.evaluate_cut (target p) c (eliminate g b) z
      (M.push (T.Args q s (C.CellSet (cell_name g q s x) (eliminate g b)) (At t ∷ []) M.Empty) fs) es)) (sym lx)
      (evaluates p input ready bodies same small w c d k h b (free_cells p b) z r _
      (R.push (R.SetVar l) d.frames) es good (λ m. absurd (both_ways (is_mark b) no_mark m)) cv (λ y j. j) env
      (Rel.frame (Rel.set_cell i) f)))))

  moves : (t : T.TreeState) (s : R.State) → Related t s → Moves t s
  moves t s r = goes_moves t (r.0)
    where
      goes_moves : (t : T.TreeState) → Goes p input s t → Moves t s
      goes_moves _ (here {t = t} b) = base_moves t s r.1 r.2 b
      goes_moves _ (alone {t = t} a lt h) = Sim.target_moves (h, r.1, r.2) lt

  alike : (t : T.TreeState) (s : R.State) → Related t s →
      Sim.Alike (tree_measured (cells_of p) (order_of p) input) (N.reference_measured p (order_of p) input) 0 t s
  alike t s r = of_goes t r.0
    where
      of_base : (t : T.TreeState) (s : R.State) → Base p t s →
          Sim.Alike (tree_measured (cells_of p) (order_of p) input) (N.reference_measured p (order_of p) input) 0 t s
      of_base _ _ (running {w = w} {c = c} {d = d} {es = es} k m f) = alike-held p w input (M.Running c es)
          (R.Running d es) refl (held p w c d k m f)
      of_base _ _ (stopped {w = w} {c = c} {d = d} {es = es} h) = alike-held p w input (M.Stopped c es)
          (R.Stopped d es) refl h
      of_base _ _ (lost {w = w} {c = c} {d = d} {es = es} h) = alike-held p w input (M.Lost c es) (R.Lost d es) refl h
      of_base _ _ (reading {w = w} {c = c} {d = d} {es = es} k f ec ef ed lx i h) = alike-held p w input
          (M.Running c es) (R.Running d es) refl h
      of_base _ _
          (setting {w = w} {c = c} {d = d} {es = es} k f ec ef ed lx i good no_mark cv env h) = alike-held p w input
          (M.Running c es) (R.Running d es) refl h

      of_goes : (t : T.TreeState) → Goes p input s t →
          Sim.Alike (tree_measured (cells_of p) (order_of p) input) (N.reference_measured p (order_of p) input) 0 t s
      of_goes _ (here {t = t} b) = of_base t s b
      of_goes _ (alone a lt h) = a

  -- a program with cells keeps its source, with nothing beyond
  pub cells-keep : Keeps (tree_measured (cells_of p) (order_of p) input) (N.reference_measured p (order_of p) input) 0
  cells-keep = keeps_from (tree_measured (cells_of p) (order_of p) input)
      (N.reference_measured p (order_of p) input) 0 (record {
        R = Related;
        size_t = pending_state;
        size_s = λ s. 0;
        starts = (starts p input ready, 0, refl);
        moves = moves;
        alike = alike;
        in_order = Steps.in_order p (order_of p) input;
      })
