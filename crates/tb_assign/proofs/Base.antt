-- How a program with cells and its source go on together: related states, and states of the program with cells
-- from which it comes to related ones by itself, while a measure falls.
use Rattle.std.proofs.Common.{◌≡◌, refl, sym, ap, ◌∙◌, subst, ℕ, suc, ◌+◌, ◌-◌, ◌*◌, ◌<◌, Bool, true, false, IsTrue, List, [], ◌∷◌, ◌++◌, length, Some, append_assoc}
use Rattle.tb_prim.specs.declared.place.Place.{Place}
use Rattle.tb_prim.specs.declared.event.Event.{Event}
use Rattle.tb_semantics.specs.Graph.{IsIn, root, below}
use Rattle.tb_semantics.proofs.Simulation as Sim
use Rattle.tb_semantics.proofs.Reachable.{HasMatch, in_below}
use Rattle.tb_semantics.proofs.Worlds.{Both, World, Stores}
use Rattle.tb_core.specs.Tree.{Tree, Node, Local, SetLocal, ProgramTree}
use Rattle.tb_core.specs.FreeVariables.{is_assigned}
use Rattle.tb_core.specs.OperandOrder.{order_of}
use Rattle.tb_core.specs.Rules.{Each, is_mark}
use Rattle.tb_core.specs.Store as S
use Rattle.tb_core.specs.Store.{Value, At, Unspecified, Object}
use Rattle.tb_core.specs.Space as Space
use Rattle.tb_core.specs.Space.{values_locations, value_locations}
use Rattle.tb_core.specs.Measures as N
use Rattle.tb_core.specs.Reference as R
use Rattle.tb_core.specs.Partners as Like
use Rattle.tb_core.specs.Partners.{AlikeLists, AlikeContents, AlikeObjects, Partnered}
use Rattle.tb_ir.specs.Tree as C
use Rattle.tb_ir.specs.Machine as M
use Rattle.tb_ir.specs.TreeMachine as T
use Rattle.tb_ir.specs.Space as V
use Rattle.tb_ir.specs.Measures.{tree_measured}
use Rattle.tb_assign.specs.Eliminate.{cell_name, eliminate, cells_of}
use Rattle.tb_assign.proofs.Rel as Rel
use Rattle.tb_assign.proofs.Rel.{Partner, Alike, AllAlike, VarRel, EnvRel, Covers, ControlRel, WorkRel, FramesRel, ItemRel, Known, may_top}
use Rattle.tb_assign.proofs.Grow.{items}
use Rattle.tb_assign.proofs.Match.{Matches, match-append, match-value, match-values, match-env, match-frames, match-one, sources}
use Rattle.tb_assign.proofs.Shape.{Held, holds-for, source_roots}

-- what is left of steps that the program with cells takes by itself
abbrev mutual
  pub pending : C.Tree → ℕ
  pending (C.Node p s f) = pending_form f

  pub pending_form : C.Form → ℕ
  pending_form (C.CellGet e) = 4
  pending_form (C.CellSet c e) = 4
  pending_form (C.NewCell e) = 4
  pending_form (C.Local x) = 2
  pending_form (C.Let xs es e) = 5 * C.count es + (5 + pending e)
  pending_form _ = 0

abbrev pub pending_work : M.Work T.TreeWork → ℕ
pending_work (M.Own (T.Args p s (C.Let xs es e) vs r)) = 5 * (C.count es - length vs) + pending e
pending_work (M.Own (T.Args p s (C.NewCell e) vs r)) = 1
pending_work _ = 0

abbrev pub pending_frames : List (M.Frame T.TreeWork) → ℕ
pending_frames [] = 0
pending_frames (f ∷ fs) = pending_work f.work + pending_frames fs

abbrev pub pending_control : M.Control C.Tree → ℕ
pending_control (M.Eval e r) = pending e
pending_control (M.Bound e r) = 0
pending_control (M.Val v) = 1
pending_control (M.Entering callee vs) = 0

abbrev pub pending_state : T.TreeState → ℕ
pending_state (M.Running c es) = pending_control c.control + pending_frames c.frames
pending_state (M.Stopped c es) = 0
pending_state (M.Lost c es) = 0

-- two configurations beside their controls and frames
pub record Ground (p : ProgramTree) (w : World Value) (c : T.TreeConfig) (d : R.Config) : Type 0 where
  pub globals : AlikeLists (Partner w) (IsTrue true) c.globals d.globals
  pub stores : Stores (items p) w w c.store d.store
  pub statics : (n : ℕ) → n < length p.statics → IsIn (Both n n) w
  pub input : c.input ≡ d.input
  pub met : c.met_end ≡ d.met_end

pub data Base (p : ProgramTree) : T.TreeState → R.State → Type 0 where
  running : {w : World Value} {c : T.TreeConfig} {d : R.Config} {es : List Event} → Ground p w c d →
      ControlRel p w d.frames c.control d.control → FramesRel p w c.frames d.frames →
      Base p (M.Running c es) (R.Running d es)
  stopped : {w : World Value} {c : T.TreeConfig} {d : R.Config} {es : List Event} → Held p w c d →
      Base p (M.Stopped c es) (R.Stopped d es)
  lost : {w : World Value} {c : T.TreeConfig} {d : R.Config} {es : List Event} → Held p w c d →
      Base p (M.Lost c es) (R.Lost d es)
  -- the cell of a variable that is read is known
  reading : {w : World Value} {c : T.TreeConfig} {d : R.Config} {es : List Event} {q : Place} {s x t l : ℕ} {r : S.Env} {fs : List (M.Frame T.TreeWork)} →
      Ground p w c d → FramesRel p w fs d.frames → c.control ≡ M.Val (At t) →
      c.frames ≡ record {
        marked = false;
        work = M.Own
            (T.Args q s (C.CellGet (cell_name (is_assigned p) q s x)) [] M.Empty);
      } ∷ fs →
      d.control ≡ R.Eval (Node q s (Local x)) r → S.lookup r x ≡ Some l → IsIn (Both t l) w → Held p w c d →
      Base p (M.Running c es) (R.Running d es)
  -- the cell of a variable that is set is known
  setting : {w : World Value} {c : T.TreeConfig} {d : R.Config} {es : List Event} {q : Place} {s x t l : ℕ} {e : Tree} {h : M.Env} {r : S.Env} {fs : List (M.Frame T.TreeWork)} →
      Ground p w c d → FramesRel p w fs d.frames → c.control ≡ M.Val (At t) →
      c.frames ≡ record {
        marked = false;
        work = M.Own
            (T.Args q s (C.CellSet (cell_name (is_assigned p) q s x) (eliminate (is_assigned p) e)) [] h);
      } ∷ fs →
      d.control ≡ R.Eval (Node q s (SetLocal x e)) r → S.lookup r x ≡ Some l → IsIn (Both t l) w →
      Each (Rel.Good p) e → is_mark e ≡ false → Covers (Rel.free_cells p e) h → EnvRel (is_assigned p) w h r →
      Held p w c d → Base p (M.Running c es) (R.Running d es)

abbrev pub step : ProgramTree → T.TreeState → T.TreeState
step p = M.step (T.language (cells_of p) (order_of p))

abbrev pub source_step : ProgramTree → R.State → R.State
source_step p = R.step (R.context_of p (order_of p))

-- a state of the program with cells that comes to a related one by itself
pub data Goes (p : ProgramTree) (input : List ℕ) (s : R.State) : T.TreeState → Type 0 where
  here : {t : T.TreeState} → Base p t s → Goes p input s t
  alone : {t : T.TreeState} →
      Sim.Alike (tree_measured (cells_of p) (order_of p) input) (N.reference_measured p (order_of p) input) 0 t s →
      pending_state (step p t) < pending_state t → Goes p input s (step p t) → Goes p input s t

frames_marks : (p : ProgramTree) (w : World Value) (fs : List (M.Frame T.TreeWork)) (hs : List R.Frame) →
    FramesRel p w fs hs → V.marks fs ≡ N.marks hs
frames_marks p w _ _ Rel.no_frame = refl
frames_marks p w _ _ (Rel.frame {m = true} h hs) = ap (λ n. 1 + n) (frames_marks p w _ _ hs)
frames_marks p w _ _ (Rel.frame {m = false} h hs) = ap (λ n. 0 + n) (frames_marks p w _ _ hs)

same_long : (w : World Value) (b : Bool) (vs us : List Value) → AlikeLists (Partner w) (IsTrue b) vs us →
    length vs ≡ length us
same_long w b _ _ Like.nothing = refl
same_long w b _ _ (Like.further h hs) = ap suc (same_long w b _ _ hs)

module _ (p : ProgramTree) (w : World Value) (c : T.TreeConfig) (d : R.Config) (g : Ground p w c d) where
  match_statics : Matches w (sources p w d.store (source_roots p d)) (below (length p.statics))
      (below (length p.statics))
  match_statics = record { by = λ all l i. (l, all l i, g.statics l (in_below (length p.statics) l i)) }

  match_control : (hs : List R.Frame) (k : M.Control C.Tree) (m : R.Control) → ControlRel p w hs k m →
      Matches w (sources p w d.store (source_roots p d)) (V.control_locations k) (Space.control_locations m)
  match_control hs _ _ (Rel.eval n mark v e) = match-env p w d.store (source_roots p d)
      (holds-for p w c.store d.store (source_roots p d) g.stores) _ _ _ e
  match_control hs _ _ (Rel.bound n mark v e) = match-env p w d.store (source_roots p d)
      (holds-for p w c.store d.store (source_roots p d) g.stores) _ _ _ e
  match_control hs _ _ (Rel.val h) = match-value w _ _ _ _ h
  match_control hs _ _ (Rel.entering {t = t} {s = s} i h) = match-append w _ (match-one w _ t s i)
      (match-values w _ false _ _ h)

  -- the frames and the control may be others than related ones, with what they have matched
  pub held-by : (fs : List (M.Frame T.TreeWork)) (k : List ℕ) → FramesRel p w fs d.frames →
      V.marks c.frames ≡ V.marks fs →
      Matches w (sources p w d.store (source_roots p d)) k (Space.control_locations d.control) →
      V.control_locations c.control ++ V.frames_locations T.work_values c.frames ≡ k ++ V.frames_locations T.work_values fs → Held p w c d
  held-by fs k f m h e = record {
    marks = m ∙ frames_marks p w fs d.frames f;
    globals_long = same_long w true c.globals d.globals g.globals;
    stores = g.stores;
    roots = subst
        (λ ls. (t : ℕ) → IsIn t (below (length p.statics) ++ ls) →
        HasMatch (Partner w) (sources p w d.store (source_roots p d)) t)
        (sym (append_assoc k _ _) ∙ ap (λ ls. ls ++ values_locations c.globals) (sym e)
        ∙ append_assoc (V.control_locations c.control) _ _)
        ((match-append w _ match_statics (match-append w _ h (match-append w _
        (match-frames p w d.store (source_roots p d)
        (holds-for p w c.store d.store (source_roots p d) g.stores) fs d.frames f)
        (match-values w _ true c.globals d.globals g.globals)))).by (λ l i. root i));
  }

  pub held : ControlRel p w d.frames c.control d.control → FramesRel p w c.frames d.frames → Held p w c d
  held k f = held-by c.frames (V.control_locations c.control) f refl (match_control d.frames c.control d.control k) refl
