-- How a lifted program and its source are related as they run.
use Rattle.std.proofs.Common.{◌≡◌, refl, ap, ◌∙◌, subst, ℕ, ◌+◌, ◌<◌, arith, ⊎_elim, inl, inr, true, false, List, ◌∷◌, ◌++◌, length}
use Rattle.tb_prim.specs.declared.event.Event.{Event}
use Rattle.tb_semantics.specs.Graph.{IsIn, Reaches, root, below}
use Rattle.tb_semantics.proofs.Reachable.{HasMatch, in_below}
use Rattle.tb_semantics.proofs.Worlds.{Both, Stores}
use Rattle.tb_core.specs.Store.{Value, At}
use Rattle.tb_core.specs.Space.{values_locations}
use Rattle.tb_core.specs.Reference.{arranged}
use Rattle.tb_core.proofs.Members.{in-left, in-right, in-either}
use Rattle.tb_ir.specs.Tree.{Tree}
use Rattle.tb_ir.specs.Machine as M
use Rattle.tb_ir.specs.Machine.{Env, Control, Closure, Entering, Running, Stopped, Lost}
use Rattle.tb_ir.specs.TreeMachine as T
use Rattle.tb_ir.specs.TreeMachine.{TreeConfig, TreeState, Frames, env_values}
use Rattle.tb_ir.specs.Space as V
use Rattle.tb_lift.proofs.Rel as Rel
use Rattle.tb_lift.proofs.Rel.{World, Partner, AllAlike, Pass, Added, Ready, CallRel, FramesRel, ControlRel, LetFrames, PointRel, AddedAlone, Adds, AddingRel, Got}
use Rattle.tb_lift.proofs.Grow.{items}
use Rattle.tb_lift.proofs.Match.{Matches, match-append, match-values, match-frames, let-frames-reached, named-entered, ready-entered, match-control, match-call, operator-ready, ready-reached, got-reached, in-values, values-append, sources, HoldsFacts, facts-of}
use Rattle.tb_lift.proofs.Shape.{Held, alike-length, roots_of, source_language}

-- two configurations beside their controls and frames
pub record Ground (z : Pass) (w : World) (c d : TreeConfig) : Type 0 where
  pub globals : AllAlike w c.globals d.globals
  pub stores : Stores (items z) w w c.store d.store
  pub statics : (n : ℕ) → n < z.statics → IsIn (Both n n) w
  pub input : c.input ≡ d.input
  pub met : c.met_end ≡ d.met_end

-- the source enters a procedure whose call is direct in the target, and emits that
pub record Soon (z : Pass) (ns : List ℕ) (l : ℕ) (us : List Value) (hs : Frames) (d : TreeConfig)
    (es : List Event) : Type 0 where
  pub enters : (location : ℕ) (values : List Value) → arranged 0 (length ns) ns us ≡ At location ∷ values →
      M.step (source_language z) (Running d es) ≡
      Running (record d { control = Entering (Closure location) values; frames = M.mark_top hs }) (M.emit es (Event.Enter l))

pub data StateRel (z : Pass) : TreeState → TreeState → Type 0 where
  running : {w : World} {c d : TreeConfig} {es : List Event} → Ground z w c d →
      PointRel z w c.control c.frames d.control d.frames → StateRel z (Running c es) (Running d es)
  stopped : {w : World} {c d : TreeConfig} {es : List Event} → Held z w c d → StateRel z (Stopped c es) (Stopped d es)
  lost : {w : World} {c d : TreeConfig} {es : List Event} → Held z w c d → StateRel z (Lost c es) (Lost d es)
  adding : {w : World} {l : ℕ} {m : Env} {ns : List ℕ} {vs us : List Value} {hs : Frames} {c d : TreeConfig}
      {es : List Event} → Ground z w c d → CallRel z w m l ns vs us → AddingRel z w l m ns vs hs c.control c.frames →
      IsIn 0 ns → V.marks hs ≡ V.marks d.frames →
      ((k : ℕ) → IsIn k (values_locations us ++ (V.frames_locations T.work_values hs ++ values_locations d.globals)) →
      Reaches (sources z w d.store (roots_of z.statics d)) k) →
      Soon z ns l us hs d es → StateRel z (Running c es) (Running d es)

frames_marks : (z : Pass) (w : World) (fs hs : Frames) → FramesRel z w fs hs → V.marks fs ≡ V.marks hs
frames_marks z w _ _ Rel.no_frame = refl
frames_marks z w _ _ (Rel.frame {b = true} h hs) = ap (λ n. 1 + n) (frames_marks z w _ _ hs)
frames_marks z w _ _ (Rel.frame {b = false} h hs) = ap (λ n. 0 + n) (frames_marks z w _ _ hs)

let_marks : (z : Pass) (w : World) {l : ℕ} {m : Env} (fs hs : Frames) → LetFrames z w l m fs hs → V.marks fs ≡ V.marks hs
let_marks z w _ _ (Rel.let_frame h hs) = ap (λ n. 0 + n) (frames_marks z w _ _ hs)

module _ (z : Pass) (sound : (l y : ℕ) → IsIn y (z.choice.added l) → Added z l y) (w : World) (c d : TreeConfig)
    (g : Ground z w c d) where
  match_statics : Matches w (sources z w d.store (roots_of z.statics d)) (below z.statics) (below z.statics)
  match_statics = record { by = λ all l i. (l, all l i, g.statics l (in_below z.statics l i)) }

  -- controls and frames that match
  held_by : V.marks c.frames ≡ V.marks d.frames →
      Matches w (sources z w d.store (roots_of z.statics d))
      (V.control_locations c.control ++ V.frames_locations T.work_values c.frames)
      (V.control_locations d.control ++ V.frames_locations T.work_values d.frames) → Held z w c d
  held_by m h = record {
    marks = m;
    globals_long = alike-length w c.globals d.globals g.globals;
    stores = g.stores;
    roots = λ t j.
        ⊎_elim
        (match_statics.by (λ k b. root (in-left k (below z.statics) _ b)) t)
        (λ j. ⊎_elim
        (λ b. h.by up t (in-left t (V.control_locations c.control) _ b))
        (λ b. ⊎_elim
        (λ b. h.by up t (in-right t (V.control_locations c.control) _ b))
        ((match-values w (sources z w d.store (roots_of z.statics d)) c.globals d.globals g.globals).by
        (λ k b. root (in-right k (below z.statics) _ (in-right k (V.control_locations d.control) _
        (in-right k (V.frames_locations T.work_values d.frames) _ b)))) t)
        (in-either t (V.frames_locations T.work_values c.frames) _ b))
        (in-either t (V.control_locations c.control) _ j))
        (in-either t (below z.statics) _ j);
  }
    where
      up : (k : ℕ) → IsIn k (V.control_locations d.control ++ V.frames_locations T.work_values d.frames) →
          Reaches (sources z w d.store (roots_of z.statics d)) k
      up k b = root (in-right k (below z.statics) _
          (⊎_elim
          (λ a. in-left k (V.control_locations d.control) _ a)
          (λ a. in-right k (V.control_locations d.control) _ (in-left k (V.frames_locations T.work_values d.frames) _ a))
          (in-either k (V.control_locations d.control) _ b)))

  match_point : (a b : Control Tree) (fs hs : Frames) → PointRel z w a fs b hs →
      Matches w (sources z w d.store (roots_of z.statics d))
      (V.control_locations a ++ V.frames_locations T.work_values fs)
      (V.control_locations b ++ V.frames_locations T.work_values hs)
  match_point _ _ _ _ (Rel.point {fs = fs} {hs = hs} a f) =
      let facts = facts-of z w c.store d.store (roots_of z.statics d) g.stores in
      match-append w _ (match-control z w d.store (roots_of z.statics d) facts sound _ _ a)
      (match-frames z w d.store (roots_of z.statics d) facts fs hs f)
  match_point _ _ _ _ (Rel.making {l = l} {q = q} {r = r} {m = m} {fs = fs} {hs = hs} e n s f) =
      record {
        by = λ all t i.
            let of_control : (k : ℕ) → IsIn k (values_locations (env_values q)) →
            Reaches (sources z w d.store (roots_of z.statics d)) k =
            λ k c. all k (in-left k (values_locations (env_values q)) _ c) in
            ⊎_elim
            (λ j. absurd (subst (λ vs. IsIn t (values_locations vs)) n j))
            (let-frames-reached z w d.store (roots_of z.statics d)
            (facts-of z w c.store d.store (roots_of z.statics d) g.stores) fs hs f
            (named-entered z w d.store (roots_of z.statics d)
            (facts-of z w c.store d.store (roots_of z.statics d) g.stores) l q m s of_control)
            (λ k c. all k (in-right k (values_locations (env_values q)) _ c)) t)
            (in-either t (values_locations (env_values r)) _ i);
      }
  match_point _ _ _ _ (Rel.made {l = l} {c = k} {m = m} {fs = fs} {hs = hs} r f) =
      record {
        by = λ all t i.
            let-frames-reached z w d.store (roots_of z.statics d)
            (facts-of z w c.store d.store (roots_of z.statics d) g.stores) fs hs f
            (ready-entered z w d.store (roots_of z.statics d)
            (facts-of z w c.store d.store (roots_of z.statics d) g.stores) l k m r (all k (inl refl)))
            (λ j c. all j (inr c)) t i;
      }

  point_marks : (a b : Control Tree) (fs hs : Frames) → PointRel z w a fs b hs → V.marks fs ≡ V.marks hs
  point_marks _ _ _ _ (Rel.point a f) = frames_marks z w _ _ f
  point_marks _ _ _ _ (Rel.making e n s f) = let_marks z w _ _ f
  point_marks _ _ _ _ (Rel.made r f) = let_marks z w _ _ f

  pub held : PointRel z w c.control c.frames d.control d.frames → Held z w c d
  held h = held_by (point_marks _ _ _ _ h) (match_point _ _ _ _ h)

  -- while added variables are evaluated all that the target holds is reached by the source, which waits
  pub held-adding : {l : ℕ} {m : Env} {ns : List ℕ} {vs us : List Value} {hs : Frames} → CallRel z w m l ns vs us →
      (a : Control Tree) (fs : Frames) → c.control ≡ a → c.frames ≡ fs → AddingRel z w l m ns vs hs a fs → IsIn 0 ns →
      V.marks hs ≡ V.marks d.frames →
      ((k : ℕ) → IsIn k (values_locations us ++ (V.frames_locations T.work_values hs ++ values_locations d.globals)) →
      Reaches (sources z w d.store (roots_of z.statics d)) k) → Held z w c d
  held-adding {l = l} {m = m} {ns = ns} {vs = vs} {us = us} {hs = hs} h a fs ec ef adds i marks all = record {
    marks = ap V.marks ef ∙ (adding_marks a fs adds ∙ marks);
    globals_long = alike-length w c.globals d.globals g.globals;
    stores = g.stores;
    roots = λ t j.
        ⊎_elim
        (match_statics.by (λ k b. root (in-left k (below z.statics) _ b)) t)
        (λ j. ⊎_elim
        (λ b. control_reached a fs adds t (subst (λ e. IsIn t (V.control_locations e)) ec b))
        (λ b. ⊎_elim
        (λ b. frames_reached a fs adds t (subst (λ e. IsIn t (V.frames_locations T.work_values e)) ef b))
        ((match-values w (sources z w d.store (roots_of z.statics d)) c.globals d.globals g.globals).by
        (λ k b. all k (in-right k (values_locations us) _ (in-right k (V.frames_locations T.work_values hs) _ b))) t)
        (in-either t (V.frames_locations T.work_values c.frames) _ b))
        (in-either t (V.control_locations c.control) _ j))
        (in-either t (below z.statics) _ j);
  }
    where
      facts : HoldsFacts z w d.store (roots_of z.statics d)
      facts = facts-of z w c.store d.store (roots_of z.statics d) g.stores

      adding_marks : (a : Control Tree) (fs : Frames) → AddingRel z w l m ns vs hs a fs → V.marks fs ≡ V.marks hs
      adding_marks _ _ (Rel.reads ds done ys gs k r e n f) = let e = frames_marks z w _ _ f in omega arith
      adding_marks _ _ (Rel.gives o i ds done y ys gs k r e f) = let e = frames_marks z w _ _ f in omega arith

      operator : (k : ℕ) × Ready z w l k m × Reaches (sources z w d.store (roots_of z.statics d)) k
      operator = let k = operator-ready z w d.store (roots_of z.statics d) facts h i in
          (k.0, k.1, all k.0 (in-left k.0 (values_locations us) _ k.2))

      env_reached : (r : Env) → AddedAlone z l m r → (t : ℕ) → IsIn t (values_locations (env_values r)) →
          HasMatch (Partner w) (sources z w d.store (roots_of z.statics d)) t
      env_reached r alone t j =
          let b = in-values (env_values r) t j in
          let y = alone b.0 b.1 in
          let k = operator in
          ready-reached z w d.store (roots_of z.statics d) facts l k.0 m y.0 b.0 t k.1 k.2 (sound l y.0 y.1) y.2 b.2

      control_reached : (a : Control Tree) (fs : Frames) → AddingRel z w l m ns vs hs a fs → (t : ℕ) →
          IsIn t (V.control_locations a) → HasMatch (Partner w) (sources z w d.store (roots_of z.statics d)) t
      control_reached _ _ (Rel.reads ds done ys gs {q = q} k r e n f) t j = env_reached q n t j
      control_reached _ _ (Rel.gives o i ds done y ys gs {v = v} k r e f) t j =
          let k = operator in
          ready-reached z w d.store (roots_of z.statics d) facts l k.0 m y v t k.1 k.2
          (sound l y (subst (IsIn y) r.whole (in-right y done (y ∷ ys) (inl refl)))) e j

      values_reached : {done ys : List ℕ} {gs : List Value} {r : Env} → Adds z l m done ys gs r → (t : ℕ) →
          IsIn t (values_locations ((vs ++ gs) ++ env_values r)) → HasMatch (Partner w) (sources z w d.store (roots_of z.statics d)) t
      values_reached {done = done} {ys = ys} {gs = gs} {r = r} adds t j =
          let k = operator in
          ⊎_elim
          (λ b. ⊎_elim
          ((match-call z w d.store (roots_of z.statics d) facts h).by (λ n b. all n (in-left n (values_locations us) _ b)) t)
          (got-reached z w d.store (roots_of z.statics d) facts k.1 k.2
          (λ y b. sound l y (subst (IsIn y) adds.whole (in-left y done ys b))) adds.got t)
          (in-either t (values_locations vs) _ (subst (IsIn t) (values-append vs gs) b)))
          (env_reached r adds.alone t)
          (in-either t (values_locations (vs ++ gs)) _ (subst (IsIn t) (values-append (vs ++ gs) (env_values r)) j))

      below_reached : (fs : Frames) → FramesRel z w fs hs → (t : ℕ) → IsIn t (V.frames_locations T.work_values fs) →
          HasMatch (Partner w) (sources z w d.store (roots_of z.statics d)) t
      below_reached fs f =
          (match-frames z w d.store (roots_of z.statics d) facts fs hs f).by
          (λ k b. all k (in-right k (values_locations us) _ (in-left k (V.frames_locations T.work_values hs) _ b)))

      frames_reached : (a : Control Tree) (fs : Frames) → AddingRel z w l m ns vs hs a fs → (t : ℕ) →
          IsIn t (V.frames_locations T.work_values fs) → HasMatch (Partner w) (sources z w d.store (roots_of z.statics d)) t
      frames_reached _ _ (Rel.reads ds done ys gs {r = r} {fs = fs} k adds e n f) t j =
          ⊎_elim (values_reached adds t) (below_reached fs f t)
          (in-either t (values_locations ((vs ++ gs) ++ env_values r)) _ j)
      frames_reached _ _ (Rel.gives o i ds done y ys gs {r = r} {fs = fs} k adds e f) t j =
          ⊎_elim (values_reached adds t) (below_reached fs f t)
          (in-either t (values_locations ((vs ++ gs) ++ env_values r)) _ j)
