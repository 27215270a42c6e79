-- What both machines do in one step with values that stand for one another.
use Rattle.std.proofs.Common.{◌≡◌, refl, sym, ◌∙◌, subst, subst₂, ℕ, zero, suc, inl, ⊎_elim, Bool, true, false, ◌==◌, List, [], ◌∷◌, ◌++◌, length, Some, slice_get, slice_set, eq-eqb, eqb-true}
use Rattle.std.proofs.lemmas.Bool.{cases_Bool, eqb-false}
use Rattle.tb_prim.specs.declared.place.Place.{Place}
use Rattle.tb_prim.specs.declared.event.Event.{Event}
use Rattle.tb_prim.specs.declared.event.Cause.{Cause}
use Rattle.tb_prim.specs.declared.primitive.Primitive.{Primitive}
use Rattle.tb_semantics.specs.Graph.{IsIn}
use Rattle.tb_semantics.proofs.Worlds.{Both, Grows, Stores, stores_stay, both_made, both_written, grows_one, grows_refl}
use Rattle.tb_core.specs.Store.{Value, At, Unspecified}
use Rattle.tb_core.specs.Effects.{Effect}
use Rattle.tb_core.specs.Lists.{Walked}
use Rattle.tb_core.specs.Partners as Like
use Rattle.tb_core.specs.Partners.{AlikeContents, AlikeEffects, AlikeWalks, Partnered}
use Rattle.tb_core.proofs.Partners.{same-effect, same-walk}
use Rattle.tb_ir.specs.Tree.{Tree}
use Rattle.tb_ir.specs.Machine as M
use Rattle.tb_ir.specs.Machine.{Item, Control, Val, Entering, Closure}
use Rattle.tb_ir.specs.TreeMachine.{TreeConfig, Frames}
use Rattle.tb_lift.proofs.Rel as Rel
use Rattle.tb_lift.proofs.Rel.{Fact, World, Entry, Partner, Alike, AllAlike, Pass, ItemRel, FramesRel, ControlRel, PointRel, point}
use Rattle.tb_lift.proofs.Grow.{items, all-grow, item-grows, frames-grow}
use Rattle.tb_lift.proofs.Shape.{Held}
use Rattle.tb_lift.proofs.Base.{Ground, StateRel, running, stopped, lost}

module _ (z : Pass) (w : World) (c d : TreeConfig) (g : Ground z w c d) where
  -- the same world, other controls and frames
  pub goes-point : (k m : Control Tree) (fs hs : Frames) (es : List Event) → PointRel z w k fs m hs →
      StateRel z (M.go c k fs es) (M.go d m hs es)
  goes-point k m fs hs es r =
      running {w = w}
      (record { globals = g.globals; stores = g.stores; statics = g.statics; input = g.input; met = g.met }) r

  pub goes : (k m : Control Tree) (fs hs : Frames) (es : List Event) → ControlRel z w k m → FramesRel z w fs hs →
      StateRel z (M.go c k fs es) (M.go d m hs es)
  goes k m fs hs es r f = goes-point k m fs hs es (point r f)

  -- a world that has grown, with other stores
  pub reground : (v : World) (k m : Control Tree) (fs hs : Frames) (st ss : List Item) → Grows w v →
      Stores (items z) v v st ss →
      Ground z v (record c { control = k; frames = fs; store = st }) (record d { control = m; frames = hs; store = ss })
  reground v k m fs hs st ss gr h = record {
    globals = all-grow w v gr g.globals;
    stores = h;
    statics = λ n lt. gr (Both n n) (g.statics n lt);
    input = g.input;
    met = g.met;
  }

  pub goes-with : (v : World) (k m : Control Tree) (fs hs : Frames) (st ss : List Item) (es : List Event) → Grows w v →
      Stores (items z) v v st ss → ControlRel z v k m → FramesRel z w fs hs →
      StateRel z (M.go_with c k fs st es) (M.go_with d m hs ss es)
  goes-with v k m fs hs st ss es gr h r f =
      running {w = v} (reground v k m fs hs st ss gr h) (point r (frames-grow w v gr z f))

  -- an item that both make
  pub one-made : (i j : Item) → ItemRel z w i j →
      Stores (items z) (Both (length c.store) (length d.store) ∷ w) (Both (length c.store) (length d.store) ∷ w)
      (c.store ++ i ∷ []) (d.store ++ j ∷ [])
  one-made i j h =
      let k : Entry = Both (length c.store) (length d.store) in
      both_made Item Item Fact (items z) (k ∷ w) w c.store d.store i j
      (stores_stay Item Item Fact (items z) w (k ∷ w) w c.store d.store (grows_one k w) g.stores)
      (item-grows w (k ∷ w) (grows_one k w) z h)

  pub goes-made : (i j : Item) (fs hs : Frames) (es : List Event) → ItemRel z w i j → FramesRel z w fs hs →
      StateRel z (M.go_with c (Val (At (length c.store))) fs (c.store ++ i ∷ []) es)
      (M.go_with d (Val (At (length d.store))) hs (d.store ++ j ∷ []) es)
  goes-made i j fs hs es h f =
      let k : Entry = Both (length c.store) (length d.store) in
      goes-with (k ∷ w) _ _ fs hs _ _ es (grows_one k w) (one-made i j h) (Rel.val (Like.at (inl refl))) f

  pub goes-value : (v u : Value) (fs hs : Frames) (es : List Event) → Alike w v u → FramesRel z w fs hs →
      StateRel z (M.go c (Val v) fs es) (M.go d (Val u) hs es)
  goes-value v u fs hs es h f = goes _ _ fs hs es (Rel.val h) f

  -- the unspecified value, after a change of the stores
  pub goes-written : (t s : ℕ) (i j : Item) (fs hs : Frames) (es : List Event) → IsIn (Both t s) w → ItemRel z w i j →
      FramesRel z w fs hs →
      StateRel z (M.go_with c (Val Unspecified) fs (slice_set c.store t i) es)
      (M.go_with d (Val Unspecified) hs (slice_set d.store s j) es)
  goes-written t s i j fs hs es at h f =
      goes-with w _ _ fs hs _ _ es (grows_refl w)
      (both_written Item Item Fact (items z) w w c.store d.store t s i j g.stores at h)
      (Rel.val Like.unspecified) f

  -- the stores as the primitives see them
  pub partnered : Partnered (Partner w) (Unit {0}) (M.contents c.store) (M.contents d.store)
  partnered = record {
    one_to_one = λ a b e f i j. ⊎_elim
        (λ q. q ∙ sym
        (eq-eqb e f (g.stores.one_source a e f i (subst (λ n. IsIn (Both n f) w) (sym (eqb-true a b q)) j))))
        (λ q. q ∙ sym (apart_tested a b e f i j q))
        (cases_Bool (a == b));
    alike = λ a e i. let l = g.stores.linked a e i in subst₂
        (λ x y. AlikeContents (Partner w) (Unit {0}) (M.content_of x) (M.content_of y)) (sym l.here)
        (sym l.there) (content l.item l.other l.alike);
  }
    where
      content : (i j : Item) → ItemRel z w i j →
          AlikeContents (Partner w) (Unit {0}) (M.content_of (Some i)) (M.content_of (Some j))
      content _ _ (Rel.cell h) = Like.other
      content _ _ (Rel.object h) = Like.holds h
      content _ _ (Rel.closure d e) = Like.procedure

      apart_tested : (a b e f : ℕ) → IsIn (Both a e) w → IsIn (Both b f) w → (a == b) ≡ false → (e == f) ≡ false
      apart_tested a b e f i j q = ⊎_elim
          (λ same. absurd
          (eqb-false a b q (g.stores.one_target a b f (subst (λ n. IsIn (Both a n) w) (eqb-true e f same) i) j)))
          (λ n. n)
          (cases_Bool (e == f))

  module _ (held : Held z w c d) where
    pub fails : (cause : Cause) (q : Place) (es : List Event) → StateRel z (M.fail c cause q es) (M.fail d cause q es)
    fails cause q es = stopped held

    pub loses : (es : List Event) → StateRel z (M.Lost c es) (M.Lost d es)
    loses es = lost held

    -- a global that is read
    reads_value : (v u : Value) (q : Place) (es : List Event) → Alike w v u → FramesRel z w c.frames d.frames →
        StateRel z (M.read_value c q (Some v) es) (M.read_value d q (Some u) es)
    reads_value _ _ q es (Like.undefined m) f = fails _ q es
    reads_value _ _ q es Like.fix f = goes _ _ _ _ es (Rel.val Like.fix) f
    reads_value _ _ q es Like.char f = goes _ _ _ _ es (Rel.val Like.char) f
    reads_value _ _ q es Like.truth f = goes _ _ _ _ es (Rel.val Like.truth) f
    reads_value _ _ q es Like.nil f = goes _ _ _ _ es (Rel.val Like.nil) f
    reads_value _ _ q es Like.unspecified f = goes _ _ _ _ es (Rel.val Like.unspecified) f
    reads_value _ _ q es Like.end_object f = goes _ _ _ _ es (Rel.val Like.end_object) f
    reads_value _ _ q es (Like.at i) f = goes _ _ _ _ es (Rel.val (Like.at i)) f

    reads_at : (n : ℕ) (vs us : List Value) (q : Place) (es : List Event) → AllAlike w vs us →
        FramesRel z w c.frames d.frames →
        StateRel z (M.read_value c q (slice_get vs n) es) (M.read_value d q (slice_get us n) es)
    reads_at n _ _ q es Like.nothing f = loses es
    reads_at zero _ _ q es (Like.further h hs) f = reads_value _ _ q es h f
    reads_at (suc n) _ _ q es (Like.further h hs) f = reads_at n _ _ q es hs f

    pub reads-global : (n : ℕ) (q : Place) (es : List Event) → FramesRel z w c.frames d.frames →
        StateRel z (M.read_value c q (slice_get c.globals n) es) (M.read_value d q (slice_get d.globals n) es)
    reads-global n q es f = reads_at n c.globals d.globals q es g.globals f

    globals_set : (n : ℕ) (vs us : List Value) (v u : Value) → AllAlike w vs us → Alike w v u →
        AllAlike w (slice_set vs n v) (slice_set us n u)
    globals_set n _ _ v u Like.nothing k = Like.nothing
    globals_set zero _ _ v u (Like.further h hs) k = Like.further k hs
    globals_set (suc n) _ _ v u (Like.further h hs) k = Like.further h (globals_set n _ _ v u hs k)

    pub assigns-global : (n : ℕ) (v u : Value) (fs hs : Frames) (es : List Event) → Alike w v u →
        FramesRel z w fs hs → StateRel z (M.assign_global c n v fs es) (M.assign_global d n u hs es)
    assigns-global n v u fs hs es h f =
        running {w = w}
        (record { globals = globals_set n _ _ v u g.globals h; stores = g.stores; statics = g.statics; input = g.input; met = g.met })
        (point (Rel.val Like.unspecified) f)

    sets_held : (n : ℕ) (q : Place) (v u x y : Value) (fs hs : Frames) (es : List Event) → Alike w x y →
        Alike w v u → FramesRel z w fs hs →
        StateRel z (M.set_held_global c n q v (Some x) fs es) (M.set_held_global d n q u (Some y) hs es)
    sets_held n q v u _ _ fs hs es (Like.undefined m) h f = fails _ q es
    sets_held n q v u _ _ fs hs es Like.fix h f = assigns-global n v u fs hs es h f
    sets_held n q v u _ _ fs hs es Like.char h f = assigns-global n v u fs hs es h f
    sets_held n q v u _ _ fs hs es Like.truth h f = assigns-global n v u fs hs es h f
    sets_held n q v u _ _ fs hs es Like.nil h f = assigns-global n v u fs hs es h f
    sets_held n q v u _ _ fs hs es Like.unspecified h f = assigns-global n v u fs hs es h f
    sets_held n q v u _ _ fs hs es Like.end_object h f = assigns-global n v u fs hs es h f
    sets_held n q v u _ _ fs hs es (Like.at i) h f = assigns-global n v u fs hs es h f

    sets_at : (m n : ℕ) (vs us : List Value) (q : Place) (v u : Value) (fs hs : Frames) (es : List Event) →
        AllAlike w vs us → Alike w v u → FramesRel z w fs hs →
        StateRel z (M.set_held_global c m q v (slice_get vs n) fs es) (M.set_held_global d m q u (slice_get us n) hs es)
    sets_at m n _ _ q v u fs hs es Like.nothing h f = loses es
    sets_at m zero _ _ q v u fs hs es (Like.further k ks) h f = sets_held m q v u _ _ fs hs es k h f
    sets_at m (suc n) _ _ q v u fs hs es (Like.further k ks) h f = sets_at m n _ _ q v u fs hs es ks h f

    pub sets-global : (n : ℕ) (q : Place) (v u : Value) (fs hs : Frames) (es : List Event) → Alike w v u →
        FramesRel z w fs hs → StateRel z (M.set_global c n q v fs es) (M.set_global d n q u hs es)
    sets-global n q v u fs hs es h f = sets_at n n c.globals d.globals q v u fs hs es g.globals h f

    -- a cell is made, read and set
    pub makes-cell : (v u : Value) (fs hs : Frames) (es : List Event) → Alike w v u → FramesRel z w fs hs →
        StateRel z (M.new_cell c v fs es) (M.new_cell d u hs es)
    makes-cell v u fs hs es h f = goes-made _ _ fs hs es (Rel.cell h) f

    gets_value : (q : Place) (v u : Value) (fs hs : Frames) (es : List Event) → Alike w v u → FramesRel z w fs hs →
        StateRel z (M.get_held c q (Some (M.Cell v)) fs es) (M.get_held d q (Some (M.Cell u)) hs es)
    gets_value q _ _ fs hs es (Like.undefined m) f = fails _ q es
    gets_value q _ _ fs hs es Like.fix f = goes-value _ _ fs hs es Like.fix f
    gets_value q _ _ fs hs es Like.char f = goes-value _ _ fs hs es Like.char f
    gets_value q _ _ fs hs es Like.truth f = goes-value _ _ fs hs es Like.truth f
    gets_value q _ _ fs hs es Like.nil f = goes-value _ _ fs hs es Like.nil f
    gets_value q _ _ fs hs es Like.unspecified f = goes-value _ _ fs hs es Like.unspecified f
    gets_value q _ _ fs hs es Like.end_object f = goes-value _ _ fs hs es Like.end_object f
    gets_value q _ _ fs hs es (Like.at i) f = goes-value _ _ fs hs es (Like.at i) f

    gets_item : (q : Place) (i j : Item) (fs hs : Frames) (es : List Event) → ItemRel z w i j → FramesRel z w fs hs →
        StateRel z (M.get_held c q (Some i) fs es) (M.get_held d q (Some j) hs es)
    gets_item q _ _ fs hs es (Rel.cell h) f = gets_value q _ _ fs hs es h f
    gets_item q _ _ fs hs es (Rel.object h) f = loses es
    gets_item q _ _ fs hs es (Rel.closure e h) f = loses es

    pub gets-cell : (q : Place) (v u : Value) (fs hs : Frames) (es : List Event) → Alike w v u → FramesRel z w fs hs →
        StateRel z (M.get_cell c q v fs es) (M.get_cell d q u hs es)
    gets-cell q _ _ fs hs es (Like.at {a = t} {b = s} i) f =
        let l = g.stores.linked t s i in
        subst₂ (λ x y. StateRel z (M.get_held c q x fs es) (M.get_held d q y hs es)) (sym l.here) (sym l.there)
        (gets_item q l.item l.other fs hs es l.alike f)
    gets-cell q _ _ fs hs es _ f = loses es

    sets_item : (t s : ℕ) (i j : Item) (v u : Value) (fs hs : Frames) (es : List Event) → IsIn (Both t s) w →
        ItemRel z w i j → Alike w v u → FramesRel z w fs hs →
        StateRel z (M.set_held c t (Some i) v fs es) (M.set_held d s (Some j) u hs es)
    sets_item t s _ _ v u fs hs es at (Rel.cell h) k f = goes-written t s _ _ fs hs es at (Rel.cell k) f
    sets_item t s _ _ v u fs hs es at (Rel.object h) k f = loses es
    sets_item t s _ _ v u fs hs es at (Rel.closure e h) k f = loses es

    pub sets-cell : (v u x y : Value) (fs hs : Frames) (es : List Event) → Alike w v u → Alike w x y →
        FramesRel z w fs hs → StateRel z (M.set_cell c v x fs es) (M.set_cell d u y hs es)
    sets-cell _ _ x y fs hs es (Like.at {a = t} {b = s} i) k f =
        let l = g.stores.linked t s i in
        subst₂ (λ a b. StateRel z (M.set_held c t a x fs es) (M.set_held d s b y hs es)) (sym l.here) (sym l.there)
        (sets_item t s l.item l.other x y fs hs es i l.alike k f)
    sets-cell _ _ x y fs hs es _ k f = loses es

    -- the frame on top is marked
    pub marked : (fs hs : Frames) → FramesRel z w fs hs → FramesRel z w (M.mark_top fs) (M.mark_top hs)
    marked _ _ Rel.no_frame = Rel.no_frame
    marked _ _ (Rel.frame h hs) = Rel.frame h hs

    enters_item : (q : Place) (t s : ℕ) (i j : Item) (vs us : List Value) (fs hs : Frames) (es : List Event) →
        IsIn (Both t s) w → ItemRel z w i j → AllAlike w vs us → FramesRel z w fs hs →
        StateRel z (M.enter_at c q t (Some i) vs fs es) (M.enter_at d q s (Some j) us hs es)
    enters_item q t s _ _ vs us fs hs es at (Rel.cell h) k f = fails _ q es
    enters_item q t s _ _ vs us fs hs es at (Rel.object h) k f = fails _ q es
    enters_item q t s _ _ vs us fs hs es at (Rel.closure e h) k f = goes _ _ _ _ _ (Rel.entering at k) (marked fs hs f)

    pub enters : (q : Place) (v u : Value) (vs us : List Value) (fs hs : Frames) (es : List Event) → Alike w v u →
        AllAlike w vs us → FramesRel z w fs hs → StateRel z (M.enter c q v vs fs es) (M.enter d q u us hs es)
    enters q _ _ vs us fs hs es (Like.at {a = t} {b = s} i) k f =
        let l = g.stores.linked t s i in
        subst₂ (λ x y. StateRel z (M.enter_at c q t x vs fs es) (M.enter_at d q s y us hs es)) (sym l.here)
        (sym l.there)
        (enters_item q t s l.item l.other vs us fs hs es i l.alike k f)
    enters q _ _ vs us fs hs es _ k f = fails _ q es

    applies_to : (q : Place) (t s m : ℕ) (x y : Walked) (fs hs : Frames) (es : List Event) → IsIn (Both t s) w →
        AlikeWalks (Partner w) (Unit {0}) x y → FramesRel z w fs hs →
        StateRel z (M.apply_to c q t m x fs es) (M.apply_to d q s m y hs es)
    applies_to q t s m _ _ fs hs es at (Like.elements k) f = goes _ _ _ _ _ (Rel.entering at k) (marked fs hs f)
    applies_to q t s m _ _ fs hs es at Like.too_long f = fails _ q es
    applies_to q t s m _ _ fs hs es at Like.no_list f = fails _ q es

    applies_item : (q : Place) (t s : ℕ) (i j : Item) (v u : Value) (fs hs : Frames) (es : List Event) →
        IsIn (Both t s) w → ItemRel z w i j → Alike w v u → FramesRel z w fs hs →
        StateRel z (M.apply_at c q t (Some i) v fs es) (M.apply_at d q s (Some j) u hs es)
    applies_item q t s _ _ v u fs hs es at (Rel.cell h) k f = fails _ q es
    applies_item q t s _ _ v u fs hs es at (Rel.object h) k f = fails _ q es
    applies_item q t s _ _ v u fs hs es at (Rel.closure {l = m} e h) k f = applies_to q t s m _ _ fs hs es at
        (same-walk (Partner w) (Unit {0}) (M.contents c.store) (M.contents d.store) partnered 12 k) f

    pub applies : (q : Place) (v u x y : Value) (fs hs : Frames) (es : List Event) → Alike w v u → Alike w x y →
        FramesRel z w fs hs → StateRel z (M.apply c q v x fs es) (M.apply d q u y hs es)
    applies q _ _ x y fs hs es (Like.at {a = t} {b = s} i) k f =
        let l = g.stores.linked t s i in
        subst₂ (λ a b. StateRel z (M.apply_at c q t a x fs es) (M.apply_at d q s b y hs es)) (sym l.here)
        (sym l.there)
        (applies_item q t s l.item l.other x y fs hs es i l.alike k f)
    applies q _ _ x y fs hs es _ k f = fails _ q es

    takes_input : (met : Bool) (bs : List ℕ) (fs hs : Frames) (es : List Event) → d.met_end ≡ met → d.input ≡ bs →
        FramesRel z w fs hs → StateRel z (M.take_input c met bs fs es) (M.take_input d met bs hs es)
    takes_input true bs fs hs es m i f = goes-value _ _ fs hs _ Like.end_object f
    takes_input false [] fs hs es m i f =
        running {w = w}
        (record { globals = g.globals; stores = g.stores; statics = g.statics; input = g.input; met = refl })
        (point (Rel.val Like.end_object) f)
    takes_input false (b ∷ bs) fs hs es m i f =
        running {w = w}
        (record { globals = g.globals; stores = g.stores; statics = g.statics; input = refl; met = g.met })
        (point (Rel.val Like.char) f)

    peeks_input : (met : Bool) (bs : List ℕ) (fs hs : Frames) (es : List Event) → FramesRel z w fs hs →
        StateRel z (M.peek_input c met bs fs es) (M.peek_input d met bs hs es)
    peeks_input true bs fs hs es f = goes-value _ _ fs hs _ Like.end_object f
    peeks_input false [] fs hs es f =
        running {w = w}
        (record { globals = g.globals; stores = g.stores; statics = g.statics; input = g.input; met = refl })
        (point (Rel.val Like.end_object) f)
    peeks_input false (b ∷ bs) fs hs es f = goes-value _ _ fs hs _ Like.char f

    performs : (q : Place) (a b : Effect) (fs hs : Frames) (es : List Event) →
        AlikeEffects (Partner w) (Unit {0}) a b → FramesRel z w fs hs →
        StateRel z (M.perform c q a fs es) (M.perform d q b hs es)
    performs q _ _ fs hs es (Like.gives h) f = goes-value _ _ fs hs es h f
    performs q _ _ fs hs es (Like.makes h) f = goes-made _ _ fs hs es (Rel.object h) f
    performs q _ _ fs hs es (Like.changes {a = t} {b = s} at h) f = goes-written t s _ _ fs hs es at (Rel.object h) f
    performs q _ _ fs hs es Like.puts f = goes-value _ _ fs hs _ Like.unspecified f
    performs q _ _ fs hs es Like.takes f =
        subst₂ (λ m bs. StateRel z (M.take_input c m bs fs es) (M.take_input d d.met_end d.input hs es))
        (sym g.met) (sym g.input) (takes_input d.met_end d.input fs hs es refl refl f)
    performs q _ _ fs hs es Like.peeks f =
        subst₂ (λ m bs. StateRel z (M.peek_input c m bs fs es) (M.peek_input d d.met_end d.input hs es))
        (sym g.met) (sym g.input) (peeks_input d.met_end d.input fs hs es f)
    performs q _ _ fs hs es Like.fails f = fails _ q es
    performs q _ _ fs hs es Like.misused f = loses es

    pub uses-primitive : (q : Place) (a : Primitive) (vs us : List Value) (fs hs : Frames) (es : List Event) →
        AllAlike w vs us → FramesRel z w fs hs →
        StateRel z (M.use_primitive c q a vs fs es) (M.use_primitive d q a us hs es)
    uses-primitive q a vs us fs hs es h f = performs q _ _ fs hs es
        (same-effect (Partner w) (Unit {0}) (M.contents c.store) (M.contents d.store) partnered a h) f
