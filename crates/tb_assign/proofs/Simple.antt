-- What both machines do in one step with values that stand for one another.
use Rattle.std.proofs.Common.{◌≡◌, refl, sym, ◌∙◌, subst, subst₂, ℕ, zero, suc, inl, ⊎_elim, Bool, true, false, ◌==◌, IsTrue, List, [], ◌∷◌, ◌++◌, length, Some, slice_get, slice_set, eq-eqb, eqb-true}
use Rattle.std.proofs.lemmas.Bool.{cases_Bool, eqb-false}
use Rattle.tb_prim.specs.declared.place.Place.{Place}
use Rattle.tb_prim.specs.declared.event.Event.{Event}
use Rattle.tb_prim.specs.declared.event.Cause.{Cause}
use Rattle.tb_prim.specs.declared.primitive.Primitive.{Primitive}
use Rattle.tb_semantics.specs.Graph.{IsIn}
use Rattle.tb_semantics.proofs.Worlds.{Entry, Both, World, Grows, Stores, stores_stay, both_made, both_written, grows_one, grows_refl}
use Rattle.tb_core.specs.Tree.{ProgramTree}
use Rattle.tb_core.specs.Store as S
use Rattle.tb_core.specs.Store.{Value, Undefined, At, Unspecified, EndObject, Char, Object, Content, Holds}
use Rattle.tb_core.specs.Effects as Do
use Rattle.tb_core.specs.Effects.{Effect}
use Rattle.tb_core.specs.Lists.{Walked}
use Rattle.tb_core.specs.Reference as R
use Rattle.tb_core.specs.Partners as Like
use Rattle.tb_core.specs.Partners.{AlikeLists, AlikeContents, AlikeObjects, AlikeEffects, AlikeWalks, Partnered}
use Rattle.tb_core.proofs.Partners.{same-effect, same-walk}
use Rattle.tb_ir.specs.Tree as C
use Rattle.tb_ir.specs.Machine as M
use Rattle.tb_ir.specs.TreeMachine as T
use Rattle.tb_assign.proofs.Rel as Rel
use Rattle.tb_assign.proofs.Rel.{Partner, Alike, AllAlike, ControlRel, WorkRel, FramesRel, ItemRel, may_top}
use Rattle.tb_assign.proofs.Grow as Grow
use Rattle.tb_assign.proofs.Grow.{items}
use Rattle.tb_assign.proofs.Shape.{Held}
use Rattle.tb_assign.proofs.Base.{Ground, running, stopped, lost, Goes, here}

not_true : IsTrue false → ⊥
not_true f = let q : false ≡ true = f in cc

-- values that are no mark stand for one another anywhere
pub anywhere : (w : World Value) (b : Bool) (v u : Value) → Alike w false v u → Alike w b v u
anywhere w b = Grow.values_wider (Partner w) (Partner w) (IsTrue false) (IsTrue b) (λ a c i. i)
    (λ f. absurd (not_true f))

module _ (p : ProgramTree) (input : List ℕ) (w : World Value) (c : T.TreeConfig) (d : R.Config)
    (g : Ground p w c d) where
  -- the same world, other controls and frames
  pub goes : (k : M.Control C.Tree) (m : R.Control) (fs : List (M.Frame T.TreeWork)) (hs : List R.Frame)
      (es : List Event) → ControlRel p w hs k m → FramesRel p w fs hs → Goes p input (R.go d m hs es) (M.go c k fs es)
  goes k m fs hs es r f = here
      (running {w = w}
      (record { globals = g.globals; stores = g.stores; statics = g.statics; input = g.input; met = g.met }) r f)

  -- a world that has grown, with other stores
  pub reground : (v : World Value) (k : M.Control C.Tree) (m : R.Control) (fs : List (M.Frame T.TreeWork))
      (hs : List R.Frame) (st : List M.Item) (ss : List S.Item) → Grows w v → Stores (items p) v v st ss →
      Ground p v (record c { control = k; frames = fs; store = st }) (record d { control = m; frames = hs; store = ss })
  reground v k m fs hs st ss gr h = record {
    globals = Grow.lists_wider (Partner w) (Partner v) (IsTrue true) (IsTrue true) (λ a b i. gr (Both a b) i)
        (λ u. u) _ _ g.globals;
    stores = h;
    statics = λ n lt. gr (Both n n) (g.statics n lt);
    input = g.input;
    met = g.met;
  }

  pub goes-with : (v : World Value) (k : M.Control C.Tree) (m : R.Control) (fs : List (M.Frame T.TreeWork))
      (hs : List R.Frame) (st : List M.Item) (ss : List S.Item) (es : List Event) → Grows w v →
      Stores (items p) v v st ss → ControlRel p v hs k m → FramesRel p w fs hs →
      Goes p input (R.go_with d m hs ss es) (M.go_with c k fs st es)
  goes-with v k m fs hs st ss es gr h r f = here
      (running {w = v} (reground v k m fs hs st ss gr h) r (Grow.frames_grow w v gr p fs hs f))

  -- an item that both make
  pub one-made : (i : M.Item) (j : S.Item) → ItemRel p w i j →
      Stores (items p) (Both (length c.store) (length d.store) ∷ w) (Both (length c.store) (length d.store) ∷ w)
      (c.store ++ i ∷ []) (d.store ++ j ∷ [])
  one-made i j h =
      let k : Entry Value = Both (length c.store) (length d.store) in
      both_made M.Item S.Item Value (items p) (k ∷ w) w c.store d.store i j
      (stores_stay M.Item S.Item Value (items p) w (k ∷ w) w c.store d.store (grows_one k w) g.stores)
      (Grow.item_grows w (k ∷ w) (grows_one k w) p i j h)

  pub goes-made : (i : M.Item) (j : S.Item) (fs : List (M.Frame T.TreeWork)) (hs : List R.Frame) (es : List Event) →
      ItemRel p w i j → FramesRel p w fs hs →
      Goes p input (R.go_with d (R.Val (At (length d.store))) hs (d.store ++ j ∷ []) es)
      (M.go_with c (M.Val (At (length c.store))) fs (c.store ++ i ∷ []) es)
  goes-made i j fs hs es h f =
      let k : Entry Value = Both (length c.store) (length d.store) in
      goes-with (k ∷ w) _ _ fs hs _ _ es (grows_one k w) (one-made i j h) (Rel.val (Like.at (inl refl))) f

  pub goes-value : (v u : Value) (fs : List (M.Frame T.TreeWork)) (hs : List R.Frame) (es : List Event) →
      Alike w false v u → FramesRel p w fs hs → Goes p input (R.go d (R.Val u) hs es) (M.go c (M.Val v) fs es)
  goes-value v u fs hs es h f = goes _ _ fs hs es (Rel.val (anywhere w (may_top p hs) v u h)) f

  -- the unspecified value, after a change of the stores
  pub goes-written : (t s : ℕ) (i : M.Item) (j : S.Item) (fs : List (M.Frame T.TreeWork)) (hs : List R.Frame)
      (es : List Event) → IsIn (Both t s) w → ItemRel p w i j → FramesRel p w fs hs →
      Goes p input (R.go_with d (R.Val Unspecified) hs (slice_set d.store s j) es)
      (M.go_with c (M.Val Unspecified) fs (slice_set c.store t i) es)
  goes-written t s i j fs hs es at h f =
      goes-with w _ _ fs hs _ _ es (grows_refl w)
      (both_written M.Item S.Item Value (items p) w w c.store d.store t s i j g.stores at h)
      (Rel.val Like.unspecified) f

  -- the stores as the primitives see them
  pub partnered : Partnered (Partner w) (IsTrue false) (M.contents c.store) (S.contents d.store)
  partnered = record {
    one_to_one = λ a b e f i j. ⊎_elim
        (λ q. q ∙ sym
        (eq-eqb e f (g.stores.one_source a e f i (subst (λ n. IsIn (Both n f) w) (sym (eqb-true a b q)) j))))
        (λ q. q ∙ sym (apart_tested a b e f i j q))
        (cases_Bool (a == b));
    alike = λ a e i. let l = g.stores.linked a e i in subst₂
        (λ x y. AlikeContents (Partner w) (IsTrue false) (M.content_of x) (S.content_of y)) (sym l.here)
        (sym l.there) (content l.item l.other l.alike);
  }
    where
      content : (i : M.Item) (j : S.Item) → ItemRel p w i j →
          AlikeContents (Partner w) (IsTrue false) (M.content_of (Some i)) (S.content_of (Some j))
      content _ _ (Rel.cell h) = Like.other
      content _ _ (Rel.object h) = Like.holds h
      content _ _ (Rel.closure c e) = Like.procedure

      apart_tested : (a b e f : ℕ) → IsIn (Both a e) w → IsIn (Both b f) w → (a == b) ≡ false → (e == f) ≡ false
      apart_tested a b e f i j q = ⊎_elim
          (λ same. absurd
          (eqb-false a b q (g.stores.one_target a b f (subst (λ n. IsIn (Both a n) w) (eqb-true e f same) i) j)))
          (λ n. n)
          (cases_Bool (e == f))

  module _ (held : Held p w c d) where
    pub fails : (cause : Cause) (q : Place) (es : List Event) → Goes p input (R.fail d cause q es) (M.fail c cause q es)
    fails cause q es = here (stopped held)

    pub loses : (es : List Event) → Goes p input (R.Lost d es) (M.Lost c es)
    loses es = here (lost held)

    -- a global that is read
    pub reads-value : (v u : Value) (q : Place) (es : List Event) → Alike w true v u →
        FramesRel p w c.frames d.frames → Goes p input (R.read_value d q (Some u) es) (M.read_value c q (Some v) es)
    reads-value _ _ q es (Like.undefined m) f = fails _ q es
    reads-value _ _ q es Like.fix f = goes _ _ _ _ es (Rel.val Like.fix) f
    reads-value _ _ q es Like.char f = goes _ _ _ _ es (Rel.val Like.char) f
    reads-value _ _ q es Like.truth f = goes _ _ _ _ es (Rel.val Like.truth) f
    reads-value _ _ q es Like.nil f = goes _ _ _ _ es (Rel.val Like.nil) f
    reads-value _ _ q es Like.unspecified f = goes _ _ _ _ es (Rel.val Like.unspecified) f
    reads-value _ _ q es Like.end_object f = goes _ _ _ _ es (Rel.val Like.end_object) f
    reads-value _ _ q es (Like.at i) f = goes _ _ _ _ es (Rel.val (Like.at i)) f

    reads_at : (n : ℕ) (vs us : List Value) (q : Place) (es : List Event) →
        AlikeLists (Partner w) (IsTrue true) vs us → FramesRel p w c.frames d.frames →
        Goes p input (R.read_value d q (slice_get us n) es) (M.read_value c q (slice_get vs n) es)
    reads_at n _ _ q es Like.nothing f = loses es
    reads_at zero _ _ q es (Like.further h hs) f = reads-value _ _ q es h f
    reads_at (suc n) _ _ q es (Like.further h hs) f = reads_at n _ _ q es hs f

    pub reads-global : (n : ℕ) (q : Place) (es : List Event) → FramesRel p w c.frames d.frames →
        Goes p input (R.read_value d q (slice_get d.globals n) es) (M.read_value c q (slice_get c.globals n) es)
    reads-global n q es f = reads_at n c.globals d.globals q es g.globals f

    globals_set : (n : ℕ) (vs us : List Value) (v u : Value) → AlikeLists (Partner w) (IsTrue true) vs us →
        Alike w false v u → AlikeLists (Partner w) (IsTrue true) (slice_set vs n v) (slice_set us n u)
    globals_set n _ _ v u Like.nothing k = Like.nothing
    globals_set zero _ _ v u (Like.further h hs) k = Like.further (anywhere w true v u k) hs
    globals_set (suc n) _ _ v u (Like.further h hs) k = Like.further h (globals_set n _ _ v u hs k)

    pub assigns-global : (n : ℕ) (v u : Value) (fs : List (M.Frame T.TreeWork)) (hs : List R.Frame)
        (es : List Event) → Alike w false v u → FramesRel p w fs hs →
        Goes p input (R.assign_global d n u hs es) (M.assign_global c n v fs es)
    assigns-global n v u fs hs es h f =
        here (running {w = w}
        (record { globals = globals_set n _ _ v u g.globals h; stores = g.stores; statics = g.statics; input = g.input; met = g.met }) (Rel.val Like.unspecified) f)

    sets_held : (n : ℕ) (q : Place) (v u x y : Value) (fs : List (M.Frame T.TreeWork)) (hs : List R.Frame)
        (es : List Event) → Alike w true x y → Alike w false v u → FramesRel p w fs hs →
        Goes p input (R.set_global d n q u (Some y) hs es) (M.set_held_global c n q v (Some x) fs es)
    sets_held n q v u _ _ fs hs es (Like.undefined m) h f = fails _ q es
    sets_held n q v u _ _ fs hs es Like.fix h f = assigns-global n v u fs hs es h f
    sets_held n q v u _ _ fs hs es Like.char h f = assigns-global n v u fs hs es h f
    sets_held n q v u _ _ fs hs es Like.truth h f = assigns-global n v u fs hs es h f
    sets_held n q v u _ _ fs hs es Like.nil h f = assigns-global n v u fs hs es h f
    sets_held n q v u _ _ fs hs es Like.unspecified h f = assigns-global n v u fs hs es h f
    sets_held n q v u _ _ fs hs es Like.end_object h f = assigns-global n v u fs hs es h f
    sets_held n q v u _ _ fs hs es (Like.at i) h f = assigns-global n v u fs hs es h f

    sets_at : (m n : ℕ) (vs us : List Value) (q : Place) (v u : Value) (fs : List (M.Frame T.TreeWork))
        (hs : List R.Frame) (es : List Event) → AlikeLists (Partner w) (IsTrue true) vs us → Alike w false v u →
        FramesRel p w fs hs →
        Goes p input (R.set_global d m q u (slice_get us n) hs es) (M.set_held_global c m q v (slice_get vs n) fs es)
    sets_at m n _ _ q v u fs hs es Like.nothing h f = loses es
    sets_at m zero _ _ q v u fs hs es (Like.further k ks) h f = sets_held m q v u _ _ fs hs es k h f
    sets_at m (suc n) _ _ q v u fs hs es (Like.further k ks) h f = sets_at m n _ _ q v u fs hs es ks h f

    pub sets-global : (n : ℕ) (q : Place) (v u : Value) (fs : List (M.Frame T.TreeWork)) (hs : List R.Frame)
        (es : List Event) → Alike w false v u → FramesRel p w fs hs →
        Goes p input (R.set_global d n q u (slice_get d.globals n) hs es) (M.set_global c n q v fs es)
    sets-global n q v u fs hs es h f = sets_at n n c.globals d.globals q v u fs hs es g.globals h f

    -- the frame on top is marked
    marked : (fs : List (M.Frame T.TreeWork)) (hs : List R.Frame) → FramesRel p w fs hs →
        FramesRel p w (M.mark_top fs) (R.mark_top hs)
    marked _ _ Rel.no_frame = Rel.no_frame
    marked _ _ (Rel.frame h hs) = Rel.frame h hs

    enters_item : (q : Place) (t s : ℕ) (i : M.Item) (j : S.Item) (vs us : List Value)
        (fs : List (M.Frame T.TreeWork)) (hs : List R.Frame) (es : List Event) → IsIn (Both t s) w → ItemRel p w i j →
        AllAlike w vs us → FramesRel p w fs hs →
        Goes p input (R.enter_at d q s (Some j) us hs es) (M.enter_at c q t (Some i) vs fs es)
    enters_item q t s _ _ vs us fs hs es at (Rel.cell h) k f = fails _ q es
    enters_item q t s _ _ vs us fs hs es at (Rel.object h) k f = fails _ q es
    enters_item q t s _ _ vs us fs hs es at (Rel.closure {m = m} v e) k f = goes _ _ _ _ _ (Rel.entering at k)
        (marked fs hs f)

    pub enters : (q : Place) (v u : Value) (vs us : List Value) (fs : List (M.Frame T.TreeWork)) (hs : List R.Frame)
        (es : List Event) → Alike w false v u → AllAlike w vs us → FramesRel p w fs hs →
        Goes p input (R.enter d q u us hs es) (M.enter c q v vs fs es)
    enters q _ _ vs us fs hs es (Like.at {a = t} {b = s} i) k f =
        let l = g.stores.linked t s i in
        subst₂ (λ x y. Goes p input (R.enter_at d q s y us hs es) (M.enter_at c q t x vs fs es)) (sym l.here)
        (sym l.there)
        (enters_item q t s l.item l.other vs us fs hs es i l.alike k f)
    enters q _ _ vs us fs hs es _ k f = fails _ q es

    applies_to : (q : Place) (t s m : ℕ) (x y : Walked) (fs : List (M.Frame T.TreeWork)) (hs : List R.Frame)
        (es : List Event) → IsIn (Both t s) w → AlikeWalks (Partner w) (IsTrue false) x y → FramesRel p w fs hs →
        Goes p input (R.apply_to d q s m y hs es) (M.apply_to c q t m x fs es)
    applies_to q t s m _ _ fs hs es at (Like.elements k) f = goes _ _ _ _ _ (Rel.entering at k) (marked fs hs f)
    applies_to q t s m _ _ fs hs es at Like.too_long f = fails _ q es
    applies_to q t s m _ _ fs hs es at Like.no_list f = fails _ q es

    applies_item : (q : Place) (t s : ℕ) (i : M.Item) (j : S.Item) (v u : Value) (fs : List (M.Frame T.TreeWork))
        (hs : List R.Frame) (es : List Event) → IsIn (Both t s) w → ItemRel p w i j → Alike w false v u →
        FramesRel p w fs hs → Goes p input (R.apply_at d q s (Some j) u hs es) (M.apply_at c q t (Some i) v fs es)
    applies_item q t s _ _ v u fs hs es at (Rel.cell h) k f = fails _ q es
    applies_item q t s _ _ v u fs hs es at (Rel.object h) k f = fails _ q es
    applies_item q t s _ _ v u fs hs es at (Rel.closure {m = m} cv e) k f = applies_to q t s m _ _ fs hs es at
        (same-walk (Partner w) (IsTrue false) (M.contents c.store) (S.contents d.store) partnered 12 k) f

    pub applies : (q : Place) (v u x y : Value) (fs : List (M.Frame T.TreeWork)) (hs : List R.Frame)
        (es : List Event) → Alike w false v u → Alike w false x y → FramesRel p w fs hs →
        Goes p input (R.apply d q u y hs es) (M.apply c q v x fs es)
    applies q _ _ x y fs hs es (Like.at {a = t} {b = s} i) k f =
        let l = g.stores.linked t s i in
        subst₂ (λ a b. Goes p input (R.apply_at d q s b y hs es) (M.apply_at c q t a x fs es)) (sym l.here)
        (sym l.there)
        (applies_item q t s l.item l.other x y fs hs es i l.alike k f)
    applies q _ _ x y fs hs es _ k f = fails _ q es

    -- the input alone is another
    input_goes : (bs : List ℕ) (m : Bool) (v : Value) (fs : List (M.Frame T.TreeWork)) (hs : List R.Frame)
        (es : List Event) → Alike w false v v → FramesRel p w fs hs →
        Goes p input (R.go (record d { input = bs; met_end = m }) (R.Val v) hs es)
        (M.go (record c { input = bs; met_end = m }) (M.Val v) fs es)
    input_goes bs m v fs hs es h f = here
        (running {w = w}
        (record { globals = g.globals; stores = g.stores; statics = g.statics; input = refl; met = refl })
        (Rel.val (anywhere w (may_top p hs) v v h)) f)

    takes_input : (met : Bool) (bs : List ℕ) (fs : List (M.Frame T.TreeWork)) (hs : List R.Frame) (es : List Event) →
        d.met_end ≡ met → d.input ≡ bs → FramesRel p w fs hs →
        Goes p input (R.take_input d met bs hs es) (M.take_input c met bs fs es)
    takes_input true bs fs hs es m i f = goes-value _ _ fs hs _ Like.end_object f
    takes_input false [] fs hs es m i f = here
        (running {w = w}
        (record { globals = g.globals; stores = g.stores; statics = g.statics; input = g.input; met = refl })
        (Rel.val Like.end_object) f)
    takes_input false (b ∷ bs) fs hs es m i f = here
        (running {w = w}
        (record { globals = g.globals; stores = g.stores; statics = g.statics; input = refl; met = g.met })
        (Rel.val Like.char) f)

    peeks_input : (met : Bool) (bs : List ℕ) (fs : List (M.Frame T.TreeWork)) (hs : List R.Frame) (es : List Event) →
        FramesRel p w fs hs → Goes p input (R.peek_input d met bs hs es) (M.peek_input c met bs fs es)
    peeks_input true bs fs hs es f = goes-value _ _ fs hs _ Like.end_object f
    peeks_input false [] fs hs es f = here
        (running {w = w}
        (record { globals = g.globals; stores = g.stores; statics = g.statics; input = g.input; met = refl })
        (Rel.val Like.end_object) f)
    peeks_input false (b ∷ bs) fs hs es f = goes-value _ _ fs hs _ Like.char f

    performs : (q : Place) (a b : Effect) (fs : List (M.Frame T.TreeWork)) (hs : List R.Frame) (es : List Event) →
        AlikeEffects (Partner w) (IsTrue false) a b → FramesRel p w fs hs →
        Goes p input (R.perform d q b hs es) (M.perform c q a fs es)
    performs q _ _ fs hs es (Like.gives h) f = goes-value _ _ fs hs es h f
    performs q _ _ fs hs es (Like.makes h) f = goes-made _ _ fs hs es (Rel.object h) f
    performs q _ _ fs hs es (Like.changes {a = t} {b = s} at h) f = goes-written t s _ _ fs hs es at (Rel.object h) f
    performs q _ _ fs hs es Like.puts f = goes-value _ _ fs hs _ Like.unspecified f
    performs q _ _ fs hs es Like.takes f =
        subst₂ (λ m bs. Goes p input (R.take_input d d.met_end d.input hs es) (M.take_input c m bs fs es))
        (sym g.met) (sym g.input) (takes_input d.met_end d.input fs hs es refl refl f)
    performs q _ _ fs hs es Like.peeks f =
        subst₂ (λ m bs. Goes p input (R.peek_input d d.met_end d.input hs es) (M.peek_input c m bs fs es))
        (sym g.met) (sym g.input) (peeks_input d.met_end d.input fs hs es f)
    performs q _ _ fs hs es Like.fails f = fails _ q es
    performs q _ _ fs hs es Like.misused f = loses es

    pub uses-primitive : (q : Place) (a : Primitive) (vs us : List Value) (fs : List (M.Frame T.TreeWork))
        (hs : List R.Frame) (es : List Event) → AllAlike w vs us → FramesRel p w fs hs →
        Goes p input (R.perform d q (Do.effect_of (S.contents d.store) a us) hs es) (M.use_primitive c q a vs fs es)
    uses-primitive q a vs us fs hs es h f = performs q _ _ fs hs es
        (same-effect (Partner w) (IsTrue false) (M.contents c.store) (S.contents d.store) partnered a h) f
