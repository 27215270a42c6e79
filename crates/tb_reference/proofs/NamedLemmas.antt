-- What follows for the locations and the environments of a configuration.
use Rattle.std.proofs.Common.{◌≡◌, refl, sym, ap, ◌∙◌, subst, ℕ, suc, ◌+◌, ◌<◌, inl, inr, ⊎_elim, arith, cond, ◌==◌, List, [], ◌∷◌, length, Option, Some, None, slice_get, eqb-true, eq-eqb}
use Rattle.std.proofs.lemmas.Bool.{cases_Bool}
use Rattle.tb_semantics.specs.Graph.{IsIn, Reaches, root, child, below, kept, reaches, sum_of}
use Rattle.tb_semantics.proofs.ListLemmas.{get-some}
use Rattle.tb_semantics.proofs.Reachable.{in_below, reachable_kept}
use Rattle.tb_core.specs.Tree.{Tree, ProgramTree}
use Rattle.tb_core.specs.FirstUses.{first_of}
use Rattle.tb_core.specs.FreeVariables.{free, inner_free}
use Rattle.tb_core.specs.Store.{Value, At, Object, Pair, Vec, Str, Sym, Env, Empty, Bind, Item, Var, Obj, Clo, lookup, env_size, flat_size}
use Rattle.tb_core.specs.Space.{value_locations, values_locations, object_locations, control_locations, work_locations, frames_locations, locations_of, size_at, store_graph, own_words, space}
use Rattle.tb_core.specs.Reference.{Control, Eval, Bound, Val, Entering, Work, Sel, SetVar, SetGlo, Rest, Args, Top, Frame, Config}
use Rattle.tb_core.specs.Rules.{Every}
use Rattle.tb_core.proofs.FirstUses.{first_of-apart, first_of-in}
use Rattle.tb_core.proofs.Kept.{Base, ControlOk}
use Rattle.tb_core.proofs.Members.{in-either, in-tested, no-longer, tested-in}
use Rattle.tb_core.proofs.Reached.{store-closed, space-once}
use Rattle.tb_core.proofs.Stores.{Covers}
use Rattle.tb_reference.specs.Environments.{env_variables, BindsOnce, HasVariable, ListsVariables, control_environments, work_environments, frames_environments, store_environments, environments}
use Rattle.tb_reference.specs.Locations.{HoldsThere, LeadsThere, HasItem, ListsReached}
use Rattle.tb_reference.proofs.Everies.{every-in, every-append, IfThere, every-at}
use Rattle.tb_reference.proofs.Named.{NamesAmong, ValueIn, ObjectIn, ItemIn, ControlIn, WorkIn, FramesIn, ConfigIn}

-- the locations below a number
module _ (p : ProgramTree) (n : ℕ) where
  abbrev Below : List ℕ → Type 0
  Below ls = Every (λ l. l < n) ls

  value : (v : Value) → ValueIn n v → Below (value_locations v)
  value (At l) h = (h, tt)
  value _ h = tt

  values : (vs : List Value) → Every (ValueIn n) vs → Below (values_locations vs)
  values [] h = tt
  values (v ∷ vs) h = every-append (λ l. l < n) (value_locations v) _ (value v h.0) (values vs h.1)

  object : (o : Object) → ObjectIn n o → Below (object_locations o)
  object (Pair a b) h = every-append (λ l. l < n) (value_locations a) _ (value a h.0) (value b h.1)
  object (Vec vs) h = values vs h
  object (Str cs) h = tt
  object (Sym cs) h = tt

  item : (o : Option Item) → IfThere (ItemIn p n) o → Below (locations_of o)
  item None h = tt
  item (Some (Var v)) h = value v h
  item (Some (Obj o)) h = object o h
  item (Some (Clo m r)) h = (h.0).locations

  control : (k : Control) → ControlIn p n k → Below (control_locations k)
  control (Eval e r) h = (h.1).locations
  control (Bound e r) h = (h.1).locations
  control (Val v) h = value v h
  control (Entering l vs) h = (h.0, values vs h.1)

  work : (w : Work) → WorkIn p n w → Below (work_locations w)
  work (Sel a b r) h = (h.2).locations
  work (SetVar l) h = (h, tt)
  work (SetGlo g d q) h = tt
  work (Rest es r) h = (h.1).locations
  work (Args q s f vs r) h = every-append (λ l. l < n) (values_locations vs) _ (values vs h.values) (h.env).locations
  work (Top k) h = tt

  frames : (fs : List Frame) → FramesIn p n fs → Below (frames_locations fs)
  frames [] h = tt
  frames (f ∷ fs) h = every-append (λ l. l < n) (work_locations f.work) _ (work f.work h.0) (frames fs h.1)

module _ (p : ProgramTree) (c : Config) (h : ConfigIn p c) where
  pub all-held : HoldsThere (length p.statics) c
  all-held l i =
      let n = length c.store in
      let many = h.statics in
      ⊎_elim (λ j. let lt = in_below (length p.statics) l j in omega arith)
      (every-in (λ k. k < n) _ l (every-append (λ k. k < n) (control_locations c.control) _ (control p n c.control h.control)
      (every-append (λ k. k < n) (frames_locations c.frames) _ (frames p n c.frames h.frames) (values p n c.globals h.globals))))
      (in-either l (below (length p.statics)) _ i)

  pub all-led : LeadsThere (length p.statics) c
  all-led k l i = every-in (λ j. j < length c.store) _ l
      (item p (length c.store) (slice_get c.store k) (every-at (ItemIn p (length c.store)) c.store k h.store)) i

  reached_below : (l : ℕ) → Reaches (store_graph (length p.statics) c) l → l < length c.store
  reached_below l (root i) = all-held l i
  reached_below l (child {k = k} r i) = all-led k l i

  pub all-reached : (l : ℕ) → Reaches (store_graph (length p.statics) c) l → HasItem c l
  all-reached l r = get-some c.store l (reached_below l r)

  pub all-listed : (xs : List ℕ) × ListsReached (store_graph (length p.statics) c) xs
  all-listed =
      let g = store_graph (length p.statics) c in
      let k = reachable_kept g (store-closed (length p.statics) c) in
      (kept (reaches g) (below g.count), record { apart = k.apart; sound = λ l i. (k.sound l i).1; full = λ l r. k.full l (reached_below l r) r })

  pub all-counted : (xs : List ℕ) → ListsReached (store_graph (length p.statics) c) xs →
      space (length p.statics) c ≡ own_words c + sum_of (size_at c.store) xs
  all-counted xs k = space-once (length p.statics) c xs (record {
    apart = k.apart;
    sound = λ l i. (reached_below l (k.sound l i), k.sound l i);
    full = λ l lt r. k.full l r;
  })

-- the environments of a configuration
module _ (p : ProgramTree) (n : ℕ) where
  control_once : (k : Control) → ControlIn p n k → Every BindsOnce (control_environments k)
  control_once (Eval e r) h = ((h.1).once, tt)
  control_once (Bound e r) h = ((h.1).once, tt)
  control_once (Val v) h = tt
  control_once (Entering l vs) h = tt

  work_once : (w : Work) → WorkIn p n w → Every BindsOnce (work_environments w)
  work_once (Sel a b r) h = ((h.2).once, tt)
  work_once (SetVar l) h = tt
  work_once (SetGlo g d q) h = tt
  work_once (Rest es r) h = ((h.1).once, tt)
  work_once (Args q s f vs r) h = ((h.env).once, tt)
  work_once (Top k) h = tt

  frames_once : (fs : List Frame) → FramesIn p n fs → Every BindsOnce (frames_environments fs)
  frames_once [] h = tt
  frames_once (f ∷ fs) h = every-append BindsOnce (work_environments f.work) _ (work_once f.work h.0) (frames_once fs h.1)

  store_once : (st : List Item) → Every (ItemIn p n) st → Every BindsOnce (store_environments st)
  store_once [] h = tt
  store_once (Var v ∷ st) h = store_once st h.1
  store_once (Obj o ∷ st) h = store_once st h.1
  store_once (Clo m r ∷ st) h = (((h.0).0).once, store_once st h.1)

pub all-once : (p : ProgramTree) (c : Config) → ConfigIn p c → (r : Env) → IsIn r (environments c) → BindsOnce r
all-once p c h r i =
    let n = length c.store in
    every-in BindsOnce (environments c) r
    (every-append BindsOnce (control_environments c.control) _ (control_once p n c.control h.control)
    (every-append BindsOnce (frames_environments c.frames) _ (frames_once p n c.frames h.frames) (store_once p n c.store h.store))) i

-- a variable is found where it is bound
has_bound : (r : Env) (x : ℕ) → HasVariable r x → IsIn x (env_variables r)
has_bound Empty x h = let e = h.1 in cc
has_bound (Bind y l r) x h = ⊎_elim (λ q. inl (eqb-true y x q))
    (λ q. inr (has_bound r x (h.0, sym (ap (λ b. cond b (Some l) (lookup r x)) q) ∙ h.1)))
    (cases_Bool (y == x))

bound_has : (r : Env) (x : ℕ) → IsIn x (env_variables r) → HasVariable r x
bound_has Empty x i = absurd i
bound_has (Bind y l r) x (inl e) = (l, ap (λ b. cond b (Some l) (lookup r x)) (eq-eqb y x e))
bound_has (Bind y l r) x (inr i) = ⊎_elim (λ q. (l, ap (λ b. cond b (Some l) (lookup r x)) q))
    (λ q. let h = bound_has r x i in (h.0, ap (λ b. cond b (Some l) (lookup r x)) q ∙ h.1))
    (cases_Bool (y == x))

pub own-variables : (r : Env) → BindsOnce r → ListsVariables r (env_variables r)
own-variables r h = record { apart = h; sound = bound_has r; full = has_bound r }

size_bound : (r : Env) → env_size r ≡ length (env_variables r)
size_bound Empty = refl
size_bound (Bind y l r) = ap suc (size_bound r)

pub size-variables : (r : Env) (xs : List ℕ) → BindsOnce r → ListsVariables r xs → env_size r ≡ length xs
size-variables r xs h k =
    let some = no-longer xs (env_variables r) k.apart (λ x i. has_bound r x (k.sound x i)) in
    let all = no-longer (env_variables r) xs h (λ x i. k.full x (bound_has r x i)) in
    let size = size_bound r in
    omega arith

-- an environment that is cut to some variables and has them all has exactly these
exact : (st : List Item) (xs : List ℕ) (r : Env) → Covers st xs r → NamesAmong xs r → ListsVariables r (first_of [] xs)
exact st xs r h w = record {
  apart = first_of-apart [] xs;
  sound = λ x i. let f = h x (in-tested xs x (sym (first_of-in [] xs x) ∙ tested-in (first_of [] xs) x i)) in (f.0, f.1);
  full = λ x k. in-tested (first_of [] xs) x (first_of-in [] xs x ∙ tested-in xs x (w x (has_bound r x k)));
}

module _ (p : ProgramTree) (c : Config) (h : ConfigIn p c) (b : Base p c c.frames) (k : ControlOk p c.store c.control) where
  pub exact-at : (e : Tree) (r : Env) → c.control ≡ Eval e r → ListsVariables r (first_of [] (free (inner_free p) e))
  exact-at e r q = exact c.store (free (inner_free p) e) r (subst (ControlOk p c.store) q k).1
      (subst (ControlIn p (length c.store)) q h.control).2

  pub exact-in : (l m : ℕ) (r : Env) → slice_get c.store l ≡ Some (Clo m r) → ListsVariables r (first_of [] (inner_free p m))
  exact-in l m r q = exact c.store (inner_free p m) r (b.store l m r q).covers
      (subst (IfThere (ItemIn p (length c.store))) q (every-at (ItemIn p (length c.store)) c.store l h.store)).1

  pub exact-size : (l m : ℕ) (r : Env) → slice_get c.store l ≡ Some (Clo m r) →
      flat_size (Clo m r) ≡ 1 + length (first_of [] (inner_free p m))
  exact-size l m r q =
      let i : ItemIn p (length c.store) (Clo m r) = subst (IfThere (ItemIn p (length c.store))) q (every-at (ItemIn p (length c.store)) c.store l h.store) in
      ap (λ n. 1 + n) (size-variables r _ (i.0).once (exact-in l m r q))
