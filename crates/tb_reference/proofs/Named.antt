-- What the states of a run name: locations below a number, and environments that bind no variable twice.
use Rattle.std.proofs.Common.{◌≡◌, refl, sym, ap, subst, ℕ, suc, ◌+◌, ◌<◌, ◌≤◌, inl, inr, ⊎_elim, arith, Bool, true, false, cond, ◌==◌, List, [], ◌∷◌, ◌++◌, length, Option, Some}
use Rattle.tb_semantics.specs.Graph.{IsIn, IsApart}
use Rattle.tb_core.specs.Tree.{Form, Let, ProgramTree}
use Rattle.tb_core.specs.FreeVariables.{is_in, free, free_form, inner_free}
use Rattle.tb_core.specs.OperandOrder.{has_order}
use Rattle.tb_core.specs.Store.{Value, At, Object, Pair, Vec, Str, Sym, Env, Empty, Bind, Item, Var, Obj, Clo, lookup, cut, bind_from}
use Rattle.tb_core.specs.Space.{env_locations}
use Rattle.tb_core.specs.Lists.{list_value}
use Rattle.tb_core.specs.Reference.{Control, Eval, Bound, Val, Entering, Work, Sel, SetVar, SetGlo, Rest, Args, Top, Frame, Config, State, config_of, located, vars, list_items}
use Rattle.tb_core.specs.Rules.{Every, Each, EachForm, EachAll}
use Rattle.tb_core.proofs.Kept.{NodeOk}
use Rattle.tb_core.proofs.Members.{in-either, in-tested, apart-append}
use Rattle.tb_reference.specs.Environments.{env_variables}
use Rattle.tb_reference.proofs.Everies.{every-more, IfThere}
use Rattle.tb_reference.proofs.Scopes.{Binds, without-out}

-- locations below a number, in values and objects
abbrev pub ValueIn : ℕ → Value → Type 0
ValueIn n (At l) = l < n
ValueIn n _ = Unit {0}

abbrev pub ObjectIn : ℕ → Object → Type 0
ObjectIn n (Pair a b) = ValueIn n a × ValueIn n b
ObjectIn n (Vec vs) = Every (ValueIn n) vs
ObjectIn n (Str cs) = Unit {0}
ObjectIn n (Sym cs) = Unit {0}

-- an environment has such locations, and binds no variable twice
pub record EnvIn (n : ℕ) (r : Env) : Type 0 where
  pub locations : Every (λ l. l < n) (env_locations r)
  pub once : IsApart (env_variables r)

-- the list has all variables of an environment, or none
abbrev pub NamesAmong : List ℕ → Env → Type 0
NamesAmong xs r = (y : ℕ) → IsIn y (env_variables r) → IsIn y xs

abbrev pub NamesNone : List ℕ → Env → Type 0
NamesNone xs r = (y : ℕ) → IsIn y xs → IsIn y (env_variables r) → ⊥

abbrev pub ItemIn : ProgramTree → ℕ → Item → Type 0
ItemIn p n (Var v) = ValueIn n v
ItemIn p n (Obj o) = ObjectIn n o
ItemIn p n (Clo m r) = EnvIn n r × NamesAmong (inner_free p m) r

-- a node keeps the rules, has its line, and binds its variables once
abbrev pub NodeIn : ProgramTree → ℕ → Form → Type 0
NodeIn p s f = NodeOk p s f × Binds (inner_free p) s f

abbrev pub ControlIn : ProgramTree → ℕ → Control → Type 0
ControlIn p n (Eval e r) = Each (NodeIn p) e × EnvIn n r × NamesAmong (free (inner_free p) e) r
ControlIn p n (Bound e r) = Each (NodeIn p) e × EnvIn n r
ControlIn p n (Val v) = ValueIn n v
ControlIn p n (Entering l vs) = (l < n) × Every (ValueIn n) vs

-- the variables that a node with operands binds
abbrev pub binders : Form → List ℕ
binders (Let xs es e) = xs
binders _ = []

pub record ArgsIn (p : ProgramTree) (n s : ℕ) (f : Form) (vs : List Value) (r : Env) : Type 0 where
  pub ordered : has_order f ≡ true
  pub node : NodeIn p s f
  pub parts : EachForm (NodeIn p) f
  pub values : Every (ValueIn n) vs
  pub env : EnvIn n r
  pub fresh : NamesNone (binders f) r

abbrev pub WorkIn : ProgramTree → ℕ → Work → Type 0
WorkIn p n (Sel a b r) = Each (NodeIn p) a × Each (NodeIn p) b × EnvIn n r
WorkIn p n (SetVar l) = l < n
WorkIn p n (SetGlo g d q) = Unit {0}
WorkIn p n (Rest es r) = EachAll (NodeIn p) es × EnvIn n r
WorkIn p n (Args q s f vs r) = ArgsIn p n s f vs r
WorkIn p n (Top k) = Unit {0}

abbrev pub FramesIn : ProgramTree → ℕ → List Frame → Type 0
FramesIn p n fs = Every (λ (f : Frame). WorkIn p n f.work) fs

pub record ConfigIn (p : ProgramTree) (c : Config) : Type 0 where
  pub statics : length p.statics ≤ length c.store
  pub store : Every (ItemIn p (length c.store)) c.store
  pub globals : Every (ValueIn (length c.store)) c.globals
  pub frames : FramesIn p (length c.store) c.frames
  pub control : ControlIn p (length c.store) c.control

abbrev pub StateIn : ProgramTree → State → Type 0
StateIn p s = ConfigIn p (config_of s)

-- all this stays below a greater number
module _ (m n : ℕ) (le : m ≤ n) where
  pub value-more : (v : Value) → ValueIn m v → ValueIn n v
  value-more (At l) h = omega arith
  value-more _ h = tt

  pub values-more : (vs : List Value) → Every (ValueIn m) vs → Every (ValueIn n) vs
  values-more vs h = every-more (ValueIn m) (ValueIn n) value-more vs h

  object-more : (o : Object) → ObjectIn m o → ObjectIn n o
  object-more (Pair a b) h = (value-more a h.0, value-more b h.1)
  object-more (Vec vs) h = values-more vs h
  object-more (Str cs) h = tt
  object-more (Sym cs) h = tt

  pub env-more : (r : Env) → EnvIn m r → EnvIn n r
  env-more r h = record {
    locations = every-more (λ l. l < m) (λ l. l < n) (λ l lt. omega arith) (env_locations r) h.locations;
    once = h.once;
  }

  pub item-more : (p : ProgramTree) (i : Item) → ItemIn p m i → ItemIn p n i
  item-more p (Var v) h = value-more v h
  item-more p (Obj o) h = object-more o h
  item-more p (Clo k r) h = (env-more r h.0, h.1)

  work_more : (p : ProgramTree) (w : Work) → WorkIn p m w → WorkIn p n w
  work_more p (Sel a b r) h = (h.0, h.1, env-more r h.2)
  work_more p (SetVar l) h = omega arith
  work_more p (SetGlo g d q) h = tt
  work_more p (Rest es r) h = (h.0, env-more r h.1)
  work_more p (Args q s f vs r) h =
      record { ordered = h.ordered; node = h.node; parts = h.parts; values = values-more vs h.values; env = env-more r h.env; fresh = h.fresh }
  work_more p (Top k) h = tt

  pub frames-more : (p : ProgramTree) (fs : List Frame) → FramesIn p m fs → FramesIn p n fs
  frames-more p fs h = every-more (λ (f : Frame). WorkIn p m f.work) (λ (f : Frame). WorkIn p n f.work) (λ f k. work_more p f.work k) fs h

-- an environment that is cut
names_left : (xs : List ℕ) (z l : ℕ) (r s : Env) (y : ℕ) → (IsIn y (env_variables s) → IsIn y xs × IsIn y (env_variables r)) →
    (b : Bool) → is_in xs z ≡ b → IsIn y (env_variables (cond b (Bind z l s) s)) → IsIn y xs × IsIn y (z ∷ env_variables r)
names_left xs z l r s y h true e (inl q) = (subst (λ v. IsIn v xs) q (in-tested xs z e), inl q)
names_left xs z l r s y h true e (inr i) = let k = h i in (k.0, inr k.1)
names_left xs z l r s y h false e i = let k = h i in (k.0, inr k.1)

pub cut-names : (xs : List ℕ) (r : Env) (y : ℕ) → IsIn y (env_variables (cut xs r)) → IsIn y xs × IsIn y (env_variables r)
cut-names xs Empty y i = absurd i
cut-names xs (Bind z l r) y i = names_left xs z l r (cut xs r) y (cut-names xs r y) (is_in xs z) refl i

cut_newest : (n z l : ℕ) (s : Env) (b : Bool) → l < n → (IsIn z (env_variables s) → ⊥) → EnvIn n s →
    EnvIn n (cond b (Bind z l s) s)
cut_newest n z l s true lt out h = record { locations = (lt, h.locations); once = (out, h.once) }
cut_newest n z l s false lt out h = h

pub cut-in : (n : ℕ) (xs : List ℕ) (r : Env) → EnvIn n r → EnvIn n (cut xs r)
cut-in n xs Empty h = h
cut-in n xs (Bind z l r) h =
    cut_newest n z l (cut xs r) (is_in xs z) (h.locations).0 (λ i. (h.once).0 (cut-names xs r z i).1)
    (cut-in n xs r (record { locations = (h.locations).1; once = (h.once).1 }))

pub empty-in : (n : ℕ) → EnvIn n Empty
empty-in n = record { locations = tt; once = tt }

-- variables that are bound to locations which follow one another
bound_locations : (n : ℕ) (xs : List ℕ) (l : ℕ) (r : Env) → l + length xs ≤ n → Every (λ k. k < n) (env_locations r) →
    Every (λ k. k < n) (env_locations (bind_from xs l r))
bound_locations n [] l r le h = h
bound_locations n (x ∷ xs) l r le h = (omega arith, bound_locations n xs (suc l) r (omega arith) h)

bound_names : (xs : List ℕ) (l : ℕ) (r : Env) → env_variables (bind_from xs l r) ≡ xs ++ env_variables r
bound_names [] l r = refl
bound_names (x ∷ xs) l r = ap (λ ys. x ∷ ys) (bound_names xs (suc l) r)

pub bound-in : (n : ℕ) (xs : List ℕ) (l : ℕ) (r : Env) → l + length xs ≤ n → IsApart xs → NamesNone xs r → EnvIn n r →
    EnvIn n (bind_from xs l r)
bound-in n xs l r le a none h = record {
  locations = bound_locations n xs l r le h.locations;
  once = subst IsApart (sym (bound_names xs l r)) (apart-append xs (env_variables r) a h.once none);
}

-- the location of a variable
found_newest : (n l : ℕ) (b : Bool) (o : Option ℕ) → l < n → IfThere (λ k. k < n) o → IfThere (λ k. k < n) (cond b (Some l) o)
found_newest n l true o h k = h
found_newest n l false o h k = k

pub found-in : (n : ℕ) (r : Env) (y : ℕ) → Every (λ k. k < n) (env_locations r) → IfThere (λ k. k < n) (lookup r y)
found-in n Empty y h = tt
found-in n (Bind x l r) y h = found_newest n l (x == y) (lookup r y) h.0 (found-in n r y h.1)

-- the variables of a `let` are apart from those of its environment, which are free in it
pub fresh-at : (p : ProgramTree) (s : ℕ) (f : Form) (r : Env) → NodeIn p s f → NamesAmong (free_form (inner_free p) f) r →
    NamesNone (binders f) r
fresh-at p s (Let xs es e) r k h y i j =
    ⊎_elim (λ q. (k.1).1 y i q) (λ q. without-out xs _ y q i) (in-either y _ _ (h y j))
fresh-at p s _ r k h y i j = i

-- items that are made: variables, the pairs of a list, and variables that hold locations which follow one another
pub vars-in : (p : ProgramTree) (n : ℕ) (vs : List Value) → Every (ValueIn n) vs → Every (ItemIn p n) (vars vs)
vars-in p n [] h = tt
vars-in p n (v ∷ vs) h = (h.0, vars-in p n vs h.1)

pub located-in : (p : ProgramTree) (n : ℕ) (xs : List ℕ) (l : ℕ) → l + length xs ≤ n → Every (ItemIn p n) (located xs l)
located-in p n [] l h = tt
located-in p n (x ∷ xs) l h = (omega arith, located-in p n xs (suc l) (omega arith))

pub located-length : (xs : List ℕ) (l : ℕ) → length (located xs l) ≡ length xs
located-length [] l = refl
located-length (x ∷ xs) l = ap suc (located-length xs (suc l))

pub list-in : (p : ProgramTree) (n : ℕ) (vs : List Value) (l : ℕ) → l + length vs ≤ n → Every (ValueIn n) vs →
    Every (ItemIn p n) (list_items vs l)
list-in p n [] l le h = tt
list-in p n (v ∷ []) l le h = ((h.0, tt), tt)
list-in p n (v ∷ w ∷ ws) l le h = ((h.0, omega arith), list-in p n (w ∷ ws) (suc l) (omega arith) h.1)

pub list-length : (vs : List Value) (l : ℕ) → length (list_items vs l) ≡ length vs
list-length [] l = refl
list-length (v ∷ []) l = refl
list-length (v ∷ w ∷ ws) l = ap suc (list-length (w ∷ ws) (suc l))

pub list-value-in : (n : ℕ) (vs : List Value) (l : ℕ) → l + length vs ≤ n → ValueIn n (list_value vs l)
list-value-in n [] l h = tt
list-value-in n (v ∷ vs) l h = omega arith
