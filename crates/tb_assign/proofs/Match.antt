-- What a program with cells reaches stands for what its source reaches.
use Rattle.std.proofs.Common.{◌≡◌, refl, sym, ap, ◌∙◌, subst, ℕ, inl, inr, ⊎_elim, Bool, true, false, cond, ◌==◌, IsTrue, List, [], ◌∷◌, ◌++◌, length, Some, slice_get, append_assoc}
use Rattle.std.proofs.lemmas.Option.{same_Some}
use Rattle.tb_semantics.specs.Graph.{IsIn, Graph, Reaches, child}
use Rattle.tb_semantics.proofs.Worlds.{Both, Only, World}
use Rattle.tb_semantics.proofs.Reachable.{HasMatch}
use Rattle.tb_core.specs.Tree.{ProgramTree}
use Rattle.tb_core.specs.FreeVariables.{is_assigned}
use Rattle.tb_core.specs.Store as S
use Rattle.tb_core.specs.Store.{Value, At, Object}
use Rattle.tb_core.specs.Space as Space
use Rattle.tb_core.specs.Space.{value_locations, values_locations, object_locations, env_locations}
use Rattle.tb_core.specs.Reference as R
use Rattle.tb_core.specs.Partners as Like
use Rattle.tb_core.specs.Partners.{AlikeValues, AlikeLists, AlikeObjects}
use Rattle.tb_core.proofs.Members.{in-left, in-right, in-either}
use Rattle.tb_ir.specs.Machine as M
use Rattle.tb_ir.specs.TreeMachine as T
use Rattle.tb_ir.specs.TreeMachine.{env_values}
use Rattle.tb_ir.specs.Space as V
use Rattle.tb_assign.proofs.Rel as Rel
use Rattle.tb_assign.proofs.Rel.{Partner, Alike, VarRel, EnvRel, ValuesRel, WorkRel, FramesRel, ItemRel, Known}

-- each of the first list stands for what is reached, if all of the other list is
pub record Matches (w : World Value) (g : Graph) (ls ks : List ℕ) : Type 0 where
  pub by : ((k : ℕ) → IsIn k ks → Reaches g k) → (l : ℕ) → IsIn l ls → HasMatch (Partner w) g l

module _ (w : World Value) (g : Graph) where
  pub match-none : (ks : List ℕ) → Matches w g [] ks
  match-none ks = record { by = λ all l i. absurd i }

  pub match-append : {ls ms ks js : List ℕ} → Matches w g ls ks → Matches w g ms js → Matches w g (ls ++ ms) (ks ++ js)
  match-append {ls} {ms} {ks} {js} h k = record {
    by = λ all l i. ⊎_elim (h.by (λ a j. all a (in-left a ks js j)) l) (k.by (λ a j. all a (in-right a ks js j)) l)
        (in-either l ls ms i);
  }

  pub match-more : {ls ks js : List ℕ} → ((k : ℕ) → IsIn k ks → IsIn k js) → Matches w g ls ks → Matches w g ls js
  match-more h m = record { by = λ all. m.by (λ k i. all k (h k i)) }

  pub match-both : {ls ms ks : List ℕ} → Matches w g ls ks → Matches w g ms ks → Matches w g (ls ++ ms) ks
  match-both {ls} {ms} h k = record { by = λ all l i. ⊎_elim (h.by all l) (k.by all l) (in-either l ls ms i) }

  pub match-one : (t s : ℕ) → IsIn (Both t s) w → Matches w g (t ∷ []) (s ∷ [])
  match-one t s i = record {
    by = λ all l. ⊎_elim (λ e. (s, all s (inl refl), subst (λ a. IsIn (Both a s) w) e i))
        (λ j. absurd j);
  }

  pub match-value : (b : Bool) (v u : Value) → Alike w b v u → Matches w g (value_locations v) (value_locations u)
  match-value b _ _ (Like.at {a = t} {b = s} i) = match-one t s i
  match-value b _ _ Like.fix = match-none []
  match-value b _ _ Like.char = match-none []
  match-value b _ _ Like.truth = match-none []
  match-value b _ _ Like.nil = match-none []
  match-value b _ _ Like.unspecified = match-none []
  match-value b _ _ (Like.undefined u) = match-none []
  match-value b _ _ Like.end_object = match-none []

  pub match-values : (b : Bool) (vs us : List Value) → AlikeLists (Partner w) (IsTrue b) vs us →
      Matches w g (values_locations vs) (values_locations us)
  match-values b _ _ Like.nothing = match-none []
  match-values b _ _ (Like.further {v = v} {w = u} {vs = vs} {ws = us} h hs) = match-append (match-value b v u h)
      (match-values b vs us hs)

  match_object : (o n : Object) → AlikeObjects (Partner w) (IsTrue false) o n →
      Matches w g (object_locations o) (object_locations n)
  match_object _ _ (Like.pair h k) = match-append (match-value false _ _ h) (match-value false _ _ k)
  match_object _ _ (Like.vec hs) = match-values false _ _ hs
  match_object _ _ Like.str = match-none []
  match_object _ _ Like.sym = match-none []

-- where an environment has a variable
env_first : (x y l s : ℕ) (r : S.Env) (b : Bool) → (x == y) ≡ b → cond b (Some l) (S.lookup r y) ≡ Some s →
    (S.lookup r y ≡ Some s → IsIn s (env_locations r)) → IsIn s (l ∷ env_locations r)
env_first x y l s r true e h k = inl (same_Some l s h)
env_first x y l s r false e h k = inr (k h)

pub lookup-location : (q : S.Env) (y s : ℕ) → S.lookup q y ≡ Some s → IsIn s (env_locations q)
lookup-location S.Empty y s e = cc
lookup-location (S.Bind x l r) y s e = env_first x y l s r (x == y) refl e (lookup-location r y s)

module _ (p : ProgramTree) (w : World Value) (ss : List S.Item) (roots : List ℕ) where
  -- the store of the source as a graph
  abbrev pub sources : Graph
  sources = record { count = length ss; next = λ l. Space.locations_of (slice_get ss l); roots = roots }

  -- a variable of the source that is reached holds its value for good
  abbrev pub HoldsFor : Type 0
  HoldsFor = (s : ℕ) (v : Value) → IsIn (Only s v) w →
      (u : Value) × (slice_get ss s ≡ Some (S.Var u)) × Alike w false v u

  -- what a reached variable's item holds is reached
  through : (s : ℕ) (u : Value) → slice_get ss s ≡ Some (S.Var u) → Reaches sources s → (k : ℕ) →
      IsIn k (value_locations u) → Reaches sources k
  through s u e r k i = child r (subst (λ o. IsIn k (Space.locations_of o)) (sym e) i)

  module _ (held : HoldsFor) where
    pub match-var : (b : Bool) (v : Value) (s : ℕ) → VarRel w b v s → Matches w sources (value_locations v) (s ∷ [])
    match-var b _ s (Rel.in_cell {t = t} e i) = match-one w sources t s i
    match-var b _ s (Rel.plain {v = v} e i) =
        let h = held s v i in
        record { by = λ all. (match-value w sources false v h.0 h.2).by (through s h.0 h.1 (all s (inl refl))) }

    pub match-env : (f : ℕ → Bool) (r : M.Env) (q : S.Env) → EnvRel f w r q →
        Matches w sources (values_locations (env_values r)) (env_locations q)
    match-env f _ q Rel.empty = match-none w sources (env_locations q)
    match-env f _ q (Rel.bind {x = x} {v = v} {s = s} {r = r} e h hs) =
        match-both w sources
        (match-more w sources
        (λ k. ⊎_elim (λ i. subst (λ a. IsIn a (env_locations q)) i (lookup-location q x s e)) (λ i. absurd i))
        (match-var (f x) v s h))
        (match-env f r q hs)

    pub match-item : (i : M.Item) (j : S.Item) → ItemRel p w i j →
        Matches w sources (V.item_locations i) (Space.item_locations j)
    match-item _ _ (Rel.cell h) = match-value w sources true _ _ h
    match-item _ _ (Rel.object h) = match_object w sources _ _ h
    match-item _ _ (Rel.closure c e) = match-env (is_assigned p) _ _ e

    match_args : (f : _) (ns : List ℕ) (vs us : List Value) → ValuesRel p w f ns vs us →
        Matches w sources (values_locations vs) (values_locations us)
    match_args f ns _ _ Rel.none_yet = match-none w sources []
    match_args f _ _ _ (Rel.one_more {v = v} {u = u} h hs) = match-append w sources (match-value w sources _ v u h)
        (match_args f _ _ _ hs)

    values-append : (vs us : List Value) → values_locations (vs ++ us) ≡ values_locations vs ++ values_locations us
    values-append [] us = refl
    values-append (v ∷ vs) us = ap (λ ks. value_locations v ++ ks) (values-append vs us)
        ∙ sym (append_assoc (value_locations v) (values_locations vs) (values_locations us))

    pub match-work : (a : M.Work T.TreeWork) (b : R.Work) → WorkRel p w a b →
        Matches w sources (V.work_locations T.work_values a) (Space.work_locations b)
    match-work _ _ Rel.top = match-none w sources []
    match-work _ _ (Rel.sel n m j k c e) = match-env _ _ _ e
    match-work _ _ Rel.set_global = match-none w sources []
    match-work _ _ (Rel.set_cell {t = t} {s = s} i) = match-one w sources t s i
    match-work _ _ (Rel.rest n k c e) = match-env _ _ _ e
    match-work _ _ (Rel.args {vs = vs} {us = us} {r = r} {h = q} o n m h lt c e) =
        subst (λ ks. Matches w sources ks (values_locations us ++ env_locations q))
        (sym (values-append vs (env_values r)))
        (match-append w sources (match_args _ _ vs us h) (match-env _ r q e))

    pub match-frames : (fs : List (M.Frame T.TreeWork)) (hs : List R.Frame) → FramesRel p w fs hs →
        Matches w sources (V.frames_locations T.work_values fs) (Space.frames_locations hs)
    match-frames _ _ Rel.no_frame = match-none w sources []
    match-frames _ _ (Rel.frame h hs) = match-append w sources (match-work _ _ h) (match-frames _ _ hs)
