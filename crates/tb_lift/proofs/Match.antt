-- What a lifted program reaches stands for what its source reaches.
use Rattle.std.proofs.Common.{◌≡◌, refl, sym, ap, ◌∙◌, subst, subst₂, ℕ, suc, arith, inl, inr, ⊎_elim, List, [], ◌∷◌, ◌++◌, length, Option, Some, None, slice_get, append_assoc}
use Rattle.std.proofs.lemmas.Option.{same_Some}
use Rattle.tb_prim.specs.declared.place.Place.{Place}
use Rattle.tb_semantics.specs.Graph.{IsIn, Graph, Reaches, child}
use Rattle.tb_semantics.proofs.Worlds.{Both, Only, Stores}
use Rattle.tb_semantics.proofs.Reachable.{HasMatch}
use Rattle.tb_core.specs.Store.{Value, At, Object}
use Rattle.tb_core.specs.Space.{value_locations, values_locations, object_locations}
use Rattle.tb_core.specs.Tree.{option_list}
use Rattle.tb_core.specs.Partners as Like
use Rattle.tb_core.specs.Partners.{AlikeObjects}
use Rattle.tb_core.proofs.Members.{in-left, in-right, in-either}
use Rattle.tb_ir.specs.Tree.{Tree, Node, Form, Local, Trees, more}
use Rattle.tb_ir.specs.Machine.{Env, Item, Clo, Control, Work, lookup}
use Rattle.tb_ir.specs.TreeMachine.{TreeWork, Frames, work_values, env_values, free_of_numbers}
use Rattle.tb_ir.specs.Space as V
use Rattle.tb_lift.proofs.Environments.{lookup-value}
use Rattle.tb_lift.proofs.Rel as Rel
use Rattle.tb_lift.proofs.Rel.{Fact, World, Partner, Alike, AllAlike, Pass, source, Added, itself, through, Uses, Ready, Scope, Justified, EnvRel, ItemRel, FactHolds, kind, lifted_of, ValueRel, ValuesRel, CallRel, ArgsRel, WorkRel, FramesRel, Got, ControlRel, LetFrames}
use Rattle.tb_lift.proofs.Uses.{added-uses}
use Rattle.tb_lift.proofs.Grow.{items}

-- each of the first list stands for what is reached, if all of the other list is
pub record Matches (w : World) (g : Graph) (ls ks : List ℕ) : Type 0 where
  pub by : ((k : ℕ) → IsIn k ks → Reaches g k) → (l : ℕ) → IsIn l ls → HasMatch (Partner w) g l

-- the locations of a list of values are those of its values
pub value-in : (vs : List Value) (v : Value) (l : ℕ) → IsIn v vs → IsIn l (value_locations v) →
    IsIn l (values_locations vs)
value-in [] v l i j = absurd i
value-in (u ∷ vs) v l (inl e) j =
    in-left l (value_locations u) _ (subst (λ a. IsIn l (value_locations a)) (sym e) j)
value-in (u ∷ vs) v l (inr i) j = in-right l (value_locations u) _ (value-in vs v l i j)

pub in-values : (vs : List Value) (l : ℕ) → IsIn l (values_locations vs) →
    (v : Value) × IsIn v vs × IsIn l (value_locations v)
in-values [] l i = absurd i
in-values (v ∷ vs) l i =
    ⊎_elim
    (λ j. (v, inl refl, j))
    (λ j. let k = in-values vs l j in (k.0, inr k.1, k.2))
    (in-either l (value_locations v) _ i)

pub values-append : (vs us : List Value) → values_locations (vs ++ us) ≡ values_locations vs ++ values_locations us
values-append [] us = refl
values-append (v ∷ vs) us = ap (λ ks. value_locations v ++ ks) (values-append vs us)
    ∙ sym (append_assoc (value_locations v) (values_locations vs) (values_locations us))

module _ (w : World) (g : Graph) where
  pub match-none : (ks : List ℕ) → Matches w g [] ks
  match-none ks = record { by = λ all l i. absurd i }

  pub match-append : {ls ms ks js : List ℕ} → Matches w g ls ks → Matches w g ms js → Matches w g (ls ++ ms) (ks ++ js)
  match-append {ls} {ms} {ks} {js} h k = record {
    by = λ all l i. ⊎_elim (h.by (λ a j. all a (in-left a ks js j)) l) (k.by (λ a j. all a (in-right a ks js j)) l)
        (in-either l ls ms i);
  }

  pub match-one : (t s : ℕ) → IsIn (Both t s) w → Matches w g (t ∷ []) (s ∷ [])
  match-one t s i = record {
    by = λ all l. ⊎_elim (λ e. (s, all s (inl refl), subst (λ a. IsIn (Both a s) w) e i))
        (λ j. absurd j);
  }

  pub match-value : (v u : Value) → Alike w v u → Matches w g (value_locations v) (value_locations u)
  match-value _ _ (Like.at {a = t} {b = s} i) = match-one t s i
  match-value _ _ Like.fix = match-none []
  match-value _ _ Like.char = match-none []
  match-value _ _ Like.truth = match-none []
  match-value _ _ Like.nil = match-none []
  match-value _ _ Like.unspecified = match-none []
  match-value _ _ (Like.undefined u) = match-none []
  match-value _ _ Like.end_object = match-none []

  pub match-values : (vs us : List Value) → AllAlike w vs us → Matches w g (values_locations vs) (values_locations us)
  match-values _ _ Like.nothing = match-none []
  match-values _ _ (Like.further {v = v} {w = u} {vs = vs} {ws = us} h hs) = match-append (match-value v u h)
      (match-values vs us hs)

  match_object : (o n : Object) → AlikeObjects (Partner w) (Unit {0}) o n →
      Matches w g (object_locations o) (object_locations n)
  match_object _ _ (Like.pair h k) = match-append (match-value _ _ h) (match-value _ _ k)
  match_object _ _ (Like.vec hs) = match-values _ _ hs
  match_object _ _ Like.str = match-none []
  match_object _ _ Like.sym = match-none []

module _ (z : Pass) (w : World) (ss : List Item) (roots : List ℕ) where
  -- the store of the source as a graph
  abbrev pub sources : Graph
  sources = record { count = length ss; next = λ l. V.locations_of (slice_get ss l); roots = roots }

  -- what is known of the procedures that are in the source alone
  abbrev pub HoldsFacts : Type 0
  HoldsFacts = (s : ℕ) (x : Fact) → IsIn (Only s x) w →
      (q : Env) × (slice_get ss s ≡ Some (Clo x.lambda q)) × Scope z w (z.source_free x.lambda) q x.env

  -- what the environment of a procedure that is reached holds is reached
  captures : (c l : ℕ) (q : Env) (u : Value) → slice_get ss c ≡ Some (Clo l q) → IsIn u (env_values q) →
      Reaches sources c → (k : ℕ) → IsIn k (value_locations u) → Reaches sources k
  captures c l q u e i r k j =
      child r (subst (λ o. IsIn k (V.locations_of o)) (sym e) (value-in (env_values q) u k i j))

  module _ (facts : HoldsFacts) where
    -- the values of the added variables of a procedure that is reached
    pub ready-reached : (l c : ℕ) (m : Env) (y : ℕ) (v : Value) (t : ℕ) → Ready z w l c m → Reaches sources c →
        Added z l y → lookup m y ≡ Some v → IsIn t (value_locations v) → HasMatch (Partner w) sources t
    ready-reached l c m y v t r reached (itself i e) looked j =
        let f = facts c (record { lambda = l; env = r.old }) r.fact in
        let p = f.2.plain y i e in
        let b = r.agree y (itself i e) in
        let same : p.value ≡ v =
        same_Some p.value v (sym p.here ∙ (b.1 ∙ (sym b.2 ∙ looked))) in
        (match-value w sources p.value p.other p.alike).by
        (captures c l f.0 p.other f.1 (lookup-value f.0 y p.other p.there) reached)
        t (subst (λ a. IsIn t (value_locations a)) (sym same) j)
    ready-reached l c m y v t r reached (through h k i e a) looked j =
        let f = facts c (record { lambda = l; env = r.old }) r.fact in
        let n = f.2.known h k i e in
        let b = r.agree y (through h k i e a) in
        ready-reached k n.location r.old y v t n.ready
        (captures c l f.0 (At n.location) f.1 (lookup-value f.0 h (At n.location) n.there) reached n.location (inl refl))
        a (b.1 ∙ (sym b.2 ∙ looked)) j

    -- the values of the variables that are added to these lambda expressions have partners that are reached
    abbrev pub Entered : List ℕ → Env → Type 0
    Entered ls m = (l : ℕ) → IsIn l ls → (y : ℕ) (v : Value) (t : ℕ) → Added z l y → lookup m y ≡ Some v →
        IsIn t (value_locations v) → HasMatch (Partner w) sources t

    used_reached : {ls xs : List ℕ} {q m : Env} → Scope z w xs q m →
        ((k : ℕ) → IsIn k (values_locations (env_values q)) → Reaches sources k) → Entered ls m → (y : ℕ) (v : Value)
        (t : ℕ) → Uses z ls xs y → lookup m y ≡ Some v → IsIn t (value_locations v) → HasMatch (Partner w) sources t
    used_reached {q = q} e all ready y v t (Rel.plainly i n) looked j =
        let p = e.plain y i n in
        let same : p.value ≡ v = same_Some p.value v (sym p.here ∙ looked) in
        (match-value w sources p.value p.other p.alike).by
        (λ k b. all k (value-in (env_values q) p.other k (lookup-value q y p.other p.there) b))
        t (subst (λ a. IsIn t (value_locations a)) (sym same) j)
    used_reached {q = q} {m = m} e all ready y v t (Rel.added_by f l i n a) looked j =
        let k = e.known f l i n in
        ready-reached l k.location m y v t k.ready
        (all k.location (value-in (env_values q) (At k.location) k.location
        (lookup-value q f (At k.location) k.there) (inl refl)))
        a looked j
    used_reached {m = m} e all ready y v t (Rel.entered l i a) looked j =
        ready l i y v t a looked j

    pub env-reached : {ls xs ys : List ℕ} {q r m : Env} → EnvRel z w ls xs q ys r m → Entered ls m →
        ((k : ℕ) → IsIn k (values_locations (env_values q)) → Reaches sources k) → (t : ℕ) →
        IsIn t (values_locations (env_values r)) → HasMatch (Partner w) sources t
    env-reached {ls = ls} {xs = xs} {q = q} {r = r} {m = m} e ready all t i = let b = in-values (env_values r) t i in by b.0 b.2 (e.within b.0 b.1)
      where
        by : (v : Value) → IsIn t (value_locations v) → Justified z w ls xs q m v → HasMatch (Partner w) sources t
        by v j (Rel.is_used y u looked) = used_reached e.scope all ready y v t u looked j
        by v j (Rel.is_alike u k h) =
            (match-value w sources v u h).by (λ a b. all a (value-in (env_values q) u a k b)) t j

    pub match-env : {xs ys : List ℕ} {q r m : Env} → EnvRel z w [] xs q ys r m →
        Matches w sources (values_locations (env_values r)) (values_locations (env_values q))
    match-env e = record { by = λ all. env-reached e (λ l i. absurd i) all }

    pub match-item : (i j : Item) → ItemRel z w i j → Matches w sources (V.item_locations i) (V.item_locations j)
    match-item _ _ (Rel.cell h) = match-value w sources _ _ h
    match-item _ _ (Rel.object h) = match_object w sources _ _ h
    match-item _ _ (Rel.closure d e) = match-env e

    match_one : {m : Env} {o : Option ℕ} (v u : Value) → ValueRel z w m o v u →
        Matches w sources (value_locations v) (value_locations u)
    match_one _ _ (Rel.plain_value h) = match-value w sources _ _ h
    match_one _ _ (Rel.ready_value {c = c} r) = match-none w sources (c ∷ [])

    pub match-args : {m : Env} {f : Form} {ns : List ℕ} {vs us : List Value} → ValuesRel z w m f ns vs us →
        Matches w sources (values_locations vs) (values_locations us)
    match-args Rel.none_yet = match-none w sources []
    match-args (Rel.one_more {v = v} {u = u} h hs) = match-append w sources (match_one v u h) (match-args hs)

    pub match-call : {m : Env} {l : ℕ} {ns : List ℕ} {vs us : List Value} → CallRel z w m l ns vs us →
        Matches w sources (values_locations vs) (values_locations us)
    match-call Rel.no_value = match-none w sources []
    match-call (Rel.own_value {v = v} {u = u} h hs) = match-append w sources (match-value w sources v u h) (match-call hs)
    match-call (Rel.operator_value {c = c} {vs = vs} {us = us} r hs) =
        record { by = λ all. (match-call hs).by (λ k i. all k (inr i)) }

    -- the procedure of a call that becomes direct is among the values, or the operator is still to be evaluated
    pub operator-ready : {m : Env} {l : ℕ} {ns : List ℕ} {vs us : List Value} → CallRel z w m l ns vs us → IsIn 0 ns →
        (c : ℕ) × Ready z w l c m × IsIn c (values_locations us)
    operator-ready Rel.no_value i = absurd i
    operator-ready (Rel.own_value {n = n} {u = u} h hs) i =
        let k = operator-ready hs (⊎_elim (λ e. absurd (let b : suc n ≡ 0 = e in omega arith)) (λ j. j) i) in
        (k.0, k.1, in-right k.0 (value_locations u) _ k.2)
    operator-ready (Rel.operator_value {c = c} r hs) i = (c, r, inl refl)

    pub operator-named : (x s : ℕ) (p : Place) (es : Trees) (ns : List ℕ) → IsIn 0 ns →
        IsIn x (free_of_numbers (source z) (more (Node p s (Local x)) es) ns)
    operator-named x s p es [] i = absurd i
    operator-named x s p es (n ∷ ns) (inl e) =
        subst (λ k. IsIn x (free_of_numbers (source z) (more (Node p s (Local x)) es) (k ∷ ns))) (sym e) (inl refl)
    operator-named x s p es (n ∷ ns) (inr i) = in-right x _ _ (operator-named x s p es ns i)

    lifted_in : (f : Form) (ns : List ℕ) (l : ℕ) → IsIn l (lifted_of z f ns) → (k : ℕ) × IsIn k ns × (kind z f k ≡ Some l)
    lifted_in f [] l i = absurd i
    lifted_in f (n ∷ ns) l i =
        ⊎_elim
        (λ j. (n, inl refl, of_option (kind z f n) j))
        (λ j. let k = lifted_in f ns l j in (k.0, inr k.1, k.2))
        (in-either l (option_list (kind z f n)) _ i)
      where
        of_option : (o : Option ℕ) → IsIn l (option_list o) → o ≡ Some l
        of_option None j = absurd j
        of_option (Some m) (inl e) = ap Some e
        of_option (Some m) (inr j) = absurd j

    ready_one : {m : Env} {o : Option ℕ} {v u : Value} (l : ℕ) → o ≡ Some l → ValueRel z w m o v u →
        (c : ℕ) × Ready z w l c m × IsIn c (value_locations u)
    ready_one l e (Rel.plain_value h) = let c : None ≡ Some l = e in absurd cc
    ready_one {m = m} l e (Rel.ready_value {l = k} {c = c} r) =
        (c, subst (λ a. Ready z w a c m) (same_Some k l e) r, inl refl)

    values_ready : {m : Env} {f : Form} {ns : List ℕ} {vs us : List Value} → ValuesRel z w m f ns vs us → (k l : ℕ) →
        IsIn k ns → kind z f k ≡ Some l → (c : ℕ) × Ready z w l c m × IsIn c (values_locations us)
    values_ready Rel.none_yet k l i e = absurd i
    values_ready {f = f} (Rel.one_more {u = u} h hs) k l (inl q) e =
        let r = ready_one l (subst (λ a. kind z f a ≡ Some l) (sym q) e) h in
        (r.0, r.1, in-left r.0 (value_locations u) _ r.2)
    values_ready (Rel.one_more {u = u} h hs) k l (inr i) e =
        let r = values_ready hs k l i e in (r.0, r.1, in-right r.0 (value_locations u) _ r.2)

    -- the operands of a node, where the values of the variables that are added to the next one are known to be reached
    pub operands-reached : {m : Env} {o : Option ℕ} (a b : Work TreeWork) → ArgsRel z w m o a b →
        ((l : ℕ) → o ≡ Some l → Entered (l ∷ []) m) →
        ((k : ℕ) → IsIn k (V.work_locations work_values b) → Reaches sources k) → (t : ℕ) →
        IsIn t (V.work_locations work_values a) → HasMatch (Partner w) sources t
    operands-reached _ _ (Rel.operand_next n done ns {f = f} {vs = vs} {us = us} {q = q} {r = r} o b e k h env) next all t i =
        let of_values : (a : ℕ) → IsIn a (values_locations us) → Reaches sources a =
        λ a i. all a (subst (IsIn a) (sym (values-append us (env_values q))) (in-left a (values_locations us) _ i)) in
        let of_env : (a : ℕ) → IsIn a (values_locations (env_values q)) → Reaches sources a =
        λ a i. all a (subst (IsIn a) (sym (values-append us (env_values q))) (in-right a (values_locations us) _ i)) in
        ⊎_elim
        ((match-args h).by of_values t)
        (env-reached env
        (λ l i y v t a looked j.
        let p = lifted_in f (done ++ n ∷ []) l i in
        ⊎_elim
        (λ i. let r = values_ready h p.0 l i p.2 in ready-reached l r.0 _ y v t r.1 (of_values r.0 r.2) a looked j)
        (λ i. next l (sym k ∙ (ap (kind z f) (⊎_elim (λ e. e) (λ j. absurd j) i) ∙ p.2)) l (inl refl) y v t a looked j)
        (in-either p.0 done (n ∷ []) p.1))
        of_env t)
        (in-either t (values_locations vs) _ (subst (IsIn t) (values-append vs (env_values r)) i))

    pub match-work : (a b : Work TreeWork) → WorkRel z w a b →
        Matches w sources (V.work_locations work_values a) (V.work_locations work_values b)
    match-work _ _ Rel.top = match-none w sources []
    match-work _ _ (Rel.select n m e) = match-env e
    match-work _ _ Rel.set_global = match-none w sources []
    match-work _ _ (Rel.rest n e) = match-env e
    match-work _ _ (Rel.args h) =
        record { by = operands-reached _ _ h (λ l e. let c : None ≡ Some l = e in absurd cc) }
    match-work _ _ (Rel.direct_args n done ns {j = j} {x = x} {l = l} {o = o} {es = es} {vs = vs} {us = us} {q = q} {r = r} {m = m} e k perm b h env) =
        subst₂ (λ ks js. Matches w sources ks js) (sym (values-append vs (env_values r)))
        (sym (values-append us (env_values q)))
        (record {
          by = λ all t i.
              let of_values : (a : ℕ) → IsIn a (values_locations us) → Reaches sources a =
              λ a i. all a (in-left a (values_locations us) (values_locations (env_values q)) i) in
              let of_env : (a : ℕ) → IsIn a (values_locations (env_values q)) → Reaches sources a =
              λ a i. all a (in-right a (values_locations us) (values_locations (env_values q)) i) in
              ⊎_elim
              ((match-call h).by of_values t)
              (env-reached env
              (λ a i y v t added looked b.
              let k : (c : ℕ) × Ready z w l c m × Reaches sources c =
              ⊎_elim
              (λ i. let c = operator-ready h i in (c.0, c.1, of_values c.0 c.2))
              (λ i.
              let c = env.scope.known x l
              (in-left x (free_of_numbers (source z) (more (Node o j (Local x)) es) ns) []
              (operator-named x j o es ns (⊎_elim (λ e. absurd (let b : suc n ≡ 0 = e in omega arith)) (λ j. j) i))) e in (
                c.location,
                c.ready,
                of_env c.location (value-in (env_values q) (At c.location) c.location
                    (lookup-value q x (At c.location) c.there) (inl refl)),
              ))
              (in-either 0 done (suc n ∷ ns) (perm.full 0 (omega arith))) in
              ready-reached l k.0 m y v t k.1 k.2
              (subst (λ d. Added z d y) (⊎_elim (λ e. sym e) (λ j. absurd j) i) added) looked b)
              of_env t)
              (in-either t (values_locations vs) _ i);
        })

    pub match-frames : (fs hs : Frames) → FramesRel z w fs hs →
        Matches w sources (V.frames_locations work_values fs) (V.frames_locations work_values hs)
    match-frames _ _ Rel.no_frame = match-none w sources []
    match-frames _ _ (Rel.frame h hs) = match-append w sources (match-work _ _ h) (match-frames _ _ hs)

    pub let-frames-reached : {l : ℕ} {m : Env} (fs hs : Frames) → LetFrames z w l m fs hs → Entered (l ∷ []) m →
        ((k : ℕ) → IsIn k (V.frames_locations work_values hs) → Reaches sources k) → (t : ℕ) →
        IsIn t (V.frames_locations work_values fs) → HasMatch (Partner w) sources t
    let-frames-reached _ _ (Rel.let_frame {a = a} {b = b} {fs = fs} {hs = hs} h rest) next all t i =
        ⊎_elim
        (operands-reached a b h
        (λ k e j d. next j (⊎_elim (λ q. inl (same_Some _ j (e ∙ ap Some q))) (λ q. absurd q) d))
        (λ k c. all k (in-left k (V.work_locations work_values b) _ c)) t)
        ((match-frames fs hs rest).by (λ k c. all k (in-right k (V.work_locations work_values b) _ c)) t)
        (in-either t (V.work_locations work_values a) _ i)

    -- what is added to a lambda expression that the code names
    pub named-entered : (l : ℕ) (q m : Env) → Scope z w (z.source_free l) q m →
        ((k : ℕ) → IsIn k (values_locations (env_values q)) → Reaches sources k) → Entered (l ∷ []) m
    named-entered l q m s all k i y v t a looked j =
        used_reached s all (λ l i. absurd i) y v t
        (added-uses z {ls = []} (subst (λ b. Added z b y) (⊎_elim (λ e. sym e) (λ j. absurd j) i) a)) looked j

    pub ready-entered : (l c : ℕ) (m : Env) → Ready z w l c m → Reaches sources c → Entered (l ∷ []) m
    ready-entered l c m r reached k i y v t a looked j =
        ready-reached l c m y v t r reached (subst (λ b. Added z b y) (⊎_elim (λ e. sym e) (λ j. absurd j) i) a) looked j

    pub got-reached : {m : Env} {l c : ℕ} {ys : List ℕ} {gs : List Value} → Ready z w l c m → Reaches sources c →
        ((y : ℕ) → IsIn y ys → Added z l y) → Got m ys gs → (t : ℕ) → IsIn t (values_locations gs) →
        HasMatch (Partner w) sources t
    got-reached r reached h Rel.got_none t i = absurd i
    got-reached {m = m} {l = l} {c = c} r reached h (Rel.got_more {y = y} {v = v} e g) t i =
        ⊎_elim (λ j. ready-reached l c m y v t r reached (h y (inl refl)) e j)
        (λ j. got-reached r reached (λ x k. h x (inr k)) g t j)
        (in-either t (value_locations v) _ i)

    pub match-control : (sound : (l y : ℕ) → IsIn y (z.choice.added l) → Added z l y) (a b : Control Tree) →
        ControlRel z w a b → Matches w sources (V.control_locations a) (V.control_locations b)
    match-control sound _ _ (Rel.eval n e) = match-env e
    match-control sound _ _ (Rel.bound n h k e) = match-env e
    match-control sound _ _ (Rel.val h) = match-value w sources _ _ h
    match-control sound _ _ (Rel.entering {t = t} {s = s} i h) = match-append w sources (match-one w sources t s i)
        (match-values w sources _ _ h)
    match-control sound _ _ (Rel.entering_lifted {l = l} {c = c} {vs = vs} {us = us} {gs = gs} r h g) =
        subst (λ ks. Matches w sources ks (c ∷ values_locations us)) (sym (values-append vs gs))
        (record {
          by = λ all t i.
              ⊎_elim
              ((match-values w sources vs us h).by (λ a j. all a (inr j)) t)
              (got-reached r (all c (inl refl)) (sound l) g t)
              (in-either t (values_locations vs) _ i);
        })

-- what is known of the procedures of the source alone, from the stores
pub facts-of : (z : Pass) (w : World) (st ss : List Item) (roots : List ℕ) → Stores (items z) w w st ss →
    HoldsFacts z w ss roots
facts-of z w st ss roots h s x i = let k = h.holds s x i in of_known k.other k.there k.known
  where
    of_known : (j : Item) {x : Fact} → slice_get ss s ≡ Some j → FactHolds z w j x →
        (q : Env) × (slice_get ss s ≡ Some (Clo x.lambda q)) × Scope z w (z.source_free x.lambda) q x.env
    of_known _ e (Rel.lifted_closure {q = q} d k) = (q, e, k)
