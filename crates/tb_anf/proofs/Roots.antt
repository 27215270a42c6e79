-- What waits in the target holds nothing that does not wait in the source.
use Rattle.std.proofs.Common.{◌≡◌, refl, sym, ap, ◌∙◌, subst, ℕ, suc, ◌+◌, ◌⊎◌, inl, inr, ⊎_elim, arith, true, false, cond, ◌==◌, List, [], ◌∷◌, ◌++◌, Option, Some, None, slice_get}
use Rattle.std.proofs.lemmas.Bool.{cases_Bool}
use Rattle.std.proofs.lemmas.Option.{same_Some}
use Rattle.tb_prim.specs.declared.place.Place.{Place}
use Rattle.tb_semantics.specs.Graph.{IsIn}
use Rattle.tb_core.specs.FreeVariables.{is_in, without}
use Rattle.tb_core.specs.Space.{value_locations, values_locations}
use Rattle.tb_core.specs.Store.{Value}
use Rattle.tb_core.proofs.Members.{in-left, in-right, in-either, in-tested, in-without, without-sub}
use Rattle.tb_ir.specs.Tree.{Form, Let, more, operands}
use Rattle.tb_ir.specs.FreeVariables.{free}
use Rattle.tb_ir.specs.AnfTree as A
use Rattle.tb_ir.specs.AnfTree.{Operand, Block, Op}
use Rattle.tb_ir.specs.Machine.{Env, Empty, Bind, lookup, gather, bind_found}
use Rattle.tb_ir.specs.Space.{marks, frames_locations}
use Rattle.tb_ir.specs.TreeMachine as T
use Rattle.tb_ir.specs.TreeMachine.{TreeWork, Sel, SetGlo, Rest, Args, Context, Frames, env_values, numbers, free_of_numbers, free_of_body}
use Rattle.tb_ir.specs.AnfMachine as N
use Rattle.tb_ir.specs.AnfMachine.{AnfFrames, free_block, free_op, free_of_atom, free_of_atoms, atom_value}
use Rattle.tb_anf.specs.NormalForm.{size_all, After, AtEnd, put, around, block_of}
use Rattle.tb_anf.proofs.Environments.{Named}
use Rattle.tb_anf.proofs.Names.{by_operands, SoundForm}
use Rattle.tb_anf.proofs.Operands.{every-left, every-right, operands-nodes}
use Rattle.tb_anf.proofs.Advance.{View, of_let, plain, view}
use Rattle.tb_anf.proofs.Arranged.{operand-count}
use Rattle.tb_anf.proofs.Operands.{var-at}
use Rattle.tb_anf.proofs.Uses.{block-uses, all_uses, sequence_uses, at_end_uses, around_named, let_named, put_named, operation_named, named_behind, some_atom, some_variable, without_one}
use Rattle.tb_anf.proofs.Rel.{steps, operand_atoms, operation, finish, Done, none_done, one_done, Awaits, operand, arms, assigned, defined, others, Follows, at_end, then, FramesRel, top, waiting}

pub in-values-left : (vs us : List Value) (l : ℕ) → IsIn l (values_locations vs) → IsIn l (values_locations (vs ++ us))
in-values-left [] us l i = absurd i
in-values-left (v ∷ vs) us l i =
    ⊎_elim (in-left l (value_locations v) _) (λ j. in-right l (value_locations v) _ (in-values-left vs us l j))
    (in-either l (value_locations v) (values_locations vs) i)

pub in-values-right : (vs us : List Value) (l : ℕ) → IsIn l (values_locations us) → IsIn l (values_locations (vs ++ us))
in-values-right [] us l i = i
in-values-right (v ∷ vs) us l i = in-right l (value_locations v) _ (in-values-right vs us l i)

-- what an environment finds is among its values
pub lookup-roots : (r : Env) (y : ℕ) (v : Value) → lookup r y ≡ Some v → (l : ℕ) → IsIn l (value_locations v) →
    IsIn l (values_locations (env_values r))
lookup-roots Empty y v e l i = cc
lookup-roots (Bind x u r) y v e l i =
    (elim (x == y) as (λ b. cond b (Some u) (lookup r y) ≡ Some v → IsIn l (values_locations (u ∷ env_values r))) [
      | true ↦ λ h. in-left l (value_locations u) _ (subst (λ z. IsIn l (value_locations z)) (sym (same_Some u v h)) i)
      | false ↦ λ h. in-right l (value_locations u) _ (lookup-roots r y v h l i)
    ])
    e

-- and what is gathered is held under a name of the list
abbrev pub Gathered : List ℕ → Env → ℕ → Type 0
Gathered xs r l = (y : ℕ) × (v : Value) × IsIn y xs × (lookup r y ≡ Some v) × IsIn l (value_locations v)

gathered_first : (x : ℕ) (xs : List ℕ) (r rest : Env) (l : ℕ) (o : Option Value) → lookup r x ≡ o →
    (IsIn l (values_locations (env_values rest)) → Gathered xs r l) →
    IsIn l (values_locations (env_values (bind_found x o rest))) → Gathered (x ∷ xs) r l
gathered_first x xs r rest l None e h j = let k = h j in (k.0, k.1, inr k.2, k.3, k.4)
gathered_first x xs r rest l (Some v) e h j =
    ⊎_elim (λ k. (x, v, inl refl, e, k)) (λ k. let n = h k in (n.0, n.1, inr n.2, n.3, n.4))
    (in-either l (value_locations v) _ j)

pub gather-roots : (xs : List ℕ) (r : Env) (l : ℕ) → IsIn l (values_locations (env_values (gather xs r))) →
    Gathered xs r l
gather-roots [] r l i = absurd i
gather-roots (x ∷ xs) r l i = gathered_first x xs r (gather xs r) l (lookup r x) refl (gather-roots xs r l) i

-- what a variable holds, where these locations have it
abbrev pub Held : Env → ℕ → List ℕ → Type 0
Held m y ls = (v : Value) → lookup m y ≡ Some v → (l : ℕ) → IsIn l (value_locations v) → IsIn l ls

pub named-held : {xs : List ℕ} {q m : Env} (y : ℕ) → Named xs q m → IsIn y xs →
    Held m y (values_locations (env_values q))
named-held {xs} {q} {m} y n i = λ v e l j.
    let k = n.has y i in
    lookup-roots q y v (k.1 ∙ (sym k.2 ∙ e)) l j

pub atom-held : (m : Env) (a : Operand) (u : Value) (y : ℕ) → atom_value m a ≡ Some u → IsIn y (free_of_atom a) →
    Held m y (value_locations u)
atom-held m (A.Quote c) u y e i = λ v f l j. absurd i
atom-held m (A.Var x) u y e i = λ v f l j.
    ⊎_elim
    (λ q. subst (λ z. IsIn l (value_locations z)) (same_Some v u (sym f ∙ ap (lookup m) (sym q) ∙ e)) j)
    (λ z. absurd z) i

-- the atoms of operands that are done have the values so far
pub done-held : {m : Env} {all ds : List Operand} {is : List ℕ} {vs : List Value} (i y : ℕ) (a : Operand) →
    Done m all is ds vs → IsIn i is → slice_get all i ≡ Some a → IsIn y (free_of_atom a) →
    Held m y (values_locations vs)
done-held i y a none_done t g k = λ v f l n. absurd t
done-held {m} {all} i y a (one_done {i = j} {a = b} {v = u} {is = is} {vs = vs} g' e d) t g k = λ v f l n.
    ⊎_elim
    (λ q. in-left l (value_locations u) _ (atom-held m b u y e
    (subst (λ c. IsIn y (free_of_atom c)) (same_Some a b (sym g ∙ ap (slice_get all) (sym q) ∙ g')) k) v f l n))
    (λ t'. in-right l (value_locations u) _ (done-held i y a d t' g k v f l n)) t

pub held-more : (m : Env) (y : ℕ) (ls ks : List ℕ) → ((l : ℕ) → IsIn l ls → IsIn l ks) → Held m y ls → Held m y ks
held-more m y ls ks h k = λ v e l i. h l (k v e l i)

-- what waits in the target waits in the source
pub record Waits (fs : Frames) (ts : AnfFrames) : Type 0 where
  pub marked : marks ts ≡ marks fs
  pub roots : (l : ℕ) → IsIn l (frames_locations N.work_values ts) → IsIn l (frames_locations T.work_values fs)

module _ (x : Context) (calls : Form → Type 0) (taken : ℕ → List ℕ) (fewer : (l y : ℕ) → IsIn y (taken l) →
    IsIn y (x.inner l)) where
  -- an atom of an operand that is done, or the one that is awaited
  of_atoms : (m : Env) (n i : ℕ) (f : Form) (a : Operand) (vs : List Value) (done rest : List ℕ) (ds : List Operand)
      (j y : ℕ)
      (b : Operand) (ls : List ℕ) → slice_get (operand_atoms n f) i ≡ Some a → Done m (operand_atoms n f) done ds vs →
      ((l : ℕ) → IsIn l (values_locations vs) → IsIn l ls) → IsIn j (done ++ i ∷ rest) →
      slice_get (operand_atoms n f) j ≡ Some b → IsIn y (free_of_atom b) → (IsIn j rest → ⊥) →
      IsIn y (free_of_atom a) ⊎ Held m y ls
  of_atoms m n i f a vs done rest ds j y b ls g d sub t h k out =
      ⊎_elim
      (λ r. inr (held-more m y (values_locations vs) ls sub (done-held j y b d r h k)))
      (λ r. ⊎_elim
      (λ q. inl (subst (λ c. IsIn y (free_of_atom c))
      (same_Some b a (sym h ∙ ap (slice_get (operand_atoms n f)) (sym q) ∙ g)) k))
      (λ r'. absurd (out r')) r)
      (in-either j done (i ∷ rest) t)

  -- what a node with some of its operands evaluated names
  operand_held : (m q : Env) (p : Place) (s n i : ℕ) (f : Form) (a : Operand) (vs : List Value) (done rest : List ℕ)
      (ds : List Operand) (k : After) (ls : List ℕ) (y : ℕ) → View x.line n f → by_operands f ≡ true →
      SoundForm x calls n s f →
      numbers (x.line s) f ≡ done ++ i ∷ rest → slice_get (operand_atoms n f) i ≡ Some a →
      Done m (operand_atoms n f) done ds vs → Named (free_of_numbers x (operands f) rest ++ free_of_body x f) q m →
      (IsIn y (named_behind x calls taken fewer k) → Held m y ls) →
      IsIn y (free_block taken (around (steps x.line n f) rest (finish x.line n p f k))) →
      IsIn y (free_of_atom a) ⊎ Held m y (values_locations (vs ++ env_values q) ++ ls)
  operand_held m q p s n i _ a vs done rest ds k ls y (of_let xs es e) o so ns g d c h t =
      let per = so.here.permuted refl in
      let in_env = λ (l : ℕ) (z : IsIn l (values_locations (env_values q))). in-left l _ ls
      (in-values-right vs (env_values q) l z) in
      let within = λ (j : ℕ) (z : IsIn j rest). per.within j (subst (IsIn j) (sym ns) (in-right j done _ (inr z))) in
      ⊎_elim
      (λ z. inr (held-more m y (values_locations (env_values q)) _ in_env
      (named-held y c (in-left y (free_of_numbers x es rest) _ z))))
      (λ z. ⊎_elim
      (λ w. ⊎_elim
      (λ inside. let v = some_variable xs y (in-tested xs y inside) in
      let lt = v.2 in
      let long = so.here.long in
      of_atoms m n i (Let xs es e) a vs done rest ds v.0 y (A.Var y) _ g d
      (λ l r. in-left l _ ls (in-values-left vs (env_values q) l r))
      (subst (IsIn v.0) ns (per.full v.0 (omega arith))) (var-at xs v.0 y v.1) (inl refl)
      (λ r. z.1 v.0 r v.1))
      (λ outside. inr (held-more m y (values_locations (env_values q)) _ in_env
      (named-held y c (in-right y (free_of_numbers x es rest) _ (in-without xs (free x.inner e) y w outside)))))
      (cases_Bool (is_in xs y)))
      (λ w. inr (held-more m y ls _ (λ l r. in-right l (values_locations (vs ++ env_values q)) ls r) (h w)))
      (block-uses x calls taken fewer e (every-right _ _ _ so.proper) (suc n + size_all es) k y z.0))
      (let_named x calls taken fewer (suc n) xs es so.here.long
      (all_uses x calls taken fewer es (every-left _ _ _ so.proper)) rest within
      (block_of x.line (suc n + size_all es) e k) y t)
  operand_held m q p s n i f a vs done rest ds k ls y (plain same st fin) o so ns g d c h t =
      let per = so.here.permuted o in
      let within = λ (j : ℕ) (z : IsIn j rest). per.within j (subst (IsIn j) (sym ns) (in-right j done _ (inr z))) in
      ⊎_elim
      (λ z. inr (held-more m y (values_locations (env_values q)) _
      (λ l r. in-left l _ ls (in-values-right vs (env_values q) l r))
      (named-held y c (in-left y (free_of_numbers x (operands f) rest) _ z))))
      (λ z. ⊎_elim
      (λ w. let b = some_atom (operand_atoms n f) y (operation_named x calls taken fewer n p f y w) in
      let lt = b.4 in
      let long = operand-count n f o so.here.long in
      of_atoms m n i f a vs done rest ds b.0 y b.1 _ g d (λ l r. in-left l _ ls (in-values-left vs (env_values q) l r))
      (subst (IsIn b.0) ns (per.full b.0 (omega arith))) b.2 b.3
      (λ r. z.1 b.0 r b.1 (ap (λ u. slice_get u b.0) (sym same) ∙ b.2) b.3))
      (λ w. inr (held-more m y ls _ (λ l r. in-right l (values_locations (vs ++ env_values q)) ls r) (h w)))
      (put_named x calls taken fewer k (operation n p f) y z.0))
      (around_named x calls taken fewer (suc n) (operands f)
      (all_uses x calls taken fewer (operands f) (operands-nodes _ f o so.proper)) rest within (put k
      (operation n p f)) y
      (subst (λ u. IsIn y (free_block taken (around u rest (put k (operation n p f))))) st
      (subst (λ u. IsIn y (free_block taken (around (steps x.line n f) rest u))) (fin p k) t)))

  mutual
    -- what a block that awaits a value names is held above the source's frames, but for the value
    pub awaits-held : {m : Env} {a : Operand} {w : TreeWork} {fs : Frames} {b : Block} {ts : AnfFrames}
        {needed : List ℕ} →
        Awaits x calls taken m a w fs b ts needed → (y : ℕ) → IsIn y (free_block taken b) →
        IsIn y (free_of_atom a) ⊎
        Held m y (values_locations (T.work_values w) ++ frames_locations T.work_values fs)
    awaits-held {m} {a} {fs = fs}
        (operand n i done rest ds {q = q} {p = p} {s = s} {f = f} {vs = vs} {k = k} o so nw ns g d c h) y t =
        operand_held m q p s n i f a vs done rest ds k (frames_locations T.work_values fs) y
        (view x.line n f o) o so ns g d c
        (follows-held h y) t
    awaits-held {m} {a} {fs = fs} (arms n l {q = q} {b = b} {c = c} {k = k} sb sc nm nw h) y t =
        let B = block_of x.line n b AtEnd in
        let C = block_of x.line l c AtEnd in
        let env = values_locations (env_values q) in
        let up = λ (z : IsIn y (free x.inner b ++ free x.inner c)). held-more m y env
        (env ++ frames_locations T.work_values fs) (λ u r. in-left u env _ r) (named-held y nm z) in
        ⊎_elim
        (λ z. ⊎_elim inl
        (λ r. inr (up (⊎_elim
        (λ r'. in-left y (free x.inner b) _ (at_end_uses x calls taken fewer b n y
        (block-uses x calls taken fewer b sb.proper) r'))
        (λ r'. in-right y (free x.inner b) _
        (at_end_uses x calls taken fewer c l y (block-uses x calls taken fewer c sc.proper) r'))
        (in-either y (free_block taken B) (free_block taken C) r))))
        (in-either y (free_of_atom a) _ z))
        (λ z. inr (held-more m y (frames_locations T.work_values fs) _ (λ u r. in-right u env _ r)
        (follows-held h y z)))
        (put_named x calls taken fewer k (A.Branch a B C) y t)
    awaits-held {m} {a} (assigned {g = g} {p = p} {k = k} h) y t =
        ⊎_elim inl (λ z. inr (follows-held h y z)) (put_named x calls taken fewer k (A.SetGlobal g a p) y t)
    awaits-held {m} {a} (defined {g = g} {k = k} h) y t =
        ⊎_elim inl (λ z. inr (follows-held h y z)) (put_named x calls taken fewer k (A.DefGlobal g a) y t)
    awaits-held {m} {fs = fs} (others n s {q = q} {d = d} {ds = ds} {k = k} so nw nm h) y t =
        let env = values_locations (env_values q) in
        ⊎_elim
        (λ z. inr (held-more m y env (env ++ frames_locations T.work_values fs) (λ u r. in-left u env _ r)
        (named-held y nm z)))
        (λ z. inr (held-more m y (frames_locations T.work_values fs) _ (λ u r. in-right u env _ r)
        (follows-held h y z)))
        (sequence_uses x calls taken fewer (more d ds) (all_uses x calls taken fewer (more d ds) so.proper)
        (suc n) k y t)

    pub follows-held : {m : Env} {fs : Frames} {k : After} {ts : AnfFrames} {needed : List ℕ} →
        Follows x calls taken m fs k ts needed → (y : ℕ) → IsIn y (named_behind x calls taken fewer k) →
        Held m y (frames_locations T.work_values fs)
    follows-held (at_end f) y t = absurd t
    follows-held (then {y = z} {b = b} h out) y t =
        ⊎_elim
        (λ i. absurd (⊎_elim (without_one z (free_block taken b) y t) (λ r. r) i))
        (λ r. r)
        (awaits-held h y (without-sub (z ∷ []) (free_block taken b) y t))

  -- what is gathered for a block behind a variable
  binding_held : (m r : Env) (z : ℕ) (b : Block) (ls : List ℕ) → r ≡ gather (without (z ∷ []) (free_block taken b)) m →
      ((y : ℕ) → IsIn y (free_block taken b) → IsIn y (free_of_atom (A.Var z)) ⊎ Held m y ls) → (l : ℕ) →
      IsIn l (values_locations (env_values r)) → IsIn l ls
  binding_held m r z b ls e h l i =
      let k = gather-roots (without (z ∷ []) (free_block taken b)) m l
      (subst (λ u. IsIn l (values_locations (env_values u))) e i) in
      ⊎_elim
      (λ j. absurd (⊎_elim (without_one z (free_block taken b) k.0 k.2) (λ w. w) j))
      (λ j. j k.1 k.3 l k.4)
      (h k.0 (without-sub (z ∷ []) (free_block taken b) k.0 k.2))

  mutual
    pub awaits-waits : {m : Env} {a : Operand} {w : TreeWork} {fs : Frames} {b : Block} {ts : AnfFrames}
        {needed : List ℕ} →
        Awaits x calls taken m a w fs b ts needed → Waits fs ts
    awaits-waits (operand n i done rest ds o so nw ns g d c h) = follows-waits h
    awaits-waits (arms n l sb sc nm nw h) = follows-waits h
    awaits-waits (assigned h) = follows-waits h
    awaits-waits (defined h) = follows-waits h
    awaits-waits (others n s so nw nm h) = follows-waits h

    pub follows-waits : {m : Env} {fs : Frames} {k : After} {ts : AnfFrames} {needed : List ℕ} →
        Follows x calls taken m fs k ts needed → Waits fs ts
    follows-waits (at_end f) = frames-wait f
    follows-waits (then {w = w} h out) =
        let r = awaits-waits h in
        let e = r.marked in
        record {
          marked = omega arith;
          roots = λ l i. in-right l (values_locations (T.work_values w)) _ (r.roots l i);
        }

    pub frames-wait : {fs : Frames} {ts : AnfFrames} → FramesRel x calls taken fs ts → Waits fs ts
    frames-wait (top c k) = record { marked = refl; roots = λ l i. i }
    frames-wait (waiting c {m = m} {r = r} {y = y} {w = w} {b = b} {fs = fs} {ts = ts} h out e) =
        let rest = awaits-waits h in
        let same = rest.marked in
        record {
          marked = omega arith;
          roots = λ l i. ⊎_elim
              (binding_held m r y b (values_locations (T.work_values w) ++ frames_locations T.work_values fs) e
              (awaits-held h) l)
              (λ j. in-right l (values_locations (T.work_values w)) _ (rest.roots l j))
              (in-either l (values_locations (env_values r)) (frames_locations N.work_values ts) i);
        }
