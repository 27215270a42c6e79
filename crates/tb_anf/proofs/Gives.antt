-- A value is there in the source, and the target is at the block that awaits it: how both go on.
use Rattle.std.proofs.Common.{◌≡◌, refl, sym, ap, ◌∙◌, subst, ℕ, suc, ◌<◌, inl, inr, ⊎_elim, arith, true, false, List, [], ◌∷◌, ◌++◌, length, drop, Some, slice_get, append_assoc}
use Rattle.tb_prim.specs.declared.place.Place.{Place}
use Rattle.tb_prim.specs.declared.event.Event.{Event}
use Rattle.tb_semantics.specs.Graph.{IsIn}
use Rattle.tb_semantics.proofs.Simulation as Sim
use Rattle.tb_semantics.proofs.ListLemmas.{length-last}
use Rattle.tb_core.specs.OperandOrder.{Line}
use Rattle.tb_core.specs.Space.{value_locations, values_locations}
use Rattle.tb_core.specs.Store.{Value}
use Rattle.tb_core.proofs.Members.{in-left, in-right, in-either}
use Rattle.tb_ir.specs.Tree.{Tree, Form, Let, Trees, more, operands, ProgramTree}
use Rattle.tb_ir.specs.FreeVariables.{free}
use Rattle.tb_ir.specs.AnfTree as A
use Rattle.tb_ir.specs.AnfTree.{Operand, Block, Op}
use Rattle.tb_ir.specs.Machine.{Env, Eval, Val, Running, gather, push}
use Rattle.tb_ir.specs.Space.{frames_locations}
use Rattle.tb_ir.specs.TreeMachine as T
use Rattle.tb_ir.specs.TreeMachine.{Frames, TreeWork, Args, Sel, SetGlo, Rest, env_values, line_of, numbers, free_of_numbers, free_of_body}
use Rattle.tb_ir.specs.AnfMachine.{InBlock, AnfFrames, free_block, free_op, free_of_atom, atom_value}
use Rattle.tb_anf.specs.NormalForm.{After, AtEnd, put, around, block_of}
use Rattle.tb_anf.proofs.Blocks.{Stands}
use Rattle.tb_anf.proofs.Calls.{Calls}
use Rattle.tb_anf.proofs.Environments.{Named}
use Rattle.tb_anf.proofs.Evaluates.{sequence-next, sequence-weight}
use Rattle.tb_anf.proofs.Finished.{gives-runs}
use Rattle.tb_anf.proofs.Given.{gives-more, gives-let, rest-left}
use Rattle.tb_anf.proofs.Names.{names_form, by_operands, AreNew, SoundForm}
use Rattle.tb_anf.proofs.Nodes.{done-length}
use Rattle.tb_anf.proofs.OperandMoves.{LetOrOther, is_let, other, let_or_other, left-at, operand-weight}
use Rattle.tb_anf.proofs.Rel.{steps, operand_atoms, operation, finish, Done, Awaits, operand, arms, assigned, defined, others, Follows}
use Rattle.tb_anf.proofs.Roots.{Held, held-more, named-held, atom-held}
use Rattle.tb_anf.proofs.States as S
use Rattle.tb_anf.proofs.States.{Ground, at, Related, Ready, Stored}
use Rattle.tb_anf.proofs.Turns.{taken, Turns, fewer, put-moves, put_pending, source-goes}
use Rattle.tb_anf.proofs.Uses.{block-uses, at_end_uses, tree_there}
use Rattle.tb_anf.proofs.Weights.{state_weight, weight-size, sizes_at}

module _ (p : ProgramTree) (order : List Line) (input : List ℕ) where
  abbrev x : T.Context
  x = T.context_of p order

  abbrev mine : ℕ → List ℕ
  mine = taken p order input

  -- the operand of a node
  module _ (h : Ground) (v : Value) (a : Operand) (m q r : Env) (u : Place) (s n i : ℕ) (done : List ℕ)
      (ds : List Operand) (k : After) (fs : Frames) (ts : AnfFrames) (needed : List ℕ) (es : List Event)
      (vs : List Value) where
    -- more operands are left
    more-left : (i' : ℕ) (rest : List ℕ) (f : Form) → by_operands f ≡ true → SoundForm x (Calls p) n s f →
        AreNew (names_form n f) needed → numbers (x.line s) f ≡ done ++ i ∷ (i' ∷ rest) →
        slice_get (operand_atoms n f) i ≡ Some a → Done m (operand_atoms n f) done ds vs → atom_value m a ≡ Some v →
        Named (free_of_numbers x (operands f) (i' ∷ rest) ++ free_of_body x f) q m →
        Follows x (Calls p) mine m fs k ts needed →
        r ≡ gather (free_block mine (around (steps x.line n f) (i' ∷ rest) (finish x.line n u f k))) m →
        Stored x (Calls p) h.store →
        Turns p order input
        (Running (at h (Eval (InBlock (around (steps x.line n f) (i' ∷ rest) (finish x.line n u f k))) r) ts) es)
        (Running (at h (Val v) (push (Args u s f vs q) fs)) es)
    more-left i' rest f o so nw ns g d e nm fo eq st =
        let all = numbers (x.line s) f in
        let ws = vs ++ v ∷ [] in
        let here = at h (Val v) (push (Args u s f vs q) fs) in
        let long = done-length d in
        let now : drop (suc (length vs)) all ≡ i' ∷ rest = left-at all done (i' ∷ rest) i vs ns long in
        let last : suc (length vs) ≡ length ws = sym (length-last vs v) in
        let later : drop (suc (length ws)) all ≡ rest =
        left-at all (done ++ i ∷ []) rest i' ws (ns ∙ sym (append_assoc done (i ∷ []) (i' ∷ rest)))
        (length-last done i ∙ ap suc long ∙ last) in
        let t = tree_there (operands f) i'
        ((so.here.permuted o).within i' (subst (IsIn i') (sym ns) (in-right i' done _ (inr (inl refl))))) in
        let lt = operand-weight p order input here u s f ws q i' rest fs es t.0 later t.1 in
        let same = ap (sizes_at (operands f)) now in
        let to : drop (length ws) all ≡ i' ∷ rest = ap (λ z. drop z all) (sym last) ∙ now in
        Sim.source_moves
        (gives-more p order mine h v a m q r u s n i i' f vs done rest ds k fs ts needed es o so nw ns g d e nm fo
        eq st)
        (subst (λ z. state_weight (line_of order) (T.operands_left x here u s f ws q all z fs es) <
        state_weight (line_of order) (Running here es)) (sym to) (omega arith))

    -- the body of a `let` is next
    let-left : (xs : List ℕ) (cs : Trees) (b : Tree) → SoundForm x (Calls p) n s (Let xs cs b) →
        AreNew (names_form n (Let xs cs b)) needed → numbers (x.line s) (Let xs cs b) ≡ done ++ i ∷ [] →
        slice_get (operand_atoms n (Let xs cs b)) i ≡ Some a → Done m (operand_atoms n (Let xs cs b)) done ds vs →
        atom_value m a ≡ Some v → Named (free_of_body x (Let xs cs b)) q m →
        Follows x (Calls p) mine m fs k ts needed →
        r ≡ gather (free_block mine (finish x.line n u (Let xs cs b) k)) m → Stored x (Calls p) h.store →
        Turns p order input (Running (at h (Eval (InBlock (finish x.line n u (Let xs cs b) k)) r) ts) es)
        (Running (at h (Val v) (push (Args u s (Let xs cs b) vs q) fs)) es)
    let-left xs cs b so nw ns g d e nm fo eq st =
        let f = Let xs cs b in
        let all = numbers (x.line s) f in
        let ws = vs ++ v ∷ [] in
        let here = at h (Val v) (push (Args u s f vs q) fs) in
        let to : drop (length ws) all ≡ [] = rest-left p order mine all done [] i vs v ns (done-length d) in
        let w = weight-size b in
        Sim.source_moves
        (gives-let p order mine h v a m q r u s n i xs cs b vs done ds k fs ts needed es so nw ns g d e nm fo eq st)
        (subst (λ z. state_weight (line_of order) (T.operands_left x here u s f ws q all z fs es) <
        state_weight (line_of order) (Running here es)) (sym to) (omega arith))

    last-value : {f : Form} → LetOrOther f → by_operands f ≡ true → SoundForm x (Calls p) n s f →
        AreNew (names_form n f) needed → numbers (x.line s) f ≡ done ++ i ∷ [] →
        slice_get (operand_atoms n f) i ≡ Some a → Done m (operand_atoms n f) done ds vs → atom_value m a ≡ Some v →
        Named (free_of_body x f) q m → Follows x (Calls p) mine m fs k ts needed →
        r ≡ gather (free_block mine (finish x.line n u f k)) m → Stored x (Calls p) h.store →
        Turns p order input (Running (at h (Eval (InBlock (finish x.line n u f k)) r) ts) es)
        (Running (at h (Val v) (push (Args u s f vs q) fs)) es)
    last-value (is_let xs cs b) o so nw ns g d e nm fo eq st = let-left xs cs b so nw ns g d e nm fo eq st
    last-value (other {f = f} l fin) o so nw ns g d e nm fo eq st =
        let same = fin x.line n u k in
        let op = operation n u f in
        let z = put_pending p order input (at h (Eval (InBlock (put k op)) r) ts) k op r es in
        subst (λ b. Turns p order input (Running (at h (Eval (InBlock b) r) ts) es)
        (Running (at h (Val v) (push (Args u s f vs q) fs)) es)) (sym same)
        (Sim.target_moves
        (gives-runs p order mine
        (fewer p order input) h v a m q r u s n i f vs done ds k fs ts needed es o l so ns g d e
        fo (eq ∙ ap (λ b. gather (free_block mine b) m) same) st) (omega arith))

    operand-gives : (rest : List ℕ) (f : Form) → by_operands f ≡ true → SoundForm x (Calls p) n s f →
        AreNew (names_form n f) needed → numbers (x.line s) f ≡ done ++ i ∷ rest →
        slice_get (operand_atoms n f) i ≡ Some a → Done m (operand_atoms n f) done ds vs → atom_value m a ≡ Some v →
        Named (free_of_numbers x (operands f) rest ++ free_of_body x f) q m →
        Follows x (Calls p) mine m fs k ts needed →
        r ≡ gather (free_block mine (around (steps x.line n f) rest (finish x.line n u f k))) m →
        Stored x (Calls p) h.store →
        Turns p order input
        (Running (at h (Eval (InBlock (around (steps x.line n f) rest (finish x.line n u f k))) r) ts) es)
        (Running (at h (Val v) (push (Args u s f vs q) fs)) es)
    operand-gives [] f o so nw ns g d e nm fo eq st = last-value (let_or_other f o) o so nw ns g d e nm fo eq st
    operand-gives (i' ∷ rest) f o so nw ns g d e nm fo eq st = more-left i' rest f o so nw ns g d e nm fo eq st

  -- what an operation with the value names is held
  value-stands : (m q : Env) (v : Value) (w : TreeWork) (fs : Frames) (op : Op) →
      ((y : ℕ) → IsIn y (free_op mine op) →
      Held m y (value_locations v ++ (values_locations (T.work_values w) ++ frames_locations T.work_values fs))) →
      Stands p order mine (fewer p order input) m (Val v) (push w fs) fs op
  value-stands m q v w fs op own = record {
    marked = omega arith;
    frames = λ l i. in-right l (value_locations v) _ (in-right l (values_locations (T.work_values w)) _ i);
    atoms = own;
  }

  pub gives-moves : (h : Ground) (v : Value) (a : Operand) (m r : Env) (w : TreeWork) (b : Block) (needed : List ℕ)
      (fs : Frames) (ts : AnfFrames) (es : List Event) → Awaits x (Calls p) mine m a w fs b ts needed →
      atom_value m a ≡ Some v → r ≡ gather (free_block mine b) m → Stored x (Calls p) h.store →
      Turns p order input (Running (at h (Eval (InBlock b) r) ts) es) (Running (at h (Val v) (push w fs)) es)
  gives-moves h v a m r _ _ _ fs ts es
      (operand n i done rest ds {q = q} {p = u} {s = s} {f = f} {vs = vs} {k = k} {needed = needed} o so nw ns g d nm
      fo)
      e eq st =
      operand-gives h v a m q r u s n i done ds k fs ts needed es vs rest f o so nw ns g d e nm fo eq st
  gives-moves h v a m r _ _ _ fs ts es
      (arms n l {q = q} {b = b} {c = c} {k = k} {needed = needed} sb sc nm nw fo) e eq st =
      let B = block_of x.line n b AtEnd in
      let C = block_of x.line l c AtEnd in
      let env = values_locations (env_values q) in
      let up = λ (y : ℕ) (z : IsIn y (free x.inner b ++ free x.inner c)). held-more m y env
      (value_locations v ++ (env ++ frames_locations T.work_values fs))
      (λ t j. in-right t (value_locations v) _ (in-left t env _ j)) (named-held y nm z) in
      put-moves p order input h m r (Val v) (push (Sel b c q) fs) fs ts k needed es (A.Branch a B C) fo
      (S.branch a v n l b c q e sb sc nm)
      (value-stands m q v (Sel b c q) fs (A.Branch a B C)
      (λ y i. ⊎_elim
      (λ z. held-more m y (value_locations v) _ (λ t. in-left t (value_locations v) _) (atom-held m a v y e z))
      (λ z. up y (⊎_elim
      (λ w. in-left y (free x.inner b) _ (at_end_uses x (Calls p) mine (fewer p order input) b n y
      (block-uses x (Calls p) mine (fewer p order input) b sb.proper) w))
      (λ w. in-right y (free x.inner b) _ (at_end_uses x (Calls p) mine (fewer p order input) c l y
      (block-uses x (Calls p) mine (fewer p order input) c sc.proper) w))
      (in-either y (free_block mine B) (free_block mine C) z)))
      (in-either y (free_of_atom a) _ i)))
      eq st
  gives-moves h v a m r _ _ needed fs ts es (assigned {g = g} {p = u} {k = k} fo) e eq st =
      put-moves p order input h m r (Val v) (push (SetGlo g false u) fs) fs ts k needed es (A.SetGlobal g a u) fo
      (S.set_global g a u v e)
      (value-stands m r v (SetGlo g false u) fs (A.SetGlobal g a u)
      (λ y z. held-more m y (value_locations v) _ (λ t. in-left t (value_locations v) _) (atom-held m a v y e z)))
      eq st
  gives-moves h v a m r _ _ needed fs ts es (defined {g = g} {p = u} {k = k} fo) e eq st =
      put-moves p order input h m r (Val v) (push (SetGlo g true u) fs) fs ts k needed es (A.DefGlobal g a) fo
      (S.def_global g a v e)
      (value-stands m r v (SetGlo g true u) fs (A.DefGlobal g a)
      (λ y z. held-more m y (value_locations v) _ (λ t. in-left t (value_locations v) _) (atom-held m a v y e z)))
      eq st
  gives-moves h v a m r _ _ _ fs ts es
      (others n s {q = q} {d = d} {ds = ds} {k = k} {needed = needed} so nw nm fo) e eq st =
      let hs = push (Rest (more d ds) q) fs in
      let lt = sequence-weight p order input (at h (Val v) hs) d ds q fs es in
      source-goes p order input _ _ _ refl
      (sequence-next p order input h n d ds q m r k needed hs fs ts es (Val v) fo so.apart so.new so.proper nw nm eq st)
      (omega arith)
