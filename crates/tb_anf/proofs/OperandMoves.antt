-- Nodes that are evaluated operand by operand: how both sides go on at the first operand, and after each one.
use Rattle.std.proofs.Common.{◌≡◌, refl, sym, ap, ◌∙◌, subst, ℕ, suc, ◌+◌, ◌*◌, ◌<◌, inl, ⊎_elim, arith, true, List, [], ◌∷◌, ◌++◌, length, drop, Option, Some, append_assoc}
use Rattle.tb_prim.specs.declared.place.Place.{Place}
use Rattle.tb_prim.specs.declared.event.Event.{Event}
use Rattle.tb_semantics.specs.Graph.{IsIn}
use Rattle.tb_semantics.proofs.ListLemmas.{length-last}
use Rattle.tb_core.specs.OperandOrder.{Line}
use Rattle.tb_core.specs.Reference.{arranged}
use Rattle.tb_core.specs.Space.{values_locations}
use Rattle.tb_core.specs.Store.{Value}
use Rattle.tb_core.proofs.Members.{in-right, in-either}
use Rattle.tb_ir.specs.Tree.{Tree, Node, Form, NewCell, CellGet, CellSet, Let, Call, Direct, PrimUse, Apply, Trees, count, tree_at, operands, ProgramTree}
use Rattle.tb_ir.specs.FreeVariables.{free_form}
use Rattle.tb_ir.specs.AnfTree.{Block}
use Rattle.tb_ir.specs.Machine as M
use Rattle.tb_ir.specs.Machine.{Env, Control, Eval, Val, Running, gather, push}
use Rattle.tb_ir.specs.TreeMachine as T
use Rattle.tb_ir.specs.TreeMachine.{Frames, TreeState, Args, env_values, line_of, numbers, free_of_numbers, free_of_body}
use Rattle.tb_ir.specs.AnfMachine.{InBlock, AnfFrames, free_block}
use Rattle.tb_anf.specs.NormalForm.{size, After, put, around, block_of}
use Rattle.tb_anf.proofs.Arranged.{all-values, operand-count}
use Rattle.tb_anf.proofs.Calls.{Calls}
use Rattle.tb_anf.proofs.Environments.{Named, Values, named-sub}
use Rattle.tb_anf.proofs.Names.{names_form, by_operands, AreNew, SoundForm}
use Rattle.tb_anf.proofs.Nodes.{drop-front, goes-on, operation-ready}
use Rattle.tb_anf.proofs.Operands.{numbers-free, operands-free, body-free}
use Rattle.tb_anf.proofs.Parts.{let-goes}
use Rattle.tb_anf.proofs.Rel.{steps, operand_atoms, operation, finish, by-operands, Done, none_done, Follows}
use Rattle.tb_anf.proofs.States.{Ground, at, Ready, Stored}
use Rattle.tb_anf.proofs.Turns.{taken, Turns, fewer, put-moves, source-goes}
use Rattle.tb_anf.proofs.Uses.{operation_named, some_atom, tree_there}
use Rattle.tb_anf.proofs.Weights.{state_weight, weight-size, at_tree, sizes_at, size_of_body, frames_weight, sizes-permuted, operands-size}

-- a `let`, or a node with an operation behind its operands
pub data LetOrOther : Form → Type 0 where
  is_let : (xs : List ℕ) (ds : Trees) (e : Tree) → LetOrOther (Let xs ds e)
  other : {f : Form} → ((xs : List ℕ) (ds : Trees) (e : Tree) → f ≡ Let xs ds e → ⊥) →
      ((line : ℕ → Option (List ℕ)) (n : ℕ) (u : Place) (k : After) → finish line n u f k ≡ put k (operation n u f)) →
      LetOrOther f

pub let_or_other : (f : Form) → by_operands f ≡ true → LetOrOther f
let_or_other (NewCell e) o = other (λ xs ds b q. cc) (λ line n u k. refl)
let_or_other (CellGet e) o = other (λ xs ds b q. cc) (λ line n u k. refl)
let_or_other (CellSet c e) o = other (λ xs ds b q. cc) (λ line n u k. refl)
let_or_other (Let xs ds e) o = is_let xs ds e
let_or_other (Call f es) o = other (λ xs ds b q. cc) (λ line n u k. refl)
let_or_other (Direct l es) o = other (λ xs ds b q. cc) (λ line n u k. refl)
let_or_other (PrimUse g es) o = other (λ xs ds b q. cc) (λ line n u k. refl)
let_or_other (Apply f l) o = other (λ xs ds b q. cc) (λ line n u k. refl)
let_or_other _ o = cc

-- the numbers that are left behind one more value
pub left-at : (all done rest : List ℕ) (i : ℕ) (vs : List Value) → all ≡ done ++ i ∷ rest → length done ≡ length vs →
    drop (suc (length vs)) all ≡ rest
left-at all done rest i vs e l =
    ap (drop (suc (length vs))) (e ∙ sym (append_assoc done (i ∷ []) rest))
    ∙ drop-front (done ++ i ∷ []) rest (suc (length vs)) (length-last done i ∙ ap suc l)

module _ (p : ProgramTree) (order : List Line) (input : List ℕ) where
  abbrev x : T.Context
  x = T.context_of p order

  abbrev mine : ℕ → List ℕ
  mine = taken p order input

  -- the source goes through the operands of such a node
  eval-operands : (c : T.TreeConfig) (u : Place) (s : ℕ) (f : Form) (q : Env) (es : List Event) → by_operands f ≡ true →
      T.evaluate x c (Node u s f) q es ≡
      T.operands_left x c u s f [] q (numbers (x.line s) f) (numbers (x.line s) f) c.frames es
  eval-operands c u s (NewCell e) q es o = refl
  eval-operands c u s (CellGet e) q es o = refl
  eval-operands c u s (CellSet d e) q es o = refl
  eval-operands c u s (Let xs ds e) q es o = refl
  eval-operands c u s (Call f ds) q es o = refl
  eval-operands c u s (Direct l ds) q es o = refl
  eval-operands c u s (PrimUse g ds) q es o = refl
  eval-operands c u s (Apply f l) q es o = refl
  eval-operands c u s _ q es o = cc

  -- an operand that is next weighs less than it did when it was still to come
  pub operand-weight : (c : T.TreeConfig) (u : Place) (s : ℕ) (f : Form) (vs : List Value) (q : Env) (i : ℕ)
      (rest : List ℕ)
      (fs : Frames) (es : List Event) (e : Tree) → drop (suc (length vs)) (numbers (x.line s) f) ≡ rest →
      tree_at (operands f) i ≡ Some e →
      state_weight (line_of order) (T.operand x c u s f vs q rest (tree_at (operands f) i) fs es) <
      2 * (sizes_at (operands f) (i ∷ rest) + size_of_body f) + frames_weight (line_of order) fs
  operand-weight c u s f vs q i rest fs es e d t =
      let later = 2 * (sizes_at (operands f) rest + size_of_body f) in
      let w = weight-size e in
      let k : 2 * (sizes_at (operands f) (drop (suc (length vs)) (numbers (x.line s) f)) + size_of_body f) ≡ later =
      ap (λ ns. 2 * (sizes_at (operands f) ns + size_of_body f)) d in
      subst (λ o. state_weight (line_of order) (T.operand x c u s f vs q rest o fs es) <
      2 * ((at_tree size o + sizes_at (operands f) rest) + size_of_body f) + frames_weight (line_of order) fs)
      (sym t) (omega arith)

  -- what the operation of a node names is free in it, where no operand is before it
  none_before : (n s : ℕ) (f : Form) → by_operands f ≡ true → SoundForm x (Calls p) n s f → numbers (x.line s) f ≡ [] →
      (y : ℕ) (i : ℕ) → i < count (operands f) → ⊥
  none_before n s f o so e y i lt = subst (IsIn i) e ((so.here.permuted o).full i lt)

  module _ (h : Ground) (q m r : Env) (k : After) (needed : List ℕ) (fs : Frames) (ts : AnfFrames) (es : List Event)
      (n : ℕ) (u : Place) (s : ℕ) (f : Form) (follows : Follows x (Calls p) mine m fs k ts needed)
      (st : Stored x (Calls p) h.store) (o : by_operands f ≡ true) (so : SoundForm x (Calls p) n s f)
      (nw : AreNew (names_form n f) needed) (nm : Named (free_form x.inner f) q m) where
    abbrev Begun : Block → Type 0
    Begun b = Turns p order input (Running (at h (Eval (InBlock b) r) ts) es) (Running (at h (Eval
        (Node u s f) q) fs) es)

    abbrev here : T.TreeConfig
    here = at h (Eval (Node u s f) q) fs

    -- the first operand is next
    first-operand : (i : ℕ) (rest : List ℕ) → numbers (x.line s) f ≡ i ∷ rest →
        r ≡ gather (free_block mine (around (steps x.line n f) (i ∷ rest) (finish x.line n u f k))) m →
        Begun (around (steps x.line n f) (i ∷ rest) (finish x.line n u f k))
    first-operand i rest ns eq =
        let all = numbers (x.line s) f in
        let t = tree_there (operands f) i ((so.here.permuted o).within i (subst (IsIn i) (sym ns) (inl refl))) in
        let lt = operand-weight here u s f [] q i rest fs es t.0 (ap (drop 1) ns) t.1 in
        let le = sizes-permuted (operands f) all (so.here.permuted o) in
        let same = ap (sizes_at (operands f)) ns in
        let fits = operands-size f o in
        source-goes p order input _ _ _
        (eval-operands here u s f q es o ∙ ap (λ z. T.operands_left x here u s f [] q all z fs es) ns)
        (goes-on p order mine h m q r (Eval (Node u s f) q) fs u s n i f [] [] rest [] k fs ts needed es o so nw ns
        none_done
        (named-sub (λ y z. ⊎_elim
        (λ w. operands-free x.inner f o y (numbers-free x (operands f) (i ∷ rest) y w)) (body-free x f y)
        (in-either y (free_of_numbers x (operands f) (i ∷ rest)) _ z)) nm) follows eq st)
        (omega arith)

    -- there are none
    no_values : numbers (x.line s) f ≡ [] →
        Values m (operand_atoms n f) (arranged 0 (length (numbers (x.line s) f)) (numbers (x.line s) f) [])
    no_values ns = all-values n f o so.here.long (so.here.permuted o)
        (subst (λ is. Done m (operand_atoms n f) is [] []) (sym ns) none_done)

    completes : numbers (x.line s) f ≡ [] → M.step (T.language p order) (Running here es) ≡
        T.complete x here u f (arranged 0 (length (numbers (x.line s) f)) (numbers (x.line s) f) []) q fs es
    completes ns = eval-operands here u s f q es o
        ∙ ap (λ z. T.operands_left x here u s f [] q (numbers (x.line s) f) z fs es) ns

  -- a node without operands
  no-operand : (h : Ground) (q m r : Env) (k : After) (needed : List ℕ) (fs : Frames) (ts : AnfFrames) (es : List Event)
      (n : ℕ) (u : Place) (s : ℕ) {f : Form} → LetOrOther f → Follows x (Calls p) mine m fs k ts needed →
      Stored x (Calls p) h.store → by_operands f ≡ true → SoundForm x (Calls p) n s f → AreNew (names_form n f) needed →
      Named (free_form x.inner f) q m → numbers (x.line s) f ≡ [] →
      r ≡ gather (free_block mine (finish x.line n u f k)) m →
      Turns p order input (Running (at h (Eval (InBlock (finish x.line n u f k)) r) ts) es)
      (Running (at h (Eval (Node u s f) q) fs) es)
  no-operand h q m r k needed fs ts es n u s (is_let xs ds e) follows st o so nw nm ns eq =
      let w = weight-size e in
      source-goes p order input _ _ _
      (completes h q m r k needed fs ts es n u s (Let xs ds e) follows st o so nw nm ns)
      (let-goes p order mine h m q r (Eval (Node u s (Let xs ds e)) q) fs n s xs ds e _ k fs ts needed es so nw
      (no_values h q m r k needed fs ts es n u s (Let xs ds e) follows st o so nw nm ns)
      (named-sub (λ y z. body-free x (Let xs ds e) y z) nm) follows eq st)
      (omega arith)
  no-operand h q m r k needed fs ts es n u s (other {f = f} l fin) follows st o so nw nm ns eq =
      let op = operation n u f in
      let here = at h (Eval (Node u s f) q) fs in
      let e = fin x.line n u k in
      subst (λ b. Turns p order input (Running (at h (Eval (InBlock b) r) ts) es) (Running here es)) (sym e)
      (put-moves p order input h m r (Eval (Node u s f) q) fs fs ts k needed es op follows
      (subst (Ready p order mine m here es fs op)
      (sym (completes h q m r k needed fs ts es n u s f follows st o so nw nm ns))
      (operation-ready p order mine m q here es fs u n f _ o l so.here.may
      (no_values h q m r k needed fs ts es n u s f follows st o so nw nm ns)))
      (record {
        marked = refl;
        frames = λ z i. in-right z (values_locations (env_values q)) _ i;
        atoms = λ y z.
            let a = some_atom (operand_atoms n f) y
            (operation_named x (Calls p) mine (fewer p order input) n u f y z) in
            let lt = a.4 in
            let long = operand-count n f o so.here.long in
            absurd (none_before n s f o so ns y a.0 (omega arith));
      })
      (eq ∙ ap (λ b. gather (free_block mine b) m) e) st)

  pub evaluates-operands : (h : Ground) (q m r : Env) (k : After) (needed : List ℕ) (fs : Frames) (ts : AnfFrames)
      (es : List Event) (n : ℕ) (u : Place) (s : ℕ) (f : Form) → Follows x (Calls p) mine m fs k ts needed →
      Stored x (Calls p) h.store → by_operands f ≡ true → SoundForm x (Calls p) n s f → AreNew (names_form n f) needed →
      Named (free_form x.inner f) q m → r ≡ gather (free_block mine (block_of x.line n (Node u s f) k)) m →
      Turns p order input (Running (at h (Eval (InBlock (block_of x.line n (Node u s f) k)) r) ts) es)
      (Running (at h (Eval (Node u s f) q) fs) es)
  evaluates-operands h q m r k needed fs ts es n u s f follows st o so nw nm eq =
      by (numbers (x.line s) f) refl
    where
      by : (ns : List ℕ) → numbers (x.line s) f ≡ ns →
          Turns p order input (Running (at h (Eval (InBlock (block_of x.line n (Node u s f) k)) r) ts) es)
          (Running (at h (Eval (Node u s f) q) fs) es)
      by [] ns =
          let e = by-operands x.line n u s f k o ∙ ap (λ z. around (steps x.line n f) z (finish x.line n u f k)) ns in
          subst (λ b. Turns p order input (Running (at h (Eval (InBlock b) r) ts) es)
          (Running (at h (Eval (Node u s f) q) fs) es)) (sym e)
          (no-operand h q m r k needed fs ts es n u s (let_or_other f o) follows st o so nw nm ns
          (eq ∙ ap (λ b. gather (free_block mine b) m) e))
      by (i ∷ rest) ns =
          let e = by-operands x.line n u s f k o ∙ ap (λ z. around (steps x.line n f) z (finish x.line n u f k)) ns in
          subst (λ b. Turns p order input (Running (at h (Eval (InBlock b) r) ts) es)
          (Running (at h (Eval (Node u s f) q) fs) es)) (sym e)
          (first-operand h q m r k needed fs ts es n u s f follows st o so nw nm i rest ns
          (eq ∙ ap (λ b. gather (free_block mine b) m) e))
