-- A procedure is entered on both sides.
use Rattle.std.proofs.Common.{◌≡◌, refl, sym, ap, ◌∙◌, subst, ℕ, zero, suc, ◌-◌, ◌≤◌, ◌⊎◌, inl, inr, ⊎_elim, arith, Bool, true, false, cond, ◌==◌, List, [], ◌∷◌, ◌++◌, length, map, take, drop, Option, Some, None, slice_get, append-nil, eqb-true}
use Rattle.std.proofs.lemmas.Bool.{cases_eq, cases_Bool}
use Rattle.std.proofs.lemmas.Bool.Decides.{nat_tests}
use Rattle.std.proofs.lemmas.List.{length-take-le}
use Rattle.std.proofs.Math.Seq.{take-append_seam}
use Rattle.std.specs.Prelude.{nat_le}
use Rattle.tb_prim.specs.declared.place.Place.{Place}
use Rattle.tb_prim.specs.declared.event.Cause.{Cause}
use Rattle.tb_prim.specs.declared.event.Event.{Event}
use Rattle.tb_semantics.specs.Graph.{IsIn}
use Rattle.tb_semantics.proofs.Simulation as Sim
use Rattle.tb_semantics.proofs.ListLemmas.{get-last, length-last}
use Rattle.tb_core.specs.FreeVariables.{is_in, without}
use Rattle.tb_core.specs.Lists.{list_objects, list_value}
use Rattle.tb_core.specs.OperandOrder.{Line}
use Rattle.tb_core.specs.Store.{Value, Object}
use Rattle.tb_core.specs.Tree.{option_list}
use Rattle.tb_core.proofs.FirstUses.{first_of-in}
use Rattle.tb_core.proofs.Members.{in-left, in-right, in-either, in-tested, tested-in, in-without}
use Rattle.tb_ir.specs.Tree.{Tree, LambdaTree, ProgramTree}
use Rattle.tb_ir.specs.FreeVariables.{free, inner_free, captured, parameters, added_to}
use Rattle.tb_ir.specs.AnfTree.{ProcTree}
use Rattle.tb_ir.specs.Machine as M
use Rattle.tb_ir.specs.Machine.{Env, Empty, Bind, Item, Cell, Obj, Clo, Callee, Closure, Lifted, Control, Eval, Entering, Procedure, Running, gather, lookup, bind_all}
use Rattle.tb_ir.specs.Rules.{IsLambda}
use Rattle.tb_ir.specs.Space.{control_locations}
use Rattle.tb_ir.specs.TreeMachine as T
use Rattle.tb_ir.specs.TreeMachine.{Frames, TreeState, line_of}
use Rattle.tb_ir.specs.AnfMachine as N
use Rattle.tb_ir.specs.AnfMachine.{Code, InBlock, AnfFrames, AnfState, own_formals, own_rest, free_block}
use Rattle.tb_anf.specs.NormalForm.{AtEnd, block_of, has_rest, normal_form}
use Rattle.tb_anf.proofs.Calls.{Calls, Grounded, MayClose, MayEnter}
use Rattle.tb_anf.proofs.Environments.{named-gather, lookup-same, lookup-other}
use Rattle.tb_anf.proofs.Groups.{stored-append}
use Rattle.tb_anf.proofs.Names.{Sound}
use Rattle.tb_anf.proofs.Procs.{SameLambda, no_lambda, same_lambda, same-lambdas}
use Rattle.tb_anf.proofs.Rel.{FramesRel, at_end}
use Rattle.tb_anf.proofs.Roots.{frames-wait}
use Rattle.tb_anf.proofs.States as S
use Rattle.tb_anf.proofs.States.{Ground, at, Within, Related, MayRun, Stored, HasCaptured}
use Rattle.tb_anf.proofs.Turns.{taken, Turns, fewer}

-- a variable has a value where as many variables as values are bound
pub bound-or-there : (xs : List ℕ) (vs : List Value) (r : Env) (y : ℕ) → length xs ≡ length vs →
    IsIn y xs ⊎ ((v : Value) × (lookup r y ≡ Some v)) → (v : Value) × (lookup (bind_all xs vs r) y ≡ Some v)
bound-or-there [] vs r y l h = ⊎_elim (λ i. absurd i) (λ k. k) h
bound-or-there (x ∷ xs) [] r y l h = absurd (omega arith)
bound-or-there (x ∷ xs) (v ∷ vs) r y l h =
    ⊎_elim
    (λ e. (v, subst (λ z. lookup (Bind x v (bind_all xs vs r)) z ≡ Some v) e (lookup-same x v (bind_all xs vs r))))
    (λ ne.
    let k = bound-or-there xs vs r y (omega arith)
    (⊎_elim (λ i. ⊎_elim (λ e. absurd (ne e)) inl i) inr h) in
    (k.0, lookup-other x y v (bind_all xs vs r) ne ∙ k.1))
    (cases_eq x y)

-- what a proc has of its lambda expression
proc-formals : (formals : List ℕ) (rest : Option ℕ) (added : List ℕ) → added ≡ [] →
    own_formals (has_rest rest) (formals ++ (option_list rest ++ added)) ≡ formals
proc-formals formals None added e = ap (λ z. formals ++ z) e ∙ append-nil formals
proc-formals formals (Some y) added e =
    let all : formals ++ (y ∷ added) ≡ formals ++ (y ∷ []) = ap (λ z. formals ++ (y ∷ z)) e in
    let long = length-last formals y in
    let k : length (formals ++ (y ∷ [])) - 1 ≡ length formals = omega arith in
    ap (λ z. take (length z - 1) z) all
    ∙ (ap (λ z. take z (formals ++ (y ∷ []))) k ∙ take-append_seam formals (y ∷ []))

proc-rest : (formals : List ℕ) (rest : Option ℕ) (added : List ℕ) → added ≡ [] →
    own_rest (has_rest rest) (formals ++ (option_list rest ++ added)) ≡ rest
proc-rest formals None added e = refl
proc-rest formals (Some y) added e =
    let all : formals ++ (y ∷ added) ≡ formals ++ (y ∷ []) = ap (λ z. formals ++ (y ∷ z)) e in
    let long = length-last formals y in
    let k : length (formals ++ (y ∷ [])) - 1 ≡ length formals = omega arith in
    ap (λ z. slice_get z (length z - 1)) all ∙ (ap (slice_get (formals ++ (y ∷ []))) k ∙ get-last formals y)

proc-lifted : (formals : List ℕ) (rest : Option ℕ) (added : List ℕ) → rest ≡ None →
    own_formals (has_rest rest) (formals ++ (option_list rest ++ added)) ++ [] ≡ formals ++ added
proc-lifted formals rest added e =
    ap (λ z. own_formals (has_rest z) (formals ++ (option_list z ++ added)) ++ []) e ∙ append-nil (formals ++ added)

nat_le_true : (a b : ℕ) → nat_le a b ≡ true → a ≤ b
nat_le_true a b h = grind (arith, nat_tests, h)

free-captured : (p : ProgramTree) (l y : ℕ) → IsIn y (inner_free p l) → IsIn y (captured p l)
free-captured p l y i = in-tested (captured p l) y (first_of-in [] (inner_free p l) y ∙ tested-in (inner_free p l) y i)

module _ (p : ProgramTree) (order : List Line) (input : List ℕ)
    (bodies : (l : ℕ) (m : LambdaTree) → IsLambda p l m → Grounded p l → (n : ℕ) →
    Sound (T.context_of p order) (Calls p) n m.body)
    (inner : (l : ℕ) (m : LambdaTree) → IsLambda p l m →
    inner_free p l ≡ without (parameters m ++ added_to p.set l) (free (inner_free p) m.body)) where
  abbrev x : T.Context
  x = T.context_of p order

  abbrev mine : ℕ → List ℕ
  mine = taken p order input

  -- what a body names is a parameter or free in its lambda expression
  body-names : (l : ℕ) (m : LambdaTree) → IsLambda p l m → (y : ℕ) → IsIn y (free (inner_free p) m.body) →
      IsIn y (parameters m ++ added_to p.set l) ⊎ IsIn y (inner_free p l)
  body-names l m e y i =
      ⊎_elim
      (λ t. inl (in-tested (parameters m ++ added_to p.set l) y t))
      (λ t. inr (subst (IsIn y) (sym (inner l m e)) (in-without _ (free (inner_free p) m.body) y i t)))
      (cases_Bool (is_in (parameters m ++ added_to p.set l) y))

  module _ (h : Ground) (callee : Callee) (ws : List Value) (fs : Frames) (ts : AnfFrames) (es : List Event)
      (rel : FramesRel x (Calls p) mine fs ts) (st : Stored x (Calls p) h.store) where
    abbrev here : N.AnfConfig
    here = at h (Entering callee ws) ts

    abbrev there : T.TreeConfig
    there = at h (Entering callee ws) fs

    abbrev Both : AnfState → TreeState → Type 0
    Both = Related p order mine

    alike : Within (Entering callee ws) ts (Entering callee ws) fs
    alike =
        let w = frames-wait x (Calls p) mine (fewer p order input) rel in
        record {
          marked = w.marked;
          roots = λ l i. ⊎_elim (in-left l (control_locations {C = Tree} (Entering callee ws)) _)
              (λ z. in-right l (control_locations {C = Tree} (Entering callee ws)) _ (w.roots l z))
              (in-either l (control_locations {C = Code} (Entering callee ws)) _ i);
        }

    loses : Both (M.Lost here es) (M.Lost there es)
    loses = S.lost h (Entering callee ws) (Entering callee ws) alike

    -- the body of a lambda expression is next, in an environment that has what it names
    body-next : (g : Ground) (l n : ℕ) (m : LambdaTree) (r : Env) → IsLambda p l m → Grounded p l →
        Stored x (Calls p) g.store →
        ((y : ℕ) → IsIn y (free x.inner m.body) → (v : Value) × (lookup r y ≡ Some v)) →
        Both (Running (at g (Eval (InBlock (block_of x.line n m.body AtEnd)) (gather (free_block mine
        (block_of x.line n m.body AtEnd)) r)) ts) es)
        (Running (at g (Eval m.body (gather (free x.inner m.body) r)) fs) es)
    body-next g l n m r e gr s has =
        S.evals g n m.body _ r _ AtEnd [] (at_end rel) (bodies l m e gr n) (λ y i j. j)
        (named-gather (free x.inner m.body) (λ y i. i)
        (record { has = λ y i. let k = has y i in (k.0, k.1, k.1) })) refl s

    fails : (u : Place) → Both (M.fail here Cause.WrongArgs u es) (M.fail there Cause.WrongArgs u es)
    fails u = S.stopped h (Entering callee ws) (Entering callee ws) alike

    -- a closure: what its body names is a parameter or captured
    module _ (l n : ℕ) (m : LambdaTree) (r : Env) (e : IsLambda p l m) (may : MayClose p l)
        (has : (y : ℕ) → IsIn y (x.captured l) → (v : Value) × (lookup r y ≡ Some v)) where
      abbrev body : Code
      body = InBlock (block_of x.line n m.body AtEnd)

      abbrev ours : List ℕ → Option ℕ → Procedure Code
      ours formals rest = record {
        place = m.place;
        formals = formals;
        rest = rest;
        added = [];
        captured = captured p l;
        body = body;
      }

      abbrev theirs : Procedure Tree
      theirs = record {
        place = m.place;
        formals = m.formals;
        rest = m.rest;
        added = added_to p.set l;
        captured = captured p l;
        body = m.body;
      }

      names_there : (rest : Option ℕ) → m.rest ≡ rest → (y : ℕ) → IsIn y (free x.inner m.body) →
          IsIn y (m.formals ++ option_list rest) ⊎ ((v : Value) × (lookup r y ≡ Some v))
      names_there rest q y i =
          ⊎_elim
          (λ z. inl (subst (λ o. IsIn y (m.formals ++ option_list o)) q
          (subst (IsIn y) (append-nil (parameters m))
          (subst (λ a. IsIn y (parameters m ++ a)) may.not_lifted z))))
          (λ z. inr (has y (free-captured p l y z)))
          (body-names l m e y i)

      stored-objects : (os : List Object) → Stored x (Calls p) (map Obj os)
      stored-objects [] = tt
      stored-objects (o ∷ os) = (tt, stored-objects os)

      binds : (rest : Option ℕ) → m.rest ≡ rest → M.takes (length m.formals) rest (length ws) ≡ true →
          Both (M.bind_parameters (N.language (normal_form p order)) here (ours m.formals m.rest) rest ws r es)
          (M.bind_parameters (T.language p order) there theirs rest ws r es)
      binds None q t =
          body-next h l n m (bind_all m.formals ws r) e may.grounded st
          (λ y i. bound-or-there m.formals ws r y (eqb-true (length m.formals) (length ws) t)
          (⊎_elim (λ z. inl (subst (IsIn y) (append-nil m.formals) z)) inr (names_there None q y i)))
      binds (Some z) q t =
          let k = length m.formals in
          let at_here = length h.store in
          let us = take k ws ++ list_value (drop k ws) at_here ∷ [] in
          let le = nat_le_true k (length ws) t in
          let a = length-last m.formals z in
          let b = length-last (take k ws) (list_value (drop k ws) at_here) in
          let c = length-take-le k ws le in
          body-next (record h { store = h.store ++ map Obj (list_objects (drop k ws) at_here) }) l n m
          (bind_all (m.formals ++ z ∷ []) us r) e may.grounded
          (stored-append x (Calls p) h.store _ st (stored-objects (list_objects (drop k ws) at_here)))
          (λ y i. bound-or-there (m.formals ++ z ∷ []) us r y (omega arith) (names_there (Some z) q y i))

      tested : (t : Bool) → M.takes (length m.formals) m.rest (length ws) ≡ t →
          Both (M.enter_body (N.language (normal_form p order)) here (Some (ours m.formals m.rest)) ws r es)
          (M.enter_body (T.language p order) there (Some theirs) ws r es)
      tested true t = rw t (binds m.rest refl t)
      tested false t = rw t (fails m.place)

      closure-entered : (formals : List ℕ) (rest : Option ℕ) → formals ≡ m.formals → rest ≡ m.rest →
          Both (M.enter_body (N.language (normal_form p order)) here (Some (ours formals rest)) ws r es)
          (M.enter_body (T.language p order) there (Some theirs) ws r es)
      closure-entered formals rest a b =
          subst (λ f. Both (M.enter_body (N.language (normal_form p order)) here (Some (ours f rest)) ws r es)
          (M.enter_body (T.language p order) there (Some theirs) ws r es)) (sym a)
          (subst (λ o. Both (M.enter_body (N.language (normal_form p order)) here (Some (ours m.formals o)) ws r es)
          (M.enter_body (T.language p order) there (Some theirs) ws r es)) (sym b) (tested _ refl))

    procedure-entered : (l : ℕ) (r : Env) {o : Option LambdaTree} {o' : Option ProcTree} → MayClose p l →
        ((y : ℕ) → IsIn y (x.captured l) → (v : Value) × (lookup r y ≡ Some v)) → SameLambda p x.line l o o' →
        slice_get p.lambdas l ≡ o →
        Both (M.enter_body (N.language (normal_form p order)) here (N.procedure_of o') ws r es)
        (M.enter_body (T.language p order) there (T.procedure_of p l o) ws r es)
    procedure-entered l r may has no_lambda e = loses
    procedure-entered l r may has (same_lambda n m) e =
        closure-entered l n m r e may has _ _ (proc-formals m.formals m.rest (added_to p.set l) may.not_lifted)
        (proc-rest m.formals m.rest (added_to p.set l) may.not_lifted)

    -- what is at a location
    abbrev IsStored : Option Item → Type 0
    IsStored None = Unit {0}
    IsStored (Some i) = HasCaptured x (Calls p) i

    item-entered : (o : Option Item) → IsStored o →
        Both (M.enter_item (N.language (normal_form p order)) here o ws es)
        (M.enter_item (T.language p order) there o ws es)
    item-entered None k = loses
    item-entered (Some (Cell v)) k = loses
    item-entered (Some (Obj ob)) k = loses
    item-entered (Some (Clo l r)) k = procedure-entered l r k.0 k.1 (same-lambdas p order l) refl

    stored-at : (is : List Item) (i : ℕ) → Stored x (Calls p) is → IsStored (slice_get is i)
    stored-at [] i s = tt
    stored-at (j ∷ is) zero s = s.0
    stored-at (j ∷ is) (suc i) s = stored-at is i s.1

    -- a lambda expression that is lifted: what its body names is a parameter or added to it
    lifted-named : (l : ℕ) (m : LambdaTree) → IsLambda p l m → MayEnter p l → (y : ℕ) →
        IsIn y (free x.inner m.body) → IsIn y (m.formals ++ added_to p.set l)
    lifted-named l m e may y i =
        ⊎_elim
        (λ z. subst (λ w. IsIn y (w ++ added_to p.set l)) (append-nil m.formals)
        (subst (λ o. IsIn y ((m.formals ++ option_list o) ++ added_to p.set l)) (may.no_rest m e) z))
        (λ z. absurd (subst (IsIn y) may.closed z))
        (body-names l m e y i)

    lifted-tested : (l n : ℕ) (m : LambdaTree) → IsLambda p l m → MayEnter p l → (t : Bool) →
        (length (m.formals ++ added_to p.set l) == length ws) ≡ t →
        Both
        (cond t (M.go here (M.eval (N.language (normal_form p order)) (InBlock (block_of x.line n m.body AtEnd))
        (bind_all (m.formals ++ added_to p.set l) ws Empty)) ts es) (M.fail here Cause.WrongArgs m.place es))
        (cond t (M.go there (M.eval (T.language p order) m.body (bind_all
        (m.formals ++ added_to p.set l) ws Empty)) fs es)
        (M.fail there Cause.WrongArgs m.place es))
    lifted-tested l n m e may true t =
        body-next h l n m (bind_all (m.formals ++ added_to p.set l) ws Empty) e may.grounded st
        (λ y i. bound-or-there (m.formals ++ added_to p.set l) ws Empty y (eqb-true _ (length ws) t)
        (inl (lifted-named l m e may y i)))
    lifted-tested l n m e may false t = fails m.place

    lifted-entered : (l : ℕ) {o : Option LambdaTree} {o' : Option ProcTree} → MayEnter p l →
        SameLambda p x.line l o o' → slice_get p.lambdas l ≡ o →
        Both (M.enter_lifted_body (N.language (normal_form p order)) here (N.procedure_of o') ws es)
        (M.enter_lifted_body (T.language p order) there (T.procedure_of p l o) ws es)
    lifted-entered l may no_lambda e = loses
    lifted-entered l may (same_lambda n m) e =
        let all = m.formals ++ added_to p.set l in
        subst (λ xs. Both
        (cond (length xs == length ws) (M.go here (M.eval (N.language (normal_form p order))
        (InBlock (block_of x.line n m.body AtEnd)) (bind_all xs ws Empty)) ts es)
        (M.fail here Cause.WrongArgs m.place es))
        (cond (length all == length ws) (M.go there (M.eval (T.language p order) m.body (bind_all all ws Empty)) fs es)
        (M.fail there Cause.WrongArgs m.place es)))
        (sym (proc-lifted m.formals m.rest (added_to p.set l) (may.no_rest m e)))
        (lifted-tested l n m e may (length all == length ws) refl)

    by-callee : (k : Callee) → MayRun p order mine k →
        Both (M.entering (N.language (normal_form p order)) here k ws es)
        (M.entering (T.language p order) there k ws es)
    by-callee (Closure l) may = item-entered (slice_get h.store l) (stored-at h.store l st)
    by-callee (Lifted l) may = lifted-entered l may (same-lambdas p order l) refl

  pub enters-moves : (h : Ground) (callee : Callee) (ws : List Value) (fs : Frames) (ts : AnfFrames) (es : List Event) →
      FramesRel x (Calls p) mine fs ts → Stored x (Calls p) h.store → MayRun p order mine callee →
      Turns p order input (Running (at h (Entering callee ws) ts) es) (Running (at h (Entering callee ws) fs) es)
  enters-moves h callee ws fs ts es rel st may =
      Sim.both_move (by-callee h callee ws fs ts es rel st callee may)
