-- The body of a procedure is entered as in its source, with the list of a rest parameter.
use Rattle.std.proofs.Common.{◌≡◌, refl, sym, ap, ◌∙◌, subst, subst₂, ℕ, zero, suc, ◌+◌, ◌≤◌, inl, inr, arith, Bool, true, false, cond, ◌==◌, IsTrue, List, [], ◌∷◌, ◌++◌, length, map, take, drop, Option, Some, None, slice_get, append_assoc, append-nil, length-append, eqb-true, nat_le}
use Rattle.std.proofs.lemmas.Bool.{leb-true}
use Rattle.tb_prim.specs.declared.event.Event.{Event}
use Rattle.tb_prim.specs.declared.event.Cause.{Cause}
use Rattle.tb_semantics.specs.Graph.{IsIn}
use Rattle.tb_semantics.proofs.Worlds.{Both, World, Grows, Stores, stores_stay, both_made, grows_refl}
use Rattle.tb_core.specs.Tree.{Tree, LambdaTree, ProgramTree, parameters, option_list}
use Rattle.tb_core.specs.FreeVariables.{free, inner_free, is_assigned}
use Rattle.tb_core.specs.OperandOrder.{order_of}
use Rattle.tb_core.specs.Rules.{Each}
use Rattle.tb_core.specs.Store as S
use Rattle.tb_core.specs.Store.{Value, At, Nil, Pair}
use Rattle.tb_core.specs.Lists.{list_objects, list_value}
use Rattle.tb_core.specs.Reference as R
use Rattle.tb_core.specs.Partners as Like
use Rattle.tb_core.specs.Partners.{AlikeLists}
use Rattle.tb_core.proofs.Members.{in-without}
use Rattle.tb_ir.specs.Tree as C
use Rattle.tb_ir.specs.FreeVariables as F
use Rattle.tb_ir.specs.Machine as M
use Rattle.tb_ir.specs.TreeMachine as T
use Rattle.tb_assign.specs.Eliminate.{fresh, renamed, renamed_rest, body_site, with_cells, eliminate, eliminate_lambda, eliminate_lambdas, cells_of}
use Rattle.tb_assign.proofs.Free.{Same, absent}
use Rattle.tb_assign.proofs.Rel as Rel
use Rattle.tb_assign.proofs.Rel.{Alike, AllAlike, EnvRel, Covers, FramesRel, ItemRel, Good, Ready, BindsWell, free_cells, inner_cells, source, target}
use Rattle.tb_assign.proofs.Grow as Grow
use Rattle.tb_assign.proofs.Grow.{items}
use Rattle.tb_assign.proofs.Shape.{Held}
use Rattle.tb_assign.proofs.Base.{Ground, Goes}
use Rattle.tb_assign.proofs.Simple.{anywhere, fails, loses}
use Rattle.tb_assign.proofs.Nodes.{Bodies, BoundRel, no_bound, one_bound}
use Rattle.tb_assign.proofs.Step.{Entries}

-- a lambda expression with cells, by its number
abbrev pub cells_at : (ℕ → Bool) → ℕ → Option LambdaTree → Option C.LambdaTree
cells_at g n None = None
cells_at g n (Some l) = Some (eliminate_lambda g n l)

pub lambda-at : (g : ℕ → Bool) (ls : List LambdaTree) (n m : ℕ) →
    slice_get (eliminate_lambdas g n ls) m ≡ cells_at g (n + m) (slice_get ls m)
lambda-at g [] n m = refl
lambda-at g (l ∷ ls) n zero = ap (λ k. Some (eliminate_lambda g k l)) (let e : n ≡ n + 0 = omega arith in e)
lambda-at g (l ∷ ls) n (suc m) = lambda-at g ls (suc n) m
    ∙ ap (λ k. cells_at g k (slice_get ls m)) (let e : suc n + m ≡ n + suc m = omega arith in e)

renamed_long : (g : ℕ → Bool) (xs : List ℕ) → length (renamed g xs) ≡ length xs
renamed_long g [] = refl
renamed_long g (x ∷ xs) = ap suc (renamed_long g xs)

same_takes : (g : ℕ → Bool) (l : LambdaTree) (o : Option ℕ) (n : ℕ) →
    M.takes (length (renamed g l.formals)) (renamed_rest g o) n ≡ R.takes l o n
same_takes g l None n = ap (λ k. k == n) (renamed_long g l.formals)
same_takes g l (Some y) n = ap (λ k. nat_le k n) (renamed_long g l.formals)

alike_long : (w : World Value) (vs us : List Value) → AllAlike w vs us → length vs ≡ length us
alike_long w _ _ Like.nothing = refl
alike_long w _ _ (Like.further h hs) = ap suc (alike_long w _ _ hs)

alike_take : (w : World Value) (n : ℕ) (vs us : List Value) → AllAlike w vs us → AllAlike w (take n vs) (take n us)
alike_take w zero vs us h = Like.nothing
alike_take w (suc n) _ _ Like.nothing = Like.nothing
alike_take w (suc n) _ _ (Like.further h hs) = Like.further h (alike_take w n _ _ hs)

alike_drop : (w : World Value) (n : ℕ) (vs us : List Value) → AllAlike w vs us → AllAlike w (drop n vs) (drop n us)
alike_drop w zero vs us h = h
alike_drop w (suc n) _ _ Like.nothing = Like.nothing
alike_drop w (suc n) _ _ (Like.further h hs) = alike_drop w n _ _ hs

alike_append : (w : World Value) (vs us xs ys : List Value) → AllAlike w vs us → AllAlike w xs ys →
    AllAlike w (vs ++ xs) (us ++ ys)
alike_append w _ _ xs ys Like.nothing k = k
alike_append w _ _ xs ys (Like.further h hs) k = Like.further h (alike_append w _ _ xs ys hs k)

take_long : (n : ℕ) (us : List Value) → n ≤ length us → length (take n us) ≡ n
take_long zero us h = refl
take_long (suc n) [] h = absurd (omega arith)
take_long (suc n) (u ∷ us) h = ap suc (take_long n us (omega arith))

bound_alike : (p : ProgramTree) (w : World Value) (xs : List ℕ) (vs us : List Value) → length xs ≡ length us →
    AllAlike w vs us → BoundRel p w xs vs us
bound_alike p w [] _ _ l Like.nothing = no_bound
bound_alike p w (x ∷ xs) _ _ l Like.nothing = absurd (omega arith)
bound_alike p w [] _ _ l (Like.further h hs) = absurd (omega arith)
bound_alike p w (x ∷ xs) _ _ l (Like.further {v = v} {w = u} h hs) = one_bound (anywhere w (is_assigned p x) v u h)
    (bound_alike p w xs _ _ (omega arith) hs)

-- so many pairs more, on both sides
abbrev pub pairs_more : ℕ → ℕ → ℕ → World Value → World Value
pairs_more zero t s w = w
pairs_more (suc n) t s w = pairs_more n (suc t) (suc s) (Both t s ∷ w)

pub pairs_grow : (n t s : ℕ) (w : World Value) → Grows w (pairs_more n t s w)
pairs_grow zero t s w k i = i
pairs_grow (suc n) t s w k i = pairs_grow n (suc t) (suc s) (Both t s ∷ w) k (inr i)

last_long : {X : Type 0} (xs : List X) (x : X) → suc (length xs) ≡ length (xs ++ x ∷ [])
last_long xs x = (let n : suc (length xs) ≡ length xs + 1 = omega arith in n) ∙ sym (length-append xs (x ∷ []))

module _ (p : ProgramTree) (W : World Value) where
  -- the pairs of a list are made, in the world that has them all
  pairs_made : (vs us : List Value) (v : World Value) (st : List M.Item) (ss : List S.Item) → AllAlike W vs us →
      Grows (pairs_more (length us) (length st) (length ss) v) W → Stores (items p) W v st ss →
      Stores (items p) W (pairs_more (length us) (length st) (length ss) v)
      (st ++ map M.Obj (list_objects vs (length st))) (ss ++ R.list_items us (length ss))
  pairs_made _ _ v st ss Like.nothing gr h = subst₂ (Stores (items p) W v) (sym (append-nil st)) (sym (append-nil ss)) h
  pairs_made _ _ v st ss (Like.further {v = a} {w = b} x Like.nothing) gr h =
      both_made M.Item S.Item Value (items p) W v st ss (M.Obj (Pair a Nil)) (S.Obj (Pair b Nil)) h
      (Rel.object (Like.pair x Like.nil))
  pairs_made _ _ v st ss
      (Like.further {v = a} {w = b} x (Like.further {v = a2} {w = b2} {vs = vs} {ws = us} y ys)) gr h =
      let i : M.Item = M.Obj (Pair a (At (suc (length st)))) in
      let j : S.Item = S.Obj (Pair b (At (suc (length ss)))) in
      let st1 : List M.Item = st ++ i ∷ [] in
      let ss1 : List S.Item = ss ++ j ∷ [] in
      let next : IsIn (Both (suc (length st)) (suc (length ss))) W = gr _
      (pairs_grow (length us) (suc (suc (length st))) (suc (suc (length ss)))
      (Both (suc (length st)) (suc (length ss)) ∷ Both (length st) (length ss) ∷ v) _ (inl refl)) in
      let one = both_made M.Item S.Item Value (items p) W v st ss i j h (Rel.object (Like.pair x (Like.at next))) in
      let lt : suc (length st) ≡ length st1 = last_long st i in
      let ls : suc (length ss) ≡ length ss1 = last_long ss j in
      let goal : ℕ → ℕ →
      Type 0 = λ n m. Stores (items p) W (pairs_more (suc (length us)) n m (Both (length st) (length ss) ∷ v))
      (st1 ++ map M.Obj (list_objects (a2 ∷ vs) n)) (ss1 ++ R.list_items (b2 ∷ us) m) in
      let rest : goal (length st1) (length ss1) = pairs_made (a2 ∷ vs) (b2 ∷ us)
      (Both (length st) (length ss) ∷ v) st1 ss1 (Like.further y ys)
      (subst₂ (λ n m. Grows
      (pairs_more (suc (length us)) n m (Both (length st) (length ss) ∷ v)) W) lt ls gr) one in
      let at : goal (suc (length st)) (suc (length ss)) = subst₂ goal (sym lt) (sym ls) rest in
      subst₂ (Stores (items p) W
      (pairs_more (suc (length us)) (suc (length st)) (suc (length ss)) (Both (length st) (length ss) ∷ v)))
      (append_assoc st (i ∷ []) (map M.Obj (list_objects (a2 ∷ vs) (suc (length st)))))
      (append_assoc ss (j ∷ []) (R.list_items (b2 ∷ us) (suc (length ss)))) at

-- the list of a rest parameter
list_alike : (w W : World Value) (vs us : List Value) (t s : ℕ) → AllAlike w vs us →
    Grows (pairs_more (length us) t s w) W → Alike W false (list_value vs t) (list_value us s)
list_alike w W _ _ t s Like.nothing gr = Like.nil
list_alike w W _ _ t s (Like.further {ws = us} x xs) gr = Like.at
    (gr _ (pairs_grow (length us) (suc t) (suc s) (Both t s ∷ w) _ (inl refl)))

module _ (p : ProgramTree) (input : List ℕ) (ready : Ready p) (bodies : Bodies p input)
    (same : (e : Tree) → Each (Good p) e → Same (free_cells p e) (free (inner_free p) e))
    (inner : (l : ℕ) → Same (inner_cells p l) (inner_free p l)) where
  abbrev g : ℕ → Bool
  g = is_assigned p

  abbrev L : M.Language C.Tree T.TreeWork
  L = T.language (cells_of p) (order_of p)

  module _ (w : World Value) (c : T.TreeConfig) (d : R.Config) (k : Ground p w c d) (held : Held p w c d)
      (f : FramesRel p w c.frames d.frames) (m : ℕ) (l : LambdaTree) (known : slice_get p.lambdas m ≡ Some l)
      (r : M.Env) (h : S.Env) (cv : Covers (inner_cells p m) r) (env : EnvRel g w r h) where
    -- what the body names beside the parameters is captured
    outer : (w' : World Value) (y : ℕ) → IsIn y (free_cells p l.body) → (IsIn y (parameters l) → ⊥) →
        (v : Value) × (M.lookup r y ≡ Some v)
    outer w' y i out = cv.has y
        ((inner m).from y
        (subst (IsIn y) (sym (ready.free_of m l known))
        (in-without (parameters l) (free (inner_free p) l.body) y ((same l.body (ready.bodies m l known)).to y i)
        (absent (parameters l) y out))))

    body_entered : (w' : World Value) (c' : T.TreeConfig) (d' : R.Config) (vs us : List Value) (es : List Event) →
        Ground p w' c' d' → Grows w w' → length (parameters l) ≡ length us → AllAlike w' vs us →
        Goes p input
        (R.go_with d' (R.eval (source p) l.body (S.bind_from (parameters l) (length d'.store) h)) d.frames
        (d'.store ++ R.vars us) es)
        (T.evaluate_cut (target p) c' (with_cells g l.place (body_site m) (parameters l) (eliminate g l.body))
        (M.bind_all (renamed g (parameters l)) vs r) c.frames es)
    body_entered w' c' d' vs us es k' gr long x =
        bodies.binds w' c' d' k' l.place (body_site m) (parameters l) l.body vs us r h c.frames d.frames es
        (ready.bodies m l known) (ready.values m l known) (ready.binds m l known)
        (ready.lines_small (body_site m) (omega arith))
        (bound_alike p w' (parameters l) vs us long x) (outer w') (Grow.env_grows w w' gr g r h env)
        (Grow.frames_grow w w' gr p c.frames d.frames f)

    enters_plain : (vs us : List Value) (es : List Event) → l.rest ≡ None → length l.formals ≡ length us →
        AllAlike w vs us →
        Goes p input (R.bind_parameters (source p) d l None us h es)
        (M.bind_parameters L c
        (record { place = l.place; formals = renamed g l.formals; rest = renamed_rest g l.rest; added = []; captured = F.captured (cells_of p) m; body = with_cells g l.place (body_site m) (parameters l) (eliminate g l.body) }) None vs r es)
    enters_plain vs us es no_rest long x =
        let names : parameters l ≡ l.formals = ap (λ o. l.formals ++ option_list o) no_rest ∙ append-nil l.formals in
        subst (λ xs. Goes p input
        (R.go_with d (R.eval (source p) l.body (S.bind_from xs (length d.store) h)) d.frames
        (d.store ++ R.vars us) es)
        (T.evaluate_cut (target p) c (with_cells g l.place (body_site m) (parameters l) (eliminate g l.body))
        (M.bind_all (renamed g xs) vs r) c.frames es)) names
        (body_entered w c d vs us es k (grows_refl w) (ap length names ∙ long) x)

    renamed_last : (xs : List ℕ) (y : ℕ) → renamed g (xs ++ y ∷ []) ≡ renamed g xs ++ cond (g y) (fresh y) y ∷ []
    renamed_last [] y = refl
    renamed_last (x ∷ xs) y = ap (λ zs. cond (g x) (fresh x) x ∷ zs) (renamed_last xs y)

    enters_rest : (y : ℕ) (vs us : List Value) (es : List Event) → l.rest ≡ Some y → length l.formals ≤ length us →
        AllAlike w vs us →
        Goes p input (R.bind_parameters (source p) d l (Some y) us h es)
        (M.bind_parameters L c
        (record { place = l.place; formals = renamed g l.formals; rest = renamed_rest g l.rest; added = []; captured = F.captured (cells_of p) m; body = with_cells g l.place (body_site m) (parameters l) (eliminate g l.body) }) (renamed_rest g (Some y)) vs r es)
    enters_rest y vs us es rest le x =
        let n : ℕ = length l.formals in
        let vs2 : List Value = drop n vs in
        let us2 : List Value = drop n us in
        let W : World Value = pairs_more (length us2) (length c.store) (length d.store) w in
        let gr : Grows w W = pairs_grow (length us2) (length c.store) (length d.store) w in
        let x' : AllAlike W vs us = Grow.lists_wider (Rel.Partner w) (Rel.Partner W) (IsTrue false) (IsTrue false)
        (λ a b i. gr (Both a b) i) (λ u. u) vs us x in
        let st : List M.Item = c.store ++ map M.Obj (list_objects vs2 (length c.store)) in
        let pairs : List S.Item = R.list_items us2 (length d.store) in
        let ss : List S.Item = d.store ++ pairs in
        let stores = pairs_made p W vs2 us2 w c.store d.store (alike_drop W n vs us x') (λ kk i. i)
        (stores_stay M.Item S.Item Value (items p) w W w c.store d.store gr k.stores) in
        let c' : T.TreeConfig = record c { store = st } in
        let d' : R.Config = record d { store = ss } in
        let k' : Ground p W c' d' = record {
          globals = Grow.lists_wider (Rel.Partner w) (Rel.Partner W) (IsTrue true) (IsTrue true)
              (λ a b i. gr (Both a b) i) (λ u. u) _ _ k.globals;
          stores = stores;
          statics = λ a lt. gr (Both a a) (k.statics a lt);
          input = k.input;
          met = k.met;
        } in
        let names : parameters l ≡ l.formals ++ y ∷ [] = ap (λ o. l.formals ++ option_list o) rest in
        let ws : List Value = take n vs ++ list_value vs2 (length c.store) ∷ [] in
        let zs : List Value = take n us ++ list_value us2 (length d.store) ∷ [] in
        let alike : AllAlike W ws zs = alike_append W (take n vs) (take n us) _ _ (alike_take W n vs us x')
        (Like.further
        (list_alike w W vs2 us2 (length c.store) (length d.store) (alike_drop w n vs us x)
        (λ kk i. i)) Like.nothing) in
        let long : length (parameters l) ≡ length zs = ap length names ∙ length-append l.formals (y ∷ [])
        ∙ ap (λ a. a + 1) (sym (take_long n us le))
        ∙ sym (length-append (take n us) (list_value us2 (length d.store) ∷ [])) in
        let entered = body_entered W c' d' ws zs es k' gr long alike in
        let first : ℕ = length d.store + length pairs in
        let at_first : length ss ≡ first = length-append d.store pairs in
        subst (λ a. Goes p input (R.bind_parameters (source p) d l (Some y) us h es)
        (M.Running
        (record c {
          control = M.Eval (with_cells g l.place (body_site m) (parameters l) (eliminate g l.body))
              (M.gather (F.free (inner_cells p)
              (with_cells g l.place (body_site m) (parameters l) (eliminate g l.body)))
              (M.bind_all (renamed g l.formals ++ cond (g y) (fresh y) y ∷ [])
              (take a vs ++ list_value (drop a vs)
              (length c.store) ∷ []) r));
          frames = c.frames;
          store = c.store ++ map M.Obj
              (list_objects (drop a vs) (length c.store));
        }) es)) (sym (renamed_long g l.formals))
        (subst (λ xs. Goes p input (R.bind_parameters (source p) d l (Some y) us h es)
        (M.Running
        (record c {
          control = M.Eval (with_cells g l.place (body_site m) (parameters l) (eliminate g l.body))
              (M.gather (F.free (inner_cells p)
              (with_cells g l.place (body_site m) (parameters l) (eliminate g l.body)))
              (M.bind_all xs ws r));
          frames = c.frames;
          store = st;
        }) es)) (renamed_last l.formals y)
        (subst (λ items. Goes p input
        (R.go_with d (R.eval (source p) l.body (S.bind_from (l.formals ++ y ∷ []) first h)) d.frames items es)
        (M.Running
        (record c {
          control = M.Eval (with_cells g l.place (body_site m) (parameters l) (eliminate g l.body))
              (M.gather (F.free (inner_cells p)
              (with_cells g l.place (body_site m) (parameters l) (eliminate g l.body)))
              (M.bind_all (renamed g (l.formals ++ y ∷ [])) ws r));
          frames = c.frames;
          store = st;
        }) es))
        (append_assoc d.store pairs (R.vars zs))
        (subst (λ a. Goes p input
        (R.go_with d (R.eval (source p) l.body (S.bind_from (l.formals ++ y ∷ []) a h)) d.frames
        (ss ++ R.vars zs) es)
        (M.Running
        (record c {
          control = M.Eval (with_cells g l.place (body_site m) (parameters l) (eliminate g l.body))
              (M.gather (F.free (inner_cells p)
              (with_cells g l.place (body_site m) (parameters l) (eliminate g l.body)))
              (M.bind_all (renamed g (l.formals ++ y ∷ [])) ws r));
          frames = c.frames;
          store = st;
        }) es)) at_first
        (subst (λ xs. Goes p input
        (R.go_with d (R.eval (source p) l.body (S.bind_from xs (length ss) h)) d.frames (ss ++ R.vars zs) es)
        (M.Running
        (record c {
          control = M.Eval (with_cells g l.place (body_site m) (parameters l) (eliminate g l.body))
              (M.gather (F.free (inner_cells p)
              (with_cells g l.place (body_site m) (parameters l) (eliminate g l.body)))
              (M.bind_all (renamed g xs) ws r));
          frames = c.frames;
          store = st;
        }) es)) names entered))))

    by_count : (b : Bool) (s t : R.State) (x y : T.TreeState) → (b ≡ true → Goes p input s x) → Goes p input t y →
        Goes p input (cond b s t) (cond b x y)
    by_count true s t x y a b = a refl
    by_count false s t x y a b = b

    enters_with : (o : Option ℕ) (vs us : List Value) (es : List Event) → l.rest ≡ o →
        R.takes l o (length us) ≡ true → AllAlike w vs us →
        Goes p input (R.bind_parameters (source p) d l o us h es)
        (M.bind_parameters L c
        (record { place = l.place; formals = renamed g l.formals; rest = renamed_rest g l.rest; added = []; captured = F.captured (cells_of p) m; body = with_cells g l.place (body_site m) (parameters l) (eliminate g l.body) }) (renamed_rest g o) vs r es)
    enters_with None vs us es e t x = enters_plain vs us es e (eqb-true (length l.formals) (length us) t) x
    enters_with (Some y) vs us es e t x = enters_rest y vs us es e (leb-true (length l.formals) (length us) t) x

    enters_body : (vs us : List Value) (es : List Event) → AllAlike w vs us →
        Goes p input (R.enter_lambda (source p) d (Some l) us h es)
        (M.enter_body L c (T.procedure_of (cells_of p) m (Some (eliminate_lambda g m l))) vs r es)
    enters_body vs us es x =
        subst (λ n. Goes p input (R.enter_lambda (source p) d (Some l) us h es)
        (cond (M.takes (length (renamed g l.formals)) (renamed_rest g l.rest) n)
        (M.bind_parameters L c
        (record { place = l.place; formals = renamed g l.formals; rest = renamed_rest g l.rest; added = []; captured = F.captured (cells_of p) m; body = with_cells g l.place (body_site m) (parameters l) (eliminate g l.body) }) (renamed_rest g l.rest) vs r es) (M.fail c Cause.WrongArgs l.place es))) (sym (alike_long w vs us x))
        (subst (λ b. Goes p input (R.enter_lambda (source p) d (Some l) us h es)
        (cond b (M.bind_parameters L c
        (record { place = l.place; formals = renamed g l.formals; rest = renamed_rest g l.rest; added = []; captured = F.captured (cells_of p) m; body = with_cells g l.place (body_site m) (parameters l) (eliminate g l.body) }) (renamed_rest g l.rest) vs r es) (M.fail c Cause.WrongArgs l.place es))) (sym (same_takes g l l.rest (length us)))
        (by_count (R.takes l l.rest (length us)) _ _ _ _ (λ t. enters_with l.rest vs us es refl t x)
        (fails p input w c d k held Cause.WrongArgs l.place es)))

  enters_known : (w : World Value) (c : T.TreeConfig) (d : R.Config) → Ground p w c d → Held p w c d →
      FramesRel p w c.frames d.frames → (m : ℕ) (o : Option LambdaTree) → slice_get p.lambdas m ≡ o →
      (r : M.Env) (h : S.Env) (vs us : List Value) (es : List Event) → Covers (inner_cells p m) r → EnvRel g w r h →
      AllAlike w vs us →
      Goes p input (R.enter_lambda (source p) d o us h es)
      (M.enter_body L c (T.procedure_of (cells_of p) m (cells_at g m o)) vs r es)
  enters_known w c d k held f m None e r h vs us es cv env x = loses p input w c d k held es
  enters_known w c d k held f m
      (Some l) e r h vs us es cv env x = enters_body w c d k held f m l e r h cv env vs us es x

  enters_item : (w : World Value) (c : T.TreeConfig) (d : R.Config) → Ground p w c d → Held p w c d →
      FramesRel p w c.frames d.frames → (i : M.Item) (j : S.Item) (vs us : List Value) (es : List Event) →
      ItemRel p w i j → AllAlike w vs us →
      Goes p input (R.entering (source p) d (Some j) us es) (M.enter_item L c (Some i) vs es)
  enters_item w c d k held f _ _ vs us es (Rel.cell h) x = loses p input w c d k held es
  enters_item w c d k held f _ _ vs us es (Rel.object h) x = loses p input w c d k held es
  enters_item w c d k held f _ _ vs us es (Rel.closure {m = m} {r = r} {q = h} cv env) x =
      subst (λ o. Goes p input (R.enter_lambda (source p) d (slice_get p.lambdas m) us h es)
      (M.enter_body L c (T.procedure_of (cells_of p) m o) vs r es))
      (sym (lambda-at g p.lambdas 0 m
      ∙ ap (λ n. cells_at g n (slice_get p.lambdas m)) (let z : 0 + m ≡ m = omega arith in z)))
      (enters_known w c d k held f m (slice_get p.lambdas m) refl r h vs us es cv env x)

  pub all-entries : Entries p input
  all-entries = record {
    enters = λ w c d k held f t s vs us es at x.
        let l = k.stores.linked t s at in
        subst₂ (λ a b. Goes p input (R.entering (source p) d b us es) (M.enter_item L c a vs es)) (sym l.here)
        (sym l.there)
        (enters_item w c d k held f l.item l.other vs us es l.alike x);
  }
