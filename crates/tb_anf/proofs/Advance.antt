-- The next operand of a node: where the source goes on to it, the target is at its block, or reads it later.
use Rattle.std.proofs.Common.{◌≡◌, refl, sym, ap, ◌∙◌, subst, ℕ, suc, ◌⊎◌, inl, inr, ⊎_elim, true, List, [], ◌∷◌, ◌++◌, map, Option, Some, slice_get}
use Rattle.tb_prim.specs.declared.place.Place.{Place}
use Rattle.tb_semantics.specs.Graph.{IsIn, IsApart}
use Rattle.tb_core.specs.Store.{Value}
use Rattle.tb_core.proofs.Members.{in-left, in-either}
use Rattle.tb_ir.specs.Tree.{Tree, Node, Form, Quote, Local, Global, Lambda, If, NewCell, CellGet, CellSet, SetGlobal, DefGlobal, Let, Letrec, Seq, Call, Direct, PrimUse, Apply, Trees, tree_at, operands}
use Rattle.tb_ir.specs.FreeVariables.{free}
use Rattle.tb_ir.specs.AnfTree as A
use Rattle.tb_ir.specs.AnfTree.{Operand, Block}
use Rattle.tb_ir.specs.Machine.{Env}
use Rattle.tb_ir.specs.TreeMachine.{TreeWork, Args, Context, Frames, numbers, free_of_numbers, free_of_body}
use Rattle.tb_ir.specs.AnfMachine.{AnfFrames, free_of_atom, free_of_atoms}
use Rattle.tb_anf.specs.NormalForm.{value_name, atom, atoms, After, Then, put, around, around_at, block_of, bound, bound_operands}
use Rattle.tb_anf.proofs.Environments.{Named}
use Rattle.tb_anf.proofs.Names.{names, names_form, names_all, by_operands, AreNew, Sound, SoundForm}
use Rattle.tb_anf.proofs.Operands.{apart-left, apart-both, apart-at, in-at, number_at, names-at, names-apart, names-other, free-at, numbers-free, nodes-at, atoms-at, atom-of, var-of, var-at, variable-at, bound-at, named-at, operands-apart, operands-in, operands-free, body-free, operands-nodes}
use Rattle.tb_anf.proofs.Rel.{steps, operand_atoms, operation, finish, Done, none_done, one_done, Awaits, operand, Follows}

-- an expression that stays an atom
pub data Simple : Tree → Operand → Type 0 where
  constant : {p : Place} {s : ℕ} (c : _) → Simple (Node p s (Quote c)) (A.Quote c)
  variable : {p : Place} {s : ℕ} (y : ℕ) → Simple (Node p s (Local y)) (A.Var y)

-- an operand stays an atom, or its value is bound
pub data Kind (line : ℕ → Option (List ℕ)) (n : ℕ) (e : Tree) : Type 0 where
  stays : Simple e (atom n e) → ((b : Block) → bound line n e b ≡ b) → Kind line n e
  binds : atom n e ≡ A.Var (value_name n) →
      ((b : Block) → bound line n e b ≡ block_of line n e (Then (value_name n) b)) →
      Kind line n e

pub kind : (line : ℕ → Option (List ℕ)) (n : ℕ) (e : Tree) → Kind line n e
kind line n (Node p s (Quote c)) = stays (constant c) (λ b. refl)
kind line n (Node p s (Local y)) = stays (variable y) (λ b. refl)
kind line n (Node p s (Global g)) = binds refl (λ b. refl)
kind line n (Node p s (Lambda l)) = binds refl (λ b. refl)
kind line n (Node p s (If a b c)) = binds refl (λ b. refl)
kind line n (Node p s (NewCell e)) = binds refl (λ b. refl)
kind line n (Node p s (CellGet e)) = binds refl (λ b. refl)
kind line n (Node p s (CellSet c e)) = binds refl (λ b. refl)
kind line n (Node p s (SetGlobal g e)) = binds refl (λ b. refl)
kind line n (Node p s (DefGlobal g e)) = binds refl (λ b. refl)
kind line n (Node p s (Let xs es e)) = binds refl (λ b. refl)
kind line n (Node p s (Letrec xs ls e)) = binds refl (λ b. refl)
kind line n (Node p s (Seq es)) = binds refl (λ b. refl)
kind line n (Node p s (Call f es)) = binds refl (λ b. refl)
kind line n (Node p s (Direct l es)) = binds refl (λ b. refl)
kind line n (Node p s (PrimUse q es)) = binds refl (λ b. refl)
kind line n (Node p s (Apply f l)) = binds refl (λ b. refl)

-- a `let`, or a node whose operands are atoms
pub data View (line : ℕ → Option (List ℕ)) (n : ℕ) : Form → Type 0 where
  of_let : (xs : List ℕ) (es : Trees) (e : Tree) → View line n (Let xs es e)
  plain : {f : Form} → operand_atoms n f ≡ atoms (suc n) (operands f) →
      steps line n f ≡ bound_operands line (suc n) (operands f) →
      ((p : Place) (k : After) → finish line n p f k ≡ put k (operation n p f)) → View line n f

pub view : (line : ℕ → Option (List ℕ)) (n : ℕ) (f : Form) → by_operands f ≡ true → View line n f
view line n (NewCell e) o = plain refl refl (λ p k. refl)
view line n (CellGet e) o = plain refl refl (λ p k. refl)
view line n (CellSet c e) o = plain refl refl (λ p k. refl)
view line n (Let xs es e) o = of_let xs es e
view line n (Call f es) o = plain refl refl (λ p k. refl)
view line n (Direct l es) o = plain refl refl (λ p k. refl)
view line n (PrimUse q es) o = plain refl refl (λ p k. refl)
view line n (Apply f l) o = plain refl refl (λ p k. refl)
view line n _ o = cc

-- the variable of an atom is the operand's own, or the name of its value
simple_free : (I : ℕ → List ℕ) {e : Tree} {a : Operand} (y : ℕ) → Simple e a → IsIn y (free_of_atom a) →
    IsIn y (free I e)
simple_free I y (constant c) i = absurd i
simple_free I y (variable z) i = i

pub own_name : (n : ℕ) (e : Tree) → IsIn (value_name n) (names n e)
own_name n (Node p s f) = inl refl

atom_free : (line : ℕ → Option (List ℕ)) (I : ℕ → List ℕ) (n : ℕ) (e : Tree) (y : ℕ) → Kind line n e →
    IsIn y (free_of_atom (atom n e)) → IsIn y (free I e) ⊎ IsIn y (names n e)
atom_free line I n e y (stays h b) i = inl (simple_free I y h i)
atom_free line I n e y (binds h b) i =
    let j : IsIn y (value_name n ∷ []) = subst (λ a. IsIn y (free_of_atom a)) h i in
    ⊎_elim (λ q. inr (subst (λ z. IsIn z (names n e)) q (own_name n e))) (λ k. absurd k) j

-- what atoms of operands name
pub done-free : (y : ℕ) {m : Env} {all ds : List Operand} {is : List ℕ} {vs : List Value} → Done m all is ds vs →
    ((j : ℕ) → IsIn j is → (a : Operand) → slice_get all j ≡ Some a → IsIn y (free_of_atom a) → ⊥) →
    IsIn y (free_of_atoms ds) → ⊥
done-free y none_done h i = i
done-free y (one_done {i = j} {a = a} {ds = ds} g e d) h i =
    ⊎_elim (h j (inl refl) a g) (done-free y d (λ k l. h k (inr l))) (in-either y (free_of_atom a) (free_of_atoms ds) i)

module _ (x : Context) (calls : Form → Type 0) where
  -- the names of an operand are in no atom of another one
  other_atom : (n s : ℕ) (f : Form) → View x.line n f → by_operands f ≡ true → SoundForm x calls n s f →
      (i j : ℕ) (e : Tree) →
      tree_at (operands f) i ≡ Some e → (i ≡ j → ⊥) → (a : Operand) → slice_get (operand_atoms n f) j ≡ Some a →
      (y : ℕ) → IsIn y (names (number_at (suc n) (operands f) i) e) → IsIn y (free_of_atom a) → ⊥
  other_atom n s _ (of_let xs es b) o so i j e t ne a g y k l =
      let v = var_of_let in
      ⊎_elim
      (λ q. apart-both xs _ y so.apart (subst (λ z. IsIn z xs) q (in-at xs j v.0 v.1))
      (in-left y (names_all (suc n) es) _ (names-at (suc n) es i e t y k)))
      (λ z. z)
      (subst (λ d. IsIn y (free_of_atom d)) (sym v.2) l)
    where
      var_of_let : (z : ℕ) × (slice_get xs j ≡ Some z) × (A.Var z ≡ a)
      var_of_let = var-of xs j a g
  other_atom n s f (plain h b z) o so i j e t ne a g y k l =
      let c = atom-of (suc n) (operands f) j a (subst (λ ds. slice_get ds j ≡ Some a) h g) in
      ⊎_elim
      (λ r. so.new y (operands-in n f o y (names-at (suc n) (operands f) i e t y k))
      (operands-free x.inner f o y (free-at x.inner (operands f) j c.0 c.1 y r)))
      (names-other (suc n) (operands f) i j e c.0 t c.1 ne (operands-apart n f o so.apart) y k)
      (atom_free x.line x.inner (number_at (suc n) (operands f) j) c.0 y
      (kind x.line (number_at (suc n) (operands f) j) c.0) (subst (λ d. IsIn y (free_of_atom d)) (sym c.2) l))

  -- the expression of an operand
  pub operand-sound : (n s : ℕ) (f : Form) → by_operands f ≡ true → SoundForm x calls n s f → (i : ℕ) (e : Tree) →
      tree_at (operands f) i ≡ Some e → Sound x calls (number_at (suc n) (operands f) i) e
  operand-sound n s f o so i e t = record {
    apart = names-apart (suc n) (operands f) i e t (operands-apart n f o so.apart);
    new = λ y k l. so.new y (operands-in n f o y (names-at (suc n) (operands f) i e t y k))
        (operands-free x.inner f o y (free-at x.inner (operands f) i e t y l));
    proper = nodes-at _ (operands f) i e t (operands-nodes _ f o so.proper);
  }

  -- nothing of what follows rests on a name of the node that is in no atom of the operands before
  new_needed : (n s : ℕ) (f : Form) → by_operands f ≡ true → SoundForm x calls n s f → (needed : List ℕ) →
      AreNew (names_form n f) needed → (rest : List ℕ) (ds : List Operand) (y : ℕ) → IsIn y (names_form n f) →
      (IsIn y (free_of_atoms ds) → ⊥) →
      IsIn y ((free_of_numbers x (operands f) rest ++ free_of_body x f) ++ (free_of_atoms ds ++ needed)) → ⊥
  new_needed n s f o so needed nw rest ds y k out l =
      ⊎_elim
      (λ r. so.new y k
      (⊎_elim (λ z. operands-free x.inner f o y (numbers-free x (operands f) rest y z)) (body-free x f y)
      (in-either y (free_of_numbers x (operands f) rest) _ r)))
      (λ r. ⊎_elim out (nw y k) (in-either y (free_of_atoms ds) needed r))
      (in-either y (free_of_numbers x (operands f) rest ++ free_of_body x f) _ l)

module _ (x : Context) (calls : Form → Type 0) (taken : ℕ → List ℕ) where
  -- the source evaluates an operand under this work, above its frames: the target is at its block, or behind it
  -- where the operand is an atom
  pub data Begins (m : Env) (e : Tree) (w : TreeWork) (fs : Frames) : Block → AnfFrames → Type 0 where
    into : (n y : ℕ) {b : Block} {ts : AnfFrames} {needed : List ℕ} → Sound x calls n e → AreNew (names n e) needed →
        Awaits x calls taken m (A.Var y) w fs b ts needed → (IsIn y needed → ⊥) →
        Begins m e w fs (block_of x.line n e (Then y b)) ts
    reads : {a : Operand} {b : Block} {ts : AnfFrames} {needed : List ℕ} → Simple e a →
        Awaits x calls taken m a w fs b ts needed → Begins m e w fs b ts

  module _ (m q : Env) (p : Place) (s n i : ℕ) (f : Form) (vs : List Value) (done rest : List ℕ) (ds : List Operand)
      (k : After) (fs : Frames) (ts : AnfFrames) (needed : List ℕ) (e : Tree) (o : by_operands f ≡ true)
      (so : SoundForm x calls n s f) (nw : AreNew (names_form n f) needed) (ns : numbers
      (x.line s) f ≡ done ++ i ∷ rest)
      (t : tree_at (operands f) i ≡ Some e) (d : Done m (operand_atoms n f) done ds vs)
      (c : Named (free_of_numbers x (operands f) rest ++ free_of_body x f) q m)
      (h : Follows x calls taken m fs k ts needed) where
    abbrev here : ℕ
    here = number_at (suc n) (operands f) i

    abbrev behind : Block
    behind = around (steps x.line n f) rest (finish x.line n p f k)

    not_done : (j : ℕ) → IsIn j done → i ≡ j → ⊥
    not_done j l q = apart-both done (i ∷ rest) i (subst IsApart ns (so.here.permuted o).apart)
        (subst (λ z. IsIn z done) (sym q) l) (inl refl)

    inside : (y : ℕ) → IsIn y (names here e) → IsIn y (names_form n f)
    inside y l = operands-in n f o y (names-at (suc n) (operands f) i e t y l)

    names_new : AreNew (names here e)
        ((free_of_numbers x (operands f) rest ++ free_of_body x f) ++ (free_of_atoms ds ++ needed))
    names_new y l = new_needed x calls n s f o so needed nw rest ds y (inside y l)
        (done-free y d (λ j r a g. other_atom x calls n s f (view x.line n f o) o so i j e t (not_done j r) a g y l))

    awaits : (a : Operand) → slice_get (operand_atoms n f) i ≡ Some a →
        Awaits x calls taken m a (Args p s f vs q) fs behind ts
        ((free_of_numbers x (operands f) rest ++ free_of_body x f) ++ (free_of_atoms ds ++ needed))
    awaits a g = operand n i done rest ds o so nw ns g d c h

    of_kind : (g : slice_get (operand_atoms n f) i ≡ Some (atom here e)) → Kind x.line here e →
        Begins m e (Args p s f vs q) fs (bound x.line here e behind) ts
    of_kind g (stays si b) = subst (λ z. Begins m e (Args p s f vs q) fs z ts) (sym (b behind)) (reads si (awaits _ g))
    of_kind g (binds a b) =
        subst (λ z. Begins m e (Args p s f vs q) fs z ts) (sym (b behind))
        (into here (value_name here) (operand-sound x calls n s f o so i e t) names_new
        (awaits (A.Var (value_name here)) (g ∙ ap Some a)) (names_new (value_name here) (own_name here e)))

    plain_next : operand_atoms n f ≡ atoms (suc n) (operands f) →
        steps x.line n f ≡ bound_operands x.line (suc n) (operands f) →
        Begins m e (Args p s f vs q) fs (around_at (slice_get (steps x.line n f) i) behind) ts
    plain_next a b =
        subst (λ z. Begins m e (Args p s f vs q) fs (around_at z behind) ts)
        (sym (ap (λ g. slice_get g i) b ∙ bound-at x.line (suc n) (operands f) i e t))
        (of_kind (ap (λ g. slice_get g i) a ∙ atoms-at (suc n) (operands f) i e t) (kind x.line here e))

  let_next : (m q : Env) (p : Place) (s n i : ℕ) (xs : List ℕ) (es : Trees) (b : Tree) (vs : List Value)
      (done rest : List ℕ) (ds : List Operand) (k : After) (fs : Frames) (ts : AnfFrames) (needed : List ℕ) (e : Tree) →
      (so : SoundForm x calls n s (Let xs es b)) → AreNew (names_form n (Let xs es b)) needed →
      numbers (x.line s) (Let xs es b) ≡ done ++ i ∷ rest → tree_at es i ≡ Some e →
      Done m (map A.Var xs) done ds vs →
      Named (free_of_numbers x es rest ++ free_of_body x (Let xs es b)) q m → Follows x calls taken m fs k ts needed →
      Begins m e (Args p s (Let xs es b) vs q) fs
      (around (steps x.line n (Let xs es b)) (i ∷ rest) (finish x.line n p (Let xs es b) k)) ts
  let_next m q p s n i xs es b vs done rest ds k fs ts needed e so nw ns t d c h =
      let v = variable-at xs es i e so.here.long t in
      let y = v.0 in
      let g : slice_get (map A.Var xs) i ≡ Some (A.Var y) = var-at xs i y v.1 in
      let mine : IsIn y (names_form n (Let xs es b)) = in-left y xs _ (in-at xs i y v.1) in
      let out : IsIn y (free_of_atoms ds) → ⊥ = done-free y d (λ j r a u l. other_variable y j a v.1
      (not_done m q p s n i (Let xs es b) vs done rest ds k fs ts needed e refl so nw ns t d c h j r) u l) in
      subst (λ z. Begins m e (Args p s (Let xs es b) vs q) fs
      (around_at z (around (steps x.line n (Let xs es b)) rest (finish x.line n p (Let xs es b) k))) ts)
      (sym (named-at x.line (suc n) xs es i y e v.1 t))
      (into (number_at (suc n) es i) y (operand-sound x calls n s (Let xs es b) refl so i e t)
      (names_new m q p s n i (Let xs es b) vs done rest ds k fs ts needed e refl so nw ns t d c h)
      (awaits m q p s n i (Let xs es b) vs done rest ds k fs ts needed e refl so nw ns t d c h (A.Var y) g)
      (new_needed x calls n s (Let xs es b) refl so needed nw rest ds y mine out))
    where
      other_variable : (y j : ℕ) (a : Operand) → slice_get xs i ≡ Some y → (i ≡ j → ⊥) →
          slice_get (map A.Var xs) j ≡ Some a → IsIn y (free_of_atom a) → ⊥
      other_variable y j a w ne u l =
          let r = var-of xs j a u in
          ⊎_elim
          (λ z. apart-at xs i j y (apart-left xs _ so.apart) ne w (r.1 ∙ ap Some z))
          (λ z. z)
          (subst (λ g. IsIn y (free_of_atom g)) (sym r.2) l)

  -- the source goes on to the next operand
  pub next-operand : (m q : Env) (p : Place) (s n i : ℕ) (f : Form) (vs : List Value) (done rest : List ℕ)
      (ds : List Operand) (k : After) (fs : Frames) (ts : AnfFrames) (needed : List ℕ) (e : Tree) →
      by_operands f ≡ true → SoundForm x calls n s f → AreNew (names_form n f) needed →
      numbers (x.line s) f ≡ done ++ i ∷ rest → tree_at (operands f) i ≡ Some e →
      Done m (operand_atoms n f) done ds vs →
      Named (free_of_numbers x (operands f) rest ++ free_of_body x f) q m → Follows x calls taken m fs k ts needed →
      Begins m e (Args p s f vs q) fs (around (steps x.line n f) (i ∷ rest) (finish x.line n p f k)) ts
  next-operand m q p s n i f vs done rest ds k fs ts needed e o so nw ns t d c h = by
      (view x.line n f o) o so nw ns t d c
    where
      by : {f : Form} → View x.line n f → by_operands f ≡ true → SoundForm x calls n s f →
          AreNew (names_form n f) needed →
          numbers (x.line s) f ≡ done ++ i ∷ rest → tree_at (operands f) i ≡ Some e →
          Done m (operand_atoms n f) done ds vs →
          Named (free_of_numbers x (operands f) rest ++ free_of_body x f) q m →
          Begins m e (Args p s f vs q) fs (around (steps x.line n f) (i ∷ rest) (finish x.line n p f k)) ts
      by (of_let xs es b) o so nw ns t d c =
          let_next m q p s n i xs es b vs done rest ds k fs ts needed e so nw ns t d c h
      by (plain {f = g} a b z) o so nw ns t d c =
          plain_next m q p s n i g vs done rest ds k fs ts needed e o so nw ns t d c h a b
