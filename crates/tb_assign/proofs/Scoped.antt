-- What the rules of a program give for its variables: names are small, lists are apart, and targets are assigned.
use Rattle.std.proofs.Common.{◌≡◌, refl, ℕ, inl, inr, ⊎_elim, Bool, true, List, [], ◌∷◌, ◌++◌}
use Rattle.std.proofs.lemmas.Bool.{cases_Bool}
use Rattle.tb_semantics.specs.Graph.{IsIn, IsApart}
use Rattle.tb_core.specs.Tree.{Tree, Node, Form, Quote, Local, Global, Lambda, If, SetLocal, SetGlobal, DefGlobal, Let, Letrec, Seq, Call, PrimUse, Apply, Trees, none, more}
use Rattle.tb_core.specs.FreeVariables.{is_in, without, of_lambdas, free, free_form, free_all, targets, targets_form, targets_all}
use Rattle.tb_core.specs.Rules.{Each, EachForm, EachAll, bound, bound_form, bound_all}
use Rattle.tb_core.proofs.Members.{in-left, in-right, in-tested, in-without}
use Rattle.tb_assign.proofs.Free.{AreSmall, NamesSmall}

pub apart-left : (xs ys : List ℕ) → IsApart (xs ++ ys) → IsApart xs
apart-left [] ys h = tt
apart-left (x ∷ xs) ys h = (λ i. h.0 (in-left x xs ys i), apart-left xs ys h.1)

pub apart-right : (xs ys : List ℕ) → IsApart (xs ++ ys) → IsApart ys
apart-right [] ys h = h
apart-right (x ∷ xs) ys h = apart-right xs ys h.1

small_left : (xs ys : List ℕ) → AreSmall (xs ++ ys) → AreSmall xs
small_left xs ys h y i = h y (in-left y xs ys i)

small_right : (xs ys : List ℕ) → AreSmall (xs ++ ys) → AreSmall ys
small_right xs ys h y i = h y (in-right y xs ys i)

module _ (I : ℕ → List ℕ) (g : ℕ → Bool) where
  abbrev Assigned : List ℕ → Type 0
  Assigned xs = (x : ℕ) → IsIn x xs → g x ≡ true

  abbrev pub Tied : Form → Type 0
  Tied (Let xs es e) = IsApart xs × AreSmall xs
  Tied (Letrec xs ls e) = IsApart xs × AreSmall xs
  Tied (SetLocal x e) = g x ≡ true
  Tied f = Unit {0}

  abbrev pub Scoped : ℕ → Form → Type 0
  Scoped s f = NamesSmall s f × Tied f

  -- what surrounds an expression
  pub record Around (names bound targets : List ℕ) : Type 0 where
    pub free_small : AreSmall names
    pub bound_small : AreSmall bound
    pub apart : IsApart bound
    pub set : Assigned targets

  left : (ns ms bs cs ts us : List ℕ) → Around (ns ++ ms) (bs ++ cs) (ts ++ us) → Around ns bs ts
  left ns ms bs cs ts us a = record { free_small = small_left ns ms a.free_small; bound_small = small_left bs cs a.bound_small; apart = apart-left bs cs a.apart; set = λ x i. a.set x (in-left x ts us i) }

  right : (ns ms bs cs ts us : List ℕ) → Around (ns ++ ms) (bs ++ cs) (ts ++ us) → Around ms cs us
  right ns ms bs cs ts us a = record { free_small = small_right ns ms a.free_small; bound_small = small_right bs cs a.bound_small; apart = apart-right bs cs a.apart; set = λ x i. a.set x (in-right x ts us i) }

  -- the body of a binder
  inside : (xs ns bs ts : List ℕ) → AreSmall xs → Around (without xs ns) bs ts → Around ns bs ts
  inside xs ns bs ts small a = record {
    free_small = λ y i. ⊎_elim (λ t. small y (in-tested xs y t)) (λ n. a.free_small y (in-without xs ns y i n))
        (cases_Bool (is_in xs y));
    bound_small = a.bound_small;
    apart = a.apart;
    set = a.set;
  }

  mutual
    pub scoped : (e : Tree) → Around (free I e) (bound e) (targets e) → Each Scoped e
    scoped (Node p s f) a = (here f s a, scoped_form f a)

    here : (f : Form) (s : ℕ) → Around (free_form I f) (bound_form f) (targets_form f) → Scoped s f
    here (Quote c) s a = (tt, tt)
    here (Local x) s a = (a.free_small x (inl refl), tt)
    here (Global n) s a = (tt, tt)
    here (Lambda l) s a = (tt, tt)
    here (If b c d) s a = (tt, tt)
    here (SetLocal x e) s a = (a.free_small x (inl refl), a.set x (inl refl))
    here (SetGlobal n e) s a = (tt, tt)
    here (DefGlobal n e) s a = (tt, tt)
    here (Let xs es e) s a = (tt, (apart-left xs _ a.apart, small_left xs _ a.bound_small))
    here (Letrec xs ls e) s a = (tt, (apart-left xs _ a.apart, small_left xs _ a.bound_small))
    here (Seq es) s a = (tt, tt)
    here (Call f es) s a = (tt, tt)
    here (PrimUse q es) s a = (tt, tt)
    here (Apply f l) s a = (tt, tt)

    scoped_form : (f : Form) → Around (free_form I f) (bound_form f) (targets_form f) → EachForm Scoped f
    scoped_form (Quote c) a = tt
    scoped_form (Local x) a = tt
    scoped_form (Global n) a = tt
    scoped_form (Lambda l) a = tt
    scoped_form (If b c d) a =
        let rest = right (free I b) _ (bound b) _ (targets b) _ a in (
          scoped b (left (free I b) _ (bound b) _ (targets b) _ a),
          scoped c
              (left (free I c) _ (bound c) _ (targets c) _ rest),
          scoped d
              (right (free I c) _ (bound c) _ (targets c) _ rest),
        )
    scoped_form (SetLocal x e) a = scoped e
        (record {
          free_small = λ y i. a.free_small y
              (inr i);
          bound_small = a.bound_small;
          apart = a.apart;
          set = λ y i. a.set y (inr i);
        })
    scoped_form (SetGlobal n e) a = scoped e a
    scoped_form (DefGlobal n e) a = scoped e a
    scoped_form (Let xs es e) a =
        let below : Around (free_all I es ++ without xs (free I e)) (bound_all es ++ bound e)
        (targets_all es ++ targets e) = record { free_small = a.free_small; bound_small = small_right xs _ a.bound_small; apart = apart-right xs _ a.apart; set = a.set } in (
          scoped_all es (left (free_all I es) _ (bound_all es) _ (targets_all es) _ below),
          scoped e (inside xs (free I e) (bound e) (targets e) (small_left xs _ a.bound_small)
              (right (free_all I es) _ (bound_all es) _ (targets_all es) _ below)),
        )
    scoped_form (Letrec xs ls e) a =
        let ins = inside xs (of_lambdas I ls ++ free I e) (bound e) (targets e) (small_left xs _ a.bound_small)
        (record { free_small = a.free_small; bound_small = small_right xs _ a.bound_small; apart = apart-right xs _ a.apart; set = a.set }) in
        scoped e (record {
          free_small = small_right
              (of_lambdas I ls) _ ins.free_small;
          bound_small = ins.bound_small;
          apart = ins.apart;
          set = ins.set;
        })
    scoped_form (Seq es) a = scoped_all es a
    scoped_form (Call f es) a = (
      scoped f (left (free I f) _ (bound f) _ (targets f) _ a),
      scoped_all es
          (right (free I f) _ (bound f) _ (targets f) _ a),
    )
    scoped_form (PrimUse q es) a = scoped_all es a
    scoped_form (Apply f l) a = (
      scoped f (left (free I f) _ (bound f) _ (targets f) _ a),
      scoped l
          (right (free I f) _ (bound f) _ (targets f) _ a),
    )

    pub scoped_all : (es : Trees) → Around (free_all I es) (bound_all es) (targets_all es) → EachAll Scoped es
    scoped_all none a = tt
    scoped_all (more e es) a = (
      scoped e (left (free I e) _ (bound e) _ (targets e) _ a),
      scoped_all es
          (right (free I e) _ (bound e) _ (targets e) _ a),
    )
