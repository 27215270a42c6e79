-- A program that keeps its rules, and fits, has code that follows its notes.
use Rattle.std.proofs.Common.{◌≡◌, true≢false, ℤ, pos, negsuc, ℕ, suc, ◌<◌, ◌≤◌, ◌+◌, ◌⊎◌, Bool, true, false, cond, List, [], ◌∷◌, ◌++◌, length, Option, Some, None, slice_get, refl, sym, ap, ◌∙◌, subst, inl, inr, ⊎_elim, append_assoc, append-nil, arith}
use Rattle.std.proofs.lemmas.Bool.{ltb-true}
use Rattle.tb_prim.specs.declared.constant.Const.{Const}
use Rattle.tb_prim.specs.declared.constant.Static.{Static}
use Rattle.tb_prim.specs.declared.primitive.Primitive.{Primitive}
use Rattle.tb_prim.specs.declared.primitive.Primitive.TheVariants.{Cons}
use Rattle.tb_prim.specs.Primitives.{arity_of}
use Rattle.tb_semantics.specs.Graph.{IsApart, IsIn}
use Rattle.tb_semantics.proofs.ListLemmas.{in-left, in-right, in-cases, length-last}
use Rattle.tb_core.specs.FreeVariables.{is_in}
use Rattle.tb_core.specs.Rules.{Every, ConstKeeps}
use Rattle.tb_core.proofs.Members.{in-tested, in-without, tested-in, without-sub}
use Rattle.tb_ir.specs.AnfTree.{Operand, Quote, Var, Block, Bind, CloseAll, Tail, Op, Atom, Global, SetGlobal, DefGlobal, PrimUse, NewCell, CellGet, CellSet, Close, Call, Direct, Apply, Branch, ProcTree, AnfTree}
use Rattle.tb_ir.specs.AnfMachine.{InBlock, form_of, proc_of}
use Rattle.tb_ir.specs.AnfRules.{AtomKeeps, BlockKeeps, IsInRange, IsShaped, KeepsRules, Numbered, PassesAll, PassesCells, ProcKeeps, all_blocks, atoms, binders, blocks, closed_by, forms_of, is_form, lambdas_of, names_outside, of_each, operation, operations, standing_at}
use Rattle.tb_codegen.specs.Fits.{Fits, IsByte}
use Rattle.tb_ir.specs.Passed.{passed_by}
use Rattle.tb_codegen.specs.Generate.{code_forms, code_lambda, code_lambdas, labels_in, labels_within, noted_items, operands_map, settled}
use Rattle.tb_codegen.specs.Homes.{frame_size, origin, own_variables, slot_of}
use Rattle.tb_codegen.specs.Notes.{AtLifted, AtProc, Noted, Mark}
use Rattle.tb_codegen.proofs.Changes.{Caught}
use Rattle.tb_codegen.proofs.Ok.{IsWritten, free}
use Rattle.tb_codegen.proofs.OperationChains.{IsEntered, IsLifted, OpOk, QuoteOk, QuotesOk}
use Rattle.tb_codegen.proofs.BlockChains.{AllEntered, BlockOk, kept-apart, settles}
use Rattle.tb_codegen.proofs.CodeChains.{is_branch}
use Rattle.tb_codegen.proofs.EntryChains.{Entering, apart-left, apart-right, operands-in}
use Rattle.tb_codegen.proofs.Homing.{index-below, index-same, origin-absent}
use Rattle.tb_codegen.proofs.Namings.{IsProc, every-at, in-each, is-proc, proc-found}
use Rattle.tb_codegen.proofs.Procs.{apart-both, form-at, form-in, forms-end, in-blocks-of, lambda-at, lambda-found, lambda-in, lambda-kept, kept-in, passes, standing-kept}
use Rattle.tb_codegen.proofs.Scoping.{Scope, block-ok}
use Rattle.tb_codegen.proofs.WholeChains.{FormOk, FormsOk, LambdaOk, LambdasOk, ProgramOk}

none-some : {X : Type 0} {x : X} → None ≡ Some x → ⊥
none-some e = cc

some-same : {X : Type 0} {x y : X} → Some x ≡ Some y → x ≡ y
some-same e = cc

-- parts of a list that are apart, in the other order
pub apart-swap : (xs ys : List ℕ) → IsApart (xs ++ ys) → IsApart (ys ++ xs)
apart-swap xs [] h = subst IsApart (append-nil xs) h
apart-swap xs (y ∷ ys) h = (
  (λ i. ⊎_elim (λ j. here y j (apart-right xs (y ∷ ys) h)) (λ j. apart-both xs (y ∷ ys) y h (inl refl) j) (in-cases ys xs y i)),
  apart-swap xs ys (drop xs h),
)
  where
    here : (z : ℕ) → IsIn z ys → IsApart (z ∷ ys) → ⊥
    here z j g = g.0 j

    drop : (zs : List ℕ) → IsApart (zs ++ y ∷ ys) → IsApart (zs ++ ys)
    drop [] g = g.1
    drop (z ∷ zs) g =
        ((λ i. g.0 (⊎_elim (λ j. in-left zs (y ∷ ys) z j) (λ j. in-right zs (y ∷ ys) z (inr j)) (in-cases zs ys z i))), drop zs g.1)

-- a block with an operation
pub op-block : (bs : List Block) (op : Op) → IsIn op (of_each operation bs) → (b : Block) × IsIn b bs × IsIn op (operation b)
op-block [] op i = absurd i
op-block (b ∷ bs) op i =
    ⊎_elim
    (λ j. (b, inl refl, j))
    (λ j. let r = op-block bs op j in (r.0, inr r.1, r.2))
    (in-cases (operation b) (of_each operation bs) op i)

-- constants that an instruction writes
small-fix : (v : ℤ) (statics : List Static) → ConstKeeps 0 (Const.Fix v) → IsWritten statics (Const.Fix v)
small-fix (pos n) statics h = ltb-true n _ h
small-fix (negsuc n) statics h = ltb-true n _ h

quote-ok : (p : AnfTree) (a : Operand) → AtomKeeps p a → IsByte a → QuoteOk p a
quote-ok p (Var x) h b = tt
quote-ok p (Quote (Const.Fix v)) h b = small-fix v p.statics h
quote-ok p (Quote (Const.Char c)) h b = b
quote-ok p (Quote (Const.Bool c)) h b = tt
quote-ok p (Quote Const.Nil) h b = tt
quote-ok p (Quote Const.Unspecified) h b = tt
quote-ok p (Quote Const.Undefined) h b = tt
quote-ok p (Quote (Const.Stat n)) h b = h

quotes-ok : (p : AnfTree) (ds : List Operand) → Every (AtomKeeps p) ds → Every IsByte ds → QuotesOk p ds
quotes-ok p [] h b = tt
quotes-ok p (d ∷ ds) h b = (quote-ok p d h.0 b.0, quotes-ok p ds h.1 b.1)

-- a lifted lambda has as many parameters as a call passes
passes-length : (p : AnfTree) (xs : List ℕ) (ds : List Operand) → PassesCells p xs ds → length ds ≡ length xs
passes-length p [] [] h = refl
passes-length p (x ∷ xs) (Quote c ∷ ds) h = ap suc (passes-length p xs ds h.1)
passes-length p (x ∷ xs) (Var y ∷ ds) h = ap suc (passes-length p xs ds h.1)
passes-length p [] (d ∷ ds) h = absurd h
passes-length p (x ∷ xs) [] h = absurd h

arity-small : (r : Primitive) → arity_of r ≤ 3
arity-small Cons = omega arith
arity-small _ = omega arith

-- the mark of a lambda's entry
abbrev pub entry_mark : AnfTree → ℕ → ProcTree → Noted
entry_mark p n q = Mark n (cond q.lifted (AtLifted n (operands_map (free p q.body) 1 q.params)) (AtProc n))

lambda-mark : (p : AnfTree) (first m : ℕ) (qs : List ProcTree) (l : ℕ) (q : ProcTree) → Numbered first qs → IsIn q qs → q.lambda ≡ Some m →
    IsIn (entry_mark p m q) (code_lambdas p first qs l)
lambda-mark p first m [] l q h i e = absurd i
lambda-mark p first m (r ∷ qs) l q h (inl f) e =
    let same = some-same (sym e ∙ ap (λ (s : ProcTree). s.lambda) (sym f) ∙ h.0) in
    in-left (code_lambda p first r l) _ _
    (subst (λ k. IsIn (entry_mark p k q) (code_lambda p first r l)) (sym same)
    (subst (λ (s : ProcTree). IsIn (entry_mark p first s) (code_lambda p first r l)) f (inl refl)))
lambda-mark p first m (r ∷ qs) l q h (inr i) e =
    in-right (code_lambda p first r l) _ _ (lambda-mark p (suc first) m qs (l + labels_in r.body) q h.1 i e)

module _ (p : AnfTree) (rules : KeepsRules p) (fits : Fits p) where
  pub mark-of : (m : ℕ) (q : ProcTree) → proc_of p.procs m ≡ Some q → IsIn (entry_mark p m q) (noted_items p)
  mark-of m q e =
      let g = proc-found p p.procs m q e in
      let i = among q m g.0 g.1 in
      in-right (code_forms p 0 (forms_of p) (length (lambdas_of p))) _ _
      (inr (lambda-mark p 0 m (lambdas_of p) (length (lambdas_of p) + labels_within (forms_of p)) q rules.numbered i g.1))
    where
      among : (r : ProcTree) (n : ℕ) → IsIn r p.procs → r.lambda ≡ Some n → IsIn r (lambdas_of p)
      among r n i f = kept-in _ p.procs r i (lambda-kept r n f)

  -- the entries of lambdas that stand at blocks, and of those that are lifted
  is-entered : (home : ℕ → ℕ) (size l : ℕ) → IsIn l (of_each standing_at (all_blocks p)) → l < length (lambdas_of p) →
      (r : ProcTree) × IsEntered p (noted_items p) home size l r
  is-entered home size l j lt =
      let f = lambda-found p rules l lt in
      let kept = standing-kept p rules l f.0 j f.1 in (
        f.0,
        record {
          entered = record { there = f.1; kept = kept };
          mark = subst (λ b. IsIn (Mark l (cond b (AtLifted l (operands_map (free p f.0.body) 1 f.0.params)) (AtProc l))) (noted_items p)) kept (mark-of l f.0 f.1);
        },
      )

  proc-apart : (q : ProcTree) → IsIn q p.procs → IsApart q.params
  proc-apart q i = apart-left q.params _ (every-at (ProcKeeps p) p.procs q rules.procs i).apart

  is-lifted : (home : ℕ → ℕ) (size l : ℕ) (r : ProcTree) → proc_of p.procs l ≡ Some r → r.lifted ≡ true → IsLifted p (noted_items p) home size l r
  is-lifted home size l r e f =
      let i = (proc-found p p.procs l r e).0 in
      let alone = (every-at (ProcKeeps p) p.procs r rules.procs i).lifted_alone f in
      record {
        lifts = record { there = e; lifted = f; alone = alone.0; no_rest = alone.1 };
        mark = subst (λ b. IsIn (Mark l (cond b (AtLifted l (operands_map (free p r.body) 1 r.params)) (AtProc l))) (noted_items p)) f (mark-of l r e);
        starts = record {
          begins_lifted = λ q s k. let o = operands-in (free p r.body) 1 r.params (proc-apart r i) q s k in
              (o.var, o.register, o.spot, o.symbol, o.used, o.at);
        };
      }

  module _ (q : ProcTree) (at : IsIn q p.procs) where
    pub keeps : ProcKeeps p q
    keeps = every-at (ProcKeeps p) p.procs q rules.procs at

    pub block-keeps : (b : Block) → IsIn b (blocks q.body) → BlockKeeps p b
    block-keeps b i = every-at (BlockKeeps p) (all_blocks p) b rules.blocks (in-blocks-of p.procs q b at i)

    params-apart : IsApart q.params
    params-apart = apart-left q.params _ keeps.apart

    binders-none : (x : ℕ) → IsIn x (q.captured ++ q.params) → IsIn x (of_each binders (blocks q.body)) → ⊥
    binders-none x i j =
        ⊎_elim
        (λ k. apart-both q.captured _ x (apart-right q.params _ keeps.apart) j k)
        (λ k. apart-both q.params _ x keeps.apart (in-right q.captured _ x j) k)
        (in-cases q.captured q.params x i)

    own-origin : (x : ℕ) → IsIn x (q.captured ++ q.params) → origin (blocks q.body) x ≡ x
    own-origin x i = origin-absent (blocks q.body) x (binders-none x i)

    own-in : (x : ℕ) → IsIn x (q.captured ++ q.params) → IsIn x (own_variables q)
    own-in x i =
        ⊎_elim (λ j. in-right q.params _ x (in-left q.captured _ x j)) (λ j. in-left q.params _ x j) (in-cases q.captured q.params x i)

    pub named-in : (y : ℕ) → IsIn y (free p q.body) → IsIn y q.captured ⊎ IsIn y q.params
    named-in y i = by (is_in q.params y) refl
      where
        by : (b : Bool) → is_in q.params y ≡ b → IsIn y q.captured ⊎ IsIn y q.params
        by true e = inr (in-tested q.params y e)
        by false e =
            inl (in-tested q.captured y (every-at (λ x. is_in q.captured x ≡ true) (names_outside p q) y keeps.in_scope
            (in-without q.params (free p q.body) y i e)))

    -- what operations keep
    op-ok : (op : Op) → IsIn op (of_each operation (blocks q.body)) → is_branch op ≡ false → OpOk p (noted_items p) (slot_of q) (frame_size q) op
    op-ok op i e =
        let r = op-block (blocks q.body) op i in
        let k = block-keeps r.0 r.1 in
        let here = in-each operation (all_blocks p) r.0 op (in-blocks-of p.procs q r.0 at r.1) r.2 in
        by op e
        (every-at (λ o. Every (AtomKeeps p) (atoms o)) (operation r.0) op k.atoms_in_range r.2)
        (every-at (λ o. Every IsByte (atoms o)) (operations p) op fits.bytes here)
        (every-at (IsInRange p) (operation r.0) op k.in_range r.2)
        (every-at (IsShaped p) (operation r.0) op k.shaped r.2)
        (every-at (λ o. length (passed_by o) ≤ 12) (operations p) op fits.few_operands here)
        (λ l j. entered-at l (in-each standing_at (all_blocks p) r.0 l (in-blocks-of p.procs q r.0 at r.1) (stands r.0 op l r.2 j))
        (every-at (λ n. n < length (lambdas_of p)) (standing_at r.0) l k.lambdas_in_range (stands r.0 op l r.2 j)))
      where
        stands : (b : Block) (o : Op) (l : ℕ) → IsIn o (operation b) → IsIn l (closed_by o) → IsIn l (standing_at b)
        stands (Bind x o2 b) o l (inl f) j = in-left (closed_by o2) [] l (subst (λ z. IsIn l (closed_by z)) (sym f) j)
        stands (Tail o2) o l (inl f) j = in-left (closed_by o2) [] l (subst (λ z. IsIn l (closed_by z)) (sym f) j)
        stands (Bind x o2 b) o l (inr f) j = absurd f
        stands (Tail o2) o l (inr f) j = absurd f
        stands (CloseAll xs ls b) o l f j = absurd f

        entered-at : (l : ℕ) → IsIn l (of_each standing_at (all_blocks p)) → l < length (lambdas_of p) →
            (r : ProcTree) × IsEntered p (noted_items p) (slot_of q) (frame_size q) l r
        entered-at l j lt = is-entered (slot_of q) (frame_size q) l j lt

        by : (o : Op) → is_branch o ≡ false → Every (AtomKeeps p) (atoms o) → Every IsByte (atoms o) → IsInRange p o → IsShaped p o →
            length (passed_by o) ≤ 12 →
            ((l : ℕ) → IsIn l (closed_by o) → (r : ProcTree) × IsEntered p (noted_items p) (slot_of q) (frame_size q) l r) →
            OpOk p (noted_items p) (slot_of q) (frame_size q) o
        by (Atom a) f as' bs rg sh few cl = quote-ok p a as'.0 bs.0
        by (Global g r) f as' bs rg sh few cl = rg
        by (SetGlobal g a r) f as' bs rg sh few cl = (rg, quote-ok p a as'.0 bs.0)
        by (DefGlobal g a) f as' bs rg sh few cl = (rg, quote-ok p a as'.0 bs.0)
        by (PrimUse r ds t) f as' bs rg sh few cl = (let n = arity-small r in omega (arith, sh, n), quotes-ok p ds as' bs)
        by (NewCell a) f as' bs rg sh few cl = quote-ok p a as'.0 bs.0
        by (CellGet a r) f as' bs rg sh few cl = quote-ok p a as'.0 bs.0
        by (CellSet a b) f as' bs rg sh few cl = (quote-ok p a as'.0 bs.0, quote-ok p b as'.1.0 bs.1.0)
        by (Close l) f as' bs rg sh few cl = cl l (inl refl)
        by (Call g ds r) f as' bs rg sh few cl = (few, quote-ok p g as'.0 bs.0, quotes-ok p ds as'.1 bs.1)
        by (Direct l ds) f as' bs rg sh few cl = (few, quotes-ok p ds as' bs, passed (proc_of p.procs l) refl sh)
          where
            passed : (t : Option ProcTree) → proc_of p.procs l ≡ t → PassesAll p t ds →
                (r : ProcTree) × IsLifted p (noted_items p) (slot_of q) (frame_size q) l r × (length ds ≡ length r.params)
            passed None g h = absurd h
            passed (Some r) g h = (r, is-lifted (slot_of q) (frame_size q) l r g h.0, passes-length p r.params ds h.1)
        by (Apply g a r) f as' bs rg sh few cl = (quote-ok p g as'.0 bs.0, quote-ok p a as'.1.0 bs.1.0)
        by (Branch a b d) f as' bs rg sh few cl = absurd (true≢false f)

    test-ok : (a : Operand) (b d : Block) → IsIn (Branch a b d) (of_each operation (blocks q.body)) → QuoteOk p a
    test-ok a b d i =
        let r = op-block (blocks q.body) (Branch a b d) i in
        let k = block-keeps r.0 r.1 in
        let here = in-each operation (all_blocks p) r.0 (Branch a b d) (in-blocks-of p.procs q r.0 at r.1) r.2 in
        quote-ok p a
        (every-at (λ o. Every (AtomKeeps p) (atoms o)) (operation r.0) (Branch a b d) k.atoms_in_range r.2).0
        (every-at (λ o. Every IsByte (atoms o)) (operations p) (Branch a b d) fits.bytes here).0

    group-ok : (xs ls : List ℕ) (k : Block) → IsIn (CloseAll xs ls k) (blocks q.body) →
        (length xs ≡ length ls) × AllEntered p (noted_items p) (slot_of q) (frame_size q) ls
    group-ok xs ls k i =
        let h = block-keeps (CloseAll xs ls k) i in (
          h.same_long,
          all ls (λ l j. in-each standing_at (all_blocks p) (CloseAll xs ls k) l (in-blocks-of p.procs q (CloseAll xs ls k) at i) j)
              h.lambdas_in_range,
        )
      where
        all : (ms : List ℕ) → ((l : ℕ) → IsIn l ms → IsIn l (of_each standing_at (all_blocks p))) → Every (λ l. l < length (lambdas_of p)) ms →
            AllEntered p (noted_items p) (slot_of q) (frame_size q) ms
        all [] f g = tt
        all (m ∷ ms) f g = (is-entered (slot_of q) (frame_size q) m (f m (inl refl)) g.0, all ms (λ l j. f l (inr j)) g.1)

    proc-at : IsProc p q
    proc-at = is-proc p p.procs [] q refl at

    scope-first : Scope p (noted_items p) rules q proc-at op-ok test-ok group-ok q.body (q.captured ++ q.params) [] []
    scope-first = record {
      inside = λ e i. i;
      names = λ y i. ⊎_elim (λ j. in-left q.captured q.params y j) (λ j. in-right q.captured q.params y j) (named-in y i);
      waits = λ y i. absurd i;
      fresh = binders-none;
      apart = apart-right q.captured _ (apart-right q.params _ keeps.apart);
      owned = λ y i. subst (λ z. IsIn z (own_variables q)) (sym (own-origin y i)) (own-in y i);
      origins = λ y i. subst (λ z. IsIn z (q.captured ++ q.params)) (sym (own-origin y i)) i;
      dead = λ y i ne j. ne (own-origin y i);
      counted = λ z. omega arith;
      left = λ y i. absurd i;
    }

    -- the body of a proc keeps what the generator needs
    pub body-ok : BlockOk p (noted_items p) (slot_of q) (frame_size q) q.body []
    body-ok = block-ok p (noted_items p) rules q proc-at op-ok test-ok group-ok q.body (q.captured ++ q.params) [] [] scope-first

    settles-body : free p (settled q.body) ≡ free p q.body
    settles-body = settles p (noted_items p) (slot_of q) (frame_size q) q.body [] body-ok

    pub entering : Entering p (noted_items p) (slot_of q) (frame_size q) q
    entering = record {
      small = λ x i. index-below (own_variables q) (origin (blocks q.body) x)
          (subst (λ z. IsIn z (own_variables q)) (sym (own-origin x i)) (own-in x i));
      own = λ x y i j e.
          sym (own-origin x i)
          ∙ index-same (own_variables q) _ _ (subst (λ z. IsIn z (own_variables q)) (sym (own-origin x i)) (own-in x i))
          (subst (λ z. IsIn z (own_variables q)) (sym (own-origin y j)) (own-in y j)) e
          ∙ own-origin y j;
      apart = apart-swap q.params q.captured
          (apart-left (q.params ++ q.captured) _ (subst IsApart (sym (append_assoc q.params q.captured _)) keeps.apart));
      few = every-at (λ (r : ProcTree). length r.params ≤ 12) p.procs q fits.few_params at;
    }

    caught : Caught q.params q.captured (free p (settled q.body))
    caught = record {
      caught = λ x i.
          let n = in-tested (names_outside p q) x (every-at (λ y. is_in (names_outside p q) y ≡ true) q.captured x keeps.captures_named i) in (
            subst (IsIn x) (sym settles-body) (without-sub q.params (free p q.body) x n),
            (λ j. true≢false (sym (tested-in q.params x j) ∙ kept-apart q.params (free p q.body) x n)),
          );
    }

    lambda-ok : (n : ℕ) → proc_of p.procs n ≡ Some q → LambdaOk p (noted_items p) n q
    lambda-ok n e = record {
      there = e;
      entering = entering;
      names = record { names = named-in; settles = settles-body };
      caught = caught;
      lifted_alone = λ f. let a = keeps.lifted_alone f in (a.0, a.1);
      rest_has_name = keeps.rest_has_name;
      block = body-ok;
    }

    form-ok : (k : ℕ) → is_form q ≡ true → form_of (slice_get p.procs k) ≡ Some (InBlock q.body) → FormOk p (noted_items p) k q
    form-ok k e there = record {
      there = there;
      closed = settles-body ∙ nothing (free p q.body) (λ y i. names-nothing y (named-in y i));
      block = body-ok;
    }
      where
        names-nothing : (y : ℕ) → IsIn y q.captured ⊎ IsIn y q.params → ⊥
        names-nothing y (inl i) = subst (IsIn y) (keeps.form_alone e).0 i
        names-nothing y (inr i) = subst (IsIn y) (keeps.form_alone e).1 i

        nothing : (xs : List ℕ) → ((y : ℕ) → IsIn y xs → ⊥) → xs ≡ []
        nothing [] h = refl
        nothing (x ∷ xs) h = absurd (h x (inl refl))

  forms-ok : (front rest : List ProcTree) → forms_of p ≡ front ++ rest → FormsOk p (noted_items p) (length front) rest
  forms-ok front [] e = tt
  forms-ok front (q ∷ rest) e =
      let i : IsIn q (forms_of p) = subst (IsIn q) (sym e) (in-right front (q ∷ rest) q (inl refl)) in (
        form-ok q (form-in p rules q i) (length front) (passes is_form p.procs q i) (form-at p rules front rest q e),
        subst (λ n. FormsOk p (noted_items p) n rest) (length-last front q) (forms-ok (front ++ q ∷ []) rest (e ∙ sym (append_assoc front (q ∷ []) rest))),
      )

  lambdas-ok : (front rest : List ProcTree) → lambdas_of p ≡ front ++ rest → LambdasOk p (noted_items p) (length front) rest
  lambdas-ok front [] e = tt
  lambdas-ok front (q ∷ rest) e =
      let i : IsIn q (lambdas_of p) = subst (IsIn q) (sym e) (in-right front (q ∷ rest) q (inl refl)) in (
        lambda-ok q (lambda-in p rules q i) (length front) (lambda-at p rules front rest q e).0,
        subst (λ n. LambdasOk p (noted_items p) n rest) (length-last front q) (lambdas-ok (front ++ q ∷ []) rest (e ∙ sym (append_assoc front (q ∷ []) rest))),
      )

  pub program-ok : ProgramOk p
  program-ok = record { forms = forms-ok [] (forms_of p) refl; lambdas = lambdas-ok [] (lambdas_of p) refl; no_more = forms-end p rules }
