-- The blocks of a proc have slots of their own for what is named together.
use Rattle.std.proofs.Common.{◌≡◌, true≢false, ℕ, ◌≤◌, ◌+◌, ◌⊎◌, Bool, true, false, List, [], ◌∷◌, ◌++◌, length, refl, sym, ap, ◌∙◌, subst, inl, inr, ⊎_elim, append_assoc, arith}
use Rattle.std.proofs.lemmas.Bool.{cases_eq}
use Rattle.tb_semantics.specs.Graph.{IsApart, IsIn}
use Rattle.tb_semantics.proofs.ListLemmas.{in-left, in-right, in-cases}
use Rattle.tb_core.specs.FreeVariables.{is_in, of_lambdas, without}
use Rattle.tb_core.proofs.Members.{in-tested, in-without, without-sub}
use Rattle.tb_ir.specs.AnfTree.{Operand, Quote, Var, Block, Bind, CloseAll, Tail, Op, Atom, Global, SetGlobal, DefGlobal, PrimUse, NewCell, CellGet, CellSet, Close, Call, Direct, Apply, Branch, ProcTree, AnfTree}
use Rattle.tb_ir.specs.AnfMachine.{free_op, free_of_atom}
use Rattle.tb_ir.specs.AnfRules.{KeepsRules, MakesCell, ProcKeeps, binders, blocks, blocks_in, of_each, operation, plain_binders, standing_at, times_named}
use Rattle.tb_ir.specs.Rules.{times}
use Rattle.tb_codegen.specs.Generate.{captured_in}
use Rattle.tb_codegen.specs.Homes.{frame_size, made_from, origin, own_variables, slot_of}
use Rattle.tb_codegen.specs.Notes.{Noted}
use Rattle.tb_codegen.proofs.Ok.{free}
use Rattle.tb_codegen.proofs.OperationChains.{OpOk, QuoteOk}
use Rattle.tb_codegen.proofs.BlockChains.{AllEntered, ArmsOk, BlockOk, HomeOk, HomesOk, kept-other}
use Rattle.tb_codegen.proofs.CodeChains.{is_branch}
use Rattle.tb_codegen.proofs.EntryChains.{apart-left, apart-right}
use Rattle.tb_codegen.proofs.Homing.{index-below, index-same, origin-bound, origin-group}
use Rattle.tb_codegen.proofs.Namings.{IsProc, Uses, block-uses, by_lambda, by_operation, closed_within, each-append, every-at, in-each, in-proc, named-once, named-only, named_in_arms, named_within, times-append, times-arms, times-bind, times-in, times-tail}

module _ (p : AnfTree) (all : List Noted) (rules : KeepsRules p) (q : ProcTree) (at : IsProc p q)
    (ops : (op : Op) → IsIn op (of_each operation (blocks q.body)) → is_branch op ≡ false → OpOk p all (slot_of q) (frame_size q) op)
    (tests : (a : Operand) (b d : Block) → IsIn (Branch a b d) (of_each operation (blocks q.body)) → QuoteOk p a)
    (groups : (xs ls : List ℕ) (k : Block) → IsIn (CloseAll xs ls k) (blocks q.body) →
    (length xs ≡ length ls) × AllEntered p all (slot_of q) (frame_size q) ls) where
  abbrev B : List Block
  B = blocks q.body

  keeps : ProcKeeps p q
  keeps = every-at (ProcKeeps p) p.procs q rules.procs (in-proc p q at)

  binders-apart : IsApart (of_each binders B)
  binders-apart = apart-right q.captured _ (apart-right q.params _ keeps.apart)

  -- a variable that some other lambda names, so that it is captured
  abbrev Deep : ℕ → Type 0
  Deep y = (l : ℕ) × IsIn l (closed_within q.body) × IsIn y (captured_in p l)

  -- a block inside, with the variables in scope, those of blocks that wait, and what operations beside it name
  pub record Scope (b : Block) (S ws R : List ℕ) : Type 0 where
    pub inside : (e : Block) → IsIn e (blocks b) → IsIn e B
    pub names : (y : ℕ) → IsIn y (free p b) → IsIn y S
    pub waits : (y : ℕ) → IsIn y ws → IsIn y S
    pub fresh : (y : ℕ) → IsIn y S → IsIn y (of_each binders (blocks b)) → ⊥
    pub apart : IsApart (of_each binders (blocks b))
    pub owned : (y : ℕ) → IsIn y S → IsIn (origin B y) (own_variables q)
    pub origins : (y : ℕ) → IsIn y S → IsIn (origin B y) S
    pub dead : (y : ℕ) → IsIn y S → (origin B y ≡ y → ⊥) → IsIn (origin B y) (free p b ++ ws) → ⊥
    pub counted : (z : ℕ) → times z (named_within b) + times z R ≤ times z (named_within q.body)
    pub left : (y : ℕ) → IsIn y ws → (1 ≤ times y R) ⊎ Deep y

  closed-inside : (b : Block) → ((e : Block) → IsIn e (blocks b) → IsIn e B) → (l : ℕ) → IsIn l (closed_within b) → IsIn l (closed_within q.body)
  closed-inside b sub l i = each-sub (blocks b) (λ e j. sub e j) i
    where
      each-sub : (bs : List Block) → ((e : Block) → IsIn e bs → IsIn e B) → IsIn l (of_each standing_at bs) → IsIn l (closed_within q.body)
      each-sub [] h j = absurd j
      each-sub (e ∷ bs) h j =
          ⊎_elim (λ k. in-each standing_at B e l (h e (inl refl)) k) (λ k. each-sub bs (λ f m. h f (inr m)) k) (in-cases (standing_at e) _ l j)

  -- what an operation of a cell is made of is named by nothing else
  made-once : (z : ℕ) → IsIn (NewCell (Var z)) (of_each operation B) → (IsIn z (own_variables q)) × (times_named p z ≡ 1)
  made-once z i =
      let h = every-at (MakesCell p (q.params ++ of_each plain_binders B)) (of_each operation B) (NewCell (Var z)) keeps.makes_cells i in
      (own (in-tested (q.params ++ of_each plain_binders B) z h.0), h.1)
    where
      own : IsIn z (q.params ++ of_each plain_binders B) → IsIn z (own_variables q)
      own j = ⊎_elim (in-left q.params _ z) (λ k. in-right q.params _ z (in-right q.captured _ z k)) (in-cases q.params (of_each plain_binders B) z j)

  no-quote-cell : (c : Operand) → IsIn (NewCell c) (of_each operation B) → (z : ℕ) × (c ≡ Var z)
  no-quote-cell (Var z) i = (z, refl)
  no-quote-cell (Quote k) i =
      absurd (every-at (MakesCell p (q.params ++ of_each plain_binders B)) (of_each operation B) (NewCell (Quote k)) keeps.makes_cells i)

  once-only : (z : ℕ) → times_named p z ≡ 1 → 1 ≤ times z (named_within q.body) → Deep z → ⊥
  once-only z once here d = named-only p rules q z at once here d.0 d.1 d.2

  -- the variable of a new cell is not named behind it
  not-behind : (x z : ℕ) (k : Block) (S ws R : List ℕ) → Scope (Bind x (NewCell (Var z)) k) S ws R → IsIn z (free p k ++ ws) → ⊥
  not-behind x z k S ws R s i =
      let op_in = in-each operation B (Bind x (NewCell (Var z)) k) (NewCell (Var z)) (s.inside _ (inl refl)) (inl refl) in
      let once = (made-once z op_in).1 in
      let count = s.counted z in
      let total = named-once p q z at in
      let bind = times-bind z x (NewCell (Var z)) k in
      let one = times-in z (z ∷ []) (inl refl) in
      let here : 1 ≤ times z (named_within q.body) = omega (arith, count, bind, one) in
      ⊎_elim
      (λ j. by-use (block-uses p k z j) once count total bind one here)
      (λ j. ⊎_elim (λ h. omega (arith, count, total, bind, one, once, h)) (once-only z once here) (s.left z j))
      (in-cases (free p k) ws z i)
    where
      by-use : Uses p k z → times_named p z ≡ 1 → times z (named_within (Bind x (NewCell (Var z)) k)) + times z R ≤ times z (named_within q.body) →
          times z (named_within q.body) ≤ times_named p z →
          times z (named_within (Bind x (NewCell (Var z)) k)) ≡ times z (z ∷ []) + (times z [] + times z (named_within k)) →
          1 ≤ times z (z ∷ []) → 1 ≤ times z (named_within q.body) → ⊥
      by-use (by_operation u) once count total bind one here = omega (arith, count, total, bind, one, once, u)
      by-use (by_lambda l j u) once count total bind one here =
          once-only z once here (l, closed-inside (Bind x (NewCell (Var z)) k) s.inside l (in-right (standing_at (Bind x (NewCell (Var z)) k)) _ l j), u)

  -- an operation that makes no cell
  abbrev makes_cell : Op → Bool
  makes_cell (NewCell a) = true
  makes_cell op = false

  plain-origin : (x : ℕ) (op : Op) → makes_cell op ≡ false → made_from x op ≡ x
  plain-origin x (NewCell a) e = absurd (true≢false e)
  plain-origin x (Atom a) e = refl
  plain-origin x (Global g r) e = refl
  plain-origin x (SetGlobal g a r) e = refl
  plain-origin x (DefGlobal g a) e = refl
  plain-origin x (PrimUse r ds t) e = refl
  plain-origin x (CellGet a r) e = refl
  plain-origin x (CellSet a b) e = refl
  plain-origin x (Close l) e = refl
  plain-origin x (Call f ds r) e = refl
  plain-origin x (Direct l ds) e = refl
  plain-origin x (Apply f a r) e = refl
  plain-origin x (Branch a b d) e = refl

  plain-own : (x : ℕ) (op : Op) (k : Block) → makes_cell op ≡ false → IsIn (Bind x op k) B → IsIn x (own_variables q)
  plain-own x op k e i =
      in-right q.params _ x (in-right q.captured _ x (in-each plain_binders B (Bind x op k) x i (bound op e)))
    where
      bound : (o : Op) → makes_cell o ≡ false → IsIn x (plain_binders (Bind x o k))
      bound (NewCell a) f = absurd (true≢false f)
      bound (Atom a) f = inl refl
      bound (Global g r) f = inl refl
      bound (SetGlobal g a r) f = inl refl
      bound (DefGlobal g a) f = inl refl
      bound (PrimUse r ds t) f = inl refl
      bound (CellGet a r) f = inl refl
      bound (CellSet a b) f = inl refl
      bound (Close l) f = inl refl
      bound (Call g ds r) f = inl refl
      bound (Direct l ds) f = inl refl
      bound (Apply g a r) f = inl refl
      bound (Branch a b d) f = inl refl

  -- what a new variable has for its origin: itself, or the variable of a cell, which nothing behind names
  data Origin (x : ℕ) (k : Block) (S ws : List ℕ) : Type 0 where
    itself : origin B x ≡ x → IsIn x (own_variables q) → Origin x k S ws
    of_cell : (z : ℕ) → origin B x ≡ z → IsIn z (own_variables q) → IsIn z S → (IsIn z (free p k ++ ws) → ⊥) →
        ((y : ℕ) → IsIn y S → (origin B y ≡ y → ⊥) → origin B y ≡ z → ⊥) → Origin x k S ws

  origin-of : (x : ℕ) (op : Op) (k : Block) (S ws R : List ℕ) → Scope (Bind x op k) S ws R → Origin x k S ws
  origin-of x op k S ws R s = by (makes_cell op) refl
    where
      inside : IsIn (Bind x op k) B
      inside = s.inside _ (inl refl)

      at_cell : (a : Operand) → op ≡ NewCell a → (z : ℕ) → a ≡ Var z → Origin x k S ws
      at_cell a e z f =
          let same = e ∙ ap NewCell f in
          let t = subst (λ o. Scope (Bind x o k) S ws R) same s in
          let op_in = in-each operation B (Bind x (NewCell (Var z)) k) (NewCell (Var z)) (t.inside _ (inl refl)) (inl refl) in
          of_cell z (origin-bound B x op k inside binders-apart ∙ ap (made_from x) same) (made-once z op_in).0
          (t.names z (inl refl)) (not-behind x z k S ws R t)
          (λ y i ne g. t.dead y i ne (inl (sym g)))

      cell-of : (o : Op) → makes_cell o ≡ true → (a : Operand) × (o ≡ NewCell a)
      cell-of (NewCell a) f = (a, refl)
      cell-of (Atom a) f = absurd (true≢false (sym f))
      cell-of (Global g r) f = absurd (true≢false (sym f))
      cell-of (SetGlobal g a r) f = absurd (true≢false (sym f))
      cell-of (DefGlobal g a) f = absurd (true≢false (sym f))
      cell-of (PrimUse r ds t) f = absurd (true≢false (sym f))
      cell-of (CellGet a r) f = absurd (true≢false (sym f))
      cell-of (CellSet a b) f = absurd (true≢false (sym f))
      cell-of (Close l) f = absurd (true≢false (sym f))
      cell-of (Call g ds r) f = absurd (true≢false (sym f))
      cell-of (Direct l ds) f = absurd (true≢false (sym f))
      cell-of (Apply g a r) f = absurd (true≢false (sym f))
      cell-of (Branch a b d) f = absurd (true≢false (sym f))

      by : (c : Bool) → makes_cell op ≡ c → Origin x k S ws
      by false e = itself (origin-bound B x op k inside binders-apart ∙ plain-origin x op e) (plain-own x op k e inside)
      by true e =
          let c = cell-of op e in
          let n = no-quote-cell c.0 (in-each operation B (Bind x op k) (NewCell c.0) inside (inl c.1)) in
          at_cell c.0 c.1 n.0 n.1

  -- a new variable's slot is apart from those of the variables that are named behind it
  home-ok : (x : ℕ) (op : Op) (k : Block) (S ws R : List ℕ) → Scope (Bind x op k) S ws R →
      HomeOk p all (slot_of q) (frame_size q) x (without (x ∷ []) (free p k) ++ ws)
  home-ok x op k S ws R s = by (origin-of x op k S ws R s)
    where
      behind-in : (y : ℕ) → IsIn y (without (x ∷ []) (free p k) ++ ws) → IsIn y S
      behind-in y i =
          ⊎_elim (λ j. s.names y (in-right (free_op (captured_in p) op) _ y j)) (s.waits y) (in-cases (without (x ∷ []) (free p k)) ws y i)

      new-x : IsIn x S → ⊥
      new-x i = s.fresh x i (inl refl)

      same-origin : (y : ℕ) → IsIn (origin B x) (own_variables q) → IsIn y S → slot_of q x ≡ slot_of q y → origin B x ≡ origin B y
      same-origin y i j e = index-same (own_variables q) (origin B x) (origin B y) i (s.owned y j) e

      by : Origin x k S ws → HomeOk p all (slot_of q) (frame_size q) x (without (x ∷ []) (free p k) ++ ws)
      by (itself e i) = record {
        small = index-below (own_variables q) (origin B x) (subst (λ z. IsIn z (own_variables q)) (sym e) i);
        apart = λ y j f.
            let g = same-origin y (subst (λ z. IsIn z (own_variables q)) (sym e) i) (behind-in y j) f in
            new-x (subst (λ z. IsIn z S) (sym g ∙ e) (s.origins y (behind-in y j)));
      }
      by (of_cell z e i in_s nowhere apart_cells) = record {
        small = index-below (own_variables q) (origin B x) (subst (λ w. IsIn w (own_variables q)) (sym e) i);
        apart = λ y j f.
            let g = sym (same-origin y (subst (λ w. IsIn w (own_variables q)) (sym e) i) (behind-in y j) f) ∙ e in
            ⊎_elim
            (λ same. nowhere (subst (λ w. IsIn w (free p k ++ ws)) (sym same ∙ g) (named-behind y j)))
            (λ other. apart_cells y (behind-in y j) other g)
            (cases_eq (origin B y) y);
      }
        where
          named-behind : (y : ℕ) → IsIn y (without (x ∷ []) (free p k) ++ ws) → IsIn y (free p k ++ ws)
          named-behind y j = ⊎_elim (λ m. in-left (free p k) ws y (without-sub (x ∷ []) _ y m)) (in-right (free p k) ws y) (in-cases (without (x ∷ []) (free p k)) ws y j)

  -- the block behind an operation
  scope-behind : (x : ℕ) (op : Op) (k : Block) (S ws R : List ℕ) → Scope (Bind x op k) S ws R → Scope k (x ∷ S) ws R
  scope-behind x op k S ws R s = record {
    inside = λ e i. s.inside e (inr (in-right (blocks_in op) _ e i));
    names = λ y i. ⊎_elim
        (λ e. inl e)
        (λ ne. inr (s.names y (in-right (free_op (captured_in p) op) _ y (kept-other x y (free p k) i ne))))
        (cases_eq x y);
    waits = λ y i. inr (s.waits y i);
    fresh = λ y i j. ⊎_elim
        (λ e. s.apart.0 (subst (λ w. IsIn w (of_each binders (blocks_in op ++ blocks k))) (sym e) (behind y j)))
        (λ m. s.fresh y m (inr (behind y j)))
        i;
    apart = apart-right (of_each binders (blocks_in op)) _ (subst IsApart (each-append binders (blocks_in op) (blocks k)) s.apart.1);
    owned = λ y i. ⊎_elim (λ e. subst (λ w. IsIn (origin B w) (own_variables q)) e (own_x (origin-of x op k S ws R s))) (s.owned y) i;
    origins = λ y i. ⊎_elim (λ e. subst (λ w. IsIn (origin B w) (x ∷ S)) e (in_x (origin-of x op k S ws R s))) (λ m. inr (s.origins y m)) i;
    dead = λ y i ne j. ⊎_elim
        (λ e. dead_x (origin-of x op k S ws R s) (subst (λ w. origin B w ≡ w → ⊥) (sym e) ne) (subst (λ w. IsIn (origin B w) (free p k ++ ws)) (sym e) j))
        (λ m. s.dead y m ne (⊎_elim
        (λ n. in-left (free p (Bind x op k)) ws _ (in-right (free_op (captured_in p) op) _ _ (kept-other x _ (free p k) n
        (λ e. s.fresh x (subst (λ w. IsIn w S) (sym e) (s.origins y m)) (inl refl)))))
        (in-right (free p (Bind x op k)) ws _)
        (in-cases (free p k) ws _ j)))
        i;
    counted = λ z. let c = s.counted z in let t = times-bind z x op k in omega (arith, c, t);
    left = s.left;
  }
    where
      behind : (y : ℕ) → IsIn y (of_each binders (blocks k)) → IsIn y (of_each binders (blocks_in op ++ blocks k))
      behind y j = subst (IsIn y) (sym (each-append binders (blocks_in op) (blocks k))) (in-right (of_each binders (blocks_in op)) _ y j)

      own_x : Origin x k S ws → IsIn (origin B x) (own_variables q)
      own_x (itself e i) = subst (λ w. IsIn w (own_variables q)) (sym e) i
      own_x (of_cell z e i in_s n a) = subst (λ w. IsIn w (own_variables q)) (sym e) i

      in_x : Origin x k S ws → IsIn (origin B x) (x ∷ S)
      in_x (itself e i) = inl (sym e)
      in_x (of_cell z e i in_s n a) = inr (subst (λ w. IsIn w S) (sym e) in_s)

      dead_x : Origin x k S ws → (origin B x ≡ x → ⊥) → IsIn (origin B x) (free p k ++ ws) → ⊥
      dead_x (itself e i) ne j = ne e
      dead_x (of_cell z e i in_s n a) ne j = n (subst (λ w. IsIn w (free p k ++ ws)) e j)

  -- the variables that a block behind another names are named, or captured by a lambda
  behind-left : (k : Block) (R : List ℕ) (y : ℕ) → ((l : ℕ) → IsIn l (closed_within k) → IsIn l (closed_within q.body)) → Uses p k y →
      (1 ≤ times y (named_within k ++ R)) ⊎ Deep y
  behind-left k R y sub (by_operation h) = inl (let t = times-append y (named_within k) R in omega (arith, t, h))
  behind-left k R y sub (by_lambda l i j) = inr (l, sub l i, j)

  left-more : (k : Block) (R : List ℕ) (y : ℕ) → (1 ≤ times y R) ⊎ Deep y → (1 ≤ times y (named_within k ++ R)) ⊎ Deep y
  left-more k R y (inl h) = inl (let t = times-append y (named_within k) R in omega (arith, t, h))
  left-more k R y (inr d) = inr d

  -- an arm of a branch: one of its two blocks
  record IsArm (a : Operand) (b d e : Block) : Type 0 where
    within : (f : Block) → IsIn f (blocks e) → IsIn f (blocks b ++ blocks d)
    names_in : (y : ℕ) → IsIn y (free p e) → IsIn y (free_op (captured_in p) (Branch a b d))
    bound_in : (y : ℕ) → IsIn y (of_each binders (blocks e)) → IsIn y (of_each binders (blocks b ++ blocks d))
    own_apart : IsApart (of_each binders (blocks b ++ blocks d)) → IsApart (of_each binders (blocks e))
    fewer : (z : ℕ) → times z (named_within e) ≤ times z (named_in_arms (Branch a b d))

  first-arm : (a : Operand) (b d : Block) → IsArm a b d b
  first-arm a b d = record {
    within = λ f i. in-left (blocks b) (blocks d) f i;
    names_in = λ y i. in-right (free_of_atom a) _ y (in-left (free p b) _ y i);
    bound_in = λ y i. subst (IsIn y) (sym (each-append binders (blocks b) (blocks d))) (in-left (of_each binders (blocks b)) _ y i);
    own_apart = λ h. apart-left (of_each binders (blocks b)) _ (subst IsApart (each-append binders (blocks b) (blocks d)) h);
    fewer = λ z. let t = times-arms z a b d in omega (arith, t);
  }

  second-arm : (a : Operand) (b d : Block) → IsArm a b d d
  second-arm a b d = record {
    within = λ f i. in-right (blocks b) (blocks d) f i;
    names_in = λ y i. in-right (free_of_atom a) _ y (in-right (free p b) _ y i);
    bound_in = λ y i. subst (IsIn y) (sym (each-append binders (blocks b) (blocks d))) (in-right (of_each binders (blocks b)) _ y i);
    own_apart = λ h. apart-right (of_each binders (blocks b)) _ (subst IsApart (each-append binders (blocks b) (blocks d)) h);
    fewer = λ z. let t = times-arms z a b d in omega (arith, t);
  }

  scope-arm : (x : ℕ) (a : Operand) (b d k e : Block) (S ws R : List ℕ) → IsArm a b d e → Scope (Bind x (Branch a b d) k) S ws R →
      Scope e S (without (x ∷ []) (free p k) ++ ws) (named_within k ++ R)
  scope-arm x a b d k e S ws R arm s = record {
    inside = λ f i. s.inside f (inr (in-left (blocks b ++ blocks d) _ f (arm.within f i)));
    names = λ y i. s.names y (in-left (free_op (captured_in p) (Branch a b d)) _ y (arm.names_in y i));
    waits = λ y i. ⊎_elim
        (λ j. s.names y (in-right (free_op (captured_in p) (Branch a b d)) _ y j)) (s.waits y) (in-cases (without (x ∷ []) (free p k)) ws y i);
    fresh = λ y i j. s.fresh y i (inr (binders_in y (arm.bound_in y j)));
    apart = arm.own_apart (apart-left (of_each binders (blocks b ++ blocks d)) _ (subst IsApart (each-append binders (blocks b ++ blocks d) (blocks k)) s.apart.1));
    owned = s.owned;
    origins = s.origins;
    dead = λ y i ne j. s.dead y i ne (⊎_elim
        (λ m. in-left (free p (Bind x (Branch a b d) k)) ws _ (in-left (free_op (captured_in p) (Branch a b d)) _ _ (arm.names_in _ m)))
        (λ m. ⊎_elim
        (λ n. in-left (free p (Bind x (Branch a b d) k)) ws _ (in-right (free_op (captured_in p) (Branch a b d)) _ _ n))
        (in-right (free p (Bind x (Branch a b d) k)) ws _)
        (in-cases (without (x ∷ []) (free p k)) ws _ m))
        (in-cases (free p e) _ _ j));
    counted = λ z. let c = s.counted z in let t = times-bind z x (Branch a b d) k in let f = arm.fewer z in
        let g = times-append z (named_within k) R in omega (arith, c, t, f, g);
    left = λ y i. ⊎_elim
        (λ j. behind-left k R y (λ l m. closed-inside (Bind x (Branch a b d) k) s.inside l (closed_behind l m)) (block-uses p k y (without-sub (x ∷ []) _ y j)))
        (λ j. left-more k R y (s.left y j))
        (in-cases (without (x ∷ []) (free p k)) ws y i);
  }
    where
      binders_in : (y : ℕ) → IsIn y (of_each binders (blocks b ++ blocks d)) → IsIn y (of_each binders ((blocks b ++ blocks d) ++ blocks k))
      binders_in y i = subst (IsIn y) (sym (each-append binders (blocks b ++ blocks d) (blocks k))) (in-left (of_each binders (blocks b ++ blocks d)) _ y i)

      closed_behind : (l : ℕ) → IsIn l (closed_within k) → IsIn l (closed_within (Bind x (Branch a b d) k))
      closed_behind l m =
          subst (IsIn l) (sym (each-append standing_at (blocks b ++ blocks d) (blocks k))) (in-right (of_each standing_at (blocks b ++ blocks d)) _ l m)

  scope-tail : (a : Operand) (b d e : Block) (S ws R : List ℕ) → IsArm a b d e → Scope (Tail (Branch a b d)) S ws R → Scope e S ws R
  scope-tail a b d e S ws R arm s = record {
    inside = λ f i. s.inside f (inr (arm.within f i));
    names = λ y i. s.names y (arm.names_in y i);
    waits = s.waits;
    fresh = λ y i j. s.fresh y i (arm.bound_in y j);
    apart = arm.own_apart s.apart;
    owned = s.owned;
    origins = s.origins;
    dead = λ y i ne j. s.dead y i ne (⊎_elim
        (λ m. in-left (free p (Tail (Branch a b d))) ws _ (arm.names_in _ m))
        (in-right (free p (Tail (Branch a b d))) ws _)
        (in-cases (free p e) ws _ j));
    counted = λ z. let c = s.counted z in let t = times-tail z (Branch a b d) in let f = arm.fewer z in omega (arith, c, t, f);
    left = s.left;
  }

  -- the block behind procedures that are made together
  group-origin : (xs ls : List ℕ) (k : Block) (S ws R : List ℕ) → Scope (CloseAll xs ls k) S ws R → (x : ℕ) → IsIn x xs →
      (origin B x ≡ x) × IsIn x (own_variables q)
  group-origin xs ls k S ws R s x i =
      let inside = s.inside _ (inl refl) in (
        origin-group B x xs ls k inside i binders-apart,
        in-right q.params _ x (in-right q.captured _ x (in-each plain_binders B (CloseAll xs ls k) x inside i)),
      )

  scope-group : (xs ls : List ℕ) (k : Block) (S ws R : List ℕ) → Scope (CloseAll xs ls k) S ws R → Scope k (xs ++ S) ws R
  scope-group xs ls k S ws R s = record {
    inside = λ e i. s.inside e (inr i);
    names = λ y i. by y (is_in xs y) refl i;
    waits = λ y i. in-right xs S y (s.waits y i);
    fresh = λ y i j. ⊎_elim
        (λ m. apart-both xs (of_each binders (blocks k)) y s.apart j m)
        (λ m. s.fresh y m (in-right xs _ y j))
        (in-cases xs S y i);
    apart = apart-right xs _ s.apart;
    owned = λ y i. ⊎_elim
        (λ m. let g = group-origin xs ls k S ws R s y m in subst (λ w. IsIn w (own_variables q)) (sym g.0) g.1)
        (s.owned y) (in-cases xs S y i);
    origins = λ y i. ⊎_elim
        (λ m. let g = group-origin xs ls k S ws R s y m in subst (λ w. IsIn w (xs ++ S)) (sym g.0) i)
        (λ m. in-right xs S _ (s.origins y m)) (in-cases xs S y i);
    dead = λ y i ne j. ⊎_elim
        (λ m. ne (group-origin xs ls k S ws R s y m).0)
        (λ m. s.dead y m ne (⊎_elim
        (λ n. in-left (free p (CloseAll xs ls k)) ws _ (in-without xs _ _ (in-right (of_lambdas (captured_in p) ls) _ _ n) (not_bound _ (s.origins y m))))
        (in-right (free p (CloseAll xs ls k)) ws _)
        (in-cases (free p k) ws _ j)))
        (in-cases xs S y i);
    counted = s.counted;
    left = s.left;
  }
    where
      by : (y : ℕ) (c : Bool) → is_in xs y ≡ c → IsIn y (free p k) → IsIn y (xs ++ S)
      by y true e i = in-left xs S y (in-tested xs y e)
      by y false e i = in-right xs S y (s.names y (in-without xs _ y (in-right (of_lambdas (captured_in p) ls) _ y i) e))

      not_bound : (y : ℕ) → IsIn y S → is_in xs y ≡ false
      not_bound y i = tested (is_in xs y) refl
        where
          tested : (c : Bool) → is_in xs y ≡ c → c ≡ false
          tested false e = refl
          tested true e = absurd (s.fresh y i (in-left xs _ y (in-tested xs y e)))

      apart-both : (as' bs : List ℕ) (y : ℕ) → IsApart (as' ++ bs) → IsIn y bs → IsIn y as' → ⊥
      apart-both [] bs y g i j = j
      apart-both (a ∷ as') bs y g i (inl f) = g.0 (in-right as' bs a (subst (λ w. IsIn w bs) (sym f) i))
      apart-both (a ∷ as') bs y g i (inr j) = apart-both as' bs y g.1 i j

  group-homes : (xs ls : List ℕ) (k : Block) (S ws R : List ℕ) → Scope (CloseAll xs ls k) S ws R → (done ys : List ℕ) → xs ≡ done ++ ys →
      HomesOk p all (slot_of q) (frame_size q) done ys (free p (CloseAll xs ls k) ++ ws)
  group-homes xs ls k S ws R s done [] e = tt
  group-homes xs ls k S ws R s done (y ∷ ys) e = (
    record {
      small = index-below (own_variables q) (origin B y) (subst (λ w. IsIn w (own_variables q)) (sym own.0) own.1);
      apart = λ z i f. ⊎_elim
          (λ j. let g = group-origin xs ls k S ws R s z (subst (IsIn z) (sym e) (in-left done (y ∷ ys) z j)) in
          let same = index-same (own_variables q) (origin B y) (origin B z) (subst (λ w. IsIn w (own_variables q)) (sym own.0) own.1)
          (subst (λ w. IsIn w (own_variables q)) (sym g.0) g.1) f in
          parts done ys y (subst IsApart e (apart-left xs _ s.apart)) (subst (λ w. IsIn w done) (sym (sym own.0 ∙ same ∙ g.0)) j))
          (λ j. let in_s = scoped z j in
          let same = index-same (own_variables q) (origin B y) (origin B z) (subst (λ w. IsIn w (own_variables q)) (sym own.0) own.1) (s.owned z in_s) f in
          s.fresh y (subst (λ w. IsIn w S) (sym same ∙ own.0) (s.origins z in_s)) (in-left xs _ y in_y))
          (in-cases done (free p (CloseAll xs ls k) ++ ws) z i);
    },
    group-homes xs ls k S ws R s (done ++ y ∷ []) ys (e ∙ sym (append_assoc done (y ∷ []) ys)),
  )
    where
      in_y : IsIn y xs
      in_y = subst (IsIn y) (sym e) (in-right done (y ∷ ys) y (inl refl))

      own : (origin B y ≡ y) × IsIn y (own_variables q)
      own = group-origin xs ls k S ws R s y in_y

      scoped : (z : ℕ) → IsIn z (free p (CloseAll xs ls k) ++ ws) → IsIn z S
      scoped z j = ⊎_elim (s.names z) (s.waits z) (in-cases (free p (CloseAll xs ls k)) ws z j)

      parts : (as' bs : List ℕ) (x : ℕ) → IsApart (as' ++ x ∷ bs) → IsIn x as' → ⊥
      parts [] bs x h i = i
      parts (a ∷ as') bs x h (inl f) = h.0 (subst (λ w. IsIn w (as' ++ x ∷ bs)) (sym f) (in-right as' (x ∷ bs) x (inl refl)))
      parts (a ∷ as') bs x h (inr i) = parts as' bs x h.1 i

  -- an operation that is no branch
  plain-arms : (op : Op) (ws : List ℕ) → is_branch op ≡ false → OpOk p all (slot_of q) (frame_size q) op → ArmsOk p all (slot_of q) (frame_size q) op ws
  plain-arms (Branch a b d) ws e w = absurd (true≢false e)
  plain-arms (Atom a) ws e w = w
  plain-arms (Global g r) ws e w = w
  plain-arms (SetGlobal g a r) ws e w = w
  plain-arms (DefGlobal g a) ws e w = w
  plain-arms (PrimUse r ds t) ws e w = w
  plain-arms (NewCell a) ws e w = w
  plain-arms (CellGet a r) ws e w = w
  plain-arms (CellSet a b) ws e w = w
  plain-arms (Close l) ws e w = w
  plain-arms (Call f ds r) ws e w = w
  plain-arms (Direct l ds) ws e w = w
  plain-arms (Apply f a r) ws e w = w

  bound-plain : (x : ℕ) (op : Op) (k : Block) (S ws R : List ℕ) → Scope (Bind x op k) S ws R → is_branch op ≡ false →
      ArmsOk p all (slot_of q) (frame_size q) op (without (x ∷ []) (free p k) ++ ws)
  bound-plain x op k S ws R s e = plain-arms op _ e (ops op (in-each operation B (Bind x op k) op (s.inside _ (inl refl)) (inl refl)) e)

  tail-plain : (op : Op) (S ws R : List ℕ) → Scope (Tail op) S ws R → is_branch op ≡ false → ArmsOk p all (slot_of q) (frame_size q) op ws
  tail-plain op S ws R s e = plain-arms op ws e (ops op (in-each operation B (Tail op) op (s.inside _ (inl refl)) (inl refl)) e)

  mutual
    -- the blocks of the proc keep what the generator needs
    pub block-ok : (b : Block) (S ws R : List ℕ) → Scope b S ws R → BlockOk p all (slot_of q) (frame_size q) b ws
    block-ok (Bind x op k) S ws R s =
        (home-ok x op k S ws R s, (bound-ok x op k S ws R s, block-ok k (x ∷ S) ws R (scope-behind x op k S ws R s)))
    block-ok (CloseAll xs ls k) S ws R s =
        let g = groups xs ls k (s.inside _ (inl refl)) in
        (g.0, apart-left xs _ s.apart, g.1, group-homes xs ls k S ws R s [] xs refl, block-ok k (xs ++ S) ws R (scope-group xs ls k S ws R s))
    block-ok (Tail op) S ws R s = tail-ok op S ws R s

    bound-ok : (x : ℕ) (op : Op) (k : Block) (S ws R : List ℕ) → Scope (Bind x op k) S ws R →
        ArmsOk p all (slot_of q) (frame_size q) op (without (x ∷ []) (free p k) ++ ws)
    bound-ok x (Branch a b d) k S ws R s = (
      tests a b d (in-each operation B (Bind x (Branch a b d) k) (Branch a b d) (s.inside _ (inl refl)) (inl refl)),
      (block-ok b S _ _ (scope-arm x a b d k b S ws R (first-arm a b d) s), block-ok d S _ _ (scope-arm x a b d k d S ws R (second-arm a b d) s)),
    )
    bound-ok x (Atom a) k S ws R s = bound-plain x (Atom a) k S ws R s refl
    bound-ok x (Global g r) k S ws R s = bound-plain x (Global g r) k S ws R s refl
    bound-ok x (SetGlobal g a r) k S ws R s = bound-plain x (SetGlobal g a r) k S ws R s refl
    bound-ok x (DefGlobal g a) k S ws R s = bound-plain x (DefGlobal g a) k S ws R s refl
    bound-ok x (PrimUse r ds t) k S ws R s = bound-plain x (PrimUse r ds t) k S ws R s refl
    bound-ok x (NewCell a) k S ws R s = bound-plain x (NewCell a) k S ws R s refl
    bound-ok x (CellGet a r) k S ws R s = bound-plain x (CellGet a r) k S ws R s refl
    bound-ok x (CellSet a b) k S ws R s = bound-plain x (CellSet a b) k S ws R s refl
    bound-ok x (Close l) k S ws R s = bound-plain x (Close l) k S ws R s refl
    bound-ok x (Call f ds r) k S ws R s = bound-plain x (Call f ds r) k S ws R s refl
    bound-ok x (Direct l ds) k S ws R s = bound-plain x (Direct l ds) k S ws R s refl
    bound-ok x (Apply f a r) k S ws R s = bound-plain x (Apply f a r) k S ws R s refl

    tail-ok : (op : Op) (S ws R : List ℕ) → Scope (Tail op) S ws R → ArmsOk p all (slot_of q) (frame_size q) op ws
    tail-ok (Branch a b d) S ws R s = (
      tests a b d (in-each operation B (Tail (Branch a b d)) (Branch a b d) (s.inside _ (inl refl)) (inl refl)),
      (block-ok b S ws R (scope-tail a b d b S ws R (first-arm a b d) s), block-ok d S ws R (scope-tail a b d d S ws R (second-arm a b d) s)),
    )
    tail-ok (Atom a) S ws R s = tail-plain (Atom a) S ws R s refl
    tail-ok (Global g r) S ws R s = tail-plain (Global g r) S ws R s refl
    tail-ok (SetGlobal g a r) S ws R s = tail-plain (SetGlobal g a r) S ws R s refl
    tail-ok (DefGlobal g a) S ws R s = tail-plain (DefGlobal g a) S ws R s refl
    tail-ok (PrimUse r ds t) S ws R s = tail-plain (PrimUse r ds t) S ws R s refl
    tail-ok (NewCell a) S ws R s = tail-plain (NewCell a) S ws R s refl
    tail-ok (CellGet a r) S ws R s = tail-plain (CellGet a r) S ws R s refl
    tail-ok (CellSet a b) S ws R s = tail-plain (CellSet a b) S ws R s refl
    tail-ok (Close l) S ws R s = tail-plain (Close l) S ws R s refl
    tail-ok (Call f ds r) S ws R s = tail-plain (Call f ds r) S ws R s refl
    tail-ok (Direct l ds) S ws R s = tail-plain (Direct l ds) S ws R s refl
    tail-ok (Apply f a r) S ws R s = tail-plain (Apply f a r) S ws R s refl
