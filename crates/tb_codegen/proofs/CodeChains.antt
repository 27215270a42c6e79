-- The items of a block follow their notes, operation after operation.
use Rattle.std.proofs.Common.{◌≡◌, true≢false, ℕ, suc, ◌+◌, Bool, true, false, cond, List, [], ◌∷◌, ◌++◌, Option, Some, None, refl, sym, ◌∙◌, subst, inl, inr, append_assoc, lit≤}
use Rattle.tb_semantics.specs.Graph.{IsIn}
use Rattle.tb_semantics.proofs.ListLemmas.{in-left, in-right}
use Rattle.tb_core.specs.FreeVariables.{without}
use Rattle.tb_ir.specs.AnfTree.{Operand, Block, Bind, CloseAll, Tail, Op, Atom, Global, SetGlobal, DefGlobal, PrimUse, NewCell, CellGet, CellSet, Close, Call, Direct, Apply, Branch, AnfTree}
use Rattle.tb_ir.specs.AnfMachine.{free_op, free_of_atom}
use Rattle.tb_mac.specs.declared.code.Instr.TheVariants as I
use Rattle.tb_codegen.specs.Notes.{Slot, Variable, Entry, Stands, Waiting, ToCaller, ToTop, Then, Point, AtBlock, AtValue, Noted, Mark, Does}
use Rattle.tb_codegen.specs.Operations.{Body, block_map, value_map, here, loads, loaded, operands, first_register, is_call, returning, leaving, evaluated, simple}
use Rattle.tb_codegen.specs.Generate.{captured_in, settled, block_note, keep, given, last, passing, passed, labels_in, labels_of, code_block, code_bound, code_last, group}
use Rattle.tb_codegen.proofs.Changes.{OpAt, at_bind, at_tail, Under, same, From, frame_then, frame_top}
use Rattle.tb_codegen.proofs.Ok.{ok_branch, ok_jump, free}
use Rattle.tb_codegen.proofs.Chains.{target, Chain, c_end, c_does, c_mark, c_dead, chain-on}
use Rattle.tb_codegen.proofs.Maps.{Named, here_named, further}
use Rattle.tb_codegen.proofs.OperationChains.{OpOk, body, evaluated-chain, leaving-chain, loaded-chain, names-stand}
use Rattle.tb_codegen.proofs.BlockChains.{ArmsOk, BlockOk, HomeOk, Stored, WaitOk, Within, arm-from, empties, end_of, given-chain, keep-chain, settles, wait-more}
use Rattle.tb_codegen.proofs.GroupChains.{group-chain}

-- an operation that is no branch
abbrev pub is_branch : Op → Bool
is_branch (Branch a b d) = true
is_branch op = false

module _ (p : AnfTree) (all : List Noted) (home : ℕ → ℕ) (size : ℕ) where
  abbrev c : Body
  c = body p all home size

  pub other-ok : (op : Op) (ws : List ℕ) → is_branch op ≡ false → ArmsOk p all home size op ws → OpOk p all home size op
  other-ok (Branch a b d) ws e w = absurd (true≢false e)
  other-ok (Atom a) ws e w = w
  other-ok (Global g q) ws e w = w
  other-ok (SetGlobal g a q) ws e w = w
  other-ok (DefGlobal g a) ws e w = w
  other-ok (PrimUse r ds q) ws e w = w
  other-ok (NewCell a) ws e w = w
  other-ok (CellGet a q) ws e w = w
  other-ok (CellSet a b) ws e w = w
  other-ok (Close m) ws e w = w
  other-ok (Call f ds q) ws e w = w
  other-ok (Direct m ds) ws e w = w
  other-ok (Apply f a q) ws e w = w

  -- the code of an operation that is no branch
  abbrev pub plain_bound : Op → ℕ → Block → Waiting → ℕ → List Noted
  plain_bound op x k js l =
      evaluated c op (AtBlock (Bind x op k) js) (Then x k l js) l (block_map c (Bind x op k) js) ++ keep c x (Then x k l js)

  pub bound-plain : (op : Op) (x : ℕ) (k : Block) (js : Waiting) (l : ℕ) → is_branch op ≡ false → code_bound c op x k js l ≡ plain_bound op x k js l
  unfolding code_bound
  bound-plain (Branch a b d) x k js l e = absurd (true≢false e)
  bound-plain (Atom a) x k js l e = refl
  bound-plain (Global g q) x k js l e = refl
  bound-plain (SetGlobal g a q) x k js l e = refl
  bound-plain (DefGlobal g a) x k js l e = refl
  bound-plain (PrimUse r ds q) x k js l e = refl
  bound-plain (NewCell a) x k js l e = refl
  bound-plain (CellGet a q) x k js l e = refl
  bound-plain (CellSet a b) x k js l e = refl
  bound-plain (Close m) x k js l e = refl
  bound-plain (Call f ds q) x k js l e = refl
  bound-plain (Direct m ds) x k js l e = refl
  bound-plain (Apply f a q) x k js l e = refl

  pub last-plain : (op : Op) (js : Waiting) (l : ℕ) → is_branch op ≡ false → code_last c op js l ≡ last c op js l
  unfolding code_last
  last-plain (Branch a b d) js l e = absurd (true≢false e)
  last-plain (Atom a) js l e = refl
  last-plain (Global g q) js l e = refl
  last-plain (SetGlobal g a q) js l e = refl
  last-plain (DefGlobal g a) js l e = refl
  last-plain (PrimUse r ds q) js l e = refl
  last-plain (NewCell a) js l e = refl
  last-plain (CellGet a q) js l e = refl
  last-plain (CellSet a b) js l e = refl
  last-plain (Close m) js l e = refl
  last-plain (Call f ds q) js l e = refl
  last-plain (Direct m ds) js l e = refl
  last-plain (Apply f a q) js l e = refl

  -- the label behind a call is among its items
  call-mark : (op : Op) (pt : Point) (gs : Waiting) (l : ℕ) (es : List Entry) → is_call op ≡ true →
      IsIn (Mark l (here c (AtValue gs) (value_map c gs))) (evaluated c op pt gs l es)
  call-mark op pt gs l es e =
      subst (λ b. IsIn (Mark l (here c (AtValue gs) (value_map c gs))) (cond b (returning c op pt gs l es) (simple c op pt gs es))) (sym e)
      (in-right (loads c pt (first_register op) (operands op) es) _ _ (inr (inr (inl refl))))

  abbrev Named-in : Waiting → List ℕ → Type 0
  Named-in js ws = (e y : ℕ) → Named c js e y → IsIn y ws

  named-then : (x l : ℕ) (k : Block) (js : Waiting) (ws : List ℕ) → Named-in js ws → Named-in (Then x k l js) (without (x ∷ []) (free p k) ++ ws)
  named-then x l k js ws h e y (here_named i) = in-left (without (x ∷ []) (free p k)) ws y i
  named-then x l k js ws h e y (further n) = in-right (without (x ∷ []) (free p k)) ws y (h _ y n)

  stored-of : (x : ℕ) (k : Block) (js : Waiting) (ws : List ℕ) → HomeOk p all home size x (without (x ∷ []) (free p k) ++ ws) →
      Named-in js ws → BlockOk p all home size k ws → Stored p all home size x k js
  stored-of x k js ws h named w = record {
    small = h.small;
    apart = λ y i. h.apart y (in-left _ ws y i);
    waits = λ e y n. h.apart y (in-right (without (x ∷ []) (free p k)) ws y (named e y n));
    settles = settles p all home size k ws w;
    empties = empties p all home size k ws w;
  }

  -- an operation in tail position that is no branch
  last-chain : (rest : List Noted) (op : Op) (gs : Waiting) (l : ℕ) → OpOk p all home size op → WaitOk p all home size rest gs →
      Within p all home size (last c op gs l) →
      Chain p all rest (Some (here c (AtBlock (Tail op) gs) (block_map c (Tail op) gs))) (last c op gs l) (end_of p all home size gs)
  last-chain rest op ToCaller l w h sub = by (is_call op) refl sub
    where
      by : (b : Bool) → is_call op ≡ b →
          Within p all home size (cond b (leaving c op (AtBlock (Tail op) ToCaller) (block_map c (Tail op) ToCaller))
          (evaluated c op (AtBlock (Tail op) ToCaller) ToCaller l (block_map c (Tail op) ToCaller) ++ given c ToCaller)) →
          Chain p all rest (Some (here c (AtBlock (Tail op) ToCaller) (block_map c (Tail op) ToCaller)))
          (cond b (leaving c op (AtBlock (Tail op) ToCaller) (block_map c (Tail op) ToCaller))
          (evaluated c op (AtBlock (Tail op) ToCaller) ToCaller l (block_map c (Tail op) ToCaller) ++ given c ToCaller)) None
      by true e s = leaving-chain p all home size rest op (Tail op) None at_tail w e
      by false e s =
          chain-on p all rest (given c ToCaller) _ _ _ _
          (evaluated-chain p all home size (given c ToCaller ++ rest) op (Tail op) ToCaller ToCaller None l at_tail w
          (λ t. absurd (true≢false (sym t ∙ e))) (λ t. absurd (true≢false (sym t ∙ e))))
          (given-chain p all home size rest ToCaller tt)
  last-chain rest op (ToTop k) l w h sub =
      chain-on p all rest (given c (ToTop k)) _ _ _ _
      (evaluated-chain p all home size (given c (ToTop k) ++ rest) op (Tail op) (ToTop k) (ToTop k) None l at_tail w (λ t. frame_top k)
      (λ t. sub _ (in-left _ _ _ (call-mark op _ (ToTop k) l _ t))))
      (given-chain p all home size rest (ToTop k) tt)
  last-chain rest op (Then x b m js) l w h sub =
      chain-on p all rest (given c (Then x b m js)) _ _ _ _
      (evaluated-chain p all home size (given c (Then x b m js) ++ rest) op (Tail op) (Then x b m js) (Then x b m js) None l at_tail w
      (λ t. frame_then x b m js) (λ t. sub _ (in-left _ _ _ (call-mark op _ (Then x b m js) l _ t))))
      (given-chain p all home size rest (Then x b m js) h)

  -- behind the first arm of a branch in tail position, and behind the second
  passing-chain : (rest : List Noted) (gs : Waiting) (l : ℕ) (mid : List Noted) → Chain p all ((mid ++ passed gs l) ++ rest)
      (end_of p all home size gs) (passing gs l) None
  passing-chain rest ToCaller l mid = c_end
  passing-chain rest (ToTop k) l mid =
      c_does (ok_jump (target (in-left (mid ++ passed (ToTop k) l) rest _ (in-right mid _ _ (inl refl)))) (record { from = λ q s i. (s, i, same s) })) c_end
  passing-chain rest (Then x b m js) l mid = c_end

  passed-chain : (rest : List Noted) (gs : Waiting) (l : ℕ) → Chain p all rest (end_of p all home size gs) (passed gs l) (end_of p all home size gs)
  passed-chain rest ToCaller l = c_end
  passed-chain rest (ToTop k) l = c_mark c_end
  passed-chain rest (Then x b m js) l = c_end

  -- the variables of an arm stand at the branch
  arm-names : (a : Operand) (b d : Block) (y : ℕ) → IsIn y (free p b) → IsIn y (free_op (captured_in p) (Branch a b d))
  arm-names a b d y i = in-right (free_of_atom a) _ y (in-left (free p b) _ y i)

  arm-names2 : (a : Operand) (b d : Block) (y : ℕ) → IsIn y (free p d) → IsIn y (free_op (captured_in p) (Branch a b d))
  arm-names2 a b d y i = in-right (free_of_atom a) _ y (in-right (free p b) _ y i)

  -- the test of a branch, whose arms are at their notes
  test-chain : (rest : List Noted) (a : Operand) (b d : Block) (blk : Block) (js gs : Waiting) (o : Option (List ℕ)) (l : ℕ) (ws : List ℕ) →
      OpAt (captured_in p) (Branch a b d) blk js gs o → ArmsOk p all home size (Branch a b d) ws →
      IsIn (Mark l (block_note c d gs)) all →
      Chain p all rest (Some (here c (AtBlock blk js) (block_map c blk js)))
      (loads c (AtBlock blk js) 1 (a ∷ []) (block_map c blk js) ++ (Does (I.Brf 1 l) (here c (AtBlock blk js) (loaded 1 (a ∷ []) (block_map c blk js))) None ∷ []))
      (Some (block_note c b gs))
  test-chain rest a b d blk js gs o l ws at w i =
      loaded-chain p all home size rest (Branch a b d) blk js gs o _ _ at (w.0, tt) (lit≤ tt)
      (c_does (ok_branch (empties p all home size b ws w.1.0) (empties p all home size d ws w.1.1) at (inl refl)
      (settled-from b gs w.1.0 (λ y j. names-stand p all home size (Branch a b d) blk js gs o at y (arm-names a b d y j)))
      (target i)
      (settled-from d gs w.1.1 (λ y j. names-stand p all home size (Branch a b d) blk js gs o at y (arm-names2 a b d y j)))) c_end)
    where
      settled-from : (e : Block) (hs : Waiting) → BlockOk p all home size e ws →
          ((y : ℕ) → IsIn y (free p e) → IsIn (Stands (Slot (home y)) (Variable 0 y)) (block_map c blk js)) →
          From (Under o (free p (settled e))) (block_map c (settled e) gs) (loaded 1 (a ∷ []) (block_map c blk js))
      settled-from e hs v st =
          arm-from p all home size (Branch a b d) (settled e) blk js gs o 1 (a ∷ []) at
          (λ y j. st y (subst (IsIn y) (settles p all home size e ws v) j))

  -- an operation that is no branch and is bound
  other-bound : (rest : List Noted) (op : Op) (x : ℕ) (k : Block) (js : Waiting) (l : ℕ) (ws : List ℕ) →
      HomeOk p all home size x (without (x ∷ []) (free p k) ++ ws) → is_branch op ≡ false → OpOk p all home size op →
      BlockOk p all home size k ws → Named-in js ws → Within p all home size (plain_bound op x k js l) →
      Chain p all rest (Some (here c (AtBlock (Bind x op k) js) (block_map c (Bind x op k) js))) (plain_bound op x k js l) (Some (block_note c k js))
  other-bound rest op x k js l ws hx e w wk named sub =
      chain-on p all rest (keep c x (Then x k l js)) _ _ _ _
      (evaluated-chain p all home size (keep c x (Then x k l js) ++ rest) op (Bind x op k) js (Then x k l js) (Some (without (x ∷ []) (free p k))) l
      (at_bind x k l) w (λ t. frame_then x k l js) (λ t. sub _ (in-left _ _ _ (call-mark op _ (Then x k l js) l _ t))))
      (keep-chain p all home size rest x k l js (stored-of x k js ws hx named wk))

  mutual
    unfolding code_block code_bound code_last

    -- a block's code, from its note to where it ends
    pub block-chain : (rest : List Noted) (b : Block) (js : Waiting) (l : ℕ) (ws : List ℕ) → BlockOk p all home size b ws → Named-in js ws →
        WaitOk p all home size rest js → Within p all home size (code_block c b js l) →
        Chain p all rest (Some (block_note c b js)) (code_block c b js l) (end_of p all home size js)
    block-chain rest (Bind x op k) js l ws w named h sub =
        chain-on p all rest (code_block c k js (l + labels_of op)) _ _ _ _
        (bound-chain (code_block c k js (l + labels_of op) ++ rest) op x k js l ws w.0 w.1.0 w.1.1 named
        (wait-more p all home size js _ rest h) (λ n i. sub n (in-left _ _ n i)))
        (block-chain rest k js (l + labels_of op) ws w.1.1 named h (λ n i. sub n (in-right (code_bound c op x k js l) _ n i)))
    block-chain rest (CloseAll xs ls k) js l ws w named h sub =
        chain-on p all rest (code_block c k js l) _ _ _ _
        (group-chain p all home size (code_block c k js l ++ rest) xs ls k js ws w.0 w.1 w.2 w.3 named (settles p all home size k ws w.4) (empties p all home size k ws w.4))
        (block-chain rest k js l ws w.4 named h (λ n i. sub n (in-right (group c xs ls k js) _ n i)))
    block-chain rest (Tail op) js l ws w named h sub = tail-chain rest op js l ws w named h sub

    bound-chain : (rest : List Noted) (op : Op) (x : ℕ) (k : Block) (js : Waiting) (l : ℕ) (ws : List ℕ) →
        HomeOk p all home size x (without (x ∷ []) (free p k) ++ ws) → ArmsOk p all home size op (without (x ∷ []) (free p k) ++ ws) →
        BlockOk p all home size k ws → Named-in js ws → WaitOk p all home size rest js → Within p all home size (code_bound c op x k js l) →
        Chain p all rest (Some (here c (AtBlock (Bind x op k) js) (block_map c (Bind x op k) js))) (code_bound c op x k js l) (Some (block_note c k js))
    bound-chain rest (Branch a b d) x k js l ws hx w wk named h sub =
        let arm = Then x k l js in
        let arm_ws = without (x ∷ []) (free p k) ++ ws in
        let second = Mark (suc l) (block_note c d arm) ∷ (code_block c d arm (l + 2 + labels_in b) ++ (Mark l (block_note c k js) ∷ [])) in
        let first = code_block c b arm (l + 2) in
        let brf = Does (I.Brf 1 (suc l)) (here c (AtBlock (Bind x (Branch a b d) k) js) (loaded 1 (a ∷ []) (block_map c (Bind x (Branch a b d) k) js))) None in
        let test = loads c (AtBlock (Bind x (Branch a b d) k) js) 1 (a ∷ []) (block_map c (Bind x (Branch a b d) k) js) in
        let st = stored-of x k js ws hx named wk in
        let in_rest = λ (n : Noted) (i : IsIn n (first ++ second)). sub n (in-right test (brf ∷ (first ++ second)) n (inr i)) in
        let in_second = λ (n : Noted) (i : IsIn n second). in_rest n (in-right first second n i) in
        subst (λ is. Chain p all rest (Some (here c (AtBlock (Bind x (Branch a b d) k) js) (block_map c (Bind x (Branch a b d) k) js))) is (Some (block_note c k js)))
        (append_assoc test (brf ∷ []) (first ++ second))
        (chain-on p all rest (code_block c b arm (l + 2) ++ second) _ _ _ _
        (test-chain ((code_block c b arm (l + 2) ++ second) ++ rest) a b d (Bind x (Branch a b d) k) js arm (Some (without (x ∷ []) (free p k))) (suc l) arm_ws
        (at_bind x k l) w (in_second _ (inl refl)))
        (chain-on p all rest second _ _ _ _
        (block-chain (second ++ rest) b arm (l + 2) arm_ws w.1.0 (named-then x l k js ws named)
        (st, (in-left second rest _ (inr (in-right (code_block c d arm (l + 2 + labels_in b)) (Mark l (block_note c k js) ∷ []) _ (inl refl))), wait-more p all home size js second rest h))
        (λ n i. in_rest n (in-left first second n i)))
        (c_dead
        (chain-on p all rest (Mark l (block_note c k js) ∷ []) _ _ _ _
        (block-chain ((Mark l (block_note c k js) ∷ []) ++ rest) d arm (l + 2 + labels_in b) arm_ws w.1.1 (named-then x l k js ws named)
        (st, (inl refl, wait-more p all home size js (Mark l (block_note c k js) ∷ []) rest h))
        (λ n i. in_second n (inr (in-left (code_block c d arm (l + 2 + labels_in b)) (Mark l (block_note c k js) ∷ []) n i))))
        (c_dead c_end)))))
    bound-chain rest (Atom a) x k js l ws hx w wk named h sub = other-bound rest (Atom a) x k js l ws hx refl w wk named sub
    bound-chain rest (Global g q) x k js l ws hx w wk named h sub = other-bound rest (Global g q) x k js l ws hx refl w wk named sub
    bound-chain rest (SetGlobal g a q) x k js l ws hx w wk named h sub = other-bound rest (SetGlobal g a q) x k js l ws hx refl w wk named sub
    bound-chain rest (DefGlobal g a) x k js l ws hx w wk named h sub = other-bound rest (DefGlobal g a) x k js l ws hx refl w wk named sub
    bound-chain rest (PrimUse r ds q) x k js l ws hx w wk named h sub = other-bound rest (PrimUse r ds q) x k js l ws hx refl w wk named sub
    bound-chain rest (NewCell a) x k js l ws hx w wk named h sub = other-bound rest (NewCell a) x k js l ws hx refl w wk named sub
    bound-chain rest (CellGet a q) x k js l ws hx w wk named h sub = other-bound rest (CellGet a q) x k js l ws hx refl w wk named sub
    bound-chain rest (CellSet a b) x k js l ws hx w wk named h sub = other-bound rest (CellSet a b) x k js l ws hx refl w wk named sub
    bound-chain rest (Close m) x k js l ws hx w wk named h sub = other-bound rest (Close m) x k js l ws hx refl w wk named sub
    bound-chain rest (Call f ds q) x k js l ws hx w wk named h sub = other-bound rest (Call f ds q) x k js l ws hx refl w wk named sub
    bound-chain rest (Direct m ds) x k js l ws hx w wk named h sub = other-bound rest (Direct m ds) x k js l ws hx refl w wk named sub
    bound-chain rest (Apply f a q) x k js l ws hx w wk named h sub = other-bound rest (Apply f a q) x k js l ws hx refl w wk named sub

    tail-chain : (rest : List Noted) (op : Op) (js : Waiting) (l : ℕ) (ws : List ℕ) → ArmsOk p all home size op ws → Named-in js ws →
        WaitOk p all home size rest js → Within p all home size (code_last c op js l) →
        Chain p all rest (Some (here c (AtBlock (Tail op) js) (block_map c (Tail op) js))) (code_last c op js l) (end_of p all home size js)
    tail-chain rest (Branch a b d) js l ws w named h sub =
        let after_second = code_block c d js (l + 2 + labels_in b) ++ passed js l in
        let second = Mark (suc l) (block_note c d js) ∷ after_second in
        let test = loads c (AtBlock (Tail (Branch a b d)) js) 1 (a ∷ []) (block_map c (Tail (Branch a b d)) js) in
        let first = code_block c b js (l + 2) in
        let brf = Does (I.Brf 1 (suc l)) (here c (AtBlock (Tail (Branch a b d)) js) (loaded 1 (a ∷ []) (block_map c (Tail (Branch a b d)) js))) None in
        let in_rest = λ (n : Noted) (i : IsIn n (first ++ (passing js l ++ second))).
        sub n (in-right test (brf ∷ (first ++ (passing js l ++ second))) n (inr i)) in
        let in_second = λ (n : Noted) (i : IsIn n second). in_rest n (in-right first (passing js l ++ second) n (in-right (passing js l) second n i)) in
        subst (λ is. Chain p all rest (Some (here c (AtBlock (Tail (Branch a b d)) js) (block_map c (Tail (Branch a b d)) js))) is (end_of p all home size js))
        (append_assoc test (brf ∷ []) (first ++ (passing js l ++ second)))
        (chain-on p all rest (code_block c b js (l + 2) ++ (passing js l ++ second)) _ _ _ _
        (test-chain ((code_block c b js (l + 2) ++ (passing js l ++ second)) ++ rest) a b d (Tail (Branch a b d)) js js None (suc l) ws
        at_tail w (in_second _ (inl refl)))
        (chain-on p all rest (passing js l ++ second) _ _ _ _
        (block-chain ((passing js l ++ second) ++ rest) b js (l + 2) ws w.1.0 named (wait-more p all home size js _ rest h)
        (λ n i. in_rest n (in-left first (passing js l ++ second) n i)))
        (chain-on p all rest second _ _ _ _
        (passing-chain rest js l (Mark (suc l) (block_note c d js) ∷ code_block c d js (l + 2 + labels_in b)))
        (c_dead
        (chain-on p all rest (passed js l) _ _ _ _
        (block-chain (passed js l ++ rest) d js (l + 2 + labels_in b) ws w.1.1 named (wait-more p all home size js (passed js l) rest h)
        (λ n i. in_second n (inr (in-left (code_block c d js (l + 2 + labels_in b)) (passed js l) n i))))
        (passed-chain rest js l))))))
    tail-chain rest (Atom a) js l ws w named h sub = last-chain rest (Atom a) js l w h sub
    tail-chain rest (Global g q) js l ws w named h sub = last-chain rest (Global g q) js l w h sub
    tail-chain rest (SetGlobal g a q) js l ws w named h sub = last-chain rest (SetGlobal g a q) js l w h sub
    tail-chain rest (DefGlobal g a) js l ws w named h sub = last-chain rest (DefGlobal g a) js l w h sub
    tail-chain rest (PrimUse r ds q) js l ws w named h sub = last-chain rest (PrimUse r ds q) js l w h sub
    tail-chain rest (NewCell a) js l ws w named h sub = last-chain rest (NewCell a) js l w h sub
    tail-chain rest (CellGet a q) js l ws w named h sub = last-chain rest (CellGet a q) js l w h sub
    tail-chain rest (CellSet a b) js l ws w named h sub = last-chain rest (CellSet a b) js l w h sub
    tail-chain rest (Close m) js l ws w named h sub = last-chain rest (Close m) js l w h sub
    tail-chain rest (Call f ds q) js l ws w named h sub = last-chain rest (Call f ds q) js l w h sub
    tail-chain rest (Direct m ds) js l ws w named h sub = last-chain rest (Direct m ds) js l w h sub
    tail-chain rest (Apply f a q) js l ws w named h sub = last-chain rest (Apply f a q) js l w h sub
