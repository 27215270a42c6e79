-- All items of a program have fields in their ranges, and no frame is larger than the program's width.
use Rattle.std.proofs.Common.{◌≡◌, ℕ, suc, ◌<◌, ◌≤◌, ◌+◌, ◌-◌, ◌⊎◌, Bool, true, false, cond, List, [], ◌∷◌, ◌++◌, length, length-append, Some, None, refl, sym, subst, inl, inr, lit≤, arith}
use Rattle.std.proofs.lemmas.List.{length-take}
use Rattle.tb_semantics.specs.Graph.{IsIn}
use Rattle.tb_semantics.proofs.ListLemmas.{in-left, in-right}
use Rattle.tb_core.specs.FreeVariables.{is_in}
use Rattle.tb_ir.specs.AnfTree.{Op, Atom, Global, SetGlobal, DefGlobal, PrimUse, NewCell, CellGet, CellSet, Close, Call, Direct, Apply, Branch, ProcTree, AnfTree}
use Rattle.tb_ir.specs.AnfRules.{IsShaped, KeepsRules, blocks, forms_of, lambdas_of, of_each, operation, plain_binders}
use Rattle.tb_ir.specs.AnfWidth.{width_of}
use Rattle.tb_mac.specs.declared.code.Instr.TheVariants as I
use Rattle.tb_codegen.specs.Fits.{Fits}
use Rattle.tb_codegen.specs.Homes.{frame_size, slot_of}
use Rattle.tb_codegen.specs.Notes.{Entry, ToCaller, ToTop, Point, AtValue, Inside, AtProc, AtArgs, AtLifted, Away, Here, Noted, Does}
use Rattle.tb_codegen.specs.Generate.{block_point, body_of, code_block, code_form, code_forms, code_lambda, code_lambdas, counting, entry, frame_made, labels_in, labels_within, noted_items, operands_map, stores_captured, stores_operands}
use Rattle.tb_codegen.specs.PlainCode.{entries}
use Rattle.tb_codegen.proofs.Ok.{free}
use Rattle.tb_codegen.proofs.Fields.{Arity, below-largest, block-of, captured-few, plain-within}
use Rattle.tb_codegen.proofs.Namings.{every-at}
use Rattle.tb_codegen.proofs.Procs.{form-in, lambda-in}
use Rattle.tb_codegen.proofs.Programs.{block-keeps, body-ok, entering, keeps, named-in, op-block}
use Rattle.tb_codegen.proofs.Ranges.{AllGood, BlockGood, Good, block-good, entries-length, good-append, store-good}

module _ (p : AnfTree) (rules : KeepsRules p) (fits : Fits p) (narrow : width_of p ≤ 1000) where
  abbrev w : ℕ
  w = width_of p

  module _ (q : ProcTree) (at : IsIn q p.procs) where
    -- a frame is within the width
    pub frame-narrow : frame_size q ≤ w
    frame-narrow =
        let plain = plain-within p (noted_items p) (slot_of q) (frame_size q) q.body [] (body-ok p rules fits q at) in
        let a = length-append q.params (q.captured ++ of_each plain_binders (blocks q.body)) in
        let b = length-append q.captured (of_each plain_binders (blocks q.body)) in
        let c = below-largest p.procs q at in
        omega (arith, plain, a, b, c)

    own-slot : (x : ℕ) → IsIn x q.captured ⊎ IsIn x q.params → slot_of q x < frame_size q
    own-slot x (inl i) = (entering p rules fits q at).small x (in-left q.captured q.params x i)
    own-slot x (inr i) = (entering p rules fits q at).small x (in-right q.captured q.params x i)

    arity-of : (op : Op) → IsShaped p op → Arity op
    arity-of (PrimUse r ds s) h = h
    arity-of (Atom a) h = tt
    arity-of (Global g s) h = tt
    arity-of (SetGlobal g a s) h = tt
    arity-of (DefGlobal g a) h = tt
    arity-of (NewCell a) h = tt
    arity-of (CellGet a s) h = tt
    arity-of (CellSet a b) h = tt
    arity-of (Close m) h = tt
    arity-of (Call f ds s) h = tt
    arity-of (Direct m ds) h = tt
    arity-of (Apply f a s) h = tt
    arity-of (Branch a b d) h = tt

    arities : (op : Op) → IsIn op (of_each operation (blocks q.body)) → Arity op
    arities op i =
        let r = op-block (blocks q.body) op i in
        arity-of op (every-at (IsShaped p) (operation r.0) op (block-keeps p rules fits q at r.0 r.1).shaped r.2)

    body-good : BlockGood p w narrow (slot_of q) (frame_size q) frame-narrow q.body
    body-good =
        block-of p w narrow (noted_items p) (slot_of q) (frame_size q) frame-narrow (captured-few p) q.body [] (body-ok p rules fits q at)
        (λ y i. own-slot y (named-in p rules fits q at y i)) arities

    small : frame_size q ≤ 1000
    small = let f = frame-narrow in omega (arith, f, narrow)

    form-good : (k l : ℕ) → AllGood p w narrow (code_form p k q l)
    form-good k l = (
      record { field_ok = small; map_ok = tt; place_ok = refl; small = frame-narrow; spares_first = tt },
      block-good p w narrow (slot_of q) (frame_size q) frame-narrow q.body (ToTop (suc k)) l body-good tt,
    )

    captured-good : (n : ℕ) (pt : Point) (es : List Entry) (j : ℕ) (xs done : List ℕ) → ((x : ℕ) → IsIn x xs → slot_of q x < frame_size q) →
        j + length xs ≤ 1000 → AllGood p w narrow (stores_captured (body_of p q) n pt es j xs done)
    captured-good n pt es j [] done h le = tt
    captured-good n pt es j (x ∷ xs) done h le = (
      record { field_ok = (lit≤ tt, lit≤ tt, omega (arith, le)); map_ok = small; place_ok = refl; small = omega arith; spares_first = tt },
      (
        store-good p w narrow (slot_of q) (frame_size q) frame-narrow 16 x _ (lit≤ tt) (lit≤ tt) (h x (inl refl)) small,
        captured-good n pt es (suc j) xs (x ∷ done) (λ y i. h y (inr i)) (omega (arith, le)),
      ),
    )

    operands-good : (pt : Point) (us : List ℕ) (a : ℕ) (ys done : List ℕ) → ((y : ℕ) → IsIn y ys → slot_of q y < frame_size q) → 1 ≤ a → a + length ys ≤ 13 →
        AllGood p w narrow (stores_operands (body_of p q) pt us a ys done)
    operands-good pt us a [] done h some le = tt
    operands-good pt us a (y ∷ ys) done h some le =
        by (is_in us y) _ _ _ (operands-good pt us (suc a) ys (y ∷ done) (λ z i. h z (inr i)) (omega arith) (omega (arith, le)))
        (operands-good pt us (suc a) ys done (λ z i. h z (inr i)) (omega arith) (omega (arith, le)))
      where
        by : (b : Bool) (es : List Entry) (is js : List Noted) → AllGood p w narrow is → AllGood p w narrow js →
            AllGood p w narrow (cond b (Does (I.Store a (slot_of q y)) (Inside pt (Here (frame_size q)) es) None ∷ is) js)
        by true es is js g k = (store-good p w narrow (slot_of q) (frame_size q) frame-narrow a y _ some (omega (arith, le)) (h y (inl refl)) small, g)
        by false es is js g k = k

    frame-good : (n : ℕ) → AllGood p w narrow (frame_made (body_of p q) n q.body q.params q.captured)
    frame-good n =
        let few = (entering p rules fits q at).few in
        let width = below-largest p.procs q at in (
          record { field_ok = small; map_ok = tt; place_ok = refl; small = frame-narrow; spares_first = tt },
          good-append p w narrow
              (stores_captured (body_of p q) n (block_point q.body ToCaller) (operands_map (free p q.body) 1 q.params) 0 q.captured [])
              (stores_operands (body_of p q) (block_point q.body ToCaller) (free p q.body) 1 q.params q.captured)
              (captured-good n _ _ 0 q.captured [] (λ x i. own-slot x (inl i)) (omega (arith, width, narrow)))
              (operands-good _ (free p q.body) 1 q.params q.captured (λ x i. own-slot x (inr i)) (lit≤ tt) (omega (arith, few))),
        )

    counting-good : (n : ℕ) (b : Bool) → q.rest ≡ b → Good p w narrow (counting b q.params) (AtArgs n) (Some q.place)
    counting-good n false e = let few = (entering p rules fits q at).few in record { field_ok = few; map_ok = tt; place_ok = refl; small = omega arith; spares_first = tt }
    counting-good n true e =
        let few = (entering p rules fits q at).few in
        let some = (keeps p rules fits q at).rest_has_name e in
        let t = length-take (length q.params - 1) q.params in
        record { field_ok = omega (arith, few, some, t); map_ok = tt; place_ok = refl; small = omega arith; spares_first = tt }

    lambda-good : (n l : ℕ) → n < length (lambdas_of p) → AllGood p w narrow (code_lambda p n q l)
    lambda-good n l lt =
        good-append p w narrow (entry (body_of p q) n q) (frame_made (body_of p q) n q.body q.params q.captured ++ code_block (body_of p q) q.body ToCaller l)
        (by q.lifted)
        (good-append p w narrow (frame_made (body_of p q) n q.body q.params q.captured) (code_block (body_of p q) q.body ToCaller l) (frame-good n)
        (block-good p w narrow (slot_of q) (frame_size q) frame-narrow q.body ToCaller l body-good tt))
      where
        among : n < length (entries 0 (lambdas_of p))
        among = subst (λ k. n < k) (sym (entries-length p w narrow)) lt

        by : (b : Bool) → AllGood p w narrow (cond b (Does (I.Proc n) (AtLifted n (operands_map (free p q.body) 1 q.params)) None ∷ [])
            (Does (I.Proc n) (AtProc n) None ∷ Does (counting q.rest q.params) (AtArgs n) (Some q.place) ∷ []))
        by true = (record { field_ok = among; map_ok = tt; place_ok = refl; small = omega arith; spares_first = tt }, tt)
        by false = (record { field_ok = among; map_ok = tt; place_ok = refl; small = omega arith; spares_first = tt }, (counting-good n q.rest refl, tt))

  forms-good : (k : ℕ) (qs : List ProcTree) (l : ℕ) → ((q : ProcTree) → IsIn q qs → IsIn q p.procs) → AllGood p w narrow (code_forms p k qs l)
  forms-good k [] l h = tt
  forms-good k (q ∷ qs) l h =
      good-append p w narrow (code_form p k q l) (code_forms p (suc k) qs (l + labels_in q.body)) (form-good q (h q (inl refl)) k l)
      (forms-good (suc k) qs (l + labels_in q.body) (λ r i. h r (inr i)))

  lambdas-good : (n : ℕ) (qs : List ProcTree) (l : ℕ) → ((q : ProcTree) → IsIn q qs → IsIn q p.procs) → n + length qs ≤ length (lambdas_of p) →
      AllGood p w narrow (code_lambdas p n qs l)
  lambdas-good n [] l h le = tt
  lambdas-good n (q ∷ qs) l h le =
      good-append p w narrow (code_lambda p n q l) (code_lambdas p (suc n) qs (l + labels_in q.body))
      (lambda-good q (h q (inl refl)) n l (omega (arith, le)))
      (lambdas-good (suc n) qs (l + labels_in q.body) (λ r i. h r (inr i)) (omega (arith, le)))

  pub all-good : AllGood p w narrow (noted_items p)
  all-good =
      let l = length (lambdas_of p) in
      let last = code_lambdas p 0 (lambdas_of p) (l + labels_within (forms_of p)) in
      good-append p w narrow (code_forms p 0 (forms_of p) l) (Does I.End (Inside (AtValue (ToTop (length (forms_of p)))) Away []) None ∷ last)
      (forms-good 0 (forms_of p) l (form-in p rules)) (
        record { field_ok = tt; map_ok = tt; place_ok = refl; small = omega arith; spares_first = tt },
        lambdas-good 0 (lambdas_of p) (l + labels_within (forms_of p)) (lambda-in p rules) (omega arith),
      )
