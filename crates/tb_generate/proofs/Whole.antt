-- The items of whole programs by lists of bits are those of the notes.
use Rattle.std.proofs.Common.{◌≡◌, refl, sym, ap, ◌∙◌, ℕ, zero, suc, ◌+◌, ◌||◌, Bool, true, false, cond, List, [], ◌∷◌, ◌++◌, append-nil, length, map, replicate, Some, None}
use Rattle.tb_core.specs.FreeVariables.{is_in}
use Rattle.tb_ir.specs.AnfTree.{ProcTree, AnfTree}
use Rattle.tb_ir.specs.AnfMachine.{free_block}
use Rattle.tb_ir.specs.AnfRules.{forms_of, lambdas_of}
use Rattle.tb_mac.specs.declared.code.Instr.{Instr}
use Rattle.tb_mac.specs.declared.code.Instr.TheVariants as I
use Rattle.tb_mac.specs.declared.item.Item.TheVariants.{Ins}
use Rattle.tb_codegen.specs.Notes.{Reg, Variable, Itself, Entry, Stands, ToCaller, ToTop, Point, AtValue, Away, Inside, Mark, Does, any, is_register, is_slot, item_of, register_bits, slot_bits, Note, AtProc, AtArgs, AtLifted}
use Rattle.tb_codegen.specs.Generate.{operands_map, itself_map, stores_captured, stores_operands, frame_made, block_point, counting, entry, body_of, code_block, code_lambda, code_form, code_forms, code_lambdas, labels_in, labels_within, noted_items}
use Rattle.tb_codegen.specs.Operations.{Body, result, variables, here}
use Rattle.tb_generate.specs.declared.waiting.Ending.TheVariants as ending
use Rattle.tb_generate.specs.calls.Bits.{no_registers, with_bit, with_slots, here_item, away_item}
use Rattle.tb_generate.specs.calls.Entries.{no_slots, parameter_bits, itself_bits, captured_items, parameter_items, frame_items, entry_items, entry_registers, lambda_items, form_items, forms_items, lambdas_items}
use Rattle.tb_generate.specs.calls.Programs.{procs_items}
use Rattle.tb_generate.proofs.Same.{reg_bits, same-registers, same-marks, with-register, number-is, here-is, away-is, both-are, next-is, slots-are, block-is}

any_middle : (f : Entry → Bool) (es fs : List Entry) (e : Entry) → any f (es ++ e ∷ fs) ≡ (f e || any f (es ++ fs))
any_middle f [] fs e = refl
any_middle f (d ∷ es) fs e = ap (λ b. f d || b) (any_middle f es fs e) ∙ by_test (f d) (f e)
  where
    by_test : (p q : Bool) → (p || (q || any f (es ++ fs))) ≡ (q || (p || any f (es ++ fs)))
    by_test true true = refl
    by_test true false = refl
    by_test false q = refl

any_turned : (f : Entry → Bool) (es fs : List Entry) → any f (es ++ fs) ≡ any f (fs ++ es)
any_turned f [] fs = ap (any f) (sym (append-nil fs))
any_turned f (e ∷ es) fs = ap (λ b. f e || b) (any_turned f es fs) ∙ sym (any_middle f fs es e)

-- the registers of parameters
parameters_are : (us : List ℕ) (a : ℕ) (ys : List ℕ) (es : List Entry) (rs : List Bool) → rs ≡ reg_bits es 0 17 →
    parameter_bits (is_in us) rs a ys ≡ reg_bits (operands_map us a ys ++ es) 0 17
parameters_are us a [] es rs e = e
parameters_are us a (y ∷ ys) es rs e =
    by_test (is_in us y)
    (parameters_are us (suc a) ys (Stands (Reg a) (Variable 0 y) ∷ es) (with_bit rs a) (ap (λ ts. with_bit ts a) e ∙ with-register (Variable 0 y) a es))
    (parameters_are us (suc a) ys es rs e)
  where
    by_test : (b : Bool) → parameter_bits (is_in us) (with_bit rs a) (suc a) ys ≡ reg_bits (operands_map us (suc a) ys ++ Stands (Reg a) (Variable 0 y) ∷ es) 0 17 →
        parameter_bits (is_in us) rs (suc a) ys ≡ reg_bits (operands_map us (suc a) ys ++ es) 0 17 →
        parameter_bits (is_in us) (cond b (with_bit rs a) rs) (suc a) ys
        ≡ reg_bits (cond b (Stands (Reg a) (Variable 0 y) ∷ operands_map us (suc a) ys) (operands_map us (suc a) ys) ++ es) 0 17
    by_test true h k =
        h ∙ same-registers (operands_map us (suc a) ys ++ Stands (Reg a) (Variable 0 y) ∷ es) (Stands (Reg a) (Variable 0 y) ∷ (operands_map us (suc a) ys ++ es)) 0 17
        (λ r. any_middle (is_register r) (operands_map us (suc a) ys) es (Stands (Reg a) (Variable 0 y)))
    by_test false h k = k

itself_are : (n : ℕ) (xs : List ℕ) (es : List Entry) (rs : List Bool) → rs ≡ reg_bits es 0 17 → itself_bits xs rs ≡ reg_bits (itself_map n xs ++ es) 0 17
itself_are n [] es rs e = e
itself_are n (x ∷ xs) es rs e = ap (λ ts. with_bit ts 0) e ∙ with-register (Itself n) 0 es

-- parameters are in no slot, and the procedure is in none
operands_slots : (us : List ℕ) (a : ℕ) (ys : List ℕ) (fs : List Entry) (h : ℕ) → any (is_slot h) (operands_map us a ys ++ fs) ≡ any (is_slot h) fs
operands_slots us a [] fs h = refl
operands_slots us a (y ∷ ys) fs h = by_test (is_in us y) (operands_slots us (suc a) ys fs h)
  where
    by_test : (b : Bool) → any (is_slot h) (operands_map us (suc a) ys ++ fs) ≡ any (is_slot h) fs →
        any (is_slot h) (cond b (Stands (Reg a) (Variable 0 y) ∷ operands_map us (suc a) ys) (operands_map us (suc a) ys) ++ fs) ≡ any (is_slot h) fs
    by_test true k = k
    by_test false k = k

itself_slots : (n : ℕ) (xs : List ℕ) (fs : List Entry) (h : ℕ) → any (is_slot h) (itself_map n xs ++ fs) ≡ any (is_slot h) fs
itself_slots n [] fs h = refl
itself_slots n (x ∷ xs) fs h = refl

entered : (n : ℕ) (es : List Entry) (rs : List Bool) → rs ≡ reg_bits es 0 17 → (i : Instr) → away_item i rs None ≡ Ins i (record { regs = register_bits es 17; slots = None }) None
entered n es rs e i = ap (λ ts. away_item i ts None) e ∙ ap (λ m. Ins i (record { regs = m; slots = None }) None) (number-is es)

module _ (c : Body) where
  no_variables : (d : ℕ) (xs : List ℕ) (es : List Entry) (r : ℕ) → any (is_register r) (es ++ variables c d xs) ≡ any (is_register r) es
  no_variables d xs [] r = alone xs
    where
      alone : (zs : List ℕ) → any (is_register r) (variables c d zs) ≡ false
      alone [] = refl
      alone (z ∷ zs) = alone zs
  no_variables d xs (e ∷ es) r = ap (λ b. is_register r e || b) (no_variables d xs es r)

  nothing_live : (x n : ℕ) → replicate n false ≡ slot_bits [] x n
  nothing_live x zero = refl
  nothing_live x (suc n) = ap (λ bs. false ∷ bs) (nothing_live (suc x) n)

  captured_are : (n : ℕ) (pt : Point) (us : List ℕ) (ps : List ℕ) (rs : List Bool) → rs ≡ reg_bits (operands_map us 1 ps) 0 17 → (j : ℕ) (xs done : List ℕ) (ss : List Bool) →
      ss ≡ slot_bits (variables c 0 done) 0 c.size → captured_items c rs ss j xs ≡ map item_of (stores_captured c n pt (operands_map us 1 ps) j xs done)
  captured_are n pt us ps rs e j [] done ss f = refl
  captured_are n pt us ps rs e j (x ∷ xs) done ss f =
      let es = operands_map us 1 ps in
      let all = es ++ variables c 0 done in
      let rs-are : rs ≡ reg_bits all 0 17 = e ∙ same-registers es all 0 17 (λ r. sym (no_variables 0 done es r)) in
      let ss-are : ss ≡ slot_bits all 0 c.size = f ∙ same-marks (variables c 0 done) all 0 c.size (λ h. sym (operands_slots us 1 ps (variables c 0 done) h)) in
      next-is _ _ _ _ (here-is c (I.Capt result 0 j) pt (itself_map n (x ∷ xs) ++ all) None (with_bit rs 0) ss (itself_are n (x ∷ xs) all rs rs-are)
      (ss-are ∙ same-marks all (itself_map n (x ∷ xs) ++ all) 0 c.size (λ h. refl)))
      (next-is _ _ _ _ (here-is c (I.Store result (c.home x)) pt (Stands (Reg result) (Variable 0 x) ∷ (itself_map n xs ++ all)) None (with_bit (itself_bits xs rs) result) ss
      (ap (λ ts. with_bit ts result) (itself_are n xs all rs rs-are) ∙ with-register (Variable 0 x) result (itself_map n xs ++ all))
      (ss-are ∙ same-marks all (Stands (Reg result) (Variable 0 x) ∷ (itself_map n xs ++ all)) 0 c.size (λ h. sym (itself_slots n xs all h))))
      (captured_are n pt us ps rs e (suc j) xs (x ∷ done) (with_slots c.home (x ∷ []) 0 ss) (slots-are c 0 (x ∷ []) (variables c 0 done) ss f)))

  stored_are : (pt : Point) (us : List ℕ) (a : ℕ) (ys done : List ℕ) (ss : List Bool) → ss ≡ slot_bits (variables c 0 done) 0 c.size →
      parameter_items c (is_in us) ss a ys ≡ map item_of (stores_operands c pt us a ys done)
  stored_are pt us a [] done ss f = refl
  stored_are pt us a (y ∷ ys) done ss f =
      let es = operands_map us a (y ∷ ys) in
      by_test (is_in us y)
      (here-is c (I.Store a (c.home y)) pt (es ++ variables c 0 done) None (parameter_bits (is_in us) no_registers a (y ∷ ys)) ss
      (parameters_are us a (y ∷ ys) [] no_registers refl ∙ ap (λ ts. reg_bits ts 0 17) (append-nil es) ∙ same-registers es (es ++ variables c 0 done) 0 17 (λ r. sym (no_variables 0 done es r)))
      (f ∙ same-marks (variables c 0 done) (es ++ variables c 0 done) 0 c.size (λ h. sym (operands_slots us a (y ∷ ys) (variables c 0 done) h))))
      (stored_are pt us (suc a) ys (y ∷ done) (with_slots c.home (y ∷ []) 0 ss) (slots-are c 0 (y ∷ []) (variables c 0 done) ss f))
      (stored_are pt us (suc a) ys done ss f)
    where
      by_test : (b : Bool) → here_item (I.Store a (c.home y)) (parameter_bits (is_in us) no_registers a (y ∷ ys)) ss None
          ≡ item_of (Does (I.Store a (c.home y)) (here c pt (operands_map us a (y ∷ ys) ++ variables c 0 done)) None) →
          parameter_items c (is_in us) (with_slots c.home (y ∷ []) 0 ss) (suc a) ys ≡ map item_of (stores_operands c pt us (suc a) ys (y ∷ done)) →
          parameter_items c (is_in us) ss (suc a) ys ≡ map item_of (stores_operands c pt us (suc a) ys done) →
          cond b (here_item (I.Store a (c.home y)) (parameter_bits (is_in us) no_registers a (y ∷ ys)) ss None ∷ []) [] ++
          parameter_items c (is_in us) (cond b (with_slots c.home (y ∷ []) 0 ss) ss) (suc a) ys
          ≡ map item_of (cond b (Does (I.Store a (c.home y)) (here c pt (operands_map us a (y ∷ ys) ++ variables c 0 done)) None ∷ stores_operands c pt us (suc a) ys (y ∷ done))
          (stores_operands c pt us (suc a) ys done))
      by_test true h k m = next-is _ _ _ _ h k
      by_test false h k m = m

  frame-is : (n : ℕ) (q : ProcTree) → frame_items c (is_in (free_block c.captured q.body)) q.params q.captured ≡ map item_of (frame_made c n q.body q.params q.captured)
  frame-is n q =
      let us = free_block c.captured q.body in
      let pt = block_point q.body ToCaller in
      let ps = operands_map us 1 q.params in
      let ts = itself_map n q.captured in
      let none : no_slots c.size ≡ slot_bits [] 0 c.size = nothing_live 0 c.size in
      next-is _ _ _ _ (away-is c (I.Save c.size) pt (ts ++ ps) None (parameter_bits (is_in us) (itself_bits q.captured no_registers) 1 q.params)
      (parameters_are us 1 q.params ts (itself_bits q.captured no_registers) (itself_are n q.captured [] no_registers refl ∙ ap (λ es. reg_bits es 0 17) (append-nil ts))
      ∙ same-registers (ps ++ ts) (ts ++ ps) 0 17 (λ r. any_turned (is_register r) ps ts)))
      (both-are _ _ (stores_captured c n pt ps 0 q.captured []) (stores_operands c pt us 1 q.params q.captured)
      (captured_are n pt us q.params (parameter_bits (is_in us) no_registers 1 q.params)
      (parameters_are us 1 q.params [] no_registers refl ∙ ap (λ es. reg_bits es 0 17) (append-nil ps)) 0 q.captured [] (no_slots c.size) none)
      (stored_are pt us 1 q.params q.captured (with_slots c.home q.captured 0 (no_slots c.size))
      (slots-are c 0 q.captured [] (no_slots c.size) none ∙ ap (λ es. slot_bits es 0 c.size) (append-nil (variables c 0 q.captured)))))

  entry-is : (n : ℕ) (q : ProcTree) → entry_items (is_in (free_block c.captured q.body)) n q ≡ map item_of (entry c n q)
  entry-is n q = by_test q.lifted
    where
      by_test : (b : Bool) → cond b (away_item (I.Proc n) (parameter_bits (is_in (free_block c.captured q.body)) no_registers 1 q.params) None ∷ [])
          (away_item (I.Proc n) entry_registers None ∷ away_item (counting q.rest q.params) entry_registers (Some q.place) ∷ [])
          ≡ map item_of (cond b (Does (I.Proc n) (AtLifted n (operands_map (free_block c.captured q.body) 1 q.params)) None ∷ [])
          (Does (I.Proc n) (AtProc n) None ∷ Does (counting q.rest q.params) (AtArgs n) (Some q.place) ∷ []))
      by_test true =
          let us = free_block c.captured q.body in
          next-is _ _ _ _ (entered n (operands_map us 1 q.params) (parameter_bits (is_in us) no_registers 1 q.params)
          (parameters_are us 1 q.params [] no_registers refl ∙ ap (λ es. reg_bits es 0 17) (append-nil (operands_map us 1 q.params))) (I.Proc n)) refl
      by_test false = refl

  lambda-is : (n : ℕ) (q : ProcTree) (l : ℕ) (m : Note) → lambda_items c n q l
      ≡ map item_of (Mark n m ∷ (entry c n q ++ (frame_made c n q.body q.params q.captured ++ code_block c q.body ToCaller l)))
  lambda-is n q l m =
      next-is _ _ _ _ refl
      (both-are _ _ (entry c n q) (frame_made c n q.body q.params q.captured ++ code_block c q.body ToCaller l) (entry-is n q)
      (both-are _ _ (frame_made c n q.body q.params q.captured) (code_block c q.body ToCaller l) (frame-is n q)
      (block-is c q.body ToCaller (no_slots c.size) ending.ToCaller l (nothing_live 0 c.size) refl)))

  form-is : (k : ℕ) (q : ProcTree) (l : ℕ) → form_items c q l ≡ map item_of (Does (I.Save c.size) (Inside (AtValue (ToTop k)) Away []) None ∷ code_block c q.body (ToTop (suc k)) l)
  form-is k q l =
      next-is _ _ _ _ (away-is c (I.Save c.size) (AtValue (ToTop k)) [] None no_registers refl)
      (block-is c q.body (ToTop (suc k)) (no_slots c.size) ending.ToTop l (nothing_live 0 c.size) refl)

forms_are : (p : AnfTree) (k : ℕ) (qs : List ProcTree) (l : ℕ) → forms_items (body_of p) qs l ≡ map item_of (code_forms p k qs l)
forms_are p k [] l = refl
forms_are p k (q ∷ qs) l =
    both-are _ _ (code_form p k q l) (code_forms p (suc k) qs (l + labels_in q.body)) (form-is (body_of p q) k q l) (forms_are p (suc k) qs (l + labels_in q.body))

lambdas_are : (p : AnfTree) (n : ℕ) (qs : List ProcTree) (l : ℕ) → lambdas_items (body_of p) n qs l ≡ map item_of (code_lambdas p n qs l)
lambdas_are p n [] l = refl
lambdas_are p n (q ∷ qs) l =
    both-are _ _ (code_lambda p n q l) (code_lambdas p (suc n) qs (l + labels_in q.body)) (lambda-is (body_of p q) n q l (AtProc n))
    (lambdas_are p (suc n) qs (l + labels_in q.body))

pub program-is : (p : AnfTree) → procs_items p.procs p.statics ≡ map item_of (noted_items p)
program-is p =
    let forms = forms_of p in
    let lambdas = lambdas_of p in
    let l = length lambdas in
    both-are _ _ (code_forms p 0 forms l) (Does I.End (Inside (AtValue (ToTop (length forms))) Away []) None ∷ code_lambdas p 0 lambdas (l + labels_within forms))
    (forms_are p 0 forms l) (next-is _ _ _ _ refl (lambdas_are p 0 lambdas (l + labels_within forms)))
