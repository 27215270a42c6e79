-- The items of a whole program follow their notes: its forms, the end, and its lambdas.
use Rattle.std.proofs.Common.{◌≡◌, ℕ, suc, ◌≤◌, ◌+◌, ◌-◌, ◌⊎◌, Bool, true, false, cond, List, [], ◌∷◌, ◌++◌, length, Some, None, slice_get, refl, sym, ap, ◌∙◌, subst, inl, inr, ⊎_elim, zero-add, arith}
use Rattle.std.proofs.lemmas.List.{length-take}
use Rattle.tb_semantics.specs.Graph.{IsApart, IsIn}
use Rattle.tb_semantics.proofs.ListLemmas.{in-left, in-right, in-cases}
use Rattle.tb_ir.specs.AnfTree.{ProcTree, AnfTree}
use Rattle.tb_ir.specs.AnfMachine.{InBlock, form_of, own_formals, proc_of}
use Rattle.tb_ir.specs.AnfRules.{forms_of, lambdas_of}
use Rattle.tb_mac.specs.declared.code.Instr.TheVariants as I
use Rattle.tb_codegen.specs.Homes.{slot_of, frame_size}
use Rattle.tb_codegen.specs.Notes.{ToCaller, ToTop, AtBlock, AtValue, Away, Here, Inside, AtProc, AtArgs, AtLifted, Noted, Mark, Does}
use Rattle.tb_codegen.specs.Operations.{variables, block_map}
use Rattle.tb_codegen.specs.Generate.{settled, block_point, operands_map, itself_map, frame_made, counting, entry, body_of, labels_in, labels_within, code_block, code_form, code_forms, code_lambda, code_lambdas, noted_items}
use Rattle.tb_codegen.proofs.Changes.{Starts, Caught}
use Rattle.tb_codegen.proofs.Ok.{Entered, Ok, ok_form, ok_end, ok_proc, ok_args, ok_args_ge, ok_lifted, free}
use Rattle.tb_codegen.proofs.Chains.{Target, Chain, c_end, c_does, c_dead, chain-on}
use Rattle.tb_codegen.proofs.BlockChains.{BlockOk, empties}
use Rattle.tb_codegen.proofs.CodeChains.{block-chain}
use Rattle.tb_codegen.proofs.EntryChains.{Entering, Names, apart-left, apart-right, frame-chain, from-refl, itself-only, operands-in}
use Rattle.tb_codegen.proofs.Maps.{Named, entry-spot, entry-symbol}

-- a number so many procs further
counted : ℕ → List ProcTree → ℕ
counted k [] = k
counted k (q ∷ qs) = counted (suc k) qs

counted-length : (k : ℕ) (qs : List ProcTree) → counted k qs ≡ k + length qs
unfolding counted
counted-length k [] = omega arith
counted-length k (q ∷ qs) = let h = counted-length (suc k) qs in omega (arith, h)

module _ (p : AnfTree) (all : List Noted) where
  -- what the proc of a form keeps
  pub record FormOk (k : ℕ) (q : ProcTree) : Type 0 where
    pub there : form_of (slice_get p.procs k) ≡ Some (InBlock q.body)
    pub closed : free p (settled q.body) ≡ []
    pub block : BlockOk p all (slot_of q) (frame_size q) q.body []

  -- what the proc of a lambda keeps
  pub record LambdaOk (n : ℕ) (q : ProcTree) : Type 0 where
    pub there : proc_of p.procs n ≡ Some q
    pub entering : Entering p all (slot_of q) (frame_size q) q
    pub names : Names p all (slot_of q) (frame_size q) q
    pub caught : Caught q.params q.captured (free p (settled q.body))
    pub lifted_alone : q.lifted ≡ true → (q.captured ≡ []) × (q.rest ≡ false)
    pub rest_has_name : q.rest ≡ true → 1 ≤ length q.params
    pub block : BlockOk p all (slot_of q) (frame_size q) q.body []

  -- a form makes its frame, and its end takes it away
  pub form-chain : (rest : List Noted) (k : ℕ) (q : ProcTree) (l : ℕ) → FormOk k q → ((n : Noted) → IsIn n (code_form p k q l) → IsIn n all) →
      Chain p all rest (Some (Inside (AtValue (ToTop k)) Away [])) (code_form p k q l) (Some (Inside (AtValue (ToTop (suc k))) Away []))
  form-chain rest k q l h sub =
      c_does
      (subst (λ es. Ok p (Target all) (Target (code_block (body_of p q) q.body (ToTop (suc k)) l ++ rest)) (I.Save (frame_size q)) None (Inside (AtValue (ToTop k)) Away [])
      (Some (Inside (AtBlock (settled q.body) (ToTop (suc k))) (Here (frame_size q)) es))) (sym no_names) (ok_form q.body (empties p all (slot_of q) (frame_size q) q.body [] h.block) h.there))
      (block-chain p all (slot_of q) (frame_size q) rest q.body (ToTop (suc k)) l [] h.block (λ e y n. none-named e y n) tt (λ n i. sub n (inr i)))
    where
      no_names : block_map (body_of p q) (settled q.body) (ToTop (suc k)) ≡ []
      no_names = ap (λ xs. variables (body_of p q) 0 xs ++ []) h.closed

      none-named : (e y : ℕ) → Named (body_of p q) (ToTop (suc k)) e y → IsIn y []
      none-named e y n = elim n [ ]

  -- the operands of a lambda, once they are counted
  starts-of : (n : ℕ) (q : ProcTree) → LambdaOk n q → IsApart q.params →
      Starts n q.params (free p (settled q.body)) (itself_map n q.captured ++ operands_map (free p q.body) 1 q.params)
  starts-of n q h ap_ps = record {
    begins = λ r s i. ⊎_elim
        (λ j. let e = itself-only n q.captured r s j in inl (entry-spot _ r _ s e, entry-symbol _ r _ s e))
        (λ j. let o = operands-in (free p q.body) 1 q.params ap_ps r s j in
        inr (o.var, o.register, o.spot, o.symbol, subst (IsIn o.var) (sym h.names.settles) o.used, o.at))
        (in-cases (itself_map n q.captured) _ _ i);
  }

  counted-rest : (q : ProcTree) → 1 ≤ length q.params → suc (length (own_formals true q.params)) ≡ length q.params
  counted-rest q h = let e = length-take (length q.params - 1) q.params in omega (arith, e, h)

  -- the entry of a lambda that is entered through a procedure
  closed-entry : (rest : List Noted) (n : ℕ) (q : ProcTree) (b : Bool) → q.lifted ≡ false → q.rest ≡ b → LambdaOk n q → IsApart q.params →
      Chain p all rest (Some (AtProc n)) (Does (I.Proc n) (AtProc n) None ∷ Does (counting b q.params) (AtArgs n) (Some q.place) ∷ [])
      (Some (Inside (block_point q.body ToCaller) Away (itself_map n q.captured ++ operands_map (free p q.body) 1 q.params)))
  closed-entry rest n q false e r h ap_ps =
      let w : Entered p n q = record { there = h.there; kept = e } in
      c_does (ok_proc n q w)
      (c_does (ok_args n q (empties p all (slot_of q) (frame_size q) q.body [] h.block) w r refl (apart-left q.captured q.params h.entering.apart) h.caught (starts-of n q h ap_ps)) c_end)
  closed-entry rest n q true e r h ap_ps =
      let w : Entered p n q = record { there = h.there; kept = e } in
      let few = h.entering.few in let counted = counted-rest q (h.rest_has_name r) in
      c_does (ok_proc n q w)
      (c_does (ok_args_ge n q (empties p all (slot_of q) (frame_size q) q.body [] h.block) w r counted (omega (arith, few, counted)) (apart-left q.captured q.params h.entering.apart) h.caught (starts-of n q h ap_ps)) c_end)

  -- the entry of a lifted lambda
  lifted-entry : (rest : List Noted) (n : ℕ) (q : ProcTree) → q.lifted ≡ true → LambdaOk n q → IsApart q.params →
      Chain p all rest (Some (AtLifted n (operands_map (free p q.body) 1 q.params)))
      (Does (I.Proc n) (AtLifted n (operands_map (free p q.body) 1 q.params)) None ∷ [])
      (Some (Inside (block_point q.body ToCaller) Away (itself_map n q.captured ++ operands_map (free p q.body) 1 q.params)))
  lifted-entry rest n q e h ap_ps =
      let a = h.lifted_alone e in
      subst (λ xs. Chain p all rest (Some (AtLifted n (operands_map (free p q.body) 1 q.params)))
      (Does (I.Proc n) (AtLifted n (operands_map (free p q.body) 1 q.params)) None ∷ [])
      (Some (Inside (block_point q.body ToCaller) Away (itself_map n xs ++ operands_map (free p q.body) 1 q.params)))) (sym a.0)
      (c_does (ok_lifted n q (empties p all (slot_of q) (frame_size q) q.body [] h.block) (record { there = h.there; lifted = e; alone = a.0; no_rest = a.1 })
      (record {
        begins_lifted = λ r s i. let o = operands-in (free p q.body) 1 q.params ap_ps r s i in
            (o.var, o.register, o.spot, o.symbol, subst (IsIn o.var) (sym h.names.settles) o.used, o.at);
      })
      (from-refl _)) c_end)

  -- a lambda
  pub lambda-chain : (rest : List Noted) (n : ℕ) (q : ProcTree) (l : ℕ) → LambdaOk n q → ((m : Noted) → IsIn m (code_lambda p n q l) → IsIn m all) →
      Chain p all rest None (code_lambda p n q l) None
  lambda-chain rest n q l h sub =
      by q.lifted refl (λ m i. sub m (inr (in-right (entry (body_of p q) n q) _ m (in-right (frame_made (body_of p q) n q.body q.params q.captured) _ m i))))
    where
      ap_ps : IsApart q.params
      ap_ps = apart-right q.captured q.params h.entering.apart

      none-named : (e y : ℕ) → Named (body_of p q) ToCaller e y → IsIn y []
      none-named e y n2 = elim n2 [ ]

      rest_of : (q.captured ≡ []) ⊎ Entered p n q → ((m : Noted) → IsIn m (code_block (body_of p q) q.body ToCaller l) → IsIn m all) →
          Chain p all rest (Some (Inside (block_point q.body ToCaller) Away (itself_map n q.captured ++ operands_map (free p q.body) 1 q.params)))
          (frame_made (body_of p q) n q.body q.params q.captured ++ code_block (body_of p q) q.body ToCaller l) None
      rest_of w s =
          chain-on p all rest (code_block (body_of p q) q.body ToCaller l) _ _ _ _
          (frame-chain p all (slot_of q) (frame_size q) (code_block (body_of p q) q.body ToCaller l ++ rest) n q h.entering h.names w)
          (block-chain p all (slot_of q) (frame_size q) rest q.body ToCaller l [] h.block none-named tt s)

      by : (b : Bool) → q.lifted ≡ b → ((m : Noted) → IsIn m (code_block (body_of p q) q.body ToCaller l) → IsIn m all) →
          Chain p all rest None
          (Mark n (cond b (AtLifted n (operands_map (free p q.body) 1 q.params)) (AtProc n)) ∷
          (cond b (Does (I.Proc n) (AtLifted n (operands_map (free p q.body) 1 q.params)) None ∷ [])
          (Does (I.Proc n) (AtProc n) None ∷ Does (counting q.rest q.params) (AtArgs n) (Some q.place) ∷ []) ++
          (frame_made (body_of p q) n q.body q.params q.captured ++ code_block (body_of p q) q.body ToCaller l))) None
      by true e s =
          c_dead (chain-on p all rest _ _ _ _ _ (lifted-entry _ n q e h ap_ps) (rest_of (inl (h.lifted_alone e).0) s))
      by false e s =
          c_dead (chain-on p all rest _ _ _ _ _ (closed-entry _ n q q.rest e refl h ap_ps) (rest_of (inr (record { there = h.there; kept = e })) s))

  -- all forms, and all lambdas, from a number on
  abbrev pub FormsOk : ℕ → List ProcTree → Type 0
  FormsOk k [] = Unit {0}
  FormsOk k (q ∷ qs) = FormOk k q × FormsOk (suc k) qs

  abbrev pub LambdasOk : ℕ → List ProcTree → Type 0
  LambdasOk n [] = Unit {0}
  LambdasOk n (q ∷ qs) = LambdaOk n q × LambdasOk (suc n) qs

  forms-chain : (rest : List Noted) (k : ℕ) (qs : List ProcTree) (l : ℕ) → FormsOk k qs → ((n : Noted) → IsIn n (code_forms p k qs l) → IsIn n all) →
      Chain p all rest (Some (Inside (AtValue (ToTop k)) Away [])) (code_forms p k qs l) (Some (Inside (AtValue (ToTop (counted k qs))) Away []))
  unfolding counted
  forms-chain rest k [] l h sub = c_end
  forms-chain rest k (q ∷ qs) l h sub =
      chain-on p all rest (code_forms p (suc k) qs (l + labels_in q.body)) _ _ _ _
      (form-chain _ k q l h.0 (λ n i. sub n (in-left (code_form p k q l) _ n i)))
      (forms-chain rest (suc k) qs (l + labels_in q.body) h.1 (λ n i. sub n (in-right (code_form p k q l) _ n i)))

  lambdas-chain : (rest : List Noted) (n : ℕ) (qs : List ProcTree) (l : ℕ) → LambdasOk n qs → ((m : Noted) → IsIn m (code_lambdas p n qs l) → IsIn m all) →
      Chain p all rest None (code_lambdas p n qs l) None
  lambdas-chain rest n [] l h sub = c_end
  lambdas-chain rest n (q ∷ qs) l h sub =
      chain-on p all rest (code_lambdas p (suc n) qs (l + labels_in q.body)) _ _ _ _
      (lambda-chain _ n q l h.0 (λ m i. sub m (in-left (code_lambda p n q l) _ m i)))
      (lambdas-chain rest (suc n) qs (l + labels_in q.body) h.1 (λ m i. sub m (in-right (code_lambda p n q l) _ m i)))

-- what a program keeps whose code follows its notes
pub record ProgramOk (p : AnfTree) : Type 0 where
  pub forms : FormsOk p (noted_items p) 0 (forms_of p)
  pub lambdas : LambdasOk p (noted_items p) 0 (lambdas_of p)
  pub no_more : form_of (slice_get p.procs (length (forms_of p))) ≡ None

pub program-chain : (p : AnfTree) → ProgramOk p →
    Chain p (noted_items p) [] (Some (Inside (AtValue (ToTop 0)) Away [])) (noted_items p) None
program-chain p h =
    let l = length (lambdas_of p) in
    let last = code_lambdas p 0 (lambdas_of p) (l + labels_within (forms_of p)) in
    let first = code_forms p 0 (forms_of p) l in
    let end = Does I.End (Inside (AtValue (ToTop (length (forms_of p)))) Away []) None ∷ last in
    chain-on p (noted_items p) [] end _ _ _ _
    (subst (λ k. Chain p (noted_items p) (end ++ []) (Some (Inside (AtValue (ToTop 0)) Away [])) first (Some (Inside (AtValue (ToTop k)) Away [])))
    (counted-length 0 (forms_of p) ∙ zero-add (length (forms_of p)))
    (forms-chain p (noted_items p) (end ++ []) 0 (forms_of p) l h.forms (λ n i. in-left first end n i)))
    (c_does (ok_end h.no_more)
    (lambdas-chain p (noted_items p) [] 0 (lambdas_of p) (l + labels_within (forms_of p)) h.lambdas (λ n i. in-right first end n (inr i))))
