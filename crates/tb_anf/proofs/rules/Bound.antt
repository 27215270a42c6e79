-- Each variable is bound once in a normal form: those of its source as often as there, and the value of a node at most
-- once, by the number of the node.
use Rattle.std.proofs.Common.{◌≡◌, refl, sym, ap, ◌∙◌, subst, ℕ, zero, suc, ◌+◌, ◌-◌, ◌^◌, ◌<◌, ◌≤◌, ⊎_elim, arith, Bool, true, false, cond, ◌==◌, ◌||◌, List, [], ◌∷◌, ◌++◌, map, Option, Some, None}
use Rattle.std.proofs.lemmas.Bool.{cases_Bool, cases_lt, eqb-false, ne_eqb}
use Rattle.tb_prim.specs.declared.constant.Const.{Const}
use Rattle.tb_prim.specs.declared.place.Place.{Place}
use Rattle.tb_semantics.specs.Graph.{IsApart}
use Rattle.tb_core.specs.FreeVariables.{is_in}
use Rattle.tb_core.specs.Lifting.{Lifted}
use Rattle.tb_core.specs.OperandOrder.{Line}
use Rattle.tb_core.specs.Rules.{Every}
use Rattle.tb_core.specs.Tree.{option_list}
use Rattle.tb_ir.specs.AnfRules as N
use Rattle.tb_ir.specs.AnfRules.{all_blocks, binders, blocks, blocks_of, of_each, own_params}
use Rattle.tb_ir.specs.AnfTree as A
use Rattle.tb_ir.specs.AnfTree.{Block, Op, ProcTree}
use Rattle.tb_ir.specs.FreeVariables.{parameters, added_to}
use Rattle.tb_ir.specs.Rules as K
use Rattle.tb_ir.specs.Rules.{all_nodes, nodes, nodes_in, nodes_of, nodes_of_lambdas, of_nodes, times}
use Rattle.tb_ir.specs.Tree.{Tree, Node, Form, Quote, Local, Global, Lambda, If, NewCell, CellGet, CellSet, SetGlobal, DefGlobal, Let, Letrec, Seq, Call, Direct, PrimUse, Apply, Trees, none, more, LambdaTree, ProgramTree}
use Rattle.tb_ir.specs.TreeMachine.{Context, context_of, line_of}
use Rattle.tb_anf.specs.NormalForm.{AtEnd, size, size_form, size_all, atom, atoms, value_name, block_of, form_procs, lambda_procs, is_lifted, normal_form}
use Rattle.tb_anf.proofs.Names.{Any, ProperNode}
use Rattle.tb_anf.proofs.Operands.{every-left, every-right}
use Rattle.tb_anf.proofs.rules.Agree.{weigh, weigh-append}
use Rattle.tb_anf.proofs.rules.Counts.{one_if, apart-times, times-apart}
use Rattle.tb_anf.proofs.rules.Same.{times-append, times-nodes, times-blocks, binders-same}
use Rattle.tb_anf.proofs.rules.Sums.{own, adds, adds_form, adds_bound, adds_all, adds_named, adds_sequence, sum_blocks, sum-append, total, tree-sum, upto, one-only}

module _ (v : ℕ) where
  z : ℕ
  z = value_name v

  -- whether the number is below another
  abbrev here : ℕ → ℕ
  here j = cond (v == j) 1 0

  abbrev below : ℕ → ℕ
  below n = upto here n

  rises_by : (n d : ℕ) → below n ≤ below (n + d)
  rises_by n zero = let e : n + 0 ≡ n = omega arith in let f = ap below e in omega arith
  rises_by n (suc d) = let h = rises_by n d in let e : n + suc d ≡ suc (n + d) = omega arith in let f = ap below e in omega arith

  rises : (a b : ℕ) → a ≤ b → below a ≤ below b
  rises a b le = let h = rises_by a (b - a) in let e : a + (b - a) ≡ b = omega arith in let f = ap below e in omega arith

  few_below : (n : ℕ) → below n ≤ 1
  few_below n = let h = one-only (λ j. 1) v n in ⊎_elim (λ lt. let e = h.0 lt in omega arith) (λ le. let e = h.1 le in omega arith) (cases_lt v n)

  abbrev B : Block → ℕ
  B b = times z (binders b)

  abbrev m : Form → ℕ
  m f = times z (K.binders f)

  abbrev bound_by : Option ℕ → ℕ
  bound_by None = 0
  bound_by (Some y) = times z (y ∷ [])

  value_step : (n : ℕ) → bound_by (Some (value_name n)) ≤ here n
  unfolding z
  value_step n = ⊎_elim
      (λ t. let a : here n ≡ 1 = ap (λ b. cond b 1 0) t in let o = at_most (value_name n == value_name v) in omega arith)
      (λ f. let ne = eqb-false v n f in let q : (value_name n == value_name v) ≡ false = ne_eqb (value_name n) (value_name v) (λ e. absurd (ne (omega arith))) in
      let e = ap one_if q in omega arith)
      (cases_Bool (v == n))
    where
      at_most : (b : Bool) → one_if b ≤ 1
      at_most true = omega arith
      at_most false = omega arith

  own_is : (k : Option ℕ) (op : Op) → own B k op ≡ bound_by k
  own_is None op = refl
  own_is (Some y) op = refl

  bound_list : List ℕ → ℕ
  bound_list ys = times z ys

  module _ (line : ℕ → Option (List ℕ)) where
    mutual
      tree_bound : (e : Tree) (n : ℕ) (k : Option ℕ) → adds B line n e k + below (suc n) ≤ bound_by k + (weigh m (nodes e) + below (n + size e))
      tree_bound (Node p s f) n k =
          let h = form_bound f p n k in let r = rises (suc n + size_form f) (n + suc (size_form f)) (omega arith) in omega arith

      form_bound : (f : Form) (p : Place) (n : ℕ) (k : Option ℕ) →
          adds_form B line n p f k + below (suc n) ≤ bound_by k + ((m f + weigh m (nodes_in f)) + below (suc n + size_form f))
      form_bound (Quote c) p n k = let o = own_is k (A.Atom (A.Quote c)) in let r = rises (suc n) (suc n + 0) (omega arith) in omega arith
      form_bound (Local y) p n k = let o = own_is k (A.Atom (A.Var y)) in let r = rises (suc n) (suc n + 0) (omega arith) in omega arith
      form_bound (Global g) p n k = let o = own_is k (A.Global g p) in let r = rises (suc n) (suc n + 0) (omega arith) in omega arith
      form_bound (Lambda l) p n k = let o = own_is k (A.Close l) in let r = rises (suc n) (suc n + 0) (omega arith) in omega arith
      form_bound (If a b c) p n k =
          let o = own_is k (A.Branch (atom (suc n) a) (block_of line (suc n + size a) b AtEnd) (block_of line (suc n + (size a + size b)) c AtEnd)) in
          let u = operand_bound a (suc n) in
          let w = tree_bound b (suc n + size a) None in let q = rises (suc n + size a) (suc (suc n + size a)) (omega arith) in
          let t = tree_bound c (suc n + (size a + size b)) None in
          let y = rises (suc n + size a + size b) (suc (suc n + (size a + size b))) (omega arith) in
          let i = weigh-append m (nodes a) (nodes b ++ nodes c) in let j = weigh-append m (nodes b) (nodes c) in
          let r = rises (suc n + (size a + size b) + size c) (suc n + (size a + (size b + size c))) (omega arith) in omega arith
      form_bound (NewCell e) p n k = let o = own_is k (A.NewCell (atom (suc n) e)) in let u = operand_bound e (suc n) in omega arith
      form_bound (CellGet e) p n k = let o = own_is k (A.CellGet (atom (suc n) e) p) in let u = operand_bound e (suc n) in omega arith
      form_bound (CellSet c e) p n k =
          let o = own_is k (A.CellSet (atom (suc n) c) (atom (suc n + size c) e)) in
          let u = operand_bound c (suc n) in let w = operand_bound e (suc n + size c) in
          let i = weigh-append m (nodes c) (nodes e) in
          let r = rises (suc n + size c + size e) (suc n + (size c + size e)) (omega arith) in omega arith
      form_bound (SetGlobal g e) p n k = let o = own_is k (A.SetGlobal g (atom (suc n) e) p) in let u = operand_bound e (suc n) in omega arith
      form_bound (DefGlobal g e) p n k = let o = own_is k (A.DefGlobal g (atom (suc n) e)) in let u = operand_bound e (suc n) in omega arith
      form_bound (Let ys es e) p n k =
          let u = named_bound ys es (suc n) in
          let w = tree_bound e (suc n + size_all es) k in let q = rises (suc n + size_all es) (suc (suc n + size_all es)) (omega arith) in
          let i = weigh-append m (nodes_of es) (nodes e) in
          let r = rises (suc n + size_all es + size e) (suc n + (size_all es + size e)) (omega arith) in omega arith
      form_bound (Letrec ys ls e) p n k =
          let w = tree_bound e (suc n) k in let q = rises (suc n) (suc (suc n)) (omega arith) in omega arith
      form_bound (Seq es) p n k = let w = sequence_bound es (suc n) k in omega arith
      form_bound (Call f es) p n k =
          let o = own_is k (A.Call (atom (suc n) f) (atoms (suc n + size f) es) p) in
          let u = operand_bound f (suc n) in let w = all_bound es (suc n + size f) in
          let i = weigh-append m (nodes f) (nodes_of es) in
          let r = rises (suc n + size f + size_all es) (suc n + (size f + size_all es)) (omega arith) in omega arith
      form_bound (Direct l es) p n k = let o = own_is k (A.Direct l (atoms (suc n) es)) in let w = all_bound es (suc n) in omega arith
      form_bound (PrimUse q es) p n k = let o = own_is k (A.PrimUse q (atoms (suc n) es) p) in let w = all_bound es (suc n) in omega arith
      form_bound (Apply f l) p n k =
          let o = own_is k (A.Apply (atom (suc n) f) (atom (suc n + size f) l) p) in
          let u = operand_bound f (suc n) in let w = operand_bound l (suc n + size f) in
          let i = weigh-append m (nodes f) (nodes l) in
          let r = rises (suc n + size f + size l) (suc n + (size f + size l)) (omega arith) in omega arith

      operand_bound : (e : Tree) (n : ℕ) → adds_bound B line n e + below n ≤ weigh m (nodes e) + below (n + size e)
      operand_bound (Node p s (Quote c)) n = let r = rises n (n + 1) (omega arith) in omega arith
      operand_bound (Node p s (Local y)) n = let r = rises n (n + 1) (omega arith) in omega arith
      operand_bound (Node p s f) n =
          let h = form_bound f p n (Some (value_name n)) in let q = value_step n in
          let r = rises (suc n + size_form f) (n + suc (size_form f)) (omega arith) in omega arith

      all_bound : (es : Trees) (n : ℕ) → adds_all B line n es + below n ≤ weigh m (nodes_of es) + below (n + size_all es)
      all_bound none n = let r = rises n (n + 0) (omega arith) in omega arith
      all_bound (more e es) n =
          let a = operand_bound e n in let b = all_bound es (n + size e) in let i = weigh-append m (nodes e) (nodes_of es) in
          let r = rises (n + size e + size_all es) (n + (size e + size_all es)) (omega arith) in omega arith

      named_bound : (ys : List ℕ) (es : Trees) (n : ℕ) → adds_named B line n ys es + below n ≤ times z ys + (weigh m (nodes_of es) + below (n + size_all es))
      named_bound [] none n = let r = rises n (n + 0) (omega arith) in omega arith
      named_bound (y ∷ ys) none n = let r = rises n (n + 0) (omega arith) in omega arith
      named_bound [] (more e es) n = let r = rises n (n + (size e + size_all es)) (omega arith) in omega arith
      named_bound (y ∷ ys) (more e es) n =
          let a = tree_bound e n (Some y) in let q = rises n (suc n) (omega arith) in
          let b = named_bound ys es (n + size e) in let i = weigh-append m (nodes e) (nodes_of es) in
          let r = rises (n + size e + size_all es) (n + (size e + size_all es)) (omega arith) in omega arith

      sequence_bound : (es : Trees) (n : ℕ) (k : Option ℕ) → adds_sequence B line n es k + below n ≤ bound_by k + (weigh m (nodes_of es) + below (n + size_all es))
      sequence_bound none n k = let o = own_is k (A.Atom (A.Quote Const.Unspecified)) in let r = rises n (n + 0) (omega arith) in omega arith
      sequence_bound (more e none) n k =
          let a = tree_bound e n k in let q = rises n (suc n) (omega arith) in let i = weigh-append m (nodes e) [] in
          let r = rises (n + size e) (n + (size e + 0)) (omega arith) in omega arith
      sequence_bound (more e (more d ds)) n k =
          let a = tree_bound e n (Some (value_name n)) in let q = value_step n in
          let b = sequence_bound (more d ds) (n + size e) k in let i = weigh-append m (nodes e) (nodes_of (more d ds)) in
          let r = rises (n + size e + (size d + size_all ds)) (n + (size e + (size d + size_all ds))) (omega arith) in omega arith

    module _ (p : ProgramTree) (order : List Line) (same : line ≡ line_of order) (proper : Every (ProperNode (context_of p order) Any) (all_nodes p)) where
      abbrev x : Context
      x = context_of p order

      body_bound : (n : ℕ) (e : Tree) → Every (ProperNode x Any) (nodes e) → total B (block_of line n e AtEnd) + below n ≤ weigh m (nodes e) + below (n + size e)
      body_bound n e h =
          let a = ap (λ g. total B (block_of g n e AtEnd)) same ∙ tree-sum B (record { bind = λ y op b. refl; close = λ xs ls b. refl }) x e h n AtEnd
          ∙ ap (λ g. adds B g n e None + 0) (sym same) in
          let b = tree_bound e n None in let q = rises n (suc n) (omega arith) in omega arith

      forms_bound : (n : ℕ) (es : Trees) → Every (ProperNode x Any) (nodes_of es) →
          sum_blocks B (blocks_of (form_procs line n es)) + below n ≤ weigh m (nodes_of es) + below (n + size_all es)
      forms_bound n none h = let r = rises n (n + 0) (omega arith) in omega arith
      forms_bound n (more (Node q s f) es) h =
          let e = Node q s f in
          let a = body_bound n e (every-left _ (nodes e) _ h) in
          let b = forms_bound (n + size e) es (every-right _ (nodes e) _ h) in
          let i = sum-append B (blocks (block_of line n e AtEnd)) (blocks_of (form_procs line (n + size e) es)) in
          let j = weigh-append m (nodes e) (nodes_of es) in
          let r = rises (n + size e + size_all es) (n + (size e + size_all es)) (omega arith) in omega arith

      lambdas_bound : (l n : ℕ) (ms : List LambdaTree) → Every (ProperNode x Any) (nodes_of_lambdas ms) →
          sum_blocks B (blocks_of (lambda_procs p line l n ms)) + below n ≤ weigh m (nodes_of_lambdas ms) + 1
      lambdas_bound l n [] h = let r = few_below n in omega arith
      lambdas_bound l n (k ∷ ms) h =
          let a = body_bound n k.body (every-left _ (nodes k.body) _ h) in
          let b = lambdas_bound (suc l) (n + size k.body) ms (every-right _ (nodes k.body) _ h) in
          let i = sum-append B (blocks (block_of line n k.body AtEnd)) (blocks_of (lambda_procs p line (suc l) (n + size k.body) ms)) in
          let j = weigh-append m (nodes k.body) (nodes_of_lambdas ms) in omega arith

      parts : (qs rs : List ProcTree) → sum_blocks B (blocks_of (qs ++ rs)) ≡ sum_blocks B (blocks_of qs) + sum_blocks B (blocks_of rs)
      parts [] rs = omega arith
      parts (q ∷ qs) rs =
          let h = parts qs rs in
          let i = sum-append B (blocks q.body) (blocks_of (qs ++ rs)) in let j = sum-append B (blocks q.body) (blocks_of qs) in omega arith

      whole_bound : sum_blocks B (blocks_of (form_procs line 0 p.forms ++ lambda_procs p line 0 (size_all p.forms) p.lambdas)) ≤ weigh m (all_nodes p) + 1
      whole_bound =
          let a = forms_bound 0 p.forms (every-left _ (nodes_of p.forms) _ proper) in
          let b = lambdas_bound 0 (size_all p.forms) p.lambdas (every-right _ (nodes_of p.forms) _ proper) in
          let c = parts (form_procs line 0 p.forms) (lambda_procs p line 0 (size_all p.forms) p.lambdas) in
          let j = weigh-append m (nodes_of p.forms) (nodes_of_lambdas p.lambdas) in
          let r = rises (0 + size_all p.forms) (size_all p.forms) (omega arith) in omega arith

-- the parameters of lambda expressions
abbrev params_of : List LambdaTree → List ℕ
params_of [] = []
params_of (l ∷ ls) = parameters l ++ params_of ls

cancel : (xs ys zs : List ℕ) → xs ++ ys ≡ xs ++ zs → ys ≡ zs
cancel [] ys zs e = e
cancel (x ∷ xs) ys zs e = cancel xs ys zs (ap tail e)
  where
    tail : List ℕ → List ℕ
    tail [] = []
    tail (y ∷ ys) = ys

abbrev only : List LambdaTree → ProgramTree
only ls = record { globals = []; statics = []; lambdas = ls; forms = none; set = [] }

variables_of : (ls : List LambdaTree) → K.variables (only ls) ≡ of_nodes K.binders (nodes_of_lambdas ls) ++ params_of ls
variables_of [] = refl
variables_of (l ∷ ls) = ap (λ ys. of_nodes K.binders (nodes l.body ++ nodes_of_lambdas ls) ++ (parameters l ++ ys))
    (cancel (of_nodes K.binders (nodes_of_lambdas ls)) _ (params_of ls) (variables_of ls))

variables_parts : (p : ProgramTree) → K.variables p ≡ of_nodes K.binders (all_nodes p) ++ params_of p.lambdas
variables_parts p = ap (λ ys. of_nodes K.binders (all_nodes p) ++ ys)
    (cancel (of_nodes K.binders (nodes_of_lambdas p.lambdas)) _ (params_of p.lambdas) (variables_of p.lambdas))

not_added : (set : List Lifted) (l : ℕ) → is_in (map (λ (m : Lifted). m.lambda) set) l ≡ false → added_to set l ≡ []
not_added [] l h = refl
not_added (m ∷ ms) l h = by_test (m.lambda == l) h (λ k. not_added ms l k)
  where
    by_test : (b : Bool) → (b || is_in (map (λ (i : Lifted). i.lambda) ms) l) ≡ false →
        (is_in (map (λ (i : Lifted). i.lambda) ms) l ≡ false → added_to ms l ≡ []) → cond b m.added (added_to ms l) ≡ []
    by_test true k r = cc
    by_test false k r = r k

module _ (p : ProgramTree) (line : ℕ → Option (List ℕ)) (w : ℕ) where
  params_times : List ProcTree → ℕ
  params_times qs = times w (of_each own_params qs)

  forms_own : (n : ℕ) (es : Trees) (qs : List ProcTree) → params_times (form_procs line n es ++ qs) ≡ params_times qs
  unfolding params_times
  forms_own n none qs = refl
  forms_own n (more (Node q s f) es) qs = forms_own (n + size (Node q s f)) es qs

  one_own : (l : ℕ) (k : LambdaTree) → times w (cond (is_lifted p l) [] (k.formals ++ (option_list k.rest ++ added_to p.set l))) ≤ times w (parameters k)
  one_own l k = by_test (is_lifted p l) refl
    where
      by_test : (b : Bool) → is_lifted p l ≡ b → times w (cond b [] (k.formals ++ (option_list k.rest ++ added_to p.set l))) ≤ times w (parameters k)
      by_test true e = omega arith
      by_test false e =
          let a = ap (λ ys. times w (k.formals ++ (option_list k.rest ++ ys))) (not_added p.set l e) in
          let b = times-append w k.formals (option_list k.rest ++ []) in let c = times-append w (option_list k.rest) [] in
          let d = times-append w k.formals (option_list k.rest) in omega arith

  lambdas_own : (l n : ℕ) (ks : List LambdaTree) → params_times (lambda_procs p line l n ks) ≤ times w (params_of ks)
  unfolding params_times
  lambdas_own l n [] = omega arith
  lambdas_own l n (k ∷ ks) =
      let a = one_own l k in let h = lambdas_own (suc l) (n + size k.body) ks in
      let i = times-append w (cond (is_lifted p l) [] (k.formals ++ (option_list k.rest ++ added_to p.set l))) (of_each own_params (lambda_procs p line (suc l) (n + size k.body) ks)) in
      let j = times-append w (parameters k) (params_of ks) in omega arith

module _ (p : ProgramTree) (order : List Line) (proper : Every (ProperNode (context_of p order) Any) (all_nodes p))
    (apart : IsApart (K.variables p)) (small : Every (λ y. y < 2 ^ 31) (K.variables p)) where
  none_large : (w : ℕ) → 2 ^ 31 ≤ w → (xs : List ℕ) → Every (λ y. y < 2 ^ 31) xs → times w xs ≡ 0
  none_large w le [] h = refl
  none_large w le (y ∷ xs) h =
      let r = none_large w le xs h.1 in let lt = h.0 in let e = ap one_if (ne_eqb y w (λ q. absurd (omega arith))) in omega arith

  own_within : (w : ℕ) → times w (of_each own_params (normal_form p order).procs) ≤ times w (params_of p.lambdas)
  unfolding params_times
  own_within w =
      let a = forms_own p (line_of order) w 0 p.forms (lambda_procs p (line_of order) 0 (size_all p.forms) p.lambdas) in
      let b = lambdas_own p (line_of order) w 0 (size_all p.forms) p.lambdas in omega arith

  value_bound : (w : ℕ) → 2 ^ 31 ≤ w →
      sum_blocks (λ b. times w (binders b)) (all_blocks (normal_form p order)) ≤ weigh (λ f. times w (K.binders f)) (all_nodes p) + 1
  unfolding z
  value_bound w le =
      let e : value_name (w - 2 ^ 31) ≡ w = omega arith in
      subst (λ k. sum_blocks (λ b. times k (binders b)) (all_blocks (normal_form p order)) ≤ weigh (λ f. times k (K.binders f)) (all_nodes p) + 1) e
      (whole_bound (w - 2 ^ 31) (line_of order) p order refl proper)

  once : (w : ℕ) → times w (N.variables (normal_form p order)) ≤ 1
  once w =
      let a = times-append w (of_each binders (all_blocks (normal_form p order))) (of_each own_params (normal_form p order).procs) in
      let b = own_within w in
      let c = ap (times w) (variables_parts p) ∙ times-append w (of_nodes K.binders (all_nodes p)) (params_of p.lambdas) in
      ⊎_elim
      (λ lt. let d = binders-same w lt p order proper in let e = apart-times w (K.variables p) apart in omega arith)
      (λ le. let d = none_large w le (K.variables p) small in
      let e = times-blocks w binders (all_blocks (normal_form p order)) in
      let f = times-nodes w K.binders (all_nodes p) in
      let g = value_bound w le in omega arith)
      (cases_lt w (2 ^ 31))

  pub bound-once : IsApart (N.variables (normal_form p order))
  bound-once = times-apart (N.variables (normal_form p order)) once
