-- A variable of the source is named, made into a cell and bound in a normal form as often as in its source, and a lambda
-- expression stands as often.
use Rattle.std.proofs.Common.{◌≡◌, refl, sym, ap, ◌∙◌, ℕ, ◌+◌, ◌^◌, ◌<◌, arith, false, cond, ◌==◌, List, [], ◌∷◌, ◌++◌, Option, Some, None}
use Rattle.std.proofs.lemmas.Bool.{ne_eqb}
use Rattle.tb_core.specs.OperandOrder.{Line}
use Rattle.tb_core.specs.Rules.{Every}
use Rattle.tb_ir.specs.AnfMachine.{free_of_atom, free_of_atoms}
use Rattle.tb_ir.specs.AnfRules as N
use Rattle.tb_ir.specs.AnfRules.{all_blocks, blocks, of_each, operation, operations, standing_at, binders}
use Rattle.tb_ir.specs.AnfTree as A
use Rattle.tb_ir.specs.AnfTree.{Block, Op}
use Rattle.tb_ir.specs.Rules as K
use Rattle.tb_ir.specs.Rules.{all_nodes, nodes, of_nodes, form_of, times}
use Rattle.tb_ir.specs.Tree.{Tree, Node, Form, Quote, Local, Lambda, NewCell, Let, Letrec, Trees, none, more, ProgramTree}
use Rattle.tb_ir.specs.TreeMachine.{context_of, line_of}
use Rattle.tb_anf.specs.NormalForm.{AtEnd, block_of, size, atom, atoms, value_name, normal_form}
use Rattle.tb_anf.proofs.Names.{Any, ProperNode}
use Rattle.tb_anf.proofs.rules.Agree.{Agrees, IsOther, IsOtherForm, IsPlain, plain-agrees, weigh, simple, simple_all, bound_to}
use Rattle.tb_anf.proofs.rules.Sums.{IsOwn, own, sum_blocks}
use Rattle.tb_anf.proofs.rules.Whole.{body-sum, whole-sum}

pub times-append : (x : ℕ) (xs ys : List ℕ) → times x (xs ++ ys) ≡ times x xs + times x ys
times-append x [] ys = omega arith
times-append x (y ∷ xs) ys = let h = times-append x xs ys in omega arith

-- how often a number stands in what nodes and blocks have is a sum over them
pub times-nodes : (z : ℕ) (has : Form → List ℕ) (es : List Tree) → times z (of_nodes has es) ≡ weigh (λ f. times z (has f)) es
times-nodes z has [] = refl
times-nodes z has (e ∷ es) = let h = times-nodes z has es in let a = times-append z (has (form_of e)) (of_nodes has es) in omega arith

pub times-blocks : (z : ℕ) (has : Block → List ℕ) (bs : List Block) → times z (of_each has bs) ≡ sum_blocks (λ b. times z (has b)) bs
times-blocks z has [] = refl
times-blocks z has (b ∷ bs) = let h = times-blocks z has bs in let a = times-append z (has b) (of_each has bs) in omega arith

pub times-operations : (z : ℕ) (has : Op → List ℕ) (bs : List Block) →
    times z (of_each has (of_each operation bs)) ≡ sum_blocks (λ b. times z (of_each has (operation b))) bs
times-operations z has [] = refl
times-operations z has (b ∷ bs) =
    let h = times-operations z has bs in
    let a = both (operation b) (of_each operation bs) in omega arith
  where
    both : (xs ys : List Op) → times z (of_each has (xs ++ ys)) ≡ times z (of_each has xs) + times z (of_each has ys)
    both [] ys = omega arith
    both (o ∷ xs) ys =
        let h = both xs ys in let a = times-append z (has o) (of_each has (xs ++ ys)) in let b = times-append z (has o) (of_each has xs) in omega arith

module _ (z : ℕ) (small : z < 2 ^ 31) where
  abbrev names : Form → ℕ
  names f = times z (K.named f)

  other : (n : ℕ) → times z (value_name n ∷ []) ≡ 0
  other n = let e : (value_name n == z) ≡ false = ne_eqb (value_name n) z (λ q. absurd (omega arith)) in ap (λ b. cond b 1 0 + 0) e

  atom_named : (n : ℕ) (e : Tree) → times z (free_of_atom (atom n e)) ≡ simple names e
  atom_named n (Node p s (Quote c)) = refl
  atom_named n (Node p s (Local y)) = refl
  atom_named n (Node p s f) = other n

  atoms_named : (n : ℕ) (es : Trees) → times z (free_of_atoms (atoms n es)) ≡ simple_all names es
  atoms_named n none = refl
  atoms_named n (more e es) =
      let a = atom_named n e in let h = atoms_named (n + size e) es in
      let i = times-append z (free_of_atom (atom n e)) (free_of_atoms (atoms (n + size e) es)) in omega arith

  abbrev Named : Block → ℕ
  Named b = times z (of_each N.named (operation b))

  -- one operation of a block, in either place
  at : (k : Option ℕ) (op : Op) → own Named k op ≡ times z (free_of_atoms (N.atoms op))
  at None op = let a = times-append z (free_of_atoms (N.atoms op)) [] in omega arith
  at (Some y) op = let a = times-append z (free_of_atoms (N.atoms op)) [] in omega arith

  one : (k : Option ℕ) (op : Op) (n : ℕ) (e : Tree) → N.atoms op ≡ atom n e ∷ [] → own Named k op ≡ simple names e
  one k op n e q =
      let a = at k op in let b = ap (λ ds. times z (free_of_atoms ds)) q in let c = atom_named n e in
      let d = times-append z (free_of_atom (atom n e)) [] in omega arith

  two : (k : Option ℕ) (op : Op) (n i : ℕ) (e d : Tree) → N.atoms op ≡ atom n e ∷ atom i d ∷ [] → own Named k op ≡ simple names e + simple names d
  two k op n i e d q =
      let a = at k op in let b = ap (λ ds. times z (free_of_atoms ds)) q in let c = atom_named n e in let f = atom_named i d in
      let g = times-append z (free_of_atom (atom n e)) (free_of_atom (atom i d) ++ []) in let h = times-append z (free_of_atom (atom i d)) [] in omega arith

  some : (k : Option ℕ) (op : Op) (n : ℕ) (es : Trees) → N.atoms op ≡ atoms n es → own Named k op ≡ simple_all names es
  some k op n es q = let a = at k op in let b = ap (λ ds. times z (free_of_atoms ds)) q in let c = atoms_named n es in omega arith

  more_of : (k : Option ℕ) (op : Op) (n i : ℕ) (f : Tree) (es : Trees) → N.atoms op ≡ atom n f ∷ atoms i es → own Named k op ≡ simple names f + simple_all names es
  more_of k op n i f es q =
      let a = at k op in let b = ap (λ ds. times z (free_of_atoms ds)) q in let c = atom_named n f in let d = atoms_named i es in
      let g = times-append z (free_of_atom (atom n f)) (free_of_atoms (atoms i es)) in omega arith

  none_bound : (xs : List ℕ) → 0 ≡ bound_to (λ k. 0) xs
  none_bound [] = refl
  none_bound (y ∷ xs) = let h = none_bound xs in omega arith

  named_agrees : Agrees Named names (λ k. 0)
  named_agrees = record {
    at_end = refl;
    value = λ n. refl;
    quote = λ k c. let a = at k (A.Atom (A.Quote c)) in omega arith;
    variable = λ k y. let a = at k (A.Atom (A.Var y)) in omega arith;
    global = λ k g p. let a = at k (A.Global g p) in omega arith;
    lambda = λ k l. let a = at k (A.Close l) in omega arith;
    branch = λ k n a b c d e. let o = one k (A.Branch (atom n a) d e) n a refl in omega arith;
    new_cell = λ k n e. let o = one k (A.NewCell (atom n e)) n e refl in omega arith;
    cell_get = λ k n e p. let o = one k (A.CellGet (atom n e) p) n e refl in omega arith;
    cell_set = λ k n i c e. let o = two k (A.CellSet (atom n c) (atom i e)) n i c e refl in omega arith;
    set_global = λ k n g e p. let o = one k (A.SetGlobal g (atom n e) p) n e refl in omega arith;
    def_global = λ k n g e. let o = one k (A.DefGlobal g (atom n e)) n e refl in omega arith;
    names = λ xs es e. none_bound xs;
    close = λ xs ls e. refl;
    sequence = λ es. refl;
    call = λ k n i f es p. let o = more_of k (A.Call (atom n f) (atoms i es) p) n i f es refl in omega arith;
    direct = λ k n l es. let o = some k (A.Direct l (atoms n es)) n es refl in omega arith;
    prim = λ k n q es p. let o = some k (A.PrimUse q (atoms n es) p) n es refl in omega arith;
    apply = λ k n i f l p. let o = two k (A.Apply (atom n f) (atom i l) p) n i f l refl in omega arith;
  }

  named_own : IsOwn Named
  named_own = record { bind = λ y op b. refl; close = λ xs ls b. refl }

  pub named-same : (p : ProgramTree) (order : List Line) → Every (ProperNode (context_of p order) Any) (all_nodes p) →
      N.times_named (normal_form p order) z ≡ K.times_named p z
  named-same p order proper =
      times-operations z N.named (all_blocks (normal_form p order))
      ∙ whole-sum Named names (λ k. 0) named_own named_agrees p order proper
      ∙ sym (times-nodes z K.named (all_nodes p))

  abbrev Makes : Block → ℕ
  Makes b = times z (of_each N.celled (operation b))

  made_of : (n : ℕ) (e : Tree) → times z (free_of_atoms (atom n e ∷ [])) ≡ times z (K.celled (NewCell e))
  made_of n (Node p s (Quote c)) = refl
  made_of n (Node p s (Local y)) = refl
  made_of n (Node p s f) = other n

  makes_plain : IsPlain Makes (λ f. times z (K.celled f)) (λ k. 0) (λ op. times z (N.celled op))
  makes_plain = record {
    own_is = λ k op. own_is k op;
    at_end = refl;
    value = λ n. refl;
    other = none;
    other_form = none_form;
    lambda = λ l. refl;
    new_cell = made_of;
    names = λ xs es e. none_bound xs;
    close = λ xs ls e. refl;
  }
    where
      own_is : (k : Option ℕ) (op : Op) → own Makes k op ≡ 0 + times z (N.celled op)
      own_is None op = let a = times-append z (N.celled op) [] in omega arith
      own_is (Some y) op = let a = times-append z (N.celled op) [] in omega arith

      none : (op : Op) → IsOther op → times z (N.celled op) ≡ 0
      none (A.NewCell a) h = absurd h
      none op h = refl

      none_form : (f : Form) → IsOtherForm f → times z (K.celled f) ≡ 0
      none_form (NewCell e) h = absurd h
      none_form f h = refl

  pub celled-same : (p : ProgramTree) (order : List Line) → Every (ProperNode (context_of p order) Any) (all_nodes p) →
      times z (of_each N.celled (operations (normal_form p order))) ≡ times z (of_nodes K.celled (all_nodes p))
  celled-same p order proper =
      times-operations z N.celled (all_blocks (normal_form p order))
      ∙ whole-sum Makes (λ f. times z (K.celled f)) (λ k. 0) (record { bind = λ y op b. refl; close = λ xs ls b. refl }) (plain-agrees Makes _ (λ k. 0) _ makes_plain) p order proper
      ∙ sym (times-nodes z K.celled (all_nodes p))

  abbrev BindsIt : Block → ℕ
  BindsIt b = times z (binders b)

  abbrev bound_by : Option ℕ → ℕ
  bound_by None = 0
  bound_by (Some y) = times z (y ∷ [])

  binds_plain : IsPlain BindsIt (λ f. times z (K.binders f)) bound_by (λ op. 0)
  binds_plain = record {
    own_is = own_is;
    at_end = refl;
    value = other;
    other = λ op h. refl;
    other_form = none_form;
    lambda = λ l. refl;
    new_cell = λ n e. refl;
    names = λ xs es e. bound_names xs;
    close = λ xs ls e. refl;
  }
    where
      own_is : (k : Option ℕ) (op : Op) → own BindsIt k op ≡ bound_by k + 0
      own_is None op = refl
      own_is (Some y) op = omega arith

      none_form : (f : Form) → IsOtherForm f → times z (K.binders f) ≡ 0
      none_form (Let xs es e) h = absurd h
      none_form (Letrec xs ls e) h = absurd h
      none_form f h = refl

      bound_names : (xs : List ℕ) → times z xs ≡ bound_to bound_by xs
      bound_names [] = refl
      bound_names (y ∷ xs) = let h = bound_names xs in omega arith

  binds_agrees : Agrees BindsIt (λ f. times z (K.binders f)) bound_by
  binds_agrees = plain-agrees BindsIt _ bound_by _ binds_plain

  pub body-binders : (p : ProgramTree) (order : List Line) → Every (ProperNode (context_of p order) Any) (all_nodes p) →
      (n : ℕ) (e : Tree) → Every (ProperNode (context_of p order) Any) (nodes e) →
      times z (of_each binders (blocks (block_of (line_of order) n e AtEnd))) ≡ times z (of_nodes K.binders (nodes e))
  body-binders p order proper n e h =
      times-blocks z binders (blocks (block_of (line_of order) n e AtEnd))
      ∙ body-sum BindsIt (λ f. times z (K.binders f)) bound_by (record { bind = λ y op b. refl; close = λ xs ls b. refl }) binds_agrees p order proper n e h
      ∙ sym (times-nodes z K.binders (nodes e))

  pub binders-same : (p : ProgramTree) (order : List Line) → Every (ProperNode (context_of p order) Any) (all_nodes p) →
      times z (of_each binders (all_blocks (normal_form p order))) ≡ times z (of_nodes K.binders (all_nodes p))
  binders-same p order proper =
      times-blocks z binders (all_blocks (normal_form p order))
      ∙ whole-sum BindsIt (λ f. times z (K.binders f)) bound_by (record { bind = λ y op b. refl; close = λ xs ls b. refl }) binds_agrees p order proper
      ∙ sym (times-nodes z K.binders (all_nodes p))

module _ (l : ℕ) where
  abbrev Stands : Block → ℕ
  Stands b = times l (standing_at b)

  stands_plain : IsPlain Stands (λ f. times l (K.standing_at f)) (λ k. 0) (λ op. times l (N.closed_by op))
  stands_plain = record {
    own_is = own_is;
    at_end = refl;
    value = λ n. refl;
    other = none;
    other_form = none_form;
    lambda = λ i. refl;
    new_cell = λ n e. refl;
    names = λ xs es e. none_bound xs;
    close = λ xs ls e. refl;
  }
    where
      own_is : (k : Option ℕ) (op : Op) → own Stands k op ≡ 0 + times l (N.closed_by op)
      own_is None op = let a = times-append l (N.closed_by op) [] in omega arith
      own_is (Some y) op = let a = times-append l (N.closed_by op) [] in omega arith

      none : (op : Op) → IsOther op → times l (N.closed_by op) ≡ 0
      none (A.Close i) h = absurd h
      none op h = refl

      none_form : (f : Form) → IsOtherForm f → times l (K.standing_at f) ≡ 0
      none_form (Lambda i) h = absurd h
      none_form (Letrec xs ls e) h = absurd h
      none_form f h = refl

      none_bound : (xs : List ℕ) → 0 ≡ bound_to (λ k. 0) xs
      none_bound [] = refl
      none_bound (y ∷ xs) = let h = none_bound xs in omega arith

  pub body-standing : (p : ProgramTree) (order : List Line) → Every (ProperNode (context_of p order) Any) (all_nodes p) →
      (n : ℕ) (e : Tree) → Every (ProperNode (context_of p order) Any) (nodes e) →
      times l (of_each standing_at (blocks (block_of (line_of order) n e AtEnd))) ≡ times l (of_nodes K.standing_at (nodes e))
  body-standing p order proper n e h =
      times-blocks l standing_at (blocks (block_of (line_of order) n e AtEnd))
      ∙ body-sum Stands (λ f. times l (K.standing_at f)) (λ k. 0) (record { bind = λ y op b. refl; close = λ xs ls b. refl }) (plain-agrees Stands _ (λ k. 0) _ stands_plain) p order proper n e h
      ∙ sym (times-nodes l K.standing_at (nodes e))

  pub standing-same : (p : ProgramTree) (order : List Line) → Every (ProperNode (context_of p order) Any) (all_nodes p) →
      times l (of_each standing_at (all_blocks (normal_form p order))) ≡ times l (of_nodes K.standing_at (all_nodes p))
  standing-same p order proper =
      times-blocks l standing_at (all_blocks (normal_form p order))
      ∙ whole-sum Stands (λ f. times l (K.standing_at f)) (λ k. 0) (record { bind = λ y op b. refl; close = λ xs ls b. refl }) (plain-agrees Stands _ (λ k. 0) _ stands_plain) p order proper
      ∙ sym (times-nodes l K.standing_at (all_nodes p))
