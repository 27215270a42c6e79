-- The nodes of a numbered program that have an order have different numbers.
use Rattle.std.proofs.Common.{◌≡◌, refl, sym, ap, ◌∙◌, ℕ, ◌+◌, ◌≤◌, arith, Bool, true, false, cond, List, [], ◌∷◌, ◌++◌, length, map}
use Rattle.std.proofs.lemmas.List.{map-append}
use Rattle.tb_prim.specs.declared.place.Place.{Place}
use Rattle.tb_semantics.specs.Graph.{IsApart}
use Rattle.tb_core.specs.Tree.{LambdaTree, Form}
use Rattle.tb_core.specs.FreeVariables.{is_assigned}
use Rattle.tb_core.specs.OperandOrder.{Line, has_order, own_line, lines_of_lambdas, lines, lines_form, lines_all, lambdas_lines, order_of}
use Rattle.tb_expand.specs.Trees.{Node, At, Core, Constant, Unspecified, Undefined, Local, Global, Lambda, If, SetLocal, SetGlobal, DefGlobal, Let, Letrec, Seq, Call, PrimUse, Apply, Nodes, nil, cons, is_lambda}
use Rattle.tb_expand.specs.Numbers.{Tables, Before, closures_in, nodes, nodes_in, nodes_of_all, nodes_of_values, lambda_numbers, behind_node, behind_nodes, behind_values, one_node, one_closure, numbered, numbered_in, numbered_all, numbered_lambda, lambdas_of, lambdas_in, lambdas_of_all, lambdas_of_values, tables_of, none_before, program_of}
use Rattle.tb_expand.specs.WellShaped.{AreLambdas, HasShape, HasShapeIn, HaveShape}
use Rattle.tb_expand.specs.Closed.{one_if, times}
use Rattle.tb_expand.proofs.Times.{times_joined, is_number, times_apart, past, past_here, past_more, past_least}
use Rattle.tb_expand.proofs.LambdaLookups.{Agrees, agrees_left, agrees_right, opened, whole}
use Rattle.tb_expand.proofs.StandingNumbers.{lambdas_counted, counted_in, all_counted, values_counted}

abbrev site_of : Line → ℕ
site_of l = l.site

module _ (a : ℕ → Bool) (x : ℕ) where
  abbrev own : (ℕ → List Line) → LambdaTree → List Line
  own inner l = lines a inner l.body

  abbrev looked : List LambdaTree → ℕ → ℕ → List Line
  looked ls first l = lambdas_lines a ls first l

  abbrev Looks : (ℕ → List Line) → ℕ → List LambdaTree → Type 0
  Looks inner first ls = Agrees own looked (λ m ms first l. refl) inner first ls

  left : (inner : ℕ → List Line) (first : ℕ) (ls ms : List LambdaTree) → Looks inner first (ls ++ ms) → Looks inner first ls
  left inner first ls ms k = agrees_left own looked (λ m ms first l. refl) inner first ls ms k

  right : (inner : ℕ → List Line) (first n : ℕ) (ls ms : List LambdaTree) → n ≡ first + length ls → Looks inner first (ls ++ ms) → Looks inner n ms
  right inner first n ls ms q k = agrees_right own looked (λ m ms first l. refl) inner first n ls ms q k

  -- how many of the lines have this number
  abbrev sites : List Line → ℕ
  sites ls = times (is_number x) (map site_of ls)

  sites_joined : (ls ms : List Line) → sites (ls ++ ms) ≡ sites ls + sites ms
  sites_joined ls ms = ap (times (is_number x)) (map-append site_of ls ms) ∙ times_joined (is_number x) (map site_of ls) (map site_of ms)

  own_site_by : (p : Place) (s : ℕ) (o : List ℕ) (b : Bool) → sites (cond b (record { place = p; site = s; order = o } ∷ []) []) ≤ one_if (is_number x s)
  own_site_by p s o true = omega arith
  own_site_by p s o false = omega arith

  own_site : (p : Place) (s : ℕ) (f : Form) → sites (own_line a p s f) ≤ one_if (is_number x s)
  own_site p s f = own_site_by p s _ (has_order f)

  value_lines : (t : Tables) (b : Before) (inner : ℕ → List Line) (p : Place) (c : Core) → is_lambda (At p c) ≡ true → lines_form a inner (numbered_in t b c) ≡ inner b.closures
  value_lines t b inner p (Lambda xs r e) h = refl
  value_lines t b inner p c h = absurd cc

  mutual
    node_sites : (t : Tables) (b : Before) (e : Node) (inner : ℕ → List Line) (m : ℕ) → m ≡ b.nodes + nodes e → HasShape e → Looks inner b.closures (lambdas_of t b e) → sites (lines a inner (numbered t b e)) + past x m ≤ past x b.nodes
    node_sites t b (At p c) inner m q h k =
        let i = form_sites t (one_node b) p c inner m (omega arith) h k in
        let j = own_site p b.nodes (numbered_in t (one_node b) c) in
        let o = past_here x b.nodes (b.nodes + 1) refl in
        let u = sites_joined (own_line a p b.nodes (numbered_in t (one_node b) c)) (lines_form a inner (numbered_in t (one_node b) c)) in
        omega arith

    form_sites : (t : Tables) (b : Before) (p : Place) (c : Core) (inner : ℕ → List Line) (m : ℕ) → m ≡ b.nodes + nodes_in c → HasShapeIn c → Looks inner b.closures (lambdas_in t b p c) → sites (lines_form a inner (numbered_in t b c)) + past x m ≤ past x b.nodes
    form_sites t b p (Constant s) inner m q h k = let z = past_more x b.nodes m (omega arith) in omega arith
    form_sites t b p Unspecified inner m q h k = let z = past_more x b.nodes m (omega arith) in omega arith
    form_sites t b p Undefined inner m q h k = let z = past_more x b.nodes m (omega arith) in omega arith
    form_sites t b p (Local v) inner m q h k = let z = past_more x b.nodes m (omega arith) in omega arith
    form_sites t b p (Global g) inner m q h k = let z = past_more x b.nodes m (omega arith) in omega arith
    form_sites t b p (Lambda xs r e) inner m q h k =
        let o = opened own looked (λ m ms first l. refl) inner b.closures (b.closures + 1) (numbered_lambda t (one_closure b) p xs r e) (lambdas_of t (one_closure b) e) refl k in
        let i = node_sites t (one_closure b) e o.behind m q h o.agrees in
        let j = ap sites o.first_is in
        omega arith
    form_sites t b p (If c d e) inner m q h k =
        let b2 = behind_node b c in
        let b3 = behind_node b2 d in
        let lc = lambdas_of t b c in
        let ld = lambdas_of t b2 d in
        let le = lambdas_of t b3 e in
        let kr = right inner b.closures b2.closures lc (ld ++ le) (ap (λ n. b.closures + n) (sym (lambdas_counted t b c))) k in
        let i = node_sites t b c inner b2.nodes refl h.0 (left inner b.closures lc (ld ++ le) k) in
        let j = node_sites t b2 d inner b3.nodes refl h.1 (left inner b2.closures ld le kr) in
        let l = node_sites t b3 e inner m (omega arith) h.2 (right inner b2.closures b3.closures ld le (ap (λ n. b2.closures + n) (sym (lambdas_counted t b2 d))) kr) in
        let u = sites_joined (lines a inner (numbered t b c)) (lines a inner (numbered t b2 d) ++ lines a inner (numbered t b3 e)) in
        let v = sites_joined (lines a inner (numbered t b2 d)) (lines a inner (numbered t b3 e)) in
        omega arith
    form_sites t b p (SetLocal v e) inner m q h k = node_sites t b e inner m q h k
    form_sites t b p (SetGlobal g v e) inner m q h k = node_sites t b e inner m q h k
    form_sites t b p (DefGlobal g e) inner m q h k = node_sites t b e inner m q h k
    form_sites t b p (Let xs es e) inner m q h k =
        let b2 = behind_nodes b es in
        let i = all_sites t b es inner b2.nodes refl h.1 (left inner b.closures (lambdas_of_all t b es) (lambdas_of t b2 e) k) in
        let j = node_sites t b2 e inner m (omega arith) h.2 (right inner b.closures b2.closures (lambdas_of_all t b es) (lambdas_of t b2 e) (ap (λ n. b.closures + n) (sym (all_counted t b es))) k) in
        let u = sites_joined (lines_all a inner (numbered_all t b es)) (lines a inner (numbered t b2 e)) in
        omega arith
    form_sites t b p (Letrec xs es e) inner m q h k =
        let b2 = behind_values b es in
        let i = values_sites t b es inner b2.nodes refl h.1 h.2 (left inner b.closures (lambdas_of_values t b es) (lambdas_of t b2 e) k) in
        let j = node_sites t b2 e inner m (omega arith) h.3 (right inner b.closures b2.closures (lambdas_of_values t b es) (lambdas_of t b2 e) (ap (λ n. b.closures + n) (sym (values_counted t b es))) k) in
        let u = sites_joined (lines_of_lambdas inner (lambda_numbers b.closures es)) (lines a inner (numbered t b2 e)) in
        omega arith
    form_sites t b p (Seq es) inner m q h k = all_sites t b es inner m q h.1 k
    form_sites t b p (Call f es) inner m q h k =
        let b2 = behind_node b f in
        let i = node_sites t b f inner b2.nodes refl h.0 (left inner b.closures (lambdas_of t b f) (lambdas_of_all t b2 es) k) in
        let j = all_sites t b2 es inner m (omega arith) h.1 (right inner b.closures b2.closures (lambdas_of t b f) (lambdas_of_all t b2 es) (ap (λ n. b.closures + n) (sym (lambdas_counted t b f))) k) in
        let u = sites_joined (lines a inner (numbered t b f)) (lines_all a inner (numbered_all t b2 es)) in
        omega arith
    form_sites t b p (PrimUse g es) inner m q h k = all_sites t b es inner m q h.1 k
    form_sites t b p (Apply f l) inner m q h k =
        let b2 = behind_node b f in
        let i = node_sites t b f inner b2.nodes refl h.0 (left inner b.closures (lambdas_of t b f) (lambdas_of t b2 l) k) in
        let j = node_sites t b2 l inner m (omega arith) h.1 (right inner b.closures b2.closures (lambdas_of t b f) (lambdas_of t b2 l) (ap (λ n. b.closures + n) (sym (lambdas_counted t b f))) k) in
        let u = sites_joined (lines a inner (numbered t b f)) (lines a inner (numbered t b2 l)) in
        omega arith

    all_sites : (t : Tables) (b : Before) (es : Nodes) (inner : ℕ → List Line) (m : ℕ) → m ≡ b.nodes + nodes_of_all es → HaveShape es → Looks inner b.closures (lambdas_of_all t b es) → sites (lines_all a inner (numbered_all t b es)) + past x m ≤ past x b.nodes
    all_sites t b nil inner m q h k = let z = past_more x b.nodes m (omega arith) in omega arith
    all_sites t b (cons e es) inner m q h k =
        let b2 = behind_node b e in
        let i = node_sites t b e inner b2.nodes refl h.0 (left inner b.closures (lambdas_of t b e) (lambdas_of_all t b2 es) k) in
        let j = all_sites t b2 es inner m (omega arith) h.1 (right inner b.closures b2.closures (lambdas_of t b e) (lambdas_of_all t b2 es) (ap (λ n. b.closures + n) (sym (lambdas_counted t b e))) k) in
        let u = sites_joined (lines a inner (numbered t b e)) (lines_all a inner (numbered_all t b2 es)) in
        omega arith

    values_sites : (t : Tables) (b : Before) (es : Nodes) (inner : ℕ → List Line) (m : ℕ) → m ≡ b.nodes + nodes_of_values es → AreLambdas es → HaveShape es → Looks inner b.closures (lambdas_of_values t b es) → sites (lines_of_lambdas inner (lambda_numbers b.closures es)) + past x m ≤ past x b.nodes
    values_sites t b nil inner m q l h k = let z = past_more x b.nodes m (omega arith) in omega arith
    values_sites t b (cons (At p c) es) inner m q l h k =
        let b2 = behind_values b (cons (At p c) nil) in
        let n = counted_in t b p c in
        let i = form_sites t b p c inner b2.nodes (omega arith) h.0 (left inner b.closures (lambdas_in t b p c) (lambdas_of_values t b2 es) k) in
        let j = values_sites t b2 es inner m (omega arith) l.1 h.1 (right inner b.closures b2.closures (lambdas_in t b p c) (lambdas_of_values t b2 es) (omega arith) k) in
        let f = ap sites (value_lines t b inner p c l.0) in
        let g = ap (λ k. sites (lines_of_lambdas inner (lambda_numbers k es))) (same_behind b c) in
        let u = sites_joined (inner b.closures) (lines_of_lambdas inner (lambda_numbers (b.closures + closures_in c) es)) in
        omega arith
      where
        same_behind : (b : Before) (c : Core) → b.closures + closures_in c ≡ b.closures + (closures_in c + 0)
        same_behind b c = omega arith

sites_once : (library : Bool) (es : Nodes) (x : ℕ) → HaveShape es → times (is_number x) (map site_of (order_of (program_of library es))) ≤ 1
unfolding program_of
sites_once library es x h =
    let a = is_assigned (program_of library es) in
    let ls = lambdas_of_all (tables_of es) none_before es in
    let k = all_sites a x (tables_of es) none_before es (lambdas_lines a ls 0) (nodes_of_all es) (omega arith) h (whole (own a x) (looked a x) (λ m ms first l. refl) ls) in
    let o = past_least x 0 in
    omega arith

pub sites_apart : (library : Bool) (es : Nodes) → HaveShape es → IsApart (map (λ (l : Line). l.site) (order_of (program_of library es)))
sites_apart library es h = times_apart (map site_of (order_of (program_of library es))) (λ x. sites_once library es x h)
