-- What stands before the next node, as the walk over the nodes of a text makes it.
use Rattle.std.proofs.Common.{◌≡◌, refl, sym, ap, ◌∙◌, ℕ, suc, Bool, ◌+◌, ◌<◌, List, [], ◌∷◌, ◌++◌, map, length, slice_set, Option, Some, None, append_assoc, append-nil, length-append, length-set, arith}
use Rattle.std.proofs.lemmas.Grind.{common_steps}
use Rattle.std.proofs.lemmas.List.{length-map, map-set, set_at}
use Rattle.tb_prim.specs.declared.place.Place.{Place}
use Rattle.tb_prim.specs.declared.constant.Const.{Const}
use Rattle.tb_prim.specs.declared.constant.GlobalName.{GlobalName}
use Rattle.tb_prim.specs.declared.constant.Static.{Static}
use Rattle.tb_prim.specs.declared.primitive.Primitive.{Primitive}
use Rattle.tb_sexp.specs.Tree as datum
use Rattle.tb_core.specs.Tree as core
use Rattle.tb_core.specs.Tree.{LambdaTree}
use Rattle.tb_core.specs.declared.expr.Expr.{Expr}
use Rattle.tb_core.specs.declared.program.Lambda.{Lambda as LambdaCode}
use Rattle.tb_core.specs.View.{trees, view, view_lambda, plain_program}
use Rattle.tb_core.proofs.Views.{viewed}
use Rattle.tb_expand.specs.Numbers.{Tables, Before, behind_node, behind_nodes, behind_values, nodes_in, closures_in, closures, statics_in, statics_of, statics_of_all, nodes_of_all, nodes_of_values, closures_of_all, numbered_all, numbered_lambda, lambda_numbers, lambdas_of, lambdas_in, lambdas_of_all, lambdas_of_values, one_node, one_closure, variable_number, variable_numbers, option_number, global_number, placed_in, tables_of, program_of, global_name}
use Rattle.tb_expand.specs.Numbers as spec
use Rattle.tb_expand.specs.Trees.{Var, Node, At, Core, Constant, Unspecified, Undefined, Local, Global, Lambda, If, SetLocal, SetGlobal, DefGlobal, Let, Letrec, Seq, Call, PrimUse, Apply, Nodes, nil, cons}
use Rattle.tb_expand.specs.View.{nodes, text_of}
use Rattle.tb_expand.proofs.Views.{viewing}
use Rattle.tb_expand.specs.calls.Numbering.{Made, made_in, made, with_node, with_lambda, with_lambda_at, open_lambda, constant_of, with_constant, made_each, made_values, tree_in, tree, trees_each, next_lambda, next_node, value_numbers, so_far, nothing_made, view_tables}
use Rattle.tb_expand.specs.declared.numbers.tables.Tables.{Tables as TablesCode}
use Rattle.tb_expand.specs.declared.numbers.numbering.Numbering.{Numbering}
use Rattle.tb_expand.specs.declared.numbers.statics.Statics.{Statics}

abbrev pub whole : ℕ → ℕ → List Static → List LambdaTree → Made
whole n c s l = record { before = record { nodes = n; closures = c; statics = s }; lambdas = l }

same_made : {n m c d : ℕ} {s t : List Static} {l k : List LambdaTree} → n ≡ m → c ≡ d → s ≡ t → l ≡ k → whole n c s l ≡ whole m d t k
same_made p q r h = λ i. record { before = record { nodes = p i; closures = q i; statics = r i }; lambdas = h i }

-- one part after another
two_made : (n x y c u v : ℕ) (s : List Static) (l k j : List LambdaTree) → whole (n + (x + y)) (c + (u + v)) s (l ++ (k ++ j)) ≡ whole ((n + x) + y) ((c + u) + v) s ((l ++ k) ++ j)
two_made n x y c u v s l k j = same_made (omega arith) (omega arith) refl (sym (append_assoc l k j))

no_more : (m : Made) → whole (m.before.nodes + 0) (m.before.closures + 0) m.before.statics (m.lambdas ++ []) ≡ m
no_more m = same_made (omega arith) (omega arith) refl (append-nil m.lambdas)

-- several nodes
abbrev all_made : Tables → Made → Nodes → Made
all_made t m es = record { before = behind_nodes m.before es; lambdas = m.lambdas ++ lambdas_of_all t m.before es }

abbrev values_made : Tables → Made → Nodes → Made
values_made t m es = record { before = behind_values m.before es; lambdas = m.lambdas ++ lambdas_of_values t m.before es }

each_made : (t : Tables) (m : Made) (es : List Node) → all_made t m (nodes es) ≡ made_each t m es
unfolding made
each_made t m [] = no_more m
each_made t m (e ∷ es) =
    two_made m.before.nodes (spec.nodes e) (nodes_of_all (nodes es)) m.before.closures (closures e) (closures_of_all (nodes es)) _ m.lambdas (lambdas_of t m.before e) _
    ∙ each_made t (made t m e) es

one_value : (b : Before) (p : Place) (c : Core) → behind_values b (cons (At p c) nil) ≡ record { nodes = b.nodes + nodes_in c; closures = b.closures + closures_in c; statics = statics_in b.statics c }
one_value b p c =
    let n : b.nodes + (nodes_in c + 0) ≡ b.nodes + nodes_in c = omega arith in
    let k : b.closures + (closures_in c + 0) ≡ b.closures + closures_in c = omega arith in
    λ i. record { nodes = n i; closures = k i; statics = statics_in b.statics c }

each_value : (t : Tables) (m : Made) (es : List Node) → values_made t m (nodes es) ≡ made_values t m es
unfolding made_in
each_value t m [] = no_more m
each_value t m (At p c ∷ es) =
    two_made m.before.nodes (nodes_in c) (nodes_of_values (nodes es)) m.before.closures (closures_in c) (closures_of_all (nodes es)) _ m.lambdas (lambdas_in t m.before p c) _
    ∙ ap (λ (b : Before). whole ((m.before.nodes + nodes_in c) + nodes_of_values (nodes es)) ((m.before.closures + closures_in c) + closures_of_all (nodes es)) (statics_of_all (statics_in m.before.statics c) (nodes es)) ((m.lambdas ++ lambdas_in t m.before p c) ++ lambdas_of_values t b (nodes es))) (one_value m.before p c)
    ∙ each_value t (made_in t m p c) es

each_tree : (t : Tables) (m : Made) (es : List Node) → numbered_all t m.before (nodes es) ≡ trees (trees_each t m es)
unfolding made tree
each_tree t m [] = refl
each_tree t m (e ∷ es) = ap (λ r. core.more (spec.numbered t m.before e) r) (each_tree t (made t m e) es)

each_number : (t : Tables) (m : Made) (es : List Node) → lambda_numbers m.before.closures (nodes es) ≡ value_numbers t m es
unfolding made_in next_lambda
each_number t m [] = refl
each_number t m (At p c ∷ es) = ap (λ ns. m.before.closures ∷ ns) (each_number t (made_in t m p c) es)

-- a node with its numbers
pub tree-node : (t : Tables) (m : Made) (p : Place) (c : Core) → tree t m (At p c) ≡ core.Node p (next_node m) (tree_in t (with_node m) c)
unfolding tree tree_in next_node with_node
tree-node t m p c = refl

pub made-node : (t : Tables) (m : Made) (p : Place) (c : Core) → made t m (At p c) ≡ made_in t (with_node m) p c
unfolding made made_in with_node
made-node t m p c = same_made (omega arith) refl refl refl

-- the form of a node with its numbers, and what stands behind it
pub tree-constant : (t : Tables) (m : Made) (s : datum.Shape) → tree_in t m (Constant s) ≡ core.Quote (constant_of m s)
unfolding tree_in constant_of
tree-constant t m s = refl

pub made-constant : (t : Tables) (m : Made) (p : Place) (s : datum.Shape) → made_in t m p (Constant s) ≡ with_constant m s
unfolding made_in with_constant
made-constant t m p s = same_made (omega arith) (omega arith) refl (append-nil m.lambdas)

pub tree-unspecified : (t : Tables) (m : Made) → tree_in t m Unspecified ≡ core.Quote Const.Unspecified
unfolding tree_in
tree-unspecified t m = refl

pub made-unspecified : (t : Tables) (m : Made) (p : Place) → made_in t m p Unspecified ≡ m
unfolding made_in
made-unspecified t m p = no_more m

pub tree-undefined : (t : Tables) (m : Made) → tree_in t m Undefined ≡ core.Quote Const.Undefined
unfolding tree_in
tree-undefined t m = refl

pub made-undefined : (t : Tables) (m : Made) (p : Place) → made_in t m p Undefined ≡ m
unfolding made_in
made-undefined t m p = no_more m

pub tree-local : (t : Tables) (m : Made) (x : Var) → tree_in t m (Local x) ≡ core.Local (variable_number t x)
unfolding tree_in
tree-local t m x = refl

pub made-local : (t : Tables) (m : Made) (p : Place) (x : Var) → made_in t m p (Local x) ≡ m
unfolding made_in
made-local t m p x = no_more m

pub tree-global : (t : Tables) (m : Made) (g : List ℕ) → tree_in t m (Global g) ≡ core.Global (global_number t g)
unfolding tree_in
tree-global t m g = refl

pub made-global : (t : Tables) (m : Made) (p : Place) (g : List ℕ) → made_in t m p (Global g) ≡ m
unfolding made_in
made-global t m p g = no_more m

pub tree-lambda : (t : Tables) (m : Made) (xs : List Var) (r : Option Var) (e : Node) → tree_in t m (Lambda xs r e) ≡ core.Lambda (next_lambda m)
unfolding tree_in next_lambda
tree-lambda t m xs r e = refl

-- the place of a lambda expression among the others is kept until its body is numbered
pub made-lambda : (t : Tables) (m : Made) (p : Place) (xs : List Var) (r : Option Var) (e : Node) → length m.lambdas ≡ next_lambda m →
    made_in t m p (Lambda xs r e) ≡
    with_lambda_at (made t (with_lambda m (open_lambda p)) e) (next_lambda m)
    (record { place = p; formals = variable_numbers t xs; rest = option_number t r; body = tree t (with_lambda m (open_lambda p)) e })
unfolding made made_in with_lambda with_lambda_at next_lambda tree
made-lambda t m p xs r e h =
    let inner = lambdas_of t (one_closure m.before) e in
    let l = numbered_lambda t (one_closure m.before) p xs r e in
    same_made refl (omega arith) refl
    (sym (ap (λ ls. slice_set ls m.before.closures l) (append_assoc m.lambdas (open_lambda p ∷ []) inner) ∙ set_at m.lambdas (open_lambda p) inner l m.before.closures h))

pub inner-below : (t : Tables) (m : Made) (l : LambdaTree) (e : Node) → length m.lambdas ≡ next_lambda m → next_lambda m < length (made t (with_lambda m l) e).lambdas
unfolding made with_lambda next_lambda
inner-below t m l e h =
    let a = length-append (m.lambdas ++ (l ∷ [])) (lambdas_of t (one_closure m.before) e) in
    let b = length-append m.lambdas (l ∷ []) in
    omega (arith, a, b, h)

pub tree-if : (t : Tables) (m : Made) (a b c : Node) → tree_in t m (If a b c) ≡ core.If (tree t m a) (tree t (made t m a) b) (tree t (made t (made t m a) b) c)
unfolding tree_in tree made
tree-if t m a b c = refl

pub made-if : (t : Tables) (m : Made) (p : Place) (a b c : Node) → made_in t m p (If a b c) ≡ made t (made t (made t m a) b) c
unfolding made_in made
made-if t m p a b c =
    let k = made t m a in
    two_made m.before.nodes (spec.nodes a) (spec.nodes b + spec.nodes c) m.before.closures (closures a) (closures b + closures c) _ m.lambdas (lambdas_of t m.before a) _
    ∙ two_made k.before.nodes (spec.nodes b) (spec.nodes c) k.before.closures (closures b) (closures c) _ k.lambdas (lambdas_of t k.before b) _

pub tree-set_local : (t : Tables) (m : Made) (x : Var) (e : Node) → tree_in t m (SetLocal x e) ≡ core.SetLocal (variable_number t x) (tree t m e)
unfolding tree_in tree
tree-set_local t m x e = refl

pub made-set_local : (t : Tables) (m : Made) (p : Place) (x : Var) (e : Node) → made_in t m p (SetLocal x e) ≡ made t m e
unfolding made_in made
made-set_local t m p x e = refl

pub tree-set_global : (t : Tables) (m : Made) (q : Place) (g : List ℕ) (e : Node) → tree_in t m (SetGlobal q g e) ≡ core.SetGlobal (global_number t g) (tree t m e)
unfolding tree_in tree
tree-set_global t m q g e = refl

pub made-set_global : (t : Tables) (m : Made) (p q : Place) (g : List ℕ) (e : Node) → made_in t m p (SetGlobal q g e) ≡ made t m e
unfolding made_in made
made-set_global t m p q g e = refl

pub tree-def_global : (t : Tables) (m : Made) (g : List ℕ) (e : Node) → tree_in t m (DefGlobal g e) ≡ core.DefGlobal (global_number t g) (tree t m e)
unfolding tree_in tree
tree-def_global t m g e = refl

pub made-def_global : (t : Tables) (m : Made) (p : Place) (g : List ℕ) (e : Node) → made_in t m p (DefGlobal g e) ≡ made t m e
unfolding made_in made
made-def_global t m p g e = refl

pub tree-let : (t : Tables) (m : Made) (xs : List Var) (es : List Node) (e : Node) →
    tree_in t m (Let xs (nodes es) e) ≡ core.Let (variable_numbers t xs) (trees (trees_each t m es)) (tree t (made_each t m es) e)
unfolding tree_in tree
tree-let t m xs es e =
    ap (λ ds. core.Let (variable_numbers t xs) ds (spec.numbered t (behind_nodes m.before (nodes es)) e)) (each_tree t m es)
    ∙ ap (λ (k : Made). core.Let (variable_numbers t xs) (trees (trees_each t m es)) (spec.numbered t k.before e)) (each_made t m es)

pub made-let : (t : Tables) (m : Made) (p : Place) (xs : List Var) (es : List Node) (e : Node) → made_in t m p (Let xs (nodes es) e) ≡ made t (made_each t m es) e
unfolding made_in made
made-let t m p xs es e =
    two_made m.before.nodes (nodes_of_all (nodes es)) (spec.nodes e) m.before.closures (closures_of_all (nodes es)) (closures e) _ m.lambdas (lambdas_of_all t m.before (nodes es)) _
    ∙ ap (λ k. made t k e) (each_made t m es)

pub tree-letrec : (t : Tables) (m : Made) (xs : List Var) (es : List Node) (e : Node) →
    tree_in t m (Letrec xs (nodes es) e) ≡ core.Letrec (variable_numbers t xs) (value_numbers t m es) (tree t (made_values t m es) e)
unfolding tree_in tree
tree-letrec t m xs es e =
    ap (λ ns. core.Letrec (variable_numbers t xs) ns (spec.numbered t (behind_values m.before (nodes es)) e)) (each_number t m es)
    ∙ ap (λ (k : Made). core.Letrec (variable_numbers t xs) (value_numbers t m es) (spec.numbered t k.before e)) (each_value t m es)

pub made-letrec : (t : Tables) (m : Made) (p : Place) (xs : List Var) (es : List Node) (e : Node) → made_in t m p (Letrec xs (nodes es) e) ≡ made t (made_values t m es) e
unfolding made_in made
made-letrec t m p xs es e =
    two_made m.before.nodes (nodes_of_values (nodes es)) (spec.nodes e) m.before.closures (closures_of_all (nodes es)) (closures e) _ m.lambdas (lambdas_of_values t m.before (nodes es)) _
    ∙ ap (λ k. made t k e) (each_value t m es)

pub tree-seq : (t : Tables) (m : Made) (es : List Node) → tree_in t m (Seq (nodes es)) ≡ core.Seq (trees (trees_each t m es))
unfolding tree_in
tree-seq t m es = ap core.Seq (each_tree t m es)

pub made-seq : (t : Tables) (m : Made) (p : Place) (es : List Node) → made_in t m p (Seq (nodes es)) ≡ made_each t m es
unfolding made_in
made-seq t m p es = each_made t m es

pub tree-call : (t : Tables) (m : Made) (f : Node) (es : List Node) → tree_in t m (Call f (nodes es)) ≡ core.Call (tree t m f) (trees (trees_each t (made t m f) es))
unfolding tree_in tree made
tree-call t m f es = ap (λ ds. core.Call (spec.numbered t m.before f) ds) (each_tree t (made t m f) es)

pub made-call : (t : Tables) (m : Made) (p : Place) (f : Node) (es : List Node) → made_in t m p (Call f (nodes es)) ≡ made_each t (made t m f) es
unfolding made_in made
made-call t m p f es =
    two_made m.before.nodes (spec.nodes f) (nodes_of_all (nodes es)) m.before.closures (closures f) (closures_of_all (nodes es)) _ m.lambdas (lambdas_of t m.before f) _
    ∙ each_made t (made t m f) es

pub tree-prim : (t : Tables) (m : Made) (q : Primitive) (es : List Node) → tree_in t m (PrimUse q (nodes es)) ≡ core.PrimUse q (trees (trees_each t m es))
unfolding tree_in
tree-prim t m q es = ap (λ ds. core.PrimUse q ds) (each_tree t m es)

pub made-prim : (t : Tables) (m : Made) (p : Place) (q : Primitive) (es : List Node) → made_in t m p (PrimUse q (nodes es)) ≡ made_each t m es
unfolding made_in
made-prim t m p q es = each_made t m es

pub tree-apply : (t : Tables) (m : Made) (f l : Node) → tree_in t m (Apply f l) ≡ core.Apply (tree t m f) (tree t (made t m f) l)
unfolding tree_in tree made
tree-apply t m f l = refl

pub made-apply : (t : Tables) (m : Made) (p : Place) (f l : Node) → made_in t m p (Apply f l) ≡ made t (made t m f) l
unfolding made_in made
made-apply t m p f l =
    two_made m.before.nodes (spec.nodes f) (spec.nodes l) m.before.closures (closures f) (closures l) _ m.lambdas (lambdas_of t m.before f) _

pub ruleset tree_by_form = (tree-node, tree-constant, tree-unspecified, tree-undefined, tree-local, tree-global, tree-lambda, tree-if, tree-set_local, tree-set_global, tree-def_global, tree-let, tree-letrec, tree-seq, tree-call, tree-prim, tree-apply)

pub ruleset made_by_form = (made-node, made-constant, made-unspecified, made-undefined, made-local, made-global, made-if, made-set_local, made-set_global, made-def_global, made-let, made-letrec, made-seq, made-call, made-prim, made-apply)

pub ruleset numbering = (common_steps, arith, viewing, viewed, tree_by_form, made_by_form)

-- what was made, as the code keeps it
pub counted : (n : Numbering) → length (so_far n).lambdas ≡ next_lambda (so_far n)
unfolding so_far next_lambda
counted n = length-map n.lambdas.items view_lambda

pub opened : (l : LambdaCode) (p : Place) → l.place ≡ p → l.formals ≡ [] → l.rest ≡ None → view l.body ≡ core.Node p 0 (core.Quote Const.Unspecified) → view_lambda l ≡ open_lambda p
opened l p q f r e = λ i. record { place = q i; formals = f i; rest = r i; body = e i }

pub so_far-opened : (n : ℕ) (s : Statics) (ls ks : List LambdaCode) (l : LambdaCode) (p : Place) → ks ≡ ls ++ l ∷ [] → view_lambda l ≡ open_lambda p →
    whole n (length ks) s.objects.items (map view_lambda ks) ≡ with_lambda (whole n (length ls) s.objects.items (map view_lambda ls)) (open_lambda p)
unfolding with_lambda
so_far-opened n s ls ks l p h v =
    let a = ap length h ∙ length-append ls (l ∷ []) in
    same_made refl (omega (arith, a)) refl (ap (map view_lambda) h ∙ grind (arith, common_steps, v))

pub so_far-closed : (n k : ℕ) (s : Statics) (ls : List LambdaCode) (l : LambdaCode) →
    whole n (length (slice_set ls k l)) s.objects.items (map view_lambda (slice_set ls k l)) ≡ with_lambda_at (whole n (length ls) s.objects.items (map view_lambda ls)) k (view_lambda l)
unfolding with_lambda_at
so_far-closed n k s ls l = same_made refl (length-set ls k l) refl (map-set view_lambda ls k l)

pub so_far-size : (n : Numbering) → length (so_far n).lambdas ≡ length n.lambdas.items
unfolding so_far
so_far-size n = length-map n.lambdas.items view_lambda

-- the parts of a program, as the walks make them, are those of the definition
pub program_numbered : (library : Bool) (t : TablesCode) (n : Numbering) (es : List Node) (gs : List GlobalName) (ss : List Static) (ls : List LambdaCode) (fs : List Expr) →
    view_tables t ≡ tables_of (nodes es) → gs ≡ map (global_name library) (map text_of t.globals.keys) →
    so_far n ≡ made_each (view_tables t) nothing_made es → map view fs ≡ trees_each (view_tables t) nothing_made es →
    ss ≡ n.statics.objects.items → ls ≡ n.lambdas.items → plain_program gs ss ls fs ≡ program_of library (nodes es)
unfolding program_of so_far view_tables
program_numbered library t n es gs ss ls fs tables globals state forms objects lambdas =
    let u = tables_of (nodes es) in
    let whole_state = state ∙ ap (λ v. made_each v nothing_made es) tables ∙ sym (each_made u nothing_made es) in
    let g = globals ∙ ap (λ (v : Tables). map (global_name library) v.globals) tables in
    let s = objects ∙ ap (λ (m : Made). m.before.statics) whole_state in
    let l = ap (map view_lambda) lambdas ∙ ap (λ (m : Made). m.lambdas) whole_state in
    let f = ap trees (forms ∙ ap (λ v. trees_each v nothing_made es) tables) ∙ sym (each_tree u nothing_made es) in
    λ i. record { globals = g i; statics = s i; lambdas = l i; forms = f i }
