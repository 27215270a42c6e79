-- What the walks over the nodes of a text keep: the tables, and what stands before the next node.
use Rattle.std.specs.Prelude.{ℕ, ◌+◌, List, [], ◌∷◌, ◌++◌, Option, Some, None, map, slice_set, length, bytes_eq}
use Rattle.tb_prim.specs.declared.place.Place.{Place}
use Rattle.tb_prim.specs.declared.constant.Const.{Const}
use Rattle.tb_sexp.specs.Tree as datum
use Rattle.tb_core.specs.Tree as core
use Rattle.tb_core.specs.Tree.{LambdaTree}
use Rattle.tb_core.specs.View as core_view
use Rattle.tb_expand.specs.declared.numbers.tables.Key.{Key}
use Rattle.tb_expand.specs.declared.numbers.numbering.Numbering.{Numbering as NumberingCode}
use Rattle.tb_expand.specs.declared.numbers.tables.Tables.{Tables as TablesCode}
use Rattle.tb_expand.specs.Numbers.{Tables, firsts_behind, variables_of, variables_in, globals_of, globals_in, Before, none_before, behind_node, nodes_in, closures_in, statics_in, numbered, numbered_in, variable_numbers, option_number, placed_in, lambdas_of, lambdas_in, one_node, one_closure}
use Rattle.tb_expand.specs.Trees.{Var, same_var, Node, At, Core}
use Rattle.tb_expand.specs.View.{text_of}

-- a key as the variable that it stands for
abbrev pub view_key : Key → Var
view_key k = record { scope = k.scope; name = record { text = k.text.now; alias = k.alias } }

-- the tables as those of the definition
unfoldable pub view_tables : TablesCode → Tables
view_tables t = record { variables = map view_key t.variables.keys; globals = map text_of t.globals.keys }

-- the tables behind these variables and globals
abbrev pub behind_names : Tables → List Var → List (List ℕ) → Tables
behind_names t xs gs = record { variables = firsts_behind same_var t.variables xs; globals = firsts_behind bytes_eq t.globals gs }

-- the tables behind a node, and behind nodes
unfoldable pub seen_in : Tables → Core → Tables
seen_in t c = behind_names t (variables_in c) (globals_in c)

unfoldable pub seen : Tables → Node → Tables
seen t e = behind_names t (variables_of e) (globals_of e)

unfoldable pub seen_variable : Tables → Var → Tables
seen_variable t x = behind_names t (x ∷ []) []

abbrev pub seen_variables : Tables → List Var → Tables
seen_variables t [] = t
seen_variables t (x ∷ xs) = seen_variables (seen_variable t x) xs

abbrev pub seen_option : Tables → Option Var → Tables
seen_option t None = t
seen_option t (Some x) = seen_variable t x

unfoldable pub seen_global : Tables → List ℕ → Tables
seen_global t g = behind_names t [] (g ∷ [])

abbrev pub seen_each : Tables → List Node → Tables
seen_each t [] = t
seen_each t (e ∷ es) = seen_each (seen t e) es

-- what stands before a node, with the lambda expressions that were numbered
pub record Made : Type 0 where
  pub before : Before
  pub lambdas : List LambdaTree

-- the same behind a node, and behind nodes
unfoldable pub made_in : Tables → Made → Place → Core → Made
made_in t m p c = record {
  before = record { nodes = m.before.nodes + nodes_in c; closures = m.before.closures + closures_in c; statics = statics_in m.before.statics c };
  lambdas = m.lambdas ++ lambdas_in t m.before p c;
}

unfoldable pub made : Tables → Made → Node → Made
made t m e = record { before = behind_node m.before e; lambdas = m.lambdas ++ lambdas_of t m.before e }

abbrev pub nothing_made : Made
nothing_made = record { before = none_before; lambdas = [] }

-- one node more
unfoldable pub with_node : Made → Made
with_node m = record { before = one_node m.before; lambdas = m.lambdas }

-- one lambda expression more
unfoldable pub with_lambda : Made → LambdaTree → Made
with_lambda m l = record { before = one_closure m.before; lambdas = m.lambdas ++ (l ∷ []) }

-- another lambda expression in the place of one
unfoldable pub with_lambda_at : Made → ℕ → LambdaTree → Made
with_lambda_at m n l = record { before = m.before; lambdas = slice_set m.lambdas n l }

-- a lambda expression whose body is not numbered yet
abbrev pub open_lambda : Place → LambdaTree
open_lambda p = record { place = p; formals = []; rest = None; body = core.Node p 0 (core.Quote Const.Unspecified) }

-- a lambda expression with its numbers
abbrev pub lambda_tree : Tables → Place → List Var → Option Var → core.Tree → LambdaTree
lambda_tree t p xs r e = record { place = p; formals = variable_numbers t xs; rest = option_number t r; body = e }

-- the constant of a quoted datum, and its objects more
unfoldable pub constant_of : Made → datum.Shape → Const
constant_of m s = (placed_in m.before.statics s).constant

unfoldable pub with_constant : Made → datum.Shape → Made
with_constant m s = record {
  before = record { nodes = m.before.nodes; closures = m.before.closures; statics = (placed_in m.before.statics s).statics };
  lambdas = m.lambdas;
}

abbrev pub made_each : Tables → Made → List Node → Made
made_each t m [] = m
made_each t m (e ∷ es) = made_each t (made t m e) es

-- lambda expressions that a `letrec` binds have no nodes of their own
abbrev pub made_value : Tables → Made → Node → Made
made_value t m (At p c) = made_in t m p c

abbrev pub made_values : Tables → Made → List Node → Made
made_values t m [] = m
made_values t m (e ∷ es) = made_values t (made_value t m e) es

-- a node with its numbers, where this stands before it
unfoldable pub tree_in : Tables → Made → Core → core.Form
tree_in t m c = numbered_in t m.before c

unfoldable pub tree : Tables → Made → Node → core.Tree
tree t m e = numbered t m.before e

abbrev pub trees_each : Tables → Made → List Node → List core.Tree
trees_each t m [] = []
trees_each t m (e ∷ es) = tree t m e ∷ trees_each t (made t m e) es

-- the number of the next lambda expression
unfoldable pub next_lambda : Made → ℕ
next_lambda m = m.before.closures

unfoldable pub next_node : Made → ℕ
next_node m = m.before.nodes

abbrev pub value_numbers : Tables → Made → List Node → List ℕ
value_numbers t m [] = []
value_numbers t m (e ∷ es) = next_lambda m ∷ value_numbers t (made_value t m e) es

-- what was made as the code keeps it
unfoldable pub so_far : NumberingCode → Made
so_far n = record {
  before = record { nodes = n.nodes; closures = length n.lambdas.items; statics = n.statics.objects.items };
  lambdas = map core_view.view_lambda n.lambdas.items;
}
