-- The rules of programs with cells hold under any greater limit.
use Rattle.std.proofs.Common.{ℕ, ◌<◌, ◌≤◌, List, [], ◌∷◌, arith}
use Rattle.tb_core.specs.Rules.{Every}
use Rattle.tb_ir.specs.Rules.{KeepsRules, NodeKeeps, all_nodes}
use Rattle.tb_ir.specs.Tree.{Tree, ProgramTree}

every-more : {X : Type 0} (P Q : X → Type 0) (xs : List X) → ((x : X) → P x → Q x) → Every P xs → Every Q xs
every-more P Q [] f h = tt
every-more P Q (x ∷ xs) f h = (f x h.0, every-more P Q xs f h.1)

node-more : (small large : ℕ) (p : ProgramTree) (e : Tree) → small ≤ large → NodeKeeps small p e → NodeKeeps large p e
node-more small large p e le h = record {
  small_site = let s = h.small_site in omega (arith, s, le);
  in_range = h.in_range;
  shaped = h.shaped;
  marks_are_operands = h.marks_are_operands;
  reads_cells = h.reads_cells;
  cells_are_operands = h.cells_are_operands;
}

pub rules-more : (small large : ℕ) (p : ProgramTree) → small ≤ large → KeepsRules small p → KeepsRules large p
rules-more small large p le h = record {
  bound_once = h.bound_once;
  small_variables = every-more (λ x. x < small) (λ x. x < large) _ (λ x lt. omega (arith, lt, le)) h.small_variables;
  in_scope = h.in_scope;
  lambdas_at_most_once = h.lambdas_at_most_once;
  lambdas_at_least_once = h.lambdas_at_least_once;
  inner_greater = h.inner_greater;
  sites_apart = h.sites_apart;
  few_nodes = let n = h.few_nodes in omega (arith, n, le);
  statics = h.statics;
  nodes = every-more (NodeKeeps small p) (NodeKeeps large p) (all_nodes p) (λ e k. node-more small large p e le k) h.nodes;
  forms = h.forms;
  bodies = h.bodies;
  lifted = h.lifted;
}
