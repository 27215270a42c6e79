use Rattle.std.proofs.Common.{◌≡◌, ◌≤◌, length, take}
use Rattle.tb_expand.specs.Scopes.{binding}
use Rattle.tb_expand.specs.View.{older, view_name}
use Rattle.tb_expand.proofs.state.find_binding.Given as goal

abbrev pub invariant-loop-number : goal.invariant-loop-number
invariant-loop-number l = record {
  within : l.limit ≤ length l.scopes;
  same : binding (older (take l.limit l.scopes)) l.number (view_name l.name) ≡ binding (older l.scopes) l.fn.scope (view_name l.name);
}

abbrev pub decreases-loop-number : goal.decreases-loop-number
decreases-loop-number l = l.limit
