use Rattle.std.proofs.Common.{◌≤◌, length, min, arith}
use Rattle.tb_generate.specs.calls.Bodies.{body_at}
use Rattle.tb_generate.proofs.Makes.{writes-end}
use Rattle.tb_generate.proofs.groups.put_writes.Goals as goal

pub returns : goal.returns
returns c =
    let past = c.loop-index-test.false in
    let least = c.min-index-end.ensures in
    let le : min (length c.args.variables.now) (length c.args.lambdas.now) ≤ c.loop-index.index = omega (arith, past, least) in
    writes-end (body_at c.args.body) _ c.args.variables.now c.args.lambdas.now _ _ _ le c.loop-index.invariant
